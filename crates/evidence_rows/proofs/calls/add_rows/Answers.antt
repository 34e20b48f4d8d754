use Rattle.std.proofs.Common.{◌++◌, [], ◌∷◌, List, map, ap, ◌∙◌}
use Rattle.std.proofs.lemmas.List.{map-append}
use Rattle.guard_builtins.specs.code.Seen.{see_rows}
use Rattle.guard_syntax.specs.declared.row.Row.{Row}
use Rattle.evidence_rows.proofs.calls.add_rows.Goals as goal

pub returns : goal.returns
returns c =
    ap (map see_rows) c.in_ok-push.ensures.items ∙ map-append see_rows c.args.all.now.items (c.in_ok-to_vec.field-0 ∷ [])
    ∙ ap (λ (rows : List Row). map see_rows c.args.all.now.items ++ rows ∷ []) c.in_ok-to_vec.ensures
