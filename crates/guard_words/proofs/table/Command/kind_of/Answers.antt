use Rattle.std.proofs.Common.{◌≡◌, Option, Some, None, option_map, refl, ap, ◌∙◌}
use Rattle.std.specs.Str.{bytes_eq}
use Rattle.clap.proofs.WalkLemmas.{find-map}
use Rattle.guard_words.specs.declared.table.OptionRow.{OptionRow}
use Rattle.guard_words.specs.Request.{Row, kind_in}
use Rattle.guard_words.specs.code.Reading.{row_text}
use Rattle.guard_words.proofs.table.Command.kind_of.Goals as goal

same_kind : (o : Option OptionRow) → option_map (λ r. r.kind) o ≡ option_map (λ (r : Row). r.kind) (option_map row_text o)
same_kind None = refl
same_kind (Some r) = refl

pub returns : goal.returns
returns c =
    c.kind_among.ensures ∙ same_kind _
    ∙ ap (option_map (λ (r : Row). r.kind)) (find-map (λ (r : Row). bytes_eq r.name c.args.name.now) row_text c.options.result.now)
    ∙ ap (λ table. kind_in table c.args.name.now) c.options.ensures
