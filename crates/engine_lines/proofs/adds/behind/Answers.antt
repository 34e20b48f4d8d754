use Rattle.std.proofs.Common.{◌∙◌, ◌++◌, ◌∷◌, [], ℕ, List, ap}
use Rattle.engine_lines.proofs.adds.behind.Goals as goal

pub returns : goal.returns
returns c =
    c.in_ok-append.ensures.items ∙ ap (λ (ns : List ℕ). ns ++ c.args.lines.items) (c.in_ok-push.ensures.items ∙ ap (λ (ns : List ℕ). ns ++ c.args.first ∷ []) c.new-all.ensures.items)
