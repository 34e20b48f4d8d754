use Rattle.std.proofs.Common.{◌∙◌, ap, ℕ, false, replicate}
use Rattle.reference_graph.proofs.reach.no_marks.Goals as goal

pub returns : goal.returns
returns c = c.in_ok-vec.ensures.items_if_clones_equal (λ y h. h) ∙ ap (λ (n : ℕ). replicate n false) c.count.ensures.count
