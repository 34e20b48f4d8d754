use Rattle.std.proofs.Common.{◌++◌, ◌∙◌, ◌+◌, ◌≡◌, List, ℕ, suc, ap, append_assoc, arith}
use Rattle.std.specs.Prelude.{codes}
use Rattle.guard_drill.specs.DrillTexts.{resource, resources, separator}
use Rattle.guard_drill.proofs.template.drill_template.Goals as goal

pub loop-number-preserved : goal.loop-number-preserved
loop-number-preserved c =
    let n = c.loop-number.number in
    let next : suc n ≡ n + 1 = omega arith in
    c.in_ok-push_resource.ensures
    ∙ ap (λ (text : List ℕ). text ++ resource n) (c.in_ok-push_separator.ensures ∙ ap (λ (text : List ℕ). text ++ separator n) c.loop-number.invariant)
    ∙ append_assoc (codes "{\"Resources\":{" ++ resources n) (separator n) (resource n)
    ∙ append_assoc (codes "{\"Resources\":{") (resources n) (separator n ++ resource n)
    ∙ ap (λ (k : ℕ). codes "{\"Resources\":{" ++ resources k) next
