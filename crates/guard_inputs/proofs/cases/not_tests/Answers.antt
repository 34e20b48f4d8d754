use Rattle.std.proofs.Common.{None, Some, ap, refl, string_bytes, subst}
use Rattle.guard_testfile.specs.Refusals.{RefusesTests}
use Rattle.guard_testfile.specs.declared.refusal.TestRefusal.TheVariants as test_refusal
use Rattle.guard_ends.specs.Order.{Ends}
use Rattle.guard_ends.specs.declared.ends.Refusal.TheVariants.{At}
use Rattle.guard_ends.specs.declared.ends.RefusalKind.TheVariants.{NoSuchRule, TestShape}
use Rattle.guard_ends.specs.declared.ends.Which.TheVariants as file
use Rattle.guard_inputs.proofs.cases.not_tests.Goals as goal

pub returns-in-TestShape : goal.returns-in-TestShape
returns-in-TestShape c rules tree refused =
    let at = c.in-TestShape.at in (
      At file.Tests TestShape at None,
      (test_refusal.TestShape at, refl, subst (λ r. RefusesTests rules tree r) c.in-TestShape.is refused),
      ap Ends c.data_at.ensures,
    )

pub returns-in-Ok : goal.returns-in-Ok
returns-in-Ok c rules tree refused =
    let name = c.in-NoSuchRule.name in
    let at = c.in-NoSuchRule.at in (
      At file.Tests NoSuchRule at (Some (string_bytes name)),
      (test_refusal.NoSuchRule name at, refl, subst (λ r. RefusesTests rules tree r) c.in-NoSuchRule.is refused),
      ap Ends (rw c.as_bytes.ensures.value at c.in-Ok.ensures),
    )
