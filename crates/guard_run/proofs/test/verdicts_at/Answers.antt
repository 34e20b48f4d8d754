use Rattle.std.proofs.Common.{◌≡◌, IfOk, ap₂, false, subst, sym, ◌∙◌}
use Rattle.doc_values.specs.Places.{tree_at}
use Rattle.doc_values.specs.Tree.{Forest}
use Rattle.rule_meaning.specs.FunctionMeaning.{IsAnswering}
use Rattle.rule_meaning.specs.Values.{has_pattern}
use Rattle.evidence_report.proofs.TakenTexts.{none-at-exit}
use Rattle.guard_ends.specs.Reported.{verdicts_of, world_over}
use Rattle.guard_inputs.specs.code.Tests.{rules_of}
use Rattle.guard_inputs.proofs.Plainness.{part-plain}
use Rattle.guard_run.proofs.test.verdicts_at.Goals as goal

pub verdicts_over-requires-clause-plain : goal.verdicts_over-requires-clause-plain
verdicts_over-requires-clause-plain c =
    let tests = c.args.ready.now.tests.now in
    let copied = c.in_ok-tree.ensures ∙ ap₂ tree_at c.cursor.ensures.doc c.cursor.ensures.id in
    subst (λ (t : Forest). has_pattern t ≡ false) (sym copied) (part-plain tests.tree c.args.input tests.plain)

pub returns-in_err-tree : goal.returns-in_err-tree
returns-in_err-tree c answers obey = none-at-exit _ c.from_residual.result c.in_err-tree.field-0.0 c.from_residual.ensures.1

pub returns : goal.returns
returns c answers obey =
    let rules = rules_of c.args.ready.now.tests.now in
    let copied = c.in_ok-tree.ensures ∙ ap₂ tree_at c.cursor.ensures.doc c.cursor.ensures.id in
    subst (λ (t : Forest). IfOk c.verdicts_over.result (λ verdicts. verdicts.items ≡ verdicts_of (world_over rules t answers))) copied
    (c.verdicts_over.ensures answers (subst (λ (t : Forest). IsAnswering (world_over rules t answers)) (sym copied) obey))
