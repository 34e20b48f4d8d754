use Rattle.std.proofs.lemmas.Grind.{common_steps}
use Rattle.std.proofs.Common.{ap, ◌∙◌, arith}
use Rattle.guard_lexer.specs.code.Reach.{name_step}
use Rattle.guard_lexer.proofs.NameSteps.{name_turn}
use Rattle.guard_lexer.proofs.extent.name_len.Goals as goal

pub loop-at-preserved : goal.loop-at-preserved
loop-at-preserved c =
    let i = c.loop-at.invariant in
    name_turn c.args.bytes.now c.loop-at.at c.name_step-step.result c.loop-at.typed c.was_typed-typed.result i.0 (c.name_step-step.ensures ∙ ap name_step c.split_at.ensures.back) c.was_typed-typed.ensures i.1 i.2

pub overflow_add-at : goal.overflow_add-at
overflow_add-at c = grind (arith, common_steps)

pub returns-clause-reach : goal.returns-clause-reach
returns-clause-reach c = grind (arith, common_steps)

pub returns-clause-typed : goal.returns-clause-typed
returns-clause-typed c = grind (arith, common_steps)

pub returns-then-step-eq0-clause-reach : goal.returns-then-step-eq0-clause-reach
returns-then-step-eq0-clause-reach c = grind (arith, common_steps)
