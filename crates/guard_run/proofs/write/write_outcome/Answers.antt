use Rattle.std.proofs.Common.{subst}
use Rattle.guard_ends.specs.Order.{ComesTo}
use Rattle.guard_run.specs.code.Outcome.{IsOutcomeBy}
use Rattle.guard_run.proofs.write.write_outcome.Goals as goal

pub returns-in-Ok-clause-closed : goal.returns-in-Ok-clause-closed
returns-in-Ok-clause-closed g c = λ words told old new end.
    c.write_done.ensures.closed words told old new (subst (λ o. IsOutcomeBy (ComesTo words told) old new o) c.in-Ok.is end)

pub returns-in-Err-clause-closed : goal.returns-in-Err-clause-closed
returns-in-Err-clause-closed g c = λ words told old new end.
    c.write_stop.ensures.closed words told (record { read = old; out = g.O.Sink.faults c.args.out.now }) (record { read = new; out = g.O.Sink.faults c.args.out.now })
    (g.O.Sink.told c.args.out.now) (subst (λ o. IsOutcomeBy (ComesTo words told) old new o) c.in-Err.is end)

pub returns-in-Err-clause-out_fault : goal.returns-in-Err-clause-out_fault
returns-in-Err-clause-out_fault g c = λ is. absurd (c.write_stop.ensures.no_out_fault is)
