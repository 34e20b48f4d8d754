use Rattle.guard_ends.specs.declared.ends.Which.{Which}
use Rattle.guard_ends.specs.declared.ends.Refusal.{Refusal}
use Rattle.guard_ends.specs.declared.ends.Pipe.TheVariants.{Err}
use Rattle.std.proofs.Common.{inl, inr, refl, [], subst, ◌≢◌}
use Rattle.guard_ends.specs.End.{Unread, Unmade, Took}
use Rattle.guard_ends.specs.Lines.{usage_line, read_fault_line, pattern_line}
use Rattle.guard_ends.specs.Order.{ComesTo, EndOf, usage}
use Rattle.guard_ends.specs.declared.ends.End.TheVariants as end_is
use Rattle.guard_inputs.specs.code.Refusals.{bytes_of, said}
use Rattle.guard_inputs.specs.declared.refused.Refused.{Refused}
use Rattle.guard_run.specs.code.Outcome.{IsStopBy}
use Rattle.guard_run.specs.code.Writing.{Said}
use Rattle.guard_run.proofs.Closing.{Took-nothing, Closed-said, Closed-memory}
use Rattle.guard_run.proofs.write.write_stop.Goals as goal

pub returns-in-Usage-clause-closed : goal.returns-in-Usage-clause-closed
returns-in-Usage-clause-closed g c = λ words told before after out end.
    let ends : EndOf words told usage = subst (λ s. IsStopBy (ComesTo words told) before.read after.read s) c.in-Usage.is end in
    let none : Took out out [] = Took-nothing out in
    Closed-said words told before after usage_line end_is.Usage c.say.result
    out out (g.E.Sink.told c.args.err.now) (g.E.Sink.told c.say.new.err) []
    (λ some. inl (usage, ends, some, refl, refl)) none (λ whole. (usage, ends, refl, none, whole)) c.say.ensures.said

pub returns-in-Refused-clause-closed : goal.returns-in-Refused-clause-closed
returns-in-Refused-clause-closed g c = λ words told before after out end.
    let r : Refused = c.in-Refused.field-0 in
    let ends : EndOf words told (said r) = subst (λ s. IsStopBy (ComesTo words told) before.read after.read s) c.in-Refused.is end in
    let none : Took out out [] = Took-nothing out in
    let tried : Said (bytes_of r.line) (end_is.Refused r.refusal) c.say-in-Refused.result
    (g.E.Sink.told c.args.err.now) (g.E.Sink.told c.say-in-Refused.new.err) = rw c.as_bytes.ensures at c.say-in-Refused.ensures.said in
    Closed-said words told before after (bytes_of r.line) (end_is.Refused r.refusal) c.say-in-Refused.result
    out out (g.E.Sink.told c.args.err.now) (g.E.Sink.told c.say-in-Refused.new.err) []
    (λ some. inl (said r, ends, some, refl, refl)) none (λ whole. (said r, ends, refl, none, whole)) tried

pub returns-in-Unread-clause-closed : goal.returns-in-Unread-clause-closed
returns-in-Unread-clause-closed g c = λ words told before after out end.
    let which = c.in-Unread.which in
    let loads : Unread words told before.read.files after.read.files which =
    subst (λ s. IsStopBy (ComesTo words told) before.read after.read s) c.in-Unread.is end in
    let none : Took out out [] = Took-nothing out in
    let tried : Said (read_fault_line which) (end_is.ReadFault which) c.say-in-Unread.result
    (g.E.Sink.told c.args.err.now) (g.E.Sink.told c.say-in-Unread.new.err) = rw (c.as_bytes-in-Unread.ensures.value, c.read_fault_text.ensures) at c.say-in-Unread.ensures.said in
    Closed-said words told before after (read_fault_line which) (end_is.ReadFault which) c.say-in-Unread.result
    out out (g.E.Sink.told c.args.err.now) (g.E.Sink.told c.say-in-Unread.new.err) []
    (λ some. inr (inl (which, loads, refl, refl))) none (λ whole. (loads, (none, whole))) tried

pub returns-in-Unmade-clause-closed : goal.returns-in-Unmade-clause-closed
returns-in-Unmade-clause-closed g c = λ words told before after out end.
    let unmade : Unmade words told before.read.patterns after.read.patterns =
    subst (λ s. IsStopBy (ComesTo words told) before.read after.read s) c.in-Unmade.is end in
    let none : Took out out [] = Took-nothing out in
    Closed-said words told before after pattern_line end_is.PatternRefused c.say-in-Unmade.result
    out out (g.E.Sink.told c.args.err.now) (g.E.Sink.told c.say-in-Unmade.new.err) []
    (λ some. inr (inr (inl (unmade, refl, refl)))) none (λ whole. (unmade, (none, whole))) c.say-in-Unmade.ensures.said

pub returns-in-Memory-clause-closed : goal.returns-in-Memory-clause-closed
returns-in-Memory-clause-closed g c = λ words told before after out end.
    Closed-memory words told before after c.say_memory.result
    out out (g.E.Sink.told c.args.err.now) (g.E.Sink.told c.say_memory.new.err) []
    (inl (refl, refl)) (Took-nothing out) c.say_memory.ensures.said

usage-not-err : end_is.Usage ≢ end_is.WriteFault Err
usage-not-err is = cc

refused-not-err : (r : Refusal) → end_is.Refused r ≢ end_is.WriteFault Err
refused-not-err r is = cc

unread-not-err : (which : Which) → end_is.ReadFault which ≢ end_is.WriteFault Err
unread-not-err which is = cc

unmade-not-err : end_is.PatternRefused ≢ end_is.WriteFault Err
unmade-not-err is = cc

pub returns-in-Usage-clause-err_fault : goal.returns-in-Usage-clause-err_fault
returns-in-Usage-clause-err_fault g c = λ is. c.say.ensures.fault usage-not-err is

pub returns-in-Refused-clause-err_fault : goal.returns-in-Refused-clause-err_fault
returns-in-Refused-clause-err_fault g c = λ is. c.say-in-Refused.ensures.fault (refused-not-err c.in-Refused.field-0.refusal) is

pub returns-in-Unread-clause-err_fault : goal.returns-in-Unread-clause-err_fault
returns-in-Unread-clause-err_fault g c = λ is. c.say-in-Unread.ensures.fault (unread-not-err c.in-Unread.which) is

pub returns-in-Unmade-clause-err_fault : goal.returns-in-Unmade-clause-err_fault
returns-in-Unmade-clause-err_fault g c = λ is. c.say-in-Unmade.ensures.fault unmade-not-err is
