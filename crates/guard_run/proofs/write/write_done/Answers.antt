use Rattle.std.proofs.Common.{◌≡◌, ◌≢◌, ℕ, List, Err, true, ap, inl, inr, refl, subst, sym, ◌∙◌}
use Rattle.std.proofs.lemmas.Bool.{true≢false}
use Rattle.guard_io.specs.Outside.{IsPrefix}
use Rattle.guard_ends.specs.End.{Faults, Took, is_reported}
use Rattle.guard_ends.specs.Lines.{write_fault_line}
use Rattle.guard_ends.specs.declared.ends.End.{End}
use Rattle.guard_ends.specs.declared.ends.End.TheVariants.{Memory, WriteFault}
use Rattle.guard_ends.specs.declared.ends.Pipe.{Pipe}
use Rattle.guard_ends.specs.declared.ends.Pipe.TheVariants.{Out}
use Rattle.guard_ends.specs.declared.ends.Pipe.TheVariants as pipe
use Rattle.guard_ends.specs.Order.{Ended}
use Rattle.guard_inputs.specs.code.Refusals.{bytes_of}
use Rattle.guard_run.specs.code.Writing.{Said}
use Rattle.guard_run.proofs.Closing.{Took-front, Closed-said, Closed-memory, Closed-defined, IsTaken-as, reported_with, reported-defined}
use Rattle.guard_run.proofs.write.write_done.Goals as goal

out-not-err : WriteFault Out ≢ WriteFault pipe.Err
out-not-err e = cc

out-not-memory : WriteFault Out ≢ Memory
out-not-memory e = cc

pub returns-in-Ok-clause-closed : goal.returns-in-Ok-clause-closed
returns-in-Ok-clause-closed g c = λ words told old new end.
    let before : Faults = record { read = old; out = g.O.Sink.faults c.args.out.now } in
    let after : Faults = record { read = new; out = g.O.Sink.faults c.put.new.self } in
    let how = c.args.done.how in
    let text : List ℕ = bytes_of c.args.done.out in
    let further : List ℕ = bytes_of c.args.done.err in
    let taken : Took (g.O.Sink.told c.args.out.now) (g.O.Sink.told c.put.new.self) text =
    subst (λ (b : List ℕ). Took (g.O.Sink.told c.args.out.now) (g.O.Sink.told c.put.new.self) b) c.as_bytes.ensures c.in-Ok.ensures.ok in
    let tried : Said further how c.say.result (g.E.Sink.told c.args.err.now) (g.E.Sink.told c.say.new.err) = rw c.as_bytes-in-Ok.ensures at c.say.ensures.said in
    let all : Ended = reported_with how text further in
    Closed-said words told before after further how c.say.result (g.O.Sink.told c.args.out.now) (g.O.Sink.told c.put.new.self)
    (g.E.Sink.told c.args.err.now) (g.E.Sink.told c.say.new.err) text
    (λ some. inl (all, end, some, refl, refl)) taken
    (λ said. Closed-defined words told before after how (g.O.Sink.told c.args.out.now) (g.O.Sink.told c.put.new.self)
    (g.E.Sink.told c.args.err.now) (g.E.Sink.told c.say.new.err) (reported-defined how c.args.done.reported) (all, end, refl, taken, said)) tried

pub returns-in-Err-Failed-clause-closed : goal.returns-in-Err-Failed-clause-closed
returns-in-Err-Failed-clause-closed g c = λ words told old new end.
    let before : Faults = record { read = old; out = g.O.Sink.faults c.args.out.now } in
    let after : Faults = record { read = new; out = g.O.Sink.faults c.put.new.self } in
    let text : List ℕ = bytes_of c.args.done.out in
    let cut : (front : List ℕ) × IsPrefix front text × Took (g.O.Sink.told c.args.out.now) (g.O.Sink.told c.put.new.self) front =
    Took-front (g.O.Sink.told c.args.out.now) (g.O.Sink.told c.put.new.self) text (rw c.as_bytes.ensures at c.in-Err-Failed.ensures.err) in
    let whole = IsTaken-as words told c.args.done.how text (bytes_of c.args.done.err) c.args.done.reported end in
    Closed-said words told before after write_fault_line (WriteFault Out) c.say-in-Err-Failed.result (g.O.Sink.told c.args.out.now) (g.O.Sink.told c.put.new.self)
    (g.E.Sink.told c.args.err.now) (g.E.Sink.told c.say-in-Err-Failed.new.err) cut.0
    (λ some. inr (inr (inr (text, whole, cut.1, c.in-Err-Failed.ensures.failed (ap Err c.in-Err-Failed.field-0-is), refl)))) cut.2
    (λ said. (text, cut.0, whole, cut.1, cut.2, said)) c.say-in-Err-Failed.ensures.said

pub returns-clause-closed : goal.returns-clause-closed
returns-clause-closed g c = λ words told old new end.
    let before : Faults = record { read = old; out = g.O.Sink.faults c.args.out.now } in
    let after : Faults = record { read = new; out = g.O.Sink.faults c.put.new.self } in
    let text : List ℕ = bytes_of c.args.done.out in
    let cut : (front : List ℕ) × IsPrefix front text × Took (g.O.Sink.told c.args.out.now) (g.O.Sink.told c.put.new.self) front =
    Took-front (g.O.Sink.told c.args.out.now) (g.O.Sink.told c.put.new.self) text (rw c.as_bytes.ensures at c.in-Err-Memory.ensures.err) in
    Closed-memory words told before after c.say_memory.result (g.O.Sink.told c.args.out.now) (g.O.Sink.told c.put.new.self)
    (g.E.Sink.told c.args.err.now) (g.E.Sink.told c.say_memory.new.err) cut.0
    (inr (inl (text, IsTaken-as words told c.args.done.how text (bytes_of c.args.done.err) c.args.done.reported end, cut.1, refl))) cut.2 c.say_memory.ensures.said

-- an end at which out took a text is no fault
reported-no-fault : (how : End) (which : Pipe) → is_reported how ≡ true → how ≢ WriteFault which
reported-no-fault how which reported is = true≢false (sym reported ∙ ap is_reported is)

pub returns-in-Ok-clause-out_fault : goal.returns-in-Ok-clause-out_fault
returns-in-Ok-clause-out_fault g c = λ is.
    let whole = c.say.ensures.whole (λ other. out-not-err (sym is ∙ other)) (λ other. out-not-memory (sym is ∙ other)) in
    absurd (reported-no-fault c.args.done.how Out c.args.done.reported (sym whole ∙ is))

pub returns-in-Ok-clause-err_fault : goal.returns-in-Ok-clause-err_fault
returns-in-Ok-clause-err_fault g c = λ is. c.say.ensures.fault (reported-no-fault c.args.done.how pipe.Err c.args.done.reported) is

pub returns-in-Err-Failed-clause-out_fault : goal.returns-in-Err-Failed-clause-out_fault
returns-in-Err-Failed-clause-out_fault g c = λ is. c.in-Err-Failed.ensures.failed (ap Err c.in-Err-Failed.field-0-is)

pub returns-in-Err-Failed-clause-err_fault : goal.returns-in-Err-Failed-clause-err_fault
returns-in-Err-Failed-clause-err_fault g c = λ is. c.say-in-Err-Failed.ensures.fault out-not-err is
