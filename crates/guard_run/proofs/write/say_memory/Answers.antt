use Rattle.std.proofs.Common.{inl, inr, refl, []}
use Rattle.guard_ends.specs.Lines.{memory_line}
use Rattle.guard_run.proofs.Closing.{Took-front}
use Rattle.guard_run.proofs.write.say_memory.Goals as goal

pub returns-in-Ok-clause-said : goal.returns-in-Ok-clause-said
returns-in-Ok-clause-said g c = (inl refl, (memory_line, ([], refl), c.in-Ok.ensures.ok))

pub returns-in-Err-Failed-clause-said : goal.returns-in-Err-Failed-clause-said
returns-in-Err-Failed-clause-said g c =
    (inr refl, Took-front (g.E.Sink.told c.args.err.now) (g.E.Sink.told c.put.new.self) memory_line c.in-Err-Failed.ensures.err)

pub returns-in-Err-Memory-clause-said : goal.returns-in-Err-Memory-clause-said
returns-in-Err-Memory-clause-said g c =
    (inl refl, Took-front (g.E.Sink.told c.args.err.now) (g.E.Sink.told c.put.new.self) memory_line c.in-Err-Memory.ensures.err)
