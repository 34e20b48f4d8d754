use Rattle.std.proofs.Common.{ℕ, List, inl, inr, refl}
use Rattle.std.proofs.lemmas.Bool.{false≢true}
use Rattle.guard_io.specs.Outside.{IsPrefix}
use Rattle.guard_ends.specs.End.{Took}
use Rattle.guard_run.proofs.Closing.{Took-front, Took-both}
use Rattle.guard_run.proofs.write.say.Goals as goal

pub returns-in-Err-Failed-clause-said : goal.returns-in-Err-Failed-clause-said
returns-in-Err-Failed-clause-said g c =
    let front : (front : List ℕ) × IsPrefix front c.args.line.now × Took (g.E.Sink.told c.args.err.now) (g.E.Sink.told c.put.new.self) front =
    Took-front (g.E.Sink.told c.args.err.now) (g.E.Sink.told c.put.new.self) c.args.line.now
    c.in-Err-Failed.ensures.err in
    inr ((λ none. false≢true (c.in-Err-Failed.ensures.empty none)), inl (refl, front))

pub returns-clause-said : goal.returns-clause-said
returns-clause-said g c =
    let begun : (front : List ℕ) × IsPrefix front c.args.line.now × Took (g.E.Sink.told c.args.err.now) (g.E.Sink.told c.put.new.self) front =
    Took-front (g.E.Sink.told c.args.err.now) (g.E.Sink.told c.put.new.self) c.args.line.now
    c.in-Err-Memory.ensures.err in
    let tried = c.say_memory.ensures.said.1 in
    inr (
      (λ none. false≢true (c.in-Err-Memory.ensures.empty none)),
      inr (
        c.say_memory.ensures.said.0,
        (
          begun.0,
          tried.0,
          begun.1,
          tried.1,
          Took-both (g.E.Sink.told c.args.err.now) (g.E.Sink.told c.put.new.self) (g.E.Sink.told c.say_memory.new.err)
              begun.0 tried.0 begun.2 tried.2,
        ),
      ),
    )
