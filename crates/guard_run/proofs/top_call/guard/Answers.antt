use Rattle.std.proofs.Common.{map, string_bytes, subst}
use Rattle.guard_ends.specs.End.{Faults}
use Rattle.guard_run.specs.code.Writing.{Closed}
use Rattle.guard_ends.specs.declared.ends.End.{End}
use Rattle.guard_run.proofs.Closing.{defined-Closed}
use Rattle.guard_run.proofs.top_call.guard.Given.{Over}
use Rattle.guard_run.proofs.top_call.guard.Goals.{After-write_outcome}
use Rattle.guard_run.proofs.top_call.guard.Goals as goal

-- the counts before and after
abbrev before : (g : Over) → After-write_outcome g → Faults
before g c = record { read = record { files = g.F.Files.faults c.args.files.now; patterns = g.M.PatternMaker.faults c.args.maker.now }; out = g.O.Sink.faults c.args.out.now }

abbrev after : (g : Over) → After-write_outcome g → Faults
after g c = record { read = record { files = g.F.Files.faults c.outcome_of.new.files; patterns = g.M.PatternMaker.faults c.outcome_of.new.maker }; out = g.O.Sink.faults c.write_outcome.new.out }

-- what is so at an end, of this call
abbrev At : (g : Over) → After-write_outcome g → End → Type 0
At g c how = Closed (map string_bytes c.args.words.now) (g.F.Files.content c.args.files.now) (before g c) (after g c) how
    (g.O.Sink.told c.args.out.now) (g.O.Sink.told c.write_outcome.new.out) (g.E.Sink.told c.args.err.now) (g.E.Sink.told c.write_outcome.new.err)

closed : (g : Over) (c : After-write_outcome g) → At g c c.write_outcome.result
closed g c = c.write_outcome.ensures.closed (map string_bytes c.args.words.now) (g.F.Files.content c.args.files.now)
    (before g c).read (after g c).read c.outcome_of.ensures.outcome

pub returns-clause-ends : goal.returns-clause-ends
returns-clause-ends g c = λ defined.
    defined-Closed (map string_bytes c.args.words.now) (g.F.Files.content c.args.files.now) (before g c) (after g c) c.write_outcome.result
    (g.O.Sink.told c.args.out.now) (g.O.Sink.told c.write_outcome.new.out) (g.E.Sink.told c.args.err.now) (g.E.Sink.told c.write_outcome.new.err)
    defined (closed g c)

pub returns-clause-read_fault : goal.returns-clause-read_fault
returns-clause-read_fault g c = λ which is. subst (At g c) is (closed g c)

pub returns-clause-pattern_fault : goal.returns-clause-pattern_fault
returns-clause-pattern_fault g c = λ is. subst (At g c) is (closed g c)

pub returns-clause-out_fault : goal.returns-clause-out_fault
returns-clause-out_fault g c = λ is. (c.write_outcome.ensures.out_fault is, subst (At g c) is (closed g c))

pub returns-clause-err_fault : goal.returns-clause-err_fault
returns-clause-err_fault g c = λ is. (c.write_outcome.ensures.err_fault is, subst (At g c) is (closed g c))

pub returns-clause-memory : goal.returns-clause-memory
returns-clause-memory g c = λ is. subst (At g c) is (closed g c)
