use Rattle.std.proofs.Common.{ap}
use Rattle.std.proofs.lemmas.Grind.{merely}
use Rattle.value_store.specs.code.Stores.{see_store}
use Rattle.engine_states.proofs.EmptyEngine.{nothing-follows, nothing-rests, nothing-whole}
use Rattle.engine_lines.specs.code.Beside.{beside_in}
use Rattle.engine_parts.proofs.FramePlaces.{no-frames}
use Rattle.engine_lines.proofs.engine.EngineLines.new.Goals as goal

pub invariant_of-result-clause-follows : goal.invariant_of-result-clause-follows
invariant_of-result-clause-follows c = merely (nothing-follows (see_store c.new-2.result) c.new-3.result.lines c.new-2.ensures.made c.new-3.ensures.lines)

pub returns-clause-whole : goal.returns-clause-whole
returns-clause-whole c =
    nothing-whole _ c.new-2.ensures.made c.new-3.ensures.lines c.new.ensures.frames c.new-4.ensures.items
    (no-frames c.new-5.result.spans.items c.new-5.result.lines.items c.new-5.ensures) (λ n m. ap (λ es. beside_in es n m) c.new-6.ensures.empty) c.new-7.ensures.lines

pub returns-clause-rests : goal.returns-clause-rests
returns-clause-rests c =
    nothing-rests _ c.new-2.ensures.made c.new-3.ensures.lines c.new.ensures.frames c.new-4.ensures.items
    (no-frames c.new-5.result.spans.items c.new-5.result.lines.items c.new-5.ensures) (λ n m. ap (λ es. beside_in es n m) c.new-6.ensures.empty) c.new-7.ensures.lines
