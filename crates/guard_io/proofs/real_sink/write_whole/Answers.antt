use Rattle.std.proofs.lemmas.Grind.{common_steps}
use Rattle.std.proofs.Common.{take, drop, ◌++◌, append_assoc, ◌∙◌, ap, take-append-drop, arith}
use Rattle.std.proofs.lemmas.List.{take_rest}
use Rattle.std.proofs.KnownBytes.{Appends-trans}
use Rattle.guard_io.proofs.real_sink.write_whole.Goals as goal

-- the front grows by what the write took
pub loop-rest-preserved : goal.loop-rest-preserved
loop-rest-preserved g c =
    let front = c.loop-rest.invariant.0 in
    let rest = c.loop-rest.rest.now in
    let taken = c.in-Ok.taken in (
      front ++ take taken rest,
      ap (λ left. (front ++ take taken rest) ++ left) (take_rest rest taken) ∙ append_assoc front (take taken rest) (drop taken rest)
          ∙ ap (λ all. front ++ all) (take-append-drop taken rest) ∙ c.loop-rest.invariant.1,
      Appends-trans _ _ _ _ _ c.loop-rest.invariant.2 c.in-Ok.ensures.bytes,
    )

pub returns-clause-whole : goal.returns-clause-whole
returns-clause-whole c = grind (arith, common_steps)
