use Rattle.std.proofs.lemmas.Grind.{common_steps}
use Rattle.std.proofs.Common.{ℕ, List, arith, length, ◌≤◌, ◌∙◌}
use Rattle.guard_io.proofs.KnownBytes.{Consumes-front}
use Rattle.guard_io.proofs.real_files.append_read.Goals as goal

-- what stands there is what the turns before appended
pub returns-in-Err-append_piece-clause-err : goal.returns-in-Err-append_piece-clause-err
returns-in-Err-append_piece-clause-err g c =
    let so_far = c.loop-left.invariant.0 in
    let within : length so_far.0 ≤ c.args.most = omega (arith, so_far.2) in
    λ bytes known. (
      so_far.0,
      Consumes-front _ _ so_far.0 _ within so_far.3 bytes known,
      ◌∙◌ {A = List ℕ} c.in-Err-append_piece.ensures.err so_far.1,
    )

pub loop-left-init : goal.loop-left-init
loop-left-init c = grind (arith, common_steps)

pub loop-left-preserved : goal.loop-left-preserved
loop-left-preserved c = grind (arith, common_steps)

pub overflow_sub-left : goal.overflow_sub-left
overflow_sub-left c = grind (arith, common_steps)

pub returns-clause-held : goal.returns-clause-held
returns-clause-held c = grind (arith, common_steps)

pub returns-clause-ok : goal.returns-clause-ok
returns-clause-ok c = grind (arith, common_steps)

pub returns-in-Err-append_piece-clause-held : goal.returns-in-Err-append_piece-clause-held
returns-in-Err-append_piece-clause-held c = grind (arith, common_steps)

pub returns-in-Ok-eq0-clause-held : goal.returns-in-Ok-eq0-clause-held
returns-in-Ok-eq0-clause-held c = grind (arith, common_steps)

pub returns-in-Ok-eq0-clause-ok : goal.returns-in-Ok-eq0-clause-ok
returns-in-Ok-eq0-clause-ok c = grind (arith, common_steps)
