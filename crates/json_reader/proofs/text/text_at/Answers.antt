use Rattle.std.proofs.lemmas.Grind.{common_steps}
use Rattle.std.proofs.Common.{◌≡◌, ℕ, List, ◌+◌, ◌-◌, ◌<◌, length, get_or, arith, subst}
use Rattle.std.specs.Str.{IsCharBoundary}
use Rattle.std.proofs.lemmas.Str.{IsCharBoundary-after_ascii, IsCharBoundary-before_ascii}
use Rattle.json_reader.proofs.Walk.{mark_ascii}
use Rattle.json_reader.proofs.text.text_at.Goals as goal

pub range-requires-clause-start_boundary : goal.range-requires-clause-start_boundary
range-requires-clause-start_boundary c =
    let n : c.args.start - 1 + 1 ≡ c.args.start = omega arith in
    let l : c.args.start - 1 < length c.args.text.now = omega arith in
    let q : get_or c.args.text.now (c.args.start - 1) 0 ≡ 34 = c.requires.quote in
    λ h. subst (λ k. IsCharBoundary c.args.text.now k) n (IsCharBoundary-after_ascii c.args.text.now (c.args.start - 1) c.utf8.text l (omega arith))

pub range-requires-clause-end_boundary : goal.range-requires-clause-end_boundary
range-requires-clause-end_boundary c =
    let bytes = c.as_bytes-bytes.result.now in
    let end = c.in-Ok.end in
    let e = c.in-Ok.ensures in
    subst (λ (t : List ℕ). IsCharBoundary t end) c.as_bytes-bytes.ensures.value (IsCharBoundary-before_ascii bytes end e.1 (mark_ascii (get_or bytes end 0) e.3))

pub returns-in-Err-decoded_at-clause-memory : goal.returns-in-Err-decoded_at-clause-memory
returns-in-Err-decoded_at-clause-memory c = grind (arith, common_steps)

pub returns-in-Ok-decoded_at-clause-memory : goal.returns-in-Ok-decoded_at-clause-memory
returns-in-Ok-decoded_at-clause-memory c = grind (arith, common_steps)

pub returns-then-bytes-end-eq34-clause-text : goal.returns-then-bytes-end-eq34-clause-text
returns-then-bytes-end-eq34-clause-text c = grind (arith, common_steps)

pub returns-in-Err-clause-memory : goal.returns-in-Err-clause-memory
returns-in-Err-clause-memory c = grind (arith, common_steps)

pub returns-in-Err-clause-text : goal.returns-in-Err-clause-text
returns-in-Err-clause-text c = grind (arith, common_steps)

pub returns-then-bytes-end-eq34-clause-memory : goal.returns-then-bytes-end-eq34-clause-memory
returns-then-bytes-end-eq34-clause-memory c = grind (arith, common_steps)
