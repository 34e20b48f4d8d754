-- Numbers of lines and of frames, apart from all else that is known where they stand: that of a line that is pushed, and which frames have room for lines.
use Rattle.std.proofs.Common.{◌≡◌, ◌<◌, ◌≤◌, ◌+◌, ◌++◌, ◌∷◌, ℕ, suc, List, [], ap, arith, length, length-append}
use Rattle.evidence_lines.specs.declared.line.Line.{Line}

pub pushed-number : (before after : List Line) (line : Line) (number : ℕ) → after ≡ before ++ line ∷ [] → number ≡ length after → number ≡ suc (length before)
pushed-number before after line number more is =
    let counted : length (before ++ line ∷ []) ≡ length before + 1 = length-append before (line ∷ []) in
    let all : length after ≡ length (before ++ line ∷ []) = ap length more in
    omega (arith, counted, all, is)

pub next-number : (count lines : ℕ) → count ≡ lines → count + 1 ≡ suc lines
next-number count lines is = omega (arith, is)

pub some-number : (number lines : ℕ) → number ≡ suc lines → 0 < number
some-number number lines is = omega (arith, is)

pub within-spans : (frame framed spans : ℕ) → frame < framed → framed ≤ spans → frame < spans
within-spans frame framed spans below room = omega (arith, below, room)

pub still-room : (framed before after : ℕ) → framed ≤ before → before ≤ after → framed ≤ after
still-room framed before after room more = omega (arith, room, more)

pub not-within : (number framed : ℕ) → framed ≤ number → number < framed → ⊥
not-within number framed beyond less = omega (arith, beyond, less)
