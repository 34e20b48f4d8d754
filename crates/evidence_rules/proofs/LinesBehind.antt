-- Lines by their numbers: those behind the first, and one behind others.
use Rattle.std.proofs.Common.{◌≡◌, ◌⊎◌, ℕ, zero, suc, ◌-◌, ◌+◌, ◌==◌, false, refl, sym, ap, ◌∙◌, add-one, take, inl, inr, arith, slice_get, List, [], ◌∷◌, ◌++◌, Some}
use Rattle.std.proofs.lemmas.Bool.Decides.{nat_tests}
use Rattle.std.proofs.lemmas.List.{take_more}
use Rattle.std.proofs.lemmas.Option.{get_or_from_slice_get, none-some, same_Some, slice_get_within}
use Rattle.evidence_lines.specs.Lines.{line_of}
use Rattle.evidence_lines.specs.declared.line.Line.{Line}

-- numbers are counted from 1
pub behind-first : (ls : List Line) (n : ℕ) → line_of ls (suc n) ≡ slice_get ls n
behind-first ls n =
    let test : (suc n == 0) ≡ false = grind (arith, nat_tests) in
    let less : suc n - 1 ≡ n = omega arith in
    rw (test, less) refl

-- the line behind so many
pub line-there : (ls : List Line) (n : ℕ) (l : Line) → line_of ls (n + 1) ≡ Some l → slice_get ls n ≡ Some l
line-there ls n l stands = sym (behind-first ls n) ∙ ap (line_of ls) (sym (add-one n)) ∙ stands

-- the lines up to it
pub next-line : (ls : List Line) (n : ℕ) (l : Line) → line_of ls (n + 1) ≡ Some l → take n ls ++ l ∷ [] ≡ take (n + 1) ls
next-line ls n l stands =
    let there : slice_get ls n ≡ Some l = line-there ls n l stands in
    ap (λ (x : Line). take n ls ++ x ∷ []) (sym (get_or_from_slice_get ls n l l there)) ∙ sym (take_more ls n l (slice_get_within ls n l there))

-- a line behind others is one of them, or it
pub at-end : (ls : List Line) (line : Line) (n : ℕ) (l : Line) → slice_get (ls ++ line ∷ []) n ≡ Some l → (slice_get ls n ≡ Some l) ⊎ (line ≡ l)
at-end [] line zero l stands = inr (same_Some line l stands)
at-end [] line (suc n) l stands = absurd (none-some l stands)
at-end (first ∷ ls) line zero l stands = inl stands
at-end (first ∷ ls) line (suc n) l stands = at-end ls line n l stands
