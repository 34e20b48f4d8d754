-- How wide a token may be, by the byte at its place and those behind it.
use Rattle.std.proofs.Common.{◌≡◌, ℕ, zero, suc, ◌+◌, ◌<◌, ◌≤◌, Bool, true, false, ◌&&◌, nat_eq, cond, List, [], ◌∷◌, drop, length, slice_index, refl, sym, ap, ◌∙◌, subst, true≢false, arith}
use Rattle.std.proofs.lemmas.Bool.Decides.{nat_tests}
use Rattle.std.proofs.lemmas.List.{drop_all, drop-drop}
use Rattle.yaml_scalars.specs.Lines.{begins_with, is_white, lead}
use Rattle.yaml_scalars.specs.code.Walk.{line_at}
use Rattle.yaml_scalars.specs.Block.{same}
use Rattle.yaml_grammar.specs.code.StopPlaces.{run_width, byte_width, token_width, past_return, colon_place}

-- how many times a byte stands there
same_none : (a n : ℕ) (xs : List ℕ) → begins_with a xs ≡ false → same a n xs ≡ 0
same_none a zero xs h = refl
same_none a (suc n) [] h = refl
same_none a (suc n) (b ∷ xs) h = ap (λ q. cond q (suc (same a n xs)) 0) h

pub run_one : (a : ℕ) (xs : List ℕ) → begins_with a xs ≡ false → 1 ≡ suc (same a 2 xs)
run_one a xs h = ap suc (sym (same_none a 2 xs h))

pub run_two : (a : ℕ) (xs ys : List ℕ) → ys ≡ drop 1 xs → begins_with a xs ≡ true → begins_with a ys ≡ false → 2 ≡ suc (same a 2 xs)
run_two a [] ys e h k = absurd (true≢false (sym h))
run_two a (b ∷ xs) ys e h k = ap suc (sym (ap (λ q. cond q (suc (same a 1 xs)) 0) h ∙ ap suc (same_none a 1 xs (sym (ap (begins_with a) e) ∙ k))))

pub run_three : (a : ℕ) (xs ys : List ℕ) → ys ≡ drop 1 xs → begins_with a xs ≡ true → begins_with a ys ≡ true → 3 ≡ suc (same a 2 xs)
run_three a [] ys e h k = absurd (true≢false (sym h))
run_three a (b ∷ []) ys e h k = absurd (true≢false (sym (sym (ap (begins_with a) e) ∙ k)))
run_three a (b ∷ c ∷ xs) ys e h k = ap suc (sym (ap (λ q. cond q (suc (same a 1 (c ∷ xs))) 0) h ∙ ap suc (ap (λ q. cond q (suc (same a 0 xs)) 0) (sym (ap (begins_with a) e) ∙ k))))

-- the byte at a place, and those behind it
pub byte_there : (xs : List ℕ) (at : ℕ) → at < length xs → drop at xs ≡ slice_index xs at ∷ drop (at + 1) xs
byte_there [] at l = absurd (omega (arith, l))
byte_there (x ∷ xs) zero l = refl
byte_there (x ∷ xs) (suc at) l = byte_there xs at (omega (arith, l)) ∙ ap (λ n. slice_index xs at ∷ drop n (x ∷ xs)) (let e : suc (at + 1) ≡ suc at + 1 = omega arith in e)

-- where the text does not end there
pub width_there : (xs : List ℕ) (at n : ℕ) → at < length xs → n ≡ byte_width (slice_index xs at) (drop (at + 1) xs) → n ≡ token_width (drop at xs)
width_there xs at n l e = e ∙ sym (ap token_width (byte_there xs at l))

pub width_end : (xs : List ℕ) (at : ℕ) → length xs ≤ at → 0 ≡ token_width (drop at xs)
width_end xs at l = ap token_width (sym (drop_all at xs l))

-- a carriage return behind three of them
third : (at : ℕ) (xs : List ℕ) → drop 2 (drop (at + 1) xs) ≡ drop (at + 3) xs
third at xs = drop-drop 2 (at + 1) xs ∙ (let e : at + 1 + 2 ≡ at + 3 = omega arith in ap (λ n. drop n xs) e)

pub run_return : (n at : ℕ) (xs : List ℕ) → n ≡ 3 → begins_with 13 (drop (at + 3) xs) ≡ true → 4 ≡ run_width n (drop (at + 1) xs)
run_return n at xs e h =
    let three : nat_eq n 3 ≡ true = grind (arith, nat_tests, e) in
    sym (ap (λ q. cond (nat_eq n 3 && q) 4 n) (ap (begins_with 13) (third at xs) ∙ h) ∙ ap (λ q. cond (q && true) 4 n) three)

pub run_plain : (n at : ℕ) (xs : List ℕ) → (n ≡ 3 → begins_with 13 (drop (at + 3) xs) ≡ false) → n ≡ run_width n (drop (at + 1) xs)
run_plain n at xs h = by_three (nat_eq n 3) refl where
  by_three : (q : Bool) → nat_eq n 3 ≡ q → n ≡ cond (q && begins_with 13 (drop 2 (drop (at + 1) xs))) 4 n
  by_three true e = let z : n ≡ 3 = grind (arith, nat_tests, e) in sym (ap (λ q. cond q 4 n) (ap (begins_with 13) (third at xs) ∙ h z))
  by_three false e = refl

-- behind a key a colon, and the byte behind it
pub colon_next : (text bytes : List ℕ) (e w r : ℕ) → bytes ≡ text → w ≡ lead is_white (line_at (drop e bytes)) → begins_with 58 (drop (e + w) bytes) ≡ true → r ≡ past_return bytes (e + w + 1) → r ≡ colon_place text e
colon_next text bytes e w r same white colon is = subst (λ (t : List ℕ). r ≡ colon_place t e) same (by_white white) where
  by_white : w ≡ lead is_white (line_at (drop e bytes)) → r ≡ colon_place bytes e
  by_white k =
      let next : e + w + 1 ≡ suc (e + lead is_white (line_at (drop e bytes))) = omega (arith, k) in
      let there : begins_with 58 (drop (e + lead is_white (line_at (drop e bytes))) bytes) ≡ true = sym (ap (λ n. begins_with 58 (drop (e + n) bytes)) k) ∙ colon in
      is ∙ ap (past_return bytes) next ∙ sym (ap (λ q. past_return bytes (cond q (suc (e + lead is_white (line_at (drop e bytes)))) (e + lead is_white (line_at (drop e bytes))))) there)
