-- Zeros in a row, and in front of digits.
use Rattle.std.proofs.Common.{◌≡◌, ℕ, zero, suc, ◌+◌, ◌-◌, ◌≤◌, ◌<◌, List, [], ◌∷◌, ◌++◌, length, take, drop, replicate, refl, ap, ◌∙◌, arith, append_assoc, length-append}
use Rattle.rule_meaning.specs.Functions.{filled, with_point}

-- so many zeros
abbrev pub zeros : ℕ → List ℕ
zeros n = replicate n 48

one_behind : (n : ℕ) → zeros n ++ (48 ∷ []) ≡ zeros (suc n)
one_behind zero = refl
one_behind (suc n) = ap (λ (x : List ℕ). 48 ∷ x) (one_behind n)

pub zero_more : (out : List ℕ) (n : ℕ) → (out ++ zeros n) ++ (48 ∷ []) ≡ out ++ zeros (n + 1)
zero_more out n = let e : suc n ≡ n + 1 = omega arith in append_assoc out (zeros n) (48 ∷ []) ∙ ap (λ x. out ++ x) (one_behind n) ∙ ap (λ k. out ++ zeros k) e

pub filled_long : (n : ℕ) (digits : List ℕ) → n ≤ length digits → filled n digits ≡ digits
filled_long n digits h = let e : n - length digits ≡ 0 = omega arith in ap (λ k. zeros k ++ digits) e

zeros_length : (n : ℕ) → length (zeros n) ≡ n
zeros_length zero = refl
zeros_length (suc n) = ap suc (zeros_length n)

pub filled_length : (n : ℕ) (digits : List ℕ) → length digits ≤ n → length (filled n digits) ≡ n
filled_length n digits h = length-append (zeros (n - length digits)) digits ∙ ap (λ k. k + length digits) (zeros_length (n - length digits)) ∙ omega arith

-- at least one zero in front
pub filled_short : (n : ℕ) (digits : List ℕ) → length digits ≤ n → filled (suc n) digits ≡ 48 ∷ (zeros (n - length digits) ++ digits)
filled_short n digits h = let e : suc n - length digits ≡ suc (n - length digits) = omega arith in ap (λ k. zeros k ++ digits) e

pub pointed_short : (n : ℕ) (digits : List ℕ) → length digits ≤ n → with_point n (filled (suc n) digits) ≡ 48 ∷ 46 ∷ (zeros (n - length digits) ++ digits)
pointed_short n digits h =
    let f = filled_short n digits h in
    let e : length (filled (suc n) digits) - n ≡ 1 = let l = filled_length (suc n) digits (omega arith) in omega arith in
    ap (λ k. take k (filled (suc n) digits) ++ (46 ∷ drop k (filled (suc n) digits))) e ∙ ap (λ x. take 1 x ++ (46 ∷ drop 1 x)) f

pub pointed_long : (n : ℕ) (digits : List ℕ) → n < length digits → with_point n (filled (suc n) digits) ≡ with_point n digits
pointed_long n digits h = ap (with_point n) (filled_long (suc n) digits (omega arith))
