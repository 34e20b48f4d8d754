-- Bytes without the white space at their end: one byte more.
use Rattle.std.proofs.Common.{◌≡◌, ℕ, zero, suc, ◌+◌, ◌-◌, ◌<◌, ◌≤◌, true, false, List, [], ◌∷◌, length, take, drop, get_or, sym, ap, ◌∙◌, arith, cond, length-drop}
use Rattle.std.proofs.lemmas.List.{get_or-drop}
use Rattle.yaml_scalars.specs.Lines.{is_white, keep, trimmed}

ends_black : (n : ℕ) (xs : List ℕ) → n < length xs → is_white (get_or xs n 0) ≡ false → trimmed (take (suc n) xs) ≡ take (suc n) xs
ends_black n [] l w = absurd (omega arith)
ends_black zero (x ∷ xs) l w = ap (λ q. cond q [] (x ∷ [])) w
ends_black (suc n) (x ∷ []) l w = absurd (omega arith)
ends_black (suc n) (x ∷ y ∷ xs) l w = ap (keep x) (ends_black n (y ∷ xs) (omega arith) w)

ends_white : (n : ℕ) (xs : List ℕ) → n < length xs → is_white (get_or xs n 0) ≡ true → trimmed (take (suc n) xs) ≡ trimmed (take n xs)
ends_white n [] l w = absurd (omega arith)
ends_white zero (x ∷ xs) l w = ap (λ q. cond q [] (x ∷ [])) w
ends_white (suc n) (x ∷ xs) l w = ap (keep x) (ends_white n xs (omega arith) w)

-- the byte before a place, in the part that begins at another
byte_of : (bytes : List ℕ) (start end : ℕ) → start < end → get_or (drop start bytes) (end - 1 - start) 0 ≡ get_or bytes (end - 1) 0
byte_of bytes start end l = let e : start + (end - 1 - start) ≡ end - 1 = omega arith in get_or-drop start bytes (end - 1 - start) 0 ∙ ap (λ k. get_or bytes k 0) e

-- a part that ends in another byte than white space stays
pub part_stays : (bytes : List ℕ) (start end : ℕ) → start < end → end ≤ length bytes → is_white (get_or bytes (end - 1) 0) ≡ false → trimmed (take (end - start) (drop start bytes)) ≡ take (end - start) (drop start bytes)
part_stays bytes start end l m w =
    let e : suc (end - 1 - start) ≡ end - start = omega arith in
    let s = ends_black (end - 1 - start) (drop start bytes) (omega (arith, length-drop start bytes)) (ap is_white (byte_of bytes start end l) ∙ w) in
    ap (λ k. trimmed (take k (drop start bytes))) (sym e) ∙ s ∙ ap (λ k. take k (drop start bytes)) e

-- white space at its end falls away
pub part_falls : (bytes : List ℕ) (start end : ℕ) → start < end → end ≤ length bytes → is_white (get_or bytes (end - 1) 0) ≡ true → trimmed (take (end - start) (drop start bytes)) ≡ trimmed (take (end - 1 - start) (drop start bytes))
part_falls bytes start end l m w =
    let e : suc (end - 1 - start) ≡ end - start = omega arith in
    ap (λ k. trimmed (take k (drop start bytes))) (sym e) ∙ ends_white (end - 1 - start) (drop start bytes) (omega (arith, length-drop start bytes)) (ap is_white (byte_of bytes start end l) ∙ w)
