-- Lines and columns, one byte further, by induction on the bytes before.
use Rattle.std.proofs.Common.{◌≡◌, ℕ, suc, ◌+◌, ◌<◌, Bool, true, false, ◌||◌, ◌==◌, List, [], ◌∷◌, ◌++◌, length, take, get_or, refl, ap, ◌∙◌, arith, add-one, length-append}
use Rattle.std.specs.Prelude.{nat_lt, if◌then◌else◌}
use Rattle.std.proofs.lemmas.Bool.{lt-ltb}
use Rattle.std.proofs.Math.Seq.{take-suc}
use Rattle.doc_values.specs.Position.{newlines, last_line, line_at, column_at}

if_suc : (q : Bool) (n : ℕ) → (if q then suc (suc n) else suc n) ≡ suc (if q then suc n else n)
if_suc true n = refl
if_suc false n = refl

or_true : (q r : Bool) → r ≡ true → (q || r) ≡ true
or_true true r e = refl
or_true false r e = e

newlines-break : (xs : List ℕ) → newlines (xs ++ (10 ∷ [])) ≡ suc (newlines xs)
newlines-break [] = refl
newlines-break (x ∷ xs) = ap (λ n. if x == 10 then suc n else n) (newlines-break xs) ∙ if_suc (x == 10) (newlines xs)

newlines-other : (xs : List ℕ) (b : ℕ) → (b == 10) ≡ false → newlines (xs ++ (b ∷ [])) ≡ newlines xs
newlines-other [] b h = ap (λ q. if q then 1 else 0) h
newlines-other (x ∷ xs) b h = ap (λ n. if x == 10 then suc n else n) (newlines-other xs b h)

last_line-break : (xs : List ℕ) → last_line (xs ++ (10 ∷ [])) ≡ []
last_line-break [] = refl
last_line-break (x ∷ xs) =
    let some : nat_lt 0 (newlines (xs ++ (10 ∷ []))) ≡ true = ap (nat_lt 0) (newlines-break xs) ∙ lt-ltb 0 (suc (newlines xs)) (omega arith) in
    ap (λ q. if q then last_line (xs ++ (10 ∷ [])) else x ∷ (xs ++ (10 ∷ []))) (or_true (x == 10) (nat_lt 0 (newlines (xs ++ (10 ∷ [])))) some) ∙ last_line-break xs

either : (q : Bool) (a b : List ℕ) (c : ℕ) → (if q then a ++ (c ∷ []) else b ++ (c ∷ [])) ≡ (if q then a else b) ++ (c ∷ [])
either true a b c = refl
either false a b c = refl

last_line-other : (xs : List ℕ) (b : ℕ) → (b == 10) ≡ false → last_line (xs ++ (b ∷ [])) ≡ last_line xs ++ (b ∷ [])
last_line-other [] b h = ap (λ q. if q || nat_lt 0 0 then [] else b ∷ []) h
last_line-other (x ∷ xs) b h =
    ap (λ n. if x == 10 || nat_lt 0 n then last_line (xs ++ (b ∷ [])) else x ∷ (xs ++ (b ∷ []))) (newlines-other xs b h)
    ∙ ap (λ t. if x == 10 || nat_lt 0 (newlines xs) then t else x ∷ (xs ++ (b ∷ []))) (last_line-other xs b h)
    ∙ either (x == 10 || nat_lt 0 (newlines xs)) (last_line xs) (x ∷ xs) b

one_more : (bytes : List ℕ) (i : ℕ) → i < length bytes → take (i + 1) bytes ≡ take i bytes ++ (get_or bytes i 0 ∷ [])
one_more bytes i l = ap (λ j. take j bytes) (add-one i) ∙ take-suc bytes i 0 l

pub line-break : (bytes : List ℕ) (i : ℕ) → i < length bytes → get_or bytes i 0 ≡ 10 → line_at bytes (i + 1) ≡ line_at bytes i + 1
line-break bytes i l e =
    let n = ap newlines (one_more bytes i l ∙ ap (λ b. take i bytes ++ (b ∷ [])) e) ∙ newlines-break (take i bytes) in
    omega arith

pub column-break : (bytes : List ℕ) (i : ℕ) → i < length bytes → get_or bytes i 0 ≡ 10 → column_at bytes (i + 1) ≡ 1
column-break bytes i l e =
    let n = ap (λ t. length (last_line t)) (one_more bytes i l ∙ ap (λ b. take i bytes ++ (b ∷ [])) e) ∙ ap (λ (t : List ℕ). length t) (last_line-break (take i bytes)) in
    omega arith

pub line-other : (bytes : List ℕ) (i : ℕ) → i < length bytes → (get_or bytes i 0 == 10) ≡ false → line_at bytes (i + 1) ≡ line_at bytes i
line-other bytes i l e =
    let n = ap newlines (one_more bytes i l) ∙ newlines-other (take i bytes) (get_or bytes i 0) e in
    omega arith

pub column-other : (bytes : List ℕ) (i : ℕ) → i < length bytes → (get_or bytes i 0 == 10) ≡ false → column_at bytes (i + 1) ≡ column_at bytes i + 1
column-other bytes i l e =
    let n = ap (λ t. length (last_line t)) (one_more bytes i l) ∙ ap (λ (t : List ℕ). length t) (last_line-other (take i bytes) (get_or bytes i 0) e) in
    let m = length-append (last_line (take i bytes)) (get_or bytes i 0 ∷ []) in
    omega arith
