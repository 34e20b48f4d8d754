-- How bytes are cut at the first separator.
use Rattle.std.proofs.Common.{◌≡◌, ◌<◌, ◌≤◌, ◌+◌, cond, ℕ, Bool, true, false, List, ◌∷◌, ◌++◌, Option, Some, None, All, length, get_or, take, drop, eqb, ltb, refl, sym, ap, subst, ◌∙◌, arith, option_map, option_and_then}
use Rattle.std.specs.List.{position, position_or_len}
use Rattle.std.proofs.Math.Seq.{drop-append-add}
use Rattle.std.proofs.lemmas.Bool.{eqb-true, eq-eqb, lt-ltb, le-ltb, ltb-false}
use Rattle.std.proofs.lemmas.List.{take_at, take-append-drop, drop_more, get_or_append_left, get_or_at, get_or-take, get_or_default, length-append, length-take}
use Rattle.std.proofs.lemmas.List.Sums.{position_or_len_is, fails_before_first}
use Rattle.std.proofs.lemmas.List.Quantifiers.{position-Some}
use Rattle.std.proofs.lemmas.Option.{none-some, some_pair_parts}
use Rattle.evidence_text.specs.code.Reading.{cut, cut_by, is_at}

-- ---- what an `Option` was made from

-- where a mapped value is there, the value is there
pub mapped : {A B : Type 0} (f : A → B) (o : Option A) (y : B) → option_map f o ≡ Some y → (x : A) × (o ≡ Some x) × (f x ≡ y)
mapped f None y e = absurd (none-some _ e)
mapped f (Some x) y e = (x, refl, cc)

-- where a second reading gives a value, the first one did
pub chained : {A B : Type 0} (f : A → Option B) (o : Option A) (y : B) → option_and_then f o ≡ Some y → (x : A) × (o ≡ Some x) × (f x ≡ Some y)
chained f None y e = absurd (none-some _ e)
chained f (Some x) y e = (x, refl, e)

-- ---- cuts

-- the separator is none of the bytes
abbrev pub Free : ℕ → List ℕ → Type 0
Free s bytes = All (λ b. eqb b s ≡ false) bytes

-- the first separator behind bytes that have none
at_separator : (s : ℕ) (a b : List ℕ) → Free s a → position_or_len (is_at s) (a ++ s ∷ b) ≡ length a
at_separator s a b free =
    position_or_len_is (is_at s) (a ++ s ∷ b) (length a) 0 (omega (arith, length-append a (s ∷ b)))
    (λ k h. let P : ℕ → Type 0 = λ v. eqb v s ≡ false in subst P (sym (get_or_append_left a (s ∷ b) 0 k h)) (free k 0 h))
    (λ _. let P : ℕ → Type 0 = λ v. eqb v s ≡ true in subst P (sym (get_or_at a s b 0 (length a) refl)) (eq-eqb s s refl))

pub cut_at : (s : ℕ) (a b : List ℕ) → Free s a → cut s (a ++ s ∷ b) ≡ Some (a, b)
unfolding cut
cut_at s a b free =
    let whole = a ++ s ∷ b in
    let front : take (length a) whole ≡ a = take_at a (s ∷ b) (length a) refl in
    let back : drop (length a + 1) whole ≡ b = drop-append-add a (s ∷ b) 1 in
    let within : ltb (length a) (length whole) ≡ true = lt-ltb _ _ (omega (arith, length-append a (s ∷ b))) in
    rw (at_separator s a b free, within, front, back) refl

pub cut_none : (s : ℕ) (a : List ℕ) → Free s a → cut s a ≡ None
unfolding cut
cut_none s a free =
    let at : position_or_len (is_at s) a ≡ length a = position_or_len_is (is_at s) a (length a) 0 (omega arith) (λ k h. free k 0 h) (λ h. absurd (omega arith)) in
    let past : ltb (length a) (length a) ≡ false = le-ltb _ _ (omega arith) in
    rw (at, past) refl

cut_found : (s : ℕ) (bytes a b : List ℕ) (o : Option ℕ) → position (is_at s) bytes ≡ o → option_map (cut_by bytes) o ≡ Some (a, b)
    → (bytes ≡ a ++ s ∷ b) × Free s a
cut_found s bytes a b None p e = absurd (none-some _ e)
cut_found s bytes a b (Some i) p e =
    let found = position-Some (is_at s) bytes i 0 p in
    let parts = some_pair_parts (take i bytes) a (drop (i + 1) bytes) b e in
    let is_s : get_or bytes i 0 ≡ s = eqb-true _ _ found.1 in
    let whole : bytes ≡ take i bytes ++ (get_or bytes i 0 ∷ drop (i + 1) bytes) =
    sym (take-append-drop i bytes) ∙ ap (λ t. take i bytes ++ t) (drop_more bytes i 0 found.0) in
    let P : ℕ → Type 0 = λ v. bytes ≡ take i bytes ++ (v ∷ drop (i + 1) bytes) in
    let free : Free s (take i bytes) = λ k d h. free_front s bytes i found.0 found.2 k d h in
    let Q : List ℕ → Type 0 = λ y. (bytes ≡ take i bytes ++ s ∷ y) × Free s (take i bytes) in
    let R : List ℕ → Type 0 = λ x. (bytes ≡ x ++ s ∷ b) × Free s x in
    subst R parts.0 (subst Q parts.1 (subst P is_s whole, free))
  where
    free_front : (s : ℕ) (bytes : List ℕ) (i : ℕ) → i < length bytes → ((k : ℕ) → k < i → eqb (get_or bytes k 0) s ≡ false)
        → (k d : ℕ) → k < length (take i bytes) → eqb (get_or (take i bytes) k d) s ≡ false
    free_front s bytes i within before k d h =
        let below : k < i = omega (arith, length-take i bytes) in
        let P : ℕ → Type 0 = λ v. eqb v s ≡ false in
        subst P (get_or_default bytes k 0 d (omega arith) ∙ sym (get_or-take i bytes k d below)) (before k below)

pub cut_some : (s : ℕ) (bytes a b : List ℕ) → cut s bytes ≡ Some (a, b) → (bytes ≡ a ++ s ∷ b) × Free s a
unfolding cut
cut_some s bytes a b e = cut_found s bytes a b (position (is_at s) bytes) refl e

-- bytes that are not cut have no separator
pub cut_missing : (s : ℕ) (bytes : List ℕ) → cut s bytes ≡ None → Free s bytes
unfolding cut
cut_missing s bytes e k d h =
    let past = not_found (position_or_len (is_at s) bytes) (length bytes) bytes e in
    fails_before_first (is_at s) bytes k d (omega arith)
  where
    by_test : (b : Bool) (i : ℕ) (bytes : List ℕ) → option_map (cut_by bytes) (cond b (Some i) None) ≡ None → b ≡ false
    by_test true i bytes e = absurd (none-some _ (sym e))
    by_test false i bytes e = refl

    not_found : (i n : ℕ) (bytes : List ℕ) → option_map (cut_by bytes) (cond (ltb i n) (Some i) None) ≡ None → n ≤ i
    not_found i n bytes e = ltb-false i n (by_test (ltb i n) i bytes e)
