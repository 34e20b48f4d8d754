-- Groups of elements as the code has them: one element more. By induction on the groups, and on the types.
use Rattle.std.proofs.Common.{◌≡◌, ℕ, zero, suc, ◌+◌, ◌<◌, ◌≤◌, Bool, true, false, cond, ◌||◌, List, [], ◌∷◌, ◌++◌, length, get_or, set, refl, ap, ◌∙◌, arith, length-append}
use Rattle.std.specs.Prelude.{not, if◌then◌else◌}
use Rattle.std.specs.Borrow.{Bor}
use Rattle.std.specs.List.{list_any, position_or_len}
use Rattle.std.specs.Str.{bytes_eq}
use Rattle.std.proofs.lemmas.List.{map-append}
use Rattle.indexmap.specs.IndexSet.{insert_key}
use Rattle.rule_generator.specs.GeneratedRules.{added}
use Rattle.rule_generator.specs.code.Groups.{with_member}
use Rattle.rule_generator.specs.code.Seen.{text_seen, texts_seen}
use Rattle.rule_meaning.specs.Values.{Value}

-- behind the last group
pub member-last : (groups : List (List Value)) (i : ℕ) (v : Value) → i ≡ length groups → with_member groups i v ≡ groups ++ (v ∷ []) ∷ []
member-last [] i v e = refl
member-last (g ∷ groups) zero v e = absurd (omega arith)
member-last (g ∷ groups) (suc i) v e = ap (λ gs. g ∷ gs) (member-last groups i v (omega arith))

-- in a group
pub member-set : (groups : List (List Value)) (i : ℕ) (v : Value) (d after : List Value) → i < length groups → after ≡ get_or groups i d ++ v ∷ [] → set groups i after ≡ with_member groups i v
member-set [] i v d after h e = absurd (omega arith)
member-set (g ∷ groups) zero v d after h e = ap (λ x. x ∷ groups) e
member-set (g ∷ groups) (suc i) v d after h e = ap (λ gs. g ∷ gs) (member-set groups i v d after (omega arith) e)

pub length-member-in : (groups : List (List Value)) (i : ℕ) (v : Value) → i < length groups → length (with_member groups i v) ≡ length groups
length-member-in [] i v h = absurd (omega arith)
length-member-in (g ∷ groups) zero v h = refl
length-member-in (g ∷ groups) (suc i) v h = ap suc (length-member-in groups i v (omega arith))

-- ---- keys of a set

-- `==` of texts
abbrev pub text-eq : Bor (List ℕ) → Bor (List ℕ) → Bool
text-eq a b = bytes_eq a.now b.now

any-seen : (k : Bor (List ℕ)) (keys : List (Bor (List ℕ))) → list_any (text-eq k) keys ≡ list_any (bytes_eq k.now) (texts_seen keys)
any-seen k [] = refl
any-seen k (j ∷ keys) = ap (λ b. bytes_eq k.now j.now || b) (any-seen k keys)

pub keys-seen : (keys : List (Bor (List ℕ))) (k : Bor (List ℕ)) → texts_seen (insert_key text-eq keys k) ≡ added bytes_eq (texts_seen keys) k.now
keys-seen keys k = by (list_any (text-eq k) keys) ∙ ap (λ b. if b then texts_seen keys else texts_seen keys ++ k.now ∷ []) (any-seen k keys)
  where
    by : (b : Bool) → texts_seen (if b then keys else keys ++ k ∷ []) ≡ (if b then texts_seen keys else texts_seen keys ++ k.now ∷ [])
    by true = refl
    by false = map-append text_seen keys (k ∷ [])

pub place-seen : (keys : List (Bor (List ℕ))) (k : Bor (List ℕ)) → position_or_len (text-eq k) keys ≡ position_or_len (bytes_eq k.now) (texts_seen keys)
place-seen [] k = refl
place-seen (j ∷ keys) k = ap (λ (n : ℕ). cond (not (bytes_eq k.now j.now)) (1 + n) 0) (place-seen keys k)

-- how many keys there are, by whether one is there
pub count-seen : (keys : List (Bor (List ℕ))) (k : Bor (List ℕ)) → length (insert_key text-eq keys k) ≡ length keys + (if list_any (text-eq k) keys then 0 else 1)
count-seen keys k = by (list_any (text-eq k) keys)
  where
    by : (b : Bool) → length (if b then keys else keys ++ k ∷ []) ≡ length keys + (if b then 0 else 1)
    by true = omega arith
    by false = length-append keys (k ∷ [])

pub place-within : {K : Type 0} (p : K → Bool) (keys : List K) → position_or_len p keys ≤ length keys
place-within p [] = omega arith
place-within p (k ∷ keys) = by (p k) (place-within p keys)
  where
    by : (b : Bool) → position_or_len p keys ≤ length keys → cond (not b) (1 + position_or_len p keys) 0 ≤ suc (length keys)
    by true h = omega arith
    by false h = omega arith

-- where the last place is that of a new key
pub length-member : {K : Type 0} (p : K → Bool) (keys : List K) (groups : List (List Value)) (v : Value) → length keys ≡ length groups
    → length (with_member groups (position_or_len p keys) v) ≡ length keys + (if list_any p keys then 0 else 1)
length-member p [] [] v e = refl
length-member p [] (g ∷ groups) v e = absurd (omega arith)
length-member p (k ∷ keys) [] v e = absurd (omega arith)
length-member p (k ∷ keys) (g ∷ groups) v e = by (p k) (length-member p keys groups v (omega arith))
  where
    by : (b : Bool) → length (with_member groups (position_or_len p keys) v) ≡ length keys + (if list_any p keys then 0 else 1)
        → length (with_member (g ∷ groups) (cond (not b) (1 + position_or_len p keys) 0) v) ≡ suc (length keys) + (if b || list_any p keys then 0 else 1)
    by true h = omega (arith, e)
    by false h =
        let next : 1 + position_or_len p keys ≡ suc (position_or_len p keys) = omega arith in
        ap (λ i. length (with_member (g ∷ groups) i v)) next ∙ ap suc h ∙ omega arith
