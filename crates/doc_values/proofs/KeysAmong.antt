-- Whether a key is there under a number, by the rows one by one.
use Rattle.std.proofs.Common.{◌≡◌, ℕ, zero, suc, ◌<◌, Bool, true, false, List, [], ◌∷◌, length, refl, ap, ◌∙◌, arith, Option, None, Some}
use Rattle.std.specs.Prelude.{is_some, nat_eq, if◌then◌else◌, slice_index_or}
use Rattle.std.proofs.lemmas.Bool.Decides.{nat_tests}
use Rattle.std.proofs.lemmas.Slice.Eq.{bytes_eq-Decides}
use Rattle.doc_values.specs.Tree.{key_is}
use Rattle.doc_values.specs.code.Rows.{Row}
use Rattle.doc_values.specs.code.Index.{among, keyed, no_row}
use Rattle.doc_values.proofs.Among.{among-yes}

-- the row with a number has a key, and stands under a number
abbrev pub IsKeyedAt : List Row → ℕ → List ℕ → ℕ → Type 0
IsKeyedAt rs i k w = ((slice_index_or rs i no_row).label.key ≡ Some k) × ((slice_index_or rs i no_row).under ≡ w)

is_key : (o : Option (List ℕ)) (k : List ℕ) → key_is o k ≡ true → o ≡ Some k
is_key None k h = absurd cc
is_key (Some j) k h = ap Some ((bytes_eq-Decides j k).0 h)

key_is-same : (k : List ℕ) → key_is (Some k) k ≡ true
key_is-same k = (bytes_eq-Decides k k).1 refl

none_more : (n : ℕ) (r : Row) (k : List ℕ) (o : Option ℕ) (b : Bool) → key_is r.label.key k ≡ b → (r.label.key ≡ Some k → ⊥) → o ≡ None → (if b then Some n else o) ≡ None
none_more n r k o true e h none = absurd (h (is_key r.label.key k e))
none_more n r k o false e h none = none

none_here : (n w : ℕ) (k : List ℕ) (r : Row) (cs : List (ℕ × Row)) (b : Bool) → nat_eq r.under w ≡ b → (r.label.key ≡ Some k → r.under ≡ w → ⊥) → keyed k cs ≡ None → keyed k (if b then (n, r) ∷ cs else cs) ≡ None
none_here n w k r cs true e h rest = let at : r.under ≡ w = grind (arith, nat_tests) in none_more n r k (keyed k cs) (key_is r.label.key k) refl (λ q. h q at) rest
none_here n w k r cs false e h rest = rest

none_among : (n w : ℕ) (k : List ℕ) (rs : List Row) → ((i : ℕ) → i < length rs → IsKeyedAt rs i k w → ⊥) → keyed k (among n w rs) ≡ None
none_among n w k [] h = refl
none_among n w k (r ∷ rs) h = none_here n w k r (among (suc n) w rs) (nat_eq r.under w) refl (λ q at. h 0 (omega arith) (q, at)) (none_among (suc n) w k rs (λ i l. h (suc i) (omega arith)))

pub keyed_nowhere : (w : ℕ) (k : List ℕ) (rs : List Row) → ((i : ℕ) → i < length rs → IsKeyedAt rs i k w → ⊥) → keyed k (among 0 w rs) ≡ None
keyed_nowhere w k rs h = none_among 0 w k rs h

some_more : (n : ℕ) (b : Bool) (o : Option ℕ) → is_some o ≡ true → is_some (if b then Some n else o) ≡ true
some_more n true o e = refl
some_more n false o e = e

some_here : (n : ℕ) (k : List ℕ) (r : Row) (cs : List (ℕ × Row)) (b : Bool) → is_some (keyed k cs) ≡ true → is_some (keyed k (if b then (n, r) ∷ cs else cs)) ≡ true
some_here n k r cs true e = some_more n (key_is r.label.key k) (keyed k cs) e
some_here n k r cs false e = e

some_among : (n w : ℕ) (k : List ℕ) (rs : List Row) (i : ℕ) → i < length rs → IsKeyedAt rs i k w → is_some (keyed k (among n w rs)) ≡ true
some_among n w k [] i l h = absurd (omega arith)
some_among n w k (r ∷ rs) zero l (e, at) =
    ap (λ cs. is_some (keyed k cs)) (among-yes n w r rs at)
    ∙ ap (λ b. is_some (if b then Some n else keyed k (among (suc n) w rs))) (ap (λ o. key_is o k) e ∙ key_is-same k)
some_among n w k (r ∷ rs) (suc i) l h = some_here n k r (among (suc n) w rs) (nat_eq r.under w) (some_among (suc n) w k rs i (omega arith) h)

pub keyed_somewhere : (w : ℕ) (k : List ℕ) (rs : List Row) (i : ℕ) → i < length rs → IsKeyedAt rs i k w → is_some (keyed k (among 0 w rs)) ≡ true
keyed_somewhere w k rs i l h = some_among 0 w k rs i l h
