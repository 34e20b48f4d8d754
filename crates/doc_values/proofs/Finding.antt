-- What the rows of an unfinished tree say of its innermost collection.
use Rattle.std.proofs.Common.{◌≡◌, ℕ, suc, ◌+◌, ◌-◌, ◌<◌, Bool, true, false, List, [], ◌∷◌, ◌++◌, length, get_or, refl, sym, ap, inr, ◌∙◌, arith, Option, None, Some}
use Rattle.std.specs.Prelude.{is_some, not, ◌||◌, if◌then◌else◌}
use Rattle.std.proofs.lemmas.List.{get_or_at}
use Rattle.doc_values.specs.declared.node.Seat.{Seat}
use Rattle.doc_values.specs.Tree.{Forest, Nil, Node, size, count, key_is, has_key}
use Rattle.doc_values.specs.Unfinished.{Level, innermost, in_map}
use Rattle.doc_values.specs.code.WellFormed.{IsPending}
use Rattle.doc_values.specs.Places.{key_place}
use Rattle.doc_values.specs.code.Rows.{Row, rows, Open, open_of, open_rows, inside}
use Rattle.doc_values.specs.code.Index.{among, keyed, IsNewUnder, no_row}
use Rattle.doc_values.specs.code.Kept.{Steps, seat_of}
use Rattle.doc_values.proofs.Among.{row, IsApartFrom, among-append, among-no, among-none, among-here, tops, keyed-tops}
use Rattle.doc_values.proofs.Steps.{length-open}

-- the rows behind an open node's own are numbered from the number behind it
open_parts : (w : ℕ) (x : Level) (v : List Level) (done : Forest) → among 0 w (open_rows (x ∷ v) done) ≡ among 0 w (open_rows v x.before) ++ among (inside v + size x.before) w (row (length v) (inside v) (count x.before) x.label ∷ rows (suc (length v)) (inside (x ∷ v)) (inside (x ∷ v)) 0 done)
open_parts w x v done =
    let front : List Row = open_rows v x.before in
    let back : List Row = row (length v) (inside v) (count x.before) x.label ∷ rows (suc (length v)) (inside (x ∷ v)) (inside (x ∷ v)) 0 done in
    let len = length-open v x.before in
    let e : 0 + length front ≡ inside v + size x.before = omega arith in
    among-append 0 w front back ∙ ap (λ n. among 0 w front ++ among n w back) e

open_none : (w : ℕ) (v : List Level) (done : Forest) → inside v + size done < w → among 0 w (open_rows v done) ≡ []
open_none w [] done h = let off : 0 ≡ w → ⊥ = λ e. omega arith in let high : IsApartFrom w 0 done = inr (omega arith) in among-none w 0 0 0 0 done off high
open_none w (x ∷ v) done h =
    let off : inside v ≡ w → ⊥ = λ e. omega arith in
    let off_kids : inside (x ∷ v) ≡ w → ⊥ = λ e. omega arith in
    let high : IsApartFrom w (inside (x ∷ v)) done = inr (omega arith) in
    let inner : List Row = rows (suc (length v)) (inside (x ∷ v)) (inside (x ∷ v)) 0 done in
    open_parts w x v done
    ∙ ap (λ t. t ++ among (inside v + size x.before) w (row (length v) (inside v) (count x.before) x.label ∷ inner)) (open_none w v x.before (omega arith))
    ∙ among-no (inside v + size x.before) w (row (length v) (inside v) (count x.before) x.label) inner off
    ∙ among-none w (suc (length v)) (inside (x ∷ v)) (inside (x ∷ v)) 0 done off_kids high

among-open : (v : List Level) (done : Forest) → among 0 (inside v) (open_rows v done) ≡ tops (length v) (inside v) (inside v) 0 done
among-open [] done = among-here 0 0 0 0 done (omega arith)
among-open (x ∷ v) done =
    let w : ℕ = inside (x ∷ v) in
    let off : inside v ≡ w → ⊥ = λ e. omega arith in
    let inner : List Row = rows (suc (length v)) w w 0 done in
    open_parts w x v done
    ∙ ap (λ t. t ++ among (inside v + size x.before) w (row (length v) (inside v) (count x.before) x.label ∷ inner)) (open_none w v x.before (omega arith))
    ∙ among-no (inside v + size x.before) w (row (length v) (inside v) (count x.before) x.label) inner off
    ∙ among-here (suc (length v)) w w 0 done (omega arith)

keyed-open : (v : List Level) (done : Forest) (k : List ℕ) → keyed k (among 0 (inside v) (open_rows v done)) ≡ key_place (inside v) done k
keyed-open v done k = ap (keyed k) (among-open v done) ∙ keyed-tops (length v) (inside v) (inside v) 0 done k

has_if : (n : ℕ) (o : Option ℕ) (b c : Bool) → is_some o ≡ c → is_some (if b then Some n else o) ≡ (b || c)
has_if n o true c e = refl
has_if n o false c e = e

pub key_has : (n : ℕ) (f : Forest) (k : List ℕ) → is_some (key_place n f k) ≡ has_key f k
key_has n Nil k = refl
key_has n (Node l kids rest) k = has_if n (key_place (n + 1 + size kids) rest k) (key_is l.key k) (has_key rest k) (key_has (n + 1 + size kids) rest k)

none_is : (o : Option ℕ) → is_some o ≡ false → o ≡ None
none_is None e = refl
none_is (Some n) e = absurd (cc)

-- whether the innermost collection has a key
pub key_found : (s : Seat) (rs : List Row) (k : List ℕ) → seat_of (open_of s.depth rs).outer (open_of s.depth rs).done ≡ s → Steps s.depth rs → is_some (keyed k (among 0 s.under rs)) ≡ has_key (open_of s.depth rs).done k
key_found s rs k next w =
    let o : Open = open_of s.depth rs in
    ap (λ n. is_some (keyed k (among 0 n rs))) (sym (ap (λ (x : Seat). x.under) next)) ∙ ap (λ (t : List Row). is_some (keyed k (among 0 (inside o.outer) t))) (sym w.whole) ∙ ap is_some (keyed-open o.outer o.done k) ∙ key_has (inside o.outer) o.done k

pending_new : (b : Bool) (rs : List Row) (u : ℕ) (done : Forest) (key : Option (List ℕ)) → ((k : List ℕ) → is_some (keyed k (among 0 u rs)) ≡ has_key done k) → IsPending b done key → IsNewUnder rs u key
pending_new true rs u done (Some k) found p = none_is (keyed k (among 0 u rs)) (found k ∙ p)
pending_new true rs u done None found p = tt
pending_new false rs u done (Some k) found p = absurd (cc)
pending_new false rs u done None found p = tt

-- the key that awaits its value is new
pub new_under : (s : Seat) (rs : List Row) (key : Option (List ℕ)) → seat_of (open_of s.depth rs).outer (open_of s.depth rs).done ≡ s → Steps s.depth rs → IsPending (in_map (open_of s.depth rs).outer) (open_of s.depth rs).done key → IsNewUnder rs s.under key
new_under s rs key next w p = let o : Open = open_of s.depth rs in pending_new (in_map o.outer) rs s.under o.done key (λ k. key_found s rs k next w) p

-- the kind of the innermost open collection
record Inner (v : List Level) (done : Forest) (u : ℕ) : Type 0 where
  below : u - 1 < length (open_rows v done)
  kind : Some (get_or (open_rows v done) (u - 1) no_row).label.kind ≡ innermost v

inner_of : (v : List Level) (done : Forest) (u : ℕ) → 0 < length v → inside v ≡ u → Inner v done u
inner_of [] done u h e = absurd (omega arith)
inner_of (x ∷ v) done u h e =
    let len = length-open v x.before in
    let whole = length-open (x ∷ v) done in
    let inner : List Row = rows (suc (length v)) (inside (x ∷ v)) (inside (x ∷ v)) 0 done in
    let n : length (open_rows v x.before) ≡ u - 1 = omega arith in
    record {
      below = omega arith;
      kind = ap (λ (r : Row). Some r.label.kind) (get_or_at (open_rows v x.before) (row (length v) (inside v) (count x.before) x.label) inner no_row (u - 1) n);
    }

pub inner_kind : (s : Seat) (rs : List Row) → seat_of (open_of s.depth rs).outer (open_of s.depth rs).done ≡ s → Steps s.depth rs → 0 < s.depth → (s.under - 1 < length rs) × (Some (get_or rs (s.under - 1) no_row).label.kind ≡ innermost (open_of s.depth rs).outer)
inner_kind s rs next w h =
    let o : Open = open_of s.depth rs in
    let deep = w.depth in
    let i = inner_of o.outer o.done s.under (omega arith) (ap (λ (x : Seat). x.under) next) in
    let long = ap (λ (t : List Row). length t) w.whole in
    let b = i.below in
    (omega arith, ap (λ (t : List Row). Some (get_or t (s.under - 1) no_row).label.kind) (sym w.whole) ∙ i.kind)

pub inner_none : (s : Seat) (rs : List Row) → Steps s.depth rs → s.depth ≡ 0 → None ≡ innermost (open_of s.depth rs).outer
inner_none s rs w e = none_of (open_of s.depth rs).outer (w.depth ∙ e)
  where
    none_of : (v : List Level) → length v ≡ 0 → None ≡ innermost v
    none_of [] h = refl
    none_of (x ∷ v) h = absurd (omega arith)

pub not_false : (b : Bool) → false ≡ not b → b ≡ true
not_false true e = refl
not_false false e = absurd cc

pub not_true : (b : Bool) → true ≡ not b → b ≡ false
not_true true e = absurd cc
not_true false e = refl
