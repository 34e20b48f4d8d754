-- The builder's rows after each event.
use Rattle.std.proofs.Common.{◌≡◌, ℕ, zero, suc, ◌+◌, ◌<◌, ◌≤◌, Bool, false, List, [], ◌∷◌, ◌++◌, length, refl, sym, ap, ◌∙◌, subst, arith, append_assoc, append-nil, length-append, Option, None, Some}
use Rattle.doc_values.specs.declared.kind.Kind.{Kind}
use Rattle.doc_values.specs.declared.node.Seat.{Seat}
use Rattle.doc_values.specs.Tree.{Label, Forest, Nil, Node, snoc, has_key, holds_values, has_text, size, count}
use Rattle.doc_values.specs.Unfinished.{Level, Unfinished, with_value, with_open, open_kind, with_end, AwaitsValue, AwaitsKey, MayEnd}
use Rattle.doc_values.specs.code.Rows.{Row, rows, all_rows, Open, nothing, entered, added, closed, closed_of, closed_to, placed_all, open_of, tree_of, open_rows, inside}
use Rattle.doc_values.specs.code.Laws.{placed_all-append, closed_at, closed_to-same, closed_to-more, closed_to-length, closed_to-shorter, closed_to-twice}
use Rattle.doc_values.proofs.Among.{row, length-rows}
use Rattle.doc_values.proofs.WellFormed.{IsUnfinished-value, IsUnfinished-open, IsUnfinished-key, IsUnfinished-end}
use Rattle.doc_values.specs.code.WellFormed.{IsUnfinished}
use Rattle.doc_values.specs.code.Index.{row_of}
use Rattle.doc_values.specs.code.Growth.{Awaited, Growth, key_of, IsFor}
use Rattle.doc_values.specs.code.Kept.{unfinished, Steps, seat_of, seats_of, Kept, IsGrowing}

pub rows-snoc : (d u n i : ℕ) (f : Forest) (l : Label) (kids : Forest) → rows d u n i (snoc f l kids) ≡ rows d u n i f ++ (row d u (i + count f) l ∷ rows (suc d) (suc (n + size f)) (suc (n + size f)) 0 kids)
rows-snoc d u n i Nil l kids =
    let e : i ≡ i + 0 = omega arith in
    let m : suc n ≡ suc (n + 0) = omega arith in
    ap (λ t. row d u i l ∷ t) (append-nil (rows (suc d) (suc n) (suc n) 0 kids) ∙ ap (λ a. rows (suc d) a a 0 kids) m) ∙ ap (λ a. row d u a l ∷ rows (suc d) (suc (n + 0)) (suc (n + 0)) 0 kids) e
rows-snoc d u n i (Node m ks rest) l kids =
    let before : List Row = rows (suc d) (suc n) (suc n) 0 ks in
    let more : List Row = rows d u (suc (n + size ks)) (suc i) rest in
    let e : suc i + count rest ≡ i + suc (count rest) = omega arith in
    let s : suc (suc (n + size ks) + size rest) ≡ suc (n + suc (size ks + size rest)) = omega arith in
    let next = rows-snoc d u (suc (n + size ks)) (suc i) rest l kids ∙ ap (λ a. more ++ (row d u a l ∷ rows (suc d) (suc (suc (n + size ks) + size rest)) (suc (suc (n + size ks) + size rest)) 0 kids)) e ∙ ap (λ a. more ++ (row d u (i + suc (count rest)) l ∷ rows (suc d) a a 0 kids)) s in
    ap (λ t. row d u i m ∷ (before ++ t)) next ∙ ap (λ t. row d u i m ∷ t) (sym (append_assoc before more (row d u (i + suc (count rest)) l ∷ rows (suc d) (suc (n + suc (size ks + size rest))) (suc (n + suc (size ks + size rest))) 0 kids)))

pub open_of-added : (d u i : ℕ) (rs : List Row) (l : Label) → length (open_of d rs).outer ≡ d → open_of d (rs ++ (row d u i l ∷ [])) ≡ added l (open_of d rs)
open_of-added d u i rs l h =
    let o : Open = open_of d rs in
    ap (closed_at d) (placed_all-append nothing rs (row d u i l ∷ [])) ∙ closed_to-more d (record { label = l; before = o.done }) o.outer Nil (omega arith) ∙ closed_to-same d o.outer (snoc o.done l Nil) (omega arith)

pub open_of-entered : (d u i : ℕ) (rs : List Row) (l : Label) → length (open_of d rs).outer ≡ d → open_of (suc d) (rs ++ (row d u i l ∷ [])) ≡ entered l (open_of d rs)
open_of-entered d u i rs l h =
    let o : Open = open_of d rs in
    ap (closed_at (suc d)) (placed_all-append nothing rs (row d u i l ∷ [])) ∙ closed_to-same (suc d) (record { label = l; before = o.done } ∷ o.outer) Nil (omega arith)

closed_at-closed : (d : ℕ) (v : List Level) (done : Forest) → length v ≡ suc d → closed_to d v done ≡ closed_of v done
closed_at-closed d [] done h = absurd (omega arith)
closed_at-closed d (x ∷ v) done h = closed_to-more d x v done (omega arith) ∙ closed_to-same d v (snoc x.before x.label done) (omega arith)

pub open_of-closed : (d : ℕ) (rs : List Row) → length (open_of (suc d) rs).outer ≡ suc d → open_of d rs ≡ closed (open_of (suc d) rs)
open_of-closed d rs h =
    let a : Open = placed_all nothing rs in
    let o : Open = open_of (suc d) rs in
    sym (closed_to-twice d (suc d) a.outer a.done (omega arith)) ∙ closed_at-closed d o.outer o.done h

pub length-open : (v : List Level) (done : Forest) → length (open_rows v done) ≡ inside v + size done
length-open [] done = let e = length-rows 0 0 0 0 done in omega arith
length-open (x ∷ v) done =
    let a = length-open v x.before in
    let b = length-rows (suc (length v)) (inside (x ∷ v)) (inside (x ∷ v)) 0 done in
    omega (arith, length-append (open_rows v x.before) (row (length v) (inside v) (count x.before) x.label ∷ rows (suc (length v)) (inside (x ∷ v)) (inside (x ∷ v)) 0 done))

open_rows-added : (v : List Level) (done : Forest) (l : Label) → open_rows v (snoc done l Nil) ≡ open_rows v done ++ (row (length v) (inside v) (count done) l ∷ [])
open_rows-added [] done l = let e : 0 + count done ≡ count done = omega arith in rows-snoc 0 0 0 0 done l Nil ∙ ap (λ a. all_rows done ++ (row 0 0 a l ∷ [])) e
open_rows-added (x ∷ v) done l =
    let d : ℕ = suc (length v) in
    let n : ℕ = inside (x ∷ v) in
    let e : 0 + count done ≡ count done = omega arith in
    let inner = rows-snoc d n n 0 done l Nil ∙ ap (λ a. rows d n n 0 done ++ (row d n a l ∷ [])) e in
    ap (λ t. open_rows v x.before ++ (row (length v) (inside v) (count x.before) x.label ∷ t)) inner ∙ sym (append_assoc (open_rows v x.before) (row (length v) (inside v) (count x.before) x.label ∷ rows d n n 0 done) (row d n (count done) l ∷ []))

open_rows-closed : (v : List Level) (done : Forest) → (let o : Open = closed_of v done in open_rows o.outer o.done) ≡ open_rows v done
open_rows-closed [] done = refl
open_rows-closed (x ∷ []) done =
    let e : 0 + count x.before ≡ count x.before = omega arith in
    rows-snoc 0 0 0 0 x.before x.label done ∙ ap (λ a. all_rows x.before ++ (row 0 0 a x.label ∷ rows 1 (suc (0 + size x.before)) (suc (0 + size x.before)) 0 done)) e
open_rows-closed (x ∷ (y ∷ v)) done =
    let d : ℕ = suc (length v) in
    let n : ℕ = inside (y ∷ v) in
    let e : 0 + count x.before ≡ count x.before = omega arith in
    let inner = rows-snoc d n n 0 x.before x.label done ∙ ap (λ a. rows d n n 0 x.before ++ (row d n a x.label ∷ rows (suc d) (suc (n + size x.before)) (suc (n + size x.before)) 0 done)) e in
    ap (λ t. open_rows v y.before ++ (row (length v) (inside v) (count y.before) y.label ∷ t)) inner
    ∙ sym (append_assoc (open_rows v y.before) (row (length v) (inside v) (count y.before) y.label ∷ rows d n n 0 x.before) (row d n (count x.before) x.label ∷ rows (suc d) (suc (n + size x.before)) (suc (n + size x.before)) 0 done))

-- the row at a seat that is the next one
seated : (v : List Level) (done : Forest) (s : Seat) (l : Label) → seat_of v done ≡ s → row (length v) (inside v) (count done) l ≡ row_of s l
seated v done s l e = ap (λ x. row_of x l) e

pub Steps-added : (s : Seat) (rs : List Row) (l : Label) → seat_of (open_of s.depth rs).outer (open_of s.depth rs).done ≡ s → Steps s.depth rs → Steps s.depth (rs ++ (row_of s l ∷ []))
Steps-added s rs l here w =
    let d : ℕ = s.depth in
    let o : Open = open_of d rs in
    let e = open_of-added d s.under s.index rs l w.depth in
    record {
      whole = ap (λ (o : Open). open_rows o.outer o.done) e ∙ open_rows-added o.outer o.done l ∙ ap (λ t. t ++ (row (length o.outer) (inside o.outer) (count o.done) l ∷ [])) w.whole ∙ ap (λ r. rs ++ (r ∷ [])) (seated o.outer o.done s l here);
      depth = ap (λ (o : Open). length o.outer) e ∙ w.depth;
    }

pub Steps-entered : (s : Seat) (rs : List Row) (l : Label) → seat_of (open_of s.depth rs).outer (open_of s.depth rs).done ≡ s → Steps s.depth rs → Steps (suc s.depth) (rs ++ (row_of s l ∷ []))
Steps-entered s rs l here w =
    let d : ℕ = s.depth in
    let o : Open = open_of d rs in
    let e = open_of-entered d s.under s.index rs l w.depth in
    record {
      whole = ap (λ (o : Open). open_rows o.outer o.done) e ∙ ap (λ t. t ++ (row (length o.outer) (inside o.outer) (count o.done) l ∷ [])) w.whole ∙ ap (λ r. rs ++ (r ∷ [])) (seated o.outer o.done s l here);
      depth = ap (λ (o : Open). length o.outer) e ∙ ap suc w.depth;
    }

pub Steps-closed : (d : ℕ) (rs : List Row) → Steps (suc d) rs → Steps d rs
Steps-closed d rs s =
    let o : Open = open_of (suc d) rs in
    let e = open_of-closed d rs s.depth in
    record {
      whole = ap (λ (o : Open). open_rows o.outer o.done) e ∙ open_rows-closed o.outer o.done ∙ s.whole;
      depth = let a : Open = placed_all nothing rs in let h : length o.outer ≡ suc d = s.depth in let shorter : length o.outer ≤ length a.outer = closed_to-shorter (suc d) a.outer a.done in closed_to-length d a.outer a.done (omega arith);
    }

abbrev with : Option (List ℕ) → Open → Unfinished
with k o = record { outer = o.outer; done = o.done; key = k }

closed_ended : (k : Option (List ℕ)) (outer : List Level) (done : Forest) → with None (closed_of outer done) ≡ with_end (record { outer = outer; done = done; key = k })
closed_ended k [] done = refl
closed_ended k (v ∷ vs) done = refl

pub unfinished-end : (d e : ℕ) (rs : List Row) (k : Option (List ℕ)) → d ≡ suc e → Steps d rs → unfinished e rs None ≡ with_end (unfinished d rs k)
unfinished-end zero e rs k h s = absurd (omega arith)
unfinished-end (suc d) e rs k h s =
    let q : e ≡ d = omega arith in
    let o : Open = open_of (suc d) rs in
    ap (λ n. unfinished n rs None) q ∙ ap (with None) (open_of-closed d rs s.depth) ∙ closed_ended k o.outer o.done

pub unfinished-value : (s : Seat) (rs : List Row) (kind : Kind) (text : List ℕ) (at : ℕ) (k : Option (List ℕ)) → Steps s.depth rs → unfinished s.depth (rs ++ (row_of s (record { kind = kind; text = text; key = k; at = at }) ∷ [])) None ≡ with_value kind text at (unfinished s.depth rs k)
unfinished-value s rs kind text at k w = ap (with None) (open_of-added s.depth s.under s.index rs (record { kind = kind; text = text; key = k; at = at }) w.depth)

pub unfinished-open : (s : Seat) (rs : List Row) (kind : Kind) (at : ℕ) (k : Option (List ℕ)) → Steps s.depth rs → unfinished (s.depth + 1) (rs ++ (row_of s (record { kind = kind; text = []; key = k; at = at }) ∷ [])) None ≡ with_open kind at (unfinished s.depth rs k)
unfinished-open s rs kind at k w =
    let l : Label = record { kind = kind; text = []; key = k; at = at } in
    let e : s.depth + 1 ≡ suc s.depth = omega arith in
    ap (λ n. unfinished n (rs ++ (row_of s l ∷ [])) None) e ∙ ap (with None) (open_of-entered s.depth s.under s.index rs l w.depth)

count-snoc : (f : Forest) (l : Label) (kids : Forest) → count (snoc f l kids) ≡ suc (count f)
count-snoc Nil l kids = refl
count-snoc (Node m ks rest) l kids = ap suc (count-snoc rest l kids)

-- one place further
abbrev pub past : Seat → Seat
past s = record { depth = s.depth; under = s.under; index = s.index + 1 }

past_is : (v : List Level) (done : Forest) (l : Label) (kids : Forest) (s : Seat) → seat_of v done ≡ s → seat_of v (snoc done l kids) ≡ past s
past_is v done l kids s e =
    let n : count (snoc done l kids) ≡ count done + 1 = let a = count-snoc done l kids in omega arith in
    let m : seat_of v (snoc done l kids) ≡ past (seat_of v done) = ap (λ c. let r : Seat = record { depth = length v; under = inside v; index = c } in r) n in
    m ∙ ap past e

pub Kept-value : (seats : List Seat) (s : Seat) (rs : List Row) (k : Option (List ℕ)) (kind : Kind) (text : List ℕ) (at : ℕ) (u : Unfinished) → unfinished s.depth rs k ≡ u → AwaitsValue u → holds_values kind ≡ false → (has_text kind ≡ false → text ≡ []) → length (rs ++ (row_of s (record { kind = kind; text = text; key = k; at = at }) ∷ [])) < 2147483648 → Kept seats s rs k
    → Kept seats (past s) (rs ++ (row_of s (record { kind = kind; text = text; key = k; at = at }) ∷ [])) None
Kept-value seats s rs k kind text at u v there plain no_text m w =
    let l : Label = record { kind = kind; text = text; key = k; at = at } in
    let o : Open = open_of s.depth rs in
    let e = open_of-added s.depth s.under s.index rs l w.steps.depth in
    record {
      steps = Steps-added s rs l w.next w.steps;
      behind = ap (λ (o : Open). seats_of o.outer) e ∙ w.behind;
      next = ap (λ (o : Open). seat_of o.outer o.done) e ∙ past_is o.outer o.done l Nil s w.next;
      formed = subst IsUnfinished (sym (unfinished-value s rs kind text at k w.steps)) (IsUnfinished-value kind text at (unfinished s.depth rs k) (subst AwaitsValue (sym v) there) plain no_text w.formed);
      small = m;
    }

-- where the first value in it stands
abbrev pub inner : Seat → ℕ → Seat
inner s n = record { depth = s.depth + 1; under = n + 1; index = 0 }

pub Kept-open : (seats : List Seat) (s : Seat) (rs : List Row) (n : ℕ) (k : Option (List ℕ)) (map : Bool) (at : ℕ) (u : Unfinished) → unfinished s.depth rs k ≡ u → AwaitsValue u → s.depth < 128 → n ≡ length rs → length (rs ++ (row_of s (record { kind = open_kind map; text = []; key = k; at = at }) ∷ [])) < 2147483648 → Kept seats s rs k
    → Kept (seats ++ (past s ∷ [])) (inner s n) (rs ++ (row_of s (record { kind = open_kind map; text = []; key = k; at = at }) ∷ [])) None
Kept-open seats s rs n k map at u v there h number m w =
    let l : Label = record { kind = open_kind map; text = []; key = k; at = at } in
    let o : Open = open_of s.depth rs in
    let d : suc s.depth ≡ s.depth + 1 = omega arith in
    let e : open_of (s.depth + 1) (rs ++ (row_of s l ∷ [])) ≡ entered l o = ap (λ x. open_of x (rs ++ (row_of s l ∷ []))) (sym d) ∙ open_of-entered s.depth s.under s.index rs l w.steps.depth in
    let deep = w.steps.depth in
    let long : inside o.outer + size o.done ≡ length rs = sym (length-open o.outer o.done) ∙ ap (λ (t : List Row). length t) w.steps.whole in
    let here : suc (inside o.outer + size o.done) ≡ n + 1 = omega arith in
    let depth : suc (length o.outer) ≡ s.depth + 1 = omega arith in
    let last : Seat = record { depth = length o.outer; under = inside o.outer; index = suc (count o.done) } in
    let last_is : last ≡ past s = let q : suc (count o.done) ≡ count o.done + 1 = omega arith in ap (λ c. let r : Seat = record { depth = length o.outer; under = inside o.outer; index = c } in r) q ∙ ap past w.next in
    record {
      steps = subst (λ x. Steps x (rs ++ (row_of s l ∷ []))) d (Steps-entered s rs l w.next w.steps);
      behind = ap (λ (o : Open). seats_of o.outer) e ∙ ap (λ t. t ++ (last ∷ [])) w.behind ∙ ap (λ t. seats ++ (t ∷ [])) last_is;
      next = ap (λ (o : Open). seat_of o.outer o.done) e ∙ ap (λ a. let r : Seat = record { depth = suc (length o.outer); under = a; index = 0 } in r) here ∙ ap (λ a. let r : Seat = record { depth = a; under = n + 1; index = 0 } in r) depth;
      formed = subst IsUnfinished (sym (unfinished-open s rs (open_kind map) at k w.steps)) (IsUnfinished-open map at (unfinished s.depth rs k) (subst AwaitsValue (sym v) there) (omega arith) w.formed);
      small = m;
    }

pub Kept-key : (seats : List Seat) (s : Seat) (rs : List Row) (k : Option (List ℕ)) (text : List ℕ) (u : Unfinished) → unfinished s.depth rs k ≡ u → AwaitsKey u → has_key (open_of s.depth rs).done text ≡ false → Kept seats s rs k → Kept seats s rs (Some text)
Kept-key seats s rs k text u v there new w = record { steps = w.steps; behind = w.behind; next = w.next; formed = IsUnfinished-key text (unfinished s.depth rs k) (subst AwaitsKey (sym v) there) new w.formed; small = w.small }

-- lists that end alike
apart : {X : Type 0} → (xs ys : List X) (a b : X) → xs ++ (a ∷ []) ≡ ys ++ (b ∷ []) → (xs ≡ ys) × (a ≡ b)
apart [] [] a b e = (refl, cc)
apart [] (y ∷ []) a b e = absurd (cc)
apart [] (y ∷ (z ∷ ys)) a b e = absurd (cc)
apart (x ∷ []) [] a b e = absurd (cc)
apart (x ∷ (z ∷ xs)) [] a b e = absurd (cc)
apart {X} (x ∷ xs) (y ∷ ys) a b e =
    let tails : xs ++ (a ∷ []) ≡ ys ++ (b ∷ []) = cc in
    let heads : x ≡ y = cc in
    let r = apart xs ys a b tails in
    (ap (λ (t : List X). x ∷ t) r.0 ∙ ap (λ (z : X). z ∷ ys) heads, r.1)

-- behind the innermost collection
record Behind (outer : List Level) (done : Forest) (seats : List Seat) (b : Seat) : Type 0 where
  rest : seats_of (closed_of outer done).outer ≡ seats
  next : seat_of (closed_of outer done).outer (closed_of outer done).done ≡ b
  depth : length outer ≡ suc b.depth

none_behind : (seats : List Seat) (b : Seat) → [] ≡ seats ++ (b ∷ []) → ⊥
none_behind [] b e = cc
none_behind (s ∷ seats) b e = cc

is_behind : (outer : List Level) (done : Forest) (seats : List Seat) (b : Seat) → seats_of outer ≡ seats ++ (b ∷ []) → Behind outer done seats b
is_behind [] done seats b e = absurd (none_behind seats b e)
is_behind (x ∷ vs) done seats b e =
    let last : Seat = record { depth = length vs; under = inside vs; index = suc (count x.before) } in
    let r = apart (seats_of vs) seats last b e in
    record {
      rest = r.0;
      next = ap (λ c. let s : Seat = record { depth = length vs; under = inside vs; index = c } in s) (count-snoc x.before x.label done) ∙ r.1;
      depth = ap (λ (s : Seat). suc s.depth) r.1;
    }

pub Kept-end : (seats : List Seat) (s : Seat) (rs : List Row) (k : Option (List ℕ)) (rest : List Seat) (b : Seat) (u : Unfinished) → unfinished s.depth rs k ≡ u → MayEnd u → seats ≡ rest ++ (b ∷ []) → Kept seats s rs k → Kept rest b rs None × (unfinished b.depth rs None ≡ with_end (unfinished s.depth rs k))
Kept-end seats s rs k rest b u v there e w =
    let o : Open = open_of s.depth rs in
    let q = is_behind o.outer o.done rest b (w.behind ∙ e) in
    let deep : s.depth ≡ suc b.depth = sym w.steps.depth ∙ q.depth in
    let steps = subst (λ n. Steps n rs) deep w.steps in
    let same : open_of b.depth rs ≡ closed o = open_of-closed b.depth rs steps.depth ∙ ap (λ n. closed (open_of n rs)) (sym deep) in
    let ends = unfinished-end s.depth b.depth rs k deep w.steps in (
      record {
        steps = Steps-closed b.depth rs steps;
        behind = ap (λ (o : Open). seats_of o.outer) same ∙ q.rest;
        next = ap (λ (o : Open). seat_of o.outer o.done) same ∙ q.next;
        formed = subst IsUnfinished (sym ends) (IsUnfinished-end (unfinished s.depth rs k) (subst MayEnd (sym v) there) w.formed);
        small = w.small;
      },
      ends,
    )

no_outer : (v : List Level) (done : Forest) → length v ≡ 0 → open_rows v done ≡ all_rows done
no_outer [] done h = refl
no_outer (x ∷ v) done h = absurd (omega arith)

pub whole_rows : (rs : List Row) → Steps 0 rs → rs ≡ all_rows (tree_of rs)
whole_rows rs s = let o : Open = open_of 0 rs in sym s.whole ∙ no_outer o.outer o.done s.depth

count_le : (f : Forest) → count f ≤ size f
count_le Nil = omega arith
count_le (Node l k r) = let h = count_le r in omega arith

pub index_small : (s : Seat) (rs : List Row) → seat_of (open_of s.depth rs).outer (open_of s.depth rs).done ≡ s → Steps s.depth rs → s.index ≤ length rs
index_small s rs next w =
    let o : Open = open_of s.depth rs in
    let i : count o.done ≡ s.index = ap (λ (x : Seat). x.index) next in
    let long : inside o.outer + size o.done ≡ length rs = sym (length-open o.outer o.done) ∙ ap (λ (t : List Row). length t) w.whole in
    let c = count_le o.done in
    omega arith

-- what a builder keeps of a tree that grows
pub IsGrowing-of : (seats : List Seat) (s : Seat) (g : Growth) (rs : List Row) (key : Option Awaited) → g.rows ≡ rs → g.key ≡ key → Kept seats s rs (key_of key) → IsFor s.under key → IsGrowing seats s g
IsGrowing-of seats s g rs key e f k a = record {
  kept = subst (λ (t : List Row). Kept seats s t (key_of g.key)) (sym e) (subst (λ (o : Option Awaited). Kept seats s rs (key_of o)) (sym f) k);
  awaited = subst (IsFor s.under) (sym f) a;
}

pub no_key : (key : Option Awaited) → key_of key ≡ None → key ≡ None
no_key None e = refl
no_key (Some k) e = absurd cc
