-- In a well-formed tree each row's key is new under its number, by induction on the values side by side.
use Rattle.std.proofs.Common.{◌≡◌, ℕ, zero, suc, ◌+◌, ◌<◌, ◌≤◌, Bool, true, false, ◌||◌, List, length, take, get_or, refl, sym, ap, ◌∙◌, subst, arith, Option, None, Some}
use Rattle.std.proofs.lemmas.Bool.{true≢false}
use Rattle.std.proofs.lemmas.List.{get_or-take, get_or_default, length-take-le}
use Rattle.std.proofs.lemmas.Slice.Eq.{bytes_eq-Decides}
use Rattle.doc_values.specs.Tree.{Label, Forest, Nil, Node, snoc, size, count, key_is, has_key, is_map, IsKeyed, AreValues, IsTree}
use Rattle.doc_values.specs.Places.{label_at, kids_at}
use Rattle.doc_values.specs.code.Rows.{Row, all_rows}
use Rattle.doc_values.specs.code.Index.{among, tally, no_row, IsNewUnder, AreNew}
use Rattle.doc_values.proofs.Among.{length-rows, tops, length-tops, among-here}
use Rattle.doc_values.proofs.Slots.{at-among, length-among, before-less, tally-more, one-yes, tally-take}
use Rattle.doc_values.proofs.Standing.{is_row, holds_kids}
use Rattle.doc_values.proofs.KeysAmong.{keyed_nowhere}
use Rattle.doc_values.proofs.Lookups.{kids-formed}

-- the key of the value at an index among values side by side
abbrev nth_key : Forest → ℕ → Option (List ℕ)
nth_key Nil m = None
nth_key (Node l kids rest) zero = l.key
nth_key (Node l kids rest) (suc m) = nth_key rest m

tops_key : (d u n i m : ℕ) (f : Forest) (x : ℕ × Row) → m < count f → (get_or (tops d u n i f) m x).1.label.key ≡ nth_key f m
tops_key d u n i m Nil x h = absurd (omega arith)
tops_key d u n i zero (Node l kids rest) x h = refl
tops_key d u n i (suc m) (Node l kids rest) x h = tops_key d u (suc (n + size kids)) (suc i) m rest x (omega arith)

none_some : (k : List ℕ) → None ≡ Some k → ⊥
none_some k e = cc

some_same : (j k : List ℕ) → Some j ≡ Some k → j ≡ k
some_same j k e = cc

or_more : (b c d : Bool) → (c ≡ true → d ≡ true) → (b || c) ≡ true → (b || d) ≡ true
or_more true c d f h = refl
or_more false c d f h = f h

or_true : (b c : Bool) → c ≡ true → (b || c) ≡ true
or_true true c h = refl
or_true false c h = h

has_key-snoc : (f : Forest) (l : Label) (kids : Forest) (k : List ℕ) → has_key f k ≡ true → has_key (snoc f l kids) k ≡ true
has_key-snoc Nil l kids k h = absurd (true≢false (sym h))
has_key-snoc (Node m ks rest) l kids k h = or_more (key_is m.key k) (has_key rest k) (has_key (snoc rest l kids) k) (has_key-snoc rest l kids k) h

key_itself : (o : Option (List ℕ)) (k : List ℕ) → o ≡ Some k → (key_is o k || false) ≡ true
key_itself o k e = ap (λ p. key_is p k || false) e ∙ ap (λ b. b || false) ((bytes_eq-Decides k k).1 refl)

has_key-last : (f : Forest) (l : Label) (kids : Forest) (k : List ℕ) → l.key ≡ Some k → has_key (snoc f l kids) k ≡ true
has_key-last Nil l kids k e = key_itself l.key k e
has_key-last (Node m ks rest) l kids k e = or_true (key_is m.key k) (has_key (snoc rest l kids) k) (has_key-last rest l kids k e)

key_again : (b : Bool) (before : Forest) (key : Option (List ℕ)) (k : List ℕ) → has_key before k ≡ true → key ≡ Some k → IsKeyed b before key → ⊥
key_again true before (Some j) k h e new = true≢false (sym h ∙ ap (has_key before) (sym (some_same j k e)) ∙ new)
key_again true before None k h e new = new
key_again false before key k h e none = none_some k (sym none ∙ e)

-- no later value has a key that is there before
later : (b : Bool) (before f : Forest) (k : List ℕ) (m : ℕ) → AreValues b before f → has_key before k ≡ true → nth_key f m ≡ Some k → ⊥
later b before Nil k m v h e = none_some k e
later b before (Node l kids rest) k zero (key, t, i, ks, r) h e = key_again b before l.key k h e key
later b before (Node l kids rest) k (suc m) (key, t, i, ks, r) h e = later b (snoc before l kids) rest k m r (has_key-snoc before l kids k h) e

once : (b : Bool) (before f : Forest) (k : List ℕ) (m n : ℕ) → AreValues b before f → m < n → nth_key f m ≡ Some k → nth_key f n ≡ Some k → ⊥
once b before Nil k m n v h e g = none_some k e
once b before (Node l kids rest) k m zero v h e g = absurd (omega arith)
once b before (Node l kids rest) k zero (suc n) (key, t, i, ks, r) h e g = later b (snoc before l kids) rest k n r (has_key-last before l kids k e) g
once b before (Node l kids rest) k (suc m) (suc n) (key, t, i, ks, r) h e g = once b (snoc before l kids) rest k m n r (omega arith) e g

-- two rows under one number have different keys
apart : (f : Forest) (w d : ℕ) (b : Bool) (kids : Forest) → AreValues b Nil kids → among 0 w (all_rows f) ≡ tops d w w 0 kids → (i j : ℕ) (q r : Row) (k : List ℕ) → i < j → j < length (all_rows f) → q ≡ get_or (all_rows f) i q → r ≡ get_or (all_rows f) j r → q.under ≡ w → r.under ≡ w → q.label.key ≡ Some k → r.label.key ≡ Some k → ⊥
apart f w d b kids v same i j q r k h l qi ri qw rw qk rk =
    let rs : List Row = all_rows f in
    let low : i < length rs = omega arith in
    let m : ℕ = tally w (take i rs) in
    let n : ℕ = tally w (take j rs) in
    let next : suc i ≤ j = omega arith in
    let more : tally w (take (suc i) rs) ≡ m + 1 = subst (λ x. tally x (take (suc i) rs) ≡ tally x (take i rs) + 1) qw (let t = tally-more q.under i rs q low qi in let o = one-yes q in omega arith) in
    let order = tally-take w (suc i) j rs next in
    let less : suc n ≤ tally w rs = subst (λ x. suc (tally x (take j rs)) ≤ tally x rs) rw (before-less j rs r l ri) in
    let all : length (among 0 w rs) ≡ tally w rs = length-among 0 w rs in
    let tops_long : length (among 0 w rs) ≡ count kids = ap (λ (t : List (ℕ × Row)). length t) same ∙ length-tops d w w 0 kids in
    let x : ℕ × Row = (0 + i, q) in
    let y : ℕ × Row = (0 + j, r) in
    let at_q : get_or (among 0 w rs) m x ≡ x = subst (λ v. get_or (among 0 v rs) (tally v (take i rs)) x ≡ x) qw (at-among 0 i rs q x low qi) in
    let at_r : get_or (among 0 w rs) n y ≡ y = subst (λ v. get_or (among 0 v rs) (tally v (take j rs)) y ≡ y) rw (at-among 0 j rs r y l ri) in
    let key_q : nth_key kids m ≡ Some k = sym (tops_key d w w 0 m kids x (omega arith)) ∙ ap (λ (t : List (ℕ × Row)). (get_or t m x).1.label.key) (sym same) ∙ ap (λ (p : ℕ × Row). p.1.label.key) at_q ∙ qk in
    let key_r : nth_key kids n ≡ Some k = sym (tops_key d w w 0 n kids y (omega arith)) ∙ ap (λ (t : List (ℕ × Row)). (get_or t n y).1.label.key) (sym same) ∙ ap (λ (p : ℕ × Row). p.1.label.key) at_r ∙ rk in
    once b Nil kids k m n v (omega arith) key_q key_r

apart_under : (f : Forest) (w : ℕ) → IsTree f → w ≤ size f → (i j : ℕ) (q r : Row) (k : List ℕ) → i < j → j < length (all_rows f) → q ≡ get_or (all_rows f) i q → r ≡ get_or (all_rows f) j r → q.under ≡ w → r.under ≡ w → q.label.key ≡ Some k → r.label.key ≡ Some k → ⊥
apart_under f zero t h = apart f 0 0 false f t.values (among-here 0 0 0 0 f (omega arith))
apart_under f (suc p) t h = let a = holds_kids f p (omega arith) in apart f (suc p) a.depth (is_map (label_at f p).kind) (kids_at f p) (kids-formed f p t (omega arith)) a.same

new_at : (f : Forest) (j : ℕ) (r : Row) (key : Option (List ℕ)) → IsTree f → j < length (all_rows f) → r ≡ get_or (all_rows f) j r → r.label.key ≡ key → IsNewUnder (take j (all_rows f)) r.under key
new_at f j r None t l e k = tt
new_at f j r (Some key) t l e k = keyed_nowhere r.under key (take j (all_rows f)) (λ i h p.
    let long = length-rows 0 0 0 0 f in
    let cut : length (take j (all_rows f)) ≡ j = length-take-le j (all_rows f) (omega arith) in
    let before : i < j = omega arith in
    let within : i < length (all_rows f) = omega arith in
    let q : Row = get_or (all_rows f) i no_row in
    let same : get_or (take j (all_rows f)) i no_row ≡ q = get_or-take j (all_rows f) i no_row before in
    let low = (is_row f j r (omega arith) e).low in
    apart_under f r.under t (omega arith) i j q r key before l (get_or_default (all_rows f) i no_row q within) e (sym (ap (λ (x : Row). x.under) same) ∙ p.1) refl (sym (ap (λ (x : Row). x.label.key) same) ∙ p.0) k)

pub new_rows : (f : Forest) → IsTree f → AreNew (all_rows f)
new_rows f t = λ j r l e. new_at f j r r.label.key t l e refl
