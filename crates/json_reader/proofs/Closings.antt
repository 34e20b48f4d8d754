-- How each state of a reading goes on to a whole text: by the brackets that close what is open, and what stands before them.
use Rattle.std.proofs.Common.{◌≡◌, ℕ, zero, suc, ◌<◌, Bool, true, false, List, [], ◌∷◌, ◌++◌, length, max, refl, sym, ap, inl, ◌∙◌, arith, Option, Some, None, cond}
use Rattle.std.specs.Prelude.{nat_eq, ◌||◌, ◌&&◌}
use Rattle.std.specs.Str.{bytes_eq}
use Rattle.doc_values.specs.declared.kind.Kind.{Kind}
use Rattle.doc_values.specs.declared.kind.Kind.TheVariants as kind
use Rattle.decimals.specs.Number.{Parts, IsSpelled}
use Rattle.doc_values.specs.Tree.{Label, Forest, Nil, Node, snoc, has_key, key_is, is_map}
use Rattle.doc_values.specs.Unfinished.{Level, Unfinished, with_value, with_key, with_end}
use Rattle.json_reader.specs.declared.bytes.Class.{Class}
use Rattle.json_reader.specs.declared.bytes.Class.TheVariants.{Space, CloseList}
use Rattle.json_reader.specs.declared.number.NumberPart.{NumberPart}
use Rattle.json_reader.specs.Json.{is_unescaped, Each, past, Chars, StandsFor, Collection, Object, Array, opening, closing, kind_of, AreDistinct, AreInRange, AreShallow}
use Rattle.json_reader.specs.code.Reading.{class_of, Phase, AtValue, AtKeyOrEnd, AtItemOrEnd, AtKey, AtColon, After, InString, InWord, InNumber, Stop, Go, goes_on, keyless, value_next, item_or_end_next, value_cause, next, judged, judge, read}
use Rattle.json_reader.proofs.Strings.{chars_read, plain_chars, no_chars}
use Rattle.json_reader.proofs.Escapes.{Escaping, escaping_ends}
use Rattle.json_reader.proofs.NumberTexts.{Held, held_spells, stands}
use Rattle.json_reader.proofs.Sound.{form, Ends, Completes, completes, collection_value, begins_item}
use Rattle.json_reader.proofs.Limits.{AreDistinct-snoc, AreInRange-snoc, AreShallow-snoc, LevelsKeep}

-- the brackets that close what is open
abbrev pub closer : Bool → ℕ
closer true = 125
closer false = 93

abbrev pub closers : List Level → List ℕ
closers [] = []
closers (x ∷ xs) = closer (is_map x.label.kind) ∷ closers xs

-- the tree behind them
abbrev pub closed : List Level → Forest → Forest
closed [] done = done
closed (x ∷ xs) done = closed xs (snoc x.before x.label done)

closes : (q : Bool) (x : Level) (xs : List Level) (done : Forest) (key : Option (List ℕ)) (t : List ℕ) (at : ℕ) → is_map x.label.kind ≡ q → read (closer q ∷ t) at After (record { outer = x ∷ xs; done = done; key = key }) ≡ read t (suc at) After (with_end (record { outer = x ∷ xs; done = done; key = key }))
closes true x xs done key t at e = ap (λ q. goes_on (cond q (Go After (with_end (record { outer = x ∷ xs; done = done; key = key }))) Stop) (read t (suc at))) e
closes false x xs done key t at e = ap (λ q. goes_on (cond q Stop (Go After (with_end (record { outer = x ∷ xs; done = done; key = key })))) (read t (suc at))) e

pub close_all : (outer : List Level) (done : Forest) (key : Option (List ℕ)) (at : ℕ) → read (closers outer) at After (record { outer = outer; done = done; key = key }) ≡ Some (closed outer done)
close_all [] done key at = refl
close_all (x ∷ xs) done key at = closes (is_map x.label.kind) x xs done key (closers xs) at refl ∙ close_all xs (snoc x.before x.label done) None (suc at)

pub closed_ends : (outer : List Level) (done : Forest) (at : ℕ) → Ends outer done at (closers outer) (closed outer done)
closed_ends outer done at = completes (closers outer) at After (record { outer = outer; done = done; key = None }) (closed outer done) (close_all outer done None at)

-- it keeps the limits that what is open keeps
pub closed_distinct : (outer : List Level) (done : Forest) → LevelsKeep outer → AreDistinct done Nil → AreDistinct (closed outer done) Nil
closed_distinct [] done l d = d
closed_distinct (x ∷ xs) done l d = closed_distinct xs (snoc x.before x.label done) l.6 (AreDistinct-snoc x.before Nil x.label done l.0 l.1 d)

pub closed_range : (outer : List Level) (done : Forest) → LevelsKeep outer → AreInRange done → AreInRange (closed outer done)
closed_range [] done l d = d
closed_range (x ∷ xs) done l d = closed_range xs (snoc x.before x.label done) l.6 (AreInRange-snoc x.before x.label done l.2 l.3 d)

pub closed_shallow : (outer : List Level) (done : Forest) → LevelsKeep outer → AreShallow done (length outer) → AreShallow (closed outer done) 0
closed_shallow [] done l d = d
closed_shallow (x ∷ xs) done l d = closed_shallow xs (snoc x.before x.label done) l.6 (AreShallow-snoc x.before x.label done (length xs) l.4 (λ e. l.5) d)

-- a key longer than each before it is new
abbrev key_len : Option (List ℕ) → ℕ
key_len None = 0
key_len (Some k) = length k

abbrev longest : Forest → ℕ
longest Nil = 0
longest (Node l kids rest) = max (key_len l.key) (longest rest)

both_false : (b : Bool) → (b && false) ≡ false
both_false true = refl
both_false false = refl

bytes_differ : (a b : List ℕ) → length a < length b → bytes_eq a b ≡ false
bytes_differ [] [] h = absurd (omega arith)
bytes_differ [] (y ∷ b) h = refl
bytes_differ (x ∷ a) [] h = absurd (omega arith)
bytes_differ (x ∷ a) (y ∷ b) h = ap (λ q. nat_eq x y && q) (bytes_differ a b (omega arith)) ∙ both_false (nat_eq x y)

key_differs : (o : Option (List ℕ)) (k : List ℕ) → key_len o < length k → key_is o k ≡ false
key_differs None k h = refl
key_differs (Some j) k h = bytes_differ j k h

new_key : (f : Forest) (k : List ℕ) → longest f < length k → has_key f k ≡ false
new_key Nil k h = refl
new_key (Node l kids rest) k h = ap (λ q. q || has_key rest k) (key_differs l.key k (omega arith)) ∙ new_key rest k (omega arith)

abbrev filler : ℕ → List ℕ
filler zero = []
filler (suc n) = 97 ∷ filler n

filler_length : (n : ℕ) → length (filler n) ≡ n
filler_length zero = refl
filler_length (suc n) = let h = filler_length n in omega arith

filler_plain : (n : ℕ) → Each is_unescaped (filler n)
filler_plain zero = tt
filler_plain (suc n) = (refl, filler_plain n)

value_ending : (u : Unfinished) (at : ℕ) → (v : Forest) × (read (34 ∷ (34 ∷ closers u.outer)) at AtValue u ≡ Some v)
value_ending u at = (closed u.outer (with_value kind.Text [] at u).done, close_all u.outer (with_value kind.Text [] at u).done None (suc (suc at)))

key_ending : (u : Unfinished) (at : ℕ) → (t : List ℕ) × (v : Forest) × (read t (suc at) (InString true [] [] at) u ≡ Some v)
key_ending u at =
    let k = filler (suc (longest u.done)) in
    let n = filler_length (suc (longest u.done)) in
    let new : has_key u.done k ≡ false = new_key u.done k (omega (arith, n)) in
    let e = value_ending (with_key k u) (suc (suc (past (suc at) k))) in
    (k ++ (34 ∷ (58 ∷ (34 ∷ (34 ∷ closers u.outer)))), e.0, chars_read k k (34 ∷ (58 ∷ (34 ∷ (34 ∷ closers u.outer)))) (suc at) true [] at u (plain_chars k (filler_plain (suc (longest u.done)))) ∙ ap (λ q. goes_on (cond q Stop (Go AtColon (with_key k u))) (read (58 ∷ (34 ∷ (34 ∷ closers u.outer))) (suc (past (suc at) k)))) new ∙ e.1)

-- where a value or a key may begin
abbrev pub IsOpening : Phase → Type 0
IsOpening AtValue = Unit {0}
IsOpening AtKeyOrEnd = Unit {0}
IsOpening AtItemOrEnd = Unit {0}
IsOpening AtKey = Unit {0}
IsOpening _ = ⊥

-- there a string may begin, and a text that is read goes on from it
pub ending : (p : Phase) → IsOpening p → (u : Unfinished) (at : ℕ) → (t : List ℕ) × (v : Forest) × (read (34 ∷ t) at p u ≡ Some v)
ending AtValue o u at = let e = value_ending u at in (34 ∷ closers u.outer, e.0, e.1)
ending AtItemOrEnd o u at = let e = value_ending (keyless u) at in (34 ∷ closers u.outer, e.0, e.1)
ending AtKeyOrEnd o u at = key_ending u at
ending AtKey o u at = key_ending u at
ending _ o u at = elim o [ ]

-- where a value may begin, and the state in which it does
abbrev pub IsValued : Phase → Type 0
IsValued AtValue = Unit {0}
IsValued AtItemOrEnd = Unit {0}
IsValued _ = ⊥

abbrev pub holder : Phase → Unfinished → Unfinished
holder AtItemOrEnd u = keyless u
holder _ u = u

pub valued_completes : (p : Phase) → IsValued p → (u : Unfinished) (at : ℕ) (bytes : List ℕ) (v : Forest) → Completes AtValue (holder p u) at bytes v → Completes p u at bytes v
valued_completes AtValue i u at bytes v c = c
valued_completes AtItemOrEnd i u at bytes v c = begins_item u.outer u.done at bytes v c
valued_completes _ i u at bytes v c = elim i [ ]

item_same : (c : Class) (at b : ℕ) (u : Unfinished) → (c ≡ Space → ⊥) → (c ≡ CloseList → ⊥) → item_or_end_next at u b c ≡ value_next at (keyless u) b c
item_same Space at b u s e = absurd (s refl)
item_same CloseList at b u s e = absurd (e refl)
item_same _ at b u s e = refl

pub valued_next : (p : Phase) → IsValued p → (at b : ℕ) (u : Unfinished) → (class_of b ≡ Space → ⊥) → (class_of b ≡ CloseList → ⊥) → next at p u b ≡ next at AtValue (holder p u) b
valued_next AtValue i at b u s e = refl
valued_next AtItemOrEnd i at b u s e = item_same (class_of b) at b u s e
valued_next _ i at b u s e = elim i [ ]

pub valued_judge : (p : Phase) → IsValued p → (at b : ℕ) (t : List ℕ) (u : Unfinished) → (class_of b ≡ Space → ⊥) → (class_of b ≡ CloseList → ⊥) → judge (b ∷ t) at p u ≡ judge (b ∷ t) at AtValue (holder p u)
valued_judge AtValue i at b t u s e = refl
valued_judge AtItemOrEnd i at b t u s e = ap (λ n. judged n (value_cause at (class_of b)) (judge t (suc at))) (item_same (class_of b) at b u s e)
valued_judge _ i at b t u s e = elim i [ ]

-- a collection that holds nothing, whatever its depth
deep_close_as : (map : Bool) (o : Collection) → form map ≡ o → (at : ℕ) (u : Unfinished) → Completes AtValue u at (opening o ∷ (closing o ∷ closers u.outer)) (closed u.outer (snoc u.done (record { kind = kind_of o; text = []; key = u.key; at = at }) Nil))
deep_close_as map o e at u = collection_value map o (opening o) at u (closing o ∷ closers u.outer) (closed u.outer (snoc u.done (record { kind = kind_of o; text = []; key = u.key; at = at }) Nil)) e refl (Nil, [], closers u.outer, ap (λ c. closing c ∷ closers u.outer) (sym e), tt, closed_ends u.outer (snoc u.done (record { kind = kind_of o; text = []; key = u.key; at = at }) Nil) (suc (suc at)))

pub deep_close : (o : Collection) (at : ℕ) (u : Unfinished) → Completes AtValue u at (opening o ∷ (closing o ∷ closers u.outer)) (closed u.outer (snoc u.done (record { kind = kind_of o; text = []; key = u.key; at = at }) Nil))
deep_close Object at u = deep_close_as true Object refl at u
deep_close Array at u = deep_close_as false Array refl at u

-- the rest of a key, and an empty text for it, whether the key is new or not
pub key_close : (t part k text : List ℕ) (a at : ℕ) (u : Unfinished) → Chars (part ++ k) text → Completes (InString true t part a) u at (k ++ (34 ∷ (58 ∷ (34 ∷ (34 ∷ closers u.outer))))) (closed u.outer (snoc u.done (record { kind = kind.Text; text = []; key = Some (t ++ text); at = suc (suc (past at k)) }) Nil))
key_close t part k text a at u c =
    let l : Label = record { kind = kind.Text; text = []; key = Some (t ++ text); at = suc (suc (past at k)) } in
    (k, text, 58 ∷ [], 34 ∷ 34 ∷ [], closers u.outer, l, Nil, refl, c, ([], [], refl, tt, tt), inl ([], [], refl, no_chars, refl, refl), closed_ends u.outer (snoc u.done l Nil) (suc (suc (suc (suc (past at k))))))

-- the rest of a number text, whether it is in range or not
pub number_close : (q : NumberPart) (t ds : List ℕ) (p : Parts) (k : Kind) (a at : ℕ) (u : Unfinished) → IsSpelled (t ++ ds) p → StandsFor p k → Completes (InNumber q t a) u at (ds ++ closers u.outer) (closed u.outer (snoc u.done (record { kind = k; text = []; key = u.key; at = a }) Nil))
number_close q t ds p k a at u sp st = (ds, closers u.outer, p, k, refl, sp, st, closed_ends u.outer (snoc u.done (record { kind = k; text = []; key = u.key; at = a }) Nil) (past at ds))

-- what must be so in a token for it to go on
abbrev pub CanClose : Phase → Type 0
CanClose (InString key t part a) = Escaping part
CanClose (InNumber q t a) = Held q t
CanClose _ = Unit {0}

abbrev Closes : Phase → Unfinished → ℕ → Type 0
Closes p u at = (t : List ℕ) × (v : Forest) × Completes p u at t v

read_closes : (p : Phase) (u : Unfinished) (at : ℕ) (t : List ℕ) (v : Forest) → read t at p u ≡ Some v → Closes p u at
read_closes p u at t v e = (t, v, completes t at p u v e)

-- the text of each state goes on to one of the shape of JSON
pub closing_of : (p : Phase) (u : Unfinished) (at : ℕ) → CanClose p → Closes p u at
closing_of AtValue u at c = let e = ending AtValue tt u at in read_closes AtValue u at (34 ∷ e.0) e.1 e.2
closing_of AtKeyOrEnd u at c = let e = ending AtKeyOrEnd tt u at in read_closes AtKeyOrEnd u at (34 ∷ e.0) e.1 e.2
closing_of AtItemOrEnd u at c = let e = ending AtItemOrEnd tt u at in read_closes AtItemOrEnd u at (34 ∷ e.0) e.1 e.2
closing_of AtKey u at c = let e = ending AtKey tt u at in read_closes AtKey u at (34 ∷ e.0) e.1 e.2
closing_of AtColon u at c = let e = ending AtValue tt u (suc at) in read_closes AtColon u at (58 ∷ (34 ∷ e.0)) e.1 e.2
closing_of After u at c = (closers u.outer, closed u.outer u.done, closed_ends u.outer u.done at)
closing_of (InString true t part a) u at c =
    let g = escaping_ends part c in
    (g.0 ++ (34 ∷ (58 ∷ (34 ∷ (34 ∷ closers u.outer)))), closed u.outer (snoc u.done (record { kind = kind.Text; text = []; key = Some (t ++ g.1); at = suc (suc (past at g.0)) }) Nil), key_close t part g.0 g.1 a at u g.2)
closing_of (InString false t part a) u at c =
    let g = escaping_ends part c in
    let done : Forest = snoc u.done (record { kind = kind.Text; text = t ++ g.1; key = u.key; at = a }) Nil in
    (g.0 ++ (34 ∷ closers u.outer), closed u.outer done, (g.0, g.1, closers u.outer, refl, g.2, closed_ends u.outer done (suc (past at g.0))))
closing_of (InWord rest k a) u at c =
    let done : Forest = snoc u.done (record { kind = k; text = []; key = u.key; at = a }) Nil in
    (rest ++ closers u.outer, closed u.outer done, (closers u.outer, refl, closed_ends u.outer done (past at rest)))
closing_of (InNumber q t a) u at c =
    let s = held_spells q t c in
    let k = stands s.1 in
    (s.0 ++ closers u.outer, closed u.outer (snoc u.done (record { kind = k.0; text = []; key = u.key; at = a }) Nil), number_close q t s.0 s.1 k.0 a at u s.2 k.1)
