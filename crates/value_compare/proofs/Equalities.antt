-- Equality of lists and maps by their items and entries in turn, and of values by their kinds.
use Rattle.std.proofs.Common.{◌≡◌, ◌≢◌, ℕ, zero, suc, ◌+◌, ◌<◌, Bool, true, false, List, Option, Some, None, Result, Ok, Err, IfOk, refl, sym, ap, ap₂, subst, ◌∙◌, arith}
use Rattle.std.specs.Prelude.{◌&&◌}
use Rattle.std.specs.Option.{option_map_or}
use Rattle.std.proofs.lemmas.Bool.{or_parts}
use Rattle.doc_values.specs.Tree.{Label, Forest, Nil, Node, count, has_text, holds_values, key_is}
use Rattle.doc_values.specs.Places.{first_label}
use Rattle.doc_values.specs.declared.kind.Kind.{Kind}
use Rattle.doc_values.specs.declared.kind.Kind.TheVariants as kind
use Rattle.rule_meaning.specs.declared.answer.PairAnswer.{PairAnswer}
use Rattle.value_compare.specs.code.Entries.{has_equal, may_find_entry}
use Rattle.value_store.specs.code.BookCovers.{holds_if, holds_in, covers}
use Rattle.value_compare.specs.code.Meetings.{compares_pattern, may_find_items, may_find_entries}
use Rattle.rule_meaning.specs.Pairs.{equal, equal_by, same_items, same_entries, same_maps, entry_of, is_yes}
use Rattle.rule_meaning.specs.Values.{Value, value_of, value_of_key, is_pattern}
use Rattle.value_compare.proofs.Forests.{from_index, first_value, index_step, index_end}

-- Lists.

pub items_step : (f g : Forest) (i : ℕ) → i < count f → i < count g →
    same_items (from_index f i) (from_index g i) ≡ (is_yes (equal (first_value (from_index f i)) (first_value (from_index g i))) && same_items (from_index f (i + 1)) (from_index g (i + 1)))
items_step f g i h k = ap₂ same_items (index_step f i h) (index_step g i k)

-- one pair of items in a walk over both
pub items_turn : (f g : Forest) (i : ℕ) (whole : Bool) (l r : Value) (a : PairAnswer) (said : Bool) → i < count f → i < count g → whole ≡ same_items (from_index f i) (from_index g i)
    → l ≡ first_value (from_index f i) → r ≡ first_value (from_index g i) → a ≡ equal l r → said ≡ is_yes a → whole ≡ (said && same_items (from_index f (i + 1)) (from_index g (i + 1)))
items_turn f g i whole l r a said h k before is_left is_right is tells =
    before ∙ items_step f g i h k
    ∙ ap (λ b. b && same_items (from_index f (i + 1)) (from_index g (i + 1))) (sym (tells ∙ ap is_yes (is ∙ ap₂ equal is_left is_right)))

pub items_end : (f g : Forest) (i : ℕ) → (i < count f → ⊥) → count f ≡ count g → same_items (from_index f i) (from_index g i) ≡ true
items_end f g i h e = ap₂ same_items (index_end f i (omega arith)) (index_end g i (omega arith))

and_false : (b : Bool) → (b && false) ≡ false
and_false true = refl
and_false false = refl

pub items_differ : (f g : Forest) → count f ≢ count g → same_items f g ≡ false
items_differ Nil Nil apart = absurd (apart refl)
items_differ Nil (Node r rkids rrest) apart = refl
items_differ (Node l lkids lrest) Nil apart = refl
items_differ (Node l lkids lrest) (Node r rkids rrest) apart =
    let here = is_yes (equal (value_of l lkids) (value_of r rkids)) in
    ap (λ b. here && b) (items_differ lrest rrest (λ e. apart (ap suc e))) ∙ and_false here

-- Maps.

pub entries_step : (f g : Forest) (i : ℕ) → i < count f → same_entries (from_index f i) g ≡ (has_equal (first_label (from_index f i)).key (first_value (from_index f i)) g && same_entries (from_index f (i + 1)) g)
entries_step f g i h = ap (λ x. same_entries x g) (index_step f i h)

-- one entry in a walk
pub entries_turn : (f g : Forest) (i : ℕ) (whole : Bool) (label : Label) (value : Value) (said : Bool) → i < count f → whole ≡ same_entries (from_index f i) g
    → label ≡ first_label (from_index f i) → value ≡ first_value (from_index f i) → said ≡ has_equal label.key value g → whole ≡ (said && same_entries (from_index f (i + 1)) g)
entries_turn f g i whole label value said h before is_label is_value tells =
    before ∙ entries_step f g i h ∙ ap (λ b. b && same_entries (from_index f (i + 1)) g) (sym (tells ∙ ap₂ (λ (l : Label) v. has_equal l.key v g) is_label is_value))

pub entries_end : (f g : Forest) (i : ℕ) → (i < count f → ⊥) → same_entries (from_index f i) g ≡ true
entries_end f g i h = ap (λ x. same_entries x g) (index_end f i (omega arith))

-- Kinds.

-- a kind that is none of a text, a pattern, a list or a map has no text, and nothing stands in its values
pub leaf_kind : (k : Kind) → (k ≡ kind.Text → ⊥) → (k ≡ kind.Pattern → ⊥) → (k ≡ kind.List → ⊥) → (k ≡ kind.Map → ⊥) → (has_text k ≡ false) × (holds_values k ≡ false)
leaf_kind kind.Null text pattern list map = (refl, refl)
leaf_kind (kind.Truth b) text pattern list map = (refl, refl)
leaf_kind (kind.Whole n) text pattern list map = (refl, refl)
leaf_kind (kind.Fraction d) text pattern list map = (refl, refl)
leaf_kind kind.Text text pattern list map = absurd (text refl)
leaf_kind kind.List text pattern list map = absurd (list refl)
leaf_kind kind.Map text pattern list map = absurd (map refl)
leaf_kind kind.Pattern text pattern list map = absurd (pattern refl)
leaf_kind (kind.Limits r) text pattern list map = (refl, refl)

pub by_kind : (l r : Value) (left right : Kind) (a : PairAnswer) → left ≡ l.kind → right ≡ r.kind → ((lists maps : Bool) (lt rt : List ℕ) → equal_by lists maps left lt right rt ≡ a) → a ≡ equal l r
by_kind l r left right a is_left is_right tells =
    sym (tells (same_items l.contents r.contents) (same_maps l.contents r.contents) l.text r.text)
    ∙ ap₂ (λ m n. equal_by (same_items l.contents r.contents) (same_maps l.contents r.contents) m l.text n r.text) is_left is_right

pub of_kind : (left code right : Kind) (a : PairAnswer) → left ≡ code → ((lists maps : Bool) (lt rt : List ℕ) → equal_by lists maps code lt right rt ≡ a) → (lists maps : Bool) (lt rt : List ℕ) → equal_by lists maps left lt right rt ≡ a
of_kind left code right a is tells = λ lists maps lt rt. ap (λ k. equal_by lists maps k lt right rt) is ∙ tells lists maps lt rt

texts_alone : (lists maps others other_maps : Bool) (right : Kind) (lt rt : List ℕ) → equal_by lists maps kind.Text lt right rt ≡ equal_by others other_maps kind.Text lt right rt
texts_alone lists maps others other_maps kind.Null lt rt = refl
texts_alone lists maps others other_maps (kind.Truth b) lt rt = refl
texts_alone lists maps others other_maps (kind.Whole n) lt rt = refl
texts_alone lists maps others other_maps (kind.Fraction d) lt rt = refl
texts_alone lists maps others other_maps kind.Text lt rt = refl
texts_alone lists maps others other_maps kind.List lt rt = refl
texts_alone lists maps others other_maps kind.Map lt rt = refl
texts_alone lists maps others other_maps kind.Pattern lt rt = refl
texts_alone lists maps others other_maps (kind.Limits r) lt rt = refl

-- a text is compared as the key of its bytes
pub as_key : (l r : Value) (text : List ℕ) → l.kind ≡ kind.Text → text ≡ l.text → equal (value_of_key text) r ≡ equal l r
as_key l r text is_text is =
    texts_alone (same_items Nil r.contents) (same_maps Nil r.contents) (same_items l.contents r.contents) (same_maps l.contents r.contents) r.kind text r.text
    ∙ ap₂ (λ k t. equal_by (same_items l.contents r.contents) (same_maps l.contents r.contents) k t r.kind r.text) (sym is_text) is

-- Patterns.

pub both_true : (a b : Bool) → a ≡ true → b ≡ true → (a && b) ≡ true
both_true true b e f = f
both_true false b e f = absurd cc

first_true : (a b : Bool) → (a && b) ≡ true → a ≡ true
first_true true b e = refl
first_true false b e = absurd cc

second_true : (a b : Bool) → (a && b) ≡ true → b ≡ true
second_true true b e = e
second_true false b e = absurd cc

head_held : (book : List (List ℕ)) (l : Label) (kids rest : Forest) → holds_in book (Node l kids rest) ≡ true → covers book (value_of l kids) ≡ true
head_held book l kids rest e =
    let mine = holds_if (is_pattern l.kind) book l.text in
    let both = second_true mine (holds_in book kids && holds_in book rest) e in
    both_true mine (holds_in book kids) (first_true mine (holds_in book kids && holds_in book rest) e) (first_true (holds_in book kids) (holds_in book rest) both)

rest_held : (book : List (List ℕ)) (l : Label) (kids rest : Forest) → holds_in book (Node l kids rest) ≡ true → holds_in book rest ≡ true
rest_held book l kids rest e =
    let mine = holds_if (is_pattern l.kind) book l.text in
    second_true (holds_in book kids) (holds_in book rest) (second_true mine (holds_in book kids && holds_in book rest) e)

-- a book that holds the patterns of values holds those of each
pub item_held : (book : List (List ℕ)) (f : Forest) (i : ℕ) → i < count f → holds_in book f ≡ true → covers book (first_value (from_index f i)) ≡ true
item_held book Nil i h e = absurd (omega arith)
item_held book (Node l kids rest) zero h e = head_held book l kids rest e
item_held book (Node l kids rest) (suc i) h e = item_held book rest i (omega arith) (rest_held book l kids rest e)

-- of two lists, no text of the one meets a pattern of the other at an index
pub item_apart : (f g : Forest) (i : ℕ) → i < count f → i < count g → may_find_items f g ≡ false → compares_pattern (first_value (from_index f i)) (first_value (from_index g i)) ≡ false
item_apart Nil g i h k e = absurd (omega arith)
item_apart (Node l lkids lrest) Nil i h k e = absurd (omega arith)
item_apart (Node l lkids lrest) (Node r rkids rrest) zero h k e = (or_parts (compares_pattern (value_of l lkids) (value_of r rkids)) (may_find_items lrest rrest) e).0
item_apart (Node l lkids lrest) (Node r rkids rrest) (suc i) h k e =
    item_apart lrest rrest i (omega arith) (omega arith) (or_parts (compares_pattern (value_of l lkids) (value_of r rkids)) (may_find_items lrest rrest) e).1

-- nor of two maps at an entry of the one
pub entry_apart : (f g : Forest) (i : ℕ) → i < count f → may_find_entries f g ≡ false → may_find_entry (first_label (from_index f i)).key (first_value (from_index f i)) g ≡ false
entry_apart Nil g i h e = absurd (omega arith)
entry_apart (Node l kids rest) g zero h e = (or_parts (may_find_entry l.key (value_of l kids) g) (may_find_entries rest g) e).0
entry_apart (Node l kids rest) g (suc i) h e = entry_apart rest g i (omega arith) (or_parts (may_find_entry l.key (value_of l kids) g) (may_find_entries rest g) e).1

-- and the value that stands there
pub entry_value_apart : (key : Option (List ℕ)) (k : List ℕ) (v other : Value) (g : Forest) → key ≡ Some k → entry_of g (Some k) ≡ Some other → may_find_entry key v g ≡ false → compares_pattern v other ≡ false
entry_value_apart key k v other g is found e = sym (ap (λ o. option_map_or (compares_pattern v) o false) (ap (entry_of g) is ∙ found)) ∙ e

some_same : (v w : Value) → Some v ≡ Some w → v ≡ w
some_same v w e = cc

-- the entry of a key likewise
pub entry_held : (book : List (List ℕ)) (f : Forest) (key : Option (List ℕ)) (v : Value) → holds_in book f ≡ true → entry_of f key ≡ Some v → covers book v ≡ true
entry_held book Nil key v h e = absurd cc
entry_held book (Node l kids rest) None v h e = absurd cc
entry_held book (Node l kids rest) (Some k) v h e = by_test (entry_held book rest (Some k) v (rest_held book l kids rest h)) (key_is l.key k) refl
  where
    by_test : (entry_of rest (Some k) ≡ Some v → covers book v ≡ true) → (b : Bool) → key_is l.key k ≡ b → covers book v ≡ true
    by_test later true is = let q : value_of l kids ≡ v = some_same (value_of l kids) v (rw is at e) in subst (λ w. covers book w ≡ true) q (head_held book l kids rest h)
    by_test later false is = later (rw is at e)

-- what an entry of a key says
has_equal_at : (key : Option (List ℕ)) (k : List ℕ) (v other : Value) (g : Forest) (a : PairAnswer) → key ≡ Some k → entry_of g (Some k) ≡ Some other → a ≡ equal v other → is_yes a ≡ has_equal key v g
has_equal_at key k v other g a is found tells = ap is_yes tells ∙ sym (rw (is, found) refl)

pub has_equal-told : {E : Type 0} (r : Result PairAnswer E) (key : Option (List ℕ)) (k : List ℕ) (v other : Value) (g : Forest) → key ≡ Some k → entry_of g (Some k) ≡ Some other
    → IfOk r (λ a. a ≡ equal v other) → IfOk r (λ a. is_yes a ≡ has_equal key v g)
has_equal-told (Ok a) key k v other g is found tells = has_equal_at key k v other g a is found tells
has_equal-told (Err e) key k v other g is found tells = tt

pub no_entry_of : (key : Option (List ℕ)) (v : Value) (g : Forest) → entry_of g key ≡ None → false ≡ has_equal key v g
no_entry_of key v g none = rw none refl

pub no_entry_none : (g : Forest) → entry_of g None ≡ None
no_entry_none Nil = refl
no_entry_none (Node l kids rest) = refl
