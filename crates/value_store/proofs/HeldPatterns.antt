-- A book holds the patterns of what a reference stands for: templates and made trees have none, and a literal's are the file's.
use Rattle.std.proofs.Common.{◌≡◌, ℕ, zero, suc, ◌+◌, ◌-◌, ◌<◌, ◌≤◌, Bool, true, false, List, [], ◌++◌, length, get_or, Option, Some, None, refl, sym, ap, ◌∙◌, inl, inr, arith, Bor}
use Rattle.std.specs.Prelude.{◌&&◌, ◌||◌, nat_lt, if◌then◌else◌, option_and_then, IfSome}
use Rattle.std.specs.List.{list_any, flat_map}
use Rattle.std.specs.Option.{option_map_or}
use Rattle.std.specs.Str.{bytes_eq}
use Rattle.std.proofs.lemmas.Bool.{and_from, and_parts, or_parts, or_left, or_right, cases_lt}
use Rattle.std.proofs.lemmas.List.Folds.{list_any-append}
use Rattle.std.proofs.lemmas.Slice.Eq.{bytes_eq-Decides}
use Rattle.doc_values.specs.Tree.{Label, Forest, Nil, Node, size, count}
use Rattle.doc_values.specs.Places.{find, first_label, first_kids}
use Rattle.guard_syntax.specs.Sites.{upto}
use Rattle.guard_syntax.specs.Syntax.{File, literal}
use Rattle.rule_names.specs.Pieces.{Piece, OfExpr, piece_at}
use Rattle.value_store.specs.code.Books.{has_text, IsBookOf}
use Rattle.value_store.specs.code.BookCovers.{holds_if, holds_in, covers}
use Rattle.rule_meaning.specs.StoreModel.{tree_of_piece, literal_at}
use Rattle.rule_meaning.specs.Patterns.{Written, written_if, is_sought, sought_text, patterns_in, patterns_of_piece, patterns_at}
use Rattle.rule_meaning.specs.Values.{Value, value_of, value_at, values_in, is_pattern, has_pattern}

-- a tree without patterns
pub plain-held : (book : List (List ℕ)) (f : Forest) → has_pattern f ≡ false → holds_in book f ≡ true
plain-held book Nil e = refl
plain-held book (Node l kids rest) e =
    let first = or_parts (is_pattern l.kind) (has_pattern kids || has_pattern rest) e in
    let others = or_parts (has_pattern kids) (has_pattern rest) first.1 in
    and_from _ _ (ap (λ b. holds_if b book l.text) first.0) (and_from _ _ (plain-held book kids others.0) (plain-held book rest others.1))

-- the first of values side by side
abbrev pub is_first_held : List (List ℕ) → Forest → Bool
is_first_held book g = covers book (value_of (first_label g) (first_kids g))

chosen-held : (book : List (List ℕ)) (b : Bool) (g h : Forest) → is_first_held book g ≡ true → is_first_held book h ≡ true → is_first_held book (if b then g else h) ≡ true
chosen-held book true g h e f = e
chosen-held book false g h e f = f

-- each value of a tree
pub held-at : (book : List (List ℕ)) (f : Forest) (n : ℕ) → holds_in book f ≡ true → covers book (value_at f n) ≡ true
held-at book Nil n h = refl
held-at book (Node l kids rest) zero h =
    let first = and_parts (holds_if (is_pattern l.kind) book l.text) (holds_in book kids && holds_in book rest) h in
    let others = and_parts (holds_in book kids) (holds_in book rest) first.1 in
    and_from _ _ first.0 others.0
held-at book (Node l kids rest) (suc n) h =
    let first = and_parts (holds_if (is_pattern l.kind) book l.text) (holds_in book kids && holds_in book rest) h in
    let others = and_parts (holds_in book kids) (holds_in book rest) first.1 in
    chosen-held book (nat_lt n (size kids)) (find kids n) (find rest (n - size kids)) (held-at book kids n others.0) (held-at book rest (n - size kids) others.1)

-- each of the values side by side
pub held-item : (book : List (List ℕ)) (g : Forest) (i : ℕ) (d : Value) → i < count g → holds_in book g ≡ true → covers book (get_or (values_in g) i d) ≡ true
held-item book Nil i d within h = absurd (omega arith)
held-item book (Node l kids rest) zero d within h = held-at book (Node l kids rest) zero h
held-item book (Node l kids rest) (suc i) d within h =
    let first = and_parts (holds_if (is_pattern l.kind) book l.text) (holds_in book kids && holds_in book rest) h in
    let others = and_parts (holds_in book kids) (holds_in book rest) first.1 in
    held-item book rest i d (omega arith) others.1

-- a book holds each of these texts
abbrev pub HoldsEach : List (List ℕ) → List Written → Type 0
HoldsEach book ws = (text : List ℕ) → list_any (λ (w : Written). bytes_eq text w.text) ws ≡ true → has_text book text ≡ true

each_left : (book : List (List ℕ)) (ws vs : List Written) → HoldsEach book (ws ++ vs) → HoldsEach book ws
each_left book ws vs h = λ text e. h text (list_any-append _ ws vs ∙ or_left _ _ e)

each_right : (book : List (List ℕ)) (ws vs : List Written) → HoldsEach book (ws ++ vs) → HoldsEach book vs
each_right book ws vs h = λ text e. h text (list_any-append _ ws vs ∙ or_right _ _ e)

first_held : (book : List (List ℕ)) (b : Bool) (l : Label) → HoldsEach book (written_if b l) → holds_if b book l.text ≡ true
first_held book true l h = h l.text (or_left _ _ ((bytes_eq-Decides l.text l.text).1 refl))
first_held book false l h = refl

-- a tree whose patterns are held
pub written-held : (book : List (List ℕ)) (f : Forest) → HoldsEach book (patterns_in f) → holds_in book f ≡ true
written-held book Nil h = refl
written-held book (Node l kids rest) h =
    let others = each_right book (written_if (is_pattern l.kind) l) (patterns_in kids ++ patterns_in rest) h in
    and_from _ _ (first_held book (is_pattern l.kind) l (each_left book (written_if (is_pattern l.kind) l) (patterns_in kids ++ patterns_in rest) h))
    (and_from _ _ (written-held book kids (each_left book (patterns_in kids) (patterns_in rest) others)) (written-held book rest (each_right book (patterns_in kids) (patterns_in rest) others)))

-- ---- literals

of_literal : (sought : Bool) (o : Option Piece) (tree : Forest) → option_and_then tree_of_piece o ≡ Some tree → option_map_or (patterns_of_piece sought) o [] ≡ sought_text sought tree ++ patterns_in tree
of_literal sought (Some (OfExpr (literal n t))) tree e = let same : t ≡ tree = cc in ap (λ (u : Forest). sought_text sought u ++ patterns_in u) same
of_literal sought (Some p) tree e = absurd cc
of_literal sought None tree e = absurd cc

-- the patterns of a site are among those of the sites around it
among : (g : ℕ → List Written) (p : Written → Bool) (n low many : ℕ) → low ≤ n → n < low + many → list_any p (g n) ≡ true → list_any p (flat_map g (upto low many)) ≡ true
among g p n low zero least most h = absurd (omega arith)
among g p n low (suc many) least most h =
    list_any-append p (g low) (flat_map g (upto (suc low) many)) ∙ elim (cases_lt low n) [
      | inl more ↦ or_right _ _ (among g p n (suc low) many (omega arith) (omega arith) h)
      | inr less ↦ let same : n ≡ low = omega arith in or_left _ _ (ap (λ k. list_any p (g k)) (sym same) ∙ h)
    ]

-- a book of a file holds the patterns of each literal
pub literal-held : (f : File) (book : List (List ℕ)) (site : ℕ) (tree : Forest) → site < length f.places → IsBookOf f book → literal_at f site ≡ Some tree → holds_in book tree ≡ true
literal-held f book site tree within is_book at =
    written-held book tree (λ text e.
    is_book text ∙ among (patterns_at f) (λ (w : Written). bytes_eq text w.text) site 0 (length f.places) (omega arith) (omega arith)
    (ap (list_any (λ (w : Written). bytes_eq text w.text)) (of_literal (is_sought f site) (piece_at f site) tree at)
    ∙ list_any-append (λ (w : Written). bytes_eq text w.text) (sought_text (is_sought f site) tree) (patterns_in tree) ∙ or_right _ _ e))

-- what a look-up of a tree without patterns gives
pub plain_some-held : (book : List (List ℕ)) (o : Option (Bor Forest)) → IfSome o (λ t. has_pattern t.now ≡ false) → IfSome o (λ t. holds_in book t.now ≡ true)
plain_some-held book None plain = tt
plain_some-held book (Some t) plain = plain-held book t.now plain
