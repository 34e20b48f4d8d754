-- The texts of a file that are read as patterns, site by site and node by node.
use Rattle.std.proofs.Common.{◌≡◌, ℕ, zero, suc, ◌+◌, ◌<◌, ◌≤◌, Bool, true, false, List, [], ◌∷◌, ◌++◌, length, map, take, get_or, Option, Some, None, refl, sym, ap, ◌∙◌, arith, add-one}
use Rattle.std.specs.Prelude.{option_and_then}
use Rattle.std.specs.List.{flat_map}
use Rattle.std.specs.Option.{option_map_or}
use Rattle.std.proofs.lemmas.List.Concat.{flat_map-append}
use Rattle.std.proofs.Math.Seq.{take-suc}
use Rattle.std.proofs.lemmas.List.{take_all, append-nil, map-append}
use Rattle.doc_values.specs.Tree.{Label, Forest, Nil, Node, size}
use Rattle.doc_values.specs.Places.{label_at}
use Rattle.guard_syntax.specs.Sites.{upto}
use Rattle.guard_syntax.specs.Syntax.{File, literal}
use Rattle.rule_names.specs.Pieces.{Piece, OfExpr, piece_at}
use Rattle.value_store.specs.code.Books.{written}
use Rattle.rule_meaning.specs.StoreModel.{tree_of_piece, literal_at}
use Rattle.pattern_books.specs.code.Writing.{see_written}
use Rattle.pattern_books.specs.declared.written.WrittenText.{WrittenText}
use Rattle.rule_meaning.specs.Patterns.{Written, written_if, is_sought, sought_text, patterns_in, patterns_at, patterns_of_piece}
use Rattle.rule_meaning.specs.Values.{is_text}
use Rattle.value_store.proofs.Nodes.{labels, length-labels, label-labels, patterns_in-labels}

-- ---- sites and nodes

upto-split : (low a b : ℕ) → upto low (a + b) ≡ upto low a ++ upto (low + a) b
upto-split low zero b = let e : 0 + b ≡ b = omega arith in let f : low ≡ low + 0 = omega arith in ap (upto low) e ∙ ap (λ n. upto n b) f
upto-split low (suc a) b =
    let e : suc a + b ≡ suc (a + b) = omega arith in let f : suc low + a ≡ low + suc a = omega arith in
    ap (upto low) e ∙ ap (λ ns. low ∷ ns) (upto-split (suc low) a b ∙ ap (λ n. upto (suc low) a ++ upto n b) f)

-- the sites up to one more
pub upto-more : (n : ℕ) → upto 0 (n + 1) ≡ upto 0 n ++ n ∷ []
upto-more n = let e : 0 + n ≡ n = omega arith in upto-split 0 n 1 ∙ ap (λ k. upto 0 n ++ k ∷ []) e

flat_map-one : {X Y : Type 0} (f : X → List Y) (x : X) → flat_map f (x ∷ []) ≡ f x
flat_map-one f x = append-nil (f x)

pub sites-more : {Y : Type 0} (f : ℕ → List Y) (n : ℕ) → flat_map f (upto 0 (n + 1)) ≡ flat_map f (upto 0 n) ++ f n
sites-more f n = ap (flat_map f) (upto-more n) ∙ flat_map-append f (upto 0 n) (n ∷ []) ∙ ap (λ ys. flat_map f (upto 0 n) ++ ys) (flat_map-one f n)

-- the patterns of the nodes before one
pub written_before : Forest → ℕ → List Written
written_before tree n = flat_map written (take n (labels tree))

pub written_before-none : (tree : Forest) → written_before tree 0 ≡ []
unfolding written_before
written_before-none tree = refl

pub written_before-more : (tree : Forest) (n : ℕ) → n < size tree → written_before tree (n + 1) ≡ written_before tree n ++ written (label_at tree n)
unfolding written_before
written_before-more tree n h =
    let l : Label = label_at tree n in
    let e = length-labels tree in
    let within : n < length (labels tree) = omega arith in
    ap (λ k. flat_map written (take k (labels tree))) (add-one n) ∙ ap (flat_map written) (take-suc (labels tree) n l within)
    ∙ flat_map-append written (take n (labels tree)) (get_or (labels tree) n l ∷ []) ∙ ap (λ ys. flat_map written (take n (labels tree)) ++ ys) (flat_map-one written (get_or (labels tree) n l))
    ∙ ap (λ m. flat_map written (take n (labels tree)) ++ written m) (label-labels tree n l h)

pub written_before-all : (tree : Forest) (n : ℕ) → size tree ≤ n → written_before tree n ≡ patterns_in tree
unfolding written_before
written_before-all tree n h = let e = length-labels tree in ap (flat_map written) (take_all n (labels tree) (omega arith)) ∙ sym (patterns_in-labels tree)

-- ---- literals

-- texts that are added, where there are none
pub none-written : (before ws : List Written) → ws ≡ [] → before ≡ before ++ ws
none-written before ws none = sym (ap (λ (rest : List Written). before ++ rest) none ∙ append-nil before)

-- a text that is added, by what it is and where it stands
pub node-written : (before new : List WrittenText) (w : WrittenText) (text : List ℕ) (at : ℕ) → new ≡ before ++ w ∷ [] → w.text.now ≡ text → w.at ≡ at
    → map see_written new ≡ map see_written before ++ record { text = text; at = at } ∷ []
node-written before new w text at put one two =
    ap (map see_written) put ∙ map-append see_written before (w ∷ [])
    ∙ ap (λ (t : List ℕ). map see_written before ++ record { text = t; at = w.at } ∷ []) one
    ∙ ap (λ (n : ℕ). map see_written before ++ record { text = text; at = n } ∷ []) two

pub no_literal : (f : File) (site : ℕ) → literal_at f site ≡ None → patterns_at f site ≡ []
no_literal f site e = by (is_sought f site) (piece_at f site) e
  where
    by : (sought : Bool) (o : Option Piece) → option_and_then tree_of_piece o ≡ None → option_map_or (patterns_of_piece sought) o [] ≡ []
    by sought None e = refl
    by sought (Some (OfExpr (literal n tree))) e = absurd cc
    by sought (Some p) e = refl

pub a_literal : (f : File) (site : ℕ) (sought : Bool) (tree : Forest) → sought ≡ is_sought f site → literal_at f site ≡ Some tree → patterns_at f site ≡ sought_text sought tree ++ patterns_in tree
a_literal f site sought tree is e = by (is_sought f site) (piece_at f site) is e
  where
    by : (other : Bool) (o : Option Piece) → sought ≡ other → option_and_then tree_of_piece o ≡ Some tree → option_map_or (patterns_of_piece other) o [] ≡ sought_text sought tree ++ patterns_in tree
    by other None is e = absurd cc
    by other (Some (OfExpr (literal n t))) is e =
        let same : t ≡ tree = cc in ap (λ (u : Forest). sought_text other u ++ patterns_in u) same ∙ ap (λ b. sought_text b tree ++ patterns_in tree) (sym is)
    by other (Some p) is e = absurd cc

-- ---- the text of a literal

pub not-sought : (tree : Forest) → sought_text false tree ≡ []
not-sought Nil = refl
not-sought (Node l kids rest) = refl

pub sought-nothing : (sought : Bool) (tree : Forest) → size tree ≡ 0 → sought_text sought tree ≡ []
sought-nothing sought Nil e = refl
sought-nothing sought (Node l kids rest) e = absurd (omega arith)

pub sought-root : (tree : Forest) → sought_text true tree ≡ written_if (is_text (label_at tree 0).kind) (label_at tree 0)
sought-root Nil = refl
sought-root (Node l kids rest) = refl
