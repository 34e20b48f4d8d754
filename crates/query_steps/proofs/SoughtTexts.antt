-- A book of a file has the text from which a call of `regex_replace` reads its pattern.
use Rattle.std.proofs.Common.{◌≡◌, ℕ, zero, suc, ◌+◌, ◌<◌, ◌≤◌, Bool, true, false, List, [], ◌∷◌, ◌++◌, length, Option, Some, None, refl, sym, ap, subst, ◌∙◌, inl, inr, arith, nat_lt, if◌then◌else◌}
use Rattle.std.specs.Prelude.{◌==◌, option_and_then, IfSome}
use Rattle.std.specs.List.{flat_map, list_any}
use Rattle.std.specs.Option.{option_map_or}
use Rattle.std.specs.Str.{bytes_eq}
use Rattle.std.proofs.lemmas.Bool.{or_left, or_right, cases_lt}
use Rattle.std.proofs.lemmas.Bool.Decides.{nat_tests}
use Rattle.std.proofs.lemmas.List.Folds.{list_any-append}
use Rattle.std.proofs.lemmas.Slice.Eq.{bytes_eq-Decides}
use Rattle.doc_values.specs.declared.kind.Kind.{Kind}
use Rattle.doc_values.specs.declared.kind.Kind.TheVariants as kind
use Rattle.doc_values.specs.Tree.{Forest, Label, Nil, Node, size}
use Rattle.guard_syntax.specs.Functions.{name_of}
use Rattle.guard_syntax.specs.Sites.{upto}
use Rattle.guard_syntax.specs.Syntax.{Expr, Exprs, File, function, literal, no_exprs, more_exprs}
use Rattle.guard_syntax.specs.declared.function.Function.{Function}
use Rattle.guard_syntax.specs.declared.function.Function.TheVariants.{RegexReplace}
use Rattle.guard_syntax.specs.declared.row.Row.{Row}
use Rattle.guard_syntax.specs.declared.row.Row.TheVariants as row
use Rattle.rule_names.specs.WellNamed.{WellNamed}
use Rattle.rule_names.specs.Pieces.{AreInOrder, OfExpr, Piece, piece_at, pieces_expr, pieces_exprs, pieces_file}
use Rattle.rule_names.specs.Uses.{expr_in, function_named, is_text_kind, is_text_tree}
use Rattle.rule_names.specs.code.Within.{IsAmong, StandsIn}
use Rattle.rule_names.proofs.Among.{IsAmong-behind, IsAmong-first, IsAmong-inner, IsAmong-last}
use Rattle.value_store.specs.code.Books.{has_text, IsBookOf}
use Rattle.rule_meaning.specs.Functions.{single_text, text_of}
use Rattle.rule_meaning.specs.StoreModel.{StoreModel, tree_of_piece, value_in, value_or_key}
use Rattle.rule_meaning.specs.Values.{is_text}
use Rattle.rule_meaning.specs.Patterns.{Written, is_site, is_sought, patterns_at, patterns_in, patterns_of_piece, sought_at, sought_by_piece, sought_text}
use Rattle.value_store.proofs.Beyond.{beyond}
use Rattle.rule_meaning.specs.Roots.{literal_ref}
use Rattle.rule_names.proofs.FittingCalls.{pattern-written}
use Rattle.rule_names.proofs.PiecesFound.{piece-found}

-- ---- sites

within : (f : File) (n : ℕ) (q : Piece) → AreInOrder f → piece_at f n ≡ Some q → n < length f.places
within f n q order at = elim (cases_lt n (length f.places)) [
  | inl less ↦ less
  | inr past ↦ absurd (let e = sym at ∙ beyond f n order (omega arith) in cc)
]

any-upto : (p : ℕ → Bool) (n low many : ℕ) → low ≤ n → n < low + many → p n ≡ true → list_any p (upto low many) ≡ true
any-upto p n low zero least most is = absurd (omega arith)
any-upto p n low (suc many) least most is = elim (cases_lt low n) [
  | inl more ↦ or_right _ _ (any-upto p n (suc low) many (omega arith) (omega arith) is)
  | inr less ↦ let same : n ≡ low = omega arith in or_left _ _ (ap p (sym same) ∙ is)
]

among-sites : (g : ℕ → List Written) (p : Written → Bool) (n low many : ℕ) → low ≤ n → n < low + many → list_any p (g n) ≡ true → list_any p (flat_map g (upto low many)) ≡ true
among-sites g p n low zero least most is = absurd (omega arith)
among-sites g p n low (suc many) least most is =
    list_any-append p (g low) (flat_map g (upto (suc low) many)) ∙ elim (cases_lt low n) [
      | inl more ↦ or_right _ _ (among-sites g p n (suc low) many (omega arith) (omega arith) is)
      | inr less ↦ let same : n ≡ low = omega arith in or_left _ _ (ap (λ k. list_any p (g k)) (sym same) ∙ is)
    ]

-- an argument stands where its call does
argument-among : (es : Exprs) (i : ℕ) (e : Expr) → expr_in es i ≡ Some e → IsAmong (pieces_expr e) (pieces_exprs es)
argument-among no_exprs i e is = absurd cc
argument-among (more_exprs x es) zero e is =
    let same : x ≡ e = cc in
    subst (λ (y : Expr). IsAmong (pieces_expr y) (pieces_exprs (more_exprs x es))) same (IsAmong-first (pieces_expr x) (pieces_exprs es))
argument-among (more_exprs x es) (suc i) e is =
    IsAmong-inner (pieces_expr e) (pieces_exprs es) (pieces_exprs (more_exprs x es)) (argument-among es i e is) (IsAmong-last (pieces_expr x) (pieces_exprs es))

argument-stands : (f : File) (site : ℕ) (name : List ℕ) (es : Exprs) (i : ℕ) (e : Expr) → StandsIn f (pieces_expr (function site name es)) → expr_in es i ≡ Some e → StandsIn f (pieces_expr e)
argument-stands f site name es i e there is =
    IsAmong-inner (pieces_expr e) (pieces_exprs es) (pieces_file f) (argument-among es i e is)
    (IsAmong-inner (pieces_exprs es) (pieces_expr (function site name es)) (pieces_file f) (IsAmong-behind (site, OfExpr (function site name es)) (pieces_exprs es) (pieces_exprs es) (IsAmong-last [] (pieces_exprs es))) there)

-- ---- the text of a literal

text-kind : (k : Kind) → is_text_kind k ≡ true → k ≡ kind.Text
text-kind kind.Text is = refl
text-kind kind.Null is = absurd cc
text-kind kind.List is = absurd cc
text-kind kind.Map is = absurd cc
text-kind kind.Pattern is = absurd cc
text-kind (kind.Truth b) is = absurd cc
text-kind (kind.Whole n) is = absurd cc
text-kind (kind.Fraction d) is = absurd cc
text-kind (kind.Limits l) is = absurd cc

-- the site of the literal is one from which a call reads
sought : (f : File) (order : AreInOrder f) (site : ℕ) (name : List ℕ) (es : Exprs) (n : ℕ) (tree : Forest) → StandsIn f (pieces_expr (function site name es)) → name ≡ name_of RegexReplace
    → expr_in es 1 ≡ Some (literal n tree) → is_sought f n ≡ true
sought f order site name es n tree there is second =
    let at : piece_at f site ≡ Some (OfExpr (function site name es)) = piece-found f site (OfExpr (function site name es)) (pieces_exprs es) order there in
    let same : bytes_eq name (name_of RegexReplace) ≡ true = (bytes_eq-Decides name (name_of RegexReplace)).1 is in
    let reads : sought_at f site ≡ Some n = ap (option_and_then sought_by_piece) at ∙ (rw (same, second) refl) in
    let here : (n == n) ≡ true = grind (arith, nat_tests) in
    any-upto (λ k. is_site n (sought_at f k)) site 0 (length f.places) (omega arith) (omega (arith, within f site (OfExpr (function site name es)) order at)) (ap (is_site n) reads ∙ here)

-- so the book has its text
text-held : (f : File) (book : List (List ℕ)) (order : AreInOrder f) → IsBookOf f book → (site : ℕ) (name : List ℕ) (es : Exprs) (n : ℕ) (l : Label) (kids rest : Forest)
    → StandsIn f (pieces_expr (function site name es)) → name ≡ name_of RegexReplace → expr_in es 1 ≡ Some (literal n (Node l kids rest)) → l.kind ≡ kind.Text → has_text book l.text ≡ true
text-held f book order is_book site name es n l kids rest there is second text =
    let p : Written → Bool = λ (w : Written). bytes_eq l.text w.text in
    let tree = Node l kids rest in
    let at : piece_at f n ≡ Some (OfExpr (literal n tree)) = piece-found f n (OfExpr (literal n tree)) [] order (argument-stands f site name es 1 (literal n tree) there second) in
    let has : patterns_at f n ≡ sought_text true tree ++ patterns_in tree =
    ap (λ (o : Option Piece). option_map_or (patterns_of_piece (is_sought f n)) o []) at
    ∙ ap (λ (b : Bool). sought_text b tree ++ patterns_in tree) (sought f order site name es n tree there is second) in
    let written : sought_text true tree ≡ record { text = l.text; at = l.at } ∷ [] = rw text refl in
    let same : bytes_eq l.text l.text ≡ true = (bytes_eq-Decides l.text l.text).1 refl in
    is_book l.text
    ∙ among-sites (patterns_at f) p n 0 (length f.places) (omega arith) (omega (arith, within f n (OfExpr (literal n tree)) order at))
    (ap (list_any p) has ∙ list_any-append p (sought_text true tree) (patterns_in tree) ∙ or_left _ _ (ap (list_any p) written ∙ or_left _ _ same))

-- the pattern that a call of `regex_replace` is given is one that the book has
pub pattern-held : (k : StoreModel) (book : List (List ℕ)) → AreInOrder k.file → WellNamed k.file → IsBookOf k.file book → (site : ℕ) (name : List ℕ) (es : Exprs) (g : Function)
    → StandsIn k.file (pieces_expr (function site name es)) → name ≡ name_of g → function_named name ≡ Some g → (rows : List Row)
    → ((n : ℕ) (tree : Forest) → expr_in es 1 ≡ Some (literal n tree) → rows ≡ row.Found (literal_ref n) ∷ [])
    → g ≡ RegexReplace → IfSome (single_text k rows) (λ text. has_text book text ≡ true)
pattern-held k book order named is_book site name es g there spelled is rows are same =
    let told = pattern-written k.file named site name es there (is ∙ ap Some same) in
    by told.0 told.1 told.2 told.3
  where
    by : (n : ℕ) (tree : Forest) → expr_in es 1 ≡ Some (literal n tree) → is_text_tree tree ≡ true → IfSome (single_text k rows) (λ text. has_text book text ≡ true)
    by n Nil second text = absurd cc
    by n (Node l kids rest) second text =
        let tree = Node l kids rest in
        let kind_is : l.kind ≡ kind.Text = text-kind l.kind text in
        let at : piece_at k.file n ≡ Some (OfExpr (literal n tree)) = piece-found k.file n (OfExpr (literal n tree)) [] order (argument-stands k.file site name es 1 (literal n tree) there second) in
        let inside : nat_lt 0 (size tree) ≡ true = grind (arith, nat_tests) in
        let given : single_text k rows ≡ Some l.text =
        ap (single_text k) (are n tree second)
        ∙ ap (λ (o : Option Piece). option_and_then text_of (option_and_then (value_in 0 false) (option_and_then tree_of_piece o))) at
        ∙ ap (λ (b : Bool). option_and_then text_of (if b then value_or_key false tree 0 else None)) inside
        ∙ ap (λ (q : Kind). if is_text q then Some l.text else None) kind_is in
        subst (λ (o : Option (List ℕ)). IfSome o (λ text. has_text book text ≡ true)) (sym given)
        (text-held k.file book order is_book site name es n l kids rest there (spelled ∙ ap name_of same) second kind_is)
