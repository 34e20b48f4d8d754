-- The literals that a store keeps: a book of the file holds the patterns of each.
use Rattle.std.proofs.Common.{◌≡◌, ℕ, true, List, length, Option, Some, None, ap, ◌∙◌, inl, inr, Bor}
use Rattle.std.specs.Prelude.{option_and_then, MatchOption, IfSome}
use Rattle.std.proofs.lemmas.Bool.{cases_lt}
use Rattle.doc_values.specs.Tree.{Forest}
use Rattle.guard_syntax.specs.Syntax.{File}
use Rattle.rule_names.specs.Pieces.{AreInOrder}
use Rattle.rule_meaning.specs.StoreModel.{literal_at, tree_of_piece}
use Rattle.value_store.specs.code.BookCovers.{holds_in}
use Rattle.value_store.specs.code.Books.{IsBookOf}
use Rattle.value_store.proofs.Beyond.{beyond}
use Rattle.value_store.proofs.HeldPatterns.{literal-held}

pub kept-held : (f : File) (book : List (List ℕ)) (site : ℕ) (tree : Bor Forest) → AreInOrder f → IsBookOf f book → literal_at f site ≡ Some tree.now → holds_in book tree.now ≡ true
kept-held f book site tree order is_book is = elim (cases_lt site (length f.places)) [
  | inl within ↦ literal-held f book site tree.now within is_book is
  | inr past ↦ let none : literal_at f site ≡ None = ap (option_and_then tree_of_piece) (beyond f site order past) in absurd cc
]

-- what a look-up of a literal gives
pub found-held : (f : File) (book : List (List ℕ)) (site : ℕ) (o : Option (Bor Forest)) (m : Option Forest) → AreInOrder f → IsBookOf f book → literal_at f site ≡ m
    → MatchOption o (m ≡ None) (λ t. m ≡ Some t.now) → IfSome o (λ t. holds_in book t.now ≡ true)
found-held f book site None m order is_book at gives = tt
found-held f book site (Some t) m order is_book at gives = kept-held f book site t order is_book (at ∙ gives)
