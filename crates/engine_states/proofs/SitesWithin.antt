-- What stands at a site has a place.
use Rattle.std.proofs.Common.{◌≡◌, ℕ, ◌<◌, sym, ◌∙◌, inl, inr, arith, length, Some}
use Rattle.std.proofs.lemmas.Bool.{cases_lt}
use Rattle.std.proofs.lemmas.Option.{none-some}
use Rattle.guard_syntax.specs.Syntax.{File}
use Rattle.rule_names.specs.Pieces.{AreInOrder, Piece, piece_at}
use Rattle.value_store.proofs.Beyond.{beyond}

pub site-within : (f : File) → AreInOrder f → (site : ℕ) (p : Piece) → piece_at f site ≡ Some p → site < length f.places
site-within f ordered site p is = elim (cases_lt site (length f.places)) [
  | inl within ↦ within
  | inr past ↦ absurd (none-some p (sym (beyond f site ordered (omega (arith, past))) ∙ is))
]
