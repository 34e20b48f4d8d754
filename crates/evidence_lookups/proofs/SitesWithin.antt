-- A site that has a part is one of the file's.
use Rattle.std.proofs.Common.{◌≡◌, ◌<◌, ℕ, length, Some, sym, ◌∙◌, inl, inr, arith}
use Rattle.std.proofs.lemmas.Bool.{cases_lt}
use Rattle.guard_syntax.specs.Syntax.{File}
use Rattle.rule_names.specs.Pieces.{AreInOrder, Piece, piece_at}
use Rattle.value_store.proofs.Beyond.{beyond}

pub site-within : (f : File) (n : ℕ) (p : Piece) → AreInOrder f → piece_at f n ≡ Some p → n < length f.places
site-within f n p order at = elim (cases_lt n (length f.places)) [
  | inl less ↦ less
  | inr past ↦ absurd (let e = sym at ∙ beyond f n order (omega arith) in cc)
]
