-- A name at its place.
use Rattle.std.specs.Prelude.{ℕ, List, refl}
use Rattle.std.specs.Coded.{Coded, code_by, coded×, coded_ℕ, coded_list}

-- the bytes of a name, and the byte offset where it stands
pub record Named : Type 0 where
  pub text : List ℕ
  pub at : ℕ

abbrev pub named_code : Coded Named
named_code = code_by (List ℕ × ℕ) (coded× (coded_list coded_ℕ) coded_ℕ) (λ n. (n.text, n.at)) (λ p. record { text = p.0; at = p.1 }) (λ _. refl)
