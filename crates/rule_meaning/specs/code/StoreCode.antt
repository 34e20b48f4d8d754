-- Trees that calls made, as a plain tuple: what a model of them is kept as.
use Rattle.std.specs.Prelude.{ℕ, refl}
use Rattle.std.specs.Coded.{Coded, code_by, coded×, coded_ℕ}
use Rattle.doc_values.specs.code.Codes.{forest_code}
use Rattle.doc_values.specs.Tree.{Forest}
use Rattle.rule_meaning.specs.StoreModel.{Made}

abbrev pub made_code : Coded Made
made_code = code_by (ℕ × (ℕ × Forest)) (coded× coded_ℕ (coded× coded_ℕ forest_code)) (λ m. (m.line, (m.row, m.tree))) (λ p. record { line = p.0; row = p.1.0; tree = p.1.1 }) (λ _. refl)
