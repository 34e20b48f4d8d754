-- How a decimal is stored.
use Rattle.std.specs.Prelude.{ℕ, ℤ, refl}
use Rattle.std.specs.Coded.{Coded, code_by, coded×, coded_ℕ, coded_ℤ}
use Rattle.decimals.specs.Decimal.{Decimal}

abbrev pub decimal_code : Coded Decimal
decimal_code = code_by (ℤ × ℕ) (coded× coded_ℤ coded_ℕ) (λ d. (d.units, d.scale)) (λ p. record { units = p.0; scale = p.1 }) (λ _. refl)
