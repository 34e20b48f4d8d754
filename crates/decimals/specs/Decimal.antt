-- Decimals: units with a scale, and their order.
use Rattle.std.specs.Prelude.{ℕ, ◌^◌, ◌<◌, ◌≤◌, ◌≡◌, ◌%◌, ℤ, pos, ◌*ℤ◌, unsigned_abs}
use Rattle.std.specs.Ordering.{int_cmp}
use Rattle.std.specs.declared.cmp.Ordering.{Ordering}

-- the number units / 10^scale
pub record Decimal : Type 0 where
  pub units : ℤ
  pub scale : ℕ

-- the range of decimals, and their one form: no zero at the end of the units but where the scale is 0
pub record IsNormal (d : Decimal) : Type 0 where
  pub small : unsigned_abs d.units < 10 ^ 18
  pub fine : d.scale ≤ 18
  pub short : 0 < d.scale → unsigned_abs d.units % 10 ≡ 0 → ⊥

-- a against b, by cross multiplication
abbrev pub order : Decimal → Decimal → Ordering
order a b = int_cmp (a.units *ℤ pos (10 ^ b.scale)) (b.units *ℤ pos (10 ^ a.scale))
