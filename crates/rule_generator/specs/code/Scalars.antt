-- Values that have a spelling, as keys of a set.
use Rattle.std.specs.Prelude.{◌≡◌}
use Rattle.decimals.specs.Decimal.{IsNormal}
use Rattle.doc_values.specs.declared.kind.Kind.TheVariants as kind
use Rattle.rule_meaning.specs.Values.{Value}
use Rattle.rule_generator.specs.declared.scalar.Scalar.{Scalar}
use Rattle.rule_generator.specs.declared.scalar.Scalar.TheVariants as scalar

-- a key stands for a value
abbrev pub IsKeyOf : Scalar → Value → Type 0
IsKeyOf scalar.Null v = v.kind ≡ kind.Null
IsKeyOf (scalar.Truth b) v = v.kind ≡ kind.Truth b
IsKeyOf (scalar.Whole n) v = v.kind ≡ kind.Whole n
IsKeyOf (scalar.Decimal units scale) v = IsNormal (record { units = units; scale = scale }) × (v.kind ≡ kind.Fraction (record { units = units; scale = scale }))
IsKeyOf (scalar.Text text) v = (v.kind ≡ kind.Text) × (v.text ≡ text.now)
