-- The parts of the typing table. No public clause names this file.
use Rattle.std.specs.Prelude.{ℕ, true, false, List}
use Rattle.doc_values.specs.declared.kind.Kind.{Kind}
use Rattle.doc_values.specs.declared.kind.Kind.TheVariants as kind
use Rattle.decimals.specs.declared.decimal.Num.{Num}
use Rattle.decimals.specs.declared.decimal.Num.TheVariants as num
use Rattle.yaml_scalars.specs.Kinds.{IsNullWord, IsTrueWord, IsFalseWord}

-- no word of a kind
abbrev pub IsNoWord : List ℕ → Type 0
IsNoWord text = (IsNullWord text → ⊥) × (IsTrueWord text → ⊥) × (IsFalseWord text → ⊥)

-- a word of this kind
abbrev pub IsOfWord : List ℕ → Kind → Type 0
IsOfWord text kind.Null = IsNullWord text
IsOfWord text (kind.Truth true) = IsTrueWord text
IsOfWord text (kind.Truth false) = IsFalseWord text
IsOfWord text _ = ⊥

abbrev pub kind_of : Num → Kind
kind_of (num.Whole n) = kind.Whole n
kind_of (num.Fraction d) = kind.Fraction d
