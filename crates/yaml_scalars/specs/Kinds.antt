-- What kind of value a plain scalar's text is.
use Rattle.std.specs.Prelude.{ℕ, ◌≡◌, ◌⊎◌, true, false, List, [], ◌∷◌, codes}
use Rattle.doc_values.specs.declared.kind.Kind.{Kind}
use Rattle.doc_values.specs.declared.kind.Kind.TheVariants as kind
use Rattle.decimals.specs.declared.decimal.Num.{Num}
use Rattle.decimals.specs.declared.decimal.Num.TheVariants as num
use Rattle.decimals.specs.Number.{IsNumber}
use Rattle.yaml_scalars.specs.Lines.{begins_with}

-- `true True TRUE`
abbrev pub IsTrueWord : List ℕ → Type 0
IsTrueWord text = (text ≡ codes "true") ⊎ ((text ≡ codes "True") ⊎ (text ≡ codes "TRUE"))

-- `false False FALSE`
abbrev pub IsFalseWord : List ℕ → Type 0
IsFalseWord text = (text ≡ codes "false") ⊎ ((text ≡ codes "False") ⊎ (text ≡ codes "FALSE"))

-- `null Null NULL ~`, and nothing
abbrev pub IsNullWord : List ℕ → Type 0
IsNullWord text = (text ≡ []) ⊎ ((text ≡ codes "~") ⊎ ((text ≡ codes "null") ⊎ ((text ≡ codes "Null") ⊎ (text ≡ codes "NULL"))))

-- a number text of JSON, or one without a minus behind a plus, and the number in range that it spells
abbrev pub IsSignedNumber : List ℕ → Num → Type 0
IsSignedNumber text n = IsNumber text n ⊎ ((rest : List ℕ) × (text ≡ 43 ∷ rest) × (begins_with 45 rest ≡ false) × IsNumber rest n)

-- the kind of a plain scalar that is no key: by its word, else by the number that it spells, else a text
abbrev pub IsPlainKind : List ℕ → Kind → Type 0
IsPlainKind text kind.Null = IsNullWord text
IsPlainKind text (kind.Truth true) = IsTrueWord text
IsPlainKind text (kind.Truth false) = IsFalseWord text
IsPlainKind text (kind.Whole n) = IsSignedNumber text (num.Whole n)
IsPlainKind text (kind.Fraction d) = IsSignedNumber text (num.Fraction d)
IsPlainKind text kind.Text = (IsNullWord text → ⊥) × (IsTrueWord text → ⊥) × (IsFalseWord text → ⊥) × ((n : Num) → IsSignedNumber text n → ⊥)
IsPlainKind text _ = ⊥
