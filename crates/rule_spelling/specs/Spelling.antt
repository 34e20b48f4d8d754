-- How values are spelled in the language of rules.
use Rattle.std.specs.Prelude.{ℕ, zero, suc, Bool, false, List, [], ◌∷◌, ◌++◌, ◌==◌, codes, if◌then◌else◌}
use Rattle.std.specs.Fmt.{signed_decimal}
use Rattle.decimals.specs.declared.decimal.Num.{Num}
use Rattle.decimals.specs.declared.decimal.Num.TheVariants as num
use Rattle.doc_values.specs.declared.kind.Kind.{Kind}
use Rattle.doc_values.specs.declared.kind.Kind.TheVariants as kind
use Rattle.doc_values.specs.Tree.{Label}
use Rattle.rule_meaning.specs.Functions.{decimal_text, truth_text}

-- a backslash before each byte that is this one
abbrev pub escaped : ℕ → List ℕ → List ℕ
escaped q [] = []
escaped q (b ∷ bs) = if b == q then 92 ∷ b ∷ escaped q bs else b ∷ escaped q bs

-- between two of them
abbrev pub enclosed : ℕ → List ℕ → List ℕ
enclosed q text = q ∷ (escaped q text ++ (q ∷ []))

-- a text: in double quotes
abbrev pub quoted : List ℕ → List ℕ
quoted text = enclosed 34 text

-- a pattern: between slashes
abbrev pub pattern_text : List ℕ → List ℕ
pattern_text text = enclosed 47 text

-- a text that ends in a backslash has no spelling: the quote behind it would be no end
abbrev pub ends_in_backslash : List ℕ → Bool
ends_in_backslash [] = false
ends_in_backslash (b ∷ []) = b == 92
ends_in_backslash (b ∷ c ∷ bs) = ends_in_backslash (c ∷ bs)

-- `.0` behind a decimal without digits behind a point, so that it is no whole number
abbrev pub point_zero : ℕ → List ℕ
point_zero zero = codes ".0"
point_zero (suc scale) = []

-- a number
abbrev pub number_text : Num → List ℕ
number_text (num.Whole n) = signed_decimal n
number_text (num.Fraction d) = decimal_text d ++ point_zero d.scale

-- a value that holds none, by its kind and its text
abbrev pub scalar_of : Kind → List ℕ → List ℕ
scalar_of kind.Text text = quoted text
scalar_of kind.Pattern text = pattern_text text
scalar_of (kind.Whole n) text = number_text (num.Whole n)
scalar_of (kind.Fraction d) text = number_text (num.Fraction d)
scalar_of (kind.Truth b) text = truth_text b
scalar_of _ text = codes "null"

abbrev pub scalar_text : Label → List ℕ
scalar_text label = scalar_of label.kind label.text
