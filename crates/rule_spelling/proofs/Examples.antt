-- Worked examples of spellings; they hold by computing, but for the digits of a number.
use Rattle.std.proofs.Common.{◌≡◌, ℕ, List, [], ◌∷◌, ◌++◌, pos, negsuc, refl, ap, arith}
use Rattle.std.specs.Prelude.{codes}
use Rattle.std.proofs.lemmas.Fmt.{decimal_digit}
use Rattle.decimals.specs.declared.decimal.Num.TheVariants as num
use Rattle.guard_lexer.specs.declared.token.Mark.TheVariants as m
use Rattle.guard_lexer.specs.declared.token.TokenKind.TheVariants as k
use Rattle.rule_meaning.specs.Functions.{scaled_text}
use Rattle.rule_spelling.specs.Spelling.{number_text, pattern_text, quoted}
use Rattle.rule_spelling.specs.code.Pieces.{Piece, spelled}

-- a"b
quote-escaped : quoted (97 ∷ 34 ∷ 98 ∷ []) ≡ 34 ∷ 97 ∷ 92 ∷ 34 ∷ 98 ∷ 34 ∷ []
quote-escaped = refl

slash-escaped : pattern_text (codes "a/b") ≡ 47 ∷ 97 ∷ 92 ∷ 47 ∷ 98 ∷ 47 ∷ []
slash-escaped = refl

whole-number : number_text (num.Whole (negsuc 6)) ≡ codes "-7"
whole-number = ap (λ (digits : List ℕ). 45 ∷ digits) (decimal_digit 7 (omega arith))

decimal-of-no-scale : number_text (num.Fraction (record { units = pos 1; scale = 0 })) ≡ codes "1.0"
decimal-of-no-scale = ap (λ (digits : List ℕ). digits ++ codes ".0") (decimal_digit 1 (omega arith))

small-decimal : number_text (num.Fraction (record { units = negsuc 4; scale = 2 })) ≡ codes "-0.05"
small-decimal = ap (λ (digits : List ℕ). (45 ∷ scaled_text 2 digits) ++ []) (decimal_digit 5 (omega arith))

-- a name, a dot and a text
some-pieces : List Piece
some-pieces =
    record { gap = []; kind = k.Name; text = codes "a" } ∷ record { gap = []; kind = k.Mark m.Dot; text = codes "." }
    ∷ record { gap = []; kind = k.Str; text = quoted (codes "b c") } ∷ []

spelled-pieces : spelled some-pieces (codes "\n") ≡ codes "a." ++ (34 ∷ (codes "b c" ++ (34 ∷ 10 ∷ [])))
unfolding some-pieces
spelled-pieces = refl
