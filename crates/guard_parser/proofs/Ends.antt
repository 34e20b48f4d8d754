-- Where the lexemes of a text's tokens end.
use Rattle.std.proofs.Common.{◌≡◌, ℕ, zero, suc, ◌<◌, ◌≤◌, Bool, true, false, cond, true≢false, refl, ap, sym, ◌∙◌, arith, List, [], ◌∷◌, length, map, slice_index_or, Option, Some, None, bytes_eq, codes}
use Rattle.guard_lexer.specs.declared.token.Mark.{Mark}
use Rattle.guard_lexer.specs.declared.token.Mark.TheVariants as m
use Rattle.guard_lexer.specs.declared.token.Token.{Token}
use Rattle.guard_lexer.specs.declared.token.TokenKind.{TokenKind}
use Rattle.guard_lexer.specs.declared.token.TokenKind.TheVariants as k
use Rattle.literal_parser.specs.declared.keyword.Keyword.{Keyword}
use Rattle.literal_parser.specs.declared.keyword.Keyword.TheVariants as kw
use Rattle.literal_parser.specs.Lexemes.{Lexeme, keyword_of, name_word, word_of, lexeme_of, ending, lexemes}
use Rattle.literal_parser.specs.Forms.{form, word_form, mark_form, keyword_form, is_index_number, is_end}

mark_goes_on : (mark : Mark) → is_end (mark_form mark) ≡ false
mark_goes_on m.LBrace = refl
mark_goes_on m.RBrace = refl
mark_goes_on m.LParen = refl
mark_goes_on m.RParen = refl
mark_goes_on m.LBracket = refl
mark_goes_on m.RBracket = refl
mark_goes_on m.Comma = refl
mark_goes_on m.Bar = refl
mark_goes_on m.Dot = refl
mark_goes_on m.Star = refl
mark_goes_on m.Colon = refl
mark_goes_on m.Equals = refl
mark_goes_on m.Define = refl
mark_goes_on m.Bang = refl
mark_goes_on m.Same = refl
mark_goes_on m.Differs = refl
mark_goes_on m.Less = refl
mark_goes_on m.LessEq = refl
mark_goes_on m.Greater = refl
mark_goes_on m.GreaterEq = refl

keyword_goes_on : (keyword : Keyword) → is_end (keyword_form keyword) ≡ false
keyword_goes_on kw.Let = refl
keyword_goes_on kw.Rule = refl
keyword_goes_on kw.True = refl
keyword_goes_on kw.False = refl
keyword_goes_on kw.Null = refl
keyword_goes_on kw.When = refl
keyword_goes_on kw.Some = refl
keyword_goes_on kw.Or = refl
keyword_goes_on kw.Not = refl
keyword_goes_on kw.Keys = refl
keyword_goes_on kw.This = refl
keyword_goes_on kw.In = refl
keyword_goes_on kw.Exists = refl
keyword_goes_on kw.Empty = refl
keyword_goes_on kw.IsString = refl
keyword_goes_on kw.IsList = refl
keyword_goes_on kw.IsStruct = refl
keyword_goes_on kw.IsBool = refl
keyword_goes_on kw.IsInt = refl
keyword_goes_on kw.IsFloat = refl
keyword_goes_on kw.IsNull = refl

choice_goes_on : (b : Bool) (x y : ℕ) → is_end x ≡ false → is_end y ≡ false → is_end (cond b x y) ≡ false
choice_goes_on true x y p q = p
choice_goes_on false x y p q = q

name_goes_on : (keyword : Option Keyword) (name : List ℕ) → is_end (word_form (name_word keyword name)) ≡ false
name_goes_on None name = choice_goes_on (bytes_eq name (codes "r")) 60 _ refl (choice_goes_on (bytes_eq name (codes "default")) 61 1 refl refl)
name_goes_on (Some keyword) name = keyword_goes_on keyword

token_goes_on : (kind : TokenKind) (bytes : List ℕ) → is_end (word_form (word_of kind bytes)) ≡ false
token_goes_on k.Name bytes = name_goes_on (keyword_of bytes) bytes
token_goes_on k.TypeName bytes = refl
token_goes_on k.Var bytes = refl
token_goes_on k.Str bytes = refl
token_goes_on k.Pat bytes = refl
token_goes_on (k.Whole n) bytes = choice_goes_on (is_index_number n) 6 9 refl refl
token_goes_on (k.Fraction d) bytes = refl
token_goes_on k.Note bytes = refl
token_goes_on (k.Mark mark) bytes = mark_goes_on mark

tokens_go_on : (text : List ℕ) (ts : List Token) (i : ℕ) (e : Lexeme) → i < length ts → is_end (form (slice_index_or (map (lexeme_of text) ts) i e)) ≡ false
tokens_go_on text [] i e less = absurd (omega arith)
tokens_go_on text (t ∷ ts) zero e less = token_goes_on t.kind _
tokens_go_on text (t ∷ ts) (suc i) e less = tokens_go_on text ts i e (omega arith)

pub end_is : (text : List ℕ) (ts : List Token) (e : Lexeme) → slice_index_or (map (lexeme_of text) ts) (length ts) e ≡ e
end_is text [] e = refl
end_is text (t ∷ ts) e = end_is text ts e

-- what stands behind all tokens is the end
pub ends_there : (text : List ℕ) (tokens : List Token) → is_end (form (lexemes text tokens (length tokens))) ≡ true
ends_there text tokens = ap (λ (x : Lexeme). is_end (form x)) (end_is text tokens (ending text))

-- and nothing before is
pub ends_behind : (text : List ℕ) (tokens : List Token) (i : ℕ) → is_end (form (lexemes text tokens i)) ≡ true → length tokens ≤ i
ends_behind text tokens i e = grind (arith, helper) where
  helper : i < length tokens → ⊥
  helper less = true≢false (sym e ∙ tokens_go_on text tokens i (ending text) less)
