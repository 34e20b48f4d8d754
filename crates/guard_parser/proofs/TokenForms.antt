-- The form of a token that is no mark, and the lexeme of a token.
use Rattle.std.proofs.Common.{◌≡◌, ℕ, ◌<◌, Bool, true, false, cond, refl, List, length, get_or, Option, Some, None, bytes_eq, codes}
use Rattle.std.proofs.lemmas.List.{get_or-map}
use Rattle.guard_lexer.specs.declared.token.Token.{Token}
use Rattle.literal_parser.specs.declared.keyword.Keyword.{Keyword}
use Rattle.literal_parser.specs.declared.keyword.Keyword.TheVariants as kw
use Rattle.literal_parser.specs.Lexemes.{name_word, lexeme_of, ending, lexemes}
use Rattle.literal_parser.specs.Forms.{word_form, keyword_form, is_any_name}

either_name : (f : ℕ → Bool) (v : Bool) (x y : ℕ) → f x ≡ true → f y ≡ true → f (cond v x y) ≡ true
either_name f true x y p q = p
either_name f false x y p q = q

keyword_named : (k : Keyword) → is_any_name (keyword_form k) ≡ true
keyword_named kw.Let = refl
keyword_named kw.Rule = refl
keyword_named kw.True = refl
keyword_named kw.False = refl
keyword_named kw.Null = refl
keyword_named kw.When = refl
keyword_named kw.Some = refl
keyword_named kw.Or = refl
keyword_named kw.Not = refl
keyword_named kw.Keys = refl
keyword_named kw.This = refl
keyword_named kw.In = refl
keyword_named kw.Exists = refl
keyword_named kw.Empty = refl
keyword_named kw.IsString = refl
keyword_named kw.IsList = refl
keyword_named kw.IsStruct = refl
keyword_named kw.IsBool = refl
keyword_named kw.IsInt = refl
keyword_named kw.IsFloat = refl
keyword_named kw.IsNull = refl

-- a name or a keyword has the form of one
pub name_named : (k : Option Keyword) (name : List ℕ) → is_any_name (word_form (name_word k name)) ≡ true
name_named None name = either_name is_any_name (bytes_eq name (codes "r")) 60 _ refl (either_name is_any_name (bytes_eq name (codes "default")) 61 1 refl refl)
name_named (Some k) name = keyword_named k

-- the lexeme of a token
pub lexeme_there : (text : List ℕ) (tokens : List Token) (i : ℕ) (t : Token) → i < length tokens → lexemes text tokens i ≡ lexeme_of text (get_or tokens i t)
lexeme_there text tokens i t less = get_or-map (lexeme_of text) tokens i t (ending text) less
