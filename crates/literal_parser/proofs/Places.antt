-- The lexeme of a token by its number, and the shape of it.
use Rattle.std.proofs.Common.{◌≡◌, ℕ, ◌<◌, ◌≤◌, Bool, true, false, List, map, length, get_or, ◌&&◌, refl, ap, sym, ◌∙◌, arith, nat_lt, true≢false, cond}
use Rattle.std.specs.Prelude.{ℤ, ◌==◌, codes, bytes_eq}
use Rattle.std.proofs.lemmas.Bool.{ltb-true, ltb-false}
use Rattle.std.proofs.lemmas.List.{get_or-map, length-map}
use Rattle.std.proofs.Math.ListN.{get_or-eq_default}
use Rattle.guard_lexer.specs.declared.token.Token.{Token}
use Rattle.guard_lexer.specs.declared.token.TokenKind.TheVariants as k
use Rattle.literal_parser.specs.declared.token_class.TokenClass.{TokenClass}
use Rattle.literal_parser.specs.declared.token_class.TokenClass.TheVariants as sh
use Rattle.literal_parser.specs.declared.token_class.TokenTest.{TokenTest}
use Rattle.literal_parser.specs.declared.token_class.TokenTest.TheVariants as w
use Rattle.literal_parser.specs.Lexemes.{Lexeme, lexeme_of, lexemes, ending, Word, Name, Reserved, TypeName, Var, Str, Pat, Whole, Fraction, Note, Sign, End}
use Rattle.literal_parser.specs.Forms.{form, is_r, is_opening_end, opens_range, word_form, name_form, whole_form, is_index_number, magnitude}
use Rattle.literal_parser.specs.code.TokenClasses.{shape_form, wants, shape_of, shape_in, name_shape, whole_shape}

pub at_token : (text : List ℕ) (tokens : List Token) (i : ℕ) (d : Token) → i < length tokens → lexemes text tokens i ≡ lexeme_of text (get_or tokens i d)
at_token text tokens i d within = get_or-map (lexeme_of text) tokens i d (ending text) within

pub at_end : (text : List ℕ) (tokens : List Token) (i : ℕ) → length tokens ≤ i → lexemes text tokens i ≡ ending text
at_end text tokens i behind = get_or-eq_default (map (lexeme_of text) tokens) (ending text) (omega (arith, length-map tokens (lexeme_of text)))

-- as many shapes as tokens
pub same_length : (text : List ℕ) (tokens : List Token) (shapes : List TokenClass) →
    shapes ≡ map (λ (t : Token). shape_of (lexeme_of text t)) tokens → length shapes ≡ length tokens
same_length text tokens shapes e = ap (λ (xs : List TokenClass). length xs) e ∙ length-map tokens (λ (t : Token). shape_of (lexeme_of text t))

-- a token, where one is asked for and none is meant
some_token : Token
some_token = record { kind = k.Name; from = 0; to = 0 }

pub at_shape : (text : List ℕ) (tokens : List Token) (shapes : List TokenClass) (i : ℕ) →
    shapes ≡ map (λ (t : Token). shape_of (lexeme_of text t)) tokens → i < length shapes → get_or shapes i sh.End ≡ shape_of (lexemes text tokens i)
at_shape text tokens shapes i e within =
    let same = same_length text tokens shapes e in
    let inside : i < length tokens = omega arith in
    ap (λ (xs : List TokenClass). get_or xs i sh.End) e
    ∙ get_or-map (λ (t : Token). shape_of (lexeme_of text t)) tokens i some_token sh.End inside ∙ ap shape_of (sym (at_token text tokens i some_token inside))

pub past_shapes : (text : List ℕ) (tokens : List Token) (shapes : List TokenClass) (i : ℕ) →
    shapes ≡ map (λ (t : Token). shape_of (lexeme_of text t)) tokens → length shapes ≤ i → sh.End ≡ shape_of (lexemes text tokens i)
past_shapes text tokens shapes i e behind =
    let same = same_length text tokens shapes e in ap shape_of (sym (at_end text tokens i (omega arith)))

-- ---- a shape has the form of its lexeme

shape_of_name : (name : List ℕ) → shape_form (name_shape name) ≡ name_form name
shape_of_name name = by_r (bytes_eq name (codes "r")) where
  by_default : (b : Bool) → shape_form (cond b sh.Default sh.Name) ≡ cond b 61 1
  by_default true = refl
  by_default false = refl

  by_r : (b : Bool) → shape_form (cond b sh.R (cond (bytes_eq name (codes "default")) sh.Default sh.Name)) ≡ cond b 60 (cond (bytes_eq name (codes "default")) 61 1)
  by_r true = refl
  by_r false = by_default (bytes_eq name (codes "default"))

shape_of_whole : (n : ℤ) → shape_form (whole_shape n) ≡ whole_form n
shape_of_whole n = by_index (is_index_number n) where
  by_index : (b : Bool) → shape_form (cond b (sh.Index (magnitude n)) sh.Whole) ≡ cond b 6 9
  by_index true = refl
  by_index false = refl

form_in : (word : Word) → shape_form (shape_in word) ≡ word_form word
form_in End = refl
form_in (Name name) = shape_of_name name
form_in (TypeName name) = refl
form_in (Var name) = refl
form_in (Str text) = refl
form_in (Pat text) = refl
form_in (Whole n) = shape_of_whole n
form_in (Fraction d) = refl
form_in (Note text) = refl
form_in (Sign mark) = refl
form_in (Reserved keyword name) = refl

pub shape_has_form : (x : Lexeme) → shape_form (shape_of x) ≡ form x
shape_has_form x = form_in x.word

-- no test takes the end for a token
none_at_end : (want : TokenTest) → wants want 0 ≡ false
none_at_end w.Name = refl
none_at_end w.RuleName = refl
none_at_end w.AnyName = refl
none_at_end w.R = refl
none_at_end w.TypeName = refl
none_at_end w.Var = refl
none_at_end w.Index = refl
none_at_end w.Number = refl
none_at_end w.Note = refl
none_at_end w.LBrace = refl
none_at_end w.RBrace = refl
none_at_end w.LParen = refl
none_at_end w.RParen = refl
none_at_end w.LBracket = refl
none_at_end w.RBracket = refl
none_at_end w.Comma = refl
none_at_end w.Bar = refl
none_at_end w.Dot = refl
none_at_end w.Star = refl
none_at_end w.Colon = refl
none_at_end w.Assign = refl
none_at_end w.Equality = refl
none_at_end w.Comparison = refl
none_at_end w.Let = refl
none_at_end w.Rule = refl
none_at_end w.When = refl
none_at_end w.Some = refl
none_at_end w.Or = refl
none_at_end w.Neg = refl
none_at_end w.Keys = refl
none_at_end w.This = refl
none_at_end w.In = refl
none_at_end w.Operator = refl
none_at_end w.Key = refl
none_at_end w.FirstKey = refl
none_at_end w.Start = refl
none_at_end w.Step = refl
none_at_end w.Cond = refl
none_at_end w.Part = refl
none_at_end w.CondLead = refl
none_at_end w.PartLead = refl
none_at_end w.Constant = refl
none_at_end w.FunctionWord = refl
none_at_end w.Scalar = refl
none_at_end w.Plain = refl
none_at_end w.OpeningEnd = refl
none_at_end w.ClosingEnd = refl
none_at_end w.Square = refl

pub within_tokens : (text : List ℕ) (tokens : List Token) (i : ℕ) (want : TokenTest) → wants want (form (lexemes text tokens i)) ≡ true → i < length tokens
within_tokens text tokens i want e = by_place (nat_lt i (length tokens)) refl where
  by_place : (b : Bool) → nat_lt i (length tokens) ≡ b → i < length tokens
  by_place true is = ltb-true i (length tokens) is
  by_place false is =
      let behind : length tokens ≤ i = ltb-false i (length tokens) is in
      absurd (true≢false (sym e ∙ ap (λ x. wants want (form x)) (at_end text tokens i behind) ∙ none_at_end want))

-- what a shape is told by is its lexeme's form
pub told : (f : ℕ → Bool) (shape : TokenClass) (x : Lexeme) (b : Bool) → b ≡ f (shape_form shape) → shape ≡ shape_of x → b ≡ f (form x)
told f shape x b e is = e ∙ ap (λ (y : TokenClass). f (shape_form y)) is ∙ ap f (shape_has_form x)

neither_way : (a b c : Bool) → b ≡ false → false ≡ (a && (b && c))
neither_way true b c e = rw e refl
neither_way false b c e = refl

-- no range is opened by what is no bracket
pub no_bracket : (x y : Lexeme) → is_opening_end (form y) ≡ false → false ≡ opens_range x y
no_bracket x y e = neither_way (is_r (form x)) (is_opening_end (form y)) (y.from == x.to) e

-- nor by what is no `r`
pub no_r : (x y : Lexeme) → is_r (form x) ≡ false → false ≡ opens_range x y
no_r x y e = ap (λ b. b && (is_opening_end (form y) && y.from == x.to)) (sym e)

-- an `r` and a bracket open a range where the one ends at the place at which the other begins
pub by_places : (x y : Lexeme) (from to : ℕ) → is_r (form x) ≡ true → is_opening_end (form y) ≡ true → from ≡ y.from → to ≡ x.to → (from == to) ≡ opens_range x y
by_places x y from to e f g h =
    ap (λ n. n == to) g ∙ ap (λ n. y.from == n) h ∙ ap (λ b. b && y.from == x.to) (sym f) ∙ ap (λ b. b && (is_opening_end (form y) && y.from == x.to)) (sym e)
