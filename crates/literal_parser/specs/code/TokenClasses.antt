-- The forms of lexemes and the tests of them, as the code has them.
use Rattle.std.specs.Prelude.{ℕ, ℤ, Bool, true, false, List, codes, bytes_eq, if◌then◌else◌}
use Rattle.std.specs.Borrow.{Bor}
use Rattle.guard_syntax.specs.declared.syntax.Op.{Op}
use Rattle.guard_syntax.specs.declared.syntax.Op.TheVariants as op
use Rattle.literal_parser.specs.declared.keyword.Keyword.{Keyword}
use Rattle.literal_parser.specs.declared.token_class.TokenClass.{TokenClass}
use Rattle.literal_parser.specs.declared.token_class.TokenClass.TheVariants as sh
use Rattle.literal_parser.specs.declared.token_class.TokenTest.{TokenTest}
use Rattle.literal_parser.specs.declared.token_class.TokenTest.TheVariants as w
use Rattle.literal_parser.specs.Lexemes.{Lexeme, Word, Name, Reserved, TypeName, Var, Str, Pat, Whole, Fraction, Note, Sign, End}
use Rattle.literal_parser.specs.Forms.{is_index_number, magnitude, keyword_operator, mark_operator, mark_form, keyword_form, is_name, is_rule_name, is_any_name, is_r, is_type_name, is_var, is_index, is_number, is_note, is_lbrace, is_rbrace, is_lparen, is_rparen, is_lbracket, is_rbracket, is_comma, is_bar, is_dot, is_star, is_colon, is_assign, is_equality, is_sign, is_let, is_rule, is_when, is_some_word, is_or, is_neg, is_keys, is_this, is_in, is_operator_word, is_key, is_first_key, is_start, begins_step, begins_cond, begins_part, is_constant, is_function_word, is_scalar, is_plain, is_opening_end, is_closing_end, is_square, leads}

-- a row of the code's table of keywords, as one of the definition's
abbrev pub spelling : Bor (List ℕ) × Keyword → List ℕ × Keyword
spelling row = (row.0.now, row.1)

abbrev pub shape_form : TokenClass → ℕ
shape_form sh.End = 0
shape_form sh.Name = 1
shape_form sh.TypeName = 2
shape_form sh.Var = 3
shape_form sh.Str = 4
shape_form sh.Pat = 5
shape_form (sh.Index i) = 6
shape_form sh.Fraction = 7
shape_form sh.Note = 8
shape_form sh.Whole = 9
shape_form sh.R = 60
shape_form sh.Default = 61
shape_form (sh.Sign mark) = mark_form mark
shape_form (sh.Reserved keyword) = keyword_form keyword

-- the shape of a word
abbrev pub name_shape : List ℕ → TokenClass
name_shape name = if bytes_eq name (codes "r") then sh.R else (if bytes_eq name (codes "default") then sh.Default else sh.Name)

abbrev pub whole_shape : ℤ → TokenClass
whole_shape n = if is_index_number n then sh.Index (magnitude n) else sh.Whole

abbrev pub shape_in : Word → TokenClass
shape_in End = sh.End
shape_in (Name name) = name_shape name
shape_in (TypeName name) = sh.TypeName
shape_in (Var name) = sh.Var
shape_in (Str text) = sh.Str
shape_in (Pat text) = sh.Pat
shape_in (Whole n) = whole_shape n
shape_in (Fraction d) = sh.Fraction
shape_in (Note text) = sh.Note
shape_in (Sign mark) = sh.Sign mark
shape_in (Reserved keyword name) = sh.Reserved keyword

abbrev pub shape_of : Lexeme → TokenClass
shape_of x = shape_in x.word

-- what a shape tells of its word
abbrev pub shape_operator : TokenClass → Op
shape_operator (sh.Reserved keyword) = keyword_operator keyword
shape_operator _ = op.Exists

abbrev pub shape_sign : TokenClass → Op × Bool
shape_sign (sh.Sign mark) = mark_operator mark
shape_sign _ = (op.Eq, false)

abbrev pub shape_index : TokenClass → ℕ
shape_index (sh.Index i) = i
shape_index _ = 0

-- the test of a form
abbrev pub wants : TokenTest → ℕ → Bool
wants w.Name = is_name
wants w.RuleName = is_rule_name
wants w.AnyName = is_any_name
wants w.R = is_r
wants w.TypeName = is_type_name
wants w.Var = is_var
wants w.Index = is_index
wants w.Number = is_number
wants w.Note = is_note
wants w.LBrace = is_lbrace
wants w.RBrace = is_rbrace
wants w.LParen = is_lparen
wants w.RParen = is_rparen
wants w.LBracket = is_lbracket
wants w.RBracket = is_rbracket
wants w.Comma = is_comma
wants w.Bar = is_bar
wants w.Dot = is_dot
wants w.Star = is_star
wants w.Colon = is_colon
wants w.Assign = is_assign
wants w.Equality = is_equality
wants w.Comparison = is_sign
wants w.Let = is_let
wants w.Rule = is_rule
wants w.When = is_when
wants w.Some = is_some_word
wants w.Or = is_or
wants w.Neg = is_neg
wants w.Keys = is_keys
wants w.This = is_this
wants w.In = is_in
wants w.Operator = is_operator_word
wants w.Key = is_key
wants w.FirstKey = is_first_key
wants w.Start = is_start
wants w.Step = begins_step
wants w.Cond = begins_cond
wants w.Part = begins_part
wants w.CondLead = leads false
wants w.PartLead = leads true
wants w.Constant = is_constant
wants w.FunctionWord = is_function_word
wants w.Scalar = is_scalar
wants w.Plain = is_plain
wants w.OpeningEnd = is_opening_end
wants w.ClosingEnd = is_closing_end
wants w.Square = is_square

-- what each keyword is
abbrev pub is_of_each : TokenTest → Bool
is_of_each w.AnyName = true
is_of_each w.Key = true
is_of_each _ = false
