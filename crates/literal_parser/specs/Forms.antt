-- Tests of lexemes, and what they have.
use Rattle.std.specs.Prelude.{ℕ, Bool, true, false, not, ◌&&◌, ◌||◌, ◌==◌, nat_le, nat_lt, List, [], codes, bytes_eq, ℤ, pos, negsuc, if◌then◌else◌}
use Rattle.decimals.specs.declared.decimal.Num.{Num}
use Rattle.decimals.specs.declared.decimal.Num.TheVariants as num
use Rattle.guard_lexer.specs.declared.token.Mark.{Mark}
use Rattle.guard_lexer.specs.declared.token.Mark.TheVariants as m
use Rattle.guard_syntax.specs.Named.{Named}
use Rattle.guard_syntax.specs.declared.syntax.Op.{Op}
use Rattle.guard_syntax.specs.declared.syntax.Op.TheVariants as op
use Rattle.literal_parser.specs.declared.keyword.Keyword.{Keyword}
use Rattle.literal_parser.specs.declared.keyword.Keyword.TheVariants as kw
use Rattle.literal_parser.specs.Lexemes.{Word, Name, Reserved, TypeName, Var, Str, Pat, Whole, Fraction, Note, Sign, End, Lexeme}

-- ---- a number for each form of lexeme, so that no lexeme has two forms

abbrev pub mark_form : Mark → ℕ
mark_form m.LBrace = 10
mark_form m.RBrace = 11
mark_form m.LParen = 12
mark_form m.RParen = 13
mark_form m.LBracket = 14
mark_form m.RBracket = 15
mark_form m.Comma = 16
mark_form m.Bar = 17
mark_form m.Dot = 18
mark_form m.Star = 19
mark_form m.Colon = 20
mark_form m.Equals = 21
mark_form m.Define = 22
mark_form m.Bang = 23
mark_form m.Same = 24
mark_form m.Differs = 25
mark_form m.Less = 26
mark_form m.LessEq = 27
mark_form m.Greater = 28
mark_form m.GreaterEq = 29

abbrev pub keyword_form : Keyword → ℕ
keyword_form kw.Let = 30
keyword_form kw.Rule = 31
keyword_form kw.True = 32
keyword_form kw.False = 33
keyword_form kw.Null = 34
keyword_form kw.When = 35
keyword_form kw.Some = 36
keyword_form kw.Or = 37
keyword_form kw.Not = 38
keyword_form kw.Keys = 39
keyword_form kw.This = 40
keyword_form kw.In = 41
keyword_form kw.Exists = 42
keyword_form kw.Empty = 43
keyword_form kw.IsString = 44
keyword_form kw.IsList = 45
keyword_form kw.IsStruct = 46
keyword_form kw.IsBool = 47
keyword_form kw.IsInt = 48
keyword_form kw.IsFloat = 49
keyword_form kw.IsNull = 50

-- two names are told from the others: `r`, which may open a range, and `default`, which is no rule's
abbrev pub name_form : List ℕ → ℕ
name_form name = if bytes_eq name (codes "r") then 60 else (if bytes_eq name (codes "default") then 61 else 1)

-- an index is 0 to 2^32 - 1
abbrev pub is_index_number : ℤ → Bool
is_index_number (pos n) = nat_lt n 4294967296
is_index_number (negsuc n) = false

abbrev pub whole_form : ℤ → ℕ
whole_form n = if is_index_number n then 6 else 9

abbrev pub word_form : Word → ℕ
word_form End = 0
word_form (Name name) = name_form name
word_form (TypeName name) = 2
word_form (Var name) = 3
word_form (Str text) = 4
word_form (Pat text) = 5
word_form (Whole n) = whole_form n
word_form (Fraction d) = 7
word_form (Note text) = 8
word_form (Sign mark) = mark_form mark
word_form (Reserved keyword name) = keyword_form keyword

abbrev pub form : Lexeme → ℕ
form x = word_form x.word

-- ---- tests of a form

abbrev pub is_end : ℕ → Bool
is_end n = n == 0

-- a name of a variable, parameter or capture
abbrev pub is_name : ℕ → Bool
is_name n = n == 1 || (n == 60 || n == 61)

abbrev pub is_rule_name : ℕ → Bool
is_rule_name n = n == 1 || n == 60

-- a name or a keyword
abbrev pub is_any_name : ℕ → Bool
is_any_name n = is_name n || (nat_le 30 n && nat_le n 50)

abbrev pub is_r : ℕ → Bool
is_r n = n == 60

abbrev pub is_type_name : ℕ → Bool
is_type_name n = n == 2

abbrev pub is_var : ℕ → Bool
is_var n = n == 3

abbrev pub is_str : ℕ → Bool
is_str n = n == 4

abbrev pub is_index : ℕ → Bool
is_index n = n == 6

abbrev pub is_number : ℕ → Bool
is_number n = n == 6 || (n == 7 || n == 9)

abbrev pub is_note : ℕ → Bool
is_note n = n == 8

abbrev pub is_lbrace : ℕ → Bool
is_lbrace n = n == 10

abbrev pub is_rbrace : ℕ → Bool
is_rbrace n = n == 11

abbrev pub is_lparen : ℕ → Bool
is_lparen n = n == 12

abbrev pub is_rparen : ℕ → Bool
is_rparen n = n == 13

abbrev pub is_lbracket : ℕ → Bool
is_lbracket n = n == 14

abbrev pub is_rbracket : ℕ → Bool
is_rbracket n = n == 15

abbrev pub is_comma : ℕ → Bool
is_comma n = n == 16

abbrev pub is_bar : ℕ → Bool
is_bar n = n == 17

abbrev pub is_dot : ℕ → Bool
is_dot n = n == 18

abbrev pub is_star : ℕ → Bool
is_star n = n == 19

abbrev pub is_colon : ℕ → Bool
is_colon n = n == 20

-- `=` or `:=`
abbrev pub is_assign : ℕ → Bool
is_assign n = n == 21 || n == 22

-- `==` or `!=`
abbrev pub is_equality : ℕ → Bool
is_equality n = n == 24 || n == 25

-- `==`, `!=`, `<`, `<=`, `>`, `>=`
abbrev pub is_sign : ℕ → Bool
is_sign n = nat_le 24 n && nat_le n 29

abbrev pub is_let : ℕ → Bool
is_let n = n == 30

abbrev pub is_rule : ℕ → Bool
is_rule n = n == 31

abbrev pub is_when : ℕ → Bool
is_when n = n == 35

abbrev pub is_some_word : ℕ → Bool
is_some_word n = n == 36

abbrev pub is_or : ℕ → Bool
is_or n = n == 37

-- `!` or `not`
abbrev pub is_neg : ℕ → Bool
is_neg n = n == 23 || n == 38

abbrev pub is_keys : ℕ → Bool
is_keys n = n == 39

abbrev pub is_this : ℕ → Bool
is_this n = n == 40

abbrev pub is_in : ℕ → Bool
is_in n = n == 41

-- `in`, `exists`, `empty`, `is_string` and the like
abbrev pub is_operator_word : ℕ → Bool
is_operator_word n = nat_le 41 n && nat_le n 50

-- a key behind a dot or in a map
abbrev pub is_key : ℕ → Bool
is_key n = is_any_name n || is_str n

-- a key that begins a query
abbrev pub is_first_key : ℕ → Bool
is_first_key n = is_name n || is_str n

abbrev pub begins_step : ℕ → Bool
begins_step n = is_dot n || is_lbracket n

abbrev pub begins_query : ℕ → Bool
begins_query n = is_first_key n || (is_var n || is_this n)

-- what begins a query and is no name
abbrev pub is_start : ℕ → Bool
is_start n = is_str n || (is_var n || is_this n)

abbrev pub begins_cond : ℕ → Bool
begins_cond n = begins_query n || (is_some_word n || is_neg n)

abbrev pub begins_part : ℕ → Bool
begins_part n = begins_cond n || (is_when n || is_type_name n)

-- `true`, `false`, `null`
abbrev pub is_constant : ℕ → Bool
is_constant n = nat_le 32 n && nat_le n 34

-- a keyword that begins no literal and no query, and so can only be a function's name where an expression may stand
abbrev pub is_function_word : ℕ → Bool
is_function_word n = is_any_name n && not (is_name n || (is_this n || is_constant n))

abbrev pub is_scalar : ℕ → Bool
is_scalar n = is_str n || (n == 5 || (is_number n || is_constant n))

-- what begins a literal and is no name
abbrev pub is_plain : ℕ → Bool
is_plain n = is_str n || (n == 5 || (is_number n || (is_lbracket n || is_lbrace n)))

abbrev pub is_opening : ℕ → Bool
is_opening n = is_lbrace n || (is_lparen n || is_lbracket n)

abbrev pub is_closing : ℕ → Bool
is_closing n = is_rbrace n || (is_rparen n || is_rbracket n)

-- the ends of a range
abbrev pub is_opening_end : ℕ → Bool
is_opening_end n = is_lparen n || is_lbracket n

abbrev pub is_closing_end : ℕ → Bool
is_closing_end n = is_rparen n || is_rbracket n

abbrev pub is_square : ℕ → Bool
is_square n = is_lbracket n || is_rbracket n

-- ---- tests of lexemes in a row

-- `r` and a bracket directly behind it
abbrev pub opens_range : Lexeme → Lexeme → Bool
opens_range x y = is_r (form x) && (is_opening_end (form y) && y.from == x.to)

-- where an expression may stand these begin a literal: a name before `(` is a function's
abbrev pub is_literal : Lexeme → Lexeme → Bool
is_literal x y = is_plain (form x) || (opens_range x y || (is_constant (form x) && not (is_lparen (form y))))

-- where an expression may stand these begin a function call
abbrev pub is_applied : Lexeme → Lexeme → Bool
is_applied x y = is_any_name (form x) && is_lparen (form y)

-- a capture and its bar
abbrev pub is_capture : ℕ → ℕ → Bool
is_capture x y = is_name x && is_bar y

-- what stands behind a name that begins a query: a step, an operator, or a block's brace, where blocks may stand
abbrev pub leads : Bool → ℕ → Bool
leads full y = begins_step y || (is_sign y || (is_operator_word y || (full && is_lbrace y)))

-- the same, or the word of an operator behind `!` or `not`
abbrev pub goes_on : Bool → ℕ → ℕ → Bool
goes_on full y z = leads full y || (is_neg y && is_operator_word z)

-- these begin a query, at the start of a part
abbrev pub is_led : Bool → ℕ → ℕ → ℕ → Bool
is_led full x y z = is_start x || (is_name x && goes_on full y z)

-- ---- what a lexeme has

abbrev pub text_in : Word → List ℕ
text_in (Name name) = name
text_in (Reserved keyword name) = name
text_in (TypeName name) = name
text_in (Var name) = name
text_in (Str text) = text
text_in (Pat text) = text
text_in (Note text) = text
text_in _ = []

abbrev pub text_of : Lexeme → List ℕ
text_of x = text_in x.word

abbrev pub named_of : Lexeme → Named
named_of x = record { text = text_of x; at = x.from }

abbrev pub whole_in : Word → ℤ
whole_in (Whole n) = n
whole_in _ = pos 0

abbrev pub magnitude : ℤ → ℕ
magnitude (pos n) = n
magnitude (negsuc n) = 0

abbrev pub index_of : Lexeme → ℕ
index_of x = magnitude (whole_in x.word)

abbrev pub number_in : Word → Num
number_in (Fraction d) = num.Fraction d
number_in w = num.Whole (whole_in w)

abbrev pub number_of : Lexeme → Num
number_of x = number_in x.word

-- the operator of a word
abbrev pub keyword_operator : Keyword → Op
keyword_operator kw.In = op.Within
keyword_operator kw.Empty = op.Empty
keyword_operator kw.IsString = op.IsString
keyword_operator kw.IsList = op.IsList
keyword_operator kw.IsStruct = op.IsStruct
keyword_operator kw.IsBool = op.IsBool
keyword_operator kw.IsInt = op.IsInt
keyword_operator kw.IsFloat = op.IsFloat
keyword_operator kw.IsNull = op.IsNull
keyword_operator _ = op.Exists

abbrev pub operator_in : Word → Op
operator_in (Reserved keyword name) = keyword_operator keyword
operator_in _ = op.Exists

abbrev pub operator_of : Lexeme → Op
operator_of x = operator_in x.word

-- the operator of a mark, and whether it is negated
abbrev pub mark_operator : Mark → Op × Bool
mark_operator m.Differs = (op.Eq, true)
mark_operator m.Less = (op.Lt, false)
mark_operator m.LessEq = (op.Le, false)
mark_operator m.Greater = (op.Gt, false)
mark_operator m.GreaterEq = (op.Ge, false)
mark_operator _ = (op.Eq, false)

abbrev pub sign_in : Word → Op × Bool
sign_in (Sign mark) = mark_operator mark
sign_in _ = (op.Eq, false)

abbrev pub sign_of : Lexeme → Op × Bool
sign_of x = sign_in x.word

-- operators with a right side
abbrev pub is_binary : Op → Bool
is_binary op.Eq = true
is_binary op.Lt = true
is_binary op.Le = true
is_binary op.Gt = true
is_binary op.Ge = true
is_binary op.Within = true
is_binary _ = false
