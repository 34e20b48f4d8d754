-- One lexeme of the source and one of the text: what a step of both does to the states.
use Rattle.std.proofs.Common.{◌≡◌, ℕ, suc, ◌+◌, Bool, true, false, not, ◌&&◌, ◌||◌, cond, List, [], ◌∷◌, ◌++◌, length, Option, Some, None, codes, refl, sym, ap, ◌∙◌, arith, true≢false, bytes_eq, nat_le, if◌then◌else◌, ℤ}
use Rattle.std.specs.Prelude.{is_none, ◌==◌}
use Rattle.std.proofs.lemmas.List.{length-append}
use Rattle.std.proofs.lemmas.Bool.Decides.{nat_tests}
use Rattle.decimals.specs.declared.decimal.Num.{Num}
use Rattle.decimals.specs.declared.decimal.Num.TheVariants as num
use Rattle.guard_lexer.specs.declared.token.TokenKind.TheVariants as k
use Rattle.literal_parser.specs.declared.keyword.Keyword.{Keyword}
use Rattle.literal_parser.specs.declared.keyword.Keyword.TheVariants as kw
use Rattle.literal_parser.specs.Lexemes.{Lexeme, Word, Name, Reserved, Whole, Sign, word_of, name_word, keyword_of}
use Rattle.literal_parser.specs.Forms.{form, word_form, name_form, is_name, is_any_name, is_number, is_index_number, text_in, number_in, keyword_form, mark_form, whole_form}
use Rattle.literal_parser.proofs.Apart.{always, apart}
use Rattle.guard_lexer.specs.declared.token.Mark.{Mark}
use Rattle.guard_lexer.specs.declared.token.Mark.TheVariants as m
use Rattle.literal_parser.specs.States.{State, past, opened, ranged, first_of_two}
use Rattle.rule_printer.specs.code.RulePieces.{number_kind}
use Rattle.rule_spelling.specs.Spelling.{number_text}
use Rattle.rule_spelling.specs.code.Pieces.{Piece}
use Rattle.printer_laws.specs.code.Shown.{IsLevel, Shows, first_form, second_form}

-- ---- tests

pub first_false : (a b : Bool) → a || b ≡ false → a ≡ false
first_false true b e = e
first_false false b e = refl

pub second_false : (a b : Bool) → a || b ≡ false → b ≡ false
second_false true b e = absurd (true≢false e)
second_false false b e = e

-- ---- states

pub at_next : (a b : State) → b ≡ past a → b.at ≡ suc a.at
at_next a b e = ap (λ (z : State). z.at) e

pub level_past : (a b c : State) → b ≡ past a → IsLevel a c → IsLevel b (past c)
level_past a b c e h = record { sites = h.sites ∙ sym (ap (λ (z : State). length z.places) e); mixed = h.mixed ∙ sym (ap (λ (z : State). is_none z.mixed) e) }

pub level_same : (a b c : State) → b ≡ a → IsLevel a c → IsLevel b c
level_same a b c e h = record { sites = h.sites ∙ sym (ap (λ (z : State). length z.places) e); mixed = h.mixed ∙ sym (ap (λ (z : State). is_none z.mixed) e) }

one_more : (xs ys : List ℕ) (x y : ℕ) → length ys ≡ length xs → length (ys ++ y ∷ []) ≡ length (xs ++ x ∷ [])
one_more xs ys x y h = omega (arith, h, length-append xs (x ∷ []), length-append ys (y ∷ []))

-- a state of the source further on, or one of the text
pub level_off : (a b c : State) → b ≡ past a → IsLevel a c → IsLevel b c
level_off a b c e h = record { sites = h.sites ∙ sym (ap (λ (z : State). length z.places) e); mixed = h.mixed ∙ sym (ap (λ (z : State). is_none z.mixed) e) }

pub level_on : (b c : State) → IsLevel b c → IsLevel b (past c)
level_on b c h = record { sites = h.sites; mixed = h.mixed }

pub level_opened : (a b c : State) (place other : ℕ) → b ≡ opened place a → IsLevel a c → IsLevel b (opened other c)
level_opened a b c place other e h = record {
  sites = one_more a.places c.places place other h.sites ∙ sym (ap (λ (z : State). length z.places) e);
  mixed = h.mixed ∙ sym (ap (λ (z : State). is_none z.mixed) e);
}

mixed_after : (u : Bool) (p q : Option ℕ) (place other : ℕ) → is_none q ≡ is_none p → is_none (first_of_two q (if u then Some other else None)) ≡ is_none (first_of_two p (if u then Some place else None))
mixed_after u (Some x) (Some y) place other h = refl
mixed_after u (Some x) None place other h = absurd (true≢false h)
mixed_after u None (Some y) place other h = absurd (true≢false (sym h))
mixed_after true None None place other h = refl
mixed_after false None None place other h = refl

pub level_ranged : (a b c : State) (u : Bool) (place other : ℕ) → b ≡ ranged u place a → IsLevel a c → IsLevel b (ranged u other c)
level_ranged a b c u place other e h = record {
  sites = h.sites ∙ sym (ap (λ (z : State). length z.places) e);
  mixed = mixed_after u a.mixed c.mixed place other h.mixed ∙ sym (ap (λ (z : State). is_none z.mixed) e);
}

-- ---- lexemes

-- a test of a word
pub passes : (f : ℕ → Bool) (x : Lexeme) (w : Word) → x.word ≡ w → f (word_form w) ≡ true → f (form x) ≡ true
passes f x w e h = ap (λ (v : Word). f (word_form v)) e ∙ h

pub fails : (f : ℕ → Bool) (x : Lexeme) (w : Word) → x.word ≡ w → f (word_form w) ≡ false → f (form x) ≡ false
fails f x w e h = ap (λ (v : Word). f (word_form v)) e ∙ h

-- the form of the first lexeme that is shown
pub shown_form : (t : ℕ → Lexeme) (i at : ℕ) (ps : List Piece) → Shows t i at ps → form (t i) ≡ first_form ps
shown_form t i at [] h = ap word_form h.0
shown_form t i at (p ∷ ps) h = ap word_form h.0

pub second_shown : (t : ℕ → Lexeme) (i at : ℕ) (ps : List Piece) → Shows t i at ps → form (t (suc i)) ≡ second_form ps
second_shown t i at [] h = ap word_form h.1
second_shown t i at (p ∷ ps) h = shown_form t (suc i) (t i).to ps h.2

-- behind a piece that stands directly behind another
pub adjacent : (x at : ℕ) → x ≡ at + 0 → x == at ≡ true
adjacent x at h = grind (arith, nat_tests)

-- a name, whether it is a keyword or not
keyword_is_name : (keyword : Keyword) → is_any_name (keyword_form keyword) ≡ true
keyword_is_name kw.Let = refl
keyword_is_name kw.Rule = refl
keyword_is_name kw.True = refl
keyword_is_name kw.False = refl
keyword_is_name kw.Null = refl
keyword_is_name kw.When = refl
keyword_is_name kw.Some = refl
keyword_is_name kw.Or = refl
keyword_is_name kw.Not = refl
keyword_is_name kw.Keys = refl
keyword_is_name kw.This = refl
keyword_is_name kw.In = refl
keyword_is_name kw.Exists = refl
keyword_is_name kw.Empty = refl
keyword_is_name kw.IsString = refl
keyword_is_name kw.IsList = refl
keyword_is_name kw.IsStruct = refl
keyword_is_name kw.IsBool = refl
keyword_is_name kw.IsInt = refl
keyword_is_name kw.IsFloat = refl
keyword_is_name kw.IsNull = refl

name_by : (u v : Bool) → is_name (cond u 60 (cond v 61 1)) ≡ true
name_by true v = refl
name_by false true = refl
name_by false false = refl

pub is_name-form : (name : List ℕ) → is_name (name_form name) ≡ true
is_name-form name = name_by (bytes_eq name (codes "r")) (bytes_eq name (codes "default"))

pub any_name_word : (o : Option Keyword) (name : List ℕ) → (is_any_name (word_form (name_word o name)) ≡ true) × (text_in (name_word o name) ≡ name)
any_name_word None name = (ap (λ (b : Bool). b || (nat_le 30 (name_form name) && nat_le (name_form name) 50)) (is_name-form name), refl)
any_name_word (Some keyword) name = (keyword_is_name keyword, refl)

whole_by : (b : Bool) → is_number (cond b 6 9) ≡ true
whole_by true = refl
whole_by false = refl

-- a number is one, and which it is
pub number_word : (n : Num) → (is_number (word_form (word_of (number_kind n) (number_text n))) ≡ true) × (number_in (word_of (number_kind n) (number_text n)) ≡ n)
number_word (num.Whole n) = (whole_by (is_index_number n), refl)
number_word (num.Fraction d) = (refl, refl)

-- ---- a word of one kind passes no test of another

abbrev pub is_mark : ℕ → Bool
is_mark n = nat_le 10 n && nat_le n 29

abbrev pub is_keyword : ℕ → Bool
is_keyword n = nat_le 30 n && nat_le n 50

mark_is_mark : (mark : Mark) → is_mark (mark_form mark) ≡ true
mark_is_mark m.LBrace = refl
mark_is_mark m.RBrace = refl
mark_is_mark m.LParen = refl
mark_is_mark m.RParen = refl
mark_is_mark m.LBracket = refl
mark_is_mark m.RBracket = refl
mark_is_mark m.Comma = refl
mark_is_mark m.Bar = refl
mark_is_mark m.Dot = refl
mark_is_mark m.Star = refl
mark_is_mark m.Colon = refl
mark_is_mark m.Equals = refl
mark_is_mark m.Define = refl
mark_is_mark m.Bang = refl
mark_is_mark m.Same = refl
mark_is_mark m.Differs = refl
mark_is_mark m.Less = refl
mark_is_mark m.LessEq = refl
mark_is_mark m.Greater = refl
mark_is_mark m.GreaterEq = refl

keyword_is_keyword : (keyword : Keyword) → is_keyword (keyword_form keyword) ≡ true
keyword_is_keyword kw.Let = refl
keyword_is_keyword kw.Rule = refl
keyword_is_keyword kw.True = refl
keyword_is_keyword kw.False = refl
keyword_is_keyword kw.Null = refl
keyword_is_keyword kw.When = refl
keyword_is_keyword kw.Some = refl
keyword_is_keyword kw.Or = refl
keyword_is_keyword kw.Not = refl
keyword_is_keyword kw.Keys = refl
keyword_is_keyword kw.This = refl
keyword_is_keyword kw.In = refl
keyword_is_keyword kw.Exists = refl
keyword_is_keyword kw.Empty = refl
keyword_is_keyword kw.IsString = refl
keyword_is_keyword kw.IsList = refl
keyword_is_keyword kw.IsStruct = refl
keyword_is_keyword kw.IsBool = refl
keyword_is_keyword kw.IsInt = refl
keyword_is_keyword kw.IsFloat = refl
keyword_is_keyword kw.IsNull = refl

-- the test g of the word is false where f is true; the premise is `refl`
pub never : (f g : ℕ → Bool) (w : Word) → always (λ n. not (f n && g n)) 64 ≡ true → f (word_form w) ≡ true → g (word_form w) ≡ true → ⊥
never f g w e h p = true≢false (sym p ∙ apart f g (record { word = w; from = 0; to = 0 }) e h)

pub no_mark : (g : ℕ → Bool) (mark : Mark) → always (λ n. not (is_mark n && g n)) 64 ≡ true → g (mark_form mark) ≡ true → ⊥
no_mark g mark e p = never is_mark g (Sign mark) e (mark_is_mark mark) p

pub no_name : (g : ℕ → Bool) (name : List ℕ) → always (λ n. not (is_name n && g n)) 64 ≡ true → g (name_form name) ≡ true → ⊥
no_name g name e p = never is_name g (Name name) e (is_name-form name) p

pub no_keyword : (g : ℕ → Bool) (keyword : Keyword) (own : List ℕ) → always (λ n. not (is_keyword n && g n)) 64 ≡ true → g (keyword_form keyword) ≡ true → ⊥
no_keyword g keyword own e p = never is_keyword g (Reserved keyword own) e (keyword_is_keyword keyword) p

pub no_whole : (g : ℕ → Bool) (n : ℤ) → always (λ n. not (is_number n && g n)) 64 ≡ true → g (whole_form n) ≡ true → ⊥
no_whole g n e p = never is_number g (Whole n) e (whole_by (is_index_number n)) p

-- ---- words that are spelled in one way

pub r_word : word_of k.Name (codes "r") ≡ Name (codes "r")
unfolding keyword_of
r_word = refl

pub true_word : word_of k.Name (codes "true") ≡ Reserved kw.True (codes "true")
unfolding keyword_of
true_word = refl

pub false_word : word_of k.Name (codes "false") ≡ Reserved kw.False (codes "false")
unfolding keyword_of
false_word = refl

pub null_word : word_of k.Name (codes "null") ≡ Reserved kw.Null (codes "null")
unfolding keyword_of
null_word = refl
