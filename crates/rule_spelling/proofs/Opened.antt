-- Tokens that keep apart, one in front of others: what has to be known of those behind, and what is known of all then.
use Rattle.std.proofs.Common.{◌≡◌, ◌≢◌, ℕ, ◌^◌, ◌<◌, Bool, true, false, List, [], ◌∷◌, ◌++◌, codes, pos, refl, sym, ap, subst, arith, if◌then◌else◌, decimal}
use Rattle.std.specs.Prelude.{FitsSigned}
use mir.Syntax.{w64}
use Rattle.decimals.specs.declared.decimal.Num.{Num}
use Rattle.decimals.specs.declared.decimal.Num.TheVariants as num
use Rattle.guard_lexer.specs.declared.token.Mark.{Mark}
use Rattle.guard_lexer.specs.declared.token.Mark.TheVariants as m
use Rattle.guard_lexer.specs.declared.token.TokenKind.{TokenKind}
use Rattle.guard_lexer.specs.declared.token.TokenKind.TheVariants as k
use Rattle.guard_lexer.specs.Bytes.{is_white, Each}
use Rattle.guard_lexer.specs.Forms.{IsName, IsTypeName, Form, Numeral, HasForm, IsWorth, form_of, mark_text}
use Rattle.guard_lexer.specs.Lexes.{is_dot}
use Rattle.guard_lexer.proofs.Reaches.{some_form}
use Rattle.rule_meaning.specs.Functions.{truth_text}
use Rattle.rule_spelling.specs.Spelling.{ends_in_backslash, quoted, number_text, pattern_text}
use Rattle.rule_spelling.specs.code.Pieces.{Piece, AreApart, IsInRange, is_apart, keeps_apart, mark_keeps_apart, next_apart, starts_apart}
use Rattle.rule_spelling.specs.code.Tokens.{space, name, mark, str, pattern, variable, type_name, number, index_number}
use Rattle.rule_spelling.proofs.Apart.{apart_keeps, white_apart}
use Rattle.rule_spelling.proofs.NumberWords.{number_is, numeral_is, index_is, whole_is}
use Rattle.rule_spelling.proofs.Words.{named, text_word, pattern_word}

-- ---- what stands behind a token

abbrev pub White : List ℕ → Type 0
White gap = Each is_white gap

-- it keeps apart from every token
pub record Loose (ps : List Piece) : Type 0 where
  pub apart : AreApart false ps
  pub next : (dot : Bool) (kind : TokenKind) → next_apart dot kind ps ≡ true

-- it keeps apart from every token but a number that could have a fraction
pub record Dotted (ps : List Piece) : Type 0 where
  pub apart : AreApart false ps
  pub next : (dot : Bool) (kind : TokenKind) → (form_of kind ≡ Numeral → dot ≡ true) → next_apart dot kind ps ≡ true

abbrev pub is_open_mark : Mark → Bool
is_open_mark m.LParen = true
is_open_mark m.LBracket = true
is_open_mark m.LBrace = true
is_open_mark m.Comma = true
is_open_mark m.Dot = true
is_open_mark _ = false

-- a mark with which nothing goes on
abbrev pub is_open : TokenKind → Bool
is_open (k.Mark mark) = is_open_mark mark
is_open _ = false

-- it keeps apart from every token behind a gap, and without a gap from such a mark
pub record Opened (gap : List ℕ) (ps : List Piece) : Type 0 where
  pub apart : AreApart false ps
  pub next : (dot : Bool) (kind : TokenKind) → (gap ≡ [] → is_open kind ≡ true) → next_apart dot kind ps ≡ true

pub loose_dotted : (ps : List Piece) → Loose ps → Dotted ps
loose_dotted ps l = record { apart = l.apart; next = λ dot kind _. l.next dot kind }

pub behind_gap : (b : ℕ) (gap : List ℕ) (ps : List Piece) → Opened (b ∷ gap) ps → Loose ps
behind_gap b gap ps o = record { apart = o.apart; next = λ dot kind. o.next dot kind (λ e. absurd cc) }

pub mark_open : (mark : Mark) (b : ℕ) → is_open_mark mark ≡ true → mark_keeps_apart mark b ≡ true
mark_open m.LBrace b e = refl
mark_open m.RBrace b e = refl
mark_open m.LParen b e = refl
mark_open m.RParen b e = refl
mark_open m.LBracket b e = refl
mark_open m.RBracket b e = refl
mark_open m.Comma b e = refl
mark_open m.Bar b e = refl
mark_open m.Dot b e = refl
mark_open m.Star b e = refl
mark_open m.Colon b e = absurd cc
mark_open m.Equals b e = absurd cc
mark_open m.Define b e = refl
mark_open m.Same b e = refl
mark_open m.Differs b e = refl
mark_open m.Bang b e = absurd cc
mark_open m.Less b e = absurd cc
mark_open m.LessEq b e = refl
mark_open m.Greater b e = absurd cc
mark_open m.GreaterEq b e = refl

pub open_keeps : (dot : Bool) (kind : TokenKind) (b : ℕ) → is_open kind ≡ true → keeps_apart dot kind b ≡ true
open_keeps dot k.Name b e = absurd cc
open_keeps dot k.TypeName b e = absurd cc
open_keeps dot k.Var b e = absurd cc
open_keeps dot k.Str b e = absurd cc
open_keeps dot k.Pat b e = absurd cc
open_keeps dot k.Note b e = absurd cc
open_keeps dot (k.Whole n) b e = absurd cc
open_keeps dot (k.Fraction d) b e = absurd cc
open_keeps dot (k.Mark mark) b e = mark_open mark b e

pub mark_dot : (mark : Mark) → mark_keeps_apart mark 46 ≡ true
mark_dot m.LBrace = refl
mark_dot m.RBrace = refl
mark_dot m.LParen = refl
mark_dot m.RParen = refl
mark_dot m.LBracket = refl
mark_dot m.RBracket = refl
mark_dot m.Comma = refl
mark_dot m.Bar = refl
mark_dot m.Dot = refl
mark_dot m.Star = refl
mark_dot m.Colon = refl
mark_dot m.Equals = refl
mark_dot m.Define = refl
mark_dot m.Same = refl
mark_dot m.Differs = refl
mark_dot m.Bang = refl
mark_dot m.Less = refl
mark_dot m.LessEq = refl
mark_dot m.Greater = refl
mark_dot m.GreaterEq = refl

pub dot_keeps : (dot : Bool) (kind : TokenKind) → (form_of kind ≡ Numeral → dot ≡ true) → keeps_apart dot kind 46 ≡ true
dot_keeps dot k.Name n = refl
dot_keeps dot k.TypeName n = refl
dot_keeps dot k.Var n = refl
dot_keeps dot k.Str n = refl
dot_keeps dot k.Pat n = refl
dot_keeps dot k.Note n = refl
dot_keeps dot (k.Whole i) n = ap (λ v. keeps_apart v (k.Whole i) 46) (n refl)
dot_keeps dot (k.Fraction d) n = ap (λ v. keeps_apart v (k.Fraction d) 46) (n refl)
dot_keeps dot (k.Mark mark) n = mark_dot mark

-- ---- the first token

pub white_starts : (dot : Bool) (kind : TokenKind) (b : ℕ) → is_white b ≡ true → keeps_apart dot kind b ≡ true
white_starts dot kind b e = apart_keeps dot kind b (white_apart b e)

pub headed : (gap text : List ℕ) (at : Bool) (form : Form) → White gap → HasForm at form text → (dot : Bool) (kind : TokenKind) → (gap ≡ [] → is_open kind ≡ true) → starts_apart dot kind (gap ++ text) ≡ true
headed [] [] at form w h dot kind o = absurd (some_form at form h)
headed [] (b ∷ text) at form w h dot kind o = open_keeps dot kind b (o refl)
headed (b ∷ gap) text at form w h dot kind o = white_starts dot kind b w.0

-- one token more in front
pub one : (gap : List ℕ) (kind : TokenKind) (text : List ℕ) (rest : List Piece) → White gap → HasForm false (form_of kind) text → IsWorth kind text → next_apart false kind rest ≡ true → AreApart (is_dot kind) rest
    → Opened gap (record { gap = gap; kind = kind; text = text } ∷ rest)
one gap kind text rest w h v n a = record { apart = (record { blank = w; form = h; worth = v }, n, a); next = headed gap text false (form_of kind) w h }

pub no_numeral : (f : Form) → f ≢ Numeral → (dot : Bool) → f ≡ Numeral → dot ≡ true
no_numeral f n dot e = absurd (n e)

pub name_opened : (gap text : List ℕ) (rest : List Piece) → White gap → IsName text → Dotted rest → Opened gap (name gap text rest)
name_opened gap text rest w h l = one gap k.Name text rest w h tt (l.next false k.Name (λ e. absurd cc)) l.apart

pub str_opened : (gap text : List ℕ) (rest : List Piece) → White gap → ends_in_backslash text ≡ false → Dotted rest → Opened gap (str gap text rest)
str_opened gap text rest w h l = one gap k.Str (quoted text) rest w (text_word false text h).0 tt (l.next false k.Str (λ e. absurd cc)) l.apart

pub pattern_opened : (gap text : List ℕ) (rest : List Piece) → White gap → ends_in_backslash text ≡ false → Dotted rest → Opened gap (pattern gap text rest)
pattern_opened gap text rest w h l = one gap k.Pat (pattern_text text) rest w (pattern_word false text h).0 tt (l.next false k.Pat (λ e. absurd cc)) l.apart

pub variable_opened : (gap text : List ℕ) (rest : List Piece) → White gap → IsName text → Dotted rest → Opened gap (variable gap text rest)
variable_opened gap text rest w h l = one gap k.Var (codes "%" ++ text) rest w (refl, h) tt (l.next false k.Var (λ e. absurd cc)) l.apart

pub type_opened : (gap text : List ℕ) (rest : List Piece) → White gap → IsTypeName text → Dotted rest → Opened gap (type_name gap text rest)
type_opened gap text rest w h l = one gap k.TypeName text rest w h tt (l.next false k.TypeName (λ e. absurd cc)) l.apart

pub number_opened : (gap : List ℕ) (n : Num) (rest : List Piece) → White gap → IsInRange n → Loose rest → Opened gap (number gap n rest)
number_opened gap (num.Whole n) rest w h l = one gap (k.Whole n) (number_text (num.Whole n)) rest w (numeral_is (num.Whole n) h) (number_is (num.Whole n) h) (l.next false (k.Whole n)) l.apart
number_opened gap (num.Fraction d) rest w h l = one gap (k.Fraction d) (number_text (num.Fraction d)) rest w (numeral_is (num.Fraction d) h) (number_is (num.Fraction d) h) (l.next false (k.Fraction d)) l.apart

pub mark_opened : (gap : List ℕ) (sign : Mark) (rest : List Piece) → White gap → next_apart false (k.Mark sign) rest ≡ true → AreApart (is_dot (k.Mark sign)) rest → Opened gap (mark gap sign rest)
mark_opened gap sign rest w n a = one gap (k.Mark sign) (mark_text sign) rest w refl tt n a

-- a mark whose byte keeps apart from every token
pub mark_loose : (gap : List ℕ) (sign : Mark) (b : ℕ) (rest : List Piece) → White gap → mark_text sign ≡ b ∷ [] → is_apart b ≡ true → next_apart false (k.Mark sign) rest ≡ true → AreApart (is_dot (k.Mark sign)) rest
    → Loose (mark gap sign rest)
mark_loose [] sign b rest w e q n a =
    record { apart = (record { blank = w; form = refl; worth = tt }, n, a); next = λ dot kind. subst (λ t. starts_apart dot kind t ≡ true) (sym e) (apart_keeps dot kind b q) }
mark_loose (c ∷ gap) sign b rest w e q n a = behind_gap c gap (mark (c ∷ gap) sign rest) (mark_opened (c ∷ gap) sign rest w n a)

pub spaced : (ps : List Piece) → Opened space ps → Loose ps
spaced ps o = behind_gap 32 [] ps o

pub white_space : White space
white_space = (refl, tt)

pub choose : (v : Bool) (x y : List Piece) (P : List Piece → Type 0) → (v ≡ true → P x) → (v ≡ false → P y) → P (if v then x else y)
choose true x y P f g = f refl
choose false x y P f g = g refl

-- what stands right behind a dot
abbrev pub Behind : List Piece → Type 0
Behind ps = (next_apart false (k.Mark m.Dot) ps ≡ true) × AreApart true ps

pub behind_dot : (kind : TokenKind) (text : List ℕ) (rest : List Piece) → HasForm true (form_of kind) text → IsWorth kind text → next_apart true kind rest ≡ true → AreApart (is_dot kind) rest
    → Behind (record { gap = []; kind = kind; text = text } ∷ rest)
behind_dot kind text rest h v n a = (headed [] text true (form_of kind) tt h false (k.Mark m.Dot) (λ _. refl), (record { blank = tt; form = h; worth = v }, n, a))

pub whole_fits : (i : ℕ) → i < 2 ^ 63 → FitsSigned w64 (pos i)
whole_fits i h = record { sfits = omega arith }

pub index_behind : (i : ℕ) (rest : List Piece) → i < 2 ^ 63 → Dotted rest → Behind (index_number i rest)
index_behind i rest h l = behind_dot (k.Whole (pos i)) (decimal i) rest (index_is i (omega arith)) (whole_is (pos i) (whole_fits i h)) (l.next true (k.Whole (pos i)) (λ _. refl)) l.apart

pub dot_dotted : (gap : List ℕ) (rest : List Piece) → White gap → Behind rest → Dotted (mark gap m.Dot rest)
dot_dotted [] rest w (n, a) = record { apart = (record { blank = w; form = refl; worth = tt }, n, a); next = λ dot kind e. dot_keeps dot kind e }
dot_dotted (b ∷ gap) rest w (n, a) = loose_dotted _ (behind_gap b gap (mark (b ∷ gap) m.Dot rest) (mark_opened (b ∷ gap) m.Dot rest w n a))

-- a closing mark, or another with which nothing goes on
pub closed : (gap : List ℕ) (sign : Mark) (b : ℕ) (rest : List Piece) → White gap → mark_text sign ≡ b ∷ [] → is_apart b ≡ true → is_dot (k.Mark sign) ≡ false → Dotted rest → Loose (mark gap sign rest)
closed gap sign b rest w e q d l = mark_loose gap sign b rest w e q (l.next false (k.Mark sign) (λ e. absurd cc)) (subst (λ v. AreApart v rest) (sym d) l.apart)

-- an opening mark in front of what it keeps apart from
pub opening : (gap : List ℕ) (sign : Mark) (b : ℕ) (rest : List Piece) → White gap → mark_text sign ≡ b ∷ [] → is_apart b ≡ true → is_dot (k.Mark sign) ≡ false → is_open_mark sign ≡ true → Opened [] rest → Loose (mark gap sign rest)
opening gap sign b rest w e q d o l = mark_loose gap sign b rest w e q (l.next false (k.Mark sign) (λ _. o)) (subst (λ v. AreApart v rest) (sym d) l.apart)

pub loose_opened : (gap : List ℕ) (ps : List Piece) → Loose ps → Opened gap ps
loose_opened gap ps l = record { apart = l.apart; next = λ dot kind _. l.next dot kind }

pub truth_name : (b : Bool) → IsName (truth_text b)
truth_name true = named (codes "true") refl
truth_name false = named (codes "false") refl

pub comma_loose : (rest : List Piece) → Opened space rest → Loose (mark [] m.Comma rest)
comma_loose rest o = closed [] m.Comma 44 rest tt refl refl refl (loose_dotted rest (spaced rest o))
