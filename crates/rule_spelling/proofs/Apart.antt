-- Bytes with which no token goes on, by the first of them; and pieces that keep apart fit, by induction on the pieces.
use Rattle.std.proofs.Common.{◌≡◌, ℕ, Bool, true, false, not, List, [], ◌∷◌, ◌++◌, refl, sym, ap, ◌∙◌, arith, ◌||◌, ◌&&◌}
use Rattle.std.specs.Prelude.{◌==◌}
use Rattle.std.proofs.lemmas.Bool.Decides.{nat_tests}
use Rattle.decimals.specs.Number.{is_digit}
use Rattle.guard_lexer.specs.declared.token.Mark.{Mark}
use Rattle.guard_lexer.specs.declared.token.Mark.TheVariants as m
use Rattle.guard_lexer.specs.declared.token.TokenKind.{TokenKind}
use Rattle.guard_lexer.specs.declared.token.TokenKind.TheVariants as k
use Rattle.guard_lexer.specs.Bytes.{is_letter, is_word, is_white, Each}
use Rattle.guard_lexer.specs.Forms.{Numeral, form_of}
use Rattle.guard_lexer.specs.Lexes.{is_dot}
use Rattle.rule_spelling.specs.code.Pieces.{Piece, spelled, AreFit, AreApart, begins_part, begins_fraction, goes_on, is_apart, keeps_apart, mark_goes_on, mark_keeps_apart, next_apart, starts_apart}
use Rattle.rule_spelling.proofs.NumeralEnds.{neither}

both_false : (a b : Bool) → a ≡ false → b ≡ false → (a || b) ≡ false
both_false a b e f = ap (λ v. v || b) e ∙ f

first_false : (a b : Bool) → a ≡ false → (a && b) ≡ false
first_false a b e = ap (λ v. v && b) e

never_both : (a : Bool) → (a && false) ≡ false
never_both true = refl
never_both false = refl

-- ---- nothing

pub none_behind : (dot : Bool) (kind : TokenKind) → goes_on dot kind [] ≡ false
none_behind dot k.Name = refl
none_behind dot k.TypeName = refl
none_behind dot k.Var = refl
none_behind dot k.Str = refl
none_behind dot k.Pat = refl
none_behind dot k.Note = refl
none_behind dot (k.Whole n) = never_both (not dot)
none_behind dot (k.Fraction d) = never_both (not dot)
none_behind dot (k.Mark mark) = no_mark mark
  where
    no_mark : (mark : Mark) → mark_goes_on mark [] ≡ false
    no_mark m.LBrace = refl
    no_mark m.RBrace = refl
    no_mark m.LParen = refl
    no_mark m.RParen = refl
    no_mark m.LBracket = refl
    no_mark m.RBracket = refl
    no_mark m.Comma = refl
    no_mark m.Bar = refl
    no_mark m.Dot = refl
    no_mark m.Star = refl
    no_mark m.Colon = refl
    no_mark m.Equals = refl
    no_mark m.Define = refl
    no_mark m.Same = refl
    no_mark m.Differs = refl
    no_mark m.Bang = refl
    no_mark m.Less = refl
    no_mark m.LessEq = refl
    no_mark m.Greater = refl
    no_mark m.GreaterEq = refl

-- ---- a byte that begins nothing that goes on

no_part : (b : ℕ) (bs : List ℕ) → (b == 58) ≡ false → begins_part (b ∷ bs) ≡ false
no_part b [] e = refl
no_part b (c ∷ []) e = refl
no_part b (c ∷ d ∷ bs) e = first_false (b == 58) (c == 58 && is_letter d) e

no_fraction : (b : ℕ) (bs : List ℕ) → (b == 46) ≡ false → begins_fraction (b ∷ bs) ≡ false
no_fraction b [] e = refl
no_fraction b (c ∷ bs) e = first_false (b == 46) (is_digit c) e

no_mark_more : (mark : Mark) (b : ℕ) (bs : List ℕ) → (b == 60) ≡ false → (b == 61) ≡ false → mark_goes_on mark (b ∷ bs) ≡ false
no_mark_more m.LBrace b bs e f = refl
no_mark_more m.RBrace b bs e f = refl
no_mark_more m.LParen b bs e f = refl
no_mark_more m.RParen b bs e f = refl
no_mark_more m.LBracket b bs e f = refl
no_mark_more m.RBracket b bs e f = refl
no_mark_more m.Comma b bs e f = refl
no_mark_more m.Bar b bs e f = refl
no_mark_more m.Dot b bs e f = refl
no_mark_more m.Star b bs e f = refl
no_mark_more m.Colon b bs e f = f
no_mark_more m.Equals b bs e f = f
no_mark_more m.Define b bs e f = refl
no_mark_more m.Same b bs e f = refl
no_mark_more m.Differs b bs e f = refl
no_mark_more m.Bang b bs e f = f
no_mark_more m.Less b bs e f = both_false (b == 60) (b == 61) e f
no_mark_more m.LessEq b bs e f = refl
no_mark_more m.Greater b bs e f = f
no_mark_more m.GreaterEq b bs e f = refl

record Quiet (b : ℕ) : Type 0 where
  pub word : is_word b ≡ false
  pub colon : (b == 58) ≡ false
  pub less : (b == 60) ≡ false
  pub equals : (b == 61) ≡ false

quiet_more : (dot : Bool) (kind : TokenKind) (b : ℕ) (bs : List ℕ) → Quiet b → (form_of kind ≡ Numeral → (not dot && begins_fraction (b ∷ bs)) ≡ false) → goes_on dot kind (b ∷ bs) ≡ false
quiet_more dot k.Name b bs q n = both_false (is_word b) (begins_part (b ∷ bs)) q.word (no_part b bs q.colon)
quiet_more dot k.TypeName b bs q n = both_false (is_word b) (begins_part (b ∷ bs)) q.word (no_part b bs q.colon)
quiet_more dot k.Var b bs q n = q.word
quiet_more dot k.Str b bs q n = refl
quiet_more dot k.Pat b bs q n = refl
quiet_more dot k.Note b bs q n = refl
quiet_more dot (k.Whole i) b bs q n = both_false (is_word b) (not dot && begins_fraction (b ∷ bs)) q.word (n refl)
quiet_more dot (k.Fraction d) b bs q n = both_false (is_word b) (not dot && begins_fraction (b ∷ bs)) q.word (n refl)
quiet_more dot (k.Mark mark) b bs q n = no_mark_more mark b bs q.less q.equals

turned : (v : Bool) → not v ≡ true → v ≡ false
turned true e = absurd cc
turned false e = refl

pub apart_behind : (dot : Bool) (kind : TokenKind) (b : ℕ) (bs : List ℕ) → is_apart b ≡ true → goes_on dot kind (b ∷ bs) ≡ false
apart_behind dot kind b bs e =
    let w = neither (is_word b) (b == 46 || (b == 58 || (b == 60 || b == 61))) (turned (is_word b || (b == 46 || (b == 58 || (b == 60 || b == 61)))) e) in
    let p = neither (b == 46) (b == 58 || (b == 60 || b == 61)) w.1 in
    let c = neither (b == 58) (b == 60 || b == 61) p.1 in
    let l = neither (b == 60) (b == 61) c.1 in
    quiet_more dot kind b bs (record { word = w.0; colon = c.0; less = l.0; equals = l.1 }) (λ _. ap (λ v. not dot && v) (no_fraction b bs p.0) ∙ never_both (not dot))

pub white_apart : (b : ℕ) → is_white b ≡ true → is_apart b ≡ true
white_apart b e = grind (arith, nat_tests)

-- a point goes on with a number alone, and with none right behind a dot
pub dot_behind : (dot : Bool) (kind : TokenKind) (bs : List ℕ) → (form_of kind ≡ Numeral → dot ≡ true) → goes_on dot kind (46 ∷ bs) ≡ false
dot_behind dot kind bs n =
    quiet_more dot kind 46 bs (record { word = refl; colon = refl; less = refl; equals = refl }) (λ e. ap (λ v. not v && begins_fraction (46 ∷ bs)) (n e))

-- ---- pieces that keep apart fit

kept_mark : (mark : Mark) (b : ℕ) (bs : List ℕ) → mark_keeps_apart mark b ≡ true → mark_goes_on mark (b ∷ bs) ≡ false
kept_mark m.LBrace b bs e = refl
kept_mark m.RBrace b bs e = refl
kept_mark m.LParen b bs e = refl
kept_mark m.RParen b bs e = refl
kept_mark m.LBracket b bs e = refl
kept_mark m.RBracket b bs e = refl
kept_mark m.Comma b bs e = refl
kept_mark m.Bar b bs e = refl
kept_mark m.Dot b bs e = refl
kept_mark m.Star b bs e = refl
kept_mark m.Colon b bs e = turned (b == 61) e
kept_mark m.Equals b bs e = turned (b == 61) e
kept_mark m.Define b bs e = refl
kept_mark m.Same b bs e = refl
kept_mark m.Differs b bs e = refl
kept_mark m.Bang b bs e = turned (b == 61) e
kept_mark m.Less b bs e = turned (b == 60 || b == 61) e
kept_mark m.LessEq b bs e = refl
kept_mark m.Greater b bs e = turned (b == 61) e
kept_mark m.GreaterEq b bs e = refl

kept_name : (b : ℕ) (bs : List ℕ) → not (is_word b || b == 58) ≡ true → (is_word b || begins_part (b ∷ bs)) ≡ false
kept_name b bs e = let n = neither (is_word b) (b == 58) (turned (is_word b || b == 58) e) in both_false (is_word b) (begins_part (b ∷ bs)) n.0 (no_part b bs n.1)

kept_number : (dot : Bool) (b : ℕ) (bs : List ℕ) → not (is_word b || (not dot && b == 46)) ≡ true → (is_word b || (not dot && begins_fraction (b ∷ bs))) ≡ false
kept_number true b bs e = let n = neither (is_word b) false (turned (is_word b || false) e) in both_false (is_word b) false n.0 refl
kept_number false b bs e = let n = neither (is_word b) (b == 46) (turned (is_word b || b == 46) e) in both_false (is_word b) (begins_fraction (b ∷ bs)) n.0 (no_fraction b bs n.1)

pub kept_apart : (dot : Bool) (kind : TokenKind) (b : ℕ) (bs : List ℕ) → keeps_apart dot kind b ≡ true → goes_on dot kind (b ∷ bs) ≡ false
kept_apart dot k.Name b bs e = kept_name b bs e
kept_apart dot k.TypeName b bs e = kept_name b bs e
kept_apart dot k.Var b bs e = turned (is_word b) e
kept_apart dot k.Str b bs e = refl
kept_apart dot k.Pat b bs e = refl
kept_apart dot k.Note b bs e = refl
kept_apart dot (k.Whole n) b bs e = kept_number dot b bs e
kept_apart dot (k.Fraction d) b bs e = kept_number dot b bs e
kept_apart dot (k.Mark mark) b bs e = kept_mark mark b bs e

started : (dot : Bool) (kind : TokenKind) (gap text rest : List ℕ) → starts_apart dot kind (gap ++ text) ≡ true → goes_on dot kind (gap ++ (text ++ rest)) ≡ false
started dot kind [] [] rest e = absurd cc
started dot kind [] (b ∷ text) rest e = kept_apart dot kind b (text ++ rest) e
started dot kind (b ∷ gap) text rest e = kept_apart dot kind b (gap ++ (text ++ rest)) e

ended : (dot : Bool) (kind : TokenKind) (end : List ℕ) → Each is_white end → goes_on dot kind end ≡ false
ended dot kind [] w = none_behind dot kind
ended dot kind (b ∷ end) (w, ws) = apart_behind dot kind b end (white_apart b w)

next_ends : (dot : Bool) (kind : TokenKind) (pieces : List Piece) (end : List ℕ) → next_apart dot kind pieces ≡ true → Each is_white end → goes_on dot kind (spelled pieces end) ≡ false
next_ends dot kind [] end e w = ended dot kind end w
next_ends dot kind (p ∷ ps) end e w = started dot kind p.gap p.text (spelled ps end) e

pub apart_fit : (dot : Bool) (pieces : List Piece) (end : List ℕ) → AreApart dot pieces → Each is_white end → AreFit dot pieces end
apart_fit dot [] end a w = tt
apart_fit dot (p ∷ ps) end (s, n, a) w =
    (record { blank = s.blank; form = s.form; worth = s.worth; ends = next_ends dot p.kind ps end n w }, apart_fit (is_dot p.kind) ps end a w)

-- white space keeps any two tokens apart
not_mark : (mark : Mark) (b : ℕ) → (b == 60) ≡ false → (b == 61) ≡ false → mark_keeps_apart mark b ≡ true
not_mark m.LBrace b e f = refl
not_mark m.RBrace b e f = refl
not_mark m.LParen b e f = refl
not_mark m.RParen b e f = refl
not_mark m.LBracket b e f = refl
not_mark m.RBracket b e f = refl
not_mark m.Comma b e f = refl
not_mark m.Bar b e f = refl
not_mark m.Dot b e f = refl
not_mark m.Star b e f = refl
not_mark m.Colon b e f = ap not f
not_mark m.Equals b e f = ap not f
not_mark m.Define b e f = refl
not_mark m.Same b e f = refl
not_mark m.Differs b e f = refl
not_mark m.Bang b e f = ap not f
not_mark m.Less b e f = ap not (both_false (b == 60) (b == 61) e f)
not_mark m.LessEq b e f = refl
not_mark m.Greater b e f = ap not f
not_mark m.GreaterEq b e f = refl

pub apart_keeps : (dot : Bool) (kind : TokenKind) (b : ℕ) → is_apart b ≡ true → keeps_apart dot kind b ≡ true
apart_keeps dot kind b e = by kind
  where
    w : (is_word b ≡ false) × ((b == 46 || (b == 58 || (b == 60 || b == 61))) ≡ false)
    w = neither (is_word b) (b == 46 || (b == 58 || (b == 60 || b == 61))) (turned (is_word b || (b == 46 || (b == 58 || (b == 60 || b == 61)))) e)

    p : ((b == 46) ≡ false) × ((b == 58 || (b == 60 || b == 61)) ≡ false)
    p = neither (b == 46) (b == 58 || (b == 60 || b == 61)) w.1

    c : ((b == 58) ≡ false) × ((b == 60 || b == 61) ≡ false)
    c = neither (b == 58) (b == 60 || b == 61) p.1

    l : ((b == 60) ≡ false) × ((b == 61) ≡ false)
    l = neither (b == 60) (b == 61) c.1

    number : not (is_word b || (not dot && b == 46)) ≡ true
    number = ap not (both_false (is_word b) (not dot && b == 46) w.0 (ap (λ v. not dot && v) p.0 ∙ never_both (not dot)))

    by : (kind : TokenKind) → keeps_apart dot kind b ≡ true
    by k.Name = ap not (both_false (is_word b) (b == 58) w.0 c.0)
    by k.TypeName = ap not (both_false (is_word b) (b == 58) w.0 c.0)
    by k.Var = ap not w.0
    by k.Str = refl
    by k.Pat = refl
    by k.Note = refl
    by (k.Whole n) = number
    by (k.Fraction d) = number
    by (k.Mark mark) = not_mark mark b l.0 l.1
