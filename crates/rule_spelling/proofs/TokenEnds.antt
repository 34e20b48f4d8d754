-- A text of the form of a kind is the token in front of bytes with which nothing goes on.
use Rattle.std.proofs.Common.{◌≡◌, ◌≢◌, ℕ, suc, Bool, true, false, not, List, [], ◌∷◌, ◌++◌, length, refl, sym, ap, ◌∙◌, subst, arith, inl, inr, ◌⊎◌, ◌||◌, ◌&&◌}
use Rattle.std.specs.Prelude.{if◌then◌else◌, ◌==◌}
use Rattle.std.proofs.lemmas.Bool.{true≢false}
use Rattle.std.proofs.lemmas.List.{take_at, drop_at}
use Rattle.decimals.specs.declared.decimal.Num.{Num}
use Rattle.decimals.specs.declared.decimal.Num.TheVariants as num
use Rattle.decimals.specs.Number.{IsNumber}
use Rattle.guard_lexer.specs.declared.token.Mark.{Mark}
use Rattle.guard_lexer.specs.declared.token.Mark.TheVariants as m
use Rattle.guard_lexer.specs.declared.token.TokenKind.{TokenKind}
use Rattle.guard_lexer.specs.declared.token.TokenKind.TheVariants as k
use Rattle.guard_lexer.specs.Bytes.{is_letter, is_word, Each}
use Rattle.guard_lexer.specs.Forms.{IsName, AreParts, IsNumeral, Closes, HasForm, form_of, IsWorth, mark_text}
use Rattle.guard_lexer.specs.Lexes.{IsToken, IsUnclosed}
use Rattle.guard_lexer.specs.code.Reach.{run, in_name, typed, var_reach, is_quote, begins_numeral, is_single, is_doubled, single_reach, sign_reach}
use Rattle.guard_lexer.specs.code.Firsts.{IsOther, begins_word, BeginsNumeral, number_kind, quote_kind, word_kind}
use Rattle.guard_lexer.proofs.Lists.{tested, same_byte, other_byte, on_true, on_false, same_front}
use Rattle.guard_lexer.proofs.Reaches.{below, closes_is, note_is, numeral_class, no_numeral}
use Rattle.guard_lexer.proofs.Firsts.{Found, word_found, var_found, quote_found}
use Rattle.guard_lexer.proofs.NumberFirsts.{front_found}
use Rattle.guard_lexer.proofs.Signs.{note_found, single_found, double_found, equals_alone, none_alone, byte_alone}
use Rattle.guard_lexer.proofs.Shapes.{kind_same}
use Rattle.rule_spelling.specs.code.Pieces.{begins_with, begins_part, begins_fraction, mark_goes_on, goes_on}
use Rattle.rule_spelling.proofs.NumeralEnds.{neither, numeral_is}

-- ---- a token that has been found, with so many bytes, is the text of that length

abbrev At : Bool → TokenKind → List ℕ → List ℕ → Type 0
At dot kind text rest = (other : TokenKind) × Found dot other (text ++ rest) (length text)

pub found_is : (dot : Bool) (kind : TokenKind) (text rest : List ℕ) → HasForm dot (form_of kind) text → IsWorth kind text → At dot kind text rest → IsToken dot kind text rest
found_is dot kind text rest form worth (other, (t, r, j, s, is)) =
    let same = same_front t text r rest (sym j) s in
    let here : IsToken dot other text rest = subst (λ x. IsToken dot other x rest) same.0 (subst (λ x. IsToken dot other t x) same.1 is) in
    subst (λ x. IsToken dot x text rest) (kind_same dot other kind text here.form form here.worth worth) here

-- ---- names

word_step : (b : ℕ) (bs : List ℕ) → is_word b ≡ true → in_name (b ∷ bs) ≡ suc (in_name bs)
word_step b [] e = rw e refl
word_step b (c ∷ []) e = rw e refl
word_step b (c ∷ d ∷ bs) e = rw e refl

colon_step : (d : ℕ) (bs : List ℕ) → is_letter d ≡ true → in_name (58 ∷ 58 ∷ d ∷ bs) ≡ suc (suc (suc (in_name bs)))
colon_step d bs e = rw e refl

no_name : (r : List ℕ) → (begins_word r || begins_part r) ≡ false → in_name r ≡ 0
no_name [] e = refl
no_name (b ∷ []) e = on_false (is_word b) 1 0 (neither (is_word b) false e).0
no_name (b ∷ c ∷ []) e = on_false (is_word b) (suc (in_name (c ∷ []))) 0 (neither (is_word b) false e).0
no_name (b ∷ c ∷ d ∷ bs) e =
    let n = neither (is_word b) (b == 58 && (c == 58 && is_letter d)) e in
    on_false (is_word b) (suc (in_name (c ∷ d ∷ bs))) (if b == 58 && (c == 58 && is_letter d) then suc (suc (suc (in_name bs))) else 0) n.0
    ∙ on_false (b == 58 && (c == 58 && is_letter d)) (suc (suc (suc (in_name bs)))) 0 n.1

parts_is : (ns : List (List ℕ)) (w parts r : List ℕ) → Each is_word w → AreParts ns parts → in_name r ≡ 0 → in_name ((w ++ parts) ++ r) ≡ length (w ++ parts)
parts_is ns (b ∷ w) parts r (e, h) k z = word_step b ((w ++ parts) ++ r) e ∙ ap suc (parts_is ns w parts r h k z)
parts_is [] [] parts r h k z = subst (λ x. in_name (x ++ r) ≡ length x) (sym k) z
parts_is ([] ∷ ns) [] parts r h (more, e, name, k) z = absurd name
parts_is ((c ∷ n) ∷ ns) [] parts r h (more, e, (letter, each), k) z =
    subst (λ x. in_name (x ++ r) ≡ length x) (sym e) (colon_step c ((n ++ more) ++ r) letter ∙ ap (λ i. suc (suc (suc i))) (parts_is ns n more r each k z))

nothing_more : (w : List ℕ) → w ++ [] ≡ w
nothing_more [] = refl
nothing_more (b ∷ w) = ap (λ x. b ∷ x) (nothing_more w)

name_at : (dot : Bool) (text rest : List ℕ) → IsName text → in_name rest ≡ 0 → At dot k.Name text rest
name_at dot [] rest h z = absurd h
name_at dot (b ∷ w) rest (l, h) z =
    let size : in_name (w ++ rest) ≡ length w = subst (λ x. in_name (x ++ rest) ≡ length x) (nothing_more w) (parts_is [] w [] rest h refl z) in
    (word_kind (typed (w ++ rest)), subst (λ n. Found dot (word_kind (typed (w ++ rest))) (b ∷ (w ++ rest)) (suc n)) size (word_found dot b (w ++ rest) l))

type_at : (dot : Bool) (text rest first parts : List ℕ) (ns : List (List ℕ)) → text ≡ first ++ parts → IsName first → AreParts ns parts → in_name rest ≡ 0 → At dot k.TypeName text rest
type_at dot text rest [] parts ns e h p z = absurd h
type_at dot text rest (b ∷ w) parts ns e (l, h) p z =
    let tail : List ℕ = (w ++ parts) ++ rest in
    subst (λ x. At dot k.TypeName x rest) (sym e)
    (word_kind (typed tail), subst (λ n. Found dot (word_kind (typed tail)) (b ∷ tail) (suc n)) (parts_is ns w parts rest h p z) (word_found dot b tail l))

-- ---- variables

run_is : (f : ℕ → Bool) (w r : List ℕ) → Each f w → run f r ≡ 0 → run f (w ++ r) ≡ length w
run_is f [] r h z = z
run_is f (b ∷ w) r (e, h) z = on_true (f b) (suc (run f (w ++ r))) 0 e ∙ ap suc (run_is f w r h z)

no_run : (r : List ℕ) → begins_word r ≡ false → run is_word r ≡ 0
no_run [] e = refl
no_run (b ∷ r) e = on_false (is_word b) (suc (run is_word r)) 0 e

some_reach : (n k : ℕ) → n ≡ suc k → n ≡ 0 → ⊥
some_reach n k e z = cc

var_at : (dot : Bool) (text rest : List ℕ) → HasForm dot (form_of k.Var) text → begins_word rest ≡ false → At dot k.Var text rest
var_at dot [] rest h q = absurd h
var_at dot (b ∷ []) rest (e, h) q = absurd h
var_at dot (b ∷ c ∷ w) rest (e, (l, h)) q =
    let size : var_reach (c ∷ (w ++ rest)) ≡ suc (suc (length w)) = on_true (is_letter c) (suc (suc (run is_word (w ++ rest)))) 0 l ∙ ap (λ n. suc (suc n)) (run_is is_word w rest h (no_run rest q)) in
    (k.Var, subst (λ x. Found dot k.Var (x ∷ c ∷ (w ++ rest)) (suc (suc (length w)))) (sym e) (subst (λ n. Found dot k.Var (37 ∷ c ∷ (w ++ rest)) n) size (var_found dot (c ∷ (w ++ rest)) (some_reach _ (suc (length w)) size))))

-- ---- texts, patterns and notes

quote_at : (dot : Bool) (kind : TokenKind) (q : ℕ) (body rest : List ℕ) → is_quote q ≡ true → q ≢ 92 → Closes q body → At dot kind (q ∷ body) rest
quote_at dot kind q body rest e n h = (quote_kind q, quote_found dot q (body ++ rest) (length body) e (closes_is q body rest n h))

str_at : (dot : Bool) (text rest : List ℕ) → HasForm dot (form_of k.Str) text → At dot k.Str text rest
str_at dot [] rest h = absurd h
str_at dot (b ∷ body) rest (inl e, h) = subst (λ x. At dot k.Str (x ∷ body) rest) (sym e) (quote_at dot k.Str 34 body rest refl (below 34 (omega arith)) (subst (λ x. Closes x body) e h))
str_at dot (b ∷ body) rest (inr e, h) = subst (λ x. At dot k.Str (x ∷ body) rest) (sym e) (quote_at dot k.Str 39 body rest refl (below 39 (omega arith)) (subst (λ x. Closes x body) e h))

pat_at : (dot : Bool) (text rest : List ℕ) → HasForm dot (form_of k.Pat) text → At dot k.Pat text rest
pat_at dot [] rest h = absurd h
pat_at dot (b ∷ body) rest (e, h) = subst (λ x. At dot k.Pat (x ∷ body) rest) (sym e) (quote_at dot k.Pat 47 body rest refl (below 47 (omega arith)) h)

note_at : (dot : Bool) (text rest : List ℕ) → HasForm dot (form_of k.Note) text → At dot k.Note text rest
note_at dot text rest (body, e, h) = subst (λ x. At dot k.Note x rest) (sym e) (k.Note, note_found dot (body ++ rest) (length body) (note_is body rest h))

-- ---- numbers

front_begins : (dot : Bool) (text rest : List ℕ) → IsNumeral dot text → BeginsNumeral (text ++ rest)
front_begins dot [] rest h = absurd (no_numeral dot h)
front_begins dot (b ∷ text) rest h = (numeral_class dot b text h).1

some_length : (dot : Bool) (text : List ℕ) → IsNumeral dot text → length text ≡ 0 → ⊥
some_length dot [] h e = no_numeral dot h
some_length dot (b ∷ text) h e = cc

number_at : (dot : Bool) (kind : TokenKind) (v : Num) (text rest : List ℕ) → IsNumeral dot text → IsNumber text v → begins_word rest ≡ false → (not dot && begins_fraction rest) ≡ false → At dot kind text rest
number_at dot kind v text rest h i q n = (
  number_kind v,
  front_found dot (text ++ rest) (length text) v (front_begins dot text rest h) (sym (numeral_is dot text rest h q n)) (some_length dot text h)
      (subst (λ x. IsNumber x v) (sym (take_at text rest (length text) refl)) i) (ap begins_word (drop_at text rest (length text) refl) ∙ q),
)

-- ---- marks

abbrev IsAlone : ℕ → List ℕ → Type 0
IsAlone b rest = (sign_reach b rest ≡ single_reach b) × (IsUnclosed (b ∷ rest) → ⊥)

-- where no mark of two bytes and no note begins
alone : (b : ℕ) (rest : List ℕ) → IsOther b → ((b == 60) ≡ false) ⊎ (begins_with 60 rest ≡ false) → (is_doubled b ≡ false) ⊎ (begins_with 61 rest ≡ false) → IsAlone b rest
alone b [] o h e = none_alone b o
alone b (c ∷ cs) o h e = elim (tested (c == 61)) [
  | inl t ↦ subst (λ x. IsAlone b (x ∷ cs)) (sym (same_byte c 61 t)) (equals_alone b cs o (undoubled e t))
  | inr t ↦ byte_alone b c cs o (no_pair h) (other_byte c 61 t)
]
  where
    undoubled : (is_doubled b ≡ false) ⊎ ((c == 61) ≡ false) → (c == 61) ≡ true → is_doubled b ≡ false
    undoubled (inl d) t = d
    undoubled (inr d) t = absurd (true≢false (sym t ∙ d))

    no_pair : ((b == 60) ≡ false) ⊎ ((c == 60) ≡ false) → (b == 60 && c == 60) ≡ false
    no_pair (inl d) = ap (λ v. v && c == 60) d
    no_pair (inr d) = ap (λ v. b == 60 && v) d ∙ and_false (b == 60)
      where
        and_false : (v : Bool) → (v && false) ≡ false
        and_false true = refl
        and_false false = refl

single_at : (dot : Bool) (b : ℕ) (mark : Mark) (rest : List ℕ) → IsOther b → is_single b ≡ true → mark_text mark ≡ b ∷ [] → IsAlone b rest → At dot (k.Mark mark) (mark_text mark) rest
single_at dot b mark rest o s e a = subst (λ x. At dot (k.Mark mark) x rest) (sym e) (k.Mark mark, single_found dot b rest mark o s e a.0 a.1)

double_at : (dot : Bool) (b : ℕ) (mark : Mark) (rest : List ℕ) → IsOther b → is_doubled b ≡ true → mark_text mark ≡ b ∷ 61 ∷ [] → At dot (k.Mark mark) (mark_text mark) rest
double_at dot b mark rest o d e = subst (λ x. At dot (k.Mark mark) x rest) (sym e) (k.Mark mark, double_found dot b rest mark o d e)

-- a byte of none of the other classes
other : (b : ℕ) → is_letter b ≡ false → begins_numeral b ≡ false → (b == 37) ≡ false → is_quote b ≡ false → (b == 32 || b == 9 || b == 10 || b == 13 || b == 35) ≡ false → IsOther b
other b l n p q w = record { letter = l; numeral = n; percent = other_byte b 37 p; quote = q; blank = w }

mark_at : (dot : Bool) (mark : Mark) (rest : List ℕ) → mark_goes_on mark rest ≡ false → At dot (k.Mark mark) (mark_text mark) rest
mark_at dot m.LBrace rest e = let o = other 123 refl refl refl refl refl in single_at dot 123 m.LBrace rest o refl refl (alone 123 rest o (inl refl) (inl refl))
mark_at dot m.RBrace rest e = let o = other 125 refl refl refl refl refl in single_at dot 125 m.RBrace rest o refl refl (alone 125 rest o (inl refl) (inl refl))
mark_at dot m.LParen rest e = let o = other 40 refl refl refl refl refl in single_at dot 40 m.LParen rest o refl refl (alone 40 rest o (inl refl) (inl refl))
mark_at dot m.RParen rest e = let o = other 41 refl refl refl refl refl in single_at dot 41 m.RParen rest o refl refl (alone 41 rest o (inl refl) (inl refl))
mark_at dot m.LBracket rest e = let o = other 91 refl refl refl refl refl in single_at dot 91 m.LBracket rest o refl refl (alone 91 rest o (inl refl) (inl refl))
mark_at dot m.RBracket rest e = let o = other 93 refl refl refl refl refl in single_at dot 93 m.RBracket rest o refl refl (alone 93 rest o (inl refl) (inl refl))
mark_at dot m.Comma rest e = let o = other 44 refl refl refl refl refl in single_at dot 44 m.Comma rest o refl refl (alone 44 rest o (inl refl) (inl refl))
mark_at dot m.Bar rest e = let o = other 124 refl refl refl refl refl in single_at dot 124 m.Bar rest o refl refl (alone 124 rest o (inl refl) (inl refl))
mark_at dot m.Dot rest e = let o = other 46 refl refl refl refl refl in single_at dot 46 m.Dot rest o refl refl (alone 46 rest o (inl refl) (inl refl))
mark_at dot m.Star rest e = let o = other 42 refl refl refl refl refl in single_at dot 42 m.Star rest o refl refl (alone 42 rest o (inl refl) (inl refl))
mark_at dot m.Colon rest e = let o = other 58 refl refl refl refl refl in single_at dot 58 m.Colon rest o refl refl (alone 58 rest o (inl refl) (inr e))
mark_at dot m.Equals rest e = let o = other 61 refl refl refl refl refl in single_at dot 61 m.Equals rest o refl refl (alone 61 rest o (inl refl) (inr e))
mark_at dot m.Bang rest e = let o = other 33 refl refl refl refl refl in single_at dot 33 m.Bang rest o refl refl (alone 33 rest o (inl refl) (inr e))
mark_at dot m.Greater rest e = let o = other 62 refl refl refl refl refl in single_at dot 62 m.Greater rest o refl refl (alone 62 rest o (inl refl) (inr e))
mark_at dot m.Less rest e =
    let o = other 60 refl refl refl refl refl in
    let n = neither (begins_with 60 rest) (begins_with 61 rest) e in
    single_at dot 60 m.Less rest o refl refl (alone 60 rest o (inr n.0) (inr n.1))
mark_at dot m.Define rest e = double_at dot 58 m.Define rest (other 58 refl refl refl refl refl) refl refl
mark_at dot m.Same rest e = double_at dot 61 m.Same rest (other 61 refl refl refl refl refl) refl refl
mark_at dot m.Differs rest e = double_at dot 33 m.Differs rest (other 33 refl refl refl refl refl) refl refl
mark_at dot m.LessEq rest e = double_at dot 60 m.LessEq rest (other 60 refl refl refl refl refl) refl refl
mark_at dot m.GreaterEq rest e = double_at dot 62 m.GreaterEq rest (other 62 refl refl refl refl refl) refl refl

-- ---- all kinds

token_at : (dot : Bool) (kind : TokenKind) (text rest : List ℕ) → HasForm dot (form_of kind) text → IsWorth kind text → goes_on dot kind rest ≡ false → At dot kind text rest
token_at dot k.Name text rest h w e = name_at dot text rest h (no_name rest e)
token_at dot k.TypeName text rest (first, parts, ns, j, h, some, p) w e = type_at dot text rest first parts ns j h p (no_name rest e)
token_at dot k.Var text rest h w e = var_at dot text rest h e
token_at dot k.Str text rest h w e = str_at dot text rest h
token_at dot k.Pat text rest h w e = pat_at dot text rest h
token_at dot k.Note text rest h w e = note_at dot text rest h
token_at dot (k.Whole n) text rest h w e = let q = neither (begins_word rest) (not dot && begins_fraction rest) e in number_at dot (k.Whole n) (num.Whole n) text rest h w q.0 q.1
token_at dot (k.Fraction d) text rest h w e = let q = neither (begins_word rest) (not dot && begins_fraction rest) e in number_at dot (k.Fraction d) (num.Fraction d) text rest h w q.0 q.1
token_at dot (k.Mark mark) text rest h w e = subst (λ x. At dot (k.Mark mark) x rest) (sym h) (mark_at dot mark rest e)

pub token_is : (dot : Bool) (kind : TokenKind) (text rest : List ℕ) → HasForm dot (form_of kind) text → IsWorth kind text → goes_on dot kind rest ≡ false → IsToken dot kind text rest
token_is dot kind text rest h w e = found_is dot kind text rest h w (token_at dot kind text rest h w e)
