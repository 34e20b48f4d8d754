-- A lexeme that passes one test passes no other, or another too: shown by trying each number of a form.
use Rattle.std.proofs.Common.{◌≡◌, ℕ, zero, suc, ◌<◌, Bool, true, false, cond, not, ◌&&◌, ◌||◌, refl, sym, ◌∙◌, subst, arith, nat_eq, List, bytes_eq, codes}
use Rattle.std.proofs.lemmas.Bool.Decides.{nat_tests}
use Rattle.guard_lexer.specs.declared.token.Mark.{Mark}
use Rattle.guard_lexer.specs.declared.token.Mark.TheVariants as m
use Rattle.literal_parser.specs.declared.keyword.Keyword.{Keyword}
use Rattle.literal_parser.specs.declared.keyword.Keyword.TheVariants as kw
use Rattle.literal_parser.specs.Lexemes.{Word, Name, Reserved, TypeName, Var, Str, Pat, Whole, Fraction, Note, Sign, End, Lexeme}
use Rattle.literal_parser.specs.Forms.{mark_form, keyword_form, name_form, is_index_number, word_form, form}

-- each number below a bound passes
abbrev pub always : (ℕ → Bool) → ℕ → Bool
always h zero = true
always h (suc k) = h k && always h k

both : (a b : Bool) → (a && b) ≡ true → (a ≡ true) × (b ≡ true)
both true b e = (refl, e)
both false b e = (e, grind (arith, e))

passes_at : (h : ℕ → Bool) (k n : ℕ) (b : Bool) → nat_eq n k ≡ b → h k ≡ true → (n < k → h n ≡ true) → n < suc k → h n ≡ true
passes_at h k n true e here below small = subst (λ i. h i ≡ true) (let same : k ≡ n = grind (arith, nat_tests) in same) here
passes_at h k n false e here below small = below (grind (arith, nat_tests))

pub passes : (h : ℕ → Bool) (b n : ℕ) → always h b ≡ true → n < b → h n ≡ true
passes h zero n e small = absurd (omega arith)
passes h (suc k) n e small = let p = both (h k) (always h k) e in passes_at h k n (nat_eq n k) refl p.0 (passes h k n p.1) small

choice_small : (b : Bool) (x y k : ℕ) → x < k → y < k → cond b x y < k
choice_small true x y k p q = p
choice_small false x y k p q = q

mark_small : (mark : Mark) → mark_form mark < 64
mark_small m.LBrace = omega arith
mark_small m.RBrace = omega arith
mark_small m.LParen = omega arith
mark_small m.RParen = omega arith
mark_small m.LBracket = omega arith
mark_small m.RBracket = omega arith
mark_small m.Comma = omega arith
mark_small m.Bar = omega arith
mark_small m.Dot = omega arith
mark_small m.Star = omega arith
mark_small m.Colon = omega arith
mark_small m.Equals = omega arith
mark_small m.Define = omega arith
mark_small m.Same = omega arith
mark_small m.Differs = omega arith
mark_small m.Bang = omega arith
mark_small m.Less = omega arith
mark_small m.LessEq = omega arith
mark_small m.Greater = omega arith
mark_small m.GreaterEq = omega arith

keyword_small : (k : Keyword) → keyword_form k < 64
keyword_small kw.Let = omega arith
keyword_small kw.Rule = omega arith
keyword_small kw.True = omega arith
keyword_small kw.False = omega arith
keyword_small kw.Null = omega arith
keyword_small kw.When = omega arith
keyword_small kw.Some = omega arith
keyword_small kw.Or = omega arith
keyword_small kw.Not = omega arith
keyword_small kw.Keys = omega arith
keyword_small kw.This = omega arith
keyword_small kw.In = omega arith
keyword_small kw.Exists = omega arith
keyword_small kw.Empty = omega arith
keyword_small kw.IsString = omega arith
keyword_small kw.IsList = omega arith
keyword_small kw.IsStruct = omega arith
keyword_small kw.IsBool = omega arith
keyword_small kw.IsInt = omega arith
keyword_small kw.IsFloat = omega arith
keyword_small kw.IsNull = omega arith

name_small : (name : List ℕ) → name_form name < 64
name_small name = choice_small (bytes_eq name (codes "r")) 60 _ 64 (omega arith) (choice_small (bytes_eq name (codes "default")) 61 1 64 (omega arith) (omega arith))

word_small : (w : Word) → word_form w < 64
word_small End = omega arith
word_small (Name name) = name_small name
word_small (TypeName name) = omega arith
word_small (Var name) = omega arith
word_small (Str text) = omega arith
word_small (Pat text) = omega arith
word_small (Whole n) = choice_small (is_index_number n) 6 9 64 (omega arith) (omega arith)
word_small (Fraction d) = omega arith
word_small (Note text) = omega arith
word_small (Sign mark) = mark_small mark
word_small (Reserved k name) = keyword_small k

neither : (a b : Bool) → not (a && b) ≡ true → a ≡ true → b ≡ false
neither true true e h = sym e
neither true false e h = refl
neither false true e h = sym h
neither false false e h = refl

follows : (a b : Bool) → (not a || b) ≡ true → a ≡ true → b ≡ true
follows true b e h = e
follows false true e h = refl
follows false false e h = h

-- a lexeme that passes f fails g; the premise is `refl`
pub apart : (f g : ℕ → Bool) (x : Lexeme) → always (λ n. not (f n && g n)) 64 ≡ true → f (form x) ≡ true → g (form x) ≡ false
apart f g x e h = neither (f (form x)) (g (form x)) (passes (λ n. not (f n && g n)) 64 (form x) e (word_small x.word)) h

-- a lexeme that passes f passes g; the premise is `refl`
pub implied : (f g : ℕ → Bool) (x : Lexeme) → always (λ n. not (f n) || g n) 64 ≡ true → f (form x) ≡ true → g (form x) ≡ true
implied f g x e h = follows (f (form x)) (g (form x)) (passes (λ n. not (f n) || g n) 64 (form x) e (word_small x.word)) h

contrary : (a b : Bool) → (not a || b) ≡ true → b ≡ false → a ≡ false
contrary true b e h = sym e ∙ h
contrary false b e h = refl

-- what fails g fails f, where each lexeme that passes f passes g; the premise is `refl`
pub denied : (f g : ℕ → Bool) (x : Lexeme) → always (λ n. not (f n) || g n) 64 ≡ true → g (form x) ≡ false → f (form x) ≡ false
denied f g x e h = contrary (f (form x)) (g (form x)) (passes (λ n. not (f n) || g n) 64 (form x) e (word_small x.word)) h
