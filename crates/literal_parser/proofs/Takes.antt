-- What a token has, where it was taken.
use Rattle.std.proofs.Common.{◌≡◌, ℕ, max, Bool, true, false, cond, refl, ap, sym, ◌∙◌, true≢false}
use Rattle.std.specs.Prelude.{ℤ, List, codes, bytes_eq}
use Rattle.guard_syntax.specs.declared.syntax.Op.{Op}
use Rattle.guard_syntax.specs.declared.syntax.Op.TheVariants as op
use Rattle.literal_parser.specs.declared.token_class.TokenClass.TheVariants as sh
use Rattle.literal_parser.specs.Lexemes.{Lexeme, Word, Name, Reserved, TypeName, Var, Str, Pat, Whole, Fraction, Note, Sign, End}
use Rattle.literal_parser.specs.Forms.{form, word_form, whole_form, is_index, is_index_number, magnitude, whole_in, index_of, operator_in, operator_of, sign_in, sign_of}
use Rattle.literal_parser.specs.code.TokenClasses.{shape_in, shape_of, name_shape, whole_shape, shape_operator, shape_sign, shape_index}
use Rattle.literal_parser.specs.States.{State, past}
use Rattle.literal_parser.specs.code.Parser.{Outcome, Read, Fail, One, takes, has}

abbrev one : One
one = tt

abbrev fails : (A : Type 0) → ℕ → Outcome A
fails A k = Fail k

-- the state, and the last place that was looked at
taken_of : {A : Type 0} {B : Type 0} → (a : A) (b : B) (st1 : State) (seen1 : ℕ) (st : State) (seen : ℕ) → Read a st seen ≡ Read a st1 seen1 → Read b st seen ≡ Read b st1 seen1
taken_of a b st1 seen1 st seen e = cc

failed_of : (A B : Type 0) (k seen : ℕ) → fails A seen ≡ fails A k → fails B seen ≡ fails B k
failed_of A B k seen e = cc

pub has_of : {A : Type 0} (s : ℕ → Lexeme) (f : ℕ → Bool) (g : Lexeme → A) (v : A) (st st1 : State) (seen seen1 : ℕ) →
    takes s f st seen ≡ Read one st1 seen1 → v ≡ g (s st.at) → has s f g st seen ≡ Read v st1 seen1
unfolding takes has
has_of {A} s f g v st st1 seen seen1 e is = by_test (f (form (s st.at))) e where
  by_test : (b : Bool) → cond b (Read one (past st) (max seen st.at)) (Fail (max seen st.at)) ≡ Read one st1 seen1
      → cond b (Read (g (s st.at)) (past st) (max seen st.at)) (Fail (max seen st.at)) ≡ Read v st1 seen1
  by_test true h = ap (λ x. Read x (past st) (max seen st.at)) (sym is) ∙ taken_of one v st1 seen1 (past st) (max seen st.at) h
  by_test false h = absurd cc

pub has_none : {A : Type 0} (s : ℕ → Lexeme) (f : ℕ → Bool) (g : Lexeme → A) (st : State) (seen k : ℕ) →
    takes s f st seen ≡ Fail k → has s f g st seen ≡ Fail k
unfolding takes has
has_none {A} s f g st seen k e = by_test (f (form (s st.at))) e where
  by_test : (b : Bool) → cond b (Read one (past st) (max seen st.at)) (fails One (max seen st.at)) ≡ fails One k
      → cond b (Read (g (s st.at)) (past st) (max seen st.at)) (fails A (max seen st.at)) ≡ fails A k
  by_test true h = absurd cc
  by_test false h = failed_of One A k (max seen st.at) h

-- ---- what a shape tells

operator_by_name : (name : List ℕ) → shape_operator (name_shape name) ≡ op.Exists
operator_by_name name = by_r (bytes_eq name (codes "r")) where
  by_default : (b : Bool) → shape_operator (cond b sh.Default sh.Name) ≡ op.Exists
  by_default true = refl
  by_default false = refl

  by_r : (b : Bool) → shape_operator (cond b sh.R (cond (bytes_eq name (codes "default")) sh.Default sh.Name)) ≡ op.Exists
  by_r true = refl
  by_r false = by_default (bytes_eq name (codes "default"))

operator_by_whole : (n : ℤ) → shape_operator (whole_shape n) ≡ op.Exists
operator_by_whole n = by_index (is_index_number n) where
  by_index : (b : Bool) → shape_operator (cond b (sh.Index (magnitude n)) sh.Whole) ≡ op.Exists
  by_index true = refl
  by_index false = refl

operator_by_word : (word : Word) → shape_operator (shape_in word) ≡ operator_in word
operator_by_word End = refl
operator_by_word (Name name) = operator_by_name name
operator_by_word (TypeName name) = refl
operator_by_word (Var name) = refl
operator_by_word (Str text) = refl
operator_by_word (Pat text) = refl
operator_by_word (Whole n) = operator_by_whole n
operator_by_word (Fraction d) = refl
operator_by_word (Note text) = refl
operator_by_word (Sign mark) = refl
operator_by_word (Reserved keyword name) = refl

pub operator_told : (x : Lexeme) → shape_operator (shape_of x) ≡ operator_of x
operator_told x = operator_by_word x.word

abbrev equal_sign : Op × Bool
equal_sign = (op.Eq, false)

sign_by_name : (name : List ℕ) → shape_sign (name_shape name) ≡ equal_sign
sign_by_name name = by_r (bytes_eq name (codes "r")) where
  by_default : (b : Bool) → shape_sign (cond b sh.Default sh.Name) ≡ equal_sign
  by_default true = refl
  by_default false = refl

  by_r : (b : Bool) → shape_sign (cond b sh.R (cond (bytes_eq name (codes "default")) sh.Default sh.Name)) ≡ equal_sign
  by_r true = refl
  by_r false = by_default (bytes_eq name (codes "default"))

sign_by_whole : (n : ℤ) → shape_sign (whole_shape n) ≡ equal_sign
sign_by_whole n = by_index (is_index_number n) where
  by_index : (b : Bool) → shape_sign (cond b (sh.Index (magnitude n)) sh.Whole) ≡ equal_sign
  by_index true = refl
  by_index false = refl

sign_by_word : (word : Word) → shape_sign (shape_in word) ≡ sign_in word
sign_by_word End = refl
sign_by_word (Name name) = sign_by_name name
sign_by_word (TypeName name) = refl
sign_by_word (Var name) = refl
sign_by_word (Str text) = refl
sign_by_word (Pat text) = refl
sign_by_word (Whole n) = sign_by_whole n
sign_by_word (Fraction d) = refl
sign_by_word (Note text) = refl
sign_by_word (Sign mark) = refl
sign_by_word (Reserved keyword name) = refl

pub sign_told : (x : Lexeme) → shape_sign (shape_of x) ≡ sign_of x
sign_told x = sign_by_word x.word

-- the index of a lexeme that is one
index_by_whole : (n : ℤ) → is_index (whole_form n) ≡ true → shape_index (whole_shape n) ≡ magnitude n
index_by_whole n e = by_index (is_index_number n) e where
  by_index : (b : Bool) → is_index (cond b 6 9) ≡ true → shape_index (cond b (sh.Index (magnitude n)) sh.Whole) ≡ magnitude n
  by_index true h = refl
  by_index false h = absurd (true≢false (sym h))

index_by_name : (name : List ℕ) → shape_index (name_shape name) ≡ 0
index_by_name name = by_r (bytes_eq name (codes "r")) where
  by_default : (b : Bool) → shape_index (cond b sh.Default sh.Name) ≡ 0
  by_default true = refl
  by_default false = refl

  by_r : (b : Bool) → shape_index (cond b sh.R (cond (bytes_eq name (codes "default")) sh.Default sh.Name)) ≡ 0
  by_r true = refl
  by_r false = by_default (bytes_eq name (codes "default"))

index_by_word : (word : Word) → is_index (word_form word) ≡ true → shape_index (shape_in word) ≡ magnitude (whole_in word)
index_by_word (Name name) h = index_by_name name
index_by_word (Whole n) h = index_by_whole n h
index_by_word End h = refl
index_by_word (TypeName name) h = refl
index_by_word (Var name) h = refl
index_by_word (Str text) h = refl
index_by_word (Pat text) h = refl
index_by_word (Fraction d) h = refl
index_by_word (Note text) h = refl
index_by_word (Sign mark) h = refl
index_by_word (Reserved keyword name) h = refl

pub index_told : (x : Lexeme) → is_index (form x) ≡ true → shape_index (shape_of x) ≡ index_of x
index_told x e = index_by_word x.word e

-- what was taken passed the test
pub passed : (s : ℕ → Lexeme) (f : ℕ → Bool) (st st1 : State) (seen seen1 : ℕ) → takes s f st seen ≡ Read one st1 seen1 → f (form (s st.at)) ≡ true
unfolding takes
passed s f st st1 seen seen1 e = by_test (f (form (s st.at))) e where
  by_test : (b : Bool) → cond b (Read one (past st) (max seen st.at)) (Fail (max seen st.at)) ≡ Read one st1 seen1 → b ≡ true
  by_test true h = refl
  by_test false h = absurd cc
