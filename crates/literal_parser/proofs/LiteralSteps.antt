-- One step of the code that reads literals is one step of their reading.
use Rattle.std.proofs.Common.{◌≡◌, ◌≢◌, ℕ, suc, ◌+◌, ◌-◌, ◌<◌, Bool, true, false, cond, List, [], ◌∷◌, Option, Some, None, length, refl, ap, sym, ◌∙◌, subst, arith, max}
use Rattle.std.specs.Prelude.{ℤ, codes, bytes_eq, Result, Ok, Err}
use Rattle.std.specs.Result.{IsErrAnd}
use Rattle.doc_values.specs.Tree.{Label, Forest, Nil, Node, snoc, joined, is_map}
use Rattle.doc_values.specs.code.Laws.{joined-Nil, joined-snoc}
use Rattle.doc_values.specs.Unfinished.{Level, Unfinished, start, with_value, with_open, open_kind, with_key, with_end, innermost, in_map, IsKeyThere, MayHold, AwaitsValue, AwaitsKey, MayEnd}
use Rattle.doc_values.specs.declared.kind.Kind.{Kind}
use Rattle.doc_values.specs.declared.kind.Kind.TheVariants as kind
use Rattle.decimals.specs.declared.decimal.Num.{Num}
use Rattle.decimals.specs.declared.decimal.Num.TheVariants as num
use Rattle.decimals.specs.declared.decimal.Range.{Range}
use Rattle.literal_parser.specs.declared.token_class.TokenClass.{TokenClass}
use Rattle.literal_parser.specs.declared.token_class.TokenClass.TheVariants as sh
use Rattle.literal_parser.specs.declared.cursor.Halt.{Halt}
use Rattle.literal_parser.specs.declared.cursor.Halt.TheVariants.{Dead, NoMemory}
use Rattle.literal_parser.specs.declared.token_cursor.Cursor.{Cursor}
use Rattle.literal_parser.specs.code.Reads.{Reads}
use Rattle.literal_parser.specs.Lexemes.{Lexeme, Word, Name, Reserved, TypeName, Var, Str, Pat, Whole, Fraction, Note, Sign, End}
use Rattle.literal_parser.specs.Forms.{form, is_lbrace, is_rbrace, is_lbracket, is_rbracket, is_comma, is_r, is_scalar, is_index_number, opens_range, magnitude, number_in, number_of, text_in}
use Rattle.literal_parser.specs.code.TokenClasses.{shape_of, shape_in, name_shape, whole_shape}
use Rattle.literal_parser.specs.States.{State}
use Rattle.literal_parser.specs.code.Parser.{One, Outcome, Read, Fail, Parser, and_then, pure, stop, takes, has, choose, choose_pair, note_range}
use Rattle.literal_parser.specs.Literal.{scalar_kind, scalar_text, scalar, holder, is_mixed}
use Rattle.literal_parser.specs.code.LiteralReading.{Tree, has_room, bounds, range, bounded, list, map_of, node, more_items, items_of, entry, more_entries, entries_of, within, literal_of}
use Rattle.literal_parser.specs.code.LiteralReads.{kind_of, is_quoted, Puts, with_tree, with_all, IsOpen, IsLevel}
use Rattle.literal_parser.proofs.Takes.{has_of, has_none}

-- ---- a value of one token

either : {A : Type 0} (f : TokenClass → A) (b : Bool) (x y : TokenClass) (v : A) → v ≡ f x → v ≡ f y → v ≡ f (cond b x y)
either f true x y v p q = p
either f false x y v p q = q

-- a name is no value
kind_of_name : (name : List ℕ) → kind.Null ≡ kind_of (name_shape name) (number_in (Name name))
kind_of_name name = either (λ shape. kind_of shape (number_in (Name name))) (bytes_eq name (codes "r")) sh.R _ kind.Null refl
    (either (λ shape. kind_of shape (number_in (Name name))) (bytes_eq name (codes "default")) sh.Default sh.Name kind.Null refl refl)

kind_of_whole : (n : ℤ) → kind.Whole n ≡ kind_of (whole_shape n) (num.Whole n)
kind_of_whole n = either (λ shape. kind_of shape (num.Whole n)) (is_index_number n) (sh.Index (magnitude n)) sh.Whole (kind.Whole n) refl refl

pub kind_in : (word : Word) → scalar_kind word ≡ kind_of (shape_in word) (number_in word)
kind_in End = refl
kind_in (Name name) = kind_of_name name
kind_in (TypeName name) = refl
kind_in (Var name) = refl
kind_in (Str text) = refl
kind_in (Pat text) = refl
kind_in (Whole n) = kind_of_whole n
kind_in (Fraction d) = refl
kind_in (Note text) = refl
kind_in (Sign mark) = refl
kind_in (Reserved keyword name) = refl

quoted_name : (name : List ℕ) → false ≡ is_quoted (name_shape name)
quoted_name name = either is_quoted (bytes_eq name (codes "r")) sh.R _ false refl (either is_quoted (bytes_eq name (codes "default")) sh.Default sh.Name false refl refl)

quoted_whole : (n : ℤ) → false ≡ is_quoted (whole_shape n)
quoted_whole n = either is_quoted (is_index_number n) (sh.Index (magnitude n)) sh.Whole false refl refl

-- a text that is in quotes, or none
abbrev chosen : Bool → List ℕ → List ℕ
chosen b text = cond b text []

quoted_text : (word : Word) → scalar_text word ≡ chosen (is_quoted (shape_in word)) (text_in word)
quoted_text End = refl
quoted_text (Name name) = ap (λ b. chosen b name) (quoted_name name)
quoted_text (TypeName name) = refl
quoted_text (Var name) = refl
quoted_text (Str text) = refl
quoted_text (Pat text) = refl
quoted_text (Whole n) = ap (λ b. chosen b []) (quoted_whole n)
quoted_text (Fraction d) = refl
quoted_text (Note text) = refl
quoted_text (Sign mark) = refl
quoted_text (Reserved keyword name) = refl

pub text_quoted : (word : Word) → is_quoted (shape_in word) ≡ true → scalar_text word ≡ text_in word
text_quoted word e = quoted_text word ∙ ap (λ b. chosen b (text_in word)) e

pub text_bare : (word : Word) → is_quoted (shape_in word) ≡ false → scalar_text word ≡ []
text_bare word e = quoted_text word ∙ ap (λ b. chosen b (text_in word)) e

-- ---- steps of reading

pub then_read : {A B : Type 0} {o : Outcome A} {a : A} {st : State} {seen : ℕ} (f : A → Parser B) {r : Outcome B} → o ≡ Read a st seen → f a st seen ≡ r → and_then o f ≡ r
then_read f e h = ap (λ o. and_then o f) e ∙ h

pub then_fail : {A B : Type 0} {o : Outcome A} {k : ℕ} (f : A → Parser B) → o ≡ Fail k → and_then o f ≡ Fail k
then_fail f e = ap (λ o. and_then o f) e

pub saw : {A : Type 0} {r : Outcome A} {v w : Bool} {st1 : State} {seen1 : ℕ} (s : ℕ → Lexeme) (f : ℕ → Bool) (p q : Parser A) (st : State) (seen : ℕ)
    → v ≡ f (form (s st.at)) → v ≡ w → st1 ≡ st → seen1 ≡ max seen st.at → (cond w p q) st1 seen1 ≡ r → choose s f p q st seen ≡ r
unfolding choose
saw {w = w} {st1 = st1} s f p q st seen e d g h k =
    ap (λ x. (cond x p q) st (max seen st.at)) (sym e ∙ d) ∙ ap (λ x. (cond w p q) x (max seen st.at)) (sym g) ∙ ap (λ x. (cond w p q) st1 x) (sym h) ∙ k

pub saw_pair : {A : Type 0} {r : Outcome A} {v w : Bool} {st1 : State} {seen1 : ℕ} (s : ℕ → Lexeme) (f : Lexeme → Lexeme → Bool) (p q : Parser A) (st : State) (seen : ℕ)
    → v ≡ f (s st.at) (s (suc st.at)) → v ≡ w → st1 ≡ st → seen1 ≡ max seen (suc st.at) → (cond w p q) st1 seen1 ≡ r → choose_pair s f p q st seen ≡ r
unfolding choose_pair
saw_pair {w = w} {st1 = st1} s f p q st seen e d g h k =
    ap (λ x. (cond x p q) st (max seen (suc st.at))) (sym e ∙ d) ∙ ap (λ x. (cond w p q) x (max seen (suc st.at))) (sym g) ∙ ap (λ x. (cond w p q) st1 x) (sym h) ∙ k

-- ---- an exit by `?`, where the step that failed says why the whole fails

pub halted_read : {A B X : Type 0} (put : A → Unfinished) (see : One → B) (o : Outcome A) (step : Outcome B) (r : Result X Halt) (e : Halt) (u : Unfinished) (c d : Cursor)
    → IsErrAnd r (λ (y : Halt). y ≡ e) → ((k : ℕ) → step ≡ Fail k → o ≡ Fail k) → Reads see step (Err e) d → Puts put o r u c
halted_read put see o step (Ok x) e u c d is f h = absurd is
halted_read put see o step (Err NoMemory) e u c d is f h = tt
halted_read put see o step (Err (Dead k)) NoMemory u c d is f h = absurd cc
halted_read put see o step (Err (Dead k)) (Dead j) u c d is f h = let same : j ≡ k = cc in f j h ∙ ap (λ n. Fail n) same

pub halted_put : {A B X : Type 0} (put : A → Unfinished) (inner : B → Unfinished) (o : Outcome A) (step : Outcome B) (r : Result X Halt) (e : Halt) (u v : Unfinished) (c d : Cursor)
    → IsErrAnd r (λ (y : Halt). y ≡ e) → ((k : ℕ) → step ≡ Fail k → o ≡ Fail k) → Puts {X = One} inner step (Err e) v d → Puts put o r u c
halted_put put inner o step (Ok x) e u v c d is f h = absurd is
halted_put put inner o step (Err NoMemory) e u v c d is f h = tt
halted_put put inner o step (Err (Dead k)) NoMemory u v c d is f h = absurd cc
halted_put put inner o step (Err (Dead k)) (Dead j) u v c d is f h = let same : j ≡ k = cc in f j h ∙ ap (λ n. Fail n) same

pub halted_whole : {A B X : Type 0} (see : X → A) (inner : B → Unfinished) (o : Outcome A) (step : Outcome B) (r : Result X Halt) (e : Halt) (v : Unfinished) (c d : Cursor)
    → IsErrAnd r (λ (y : Halt). y ≡ e) → ((k : ℕ) → step ≡ Fail k → o ≡ Fail k) → Puts {X = One} inner step (Err e) v d → Reads see o r c
halted_whole see inner o step (Ok x) e v c d is f h = absurd is
halted_whole see inner o step (Err NoMemory) e v c d is f h = tt
halted_whole see inner o step (Err (Dead k)) NoMemory v c d is f h = absurd cc
halted_whole see inner o step (Err (Dead k)) (Dead j) v c d is f h = let same : j ≡ k = cc in f j h ∙ ap (λ n. Fail n) same

-- ---- a value of one lexeme, and a range

pub put_scalar : (u v : Unfinished) (k : Kind) (text : List ℕ) (at : ℕ) (x : Lexeme) → v ≡ with_value k text at u → k ≡ scalar_kind x.word → text ≡ scalar_text x.word → at ≡ x.from
    → v ≡ with_tree u (scalar u.key x, Nil)
put_scalar u v k text at x e f g h = e ∙ ap (λ (n : Kind). with_value n text at u) f ∙ ap (λ (n : List ℕ). with_value (scalar_kind x.word) n at u) g ∙ ap (λ (n : ℕ). with_value (scalar_kind x.word) (scalar_text x.word) n u) h

pub put_limits : (u v : Unfinished) (k : Kind) (at : ℕ) (x : Lexeme) → v ≡ with_value k [] at u → at ≡ x.from → v ≡ with_tree u (holder k u.key x, Nil)
put_limits u v k at x e h = e ∙ ap (λ (n : ℕ). with_value k [] n u) h

pub kind_told : (x : Lexeme) (shape : TokenClass) (n : Num) (k : Kind) → k ≡ kind_of shape n → shape ≡ shape_of x → n ≡ number_of x → k ≡ scalar_kind x.word
kind_told x shape n k e f g = e ∙ ap (λ (h : TokenClass). kind_of h n) f ∙ ap (kind_of (shape_of x)) g ∙ sym (kind_in x.word)

module _ (s : ℕ → Lexeme) where
  pub scalar_read : (name : Option (List ℕ)) (st st1 : State) (seen seen1 : ℕ) → takes s is_scalar st seen ≡ Read tt st1 seen1
      → and_then {B = Tree} (has s is_scalar (scalar name) st seen) (λ l. pure (l, Nil)) ≡ Read (scalar name (s st.at), Nil) st1 seen1
  scalar_read name st st1 seen seen1 e = then_read _ (has_of s is_scalar (scalar name) _ st st1 seen seen1 e refl) refl

  pub range_failed : (name : Option (List ℕ)) (st : State) (seen k : ℕ) → takes s is_r st seen ≡ Fail k → range s name st seen ≡ Fail k
  unfolding range
  range_failed name st seen k e = then_fail _ (has_none s is_r (λ x. x) st seen k e)

  pub range_unread : (name : Option (List ℕ)) (st st1 : State) (seen seen1 k : ℕ) → takes s is_r st seen ≡ Read tt st1 seen1 → bounds s st1 seen1 ≡ Fail k → range s name st seen ≡ Fail k
  unfolding range
  range_unread name st st1 seen seen1 k e f = then_read _ (has_of s is_r (λ x. x) _ st st1 seen seen1 e refl) (then_fail _ f)

  pub range_read : (name : Option (List ℕ)) (b : Range) (unlike : Bool) (at : ℕ) (st st1 st2 st3 : State) (seen seen1 seen2 seen3 : ℕ) → takes s is_r st seen ≡ Read tt st1 seen1
      → bounds s st1 seen1 ≡ Read b st2 seen2 → note_range unlike at st2 seen2 ≡ Read tt st3 seen3 → unlike ≡ is_mixed b → at ≡ (s st.at).from
      → range s name st seen ≡ Read (holder (kind.Limits b) name (s st.at), Nil) st3 seen3
  unfolding range
  range_read name b unlike at st st1 st2 st3 seen seen1 seen2 seen3 e f g h i = then_read _ (has_of s is_r (λ x. x) _ st st1 seen seen1 e refl) (then_read _ f (then_read _
      (ap (λ v. note_range v (s st.at).from st2 seen2) (sym h) ∙ ap (λ n. note_range unlike n st2 seen2) (sym i) ∙ g) refl))

-- ---- lists and maps

pub deeper : (n : ℕ) → n ≢ 0 → n ≡ suc (n - 1)
deeper n some = omega arith

module _ (s : ℕ → Lexeme) (turns : ℕ) where
  -- an `r` where no bracket may open, and where one may
  pub bounded_shut : (depth : ℕ) (name : Option (List ℕ)) (st : State) (seen : ℕ) → depth ≡ 0 → bounded s turns (has_room depth) (within s turns depth).0 (within s turns depth).1 name st seen ≡ Fail seen
  unfolding bounded
  bounded_shut depth name st seen none = ap (λ (d : ℕ). (cond {A = Parser Tree} (has_room d) (choose_pair s opens_range (range s name) stop) stop) st seen) none

  pub bounded_open : {r : Outcome Tree} (depth : ℕ) (name : Option (List ℕ)) (st : State) (seen : ℕ) → depth ≢ 0 → choose_pair s opens_range (range s name) stop st seen ≡ r
      → bounded s turns (has_room depth) (within s turns depth).0 (within s turns depth).1 name st seen ≡ r
  unfolding bounded
  bounded_open depth name st seen some e = ap (λ (d : ℕ). (cond {A = Parser Tree} (has_room d) (choose_pair s opens_range (range s name) stop) stop) st seen) (deeper depth some) ∙ e

  pub list_failed : (depth : ℕ) (name : Option (List ℕ)) (st : State) (seen k : ℕ) → takes s is_lbracket st seen ≡ Fail k → list s turns (has_room depth) (within s turns depth).0 (within s turns depth).1 name st seen ≡ Fail k
  unfolding list
  list_failed depth name st seen k e = then_fail _ (has_none s is_lbracket (holder kind.List name) st seen k e)

  pub list_closed : (depth : ℕ) (name : Option (List ℕ)) (st st1 : State) (seen seen1 : ℕ) → depth ≡ 0 → takes s is_lbracket st seen ≡ Read tt st1 seen1
      → list s turns (has_room depth) (within s turns depth).0 (within s turns depth).1 name st seen ≡ Fail seen1
  unfolding list
  list_closed depth name st st1 seen seen1 none e = subst (λ d. list s turns (has_room d) (within s turns d).0 (within s turns d).1 name st seen ≡ Fail seen1) (sym none)
      (then_read _ (has_of s is_lbracket (holder kind.List name) _ st st1 seen seen1 e refl) refl)

  list_read_in : (d : ℕ) (name : Option (List ℕ)) (kids : Forest) (st st1 st2 st3 : State) (seen seen1 seen2 seen3 : ℕ) → takes s is_lbracket st seen ≡ Read tt st1 seen1
      → items_of s turns (has_room d) (within s turns d).0 (within s turns d).1 st1 seen1 ≡ Read kids st2 seen2 → takes s is_rbracket st2 seen2 ≡ Read tt st3 seen3
      → list s turns (has_room (suc d)) (within s turns (suc d)).0 (within s turns (suc d)).1 name st seen ≡ Read (holder kind.List name (s st.at), kids) st3 seen3
  unfolding list
  list_read_in d name kids st st1 st2 st3 seen seen1 seen2 seen3 e f g =
      then_read _ (has_of s is_lbracket (holder kind.List name) _ st st1 seen seen1 e refl) (then_read _ f (then_read _ g refl))

  pub list_read : (depth : ℕ) (name : Option (List ℕ)) (kids : Forest) (st st1 st2 st3 : State) (seen seen1 seen2 seen3 : ℕ) → depth ≢ 0 → takes s is_lbracket st seen ≡ Read tt st1 seen1
      → items_of s turns (has_room (depth - 1)) (within s turns (depth - 1)).0 (within s turns (depth - 1)).1 st1 seen1 ≡ Read kids st2 seen2 → takes s is_rbracket st2 seen2 ≡ Read tt st3 seen3
      → list s turns (has_room depth) (within s turns depth).0 (within s turns depth).1 name st seen ≡ Read (holder kind.List name (s st.at), kids) st3 seen3
  list_read depth name kids st st1 st2 st3 seen seen1 seen2 seen3 some e f g =
      subst (λ d. list s turns (has_room d) (within s turns d).0 (within s turns d).1 name st seen ≡ Read (holder kind.List name (s st.at), kids) st3 seen3) (sym (deeper depth some))
      (list_read_in (depth - 1) name kids st st1 st2 st3 seen seen1 seen2 seen3 e f g)

  list_unread_in : (d : ℕ) (name : Option (List ℕ)) (st st1 : State) (seen seen1 k : ℕ) → takes s is_lbracket st seen ≡ Read tt st1 seen1
      → items_of s turns (has_room d) (within s turns d).0 (within s turns d).1 st1 seen1 ≡ Fail k
      → list s turns (has_room (suc d)) (within s turns (suc d)).0 (within s turns (suc d)).1 name st seen ≡ Fail k
  unfolding list
  list_unread_in d name st st1 seen seen1 k e f = then_read _ (has_of s is_lbracket (holder kind.List name) _ st st1 seen seen1 e refl) (then_fail _ f)

  pub list_unread : (depth : ℕ) (name : Option (List ℕ)) (st st1 : State) (seen seen1 k : ℕ) → depth ≢ 0 → takes s is_lbracket st seen ≡ Read tt st1 seen1
      → items_of s turns (has_room (depth - 1)) (within s turns (depth - 1)).0 (within s turns (depth - 1)).1 st1 seen1 ≡ Fail k
      → list s turns (has_room depth) (within s turns depth).0 (within s turns depth).1 name st seen ≡ Fail k
  list_unread depth name st st1 seen seen1 k some e f = subst (λ d. list s turns (has_room d) (within s turns d).0 (within s turns d).1 name st seen ≡ Fail k) (sym (deeper depth some))
      (list_unread_in (depth - 1) name st st1 seen seen1 k e f)

  list_open_in : (d : ℕ) (name : Option (List ℕ)) (kids : Forest) (st st1 st2 : State) (seen seen1 seen2 k : ℕ) → takes s is_lbracket st seen ≡ Read tt st1 seen1
      → items_of s turns (has_room d) (within s turns d).0 (within s turns d).1 st1 seen1 ≡ Read kids st2 seen2 → takes s is_rbracket st2 seen2 ≡ Fail k
      → list s turns (has_room (suc d)) (within s turns (suc d)).0 (within s turns (suc d)).1 name st seen ≡ Fail k
  unfolding list
  list_open_in d name kids st st1 st2 seen seen1 seen2 k e f g =
      then_read _ (has_of s is_lbracket (holder kind.List name) _ st st1 seen seen1 e refl) (then_read _ f (then_fail _ g))

  pub list_open : (depth : ℕ) (name : Option (List ℕ)) (kids : Forest) (st st1 st2 : State) (seen seen1 seen2 k : ℕ) → depth ≢ 0 → takes s is_lbracket st seen ≡ Read tt st1 seen1
      → items_of s turns (has_room (depth - 1)) (within s turns (depth - 1)).0 (within s turns (depth - 1)).1 st1 seen1 ≡ Read kids st2 seen2 → takes s is_rbracket st2 seen2 ≡ Fail k
      → list s turns (has_room depth) (within s turns depth).0 (within s turns depth).1 name st seen ≡ Fail k
  list_open depth name kids st st1 st2 seen seen1 seen2 k some e f g = subst (λ d. list s turns (has_room d) (within s turns d).0 (within s turns d).1 name st seen ≡ Fail k) (sym (deeper depth some))
      (list_open_in (depth - 1) name kids st st1 st2 seen seen1 seen2 k e f g)

  pub map_failed : (depth : ℕ) (name : Option (List ℕ)) (st : State) (seen k : ℕ) → takes s is_lbrace st seen ≡ Fail k → map_of s turns (has_room depth) (within s turns depth).0 (within s turns depth).1 name st seen ≡ Fail k
  unfolding map_of
  map_failed depth name st seen k e = then_fail _ (has_none s is_lbrace (holder kind.Map name) st seen k e)

  pub map_closed : (depth : ℕ) (name : Option (List ℕ)) (st st1 : State) (seen seen1 : ℕ) → depth ≡ 0 → takes s is_lbrace st seen ≡ Read tt st1 seen1
      → map_of s turns (has_room depth) (within s turns depth).0 (within s turns depth).1 name st seen ≡ Fail seen1
  unfolding map_of
  map_closed depth name st st1 seen seen1 none e = subst (λ d. map_of s turns (has_room d) (within s turns d).0 (within s turns d).1 name st seen ≡ Fail seen1) (sym none)
      (then_read _ (has_of s is_lbrace (holder kind.Map name) _ st st1 seen seen1 e refl) refl)

  map_read_in : (d : ℕ) (name : Option (List ℕ)) (kids : Forest) (st st1 st2 st3 : State) (seen seen1 seen2 seen3 : ℕ) → takes s is_lbrace st seen ≡ Read tt st1 seen1
      → entries_of s turns (has_room d) (within s turns d).0 (within s turns d).1 st1 seen1 ≡ Read kids st2 seen2 → takes s is_rbrace st2 seen2 ≡ Read tt st3 seen3
      → map_of s turns (has_room (suc d)) (within s turns (suc d)).0 (within s turns (suc d)).1 name st seen ≡ Read (holder kind.Map name (s st.at), kids) st3 seen3
  unfolding map_of
  map_read_in d name kids st st1 st2 st3 seen seen1 seen2 seen3 e f g =
      then_read _ (has_of s is_lbrace (holder kind.Map name) _ st st1 seen seen1 e refl) (then_read _ f (then_read _ g refl))

  pub map_read : (depth : ℕ) (name : Option (List ℕ)) (kids : Forest) (st st1 st2 st3 : State) (seen seen1 seen2 seen3 : ℕ) → depth ≢ 0 → takes s is_lbrace st seen ≡ Read tt st1 seen1
      → entries_of s turns (has_room (depth - 1)) (within s turns (depth - 1)).0 (within s turns (depth - 1)).1 st1 seen1 ≡ Read kids st2 seen2 → takes s is_rbrace st2 seen2 ≡ Read tt st3 seen3
      → map_of s turns (has_room depth) (within s turns depth).0 (within s turns depth).1 name st seen ≡ Read (holder kind.Map name (s st.at), kids) st3 seen3
  map_read depth name kids st st1 st2 st3 seen seen1 seen2 seen3 some e f g =
      subst (λ d. map_of s turns (has_room d) (within s turns d).0 (within s turns d).1 name st seen ≡ Read (holder kind.Map name (s st.at), kids) st3 seen3) (sym (deeper depth some))
      (map_read_in (depth - 1) name kids st st1 st2 st3 seen seen1 seen2 seen3 e f g)

  map_unread_in : (d : ℕ) (name : Option (List ℕ)) (st st1 : State) (seen seen1 k : ℕ) → takes s is_lbrace st seen ≡ Read tt st1 seen1
      → entries_of s turns (has_room d) (within s turns d).0 (within s turns d).1 st1 seen1 ≡ Fail k
      → map_of s turns (has_room (suc d)) (within s turns (suc d)).0 (within s turns (suc d)).1 name st seen ≡ Fail k
  unfolding map_of
  map_unread_in d name st st1 seen seen1 k e f = then_read _ (has_of s is_lbrace (holder kind.Map name) _ st st1 seen seen1 e refl) (then_fail _ f)

  pub map_unread : (depth : ℕ) (name : Option (List ℕ)) (st st1 : State) (seen seen1 k : ℕ) → depth ≢ 0 → takes s is_lbrace st seen ≡ Read tt st1 seen1
      → entries_of s turns (has_room (depth - 1)) (within s turns (depth - 1)).0 (within s turns (depth - 1)).1 st1 seen1 ≡ Fail k
      → map_of s turns (has_room depth) (within s turns depth).0 (within s turns depth).1 name st seen ≡ Fail k
  map_unread depth name st st1 seen seen1 k some e f = subst (λ d. map_of s turns (has_room d) (within s turns d).0 (within s turns d).1 name st seen ≡ Fail k) (sym (deeper depth some))
      (map_unread_in (depth - 1) name st st1 seen seen1 k e f)

  map_open_in : (d : ℕ) (name : Option (List ℕ)) (kids : Forest) (st st1 st2 : State) (seen seen1 seen2 k : ℕ) → takes s is_lbrace st seen ≡ Read tt st1 seen1
      → entries_of s turns (has_room d) (within s turns d).0 (within s turns d).1 st1 seen1 ≡ Read kids st2 seen2 → takes s is_rbrace st2 seen2 ≡ Fail k
      → map_of s turns (has_room (suc d)) (within s turns (suc d)).0 (within s turns (suc d)).1 name st seen ≡ Fail k
  unfolding map_of
  map_open_in d name kids st st1 st2 seen seen1 seen2 k e f g =
      then_read _ (has_of s is_lbrace (holder kind.Map name) _ st st1 seen seen1 e refl) (then_read _ f (then_fail _ g))

  pub map_open : (depth : ℕ) (name : Option (List ℕ)) (kids : Forest) (st st1 st2 : State) (seen seen1 seen2 k : ℕ) → depth ≢ 0 → takes s is_lbrace st seen ≡ Read tt st1 seen1
      → entries_of s turns (has_room (depth - 1)) (within s turns (depth - 1)).0 (within s turns (depth - 1)).1 st1 seen1 ≡ Read kids st2 seen2 → takes s is_rbrace st2 seen2 ≡ Fail k
      → map_of s turns (has_room depth) (within s turns depth).0 (within s turns depth).1 name st seen ≡ Fail k
  map_open depth name kids st st1 st2 seen seen1 seen2 k some e f g = subst (λ d. map_of s turns (has_room d) (within s turns d).0 (within s turns d).1 name st seen ≡ Fail k) (sym (deeper depth some))
      (map_open_in (depth - 1) name kids st st1 st2 seen seen1 seen2 k e f g)

-- what was read in brackets, put behind what the unfinished tree held
pub held : (map : Bool) (at : ℕ) (x : Lexeme) (kids : Forest) (u opens full ends : Unfinished) → opens ≡ with_open (open_kind map) at u → full ≡ with_all opens kids → ends ≡ with_end full → at ≡ x.from
    → ends ≡ with_tree u (holder (open_kind map) u.key x, kids)
held map at x kids u opens full ends e f g h = g ∙ ap with_end (f ∙ ap (λ (v : Unfinished). with_all v kids) (e ∙ ap (λ (n : ℕ). with_open (open_kind map) n u) h))

-- ---- one after the other

abbrev holding : Unfinished → Option (List ℕ) → Forest → Unfinished
holding u k f = record { outer = u.outer; done = f; key = k }

pub all-one : (u v : Unfinished) (x : Tree) (t : Forest) → v ≡ with_tree u x → with_all v t ≡ with_all u (Node x.0 x.1 t)
all-one u v x t e = ap (λ (w : Unfinished). with_all w t) e ∙ ap (holding u None) (joined-snoc u.done x.0 x.1 t)

pub joined-one : (f g : Forest) (l : Label) (kids : Forest) → joined f (snoc g l kids) ≡ snoc (joined f g) l kids
joined-one Nil g l kids = refl
joined-one (Node m ks rest) g l kids = ap (Node m ks) (joined-one rest g l kids)

-- what was collected so far
pub collected : (u v : Unfinished) (found : Forest) → IsLevel u v → v.done ≡ joined u.done found → v ≡ with_all u found
collected u v found h e = ap (λ (vs : List Level). let w : Unfinished = record { outer = vs; done = v.done; key = v.key } in w) h.0
    ∙ ap (λ k. holding u k v.done) h.1 ∙ ap (holding u None) e

-- one more is collected
pub one_more_done : (u v w : Unfinished) (found : Forest) (x : Tree) → v.done ≡ joined u.done found → w ≡ with_tree v x → w.done ≡ joined u.done (snoc found x.0 x.1)
one_more_done u v w found x e f = ap (λ (z : Unfinished). z.done) f ∙ ap (λ g. snoc g x.0 x.1) e ∙ sym (joined-one u.done found x.0 x.1)

abbrev pub behind : Forest → Outcome Forest → Outcome Forest
behind found o = and_then o (λ t. pure (joined found t))

pub behind-none : (o : Outcome Forest) → o ≡ behind Nil o
behind-none (Read t st seen) = refl
behind-none (Fail k) = refl

one_turn : (found : Forest) (x : Tree) (o : Outcome Forest) → behind found (and_then o (λ rest. pure (Node x.0 x.1 rest))) ≡ behind (snoc found x.0 x.1) o
one_turn found x (Read t st seen) = ap (λ z. Read z st seen) (sym (joined-snoc found x.0 x.1 t))
one_turn found x (Fail k) = refl

pub less_none : (n : ℕ) → n - 0 ≡ n
less_none n = omega arith

one_less : (n i : ℕ) → i < n → n - i ≡ suc (n - (i + 1))
one_less n i below = omega arith

module _ (s : ℕ → Lexeme) (turns : ℕ) (room : Bool) (p q : Parser Forest) where
  pub items_turn : (n i : ℕ) (found : Forest) (x : Tree) (name : Option (List ℕ)) (v : Bool) (total : Outcome Forest) (st st1 st2 st3 : State) (seen seen1 seen2 seen3 : ℕ) → i < n
      → total ≡ behind found (more_items s turns room p q (n - i) st seen) → v ≡ is_comma (form (s st.at)) → v ≡ true → st1 ≡ st → seen1 ≡ max seen st.at
      → takes s is_comma st1 seen1 ≡ Read tt st2 seen2 → name ≡ None → node s turns room p q name st2 seen2 ≡ Read x st3 seen3
      → total ≡ behind (snoc found x.0 x.1) (more_items s turns room p q (n - (i + 1)) st3 seen3)
  unfolding more_items
  items_turn n i found x name v total st st1 st2 st3 seen seen1 seen2 seen3 below e sees is here far taking none read =
      e ∙ ap (λ k. behind found (more_items s turns room p q k st seen)) (one_less n i below)
      ∙ ap (behind found) (saw s is_comma _ _ st seen sees is here far (then_read _ taking (then_read _ (ap (λ k. node s turns room p q k st2 seen2) (sym none) ∙ read) refl)))
      ∙ one_turn found x (more_items s turns room p q (n - (i + 1)) st3 seen3)

  pub items_end : (n i : ℕ) (found : Forest) (v : Bool) (total : Outcome Forest) (st st1 : State) (seen seen1 : ℕ) → i < n
      → total ≡ behind found (more_items s turns room p q (n - i) st seen) → v ≡ is_comma (form (s st.at)) → v ≡ false → st1 ≡ st → seen1 ≡ max seen st.at
      → total ≡ Read found st1 seen1
  unfolding more_items
  items_end n i found v total st st1 seen seen1 below e sees is here far =
      e ∙ ap (λ k. behind found (more_items s turns room p q k st seen)) (one_less n i below)
      ∙ ap (behind found) (saw s is_comma _ _ st seen sees is here far refl) ∙ ap (λ f. Read f st1 seen1) (joined-Nil found)

  -- behind an item stands a comma that is not taken, or no item behind it
  pub items_untaken : (n i : ℕ) (found : Forest) (v : Bool) (total : Outcome Forest) (st st1 : State) (seen seen1 k : ℕ) → i < n
      → total ≡ behind found (more_items s turns room p q (n - i) st seen) → v ≡ is_comma (form (s st.at)) → v ≡ true → st1 ≡ st → seen1 ≡ max seen st.at
      → takes s is_comma st1 seen1 ≡ Fail k → total ≡ Fail k
  unfolding more_items
  items_untaken n i found v total st st1 seen seen1 k below e sees is here far taking =
      e ∙ ap (λ m. behind found (more_items s turns room p q m st seen)) (one_less n i below)
      ∙ ap (behind found) (saw s is_comma _ _ st seen sees is here far (then_fail _ taking))

  pub items_unread : (n i : ℕ) (found : Forest) (name : Option (List ℕ)) (v : Bool) (total : Outcome Forest) (st st1 st2 : State) (seen seen1 seen2 k : ℕ) → i < n
      → total ≡ behind found (more_items s turns room p q (n - i) st seen) → v ≡ is_comma (form (s st.at)) → v ≡ true → st1 ≡ st → seen1 ≡ max seen st.at
      → takes s is_comma st1 seen1 ≡ Read tt st2 seen2 → name ≡ None → node s turns room p q name st2 seen2 ≡ Fail k → total ≡ Fail k
  unfolding more_items
  items_unread n i found name v total st st1 st2 seen seen1 seen2 k below e sees is here far taking none failed =
      e ∙ ap (λ m. behind found (more_items s turns room p q m st seen)) (one_less n i below)
      ∙ ap (behind found) (saw s is_comma _ _ st seen sees is here far (then_read _ taking (then_fail _ (ap (λ y. node s turns room p q y st2 seen2) (sym none) ∙ failed))))

  pub items_first : (name : Option (List ℕ)) (x : Tree) (rest : Forest) (v : Bool) (st st1 st2 st3 : State) (seen seen1 seen2 seen3 : ℕ) → v ≡ is_rbracket (form (s st.at)) → v ≡ false → st1 ≡ st → seen1 ≡ max seen st.at
      → name ≡ None → node s turns room p q name st1 seen1 ≡ Read x st2 seen2 → more_items s turns room p q turns st2 seen2 ≡ Read rest st3 seen3
      → items_of s turns room p q st seen ≡ Read (Node x.0 x.1 rest) st3 seen3
  unfolding items_of
  items_first name x rest v st st1 st2 st3 seen seen1 seen2 seen3 sees is here far none read more =
      saw s is_rbracket _ _ st seen sees is here far (then_read _ (ap (λ k. node s turns room p q k st1 seen1) (sym none) ∙ read) (then_read _ more refl))

  pub entries_turn : (n i : ℕ) (found before after : Forest) (x : Tree) (v : Bool) (total : Outcome Forest) (st st1 st2 st3 : State) (seen seen1 seen2 seen3 : ℕ) → i < n
      → total ≡ behind found (more_entries s turns room p q (n - i) before st seen) → v ≡ is_comma (form (s st.at)) → v ≡ true → st1 ≡ st → seen1 ≡ max seen st.at
      → takes s is_comma st1 seen1 ≡ Read tt st2 seen2 → entry s turns room p q before st2 seen2 ≡ Read x st3 seen3 → after ≡ snoc before x.0 x.1
      → total ≡ behind (snoc found x.0 x.1) (more_entries s turns room p q (n - (i + 1)) after st3 seen3)
  unfolding more_entries
  entries_turn n i found before after x v total st st1 st2 st3 seen seen1 seen2 seen3 below e sees is here far taking read next =
      e ∙ ap (λ k. behind found (more_entries s turns room p q k before st seen)) (one_less n i below)
      ∙ ap (behind found) (saw s is_comma _ _ st seen sees is here far (then_read _ taking (then_read _ read refl)))
      ∙ one_turn found x (more_entries s turns room p q (n - (i + 1)) (snoc before x.0 x.1) st3 seen3)
      ∙ ap (λ f. behind (snoc found x.0 x.1) (more_entries s turns room p q (n - (i + 1)) f st3 seen3)) (sym next)

  pub entries_end : (n i : ℕ) (found before : Forest) (v : Bool) (total : Outcome Forest) (st st1 : State) (seen seen1 : ℕ) → i < n
      → total ≡ behind found (more_entries s turns room p q (n - i) before st seen) → v ≡ is_comma (form (s st.at)) → v ≡ false → st1 ≡ st → seen1 ≡ max seen st.at
      → total ≡ Read found st1 seen1
  unfolding more_entries
  entries_end n i found before v total st st1 seen seen1 below e sees is here far =
      e ∙ ap (λ k. behind found (more_entries s turns room p q k before st seen)) (one_less n i below)
      ∙ ap (behind found) (saw s is_comma _ _ st seen sees is here far refl) ∙ ap (λ f. Read f st1 seen1) (joined-Nil found)

  -- behind an entry stands a comma that is not taken, or no entry behind it
  pub entries_untaken : (n i : ℕ) (found before : Forest) (v : Bool) (total : Outcome Forest) (st st1 : State) (seen seen1 k : ℕ) → i < n
      → total ≡ behind found (more_entries s turns room p q (n - i) before st seen) → v ≡ is_comma (form (s st.at)) → v ≡ true → st1 ≡ st → seen1 ≡ max seen st.at
      → takes s is_comma st1 seen1 ≡ Fail k → total ≡ Fail k
  unfolding more_entries
  entries_untaken n i found before v total st st1 seen seen1 k below e sees is here far taking =
      e ∙ ap (λ m. behind found (more_entries s turns room p q m before st seen)) (one_less n i below)
      ∙ ap (behind found) (saw s is_comma _ _ st seen sees is here far (then_fail _ taking))

  pub entries_unread : (n i : ℕ) (found before : Forest) (v : Bool) (total : Outcome Forest) (st st1 st2 : State) (seen seen1 seen2 k : ℕ) → i < n
      → total ≡ behind found (more_entries s turns room p q (n - i) before st seen) → v ≡ is_comma (form (s st.at)) → v ≡ true → st1 ≡ st → seen1 ≡ max seen st.at
      → takes s is_comma st1 seen1 ≡ Read tt st2 seen2 → entry s turns room p q before st2 seen2 ≡ Fail k → total ≡ Fail k
  unfolding more_entries
  entries_unread n i found before v total st st1 st2 seen seen1 seen2 k below e sees is here far taking failed =
      e ∙ ap (λ m. behind found (more_entries s turns room p q m before st seen)) (one_less n i below)
      ∙ ap (behind found) (saw s is_comma _ _ st seen sees is here far (then_read _ taking (then_fail _ failed)))

  pub entries_first : (before after : Forest) (x : Tree) (rest : Forest) (v : Bool) (st st1 st2 st3 : State) (seen seen1 seen2 seen3 : ℕ) → v ≡ is_rbrace (form (s st.at)) → v ≡ false → st1 ≡ st → seen1 ≡ max seen st.at
      → before ≡ Nil → entry s turns room p q before st1 seen1 ≡ Read x st2 seen2 → after ≡ snoc before x.0 x.1 → more_entries s turns room p q turns after st2 seen2 ≡ Read rest st3 seen3
      → entries_of s turns room p q st seen ≡ Read (Node x.0 x.1 rest) st3 seen3
  unfolding entries_of
  entries_first before after x rest v st st1 st2 st3 seen seen1 seen2 seen3 sees is here far none read next more =
      saw s is_rbrace _ _ st seen sees is here far (then_read _ (ap (λ f. entry s turns room p q f st1 seen1) (sym none) ∙ read)
      (then_read _ (ap (λ f. more_entries s turns room p q turns f st2 seen2) (ap (λ f. snoc f x.0 x.1) (sym none) ∙ sym next) ∙ more) refl))

-- ---- where a value or a key may come

item_awaited : (outer : List Level) (done : Forest) (key : Option (List ℕ)) → innermost outer ≡ Some kind.List → key ≡ None → MayHold outer done key
item_awaited [] done key e none = absurd cc
item_awaited (v ∷ vs) done key e none = let same : v.label.kind ≡ kind.List = cc in subst (λ k. IsKeyThere (is_map k) key) (sym same) none

pub awaits_item : (u : Unfinished) → IsOpen false u → AwaitsValue u
awaits_item u h = item_awaited u.outer u.done u.key h.0 h.1

entry_awaited : (outer : List Level) (done : Forest) (key text : List ℕ) → innermost outer ≡ Some kind.Map → MayHold outer done (Some text)
entry_awaited [] done key text e = absurd cc
entry_awaited (v ∷ vs) done key text e = let same : v.label.kind ≡ kind.Map = cc in subst (λ k. IsKeyThere (is_map k) (Some text)) (sym same) (text, refl)

pub awaits_entry : (u v : Unfinished) (text : List ℕ) → IsOpen true u → v ≡ with_key text u → AwaitsValue v
awaits_entry u v text h e = subst AwaitsValue (sym e) (entry_awaited u.outer u.done [] text h.0)

key_awaited : (outer : List Level) → innermost outer ≡ Some kind.Map → in_map outer ≡ true
key_awaited [] e = absurd cc
key_awaited (v ∷ vs) e = let same : v.label.kind ≡ kind.Map = cc in ap is_map same

pub awaits_key : (u : Unfinished) → IsOpen true u → AwaitsKey u
awaits_key u h = (key_awaited u.outer h.0, h.1)

some_open : (map : Bool) (outer : List Level) → innermost outer ≡ Some (open_kind map) → 0 < length outer
some_open map [] e = absurd cc
some_open map (v ∷ vs) e = omega arith

pub may_end : (map : Bool) (u : Unfinished) → IsOpen map u → MayEnd u
may_end map u h = (some_open map u.outer h.0, h.1)

-- the same collections are open
pub level_open : (map : Bool) (u v : Unfinished) → IsOpen map u → IsLevel u v → IsOpen map v
level_open map u v h e = (ap innermost e.0 ∙ h.0, e.1)

pub level_with : (u v : Unfinished) (x : Tree) → v ≡ with_tree u x → IsLevel u v
level_with u v x e = (ap (λ (w : Unfinished). w.outer) e, ap (λ (w : Unfinished). w.key) e)

pub level_further : (u v w : Unfinished) → IsLevel u v → IsLevel v w → IsLevel u w
level_further u v w e f = (f.0 ∙ e.0, f.1)

pub level_keyed : (u v w : Unfinished) (text : List ℕ) → v ≡ with_key text u → IsLevel v w → IsLevel u w
level_keyed u v w text e f = (f.0 ∙ ap (λ (x : Unfinished). x.outer) e, f.1)

-- ---- the whole

module _ (s : ℕ → Lexeme) (turns depth : ℕ) where
  whole_read : (x : Tree) (name : Option (List ℕ)) (st m : State) (seen k : ℕ) → name ≡ None → node s turns (has_room depth) (within s turns depth).0 (within s turns depth).1 name st seen ≡ Read x m k
      → literal_of s turns depth st seen ≡ Read (Node x.0 x.1 Nil) m k
  unfolding literal_of
  whole_read x name st m seen k none e = then_read _ (ap (λ n. node s turns (has_room depth) (within s turns depth).0 (within s turns depth).1 n st seen) (sym none) ∙ e) refl

  pub literal_read : (u v : Unfinished) (d : Forest) (x : Tree) (st m : State) (seen k : ℕ) → u ≡ start → node s turns (has_room depth) (within s turns depth).0 (within s turns depth).1 u.key st seen ≡ Read x m k
      → v ≡ with_tree u x → d ≡ v.done → literal_of s turns depth st seen ≡ Read d m k
  literal_read u v d x st m seen k none e f g = whole_read x u.key st m seen k (ap (λ (w : Unfinished). w.key) none) e
      ∙ ap (λ t. Read t m k) (sym (g ∙ ap (λ (w : Unfinished). w.done) f ∙ ap (λ (w : Unfinished). snoc w.done x.0 x.1) none))

  pub literal_unread : (u : Unfinished) (st : State) (seen k : ℕ) → u ≡ start → node s turns (has_room depth) (within s turns depth).0 (within s turns depth).1 u.key st seen ≡ Fail k → literal_of s turns depth st seen ≡ Fail k
  unfolding literal_of
  literal_unread u st seen k none e =
      then_fail _ (ap (λ (w : Unfinished). node s turns (has_room depth) (within s turns depth).0 (within s turns depth).1 w.key st seen) (sym none) ∙ e)
