-- One step of the code is one step of the reading.
use Rattle.std.proofs.Common.{◌≡◌, ◌≢◌, ℕ, zero, suc, ◌+◌, ◌-◌, ◌<◌, ◌≤◌, max, Bool, cond, List, [], ◌∷◌, ◌++◌, refl, ap, sym, ◌∙◌, subst, arith}
use Rattle.std.specs.Prelude.{Result, Ok, Err}
use Rattle.std.specs.Result.{IsErrAnd}
use Rattle.guard_syntax.specs.code.Seen.{prepend}
use Rattle.literal_parser.specs.Lexemes.{Lexeme}
use Rattle.literal_parser.specs.Forms.{form}
use Rattle.literal_parser.specs.States.{State}
use Rattle.literal_parser.specs.code.Parser.{One, Outcome, Read, Fail, Parser, and_then, ◌>>=◌, ◌>>◌, pure, choose, choose_next, choose_pair}
use Rattle.literal_parser.specs.code.Reads.{Reads, state_of}
use Rattle.literal_parser.specs.declared.cursor.Halt.{Halt}
use Rattle.literal_parser.specs.declared.cursor.Halt.TheVariants.{Dead, NoMemory}
use Rattle.literal_parser.specs.declared.token_cursor.Cursor.{Cursor}
use Rattle.part_parser.specs.code.Adding.{Adds}
use Rattle.part_parser.specs.code.Reading.{numbered}
use Rattle.literal_parser.specs.code.LiteralReading.{literal_of}
use Rattle.part_parser.specs.code.GrammarReads.{listed}

pub then_read : {A B : Type 0} {o : Outcome A} {a : A} {st : State} {seen : ℕ} (f : A → Parser B) {r : Outcome B} → o ≡ Read a st seen → f a st seen ≡ r → and_then o f ≡ r
then_read f e h = ap (λ o. and_then o f) e ∙ h

pub saw : {A : Type 0} {r : Outcome A} {v w : Bool} {st1 : State} {seen1 : ℕ} (s : ℕ → Lexeme) (f : ℕ → Bool) (p q : Parser A) (st : State) (seen : ℕ) →
    v ≡ f (form (s st.at)) → v ≡ w → st1 ≡ st → seen1 ≡ max seen st.at → (cond w p q) st1 seen1 ≡ r → choose s f p q st seen ≡ r
unfolding choose
saw {w = w} {st1 = st1} s f p q st seen e d g h k =
    ap (λ x. (cond x p q) st (max seen st.at)) (sym e ∙ d) ∙ ap (λ x. (cond w p q) x (max seen st.at)) (sym g) ∙ ap (λ x. (cond w p q) st1 x) (sym h) ∙ k

-- what was read, as it is seen
pub seen_as : {A : Type 0} {o : Outcome A} {a b : A} {st : State} {seen : ℕ} → o ≡ Read a st seen → b ≡ a → o ≡ Read b st seen
seen_as {A = A} {st = st} {seen = seen} e f = e ∙ sym (ap (λ (x : A). Read x st seen) f)

-- a test whose value is known
pub tested_by : {A : Type 0} {r : Outcome A} {v w : Bool} (b : Bool) (p q : Parser A) (st : State) (seen : ℕ) → v ≡ b → v ≡ w → (cond w p q) st seen ≡ r → (cond b p q) st seen ≡ r
tested_by b p q st seen e d k = ap (λ x. (cond x p q) st seen) (sym e ∙ d) ∙ k

pub saw_next : {A : Type 0} {r : Outcome A} {v w : Bool} {st1 : State} {seen1 : ℕ} (s : ℕ → Lexeme) (f : ℕ → Bool) (p q : Parser A) (st : State) (seen : ℕ) →
    v ≡ f (form (s (suc st.at))) → v ≡ w → st1 ≡ st → seen1 ≡ max seen (suc st.at) → (cond w p q) st1 seen1 ≡ r → choose_next s f p q st seen ≡ r
unfolding choose_next
saw_next {w = w} {st1 = st1} s f p q st seen e d g h k =
    ap (λ x. (cond x p q) st (max seen (suc st.at))) (sym e ∙ d) ∙ ap (λ x. (cond w p q) x (max seen (suc st.at))) (sym g) ∙ ap (λ x. (cond w p q) st1 x) (sym h) ∙ k

pub saw_pair : {A : Type 0} {r : Outcome A} {v w : Bool} {st1 : State} {seen1 : ℕ} (s : ℕ → Lexeme) (f : Lexeme → Lexeme → Bool) (p q : Parser A) (st : State) (seen : ℕ) →
    v ≡ f (s st.at) (s (suc st.at)) → v ≡ w → st1 ≡ st → seen1 ≡ max seen (suc st.at) → (cond w p q) st1 seen1 ≡ r → choose_pair s f p q st seen ≡ r
unfolding choose_pair
saw_pair {w = w} {st1 = st1} s f p q st seen e d g h k =
    ap (λ x. (cond x p q) st (max seen (suc st.at))) (sym e ∙ d) ∙ ap (λ x. (cond w p q) x (max seen (suc st.at))) (sym g) ∙ ap (λ x. (cond w p q) st1 x) (sym h) ∙ k

-- ---- lists

pub prepend-push : {X L : Type 0} (more : X → L → L) (xs : List X) (x : X) (l : L) → prepend more (xs ++ x ∷ []) l ≡ prepend more xs (more x l)
prepend-push more [] x l = refl
prepend-push more (y ∷ xs) x l = ap (more y) (prepend-push more xs x l)

pub listed_more : {X L A : Type 0} (more : X → L → L) (next : L → Parser A) (xs : List X) (x : X) (o : Outcome L) →
    listed more next xs (and_then o (λ l. pure (more x l))) ≡ listed more next (xs ++ x ∷ []) o
listed_more more next xs x (Read l st seen) = ap (λ z. next z st seen) (sym (prepend-push more xs x l))
listed_more more next xs x (Fail k) = refl

pub one_more : (n at : ℕ) → at < n → n - at ≡ suc (n - (at + 1))
one_more n at below = omega arith

pub no_more : (n at : ℕ) → n ≤ at → n - at ≡ 0
no_more n at done = omega arith

pub deeper : (n : ℕ) → n ≢ 0 → n ≡ suc (n - 1)
deeper n some = omega arith

-- a literal is read the same way at each depth
pub tree_is : (s : ℕ → Lexeme) (turns : ℕ) (number : ℕ → ℕ) (depth : ℕ) → (numbered s turns number depth).tree ≡ literal_of s turns depth
tree_is s turns number zero = refl
tree_is s turns number (suc depth) = refl

-- ---- what a function answers

-- it answers what another one answered
pub handed : {X A : Type 0} (see : X → A) (total o : Outcome A) (r : Result X Halt) (c : Cursor) → total ≡ o → Reads see o r c → Reads see total r c
handed {X} {A} see total o r c e h = subst (λ (z : Outcome A). Reads see z r c) (sym e) h

-- it ends where another one ended
pub halted_by : {X Y A B : Type 0} (see1 : X → A) (see2 : Y → B) (o : Outcome A) (total : Outcome B) (r : Result Y Halt) (e : Halt) (c d : Cursor)
    → IsErrAnd r (λ (y : Halt). y ≡ e) → ((k : ℕ) → o ≡ Fail k → total ≡ Fail k) → Reads see1 o (Err e) d → Reads see2 total r c
halted_by see1 see2 o total (Ok x) e c d is g h = absurd is
halted_by see1 see2 o total (Err NoMemory) e c d is g h = tt
halted_by see1 see2 o total (Err (Dead k)) NoMemory c d is g h = absurd cc
halted_by see1 see2 o total (Err (Dead k)) (Dead j) c d is g h = let same : j ≡ k = cc in g j h ∙ ap (λ n. Fail n) same

-- it ends where a step of it ended
pub halted : {X Y A B : Type 0} (see1 : X → A) (see2 : Y → B) (o : Outcome A) (f : A → Parser B) (total : Outcome B) (r : Result Y Halt) (e : Halt) (c d : Cursor)
    → IsErrAnd r (λ (y : Halt). y ≡ e) → total ≡ and_then o f → Reads see1 o (Err e) d → Reads see2 total r c
halted see1 see2 o f total r e c d is g h = halted_by see1 see2 o total r e c d is (λ k z. g ∙ ap (λ y. and_then y f) z) h

-- it takes what closes a value that was read
pub closed_by : {A : Type 0} (a : A) (o : Outcome One) (r : Result One Halt) (c : Cursor) → Reads (λ _. tt) o r c → Reads (λ _. a) (and_then o (λ _. pure a)) r c
closed_by a o (Ok tt) c h = ap (λ z. and_then z (λ _. pure a)) h
closed_by a o (Err NoMemory) c h = tt
closed_by a o (Err (Dead k)) c h = ap (λ z. and_then z (λ _. pure a)) h

pub then_fail : {A B : Type 0} {o : Outcome A} {k : ℕ} (f : A → Parser B) → o ≡ Fail k → and_then o f ≡ Fail k
then_fail f e = ap (λ o. and_then o f) e

-- ---- what is added

-- an item that was added was read
pub taken : {X A : Type 0} (see : X → A) (o : Outcome A) (item : Result X Halt) (old new : List X) (c : Cursor) {u : One} → Reads see o item c → Adds item old new (Ok u)
    → (x : X) × (o ≡ Read (see x) (state_of c) c.seen) × (new ≡ old ++ x ∷ [])
unfolding Adds
taken see o (Ok x) old new c reads adds = (x, reads, adds)
taken see o (Err e) old new c reads adds = absurd adds

out_of_memory : {Y B : Type 0} (see : Y → B) (total : Outcome B) (r : Result Y Halt) (e : Halt) (c : Cursor) → IsErrAnd r (λ (y : Halt). y ≡ e) → e ≡ NoMemory → Reads see total r c
out_of_memory see total (Ok x) e c is m = absurd is
out_of_memory see total (Err NoMemory) e c is m = tt
out_of_memory see total (Err (Dead k)) e c is m = absurd cc

-- it ends where no item was read, or there was no memory for one
pub halted_adding : {X Y A B : Type 0} (see1 : X → A) (see2 : Y → B) (o : Outcome A) (total : Outcome B) (item : Result X Halt) (old new : List X) (r : Result Y Halt) (e : Halt) (c d : Cursor)
    → IsErrAnd r (λ (y : Halt). y ≡ e) → ((k : ℕ) → o ≡ Fail k → total ≡ Fail k) → Reads see1 o item d → Adds item old new (Err e) → Reads see2 total r c
unfolding Adds
halted_adding see1 see2 o total (Ok x) old new r e c d is g h adds = out_of_memory see2 total r e c is adds
halted_adding see1 see2 o total (Err z) old new r e c d is g h adds = halted_by see1 see2 o total r z c d (subst (λ (w : Halt). IsErrAnd r (λ (y : Halt). y ≡ w)) adds is) g h

-- ---- a reader in parts

-- two steps, and what is done with what both read
pub both : {X Y Z A : Type 0} (second : Parser Y) (join : X → Y → Z) (f : Z → Parser A) (o : Outcome X)
    → and_then o (λ x. second >>= (λ y. f (join x y))) ≡ and_then (and_then o (λ x. second >>= (λ y. pure (join x y)))) f
both second join f (Fail k) = refl
both {X} {Y} {Z} {A} second join f (Read x st seen) = behind (second st seen) where
  behind : (o : Outcome Y) → and_then o (λ y. f (join x y)) ≡ and_then (and_then o (λ y. pure (join x y))) f
  behind (Read y st1 seen1) = refl
  behind (Fail k) = refl

-- what is read, one token behind it, and what is done with both
pub then_closed : {X Y A : Type 0} (close : Parser One) (g : X → Y) (f : Y → Parser A) (o : Outcome X)
    → and_then o (λ x. close >> f (g x)) ≡ and_then (and_then o (λ x. close >> pure (g x))) f
then_closed close g f (Fail k) = refl
then_closed close g f (Read x st seen) = behind (close st seen) where
  behind : (o : Outcome One) → and_then o (λ _. f (g x)) ≡ and_then (and_then o (λ _. pure (g x))) f
  behind (Read y st1 seen1) = refl
  behind (Fail k) = refl

-- the same between two tokens
pub then_enclosed : {X A : Type 0} (second : Parser X) (close : Parser One) (f : X → Parser A) (o : Outcome One)
    → and_then o (λ _. second >>= (λ x. close >> f x)) ≡ and_then (and_then o (λ _. second >>= (λ x. close >> pure x))) f
then_enclosed second close f (Read x st seen) = then_closed close (λ x. x) f (second st seen)
then_enclosed second close f (Fail k) = refl

abbrev pair : {X Y : Type 0} → X → Y → X × Y
pair x y = (x, y)

-- the first of a pair in another form
pub with_second : {X Y : Type 0} {p q : X} (y : Y) → p ≡ q → pair p y ≡ pair q y
with_second y e = ap (λ x. pair x y) e

-- a test of keys, from its word to its bracket, and what is done with it
pub then_tested : {X Y A : Type 0} (first : Parser X) (second : Parser Y) (close : Parser One) (f : X → Y → Parser A) (o : Outcome One)
    → and_then o (λ _. first >>= (λ x. second >>= (λ y. close >> f x y))) ≡ and_then (and_then o (λ _. first >>= (λ x. second >>= (λ y. close >> pure (pair x y))))) (λ w. f w.0 w.1)
then_tested first second close f (Fail k) = refl
then_tested {X} {Y} {A} first second close f (Read x st seen) = behind (first st seen) where
  behind : (o : Outcome X) → and_then o (λ x. second >>= (λ y. close >> f x y)) ≡ and_then (and_then o (λ x. second >>= (λ y. close >> pure (pair x y)))) (λ w. f w.0 w.1)
  behind (Read x st1 seen1) = then_closed close (pair x) (λ w. f w.0 w.1) (second st1 seen1)
  behind (Fail k) = refl

-- ---- lists, a turn after the other

pub no_turns : (n : ℕ) → n ≡ n - 0
no_turns n = omega arith

pub list_begun : {X L A : Type 0} (more : X → L → L) (next : L → Parser A) (x : X) (xs : List X) (list : ℕ → Parser L) (turns : ℕ) (total : Outcome A) (st : State) (seen : ℕ)
    → total ≡ listed more next (x ∷ []) (list turns st seen) → xs ≡ x ∷ [] → total ≡ listed more next xs (list (turns - 0) st seen)
list_begun more next x xs list turns total st seen e is = e ∙ ap (λ ys. listed more next ys (list turns st seen)) (sym is) ∙ ap (λ (k : ℕ). listed more next xs (list k st seen)) (no_turns turns)

module _ {X L A : Type 0} (more : X → L → L) (next : L → Parser A) (front : List X) (list : ℕ → Parser L) (turns turn : ℕ) (total : Outcome A) (st : State) (seen : ℕ)
    (so_far : total ≡ listed more next front (list (turns - turn) st seen)) where
  -- this turn's part of the list
  abbrev here : Outcome L
  here = list (suc (turns - (turn + 1))) st seen

  left : turn < turns → total ≡ listed more next front here
  left below = so_far ∙ ap (λ (k : ℕ). listed more next front (list k st seen)) (one_more turns turn below)

  pub list_more : (x : X) (xs : List X) (st1 : State) (seen1 : ℕ) → turn < turns → here ≡ and_then (list (turns - (turn + 1)) st1 seen1) (λ l. pure (more x l)) → xs ≡ front ++ x ∷ []
      → total ≡ listed more next xs (list (turns - (turn + 1)) st1 seen1)
  list_more x xs st1 seen1 below e is = left below ∙ ap (listed more next front) e ∙ listed_more more next front x (list (turns - (turn + 1)) st1 seen1)
      ∙ ap (λ ys. listed more next ys (list (turns - (turn + 1)) st1 seen1)) (sym is)

  pub list_ended : (none : L) (st1 : State) (seen1 : ℕ) → turn < turns → here ≡ Read none st1 seen1 → total ≡ next (prepend more front none) st1 seen1
  list_ended none st1 seen1 below e = left below ∙ ap (listed more next front) e

  pub list_failed : (k : ℕ) → turn < turns → here ≡ Fail k → total ≡ Fail k
  list_failed k below e = left below ∙ ap (listed more next front) e

  pub list_spent : turns ≤ turn → list 0 st seen ≡ Fail seen → total ≡ Fail seen
  list_spent done e = so_far ∙ ap (λ (k : ℕ). listed more next front (list k st seen)) (no_more turns turn done) ∙ ap (listed more next front) e

-- ---- lists, an item in each turn

-- an item and the list behind it
abbrev pub some_of : {X L : Type 0} → (X → L → L) → Parser X → (ℕ → Parser L) → ℕ → Parser L
some_of more item list turns = item >>= (λ x. list turns >>= (λ xs. pure (more x xs)))

pub read_whole : {A : Type 0} (o : Outcome A) → o ≡ and_then o pure
read_whole (Read x st seen) = refl
read_whole (Fail k) = refl

pub list_opened : {X L A : Type 0} (more : X → L → L) (next : L → Parser A) (xs : List X) (o : Outcome L) (total : Outcome A) → total ≡ and_then o next → xs ≡ [] → total ≡ listed more next xs o
list_opened more next xs o total e none = e ∙ ap (λ ys. listed more next ys o) (sym none)

module _ {X L A : Type 0} (more : X → L → L) (next : L → Parser A) (front : List X) (item : Parser X) (list : ℕ → Parser L) (turns : ℕ) (total : Outcome A) (st : State) (seen : ℕ)
    (so_far : total ≡ listed more next front (some_of more item list turns st seen)) where
  pub item_failed : (k : ℕ) → item st seen ≡ Fail k → total ≡ Fail k
  item_failed k e = so_far ∙ ap (λ (o : Outcome X). listed more next front (and_then o (λ x. list turns >>= (λ xs. pure (more x xs))))) e

  -- behind an item that was read
  module _ (x : X) (xs : List X) (st1 : State) (seen1 : ℕ) (read : item st seen ≡ Read x st1 seen1) (is : xs ≡ front ++ x ∷ []) where
    behind : total ≡ listed more next xs (list turns st1 seen1)
    behind = so_far ∙ ap (λ (o : Outcome X). listed more next front (and_then o (λ y. list turns >>= (λ ys. pure (more y ys))))) read
        ∙ listed_more more next front x (list turns st1 seen1) ∙ ap (λ ys. listed more next ys (list turns st1 seen1)) (sym is)

    pub turns_spent : turns ≡ 0 → list 0 st1 seen1 ≡ Fail seen1 → total ≡ Fail seen1
    turns_spent none e = behind ∙ ap (λ (k : ℕ). listed more next xs (list k st1 seen1)) none ∙ ap (listed more next xs) e

    pub went_on : turns ≢ 0 → (o : Outcome L) → list (suc (turns - 1)) st1 seen1 ≡ o → total ≡ listed more next xs o
    went_on some o e = behind ∙ ap (λ (k : ℕ). listed more next xs (list k st1 seen1)) (deeper turns some) ∙ ap (listed more next xs) e
