-- Over lexemes that end, what is read does not depend on the number of turns that a list may take, where it is above that of the lexemes, nor on how
-- sites are numbered, where that is by how many there are before as far as there can be: how that holds of a reader's parts and so of the reader.
use Rattle.std.proofs.Common.{◌≡◌, ℕ, suc, ◌≤◌, ◌+◌, ◌*◌, max, Bool, true, false, cond, ◌&&◌, ◌||◌, refl, ap, ◌∙◌, arith, length, [], ◌∷◌}
use Rattle.std.proofs.lemmas.List.{length-append}
use Rattle.literal_parser.specs.Lexemes.{Lexeme}
use Rattle.literal_parser.specs.Forms.{form}
use Rattle.literal_parser.specs.States.{State, past, opened}
use Rattle.literal_parser.specs.code.Parser.{Outcome, Read, Fail, Parser, and_then, note_range, opens, takes, has, choose, choose_pair, choose_next, choose_third}
use Rattle.literal_parser.proofs.GoOn.{Passes, passes_both, passes_first, passes_second}
use Rattle.literal_parser.proofs.GoOnSteps.{inside}

-- so many more sites may begin here, where five do at most at each lexeme, and one more in all
pub record HasRoom (room : ℕ) (st : State) : Type 0 where
  pub bound : length st.places + room ≤ 5 * st.at + 6

pub fewer : {room more : ℕ} {st : State} → room ≤ more → HasRoom more st → HasRoom room st
fewer less h = record { bound = let b = h.bound in omega arith }

-- sites are numbered alike, as far as there can be over so many lexemes
abbrev pub IsNumbered : ℕ → (ℕ → ℕ) → (ℕ → ℕ) → Type 0
IsNumbered n g h = (k : ℕ) → k ≤ 5 * n + 5 → g k ≡ h k

module _ (s : ℕ → Lexeme) (n : ℕ) (ends : form (s n) ≡ 0) where
  -- what is read does not pass the end, leaves room for so many sites, and takes a lexeme where that is said
  abbrev pub Reaches : {A : Type 0} → ℕ → Bool → State → Outcome A → Type 0
  Reaches room v st (Read a b seen) = (b.at ≤ n) × HasRoom room b × Passes v st.at b.at
  Reaches room v st (Fail k) = Unit {0}

  -- two outcomes are one
  pub record Steady {A : Type 0} (room : ℕ) (v : Bool) (st : State) (o q : Outcome A) : Type 0 where
    pub same : o ≡ q
    pub reaches : Reaches room v st o

  -- with room for so many sites, what is read is one, and leaves room for those of a lexeme
  abbrev pub AreSteady : {A : Type 0} → ℕ → Bool → Parser A → Parser A → Type 0
  AreSteady room v p q = (st : State) (seen : ℕ) → st.at ≤ n → HasRoom room st → Steady 5 v st (p st seen) (q st seen)

  reaches_behind : {A : Type 0} (room : ℕ) (v u : Bool) (st b : State) (o : Outcome A) → Passes v st.at b.at → Reaches room u b o → Reaches room (v || u) st o
  reaches_behind room v u st b (Read a c seen) h k = (k.0, k.1, passes_both v u st.at b.at c.at h k.2)
  reaches_behind room v u st b (Fail i) h k = tt

  pub steady_then : {A B : Type 0} {room last : ℕ} {v u : Bool} {st : State} {o q : Outcome A} (f g : A → Parser B) → Steady room v st o q
      → ((a : A) (b : State) (seen : ℕ) → b.at ≤ n → HasRoom room b → Passes v st.at b.at → Steady last u b (f a b seen) (g a b seen)) → Steady last (v || u) st (and_then o f) (and_then q g)
  steady_then {last = last} {v = v} {u = u} {st = st} {o = Read a b seen} f g h k = let y = k a b seen h.reaches.0 h.reaches.1 h.reaches.2 in record {
    same = y.same ∙ ap (λ o. and_then o g) h.same;
    reaches = reaches_behind last v u st b (f a b seen) h.reaches.2 y.reaches;
  }
  steady_then {o = Fail i} f g h k = record { same = ap (λ o. and_then o g) h.same; reaches = tt }

  reaches_first : {A : Type 0} (room : ℕ) (v u : Bool) (st : State) (o : Outcome A) → Reaches room v st o → Reaches room (v && u) st o
  reaches_first room v u st (Read a b seen) h = (h.0, h.1, passes_first v u st.at b.at h.2)
  reaches_first room v u st (Fail i) h = tt

  reaches_second : {A : Type 0} (room : ℕ) (v u : Bool) (st : State) (o : Outcome A) → Reaches room u st o → Reaches room (v && u) st o
  reaches_second room v u st (Read a b seen) h = (h.0, h.1, passes_second v u st.at b.at h.2)
  reaches_second room v u st (Fail i) h = tt

  pub steady_if : {A : Type 0} {room : ℕ} {v u : Bool} (b : Bool) (p q x y : Parser A) (st : State) (seen : ℕ) → Steady room v st (p st seen) (x st seen) → Steady room u st (q st seen) (y st seen)
      → Steady room (v && u) st ((cond b p q) st seen) ((cond b x y) st seen)
  steady_if {room = room} {v = v} {u = u} true p q x y st seen h k = record { same = h.same; reaches = reaches_first room v u st (p st seen) h.reaches }
  steady_if {room = room} {v = v} {u = u} false p q x y st seen h k = record { same = k.same; reaches = reaches_second room v u st (q st seen) k.reaches }

  -- ---- one lexeme

  took_one : {A : Type 0} (f : ℕ → Bool) (a : A) (st : State) (seen : ℕ) (v : Bool) → f (form (s st.at)) ≡ v → f 0 ≡ false → st.at ≤ n → HasRoom 0 st → Reaches 5 true st (cond v (Read a (past st) seen) (Fail seen))
  took_one f a st seen true is never within few = (inside s n ends f st.at within never is, record { bound = let b = few.bound in omega arith }, omega arith)
  took_one f a st seen false is never within few = tt

  pub takes_steady : {room : ℕ} (f : ℕ → Bool) → f 0 ≡ false → AreSteady room true (takes s f) (takes s f)
  unfolding takes
  takes_steady f never st seen within few = record { same = refl; reaches = took_one f tt st (max seen st.at) (f (form (s st.at))) refl never within (fewer (omega arith) few) }

  pub has_steady : {A : Type 0} {room : ℕ} (f : ℕ → Bool) (g : Lexeme → A) → f 0 ≡ false → AreSteady room true (has s f g) (has s f g)
  unfolding has
  has_steady f g never st seen within few = record { same = refl; reaches = took_one f (g (s st.at)) st (max seen st.at) (f (form (s st.at))) refl never within (fewer (omega arith) few) }

  -- the room is for one site less
  pub opens_steady : (room : ℕ) (g h : ℕ → ℕ) → IsNumbered n g h → (st : State) (seen : ℕ) → st.at ≤ n → HasRoom (suc room) st → Steady room false st (opens s g st seen) (opens s h st seen)
  unfolding opens
  opens_steady room g h alike st seen within few = record {
    same = ap (λ k. Read k (opened (s st.at).from st) (max seen st.at)) (alike (length st.places) (let b = few.bound in omega arith));
    reaches = (within, record { bound = let b = few.bound in omega (arith, length-append st.places ((s st.at).from ∷ [])) }, omega arith);
  }

  pub pure_steady : {A : Type 0} {room : ℕ} (a : A) (st : State) (seen : ℕ) → st.at ≤ n → HasRoom room st → Steady room false st (Read a st seen) (Read a st seen)
  pure_steady a st seen within few = record { same = refl; reaches = (within, few, omega arith) }

  pub stop_steady : {A : Type 0} {room : ℕ} {v : Bool} {st : State} (seen : ℕ) → Steady {A = A} room v st (Fail seen) (Fail seen)
  stop_steady seen = record { same = refl; reaches = tt }

  pub ranged_steady : (unlike : Bool) (at : ℕ) → AreSteady 5 false (note_range unlike at) (note_range unlike at)
  unfolding note_range
  ranged_steady unlike at st seen within few = record { same = refl; reaches = (within, record { bound = few.bound }, omega arith) }

  -- ---- choices

  pub choose_steady : {A : Type 0} {room : ℕ} {v u : Bool} (f : ℕ → Bool) (p q x y : Parser A) → AreSteady room v p x → AreSteady room u q y → AreSteady room (v && u) (choose s f p q) (choose s f x y)
  unfolding choose
  choose_steady f p q x y h k st seen within few = steady_if (f (form (s st.at))) p q x y st (max seen st.at) (h st _ within few) (k st _ within few)

  pub pair_steady : {A : Type 0} {room : ℕ} {v u : Bool} (f : Lexeme → Lexeme → Bool) (p q x y : Parser A) → AreSteady room v p x → AreSteady room u q y → AreSteady room (v && u) (choose_pair s f p q) (choose_pair s f x y)
  unfolding choose_pair
  pair_steady f p q x y h k st seen within few = steady_if (f (s st.at) (s (suc st.at))) p q x y st (max seen (suc st.at)) (h st _ within few) (k st _ within few)

  pub next_steady : {A : Type 0} {room : ℕ} {v u : Bool} (f : ℕ → Bool) (p q x y : Parser A) → AreSteady room v p x → AreSteady room u q y → AreSteady room (v && u) (choose_next s f p q) (choose_next s f x y)
  unfolding choose_next
  next_steady f p q x y h k st seen within few = steady_if (f (form (s (suc st.at)))) p q x y st (max seen (suc st.at)) (h st _ within few) (k st _ within few)

  pub third_steady : {A : Type 0} {room : ℕ} {v u : Bool} (f : ℕ → Bool) (p q x y : Parser A) → AreSteady room v p x → AreSteady room u q y → AreSteady room (v && u) (choose_third s f p q) (choose_third s f x y)
  unfolding choose_third
  third_steady f p q x y h k st seen within few = steady_if (f (form (s (suc (suc st.at))))) p q x y st (max seen (suc (suc st.at))) (h st _ within few) (k st _ within few)
