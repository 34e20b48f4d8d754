-- Relations between the states of a reading.
use Rattle.std.specs.Prelude.{◌≡◌, ℕ, suc, Bool, true, List, [], ◌∷◌, ◌++◌, length, Option, Some, None, if◌then◌else◌}
use Rattle.literal_parser.specs.Lexemes.{Lexeme}
use Rattle.literal_parser.specs.Forms.{form, is_led}

-- the number of the next lexeme, the byte offset of each site so far, and that of the first range so far whose bounds are
-- a whole number and a decimal
pub record State : Type 0 where
  pub at : ℕ
  pub places : List ℕ
  pub mixed : Option ℕ

abbrev pub start : State
start = record { at = 0; places = []; mixed = None }

abbrev pub past : State → State
past st = record { at = suc st.at; places = st.places; mixed = st.mixed }

abbrev pub opened : ℕ → State → State
opened place st = record { at = st.at; places = st.places ++ place ∷ []; mixed = st.mixed }

-- the first that is there
abbrev pub first_of_two : Option ℕ → Option ℕ → Option ℕ
first_of_two (Some p) q = Some p
first_of_two None q = q

-- a range that begins at a place; the test tells whether its bounds are of two kinds
abbrev pub ranged : Bool → ℕ → State → State
ranged unlike place st = record { at = st.at; places = st.places; mixed = first_of_two st.mixed (if unlike then Some place else None) }

abbrev pub Rel : Type 1
Rel = State → State → Type 0

infixr 6 ◌⨾◌
abbrev pub ◌⨾◌ : Rel → Rel → Rel
(P ⨾ Q) = λ a c. (b : State) × P a b × Q b c

abbrev pub Never : Rel
Never = λ a b. ⊥

abbrev pub Nothing : Rel
Nothing = λ a b. b ≡ a

-- a relation under a condition
abbrev pub Provided : Bool → Rel → Rel
Provided v P = λ a b. (v ≡ true) × P a b

module _ (s : ℕ → Lexeme) where
  -- a part begins, with the next number as its site
  abbrev pub Opens : ℕ → Rel
  Opens n = λ a b. (n ≡ length a.places) × (b ≡ opened (s a.at).from a)

  -- the next lexeme passes a test
  abbrev pub Takes : (ℕ → Bool) → Rel
  Takes f = λ a b. (f (form (s a.at)) ≡ true) × (b ≡ past a)

  -- it passes, and this is what it has
  abbrev pub Has : {A : Type 0} → (ℕ → Bool) → (Lexeme → A) → A → Rel
  Has f g v = λ a b. (f (form (s a.at)) ≡ true) × (v ≡ g (s a.at)) × (b ≡ past a)

  -- looking ahead takes nothing: at the next lexeme, at the one behind it, at both, or at three
  abbrev pub When : (ℕ → Bool) → Bool → Rel → Rel
  When f v P = λ a b. (f (form (s a.at)) ≡ v) × P a b

  abbrev pub WhenNext : (ℕ → Bool) → Bool → Rel → Rel
  WhenNext f v P = λ a b. (f (form (s (suc a.at))) ≡ v) × P a b

  abbrev pub WhenPair : (Lexeme → Lexeme → Bool) → Bool → Rel → Rel
  WhenPair f v P = λ a b. (f (s a.at) (s (suc a.at)) ≡ v) × P a b

  abbrev pub WhenLed : Bool → Bool → Rel → Rel
  WhenLed full v P = λ a b. (is_led full (form (s a.at)) (form (s (suc a.at))) (form (s (suc (suc a.at)))) ≡ v) × P a b
