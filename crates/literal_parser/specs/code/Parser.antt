-- Functions that read lexemes one after the other, and tell the last place that they looked at.
use Rattle.std.specs.Prelude.{ℕ, suc, max, Bool, length, if◌then◌else◌}
use Rattle.literal_parser.specs.Lexemes.{Lexeme}
use Rattle.literal_parser.specs.Forms.{form}
use Rattle.literal_parser.specs.States.{State, past, opened, ranged}

-- a value, the state behind it and the last place that was looked at; or no value, and that place
pub data Outcome (A : Type 0) : Type 0 where
  Read : A → State → ℕ → Outcome A
  Fail : ℕ → Outcome A

abbrev pub Parser : Type 0 → Type 0
Parser A = State → ℕ → Outcome A

abbrev pub and_then : {A B : Type 0} → Outcome A → (A → Parser B) → Outcome B
and_then (Read a st seen) f = f a st seen
and_then (Fail seen) f = Fail seen

infixl 10 ◌>>=◌
abbrev pub ◌>>=◌ : {A B : Type 0} → Parser A → (A → Parser B) → Parser B
p >>= f = λ st seen. and_then (p st seen) f

infixl 10 ◌>>◌
abbrev pub ◌>>◌ : {A B : Type 0} → Parser A → Parser B → Parser B
p >> q = p >>= (λ _. q)

abbrev pub pure : {A : Type 0} → A → Parser A
pure a = λ st seen. Read a st seen

-- nothing goes on from here
abbrev pub stop : {A : Type 0} → Parser A
stop = λ st seen. Fail seen

abbrev pub One : Type 0
One = Unit {0}

-- a range that begins at a place was read
unfoldable pub note_range : Bool → ℕ → Parser One
note_range unlike place = λ st seen. Read tt (ranged unlike place st) seen

module _ (s : ℕ → Lexeme) where
  -- a part begins, and its site is numbered by how many there are before it
  unfoldable pub opens : (ℕ → ℕ) → Parser ℕ
  opens number = λ st seen. Read (number (length st.places)) (opened (s st.at).from st) (max seen st.at)

  unfoldable pub takes : (ℕ → Bool) → Parser One
  takes f = λ st seen. if f (form (s st.at)) then Read tt (past st) (max seen st.at) else Fail (max seen st.at)

  unfoldable pub has : {A : Type 0} → (ℕ → Bool) → (Lexeme → A) → Parser A
  has f g = λ st seen. if f (form (s st.at)) then Read (g (s st.at)) (past st) (max seen st.at) else Fail (max seen st.at)

  -- by the next lexeme; by the next two, of which the first leaves it open; by the third, which the first two leave open
  unfoldable pub choose : {A : Type 0} → (ℕ → Bool) → Parser A → Parser A → Parser A
  choose f p q = λ st seen. (if f (form (s st.at)) then p else q) st (max seen st.at)

  unfoldable pub choose_pair : {A : Type 0} → (Lexeme → Lexeme → Bool) → Parser A → Parser A → Parser A
  choose_pair f p q = λ st seen. (if f (s st.at) (s (suc st.at)) then p else q) st (max seen (suc st.at))

  unfoldable pub choose_next : {A : Type 0} → (ℕ → Bool) → Parser A → Parser A → Parser A
  choose_next f p q = λ st seen. (if f (form (s (suc st.at))) then p else q) st (max seen (suc st.at))

  unfoldable pub choose_third : {A : Type 0} → (ℕ → Bool) → Parser A → Parser A → Parser A
  choose_third f p q = λ st seen. (if f (form (s (suc (suc st.at)))) then p else q) st (max seen (suc (suc st.at)))
