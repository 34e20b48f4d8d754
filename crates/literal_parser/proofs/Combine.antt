-- What holds of a parser's parts holds of the parser.
use Rattle.std.proofs.Common.{◌≡◌, ℕ, Bool, true, false, cond, refl, sym, subst}
use Rattle.literal_parser.specs.States.{State, Rel}
use Rattle.literal_parser.specs.code.Parser.{Outcome, Read, Fail, Parser, and_then}

-- ---- sound

abbrev Held : {A : Type 0} → Outcome A → (A → State → Type 0) → Type 0
Held (Read a st seen) R = R a st
Held (Fail seen) R = Unit {0}

-- what was read is so
pub record Holds {A : Type 0} (r : Outcome A) (R : A → State → Type 0) : Type 0 where
  pub held : Held r R

-- every outcome of the parser is as the relation says
abbrev pub Sound : {A : Type 0} → Parser A → (A → Rel) → Type 0
Sound p P = (st : State) (seen : ℕ) → Holds (p st seen) (λ a m. P a st m)

pub done : {A : Type 0} {a : A} {st : State} {seen : ℕ} {R : A → State → Type 0} → R a st → Holds (Read a st seen) R
done h = record { held = h }

pub failed : {A : Type 0} {seen : ℕ} {R : A → State → Type 0} → Holds (Fail seen) R
failed = record { held = tt }

pub holds_then : {A B : Type 0} {r : Outcome A} {f : A → Parser B} {R : A → State → Type 0} {T : B → State → Type 0}
    → Holds r R → ((a : A) (st : State) (seen : ℕ) → R a st → Holds (f a st seen) T) → Holds (and_then r f) T
holds_then {r = Read a st seen} h k = k a st seen h.held
holds_then {r = Fail seen} h k = record { held = tt }

pub holds_so : {A : Type 0} {r : Outcome A} {R T : A → State → Type 0} → Holds r R → ((a : A) (st : State) → R a st → T a st) → Holds r T
holds_so {r = Read a st seen} h k = record { held = k a st h.held }
holds_so {r = Fail seen} h k = record { held = tt }

pub holds_if : {A : Type 0} {T : A → State → Type 0} (p q : Parser A) (st : State) (seen : ℕ) (b : Bool)
    → (b ≡ true → Holds (p st seen) T) → (b ≡ false → Holds (q st seen) T) → Holds ((cond b p q) st seen) T
holds_if p q st seen true h k = h refl
holds_if p q st seen false h k = k refl

-- ---- complete

abbrev Given : {A : Type 0} → Outcome A → A → State → Type 0
Given (Read a st seen) b m = (a ≡ b) × (st ≡ m)
Given (Fail seen) b m = ⊥

-- this is what is read
pub record Gives {A : Type 0} (r : Outcome A) (b : A) (m : State) : Type 0 where
  pub given : Given r b m

pub gives : {A : Type 0} {a : A} {st : State} {seen : ℕ} → Gives (Read a st seen) a st
gives = record { given = (refl, refl) }

pub gives_then : {A B : Type 0} {r : Outcome A} (f : A → Parser B) {a : A} {m : State} {b : B} {n : State}
    → Gives r a m → ((seen : ℕ) → Gives (f a m seen) b n) → Gives (and_then r f) b n
gives_then {r = Read c l seen} f {a = a} {m = m} {b = b} {n = n} h k =
    subst (λ x. Gives (f x l seen) b n) (sym h.given.0) (subst (λ y. Gives (f a y seen) b n) (sym h.given.1) (k seen))
gives_then {r = Fail seen} f h k = absurd h.given

pub gives_if : {A : Type 0} {a : A} {m : State} (p q : Parser A) (st : State) (seen : ℕ) (b v : Bool)
    → b ≡ v → Gives ((cond v p q) st seen) a m → Gives ((cond b p q) st seen) a m
gives_if {a = a} {m = m} p q st seen b v e h = subst (λ x. Gives ((cond x p q) st seen) a m) (sym e) h

-- ---- local

-- the last place that was looked at
abbrev pub horizon : {A : Type 0} → Outcome A → ℕ
horizon (Read a st seen) = seen
horizon (Fail seen) = seen
