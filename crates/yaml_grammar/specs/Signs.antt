-- Why a text has no tree, where one sign in it tells: reading from the left comes to it, whatever stands behind it.
use Rattle.std.specs.Prelude.{ℕ}
use Rattle.doc_values.specs.Tree.{Forest}

-- a sign, at its place
pub data Sign : Type 0 where
  Tab : (at : ℕ) → Sign
  Anchor : (at : ℕ) → Sign
  Tag : (at : ℕ) → Sign
  Directive : (at : ℕ) → Sign
  ManyDocuments : (at : ℕ) → Sign
  DuplicateKey : (at : ℕ) → Sign
  TooDeep : (at : ℕ) → Sign

-- what a part of a text reaches: the place behind it, or a sign, at which reading breaks off
pub data Reach : Type 0 where
  To : (place : ℕ) → Reach
  Shows : (sign : Sign) → Reach

-- what a text comes to
pub data Reading : Type 0 where
  Tree : (tree : Forest) → Reading
  Refused : (sign : Sign) → Reading

-- behind a place it goes on; at a sign it breaks off
abbrev pub Then : Reach → (ℕ → Type 0) → (Sign → Type 0) → Type 0
Then (To place) goes breaks = goes place
Then (Shows sign) goes breaks = breaks sign
