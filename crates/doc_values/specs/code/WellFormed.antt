-- What every unfinished tree that a builder makes keeps.
use Rattle.std.specs.Prelude.{ℕ, ◌≤◌, ◌≡◌, Bool, true, false, List, [], ◌∷◌, length, Option, Some, None}
use Rattle.doc_values.specs.Tree.{Forest, Nil, has_key, holds_values, IsKeyed, AreValues}
use Rattle.doc_values.specs.Unfinished.{Level, Unfinished, in_map}

-- a key awaits its value in a map alone, and is new there
abbrev pub IsPending : Bool → Forest → Option (List ℕ) → Type 0
IsPending true done (Some k) = has_key done k ≡ false
IsPending true done None = Unit {0}
IsPending false done key = key ≡ None

-- each open collection is a list or a map without a text, keyed as it must be, behind well-formed values
abbrev pub AreLevels : List Level → Type 0
AreLevels [] = Unit {0}
AreLevels (v ∷ vs) =
    IsKeyed (in_map vs) v.before v.label.key × (v.label.text ≡ []) × (holds_values v.label.kind ≡ true)
    × AreValues (in_map vs) Nil v.before × AreLevels vs

pub record IsUnfinished (u : Unfinished) : Type 0 where
  pub levels : AreLevels u.outer
  pub values : AreValues (in_map u.outer) Nil u.done
  pub pending : IsPending (in_map u.outer) u.done u.key
  pub shallow : length u.outer ≤ 128
