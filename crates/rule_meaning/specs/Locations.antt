-- Locations: values and rows as the meaning of rules has them, without a store. A value that a call made is told by the tree itself.
use Rattle.std.specs.Prelude.{ℕ, Bool, true, false, List, Option, Some, None, option_and_then}
use Rattle.doc_values.specs.Tree.{Forest}
use Rattle.guard_syntax.specs.Syntax.{File}
use Rattle.guard_syntax.specs.declared.function.Function.{Function}
use Rattle.rule_meaning.specs.StoreModel.{literal_at, value_in}
use Rattle.rule_meaning.specs.Values.{Value}

-- the template, the literal of a site, or the call of a site and the tree that it made
pub data LocatedOrigin : Type 0 where
  Template : LocatedOrigin
  Literal : (site : ℕ) → LocatedOrigin
  Made : (call : ℕ) → (tree : Forest) → LocatedOrigin

-- a node of a tree, counted in document order from the root 0, or the key of that node
pub record Location : Type 0 where
  pub origin : LocatedOrigin
  pub node : ℕ
  pub key : Bool

-- a value that was found, the value at which the step of a site found nothing, or the call of a site that does not apply
pub data LocatedRow : Type 0 where
  Found : (value : Location) → LocatedRow
  Missing : (value : Location) → (step : ℕ) → LocatedRow
  Unmade : (call : ℕ) → LocatedRow

-- a row of an answer: a new tree, or a row that is no new value
pub data AnswerRow : Type 0 where
  New : Forest → AnswerRow
  Kept : LocatedRow → AnswerRow

-- what a function answers where it is called at a site, for the rows of its arguments
abbrev pub Answers : Type 0
Answers = Function → ℕ → List (List LocatedRow) → List AnswerRow

abbrev pub is_found : LocatedRow → Bool
is_found (Found v) = true
is_found (Missing v step) = false
is_found (Unmade call) = false

-- what rules are judged over: a template, a rule file, and what the functions of the language answer
pub record World : Type 0 where
  pub template : Forest
  pub file : File
  pub answers : Answers

-- the root of the template, which is the current value of the file
abbrev pub root_location : Location
root_location = record { origin = Template; node = 0; key = false }

-- the root of the literal of a site
abbrev pub literal_location : ℕ → Location
literal_location site = record { origin = Literal site; node = 0; key = false }

-- the root of a tree that the call of a site made
abbrev pub made_location : ℕ → Forest → Location
made_location call tree = record { origin = Made call tree; node = 0; key = false }

-- a row that the call of a site answers: a new tree is found at its root, and any other row stays
abbrev pub answered_row : ℕ → AnswerRow → LocatedRow
answered_row call (New tree) = Found (made_location call tree)
answered_row call (Kept row) = row

-- the tree of an origin
abbrev pub tree_of : World → LocatedOrigin → Option Forest
tree_of world Template = Some world.template
tree_of world (Literal site) = literal_at world.file site
tree_of world (Made call tree) = Some tree

-- what a location stands for
abbrev pub stands_for : World → Location → Option Value
stands_for world v = option_and_then (value_in v.node v.key) (tree_of world v.origin)

-- what a row stands for: a missing one for nothing
abbrev pub meant : World → LocatedRow → Option Value
meant world (Found v) = stands_for world v
meant world (Missing v step) = None
meant world (Unmade call) = None
