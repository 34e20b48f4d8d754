-- Answers as the code has them.
use Rattle.std.specs.Prelude.{ℕ, Bool, true, not, List, Option, Some, None, Vec}
use Rattle.std.specs.declared.alloc.Global.{Global}
use Rattle.doc_values.specs.Tree.{Forest}
use Rattle.guard_syntax.specs.declared.row.Row.{Row}
use Rattle.rule_meaning.specs.Functions.{MadeRow, New, Kept, IsReplaced}
use Rattle.rule_meaning.specs.Values.{Value, has_pattern}
use Rattle.value_functions.specs.code.Gives.{gives}
use Rattle.value_functions.specs.declared.change.Change.{Change}
use Rattle.guard_builtins.specs.declared.made.Made.{Made}
use Rattle.guard_builtins.specs.declared.made.Made.TheVariants as made

abbrev pub see_made : Made → MadeRow
see_made (made.Tree tree) = New tree
see_made (made.Kept row) = Kept row

-- a new tree without patterns, or a kept row
abbrev pub is_plain : Made → Bool
is_plain (made.Tree tree) = not (has_pattern tree)
is_plain (made.Kept row) = true

-- the rows of an argument
abbrev pub see_rows : Vec Row Global → List Row
see_rows rows = rows.items

-- what is made of one value after another: what a function says, what replacing a pattern by a template says, or nothing
pub data Changing : Type 0 where
  ByFunction : Change → Changing
  ByTexts : (pattern template : List ℕ) → Changing
  ByNothing : Changing

abbrev pub changes : Changing → Value → Forest → Type 0
changes (ByFunction change) v tree = gives change v tree
changes (ByTexts pattern template) v tree = IsReplaced (Some pattern) (Some template) v tree
changes ByNothing v tree = ⊥

-- two texts, where there are both
abbrev pub both : Option (List ℕ) → Option (List ℕ) → Option (List ℕ × List ℕ)
both (Some pattern) (Some template) = Some (pattern, template)
both _ _ = None
