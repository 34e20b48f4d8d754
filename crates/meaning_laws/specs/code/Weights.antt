-- The weight of an environment over locations: how much deeper than its Depth the meaning of a part may lead there, since a parameter leads to what its call stands in.
use Rattle.std.specs.Prelude.{ℕ, ◌+◌, List}
use Rattle.guard_syntax.specs.Syntax.{File}
use Rattle.rule_names.specs.Depths.{depth_exprs}
use Rattle.rule_meaning.specs.Environments.{Environment, Top, Inner, Called}

-- the Depth of the arguments of the nearest called body, and of those of each caller in turn, where Depth is known by sites
module _ (f : File) (depths : List ℕ) where
  abbrev pub weight : Environment → ℕ
  weight Top = 0
  weight (Inner current outer) = weight outer
  weight (Called current args caller) = depth_exprs f depths args + weight caller
