-- Items of a file that are too deep.
use Rattle.std.specs.Prelude.{ℕ, List, [], ◌∷◌, ◌++◌, Option, Some, None, nat_lt, if◌then◌else◌, slice_index_or}
use Rattle.guard_syntax.specs.Syntax.{Lets, Let, Disjs, Disj, Rule, File, no_lets, more_lets, assign, no_disjs, more_disjs, disj}
use Rattle.rule_names.specs.declared.name_kind.NameKind.TheVariants.{TooDeep}
use Rattle.rule_names.specs.Depths.{depth_expr, depth_rule, depth_disj, depth_limit, depths_of}
use Rattle.rule_names.specs.Faults.{Fault, first_of, or_else}

-- the fault of an item whose Depth is above a number; it is about no name
module _ (f : File) (depths : List ℕ) where
  abbrev pub deep_if : ℕ → ℕ → ℕ → List Fault
  deep_if most n depth =
      if nat_lt most depth then record { kind = TooDeep; named = record { text = []; at = slice_index_or f.places n 0 } } ∷ [] else []

  abbrev pub deep_lets : Lets → List Fault
  deep_lets no_lets = []
  deep_lets (more_lets (assign n name e) ls) = deep_if depth_limit n (depth_expr f depths e) ++ deep_lets ls

  abbrev pub deep_rules : List Rule → List Fault
  deep_rules [] = []
  deep_rules (r ∷ rs) = deep_if depth_limit r.site (depth_rule f depths r) ++ deep_rules rs

  abbrev pub deep_disjs : ℕ → Disjs → List Fault
  deep_disjs most no_disjs = []
  deep_disjs most (more_disjs (disj n ps) ds) = deep_if most n (depth_disj f depths (disj n ps)) ++ deep_disjs most ds

-- the items that are too deep: lets, rules and disjunctions outside rules
abbrev pub deep_items : File → List ℕ → List Fault
deep_items f depths = deep_lets f depths f.lets ++ (deep_rules f depths f.rules ++ deep_disjs f depths depth_limit f.loose)

-- `default`, the conjunction of the disjunctions outside rules, counts 1 more than the greatest of them
abbrev pub default_limit : ℕ
default_limit = 199

-- the first that is too deep; where `default` alone is, the first of its deepest disjunctions
abbrev pub deep_fault : File → Option Fault
deep_fault f = or_else (first_of (deep_items f (depths_of f))) (first_of (deep_disjs f (depths_of f) default_limit f.loose))
