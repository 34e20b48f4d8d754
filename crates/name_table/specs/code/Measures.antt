-- The file that is measured, the Depths that are known of it, and those of its items.
use Rattle.std.specs.Prelude.{ℕ, List, [], ◌∷◌}
use Rattle.guard_syntax.specs.code.Seen.{see_file}
use Rattle.guard_syntax.specs.Syntax.{File, Rule}
use Rattle.name_table.specs.declared.measure.Measure.{Measure}
use Rattle.rule_names.specs.Depths.{depth_disjs, depth_lets, depth_rule, larger}

abbrev pub file_of : Measure → File
file_of m = see_file m.file.now

abbrev pub known_of : Measure → List ℕ
known_of m = m.depths.now

-- the greatest Depth of rules
abbrev pub depth_rules : File → List ℕ → List Rule → ℕ
depth_rules f depths [] = 0
depth_rules f depths (r ∷ rs) = larger (depth_rule f depths r) (depth_rules f depths rs)

-- the greatest Depth of what stands in a file
abbrev pub depth_items : File → List ℕ → ℕ
depth_items f depths = larger (depth_lets f depths f.lets) (larger (depth_rules f depths f.rules) (depth_disjs f depths f.loose))
