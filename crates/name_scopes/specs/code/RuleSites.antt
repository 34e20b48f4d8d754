-- The sites of the rules of a file by their names, as the code has them.
use Rattle.std.specs.Prelude.{◌≡◌, ℕ, List, Option, option_map}
use Rattle.std.specs.Borrow.{Bor}
use Rattle.std.specs.Ordering.{nat_cmp}
use Rattle.std.specs.Cmp.Lexicographic.{slice_cmp}
use Rattle.std.specs.BTreeMap.{BTreeMap, get_by}
use Rattle.guard_syntax.specs.Syntax.{Rule}
use Rattle.rule_names.specs.Uses.{rule_named}

-- the site of the rule that a name means
abbrev pub site_named : List Rule → List ℕ → Option ℕ
site_named rules name = option_map (λ (r : Rule). r.site) (rule_named rules name)

-- a map has that at each name
abbrev pub AreRuleSites : List Rule → BTreeMap (Bor (List ℕ)) ℕ → Type 0
AreRuleSites rules sites = (name : List ℕ) → get_by (λ k. slice_cmp nat_cmp name k.now) sites ≡ site_named rules name
