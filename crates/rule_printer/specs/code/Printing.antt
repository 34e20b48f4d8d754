-- What the functions of the crate append.
use Rattle.std.specs.Prelude.{ℕ, Bool, true, false, List, drop, map}
use Rattle.guard_syntax.specs.Syntax.{Step}
use Rattle.guard_syntax.specs.declared.syntax.Disj.{Disj}
use Rattle.guard_syntax.specs.declared.syntax.Let.{Let}
use Rattle.guard_syntax.specs.declared.syntax.Rule.{Rule}
use Rattle.guard_syntax.specs.code.Seen.{see_let, see_disj, see_rule, let_list, disj_list}
use Rattle.rule_printer.specs.RuleText.{start_text, step_text, let_lines, disj_lines, rule_lines}

-- a step of a query; the test tells whether it is the first
abbrev pub step_in : Bool → Step → List ℕ
step_in true step = start_text step (step_text step)
step_in false step = step_text step

-- the lines of the lets, of the disjunctions and of the rules from an index on
abbrev pub lets_from : List ℕ → List Let → ℕ → List (ℕ × List ℕ)
lets_from margin lets n = let_lines margin (let_list (map see_let (drop n lets)))

abbrev pub disjs_from : List ℕ → List Disj → ℕ → List (ℕ × List ℕ)
disjs_from margin disjs n = disj_lines margin (disj_list (map see_disj (drop n disjs)))

abbrev pub rules_from : List Rule → ℕ → List (ℕ × List ℕ)
rules_from rules n = rule_lines (map see_rule (drop n rules))
