-- The lines of the verdicts of a rule file.
use Rattle.std.specs.Prelude.{ℕ, List, [], ◌∷◌, ◌++◌, codes}
use Rattle.std.specs.List.{flat_map}
use Rattle.guard_syntax.specs.Named.{Named}
use Rattle.guard_syntax.specs.Syntax.{File, Rule, Disjs, no_disjs, more_disjs}
use Rattle.guard_syntax.specs.declared.row.Verdict.{Verdict}
use Rattle.guard_syntax.specs.declared.row.Verdict.TheVariants.{Pass, Fail, Skip}

-- a rule with parameters is not reported
abbrev pub if_plain : List ℕ → List Named → List (List ℕ)
if_plain name [] = name ∷ []
if_plain name (param ∷ params) = []

abbrev pub name_of_rule : Rule → List (List ℕ)
name_of_rule rule = if_plain rule.name.text rule.params

-- the parts outside rules, if there are some, are reported as `default`
abbrev pub name_of_loose : Disjs → List (List ℕ)
name_of_loose no_disjs = []
name_of_loose (more_disjs d ds) = codes "default" ∷ []

-- the names that are reported: of each rule without parameters in the order of the file, `default` last
abbrev pub reported_names : File → List (List ℕ)
reported_names file = flat_map name_of_rule file.rules ++ name_of_loose file.loose

abbrev pub verdict_word : Verdict → List ℕ
verdict_word Pass = codes "PASS"
verdict_word Fail = codes "FAIL"
verdict_word Skip = codes "SKIP"

-- `rule <name> <verdict>`
abbrev pub rule_line : List ℕ → Verdict → List ℕ
rule_line name verdict = codes "rule " ++ name ++ codes " " ++ verdict_word verdict ++ codes "\n"

-- a line for each name, with its verdict
abbrev pub rule_lines : List (List ℕ) → List Verdict → List ℕ
rule_lines [] verdicts = []
rule_lines (name ∷ names) [] = []
rule_lines (name ∷ names) (verdict ∷ verdicts) = rule_line name verdict ++ rule_lines names verdicts
