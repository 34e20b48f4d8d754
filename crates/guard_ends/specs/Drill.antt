-- A drill: the rules that it judges by, and its report.
use Rattle.std.specs.Prelude.{ℕ, List, ◌++◌, ◌^◌, ◌-◌, min, codes, decimal, length}
use Rattle.std.specs.List.{flat_map}
use Rattle.report_text.specs.RuleLines.{rule_line}
use Rattle.guard_ends.specs.Report.{Reporting, total_line}
use Rattle.guard_ends.specs.Reported.{Reported, reported, verdicts_of}

-- the text of the rules: the numbers of type A are below 5, all numbers are from 0 to 6, and one of type A is 6
abbrev pub drill_rules : List ℕ
drill_rules =
    codes "let all = Resources.*[ Type == 'T::A' ]\n"
    ++ codes "rule low when %all !empty { %all.Properties.N < 5 }\n"
    ++ codes "rule every { Resources.* { Properties.N IN r[0,6] } }\n"
    ++ codes "rule odd { some %all.Properties.N == 6 }\n"

-- the line of a verdict, without those of what it fails by
abbrev pub verdict_line : Reported → List ℕ
verdict_line r = rule_line r.name r.verdict

-- how many entries all verdicts fail by, up to the most that is counted
abbrev pub fail_count : List Reported → ℕ
fail_count rs = min (length (flat_map (λ (r : Reported). r.fails) rs)) (2 ^ 64 - 1)

-- the report of a drill of so many resources: `drill <count>`, the line of each verdict, `fails <number of entries>`, and the
-- total line
abbrev pub drill_report : ℕ → Reporting
drill_report count world texts =
    (codes "drill " ++ decimal count ++ codes "\n") ++ flat_map verdict_line (reported world)
    ++ (codes "fails " ++ decimal (fail_count (reported world)) ++ codes "\n") ++ total_line (verdicts_of world)
