-- The report on data.
use Rattle.std.specs.Prelude.{ℕ, List, ◌++◌, count_by, codes, decimal}
use Rattle.std.specs.List.{flat_map}
use Rattle.doc_values.specs.Tree.{Forest}
use Rattle.guard_syntax.specs.Syntax.{File}
use Rattle.guard_syntax.specs.declared.row.Verdict.{Verdict}
use Rattle.rule_meaning.specs.Locations.{World}
use Rattle.rule_meaning.specs.Verdicts.{is_pass, is_fail, is_skip}
use Rattle.report_text.specs.EntryLines.{entry_line}
use Rattle.report_text.specs.RuleLines.{rule_line}
use Rattle.report_text.specs.Texts.{Texts}
use Rattle.guard_ends.specs.Reported.{Reported, reported, verdicts_of}

-- how data that was judged by rules is reported on, with the texts in which places are told
abbrev pub Reporting : Type 0
Reporting = World → Texts → List ℕ

-- the line of a verdict under its name, and under that the lines of what it fails by
abbrev pub lines_of : File → (tree : Forest) → Texts → Reported → List ℕ
lines_of file tree texts r = rule_line r.name r.verdict ++ flat_map (entry_line file tree texts) r.fails

-- the last line: `total <p> PASS <f> FAIL <s> SKIP`, how many of the verdicts are each, in decimal
abbrev pub total_line : List Verdict → List ℕ
total_line verdicts = codes "total " ++ decimal (count_by is_pass verdicts) ++ codes " PASS "
    ++ decimal (count_by is_fail verdicts) ++ codes " FAIL " ++ decimal (count_by is_skip verdicts) ++ codes " SKIP\n"

-- the report of `validate`: the lines of each verdict, and the total line
abbrev pub report : Reporting
report world texts = flat_map (lines_of world.file world.template texts) (reported world) ++ total_line (verdicts_of world)
