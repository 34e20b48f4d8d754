-- What is said of a case, as the code has it.
use Rattle.std.specs.Prelude.{◌≡◌, ℕ, List, [], ◌∷◌, codes, map}
use Rattle.std.specs.Borrow.{Bor}
use Rattle.std.specs.Ordering.{nat_cmp}
use Rattle.std.specs.Cmp.Lexicographic.{slice_cmp}
use Rattle.std.specs.BTreeMap.{BTreeMap, get_by}
use Rattle.guard_syntax.specs.Syntax.{File}
use Rattle.guard_syntax.specs.declared.row.Verdict.{Verdict}
use Rattle.report_text.specs.RuleLines.{reported_names}
use Rattle.guard_testfile.specs.Texts.{Difference, differences, verdict_under}
use Rattle.guard_testfile.specs.code.Seen.{see_expectation}
use Rattle.guard_testfile.specs.declared.case.Case.{Case}
use Rattle.guard_testfile.specs.declared.write.Agreement.{Agreement}
use Rattle.guard_testfile.specs.declared.write.Agreement.TheVariants.{AsExpected, Different}

-- a map has the verdict under each name
abbrev pub AreVerdicts : List (List ℕ) → List Verdict → BTreeMap (Bor (List ℕ)) Verdict → Type 0
AreVerdicts names verdicts map = (name : List ℕ) → get_by (λ k. slice_cmp nat_cmp name k.now) map ≡ verdict_under names verdicts name

-- what differs of a case, by the verdicts of the rules that are reported
abbrev pub case_differences : File → List Verdict → Case → List Difference
case_differences file got case = differences (reported_names file) got (map (see_expectation file) case.wanted.items)

abbrev pub agreement_of : List Difference → Agreement
agreement_of [] = AsExpected
agreement_of (d ∷ ds) = Different

abbrev pub agreement_word : Agreement → List ℕ
agreement_word AsExpected = codes "ok"
agreement_word Different = codes "wrong"
