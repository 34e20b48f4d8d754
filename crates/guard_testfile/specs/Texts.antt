-- What is said of the cases of a tests file, when each was judged.
use Rattle.std.specs.Prelude.{ℕ, suc, Bool, true, false, List, [], ◌∷◌, ◌++◌, Option, Some, None, codes, count_by, decimal, length, if◌then◌else◌}
use Rattle.std.specs.List.{flat_map}
use Rattle.std.specs.Str.{bytes_eq}
use Rattle.guard_syntax.specs.declared.row.Verdict.{Verdict}
use Rattle.guard_syntax.specs.declared.row.Verdict.TheVariants.{Pass, Fail, Skip}
use Rattle.report_text.specs.RuleLines.{verdict_word}
use Rattle.guard_testfile.specs.Cases.{Expected}

-- two verdicts are the same
abbrev pub is_same : Verdict → Verdict → Bool
is_same Pass Pass = true
is_same Fail Fail = true
is_same Skip Skip = true
is_same _ _ = false

-- an expectation that is not met: the rule, the verdict that is expected of it, and the verdict that it has
pub record Difference : Type 0 where
  pub rule : List ℕ
  pub expected : Verdict
  pub got : Verdict

-- the verdict under a name, where verdicts stand under names in their order
abbrev pub verdict_under : List (List ℕ) → List Verdict → List ℕ → Option Verdict
verdict_under [] verdicts rule = None
verdict_under (name ∷ names) [] rule = None
verdict_under (name ∷ names) (verdict ∷ verdicts) rule = if bytes_eq rule name then Some verdict else verdict_under names verdicts rule

-- what differs of one expectation, by the verdict of its rule; in a tests file each rule that is named has one
abbrev pub difference : Expected → Option Verdict → List Difference
difference e None = []
difference e (Some got) = if is_same e.verdict got then [] else record { rule = e.rule; expected = e.verdict; got = got } ∷ []

-- what differs of all expectations of a case, in their order
abbrev pub differences : List (List ℕ) → List Verdict → List Expected → List Difference
differences names verdicts expected = flat_map (λ (e : Expected). difference e (verdict_under names verdicts e.rule)) expected

-- `  <rule> expected <verdict> got <verdict>`
abbrev pub difference_line : Difference → List ℕ
difference_line d = codes "  " ++ d.rule ++ codes " expected " ++ verdict_word d.expected ++ codes " got " ++ verdict_word d.got ++ codes "\n"

-- a case of which nothing differs is `ok`
abbrev pub case_word : List Difference → List ℕ
case_word [] = codes "ok"
case_word (d ∷ ds) = codes "wrong"

-- `case <number> <word>`, and below it the line of each difference
abbrev pub case_text : ℕ → List Difference → List ℕ
case_text number ds = codes "case " ++ decimal number ++ codes " " ++ case_word ds ++ codes "\n" ++ flat_map difference_line ds

-- `cases <number> wrong <number>`
abbrev pub summary_line : ℕ → ℕ → List ℕ
summary_line cases wrong = codes "cases " ++ decimal cases ++ codes " wrong " ++ decimal wrong ++ codes "\n"

-- something differs of a case
abbrev pub is_wrong : List Difference → Bool
is_wrong [] = false
is_wrong (d ∷ ds) = true

-- the texts of cases by what differs of each, counted from a number on
abbrev pub cases_text : ℕ → List (List Difference) → List ℕ
cases_text number [] = []
cases_text number (ds ∷ more) = case_text number ds ++ cases_text (suc number) more

-- the whole text: each case from 1 on, and last how many there are and how many are wrong
abbrev pub tests_text : List (List Difference) → List ℕ
tests_text cases = cases_text 1 cases ++ summary_line (length cases) (count_by is_wrong cases)
