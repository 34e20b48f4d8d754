-- What is found of the cases of a tests file, when the input of each was judged by rules.
use Rattle.std.specs.Prelude.{◌≡◌, List, [], ◌∷◌}
use Rattle.doc_values.specs.Places.{tree_at}
use Rattle.doc_values.specs.Tree.{Forest}
use Rattle.guard_syntax.specs.Syntax.{File}
use Rattle.guard_testfile.specs.Cases.{TestCase}
use Rattle.guard_testfile.specs.Texts.{Difference, differences}
use Rattle.report_text.specs.RuleLines.{reported_names}
use Rattle.rule_meaning.specs.FunctionMeaning.{IsAnswering}
use Rattle.rule_meaning.specs.Locations.{Answers, World}
use Rattle.guard_ends.specs.Reported.{verdicts_of, world_over}

-- what differs of a case, where its input is judged
abbrev pub found_of : TestCase → World → List Difference
found_of case world = differences (reported_names world.file) (verdicts_of world) case.expected

-- the input of a case of a tests file of this tree was judged, by answers that functions give, which are what their table says
abbrev pub IsFound : File → (tree : Forest) → TestCase → List Difference → Type 0
IsFound rules tree case found = (answers : Answers) × IsAnswering (world_over rules (tree_at tree case.input) answers)
    × (found ≡ found_of case (world_over rules (tree_at tree case.input) answers))

-- that of each case was judged
abbrev pub AreFound : File → (tree : Forest) → List TestCase → List (List Difference) → Type 0
AreFound rules tree [] [] = Unit {0}
AreFound rules tree (case ∷ cases) (found ∷ more) = IsFound rules tree case found × AreFound rules tree cases more
AreFound rules tree _ _ = ⊥
