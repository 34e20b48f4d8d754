-- Tests that are judged, by the types of the code.
use Rattle.std.specs.Prelude.{ℕ, ◌≡◌, ◌++◌, Bool, List, count_by, string_bytes}
use Rattle.doc_values.specs.Tree.{Forest}
use Rattle.guard_syntax.specs.Syntax.{File}
use Rattle.guard_testfile.specs.Cases.{TestCase}
use Rattle.guard_testfile.specs.Texts.{Difference, case_text, cases_text, is_wrong}
use Rattle.rule_names.specs.code.Files.{file_of}
use Rattle.guard_ends.specs.Order.{Ending, IsTested, MakingPatterns, ReadingTests, Work}
use Rattle.guard_ends.specs.Tests.{AreFound, IsFound}
use Rattle.guard_inputs.specs.code.Tests.{cases_of, rules_of}
use Rattle.guard_inputs.specs.declared.inputs.Sources.{Sources}
use Rattle.guard_inputs.specs.declared.tests.Tests as code

-- the work of rules and tests that were loaded
abbrev pub TestingSources : Sources → Work
TestingSources sources =
    ReadingTests sources.beside.format (string_bytes sources.rules.text) (file_of sources.rules.file) (string_bytes sources.beside.text)

-- the work of tests that were read
abbrev pub Testing : code.Tests → Work
Testing tests =
    MakingPatterns (string_bytes tests.rules.now.text) (rules_of tests) (Ending (IsTested (rules_of tests) tests.tree (cases_of tests)))

-- the case of a number was judged: this is said of it behind what was said before, and whether something differs
pub record IsSaid (rules : File) (tree : Forest) (case : TestCase) (number : ℕ) (before after : List ℕ) (wrong : Bool) : Type 0 where
  pub found : List Difference
  pub judged : IsFound rules tree case found
  pub text : after ≡ before ++ case_text number found
  pub differs : wrong ≡ is_wrong found

-- cases were judged: this is said of them, and so many are wrong
pub record AreSaid (rules : File) (tree : Forest) (cases : List TestCase) (said : List ℕ) (wrong : ℕ) : Type 0 where
  pub found : List (List Difference)
  pub judged : AreFound rules tree cases found
  pub text : said ≡ cases_text 1 found
  pub counted : wrong ≡ count_by is_wrong found
