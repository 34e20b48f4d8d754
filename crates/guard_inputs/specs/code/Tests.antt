-- Tests that are read, by the types of the code.
use Rattle.std.specs.Prelude.{◌≡◌, List, map, string_bytes}
use Rattle.guard_syntax.specs.Syntax.{File}
use Rattle.guard_testfile.specs.Cases.{TestCase}
use Rattle.guard_testfile.specs.code.Seen.{see_case}
use Rattle.rule_names.specs.code.Files.{file_of}
use Rattle.guard_ends.specs.Inputs.{AreCases, IsTemplate, RefusesCases, RefusesData}
use Rattle.guard_ends.specs.Order.{Reading, Refusing, Work}
use Rattle.guard_ends.specs.declared.ends.Which.TheVariants as file
use Rattle.guard_inputs.specs.declared.inputs.Sources.{Sources}
use Rattle.guard_inputs.specs.declared.tests.Tests as code

-- the rules that are tested
abbrev pub rules_of : code.Tests → File
rules_of tests = file_of tests.rules.now.file

-- the cases of tests
abbrev pub cases_of : code.Tests → List TestCase
cases_of tests = map (see_case (rules_of tests)) tests.cases.items

-- rules and tests that were loaded are refused: the text, or the tree, for the rules
abbrev pub RefusingTests : Sources → Work
RefusingTests sources =
    Reading (RefusesData file.Tests sources.beside.format) (IsTemplate sources.beside.format) (string_bytes sources.beside.text)
    (λ tree. Refusing (λ bytes. RefusesCases (file_of sources.rules.file) tree) (string_bytes sources.beside.text))

-- tests that were read from sources
pub record AreTests (sources : Sources) (tests : code.Tests) : Type 0 where
  pub rules : tests.rules.now ≡ sources.rules
  pub read : IsTemplate sources.beside.format (string_bytes sources.beside.text) tests.tree
  pub cases : AreCases (file_of sources.rules.file) tests.tree (cases_of tests)
