-- Cases as the code has them.
use Rattle.std.specs.Prelude.{map}
use Rattle.guard_syntax.specs.Syntax.{File}
use Rattle.guard_testfile.specs.Cases.{Expected, TestCase}
use Rattle.guard_testfile.specs.code.RuleSites.{name_of_site}
use Rattle.guard_testfile.specs.declared.case.Case.{Case}
use Rattle.guard_testfile.specs.declared.case.Expectation.{Expectation}

-- the rule of a site, by its name
abbrev pub see_expectation : File → Expectation → Expected
see_expectation file e = record { rule = name_of_site file e.site; verdict = e.verdict }

abbrev pub see_case : File → Case → TestCase
see_case file case = record { input = case.input; expected = map (see_expectation file) case.wanted.items }
