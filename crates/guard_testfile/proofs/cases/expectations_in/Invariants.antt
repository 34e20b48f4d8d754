use Rattle.std.proofs.Common.{◌≡◌, ◌++◌, map}
use Rattle.doc_values.specs.Places.{kids_at}
use Rattle.rule_names.specs.code.Files.{file_of}
use Rattle.guard_testfile.specs.Cases.{expected_in}
use Rattle.guard_testfile.specs.code.Seen.{see_expectation}
use Rattle.guard_testfile.specs.code.Siblings.{from_index}
use Rattle.guard_testfile.proofs.cases.expectations_in.Given as goal

abbrev pub invariant-loop-i : goal.invariant-loop-i
invariant-loop-i l =
    map (see_expectation (file_of l.sites.file.now)) l.wanted.items ++ expected_in (from_index (kids_at l.rules.doc.now l.rules.id) l.i) ≡ expected_in (kids_at l.rules.doc.now l.rules.id)
