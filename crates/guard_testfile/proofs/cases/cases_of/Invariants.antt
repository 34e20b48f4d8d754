use Rattle.std.proofs.Common.{◌≡◌, ◌++◌, ◌<◌, map}
use Rattle.std.specs.Prelude.{All}
use Rattle.doc_values.specs.Places.{child_place, kids_at}
use Rattle.doc_values.specs.Tree.{size}
use Rattle.rule_names.specs.code.Files.{file_of}
use Rattle.guard_testfile.specs.Cases.{cases_in}
use Rattle.guard_testfile.specs.code.Seen.{see_case}
use Rattle.guard_testfile.specs.code.Siblings.{from_index}
use Rattle.guard_testfile.specs.declared.case.Case.{Case}
use Rattle.guard_testfile.proofs.cases.cases_of.Given as goal

abbrev pub invariant-loop-i : goal.invariant-loop-i
invariant-loop-i l = record {
  cases : map (see_case (file_of l.sites.file.now)) l.cases.items ++ cases_in (child_place 1 (kids_at l.doc 0) l.i) (from_index (kids_at l.doc 0) l.i) ≡ cases_in 1 (kids_at l.doc 0);
  inputs : All (λ (case : Case). case.input < size l.doc) l.cases.items;
}
