use Rattle.std.proofs.Common.{◌≤◌, map, take}
use Rattle.guard_testfile.specs.code.Seen.{see_case}
use Rattle.guard_inputs.specs.code.Tests.{rules_of}
use Rattle.guard_run.specs.code.Tested.{AreSaid}
use Rattle.guard_run.proofs.test.say_cases.Given as goal

abbrev pub invariant-loop-i : goal.invariant-loop-i
invariant-loop-i l = record {
  said : AreSaid (rules_of l.ready.tests.now) l.ready.tests.now.tree
      (map (see_case (rules_of l.ready.tests.now)) (take l.i l.ready.tests.now.cases.items)) l.text.bytes.items l.wrong;
  few : l.wrong ≤ l.i;
}
