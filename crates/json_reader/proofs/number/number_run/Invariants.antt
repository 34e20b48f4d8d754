use Rattle.std.proofs.Common.{◌≡◌, take, Some}
use Rattle.json_reader.specs.code.Numbers.{run_parts}
use Rattle.json_reader.proofs.number.number_run.Given as goal

abbrev pub invariant-loop-i : goal.invariant-loop-i
invariant-loop-i l = run_parts (Some l.fn.first) (take l.i l.bytes) ≡ Some l.part
