use Rattle.std.proofs.Common.{◌≡◌, ◌^◌, ◌≤◌, drop}
use Rattle.decimals.specs.Number.{number, number_behind}
use Rattle.decimals.specs.code.Reading.{cap}
use Rattle.decimals.proofs.number.capped_number.Given as goal

abbrev pub invariant-loop-byte : goal.invariant-loop-byte
invariant-loop-byte l = (cap (number_behind l.n (drop l.byte-index l.digits)) ≡ cap (number l.digits)) × (l.n ≤ 10 ^ 30)
