use Rattle.std.proofs.Common.{◌≡◌, ◌+◌, ◌≤◌, drop}
use Rattle.yaml_grammar.specs.code.AheadSeen.{first_return}
use Rattle.yaml_nodes.proofs.place.return_len.Given as goal

abbrev pub invariant-loop-i : goal.invariant-loop-i
invariant-loop-i l = (l.start ≤ l.i) × (l.start + first_return (drop l.start l.bytes) ≡ l.i + first_return (drop l.i l.bytes))
