use Rattle.std.proofs.Common.{◌≡◌, drop}
use Rattle.yaml_scalars.specs.code.Walk.{line_at}
use Rattle.yaml_grammar.specs.Ahead.{has_return}
use Rattle.yaml_nodes.proofs.ahead.has_return.Given as goal

abbrev pub invariant-loop-i : goal.invariant-loop-i
invariant-loop-i l = has_return (line_at (drop l.start l.bytes)) ≡ has_return (line_at (drop l.i l.bytes))
