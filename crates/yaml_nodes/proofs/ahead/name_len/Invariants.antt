use Rattle.std.proofs.Common.{◌≡◌, ◌+◌, ◌≤◌, drop}
use Rattle.yaml_scalars.specs.Lines.{lead}
use Rattle.yaml_grammar.specs.Ahead.{is_name}
use Rattle.yaml_scalars.specs.code.Walk.{line_at}
use Rattle.yaml_nodes.proofs.ahead.name_len.Given as goal

abbrev pub invariant-loop-i : goal.invariant-loop-i
invariant-loop-i l = (l.start ≤ l.i) × (l.start + lead is_name (line_at (drop l.start l.bytes)) ≡ l.i + lead is_name (line_at (drop l.i l.bytes)))
