use Rattle.std.proofs.Common.{map, take}
use Rattle.guard_syntax.specs.code.Seen.{see_rule}
use Rattle.name_table.specs.code.Measured.{Measured}
use Rattle.name_table.specs.code.Measures.{depth_rules, file_of, known_of}
use Rattle.rule_names.specs.Pieces.{pieces_rules}
use Rattle.name_table.proofs.depths.of_rules.Given as goal

abbrev pub invariant-loop-rule : goal.invariant-loop-rule
invariant-loop-rule l =
    let seen = map see_rule (take l.rule-index l.rules) in
    Measured (file_of l.measure) (known_of l.measure) (pieces_rules seen) (depth_rules (file_of l.measure) (known_of l.measure) seen) l.initial.table l.table l.depth
