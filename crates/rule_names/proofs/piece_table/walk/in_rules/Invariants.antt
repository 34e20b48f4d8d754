use Rattle.std.proofs.Common.{◌≡◌, drop, map}
use Rattle.rule_names.specs.code.PieceTables.{with_pieces}
use Rattle.rule_names.specs.code.Seen.{see_piece}
use Rattle.rule_names.proofs.PiecesNoted.{of_rules}
use Rattle.rule_names.proofs.piece_table.walk.in_rules.Given as goal

abbrev pub invariant-loop-rule : goal.invariant-loop-rule
invariant-loop-rule l = with_pieces (map see_piece l.table.items) (of_rules (drop l.rule-index l.rules)) ≡ with_pieces (map see_piece l.initial.table.items) (of_rules l.rules)
