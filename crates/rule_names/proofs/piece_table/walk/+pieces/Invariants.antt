use Rattle.std.proofs.Common.{◌≡◌, drop, map}
use Rattle.guard_syntax.specs.code.Seen.{see_query}
use Rattle.rule_names.specs.code.PieceTables.{with_pieces}
use Rattle.rule_names.specs.code.Seen.{see_piece}
use Rattle.rule_names.proofs.PiecesNoted.{of_lets, of_disjs, of_parts, of_steps, of_exprs}
use Rattle.rule_names.proofs.piece_table.walk.+pieces.Given as goal

abbrev pub invariant-in_lets-loop-given : goal.invariant-in_lets-loop-given
invariant-in_lets-loop-given l = with_pieces (map see_piece l.table.items) (of_lets (drop l.given-index l.lets)) ≡ with_pieces (map see_piece l.initial.table.items) (of_lets l.lets)

abbrev pub invariant-in_disjs-loop-disj : goal.invariant-in_disjs-loop-disj
invariant-in_disjs-loop-disj l = with_pieces (map see_piece l.table.items) (of_disjs (drop l.disj-index l.disjs)) ≡ with_pieces (map see_piece l.initial.table.items) (of_disjs l.disjs)

abbrev pub invariant-in_parts-loop-part : goal.invariant-in_parts-loop-part
invariant-in_parts-loop-part l = with_pieces (map see_piece l.table.items) (of_parts (drop l.part-index l.parts)) ≡ with_pieces (map see_piece l.initial.table.items) (of_parts l.parts)

abbrev pub invariant-in_exprs-loop-expr : goal.invariant-in_exprs-loop-expr
invariant-in_exprs-loop-expr l = with_pieces (map see_piece l.table.items) (of_exprs (drop l.expr-index l.exprs)) ≡ with_pieces (map see_piece l.initial.table.items) (of_exprs l.exprs)

abbrev pub invariant-in_query-loop-index : goal.invariant-in_query-loop-index
invariant-in_query-loop-index l =
    with_pieces (map see_piece l.table.items) (of_steps (see_query l.query) l.index (drop l.index l.steps)) ≡ with_pieces (map see_piece l.initial.table.items) (of_steps (see_query l.query) 0 l.steps)
