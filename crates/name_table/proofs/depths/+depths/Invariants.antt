use Rattle.std.proofs.Common.{map, take}
use Rattle.guard_syntax.specs.code.Seen.{see_let, see_query, see_step, see_disj, see_part, see_expr, let_list, step_list, disj_list, part_list, expr_list}
use Rattle.rule_names.specs.Depths.{depth_lets, depth_disjs, depth_parts, depth_exprs, depth_steps}
use Rattle.name_table.specs.code.Measured.{Measured}
use Rattle.name_table.specs.code.Measures.{file_of, known_of}
use Rattle.rule_names.specs.Pieces.{pieces_lets, pieces_disjs, pieces_parts, pieces_exprs, pieces_steps}
use Rattle.name_table.proofs.depths.+depths.Given as goal

abbrev pub invariant-of_lets-loop-given : goal.invariant-of_lets-loop-given
invariant-of_lets-loop-given l =
    let seen = let_list (map see_let (take l.given-index l.lets)) in
    Measured (file_of l.measure) (known_of l.measure) (pieces_lets seen) (depth_lets (file_of l.measure) (known_of l.measure) seen) l.initial.table l.table l.depth

abbrev pub invariant-of_disjs-loop-disj : goal.invariant-of_disjs-loop-disj
invariant-of_disjs-loop-disj l =
    let seen = disj_list (map see_disj (take l.disj-index l.disjs)) in
    Measured (file_of l.measure) (known_of l.measure) (pieces_disjs seen) (depth_disjs (file_of l.measure) (known_of l.measure) seen) l.initial.table l.table l.depth

abbrev pub invariant-of_parts-loop-part : goal.invariant-of_parts-loop-part
invariant-of_parts-loop-part l =
    let seen = part_list (map see_part (take l.part-index l.parts)) in
    Measured (file_of l.measure) (known_of l.measure) (pieces_parts seen) (depth_parts (file_of l.measure) (known_of l.measure) seen) l.initial.table l.table l.depth

abbrev pub invariant-of_exprs-loop-expr : goal.invariant-of_exprs-loop-expr
invariant-of_exprs-loop-expr l =
    let seen = expr_list (map see_expr (take l.expr-index l.exprs)) in
    Measured (file_of l.measure) (known_of l.measure) (pieces_exprs seen) (depth_exprs (file_of l.measure) (known_of l.measure) seen) l.initial.table l.table l.depth

abbrev pub invariant-of_query-loop-step : goal.invariant-of_query-loop-step
invariant-of_query-loop-step l =
    let seen = step_list (map see_step (take l.step-index l.step-items)) in
    Measured (file_of l.measure) (known_of l.measure) (pieces_steps (see_query l.query) 0 seen) (depth_steps (file_of l.measure) (known_of l.measure) seen) l.initial.table l.table l.depth
