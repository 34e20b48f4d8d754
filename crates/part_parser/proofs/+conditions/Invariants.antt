use Rattle.std.proofs.Common.{◌≡◌, ℕ, map, ◌-◌, ◌+◌, ◌*◌}
use Rattle.guard_syntax.specs.Syntax as sx
use Rattle.guard_syntax.specs.code.Seen.{see_disj, see_part, see_expr, see_step}
use Rattle.literal_parser.specs.code.Parser.{pure}
use Rattle.literal_parser.specs.code.Reads.{state_of}
use Rattle.part_parser.specs.code.GrammarReads.{listed, alternatives_at, cond_part_at, expr_at, closed_exprs, closed_exprs_at, more_exprs_at, some_conditions_at, more_alternatives_at, some_disjs_at, disjs_at, some_steps_at, steps_at}
use Rattle.part_parser.proofs.CodeSteps.{some_of}
use Rattle.part_parser.proofs.+conditions.Given as goal

abbrev pub decreases-read_query::filter : goal.decreases-read_query::filter
decreases-read_query::filter l = 16 * l.depth

abbrev pub decreases-read_query::key_test : goal.decreases-read_query::key_test
decreases-read_query::key_test l = 16 * l.depth

abbrev pub decreases-read_query::exprs : goal.decreases-read_query::exprs
decreases-read_query::exprs l = 16 * l.depth

abbrev pub decreases-read_query::applied : goal.decreases-read_query::applied
decreases-read_query::applied l = 16 * l.depth + 1

abbrev pub decreases-read_query::step : goal.decreases-read_query::step
decreases-read_query::step l = 16 * l.depth + 1

abbrev pub decreases-read_query::add_steps : goal.decreases-read_query::add_steps
decreases-read_query::add_steps l = 16 * l.depth + 2

abbrev pub decreases-read_condition::ruled : goal.decreases-read_condition::ruled
decreases-read_condition::ruled l = 16 * l.depth + 2

abbrev pub decreases-read_query::query : goal.decreases-read_query::query
decreases-read_query::query l = 16 * l.depth + 3

abbrev pub decreases-read_query::expr : goal.decreases-read_query::expr
decreases-read_query::expr l = 16 * l.depth + 4

abbrev pub decreases-read_condition::right : goal.decreases-read_condition::right
decreases-read_condition::right l = 16 * l.depth + 5

abbrev pub decreases-read_query::add_exprs : goal.decreases-read_query::add_exprs
decreases-read_query::add_exprs l = 16 * l.depth + 5

abbrev pub decreases-read_condition::tested : goal.decreases-read_condition::tested
decreases-read_condition::tested l = 16 * l.depth + 6

abbrev pub decreases-read_condition::condition : goal.decreases-read_condition::condition
decreases-read_condition::condition l = 16 * l.depth + 7

abbrev pub decreases-read_condition::add_conditions : goal.decreases-read_condition::add_conditions
decreases-read_condition::add_conditions l = 16 * l.depth + 8

abbrev pub decreases-read_condition::alternatives : goal.decreases-read_condition::alternatives
decreases-read_condition::alternatives l = 16 * l.depth + 9

abbrev pub decreases-read_condition::add_disjs : goal.decreases-read_condition::add_disjs
decreases-read_condition::add_disjs l = 16 * l.depth + 10

abbrev pub decreases-read_condition::conds : goal.decreases-read_condition::conds
decreases-read_condition::conds l = 16 * l.depth + 11

abbrev pub invariant-read_condition::add_disjs-items : goal.invariant-read_condition::add_disjs-items
invariant-read_condition::add_disjs-items l =
    some_disjs_at l.tokens l.depth (state_of l.fn.cursor) l.fn.cursor.seen
    ≡ listed sx.more_disjs pure (map see_disj l.found.items) (some_of sx.more_disjs (alternatives_at l.tokens l.depth) (λ (k : ℕ). disjs_at l.tokens l.depth k) l.left (state_of l.cursor) l.cursor.seen)

abbrev pub decreases-read_condition::add_disjs-items : goal.decreases-read_condition::add_disjs-items
decreases-read_condition::add_disjs-items l = l.left

abbrev pub invariant-read_condition::add_conditions-items : goal.invariant-read_condition::add_conditions-items
invariant-read_condition::add_conditions-items l =
    some_conditions_at l.tokens l.depth (state_of l.fn.cursor) l.fn.cursor.seen
    ≡ listed sx.more_parts pure (map see_part l.found.items) (some_of sx.more_parts (cond_part_at l.tokens l.depth) (λ (k : ℕ). more_alternatives_at l.tokens l.depth k) l.left (state_of l.cursor) l.cursor.seen)

abbrev pub decreases-read_condition::add_conditions-items : goal.decreases-read_condition::add_conditions-items
decreases-read_condition::add_conditions-items l = l.left

abbrev pub invariant-read_query::add_steps-loop-turn : goal.invariant-read_query::add_steps-loop-turn
invariant-read_query::add_steps-loop-turn l =
    some_steps_at l.tokens l.depth (state_of l.fn.cursor) l.fn.cursor.seen
    ≡ listed sx.more_steps pure (map see_step l.found.items) (steps_at l.tokens l.depth (l.tokens.turns - l._turn) (state_of l.cursor) l.cursor.seen)

abbrev pub invariant-read_query::add_exprs-items : goal.invariant-read_query::add_exprs-items
invariant-read_query::add_exprs-items l =
    closed_exprs_at l.tokens l.depth (state_of l.fn.cursor) l.fn.cursor.seen
    ≡ listed sx.more_exprs (closed_exprs l.tokens l.depth) (map see_expr l.found.items) (some_of sx.more_exprs (expr_at l.tokens l.depth) (λ (k : ℕ). more_exprs_at l.tokens l.depth k) l.left (state_of l.cursor) l.cursor.seen)

abbrev pub decreases-read_query::add_exprs-items : goal.decreases-read_query::add_exprs-items
decreases-read_query::add_exprs-items l = l.left
