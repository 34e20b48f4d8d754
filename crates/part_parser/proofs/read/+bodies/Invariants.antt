use Rattle.std.proofs.Common.{◌≡◌, ℕ, map, ◌-◌, ◌+◌, ◌*◌}
use Rattle.guard_syntax.specs.Syntax as sx
use Rattle.guard_syntax.specs.code.Seen.{see_disj, see_let, see_part}
use Rattle.literal_parser.specs.code.Parser.{pure}
use Rattle.literal_parser.specs.code.Reads.{state_of}
use Rattle.part_parser.specs.code.GrammarReads.{listed, gathered, body_items_at, closed_items_at, closed_body_at, some_parts_at, full_part_at, ors_at}
use Rattle.part_parser.proofs.CodeSteps.{some_of}
use Rattle.part_parser.proofs.read.+bodies.Given as goal

abbrev pub decreases-body : goal.decreases-body
decreases-body l = 8 * l.depth

abbrev pub decreases-guarded : goal.decreases-guarded
decreases-guarded l = 8 * l.depth + 1

abbrev pub decreases-kinds : goal.decreases-kinds
decreases-kinds l = 8 * l.depth + 1

abbrev pub decreases-judged : goal.decreases-judged
decreases-judged l = 8 * l.depth + 1

abbrev pub decreases-part : goal.decreases-part
decreases-part l = 8 * l.depth + 2

abbrev pub decreases-add_parts : goal.decreases-add_parts
decreases-add_parts l = 8 * l.depth + 3

abbrev pub decreases-disj : goal.decreases-disj
decreases-disj l = 8 * l.depth + 4

abbrev pub decreases-add_items : goal.decreases-add_items
decreases-add_items l = 8 * l.depth + 5

abbrev pub invariant-add_parts-items : goal.invariant-add_parts-items
invariant-add_parts-items l =
    some_parts_at l.tokens l.depth (state_of l.fn.cursor) l.fn.cursor.seen
    ≡ listed sx.more_parts pure (map see_part l.found.items) (some_of sx.more_parts (full_part_at l.tokens l.depth) (λ (k : ℕ). ors_at l.tokens l.depth k) l.left (state_of l.cursor) l.cursor.seen)

abbrev pub decreases-add_parts-items : goal.decreases-add_parts-items
decreases-add_parts-items l = l.left

abbrev pub invariant-add_items-loop-turn : goal.invariant-add_items-loop-turn
invariant-add_items-loop-turn l =
    closed_items_at l.tokens l.depth (state_of l.fn.cursor) l.fn.cursor.seen
    ≡ gathered (closed_body_at l.tokens l.depth) (map see_let l.found.lets.items) (map see_disj l.found.parts.items) (body_items_at l.tokens l.depth (l.tokens.turns - l._turn) (state_of l.cursor) l.cursor.seen)
