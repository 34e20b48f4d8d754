use Rattle.std.proofs.Common.{◌≡◌, ◌+◌, ◌-◌, ◌*◌}
use Rattle.doc_values.specs.Tree.{Forest, joined}
use Rattle.literal_parser.specs.code.Parser.{and_then, pure}
use Rattle.literal_parser.specs.code.Reads.{state_of}
use Rattle.literal_parser.specs.code.LiteralReads.{IsLevel, more_items_at, more_entries_at}
use Rattle.literal_parser.proofs.literal.+literal.Given as goal

abbrev pub decreases-list : goal.decreases-list
decreases-list l = 10 * l.depth

abbrev pub decreases-map : goal.decreases-map
decreases-map l = 10 * l.depth

abbrev pub decreases-node : goal.decreases-node
decreases-node l = 10 * l.depth + 1

abbrev pub decreases-entry : goal.decreases-entry
decreases-entry l = 10 * l.depth + 2

abbrev pub decreases-more_items : goal.decreases-more_items
decreases-more_items l = 10 * l.depth + 3

abbrev pub decreases-more_entries : goal.decreases-more_entries
decreases-more_entries l = 10 * l.depth + 3

abbrev pub decreases-items : goal.decreases-items
decreases-items l = 10 * l.depth + 4

abbrev pub decreases-entries : goal.decreases-entries
decreases-entries l = 10 * l.depth + 4

abbrev pub invariant-more_items-loop-turn : goal.invariant-more_items-loop-turn
invariant-more_items-loop-turn l =
    IsLevel l.fn.builder l.builder
    × ((found : Forest)
    × (more_items_at l.tokens l.depth l.tokens.turns (state_of l.fn.cursor) l.fn.cursor.seen
    ≡ and_then (more_items_at l.tokens l.depth (l.tokens.turns - l._turn) (state_of l.cursor) l.cursor.seen) (λ t. pure (joined found t)))
    × (l.builder.done ≡ joined l.fn.builder.done found))

abbrev pub invariant-more_entries-loop-turn : goal.invariant-more_entries-loop-turn
invariant-more_entries-loop-turn l =
    IsLevel l.fn.builder l.builder
    × ((found : Forest)
    × (more_entries_at l.tokens l.depth l.tokens.turns l.fn.builder.done (state_of l.fn.cursor) l.fn.cursor.seen
    ≡ and_then (more_entries_at l.tokens l.depth (l.tokens.turns - l._turn) l.builder.done (state_of l.cursor) l.cursor.seen) (λ t. pure (joined found t)))
    × (l.builder.done ≡ joined l.fn.builder.done found))
