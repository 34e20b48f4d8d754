use Rattle.std.proofs.Common.{◌≡◌, ◌-◌, map}
use Rattle.guard_syntax.specs.code.Seen.{see_let, see_rule, see_disj}
use Rattle.literal_parser.specs.code.Reads.{state_of}
use Rattle.guard_parser.specs.code.FileReads.{before_items, items_at}
use Rattle.guard_parser.proofs.read_file.add_items.Given as goal

abbrev pub invariant-loop-turn : goal.invariant-loop-turn
invariant-loop-turn l =
    before_items (map see_let l.found.lets.items) (map see_rule l.found.rules.items) (map see_disj l.found.loose.items) (items_at l.tokens l.depth (l.tokens.turns - l._turn) (state_of l.cursor) l.cursor.seen)
    ≡ items_at l.tokens l.depth l.tokens.turns (state_of l.fn.cursor) l.fn.cursor.seen
