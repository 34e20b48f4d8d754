use Rattle.std.proofs.Common.{◌≡◌, ℕ}
use Rattle.literal_parser.specs.Forms.{is_name, named_of}
use Rattle.literal_parser.specs.code.Parser.{has}
use Rattle.literal_parser.specs.code.Reads.{source, state_of}
use Rattle.part_parser.specs.code.GrammarReads.{listed}
use Rattle.guard_parser.specs.code.FileReads.{put, names_at, closed_names, closed_names_at}
use Rattle.part_parser.proofs.CodeSteps.{some_of}
use Rattle.guard_parser.proofs.read_file.add_names.Given as goal

abbrev pub invariant-items : goal.invariant-items
invariant-items l =
    closed_names_at l.tokens (state_of l.fn.cursor) l.fn.cursor.seen
    ≡ listed put (closed_names l.tokens) l.found.items (some_of put (has (source l.tokens) is_name named_of) (λ (k : ℕ). names_at l.tokens k) l.left (state_of l.cursor) l.cursor.seen)

abbrev pub decreases-items : goal.decreases-items
decreases-items l = l.left
