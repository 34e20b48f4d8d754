use Rattle.std.proofs.Common.{◌≤◌, ◌+◌, ◌-◌, length}
use Rattle.guard_lexer.proofs.Steps.{GoesOn, Began}
use Rattle.guard_lexer.proofs.lex.read_from.Given as goal

abbrev pub invariant-tokens : goal.invariant-tokens
invariant-tokens l = (l.start ≤ l.at) × (l.at ≤ l.start + length l.bytes) × GoesOn l.start l.bytes l.found.items l.dot l.at × Began l.dot l.at l.start l.bytes

abbrev pub decreases-tokens : goal.decreases-tokens
decreases-tokens l = l.start + length l.bytes - l.at
