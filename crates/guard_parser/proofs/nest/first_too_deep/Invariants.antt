use Rattle.std.proofs.Common.{◌≡◌, ℕ, List, ◌≤◌}
use Rattle.literal_parser.specs.Lexemes.{lexemes}
use Rattle.literal_parser.specs.Brackets.{open_before, IsShallowTo}
use Rattle.guard_parser.proofs.nest.first_too_deep.Given as goal

abbrev pub invariant-loop-token : goal.invariant-loop-token
invariant-loop-token l = (l.depth ≤ 128) × ((text : List ℕ) → (l.depth ≡ open_before (lexemes text l.tokens) l.token-index) × IsShallowTo (lexemes text l.tokens) l.token-index)
