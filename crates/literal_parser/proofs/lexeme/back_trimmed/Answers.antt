use Rattle.std.proofs.Common.{List, ℕ, subst}
use Rattle.std.specs.Str.{IsCharBoundary}
use Rattle.literal_parser.proofs.Cuts.{before_white}
use Rattle.literal_parser.proofs.lexeme.back_trimmed.Goals as goal

pub range-requires-clause-end_boundary : goal.range-requires-clause-end_boundary
range-requires-clause-end_boundary c = subst (λ (bs : List ℕ). IsCharBoundary bs c.solid_len.result) c.as_bytes.ensures.value
    (before_white c.as_bytes.result.now c.solid_len.result c.solid_len.ensures.within c.solid_len.ensures.next)
