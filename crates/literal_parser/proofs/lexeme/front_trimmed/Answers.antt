use Rattle.std.proofs.Common.{List, ℕ, subst, sym}
use Rattle.std.specs.Prelude.{IsUtf8}
use Rattle.std.specs.Str.{IsCharBoundary}
use Rattle.literal_parser.proofs.Cuts.{behind_white}
use Rattle.literal_parser.proofs.lexeme.front_trimmed.Goals as goal

pub range_from-requires : goal.range_from-requires
range_from-requires c = λ some. subst (λ (bs : List ℕ). IsCharBoundary bs c.white_len.result) c.as_bytes.ensures.value
    (behind_white c.as_bytes.result.now c.white_len.result (subst IsUtf8 (sym c.as_bytes.ensures.value) c.utf8.text) c.white_len.ensures.within c.white_len.ensures.last some)
