use Rattle.std.proofs.Common.{◌≡◌, get_or, ap, sym, inl, inr, ◌∙◌, arith}
use Rattle.std.proofs.lemmas.Bool.{cases_lt}
use Rattle.json_reader.specs.Json.{is_space}
use Rattle.json_reader.proofs.bytes.space_end.Goals as goal

pub loop-end-preserved : goal.loop-end-preserved
loop-end-preserved c = (
  omega arith,
  omega arith,
  λ k from below. elim (cases_lt k c.loop-end.end) [
    | inl lt ↦ c.loop-end.invariant.2 k from lt
    | inr ge ↦ let e : k ≡ c.loop-end.end = omega arith in ap (λ n. is_space (get_or c.args.bytes.now n 0)) e ∙ sym c.is_space.ensures ∙ c.if-not-is_space.false
  ],
)
