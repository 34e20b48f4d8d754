use Rattle.std.proofs.Common.{ℕ, sym, ◌∙◌, ap, drop}
use Rattle.yaml_scalars.specs.Lines.{lines}
use Rattle.yaml_scalars.specs.Block.{inner_of, widest}
use Rattle.yaml_scalars.proofs.BlockStates.{inner_next, inner_none}
use Rattle.yaml_scalars.proofs.block.inner_at.Goals as goal

pub returns-in-None-clause-seen : goal.returns-in-None-clause-seen
returns-in-None-clause-seen c = sym (c.loop-place.invariant.1 ∙ inner_none c.args.above c.loop-place.wide c.loop-place.place c.args.bytes.now (sym c.is_blank.ensures ∙ c.if-not-is_blank.false) c.in-None.ensures.0)

pub loop-place-preserved : goal.loop-place-preserved
loop-place-preserved c = (
  c.in-Some.ensures.2,
  c.loop-place.invariant.1
      ∙ inner_next c.args.above c.loop-place.wide c.loop-place.place c.in-Some.behind c.args.bytes.now (sym c.is_blank.ensures ∙ c.if-not-is_blank.false) c.in-Some.ensures.4
      ∙ ap (λ (w : ℕ). inner_of c.args.above w (lines c.in-Some.behind (drop c.in-Some.behind c.args.bytes.now))) (sym (c.widest-wide.ensures ∙ ap (λ (n : ℕ). widest c.loop-place.wide n) c.spaces.ensures.count)),
)
