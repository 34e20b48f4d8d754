use Rattle.std.proofs.Common.{arith, sym, ◌∙◌, ap}
use Rattle.yaml_scalars.specs.Block.{Wide, Indented}
use Rattle.yaml_scalars.proofs.BlockLines.{inner_mark, inner_below, inner_wide, inner_in}
use Rattle.yaml_scalars.proofs.block.inner_by.Goals as goal

pub returns-then-is_mark-clause-seen : goal.returns-then-is_mark-clause-seen
returns-then-is_mark-clause-seen c = sym (inner_mark c.args.above c.args.wide c.args.start c.args.bytes.now c.requires.line (sym c.is_mark.ensures ∙ c.if-is_mark.true))

pub returns-then-indent-above-clause-seen : goal.returns-then-indent-above-clause-seen
returns-then-indent-above-clause-seen c = sym (inner_below c.args.above c.args.wide c.args.start c.args.bytes.now c.requires.line (omega (arith, c.spaces-indent.ensures.count, c.if-indent-above.true)))

pub returns-then-indent-wide-clause-seen : goal.returns-then-indent-wide-clause-seen
returns-then-indent-wide-clause-seen c = sym (inner_wide c.args.above c.args.wide c.args.start c.args.bytes.now c.requires.line (sym c.is_mark.ensures ∙ c.if-is_mark.false) (omega (arith, c.spaces-indent.ensures.count, c.if-indent-above.false)) (omega (arith, c.spaces-indent.ensures.count, c.if-indent-wide.true)) ∙ ap Wide (sym c.shown.ensures.place))

pub returns-clause-seen : goal.returns-clause-seen
returns-clause-seen c = sym (inner_in c.args.above c.args.wide c.args.start c.args.bytes.now c.requires.line (sym c.is_mark.ensures ∙ c.if-is_mark.false) (omega (arith, c.spaces-indent.ensures.count, c.if-indent-above.false)) (omega (arith, c.spaces-indent.ensures.count, c.if-indent-wide.false)) ∙ ap Indented (sym c.spaces-indent.ensures.count))
