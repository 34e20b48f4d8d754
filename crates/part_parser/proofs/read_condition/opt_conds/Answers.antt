use Rattle.std.proofs.Common.{refl}
use Rattle.literal_parser.specs.Forms.{is_when}
use Rattle.literal_parser.specs.code.Reads.{source, state_of}
use Rattle.part_parser.specs.code.Reading.{opt_conds}
use Rattle.part_parser.proofs.CodeSteps.{then_read, saw}
use Rattle.part_parser.proofs.read_condition.opt_conds.Goals as goal

pub returns-then-not-sees : goal.returns-then-not-sees
unfolding opt_conds
returns-then-not-sees c = saw (source c.args.tokens) is_when _ _ (state_of c.args.cursor.now) c.args.cursor.now.seen c.sees.ensures.token c.if-not-sees.true c.sees.ensures.state c.sees.ensures.seen refl

pub returns : goal.returns
unfolding opt_conds
returns c =
    saw (source c.args.tokens) is_when _ _ (state_of c.args.cursor.now) c.args.cursor.now.seen c.sees.ensures.token c.if-not-sees.false c.sees.ensures.state c.sees.ensures.seen
    (then_read _ c.in_ok-takes.ensures (then_read _ c.in_ok-found.ensures refl))
