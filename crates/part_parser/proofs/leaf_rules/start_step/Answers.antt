use Rattle.std.proofs.Common.{refl}
use Rattle.literal_parser.specs.Forms.{is_this, is_var}
use Rattle.literal_parser.specs.code.Reads.{source, state_of}
use Rattle.part_parser.proofs.CodeSteps.{then_read, seen_as, saw}
use Rattle.part_parser.proofs.SeenForms.{this-made, var-made, key-made}
use Rattle.part_parser.proofs.leaf_rules.start_step.Goals as goal

pub returns-then-sees : goal.returns-then-sees
returns-then-sees c =
    seen_as (then_read _ c.in_ok-site.ensures (saw (source c.args.tokens) is_this _ _ (state_of c.opens.new.self) c.opens.new.self.seen c.sees.ensures.token c.if-sees.true c.sees.ensures.state c.sees.ensures.seen (then_read _ c.in_ok-takes.ensures refl)))
    (this-made c.in_ok-site.site)

pub returns-then-sees-2 : goal.returns-then-sees-2
returns-then-sees-2 c =
    seen_as (then_read _ c.in_ok-site.ensures (saw (source c.args.tokens) is_this _ _ (state_of c.opens.new.self) c.opens.new.self.seen c.sees.ensures.token c.if-sees.false c.sees.ensures.state c.sees.ensures.seen
    (saw (source c.args.tokens) is_var _ _ (state_of c.sees.new.self) c.sees.new.self.seen c.sees-2.ensures.token c.if-sees-2.true c.sees-2.ensures.state c.sees-2.ensures.seen (then_read _ c.in_ok-name.ensures refl))))
    (var-made c.in_ok-site.site c.in_ok-name.name)

pub returns : goal.returns
returns c =
    seen_as (then_read _ c.in_ok-site.ensures (saw (source c.args.tokens) is_this _ _ (state_of c.opens.new.self) c.opens.new.self.seen c.sees.ensures.token c.if-sees.false c.sees.ensures.state c.sees.ensures.seen
    (saw (source c.args.tokens) is_var _ _ (state_of c.sees.new.self) c.sees.new.self.seen c.sees-2.ensures.token c.if-sees-2.false c.sees-2.ensures.state c.sees-2.ensures.seen (then_read _ c.in_ok-name-2.ensures refl))))
    (key-made c.in_ok-site.site c.in_ok-name-2.name)
