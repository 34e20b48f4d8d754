use Rattle.std.proofs.Common.{refl}
use Rattle.literal_parser.specs.Forms.{is_name, is_neg, is_some_word, is_start}
use Rattle.literal_parser.specs.code.Parser.{One, takes}
use Rattle.literal_parser.specs.code.Reads.{source, state_of}
use Rattle.literal_parser.specs.code.TokenClasses.{wants}
use Rattle.part_parser.specs.declared.lead.Lead.{Lead}
use Rattle.part_parser.specs.code.Leads.{lead_of}
use Rattle.part_parser.proofs.CodeSteps.{then_read, saw, halted}
use Rattle.part_parser.proofs.lead.lead_of.Goals as goal

pub returns-then-sees : goal.returns-then-sees
unfolding lead_of
returns-then-sees c = (saw (source c.args.tokens) is_some_word _ _ (state_of c.args.cursor.now) c.args.cursor.now.seen c.sees.ensures.token c.if-sees.true c.sees.ensures.state c.sees.ensures.seen (then_read _ c.in_ok-takes.ensures refl))

pub returns-then-sees-2 : goal.returns-then-sees-2
unfolding lead_of
returns-then-sees-2 c = (saw (source c.args.tokens) is_some_word _ _ (state_of c.args.cursor.now) c.args.cursor.now.seen c.sees.ensures.token c.if-sees.false c.sees.ensures.state c.sees.ensures.seen (saw (source c.args.tokens) is_neg _ _ (state_of c.sees.new.self) c.sees.new.self.seen c.sees-2.ensures.token c.if-sees-2.true c.sees-2.ensures.state c.sees-2.ensures.seen (then_read _ c.in_ok-takes-2.ensures refl)))

pub returns-then-sees-3 : goal.returns-then-sees-3
unfolding lead_of
returns-then-sees-3 c = (saw (source c.args.tokens) is_some_word _ _ (state_of c.args.cursor.now) c.args.cursor.now.seen c.sees.ensures.token c.if-sees.false c.sees.ensures.state c.sees.ensures.seen (saw (source c.args.tokens) is_neg _ _ (state_of c.sees.new.self) c.sees.new.self.seen c.sees-2.ensures.token c.if-sees-2.false c.sees-2.ensures.state c.sees-2.ensures.seen (saw (source c.args.tokens) is_name _ _ (state_of c.sees-2.new.self) c.sees-2.new.self.seen c.sees-3.ensures.token c.if-sees-3.true c.sees-3.ensures.state c.sees-3.ensures.seen c.lead_by_name.ensures)))

pub returns-then-sees-4 : goal.returns-then-sees-4
unfolding lead_of
returns-then-sees-4 c = (saw (source c.args.tokens) is_some_word _ _ (state_of c.args.cursor.now) c.args.cursor.now.seen c.sees.ensures.token c.if-sees.false c.sees.ensures.state c.sees.ensures.seen (saw (source c.args.tokens) is_neg _ _ (state_of c.sees.new.self) c.sees.new.self.seen c.sees-2.ensures.token c.if-sees-2.false c.sees-2.ensures.state c.sees-2.ensures.seen (saw (source c.args.tokens) is_name _ _ (state_of c.sees-2.new.self) c.sees-2.new.self.seen c.sees-3.ensures.token c.if-sees-3.false c.sees-3.ensures.state c.sees-3.ensures.seen (saw (source c.args.tokens) is_start _ _ (state_of c.sees-3.new.self) c.sees-3.new.self.seen c.sees-4.ensures.token c.if-sees-4.true c.sees-4.ensures.state c.sees-4.ensures.seen refl))))

pub returns : goal.returns
unfolding lead_of
returns c = (saw (source c.args.tokens) is_some_word _ _ (state_of c.args.cursor.now) c.args.cursor.now.seen c.sees.ensures.token c.if-sees.false c.sees.ensures.state c.sees.ensures.seen (saw (source c.args.tokens) is_neg _ _ (state_of c.sees.new.self) c.sees.new.self.seen c.sees-2.ensures.token c.if-sees-2.false c.sees-2.ensures.state c.sees-2.ensures.seen (saw (source c.args.tokens) is_name _ _ (state_of c.sees-2.new.self) c.sees-2.new.self.seen c.sees-3.ensures.token c.if-sees-3.false c.sees-3.ensures.state c.sees-3.ensures.seen (saw (source c.args.tokens) is_start _ _ (state_of c.sees-3.new.self) c.sees-3.new.self.seen c.sees-4.ensures.token c.if-sees-4.false c.sees-4.ensures.state c.sees-4.ensures.seen refl))))

pub returns-in_err-takes : goal.returns-in_err-takes
unfolding lead_of
returns-in_err-takes c =
    halted (λ (x : One). x) (λ (x : Lead). x) (takes (source c.args.tokens) is_some_word (state_of c.sees.new.self) c.sees.new.self.seen) _ (lead_of (source c.args.tokens) (wants c.args.behind) (state_of c.args.cursor.now) c.args.cursor.now.seen) c.from_residual.result c.in_err-takes.field-0.0 c.takes.new.self c.takes.new.self c.from_residual.ensures.1
    (saw (source c.args.tokens) is_some_word _ _ (state_of c.args.cursor.now) c.args.cursor.now.seen c.sees.ensures.token c.if-sees.true c.sees.ensures.state c.sees.ensures.seen refl) c.in_err-takes.ensures

pub returns-in_err-takes-2 : goal.returns-in_err-takes-2
unfolding lead_of
returns-in_err-takes-2 c =
    halted (λ (x : One). x) (λ (x : Lead). x) (takes (source c.args.tokens) is_neg (state_of c.sees-2.new.self) c.sees-2.new.self.seen) _ (lead_of (source c.args.tokens) (wants c.args.behind) (state_of c.args.cursor.now) c.args.cursor.now.seen) c.from_residual-in_err-takes-2.result c.in_err-takes-2.field-0.0 c.takes-then-sees-2.new.self c.takes-then-sees-2.new.self c.from_residual-in_err-takes-2.ensures.1
    (saw (source c.args.tokens) is_some_word _ _ (state_of c.args.cursor.now) c.args.cursor.now.seen c.sees.ensures.token c.if-sees.false c.sees.ensures.state c.sees.ensures.seen (saw (source c.args.tokens) is_neg _ _ (state_of c.sees.new.self) c.sees.new.self.seen c.sees-2.ensures.token c.if-sees-2.true c.sees-2.ensures.state c.sees-2.ensures.seen refl)) c.in_err-takes-2.ensures
