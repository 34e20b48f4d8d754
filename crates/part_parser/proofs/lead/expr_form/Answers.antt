use Rattle.std.proofs.Common.{refl}
use Rattle.literal_parser.specs.Forms.{is_any_name, is_constant, is_function_word, is_lparen, opens_range}
use Rattle.literal_parser.specs.code.Reads.{source, state_of}
use Rattle.part_parser.specs.code.Leads.{expr_form}
use Rattle.part_parser.proofs.CodeSteps.{saw, saw_next, saw_pair}
use Rattle.part_parser.proofs.lead.expr_form.Goals as goal

pub returns-then-sees_next : goal.returns-then-sees_next
unfolding expr_form
returns-then-sees_next c = let s = source c.args.tokens in
    saw s is_function_word _ _ (state_of c.args.cursor.now) c.args.cursor.now.seen c.sees.ensures.token c.if-sees.false c.sees.ensures.state c.sees.ensures.seen
    (saw s is_any_name _ _ (state_of c.sees.new.self) c.sees.new.self.seen c.sees-2.ensures.token c.if-not-sees.false c.sees-2.ensures.state c.sees-2.ensures.seen
    (saw_pair s opens_range _ _ (state_of c.sees-2.new.self) c.sees-2.new.self.seen c.sees_range.ensures.token c.if-sees_range.false c.sees_range.ensures.state c.sees_range.ensures.seen
    (saw_next s is_lparen _ _ (state_of c.sees_range.new.self) c.sees_range.new.self.seen c.sees_next.ensures.token c.if-sees_next.true c.sees_next.ensures.state c.sees_next.ensures.seen refl)))

pub returns-then-sees-3 : goal.returns-then-sees-3
unfolding expr_form
returns-then-sees-3 c = let s = source c.args.tokens in
    saw s is_function_word _ _ (state_of c.args.cursor.now) c.args.cursor.now.seen c.sees.ensures.token c.if-sees.false c.sees.ensures.state c.sees.ensures.seen
    (saw s is_any_name _ _ (state_of c.sees.new.self) c.sees.new.self.seen c.sees-2.ensures.token c.if-not-sees.false c.sees-2.ensures.state c.sees-2.ensures.seen
    (saw_pair s opens_range _ _ (state_of c.sees-2.new.self) c.sees-2.new.self.seen c.sees_range.ensures.token c.if-sees_range.false c.sees_range.ensures.state c.sees_range.ensures.seen
    (saw_next s is_lparen _ _ (state_of c.sees_range.new.self) c.sees_range.new.self.seen c.sees_next.ensures.token c.if-sees_next.false c.sees_next.ensures.state c.sees_next.ensures.seen
    (saw s is_constant _ _ (state_of c.sees_next.new.self) c.sees_next.new.self.seen c.sees-3.ensures.token c.if-sees-3.true c.sees-3.ensures.state c.sees-3.ensures.seen refl))))

pub returns : goal.returns
unfolding expr_form
returns c = let s = source c.args.tokens in
    saw s is_function_word _ _ (state_of c.args.cursor.now) c.args.cursor.now.seen c.sees.ensures.token c.if-sees.false c.sees.ensures.state c.sees.ensures.seen
    (saw s is_any_name _ _ (state_of c.sees.new.self) c.sees.new.self.seen c.sees-2.ensures.token c.if-not-sees.false c.sees-2.ensures.state c.sees-2.ensures.seen
    (saw_pair s opens_range _ _ (state_of c.sees-2.new.self) c.sees-2.new.self.seen c.sees_range.ensures.token c.if-sees_range.false c.sees_range.ensures.state c.sees_range.ensures.seen
    (saw_next s is_lparen _ _ (state_of c.sees_range.new.self) c.sees_range.new.self.seen c.sees_next.ensures.token c.if-sees_next.false c.sees_next.ensures.state c.sees_next.ensures.seen
    (saw s is_constant _ _ (state_of c.sees_next.new.self) c.sees_next.new.self.seen c.sees-3.ensures.token c.if-sees-3.false c.sees-3.ensures.state c.sees-3.ensures.seen refl))))
