use Rattle.std.proofs.Common.{ℕ, List, refl, ap, sym, ◌∙◌}
use Rattle.guard_syntax.specs.Syntax as sx
use Rattle.guard_syntax.specs.Named.{Named}
use Rattle.guard_syntax.specs.code.Seen.{see_step}
use Rattle.literal_parser.specs.Forms.{is_dot, is_star, is_index, is_var, is_key, index_of, named_of, text_of}
use Rattle.literal_parser.specs.code.Parser.{One, Read, has, takes}
use Rattle.literal_parser.specs.code.Reads.{source, state_of}
use Rattle.part_parser.specs.code.GrammarReads.{dotted_at}
use Rattle.part_parser.proofs.CodeSteps.{then_read, saw, halted}
use Rattle.part_parser.proofs.SeenForms.{every-made, index-made, splice-made, key-made}
use Rattle.part_parser.proofs.leaf_rules.dotted.Goals as goal

pub returns-in_err-takes : goal.returns-in_err-takes
returns-in_err-takes c =
    halted (λ (x : One). x) see_step (takes (source c.args.tokens) is_dot (state_of c.args.cursor.now) c.args.cursor.now.seen) _ (dotted_at c.args.tokens c.args.site (state_of c.args.cursor.now) c.args.cursor.now.seen) c.from_residual.result c.in_err-takes.field-0.0 c.takes.new.self c.takes.new.self c.from_residual.ensures.1
    (refl) c.in_err-takes.ensures

pub returns-in_err-takes-2 : goal.returns-in_err-takes-2
returns-in_err-takes-2 c =
    halted (λ (x : One). x) see_step (takes (source c.args.tokens) is_star (state_of c.sees.new.self) c.sees.new.self.seen) _ (dotted_at c.args.tokens c.args.site (state_of c.args.cursor.now) c.args.cursor.now.seen) c.from_residual-in_err-takes-2.result c.in_err-takes-2.field-0.0 c.takes-then-sees.new.self c.takes-then-sees.new.self c.from_residual-in_err-takes-2.ensures.1
    (then_read _ c.in_ok-takes.ensures (saw (source c.args.tokens) is_star _ _ (state_of c.takes.new.self) c.takes.new.self.seen c.sees.ensures.token c.if-sees.true c.sees.ensures.state c.sees.ensures.seen refl)) c.in_err-takes-2.ensures

pub returns-then-sees : goal.returns-then-sees
returns-then-sees c =
    then_read _ c.in_ok-takes.ensures (saw (source c.args.tokens) is_star _ _ (state_of c.takes.new.self) c.takes.new.self.seen c.sees.ensures.token c.if-sees.true c.sees.ensures.state c.sees.ensures.seen (then_read _ c.in_ok-takes-2.ensures refl))
    ∙ sym (ap (λ (q : sx.Step). Read q (state_of c.takes-then-sees.new.self) c.takes-then-sees.new.self.seen) (every-made c.args.site))

pub returns-in_err-index : goal.returns-in_err-index
returns-in_err-index c =
    halted (λ (i : ℕ). i) see_step (has (source c.args.tokens) is_index index_of (state_of c.sees-2.new.self) c.sees-2.new.self.seen) _ (dotted_at c.args.tokens c.args.site (state_of c.args.cursor.now) c.args.cursor.now.seen) c.from_residual-in_err-index.result c.in_err-index.field-0.0 c.has_index.new.self c.has_index.new.self c.from_residual-in_err-index.ensures.1
    (then_read _ c.in_ok-takes.ensures (saw (source c.args.tokens) is_star _ _ (state_of c.takes.new.self) c.takes.new.self.seen c.sees.ensures.token c.if-sees.false c.sees.ensures.state c.sees.ensures.seen (saw (source c.args.tokens) is_index _ _ (state_of c.sees.new.self) c.sees.new.self.seen c.sees-2.ensures.token c.if-sees-2.true c.sees-2.ensures.state c.sees-2.ensures.seen refl))) c.in_err-index.ensures

pub returns-then-sees-2 : goal.returns-then-sees-2
returns-then-sees-2 c =
    then_read _ c.in_ok-takes.ensures (saw (source c.args.tokens) is_star _ _ (state_of c.takes.new.self) c.takes.new.self.seen c.sees.ensures.token c.if-sees.false c.sees.ensures.state c.sees.ensures.seen (saw (source c.args.tokens) is_index _ _ (state_of c.sees.new.self) c.sees.new.self.seen c.sees-2.ensures.token c.if-sees-2.true c.sees-2.ensures.state c.sees-2.ensures.seen (then_read _ c.in_ok-index.ensures refl)))
    ∙ sym (ap (λ (q : sx.Step). Read q (state_of c.has_index.new.self) c.has_index.new.self.seen) (index-made c.args.site c.in_ok-index.index))

pub returns-in_err-name : goal.returns-in_err-name
returns-in_err-name c =
    halted (λ (x : Named). x) see_step (has (source c.args.tokens) is_var named_of (state_of c.sees-3.new.self) c.sees-3.new.self.seen) _ (dotted_at c.args.tokens c.args.site (state_of c.args.cursor.now) c.args.cursor.now.seen) c.from_residual-in_err-name.result c.in_err-name.field-0.0 c.has_name.new.self c.has_name.new.self c.from_residual-in_err-name.ensures.1
    (then_read _ c.in_ok-takes.ensures (saw (source c.args.tokens) is_star _ _ (state_of c.takes.new.self) c.takes.new.self.seen c.sees.ensures.token c.if-sees.false c.sees.ensures.state c.sees.ensures.seen (saw (source c.args.tokens) is_index _ _ (state_of c.sees.new.self) c.sees.new.self.seen c.sees-2.ensures.token c.if-sees-2.false c.sees-2.ensures.state c.sees-2.ensures.seen (saw (source c.args.tokens) is_var _ _ (state_of c.sees-2.new.self) c.sees-2.new.self.seen c.sees-3.ensures.token c.if-sees-3.true c.sees-3.ensures.state c.sees-3.ensures.seen refl)))) c.in_err-name.ensures

pub returns-then-sees-3 : goal.returns-then-sees-3
returns-then-sees-3 c =
    then_read _ c.in_ok-takes.ensures (saw (source c.args.tokens) is_star _ _ (state_of c.takes.new.self) c.takes.new.self.seen c.sees.ensures.token c.if-sees.false c.sees.ensures.state c.sees.ensures.seen (saw (source c.args.tokens) is_index _ _ (state_of c.sees.new.self) c.sees.new.self.seen c.sees-2.ensures.token c.if-sees-2.false c.sees-2.ensures.state c.sees-2.ensures.seen (saw (source c.args.tokens) is_var _ _ (state_of c.sees-2.new.self) c.sees-2.new.self.seen c.sees-3.ensures.token c.if-sees-3.true c.sees-3.ensures.state c.sees-3.ensures.seen (then_read _ c.in_ok-name.ensures refl))))
    ∙ sym (ap (λ (q : sx.Step). Read q (state_of c.has_name.new.self) c.has_name.new.self.seen) (splice-made c.args.site c.in_ok-name.name))

pub returns-in_err-name-2 : goal.returns-in_err-name-2
returns-in_err-name-2 c =
    halted (λ (x : List ℕ). x) see_step (has (source c.args.tokens) is_key text_of (state_of c.sees-3.new.self) c.sees-3.new.self.seen) _ (dotted_at c.args.tokens c.args.site (state_of c.args.cursor.now) c.args.cursor.now.seen) c.from_residual-in_err-name-2.result c.in_err-name-2.field-0.0 c.has_text.new.self c.has_text.new.self c.from_residual-in_err-name-2.ensures.1
    (then_read _ c.in_ok-takes.ensures (saw (source c.args.tokens) is_star _ _ (state_of c.takes.new.self) c.takes.new.self.seen c.sees.ensures.token c.if-sees.false c.sees.ensures.state c.sees.ensures.seen (saw (source c.args.tokens) is_index _ _ (state_of c.sees.new.self) c.sees.new.self.seen c.sees-2.ensures.token c.if-sees-2.false c.sees-2.ensures.state c.sees-2.ensures.seen (saw (source c.args.tokens) is_var _ _ (state_of c.sees-2.new.self) c.sees-2.new.self.seen c.sees-3.ensures.token c.if-sees-3.false c.sees-3.ensures.state c.sees-3.ensures.seen refl)))) c.in_err-name-2.ensures

pub returns : goal.returns
returns c =
    then_read _ c.in_ok-takes.ensures (saw (source c.args.tokens) is_star _ _ (state_of c.takes.new.self) c.takes.new.self.seen c.sees.ensures.token c.if-sees.false c.sees.ensures.state c.sees.ensures.seen (saw (source c.args.tokens) is_index _ _ (state_of c.sees.new.self) c.sees.new.self.seen c.sees-2.ensures.token c.if-sees-2.false c.sees-2.ensures.state c.sees-2.ensures.seen (saw (source c.args.tokens) is_var _ _ (state_of c.sees-2.new.self) c.sees-2.new.self.seen c.sees-3.ensures.token c.if-sees-3.false c.sees-3.ensures.state c.sees-3.ensures.seen (then_read _ c.in_ok-name-2.ensures refl))))
    ∙ sym (ap (λ (q : sx.Step). Read q (state_of c.has_text.new.self) c.has_text.new.self.seen) (key-made c.args.site c.in_ok-name-2.name))
