use Rattle.std.proofs.Common.{refl, sym, ap, ◌∙◌, [], length}
use Rattle.doc_values.specs.declared.kind.Kind.TheVariants as kind
use Rattle.doc_values.specs.Unfinished.{with_value}
use Rattle.yaml_grammar.specs.declared.stage.Stage.TheVariants as stage
use Rattle.yaml_grammar.specs.declared.ahead.Ahead.{Ahead}
use Rattle.yaml_grammar.specs.code.Steps.{is_ending}
use Rattle.yaml_grammar.proofs.Roots.{null_root_gives, root_goes}
use Rattle.yaml_grammar.proofs.Lives.{null_fixed, root_fixed}
use Rattle.yaml_grammar.proofs.Extended.{value_apart}
use Rattle.yaml_grammar.proofs.Lives.{null_there, null_ended, null_going}
use Rattle.yaml_steps.proofs.root.root.Goals as goal

pub returns-then-is_ending-clause-gives : goal.returns-then-is_ending-clause-gives
returns-then-is_ending-clause-gives c =
    null_root_gives c.args.text.now c.args.builder.now c.take_null.new.builder c.args.at c.look.result c.take_null.result c.requires.fits c.look.ensures.0 c.requires.boundary (sym c.is_ending.ensures ∙ c.if-is_ending.true) c.take_null.ensures

pub returns-clause-gives : goal.returns-clause-gives
returns-clause-gives c =
    root_goes c.args.text.now c.args.builder.now c.args.at c.look.result (record { stage = stage.Value; at = c.args.at }) c.look.ensures.0 (sym c.is_ending.ensures ∙ c.if-is_ending.false) c.requires.boundary c.requires.fits refl refl

pub returns-then-is_ending-clause-fixes : goal.returns-then-is_ending-clause-fixes
returns-then-is_ending-clause-fixes c =
    null_fixed c.args.text.now c.args.at c.look.result c.args.builder.now c.take_null.new.builder c.take_null.result c.requires.fits c.look.ensures.0 c.requires.boundary (sym c.is_ending.ensures ∙ c.if-is_ending.true) c.take_null.ensures

pub returns-clause-fixes : goal.returns-clause-fixes
returns-clause-fixes c =
    root_fixed c.args.text.now c.args.at c.look.result c.args.builder.now (record { stage = stage.Value; at = c.args.at }) c.requires.fits c.look.ensures.0 c.requires.boundary (sym c.is_ending.ensures ∙ c.if-is_ending.false) refl refl

pub returns-then-is_ending-clause-there : goal.returns-then-is_ending-clause-there
returns-then-is_ending-clause-there c = null_there c.args.at (with_value kind.Null [] (length c.args.text.now) c.args.builder.now) c.take_null.new.builder c.take_null.result c.take_null.ensures

pub returns-then-is_ending-clause-ended : goal.returns-then-is_ending-clause-ended
returns-then-is_ending-clause-ended c = null_ended c.args.text.now c.args.at (with_value kind.Null [] (length c.args.text.now) c.args.builder.now) c.take_null.new.builder c.take_null.result c.take_null.ensures (sym (ap (λ (a : Ahead). is_ending a.token) c.look.ensures.0) ∙ sym c.is_ending.ensures ∙ c.if-is_ending.true)

pub returns-clause-ended : goal.returns-clause-ended
returns-clause-ended c = λ after. absurd (value_apart after)

pub returns-then-is_ending-clause-going : goal.returns-then-is_ending-clause-going
returns-then-is_ending-clause-going c = λ none. null_going c.args.text.now c.args.at c.take_null.new.builder c.take_null.result (sym (ap (λ (a : Ahead). is_ending a.token) c.look.ensures.0) ∙ sym c.is_ending.ensures ∙ c.if-is_ending.true) none

pub returns-clause-going : goal.returns-clause-going
returns-clause-going c = λ none. (refl, c.requires.fits)
