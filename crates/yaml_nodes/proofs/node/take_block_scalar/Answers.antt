use Rattle.std.proofs.Common.{sym, ap, subst, refl}
use Rattle.std.specs.Prelude.{Err}
use Rattle.yaml_grammar.specs.declared.stop.Stop.{Stop}
use Rattle.yaml_grammar.specs.Nodes.{follows_get_att, setting_of}
use Rattle.yaml_grammar.specs.code.Steps.{Holds}
use Rattle.yaml_grammar.proofs.TornDashes.{error_of, torn_from, torn_holds}
use Rattle.yaml_nodes.proofs.node.take_block_scalar.Goals as goal

pub returns-in-Ok-clause-holds : goal.returns-in-Ok-clause-holds
returns-in-Ok-clause-holds c = c.in-Ok.ensures.holds

pub returns-in-Err-clause-holds : goal.returns-in-Err-clause-holds
returns-in-Err-clause-holds c =
    let text = c.args.text.now in
    subst (λ (e : Stop). Holds text (setting_of c.args.site.form) (follows_get_att text c.args.site.form c.args.site.at) c.args.site.next c.args.builder.now c.take_scalar.new.builder (Err e)) (sym c.torn_stop.ensures)
    (torn_holds text (setting_of c.args.site.form) (follows_get_att text c.args.site.form c.args.site.at) c.args.site.next c.args.builder.now c.take_scalar.new.builder c.in-Err.stop c.in-Err.ensures.holds)

pub returns-in-Err-clause-place : goal.returns-in-Err-clause-place
returns-in-Err-clause-place c = λ q h.
    torn_from c.args.text.now (setting_of c.args.site.form) c.args.site.next c.in-Err.stop c.torn_stop.result q c.torn_stop.ensures (error_of c.torn_stop.result q (Err c.torn_stop.result) refl h) (λ p e. c.in-Err.ensures.place p (ap Err e))
