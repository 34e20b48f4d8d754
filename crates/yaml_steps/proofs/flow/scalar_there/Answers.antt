use Rattle.std.proofs.Common.{true, inl, refl, sym, subst, ◌∙◌, arith}
use Rattle.std.proofs.lemmas.Grind.{common_steps}
use Rattle.std.specs.Prelude.{Ok, Err}
use Rattle.yaml_grammar.specs.Nodes.{follows_get_att, is_tagged, setting_of}
use Rattle.yaml_grammar.specs.code.Steps.{stack, IsFlow}
use Rattle.yaml_grammar.specs.code.Splits.{InRoom, RunsOn}
use Rattle.yaml_grammar.specs.code.Twins.{MendsNode, NoFlowValue}
use Rattle.yaml_grammar.proofs.Extended.{inner_shuts}
use Rattle.yaml_grammar.proofs.Fixed.{flow_scalar_fixes}
use Rattle.yaml_grammar.proofs.Fed.{scalar_feeds}
use Rattle.yaml_grammar.proofs.FedSites.{flow_scalar_again}
use Rattle.yaml_grammar.proofs.FlowLengthens.{word_mends}
use Rattle.yaml_grammar.proofs.OtherStops.{unread_on}
use Rattle.yaml_grammar.proofs.PointedScalars.{pointed_gives, pointed_mends, word_gives}
use Rattle.yaml_grammar.proofs.SplitSites.{pointed_runs, runs_fail, word_within}
use Rattle.yaml_grammar.proofs.StoppedScalars.{no_flow_value, scalar_stops}
use Rattle.yaml_steps.proofs.flow.scalar_there.Goals as goal

pub returns-in-Err : goal.returns-in-Err
returns-in-Err c = record {
  gives = word_gives c.args.text.now (stack c.args.forms.now) c.args.builder.now c.take_scalar.new.builder c.args.site.form c.args.site.at c.args.site.next c.requires.form c.requires.flow c.requires.open c.requires.starts c.requires.unsigned c.requires.there (Err c.in-Err.stop) c.in-Err.ensures.holds;
  fixes = tt;
  feeds = tt;
  shuts = tt;
  stops =
      let fs = stack c.args.forms.now in
      scalar_stops c.args.text.now (setting_of c.args.site.form) true c.args.site.at c.args.site.next (NoFlowValue c.args.site.at c.args.site.next (stack c.args.forms.now) c.args.builder.now) c.requires.seen.0 c.requires.starts (λ other none. no_flow_value other fs c.args.builder.now c.args.site.form (is_tagged c.args.site.form) c.args.site.at c.args.site.next c.requires.starts c.requires.form c.requires.flow c.requires.open refl c.requires.unsigned c.requires.there none) (Err c.in-Err.stop) c.in-Err.ensures.place;
  longer =
      let text = c.args.text.now in
      let fs = stack c.args.forms.now in
      unread_on (InRoom text c.args.builder.now c.args.site.form c.args.site.at c.args.site.next (MendsNode text fs c.args.builder.now c.args.site.at)) (Err c.in-Err.stop) (λ q h. word_mends text c.utf8.text fs c.args.builder.now c.args.site.at c.requires.boundary c.args.site.form c.args.site.next q c.requires.seen.0 c.requires.form c.requires.flow c.requires.open c.requires.starts (c.in-Err.ensures.place q h));
  runs =
      let text = c.args.text.now in
      unread_on (RunsOn text true (setting_of c.args.site.form) c.args.site.next) (Err c.in-Err.stop) (λ q h. runs_fail text true (setting_of c.args.site.form) c.args.site.next c.requires.starts q (word_within text true c.args.site.at c.args.site.next c.requires.seen.0 c.requires.starts) (c.in-Err.ensures.place q h));
  again = flow_scalar_again c.args.text.now (stack c.args.forms.now) c.args.builder.now c.take_scalar.new.builder c.args.site.form (is_tagged c.args.site.form) c.args.site.at c.args.site.next (Err c.in-Err.stop) c.requires.seen c.requires.boundary c.requires.starts c.requires.form c.requires.flow c.requires.behind c.requires.open refl c.requires.unsigned c.requires.there c.in-Err.ensures.holds;
}

pub returns-then-is_pointed : goal.returns-then-is_pointed
returns-then-is_pointed c = record {
  gives = pointed_gives c.args.text.now (stack c.args.forms.now) c.args.builder.now c.take_scalar.new.builder c.args.site.form c.args.site.at c.args.site.next c.requires.form c.requires.flow c.requires.open c.requires.starts c.requires.unsigned c.requires.there c.in-Ok.position c.in-Ok.ensures.holds (sym c.is_pointed.ensures ∙ c.if-is_pointed.true);
  fixes = tt;
  feeds = tt;
  shuts = tt;
  stops = inl (inl c.offset.ensures);
  longer = pointed_mends c.args.text.now c.utf8.text (stack c.args.forms.now) c.args.builder.now c.args.site.at c.requires.boundary c.args.site.form c.args.site.next (follows_get_att c.args.text.now c.args.site.form c.args.site.at) c.take_scalar.new.builder c.in-Ok.position c.offset.result c.requires.seen.0 c.requires.form c.requires.flow c.requires.open c.in-Ok.ensures.holds (sym c.is_pointed.ensures ∙ c.if-is_pointed.true) c.offset.ensures;
  runs = pointed_runs c.args.text.now true (setting_of c.args.site.form) (follows_get_att c.args.text.now c.args.site.form c.args.site.at) c.args.site.next c.args.builder.now c.take_scalar.new.builder c.in-Ok.position c.offset.result c.in-Ok.ensures.holds (sym c.is_pointed.ensures ∙ c.if-is_pointed.true);
  again = tt;
}

pub returns : goal.returns
returns c = record {
  gives = word_gives c.args.text.now (stack c.args.forms.now) c.args.builder.now c.take_scalar.new.builder c.args.site.form c.args.site.at c.args.site.next c.requires.form c.requires.flow c.requires.open c.requires.starts c.requires.unsigned c.requires.there (Ok c.in-Ok.position) c.in-Ok.ensures.holds;
  fixes = flow_scalar_fixes c.args.text.now c.args.site.form c.args.site.at c.args.site.next (follows_get_att c.args.text.now c.args.site.form c.args.site.at) c.args.builder.now c.take_scalar.new.builder c.in-Ok.position c.requires.seen c.requires.boundary c.requires.flow c.requires.behind c.in-Ok.ensures.holds (sym c.is_pointed.ensures ∙ c.if-is_pointed.false);
  feeds = scalar_feeds c.args.text.now c.args.site.at c.args.site.next c.requires.seen c.requires.boundary c.args.site.form (follows_get_att c.args.text.now c.args.site.form c.args.site.at) c.args.builder.now c.take_scalar.new.builder c.in-Ok.position c.requires.flow c.requires.behind c.in-Ok.ensures.holds (sym c.is_pointed.ensures ∙ c.if-is_pointed.false);
  shuts = inner_shuts c.args.text.now c.args.site.at (stack c.args.forms.now) (Ok c.in-Ok.position) (subst IsFlow (sym c.requires.form) c.requires.flow);
  stops = tt;
  longer = tt;
  runs = tt;
  again = tt;
}

pub take_scalar-requires-clause-form : goal.take_scalar-requires-clause-form
take_scalar-requires-clause-form c = grind (arith, common_steps)
