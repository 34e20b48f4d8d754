use Rattle.std.proofs.Common.{false, inl, sym, ◌∙◌}
use Rattle.std.specs.Prelude.{Ok, Err}
use Rattle.yaml_grammar.specs.declared.stage.Stage.TheVariants as stage
use Rattle.yaml_grammar.specs.Nodes.{follows_get_att, setting_of}
use Rattle.yaml_grammar.specs.code.Splits.{InRoom, RunsOn}
use Rattle.yaml_grammar.specs.code.Twins.{NoValue, LengthensAt}
use Rattle.yaml_grammar.proofs.AwaitedNodes.{place_behind, small_form, value_awaited}
use Rattle.yaml_grammar.proofs.BlockPointed.{line_gives, line_mends, pointed_line}
use Rattle.yaml_grammar.proofs.Extended.{scalar_extends}
use Rattle.yaml_grammar.proofs.Fixed.{scalar_fixes}
use Rattle.yaml_grammar.proofs.LastNodes.{scalar_lengthens}
use Rattle.yaml_grammar.proofs.Opens.{form_opening}
use Rattle.yaml_grammar.proofs.OtherStops.{unread_on}
use Rattle.yaml_grammar.proofs.SplitSites.{pointed_runs, torn_runs, word_within}
use Rattle.yaml_grammar.proofs.StoppedScalars.{failed_stops, no_value}
use Rattle.yaml_grammar.proofs.TornDashes.{torn_lengthens, torn_stops}
use Rattle.yaml_grammar.proofs.FedSites.{scalar_again}
use Rattle.yaml_steps.proofs.openings.scalar_there.Goals as goal

pub returns-in-Err : goal.returns-in-Err
returns-in-Err c = λ fs awaited. record {
  gives = line_gives c.args.text.now fs c.args.builder.now c.take_block_scalar.new.builder c.args.site.form c.args.site.at c.args.site.next c.requires.starts c.requires.takes c.requires.no_key (Err c.in-Err.stop) c.in-Err.ensures.holds;
  fixes = tt;
  opens = tt;
  stops = torn_stops c.args.text.now c.utf8.text fs c.args.builder.now c.args.site.at c.args.site.form c.args.site.next awaited c.requires.starts c.requires.takes (Err c.in-Err.stop) (failed_stops c.args.text.now (setting_of c.args.site.form) false c.args.site.at c.args.site.next (NoValue c.args.site.at c.args.site.next c.args.site.form fs c.args.builder.now) awaited.seen.0 c.requires.starts (λ other none. no_value other fs c.args.builder.now c.args.site.form c.args.site.at c.args.site.next c.requires.starts c.requires.takes none)) c.in-Err.ensures.place;
  longer =
      let text = c.args.text.now in
      unread_on (InRoom text c.args.builder.now c.args.site.form c.args.site.at c.args.site.next (LengthensAt text stage.Value fs c.args.builder.now c.args.site.at)) (Err c.in-Err.stop) (λ q h room. torn_lengthens text c.utf8.text fs c.args.builder.now c.args.site.at c.args.site.form c.args.site.next awaited c.requires.starts c.requires.takes q (c.in-Err.ensures.place q h) (λ p is failed un. scalar_lengthens text c.utf8.text fs c.args.builder.now c.args.site.at awaited.boundary c.args.site.form c.args.site.next p awaited c.requires.starts c.requires.takes failed un (λ k. room (is ∙ k))));
  runs =
      let text = c.args.text.now in
      unread_on (RunsOn text false (setting_of c.args.site.form) c.args.site.next) (Err c.in-Err.stop) (λ q h. torn_runs text (setting_of c.args.site.form) c.args.site.next c.requires.starts (word_within text false c.args.site.at c.args.site.next awaited.seen.0 c.requires.starts) q (c.in-Err.ensures.place q h));
  extends = tt;
  again = scalar_again c.args.text.now fs c.args.builder.now c.take_block_scalar.new.builder c.args.site.form c.args.site.at c.args.site.next (Err c.in-Err.stop) awaited c.requires.starts c.requires.takes c.requires.no_key c.in-Err.ensures.holds;
}

pub returns-then-is_pointed : goal.returns-then-is_pointed
returns-then-is_pointed c = λ fs awaited. record {
  gives = pointed_line c.args.text.now fs c.args.builder.now c.take_block_scalar.new.builder c.args.site.form c.args.site.at c.args.site.next c.requires.starts c.requires.takes c.requires.no_key c.in-Ok.position c.in-Ok.ensures.holds (sym c.is_pointed.ensures ∙ c.if-is_pointed.true);
  fixes = tt;
  opens = tt;
  stops = inl (inl c.offset.ensures);
  longer = line_mends c.args.text.now c.utf8.text fs c.args.builder.now c.args.site.at awaited.boundary c.args.site.form c.args.site.next (follows_get_att c.args.text.now c.args.site.form c.args.site.at) c.take_block_scalar.new.builder c.in-Ok.position c.offset.result awaited c.requires.takes c.in-Ok.ensures.holds (sym c.is_pointed.ensures ∙ c.if-is_pointed.true) c.offset.ensures;
  runs = pointed_runs c.args.text.now false (setting_of c.args.site.form) (follows_get_att c.args.text.now c.args.site.form c.args.site.at) c.args.site.next c.args.builder.now c.take_block_scalar.new.builder c.in-Ok.position c.offset.result c.in-Ok.ensures.holds (sym c.is_pointed.ensures ∙ c.if-is_pointed.true);
  extends = tt;
  again = tt;
}

pub returns : goal.returns
returns c = λ fs awaited. record {
  gives = line_gives c.args.text.now fs c.args.builder.now c.take_block_scalar.new.builder c.args.site.form c.args.site.at c.args.site.next c.requires.starts c.requires.takes c.requires.no_key (Ok c.in-Ok.position) c.in-Ok.ensures.holds;
  fixes = scalar_fixes c.args.text.now c.args.site.form c.args.site.at c.args.site.next (follows_get_att c.args.text.now c.args.site.form c.args.site.at) c.args.builder.now c.take_block_scalar.new.builder c.in-Ok.position c.utf8.text awaited.seen awaited.boundary (place_behind c.args.text.now fs c.args.builder.now c.args.site.form c.args.site.at c.args.site.next awaited) awaited.block c.requires.no_key c.in-Ok.ensures.holds (sym c.is_pointed.ensures ∙ c.if-is_pointed.false);
  opens = form_opening fs c.args.site.form (Ok c.in-Ok.position) awaited.form awaited.block;
  stops = tt;
  longer = tt;
  runs = tt;
  extends = scalar_extends c.args.text.now fs c.args.builder.now c.take_block_scalar.new.builder c.args.site.form c.args.site.at c.args.site.next (follows_get_att c.args.text.now c.args.site.form c.args.site.at) c.in-Ok.position c.utf8.text awaited c.requires.no_key c.in-Ok.ensures.holds (sym c.is_pointed.ensures ∙ c.if-is_pointed.false) (line_gives c.args.text.now fs c.args.builder.now c.take_block_scalar.new.builder c.args.site.form c.args.site.at c.args.site.next c.requires.starts c.requires.takes c.requires.no_key (Ok c.in-Ok.position) c.in-Ok.ensures.holds);
  again = tt;
}

pub take_block_scalar-requires-clause-form : goal.take_block_scalar-requires-clause-form
take_block_scalar-requires-clause-form c = small_form c.args.text.now c.requires.awaited.0 c.args.builder.now c.args.site.form c.args.site.at c.args.site.next c.requires.awaited.1

pub take_block_scalar-requires-clause-behind : goal.take_block_scalar-requires-clause-behind
take_block_scalar-requires-clause-behind c = place_behind c.args.text.now c.requires.awaited.0 c.args.builder.now c.args.site.form c.args.site.at c.args.site.next c.requires.awaited.1

pub take_block_scalar-requires-clause-awaited : goal.take_block_scalar-requires-clause-awaited
take_block_scalar-requires-clause-awaited c = value_awaited c.args.text.now c.requires.awaited.0 c.args.builder.now c.args.site.form c.args.site.at c.args.site.next c.requires.awaited.1
