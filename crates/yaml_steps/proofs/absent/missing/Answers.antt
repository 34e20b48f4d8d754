use Rattle.doc_values.specs.declared.kind.Kind.TheVariants as kind
use Rattle.std.proofs.Common.{arith, [], false}
use Rattle.std.proofs.lemmas.Grind.{common_steps}
use Rattle.yaml_grammar.proofs.BlockGains.{missing_gives, no_root, spot_of}
use Rattle.yaml_grammar.proofs.Fixed.{missing_fixes}
use Rattle.yaml_grammar.proofs.AwaitedNodes.{place_behind}
use Rattle.doc_values.specs.Unfinished.{with_value}
use Rattle.yaml_grammar.specs.code.Twins.{NoValue, LengthensAt}
use Rattle.yaml_grammar.proofs.Stopped.{last_told_stops, completed_stops}
use Rattle.yaml_grammar.specs.Signs.{Tree}
use Rattle.yaml_grammar.proofs.AwaitedNodes.{seen_place}
use Rattle.yaml_grammar.proofs.OtherStops.{completed_on}
use Rattle.yaml_grammar.proofs.LastNodes.{root_going, missing_lengthens}
use Rattle.yaml_grammar.specs.declared.stage.Stage.TheVariants as stage
use Rattle.yaml_grammar.proofs.Opens.{form_opening}
use Rattle.yaml_grammar.proofs.Extended.{missing_extends}
use Rattle.yaml_grammar.proofs.FedSites.{completed_again}
use Rattle.yaml_grammar.specs.code.ReadAgain.{NoneLonger}
use Rattle.yaml_steps.proofs.absent.missing.Goals as goal

pub returns-in-Root : goal.returns-in-Root
returns-in-Root c = λ fs awaited. record {
  gives = λ text w same. no_root text fs c.args.builder.now c.args.site.at c.args.site.next c.args.site.form w.seen.0 w.form c.in-Root.is c.requires.none c.requires.unsigned;
  fixes = tt;
  opens = tt;
  stops =
      let u = c.args.builder.now in
      last_told_stops c.args.text.now c.args.site.at (NoValue c.args.site.at c.args.site.next c.args.site.form fs c.args.builder.now) false c.args.site.next c.last_told.result awaited.seen.0 (root_going c.args.text.now fs u c.args.site.at c.args.site.next c.args.site.form awaited c.in-Root.is) c.last_told.ensures (λ text w v h. no_root text fs u c.args.site.at c.args.site.next c.args.site.form w.seen.0 w.form c.in-Root.is c.requires.none c.requires.unsigned (Tree v) h);
  longer = missing_lengthens c.args.text.now c.utf8.text fs c.args.builder.now c.args.site.at awaited.boundary c.args.site.form c.args.site.next c.last_told.result awaited c.in-Root.is c.requires.none c.requires.unsigned c.last_told.ensures;
  extends = tt;
  again = λ starts. tt;
}

pub returns-in_default : goal.returns-in_default
returns-in_default c = λ fs awaited. record {
  gives = λ text w same.
      let u = c.args.builder.now in
      missing_gives text fs u c.take_null.new.builder c.args.site.form c.args.site.at c.args.site.next c.take_null.result w.seen.0 w.boundary (spot_of text fs u c.args.site.form c.args.site.at c.args.site.next w) c.requires.none c.requires.unsigned c.in_default.not-Root c.requires.once c.take_null.ensures;
  fixes = missing_fixes c.args.text.now c.args.site.form c.args.site.at c.args.site.next (with_value kind.Null [] c.args.site.at c.args.builder.now) c.take_null.new.builder c.take_null.result awaited.seen awaited.boundary (place_behind c.args.text.now fs c.args.builder.now c.args.site.form c.args.site.at c.args.site.next awaited) c.requires.none awaited.block c.in_default.not-Root c.take_null.ensures;
  opens = form_opening fs c.args.site.form c.take_null.result awaited.form awaited.block;
  stops = completed_stops c.args.text.now c.args.site.at (NoValue c.args.site.at c.args.site.next c.args.site.form fs c.args.builder.now) c.args.site.at (with_value kind.Null [] c.args.site.at c.args.builder.now) c.take_null.new.builder c.take_null.result c.take_null.ensures;
  longer = completed_on (LengthensAt c.args.text.now stage.Value fs c.args.builder.now c.args.site.at) c.args.site.at (with_value kind.Null [] c.args.site.at c.args.builder.now) c.take_null.new.builder c.take_null.result c.take_null.ensures;
  extends = missing_extends c.args.text.now fs c.args.builder.now c.take_null.new.builder c.args.site.form c.args.site.at c.args.site.next c.take_null.result c.utf8.text awaited c.requires.none c.requires.unsigned c.requires.once c.in_default.not-Root c.requires.late c.take_null.ensures;
  again = λ starts. completed_again (NoneLonger c.args.text.now stage.Value fs c.args.builder.now c.args.site.at) c.args.site.at (with_value kind.Null [] c.args.site.at c.args.builder.now) c.take_null.new.builder c.take_null.result c.take_null.ensures;
}

pub take_null-requires : goal.take_null-requires
take_null-requires c = grind (arith, common_steps)

pub last_told-requires-clause-within : goal.last_told-requires-clause-within
last_told-requires-clause-within c = seen_place c.args.text.now c.args.site.at c.args.site.next c.requires.awaited.1.seen
