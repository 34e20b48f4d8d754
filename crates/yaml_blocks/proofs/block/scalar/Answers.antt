use Rattle.std.proofs.Common.{◌+◌, ◌*◌, sym, ap, ◌∙◌, subst}
use Rattle.std.specs.Prelude.{Err}
use Rattle.yaml_grammar.specs.declared.stage.Stage.TheVariants as stage
use Rattle.yaml_grammar.specs.declared.stop.Stop.{Stop}
use Rattle.yaml_grammar.specs.code.ReadAgain.{NoneLonger, SignStays}
use Rattle.yaml_grammar.specs.code.Rest.{Awaits}
use Rattle.yaml_grammar.specs.code.Splits.{is_split}
use Rattle.yaml_grammar.specs.code.Steps.{Gives}
use Rattle.yaml_grammar.specs.code.Twins.{Lengthens, NoValue, Stops}
use Rattle.yaml_grammar.proofs.SplitPlaces.{split_again, split_gives}
use Rattle.yaml_grammar.proofs.SplitSites.{block_split_lengthens, block_split_stops}
use Rattle.yaml_blocks.proofs.block.scalar.Goals as goal

pub returns-in-Ok : goal.returns-in-Ok
returns-in-Ok c = λ fs awaited. let s = c.in-Ok.ensures fs awaited in record { gives = s.gives; fixes = s.fixes; opens = s.opens; stops = tt; longer = tt; extends = s.extends; again = λ starts. tt }

pub returns-in-Err : goal.returns-in-Err
returns-in-Err c = λ fs awaited. record {
  gives = λ other v same.
      let u = c.args.builder.now in
      let P = Awaits other fs u.outer u.done u.key c.args.site.at in
      subst (λ (e : Stop). Gives other P (2 * c.args.site.at + 1) fs c.scalar_there.new.builder (Err e)) (sym c.split_stop.ensures) (split_gives c.args.text.now c.is_split-split.result other P (2 * c.args.site.at + 1) fs c.scalar_there.new.builder c.in-Err.stop ((c.in-Err.ensures fs awaited).gives other v same));
  fixes = tt;
  opens = tt;
  stops =
      let text = c.args.text.now in
      let u = c.args.builder.now in
      subst (λ (e : Stop). Stops text c.args.site.at (NoValue c.args.site.at c.args.site.next c.args.site.form fs u) (Err e)) (sym c.split_stop.ensures) (block_split_stops text c.utf8.text fs u c.args.site.at c.args.site.form c.args.site.next awaited c.requires.starts c.requires.takes c.requires.no_key c.is_split-split.result c.in-Err.stop (c.is_split-split.ensures ∙ ap (λ n. is_split text n c.args.site.form c.args.site.at c.args.site.next.at) c.depth-depth.ensures) (c.in-Err.ensures fs awaited).runs (c.in-Err.ensures fs awaited).stops);
  longer =
      let text = c.args.text.now in
      let u = c.args.builder.now in
      subst (λ (e : Stop). Lengthens text stage.Value fs u c.args.site.at (Err e)) (sym c.split_stop.ensures) (block_split_lengthens text c.utf8.text fs u c.args.site.at c.args.site.form c.args.site.next awaited c.requires.starts c.requires.takes c.requires.no_key c.is_split-split.result c.in-Err.stop (c.is_split-split.ensures ∙ ap (λ n. is_split text n c.args.site.form c.args.site.at c.args.site.next.at) c.depth-depth.ensures) (c.in-Err.ensures fs awaited).runs (c.in-Err.ensures fs awaited).stops (c.in-Err.ensures fs awaited).longer);
  extends = tt;
  again = λ starts.
      let text = c.args.text.now in
      subst (λ (e : Stop). SignStays text stage.Value fs c.args.builder.now c.args.site.at (Err e)) (sym c.split_stop.ensures) (split_again text c.is_split-split.result (NoneLonger text stage.Value fs c.args.builder.now c.args.site.at) c.in-Err.stop ((c.in-Err.ensures fs awaited).again));
}
