use Rattle.std.proofs.Common.{◌+◌, ◌*◌, sym, ap, ◌∙◌, subst}
use Rattle.std.specs.Prelude.{Err}
use Rattle.yaml_grammar.specs.declared.stop.Stop.{Stop}
use Rattle.yaml_grammar.specs.code.ReadAgain.{NoneAwaited, OnSign}
use Rattle.yaml_grammar.specs.code.Rest.{Awaits}
use Rattle.yaml_grammar.specs.code.Splits.{is_split}
use Rattle.yaml_grammar.specs.code.Steps.{stack, Gives}
use Rattle.yaml_grammar.specs.code.Twins.{MendsNode, NoFlowValue, OnUnread, Stops}
use Rattle.yaml_grammar.proofs.SplitPlaces.{split_again, split_gives}
use Rattle.yaml_grammar.proofs.SplitSites.{flow_split_mends, flow_split_stops}
use Rattle.yaml_steps.proofs.flow.scalar.Goals as goal

pub returns-in-Ok : goal.returns-in-Ok
returns-in-Ok c = let s = c.in-Ok.ensures in record { gives = s.gives; fixes = s.fixes; feeds = s.feeds; shuts = s.shuts; stops = tt; longer = tt; again = λ starts. tt }

pub returns-in-Err : goal.returns-in-Err
returns-in-Err c = record {
  gives = λ other seen same.
      let fs = stack c.args.forms.now in
      let u = c.args.builder.now in
      let P = Awaits other fs u.outer u.done u.key c.args.site.at in
      subst (λ (e : Stop). Gives other P (2 * c.args.site.at + 2) fs c.scalar_there.new.builder (Err e)) (sym c.split_stop.ensures) (split_gives c.args.text.now c.is_split-split.result other P (2 * c.args.site.at + 2) fs c.scalar_there.new.builder c.in-Err.stop (c.in-Err.ensures.gives other seen same));
  fixes = tt;
  feeds = tt;
  shuts = tt;
  stops =
      let text = c.args.text.now in
      let fs = stack c.args.forms.now in
      let u = c.args.builder.now in
      subst (λ (e : Stop). Stops text c.args.site.at (NoFlowValue c.args.site.at c.args.site.next fs u) (Err e)) (sym c.split_stop.ensures) (flow_split_stops text c.utf8.text fs u c.args.site.at c.args.site.form c.args.site.next c.requires.seen c.requires.starts c.requires.unsigned c.requires.there c.requires.form c.requires.flow c.requires.behind c.requires.open c.requires.awaited c.requires.boundary c.is_split-split.result c.in-Err.stop (c.is_split-split.ensures ∙ ap (λ n. is_split text n c.args.site.form c.args.site.at c.args.site.next.at) c.depth-depth.ensures) c.in-Err.ensures.runs c.in-Err.ensures.stops);
  longer =
      let text = c.args.text.now in
      let fs = stack c.args.forms.now in
      let u = c.args.builder.now in
      subst (λ (e : Stop). OnUnread (MendsNode text fs u c.args.site.at) (Err e)) (sym c.split_stop.ensures) (flow_split_mends text c.utf8.text fs u c.args.site.at c.args.site.form c.args.site.next c.requires.seen c.requires.starts c.requires.unsigned c.requires.there c.requires.form c.requires.flow c.requires.behind c.requires.open c.requires.awaited c.requires.boundary c.is_split-split.result c.in-Err.stop (c.is_split-split.ensures ∙ ap (λ n. is_split text n c.args.site.form c.args.site.at c.args.site.next.at) c.depth-depth.ensures) c.in-Err.ensures.runs c.in-Err.ensures.stops c.in-Err.ensures.longer);
  again = λ starts.
      let text = c.args.text.now in
      let fs = stack c.args.forms.now in
      subst (λ (e : Stop). OnSign (NoneAwaited text fs c.args.builder.now c.args.site.at) (Err e)) (sym c.split_stop.ensures) (split_again text c.is_split-split.result (NoneAwaited text fs c.args.builder.now c.args.site.at) c.in-Err.stop c.in-Err.ensures.again);
}

pub scalar_there-requires-clause-boundary : goal.scalar_there-requires-clause-boundary
scalar_there-requires-clause-boundary c = c.requires.boundary
