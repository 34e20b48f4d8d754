use Rattle.doc_values.specs.declared.kind.Kind.TheVariants as kind
use Rattle.std.proofs.Common.{true, sym, subst, ◌∙◌, arith, ◌+◌, ◌*◌, []}
use Rattle.yaml_grammar.specs.declared.ahead.Ahead.{Ahead}
use Rattle.yaml_grammar.specs.code.Rest.{Awaits}
use Rattle.yaml_grammar.specs.code.Steps.{stack, IsSeen, SameFlowNode, IsFlow}
use Rattle.yaml_grammar.proofs.Gains.{flow_spot, null_gives, sooner}
use Rattle.yaml_grammar.proofs.Fixed.{flow_null_fixes}
use Rattle.yaml_grammar.specs.code.Twins.{Stops, NoFlowValue, FixesFlowNode}
use Rattle.doc_values.specs.Unfinished.{with_value}
use Rattle.yaml_grammar.specs.Ahead.{ahead}
use Rattle.yaml_grammar.proofs.Stopped.{completed_stops}
use Rattle.yaml_grammar.proofs.Fed.{null_feeds}
use Rattle.yaml_grammar.specs.code.Feeds.{FeedsFlowNode}
use Rattle.yaml_grammar.proofs.OtherStops.{completed_on}
use Rattle.yaml_grammar.specs.code.Twins.{LengthensAt}
use Rattle.yaml_grammar.specs.declared.stage.Stage.TheVariants as stage
use Rattle.yaml_grammar.proofs.FlowLengthens.{value_lengthens}
use Rattle.yaml_grammar.proofs.Extended.{inner_shuts}
use Rattle.yaml_grammar.proofs.FedSites.{completed_again}
use Rattle.yaml_grammar.specs.Nodes.{starts_scalar}
use Rattle.yaml_grammar.specs.code.ReadAgain.{NoneAwaited, OnSign}
use Rattle.std.proofs.Common.{◌≡◌}
use Rattle.yaml_steps.proofs.flow.value.Goals as goal

pub returns : goal.returns
returns c = record {
  gives = λ text seen cut node.
      let now = subst (λ (a : Ahead). IsSeen text true c.args.site.at a) (sym c.requires.seen.0) seen in
      let u = c.args.builder.now in
      sooner text (Awaits text (stack c.args.forms.now.items) u.outer u.done u.key c.args.site.at) (2 * c.args.site.at + 2) (2 * c.args.site.at + 1) (stack c.node.new.forms.items) c.node.new.builder c.node.result (omega arith) (c.node.ensures.gives text now (subst (λ (a : Ahead). SameFlowNode c.args.text.now text c.args.site.form c.args.site.at a) (sym c.requires.seen.0) node));
  fixes = subst (λ (a : Ahead). FixesFlowNode c.args.text.now c.args.site.form c.args.site.at a c.node.result) c.requires.seen.0 (c.node.ensures.fixes);
  feeds = subst (λ (a : Ahead). FeedsFlowNode c.args.text.now c.args.site.form c.args.site.at a c.node.result) c.requires.seen.0 c.node.ensures.feeds;
  shuts = c.node.ensures.shuts;
  stops = subst (λ (a : Ahead). Stops c.args.text.now c.args.site.at (NoFlowValue c.args.site.at a (stack c.args.forms.now.items) c.args.builder.now) c.node.result) c.requires.seen.0 c.node.ensures.stops;
  longer = value_lengthens c.args.text.now c.utf8.text (stack c.args.forms.now.items) c.args.builder.now c.args.site.at c.requires.boundary c.args.site.form c.args.site.next c.node.result c.requires.seen.0 c.requires.form c.requires.flow c.requires.misses c.requires.behind c.requires.open c.requires.awaited (sym c.is_flow_ending.ensures ∙ c.if-is_flow_ending.false) c.node.ensures.longer;
  again = subst (λ (a : Ahead). starts_scalar a.token ≡ true → OnSign (NoneAwaited c.args.text.now (stack c.args.forms.now.items) c.args.builder.now c.args.site.at) c.node.result) c.requires.seen.0 c.node.ensures.again;
}

pub returns-then-is_flow_ending : goal.returns-then-is_flow_ending
returns-then-is_flow_ending c = record {
  gives = λ text seen cut node.
      let now = subst (λ (a : Ahead). IsSeen text true c.args.site.at a) (sym c.requires.seen.0) seen in
      let fs = stack c.args.forms.now.items in
      let u = c.args.builder.now in
      null_gives text fs u c.take_null.new.builder c.args.site.form c.args.site.at c.args.site.next c.take_null.result now.0 (flow_spot text fs u c.args.site.form c.args.site.at c.args.site.next now c.requires.form c.requires.flow c.requires.open) cut c.requires.misses (sym c.is_flow_ending.ensures ∙ c.if-is_flow_ending.true) c.take_null.ensures;
  fixes = subst (λ (a : Ahead). FixesFlowNode c.args.text.now c.args.site.form c.args.site.at a c.take_null.result) c.requires.seen.0 (flow_null_fixes c.args.text.now c.args.site.form c.args.site.at c.args.site.next (with_value kind.Null [] c.args.site.at c.args.builder.now) c.take_null.new.builder c.take_null.result c.requires.seen c.requires.boundary c.requires.behind (sym c.is_flow_ending.ensures ∙ c.if-is_flow_ending.true) c.take_null.ensures);
  feeds = subst (λ (a : Ahead). FeedsFlowNode c.args.text.now c.args.site.form c.args.site.at a c.take_null.result) c.requires.seen.0 (null_feeds c.args.text.now c.args.site.at c.args.site.next c.requires.seen c.requires.boundary c.args.site.form (with_value kind.Null [] c.args.site.at c.args.builder.now) c.take_null.new.builder c.take_null.result c.requires.behind (sym c.is_flow_ending.ensures ∙ c.if-is_flow_ending.true) c.take_null.ensures);
  shuts = inner_shuts c.args.text.now c.args.site.at (stack c.args.forms.now.items) c.take_null.result (subst IsFlow (sym c.requires.form) c.requires.flow);
  stops = completed_stops c.args.text.now c.args.site.at (NoFlowValue c.args.site.at (ahead c.args.text.now true c.args.site.at) (stack c.args.forms.now.items) c.args.builder.now) c.args.site.at (with_value kind.Null [] c.args.site.at c.args.builder.now) c.take_null.new.builder c.take_null.result c.take_null.ensures;
  longer = completed_on (LengthensAt c.args.text.now stage.Value (stack c.args.forms.now.items) c.args.builder.now c.args.site.at) c.args.site.at (with_value kind.Null [] c.args.site.at c.args.builder.now) c.take_null.new.builder c.take_null.result c.take_null.ensures;
  again = λ starts. completed_again (NoneAwaited c.args.text.now (stack c.args.forms.now.items) c.args.builder.now c.args.site.at) c.args.site.at (with_value kind.Null [] c.args.site.at c.args.builder.now) c.take_null.new.builder c.take_null.result c.take_null.ensures;
}

pub node-requires-clause-boundary : goal.node-requires-clause-boundary
node-requires-clause-boundary c = c.requires.boundary
