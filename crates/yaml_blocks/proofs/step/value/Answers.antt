use Rattle.std.proofs.Common.{true, false, List, refl, sym, ap, subst, ◌∙◌}
use Rattle.yaml_grammar.specs.declared.form.Form.{Form}
use Rattle.yaml_grammar.specs.declared.stage.Stage.TheVariants as stage
use Rattle.yaml_grammar.specs.Ahead.{ahead}
use Rattle.yaml_grammar.specs.code.Rest.{top}
use Rattle.yaml_grammar.specs.code.Steps.{stack, IsBlock, IsFlow, IsSeen, IsBehind, SameStep}
use Rattle.yaml_grammar.specs.code.Twins.{FixesStep}
use Rattle.yaml_grammar.proofs.AwaitedNodes.{seen_near}
use Rattle.yaml_grammar.proofs.Fixed.{value_step, flow_value_step}
use Rattle.yaml_grammar.proofs.Forms.{flow_misses}
use Rattle.yaml_grammar.proofs.Placed.{placed}
use Rattle.yaml_grammar.proofs.SameTexts.{seen_alike}
use Rattle.yaml_grammar.proofs.Stopped.{flow_value_stops, value_stops}
use Rattle.yaml_grammar.proofs.Fed.{flow_value_feeds, block_feeds}
use Rattle.yaml_grammar.specs.code.Feeds.{FeedsStep}
use Rattle.yaml_grammar.proofs.Extended.{flow_extends, no_shuts}
use Rattle.yaml_grammar.specs.Nodes.{starts_scalar}
use Rattle.yaml_grammar.specs.code.ReadAgain.{NoneAwaited, NoneLonger}
use Rattle.yaml_grammar.proofs.FedSites.{again_from}
use Rattle.yaml_grammar.proofs.FedSteps.{flow_in, block_in}
use Rattle.std.proofs.Common.{◌≡◌}
use Rattle.yaml_grammar.proofs.Extended.{value_apart}
use Rattle.yaml_blocks.proofs.step.value.Goals as goal

pub returns-then-is_flow : goal.returns-then-is_flow
returns-then-is_flow c = record {
  gives = λ other utf8 cut fits same.
      let text = c.args.text.now in
      let at = c.args.at in
      let found = c.innermost-form.ensures ∙ ap (λ (x : List Form). top (stack x)) c.deref.ensures.value in
      let alike = (subst (λ (f : Form). SameStep text other stage.Value f at) (sym found) same).0 (c.is_flow.ensures.yes c.if-is_flow.true) in
      c.value.ensures.gives other (seen_alike text other true at utf8 cut alike.0) cut alike.1;
  fixes =
      let found = c.innermost-form.ensures ∙ ap (λ (x : List Form). top (stack x)) c.deref.ensures.value in
      subst (λ (f : Form). FixesStep c.args.text.now stage.Value f c.args.at c.value.result) found (flow_value_step c.args.text.now c.innermost-form.result c.args.at c.value.result (c.is_flow.ensures.yes c.if-is_flow.true) c.requires.boundary c.value.ensures.fixes);
  feeds =
      let found = c.innermost-form.ensures ∙ ap (λ (x : List Form). top (stack x)) c.deref.ensures.value in
      let gs = stack c.value.new.forms.items in
      subst (λ (f : Form). FeedsStep c.args.text.now stage.Value f c.args.at gs c.value.result) found (flow_value_feeds c.args.text.now c.innermost-form.result c.args.at gs c.value.result (c.is_flow.ensures.yes c.if-is_flow.true) c.value.ensures.feeds);
  stops = flow_value_stops c.args.text.now (stack c.args.forms.now.items) c.args.builder.now c.args.at c.value.result c.requires.boundary c.value.ensures.stops;
  longer = c.value.ensures.longer;
  extends = ((λ block. ((λ e. (let found = c.innermost-form.ensures ∙ ap (λ (x : List Form). top (stack x)) c.deref.ensures.value in flow_extends c.args.text.now (stack c.args.forms.now.items) (stack c.value.new.forms.items) c.args.builder.now c.value.new.builder c.args.at c.innermost-form.result c.value.result found (c.is_flow.ensures.yes c.if-is_flow.true)) block), (λ e. absurd (value_apart e)))), (λ flow. c.value.ensures.shuts));
  again = λ starts.
      let text = c.args.text.now in
      let at = c.args.at in
      let fs = stack c.args.forms.now.items in
      let u = c.args.builder.now in
      let found = c.innermost-form.ensures ∙ ap (λ (x : List Form). top (stack x)) c.deref.ensures.value in
      let flow = flow_in (top fs) (subst IsFlow found (c.is_flow.ensures.yes c.if-is_flow.true)) in
      again_from (NoneAwaited text fs u at) (NoneLonger text stage.Value fs u at) c.value.result (λ none other x cut fits t h. none other x t h) (c.value.ensures.again (subst (λ q. starts_scalar (ahead text q at).token ≡ true) flow starts));
}

pub returns : goal.returns
returns c = record {
  gives = λ other utf8 cut fits same.
      let text = c.args.text.now in
      let at = c.args.at in
      let found = c.innermost-form.ensures ∙ ap (λ (x : List Form). top (stack x)) c.deref.ensures.value in
      let seen : IsSeen text false at (ahead text false at) = (refl, placed text false at c.utf8.text c.requires.boundary) in
      let block = c.is_flow.ensures.no c.if-is_flow.false in
      let alike = (subst (λ (f : Form). SameStep text other stage.Value f at) (sym found) same).1 block in
      c.node.ensures.gives other (record { small = seen_near text at (ahead text false at) c.requires.small seen; boundary = cut; seen = seen_alike text other false at utf8 cut alike.0; form = sym found; block = block; fits = fits }) alike.1;
  fixes =
      let found = c.innermost-form.ensures ∙ ap (λ (x : List Form). top (stack x)) c.deref.ensures.value in
      subst (λ (f : Form). FixesStep c.args.text.now stage.Value f c.args.at c.node.result) found (value_step c.args.text.now c.innermost-form.result c.args.at c.node.result (c.is_flow.ensures.no c.if-is_flow.false) c.requires.boundary c.node.ensures.fixes);
  feeds =
      let found = c.innermost-form.ensures ∙ ap (λ (x : List Form). top (stack x)) c.deref.ensures.value in
      let gs = stack c.node.new.forms.items in
      subst (λ (f : Form). FeedsStep c.args.text.now stage.Value f c.args.at gs c.node.result) found (block_feeds c.args.text.now stage.Value c.innermost-form.result c.args.at gs c.node.result (c.is_flow.ensures.no c.if-is_flow.false) c.node.ensures.opens);
  stops =
      let text = c.args.text.now in
      let at = c.args.at in
      let found = c.innermost-form.ensures ∙ ap (λ (x : List Form). top (stack x)) c.deref.ensures.value in
      let small = seen_near text at (ahead text false at) c.requires.small (refl, placed text false at c.utf8.text c.requires.boundary) in
      value_stops text (stack c.args.forms.now.items) c.args.builder.now at c.node.result c.requires.boundary c.innermost-form.result small (sym found) (c.is_flow.ensures.no c.if-is_flow.false) c.node.ensures.stops;
  longer = c.node.ensures.longer;
  extends = ((λ block. ((λ e. (c.node.ensures.extends)), (λ e. absurd (value_apart e)))), (λ flow. let found = c.innermost-form.ensures ∙ ap (λ (x : List Form). top (stack x)) c.deref.ensures.value in no_shuts c.args.text.now (stack c.args.forms.now.items) (stack c.node.new.forms.items) c.args.at c.innermost-form.result c.node.result found (c.is_flow.ensures.no c.if-is_flow.false) flow));
  again = λ starts.
      let fs = stack c.args.forms.now.items in
      let found = c.innermost-form.ensures ∙ ap (λ (x : List Form). top (stack x)) c.deref.ensures.value in
      let block = block_in (top fs) (subst IsBlock found (c.is_flow.ensures.no c.if-is_flow.false)) in
      c.node.ensures.again (subst (λ q. starts_scalar (ahead c.args.text.now q c.args.at).token ≡ true) block starts);
}

pub value-requires-clause-misses : goal.value-requires-clause-misses
value-requires-clause-misses c =
    let found = c.innermost-form.ensures ∙ ap (λ (x : List Form). top (stack x)) c.deref.ensures.value in
    flow_misses c.innermost-form.result (c.is_flow.ensures.yes c.if-is_flow.true) (λ e. c.requires.fits.1 (sym found ∙ e))

pub value-requires-clause-behind : goal.value-requires-clause-behind
value-requires-clause-behind c =
    let found = c.innermost-form.ensures ∙ ap (λ (x : List Form). top (stack x)) c.deref.ensures.value in
    subst (λ (f : Form). IsBehind f c.args.at) (sym found) c.requires.fits.3

pub node-requires-clause-boundary : goal.node-requires-clause-boundary
node-requires-clause-boundary c = c.requires.boundary

pub value-requires-clause-boundary : goal.value-requires-clause-boundary
value-requires-clause-boundary c = c.requires.boundary
