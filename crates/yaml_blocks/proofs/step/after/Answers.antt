use Rattle.std.proofs.Common.{List, true, false, sym, ap, ◌∙◌, subst}
use Rattle.yaml_grammar.specs.declared.form.Form.{Form}
use Rattle.yaml_grammar.specs.code.Rest.{top}
use Rattle.yaml_grammar.specs.code.Steps.{stack, IsFlow, IsBlock}
use Rattle.yaml_grammar.proofs.Forms.{block_of}
use Rattle.yaml_grammar.proofs.SameTexts.{seen_alike}
use Rattle.yaml_grammar.proofs.Fixed.{after_step, flow_after_step}
use Rattle.yaml_grammar.proofs.Stopped.{tail_stops, line_stops}
use Rattle.yaml_grammar.specs.code.Twins.{FixesStep}
use Rattle.yaml_grammar.specs.declared.stage.Stage.TheVariants as stage
use Rattle.yaml_grammar.proofs.Fed.{flow_after_feeds, block_feeds}
use Rattle.yaml_grammar.specs.code.Feeds.{FeedsStep}
use Rattle.yaml_grammar.proofs.Fixed.{apart}
use Rattle.yaml_grammar.proofs.Extended.{no_shuts}
use Rattle.yaml_grammar.specs.Ahead.{ahead}
use Rattle.yaml_grammar.specs.Nodes.{starts_scalar}
use Rattle.yaml_grammar.specs.code.ReadAgain.{NoneBehind, NoneLonger}
use Rattle.yaml_grammar.proofs.FedSites.{again_from, tail_again}
use Rattle.yaml_grammar.proofs.FedSteps.{flow_in, block_in}
use Rattle.std.proofs.Common.{◌≡◌, ◌+◌, ◌*◌, refl}
use Rattle.yaml_grammar.proofs.Placed.{placed}
use Rattle.yaml_grammar.proofs.Extended.{value_apart}
use Rattle.yaml_blocks.proofs.step.after.Goals as goal

pub returns-in-Flow : goal.returns-in-Flow
returns-in-Flow c = record {
  gives = λ other utf8 cut fits same.
      let found = c.innermost.ensures ∙ ap (λ (x : List Form). top (stack x)) c.deref.ensures.value in
      let flow = subst IsFlow (sym c.in-Flow.is ∙ found) tt in
      c.after.ensures.gives other (seen_alike c.args.text.now other true c.args.at utf8 cut (same.0 flow));
  fixes =
      let found = c.innermost.ensures ∙ ap (λ (x : List Form). top (stack x)) c.deref.ensures.value in
      subst (λ (f : Form). FixesStep c.args.text.now stage.After f c.args.at c.after.result) found (flow_after_step c.args.text.now c.innermost.result c.args.at c.after.result (subst IsFlow (sym c.in-Flow.is) tt) c.requires.boundary c.after.ensures.fixes);
  feeds =
      let found = c.innermost.ensures ∙ ap (λ (x : List Form). top (stack x)) c.deref.ensures.value in
      let gs = stack c.after.new.forms.items in
      subst (λ (f : Form). FeedsStep c.args.text.now stage.After f c.args.at gs c.after.result) found (flow_after_feeds c.args.text.now c.innermost.result c.args.at gs c.after.result (subst IsFlow (sym c.in-Flow.is) tt) c.after.ensures.feeds);
  stops = tail_stops c.args.text.now (stack c.args.forms.now.items) c.args.builder.now c.args.at c.after.result c.requires.boundary c.after.ensures.stops;
  longer = c.after.ensures.longer;
  extends = ((λ block. ((λ e. absurd (value_apart (sym e))), (λ e. (let found = c.innermost.ensures ∙ ap (λ (x : List Form). top (stack x)) c.deref.ensures.value in absurd (apart (top (stack c.args.forms.now.items)) block (subst IsFlow (sym c.in-Flow.is ∙ found) tt)))))), (λ flow. c.after.ensures.shuts));
  again = λ starts.
      let text = c.args.text.now in
      let fs = stack c.args.forms.now.items in
      let found = c.innermost.ensures ∙ ap (λ (x : List Form). top (stack x)) c.deref.ensures.value in
      let flow = subst IsFlow (sym (sym found ∙ c.in-Flow.is)) tt in
      tail_again (NoneLonger text stage.After fs c.args.builder.now c.args.at) text fs c.args.builder.now c.args.at (2 * c.args.at + 2) (stack c.after.new.forms.items) c.after.new.builder c.after.result flow c.requires.fits.0 (subst (λ q. starts_scalar (ahead text q c.args.at).token ≡ true) (flow_in (top fs) flow) starts) (c.after.ensures.gives text (refl, placed text true c.args.at c.utf8.text c.requires.boundary));
}

pub returns-in-FlowTagged : goal.returns-in-FlowTagged
returns-in-FlowTagged c = record {
  gives = λ other utf8 cut fits same.
      let found = c.innermost.ensures ∙ ap (λ (x : List Form). top (stack x)) c.deref.ensures.value in
      let flow = subst IsFlow (sym c.in-FlowTagged.is ∙ found) tt in
      c.after_tag.ensures.gives other (seen_alike c.args.text.now other true c.args.at utf8 cut (same.0 flow));
  fixes =
      let found = c.innermost.ensures ∙ ap (λ (x : List Form). top (stack x)) c.deref.ensures.value in
      subst (λ (f : Form). FixesStep c.args.text.now stage.After f c.args.at c.after_tag.result) found (flow_after_step c.args.text.now c.innermost.result c.args.at c.after_tag.result (subst IsFlow (sym c.in-FlowTagged.is) tt) c.requires.boundary c.after_tag.ensures.fixes);
  feeds =
      let found = c.innermost.ensures ∙ ap (λ (x : List Form). top (stack x)) c.deref.ensures.value in
      let gs = stack c.after_tag.new.forms.items in
      subst (λ (f : Form). FeedsStep c.args.text.now stage.After f c.args.at gs c.after_tag.result) found (flow_after_feeds c.args.text.now c.innermost.result c.args.at gs c.after_tag.result (subst IsFlow (sym c.in-FlowTagged.is) tt) c.after_tag.ensures.feeds);
  stops = tail_stops c.args.text.now (stack c.args.forms.now.items) c.args.builder.now c.args.at c.after_tag.result c.requires.boundary c.after_tag.ensures.stops;
  longer = c.after_tag.ensures.longer;
  extends = ((λ block. ((λ e. absurd (value_apart (sym e))), (λ e. (let found = c.innermost.ensures ∙ ap (λ (x : List Form). top (stack x)) c.deref.ensures.value in absurd (apart (top (stack c.args.forms.now.items)) block (subst IsFlow (sym c.in-FlowTagged.is ∙ found) tt)))))), (λ flow. c.after_tag.ensures.shuts));
  again = λ starts.
      let text = c.args.text.now in
      let fs = stack c.args.forms.now.items in
      let found = c.innermost.ensures ∙ ap (λ (x : List Form). top (stack x)) c.deref.ensures.value in
      let flow = subst IsFlow (sym (sym found ∙ c.in-FlowTagged.is)) tt in
      tail_again (NoneLonger text stage.After fs c.args.builder.now c.args.at) text fs c.args.builder.now c.args.at (2 * c.args.at + 2) (stack c.after_tag.new.forms.items) c.after_tag.new.builder c.after_tag.result flow c.requires.fits.0 (subst (λ q. starts_scalar (ahead text q c.args.at).token ≡ true) (flow_in (top fs) flow) starts) (c.after_tag.ensures.gives text (refl, placed text true c.args.at c.utf8.text c.requires.boundary));
}

pub returns-in_default : goal.returns-in_default
returns-in_default c = record {
  gives = λ other utf8 cut fits same.
      let text = c.args.text.now in
      let at = c.args.at in
      let found = c.innermost.ensures ∙ ap (λ (x : List Form). top (stack x)) c.deref.ensures.value in
      let block = subst IsBlock found (block_of c.innermost.result c.in_default.not-Flow c.in_default.not-FlowTagged) in
      let alike = same.1 block in
      c.after-in_default.ensures.gives other alike.0 (seen_alike text other false at utf8 cut alike.0.here) cut (fits.2 block) alike.1;
  fixes =
      let found = c.innermost.ensures ∙ ap (λ (x : List Form). top (stack x)) c.deref.ensures.value in
      subst (λ (f : Form). FixesStep c.args.text.now stage.After f c.args.at c.after-in_default.result) found (after_step c.args.text.now c.innermost.result c.args.at c.after-in_default.result (block_of c.innermost.result c.in_default.not-Flow c.in_default.not-FlowTagged) c.after-in_default.ensures.fixes);
  feeds =
      let found = c.innermost.ensures ∙ ap (λ (x : List Form). top (stack x)) c.deref.ensures.value in
      let gs = stack c.after-in_default.new.forms.items in
      subst (λ (f : Form). FeedsStep c.args.text.now stage.After f c.args.at gs c.after-in_default.result) found (block_feeds c.args.text.now stage.After c.innermost.result c.args.at gs c.after-in_default.result (block_of c.innermost.result c.in_default.not-Flow c.in_default.not-FlowTagged) c.after-in_default.ensures.opens);
  stops =
      let found = c.innermost.ensures ∙ ap (λ (x : List Form). top (stack x)) c.deref.ensures.value in
      line_stops c.args.text.now (stack c.args.forms.now.items) c.args.builder.now c.args.at c.after-in_default.result c.requires.boundary (subst IsBlock found (block_of c.innermost.result c.in_default.not-Flow c.in_default.not-FlowTagged)) c.after-in_default.ensures.stops;
  longer = c.after-in_default.ensures.longer;
  extends = ((λ block. ((λ e. absurd (value_apart (sym e))), (λ e. (c.after-in_default.ensures.leaves)))), (λ flow. let found = c.innermost.ensures ∙ ap (λ (x : List Form). top (stack x)) c.deref.ensures.value in no_shuts c.args.text.now (stack c.args.forms.now.items) (stack c.after-in_default.new.forms.items) c.args.at c.innermost.result c.after-in_default.result found (block_of c.innermost.result c.in_default.not-Flow c.in_default.not-FlowTagged) flow));
  again = λ starts.
      let text = c.args.text.now in
      let fs = stack c.args.forms.now.items in
      let found = c.innermost.ensures ∙ ap (λ (x : List Form). top (stack x)) c.deref.ensures.value in
      let block = block_in (top fs) (subst IsBlock found (block_of c.innermost.result c.in_default.not-Flow c.in_default.not-FlowTagged)) in
      again_from (NoneBehind text fs c.args.builder.now c.args.at) (NoneLonger text stage.After fs c.args.builder.now c.args.at) c.after-in_default.result (λ none other x cut fits t h. none other x cut t h) (c.after-in_default.ensures.again (subst (λ q. starts_scalar (ahead text q c.args.at).token ≡ true) block starts));
}

pub after_tag-requires-clause-boundary : goal.after_tag-requires-clause-boundary
after_tag-requires-clause-boundary c = c.requires.boundary

pub after-requires-clause-boundary : goal.after-requires-clause-boundary
after-requires-clause-boundary c = c.requires.boundary
