use Rattle.std.proofs.Common.{◌≡◌, true, List, sym, ap, ◌∙◌, subst}
use Rattle.yaml_grammar.specs.declared.form.Form.{Form}
use Rattle.yaml_grammar.specs.declared.form.Form.TheVariants.{Flow}
use Rattle.yaml_grammar.specs.code.Rest.{top}
use Rattle.yaml_grammar.specs.code.Steps.{stack}
use Rattle.yaml_grammar.proofs.SameTexts.{seen_alike}
use Rattle.yaml_grammar.proofs.Fixed.{entry_step}
use Rattle.yaml_grammar.proofs.Stopped.{entry_stops}
use Rattle.yaml_grammar.proofs.Fed.{entry_feeds}
use Rattle.yaml_grammar.specs.Ahead.{ahead}
use Rattle.yaml_grammar.specs.Nodes.{starts_scalar}
use Rattle.yaml_grammar.specs.code.Closers.{in_flow}
use Rattle.yaml_grammar.proofs.Extended.{entry_apart, after_apart}
use Rattle.yaml_grammar.specs.declared.stage.Stage.TheVariants as stage
use Rattle.std.proofs.Common.{refl}
use Rattle.yaml_blocks.proofs.step.entry.Goals as goal

pub returns : goal.returns
returns c = record {
  gives = λ other utf8 cut fits same.
      let form = sym (c.innermost.ensures ∙ ap (λ (x : List Form). top (stack x)) c.deref.ensures.value) ∙ c.in-Flow.is in
      c.entry.ensures.gives other (seen_alike c.args.text.now other true c.args.at utf8 cut same.0) (λ h. same.1 (form ∙ ap Flow h)) (λ h. same.2 (form ∙ ap Flow h));
  fixes =
      let form = sym (c.innermost.ensures ∙ ap (λ (x : List Form). top (stack x)) c.deref.ensures.value) ∙ c.in-Flow.is in
      entry_step c.args.text.now (top (stack c.args.forms.now.items)) c.args.at c.in-Flow.map c.entry.result form c.requires.boundary c.entry.ensures.fixes;
  feeds =
      let form = sym (c.innermost.ensures ∙ ap (λ (x : List Form). top (stack x)) c.deref.ensures.value) ∙ c.in-Flow.is in
      entry_feeds c.args.text.now (top (stack c.args.forms.now.items)) c.args.at c.in-Flow.map (stack c.entry.new.forms.items) c.entry.result form c.entry.ensures.feeds;
  stops = entry_stops c.args.text.now (stack c.args.forms.now.items) c.args.builder.now c.args.at c.entry.result c.requires.boundary c.entry.ensures.stops;
  longer = c.entry.ensures.longer;
  extends = ((λ block. ((λ e. absurd (entry_apart e)), (λ e. absurd (after_apart stage.Entry e refl)))), (λ flow. c.entry.ensures.shuts));
  again = λ starts.
      let form = sym (c.innermost.ensures ∙ ap (λ (x : List Form). top (stack x)) c.deref.ensures.value) ∙ c.in-Flow.is in
      c.entry.ensures.again (subst (λ q. starts_scalar (ahead c.args.text.now q c.args.at).token ≡ true) (ap in_flow form) starts);
}

pub entry-requires-clause-boundary : goal.entry-requires-clause-boundary
entry-requires-clause-boundary c = c.requires.boundary
