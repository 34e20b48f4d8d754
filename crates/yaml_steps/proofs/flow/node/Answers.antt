use Rattle.std.proofs.Common.{◌≡◌, ◌+◌, ◌*◌, List, inl, inr, refl, sym, subst, ◌∙◌}
use Rattle.std.specs.Prelude.{Err, None}
use Rattle.yaml_grammar.specs.declared.form.Form.{Form}
use Rattle.yaml_grammar.specs.declared.stop.Stop.TheVariants.{Unread}
use Rattle.yaml_grammar.specs.Nodes.{node_sign, setting_of}
use Rattle.yaml_grammar.specs.Signs.{Tree}
use Rattle.yaml_grammar.specs.code.Steps.{stack}
use Rattle.yaml_grammar.specs.code.Twins.{MendsNode, NoFlowValue}
use Rattle.yaml_grammar.proofs.Fed.{opens_feeds}
use Rattle.yaml_grammar.proofs.Fixed.{flow_opens_fixes}
use Rattle.yaml_grammar.proofs.FlowLengthens.{flow_stops, token_mends, unsigned}
use Rattle.yaml_grammar.proofs.Gains.{flow_spot, flow_signed_gives, tag_allowed, opened_gives, holds_gives}
use Rattle.yaml_grammar.proofs.OtherStops.{signed_on, opened_on}
use Rattle.yaml_grammar.proofs.Scalars.{failed_other}
use Rattle.yaml_grammar.proofs.Stopped.{signed_stops, opened_stops}
use Rattle.yaml_grammar.proofs.Extended.{opened_shuts}
use Rattle.yaml_grammar.proofs.FedSites.{signed_again, starts_opens}
use Rattle.yaml_grammar.specs.code.ReadAgain.{NoneAwaited}
use Rattle.yaml_grammar.specs.code.FlowReads.{FlowValueRead}
use Rattle.yaml_steps.proofs.flow.node.Goals as goal

pub returns-in-Some : goal.returns-in-Some
returns-in-Some c = record {
  gives = λ text seen same.
      let fs = stack c.args.forms.now.items in
      let u = c.args.builder.now in
      flow_signed_gives text (2 * c.args.site.at + 2) fs fs u u c.args.site.form c.is_tagged.result c.args.site.at c.args.site.next c.in-Some.refusal seen.0 (flow_spot text fs u c.args.site.form c.args.site.at c.args.site.next seen c.requires.form c.requires.flow c.requires.open) c.is_tagged.ensures c.in-Some.ensures;
  fixes = tt;
  feeds = tt;
  shuts = tt;
  stops = signed_stops c.args.text.now c.args.site.at (NoFlowValue c.args.site.at c.args.site.next (stack c.args.forms.now.items) c.args.builder.now) (node_sign c.is_tagged.result c.args.site.next.at c.args.site.next.token) c.in-Some.refusal c.in-Some.ensures;
  longer = signed_on (MendsNode c.args.text.now (stack c.args.forms.now.items) c.args.builder.now c.args.site.at) (node_sign c.is_tagged.result c.args.site.next.at c.args.site.next.token) c.in-Some.refusal c.in-Some.ensures;
  again = λ starts. signed_again (NoneAwaited c.args.text.now (stack c.args.forms.now.items) c.args.builder.now c.args.site.at) c.is_tagged.result c.args.site.next c.in-Some.refusal starts c.in-Some.ensures;
}

pub returns-in-Opens : goal.returns-in-Opens
returns-in-Opens c = record {
  gives = λ text seen same.
      let fs = stack c.args.forms.now.items in
      let u = c.args.builder.now in
      opened_gives text fs (stack c.open.new.forms.items) u c.open.new.builder c.args.site.form c.args.site.at c.args.site.next c.in-Opens.map c.open.result seen.0 (flow_spot text fs u c.args.site.form c.args.site.at c.args.site.next seen c.requires.form c.requires.flow c.requires.open) c.in-Opens.is c.open.ensures;
  fixes = flow_opens_fixes c.args.text.now c.args.site.form c.args.site.at c.in-Opens.map c.args.site.next (stack c.args.forms.now.items) (stack c.open.new.forms.items) c.args.builder.now c.open.new.builder c.open.result c.requires.seen c.requires.boundary c.requires.behind c.in-Opens.is c.open.ensures;
  feeds = opens_feeds c.args.text.now c.args.site.at c.args.site.next c.requires.seen c.requires.boundary c.args.site.form c.in-Opens.map (stack c.args.forms.now.items) (stack c.open.new.forms.items) c.args.builder.now c.open.new.builder c.open.result c.requires.behind c.in-Opens.is c.open.ensures;
  shuts = opened_shuts c.args.text.now c.in-Opens.map c.args.site.next (stack c.args.forms.now.items) (stack c.open.new.forms.items) c.args.builder.now c.open.new.builder c.args.site.at c.open.result c.open.ensures;
  stops = opened_stops c.args.text.now c.args.site.at (NoFlowValue c.args.site.at c.args.site.next (stack c.args.forms.now.items) c.args.builder.now) c.in-Opens.map c.args.site.next (stack c.args.forms.now.items) (stack c.open.new.forms.items) c.args.builder.now c.open.new.builder c.open.result c.open.ensures;
  longer = opened_on (MendsNode c.args.text.now (stack c.args.forms.now.items) c.args.builder.now c.args.site.at) c.in-Opens.map c.args.site.next (stack c.args.forms.now.items) (stack c.open.new.forms.items) c.args.builder.now c.open.new.builder c.open.result c.open.ensures;
  again = λ starts. absurd (starts_opens c.args.site.next.token c.in-Opens.map starts c.in-Opens.is);
}

pub returns-then-not-starts_scalar : goal.returns-then-not-starts_scalar
returns-then-not-starts_scalar c = record {
  gives = λ text seen same.
      let fs = stack c.args.forms.now.items in
      let u = c.args.builder.now in
      holds_gives text fs u u c.args.site.form c.is_tagged.result c.args.site.at c.args.site.next (Err (Unread c.flow_place.result)) seen.0 (flow_spot text fs u c.args.site.form c.args.site.at c.args.site.next seen c.requires.form c.requires.flow c.requires.open) c.in_default.not-Opens c.in_default.not-Tag c.is_tagged.ensures c.in-None.ensures c.requires.there (inr (inl ((c.flow_place.result, refl), failed_other text (setting_of c.args.site.form) c.args.site.next (sym c.starts_scalar.ensures ∙ c.if-not-starts_scalar.true))));
  fixes = tt;
  feeds = tt;
  shuts = tt;
  stops =
      let fs = stack c.args.forms.now.items in
      let u = c.args.builder.now in
      flow_stops c.args.text.now c.args.site.at (NoFlowValue c.args.site.at c.args.site.next (stack c.args.forms.now.items) c.args.builder.now) c.args.site.next c.flow_place.result c.requires.seen.0 c.flow_place.ensures (λ text told seen v h. holds_gives text fs u u c.args.site.form c.is_tagged.result c.args.site.at c.args.site.next (Err (Unread c.flow_place.result)) seen.0 (flow_spot text fs u c.args.site.form c.args.site.at c.args.site.next seen c.requires.form c.requires.flow c.requires.open) c.in_default.not-Opens c.in_default.not-Tag c.is_tagged.ensures c.in-None.ensures c.requires.there (inr (inl ((c.flow_place.result, refl), failed_other text (setting_of c.args.site.form) c.args.site.next (sym c.starts_scalar.ensures ∙ c.if-not-starts_scalar.true)))) (Tree v) h);
  longer =
      let signs = unsigned c.is_tagged.result c.args.site.next.at c.args.site.next.token c.in-None.ensures in
      token_mends c.args.text.now c.utf8.text (stack c.args.forms.now.items) c.args.builder.now c.args.site.at c.requires.boundary c.args.site.next c.flow_place.result c.requires.seen.0 (sym c.starts_scalar.ensures ∙ c.if-not-starts_scalar.true) c.in_default.not-Opens c.in_default.not-Tag signs.0 signs.1 c.flow_place.ensures;
  again = λ starts. tt;
}

pub returns-else-not-starts_scalar : goal.returns-else-not-starts_scalar
returns-else-not-starts_scalar c = subst (λ (x : List Form). FlowValueRead c.args.text.now c.args.site.form c.args.site.at c.args.site.next (stack x) c.args.builder.now (stack x) c.scalar.new.builder c.scalar.result) c.deref.ensures.value c.scalar.ensures

pub tag-requires-clause-takes : goal.tag-requires-clause-takes
tag-requires-clause-takes c = tag_allowed c.args.site.form c.is_tagged.result c.args.site.next.at c.in-Tag.len c.args.site.next.token c.requires.flow c.is_tagged.ensures c.in-Tag.is c.in-None.ensures

pub scalar-requires-clause-unsigned : goal.scalar-requires-clause-unsigned
scalar-requires-clause-unsigned c = subst (λ q. node_sign q c.args.site.next.at c.args.site.next.token ≡ None) c.is_tagged.ensures c.in-None.ensures

pub scalar-requires-clause-boundary : goal.scalar-requires-clause-boundary
scalar-requires-clause-boundary c = c.requires.boundary

pub tag-requires-clause-boundary : goal.tag-requires-clause-boundary
tag-requires-clause-boundary c = c.requires.boundary
