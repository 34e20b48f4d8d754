use Rattle.std.proofs.lemmas.Grind.{common_steps}
use Rattle.std.proofs.Common.{true, false, List, ◌+◌, ◌*◌, sym, ap, subst, ◌∙◌, arith}
use Rattle.yaml_grammar.specs.declared.ahead.Ahead.{Ahead}
use Rattle.yaml_grammar.specs.declared.ahead.Token.TheVariants.{Closes}
use Rattle.yaml_grammar.specs.declared.form.Form.TheVariants.{Flow}
use Rattle.yaml_grammar.specs.declared.form.Form.{Form}
use Rattle.yaml_grammar.specs.code.Rest.{Enters}
use Rattle.yaml_grammar.specs.code.Steps.{stack, has_keys, IsFlow, IsBehind, Gives, IsSeen, SameFlowNode, SameFlowKey}
use Rattle.yaml_grammar.proofs.Gains.{closed_entry_gives, marked_entry_gives, item_gives}
use Rattle.yaml_grammar.proofs.Fixed.{closed_fixes, node_entry_fixes, key_entry_fixes}
use Rattle.yaml_grammar.specs.code.Twins.{Stops, NoFlowValue, NoEntry, FixesEntry, FixesFlowNode}
use Rattle.yaml_grammar.specs.Ahead.{ahead}
use Rattle.yaml_grammar.specs.Signs.{Tree}
use Rattle.yaml_grammar.proofs.Stopped.{closed_stops, stops_from, item_follows}
use Rattle.yaml_grammar.proofs.Fed.{closed_feeds, node_entry_feeds, key_entry_feeds}
use Rattle.yaml_grammar.specs.code.Feeds.{FeedsEntry, FeedsFlowNode}
use Rattle.yaml_grammar.proofs.FlowLengthens.{closed_on, item_lengthens}
use Rattle.yaml_grammar.specs.code.Twins.{Lengthens, LengthensAt}
use Rattle.yaml_grammar.specs.declared.stage.Stage.TheVariants as stage
use Rattle.yaml_grammar.proofs.Extended.{closed_shuts}
use Rattle.yaml_grammar.proofs.FedSites.{closed_again, item_again, starts_marked}
use Rattle.yaml_grammar.specs.Nodes.{starts_scalar}
use Rattle.yaml_grammar.specs.code.ReadAgain.{NoneLonger, SignStays}
use Rattle.std.proofs.Common.{◌≡◌}
use Rattle.yaml_grammar.specs.code.Extends.{Shuts}
use Rattle.yaml_steps.proofs.flow.entry.Goals as goal

pub returns-then-closes : goal.returns-then-closes
returns-then-closes c = record {
  gives = λ text seen key node.
      let now = subst (λ (a : Ahead). IsSeen text true c.args.site.at a) (sym c.requires.seen.0) seen in
      closed_entry_gives text (has_keys c.args.site.form) (stack c.args.forms.now.items) (stack c.close.new.forms.items) c.args.builder.now c.close.new.builder c.args.site.at c.args.site.next c.close.result now (c.closes.ensures.yes c.if-closes.true ∙ ap Closes c.has_keys-map.ensures) (c.requires.form ∙ c.requires.flow) c.requires.open c.close.ensures;
  fixes = subst (λ (a : Ahead). FixesEntry c.args.text.now (has_keys c.args.site.form) c.args.site.at a c.close.result) c.requires.seen.0 (closed_fixes c.args.text.now c.args.site.at (has_keys c.args.site.form) c.args.site.next (stack c.args.forms.now.items) (stack c.close.new.forms.items) c.args.builder.now c.close.new.builder c.close.result c.requires.seen c.requires.boundary (c.closes.ensures.yes c.if-closes.true ∙ ap Closes c.has_keys-map.ensures) c.close.ensures);
  feeds = subst (λ (a : Ahead). FeedsEntry c.args.text.now (has_keys c.args.site.form) c.args.site.at a c.close.result) c.requires.seen.0 (closed_feeds c.args.text.now c.args.site.at c.args.site.next c.requires.seen c.requires.boundary (has_keys c.args.site.form) (stack c.args.forms.now.items) (stack c.close.new.forms.items) c.args.builder.now c.close.new.builder c.close.result (c.closes.ensures.yes c.if-closes.true ∙ ap Closes c.has_keys-map.ensures) c.close.ensures);
  shuts = closed_shuts c.args.text.now c.args.site.at (has_keys c.args.site.form) c.args.site.next (stack c.args.forms.now.items) (stack c.close.new.forms.items) c.args.builder.now c.close.new.builder c.close.result c.requires.seen (c.closes.ensures.yes c.if-closes.true ∙ ap Closes c.has_keys-map.ensures) c.close.ensures;
  stops =
      let fs = stack c.args.forms.now.items in
      let u = c.args.builder.now in
      closed_stops c.args.text.now c.args.site.at (NoEntry c.args.site.at (ahead c.args.text.now true c.args.site.at) fs u) c.args.site.next.behind fs (stack c.close.new.forms.items) u c.close.new.builder c.close.result c.close.ensures;
  longer = closed_on (LengthensAt c.args.text.now stage.Entry (stack c.args.forms.now.items) c.args.builder.now c.args.site.at) c.args.site.next.behind (stack c.args.forms.now.items) (stack c.close.new.forms.items) c.args.builder.now c.close.new.builder c.close.result c.close.ensures;
  again = λ starts. closed_again (NoneLonger c.args.text.now stage.Entry (stack c.args.forms.now.items) c.args.builder.now c.args.site.at) c.args.site.next.behind (stack c.args.forms.now.items) (stack c.close.new.forms.items) c.args.builder.now c.close.new.builder c.close.result c.close.ensures;
}

pub returns-then-is_marked : goal.returns-then-is_marked
returns-then-is_marked c = record {
  gives = λ text seen key node.
      let now = subst (λ (a : Ahead). IsSeen text true c.args.site.at a) (sym c.requires.seen.0) seen in
      marked_entry_gives text (has_keys c.args.site.form) (stack c.args.forms.now.items) c.args.builder.now c.args.site.at c.offset.result c.args.site.next now.0 c.offset.ensures (sym c.is_marked.ensures ∙ c.if-is_marked.true) (c.requires.form ∙ c.requires.flow) c.requires.open;
  fixes = tt;
  feeds = tt;
  shuts = tt;
  stops = tt;
  longer = tt;
  again = λ starts. absurd (starts_marked c.args.site.next.token (subst (λ (a : Ahead). starts_scalar a.token ≡ true) (sym c.requires.seen.0) starts) (sym c.is_marked.ensures ∙ c.if-is_marked.true));
}

pub returns-then-map : goal.returns-then-map
returns-then-map c = record {
  gives = λ text seen key node.
      let now = subst (λ (a : Ahead). IsSeen text true c.args.site.at a) (sym c.requires.seen.0) seen in
      let at = c.args.site.at in
      let u = c.args.builder.now in
      subst (λ (x : List Form). Gives text (Enters text (stack x) u.outer u.done at) (2 * at + 2) (stack x) c.key.new.builder c.key.result) c.deref.ensures.value (c.key.ensures.gives text now (subst (λ (a : Ahead). SameFlowKey c.args.text.now text a) (sym c.requires.seen.0) (key (sym c.has_keys-map.ensures ∙ c.if-map.true))));
  fixes = subst (λ (a : Ahead). FixesEntry c.args.text.now (has_keys c.args.site.form) c.args.site.at a c.key.result) c.requires.seen.0 (key_entry_fixes c.args.text.now c.args.site.at c.args.site.next (has_keys c.args.site.form) c.key.result (sym c.has_keys-map.ensures ∙ c.if-map.true) c.key.ensures.fixes);
  feeds = subst (λ (a : Ahead). FeedsEntry c.args.text.now (has_keys c.args.site.form) c.args.site.at a c.key.result) c.requires.seen.0 (key_entry_feeds c.args.text.now c.args.site.at c.args.site.next (has_keys c.args.site.form) c.key.result (sym c.has_keys-map.ensures ∙ c.if-map.true) c.key.ensures.feeds);
  shuts = subst (λ (x : List Form). Shuts c.args.text.now c.args.site.at (stack x) c.key.result) c.deref.ensures.value c.key.ensures.shuts;
  stops =
      let at = c.args.site.at in
      let u = c.args.builder.now in
      subst (λ (a : Ahead). Stops c.args.text.now at (NoEntry at a (stack c.args.forms.now.items) u) c.key.result) c.requires.seen.0 (subst (λ (x : List Form). Stops c.args.text.now at (NoEntry at c.args.site.next (stack x) u) c.key.result) c.deref.ensures.value c.key.ensures.stops);
  longer = subst (λ (x : List Form). Lengthens c.args.text.now stage.Entry (stack x) c.args.builder.now c.args.site.at c.key.result) c.deref.ensures.value c.key.ensures.longer;
  again = λ starts. subst (λ (x : List Form). SignStays c.args.text.now stage.Entry (stack x) c.args.builder.now c.args.site.at c.key.result) c.deref.ensures.value (c.key.ensures.again (subst (λ (a : Ahead). starts_scalar a.token ≡ true) (sym c.requires.seen.0) starts));
}

pub returns-else-map : goal.returns-else-map
returns-else-map c = record {
  gives = λ text seen key node.
      let now = subst (λ (a : Ahead). IsSeen text true c.args.site.at a) (sym c.requires.seen.0) seen in
      item_gives text (stack c.args.forms.now.items) (stack c.node.new.forms.items) c.args.builder.now c.node.new.builder c.args.site.at c.args.site.next c.node.result now.0 ((c.requires.form ∙ c.requires.flow) ∙ ap Flow (sym c.has_keys-map.ensures ∙ c.if-map.false)) c.requires.open (λ h. c.closes.ensures.no c.if-closes.false (h ∙ ap Closes (sym c.if-map.false))) (sym c.is_marked.ensures ∙ c.if-is_marked.false) c.requires.awaited (c.node.ensures.gives text now (subst (λ (f : Form). SameFlowNode c.args.text.now text f c.args.site.at c.args.site.next) (sym (c.requires.flow ∙ ap Flow (sym c.has_keys-map.ensures ∙ c.if-map.false))) (subst (λ (a : Ahead). SameFlowNode c.args.text.now text (Flow false) c.args.site.at a) (sym c.requires.seen.0) (node (sym c.has_keys-map.ensures ∙ c.if-map.false)))));
  fixes = subst (λ (a : Ahead). FixesEntry c.args.text.now (has_keys c.args.site.form) c.args.site.at a c.node.result) c.requires.seen.0 (node_entry_fixes c.args.text.now c.args.site.at c.args.site.next (has_keys c.args.site.form) c.node.result (sym c.has_keys-map.ensures ∙ c.if-map.false) (subst (λ (f : Form). FixesFlowNode c.args.text.now f c.args.site.at c.args.site.next c.node.result) (c.requires.flow ∙ ap Flow (sym c.has_keys-map.ensures ∙ c.if-map.false)) c.node.ensures.fixes));
  feeds = subst (λ (a : Ahead). FeedsEntry c.args.text.now (has_keys c.args.site.form) c.args.site.at a c.node.result) c.requires.seen.0 (node_entry_feeds c.args.text.now c.args.site.at c.args.site.next (has_keys c.args.site.form) c.node.result (sym c.has_keys-map.ensures ∙ c.if-map.false) (subst (λ (f : Form). FeedsFlowNode c.args.text.now f c.args.site.at c.args.site.next c.node.result) (c.requires.flow ∙ ap Flow (sym c.has_keys-map.ensures ∙ c.if-map.false)) c.node.ensures.feeds));
  shuts = c.node.ensures.shuts;
  stops =
      let at = c.args.site.at in
      let fs = stack c.args.forms.now.items in
      let u = c.args.builder.now in
      let next = c.args.site.next in
      subst (λ (a : Ahead). Stops c.args.text.now at (NoEntry at a fs u) c.node.result) c.requires.seen.0 (stops_from c.args.text.now at (NoFlowValue at next fs u) (NoEntry at next fs u) c.node.result (λ text k seen t h. k seen t (item_follows text fs u at next seen.0 ((c.requires.form ∙ c.requires.flow) ∙ ap Flow (sym c.has_keys-map.ensures ∙ c.if-map.false)) c.requires.open (λ e. c.closes.ensures.no c.if-closes.false (e ∙ ap Closes (sym c.if-map.false))) (sym c.is_marked.ensures ∙ c.if-is_marked.false) c.requires.awaited (Tree t) h)) c.node.ensures.stops);
  longer = item_lengthens c.args.text.now c.utf8.text (stack c.args.forms.now.items) c.args.builder.now c.args.site.at c.requires.boundary c.args.site.next c.node.result c.requires.seen.0 ((c.requires.form ∙ c.requires.flow) ∙ ap Flow (sym c.has_keys-map.ensures ∙ c.if-map.false)) c.requires.open c.requires.awaited (sym c.is_marked.ensures ∙ c.if-is_marked.false) c.node.ensures.longer;
  again = λ starts.
      let there = subst (λ (a : Ahead). starts_scalar a.token ≡ true) (sym c.requires.seen.0) starts in
      item_again c.args.text.now (stack c.args.forms.now.items) c.args.builder.now c.args.site.at c.args.site.next c.node.result c.requires.seen.0 there c.requires.boundary.0 ((c.requires.form ∙ c.requires.flow) ∙ ap Flow (sym c.has_keys-map.ensures ∙ c.if-map.false)) c.requires.open c.requires.awaited (c.node.ensures.again there);
}

pub key-requires-clause-open : goal.key-requires-clause-open
key-requires-clause-open c = grind (arith, common_steps)

pub key-requires-clause-there : goal.key-requires-clause-there
key-requires-clause-there c = grind (arith, common_steps)

pub node-requires-clause-awaited : goal.node-requires-clause-awaited
node-requires-clause-awaited c = grind (arith, common_steps)

pub node-requires-clause-flow : goal.node-requires-clause-flow
node-requires-clause-flow c = subst (λ (f : Form). IsFlow f) (sym (c.requires.flow ∙ ap Flow (sym c.has_keys-map.ensures ∙ c.if-map.false))) tt

pub node-requires-clause-behind : goal.node-requires-clause-behind
node-requires-clause-behind c = subst (λ (f : Form). IsBehind f c.args.site.at) (sym (c.requires.flow ∙ ap Flow (sym c.has_keys-map.ensures ∙ c.if-map.false))) tt

pub key-requires-clause-boundary : goal.key-requires-clause-boundary
key-requires-clause-boundary c = c.requires.boundary

pub node-requires-clause-boundary : goal.node-requires-clause-boundary
node-requires-clause-boundary c = c.requires.boundary
