use Rattle.yaml_grammar.specs.code.Steps.{stack}
use Rattle.yaml_grammar.specs.declared.form.Form.{Form}
use Rattle.yaml_grammar.specs.declared.form.Form.TheVariants.{Items, Entries}
use Rattle.yaml_grammar.specs.code.Steps.{ends_before}
use Rattle.yaml_grammar.specs.code.Twins.{NoLine}
use Rattle.yaml_grammar.proofs.BlockGains.{root_none, nothing_follows, item_deep, entry_deep}
use Rattle.yaml_grammar.proofs.Lengthened.{root_stops, root_lengthens, deep_lengthens, item_deeper, entry_deeper}
use Rattle.yaml_grammar.proofs.Stopped.{last_told_stops, told_inside}
use Rattle.std.proofs.Common.{◌≡◌, false, inl, inr, sym, ap, subst, ◌∙◌}
use Rattle.yaml_blocks.proofs.block.head.Goals as goal

pub returns-in-Root : goal.returns-in-Root
returns-in-Root c = record {
  gives = λ text seen inside calm same. root_none text (stack c.args.forms.now) c.args.builder.now c.args.site.at c.args.site.form c.requires.form c.in-Root.is c.requires.open inside;
  fixes = tt;
  opens = tt;
  stops =
      let fs = stack c.args.forms.now in
      let u = c.args.builder.now in
      let at = c.args.site.at in
      let next = c.args.site.next in
      root_stops c.args.text.now at (NoLine at next fs u) next c.root_place.result c.requires.seen.0 c.requires.told c.root_place.ensures (λ text seen calm v h. root_none text fs u at c.args.site.form c.requires.form c.in-Root.is c.requires.open (told_inside text at next seen.0 c.requires.told) v h);
  longer = root_lengthens c.args.text.now c.utf8.text (stack c.args.forms.now) c.args.builder.now c.args.site.at c.requires.boundary c.args.site.next c.root_place.result c.requires.seen.0 c.requires.told c.root_place.ensures c.requires.open (c.requires.form ∙ c.in-Root.is) c.requires.fresh;
  leaves = tt;
  again = λ starts. tt;
}

pub returns-then-site-column : goal.returns-then-site-column
returns-then-site-column c = record {
  gives = λ text seen inside calm same.
      let fs = stack c.args.forms.now in
      let next = c.args.site.next in
      let stays = (subst (λ (f : Form). ends_before f next ≡ false) c.in-Items.is c.requires.stays) in
      nothing_follows text fs c.args.builder.now c.args.site.at next seen.0 inside (item_deep text fs c.in-Items.column next c.requires.open.1 (c.requires.form ∙ c.in-Items.is) stays c.if-site-column.true);
  fixes = tt;
  opens = tt;
  stops =
      let fs = stack c.args.forms.now in
      let u = c.args.builder.now in
      let at = c.args.site.at in
      let next = c.args.site.next in
      let stays = (subst (λ (f : Form). ends_before f next ≡ false) c.in-Items.is c.requires.stays) in
      last_told_stops c.args.text.now at (NoLine at next fs u) false next c.last_told.result c.requires.seen.0 c.requires.told c.last_told.ensures (λ text seen calm v h. nothing_follows text fs u at next seen.0 (told_inside text at next seen.0 c.requires.told) (item_deep text fs c.in-Items.column next c.requires.open.1 (c.requires.form ∙ c.in-Items.is) stays c.if-site-column.true) v h);
  longer =
      let next = c.args.site.next in
      let stays = (subst (λ (f : Form). ends_before f next ≡ false) c.in-Items.is c.requires.stays) in
      deep_lengthens c.args.text.now c.utf8.text (stack c.args.forms.now) c.args.builder.now c.args.site.at c.requires.boundary next c.last_told.result c.in-Items.column c.requires.seen.0 c.requires.told c.last_told.ensures c.requires.open.1 (inl (c.requires.form ∙ c.in-Items.is)) (item_deeper c.in-Items.column next stays c.if-site-column.true);
  leaves = tt;
  again = λ starts. tt;
}

pub returns-then-site-column-2 : goal.returns-then-site-column-2
returns-then-site-column-2 c = record {
  gives = λ text seen inside calm same.
      let fs = stack c.args.forms.now in
      let next = c.args.site.next in
      let stays = (subst (λ (f : Form). ends_before f next ≡ false) c.in-Entries.is c.requires.stays) in
      nothing_follows text fs c.args.builder.now c.args.site.at next seen.0 inside (entry_deep text fs c.in-Entries.column next c.requires.open.1 (c.requires.form ∙ c.in-Entries.is) stays c.if-site-column-2.true);
  fixes = tt;
  opens = tt;
  stops =
      let fs = stack c.args.forms.now in
      let u = c.args.builder.now in
      let at = c.args.site.at in
      let next = c.args.site.next in
      let stays = (subst (λ (f : Form). ends_before f next ≡ false) c.in-Entries.is c.requires.stays) in
      last_told_stops c.args.text.now at (NoLine at next fs u) false next c.last_told-then-site-column-2.result c.requires.seen.0 c.requires.told c.last_told-then-site-column-2.ensures (λ text seen calm v h. nothing_follows text fs u at next seen.0 (told_inside text at next seen.0 c.requires.told) (entry_deep text fs c.in-Entries.column next c.requires.open.1 (c.requires.form ∙ c.in-Entries.is) stays c.if-site-column-2.true) v h);
  longer =
      let next = c.args.site.next in
      let stays = (subst (λ (f : Form). ends_before f next ≡ false) c.in-Entries.is c.requires.stays) in
      deep_lengthens c.args.text.now c.utf8.text (stack c.args.forms.now) c.args.builder.now c.args.site.at c.requires.boundary next c.last_told-then-site-column-2.result c.in-Entries.column c.requires.seen.0 c.requires.told c.last_told-then-site-column-2.ensures c.requires.open.1 (inr (c.requires.form ∙ c.in-Entries.is)) (entry_deeper c.in-Entries.column next stays c.if-site-column-2.true);
  leaves = tt;
  again = λ starts. tt;
}

pub item-requires-clause-form : goal.item-requires-clause-form
item-requires-clause-form c = c.requires.form ∙ c.in-Items.is ∙ ap Items (sym c.if-site-column.false)

pub item-requires-clause-stays : goal.item-requires-clause-stays
item-requires-clause-stays c = subst (λ (f : Form). ends_before f c.args.site.next ≡ false) (c.in-Items.is ∙ ap Items (sym c.if-site-column.false)) c.requires.stays

pub entry-requires-clause-form : goal.entry-requires-clause-form
entry-requires-clause-form c = c.requires.form ∙ c.in-Entries.is ∙ ap Entries (sym c.if-site-column-2.false)

pub item-requires-clause-boundary : goal.item-requires-clause-boundary
item-requires-clause-boundary c = c.requires.boundary

pub entry-requires-clause-boundary : goal.entry-requires-clause-boundary
entry-requires-clause-boundary c = c.requires.boundary
