use Rattle.std.proofs.lemmas.Grind.{common_steps}
use Rattle.std.proofs.Common.{ap, inl, inr, ◌∙◌, ◌≡◌, ◌⊎◌, true, false, refl, sym, subst, arith, ◌+◌, ◌*◌}
use Rattle.std.specs.Prelude.{Err}
use Rattle.std.specs.Cow.{cow_str_bytes}
use Rattle.doc_values.specs.declared.builder.BuildRefusal.TheVariants as build
use Rattle.doc_values.specs.Tree.{has_key}
use Rattle.yaml_grammar.specs.declared.form.Form.TheVariants.{Entries}
use Rattle.yaml_grammar.specs.declared.stage.Stage.TheVariants as stage
use Rattle.yaml_grammar.specs.Nodes.{as_key}
use Rattle.yaml_grammar.specs.declared.ahead.Ahead.{Ahead}
use Rattle.yaml_grammar.specs.declared.ahead.Token.TheVariants.{Point}
use Rattle.yaml_grammar.specs.code.Steps.{stack, Gives, SameScalar}
use Rattle.yaml_grammar.proofs.Forms.{awaits_key}
use Rattle.yaml_grammar.proofs.Gains.{found_key}
use Rattle.yaml_grammar.proofs.SameTexts.{found_same, finds_same, has_key_same}
use Rattle.yaml_grammar.proofs.BlockGains.{Behind, entry_signed_gives, entry_missed, entry_goes, entry_refused, no_colon}
use Rattle.yaml_grammar.proofs.Fixed.{entry_fixes}
use Rattle.yaml_grammar.proofs.Lengthened.{entry_lengthens, key_lengthens, colon_lengthens, dash_stops}
use Rattle.yaml_grammar.proofs.OtherStops.{signed_on, built_on}
use Rattle.yaml_grammar.proofs.Stopped.{told_inside, signed_stops, built_stops}
use Rattle.yaml_grammar.proofs.StoppedScalars.{key_stops, missed_failed}
use Rattle.yaml_grammar.proofs.Quiet.{inside_at, word_inside}
use Rattle.yaml_grammar.specs.code.Steps.{is_ending}
use Rattle.yaml_grammar.proofs.StoppedKeys.{no_line_colon_stops}
use Rattle.yaml_grammar.proofs.Scalars.{failed_other}
use Rattle.yaml_grammar.specs.declared.stop.Stop.TheVariants.{Unread}
use Rattle.yaml_grammar.specs.Nodes.{node_sign}
use Rattle.yaml_grammar.specs.code.Twins.{NoLine, LengthensAt}
use Rattle.yaml_grammar.proofs.Opens.{form_opening}
use Rattle.std.specs.Prelude.{Ok}
use Rattle.yaml_grammar.proofs.Extended.{value_leaves}
use Rattle.yaml_grammar.proofs.FedSites.{block_key_none, built_again, finds_again, signed_again}
use Rattle.yaml_grammar.specs.code.ReadAgain.{NoneBehind}
use Rattle.yaml_steps.proofs.entries.entry.Goals as goal

pub returns-in-Some : goal.returns-in-Some
returns-in-Some c = record {
  gives = λ text seen inside calm same.
      let fs = stack c.args.forms.now in
      entry_signed_gives text c.args.site.next.column (2 * c.args.site.at + 2) fs fs c.args.builder.now c.args.builder.now c.args.site.at c.args.site.next c.in-Some.refusal seen c.requires.fresh inside c.requires.form c.requires.open refl c.in-Some.ensures;
  fixes = tt;
  opens = tt;
  stops = signed_stops c.args.text.now c.args.site.at (NoLine c.args.site.at c.args.site.next (stack c.args.forms.now) c.args.builder.now) (node_sign false c.args.site.next.at c.args.site.next.token) c.in-Some.refusal c.in-Some.ensures;
  longer = signed_on (LengthensAt c.args.text.now stage.After (stack c.args.forms.now) c.args.builder.now c.args.site.at) (node_sign false c.args.site.next.at c.args.site.next.token) c.in-Some.refusal c.in-Some.ensures;
  leaves = tt;
  again = λ starts. signed_again (NoneBehind c.args.text.now (stack c.args.forms.now) c.args.builder.now c.args.site.at) false c.args.site.next c.in-Some.refusal starts c.in-Some.ensures;
}

pub returns-then-not-starts_scalar : goal.returns-then-not-starts_scalar
returns-then-not-starts_scalar c = record {
  gives = λ text seen inside calm same.
      let u = c.args.builder.now in
      entry_missed text c.args.site.next.column (stack c.args.forms.now) u u c.args.site.at c.args.site.next (as_key false) (Unread c.dash_place.result) refl seen.0 inside c.requires.form c.requires.open refl calm c.in-None.ensures (inr (inl ((c.dash_place.result, refl), failed_other text (as_key false) c.args.site.next (sym c.starts_scalar.ensures ∙ c.if-not-starts_scalar.true))));
  fixes = tt;
  opens = tt;
  stops =
      let u = c.args.builder.now in
      let at = c.args.site.at in
      let next = c.args.site.next in
      dash_stops c.args.text.now at (NoLine c.args.site.at c.args.site.next (stack c.args.forms.now) c.args.builder.now) next c.dash_place.result c.requires.seen.0 c.requires.told c.dash_place.ensures (λ text seen calm v h. entry_missed text c.args.site.next.column (stack c.args.forms.now) u u at next (as_key false) (Unread c.dash_place.result) refl seen.0 (told_inside text at next seen.0 c.requires.told) c.requires.form c.requires.open refl calm c.in-None.ensures (inr (inl ((c.dash_place.result, refl), failed_other text (as_key false) next (sym c.starts_scalar.ensures ∙ c.if-not-starts_scalar.true)))) v h);
  longer = entry_lengthens c.args.text.now c.utf8.text (stack c.args.forms.now) c.args.builder.now c.args.site.at c.requires.boundary c.args.site.next c.dash_place.result c.args.site.next.column c.requires.seen.0 c.requires.told c.dash_place.ensures c.requires.open c.requires.form c.requires.fresh refl (sym c.starts_scalar.ensures ∙ c.if-not-starts_scalar.true);
  leaves = tt;
  again = λ starts. tt;
}

pub returns-in-Err : goal.returns-in-Err
returns-in-Err c = record {
  gives = λ text seen inside calm same. entry_missed text c.args.site.next.column (stack c.args.forms.now) c.args.builder.now c.args.builder.now c.args.site.at c.args.site.next c.as_key.result c.in-Err.refusal c.as_key.ensures seen.0 inside c.requires.form c.requires.open refl calm c.in-None.ensures (finds_same c.args.text.now text c.as_key.result c.args.site.next (subst (λ z. SameScalar c.args.text.now text z c.args.site.next) (sym c.as_key.ensures) same.scalar) c.in-Err.refusal c.in-Err.ensures.finds);
  fixes = tt;
  opens = tt;
  stops =
      let u = c.args.builder.now in
      let at = c.args.site.at in
      let next = c.args.site.next in
      let starts = sym c.starts_scalar.ensures ∙ c.if-not-starts_scalar.false in
      key_stops c.args.text.now false at next (NoLine c.args.site.at c.args.site.next (stack c.args.forms.now) c.args.builder.now) c.requires.seen.0 starts (λ other none seen calm v h. entry_missed other c.args.site.next.column (stack c.args.forms.now) u u at next (as_key false) (Unread 0) refl seen.0 (inside_at other at (ap (λ (a : Ahead). is_ending a.token) (sym seen.0) ∙ word_inside next.token starts)) c.requires.form c.requires.open refl calm c.in-None.ensures (inr (inl ((0, refl), missed_failed other false next none))) v h) c.as_key.result c.in-Err.refusal c.as_key.ensures (λ q e. c.in-Err.ensures.place q (ap Err e));
  longer =
      let starts = sym c.starts_scalar.ensures ∙ c.if-not-starts_scalar.false in
      key_lengthens c.args.text.now c.utf8.text (stack c.args.forms.now) c.args.builder.now c.args.site.at c.requires.boundary c.args.site.next c.as_key.result c.in-Err.refusal c.args.site.next.column c.requires.form c.requires.open c.requires.seen.0 c.requires.fresh refl starts c.as_key.ensures (λ q e. c.in-Err.ensures.place q (ap Err e));
  leaves = tt;
  again = λ starts. finds_again (NoneBehind c.args.text.now (stack c.args.forms.now) c.args.builder.now c.args.site.at) c.args.text.now false c.as_key.result c.args.site.next c.in-Err.refusal c.as_key.ensures c.in-Err.ensures.finds;
}

pub returns-in-Err-key : goal.returns-in-Err-key
returns-in-Err-key c = record {
  gives = λ text seen inside calm same.
      let this = c.args.text.now in
      let fs = stack c.args.forms.now in
      let u = c.args.builder.now in
      let words = cow_str_bytes c.in-Ok.scalar.text in
      let g = found_key this c.as_key.result (as_key false) c.args.site.next words c.in-Ok.scalar.kind c.in-Ok.scalar.end c.as_key.ensures c.in-Ok.ensures.finds in
      let f = found_same this text (as_key false) c.args.site.next same.scalar words c.in-Ok.scalar.kind c.in-Ok.scalar.end g in
      subst (λ e. Gives text (Behind text fs u c.args.site.at) (2 * c.args.site.at + 2) fs c.key.new.self (Err e)) (sym c.from.ensures) (entry_refused text c.args.site.next.column fs u c.key.new.self c.args.site.at c.in-Ok.scalar.end c.args.site.next words c.in-Err-key.refusal seen c.requires.fresh inside c.requires.form c.requires.open refl f.0 (subst (λ n. (c.in-Err-key.refusal ≡ build.NoMemory) ⊎ ((c.in-Err-key.refusal ≡ build.DuplicateKey n) × (has_key u.done words ≡ true))) c.offset.ensures c.in-Err-key.ensures.refused));
  fixes = tt;
  opens = tt;
  stops = built_stops c.args.text.now c.args.site.at (NoLine c.args.site.at c.args.site.next (stack c.args.forms.now) c.args.builder.now) c.in-Err-key.refusal c.from.result c.from.ensures;
  longer = built_on (LengthensAt c.args.text.now stage.After (stack c.args.forms.now) c.args.builder.now c.args.site.at) c.in-Err-key.refusal c.from.result c.from.ensures;
  leaves = tt;
  again = λ starts.
      let this = c.args.text.now in
      let fs = stack c.args.forms.now in
      let u = c.args.builder.now in
      let words = cow_str_bytes c.in-Ok.scalar.text in
      let g = found_key this c.as_key.result (as_key false) c.args.site.next words c.in-Ok.scalar.kind c.in-Ok.scalar.end c.as_key.ensures c.in-Ok.ensures.finds in
      built_again (NoneBehind this fs u c.args.site.at) c.offset.result (has_key u.done words ≡ true) c.in-Err-key.refusal c.from.result c.from.ensures c.in-Err-key.ensures.refused (λ again. block_key_none this fs u c.args.site.at c.args.site.next words c.in-Ok.scalar.end starts again c.requires.open c.requires.boundary.0 c.args.site.next.column c.requires.seen.0 g.0 c.requires.fresh refl c.requires.form);
}

pub returns-in-Some-colon_behind : goal.returns-in-Some-colon_behind
returns-in-Some-colon_behind c = record {
  gives = λ text seen inside calm same.
      let this = c.args.text.now in
      let words = cow_str_bytes c.in-Ok.scalar.text in
      let end = c.in-Ok.scalar.end in
      let behind = c.in-Some-colon_behind.behind in
      let g = found_key this c.as_key.result (as_key false) c.args.site.next words c.in-Ok.scalar.kind end c.as_key.ensures c.in-Ok.ensures.finds in
      let f = found_same this text (as_key false) c.args.site.next same.scalar words c.in-Ok.scalar.kind end g in
      let h = c.in-Some-colon_behind.ensures in
      let there = has_key_same this text c.args.site.next same (record { text = c.in-Ok.scalar.text; behind = behind }) ((end, g.0, h.0, h.1, h.2), h.3, omega (arith, g.2, h.4)) in
      let k = c.in-Ok-key.ensures.ok in
      entry_goes text c.args.site.next.column (stack c.args.forms.now) c.args.builder.now c.key.new.self c.args.site.at behind c.args.site.next words (record { stage = stage.Value; at = behind }) seen c.requires.fresh inside c.requires.form c.requires.open refl there.0 there.2 there.1 k.1 refl refl k.0;
  fixes =
      let this = c.args.text.now in
      let words = cow_str_bytes c.in-Ok.scalar.text in
      let end = c.in-Ok.scalar.end in
      let behind = c.in-Some-colon_behind.behind in
      let g = found_key this c.as_key.result (as_key false) c.args.site.next words c.in-Ok.scalar.kind end c.as_key.ensures c.in-Ok.ensures.finds in
      let h = c.in-Some-colon_behind.ensures in
      entry_fixes this c.args.site.at c.args.site.next words behind end (record { stage = stage.Value; at = behind }) c.requires.seen c.requires.boundary g.0 h.1 h.2 g.2 g.3 h.3 refl refl;
  opens = form_opening (stack c.args.forms.now) (Entries c.args.site.next.column) (Ok (record { stage = stage.Value; at = c.in-Some-colon_behind.behind })) c.requires.form tt;
  stops = tt;
  longer = tt;
  leaves = value_leaves (record { stage = stage.Value; at = c.in-Some-colon_behind.behind }) refl;
  again = λ starts. tt;
}

pub returns-in-None-colon_behind : goal.returns-in-None-colon_behind
returns-in-None-colon_behind c = record {
  gives = λ text seen inside calm same.
      let this = c.args.text.now in
      let words = cow_str_bytes c.in-Ok.scalar.text in
      let g = found_key this c.as_key.result (as_key false) c.args.site.next words c.in-Ok.scalar.kind c.in-Ok.scalar.end c.as_key.ensures c.in-Ok.ensures.finds in
      let f = found_same this text (as_key false) c.args.site.next same.scalar words c.in-Ok.scalar.kind c.in-Ok.scalar.end g in
      no_colon text c.args.site.next.column (stack c.args.forms.now) c.args.builder.now c.args.site.at c.in-Ok.scalar.end c.args.site.next words seen.0 inside c.requires.form c.requires.open refl f.0 c.in-Ok-key.ensures.ok.1 (subst (λ (x : Ahead). x.fresh ≡ false → x.token ≡ Point true → ⊥) (sym (same.behind words c.in-Ok.scalar.end g.0)) c.in-None-colon_behind.ensures);
  fixes = tt;
  opens = tt;
  stops =
      let this = c.args.text.now in
      let words = cow_str_bytes c.in-Ok.scalar.text in
      let end = c.in-Ok.scalar.end in
      let g = found_key this c.as_key.result (as_key false) c.args.site.next words c.in-Ok.scalar.kind end c.as_key.ensures c.in-Ok.ensures.finds in
      no_line_colon_stops this (stack c.args.forms.now) c.args.builder.now c.args.site.at c.args.site.next c.args.site.next.column words end c.colon_place.result c.requires.seen c.requires.boundary c.requires.form c.requires.open refl g.0 g.2 g.3 c.in-Ok-key.ensures.ok.1 c.in-None-colon_behind.ensures c.colon_place.ensures;
  longer =
      let this = c.args.text.now in
      let words = cow_str_bytes c.in-Ok.scalar.text in
      let g = found_key this c.as_key.result (as_key false) c.args.site.next words c.in-Ok.scalar.kind c.in-Ok.scalar.end c.as_key.ensures c.in-Ok.ensures.finds in
      colon_lengthens this c.utf8.text (stack c.args.forms.now) c.args.builder.now c.args.site.at c.requires.boundary c.args.site.next c.args.site.next.column words c.in-Ok.scalar.end c.requires.seen c.requires.form g.0 g.2 g.3 c.colon_place.result c.requires.behind c.requires.open c.requires.fresh refl c.in-Ok-key.ensures.ok.1 c.in-None-colon_behind.ensures c.colon_place.ensures;
  leaves = tt;
  again = λ starts. tt;
}

pub key-requires : goal.key-requires
key-requires c = record { awaited = awaits_key (Entries c.args.site.next.column) (stack c.args.forms.now) c.args.builder.now c.requires.form (λ e. absurd (cc)) refl c.requires.open.0 c.requires.awaited }

pub colon_behind-requires-clause-boundary : goal.colon_behind-requires-clause-boundary
colon_behind-requires-clause-boundary c = grind (arith, common_steps)

pub find_scalar-requires-clause-boundary : goal.find_scalar-requires-clause-boundary
find_scalar-requires-clause-boundary c = grind (arith, common_steps)

pub find_scalar-requires-clause-starts : goal.find_scalar-requires-clause-starts
find_scalar-requires-clause-starts c = sym c.starts_scalar.ensures ∙ c.if-not-starts_scalar.false

pub colon_place-requires-clause-boundary : goal.colon_place-requires-clause-boundary
colon_place-requires-clause-boundary c = grind (arith, common_steps)
