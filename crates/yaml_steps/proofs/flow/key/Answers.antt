use Rattle.std.proofs.lemmas.Grind.{common_steps}
use Rattle.std.proofs.Common.{false, inl, inr, ◌≡◌, ◌⊎◌, List, ℕ, drop, sym, ap, ◌∙◌, refl, subst, true, ◌+◌, ◌*◌, arith}
use Rattle.std.specs.Prelude.{Err}
use Rattle.std.specs.Cow.{cow_str_bytes}
use Rattle.doc_values.specs.declared.builder.BuildRefusal.TheVariants as build
use Rattle.doc_values.specs.Tree.{has_key}
use Rattle.yaml_scalars.specs.Scalar.{begins_quoted}
use Rattle.yaml_grammar.specs.declared.stage.Stage.TheVariants as stage
use Rattle.yaml_grammar.specs.code.Rest.{Enters}
use Rattle.yaml_grammar.specs.Nodes.{as_key}
use Rattle.yaml_grammar.specs.code.Steps.{stack, Gives, SameScalar}
use Rattle.yaml_grammar.specs.declared.form.Form.TheVariants.{Flow}
use Rattle.yaml_grammar.proofs.Forms.{awaits_key}
use Rattle.yaml_grammar.proofs.SameTexts.{found_same, finds_same, colon_there, colon_here, colon_last}
use Rattle.yaml_grammar.proofs.Gains.{key_gives, key_signed_gives, find_refused, found_key, no_colon, key_refused}
use Rattle.yaml_grammar.proofs.Fixed.{flow_key_fixes}
use Rattle.yaml_grammar.specs.code.Twins.{NoEntry}
use Rattle.yaml_grammar.specs.Nodes.{node_sign}
use Rattle.yaml_grammar.proofs.Stopped.{signed_stops, built_stops}
use Rattle.yaml_grammar.proofs.StoppedScalars.{key_stops, missed_failed}
use Rattle.yaml_grammar.proofs.KeyTails.{tail_stops}
use Rattle.yaml_grammar.proofs.Scalars.{failed_other}
use Rattle.yaml_grammar.specs.code.StopPlaces.{flow_place}
use Rattle.yaml_grammar.specs.declared.stop.Stop.TheVariants.{Unread}
use Rattle.yaml_grammar.specs.Signs.{Tree}
use Rattle.yaml_grammar.proofs.Fed.{key_feeds}
use Rattle.yaml_grammar.proofs.FlowLengthens.{flow_stops, key_token_lengthens, key_fails_lengthens, key_end_lengthens}
use Rattle.yaml_grammar.proofs.OtherStops.{signed_on, built_on}
use Rattle.yaml_grammar.specs.code.Twins.{LengthensAt}
use Rattle.yaml_grammar.proofs.Extended.{value_shuts}
use Rattle.yaml_grammar.proofs.FedSites.{flow_key_none, built_again, finds_again, signed_again}
use Rattle.yaml_grammar.specs.code.ReadAgain.{NoneLonger}
use Rattle.yaml_steps.proofs.flow.key.Goals as goal

pub returns-in-Some : goal.returns-in-Some
returns-in-Some c = record {
  gives = λ text seen same.
      let fs = stack c.args.forms.now in
      key_signed_gives text (2 * c.args.site.at + 2) fs fs c.args.builder.now c.args.builder.now c.args.site.at c.args.site.next c.in-Some.refusal seen.0 c.requires.there c.requires.unmarked (c.requires.form ∙ c.requires.map) c.requires.open c.in-Some.ensures;
  fixes = tt;
  feeds = tt;
  shuts = tt;
  stops = signed_stops c.args.text.now c.args.site.at (NoEntry c.args.site.at c.args.site.next (stack c.args.forms.now) c.args.builder.now) (node_sign false c.args.site.next.at c.args.site.next.token) c.in-Some.refusal c.in-Some.ensures;
  longer = signed_on (LengthensAt c.args.text.now stage.Entry (stack c.args.forms.now) c.args.builder.now c.args.site.at) (node_sign false c.args.site.next.at c.args.site.next.token) c.in-Some.refusal c.in-Some.ensures;
  again = λ starts. signed_again (NoneLonger c.args.text.now stage.Entry (stack c.args.forms.now) c.args.builder.now c.args.site.at) false c.args.site.next c.in-Some.refusal starts c.in-Some.ensures;
}

pub returns-then-not-starts_scalar : goal.returns-then-not-starts_scalar
returns-then-not-starts_scalar c = record {
  gives = λ text seen same. find_refused text (stack c.args.forms.now) c.args.builder.now c.args.builder.now c.args.site.at c.args.site.next (as_key true) (Unread c.flow_place.result) refl seen.0 c.requires.there c.in-None.ensures c.requires.unmarked (c.requires.form ∙ c.requires.map) c.requires.open (inr (inl ((c.flow_place.result, refl), failed_other text (as_key true) c.args.site.next (sym c.starts_scalar.ensures ∙ c.if-not-starts_scalar.true))));
  fixes = tt;
  feeds = tt;
  shuts = tt;
  stops = flow_stops c.args.text.now c.args.site.at (NoEntry c.args.site.at c.args.site.next (stack c.args.forms.now) c.args.builder.now) c.args.site.next c.flow_place.result c.requires.seen.0 c.flow_place.ensures (λ text told seen v h. find_refused text (stack c.args.forms.now) c.args.builder.now c.args.builder.now c.args.site.at c.args.site.next (as_key true) (Unread c.flow_place.result) refl seen.0 c.requires.there c.in-None.ensures c.requires.unmarked (c.requires.form ∙ c.requires.map) c.requires.open (inr (inl ((c.flow_place.result, refl), failed_other text (as_key true) c.args.site.next (sym c.starts_scalar.ensures ∙ c.if-not-starts_scalar.true)))) (Tree v) h);
  longer = key_token_lengthens c.args.text.now c.utf8.text (stack c.args.forms.now) c.args.builder.now c.args.site.at c.requires.boundary c.args.site.next c.flow_place.result c.requires.seen.0 (c.requires.form ∙ c.requires.map) c.requires.open c.requires.awaited (sym c.starts_scalar.ensures ∙ c.if-not-starts_scalar.true) c.requires.there c.requires.unmarked c.flow_place.ensures;
  again = λ starts. tt;
}

pub returns-in-Err : goal.returns-in-Err
returns-in-Err c = record {
  gives = λ text seen same. find_refused text (stack c.args.forms.now) c.args.builder.now c.args.builder.now c.args.site.at c.args.site.next c.as_key.result c.in-Err.refusal c.as_key.ensures seen.0 c.requires.there c.in-None.ensures c.requires.unmarked (c.requires.form ∙ c.requires.map) c.requires.open (finds_same c.args.text.now text c.as_key.result c.args.site.next (subst (λ z. SameScalar c.args.text.now text z c.args.site.next) (sym c.as_key.ensures) same.scalar) c.in-Err.refusal c.in-Err.ensures.finds);
  fixes = tt;
  feeds = tt;
  shuts = tt;
  stops =
      let starts = sym c.starts_scalar.ensures ∙ c.if-not-starts_scalar.false in
      key_stops c.args.text.now true c.args.site.at c.args.site.next (NoEntry c.args.site.at c.args.site.next (stack c.args.forms.now) c.args.builder.now) c.requires.seen.0 starts (λ other none seen t h. find_refused other (stack c.args.forms.now) c.args.builder.now c.args.builder.now c.args.site.at c.args.site.next (as_key true) (Unread 0) refl seen.0 c.requires.there c.in-None.ensures c.requires.unmarked (c.requires.form ∙ c.requires.map) c.requires.open (inr (inl ((0, refl), missed_failed other true c.args.site.next none))) (Tree t) h) c.as_key.result c.in-Err.refusal c.as_key.ensures (λ q e. c.in-Err.ensures.place q (ap Err e));
  longer = key_fails_lengthens c.args.text.now c.utf8.text (stack c.args.forms.now) c.args.builder.now c.args.site.at c.requires.boundary c.args.site.next c.as_key.result c.in-Err.refusal c.requires.seen.0 (sym c.starts_scalar.ensures ∙ c.if-not-starts_scalar.false) c.as_key.ensures (λ q e. c.in-Err.ensures.place q (ap Err e)) (c.requires.form ∙ c.requires.map) c.requires.open;
  again = λ starts. finds_again (NoneLonger c.args.text.now stage.Entry (stack c.args.forms.now) c.args.builder.now c.args.site.at) c.args.text.now true c.as_key.result c.args.site.next c.in-Err.refusal c.as_key.ensures c.in-Err.ensures.finds;
}

pub returns-in-Err-key : goal.returns-in-Err-key
returns-in-Err-key c = record {
  gives = λ text seen same.
      let this = c.args.text.now in
      let words = cow_str_bytes c.in-Ok.scalar.text in
      let u = c.args.builder.now in
      let g = found_key this c.as_key.result (as_key true) c.args.site.next words c.in-Ok.scalar.kind c.in-Ok.scalar.end c.as_key.ensures c.in-Ok.ensures.finds in
      let f = found_same this text (as_key true) c.args.site.next same.scalar words c.in-Ok.scalar.kind c.in-Ok.scalar.end g in
      let k = c.in-Err-key.ensures in
      subst (λ e. Gives text (Enters text (stack c.args.forms.now) u.outer u.done c.args.site.at) (2 * c.args.site.at + 2) (stack c.args.forms.now) c.key.new.self (Err e)) (sym c.from.ensures) (key_refused text (stack c.args.forms.now) u c.key.new.self c.args.site.at c.in-Ok.scalar.end c.args.site.next words c.in-Err-key.refusal seen.0 c.requires.there (c.requires.form ∙ c.requires.map) c.requires.open f.0 (subst (λ n. (c.in-Err-key.refusal ≡ build.NoMemory) ⊎ ((c.in-Err-key.refusal ≡ build.DuplicateKey n) × (has_key u.done words ≡ true))) c.offset.ensures k.refused));
  fixes = tt;
  feeds = tt;
  shuts = tt;
  stops = built_stops c.args.text.now c.args.site.at (NoEntry c.args.site.at c.args.site.next (stack c.args.forms.now) c.args.builder.now) c.in-Err-key.refusal c.from.result c.from.ensures;
  longer = built_on (LengthensAt c.args.text.now stage.Entry (stack c.args.forms.now) c.args.builder.now c.args.site.at) c.in-Err-key.refusal c.from.result c.from.ensures;
  again = λ starts.
      let this = c.args.text.now in
      let fs = stack c.args.forms.now in
      let u = c.args.builder.now in
      let words = cow_str_bytes c.in-Ok.scalar.text in
      let g = found_key this c.as_key.result (as_key true) c.args.site.next words c.in-Ok.scalar.kind c.in-Ok.scalar.end c.as_key.ensures c.in-Ok.ensures.finds in
      built_again (NoneLonger this stage.Entry fs u c.args.site.at) c.offset.result (has_key u.done words ≡ true) c.in-Err-key.refusal c.from.result c.from.ensures c.in-Err-key.ensures.refused (λ again. flow_key_none this fs u c.args.site.at c.args.site.next words c.in-Ok.scalar.end starts again c.requires.open c.requires.boundary.0 c.requires.seen.0 g.0 (c.requires.form ∙ c.requires.map));
}

pub returns-in-Some-colon : goal.returns-in-Some-colon
returns-in-Some-colon c = record {
  gives = λ text seen same.
      let this = c.args.text.now in
      let words = cow_str_bytes c.in-Ok.scalar.text in
      let place = c.in-Some-colon.place in
      let quoted : c.is_quoted.result ≡ begins_quoted (drop c.args.site.next.at this) = c.is_quoted.ensures ∙ ap (λ (t : List ℕ). begins_quoted (drop c.args.site.next.at t)) c.as_bytes.ensures.value in
      let g = found_key this c.as_key.result (as_key true) c.args.site.next words c.in-Ok.scalar.kind c.in-Ok.scalar.end c.as_key.ensures c.in-Ok.ensures.finds in
      let f = found_same this text (as_key true) c.args.site.next same.scalar words c.in-Ok.scalar.kind c.in-Ok.scalar.end g in
      let h = c.in-Some-colon.ensures in
      let k = c.in-Ok-key.ensures in
      key_gives text (stack c.args.forms.now) c.args.builder.now c.key.new.self c.args.site.at place c.in-Ok.scalar.end c.args.site.next words c.in-Ok.scalar.kind (record { stage = stage.Value; at = place }) seen c.requires.there (c.requires.form ∙ c.requires.map) c.requires.open f h.2 (colon_last this text c.args.site.next same words c.in-Ok.scalar.end g.0 c.is_quoted.result place h.0 h.1 f.3) (colon_there this text c.args.site.next same words c.in-Ok.scalar.end g.0 c.is_quoted.result place quoted h.0) k.ok.1 refl refl k.ok.0;
  fixes =
      let this = c.args.text.now in
      let words = cow_str_bytes c.in-Ok.scalar.text in
      let end = c.in-Ok.scalar.end in
      let place = c.in-Some-colon.place in
      let g = found_key this c.as_key.result (as_key true) c.args.site.next words c.in-Ok.scalar.kind end c.as_key.ensures c.in-Ok.ensures.finds in
      let h = c.in-Some-colon.ensures in
      flow_key_fixes this c.args.site.at c.args.site.next c.is_quoted.result words place end (record { stage = stage.Value; at = place }) c.requires.seen c.requires.boundary g.0 g.2 g.3 h.0 h.1 refl refl;
  feeds =
      let this = c.args.text.now in
      let words = cow_str_bytes c.in-Ok.scalar.text in
      let end = c.in-Ok.scalar.end in
      let place = c.in-Some-colon.place in
      let g = found_key this c.as_key.result (as_key true) c.args.site.next words c.in-Ok.scalar.kind end c.as_key.ensures c.in-Ok.ensures.finds in
      key_feeds this c.args.site.at c.args.site.next c.requires.seen c.requires.boundary c.is_quoted.result words place end (record { stage = stage.Value; at = place }) g.0 g.2 g.3 c.in-Some-colon.ensures.0;
  shuts = value_shuts c.args.text.now c.args.site.at (stack c.args.forms.now) (record { stage = stage.Value; at = c.in-Some-colon.place }) refl;
  stops = tt;
  longer = tt;
  again = λ starts. tt;
}

pub returns-in-None-colon : goal.returns-in-None-colon
returns-in-None-colon c = record {
  gives = λ text seen same.
      let this = c.args.text.now in
      let words = cow_str_bytes c.in-Ok.scalar.text in
      let quoted : c.is_quoted.result ≡ begins_quoted (drop c.args.site.next.at this) = c.is_quoted.ensures ∙ ap (λ (t : List ℕ). begins_quoted (drop c.args.site.next.at t)) c.as_bytes.ensures.value in
      let g = found_key this c.as_key.result (as_key true) c.args.site.next words c.in-Ok.scalar.kind c.in-Ok.scalar.end c.as_key.ensures c.in-Ok.ensures.finds in
      let f = found_same this text (as_key true) c.args.site.next same.scalar words c.in-Ok.scalar.kind c.in-Ok.scalar.end g in
      no_colon text (stack c.args.forms.now) c.args.builder.now.outer c.args.builder.now.done c.args.site.at c.in-Ok.scalar.end c.args.site.next words seen.0 c.requires.there (c.requires.form ∙ c.requires.map) c.requires.open.0 f.0 c.in-Ok-key.ensures.ok.1 (λ p h. c.in-None-colon.ensures p (colon_here this text c.args.site.next same words c.in-Ok.scalar.end g.0 c.is_quoted.result p quoted h));
  fixes = tt;
  feeds = tt;
  shuts = tt;
  stops =
      let this = c.args.text.now in
      let words = cow_str_bytes c.in-Ok.scalar.text in
      let end = c.in-Ok.scalar.end in
      let quoted : c.is_quoted.result ≡ begins_quoted (drop c.args.site.next.at this) = c.is_quoted.ensures ∙ ap (λ (t : List ℕ). begins_quoted (drop c.args.site.next.at t)) c.as_bytes.ensures.value in
      let g = found_key this c.as_key.result (as_key true) c.args.site.next words c.in-Ok.scalar.kind end c.as_key.ensures c.in-Ok.ensures.finds in
      tail_stops this c.utf8.text c.args.site.at c.args.site.next c.requires.seen c.requires.boundary words end g.0 g.2 g.3 c.is_quoted.result c.in-None-colon.ensures c.flow_place-in-None-colon.result (c.flow_place-in-None-colon.ensures ∙ ap (flow_place this) c.look.ensures.0) (stack c.args.forms.now) c.args.builder.now c.requires.there (c.requires.form ∙ c.requires.map) c.requires.open c.in-Ok-key.ensures.ok.1 quoted;
  longer =
      let this = c.args.text.now in
      let words = cow_str_bytes c.in-Ok.scalar.text in
      let end = c.in-Ok.scalar.end in
      let g = found_key this c.as_key.result (as_key true) c.args.site.next words c.in-Ok.scalar.kind end c.as_key.ensures c.in-Ok.ensures.finds in
      key_end_lengthens this c.utf8.text (stack c.args.forms.now) c.args.builder.now c.args.site.at c.requires.boundary c.args.site.next words end c.flow_place-in-None-colon.result c.is_quoted.result c.requires.seen (c.requires.form ∙ c.requires.map) c.requires.open g.0 g.2 g.3 c.in-Ok-key.ensures.ok.1 c.in-None-colon.ensures (c.flow_place-in-None-colon.ensures ∙ ap (flow_place this) c.look.ensures.0);
  again = λ starts. tt;
}

pub key-requires : goal.key-requires
key-requires c = record { awaited = awaits_key (Flow true) (stack c.args.forms.now) c.args.builder.now (c.requires.form ∙ c.requires.map) (λ e. absurd (cc)) refl c.requires.open.0 c.requires.awaited }

pub colon-requires-clause-boundary : goal.colon-requires-clause-boundary
colon-requires-clause-boundary c = grind (arith, common_steps)

pub find_scalar-requires-clause-starts : goal.find_scalar-requires-clause-starts
find_scalar-requires-clause-starts c = sym c.starts_scalar.ensures ∙ c.if-not-starts_scalar.false
