use Rattle.std.proofs.Common.{◌∷◌, ap, ◌∙◌, refl}
use Rattle.std.specs.Cow.{cow_str_bytes}
use Rattle.doc_values.specs.Unfinished.{with_key}
use Rattle.yaml_grammar.specs.declared.form.Form.TheVariants.{Entries}
use Rattle.yaml_grammar.specs.declared.stage.Stage.TheVariants as stage
use Rattle.yaml_grammar.specs.code.Steps.{stack}
use Rattle.yaml_grammar.proofs.BlockGains.{mapping_goes, mapping_refused, spot_of}
use Rattle.yaml_grammar.proofs.AwaitedNodes.{column_before, small_form, small_place, value_awaited, place_behind}
use Rattle.yaml_grammar.proofs.Fixed.{key_fixes}
use Rattle.yaml_grammar.specs.code.Twins.{NoValue, LengthensAt}
use Rattle.yaml_grammar.proofs.Stopped.{deep_stops}
use Rattle.yaml_grammar.proofs.OtherStops.{deep_on}
use Rattle.yaml_grammar.proofs.Opens.{begun_opening}
use Rattle.std.specs.Prelude.{Ok}
use Rattle.yaml_grammar.proofs.Extended.{value_extends}
use Rattle.yaml_grammar.proofs.FedSites.{mapping_again}
use Rattle.yaml_steps.proofs.openings.mapping.Goals as goal

pub returns-in-Ok-key : goal.returns-in-Ok-key
returns-in-Ok-key c = record {
  gives = λ text w same.
      let fs = stack c.args.forms.now.items in
      let u = c.args.builder.now in
      let words = cow_str_bytes c.args.key.text in
      let b = c.in-Ok.ensures in
      let k = same.key c.requires.takes c.args.key c.requires.key in
      mapping_goes text fs (stack c.begin.new.forms.items) u c.key.new.self c.args.site.form c.args.site.at c.args.key.behind c.args.site.next words (record { stage = stage.Value; at = c.args.key.behind }) w.seen.0 (spot_of text fs u c.args.site.form c.args.site.at c.args.site.next w) k.0 c.requires.takes k.2 k.1 (b.0 ∙ ap (λ n. Entries n ∷ fs) c.column_in-column.ensures) (c.in-Ok-key.ensures.ok.0 ∙ ap (with_key words) b.1) b.2 refl refl;
  fixes = key_fixes c.args.text.now c.args.site.form c.args.site.at c.args.site.next c.args.key (record { stage = stage.Value; at = c.args.key.behind }) c.requires.awaited.seen c.requires.awaited.boundary (place_behind c.args.text.now (stack c.args.forms.now.items) c.args.builder.now c.args.site.form c.args.site.at c.args.site.next c.requires.awaited) c.requires.takes c.requires.key c.requires.ends refl refl;
  opens = begun_opening (Entries c.column_in-column.result) (stack c.args.forms.now.items) (stack c.begin.new.forms.items) (Ok (record { stage = stage.Value; at = c.args.key.behind })) c.in-Ok.ensures.0 tt;
  stops = tt;
  longer = tt;
  extends = value_extends c.args.text.now (stack c.args.forms.now.items) (stack c.begin.new.forms.items) c.args.builder.now c.key.new.self c.args.site.at (record { stage = stage.Value; at = c.args.key.behind }) refl;
  again = λ starts. tt;
}

pub returns-in-Err : goal.returns-in-Err
returns-in-Err c = record {
  gives = λ text w same.
      let fs = stack c.args.forms.now.items in
      let u = c.args.builder.now in
      let words = cow_str_bytes c.args.key.text in
      mapping_refused text fs (stack c.begin.new.forms.items) u c.begin.new.builder c.args.site.form c.args.site.at c.args.key.behind c.args.site.next words c.in-Err.refusal w.seen.0 (spot_of text fs u c.args.site.form c.args.site.at c.args.site.next w) (same.key c.requires.takes c.args.key c.requires.key).0 c.requires.takes c.in-Err.ensures;
  fixes = tt;
  opens = tt;
  stops = deep_stops c.args.text.now c.args.site.at (NoValue c.args.site.at c.args.site.next c.args.site.form (stack c.args.forms.now.items) c.args.builder.now) c.args.builder.now c.args.site.next.at c.in-Err.refusal c.in-Err.ensures;
  longer = deep_on (LengthensAt c.args.text.now stage.Value (stack c.args.forms.now.items) c.args.builder.now c.args.site.at) c.args.builder.now c.args.site.next.at c.in-Err.refusal c.in-Err.ensures;
  extends = tt;
  again = λ starts. mapping_again c.args.text.now (stack c.args.forms.now.items) c.args.builder.now c.args.site.form c.args.site.at c.args.site.next c.args.key c.in-Err.refusal c.requires.awaited c.requires.key c.requires.ends c.requires.takes c.in-Err.ensures;
}

pub returns-in-Err-key : goal.returns-in-Err-key
returns-in-Err-key c = record { gives = λ other v same. tt; fixes = tt; opens = tt; stops = tt; longer = tt; extends = tt; again = λ starts. tt }

pub column_in-column-requires-clause-small : goal.column_in-column-requires-clause-small
column_in-column-requires-clause-small c = small_place c.args.text.now (stack c.args.forms.now.items) c.args.builder.now c.args.site.form c.args.site.at c.args.site.next c.requires.awaited

pub column_in-column-requires-clause-form : goal.column_in-column-requires-clause-form
column_in-column-requires-clause-form c = small_form c.args.text.now (stack c.args.forms.now.items) c.args.builder.now c.args.site.form c.args.site.at c.args.site.next c.requires.awaited

pub column_in-column-requires-clause-column : goal.column_in-column-requires-clause-column
column_in-column-requires-clause-column c = column_before c.args.text.now (stack c.args.forms.now.items) c.args.builder.now c.args.site.form c.args.site.at c.args.site.next c.requires.awaited

pub begin-requires-clause-small : goal.begin-requires-clause-small
begin-requires-clause-small c = small_place c.args.text.now (stack c.args.forms.now.items) c.args.builder.now c.args.site.form c.args.site.at c.args.site.next c.requires.awaited

pub begin-requires-clause-awaited : goal.begin-requires-clause-awaited
begin-requires-clause-awaited c = value_awaited c.args.text.now (stack c.args.forms.now.items) c.args.builder.now c.args.site.form c.args.site.at c.args.site.next c.requires.awaited

pub offset-requires : goal.offset-requires
offset-requires c = small_place c.args.text.now (stack c.args.forms.now.items) c.args.builder.now c.args.site.form c.args.site.at c.args.site.next c.requires.awaited
