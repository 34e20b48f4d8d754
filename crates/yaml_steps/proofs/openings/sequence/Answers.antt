use Rattle.std.proofs.Common.{◌∷◌, ap, ◌∙◌, refl}
use Rattle.yaml_grammar.specs.declared.form.Form.TheVariants.{Items}
use Rattle.yaml_grammar.specs.declared.stage.Stage.TheVariants as stage
use Rattle.yaml_grammar.specs.code.Steps.{stack}
use Rattle.yaml_grammar.proofs.BlockGains.{sequence_goes, sequence_refused, spot_of}
use Rattle.yaml_grammar.proofs.AwaitedNodes.{column_before, small_form, small_place, value_awaited, place_behind}
use Rattle.yaml_grammar.proofs.Fixed.{dash_fixes}
use Rattle.yaml_grammar.specs.code.Twins.{NoValue, LengthensAt}
use Rattle.yaml_grammar.proofs.Stopped.{deep_stops}
use Rattle.yaml_grammar.proofs.OtherStops.{deep_on}
use Rattle.yaml_grammar.proofs.Opens.{begun_opening}
use Rattle.std.specs.Prelude.{Ok}
use Rattle.yaml_grammar.proofs.Extended.{value_extends}
use Rattle.yaml_grammar.specs.declared.ahead.Token.TheVariants.{Dash}
use Rattle.yaml_grammar.proofs.ValueReads.{begins-none}
use Rattle.yaml_steps.proofs.openings.sequence.Goals as goal

pub returns-in-Ok : goal.returns-in-Ok
returns-in-Ok c = record {
  gives = λ text w same.
      let fs = stack c.args.forms.now.items in
      let u = c.args.builder.now in
      let b = c.in-Ok.ensures in
      sequence_goes text fs (stack c.begin.new.forms.items) u c.begin.new.builder c.args.site.form c.args.site.at c.args.site.next (record { stage = stage.Value; at = c.args.site.next.behind }) w.seen.0 (spot_of text fs u c.args.site.form c.args.site.at c.args.site.next w) c.requires.dash c.requires.takes (b.0 ∙ ap (λ n. Items n ∷ fs) c.column_in-column.ensures) b.1 b.2 refl refl;
  fixes = dash_fixes c.args.text.now c.args.site.form c.args.site.at c.args.site.next c.requires.awaited.seen c.requires.awaited.boundary (place_behind c.args.text.now (stack c.args.forms.now.items) c.args.builder.now c.args.site.form c.args.site.at c.args.site.next c.requires.awaited) c.requires.dash (record { stage = stage.Value; at = c.args.site.next.behind }) refl refl;
  opens = begun_opening (Items c.column_in-column.result) (stack c.args.forms.now.items) (stack c.begin.new.forms.items) (Ok (record { stage = stage.Value; at = c.args.site.next.behind })) c.in-Ok.ensures.0 tt;
  stops = tt;
  longer = tt;
  extends = value_extends c.args.text.now (stack c.args.forms.now.items) (stack c.begin.new.forms.items) c.args.builder.now c.begin.new.builder c.args.site.at (record { stage = stage.Value; at = c.args.site.next.behind }) refl;
  again = λ starts. tt;
}

pub returns-in-Err : goal.returns-in-Err
returns-in-Err c = record {
  gives = λ text w same.
      let fs = stack c.args.forms.now.items in
      let u = c.args.builder.now in
      sequence_refused text fs (stack c.begin.new.forms.items) u c.begin.new.builder c.args.site.form c.args.site.at c.args.site.next c.in-Err.refusal w.seen.0 (spot_of text fs u c.args.site.form c.args.site.at c.args.site.next w) c.requires.dash c.requires.takes c.in-Err.ensures;
  fixes = tt;
  opens = tt;
  stops = deep_stops c.args.text.now c.args.site.at (NoValue c.args.site.at c.args.site.next c.args.site.form (stack c.args.forms.now.items) c.args.builder.now) c.args.builder.now c.args.site.next.at c.in-Err.refusal c.in-Err.ensures;
  longer = deep_on (LengthensAt c.args.text.now stage.Value (stack c.args.forms.now.items) c.args.builder.now c.args.site.at) c.args.builder.now c.args.site.next.at c.in-Err.refusal c.in-Err.ensures;
  extends = tt;
  again = λ starts. absurd (begins-none c.args.site.next.token Dash c.requires.dash refl starts);
}

pub column_in-column-requires-clause-small : goal.column_in-column-requires-clause-small
column_in-column-requires-clause-small c = small_place c.args.text.now (stack c.args.forms.now.items) c.args.builder.now c.args.site.form c.args.site.at c.args.site.next c.requires.awaited

pub column_in-column-requires-clause-form : goal.column_in-column-requires-clause-form
column_in-column-requires-clause-form c = small_form c.args.text.now (stack c.args.forms.now.items) c.args.builder.now c.args.site.form c.args.site.at c.args.site.next c.requires.awaited

pub column_in-column-requires-clause-column : goal.column_in-column-requires-clause-column
column_in-column-requires-clause-column c = column_before c.args.text.now (stack c.args.forms.now.items) c.args.builder.now c.args.site.form c.args.site.at c.args.site.next c.requires.awaited

pub begin-requires-clause-small : goal.begin-requires-clause-small
begin-requires-clause-small c = small_place c.args.text.now (stack c.args.forms.now.items) c.args.builder.now c.args.site.form c.args.site.at c.args.site.next c.requires.awaited

pub begin-requires-clause-awaited : goal.begin-requires-clause-awaited
begin-requires-clause-awaited c = value_awaited c.args.text.now (stack c.args.forms.now.items) c.args.builder.now c.args.site.form c.args.site.at c.args.site.next c.requires.awaited
