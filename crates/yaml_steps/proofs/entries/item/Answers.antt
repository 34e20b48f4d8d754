use Rattle.std.proofs.Common.{refl}
use Rattle.yaml_grammar.specs.declared.stage.Stage.TheVariants as stage
use Rattle.yaml_grammar.specs.code.Steps.{stack}
use Rattle.yaml_grammar.proofs.BlockGains.{item_stays, item_goes}
use Rattle.yaml_grammar.proofs.Fixed.{item_fixes}
use Rattle.yaml_grammar.proofs.Opens.{form_opening}
use Rattle.std.specs.Prelude.{Ok}
use Rattle.yaml_grammar.specs.declared.form.Form.TheVariants.{Items}
use Rattle.yaml_grammar.proofs.Extended.{value_leaves}
use Rattle.yaml_steps.proofs.entries.item.Goals as goal

pub returns-in-Dash : goal.returns-in-Dash
returns-in-Dash c = record {
  gives = λ text seen inside calm same. item_goes text c.args.site.next.column (stack c.args.forms.now) c.args.builder.now c.args.site.at c.args.site.next (record { stage = stage.Value; at = c.args.site.next.behind }) seen c.requires.fresh inside c.requires.form c.requires.open c.requires.awaited refl c.in-Dash.is refl refl;
  fixes = item_fixes c.args.text.now c.args.site.at c.args.site.next c.requires.seen c.requires.boundary c.in-Dash.is (record { stage = stage.Value; at = c.args.site.next.behind }) refl refl;
  opens = form_opening (stack c.args.forms.now) (Items c.args.site.next.column) (Ok (record { stage = stage.Value; at = c.args.site.next.behind })) c.requires.form tt;
  stops = tt;
  longer = tt;
  leaves = value_leaves (record { stage = stage.Value; at = c.args.site.next.behind }) refl;
  again = λ starts. tt;
}

pub returns-in_default : goal.returns-in_default
returns-in_default c = absurd (item_stays c.args.site.next.column c.args.site.next c.requires.stays refl c.in_default.not-Dash)
