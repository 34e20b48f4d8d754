use Rattle.std.proofs.Common.{◌∙◌, sym, ap}
use Rattle.yaml_grammar.specs.Signs.{Tree}
use Rattle.yaml_grammar.specs.code.Steps.{is_ending}
use Rattle.yaml_grammar.specs.code.Twins.{NoValue}
use Rattle.yaml_grammar.proofs.AwaitedNodes.{seen_place}
use Rattle.yaml_grammar.proofs.Lengthened.{dash_stops}
use Rattle.yaml_grammar.proofs.LastNodes.{late_dash_none, late_dash_lengthens}
use Rattle.yaml_grammar.specs.declared.ahead.Token.TheVariants.{Dash}
use Rattle.yaml_grammar.proofs.ValueReads.{begins-none}
use Rattle.std.proofs.Common.{refl}
use Rattle.yaml_steps.proofs.absent.late_dash.Goals as goal

pub returns-then-takes_scalar : goal.returns-then-takes_scalar
returns-then-takes_scalar c = λ fs awaited. record {
  gives = λ text w same v h. late_dash_none text fs c.args.builder.now c.args.site.form c.args.site.at c.args.site.next w c.requires.dash (sym c.takes_scalar.ensures ∙ c.if-takes_scalar.true) c.requires.none c.requires.unsigned v h;
  fixes = tt;
  opens = tt;
  stops = dash_stops c.args.text.now c.args.site.at (NoValue c.args.site.at c.args.site.next c.args.site.form fs c.args.builder.now) c.args.site.next c.dash_place.result awaited.seen.0 (ap is_ending c.requires.dash) c.dash_place.ensures (λ text w v h. late_dash_none text fs c.args.builder.now c.args.site.form c.args.site.at c.args.site.next w c.requires.dash (sym c.takes_scalar.ensures ∙ c.if-takes_scalar.true) c.requires.none c.requires.unsigned (Tree v) h);
  longer = late_dash_lengthens c.args.text.now c.utf8.text fs c.args.builder.now c.args.site.at awaited.boundary c.args.site.form c.args.site.next c.dash_place.result awaited c.requires.dash (sym c.takes_scalar.ensures ∙ c.if-takes_scalar.true) c.dash_place.ensures;
  extends = tt;
  again = λ starts. absurd (begins-none c.args.site.next.token Dash c.requires.dash refl starts);
}

pub dash_place-requires-clause-within : goal.dash_place-requires-clause-within
dash_place-requires-clause-within c = seen_place c.args.text.now c.args.site.at c.args.site.next c.requires.awaited.1.seen
