use Rattle.yaml_grammar.specs.code.Steps.{stack}
use Rattle.yaml_grammar.proofs.BlockGains.{brackets_gives, spot_of}
use Rattle.yaml_grammar.proofs.Fixed.{opens_fixes}
use Rattle.yaml_grammar.proofs.AwaitedNodes.{place_behind}
use Rattle.yaml_grammar.specs.code.Twins.{NoValue, LengthensAt}
use Rattle.yaml_grammar.proofs.Stopped.{opened_stops}
use Rattle.yaml_grammar.proofs.OtherStops.{opened_on}
use Rattle.yaml_grammar.specs.declared.stage.Stage.TheVariants as stage
use Rattle.yaml_grammar.proofs.Opens.{bracket_opening}
use Rattle.std.proofs.Common.{false}
use Rattle.yaml_grammar.proofs.Extended.{opened_extends}
use Rattle.yaml_grammar.specs.declared.ahead.Token.TheVariants.{Opens}
use Rattle.yaml_grammar.proofs.ValueReads.{begins-none}
use Rattle.std.proofs.Common.{refl}
use Rattle.yaml_steps.proofs.openings.brackets.Goals as goal

pub returns : goal.returns
returns c = record {
  gives = λ text w same.
      let fs = stack c.args.forms.now.items in
      let u = c.args.builder.now in
      brackets_gives text fs (stack c.open.new.forms.items) u c.open.new.builder c.args.site.form c.args.site.at c.args.map c.args.site.next c.open.result w.seen.0 (spot_of text fs u c.args.site.form c.args.site.at c.args.site.next w) c.requires.opens c.requires.takes c.open.ensures;
  fixes = opens_fixes c.args.text.now c.args.site.form c.args.site.at c.args.map c.args.site.next (stack c.args.forms.now.items) (stack c.open.new.forms.items) c.args.builder.now c.open.new.builder c.open.result c.requires.awaited.seen c.requires.awaited.boundary (place_behind c.args.text.now (stack c.args.forms.now.items) c.args.builder.now c.args.site.form c.args.site.at c.args.site.next c.requires.awaited) c.requires.opens c.open.ensures;
  opens = bracket_opening c.args.text.now false c.args.site.at c.args.map c.args.site.next (stack c.args.forms.now.items) (stack c.open.new.forms.items) c.args.builder.now c.open.new.builder c.open.result c.requires.awaited.seen c.requires.opens c.open.ensures;
  stops = opened_stops c.args.text.now c.args.site.at (NoValue c.args.site.at c.args.site.next c.args.site.form (stack c.args.forms.now.items) c.args.builder.now) c.args.map c.args.site.next (stack c.args.forms.now.items) (stack c.open.new.forms.items) c.args.builder.now c.open.new.builder c.open.result c.open.ensures;
  longer = opened_on (LengthensAt c.args.text.now stage.Value (stack c.args.forms.now.items) c.args.builder.now c.args.site.at) c.args.map c.args.site.next (stack c.args.forms.now.items) (stack c.open.new.forms.items) c.args.builder.now c.open.new.builder c.open.result c.open.ensures;
  extends = opened_extends c.args.text.now c.args.map c.args.site.next (stack c.args.forms.now.items) (stack c.open.new.forms.items) c.args.builder.now c.open.new.builder c.args.builder.now c.args.site.at c.open.result c.open.ensures;
  again = λ starts. absurd (begins-none c.args.site.next.token (Opens c.args.map) c.requires.opens refl starts);
}
