use Rattle.std.proofs.Common.{◌+◌, ◌*◌, false, sym, subst}
use Rattle.yaml_grammar.specs.declared.ahead.Ahead.{Ahead}
use Rattle.yaml_grammar.specs.code.Steps.{stack, Awaited}
use Rattle.yaml_grammar.proofs.BlockGains.{node_signed_gives, spot_of}
use Rattle.yaml_grammar.specs.code.Twins.{NoValue, LengthensAt}
use Rattle.yaml_grammar.specs.Ahead.{ahead}
use Rattle.yaml_grammar.specs.Blocks.{block_sign}
use Rattle.yaml_grammar.proofs.Stopped.{signed_stops}
use Rattle.yaml_grammar.proofs.OtherStops.{signed_on}
use Rattle.yaml_grammar.specs.declared.stage.Stage.TheVariants as stage
use Rattle.yaml_grammar.proofs.FedSites.{block_signed_again}
use Rattle.yaml_grammar.specs.Nodes.{starts_scalar}
use Rattle.yaml_grammar.specs.code.ReadAgain.{NoneLonger}
use Rattle.std.proofs.Common.{◌≡◌, true}
use Rattle.yaml_grammar.specs.code.Reads.{ValueRead}
use Rattle.yaml_blocks.proofs.block.node.Goals as goal

pub returns-in-Some : goal.returns-in-Some
returns-in-Some c = record {
  gives = λ text w same.
      let fs = stack c.args.forms.now.items in
      let u = c.args.builder.now in
      let next = c.args.site.next in
      let now = subst (λ (a : Ahead). Awaited text fs u c.args.site.form c.args.site.at a) (sym c.requires.seen.0) w in
      node_signed_gives text (2 * c.args.site.at + 1) fs fs u u c.args.site.form c.args.site.at next c.in-Some.refusal now.seen.0 (spot_of text fs u c.args.site.form c.args.site.at next now) c.in-Some.ensures;
  fixes = tt;
  opens = tt;
  stops = signed_stops c.args.text.now c.args.site.at (NoValue c.args.site.at (ahead c.args.text.now false c.args.site.at) c.args.site.form (stack c.args.forms.now.items) c.args.builder.now) (block_sign c.args.site.form c.args.site.next) c.in-Some.refusal c.in-Some.ensures;
  longer = signed_on (LengthensAt c.args.text.now stage.Value (stack c.args.forms.now.items) c.args.builder.now c.args.site.at) (block_sign c.args.site.form c.args.site.next) c.in-Some.refusal c.in-Some.ensures;
  extends = tt;
  again = λ starts. block_signed_again (NoneLonger c.args.text.now stage.Value (stack c.args.forms.now.items) c.args.builder.now c.args.site.at) c.args.site.form c.args.site.next c.in-Some.refusal (subst (λ (a : Ahead). starts_scalar a.token ≡ true) (sym c.requires.seen.0) starts) c.in-Some.ensures;
}

pub returns-in-None : goal.returns-in-None
returns-in-None c = subst (λ (a : Ahead). ValueRead c.args.text.now c.args.site.form c.args.site.at a (stack c.args.forms.now.items) c.args.builder.now (stack c.node_at.new.forms.items) c.node_at.new.builder c.node_at.result) c.requires.seen.0 c.node_at.ensures
