use Rattle.std.proofs.Common.{false}
use Rattle.yaml_grammar.specs.code.Steps.{stack}
use Rattle.yaml_grammar.proofs.Gains.{tag_cut}
use Rattle.yaml_grammar.proofs.BlockGains.{tag_gives, spot_of}
use Rattle.yaml_grammar.proofs.SameTexts.{tag_same}
use Rattle.yaml_grammar.proofs.AwaitedNodes.{small_form, place_behind}
use Rattle.yaml_grammar.proofs.Fixed.{tag_fixes}
use Rattle.yaml_grammar.specs.code.Twins.{NoValue, LengthensAt}
use Rattle.yaml_grammar.proofs.Stopped.{tag_stops}
use Rattle.yaml_grammar.proofs.OtherStops.{tag_on}
use Rattle.yaml_grammar.specs.declared.stage.Stage.TheVariants as stage
use Rattle.yaml_grammar.proofs.Opens.{tag_opening}
use Rattle.std.proofs.Common.{sym, subst}
use Rattle.yaml_grammar.specs.code.Steps.{IsBlock}
use Rattle.yaml_grammar.specs.declared.form.Form.{Form}
use Rattle.yaml_grammar.proofs.Extended.{tag_extends}
use Rattle.yaml_grammar.specs.declared.ahead.Token.TheVariants.{Tag}
use Rattle.yaml_grammar.proofs.ValueReads.{begins-none}
use Rattle.std.proofs.Common.{refl}
use Rattle.yaml_steps.proofs.openings.tag.Goals as goal

pub returns : goal.returns
returns c = record {
  gives = λ text w same.
      let fs = stack c.args.forms.now.items in
      let u = c.args.builder.now in
      tag_gives text fs (stack c.begin_tag.new.forms.items) u c.begin_tag.new.builder c.args.site.form c.tagged.result c.args.site.at c.requires.tag.0 c.args.site.next c.begin_tag.result w.seen.0 (spot_of text fs u c.args.site.form c.args.site.at c.args.site.next w) c.requires.tag.1 c.requires.takes c.tagged.ensures (tag_same c.args.text.now text c.tagged.result c.args.site.next fs (stack c.begin_tag.new.forms.items) u c.begin_tag.new.builder c.begin_tag.result (same.name c.requires.tag.0 c.requires.takes c.requires.tag.1) c.begin_tag.ensures);
  fixes = tag_fixes c.args.text.now c.args.site.form c.tagged.result c.args.site.at c.requires.tag.0 c.args.site.next (stack c.args.forms.now.items) (stack c.begin_tag.new.forms.items) c.args.builder.now c.begin_tag.new.builder c.begin_tag.result c.requires.awaited.seen c.requires.awaited.boundary (place_behind c.args.text.now (stack c.args.forms.now.items) c.args.builder.now c.args.site.form c.args.site.at c.args.site.next c.requires.awaited) c.requires.tag.1 c.begin_tag.ensures;
  opens = tag_opening c.args.text.now c.tagged.result c.args.site.next (stack c.args.forms.now.items) (stack c.begin_tag.new.forms.items) c.args.builder.now c.begin_tag.new.builder c.begin_tag.result (subst (λ (f : Form). IsBlock f) (sym c.tagged.ensures) tt) c.begin_tag.ensures;
  stops = tag_stops c.args.text.now c.args.site.at (NoValue c.args.site.at c.args.site.next c.args.site.form (stack c.args.forms.now.items) c.args.builder.now) c.tagged.result c.args.site.next (stack c.args.forms.now.items) (stack c.begin_tag.new.forms.items) c.args.builder.now c.begin_tag.new.builder c.begin_tag.result c.begin_tag.ensures;
  longer = tag_on (LengthensAt c.args.text.now stage.Value (stack c.args.forms.now.items) c.args.builder.now c.args.site.at) c.args.text.now c.tagged.result c.args.site.next (stack c.args.forms.now.items) (stack c.begin_tag.new.forms.items) c.args.builder.now c.begin_tag.new.builder c.begin_tag.result c.begin_tag.ensures;
  extends = tag_extends c.args.text.now c.tagged.result c.args.site.next (stack c.args.forms.now.items) (stack c.begin_tag.new.forms.items) c.args.builder.now c.begin_tag.new.builder c.args.builder.now c.args.site.at c.begin_tag.result c.begin_tag.ensures;
  again = λ starts. absurd (begins-none c.args.site.next.token (Tag c.requires.tag.0) c.requires.tag.1 refl starts);
}

pub begin_tag-requires-clause-first : goal.begin_tag-requires-clause-first
begin_tag-requires-clause-first c = tag_cut c.args.text.now false c.args.site.at c.requires.tag.0 c.args.site.next c.requires.awaited.seen c.requires.tag.1

pub tagged-requires : goal.tagged-requires
tagged-requires c = small_form c.args.text.now (stack c.args.forms.now.items) c.args.builder.now c.args.site.form c.args.site.at c.args.site.next c.requires.awaited
