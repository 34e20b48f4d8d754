use Rattle.std.proofs.Common.{true}
use Rattle.yaml_grammar.specs.code.Steps.{stack}
use Rattle.yaml_grammar.specs.declared.form.Form.TheVariants.{FlowTagged}
use Rattle.yaml_grammar.proofs.SameTexts.{tag_same}
use Rattle.yaml_grammar.proofs.Gains.{flow_spot, flow_tag_gives, tag_cut, tag_flow}
use Rattle.yaml_grammar.proofs.Fixed.{flow_tag_fixes}
use Rattle.yaml_grammar.specs.code.Twins.{NoFlowValue}
use Rattle.yaml_grammar.proofs.Stopped.{tag_stops}
use Rattle.yaml_grammar.proofs.Fed.{tag_feeds}
use Rattle.yaml_grammar.proofs.OtherStops.{tag_on}
use Rattle.yaml_grammar.specs.code.Twins.{MendsNode}
use Rattle.yaml_grammar.proofs.Extended.{tag_shuts}
use Rattle.yaml_grammar.specs.declared.ahead.Token.TheVariants.{Tag}
use Rattle.yaml_grammar.proofs.ValueReads.{begins-none}
use Rattle.std.proofs.Common.{refl}
use Rattle.yaml_steps.proofs.flow.tag.Goals as goal

pub returns : goal.returns
returns c = record {
  gives = λ text seen same.
      let fs = stack c.args.forms.now.items in
      let u = c.args.builder.now in
      flow_tag_gives text fs (stack c.begin_tag.new.forms.items) u c.begin_tag.new.builder c.args.site.form c.args.site.at c.requires.tag.0 c.args.site.next c.begin_tag.result seen.0 (flow_spot text fs u c.args.site.form c.args.site.at c.args.site.next seen c.requires.form (tag_flow c.args.site.form c.requires.takes) c.requires.open) c.requires.tag.1 c.requires.takes (tag_same c.args.text.now text (FlowTagged c.args.site.next.at) c.args.site.next fs (stack c.begin_tag.new.forms.items) u c.begin_tag.new.builder c.begin_tag.result (same.name c.requires.tag.0 c.requires.tag.1) c.begin_tag.ensures);
  fixes = flow_tag_fixes c.args.text.now c.args.site.form (FlowTagged c.args.site.next.at) c.args.site.at c.requires.tag.0 c.args.site.next (stack c.args.forms.now.items) (stack c.begin_tag.new.forms.items) c.args.builder.now c.begin_tag.new.builder c.begin_tag.result c.requires.seen c.requires.boundary c.requires.behind c.requires.tag.1 c.begin_tag.ensures;
  feeds = tag_feeds c.args.text.now c.args.site.at c.args.site.next c.requires.seen c.requires.boundary c.args.site.form (FlowTagged c.args.site.next.at) c.requires.tag.0 (stack c.args.forms.now.items) (stack c.begin_tag.new.forms.items) c.args.builder.now c.begin_tag.new.builder c.begin_tag.result c.requires.behind c.requires.tag.1 c.begin_tag.ensures;
  shuts = tag_shuts c.args.text.now (FlowTagged c.args.site.next.at) c.args.site.next (stack c.args.forms.now.items) (stack c.begin_tag.new.forms.items) c.args.builder.now c.begin_tag.new.builder c.args.site.at c.begin_tag.result c.begin_tag.ensures;
  stops = tag_stops c.args.text.now c.args.site.at (NoFlowValue c.args.site.at c.args.site.next (stack c.args.forms.now.items) c.args.builder.now) (FlowTagged c.args.site.next.at) c.args.site.next (stack c.args.forms.now.items) (stack c.begin_tag.new.forms.items) c.args.builder.now c.begin_tag.new.builder c.begin_tag.result c.begin_tag.ensures;
  longer = tag_on (MendsNode c.args.text.now (stack c.args.forms.now.items) c.args.builder.now c.args.site.at) c.args.text.now (FlowTagged c.args.site.next.at) c.args.site.next (stack c.args.forms.now.items) (stack c.begin_tag.new.forms.items) c.args.builder.now c.begin_tag.new.builder c.begin_tag.result c.begin_tag.ensures;
  again = λ starts. absurd (begins-none c.args.site.next.token (Tag c.requires.tag.0) c.requires.tag.1 refl starts);
}

pub begin_tag-requires-clause-first : goal.begin_tag-requires-clause-first
begin_tag-requires-clause-first c = tag_cut c.args.text.now true c.args.site.at c.requires.tag.0 c.args.site.next c.requires.seen c.requires.tag.1
