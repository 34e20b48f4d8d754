use Rattle.std.proofs.lemmas.Grind.{common_steps}
use Rattle.std.proofs.Common.{List, sym, ap, subst, ◌∙◌, arith}
use Rattle.yaml_grammar.specs.declared.form.Form.{Form}
use Rattle.yaml_grammar.specs.code.Rest.{top}
use Rattle.doc_values.specs.Unfinished.{with_end}
use Rattle.yaml_grammar.specs.code.Steps.{stack, ends_before, Lasts}
use Rattle.yaml_grammar.proofs.Stacks.{stack_grown}
use Rattle.yaml_grammar.proofs.LastValues.{ended_lasts, then_lasts}
use Rattle.yaml_grammar.proofs.BlockGains.{ended_one, ended_alike, then_alike}
use Rattle.yaml_grammar.proofs.Lengthened.{popped_more}
use Rattle.yaml_steps.proofs.closings.end_before.Goals as goal

pub loop-next-preserved : goal.loop-next-preserved
loop-next-preserved c =
    let e = stack_grown c.loop-next.forms.items c.pop.new.self.items c.in-Some.field-0 c.in-Some.ensures.items in
    let old = stack c.loop-next.forms.items in
    let gs = stack c.pop.new.self.items in
    let s = c.loop-next.invariant.0 in
    let h = sym (c.ends_before.ensures ∙ ap (λ f. ends_before f c.args.next) (c.innermost.ensures ∙ ap (λ (x : List Form). top (stack x)) c.deref.ensures.value)) ∙ c.loop-next-test.true in (
      ended_one c.in-Some.field-0 old gs c.loop-next.builder c.end.new.self e c.in-Ok.ensures.ok s,
      subst (λ z. Lasts c.args.builder.now z) (sym c.in-Ok.ensures.ok) (then_lasts c.args.builder.now c.loop-next.builder (with_end c.loop-next.builder) c.loop-next.invariant.1 (ended_lasts c.loop-next.builder)),
      (λ text i n. then_alike text i (stack c.args.forms.now.items) old gs c.args.builder.now c.loop-next.builder c.end.new.self (c.loop-next.invariant.2 text i n)
          (ended_alike text i c.in-Some.field-0 old gs c.loop-next.builder c.end.new.self c.args.next n e c.in-Ok.ensures.ok s h)),
      popped_more c.args.next (stack c.args.forms.now.items) old gs c.args.builder.now c.loop-next.builder c.end.new.self c.in-Some.field-0 e c.in-Ok.ensures.ok s h c.loop-next.invariant.3,
    )

pub returns : goal.returns
returns c = grind (arith, common_steps)
