use Rattle.std.proofs.lemmas.Grind.{common_steps}
use Rattle.std.proofs.Common.{[], true, List, ap, ◌∙◌, arith}
use Rattle.yaml_grammar.specs.declared.form.Form.{Form}
use Rattle.yaml_grammar.specs.code.Rest.{top}
use Rattle.yaml_grammar.specs.code.Steps.{stack}
use Rattle.yaml_grammar.proofs.Stacks.{stack_grown}
use Rattle.yaml_grammar.proofs.Gains.{tag_may_end, tag_popped, tag_gives}
use Rattle.yaml_grammar.proofs.Stopped.{stops_from}
use Rattle.yaml_grammar.specs.declared.stop.Stop.TheVariants.{Unread}
use Rattle.yaml_grammar.specs.code.Twins.{NoTail}
use Rattle.yaml_grammar.specs.Ahead.{ahead}
use Rattle.std.specs.Prelude.{Err}
use Rattle.yaml_grammar.proofs.FlowLengthens.{tag_lengthens}
use Rattle.yaml_steps.proofs.flow.after_tag.Goals as goal

pub returns : goal.returns
returns c = record {
  gives = λ text seen.
      let e = stack_grown c.args.forms.now.items c.pop.new.self.items c.in-Some.field-0 c.in-Some.ensures.items in
      tag_gives text c.args.place (stack c.args.forms.now.items) (stack c.pop.new.self.items) (stack c.after.new.forms.items) c.args.builder.now c.end.new.self c.after.new.builder c.args.at c.after.result (c.in-Some.field-0, e, c.requires.form, c.requires.open) c.in-Ok.ensures.ok (c.after.ensures.gives text seen);
  fixes = c.after.ensures.fixes;
  feeds = c.after.ensures.feeds;
  shuts = c.after.ensures.shuts;
  stops =
      let e = stack_grown c.args.forms.now.items c.pop.new.self.items c.in-Some.field-0 c.in-Some.ensures.items in
      let at = c.args.at in
      let w = c.end.new.self in
      let u = c.args.builder.now in
      let next = ahead c.args.text.now true at in
      stops_from c.args.text.now at (NoTail at next (stack c.pop.new.self.items) w) (NoTail at next (stack c.args.forms.now.items) u) c.after.result (λ text k seen v h. tag_gives text c.args.place (stack c.args.forms.now.items) (stack c.pop.new.self.items) [] u w w at (Err (Unread 0)) (c.in-Some.field-0, e, c.requires.form, c.requires.open) c.in-Ok.ensures.ok (λ z g. k seen z g) v h) c.after.ensures.stops;
  longer =
      let e = stack_grown c.args.forms.now.items c.pop.new.self.items c.in-Some.field-0 c.in-Some.ensures.items in
      tag_lengthens c.args.text.now c.utf8.text (stack c.args.forms.now.items) c.args.builder.now c.args.at c.requires.boundary c.args.place (stack c.pop.new.self.items) c.end.new.self c.after.result (c.in-Some.field-0, e, c.requires.form, c.requires.open) c.in-Ok.ensures.ok c.after.ensures.longer;
}

pub returns-in-Err : goal.returns-in-Err
returns-in-Err c = record { gives = λ text seen. tt; fixes = tt; feeds = tt; shuts = tt; stops = tt; longer = tt }

pub end-requires : goal.end-requires
end-requires c =
    let e = stack_grown c.args.forms.now.items c.pop.new.self.items c.in-Some.field-0 c.in-Some.ensures.items in
    record { awaited = tag_may_end c.args.place (stack c.args.forms.now.items) (stack c.pop.new.self.items) c.args.builder.now (c.in-Some.field-0, e, c.requires.form, c.requires.open) c.requires.awaited }

pub after-requires-clause-open : goal.after-requires-clause-open
after-requires-clause-open c =
    let e = stack_grown c.args.forms.now.items c.pop.new.self.items c.in-Some.field-0 c.in-Some.ensures.items in
    (tag_popped c.args.place (stack c.args.forms.now.items) (stack c.pop.new.self.items) c.args.builder.now c.end.new.self (c.in-Some.field-0, e, c.requires.form, c.requires.open) c.in-Ok.ensures.ok).0

pub unreachable-requires-in_default-innermost : goal.unreachable-requires-in_default-innermost
unreachable-requires-in_default-innermost c =
    let e = stack_grown c.args.forms.now.items c.pop.new.self.items c.in-Some.field-0 c.in-Some.ensures.items in
    let p = tag_popped c.args.place (stack c.args.forms.now.items) (stack c.pop.new.self.items) c.args.builder.now c.end.new.self (c.in-Some.field-0, e, c.requires.form, c.requires.open) c.in-Ok.ensures.ok in
    c.in_default-innermost.not-Flow p.2.0 (c.innermost.ensures ∙ ap (λ (x : List Form). top (stack x)) c.deref.ensures.value ∙ p.2.1)

pub after-requires-clause-boundary : goal.after-requires-clause-boundary
after-requires-clause-boundary c = grind (arith, common_steps)
