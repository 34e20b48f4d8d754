use Rattle.std.proofs.Common.{ap, ◌∙◌}
use Rattle.doc_values.specs.Unfinished.{with_open, open_kind}
use Rattle.yaml_grammar.specs.code.Steps.{has_keys}
use Rattle.yaml_grammar.proofs.Refusals.{deep_of}
use Rattle.yaml_grammar.proofs.Stacks.{stack_grown}
use Rattle.yaml_nodes.proofs.node.begin.Goals as goal

pub returns-in-Ok-push : goal.returns-in-Ok-push
returns-in-Ok-push c = (
  stack_grown c.push.new.self.items c.args.forms.now.items c.args.form c.in-Ok-push.ensures.items,
  c.in-Ok.ensures.ok.0 ∙ ap (λ b. with_open (open_kind b) c.offset.result c.args.builder.now) c.has_keys.ensures ∙ ap (λ n. with_open (open_kind (has_keys c.args.form)) n c.args.builder.now) c.offset.ensures,
  c.in-Ok.ensures.ok.1,
)

pub returns-in-Err : goal.returns-in-Err
returns-in-Err c = deep_of c.args.builder.now c.args.next.at c.offset.result c.in-Err.refused c.from.result c.from.ensures c.offset.ensures c.in-Err.ensures.refused
