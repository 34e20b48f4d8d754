use Rattle.std.proofs.lemmas.Grind.{common_steps}
use Rattle.std.proofs.Common.{sym, arith}
use Rattle.yaml_grammar.proofs.Stacks.{top_last}
use Rattle.yaml_nodes.proofs.node.innermost.Goals as goal

pub returns-in-Some : goal.returns-in-Some
returns-in-Some c = sym (top_last c.args.forms.now c.in-Some.form.now (sym c.in-Some.ensures.value))

pub returns-in-None : goal.returns-in-None
returns-in-None c = grind (arith, common_steps)
