use Rattle.std.proofs.Common.{refl}
use Rattle.yaml_grammar.proofs.Stacks.{stack_grown}
use Rattle.yaml_steps.proofs.flow.close.Goals as goal

pub returns-in-Ok : goal.returns-in-Ok
returns-in-Ok c = (refl, refl, (c.in-Some.field-0, stack_grown c.args.forms.now.items c.pop.new.self.items c.in-Some.field-0 c.in-Some.ensures.items), c.in-Ok.ensures.ok)
