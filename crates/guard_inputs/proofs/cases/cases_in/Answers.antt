use Rattle.rule_names.specs.code.Files.{file_of}
use Rattle.guard_inputs.proofs.cases.cases_in.Goals as goal

pub returns-in-Ok : goal.returns-in-Ok
returns-in-Ok c = ((c.in-Ok.ensures.accepted, c.in-Ok.ensures.cases), c.in-Ok.ensures.inputs)

pub returns-in-Err : goal.returns-in-Err
returns-in-Err c = c.not_tests.ensures (file_of c.args.rules.now) c.args.tree.now c.in-Err.ensures.refused
