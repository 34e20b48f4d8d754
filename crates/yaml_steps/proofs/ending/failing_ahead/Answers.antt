use Rattle.yaml_grammar.proofs.ScalarFails.{seen_fails}
use Rattle.yaml_steps.proofs.ending.failing_ahead.Goals as goal

pub returns : goal.returns
returns c = λ setting place start h cut. seen_fails setting c.args.text.now c.args.flow c.args.at place c.requires start h cut
