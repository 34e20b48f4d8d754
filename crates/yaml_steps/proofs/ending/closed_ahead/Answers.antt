use Rattle.yaml_grammar.proofs.AheadClosed.{ahead_closed}
use Rattle.yaml_steps.proofs.ending.closed_ahead.Goals as goal

pub returns : goal.returns
returns c = λ bracket more closes one firm. ahead_closed bracket more closes c.args.text.now c.args.at c.requires one firm
