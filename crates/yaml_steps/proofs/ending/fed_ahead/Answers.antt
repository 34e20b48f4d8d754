use Rattle.yaml_grammar.specs.Ahead.{ahead}
use Rattle.yaml_grammar.proofs.AheadFed.{ahead_broken, ahead_fed, end_broken, some_of}
use Rattle.yaml_steps.proofs.ending.fed_ahead.Goals as goal

pub returns-clause-broken : goal.returns-clause-broken
returns-clause-broken c more h = ahead_broken c.args.text.now more c.args.flow c.args.at c.requires (some_of (ahead c.args.text.now c.args.flow c.args.at).token h)

pub returns-clause-feed : goal.returns-clause-feed
returns-clause-feed c more last h = ahead_fed c.args.text.now more c.args.flow c.args.at c.requires last (some_of (ahead c.args.text.now c.args.flow c.args.at).token h)

pub returns-clause-end : goal.returns-clause-end
returns-clause-end c h = end_broken c.args.text.now c.args.flow c.args.at c.requires h
