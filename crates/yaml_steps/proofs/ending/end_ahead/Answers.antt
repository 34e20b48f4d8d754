use Rattle.yaml_grammar.proofs.AheadEnds.{end_feed, over_text}
use Rattle.yaml_grammar.proofs.AheadStrays.{stray_feed}
use Rattle.yaml_steps.proofs.ending.end_ahead.Goals as goal

pub returns-clause-more : goal.returns-clause-more
returns-clause-more c more h = over_text c.args.front.now more c.args.flow c.args.at c.requires h

pub returns-clause-feed : goal.returns-clause-feed
returns-clause-feed c h = end_feed c.args.front.now c.args.flow c.args.at c.requires h

pub returns-clause-stray : goal.returns-clause-stray
returns-clause-stray c h seen = stray_feed c.args.front.now c.args.flow c.args.at c.requires h seen
