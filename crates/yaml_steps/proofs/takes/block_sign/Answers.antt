use Rattle.std.proofs.Common.{sym, ◌∙◌}
use Rattle.yaml_grammar.proofs.BlockGains.{sign_there, sign_nowhere}
use Rattle.yaml_steps.proofs.takes.block_sign.Goals as goal

pub returns-then-takes_scalar : goal.returns-then-takes_scalar
returns-then-takes_scalar c = sign_there c.args.form c.args.next c.is_tagged.result c.node_sign.result c.is_tagged.ensures (sym c.takes_scalar.ensures ∙ c.if-takes_scalar.true) c.node_sign.ensures

pub returns : goal.returns
returns c = sign_nowhere c.args.form c.args.next (sym c.takes_scalar.ensures ∙ c.if-takes_scalar.false)
