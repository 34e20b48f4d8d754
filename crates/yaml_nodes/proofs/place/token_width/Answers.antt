use Rattle.std.proofs.Common.{arith}
use Rattle.yaml_grammar.proofs.Widths.{width_there, width_end}
use Rattle.yaml_nodes.proofs.place.token_width.Goals as goal

pub returns-then-at-bytes-clause-is : goal.returns-then-at-bytes-clause-is
returns-then-at-bytes-clause-is c = width_end c.args.bytes.now c.args.at (omega (arith, c.if-at-bytes.true))

pub returns-clause-is : goal.returns-clause-is
returns-clause-is c = width_there c.args.bytes.now c.args.at c.byte_width.result (omega (arith, c.requires.within, c.if-at-bytes.false)) c.byte_width.ensures.is
