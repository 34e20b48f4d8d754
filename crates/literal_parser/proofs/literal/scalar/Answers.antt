use Rattle.std.proofs.Common.{arith}
use Rattle.std.proofs.lemmas.Grind.{common_steps}
use Rattle.doc_values.specs.Tree.{Nil}
use Rattle.literal_parser.specs.Literal.{scalar}
use Rattle.literal_parser.specs.code.Reads.{state_of, source}
use Rattle.literal_parser.proofs.LiteralSteps.{scalar_read, put_scalar, kind_told}
use Rattle.literal_parser.proofs.Takes.{has_none}
use Rattle.literal_parser.proofs.literal.scalar.Goals as goal

pub returns-in-Ok-clause-reads : goal.returns-in-Ok-clause-reads
returns-in-Ok-clause-reads c =
    let x = source c.args.tokens c.args.cursor.now.at in (
      (scalar c.args.builder.now.key x, Nil),
      scalar_read (source c.args.tokens) c.args.builder.now.key (state_of c.args.cursor.now) (state_of c.takes.new.self) c.args.cursor.now.seen c.takes.new.self.seen c.in_ok-takes.ensures,
      put_scalar c.args.builder.now c.scalar.new.self c.kind_of-kind.result _ c.from.result x c.in-Ok.ensures.ok
          (kind_told x c.shape.result c.number.result c.kind_of-kind.result c.kind_of-kind.ensures c.shape.ensures c.number.ensures) c.in_ok-text.ensures c.from.ensures,
    )

pub returns-in-Ok-clause-level : goal.returns-in-Ok-clause-level
returns-in-Ok-clause-level c = grind (arith, common_steps)

pub returns-in_err-takes-clause-reads : goal.returns-in_err-takes-clause-reads
returns-in_err-takes-clause-reads c = grind (arith, common_steps, has_none)
