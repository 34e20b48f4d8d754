use Rattle.std.proofs.Common.{arith}
use Rattle.std.proofs.lemmas.Grind.{common_steps}
use Rattle.doc_values.specs.Tree.{Nil}
use Rattle.doc_values.specs.declared.kind.Kind.TheVariants as kind
use Rattle.literal_parser.specs.Literal.{holder}
use Rattle.literal_parser.specs.code.Reads.{state_of, source}
use Rattle.literal_parser.proofs.LiteralSteps.{range_read, put_limits, range_failed, range_unread}
use Rattle.literal_parser.proofs.literal.range.Goals as goal

pub returns-in-Ok-clause-reads : goal.returns-in-Ok-clause-reads
returns-in-Ok-clause-reads c =
    let x = source c.args.tokens c.args.cursor.now.at in (
      (holder (kind.Limits c.in_ok-limits.limits) c.args.builder.now.key x, Nil),
      range_read (source c.args.tokens) c.args.builder.now.key c.in_ok-limits.limits c.is_mixed.result c.from-from.result
          (state_of c.args.cursor.now) (state_of c.takes.new.self) (state_of c.limits.new.cursor) (state_of c.note_range.new.self)
          c.args.cursor.now.seen c.takes.new.self.seen c.limits.new.cursor.seen c.note_range.new.self.seen
          c.in_ok-takes.ensures c.in_ok-limits.ensures c.note_range.ensures c.is_mixed.ensures c.from-from.ensures,
      put_limits c.args.builder.now c.scalar.new.self (kind.Limits c.in_ok-limits.limits) c.from-from.result x c.in-Ok.ensures.ok c.from-from.ensures,
    )

pub returns-in-Ok-clause-level : goal.returns-in-Ok-clause-level
returns-in-Ok-clause-level c = grind (arith, common_steps)

pub returns-in_err-takes-clause-reads : goal.returns-in_err-takes-clause-reads
returns-in_err-takes-clause-reads c = grind (arith, common_steps, range_failed, range_unread)

pub returns-in_err-limits-clause-reads : goal.returns-in_err-limits-clause-reads
returns-in_err-limits-clause-reads c = grind (arith, common_steps, range_failed, range_unread)
