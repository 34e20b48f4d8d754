use Rattle.std.proofs.Common.{refl}
use Rattle.literal_parser.specs.Forms.{is_end}
use Rattle.literal_parser.specs.code.Reads.{source, state_of}
use Rattle.guard_parser.specs.code.FileReading.{whole_file, contents}
use Rattle.part_parser.proofs.CodeSteps.{then_read, saw}
use Rattle.guard_parser.proofs.read_file.whole_file.Goals as goal

pub returns-then-sees_end : goal.returns-then-sees_end
unfolding whole_file contents
returns-then-sees_end c =
    then_read _ (then_read _ c.in_ok-opens.ensures c.in_ok-add_items.ensures)
    (saw (source c.args.tokens) is_end _ _ (state_of c.add_items.new.cursor) c.add_items.new.cursor.seen c.sees_end.ensures.token c.if-sees_end.true c.sees_end.ensures.state c.sees_end.ensures.seen refl)

pub returns : goal.returns
unfolding whole_file contents
returns c =
    then_read _ (then_read _ c.in_ok-opens.ensures c.in_ok-add_items.ensures)
    (saw (source c.args.tokens) is_end _ _ (state_of c.add_items.new.cursor) c.add_items.new.cursor.seen c.sees_end.ensures.token c.if-sees_end.false c.sees_end.ensures.state c.sees_end.ensures.seen refl)
