use Rattle.std.proofs.Common.{refl, ◌∙◌}
use Rattle.guard_syntax.specs.Syntax as sx
use Rattle.guard_syntax.specs.code.Seen.{see_opt_conds}
use Rattle.literal_parser.specs.Forms.{is_lparen}
use Rattle.literal_parser.specs.code.Reads.{source, state_of}
use Rattle.guard_parser.specs.code.FileReading.{head}
use Rattle.part_parser.proofs.CodeSteps.{then_read, seen_as, saw, with_second}
use Rattle.guard_parser.proofs.read_file.head.Goals as goal

pub returns-then-sees : goal.returns-then-sees
unfolding head
returns-then-sees c =
    seen_as (saw (source c.args.tokens) is_lparen _ _ (state_of c.args.cursor.now) c.args.cursor.now.seen c.sees.ensures.token c.if-sees.true c.sees.ensures.state c.sees.ensures.seen (then_read _ c.in_ok-params.ensures refl))
    (with_second sx.no_conds c.new.ensures)

pub returns : goal.returns
unfolding head
returns c =
    seen_as (saw (source c.args.tokens) is_lparen _ _ (state_of c.args.cursor.now) c.args.cursor.now.seen c.sees.ensures.token c.if-sees.false c.sees.ensures.state c.sees.ensures.seen (then_read _ c.in_ok-cond.ensures refl))
    (with_second (see_opt_conds c.in_ok-cond.cond) (c.new-3.ensures ∙ c.new-2.ensures.items))
