use Rattle.std.proofs.Common.{refl}
use Rattle.literal_parser.specs.Forms.{is_some_word, is_lparen}
use Rattle.literal_parser.specs.code.Reads.{source, state_of}
use Rattle.part_parser.specs.code.Reading.{value_of, found_expr}
use Rattle.part_parser.proofs.CodeSteps.{then_read, seen_as, saw, saw_next}
use Rattle.part_parser.proofs.SeenForms.{found-made}
use Rattle.part_parser.proofs.read_query.value.Goals as goal

pub returns : goal.returns
unfolding value_of found_expr
returns c =
    seen_as (saw (source c.args.tokens) is_some_word _ _ (state_of c.args.cursor.now) c.args.cursor.now.seen c.sees.ensures.token c.if-not-sees.false c.sees.ensures.state c.sees.ensures.seen
    (saw_next (source c.args.tokens) is_lparen _ _ (state_of c.sees.new.self) c.sees.new.self.seen c.sees_next.ensures.token c.if-sees_next.false c.sees_next.ensures.state c.sees_next.ensures.seen
    (then_read _ c.in_ok-site.ensures (then_read _ c.in_ok-takes.ensures (then_read _ c.in_ok-query.ensures refl)))))
    (found-made c.in_ok-site.site c.in_ok-query.query)
