use Rattle.std.proofs.Common.{◌≡◌, ◌∙◌, ap, arith, Some}
use Rattle.engine_parts.proofs.FramePlaces.{line-set, lines-other}
use Rattle.engine_parts.proofs.frame_lines.FrameLines.set.Goals as goal

pub index_mut-requires : goal.index_mut-requires
index_mut-requires c = let t = c.room_for.new.self in let less = t.within c.args.frame c.args.site c.in_ok-index.index c.in_ok-index.ensures.place in omega (arith, less, t.lines.ok.0)

pub returns-clause-line : goal.returns-clause-line
returns-clause-line c =
    let t = c.room_for.new.self in
    let same : c.in-Ok.number ≡ c.args.line = omega (arith, c.in-Ok.ensures) in
    line-set t.spans.items t.lines.items t.within t.apart c.args.frame c.args.site c.in_ok-index.index c.in-Ok.number c.in_ok-index.ensures.place (omega (arith, same, c.requires.line)) ∙ ap Some same

pub returns-clause-others : goal.returns-clause-others
returns-clause-others c n m other = let t = c.room_for.new.self in
    lines-other t.spans.items t.lines.items t.within t.apart c.args.frame c.args.site c.in_ok-index.index _ c.in_ok-index.ensures.place n m other ∙ c.in_ok-index.ensures.lines n m
