use Rattle.std.proofs.Common.{◌≡◌, ◌+◌, ◌≤◌, drop, true, false, arith, sym, ◌∙◌}
use Rattle.yaml_scalars.specs.Lines.{begins_with}
use Rattle.yaml_scalars.specs.code.Walk.{line_at}
use Rattle.yaml_scalars.specs.Plain.{above_of}
use Rattle.yaml_scalars.proofs.FurtherLines.{below_inside, inside_flow, inside_tab, inside_is}
use Rattle.yaml_scalars.proofs.plain_line.below_at.Goals as goal

pub returns-then-setting : goal.returns-then-setting
returns-then-setting c =
    c.content_at.ensures
    ∙ sym (below_inside c.args.setting (line_at (drop c.args.start c.args.bytes.now)) (sym c.is_blank.ensures ∙ c.if-is_blank.false) (sym c.is_mark.ensures ∙ c.if-is_mark.false)
    ∙ inside_flow c.args.setting c.args.bytes.now c.args.start c.whites-skip.result c.if-setting.true c.whites-skip.ensures.count)

pub returns-then-begins_with : goal.returns-then-begins_with
returns-then-begins_with c =
    let t : begins_with 9 (line_at (drop (c.args.start + c.spaces-skip.result) c.args.bytes.now)) ≡ true = sym c.begins_with.ensures.is ∙ c.if-begins_with.true in
    sym (below_inside c.args.setting (line_at (drop c.args.start c.args.bytes.now)) (sym c.is_blank.ensures ∙ c.if-is_blank.false) (sym c.is_mark.ensures ∙ c.if-is_mark.false)
    ∙ inside_tab c.args.setting c.args.bytes.now c.args.start c.spaces-skip.result c.if-setting.false c.spaces-skip.ensures.count t)

pub returns : goal.returns
returns c =
    let t : begins_with 9 (line_at (drop (c.args.start + c.spaces-skip.result) c.args.bytes.now)) ≡ false = sym c.begins_with.ensures.is ∙ c.if-begins_with.false in
    let a : above_of c.args.setting.parent ≤ c.spaces-skip.result = omega (arith, c.above_of.ensures, c.if-skip-above_of.false) in
    c.content_at-2.ensures
    ∙ sym (below_inside c.args.setting (line_at (drop c.args.start c.args.bytes.now)) (sym c.is_blank.ensures ∙ c.if-is_blank.false) (sym c.is_mark.ensures ∙ c.if-is_mark.false)
    ∙ inside_is c.args.setting c.args.bytes.now c.args.start c.spaces-skip.result c.if-setting.false c.spaces-skip.ensures.count a t)
