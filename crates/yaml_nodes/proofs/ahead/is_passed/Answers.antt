use Rattle.std.proofs.Common.{sym, ap, ◌∙◌, drop, not}
use Rattle.yaml_scalars.specs.Lines.{begins_with}
use Rattle.yaml_scalars.specs.code.Walk.{line_at}
use Rattle.yaml_grammar.proofs.Looks.{white_rest, passed_other, passed_comment}
use Rattle.yaml_nodes.proofs.ahead.is_passed.Goals as goal

pub returns-then-not-begins_comment : goal.returns-then-not-begins_comment
returns-then-not-begins_comment c = sym (passed_other c.args.fresh (line_at (drop c.args.start c.args.bytes.now)) (sym c.is_blank.ensures ∙ c.if-is_blank.false)
    (ap (begins_with 35) (white_rest c.args.bytes.now c.args.start c.whites-white.result c.whites-white.ensures.count) ∙ sym c.begins_comment.ensures ∙ c.if-not-begins_comment.true))

pub returns : goal.returns
returns c = ap not c.has_return.ensures ∙ sym (passed_comment c.args.fresh (line_at (drop c.args.start c.args.bytes.now)) c.whites-white.result (sym c.is_blank.ensures ∙ c.if-is_blank.false) c.whites-white.ensures.count
    (sym c.may_comment.ensures ∙ c.if-not-may_comment.false)
    (ap (begins_with 35) (white_rest c.args.bytes.now c.args.start c.whites-white.result c.whites-white.ensures.count) ∙ sym c.begins_comment.ensures ∙ c.if-not-begins_comment.false))
