use Rattle.std.proofs.lemmas.Grind.{common_steps}
use Rattle.std.proofs.Common.{sym, ap, ◌∙◌, length, arith}
use Rattle.yaml_grammar.specs.Ahead.{line_ahead}
use Rattle.yaml_grammar.proofs.Looks.{marked, filled, below_passed}
use Rattle.yaml_nodes.proofs.ahead.line_ahead.Goals as goal

pub returns-then-is_mark : goal.returns-then-is_mark
returns-then-is_mark c = c.mark_ahead.ensures ∙ sym (marked c.args.bytes.now c.args.flow c.loop-at.at (sym c.is_mark.ensures ∙ c.if-is_mark.true)) ∙ c.loop-at.invariant.0

pub returns-then-not-is_passed : goal.returns-then-not-is_passed
returns-then-not-is_passed c = c.content_ahead.ensures
    ∙ sym (filled c.args.bytes.now c.args.flow c.loop-at.at (sym c.is_mark.ensures ∙ c.if-is_mark.false) (sym c.is_passed.ensures ∙ c.if-not-is_passed.true)) ∙ c.loop-at.invariant.0

pub loop-at-preserved : goal.loop-at-preserved
loop-at-preserved c =
    let h = c.in-Some.ensures in (
      ap (line_ahead c.args.flow (length c.args.bytes.now)) (sym h.4)
          ∙ sym (below_passed c.args.bytes.now c.args.flow c.loop-at.at (sym c.is_mark.ensures ∙ c.if-is_mark.false) (sym c.is_passed.ensures ∙ c.if-not-is_passed.false)) ∙ c.loop-at.invariant.0,
      h.2,
    )

pub returns-in-None : goal.returns-in-None
returns-in-None c = c.token_at.ensures ∙ sym (ap (line_ahead c.args.flow (length c.args.bytes.now)) c.in-None.ensures.0)
    ∙ sym (below_passed c.args.bytes.now c.args.flow c.loop-at.at (sym c.is_mark.ensures ∙ c.if-is_mark.false) (sym c.is_passed.ensures ∙ c.if-not-is_passed.false)) ∙ c.loop-at.invariant.0

pub mark_ahead-requires-clause-within : goal.mark_ahead-requires-clause-within
mark_ahead-requires-clause-within c = grind (arith, common_steps)

pub token_at-requires-clause-within : goal.token_at-requires-clause-within
token_at-requires-clause-within c = grind (arith, common_steps)
