use Rattle.std.proofs.lemmas.Grind.{common_steps}
use Rattle.std.proofs.Common.{sym, ap, ◌∙◌, length, ◌+◌, false, arith}
use Rattle.yaml_grammar.specs.declared.ahead.Token.{Token}
use Rattle.yaml_grammar.specs.Ahead.{token_at, line_ahead}
use Rattle.yaml_grammar.proofs.Looks.{rest_filled, rest_passed, white_token}
use Rattle.yaml_nodes.proofs.ahead.rest_ahead.Goals as goal

pub returns-then-not-is_passed : goal.returns-then-not-is_passed
returns-then-not-is_passed c = c.token_at.ensures ∙ ap (λ (t : Token). token_at t false c.whites-white.result (c.args.start + c.whites-white.result)) c.token_of.ensures.is
    ∙ white_token c.args.bytes.now c.args.flow false c.args.start c.whites-white.result c.whites-white.ensures.count
    ∙ sym (rest_filled c.args.bytes.now c.args.flow c.args.start (sym c.is_passed.ensures ∙ c.if-not-is_passed.true))

pub returns-in-Some : goal.returns-in-Some
returns-in-Some c =
    let h = c.in-Some.ensures in
    c.line_ahead.ensures ∙ ap (line_ahead c.args.flow (length c.args.bytes.now)) (sym h.4) ∙ sym (rest_passed c.args.bytes.now c.args.flow c.args.start (sym c.is_passed.ensures ∙ c.if-not-is_passed.false))

pub returns-in-None : goal.returns-in-None
returns-in-None c = c.token_at-in-None.ensures ∙ sym (ap (line_ahead c.args.flow (length c.args.bytes.now)) c.in-None.ensures.0)
    ∙ sym (rest_passed c.args.bytes.now c.args.flow c.args.start (sym c.is_passed.ensures ∙ c.if-not-is_passed.false))

pub token_at-requires-clause-within : goal.token_at-requires-clause-within
token_at-requires-clause-within c = grind (arith, common_steps)

pub token_at-requires-in-None-clause-within : goal.token_at-requires-in-None-clause-within
token_at-requires-in-None-clause-within c = grind (arith, common_steps)
