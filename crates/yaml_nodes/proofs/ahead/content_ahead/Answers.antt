use Rattle.std.proofs.lemmas.Grind.{common_steps}
use Rattle.std.proofs.Common.{sym, ap, ◌∙◌, drop, ◌+◌, true, arith}
use Rattle.yaml_scalars.specs.code.Walk.{line_at}
use Rattle.yaml_grammar.specs.declared.ahead.Token.{Token}
use Rattle.yaml_scalars.specs.Lines.{past_white}
use Rattle.yaml_grammar.specs.Ahead.{token_at, tab_token}
use Rattle.yaml_grammar.proofs.Looks.{untabbed, tabbed, white_rest, white_token}
use Rattle.yaml_nodes.proofs.ahead.content_ahead.Goals as goal

pub returns : goal.returns
returns c = c.token_at-2.ensures ∙ ap (λ (t : Token). token_at t true c.whites-column.result (c.args.start + c.whites-column.result)) c.token_of.ensures.is
    ∙ white_token c.args.bytes.now c.args.flow true c.args.start c.whites-column.result c.whites-column.ensures.count
    ∙ sym (untabbed c.args.flow c.args.start (line_at (drop c.args.start c.args.bytes.now)) (sym c.is_tabbed.ensures ∙ c.if-is_tabbed.false))

pub returns-then-is_tabbed : goal.returns-then-is_tabbed
returns-then-is_tabbed c = c.token_at.ensures
    ∙ ap (λ (t : Token). token_at t true c.spaces-column.result (c.args.start + c.spaces-column.result)) (c.tab_token-token.ensures ∙ ap tab_token (sym (white_rest c.args.bytes.now c.args.start c.whites.result c.whites.ensures.count)))
    ∙ ap (λ n. token_at (tab_token (past_white (line_at (drop c.args.start c.args.bytes.now)))) true n (c.args.start + n)) c.spaces-column.ensures.count
    ∙ sym (tabbed c.args.flow c.args.start (line_at (drop c.args.start c.args.bytes.now)) (sym c.is_tabbed.ensures ∙ c.if-is_tabbed.true))

pub token_at-requires-2-clause-within : goal.token_at-requires-2-clause-within
token_at-requires-2-clause-within c = grind (arith, common_steps)

pub token_at-requires-clause-within : goal.token_at-requires-clause-within
token_at-requires-clause-within c = grind (arith, common_steps)
