use Rattle.std.proofs.Common.{◌+◌, ◌∙◌, sym, subst, Ok}
use Rattle.guard_lexer.specs.Lexes.{IsFault}
use Rattle.guard_lexer.specs.code.Firsts.{IsFirst}
use Rattle.guard_lexer.proofs.Steps.{gap_solid, next_none, next_fault, next_some}
use Rattle.guard_lexer.proofs.lex.next_token.Goals as goal

pub first_token-requires-clause-solid : goal.first_token-requires-clause-solid
first_token-requires-clause-solid c = gap_solid c.args.bytes.now c.gap_len-gap.result c.in-Some.first c.in-Some.rest.now c.gap_len-gap.ensures.reach (sym c.split_at.ensures.back ∙ c.in-Some.ensures)

pub returns-in-None : goal.returns-in-None
returns-in-None c = next_none c.args.bytes.now c.gap_len-gap.result c.gap_len-gap.ensures.reach (sym c.split_at.ensures.back ∙ c.in-None.ensures)

pub returns-in-Ok : goal.returns-in-Ok
returns-in-Ok c =
    next_some c.args.dot c.args.at c.args.bytes.now c.gap_len-gap.result c.in-Ok.token c.gap_len-gap.ensures.reach
    (subst (λ x. IsFirst c.args.dot (c.args.at + c.gap_len-gap.result) x (Ok c.in-Ok.token)) (sym (sym c.split_at.ensures.back ∙ c.in-Some.ensures)) c.in-Ok.ensures)

pub returns-in-Err : goal.returns-in-Err
returns-in-Err c =
    next_fault c.args.dot c.args.at c.args.bytes.now c.gap_len-gap.result c.in-Err.refusal c.gap_len-gap.ensures.reach
    (subst (λ x. IsFault c.args.dot (c.args.at + c.gap_len-gap.result) x c.in-Err.refusal) (sym (sym c.split_at.ensures.back ∙ c.in-Some.ensures)) c.in-Err.ensures)
