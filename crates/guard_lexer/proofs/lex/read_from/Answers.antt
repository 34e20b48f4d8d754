use Rattle.std.proofs.Common.{◌-◌, ◌++◌, ◌∷◌, [], inr, sym, subst, arith, drop, Some, None, Ok}
use Rattle.std.proofs.lemmas.List.{length-drop}
use Rattle.guard_lexer.specs.Lexes.{Ends}
use Rattle.guard_lexer.specs.code.Firsts.{IsNext}
use Rattle.guard_lexer.proofs.Steps.{GoesOn, GoesOn-more, GoesOn-end, begun, no_end}
use Rattle.guard_lexer.proofs.lex.read_from.Goals as goal

pub returns-in-Err-clause-refusal : goal.returns-in-Err-clause-refusal
returns-in-Err-clause-refusal c =
    inr (
      c.tokens.found.items,
      GoesOn-end c.args.start c.args.bytes.now c.tokens.found.items c.tokens.dot c.tokens.at (Some c.in-Err.refusal) c.tokens.invariant.2
          (subst (λ x. Ends c.tokens.dot c.tokens.at x (Some c.in-Err.refusal)) c.split_at.ensures.back c.in-Err.ensures),
    )

pub returns-in-Ok-None-clause-tokens : goal.returns-in-Ok-None-clause-tokens
returns-in-Ok-None-clause-tokens c =
    GoesOn-end c.args.start c.args.bytes.now c.tokens.found.items c.tokens.dot c.tokens.at None c.tokens.invariant.2 (subst (λ o. IsNext c.tokens.dot c.tokens.at (drop (c.tokens.at - c.args.start) c.args.bytes.now) (Ok o)) c.in-Ok-None.field-0-is (subst (λ x. IsNext c.tokens.dot c.tokens.at x (Ok c.in-Ok-None.field-0)) c.split_at.ensures.back c.in-Ok-None.ensures))

pub tokens-preserved : goal.tokens-preserved
tokens-preserved c =
    let i = c.tokens.invariant in
    let n : IsNext c.tokens.dot c.tokens.at (drop (c.tokens.at - c.args.start) c.args.bytes.now) (Ok (Some c.in-Ok-Some.token)) = subst (λ o. IsNext c.tokens.dot c.tokens.at (drop (c.tokens.at - c.args.start) c.args.bytes.now) (Ok o)) c.in-Ok-Some.field-0-is (subst (λ x. IsNext c.tokens.dot c.tokens.at x (Ok c.in-Ok-Some.field-0)) c.split_at.ensures.back c.in-Ok-Some.ensures) in
    let low = n.1 in
    let high = n.2 in
    let whole = length-drop (c.tokens.at - c.args.start) c.args.bytes.now in
    let a = i.0 in
    let b = i.1 in (
      omega arith,
      omega arith,
      subst (λ x. GoesOn c.args.start c.args.bytes.now x c.is_dot-behind_dot.result c.in-Ok-Some.token.to) (sym c.in-Ok.ensures.items)
          (subst (λ d. GoesOn c.args.start c.args.bytes.now (c.tokens.found.items ++ c.in-Ok-Some.token ∷ []) d c.in-Ok-Some.token.to) (sym c.is_dot-behind_dot.ensures)
          (GoesOn-more c.args.start c.args.bytes.now c.tokens.found.items c.tokens.dot c.tokens.at c.in-Ok-Some.token a low i.2 n.0)),
      inr (begun c.tokens.dot c.tokens.at c.args.start c.args.bytes.now _ c.in-Ok-Some.token i.3 n.0),
    )

pub returns-in-Err-clause-memory : goal.returns-in-Err-clause-memory
returns-in-Err-clause-memory c =
    λ is. absurd (no_end c.tokens.dot c.tokens.at c.split_at.result.1.now c.in-Err.refusal c.in-Err.ensures is)

pub returns-in-Err-push-clause-memory : goal.returns-in-Err-push-clause-memory
returns-in-Err-push-clause-memory c =
    let n : IsNext c.tokens.dot c.tokens.at (drop (c.tokens.at - c.args.start) c.args.bytes.now) (Ok (Some c.in-Ok-Some.token)) = subst (λ o. IsNext c.tokens.dot c.tokens.at (drop (c.tokens.at - c.args.start) c.args.bytes.now) (Ok o)) c.in-Ok-Some.field-0-is (subst (λ x. IsNext c.tokens.dot c.tokens.at x (Ok c.in-Ok-Some.field-0)) c.split_at.ensures.back c.in-Ok-Some.ensures) in
    λ _. begun c.tokens.dot c.tokens.at c.args.start c.args.bytes.now _ c.in-Ok-Some.token c.tokens.invariant.3 n.0
