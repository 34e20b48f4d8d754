use Rattle.std.proofs.Common.{sym, subst}
use Rattle.guard_lexer.specs.Lexes.{Starts}
use Rattle.guard_lexer.proofs.Unique.{only_tokens, only_refusal}
use Rattle.guard_lexer.proofs.lex.tokens.Goals as goal

pub returns-clause-only_tokens : goal.returns-clause-only_tokens
returns-clause-only_tokens c =
    only_tokens (λ v. v.items) c.read_from.result c.args.text.now c.mark_len-start.result c.split_at.result.1.now
    (subst (λ x. Starts x c.mark_len-start.result c.split_at.result.1.now) c.as_bytes-bytes.ensures.value (subst (λ x. Starts c.as_bytes-bytes.result.now c.mark_len-start.result x) (sym c.split_at.ensures.back) c.mark_len-start.ensures.starts))
    c.read_from.ensures.tokens c.read_from.ensures.refusal

pub returns-clause-only_refusal : goal.returns-clause-only_refusal
returns-clause-only_refusal c =
    only_refusal (λ v. v.items) c.read_from.result c.args.text.now c.mark_len-start.result c.split_at.result.1.now
    (subst (λ x. Starts x c.mark_len-start.result c.split_at.result.1.now) c.as_bytes-bytes.ensures.value (subst (λ x. Starts c.as_bytes-bytes.result.now c.mark_len-start.result x) (sym c.split_at.ensures.back) c.mark_len-start.ensures.starts))
    c.read_from.ensures.tokens c.read_from.ensures.refusal
