use Rattle.std.proofs.Common.{◌++◌, ◌∷◌, [], sym, ap, ◌∙◌, arith, replicate, string_bytes}
use Rattle.std.proofs.lemmas.List.{append-nil}
use Rattle.std.proofs.lemmas.Str.{encode_ascii}
use Rattle.rule_spelling.proofs.Zeros.{zero_more}
use Rattle.rule_spelling.proofs.number.push_zeros.Goals as goal

pub loop-init : goal.loop-init
loop-init c = sym (append-nil (string_bytes c.args.out.now))

pub loop-preserved : goal.loop-preserved
loop-preserved c = c.in_ok-push.ensures.bytes ∙ ap (λ x. string_bytes c.loop.out ++ x) (encode_ascii 48 (omega arith)) ∙ ap (λ x. x ++ (48 ∷ [])) c.loop.invariant ∙ zero_more (string_bytes c.args.out.now) c.loop.counter

pub returns : goal.returns
returns c = let last = c.loop-test.false in let end = c.loop.auto.counter-end in c.loop.invariant ∙ ap (λ n. string_bytes c.args.out.now ++ replicate n 48) (omega arith)
