use Rattle.rule_words.proofs.QueryStarts.{lone-key, no-lone-key}
use Rattle.rule_words.proofs.starts.lone_key.Goals as goal

pub returns-then-steps-ne1 : goal.returns-then-steps-ne1
returns-then-steps-ne1 c = λ text. no-lone-key c.args.head.now c.as_slice-steps.result.now text c.as_slice-steps.ensures.value c.if-steps-ne1.true

pub returns : goal.returns
returns c = lone-key c.key_of.result c.args.head.now c.as_slice-steps.result.now c.index-steps-0.result c.as_slice-steps.ensures.value c.if-steps-ne1.false c.index-steps-0.is c.key_of.ensures
