use Rattle.std.proofs.Common.{◌∙◌, ap, subst, sym}
use Rattle.std.specs.Prelude.{IsAscii}
use Rattle.decimals.specs.Number.{IsNumber}
use Rattle.guard_lexer.specs.code.Firsts.{number_kind, begins_word}
use Rattle.guard_lexer.proofs.Firsts.{is_first}
use Rattle.guard_lexer.proofs.NumberFirsts.{front_bad, front_range, front_mixed, front_found, front_ascii}
use Rattle.guard_lexer.proofs.first.number_at.Goals as goal

pub returns-then-len-eq0 : goal.returns-then-len-eq0
returns-then-len-eq0 c = front_bad c.args.dot c.args.at c.args.bytes.now c.requires.front (sym c.numeral_len-len.ensures.reach ∙ c.if-len-eq0.true)

pub number_of-requires : goal.number_of-requires
number_of-requires c = subst IsAscii (sym c.split_at.ensures.front) (front_ascii c.args.dot c.args.bytes.now c.numeral_len-len.result c.numeral_len-len.ensures.reach c.if-len-eq0.false)

pub returns-in_default : goal.returns-in_default
returns-in_default c =
    front_range c.args.dot c.args.at c.args.bytes.now c.numeral_len-len.result c.requires.front c.numeral_len-len.ensures.reach c.if-len-eq0.false
    (λ v h. c.in_default.ensures v (subst (λ x. IsNumber x v) (sym c.split_at.ensures.front) h))

pub returns-then-begins_word : goal.returns-then-begins_word
returns-then-begins_word c =
    front_mixed c.args.dot c.args.at c.args.bytes.now c.numeral_len-len.result c.in-Some.num c.requires.front c.numeral_len-len.ensures.reach c.if-len-eq0.false
    (subst (λ x. IsNumber x c.in-Some.num) c.split_at.ensures.front c.in-Some.ensures) (ap begins_word (sym c.split_at.ensures.back) ∙ sym c.begins_word.ensures ∙ c.if-begins_word.true)

pub returns : goal.returns
returns c =
    is_first c.args.dot c.args.at c.args.bytes.now c.token.result (number_kind c.in-Some.num) c.numeral_len-len.result (c.token.ensures.kind ∙ c.number_kind-kind.ensures) c.token.ensures.from c.token.ensures.to
    (front_found c.args.dot c.args.bytes.now c.numeral_len-len.result c.in-Some.num c.requires.front c.numeral_len-len.ensures.reach c.if-len-eq0.false
    (subst (λ x. IsNumber x c.in-Some.num) c.split_at.ensures.front c.in-Some.ensures) (ap begins_word (sym c.split_at.ensures.back) ∙ sym c.begins_word.ensures ∙ c.if-begins_word.false))
