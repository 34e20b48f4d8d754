use Rattle.std.proofs.lemmas.Grind.{common_steps}
use Rattle.std.proofs.Common.{sym, ◌∙◌, arith}
use Rattle.yaml_grammar.proofs.Looks.{tag_ends, tag_stands}
use Rattle.yaml_nodes.proofs.ahead.tag_token.Goals as goal

pub returns-then-not-ends_tag-clause-is : goal.returns-then-not-ends_tag-clause-is
returns-then-not-ends_tag-clause-is c = sym (tag_ends c.args.bytes.now c.args.flow c.args.start c.name_len-len.result c.name_len-len.ensures.count (sym c.ends_tag.ensures ∙ c.if-not-ends_tag.true))

pub returns-clause-is : goal.returns-clause-is
returns-clause-is c = sym (tag_stands c.args.bytes.now c.args.flow c.args.start c.name_len-len.result c.name_len-len.ensures.count (sym c.begins_letter.ensures ∙ c.if-not-begins_letter.false) (sym c.ends_tag.ensures ∙ c.if-not-ends_tag.false))

pub returns-clause-within : goal.returns-clause-within
returns-clause-within c = grind (arith, common_steps)

pub returns-then-not-begins_letter-clause-within : goal.returns-then-not-begins_letter-clause-within
returns-then-not-begins_letter-clause-within c = grind (arith, common_steps)

pub returns-then-not-ends_tag-clause-within : goal.returns-then-not-ends_tag-clause-within
returns-then-not-ends_tag-clause-within c = grind (arith, common_steps)
