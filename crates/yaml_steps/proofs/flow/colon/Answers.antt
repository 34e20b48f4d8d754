use Rattle.std.proofs.lemmas.Grind.{common_steps}
use Rattle.std.proofs.Common.{sym, ◌∙◌, arith}
use Rattle.yaml_grammar.proofs.Colons.{colon_behind, colon_missing, no_colon_there}
use Rattle.yaml_steps.proofs.flow.colon.Goals as goal

pub returns-then-ends_key : goal.returns-then-ends_key
returns-then-ends_key c = colon_missing c.args.text.now c.args.quoted c.args.end c.look-next.result c.look-next.ensures.0 c.requires.boundary (sym c.ends_key.ensures ∙ c.if-ends_key.true)

pub returns-then-may_follow : goal.returns-then-may_follow
returns-then-may_follow c = colon_behind c.args.text.now c.args.quoted c.args.end c.look-next.result c.in-Point.loose c.look-next.ensures c.in-Point.is (sym c.may_follow.ensures ∙ c.if-may_follow.true)

pub returns-in_default : goal.returns-in_default
returns-in_default c = no_colon_there c.args.text.now c.args.quoted c.args.end c.look-next.result c.look-next.ensures.0 c.in_default.not-Point (sym c.ends_key.ensures ∙ c.if-ends_key.false)

pub returns-else-may_follow : goal.returns-else-may_follow
returns-else-may_follow c = grind (arith, common_steps)
