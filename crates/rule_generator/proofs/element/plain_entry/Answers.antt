use Rattle.std.proofs.Common.{sym, ◌∙◌}
use Rattle.rule_generator.proofs.element.plain_entry.Goals as goal

pub returns : goal.returns
returns c = (sym c.in-Some.ensures, sym c.is_plain.ensures ∙ c.if-not-is_plain.false)
