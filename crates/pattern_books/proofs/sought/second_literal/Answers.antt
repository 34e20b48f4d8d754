use Rattle.std.proofs.Common.{◌∙◌, sym, ap}
use Rattle.rule_names.proofs.Arguments.{args-none, args-some}
use Rattle.rule_meaning.specs.Patterns.{literal_site}
use Rattle.pattern_books.proofs.sought.second_literal.Goals as goal

pub returns-in-None : goal.returns-in-None
returns-in-None c = ap literal_site (sym (args-none c.args.args.now 1 c.in-None.ensures.lookup.3))

pub returns-in-Some : goal.returns-in-Some
returns-in-Some c = c.literal_site.ensures ∙ ap literal_site (sym (args-some c.args.args.now 1 c.in-Some.argument.now c.in-Some.ensures.lookup.3.0 c.in-Some.ensures.lookup.1))
