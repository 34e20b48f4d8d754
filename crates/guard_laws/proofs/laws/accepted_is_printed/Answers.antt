use Rattle.guard_words.specs.Request.{parse_tree}
use Rattle.guard_ends.specs.Order.{Ends}
use Rattle.guard_laws.proofs.OneEnd.{work-asked}
use Rattle.guard_laws.proofs.OneWritten.{syntax-goes}
use Rattle.guard_laws.proofs.laws.accepted_is_printed.Goals as goal

pub returns : goal.returns
returns c =
    λ words told r file e asked rules_told whole end.
    syntax-goes c.one_syntax.ensures told r c.args.rules.now rules_told file whole e (work-asked words told (parse_tree r) asked (Ends e) end)
