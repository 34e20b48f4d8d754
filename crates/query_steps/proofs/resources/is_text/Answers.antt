use Rattle.std.proofs.Common.{◌∙◌}
use Rattle.rule_meaning.specs.StoreModel.{stands_for}
use Rattle.value_store.specs.code.Stores.{see_store}
use Rattle.query_steps.proofs.NamedTexts.{no-name, one-name}
use Rattle.query_steps.proofs.resources.is_text.Goals as goal

pub returns-in-None : goal.returns-in-None
returns-in-None c = no-name (stands_for (see_store c.args.store.now) c.args.value) c.args.text.now c.in-None.ensures

pub returns-in-Some : goal.returns-in-Some
returns-in-Some c = c.eq.ensures ∙ one-name (stands_for (see_store c.args.store.now) c.args.value) c.args.text.now c.in-Some.found.now c.in-Some.ensures
