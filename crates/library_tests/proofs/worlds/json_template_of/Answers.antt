use Rattle.value_store.proofs.Patternless.{json-plain}
use Rattle.library_tests.proofs.worlds.json_template_of.Goals as goal

pub returns-in-Ok : goal.returns-in-Ok
returns-in-Ok c = json-plain c.args.text.now c.in-Ok.tree c.in-Ok.ensures.answer
