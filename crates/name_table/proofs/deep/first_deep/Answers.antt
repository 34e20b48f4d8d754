use Rattle.name_scopes.specs.code.Seen.{see_best, see_wrong}
use Rattle.name_table.proofs.DeepFaults.{deep-default, deep-item}
use Rattle.name_table.proofs.deep.first_deep.Goals as goal

pub returns-in-Some : goal.returns-in-Some
returns-in-Some c =
    deep-item c.args.file.now c.args.depths.now c.deref.result.now c.deref-2.result.now c.deref-3.result.now c.requires.depths c.deref.ensures.value c.deref-2.ensures.value c.deref-3.ensures.value
    (see_best c.deep_lets-best.result) (see_best c.deep_rules-best.result) (see_wrong c.in-Some.wrong) c.deep_lets-best.ensures c.deep_rules-best.ensures c.in-Some.ensures

pub returns-in-None : goal.returns-in-None
returns-in-None c =
    deep-default c.args.file.now c.args.depths.now c.deref.result.now c.deref-2.result.now c.deref-3.result.now c.requires.depths c.deref.ensures.value c.deref-2.ensures.value c.deref-3.ensures.value
    c.deref-in-None.result.now (see_best c.deep_lets-best.result) (see_best c.deep_rules-best.result) (see_best c.deep_disjs.result) c.deref-in-None.ensures.value
    c.deep_lets-best.ensures c.deep_rules-best.ensures c.in-None.ensures c.deep_disjs.ensures
