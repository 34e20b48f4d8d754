use Rattle.name_table.specs.code.Measures.{known_of}
use Rattle.name_table.proofs.DeepTables.{file-walked}
use Rattle.name_table.proofs.depths.of_file.Goals as goal

pub returns : goal.returns
returns c =
    file-walked c.args.measure.now.file.now (known_of c.args.measure.now) c.deref.result.now c.deref-2.result.now c.deref-3.result.now c.args.table.now c.of_lets-lets.new.table c.of_rules-rules.new.table c.of_disjs-loose.new.table _ _ _ _ _
    c.deref.ensures.value c.deref-2.ensures.value c.deref-3.ensures.value c.of_lets-lets.ensures c.of_rules-rules.ensures c.of_disjs-loose.ensures c.larger.ensures c.larger-2.ensures
