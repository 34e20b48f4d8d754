use Rattle.name_table.specs.code.Measures.{file_of, known_of}
use Rattle.name_table.proofs.MeasuredParts.{rule-measured}
use Rattle.name_table.proofs.depths.of_rule.Goals as goal

pub returns : goal.returns
returns c =
    rule-measured (file_of c.args.measure.now) (known_of c.args.measure.now) c.args.rule.now c.args.table.now c.of_opt_conds-cond.new.table c.of_body-body.new.table c.note.new.table _ _ _ _
    c.of_opt_conds-cond.ensures c.of_body-body.ensures c.larger.ensures c.deeper-depth.ensures c.note.ensures
