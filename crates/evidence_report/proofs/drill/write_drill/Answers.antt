use Rattle.std.proofs.Common.{◌∙◌}
use Rattle.evidence_lookups.specs.code.Grounds.{known_of}
use Rattle.rule_meaning.specs.Seeing.{world_of}
use Rattle.guard_ends.specs.Drill.{drill_report}
use Rattle.evidence_report.proofs.TakenTexts.{same-front, same-taken}
use Rattle.evidence_report.proofs.drill.write_drill.Goals as goal

pub returns-in-Ok-clause-ok : goal.returns-in-Ok-clause-ok
returns-in-Ok-clause-ok g c answers texts obey =
    same-taken c.put.result (g.S.Sink.told c.args.sink.now) (g.S.Sink.told c.put.new.sink) c.deref.result.now (drill_report c.args.count (world_of (known_of c.args.context.now) answers) texts)
    (c.deref.ensures.value ∙ c.in-Ok.ensures answers texts obey) c.put.ensures.ok

pub returns-in-Ok-clause-err : goal.returns-in-Ok-clause-err
returns-in-Ok-clause-err g c answers texts obey =
    same-front c.put.result (g.S.Sink.told c.args.sink.now) (g.S.Sink.told c.put.new.sink) c.deref.result.now (drill_report c.args.count (world_of (known_of c.args.context.now) answers) texts)
    (c.deref.ensures.value ∙ c.in-Ok.ensures answers texts obey) c.put.ensures.err
