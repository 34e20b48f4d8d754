use Rattle.std.proofs.Common.{◌∙◌}
use Rattle.report_text.proofs.Appended.{nothing-written, written-front, written-whole}
use Rattle.report_text.proofs.entries.write_entry_over.Goals as goal

pub returns-in-Ok-clause-ok : goal.returns-in-Ok-clause-ok
returns-in-Ok-clause-ok g c =
    written-whole c.put.result (g.S.Sink.told c.args.sink.now) (g.S.Sink.told c.put.new.sink) c.deref.result.now _ (c.deref.ensures.value ∙ c.in-Ok.ensures) c.put.ensures.ok

pub returns-in-Ok-clause-err : goal.returns-in-Ok-clause-err
returns-in-Ok-clause-err g c =
    written-front c.put.result (g.S.Sink.told c.args.sink.now) (g.S.Sink.told c.put.new.sink) c.deref.result.now _ (c.deref.ensures.value ∙ c.in-Ok.ensures) c.put.ensures.err

pub returns-in-Err-clause-err : goal.returns-in-Err-clause-err
returns-in-Err-clause-err g c = nothing-written (g.S.Sink.told c.args.sink.now) _
