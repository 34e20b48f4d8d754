use Rattle.std.proofs.Common.{ap}
use Rattle.value_store.specs.code.Stores.{see_store}
use Rattle.report_text.specs.EntryLines.{entry_line}
use Rattle.report_text.specs.Texts.{Texts}
use Rattle.report_text.specs.code.SeenEntries.{see_entry}
use Rattle.report_text.proofs.Appended.{nothing-written, written-front, written-whole}
use Rattle.report_text.proofs.entries.write_entry.Goals as goal

pub returns-in-Ok-clause-ok : goal.returns-in-Ok-clause-ok
returns-in-Ok-clause-ok g c =
    written-whole c.write_entry_over.result (g.S.Sink.told c.args.sink.now) (g.S.Sink.told c.write_entry_over.new.sink) _ _
    (ap (λ (texts : Texts). entry_line (see_store c.args.store.now).file (see_store c.args.store.now).template texts (see_entry (see_store c.args.store.now) c.args.entry.now)) c.in-Ok.ensures) c.write_entry_over.ensures.ok

pub returns-in-Ok-clause-err : goal.returns-in-Ok-clause-err
returns-in-Ok-clause-err g c =
    written-front c.write_entry_over.result (g.S.Sink.told c.args.sink.now) (g.S.Sink.told c.write_entry_over.new.sink) _ _
    (ap (λ (texts : Texts). entry_line (see_store c.args.store.now).file (see_store c.args.store.now).template texts (see_entry (see_store c.args.store.now) c.args.entry.now)) c.in-Ok.ensures) c.write_entry_over.ensures.err

pub returns-in-Err-clause-err : goal.returns-in-Err-clause-err
returns-in-Err-clause-err g c = nothing-written (g.S.Sink.told c.args.sink.now) _
