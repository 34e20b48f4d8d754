use Rattle.doc_values.proofs.Copying.{notes_found}
use Rattle.doc_values.proofs.doc.copy.noted.Goals as goal

pub returns-in_ok-note-in-Some : goal.returns-in_ok-note-in-Some
returns-in_ok-note-in-Some c = notes_found c.args.own.now c.args.names.now c.note.new.self c.args.name c.in-Some.name c.in_ok-note-in-Some.field-0 c.text.result.now c.in-Some.is c.text.ensures c.in_ok-note-in-Some.ensures
