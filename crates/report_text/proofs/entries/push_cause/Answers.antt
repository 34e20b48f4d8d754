use Rattle.std.proofs.Common.{◌++◌, ℕ, List, codes, ap, ◌∙◌}
use Rattle.rule_names.specs.Pieces.{piece_at}
use Rattle.rule_names.specs.code.Files.{file_of}
use Rattle.report_text.specs.EntryLines.{note_of, site_text, word_text}
use Rattle.report_text.specs.Messages.{note_text}
use Rattle.report_text.specs.code.SeenEntries.{see_word}
use Rattle.report_text.proofs.Appended.{and-then}
use Rattle.report_text.proofs.entries.push_cause.Goals as goal

pub returns : goal.returns
returns c =
    let word : List ℕ = word_text (see_word c.args.entry.now.word) in
    let place : List ℕ = site_text (file_of c.args.file.now) c.args.rules.now.text.now c.args.entry.now.part in
    let note : List ℕ = note_text (note_of (piece_at (file_of c.args.file.now) c.args.entry.now.part)) in
    let line : List ℕ = c.push-2.new.self.items in
    and-then c.args.line.now.items c.push.new.self.items line (codes " ") (word ++ (codes " by " ++ (place ++ (note ++ codes "\n")))) c.in_ok-push.ensures.items
    (and-then c.push.new.self.items c.extend_from_slice.new.self.items line word (codes " by " ++ (place ++ (note ++ codes "\n")))
    (c.in_ok-extend_from_slice.ensures.items ∙ ap (λ (t : List ℕ). c.push.new.self.items ++ t) (c.as_bytes.ensures.value ∙ c.word_of.ensures))
    (and-then c.extend_from_slice.new.self.items c.extend_from_slice-2.new.self.items line (codes " by ") (place ++ (note ++ codes "\n")) c.in_ok-extend_from_slice-2.ensures.items
    (and-then c.extend_from_slice-2.new.self.items c.push_site.new.line.items line place (note ++ codes "\n") c.in_ok-push_site.ensures
    (and-then c.push_site.new.line.items c.push_note.new.line.items line note (codes "\n") c.in_ok-push_note.ensures c.in_ok-push-2.ensures.items))))
