use Rattle.std.proofs.Common.{◌≡◌, refl, sym, subst, List, length}
use Rattle.evidence_lines.specs.declared.line.Line.{Line}
use Rattle.value_store.specs.code.Stores.{see_store}
use Rattle.evidence_lookups.specs.code.JudgedSites.{AreJudged}
use Rattle.evidence_lookups.specs.code.Said.{AreMadeWithin, AreSound}
use Rattle.rule_calls.specs.code.Ends.{state_with}
use Rattle.rule_calls.proofs.SoundLines.{made-within, noted, sound-lines}
use Rattle.rule_calls.proofs.context.line_context.Goals as goal

pub invariant_of-result : goal.invariant_of-result
invariant_of-result c =
    let e = c.args.evaluation.now in
    let s = state_with (see_store e.store) e.evidence.lines c.requires.whole.0 in
    let lines : c.lines.result ≡ s.lines = c.lines.ensures in
    record {
      book_is = c.requires.book;
      store_over = refl;
      pieces_over = c.requires.tables.0;
      owners_are = c.requires.tables.1;
      judged_are = noted c.lines.result c.args.judged.now.of.items (subst (λ (ls : List Line). AreJudged ls c.args.judged.now.of.items) (sym lines) c.requires.judged);
      sound = subst (AreSound s.known) (sym lines) (sound-lines s c.requires.whole.1);
      within = subst (λ (ls : List Line). AreMadeWithin (length ls) s.known.made) (sym lines) (made-within s c.requires.whole.1);
    }
