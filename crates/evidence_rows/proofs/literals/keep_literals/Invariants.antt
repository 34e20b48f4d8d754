use Rattle.std.proofs.Common.{◌≡◌}
use Rattle.evidence_rows.proofs.literals.keep_literals.Given as goal

abbrev pub invariant-loop-site : goal.invariant-loop-site
invariant-loop-site l = record {
  doc : l.store.doc.now ≡ l.initial.store.doc.now;
  file : l.store.file.now ≡ l.initial.store.file.now;
  made : l.store.made ≡ l.initial.store.made;
}
