use Rattle.std.proofs.Common.{◌≡◌, length, take}
use Rattle.value_store.specs.code.Stores.{see_store}
use Rattle.evidence_lookups.specs.code.JudgedSites.{AreJudged}
use Rattle.evidence_lookups.specs.code.Said.{AreMadeWithin, AreSound}
use Rattle.evidence_checker.specs.code.Judging.{IsKnownBehind}
use Rattle.evidence_checker.proofs.judge.judge_lines.Given as goal

abbrev pub invariant-loop-before : goal.invariant-loop-before
invariant-loop-before l = record {
  file : l.store.file.now ≡ l.fn.store.file.now;
  behind : IsKnownBehind l.written (see_store l.fn.store) (take l.before l.evidence.lines) (see_store l.store);
  judged : AreJudged (take l.before l.evidence.lines) l.judged.of.items;
  sites : length l.judged.of.items ≡ length (see_store l.store).file.places;
  sound : AreSound (see_store l.store) (take l.before l.evidence.lines);
  made : AreMadeWithin l.before (see_store l.store).made;
}
