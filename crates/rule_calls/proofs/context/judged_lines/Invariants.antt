use Rattle.std.proofs.Common.{◌≡◌, length, take}
use Rattle.rule_names.specs.code.Files.{file_of}
use Rattle.evidence_lookups.specs.code.JudgedSites.{AreJudged}
use Rattle.rule_calls.proofs.context.judged_lines.Given as goal

abbrev pub invariant-loop-before : goal.invariant-loop-before
invariant-loop-before l = record {
  judged : AreJudged (take l.before l.evaluation.evidence.lines) l.judged.of.items;
  sites : length l.judged.of.items ≡ length (file_of l.evaluation.store.file.now).places;
}
