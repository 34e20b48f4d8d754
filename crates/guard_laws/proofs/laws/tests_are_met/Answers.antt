use Rattle.guard_laws.proofs.FormedTrees.{template-formed}
use Rattle.guard_laws.proofs.TestsMet.{passed-met, passed-or-failed}
use Rattle.guard_laws.proofs.laws.tests_are_met.Goals as goal

pub returns : goal.returns
returns c = record {
  passed = λ f bytes rules tree cases e read. passed-met rules tree cases e (template-formed f bytes tree read);
  ends = λ rules tree cases e. passed-or-failed rules tree cases e;
}
