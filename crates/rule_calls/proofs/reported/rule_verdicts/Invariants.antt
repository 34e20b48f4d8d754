use Rattle.clause_eval.specs.code.Engines.{see_engine}
use Rattle.rule_calls.specs.code.Reported.{AreVerdicts, rule_sites}
use Rattle.rule_calls.proofs.RulesListed.{first_rules}
use Rattle.rule_calls.proofs.reported.rule_verdicts.Given as goal

abbrev pub invariant-loop-rule : goal.invariant-loop-rule
invariant-loop-rule l = AreVerdicts (see_engine l.engine).lines (rule_sites (first_rules l.rule-items l.rule-index)) l.verdicts.items
