use Rattle.std.proofs.Common.{take}
use Rattle.engine_states.specs.code.States.{Grows}
use Rattle.clause_eval.specs.code.Engines.{see_engine}
use Rattle.rule_calls.specs.code.Ranks.{AreRanked}
use Rattle.rule_calls.specs.code.Turns.{AreJudged}
use Rattle.rule_calls.proofs.evaluation.judge_rules.Given as goal

abbrev pub invariant-loop-it : goal.invariant-loop-it
invariant-loop-it l = record {
  judged : AreJudged (see_engine l.engine) (take l.it-index l.ranked);
  ranked : AreRanked (see_engine l.engine).known.file l.ranked;
  grows : Grows (see_engine l.initial.engine) (see_engine l.engine);
}
