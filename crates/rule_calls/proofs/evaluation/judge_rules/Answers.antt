use Rattle.engine_states.proofs.Evaluating.{Grows-none, Grows-then}
use Rattle.clause_eval.specs.code.Engines.{see_engine}
use Rattle.rule_calls.proofs.RulesInTurn.{all-judged, all-taken, judged-next, may-judge, none-judged, still-ranked}
use Rattle.rule_calls.proofs.evaluation.judge_rules.Goals as goal

pub loop-it-init : goal.loop-it-init
loop-it-init c =
    let s = see_engine c.args.engine.now in
    record { judged = none-judged s c.requires.rests; ranked = c.requires.ranked; grows = Grows-none s }

pub judge_rule-requires-clause-rests : goal.judge_rule-requires-clause-rests
judge_rule-requires-clause-rests c fresh = c.loop-it.invariant.judged.rests

pub judge_rule-requires-clause-rule : goal.judge_rule-requires-clause-rule
judge_rule-requires-clause-rule c fresh =
    may-judge (see_engine c.loop-it.engine) c.args.ranked.now c.loop-it.invariant.ranked c.loop-it.it-index c.it-item.result c.loop-it-test.true c.it-item.is c.loop-it.invariant.judged

pub loop-it-preserved : goal.loop-it-preserved
loop-it-preserved c =
    let a = see_engine c.loop-it.engine in
    let b = see_engine c.judge_rule.new.self in
    let judges = c.in_ok-judge_rule.ensures.judges in
    record {
      judged = judged-next a b c.args.ranked.now c.loop-it.it-index c.it-item.result c.loop-it-test.true c.it-item.is _ judges c.loop-it.invariant.judged;
      ranked = still-ranked a b c.loop-it.invariant.judged.rests judges.grows c.args.ranked.now c.loop-it.invariant.ranked;
      grows = Grows-then (see_engine c.args.engine.now) a b c.loop-it.invariant.grows judges.grows;
    }

pub returns-clause-judged : goal.returns-clause-judged
returns-clause-judged c =
    let s = see_engine c.loop-it.engine in
    all-judged s c.args.ranked.now c.loop-it.invariant.ranked (all-taken s c.args.ranked.now c.loop-it.it-index c.loop-it-test.false c.loop-it.invariant.judged)

pub returns-clause-grows : goal.returns-clause-grows
returns-clause-grows c = c.loop-it.invariant.grows
