use Rattle.engine_states.proofs.Evaluating.{Grows-none}
use Rattle.clause_eval.specs.code.Engines.{see_engine}
use Rattle.rule_calls.proofs.RulesInTurn.{loose-empty, loose-some, may-judge-loose, none-outside, outside-judged}
use Rattle.rule_calls.proofs.evaluation.judge_outside.Goals as goal

pub returns-then-is_empty-clause-judged : goal.returns-then-is_empty-clause-judged
returns-then-is_empty-clause-judged c =
    let e = c.args.engine.now in
    none-outside (see_engine e) c.requires (loose-empty e.lines.store.file.now e.lines.file.now e.lines.store_over c.raw.result.now c.raw.ensures c.as_slice.result.now c.as_slice.ensures.value c.is_empty.result c.is_empty.ensures c.if-is_empty.true)

pub returns-then-is_empty-clause-grows : goal.returns-then-is_empty-clause-grows
returns-then-is_empty-clause-grows c = Grows-none (see_engine c.args.engine.now)

pub judge_loose-requires-clause-rests : goal.judge_loose-requires-clause-rests
judge_loose-requires-clause-rests c fresh = c.requires.rests

pub judge_loose-requires-clause-loose : goal.judge_loose-requires-clause-loose
judge_loose-requires-clause-loose c fresh =
    let e = c.args.engine.now in
    let some = loose-some e.lines.store.file.now e.lines.file.now e.lines.store_over c.raw.result.now c.raw.ensures c.as_slice.result.now c.as_slice.ensures.value c.is_empty.result c.is_empty.ensures c.if-is_empty.false in
    may-judge-loose (see_engine e) c.requires some.0 some.1 some.2

pub returns-clause-judged : goal.returns-clause-judged
returns-clause-judged c = outside-judged (see_engine c.args.engine.now) (see_engine c.judge_loose.new.self) c.requires _ c.in_ok-judge_loose.ensures.judges

pub returns-clause-grows : goal.returns-clause-grows
returns-clause-grows c = c.in_ok-judge_loose.ensures.judges.grows
