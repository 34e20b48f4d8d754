use Rattle.std.proofs.Common.{sym, subst, List}
use Rattle.std.proofs.lemmas.Result.{on_ok_weaker}
use Rattle.rule_names.specs.code.Files.{file_of}
use Rattle.rule_names.specs.declared.file.RuleFile.{RuleFile}
use Rattle.engine_states.specs.code.States.{Grows}
use Rattle.engine_states.proofs.Evaluating.{Grows-then}
use Rattle.clause_eval.specs.code.Engines.{see_engine}
use Rattle.rule_calls.specs.code.Ranks.{AreRanked}
use Rattle.rule_calls.specs.declared.ranked.Ranked.{Ranked}
use Rattle.rule_calls.proofs.evaluation.judge_file.Goals as goal

pub judge_rules-requires-clause-ranked : goal.judge_rules-requires-clause-ranked
judge_rules-requires-clause-ranked c =
    let e = c.args.engine.now in
    subst (λ (xs : List Ranked). AreRanked (see_engine e).known.file xs) (sym c.deref.ensures.value)
    (subst (λ (f : RuleFile). AreRanked (file_of f) c.in_ok-ranked.ranked.items) (sym e.lines.store_over) c.in_ok-ranked.ensures)

pub returns-clause-grows : goal.returns-clause-grows
returns-clause-grows c =
    let a = see_engine c.args.engine.now in
    let b = see_engine c.judge_rules.new.engine in
    let d = see_engine c.judge_outside.new.engine in
    on_ok_weaker {P = Grows b d} {Q = Grows a d} c.judge_outside.result (λ grows. Grows-then a b d c.in_ok-judge_rules.ensures.grows grows) c.judge_outside.ensures.grows
