use Rattle.std.proofs.Common.{◌*◌, ◌≤◌, ℕ, List, Some, map, take}
use Rattle.guard_syntax.specs.code.Seen.{expr_list, see_body, see_conds, see_disj, see_expr, see_part, see_query}
use Rattle.guard_syntax.specs.declared.row.Row.{Row}
use Rattle.guard_syntax.specs.declared.row.Verdict.TheVariants.{Pass}
use Rattle.rule_names.specs.ReferenceGraph.{disj_site, part_site}
use Rattle.rule_names.specs.Uses.{query_site}
use Rattle.evidence_rules.specs.CitedLines.{GiveArgs, body_site}
use Rattle.evidence_rules.specs.Follows.{SayEach, SaysCandidate, conds_site}
use Rattle.engine_states.specs.code.Answers.{GivesStepBefore, LacksStep, above, argument_bound}
use Rattle.engine_states.specs.code.Evaluated.{Evaluates}
use Rattle.engine_states.specs.code.Falling.{height_at}
use Rattle.engine_states.specs.code.Inside.{expr_sited}
use Rattle.engine_states.proofs.InTurn.{SaidFor}
use Rattle.engine_states.proofs.Ranks.{rank_in, step_place}
use Rattle.engine_states.proofs.RowsInTurn.{BodiesSaid}
use Rattle.engine_states.proofs.StepsInTurn.{line_list}
use Rattle.engine_states.proofs.VerdictsInTurn.{DisjsSoFar, PartsSoFar}
use Rattle.engine_lines.specs.code.Lines.{see_lines}
use Rattle.clause_eval.proofs.+evaluation.Given as goal

-- Expressions and queries.

abbrev pub decreases-rows::expression : goal.decreases-rows::expression
decreases-rows::expression l = rank_in (see_lines l.engine.now) l.frame (expr_sited (see_expr l.expr.now)).0 5

abbrev pub decreases-rows::found_query : goal.decreases-rows::found_query
decreases-rows::found_query l = rank_in (see_lines l.engine.now) l.frame l.site 0

abbrev pub decreases-rows::function : goal.decreases-rows::function
decreases-rows::function l = rank_in (see_lines l.engine.now) l.frame l.site 0

abbrev pub decreases-rows::query : goal.decreases-rows::query
decreases-rows::query l = rank_in (see_lines l.engine.now) l.frame (query_site (see_query l.query.now)) 4

abbrev pub decreases-rows::steps : goal.decreases-rows::steps
decreases-rows::steps l = rank_in (see_lines l.engine.now) l.frame (step_place (see_query l.query.now) l.last) 3

-- Steps.

abbrev pub decreases-steps::step : goal.decreases-steps::step
decreases-steps::step l = rank_in (see_lines l.engine.now) l.frame (step_place (see_query l.query.now) l.index) 2

abbrev pub decreases-steps::filter : goal.decreases-steps::filter
decreases-steps::filter l = rank_in (see_lines l.engine.now) l.step.frame l.step.site 1

abbrev pub decreases-steps::judge_candidates : goal.decreases-steps::judge_candidates
decreases-steps::judge_candidates l = rank_in (see_lines l.engine.now) l.frame l.site 0

-- Names: an argument stands in the frame of the caller, one height below its bound.

abbrev pub decreases-names::variable : goal.decreases-names::variable
decreases-names::variable l = rank_in (see_lines l.engine.now) l.frame l.site 1

abbrev pub decreases-names::value : goal.decreases-names::value
decreases-names::value l = rank_in (see_lines l.engine.now) l.frame l.site 6

abbrev pub decreases-names::capture : goal.decreases-names::capture
decreases-names::capture l = rank_in (see_lines l.engine.now) l.frame l.site 4

abbrev pub decreases-names::argument : goal.decreases-names::argument
decreases-names::argument l = argument_bound (see_lines l.engine.now) l.frame l.index * 8

-- Verdicts.

abbrev pub decreases-verdicts::conditions : goal.decreases-verdicts::conditions
decreases-verdicts::conditions l = rank_in (see_lines l.engine.now) l.frame (conds_site (see_conds l.conds.now)) 3

abbrev pub decreases-verdicts::conjunction : goal.decreases-verdicts::conjunction
decreases-verdicts::conjunction l = rank_in (see_lines l.engine.now) l.frame l.site 2

abbrev pub decreases-verdicts::disjunctions : goal.decreases-verdicts::disjunctions
decreases-verdicts::disjunctions l = rank_in (see_lines l.engine.now) l.frame l.site 1

abbrev pub decreases-verdicts::disjunction : goal.decreases-verdicts::disjunction
decreases-verdicts::disjunction l = rank_in (see_lines l.engine.now) l.frame (disj_site (see_disj l.disj.now)) 1

abbrev pub decreases-verdicts::alternatives : goal.decreases-verdicts::alternatives
decreases-verdicts::alternatives l = rank_in (see_lines l.engine.now) l.frame (disj_site (see_disj l.disj.now)) 0

abbrev pub decreases-verdicts::part : goal.decreases-verdicts::part
decreases-verdicts::part l = rank_in (see_lines l.engine.now) l.frame (part_site (see_part l.part.now)) 2

-- Parts by their kinds.

abbrev pub decreases-blocks::test : goal.decreases-blocks::test
decreases-blocks::test l = rank_in (see_lines l.engine.now) l.frame (part_site (see_part l.part.now)) 0

abbrev pub decreases-blocks::call : goal.decreases-blocks::call
decreases-blocks::call l = rank_in (see_lines l.engine.now) l.frame l.site 0

abbrev pub decreases-blocks::guarded : goal.decreases-blocks::guarded
decreases-blocks::guarded l = rank_in (see_lines l.engine.now) l.frame l.site 0

abbrev pub decreases-blocks::block : goal.decreases-blocks::block
decreases-blocks::block l = rank_in (see_lines l.engine.now) l.frame l.head.site 0

abbrev pub decreases-blocks::kinds : goal.decreases-blocks::kinds
decreases-blocks::kinds l = rank_in (see_lines l.engine.now) l.frame l.site 1

abbrev pub decreases-blocks::typed : goal.decreases-blocks::typed
decreases-blocks::typed l = rank_in (see_lines l.engine.now) l.frame l.site 0

-- A body: in the frame around it.

abbrev pub decreases-blocks::bodies : goal.decreases-blocks::bodies
decreases-blocks::bodies l = rank_in (see_lines l.engine.now) l.frame (body_site (see_body l.body.now)) 5

abbrev pub decreases-blocks::body_at : goal.decreases-blocks::body_at
decreases-blocks::body_at l = rank_in (see_lines l.engine.now) l.frame (body_site (see_body l.body.now)) 4

-- Loops.

abbrev pub invariant-rows::function-loop-arg : goal.invariant-rows::function-loop-arg
invariant-rows::function-loop-arg l =
    let a = see_lines l.initial.engine in
    let b = see_lines l.engine in
    SaidFor a b (height_at a.known.file a.frames l.frame l.site) l.frame l.cites.items
    (λ at. (given : List (List Row)) × GiveArgs b.known.file b.lines at (expr_list (map see_expr (take l.arg-index l.args))) l.cites.items given)

abbrev pub invariant-rows::steps-loop-index : goal.invariant-rows::steps-loop-index
invariant-rows::steps-loop-index l =
    let a = see_lines l.initial.engine in
    let b = see_lines l.engine in
    let q = see_query l.query in
    record {
      evaluates : Evaluates a b (above a l.frame (step_place q l.last)) (line_list l.line);
      before : GivesStepBefore b l.frame q l.index l.line;
      new : (i : ℕ) → l.index ≤ i → i ≤ l.last → LacksStep b l.frame q i;
    }

abbrev pub invariant-steps::judge_candidates-loop-candidate : goal.invariant-steps::judge_candidates-loop-candidate
invariant-steps::judge_candidates-loop-candidate l =
    let a = see_lines l.initial.engine in
    let b = see_lines l.engine in
    SaidFor a b (height_at a.known.file a.frames l.frame l.site) l.frame l.judged.lines.items
    (λ at. SayEach b.known b.lines (SaysCandidate b.known b.lines at l.site (see_conds l.conds)) (take l.candidate-index l.tried) l.judged.lines.items l.judged.verdicts.items)

abbrev pub invariant-verdicts::disjunctions-loop-disj : goal.invariant-verdicts::disjunctions-loop-disj
invariant-verdicts::disjunctions-loop-disj l =
    let a = see_lines l.initial.engine in
    let b = see_lines l.engine in
    SaidFor a b (height_at a.known.file a.frames l.frame l.site) l.frame l.lines.items
    (DisjsSoFar b l.stop (map see_disj (take l.disj-index l.disjs)) l.lines.items l.verdict)

abbrev pub invariant-verdicts::alternatives-loop-part : goal.invariant-verdicts::alternatives-loop-part
invariant-verdicts::alternatives-loop-part l =
    let a = see_lines l.initial.engine in
    let b = see_lines l.engine in
    SaidFor a b (height_at a.known.file a.frames l.frame (disj_site (see_disj l.disj))) l.frame l.lines.items
    (PartsSoFar b (Some Pass) (map see_part (take l.part-index l.part-items)) l.lines.items l.verdict)

abbrev pub invariant-blocks::bodies-loop-row : goal.invariant-blocks::bodies-loop-row
invariant-blocks::bodies-loop-row l =
    let a = see_lines l.initial.engine in
    let b = see_lines l.engine in
    SaidFor a b (above a l.frame (body_site (see_body l.body))) l.frame l.lines.items (BodiesSaid b l.any (see_body l.body) (take l.row-index l.rows) l.lines.items l.verdict)
