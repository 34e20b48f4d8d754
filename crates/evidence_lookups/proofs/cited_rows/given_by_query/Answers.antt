use Rattle.std.proofs.Common.{List, map, ap, sym, ◌∙◌}
use Rattle.guard_syntax.specs.Syntax as sx
use Rattle.guard_syntax.specs.code.Seen.{see_query, see_step, step_list}
use Rattle.guard_syntax.specs.declared.syntax.Step.{Step}
use Rattle.evidence_rules.specs.CitedLines.{last_step}
use Rattle.evidence_lookups.specs.code.Grounds.{file_in, lines_of}
use Rattle.evidence_lookups.proofs.PartsSeen.{steps-seen}
use Rattle.evidence_lookups.proofs.RowsGiven.{last-got, none-given, query-given}
use Rattle.evidence_lookups.proofs.cited_rows.given_by_query.Goals as goal

pub returns-in-Some : goal.returns-in-Some
returns-in-Some c =
    let f = file_in c.args.context.now in
    let ls = lines_of c.args.context.now in
    query-given f ls c.args.frame (see_query c.args.query.now) (see_step c.in-Some.step.now) c.args.number c.given_by_step.result
    (ap (λ (ss : sx.Steps). last_step f ls ss) (steps-seen c.args.query.now ∙ ap (λ (xs : List Step). step_list (map see_step xs)) (sym c.deref.ensures.value))
    ∙ last-got f ls c.args.frame c.deref.result.now c.in-Some.step.now c.in-Some.ensures.value)
    c.given_by_step.ensures

pub returns-in-None : goal.returns-in-None
returns-in-None c =
    none-given (file_in c.args.context.now) (lines_of c.args.context.now) c.args.frame (see_query c.args.query.now) c.deref.result.now c.args.number
    (steps-seen c.args.query.now ∙ ap (λ (xs : List Step). step_list (map see_step xs)) (sym c.deref.ensures.value)) c.in-None.ensures.value
