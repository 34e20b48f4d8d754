use Rattle.std.proofs.Common.{ap, sym, ◌∙◌, get_or, true≢false}
use Rattle.std.specs.List.{flat_map, list_all}
use Rattle.guard_syntax.specs.code.Seen.{see_step}
use Rattle.rule_meaning.specs.Keys.{captured_row}
use Rattle.rule_meaning.specs.StoreModel.{is_known}
use Rattle.evidence_lookups.specs.code.Grounds.{known_of, lines_of}
use Rattle.evidence_lookups.proofs.SaidKnown.{rows-said-known}
use Rattle.evidence_rows.proofs.StepLines.{capture-due, capture-lacks, one-cite, capture-many, capture-uncited, rows-same}
use Rattle.evidence_rows.proofs.step_rows.capture_follows.Goals as goal

pub returns-in_default-given_by_step-clause-follows : goal.returns-in_default-given_by_step-clause-follows
returns-in_default-given_by_step-clause-follows c =
    capture-lacks (known_of c.args.context.now) (lines_of c.args.context.now) c.args.line.frame (see_step c.args.step.now) (get_or c.args.line.cites.now 0 0) c.args.line.cites.now c.args.rows.now
    (one-cite c.args.line.cites.now c.in-len1.len_at_least c.in-len1.len_below) c.in_default-given_by_step.ensures

pub captured-requires : goal.captured-requires
captured-requires c = record {
  known = ap (list_all (is_known (known_of c.args.context.now))) (c.as_slice.ensures ∙ c.in_ok-kept.ensures) ∙ rows-said-known (known_of c.args.context.now) (lines_of c.args.context.now) c.args.context.now.sound _ _ _ _ c.in-Some.kept c.in-Some.ensures;
}

pub returns-in_default-clause-follows : goal.returns-in_default-clause-follows
returns-in_default-clause-follows c = capture-uncited (known_of c.args.context.now) (lines_of c.args.context.now) c.args.line.frame (see_step c.args.step.now) c.args.line.cites.now c.args.rows.now c.in_default.len_below

pub returns-in_default-2-clause-follows : goal.returns-in_default-2-clause-follows
returns-in_default-2-clause-follows c = capture-many (known_of c.args.context.now) (lines_of c.args.context.now) c.args.line.frame (see_step c.args.step.now) c.args.line.cites.now c.args.rows.now c.in_default.len_at_least

pub returns-in_default-clause-known : goal.returns-in_default-clause-known
returns-in_default-clause-known c = λ e. absurd (true≢false (sym e))

pub returns-in_default-2-clause-known : goal.returns-in_default-2-clause-known
returns-in_default-2-clause-known c = λ e. absurd (true≢false (sym e))

pub returns-in_default-given_by_step-clause-known : goal.returns-in_default-given_by_step-clause-known
returns-in_default-given_by_step-clause-known c = λ e. absurd (true≢false (sym e))

pub bounds-number-0 : goal.bounds-number-0
bounds-number-0 c = c.in-len1.len_at_least

pub returns-clause-follows : goal.returns-clause-follows
returns-clause-follows c =
    capture-due (known_of c.args.context.now) (lines_of c.args.context.now) c.args.line.frame (see_step c.args.step.now) (get_or c.args.line.cites.now 0 0) c.args.line.cites.now c.in-Some.kept c.args.rows.now c.deref.result.now c.same_rows.result
    (one-cite c.args.line.cites.now c.in-len1.len_at_least c.in-len1.len_below) c.in-Some.ensures
    (c.deref.ensures.value ∙ c.in_ok-due.ensures.rows ∙ ap (flat_map (captured_row (known_of c.args.context.now))) (c.as_slice.ensures ∙ c.in_ok-kept.ensures)) c.same_rows.ensures

pub returns-clause-known : goal.returns-clause-known
returns-clause-known c = λ same.
    ap (list_all (is_known (known_of c.args.context.now))) (rows-same c.same_rows.result c.args.rows.now c.deref.result.now c.same_rows.ensures same ∙ c.deref.ensures.value) ∙ c.in_ok-due.ensures.known
