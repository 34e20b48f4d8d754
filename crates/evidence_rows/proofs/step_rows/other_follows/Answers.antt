use Rattle.std.proofs.Common.{◌≡◌, Bool, List, [], sym, ap, ap₂, ◌∙◌, true≢false}
use Rattle.std.specs.List.{list_all}
use Rattle.std.proofs.lemmas.Option.{none-some}
use Rattle.std.proofs.lemmas.Result.{IfOk-weaker}
use Rattle.guard_syntax.specs.code.Seen.{see_query, see_step}
use Rattle.guard_syntax.specs.declared.row.Row.{Row}
use Rattle.evidence_rules.specs.Follows.{FollowsStep}
use Rattle.rule_meaning.specs.Places.{rows_at_step}
use Rattle.rule_meaning.specs.StoreModel.{is_known}
use Rattle.evidence_lookups.specs.code.Grounds.{file_in, known_of, lines_of}
use Rattle.evidence_lookups.proofs.SaidKnown.{before-said-known, further-said-known, value-said-known}
use Rattle.evidence_rows.proofs.StepLines.{IsJudgedSo, start-bare, step-due, step-lacks}
use Rattle.evidence_rows.proofs.step_rows.other_follows.Goals as goal

pub returns-in_default : goal.returns-in_default
returns-in_default c = record { follows = λ h. none-some h.0 (c.in_default.ensures ∙ h.5); known = λ e. absurd (true≢false (sym e)) }

pub returns-in_default-rows_before : goal.returns-in_default-rows_before
returns-in_default-rows_before c = record {
  follows = λ h. c.in_default-rows_before.ensures h.1 h.2 h.3 h.6 h.7;
  known = λ e. absurd (true≢false (sym e));
}

pub returns-in_default-rows_further : goal.returns-in_default-rows_further
returns-in_default-rows_further c =
    let b = c.in-Some-rows_before.ensures in
    record {
      follows =
          step-lacks (known_of c.args.context.now) (lines_of c.args.context.now) c.args.line.frame (see_query c.args.at.query.now) c.args.line.site c.args.at.index c.in-Some.current b.0 c.in-Some-rows_before.last.now c.args.line.cites.now c.in-Some-rows_before.before (sym c.in-Some.ensures) b.1 b.2
          (see_step c.args.at.step.now) c.args.rows.now c.in_default-rows_further.ensures;
      known = λ e. absurd (true≢false (sym e));
    }

pub are_due-requires-clause-start : goal.are_due-requires-clause-start
are_due-requires-clause-start c start =
    let b = c.in-Some-rows_before.ensures in
    c.as_slice.ensures ∙ c.in_ok-before.ensures
    ∙ start-bare (known_of c.args.context.now) (lines_of c.args.context.now) c.args.line.frame (see_query c.args.at.query.now) (file_in c.args.context.now) c.args.line.site c.args.at.index b.0 c.in-Some-rows_before.before c.requires.placed b.2 start

pub are_due-requires-clause-current : goal.are_due-requires-clause-current
are_due-requires-clause-current c = value-said-known (known_of c.args.context.now) (lines_of c.args.context.now) c.args.context.now.sound c.args.line.frame c.in-Some.current (sym c.in-Some.ensures)

pub are_due-requires-clause-before : goal.are_due-requires-clause-before
are_due-requires-clause-before c =
    let b = c.in-Some-rows_before.ensures in
    ap (list_all (is_known (known_of c.args.context.now))) (c.as_slice.ensures ∙ c.in_ok-before.ensures)
    ∙ before-said-known (known_of c.args.context.now) (lines_of c.args.context.now) c.args.context.now.sound c.args.line.frame (see_query c.args.at.query.now) c.args.at.index b.0 c.in-Some-rows_before.before b.2

pub are_due-requires-clause-further : goal.are_due-requires-clause-further
are_due-requires-clause-further c =
    ap (list_all (is_known (known_of c.args.context.now))) (c.as_slice-2.ensures ∙ c.in_ok-further.ensures)
    ∙ further-said-known (known_of c.args.context.now) (lines_of c.args.context.now) c.args.context.now.sound c.args.line.frame (see_step c.args.at.step.now) c.in-Some-rows_before.last.now c.in-Some-rows_further.further c.in-Some-rows_further.ensures

pub returns : goal.returns
returns c =
    let k = known_of c.args.context.now in
    let lines = lines_of c.args.context.now in
    let site = c.args.line.site in
    let q = see_query c.args.at.query.now in
    let index = c.args.at.index in
    let step = see_step c.args.at.step.now in
    let b = c.in-Some-rows_before.ensures in
    let before = c.in-Some-rows_before.before in
    let further = c.in-Some-rows_further.further in
    let last = c.in-Some-rows_before.last.now in
    let cites = c.args.line.cites.now in
    let current = c.in-Some.current in
    let given = rows_at_step k site current c.as_slice.result.now c.as_slice-2.result.now [] in
    let due : given ≡ rows_at_step k site current before further [] =
    ap₂ (λ (b r : List Row). rows_at_step k site current b r []) (c.as_slice.ensures ∙ c.in_ok-before.ensures) (c.as_slice-2.ensures ∙ c.in_ok-further.ensures) in
    record {
      follows = IfOk-weaker c.are_due.result (λ (x : Bool). IsJudgedSo x (c.args.rows.now ≡ given)) (λ (x : Bool). IsJudgedSo x (FollowsStep k lines c.args.line.frame site q index step cites c.args.rows.now))
          (λ x judged. step-due k lines c.args.line.frame q site index current b.0 last cites before (sym c.in-Some.ensures) b.1 b.2 step further c.args.rows.now given x c.in-Some-rows_further.ensures due judged)
          c.are_due.ensures.due;
      known = c.are_due.ensures.known;
    }
