use Rattle.std.proofs.Common.{◌≡◌, ℕ, Bool, [], ap, length, sym, true≢false, subst, ◌∙◌, List, MatchOption, None, Option, Some, Vec, Global}
use Rattle.std.specs.List.{list_all}
use Rattle.std.proofs.lemmas.Option.{none-some}
use Rattle.std.proofs.lemmas.Result.{IfOk-weaker}
use Rattle.evidence_lines.specs.declared.line.Line.{Line}
use Rattle.guard_syntax.specs.code.Seen.{see_conds, see_query}
use Rattle.guard_syntax.specs.Syntax.{Conds}
use Rattle.guard_syntax.specs.declared.row.Ref.{Ref}
use Rattle.guard_syntax.specs.declared.row.Row.{Row}
use Rattle.guard_syntax.specs.declared.row.Verdict.{Verdict}
use Rattle.rule_meaning.specs.StoreModel.{StoreModel, is_known}
use Rattle.evidence_rules.specs.Follows.{FollowsFilter, IsLater, SayEach, SaysCandidate}
use Rattle.rule_meaning.specs.Places.{candidates_at, rows_at_step}
use Rattle.evidence_lookups.specs.code.Grounds.{file_in, known_of, lines_of}
use Rattle.evidence_lookups.proofs.SaidKnown.{before-said-known, value-said-known}
use Rattle.evidence_rows.proofs.StepLines.{IsJudgedSo, filter-due, filter-lacks, later-judged, never-later, never-start, none-taken, said-each, some-taken, start-bare}
use Rattle.evidence_rows.proofs.step_rows.filter_follows.Goals as goal

-- one verdict for each value that is tried
abbrev Said : StoreModel → List Line → (frame site : ℕ) → Conds → List Ref → (cites : List ℕ) → List Verdict → Type 0
Said known lines frame site conditions = SayEach known lines (SaysCandidate known lines frame site conditions)

-- and whether there is one for each
module _ (known : StoreModel) (lines : List Line) (frame site : ℕ) (conditions : Conds) (values : List Ref) (cites : List ℕ) (said : Option (Vec Verdict Global)) where
  abbrev AreSaid : Type 0
  AreSaid =
      MatchOption said ((verdicts : List Verdict) → Said known lines frame site conditions values cites verdicts → ⊥) (λ verdicts. Said known lines frame site conditions values cites verdicts.items)

  none-said : said ≡ None → AreSaid → (verdicts : List Verdict) → Said known lines frame site conditions values cites verdicts → ⊥
  none-said is are = none-taken said _ (λ verdicts. Said known lines frame site conditions values cites verdicts.items) is are

  some-said : (verdicts : Vec Verdict Global) → said ≡ Some verdicts → AreSaid → Said known lines frame site conditions values cites verdicts.items
  some-said verdicts is are = some-taken said verdicts _ (λ verdicts. Said known lines frame site conditions values cites verdicts.items) is are

pub returns-then-index-eq0 : goal.returns-then-index-eq0
returns-then-index-eq0 c = record {
  follows = never-start c.args.at.index (FollowsFilter (known_of c.args.context.now) (lines_of c.args.context.now) c.args.line.frame c.args.line.site (see_query c.args.at.query.now) c.args.at.index (see_conds c.args.conditions.now) c.args.line.cites.now c.args.rows.now) c.if-index-eq0.true;
  known = λ e. absurd (true≢false (sym e));
}

pub returns-in_default : goal.returns-in_default
returns-in_default c = record {
  follows = never-later c.args.at.index (FollowsFilter (known_of c.args.context.now) (lines_of c.args.context.now) c.args.line.frame c.args.line.site (see_query c.args.at.query.now) c.args.at.index (see_conds c.args.conditions.now) c.args.line.cites.now c.args.rows.now) (λ h. none-some h.0 (c.in_default.ensures ∙ h.5));
  known = λ e. absurd (true≢false (sym e));
}

pub returns-in_default-rows_before : goal.returns-in_default-rows_before
returns-in_default-rows_before c = record {
  follows = never-later c.args.at.index (FollowsFilter (known_of c.args.context.now) (lines_of c.args.context.now) c.args.line.frame c.args.line.site (see_query c.args.at.query.now) c.args.at.index (see_conds c.args.conditions.now) c.args.line.cites.now c.args.rows.now) (λ h. c.in_default-rows_before.ensures h.1 h.2 h.3 h.6 h.7);
  known = λ e. absurd (true≢false (sym e));
}

pub returns-in_default-2-clause-known : goal.returns-in_default-2-clause-known
returns-in_default-2-clause-known c = λ e. absurd (true≢false (sym e))

pub are_due-requires-clause-start : goal.are_due-requires-clause-start
are_due-requires-clause-start c start =
    let b = c.in-Some-rows_before.ensures in
    c.as_slice-2.ensures ∙ c.in_ok-before.ensures
    ∙ start-bare (known_of c.args.context.now) (lines_of c.args.context.now) c.args.line.frame (see_query c.args.at.query.now) (file_in c.args.context.now) c.args.line.site c.args.at.index b.0 c.in-Some-rows_before.before c.requires.placed b.2 start

pub verdicts_due-requires-clause-known : goal.verdicts_due-requires-clause-known
verdicts_due-requires-clause-known c =
    let b = c.in-Some-rows_before.ensures in
    ap (list_all (is_known (known_of c.args.context.now))) (c.as_slice.ensures ∙ c.in_ok-before.ensures)
    ∙ before-said-known (known_of c.args.context.now) (lines_of c.args.context.now) c.args.context.now.sound c.args.line.frame (see_query c.args.at.query.now) c.args.at.index b.0 c.in-Some-rows_before.before b.2

pub returns-in_default-2-clause-follows : goal.returns-in_default-2-clause-follows
returns-in_default-2-clause-follows c =
    let b = c.in-Some-rows_before.ensures in
    let rows : c.as_slice.result.now ≡ c.in-Some-rows_before.before = c.as_slice.ensures ∙ c.in_ok-before.ensures in
    never-later c.args.at.index (FollowsFilter (known_of c.args.context.now) (lines_of c.args.context.now) c.args.line.frame c.args.line.site (see_query c.args.at.query.now) c.args.at.index (see_conds c.args.conditions.now) c.args.line.cites.now c.args.rows.now)
    (filter-lacks (known_of c.args.context.now) (lines_of c.args.context.now) c.args.line.frame (see_query c.args.at.query.now) c.args.line.site c.args.at.index c.in-Some.current b.0 c.in-Some-rows_before.last.now c.args.line.cites.now c.in-Some-rows_before.before (sym c.in-Some.ensures) b.1 b.2
    (see_conds c.args.conditions.now) (candidates_at (known_of c.args.context.now) c.args.line.site c.as_slice.result.now) c.args.rows.now (ap (candidates_at (known_of c.args.context.now) c.args.line.site) rows)
    (none-said (known_of c.args.context.now) (lines_of c.args.context.now) c.args.line.frame c.args.line.site (see_conds c.args.conditions.now) (candidates_at (known_of c.args.context.now) c.args.line.site c.as_slice.result.now) c.in-Some-rows_before.last.now c.in_ok-verdicts.field-0 c.in_default-2.is c.in_ok-verdicts.ensures))

pub are_due-requires-clause-verdicts : goal.are_due-requires-clause-verdicts
are_due-requires-clause-verdicts c =
    let tried = candidates_at (known_of c.args.context.now) c.args.line.site c.as_slice.result.now in
    let same : c.as_slice.result.now ≡ c.as_slice-2.result.now = c.as_slice.ensures ∙ sym c.as_slice-2.ensures in
    ap length c.deref.ensures.value
    ∙ (said-each (known_of c.args.context.now) (lines_of c.args.context.now) (SaysCandidate (known_of c.args.context.now) (lines_of c.args.context.now) c.args.line.frame c.args.line.site (see_conds c.args.conditions.now)) tried c.in-Some-rows_before.last.now c.in-Some-2.verdicts.items
    (some-said (known_of c.args.context.now) (lines_of c.args.context.now) c.args.line.frame c.args.line.site (see_conds c.args.conditions.now) tried c.in-Some-rows_before.last.now c.in_ok-verdicts.field-0 c.in-Some-2.verdicts c.in-Some-2.is c.in_ok-verdicts.ensures)).1
    ∙ ap (λ (rows : List Row). length (candidates_at (known_of c.args.context.now) c.args.line.site rows)) same

pub are_due-requires-clause-current : goal.are_due-requires-clause-current
are_due-requires-clause-current c = value-said-known (known_of c.args.context.now) (lines_of c.args.context.now) c.args.context.now.sound c.args.line.frame c.in-Some.current (sym c.in-Some.ensures)

pub are_due-requires-clause-before : goal.are_due-requires-clause-before
are_due-requires-clause-before c =
    let b = c.in-Some-rows_before.ensures in
    ap (list_all (is_known (known_of c.args.context.now))) (c.as_slice-2.ensures ∙ c.in_ok-before.ensures)
    ∙ before-said-known (known_of c.args.context.now) (lines_of c.args.context.now) c.args.context.now.sound c.args.line.frame (see_query c.args.at.query.now) c.args.at.index b.0 c.in-Some-rows_before.before b.2

pub returns : goal.returns
returns c =
    let k = known_of c.args.context.now in
    let lines = lines_of c.args.context.now in
    let site = c.args.line.site in
    let q = see_query c.args.at.query.now in
    let index = c.args.at.index in
    let conditions = see_conds c.args.conditions.now in
    let b = c.in-Some-rows_before.ensures in
    let before = c.in-Some-rows_before.before in
    let last = c.in-Some-rows_before.last.now in
    let cites = c.args.line.cites.now in
    let current = c.in-Some.current in
    let tried = candidates_at k site c.as_slice.result.now in
    let rows : c.as_slice.result.now ≡ before = c.as_slice.ensures ∙ c.in_ok-before.ensures in
    let due : rows_at_step k site current c.as_slice-2.result.now [] c.deref.result.now ≡ rows_at_step k site current before [] c.deref.result.now =
    ap (λ (rs : List Row). rows_at_step k site current rs [] c.deref.result.now) (c.as_slice-2.ensures ∙ c.in_ok-before.ensures) in
    let said = subst (λ (verdicts : List Verdict). Said k lines c.args.line.frame site conditions tried last verdicts) (sym c.deref.ensures.value)
    (some-said k lines c.args.line.frame site conditions tried last c.in_ok-verdicts.field-0 c.in-Some-2.verdicts c.in-Some-2.is c.in_ok-verdicts.ensures) in
    record {
      follows = IfOk-weaker c.are_due.result (λ (x : Bool). IsJudgedSo x (c.args.rows.now ≡ rows_at_step k site current c.as_slice-2.result.now [] c.deref.result.now))
          (λ (x : Bool). IsJudgedSo x (IsLater index × FollowsFilter k lines c.args.line.frame site q index conditions cites c.args.rows.now))
          (λ x judged. later-judged index x (FollowsFilter k lines c.args.line.frame site q index conditions cites c.args.rows.now) c.if-index-eq0.false
          (filter-due k lines c.args.line.frame q site index current b.0 last cites before (sym c.in-Some.ensures) b.1 b.2 conditions tried c.deref.result.now c.args.rows.now
          (rows_at_step k site current c.as_slice-2.result.now [] c.deref.result.now) x (ap (candidates_at k site) rows) said due judged))
          c.are_due.ensures.due;
      known = c.are_due.ensures.known;
    }
