use Rattle.std.proofs.Common.{◌∙◌, sym, ap, subst, ℕ, List, Some}
use Rattle.std.specs.List.{list_all}
use Rattle.std.proofs.lemmas.Result.{IfOk-weaker}
use Rattle.evidence_lines.specs.declared.line.LineKind.TheVariants as kind
use Rattle.evidence_lines.specs.declared.line.Outcome.TheVariants as says
use Rattle.guard_syntax.specs.code.Seen.{see_part}
use Rattle.guard_syntax.specs.declared.row.Row.{Row}
use Rattle.guard_syntax.specs.declared.row.Verdict.{Verdict}
use Rattle.rule_names.specs.Pieces.{piece_at}
use Rattle.rule_names.specs.ReferenceGraph.{part_site}
use Rattle.rule_meaning.specs.StoreModel.{is_known}
use Rattle.engine_states.specs.code.Adding.{Added, Adds}
use Rattle.engine_states.specs.code.Answers.{IsTestVerdict, both_cites}
use Rattle.engine_states.specs.code.Kinds.{own_kind}
use Rattle.engine_states.proofs.PartsAdded.{left-known, left-rows, right-rows, right-there, test-adds, test-here, test-kind}
use Rattle.engine_lines.specs.code.Lines.{see_lines}
use Rattle.engine_lines.proofs.engine.EngineLines.add_test.Goals as goal

pub rows_said-requires : goal.rows_said-requires
rows_said-requires c =
    let had = left-rows (see_lines c.args.self.now) c.requires.whole c.args.frame (see_part c.args.part.now) c.args.left c.args.right c.requires.sides in
    (had.1.0, had.1.1, had.1.2, had.0, had.1.3)

pub rows_of-requires : goal.rows_of-requires
rows_of-requires c = right-rows (see_lines c.args.self.now) c.requires.whole c.args.frame (see_part c.args.part.now) c.args.left c.args.right c.requires.sides

pub judge-requires-clause-test : goal.judge-requires-clause-test
judge-requires-clause-test c = test-here (see_lines c.args.self.now) c.requires.whole c.args.frame (see_part c.args.part.now) c.args.left c.args.right c.requires.sides

pub judge-requires-clause-lefts : goal.judge-requires-clause-lefts
judge-requires-clause-lefts c =
    let s = see_lines c.args.self.now in
    let had = left-rows s c.requires.whole c.args.frame (see_part c.args.part.now) c.args.left c.args.right c.requires.sides in
    ap (list_all (is_known s.known)) (c.as_slice.ensures ∙ c.in_ok-lefts.ensures ∙ c.rows_said.ensures had.1.0 had.1.1 had.1.2 had.0 had.1.3)
    ∙ left-known s c.requires.whole c.args.frame (see_part c.args.part.now) c.args.left c.args.right c.requires.sides

pub judge-requires-clause-rights : goal.judge-requires-clause-rights
judge-requires-clause-rights c =
    let s = see_lines c.args.self.now in
    let had = right-rows s c.requires.whole c.args.frame (see_part c.args.part.now) c.args.left c.args.right c.requires.sides in
    ap (list_all (is_known s.known)) (c.as_slice-2.ensures ∙ c.in_ok-rights.ensures ∙ c.rows_of.ensures had.0 had.1)
    ∙ right-there s c.requires.whole c.args.frame (see_part c.args.part.now) c.args.left c.args.right c.requires.sides

pub add_verdict-requires-clause-kind : goal.add_verdict-requires-clause-kind
add_verdict-requires-clause-kind c =
    let s = see_lines c.args.self.now in
    ap (λ (n : ℕ). own_kind (piece_at s.known.file n)) c.site_of.ensures
    ∙ test-kind s c.requires.whole c.args.frame (see_part c.args.part.now) c.args.left c.args.right c.requires.sides

pub add_verdict-requires-clause-adds : goal.add_verdict-requires-clause-adds
add_verdict-requires-clause-adds c =
    let s = see_lines c.args.self.now in
    let lefts = left-rows s c.requires.whole c.args.frame (see_part c.args.part.now) c.args.left c.args.right c.requires.sides in
    let rights = right-rows s c.requires.whole c.args.frame (see_part c.args.part.now) c.args.left c.args.right c.requires.sides in
    let judged : IsTestVerdict s.known (see_part c.args.part.now) lefts.0 rights.0 c.in_ok-verdict.verdict =
    subst (λ (rows : List Row). IsTestVerdict s.known (see_part c.args.part.now) rows rights.0 c.in_ok-verdict.verdict) (c.as_slice.ensures ∙ c.in_ok-lefts.ensures ∙ c.rows_said.ensures lefts.1.0 lefts.1.1 lefts.1.2 lefts.0 lefts.1.3)
    (subst (λ (rows : List Row). IsTestVerdict s.known (see_part c.args.part.now) c.as_slice.result.now rows c.in_ok-verdict.verdict) (c.as_slice-2.ensures ∙ c.in_ok-rights.ensures ∙ c.rows_of.ensures rights.0 rights.1) c.in_ok-verdict.ensures) in
    subst (λ (n : ℕ). Adds s c.args.frame n kind.Test c.in_ok-lines.lines.items (says.Verdict c.in_ok-verdict.verdict)) (sym c.site_of.ensures)
    (test-adds s c.requires.whole c.args.frame (see_part c.args.part.now) c.args.left c.args.right c.requires.sides c.in_ok-lines.lines.items c.in_ok-lines.ensures c.in_ok-verdict.verdict judged)

pub add_verdict-requires-clause-new : goal.add_verdict-requires-clause-new
add_verdict-requires-clause-new c = ap ((see_lines c.args.self.now).parts c.args.frame) c.site_of.ensures ∙ c.requires.new

pub returns : goal.returns
returns c =
    let a = see_lines c.args.self.now in
    let b = see_lines c.add_verdict.new.self in
    let site = part_site (see_part c.args.part.now) in
    let both = both_cites (Some c.args.left) c.args.right in
    IfOk-weaker c.add_verdict.result _ _ (λ said it.
    subst (λ (v : Verdict). Added a b c.args.frame site kind.Test both (says.Verdict v) said.line) (sym it.1)
    (subst (λ (cs : List ℕ). Added a b c.args.frame site kind.Test cs (says.Verdict c.in_ok-verdict.verdict) said.line) c.in_ok-lines.ensures
    (subst (λ (n : ℕ). Added a b c.args.frame n kind.Test c.in_ok-lines.lines.items (says.Verdict c.in_ok-verdict.verdict) said.line) c.site_of.ensures it.0)))
    c.add_verdict.ensures

pub add_verdict-requires-clause-whole : goal.add_verdict-requires-clause-whole
add_verdict-requires-clause-whole c = c.requires.whole
