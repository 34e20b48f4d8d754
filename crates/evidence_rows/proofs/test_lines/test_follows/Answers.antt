use Rattle.std.proofs.Common.{ap, subst, sym, ◌∙◌, refl}
use denote.Enum.Bare.{sameb}
use Rattle.guard_syntax.specs.contracts.row.Verdict.{the_type}
use Rattle.std.specs.List.{list_all}
use Rattle.guard_syntax.specs.code.Seen.{see_opt_expr, see_query}
use Rattle.rule_meaning.specs.StoreModel.{is_known}
use Rattle.evidence_rules.specs.CitedLines.{GivesQuery}
use Rattle.evidence_rules.specs.Follows.{GivesRight}
use Rattle.evidence_lookups.specs.code.Grounds.{file_in, known_of, lines_of}
use Rattle.evidence_lookups.proofs.SaidKnown.{query-said-known, right-said-known}
use Rattle.evidence_rows.proofs.Decided.{same-verdicts}
use Rattle.evidence_rows.proofs.TestsDecided.{never-left, never-right, test-decided}
use Rattle.evidence_rows.proofs.test_lines.test_follows.Goals as goal

pub returns-in_default-given_by_query : goal.returns-in_default-given_by_query
returns-in_default-given_by_query c =
    λ n message. never-left (lines_of c.args.context.now) c.args.line.frame c.in-Some.first.now c.args.line.cites.now c.in-Some.others.now c.in-Some.ensures.cases.0 (known_of c.args.context.now) c.args.verdict
    n c.args.asks.any (see_query c.args.asks.left.now) c.args.asks.op c.args.asks.not (see_opt_expr c.args.asks.right.now) message c.in_default-given_by_query.ensures

pub returns-in_default-given_at_right : goal.returns-in_default-given_at_right
returns-in_default-given_at_right c =
    λ n message. never-right (lines_of c.args.context.now) c.args.line.frame c.in-Some.first.now c.args.line.cites.now c.in-Some.others.now c.in-Some.ensures.cases.0 (known_of c.args.context.now) c.args.verdict
    n c.args.asks.any (see_query c.args.asks.left.now) c.args.asks.op c.args.asks.not (see_opt_expr c.args.asks.right.now) message c.in_default-given_at_right.ensures

pub test_of_rows-requires : goal.test_of_rows-requires
test_of_rows-requires c = record {
  lefts = ap (list_all (is_known (known_of c.args.context.now))) (c.as_slice.ensures ∙ c.in_ok-lefts.ensures) ∙ query-said-known (known_of c.args.context.now) (lines_of c.args.context.now) c.args.context.now.sound c.args.line.frame (see_query c.args.asks.left.now) c.in-Some.first.now c.in-Some-given_by_query.lefts c.in-Some-given_by_query.ensures;
  rights = ap (list_all (is_known (known_of c.args.context.now))) (c.as_slice-2.ensures ∙ c.in_ok-rights.ensures) ∙ right-said-known (known_of c.args.context.now) (lines_of c.args.context.now) c.args.context.now.sound c.args.line.frame (see_opt_expr c.args.asks.right.now) c.in-Some.others.now c.in-Some-given_at_right.rights c.in-Some-given_at_right.ensures;
}

pub returns : goal.returns
returns c =
    λ n message. test-decided (lines_of c.args.context.now) c.args.line.frame c.in-Some.first.now c.args.line.cites.now c.in-Some.others.now c.in-Some.ensures.cases.0 (known_of c.args.context.now) c.args.verdict
    n c.args.asks.any (see_query c.args.asks.left.now) c.args.asks.op c.args.asks.not (see_opt_expr c.args.asks.right.now) message c.as_slice.result.now c.as_slice-2.result.now c.in_ok-said.said (sameb the_type c.args.verdict c.in_ok-said.said)
    (subst (GivesQuery (file_in c.args.context.now) (lines_of c.args.context.now) c.args.line.frame (see_query c.args.asks.left.now) c.in-Some.first.now) (sym (c.as_slice.ensures ∙ c.in_ok-lefts.ensures)) c.in-Some-given_by_query.ensures)
    (subst (GivesRight (known_of c.args.context.now) (lines_of c.args.context.now) c.args.line.frame (see_opt_expr c.args.asks.right.now) c.in-Some.others.now) (sym (c.as_slice-2.ensures ∙ c.in_ok-rights.ensures)) c.in-Some-given_at_right.ensures) c.in_ok-said.ensures (same-verdicts (sameb the_type c.args.verdict c.in_ok-said.said) c.args.verdict c.in_ok-said.said refl)
