use Rattle.std.proofs.Common.{sym, subst, refl, List, map}
use Rattle.std.specs.List.{flat_map}
use Rattle.guard_syntax.specs.Syntax as sx
use Rattle.guard_syntax.specs.code.Seen.{see_rule}
use Rattle.rule_meaning.specs.Seeing.{world_of}
use Rattle.guard_ends.specs.Reported.{of_rule}
use Rattle.evidence_report.specs.code.VerdictLines.{Lists}
use Rattle.evidence_report.proofs.Listing.{among-seen, rules-end, rules-more}
use Rattle.evidence_leads.proofs.Exits.{nothing-at-exit}
use Rattle.evidence_report.proofs.verdict_lines.list_rules.Goals as goal

pub list_rule-requires : goal.list_rule-requires
list_rule-requires c = c.requires (see_rule c.rule-item.result) (among-seen c.args.rules.now c.loop-rule.rule-index c.rule-item.result c.loop-rule-test.true c.rule-item.is (map see_rule c.args.rules.now) refl)

pub loop-rule-init : goal.loop-rule-init
loop-rule-init c = record {
  owes = λ known lines answers is are told final rest.
      subst (λ (rs : List sx.Rule). Lists known lines c.args.into.now.items final (flat_map (of_rule (world_of known answers)) rs)) (sym is) rest;
  said = λ lines are all. all;
}

pub loop-rule-preserved : goal.loop-rule-preserved
loop-rule-preserved c = record {
  owes = λ known lines answers is are told.
      rules-more known lines (world_of known answers) c.args.rules.now c.loop-rule.rule-index c.rule-item.result c.args.into.now.items c.loop-rule.into.items c.list_rule.new.into.items
      (flat_map (of_rule (world_of known answers)) known.file.rules) c.loop-rule-test.true c.rule-item.is
      (c.in_ok-list_rule.ensures.verdicts known lines answers (among-seen c.args.rules.now c.loop-rule.rule-index c.rule-item.result c.loop-rule-test.true c.rule-item.is known.file.rules is) are told)
      (c.loop-rule.invariant.owes known lines answers is are told);
  said = λ lines are all. c.in_ok-list_rule.ensures.said lines are (c.loop-rule.invariant.said lines are all);
}

pub returns-in_err-list_rule-clause-verdicts : goal.returns-in_err-list_rule-clause-verdicts
returns-in_err-list_rule-clause-verdicts c known lines answers is are told = nothing-at-exit _ c.from_residual.result c.in_err-list_rule.field-0.0 c.from_residual.ensures.1

pub returns-in_err-list_rule-clause-said : goal.returns-in_err-list_rule-clause-said
returns-in_err-list_rule-clause-said c lines are = nothing-at-exit _ c.from_residual.result c.in_err-list_rule.field-0.0 c.from_residual.ensures.1

pub returns-clause-verdicts : goal.returns-clause-verdicts
returns-clause-verdicts c known lines answers is are told =
    rules-end known lines (world_of known answers) c.args.rules.now c.loop-rule.rule-index c.args.into.now.items c.loop-rule.into.items
    (flat_map (of_rule (world_of known answers)) known.file.rules) c.loop-rule-test.false (c.loop-rule.invariant.owes known lines answers is are told)

pub returns-clause-said : goal.returns-clause-said
returns-clause-said c lines are = c.loop-rule.invariant.said lines are
