use Rattle.std.proofs.Common.{◌≡◌, ◌∙◌, inl, inr, refl, subst, ap, length}
use Rattle.evidence_rules.specs.RuleLines.{AreOfRules}
use Rattle.evidence_checker.specs.code.Answered.{IsAnswer}
use Rattle.evidence_rules.specs.Rejected.{IsRejectedAt}
use Rattle.rule_names.specs.code.Files.{file_of}
use Rattle.evidence_rules.specs.Follows.{Accepts}
use Rattle.guard_ends.specs.Check.{accepted_text}
use Rattle.guard_ends.specs.declared.ends.End.TheVariants as end_is
use Rattle.guard_run.specs.code.Outcome.{ended}
use Rattle.guard_run.proofs.Closing.{reported_as}
use Rattle.guard_run.proofs.VerdictCounts.{verdicts-counted}
use Rattle.guard_run.proofs.check.check_lines.Goals as goal

pub accepted_text-requires : goal.accepted_text-requires
accepted_text-requires c =
    let rules = file_of c.args.ready.now.inputs.now.rules.now in
    let tree = c.args.ready.now.inputs.now.tree in
    let version = c.args.evidence.now.version in
    let lines = c.args.evidence.now.lines in
    let verdicts = c.in-Accepted.verdicts.items in
    let said : Accepts version tree rules lines × AreOfRules lines rules.rules rules.loose verdicts =
    subst (λ a. IsAnswer version tree rules lines a) c.in-Accepted.is c.in_ok-answer.ensures in
    ap length c.deref.ensures.value ∙ verdicts-counted lines rules.rules rules.loose verdicts said.1

pub returns-in_ok-text-in-Accepted : goal.returns-in_ok-text-in-Accepted
returns-in_ok-text-in-Accepted c =
    let rules = file_of c.args.ready.now.inputs.now.rules.now in
    let tree = c.args.ready.now.inputs.now.tree in
    let version = c.args.evidence.now.version in
    let lines = c.args.evidence.now.lines in
    let verdicts = c.in-Accepted.verdicts.items in
    let said : Accepts version tree rules lines × AreOfRules lines rules.rules rules.loose verdicts =
    subst (λ a. IsAnswer version tree rules lines a) c.in-Accepted.is c.in_ok-answer.ensures in
    let text : c.in_ok-text-in-Accepted.text.items ≡ accepted_text rules c.deref.result.now = c.in_ok-text-in-Accepted.ensures in (
      reported_as end_is.Accepted c.in_ok-text-in-Accepted.text.items,
      inl (verdicts, said.0, said.1, ap (reported_as end_is.Accepted) (text ∙ ap (accepted_text rules) c.deref.ensures.value)),
      refl,
    )

pub returns-in-Rejected : goal.returns-in-Rejected
returns-in-Rejected c =
    let rules = file_of c.args.ready.now.inputs.now.rules.now in
    let tree = c.args.ready.now.inputs.now.tree in
    let version = c.args.evidence.now.version in
    let lines = c.args.evidence.now.lines in
    let number = c.in-Rejected.number in
    let rejected : IsRejectedAt version tree rules lines number =
    subst (λ a. IsAnswer version tree rules lines a) c.in-Rejected.is c.in_ok-answer.ensures in
    (ended c.rejected.result, inr (number, rejected, c.rejected.ensures), refl)
