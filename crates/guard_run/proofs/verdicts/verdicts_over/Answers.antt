use Rattle.std.proofs.Common.{◌≡◌, IfOk, subst, sym}
use Rattle.doc_values.specs.Tree.{Forest}
use Rattle.evidence_lines.specs.declared.version.Version.TheVariants.{Two}
use Rattle.evidence_rules.specs.Follows.{Accepts}
use Rattle.rule_meaning.specs.FunctionMeaning.{IsAnswering}
use Rattle.rule_names.specs.code.Files.{file_of}
use Rattle.evidence_report.proofs.TakenTexts.{none-at-exit}
use Rattle.guard_ends.specs.Reported.{verdicts_of, world_over}
use Rattle.guard_run.proofs.verdicts.verdicts_over.Goals as goal

pub verdicts_by-requires-clause-accepted : goal.verdicts_by-requires-clause-accepted
verdicts_by-requires-clause-accepted c =
    let lines = c.in_ok-evaluation.evaluation.evidence.lines in
    subst (λ (t : Forest). Accepts Two t (file_of c.args.rules.now) lines) (sym c.in_ok-evaluation.ensures.template) c.in_ok-evaluation.ensures.accepted

pub returns-in_err-evaluation : goal.returns-in_err-evaluation
returns-in_err-evaluation c answers obey = none-at-exit _ c.from_residual.result c.in_err-evaluation.field-0.0 c.from_residual.ensures.1

pub returns : goal.returns
returns c answers obey =
    let rules = file_of c.args.rules.now in
    let template = c.in_ok-evaluation.ensures.template in
    subst (λ (t : Forest). IfOk c.verdicts_by.result (λ verdicts. verdicts.items ≡ verdicts_of (world_over rules t answers))) template
    (c.verdicts_by.ensures answers (subst (λ (t : Forest). IsAnswering (world_over rules t answers)) (sym template) obey))

pub verdicts_by-requires-clause-file : goal.verdicts_by-requires-clause-file
verdicts_by-requires-clause-file c = c.in_ok-evaluation.ensures.file

pub verdicts_by-requires-clause-whole : goal.verdicts_by-requires-clause-whole
verdicts_by-requires-clause-whole c = c.in_ok-evaluation.ensures.whole
