use Rattle.std.proofs.Common.{ap, sym, subst}
use Rattle.guard_syntax.specs.code.Seen.{see_file}
use Rattle.guard_syntax.specs.declared.syntax.RawFile.{RawFile}
use Rattle.evidence_lookups.specs.code.Grounds.{known_of, lines_of}
use Rattle.evidence_report.specs.code.RuleTables.{AreJudged}
use Rattle.evidence_report.proofs.verdict_lines.verdict_lines.Goals as goal

pub list_verdicts-requires : goal.list_verdicts-requires
list_verdicts-requires c =
    subst (λ (f : RawFile). AreJudged (lines_of c.args.context.now) (see_file f)) (sym c.raw.ensures)
    (record { order = c.args.context.now.store.now.file.now.sites; rules = c.requires.accepts.rules; loose = c.requires.accepts.loose })

pub returns-clause-verdicts : goal.returns-clause-verdicts
returns-clause-verdicts c answers obey =
    let known = known_of c.args.context.now in
    let file = c.args.context.now.store.now.file.now in
    c.list_verdicts.ensures.verdicts known answers (ap see_file (sym c.raw.ensures))
    (c.rules_told.ensures c.args.context.now.version known (lines_of c.args.context.now) answers file.sites file.named c.requires obey)
