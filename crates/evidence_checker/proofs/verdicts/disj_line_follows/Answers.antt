use Rattle.std.proofs.Common.{Some, ap, refl, sym}
use Rattle.evidence_lines.specs.declared.line.LineKind.TheVariants as kind
use Rattle.guard_syntax.specs.code.Seen.{see_disj}
use Rattle.rule_names.specs.Pieces.{OfDisj, Piece}
use Rattle.rule_names.specs.code.Seen.{see_piece}
use Rattle.evidence_lookups.specs.code.Grounds.{known_of, lines_of, version_of}
use Rattle.evidence_checker.proofs.VerdictLines.{other-disj, at-line, disj-judged}
use Rattle.evidence_checker.proofs.verdicts.disj_line_follows.Goals as goal

pub returns-in-Disj : goal.returns-in-Disj
returns-in-Disj c =
    at-line (version_of c.args.context.now) (known_of c.args.context.now) (lines_of c.args.context.now) c.args.line.frame c.args.line.site c.args.line.cites.now c.args.verdict kind.Disj kind.Disj (Some (see_piece c.args.piece)) (Some (OfDisj (see_disj c.in-Disj.disj.now)))
    c.disj_follows.result refl (ap (λ (p : Piece). Some p) (sym (ap see_piece c.in-Disj.is)))
    (disj-judged (version_of c.args.context.now) (known_of c.args.context.now) (lines_of c.args.context.now) c.args.line.frame c.args.line.site c.args.line.cites.now c.args.verdict (see_disj c.in-Disj.disj.now) c.disj_stop-stop.result c.disj_follows.result c.disj_stop-stop.ensures
    (c.disj_follows.ensures (known_of c.args.context.now)))

pub returns-in_default : goal.returns-in_default
returns-in_default c = other-disj (version_of c.args.context.now) (known_of c.args.context.now) (lines_of c.args.context.now) c.args.line.frame c.args.line.site c.args.line.cites.now c.args.verdict c.args.piece c.in_default.not-Disj
