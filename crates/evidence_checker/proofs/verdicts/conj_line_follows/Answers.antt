use Rattle.std.proofs.Common.{Some, ap, refl, sym}
use Rattle.evidence_lines.specs.declared.line.LineKind.TheVariants as kind
use Rattle.guard_syntax.specs.code.Seen.{see_body, see_conds}
use Rattle.rule_names.specs.Pieces.{OfBody, OfConds, OfFile, Piece}
use Rattle.rule_names.specs.code.Seen.{see_piece}
use Rattle.evidence_lookups.specs.code.Grounds.{known_of, lines_of, version_of}
use Rattle.evidence_checker.proofs.VerdictLines.{other-conj, at-line, body-judged, conds-judged, file-judged}
use Rattle.evidence_checker.proofs.verdicts.conj_line_follows.Goals as goal

pub returns-in-Body : goal.returns-in-Body
returns-in-Body c =
    at-line (version_of c.args.context.now) (known_of c.args.context.now) (lines_of c.args.context.now) c.args.line.frame c.args.line.site c.args.line.cites.now c.args.verdict kind.Conj kind.Conj (Some (see_piece c.args.piece)) (Some (OfBody (see_body c.in-Body.body.now)))
    c.conj_follows.result refl (ap (λ (p : Piece). Some p) (sym (ap see_piece c.in-Body.is)))
    (body-judged (version_of c.args.context.now) (known_of c.args.context.now) (lines_of c.args.context.now) c.args.line.frame c.args.line.site c.args.line.cites.now c.args.verdict c.deref.result.now c.conj_follows.result c.in-Body.body.now c.deref.ensures.value
    (c.conj_follows.ensures (known_of c.args.context.now)))

pub returns-in-Conds : goal.returns-in-Conds
returns-in-Conds c =
    at-line (version_of c.args.context.now) (known_of c.args.context.now) (lines_of c.args.context.now) c.args.line.frame c.args.line.site c.args.line.cites.now c.args.verdict kind.Conj kind.Conj (Some (see_piece c.args.piece)) (Some (OfConds (see_conds c.in-Conds.conds.now)))
    c.conj_follows-in-Conds.result refl (ap (λ (p : Piece). Some p) (sym (ap see_piece c.in-Conds.is)))
    (conds-judged (version_of c.args.context.now) (known_of c.args.context.now) (lines_of c.args.context.now) c.args.line.frame c.args.line.site c.args.line.cites.now c.args.verdict c.deref-in-Conds.result.now c.conj_follows-in-Conds.result c.in-Conds.conds.now c.conds_stop-stop.result c.conds_stop-stop.ensures
    c.deref-in-Conds.ensures.value (c.conj_follows-in-Conds.ensures (known_of c.args.context.now)))

pub returns-in-File : goal.returns-in-File
returns-in-File c =
    at-line (version_of c.args.context.now) (known_of c.args.context.now) (lines_of c.args.context.now) c.args.line.frame c.args.line.site c.args.line.cites.now c.args.verdict kind.Conj kind.Conj (Some (see_piece c.args.piece)) (Some OfFile)
    c.conj_follows-in-File.result refl (ap (λ (p : Piece). Some p) (sym (ap see_piece c.in-File.is)))
    (file-judged (version_of c.args.context.now) (known_of c.args.context.now) (lines_of c.args.context.now) c.args.line.frame c.args.line.site c.args.line.cites.now c.args.verdict c.deref-in-File.result.now c.conj_follows-in-File.result c.args.context.now.store.now.file.now.raw.loose.items refl
    c.deref-in-File.ensures.value (c.conj_follows-in-File.ensures (known_of c.args.context.now)))

pub returns-in_default : goal.returns-in_default
returns-in_default c = other-conj (version_of c.args.context.now) (known_of c.args.context.now) (lines_of c.args.context.now) c.args.line.frame c.args.line.site c.args.line.cites.now c.args.verdict c.args.piece c.in_default.not-Body c.in_default.not-Conds c.in_default.not-File
