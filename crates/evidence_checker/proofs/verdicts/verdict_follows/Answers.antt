use Rattle.std.proofs.Common.{Option, Some, ap, refl, subst, sym, ◌∙◌, MatchBool}
use Rattle.std.proofs.lemmas.Result.{IfOk-weaker}
use Rattle.evidence_lines.specs.declared.line.LineKind.TheVariants as kind
use Rattle.guard_syntax.specs.code.Seen.{see_part}
use Rattle.rule_names.specs.Pieces.{OfPart, Piece, piece_at}
use Rattle.rule_names.specs.code.Seen.{see_piece}
use Rattle.evidence_rules.specs.Follows.{FollowsAtPart, FollowsVerdict}
use Rattle.evidence_lookups.specs.code.Grounds.{file_in, known_of, lines_of, version_of}
use Rattle.evidence_checker.proofs.VerdictLines.{other-part, Judges, at-line, none-judged, part-judged}
use Rattle.evidence_checker.proofs.verdicts.verdict_follows.Goals as goal

pub returns-in_default : goal.returns-in_default
returns-in_default c =
    subst (λ (p : Option Piece). FollowsVerdict (version_of c.args.context.now) (known_of c.args.context.now) (lines_of c.args.context.now) c.args.line.frame c.args.line.site c.args.line.kind p c.args.line.cites.now c.args.verdict → ⊥)
    c.in_default.ensures (none-judged (version_of c.args.context.now) (known_of c.args.context.now) (lines_of c.args.context.now) c.args.line.frame c.args.line.site c.args.line.cites.now c.args.verdict c.args.line.kind)

pub returns-in-Rule : goal.returns-in-Rule
returns-in-Rule c =
    at-line (version_of c.args.context.now) (known_of c.args.context.now) (lines_of c.args.context.now) c.args.line.frame c.args.line.site c.args.line.cites.now c.args.verdict c.args.line.kind kind.Rule (piece_at (file_in c.args.context.now) c.args.line.site) (Some (see_piece c.in-Some.piece))
    c.rule_line_follows.result c.in-Rule.is c.in-Some.ensures c.rule_line_follows.ensures

pub returns-in-Conj : goal.returns-in-Conj
returns-in-Conj c =
    at-line (version_of c.args.context.now) (known_of c.args.context.now) (lines_of c.args.context.now) c.args.line.frame c.args.line.site c.args.line.cites.now c.args.verdict c.args.line.kind kind.Conj (piece_at (file_in c.args.context.now) c.args.line.site) (Some (see_piece c.in-Some.piece))
    c.conj_line_follows.result c.in-Conj.is c.in-Some.ensures c.conj_line_follows.ensures

pub returns-in-Disj : goal.returns-in-Disj
returns-in-Disj c =
    at-line (version_of c.args.context.now) (known_of c.args.context.now) (lines_of c.args.context.now) c.args.line.frame c.args.line.site c.args.line.cites.now c.args.verdict c.args.line.kind kind.Disj (piece_at (file_in c.args.context.now) c.args.line.site) (Some (see_piece c.in-Some.piece))
    c.disj_line_follows.result c.in-Disj.is c.in-Some.ensures c.disj_line_follows.ensures

pub returns-in-Part : goal.returns-in-Part
returns-in-Part c =
    let k = known_of c.args.context.now in
    let ls = lines_of c.args.context.now in
    let Follows : Type 0 = FollowsAtPart (version_of c.args.context.now) k ls c.args.line.frame c.args.line.site c.args.line.kind (see_part c.in-Part.part.now) c.args.line.cites.now c.args.verdict in
    IfOk-weaker c.part_follows.result (λ b. MatchBool b Follows (Follows → ⊥)) (λ b. Judges (version_of c.args.context.now) (known_of c.args.context.now) (lines_of c.args.context.now) c.args.line.frame c.args.line.site c.args.line.cites.now c.args.verdict c.args.line.kind (piece_at (file_in c.args.context.now) c.args.line.site) b)
    (λ b decided. at-line (version_of c.args.context.now) (known_of c.args.context.now) (lines_of c.args.context.now) c.args.line.frame c.args.line.site c.args.line.cites.now c.args.verdict c.args.line.kind c.args.line.kind (piece_at (file_in c.args.context.now) c.args.line.site)
    (Some (OfPart (see_part c.in-Part.part.now))) b refl (ap (λ (p : Piece). Some p) (sym (ap see_piece c.in-Part.is)) ∙ c.in-Some.ensures)
    (part-judged (version_of c.args.context.now) (known_of c.args.context.now) (lines_of c.args.context.now) c.args.line.frame c.args.line.site c.args.line.cites.now c.args.verdict c.args.line.kind (see_part c.in-Part.part.now) b decided)) c.part_follows.ensures

pub returns-in_default-piece : goal.returns-in_default-piece
returns-in_default-piece c =
    subst (λ (p : Option Piece). FollowsVerdict (version_of c.args.context.now) (known_of c.args.context.now) (lines_of c.args.context.now) c.args.line.frame c.args.line.site c.args.line.kind p c.args.line.cites.now c.args.verdict → ⊥)
    c.in-Some.ensures (other-part (version_of c.args.context.now) (known_of c.args.context.now) (lines_of c.args.context.now) c.args.line.frame c.args.line.site c.args.line.cites.now c.args.verdict c.args.line.kind c.in-Some.piece c.in_default-kind.not-Rule c.in_default-kind.not-Conj c.in_default-kind.not-Disj c.in_default-piece.not-Part)
