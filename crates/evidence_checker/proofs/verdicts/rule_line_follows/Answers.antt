use Rattle.std.proofs.Common.{List, Some, ap, refl, sym, map}
use Rattle.evidence_lines.specs.declared.line.LineKind.TheVariants as kind
use Rattle.guard_syntax.specs.code.Seen.{disj_list, see_disj, see_rule}
use Rattle.guard_syntax.specs.declared.syntax.Disj.{Disj}
use Rattle.rule_names.specs.Pieces.{OfFile, OfRule, Piece}
use Rattle.rule_names.specs.code.Seen.{see_piece}
use Rattle.evidence_rules.specs.Follows.{IsNewRule}
use Rattle.evidence_lookups.specs.code.Grounds.{known_of, lines_of, version_of}
use Rattle.evidence_checker.proofs.RuleVerdicts.{new-rule}
use Rattle.evidence_checker.proofs.VerdictLines.{other-rule, at-line, is-new, loose-judged, never-new, rule-framed, rule-judged, rule-new}
use Rattle.evidence_checker.proofs.verdicts.rule_line_follows.Goals as goal

pub returns-then-not-new : goal.returns-then-not-new
returns-then-not-new c = λ h.
    never-new c.is_none-new.result (IsNewRule (known_of c.args.context.now) (lines_of c.args.context.now) c.args.line.site) c.if-not-new.true (new-rule (known_of c.args.context.now) (lines_of c.args.context.now) c.args.context.now.judged.now.of.items c.args.line.site c.verdict.result c.is_none-new.result c.verdict.ensures c.is_none-new.ensures c.args.context.now.judged_are)
    (rule-new (version_of c.args.context.now) (known_of c.args.context.now) (lines_of c.args.context.now) c.args.line.frame c.args.line.site c.args.line.cites.now c.args.verdict (see_piece c.args.piece) h)

pub returns-then-not-is_file_frame : goal.returns-then-not-is_file_frame
returns-then-not-is_file_frame c = λ h. c.if-not-is_file_frame.ensures (rule-framed (version_of c.args.context.now) (known_of c.args.context.now) (lines_of c.args.context.now) c.args.line.frame c.args.line.site c.args.line.cites.now c.args.verdict (see_piece c.args.piece) h)

pub returns-in-Rule : goal.returns-in-Rule
returns-in-Rule c =
    at-line (version_of c.args.context.now) (known_of c.args.context.now) (lines_of c.args.context.now) c.args.line.frame c.args.line.site c.args.line.cites.now c.args.verdict kind.Rule kind.Rule (Some (see_piece c.args.piece)) (Some (OfRule (see_rule c.in-Rule.rule.now)))
    c.rule_follows.result refl (ap (λ (p : Piece). Some p) (sym (ap see_piece c.in-Rule.is)))
    (rule-judged (version_of c.args.context.now) (known_of c.args.context.now) (lines_of c.args.context.now) c.args.line.frame c.args.line.site c.args.line.cites.now c.args.verdict
    c.if-not-is_file_frame.ensures (is-new c.is_none-new.result (IsNewRule (known_of c.args.context.now) (lines_of c.args.context.now) c.args.line.site) c.if-not-new.false (new-rule (known_of c.args.context.now) (lines_of c.args.context.now) c.args.context.now.judged.now.of.items c.args.line.site c.verdict.result c.is_none-new.result c.verdict.ensures c.is_none-new.ensures c.args.context.now.judged_are)) (see_rule c.in-Rule.rule.now)
    c.rule_follows.result (c.rule_follows.ensures (known_of c.args.context.now)))

pub returns-in-File : goal.returns-in-File
returns-in-File c =
    at-line (version_of c.args.context.now) (known_of c.args.context.now) (lines_of c.args.context.now) c.args.line.frame c.args.line.site c.args.line.cites.now c.args.verdict kind.Rule kind.Rule (Some (see_piece c.args.piece)) (Some OfFile)
    c.loose_follows.result refl (ap (λ (p : Piece). Some p) (sym (ap see_piece c.in-File.is)))
    (loose-judged (version_of c.args.context.now) (known_of c.args.context.now) (lines_of c.args.context.now) c.args.line.frame c.args.line.site c.args.line.cites.now c.args.verdict
    c.if-not-is_file_frame.ensures (is-new c.is_none-new.result (IsNewRule (known_of c.args.context.now) (lines_of c.args.context.now) c.args.line.site) c.if-not-new.false (new-rule (known_of c.args.context.now) (lines_of c.args.context.now) c.args.context.now.judged.now.of.items c.args.line.site c.verdict.result c.is_none-new.result c.verdict.ensures c.is_none-new.ensures c.args.context.now.judged_are)) (disj_list (map see_disj c.deref.result.now))
    c.loose_follows.result (ap (λ (xs : List Disj). disj_list (map see_disj xs)) (sym c.deref.ensures.value)) (c.loose_follows.ensures (known_of c.args.context.now)))

pub returns-in_default : goal.returns-in_default
returns-in_default c = other-rule (version_of c.args.context.now) (known_of c.args.context.now) (lines_of c.args.context.now) c.args.line.frame c.args.line.site c.args.line.cites.now c.args.verdict c.args.piece c.in_default.not-Rule c.in_default.not-File
