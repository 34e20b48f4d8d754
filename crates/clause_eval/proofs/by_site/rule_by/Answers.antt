use Rattle.std.proofs.Common.{ℕ, sym, subst, List}
use Rattle.evidence_lines.specs.declared.line.LineKind.TheVariants as kind
use Rattle.evidence_lines.specs.declared.line.Outcome.TheVariants as says
use Rattle.guard_syntax.specs.declared.row.Verdict.{Verdict}
use Rattle.rule_names.specs.Pieces.{piece_at}
use Rattle.rule_names.specs.code.Files.{file_of}
use Rattle.rule_names.specs.declared.file.RuleFile.{RuleFile}
use Rattle.engine_states.specs.code.Adding.{Added, Adds}
use Rattle.engine_states.specs.code.Ruling.{IsRuledBy, has_conditions}
use Rattle.engine_states.proofs.RuledBy.{rule-new, rule-told}
use Rattle.engine_lines.specs.code.Lines.{see_lines}
use Rattle.clause_eval.proofs.by_site.rule_by.Goals as goal

pub ruled-verdict-requires : goal.ruled-verdict-requires
ruled-verdict-requires c =
    let e = c.args.engine.now in
    let verdict = c.requires.follows.0 in (
      verdict,
      subst (λ (f : RuleFile). IsRuledBy e.evidence.lines (has_conditions (piece_at (file_of f) c.args.site)) c.args.cites.now verdict) e.store_over
          (rule-told (see_lines e) c.args.frame c.args.site c.args.cites.now verdict c.requires.follows.1),
    )

pub add_rule-requires-clause-adds : goal.add_rule-requires-clause-adds
add_rule-requires-clause-adds c =
    let e = c.args.engine.now in
    let s = see_lines e in
    let verdict = c.requires.follows.0 in
    let told = subst (λ (f : RuleFile). IsRuledBy e.evidence.lines (has_conditions (piece_at (file_of f) c.args.site)) c.args.cites.now verdict) e.store_over
    (rule-told s c.args.frame c.args.site c.args.cites.now verdict c.requires.follows.1) in
    subst (λ (cites : List ℕ). Adds s c.args.frame c.args.site kind.Rule cites (says.Verdict c.ruled-verdict.result)) (sym c.in_ok-lines.ensures.items)
    (subst (λ (v : Verdict). Adds s c.args.frame c.args.site kind.Rule c.args.cites.now (says.Verdict v)) (sym (c.ruled-verdict.ensures verdict told)) c.requires.follows.1)

pub add_rule-requires-clause-new : goal.add_rule-requires-clause-new
add_rule-requires-clause-new c = rule-new (see_lines c.args.engine.now) c.args.frame c.args.site c.args.cites.now c.requires.follows.0 c.requires.follows.1 c.requires.whole

pub returns : goal.returns
returns c =
    let number = c.in_ok-add_rule.field-0 in (
      number,
      subst (λ (cites : List ℕ). Added (see_lines c.args.engine.now) (see_lines c.add_rule.new.self) c.args.frame c.args.site kind.Rule cites (says.Verdict c.ruled-verdict.result) number)
          c.in_ok-lines.ensures.items c.in_ok-add_rule.ensures,
    )
