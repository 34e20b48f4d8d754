use Rattle.std.proofs.Common.{◌≤◌, ◌∙◌, ℕ, List, arith, length, refl, subst, sym}
use Rattle.doc_values.specs.Limits.{template_limit}
use Rattle.guard_drill.specs.DrillTexts.{template_text}
use Rattle.guard_drill.proofs.TemplateLengths.{template-short}
use Rattle.rule_names.specs.code.Files.{file_of}
use Rattle.guard_ends.specs.Drill.{drill_rules}
use Rattle.guard_ends.specs.Inputs.{IsRuleFile, RefusesRules}
use Rattle.guard_inputs.specs.code.Stops.{IsNotRead}
use Rattle.guard_inputs.specs.declared.stop.Stop.{Stop}
use Rattle.guard_inputs.proofs.Stopping.{at-exit}
use Rattle.guard_run.specs.code.Drilled.{AreOfDrill}
use Rattle.guard_run.proofs.drill.drill_sources.Goals as goal

pub invariant_of-result : goal.invariant_of-result
invariant_of-result c =
    let short : length (template_text c.args.count) ≤ 5000000 = template-short c.args.count c.requires in
    record { short = subst (λ (b : List ℕ). length b ≤ template_limit) (sym c.in_ok-template.ensures) (omega (arith, short)) }

pub returns-in_err-rules : goal.returns-in_err-rules
returns-in_err-rules c =
    let s : Stop = c.in_err-rules.field-0.0 in
    let stopped : IsNotRead RefusesRules drill_rules s = subst (λ (b : List ℕ). IsNotRead RefusesRules b s) c.in_ok-source.ensures.ok c.in_err-rules.ensures in
    at-exit (AreOfDrill c.args.count) (IsNotRead RefusesRules drill_rules)
    c.from_residual-in_err-rules.result s c.from_residual-in_err-rules.ensures.1 stopped

pub returns : goal.returns
returns c = record {
  source = c.in_ok-rules.ensures.0 ∙ c.in_ok-source.ensures.ok;
  read = subst (λ (b : List ℕ). IsRuleFile b (file_of c.in_ok-rules.rules.file)) c.in_ok-source.ensures.ok c.in_ok-rules.ensures.1;
  text = c.in_ok-template.ensures;
  format = refl;
}
