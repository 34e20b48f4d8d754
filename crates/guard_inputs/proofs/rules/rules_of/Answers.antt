use Rattle.rule_names.specs.code.Files.{file_of}
use Rattle.rule_names.specs.declared.file.RuleFile.{RuleFile}
use Rattle.guard_ends.specs.Inputs.{IsRuleFile, RefusesRules, RefusesUnnamed}
use Rattle.guard_ends.specs.Order.{Refusing}
use Rattle.guard_ends.proofs.RefusedRules.{unnamed-rules}
use Rattle.guard_inputs.specs.code.Stops.{IsNotRead, NoneRose}
use Rattle.guard_inputs.proofs.Stopping.{IsStop-more, as-rose, at-exit}
use Rattle.guard_inputs.proofs.rules.rules_of.Goals as goal

pub returns-in_err-raw : goal.returns-in_err-raw
returns-in_err-raw c =
    let text = c.args.text.now in
    at-exit (λ (rules : RuleFile). IsRuleFile text (file_of rules)) (IsNotRead RefusesRules text)
    c.from_residual.result c.in_err-raw.field-0.0 c.from_residual.ensures.1
    (IsStop-more (Refusing RefusesUnnamed text) (Refusing RefusesRules text) NoneRose NoneRose NoneRose NoneRose
    (λ p refused. (refused.0, unnamed-rules text refused.0 refused.1, refused.2)) (as-rose NoneRose) (as-rose NoneRose)
    c.in_err-raw.field-0.0 c.in_err-raw.ensures)

pub rules_of_syntax-requires-clause-syntax : goal.rules_of_syntax-requires-clause-syntax
rules_of_syntax-requires-clause-syntax c = c.in_ok-raw.ensures
