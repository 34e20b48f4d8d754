use Rattle.guard_ends.specs.Inputs.{IsRuleFile}
use Rattle.rule_names.specs.code.Files.{file_of}
use Rattle.doc_values.specs.Limits.{rules_limit}
use Rattle.std.proofs.Common.{◌≤◌, ℕ, List, length, refl, subst, sym}
use Rattle.guard_inputs.proofs.rules.read_rules.Goals as goal

pub rules_of-requires : goal.rules_of-requires
rules_of-requires c = subst (λ (b : List ℕ). length b ≤ rules_limit) (sym c.as_str.ensures.value) c.requires

pub returns : goal.returns
returns c = (refl, subst (λ (b : List ℕ). IsRuleFile b (file_of c.in_ok-file.file)) c.as_str.ensures.value c.in_ok-file.ensures)
