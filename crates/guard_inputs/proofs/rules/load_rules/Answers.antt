use Rattle.std.proofs.Common.{ℕ, List, inr, string_bytes, subst, sym}
use Rattle.std.proofs.lemmas.Result.{MatchResult-weaker}
use Rattle.rule_names.specs.code.Files.{file_of}
use Rattle.guard_ends.specs.Inputs.{IsRuleFile, RefusesRules}
use Rattle.guard_ends.specs.Order.{IsContent, Loading, Refusing}
use Rattle.guard_ends.specs.declared.ends.Which.TheVariants as file
use Rattle.guard_inputs.specs.code.Loading.{IsNotLoaded, RefusesText}
use Rattle.guard_inputs.specs.code.Stops.{NoneRose, Rose}
use Rattle.guard_inputs.specs.declared.inputs.Rules.{Rules}
use Rattle.guard_inputs.proofs.Loads.{refused-more, text-rules}
use Rattle.guard_inputs.proofs.Stopping.{IsStop-more, as-rose, at-exit, none-rose}
use Rattle.guard_inputs.proofs.rules.load_rules.Goals as goal

pub returns-in_err-text-clause-loaded : goal.returns-in_err-text-clause-loaded
returns-in_err-text-clause-loaded g c =
    let told = g.F.Files.content c.args.files.now in
    let name = c.args.name.now in
    let before = g.F.Files.faults c.args.files.now in
    let after = g.F.Files.faults c.load_text.new.files in
    at-exit (λ (rules : Rules). IsContent (told name) (string_bytes rules.text) × IsRuleFile (string_bytes rules.text) (file_of rules.file))
    (IsNotLoaded file.Rules told name RefusesRules before after)
    c.from_residual.result c.in_err-text.field-0.0 c.from_residual.ensures.1
    (IsStop-more (Loading file.Rules told name (Refusing (RefusesText file.Rules))) (Loading file.Rules told name (Refusing RefusesRules))
    (Rose before after) (Rose before after) NoneRose NoneRose
    (refused-more file.Rules told name (RefusesText file.Rules) RefusesRules text-rules)
    (as-rose (Rose before after)) (as-rose NoneRose) c.in_err-text.field-0.0 c.in_err-text.ensures.loaded)

pub returns-clause-loaded : goal.returns-clause-loaded
returns-clause-loaded g c =
    let told = g.F.Files.content c.args.files.now in
    let name = c.args.name.now in
    let before = g.F.Files.faults c.args.files.now in
    let after = g.F.Files.faults c.load_text.new.files in
    let source : List ℕ = string_bytes c.in_ok-text.text in
    MatchResult-weaker c.read_rules.result c.read_rules.ensures
    (λ rules read. (subst (IsContent (told name)) (sym read.0) c.in_ok-text.ensures.loaded.0, subst (λ (b : List ℕ). IsRuleFile b (file_of rules.file)) (sym read.0) read.1))
    (λ s stopped. IsStop-more (Refusing RefusesRules source) (Loading file.Rules told name (Refusing RefusesRules)) NoneRose (Rose before after) NoneRose NoneRose
    (λ p refused. inr (source, c.in_ok-text.ensures.loaded.0, refused)) (none-rose (Rose before after)) (as-rose NoneRose) s stopped)

pub returns-clause-contents : goal.returns-clause-contents
returns-clause-contents g c = c.load_text.ensures.contents

pub returns-clause-kept : goal.returns-clause-kept
returns-clause-kept g c = c.load_text.ensures.kept
