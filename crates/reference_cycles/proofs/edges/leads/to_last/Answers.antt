use Rattle.std.proofs.Common.{◌∙◌, ap, sym, ◌++◌, List, Option}
use Rattle.std.specs.Borrow.{Bor}
use Rattle.std.specs.Option.{option_copied}
use Rattle.std.proofs.lemmas.Result.{IfOk-weaker}
use Rattle.guard_syntax.specs.declared.syntax.Step.{Step}
use Rattle.rule_names.specs.ReferenceGraph.{Edge}
use Rattle.reference_cycles.proofs.LastSteps.{last-step}
use Rattle.reference_cycles.proofs.edges.leads.to_last.Goals as goal

pub returns-in-Some : goal.returns-in-Some
returns-in-Some c =
    let is = ap (λ (o : Option (Bor Step)). option_copied o) c.in-Some.is in
    IfOk-weaker c.to_site.result _ _ (λ _ e. e ∙ ap (λ (l : List Edge). c.args.edges.now.items ++ l) (last-step c.args.query c.args.steps.now c.in-Some.step.now (sym is ∙ c.last.ensures.value))) c.to_site.ensures
