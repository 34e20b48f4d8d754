use Rattle.std.proofs.Common.{List, [], None, map, ap, ◌∙◌}
use Rattle.std.proofs.lemmas.Result.{IfOk-weaker}
use Rattle.guard_syntax.specs.code.Seen.{see_file, see_rule}
use Rattle.guard_syntax.specs.declared.syntax.Rule.{Rule}
use Rattle.rule_names.specs.declared.name_kind.NameKind.TheVariants.{DuplicateRule}
use Rattle.rule_names.specs.Duplicates.{given_again, fault_of, rule_names}
use Rattle.rule_names.specs.Faults.{first_from}
use Rattle.name_scopes.specs.code.Seen.{see_best}
use Rattle.name_faults.specs.code.Found.{Firsts}
use Rattle.name_faults.proofs.FoundInTurn.{faults-found}
use Rattle.name_faults.proofs.uses.first_faults.Goals as goal

pub returns-clause-again : goal.returns-clause-again
returns-clause-again c =
    let known = c.in_ok-again.ensures ∙ ap (λ (l : List Rule). first_from None (map (fault_of DuplicateRule) (given_again [] (rule_names (map see_rule l))))) c.deref.ensures.value in
    IfOk-weaker c.in_scopes.result _ _ (λ found e. ap (λ (b : Firsts). b.0) (e ∙ faults-found (see_file c.args.file.now) (see_best c.in_ok-again.again) known)) c.in_scopes.ensures

pub returns-clause-wrong : goal.returns-clause-wrong
returns-clause-wrong c =
    let known = c.in_ok-again.ensures ∙ ap (λ (l : List Rule). first_from None (map (fault_of DuplicateRule) (given_again [] (rule_names (map see_rule l))))) c.deref.ensures.value in
    IfOk-weaker c.in_scopes.result _ _ (λ found e. ap (λ (b : Firsts). b.1) (e ∙ faults-found (see_file c.args.file.now) (see_best c.in_ok-again.again) known)) c.in_scopes.ensures
