use Rattle.std.proofs.Common.{List, [], None, map, ap, ◌∙◌}
use Rattle.std.specs.Borrow.{Bor}
use Rattle.std.proofs.lemmas.Result.{IfOk-weaker}
use Rattle.guard_syntax.specs.Named.{Named}
use Rattle.rule_names.specs.declared.name_kind.NameKind.TheVariants.{DuplicateRule}
use Rattle.rule_names.specs.Duplicates.{given_again, fault_of}
use Rattle.rule_names.specs.Faults.{first_from}
use Rattle.name_scopes.specs.code.Seen.{see_names}
use Rattle.name_faults.proofs.duplicates.duplicate_rule.Goals as goal

pub returns : goal.returns
returns c =
    IfOk-weaker c.first_again.result _ _ (λ found is. is ∙ ap (λ (l : List Named). first_from None (map (fault_of DuplicateRule) (given_again [] l)))
    (ap (λ (l : List (Bor Named)). see_names l) c.deref.ensures.value ∙ c.in_ok-names.ensures)) c.first_again.ensures
