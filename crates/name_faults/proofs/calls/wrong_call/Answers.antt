use Rattle.std.proofs.Common.{◌∙◌, sym, ap}
use Rattle.rule_names.specs.Faults.{first_from}
use Rattle.name_scopes.specs.code.Seen.{see_best}
use Rattle.rule_names.specs.declared.name_kind.NameKind.TheVariants.{ArgCount}
use Rattle.rule_names.specs.Uses.{wrong}
use Rattle.name_faults.specs.code.Arities.{arity_named}
use Rattle.name_faults.specs.code.RuleArities.{rules_of, places_of}
use Rattle.rule_names.proofs.Arguments.{count-args, call-good, call-other}
use Rattle.name_faults.proofs.calls.wrong_call.Goals as goal

pub returns-then-count-args : goal.returns-then-count-args
returns-then-count-args c =
    ap (first_from (see_best c.args.best))
    (sym (call-good (rules_of c.args.walk.now) (places_of c.args.walk.now) _ c.in-Some.count _ c.args.name.now _ (sym c.in-Some.is ∙ c.arity.ensures ∙ ap (arity_named (rules_of c.args.walk.now)) c.as_str.ensures) c.in-Some.count-test.1 (c.if-count-args.true ∙ sym (count-args c.args.args.now))))

pub returns-else-count-args : goal.returns-else-count-args
returns-else-count-args c =
    let rules = rules_of c.args.walk.now in
    let places = places_of c.args.walk.now in
    c.with_fault-else-count-args.ensures
    ∙ ap (λ n. first_from (see_best c.args.best) (wrong rules places ArgCount c.args.name.now n)) c.place-at.ensures
    ∙ ap (first_from (see_best c.args.best))
    (sym (call-other rules places _ c.in-Some.count _ c.args.name.now _ (sym c.in-Some.is ∙ c.arity.ensures ∙ ap (arity_named (rules_of c.args.walk.now)) c.as_str.ensures) c.in-Some.count-test.1 (λ e. c.if-count-args.false (e ∙ count-args c.args.args.now))))
