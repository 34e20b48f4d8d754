use Rattle.std.proofs.Common.{◌≡◌, ◌∙◌, sym, ap, map, ◌++◌, Some, None}
use Rattle.guard_syntax.specs.code.Seen.{expr_list, see_expr}
use Rattle.rule_names.specs.Faults.{first_from}
use Rattle.name_scopes.specs.code.Seen.{see_best}
use Rattle.rule_names.specs.declared.name_kind.NameKind.TheVariants.{ArgCount, UnknownFunction}
use Rattle.rule_names.specs.Uses.{wrong, wrong_function, wrong_texts, function_named, place_of}
use Rattle.name_faults.specs.code.RuleArities.{rules_of, places_of}
use Rattle.rule_names.proofs.Arguments.{count-args, named-none, named-some, function-good, function-other}
use Rattle.name_faults.proofs.calls.wrong_function.Goals as goal

pub returns-in_default : goal.returns-in_default
returns-in_default c =
    let rules = rules_of c.args.walk.now in
    let places = places_of c.args.walk.now in
    let name = c.args.name.now in
    let es = expr_list (map see_expr c.args.args.now) in
    let none : function_named name ≡ None = ap function_named (sym c.as_str.ensures) ∙ named-none c.as_str.result.now c.in_default.ensures in
    c.with_fault.ensures
    ∙ ap (λ n. first_from (see_best c.args.best) (wrong rules places UnknownFunction name n)) c.place-at.ensures
    ∙ ap (λ o. first_from (see_best c.args.best) (wrong_function rules places o name es (place_of rules places c.args.site))) (sym none)

pub returns-then-arity-args : goal.returns-then-arity-args
returns-then-arity-args c =
    let named : function_named c.args.name.now ≡ Some c.in-Some.function = ap function_named (sym c.as_str.ensures) ∙ named-some c.as_str.result.now c.in-Some.function c.in-Some.ensures in
    c.wrong_texts.ensures
    ∙ ap (first_from (see_best c.args.best))
    (sym (function-good (rules_of c.args.walk.now) (places_of c.args.walk.now) _ c.in-Some.function c.args.name.now _ _ _ named (count-args c.args.args.now) (sym c.arity.ensures ∙ c.if-arity-args.true)))

pub returns : goal.returns
returns c =
    let rules = rules_of c.args.walk.now in
    let places = places_of c.args.walk.now in
    let name = c.args.name.now in
    let es = expr_list (map see_expr c.args.args.now) in
    let texts = wrong_texts rules places c.in-Some.function name es in
    let named : function_named name ≡ Some c.in-Some.function = ap function_named (sym c.as_str.ensures) ∙ named-some c.as_str.result.now c.in-Some.function c.in-Some.ensures in
    c.wrong_texts-2.ensures
    ∙ ap (λ b. first_from b texts) c.with_fault-best.ensures
    ∙ ap (λ n. first_from (see_best c.args.best) (wrong rules places ArgCount name n ++ texts)) c.place-at.ensures
    ∙ ap (first_from (see_best c.args.best))
    (sym (function-other rules places _ c.in-Some.function name _ _ _ named (count-args c.args.args.now) (λ e. c.if-arity-args.false (c.arity.ensures ∙ e))))
