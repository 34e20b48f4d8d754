use Rattle.std.proofs.Common.{◌∙◌, sym, ap}
use Rattle.guard_syntax.specs.code.Seen.{see_expr}
use Rattle.rule_names.specs.Faults.{first_from}
use Rattle.name_scopes.specs.code.Seen.{see_best}
use Rattle.rule_names.specs.Uses.{wrong, wrong_text, place_of}
use Rattle.rule_names.specs.declared.name_kind.NameKind.TheVariants.{LiteralWanted}
use Rattle.name_faults.specs.code.RuleArities.{rules_of, places_of}
use Rattle.rule_names.proofs.Arguments.{args-none, args-some, site-first, text-good, text-other}
use Rattle.name_faults.proofs.calls.wrong_text.Goals as goal

pub returns-in_default : goal.returns-in_default
returns-in_default c =
    ap (λ o. first_from (see_best c.args.best) (wrong_text (rules_of c.args.walk.now) (places_of c.args.walk.now) c.args.name.now o)) (sym (args-none c.args.args.now c.args.index c.in_default.ensures.lookup.3))

pub returns-then-is_text : goal.returns-then-is_text
returns-then-is_text c =
    ap (first_from (see_best c.args.best))
    (sym (text-good (rules_of c.args.walk.now) (places_of c.args.walk.now) _ c.args.name.now (see_expr c.in-Some.argument.now)
    (args-some c.args.args.now c.args.index c.in-Some.argument.now c.in-Some.ensures.lookup.3.0 c.in-Some.ensures.lookup.1) (sym c.is_text.ensures ∙ c.if-is_text.true)))

pub returns : goal.returns
returns c =
    let rules = rules_of c.args.walk.now in
    let places = places_of c.args.walk.now in
    c.with_fault.ensures
    ∙ ap (λ n. first_from (see_best c.args.best) (wrong rules places LiteralWanted c.args.name.now n)) (c.place-at.ensures ∙ ap (place_of rules places) (c.site.ensures ∙ site-first (see_expr c.in-Some.argument.now)))
    ∙ ap (first_from (see_best c.args.best))
    (sym (text-other rules places _ c.args.name.now (see_expr c.in-Some.argument.now)
    (args-some c.args.args.now c.args.index c.in-Some.argument.now c.in-Some.ensures.lookup.3.0 c.in-Some.ensures.lookup.1) (sym c.is_text.ensures ∙ c.if-is_text.false)))
