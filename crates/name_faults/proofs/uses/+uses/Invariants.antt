use Rattle.std.proofs.Common.{◌≡◌, drop}
use Rattle.guard_syntax.specs.code.Seen.{see_query}
use Rattle.name_faults.specs.code.Found.{see_found}
use Rattle.name_faults.specs.code.FoundParts.{in_query}
use Rattle.name_scopes.specs.code.ScopeChains.{visible_in}
use Rattle.name_faults.specs.code.RuleArities.{rules_of, places_of}
use Rattle.name_faults.proofs.FoundInTurn.{of_lets, of_disjs, of_parts, of_steps, of_exprs}
use Rattle.name_faults.proofs.uses.+uses.Given as goal

abbrev pub invariant-in_lets-loop-given : goal.invariant-in_lets-loop-given
invariant-in_lets-loop-given l =
    of_lets (rules_of l.walk) (places_of l.walk) (visible_in l.scope) (see_found l.best) (drop l.given-index l.lets) ≡ of_lets (rules_of l.walk) (places_of l.walk) (visible_in l.scope) (see_found l.fn.best) l.lets

abbrev pub invariant-in_disjs-loop-disj : goal.invariant-in_disjs-loop-disj
invariant-in_disjs-loop-disj l =
    of_disjs (rules_of l.walk) (places_of l.walk) (visible_in l.scope) (see_found l.best) (drop l.disj-index l.disjs) ≡ of_disjs (rules_of l.walk) (places_of l.walk) (visible_in l.scope) (see_found l.fn.best) l.disjs

abbrev pub invariant-in_parts-loop-part : goal.invariant-in_parts-loop-part
invariant-in_parts-loop-part l =
    of_parts (rules_of l.walk) (places_of l.walk) (visible_in l.scope) (see_found l.best) (drop l.part-index l.parts) ≡ of_parts (rules_of l.walk) (places_of l.walk) (visible_in l.scope) (see_found l.fn.best) l.parts

abbrev pub invariant-in_exprs-loop-expr : goal.invariant-in_exprs-loop-expr
invariant-in_exprs-loop-expr l =
    of_exprs (rules_of l.walk) (places_of l.walk) (visible_in l.scope) (see_found l.best) (drop l.expr-index l.exprs) ≡ of_exprs (rules_of l.walk) (places_of l.walk) (visible_in l.scope) (see_found l.fn.best) l.exprs

abbrev pub invariant-in_query-loop-step : goal.invariant-in_query-loop-step
invariant-in_query-loop-step l =
    of_steps (rules_of l.walk) (places_of l.walk) (visible_in l.scope) (see_found l.best) (drop l.step-index l.step-items)
    ≡ in_query (rules_of l.walk) (places_of l.walk) (visible_in l.scope) (see_found l.fn.best) (see_query l.query)
