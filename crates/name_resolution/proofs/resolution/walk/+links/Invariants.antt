use Rattle.std.proofs.Common.{◌≡◌, ◌++◌, drop}
use Rattle.guard_syntax.specs.code.Seen.{see_query}
use Rattle.name_resolution.specs.code.Sources.{file_in}
use Rattle.name_scopes.specs.code.ScopeChains.{scopes_in}
use Rattle.rule_names.specs.Resolution.{links_query}
use Rattle.name_resolution.proofs.LinksInTurn.{of_lets, of_disjs, of_parts, of_steps, of_exprs}
use Rattle.name_resolution.proofs.resolution.walk.+links.Given as goal

abbrev pub invariant-in_lets-loop-given : goal.invariant-in_lets-loop-given
invariant-in_lets-loop-given l =
    l.links.items ++ of_lets (file_in l.sources) (scopes_in l.chain) (drop l.given-index l.lets) ≡ l.initial.links.items ++ of_lets (file_in l.sources) (scopes_in l.chain) l.lets

abbrev pub invariant-in_disjs-loop-disj : goal.invariant-in_disjs-loop-disj
invariant-in_disjs-loop-disj l =
    l.links.items ++ of_disjs (file_in l.sources) (scopes_in l.chain) (drop l.disj-index l.disjs) ≡ l.initial.links.items ++ of_disjs (file_in l.sources) (scopes_in l.chain) l.disjs

abbrev pub invariant-in_parts-loop-part : goal.invariant-in_parts-loop-part
invariant-in_parts-loop-part l =
    l.links.items ++ of_parts (file_in l.sources) (scopes_in l.chain) (drop l.part-index l.parts) ≡ l.initial.links.items ++ of_parts (file_in l.sources) (scopes_in l.chain) l.parts

abbrev pub invariant-in_exprs-loop-expr : goal.invariant-in_exprs-loop-expr
invariant-in_exprs-loop-expr l =
    l.links.items ++ of_exprs (file_in l.sources) (scopes_in l.chain) (drop l.expr-index l.exprs) ≡ l.initial.links.items ++ of_exprs (file_in l.sources) (scopes_in l.chain) l.exprs

abbrev pub invariant-in_query-loop-step : goal.invariant-in_query-loop-step
invariant-in_query-loop-step l =
    l.links.items ++ of_steps (file_in l.sources) (scopes_in l.chain) (drop l.step-index l.step-items)
    ≡ l.initial.links.items ++ links_query (file_in l.sources) (scopes_in l.chain) (see_query l.query)
