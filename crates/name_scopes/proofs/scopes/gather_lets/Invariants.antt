use Rattle.std.proofs.Common.{◌≡◌, ◌++◌, drop, map}
use Rattle.guard_syntax.specs.code.Seen.{see_let, let_list}
use Rattle.rule_names.specs.Scopes.{given_lets}
use Rattle.name_scopes.specs.code.Seen.{see_given}
use Rattle.name_scopes.proofs.scopes.gather_lets.Given as goal

abbrev pub invariant-loop-given : goal.invariant-loop-given
invariant-loop-given l =
    see_given l.names.items ++ given_lets (let_list (map see_let (drop l.given-index l.lets))) ≡ see_given l.initial.names.items ++ given_lets (let_list (map see_let l.lets))
