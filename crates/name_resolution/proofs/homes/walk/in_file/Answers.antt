use Rattle.std.proofs.Common.{◌∙◌, List, ap, ◌++◌}
use Rattle.guard_syntax.specs.declared.syntax.Disj.{Disj}
use Rattle.guard_syntax.specs.declared.syntax.Let.{Let}
use Rattle.guard_syntax.specs.declared.syntax.Rule.{Rule}
use Rattle.rule_names.specs.EnclosingScopes.{with_homes}
use Rattle.name_resolution.proofs.HomesInTurn.{of_lets, of_rules, of_disjs, in-turn}
use Rattle.name_resolution.proofs.homes.walk.in_file.Goals as goal

pub returns : goal.returns
returns c =
    let f = c.args.file.now in
    in-turn c.args.table.now c.in_lets.new.table c.in_disjs.new.table (of_lets 0 f.lets.items) (of_rules 0 f.rules.items ++ of_disjs 0 f.loose.items)
    (c.in_lets.ensures ∙ ap (λ (l : List Let). with_homes c.args.table.now (of_lets 0 l)) c.deref.ensures.value)
    (in-turn c.in_lets.new.table c.in_rules.new.table c.in_disjs.new.table (of_rules 0 f.rules.items) (of_disjs 0 f.loose.items)
    (c.in_rules.ensures ∙ ap (λ (l : List Rule). with_homes c.in_lets.new.table (of_rules 0 l)) c.deref-2.ensures.value)
    (c.in_disjs.ensures ∙ ap (λ (l : List Disj). with_homes c.in_rules.new.table (of_disjs 0 l)) c.deref-3.ensures.value))
