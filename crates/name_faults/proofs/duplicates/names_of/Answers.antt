use Rattle.std.proofs.Common.{List, refl}
use Rattle.name_scopes.specs.declared.scopes.Given as scope
use Rattle.rule_names.specs.Scopes.{names_of}
use Rattle.name_scopes.specs.code.Seen.{see_given}
use Rattle.name_faults.proofs.SeenNames.{names-next, names-end}
use Rattle.name_faults.proofs.duplicates.names_of.Goals as goal

pub loop-one-preserved : goal.loop-one-preserved
loop-one-preserved c =
    names-next (λ (xs : List scope.Given). names_of (see_given xs)) (λ (x : scope.Given). x.name.now) (λ x xs. refl) c.args.given.now c.loop-one.one-index c.one-item.result _ _ c.loop-one.names.items c.push.new.self.items
    c.loop-one-test.true c.one-item.is refl c.in_ok-push.ensures.items c.loop-one.invariant

pub returns : goal.returns
returns c = names-end (λ (xs : List scope.Given). names_of (see_given xs)) refl c.args.given.now c.loop-one.one-index _ c.loop-one.names.items c.loop-one-test.false c.loop-one.invariant
