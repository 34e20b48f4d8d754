use Rattle.std.proofs.Common.{◌∷◌, [], ap, sym, subst, ◌∙◌}
use Rattle.std.proofs.lemmas.List.{map-append}
use Rattle.std.specs.List.{AllZip}
use Rattle.rule_generator.specs.code.Scalars.{IsKeyOf}
use Rattle.rule_generator.specs.code.Seen.{see, values_seen}
use Rattle.rule_generator.proofs.Sameness.{Inserted, inserted}
use Rattle.rule_generator.proofs.scalar.push_if_new.Goals as goal

pub returns-then-not-is_new-clause-values : goal.returns-then-not-is_new-clause-values
returns-then-not-is_new-clause-values c =
    let i : Inserted c.args.keys.now.keys c.insert_full.new.self.keys (values_seen c.args.values.now.items) (see c.args.value) c.in_ok-is_new.is_new =
    inserted c.args.keys.now.keys c.insert_full.new.self.keys (values_seen c.args.values.now.items) c.scalar_of.result (see c.args.value) c.in_ok-is_new.is_new
    c.scalar_of.ensures c.requires.keys c.in_ok-is_new.ensures.added c.in_ok-is_new.ensures.keys in
    sym ((i.kept c.if-not-is_new.true).0)

pub returns-then-not-is_new-clause-keys : goal.returns-then-not-is_new-clause-keys
returns-then-not-is_new-clause-keys c =
    let i : Inserted c.args.keys.now.keys c.insert_full.new.self.keys (values_seen c.args.values.now.items) (see c.args.value) c.in_ok-is_new.is_new =
    inserted c.args.keys.now.keys c.insert_full.new.self.keys (values_seen c.args.values.now.items) c.scalar_of.result (see c.args.value) c.in_ok-is_new.is_new
    c.scalar_of.ensures c.requires.keys c.in_ok-is_new.ensures.added c.in_ok-is_new.ensures.keys in
    (i.kept c.if-not-is_new.true).1

pub returns-clause-values : goal.returns-clause-values
returns-clause-values c =
    let i : Inserted c.args.keys.now.keys c.insert_full.new.self.keys (values_seen c.args.values.now.items) (see c.args.value) c.in_ok-is_new.is_new =
    inserted c.args.keys.now.keys c.insert_full.new.self.keys (values_seen c.args.values.now.items) c.scalar_of.result (see c.args.value) c.in_ok-is_new.is_new
    c.scalar_of.ensures c.requires.keys c.in_ok-is_new.ensures.added c.in_ok-is_new.ensures.keys in
    ap values_seen c.in_ok-push.ensures.items ∙ map-append see c.args.values.now.items (c.args.value ∷ []) ∙ sym ((i.grown c.if-not-is_new.false).0)

pub returns-clause-keys : goal.returns-clause-keys
returns-clause-keys c =
    let i : Inserted c.args.keys.now.keys c.insert_full.new.self.keys (values_seen c.args.values.now.items) (see c.args.value) c.in_ok-is_new.is_new =
    inserted c.args.keys.now.keys c.insert_full.new.self.keys (values_seen c.args.values.now.items) c.scalar_of.result (see c.args.value) c.in_ok-is_new.is_new
    c.scalar_of.ensures c.requires.keys c.in_ok-is_new.ensures.added c.in_ok-is_new.ensures.keys in
    subst (AllZip IsKeyOf c.insert_full.new.self.keys) (sym (ap values_seen c.in_ok-push.ensures.items ∙ map-append see c.args.values.now.items (c.args.value ∷ []))) ((i.grown c.if-not-is_new.false).1)
