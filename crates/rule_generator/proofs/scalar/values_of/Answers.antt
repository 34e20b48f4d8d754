use Rattle.std.proofs.Common.{◌≡◌, List, [], refl, ap, sym, subst, ◌∙◌}
use Rattle.std.specs.Prelude.{fold}
use Rattle.std.specs.List.{AllZip, list_all}
use Rattle.doc_values.specs.declared.cursor.Cursor.{Cursor}
use Rattle.rule_generator.specs.code.PropertyMaps.{has_entry, values_in_maps}
use Rattle.rule_generator.specs.code.Scalars.{IsKeyOf}
use Rattle.rule_generator.specs.code.Seen.{see, values_seen}
use Rattle.rule_generator.specs.declared.scalar.Scalar.{Scalar}
use Rattle.rule_generator.proofs.KeptKeys.{plain-has, values-fold, with_entry, with_value}
use Rattle.rule_generator.proofs.MappedTurns.{all-end-map, all-stop-map, all-turn-map, fold-end-map, fold-turn-map}
use Rattle.rule_generator.proofs.scalar.values_of.Goals as goal

no-keys : (keys : List Scalar) (nodes : List Cursor) → keys ≡ [] → nodes ≡ [] → AllZip IsKeyOf keys (values_seen nodes)
no-keys keys nodes e f = subst (λ ks. AllZip IsKeyOf ks (values_seen nodes)) (sym e) (subst (λ ns. AllZip IsKeyOf [] (values_seen ns)) (sym f) tt)

pub loop-map-init : goal.loop-map-init
loop-map-init c = record {
  all = refl;
  values = ap (λ (nodes : List Cursor). fold (with_entry c.args.key.now) (values_seen nodes) (values_seen c.args.maps.now)) c.new-values.ensures.items
      ∙ values-fold c.args.key.now [] (values_seen c.args.maps.now);
  keys = no-keys c.new-keys.result.keys c.new-values.result.items c.new-keys.ensures.empty c.new-values.ensures.items;
}

pub push_if_new-requires-clause-plain : goal.push_if_new-requires-clause-plain
push_if_new-requires-clause-plain c = c.in-Some.ensures.1

pub loop-map-preserved : goal.loop-map-preserved
loop-map-preserved c = record {
  all = all-turn-map see c.args.maps.now c.loop-map.map-index (has_entry c.args.key.now) c.map-item.result (list_all (has_entry c.args.key.now) (values_seen c.args.maps.now))
      c.loop-map-test.true c.map-item.is (plain-has c.args.key.now (see c.map-item.result) (see c.in-Some.value) c.in-Some.ensures.0 c.in-Some.ensures.1) c.loop-map.invariant.all;
  values = fold-turn-map see c.args.maps.now c.loop-map.map-index (with_entry c.args.key.now) c.map-item.result (values_seen c.loop-map.values.items)
      (values_seen c.push_if_new.new.values.items) (values_in_maps (values_seen c.args.maps.now) c.args.key.now) c.loop-map-test.true c.map-item.is
      (c.in_ok-push_if_new.ensures.values ∙ ap (with_value (values_seen c.loop-map.values.items)) (sym c.in-Some.ensures.0))
      c.loop-map.invariant.values;
  keys = c.in_ok-push_if_new.ensures.keys;
}

pub returns-in_default : goal.returns-in_default
returns-in_default c =
    all-stop-map see c.args.maps.now c.loop-map.map-index (has_entry c.args.key.now) c.map-item.result (list_all (has_entry c.args.key.now) (values_seen c.args.maps.now))
    c.loop-map-test.true c.map-item.is c.in_default.ensures c.loop-map.invariant.all

pub returns : goal.returns
returns c = (
  all-end-map see c.args.maps.now c.loop-map.map-index (has_entry c.args.key.now) (list_all (has_entry c.args.key.now) (values_seen c.args.maps.now)) c.loop-map-test.false
      c.loop-map.invariant.all,
  fold-end-map see c.args.maps.now c.loop-map.map-index (with_entry c.args.key.now) (values_seen c.loop-map.values.items)
      (values_in_maps (values_seen c.args.maps.now) c.args.key.now) c.loop-map-test.false c.loop-map.invariant.values,
)
