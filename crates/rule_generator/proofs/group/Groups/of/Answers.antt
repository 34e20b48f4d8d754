use Rattle.std.proofs.Common.{ℕ, List, length, map, ap, ap₂, sym, ◌∙◌}
use Rattle.std.specs.Prelude.{Option, fold}
use Rattle.rule_generator.specs.code.Groups.{Grouped, grouped, with_element, with_type}
use Rattle.rule_generator.specs.code.Seen.{see, texts_seen, values_seen}
use Rattle.rule_generator.specs.code.SeenGroups.{group_seen, see_groups}
use Rattle.rule_generator.proofs.MappedTurns.{fold-end-map, fold-turn-map}
use Rattle.rule_generator.proofs.group.Groups.of.Goals as goal
use Rattle.rule_meaning.specs.Values.{Value}

abbrev grouped-by : List (List ℕ) → List (List Value) → Grouped
grouped-by types groups = record { types = types; groups = groups }

pub loop-element-init : goal.loop-element-init
loop-element-init c = record {
  groups = ap (λ (g : Grouped). fold with_element g (values_seen c.args.elements.now)) (ap₂ grouped-by (ap texts_seen c.new.ensures.empty) (ap (map group_seen) c.new-2.ensures.items));
  paired = ap length c.new.ensures.empty ∙ sym (ap length c.new-2.ensures.items);
}

pub loop-element-preserved : goal.loop-element-preserved
loop-element-preserved c = record {
  groups = fold-turn-map see c.args.elements.now c.loop-element.element-index with_element c.element-item.result (see_groups c.loop-element.groups) (see_groups c.add.new.self)
      (grouped (values_seen c.args.elements.now)) c.loop-element-test.true c.element-item.is
      (c.in_ok-add.ensures.groups ∙ ap (λ (o : Option (List ℕ)). with_type (see_groups c.loop-element.groups) o (see c.element-item.result)) c.in-Some.ensures)
      c.loop-element.invariant.groups;
  paired = c.in_ok-add.ensures.paired;
}

pub loop-element-preserved-in_default : goal.loop-element-preserved-in_default
loop-element-preserved-in_default c = record {
  groups = fold-turn-map see c.args.elements.now c.loop-element.element-index with_element c.element-item.result (see_groups c.loop-element.groups) (see_groups c.loop-element.groups)
      (grouped (values_seen c.args.elements.now)) c.loop-element-test.true c.element-item.is
      (ap (λ (o : Option (List ℕ)). with_type (see_groups c.loop-element.groups) o (see c.element-item.result)) c.in_default.ensures)
      c.loop-element.invariant.groups;
  paired = c.loop-element.invariant.paired;
}

pub returns-clause-groups : goal.returns-clause-groups
returns-clause-groups c =
    fold-end-map see c.args.elements.now c.loop-element.element-index with_element (see_groups c.loop-element.groups) (grouped (values_seen c.args.elements.now)) c.loop-element-test.false
    c.loop-element.invariant.groups
