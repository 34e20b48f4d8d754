use Rattle.std.proofs.Common.{◌<◌, ◌∙◌, ap, refl, sym, subst, ℕ, Bool, false, List, [], length, get_or, arith}
use Rattle.std.proofs.lemmas.List.{append-nil, get_or_read, nil_from_length}
use Rattle.std.proofs.lemmas.List.Elements.{Contains-get_or}
use Rattle.rule_names.specs.Graphs.{Names}
use Rattle.reference_graph.specs.code.Ordering.{AreMarkedFrom, IsFirstUnmarked, nodes_on}
use Rattle.reference_graph.proofs.Walks.{targets-below}
use Rattle.reference_graph.proofs.Orderings.{cycle-met, targets-done}
use Rattle.reference_graph.proofs.WalkSteps.{back-leads, last-node, last-on-path, last-passed, rest-passed, walk-back, walk-finished, walk-same}
use Rattle.reference_graph.proofs.ordering.visit.Goals as goal
use Rattle.reference_graph.proofs.ordering.visit.Goals.{In-Some, In-Some-first_unmarked}

pub loop-stop-init : goal.loop-stop-init
loop-stop-init c = record { walked = c.in_ok-begin.ensures.0; begins = c.in_ok-begin.ensures.1 }

node-within : (c : In-Some) → c.in-Some.stop.node < length c.args.graph.now
node-within c = last-node c.args.graph.now c.loop-stop.walk c.pop.new.self.items c.in-Some.stop c.loop-stop.invariant.walked c.in-Some.ensures.items

pub targets-targets-requires : goal.targets-targets-requires
targets-targets-requires c = node-within c

pub first_unmarked-requires : goal.first_unmarked-requires
first_unmarked-requires c =
    rw c.targets-targets.ensures.targets
    (targets-below c.args.graph.now c.in-Some.stop.node (length c.as_slice.result.now) c.targets-targets.ensures.graph
    (ap (λ (l : List Bool). length l) c.as_slice.ensures.value ∙ c.loop-stop.invariant.walked.settled.same_nodes))

pub finish-requires : goal.finish-requires
finish-requires c =
    subst (λ (n : ℕ). c.in-Some.stop.node < n) (sym c.loop-stop.invariant.walked.settled.same_nodes) (node-within (goal.at.finish-requires c).In-Some)

pub loop-stop-preserved-in_default-first_unmarked : goal.loop-stop-preserved-in_default-first_unmarked
loop-stop-preserved-in_default-first_unmarked c =
    let g = c.args.graph.now in
    let walk = c.loop-stop.walk in
    let rest = c.pop.new.self.items in
    let stop = c.in-Some.stop in
    let so = c.loop-stop.invariant.walked in
    let begins = c.loop-stop.invariant.begins in
    let popped = c.in-Some.ensures.items in
    let fin = c.in_ok-finish.ensures in
    let marked : AreMarkedFrom walk.done.items (get_or g stop.node []) stop.next = rw (c.as_slice.ensures.value, c.targets-targets.ensures.targets) at c.in_default-first_unmarked.ensures in
    record {
      walked = walk-finished g stop.node fin so.settled (last-on-path g walk rest stop so popped) (rest-passed g walk rest stop so popped)
          (targets-done g walk.done.items stop.node stop.next (last-passed g walk rest stop so popped) marked);
      begins = rw fin.begun (record { here = begins.here; kept = begins.kept });
    }

module _ (c : In-Some-first_unmarked) where
  first : IsFirstUnmarked c.loop-stop.walk.done.items (get_or c.args.graph.now c.in-Some.stop.node []) c.in-Some.stop.next c.in-Some-first_unmarked.index
  first = rw (c.as_slice.ensures.value, c.targets-targets.ensures.targets) at c.in-Some-first_unmarked.ensures

  abbrev target : ℕ
  target = get_or (get_or c.args.graph.now c.in-Some.stop.node []) c.in-Some-first_unmarked.index 0

  named : Names c.args.graph.now c.in-Some.stop.node target
  named = Contains-get_or (get_or c.args.graph.now c.in-Some.stop.node []) c.in-Some-first_unmarked.index 0 first.within

  target-within : target < length c.args.graph.now
  target-within = c.targets-targets.ensures.graph.named c.in-Some.stop.node target named

  begun-within : target < length c.loop-stop.walk.begun.items
  begun-within = subst (λ (n : ℕ). target < n) (sym c.loop-stop.invariant.walked.on_path.same_nodes) target-within

pub index-requires : goal.index-requires
index-requires c =
    let within = begun-within (goal.at.index-requires c).In-Some-first_unmarked in
    rw c.targets-targets.ensures.targets (omega (arith, within, c.loop-stop.walk.begun.ok.0))

pub returns-then-index : goal.returns-then-index
returns-then-index c =
    let at = (goal.at.returns-then-index c).In-Some-first_unmarked in
    let g = c.args.graph.now in
    let walk = c.loop-stop.walk in
    let rest = c.pop.new.self.items in
    let stop = c.in-Some.stop in
    let read = rw c.targets-targets.ensures.targets at c.index.ensures in
    let begun = get_or_read walk.begun.items (target at) c.index.result.now (begun-within at) read false in (
      c.loop-stop.invariant.walked.settled,
      cycle-met g walk.begun.items walk.done.items (nodes_on rest) stop.node (last-on-path g walk rest stop c.loop-stop.invariant.walked c.in-Some.ensures.items) (target at) (named at)
          (sym begun ∙ c.if-index.true) (first at).here,
    )

pub begin-requires-in-Some-clause-node : goal.begin-requires-in-Some-clause-node
begin-requires-in-Some-clause-node c =
    rw c.targets-targets.ensures.targets (target-within (goal.at.begin-requires-in-Some-clause-node c).In-Some-first_unmarked)

pub begin-requires-in-Some-clause-walked : goal.begin-requires-in-Some-clause-walked
begin-requires-in-Some-clause-walked c =
    walk-back c.args.graph.now c.loop-stop.walk c.pop.new.self.items c.in-Some.stop c.loop-stop.invariant.walked c.in-Some.ensures.items c.in-Some-first_unmarked.index
    (first (goal.at.begin-requires-in-Some-clause-walked c).In-Some-first_unmarked) _ refl refl refl c.in_ok-push.ensures.items

pub begin-requires-in-Some-clause-leads : goal.begin-requires-in-Some-clause-leads
begin-requires-in-Some-clause-leads c =
    let at = (goal.at.begin-requires-in-Some-clause-leads c).In-Some-first_unmarked in
    rw c.targets-targets.ensures.targets
    (back-leads c.args.graph.now c.loop-stop.walk c.pop.new.self.items c.in-Some.stop c.loop-stop.invariant.walked c.in-Some.ensures.items c.in-Some-first_unmarked.index (first at)
    c.push.new.self.items c.in_ok-push.ensures.items (target at) (named at))

pub loop-stop-preserved : goal.loop-stop-preserved
loop-stop-preserved c =
    let on = c.in_ok-begin-2.ensures.1 in
    let begins = c.loop-stop.invariant.begins in
    record {
      walked = c.in_ok-begin-2.ensures.0;
      begins = record { here = on.kept c.args.root begins.here; kept = λ a h. on.kept a (begins.kept a h) };
    }

pub returns : goal.returns
returns c =
    let begins = c.loop-stop.invariant.begins in
    let same = append-nil c.pop.new.self.items in (
      walk-same c.args.graph.now c.loop-stop.walk _ c.loop-stop.invariant.walked refl refl refl (sym same ∙ sym c.in_default.ensures.items),
      nil_from_length c.pop.new.self.items (omega (arith, c.in_default.ensures.cases, c.pop.new.self.ok.0)),
      record { here = begins.here; kept = begins.kept },
    )
