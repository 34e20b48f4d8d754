use Rattle.std.proofs.Common.{◌≡◌, ◌-◌, ◌<◌, ◌≤◌, ◌∙◌, sym, ap, arith, subst, ℕ, List, true, false, get_or, take}
use Rattle.std.proofs.lemmas.Bool.{true≢false}
use Rattle.std.proofs.lemmas.List.{take_all, take_more}
use Rattle.name_table.specs.code.Picked.{ArePicked}
use Rattle.name_table.proofs.RuleOrders.{picked-more, picked-passed}
use Rattle.name_table.proofs.resolver.picked.Goals as goal
use Rattle.name_table.proofs.resolver.picked.Goals.{then-node-count+then-is_marked+in_ok-push, else-node-count, else-node-count-via-then-node-count+else-is_marked, else-node-count-via-else-node-count}

pub loop-node-preserved : goal.loop-node-preserved
loop-node-preserved c =
    let i = c.loop-node.node-index in
    let nodes = c.args.nodes.now in
    let marks = c.args.marks.now in
    let count = c.args.count in
    let sites = c.loop-node.sites.items in
    let x = get_or nodes i 0 in
    let more = take_more nodes i 0 c.loop-node-test.true in
    elim c.if-node-count.branch [
      | then-node-count+then-is_marked+in_ok-push w ↦
          let from : count ≤ x = w.if-node-count.true in
          let marked : get_or marks (x - count) false ≡ true = sym w.is_marked.ensures ∙ w.if-is_marked.true in
          rw (w.sites-is, w.in_ok-push.ensures.items, more) (picked-more count marks (take i nodes) sites x c.loop-node.invariant (x - count) (omega arith) marked)
      | else-node-count w ↦
          rw (w.sites-is, more)
          (elim w.else-node-count.branch [
            | else-node-count-via-then-node-count+else-is_marked v ↦
                let from : count ≤ x = v.if-node-count.true in
                let unmarked : get_or marks (x - count) false ≡ false = sym v.is_marked.ensures ∙ v.if-is_marked.false in
                picked-passed count marks (take i nodes) sites x c.loop-node.invariant (λ s e m.
                let same : x - count ≡ s = omega arith in
                true≢false (sym m ∙ ap (λ (n : ℕ). get_or marks n false) (sym same) ∙ unmarked))
            | else-node-count-via-else-node-count v ↦
                let before : x < count = v.if-node-count.false in
                picked-passed count marks (take i nodes) sites x c.loop-node.invariant (λ s e m. absurd (omega (arith, e, before)))
          ])
    ]

pub returns : goal.returns
returns c = subst (λ (ns : List ℕ). ArePicked c.args.count c.args.marks.now ns c.loop-node.sites.items) (take_all c.loop-node.node-index c.args.nodes.now c.loop-node-test.false) c.loop-node.invariant
