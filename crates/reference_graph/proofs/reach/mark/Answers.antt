use Rattle.std.proofs.lemmas.Grind.{common_steps}
use Rattle.std.proofs.Common.{◌≡◌, ◌<◌, ◌∙◌, sym, subst, ℕ, false, get_or, take, length, arith}
use Rattle.std.proofs.lemmas.List.{take_more, get_or_read}
use Rattle.reference_graph.proofs.Marking.{Marks-none, Marks-seen, Marks-new}
use Rattle.reference_graph.proofs.reach.mark.Goals as goal
use Rattle.reference_graph.proofs.reach.mark.Goals.{then-not-index+in_ok-push, else-not-index}

pub loop-target-init : goal.loop-target-init
loop-target-init c = Marks-none c.args.marks.now.items c.args.pending.now.items c.requires.marked

pub loop-target-preserved : goal.loop-target-preserved
loop-target-preserved c =
    let i = c.loop-target.target-index in
    let targets = c.args.targets.now in
    let t = get_or targets i 0 in
    let old = c.args.marks.now.items in
    let before = c.args.pending.now.items in
    let marks = c.loop-target.marks.items in
    let pending = c.loop-target.pending.items in
    let more = take_more targets i 0 c.loop-target-test.true in
    let within : t < length marks = subst (λ (n : ℕ). t < n) (sym c.loop-target.invariant.same_nodes) (c.requires.within i 0 c.loop-target-test.true) in
    let read : c.index.result.now ≡ get_or marks t false = get_or_read marks t c.index.result.now within c.index.ensures false in
    elim c.if-not-index.branch [
      | then-not-index+in_ok-push w ↦ rw (w.marks-is, w.pending-is, w.in_ok-push.ensures.items, more)
          (Marks-new (take i targets) old before marks pending t c.loop-target.invariant within (sym read ∙ w.if-not-index.true))
      | else-not-index w ↦ rw (w.marks-is, w.pending-is, more)
          (Marks-seen (take i targets) old before marks pending t c.loop-target.invariant (sym read ∙ w.if-not-index.false))
    ]

pub returns : goal.returns
returns c = grind (arith, common_steps)
