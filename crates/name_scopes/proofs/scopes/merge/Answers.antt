use Rattle.name_scopes.proofs.Merged.{Behind, left-first, left-second, all-added}
use Rattle.name_scopes.proofs.scopes.merge.Goals.{then-loop-left-test+else-right-second, else-loop-left-test}
use Rattle.name_scopes.proofs.scopes.merge.Goals as goal

pub returns : goal.returns
returns c =
    let xs = c.args.first.now in
    let ys = c.args.second.now in
    let i = c.loop-left.left in
    let j = c.loop-left.right in
    let done : Behind xs ys i j =
    elim c.loop-left-test.branch [ then-loop-left-test+else-right-second w ↦ left-first xs ys i j w.if-right-second.false | else-loop-left-test w ↦ left-second xs ys i j w.loop-left-test.false ] in
    all-added xs ys _ c.extend_from_slice.new.self.items _ _ i j c.in_ok-extend_from_slice.ensures.items c.in_ok-extend_from_slice-2.ensures.items done c.loop-left.invariant.same
