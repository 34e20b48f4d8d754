use Rattle.std.proofs.Common.{ap₂, ◌∙◌}
use Rattle.guard_testfile.specs.Shape.{place_of}
use Rattle.guard_testfile.proofs.Sentences.{places-more}
use Rattle.guard_testfile.proofs.places.places_of.Goals as goal

pub loop-id-preserved : goal.loop-id-preserved
loop-id-preserved c =
    places-more c.args.doc.now c.loop-id.id c.loop-id.places.items c.push.new.self.items _ c.loop-id.invariant c.in_ok-push.ensures.items
    (c.place_behind-place.ensures ∙ ap₂ place_of c.cursor-node.ensures.doc c.cursor-node.ensures.id)
