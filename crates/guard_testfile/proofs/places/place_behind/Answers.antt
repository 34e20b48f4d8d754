use Rattle.std.proofs.Common.{◌<◌, ◌∷◌, [], ap, sym, ◌∙◌, arith}
use Rattle.std.specs.List.{fold}
use Rattle.std.proofs.lemmas.List.Sums.{fold-append}
use Rattle.doc_values.specs.Places.{label_at, spot_of}
use Rattle.doc_values.specs.Tree.{Forest}
use Rattle.report_text.specs.Paths.{path_of, step_to}
use Rattle.report_text.proofs.Downwards.{IsBelow, below-parent, root-path}
use Rattle.guard_testfile.specs.Shape.{inside}
use Rattle.guard_testfile.specs.declared.place.Place.TheVariants.{Cases}
use Rattle.guard_testfile.proofs.places.place_behind.Goals as goal

pub bounds-places-above : goal.bounds-places-above
bounds-places-above c =
    let f : Forest = c.args.node.now.doc.now in
    let id = c.args.node.now.id in
    let below : IsBelow f id c.in-Some.above.id = below-parent f id c.in-Some.above.id c.requires.tree c.args.node.now.within c.in-Some.ensures.1 in
    let low : c.in-Some.above.id < id = below.low in
    let long = c.requires.places.counted in
    omega (arith, low, long)

pub returns-in-None : goal.returns-in-None
returns-in-None c =
    sym (ap (fold inside Cases) (root-path c.args.node.now.doc.now c.args.node.now.id c.requires.tree c.args.node.now.within c.in-None.ensures))

pub returns-in-Some : goal.returns-in-Some
returns-in-Some c =
    let f : Forest = c.args.node.now.doc.now in
    let id = c.args.node.now.id in
    let above = c.in-Some.above.id in
    let below : IsBelow f id above = below-parent f id above c.requires.tree c.args.node.now.within c.in-Some.ensures.1 in
    let i = (spot_of f id).index in
    let key = (label_at f id).key in
    c.inside.ensures i
    ∙ ap (λ p. inside p (step_to i key)) (c.requires.places.each above below.low)
    ∙ sym (ap (fold inside Cases) below.path ∙ fold-append inside Cases (path_of f above) (step_to i key ∷ []))
