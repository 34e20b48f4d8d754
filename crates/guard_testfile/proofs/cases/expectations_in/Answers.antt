use Rattle.std.proofs.Common.{◌≡◌, ◌+◌, ◌<◌, ◌≤◌, ◌++◌, List, map, ap, ap₂, sym, refl, ◌∙◌, arith, append-nil}
use Rattle.doc_values.specs.Places.{first_label, kids_at, label_at}
use Rattle.doc_values.specs.Tree.{Forest, Label, count}
use Rattle.report_text.specs.Paths.{step_to}
use Rattle.rule_names.specs.code.Files.{file_of}
use Rattle.guard_testfile.specs.Cases.{Expected, expected_in}
use Rattle.guard_testfile.specs.Shape.{inside, place_of}
use Rattle.guard_testfile.specs.code.Seen.{see_expectation}
use Rattle.guard_testfile.specs.code.Siblings.{from_index}
use Rattle.guard_testfile.specs.declared.place.Place.{Place}
use Rattle.guard_testfile.specs.declared.place.Place.TheVariants.{Rules}
use Rattle.guard_testfile.proofs.ChildPlaces.{in-rules, place-below}
use Rattle.guard_testfile.proofs.Sentences.{expected-end, expected-more, read-more}
use Rattle.guard_testfile.proofs.Siblings.{child-label}
use Rattle.guard_testfile.proofs.cases.expectations_in.Goals as goal

pub expectation_at-requires-clause-place : goal.expectation_at-requires-clause-place
expectation_at-requires-clause-place c =
    let f : Forest = c.args.rules.now.doc.now in
    let p = c.args.rules.now.id in
    let kids : Forest = kids_at f p in
    let i = c.loop-i.i in
    let within : i < count kids = omega arith in
    let label : label_at c.child.result.doc.now c.child.result.id ≡ first_label (from_index kids i) =
    child-label f c.child.result.doc.now p i c.child.result.id c.args.rules.now.within within c.child.ensures.doc c.child.ensures.id in
    ap₂ place_of c.child.ensures.doc c.child.ensures.id
    ∙ place-below f p i c.requires.tree c.args.rules.now.within within
    ∙ ap (λ (at : Place). inside at (step_to i (first_label (from_index kids i)).key)) c.requires.place
    ∙ in-rules i 0 (first_label (from_index kids i)).key
    ∙ ap (λ (l : Label). inside Rules (step_to 0 l.key)) (sym label)

pub loop-i-preserved-in_default : goal.loop-i-preserved-in_default
loop-i-preserved-in_default c =
    let f : Forest = c.args.rules.now.doc.now in
    let p = c.args.rules.now.id in
    let kids : Forest = kids_at f p in
    let i = c.loop-i.i in
    let within : i < count kids = omega arith in
    let label : label_at c.child.result.doc.now c.child.result.id ≡ first_label (from_index kids i) =
    child-label f c.child.result.doc.now p i c.child.result.id c.args.rules.now.within within c.child.ensures.doc c.child.ensures.id in
    let seen : List Expected = map (see_expectation (file_of c.args.sites.now.file.now)) c.loop-i.wanted.items in
    ap (λ (es : List Expected). seen ++ es)
    (sym (expected-more kids i _ within label ∙ ap (λ (es : List Expected). es ++ expected_in (from_index kids (i + 1))) c.in_default.ensures))
    ∙ c.loop-i.invariant

pub loop-i-preserved : goal.loop-i-preserved
loop-i-preserved c =
    let f : Forest = c.args.rules.now.doc.now in
    let p = c.args.rules.now.id in
    let kids : Forest = kids_at f p in
    let i = c.loop-i.i in
    let within : i < count kids = omega arith in
    let label : label_at c.child.result.doc.now c.child.result.id ≡ first_label (from_index kids i) =
    child-label f c.child.result.doc.now p i c.child.result.id c.args.rules.now.within within c.child.ensures.doc c.child.ensures.id in
    read-more (see_expectation (file_of c.args.sites.now.file.now)) c.loop-i.wanted.items c.push.new.self.items c.in-Some.expectation _
    (expected_in (from_index kids (i + 1))) (expected_in (from_index kids i)) (expected_in kids) c.in_ok-push.ensures.items refl
    (expected-more kids i _ within label ∙ ap (λ (es : List Expected). es ++ expected_in (from_index kids (i + 1))) c.in-Some.ensures)
    c.loop-i.invariant

pub returns : goal.returns
returns c =
    let kids : Forest = kids_at c.args.rules.now.doc.now c.args.rules.now.id in
    let past : count kids ≤ c.loop-i.i = omega arith in
    let seen : List Expected = map (see_expectation (file_of c.args.sites.now.file.now)) c.loop-i.wanted.items in
    sym (append-nil seen) ∙ ap (λ (es : List Expected). seen ++ es) (sym (expected-end kids c.loop-i.i past)) ∙ c.loop-i.invariant
