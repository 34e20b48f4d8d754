use Rattle.std.proofs.Common.{◌≡◌, ◌+◌, ◌∙◌, List, map, ap, codes, sym, subst}
use Rattle.std.specs.Prelude.{IfOk}
use Rattle.doc_values.specs.Places.{kids_at}
use Rattle.doc_values.specs.Tree.{Forest, IsTree}
use Rattle.report_text.specs.Paths.{ToEntry}
use Rattle.rule_names.specs.code.Files.{file_of}
use Rattle.guard_testfile.specs.Cases.{Expected, contents_of, expected_in}
use Rattle.guard_testfile.specs.Shape.{inside, place_of}
use Rattle.guard_testfile.specs.code.Seen.{see_expectation}
use Rattle.guard_testfile.specs.declared.place.Place.{Place}
use Rattle.guard_testfile.specs.declared.place.Place.TheVariants.{Expectations}
use Rattle.guard_testfile.proofs.ChildPlaces.{place-under}
use Rattle.guard_testfile.proofs.Siblings.{contents-under, nothing-under}
use Rattle.guard_testfile.proofs.cases.wanted_at.Goals as goal

pub returns-in_default : goal.returns-in_default
returns-in_default c =
    let kids : Forest = kids_at c.args.node.now.doc.now c.args.node.now.id in
    ap (map (see_expectation (file_of c.args.sites.now.file.now))) c.new.ensures.items
    ∙ sym (ap (λ (g : Forest). expected_in (contents_of g (codes "rules"))) (nothing-under kids (codes "expectations") (c.args.node.now.id + 1) c.in_default.ensures))

pub returns-in_default-get : goal.returns-in_default-get
returns-in_default-get c =
    let f : Forest = c.args.node.now.doc.now in
    let p = c.args.node.now.id in
    let within = c.in-Some.expectations in
    let inner : kids_at within.doc.now within.id ≡ contents_of (kids_at f p) (codes "expectations") =
    contents-under f within.doc.now p within.id (codes "expectations") c.args.node.now.within c.in-Some.ensures.0 c.in-Some.ensures.1 in
    ap (map (see_expectation (file_of c.args.sites.now.file.now))) c.new-in_default-get.ensures.items
    ∙ sym (ap expected_in (ap (λ (g : Forest). contents_of g (codes "rules")) (sym inner) ∙ nothing-under (kids_at within.doc.now within.id) (codes "rules") (within.id + 1) c.in_default-get.ensures))

pub expectations_in-requires-clause-place : goal.expectations_in-requires-clause-place
expectations_in-requires-clause-place c =
    let f : Forest = c.args.node.now.doc.now in
    let p = c.args.node.now.id in
    let outer = c.in-Some.expectations in
    let inner = c.in-Some-get.rules in
    let tree : IsTree outer.doc.now = subst IsTree (sym c.in-Some.ensures.0) c.requires.tree in
    let there : place_of outer.doc.now outer.id ≡ Expectations =
    ap (λ (g : Forest). place_of g outer.id) c.in-Some.ensures.0
    ∙ place-under f p outer.id (codes "expectations") c.requires.tree c.args.node.now.within c.in-Some.ensures.1
    ∙ ap (λ (at : Place). inside at (ToEntry (codes "expectations"))) c.requires.place in
    ap (λ (g : Forest). place_of g inner.id) c.in-Some-get.ensures.0
    ∙ place-under outer.doc.now outer.id inner.id (codes "rules") tree outer.within c.in-Some-get.ensures.1
    ∙ ap (λ (at : Place). inside at (ToEntry (codes "rules"))) there

pub returns : goal.returns
returns c =
    let f : Forest = c.args.node.now.doc.now in
    let p = c.args.node.now.id in
    let outer = c.in-Some.expectations in
    let inner = c.in-Some-get.rules in
    let in-case : kids_at outer.doc.now outer.id ≡ contents_of (kids_at f p) (codes "expectations") =
    contents-under f outer.doc.now p outer.id (codes "expectations") c.args.node.now.within c.in-Some.ensures.0 c.in-Some.ensures.1 in
    let in-expectations : kids_at inner.doc.now inner.id ≡ contents_of (kids_at outer.doc.now outer.id) (codes "rules") =
    contents-under outer.doc.now inner.doc.now outer.id inner.id (codes "rules") outer.within c.in-Some-get.ensures.0 c.in-Some-get.ensures.1 in
    subst (λ (t : List Expected). IfOk c.expectations_in.result (λ wanted. map (see_expectation (file_of c.args.sites.now.file.now)) wanted.items ≡ t))
    (ap expected_in (in-expectations ∙ ap (λ (g : Forest). contents_of g (codes "rules")) in-case))
    c.expectations_in.ensures
