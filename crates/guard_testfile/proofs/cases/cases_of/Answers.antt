use Rattle.std.proofs.Common.{◌≡◌, ◌+◌, ◌<◌, ◌≤◌, ◌∷◌, [], ◌++◌, ℕ, List, map, ap, ap₂, sym, refl, subst, ◌∙◌, arith, append-nil}
use Rattle.std.specs.Prelude.{All}
use Rattle.std.proofs.lemmas.List.Elements.{All-append, All-cons, All-nil}
use Rattle.doc_values.specs.Places.{child_place, first_kids, kids_at}
use Rattle.doc_values.specs.Tree.{Forest, count, size}
use Rattle.rule_names.specs.code.Files.{file_of}
use Rattle.guard_testfile.specs.Cases.{TestCase, case_at, cases_in}
use Rattle.guard_testfile.specs.Shape.{place_of}
use Rattle.guard_testfile.specs.code.Seen.{see_case}
use Rattle.guard_testfile.specs.code.Siblings.{from_index}
use Rattle.guard_testfile.specs.declared.case.Case.{Case}
use Rattle.guard_testfile.proofs.ChildPlaces.{case-place}
use Rattle.guard_testfile.proofs.Sentences.{cases-end, cases-more, read-more}
use Rattle.guard_testfile.proofs.Siblings.{child-kids, place-first, place-step}
use Rattle.guard_testfile.proofs.cases.cases_of.Goals as goal

pub loop-i-init : goal.loop-i-init
loop-i-init c =
    let kids : Forest = kids_at c.args.doc.now 0 in
    record {
      cases = ap (λ (cs : List Case). map (see_case (file_of c.args.sites.now.file.now)) cs ++ cases_in (child_place 1 kids 0) kids) c.new-cases.ensures.items
          ∙ ap (λ (n : ℕ). cases_in n kids) (place-first 1 kids);
      inputs = subst (All (λ (case : Case). case.input < size c.args.doc.now)) (sym c.new-cases.ensures.items) (All-nil (λ (case : Case). case.input < size c.args.doc.now));
    }

pub case_at-requires-clause-place : goal.case_at-requires-clause-place
case_at-requires-clause-place c =
    let f : Forest = c.args.doc.now in
    let root : kids_at c.cursor-root.result.doc.now c.cursor-root.result.id ≡ kids_at f 0 = ap₂ kids_at c.cursor-root.ensures.doc c.cursor-root.ensures.id in
    let long : c.len-i-end.result ≡ count (kids_at f 0) = c.len-i-end.ensures ∙ ap count root in
    let within : c.loop-i.i < count (kids_at f 0) = omega (arith, long) in
    let some : 0 < size f = subst (λ (n : ℕ). n < size f) c.cursor-root.ensures.id (subst (λ (g : Forest). c.cursor-root.result.id < size g) c.cursor-root.ensures.doc c.cursor-root.result.within) in
    ap₂ place_of (c.child.ensures.doc ∙ c.cursor-root.ensures.doc)
    (c.child.ensures.id ∙ ap₂ (λ (n : ℕ) (g : Forest). child_place (n + 1) g c.loop-i.i) c.cursor-root.ensures.id root)
    ∙ case-place f c.loop-i.i c.len-nodes.ensures.tree c.requires.shape some within

pub loop-i-preserved : goal.loop-i-preserved
loop-i-preserved c =
    let f : Forest = c.args.doc.now in
    let kids : Forest = kids_at f 0 in
    let i = c.loop-i.i in
    let root : kids_at c.cursor-root.result.doc.now c.cursor-root.result.id ≡ kids = ap₂ kids_at c.cursor-root.ensures.doc c.cursor-root.ensures.id in
    let long : c.len-i-end.result ≡ count kids = c.len-i-end.ensures ∙ ap count root in
    let within : i < count kids = omega (arith, long) in
    let some : 0 < size f = subst (λ (n : ℕ). n < size f) c.cursor-root.ensures.id (subst (λ (g : Forest). c.cursor-root.result.id < size g) c.cursor-root.ensures.doc c.cursor-root.result.within) in
    let doc : c.child.result.doc.now ≡ f = c.child.ensures.doc ∙ c.cursor-root.ensures.doc in
    let id : c.child.result.id ≡ child_place 1 kids i =
    c.child.ensures.id ∙ ap₂ (λ (n : ℕ) (g : Forest). child_place (n + 1) g i) c.cursor-root.ensures.id root in
    let inner : kids_at c.child.result.doc.now c.child.result.id ≡ first_kids (from_index kids i) = child-kids f c.child.result.doc.now 0 i c.child.result.id some within doc id in
    let left : List TestCase = cases_in (child_place 1 kids (i + 1)) (from_index kids (i + 1)) in
    record {
      cases = read-more (see_case (file_of c.args.sites.now.file.now)) c.loop-i.cases.items c.push.new.self.items c.in_ok-case.case (case_at (child_place 1 kids i) (first_kids (from_index kids i)))
          left (cases_in (child_place 1 kids i) (from_index kids i)) (cases_in 1 kids) c.in_ok-push.ensures.items
          (c.in_ok-case.ensures.case ∙ ap₂ case_at id inner)
          (cases-more (child_place 1 kids i) (child_place 1 kids (i + 1)) kids (first_kids (from_index kids i)) i within refl (place-step 1 kids i within))
          c.loop-i.invariant.cases;
      inputs = subst (All (λ (case : Case). case.input < size f)) (sym c.in_ok-push.ensures.items)
          (All-append (λ (case : Case). case.input < size f) c.loop-i.cases.items (c.in_ok-case.case ∷ []) c.loop-i.invariant.inputs
          (All-cons (λ (case : Case). case.input < size f) c.in_ok-case.case [] (subst (λ (g : Forest). c.in_ok-case.case.input < size g) doc c.in_ok-case.ensures.input)
          (All-nil (λ (case : Case). case.input < size f))));
    }

pub returns-clause-cases : goal.returns-clause-cases
returns-clause-cases c =
    let kids : Forest = kids_at c.args.doc.now 0 in
    let root : kids_at c.cursor-root.result.doc.now c.cursor-root.result.id ≡ kids = ap₂ kids_at c.cursor-root.ensures.doc c.cursor-root.ensures.id in
    let long : c.len-i-end.result ≡ count kids = c.len-i-end.ensures ∙ ap count root in
    let past : count kids ≤ c.loop-i.i = omega (arith, long) in
    let seen : List TestCase = map (see_case (file_of c.args.sites.now.file.now)) c.loop-i.cases.items in
    sym (append-nil seen) ∙ ap (λ (cs : List TestCase). seen ++ cs) (sym (cases-end (child_place 1 kids c.loop-i.i) kids c.loop-i.i past)) ∙ c.loop-i.invariant.cases
