-- In a tests file each verdict is expected of a rule that is reported. By the indexes of the cases, and of what each expects.
use Rattle.std.proofs.Common.{◌≡◌, ℕ, zero, suc, ◌+◌, ◌<◌, true, List, [], Option, Some, None, refl, sym, ap, ap₂, subst, ◌∙◌, arith, codes}
use Rattle.std.specs.Prelude.{All}
use Rattle.std.proofs.lemmas.List.Elements.{All-append, All-cons, All-nil}
use Rattle.doc_values.specs.Places.{child_place, first_kids, first_label, key_place, kids_at, label_at}
use Rattle.doc_values.specs.Tree.{Forest, IsTree, Label, Nil, Node, count, size}
use Rattle.guard_syntax.specs.Syntax.{File}
use Rattle.guard_syntax.specs.declared.row.Verdict.{Verdict}
use Rattle.report_text.specs.Paths.{ToEntry, step_to}
use Rattle.report_text.specs.RuleLines.{reported_names}
use Rattle.rule_names.specs.Duplicates.{is_among}
use Rattle.value_store.proofs.Nodes.{child_most, size_in}
use Rattle.guard_testfile.specs.Cases.{Expected, TestCase, case_at, cases_in, cases_of, contents_of, expected_by, expected_in}
use Rattle.guard_testfile.specs.Refusals.{IsTestsFile, names_rule}
use Rattle.guard_testfile.specs.Shape.{inside, place_of, verdict_named}
use Rattle.guard_testfile.specs.code.Siblings.{from_index}
use Rattle.guard_testfile.specs.declared.place.Place.{Place}
use Rattle.guard_testfile.specs.declared.place.Place.TheVariants as place
use Rattle.guard_testfile.proofs.ChildPlaces.{case-place, in-rules, place-below, place-under}
use Rattle.guard_testfile.proofs.Sentences.{cases-end, cases-more, expected-end, expected-more}
use Rattle.guard_testfile.proofs.Siblings.{IsUnder, child-kids, child-label, contents-under, key-under, nothing-under, place-first, place-step}

-- a verdict is expected of a rule that is reported
abbrev pub NamesRule : File → Expected → Type 0
NamesRule file e = is_among e.rule (reported_names file) ≡ true

abbrev pub AllName : File → List Expected → Type 0
AllName file = All (NamesRule file)

module _ (file : File) (tree : Forest) (is_tree : IsTree tree) (tests : IsTestsFile file tree) where
  -- ---- what stands in a map from names of rules

  -- an entry of such a map
  entry-names : (n : ℕ) → n < size tree → (key : Option (List ℕ)) (verdict : Option Verdict) → place_of tree n ≡ inside place.Rules (step_to 0 key)
      → (label_at tree n).key ≡ key → AllName file (expected_by key verdict)
  entry-names n within None verdict at is = All-nil (NamesRule file)
  entry-names n within (Some rule) None at is = All-nil (NamesRule file)
  entry-names n within (Some rule) (Some verdict) at is =
      All-cons (NamesRule file) _ [] (sym (ap₂ (names_rule file) at is) ∙ tests.names n within) (All-nil (NamesRule file))

  module _ (p : ℕ) (within : p < size tree) (at : place_of tree p ≡ place.Rules) where
    abbrev kids : Forest
    kids = kids_at tree p

    -- the entries from an index on
    entries-name : (n i : ℕ) → i + n ≡ count kids → AllName file (expected_in (from_index kids i))
    entries-name zero i e = subst (AllName file) (sym (expected-end kids i (omega (arith, e)))) (All-nil (NamesRule file))
    entries-name (suc n) i e =
        let low : i < count kids = omega (arith, e) in
        let l : Label = first_label (from_index kids i) in
        let id : ℕ = child_place (p + 1) kids i in
        let high = child_most (p + 1) kids i low in
        let room = size_in tree p within in
        let there : place_of tree id ≡ inside place.Rules (step_to 0 l.key) =
        place-below tree p i is_tree within low ∙ ap (λ (q : Place). inside q (step_to i l.key)) at ∙ in-rules i 0 l.key in
        let label : label_at tree id ≡ l = child-label tree tree p i id within low refl refl in
        subst (AllName file) (sym (expected-more kids i l low refl))
        (All-append (NamesRule file) (expected_by l.key (verdict_named l.text)) (expected_in (from_index kids (i + 1)))
        (entry-names id (omega (arith, high, room)) l.key (verdict_named l.text) there (ap (λ (m : Label). m.key) label))
        (entries-name n (i + 1) (omega (arith, e))))

    all-entries : AllName file (expected_in kids)
    all-entries = entries-name (count kids) 0 (omega arith)

  -- ---- what a case expects

  -- the value of a key is a node of the tree
  under-within : (p q : ℕ) (key : List ℕ) → p < size tree → key_place (p + 1) (kids_at tree p) key ≡ Some q → q < size tree
  under-within p q key within is =
      let u : IsUnder (kids_at tree p) key (p + 1) q = key-under (kids_at tree p) key (p + 1) q is in
      let there = u.there in
      let high = child_most (p + 1) (kids_at tree p) u.index u.within in
      let room = size_in tree p within in
      omega (arith, there, high, room)

  rules-name : (p : ℕ) → p < size tree → place_of tree p ≡ place.Expectations → (o : Option ℕ) → key_place (p + 1) (kids_at tree p) (codes "rules") ≡ o
      → AllName file (expected_in (contents_of (kids_at tree p) (codes "rules")))
  rules-name p within at None is =
      subst (λ (g : Forest). AllName file (expected_in g)) (sym (nothing-under (kids_at tree p) (codes "rules") (p + 1) is)) (All-nil (NamesRule file))
  rules-name p within at (Some q) is =
      subst (λ (g : Forest). AllName file (expected_in g)) (contents-under tree tree p q (codes "rules") within refl is)
      (all-entries q (under-within p q (codes "rules") within is)
      (place-under tree p q (codes "rules") is_tree within is ∙ ap (λ (at : Place). inside at (ToEntry (codes "rules"))) at))

  case-names : (p : ℕ) → p < size tree → place_of tree p ≡ place.Case → (o : Option ℕ) → key_place (p + 1) (kids_at tree p) (codes "expectations") ≡ o
      → AllName file (case_at p (kids_at tree p)).expected
  case-names p within at None is =
      subst (λ (g : Forest). AllName file (expected_in (contents_of g (codes "rules")))) (sym (nothing-under (kids_at tree p) (codes "expectations") (p + 1) is))
      (All-nil (NamesRule file))
  case-names p within at (Some q) is =
      subst (λ (g : Forest). AllName file (expected_in (contents_of g (codes "rules")))) (contents-under tree tree p q (codes "expectations") within refl is)
      (rules-name q (under-within p q (codes "expectations") within is)
      (place-under tree p q (codes "expectations") is_tree within is ∙ ap (λ (at : Place). inside at (ToEntry (codes "expectations"))) at) _ refl)

  -- ---- case by case

  abbrev pub CaseNames : TestCase → Type 0
  CaseNames case = AllName file case.expected

  module _ (some : 0 < size tree) where
    abbrev items : Forest
    items = kids_at tree 0

    -- the cases from an index on
    from-index : (n i : ℕ) → i + n ≡ count items → All CaseNames (cases_in (child_place 1 items i) (from_index items i))
    from-index zero i e = subst (All CaseNames) (sym (cases-end (child_place 1 items i) items i (omega (arith, e)))) (All-nil CaseNames)
    from-index (suc n) i e =
        let low : i < count items = omega (arith, e) in
        let id : ℕ = child_place 1 items i in
        let high = child_most 1 items i low in
        let room = size_in tree 0 some in
        let within : id < size tree = omega (arith, high, room) in
        let inner : kids_at tree id ≡ first_kids (from_index items i) = child-kids tree tree 0 i id some low refl refl in
        subst (All CaseNames) (sym (cases-more id (child_place 1 items (i + 1)) items (kids_at tree id) i low inner (place-step 1 items i low)))
        (All-cons CaseNames (case_at id (kids_at tree id)) (cases_in (child_place 1 items (i + 1)) (from_index items (i + 1)))
        (case-names id within (case-place tree i is_tree tests.shape some low) _ refl)
        (from-index n (i + 1) (omega (arith, e))))

    first-on : All CaseNames (cases_of tree)
    first-on = subst (λ (n : ℕ). All CaseNames (cases_in n items)) (place-first 1 items) (from-index (count items) 0 (omega arith))

-- a tree has a node
tree-some : (tree : Forest) → count tree ≡ 1 → 0 < size tree
tree-some Nil one = absurd (omega (arith, one))
tree-some (Node l kids rest) one = omega arith

pub rules-named : (file : File) (tree : Forest) → IsTree tree → IsTestsFile file tree → All (λ (case : TestCase). AllName file case.expected) (cases_of tree)
rules-named file tree is_tree tests = first-on file tree is_tree tests (tree-some tree is_tree.one)
