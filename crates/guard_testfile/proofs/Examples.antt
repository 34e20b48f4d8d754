-- Worked examples of tests files: a tree with one case, what breaks it, and the text of two cases.
use Rattle.std.proofs.Common.{◌≡◌, ℕ, true, false, List, [], ◌∷◌, Option, Some, None, codes, refl}
use Rattle.doc_values.specs.Tree.{Forest, Label, Nil, Node}
use Rattle.doc_values.specs.declared.kind.Kind.{Kind}
use Rattle.doc_values.specs.declared.kind.Kind.TheVariants as kind
use Rattle.guard_syntax.specs.declared.row.Verdict.TheVariants.{Pass, Fail}
use Rattle.guard_testfile.specs.Cases.{cases_of}
use Rattle.guard_testfile.specs.Shape.{place_of, shaped_at}
use Rattle.guard_testfile.specs.Texts.{difference_line, differences}
use Rattle.guard_testfile.specs.declared.place.Place.TheVariants as place

abbrev label : Kind → List ℕ → Option (List ℕ) → ℕ → Label
label k text key at = record { kind = k; text = text; key = key; at = at }

-- `[{"input":{},"expectations":{"rules":{"r":"FAIL"}}}]`, but for what stands in `expectations`
abbrev file : (expectations : Forest) → Forest
file expectations =
    Node (label kind.List [] None 0)
    (Node (label kind.Map [] None 1)
    (Node (label kind.Map [] (Some (codes "input")) 10) Nil (Node (label kind.Map [] (Some (codes "expectations")) 28) expectations Nil))
    Nil)
    Nil

abbrev of_rule : (word : List ℕ) → Forest
of_rule word = Node (label kind.Map [] (Some (codes "rules")) 37) (Node (label kind.Text word (Some (codes "r")) 42) Nil Nil) Nil

-- its one case
one-case : cases_of (file (of_rule (codes "FAIL"))) ≡ record { input = 2; expected = record { rule = codes "r"; verdict = Fail } ∷ [] } ∷ []
one-case = refl

-- the verdict stands where one does, and has its shape; in lower case it has not
verdict-there : place_of (file (of_rule (codes "FAIL"))) 5 ≡ place.Verdict
verdict-there = refl

verdict-shaped : shaped_at (file (of_rule (codes "FAIL"))) 5 ≡ true
verdict-shaped = refl

lower-case : shaped_at (file (of_rule (codes "fail"))) 5 ≡ false
lower-case = refl

-- the case has its shape, whatever stands in `expectations`; an empty map there has not
case-shaped : shaped_at (file Nil) 1 ≡ true
case-shaped = refl

nothing-expected : shaped_at (file Nil) 3 ≡ false
nothing-expected = refl

-- what stands in an input is free
input-free : place_of (file (of_rule (codes "FAIL"))) 2 ≡ place.Free
input-free = refl

-- of a case that is not as expected, the line below it
one-line : difference_line (record { rule = codes "r"; expected = Pass; got = Fail }) ≡ codes "  r expected PASS got FAIL\n"
one-line = refl

-- what differs, by the verdicts of two rules: only what is not as expected
one-differs : differences (codes "r" ∷ (codes "default" ∷ [])) (Fail ∷ (Pass ∷ [])) (record { rule = codes "default"; verdict = Pass } ∷ (record { rule = codes "r"; verdict = Pass } ∷ []))
    ≡ record { rule = codes "r"; expected = Pass; got = Fail } ∷ []
one-differs = refl
