-- The cases of a tests file.
use Rattle.std.specs.Prelude.{ℕ, ◌+◌, List, [], ◌∷◌, ◌++◌, Option, Some, codes, unwrap_or, if◌then◌else◌}
use Rattle.doc_values.specs.Places.{key_place, kids_at}
use Rattle.doc_values.specs.Tree.{Forest, Nil, Node, key_is, size}
use Rattle.guard_syntax.specs.declared.row.Verdict.{Verdict}
use Rattle.guard_testfile.specs.Shape.{verdict_named}

-- the verdict that is expected of the rule of a name
pub record Expected : Type 0 where
  pub rule : List ℕ
  pub verdict : Verdict

-- the number of the input in the tree of the file, and what is expected over it, in document order
pub record TestCase : Type 0 where
  pub input : ℕ
  pub expected : List Expected

-- what stands in the entry of a key
abbrev pub contents_of : Forest → List ℕ → Forest
contents_of Nil key = Nil
contents_of (Node l kids rest) key = if key_is l.key key then kids else contents_of rest key

-- an entry expects the verdict of its word of the rule of its key
abbrev pub expected_by : Option (List ℕ) → Option Verdict → List Expected
expected_by (Some rule) (Some verdict) = record { rule = rule; verdict = verdict } ∷ []
expected_by _ _ = []

-- what all entries of a map expect, in their order
abbrev pub expected_in : Forest → List Expected
expected_in Nil = []
expected_in (Node l kids rest) = expected_by l.key (verdict_named l.text) ++ expected_in rest

-- a case, by its own number and what stands in it
abbrev pub case_at : ℕ → Forest → TestCase
case_at at kids = record {
  input = unwrap_or (key_place (at + 1) kids (codes "input")) 0;
  expected = expected_in (contents_of (contents_of kids (codes "expectations")) (codes "rules"));
}

-- of values side by side, the first of which has the number `at`, each is a case
abbrev pub cases_in : ℕ → Forest → List TestCase
cases_in at Nil = []
cases_in at (Node l kids rest) = case_at at kids ∷ cases_in (at + 1 + size kids) rest

-- the root is the list of them
abbrev pub cases_of : Forest → List TestCase
cases_of tree = cases_in 1 (kids_at tree 0)
