-- Which trees are tests files for a rule file, and where the others are refused.
use Rattle.std.specs.Prelude.{ℕ, ◌≡◌, ◌<◌, Bool, true, false, List, [], Option, Some, string_bytes, unwrap_or}
use Rattle.std.specs.List.{flat_map}
use Rattle.doc_values.specs.Places.{label_at}
use Rattle.doc_values.specs.Tree.{Forest, size}
use Rattle.guard_syntax.specs.Syntax.{File}
use Rattle.report_text.specs.Paths.{key_byte}
use Rattle.report_text.specs.RuleLines.{reported_names}
use Rattle.rule_names.specs.Duplicates.{is_among}
use Rattle.guard_testfile.specs.Shape.{place_of, shaped_at}
use Rattle.guard_testfile.specs.declared.place.Place.{Place}
use Rattle.guard_testfile.specs.declared.place.Place.TheVariants as place
use Rattle.guard_testfile.specs.declared.refusal.TestRefusal.{TestRefusal}
use Rattle.guard_testfile.specs.declared.refusal.TestRefusal.TheVariants.{TestShape, NoSuchRule, NoMemory}

-- a test holds of each number below a count
abbrev pub HoldsBelow : ℕ → (ℕ → Bool) → Type 0
HoldsBelow count test = (n : ℕ) → n < count → test n ≡ true

-- the least number below a count of which a test does not hold
pub record IsFirstFailure (count : ℕ) (test : ℕ → Bool) (n : ℕ) : Type 0 where
  pub within : n < count
  pub fails : test n ≡ false
  pub before : HoldsBelow n test

-- the key of a verdict is the name of a rule that is reported
abbrev pub names_rule : File → Place → Option (List ℕ) → Bool
names_rule file place.Verdict (Some key) = is_among key (reported_names file)
names_rule file _ _ = true

-- the node with a number has such a key, where it is a verdict
abbrev pub named_at : File → Forest → ℕ → Bool
named_at file tree n = names_rule file (place_of tree n) (label_at tree n).key

-- each value of the tree has the shape
abbrev pub HasShape : Forest → Type 0
HasShape tree = HoldsBelow (size tree) (shaped_at tree)

-- and each verdict is expected of a rule
pub record IsTestsFile (file : File) (tree : Forest) : Type 0 where
  pub shape : HasShape tree
  pub names : HoldsBelow (size tree) (named_at file tree)

-- the first value in document order that breaks its own sentence
abbrev pub BreaksShape : Forest → ℕ → Type 0
BreaksShape tree n = IsFirstFailure (size tree) (shaped_at tree) n

-- where none does, the first whose key is no rule's name
abbrev pub NamesNoRule : File → Forest → ℕ → Type 0
NamesNoRule file tree n = HasShape tree × IsFirstFailure (size tree) (named_at file tree) n

-- its key, as it stands in a path
abbrev pub key_text : Forest → ℕ → List ℕ
key_text tree n = flat_map key_byte (unwrap_or (label_at tree n).key [])

-- a refusal and its condition; out of memory says nothing of the tree
abbrev pub RefusesTests : File → Forest → TestRefusal → Type 0
RefusesTests file tree (TestShape at) = (n : ℕ) × BreaksShape tree n × (at ≡ (label_at tree n).at)
RefusesTests file tree (NoSuchRule name at) = (n : ℕ) × NamesNoRule file tree n × (string_bytes name ≡ key_text tree n) × (at ≡ (label_at tree n).at)
RefusesTests file tree NoMemory = Unit {0}
