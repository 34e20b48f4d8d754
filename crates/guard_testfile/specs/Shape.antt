-- The shape of a tests file: where each value of its tree stands, and what has to be so of the value that stands there.
use Rattle.std.specs.Prelude.{ℕ, Bool, true, false, ◌&&◌, ◌||◌, List, [], ◌∷◌, Option, codes, find, is_some, if◌then◌else◌}
use Rattle.std.specs.List.{fold}
use Rattle.std.specs.Str.{bytes_eq}
use Rattle.doc_values.specs.Places.{kids_at, label_at}
use Rattle.doc_values.specs.Tree.{Forest, Label, Nil, Node, has_key, is_map, key_is}
use Rattle.doc_values.specs.declared.kind.Kind.{Kind}
use Rattle.doc_values.specs.declared.kind.Kind.TheVariants as kind
use Rattle.guard_syntax.specs.declared.row.Verdict.{Verdict}
use Rattle.guard_syntax.specs.declared.row.Verdict.TheVariants.{Pass, Fail, Skip}
use Rattle.report_text.specs.Paths.{Down, ToEntry, ToItem, path_of}
use Rattle.report_text.specs.RuleLines.{verdict_word}
use Rattle.guard_testfile.specs.declared.place.Place.{Place}
use Rattle.guard_testfile.specs.declared.place.Place.TheVariants as place

-- ---- Where values stand.

-- an entry of a case, by its key; its `input` may be anything
abbrev pub in_case : List ℕ → Place
in_case key = if bytes_eq key (codes "name") then place.Name else (if bytes_eq key (codes "expectations") then place.Expectations else place.Free)

-- an entry of what a case expects, by its key
abbrev pub in_expectations : List ℕ → Place
in_expectations key = if bytes_eq key (codes "rules") then place.Rules else place.Free

-- a value that is one step down from another: by where that stands
abbrev pub inside : Place → Down → Place
inside place.Cases (ToItem i) = place.Case
inside place.Case (ToEntry key) = in_case key
inside place.Expectations (ToEntry key) = in_expectations key
inside place.Rules (ToEntry rule) = place.Verdict
inside _ _ = place.Free

-- a node of the tree: by the steps down to it from the root, which is the list of cases
abbrev pub place_of : Forest → ℕ → Place
place_of tree n = fold inside place.Cases (path_of tree n)

-- ---- What has to be so of them.

-- kinds: a list, and a text
abbrev pub is_list : Kind → Bool
is_list kind.List = true
is_list _ = false

abbrev pub is_text : Kind → Bool
is_text kind.Text = true
is_text _ = false

-- the verdict of a word
abbrev pub verdict_named : List ℕ → Option Verdict
verdict_named text = find (λ verdict. bytes_eq text (verdict_word verdict)) (Pass ∷ Fail ∷ Skip ∷ [])

-- the keys that a map may have
abbrev pub may_have : Place → Option (List ℕ) → Bool
may_have place.Case key = key_is key (codes "input") || (key_is key (codes "expectations") || key_is key (codes "name"))
may_have place.Expectations key = key_is key (codes "rules")
may_have _ key = true

-- each of the values side by side has such a key
abbrev pub has_only : Place → Forest → Bool
has_only at Nil = true
has_only at (Node l kids rest) = may_have at l.key && has_only at rest

-- the sentence of each value, by where it stands
abbrev pub is_shaped : Place → Label → Forest → Bool
is_shaped place.Cases l kids = is_list l.kind
is_shaped place.Case l kids = is_map l.kind && (has_key kids (codes "input") && (has_key kids (codes "expectations") && has_only place.Case kids))
is_shaped place.Name l kids = is_text l.kind
is_shaped place.Expectations l kids = is_map l.kind && (has_key kids (codes "rules") && has_only place.Expectations kids)
is_shaped place.Rules l kids = is_map l.kind
is_shaped place.Verdict l kids = is_text l.kind && is_some (verdict_named l.text)
is_shaped place.Free l kids = true

-- the node with a number is as it has to be
abbrev pub shaped_at : Forest → ℕ → Bool
shaped_at tree n = is_shaped (place_of tree n) (label_at tree n) (kids_at tree n)
