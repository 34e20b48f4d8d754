-- A template has no patterns: one of JSON by the lemma on JSON, one of YAML by the kinds of its values; a map of the entries of two
-- by theirs; and a part of a tree since the tree has none.
use Rattle.std.proofs.Common.{◌≡◌, ◌||◌, ◌-◌, ℕ, zero, suc, List, Bool, true, false, refl, sym, if◌then◌else◌}
use Rattle.std.specs.Prelude.{nat_lt}
use Rattle.std.proofs.lemmas.Bool.{false≢true}
use Rattle.doc_values.specs.Places.{find, first_kids, first_label, tree_at, unkeyed}
use Rattle.doc_values.specs.declared.kind.Kind.{Kind}
use Rattle.doc_values.specs.declared.kind.Kind.TheVariants as kind
use Rattle.doc_values.specs.Tree.{Label, Forest, Nil, Node, joined, size}
use Rattle.doc_values.specs.Merge.{merged}
use Rattle.yaml_grammar.proofs.TreeInduction.{IsYamlKind, yaml-induction}
use Rattle.rule_meaning.specs.Values.{is_pattern, has_pattern}
use Rattle.value_store.proofs.Patternless.{json-plain}
use Rattle.guard_ends.specs.Inputs.{IsTemplate, IsTreeOf}
use Rattle.guard_ends.specs.declared.format.Format.{Format}
use Rattle.guard_ends.specs.declared.format.Format.TheVariants as format

kind-plain : (k : Kind) → IsYamlKind k → is_pattern k ≡ false
kind-plain kind.Null good = refl
kind-plain (kind.Truth b) good = refl
kind-plain (kind.Whole n) good = refl
kind-plain (kind.Fraction d) good = refl
kind-plain kind.Text good = refl
kind-plain kind.List good = refl
kind-plain kind.Map good = refl
kind-plain kind.Pattern good = absurd good
kind-plain (kind.Limits r) good = absurd good

abbrev IsPlain : Forest → Type 0
IsPlain tree = has_pattern tree ≡ false

node-plain : (l : Label) (kids rest : Forest) → IsYamlKind l.kind → IsPlain kids → IsPlain rest → IsPlain (Node l kids rest)
node-plain l kids rest good inner more = rw (kind-plain l.kind good, inner, more) refl

tree-plain : (f : Format) (text : List ℕ) (tree : Forest) → IsTreeOf f text tree → has_pattern tree ≡ false
tree-plain format.Json text tree json = json-plain text tree json
tree-plain format.Yaml text tree read = yaml-induction IsPlain refl node-plain text tree read.0

pub template-plain : (f : Format) (bytes : List ℕ) (tree : Forest) → IsTemplate f bytes tree → has_pattern tree ≡ false
template-plain f bytes tree read = tree-plain f bytes tree read.read

-- ---- two trees that are merged

or-parts : (a b : Bool) → (a || b) ≡ false → (a ≡ false) × (b ≡ false)
or-parts false b is = (refl, is)
or-parts true b is = absurd (false≢true (sym is))

joined-plain : (f g : Forest) → IsPlain f → IsPlain g → IsPlain (joined f g)
joined-plain Nil g first second = second
joined-plain (Node l kids rest) g first second =
    let own = or-parts (is_pattern l.kind) (has_pattern kids || has_pattern rest) first in
    let inner = or-parts (has_pattern kids) (has_pattern rest) own.1 in
    rw (own.0, inner.0, joined-plain rest g inner.1 second) refl

kids-plain : (f : Forest) → IsPlain f → IsPlain (first_kids f)
kids-plain Nil plain = refl
kids-plain (Node l kids rest) plain = (or-parts (has_pattern kids) (has_pattern rest) (or-parts (is_pattern l.kind) (has_pattern kids || has_pattern rest) plain).1).0

label-plain : (f : Forest) → IsPlain f → is_pattern (first_label f).kind ≡ false
label-plain Nil plain = refl
label-plain (Node l kids rest) plain = (or-parts (is_pattern l.kind) (has_pattern kids || has_pattern rest) plain).0

pub merged-plain : (first second : Forest) → has_pattern first ≡ false → has_pattern second ≡ false → has_pattern (merged first second) ≡ false
merged-plain first second plain others =
    rw (label-plain first plain, joined-plain (first_kids first) (first_kids second) (kids-plain first plain) (kids-plain second others)) refl

-- ---- a part of a tree

plain-either : (b : Bool) (f g : Forest) → IsPlain f → IsPlain g → IsPlain (if b then f else g)
plain-either true f g first second = first
plain-either false f g first second = second

find-plain : (f : Forest) (n : ℕ) → IsPlain f → IsPlain (find f n)
find-plain Nil n plain = refl
find-plain (Node l kids rest) zero plain = plain
find-plain (Node l kids rest) (suc n) plain =
    let own = or-parts (is_pattern l.kind) (has_pattern kids || has_pattern rest) plain in
    let inner = or-parts (has_pattern kids) (has_pattern rest) own.1 in
    plain-either (nat_lt n (size kids)) (find kids n) (find rest (n - size kids)) (find-plain kids n inner.0) (find-plain rest (n - size kids) inner.1)

alone-plain : (l : Label) (kids : Forest) → is_pattern l.kind ≡ false → IsPlain kids → IsPlain (Node (unkeyed l) kids Nil)
alone-plain l kids own inner = rw (own, inner) refl

pub part-plain : (tree : Forest) (n : ℕ) → has_pattern tree ≡ false → has_pattern (tree_at tree n) ≡ false
part-plain tree n plain =
    let found = find-plain tree n plain in
    alone-plain (first_label (find tree n)) (first_kids (find tree n)) (label-plain (find tree n) found) (kids-plain (find tree n) found)
