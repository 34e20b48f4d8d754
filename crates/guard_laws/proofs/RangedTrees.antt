-- Each number of a template is in range: of one of JSON by its definition, of one of YAML by the kinds of its values.
use Rattle.std.proofs.Common.{ℕ, List}
use Rattle.doc_values.specs.Tree.{Forest, Label, Node}
use Rattle.doc_values.specs.declared.kind.Kind.{Kind}
use Rattle.doc_values.specs.declared.kind.Kind.TheVariants as kind
use Rattle.json_reader.specs.Json.{AreInRange, IsInRange}
use Rattle.yaml_grammar.proofs.TreeInduction.{IsYamlKind, yaml-induction}
use Rattle.guard_ends.specs.Inputs.{IsTemplate, IsTreeOf}
use Rattle.guard_ends.specs.declared.format.Format.{Format}
use Rattle.guard_ends.specs.declared.format.Format.TheVariants as format

kind-ranged : (k : Kind) → IsYamlKind k → IsInRange k
kind-ranged kind.Null good = tt
kind-ranged (kind.Truth b) good = tt
kind-ranged (kind.Whole n) good = good
kind-ranged (kind.Fraction d) good = good
kind-ranged kind.Text good = tt
kind-ranged kind.List good = tt
kind-ranged kind.Map good = tt
kind-ranged kind.Pattern good = absurd good
kind-ranged (kind.Limits r) good = absurd good

node-ranged : (l : Label) (kids rest : Forest) → IsYamlKind l.kind → AreInRange kids → AreInRange rest → AreInRange (Node l kids rest)
node-ranged l kids rest good inner more = (kind-ranged l.kind good, inner, more)

tree-ranged : (f : Format) (text : List ℕ) (tree : Forest) → IsTreeOf f text tree → AreInRange tree
tree-ranged format.Json text tree read = read.in_range
tree-ranged format.Yaml text tree read = yaml-induction AreInRange tt node-ranged text tree read.0

pub template-ranged : (f : Format) (bytes : List ℕ) (tree : Forest) → IsTemplate f bytes tree → AreInRange tree
template-ranged f bytes tree whole = tree-ranged f bytes tree whole.read
