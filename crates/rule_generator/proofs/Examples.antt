-- Worked examples of generated rules: each holds by computing.
use Rattle.std.proofs.Common.{◌≡◌, ℕ, pos, List, [], Option, Some, None, codes, refl}
use Rattle.std.specs.Fmt.{digits}
use Rattle.doc_values.specs.Tree.{Forest, Nil, Node}
use Rattle.doc_values.specs.declared.kind.Kind.{Kind}
use Rattle.doc_values.specs.declared.kind.Kind.TheVariants as kind
use Rattle.rule_generator.specs.GeneratedRules.{generated}

-- an entry of a map in front of others, or a value alone
abbrev node : Option (List ℕ) → Kind → List ℕ → Forest → Forest → Forest
node key k text kids rest = Node (record { kind = k; text = text; key = key; at = 0 }) kids rest

abbrev leaf : List ℕ → Kind → List ℕ → Forest → Forest
leaf key k text rest = node (Some key) k text Nil rest

abbrev map-of : List ℕ → Forest → Forest → Forest
map-of key kids rest = node (Some key) kind.Map [] kids rest

abbrev tree-of : Forest → Forest
tree-of kids = node None kind.Map [] kids Nil

-- a resource with a type
abbrev resource : List ℕ → List ℕ → Forest → Forest → Forest
resource key type properties rest = map-of key (leaf (codes "Type") kind.Text type (map-of (codes "Properties") properties Nil)) rest

-- a number as a whole number and as a decimal are two values; a key that one resource lacks is not kept
numbers : generated (tree-of (map-of (codes "Resources")
    (resource (codes "A") (codes "T") (leaf (codes "n") (kind.Whole (pos 1)) [] (leaf (codes "s") kind.Text (codes "a") Nil))
    (resource (codes "B") (codes "T") (leaf (codes "n") (kind.Fraction (record { units = pos 1; scale = 0 })) [] Nil) Nil)) Nil))
    ≡ codes "let t1 = Resources.*[ Type == \"T\" ]\nrule t1 when %t1 !empty {\n  %t1.Properties.\"n\" IN [1, 1.0]\n}\n"
unfolding digits
numbers = refl

-- a template without resources
nothing : generated (tree-of Nil) ≡ []
nothing = refl

-- a type without kept keys is passed over, a quote is escaped, and values come once
quotes : generated (tree-of (map-of (codes "Resources")
    (resource (codes "A") (codes "T") Nil
    (resource (codes "B") (codes "a\"b") (leaf (codes "k") kind.Null [] Nil)
    (resource (codes "C") (codes "a\"b") (leaf (codes "k") kind.Null [] Nil) Nil))) Nil))
    ≡ codes "let t1 = Resources.*[ Type == \"a\\\"b\" ]\nrule t1 when %t1 !empty {\n  %t1.Properties.\"k\" IN [null]\n}\n"
unfolding digits
quotes = refl
