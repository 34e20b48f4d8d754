-- What a refusal says of a text.
use Rattle.std.specs.Prelude.{ℕ, ◌≡◌, List}
use Rattle.doc_values.specs.Tree.{Forest}
use Rattle.yaml_grammar.specs.declared.refusal.YamlRefusal.{YamlRefusal}
use Rattle.yaml_grammar.specs.declared.refusal.YamlRefusal.TheVariants as refusal
use Rattle.yaml_grammar.specs.Places.{IsSyntax}
use Rattle.yaml_grammar.specs.Signs.{Sign, Tab, Anchor, Tag, Directive, ManyDocuments, DuplicateKey, TooDeep}
use Rattle.yaml_grammar.specs.Yaml.{IsYaml, Counts}

-- the text has no tree, and this sign counts, the only one
abbrev pub IsSignOf : List ℕ → Sign → Type 0
IsSignOf text s = Counts text s × ((z : Sign) → Counts text z → z ≡ s) × ((tree : Forest) → IsYaml text tree → ⊥)

-- no sign counts, and the text has no tree
abbrev pub IsUnread : List ℕ → Type 0
IsUnread text = ((s : Sign) → Counts text s → ⊥) × ((tree : Forest) → IsYaml text tree → ⊥)

-- a place of Syntax is any at which the text is no document; want of memory says nothing
abbrev pub Refuses : List ℕ → YamlRefusal → Type 0
Refuses text (refusal.Syntax at) = IsUnread text × IsSyntax text at
Refuses text (refusal.Tab at) = IsSignOf text (Tab at)
Refuses text (refusal.Anchor at) = IsSignOf text (Anchor at)
Refuses text (refusal.Tag at) = IsSignOf text (Tag at)
Refuses text (refusal.Directive at) = IsSignOf text (Directive at)
Refuses text (refusal.ManyDocuments at) = IsSignOf text (ManyDocuments at)
Refuses text (refusal.DuplicateKey at) = IsSignOf text (DuplicateKey at)
Refuses text (refusal.TooDeep at) = IsSignOf text (TooDeep at)
Refuses text refusal.NoMemory = Unit {0}

-- the text stands for the tree, the only one, and no sign in it counts
abbrev pub Reads : List ℕ → Forest → Type 0
Reads text tree = IsYaml text tree × ((other : Forest) → IsYaml text other → other ≡ tree) × ((s : Sign) → Counts text s → ⊥)
