-- Which texts take memory.
use Rattle.std.specs.Prelude.{ℕ, ◌≡◌, List, None}
use Rattle.yaml_grammar.specs.Yaml.{IsStart, start_sign}

-- a document begins: no sign stands in front of it, and nothing on a line `---` that does
abbrev pub BeginsDocument : List ℕ → Type 0
BeginsDocument text = (start_sign text ≡ None) × ((i : ℕ) × IsStart text i)
