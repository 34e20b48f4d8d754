-- The texts in which the report tells places.
use Rattle.std.specs.Prelude.{ℕ, List, ◌++◌, Option, Some, None, codes, nat_lt, if◌then◌else◌}
use Rattle.doc_values.specs.Places.{label_at}
use Rattle.doc_values.specs.Tree.{Forest}
use Rattle.report_text.specs.Spelling.{place_text}

-- the text of the parameters, and the number of the first node of the data tree that stands in it: those before it stand in the template
pub record Parameters : Type 0 where
  pub text : List ℕ
  pub first : ℕ

-- the text of the rules, and those of which the data tree was read: the template, and behind it the parameters if there are some
pub record Texts : Type 0 where
  pub rules : List ℕ
  pub template : List ℕ
  pub params : Option Parameters

-- the place of a byte offset in the text in which a node of the data tree stands: `line:column` in the template, and `params:line:column` in the parameters
abbrev pub place_of_node : (template : List ℕ) → Option Parameters → (node at : ℕ) → List ℕ
place_of_node template None node at = place_text template at
place_of_node template (Some params) node at = if nat_lt node params.first then place_text template at else codes "params:" ++ place_text params.text at

-- the place of a node of the data tree
abbrev pub data_place : Texts → (tree : Forest) → ℕ → List ℕ
data_place texts tree node = place_of_node texts.template texts.params node (label_at tree node).at
