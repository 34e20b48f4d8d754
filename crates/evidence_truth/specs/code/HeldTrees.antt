-- A store that holds what another does, and maybe more.
use Rattle.std.specs.Prelude.{ℕ, ◌≡◌, Some}
use Rattle.doc_values.specs.Tree.{Forest}
use Rattle.rule_meaning.specs.StoreModel.{StoreModel, made_at}

-- over the same template and file, each tree under the line and the row that it has in the other
pub record HoldsTrees (held known : StoreModel) : Type 0 where
  pub template : held.template ≡ known.template
  pub file : held.file ≡ known.file
  pub trees : (line row : ℕ) (tree : Forest) → made_at known.made line row ≡ Some tree → made_at held.made line row ≡ Some tree
