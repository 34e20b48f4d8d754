-- The paths of the nodes of the data tree.
use Rattle.std.proofs.Common.{◌≡◌, ◌<◌, ◌++◌, ◌∷◌, [], ℕ, List, Some, None, codes, refl, sym, ap, ◌∙◌}
use Rattle.doc_values.specs.Tree.{Forest, IsTree, size}
use Rattle.doc_values.specs.Places.{spot_of, label_at}
use Rattle.report_text.specs.EntryLines.{data_path}
use Rattle.report_text.specs.Paths.{Down, step_to, path_of, path_text}
use Rattle.report_text.proofs.Downwards.{IsBelow, below-parent, root-path}

steps-path : (steps : List Down) (d : Down) → data_path (steps ++ d ∷ []) ≡ path_text (steps ++ d ∷ [])
steps-path [] d = refl
steps-path (step ∷ steps) d = refl

-- the path of a node that is not the root is the same in the data tree
pub below-path : (f : Forest) (id p : ℕ) → IsTree f → id < size f → (spot_of f id).parent ≡ Some p → data_path (path_of f id) ≡ path_text (path_of f id)
below-path f id p tree within is =
    let below : IsBelow f id p = below-parent f id p tree within is in
    let d = step_to (spot_of f id).index (label_at f id).key in
    ap data_path below.path ∙ steps-path (path_of f p) d ∙ sym (ap path_text below.path)

pub root-text : (f : Forest) (id : ℕ) → IsTree f → id < size f → (spot_of f id).parent ≡ None → data_path (path_of f id) ≡ codes "."
root-text f id tree within is = ap data_path (root-path f id tree within is)
