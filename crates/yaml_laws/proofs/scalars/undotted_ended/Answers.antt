use Rattle.std.proofs.Common.{◌∷◌, ◌++◌, length}
use Rattle.yaml_laws.proofs.Dotless.{undotted_grown}
use Rattle.yaml_laws.proofs.ScalarEnds.{scalar_grown}
use Rattle.yaml_laws.proofs.scalars.undotted_ended.Goals as goal

pub returns : goal.returns
returns c = λ n last u h.
    let s = c.args.setting in
    let text = c.args.text.now in
    let at = c.args.at in
    let g = scalar_grown s text at c.requires n last h in
    (g.0 ∷ g.1, g.2, g.5, g.6, undotted_grown s text at (g.0 ∷ g.1) g.2 (length (text ++ (g.0 ∷ g.1))) c.requires n u g.8 g.6)
