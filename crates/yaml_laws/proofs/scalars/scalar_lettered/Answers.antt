use Rattle.std.proofs.Common.{[], ◌∷◌, ◌++◌, length, refl}
use Rattle.yaml_laws.proofs.Dotless.{undotted_grown}
use Rattle.yaml_laws.proofs.PlainLettered.{scalar_lettered}
use Rattle.yaml_laws.proofs.scalars.scalar_lettered.Goals as goal

pub returns : goal.returns
returns c = λ scalar end last q b shown h.
    let s = c.args.setting in
    let text = c.args.text.now in
    let at = c.args.at in
    let z = scalar_lettered s text at scalar end c.requires last q b shown h in
    (z.0, z.1, λ u. undotted_grown s text at (97 ∷ []) (z.0 ++ (97 ∷ [])) (length (text ++ (97 ∷ []))) c.requires b u refl z.1)
