use Rattle.std.proofs.Common.{◌∷◌, arith}
use Rattle.yaml_laws.proofs.KeyGrown.{key_long}
use Rattle.yaml_laws.proofs.scalars.key_lengthened.Goals as goal

pub returns : goal.returns
returns c = λ size one last h. let k = key_long c.args.setting one c.args.text.now c.args.at c.requires size last h in let z = k.8 in (k.0 ∷ k.1, k.2, k.5, k.7, omega (arith, z))
