use Rattle.yaml_laws.proofs.ColonKept.{colon_kept}
use Rattle.yaml_laws.proofs.scalars.colon_kept.Goals as goal

pub returns : goal.returns
returns c = λ more scalar longer end size last q b shown h g. colon_kept c.args.setting c.args.text.now c.args.at scalar end more longer size c.requires q b last shown h g
