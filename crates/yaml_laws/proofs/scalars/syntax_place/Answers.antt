use Rattle.yaml_laws.proofs.SyntaxLaw.{syntax_of}
use Rattle.yaml_laws.proofs.scalars.syntax_place.Goals as goal

pub returns : goal.returns
returns c = λ place h. syntax_of c.args.setting c.args.text.now c.args.at place c.requires h
