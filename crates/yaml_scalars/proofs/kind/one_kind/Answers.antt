use Rattle.yaml_scalars.proofs.OneKind.{one_kind}
use Rattle.yaml_scalars.proofs.kind.one_kind.Goals as goal

pub returns : goal.returns
returns c = one_kind c.args.text.now
