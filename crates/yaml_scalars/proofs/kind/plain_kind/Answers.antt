use Rattle.std.proofs.Common.{subst, sym}
use Rattle.yaml_scalars.specs.Kinds.{IsPlainKind}
use Rattle.yaml_scalars.proofs.Signs.{kind_is}
use Rattle.yaml_scalars.proofs.kind.plain_kind.Goals as goal

pub returns-in-Some-signed_number : goal.returns-in-Some-signed_number
returns-in-Some-signed_number c = subst (IsPlainKind c.args.text.now) (sym c.kind_of.ensures) (kind_is c.args.text.now c.in-Some-signed_number.number c.in-Some-signed_number.ensures)
