use Rattle.std.specs.Cow.{cow_str_bytes}
use Rattle.yaml_scalars.proofs.KindCases.{key_kind, plain_kind_is}
use Rattle.yaml_scalars.proofs.plain.scalar.Goals.{then-setting, else-setting}
use Rattle.yaml_scalars.proofs.plain.scalar.Goals as goal

pub returns-clause-kind : goal.returns-clause-kind
returns-clause-kind c = elim c.if-setting.branch [ then-setting w ↦ key_kind c.args.setting.one_line (cow_str_bytes c.args.text) c.if-setting.kind w.if-setting.true w.kind-is | else-setting w ↦ plain_kind_is c.args.setting.one_line (cow_str_bytes c.args.text) w.as_str.result.now c.if-setting.kind w.plain_kind-kind.result w.if-setting.false w.as_str.ensures.value w.plain_kind-kind.ensures w.kind-is ]
