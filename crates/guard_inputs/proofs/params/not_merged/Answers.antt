use Rattle.guard_inputs.proofs.NotMerged.{first-no-map, key-shared, second-no-map}
use Rattle.guard_inputs.proofs.params.not_merged.Goals as goal

pub returns-in-FirstNotMap : goal.returns-in-FirstNotMap
returns-in-FirstNotMap c = λ first second bad. first-no-map c.args.template.now c.args.params.now first second c.args.refusal c.in-FirstNotMap.at c.data_at.result bad c.in-FirstNotMap.is c.data_at.ensures

pub returns-in-SecondNotMap : goal.returns-in-SecondNotMap
returns-in-SecondNotMap c = λ first second bad. second-no-map c.args.template.now c.args.params.now first second c.args.refusal c.in-SecondNotMap.at c.data_at-in-SecondNotMap.result bad c.in-SecondNotMap.is c.data_at-in-SecondNotMap.ensures

pub returns-in-SharedKey : goal.returns-in-SharedKey
returns-in-SharedKey c = λ first second bad. key-shared c.args.template.now c.args.params.now first second c.args.refusal c.in-SharedKey.at c.data_at-in-SharedKey.result bad c.in-SharedKey.is c.data_at-in-SharedKey.ensures
