use Rattle.std.proofs.Common.{◌∙◌}
use Rattle.rule_names.proofs.FileParts.{items-rules-rise, items-loose-rise, items-in-rules, items-in-loose, items-not-rules, items-not-loose}
use Rattle.rule_names.proofs.Lists.{rules-sorted, disjs-sorted}
use Rattle.rule_names.proofs.find.in_items.Goals as goal

pub last_site-requires : goal.last_site-requires
last_site-requires c = rw c.as_slice-rules.ensures.value (rules-sorted _ (items-rules-rise c.args.file.now.rules.items c.args.file.now.loose.items c.requires))

pub last_site-requires-2 : goal.last_site-requires-2
last_site-requires-2 c = rw c.as_slice-loose.ensures.value (disjs-sorted _ (items-loose-rise c.args.file.now.rules.items c.args.file.now.loose.items c.requires))

pub in_rules-requires : goal.in_rules-requires
in_rules-requires c = rw c.as_slice-rules.ensures.value (items-rules-rise c.args.file.now.rules.items c.args.file.now.loose.items c.requires)

pub in_disjs-requires : goal.in_disjs-requires
in_disjs-requires c = rw c.as_slice-loose.ensures.value (items-loose-rise c.args.file.now.rules.items c.args.file.now.loose.items c.requires)

pub in_disjs-requires-else-gt : goal.in_disjs-requires-else-gt
in_disjs-requires-else-gt c = rw c.as_slice-loose.ensures.value (items-loose-rise c.args.file.now.rules.items c.args.file.now.loose.items c.requires)

pub in_rules-requires-in-None-in_disjs : goal.in_rules-requires-in-None-in_disjs
in_rules-requires-in-None-in_disjs c = rw c.as_slice-rules.ensures.value (items-rules-rise c.args.file.now.rules.items c.args.file.now.loose.items c.requires)

pub returns-in-Some : goal.returns-in-Some
returns-in-Some c =
    items-in-rules c.args.file.now.rules.items c.args.file.now.loose.items c.args.site _ (rw c.as_slice-rules.ensures.value at c.in-Some.ensures)

pub returns-in-None : goal.returns-in-None
returns-in-None c =
    (rw c.as_slice-loose.ensures.value at c.in_disjs.ensures)
    ∙ items-not-rules c.args.file.now.rules.items c.args.file.now.loose.items c.args.site (rw c.as_slice-rules.ensures.value at c.in-None.ensures)

pub returns-in-Some-in_disjs : goal.returns-in-Some-in_disjs
returns-in-Some-in_disjs c =
    items-in-loose c.args.file.now.rules.items c.args.file.now.loose.items c.args.site _ c.requires (rw c.as_slice-loose.ensures.value at c.in-Some-in_disjs.ensures)

pub returns-in-None-in_disjs : goal.returns-in-None-in_disjs
returns-in-None-in_disjs c =
    (rw c.as_slice-rules.ensures.value at c.in_rules-in-None-in_disjs.ensures)
    ∙ items-not-loose c.args.file.now.rules.items c.args.file.now.loose.items c.args.site (rw c.as_slice-loose.ensures.value at c.in-None-in_disjs.ensures)
