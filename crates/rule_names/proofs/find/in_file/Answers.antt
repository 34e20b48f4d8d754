use Rattle.std.proofs.Common.{◌∙◌}
use Rattle.rule_names.proofs.FileParts.{items-rules-rise, items-loose-rise, file-lets-rise, file-items-rise, file-in-lets, file-in-items, file-not-lets, file-not-items}
use Rattle.rule_names.proofs.Lists.{lets-sorted, rules-sorted, disjs-sorted}
use Rattle.rule_names.proofs.find.in_file.Goals as goal

pub last_site-requires-3 : goal.last_site-requires-3
last_site-requires-3 c =
    let f = c.args.file.now in
    rw c.as_slice-lets.ensures.value (lets-sorted _ (file-lets-rise f.rules.items f.loose.items f.lets.items c.requires))

pub last_site-requires : goal.last_site-requires
last_site-requires c =
    let f = c.args.file.now in
    rw c.deref.ensures.value (rules-sorted _ (items-rules-rise f.rules.items f.loose.items (file-items-rise f.rules.items f.loose.items f.lets.items c.requires)))

pub last_site-requires-2 : goal.last_site-requires-2
last_site-requires-2 c =
    let f = c.args.file.now in
    rw c.deref-2.ensures.value (disjs-sorted _ (items-loose-rise f.rules.items f.loose.items (file-items-rise f.rules.items f.loose.items f.lets.items c.requires)))

pub in_lets-requires : goal.in_lets-requires
in_lets-requires c = let f = c.args.file.now in rw c.as_slice-lets.ensures.value (file-lets-rise f.rules.items f.loose.items f.lets.items c.requires)

pub in_items-requires : goal.in_items-requires
in_items-requires c = let f = c.args.file.now in file-items-rise f.rules.items f.loose.items f.lets.items c.requires

pub in_items-requires-else-gt : goal.in_items-requires-else-gt
in_items-requires-else-gt c = let f = c.args.file.now in file-items-rise f.rules.items f.loose.items f.lets.items c.requires

pub in_lets-requires-in-None-in_items : goal.in_lets-requires-in-None-in_items
in_lets-requires-in-None-in_items c = let f = c.args.file.now in rw c.as_slice-lets.ensures.value (file-lets-rise f.rules.items f.loose.items f.lets.items c.requires)

pub returns-in-Some : goal.returns-in-Some
returns-in-Some c =
    let f = c.args.file.now in
    file-in-lets f.rules.items f.loose.items f.lets.items c.args.site _ c.if-site-eq0.false (rw c.as_slice-lets.ensures.value at c.in-Some.ensures)

pub returns-in-None : goal.returns-in-None
returns-in-None c =
    let f = c.args.file.now in
    c.in_items.ensures ∙ file-not-lets f.rules.items f.loose.items f.lets.items c.args.site c.if-site-eq0.false (rw c.as_slice-lets.ensures.value at c.in-None.ensures)

pub returns-in-Some-in_items : goal.returns-in-Some-in_items
returns-in-Some-in_items c =
    let f = c.args.file.now in
    file-in-items f.rules.items f.loose.items f.lets.items c.args.site _ c.if-site-eq0.false c.requires c.in-Some-in_items.ensures

pub returns-in-None-in_items : goal.returns-in-None-in_items
returns-in-None-in_items c =
    let f = c.args.file.now in
    (rw c.as_slice-lets.ensures.value at c.in_lets-in-None-in_items.ensures)
    ∙ file-not-items f.rules.items f.loose.items f.lets.items c.args.site c.if-site-eq0.false c.in-None-in_items.ensures
