use Rattle.std.proofs.Common.{◌+◌, sym, ap, ◌∙◌}
use Rattle.doc_values.specs.Tree.{Forest}
use Rattle.doc_values.specs.Places.{kids_at}
use Rattle.doc_values.specs.Merge.{is_shared}
use Rattle.doc_values.proofs.Sharing.{lacks_key, keeps_key}
use Rattle.doc_values.proofs.doc.merge.is_shared.Goals as goal

pub returns-in-None-get : goal.returns-in-None-get
returns-in-None-get c =
    let kids : Forest = kids_at c.args.others.doc.now c.args.others.id in
    sym (ap (is_shared kids) c.in-Some.ensures ∙ lacks_key kids (c.args.others.id + 1) c.in-Some.key.now c.in-None-get.ensures)

pub returns-in-Some-get : goal.returns-in-Some-get
returns-in-Some-get c =
    let kids : Forest = kids_at c.args.others.doc.now c.args.others.id in
    sym (ap (is_shared kids) c.in-Some.ensures ∙ keeps_key kids (c.args.others.id + 1) c.in-Some-get.field-0.id c.in-Some.key.now c.in-Some-get.ensures.1)
