-- What a store knows where it keeps another literal.
use Rattle.std.proofs.Common.{◌≡◌, ap, ◌∙◌}
use Rattle.guard_syntax.specs.code.Seen.{see_file}
use Rattle.rule_meaning.specs.StoreModel.{StoreModel}
use Rattle.value_store.specs.code.Stores.{see_store}
use Rattle.value_store.specs.declared.store.Store.{Store}

pub same-store : (a b : Store) → a.doc.now ≡ b.doc.now → a.file.now ≡ b.file.now → a.made ≡ b.made → see_store a ≡ see_store b
same-store a b doc file made =
    ap (λ d. let k : StoreModel = record { template = d; file = see_file a.file.now.raw; made = a.made } in k) doc
    ∙ ap (λ f. let k : StoreModel = record { template = b.doc.now; file = see_file f.raw; made = a.made } in k) file
    ∙ ap (λ ms. let k : StoreModel = record { template = b.doc.now; file = see_file b.file.now.raw; made = ms } in k) made
