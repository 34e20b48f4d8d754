use Rattle.std.proofs.Common.{◌∙◌, List, ap, length, replicate, ℕ}
use Rattle.name_table.proofs.DeepTables.{table-is, written}
use Rattle.name_table.proofs.deep.deepened.Goals as goal

pub returns : goal.returns
returns c =
    written c.in_ok-next.next.len c.of_file.new.table _ (c.of_file.ensures.long ∙ c.deref_mut.ensures.len)
    ∙ table-is c.args.file.now c.args.depths.now _ c.deref_mut.result.now c.of_file.new.table _ c.requires.sites
    (c.deref_mut.ensures.value ∙ c.in_ok-next.ensures.items_if_clones_equal (λ y h. h) ∙ ap (λ (l : List ℕ). replicate (length l) 0) c.as_slice.ensures) c.of_file.ensures
