use Rattle.std.proofs.Common.{◌≡◌, ◌-◌, ◌<◌, ℕ, suc, List, length, subst, sym, ap, ◌∙◌, arith}
use Rattle.doc_values.specs.Tree.{IsTree, size}
use Rattle.doc_values.specs.Merge.{merged}
use Rattle.doc_values.specs.code.Rows.{tree_of}
use Rattle.doc_values.specs.code.Entries.{rows_in}
use Rattle.key_names.specs.code.Names.{Joins, texts_of}
use Rattle.doc_values.proofs.Answering.{ix_size}
use Rattle.doc_values.proofs.Finished.{ok_other}
use Rattle.doc_values.proofs.Roots.{some_size}
use Rattle.doc_values.proofs.Merging.{fits_behind, joined_finished}
use Rattle.doc_values.proofs.doc.Doc.joined.Goals as goal

pub move_behind-requires-clause-some : goal.move_behind-requires-clause-some
move_behind-requires-clause-some c =
    let d = c.self.inside in
    let t : IsTree c.args.self = subst IsTree c.self.view_is c.self.invariant.tree in
    subst (λ n. 0 < n) (sym (ix_size d.nodes.items d.starts.items d.slots.items d.by_name.items d.names c.args.self c.self.invariant c.self.view_is)) (some_size c.args.self t)

pub move_behind-requires-clause-fits : goal.move_behind-requires-clause-fits
move_behind-requires-clause-fits c =
    let d = c.self.inside in
    let o = c.other.inside in
    let t : IsTree c.args.self = subst IsTree c.self.view_is c.self.invariant.tree in
    let long = ix_size d.nodes.items d.starts.items d.slots.items d.by_name.items d.names c.args.self c.self.invariant c.self.view_is in
    let some = some_size c.args.self t in
    let nodes : size c.args.self ≡ suc (length d.nodes.items - 1) = omega arith in
    fits_behind o.nodes.items o.starts.items o.slots.items o.by_name.items o.names c.args.other c.args.self c.deref.result.now (length d.nodes.items - 1) c.count_in-entries.result c.other.invariant c.other.view_is (ap (λ (ns : List ℕ). length ns) c.deref.ensures.value ∙ c.in_ok-numbers.ensures.counted) t nodes c.count_in-entries.ensures c.requires.small

pub reindexed-requires : goal.reindexed-requires
reindexed-requires c =
    let d = c.self.inside in
    let o = c.other.inside in
    let joins = subst (Joins d.names o.names c.join.new.self) (sym c.deref.ensures.value) c.in_ok-numbers.ensures in
    (joined_finished d.nodes.items d.starts.items d.slots.items d.by_name.items d.names c.args.self o.nodes.items o.starts.items o.slots.items o.by_name.items o.names c.args.other c.join.new.self c.deref.result.now c.count_in-entries.result c.move_behind.new.nodes.items c.self.invariant c.self.view_is c.other.invariant c.other.view_is joins c.requires.may c.count_in-entries.ensures c.requires.small c.in_ok-move_behind.ensures).0

pub returns : goal.returns
returns c =
    let d = c.self.inside in
    let o = c.other.inside in
    let joins = subst (Joins d.names o.names c.join.new.self) (sym c.deref.ensures.value) c.in_ok-numbers.ensures in
    ok_other c.reindexed.result (tree_of (rows_in (texts_of c.join.new.self) c.move_behind.new.nodes.items)) (merged c.args.self c.args.other)
    (joined_finished d.nodes.items d.starts.items d.slots.items d.by_name.items d.names c.args.self o.nodes.items o.starts.items o.slots.items o.by_name.items o.names c.args.other c.join.new.self c.deref.result.now c.count_in-entries.result c.move_behind.new.nodes.items c.self.invariant c.self.view_is c.other.invariant c.other.view_is joins c.requires.may c.count_in-entries.ensures c.requires.small c.in_ok-move_behind.ensures).1
    c.reindexed.ensures
