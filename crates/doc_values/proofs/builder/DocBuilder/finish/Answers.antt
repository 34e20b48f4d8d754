use Rattle.std.proofs.Common.{◌≡◌, List, length, sym, ap, ◌∙◌, subst, arith}
use Rattle.std.proofs.lemmas.Grind.{common_steps}
use Rattle.doc_values.specs.Tree.{Forest, size}
use Rattle.doc_values.specs.Unfinished.{Level, Unfinished}
use Rattle.doc_values.specs.code.Rows.{Row, tree_of}
use Rattle.doc_values.specs.code.Kept.{Steps}
use Rattle.doc_values.proofs.Among.{length-rows}
use Rattle.doc_values.proofs.Steps.{whole_rows}
use Rattle.doc_values.proofs.builder.DocBuilder.finish.Goals as goal

pub of-requires-clause-tree : goal.of-requires-clause-tree
of-requires-clause-tree c = grind (arith, common_steps)

pub returns-clause-tree : goal.returns-clause-tree
returns-clause-tree c = grind (arith, common_steps)

pub returns-clause-small : goal.returns-clause-small
returns-clause-small c =
    let b = c.self.inside in
    let k = c.self.invariant.kept in
    let top : b.seat.depth ≡ 0 = sym k.steps.depth ∙ ap (λ (u : Unfinished). length u.outer) c.self.view_is ∙ ap (λ (v : List Level). length v) c.requires.complete.0 in
    let whole = whole_rows b.arena.rows (subst (λ d. Steps d b.arena.rows) top k.steps) in
    let long = length-rows 0 0 0 0 (tree_of b.arena.rows) in
    let same = ap (λ (t : List Row). length t) whole in
    let of = ap (λ (f : Forest). size f) c.of.ensures in
    let small = k.small in
    omega arith
