use Rattle.std.proofs.Common.{◌≡◌, ◌-◌, ap, ◌∙◌}
use Rattle.std.specs.Prelude.{slice_index}
use Rattle.std.proofs.lemmas.List.{get_or_default}
use Rattle.doc_values.specs.code.Entries.{Entry, under_at}
use Rattle.doc_values.proofs.Links.{read_under, read_within, step_along}
use Rattle.doc_values.proofs.uses.Uses.link.Goals as goal

next_link : (c : goal.After-row_known-in-loop-behind-2-1) → c.index-behind-in-loop-behind.result.now ≡ slice_index c.args.self.now.links.items (c.loop-behind.behind - 1)
next_link c =
    let l = c.loop-behind in
    let links = c.args.self.now.links.items in
    c.index-behind-in-loop-behind.ensures ∙ get_or_default links (l.behind - 1) c.index-behind-in-loop-behind.result.now 0 (read_within c.args.nodes.now links l.behind c.args.under c.requires.as_many l.invariant.0.0 c.loop-behind-test.true)

pub loop-behind-preserved : goal.loop-behind-preserved
loop-behind-preserved c =
    let l = c.loop-behind in
    let under : c.node.inside.seat.under ≡ under_at c.args.nodes.now (l.behind - 1) = ap (λ (e : Entry). e.under) c.node.view_is ∙ read_under c.args.nodes.now c.index-nodes-row.result l.behind c.args.under l.invariant.0.0 c.loop-behind-test.true c.index-nodes-row.is in
    (step_along c.args.nodes.now c.args.self.now.links.items c.args.name l.behind c.index-behind-in-loop-behind.result.now c.args.under c.node.inside.seat.under c.requires.links l.invariant.0 l.invariant.1 c.loop-behind-test.true c.requires.open under c.if-node-under.false (next_link c)).1

pub loop-behind-smaller : goal.loop-behind-smaller
loop-behind-smaller c =
    let l = c.loop-behind in
    let under : c.node.inside.seat.under ≡ under_at c.args.nodes.now (l.behind - 1) = ap (λ (e : Entry). e.under) c.node.view_is ∙ read_under c.args.nodes.now c.index-nodes-row.result l.behind c.args.under l.invariant.0.0 c.loop-behind-test.true c.index-nodes-row.is in
    (step_along c.args.nodes.now c.args.self.now.links.items c.args.name l.behind c.index-behind-in-loop-behind.result.now c.args.under c.node.inside.seat.under c.requires.links l.invariant.0 l.invariant.1 c.loop-behind-test.true c.requires.open under c.if-node-under.false (next_link c)).0
