use Rattle.std.proofs.Common.{◌∙◌, ◌++◌, List, ap, map}
use Rattle.std.proofs.lemmas.List.{take_all}
use Rattle.guard_syntax.specs.declared.row.Row.{Row}
use Rattle.evidence_lines.specs.code.RowsSeen.{node_of}
use Rattle.evidence_lines.proofs.NodeRows.{nodes-more}
use Rattle.evidence_lines.proofs.node_rows.push_nodes.Goals as goal

pub loop-row-preserved : goal.loop-row-preserved
loop-row-preserved c =
    rw (c.in_ok-push.ensures.items, c.node_of.ensures) (nodes-more c.args.into.now.items c.loop-row.into.items c.args.rows.now c.loop-row.row-index _ c.loop-row-test.true c.loop-row.invariant)

pub returns-clause-added : goal.returns-clause-added
returns-clause-added c =
    c.loop-row.invariant ∙ ap (λ (rows : List Row). c.args.into.now.items ++ map node_of rows) (take_all c.loop-row.row-index c.args.rows.now c.loop-row-test.false)
