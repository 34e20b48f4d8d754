use Rattle.std.proofs.Common.{Bool, true, refl, ap}
use mathlib.Core.Bool.{beq}
use Rattle.rule_meaning.specs.Verdicts.{is_found}
use Rattle.evidence_rows.proofs.RowsTested.{row-decides, row-leaves, rows-leave}
use Rattle.evidence_rows.proofs.test_lines.one_is_found.Goals as goal

pub loop-row-init : goal.loop-row-init
loop-row-init c = refl

pub returns-then-is_found : goal.returns-then-is_found
returns-then-is_found c =
    row-decides is_found true c.args.rows.now c.loop-row.row-index c.loop-row.invariant c.is_found.result _ c.loop-row-test.true c.is_found.ensures (ap (λ (b : Bool). beq b true) c.if-is_found.true)

pub loop-row-preserved : goal.loop-row-preserved
loop-row-preserved c =
    row-leaves is_found true c.args.rows.now c.loop-row.row-index c.loop-row.invariant c.is_found.result _ c.loop-row-test.true c.is_found.ensures (ap (λ (b : Bool). beq b true) c.if-is_found.false)

pub returns : goal.returns
returns c = rows-leave is_found true c.args.rows.now c.loop-row.row-index c.loop-row.invariant c.loop-row-test.false
