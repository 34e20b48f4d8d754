use Rattle.std.proofs.Common.{◌≡◌, ◌∙◌, arith, true, false, Option, ap, sym}
use Rattle.guard_syntax.specs.declared.row.Verdict.{Verdict}
use Rattle.evidence_rules.specs.Follows.{block_stop, is_stop}
use Rattle.evidence_checker.proofs.OnRows.{back-first, back-row, decide-end, decide-stop, never-row, on-first, on-row}
use Rattle.evidence_checker.proofs.bodies.body_follows_on.Goals as goal

pub returns-in_default-judged_row : goal.returns-in_default-judged_row
returns-in_default-judged_row c =
    λ known b site_is f. never-row known c.args.lines.now c.args.body.frame c.args.body.any c.args.body.version b c.args.rows.now c.loop-index.index c.in-Some.row (sym c.in-Some.ensures)
    c.loop-index.left.now c.loop-index.before c.args.verdict (c.in_default-judged_row.ensures known b site_is) (c.loop-index.invariant.on known b site_is f)

pub loop-index-init : goal.loop-index-init
loop-index-init c = record {
  on = λ known b site_is. on-first known c.args.lines.now c.args.body.frame c.args.body.any c.args.body.version b c.args.rows.now c.args.cites.now c.args.verdict;
  back = λ known b site_is. back-first known c.args.lines.now c.args.body.frame c.args.body.any c.args.body.version b c.args.rows.now c.args.cites.now c.args.verdict;
}

pub returns-then-is_stop : goal.returns-then-is_stop
returns-then-is_stop c =
    let w = c.in-Some-judged_row.judged.verdict in
    let stops : is_stop (block_stop c.args.body.any c.args.body.version) w ≡ true =
    ap (λ (s : Option Verdict). is_stop s w) (sym c.block_stop-stop.ensures) ∙ sym c.if-is_stop.ensures in
    λ known b site_is. decide-stop known c.args.lines.now c.args.body.frame c.args.body.any c.args.body.version b c.args.rows.now c.loop-index.index c.in-Some.row (sym c.in-Some.ensures)
    c.loop-index.left.now c.loop-index.before c.args.verdict w c.joined-before.result c.in-Some-judged_row.judged.left.now (c.in-Some-judged_row.ensures known b site_is) c.joined-before.ensures
    c.args.rows.now c.args.cites.now c.ends_with.result stops (c.loop-index.invariant.on known b site_is) (c.loop-index.invariant.back known b site_is) c.ends_with.ensures

pub loop-index-preserved : goal.loop-index-preserved
loop-index-preserved c =
    let w = c.in-Some-judged_row.judged.verdict in
    let goes : is_stop (block_stop c.args.body.any c.args.body.version) w ≡ false =
    ap (λ (s : Option Verdict). is_stop s w) (sym c.block_stop-stop.ensures) ∙ sym c.if-is_stop.ensures in
    record {
      on = λ known b site_is f. on-row known c.args.lines.now c.args.body.frame c.args.body.any c.args.body.version b c.args.rows.now c.loop-index.index c.in-Some.row (sym c.in-Some.ensures)
          c.loop-index.left.now c.loop-index.before c.args.verdict w c.joined-before.result c.in-Some-judged_row.judged.left.now (c.in-Some-judged_row.ensures known b site_is) c.joined-before.ensures goes
          (c.loop-index.invariant.on known b site_is f);
      back = λ known b site_is f. c.loop-index.invariant.back known b site_is (back-row known c.args.lines.now c.args.body.frame c.args.body.any c.args.body.version b
          c.args.rows.now c.loop-index.index c.in-Some.row (sym c.in-Some.ensures) c.loop-index.left.now c.loop-index.before c.args.verdict w c.joined-before.result c.in-Some-judged_row.judged.left.now (c.in-Some-judged_row.ensures known b site_is)
          c.joined-before.ensures goes f);
    }

pub returns : goal.returns
returns c =
    λ known b site_is. decide-end known c.args.lines.now c.args.body.frame c.args.body.any c.args.body.version b c.args.rows.now c.args.rows.now c.loop-index.index
    c.loop-index.left.now c.args.cites.now c.loop-index.before c.args.verdict c.ends_with-2.result (omega (arith, c.loop-index-test.false, c.len-index-end.ensures)) (c.loop-index.invariant.on known b site_is) (c.loop-index.invariant.back known b site_is) c.ends_with-2.ensures
