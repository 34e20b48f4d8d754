use Rattle.std.proofs.Common.{◌++◌, ◌<◌, length, arith}
use Rattle.rule_meaning.specs.Filters.{kept}
use Rattle.query_steps.proofs.JudgedRows.{judged-all, judged-more}
use Rattle.query_steps.proofs.filters.push_judged.Goals as goal

pub loop-index-preserved : goal.loop-index-preserved
loop-index-preserved c =
    let known : c.loop-index.index < length c.args.verdicts.now = omega (arith, c.loop-index-test.true, c.requires) in
    judged-more c.args.tried.now c.args.verdicts.now c.loop-index.index _ _ c.loop-index.rows.items c.push_if.new.into.items (c.args.rows.now.items ++ kept c.args.tried.now c.args.verdicts.now)
    c.is_pass.result c.loop-index-test.true known c.is_pass.ensures c.loop-index.invariant c.in_ok-push_if.ensures

pub returns : goal.returns
returns c = judged-all c.args.tried.now c.args.verdicts.now c.loop-index.index c.loop-index.rows.items _ (omega (arith, c.loop-index-test.false)) c.loop-index.invariant
