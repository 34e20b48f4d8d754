use Rattle.std.proofs.Common.{string_bytes}
use Rattle.rule_printer.proofs.LinesInTurn.{let-line-next, let-line-end}
use Rattle.rule_printer.proofs.lets.push_lets.Goals as goal

pub loop-i-preserved : goal.loop-i-preserved
loop-i-preserved c =
    let-line-next c.args.margin.now c.args.lets.now c.loop-i.i c.index-lets-i.result (string_bytes c.loop-i.out) (string_bytes c.push_let.new.out) _ c.loop-i-test.true c.index-lets-i.is c.in_ok-push_let.ensures c.loop-i.invariant

pub returns : goal.returns
returns c = let-line-end c.args.margin.now c.args.lets.now c.loop-i.i (string_bytes c.loop-i.out) _ c.loop-i-test.false c.loop-i.invariant
