use Rattle.std.proofs.Common.{◌≤◌, length, string_bytes, arith}
use Rattle.rule_printer.proofs.LinesInTurn.{let-before, let-behind, no-let}
use Rattle.rule_printer.proofs.lets.push_lets_before.Goals as goal

pub loop-i-preserved : goal.loop-i-preserved
loop-i-preserved c = λ text others.
    let-before c.args.margin.now c.args.lets.now c.loop-i.i c.index-lets-i.result c.args.site (string_bytes c.loop-i.out) (string_bytes c.push_let.new.out) _ text others
    c.loop-i-test.true c.index-lets-i.is c.if-site-given.false c.in_ok-push_let.ensures (c.loop-i.invariant text others)

pub returns-then-site-given : goal.returns-then-site-given
returns-then-site-given c = λ text others.
    let-behind c.args.margin.now c.args.lets.now c.loop-i.i c.index-lets-i.result c.args.site (string_bytes c.loop-i.out) _ text others c.loop-i-test.true c.index-lets-i.is c.if-site-given.true (c.loop-i.invariant text others)

pub returns : goal.returns
returns c = λ text others.
    let same : length c.args.lets.now ≤ length c.args.lets.now = omega arith in
    no-let c.args.margin.now c.args.lets.now c.loop-i.i (length c.args.lets.now) c.args.site (string_bytes c.loop-i.out) _ text others c.loop-i-test.false same (c.loop-i.invariant text others)
