use Rattle.std.proofs.Common.{◌+◌, ◌≡◌, false, true, drop, sym}
use Rattle.evidence_rules.specs.Follows.{is_stop}
use Rattle.rule_meaning.specs.Verdicts.{conjunction}
use Rattle.evidence_checker.proofs.VerdictsSaid.{LeftDisjs, SaysDisj, disjs-next, disjs-last, conjunction-first, conjunction-one, conjunction-two, folded-first, folded-last, folded-next, folded-stop, folded-uncited, folded-unsaid, no-items}
use Rattle.evidence_checker.proofs.verdicts.conjunction_said.Goals as goal

pub loop-disj-init : goal.loop-disj-init
loop-disj-init c = λ k. folded-first conjunction (LeftDisjs k c.args.lines.now c.args.frame c.args.stop c.args.disjs.now c.args.cites.now) conjunction-first

pub returns-in_err-cite : goal.returns-in_err-cite
returns-in_err-cite c = λ k.
    let ls = c.args.lines.now in
    let whole = LeftDisjs k ls c.args.frame c.args.stop c.args.disjs.now c.args.cites.now in
    let rest = LeftDisjs k ls c.args.frame c.args.stop (drop c.loop-disj.disj-index c.args.disjs.now) in
    let says = (SaysDisj k ls c.args.frame c.args.stop c.disj-item.result.site) in
    let next = LeftDisjs k ls c.args.frame c.args.stop (drop (c.loop-disj.disj-index + 1) c.args.disjs.now) in
    let steps = disjs-next k ls c.args.frame c.args.stop c.args.disjs.now c.loop-disj.disj-index c.disj-item.result c.loop-disj-test.true c.disj-item.is in
    rw c.from_residual.ensures
    (folded-uncited conjunction whole rest c.loop-disj.left.now c.loop-disj.verdict (c.loop-disj.invariant k) c.args.stop says next steps (no-items c.loop-disj.left.now c.in_err-cite.ensures.cases))

pub returns-in_err-said : goal.returns-in_err-said
returns-in_err-said c = λ k.
    let ls = c.args.lines.now in
    let whole = LeftDisjs k ls c.args.frame c.args.stop c.args.disjs.now c.args.cites.now in
    let rest = LeftDisjs k ls c.args.frame c.args.stop (drop c.loop-disj.disj-index c.args.disjs.now) in
    let says = (SaysDisj k ls c.args.frame c.args.stop c.disj-item.result.site) in
    let next = LeftDisjs k ls c.args.frame c.args.stop (drop (c.loop-disj.disj-index + 1) c.args.disjs.now) in
    let steps = disjs-next k ls c.args.frame c.args.stop c.args.disjs.now c.loop-disj.disj-index c.disj-item.result c.loop-disj-test.true c.disj-item.is in
    rw c.from_residual-in_err-said.ensures
    (folded-unsaid conjunction whole rest c.loop-disj.left.now c.loop-disj.verdict (c.loop-disj.invariant k) c.args.stop says next steps c.in_ok-cite.cite.now c.in_ok-cite.others.now c.in_ok-cite.ensures.cases.0
    c.in_err-said.ensures)

pub returns-then-is_stop : goal.returns-then-is_stop
returns-then-is_stop c = λ k.
    let ls = c.args.lines.now in
    let whole = LeftDisjs k ls c.args.frame c.args.stop c.args.disjs.now c.args.cites.now in
    let rest = LeftDisjs k ls c.args.frame c.args.stop (drop c.loop-disj.disj-index c.args.disjs.now) in
    let says = (SaysDisj k ls c.args.frame c.args.stop c.disj-item.result.site) in
    let next = LeftDisjs k ls c.args.frame c.args.stop (drop (c.loop-disj.disj-index + 1) c.args.disjs.now) in
    let steps = disjs-next k ls c.args.frame c.args.stop c.args.disjs.now c.loop-disj.disj-index c.disj-item.result c.loop-disj-test.true c.disj-item.is in
    let stops : is_stop c.args.stop c.in_ok-said.said ≡ true = sym c.if-is_stop.ensures in
    folded-stop conjunction whole rest c.loop-disj.left.now c.loop-disj.verdict (c.loop-disj.invariant k) c.args.stop says next steps c.in_ok-cite.cite.now c.in_ok-cite.others.now c.in_ok-cite.ensures.cases.0
    c.in_ok-said.said c.both-verdict.result c.in_ok-said.ensures c.both-verdict.ensures stops c.at_end.result c.at_end.ensures

pub loop-disj-preserved : goal.loop-disj-preserved
loop-disj-preserved c = λ k.
    let ls = c.args.lines.now in
    let whole = LeftDisjs k ls c.args.frame c.args.stop c.args.disjs.now c.args.cites.now in
    let rest = LeftDisjs k ls c.args.frame c.args.stop (drop c.loop-disj.disj-index c.args.disjs.now) in
    let says = (SaysDisj k ls c.args.frame c.args.stop c.disj-item.result.site) in
    let next = LeftDisjs k ls c.args.frame c.args.stop (drop (c.loop-disj.disj-index + 1) c.args.disjs.now) in
    let steps = disjs-next k ls c.args.frame c.args.stop c.args.disjs.now c.loop-disj.disj-index c.disj-item.result c.loop-disj-test.true c.disj-item.is in
    let goes : is_stop c.args.stop c.in_ok-said.said ≡ false = sym c.if-is_stop.ensures in
    folded-next conjunction whole rest c.loop-disj.left.now c.loop-disj.verdict (c.loop-disj.invariant k) c.args.stop says next steps c.in_ok-cite.cite.now c.in_ok-cite.others.now c.in_ok-cite.ensures.cases.0
    c.in_ok-said.said c.both-verdict.result c.in_ok-said.ensures c.both-verdict.ensures goes conjunction-two

pub returns : goal.returns
returns c = λ k.
    let ls = c.args.lines.now in
    let whole = LeftDisjs k ls c.args.frame c.args.stop c.args.disjs.now c.args.cites.now in
    let rest = LeftDisjs k ls c.args.frame c.args.stop (drop c.loop-disj.disj-index c.args.disjs.now) in
    folded-last conjunction whole rest c.loop-disj.left.now c.loop-disj.verdict (c.loop-disj.invariant k)
    (disjs-last k ls c.args.frame c.args.stop c.args.disjs.now c.loop-disj.disj-index c.loop-disj-test.false) conjunction-one c.at_end-2.result c.at_end-2.ensures
