use Rattle.std.proofs.Common.{◌+◌, ◌≡◌, false, true, drop, sym}
use Rattle.guard_syntax.specs.code.Seen.{see_part}
use Rattle.evidence_rules.specs.Follows.{is_stop}
use Rattle.rule_meaning.specs.Verdicts.{disjunction}
use Rattle.evidence_checker.proofs.VerdictsSaid.{LeftParts, SaysPart, parts-next, parts-last, disjunction-first, disjunction-one, disjunction-two, folded-first, folded-last, folded-next, folded-stop, folded-uncited, folded-unsaid, no-items}
use Rattle.evidence_checker.proofs.verdicts.disjunction_said.Goals as goal

pub loop-part-init : goal.loop-part-init
loop-part-init c = λ k. folded-first disjunction (LeftParts k c.args.lines.now c.args.frame c.args.stop c.args.parts.now c.args.cites.now) disjunction-first

pub returns-in_err-cite : goal.returns-in_err-cite
returns-in_err-cite c = λ k.
    let ls = c.args.lines.now in
    let whole = LeftParts k ls c.args.frame c.args.stop c.args.parts.now c.args.cites.now in
    let rest = LeftParts k ls c.args.frame c.args.stop (drop c.loop-part.part-index c.args.parts.now) in
    let says = (SaysPart k ls c.args.frame c.args.stop (see_part c.part-item.result)) in
    let next = LeftParts k ls c.args.frame c.args.stop (drop (c.loop-part.part-index + 1) c.args.parts.now) in
    let steps = parts-next k ls c.args.frame c.args.stop c.args.parts.now c.loop-part.part-index c.part-item.result c.loop-part-test.true c.part-item.is in
    rw c.from_residual.ensures
    (folded-uncited disjunction whole rest c.loop-part.left.now c.loop-part.verdict (c.loop-part.invariant k) c.args.stop says next steps (no-items c.loop-part.left.now c.in_err-cite.ensures.cases))

pub returns-in_err-said : goal.returns-in_err-said
returns-in_err-said c = λ k.
    let ls = c.args.lines.now in
    let whole = LeftParts k ls c.args.frame c.args.stop c.args.parts.now c.args.cites.now in
    let rest = LeftParts k ls c.args.frame c.args.stop (drop c.loop-part.part-index c.args.parts.now) in
    let says = (SaysPart k ls c.args.frame c.args.stop (see_part c.part-item.result)) in
    let next = LeftParts k ls c.args.frame c.args.stop (drop (c.loop-part.part-index + 1) c.args.parts.now) in
    let steps = parts-next k ls c.args.frame c.args.stop c.args.parts.now c.loop-part.part-index c.part-item.result c.loop-part-test.true c.part-item.is in
    rw c.from_residual-in_err-said.ensures
    (folded-unsaid disjunction whole rest c.loop-part.left.now c.loop-part.verdict (c.loop-part.invariant k) c.args.stop says next steps c.in_ok-cite.cite.now c.in_ok-cite.others.now c.in_ok-cite.ensures.cases.0
    (c.in_err-said.ensures k))

pub returns-then-is_stop : goal.returns-then-is_stop
returns-then-is_stop c = λ k.
    let ls = c.args.lines.now in
    let whole = LeftParts k ls c.args.frame c.args.stop c.args.parts.now c.args.cites.now in
    let rest = LeftParts k ls c.args.frame c.args.stop (drop c.loop-part.part-index c.args.parts.now) in
    let says = (SaysPart k ls c.args.frame c.args.stop (see_part c.part-item.result)) in
    let next = LeftParts k ls c.args.frame c.args.stop (drop (c.loop-part.part-index + 1) c.args.parts.now) in
    let steps = parts-next k ls c.args.frame c.args.stop c.args.parts.now c.loop-part.part-index c.part-item.result c.loop-part-test.true c.part-item.is in
    let stops : is_stop c.args.stop c.in_ok-said.said ≡ true = sym c.if-is_stop.ensures in
    folded-stop disjunction whole rest c.loop-part.left.now c.loop-part.verdict (c.loop-part.invariant k) c.args.stop says next steps c.in_ok-cite.cite.now c.in_ok-cite.others.now c.in_ok-cite.ensures.cases.0
    c.in_ok-said.said c.either-verdict.result (c.in_ok-said.ensures k) c.either-verdict.ensures stops c.at_end.result c.at_end.ensures

pub loop-part-preserved : goal.loop-part-preserved
loop-part-preserved c = λ k.
    let ls = c.args.lines.now in
    let whole = LeftParts k ls c.args.frame c.args.stop c.args.parts.now c.args.cites.now in
    let rest = LeftParts k ls c.args.frame c.args.stop (drop c.loop-part.part-index c.args.parts.now) in
    let says = (SaysPart k ls c.args.frame c.args.stop (see_part c.part-item.result)) in
    let next = LeftParts k ls c.args.frame c.args.stop (drop (c.loop-part.part-index + 1) c.args.parts.now) in
    let steps = parts-next k ls c.args.frame c.args.stop c.args.parts.now c.loop-part.part-index c.part-item.result c.loop-part-test.true c.part-item.is in
    let goes : is_stop c.args.stop c.in_ok-said.said ≡ false = sym c.if-is_stop.ensures in
    folded-next disjunction whole rest c.loop-part.left.now c.loop-part.verdict (c.loop-part.invariant k) c.args.stop says next steps c.in_ok-cite.cite.now c.in_ok-cite.others.now c.in_ok-cite.ensures.cases.0
    c.in_ok-said.said c.either-verdict.result (c.in_ok-said.ensures k) c.either-verdict.ensures goes disjunction-two

pub returns : goal.returns
returns c = λ k.
    let ls = c.args.lines.now in
    let whole = LeftParts k ls c.args.frame c.args.stop c.args.parts.now c.args.cites.now in
    let rest = LeftParts k ls c.args.frame c.args.stop (drop c.loop-part.part-index c.args.parts.now) in
    folded-last disjunction whole rest c.loop-part.left.now c.loop-part.verdict (c.loop-part.invariant k)
    (parts-last k ls c.args.frame c.args.stop c.args.parts.now c.loop-part.part-index c.loop-part-test.false) disjunction-one c.at_end-2.result c.at_end-2.ensures
