use Rattle.std.proofs.Common.{sym, subst}
use Rattle.clause_eval.specs.code.Engines.{see_engine}
use Rattle.rule_calls.specs.code.Reported.{AreVerdicts, reported_sites}
use Rattle.rule_calls.proofs.RulesInTurn.{loose-empty, loose-some}
use Rattle.rule_calls.proofs.VerdictsListed.{line-says, loose-there, rule-says, verdicts-alone, verdicts-loose}
use Rattle.rule_calls.proofs.reported.reported_verdicts.Goals as goal

pub rule_verdicts-requires : goal.rule_verdicts-requires
rule_verdicts-requires c = c.requires.rules

pub returns-then-is_empty : goal.returns-then-is_empty
returns-then-is_empty c =
    let e = c.args.engine.now in
    verdicts-alone (see_engine e) c.in_ok-verdicts.verdicts.items c.in_ok-verdicts.ensures
    (loose-empty e.lines.store.file.now e.lines.file.now e.lines.store_over c.raw.result.now c.raw.ensures c.as_slice.result.now c.as_slice.ensures.value c.is_empty.result c.is_empty.ensures c.if-is_empty.true)

pub unreachable-requires : goal.unreachable-requires
unreachable-requires c =
    let e = c.args.engine.now in
    let some = loose-some e.lines.store.file.now e.lines.file.now e.lines.store_over c.raw.result.now c.raw.ensures c.as_slice.result.now c.as_slice.ensures.value c.is_empty.result c.is_empty.ensures c.if-is_empty.false in
    loose-there (see_engine e) c.requires some.0 some.1 some.2 (sym c.in_default.ensures)

pub verdict_said-requires : goal.verdict_said-requires
verdict_said-requires c = line-says (see_engine c.args.engine.now) c.requires.rules.rests.whole 0 c.in-Some.line (sym c.in-Some.ensures)

pub returns : goal.returns
returns c =
    let e = c.args.engine.now in
    let s = see_engine e in
    let some = loose-some e.lines.store.file.now e.lines.file.now e.lines.store_over c.raw.result.now c.raw.ensures c.as_slice.result.now c.as_slice.ensures.value c.is_empty.result c.is_empty.ensures c.if-is_empty.false in
    let says = rule-says s c.requires.rules.rests.whole 0 c.in-Some.line (sym c.in-Some.ensures) c.verdict_said.result c.verdict_said.ensures in
    subst (AreVerdicts s.lines (reported_sites s.known.file)) (sym c.in_ok-push.ensures.items)
    (verdicts-loose s c.in_ok-verdicts.verdicts.items c.in_ok-verdicts.ensures some.0 some.1 some.2 c.verdict_said.result says)
