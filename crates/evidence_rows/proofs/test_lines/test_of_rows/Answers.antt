use Rattle.std.proofs.Common.{◌&&◌, ◌∙◌}
use Rattle.guard_syntax.specs.code.Seen.{see_query}
use Rattle.rule_meaning.specs.Keys.{passes}
use Rattle.rule_meaning.specs.SetTests.{is_empty_test, is_set}
use Rattle.rule_meaning.specs.Verdicts.{set_verdict, test_verdict}
use Rattle.evidence_lookups.specs.code.Grounds.{known_of}
use Rattle.evidence_rows.proofs.RowsTested.{as-each, as-set, tested, untested}
use Rattle.evidence_rows.proofs.Decided.{is-none, is-some}
use Rattle.evidence_rows.proofs.test_lines.test_of_rows.Goals as goal

pub returns-then-is_set_test : goal.returns-then-is_set_test
returns-then-is_set_test c =
    as-set c.is_set_test.result (is_empty_test c.args.asks.op && is_set (see_query c.args.asks.left.now)) (set_verdict c.args.asks.not c.args.lefts.now) (test_verdict c.args.asks.any (passes (known_of c.args.context.now) c.args.asks.op c.args.asks.not c.args.rights.now) c.args.lefts.now) c.verdict_of_set.result c.is_set_test.ensures c.if-is_set_test.true c.verdict_of_set.ensures

pub returns-then-is_empty : goal.returns-then-is_empty
returns-then-is_empty c =
    as-each c.is_set_test.result (is_empty_test c.args.asks.op && is_set (see_query c.args.asks.left.now)) (set_verdict c.args.asks.not c.args.lefts.now) (test_verdict c.args.asks.any (passes (known_of c.args.context.now) c.args.asks.op c.args.asks.not c.args.rights.now) c.args.lefts.now) _ c.is_set_test.ensures c.if-is_set_test.false
    (untested c.args.asks.any (passes (known_of c.args.context.now) c.args.asks.op c.args.asks.not c.args.rights.now) c.args.lefts.now (is-none c.args.lefts.now c.is_empty.result c.is_empty.ensures c.if-is_empty.true))

pub holds_of_rows-requires : goal.holds_of_rows-requires
holds_of_rows-requires c = record { book = c.new-matchers.ensures; lefts = c.requires.lefts; rights = c.requires.rights }

pub returns : goal.returns
returns c =
    as-each c.is_set_test.result (is_empty_test c.args.asks.op && is_set (see_query c.args.asks.left.now)) (set_verdict c.args.asks.not c.args.lefts.now) (test_verdict c.args.asks.any (passes (known_of c.args.context.now) c.args.asks.op c.args.asks.not c.args.rights.now) c.args.lefts.now) c.pass_if.result c.is_set_test.ensures c.if-is_set_test.false
    (c.pass_if.ensures ∙ tested c.args.asks.any (passes (known_of c.args.context.now) c.args.asks.op c.args.asks.not c.args.rights.now) c.args.lefts.now (is-some c.args.lefts.now c.is_empty.result c.is_empty.ensures c.if-is_empty.false)
    c.in_ok-holds.holds c.in_ok-holds.ensures)
