use Rattle.std.proofs.Common.{◌≡◌, drop}
use Rattle.rule_meaning.specs.Keys.{passes}
use Rattle.evidence_lookups.specs.code.Grounds.{known_of}
use Rattle.evidence_rows.specs.code.TestedRows.{holds_for}
use Rattle.evidence_rows.proofs.test_lines.holds_of_rows.Given as goal

abbrev pub invariant-loop-left : goal.invariant-loop-left
invariant-loop-left l = record {
  kept : l.matchers.book.now ≡ l.initial.matchers.book.now;
  left : holds_for l.fn.asks.any (passes (known_of l.context) l.fn.asks.op l.fn.asks.not l.rights) l.lefts ≡ holds_for l.fn.asks.any (passes (known_of l.context) l.fn.asks.op l.fn.asks.not l.rights) (drop l.left-index l.lefts);
}
