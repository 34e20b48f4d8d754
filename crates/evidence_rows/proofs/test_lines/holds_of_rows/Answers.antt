use Rattle.std.proofs.Common.{refl, ◌∙◌}
use Rattle.std.proofs.lemmas.List.Sums.{AllPass-from_list_all}
use Rattle.rule_meaning.specs.Keys.{passes}
use Rattle.rule_meaning.specs.StoreModel.{is_known}
use Rattle.evidence_lookups.specs.code.Grounds.{known_of}
use Rattle.evidence_rows.proofs.RowsTested.{row-decides, row-leaves, rows-leave}
use Rattle.evidence_rows.proofs.test_lines.holds_of_rows.Goals as goal

pub loop-left-init : goal.loop-left-init
loop-left-init c = record { kept = refl; left = refl }

pub row_passes-requires : goal.row_passes-requires
row_passes-requires c = record {
  left = AllPass-from_list_all (is_known (known_of c.args.context.now)) c.args.lefts.now c.requires.lefts c.loop-left.left-index _ c.loop-left-test.true;
  rights = c.requires.rights;
  book = rw (c.loop-left.invariant.kept ∙ c.requires.book) c.args.context.now.book_is;
}

pub returns-then-passes-any : goal.returns-then-passes-any
returns-then-passes-any c =
    row-decides (passes (known_of c.args.context.now) c.args.asks.op c.args.asks.not c.args.rights.now) c.args.asks.any c.args.lefts.now c.loop-left.left-index c.loop-left.invariant.left c.in_ok-passes.passes _ c.loop-left-test.true
    c.in_ok-passes.ensures.answer c.if-passes-any.true

pub loop-left-preserved : goal.loop-left-preserved
loop-left-preserved c =
    record {
      kept = c.row_passes.ensures.kept ∙ c.loop-left.invariant.kept;
      left = row-leaves (passes (known_of c.args.context.now) c.args.asks.op c.args.asks.not c.args.rights.now) c.args.asks.any c.args.lefts.now c.loop-left.left-index c.loop-left.invariant.left c.in_ok-passes.passes _ c.loop-left-test.true
          c.in_ok-passes.ensures.answer c.if-passes-any.false;
    }

pub returns : goal.returns
returns c =
    rows-leave (passes (known_of c.args.context.now) c.args.asks.op c.args.asks.not c.args.rights.now) c.args.asks.any c.args.lefts.now c.loop-left.left-index c.loop-left.invariant.left c.loop-left-test.false
