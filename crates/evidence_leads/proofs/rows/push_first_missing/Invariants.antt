use Rattle.std.proofs.Common.{◌≡◌, map, drop}
use Rattle.std.specs.List.{flat_map}
use Rattle.rule_meaning.specs.Fails.{missing_row}
use Rattle.rule_meaning.specs.StoreModel.{StoreModel}
use Rattle.evidence_truth.specs.code.LineFails.{see}
use Rattle.evidence_leads.proofs.rows.push_first_missing.Given as goal

abbrev pub invariant-loop-row : goal.invariant-loop-row
invariant-loop-row l = record {
  same : l.into.items ≡ l.initial.into.items;
  none : (known : StoreModel)
      → flat_map (missing_row l.part) (map (see known l.lines) l.rows) ≡ flat_map (missing_row l.part) (map (see known l.lines) (drop l.row-index l.rows));
}
