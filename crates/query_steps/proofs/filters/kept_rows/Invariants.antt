use Rattle.std.proofs.Common.{◌≡◌, ◌++◌, true, drop, length}
use Rattle.std.specs.List.{list_all}
use Rattle.rule_meaning.specs.StoreModel.{is_known}
use Rattle.value_store.specs.code.Stores.{see_store}
use Rattle.rule_meaning.specs.Filters.{candidates_in, filtered}
use Rattle.query_steps.proofs.filters.kept_rows.Given as goal

abbrev pub invariant-loop-row : goal.invariant-loop-row
invariant-loop-row l = record {
  kept : filtered (see_store l.store) l.after_key l.before l.fn.verdicts ≡ l.rows.items ++ filtered (see_store l.store) l.after_key (drop l.row-index l.before) l.left;
  left : length l.left ≡ length (candidates_in (see_store l.store) l.after_key (drop l.row-index l.before));
  known : list_all (is_known (see_store l.store)) l.rows.items ≡ true;
}
