use Rattle.std.proofs.Common.{◌≡◌, true, take}
use Rattle.std.specs.List.{list_all}
use Rattle.rule_meaning.specs.StoreModel.{is_known_ref}
use Rattle.value_store.specs.code.Stores.{see_store}
use Rattle.rule_meaning.specs.Filters.{candidates_in}
use Rattle.query_steps.proofs.filters.filter_candidates.Given as goal

abbrev pub invariant-loop-row : goal.invariant-loop-row
invariant-loop-row l = record {
  tried : l.refs.items ≡ candidates_in (see_store l.store) l.after_key (take l.row-index l.before);
  known : list_all (is_known_ref (see_store l.store)) l.refs.items ≡ true;
}
