use Rattle.std.proofs.Common.{◌≡◌, map, take}
use Rattle.rule_meaning.specs.Functions.{AreRows}
use Rattle.value_store.specs.code.Stores.{see_store}
use Rattle.guard_builtins.specs.code.Seen.{changes, see_made}
use Rattle.guard_builtins.proofs.functions.rows_for.Given as goal

abbrev pub invariant-loop-row : goal.invariant-loop-row
invariant-loop-row g l = record {
  rows : AreRows (changes (g.C.ValueChange.changing l.initial.change)) (see_store l.store) l.site (take l.row-index l.rows) (map see_made l.made.items);
  kept : g.C.ValueChange.changing l.change ≡ g.C.ValueChange.changing l.initial.change;
}
