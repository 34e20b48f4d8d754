use Rattle.std.proofs.Common.{◌≡◌, [], take, drop, map}
use Rattle.rule_names.specs.Duplicates.{given_again, fault_of}
use Rattle.rule_names.specs.Faults.{first_from}
use Rattle.name_scopes.specs.code.Seen.{see_best, see_names}
use Rattle.name_faults.proofs.NameSets.{IsNameSet}
use Rattle.name_faults.proofs.SeenNames.{texts_of}
use Rattle.name_faults.proofs.duplicates.first_again.Given as goal

abbrev pub invariant-loop-name : goal.invariant-loop-name
invariant-loop-name l = record {
  each : first_from (see_best l.best) (map (fault_of l.kind) (given_again (texts_of [] (take l.name-index l.names)) (see_names (drop l.name-index l.names))))
      ≡ first_from (see_best l.initial.best) (map (fault_of l.kind) (given_again [] (see_names l.names)));
  same : IsNameSet l.seen (texts_of [] (take l.name-index l.names));
}
