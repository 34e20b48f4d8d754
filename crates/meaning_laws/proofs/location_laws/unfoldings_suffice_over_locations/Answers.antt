use Rattle.std.proofs.Common.{refl}
use Rattle.meaning_laws.proofs.OneMeaning.{IsFine, rules-turned, loose-turned}
use Rattle.meaning_laws.proofs.SameEntries.{entries-steady, loose-steady, rules-steady}
use Rattle.meaning_laws.proofs.location_laws.unfoldings_suffice_over_locations.Goals as goal

pub returns-clause-rules : goal.returns-clause-rules
returns-clause-rules c world n order named =
    let fine : IsFine world.file = record { settled = c.settled_depths.ensures world.file; ordered = order; shallow = named.shallow } in
    rules-turned world.file fine world refl n

pub returns-clause-loose : goal.returns-clause-loose
returns-clause-loose c world n order named =
    let fine : IsFine world.file = record { settled = c.settled_depths.ensures world.file; ordered = order; shallow = named.shallow } in
    loose-turned world.file fine world refl n

pub returns-clause-rule_entries : goal.returns-clause-rule_entries
returns-clause-rule_entries c world n order named =
    let fine : IsFine world.file = record { settled = c.settled_depths.ensures world.file; ordered = order; shallow = named.shallow } in
    rules-steady world.file fine world refl n

pub returns-clause-loose_entries : goal.returns-clause-loose_entries
returns-clause-loose_entries c world n order named =
    let fine : IsFine world.file = record { settled = c.settled_depths.ensures world.file; ordered = order; shallow = named.shallow } in
    loose-steady world.file fine world refl n

pub returns-clause-entries : goal.returns-clause-entries
returns-clause-entries c world env inner n m order named one other =
    let fine : IsFine world.file = record { settled = c.settled_depths.ensures world.file; ordered = order; shallow = named.shallow } in
    entries-steady world.file fine world refl env inner n m one other
