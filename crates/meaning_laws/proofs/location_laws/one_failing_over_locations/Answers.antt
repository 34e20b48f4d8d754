use Rattle.std.proofs.Common.{refl}
use Rattle.meaning_laws.proofs.OneFailing.{loose-one, rules-one, some-calls}
use Rattle.meaning_laws.proofs.OneMeaning.{IsFine}
use Rattle.meaning_laws.proofs.location_laws.one_failing_over_locations.Goals as goal

pub returns-clause-some : goal.returns-clause-some
returns-clause-some c world names order named obeys =
    let fine : IsFine world.file = record { settled = c.settled_depths.ensures world.file; ordered = order; shallow = named.shallow } in
    some-calls world.file fine world refl names obeys

pub returns-clause-rules : goal.returns-clause-rules
returns-clause-rules c world names calls order named obeys obeyed =
    let fine : IsFine world.file = record { settled = c.settled_depths.ensures world.file; ordered = order; shallow = named.shallow } in
    rules-one world.file fine world refl names obeys calls obeyed

pub returns-clause-loose : goal.returns-clause-loose
returns-clause-loose c world names calls order named obeys obeyed =
    let fine : IsFine world.file = record { settled = c.settled_depths.ensures world.file; ordered = order; shallow = named.shallow } in
    loose-one world.file fine world refl names obeys calls obeyed
