use Rattle.std.proofs.Common.{refl}
use Rattle.meaning_laws.proofs.OneMeaning.{IsFine, some-names, rules-obeyed, loose-obeyed}
use Rattle.meaning_laws.proofs.location_laws.one_meaning_over_locations.Goals as goal

pub returns-clause-some : goal.returns-clause-some
returns-clause-some c world order named =
    let fine : IsFine world.file = record { settled = c.settled_depths.ensures world.file; ordered = order; shallow = named.shallow } in
    some-names world.file fine world refl

pub returns-clause-rules : goal.returns-clause-rules
returns-clause-rules c world names order named obeys =
    let fine : IsFine world.file = record { settled = c.settled_depths.ensures world.file; ordered = order; shallow = named.shallow } in
    rules-obeyed world.file fine world refl names obeys

pub returns-clause-loose : goal.returns-clause-loose
returns-clause-loose c world names order named obeys =
    let fine : IsFine world.file = record { settled = c.settled_depths.ensures world.file; ordered = order; shallow = named.shallow } in
    loose-obeyed world.file fine world refl names obeys
