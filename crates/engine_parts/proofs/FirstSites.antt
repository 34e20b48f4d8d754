-- The first site in a part is its own.
use Rattle.std.proofs.Common.{◌≡◌, refl}
use Rattle.guard_syntax.specs.Sites.{sites_part}
use Rattle.guard_syntax.specs.Syntax.{Part, block, call, guarded, kinds, refer, test}
use Rattle.rule_names.specs.ReferenceGraph.{part_site}
use Rattle.rule_names.specs.code.IncreasingSites.{first_site}

pub first-part : (p : Part) → first_site (sites_part p) ≡ part_site p
first-part (block n any head inner) = refl
first-part (guarded n conditions inner) = refl
first-part (kinds n name conditions inner) = refl
first-part (test n any left op negated right message) = refl
first-part (refer n negated name message) = refl
first-part (call n negated name args message) = refl
