use Rattle.std.proofs.Common.{◌≡◌, drop}
use Rattle.rule_names.specs.Resolution.{with_links}
use Rattle.name_resolution.proofs.resolution.set_links.Given as goal

abbrev pub invariant-loop-linked : goal.invariant-loop-linked
invariant-loop-linked l = with_links l.table.items (drop l.linked-index l.links) ≡ with_links l.initial.table.items l.links
