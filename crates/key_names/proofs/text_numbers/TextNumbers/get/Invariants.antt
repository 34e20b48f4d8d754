use Rattle.std.proofs.Common.{◌≡◌, ◌<◌, ◌^◌, take, Some}
use Rattle.key_names.specs.code.TextNumbers.{last_link, links_in}
use Rattle.key_names.proofs.text_numbers.TextNumbers.get.Given as goal

abbrev pub invariant-loop-byte : goal.invariant-loop-byte
invariant-loop-byte l = (last_link (links_in l.self.links) (take l.byte-index l.byte-items) ≡ Some l.link) × (l.link.1 < 2 ^ 120)
