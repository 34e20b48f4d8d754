use Rattle.std.proofs.Common.{◌≡◌, ◌<◌, ◌^◌, take, Some}
use Rattle.key_names.specs.code.TextNumbers.{last_link, links_in, IsKept}
use Rattle.key_names.proofs.text_numbers.TextNumbers.insert.Given as goal

abbrev pub invariant-loop-byte : goal.invariant-loop-byte
invariant-loop-byte l =
    IsKept (links_in l.fn.self.links) (links_in l.self.links)
    × (last_link (links_in l.self.links) (take l.byte-index l.byte-items) ≡ Some l.link)
    × (l.link.0 < l.self.count)
    × (l.link.1 < 2 ^ 120)
