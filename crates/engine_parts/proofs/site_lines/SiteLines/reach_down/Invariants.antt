use Rattle.std.proofs.Common.{ℕ, ◌≡◌, ◌-◌}
use Rattle.engine_parts.specs.code.FoundLines.{found_in}
use Rattle.engine_parts.proofs.site_lines.SiteLines.reach_down.Given as goal

abbrev pub invariant-loop-self : goal.invariant-loop-self
invariant-loop-self l = (n : ℕ) → found_in l.self.first l.self.lines.items n ≡ found_in l.fn.self.first l.fn.self.lines.items n

abbrev pub decreases-loop-self : goal.decreases-loop-self
decreases-loop-self l = l.self.first - l.site
