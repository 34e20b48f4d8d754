use Rattle.std.proofs.Common.{◌≡◌, length, take}
use Rattle.name_table.proofs.RuleOrders.{AreMarksAt}
use Rattle.name_table.proofs.resolver.marks_at.Given as goal

abbrev pub invariant-loop-site : goal.invariant-loop-site
invariant-loop-site l = (length l.marks.items ≡ l.count) × AreMarksAt l.marks.items (take l.site-index l.sites)
