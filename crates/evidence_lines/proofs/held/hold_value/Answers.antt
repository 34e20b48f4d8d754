use Rattle.std.proofs.Common.{length}
use Rattle.evidence_lines.proofs.HeldLines.{value-held}
use Rattle.evidence_lines.proofs.held.hold_value.Goals as goal

pub returns-in_ok-span-in_default : goal.returns-in_ok-span-in_default
returns-in_ok-span-in_default c = record {
  more = c.add_items.ensures.more;
  held = λ nodes spans. value-held c.add_items.new.into.items (length nodes) nodes spans c.in_ok-span-in_default.span c.args.value c.in_ok-span-in_default.ensures.held.0 c.in_ok-span-in_default.ensures.held.1 c.in_ok-span-in_default.ensures.count;
}
