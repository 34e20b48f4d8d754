use Rattle.std.proofs.Common.{Err, ap, inl, inr, refl}
use Rattle.guard_ends.specs.Order.{Ends}
use Rattle.guard_inputs.proofs.patterns.make_patterns.Goals as goal

pub returns-in-Err-BadPattern-clause-made : goal.returns-in-Err-BadPattern-clause-made
returns-in-Err-BadPattern-clause-made g c =
    let found = c.in-Err-BadPattern.ensures.bad c.in-Err-BadPattern.at (ap Err c.in-Err-BadPattern.field-0-is) in
    inl (found.0, c.in-Err-BadPattern.at, found.1, inr (found.2, ap Ends (rw c.as_bytes.ensures.value at c.refused_at.ensures)))

pub returns-in-Err-PatternRefused-clause-made : goal.returns-in-Err-PatternRefused-clause-made
returns-in-Err-PatternRefused-clause-made g c =
    let at = c.in-Err-PatternRefused.field-0-0 in
    let found = c.in-Err-PatternRefused.ensures.refused at (ap Err c.in-Err-PatternRefused.field-0-is) in
    (found.0, inl (found.0, at, found.1, inl refl), found.2)
