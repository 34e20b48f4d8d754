use Rattle.std.proofs.Common.{◌<◌, ℕ, List, length, inl, inr, arith}
use Rattle.yaml_grammar.specs.Places.{IsSyntax}
use Rattle.yaml_grammar.proofs.DeadPlaces.{later_dead}
use Rattle.yaml_steps.proofs.returned.place_at_end.Goals as goal

later : (text : List ℕ) (at last : ℕ) → at < last → last < length text → IsSyntax text at → IsSyntax text last
later text at last less within (inl dead) = inl (later_dead text at last (omega (arith, less)) within dead)
later text at last less within (inr (is, front)) = absurd (omega (arith, is, less, within))

pub returns-then-at-last-clause-is : goal.returns-then-at-last-clause-is
returns-then-at-last-clause-is c = λ text len h.
    let last = c.offset-last.ensures in
    let some = c.requires.some in
    later text c.args.at c.offset-last.result c.if-at-last.true (omega (arith, last, some, len)) h
