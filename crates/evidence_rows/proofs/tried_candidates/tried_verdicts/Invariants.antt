use Rattle.std.proofs.Common.{take}
use Rattle.guard_syntax.specs.code.Seen.{see_conds}
use Rattle.rule_meaning.specs.StoreModel.{StoreModel}
use Rattle.evidence_rules.specs.Follows.{SayEach, SaysCandidate}
use Rattle.evidence_rows.proofs.tried_candidates.tried_verdicts.Given as goal

abbrev pub invariant-loop-i : goal.invariant-loop-i
invariant-loop-i l = (known : StoreModel) → SayEach known l.lines (SaysCandidate known l.lines l.fn.line.frame l.fn.line.site (see_conds l.conditions)) (take l.i l.values) (take l.i l.fn.line.cites.now) l.verdicts.items
