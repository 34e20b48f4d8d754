-- Verdicts two by two: their conjunction, their disjunction, and whether one is the deciding one.
use Rattle.std.proofs.Common.{◌≡◌, [], ◌∷◌, Some, refl}
use denote.Enum.Bare.{sameb}
use Rattle.guard_syntax.specs.contracts.row.Verdict.{the_type}
use Rattle.guard_syntax.specs.declared.row.Verdict.{Verdict}
use Rattle.guard_syntax.specs.declared.row.Verdict.TheVariants.{Pass, Fail, Skip}
use Rattle.evidence_rules.specs.Follows.{is_stop}
use Rattle.rule_meaning.specs.Verdicts.{conjunction, disjunction}

pub both-skip : (v : Verdict) → v ≡ conjunction (Skip ∷ v ∷ [])
both-skip Pass = refl
both-skip Fail = refl
both-skip Skip = refl

pub both-pass : (v : Verdict) → (v ≡ Fail → ⊥) → Pass ≡ conjunction (Pass ∷ v ∷ [])
both-pass Pass other = refl
both-pass Fail other = absurd (other refl)
both-pass Skip other = refl

pub either-skip : (v : Verdict) → v ≡ disjunction (Skip ∷ v ∷ [])
either-skip Pass = refl
either-skip Fail = refl
either-skip Skip = refl

pub either-fail : (v : Verdict) → (v ≡ Pass → ⊥) → Fail ≡ disjunction (Fail ∷ v ∷ [])
either-fail Pass other = absurd (other refl)
either-fail Fail other = refl
either-fail Skip other = refl

pub stop-same : (decides v : Verdict) → sameb the_type decides v ≡ is_stop (Some decides) v
stop-same Pass Pass = refl
stop-same Pass Fail = refl
stop-same Pass Skip = refl
stop-same Fail Pass = refl
stop-same Fail Fail = refl
stop-same Fail Skip = refl
stop-same Skip Pass = refl
stop-same Skip Fail = refl
stop-same Skip Skip = refl
