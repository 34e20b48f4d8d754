use Rattle.std.proofs.Common.{◌≡◌, ℕ, suc, ◌+◌, ◌-◌, ◌*◌, arith, refl, subst, sym, ap, ◌∙◌}
use Rattle.std.specs.Prelude.{encode_utf8}
use Rattle.yaml_scalars.specs.Quoted.{Means, Wrong, of_low}
use Rattle.yaml_scalars.specs.code.QuotedSteps.{IsMeaning}
use Rattle.yaml_scalars.proofs.EscapeValues.{meaning_so}
use Rattle.yaml_scalars.proofs.escape.low_at.Goals as goal

pub returns-in-Err-clause-is : goal.returns-in-Err-clause-is
returns-in-Err-clause-is c =
    let e : suc (7 + c.in-Err.found) ≡ c.in-Err.found + 8 = omega arith in
    ap (of_low c.args.high) (c.in-Err.ensures.number 7) ∙ ap Wrong e

pub returns-in-Ok-clause-is : goal.returns-in-Ok-clause-is
returns-in-Ok-clause-is c =
    let n : ℕ = 65536 + (c.args.high - 55296) * 1024 + (c.in-Ok.low - 56320) in
    meaning_so _ _ c.character.result (ap (of_low c.args.high) (c.in-Ok.ensures.number 7)) (subst (λ m. IsMeaning (Means 11 (encode_utf8 n)) m) (sym c.character.ensures) refl)
