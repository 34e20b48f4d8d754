use Rattle.std.proofs.Common.{◌≡◌, suc, ◌+◌, drop, arith, refl, subst, sym, ap, ◌∙◌}
use Rattle.std.specs.Prelude.{encode_utf8}
use Rattle.yaml_scalars.specs.Quoted.{Means, Wrong, of_unit}
use Rattle.yaml_scalars.specs.code.QuotedSteps.{IsMeaning}
use Rattle.yaml_scalars.proofs.EscapeValues.{meaning_so, unit_high, unit_single}
use Rattle.yaml_scalars.proofs.escape.unit_at.Goals as goal

pub returns-then-is_high-clause-is : goal.returns-then-is_high-clause-is
returns-then-is_high-clause-is c =
    let more = drop (c.args.at + 5) c.args.bytes.now in
    meaning_so _ _ c.pair_at.result (ap (λ d. of_unit d more) (c.in-Ok.ensures.number 1) ∙ unit_high c.in-Ok.unit more (sym c.is_high.ensures ∙ c.if-is_high.true)) c.pair_at.ensures.is

pub returns-else-is_high-clause-is : goal.returns-else-is_high-clause-is
returns-else-is_high-clause-is c =
    let more = drop (c.args.at + 5) c.args.bytes.now in
    meaning_so _ _ c.character.result (ap (λ d. of_unit d more) (c.in-Ok.ensures.number 1) ∙ unit_single c.in-Ok.unit more (sym c.is_high.ensures ∙ c.if-is_high.false)) (subst (λ m. IsMeaning (Means 5 (encode_utf8 c.in-Ok.unit)) m) (sym c.character.ensures) refl)

pub returns-in-Err-clause-is : goal.returns-in-Err-clause-is
returns-in-Err-clause-is c =
    let e : suc (1 + c.in-Err.found) ≡ c.in-Err.found + 2 = omega arith in
    ap (λ d. of_unit d (drop (c.args.at + 5) c.args.bytes.now)) (c.in-Err.ensures.number 1) ∙ ap Wrong e
