use Rattle.std.proofs.Common.{◌≤◌, length, sym, ap, ◌∙◌, subst}
use Rattle.yaml_laws.specs.code.Agreement.{scalar_shown}
use Rattle.yaml_scalars.specs.Scalar.{scalar_at}
use Rattle.yaml_laws.proofs.AgreeLess.{breaks_alike}
use Rattle.yaml_laws.proofs.ScalarStays.{scalar_stays}
use Rattle.yaml_laws.proofs.scalars.same_scalar.Goals as goal

pub returns : goal.returns
returns c = λ other scalar place end (before, behind, more, b, whole, also, size) feed low near h.
    let s = c.args.setting in
    let at = c.args.at in
    let l = subst (λ n. at ≤ n) (sym size) low in
    let m = subst (λ n. scalar_shown s c.args.text.now at end ≤ n) (sym size) near in
    let m2 = subst (λ t. scalar_shown s t at end ≤ length before) whole m in
    let f = breaks_alike before behind more b c.args.text.now other place whole also size feed in
    ap (λ t. scalar_at s t at) also ∙ scalar_stays s before behind more b at scalar end l f m2 (ap (λ t. scalar_at s t at) (sym whole) ∙ h)
