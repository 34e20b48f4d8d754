use Rattle.std.proofs.lemmas.Grind.{common_steps}
use Rattle.std.proofs.Common.{ap, ◌∙◌, FitsSigned, w64, rules, arith}
use Rattle.decimals.specs.Decimal.{Decimal, order}
use Rattle.decimals.proofs.Decimals.{product_fits, product_is, compared}
use Rattle.decimals.proofs.decimal.Decimal.compare.Goals as goal

pub overflow_mul-left : goal.overflow_mul-left
overflow_mul-left c =
    let f : FitsSigned w64 c.self.inside.units = search rules in
    product_fits c.self.inside.units c.pow.result c.other.inside.scale f c.self.invariant.small c.other.invariant.fine c.pow.ensures

pub overflow_mul-right : goal.overflow_mul-right
overflow_mul-right c =
    let f : FitsSigned w64 c.other.inside.units = search rules in
    product_fits c.other.inside.units c.pow-2.result c.self.inside.scale f c.other.invariant.small c.self.invariant.fine c.pow-2.ensures

pub returns : goal.returns
returns c =
    let f : FitsSigned w64 c.self.inside.units = search rules in
    let g : FitsSigned w64 c.other.inside.units = search rules in
    let left = product_is c.self.inside.units c.pow.result c.other.inside.scale f c.self.invariant.small c.other.invariant.fine c.pow.ensures in
    let right = product_is c.other.inside.units c.pow-2.result c.self.inside.scale g c.other.invariant.small c.self.invariant.fine c.pow-2.ensures in
    c.cmp.ensures ∙ compared _ _ _ _ left right ∙ ap (λ (d : Decimal). order d (record { units = c.other.inside.units; scale = c.other.inside.scale })) c.self.view_is ∙ ap (λ (d : Decimal). order c.args.self.now d) c.other.view_is

pub overflow_cast-left : goal.overflow_cast-left
overflow_cast-left c = grind (arith, common_steps)

pub overflow_cast-right : goal.overflow_cast-right
overflow_cast-right c = grind (arith, common_steps)
