use Rattle.std.proofs.lemmas.Grind.{common_steps}
use Rattle.std.proofs.Common.{ℕ, List, sym, ap, ◌∙◌, arith, true≢false}
use Rattle.std.specs.Prelude.{nat_eq}
use Rattle.std.specs.List.{list_any}
use Rattle.value_compare.proofs.maker.ScriptMakerPatternMaker.make.Goals as goal

-- a call that the script names is answered before any pattern is read
pub returns-else-contains-2-clause-planned : goal.returns-else-contains-2-clause-planned
returns-else-contains-2-clause-planned c = λ planned.
    let call : ℕ = c.args.self.now.calls in
    absurd (true≢false (sym planned
    ∙ ap (λ (xs : List ℕ). list_any (λ n. nat_eq n call) xs) (sym c.deref.ensures.value)
    ∙ sym c.contains.ensures.value
    ∙ c.if-contains.false))

pub returns-else-contains : goal.returns-else-contains
returns-else-contains c = grind (arith, common_steps)
