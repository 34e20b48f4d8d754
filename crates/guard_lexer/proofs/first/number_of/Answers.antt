use Rattle.std.proofs.Common.{subst, ℕ, List}
use Rattle.std.specs.Prelude.{MatchOption}
use Rattle.std.proofs.lemmas.Str.{IsUtf8-from_ascii}
use Rattle.decimals.specs.Number.{IsNumber}
use Rattle.decimals.specs.declared.decimal.Num.{Num}
use Rattle.guard_lexer.proofs.first.number_of.Goals as goal

pub returns-in-Ok : goal.returns-in-Ok
returns-in-Ok c =
    let P : List ℕ → Type 0 = λ b. MatchOption c.read_number.result ((n : Num) → IsNumber b n → ⊥) (λ n. IsNumber b n) in
    subst P c.in-Ok.ensures.cases.0 c.read_number.ensures

pub returns-in-Err : goal.returns-in-Err
returns-in-Err c = λ n h. c.in-Err.ensures.cases.0 (IsUtf8-from_ascii c.args.bytes.now c.requires)
