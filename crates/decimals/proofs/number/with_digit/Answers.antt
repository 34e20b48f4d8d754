use Rattle.std.proofs.Common.{◌≡◌, ◌+◌, ◌*◌, arith, subst}
use Rattle.decimals.specs.code.Reading.{IsHeld}
use Rattle.decimals.proofs.NumberValue.{IsHeld-zero, IsHeld-digit}
use Rattle.decimals.proofs.number.with_digit.Goals as goal

pub returns-then-digit-eq0-clause-held : goal.returns-then-digit-eq0-clause-held
returns-then-digit-eq0-clause-held c = λ m h. let e : 0 ≡ c.args.digit = omega arith in subst (λ d. IsHeld (m * 10 + d) c.args.held.kept (c.args.held.zeros + 1)) e (IsHeld-zero m c.args.held.kept c.args.held.zeros h)

pub returns-clause-held : goal.returns-clause-held
returns-clause-held c = λ m h. IsHeld-digit m c.args.held.kept c.args.held.zeros c.args.digit c.grown.result c.requires.digit (omega arith) c.grown.ensures h
