use Rattle.std.proofs.Common.{◌-◌, ◌≤◌, arith, sym, subst}
use Rattle.std.specs.Prelude.{string_bytes}
use Rattle.yaml_scalars.specs.code.QuotedSteps.{below, GoesOn}
use Rattle.yaml_scalars.proofs.QuotedLines.{past_key, past_end, past_next}
use Rattle.yaml_scalars.proofs.QuotedGoing.{goes_so}
use Rattle.yaml_scalars.proofs.quoted.read_break.Goals as goal

pub returns-then-one_line : goal.returns-then-one_line
returns-then-one_line c = λ quote. past_key quote c.args.one_line c.args.bytes.now c.args.end c.args.joined (string_bytes c.args.decoded.now) c.if-one_line.true

pub returns-in-None : goal.returns-in-None
returns-in-None c = λ quote. past_end quote c.args.one_line c.args.bytes.now c.args.end c.args.joined (string_bytes c.args.decoded.now) c.if-one_line.false c.in-None.ensures.0

pub returns-in-Some : goal.returns-in-Some
returns-in-Some c = λ quote.
    let old = string_bytes c.args.decoded.now in
    let l : c.args.end ≤ c.in-Some.next - 1 = omega (arith, c.in-Some.ensures.1) in
    goes_so _ (below quote c.args.bytes.now c.in-Some.next old c.args.joined 0) quote c.args.one_line c.args.bytes.now c.args.end (c.in-Some.next - 1) (string_bytes c.read_below.new.decoded) c.read_below.result
    (past_next quote c.args.one_line c.args.bytes.now c.args.end c.in-Some.next c.args.joined old c.if-one_line.false c.in-Some.ensures.4)
    l
    (subst (λ b. GoesOn (below quote c.args.bytes.now c.in-Some.next old c.args.joined 0) quote b c.args.bytes.now (c.in-Some.next - 1) (string_bytes c.read_below.new.decoded) c.read_below.result) (sym c.if-one_line.false) (c.read_below.ensures quote))
