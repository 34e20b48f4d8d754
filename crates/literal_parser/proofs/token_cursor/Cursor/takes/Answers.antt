use Rattle.std.proofs.Common.{◌≡◌, sym, ◌∙◌, ap, arith}
use Rattle.literal_parser.specs.States.{State}
use Rattle.literal_parser.specs.code.Reads.{source}
use Rattle.literal_parser.proofs.Places.{within_tokens}
use Rattle.literal_parser.proofs.token_cursor.Cursor.takes.Goals as goal

pub invariant_of-self : goal.invariant_of-self
unfolding source
invariant_of-self c =
    let within = within_tokens c.args.tokens.text.now c.args.tokens.items.now c.args.self.now.at c.args.want (sym c.sees.ensures.token ∙ c.if-not-sees.false) in
    let same : c.sees.new.self.at ≡ c.args.self.now.at = ap (λ (z : State). z.at) c.sees.ensures.state in
    record { small = omega (arith, within, same, c.args.tokens.short) }
