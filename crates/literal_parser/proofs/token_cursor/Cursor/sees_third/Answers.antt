use Rattle.std.proofs.Common.{◌≡◌, ℕ, suc, ◌+◌, ap, ◌∙◌, arith}
use Rattle.literal_parser.specs.code.TokenClasses.{wants}
use Rattle.literal_parser.specs.code.TokenClasses.{shape_of}
use Rattle.literal_parser.specs.code.Reads.{source}
use Rattle.literal_parser.proofs.Places.{told}
use Rattle.literal_parser.proofs.token_cursor.Cursor.sees_third.Goals as goal

pub returns-clause-token : goal.returns-clause-token
returns-clause-token c =
    let place : c.args.self.now.at + 2 ≡ (suc (suc c.args.self.now.at)) = omega arith in
    told (wants c.args.want) c.shape.result (source c.args.tokens (suc (suc c.args.self.now.at))) c.accepts.result c.accepts.ensures (c.shape.ensures ∙ ap (λ (i : ℕ). shape_of (source c.args.tokens i)) place)
