use Rattle.std.proofs.lemmas.Grind.{common_steps}
use Rattle.std.proofs.Common.{ℕ, List, ap, ◌∙◌, arith}
use Rattle.guard_syntax.specs.Named.{Named}
use Rattle.literal_parser.specs.Forms.{named_of, text_of}
use Rattle.literal_parser.specs.code.TokenClasses.{wants}
use Rattle.literal_parser.specs.code.Reads.{state_of, source}
use Rattle.literal_parser.proofs.Takes.{has_of, has_none}
use Rattle.literal_parser.proofs.token_cursor.Cursor.has_name.Goals as goal

abbrev made : List ℕ → ℕ → Named
made text at = record { text = text; at = at }

pub returns : goal.returns
returns c =
    let x = source c.args.tokens c.args.self.now.at in
    has_of (source c.args.tokens) (wants c.args.want) named_of _ (state_of c.args.self.now) _ c.args.self.now.seen _ c.in_ok-takes.ensures
    (c.new.ensures ∙ ap (λ t. made t c.from.result) c.in_ok-text.ensures ∙ ap (made (text_of x)) c.from.ensures)

pub returns-in_err-takes : goal.returns-in_err-takes
returns-in_err-takes c = grind (arith, common_steps, has_none)
