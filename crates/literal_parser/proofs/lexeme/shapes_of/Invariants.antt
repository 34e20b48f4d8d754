use Rattle.std.proofs.Common.{◌≡◌, ◌≤◌, length, map, take}
use Rattle.std.specs.Prelude.{vec_len, vec_capacity}
use Rattle.guard_lexer.specs.declared.token.Token.{Token}
use Rattle.literal_parser.specs.Lexemes.{lexeme_of}
use Rattle.literal_parser.specs.code.TokenClasses.{shape_of}
use Rattle.literal_parser.proofs.lexeme.shapes_of.Given as goal

abbrev pub invariant-loop-token : goal.invariant-loop-token
invariant-loop-token l = (l.shapes.items ≡ map (λ (t : Token). shape_of (lexeme_of l.text t)) (take l.token-index l.tokens)) × (vec_len l.shapes ≡ l.token-index) × (length l.tokens ≤ vec_capacity l.shapes)
