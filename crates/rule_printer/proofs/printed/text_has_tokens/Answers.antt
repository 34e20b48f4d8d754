use Rattle.std.proofs.Common.{false, subst}
use Rattle.guard_lexer.specs.Lexes.{IsTokenList}
use Rattle.rule_spelling.specs.code.Pieces.{tokens_from}
use Rattle.rule_spelling.proofs.Apart.{apart_fit}
use Rattle.rule_spelling.proofs.PieceTokens.{are_tokens}
use Rattle.rule_printer.specs.code.RulePieces.{rule_pieces, file_end}
use Rattle.rule_printer.proofs.KeptApart.{pieces_apart, end_white}
use Rattle.rule_printer.proofs.TextInPieces.{rule_text-in-pieces}
use Rattle.rule_printer.proofs.printed.text_has_tokens.Goals as goal

pub returns-clause-apart : goal.returns-clause-apart
returns-clause-apart c = pieces_apart

pub returns-clause-tokens : goal.returns-clause-tokens
returns-clause-tokens c f h =
    subst (λ text. IsTokenList text (tokens_from 0 (rule_pieces f))) (rule_text-in-pieces f)
    (are_tokens (rule_pieces f) (file_end f) (apart_fit false (rule_pieces f) (file_end f) (pieces_apart f h) (end_white f)) (end_white f))
