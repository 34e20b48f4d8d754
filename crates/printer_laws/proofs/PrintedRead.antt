-- The canonical text of a syntax is read as the syntax.
use Rattle.std.proofs.Common.{◌≡◌, ℕ, suc, ◌+◌, false, List, [], ◌∷◌, length, None, refl, ap, subst}
use Rattle.std.specs.Prelude.{slice_index_or}
use Rattle.guard_lexer.specs.declared.token.Token.{Token}
use Rattle.guard_lexer.specs.Lexes.{IsTokenList}
use Rattle.guard_syntax.specs.Syntax.{File}
use Rattle.literal_parser.specs.Lexemes.{lexemes, ending}
use Rattle.guard_parser.specs.File.{IsSpelled, Rules}
use Rattle.rule_spelling.specs.code.Pieces.{Piece, tokens_from, lexemes_from}
use Rattle.rule_spelling.proofs.Apart.{apart_fit}
use Rattle.rule_spelling.proofs.PieceTokens.{are_tokens, lexemes_by}
use Rattle.rule_printer.specs.RuleText.{rule_text}
use Rattle.rule_printer.specs.code.RulePieces.{rule_pieces, file_end}
use Rattle.rule_printer.proofs.GrammarSpelled.{file_spelled}
use Rattle.rule_printer.proofs.KeptApart.{pieces_apart, end_white}
use Rattle.rule_printer.proofs.TextInPieces.{rule_text-in-pieces}
use Rattle.printer_laws.specs.code.Unplaced.{AreSameButPlaces}
use Rattle.printer_laws.proofs.WordsRead.{lexeme_read}
use Rattle.printer_laws.proofs.PiecesShown.{text_told}
use Rattle.printer_laws.proofs.SameTexts.{rule_text-same}

pub as_many : (at : ℕ) (ps : List Piece) → length ps ≡ length (tokens_from at ps)
as_many at [] = refl
as_many at (p ∷ ps) = ap suc (as_many (at + length p.gap + length p.text) ps)

pub printed_lexemes : (f : File) (i : ℕ) → lexemes (rule_text f) (tokens_from 0 (rule_pieces f)) i ≡ slice_index_or (lexemes_from 0 (rule_pieces f)) i (ending (rule_text f))
printed_lexemes f i =
    subst (λ text. lexemes text (tokens_from 0 (rule_pieces f)) i ≡ slice_index_or (lexemes_from 0 (rule_pieces f)) i (ending text)) (rule_text-in-pieces f)
    (lexemes_by (rule_pieces f) (file_end f) i)

pub printed_tokens : (text : List ℕ) (tokens : List Token) (f : File) → IsTokenList text tokens → Rules text tokens f → IsTokenList (rule_text f) (tokens_from 0 (rule_pieces f))
printed_tokens text tokens f listed rules =
    let apart = pieces_apart f (file_spelled text tokens f listed rules) in
    subst (λ x. IsTokenList x (tokens_from 0 (rule_pieces f))) (rule_text-in-pieces f)
    (are_tokens (rule_pieces f) (file_end f) (apart_fit false (rule_pieces f) (file_end f) apart (end_white f)) (end_white f))

pub printed_spelled : (text : List ℕ) (tokens : List Token) (f : File) → IsTokenList text tokens → Rules text tokens f
    → (g : File) × AreSameButPlaces g f × IsSpelled (rule_text f) (tokens_from 0 (rule_pieces f)) g None × (rule_text g ≡ rule_text f)
printed_spelled text tokens f listed (shallow, spelled) =
    let told = text_told (lexemes text tokens) (length tokens) f (rule_text f) (tokens_from 0 (rule_pieces f)) (lexeme_read text tokens listed) spelled (as_many 0 (rule_pieces f)) (printed_lexemes f) in
    (told.0, told.1, told.2, rule_text-same told.0 f told.1)
