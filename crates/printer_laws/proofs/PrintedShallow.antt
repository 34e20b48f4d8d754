-- No bracket of the canonical text of a rule file opens while 128 are open.
use Rattle.std.proofs.Common.{◌≡◌, ℕ, suc, ◌+◌, ◌<◌, true, List, [], ◌∷◌, length, slice_index_or, refl, sym, ap, ◌∙◌, subst, arith}
use Rattle.guard_lexer.specs.declared.token.Token.{Token}
use Rattle.guard_syntax.specs.Syntax.{File}
use Rattle.literal_parser.specs.Lexemes.{Word, Lexeme, lexemes, ending}
use Rattle.literal_parser.specs.Forms.{word_form, is_end, is_opening}
use Rattle.literal_parser.specs.Brackets.{open_behind, open_before, IsShallowTo}
use Rattle.literal_parser.proofs.Levels.{shallow_next}
use Rattle.literal_parser.specs.States.{start}
use Rattle.guard_parser.specs.File.{IsShallow, Rules}
use Rattle.guard_parser.proofs.Ends.{ends_behind}
use Rattle.rule_spelling.specs.code.Pieces.{Piece, tokens_from, lexemes_from}
use Rattle.rule_printer.specs.RuleText.{rule_text}
use Rattle.rule_printer.specs.code.RulePieces.{rule_pieces}
use Rattle.printer_laws.specs.code.Shown.{Shows}
use Rattle.printer_laws.proofs.PiecesShown.{pieces_shown}
use Rattle.printer_laws.proofs.PrintedNests.{contents_shallow}
use Rattle.printer_laws.proofs.PrintedRead.{as_many, printed_lexemes}
use Rattle.printer_laws.proofs.RoomShown.{HasRoom}
use Rattle.printer_laws.proofs.RoomInBlocks.{file_room}

module _ (t : ℕ → Lexeme) where
  -- lexemes that show pieces with room are as shallow
  shown_shallow : (ps : List Piece) (i at : ℕ) → Shows t i at ps → HasRoom (open_before t i) ps → IsShallowTo t i → IsShallowTo t (i + length ps)
  shown_shallow [] i at shows room before = let e : i ≡ i + 0 = omega arith in subst (λ (n : ℕ). IsShallowTo t n) e before
  shown_shallow (p ∷ ps) i at shows room before =
      let same = ap (λ (w : Word). word_form w) (shows.0) in
      let here = subst (λ (n : ℕ). is_opening n ≡ true → open_before t i < 128) (sym same) room.0 in
      let behind = subst (λ (n : ℕ). HasRoom (open_behind n (open_before t i)) ps) (sym same) room.1 in
      let e : suc i + length ps ≡ i + suc (length ps) = omega arith in
      subst (λ (n : ℕ). IsShallowTo t n) e (shown_shallow ps (suc i) (t i).to shows.2 behind (shallow_next t i before here))

pub printed_shallow : (text : List ℕ) (tokens : List Token) (f : File) → Rules text tokens f → IsShallow (rule_text f) (tokens_from 0 (rule_pieces f))
printed_shallow text tokens f (shallow, (b, contents, ends, placed, unmixed)) =
    let s = lexemes text tokens in
    let deep = contents_shallow s f.lets f.rules f.loose start b contents (subst (λ (n : ℕ). IsShallowTo s n) (sym ends) shallow) in
    let printed = tokens_from 0 (rule_pieces f) in
    let t = lexemes (rule_text f) printed in
    let size = as_many 0 (rule_pieces f) in
    let zero_more : 0 + length (rule_pieces f) ≡ length (rule_pieces f) = omega arith in
    let shown = pieces_shown t (ending (rule_text f)) (length printed) refl (λ j is. ends_behind (rule_text f) printed j (ap (λ (w : Word). is_end (word_form w)) is)) (rule_pieces f) 0 0 (zero_more ∙ size)
    (λ j. let x : 0 + j ≡ j = omega arith in subst (λ (k : ℕ). t k ≡ slice_index_or (lexemes_from 0 (rule_pieces f)) j (ending (rule_text f))) (sym x) (printed_lexemes f j)) in
    subst (λ (n : ℕ). IsShallowTo t n) (zero_more ∙ size) (shown_shallow t (rule_pieces f) 0 0 shown (file_room f deep) (λ i less. absurd (omega arith)))
