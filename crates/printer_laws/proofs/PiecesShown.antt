-- The lexemes of pieces show them, and a file that they spell to the first end is spelled by all of them.
use Rattle.std.proofs.Common.{◌≡◌, ℕ, suc, ◌+◌, ◌≤◌, List, [], ◌∷◌, length, slice_index_or, None, refl, sym, ap, ◌∙◌, subst, arith}
use Rattle.guard_lexer.specs.declared.token.Token.{Token}
use Rattle.guard_syntax.specs.Syntax.{File}
use Rattle.literal_parser.specs.Lexemes.{Lexeme, Word, End, lexemes, ending}
use Rattle.literal_parser.specs.Forms.{word_form, is_end}
use Rattle.guard_parser.specs.File.{IsSpelled, IsSpelledBy}
use Rattle.guard_parser.proofs.Ends.{end_is, ends_behind}
use Rattle.rule_spelling.specs.code.Pieces.{Piece, lexeme_from, lexemes_from}
use Rattle.rule_printer.specs.code.RulePieces.{rule_pieces}
use Rattle.printer_laws.specs.code.Unplaced.{unplaced}
use Rattle.printer_laws.specs.code.Shown.{IsReadBack, Shows}
use Rattle.printer_laws.proofs.FilesShown.{file_told}

module _ (t : ℕ → Lexeme) (e : Lexeme) (total : ℕ) (ends : e.word ≡ End) (first : (j : ℕ) → (t j).word ≡ End → total ≤ j) where
  end_word : (x : Lexeme) → x ≡ e → x.word ≡ End
  end_word x same = ap (λ (z : Lexeme). z.word) same ∙ ends

  pub pieces_shown : (ps : List Piece) (i at : ℕ) → i + length ps ≡ total → ((j : ℕ) → t (i + j) ≡ slice_index_or (lexemes_from at ps) j e) → Shows t i at ps
  pieces_shown [] i at size same =
      let here : i + 0 ≡ i = omega arith in
      let next : i + 1 ≡ suc i = omega arith in
      (end_word (t i) (subst (λ (k : ℕ). t k ≡ e) here (same 0)), end_word (t (suc i)) (subst (λ (k : ℕ). t k ≡ e) next (same 1)), λ j is. let x = first j is in omega arith)
  pieces_shown (p ∷ ps) i at size same =
      let here : i + 0 ≡ i = omega arith in
      let own : t i ≡ lexeme_from at p = subst (λ (k : ℕ). t k ≡ lexeme_from at p) here (same 0) in
      let size_more : suc i + length ps ≡ total = omega (arith, size) in (
        ap (λ (z : Lexeme). z.word) own,
        ap (λ (z : Lexeme). z.from) own,
        subst (λ (k : ℕ). Shows t (suc i) k ps) (sym (ap (λ (z : Lexeme). z.to) own))
            (pieces_shown ps (suc i) (at + length p.gap + length p.text) size_more (λ j. let further : i + suc j ≡ suc i + j = omega arith in subst (λ (k : ℕ). t k ≡ slice_index_or (lexemes_from (at + length p.gap + length p.text) ps) j e) further (same (suc j)))),
      )

-- the text whose lexemes are those of a file's pieces spells a file that is the same but for places
pub text_told : (s : ℕ → Lexeme) (n : ℕ) (f : File) (text : List ℕ) (tokens : List Token) → ((i : ℕ) → IsReadBack (s i).word) → IsSpelledBy s n f None → length (rule_pieces f) ≡ length tokens
    → ((i : ℕ) → lexemes text tokens i ≡ slice_index_or (lexemes_from 0 (rule_pieces f)) i (ending text)) → (g : File) × (unplaced g ≡ unplaced f) × IsSpelled text tokens g None
text_told s n f text tokens reads spelled size same =
    let t = lexemes text tokens in
    let first : (j : ℕ) → (t j).word ≡ End → length tokens ≤ j = λ j is. ends_behind text tokens j (ap (λ (w : Word). is_end (word_form w)) is) in
    let shown = pieces_shown t (ending text) (length tokens) refl first (rule_pieces f) 0 0 (let x : 0 + length (rule_pieces f) ≡ length (rule_pieces f) = omega arith in x ∙ size)
    (λ j. let x : 0 + j ≡ j = omega arith in subst (λ (k : ℕ). t k ≡ slice_index_or (lexemes_from 0 (rule_pieces f)) j (ending text)) (sym x) (same j)) in
    let told = file_told s t reads n f spelled shown in
    let last = told.5 in
    let behind : length tokens ≤ told.2 = first told.2 last.0 in
    let before : told.2 ≤ length tokens = last.2 (length tokens) (ap (λ (x : Lexeme). x.word) (end_is text tokens (ending text))) in
    let there : told.2 ≡ length tokens = omega arith in
    (told.0, told.1, subst (λ (k : ℕ). IsSpelledBy t k told.0 None) there told.3)
