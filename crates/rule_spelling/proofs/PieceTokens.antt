-- Pieces that fit are the tokens of the text that they spell; by induction on the pieces.
use Rattle.std.proofs.Common.{◌≡◌, ℕ, ◌+◌, ◌-◌, Bool, true, false, List, [], ◌∷◌, ◌++◌, length, map, take, drop, None, refl, sym, ap, ◌∙◌, subst, arith, inl, inr, append_assoc, length-append}
use Rattle.std.specs.Prelude.{slice_range, slice_index_or}
use Rattle.std.proofs.lemmas.Bool.{true≢false}
use Rattle.std.proofs.lemmas.List.{take_at, drop_at}
use Rattle.guard_lexer.specs.Bytes.{is_white, Each}
use Rattle.guard_lexer.specs.Forms.{form_of}
use Rattle.guard_lexer.specs.Lexes.{IsGap, Takes, Reads, IsTokenList, is_dot}
use Rattle.guard_lexer.proofs.Reaches.{no_form}
use Rattle.literal_parser.specs.Lexemes.{lexeme_of, lexemes, ending, word_of}
use Rattle.rule_spelling.specs.code.Pieces.{Piece, spelled, token_from, tokens_from, lexeme_from, lexemes_from, IsFit, AreFit, ends_in_dot}
use Rattle.rule_spelling.proofs.TokenEnds.{token_is}

white_gap : (behind gap : List ℕ) → Each is_white gap → IsGap behind gap
white_gap behind [] h = tt
white_gap behind (b ∷ gap) (e, h) = inl (e, white_gap behind gap h)

piece_taken : (dot : Bool) (at : ℕ) (p : Piece) (behind : List ℕ) → IsFit dot p behind → Takes dot at (p.gap ++ (p.text ++ behind)) (token_from at p) behind
piece_taken dot at p behind f = record {
  gap = p.gap;
  text = p.text;
  joined = refl;
  blank = white_gap (p.text ++ behind) p.gap f.blank;
  from = refl;
  to = refl;
  is = token_is dot p.kind p.text behind f.form f.worth f.ends;
}

pieces_read : (dot : Bool) (at : ℕ) (pieces : List Piece) (end : List ℕ) → AreFit dot pieces end → Each is_white end → Reads dot at (spelled pieces end) (tokens_from at pieces) None
pieces_read dot at [] end f w = white_gap [] end w
pieces_read dot at (p ∷ ps) end (f, fs) w = (spelled ps end, piece_taken dot at p (spelled ps end) f, pieces_read (is_dot p.kind) (at + length p.gap + length p.text) ps end fs w)

-- ---- no byte order mark in front

no_mark : (rest : List ℕ) → is_white 239 ≡ true → ⊥
no_mark rest e = true≢false (sym e)

front_unmarked : (dot : Bool) (p : Piece) (behind rest : List ℕ) → IsFit dot p behind → p.gap ++ (p.text ++ behind) ≡ 239 ∷ 187 ∷ 191 ∷ rest → ⊥
front_unmarked dot p behind rest f e = by p.gap f.blank e
  where
    by : (gap : List ℕ) → Each is_white gap → gap ++ (p.text ++ behind) ≡ 239 ∷ 187 ∷ 191 ∷ rest → ⊥
    by [] h j = no_form dot (239 ∷ 187 ∷ 191 ∷ rest) refl (form_of p.kind) p.text behind (sym j) f.form
    by (b ∷ gap) (w, h) j = let s : b ≡ 239 = cc in true≢false (sym w ∙ ap is_white s)

unmarked : (pieces : List Piece) (end rest : List ℕ) → AreFit false pieces end → Each is_white end → spelled pieces end ≡ 239 ∷ 187 ∷ 191 ∷ rest → ⊥
unmarked [] [] rest f w e = cc
unmarked [] (b ∷ end) rest f (w, h) e = let s : b ≡ 239 = cc in true≢false (sym w ∙ ap is_white s)
unmarked (p ∷ ps) end rest (f, fs) w e = front_unmarked false p (spelled ps end) rest f e

pub are_tokens : (pieces : List Piece) (end : List ℕ) → AreFit false pieces end → Each is_white end → IsTokenList (spelled pieces end) (tokens_from 0 pieces)
are_tokens pieces end f w = (0, spelled pieces end, inr (refl, refl, λ rest e. unmarked pieces end rest f w e), pieces_read false 0 pieces end f w)

-- ---- lexemes

part_is : (front text behind : List ℕ) → slice_range (front ++ (text ++ behind)) (length front) (length front + length text) ≡ text
part_is front text behind =
    let n : length front + length text - length front ≡ length text = omega arith in
    ap (λ k. take k (drop (length front) (front ++ (text ++ behind)))) n ∙ ap (take (length text)) (drop_at front (text ++ behind) (length front) refl) ∙ take_at text behind (length text) refl

module _ (text : List ℕ) where
  lexeme_is : (before : List ℕ) (p : Piece) (behind : List ℕ) → text ≡ before ++ (p.gap ++ (p.text ++ behind)) → lexeme_of text (token_from (length before) p) ≡ lexeme_from (length before) p
  lexeme_is before p behind e =
      let n : length (before ++ p.gap) ≡ length before + length p.gap = length-append before p.gap in
      let j : text ≡ (before ++ p.gap) ++ (p.text ++ behind) = e ∙ sym (append_assoc before p.gap (p.text ++ behind)) in
      let s : slice_range text (length before + length p.gap) (length before + length p.gap + length p.text) ≡ p.text =
      ap (λ x. slice_range x (length before + length p.gap) (length before + length p.gap + length p.text)) j
      ∙ ap (λ i. slice_range ((before ++ p.gap) ++ (p.text ++ behind)) i (i + length p.text)) (sym n) ∙ part_is (before ++ p.gap) p.text behind in
      ap (λ x. record { word = word_of p.kind x; from = length before + length p.gap; to = length before + length p.gap + length p.text }) s

  lexemes_are : (before : List ℕ) (pieces : List Piece) (end : List ℕ) → text ≡ before ++ spelled pieces end → map (lexeme_of text) (tokens_from (length before) pieces) ≡ lexemes_from (length before) pieces
  lexemes_are before [] end e = refl
  lexemes_are before (p ∷ ps) end e =
      let next : List ℕ = (before ++ p.gap) ++ p.text in
      let n : length next ≡ length before + length p.gap + length p.text = length-append (before ++ p.gap) p.text ∙ ap (λ i. i + length p.text) (length-append before p.gap) in
      let j : text ≡ next ++ spelled ps end = e ∙ sym (append_assoc before p.gap (p.text ++ spelled ps end)) ∙ sym (append_assoc (before ++ p.gap) p.text (spelled ps end)) in
      let rest : map (lexeme_of text) (tokens_from (length before + length p.gap + length p.text) ps) ≡ lexemes_from (length before + length p.gap + length p.text) ps =
      subst (λ i. map (lexeme_of text) (tokens_from i ps) ≡ lexemes_from i ps) n (lexemes_are next ps end j) in
      ap (λ x. x ∷ map (lexeme_of text) (tokens_from (length before + length p.gap + length p.text) ps)) (lexeme_is before p (spelled ps end) e) ∙ ap (λ xs. lexeme_from (length before) p ∷ xs) rest

pub are_lexemes : (pieces : List Piece) (end : List ℕ) → map (lexeme_of (spelled pieces end)) (tokens_from 0 pieces) ≡ lexemes_from 0 pieces
are_lexemes pieces end = lexemes_are (spelled pieces end) [] pieces end refl

pub lexemes_by : (pieces : List Piece) (end : List ℕ) (i : ℕ) → lexemes (spelled pieces end) (tokens_from 0 pieces) i ≡ slice_index_or (lexemes_from 0 pieces) i (ending (spelled pieces end))
lexemes_by pieces end i = ap (λ xs. slice_index_or xs i (ending (spelled pieces end))) (are_lexemes pieces end)

-- ---- pieces behind others

pub spelled_joined : (first second : List Piece) (end : List ℕ) → spelled (first ++ second) end ≡ spelled first (spelled second end)
spelled_joined [] second end = refl
spelled_joined (p ∷ ps) second end = ap (λ x. p.gap ++ (p.text ++ x)) (spelled_joined ps second end)

pub fit_joined : (dot : Bool) (first second : List Piece) (end : List ℕ) → AreFit dot first (spelled second end) → AreFit (ends_in_dot dot first) second end → AreFit dot (first ++ second) end
fit_joined dot [] second end f g = g
fit_joined dot (p ∷ ps) second end (f, fs) g = (subst (λ x. IsFit dot p x) (sym (spelled_joined ps second end)) f, fit_joined (is_dot p.kind) ps second end fs g)
