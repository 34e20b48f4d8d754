-- The pieces of the values of a key are read as the items of its list. By induction on the values.
use Rattle.std.proofs.Common.{◌≡◌, ℕ, suc, ◌+◌, ◌*◌, inl, Bool, true, false, not, List, [], ◌∷◌, None, codes, refl, sym, ap, ap₂, subst, ◌∙◌, arith, true≢false, ℤ, if◌then◌else◌}
use Rattle.doc_values.specs.Tree.{Label, has_text}
use Rattle.doc_values.specs.declared.kind.Kind.{Kind}
use Rattle.doc_values.specs.declared.kind.Kind.TheVariants as kind
use Rattle.guard_lexer.specs.declared.token.Mark.TheVariants as mark
use Rattle.literal_parser.specs.declared.keyword.Keyword.TheVariants as kw
use Rattle.literal_parser.specs.Forms.{form, is_comma, is_index_number, is_rbracket, is_scalar, whole_form, word_form}
use Rattle.literal_parser.specs.Lexemes.{Fraction, Lexeme, Reserved, Str, Whole, Word}
use Rattle.literal_parser.specs.Literal.{AreItems, AreMoreItems, scalar, scalar_kind, scalar_text}
use Rattle.rule_generator.specs.GeneratedRules.{is_plain}
use Rattle.rule_generator.specs.code.GeneratedPieces.{more_values, scalar_piece, value_pieces}
use Rattle.rule_meaning.specs.Values.{Value}
use Rattle.rule_spelling.proofs.Words.{keyword_word, text_word}
use Rattle.rule_spelling.specs.Spelling.{ends_in_backslash}
use Rattle.rule_spelling.specs.code.Pieces.{Piece}
use Rattle.rule_spelling.specs.code.Tokens as token
use Rattle.generator_laws.specs.code.GeneratedSyntax.{items_of}
use Rattle.generator_laws.specs.code.Standing.{AreScalars, Stands, behind_more, behind_values}
use Rattle.generator_laws.proofs.LetSpelled.{places, state, test}

turned : (b : Bool) → not b ≡ true → b ≡ false
turned true e = absurd (true≢false (sym e))
turned false e = refl

module _ (s : ℕ → Lexeme) (first : ℕ → ℕ) where
  -- a lexeme is a scalar, as a node of a list has it
  abbrev IsRead : ℕ → Kind → List ℕ → ℕ → Type 0
  IsRead i kd text at =
      (is_scalar (form (s i)) ≡ true) × (is_rbracket (form (s i)) ≡ false)
      × (let l : Label = record { kind = kd; text = text; key = None; at = at } in l ≡ scalar None (s i))

  read : (i at : ℕ) (w : Word) → (s i).word ≡ w → at ≡ (s i).from → is_scalar (word_form w) ≡ true → is_rbracket (word_form w) ≡ false → IsRead i (scalar_kind w) (scalar_text w) at
  read i at w e c sc br = (
    ap (λ (x : Word). is_scalar (word_form x)) e ∙ sc,
    ap (λ (x : Word). is_rbracket (word_form x)) e ∙ br,
    ap₂ (λ (x : Word) (from : ℕ). let l : Label = record { kind = scalar_kind x; text = scalar_text x; key = None; at = from } in l) (sym e) c,
  )

  plain : (kd : Kind) (text : List ℕ) (i at : ℕ) → text ≡ [] → IsRead i kd [] at → IsRead i kd text at
  plain kd text i at e r = subst (λ (t : List ℕ). IsRead i kd t at) (sym e) r

  whole-scalar : (n : ℤ) → is_scalar (whole_form n) ≡ true
  whole-scalar n = by (is_index_number n)
    where
      by : (b : Bool) → is_scalar (if b then 6 else 9) ≡ true
      by true = refl
      by false = refl

  whole-inside : (n : ℤ) → is_rbracket (whole_form n) ≡ false
  whole-inside n = by (is_index_number n)
    where
      by : (b : Bool) → is_rbracket (if b then 6 else 9) ≡ false
      by true = refl
      by false = refl

  scalar-read : (gap : List ℕ) (kd : Kind) (text : List ℕ) (rest : List Piece) (i at : ℕ) → is_plain kd text ≡ true → (has_text kd ≡ false → text ≡ []) → Stands s i (scalar_piece gap kd text rest) → at ≡ (s i).from
      → IsRead i kd text at
  scalar-read gap kind.Text text rest i at p t h c = read i at (Str text) (h.0 ∙ (text_word false text (turned (ends_in_backslash text) p)).1) c refl refl
  scalar-read gap (kind.Whole n) text rest i at p t h c = plain (kind.Whole n) text i at (t refl) (read i at (Whole n) h.0 c (whole-scalar n) (whole-inside n))
  scalar-read gap (kind.Fraction d) text rest i at p t h c = plain (kind.Fraction d) text i at (t refl) (read i at (Fraction d) h.0 c refl refl)
  scalar-read gap (kind.Truth true) text rest i at p t h c = plain (kind.Truth true) text i at (t refl) (read i at (Reserved kw.True (codes "true")) (h.0 ∙ (keyword_word false kw.True).1) c refl refl)
  scalar-read gap (kind.Truth false) text rest i at p t h c = plain (kind.Truth false) text i at (t refl) (read i at (Reserved kw.False (codes "false")) (h.0 ∙ (keyword_word false kw.False).1) c refl refl)
  scalar-read gap kind.Null text rest i at p t h c = plain kind.Null text i at (t refl) (read i at (Reserved kw.Null (codes "null")) (h.0 ∙ (keyword_word false kw.Null).1) c refl refl)
  scalar-read gap kind.List text rest i at p t h c = absurd (true≢false (sym p))
  scalar-read gap kind.Map text rest i at p t h c = absurd (true≢false (sym p))
  scalar-read gap kind.Pattern text rest i at p t h c = absurd (true≢false (sym p))
  scalar-read gap (kind.Limits r) text rest i at p t h c = absurd (true≢false (sym p))

  -- ---- what stands behind values

  scalar-behind : (gap : List ℕ) (kd : Kind) (text : List ℕ) (rest : List Piece) (i : ℕ) → Stands s i (scalar_piece gap kd text rest) → Stands s (suc i) rest
  scalar-behind gap kind.Text text rest i h = h.1
  scalar-behind gap (kind.Whole n) text rest i h = h.1
  scalar-behind gap (kind.Fraction d) text rest i h = h.1
  scalar-behind gap (kind.Truth b) text rest i h = h.1
  scalar-behind gap kind.Null text rest i h = h.1
  scalar-behind gap kind.List text rest i h = h.1
  scalar-behind gap kind.Map text rest i h = h.1
  scalar-behind gap kind.Pattern text rest i h = h.1
  scalar-behind gap (kind.Limits r) text rest i h = h.1

  more-behind : (vs : List Value) (rest : List Piece) (i : ℕ) → Stands s i (more_values vs rest) → Stands s (behind_more i vs) rest
  more-behind [] rest i h = h
  more-behind (v ∷ vs) rest i h = more-behind vs rest (suc (suc i)) (scalar-behind token.space v.kind v.text (more_values vs rest) (suc i) h.1)

  pub values-behind : (vs : List Value) (rest : List Piece) (i : ℕ) → Stands s i (value_pieces vs rest) → Stands s (behind_values i vs) rest
  values-behind [] rest i h = h
  values-behind (v ∷ vs) rest i h = more-behind vs rest (suc i) (scalar-behind [] v.kind v.text (more_values vs rest) i h)

  -- ---- items

  more-read : (vs : List Value) (rest : List Piece) (i n site j : ℕ) → AreScalars vs → first site + 2 * j ≡ i → Stands s i (more_values vs (token.mark [] mark.RBracket rest))
      → AreMoreItems s (items_of ((places s first).of_item site) j vs) (state s first i n) (state s first (behind_more i vs) n)
  more-read [] rest i n site j a e h = (test s first is_comma i _ h.0, refl)
  more-read (v ∷ vs) rest i n site j a e h =
      let r = scalar-read token.space v.kind v.text (more_values vs (token.mark [] mark.RBracket rest)) (suc i) (((places s first).of_item site) j) a.0.0 a.0.1 h.1 (ap (λ (x : ℕ). (s (suc x)).from) e) in
      let next : first site + 2 * suc j ≡ suc (suc i) = omega arith in (
        state s first (suc i) n,
        (test s first is_comma i _ h.0, refl),
        (
          state s first (suc (suc i)) n,
          inl (refl, (r.0, r.2, refl)),
          more-read vs rest (suc (suc i)) n site (suc j) a.1 next (scalar-behind token.space v.kind v.text (more_values vs (token.mark [] mark.RBracket rest)) (suc i) h.1),
        ),
      )

  pub items-read : (vs : List Value) (rest : List Piece) (i n site : ℕ) → AreScalars vs → first site ≡ i → Stands s (suc i) (value_pieces vs (token.mark [] mark.RBracket rest))
      → AreItems s (items_of ((places s first).of_item site) 0 vs) (state s first (suc i) n) (state s first (behind_values (suc i) vs) n)
  items-read [] rest i n site a e h = (test s first is_rbracket (suc i) _ h.0, refl)
  items-read (v ∷ vs) rest i n site a e h =
      let here : first site + 2 * 0 ≡ i = omega arith in
      let r = scalar-read [] v.kind v.text (more_values vs (token.mark [] mark.RBracket rest)) (suc i) (((places s first).of_item site) 0) a.0.0 a.0.1 h (ap (λ (x : ℕ). (s (suc x)).from) here) in
      let next : first site + 2 * 1 ≡ suc (suc i) = omega arith in (
        r.1,
        (
          state s first (suc (suc i)) n,
          inl (refl, (r.0, r.2, refl)),
          more-read vs rest (suc (suc i)) n site 1 a.1 next (scalar-behind [] v.kind v.text (more_values vs (token.mark [] mark.RBracket rest)) (suc i) h),
        ),
      )
