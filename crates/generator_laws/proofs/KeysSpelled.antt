-- The pieces of the tests of keys are read as these. By induction on the keys.
use Rattle.std.proofs.Common.{◌≡◌, ℕ, suc, ◌+◌, ◌-◌, inl, inr, Bool, true, false, List, [], ◌∷◌, ◌++◌, length, None, codes, refl, sym, ap, ◌∙◌, arith}
use Rattle.doc_values.specs.Tree.{Label}
use Rattle.doc_values.specs.declared.kind.Kind.TheVariants as kind
use Rattle.guard_lexer.specs.declared.token.Mark.TheVariants as mark
use Rattle.literal_parser.specs.declared.keyword.Keyword.TheVariants as kw
use Rattle.literal_parser.specs.Forms.{begins_step, form, is_dot, is_key, is_lbracket, is_led, is_neg, is_note, is_operator_word, is_or, is_plain, is_rbracket, is_var, operator_in, text_in, word_form}
use Rattle.literal_parser.specs.Lexemes.{Lexeme, Name, Reserved, Sign, Str, Var, Word, keyword_of, name_word, word_of}
use Rattle.guard_lexer.specs.declared.token.TokenKind.TheVariants as token_kind
use Rattle.guard_parser.specs.Grammar.{ALet, APart, AreDisjs, AreLets, InRow, IsDisj, body_sort, of_sort}
use Rattle.guard_parser.specs.Grammar as grammar
use Rattle.guard_syntax.specs.Syntax.{no_lets}
use Rattle.rule_generator.specs.GeneratedRules.{KeptKey}
use Rattle.rule_generator.specs.code.GeneratedPieces.{key_pieces, keys_pieces, new_line, numbered}
use Rattle.rule_spelling.proofs.Words.{keyword_word, text_word, whole}
use Rattle.rule_spelling.specs.Spelling.{ends_in_backslash}
use Rattle.rule_spelling.specs.code.Pieces.{Piece}
use Rattle.rule_spelling.specs.code.Tokens as token
use Rattle.generator_laws.specs.code.GeneratedSyntax.{key_parts, key_test, one_part}
use Rattle.generator_laws.specs.code.Standing.{AreReadable, AreScalars, Begin, Stands, behind_key, behind_keys, behind_values, key_firsts, keys_firsts, sites_behind}
use Rattle.generator_laws.proofs.LetSpelled.{literal-plain, opens, places, state, test}
use Rattle.generator_laws.proofs.ValuesSpelled.{items-read, values-behind}

pub variable-read : (name : List ℕ) → word_of token_kind.Var (codes "%" ++ name) ≡ Var name
variable-read name = ap (λ (x : List ℕ). Var x) (whole (suc (length name) - 1) name (omega arith))

properties-free : keyword_of (codes "Properties") ≡ None
unfolding keyword_of
properties-free = refl

module _ (s : ℕ → Lexeme) (first : ℕ → ℕ) where
  pub var-led : (full : Bool) (i : ℕ) → form (s i) ≡ 3 → is_led full (form (s i)) (form (s (suc i))) (form (s (suc (suc i)))) ≡ true
  var-led full i e = ap (λ (x : ℕ). is_led full x (form (s (suc i))) (form (s (suc (suc i))))) e

  key-spelled : (i n m k : ℕ) (kept : KeptKey) (rest : List Piece) → n ≡ m → ends_in_backslash kept.key ≡ false → AreScalars kept.values → Begin first m (key_firsts i) → Stands s i (key_pieces k kept rest)
      → is_or (form (s (behind_key i kept))) ≡ false → is_note (form (s (behind_key i kept))) ≡ false
      → IsDisj s true (one_part n (key_test (places s first) (n + 1) k kept)) (state s first i m) (state s first (behind_key i kept) (suc (suc (suc (suc (suc (suc (suc m))))))))
  key-spelled i n m k kept rest e quotable scalars c h no-or no-note =
      let w0 : (s (i)).word ≡ Var (numbered k) = h.0 ∙ variable-read (numbered k) in
      let w1 : (s (suc i)).word ≡ Sign mark.Dot = h.1.0 in
      let w2 : (s (suc (suc i))).word ≡ Name (codes "Properties") = h.1.1.0 ∙ ap (λ o. name_word o (codes "Properties")) properties-free in
      let w3 : (s (suc (suc (suc i)))).word ≡ Sign mark.Dot = h.1.1.1.0 in
      let w4 : (s (suc (suc (suc (suc i))))).word ≡ Str kept.key = h.1.1.1.1.0 ∙ (text_word false kept.key quotable).1 in
      let w5 : (s (suc (suc (suc (suc (suc i)))))).word ≡ Reserved kw.In (codes "IN") = h.1.1.1.1.1.0 ∙ (keyword_word false kw.In).1 in
      let w6 : (s (suc (suc (suc (suc (suc (suc i))))))).word ≡ Sign mark.LBracket = h.1.1.1.1.1.1.0 in
      let j : ℕ = behind_values (suc (suc (suc (suc (suc (suc (suc i))))))) kept.values in
      let close = values-behind s first kept.values (token.mark [] mark.RBracket rest) (suc (suc (suc (suc (suc (suc (suc i))))))) h.1.1.1.1.1.1.1 in
      let form0 : form (s i) ≡ 3 = ap word_form w0 in
      let site6 : n + 1 + 5 ≡ (suc (suc (suc (suc (suc (suc m)))))) = omega arith in
      let at6 : first (n + 1 + 5) ≡ (suc (suc (suc (suc (suc (suc i)))))) = ap first site6 ∙ c.1.1.1.1.1.1.0 in (
        state s first (i) (suc m),
        opens s first (i) (m) (n) (omega arith) c.0,
        (
          state s first (suc j) (suc (suc (suc (suc (suc (suc (suc m))))))),
          (
            state s first (i) (suc (suc m)),
            opens s first (i) (suc m) (n + 1) (omega arith) c.1.0,
            (
              state s first (i) (suc (suc m)),
              (var-led true (i) form0, refl),
              (
                state s first (suc (suc (suc (suc (suc i))))) (suc (suc (suc (suc (suc (suc m)))))),
                (
                  state s first (i) (suc (suc (suc m))),
                  opens s first (i) (suc (suc m)) (n + 1 + 1) (omega arith) c.1.1.0,
                  (
                    state s first (suc i) (suc (suc (suc (suc m)))),
                    (
                      state s first (i) (suc (suc (suc (suc m)))),
                      opens s first (i) (suc (suc (suc m))) (n + 1 + 1 + 1) (omega arith) c.1.1.1.0,
                      (test s first is_var (i) _ w0, sym (ap text_in w0), refl),
                    ),
                    (
                      test s first begins_step (suc i) _ w1,
                      (
                        state s first (suc (suc (suc i))) (suc (suc (suc (suc (suc m))))),
                        (
                          state s first (suc i) (suc (suc (suc (suc (suc m))))),
                          opens s first (suc i) (suc (suc (suc (suc m)))) (n + 1 + 1 + 2) (omega arith) c.1.1.1.1.0,
                          (
                            state s first (suc (suc i)) (suc (suc (suc (suc (suc m))))),
                            (test s first is_dot (suc i) _ w1, refl),
                            (test s first is_key (suc (suc i)) _ w2, sym (ap text_in w2), refl),
                          ),
                        ),
                        (
                          test s first begins_step (suc (suc (suc i))) _ w3,
                          (
                            state s first (suc (suc (suc (suc (suc i))))) (suc (suc (suc (suc (suc (suc m)))))),
                            (
                              state s first (suc (suc (suc i))) (suc (suc (suc (suc (suc (suc m)))))),
                              opens s first (suc (suc (suc i))) (suc (suc (suc (suc (suc m))))) (n + 1 + 1 + 3) (omega arith) c.1.1.1.1.1.0,
                              (
                                state s first (suc (suc (suc (suc i)))) (suc (suc (suc (suc (suc (suc m)))))),
                                (test s first is_dot (suc (suc (suc i))) _ w3, refl),
                                (test s first is_key (suc (suc (suc (suc i)))) _ w4, sym (ap text_in w4), refl),
                              ),
                            ),
                            (test s first begins_step (suc (suc (suc (suc (suc i))))) _ w5, refl),
                          ),
                        ),
                      ),
                    ),
                  ),
                ),
                (
                  state s first (suc (suc (suc (suc (suc (suc i)))))) (suc (suc (suc (suc (suc (suc m)))))),
                  inr (state s first (suc (suc (suc (suc (suc i))))) (suc (suc (suc (suc (suc (suc m)))))), (test s first is_neg (suc (suc (suc (suc (suc i))))) _ w5, refl), (test s first is_operator_word (suc (suc (suc (suc (suc i))))) _ w5, sym (ap operator_in w5), refl)),
                  (
                    state s first (suc j) (suc (suc (suc (suc (suc (suc (suc m))))))),
                    (
                      refl,
                      (
                        literal-plain s first (suc (suc (suc (suc (suc (suc i)))))) (suc (suc (suc (suc (suc (suc (suc i))))))) (test s first is_plain (suc (suc (suc (suc (suc (suc i)))))) _ w6),
                        (
                          state s first (suc (suc (suc (suc (suc (suc i)))))) (suc (suc (suc (suc (suc (suc (suc m))))))),
                          opens s first (suc (suc (suc (suc (suc (suc i)))))) (suc (suc (suc (suc (suc (suc m)))))) (n + 1 + 5) (omega arith) c.1.1.1.1.1.1.0,
                          inr (inr (inl (
                            state s first (suc (suc (suc (suc (suc (suc (suc i))))))) (suc (suc (suc (suc (suc (suc (suc m))))))),
                            (test s first is_lbracket (suc (suc (suc (suc (suc (suc i)))))) _ w6, ap (λ (x : ℕ). let l : Label = record { kind = kind.List; text = []; key = None; at = (s x).from } in l) at6, refl),
                            (
                              state s first j (suc (suc (suc (suc (suc (suc (suc m))))))),
                              items-read s first kept.values rest (suc (suc (suc (suc (suc (suc i)))))) (suc (suc (suc (suc (suc (suc (suc m))))))) (n + 1 + 5) scalars at6 h.1.1.1.1.1.1.1,
                              (test s first is_rbracket j _ close.0, refl),
                            ),
                          ))),
                        ),
                      ),
                    ),
                    (no-note, refl),
                  ),
                ),
              ),
            ),
          ),
          (no-or, refl),
        ),
      )

  -- what stands behind keys, and what the first lexeme of them or of the brace behind them is
  key-behind : (i k : ℕ) (kept : KeptKey) (rest : List Piece) → Stands s i (key_pieces k kept rest) → Stands s (behind_key i kept) rest
  key-behind i k kept rest h = (values-behind s first kept.values (token.mark [] mark.RBracket rest) (suc (suc (suc (suc (suc (suc (suc i))))))) h.1.1.1.1.1.1.1).1

  pub keys-behind : (i k : ℕ) (keys : List KeptKey) (rest : List Piece) → Stands s i (keys_pieces k keys rest) → Stands s (behind_keys i keys) rest
  keys-behind i k [] rest h = h
  keys-behind i k (kept ∷ keys) rest h = keys-behind (behind_key i kept) k keys rest (key-behind i k kept (keys_pieces k keys rest) h)

  next-is : (f : ℕ → Bool) (v : Bool) (i k : ℕ) (keys : List KeptKey) (rest : List Piece) → f 3 ≡ v → f 11 ≡ v → Stands s i (keys_pieces k keys (token.mark new_line mark.RBrace rest)) → f (form (s i)) ≡ v
  next-is f v i k [] rest p q h = test s first f i _ h.0 ∙ q
  next-is f v i k (kept ∷ keys) rest p q h = test s first f i (Var (numbered k)) (h.0 ∙ variable-read (numbered k)) ∙ p

  -- ---- all keys

  abbrev pub key_rows : ℕ → ℕ → List KeptKey → List grammar.Piece
  key_rows i m [] = []
  key_rows i m (kept ∷ keys) = record { sort = APart; from = state s first i m; to = state s first (behind_key i kept) (suc (suc (suc (suc (suc (suc (suc m))))))) } ∷ key_rows (behind_key i kept) (suc (suc (suc (suc (suc (suc (suc m))))))) keys

  pub in-row : (i m k : ℕ) (keys : List KeptKey) (rest : List Piece) → Stands s i (keys_pieces k keys (token.mark new_line mark.RBrace rest))
      → InRow s body_sort (key_rows i m keys) (state s first i m) (state s first (behind_keys i keys) (sites_behind m keys))
  in-row i m k [] rest h = (ap (λ (x : Word). body_sort (word_form x)) h.0, refl)
  in-row i m k (kept ∷ keys) rest h =
      (ap (λ (x : Word). body_sort (word_form x)) (h.0 ∙ variable-read (numbered k)), refl, in-row (behind_key i kept) (suc (suc (suc (suc (suc (suc (suc m))))))) k keys rest (key-behind i k kept (keys_pieces k keys (token.mark new_line mark.RBrace rest)) h))

  pub no-lets-there : (i m : ℕ) (keys : List KeptKey) → AreLets s no_lets (of_sort ALet (key_rows i m keys))
  no-lets-there i m [] = tt
  no-lets-there i m (kept ∷ keys) = no-lets-there (behind_key i kept) (suc (suc (suc (suc (suc (suc (suc m))))))) keys

  pub begin-split : (i m : ℕ) (keys : List KeptKey) (ys : List ℕ) → Begin first m (keys_firsts i keys ++ ys) → Begin first m (keys_firsts i keys) × Begin first (sites_behind m keys) ys
  begin-split i m [] ys c = (tt, c)
  begin-split i m (kept ∷ keys) ys c = let r = begin-split (behind_key i kept) (suc (suc (suc (suc (suc (suc (suc m))))))) keys ys c.1.1.1.1.1.1.1 in ((c.0, (c.1.0, (c.1.1.0, (c.1.1.1.0, (c.1.1.1.1.0, (c.1.1.1.1.1.0, (c.1.1.1.1.1.1.0, r.0))))))), r.1)

  pub keys-spelled : (i n m k : ℕ) (keys : List KeptKey) (rest : List Piece) → n ≡ m → AreReadable keys → Begin first m (keys_firsts i keys) → Stands s i (keys_pieces k keys (token.mark new_line mark.RBrace rest))
      → AreDisjs s (key_parts (places s first) n k keys) (of_sort APart (key_rows i m keys))
  keys-spelled i n m k [] rest e r c h = tt
  keys-spelled i n m k (kept ∷ keys) rest e r c h =
      let more : List Piece = keys_pieces k keys (token.mark new_line mark.RBrace rest) in
      let later = key-behind i k kept more h in (
        key-spelled i n m k kept more e r.0.0 r.0.1 (c.0, (c.1.0, (c.1.1.0, (c.1.1.1.0, (c.1.1.1.1.0, (c.1.1.1.1.1.0, (c.1.1.1.1.1.1.0, tt))))))) h (next-is is_or false (behind_key i kept) k keys rest refl refl later) (next-is is_note false (behind_key i kept) k keys rest refl refl later),
        keys-spelled (behind_key i kept) (n + 7) (suc (suc (suc (suc (suc (suc (suc m))))))) k keys rest (omega arith) r.1 c.1.1.1.1.1.1.1 later,
      )
