-- The pieces of a generated rule are read as it.
use Rattle.std.proofs.Common.{◌≡◌, ℕ, suc, ◌+◌, ◌^◌, ◌<◌, inr, false, List, [], ◌∷◌, length, codes, refl, sym, ap, ap₂, ◌∙◌, arith}
use Rattle.guard_lexer.specs.declared.token.Mark.TheVariants as mark
use Rattle.guard_syntax.specs.Named.{Named}
use Rattle.literal_parser.specs.declared.keyword.Keyword.TheVariants as kw
use Rattle.literal_parser.specs.Forms.{begins_cond, begins_step, form, is_lbrace, is_lparen, is_neg, is_note, is_operator_word, is_or, is_rbrace, is_rule, is_rule_name, is_var, is_when, operator_in, text_in, word_form}
use Rattle.literal_parser.specs.Lexemes.{Lexeme, Name, Reserved, Sign, Var, name_word}
use Rattle.guard_parser.specs.Grammar.{IsFilled, IsRule}
use Rattle.rule_generator.specs.GeneratedRules.{KeptKey, TypeRule}
use Rattle.rule_generator.specs.code.GeneratedPieces.{head_pieces, keys_pieces, new_line, numbered}
use Rattle.rule_spelling.proofs.Words.{keyword_word}
use Rattle.rule_spelling.specs.code.Pieces.{Piece}
use Rattle.rule_spelling.specs.code.Tokens as token
use Rattle.generator_laws.specs.code.GeneratedSyntax.{key_parts, type_rule}
use Rattle.generator_laws.specs.code.Standing.{AreReadable, Begin, Stands, behind_head, behind_keys, head_firsts, keys_firsts, sites_behind}
use Rattle.generator_laws.proofs.LetSpelled.{numbered-free, opens, places, state, test}
use Rattle.generator_laws.proofs.KeysSpelled.{in-row, key_rows, keys-behind, keys-spelled, no-lets-there, var-led, variable-read}

module _ (s : ℕ → Lexeme) (first : ℕ → ℕ) where
  pub rule-spelled : (i n m k : ℕ) (rule : TypeRule) (rest : List Piece) → n ≡ m → k < 2 ^ 64 → 0 < length rule.keys → AreReadable rule.keys → Begin first m (head_firsts i)
      → Begin first (behind_head m) (keys_firsts (behind_head i) rule.keys) → Stands s i (head_pieces k (keys_pieces k rule.keys (token.mark new_line mark.RBrace rest)))
      → IsRule s (type_rule (places s first) n k rule) (state s first i m) (state s first (suc (behind_keys (behind_head i) rule.keys)) (sites_behind (behind_head m) rule.keys))
  rule-spelled i n m k rule rest e small some readable c d h =
      let w0 : (s (i)).word ≡ Reserved kw.Rule (codes "rule") = h.0 ∙ (keyword_word false kw.Rule).1 in
      let w1 : (s (suc i)).word ≡ Name (numbered k) = h.1.0 ∙ ap (λ o. name_word o (numbered k)) (numbered-free k small) in
      let w2 : (s (suc (suc i))).word ≡ Reserved kw.When (codes "when") = h.1.1.0 ∙ (keyword_word false kw.When).1 in
      let w3 : (s (suc (suc (suc i)))).word ≡ Var (numbered k) = h.1.1.1.0 ∙ variable-read (numbered k) in
      let w4 : (s (suc (suc (suc (suc i))))).word ≡ Sign mark.Bang = h.1.1.1.1.0 in
      let w5 : (s (suc (suc (suc (suc (suc i)))))).word ≡ Reserved kw.Empty (codes "empty") = h.1.1.1.1.1.0 ∙ (keyword_word false kw.Empty).1 in
      let w6 : (s (suc (suc (suc (suc (suc (suc i))))))).word ≡ Sign mark.LBrace = h.1.1.1.1.1.1.0 in
      let j : ℕ = behind_keys (suc (suc (suc (suc (suc (suc (suc i))))))) rule.keys in
      let behind = h.1.1.1.1.1.1.1 in
      let close = keys-behind s first (suc (suc (suc (suc (suc (suc (suc i))))))) k rule.keys (token.mark new_line mark.RBrace rest) behind in
      let form3 : form (s (suc (suc (suc i)))) ≡ 3 = ap word_form w3 in
      let at0 : n ≡ m = e in (
        state s first (i) (suc m),
        opens s first (i) (m) (n) (omega arith) c.0,
        (
          state s first (suc i) (suc m),
          (test s first is_rule (i) _ w0, refl),
          (
            state s first (suc (suc i)) (suc m),
            (test s first is_rule_name (suc i) _ w1, ap₂ (λ (t : List ℕ) (x : ℕ). let y : Named = record { text = t; at = (s (suc x)).from } in y) (sym (ap text_in w1)) (ap first at0 ∙ c.0), refl),
            (
              state s first (suc (suc (suc (suc (suc (suc i)))))) (suc (suc (suc (suc (suc (suc m)))))),
              (
                test s first is_lparen (suc (suc i)) _ w2,
                (
                  state s first (suc (suc (suc i))) (suc m),
                  (test s first is_when (suc (suc i)) _ w2, refl),
                  (
                    state s first (suc (suc (suc i))) (suc (suc m)),
                    opens s first (suc (suc (suc i))) (suc m) (n + 1) (omega arith) c.1.0,
                    (
                      state s first (suc (suc (suc (suc (suc (suc i)))))) (suc (suc (suc (suc (suc (suc m)))))),
                      (
                        state s first (suc (suc (suc i))) (suc (suc (suc m))),
                        opens s first (suc (suc (suc i))) (suc (suc m)) (n + 1 + 1) (omega arith) c.1.1.0,
                        (
                          state s first (suc (suc (suc (suc (suc (suc i)))))) (suc (suc (suc (suc (suc (suc m)))))),
                          (
                            state s first (suc (suc (suc i))) (suc (suc (suc (suc m)))),
                            opens s first (suc (suc (suc i))) (suc (suc (suc m))) (n + 1 + 2) (omega arith) c.1.1.1.0,
                            (
                              state s first (suc (suc (suc i))) (suc (suc (suc (suc m)))),
                              (var-led s first false (suc (suc (suc i))) form3, refl),
                              (
                                state s first (suc (suc (suc (suc i)))) (suc (suc (suc (suc (suc (suc m)))))),
                                (
                                  state s first (suc (suc (suc i))) (suc (suc (suc (suc (suc m))))),
                                  opens s first (suc (suc (suc i))) (suc (suc (suc (suc m)))) (n + 1 + 2 + 1) (omega arith) c.1.1.1.1.0,
                                  (
                                    state s first (suc (suc (suc (suc i)))) (suc (suc (suc (suc (suc (suc m)))))),
                                    (
                                      state s first (suc (suc (suc i))) (suc (suc (suc (suc (suc (suc m)))))),
                                      opens s first (suc (suc (suc i))) (suc (suc (suc (suc (suc m))))) (n + 1 + 2 + 2) (omega arith) c.1.1.1.1.1.0,
                                      (test s first is_var (suc (suc (suc i))) _ w3, sym (ap text_in w3), refl),
                                    ),
                                    (test s first begins_step (suc (suc (suc (suc i)))) _ w4, refl),
                                  ),
                                ),
                                (
                                  state s first (suc (suc (suc (suc (suc (suc i)))))) (suc (suc (suc (suc (suc (suc m)))))),
                                  inr (state s first (suc (suc (suc (suc (suc i))))) (suc (suc (suc (suc (suc (suc m)))))), (test s first is_neg (suc (suc (suc (suc i)))) _ w4, refl), (test s first is_operator_word (suc (suc (suc (suc (suc i))))) _ w5, sym (ap operator_in w5), refl)),
                                  (
                                    state s first (suc (suc (suc (suc (suc (suc i)))))) (suc (suc (suc (suc (suc (suc m)))))),
                                    (refl, refl),
                                    (test s first is_note (suc (suc (suc (suc (suc (suc i)))))) _ w6, refl),
                                  ),
                                ),
                              ),
                            ),
                          ),
                          (test s first is_or (suc (suc (suc (suc (suc (suc i)))))) _ w6, refl),
                        ),
                      ),
                      (test s first begins_cond (suc (suc (suc (suc (suc (suc i)))))) _ w6, refl),
                    ),
                  ),
                ),
              ),
              (
                state s first (suc (suc (suc (suc (suc (suc i)))))) (suc (suc (suc (suc (suc (suc (suc m))))))),
                opens s first (suc (suc (suc (suc (suc (suc i)))))) (suc (suc (suc (suc (suc (suc m)))))) (n + 6) (omega arith) c.1.1.1.1.1.1.0,
                (
                  state s first (suc (suc (suc (suc (suc (suc (suc i))))))) (suc (suc (suc (suc (suc (suc (suc m))))))),
                  (test s first is_lbrace (suc (suc (suc (suc (suc (suc i)))))) _ w6, refl),
                  (
                    state s first j (sites_behind (suc (suc (suc (suc (suc (suc (suc m))))))) rule.keys),
                    (key_rows s first (suc (suc (suc (suc (suc (suc (suc i))))))) (suc (suc (suc (suc (suc (suc (suc m))))))) rule.keys, in-row s first (suc (suc (suc (suc (suc (suc (suc i))))))) (suc (suc (suc (suc (suc (suc (suc m))))))) k rule.keys rest behind, no-lets-there s first (suc (suc (suc (suc (suc (suc (suc i))))))) (suc (suc (suc (suc (suc (suc (suc m))))))) rule.keys, keys-spelled s first (suc (suc (suc (suc (suc (suc (suc i))))))) (n + 7) (suc (suc (suc (suc (suc (suc (suc m))))))) k rule.keys rest (omega arith) readable d behind, filled rule.keys some),
                    (test s first is_rbrace j _ close.0, refl),
                  ),
                ),
              ),
            ),
          ),
        ),
      )
    where
      filled : (keys : List KeptKey) → 0 < length keys → IsFilled (key_parts (places s first) (n + 7) k keys)
      filled [] some = absurd (omega arith)
      filled (kept ∷ keys) some = tt
