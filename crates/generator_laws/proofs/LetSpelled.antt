-- The pieces of a generated let are read as it.
use Rattle.std.proofs.Common.{◌≡◌, ℕ, suc, ◌+◌, ◌^◌, ◌<◌, ◌≤◌, inl, inr, Bool, true, false, not, ◌&&◌, ◌||◌, List, [], ◌∷◌, ◌++◌, None, codes, decimal, refl, sym, ap, ap₂, subst, ◌∙◌, arith}
use Rattle.std.specs.Prelude.{◌==◌}
use Rattle.std.proofs.lemmas.Bool.{cases_eq}
use Rattle.std.proofs.lemmas.Bool.Decides.{nat_tests}
use Rattle.decimals.specs.Number.{AreDigits, is_digit}
use Rattle.guard_lexer.specs.declared.token.Mark.TheVariants as mark
use Rattle.guard_syntax.specs.Named.{Named}
use Rattle.literal_parser.specs.declared.keyword.Keyword.TheVariants as kw
use Rattle.literal_parser.specs.Forms.{begins_cond, begins_step, form, is_any_name, is_applied, is_assign, is_bar, is_constant, is_dot, is_first_key, is_lbracket, is_led, is_let, is_neg, is_operator_word, is_literal, is_lparen, is_name, is_note, is_opening_end, is_or, is_plain, is_r, is_rbracket, is_scalar, is_sign, is_star, leads, sign_in, text_in, word_form}
use Rattle.literal_parser.specs.Lexemes.{Lexeme, Name, Reserved, Sign, Str, Word, keyword_of, name_word}
use Rattle.literal_parser.specs.Literal.{scalar}
use Rattle.literal_parser.specs.States.{Opens, State}
use Rattle.guard_parser.specs.Grammar.{IsLet}
use Rattle.rule_generator.specs.code.GeneratedPieces.{let_pieces, numbered}
use Rattle.rule_spelling.proofs.Decimals.{decimal_digits}
use Rattle.rule_spelling.proofs.Words.{keyword_word, text_word}
use Rattle.rule_spelling.specs.Spelling.{ends_in_backslash}
use Rattle.rule_spelling.specs.code.Pieces.{Piece}
use Rattle.generator_laws.specs.code.GeneratedSyntax.{Places, places_to, type_let}
use Rattle.generator_laws.specs.code.Standing.{Begin, Stands, behind_let, let_firsts, places_of}
use Rattle.generator_laws.proofs.SitesInOrder.{length-places}

-- ---- names that are no keywords

digit-free : (b : ℕ) (ds : List ℕ) → 48 ≤ b → b ≤ 57 → keyword_of (116 ∷ b ∷ ds) ≡ None
unfolding keyword_of
digit-free b ds low high =
    elim (cases_eq b 48) [
      | inl e ↦ subst (λ (x : ℕ). keyword_of (116 ∷ x ∷ ds) ≡ None) (sym e) refl
      | inr n48 ↦ elim (cases_eq b 49) [
        | inl e ↦ subst (λ (x : ℕ). keyword_of (116 ∷ x ∷ ds) ≡ None) (sym e) refl
        | inr n49 ↦ elim (cases_eq b 50) [
          | inl e ↦ subst (λ (x : ℕ). keyword_of (116 ∷ x ∷ ds) ≡ None) (sym e) refl
          | inr n50 ↦ elim (cases_eq b 51) [
            | inl e ↦ subst (λ (x : ℕ). keyword_of (116 ∷ x ∷ ds) ≡ None) (sym e) refl
            | inr n51 ↦ elim (cases_eq b 52) [
              | inl e ↦ subst (λ (x : ℕ). keyword_of (116 ∷ x ∷ ds) ≡ None) (sym e) refl
              | inr n52 ↦ elim (cases_eq b 53) [
                | inl e ↦ subst (λ (x : ℕ). keyword_of (116 ∷ x ∷ ds) ≡ None) (sym e) refl
                | inr n53 ↦ elim (cases_eq b 54) [
                  | inl e ↦ subst (λ (x : ℕ). keyword_of (116 ∷ x ∷ ds) ≡ None) (sym e) refl
                  | inr n54 ↦ elim (cases_eq b 55) [
                    | inl e ↦ subst (λ (x : ℕ). keyword_of (116 ∷ x ∷ ds) ≡ None) (sym e) refl
                    | inr n55 ↦ elim (cases_eq b 56) [
                      | inl e ↦ subst (λ (x : ℕ). keyword_of (116 ∷ x ∷ ds) ≡ None) (sym e) refl
                      | inr n56 ↦ elim (cases_eq b 57) [
                        | inl e ↦ subst (λ (x : ℕ). keyword_of (116 ∷ x ∷ ds) ≡ None) (sym e) refl
                        | inr n57 ↦ absurd (omega arith)
                      ]
                    ]
                  ]
                ]
              ]
            ]
          ]
        ]
      ]
    ]

pub numbered-free : (k : ℕ) → k < 2 ^ 64 → keyword_of (numbered k) ≡ None
unfolding keyword_of
numbered-free k small = by (decimal k) (decimal_digits k small)
  where
    by : (ds : List ℕ) → AreDigits ds → keyword_of (codes "t" ++ ds) ≡ None
    by [] d = refl
    by (b ∷ ds) d = digit-free b ds (low b d.0) (high b d.0)
      where
        low : (b : ℕ) → is_digit b ≡ true → 48 ≤ b
        low b e = grind (arith, nat_tests)

        high : (b : ℕ) → is_digit b ≡ true → b ≤ 57
        high b e = grind (arith, nat_tests)

resources-free : keyword_of (codes "Resources") ≡ None
unfolding keyword_of
resources-free = refl

type-free : keyword_of (codes "Type") ≡ None
unfolding keyword_of
type-free = refl

module _ (s : ℕ → Lexeme) (first : ℕ → ℕ) where
  abbrev pub places : Places
  places = places_of s first

  -- before a lexeme, behind so many sites
  abbrev pub state : ℕ → ℕ → State
  state i n = record { at = i; places = places_to places n; mixed = None }

  pub opens : (i n site : ℕ) → site ≡ n → first n ≡ i → Opens s site (state i n) (state i (suc n))
  opens i n site e c = (e ∙ sym (length-places places n), ap (λ (j : ℕ). let x : State = record { at = i; places = places_to places n ++ (s j).from ∷ []; mixed = None } in x) c)

  pub test : (f : ℕ → Bool) (i : ℕ) (w : Word) → (s i).word ≡ w → f (form (s i)) ≡ f (word_form w)
  test f i w e = ap (λ (x : Word). f (word_form x)) e

  no-literal : (i j : ℕ) → form (s i) ≡ 1 → is_literal (s i) (s j) ≡ false
  no-literal i j e = ap (λ (x : ℕ). is_plain x || ((is_r x && (is_opening_end (form (s j)) && (s j).from == (s i).to)) || (is_constant x && not (is_lparen (form (s j)))))) e

  no-call : (i j : ℕ) → form (s i) ≡ 1 → is_lparen (form (s j)) ≡ false → is_applied (s i) (s j) ≡ false
  no-call i j e f = ap (λ (x : ℕ). is_any_name x && is_lparen (form (s j))) e ∙ f

  pub literal-plain : (i j : ℕ) → is_plain (form (s i)) ≡ true → is_literal (s i) (s j) ≡ true
  literal-plain i j e = ap (λ (v : Bool). v || ((is_r (form (s i)) && (is_opening_end (form (s j)) && (s j).from == (s i).to)) || (is_constant (form (s i)) && not (is_lparen (form (s j)))))) e

  named-led : (i : ℕ) → form (s i) ≡ 1 → leads false (form (s (suc i))) ≡ true → is_led false (form (s i)) (form (s (suc i))) (form (s (suc (suc i)))) ≡ true
  named-led i e f = ap (λ (x : ℕ). is_led false x (form (s (suc i))) (form (s (suc (suc i))))) e ∙ ap (λ (v : Bool). v || (is_neg (form (s (suc i))) && is_operator_word (form (s (suc (suc i)))))) f

  pub let-spelled : (gap type : List ℕ) (i n m k : ℕ) (rest : List Piece) → n ≡ m → k < 2 ^ 64 → ends_in_backslash type ≡ false → Begin first m (let_firsts i) → Stands s i (let_pieces gap k type rest)
      → begins_step (form (s (behind_let i))) ≡ false → IsLet s (type_let places n k type) (state i m) (state (behind_let i) (behind_let m))
  let-spelled gap type i n m k rest e small quotable c h ends =
      let w0 : (s (i)).word ≡ Reserved kw.Let (codes "let") = h.0 ∙ (keyword_word false kw.Let).1 in
      let w1 : (s (suc i)).word ≡ Name (numbered k) = h.1.0 ∙ ap (λ o. name_word o (numbered k)) (numbered-free k small) in
      let w2 : (s (suc (suc i))).word ≡ Sign mark.Equals = h.1.1.0 in
      let w3 : (s (suc (suc (suc i)))).word ≡ Name (codes "Resources") = h.1.1.1.0 ∙ ap (λ o. name_word o (codes "Resources")) resources-free in
      let w4 : (s (suc (suc (suc (suc i))))).word ≡ Sign mark.Dot = h.1.1.1.1.0 in
      let w5 : (s (suc (suc (suc (suc (suc i)))))).word ≡ Sign mark.Star = h.1.1.1.1.1.0 in
      let w6 : (s (suc (suc (suc (suc (suc (suc i))))))).word ≡ Sign mark.LBracket = h.1.1.1.1.1.1.0 in
      let w7 : (s (suc (suc (suc (suc (suc (suc (suc i)))))))).word ≡ Name (codes "Type") = h.1.1.1.1.1.1.1.0 ∙ ap (λ o. name_word o (codes "Type")) type-free in
      let w8 : (s (suc (suc (suc (suc (suc (suc (suc (suc i))))))))).word ≡ Sign mark.Same = h.1.1.1.1.1.1.1.1.0 in
      let w9 : (s (suc (suc (suc (suc (suc (suc (suc (suc (suc i)))))))))).word ≡ Str type = h.1.1.1.1.1.1.1.1.1.0 ∙ (text_word false type quotable).1 in
      let w10 : (s (suc (suc (suc (suc (suc (suc (suc (suc (suc (suc i))))))))))).word ≡ Sign mark.RBracket = h.1.1.1.1.1.1.1.1.1.1.0 in
      let form3 : form (s (suc (suc (suc i)))) ≡ 1 = ap word_form w3 in
      let form7 : form (s (suc (suc (suc (suc (suc (suc (suc i)))))))) ≡ 1 = ap word_form w7 in
      let at0 : n ≡ m = e in
      let at9 : n + 1 + 4 + 2 + 3 ≡ (suc (suc (suc (suc (suc (suc (suc (suc (suc (suc m)))))))))) = omega arith in (
        state (i) (suc m),
        opens (i) (m) (n) (omega arith) c.0,
        (
          state (suc i) (suc m),
          (test is_let (i) _ w0, refl),
          (
            state (suc (suc i)) (suc m),
            (test is_name (suc i) _ w1, ap₂ (λ (t : List ℕ) (j : ℕ). let x : Named = record { text = t; at = (s (suc j)).from } in x) (sym (ap text_in w1)) (ap first at0 ∙ c.0), refl),
            (
              state (suc (suc (suc i))) (suc m),
              (test is_assign (suc (suc i)) _ w2, refl),
              (
                no-literal (suc (suc (suc i))) (suc (suc (suc (suc i)))) form3,
                (
                  no-call (suc (suc (suc i))) (suc (suc (suc (suc i)))) form3 (test is_lparen (suc (suc (suc (suc i)))) _ w4),
                  (
                    state (suc (suc (suc i))) (suc (suc m)),
                    opens (suc (suc (suc i))) (suc m) (n + 1) (omega arith) c.1.0,
                    (
                      state (suc (suc (suc (suc i)))) (suc (suc (suc m))),
                      (
                        state (suc (suc (suc i))) (suc (suc (suc m))),
                        opens (suc (suc (suc i))) (suc (suc m)) (n + 1 + 1) (omega arith) c.1.1.0,
                        (test is_first_key (suc (suc (suc i))) _ w3, sym (ap text_in w3), refl),
                      ),
                      (
                        test begins_step (suc (suc (suc (suc i)))) _ w4,
                        (
                          state (suc (suc (suc (suc (suc (suc i)))))) (suc (suc (suc (suc m)))),
                          (
                            state (suc (suc (suc (suc i)))) (suc (suc (suc (suc m)))),
                            opens (suc (suc (suc (suc i)))) (suc (suc (suc m))) (n + 1 + 2) (omega arith) c.1.1.1.0,
                            (
                              state (suc (suc (suc (suc (suc i))))) (suc (suc (suc (suc m)))),
                              (test is_dot (suc (suc (suc (suc i)))) _ w4, refl),
                              (test is_star (suc (suc (suc (suc (suc i))))) _ w5, refl),
                            ),
                          ),
                          (
                            test begins_step (suc (suc (suc (suc (suc (suc i)))))) _ w6,
                            (
                              state (suc (suc (suc (suc (suc (suc (suc (suc (suc (suc (suc i))))))))))) (suc (suc (suc (suc (suc (suc (suc (suc (suc (suc (suc m))))))))))),
                              (
                                state (suc (suc (suc (suc (suc (suc i)))))) (suc (suc (suc (suc (suc m))))),
                                opens (suc (suc (suc (suc (suc (suc i)))))) (suc (suc (suc (suc m)))) (n + 1 + 3) (omega arith) c.1.1.1.1.0,
                                (
                                  state (suc (suc (suc (suc (suc (suc (suc i))))))) (suc (suc (suc (suc (suc m))))),
                                  (test is_lbracket (suc (suc (suc (suc (suc (suc i)))))) _ w6, refl),
                                  (
                                    state (suc (suc (suc (suc (suc (suc (suc i))))))) (suc (suc (suc (suc (suc m))))),
                                    (ap (λ (x : ℕ). is_name x && is_bar (form (s (suc (suc (suc (suc (suc (suc (suc (suc i))))))))))) form7 ∙ test is_bar (suc (suc (suc (suc (suc (suc (suc (suc i)))))))) _ w8, refl),
                                    (
                                      state (suc (suc (suc (suc (suc (suc (suc (suc (suc (suc i)))))))))) (suc (suc (suc (suc (suc (suc (suc (suc (suc (suc (suc m))))))))))),
                                      (
                                        state (suc (suc (suc (suc (suc (suc (suc i))))))) (suc (suc (suc (suc (suc (suc m)))))),
                                        opens (suc (suc (suc (suc (suc (suc (suc i))))))) (suc (suc (suc (suc (suc m))))) (n + 1 + 4) (omega arith) c.1.1.1.1.1.0,
                                        (
                                          state (suc (suc (suc (suc (suc (suc (suc (suc (suc (suc i)))))))))) (suc (suc (suc (suc (suc (suc (suc (suc (suc (suc (suc m))))))))))),
                                          (
                                            state (suc (suc (suc (suc (suc (suc (suc i))))))) (suc (suc (suc (suc (suc (suc (suc m))))))),
                                            opens (suc (suc (suc (suc (suc (suc (suc i))))))) (suc (suc (suc (suc (suc (suc m)))))) (n + 1 + 4 + 1) (omega arith) c.1.1.1.1.1.1.0,
                                            (
                                              state (suc (suc (suc (suc (suc (suc (suc (suc (suc (suc i)))))))))) (suc (suc (suc (suc (suc (suc (suc (suc (suc (suc (suc m))))))))))),
                                              (
                                                state (suc (suc (suc (suc (suc (suc (suc i))))))) (suc (suc (suc (suc (suc (suc (suc (suc m)))))))),
                                                opens (suc (suc (suc (suc (suc (suc (suc i))))))) (suc (suc (suc (suc (suc (suc (suc m))))))) (n + 1 + 4 + 2) (omega arith) c.1.1.1.1.1.1.1.0,
                                                (
                                                  state (suc (suc (suc (suc (suc (suc (suc i))))))) (suc (suc (suc (suc (suc (suc (suc (suc m)))))))),
                                                  (named-led (suc (suc (suc (suc (suc (suc (suc i))))))) form7 (test (leads false) (suc (suc (suc (suc (suc (suc (suc (suc i)))))))) _ w8), refl),
                                                  (
                                                    state (suc (suc (suc (suc (suc (suc (suc (suc i)))))))) (suc (suc (suc (suc (suc (suc (suc (suc (suc (suc m)))))))))),
                                                    (
                                                      state (suc (suc (suc (suc (suc (suc (suc i))))))) (suc (suc (suc (suc (suc (suc (suc (suc (suc m))))))))),
                                                      opens (suc (suc (suc (suc (suc (suc (suc i))))))) (suc (suc (suc (suc (suc (suc (suc (suc m)))))))) (n + 1 + 4 + 2 + 1) (omega arith) c.1.1.1.1.1.1.1.1.0,
                                                      (
                                                        state (suc (suc (suc (suc (suc (suc (suc (suc i)))))))) (suc (suc (suc (suc (suc (suc (suc (suc (suc (suc m)))))))))),
                                                        (
                                                          state (suc (suc (suc (suc (suc (suc (suc i))))))) (suc (suc (suc (suc (suc (suc (suc (suc (suc (suc m)))))))))),
                                                          opens (suc (suc (suc (suc (suc (suc (suc i))))))) (suc (suc (suc (suc (suc (suc (suc (suc (suc m))))))))) (n + 1 + 4 + 2 + 2) (omega arith) c.1.1.1.1.1.1.1.1.1.0,
                                                          (test is_first_key (suc (suc (suc (suc (suc (suc (suc i))))))) _ w7, sym (ap text_in w7), refl),
                                                        ),
                                                        (test begins_step (suc (suc (suc (suc (suc (suc (suc (suc i)))))))) _ w8, refl),
                                                      ),
                                                    ),
                                                    (
                                                      state (suc (suc (suc (suc (suc (suc (suc (suc (suc i))))))))) (suc (suc (suc (suc (suc (suc (suc (suc (suc (suc m)))))))))),
                                                      inl (test is_sign (suc (suc (suc (suc (suc (suc (suc (suc i)))))))) _ w8, sym (ap sign_in w8), refl),
                                                      (
                                                        state (suc (suc (suc (suc (suc (suc (suc (suc (suc (suc i)))))))))) (suc (suc (suc (suc (suc (suc (suc (suc (suc (suc (suc m))))))))))),
                                                        (
                                                          refl,
                                                          (
                                                            literal-plain (suc (suc (suc (suc (suc (suc (suc (suc (suc i))))))))) (suc (suc (suc (suc (suc (suc (suc (suc (suc (suc i)))))))))) (test is_plain (suc (suc (suc (suc (suc (suc (suc (suc (suc i))))))))) _ w9),
                                                            (
                                                              state (suc (suc (suc (suc (suc (suc (suc (suc (suc i))))))))) (suc (suc (suc (suc (suc (suc (suc (suc (suc (suc (suc m))))))))))),
                                                              opens (suc (suc (suc (suc (suc (suc (suc (suc (suc i))))))))) (suc (suc (suc (suc (suc (suc (suc (suc (suc (suc m)))))))))) (n + 1 + 4 + 2 + 3) (omega arith) c.1.1.1.1.1.1.1.1.1.1.0,
                                                              inl (refl, (test is_scalar (suc (suc (suc (suc (suc (suc (suc (suc (suc i))))))))) _ w9, ap₂ (λ (w : Word) (j : ℕ). scalar None (record { word = w; from = (s j).from; to = 0 })) (sym w9) (ap first at9 ∙ c.1.1.1.1.1.1.1.1.1.1.0), refl)),
                                                            ),
                                                          ),
                                                        ),
                                                        (test is_note (suc (suc (suc (suc (suc (suc (suc (suc (suc (suc i)))))))))) _ w10, refl),
                                                      ),
                                                    ),
                                                  ),
                                                ),
                                              ),
                                              (test is_or (suc (suc (suc (suc (suc (suc (suc (suc (suc (suc i)))))))))) _ w10, refl),
                                            ),
                                          ),
                                          (test begins_cond (suc (suc (suc (suc (suc (suc (suc (suc (suc (suc i)))))))))) _ w10, refl),
                                        ),
                                      ),
                                      (test is_rbracket (suc (suc (suc (suc (suc (suc (suc (suc (suc (suc i)))))))))) _ w10, refl),
                                    ),
                                  ),
                                ),
                              ),
                              (ends, refl),
                            ),
                          ),
                        ),
                      ),
                    ),
                  ),
                ),
              ),
            ),
          ),
        ),
      )
