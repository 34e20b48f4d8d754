-- What is read is spelled so.
use Rattle.std.proofs.Common.{◌≡◌, ℕ, zero, suc, Bool, true, false, cond, refl, ap, sym, ◌∙◌, true≢false, inl, inr, List, [], ◌∷◌, Option, Some, None}
use Rattle.guard_syntax.specs.Named.{Named}
use Rattle.guard_syntax.specs.declared.syntax.Op.{Op}
use Rattle.guard_syntax.specs.Syntax.{Disjs, Part, Query, no_conds, no_disjs, more_disjs}
use Rattle.literal_parser.specs.Lexemes.{Lexeme}
use Rattle.literal_parser.specs.Forms.{form, is_name, is_rule_name, is_any_name, is_type_name, is_var, is_index, is_note, is_lbrace, is_rbrace, is_lparen, is_rparen, is_lbracket, is_rbracket, is_comma, is_bar, is_dot, is_star, is_assign, is_equality, is_sign, is_let, is_rule, is_when, is_some_word, is_or, is_neg, is_keys, is_this, is_in, is_operator_word, is_key, is_first_key, is_start, is_plain, is_constant, is_function_word, begins_step, begins_cond, begins_part, leads, opens_range, is_literal, is_applied, text_of, named_of, index_of, operator_of, sign_of, is_binary}
use Rattle.literal_parser.specs.States.{State, start, Rel, ◌⨾◌, Opens, Takes, Has}
use Rattle.literal_parser.specs.code.Parser.{Parser, stop}
use Rattle.literal_parser.specs.Literal.{IsLiteral}
use Rattle.literal_parser.specs.code.LiteralReading.{literal_of}
use Rattle.guard_parser.specs.Grammar.{ALet, ARule, APart, Piece, of_sort, part_sort, body_sort, file_sort, IsFilled, InRow, IsCapture, IsNote, IsNeg, IsOperator, IsKeysOperator, IsAny, IsNot, IsNames, IsBody, AreLets, AreDisjs, IsLet, IsConds, IsDisjs, IsOptConds, IsDisj, IsOrs, IsPart, IsRight, IsQuery, IsStart, IsSteps, IsStep, IsExpr, IsExprs, IsMoreExprs, IsHead, IsRule, AreRules, IsContents}
use Rattle.part_parser.specs.code.Reading.{is_filled, BodyItems, Inner, named_bar, capture, note, neg, worded, operator, keys_operator, dotted, keyed, filtered, bracketed, step, steps, start_step, query_of, tree_expr, applied, asked_expr, named_expr, expr_of, found_expr, value_of, more_exprs_of, exprs_of, right, tested, called, referred, ruled, judged, headed, led_by_name, cond_of, cond_part, ors, disj_of, disjs, conds_of, opt_conds, guarded_part, kinds_part, full_part, let_of, body_items, body_end, body_of, inners}
use Rattle.guard_parser.specs.code.FileReading.{FileItems, names, params, head, rule_of, file_items, contents}
use Rattle.literal_parser.proofs.Steps.{opens_sound, takes_sound, has_sound, choose_sound, pair_sound, next_sound, third_sound}
use Rattle.literal_parser.proofs.Combine.{Holds, Sound, done, failed, holds_then, holds_so, holds_if}
use Rattle.guard_parser.proofs.Facts.{literal_range, literal_plain, literal_constant, literal_applied, literal_named, literal_other, literal_word, applied_not, applied_other, led_by_start, led_by_next, led_by_third, unled_next, unled_third, capture_bar, capture_name}
use Rattle.part_parser.proofs.Rooms.{bodied_sound}

module _ (s : ℕ → Lexeme) where
  -- ---- what does not recurse

  capture_sound : Sound (capture s) (IsCapture s)
  unfolding capture named_bar
  capture_sound st seen = choose_sound s is_name _ _ _ _
      (λ is. next_sound s is_bar _ _ _ _
      (λ bar. holds_then (has_sound s is_name named_of st _) (λ n a sn h. holds_then (takes_sound s is_bar a sn) (λ u b sn g. done {R = λ c m. IsCapture s c st m} (a, h, g))))
      (λ bar. done {R = λ c m. IsCapture s c st m} (capture_bar _ _ is bar, refl)))
      (λ is. done {R = λ c m. IsCapture s c st m} (capture_name _ _ is, refl))

  note_sound : Sound (note s) (IsNote s)
  unfolding note
  note_sound st seen = choose_sound s is_note _ _ _ _
      (λ is. holds_then (has_sound s is_note text_of st _) (λ t a sn h. done {R = λ c m. IsNote s c st m} h))
      (λ is. done {R = λ c m. IsNote s c st m} (is, refl))

  neg_sound : Sound (neg s) (IsNeg s)
  unfolding neg
  neg_sound st seen = choose_sound s is_neg _ _ _ _
      (λ is. holds_then (takes_sound s is_neg st _) (λ u a sn h. done {R = λ c m. IsNeg s c st m} h))
      (λ is. done {R = λ c m. IsNeg s c st m} (is, refl))

  worded_sound : (f : ℕ → Bool) → Sound (worded s f) (λ t. IsNeg s t.1 ⨾ Has s f operator_of t.0)
  unfolding worded
  worded_sound f st seen = holds_then (neg_sound st seen) (λ n a sn h. holds_then (has_sound s f operator_of a sn) (λ op b sn g. done (a, h, g)))

  operator_sound : Sound (operator s) (λ t. IsOperator s t.0 t.1)
  unfolding operator
  operator_sound st seen = choose_sound s is_sign _ _ _ _
      (λ is. holds_so (has_sound s is_sign sign_of st _) (λ t m h. inl h))
      (λ is. holds_so (worded_sound is_operator_word st _) (λ t m h. inr h))

  keys_operator_sound : Sound (keys_operator s) (λ t. IsKeysOperator s t.0 t.1)
  unfolding keys_operator
  keys_operator_sound st seen = choose_sound s is_equality _ _ _ _
      (λ is. holds_so (has_sound s is_equality sign_of st _) (λ t m h. inl h))
      (λ is. holds_so (worded_sound is_in st _) (λ t m h. inr h))

  module _ (turns : ℕ) where
    names_sound : (k : ℕ) → Sound (names s turns k) (IsNames s)
    unfolding names
    names_sound zero st seen = failed
    names_sound (suc k) st seen = choose_sound s is_comma _ _ _ _
        (λ is. holds_then (takes_sound s is_comma st _) (λ u a sn e. holds_then (has_sound s is_name named_of a sn) (λ name b sn h. holds_then (names_sound k b sn) (λ more m sn g.
        done {R = λ c m. IsNames s c st m} (a, e, (b, h, g))))))
        (λ is. done {R = λ c m. IsNames s c st m} (is, refl))

    params_sound : Sound (params s turns) (λ ps. IsHead s ps no_conds)
    unfolding params
    params_sound st seen = holds_then (takes_sound s is_lparen st seen) (λ u a sn e. holds_then (has_sound s is_name named_of a sn) (λ name b sn h. holds_then (names_sound turns b sn) (λ more c sn g.
        holds_then (takes_sound s is_rparen c sn) (λ u m sn f. done {R = λ c m. IsHead s c no_conds st m} (a, e, (b, h, (c, g, f)))))))

    module _ (inner : Inner) (exact : (k : ℕ) → inner.number k ≡ k) (trees : Sound inner.tree (IsLiteral s)) (bodies : Sound inner.body (IsBody s)) (condss : Sound inner.conds (IsConds s))
        (exprss : Sound inner.expr (IsExpr s false)) (manys : Sound inner.exprs (IsExprs s)) where
      -- ---- queries

      dotted_sound : (n : ℕ) (a st : State) (seen : ℕ) → Opens s n a st → Holds (dotted s turns inner n st seen) (λ p m. IsStep s p a m)
      unfolding dotted
      dotted_sound n a st seen o = holds_then (takes_sound s is_dot st seen) (λ u b sn e. choose_sound s is_star _ _ _ _
          (λ is. holds_then (takes_sound s is_star b _) (λ u c sn f. done {R = λ p m. IsStep s p a m} (st, o, (b, e, f))))
          (λ is. choose_sound s is_index _ _ _ _
          (λ is. holds_then (has_sound s is_index index_of b _) (λ i c sn f. done {R = λ p m. IsStep s p a m} (st, o, inl (b, e, f))))
          (λ is. choose_sound s is_var _ _ _ _
          (λ is. holds_then (has_sound s is_var named_of b _) (λ name c sn f. done {R = λ p m. IsStep s p a m} (st, o, (b, e, f))))
          (λ is. holds_then (has_sound s is_key text_of b _) (λ name c sn f. done {R = λ p m. IsStep s p a m} (st, o, (b, e, f)))))))

      keyed_sound : (n : ℕ) (name : Option Named) (a b c st : State) (seen : ℕ) → Opens s n a b → Takes s is_lbracket b c → IsCapture s name c st
          → Holds (keyed s turns inner n name st seen) (λ p m. IsStep s p a m)
      unfolding keyed
      keyed_sound n name a b c st seen o e cap = holds_then (takes_sound s is_keys st seen) (λ u d sn f. holds_then (keys_operator_sound d sn) (λ t l sn g. holds_then (exprss l sn) (λ x i sn h.
          holds_then (takes_sound s is_rbracket i sn) (λ u m sn z. done {R = λ p m. IsStep s p a m} (b, o, (c, e, (st, cap, (d, f, (l, g, (i, h, z))))))))))

      filtered_sound : (n : ℕ) (name : Option Named) (a b c st : State) (seen : ℕ) → Opens s n a b → Takes s is_lbracket b c → IsCapture s name c st
          → Holds (filtered s turns inner n name st seen) (λ p m. IsStep s p a m)
      unfolding filtered
      filtered_sound n name a b c st seen o e cap = holds_then (condss st seen) (λ x i sn h.
          holds_then (takes_sound s is_rbracket i sn) (λ u m sn z. done {R = λ p m. IsStep s p a m} (b, o, (c, e, (st, cap, (i, h, z))))))

      bracketed_sound : (n : ℕ) (a st : State) (seen : ℕ) → Opens s n a st → Holds (bracketed s turns inner n st seen) (λ p m. IsStep s p a m)
      unfolding bracketed
      bracketed_sound n a st seen o = holds_then (takes_sound s is_lbracket st seen) (λ u b sn e. choose_sound s is_star _ _ _ _
          (λ is. holds_then (takes_sound s is_star b _) (λ u c sn f. holds_then (takes_sound s is_rbracket c _) (λ u d sn g. done {R = λ p m. IsStep s p a m} (st, o, (b, e, (c, f, g))))))
          (λ is. choose_sound s is_index _ _ _ _
          (λ is. holds_then (has_sound s is_index index_of b _) (λ i c sn f. holds_then (takes_sound s is_rbracket c _) (λ u d sn g. done {R = λ p m. IsStep s p a m} (st, o, inr (b, e, (c, f, g))))))
          (λ is. holds_then (capture_sound b _) (λ name c sn f. choose_sound s is_keys _ _ _ _
          (λ is. keyed_sound n name a st b c _ o e f)
          (λ is. filtered_sound n name a st b c _ o e f)))))

      step_sound : Sound (step s turns inner) (IsStep s)
      unfolding step
      step_sound st seen = holds_then (opens_sound s inner.number exact st seen) (λ n a sn o. choose_sound s is_dot _ _ _ _ (λ is. dotted_sound n st a _ o) (λ is. bracketed_sound n st a _ o))

      steps_sound : (k : ℕ) → Sound (steps s turns inner k) (IsSteps s)
      unfolding steps
      steps_sound zero st seen = failed
      steps_sound (suc k) st seen = choose_sound s begins_step _ _ _ _
          (λ is. holds_then (step_sound st _) (λ p a sn e. holds_then (steps_sound k a sn) (λ ps b sn d. done {R = λ p m. IsSteps s p st m} (is, (a, e, d)))))
          (λ is. done {R = λ p m. IsSteps s p st m} (is, refl))

      start_sound : Sound (start_step s turns inner) (IsStart s)
      unfolding start_step
      start_sound st seen = holds_then (opens_sound s inner.number exact st seen) (λ n a sn o. choose_sound s is_this _ _ _ _
          (λ is. holds_then (takes_sound s is_this a _) (λ u b sn e. done {R = λ p m. IsStart s p st m} (a, o, e)))
          (λ is. choose_sound s is_var _ _ _ _
          (λ is. holds_then (has_sound s is_var text_of a _) (λ name b sn e. done {R = λ p m. IsStart s p st m} (a, o, e)))
          (λ is. holds_then (has_sound s is_first_key text_of a _) (λ name b sn e. done {R = λ p m. IsStart s p st m} (a, o, e)))))

      query_sound : Sound (query_of s turns inner) (IsQuery s)
      unfolding query_of
      query_sound st seen = holds_then (opens_sound s inner.number exact st seen) (λ n a sn o. holds_then (start_sound a sn) (λ p b sn e. holds_then (steps_sound turns b sn) (λ ps m sn f.
          done {R = λ q m. IsQuery s q st m} (a, o, (b, e, f)))))

      -- ---- expressions

      tree_sound : (lone : Bool) (st : State) (seen : ℕ) → is_literal (s st.at) (s (suc st.at)) ≡ true → Holds (tree_expr s turns inner st seen) (λ e m. IsExpr s lone e st m)
      unfolding tree_expr
      tree_sound lone st seen is = holds_then (opens_sound s inner.number exact st seen) (λ n a sn o. holds_then (trees a sn) (λ t m sn e. done {R = λ e m. IsExpr s lone e st m} (is, (a, o, e))))

      applied_sound : (lone : Bool) (st : State) (seen : ℕ) → is_literal (s st.at) (s (suc st.at)) ≡ false → Holds (applied s turns inner st seen) (λ e m. IsExpr s lone e st m)
      unfolding applied
      applied_sound lone st seen is = holds_then (opens_sound s inner.number exact st seen) (λ n a sn o. holds_then (has_sound s is_any_name text_of a sn) (λ name b sn e. holds_then (takes_sound s is_lparen b sn) (λ u c sn f.
          holds_then (manys c sn) (λ es d sn g. holds_then (takes_sound s is_rparen d sn) (λ u m sn h. done {R = λ e m. IsExpr s lone e st m} (is, (a, o, (b, e, (c, f, (d, g, h))))))))))

      asked_sound : (lone : Bool) (st : State) (seen : ℕ) → is_literal (s st.at) (s (suc st.at)) ≡ false → is_applied (s st.at) (s (suc st.at)) ≡ false
          → Holds (asked_expr s turns inner st seen) (λ e m. IsExpr s lone e st m)
      unfolding asked_expr
      asked_sound lone st seen is isnt = holds_then (query_sound st seen) (λ q m sn e. done {R = λ e m. IsExpr s lone e st m} (is, (isnt, e)))

      expr_sound : (lone : Bool) → Sound (expr_of s turns inner) (IsExpr s lone)
      unfolding expr_of named_expr
      expr_sound lone st seen = choose_sound s is_function_word _ _ _ _
          (λ word. bodied_sound s turns inner _ _ _ (applied_sound lone st _ (literal_word (s st.at) (s (suc st.at)) word)))
          (λ word. choose_sound s is_any_name _ _ _ _
          (λ any. pair_sound s opens_range _ _ _ _
          (λ range. tree_sound lone st _ (literal_range (s st.at) (s (suc st.at)) range))
          (λ range. next_sound s is_lparen _ _ _ _
          (λ paren. applied_sound lone st _ (literal_applied (s st.at) (s (suc st.at)) any range paren))
          (λ paren. choose_sound s is_constant _ _ _ _
          (λ is. tree_sound lone st _ (literal_constant (s st.at) (s (suc st.at)) is paren))
          (λ is. asked_sound lone st _ (literal_named (s st.at) (s (suc st.at)) any range is) (applied_not (s st.at) (s (suc st.at)) paren)))))
          (λ any. choose_sound s is_plain _ _ _ _
          (λ is. tree_sound lone st _ (literal_plain (s st.at) (s (suc st.at)) is))
          (λ is. asked_sound lone st _ (literal_other (s st.at) (s (suc st.at)) any is) (applied_other (s st.at) (s (suc st.at)) any))))

      found_sound : (st : State) (seen : ℕ) → is_applied (s st.at) (s (suc st.at)) ≡ false → Holds (found_expr s turns inner st seen) (λ e m. IsExpr s true e st m)
      unfolding found_expr
      found_sound st seen is = holds_then (opens_sound s inner.number exact st seen) (λ n a sn o. holds_then (takes_sound s is_some_word a sn) (λ u b sn e. holds_then (query_sound b sn) (λ q m sn f.
          done {R = λ e m. IsExpr s true e st m} (refl, (is, (a, o, (b, e, f)))))))

      value_sound : Sound (value_of s turns inner) (IsExpr s true)
      unfolding value_of
      value_sound st seen = choose_sound s is_some_word _ _ _ _
          (λ is. next_sound s is_lparen _ _ _ _ (λ paren. expr_sound true st _) (λ paren. found_sound st _ (applied_not (s st.at) (s (suc st.at)) paren)))
          (λ is. expr_sound true st _)

      more_exprs_sound : (k : ℕ) → Sound (more_exprs_of s turns inner k) (IsMoreExprs s)
      unfolding more_exprs_of
      more_exprs_sound zero st seen = failed
      more_exprs_sound (suc k) st seen = choose_sound s is_comma _ _ _ _
          (λ is. holds_then (takes_sound s is_comma st _) (λ u a sn e. holds_then (expr_sound false a sn) (λ x b sn f. holds_then (more_exprs_sound k b sn) (λ xs m sn g.
          done {R = λ x m. IsMoreExprs s x st m} (a, e, (b, f, g))))))
          (λ is. done {R = λ x m. IsMoreExprs s x st m} (is, refl))

      exprs_sound : Sound (exprs_of s turns inner) (IsExprs s)
      unfolding exprs_of
      exprs_sound st seen = holds_then (expr_sound false st seen) (λ x b sn f. holds_then (more_exprs_sound turns b sn) (λ xs m sn g. done {R = λ x m. IsExprs s x st m} (b, f, g)))

      -- ---- conditions

      right_sound : (op : Op) → Sound (right s turns inner op) (IsRight s op)
      unfolding right
      right_sound op st seen = holds_if _ _ st seen (is_binary op)
          (λ is. holds_then (expr_sound false st seen) (λ e m sn h. done {R = λ x m. IsRight s op x st m} (is, h)))
          (λ is. done {R = λ x m. IsRight s op x st m} (is, refl))

      tested_sound : (full : Bool) (n : ℕ) (any : Bool) (q : Query) (a b c st : State) (seen : ℕ) → Opens s n a b → IsAny s full any b c → IsQuery s q c st
          → Holds (tested s turns inner n any q st seen) (λ p m. IsPart s full p a m)
      unfolding tested
      tested_sound full n any q a b c st seen o h k = holds_then (operator_sound st seen) (λ t d sn e. holds_then (right_sound t.0 d sn) (λ x l sn f. holds_then (note_sound l sn) (λ message m sn g.
          done {R = λ p m. IsPart s full p a m} (b, o, (c, h, (st, k, (d, e, (l, f, g))))))))

      called_sound : (full : Bool) (n : ℕ) (negated : Bool) (name : List ℕ) (a b c st : State) (seen : ℕ) → Opens s n a b → IsNot s full negated b c → Has s is_name text_of name c st
          → Holds (called s turns inner n negated name st seen) (λ p m. IsPart s full p a m)
      unfolding called
      called_sound full n negated name a b c st seen o h k = holds_then (takes_sound s is_lparen st seen) (λ u d sn e. holds_then (manys d sn) (λ es i sn f. holds_then (takes_sound s is_rparen i sn) (λ u l sn g.
          holds_then (note_sound l sn) (λ message m sn z. done {R = λ p m. IsPart s full p a m} (b, o, (c, h, (st, k, (d, e, (i, f, (l, g, z))))))))))

      referred_sound : (full : Bool) (n : ℕ) (negated : Bool) (name : List ℕ) (a b c st : State) (seen : ℕ) → Opens s n a b → IsNot s full negated b c → Has s is_name text_of name c st
          → is_lparen (form (s st.at)) ≡ false → Holds (referred s turns inner n negated name st seen) (λ p m. IsPart s full p a m)
      unfolding referred
      referred_sound full n negated name a b c st seen o h k paren = holds_then (note_sound st seen) (λ message m sn z. done {R = λ p m. IsPart s full p a m} (b, o, (c, h, (st, k, (paren, z)))))

      ruled_sound : (full : Bool) (n : ℕ) (negated : Bool) (a b st : State) (seen : ℕ) → Opens s n a b → IsNot s full negated b st
          → Holds (ruled s turns inner n negated st seen) (λ p m. IsPart s full p a m)
      unfolding ruled
      ruled_sound full n negated a b st seen o h = holds_then (has_sound s is_name text_of st seen) (λ name c sn k. choose_sound s is_lparen _ _ _ _
          (λ paren. called_sound full n negated name a b st c _ o h k)
          (λ paren. referred_sound full n negated name a b st c _ o h k paren))

      judged_sound : (full : Bool) (n : ℕ) (any : Bool) (q : Query) (a b c st : State) (seen : ℕ) → Opens s n a b → IsAny s full any b c → IsQuery s q c st
          → Holds (judged s turns inner full n any q st seen) (λ p m. IsPart s full p a m)
      unfolding judged
      judged_sound true n any q a b c st seen o h k = choose_sound s is_lbrace _ _ _ _
          (λ is. holds_then (bodies st _) (λ x m sn e. done {R = λ p m. IsPart s true p a m} (refl, (b, o, (c, h, (st, k, e))))))
          (λ is. tested_sound true n any q a b c st _ o h k)
      judged_sound false n any q a b c st seen o h k = tested_sound false n any q a b c st seen o h k

      headed_sound : (full : Bool) (n : ℕ) (any : Bool) (a b st : State) (seen : ℕ) → Opens s n a b → IsAny s full any b st
          → Holds (headed s turns inner full n any st seen) (λ p m. IsPart s full p a m)
      unfolding headed
      headed_sound full n any a b st seen o h = holds_then (query_sound st seen) (λ q c sn k. judged_sound full n any q a b st c sn o h k)

      by_name_sound : (full : Bool) (n : ℕ) (a st : State) (seen : ℕ) → Opens s n a st → is_name (form (s st.at)) ≡ true
          → Holds (led_by_name s turns inner full n st seen) (λ p m. IsPart s full p a m)
      unfolding led_by_name
      by_name_sound full n a st seen o is = next_sound s (leads full) _ _ _ _
          (λ leads. headed_sound full n false a st st _ o (led_by_next full (s st.at) (s (suc st.at)) (s (suc (suc st.at))) is leads, refl))
          (λ leads. next_sound s is_neg _ _ _ _
          (λ neg. third_sound s is_operator_word _ _ _ _
          (λ word. headed_sound full n false a st st _ o (led_by_third full (s st.at) (s (suc st.at)) (s (suc (suc st.at))) is neg word, refl))
          (λ word. ruled_sound full n false a st st _ o (unled_third full (s st.at) (s (suc st.at)) (s (suc (suc st.at))) is leads word, refl)))
          (λ neg. ruled_sound full n false a st st _ o (unled_next full (s st.at) (s (suc st.at)) (s (suc (suc st.at))) is leads neg, refl)))

      cond_sound : (full : Bool) (n : ℕ) (a st : State) (seen : ℕ) → Opens s n a st → Holds (cond_of s turns inner full n st seen) (λ p m. IsPart s full p a m)
      unfolding cond_of
      cond_sound full n a st seen o = choose_sound s is_some_word _ _ _ _
          (λ is. holds_then (takes_sound s is_some_word st _) (λ u b sn e. headed_sound full n true a st b sn o e))
          (λ is. choose_sound s is_neg _ _ _ _
          (λ is. holds_then (takes_sound s is_neg st _) (λ u b sn e. ruled_sound full n true a st b sn o e))
          (λ is. choose_sound s is_name _ _ _ _
          (λ is. by_name_sound full n a st _ o is)
          (λ isnt. choose_sound s is_start _ _ _ _
          (λ is. headed_sound full n false a st st _ o (led_by_start full (s st.at) (s (suc st.at)) (s (suc (suc st.at))) is, refl))
          (λ is. failed))))

      cond_part_sound : Sound (cond_part s turns inner) (IsPart s false)
      unfolding cond_part
      cond_part_sound st seen = holds_then (opens_sound s inner.number exact st seen) (λ n a sn o. cond_sound false n st a sn o)

      -- ---- parts, conditions and bodies

      ors_sound : (full : Bool) (part : Parser Part) → Sound part (IsPart s full) → (k : ℕ) → Sound (ors s turns inner part k) (IsOrs s full)
      unfolding ors
      ors_sound full part parts zero st seen = failed
      ors_sound full part parts (suc k) st seen = choose_sound s is_or _ _ _ _
          (λ is. holds_then (takes_sound s is_or st _) (λ u a sn e. holds_then (parts a sn) (λ p b sn d. holds_then (ors_sound full part parts k b sn) (λ ps c sn f.
          done {R = λ x m. IsOrs s full x st m} (a, e, (b, d, f))))))
          (λ is. done {R = λ x m. IsOrs s full x st m} (is, refl))

      disj_sound : (full : Bool) (part : Parser Part) → Sound part (IsPart s full) → Sound (disj_of s turns inner part) (IsDisj s full)
      unfolding disj_of
      disj_sound full part parts st seen = holds_then (opens_sound s inner.number exact st seen) (λ n a sn o. holds_then (parts a sn) (λ p b sn e. holds_then (ors_sound full part parts turns b sn) (λ ps c sn d.
          done {R = λ x m. IsDisj s full x st m} (a, o, (b, e, d)))))

      disjs_sound : (k : ℕ) → Sound (disjs s turns inner k) (IsDisjs s)
      unfolding disjs
      disjs_sound zero st seen = failed
      disjs_sound (suc k) st seen = choose_sound s begins_cond _ _ _ _
          (λ is. holds_then (disj_sound false (cond_part s turns inner) cond_part_sound st _) (λ p a sn e. holds_then (disjs_sound k a sn) (λ ps b sn d. done {R = λ x m. IsDisjs s x st m} (is, (a, e, d)))))
          (λ is. done {R = λ x m. IsDisjs s x st m} (is, refl))

      conds_sound : Sound (conds_of s turns inner) (IsConds s)
      unfolding conds_of
      conds_sound st seen = holds_then (opens_sound s inner.number exact st seen) (λ n a sn o. holds_then (disj_sound false (cond_part s turns inner) cond_part_sound a sn) (λ d c sn f.
          holds_then (disjs_sound turns c sn) (λ ds l sn g. done {R = λ x m. IsConds s x st m} (a, o, (c, f, g)))))

      opt_conds_sound : Sound (opt_conds s turns inner) (IsOptConds s)
      unfolding opt_conds
      opt_conds_sound st seen = choose_sound s is_when _ _ _ _
          (λ is. holds_then (takes_sound s is_when st _) (λ u a sn e. holds_then (conds_sound a sn) (λ c m sn f. done {R = λ x m. IsOptConds s x st m} (a, e, f))))
          (λ is. done {R = λ x m. IsOptConds s x st m} (is, refl))

      guarded_sound : (n : ℕ) (a st : State) (seen : ℕ) → Opens s n a st → Holds (guarded_part s turns inner n st seen) (λ p m. IsPart s true p a m)
      unfolding guarded_part
      guarded_sound n a st seen o = holds_then (takes_sound s is_when st seen) (λ u b sn e. holds_then (conds_sound b sn) (λ c d sn f. holds_then (bodies d sn) (λ x m sn g.
          done {R = λ p m. IsPart s true p a m} (refl, (st, o, (b, e, (d, f, g)))))))

      kinds_sound : (n : ℕ) (a st : State) (seen : ℕ) → Opens s n a st → Holds (kinds_part s turns inner n st seen) (λ p m. IsPart s true p a m)
      unfolding kinds_part
      kinds_sound n a st seen o = holds_then (has_sound s is_type_name text_of st seen) (λ name b sn e. holds_then (opt_conds_sound b sn) (λ c d sn f. holds_then (bodies d sn) (λ x m sn g.
          done {R = λ p m. IsPart s true p a m} (refl, (st, o, (b, e, (d, f, g)))))))

      full_part_sound : Sound (full_part s turns inner) (IsPart s true)
      unfolding full_part
      full_part_sound st seen = holds_then (opens_sound s inner.number exact st seen) (λ n a sn o. choose_sound s is_when _ _ _ _
          (λ is. bodied_sound s turns inner _ a _ (guarded_sound n st a _ o))
          (λ is. choose_sound s is_type_name _ _ _ _ (λ is. bodied_sound s turns inner _ a _ (kinds_sound n st a _ o)) (λ is. cond_sound true n st a _ o)))

      let_sound : Sound (let_of s turns inner) (IsLet s)
      unfolding let_of
      let_sound st seen = holds_then (opens_sound s inner.number exact st seen) (λ n a sn o. holds_then (takes_sound s is_let a sn) (λ u b sn e. holds_then (has_sound s is_name named_of b sn) (λ name c sn f.
          holds_then (takes_sound s is_assign c sn) (λ u d sn g. holds_then (value_sound d sn) (λ x m sn h. done {R = λ x m. IsLet s x st m} (a, o, (b, e, (c, f, (d, g, h)))))))))

      let_is : (n : ℕ) → is_let n ≡ true → body_sort n ≡ Some ALet
      let_is n e = ap (λ v. cond v (Some ALet) (part_sort n)) e

      part_is : (n : ℕ) → is_let n ≡ false → begins_part n ≡ true → body_sort n ≡ Some APart
      part_is n e f = ap (λ v. cond v (Some ALet) (part_sort n)) e ∙ ap (λ v. cond v (Some APart) None) f

      none_is : (n : ℕ) → is_let n ≡ false → begins_part n ≡ false → body_sort n ≡ None
      none_is n e f = ap (λ v. cond v (Some ALet) (part_sort n)) e ∙ ap (λ v. cond v (Some APart) None) f

      -- the items of a body are these
      abbrev AreBodyItems : BodyItems → Rel
      AreBodyItems x = λ a b. (ps : List Piece) × InRow s body_sort ps a b × AreLets s x.0 (of_sort ALet ps) × AreDisjs s x.1 (of_sort APart ps)

      body_items_sound : (k : ℕ) → Sound (body_items s turns inner k) AreBodyItems
      unfolding body_items
      body_items_sound zero st seen = failed
      body_items_sound (suc k) st seen = choose_sound s is_let _ _ _ _
          (λ is. holds_then (let_sound st _) (λ l a sn e. holds_then (body_items_sound k a sn) (λ more m sn h.
          done {R = λ x m. AreBodyItems x st m} (record { sort = ALet; from = st; to = a } ∷ h.0, (let_is _ is, refl, h.1), (e, h.2), h.3))))
          (λ isnt. choose_sound s begins_part _ _ _ _
          (λ is. holds_then (disj_sound true (full_part s turns inner) full_part_sound st _) (λ d a sn e. holds_then (body_items_sound k a sn) (λ more m sn h.
          done {R = λ x m. AreBodyItems x st m} (record { sort = APart; from = st; to = a } ∷ h.0, (part_is _ isnt is, refl, h.1), h.2, (e, h.3)))))
          (λ is. done {R = λ x m. AreBodyItems x st m} ([], (none_is _ isnt is, refl), tt, tt)))

      filled_is : (ds : Disjs) → is_filled ds ≡ true → IsFilled ds
      filled_is no_disjs e = absurd (true≢false (sym e))
      filled_is (more_disjs d ds) e = tt

      body_end_sound : (n : ℕ) (x : BodyItems) (a b c st : State) (seen : ℕ) → Opens s n a b → Takes s is_lbrace b c → AreBodyItems x c st → (v : Bool) → is_filled x.1 ≡ v
          → Holds ((cond v (body_end s turns inner n x) stop) st seen) (λ x m. IsBody s x a m)
      unfolding body_end
      body_end_sound n x a b c st seen o e h true is = holds_then (takes_sound s is_rbrace st seen) (λ u m sn z.
          done {R = λ x m. IsBody s x a m} (b, o, (c, e, (st, (h.0, h.1, h.2, h.3, filled_is x.1 is), z))))
      body_end_sound n x a b c st seen o e h false is = failed

      body_sound : Sound (body_of s turns inner) (IsBody s)
      unfolding body_of
      body_sound st seen = holds_then (opens_sound s inner.number exact st seen) (λ n a sn o. holds_then (takes_sound s is_lbrace a sn) (λ u b sn e. holds_then (body_items_sound turns b sn) (λ x c sn h.
          body_end_sound n x st a b c sn o e h (is_filled x.1) refl)))

      -- ---- rules and the file

      head_sound : Sound (head s turns inner) (λ h. IsHead s h.0 h.1)
      unfolding head
      head_sound st seen = choose_sound s is_lparen _ _ _ _
          (λ is. holds_then (params_sound st _) (λ ps m sn h. done {R = λ h m. IsHead s h.0 h.1 st m} h))
          (λ is. holds_then (opt_conds_sound st _) (λ c m sn h. done {R = λ h m. IsHead s h.0 h.1 st m} (is, h)))

      rule_sound : Sound (rule_of s turns inner) (IsRule s)
      unfolding rule_of
      rule_sound st seen = holds_then (opens_sound s inner.number exact st seen) (λ n a sn o. holds_then (takes_sound s is_rule a sn) (λ u b sn e. holds_then (has_sound s is_rule_name named_of b sn) (λ name c sn f.
          holds_then (head_sound c sn) (λ h d sn g. holds_then (bodies d sn) (λ x m sn i. done {R = λ r m. IsRule s r st m} (a, o, (b, e, (c, f, (d, g, i)))))))))

      file_let_is : (n : ℕ) → is_let n ≡ true → file_sort n ≡ Some ALet
      file_let_is n e = ap (λ v. cond v (Some ALet) (cond (is_rule n) (Some ARule) (part_sort n))) e

      file_rule_is : (n : ℕ) → is_let n ≡ false → is_rule n ≡ true → file_sort n ≡ Some ARule
      file_rule_is n e f = ap (λ v. cond v (Some ALet) (cond (is_rule n) (Some ARule) (part_sort n))) e ∙ ap (λ v. cond v (Some ARule) (part_sort n)) f

      file_part_is : (n : ℕ) (v : Bool) → is_let n ≡ false → is_rule n ≡ false → begins_part n ≡ v → file_sort n ≡ cond v (Some APart) None
      file_part_is n v e f g = ap (λ v. cond v (Some ALet) (cond (is_rule n) (Some ARule) (part_sort n))) e ∙ ap (λ v. cond v (Some ARule) (part_sort n)) f ∙ ap (λ v. cond v (Some APart) None) g

      -- the items of a file are these
      abbrev AreFileItems : FileItems → Rel
      AreFileItems x = λ a b. (ps : List Piece) × InRow s file_sort ps a b × AreLets s x.0 (of_sort ALet ps) × AreRules s x.1 (of_sort ARule ps) × AreDisjs s x.2 (of_sort APart ps)

      file_items_sound : (k : ℕ) → Sound (file_items s turns inner k) AreFileItems
      unfolding file_items
      file_items_sound zero st seen = failed
      file_items_sound (suc k) st seen = choose_sound s is_let _ _ _ _
          (λ is. holds_then (let_sound st _) (λ l a sn e. holds_then (file_items_sound k a sn) (λ more m sn h.
          done {R = λ x m. AreFileItems x st m} (record { sort = ALet; from = st; to = a } ∷ h.0, (file_let_is _ is, refl, h.1), (e, h.2), h.3, h.4))))
          (λ isnt. choose_sound s is_rule _ _ _ _
          (λ is. holds_then (rule_sound st _) (λ r a sn e. holds_then (file_items_sound k a sn) (λ more m sn h.
          done {R = λ x m. AreFileItems x st m} (record { sort = ARule; from = st; to = a } ∷ h.0, (file_rule_is _ isnt is, refl, h.1), h.2, (e, h.3), h.4))))
          (λ isno. choose_sound s begins_part _ _ _ _
          (λ is. holds_then (disj_sound true (full_part s turns inner) full_part_sound st _) (λ d a sn e. holds_then (file_items_sound k a sn) (λ more m sn h.
          done {R = λ x m. AreFileItems x st m} (record { sort = APart; from = st; to = a } ∷ h.0, (file_part_is _ true isnt isno is, refl, h.1), h.2, h.3, (e, h.4)))))
          (λ is. done {R = λ x m. AreFileItems x st m} ([], (file_part_is _ false isnt isno is, refl), tt, tt, tt))))

      pub contents_sound : (seen : ℕ) → Holds (contents s turns inner start seen) (λ x m. IsContents s x.0 x.1 x.2 start m)
      unfolding contents
      contents_sound seen = holds_then (opens_sound s inner.number exact start seen) (λ n a sn o. holds_so (file_items_sound turns a sn) (λ x m h. (a, (refl, o.1), h)))

  -- what is read in brackets is so
  pub record InnerSound (inner : Inner) : Type 0 where
    pub exact : (k : ℕ) → inner.number k ≡ k
    pub trees : Sound inner.tree (IsLiteral s)
    pub bodies : Sound inner.body (IsBody s)
    pub condss : Sound inner.conds (IsConds s)
    pub exprss : Sound inner.expr (IsExpr s false)
    pub manys : Sound inner.exprs (IsExprs s)

  stop_sound : {A : Type 0} (P : A → Rel) → Sound stop P
  stop_sound P st seen = failed

  -- given that of literals
  pub inners_sound : (turns : ℕ) → ((depth : ℕ) → Sound (literal_of s turns depth) (IsLiteral s)) → (depth : ℕ) → InnerSound (inners s turns depth)
  inners_sound turns literals zero = record {
    exact = λ k. refl;
    trees = literals zero;
    bodies = stop_sound (IsBody s);
    condss = stop_sound (IsConds s);
    exprss = stop_sound (IsExpr s false);
    manys = stop_sound (IsExprs s);
  }
  inners_sound turns literals (suc depth) = let i = inners_sound turns literals depth in record {
    exact = λ k. refl;
    trees = literals (suc depth);
    bodies = body_sound turns _ i.exact i.trees i.bodies i.condss i.exprss i.manys;
    condss = conds_sound turns _ i.exact i.trees i.bodies i.condss i.exprss i.manys;
    exprss = expr_sound turns _ i.exact i.trees i.bodies i.condss i.exprss i.manys false;
    manys = exprs_sound turns _ i.exact i.trees i.bodies i.condss i.exprss i.manys;
  }

  -- what is read of a file is so, given that of literals
  pub file_sound : (turns : ℕ) → ((depth : ℕ) → Sound (literal_of s turns depth) (IsLiteral s)) → (depth seen : ℕ)
      → Holds (contents s turns (inners s turns depth) start seen) (λ x m. IsContents s x.0 x.1 x.2 start m)
  file_sound turns literals depth seen = let i = inners_sound turns literals depth in contents_sound turns _ i.exact i.trees i.bodies i.condss i.exprss i.manys seen
