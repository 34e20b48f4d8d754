-- What is read does not depend on the number of turns that a list may take, where it is above that of the lexemes, nor on how sites are numbered, where
-- that is by how many there are before: each rule of the grammar. At a lexeme begin at most five sites, as at a condition: `conds`, `disj`, `part`,
-- `query` and its first step.
use Rattle.std.proofs.Common.{◌≡◌, refl, sym, ℕ, zero, suc, ◌+◌, ◌<◌, ◌≤◌, Bool, true, false, cond, true≢false, arith, List, Option}
use Rattle.guard_syntax.specs.Named.{Named}
use Rattle.guard_syntax.specs.declared.syntax.Op.{Op}
use Rattle.guard_syntax.specs.Syntax.{Part, Query}
use Rattle.literal_parser.specs.Lexemes.{Lexeme}
use Rattle.literal_parser.specs.Forms.{form, is_name, is_rule_name, is_any_name, is_type_name, is_var, is_index, is_note, is_lbrace, is_rbrace, is_lparen, is_rparen, is_lbracket, is_rbracket, is_comma, is_bar, is_dot, is_star, is_assign, is_equality, is_sign, is_let, is_rule, is_when, is_some_word, is_or, is_neg, is_keys, is_this, is_in, is_operator_word, is_key, is_first_key, is_start, is_plain, is_constant, is_function_word, begins_step, begins_cond, begins_part, leads, opens_range, text_of, named_of, index_of, operator_of, sign_of, is_binary}
use Rattle.literal_parser.specs.States.{State}
use Rattle.literal_parser.specs.code.Parser.{Parser, stop, choose}
use Rattle.part_parser.specs.code.Reading.{BodyItems, Inner, is_filled, named_bar, capture, note, neg, worded, operator, keys_operator, dotted, keyed, filtered, bracketed, step, steps, start_step, query_of, tree_expr, applied, asked_expr, named_expr, expr_of, found_expr, value_of, more_exprs_of, exprs_of, right, tested, called, referred, ruled, judged, headed, led_by_name, cond_of, cond_part, ors, disj_of, disjs, conds_of, opt_conds, guarded_part, kinds_part, bodied, full_part, let_of, body_items, body_end, body_of, numbered}
use Rattle.guard_parser.specs.code.FileReading.{names, params, head, rule_of, file_items, contents}
use Rattle.literal_parser.proofs.Steady.{HasRoom, fewer, IsNumbered, Steady, AreSteady, steady_then, steady_if, pure_steady, stop_steady, opens_steady, takes_steady, has_steady, choose_steady, pair_steady, next_steady, third_steady}

module _ (s : ℕ → Lexeme) (size : ℕ) (ends : form (s size) ≡ 0) where
  -- ---- what does not nest

  named_bar_steady : AreSteady s size ends 5 true (named_bar s) (named_bar s)
  unfolding named_bar
  named_bar_steady st seen near few = steady_then s size ends _ _ (has_steady s size ends is_name named_of refl st seen near few) (λ name a sn near few far. steady_then s size ends _ _ (takes_steady s size ends is_bar refl a sn near few) (λ u b sn near few far. pure_steady s size ends _ b sn near few))

  capture_steady : AreSteady s size ends 5 false (capture s) (capture s)
  unfolding capture
  capture_steady = choose_steady s size ends is_name _ _ _ _ (next_steady s size ends is_bar _ _ _ _ named_bar_steady (λ st seen near few. pure_steady s size ends _ st seen near few)) (λ st seen near few. pure_steady s size ends _ st seen near few)

  note_steady : AreSteady s size ends 5 false (note s) (note s)
  unfolding note
  note_steady = choose_steady s size ends is_note _ _ _ _ (λ st seen near few. steady_then s size ends _ _ (has_steady s size ends is_note text_of refl st seen near few) (λ t a sn near few far. pure_steady s size ends _ a sn near few)) (λ st seen near few. pure_steady s size ends _ st seen near few)

  neg_steady : AreSteady s size ends 5 false (neg s) (neg s)
  unfolding neg
  neg_steady = choose_steady s size ends is_neg _ _ _ _ (λ st seen near few. steady_then s size ends _ _ (takes_steady s size ends is_neg refl st seen near few) (λ u a sn near few far. pure_steady s size ends _ a sn near few)) (λ st seen near few. pure_steady s size ends _ st seen near few)

  worded_steady : (f : ℕ → Bool) → f 0 ≡ false → AreSteady s size ends 5 true (worded s f) (worded s f)
  unfolding worded
  worded_steady f never st seen near few = steady_then s size ends _ _ (neg_steady st seen near few) (λ n a sn near few far. steady_then s size ends _ _ (has_steady s size ends f operator_of never a sn near few) (λ t b sn near few far. pure_steady s size ends _ b sn near few))

  operator_steady : AreSteady s size ends 5 true (operator s) (operator s)
  unfolding operator
  operator_steady = choose_steady s size ends is_sign _ _ _ _ (has_steady s size ends is_sign sign_of refl) (worded_steady is_operator_word refl)

  keys_operator_steady : AreSteady s size ends 5 true (keys_operator s) (keys_operator s)
  unfolding keys_operator
  keys_operator_steady = choose_steady s size ends is_equality _ _ _ _ (has_steady s size ends is_equality sign_of refl) (worded_steady is_in refl)

  module _ (turns larger : ℕ) (enough : size < turns) (plenty : size < larger) where
    names_steady : (k m : ℕ) (st : State) (seen : ℕ) → size < k + st.at → size < m + st.at → st.at ≤ size → HasRoom 5 st → Steady s size ends 5 false st (names s turns k st seen) (names s larger m st seen)
    unfolding names choose
    names_steady zero m st seen left right near few = absurd (omega arith)
    names_steady (suc k) zero st seen left right near few = absurd (omega arith)
    names_steady (suc k) (suc m) st seen left right near few = steady_if s size ends {v = true} (is_comma (form (s st.at))) _ _ _ _ st _ (steady_then s size ends _ _ (takes_steady s size ends is_comma refl st _ near few) (λ u a sn near few f0. steady_then s size ends _ _ (has_steady s size ends is_name named_of refl a _ near few) (λ name b sn near few f1. steady_then s size ends _ _ (names_steady k m b _ (omega arith) (omega arith) near few) (λ more z sn near few far. pure_steady s size ends _ z _ near few))))
        (pure_steady s size ends _ st _ near few)

    params_steady : AreSteady s size ends 5 true (params s turns) (params s larger)
    unfolding params
    params_steady st seen near few = steady_then s size ends _ _ (takes_steady s size ends is_lparen refl st seen near few) (λ u a sn near few far. steady_then s size ends _ _ (has_steady s size ends is_name named_of refl a sn near few) (λ name b sn near few far.
        steady_then s size ends _ _ (names_steady turns larger b sn (omega arith) (omega arith) near few) (λ more c sn near few far. steady_then s size ends _ _ (takes_steady s size ends is_rparen refl c sn near few) (λ u l sn near few far. pure_steady s size ends _ l sn near few))))

    -- the readers of what stands in brackets, over both
    pub record AllSteady (i j : Inner) : Type 0 where
      pub number : IsNumbered size i.number j.number
      pub roomy : i.roomy ≡ j.roomy
      pub tree : AreSteady s size ends 1 true i.tree j.tree
      pub body : AreSteady s size ends 5 true i.body j.body
      pub conds : AreSteady s size ends 5 true i.conds j.conds
      pub expr : AreSteady s size ends 5 true i.expr j.expr
      pub exprs : AreSteady s size ends 5 true i.exprs j.exprs

    module _ (i j : Inner) (all : AllSteady i j) where
      bodied_steady : {A : Type 0} {room : ℕ} (p q : Parser A) → AreSteady s size ends room true p q → AreSteady s size ends room true (bodied s turns i p) (bodied s larger j q)
      unfolding bodied
      bodied_steady {A} p q h st seen near few = by i.roomy j.roomy all.roomy where
        by : (v w : Bool) → v ≡ w → Steady s size ends 5 true st ((cond {A = Parser A} v p stop) st seen) ((cond {A = Parser A} w q stop) st seen)
        by true true e = h st seen near few
        by true false e = absurd (true≢false e)
        by false true e = absurd (true≢false (sym e))
        by false false e = stop_steady s size ends seen

      -- ---- queries

      dotted_steady : (n : ℕ) → AreSteady s size ends 4 true (dotted s turns i n) (dotted s larger j n)
      unfolding dotted
      dotted_steady n st seen near few = steady_then s size ends _ _ (takes_steady s size ends is_dot refl st seen near few) (λ u a sn near few far. choose_steady s size ends is_star _ _ _ _
          (λ a sn near few. steady_then s size ends _ _ (takes_steady s size ends is_star refl a sn near few) (λ u b sn near few far. pure_steady s size ends _ b sn near few))
          (choose_steady s size ends is_index _ _ _ _ (λ a sn near few. steady_then s size ends _ _ (has_steady s size ends is_index index_of refl a sn near few) (λ k b sn near few far. pure_steady s size ends _ b sn near few))
          (choose_steady s size ends is_var _ _ _ _ (λ a sn near few. steady_then s size ends _ _ (has_steady s size ends is_var named_of refl a sn near few) (λ name b sn near few far. pure_steady s size ends _ b sn near few))
          (λ a sn near few. steady_then s size ends _ _ (has_steady s size ends is_key text_of refl a sn near few) (λ name b sn near few far. pure_steady s size ends _ b sn near few)))) a sn near few)

      keyed_steady : (n : ℕ) (name : Option Named) → AreSteady s size ends 5 true (keyed s turns i n name) (keyed s larger j n name)
      unfolding keyed
      keyed_steady n name st seen near few = steady_then s size ends _ _ (takes_steady s size ends is_keys refl st seen near few) (λ u a sn near few far. steady_then s size ends _ _ (keys_operator_steady a sn near few) (λ t b sn near few far.
          steady_then s size ends _ _ (all.expr b sn near few) (λ e c sn near few far. steady_then s size ends _ _ (takes_steady s size ends is_rbracket refl c sn near few) (λ u l sn near few far. pure_steady s size ends _ l sn near few))))

      filtered_steady : (n : ℕ) (name : Option Named) → AreSteady s size ends 5 true (filtered s turns i n name) (filtered s larger j n name)
      unfolding filtered
      filtered_steady n name st seen near few = steady_then s size ends _ _ (all.conds st seen near few) (λ x a sn near few far. steady_then s size ends _ _ (takes_steady s size ends is_rbracket refl a sn near few) (λ u b sn near few far. pure_steady s size ends _ b sn near few))

      bracketed_steady : (n : ℕ) → AreSteady s size ends 4 true (bracketed s turns i n) (bracketed s larger j n)
      unfolding bracketed
      bracketed_steady n st seen near few = steady_then s size ends _ _ (takes_steady s size ends is_lbracket refl st seen near few) (λ u a sn near few far. choose_steady s size ends is_star _ _ _ _
          (λ a sn near few. steady_then s size ends _ _ (takes_steady s size ends is_star refl a sn near few) (λ u b sn near few far. steady_then s size ends _ _ (takes_steady s size ends is_rbracket refl b sn near few) (λ u c sn near few far. pure_steady s size ends _ c sn near few)))
          (choose_steady s size ends is_index _ _ _ _ (λ a sn near few. steady_then s size ends _ _ (has_steady s size ends is_index index_of refl a sn near few) (λ k b sn near few far. steady_then s size ends _ _ (takes_steady s size ends is_rbracket refl b sn near few) (λ u c sn near few far. pure_steady s size ends _ c sn near few)))
          (λ a sn near few. steady_then s size ends _ _ (capture_steady a sn near few) (λ name b sn near few far. choose_steady s size ends is_keys _ _ _ _ (keyed_steady n name) (filtered_steady n name) b sn near few))) a sn near few)

      step_steady : AreSteady s size ends 5 true (step s turns i) (step s larger j)
      unfolding step
      step_steady st seen near few = steady_then s size ends _ _ (opens_steady s size ends 4 i.number j.number all.number st seen near few) (λ n a sn near few far. choose_steady s size ends is_dot _ _ _ _ (dotted_steady n) (bracketed_steady n) a sn near few)

      steps_steady : (k m : ℕ) (st : State) (seen : ℕ) → size < k + st.at → size < m + st.at → st.at ≤ size → HasRoom 5 st → Steady s size ends 5 false st (steps s turns i k st seen) (steps s larger j m st seen)
      unfolding steps choose
      steps_steady zero m st seen left right near few = absurd (omega arith)
      steps_steady (suc k) zero st seen left right near few = absurd (omega arith)
      steps_steady (suc k) (suc m) st seen left right near few = steady_if s size ends {v = true} (begins_step (form (s st.at))) _ _ _ _ st _ (steady_then s size ends _ _ (step_steady st _ near few) (λ p a sn near few f0. steady_then s size ends _ _ (steps_steady k m a _ (omega arith) (omega arith) near few) (λ more z sn near few far. pure_steady s size ends _ z _ near few)))
          (pure_steady s size ends _ st _ near few)

      start_step_steady : AreSteady s size ends 1 true (start_step s turns i) (start_step s larger j)
      unfolding start_step
      start_step_steady st seen near few = steady_then s size ends _ _ (opens_steady s size ends 0 i.number j.number all.number st seen near few) (λ n a sn near few far. choose_steady s size ends is_this _ _ _ _
          (λ a sn near few. steady_then s size ends _ _ (takes_steady s size ends is_this refl a sn near few) (λ u b sn near few far. pure_steady s size ends _ b sn near few))
          (choose_steady s size ends is_var _ _ _ _ (λ a sn near few. steady_then s size ends _ _ (has_steady s size ends is_var text_of refl a sn near few) (λ name b sn near few far. pure_steady s size ends _ b sn near few))
          (λ a sn near few. steady_then s size ends _ _ (has_steady s size ends is_first_key text_of refl a sn near few) (λ name b sn near few far. pure_steady s size ends _ b sn near few))) a sn near few)

      query_steady : AreSteady s size ends 2 true (query_of s turns i) (query_of s larger j)
      unfolding query_of
      query_steady st seen near few = steady_then s size ends _ _ (opens_steady s size ends 1 i.number j.number all.number st seen near few) (λ n a sn near few far. steady_then s size ends _ _ (start_step_steady a sn near few) (λ p b sn near few far. steady_then s size ends _ _ (steps_steady turns larger b sn (omega arith) (omega arith) near few) (λ ps c sn near few far. pure_steady s size ends _ c sn near few)))

      -- ---- expressions

      tree_expr_steady : AreSteady s size ends 2 true (tree_expr s turns i) (tree_expr s larger j)
      unfolding tree_expr
      tree_expr_steady st seen near few = steady_then s size ends _ _ (opens_steady s size ends 1 i.number j.number all.number st seen near few) (λ n a sn near few far. steady_then s size ends _ _ (all.tree a sn near few) (λ t b sn near few far. pure_steady s size ends _ b sn near few))

      applied_steady : AreSteady s size ends 2 true (applied s turns i) (applied s larger j)
      unfolding applied
      applied_steady st seen near few = steady_then s size ends _ _ (opens_steady s size ends 1 i.number j.number all.number st seen near few) (λ n a sn near few far. steady_then s size ends _ _ (has_steady s size ends is_any_name text_of refl a sn near few) (λ name b sn near few far. steady_then s size ends _ _ (takes_steady s size ends is_lparen refl b sn near few) (λ u c sn near few far.
          steady_then s size ends _ _ (all.exprs c sn near few) (λ es l sn near few far. steady_then s size ends _ _ (takes_steady s size ends is_rparen refl l sn near few) (λ u m sn near few far. pure_steady s size ends _ m sn near few)))))

      asked_expr_steady : AreSteady s size ends 2 true (asked_expr s turns i) (asked_expr s larger j)
      unfolding asked_expr
      asked_expr_steady st seen near few = steady_then s size ends _ _ (query_steady st seen near few) (λ q a sn near few far. pure_steady s size ends _ a sn near few)

      expr_steady : AreSteady s size ends 2 true (expr_of s turns i) (expr_of s larger j)
      unfolding expr_of named_expr
      expr_steady = choose_steady s size ends is_function_word _ _ _ _ (bodied_steady _ _ applied_steady) (choose_steady s size ends is_any_name _ _ _ _
          (pair_steady s size ends opens_range _ _ _ _ tree_expr_steady (next_steady s size ends is_lparen _ _ _ _ applied_steady (choose_steady s size ends is_constant _ _ _ _ tree_expr_steady asked_expr_steady)))
          (choose_steady s size ends is_plain _ _ _ _ tree_expr_steady asked_expr_steady))

      found_expr_steady : AreSteady s size ends 2 true (found_expr s turns i) (found_expr s larger j)
      unfolding found_expr
      found_expr_steady st seen near few = steady_then s size ends _ _ (opens_steady s size ends 1 i.number j.number all.number st seen near few) (λ n a sn near few far. steady_then s size ends _ _ (takes_steady s size ends is_some_word refl a sn near few) (λ u b sn near few far. steady_then s size ends _ _ (query_steady b sn near (fewer (omega arith) few)) (λ q c sn near few far. pure_steady s size ends _ c sn near few)))

      value_steady : AreSteady s size ends 2 true (value_of s turns i) (value_of s larger j)
      unfolding value_of
      value_steady = choose_steady s size ends is_some_word _ _ _ _ (next_steady s size ends is_lparen _ _ _ _ expr_steady found_expr_steady) expr_steady

      more_exprs_steady : (k m : ℕ) (st : State) (seen : ℕ) → size < k + st.at → size < m + st.at → st.at ≤ size → HasRoom 5 st → Steady s size ends 5 false st (more_exprs_of s turns i k st seen) (more_exprs_of s larger j m st seen)
      unfolding more_exprs_of choose
      more_exprs_steady zero m st seen left right near few = absurd (omega arith)
      more_exprs_steady (suc k) zero st seen left right near few = absurd (omega arith)
      more_exprs_steady (suc k) (suc m) st seen left right near few = steady_if s size ends {v = true} (is_comma (form (s st.at))) _ _ _ _ st _ (steady_then s size ends _ _ (takes_steady s size ends is_comma refl st _ near few) (λ u a sn near few f0. steady_then s size ends _ _ (expr_steady a _ near (fewer (omega arith) few)) (λ e b sn near few f1. steady_then s size ends _ _ (more_exprs_steady k m b _ (omega arith) (omega arith) near few) (λ more z sn near few far. pure_steady s size ends _ z _ near few))))
          (pure_steady s size ends _ st _ near few)

      exprs_steady : AreSteady s size ends 5 true (exprs_of s turns i) (exprs_of s larger j)
      unfolding exprs_of
      exprs_steady st seen near few = steady_then s size ends _ _ (expr_steady st seen near (fewer (omega arith) few)) (λ e a sn near few far. steady_then s size ends _ _ (more_exprs_steady turns larger a sn (omega arith) (omega arith) near few) (λ es b sn near few far. pure_steady s size ends _ b sn near few))

      -- ---- conditions

      right_steady : (op : Op) → AreSteady s size ends 5 false (right s turns i op) (right s larger j op)
      unfolding right
      right_steady op st seen near few = steady_if s size ends (is_binary op) _ _ _ _ st seen (steady_then s size ends _ _ (expr_steady st seen near (fewer (omega arith) few)) (λ e a sn near few far. pure_steady s size ends _ a sn near few)) (pure_steady s size ends _ st seen near few)

      tested_steady : (n : ℕ) (any : Bool) (q : Query) → AreSteady s size ends 5 true (tested s turns i n any q) (tested s larger j n any q)
      unfolding tested
      tested_steady n any q st seen near few = steady_then s size ends _ _ (operator_steady st seen near few) (λ t a sn near few far. steady_then s size ends _ _ (right_steady t.0 a sn near few) (λ e b sn near few far. steady_then s size ends _ _ (note_steady b sn near few) (λ message c sn near few far. pure_steady s size ends _ c sn near few)))

      called_steady : (n : ℕ) (negated : Bool) (name : List ℕ) → AreSteady s size ends 5 true (called s turns i n negated name) (called s larger j n negated name)
      unfolding called
      called_steady n negated name st seen near few = steady_then s size ends _ _ (takes_steady s size ends is_lparen refl st seen near few) (λ u a sn near few far. steady_then s size ends _ _ (all.exprs a sn near few) (λ es b sn near few far.
          steady_then s size ends _ _ (takes_steady s size ends is_rparen refl b sn near few) (λ u c sn near few far. steady_then s size ends _ _ (note_steady c sn near few) (λ message l sn near few far. pure_steady s size ends _ l sn near few))))

      referred_steady : (n : ℕ) (negated : Bool) (name : List ℕ) → AreSteady s size ends 5 false (referred s turns i n negated name) (referred s larger j n negated name)
      unfolding referred
      referred_steady n negated name st seen near few = steady_then s size ends _ _ (note_steady st seen near few) (λ message a sn near few far. pure_steady s size ends _ a sn near few)

      ruled_steady : (n : ℕ) (negated : Bool) → AreSteady s size ends 2 true (ruled s turns i n negated) (ruled s larger j n negated)
      unfolding ruled
      ruled_steady n negated st seen near few = steady_then s size ends _ _ (has_steady s size ends is_name text_of refl st seen near few) (λ name a sn near few far. choose_steady s size ends is_lparen _ _ _ _ (called_steady n negated name) (referred_steady n negated name) a sn near few)

      judged_steady : (full : Bool) (n : ℕ) (any : Bool) (q : Query) → AreSteady s size ends 5 true (judged s turns i full n any q) (judged s larger j full n any q)
      unfolding judged
      judged_steady true n any q = choose_steady s size ends is_lbrace _ _ _ _ (λ st seen near few. steady_then s size ends _ _ (all.body st seen near few) (λ x a sn near few far. pure_steady s size ends _ a sn near few)) (tested_steady n any q)
      judged_steady false n any q = tested_steady n any q

      headed_steady : (full : Bool) (n : ℕ) (any : Bool) → AreSteady s size ends 2 true (headed s turns i full n any) (headed s larger j full n any)
      unfolding headed
      headed_steady full n any st seen near few = steady_then s size ends _ _ (query_steady st seen near few) (λ q a sn near few far. judged_steady full n any q a sn near few)

      led_by_name_steady : (full : Bool) (n : ℕ) → AreSteady s size ends 2 true (led_by_name s turns i full n) (led_by_name s larger j full n)
      unfolding led_by_name
      led_by_name_steady full n = next_steady s size ends (leads full) _ _ _ _ (headed_steady full n false)
          (next_steady s size ends is_neg _ _ _ _ (third_steady s size ends is_operator_word _ _ _ _ (headed_steady full n false) (ruled_steady n false)) (ruled_steady n false))

      cond_steady : (full : Bool) (n : ℕ) → AreSteady s size ends 2 true (cond_of s turns i full n) (cond_of s larger j full n)
      unfolding cond_of
      cond_steady full n = choose_steady s size ends is_some_word _ _ _ _ (λ st seen near few. steady_then s size ends _ _ (takes_steady s size ends is_some_word refl st seen near few) (λ u a sn near few far. headed_steady full n true a sn near (fewer (omega arith) few)))
          (choose_steady s size ends is_neg _ _ _ _ (λ st seen near few. steady_then s size ends _ _ (takes_steady s size ends is_neg refl st seen near few) (λ u a sn near few far. ruled_steady n true a sn near (fewer (omega arith) few)))
          (choose_steady s size ends is_name _ _ _ _ (led_by_name_steady full n) (choose_steady s size ends is_start _ _ _ _ (headed_steady full n false) (λ st seen near few. stop_steady s size ends seen))))

      cond_part_steady : AreSteady s size ends 3 true (cond_part s turns i) (cond_part s larger j)
      unfolding cond_part
      cond_part_steady st seen near few = steady_then s size ends _ _ (opens_steady s size ends 2 i.number j.number all.number st seen near few) (λ n a sn near few far. cond_steady false n a sn near few)

      -- ---- parts, conditions and bodies

      ors_steady : (p q : Parser Part) → AreSteady s size ends 3 true p q → (k m : ℕ) (st : State) (seen : ℕ) → size < k + st.at → size < m + st.at → st.at ≤ size → HasRoom 5 st → Steady s size ends 5 false st (ors s turns i p k st seen) (ors s larger j q m st seen)
      unfolding ors choose
      ors_steady p q h zero m st seen left right near few = absurd (omega arith)
      ors_steady p q h (suc k) zero st seen left right near few = absurd (omega arith)
      ors_steady p q h (suc k) (suc m) st seen left right near few = steady_if s size ends {v = true} (is_or (form (s st.at))) _ _ _ _ st _ (steady_then s size ends _ _ (takes_steady s size ends is_or refl st _ near few) (λ u a sn near few f0. steady_then s size ends _ _ (h a _ near (fewer (omega arith) few)) (λ x b sn near few f1. steady_then s size ends _ _ (ors_steady p q h k m b _ (omega arith) (omega arith) near few) (λ more z sn near few far. pure_steady s size ends _ z _ near few))))
          (pure_steady s size ends _ st _ near few)

      disj_steady : (p q : Parser Part) → AreSteady s size ends 3 true p q → AreSteady s size ends 4 true (disj_of s turns i p) (disj_of s larger j q)
      unfolding disj_of
      disj_steady p q h st seen near few = steady_then s size ends _ _ (opens_steady s size ends 3 i.number j.number all.number st seen near few) (λ n a sn near few far. steady_then s size ends _ _ (h a sn near few) (λ x b sn near few far. steady_then s size ends _ _ (ors_steady p q h turns larger b sn (omega arith) (omega arith) near few) (λ xs c sn near few far. pure_steady s size ends _ c sn near few)))

      disjs_steady : (k m : ℕ) (st : State) (seen : ℕ) → size < k + st.at → size < m + st.at → st.at ≤ size → HasRoom 5 st → Steady s size ends 5 false st (disjs s turns i k st seen) (disjs s larger j m st seen)
      unfolding disjs choose
      disjs_steady zero m st seen left right near few = absurd (omega arith)
      disjs_steady (suc k) zero st seen left right near few = absurd (omega arith)
      disjs_steady (suc k) (suc m) st seen left right near few = steady_if s size ends {v = true} (begins_cond (form (s st.at))) _ _ _ _ st _ (steady_then s size ends _ _ (disj_steady _ _ cond_part_steady st _ near (fewer (omega arith) few)) (λ d a sn near few f0. steady_then s size ends _ _ (disjs_steady k m a _ (omega arith) (omega arith) near few) (λ more z sn near few far. pure_steady s size ends _ z _ near few)))
          (pure_steady s size ends _ st _ near few)

      conds_steady : AreSteady s size ends 5 true (conds_of s turns i) (conds_of s larger j)
      unfolding conds_of
      conds_steady st seen near few = steady_then s size ends _ _ (opens_steady s size ends 4 i.number j.number all.number st seen near few) (λ n a sn near few far. steady_then s size ends _ _ (disj_steady _ _ cond_part_steady a sn near few) (λ d b sn near few far. steady_then s size ends _ _ (disjs_steady turns larger b sn (omega arith) (omega arith) near few) (λ ds c sn near few far. pure_steady s size ends _ c sn near few)))

      opt_conds_steady : AreSteady s size ends 5 false (opt_conds s turns i) (opt_conds s larger j)
      unfolding opt_conds
      opt_conds_steady = choose_steady s size ends is_when _ _ _ _ (λ st seen near few. steady_then s size ends _ _ (takes_steady s size ends is_when refl st seen near few) (λ u a sn near few far. steady_then s size ends _ _ (conds_steady a sn near few) (λ x b sn near few far. pure_steady s size ends _ b sn near few))) (λ st seen near few. pure_steady s size ends _ st seen near few)

      guarded_steady : (n : ℕ) → AreSteady s size ends 2 true (guarded_part s turns i n) (guarded_part s larger j n)
      unfolding guarded_part
      guarded_steady n st seen near few = steady_then s size ends _ _ (takes_steady s size ends is_when refl st seen near few) (λ u a sn near few far. steady_then s size ends _ _ (conds_steady a sn near few) (λ x b sn near few far. steady_then s size ends _ _ (all.body b sn near few) (λ y c sn near few far. pure_steady s size ends _ c sn near few)))

      kinds_steady : (n : ℕ) → AreSteady s size ends 2 true (kinds_part s turns i n) (kinds_part s larger j n)
      unfolding kinds_part
      kinds_steady n st seen near few = steady_then s size ends _ _ (has_steady s size ends is_type_name text_of refl st seen near few) (λ name a sn near few far. steady_then s size ends _ _ (opt_conds_steady a sn near few) (λ x b sn near few far. steady_then s size ends _ _ (all.body b sn near few) (λ y c sn near few far. pure_steady s size ends _ c sn near few)))

      full_part_steady : AreSteady s size ends 3 true (full_part s turns i) (full_part s larger j)
      unfolding full_part
      full_part_steady st seen near few = steady_then s size ends _ _ (opens_steady s size ends 2 i.number j.number all.number st seen near few) (λ n a sn near few far. choose_steady s size ends is_when _ _ _ _ (bodied_steady _ _ (guarded_steady n))
          (choose_steady s size ends is_type_name _ _ _ _ (bodied_steady _ _ (kinds_steady n)) (cond_steady true n)) a sn near few)

      let_steady : AreSteady s size ends 5 true (let_of s turns i) (let_of s larger j)
      unfolding let_of
      let_steady st seen near few = steady_then s size ends _ _ (opens_steady s size ends 4 i.number j.number all.number st seen near few) (λ n a sn near few far. steady_then s size ends _ _ (takes_steady s size ends is_let refl a sn near few) (λ u b sn near few far. steady_then s size ends _ _ (has_steady s size ends is_name named_of refl b sn near few) (λ name c sn near few far.
          steady_then s size ends _ _ (takes_steady s size ends is_assign refl c sn near few) (λ u l sn near few far. steady_then s size ends _ _ (value_steady l sn near (fewer (omega arith) few)) (λ e m sn near few far. pure_steady s size ends _ m sn near few)))))

      body_items_steady : (k m : ℕ) (st : State) (seen : ℕ) → size < k + st.at → size < m + st.at → st.at ≤ size → HasRoom 5 st → Steady s size ends 5 false st (body_items s turns i k st seen) (body_items s larger j m st seen)
      unfolding body_items choose
      body_items_steady zero m st seen left right near few = absurd (omega arith)
      body_items_steady (suc k) zero st seen left right near few = absurd (omega arith)
      body_items_steady (suc k) (suc m) st seen left right near few = steady_if s size ends {v = true} (is_let (form (s st.at))) _ _ _ _ st _ (steady_then s size ends _ _ (let_steady st _ near few) (λ x a sn near few f0. steady_then s size ends _ _ (body_items_steady k m a _ (omega arith) (omega arith) near few) (λ more z sn near few far. pure_steady s size ends _ z _ near few)))
          (steady_if s size ends {v = true} (begins_part (form (s st.at))) _ _ _ _ st _ (steady_then s size ends _ _ (disj_steady _ _ full_part_steady st _ near (fewer (omega arith) few)) (λ d a sn near few f0. steady_then s size ends _ _ (body_items_steady k m a _ (omega arith) (omega arith) near few) (λ more z sn near few far. pure_steady s size ends _ z _ near few)))
          (pure_steady s size ends _ st _ near few))

      body_end_steady : (n : ℕ) (contained : BodyItems) → AreSteady s size ends 5 true (body_end s turns i n contained) (body_end s larger j n contained)
      unfolding body_end
      body_end_steady n contained st seen near few = steady_then s size ends _ _ (takes_steady s size ends is_rbrace refl st seen near few) (λ u a sn near few far. pure_steady s size ends _ a sn near few)

      body_steady : AreSteady s size ends 5 true (body_of s turns i) (body_of s larger j)
      unfolding body_of
      body_steady st seen near few = steady_then s size ends _ _ (opens_steady s size ends 4 i.number j.number all.number st seen near few) (λ n a sn near few far. steady_then s size ends _ _ (takes_steady s size ends is_lbrace refl a sn near few) (λ u b sn near few far. steady_then s size ends _ _ (body_items_steady turns larger b sn (omega arith) (omega arith) near few) (λ contained c sn near few far.
          steady_if s size ends {u = true} (is_filled contained.1) _ _ _ _ c sn (body_end_steady n contained c sn near few) (stop_steady s size ends sn))))

      -- ---- rules and the file

      head_steady : AreSteady s size ends 5 false (head s turns i) (head s larger j)
      unfolding head
      head_steady = choose_steady s size ends is_lparen _ _ _ _ (λ st seen near few. steady_then s size ends _ _ (params_steady st seen near few) (λ ps a sn near few far. pure_steady s size ends _ a sn near few)) (λ st seen near few. steady_then s size ends _ _ (opt_conds_steady st seen near few) (λ x a sn near few far. pure_steady s size ends _ a sn near few))

      rule_steady : AreSteady s size ends 5 true (rule_of s turns i) (rule_of s larger j)
      unfolding rule_of
      rule_steady st seen near few = steady_then s size ends _ _ (opens_steady s size ends 4 i.number j.number all.number st seen near few) (λ n a sn near few far. steady_then s size ends _ _ (takes_steady s size ends is_rule refl a sn near few) (λ u b sn near few far. steady_then s size ends _ _ (has_steady s size ends is_rule_name named_of refl b sn near few) (λ name c sn near few far.
          steady_then s size ends _ _ (head_steady c sn near few) (λ h l sn near few far. steady_then s size ends _ _ (all.body l sn near few) (λ x m sn near few far. pure_steady s size ends _ m sn near few)))))

      file_items_steady : (k m : ℕ) (st : State) (seen : ℕ) → size < k + st.at → size < m + st.at → st.at ≤ size → HasRoom 5 st → Steady s size ends 5 false st (file_items s turns i k st seen) (file_items s larger j m st seen)
      unfolding file_items choose
      file_items_steady zero m st seen left right near few = absurd (omega arith)
      file_items_steady (suc k) zero st seen left right near few = absurd (omega arith)
      file_items_steady (suc k) (suc m) st seen left right near few = steady_if s size ends {v = true} (is_let (form (s st.at))) _ _ _ _ st _ (steady_then s size ends _ _ (let_steady st _ near few) (λ x a sn near few f0. steady_then s size ends _ _ (file_items_steady k m a _ (omega arith) (omega arith) near few) (λ more z sn near few far. pure_steady s size ends _ z _ near few)))
          (steady_if s size ends {v = true} (is_rule (form (s st.at))) _ _ _ _ st _ (steady_then s size ends _ _ (rule_steady st _ near few) (λ r a sn near few f0. steady_then s size ends _ _ (file_items_steady k m a _ (omega arith) (omega arith) near few) (λ more z sn near few far. pure_steady s size ends _ z _ near few)))
          (steady_if s size ends {v = true} (begins_part (form (s st.at))) _ _ _ _ st _ (steady_then s size ends _ _ (disj_steady _ _ full_part_steady st _ near (fewer (omega arith) few)) (λ d a sn near few f0. steady_then s size ends _ _ (file_items_steady k m a _ (omega arith) (omega arith) near few) (λ more z sn near few far. pure_steady s size ends _ z _ near few)))
          (pure_steady s size ends _ st _ near few)))

      pub contents_steady : AreSteady s size ends 6 false (contents s turns i) (contents s larger j)
      unfolding contents
      contents_steady st seen near few = steady_then s size ends _ _ (opens_steady s size ends 5 i.number j.number all.number st seen near few) (λ n a sn near few far. file_items_steady turns larger a sn (omega arith) (omega arith) near few)

    -- given the same of literals
    module _ (g h : ℕ → ℕ) (alike : IsNumbered size g h) (trees : (depth : ℕ) → AreSteady s size ends 1 true (numbered s turns g depth).tree (numbered s larger h depth).tree) where
      pub inners_steady : (depth : ℕ) → AllSteady (numbered s turns g depth) (numbered s larger h depth)
      inners_steady zero = record {
        number = alike;
        roomy = refl;
        tree = trees zero;
        body = λ st seen near few. stop_steady s size ends seen;
        conds = λ st seen near few. stop_steady s size ends seen;
        expr = λ st seen near few. stop_steady s size ends seen;
        exprs = λ st seen near few. stop_steady s size ends seen;
      }
      inners_steady (suc depth) = let all = inners_steady depth in record {
        number = alike;
        roomy = refl;
        tree = trees (suc depth);
        body = body_steady _ _ all;
        conds = conds_steady _ _ all;
        expr = λ st seen near few. expr_steady _ _ all st seen near (fewer (omega arith) few);
        exprs = exprs_steady _ _ all;
      }
