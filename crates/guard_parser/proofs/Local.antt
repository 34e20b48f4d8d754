-- What is read depends on the lexemes that were looked at, and on no others: over lexemes that agree so far the outcome is the same.
use Rattle.std.proofs.Common.{◌≡◌, refl, ℕ, zero, suc, Bool, true, false, List, Option}
use Rattle.guard_syntax.specs.Named.{Named}
use Rattle.guard_syntax.specs.declared.syntax.Op.{Op}
use Rattle.guard_syntax.specs.Syntax.{Part, Query}
use Rattle.literal_parser.specs.Lexemes.{Lexeme}
use Rattle.literal_parser.specs.Forms.{is_name, is_rule_name, is_any_name, is_type_name, is_var, is_index, is_note, is_lbrace, is_rbrace, is_lparen, is_rparen, is_lbracket, is_rbracket, is_comma, is_bar, is_dot, is_star, is_assign, is_equality, is_sign, is_let, is_rule, is_when, is_some_word, is_or, is_neg, is_keys, is_this, is_in, is_operator_word, is_key, is_first_key, is_start, is_plain, is_constant, is_function_word, begins_step, begins_cond, begins_part, leads, opens_range, text_of, named_of, index_of, operator_of, sign_of, is_binary}
use Rattle.literal_parser.specs.code.Parser.{Parser}
use Rattle.part_parser.specs.code.Reading.{BodyItems, Inner, is_filled, named_bar, capture, note, neg, worded, operator, keys_operator, dotted, keyed, filtered, bracketed, step, steps, start_step, query_of, tree_expr, applied, asked_expr, named_expr, expr_of, found_expr, value_of, more_exprs_of, exprs_of, right, tested, called, referred, ruled, judged, headed, led_by_name, cond_of, cond_part, ors, disj_of, disjs, conds_of, opt_conds, guarded_part, kinds_part, full_part, let_of, body_items, body_end, body_of, inners}
use Rattle.guard_parser.specs.code.FileReading.{names, params, head, rule_of, file_items, contents}
use Rattle.literal_parser.proofs.Steps.{Local, alike_then, alike_if, pure_local, stop_local, opens_local, takes_local, has_local, choose_local, pair_local, next_local, third_local}
use Rattle.part_parser.proofs.Rooms.{bodied_local}

module _ (s w : ℕ → Lexeme) where
  -- ---- what does not nest

  named_bar_local : Local s w (named_bar s) (named_bar w)
  unfolding named_bar
  named_bar_local st seen = alike_then s w _ _ (has_local s w is_name named_of st seen) (λ name a sn. alike_then s w _ _ (takes_local s w is_bar a sn) (λ u b sn. pure_local s w _ b sn))

  capture_local : Local s w (capture s) (capture w)
  unfolding capture
  capture_local = choose_local s w is_name _ _ _ _ (next_local s w is_bar _ _ _ _ named_bar_local (λ st seen. pure_local s w _ st seen)) (λ st seen. pure_local s w _ st seen)

  note_local : Local s w (note s) (note w)
  unfolding note
  note_local = choose_local s w is_note _ _ _ _ (λ st seen. alike_then s w _ _ (has_local s w is_note text_of st seen) (λ t a sn. pure_local s w _ a sn)) (λ st seen. pure_local s w _ st seen)

  neg_local : Local s w (neg s) (neg w)
  unfolding neg
  neg_local = choose_local s w is_neg _ _ _ _ (λ st seen. alike_then s w _ _ (takes_local s w is_neg st seen) (λ u a sn. pure_local s w _ a sn)) (λ st seen. pure_local s w _ st seen)

  worded_local : (f : ℕ → Bool) → Local s w (worded s f) (worded w f)
  unfolding worded
  worded_local f st seen = alike_then s w _ _ (neg_local st seen) (λ n a sn. alike_then s w _ _ (has_local s w f operator_of a sn) (λ t b sn. pure_local s w _ b sn))

  operator_local : Local s w (operator s) (operator w)
  unfolding operator
  operator_local = choose_local s w is_sign _ _ _ _ (has_local s w is_sign sign_of) (worded_local is_operator_word)

  keys_operator_local : Local s w (keys_operator s) (keys_operator w)
  unfolding keys_operator
  keys_operator_local = choose_local s w is_equality _ _ _ _ (has_local s w is_equality sign_of) (worded_local is_in)

  module _ (turns : ℕ) where
    names_local : (k : ℕ) → Local s w (names s turns k) (names w turns k)
    unfolding names
    names_local zero st seen = stop_local s w seen
    names_local (suc k) st seen = choose_local s w is_comma _ _ _ _
        (λ st seen. alike_then s w _ _ (takes_local s w is_comma st seen) (λ u a sn. alike_then s w _ _ (has_local s w is_name named_of a sn) (λ name b sn. alike_then s w _ _ (names_local k b sn) (λ more c sn. pure_local s w _ c sn))))
        (λ st seen. pure_local s w _ st seen) st seen

    params_local : Local s w (params s turns) (params w turns)
    unfolding params
    params_local st seen = alike_then s w _ _ (takes_local s w is_lparen st seen) (λ u a sn. alike_then s w _ _ (has_local s w is_name named_of a sn) (λ name b sn.
        alike_then s w _ _ (names_local turns b sn) (λ more c sn. alike_then s w _ _ (takes_local s w is_rparen c sn) (λ u l sn. pure_local s w _ l sn))))

    -- the readers of what stands in brackets, over both
    pub record AllLocal (i j : Inner) : Type 0 where
      pub number : i.number ≡ j.number
      pub roomy : i.roomy ≡ j.roomy
      pub tree : Local s w i.tree j.tree
      pub body : Local s w i.body j.body
      pub conds : Local s w i.conds j.conds
      pub expr : Local s w i.expr j.expr
      pub exprs : Local s w i.exprs j.exprs

    module _ (i j : Inner) (all : AllLocal i j) where
      -- ---- queries

      dotted_local : (n : ℕ) → Local s w (dotted s turns i n) (dotted w turns j n)
      unfolding dotted
      dotted_local n st seen = alike_then s w _ _ (takes_local s w is_dot st seen) (λ u a sn. choose_local s w is_star _ _ _ _
          (λ a sn. alike_then s w _ _ (takes_local s w is_star a sn) (λ u b sn. pure_local s w _ b sn))
          (choose_local s w is_index _ _ _ _ (λ a sn. alike_then s w _ _ (has_local s w is_index index_of a sn) (λ k b sn. pure_local s w _ b sn))
          (choose_local s w is_var _ _ _ _ (λ a sn. alike_then s w _ _ (has_local s w is_var named_of a sn) (λ name b sn. pure_local s w _ b sn))
          (λ a sn. alike_then s w _ _ (has_local s w is_key text_of a sn) (λ name b sn. pure_local s w _ b sn)))) a sn)

      keyed_local : (n : ℕ) (name : Option Named) → Local s w (keyed s turns i n name) (keyed w turns j n name)
      unfolding keyed
      keyed_local n name st seen = alike_then s w _ _ (takes_local s w is_keys st seen) (λ u a sn. alike_then s w _ _ (keys_operator_local a sn) (λ t b sn.
          alike_then s w _ _ (all.expr b sn) (λ e c sn. alike_then s w _ _ (takes_local s w is_rbracket c sn) (λ u l sn. pure_local s w _ l sn))))

      filtered_local : (n : ℕ) (name : Option Named) → Local s w (filtered s turns i n name) (filtered w turns j n name)
      unfolding filtered
      filtered_local n name st seen = alike_then s w _ _ (all.conds st seen) (λ x a sn. alike_then s w _ _ (takes_local s w is_rbracket a sn) (λ u b sn. pure_local s w _ b sn))

      bracketed_local : (n : ℕ) → Local s w (bracketed s turns i n) (bracketed w turns j n)
      unfolding bracketed
      bracketed_local n st seen = alike_then s w _ _ (takes_local s w is_lbracket st seen) (λ u a sn. choose_local s w is_star _ _ _ _
          (λ a sn. alike_then s w _ _ (takes_local s w is_star a sn) (λ u b sn. alike_then s w _ _ (takes_local s w is_rbracket b sn) (λ u c sn. pure_local s w _ c sn)))
          (choose_local s w is_index _ _ _ _ (λ a sn. alike_then s w _ _ (has_local s w is_index index_of a sn) (λ k b sn. alike_then s w _ _ (takes_local s w is_rbracket b sn) (λ u c sn. pure_local s w _ c sn)))
          (λ a sn. alike_then s w _ _ (capture_local a sn) (λ name b sn. choose_local s w is_keys _ _ _ _ (keyed_local n name) (filtered_local n name) b sn))) a sn)

      step_local : Local s w (step s turns i) (step w turns j)
      unfolding step
      step_local st seen = alike_then s w _ _ (opens_local s w i.number j.number all.number st seen) (λ n a sn. choose_local s w is_dot _ _ _ _ (dotted_local n) (bracketed_local n) a sn)

      steps_local : (k : ℕ) → Local s w (steps s turns i k) (steps w turns j k)
      unfolding steps
      steps_local zero st seen = stop_local s w seen
      steps_local (suc k) st seen = choose_local s w begins_step _ _ _ _
          (λ st seen. alike_then s w _ _ (step_local st seen) (λ p a sn. alike_then s w _ _ (steps_local k a sn) (λ ps b sn. pure_local s w _ b sn)))
          (λ st seen. pure_local s w _ st seen) st seen

      start_step_local : Local s w (start_step s turns i) (start_step w turns j)
      unfolding start_step
      start_step_local st seen = alike_then s w _ _ (opens_local s w i.number j.number all.number st seen) (λ n a sn. choose_local s w is_this _ _ _ _
          (λ a sn. alike_then s w _ _ (takes_local s w is_this a sn) (λ u b sn. pure_local s w _ b sn))
          (choose_local s w is_var _ _ _ _ (λ a sn. alike_then s w _ _ (has_local s w is_var text_of a sn) (λ name b sn. pure_local s w _ b sn))
          (λ a sn. alike_then s w _ _ (has_local s w is_first_key text_of a sn) (λ name b sn. pure_local s w _ b sn))) a sn)

      query_local : Local s w (query_of s turns i) (query_of w turns j)
      unfolding query_of
      query_local st seen = alike_then s w _ _ (opens_local s w i.number j.number all.number st seen) (λ n a sn. alike_then s w _ _ (start_step_local a sn) (λ p b sn. alike_then s w _ _ (steps_local turns b sn) (λ ps c sn. pure_local s w _ c sn)))

      -- ---- expressions

      tree_expr_local : Local s w (tree_expr s turns i) (tree_expr w turns j)
      unfolding tree_expr
      tree_expr_local st seen = alike_then s w _ _ (opens_local s w i.number j.number all.number st seen) (λ n a sn. alike_then s w _ _ (all.tree a sn) (λ t b sn. pure_local s w _ b sn))

      applied_local : Local s w (applied s turns i) (applied w turns j)
      unfolding applied
      applied_local st seen = alike_then s w _ _ (opens_local s w i.number j.number all.number st seen) (λ n a sn. alike_then s w _ _ (has_local s w is_any_name text_of a sn) (λ name b sn. alike_then s w _ _ (takes_local s w is_lparen b sn) (λ u c sn.
          alike_then s w _ _ (all.exprs c sn) (λ es l sn. alike_then s w _ _ (takes_local s w is_rparen l sn) (λ u m sn. pure_local s w _ m sn)))))

      asked_expr_local : Local s w (asked_expr s turns i) (asked_expr w turns j)
      unfolding asked_expr
      asked_expr_local st seen = alike_then s w _ _ (query_local st seen) (λ q a sn. pure_local s w _ a sn)

      expr_local : Local s w (expr_of s turns i) (expr_of w turns j)
      unfolding expr_of named_expr
      expr_local = choose_local s w is_function_word _ _ _ _ (bodied_local s w turns i j _ _ all.roomy applied_local) (choose_local s w is_any_name _ _ _ _
          (pair_local s w opens_range _ _ _ _ tree_expr_local (next_local s w is_lparen _ _ _ _ applied_local (choose_local s w is_constant _ _ _ _ tree_expr_local asked_expr_local)))
          (choose_local s w is_plain _ _ _ _ tree_expr_local asked_expr_local))

      found_expr_local : Local s w (found_expr s turns i) (found_expr w turns j)
      unfolding found_expr
      found_expr_local st seen = alike_then s w _ _ (opens_local s w i.number j.number all.number st seen) (λ n a sn. alike_then s w _ _ (takes_local s w is_some_word a sn) (λ u b sn. alike_then s w _ _ (query_local b sn) (λ q c sn. pure_local s w _ c sn)))

      value_local : Local s w (value_of s turns i) (value_of w turns j)
      unfolding value_of
      value_local = choose_local s w is_some_word _ _ _ _ (next_local s w is_lparen _ _ _ _ expr_local found_expr_local) expr_local

      more_exprs_local : (k : ℕ) → Local s w (more_exprs_of s turns i k) (more_exprs_of w turns j k)
      unfolding more_exprs_of
      more_exprs_local zero st seen = stop_local s w seen
      more_exprs_local (suc k) st seen = choose_local s w is_comma _ _ _ _
          (λ st seen. alike_then s w _ _ (takes_local s w is_comma st seen) (λ u a sn. alike_then s w _ _ (expr_local a sn) (λ e b sn. alike_then s w _ _ (more_exprs_local k b sn) (λ es c sn. pure_local s w _ c sn))))
          (λ st seen. pure_local s w _ st seen) st seen

      exprs_local : Local s w (exprs_of s turns i) (exprs_of w turns j)
      unfolding exprs_of
      exprs_local st seen = alike_then s w _ _ (expr_local st seen) (λ e a sn. alike_then s w _ _ (more_exprs_local turns a sn) (λ es b sn. pure_local s w _ b sn))

      -- ---- conditions

      right_local : (op : Op) → Local s w (right s turns i op) (right w turns j op)
      unfolding right
      right_local op st seen = alike_if s w (is_binary op) _ _ _ _ st seen (alike_then s w _ _ (expr_local st seen) (λ e a sn. pure_local s w _ a sn)) (pure_local s w _ st seen)

      tested_local : (n : ℕ) (any : Bool) (q : Query) → Local s w (tested s turns i n any q) (tested w turns j n any q)
      unfolding tested
      tested_local n any q st seen = alike_then s w _ _ (operator_local st seen) (λ t a sn. alike_then s w _ _ (right_local t.0 a sn) (λ e b sn. alike_then s w _ _ (note_local b sn) (λ message c sn. pure_local s w _ c sn)))

      called_local : (n : ℕ) (negated : Bool) (name : List ℕ) → Local s w (called s turns i n negated name) (called w turns j n negated name)
      unfolding called
      called_local n negated name st seen = alike_then s w _ _ (takes_local s w is_lparen st seen) (λ u a sn. alike_then s w _ _ (all.exprs a sn) (λ es b sn.
          alike_then s w _ _ (takes_local s w is_rparen b sn) (λ u c sn. alike_then s w _ _ (note_local c sn) (λ message l sn. pure_local s w _ l sn))))

      referred_local : (n : ℕ) (negated : Bool) (name : List ℕ) → Local s w (referred s turns i n negated name) (referred w turns j n negated name)
      unfolding referred
      referred_local n negated name st seen = alike_then s w _ _ (note_local st seen) (λ message a sn. pure_local s w _ a sn)

      ruled_local : (n : ℕ) (negated : Bool) → Local s w (ruled s turns i n negated) (ruled w turns j n negated)
      unfolding ruled
      ruled_local n negated st seen = alike_then s w _ _ (has_local s w is_name text_of st seen) (λ name a sn. choose_local s w is_lparen _ _ _ _ (called_local n negated name) (referred_local n negated name) a sn)

      judged_local : (full : Bool) (n : ℕ) (any : Bool) (q : Query) → Local s w (judged s turns i full n any q) (judged w turns j full n any q)
      unfolding judged
      judged_local true n any q = choose_local s w is_lbrace _ _ _ _ (λ st seen. alike_then s w _ _ (all.body st seen) (λ x a sn. pure_local s w _ a sn)) (tested_local n any q)
      judged_local false n any q = tested_local n any q

      headed_local : (full : Bool) (n : ℕ) (any : Bool) → Local s w (headed s turns i full n any) (headed w turns j full n any)
      unfolding headed
      headed_local full n any st seen = alike_then s w _ _ (query_local st seen) (λ q a sn. judged_local full n any q a sn)

      led_by_name_local : (full : Bool) (n : ℕ) → Local s w (led_by_name s turns i full n) (led_by_name w turns j full n)
      unfolding led_by_name
      led_by_name_local full n = next_local s w (leads full) _ _ _ _ (headed_local full n false)
          (next_local s w is_neg _ _ _ _ (third_local s w is_operator_word _ _ _ _ (headed_local full n false) (ruled_local n false)) (ruled_local n false))

      cond_local : (full : Bool) (n : ℕ) → Local s w (cond_of s turns i full n) (cond_of w turns j full n)
      unfolding cond_of
      cond_local full n = choose_local s w is_some_word _ _ _ _ (λ st seen. alike_then s w _ _ (takes_local s w is_some_word st seen) (λ u a sn. headed_local full n true a sn))
          (choose_local s w is_neg _ _ _ _ (λ st seen. alike_then s w _ _ (takes_local s w is_neg st seen) (λ u a sn. ruled_local n true a sn))
          (choose_local s w is_name _ _ _ _ (led_by_name_local full n) (choose_local s w is_start _ _ _ _ (headed_local full n false) (λ st seen. stop_local s w seen))))

      cond_part_local : Local s w (cond_part s turns i) (cond_part w turns j)
      unfolding cond_part
      cond_part_local st seen = alike_then s w _ _ (opens_local s w i.number j.number all.number st seen) (λ n a sn. cond_local false n a sn)

      -- ---- parts, conditions and bodies

      ors_local : (p q : Parser Part) → Local s w p q → (k : ℕ) → Local s w (ors s turns i p k) (ors w turns j q k)
      unfolding ors
      ors_local p q h zero st seen = stop_local s w seen
      ors_local p q h (suc k) st seen = choose_local s w is_or _ _ _ _
          (λ st seen. alike_then s w _ _ (takes_local s w is_or st seen) (λ u a sn. alike_then s w _ _ (h a sn) (λ x b sn. alike_then s w _ _ (ors_local p q h k b sn) (λ xs c sn. pure_local s w _ c sn))))
          (λ st seen. pure_local s w _ st seen) st seen

      disj_local : (p q : Parser Part) → Local s w p q → Local s w (disj_of s turns i p) (disj_of w turns j q)
      unfolding disj_of
      disj_local p q h st seen = alike_then s w _ _ (opens_local s w i.number j.number all.number st seen) (λ n a sn. alike_then s w _ _ (h a sn) (λ x b sn. alike_then s w _ _ (ors_local p q h turns b sn) (λ xs c sn. pure_local s w _ c sn)))

      disjs_local : (k : ℕ) → Local s w (disjs s turns i k) (disjs w turns j k)
      unfolding disjs
      disjs_local zero st seen = stop_local s w seen
      disjs_local (suc k) st seen = choose_local s w begins_cond _ _ _ _
          (λ st seen. alike_then s w _ _ (disj_local _ _ cond_part_local st seen) (λ d a sn. alike_then s w _ _ (disjs_local k a sn) (λ ds b sn. pure_local s w _ b sn)))
          (λ st seen. pure_local s w _ st seen) st seen

      conds_local : Local s w (conds_of s turns i) (conds_of w turns j)
      unfolding conds_of
      conds_local st seen = alike_then s w _ _ (opens_local s w i.number j.number all.number st seen) (λ n a sn. alike_then s w _ _ (disj_local _ _ cond_part_local a sn) (λ d b sn. alike_then s w _ _ (disjs_local turns b sn) (λ ds c sn. pure_local s w _ c sn)))

      opt_conds_local : Local s w (opt_conds s turns i) (opt_conds w turns j)
      unfolding opt_conds
      opt_conds_local = choose_local s w is_when _ _ _ _ (λ st seen. alike_then s w _ _ (takes_local s w is_when st seen) (λ u a sn. alike_then s w _ _ (conds_local a sn) (λ x b sn. pure_local s w _ b sn))) (λ st seen. pure_local s w _ st seen)

      guarded_local : (n : ℕ) → Local s w (guarded_part s turns i n) (guarded_part w turns j n)
      unfolding guarded_part
      guarded_local n st seen = alike_then s w _ _ (takes_local s w is_when st seen) (λ u a sn. alike_then s w _ _ (conds_local a sn) (λ x b sn. alike_then s w _ _ (all.body b sn) (λ y c sn. pure_local s w _ c sn)))

      kinds_local : (n : ℕ) → Local s w (kinds_part s turns i n) (kinds_part w turns j n)
      unfolding kinds_part
      kinds_local n st seen = alike_then s w _ _ (has_local s w is_type_name text_of st seen) (λ name a sn. alike_then s w _ _ (opt_conds_local a sn) (λ x b sn. alike_then s w _ _ (all.body b sn) (λ y c sn. pure_local s w _ c sn)))

      full_part_local : Local s w (full_part s turns i) (full_part w turns j)
      unfolding full_part
      full_part_local st seen = alike_then s w _ _ (opens_local s w i.number j.number all.number st seen) (λ n a sn. choose_local s w is_when _ _ _ _ (bodied_local s w turns i j _ _ all.roomy (guarded_local n))
          (choose_local s w is_type_name _ _ _ _ (bodied_local s w turns i j _ _ all.roomy (kinds_local n)) (cond_local true n)) a sn)

      let_local : Local s w (let_of s turns i) (let_of w turns j)
      unfolding let_of
      let_local st seen = alike_then s w _ _ (opens_local s w i.number j.number all.number st seen) (λ n a sn. alike_then s w _ _ (takes_local s w is_let a sn) (λ u b sn. alike_then s w _ _ (has_local s w is_name named_of b sn) (λ name c sn.
          alike_then s w _ _ (takes_local s w is_assign c sn) (λ u l sn. alike_then s w _ _ (value_local l sn) (λ e m sn. pure_local s w _ m sn)))))

      body_items_local : (k : ℕ) → Local s w (body_items s turns i k) (body_items w turns j k)
      unfolding body_items
      body_items_local zero st seen = stop_local s w seen
      body_items_local (suc k) st seen = choose_local s w is_let _ _ _ _
          (λ st seen. alike_then s w _ _ (let_local st seen) (λ l a sn. alike_then s w _ _ (body_items_local k a sn) (λ more b sn. pure_local s w _ b sn)))
          (choose_local s w begins_part _ _ _ _
          (λ st seen. alike_then s w _ _ (disj_local _ _ full_part_local st seen) (λ d a sn. alike_then s w _ _ (body_items_local k a sn) (λ more b sn. pure_local s w _ b sn)))
          (λ st seen. pure_local s w _ st seen)) st seen

      body_end_local : (n : ℕ) (contained : BodyItems) → Local s w (body_end s turns i n contained) (body_end w turns j n contained)
      unfolding body_end
      body_end_local n contained st seen = alike_then s w _ _ (takes_local s w is_rbrace st seen) (λ u a sn. pure_local s w _ a sn)

      body_local : Local s w (body_of s turns i) (body_of w turns j)
      unfolding body_of
      body_local st seen = alike_then s w _ _ (opens_local s w i.number j.number all.number st seen) (λ n a sn. alike_then s w _ _ (takes_local s w is_lbrace a sn) (λ u b sn. alike_then s w _ _ (body_items_local turns b sn) (λ contained c sn.
          alike_if s w (is_filled contained.1) _ _ _ _ c sn (body_end_local n contained c sn) (stop_local s w sn))))

      -- ---- rules and the file

      head_local : Local s w (head s turns i) (head w turns j)
      unfolding head
      head_local = choose_local s w is_lparen _ _ _ _ (λ st seen. alike_then s w _ _ (params_local st seen) (λ ps a sn. pure_local s w _ a sn)) (λ st seen. alike_then s w _ _ (opt_conds_local st seen) (λ x a sn. pure_local s w _ a sn))

      rule_local : Local s w (rule_of s turns i) (rule_of w turns j)
      unfolding rule_of
      rule_local st seen = alike_then s w _ _ (opens_local s w i.number j.number all.number st seen) (λ n a sn. alike_then s w _ _ (takes_local s w is_rule a sn) (λ u b sn. alike_then s w _ _ (has_local s w is_rule_name named_of b sn) (λ name c sn.
          alike_then s w _ _ (head_local c sn) (λ h l sn. alike_then s w _ _ (all.body l sn) (λ x m sn. pure_local s w _ m sn)))))

      file_items_local : (k : ℕ) → Local s w (file_items s turns i k) (file_items w turns j k)
      unfolding file_items
      file_items_local zero st seen = stop_local s w seen
      file_items_local (suc k) st seen = choose_local s w is_let _ _ _ _
          (λ st seen. alike_then s w _ _ (let_local st seen) (λ l a sn. alike_then s w _ _ (file_items_local k a sn) (λ more b sn. pure_local s w _ b sn)))
          (choose_local s w is_rule _ _ _ _
          (λ st seen. alike_then s w _ _ (rule_local st seen) (λ r a sn. alike_then s w _ _ (file_items_local k a sn) (λ more b sn. pure_local s w _ b sn)))
          (choose_local s w begins_part _ _ _ _
          (λ st seen. alike_then s w _ _ (disj_local _ _ full_part_local st seen) (λ d a sn. alike_then s w _ _ (file_items_local k a sn) (λ more b sn. pure_local s w _ b sn)))
          (λ st seen. pure_local s w _ st seen))) st seen

      pub contents_local : Local s w (contents s turns i) (contents w turns j)
      unfolding contents
      contents_local st seen = alike_then s w _ _ (opens_local s w i.number j.number all.number st seen) (λ n a sn. file_items_local turns a sn)

    -- given the same of literals
    module _ (trees : (depth : ℕ) → Local s w (inners s turns depth).tree (inners w turns depth).tree) where
      pub inners_local : (depth : ℕ) → AllLocal (inners s turns depth) (inners w turns depth)
      inners_local zero = record { number = refl; roomy = refl; tree = trees zero; body = λ st seen. stop_local s w seen; conds = λ st seen. stop_local s w seen; expr = λ st seen. stop_local s w seen; exprs = λ st seen. stop_local s w seen }
      inners_local (suc depth) = let all = inners_local depth in record {
        number = refl;
        roomy = refl;
        tree = trees (suc depth);
        body = body_local _ _ all;
        conds = conds_local _ _ all;
        expr = expr_local _ _ all;
        exprs = exprs_local _ _ all;
      }
