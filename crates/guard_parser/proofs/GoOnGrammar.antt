-- What ends at the end of the lexemes can be gone on with: each rule of the grammar.
use Rattle.std.proofs.Common.{◌≡◌, ◌⊎◌, inl, inr, ℕ, zero, suc, ◌≤◌, ◌<◌, ◌+◌, max, Bool, true, false, cond, not, ◌&&◌, ◌||◌, refl, sym, ap, ◌∙◌, subst, arith, List, [], ◌∷◌, length, true≢false, nat_eq, Option, None}
use Rattle.std.specs.Prelude.{codes, ◌==◌}
use Rattle.std.proofs.lemmas.Bool.Decides.{nat_tests}
use Rattle.guard_lexer.specs.declared.token.Mark.TheVariants as m
use Rattle.guard_syntax.specs.Named.{Named}
use Rattle.guard_syntax.specs.declared.syntax.Op.{Op}
use Rattle.guard_syntax.specs.Syntax.{Part, Query, Expr, block, function, no_expr, with_expr}
use Rattle.literal_parser.specs.declared.keyword.Keyword.TheVariants as kw
use Rattle.literal_parser.specs.Lexemes.{Lexeme, Word, Name, Reserved, TypeName, Var, Note, Sign, End}
use Rattle.literal_parser.specs.Forms.{form, word_form, is_name, is_rule_name, is_any_name, is_type_name, is_var, is_index, is_note, is_lbrace, is_lparen, is_rparen, is_lbracket, is_rbracket, is_comma, is_bar, is_dot, is_star, is_assign, is_equality, is_sign, is_let, is_rule, is_when, is_some_word, is_or, is_neg, is_keys, is_this, is_in, is_operator_word, is_key, is_first_key, is_start, is_plain, is_constant, is_function_word, is_opening_end, begins_query, begins_step, begins_cond, begins_part, leads, opens_range, text_of, named_of, index_of, operator_of, sign_of, is_binary}
use Rattle.literal_parser.specs.States.{State, past, opened}
use Rattle.literal_parser.specs.code.Parser.{Outcome, Read, Fail, Parser, and_then, ◌>>=◌, ◌>>◌, pure, stop, opens, takes, has, choose, choose_pair, choose_next, choose_third}
use Rattle.part_parser.specs.code.Reading.{Inner, bodied, named_bar, capture, note, neg, worded, operator, keys_operator, dotted, keyed, filtered, bracketed, step, steps, start_step, query_of, tree_expr, applied, asked_expr, named_expr, expr_of, found_expr, value_of, more_exprs_of, exprs_of, right, tested, called, referred, ruled, judged, headed, led_by_name, cond_of, cond_part, ors, disj_of, disjs, conds_of, opt_conds, guarded_part, kinds_part, full_part, let_of, body_items}
use Rattle.guard_parser.specs.code.FileReading.{names, params, head, rule_of, file_items, contents}
use Rattle.part_parser.proofs.Rooms.{roomy_reads, full_stops}
use Rattle.literal_parser.proofs.Combine.{gives, gives_then}
use Rattle.literal_parser.proofs.Apart.{apart, implied, denied}
use Rattle.literal_parser.proofs.Steps.{gives_opens, gives_has, by_next, by_third}
use Rattle.literal_parser.proofs.Places.{no_bracket}
use Rattle.literal_parser.proofs.GoOn as go
use Rattle.literal_parser.specs.Brackets.{open_before}
use Rattle.literal_parser.proofs.Levels.{Sub, Disjoint, is_bracket, stays_level}
use Rattle.literal_parser.proofs.GoOn.{any, only, Side, clear, sub_any, sub_same}
use Rattle.literal_parser.proofs.GoOnSteps as single
use Rattle.literal_parser.proofs.GoOnSteps.{then, then_lives, takes_live, has_live, closes_live, up_lives, up_live, pure_live, opens_live, or_second, or_second_by, or_first, made}
use Rattle.literal_parser.proofs.GoOnSides as side
use Rattle.literal_parser.proofs.LiteralGoOn.{nought}

-- ---- lexemes to go on with

abbrev pub named : Word
named = Name (97 ∷ [])

abbrev pub not_word : Word
not_word = Reserved kw.Not (codes "not")

abbrev pub exists_word : Word
exists_word = Reserved kw.Exists (codes "exists")

abbrev pub in_word : Word
in_word = Reserved kw.In (codes "in")

abbrev pub keys_word : Word
keys_word = Reserved kw.Keys (codes "keys")

abbrev pub some_word : Word
some_word = Reserved kw.Some (codes "some")

abbrev pub when_word : Word
when_word = Reserved kw.When (codes "when")

abbrev pub or_word : Word
or_word = Reserved kw.Or (codes "or")

abbrev pub let_word : Word
let_word = Reserved kw.Let (codes "let")

abbrev pub rule_word : Word
rule_word = Reserved kw.Rule (codes "rule")

abbrev pub type_word : Word
type_word = TypeName (codes "A::B")

-- ---- what may stand behind a query, an expression, a note and a part

abbrev pub past_query : ℕ → Bool
past_query x = x == 0 || (x == 10 || (x == 11 || (x == 13 || (x == 15 || (x == 38 || x == 42)))))

abbrev pub past_expr : ℕ → Bool
past_expr x = x == 0 || (x == 10 || (x == 11 || (x == 13 || (x == 15 || x == 38))))

abbrev pub shut : ℕ → Bool
shut x = x == 0 || (x == 10 || (x == 11 || x == 15))

abbrev pub past_part : Bool → ℕ → Bool
past_part true x = x == 0 || x == 11
past_part false x = x == 0 || (x == 10 || x == 15)

-- what may stand behind a lexeme with which a part can begin
abbrev pub quiet : ℕ → Bool
quiet x = x == 0 || (x == 1 || (x == 10 || (x == 11 || x == 15)))

abbrev pub hanging : ℕ → Bool
hanging x = is_name x || is_neg x

-- before a query, a part, and the conditions of a filter; and behind a part
abbrev pub asking : Side
asking = record { near = begins_query; next = past_query; here = only named }

abbrev pub heading : Side
heading = record { near = hanging; next = quiet; here = only not_word }

abbrev pub filtering : Side
filtering = record { near = is_name; next = quiet; here = only not_word }

abbrev pub ending_part : (ℕ → Bool) → Side
ending_part f = record { near = is_neg; next = quiet; here = f }

part_shut : (full : Bool) → Sub (past_part full) shut
part_shut true = refl
part_shut false = refl

part_note : (full : Bool) → Disjoint (past_part full) is_note
part_note true = refl
part_note false = refl

part_lparen : (full : Bool) → Disjoint (past_part full) is_lparen
part_lparen true = refl
part_lparen false = refl

part_leads : (full : Bool) → Disjoint (past_part full) (leads full)
part_leads true = refl
part_leads false = refl

part_neg : (full : Bool) → Disjoint (past_part full) is_neg
part_neg true = refl
part_neg false = refl

part_or : (full : Bool) → Disjoint (past_part full) is_or
part_or true = refl
part_or false = refl

part_quiet : (full : Bool) → Sub (past_part full) quiet
part_quiet true = refl
part_quiet false = refl

end_leads : (full : Bool) → leads full 0 ≡ false
end_leads true = refl
end_leads false = refl

module _ (s : ℕ → Lexeme) (n : ℕ) (ends : form (s n) ≡ 0) where
  -- a side with nothing near
  pub calm : {A : Type 0} {o r floor : ℕ} {v : Bool} {from to : Side} {p : Parser A} {q : (ℕ → Lexeme) → Parser A} → go.Live s n o r floor v from to p q → go.Live s n o r floor v (clear from.here) to p q
  calm {from = from} {to = to} h = side.sided s n ends refl (sub_any from.next) (sub_same from.here) (sub_same to.near) (sub_same to.next) (sub_same to.here) h

  loose : {A : Type 0} {o r floor : ℕ} {v : Bool} {h : ℕ → Bool} {to : Side} {p : Parser A} {q : (ℕ → Lexeme) → Parser A} → go.Live s n o r floor v (clear h) (clear to.here) p q → go.Live s n o r floor v (clear h) to p q
  loose {h = h} {to = to} x = side.sided s n ends refl refl (sub_same h) refl (sub_any to.next) (sub_same to.here) x

  -- ---- what does not nest

  note_live : {o floor : ℕ} {to : Side} → Disjoint to.here is_note → Disjoint to.near is_note → go.Live s n o o floor false to to (note s) note
  unfolding note
  note_live {to = to} clears far = side.or_near s n ends {h = only (Note [])} is_note refl clears far
      (loose (then s n ends (has_live s n ends is_note text_of (Note []) any refl refl refl) (λ t. pure_live s n ends _) (sub_any to.here))) (pure_live s n ends _)

  neg_live : {o floor : ℕ} (word : Word) → Disjoint (only word) is_neg → go.Live s n o o floor false (clear (only word)) (clear (only word)) (neg s) neg
  unfolding neg
  neg_live word clears = or_second s n ends is_neg refl clears (then s n ends (takes_live s n ends is_neg not_word any refl refl refl) (λ u. pure_live s n ends _) (sub_any (only word))) (pure_live s n ends _)

  worded_live : {o floor : ℕ} (f : ℕ → Bool) (word : Word) → f 0 ≡ false → f (word_form word) ≡ true → Disjoint (only word) is_neg → Disjoint f is_bracket → go.Live s n o o floor true (clear (only word)) (clear any) (worded s f) (λ w. worded w f)
  unfolding worded
  worded_live f word never is clears flat = then s n ends (neg_live word clears) (λ negated. then s n ends (has_live s n ends f operator_of word any never is flat) (λ op. pure_live s n ends _) refl) (sub_same (only word))

  operator_live : {o floor : ℕ} → go.Live s n o o floor true (clear (only exists_word)) (clear any) (operator s) operator
  unfolding operator
  operator_live = or_second s n ends is_sign refl refl (has_live s n ends is_sign sign_of (Sign m.Less) any refl refl refl) (worded_live is_operator_word exists_word refl refl refl refl)

  keys_operator_live : {o floor : ℕ} → go.Live s n o o floor true (clear (only in_word)) (clear any) (keys_operator s) keys_operator
  unfolding keys_operator
  keys_operator_live = or_second s n ends is_equality refl refl (has_live s n ends is_equality sign_of (Sign m.Same) any refl refl refl) (worded_live is_in in_word refl refl refl refl)

  -- a name at the end is no capture yet
  capture_named : {o : ℕ} (st : State) (seen : ℕ) → st.at < n → is_name (form (s st.at)) ≡ true → go.Tight s n (λ x. false) st seen
      → go.LivesAt s n o o false (clear any) filtering (choose_next s is_bar (named_bar s) (pure None) st seen) (λ w. choose_next w is_bar (named_bar w) (pure None)) st
  unfolding named_bar choose_next
  capture_named {o} st seen less is tight = helper (nat_eq (suc st.at) n) refl where
    bar_live : {floor : ℕ} → go.Live s n o o floor true (clear (only named)) filtering (named_bar s) named_bar
    bar_live = loose (then s n ends (has_live s n ends is_name named_of named any refl refl refl) (λ name. then s n ends (takes_live s n ends is_bar (Sign m.Bar) any refl refl refl) (λ u. pure_live s n ends _) refl) refl)

    ended : (v : Bool) → v ≡ false → suc st.at ≡ n
        → go.LivesAt s n o o false (clear any) filtering ((cond v (named_bar s) (pure None)) st (max seen (suc st.at))) (λ w. choose_next w is_bar (named_bar w) (pure None)) st
    ended true e last = absurd (true≢false e)
    ended false e last = record {
      lives = record {
        within = omega arith;
        grows = omega arith;
        tight = λ far. inr (last, is);
        level = λ e. e;
        stays = λ w agree fits. (
          (λ e. absurd (omega arith), λ h. refl),
          λ k. by_next w is_bar false (named_bar w) (pure None) st k (ap (λ i. is_bar (form (w i))) last ∙ apart quiet is_bar (w n) refl (fits.1 (last, is))) gives,
        );
      };
    }

    helper : (v : Bool) → nat_eq (suc st.at) n ≡ v
        → go.LivesAt s n o o false (clear any) filtering (choose_next s is_bar (named_bar s) (pure None) st seen) (λ w. choose_next w is_bar (named_bar w) (pure None)) st
    helper true e = let last : suc st.at ≡ n = grind (arith, nat_tests) in
        ended (is_bar (form (s (suc st.at)))) (single.at_end s n ends is_bar (suc st.at) last refl) last
    helper false e = let before : suc st.at < n = grind (arith, nat_tests) in
        let near = go.tight_next s n st seen before (λ x. false) tight in
        single.next_at s n ends {v = true} {u = false} {from = clear any} {to = filtering} is_bar _ _ _ _ st seen before
        (λ v. side.inside_from s n ends any less ((bar_live {floor = 0}).lives st _ (omega arith) (omega arith) near))
        (λ v. side.inside_from s n ends any less (single.pure_at s n ends filtering _ st _ (omega arith) (λ far. absurd (side.far_not s n ends st _ less near far))))

  capture_live : {o floor : ℕ} → go.Live s n o o floor false (clear (only not_word)) filtering (capture s) capture
  unfolding capture
  capture_live = side.or_known s n ends {h = any} {near = λ x. false} is_name refl refl refl (λ st seen above less is tight. capture_named st seen less is tight)
      (record {
        lives = λ st seen above inside tight. side.sided_at s n ends refl refl refl refl refl refl (single.pure_at s n ends (clear (only not_word)) _ st seen inside tight);
        starts = single.pure_starts s n ends _ (only not_word);
      })

  module _ (turns : ℕ) (room : n < turns) where
    names_live : {o : ℕ} (k floor : ℕ) → n < k + floor → 0 < k → go.Live s n o o floor false (clear (only (Sign m.RParen))) (clear (only (Sign m.RParen))) (names s turns k) (λ w. names w turns k)
    unfolding names
    names_live zero floor left some = absurd (omega arith)
    names_live (suc k) floor left some = side.or_end s n ends is_comma k floor left refl refl refl
        (λ i left some. then s n ends (takes_live s n ends is_comma (Sign m.Comma) any refl refl refl) (λ u. then s n ends (has_live s n ends is_name named_of named any refl refl refl) (λ name. then s n ends (names_live k _ (omega arith) some) (λ more. pure_live s n ends _) refl) refl) refl)
        (pure_live s n ends _)

    params_live : {o floor : ℕ} → o < 128 → go.Live s n o o floor true (clear (only (Sign m.LParen))) (clear any) (params s turns) (λ w. params w turns)
    unfolding params
    params_live place = then s n ends (up_live s n ends is_lparen (Sign m.LParen) any refl refl refl place) (λ u. then s n ends (has_live s n ends is_name named_of named any refl refl refl) (λ name.
        then s n ends (names_live turns _ (omega arith) (omega arith)) (λ more. then s n ends (closes_live s n ends is_rparen (Sign m.RParen) any refl refl refl) (λ u. pure_live s n ends _) refl) refl) refl) refl

    -- the readers of what stands in brackets, over the lexemes and over those that go on
    pub record AllLive (l : ℕ) (i : Inner) (j : (ℕ → Lexeme) → Inner) : Type 0 where
      pub exact : (k : ℕ) → i.number k ≡ k
      pub alike : (w : ℕ → Lexeme) (k : ℕ) → (j w).number k ≡ k
      pub roomy : (w : ℕ → Lexeme) → (j w).roomy ≡ true
      pub place : i.roomy ≡ true → l < 128
      pub tree : (floor : ℕ) → go.Live s n l l floor true (clear (only nought)) (clear any) i.tree (λ w. (j w).tree)
      pub constant : (floor : ℕ) → go.Live s n l l floor true (record { near = is_constant; next = past_expr; here = only nought }) (clear past_expr) i.tree (λ w. (j w).tree)
      pub shut : i.roomy ≡ false → (st : State) (seen : ℕ) → i.body st seen ≡ Fail seen
      pub body : i.roomy ≡ true → (floor : ℕ) → go.Live s n l l floor true (clear (only (Sign m.LBrace))) (clear any) i.body (λ w. (j w).body)
      pub conds : (floor : ℕ) → go.Live s n (suc l) (suc l) floor true filtering (clear (past_part false)) i.conds (λ w. (j w).conds)
      pub expr : (floor : ℕ) → go.Live s n (suc l) (suc l) floor true (clear (only nought)) (clear past_expr) i.expr (λ w. (j w).expr)
      pub exprs : (floor : ℕ) → go.Live s n (suc l) (suc l) floor true (clear (only nought)) (clear (only (Sign m.RParen))) i.exprs (λ w. (j w).exprs)

    module _ (l : ℕ) (i : Inner) (j : (ℕ → Lexeme) → Inner) (all : AllLive l i j) where
      -- where no bracket may open in the lexemes, nothing is read; in those that go on one more may
      bodied_lives : {A : Type 0} {floor : ℕ} {h : ℕ → Bool} {to : Side} {p : Parser A} {q : (ℕ → Lexeme) → Parser A} → (i.roomy ≡ true → go.Live s n l l floor true (clear h) to p q)
          → go.Lives s n l l floor true (clear h) to (bodied s turns i p) (λ w. bodied w turns (j w) (q w))
      bodied_lives {A} {floor} {h} {to} {p} {q} x = by i.roomy refl where
        same : (w : ℕ → Lexeme) (st : State) (seen : ℕ) → bodied w turns (j w) (q w) st seen ≡ q w st seen
        same w st seen = roomy_reads w turns (j w) (q w) st seen (all.roomy w)

        by : (v : Bool) → i.roomy ≡ v → go.Lives s n l l floor true (clear h) to (bodied s turns i p) (λ w. bodied w turns (j w) (q w))
        by true e = (side.same_live s n ends (λ st seen. roomy_reads s turns i p st seen e) same (x e)).lives
        by false e = λ st seen above inside tight. subst (λ (o : Outcome A). go.LivesAt s n l l true (clear h) to o (λ w. bodied w turns (j w) (q w)) st) (sym (full_stops s turns i p st seen e))
            (single.stop_at s n ends true (clear h) to _ st seen tight)

      -- ---- queries

      dotted_live : {floor : ℕ} (k : ℕ) → go.Live s n l l floor true (clear (only (Sign m.Dot))) (clear any) (dotted s turns i k) (λ w. dotted w turns (j w) k)
      unfolding dotted
      dotted_live k = then s n ends (takes_live s n ends is_dot (Sign m.Dot) any refl refl refl) (λ u. or_second s n ends is_star refl refl
          (then s n ends (takes_live s n ends is_star (Sign m.Star) any refl refl refl) (λ u. pure_live s n ends _) refl)
          (or_second s n ends is_index refl refl (then s n ends (has_live s n ends is_index index_of nought any refl refl refl) (λ v. pure_live s n ends _) refl)
          (or_second s n ends is_var refl refl (then s n ends (has_live s n ends is_var named_of (Var []) any refl refl refl) (λ name. pure_live s n ends _) refl)
          (then s n ends (has_live s n ends is_key text_of named any refl refl refl) (λ name. pure_live s n ends _) refl)))) refl

      keyed_live : {floor : ℕ} (k : ℕ) (name : Option Named) → go.Live s n (suc l) l floor true (clear (only keys_word)) (clear any) (keyed s turns i k name) (λ w. keyed w turns (j w) k name)
      unfolding keyed
      keyed_live k name = then s n ends (takes_live s n ends is_keys keys_word any refl refl refl) (λ u. then s n ends keys_operator_live (λ t. then s n ends (all.expr _) (λ e.
          then s n ends (closes_live s n ends is_rbracket (Sign m.RBracket) any refl refl refl) (λ u. pure_live s n ends _) refl) refl) refl) refl

      filtered_live : {floor : ℕ} (k : ℕ) (name : Option Named) → go.Live s n (suc l) l floor true filtering (clear any) (filtered s turns i k name) (λ w. filtered w turns (j w) k name)
      unfolding filtered
      filtered_live k name = then s n ends (all.conds _) (λ c. then s n ends (closes_live s n ends is_rbracket (Sign m.RBracket) any refl refl refl) (λ u. pure_live s n ends _) refl) refl

      bracketed_lives : {floor : ℕ} (k : ℕ) → go.Lives s n l l floor true (clear any) (clear any) (bracketed s turns i k) (λ w. bracketed w turns (j w) k)
      unfolding bracketed
      bracketed_lives k = then_lives s n ends (up_lives s n ends is_lbracket any refl refl) (λ u. or_second s n ends is_star refl refl
          (then s n ends (takes_live s n ends is_star (Sign m.Star) any refl refl refl) (λ u. then s n ends (closes_live s n ends is_rbracket (Sign m.RBracket) any refl refl refl) (λ u. pure_live s n ends _) refl) refl)
          (or_second s n ends is_index refl refl (then s n ends (has_live s n ends is_index index_of nought any refl refl refl) (λ v. then s n ends (closes_live s n ends is_rbracket (Sign m.RBracket) any refl refl refl) (λ u. pure_live s n ends _) refl) refl)
          (then s n ends capture_live (λ name. side.or_near s n ends is_keys refl refl refl (keyed_live k name) (filtered_live k name)) refl))) refl

      step_live : {floor : ℕ} → go.Live s n l l floor true (clear (only (Sign m.Dot))) (clear any) (step s turns i) (λ w. step w turns (j w))
      unfolding step
      step_live {floor} = then s n ends (opens_live s n ends i.number (λ w. (j w).number) all.exact all.alike) (λ k. or_first s n ends any is_dot refl refl (dotted_live k) (λ st seen above within tight. bracketed_lives {floor = floor} k st seen above within tight)) refl

      steps_live : (k floor : ℕ) → n < k + floor → 0 < k → go.Live s n l l floor false (clear past_query) (clear past_query) (steps s turns i k) (λ w. steps w turns (j w) k)
      unfolding steps
      steps_live zero floor left some = absurd (omega arith)
      steps_live (suc k) floor left some = side.or_end s n ends begins_step k floor left refl refl refl
          (λ i left some. then s n ends step_live (λ p. then s n ends (steps_live k _ (omega arith) some) (λ ps. pure_live s n ends _) refl) refl) (pure_live s n ends _)

      start_live : {floor : ℕ} → go.Live s n l l floor true asking (clear past_query) (start_step s turns i) (λ w. start_step w turns (j w))
      unfolding start_step
      start_live = then s n ends (opens_live s n ends i.number (λ w. (j w).number) all.exact all.alike) (λ k. side.or_known s n ends {h = any} {near = λ x. is_first_key x || is_var x} is_this refl refl refl
          (λ st seen above less is tight. go.lives_then s n _ (single.took_at s n ends is_this _ (clear past_query) st seen (omega arith) refl is
          (single.past_tight s n ends begins_query (λ x. false) st seen less tight) refl (stays_level is_this l refl))
          (λ u b sn late grows near. single.pure_at s n ends (clear past_query) _ b sn late near) (λ u b late. single.pure_starts s n ends _ past_query b late))
          (side.or_known s n ends {h = any} {near = is_first_key} is_var refl refl refl
          (λ st seen above less is tight. go.lives_then s n _ (single.had_at s n ends is_var text_of _ (clear past_query) st seen (omega arith) refl is
          (single.past_tight s n ends (λ x. is_first_key x || is_var x) (λ x. false) st seen less tight) refl (stays_level is_var l refl))
          (λ u b sn late grows near. single.pure_at s n ends (clear past_query) _ b sn late near) (λ u b late. single.pure_starts s n ends _ past_query b late))
          (then s n ends (side.has_near s n ends is_first_key text_of named past_query refl refl refl refl refl) (λ name. pure_live s n ends _) refl))) refl

      query_live : {floor : ℕ} → go.Live s n l l floor true asking (clear past_query) (query_of s turns i) (λ w. query_of w turns (j w))
      unfolding query_of
      query_live = then s n ends (opens_live s n ends i.number (λ w. (j w).number) all.exact all.alike) (λ k. then s n ends start_live (λ p. then s n ends (steps_live turns _ (omega arith) (omega arith)) (λ ps. pure_live s n ends _) refl) refl) refl

      -- ---- expressions

      pub tree_expr_live : {floor : ℕ} → go.Live s n l l floor true (clear (only nought)) (clear past_expr) (tree_expr s turns i) (λ w. tree_expr w turns (j w))
      unfolding tree_expr
      tree_expr_live = then s n ends (opens_live s n ends i.number (λ w. (j w).number) all.exact all.alike) (λ k. then s n ends (all.tree _) (λ t. pure_live s n ends _) refl) refl

      constant_live : {floor : ℕ} → go.Live s n l l floor true (record { near = is_constant; next = past_expr; here = only nought }) (clear past_expr) (tree_expr s turns i) (λ w. tree_expr w turns (j w))
      unfolding tree_expr
      constant_live = then s n ends (opens_live s n ends i.number (λ w. (j w).number) all.exact all.alike) (λ k. then s n ends (all.constant _) (λ t. pure_live s n ends _) refl) refl

      -- behind the name of a function
      arguments_of : (ℕ → Lexeme) → Inner → ℕ → List ℕ → Parser Expr
      arguments_of w inner k name = do
        takes w is_lparen
        es ← inner.exprs
        takes w is_rparen
        pure (function k name es)

      arguments_lives : {floor : ℕ} (k : ℕ) (name : List ℕ) → go.Lives s n l l floor true (clear any) (clear past_expr) (arguments_of s i k name) (λ w. arguments_of w (j w) k name)
      unfolding arguments_of
      arguments_lives k name = then_lives s n ends (up_lives s n ends is_lparen any refl refl) (λ u. then s n ends (all.exprs _) (λ es. then s n ends (closes_live s n ends is_rparen (Sign m.RParen) any refl refl refl) (λ u. pure_live s n ends _) refl) refl) refl

      arguments_live : {floor : ℕ} → l < 128 → (k : ℕ) (name : List ℕ) → go.Live s n l l floor true (clear (only (Sign m.LParen))) (clear past_expr) (arguments_of s i k name) (λ w. arguments_of w (j w) k name)
      unfolding arguments_of
      arguments_live place k name = then s n ends (up_live s n ends is_lparen (Sign m.LParen) any refl refl refl place) (λ u. then s n ends (all.exprs _) (λ es. then s n ends (closes_live s n ends is_rparen (Sign m.RParen) any refl refl refl) (λ u. pure_live s n ends _) refl) refl) refl

      applied_live : {floor : ℕ} → l < 128 → go.Live s n l l floor true (clear (only named)) (clear past_expr) (applied s turns i) (λ w. applied w turns (j w))
      unfolding applied arguments_of
      applied_live place = then s n ends (opens_live s n ends i.number (λ w. (j w).number) all.exact all.alike) (λ k. then s n ends (has_live s n ends is_any_name text_of named any refl refl refl) (λ name. arguments_live place k name) refl) refl

      behind_site : (ℕ → Lexeme) → Inner → ℕ → Parser Expr
      behind_site w inner k = do
        name ← has w is_any_name text_of
        arguments_of w inner k name

      -- where a lexeme stands behind the name
      applied_at : (st : State) (seen : ℕ) → suc st.at < n → is_any_name (form (s st.at)) ≡ true → go.Tight s n (λ x. false) st seen
          → go.LivesAt s n l l true (clear any) (clear past_expr) (applied s turns i st seen) (λ w. applied w turns (j w)) st
      unfolding applied arguments_of behind_site opens
      applied_at st seen less is tight =
          let a = opened (s st.at).from st in let sn = max seen st.at in
          let after = single.past_tight s n ends (λ x. false) (λ x. false) a sn (omega arith) (go.tight_at s n (λ x. false) st seen (omega arith) tight) in
          single.lives_through s n ends {side = clear any} (λ w. applied w turns (j w)) st (omega arith) (λ l. l) (λ e. e)
          (subst (λ (k : ℕ). go.LivesAt s n l l true (clear any) (clear past_expr) (behind_site s i k a sn) (λ w. behind_site w (j w) (length st.places)) a) (sym (all.exact (length st.places)))
          (side.has_inside s n ends {mid = clear any} is_any_name text_of (λ name. arguments_of s i (length st.places) name) (λ name w. arguments_of w (j w) (length st.places) name) a sn less is after refl (stays_level is_any_name l refl)
          (arguments_lives {floor = 0} (length st.places) (text_of (s st.at)) (past a) (max sn st.at) (omega arith) (omega arith) after)))
          (λ w agree fits. (fits, λ x c g k. gives_then (behind_site w (j w)) (gives_opens w (j w).number (all.alike w) (length st.places) st a k (refl, ap (λ (x : Lexeme). opened x.from st) (sym (agree st.at (omega arith))))) (λ sn. g sn)))

      asked_live : {floor : ℕ} → go.Live s n l l floor true asking (clear past_expr) (asked_expr s turns i) (λ w. asked_expr w turns (j w))
      unfolding asked_expr
      asked_live = then s n ends query_live (λ q. pure_live s n ends _) refl

      -- an expression that begins with a name or a keyword
      abbrev short_of : (ℕ → Lexeme) → Inner → Parser Expr
      short_of w inner = choose w is_constant (tree_expr w turns inner) (asked_expr w turns inner)

      abbrev named_of_expr : (ℕ → Lexeme) → Inner → Parser Expr
      named_of_expr w inner = choose_pair w opens_range (tree_expr w turns inner) (choose_next w is_lparen (applied w turns inner) (short_of w inner))

      abbrev last_name : Side
      last_name = record { near = any; next = past_query; here = any }

      short_at : (st : State) (seen : ℕ) → suc st.at ≡ n → (v : Bool) → is_constant (form (s st.at)) ≡ v → (u : Bool) → begins_query (form (s st.at)) ≡ u → (v || u) ≡ true
          → go.LivesAt s n l l true last_name (clear past_expr) (short_of s i st seen) (λ w. short_of w (j w)) st
      short_at st seen last v is u asks some = single.choose_strict_at s n ends {h = any} {g = any} is_constant _ _ _ _ st seen (omega arith) refl
          (λ yes less. single.lives_through s n ends _ st (omega arith) (λ l. l) (λ e. e) ((constant_live {floor = 0}).lives st _ (omega arith) (omega arith) (λ far. inr (last, yes)))
          (λ w agree fits. ((λ e. absurd (omega arith), λ h. implied past_expr past_query (w n) refl (fits.1 (last, yes))), λ a c g. g)))
          (λ miss. let asked = queried v is u asks some miss in
          single.lives_through s n ends _ st (omega arith) (λ l. l) (λ e. e) ((asked_live {floor = 0}).lives st _ (omega arith) (omega arith) (λ far. inr (last, asked)))
          (λ w agree fits. ((λ e. absurd (omega arith), λ h. fits.1 (last, asked)), λ a c g. g))) where
            queried : (v : Bool) → is_constant (form (s st.at)) ≡ v → (u : Bool) → begins_query (form (s st.at)) ≡ u → (v || u) ≡ true → is_constant (form (s st.at)) ≡ false → begins_query (form (s st.at)) ≡ true
            queried true is u asks some miss = absurd (true≢false (sym is ∙ miss))
            queried false is true asks some miss = asks
            queried false is false asks some miss = absurd (true≢false (sym some))

      named_at : (st : State) (seen : ℕ) → st.at < n → is_any_name (form (s st.at)) ≡ true → is_function_word (form (s st.at)) ≡ false → go.Tight s n (λ x. false) st seen
          → go.LivesAt s n l l true (clear any) (clear past_expr) (named_of_expr s i st seen) (λ w. named_of_expr w (j w)) st
      named_at st seen less word other tight = helper (nat_eq (suc st.at) n) refl where
        quiet_next : (w : ℕ → Lexeme) → suc st.at ≡ n → go.Fits s n last_name w st → past_query (form (w (suc st.at))) ≡ true
        quiet_next w last fits = ap (λ i. past_query (form (w i))) last ∙ fits.1 (last, refl)

        at_name : suc st.at ≡ n → (v : Bool) → is_constant (form (s st.at)) ≡ v → (u : Bool) → begins_query (form (s st.at)) ≡ u → (v || u) ≡ true
            → go.LivesAt s n l l true (clear any) (clear past_expr) (named_of_expr s i st seen) (λ w. named_of_expr w (j w)) st
        at_name last v is u asks some =
            side.pair_end s n ends {mid = last_name} {from = clear any} {to = clear past_expr} opens_range _ _ _ _ st seen
            (sym (no_bracket (s st.at) (s (suc st.at)) (single.at_end s n ends is_opening_end (suc st.at) last refl)))
            (side.next_end s n ends {mid = last_name} {from = last_name} {to = clear past_expr} is_lparen _ _ _ _ st _ (single.at_end s n ends is_lparen (suc st.at) last refl)
            (short_at st _ last v is u asks some)
            (λ w agree fits. (fits, apart past_query is_lparen (w (suc st.at)) refl (quiet_next w last fits))))
            (λ w agree fits. (
              (λ e. absurd (omega arith), λ h. refl),
              sym (no_bracket (w st.at) (w (suc st.at)) (apart past_query is_opening_end (w (suc st.at)) refl (quiet_next w last fits))),
            ))

        at_last : suc st.at ≡ n → (v : Bool) → is_constant (form (s st.at)) ≡ v → (u : Bool) → begins_query (form (s st.at)) ≡ u
            → go.LivesAt s n l l true (clear any) (clear past_expr) (named_of_expr s i st seen) (λ w. named_of_expr w (j w)) st
        at_last last true is u asks = at_name last true is u asks refl
        at_last last false is true asks = at_name last false is true asks refl
        at_last last false is false asks = absurd (true≢false (sym (implied (λ x. is_any_name x && not (is_function_word x)) (λ x. is_constant x || begins_query x) (s st.at) refl
            (ap (λ v. v && not (is_function_word (form (s st.at)))) word ∙ ap not other)) ∙ ap (λ v. v || begins_query (form (s st.at))) is ∙ asks))

        helper : (v : Bool) → nat_eq (suc st.at) n ≡ v → go.LivesAt s n l l true (clear any) (clear past_expr) (named_of_expr s i st seen) (λ w. named_of_expr w (j w)) st
        helper true e = at_last (let last : suc st.at ≡ n = grind (arith, nat_tests) in last) (is_constant (form (s st.at))) refl (begins_query (form (s st.at))) refl
        helper false e = let before : suc st.at < n = grind (arith, nat_tests) in
            let inside : st.at ≤ n = omega arith in
            let one = go.tight_next s n st seen before (λ x. false) tight in
            let two = go.tight_next s n st _ before (λ x. false) one in
            let three = go.tight_at s n (λ x. false) st _ inside two in
            single.pair_at s n ends {v = true} {u = true} {from = clear any} {to = clear past_expr} opens_range _ _ _ _ st seen before
            (λ v. side.inside_from s n ends any less ((tree_expr_live {floor = 0}).lives st _ (omega arith) inside one))
            (λ v. single.next_at s n ends {v = true} {u = true} {from = clear any} {to = clear past_expr} is_lparen _ _ _ _ st _ before
            (λ v. applied_at st _ before word two)
            (λ v. single.choose_strict_at s n ends {v = true} {h = any} {g = any} is_constant _ _ _ _ st _ inside refl
            (λ v less. side.inside_from s n ends any less ((tree_expr_live {floor = 0}).lives st _ (omega arith) inside three))
            (λ v. side.inside_from s n ends any less ((calm (asked_live {floor = 0})).lives st _ (omega arith) inside three))))

      plain_live : {floor : ℕ} → go.Live s n l l floor true (clear (only nought)) (clear past_expr) (choose s is_plain (tree_expr s turns i) (asked_expr s turns i)) (λ w. choose w is_plain (tree_expr w turns (j w)) (asked_expr w turns (j w)))
      plain_live {floor} = or_first s n ends (only named) is_plain refl refl tree_expr_live (calm (asked_live {floor = floor})).lives

      pub expr_live : {floor : ℕ} → go.Live s n l l floor true (clear (only nought)) (clear past_expr) (expr_of s turns i) (λ w. expr_of w turns (j w))
      unfolding expr_of named_expr
      expr_live = record {
        lives = λ st seen above within tight. let near = go.tight_at s n (λ x. false) st seen within tight in
            single.choose_at s n ends {v = true} {u = true} {from = clear (only nought)} {to = clear past_expr} {h = only named} is_function_word _ _ _ _ st seen within refl refl
            (λ is less. bodied_lives {floor = 0} (λ room. applied_live (all.place room)) st _ (omega arith) within near)
            (λ miss. single.choose_at s n ends {v = true} {u = true} {from = clear (only nought)} {to = clear past_expr} {h = any} is_any_name _ _ _ _ st _ within refl refl
            (λ is less. named_at st _ less is miss (go.tight_at s n (λ x. false) st _ within near))
            (λ other. (plain_live {floor = 0}).lives st _ (omega arith) within (go.tight_at s n (λ x. false) st _ within near)));
        starts = single.second_starts s n ends is_function_word _ _ refl (single.second_starts s n ends is_any_name _ _ refl (plain_live {floor = 0}).starts);
      }

      found_live : {floor : ℕ} → go.Live s n l l floor true (record { near = is_some_word; next = only named; here = only some_word }) (clear past_expr) (found_expr s turns i) (λ w. found_expr w turns (j w))
      unfolding found_expr
      found_live = then s n ends (opens_live s n ends i.number (λ w. (j w).number) all.exact all.alike) (λ k. then s n ends (side.takes_near s n ends is_some_word some_word (only named) refl refl refl refl refl) (λ u. then s n ends (calm query_live) (λ q. pure_live s n ends _) refl) refl) refl

      some_at : (st : State) (seen : ℕ) → st.at < n → is_some_word (form (s st.at)) ≡ true → go.Tight s n (λ x. false) st seen
          → go.LivesAt s n l l true (clear any) (clear past_expr) (choose_next s is_lparen (expr_of s turns i) (found_expr s turns i) st seen) (λ w. choose_next w is_lparen (expr_of w turns (j w)) (found_expr w turns (j w))) st
      some_at st seen less is tight = helper (nat_eq (suc st.at) n) refl where
        helper : (v : Bool) → nat_eq (suc st.at) n ≡ v
            → go.LivesAt s n l l true (clear any) (clear past_expr) (choose_next s is_lparen (expr_of s turns i) (found_expr s turns i) st seen) (λ w. choose_next w is_lparen (expr_of w turns (j w)) (found_expr w turns (j w))) st
        helper true e = let last : suc st.at ≡ n = grind (arith, nat_tests) in
            side.next_end s n ends {from = clear any} {to = clear past_expr} is_lparen _ _ _ _ st seen (single.at_end s n ends is_lparen (suc st.at) last refl)
            ((found_live {floor = 0}).lives st _ (omega arith) (omega arith) (λ far. inr (last, is)))
            (λ w agree fits. ((λ e. absurd (omega arith), λ h. refl), ap (λ i. is_lparen (form (w i))) last ∙ apart (only named) is_lparen (w n) refl (fits.1 (last, is))))
        helper false e = let before : suc st.at < n = grind (arith, nat_tests) in
            let one = go.tight_next s n st seen before (λ x. false) tight in
            single.next_at s n ends {v = true} {u = true} {from = clear any} {to = clear past_expr} is_lparen _ _ _ _ st seen before
            (λ v. side.inside_from s n ends any less ((expr_live {floor = 0}).lives st _ (omega arith) (omega arith) one))
            (λ v. side.inside_from s n ends any less ((calm (found_live {floor = 0})).lives st _ (omega arith) (omega arith) one))

      value_live : {floor : ℕ} → go.Live s n l l floor true (clear (only nought)) (clear past_expr) (value_of s turns i) (λ w. value_of w turns (j w))
      unfolding value_of
      value_live = side.or_known s n ends {h = any} {near = λ x. false} is_some_word refl refl refl (λ st seen above less is tight. some_at st seen less is tight) expr_live

      more_exprs_live : (k floor : ℕ) → n < k + floor → 0 < k → go.Live s n l l floor false (clear (only (Sign m.RParen))) (clear (only (Sign m.RParen))) (more_exprs_of s turns i k) (λ w. more_exprs_of w turns (j w) k)
      unfolding more_exprs_of
      more_exprs_live zero floor left some = absurd (omega arith)
      more_exprs_live (suc k) floor left some = side.or_end s n ends is_comma k floor left refl refl refl
          (λ i left some. then s n ends (takes_live s n ends is_comma (Sign m.Comma) any refl refl refl) (λ u. then s n ends expr_live (λ e. then s n ends (more_exprs_live k _ (omega arith) some) (λ es. pure_live s n ends _) refl) refl) refl) (pure_live s n ends _)

      pub exprs_live : {floor : ℕ} → go.Live s n l l floor true (clear (only nought)) (clear (only (Sign m.RParen))) (exprs_of s turns i) (λ w. exprs_of w turns (j w))
      unfolding exprs_of
      exprs_live = then s n ends expr_live (λ e. then s n ends (more_exprs_live turns _ (omega arith) (omega arith)) (λ es. pure_live s n ends _) refl) refl

      -- ---- conditions

      right_live : {floor : ℕ} (op : Op) → go.Live s n l l floor false (clear any) (clear shut) (right s turns i op) (λ w. right w turns (j w) op)
      unfolding right
      right_live {floor} op = helper (is_binary op) where
        helper : (v : Bool) → go.Live s n l l floor false (clear any) (clear shut) (cond v (expr_of s turns i >>= (λ e. pure (with_expr e))) (pure no_expr)) (λ w. cond v (expr_of w turns (j w) >>= (λ e. pure (with_expr e))) (pure no_expr))
        helper true = side.lax s n ends (side.sided s n ends refl refl refl refl refl refl (then s n ends {to = clear shut} expr_live (λ e. pure_live s n ends _) refl))
        helper false = side.sided s n ends {from = clear shut} {to = clear shut} refl refl refl refl refl refl (pure_live s n ends _)

      tested_live : {floor : ℕ} (k : ℕ) (each : Bool) (q : Query) → go.Live s n l l floor true (clear (only exists_word)) (clear shut) (tested s turns i k each q) (λ w. tested w turns (j w) k each q)
      unfolding tested
      tested_live k each q = then s n ends operator_live (λ t. then s n ends (right_live t.0) (λ e. then s n ends (note_live {to = clear shut} refl refl) (λ message. pure_live s n ends _) refl) refl) refl

      called_lives : {floor : ℕ} (k : ℕ) (negated : Bool) (name : List ℕ) → go.Lives s n l l floor true (clear any) (clear shut) (called s turns i k negated name) (λ w. called w turns (j w) k negated name)
      unfolding called
      called_lives k negated name = then_lives s n ends (up_lives s n ends is_lparen any refl refl) (λ u. then s n ends (all.exprs _) (λ es. then s n ends (closes_live s n ends is_rparen (Sign m.RParen) any refl refl refl) (λ u.
          then s n ends (note_live {to = clear shut} refl refl) (λ message. pure_live s n ends _) refl) refl) refl) refl

      referred_live : {floor : ℕ} (f : ℕ → Bool) (k : ℕ) (negated : Bool) (name : List ℕ) → Disjoint f is_note → go.Live s n l l floor false (ending_part f) (ending_part f) (referred s turns i k negated name) (λ w. referred w turns (j w) k negated name)
      unfolding referred
      referred_live f k negated name clears = then s n ends {h = f} (note_live {to = ending_part f} clears refl) (λ message. pure_live s n ends _) (sub_same f)

      -- behind the name of a rule
      behind_name : (ℕ → Lexeme) → Inner → ℕ → Bool → List ℕ → Parser Part
      behind_name w inner k negated name = choose w is_lparen (called w turns inner k negated name) (referred w turns inner k negated name)

      behind_name_live : {floor : ℕ} (full : Bool) (k : ℕ) (negated : Bool) (name : List ℕ)
          → go.Live s n l l floor false (ending_part (past_part full)) (ending_part (past_part full)) (behind_name s i k negated name) (λ w. behind_name w (j w) k negated name)
      unfolding behind_name
      behind_name_live {floor} full k negated name = side.or_near_by s n ends {floor = floor} {v = true} {h = any} is_lparen refl (part_lparen full) refl
          (λ st seen above within tight. side.sided_at s n ends {from = clear any} {to = clear shut} refl refl refl refl refl (part_shut full) (called_lives {floor = floor} k negated name st seen above within tight)) (referred_live (past_part full) k negated name (part_note full))

      ruled_live : {floor : ℕ} (full : Bool) (k : ℕ) (negated : Bool) → go.Live s n l l floor true (clear (only named)) (ending_part (past_part full)) (ruled s turns i k negated) (λ w. ruled w turns (j w) k negated)
      unfolding ruled behind_name
      ruled_live full k negated = then s n ends {h = past_part full} (has_live s n ends is_name text_of named any refl refl refl) (λ name. calm (behind_name_live full k negated name)) (sub_any (past_part full))

      -- the body of a block
      headed_body : {floor : ℕ} (k : ℕ) (each : Bool) (q : Query) → go.Lives s n l l floor true (clear (only (Sign m.LBrace))) (clear shut) (i.body >>= (λ b. pure (block k each q b))) (λ w. (j w).body >>= (λ b. pure (block k each q b)))
      headed_body {floor} k each q = by i.roomy refl where
        by : (v : Bool) → i.roomy ≡ v → go.Lives s n l l floor true (clear (only (Sign m.LBrace))) (clear shut) (i.body >>= (λ b. pure (block k each q b))) (λ w. (j w).body >>= (λ b. pure (block k each q b)))
        by true e = then_lives s n ends (all.body e floor).lives (λ b. pure_live s n ends _) refl
        by false e = λ st seen above within tight. subst (λ o. go.LivesAt s n l l true (clear (only (Sign m.LBrace))) (clear shut) (and_then o (λ b. pure (block k each q b))) (λ w. (j w).body >>= (λ b. pure (block k each q b))) st)
            (sym (all.shut e st seen)) (single.stop_at s n ends true (clear (only (Sign m.LBrace))) (clear shut) _ st seen tight)

      judged_live : {floor : ℕ} (full : Bool) (k : ℕ) (each : Bool) (q : Query) → go.Live s n l l floor true (clear (only exists_word)) (clear shut) (judged s turns i full k each q) (λ w. judged w turns (j w) full k each q)
      unfolding judged
      judged_live {floor} true k each q = or_second_by s n ends {floor = floor} {v = true} {h = only (Sign m.LBrace)} is_lbrace refl refl (headed_body k each q) (tested_live k each q)
      judged_live false k each q = tested_live k each q

      headed_live : {floor : ℕ} (full : Bool) (k : ℕ) (each : Bool) → go.Live s n l l floor true asking (clear shut) (headed s turns i full k each) (λ w. headed w turns (j w) full k each)
      unfolding headed
      headed_live full k each = then s n ends query_live (λ q. judged_live full k each q) refl

      headed_part_live : {floor : ℕ} (full : Bool) (k : ℕ) (each : Bool) → go.Live s n l l floor true (clear (only named)) (ending_part (past_part full)) (headed s turns i full k each) (λ w. headed w turns (j w) full k each)
      headed_part_live full k each = side.sided s n ends {from = clear (only named)} {to = clear shut} refl refl refl refl refl (part_shut full) (calm (headed_live full k each))

      -- a part that begins with a name
      abbrev last_part : Bool → Side
      last_part full = record { near = is_name; next = past_part full; here = any }

      abbrev led : Side
      led = record { near = is_name; next = quiet; here = any }

      led_of : Bool → ℕ → (ℕ → Lexeme) → Inner → Parser Part
      led_of full k w inner = choose_next w (leads full) (headed w turns inner full k false)
          (choose_next w is_neg (choose_third w is_operator_word (headed w turns inner full k false) (ruled w turns inner k false)) (ruled w turns inner k false))

      ruled_last : (full : Bool) (k : ℕ) (st : State) (seen : ℕ) → suc st.at ≡ n → is_name (form (s st.at)) ≡ true
          → go.LivesAt s n l l true (last_part full) (ending_part (past_part full)) (ruled s turns i k false st seen) (λ w. ruled w turns (j w) k false) st
      unfolding ruled behind_name
      ruled_last full k st seen last is = go.lives_then s n _ (single.had_at s n ends is_name text_of (last_part full) (ending_part (past_part full)) st seen (omega arith) refl is (λ far. inl last) (sub_same (past_part full)) (stays_level is_name l refl))
          (λ name b sn late grows near. (behind_name_live {floor = 0} full k false name).lives b sn (omega arith) late near)
          (λ name b late. (behind_name_live {floor = 0} full k false name).starts b late)

      led_last : (full : Bool) (k : ℕ) (st : State) (seen : ℕ) → suc st.at ≡ n → is_name (form (s st.at)) ≡ true
          → go.LivesAt s n l l true led (ending_part (past_part full)) (led_of full k s i st seen) (λ w. led_of full k w (j w)) st
      unfolding led_of
      led_last full k st seen last is =
          side.next_end s n ends {mid = last_part full} {from = led} {to = ending_part (past_part full)} (leads full) _ _ _ _ st seen (single.at_end s n ends (leads full) (suc st.at) last (end_leads full))
          (side.next_end s n ends {mid = last_part full} {from = last_part full} {to = ending_part (past_part full)} is_neg _ _ _ _ st _ (single.at_end s n ends is_neg (suc st.at) last refl)
          (ruled_last full k st _ last is)
          (λ w agree fits. (fits, ap (λ i. is_neg (form (w i))) last ∙ apart (past_part full) is_neg (w n) (part_neg full) (fits.1 (last, is)))))
          (λ w agree fits. (
            (λ e. absurd (omega arith), λ h. implied (past_part full) quiet (w n) (part_quiet full) (fits.1 (last, is))),
            ap (λ i. leads full (form (w i))) last ∙ apart (past_part full) (leads full) (w n) (part_leads full) (fits.1 (last, is)),
          ))

      third_of : Bool → ℕ → (ℕ → Lexeme) → Inner → Parser Part
      third_of full k w inner = choose_third w is_operator_word (headed w turns inner full k false) (ruled w turns inner k false)

      -- a name and a `not` at the end: a rule's name, and the next part begins
      led_hung : (full : Bool) (k : ℕ) (st : State) (seen : ℕ) → suc (suc st.at) ≡ n → is_name (form (s st.at)) ≡ true → is_neg (form (s (suc st.at))) ≡ true
          → go.LivesAt s n l l true led (ending_part (past_part full)) (third_of full k s i st seen) (λ w. third_of full k w (j w)) st
      unfolding third_of ruled behind_name
      led_hung full k st seen last is neg =
          let sn = max (max seen (suc (suc st.at))) st.at in
          let name = text_of (s st.at) in
          let same : third_of full k s i st seen ≡ behind_name s i k false name (past st) sn =
          side.third_miss s n ends is_operator_word _ _ st seen (single.at_end s n ends is_operator_word (suc (suc st.at)) last refl)
          ∙ ap (λ o. and_then o (λ name. behind_name s i k false name)) (side.has_hit s n ends is_name text_of st (max seen (suc (suc st.at))) is) in
          subst (λ o. go.LivesAt s n l l true led (ending_part (past_part full)) o (λ w. third_of full k w (j w)) st) (sym same)
          (single.lives_past s n ends _ st (omega arith) (omega arith) (λ e. stays_level is_name l refl (s st.at) is (open_before s st.at) e) ((behind_name_live {floor = 0} full k false name).lives (past st) sn (omega arith) (omega arith) (λ far. inr (last, neg)))
          (λ w agree fits.
          let here : w st.at ≡ s st.at = agree st.at (omega arith) in (
            (λ e. absurd (omega arith), λ h. absurd (let l = h.0 in omega arith)),
            λ a c g k. by_third w is_operator_word false _ _ st k (ap (λ i. is_operator_word (form (w i))) last ∙ apart quiet is_operator_word (w n) refl (fits.1 (last, neg)))
                (gives_then _ (gives_has w is_name text_of name st (past st) _ (ap (λ x. is_name (form x)) here ∙ is, ap text_of (sym here), refl)) (λ sn. g sn)),
          )))

      led_at : (full : Bool) (k : ℕ) (st : State) (seen : ℕ) → st.at < n → is_name (form (s st.at)) ≡ true → go.Tight s n is_name st seen
          → go.LivesAt s n l l true led (ending_part (past_part full)) (led_of full k s i st seen) (λ w. led_of full k w (j w)) st
      unfolding led_of third_of
      led_at full k st seen less is tight = helper (nat_eq (suc st.at) n) refl where
        behind : suc st.at < n → is_neg (form (s (suc st.at))) ≡ true → (sn : ℕ) → go.Tight s n (λ x. false) st sn → (v : Bool) → nat_eq (suc (suc st.at)) n ≡ v
            → go.LivesAt s n l l true led (ending_part (past_part full)) (third_of full k s i st sn) (λ w. third_of full k w (j w)) st
        behind before neg sn one true e = led_hung full k st sn (let last : suc (suc st.at) ≡ n = grind (arith, nat_tests) in last) is neg
        behind before neg sn one false e = let further : suc (suc st.at) < n = grind (arith, nat_tests) in
            let two = go.tight_third s n st sn further (λ x. false) one in
            single.third_at s n ends {v = true} {u = true} {from = led} {to = ending_part (past_part full)} is_operator_word _ _ _ _ st sn further
            (λ v. side.from_far s n ends before ((headed_part_live {floor = 0} full k false).lives st _ (omega arith) (omega arith) two))
            (λ v. side.from_far s n ends before ((ruled_live {floor = 0} full k false).lives st _ (omega arith) (omega arith) two))

        helper : (v : Bool) → nat_eq (suc st.at) n ≡ v → go.LivesAt s n l l true led (ending_part (past_part full)) (led_of full k s i st seen) (λ w. led_of full k w (j w)) st
        helper true e = led_last full k st seen (let last : suc st.at ≡ n = grind (arith, nat_tests) in last) is
        helper false e = let before : suc st.at < n = grind (arith, nat_tests) in
            let one = go.tight_next s n st seen before is_name tight in
            let two = go.tight_next s n st _ before (λ x. false) one in
            single.next_at s n ends {v = true} {u = true} {from = led} {to = ending_part (past_part full)} (leads full) _ _ _ _ st seen before
            (λ v. side.from_far s n ends before ((headed_part_live {floor = 0} full k false).lives st _ (omega arith) (omega arith) one))
            (λ v. single.next_at s n ends {v = true} {u = true} {from = led} {to = ending_part (past_part full)} is_neg _ _ _ _ st _ before
            (λ neg. behind before neg _ two (nat_eq (suc (suc st.at)) n) refl)
            (λ v. side.from_far s n ends before ((ruled_live {floor = 0} full k false).lives st _ (omega arith) (omega arith) two)))

      -- a part that begins with `not`, or with its query or name
      plain_of : Bool → ℕ → (ℕ → Lexeme) → Inner → Parser Part
      plain_of full k w inner = choose w is_name (led_by_name w turns inner full k) (choose w is_start (headed w turns inner full k false) stop)

      denied_of : ℕ → (ℕ → Lexeme) → Inner → Parser Part
      denied_of k w inner = do
        takes w is_neg
        ruled w turns inner k true

      denied_live : {floor : ℕ} (full : Bool) (k : ℕ) → go.Live s n l l floor true (clear (only not_word)) (ending_part (past_part full)) (denied_of k s i) (λ w. denied_of k w (j w))
      unfolding denied_of
      denied_live full k = then s n ends (takes_live s n ends is_neg not_word any refl refl refl) (λ u. ruled_live full k true) refl

      denied_at : (full : Bool) (k : ℕ) (st : State) (seen : ℕ) → st.at < n → is_neg (form (s st.at)) ≡ true → go.Tight s n hanging st seen
          → go.LivesAt s n l l true heading (ending_part (past_part full)) (denied_of k s i st seen) (λ w. denied_of k w (j w)) st
      unfolding denied_of
      denied_at full k st seen less is tight = go.lives_then s n _ (single.took_at s n ends is_neg heading (clear (only named)) st seen (omega arith) refl is
          (single.past_tight s n ends hanging (λ x. false) st seen less tight) refl (stays_level is_neg l refl))
          (λ u b sn late grows near. (ruled_live {floor = 0} full k true).lives b sn (omega arith) late near)
          (λ u b late. (ruled_live {floor = 0} full k true).starts b late)

      named_tight : (st : State) (seen : ℕ) → is_name (form (s st.at)) ≡ true → go.Tight s n hanging st seen → go.Tight s n is_name st seen
      named_tight st seen is tight = λ far. helper (tight far) where
        helper : (st.at ≡ n) ⊎ go.Hangs s n hanging st → (st.at ≡ n) ⊎ go.Hangs s n is_name st
        helper (inl e) = inl e
        helper (inr h) = inr (h.0, is)

      neither_hangs : (a b : Bool) → a ≡ false → b ≡ false → (a || b) ≡ false
      neither_hangs a b e f = ap (λ v. v || b) e ∙ f

      plain_at : (full : Bool) (k : ℕ) (st : State) (seen : ℕ) → st.at ≤ n → is_neg (form (s st.at)) ≡ false → go.Tight s n hanging st seen
          → go.LivesAt s n l l true (record { near = hanging; next = quiet; here = any }) (ending_part (past_part full)) (plain_of full k s i st seen) (λ w. plain_of full k w (j w)) st
      unfolding plain_of led_by_name led_of
      plain_at full k st seen inside other tight = single.choose_strict_at s n ends {v = true} {h = any} {g = any} is_name _ _ _ _ st seen inside refl
          (λ is less. single.lives_through s n ends _ st (omega arith) (λ l. l) (λ e. e)
          (led_at full k st _ less is (go.tight_at s n is_name st seen inside (named_tight st seen is tight)))
          (λ w agree fits. ((fits.0, λ h. fits.1 (h.0, is)), λ a c g. g)))
          (λ miss. let alone = neither_hangs (is_name (form (s st.at))) (is_neg (form (s st.at))) miss other in
          let one = side.tight_none s n ends hanging st _ alone (go.tight_at s n hanging st seen inside tight) in
          let two = go.tight_at s n (λ x. false) st _ inside one in
          side.from_near s n ends alone (single.choose_strict_at s n ends {v = true} {h = only named} {g = any} is_start _ _ _ _ st _ inside refl
          (λ v less. (headed_part_live {floor = 0} full k false).lives st _ (omega arith) inside two)
          (λ v. single.stop_at s n ends true (clear any) (ending_part (past_part full)) _ st _ two)))

      negated_live : {floor : ℕ} (full : Bool) (k : ℕ) → go.Live s n l l floor true heading (ending_part (past_part full)) (choose s is_neg (denied_of k s i) (plain_of full k s i))
          (λ w. choose w is_neg (denied_of k w (j w)) (plain_of full k w (j w)))
      negated_live full k = record {
        lives = λ st seen above inside tight. single.choose_strict_at s n ends {v = true} {h = only not_word} {g = any} is_neg _ _ _ _ st seen inside refl
            (λ is less. denied_at full k st _ less is (go.tight_at s n hanging st seen inside tight))
            (λ miss. plain_at full k st _ inside miss (go.tight_at s n hanging st seen inside tight));
        starts = single.first_starts s n ends is_neg _ _ refl (denied_live {floor = 0} full k).starts;
      }

      cond_live : {floor : ℕ} (full : Bool) (k : ℕ) → go.Live s n l l floor true heading (ending_part (past_part full)) (cond_of s turns i full k) (λ w. cond_of w turns (j w) full k)
      unfolding cond_of denied_of plain_of
      cond_live full k = side.or_near s n ends {h = only some_word} is_some_word refl refl refl (then s n ends (takes_live s n ends is_some_word some_word any refl refl refl) (λ u. headed_part_live full k true) refl) (negated_live full k)

      cond_part_live : (floor : ℕ) → go.Live s n l l floor true heading (ending_part (past_part false)) (cond_part s turns i) (λ w. cond_part w turns (j w))
      unfolding cond_part
      cond_part_live floor = then s n ends (opens_live s n ends i.number (λ w. (j w).number) all.exact all.alike) (λ k. cond_live false k) refl

      -- ---- parts, conditions and bodies

      module _ (full : Bool) (part : Parser Part) (other : (ℕ → Lexeme) → Parser Part) (part_live : (floor : ℕ) → go.Live s n l l floor true heading (ending_part (past_part full)) part other) where
        ors_live : (k floor : ℕ) → n < k + floor → 0 < k → go.Live s n l l floor false (ending_part (past_part full)) (ending_part (past_part full)) (ors s turns i part k) (λ w. ors w turns (j w) (other w) k)
        unfolding ors
        ors_live zero floor left some = absurd (omega arith)
        ors_live (suc k) floor left some = side.or_end s n ends {h = only or_word} is_or k floor left refl (part_or full) refl
            (λ m left some. then s n ends (takes_live s n ends is_or or_word any refl refl refl) (λ u. then s n ends {h = past_part full} (calm (part_live _)) (λ p.
            then s n ends {h = past_part full} (ors_live k _ (omega arith) some) (λ ps. pure_live s n ends _) (sub_same (past_part full))) (sub_same (past_part full))) refl) (pure_live s n ends _)

        disj_live : {floor : ℕ} → go.Live s n l l floor true heading (ending_part (past_part full)) (disj_of s turns i part) (λ w. disj_of w turns (j w) (other w))
        unfolding disj_of
        disj_live = then s n ends (opens_live s n ends i.number (λ w. (j w).number) all.exact all.alike) (λ k. then s n ends {h = past_part full} (part_live _) (λ p.
            then s n ends {h = past_part full} (ors_live turns _ (omega arith) (omega arith)) (λ ps. pure_live s n ends _) (sub_same (past_part full))) (sub_same (past_part full))) refl

        -- where a `not` may be left
        pub item_live : {floor : ℕ} → go.Live s n l l floor true (ending_part (only not_word)) (ending_part (past_part full)) (disj_of s turns i part) (λ w. disj_of w turns (j w) (other w))
        item_live = side.sided s n ends {from = heading} {to = ending_part (past_part full)} refl refl refl (sub_same is_neg) (sub_same quiet) (sub_same (past_part full)) disj_live

      -- no part is left
      nothing_left : {A : Type 0} (f g : ℕ → Bool) (a : A) (st : State) (seen : ℕ) → st.at ≤ n → Sub is_neg f → f (form (s st.at)) ≡ false → go.Tight s n is_neg st seen
          → go.LivesAt s n l l false (ending_part g) (clear g) (Read a st seen) (λ w st seen. Read a st seen) st
      nothing_left f g a st seen inside sub miss tight = let alone = denied is_neg f (s st.at) sub miss in
          side.from_near s n ends alone (single.pure_at s n ends (clear g) a st seen inside (side.tight_none s n ends is_neg st seen alone tight))

      disjs_live : (k floor : ℕ) → n < k + floor → 0 < k → go.Live s n l l floor false (ending_part (past_part false)) (clear (past_part false)) (disjs s turns i k) (λ w. disjs w turns (j w) k)
      unfolding disjs
      disjs_live zero floor left some = absurd (omega arith)
      disjs_live (suc k) floor left some = side.or_item s n ends {h = only not_word} begins_cond k floor left refl refl
          (λ m left some. then s n ends (item_live false _ _ cond_part_live) (λ d. then s n ends (disjs_live k _ (omega arith) some) (λ ds. pure_live s n ends _) refl) refl)
          (λ st seen above inside miss tight. nothing_left begins_cond (past_part false) _ st seen inside refl miss tight)
          (single.pure_starts s n ends _ (past_part false))

      pub conds_live : {floor : ℕ} → go.Live s n l l floor true filtering (clear (past_part false)) (conds_of s turns i) (λ w. conds_of w turns (j w))
      unfolding conds_of
      conds_live = side.sided s n ends {from = heading} {to = clear (past_part false)} refl refl refl refl refl refl
          (then s n ends (opens_live s n ends i.number (λ w. (j w).number) all.exact all.alike) (λ k. then s n ends (disj_live false _ _ cond_part_live) (λ d. then s n ends (disjs_live turns _ (omega arith) (omega arith)) (λ ds. pure_live s n ends _) refl) refl) refl)

      opt_conds_live : {floor : ℕ} → go.Live s n l l floor false (clear (only (Sign m.LBrace))) (clear (only (Sign m.LBrace))) (opt_conds s turns i) (λ w. opt_conds w turns (j w))
      unfolding opt_conds
      opt_conds_live = or_second s n ends is_when refl refl (then s n ends (takes_live s n ends is_when when_word any refl refl refl) (λ u. then s n ends (calm conds_live) (λ c. pure_live s n ends _) refl) refl) (pure_live s n ends _)

      guarded_live : {floor : ℕ} → i.roomy ≡ true → (k : ℕ) → go.Live s n l l floor true (clear (only when_word)) (clear any) (guarded_part s turns i k) (λ w. guarded_part w turns (j w) k)
      unfolding guarded_part
      guarded_live room k = then s n ends (takes_live s n ends is_when when_word any refl refl refl) (λ u. then s n ends (calm conds_live) (λ c. then s n ends (all.body room _) (λ b. pure_live s n ends _) refl) refl) refl

      kinds_live : {floor : ℕ} → i.roomy ≡ true → (k : ℕ) → go.Live s n l l floor true (clear (only type_word)) (clear any) (kinds_part s turns i k) (λ w. kinds_part w turns (j w) k)
      unfolding kinds_part
      kinds_live room k = then s n ends (has_live s n ends is_type_name text_of type_word any refl refl refl) (λ name. then s n ends opt_conds_live (λ c. then s n ends (all.body room _) (λ b. pure_live s n ends _) refl) refl) refl

      block_lives : {A : Type 0} {floor : ℕ} {h : ℕ → Bool} {p : Parser A} {q : (ℕ → Lexeme) → Parser A} → go.Lives s n l l floor true (clear h) (clear any) p q → go.Lives s n l l floor true (clear h) (ending_part (past_part true)) p q
      block_lives {h = h} x st seen above within tight = side.sided_at s n ends {from = clear h} {to = clear any} refl refl (sub_same h) refl refl refl (x st seen above within tight)

      pub full_part_live : (floor : ℕ) → go.Live s n l l floor true heading (ending_part (past_part true)) (full_part s turns i) (λ w. full_part w turns (j w))
      unfolding full_part
      full_part_live floor = then s n ends (opens_live s n ends i.number (λ w. (j w).number) all.exact all.alike) (λ k.
          side.or_near_by s n ends {floor = floor} {v = true} {h = only when_word} is_when refl refl refl (block_lives {floor = floor} (bodied_lives {floor = floor} (λ room. guarded_live room k)))
          (side.or_near_by s n ends {floor = floor} {v = true} {h = only type_word} is_type_name refl refl refl (block_lives {floor = floor} (bodied_lives {floor = floor} (λ room. kinds_live room k))) (cond_live true k))) refl

      pub let_live : {floor : ℕ} → go.Live s n l l floor true (clear (only let_word)) (clear past_expr) (let_of s turns i) (λ w. let_of w turns (j w))
      unfolding let_of
      let_live = then s n ends (opens_live s n ends i.number (λ w. (j w).number) all.exact all.alike) (λ k. then s n ends (takes_live s n ends is_let let_word any refl refl refl) (λ u. then s n ends (has_live s n ends is_name named_of named any refl refl refl) (λ name.
          then s n ends (takes_live s n ends is_assign (Sign m.Equals) any refl refl refl) (λ u. then s n ends value_live (λ e. pure_live s n ends _) refl) refl) refl) refl) refl

      pub body_items_live : (k floor : ℕ) → n < k + floor → 0 < k → go.Live s n l l floor false (ending_part (only (Sign m.RBrace))) (clear (only (Sign m.RBrace))) (body_items s turns i k) (λ w. body_items w turns (j w) k)
      unfolding body_items
      body_items_live zero floor left some = absurd (omega arith)
      body_items_live (suc k) floor left some = side.or_end s n ends {h = only let_word} is_let k floor left refl refl refl
          (λ m left some. then s n ends let_live (λ l. then s n ends (calm (body_items_live k _ (omega arith) some)) (λ more. pure_live s n ends _) refl) refl)
          (side.or_item s n ends {h = only not_word} begins_part k floor left refl refl
          (λ m left some. then s n ends (item_live true _ _ full_part_live) (λ d. then s n ends (body_items_live k _ (omega arith) some) (λ more. pure_live s n ends _) refl) refl)
          (λ st seen above inside miss tight. nothing_left begins_part (only (Sign m.RBrace)) _ st seen inside refl miss tight)
          (single.pure_starts s n ends _ (only (Sign m.RBrace))))

      -- ---- rules and the file, where a bracket may open

      head_live : {floor : ℕ} → i.roomy ≡ true → go.Live s n l l floor false (clear (only (Sign m.LBrace))) (clear (only (Sign m.LBrace))) (head s turns i) (λ w. head w turns (j w))
      unfolding head
      head_live free = or_second s n ends is_lparen refl refl (then s n ends (params_live (all.place free)) (λ ps. pure_live s n ends _) refl) (then s n ends opt_conds_live (λ c. pure_live s n ends _) refl)

      rule_live : {floor : ℕ} → i.roomy ≡ true → go.Live s n l l floor true (clear (only rule_word)) (clear any) (rule_of s turns i) (λ w. rule_of w turns (j w))
      unfolding rule_of
      rule_live free = then s n ends (opens_live s n ends i.number (λ w. (j w).number) all.exact all.alike) (λ k. then s n ends (takes_live s n ends is_rule rule_word any refl refl refl) (λ u. then s n ends (has_live s n ends is_rule_name named_of named any refl refl refl) (λ name.
          then s n ends (head_live free) (λ h. then s n ends (all.body free _) (λ b. pure_live s n ends _) refl) refl) refl) refl) refl

      file_items_live : i.roomy ≡ true → (k floor : ℕ) → n < k + floor → 0 < k → go.Live s n l l floor false (ending_part (only End)) (clear (only End)) (file_items s turns i k) (λ w. file_items w turns (j w) k)
      unfolding file_items
      file_items_live free zero floor left some = absurd (omega arith)
      file_items_live free (suc k) floor left some = side.or_end s n ends {h = only let_word} is_let k floor left refl refl refl
          (λ m left some. then s n ends let_live (λ l. then s n ends (calm (file_items_live free k _ (omega arith) some)) (λ more. pure_live s n ends _) refl) refl)
          (side.or_end s n ends {h = only rule_word} is_rule k floor left refl refl refl
          (λ m left some. then s n ends (rule_live free) (λ r. then s n ends (calm (file_items_live free k _ (omega arith) some)) (λ more. pure_live s n ends _) refl) refl)
          (side.or_item s n ends {h = only not_word} begins_part k floor left refl refl
          (λ m left some. then s n ends (item_live true _ _ full_part_live) (λ d. then s n ends (file_items_live free k _ (omega arith) some) (λ more. pure_live s n ends _) refl) refl)
          (λ st seen above inside miss tight. nothing_left begins_part (only End) _ st seen inside refl miss tight)
          (single.pure_starts s n ends _ (only End))))

      pub contents_live : {floor : ℕ} → i.roomy ≡ true → go.Live s n l l floor false (clear (only End)) (clear (only End)) (contents s turns i) (λ w. contents w turns (j w))
      unfolding contents
      contents_live free = then s n ends (opens_live s n ends i.number (λ w. (j w).number) all.exact all.alike) (λ k. calm (file_items_live free turns _ (omega arith) (omega arith))) refl
