-- A file that ends at the end of the lexemes can be gone on with.
use Rattle.std.proofs.Common.{◌≡◌, ◌⊎◌, inl, inr, ℕ, zero, suc, ◌≤◌, ◌<◌, ◌+◌, max, Bool, true, false, cond, refl, sym, ap, ◌∙◌, subst, arith, List, [], length, true≢false, nat_eq, None}
use Rattle.std.proofs.lemmas.Bool.Decides.{nat_tests}
use Rattle.guard_lexer.specs.declared.token.Mark.TheVariants as m
use Rattle.guard_syntax.specs.Syntax.{Body, Part, no_lets, more_lets, no_disjs, more_disjs, conds, disj, more_parts, no_parts, refer}
use Rattle.literal_parser.specs.Lexemes.{Lexeme, Sign, End}
use Rattle.literal_parser.specs.Forms.{form, is_end, is_name, is_neg, is_note, is_or, is_lbrace, is_rbrace, is_lparen, is_comma, is_let, is_some_word, is_any_name, is_function_word, is_plain, begins_cond, begins_part, leads, text_of}
use Rattle.literal_parser.specs.States.{State, past, opened, start}
use Rattle.literal_parser.specs.code.Parser.{Outcome, Read, Fail, Parser, and_then, ◌>>=◌, ◌>>◌, pure, stop, opens, takes, choose}
use Rattle.part_parser.specs.code.Reading.{BodyItems, Inner, is_filled, note, ruled, referred, led_by_name, cond_of, cond_part, ors, disjs, conds_of, tree_expr, expr_of, more_exprs_of, exprs_of, let_of, full_part, disj_of, body_items, body_end, body_of, inners}
use Rattle.guard_parser.specs.code.FileReading.{FileItems, contents, whole_file}
use Rattle.literal_parser.proofs.Combine.{Gives, gives, gives_then, horizon}
use Rattle.literal_parser.proofs.Apart.{apart, implied}
use Rattle.literal_parser.proofs.Steps.{gives_opens, gives_has, by, by_next}
use Rattle.literal_parser.proofs.GoOn as go
use Rattle.literal_parser.specs.Brackets.{open_before, IsShallowTo}
use Rattle.literal_parser.proofs.Levels.{Disjoint, stays_level, stands_at, stands_agreed}
use Rattle.literal_parser.proofs.GoOn.{any, only, Side, clear, sub_any, sub_same}
use Rattle.literal_parser.proofs.GoOnSteps as single
use Rattle.literal_parser.proofs.GoOnSteps.{then, closes_live, up_live, pure_live, opens_live, first_starts}
use Rattle.literal_parser.proofs.GoOnSides as side
use Rattle.guard_parser.proofs.GoOnGrammar as grammar
use Rattle.guard_parser.proofs.GoOnGrammar.{named, not_word, let_word, quiet, past_expr, past_part, ending_part, filtering}
use Rattle.literal_parser.proofs.LiteralGoOn.{nought, literal_live, literal_near, literal_start}

-- parts of a body, and what follows them
abbrev parted : (ℕ → Lexeme) → ℕ → Inner → ℕ → Parser BodyItems
parted w turns inner k = do
  d ← disj_of w turns inner (full_part w turns inner)
  more ← body_items w turns inner k
  pure (more.0, more_disjs d more.1)

-- what stands in a body with a part at least
filled : (ℕ → Lexeme) → ℕ → Inner → ℕ → Parser BodyItems
filled w turns inner zero = stop
filled w turns inner (suc k) = choose w is_let (do l ← let_of w turns inner; more ← filled w turns inner k; pure (more_lets l more.0, more.1))
    (choose w begins_part (parted w turns inner k) stop)

abbrev checked : {A : Type 0} → (BodyItems → Parser A) → BodyItems → Parser A
checked g x = cond (is_filled x.1) (g x) stop

map_then : {A B C : Type 0} (o : Outcome A) (f : A → B) (h : B → Parser C) → and_then (and_then o (λ x. pure (f x))) h ≡ and_then o (λ x. h (f x))
map_then (Read a st seen) f h = refl
map_then (Fail k) f h = refl

then_then : {A B C : Type 0} (o : Outcome A) (f : A → Parser B) (h : B → Parser C) → and_then (and_then o f) h ≡ and_then o (λ a st seen. and_then (f a st seen) h)
then_then (Read a st seen) f h = refl
then_then (Fail k) f h = refl

then_same : {A B : Type 0} (o : Outcome A) (f g : A → Parser B) → ((a : A) (st : State) (seen : ℕ) → f a st seen ≡ g a st seen) → and_then o f ≡ and_then o g
then_same (Read a st seen) f g e = e a st seen
then_same (Fail k) f g e = refl

module _ (w : ℕ → Lexeme) (turns : ℕ) (inner : Inner) where
  filled_same : {A : Type 0} (k : ℕ) (st : State) (seen : ℕ) (g : BodyItems → Parser A) → and_then (body_items w turns inner k st seen) (checked g) ≡ and_then (filled w turns inner k st seen) g
  unfolding body_items filled choose
  filled_same zero st seen g = refl
  filled_same {A} (suc k) st seen g = by_let (λ b sn h. filled_same k b sn h) (is_let (form (w st.at))) where
    Again : Type 0
    Again = (b : State) (sn : ℕ) (h : BodyItems → Parser A) → and_then (body_items w turns inner k b sn) (checked h) ≡ and_then (filled w turns inner k b sn) h

    lets : Again → (sn : ℕ) → and_then (and_then (let_of w turns inner st sn) (λ l st seen. and_then (body_items w turns inner k st seen) (λ more. pure (more_lets l more.0, more.1)))) (checked g)
        ≡ and_then (and_then (let_of w turns inner st sn) (λ l st seen. and_then (filled w turns inner k st seen) (λ more. pure (more_lets l more.0, more.1)))) g
    lets again sn = then_then (let_of w turns inner st sn) _ (checked g)
        ∙ then_same (let_of w turns inner st sn) _ _ (λ l b sn. map_then (body_items w turns inner k b sn) (λ more. (more_lets l more.0, more.1)) (checked g)
        ∙ again b sn (λ more. g (more_lets l more.0, more.1)) ∙ sym (map_then (filled w turns inner k b sn) (λ more. (more_lets l more.0, more.1)) g))
        ∙ sym (then_then (let_of w turns inner st sn) _ g)

    parts : (sn : ℕ) → and_then (and_then (disj_of w turns inner (full_part w turns inner) st sn) (λ d st seen. and_then (body_items w turns inner k st seen) (λ more. pure (more.0, more_disjs d more.1)))) (checked g)
        ≡ and_then (and_then (disj_of w turns inner (full_part w turns inner) st sn) (λ d st seen. and_then (body_items w turns inner k st seen) (λ more. pure (more.0, more_disjs d more.1)))) g
    parts sn = then_then (disj_of w turns inner (full_part w turns inner) st sn) _ (checked g)
        ∙ then_same (disj_of w turns inner (full_part w turns inner) st sn) _ _ (λ d b sn. map_then (body_items w turns inner k b sn) (λ more. (more.0, more_disjs d more.1)) (checked g)
        ∙ sym (map_then (body_items w turns inner k b sn) (λ more. (more.0, more_disjs d more.1)) g))
        ∙ sym (then_then (disj_of w turns inner (full_part w turns inner) st sn) _ g)

    by_part : (u : Bool) (sn : ℕ) → and_then ((cond {A = Parser BodyItems} u (parted w turns inner k) (pure (no_lets, no_disjs))) st sn) (checked g)
        ≡ and_then ((cond {A = Parser BodyItems} u (parted w turns inner k) stop) st sn) g
    by_part true sn = parts sn
    by_part false sn = refl

    by_let : Again → (v : Bool) → and_then ((cond {A = Parser BodyItems} v (λ st seen. and_then (let_of w turns inner st seen) (λ l st seen. and_then (body_items w turns inner k st seen) (λ more. pure (more_lets l more.0, more.1))))
        (λ st seen. (cond {A = Parser BodyItems} (begins_part (form (w st.at))) (parted w turns inner k) (pure (no_lets, no_disjs))) st (max seen st.at))) st (max seen st.at)) (checked g)
        ≡ and_then ((cond {A = Parser BodyItems} v (λ st seen. and_then (let_of w turns inner st seen) (λ l st seen. and_then (filled w turns inner k st seen) (λ more. pure (more_lets l more.0, more.1))))
        (λ st seen. (cond {A = Parser BodyItems} (begins_part (form (w st.at))) (parted w turns inner k) stop) st (max seen st.at))) st (max seen st.at)) g
    by_let again true = lets again (max seen st.at)
    by_let again false = by_part (begins_part (form (w st.at))) (max (max seen st.at) st.at)

  body_filled : Parser Body
  body_filled = do
    n ← opens w inner.number
    takes w is_lbrace
    contained ← filled w turns inner turns
    body_end w turns inner n contained

  body_same : (st : State) (seen : ℕ) → body_of w turns inner st seen ≡ body_filled st seen
  unfolding body_of body_filled
  body_same st seen = then_same (opens w inner.number st seen) _ _ (λ k a sn. then_same (takes w is_lbrace a sn) _ _ (λ u b sn. filled_same turns b sn (body_end w turns inner k)))

module _ (s : ℕ → Lexeme) (n : ℕ) (ends : form (s n) ≡ 0) (turns : ℕ) (room : n < turns) (many : 1 < turns) where
  -- contents at a level, and the body that holds them, one below
  module _ (l : ℕ) (i : Inner) (j : (ℕ → Lexeme) → Inner) (all : grammar.AllLive s n ends turns room l i j) where
    part_case : (k floor : ℕ) → n < k + suc floor → 0 < k → go.Live s n l l floor true (clear (only not_word)) (clear (only (Sign m.RBrace)))
        (parted s turns i k) (λ w. parted w turns (j w) k)
    part_case k floor left some = then s n ends (grammar.calm s n ends (grammar.item_live s n ends turns room l i j all true _ _ (grammar.full_part_live s n ends turns room l i j all)))
        (λ d. then s n ends (grammar.body_items_live s n ends turns room l i j all k _ (omega arith) some) (λ more. pure_live s n ends _) refl) refl

    filled_live : (k floor : ℕ) → suc n < k + floor → 1 < k → go.Live s n l l floor true (clear (only not_word)) (clear (only (Sign m.RBrace))) (filled s turns i k) (λ w. filled w turns (j w) k)
    unfolding filled
    filled_live zero floor left some = absurd (omega arith)
    filled_live (suc k) floor left some = side.or_end_more s n ends {h = only let_word} 1 is_let k floor (omega arith) refl refl refl
        (λ m left some. then s n ends (grammar.let_live s n ends turns room l i j all) (λ l. then s n ends (filled_live k _ (omega arith) some) (λ more. pure_live s n ends _) refl) refl)
        (record {
          lives = λ st seen above inside tight. single.choose_strict_at s n ends {v = true} {h = only not_word} {g = any} begins_part _ _ _ _ st seen inside refl
              (λ is less. (part_case k st.at (omega arith) (omega arith)).lives st _ (omega arith) inside (go.tight_at s n (λ x. false) st seen inside tight))
              (λ miss. single.stop_at s n ends true (clear any) (clear (only (Sign m.RBrace))) _ st _ (go.tight_at s n (λ x. false) st seen inside tight));
          starts = first_starts s n ends begins_part _ _ refl (part_case k n (omega arith) (omega arith)).starts;
        })

  module _ (l : ℕ) (place : l < 128) (i : Inner) (j : (ℕ → Lexeme) → Inner) (all : grammar.AllLive s n ends turns room (suc l) i j) where
    body_end_live : {floor : ℕ} (k : ℕ) (contained : BodyItems) → go.Live s n (suc l) l floor true (clear (only (Sign m.RBrace))) (clear any) (body_end s turns i k contained) (λ w. body_end w turns (j w) k contained)
    unfolding body_end
    body_end_live k contained = then s n ends (closes_live s n ends is_rbrace (Sign m.RBrace) any refl refl refl) (λ u. pure_live s n ends _) refl

    filled_body_live : {floor : ℕ} → go.Live s n l l floor true (clear (only (Sign m.LBrace))) (clear any) (body_filled s turns i) (λ w. body_filled w turns (j w))
    unfolding body_filled
    filled_body_live = then s n ends (opens_live s n ends i.number (λ w. (j w).number) all.exact all.alike) (λ k. then s n ends (up_live s n ends is_lbrace (Sign m.LBrace) any refl refl refl place) (λ u.
        then s n ends (filled_live (suc l) i j all turns _ (omega arith) many) (λ contained. body_end_live k contained) refl) refl) refl

    body_live : {floor : ℕ} → go.Live s n l l floor true (clear (only (Sign m.LBrace))) (clear any) (body_of s turns i) (λ w. body_of w turns (j w))
    body_live = side.same_live s n ends (body_same s turns i) (λ w. body_same w turns (j w)) filled_body_live

  -- ---- what stands in brackets can begin behind the end, whatever stands in brackets in it

  module _ (l : ℕ) (j : (ℕ → Lexeme) → Inner) (alike : (w : ℕ → Lexeme) (k : ℕ) → (j w).number k ≡ k) where
    note_start : (f : ℕ → Bool) → Disjoint f is_note → go.Starts s n l l f f note
    unfolding note
    note_start f clears = single.second_starts s n ends is_note _ _ clears (single.pure_starts s n ends _ f)

    ruled_start : (f : ℕ → Bool) (k : ℕ) (negated : Bool) → Disjoint f is_note → Disjoint f is_lparen → go.Starts s n l l (only named) f (λ w. ruled w turns (j w) k negated)
    unfolding ruled referred
    ruled_start f k negated clears open_clears = single.then_starts s n ends (single.has_starts s n ends is_name text_of named any refl refl)
        (λ name. single.second_starts s n ends is_lparen _ _ open_clears (single.then_starts s n ends {k = f} (note_start f clears) (λ message. single.pure_starts s n ends _ f) (sub_same f))) (sub_any f)

    cond_start : (full : Bool) (f : ℕ → Bool) (k : ℕ) → Disjoint f is_note → Disjoint f is_lparen → go.Starts s n l l (only not_word) f (λ w. cond_of w turns (j w) full k)
    unfolding cond_of
    cond_start full f k clears open_clears = single.second_starts s n ends is_some_word _ _ refl (single.first_starts s n ends is_neg _ _ refl (single.then_starts s n ends (single.takes_starts s n ends is_neg not_word any refl refl) (λ u. ruled_start f k true clears open_clears) refl))

    cond_part_start : (f : ℕ → Bool) → Disjoint f is_note → Disjoint f is_lparen → go.Starts s n l l (only not_word) f (λ w. cond_part w turns (j w))
    unfolding cond_part
    cond_part_start f clears open_clears = single.then_starts s n ends (single.opens_starts s n ends (only not_word) (λ w. (j w).number) alike) (λ k. cond_start false f k clears open_clears) refl

    ors_start : (part : (ℕ → Lexeme) → Parser Part) (f : ℕ → Bool) (k : ℕ) → 0 < k → Disjoint f is_or → go.Starts s n l l f f (λ w. ors w turns (j w) (part w) k)
    unfolding ors
    ors_start part f zero some clears = absurd (omega arith)
    ors_start part f (suc k) some clears = single.second_starts s n ends is_or _ _ clears (single.pure_starts s n ends _ f)

    disj_start : (part : (ℕ → Lexeme) → Parser Part) (f : ℕ → Bool) → Disjoint f is_or → go.Starts s n l l (only not_word) f part → go.Starts s n l l (only not_word) f (λ w. disj_of w turns (j w) (part w))
    unfolding disj_of
    disj_start part f clears start = single.then_starts s n ends (single.opens_starts s n ends (only not_word) (λ w. (j w).number) alike) (λ k. single.then_starts s n ends start (λ p. single.then_starts s n ends {k = f} (ors_start part f turns (omega arith) clears) (λ ps. single.pure_starts s n ends _ f) (sub_same f)) (sub_same f)) refl

    disjs_start : (k : ℕ) → 0 < k → go.Starts s n l l (past_part false) (past_part false) (λ w. disjs w turns (j w) k)
    unfolding disjs
    disjs_start zero some = absurd (omega arith)
    disjs_start (suc k) some = single.second_starts s n ends begins_cond _ _ refl (single.pure_starts s n ends _ (past_part false))

    conds_start : go.Starts s n l l (only not_word) (past_part false) (λ w. conds_of w turns (j w))
    unfolding conds_of
    conds_start = single.then_starts s n ends (single.opens_starts s n ends (only not_word) (λ w. (j w).number) alike) (λ k. single.then_starts s n ends (disj_start (λ w. cond_part w turns (j w)) (past_part false) refl (cond_part_start (past_part false) refl refl)) (λ d.
        single.then_starts s n ends (disjs_start turns (omega arith)) (λ ds. single.pure_starts s n ends _ (past_part false)) refl) refl) refl

    module _ (tree_start : go.Starts s n l l (only nought) any (λ w. (j w).tree)) where
      expr_start : go.Starts s n l l (only nought) any (λ w. expr_of w turns (j w))
      unfolding expr_of tree_expr
      expr_start = single.second_starts s n ends is_function_word _ _ refl (single.second_starts s n ends is_any_name _ _ refl (single.first_starts s n ends is_plain _ _ refl (single.then_starts s n ends (single.opens_starts s n ends (only nought) (λ w. (j w).number) alike) (λ k. single.then_starts s n ends tree_start (λ t. single.pure_starts s n ends _ any) refl) refl)))

      more_exprs_start : (k : ℕ) → 0 < k → go.Starts s n l l (only (Sign m.RParen)) (only (Sign m.RParen)) (λ w. more_exprs_of w turns (j w) k)
      unfolding more_exprs_of
      more_exprs_start zero some = absurd (omega arith)
      more_exprs_start (suc k) some = single.second_starts s n ends is_comma _ _ refl (single.pure_starts s n ends _ (only (Sign m.RParen)))

      exprs_start : go.Starts s n l l (only nought) (only (Sign m.RParen)) (λ w. exprs_of w turns (j w))
      unfolding exprs_of
      exprs_start = single.then_starts s n ends expr_start (λ e. single.then_starts s n ends (more_exprs_start turns (omega arith)) (λ es. single.pure_starts s n ends _ (only (Sign m.RParen))) refl) refl

    -- a name alone is a condition
    lone_ors : (w : ℕ → Lexeme) (part : Parser Part) (k : ℕ) (st : State) (seen : ℕ) → 0 < k → past_part false (form (w st.at)) ≡ true → Gives (ors w turns (j w) part k st seen) no_parts st
    unfolding ors
    lone_ors w part zero st seen some shut = absurd (omega arith)
    lone_ors w part (suc k) st seen some shut = by w is_or false _ _ st seen (apart (past_part false) is_or (w st.at) refl shut) gives

    lone_disjs : (w : ℕ → Lexeme) (k : ℕ) (st : State) (seen : ℕ) → 0 < k → past_part false (form (w st.at)) ≡ true → Gives (disjs w turns (j w) k st seen) no_disjs st
    unfolding disjs
    lone_disjs w zero st seen some shut = absurd (omega arith)
    lone_disjs w (suc k) st seen some shut = by w begins_cond false _ _ st seen (apart (past_part false) begins_cond (w st.at) refl shut) gives

    lone_part : (w : ℕ → Lexeme) (k : ℕ) (name : List ℕ) (st : State) (seen : ℕ) → is_name (form (w st.at)) ≡ true → text_of (w st.at) ≡ name → past_part false (form (w (suc st.at))) ≡ true
        → Gives (cond_of w turns (j w) false k st seen) (refer k false name None) (past st)
    unfolding cond_of led_by_name ruled referred note
    lone_part w k name st seen is called shut = by w is_some_word false _ _ st seen (apart is_name is_some_word (w st.at) refl is) (by w is_neg false _ _ st _ (apart is_name is_neg (w st.at) refl is)
        (by w is_name true _ _ st _ is (by_next w (leads false) false _ _ st _ (apart (past_part false) (leads false) (w (suc st.at)) refl shut)
        (by_next w is_neg false _ _ st _ (apart (past_part false) is_neg (w (suc st.at)) refl shut)
        (gives_then _ (gives_has w is_name text_of name st (past st) _ (is, sym called, refl)) (λ sn. by w is_lparen false _ _ (past st) sn (apart (past_part false) is_lparen (w (suc st.at)) refl shut)
        (gives_then _ (by w is_note false _ _ (past st) _ (apart (past_part false) is_note (w (suc st.at)) refl shut) gives) (λ sn. gives))))))))

    lone_conds : (w : ℕ → Lexeme) (p : ℕ) (name : List ℕ) (st : State) (seen : ℕ) → is_name (form (w st.at)) ≡ true → (w st.at).from ≡ p → text_of (w st.at) ≡ name → past_part false (form (w (suc st.at))) ≡ true
        → Gives (conds_of w turns (j w) st seen) (conds (length st.places) (more_disjs (disj (length (opened p st).places) (more_parts (refer (length (opened p (opened p st)).places) false name None) no_parts)) no_disjs))
        (past (opened p (opened p (opened p st))))
    unfolding conds_of disj_of cond_part
    lone_conds w p name st seen is from called shut =
        let a = opened p st in let b = opened p a in let c = opened p b in
        gives_then _ (gives_opens w (j w).number (alike w) _ st a seen (refl, ap (λ q. opened q st) (sym from))) (λ sn. gives_then _
        (gives_then _ (gives_opens w (j w).number (alike w) _ a b sn (refl, ap (λ q. opened q a) (sym from))) (λ sn. gives_then _
        (gives_then _ (gives_opens w (j w).number (alike w) _ b c sn (refl, ap (λ q. opened q b) (sym from))) (λ sn. lone_part w _ name c sn is called shut))
        (λ sn. gives_then _ (lone_ors w _ turns (past c) sn (omega arith) shut) (λ sn. gives))))
        (λ sn. gives_then _ (lone_disjs w turns (past c) sn (omega arith) shut) (λ sn. gives)))

  -- ---- at each depth: where s nests no deeper than a number, what goes on is read one deeper, and opens no bracket too deep

  lone_live : {floor : ℕ} (e l : ℕ) → go.Live s n l l floor true filtering (clear (past_part false)) stop (λ w. conds_of w turns (inners w turns e))
  lone_live e l = record {
    lives = λ st seen above inside tight. record { lives = λ far less. mended st (near st less (tight far)) };
    starts = conds_start l (λ w. inners w turns e) (λ w k. refl);
  } where
    near : (st : State) → st.at < n → (st.at ≡ n) ⊎ go.Hangs s n is_name st → go.Hangs s n is_name st
    near st less (inl same) = absurd (omega arith)
    near st less (inr h) = h

    mended : (st : State) → go.Hangs s n is_name st → go.Mended s n l l filtering (clear (past_part false)) (λ w. conds_of w turns (inners w turns e)) st
    mended st (last, is) = let p = (s st.at).from in record {
      more = [];
      value = _;
      last = past (opened p (opened p (opened p st)));
      ends = omega arith;
      flows = λ shallow level w agree spells. stands_at w l n (suc st.at) (sym last)
          (stands_agreed s w n agree l n (omega arith) shallow (subst (λ i. open_before s i ≡ l) last (stays_level is_name l refl (s st.at) is (open_before s st.at) level)));
      goes = λ w agree spells meets.
          let here : w st.at ≡ s st.at = agree st.at (omega arith) in (
            (λ same. absurd (omega arith), λ h. ap (λ i. quiet (form (w i))) (sym last) ∙ implied (past_part false) quiet (w (suc st.at)) refl meets.0),
            λ k. lone_conds l (λ w. inners w turns e) (λ w k. refl) w p (text_of (s st.at)) st k (ap (λ x. is_name (form x)) here ∙ is) (ap (λ (x : Lexeme). x.from) here) (ap text_of here) meets.0,
          );
    }

  tree_start : (e l : ℕ) → go.Starts s n l l (only nought) any (λ w. (inners w turns e).tree)
  tree_start zero l = literal_start s n ends turns room zero
  tree_start (suc e) l = literal_start s n ends turns room (suc e)

  -- so many brackets are open, and so many more may open in s
  inners_live : (d e l : ℕ) → d < e → l + d ≡ 128 → grammar.AllLive s n ends turns room l (inners s turns d) (λ w. inners w turns e)
  inners_live d zero l less all = absurd (omega arith)
  inners_live zero (suc e) l less all = record {
    exact = λ k. refl;
    alike = λ w k. refl;
    roomy = λ w. refl;
    place = λ e. absurd (true≢false (sym e));
    tree = λ floor. literal_live s n ends turns room zero (suc e) l less all;
    constant = λ floor. literal_near s n ends turns room zero (suc e) l less all past_expr;
    shut = λ e st seen. refl;
    body = λ e. absurd (true≢false (sym e));
    conds = λ floor. lone_live e (suc l);
    expr = λ floor. record {
      lives = λ st seen above inside tight. single.stop_at s n ends true (clear (only nought)) (clear past_expr) _ st seen tight;
      starts = side.starts_sided s n ends refl refl (expr_start (suc l) (λ w. inners w turns e) (λ w k. refl) (tree_start e (suc l)));
    };
    exprs = λ floor. record {
      lives = λ st seen above inside tight. single.stop_at s n ends true (clear (only nought)) (clear (only (Sign m.RParen))) _ st seen tight;
      starts = exprs_start (suc l) (λ w. inners w turns e) (λ w k. refl) (tree_start e (suc l));
    };
  }
  inners_live (suc d) (suc e) l less all = let inner = inners_live d e (suc l) (omega arith) (omega arith) in let i = inners s turns d in let j : (ℕ → Lexeme) → Inner = λ w. inners w turns e in record {
    exact = λ k. refl;
    alike = λ w k. refl;
    roomy = λ w. refl;
    place = λ e. omega arith;
    tree = λ floor. literal_live s n ends turns room (suc d) (suc e) l less all;
    constant = λ floor. literal_near s n ends turns room (suc d) (suc e) l less all past_expr;
    shut = λ e. absurd (true≢false e);
    body = λ e floor. body_live l (omega arith) i j inner;
    conds = λ floor. grammar.conds_live s n ends turns room (suc l) i j inner;
    expr = λ floor. grammar.expr_live s n ends turns room (suc l) i j inner;
    exprs = λ floor. grammar.exprs_live s n ends turns room (suc l) i j inner;
  }

  -- ---- the file

  -- with these lexemes behind the end, a file is read, and no bracket opens too deep
  pub record Goes (depth : ℕ) : Type 0 where
    pub more : List Lexeme
    pub value : FileItems
    pub last : State
    pub stops : last.at ≡ n + length more
    pub flat : (w : ℕ → Lexeme) → go.Agree s n w → go.Spells s n w n more → IsShallowTo w last.at
    pub goes : (w : ℕ → Lexeme) → go.Agree s n w → go.Spells s n w n more → go.Meets s n (only End) w last.at → (k : ℕ) → Gives (contents w turns (inners w turns depth) start k) value last

  pub goes_on : (d k : ℕ) → suc d ≡ 128 → IsShallowTo s n → whole_file s turns (inners s turns (suc d)) start 0 ≡ Fail k → n ≤ k → Goes (suc (suc d))
  unfolding whole_file choose
  goes_on d k deep shallow failed far = by_outcome (contents s turns (inners s turns (suc d)) start 0) (live.lives start 0 (omega arith) (omega arith) (λ end. inl (omega arith))).lives failed where
    live : go.Live s n 0 0 0 false (clear (only End)) (clear (only End)) (contents s turns (inners s turns (suc d))) (λ w. contents w turns (inners w turns (suc (suc d))))
    live = grammar.contents_live s n ends turns room 0 (inners s turns (suc d)) (λ w. inners w turns (suc (suc d))) (inners_live (suc d) (suc (suc d)) 0 (omega arith) (omega arith)) refl

    from_start : (v : Bool) → nat_eq n 0 ≡ v → (n ≤ k → 0 < n → go.Mended s n 0 0 (clear (only End)) (clear (only End)) (λ w. contents w turns (inners w turns (suc (suc d)))) start) → Goes (suc (suc d))
    from_start true e mended = let none : n ≡ 0 = grind (arith, nat_tests) in let b = live.starts start (omega arith) in record {
      more = b.more;
      value = b.value;
      last = b.last;
      stops = let l = b.ends in omega arith;
      flat = λ w agree spells. (b.flows w (subst (λ i. go.Spells s n w i b.more) none spells) (λ i less. absurd (omega arith), refl)).0;
      goes = λ w agree spells meets. (b.goes w (subst (λ i. go.Spells s n w i b.more) none spells) meets).1;
    }
    from_start false e mended = let m = mended far (let some : 0 < n = grind (arith, nat_tests) in some) in record {
      more = m.more;
      value = m.value;
      last = m.last;
      stops = m.ends;
      flat = λ w agree spells. (m.flows shallow refl w agree spells).0;
      goes = λ w agree spells meets. (m.goes w agree spells meets).1;
    }

    at_end : (x : FileItems) (m : State) (seen : ℕ) (v : Bool) → is_end (form (s m.at)) ≡ v → m.at ≤ n → go.Tight s n (λ x. false) m seen
        → (cond {A = Parser FileItems} v (pure x) stop) m (max seen m.at) ≡ Fail k → ⊥
    at_end x m seen true is within tight e = absurd cc
    at_end x m seen false miss within tight e = late (nat_eq m.at n) refl where
      late : (v : Bool) → nat_eq m.at n ≡ v → ⊥
      late true same = true≢false (sym (ap (λ i. is_end (form (s i))) (let e : m.at ≡ n = grind (arith, nat_tests) in e) ∙ ap is_end ends) ∙ miss)
      late false other = side.far_not s n ends m seen (let l : m.at < n = grind (arith, nat_tests) in l) tight (let place : max seen m.at ≡ k = ap (λ (o : Outcome FileItems). horizon o) e in let l : m.at < n = grind (arith, nat_tests) in grind arith)

    by_outcome : (o : Outcome FileItems) → go.Outlived s n 0 0 false (clear (only End)) (clear (only End)) (λ w. contents w turns (inners w turns (suc (suc d)))) start o
        → and_then o (λ x. λ st seen. (cond {A = Parser FileItems} (is_end (form (s st.at))) (pure x) stop) st (max seen st.at)) ≡ Fail k → Goes (suc (suc d))
    by_outcome (Read x m seen) kept e = absurd (at_end x m seen (is_end (form (s m.at))) refl kept.within kept.tight e)
    by_outcome (Fail i) mended e = from_start (nat_eq n 0) refl (λ far less. mended (let same : i ≡ k = ap (λ (o : Outcome FileItems). horizon o) e in omega arith) less)
