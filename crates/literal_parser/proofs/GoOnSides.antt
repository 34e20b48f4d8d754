-- What a reader asks of the lexeme behind the end may be more or less; and choices where one lexeme is left.
use Rattle.std.proofs.Common.{◌≡◌, ◌⊎◌, inl, inr, ℕ, suc, ◌≤◌, ◌<◌, ◌+◌, max, Bool, true, false, cond, not, ◌&&◌, ◌||◌, refl, sym, ap, ◌∙◌, subst, arith, true≢false}
use Rattle.literal_parser.specs.Lexemes.{Lexeme, Word}
use Rattle.literal_parser.specs.Forms.{form, word_form}
use Rattle.literal_parser.specs.States.{State, past}
use Rattle.literal_parser.specs.code.Parser.{Outcome, Read, Fail, Parser, and_then, takes, has, choose, choose_next, choose_pair, choose_third}
use Rattle.literal_parser.proofs.Combine.{Gives}
use Rattle.literal_parser.proofs.Apart.{apart, implied}
use Rattle.literal_parser.proofs.Steps.{by_next, by_pair}
use Rattle.literal_parser.proofs.GoOn as go
use Rattle.literal_parser.proofs.Levels.{Sub, Disjoint, Moves, is_bracket, stays_level}
use Rattle.literal_parser.proofs.GoOn.{any, only, Side, clear, Passes}
use Rattle.literal_parser.proofs.GoOnSteps as step

module _ (s : ℕ → Lexeme) (n : ℕ) (ends : form (s n) ≡ 0) where
  tight_so : (f g : ℕ → Bool) (st : State) (seen : ℕ) → Sub f g → go.Tight s n f st seen → go.Tight s n g st seen
  tight_so f g st seen sub tight = λ far. helper (tight far) where
    helper : (st.at ≡ n) ⊎ go.Hangs s n f st → (st.at ≡ n) ⊎ go.Hangs s n g st
    helper (inl e) = inl e
    helper (inr h) = inr (h.0, implied f g (s st.at) sub h.1)

  fits_so : (near next here near2 next2 here2 : ℕ → Bool) (w : ℕ → Lexeme) (st : State) → Sub near2 near → Sub next next2 → Sub here here2
      → go.Fits s n (record { near = near; next = next; here = here }) w st → go.Fits s n (record { near = near2; next = next2; here = here2 }) w st
  fits_so near next here near2 next2 here2 w st p q r fits = (
    λ e. go.meets_so s n here here2 w n r (fits.0 e),
    λ h. implied next next2 (w n) q (fits.1 (h.0, implied near2 near (s st.at) p h.1)),
  )

  pub sided_at : {A : Type 0} {i j : ℕ} {v : Bool} {from to from2 to2 : Side} {r : Outcome A} {q : (ℕ → Lexeme) → Parser A} {st : State}
      → Sub from2.near from.near → Sub from.next from2.next → Sub from.here from2.here → Sub to.near to2.near → Sub to2.next to.next → Sub to2.here to.here
      → go.LivesAt s n i j v from to r q st → go.LivesAt s n i j v from2 to2 r q st
  sided_at {from = from} {to = to} {from2 = from2} {to2 = to2} {r = Read a b seen} {st = st} p1 p2 p3 p4 p5 p6 h = record {
    lives = let x = h.lives in record {
      within = x.within;
      grows = x.grows;
      tight = tight_so to.near to2.near b seen p4 x.tight;
      level = x.level;
      stays = λ w agree fits. let z = x.stays w agree (fits_so to2.near to2.next to2.here to.near to.next to.here w b p4 p5 p6 fits) in
          (fits_so from.near from.next from.here from2.near from2.next from2.here w st p1 p2 p3 z.0, z.1);
    };
  }
  sided_at {from = from} {to = to} {from2 = from2} {to2 = to2} {r = Fail k} {st = st} p1 p2 p3 p4 p5 p6 h = record {
    lives = λ far less. let m = h.lives far less in record {
      more = m.more;
      value = m.value;
      last = m.last;
      ends = m.ends;
      flows = m.flows;
      goes = λ w agree spells meets. let z = m.goes w agree spells (go.meets_so s n to2.here to.here w m.last.at p6 meets) in
          (fits_so from.near from.next from.here from2.near from2.next from2.here w st p1 p2 p3 z.0, z.1);
    };
  }

  pub starts_sided : {A : Type 0} {i j : ℕ} {h f h2 f2 : ℕ → Bool} {q : (ℕ → Lexeme) → Parser A} → Sub h h2 → Sub f2 f → go.Starts s n i j h f q → go.Starts s n i j h2 f2 q
  starts_sided {h = h} {f = f} {h2 = h2} {f2 = f2} p q starts st late = let b = starts st late in record {
    more = b.more;
    value = b.value;
    last = b.last;
    ends = b.ends;
    flows = b.flows;
    goes = λ w spells meets. let z = b.goes w spells (go.meets_so s n f2 f w b.last.at q meets) in (go.meets_so s n h h2 w st.at p z.0, z.1);
  }

  -- another side, by what passes which test: near, next and here of what is before, and of what is behind
  pub sided : {A : Type 0} {i j : ℕ} {floor : ℕ} {v : Bool} {from to from2 to2 : Side} {p : Parser A} {q : (ℕ → Lexeme) → Parser A}
      → Sub from2.near from.near → Sub from.next from2.next → Sub from.here from2.here → Sub to.near to2.near → Sub to2.next to.next → Sub to2.here to.here
      → go.Live s n i j floor v from to p q → go.Live s n i j floor v from2 to2 p q
  sided {from = from} {from2 = from2} p1 p2 p3 p4 p5 p6 h = record {
    lives = λ st seen above within tight. sided_at p1 p2 p3 p4 p5 p6 (h.lives st seen above within (tight_so from2.near from.near st seen p1 tight));
    starts = starts_sided p3 p6 h.starts;
  }

  pub lax : {A : Type 0} {i j : ℕ} {floor : ℕ} {from to : Side} {p : Parser A} {q : (ℕ → Lexeme) → Parser A} → go.Live s n i j floor true from to p q → go.Live s n i j floor false from to p q
  lax h = record {
    lives = λ st seen above within tight. step.passes_of s n ends false (λ b l. go.passes_at_least true st.at b.at l) (h.lives st seen above within tight);
    starts = h.starts;
  }

  -- before the end nothing is asked
  pub inside_from : {A : Type 0} {i j : ℕ} {v : Bool} {from to : Side} {r : Outcome A} {q : (ℕ → Lexeme) → Parser A} {st : State} (h : ℕ → Bool) → st.at < n
      → go.LivesAt s n i j v from to r q st → go.LivesAt s n i j v (clear h) to r q st
  inside_from {q = q} {st = st} h less l = step.lives_through s n ends q st (omega arith) (λ l. l) (λ e. e) l
      (λ w agree fits. ((λ e. absurd (omega arith), λ e. absurd (true≢false (sym e.1))), λ a c g. g))

  pub from_far : {A : Type 0} {i j : ℕ} {v : Bool} {from to from2 : Side} {r : Outcome A} {q : (ℕ → Lexeme) → Parser A} {st : State} → suc st.at < n
      → go.LivesAt s n i j v from to r q st → go.LivesAt s n i j v from2 to r q st
  from_far {q = q} {st = st} less l = step.lives_through s n ends q st (omega arith) (λ l. l) (λ e. e) l
      (λ w agree fits. ((λ e. absurd (omega arith), λ e. absurd (let one = e.0 in omega arith)), λ a c g. g))

  -- the lexeme that is left is another
  pub tight_none : (g : ℕ → Bool) (st : State) (seen : ℕ) → g (form (s st.at)) ≡ false → go.Tight s n g st seen → go.Tight s n (λ x. false) st seen
  tight_none g st seen miss tight = λ far. helper (tight far) where
    helper : (st.at ≡ n) ⊎ go.Hangs s n g st → (st.at ≡ n) ⊎ go.Hangs s n (λ x. false) st
    helper (inl e) = inl e
    helper (inr h) = absurd (true≢false (sym h.1 ∙ miss))

  pub from_near : {A : Type 0} {i j : ℕ} {v : Bool} {near next here : ℕ → Bool} {to : Side} {r : Outcome A} {q : (ℕ → Lexeme) → Parser A} {st : State} → near (form (s st.at)) ≡ false
      → go.LivesAt s n i j v (clear here) to r q st → go.LivesAt s n i j v (record { near = near; next = next; here = here }) to r q st
  from_near {q = q} {st = st} miss l = step.lives_through s n ends q st (omega arith) (λ l. l) (λ e. e) l
      (λ w agree fits. ((fits.0, λ e. absurd (true≢false (sym e.1 ∙ miss))), λ a c g. g))

  -- a choice of which the first reader does not begin with the lexeme that may be left
  pub or_near_by : {A : Type 0} {i j : ℕ} {floor : ℕ} {v u : Bool} {from to : Side} {h : ℕ → Bool} (f : ℕ → Bool) {p q : Parser A} {x y : (ℕ → Lexeme) → Parser A} → f 0 ≡ false → Disjoint from.here f
      → Disjoint from.near f → go.Lives s n i j floor v (clear h) to p x → go.Live s n i j floor u from to q y → go.Live s n i j floor (v && u) from to (choose s f p q) (λ w. choose w f (x w) (y w))
  or_near_by {from = from} {h = h} f {p = p} {q = q} {x = x} {y = y} never clears far one two = record {
    lives = λ st seen above within tight. step.choose_at s n ends {h = h} f p q x y st seen within never clears
        (λ is less. let miss = other st is in from_near miss (one st _ above within (tight_none from.near st _ miss (go.tight_at s n from.near st seen within tight))))
        (λ is. two.lives st _ above within (go.tight_at s n from.near st seen within tight));
    starts = step.second_starts s n ends f x y clears two.starts;
  } where
    swapped : (a b : Bool) → (a ≡ true → b ≡ false) → b ≡ true → a ≡ false
    swapped true b e h = absurd (true≢false (sym h ∙ e refl))
    swapped false b e h = refl

    other : (st : State) → f (form (s st.at)) ≡ true → from.near (form (s st.at)) ≡ false
    other st is = swapped (from.near (form (s st.at))) (f (form (s st.at))) (λ e. apart from.near f (s st.at) far e) is

  pub or_near : {A : Type 0} {i j : ℕ} {floor : ℕ} {v u : Bool} {from to : Side} {h : ℕ → Bool} (f : ℕ → Bool) {p q : Parser A} {x y : (ℕ → Lexeme) → Parser A} → f 0 ≡ false → Disjoint from.here f
      → Disjoint from.near f → go.Live s n i j floor v (clear h) to p x → go.Live s n i j floor u from to q y → go.Live s n i j floor (v && u) from to (choose s f p q) (λ w. choose w f (x w) (y w))
  or_near {floor = floor} {v = v} {from = from} {h = h} f never clears far one two = or_near_by {floor = floor} {v = v} {from = from} {h = h} f never clears far one.lives two

  -- a choice of which the first reader begins with a lexeme that is known, and the second with what may be left but for that
  pub or_known : {A : Type 0} {i j : ℕ} {floor : ℕ} {v u : Bool} {from to : Side} {h near : ℕ → Bool} (f : ℕ → Bool) {p q : Parser A} {x y : (ℕ → Lexeme) → Parser A} → f 0 ≡ false → Disjoint from.here f
      → Sub (λ x. from.near x && not (f x)) near
      → ((st : State) (seen : ℕ) → floor ≤ st.at → st.at < n → f (form (s st.at)) ≡ true → go.Tight s n from.near st seen
      → go.LivesAt s n i j v (record { near = from.near; next = from.next; here = h }) to (p st seen) x st)
      → go.Live s n i j floor u (record { near = near; next = from.next; here = from.here }) to q y → go.Live s n i j floor (v && u) from to (choose s f p q) (λ w. choose w f (x w) (y w))
  or_known {i = i} {j = j} {u = u} {from = from} {to = to} {h = h} {near = near} f {p = p} {q = q} {x = x} {y = y} never clears rest one two = record {
    lives = λ st seen above within tight. step.choose_at s n ends {h = h} f p q x y st seen within never clears
        (λ is less. one st _ above less is (go.tight_at s n from.near st seen within tight))
        (λ is. near_rest st _ is (two.lives st _ above within (tight_rest st _ is (go.tight_at s n from.near st seen within tight))));
    starts = step.second_starts s n ends f x y clears two.starts;
  } where
    other : (st : State) → f (form (s st.at)) ≡ false → from.near (form (s st.at)) ≡ true → near (form (s st.at)) ≡ true
    other st miss h = implied (λ x. from.near x && not (f x)) near (s st.at) rest (ap (λ v. v && not (f (form (s st.at)))) h ∙ ap not miss)

    tight_rest : (st : State) (seen : ℕ) → f (form (s st.at)) ≡ false → go.Tight s n from.near st seen → go.Tight s n near st seen
    tight_rest st seen miss tight = λ far. helper (tight far) where
      helper : (st.at ≡ n) ⊎ go.Hangs s n from.near st → (st.at ≡ n) ⊎ go.Hangs s n near st
      helper (inl e) = inl e
      helper (inr h) = inr (h.0, other st miss h.1)

    near_rest : (st : State) (seen : ℕ) → f (form (s st.at)) ≡ false → go.LivesAt s n i j u (record { near = near; next = from.next; here = from.here }) to (q st seen) y st
        → go.LivesAt s n i j u from to (q st seen) y st
    near_rest st seen miss l = step.lives_through s n ends y st (omega arith) (λ l. l) (λ e. e) l
        (λ w agree fits. ((fits.0, λ e. fits.1 (e.0, other st miss e.1)), λ a c g. g))

  -- a list's choice, by what begins an item: behind an item so many turns are left, and some more
  pub or_end_more : {A : Type 0} {i j : ℕ} {v u : Bool} {from to : Side} {h : ℕ → Bool} (spare : ℕ) (f : ℕ → Bool) (k floor : ℕ) {p q : Parser A} {x y : (ℕ → Lexeme) → Parser A} → spare + n < suc k + floor → f 0 ≡ false
      → Disjoint from.here f → Disjoint from.near f
      → ((m : ℕ) → spare + n < k + suc m → spare < k → go.Live s n i j m v (clear h) to p x) → go.Live s n i j floor u from to q y
      → go.Live s n i j floor (v && u) from to (choose s f p q) (λ w. choose w f (x w) (y w))
  or_end_more {from = from} {h = h} spare f k floor {p = p} {q = q} {x = x} {y = y} room never clears far one two = record {
    lives = λ st seen above within tight. step.choose_at s n ends {h = h} f p q x y st seen within never clears
        (λ is less. let miss = other st is in from_near miss ((one st.at (omega arith) (omega arith)).lives st _ (omega arith) within (tight_none from.near st _ miss (go.tight_at s n from.near st seen within tight))))
        (λ is. two.lives st _ above within (go.tight_at s n from.near st seen within tight));
    starts = step.second_starts s n ends f x y clears two.starts;
  } where
    swapped : (a b : Bool) → (a ≡ true → b ≡ false) → b ≡ true → a ≡ false
    swapped true b e h = absurd (true≢false (sym h ∙ e refl))
    swapped false b e h = refl

    other : (st : State) → f (form (s st.at)) ≡ true → from.near (form (s st.at)) ≡ false
    other st is = swapped (from.near (form (s st.at))) (f (form (s st.at))) (λ e. apart from.near f (s st.at) far e) is

  pub or_end : {A : Type 0} {i j : ℕ} {v u : Bool} {from to : Side} {h : ℕ → Bool} (f : ℕ → Bool) (k floor : ℕ) {p q : Parser A} {x y : (ℕ → Lexeme) → Parser A} → n < suc k + floor → f 0 ≡ false
      → Disjoint from.here f → Disjoint from.near f
      → ((m : ℕ) → n < k + suc m → 0 < k → go.Live s n i j m v (clear h) to p x) → go.Live s n i j floor u from to q y
      → go.Live s n i j floor (v && u) from to (choose s f p q) (λ w. choose w f (x w) (y w))
  or_end f k floor room never clears far one two = or_end_more 0 f k floor (omega arith) never clears far (λ m left some. one m (omega arith) some) two

  -- the same, where the lexeme that may be left begins an item
  pub or_item : {A : Type 0} {i j : ℕ} {v u : Bool} {from to : Side} {h : ℕ → Bool} (f : ℕ → Bool) (k floor : ℕ) {p q : Parser A} {x y : (ℕ → Lexeme) → Parser A} → n < suc k + floor → f 0 ≡ false
      → Disjoint from.here f
      → ((m : ℕ) → n < k + suc m → 0 < k → go.Live s n i j m v (record { near = from.near; next = from.next; here = h }) to p x)
      → ((st : State) (seen : ℕ) → floor ≤ st.at → st.at ≤ n → f (form (s st.at)) ≡ false → go.Tight s n from.near st seen → go.LivesAt s n i j u from to (q st seen) y st)
      → go.Starts s n i j from.here to.here y
      → go.Live s n i j floor (v && u) from to (choose s f p q) (λ w. choose w f (x w) (y w))
  or_item {from = from} {h = h} f k floor {p = p} {q = q} {x = x} {y = y} room never clears one two begins = record {
    lives = λ st seen above within tight. step.choose_at s n ends {h = h} f p q x y st seen within never clears
        (λ is less. (one st.at (omega arith) (omega arith)).lives st _ (omega arith) within (go.tight_at s n from.near st seen within tight))
        (λ is. two st _ above within is (go.tight_at s n from.near st seen within tight));
    starts = step.second_starts s n ends f x y clears begins;
  }

  pub takes_near : {l floor : ℕ} {near next : ℕ → Bool} (f : ℕ → Bool) (word : Word) (to : ℕ → Bool) → f 0 ≡ false → f (word_form word) ≡ true → Sub near f → Sub to next → Disjoint f is_bracket
      → go.Live s n l l floor true (record { near = near; next = next; here = only word }) (clear to) (takes s f) (λ w. takes w f)
  takes_near {l = l} f word to never is sub fit clears = record {
    lives = λ st seen above within tight. step.takes_at s n ends f _ to st seen within never tight sub fit (stays_level f l clears);
    starts = step.takes_starts s n ends f word to is clears;
  }

  pub has_near : {A : Type 0} {l floor : ℕ} {near next : ℕ → Bool} (f : ℕ → Bool) (g : Lexeme → A) (word : Word) (to : ℕ → Bool) → f 0 ≡ false → f (word_form word) ≡ true → Sub near f → Sub to next → Disjoint f is_bracket
      → go.Live s n l l floor true (record { near = near; next = next; here = only word }) (clear to) (has s f g) (λ w. has w f g)
  has_near {l = l} f g word to never is sub fit clears = record {
    lives = λ st seen above within tight. step.has_at s n ends f g _ to st seen within never tight sub fit (stays_level f l clears);
    starts = step.has_starts s n ends f g word to is clears;
  }

  -- the end was not looked at before it
  pub far_not : (st : State) (seen : ℕ) → st.at < n → go.Tight s n (λ x. false) st seen → n ≤ seen → ⊥
  far_not st seen less tight far = there (tight far) where
    there : (st.at ≡ n) ⊎ go.Hangs s n (λ x. false) st → ⊥
    there (inl e) = omega arith
    there (inr e) = true≢false (sym e.1)

  -- ---- choices by a lexeme that stands at the end

  pub next_end : {A : Type 0} {i j : ℕ} {v : Bool} {mid from to : Side} (f : ℕ → Bool) (p q : Parser A) (x y : (ℕ → Lexeme) → Parser A) (st : State) (seen : ℕ) → f (form (s (suc st.at))) ≡ false
      → go.LivesAt s n i j v mid to (q st (max seen (suc st.at))) y st
      → ((w : ℕ → Lexeme) → go.Agree s n w → go.Fits s n mid w st → go.Fits s n from w st × (f (form (w (suc st.at))) ≡ false))
      → go.LivesAt s n i j v from to (choose_next s f p q st seen) (λ w. choose_next w f (x w) (y w)) st
  unfolding choose_next
  next_end {A} {i} {j} {v} {mid} {from} {to} f p q x y st seen miss l fit =
      subst (λ e. go.LivesAt s n i j v from to ((cond e p q) st (max seen (suc st.at))) (λ w. choose_next w f (x w) (y w)) st) (sym miss)
      (step.lives_through s n ends (λ w. choose_next w f (x w) (y w)) st (omega arith) (λ l. l) (λ e. e) l
      (λ w agree fits. let z = fit w agree fits in (z.0, λ a c g k. by_next w f false (x w) (y w) st k z.1 (g _))))

  pub pair_end : {A : Type 0} {i j : ℕ} {v : Bool} {mid from to : Side} (f : Lexeme → Lexeme → Bool) (p q : Parser A) (x y : (ℕ → Lexeme) → Parser A) (st : State) (seen : ℕ) → f (s st.at) (s (suc st.at)) ≡ false
      → go.LivesAt s n i j v mid to (q st (max seen (suc st.at))) y st
      → ((w : ℕ → Lexeme) → go.Agree s n w → go.Fits s n mid w st → go.Fits s n from w st × (f (w st.at) (w (suc st.at)) ≡ false))
      → go.LivesAt s n i j v from to (choose_pair s f p q st seen) (λ w. choose_pair w f (x w) (y w)) st
  unfolding choose_pair
  pair_end {A} {i} {j} {v} {mid} {from} {to} f p q x y st seen miss l fit =
      subst (λ e. go.LivesAt s n i j v from to ((cond e p q) st (max seen (suc st.at))) (λ w. choose_pair w f (x w) (y w)) st) (sym miss)
      (step.lives_through s n ends (λ w. choose_pair w f (x w) (y w)) st (omega arith) (λ l. l) (λ e. e) l
      (λ w agree fits. let z = fit w agree fits in (z.0, λ a c g k. by_pair w f false (x w) (y w) st k z.1 (g _))))

  -- ---- what is known to fail

  pub choose_miss : {A : Type 0} (f : ℕ → Bool) (p q : Parser A) (st : State) (seen : ℕ) → f (form (s st.at)) ≡ false → choose s f p q st seen ≡ q st (max seen st.at)
  unfolding choose
  choose_miss f p q st seen miss = ap (λ v. (cond v p q) st (max seen st.at)) miss

  pub next_miss : {A : Type 0} (f : ℕ → Bool) (p q : Parser A) (st : State) (seen : ℕ) → f (form (s (suc st.at))) ≡ false → choose_next s f p q st seen ≡ q st (max seen (suc st.at))
  unfolding choose_next
  next_miss f p q st seen miss = ap (λ v. (cond v p q) st (max seen (suc st.at))) miss

  pub third_miss : {A : Type 0} (f : ℕ → Bool) (p q : Parser A) (st : State) (seen : ℕ) → f (form (s (suc (suc st.at)))) ≡ false
      → choose_third s f p q st seen ≡ q st (max seen (suc (suc st.at)))
  unfolding choose_third
  third_miss f p q st seen miss = ap (λ v. (cond v p q) st (max seen (suc (suc st.at)))) miss

  pub has_hit : {A : Type 0} (f : ℕ → Bool) (g : Lexeme → A) (st : State) (seen : ℕ) → f (form (s st.at)) ≡ true → has s f g st seen ≡ Read (g (s st.at)) (past st) (max seen st.at)
  unfolding has
  has_hit f g st seen is = ap (λ v. cond v (Read (g (s st.at)) (past st) (max seen st.at)) (Fail (max seen st.at))) is

  pub pair_miss : {A : Type 0} (f : Lexeme → Lexeme → Bool) (p q : Parser A) (st : State) (seen : ℕ) → f (s st.at) (s (suc st.at)) ≡ false → choose_pair s f p q st seen ≡ q st (max seen (suc st.at))
  unfolding choose_pair
  pair_miss f p q st seen miss = ap (λ v. (cond v p q) st (max seen (suc st.at))) miss

  pub has_miss : {A : Type 0} (f : ℕ → Bool) (g : Lexeme → A) (st : State) (seen : ℕ) → f (form (s st.at)) ≡ false → has s f g st seen ≡ Fail (max seen st.at)
  unfolding has
  has_miss f g st seen miss = ap (λ v. cond v (Read (g (s st.at)) (past st) (max seen st.at)) (Fail (max seen st.at))) miss

  pub same_starts : {A : Type 0} {i j : ℕ} {h f : ℕ → Bool} {q q2 : (ℕ → Lexeme) → Parser A} → ((w : ℕ → Lexeme) (st : State) (seen : ℕ) → q2 w st seen ≡ q w st seen) → go.Starts s n i j h f q → go.Starts s n i j h f q2
  same_starts e starts st late = let b = starts st late in record {
    more = b.more;
    value = b.value;
    last = b.last;
    ends = b.ends;
    flows = b.flows;
    goes = λ w spells meets. let z = b.goes w spells meets in (z.0, λ k. subst (λ o. Gives o b.value b.last) (sym (e w st k)) (z.1 k));
  }

  -- a lexeme that is not the last, and what stands behind it
  pub has_inside : {A B : Type 0} {l m r : ℕ} {u : Bool} {from mid to : Side} (f : ℕ → Bool) (g : Lexeme → A) (y : A → Parser B) (x : A → (ℕ → Lexeme) → Parser B) (st : State) (seen : ℕ) → suc st.at < n → f (form (s st.at)) ≡ true
      → go.Tight s n mid.near (past st) (max seen st.at) → Sub mid.here from.next → Moves f l m → go.LivesAt s n m r u mid to (y (g (s st.at)) (past st) (max seen st.at)) (x (g (s st.at))) (past st)
      → go.LivesAt s n l r (true || u) from to (and_then (has s f g st seen) y) (λ w st seen. and_then (has w f g st seen) (λ a. x a w)) st
  has_inside {l = l} {r = r} {u = u} {from = from} {mid = mid} {to = to} f g y x st seen less is tight sub moves rest =
      subst (λ o. go.LivesAt s n l r (true || u) from to (and_then o y) (λ w st seen. and_then (has w f g st seen) (λ a. x a w)) st) (sym (has_hit f g st seen is))
      (go.lives_behind s n {mid = mid} x _ (step.had s n ends f g from mid st (max seen st.at) (omega arith) is tight sub moves) rest (λ late. absurd (omega arith)))

  -- a reader that is another, told otherwise
  pub same_live : {A : Type 0} {i j : ℕ} {floor : ℕ} {v : Bool} {from to : Side} {p p2 : Parser A} {q q2 : (ℕ → Lexeme) → Parser A} → ((st : State) (seen : ℕ) → p2 st seen ≡ p st seen)
      → ((w : ℕ → Lexeme) (st : State) (seen : ℕ) → q2 w st seen ≡ q w st seen) → go.Live s n i j floor v from to p q → go.Live s n i j floor v from to p2 q2
  same_live {i = i} {j = j} {v = v} {from = from} {to = to} {q2 = q2} e f h = record {
    lives = λ st seen above within tight. subst (λ o. go.LivesAt s n i j v from to o q2 st) (sym (e st seen)) (step.lives_through s n ends q2 st (omega arith) (λ l. l) (λ e. e) (h.lives st seen above within tight)
        (λ w agree fits. (fits, λ a c g k. subst (λ o. Gives o a c) (sym (f w st k)) (g k))));
    starts = same_starts f h.starts;
  }
