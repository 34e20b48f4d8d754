-- The readings of one lexeme and the choices by one, two or three: what is read of them stays, and where they end at the end of the lexemes some lexemes
-- more let them go on.
use Rattle.std.proofs.Common.{◌≡◌, ◌⊎◌, inl, inr, ℕ, suc, ◌≤◌, ◌<◌, max, Bool, true, false, cond, ◌&&◌, ◌||◌, refl, sym, ap, ◌∙◌, subst, arith, [], ◌∷◌, length, true≢false, nat_eq}
use Rattle.std.proofs.lemmas.Bool.Decides.{nat_tests}
use Rattle.literal_parser.specs.Lexemes.{Lexeme, Word}
use Rattle.literal_parser.specs.Forms.{form, word_form, is_opening, is_closing}
use Rattle.literal_parser.specs.States.{State, past, opened, ranged}
use Rattle.literal_parser.specs.code.Parser.{Outcome, Read, Fail, Parser, and_then, note_range, opens, takes, has, choose, choose_pair, choose_next, choose_third}
use Rattle.literal_parser.proofs.Combine.{Gives, gives}
use Rattle.literal_parser.proofs.Apart.{apart, implied}
use Rattle.literal_parser.proofs.Steps.{gives_opens, gives_takes, gives_has, gives_ranged, by, by_next, by_pair, by_third}
use Rattle.literal_parser.proofs.GoOn as go
use Rattle.literal_parser.specs.Brackets.{open_before}
use Rattle.literal_parser.proofs.Levels.{Sub, Disjoint, is_bracket, Moves, MayOpen, stays_level, opens_none, goes_up, goes_down, closes_only, has_place, stands_next}
use Rattle.literal_parser.proofs.GoOn.{any, only, only_itself, sub_any, Side, clear, Passes, passes_first, passes_second, passes_from, max_least}

module _ (s : ℕ → Lexeme) (n : ℕ) (ends : form (s n) ≡ 0) where
  -- ---- where a lexeme stands

  -- a lexeme that passes a test that the end fails is before the end
  pub inside : (f : ℕ → Bool) (i : ℕ) → i ≤ n → f 0 ≡ false → f (form (s i)) ≡ true → i < n
  inside f i within never is = helper (nat_eq i n) refl where
    helper : (e : Bool) → nat_eq i n ≡ e → i < n
    helper true e = absurd (true≢false (sym is ∙ ap (λ j. f (form (s j))) (let same : i ≡ n = grind (arith, nat_tests) in same) ∙ ap f ends ∙ never))
    helper false e = grind (arith, nat_tests)

  -- the last test is known to fail
  pub at_end : (f : ℕ → Bool) (i : ℕ) → i ≡ n → f 0 ≡ false → f (form (s i)) ≡ false
  at_end f i e never = ap (λ j. f (form (s j))) e ∙ ap f ends ∙ never

  pub same_test : (f : ℕ → Bool) (w : ℕ → Lexeme) (i : ℕ) (v : Bool) → w i ≡ s i → f (form (s i)) ≡ v → f (form (w i)) ≡ v
  same_test f w i v e h = ap (λ x. f (form x)) e ∙ h

  -- ---- a reader that reads as another does

  module _ {A : Type 0} {l j m : ℕ} {v : Bool} {side from to : Side} where
    pub lives_through : {r : Outcome A} {p : (ℕ → Lexeme) → Parser A} {b : State} (q : (ℕ → Lexeme) → Parser A) (st : State) → st.at ≤ b.at → (st.at < n → b.at < n)
        → (open_before s st.at ≡ l → open_before s b.at ≡ j) → go.LivesAt s n j m v side to r p b
        → ((w : ℕ → Lexeme) → go.Agree s n w → go.Fits s n side w b → go.Fits s n from w st × ((a : A) (c : State) → ((k : ℕ) → Gives (p w b k) a c) → (k : ℕ) → Gives (q w st k) a c))
        → go.LivesAt s n l m v from to r q st
    lives_through {r = Read a c seen} {b = b} q st behind before move h reads = record {
      lives = let x = h.lives in record {
        within = x.within;
        grows = passes_from v st.at b.at c.at behind x.grows;
        tight = x.tight;
        level = λ e. x.level (move e);
        stays = λ w agree fits. let y = x.stays w agree fits in let z = reads w agree y.0 in (z.0, z.1 a c y.1);
      };
    }
    lives_through {r = Fail k} q st behind before move h reads = record {
      lives = λ far less. let m = h.lives far (before less) in record {
        more = m.more;
        value = m.value;
        last = m.last;
        ends = m.ends;
        flows = λ shallow e. m.flows shallow (move e);
        goes = λ w agree spells meets. let y = m.goes w agree spells meets in let z = reads w agree y.0 in (z.0, z.1 m.value m.last y.1);
      };
    }

  pub passes_of : {A : Type 0} {l m : ℕ} {v : Bool} (u : Bool) {from to : Side} {r : Outcome A} {q : (ℕ → Lexeme) → Parser A} {st : State}
      → ((b : State) → Passes v st.at b.at → Passes u st.at b.at) → go.LivesAt s n l m v from to r q st → go.LivesAt s n l m u from to r q st
  passes_of u {r = Read a b seen} less h = record {
    lives = let x = h.lives in record { within = x.within; grows = less b x.grows; tight = x.tight; level = x.level; stays = x.stays };
  }
  passes_of u {r = Fail k} less h = record { lives = h.lives }

  -- the same, where the other begins behind a lexeme
  pub lives_past : {A : Type 0} {l j m : ℕ} {v : Bool} {side from to : Side} {r : Outcome A} {p : (ℕ → Lexeme) → Parser A} {b : State} (q : (ℕ → Lexeme) → Parser A) (st : State) → st.at < b.at → b.at < n
      → (open_before s st.at ≡ l → open_before s b.at ≡ j) → go.LivesAt s n j m v side to r p b
      → ((w : ℕ → Lexeme) → go.Agree s n w → go.Fits s n side w b → go.Fits s n from w st × ((a : A) (c : State) → ((k : ℕ) → Gives (p w b k) a c) → (k : ℕ) → Gives (q w st k) a c))
      → go.LivesAt s n l m true from to r q st
  lives_past {v = v} {r = Read a c seen} {b = b} q st behind before move h reads = record {
    lives = let x = h.lives in record {
      within = x.within;
      grows = let l = go.passes_at_least v b.at c.at x.grows in omega arith;
      tight = x.tight;
      level = λ e. x.level (move e);
      stays = λ w agree fits. let y = x.stays w agree fits in let z = reads w agree y.0 in (z.0, z.1 a c y.1);
    };
  }
  lives_past {r = Fail k} q st behind before move h reads = record {
    lives = λ far less. let m = h.lives far before in record {
      more = m.more;
      value = m.value;
      last = m.last;
      ends = m.ends;
      flows = λ shallow e. m.flows shallow (move e);
      goes = λ w agree spells meets. let y = m.goes w agree spells meets in let z = reads w agree y.0 in (z.0, z.1 m.value m.last y.1);
    };
  }

  -- ---- one lexeme

  hangs_not : (f g : ℕ → Bool) (st : State) → Sub g f → f (form (s st.at)) ≡ false → g (form (s st.at)) ≡ true → ⊥
  hangs_not f g st sub miss hit = true≢false (sym (implied g f (s st.at) sub hit) ∙ miss)

  pub past_tight : (f g : ℕ → Bool) (st : State) (seen : ℕ) → st.at < n → go.Tight s n f st seen → go.Tight s n g (past st) (max seen st.at)
  past_tight f g st seen less t = λ k. helper (max_least n seen st.at k) where
    there : (st.at ≡ n) ⊎ go.Hangs s n f st → suc st.at ≡ n
    there (inl e) = absurd (omega arith)
    there (inr e) = e.0

    helper : (n ≤ seen) ⊎ (n ≤ st.at) → (suc st.at ≡ n) ⊎ go.Hangs s n g (past st)
    helper (inl l) = inl (there (t l))
    helper (inr l) = absurd (omega arith)

  pub had : {A : Type 0} {l m : ℕ} (f : ℕ → Bool) (g : Lexeme → A) (from to : Side) (st : State) (seen : ℕ) → st.at < n → f (form (s st.at)) ≡ true
      → go.Tight s n to.near (past st) seen → Sub to.here from.next → Moves f l m → go.Kept s n l m true from to (λ w. has w f g) st (g (s st.at)) (past st) seen
  had f g from to st seen less is tight sub moves = record {
    within = less;
    grows = omega arith;
    tight = tight;
    level = λ e. moves (s st.at) is (open_before s st.at) e;
    stays = λ w agree fits. (
      (λ e. absurd (omega arith), λ h. implied to.here from.next (w n) sub (fits.0 h.0).0),
      λ k. gives_has w f g (g (s st.at)) st (past st) k (same_test f w st.at true (agree st.at less) is, ap g (sym (agree st.at less)), refl),
    );
  }

  took : {l m : ℕ} (f : ℕ → Bool) (from to : Side) (st : State) (seen : ℕ) → st.at < n → f (form (s st.at)) ≡ true
      → go.Tight s n to.near (past st) seen → Sub to.here from.next → Moves f l m → go.Kept s n l m true from to (λ w. takes w f) st tt (past st) seen
  took f from to st seen less is tight sub moves = record {
    within = less;
    grows = omega arith;
    tight = tight;
    level = λ e. moves (s st.at) is (open_before s st.at) e;
    stays = λ w agree fits. (
      (λ e. absurd (omega arith), λ h. implied to.here from.next (w n) sub (fits.0 h.0).0),
      λ k. gives_takes w f st (past st) k (same_test f w st.at true (agree st.at less) is, refl),
    );
  }

  -- a lexeme that is known to pass
  pub had_at : {A : Type 0} {l m : ℕ} (f : ℕ → Bool) (g : Lexeme → A) (from to : Side) (st : State) (seen : ℕ) → st.at ≤ n → f 0 ≡ false → f (form (s st.at)) ≡ true
      → go.Tight s n to.near (past st) (max seen st.at) → Sub to.here from.next → Moves f l m → go.LivesAt s n l m true from to (has s f g st seen) (λ w. has w f g) st
  unfolding has
  had_at {A} {l} {m} f g from to st seen within never is tight sub moves =
      subst (λ v. go.LivesAt s n l m true from to (cond v (Read (g (s st.at)) (past st) (max seen st.at)) (Fail (max seen st.at))) (λ w. has w f g) st) (sym is)
      (record { lives = had f g from to st (max seen st.at) (inside f st.at within never is) is tight sub moves })

  pub took_at : {l m : ℕ} (f : ℕ → Bool) (from to : Side) (st : State) (seen : ℕ) → st.at ≤ n → f 0 ≡ false → f (form (s st.at)) ≡ true
      → go.Tight s n to.near (past st) (max seen st.at) → Sub to.here from.next → Moves f l m → go.LivesAt s n l m true from to (takes s f st seen) (λ w. takes w f) st
  unfolding takes
  took_at {l} {m} f from to st seen within never is tight sub moves =
      subst (λ v. go.LivesAt s n l m true from to (cond v (Read tt (past st) (max seen st.at)) (Fail (max seen st.at))) (λ w. takes w f) st) (sym is)
      (record { lives = took f from to st (max seen st.at) (inside f st.at within never is) is tight sub moves })

  -- nothing is read, and the end was not looked at
  pub failed : {A : Type 0} {l m : ℕ} (v : Bool) (from to : Side) (q : (ℕ → Lexeme) → Parser A) (st : State) (seen : ℕ) → ((st.at < n) → n ≤ seen → ⊥)
      → go.LivesAt s n l m v from to (Fail seen) q st
  failed v from to q st seen miss = record { lives = λ far less. absurd (miss less far) }

  pub not_far : (f g : ℕ → Bool) (st : State) (seen : ℕ) → go.Tight s n g st seen → Sub g f → f (form (s st.at)) ≡ false → st.at < n → n ≤ max seen st.at → ⊥
  not_far f g st seen tight sub miss less far = helper (max_least n seen st.at far) where
    there : (st.at ≡ n) ⊎ go.Hangs s n g st → ⊥
    there (inl e) = omega arith
    there (inr e) = hangs_not f g st sub miss e.1

    helper : (n ≤ seen) ⊎ (n ≤ st.at) → ⊥
    helper (inl l) = there (tight l)
    helper (inr l) = omega arith

  pub has_at : {A : Type 0} {l m : ℕ} (f : ℕ → Bool) (g : Lexeme → A) (from : Side) (here : ℕ → Bool) (st : State) (seen : ℕ) → st.at ≤ n → f 0 ≡ false
      → go.Tight s n from.near st seen → Sub from.near f → Sub here from.next → Moves f l m → go.LivesAt s n l m true from (clear here) (has s f g st seen) (λ w. has w f g) st
  unfolding has
  has_at {A} {l} {m} f g from here st seen within never tight near sub moves = helper (f (form (s st.at))) refl where
    helper : (v : Bool) → f (form (s st.at)) ≡ v
        → go.LivesAt s n l m true from (clear here) (cond v (Read (g (s st.at)) (past st) (max seen st.at)) (Fail (max seen st.at))) (λ w. has w f g) st
    helper true is = let less = inside f st.at within never is in
        record { lives = had f g from (clear here) st (max seen st.at) less is (past_tight from.near (λ x. false) st seen less tight) sub moves }
    helper false miss = failed true from (clear here) (λ w. has w f g) st _ (not_far f from.near st seen tight near miss)

  pub takes_at : {l m : ℕ} (f : ℕ → Bool) (from : Side) (here : ℕ → Bool) (st : State) (seen : ℕ) → st.at ≤ n → f 0 ≡ false
      → go.Tight s n from.near st seen → Sub from.near f → Sub here from.next → Moves f l m → go.LivesAt s n l m true from (clear here) (takes s f st seen) (λ w. takes w f) st
  unfolding takes
  takes_at {l} {m} f from here st seen within never tight near sub moves = helper (f (form (s st.at))) refl where
    helper : (v : Bool) → f (form (s st.at)) ≡ v
        → go.LivesAt s n l m true from (clear here) (cond v (Read tt (past st) (max seen st.at)) (Fail (max seen st.at))) (λ w. takes w f) st
    helper true is = let less = inside f st.at within never is in
        record { lives = took f from (clear here) st (max seen st.at) less is (past_tight from.near (λ x. false) st seen less tight) sub moves }
    helper false miss = failed true from (clear here) (λ w. takes w f) st _ (not_far f from.near st seen tight near miss)

  pub opens_at : {l : ℕ} (side : Side) (number : ℕ → ℕ) (others : (ℕ → Lexeme) → ℕ → ℕ) → ((k : ℕ) → number k ≡ k) → ((w : ℕ → Lexeme) (k : ℕ) → others w k ≡ k)
      → (st : State) (seen : ℕ) → st.at ≤ n → go.Tight s n side.near st seen → go.LivesAt s n l l false side side (opens s number st seen) (λ w. opens w (others w)) st
  unfolding opens
  opens_at side number others exact alike st seen within tight = record {
    lives = record {
      within = within;
      grows = omega arith;
      tight = go.tight_at s n side.near st seen within tight;
      level = λ e. e;
      stays = λ w agree fits. (fits, λ k. gives_opens w (others w) (alike w) _ st _ k (exact (length st.places), ap (λ p. opened p st) (sym (from w agree fits (nat_eq st.at n) refl))));
    };
  } where
    from : (w : ℕ → Lexeme) → go.Agree s n w → go.Fits s n side w st → (e : Bool) → nat_eq st.at n ≡ e → (w st.at).from ≡ (s st.at).from
    from w agree fits true e =
        let same : st.at ≡ n = grind (arith, nat_tests) in
        ap (λ i. (w i).from) same ∙ (fits.0 same).1 ∙ ap (λ i. (s i).from) (sym same)
    from w agree fits false e = ap (λ (x : Lexeme). x.from) (agree st.at (let l : st.at < n = grind (arith, nat_tests) in l))

  pub pure_at : {A : Type 0} {l : ℕ} (side : Side) (a : A) (st : State) (seen : ℕ) → st.at ≤ n → go.Tight s n side.near st seen
      → go.LivesAt s n l l false side side (Read a st seen) (λ w st seen. Read a st seen) st
  pure_at side a st seen within tight = record {
    lives = record { within = within; grows = omega arith; tight = tight; level = λ e. e; stays = λ w agree fits. (fits, λ k. gives) };
  }

  pub ranged_at : {l : ℕ} (side : Side) (unlike : Bool) (place : ℕ) (st : State) (seen : ℕ) → st.at ≤ n → go.Tight s n side.near st seen
      → go.LivesAt s n l l false side side (note_range unlike place st seen) (λ w. note_range unlike place) st
  unfolding note_range
  ranged_at side unlike place st seen within tight = record {
    lives = record { within = within; grows = omega arith; tight = tight; level = λ e. e; stays = λ w agree fits. (fits, λ k. gives) };
  }

  -- ---- choices

  pub fits_inside : (from : Side) (h : ℕ → Bool) (w : ℕ → Lexeme) (st : State) → st.at < n
      → go.Fits s n (record { near = from.near; next = from.next; here = h }) w st → go.Fits s n from w st
  fits_inside from h w st less fits = (λ e. absurd (omega arith), fits.1)

  pub choose_at : {A : Type 0} {l m : ℕ} {v u : Bool} {from to : Side} {h : ℕ → Bool} (f : ℕ → Bool) (p q : Parser A) (x y : (ℕ → Lexeme) → Parser A) (st : State) (seen : ℕ)
      → st.at ≤ n → f 0 ≡ false → Disjoint from.here f
      → (f (form (s st.at)) ≡ true → st.at < n → go.LivesAt s n l m v (record { near = from.near; next = from.next; here = h }) to (p st (max seen st.at)) x st)
      → (f (form (s st.at)) ≡ false → go.LivesAt s n l m u from to (q st (max seen st.at)) y st)
      → go.LivesAt s n l m (v && u) from to (choose s f p q st seen) (λ w. choose w f (x w) (y w)) st
  unfolding choose
  choose_at {A} {l} {m} {v} {u} {from} {to} {h} f p q x y st seen within never clears hit miss = helper (f (form (s st.at))) refl where
    helper : (e : Bool) → f (form (s st.at)) ≡ e → go.LivesAt s n l m (v && u) from to ((cond e p q) st (max seen st.at)) (λ w. choose w f (x w) (y w)) st
    helper true is = let less = inside f st.at within never is in
        passes_of (v && u) (λ b. passes_first v u st.at b.at) (lives_through (λ w. choose w f (x w) (y w)) st (omega arith) (λ l. l) (λ e. e) (hit is less)
        (λ w agree fits. (fits_inside from h w st less fits, λ a c g k. by w f true (x w) (y w) st k (same_test f w st.at true (agree st.at less) is) (g _))))
    helper false is = passes_of (v && u) (λ b. passes_second v u st.at b.at) (lives_through (λ w. choose w f (x w) (y w)) st (omega arith) (λ l. l) (λ e. e) (miss is)
        (λ w agree fits. (fits, λ a c g k. by w f false (x w) (y w) st k (other w agree fits (nat_eq st.at n) refl) (g _)))) where
          other : (w : ℕ → Lexeme) → go.Agree s n w → go.Fits s n from w st → (e : Bool) → nat_eq st.at n ≡ e → f (form (w st.at)) ≡ false
          other w agree fits true e = let same : st.at ≡ n = grind (arith, nat_tests) in
              ap (λ i. f (form (w i))) same ∙ apart from.here f (w n) clears (fits.0 same).0
          other w agree fits false e = same_test f w st.at false (agree st.at (let l : st.at < n = grind (arith, nat_tests) in l)) is

  -- a choice whose second reader takes a lexeme
  pub choose_strict_at : {A : Type 0} {l m : ℕ} {v : Bool} {from to : Side} {h g : ℕ → Bool} (f : ℕ → Bool) (p q : Parser A) (x y : (ℕ → Lexeme) → Parser A) (st : State) (seen : ℕ)
      → st.at ≤ n → f 0 ≡ false
      → (f (form (s st.at)) ≡ true → st.at < n → go.LivesAt s n l m v (record { near = from.near; next = from.next; here = h }) to (p st (max seen st.at)) x st)
      → (f (form (s st.at)) ≡ false → go.LivesAt s n l m true (record { near = from.near; next = from.next; here = g }) to (q st (max seen st.at)) y st)
      → go.LivesAt s n l m v from to (choose s f p q st seen) (λ w. choose w f (x w) (y w)) st
  unfolding choose
  choose_strict_at {A} {l} {m} {v} {from} {to} {h} {g} f p q x y st seen within never hit miss = helper (f (form (s st.at))) refl where
    weaker : (v : Bool) (a b : ℕ) → a < b → Passes v a b
    weaker true a b l = l
    weaker false a b l = omega arith

    inner : (r : Outcome A) → f (form (s st.at)) ≡ false → go.LivesAt s n l m true (record { near = from.near; next = from.next; here = g }) to r y st
        → go.LivesAt s n l m v from to r (λ w. choose w f (x w) (y w)) st
    inner (Read a b sn) is k = let i = k.lives in
        let less : st.at < n = let j = i.within in let l = i.grows in omega arith in record {
          lives = record {
            within = i.within;
            grows = weaker v st.at b.at i.grows;
            tight = i.tight;
            level = i.level;
            stays = λ w agree fits. let z = i.stays w agree fits in (
              fits_inside from g w st less z.0,
              λ k. by w f false (x w) (y w) st k (same_test f w st.at false (agree st.at less) is) (z.1 _),
            );
          };
        }
    inner (Fail e) is k = record {
      lives = λ far less. let m = k.lives far less in record {
        more = m.more;
        value = m.value;
        last = m.last;
        ends = m.ends;
        flows = m.flows;
        goes = λ w agree spells meets. let z = m.goes w agree spells meets in (
          fits_inside from g w st less z.0,
          λ k. by w f false (x w) (y w) st k (same_test f w st.at false (agree st.at less) is) (z.1 _),
        );
      };
    }

    helper : (e : Bool) → f (form (s st.at)) ≡ e → go.LivesAt s n l m v from to ((cond e p q) st (max seen st.at)) (λ w. choose w f (x w) (y w)) st
    helper true is = let less = inside f st.at within never is in
        lives_through (λ w. choose w f (x w) (y w)) st (omega arith) (λ l. l) (λ e. e) (hit is less)
        (λ w agree fits. (fits_inside from h w st less fits, λ a c g k. by w f true (x w) (y w) st k (same_test f w st.at true (agree st.at less) is) (g _)))
    helper false is = inner _ is (miss is)

  -- by the second lexeme or the third, which stands before the end
  pub next_at : {A : Type 0} {l m : ℕ} {v u : Bool} {from to : Side} (f : ℕ → Bool) (p q : Parser A) (x y : (ℕ → Lexeme) → Parser A) (st : State) (seen : ℕ) → suc st.at < n
      → (f (form (s (suc st.at))) ≡ true → go.LivesAt s n l m v from to (p st (max seen (suc st.at))) x st)
      → (f (form (s (suc st.at))) ≡ false → go.LivesAt s n l m u from to (q st (max seen (suc st.at))) y st)
      → go.LivesAt s n l m (v && u) from to (choose_next s f p q st seen) (λ w. choose_next w f (x w) (y w)) st
  unfolding choose_next
  next_at {A} {l} {m} {v} {u} {from} {to} f p q x y st seen less hit miss = helper (f (form (s (suc st.at)))) refl where
    helper : (e : Bool) → f (form (s (suc st.at))) ≡ e → go.LivesAt s n l m (v && u) from to ((cond e p q) st (max seen (suc st.at))) (λ w. choose_next w f (x w) (y w)) st
    helper true is = passes_of (v && u) (λ b. passes_first v u st.at b.at) (lives_through (λ w. choose_next w f (x w) (y w)) st (omega arith) (λ l. l) (λ e. e) (hit is)
        (λ w agree fits. (fits, λ a c g k. by_next w f true (x w) (y w) st k (same_test f w (suc st.at) true (agree (suc st.at) less) is) (g _))))
    helper false is = passes_of (v && u) (λ b. passes_second v u st.at b.at) (lives_through (λ w. choose_next w f (x w) (y w)) st (omega arith) (λ l. l) (λ e. e) (miss is)
        (λ w agree fits. (fits, λ a c g k. by_next w f false (x w) (y w) st k (same_test f w (suc st.at) false (agree (suc st.at) less) is) (g _))))

  pub third_at : {A : Type 0} {l m : ℕ} {v u : Bool} {from to : Side} (f : ℕ → Bool) (p q : Parser A) (x y : (ℕ → Lexeme) → Parser A) (st : State) (seen : ℕ) → suc (suc st.at) < n
      → (f (form (s (suc (suc st.at)))) ≡ true → go.LivesAt s n l m v from to (p st (max seen (suc (suc st.at)))) x st)
      → (f (form (s (suc (suc st.at)))) ≡ false → go.LivesAt s n l m u from to (q st (max seen (suc (suc st.at)))) y st)
      → go.LivesAt s n l m (v && u) from to (choose_third s f p q st seen) (λ w. choose_third w f (x w) (y w)) st
  unfolding choose_third
  third_at {A} {l} {m} {v} {u} {from} {to} f p q x y st seen less hit miss = helper (f (form (s (suc (suc st.at))))) refl where
    helper : (e : Bool) → f (form (s (suc (suc st.at)))) ≡ e → go.LivesAt s n l m (v && u) from to ((cond e p q) st (max seen (suc (suc st.at)))) (λ w. choose_third w f (x w) (y w)) st
    helper true is = passes_of (v && u) (λ b. passes_first v u st.at b.at) (lives_through (λ w. choose_third w f (x w) (y w)) st (omega arith) (λ l. l) (λ e. e) (hit is)
        (λ w agree fits. (fits, λ a c g k. by_third w f true (x w) (y w) st k (same_test f w (suc (suc st.at)) true (agree (suc (suc st.at)) less) is) (g _))))
    helper false is = passes_of (v && u) (λ b. passes_second v u st.at b.at) (lives_through (λ w. choose_third w f (x w) (y w)) st (omega arith) (λ l. l) (λ e. e) (miss is)
        (λ w agree fits. (fits, λ a c g k. by_third w f false (x w) (y w) st k (same_test f w (suc (suc st.at)) false (agree (suc (suc st.at)) less) is) (g _))))

  pub pair_at : {A : Type 0} {l m : ℕ} {v u : Bool} {from to : Side} (f : Lexeme → Lexeme → Bool) (p q : Parser A) (x y : (ℕ → Lexeme) → Parser A) (st : State) (seen : ℕ) → suc st.at < n
      → (f (s st.at) (s (suc st.at)) ≡ true → go.LivesAt s n l m v from to (p st (max seen (suc st.at))) x st)
      → (f (s st.at) (s (suc st.at)) ≡ false → go.LivesAt s n l m u from to (q st (max seen (suc st.at))) y st)
      → go.LivesAt s n l m (v && u) from to (choose_pair s f p q st seen) (λ w. choose_pair w f (x w) (y w)) st
  unfolding choose_pair
  pair_at {A} {l} {m} {v} {u} {from} {to} f p q x y st seen less hit miss = helper (f (s st.at) (s (suc st.at))) refl where
    same : (w : ℕ → Lexeme) → go.Agree s n w → (e : Bool) → f (s st.at) (s (suc st.at)) ≡ e → f (w st.at) (w (suc st.at)) ≡ e
    same w agree e is = ap (λ i. f i (w (suc st.at))) (agree st.at (omega arith)) ∙ ap (f (s st.at)) (agree (suc st.at) less) ∙ is

    helper : (e : Bool) → f (s st.at) (s (suc st.at)) ≡ e → go.LivesAt s n l m (v && u) from to ((cond e p q) st (max seen (suc st.at))) (λ w. choose_pair w f (x w) (y w)) st
    helper true is = passes_of (v && u) (λ b. passes_first v u st.at b.at) (lives_through (λ w. choose_pair w f (x w) (y w)) st (omega arith) (λ l. l) (λ e. e) (hit is)
        (λ w agree fits. (fits, λ a c g k. by_pair w f true (x w) (y w) st k (same w agree true is) (g _))))
    helper false is = passes_of (v && u) (λ b. passes_second v u st.at b.at) (lives_through (λ w. choose_pair w f (x w) (y w)) st (omega arith) (λ l. l) (λ e. e) (miss is)
        (λ w agree fits. (fits, λ a c g k. by_pair w f false (x w) (y w) st k (same w agree false is) (g _))))

  -- ---- lexemes behind the end

  abbrev pub made : Word → Lexeme
  made word = record { word = word; from = (s n).from; to = (s n).from }

  pub has_starts_by : {A : Type 0} {l m : ℕ} (f : ℕ → Bool) (g : Lexeme → A) (word : Word) (to : ℕ → Bool) → f (word_form word) ≡ true → Moves f l m → MayOpen f l → go.Starts s n l m (only word) to (λ w. has w f g)
  has_starts_by {l = l} {m = m} f g word to is moves may st late = record {
    more = made word ∷ [];
    value = g (made word);
    last = past st;
    ends = omega arith;
    flows = λ w spells stands. stands_next w f l m st.at moves may (ap (λ x. f (form x)) spells.0 ∙ is) stands;
    goes = λ w spells meets. (
      (ap (λ x. only word (form x)) spells.0 ∙ only_itself word, ap (λ (x : Lexeme). x.from) spells.0),
      λ k. gives_has w f g (g (made word)) st (past st) k (ap (λ x. f (form x)) spells.0 ∙ is, ap g (sym spells.0), refl),
    );
  }

  pub takes_starts_by : {l m : ℕ} (f : ℕ → Bool) (word : Word) (to : ℕ → Bool) → f (word_form word) ≡ true → Moves f l m → MayOpen f l → go.Starts s n l m (only word) to (λ w. takes w f)
  takes_starts_by {l = l} {m = m} f word to is moves may st late = record {
    more = made word ∷ [];
    value = tt;
    last = past st;
    ends = omega arith;
    flows = λ w spells stands. stands_next w f l m st.at moves may (ap (λ x. f (form x)) spells.0 ∙ is) stands;
    goes = λ w spells meets. (
      (ap (λ x. only word (form x)) spells.0 ∙ only_itself word, ap (λ (x : Lexeme). x.from) spells.0),
      λ k. gives_takes w f st (past st) k (ap (λ x. f (form x)) spells.0 ∙ is, refl),
    );
  }

  pub has_starts : {A : Type 0} {l : ℕ} (f : ℕ → Bool) (g : Lexeme → A) (word : Word) (to : ℕ → Bool) → f (word_form word) ≡ true → Disjoint f is_bracket → go.Starts s n l l (only word) to (λ w. has w f g)
  has_starts {l = l} f g word to is clears = has_starts_by f g word to is (stays_level f l clears) (opens_none f l clears)

  pub takes_starts : {l : ℕ} (f : ℕ → Bool) (word : Word) (to : ℕ → Bool) → f (word_form word) ≡ true → Disjoint f is_bracket → go.Starts s n l l (only word) to (λ w. takes w f)
  takes_starts {l = l} f word to is clears = takes_starts_by f word to is (stays_level f l clears) (opens_none f l clears)

  pub pure_starts : {A : Type 0} {l : ℕ} (a : A) (to : ℕ → Bool) → go.Starts s n l l to to (λ w st seen. Read a st seen)
  pure_starts a to st late = record {
    more = [];
    value = a;
    last = st;
    ends = omega arith;
    flows = λ w spells stands. stands;
    goes = λ w spells meets. (meets, λ k. gives);
  }

  pub opens_starts : {l : ℕ} (to : ℕ → Bool) (others : (ℕ → Lexeme) → ℕ → ℕ) → ((w : ℕ → Lexeme) (k : ℕ) → others w k ≡ k) → go.Starts s n l l to to (λ w. opens w (others w))
  opens_starts to others alike st late = record {
    more = [];
    value = length st.places;
    last = opened (s n).from st;
    ends = omega arith;
    flows = λ w spells stands. stands;
    goes = λ w spells meets. (meets, λ k. gives_opens w (others w) (alike w) _ st _ k (refl, ap (λ p. opened p st) (sym meets.1)));
  }

  pub ranged_starts : {l : ℕ} (unlike : Bool) (place : ℕ) (to : ℕ → Bool) → go.Starts s n l l to to (λ w. note_range unlike place)
  ranged_starts unlike place to st late = record {
    more = [];
    value = tt;
    last = ranged unlike place st;
    ends = omega arith;
    flows = λ w spells stands. stands;
    goes = λ w spells meets. (meets, λ k. gives_ranged unlike place st _ k refl);
  }

  -- by the second reader, where what it begins with does not pass; or by the first
  pub second_starts : {A : Type 0} {l m : ℕ} {h to : ℕ → Bool} (f : ℕ → Bool) (x y : (ℕ → Lexeme) → Parser A) → Disjoint h f → go.Starts s n l m h to y → go.Starts s n l m h to (λ w. choose w f (x w) (y w))
  second_starts {h = h} f x y clears starts st late = let b = starts st late in record {
    more = b.more;
    value = b.value;
    last = b.last;
    ends = b.ends;
    flows = b.flows;
    goes = λ w spells meets. let z = b.goes w spells meets in (z.0, λ k. by w f false (x w) (y w) st k (apart h f (w st.at) clears z.0.0) (z.1 _));
  }

  pub first_starts : {A : Type 0} {l m : ℕ} {h to : ℕ → Bool} (f : ℕ → Bool) (x y : (ℕ → Lexeme) → Parser A) → Sub h f → go.Starts s n l m h to x → go.Starts s n l m h to (λ w. choose w f (x w) (y w))
  first_starts {h = h} f x y sub starts st late = let b = starts st late in record {
    more = b.more;
    value = b.value;
    last = b.last;
    ends = b.ends;
    flows = b.flows;
    goes = λ w spells meets. let z = b.goes w spells meets in (z.0, λ k. by w f true (x w) (y w) st k (implied h f (w st.at) sub z.0.0) (z.1 _));
  }

  pub starts_so : {A : Type 0} {l m : ℕ} {h to : ℕ → Bool} (g : ℕ → Bool) {q : (ℕ → Lexeme) → Parser A} → Sub h g → go.Starts s n l m h to q → go.Starts s n l m g to q
  starts_so {h = h} g sub starts st late = let b = starts st late in record {
    more = b.more;
    value = b.value;
    last = b.last;
    ends = b.ends;
    flows = b.flows;
    goes = λ w spells meets. let z = b.goes w spells meets in (go.meets_so s n h g w st.at sub z.0, z.1);
  }

  pub then_starts : {A B : Type 0} {l m r : ℕ} {h f k to : ℕ → Bool} {q : (ℕ → Lexeme) → Parser A} {g : A → (ℕ → Lexeme) → Parser B} → go.Starts s n l m h f q → ((a : A) → go.Starts s n m r k to (g a)) → Sub k f
      → go.Starts s n l r h to (λ w st seen. and_then (q w st seen) (λ a. g a w))
  then_starts {f = f} {g = g} first second sub st late = go.starts_then s n g st (first st late) (λ a b after. starts_so f sub (second a) b after) late

  -- ---- readers whole

  abbrev pub behind : Bool → ℕ → ℕ
  behind v floor = cond v (suc floor) floor

  floor_behind : (v : Bool) (floor a b : ℕ) → floor ≤ a → Passes v a b → behind v floor ≤ b
  floor_behind true floor a b h k = omega arith
  floor_behind false floor a b h k = omega arith

  wide : {A : Type 0} {l m : ℕ} {v : Bool} {mid to : Side} {h : ℕ → Bool} {r : Outcome A} {q : (ℕ → Lexeme) → Parser A} {st : State} → Sub h mid.here
      → go.LivesAt s n l m v (record { near = mid.near; next = mid.next; here = h }) to r q st → go.LivesAt s n l m v mid to r q st
  wide {mid = mid} {h = h} {q = q} {st = st} sub x = lives_through q st (omega arith) (λ l. l) (λ e. e) x
      (λ w agree fits. ((λ e. go.meets_so s n h mid.here w n sub (fits.0 e), fits.1), λ a c g. g))

  -- the same, where nothing is said of how the first begins
  pub then_lives : {A B : Type 0} {l m r floor : ℕ} {v u : Bool} {from mid to : Side} {h : ℕ → Bool} {p : Parser A} {q : (ℕ → Lexeme) → Parser A} {f : A → Parser B} {g : A → (ℕ → Lexeme) → Parser B}
      → go.Lives s n l m floor v from mid p q → ((a : A) → go.Live s n m r (behind v floor) u (record { near = mid.near; next = mid.next; here = h }) to (f a) (g a)) → Sub h mid.here
      → go.Lives s n l r floor (v || u) from to (λ st seen. and_then (p st seen) f) (λ w st seen. and_then (q w st seen) (λ a. g a w))
  then_lives {floor = floor} {v = v} {mid = mid} {g = g} first second sub st seen above within tight = go.lives_then s n g (first st seen above within tight)
      (λ a b sn late grows near. wide {mid = mid} sub ((second a).lives b sn (floor_behind v floor st.at b.at above grows) late near))
      (λ a b late. starts_so mid.here sub (second a).starts b late)

  pub then : {A B : Type 0} {l m r floor : ℕ} {v u : Bool} {from mid to : Side} {h : ℕ → Bool} {p : Parser A} {q : (ℕ → Lexeme) → Parser A} {f : A → Parser B} {g : A → (ℕ → Lexeme) → Parser B}
      → go.Live s n l m floor v from mid p q → ((a : A) → go.Live s n m r (behind v floor) u (record { near = mid.near; next = mid.next; here = h }) to (f a) (g a)) → Sub h mid.here
      → go.Live s n l r floor (v || u) from to (λ st seen. and_then (p st seen) f) (λ w st seen. and_then (q w st seen) (λ a. g a w))
  then {floor = floor} {v = v} {from = from} {mid = mid} {to = to} {g = g} first second sub = record {
    lives = then_lives {floor = floor} {v = v} {from = from} {mid = mid} {to = to} {g = g} first.lives second sub;
    starts = λ st late. go.starts_then s n g st (first.starts st late) (λ a b after. starts_so mid.here sub (second a).starts b after) late;
  }

  pub takes_live : {l floor : ℕ} (f : ℕ → Bool) (word : Word) (to : ℕ → Bool) → f 0 ≡ false → f (word_form word) ≡ true → Disjoint f is_bracket
      → go.Live s n l l floor true (clear (only word)) (clear to) (takes s f) (λ w. takes w f)
  takes_live {l = l} f word to never is clears = record {
    lives = λ st seen above within tight. takes_at f (clear (only word)) to st seen within never tight refl (sub_any to) (stays_level f l clears);
    starts = takes_starts f word to is clears;
  }

  pub has_live : {A : Type 0} {l floor : ℕ} (f : ℕ → Bool) (g : Lexeme → A) (word : Word) (to : ℕ → Bool) → f 0 ≡ false → f (word_form word) ≡ true → Disjoint f is_bracket
      → go.Live s n l l floor true (clear (only word)) (clear to) (has s f g) (λ w. has w f g)
  has_live {l = l} f g word to never is clears = record {
    lives = λ st seen above within tight. has_at f g (clear (only word)) to st seen within never tight refl (sub_any to) (stays_level f l clears);
    starts = has_starts f g word to is clears;
  }

  -- a bracket that closes
  pub closes_live : {l floor : ℕ} (f : ℕ → Bool) (word : Word) (to : ℕ → Bool) → f 0 ≡ false → f (word_form word) ≡ true → Sub f is_closing
      → go.Live s n (suc l) l floor true (clear (only word)) (clear to) (takes s f) (λ w. takes w f)
  closes_live {l = l} f word to never is sub = record {
    lives = λ st seen above within tight. takes_at f (clear (only word)) to st seen within never tight refl (sub_any to) (goes_down f l sub);
    starts = takes_starts_by f word to is (goes_down f l sub) (closes_only f (suc l) sub);
  }

  pub has_closing : {A : Type 0} {l floor : ℕ} (f : ℕ → Bool) (g : Lexeme → A) (word : Word) (to : ℕ → Bool) → f 0 ≡ false → f (word_form word) ≡ true → Sub f is_closing
      → go.Live s n (suc l) l floor true (clear (only word)) (clear to) (has s f g) (λ w. has w f g)
  has_closing {l = l} f g word to never is sub = record {
    lives = λ st seen above within tight. has_at f g (clear (only word)) to st seen within never tight refl (sub_any to) (goes_down f l sub);
    starts = has_starts_by f g word to is (goes_down f l sub) (closes_only f (suc l) sub);
  }

  -- a bracket that opens, and how it begins where one may open
  pub up_lives : {l floor : ℕ} {h : ℕ → Bool} (f : ℕ → Bool) (to : ℕ → Bool) → f 0 ≡ false → Sub f is_opening → go.Lives s n l (suc l) floor true (clear h) (clear to) (takes s f) (λ w. takes w f)
  up_lives {l = l} {h = h} f to never sub st seen above within tight = takes_at f (clear h) to st seen within never tight refl (sub_any to) (goes_up f l sub)

  pub has_up_lives : {A : Type 0} {l floor : ℕ} {h : ℕ → Bool} (f : ℕ → Bool) (g : Lexeme → A) (to : ℕ → Bool) → f 0 ≡ false → Sub f is_opening
      → go.Lives s n l (suc l) floor true (clear h) (clear to) (has s f g) (λ w. has w f g)
  has_up_lives {l = l} {h = h} f g to never sub st seen above within tight = has_at f g (clear h) to st seen within never tight refl (sub_any to) (goes_up f l sub)

  pub up_live : {l floor : ℕ} (f : ℕ → Bool) (word : Word) (to : ℕ → Bool) → f 0 ≡ false → f (word_form word) ≡ true → Sub f is_opening → l < 128
      → go.Live s n l (suc l) floor true (clear (only word)) (clear to) (takes s f) (λ w. takes w f)
  up_live {l = l} {floor = floor} f word to never is sub place = record { lives = up_lives {floor = floor} f to never sub; starts = takes_starts_by f word to is (goes_up f l sub) (has_place f l place) }

  pub opens_live : {l floor : ℕ} {side : Side} (number : ℕ → ℕ) (others : (ℕ → Lexeme) → ℕ → ℕ) → ((k : ℕ) → number k ≡ k) → ((w : ℕ → Lexeme) (k : ℕ) → others w k ≡ k)
      → go.Live s n l l floor false side side (opens s number) (λ w. opens w (others w))
  opens_live {side = side} number others exact alike = record {
    lives = λ st seen above within tight. opens_at side number others exact alike st seen within tight;
    starts = opens_starts side.here others alike;
  }

  pub pure_live : {A : Type 0} {l floor : ℕ} {side : Side} (a : A) → go.Live s n l l floor false side side (λ st seen. Read a st seen) (λ w st seen. Read a st seen)
  pure_live {side = side} a = record { lives = λ st seen above within tight. pure_at side a st seen within tight; starts = pure_starts a side.here }

  pub ranged_live : {l floor : ℕ} {side : Side} (unlike : Bool) (place : ℕ) → go.Live s n l l floor false side side (note_range unlike place) (λ w. note_range unlike place)
  ranged_live {side = side} unlike place = record {
    lives = λ st seen above within tight. ranged_at side unlike place st seen within tight;
    starts = ranged_starts unlike place side.here;
  }

  -- a choice that is gone on with by its second reader, or by its first
  pub or_second_by : {A : Type 0} {l m floor : ℕ} {v u : Bool} {from to : Side} {h : ℕ → Bool} (f : ℕ → Bool) {p q : Parser A} {x y : (ℕ → Lexeme) → Parser A} → f 0 ≡ false → Disjoint from.here f
      → go.Lives s n l m floor v (record { near = from.near; next = from.next; here = h }) to p x → go.Live s n l m floor u from to q y
      → go.Live s n l m floor (v && u) from to (choose s f p q) (λ w. choose w f (x w) (y w))
  or_second_by {from = from} {h = h} f {p = p} {q = q} {x = x} {y = y} never clears one two = record {
    lives = λ st seen above within tight. choose_at {h = h} f p q x y st seen within never clears
        (λ is less. one st _ above within (go.tight_at s n from.near st seen within tight)) (λ is. two.lives st _ above within (go.tight_at s n from.near st seen within tight));
    starts = second_starts f x y clears two.starts;
  }

  pub or_second : {A : Type 0} {l m floor : ℕ} {v u : Bool} {from to : Side} {h : ℕ → Bool} (f : ℕ → Bool) {p q : Parser A} {x y : (ℕ → Lexeme) → Parser A} → f 0 ≡ false → Disjoint from.here f
      → go.Live s n l m floor v (record { near = from.near; next = from.next; here = h }) to p x → go.Live s n l m floor u from to q y
      → go.Live s n l m floor (v && u) from to (choose s f p q) (λ w. choose w f (x w) (y w))
  or_second {floor = floor} {v = v} {from = from} {h = h} f never clears one two = or_second_by {floor = floor} {v = v} {from = from} {h = h} f never clears one.lives two

  pub or_first : {A : Type 0} {l m : ℕ} {floor : ℕ} {v : Bool} {from to : Side} (k : ℕ → Bool) (f : ℕ → Bool) {p q : Parser A} {x y : (ℕ → Lexeme) → Parser A} → f 0 ≡ false → Sub from.here f
      → go.Live s n l m floor v from to p x
      → ((st : State) (seen : ℕ) → floor ≤ st.at → st.at ≤ n → go.Tight s n from.near st seen
      → go.LivesAt s n l m true (record { near = from.near; next = from.next; here = k }) to (q st seen) y st)
      → go.Live s n l m floor v from to (choose s f p q) (λ w. choose w f (x w) (y w))
  or_first {from = from} k f {p = p} {q = q} {x = x} {y = y} never sub one two = record {
    lives = λ st seen above within tight. choose_strict_at {h = from.here} {g = k} f p q x y st seen within never
        (λ is less. one.lives st _ above within (go.tight_at s n from.near st seen within tight)) (λ is. two st _ above within (go.tight_at s n from.near st seen within tight));
    starts = first_starts f x y sub one.starts;
  }

  -- the end was not looked at
  pub early : (st : State) (seen : ℕ) → st.at < n → go.Tight s n (λ x. false) st seen → n ≤ max seen st.at → ⊥
  early st seen less tight far = helper (max_least n seen st.at far) where
    there : (st.at ≡ n) ⊎ go.Hangs s n (λ x. false) st → ⊥
    there (inl e) = omega arith
    there (inr e) = true≢false (sym e.1)

    helper : (n ≤ seen) ⊎ (n ≤ st.at) → ⊥
    helper (inl l) = there (tight l)
    helper (inr l) = omega arith

  -- nothing is read, at once
  pub stop_at : {A : Type 0} {l m : ℕ} (v : Bool) (from to : Side) (q : (ℕ → Lexeme) → Parser A) (st : State) (seen : ℕ) → go.Tight s n (λ x. false) st seen → go.LivesAt s n l m v from to (Fail seen) q st
  stop_at v from to q st seen tight = failed v from to q st seen (λ less far. early st seen less tight (omega arith))
