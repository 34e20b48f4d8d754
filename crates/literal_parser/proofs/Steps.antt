-- What the readings of one lexeme and the choices by one say: of what is spelled, of what they give, and of other lexemes.
use Rattle.std.proofs.Common.{◌≡◌, ℕ, suc, ◌≤◌, Bool, true, false, cond, refl, ap, sym, ◌∙◌, subst, arith, max, length}
use Rattle.literal_parser.specs.Lexemes.{Lexeme}
use Rattle.literal_parser.specs.Forms.{form}
use Rattle.literal_parser.specs.States.{State, past, opened, ranged, Opens, Takes, Has}
use Rattle.literal_parser.specs.code.Parser.{Outcome, Read, Fail, Parser, One, and_then, note_range, opens, takes, has, choose, choose_pair, choose_next, choose_third}
use Rattle.literal_parser.proofs.Combine.{Holds, Sound, done, failed, holds_if, Gives, gives_if, horizon}

-- ---- what is read is spelled so

pub ranged_sound : (unlike : Bool) (place : ℕ) → Sound (note_range unlike place) (λ (_ : One) a b. b ≡ ranged unlike place a)
unfolding note_range
ranged_sound unlike place st seen = done refl

module _ (s : ℕ → Lexeme) where
  -- where each site has the number of those before it
  pub opens_sound : (number : ℕ → ℕ) → ((k : ℕ) → number k ≡ k) → Sound (opens s number) (Opens s)
  unfolding opens
  opens_sound number exact st seen = done (exact (length st.places), refl)

  took : (f : ℕ → Bool) (st : State) (seen : ℕ) (b : Bool) → f (form (s st.at)) ≡ b
      → Holds (cond b (Read tt (past st) (max seen st.at)) (Fail (max seen st.at))) (λ (_ : One) m. Takes s f st m)
  took f st seen true e = done (e, refl)
  took f st seen false e = failed

  pub takes_sound : (f : ℕ → Bool) → Sound (takes s f) (λ _. Takes s f)
  unfolding takes
  takes_sound f st seen = took f st seen (f (form (s st.at))) refl

  had : {A : Type 0} (f : ℕ → Bool) (g : Lexeme → A) (st : State) (seen : ℕ) (b : Bool) → f (form (s st.at)) ≡ b
      → Holds (cond b (Read (g (s st.at)) (past st) (max seen st.at)) (Fail (max seen st.at))) (λ v m. Has s f g v st m)
  had f g st seen true e = done (e, refl, refl)
  had f g st seen false e = failed

  pub has_sound : {A : Type 0} (f : ℕ → Bool) (g : Lexeme → A) → Sound (has s f g) (Has s f g)
  unfolding has
  has_sound f g st seen = had f g st seen (f (form (s st.at))) refl

  pub choose_sound : {A : Type 0} {T : A → State → Type 0} (f : ℕ → Bool) (p q : Parser A) (st : State) (seen : ℕ)
      → (f (form (s st.at)) ≡ true → Holds (p st (max seen st.at)) T) → (f (form (s st.at)) ≡ false → Holds (q st (max seen st.at)) T) → Holds (choose s f p q st seen) T
  unfolding choose
  choose_sound f p q st seen h k = holds_if p q st _ (f (form (s st.at))) h k

  pub pair_sound : {A : Type 0} {T : A → State → Type 0} (f : Lexeme → Lexeme → Bool) (p q : Parser A) (st : State) (seen : ℕ)
      → (f (s st.at) (s (suc st.at)) ≡ true → Holds (p st (max seen (suc st.at))) T) → (f (s st.at) (s (suc st.at)) ≡ false → Holds (q st (max seen (suc st.at))) T)
      → Holds (choose_pair s f p q st seen) T
  unfolding choose_pair
  pair_sound f p q st seen h k = holds_if p q st _ (f (s st.at) (s (suc st.at))) h k

  pub next_sound : {A : Type 0} {T : A → State → Type 0} (f : ℕ → Bool) (p q : Parser A) (st : State) (seen : ℕ)
      → (f (form (s (suc st.at))) ≡ true → Holds (p st (max seen (suc st.at))) T) → (f (form (s (suc st.at))) ≡ false → Holds (q st (max seen (suc st.at))) T)
      → Holds (choose_next s f p q st seen) T
  unfolding choose_next
  next_sound f p q st seen h k = holds_if p q st _ (f (form (s (suc st.at)))) h k

  pub third_sound : {A : Type 0} {T : A → State → Type 0} (f : ℕ → Bool) (p q : Parser A) (st : State) (seen : ℕ)
      → (f (form (s (suc (suc st.at)))) ≡ true → Holds (p st (max seen (suc (suc st.at)))) T)
      → (f (form (s (suc (suc st.at)))) ≡ false → Holds (q st (max seen (suc (suc st.at)))) T) → Holds (choose_third s f p q st seen) T
  unfolding choose_third
  third_sound f p q st seen h k = holds_if p q st _ (f (form (s (suc (suc st.at))))) h k

-- ---- what is spelled so is read so

pub place : {a b : State} → a ≡ b → a.at ≡ b.at
place e = ap (λ (z : State). z.at) e

pub here : {A : Type 0} {x : A} {a b : State} {seen : ℕ} → b ≡ a → Gives (Read x a seen) x b
here e = record { given = (refl, sym e) }

pub gives_ranged : (unlike : Bool) (at : ℕ) (a b : State) (seen : ℕ) → b ≡ ranged unlike at a → Gives (note_range unlike at a seen) tt b
unfolding note_range
gives_ranged unlike at a b seen e = here e

module _ (s : ℕ → Lexeme) where
  pub gives_opens : (number : ℕ → ℕ) → ((k : ℕ) → number k ≡ k) → (n : ℕ) (a b : State) (seen : ℕ) → Opens s n a b → Gives (opens s number a seen) n b
  unfolding opens
  gives_opens number exact n a b seen o = record { given = (exact (length a.places) ∙ sym o.0, sym o.1) }

  pub gives_takes : (f : ℕ → Bool) (a b : State) (seen : ℕ) → Takes s f a b → Gives (takes s f a seen) tt b
  unfolding takes
  gives_takes f a b seen e = subst (λ v. Gives (cond v (Read tt (past a) (max seen a.at)) (Fail (max seen a.at))) tt b) (sym e.0) (here e.1)

  pub gives_has : {A : Type 0} (f : ℕ → Bool) (g : Lexeme → A) (v : A) (a b : State) (seen : ℕ) → Has s f g v a b → Gives (has s f g a seen) v b
  unfolding has
  gives_has f g v a b seen e =
      subst (λ t. Gives (cond t (Read (g (s a.at)) (past a) (max seen a.at)) (Fail (max seen a.at))) v b) (sym e.0) (record { given = (sym e.1, sym e.2) })

  -- the choice is known
  pub by : {A : Type 0} {x : A} {b : State} (f : ℕ → Bool) (v : Bool) (p q : Parser A) (a : State) (seen : ℕ)
      → f (form (s a.at)) ≡ v → Gives ((cond v p q) a (max seen a.at)) x b → Gives (choose s f p q a seen) x b
  unfolding choose
  by f v p q a seen e h = gives_if p q a _ _ v e h

  pub by_pair : {A : Type 0} {x : A} {b : State} (f : Lexeme → Lexeme → Bool) (v : Bool) (p q : Parser A) (a : State) (seen : ℕ)
      → f (s a.at) (s (suc a.at)) ≡ v → Gives ((cond v p q) a (max seen (suc a.at))) x b → Gives (choose_pair s f p q a seen) x b
  unfolding choose_pair
  by_pair f v p q a seen e h = gives_if p q a _ _ v e h

  pub by_next : {A : Type 0} {x : A} {b : State} (f : ℕ → Bool) (v : Bool) (p q : Parser A) (a : State) (seen : ℕ)
      → f (form (s (suc a.at))) ≡ v → Gives ((cond v p q) a (max seen (suc a.at))) x b → Gives (choose_next s f p q a seen) x b
  unfolding choose_next
  by_next f v p q a seen e h = gives_if p q a _ _ v e h

  pub by_third : {A : Type 0} {x : A} {b : State} (f : ℕ → Bool) (v : Bool) (p q : Parser A) (a : State) (seen : ℕ)
      → f (form (s (suc (suc a.at)))) ≡ v → Gives ((cond v p q) a (max seen (suc (suc a.at)))) x b → Gives (choose_third s f p q a seen) x b
  unfolding choose_third
  by_third f v p q a seen e h = gives_if p q a _ _ v e h

-- ---- what is read depends on the lexemes that were looked at, and on no others

module _ (s w : ℕ → Lexeme) where
  abbrev pub Agree : ℕ → Type 0
  Agree h = (k : ℕ) → k ≤ h → w k ≡ s k

  pub less : (a b : ℕ) → a ≤ b → Agree b → Agree a
  less a b h agree k l = agree k (omega arith)

  -- the second outcome, of the lexemes w, is the first where the lexemes agree as far as was looked
  pub record Alike {A : Type 0} (from : ℕ) (r q : Outcome A) : Type 0 where
    pub grows : from ≤ horizon r
    pub same : Agree (horizon r) → q ≡ r

  pub stays : {A : Type 0} {from : ℕ} {r : Outcome A} → from ≤ horizon r → Alike from r r
  stays h = record { grows = h; same = λ _. refl }

  pub alike_then : {A B : Type 0} {from : ℕ} {r q : Outcome A} (f g : A → Parser B)
      → Alike from r q → ((a : A) (st : State) (seen : ℕ) → Alike seen (f a st seen) (g a st seen)) → Alike from (and_then r f) (and_then q g)
  alike_then {from = from} {r = Read a st seen} f g h k = record {
    grows = let one = h.grows in let two = (k a st seen).grows in omega arith;
    same = λ agree. ap (λ o. and_then o g) (h.same (less _ _ (k a st seen).grows agree)) ∙ (k a st seen).same agree;
  }
  alike_then {r = Fail seen} f g h k = record { grows = h.grows; same = λ agree. ap (λ o. and_then o g) (h.same agree) }

  pub alike_if : {A : Type 0} (b : Bool) (p q u v : Parser A) (st : State) (seen : ℕ)
      → Alike seen (p st seen) (u st seen) → Alike seen (q st seen) (v st seen) → Alike seen ((cond b p q) st seen) ((cond b u v) st seen)
  alike_if true p q u v st seen h k = h
  alike_if false p q u v st seen h k = k

  -- the second parser is the first, over the other lexemes
  abbrev pub Local : {A : Type 0} → Parser A → Parser A → Type 0
  Local p q = (st : State) (seen : ℕ) → Alike seen (p st seen) (q st seen)

  pub pure_local : {A : Type 0} (a : A) (st : State) (seen : ℕ) → Alike seen (Read a st seen) (Read a st seen)
  pure_local a st seen = stays (omega arith)

  pub stop_local : {A : Type 0} (seen : ℕ) → Alike {A = A} seen (Fail seen) (Fail seen)
  stop_local seen = stays (omega arith)

  pub ranged_local : (unlike : Bool) (at : ℕ) → Local (note_range unlike at) (note_range unlike at)
  unfolding note_range
  ranged_local unlike at st seen = stays (omega arith)

  one : {A : Type 0} (F : Lexeme → Outcome A) (at seen : ℕ) → ((x : Lexeme) → horizon (F x) ≡ max seen at) → Alike seen (F (s at)) (F (w at))
  one F at seen e = record {
    grows = let h = e (s at) in omega arith;
    same = λ agree. ap F (agree at (let h = e (s at) in omega arith));
  }

  either_way : {A : Type 0} (b : Bool) (a : A) (m : State) (n : ℕ) → horizon (cond b (Read a m n) (Fail n)) ≡ n
  either_way true a m n = refl
  either_way false a m n = refl

  pub opens_local : (g h : ℕ → ℕ) → g ≡ h → Local (opens s g) (opens w h)
  unfolding opens
  opens_local g h e st seen = subst (λ (k : ℕ → ℕ). Alike seen (opens s g st seen) (opens w k st seen)) e
      (one (λ x. Read (g (length st.places)) (opened x.from st) (max seen st.at)) st.at seen (λ x. refl))

  pub takes_local : (f : ℕ → Bool) → Local (takes s f) (takes w f)
  unfolding takes
  takes_local f st seen = one (λ x. cond (f (form x)) (Read tt (past st) (max seen st.at)) (Fail (max seen st.at))) st.at seen (λ x. either_way (f (form x)) tt (past st) _)

  pub has_local : {A : Type 0} (f : ℕ → Bool) (g : Lexeme → A) → Local (has s f g) (has w f g)
  unfolding has
  has_local f g st seen = one (λ x. cond (f (form x)) (Read (g x) (past st) (max seen st.at)) (Fail (max seen st.at))) st.at seen (λ x. either_way (f (form x)) (g x) (past st) _)

  -- the second parsers chosen by a test of lexemes that agree as far as this place
  chosen : {A : Type 0} (at : ℕ) (b d : Bool) (p q u v : Parser A) (st : State) (seen : ℕ) → (Agree at → d ≡ b)
      → Local p u → Local q v → Alike seen ((cond b p q) st (max seen at)) ((cond d u v) st (max seen at))
  chosen at b d p q u v st seen e h k =
      let whole = alike_if b p q u v st (max seen at) (h st _) (k st _) in
      record {
        grows = let g = whole.grows in omega arith;
        same = λ agree. ap (λ t. (cond t u v) st (max seen at)) (e (less at _ (let g = whole.grows in omega arith) agree)) ∙ whole.same agree;
      }

  pub choose_local : {A : Type 0} (f : ℕ → Bool) (p q u v : Parser A) → Local p u → Local q v → Local (choose s f p q) (choose w f u v)
  unfolding choose
  choose_local f p q u v h k st seen = chosen st.at _ _ p q u v st seen (λ agree. ap (λ x. f (form x)) (agree st.at (omega arith))) h k

  pub pair_local : {A : Type 0} (f : Lexeme → Lexeme → Bool) (p q u v : Parser A) → Local p u → Local q v → Local (choose_pair s f p q) (choose_pair w f u v)
  unfolding choose_pair
  pair_local f p q u v h k st seen = chosen (suc st.at) _ _ p q u v st seen
      (λ agree. ap (λ x. f x (w (suc st.at))) (agree st.at (omega arith)) ∙ ap (f (s st.at)) (agree (suc st.at) (omega arith))) h k

  pub next_local : {A : Type 0} (f : ℕ → Bool) (p q u v : Parser A) → Local p u → Local q v → Local (choose_next s f p q) (choose_next w f u v)
  unfolding choose_next
  next_local f p q u v h k st seen = chosen (suc st.at) _ _ p q u v st seen (λ agree. ap (λ x. f (form x)) (agree (suc st.at) (omega arith))) h k

  pub third_local : {A : Type 0} (f : ℕ → Bool) (p q u v : Parser A) → Local p u → Local q v → Local (choose_third s f p q) (choose_third w f u v)
  unfolding choose_third
  third_local f p q u v h k st seen = chosen (suc (suc st.at)) _ _ p q u v st seen (λ agree. ap (λ x. f (form x)) (agree (suc (suc st.at)) (omega arith))) h k
