-- Where a reading ends at the end of the lexemes, some lexemes more let it go on: what that says of a reader, and how it holds of a reader's parts
-- and so of the reader. The lexemes are those of s before a place n, and there they end.
use Rattle.std.proofs.Common.{◌≡◌, ◌⊎◌, inl, inr, ℕ, zero, suc, ◌≤◌, ◌<◌, ◌+◌, max, Bool, true, false, not, ◌&&◌, ◌||◌, refl, sym, ap, ◌∙◌, subst, arith, List, [], ◌∷◌, ◌++◌, length, nat_eq}
use Rattle.std.specs.Prelude.{◌==◌}
use Rattle.std.proofs.lemmas.Bool.Decides.{nat_tests}
use Rattle.std.proofs.lemmas.List.{length-append}
use Rattle.literal_parser.specs.Lexemes.{Lexeme, Word}
use Rattle.literal_parser.specs.Forms.{form, word_form}
use Rattle.literal_parser.specs.States.{State}
use Rattle.literal_parser.specs.code.Parser.{Outcome, Read, Fail, Parser, and_then, ◌>>=◌}
use Rattle.literal_parser.proofs.Combine.{Gives, gives_then}
use Rattle.literal_parser.specs.Brackets.{open_before, IsShallowTo}
use Rattle.literal_parser.proofs.Apart.{always, implied}
use Rattle.literal_parser.proofs.Levels.{Sub, Stands, stands_agreed}

-- ---- classes of forms

abbrev pub any : ℕ → Bool
any x = true

abbrev pub none : ℕ → Bool
none x = false

abbrev pub only : Word → ℕ → Bool
only word x = x == word_form word

-- what is asked of the lexeme behind the end, where a reader is there, and where it is one before and the last lexeme passes `near`
pub record Side : Type 0 where
  pub near : ℕ → Bool
  pub next : ℕ → Bool
  pub here : ℕ → Bool

abbrev pub clear : (ℕ → Bool) → Side
clear f = record { near = none; next = any; here = f }

abbrev pub Passes : Bool → ℕ → ℕ → Type 0
Passes true a b = a < b
Passes false a b = a ≤ b

pub passes_both : (v u : Bool) (a b c : ℕ) → Passes v a b → Passes u b c → Passes (v || u) a c
passes_both true true a b c h k = omega arith
passes_both true false a b c h k = omega arith
passes_both false true a b c h k = omega arith
passes_both false false a b c h k = omega arith

pub passes_first : (v u : Bool) (a b : ℕ) → Passes v a b → Passes (v && u) a b
passes_first true true a b h = h
passes_first true false a b h = omega arith
passes_first false u a b h = h

pub passes_second : (v u : Bool) (a b : ℕ) → Passes u a b → Passes (v && u) a b
passes_second true u a b h = h
passes_second false true a b h = omega arith
passes_second false false a b h = h

pub passes_from : (v : Bool) (a b c : ℕ) → a ≤ b → Passes v b c → Passes v a c
passes_from true a b c h k = omega arith
passes_from false a b c h k = omega arith

pub passes_at_least : (v : Bool) (a b : ℕ) → Passes v a b → a ≤ b
passes_at_least true a b h = omega arith
passes_at_least false a b h = h

pub same_number : (k : ℕ) (e : Bool) → nat_eq k k ≡ e → nat_eq k k ≡ true
same_number k true e = e
same_number k false e = grind (arith, nat_tests)

pub only_itself : (word : Word) → only word (word_form word) ≡ true
only_itself word = same_number (word_form word) (nat_eq (word_form word) (word_form word)) refl

or_true : (b : Bool) → (b || true) ≡ true
or_true true = refl
or_true false = refl

always_any : (f : ℕ → Bool) (k : ℕ) → always (λ x. not (f x) || any x) k ≡ true
always_any f zero = refl
always_any f (suc k) = ap (λ b. b && always (λ x. not (f x) || any x) k) (or_true (not (f k))) ∙ always_any f k

pub sub_any : (f : ℕ → Bool) → Sub f any
sub_any f = always_any f 64

or_itself : (b : Bool) → (not b || b) ≡ true
or_itself true = refl
or_itself false = refl

always_same : (f : ℕ → Bool) (k : ℕ) → always (λ x. not (f x) || f x) k ≡ true
always_same f zero = refl
always_same f (suc k) = ap (λ b. b && always (λ x. not (f x) || f x) k) (or_itself (f k)) ∙ always_same f k

pub sub_same : (f : ℕ → Bool) → Sub f f
sub_same f = always_same f 64

pub max_least : (n a b : ℕ) → n ≤ max a b → (n ≤ a) ⊎ (n ≤ b)
max_least n a b h = grind arith

module _ (s : ℕ → Lexeme) (n : ℕ) where
  -- lexemes that are those of s before the place
  abbrev pub Agree : (ℕ → Lexeme) → Type 0
  Agree w = (i : ℕ) → i < n → w i ≡ s i

  -- a lexeme passes a test, and begins where s ends
  abbrev pub Meets : (ℕ → Bool) → (ℕ → Lexeme) → ℕ → Type 0
  Meets f w i = (f (form (w i)) ≡ true) × ((w i).from ≡ (s n).from)

  abbrev pub Spells : (ℕ → Lexeme) → ℕ → List Lexeme → Type 0
  Spells w i [] = Unit {0}
  Spells w i (x ∷ xs) = (w i ≡ x) × Spells w (suc i) xs

  -- one lexeme is left, which passes a test
  abbrev pub Hangs : (ℕ → Bool) → State → Type 0
  Hangs f st = (suc st.at ≡ n) × (f (form (s st.at)) ≡ true)

  -- a reader that is not at the end has not looked at it, unless such a lexeme is left
  abbrev pub Tight : (ℕ → Bool) → State → ℕ → Type 0
  Tight f st seen = n ≤ seen → (st.at ≡ n) ⊎ Hangs f st

  abbrev pub Fits : Side → (ℕ → Lexeme) → State → Type 0
  Fits side w st = (st.at ≡ n → Meets side.here w n) × (Hangs side.near st → side.next (form (w n)) ≡ true)

  -- what is read of s is read of all lexemes that are as s before the end, and fit behind it; from so many open brackets it leads to so many
  pub record Kept {A : Type 0} (l r : ℕ) (strict : Bool) (from to : Side) (q : (ℕ → Lexeme) → Parser A) (st : State) (a : A) (b : State) (seen : ℕ) : Type 0 where
    pub within : b.at ≤ n
    pub grows : Passes strict st.at b.at
    pub tight : Tight to.near b seen
    pub level : open_before s st.at ≡ l → open_before s b.at ≡ r
    pub stays : (w : ℕ → Lexeme) → Agree w → Fits to w b → Fits from w st × ((k : ℕ) → Gives (q w st k) a b)

  -- with these lexemes behind the end, and what fits behind them, something is read, and no bracket opens too deep
  pub record Mended {A : Type 0} (l r : ℕ) (from to : Side) (q : (ℕ → Lexeme) → Parser A) (st : State) : Type 0 where
    pub more : List Lexeme
    pub value : A
    pub last : State
    pub ends : last.at ≡ n + length more
    pub flows : IsShallowTo s n → open_before s st.at ≡ l → (w : ℕ → Lexeme) → Agree w → Spells w n more → Stands w r last.at
    pub goes : (w : ℕ → Lexeme) → Agree w → Spells w n more → Meets to.here w last.at → Fits from w st × ((k : ℕ) → Gives (q w st k) value last)

  abbrev pub Outlived : {A : Type 0} → (l r : ℕ) → Bool → Side → Side → ((ℕ → Lexeme) → Parser A) → State → Outcome A → Type 0
  Outlived l r strict from to q st (Read a b seen) = Kept l r strict from to q st a b seen
  Outlived l r strict from to q st (Fail k) = n ≤ k → st.at < n → Mended l r from to q st

  -- what was read of s stays so; where nothing was read and the end was looked at, some lexemes more let the reader read
  pub record LivesAt {A : Type 0} (l m : ℕ) (strict : Bool) (from to : Side) (r : Outcome A) (q : (ℕ → Lexeme) → Parser A) (st : State) : Type 0 where
    pub lives : Outlived l m strict from to q st r

  -- from the end on, some lexemes let the reader read, and no bracket opens too deep
  pub record Begun {A : Type 0} (l r : ℕ) (h f : ℕ → Bool) (q : (ℕ → Lexeme) → Parser A) (st : State) : Type 0 where
    pub more : List Lexeme
    pub value : A
    pub last : State
    pub ends : last.at ≡ st.at + length more
    pub flows : (w : ℕ → Lexeme) → Spells w st.at more → Stands w l st.at → Stands w r last.at
    pub goes : (w : ℕ → Lexeme) → Spells w st.at more → Meets f w last.at → Meets h w st.at × ((k : ℕ) → Gives (q w st k) value last)

  abbrev pub Starts : {A : Type 0} → (l r : ℕ) → (ℕ → Bool) → (ℕ → Bool) → ((ℕ → Lexeme) → Parser A) → Type 0
  Starts l r h f q = (st : State) → n ≤ st.at → Begun l r h f q st

  -- so from a place on: whatever was read before
  abbrev pub Lives : {A : Type 0} → (l r floor : ℕ) → Bool → Side → Side → Parser A → ((ℕ → Lexeme) → Parser A) → Type 0
  Lives l r floor strict from to p q = (st : State) (seen : ℕ) → floor ≤ st.at → st.at ≤ n → Tight from.near st seen → LivesAt l r strict from to (p st seen) q st

  pub record Live {A : Type 0} (l r floor : ℕ) (strict : Bool) (from to : Side) (p : Parser A) (q : (ℕ → Lexeme) → Parser A) : Type 0 where
    pub lives : Lives l r floor strict from to p q
    pub starts : Starts l r from.here to.here q

  -- ---- small facts

  spells_first : (w : ℕ → Lexeme) (i : ℕ) (xs ys : List Lexeme) → Spells w i (xs ++ ys) → Spells w i xs
  spells_first w i [] ys h = tt
  spells_first w i (x ∷ xs) ys h = (h.0, spells_first w (suc i) xs ys h.1)

  spells_second : (w : ℕ → Lexeme) (i : ℕ) (xs ys : List Lexeme) → Spells w i (xs ++ ys) → Spells w (i + length xs) ys
  spells_second w i [] ys h = subst (λ j. Spells w j ys) (let e : i ≡ i + 0 = omega arith in e) h
  spells_second w i (x ∷ xs) ys h = subst (λ j. Spells w j ys) (let e : suc i + length xs ≡ i + suc (length xs) = omega arith in e) (spells_second w (suc i) xs ys h.1)

  pub meets_so : (f g : ℕ → Bool) (w : ℕ → Lexeme) (i : ℕ) → Sub f g → Meets f w i → Meets g w i
  meets_so f g w i sub m = (implied f g (w i) sub m.0, m.1)

  pub tight_at : (f : ℕ → Bool) (st : State) (seen : ℕ) → st.at ≤ n → Tight f st seen → Tight f st (max seen st.at)
  tight_at f st seen h t = λ k. helper (max_least n seen st.at k) where
    helper : (n ≤ seen) ⊎ (n ≤ st.at) → (st.at ≡ n) ⊎ Hangs f st
    helper (inl l) = t l
    helper (inr l) = inl (omega arith)

  pub tight_next : (st : State) (seen : ℕ) → suc st.at < n → (f : ℕ → Bool) → Tight f st seen → Tight none st (max seen (suc st.at))
  tight_next st seen h f t = λ k. helper (max_least n seen (suc st.at) k) where
    late : (st.at ≡ n) ⊎ Hangs f st → ⊥
    late (inl e) = omega arith
    late (inr e) = let l = e.0 in omega arith

    helper : (n ≤ seen) ⊎ (n ≤ suc st.at) → (st.at ≡ n) ⊎ Hangs none st
    helper (inl l) = absurd (late (t l))
    helper (inr l) = absurd (omega arith)

  pub tight_third : (st : State) (seen : ℕ) → suc (suc st.at) < n → (f : ℕ → Bool) → Tight f st seen → Tight none st (max seen (suc (suc st.at)))
  tight_third st seen h f t = λ k. helper (max_least n seen (suc (suc st.at)) k) where
    late : (st.at ≡ n) ⊎ Hangs f st → ⊥
    late (inl e) = omega arith
    late (inr e) = let l = e.0 in omega arith

    helper : (n ≤ seen) ⊎ (n ≤ suc (suc st.at)) → (st.at ≡ n) ⊎ Hangs none st
    helper (inl l) = absurd (late (t l))
    helper (inr l) = absurd (omega arith)

  -- ---- one reader behind the other

  pub mended_behind : {A B : Type 0} {l m r : ℕ} {v : Bool} {from mid to : Side} {q : (ℕ → Lexeme) → Parser A} (g : A → (ℕ → Lexeme) → Parser B) {st : State} {a : A} {b : State} {seen : ℕ}
      → Kept l m v from mid q st a b seen → b.at ≡ n → Begun m r mid.here to.here (g a) b → Mended l r from to (λ w. q w >>= (λ x. g x w)) st
  mended_behind {m = m} {mid = mid} {to = to} g {a = a} {b = b} kept e begun = record {
    more = begun.more;
    value = begun.value;
    last = begun.last;
    ends = let l = begun.ends in omega arith;
    flows = λ shallow level w agree spells. begun.flows w (subst (λ i. Spells w i begun.more) (sym e) spells) (stands_agreed s w n agree m b.at kept.within shallow (kept.level level));
    goes = λ w agree spells meets.
        let y = begun.goes w (subst (λ i. Spells w i begun.more) (sym e) spells) meets in
        let x = kept.stays w agree (λ l. subst (λ i. Meets mid.here w i) e y.0, λ l. absurd (let one = l.0 in omega arith)) in
        (x.0, λ k. gives_then _ (x.1 k) (λ sn. y.1 sn));
  }

  pub lives_behind : {A B : Type 0} {l m r : ℕ} {v u : Bool} {from mid to : Side} {q : (ℕ → Lexeme) → Parser A} (g : A → (ℕ → Lexeme) → Parser B) {st : State} {a : A} {b : State} {seen : ℕ} (o : Outcome B)
      → Kept l m v from mid q st a b seen → LivesAt m r u mid to o (g a) b → (n ≤ b.at → Begun m r mid.here to.here (g a) b) → LivesAt l r (v || u) from to o (λ w. q w >>= (λ x. g x w)) st
  lives_behind {v = v} {u = u} g {st = st} {b = b} (Read c d seen) kept h begun = record {
    lives = let x = h.lives in record {
      within = x.within;
      grows = passes_both v u st.at b.at d.at kept.grows x.grows;
      tight = x.tight;
      level = λ e. x.level (kept.level e);
      stays = λ w agree fits. let z = x.stays w agree fits in let y = kept.stays w agree z.0 in (y.0, λ k. gives_then _ (y.1 k) (λ sn. z.1 sn));
    };
  }
  lives_behind {l = l} {r = r} {from = from} {to = to} {q = q} g {st = st} {b = b} (Fail k) kept h begun = record { lives = λ far inside. helper far (nat_eq b.at n) refl } where
    helper : n ≤ k → (e : Bool) → nat_eq b.at n ≡ e → Mended l r from to (λ w. q w >>= (λ x. g x w)) st
    helper far true e = mended_behind g kept (let same : b.at ≡ n = grind (arith, nat_tests) in same) (begun (let same : n ≤ b.at = grind (arith, nat_tests) in same))
    helper far false e = let before : b.at < n = let x = kept.within in grind (arith, nat_tests) in let m = h.lives far before in record {
      more = m.more;
      value = m.value;
      last = m.last;
      ends = m.ends;
      flows = λ shallow level. m.flows shallow (kept.level level);
      goes = λ w agree spells meets. let z = m.goes w agree spells meets in let y = kept.stays w agree z.0 in (y.0, λ i. gives_then _ (y.1 i) (λ sn. z.1 sn));
    }

  pub lives_then : {A B : Type 0} {l m r : ℕ} {v u : Bool} {from mid to : Side} {o : Outcome A} {q : (ℕ → Lexeme) → Parser A} {f : A → Parser B} (g : A → (ℕ → Lexeme) → Parser B) {st : State}
      → LivesAt l m v from mid o q st
      → ((a : A) (b : State) (seen : ℕ) → b.at ≤ n → Passes v st.at b.at → Tight mid.near b seen → LivesAt m r u mid to (f a b seen) (g a) b)
      → ((a : A) (b : State) → n ≤ b.at → Begun m r mid.here to.here (g a) b)
      → LivesAt l r (v || u) from to (and_then o f) (λ w. q w >>= (λ x. g x w)) st
  lives_then {o = Read a b seen} g h k begun = let x = h.lives in lives_behind g _ x (k a b seen x.within x.grows x.tight) (begun a b)
  lives_then {mid = mid} {o = Fail seen} g h k begin = record {
    lives = λ far inside. let m = h.lives far inside in
        let begun = begin m.value m.last (let l = m.ends in omega arith) in record {
          more = m.more ++ begun.more;
          value = begun.value;
          last = begun.last;
          ends = let x = m.ends in let y = begun.ends in omega (arith, length-append m.more begun.more);
          flows = λ shallow level w agree spells. begun.flows w (subst (λ i. Spells w i begun.more) (sym m.ends) (spells_second w n m.more begun.more spells))
              (m.flows shallow level w agree (spells_first w n m.more begun.more spells));
          goes = λ w agree spells meets.
              let y = begun.goes w (subst (λ i. Spells w i begun.more) (sym m.ends) (spells_second w n m.more begun.more spells)) meets in
              let x = m.goes w agree (spells_first w n m.more begun.more spells) y.0 in
              (x.0, λ i. gives_then _ (x.1 i) (λ sn. y.1 sn));
        };
  }

  pub starts_then : {A B : Type 0} {l m r : ℕ} {h f to : ℕ → Bool} {q : (ℕ → Lexeme) → Parser A} (g : A → (ℕ → Lexeme) → Parser B) (st : State)
      → Begun l m h f q st → ((a : A) (b : State) → n ≤ b.at → Begun m r f to (g a) b) → n ≤ st.at → Begun l r h to (λ w. q w >>= (λ x. g x w)) st
  starts_then g st first second late =
      let begun = second first.value first.last (let l = first.ends in omega arith) in record {
        more = first.more ++ begun.more;
        value = begun.value;
        last = begun.last;
        ends = let x = first.ends in let y = begun.ends in omega (arith, length-append first.more begun.more);
        flows = λ w spells stands. begun.flows w (subst (λ i. Spells w i begun.more) (sym first.ends) (spells_second w st.at first.more begun.more spells))
            (first.flows w (spells_first w st.at first.more begun.more spells) stands);
        goes = λ w spells meets.
            let y = begun.goes w (subst (λ i. Spells w i begun.more) (sym first.ends) (spells_second w st.at first.more begun.more spells)) meets in
            let x = first.goes w (spells_first w st.at first.more begun.more spells) y.0 in
            (x.0, λ i. gives_then _ (x.1 i) (λ sn. y.1 sn));
      }
