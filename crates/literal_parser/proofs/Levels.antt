-- How many brackets are open behind a lexeme that passes a test.
use Rattle.std.proofs.Common.{◌≡◌, ℕ, zero, suc, pred, ◌<◌, ◌≤◌, Bool, true, false, cond, not, ◌&&◌, ◌||◌, refl, ap, sym, ◌∙◌, subst, arith, nat_eq, true≢false}
use Rattle.std.proofs.lemmas.Bool.Decides.{nat_tests}
use Rattle.literal_parser.specs.Lexemes.{Lexeme}
use Rattle.literal_parser.specs.Forms.{form, is_opening, is_closing}
use Rattle.literal_parser.specs.Brackets.{open_behind, open_before, IsShallowTo}
use Rattle.literal_parser.proofs.Apart.{always, apart, implied}

-- a lexeme that passes f passes g; and none passes both: the proofs are `refl`
abbrev pub Sub : (ℕ → Bool) → (ℕ → Bool) → Type 0
Sub f g = always (λ x. not (f x) || g x) 64 ≡ true

abbrev pub Disjoint : (ℕ → Bool) → (ℕ → Bool) → Type 0
Disjoint f g = always (λ x. not (f x && g x)) 64 ≡ true

abbrev pub is_bracket : ℕ → Bool
is_bracket n = is_opening n || is_closing n

-- a lexeme that passes a test takes the number of open brackets from one number to another
abbrev pub Moves : (ℕ → Bool) → ℕ → ℕ → Type 0
Moves f l r = (x : Lexeme) → f (form x) ≡ true → (k : ℕ) → k ≡ l → open_behind (form x) k ≡ r

-- where it opens a bracket one may open
abbrev pub MayOpen : (ℕ → Bool) → ℕ → Type 0
MayOpen f l = (x : Lexeme) → f (form x) ≡ true → is_opening (form x) ≡ true → l < 128

first_false : (a b : Bool) → (a || b) ≡ false → a ≡ false
first_false true b e = e
first_false false b e = refl

second_false : (a b : Bool) → (a || b) ≡ false → b ≡ false
second_false true b e = absurd (true≢false e)
second_false false b e = e

counted : (x : Lexeme) (k : ℕ) (v w : Bool) → is_opening (form x) ≡ v → is_closing (form x) ≡ w → open_behind (form x) k ≡ cond v (suc k) (cond w (pred k) k)
counted x k v w e f = ap (λ b. cond b (suc k) (cond (is_closing (form x)) (pred k) k)) e ∙ ap (λ b. cond v (suc k) (cond b (pred k) k)) f

-- no bracket; a bracket that opens; one that closes. The first premise of each is `refl`
pub stays_level : (f : ℕ → Bool) (l : ℕ) → Disjoint f is_bracket → Moves f l l
stays_level f l clears x is k e =
    let none = apart f is_bracket x clears is in
    counted x k false false (first_false (is_opening (form x)) (is_closing (form x)) none) (second_false (is_opening (form x)) (is_closing (form x)) none) ∙ e

pub opens_none : (f : ℕ → Bool) (l : ℕ) → Disjoint f is_bracket → MayOpen f l
opens_none f l clears x is opening = absurd (true≢false (sym opening ∙ first_false (is_opening (form x)) (is_closing (form x)) (apart f is_bracket x clears is)))

pub goes_up : (f : ℕ → Bool) (l : ℕ) → Sub f is_opening → Moves f l (suc l)
goes_up f l sub x is k e = ap (λ v. cond v (suc k) (cond (is_closing (form x)) (pred k) k)) (implied f is_opening x sub is) ∙ ap (λ i. suc i) e

pub goes_down : (f : ℕ → Bool) (l : ℕ) → Sub f is_closing → Moves f (suc l) l
goes_down f l sub x is k e = counted x k false true (apart is_closing is_opening x refl (implied f is_closing x sub is)) (implied f is_closing x sub is) ∙ ap (λ i. pred i) e

pub closes_only : (f : ℕ → Bool) (l : ℕ) → Sub f is_closing → MayOpen f l
closes_only f l sub x is opening = absurd (true≢false (sym opening ∙ apart is_closing is_opening x refl (implied f is_closing x sub is)))

pub has_place : (f : ℕ → Bool) (l : ℕ) → l < 128 → MayOpen f l
has_place f l room x is opening = room

module _ (w : ℕ → Lexeme) where
  -- no bracket opens too deep before a place, and so many are open there
  abbrev pub Stands : ℕ → ℕ → Type 0
  Stands l i = IsShallowTo w i × (open_before w i ≡ l)

  shallow_here : (i j : ℕ) (v : Bool) → nat_eq i j ≡ v → IsShallowTo w i → (is_opening (form (w i)) ≡ true → open_before w i < 128) → j < suc i
      → is_opening (form (w j)) ≡ true → open_before w j < 128
  shallow_here i j true same before here less opening =
      let e : i ≡ j = grind (arith, nat_tests) in subst (λ k. is_opening (form (w k)) ≡ true → open_before w k < 128) e here opening
  shallow_here i j false same before here less opening = before j (grind (arith, nat_tests)) opening

  pub shallow_next : (i : ℕ) → IsShallowTo w i → (is_opening (form (w i)) ≡ true → open_before w i < 128) → IsShallowTo w (suc i)
  shallow_next i before here = λ j less opening. shallow_here i j (nat_eq i j) refl before here less opening

  -- one lexeme further
  pub stands_next : (f : ℕ → Bool) (l r i : ℕ) → Moves f l r → MayOpen f l → f (form (w i)) ≡ true → Stands l i → Stands r (suc i)
  stands_next f l r i moves may is st = (
    shallow_next i st.0 (λ opening. subst (λ k. k < 128) (sym st.1) (may (w i) is opening)),
    moves (w i) is (open_before w i) st.1,
  )

  pub stands_at : (l i j : ℕ) → i ≡ j → Stands l i → Stands l j
  stands_at l i j e st = subst (λ k. Stands l k) e st

module _ (s w : ℕ → Lexeme) (n : ℕ) (agree : (i : ℕ) → i < n → w i ≡ s i) where
  open_agrees : (i : ℕ) → i ≤ n → open_before w i ≡ open_before s i
  open_agrees zero less = refl
  open_agrees (suc i) less = ap (λ k. open_behind (form (w i)) k) (open_agrees i (omega arith)) ∙ ap (λ (x : Lexeme). open_behind (form x) (open_before s i)) (agree i (omega arith))

  -- what stands so in lexemes stands so in those that agree with them
  pub stands_agreed : (l i : ℕ) → i ≤ n → IsShallowTo s n → open_before s i ≡ l → Stands w l i
  stands_agreed l i less shallow e = (
    λ j before opening. subst (λ k. k < 128) (sym (open_agrees j (omega arith))) (shallow j (omega arith) (ap (λ (x : Lexeme). is_opening (form x)) (sym (agree j (omega arith))) ∙ opening)),
    open_agrees i less ∙ e,
  )
