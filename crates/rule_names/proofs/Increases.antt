-- Numbers that rise: how often one stands among them, and lists that are joined or merged.
use Rattle.std.proofs.Common.{◌≡◌, ℕ, zero, suc, ◌+◌, ◌≤◌, ◌<◌, Bool, true, false, cond, refl, arith, List, [], ◌∷◌, ◌++◌, nat_lt}
use Rattle.std.specs.Prelude.{◌==◌}
use Rattle.std.proofs.lemmas.Bool.Decides.{nat_tests}
use Rattle.guard_syntax.specs.Sites.{upto, before_each, merge}
use Rattle.rule_names.specs.code.IncreasingSites.{Increasing, IsIncreasing}

-- how often a number stands in a list
abbrev pub times : ℕ → List ℕ → ℕ
times n [] = 0
times n (m ∷ ms) = cond (m == n) 1 0 + times n ms

pub times-append : (n : ℕ) (xs ys : List ℕ) → times n (xs ++ ys) ≡ times n xs + times n ys
times-append n [] ys = omega arith
times-append n (x ∷ xs) ys = let e = times-append n xs ys in omega arith

choose_times : (n k : ℕ) (v : Bool) (xs ys : List ℕ) → times n xs ≡ k → times n ys ≡ k → times n (cond v xs ys) ≡ k
choose_times n k true xs ys e f = e
choose_times n k false xs ys e f = f

times_each : (n a : ℕ) (others : List ℕ → List ℕ) (xs ys : List ℕ) → ((zs : List ℕ) → times n (others zs) ≡ times n xs + times n zs)
    → times n (before_each a others ys) ≡ times n (a ∷ xs) + times n ys
times_each n a others xs [] h = let e = h [] in omega arith
times_each n a others xs (b ∷ bs) h =
    let e = times_each n a others xs bs h in let f = h (b ∷ bs) in
    choose_times n (times n (a ∷ xs) + times n (b ∷ bs)) (nat_lt b a) (b ∷ before_each a others bs) (a ∷ others (b ∷ bs)) (omega arith) (omega arith)

pub times-merge : (n : ℕ) (xs ys : List ℕ) → times n (merge xs ys) ≡ times n xs + times n ys
times-merge n [] ys = omega arith
times-merge n (x ∷ xs) ys = times_each n x (merge xs) xs ys (λ zs. times-merge n xs zs)

-- ---- what rises

pub increasing_lower : (m n : ℕ) (xs : List ℕ) → m ≤ n → Increasing n xs → Increasing m xs
increasing_lower m n [] e h = tt
increasing_lower m n (x ∷ xs) e h = (omega arith, h.1)

pub rise : (n : ℕ) (xs : List ℕ) → Increasing n xs → IsIncreasing xs
rise n xs h = record { up = increasing_lower 0 n xs (omega arith) h }

-- the number after the last
abbrev pub past : ℕ → List ℕ → ℕ
past low [] = low
past low (x ∷ xs) = past (suc x) xs

pub past-more : (low : ℕ) (xs : List ℕ) → Increasing low xs → low ≤ past low xs
past-more low [] h = omega arith
past-more low (x ∷ xs) h = let e = past-more (suc x) xs h.1 in let f = h.0 in omega arith

pub front : (low : ℕ) (xs ys : List ℕ) → Increasing low (xs ++ ys) → Increasing low xs
front low [] ys h = tt
front low (x ∷ xs) ys h = (h.0, front (suc x) xs ys h.1)

pub back : (low : ℕ) (xs ys : List ℕ) → Increasing low (xs ++ ys) → Increasing (past low xs) ys
back low [] ys h = h
back low (x ∷ xs) ys h = back (suc x) xs ys h.1

other_number : (n x k : ℕ) → (x ≡ n → ⊥) → k ≡ 0 → cond (x == n) 1 0 + k ≡ 0
other_number n x k other e = grind (arith, nat_tests)

pub below-none : (n low : ℕ) (xs : List ℕ) → Increasing low xs → n < low → times n xs ≡ 0
below-none n low [] h e = refl
below-none n low (x ∷ xs) h e = let f = h.0 in other_number n x (times n xs) (λ (same : x ≡ n). omega arith) (below-none n (suc x) xs h.1 (omega arith))

pub past-none : (n low : ℕ) (xs : List ℕ) → Increasing low xs → past low xs ≤ n → times n xs ≡ 0
past-none n low [] h e = refl
past-none n low (x ∷ xs) h e =
    let f = past-more (suc x) xs h.1 in
    other_number n x (times n xs) (λ (same : x ≡ n). omega arith) (past-none n (suc x) xs h.1 e)

at_most_once : (n x k : ℕ) → k ≤ 1 → (x ≡ n → k ≡ 0) → cond (x == n) 1 0 + k ≤ 1
at_most_once n x k e h = grind (arith, nat_tests)

-- a number stands at most once among numbers that rise
pub once : (n low : ℕ) (xs : List ℕ) → Increasing low xs → times n xs ≤ 1
once n low [] h = omega arith
once n low (x ∷ xs) h = at_most_once n x (times n xs) (once n (suc x) xs h.1) (λ (same : x ≡ n). below-none n (suc x) xs h.1 (omega arith))

-- ---- merged

abbrev pub Both : ℕ → List ℕ → List ℕ → Type 0
Both low xs ys = Increasing low xs × Increasing low ys

both_of : (low : ℕ) (v : Bool) (us vs xs ys : List ℕ) → (Increasing low us → Both low xs ys) → (Increasing low vs → Both low xs ys) → Increasing low (cond v us vs) → Both low xs ys
both_of low true us vs xs ys f g h = f h
both_of low false us vs xs ys f g h = g h

apart_each : (a low : ℕ) (others : List ℕ → List ℕ) (xs ys : List ℕ) → ((k : ℕ) (zs : List ℕ) → Increasing k (others zs) → Both k xs zs)
    → Increasing low (before_each a others ys) → Both low (a ∷ xs) ys
apart_each a low others xs [] h r = ((r.0, (h (suc a) [] r.1).0), tt)
apart_each a low others xs (b ∷ bs) h r =
    both_of low (nat_lt b a) (b ∷ before_each a others bs) (a ∷ others (b ∷ bs)) (a ∷ xs) (b ∷ bs)
    (λ (q : Increasing low (b ∷ before_each a others bs)).
    let e = q.0 in let k = apart_each a (suc b) others xs bs h q.1 in
    (increasing_lower low (suc b) (a ∷ xs) (omega arith) k.0, (e, k.1)))
    (λ (q : Increasing low (a ∷ others (b ∷ bs))).
    let e = q.0 in let k = h (suc a) (b ∷ bs) q.1 in
    ((e, k.0), increasing_lower low (suc a) (b ∷ bs) (omega arith) k.1))
    r

-- what rises when merged rises by itself
pub apart : (low : ℕ) (xs ys : List ℕ) → Increasing low (merge xs ys) → Both low xs ys
apart low [] ys r = (tt, r)
apart low (x ∷ xs) ys r = apart_each x low (merge xs) xs ys (λ k zs h. apart k xs zs h) r

-- ---- all numbers from one on

pub upto-rises : (n k : ℕ) → Increasing n (upto n k)
upto-rises n zero = tt
upto-rises n (suc k) = (omega arith, upto-rises (suc n) k)

at_least_once : (n x k : ℕ) → (x < n → 1 ≤ k) → x ≤ n → 1 ≤ cond (x == n) 1 0 + k
at_least_once n x k h e = grind (arith, nat_tests)

pub upto-has : (i n k : ℕ) → n ≤ i → i < n + k → 1 ≤ times i (upto n k)
upto-has i n zero e f = absurd (omega arith)
upto-has i n (suc k) e f = at_least_once i n (times i (upto (suc n) k)) (λ (g : n < i). upto-has i (suc n) k (omega arith) (omega arith)) e

not_there : (n x k : ℕ) → k ≡ 0 → x < n → cond (x == n) 1 0 + k ≡ 0
not_there n x k e f = grind (arith, nat_tests)

-- and none behind them
pub upto-past : (i n k : ℕ) → n + k ≤ i → times i (upto n k) ≡ 0
upto-past i n zero e = refl
upto-past i n (suc k) e = not_there i n (times i (upto (suc n) k)) (upto-past i (suc n) k (omega arith)) (omega arith)
