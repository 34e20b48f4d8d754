-- Where the header of a block scalar fails, it fails in each text that agrees so far.
use Rattle.std.proofs.Common.{◌≡◌, ℕ, suc, ◌+◌, ◌-◌, ◌<◌, ◌≤◌, Bool, true, false, List, [], ◌∷◌, ◌++◌, length, refl, sym, ap, inl, inr, ◌∙◌, arith, cond, Option, Some, None, subst}
use Rattle.std.specs.Prelude.{nat_eq, ◌||◌, ◌&&◌}
use Rattle.yaml_scalars.specs.Lines.{is_white, ends_with}
use Rattle.yaml_scalars.specs.Block.{is_digit, header, header_fault, return_behind}
use Rattle.yaml_laws.proofs.Agree.{SameAhead}

pub cases : {A : Type 0} (q : Bool) → (q ≡ true → A) → (q ≡ false → A) → A
cases true f g = f refl
cases false f g = g refl

-- no fault shows before a place
abbrev pub IsLate : ℕ → Option ℕ → Type 0
IsLate n None = Unit {0}
IsLate n (Some m) = n ≤ m

-- a search for a fault that finds it, if it lies in bytes in common, in all of them; within the bytes; and behind all of them only if they end in a carriage return, without which they have none
pub record Faults (F : ℕ → List ℕ → Option ℕ) : Type 0 where
  pub dead : (k : ℕ) (f x y : List ℕ) → SameAhead x y → F k (f ++ x) ≡ Some (k + length f) → (j : ℕ) × (F k (f ++ y) ≡ Some j)
  pub ranges : (k n : ℕ) (bs : List ℕ) → F k bs ≡ Some n → (k ≤ n) × (n ≤ k + length bs)
  pub ends : (k : ℕ) → F k [] ≡ None
  pub last : (k : ℕ) (f : List ℕ) → IsLate (k + length f + 1) (F k (f ++ (13 ∷ []))) → F k f ≡ None
  pub edge : (k : ℕ) (bs : List ℕ) → F k bs ≡ Some (k + length bs) → ends_with 13 bs ≡ true

-- carriage returns
pub return_ranges : (k n : ℕ) (bs : List ℕ) → return_behind k bs ≡ Some n → (k < n) × (n ≤ k + length bs)
return_ranges k n [] e = absurd (cc)
return_ranges k n (b ∷ bs) e = by_byte (nat_eq b 13) e (λ h. return_ranges (suc k) n bs h) where
  by_byte : (q : Bool) → cond q (Some (suc k)) (return_behind (suc k) bs) ≡ Some n → (return_behind (suc k) bs ≡ Some n → (suc k < n) × (n ≤ suc k + length bs)) → (k < n) × (n ≤ k + suc (length bs))
  by_byte true e r = let h : suc k ≡ n = cc in (omega (arith, h), omega (arith, h))
  by_byte false e r = let h = r e in (omega (arith, h.0), omega (arith, h.1))

pub return_dead : (k : ℕ) (f x y : List ℕ) → return_behind k (f ++ x) ≡ Some (k + length f) → (j : ℕ) × (return_behind k (f ++ y) ≡ Some j)
return_dead k [] x y e = let h = return_ranges k (k + 0) x e in absurd (omega (arith, h.0))
return_dead k (c ∷ f) x y e = by_byte (nat_eq c 13) e (λ h. return_dead (suc k) f x y h) where
  by_byte : (q : Bool) → cond q (Some (suc k)) (return_behind (suc k) (f ++ x)) ≡ Some (k + suc (length f)) → (return_behind (suc k) (f ++ x) ≡ Some (suc k + length f) → (j : ℕ) × (return_behind (suc k) (f ++ y) ≡ Some j)) → (j : ℕ) × (cond q (Some (suc k)) (return_behind (suc k) (f ++ y)) ≡ Some j)
  by_byte true e r = (suc k, refl)
  by_byte false e r = let n : k + suc (length f) ≡ suc k + length f = omega arith in r (e ∙ ap (λ (m : ℕ). Some m) n)

pub return_alone : (k : ℕ) (f : List ℕ) → IsLate (k + length f + 1) (return_behind k (f ++ (13 ∷ []))) → return_behind k f ≡ None
return_alone k [] e = refl
return_alone k (c ∷ f) e = by_byte (nat_eq c 13) e (λ h. return_alone (suc k) f h) where
  n : k + suc (length f) + 1 ≡ suc k + length f + 1
  n = omega arith

  by_byte : (q : Bool) → IsLate (k + suc (length f) + 1) (cond q (Some (suc k)) (return_behind (suc k) (f ++ (13 ∷ [])))) → (IsLate (suc k + length f + 1) (return_behind (suc k) (f ++ (13 ∷ []))) → return_behind (suc k) f ≡ None) → cond q (Some (suc k)) (return_behind (suc k) f) ≡ None
  by_byte true e r = absurd (omega (arith, e))
  by_byte false e r = r (subst (λ m. IsLate m (return_behind (suc k) (f ++ (13 ∷ [])))) n e)

ends_more : (b : ℕ) (xs : List ℕ) → ends_with 13 xs ≡ true → ends_with 13 (b ∷ xs) ≡ true
ends_more b [] h = absurd (cc)
ends_more b (x ∷ xs) h = h

ends_alone : (c : ℕ) (bs : List ℕ) → nat_eq c 13 ≡ true → length bs ≡ 0 → ends_with 13 (c ∷ bs) ≡ true
ends_alone c [] h l = h
ends_alone c (d ∷ bs) h l = absurd (omega (arith, l))

pub return_edge : (k : ℕ) (bs : List ℕ) → return_behind k bs ≡ Some (k + length bs) → ends_with 13 bs ≡ true
return_edge k [] e = absurd (cc)
return_edge k (c ∷ bs) e = by_byte (nat_eq c 13) refl e (λ h. return_edge (suc k) bs h) where
  by_byte : (q : Bool) → nat_eq c 13 ≡ q → cond q (Some (suc k)) (return_behind (suc k) bs) ≡ Some (k + suc (length bs)) → (return_behind (suc k) bs ≡ Some (suc k + length bs) → ends_with 13 bs ≡ true) → ends_with 13 (c ∷ bs) ≡ true
  by_byte true h e r = let n : suc k ≡ k + suc (length bs) = cc in ends_alone c bs h (omega (arith, n))
  by_byte false h e r = let n : k + suc (length bs) ≡ suc k + length bs = omega arith in ends_more c bs (r (e ∙ ap (λ (m : ℕ). Some m) n))

-- white space and a comment
fault_ranges : (white : Bool) (k n : ℕ) (bs : List ℕ) → header_fault white k bs ≡ Some n → (k ≤ n) × (n ≤ k + length bs)
fault_ranges white k n [] e = absurd (cc)
fault_ranges white k n (b ∷ bs) e = by_byte (is_white b) (nat_eq b 13) (white && nat_eq b 35) e (λ h. fault_ranges true (suc k) n bs h) (λ h. return_ranges (suc k) n bs h) where
  by_byte : (p q r : Bool) → cond p (header_fault true (suc k) bs) (cond q (Some (suc k)) (cond r (return_behind (suc k) bs) (Some k))) ≡ Some n
      → (header_fault true (suc k) bs ≡ Some n → (suc k ≤ n) × (n ≤ suc k + length bs)) → (return_behind (suc k) bs ≡ Some n → (suc k < n) × (n ≤ suc k + length bs)) → (k ≤ n) × (n ≤ k + suc (length bs))
  by_byte true q r e f g = let h = f e in (omega (arith, h.0), omega (arith, h.1))
  by_byte false true r e f g = let h : suc k ≡ n = cc in (omega (arith, h), omega (arith, h))
  by_byte false false true e f g = let h = g e in (omega (arith, h.0), omega (arith, h.1))
  by_byte false false false e f g = let h : k ≡ n = cc in (omega (arith, h), omega (arith, h))

fault_dead : (white : Bool) (k : ℕ) (f x y : List ℕ) → SameAhead x y → header_fault white k (f ++ x) ≡ Some (k + length f) → (j : ℕ) × (header_fault white k (f ++ y) ≡ Some j)
fault_dead white k [] x y (inl s) e = by_byte s.0 s.1 s.2 (sym (ap (header_fault white k) s.3) ∙ e) s.4 where
  by_tests : (b : ℕ) (u v : List ℕ) (p q r : Bool) → cond p (header_fault true (suc k) u) (cond q (Some (suc k)) (cond r (return_behind (suc k) u) (Some k))) ≡ Some (k + 0) → (j : ℕ) × (cond p (header_fault true (suc k) v) (cond q (Some (suc k)) (cond r (return_behind (suc k) v) (Some k))) ≡ Some j)
  by_tests b u v true q r e = let h = fault_ranges true (suc k) (k + 0) u e in absurd (omega (arith, h.0))
  by_tests b u v false true r e = (suc k, refl)
  by_tests b u v false false true e = let h = return_ranges (suc k) (k + 0) u e in absurd (omega (arith, h.0))
  by_tests b u v false false false e = (k, refl)

  by_byte : (b : ℕ) (u v : List ℕ) → header_fault white k (b ∷ u) ≡ Some (k + 0) → y ≡ b ∷ v → (j : ℕ) × (header_fault white k y ≡ Some j)
  by_byte b u v e z = let t = by_tests b u v (is_white b) (nat_eq b 13) (white && nat_eq b 35) e in (t.0, ap (header_fault white k) z ∙ t.1)
fault_dead white k [] [] y (inr s) e = absurd (cc)
fault_dead white k [] (b ∷ u) y (inr s) e =
    let h : Some (suc k) ≡ Some (k + 0) = sym (ap (λ (c : ℕ). header_fault white k (c ∷ u)) s.0) ∙ e in
    let n : suc k ≡ k + 0 = cc in
    absurd (omega (arith, n))
fault_dead white k (c ∷ f) x y s e = by_byte (is_white c) (nat_eq c 13) (white && nat_eq c 35) e (λ h. fault_dead true (suc k) f x y s h) where
  n : k + suc (length f) ≡ suc k + length f
  n = omega arith

  by_byte : (p q r : Bool) → cond p (header_fault true (suc k) (f ++ x)) (cond q (Some (suc k)) (cond r (return_behind (suc k) (f ++ x)) (Some k))) ≡ Some (k + suc (length f))
      → (header_fault true (suc k) (f ++ x) ≡ Some (suc k + length f) → (j : ℕ) × (header_fault true (suc k) (f ++ y) ≡ Some j))
      → (j : ℕ) × (cond p (header_fault true (suc k) (f ++ y)) (cond q (Some (suc k)) (cond r (return_behind (suc k) (f ++ y)) (Some k))) ≡ Some j)
  by_byte true q r e h = h (e ∙ ap (λ (m : ℕ). Some m) n)
  by_byte false true r e h = (suc k, refl)
  by_byte false false true e h = return_dead (suc k) f x y (e ∙ ap (λ (m : ℕ). Some m) n)
  by_byte false false false e h = (k, refl)

fault_last : (white : Bool) (k : ℕ) (f : List ℕ) → IsLate (k + length f + 1) (header_fault white k (f ++ (13 ∷ []))) → header_fault white k f ≡ None
fault_last white k [] e = refl
fault_last white k (c ∷ f) e = by_byte (is_white c) (nat_eq c 13) (white && nat_eq c 35) e (λ h. fault_last true (suc k) f h) where
  n : k + suc (length f) + 1 ≡ suc k + length f + 1
  n = omega arith

  by_byte : (p q r : Bool) → IsLate (k + suc (length f) + 1) (cond p (header_fault true (suc k) (f ++ (13 ∷ []))) (cond q (Some (suc k)) (cond r (return_behind (suc k) (f ++ (13 ∷ []))) (Some k))))
      → (IsLate (suc k + length f + 1) (header_fault true (suc k) (f ++ (13 ∷ []))) → header_fault true (suc k) f ≡ None)
      → cond p (header_fault true (suc k) f) (cond q (Some (suc k)) (cond r (return_behind (suc k) f) (Some k))) ≡ None
  by_byte true q r e h = h (subst (λ m. IsLate m (header_fault true (suc k) (f ++ (13 ∷ [])))) n e)
  by_byte false true r e h = absurd (omega (arith, e))
  by_byte false false true e h = return_alone (suc k) f (subst (λ m. IsLate m (return_behind (suc k) (f ++ (13 ∷ [])))) n e)
  by_byte false false false e h = absurd (omega (arith, e))

fault_edge : (white : Bool) (k : ℕ) (bs : List ℕ) → header_fault white k bs ≡ Some (k + length bs) → ends_with 13 bs ≡ true
fault_edge white k [] e = absurd (cc)
fault_edge white k (c ∷ bs) e = by_byte (is_white c) (nat_eq c 13) refl (white && nat_eq c 35) e (λ h. fault_edge true (suc k) bs h) where
  by_byte : (p q : Bool) → nat_eq c 13 ≡ q → (r : Bool) → cond p (header_fault true (suc k) bs) (cond q (Some (suc k)) (cond r (return_behind (suc k) bs) (Some k))) ≡ Some (k + suc (length bs))
      → (header_fault true (suc k) bs ≡ Some (suc k + length bs) → ends_with 13 bs ≡ true) → ends_with 13 (c ∷ bs) ≡ true
  by_byte true q h r e f = let n : k + suc (length bs) ≡ suc k + length bs = omega arith in ends_more c bs (f (e ∙ ap (λ (m : ℕ). Some m) n))
  by_byte false true h r e f = let n : suc k ≡ k + suc (length bs) = cc in ends_alone c bs h (omega (arith, n))
  by_byte false false h true e f = let n : k + suc (length bs) ≡ suc k + length bs = omega arith in ends_more c bs (return_edge (suc k) bs (e ∙ ap (λ (m : ℕ). Some m) n))
  by_byte false false h false e f = absurd (let n : k ≡ k + suc (length bs) = cc in omega (arith, n))

abbrev comment : ℕ → List ℕ → Option ℕ
comment k bs = header_fault false k bs

comment_faults : Faults comment
comment_faults = record { dead = λ k f x y s e. fault_dead false k f x y s e; ranges = λ k n bs e. fault_ranges false k n bs e; ends = λ k. refl; last = λ k f e. fault_last false k f e; edge = λ k bs e. fault_edge false k bs e }

-- one search behind a byte that passes, another from a byte that does not
abbrev pub either : (ℕ → Bool) → (ℕ → List ℕ → Option ℕ) → (ℕ → List ℕ → Option ℕ) → ℕ → List ℕ → Option ℕ
either t F G k [] = None
either t F G k (b ∷ bs) = cond (t b) (F (suc k) bs) (G k (b ∷ bs))

either_dead : (t : ℕ → Bool) (F G : ℕ → List ℕ → Option ℕ) → t 13 ≡ false → Faults F → Faults G → (k : ℕ) (f x y : List ℕ) → SameAhead x y → either t F G k (f ++ x) ≡ Some (k + length f) → (j : ℕ) × (either t F G k (f ++ y) ≡ Some j)
either_dead t F G n a b k [] [] y s e = absurd (cc)
either_dead t F G n a b k [] (c ∷ u) y s e = by_test (t c) refl e where
  goes_on : (y : List ℕ) (j : ℕ) → t c ≡ false → SameAhead (c ∷ u) y → G k y ≡ Some j → either t F G k y ≡ Some j
  goes_on [] j w s g = absurd (let h = sym (b.ends k) ∙ g in cc)
  goes_on (d ∷ v) j w (inl s) g =
      let h : c ≡ d = let x = s.3 in let y = s.4 in cc in
      let w2 : t d ≡ false = sym (ap t h) ∙ w in
      ap (λ q. cond q (F (suc k) v) (G k (d ∷ v))) w2 ∙ g
  goes_on (d ∷ v) j w (inr s) g = let w2 : t d ≡ false = ap t s.1 ∙ n in ap (λ q. cond q (F (suc k) v) (G k (d ∷ v))) w2 ∙ g

  by_test : (q : Bool) → t c ≡ q → cond q (F (suc k) u) (G k (c ∷ u)) ≡ Some (k + 0) → (j : ℕ) × (either t F G k y ≡ Some j)
  by_test true w e = let h = a.ranges (suc k) (k + 0) u e in absurd (omega (arith, h.0))
  by_test false w e = let h = b.dead k [] (c ∷ u) y s e in (h.0, goes_on y h.0 w s h.1)
either_dead t F G n a b k (c ∷ f) x y s e = by_test (t c) e where
  m : k + suc (length f) ≡ suc k + length f
  m = omega arith

  by_test : (q : Bool) → cond q (F (suc k) (f ++ x)) (G k (c ∷ (f ++ x))) ≡ Some (k + suc (length f)) → (j : ℕ) × (cond q (F (suc k) (f ++ y)) (G k (c ∷ (f ++ y))) ≡ Some j)
  by_test true e = a.dead (suc k) f x y s (e ∙ ap (λ (i : ℕ). Some i) m)
  by_test false e = b.dead k (c ∷ f) x y s e

either_ranges : (t : ℕ → Bool) (F G : ℕ → List ℕ → Option ℕ) → Faults F → Faults G → (k n : ℕ) (bs : List ℕ) → either t F G k bs ≡ Some n → (k ≤ n) × (n ≤ k + length bs)
either_ranges t F G a b k n [] e = absurd (cc)
either_ranges t F G a b k n (c ∷ bs) e = by_test (t c) e where
  by_test : (q : Bool) → cond q (F (suc k) bs) (G k (c ∷ bs)) ≡ Some n → (k ≤ n) × (n ≤ k + suc (length bs))
  by_test true e = let h = a.ranges (suc k) n bs e in (omega (arith, h.0), omega (arith, h.1))
  by_test false e = b.ranges k n (c ∷ bs) e

either_last : (t : ℕ → Bool) (F G : ℕ → List ℕ → Option ℕ) → Faults F → Faults G → (k : ℕ) (f : List ℕ) → IsLate (k + length f + 1) (either t F G k (f ++ (13 ∷ []))) → either t F G k f ≡ None
either_last t F G a b k [] e = refl
either_last t F G a b k (c ∷ f) e = by_test (t c) e where
  n : k + suc (length f) + 1 ≡ suc k + length f + 1
  n = omega arith

  by_test : (q : Bool) → IsLate (k + suc (length f) + 1) (cond q (F (suc k) (f ++ (13 ∷ []))) (G k (c ∷ (f ++ (13 ∷ []))))) → cond q (F (suc k) f) (G k (c ∷ f)) ≡ None
  by_test true e = a.last (suc k) f (subst (λ m. IsLate m (F (suc k) (f ++ (13 ∷ [])))) n e)
  by_test false e = b.last k (c ∷ f) e

either_edge : (t : ℕ → Bool) (F G : ℕ → List ℕ → Option ℕ) → Faults F → Faults G → (k : ℕ) (bs : List ℕ) → either t F G k bs ≡ Some (k + length bs) → ends_with 13 bs ≡ true
either_edge t F G a b k [] e = absurd (cc)
either_edge t F G a b k (c ∷ bs) e = by_test (t c) e where
  by_test : (q : Bool) → cond q (F (suc k) bs) (G k (c ∷ bs)) ≡ Some (k + suc (length bs)) → ends_with 13 (c ∷ bs) ≡ true
  by_test true e = let n : k + suc (length bs) ≡ suc k + length bs = omega arith in ends_more c bs (a.edge (suc k) bs (e ∙ ap (λ (m : ℕ). Some m) n))
  by_test false e = b.edge k (c ∷ bs) e

either_faults : (t : ℕ → Bool) (F G : ℕ → List ℕ → Option ℕ) → t 13 ≡ false → Faults F → Faults G → Faults (either t F G)
either_faults t F G n a b = record { dead = either_dead t F G n a b; ranges = either_ranges t F G a b; ends = λ k. refl; last = either_last t F G a b; edge = either_edge t F G a b }

abbrev is_sign : ℕ → Bool
is_sign b = nat_eq b 45 || nat_eq b 43

abbrev sign : ℕ → List ℕ → Option ℕ
sign = either is_sign comment comment

abbrev digit : ℕ → List ℕ → Option ℕ
digit = either is_digit comment comment

-- the fault of a header, found from its first byte on
abbrev pub head : ℕ → List ℕ → Option ℕ
head = either is_digit sign (either is_sign digit digit)

pub head_faults : Faults head
head_faults =
    let s = either_faults is_sign comment comment refl comment_faults comment_faults in
    let d = either_faults is_digit comment comment refl comment_faults comment_faults in
    either_faults is_digit sign (either is_sign digit digit) refl s (either_faults is_sign digit digit refl d d)

-- it is the fault behind the digit and the sign
abbrev Same : ℕ → List ℕ → Type 0
Same k bs = (head k bs ≡ header_fault false (k + (length bs - length (header bs).rest)) (header bs).rest) × (length (header bs).rest ≤ length bs)

pub head_is : (k : ℕ) (bs : List ℕ) → Same k bs
head_is k [] = (refl, omega arith)
head_is k (b ∷ []) = cases (is_digit b) (λ d. rw d (refl, omega arith)) (λ d. cases (nat_eq b 45) (λ e. rw (d, e) (refl, omega arith)) (λ e. cases (nat_eq b 43) (λ f. rw (d, e, f) (refl, omega arith)) (λ f. rw (d, e, f, d) (ap (λ i. header_fault false i (b ∷ [])) n, omega arith)))) where
  n : k ≡ k + (1 - 1)
  n = omega arith
head_is k (b ∷ c ∷ cs) = cases (is_digit b) digit_first other where
  n0 : k ≡ k + (suc (suc (length cs)) - suc (suc (length cs)))
  n0 = omega arith

  n1 : suc k ≡ k + (suc (suc (length cs)) - suc (length cs))
  n1 = omega arith

  n2 : suc (suc k) ≡ k + (suc (suc (length cs)) - length cs)
  n2 = omega arith

  digit_first : is_digit b ≡ true → Same k (b ∷ c ∷ cs)
  digit_first d = cases (nat_eq c 45) (λ e. rw (d, e) (ap (λ i. header_fault false i cs) n2, omega arith)) (λ e. cases (nat_eq c 43) (λ f. rw (d, e, f) (ap (λ i. header_fault false i cs) n2, omega arith)) (λ f. rw (d, e, f) (ap (λ i. header_fault false i (c ∷ cs)) n1, omega arith)))

  sign_first : is_digit b ≡ false → is_sign b ≡ true → Same k (b ∷ c ∷ cs)
  sign_first d s = cases (nat_eq b 45) (λ e. cases (is_digit c) (λ g. rw (d, e, g) (ap (λ i. header_fault false i cs) n2, omega arith)) (λ g. rw (d, e, g) (ap (λ i. header_fault false i (c ∷ cs)) n1, omega arith))) (λ e. cases (nat_eq b 43) (λ f. cases (is_digit c) (λ g. rw (d, e, f, g) (ap (λ i. header_fault false i cs) n2, omega arith)) (λ g. rw (d, e, f, g) (ap (λ i. header_fault false i (c ∷ cs)) n1, omega arith))) (λ f. absurd (let h : false ≡ true = rw (e, f) at s in cc)))

  no_sign : is_digit b ≡ false → is_sign b ≡ false → Same k (b ∷ c ∷ cs)
  no_sign d s = cases (nat_eq b 45) (λ e. absurd (let h : true ≡ false = rw e at s in cc)) (λ e. cases (nat_eq b 43) (λ f. absurd (let h : true ≡ false = rw (e, f) at s in cc)) (λ f. rw (d, e, f, d) (ap (λ i. header_fault false i (b ∷ c ∷ cs)) n0, omega arith)))

  other : is_digit b ≡ false → Same k (b ∷ c ∷ cs)
  other d = cases (is_sign b) (sign_first d) (no_sign d)
