-- Lines that agree up to the byte that shows that the one is neither blank nor a mark: the other is neither, and is indented as much.
use Rattle.std.proofs.Common.{◌≡◌, ℕ, zero, suc, ◌+◌, ◌<◌, ◌≤◌, Bool, true, false, List, [], ◌∷◌, ◌++◌, length, drop, refl, sym, ap, inl, inr, ◌∙◌, arith, cond, Some, subst, append_assoc, append-nil}
use Rattle.std.specs.Prelude.{nat_eq, ◌||◌, ◌&&◌}
use Rattle.std.proofs.lemmas.Bool.Decides.{nat_tests}
use Rattle.std.proofs.lemmas.List.{length-append}
use Rattle.yaml_scalars.specs.Lines.{begins_with, is_white, is_space, is_blank, is_mark, is_end, lead, indent}
use Rattle.yaml_scalars.specs.Block.{same, mark_len, may_end, shown, return_behind}
use Rattle.yaml_laws.proofs.Agree.{SameAhead, drop_before}
use Rattle.yaml_laws.proofs.BlockHeads.{cases, return_ranges}

-- what stands in front, and whether the line goes on, does not depend on what stands behind
pub lead_same : (p : ℕ → Bool) (g : List ℕ) (b : ℕ) (u v : List ℕ) → lead p (g ++ (b ∷ u)) ≤ length g → lead p (g ++ (b ∷ v)) ≡ lead p (g ++ (b ∷ u))
lead_same p [] b u v l = by_byte (p b) l where
  by_byte : (q : Bool) → cond q (suc (lead p u)) 0 ≤ 0 → cond q (suc (lead p v)) 0 ≡ cond q (suc (lead p u)) 0
  by_byte true l = absurd (omega arith)
  by_byte false l = refl
lead_same p (d ∷ g) b u v l = by_byte (p d) l (λ m. lead_same p g b u v m) where
  by_byte : (q : Bool) → cond q (suc (lead p (g ++ (b ∷ u)))) 0 ≤ suc (length g) → (lead p (g ++ (b ∷ u)) ≤ length g → lead p (g ++ (b ∷ v)) ≡ lead p (g ++ (b ∷ u))) → cond q (suc (lead p (g ++ (b ∷ v)))) 0 ≡ cond q (suc (lead p (g ++ (b ∷ u)))) 0
  by_byte true l r = ap (λ k. suc k) (r (omega arith))
  by_byte false l r = refl

same_same : (a k : ℕ) (g : List ℕ) (b : ℕ) (u v : List ℕ) → same a k (g ++ (b ∷ u)) ≤ length g → same a k (g ++ (b ∷ v)) ≡ same a k (g ++ (b ∷ u))
same_same a zero g b u v l = refl
same_same a (suc k) [] b u v l = by_byte (nat_eq b a) l where
  by_byte : (q : Bool) → cond q (suc (same a k u)) 0 ≤ 0 → cond q (suc (same a k v)) 0 ≡ cond q (suc (same a k u)) 0
  by_byte true l = absurd (omega arith)
  by_byte false l = refl
same_same a (suc k) (d ∷ g) b u v l = by_byte (nat_eq d a) l (λ m. same_same a k g b u v m) where
  by_byte : (q : Bool) → cond q (suc (same a k (g ++ (b ∷ u)))) 0 ≤ suc (length g) → (same a k (g ++ (b ∷ u)) ≤ length g → same a k (g ++ (b ∷ v)) ≡ same a k (g ++ (b ∷ u))) → cond q (suc (same a k (g ++ (b ∷ v)))) 0 ≡ cond q (suc (same a k (g ++ (b ∷ u)))) 0
  by_byte true l r = ap (λ k. suc k) (r (omega arith))
  by_byte false l r = refl

mark_same : (g : List ℕ) (b : ℕ) (u v : List ℕ) → mark_len (g ++ (b ∷ u)) ≤ length g → mark_len (g ++ (b ∷ v)) ≡ mark_len (g ++ (b ∷ u))
mark_same [] b u v l = by_byte (nat_eq b 45 || nat_eq b 46) l where
  by_byte : (q : Bool) → cond q (suc (same b 2 u)) 0 ≤ 0 → cond q (suc (same b 2 v)) 0 ≡ cond q (suc (same b 2 u)) 0
  by_byte true l = absurd (omega arith)
  by_byte false l = refl
mark_same (d ∷ g) b u v l = by_byte (nat_eq d 45 || nat_eq d 46) l where
  by_byte : (q : Bool) → cond q (suc (same d 2 (g ++ (b ∷ u)))) 0 ≤ suc (length g) → cond q (suc (same d 2 (g ++ (b ∷ v)))) 0 ≡ cond q (suc (same d 2 (g ++ (b ∷ u)))) 0
  by_byte true l = ap (λ k. suc k) (same_same d 2 g b u v (omega arith))
  by_byte false l = refl

-- blank lines are white space only
pub blank_not : (xs : List ℕ) → lead is_white xs < length xs → is_blank xs ≡ false
blank_not [] l = absurd (omega arith)
blank_not (x ∷ xs) l = by_byte (is_white x) l (λ m. blank_not xs m) where
  by_byte : (q : Bool) → cond q (suc (lead is_white xs)) 0 < suc (length xs) → (lead is_white xs < length xs → is_blank xs ≡ false) → cond q (is_blank xs) false ≡ false
  by_byte true l r = r (omega arith)
  by_byte false l r = refl

pub blank_less : (xs : List ℕ) → is_blank xs ≡ false → lead is_white xs < length xs
blank_less [] h = absurd (cc)
blank_less (x ∷ xs) h = by_byte (is_white x) h (λ m. blank_less xs m) where
  by_byte : (q : Bool) → cond q (is_blank xs) false ≡ false → (is_blank xs ≡ false → lead is_white xs < length xs) → cond q (suc (lead is_white xs)) 0 < suc (length xs)
  by_byte true h r = let m = r h in omega (arith, m)
  by_byte false h r = omega arith

pub spaces_less : (xs : List ℕ) → lead is_space xs ≤ lead is_white xs
spaces_less [] = omega arith
spaces_less (x ∷ xs) = by_byte (nat_eq x 32) (nat_eq x 9) (spaces_less xs) where
  by_byte : (q r : Bool) → lead is_space xs ≤ lead is_white xs → cond q (suc (lead is_space xs)) 0 ≤ cond (q || r) (suc (lead is_white xs)) 0
  by_byte true r h = omega arith
  by_byte false r h = omega arith

-- a mark by its length
pub mark_is : (xs : List ℕ) → is_mark xs ≡ (nat_eq (mark_len xs) 3 && is_end (drop 3 xs))
mark_is [] = refl
mark_is (a ∷ []) = by_first (nat_eq a 45 || nat_eq a 46) where
  by_first : (q : Bool) → false ≡ (nat_eq (cond q 1 0) 3 && true)
  by_first true = refl
  by_first false = refl
mark_is (a ∷ b ∷ []) = by_two (nat_eq a 45 || nat_eq a 46) (nat_eq b a) where
  by_two : (q r : Bool) → false ≡ (nat_eq (cond q (suc (cond r 1 0)) 0) 3 && true)
  by_two true true = refl
  by_two true false = refl
  by_two false r = refl
mark_is (a ∷ b ∷ c ∷ xs) = ap (λ q. (nat_eq a 45 || nat_eq a 46) && (q && (nat_eq a c && is_end xs))) ab ∙ ap (λ q. (nat_eq a 45 || nat_eq a 46) && (nat_eq b a && (q && is_end xs))) ac ∙ by_three (nat_eq a 45 || nat_eq a 46) (nat_eq b a) (nat_eq c a) (is_end xs) where
  ab : nat_eq a b ≡ nat_eq b a
  ab = grind (arith, nat_tests)

  ac : nat_eq a c ≡ nat_eq c a
  ac = grind (arith, nat_tests)

  by_three : (q r s t : Bool) → (q && (r && (s && t))) ≡ (nat_eq (cond q (suc (cond r (suc (cond s 1 0)) 0)) 0) 3 && t)
  by_three true true true t = refl
  by_three true true false t = refl
  by_three true false s t = refl
  by_three false r s t = refl

end_same : (r : List ℕ) (b : ℕ) (u v : List ℕ) → is_end (r ++ (b ∷ v)) ≡ is_end (r ++ (b ∷ u))
end_same [] b u v = refl
end_same (d ∷ r) b u v = refl

-- neither is blank, both are marks or none is, and they are indented as much
pub record Alike (xs ys : List ℕ) : Type 0 where
  pub full : is_blank xs ≡ false
  pub other_full : is_blank ys ≡ false
  pub mark : is_mark ys ≡ is_mark xs
  pub indented : indent ys ≡ indent xs

-- bytes in common, and one more
alike : (g : List ℕ) (b : ℕ) (u v : List ℕ) → lead is_white (g ++ (b ∷ u)) ≤ length g → mark_len (g ++ (b ∷ u)) ≤ length g → Alike (g ++ (b ∷ u)) (g ++ (b ∷ v))
alike g b u v l m = record { full = blank_not xs (omega (arith, size)); other_full = blank_not ys (omega (arith, size2, white, l)); mark = mark_is ys ∙ ap (λ k. nat_eq k 3 && is_end (drop 3 ys)) (mark_same g b u v m) ∙ cases (nat_eq (mark_len xs) 3) three other ∙ sym (mark_is xs); indented = lead_same is_space g b u v (let f = spaces_less xs in omega (arith, f, l)) } where
  xs : List ℕ
  xs = g ++ (b ∷ u)

  ys : List ℕ
  ys = g ++ (b ∷ v)

  size : length xs ≡ length g + suc (length u)
  size = length-append g (b ∷ u)

  size2 : length ys ≡ length g + suc (length v)
  size2 = length-append g (b ∷ v)

  white : lead is_white ys ≡ lead is_white xs
  white = lead_same is_white g b u v l

  three : nat_eq (mark_len xs) 3 ≡ true → (nat_eq (mark_len xs) 3 && is_end (drop 3 ys)) ≡ (nat_eq (mark_len xs) 3 && is_end (drop 3 xs))
  three e =
      let k : mark_len xs ≡ 3 = grind (arith, nat_tests, e) in
      let w : 3 ≤ length g = omega (arith, k, m) in
      ap (λ t. nat_eq (mark_len xs) 3 && is_end t) (drop_before 3 g (b ∷ v) w) ∙ ap (λ q. nat_eq (mark_len xs) 3 && q) (end_same (drop 3 g) b u v) ∙ sym (ap (λ t. nat_eq (mark_len xs) 3 && is_end t) (drop_before 3 g (b ∷ u) w))

  other : nat_eq (mark_len xs) 3 ≡ false → (nat_eq (mark_len xs) 3 && is_end (drop 3 ys)) ≡ (nat_eq (mark_len xs) 3 && is_end (drop 3 xs))
  other e = ap (λ q. q && is_end (drop 3 ys)) e ∙ sym (ap (λ q. q && is_end (drop 3 xs)) e)

-- a carriage return is in nothing of that
lead_stop : (p : ℕ → Bool) (g : List ℕ) (u : List ℕ) → p 13 ≡ false → lead p (g ++ (13 ∷ u)) ≤ length g
lead_stop p [] u e = let z : lead p (13 ∷ u) ≡ 0 = ap (λ q. cond q (suc (lead p u)) 0) e in omega (arith, z)
lead_stop p (d ∷ g) u e = by_byte (p d) (lead_stop p g u e) where
  by_byte : (q : Bool) → lead p (g ++ (13 ∷ u)) ≤ length g → cond q (suc (lead p (g ++ (13 ∷ u)))) 0 ≤ suc (length g)
  by_byte true h = omega arith
  by_byte false h = omega arith

same_stop : (a k : ℕ) (g : List ℕ) (u : List ℕ) → nat_eq 13 a ≡ false → same a k (g ++ (13 ∷ u)) ≤ length g
same_stop a zero g u e = omega arith
same_stop a (suc k) [] u e = let z : same a (suc k) (13 ∷ u) ≡ 0 = ap (λ q. cond q (suc (same a k u)) 0) e in omega (arith, z)
same_stop a (suc k) (d ∷ g) u e = by_byte (nat_eq d a) (same_stop a k g u e) where
  by_byte : (q : Bool) → same a k (g ++ (13 ∷ u)) ≤ length g → cond q (suc (same a k (g ++ (13 ∷ u)))) 0 ≤ suc (length g)
  by_byte true h = omega arith
  by_byte false h = omega arith

mark_stop : (g : List ℕ) (u : List ℕ) → mark_len (g ++ (13 ∷ u)) ≤ length g
mark_stop [] u = omega arith
mark_stop (d ∷ g) u = cases (nat_eq d 45 || nat_eq d 46) (λ e. (let n : nat_eq 13 d ≡ false = grind (arith, nat_tests, e) in let h = same_stop d 2 g u n in let z : mark_len (d ∷ (g ++ (13 ∷ u))) ≡ suc (same d 2 (g ++ (13 ∷ u))) = ap (λ q. cond q (suc (same d 2 (g ++ (13 ∷ u)))) 0) e in omega (arith, h, z))) (λ e. (let z : mark_len (d ∷ (g ++ (13 ∷ u))) ≡ 0 = ap (λ q. cond q (suc (same d 2 (g ++ (13 ∷ u)))) 0) e in omega (arith, z)))

pub alike_return : (g : List ℕ) (u v : List ℕ) → Alike (g ++ (13 ∷ u)) (g ++ (13 ∷ v))
alike_return g u v = alike g 13 u v (lead_stop is_white g u refl) (mark_stop g u)

-- the byte before the place behind a carriage return
return_before : (k : ℕ) (f x : List ℕ) → return_behind k (f ++ x) ≡ Some (k + length f) → (a : List ℕ) × (f ≡ a ++ (13 ∷ []))
return_before k [] x e = let h = return_ranges k (k + 0) x e in absurd (omega (arith, h.0))
return_before k (c ∷ f) x e = cases (nat_eq c 13) here (λ q. later q f e (λ h. return_before (suc k) f x h)) where
  only : (f : List ℕ) → length f ≡ 0 → c ≡ 13 → (a : List ℕ) × (c ∷ f ≡ a ++ (13 ∷ []))
  only [] z q = ([], ap (λ (b : ℕ). b ∷ []) q)
  only (d ∷ f) z q = absurd (omega (arith, z))

  here : nat_eq c 13 ≡ true → (a : List ℕ) × (c ∷ f ≡ a ++ (13 ∷ []))
  here q =
      let g : Some (suc k) ≡ Some (k + suc (length f)) = sym (ap (λ q. cond q (Some (suc k)) (return_behind (suc k) (f ++ x))) q) ∙ e in
      let n : suc k ≡ k + suc (length f) = cc in
      only f (omega (arith, n)) (grind (arith, nat_tests, q))

  later : nat_eq c 13 ≡ false → (f : List ℕ) → return_behind k (c ∷ (f ++ x)) ≡ Some (k + suc (length f)) → (return_behind (suc k) (f ++ x) ≡ Some (suc k + length f) → (a : List ℕ) × (f ≡ a ++ (13 ∷ []))) → (a : List ℕ) × (c ∷ f ≡ a ++ (13 ∷ []))
  later q f e r =
      let n : k + suc (length f) ≡ suc k + length f = omega arith in
      let h = r (sym (ap (λ q. cond q (Some (suc k)) (return_behind (suc k) (f ++ x))) q) ∙ e ∙ ap (λ (m : ℕ). Some m) n) in
      (c ∷ h.0, ap (λ t. c ∷ t) h.1)

-- lines that agree up to the place behind a carriage return of the one
pub returned_alike : (f x y : List ℕ) → return_behind 0 (f ++ x) ≡ Some (0 + length f) → Alike (f ++ x) (f ++ y)
returned_alike f x y e =
    let a = return_before 0 f x e in
    let p : f ++ x ≡ a.0 ++ (13 ∷ x) = ap (λ t. t ++ x) a.1 ∙ append_assoc a.0 (13 ∷ []) x in
    let q : f ++ y ≡ a.0 ++ (13 ∷ y) = ap (λ t. t ++ y) a.1 ∙ append_assoc a.0 (13 ∷ []) y in
    subst (λ s. Alike s (f ++ y)) (sym p) (subst (λ t. Alike (a.0 ++ (13 ∷ x)) t) (sym q) (alike_return a.0 x y))

-- a line that ends where the other has a carriage return
pub lead_ended : (p : ℕ → Bool) (g v : List ℕ) → p 13 ≡ false → lead p (g ++ (13 ∷ v)) ≡ lead p g
lead_ended p [] v e = ap (λ q. cond q (suc (lead p v)) 0) e
lead_ended p (d ∷ g) v e = by_byte (p d) (lead_ended p g v e) where
  by_byte : (q : Bool) → lead p (g ++ (13 ∷ v)) ≡ lead p g → cond q (suc (lead p (g ++ (13 ∷ v)))) 0 ≡ cond q (suc (lead p g)) 0
  by_byte true h = ap (λ k. suc k) h
  by_byte false h = refl

same_ended : (a k : ℕ) (g v : List ℕ) → nat_eq 13 a ≡ false → same a k (g ++ (13 ∷ v)) ≡ same a k g
same_ended a zero g v e = refl
same_ended a (suc k) [] v e = ap (λ q. cond q (suc (same a k v)) 0) e
same_ended a (suc k) (d ∷ g) v e = by_byte (nat_eq d a) (same_ended a k g v e) where
  by_byte : (q : Bool) → same a k (g ++ (13 ∷ v)) ≡ same a k g → cond q (suc (same a k (g ++ (13 ∷ v)))) 0 ≡ cond q (suc (same a k g)) 0
  by_byte true h = ap (λ k. suc k) h
  by_byte false h = refl

pub mark_ended : (g v : List ℕ) → mark_len (g ++ (13 ∷ v)) ≡ mark_len g
mark_ended [] v = refl
mark_ended (d ∷ g) v = cases (nat_eq d 45 || nat_eq d 46) (λ e. (let n : nat_eq 13 d ≡ false = grind (arith, nat_tests, e) in ap (λ k. cond (nat_eq d 45 || nat_eq d 46) (suc k) 0) (same_ended d 2 g v n))) (λ e. ap (λ q. cond q (suc (same d 2 (g ++ (13 ∷ v)))) 0) e ∙ sym (ap (λ q. cond q (suc (same d 2 g)) 0) e))

pub mark_fits : (xs : List ℕ) → mark_len xs ≤ length xs
mark_fits xs = let h = mark_stop xs [] in let e = mark_ended xs [] in omega (arith, h, e)

end_ended : (r v : List ℕ) → is_end r ≡ false → is_end (r ++ (13 ∷ v)) ≡ false
end_ended [] v e = absurd (cc)
end_ended (d ∷ r) v e = e

alike_end : (g v : List ℕ) → is_blank g ≡ false → is_mark g ≡ false → Alike g (g ++ (13 ∷ v))
alike_end g v h n = record { full = h; other_full = blank_not (g ++ (13 ∷ v)) (let a = lead_stop is_white g v refl in let s = length-append g (13 ∷ v) in omega (arith, a, s)); mark = mark_is (g ++ (13 ∷ v)) ∙ ap (λ k. nat_eq k 3 && is_end (drop 3 (g ++ (13 ∷ v)))) (mark_ended g v) ∙ cases (nat_eq (mark_len g) 3) three other ∙ sym n; indented = lead_ended is_space g v refl } where
  three : nat_eq (mark_len g) 3 ≡ true → (nat_eq (mark_len g) 3 && is_end (drop 3 (g ++ (13 ∷ v)))) ≡ false
  three e =
      let k : mark_len g ≡ 3 = grind (arith, nat_tests, e) in
      let w : 3 ≤ length g = let f = mark_fits g in omega (arith, k, f) in
      let ends : is_end (drop 3 g) ≡ false = sym (ap (λ q. q && is_end (drop 3 g)) e) ∙ sym (mark_is g) ∙ n in
      ap (λ t. nat_eq (mark_len g) 3 && is_end t) (drop_before 3 g (13 ∷ v) w) ∙ ap (λ q. nat_eq (mark_len g) 3 && q) (end_ended (drop 3 g) v ends) ∙ ap (λ q. q && false) e

  other : nat_eq (mark_len g) 3 ≡ false → (nat_eq (mark_len g) 3 && is_end (drop 3 (g ++ (13 ∷ v)))) ≡ false
  other e = ap (λ q. q && is_end (drop 3 (g ++ (13 ∷ v)))) e

-- the byte behind so many
drop_past : (g w : List ℕ) → drop (length g) (g ++ w) ≡ w
drop_past [] w = refl
drop_past (d ∷ g) w = drop_past g w

pub return_last : (f x : List ℕ) (n : ℕ) → suc n ≡ length f → begins_with 13 (drop n (f ++ x)) ≡ true → (a : List ℕ) × (f ≡ a ++ (13 ∷ [])) × (length a ≡ n)
return_last [] x n l e = absurd (omega (arith, l))
return_last (c ∷ []) x zero l e = ([], (let q : c ≡ 13 = grind (arith, nat_tests, e) in ap (λ (b : ℕ). b ∷ []) q), refl)
return_last (c ∷ d ∷ f) x zero l e = absurd (omega (arith, l))
return_last (c ∷ f) x (suc n) l e = let h = return_last f x n (omega (arith, l)) e in (c ∷ h.0, ap (λ t. c ∷ t) h.1, ap (λ k. suc k) h.2)

ends_not : (k : ℕ) → may_end k ≡ false → (0 < k) × (nat_eq k 3 ≡ false)
ends_not k h = (grind (arith, nat_tests, h), grind (arith, nat_tests, h))

-- lines that agree up to the byte that shows that the one is neither blank nor a mark
pub shown_alike : (f x y : List ℕ) → SameAhead x y → is_blank (f ++ x) ≡ false → is_mark (f ++ x) ≡ false → shown (f ++ x) ≡ length f → Alike (f ++ x) (f ++ y)
shown_alike f x y s h m e = cases (begins_with 13 (drop n (f ++ x)) && may_end (mark_len (f ++ x))) returned (λ q. plain x y s h m (sym (ap (λ q. cond q (suc n) n) q) ∙ e) q) where
  n : ℕ
  n = lead is_white (f ++ x) + mark_len (f ++ x)

  first : (p q : Bool) → (p && q) ≡ true → p ≡ true
  first true q h = refl
  first false q h = absurd (cc)

  returned : (begins_with 13 (drop n (f ++ x)) && may_end (mark_len (f ++ x))) ≡ true → Alike (f ++ x) (f ++ y)
  returned q =
      let l : suc n ≡ length f = sym (ap (λ q. cond q (suc n) n) q) ∙ e in
      let a = return_last f x n l (first (begins_with 13 (drop n (f ++ x))) (may_end (mark_len (f ++ x))) q) in
      let p : f ++ x ≡ a.0 ++ (13 ∷ x) = ap (λ t. t ++ x) a.1 ∙ append_assoc a.0 (13 ∷ []) x in
      let r : f ++ y ≡ a.0 ++ (13 ∷ y) = ap (λ t. t ++ y) a.1 ∙ append_assoc a.0 (13 ∷ []) y in
      subst (λ s. Alike s (f ++ y)) (sym p) (subst (λ t. Alike (a.0 ++ (13 ∷ x)) t) (sym r) (alike_return a.0 x y))

  plain : (x y : List ℕ) → SameAhead x y → is_blank (f ++ x) ≡ false → is_mark (f ++ x) ≡ false → lead is_white (f ++ x) + mark_len (f ++ x) ≡ length f → (begins_with 13 (drop (lead is_white (f ++ x) + mark_len (f ++ x)) (f ++ x)) && may_end (mark_len (f ++ x))) ≡ false → Alike (f ++ x) (f ++ y)
  plain x y (inl s) h m l q =
      let p : f ++ x ≡ f ++ (s.0 ∷ s.1) = ap (λ t. f ++ t) s.3 in
      let r : f ++ y ≡ f ++ (s.0 ∷ s.2) = ap (λ t. f ++ t) s.4 in
      let w : lead is_white (f ++ (s.0 ∷ s.1)) ≤ length f = subst (λ t. lead is_white t ≤ length f) p (omega (arith, l)) in
      let k : mark_len (f ++ (s.0 ∷ s.1)) ≤ length f = subst (λ t. mark_len t ≤ length f) p (omega (arith, l)) in
      subst (λ t. Alike t (f ++ y)) (sym p) (subst (λ t. Alike (f ++ (s.0 ∷ s.1)) t) (sym r) (alike f s.0 s.1 s.2 w k))
  plain [] [] (inr s) h m l q = record { full = h; other_full = h; mark = refl; indented = refl }
  plain [] (d ∷ v) (inr s) h m l q =
      let p : f ++ [] ≡ f = append-nil f in
      let r : f ++ (d ∷ v) ≡ f ++ (13 ∷ v) = ap (λ (b : ℕ). f ++ (b ∷ v)) s.1 in
      let h2 = subst (λ t. is_blank t ≡ false) p h in
      let m2 = subst (λ t. is_mark t ≡ false) p m in
      subst (λ t. Alike t (f ++ (d ∷ v))) (sym p) (subst (λ t. Alike f t) (sym r) (alike_end f v h2 m2))
  plain (b ∷ u) [] (inr s) h m l q =
      let z : begins_with 13 (drop (lead is_white (f ++ (b ∷ u)) + mark_len (f ++ (b ∷ u))) (f ++ (b ∷ u))) ≡ true = ap (λ k. begins_with 13 (drop k (f ++ (b ∷ u)))) l ∙ ap (begins_with 13) (drop_past f (b ∷ u)) ∙ ap (λ (c : ℕ). nat_eq c 13) s.0 in
      let p : f ++ (b ∷ u) ≡ f ++ (13 ∷ u) = ap (λ (b : ℕ). f ++ (b ∷ u)) s.0 in
      let mark : mark_len (f ++ (b ∷ u)) ≡ mark_len f = ap mark_len p ∙ mark_ended f u in
      let white : lead is_white (f ++ (b ∷ u)) ≡ lead is_white f = ap (lead is_white) p ∙ lead_ended is_white f u refl in
      let ends : may_end (mark_len f) ≡ false = ap may_end (sym mark) ∙ sym (ap (λ q. q && may_end (mark_len (f ++ (b ∷ u)))) z) ∙ q in
      let bytes = ends_not (mark_len f) ends in
      let full : is_blank f ≡ false = blank_not f (omega (arith, l, mark, white, bytes.0)) in
      let none : is_mark f ≡ false = mark_is f ∙ ap (λ q. q && is_end (drop 3 f)) bytes.1 in
      let a = alike_end f u full none in
      let back : Alike (f ++ (13 ∷ u)) f = record { full = a.other_full; other_full = a.full; mark = sym a.mark; indented = sym a.indented } in
      subst (λ s. Alike s (f ++ [])) (sym p) (subst (λ t. Alike (f ++ (13 ∷ u)) t) (sym (append-nil f)) back)
  plain (b ∷ u) (d ∷ v) (inr s) h m l q =
      let p : f ++ (b ∷ u) ≡ f ++ (13 ∷ u) = ap (λ (b : ℕ). f ++ (b ∷ u)) s.0 in
      let r : f ++ (d ∷ v) ≡ f ++ (13 ∷ v) = ap (λ (b : ℕ). f ++ (b ∷ v)) s.1 in
      subst (λ s. Alike s (f ++ (d ∷ v))) (sym p) (subst (λ t. Alike (f ++ (13 ∷ u)) t) (sym r) (alike_return f u v))
