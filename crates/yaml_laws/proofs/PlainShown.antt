-- A further line on which a plain scalar fails is one in each text that agrees so far.
use Rattle.std.proofs.Common.{◌≡◌, ℕ, suc, ◌+◌, ◌<◌, ◌≤◌, Bool, true, false, List, [], ◌∷◌, ◌++◌, length, take, drop, refl, sym, ap, inl, inr, ◌∙◌, arith, cond, subst, append_assoc, append-nil, length-take, length-drop}
use Rattle.std.specs.Prelude.{nat_eq, nat_lt, ◌||◌, ◌&&◌}
use Rattle.std.proofs.lemmas.Bool.Decides.{nat_tests}
use Rattle.std.proofs.lemmas.List.{take-append-drop, drop-drop, length-append}
use Rattle.yaml_scalars.specs.declared.scalar.Setting.{Setting}
use Rattle.yaml_scalars.specs.declared.plain_line.Why.TheVariants.{Colon}
use Rattle.yaml_scalars.specs.declared.plain_line.Below.{Below}
use Rattle.yaml_scalars.specs.declared.plain_line.Below.TheVariants.{Blank, Outside, Further}
use Rattle.yaml_scalars.specs.Lines.{Line, Outcome, Stands, Fails, begins_with, ends_with, is_white, is_space, is_blank, is_mark, is_end, lead, indent, past_white}
use Rattle.yaml_scalars.specs.Plain.{above_of, plain_len, why, reason, content_at, inside, below, further, more}
use Rattle.yaml_laws.proofs.Agree.{SameAhead, SplitAt, Shares}
use Rattle.yaml_scalars.proofs.FurtherLines.{plain_le, skip_le}
use Rattle.yaml_laws.proofs.PlainDead.{FailsAt, FailsBefore, colon_last, other_return, joins_fails, joins_both, more_later, fails_of, other_fails, why_return, why_colon, drop_front, drop_length}

-- a byte that shows that a line is neither blank nor a mark
abbrev pub IsShown : ℕ → Type 0
IsShown c = (is_white c ≡ false) × (is_space c ≡ false) × (nat_eq c 45 ≡ false) × (nat_eq c 46 ≡ false)

pub blank_front : (a : List ℕ) (c : ℕ) (x : List ℕ) → is_white c ≡ false → is_blank (a ++ (c ∷ x)) ≡ false
blank_front [] c x w = ap (λ q. cond q (is_blank x) false) w
blank_front (d ∷ a) c x w = by_white (is_white d) (blank_front a c x w) where
  by_white : (q : Bool) → is_blank (a ++ (c ∷ x)) ≡ false → cond q (is_blank (a ++ (c ∷ x))) false ≡ false
  by_white true h = h
  by_white false h = refl

no_mark_first : (c : ℕ) (x : List ℕ) → IsShown c → is_mark (c ∷ x) ≡ false
no_mark_first c [] s = refl
no_mark_first c (d ∷ []) s = refl
no_mark_first c (d ∷ e ∷ x) s = ap (λ q. (q || nat_eq c 46) && (nat_eq c d && (nat_eq c e && is_end x))) s.2 ∙ ap (λ q. q && (nat_eq c d && (nat_eq c e && is_end x))) s.3

no_mark_second : (a c : ℕ) (x : List ℕ) → IsShown c → is_mark (a ∷ c ∷ x) ≡ false
no_mark_second a c [] s = refl
no_mark_second a c (d ∷ x) s = grind (arith, nat_tests, s.2, s.3)

no_mark_third : (a b c : ℕ) (x : List ℕ) → IsShown c → is_mark (a ∷ b ∷ c ∷ x) ≡ false
no_mark_third a b c x s = grind (arith, nat_tests, s.2, s.3)

mark_front : (a : List ℕ) (c : ℕ) (x y : List ℕ) → IsShown c → is_mark (a ++ (c ∷ x)) ≡ is_mark (a ++ (c ∷ y))
mark_front [] c x y s = no_mark_first c x s ∙ sym (no_mark_first c y s)
mark_front (d ∷ []) c x y s = no_mark_second d c x s ∙ sym (no_mark_second d c y s)
mark_front (d ∷ e ∷ []) c x y s = no_mark_third d e c x s ∙ sym (no_mark_third d e c y s)
mark_front (d ∷ e ∷ f ∷ []) c x y s = refl
mark_front (d ∷ e ∷ f ∷ g ∷ a) c x y s = refl

pub lead_front : (p : ℕ → Bool) (a : List ℕ) (c : ℕ) (x y : List ℕ) → p c ≡ false → (lead p (a ++ (c ∷ x)) ≡ lead p (a ++ (c ∷ y))) × (lead p (a ++ (c ∷ x)) ≤ length a)
lead_front p [] c x y e = (ap (λ q. cond q (suc (lead p x)) 0) e ∙ sym (ap (λ q. cond q (suc (lead p y)) 0) e), (let z : lead p (c ∷ x) ≡ 0 = ap (λ q. cond q (suc (lead p x)) 0) e in omega (arith, z)))
lead_front p (d ∷ a) c x y e = by_byte (p d) (lead_front p a c x y e) where
  by_byte : (q : Bool) → (lead p (a ++ (c ∷ x)) ≡ lead p (a ++ (c ∷ y))) × (lead p (a ++ (c ∷ x)) ≤ length a) → (cond q (suc (lead p (a ++ (c ∷ x)))) 0 ≡ cond q (suc (lead p (a ++ (c ∷ y)))) 0) × (cond q (suc (lead p (a ++ (c ∷ x)))) 0 ≤ suc (length a))
  by_byte true h = (ap suc h.0, (let l = h.1 in omega (arith, l)))
  by_byte false h = (refl, omega arith)

begins_front : (n : ℕ) (r : List ℕ) (c : ℕ) (x y : List ℕ) → begins_with n (r ++ (c ∷ x)) ≡ begins_with n (r ++ (c ∷ y))
begins_front n [] c x y = refl
begins_front n (d ∷ r) c x y = refl

begins_part : (k n : ℕ) (a : List ℕ) (c : ℕ) (x y : List ℕ) → n ≤ length a → begins_with k (drop n (a ++ (c ∷ x))) ≡ begins_with k (drop n (a ++ (c ∷ y)))
begins_part k n a c x y l = ap (begins_with k) (drop_front n a (c ∷ x) l) ∙ begins_front k (drop n a) c x y ∙ sym (ap (begins_with k) (drop_front n a (c ∷ y) l))

content_part : (n m : ℕ) (a : List ℕ) (c : ℕ) (x y : List ℕ) → n ≡ m → n ≤ length a → content_at n (drop n (a ++ (c ∷ x))) ≡ content_at m (drop m (a ++ (c ∷ y)))
content_part n m a c x y e l = ap (λ q. cond q Outside (Further n)) (begins_part 35 n a c x y l) ∙ ap (λ k. content_at k (drop k (a ++ (c ∷ y)))) e

inside_front : (s : Setting) (a : List ℕ) (c : ℕ) (x y : List ℕ) → IsShown c → inside s (a ++ (c ∷ x)) ≡ inside s (a ++ (c ∷ y))
inside_front s a c x y h = by_flow s.flow where
  w : (lead is_white (a ++ (c ∷ x)) ≡ lead is_white (a ++ (c ∷ y))) × (lead is_white (a ++ (c ∷ x)) ≤ length a)
  w = lead_front is_white a c x y h.0

  i : (indent (a ++ (c ∷ x)) ≡ indent (a ++ (c ∷ y))) × (indent (a ++ (c ∷ x)) ≤ length a)
  i = lead_front is_space a c x y h.1

  by_flow : (q : Bool)
      → cond q (content_at (lead is_white (a ++ (c ∷ x))) (past_white (a ++ (c ∷ x)))) (cond (nat_lt (indent (a ++ (c ∷ x))) (above_of s.parent) || begins_with 9 (drop (indent (a ++ (c ∷ x))) (a ++ (c ∷ x)))) Outside (content_at (indent (a ++ (c ∷ x))) (drop (indent (a ++ (c ∷ x))) (a ++ (c ∷ x)))))
      ≡ cond q (content_at (lead is_white (a ++ (c ∷ y))) (past_white (a ++ (c ∷ y)))) (cond (nat_lt (indent (a ++ (c ∷ y))) (above_of s.parent) || begins_with 9 (drop (indent (a ++ (c ∷ y))) (a ++ (c ∷ y)))) Outside (content_at (indent (a ++ (c ∷ y))) (drop (indent (a ++ (c ∷ y))) (a ++ (c ∷ y)))))
  by_flow true = content_part (lead is_white (a ++ (c ∷ x))) (lead is_white (a ++ (c ∷ y))) a c x y w.0 w.1
  by_flow false =
      let t : begins_with 9 (drop (indent (a ++ (c ∷ x))) (a ++ (c ∷ x))) ≡ begins_with 9 (drop (indent (a ++ (c ∷ y))) (a ++ (c ∷ y))) = begins_part 9 (indent (a ++ (c ∷ x))) a c x y i.1 ∙ ap (λ k. begins_with 9 (drop k (a ++ (c ∷ y)))) i.0 in
      ap (λ q. cond (nat_lt (indent (a ++ (c ∷ x))) (above_of s.parent) || q) Outside (content_at (indent (a ++ (c ∷ x))) (drop (indent (a ++ (c ∷ x))) (a ++ (c ∷ x))))) t
      ∙ ap (λ k. cond (nat_lt k (above_of s.parent) || begins_with 9 (drop (indent (a ++ (c ∷ y))) (a ++ (c ∷ y)))) Outside (content_at (indent (a ++ (c ∷ x))) (drop (indent (a ++ (c ∷ x))) (a ++ (c ∷ x))))) i.0
      ∙ ap (λ o. cond (nat_lt (indent (a ++ (c ∷ y))) (above_of s.parent) || begins_with 9 (drop (indent (a ++ (c ∷ y))) (a ++ (c ∷ y)))) Outside o) (content_part (indent (a ++ (c ∷ x))) (indent (a ++ (c ∷ y))) a c x y i.0 i.1)

pub below_front : (s : Setting) (a : List ℕ) (c : ℕ) (x y : List ℕ) → IsShown c → below s (a ++ (c ∷ x)) ≡ below s (a ++ (c ∷ y))
below_front s a c x y h =
    ap (λ q. cond q Blank (cond (is_mark (a ++ (c ∷ x))) Outside (inside s (a ++ (c ∷ x))))) (blank_front a c x h.0 ∙ sym (blank_front a c y h.0))
    ∙ ap (λ q. cond (is_blank (a ++ (c ∷ y))) Blank (cond q Outside (inside s (a ++ (c ∷ x))))) (mark_front a c x y h)
    ∙ ap (λ o. cond (is_blank (a ++ (c ∷ y))) Blank (cond (is_mark (a ++ (c ∷ y))) Outside o)) (inside_front s a c x y h)

-- the byte that shows it is a carriage return or a colon
shown_return : (c : ℕ) → c ≡ 13 → IsShown c
shown_return c e = (grind (arith, nat_tests, e), grind (arith, nat_tests, e), grind (arith, nat_tests, e), grind (arith, nat_tests, e))

pub shown_colon : (c : ℕ) → c ≡ 58 → IsShown c
shown_colon c e = (grind (arith, nat_tests, e), grind (arith, nat_tests, e), grind (arith, nat_tests, e), grind (arith, nat_tests, e))

-- the bytes of a failing line: those before the byte that shows it, that byte, and others
pub fail_parts : (flow : Bool) (xs : List ℕ) (n : ℕ) → n ≤ length xs → FailsAt flow (reason flow (drop n xs)) → (a z : List ℕ) × (c : ℕ) × (xs ≡ a ++ (c ∷ z)) × (length a ≡ n + plain_len flow false (drop n xs)) × IsShown c × (drop n xs ≡ drop n a ++ (c ∷ z)) × (plain_len flow false (drop n a ++ (c ∷ z)) ≡ length (drop n a)) × FailsAt flow (why (c ∷ z)) × (reason flow (drop n xs) ≡ why (c ∷ z))
fail_parts flow xs n l w = by_tail (drop (plain_len flow false (drop n xs)) (drop n xs)) refl w where
  shown : (c : ℕ) (z : List ℕ) → FailsAt flow (why (c ∷ z)) → IsShown c
  shown c z (inl h) = shown_return c (why_return c z h)
  shown c z (inr h) = shown_colon c (why_colon c z h.0)

  by_tail : (t : List ℕ) → drop (plain_len flow false (drop n xs)) (drop n xs) ≡ t → FailsAt flow (why t) → (a z : List ℕ) × (c : ℕ) × (xs ≡ a ++ (c ∷ z)) × (length a ≡ n + plain_len flow false (drop n xs)) × IsShown c × (drop n xs ≡ drop n a ++ (c ∷ z)) × (plain_len flow false (drop n a ++ (c ∷ z)) ≡ length (drop n a)) × FailsAt flow (why (c ∷ z)) × (reason flow (drop n xs) ≡ why (c ∷ z))
  by_tail [] e (inl h) = absurd (cc)
  by_tail [] e (inr h) = absurd (let g = h.0 in cc)
  by_tail (c ∷ z) e w =
      let m = plain_len flow false (drop n xs) in
      let a = take (n + m) xs in
      let le = plain_le flow false (drop n xs) in
      let size : length a ≡ n + m = omega (arith, le, length-drop n xs, length-take (n + m) xs, l) in
      let parts : xs ≡ a ++ (c ∷ z) = sym (take-append-drop (n + m) xs) ∙ ap (λ t. a ++ t) (sym (drop-drop m n xs) ∙ e) in
      let within : n ≤ length a = omega (arith, size) in
      let dropped : drop n xs ≡ drop n a ++ (c ∷ z) = ap (drop n) parts ∙ drop_front n a (c ∷ z) within in
      let dl = drop_length n a within in
      let short : plain_len flow false (drop n a ++ (c ∷ z)) ≡ length (drop n a) = ap (plain_len flow false) (sym dropped) ∙ (let k : m ≡ length (drop n a) = omega (arith, dl, size) in k) in
      (a, z, c, parts, size, shown c z w, dropped, short, w, ap why e)

-- the byte that shows it is in the line
pub fail_within : (flow : Bool) (xs : List ℕ) (n : ℕ) → n ≤ length xs → FailsAt flow (reason flow (drop n xs)) → n + plain_len flow false (drop n xs) < length xs
fail_within flow xs n l w =
    let d = fail_parts flow xs n l w in
    let e = ap (λ (t : List ℕ). length t) d.3 in
    let f = length-append d.0 (d.2 ∷ d.1) in
    let g = d.4 in
    omega (arith, e, f, g)

-- bytes in common, taken apart
pub split_same : (front x a z : List ℕ) (c : ℕ) → front ++ x ≡ a ++ (c ∷ z) → length front ≡ suc (length a) → (front ≡ a ++ (c ∷ [])) × (x ≡ z)
split_same [] x a z c e l = absurd (omega (arith, l))
split_same (d ∷ []) x [] z c e l = ((let h : d ≡ c = cc in ap (λ k. k ∷ []) h), cc)
split_same (d ∷ f ∷ front) x [] z c e l = absurd (omega (arith, l))
split_same (d ∷ front) x (f ∷ a) z c e l =
    let h : d ≡ f = cc in
    let t : front ++ x ≡ a ++ (c ∷ z) = cc in
    let r = split_same front x a z c t (omega (arith, l)) in
    (ap (λ k. k ∷ front) h ∙ ap (λ k. f ∷ k) r.0, r.1)

-- a line that fails: each line with the same bytes up to the place fails
pub line_dead : (s : Setting) (p at : ℕ) (l m : List ℕ) (n : ℕ) (u : List ℕ) (f : ℕ) (t : List ℕ) (e k : ℕ) (next : List ℕ → ℕ → ℕ → Outcome) → below s l ≡ Further n → FailsAt s.flow (reason s.flow (drop n l)) → p ≡ at + n + plain_len s.flow false (drop n l) + 1 → SplitAt p at l m → further s (below s m) at m t e k next ≡ Stands u f → ⊥
line_dead s p at l m n u f t e k next b w q sp g =
    let d = fail_parts s.flow l n (skip_le s l n b) w in
    let a = d.0 in
    let z = d.1 in
    let c = d.2 in
    let front = sp.0 in
    let x = sp.1 in
    let y = sp.2 in
    let size : length front ≡ suc (length a) = omega (arith, sp.5, q, d.4) in
    let j = split_same front x a z c (sym sp.3 ∙ d.3) size in
    let same : SameAhead z y = subst (λ x. SameAhead x y) j.1 sp.6 in
    let other : m ≡ a ++ (c ∷ y) = sp.4 ∙ ap (λ f. f ++ y) j.0 ∙ append_assoc a (c ∷ []) y in
    let below_is : below s m ≡ Further n = ap (below s) other ∙ sym (below_front s a c z y d.5) ∙ ap (below s) (sym d.3) ∙ b in
    let within : n ≤ length a = omega (arith, d.4) in
    let part : drop n m ≡ drop n a ++ (c ∷ y) = ap (drop n) other ∙ drop_front n a (c ∷ y) within in
    let fails = subst (λ t. FailsAt s.flow (reason s.flow t)) (sym part) (other_fails s.flow (drop n a) c z y d.7 d.8 same) in
    fails_of s.flow (reason s.flow (drop n m)) (drop n m) (at + n) t e k next u f fails (sym (ap (λ w. further s w at m t e k next) below_is) ∙ g)

-- bytes that end with one
pub last_apart : (c : ℕ) (a : List ℕ) → ends_with c a ≡ true → (r : List ℕ) × (a ≡ r ++ (c ∷ []))
last_apart c [] h = absurd (cc)
last_apart c (b ∷ []) h = let e : b ≡ c = grind (arith, nat_tests, h) in ([], ap (λ k. k ∷ []) e)
last_apart c (b ∷ d ∷ a) h = let r = last_apart c (d ∷ a) h in (b ∷ r.0, ap (λ t. b ∷ t) r.1)

pub take_front : (r x : List ℕ) → take (length r) (r ++ x) ≡ r
take_front [] x = refl
take_front (d ∷ r) x = ap (λ t. d ∷ t) (take_front r x)

-- a line that fails at a carriage return behind a `:`
pub line_cut : (s : Setting) (p at : ℕ) (l m : List ℕ) (n : ℕ) (u : List ℕ) (f : ℕ) (t : List ℕ) (e k : ℕ) (next : List ℕ → ℕ → ℕ → Outcome) → below s l ≡ Further n → FailsBefore s.flow (drop n l) (at + n) p (reason s.flow (drop n l)) → SplitAt p at l m → further s (below s m) at m t e k next ≡ Stands u f → ⊥
line_cut s p at l m n u f t e k next b (q, w, flow, colon) sp g =
    let d = fail_parts s.flow l n (skip_le s l n b) (inl w) in
    let a = d.0 in
    let z = d.1 in
    let c = d.2 in
    let size : length sp.0 ≡ length a = omega (arith, sp.5, q, d.4) in
    let j = split_there sp.0 sp.1 a (c ∷ z) (sym sp.3 ∙ d.3) size in
    let other : m ≡ a ++ sp.2 = sp.4 ∙ ap (λ f. f ++ sp.2) j.0 in
    let within : n ≤ length a = omega (arith, d.4) in
    let is : c ≡ 13 = why_return c z (sym d.9 ∙ w) in
    let short : plain_len s.flow false (drop n a ++ (13 ∷ z)) ≡ length (drop n a) = subst (λ c. plain_len s.flow false (drop n a ++ (c ∷ z)) ≡ length (drop n a)) is d.7 in
    let before : take (plain_len s.flow false (drop n l)) (drop n l) ≡ drop n a = ap (λ y. take (plain_len s.flow false y) y) d.6 ∙ ap (λ k. take k (drop n a ++ (c ∷ z))) d.7 ∙ take_front (drop n a) (c ∷ z) in
    let last = last_apart 58 (drop n a) (sym (ap (ends_with 58) before) ∙ colon) in
    let whole : a ≡ (take n a ++ last.0) ++ (58 ∷ []) = sym (take-append-drop n a) ∙ ap (λ y. take n a ++ y) last.1 ∙ sym (append_assoc (take n a) last.0 (58 ∷ [])) in
    let below_of : (y : List ℕ) → below s (a ++ y) ≡ Further n = λ y.
    ap (λ a. below s (a ++ y)) whole ∙ ap (below s) (append_assoc (take n a ++ last.0) (58 ∷ []) y) ∙ below_front s (take n a ++ last.0) 58 y (c ∷ z) (shown_colon 58 refl)
    ∙ sym (ap (below s) (append_assoc (take n a ++ last.0) (58 ∷ []) (c ∷ z))) ∙ sym (ap (λ a. below s (a ++ (c ∷ z))) whole) ∙ ap (below s) (sym d.3) ∙ b in
    let fails : (y : List ℕ) → SameAhead (13 ∷ z) y → FailsAt s.flow (reason s.flow (drop n a ++ y)) = λ y h. by_ahead (drop n a) last.0 y z last.1 flow short h in
    fails_of s.flow (reason s.flow (drop n m)) (drop n m) (at + n) t e k next u f
    (subst (λ y. FailsAt s.flow (reason s.flow y)) (sym (ap (drop n) other ∙ drop_front n a sp.2 within)) (fails sp.2 (subst (λ c. SameAhead (c ∷ z) sp.2) is (subst (λ x. SameAhead x sp.2) j.1 sp.6))))
    (sym (ap (λ w. further s w at m t e k next) (ap (below s) other ∙ below_of sp.2)) ∙ g) where
      split_there : (front x a z : List ℕ) → front ++ x ≡ a ++ z → length front ≡ length a → (front ≡ a) × (x ≡ z)
      split_there [] x [] z e l = (refl, e)
      split_there [] x (d ∷ a) z e l = absurd (omega (arith, l))
      split_there (d ∷ front) x [] z e l = absurd (omega (arith, l))
      split_there (d ∷ front) x (h ∷ a) z e l =
          let i : d ≡ h = cc in
          let t : front ++ x ≡ a ++ z = cc in
          let r = split_there front x a z t (omega (arith, l)) in
          (ap (λ k. k ∷ front) i ∙ ap (λ k. h ∷ k) r.0, r.1)

      returned : (w r v z : List ℕ) → plain_len s.flow false (w ++ (13 ∷ z)) ≡ length w → FailsAt s.flow (reason s.flow (w ++ (13 ∷ v)))
      returned w r v z h = inl (other_return s.flow w z v h)

      ended : (w r z : List ℕ) → w ≡ r ++ (58 ∷ []) → s.flow ≡ false → plain_len s.flow false (w ++ (13 ∷ z)) ≡ length w → FailsAt s.flow (reason s.flow (w ++ []))
      ended w r z e o h =
          let h2 : plain_len false false (r ++ (58 ∷ (13 ∷ z))) ≡ length (r ++ (58 ∷ [])) = ap (plain_len false false) (sym (append_assoc r (58 ∷ []) (13 ∷ z))) ∙ subst (λ o. plain_len o false ((r ++ (58 ∷ [])) ++ (13 ∷ z)) ≡ length (r ++ (58 ∷ []))) o (subst (λ w. plain_len s.flow false (w ++ (13 ∷ z)) ≡ length w) e h) in
          let m : length r ≤ plain_len false false (r ++ (58 ∷ (13 ∷ z))) = omega (arith, h2, length-append r (58 ∷ [])) in
          let c : reason s.flow (w ++ []) ≡ Colon = ap (reason s.flow) (append-nil w ∙ e) ∙ ap (λ o. reason o (r ++ (58 ∷ []))) o ∙ colon_last r (13 ∷ z) m in
          inr (c, o)

      by_ahead : (w r y z : List ℕ) → w ≡ r ++ (58 ∷ []) → s.flow ≡ false → plain_len s.flow false (w ++ (13 ∷ z)) ≡ length w → SameAhead (13 ∷ z) y → FailsAt s.flow (reason s.flow (w ++ y))
      by_ahead w r y z e o h (inl i) =
          let c : i.0 ≡ 13 = (let k = i.3 in cc) in
          subst (λ y. FailsAt s.flow (reason s.flow (w ++ y))) (sym (i.4 ∙ ap (λ k. k ∷ i.2) c)) (returned w r i.2 z h)
      by_ahead w r [] z e o h (inr i) = ended w r z e o h
      by_ahead w r (d ∷ y) z e o h (inr i) = subst (λ d. FailsAt s.flow (reason s.flow (w ++ (d ∷ y)))) (sym i.1) (returned w r y z h)

-- lines that agree up to a place at which the first ones fail: the others fail too
pub more_dead : (s : Setting) (p : ℕ) (ls ms : List Line) (t : List ℕ) (e k : ℕ) (u : List ℕ) (f : ℕ) → Shares p ls ms → more s ls t e k ≡ Fails p → more s ms t e k ≡ Stands u f → ⊥
more_dead s p [] ms t e k u f sh h g = sh
more_dead s p (l ∷ ls) [] t e k u f sh h g = sh
more_dead s p (l ∷ ls) (m ∷ ms) t e k u f sh h g = by_shares sh (λ x y z a b c. more_dead s p ls ms x y z u f a b c) where
  by_shares : Shares p (l ∷ ls) (m ∷ ms) → ((x : List ℕ) (y z : ℕ) → Shares p ls ms → more s ls x y z ≡ Fails p → more s ms x y z ≡ Stands u f → ⊥) → ⊥
  by_shares (inl q) r = same (below s l.bytes) h (subst (λ (m : Line). further s (below s m.bytes) m.at m.bytes t e k (more s ms) ≡ Stands u f) (sym q.0) g) where
    same : (w : Below) → further s w l.at l.bytes t e k (more s ls) ≡ Fails p → further s w l.at l.bytes t e k (more s ms) ≡ Stands u f → ⊥
    same Blank a b = r t e (suc k) q.1 a b
    same Outside a b = absurd (cc)
    same (Further n) a b = let j = joins_both s.flow (reason s.flow (drop n l.bytes)) (drop n l.bytes) (l.at + n) t e k p (more s ls) (more s ms) u f a b in r _ _ _ q.1 j.0 j.1
  by_shares (inr (inl q)) r = split (below s l.bytes) refl h where
    split : (w : Below) → below s l.bytes ≡ w → further s w l.at l.bytes t e k (more s ls) ≡ Fails p → ⊥
    split Blank b a = more_later s p ls t e (suc k) q.2 a
    split Outside b a = absurd (cc)
    split (Further n) b a = elim (joins_fails s.flow (reason s.flow (drop n l.bytes)) (drop n l.bytes) (l.at + n) t e k p (more s ls) a) [
      | inl i ↦ more_later s p ls _ _ _ q.2 i
      | inr i ↦ (let g2 = subst (λ a. further s (below s m.bytes) a m.bytes t e k (more s ms) ≡ Stands u f) (sym q.0) g in
          elim i [ inl j ↦ line_dead s p l.at l.bytes m.bytes n u f t e k (more s ms) b j.1 j.0 q.1 g2 | inr j ↦ line_cut s p l.at l.bytes m.bytes n u f t e k (more s ms) b j q.1 g2 ])
    ]
  by_shares (inr (inr q)) r = feed (below s l.bytes) refl h where
    feed : (w : Below) → below s l.bytes ≡ w → further s w l.at l.bytes t e k (more s ls) ≡ Fails p → ⊥
    feed Blank b a = more_later s p ls t e (suc k) q.2 a
    feed Outside b a = absurd (cc)
    feed (Further n) b a = elim (joins_fails s.flow (reason s.flow (drop n l.bytes)) (drop n l.bytes) (l.at + n) t e k p (more s ls) a) [
      | inl i ↦ more_later s p ls _ _ _ q.2 i
      | inr i ↦ elim i [
        | inl j ↦ (let w = fail_within s.flow l.bytes n (skip_le s l.bytes n b) j.1 in let x = q.1 in let y = j.0 in absurd (omega (arith, x, y, w)))
        | inr j ↦ (let w = fail_within s.flow l.bytes n (skip_le s l.bytes n b) (inl j.1) in let x = q.1 in let y = j.0 in absurd (omega (arith, x, y, w)))
      ]
    ]
