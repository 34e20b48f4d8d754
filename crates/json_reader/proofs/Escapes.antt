-- What stands in an escape that is not complete: its bytes so far, and how they go on to one.
use Rattle.std.proofs.Common.{◌≡◌, ℕ, ◌+◌, ◌-◌, ◌*◌, Bool, true, false, List, [], ◌∷◌, ◌++◌, refl, sym, ap, ◌∙◌, inl, inr, subst, arith, append-nil, Option, Some, None, cond}
use Rattle.std.specs.Prelude.{nat_eq, ◌&&◌, ◌||◌, not, encode_utf8}
use Rattle.std.proofs.lemmas.Bool.Decides.{nat_tests}
use Rattle.json_reader.specs.Json.{is_unescaped, is_hex, hex, is_unit, unit, is_high, is_low, opens_unit, escape, Chars}
use Rattle.json_reader.specs.code.Reading.{Bad, Closed, Part, Whole, may_escape, escape_heard, heard}
use Rattle.json_reader.proofs.Front.{either}
use Rattle.json_reader.proofs.Strings.{both, both_true, no_chars, chars_cons, backslash_is}

-- bytes that begin an escape and complete none
abbrev pub Escaping : List ℕ → Type 0
Escaping [] = Unit {0}
Escaping (x ∷ []) = x ≡ 92
Escaping (x ∷ y ∷ []) = (x ≡ 92) × (y ≡ 117)
Escaping (x ∷ y ∷ a ∷ []) = (x ≡ 92) × (y ≡ 117) × (is_hex a ≡ true)
Escaping (x ∷ y ∷ a ∷ b ∷ []) = (x ≡ 92) × (y ≡ 117) × (is_hex a ≡ true) × (is_hex b ≡ true) × (not (is_low a b) ≡ true)
Escaping (x ∷ y ∷ a ∷ b ∷ c ∷ []) = (x ≡ 92) × (y ≡ 117) × (is_hex a ≡ true) × (is_hex b ≡ true) × (not (is_low a b) ≡ true) × (is_hex c ≡ true)
Escaping (x ∷ y ∷ a ∷ b ∷ c ∷ d ∷ []) = (x ≡ 92) × (y ≡ 117) × (is_unit a b c d ≡ true) × (is_high a b ≡ true)
Escaping (x ∷ y ∷ a ∷ b ∷ c ∷ d ∷ v ∷ []) = (x ≡ 92) × (y ≡ 117) × (is_unit a b c d ≡ true) × (is_high a b ≡ true) × (v ≡ 92)
Escaping (x ∷ y ∷ a ∷ b ∷ c ∷ d ∷ v ∷ w ∷ []) = (x ≡ 92) × (y ≡ 117) × (is_unit a b c d ≡ true) × (is_high a b ≡ true) × (v ≡ 92) × (w ≡ 117)
Escaping (x ∷ y ∷ a ∷ b ∷ c ∷ d ∷ v ∷ w ∷ e ∷ []) = (x ≡ 92) × (y ≡ 117) × (is_unit a b c d ≡ true) × (is_high a b ≡ true) × (v ≡ 92) × (w ≡ 117) × (is_hex e ≡ true) × (nat_eq (hex e) 13 ≡ true)
Escaping (x ∷ y ∷ a ∷ b ∷ c ∷ d ∷ v ∷ w ∷ e ∷ f ∷ []) = (x ≡ 92) × (y ≡ 117) × (is_unit a b c d ≡ true) × (is_high a b ≡ true) × (v ≡ 92) × (w ≡ 117) × (is_hex e ≡ true) × (is_hex f ≡ true) × (is_low e f ≡ true)
Escaping (x ∷ y ∷ a ∷ b ∷ c ∷ d ∷ v ∷ w ∷ e ∷ f ∷ g ∷ []) = (x ≡ 92) × (y ≡ 117) × (is_unit a b c d ≡ true) × (is_high a b ≡ true) × (v ≡ 92) × (w ≡ 117) × (is_hex e ≡ true) × (is_hex f ≡ true) × (is_low e f ≡ true) × (is_hex g ≡ true)
Escaping _ = ⊥

u_is : (b : ℕ) → nat_eq b 117 ≡ true → b ≡ 117
u_is b h = grind (arith, nat_tests)

unit_is : (a b c d : ℕ) → is_hex a ≡ true → is_hex b ≡ true → is_hex c ≡ true → is_hex d ≡ true → is_unit a b c d ≡ true
unit_is a b c d p q r s = both_true (is_hex a && is_hex b && is_hex c) (is_hex d) (both_true (is_hex a && is_hex b) (is_hex c) (both_true (is_hex a) (is_hex b) p q) r) s

false_true : false ≡ true → ⊥
false_true e = cc

-- one byte more
escaping_more : (x : ℕ) (part : List ℕ) (b : ℕ) → Escaping (x ∷ part) → may_escape (x ∷ (part ++ (b ∷ []))) ≡ true → Escaping (x ∷ (part ++ (b ∷ [])))
escaping_more x [] b e m = (e, u_is b m)
escaping_more x (y ∷ []) b e m = (e.0, e.1, m)
escaping_more x (y ∷ a ∷ []) b e m = let k = both (is_hex b) (not (is_low a b)) m in (e.0, e.1, e.2, k.0, k.1)
escaping_more x (y ∷ a ∷ b ∷ []) c e m = (e.0, e.1, e.2, e.3, e.4, m)
escaping_more x (y ∷ a ∷ b ∷ c ∷ []) d e m = let k = both (is_hex d) (is_high a b) m in (e.0, e.1, unit_is a b c d e.2 e.3 e.5 k.0, k.1)
escaping_more x (y ∷ a ∷ b ∷ c ∷ d ∷ []) v e m = (e.0, e.1, e.2, e.3, backslash_is v m)
escaping_more x (y ∷ a ∷ b ∷ c ∷ d ∷ v ∷ []) w e m = (e.0, e.1, e.2, e.3, e.4, u_is w m)
escaping_more x (y ∷ a ∷ b ∷ c ∷ d ∷ v ∷ w ∷ []) g e m = let k = both (is_hex g) (nat_eq (hex g) 13) m in (e.0, e.1, e.2, e.3, e.4, e.5, k.0, k.1)
escaping_more x (y ∷ a ∷ b ∷ c ∷ d ∷ v ∷ w ∷ g ∷ []) f e m = let k = both (is_hex f) (is_low g f) m in (e.0, e.1, e.2, e.3, e.4, e.5, e.6, k.0, k.1)
escaping_more x (y ∷ a ∷ b ∷ c ∷ d ∷ v ∷ w ∷ g ∷ f ∷ []) h e m = (e.0, e.1, e.2, e.3, e.4, e.5, e.6, e.7, e.8, m)
escaping_more x (y ∷ a ∷ b ∷ c ∷ d ∷ v ∷ w ∷ g ∷ f ∷ h ∷ []) j e m = absurd (false_true m)
escaping_more x (y ∷ a ∷ b ∷ c ∷ d ∷ v ∷ w ∷ g ∷ f ∷ h ∷ (j ∷ more)) l e m = elim e [ ]

first_part : (p q r : Bool) (b : ℕ) (s : List ℕ) → cond p Closed (cond q (Part (92 ∷ [])) (cond r (Whole (b ∷ [])) Bad)) ≡ Part s → s ≡ 92 ∷ []
first_part true q r b s e = absurd (cc)
first_part false true r b s e = cc
first_part false false true b s e = absurd (cc)
first_part false false false b s e = absurd (cc)

later_part : (o : Option ℕ) (q : Bool) (s t : List ℕ) → escape_heard o q s ≡ Part t → (q ≡ true) × (s ≡ t)
later_part (Some n) q s t e = absurd (cc)
later_part None true s t e = (refl, cc)
later_part None false s t e = absurd (cc)

pub escaping_next : (part : List ℕ) (b : ℕ) (s : List ℕ) → Escaping part → heard part b ≡ Part s → Escaping s
escaping_next [] b s e h = subst Escaping (sym (first_part (nat_eq b 34) (nat_eq b 92) (is_unescaped b) b s h)) refl
escaping_next (x ∷ part) b s e h =
    let t : List ℕ = x ∷ (part ++ (b ∷ [])) in
    let k = later_part (escape t) (may_escape t) t s h in
    subst Escaping k.1 (escaping_more x part b e k.0)

-- escapes that are complete
abbrev Spells : List ℕ → Type 0
Spells s = (n : ℕ) × (escape s ≡ Some n)

six : (x y a b c d : ℕ) → x ≡ 92 → y ≡ 117 → is_unit a b c d ≡ true → is_high a b ≡ false → is_low a b ≡ false → Spells (x ∷ y ∷ a ∷ b ∷ c ∷ d ∷ [])
six x y a b c d ex ey u h l = (
  unit a b c d,
  ap (λ z. escape (z ∷ y ∷ a ∷ b ∷ c ∷ d ∷ [])) ex ∙ ap (λ z. escape (92 ∷ z ∷ a ∷ b ∷ c ∷ d ∷ [])) ey
      ∙ ap (λ p. cond p (cond (is_high a b || is_low a b) None (Some (unit a b c d))) None) u ∙ ap (λ p. cond (p || is_low a b) None (Some (unit a b c d))) h ∙ ap (λ p. cond p None (Some (unit a b c d))) l,
)

twelve : (x y a b c d v w e f g h : ℕ) → x ≡ 92 → y ≡ 117 → is_unit a b c d ≡ true → is_high a b ≡ true → v ≡ 92 → w ≡ 117 → is_unit e f g h ≡ true → is_low e f ≡ true → Spells (x ∷ y ∷ a ∷ b ∷ c ∷ d ∷ v ∷ w ∷ e ∷ f ∷ g ∷ h ∷ [])
twelve x y a b c d v w e f g h ex ey u hi ev ew k lo =
    let n : ℕ = 65536 + (unit a b c d - 55296) * 1024 + (unit e f g h - 56320) in (
      n,
      ap (λ z. escape (z ∷ y ∷ a ∷ b ∷ c ∷ d ∷ v ∷ w ∷ e ∷ f ∷ g ∷ h ∷ [])) ex ∙ ap (λ z. escape (92 ∷ z ∷ a ∷ b ∷ c ∷ d ∷ v ∷ w ∷ e ∷ f ∷ g ∷ h ∷ [])) ey
          ∙ ap (λ p. cond p (cond (is_high a b) (cond (opens_unit v w) (cond (is_unit e f g h) (cond (is_low e f) (Some n) None) None) None) None) None) u
          ∙ ap (λ p. cond p (cond (opens_unit v w) (cond (is_unit e f g h) (cond (is_low e f) (Some n) None) None) None) None) hi
          ∙ ap (λ z. cond (opens_unit z w) (cond (is_unit e f g h) (cond (is_low e f) (Some n) None) None) None) ev
          ∙ ap (λ z. cond (opens_unit 92 z) (cond (is_unit e f g h) (cond (is_low e f) (Some n) None) None) None) ew
          ∙ ap (λ p. cond p (cond (is_low e f) (Some n) None) None) k ∙ ap (λ p. cond p (Some n) None) lo,
    )

high_zero : (a : ℕ) → is_high a 48 ≡ false
high_zero a = both_last (nat_eq (hex a) 13)
  where
    both_last : (p : Bool) → ((p && false) && true) ≡ false
    both_last true = refl
    both_last false = refl

low_zero : (a : ℕ) → is_low a 48 ≡ false
low_zero a = both_last (nat_eq (hex a) 13)
  where
    both_last : (p : Bool) → (p && false) ≡ false
    both_last true = refl
    both_last false = refl

not_is : (p : Bool) → not p ≡ true → p ≡ false
not_is true h = absurd (cc)
not_is false h = refl

-- bytes that go on to an escape
abbrev GoesOn : List ℕ → Type 0
GoesOn part = (rest : List ℕ) × Spells (part ++ rest)

after_two : (x y a b : ℕ) → x ≡ 92 → y ≡ 117 → is_hex a ≡ true → is_hex b ≡ true → not (is_low a b) ≡ true → GoesOn (x ∷ y ∷ a ∷ b ∷ [])
after_two x y a b ex ey ha hb l = elim (either (is_high a b)) [
  | inl h ↦ (48 ∷ 48 ∷ 92 ∷ 117 ∷ 100 ∷ 99 ∷ 48 ∷ 48 ∷ [], twelve x y a b 48 48 92 117 100 99 48 48 ex ey (unit_is a b 48 48 ha hb refl refl) h refl refl refl refl)
  | inr h ↦ (48 ∷ 48 ∷ [], six x y a b 48 48 ex ey (unit_is a b 48 48 ha hb refl refl) h (not_is (is_low a b) l))
]

after_three : (x y a b c : ℕ) → x ≡ 92 → y ≡ 117 → is_hex a ≡ true → is_hex b ≡ true → not (is_low a b) ≡ true → is_hex c ≡ true → GoesOn (x ∷ y ∷ a ∷ b ∷ c ∷ [])
after_three x y a b c ex ey ha hb l hc = elim (either (is_high a b)) [
  | inl h ↦ (48 ∷ 92 ∷ 117 ∷ 100 ∷ 99 ∷ 48 ∷ 48 ∷ [], twelve x y a b c 48 92 117 100 99 48 48 ex ey (unit_is a b c 48 ha hb hc refl) h refl refl refl refl)
  | inr h ↦ (48 ∷ [], six x y a b c 48 ex ey (unit_is a b c 48 ha hb hc refl) h (not_is (is_low a b) l))
]

goes_on : (x : ℕ) (part : List ℕ) → Escaping (x ∷ part) → GoesOn (x ∷ part)
goes_on x [] e = (110 ∷ [], (10, ap (λ z. escape (z ∷ 110 ∷ [])) e))
goes_on x (y ∷ []) (ex, ey) = (48 ∷ 48 ∷ 48 ∷ 48 ∷ [], six x y 48 48 48 48 ex ey refl refl refl)
goes_on x (y ∷ a ∷ []) (ex, ey, ha) = (48 ∷ 48 ∷ 48 ∷ [], six x y a 48 48 48 ex ey (unit_is a 48 48 48 ha refl refl refl) (high_zero a) (low_zero a))
goes_on x (y ∷ a ∷ b ∷ []) (ex, ey, ha, hb, l) = after_two x y a b ex ey ha hb l
goes_on x (y ∷ a ∷ b ∷ c ∷ []) (ex, ey, ha, hb, l, hc) = after_three x y a b c ex ey ha hb l hc
goes_on x (y ∷ a ∷ b ∷ c ∷ d ∷ []) (ex, ey, u, h) = (92 ∷ 117 ∷ 100 ∷ 99 ∷ 48 ∷ 48 ∷ [], twelve x y a b c d 92 117 100 99 48 48 ex ey u h refl refl refl refl)
goes_on x (y ∷ a ∷ b ∷ c ∷ d ∷ v ∷ []) (ex, ey, u, h, ev) = (117 ∷ 100 ∷ 99 ∷ 48 ∷ 48 ∷ [], twelve x y a b c d v 117 100 99 48 48 ex ey u h ev refl refl refl)
goes_on x (y ∷ a ∷ b ∷ c ∷ d ∷ v ∷ w ∷ []) (ex, ey, u, h, ev, ew) = (100 ∷ 99 ∷ 48 ∷ 48 ∷ [], twelve x y a b c d v w 100 99 48 48 ex ey u h ev ew refl refl)
goes_on x (y ∷ a ∷ b ∷ c ∷ d ∷ v ∷ w ∷ e ∷ []) (ex, ey, u, h, ev, ew, he, et) = (99 ∷ 48 ∷ 48 ∷ [], twelve x y a b c d v w e 99 48 48 ex ey u h ev ew (unit_is e 99 48 48 he refl refl refl) (ap (λ p. p && true) et))
goes_on x (y ∷ a ∷ b ∷ c ∷ d ∷ v ∷ w ∷ e ∷ f ∷ []) (ex, ey, u, h, ev, ew, he, hf, lo) = (48 ∷ 48 ∷ [], twelve x y a b c d v w e f 48 48 ex ey u h ev ew (unit_is e f 48 48 he hf refl refl) lo)
goes_on x (y ∷ a ∷ b ∷ c ∷ d ∷ v ∷ w ∷ e ∷ f ∷ g ∷ []) (ex, ey, u, h, ev, ew, he, hf, lo, hg) = (48 ∷ [], twelve x y a b c d v w e f g 48 ex ey u h ev ew (unit_is e f g 48 he hf hg refl) lo)
goes_on x (y ∷ a ∷ b ∷ c ∷ d ∷ v ∷ w ∷ e ∷ f ∷ g ∷ (j ∷ more)) h = elim h [ ]

-- so they go on to a character
pub escaping_ends : (part : List ℕ) → Escaping part → (rest text : List ℕ) × Chars (part ++ rest) text
escaping_ends [] e = ([], [], no_chars)
escaping_ends (x ∷ part) e =
    let g = goes_on x part e in
    let s : List ℕ = (x ∷ part) ++ g.0 in
    (g.0, encode_utf8 g.1.0 ++ [], subst (λ (t : List ℕ). Chars t (encode_utf8 g.1.0 ++ [])) (append-nil s) (chars_cons s (encode_utf8 g.1.0) [] [] (inr (g.1.0, g.1.1, refl)) no_chars))

-- no escape goes on with a line feed
pub line_breaks : (before : List ℕ) → may_escape (before ++ (10 ∷ [])) ≡ false
line_breaks [] = refl
line_breaks (x ∷ []) = refl
line_breaks (x ∷ y ∷ []) = refl
line_breaks (x ∷ y ∷ a ∷ []) = refl
line_breaks (x ∷ y ∷ a ∷ b ∷ []) = refl
line_breaks (x ∷ y ∷ a ∷ b ∷ c ∷ []) = refl
line_breaks (x ∷ y ∷ a ∷ b ∷ c ∷ d ∷ []) = refl
line_breaks (x ∷ y ∷ a ∷ b ∷ c ∷ d ∷ v ∷ []) = refl
line_breaks (x ∷ y ∷ a ∷ b ∷ c ∷ d ∷ v ∷ w ∷ []) = refl
line_breaks (x ∷ y ∷ a ∷ b ∷ c ∷ d ∷ v ∷ w ∷ e ∷ []) = refl
line_breaks (x ∷ y ∷ a ∷ b ∷ c ∷ d ∷ v ∷ w ∷ e ∷ f ∷ []) = refl
line_breaks (x ∷ y ∷ a ∷ b ∷ c ∷ d ∷ v ∷ w ∷ e ∷ f ∷ g ∷ []) = refl
line_breaks (x ∷ y ∷ a ∷ b ∷ c ∷ d ∷ v ∷ w ∷ e ∷ f ∷ g ∷ (h ∷ more)) = refl
