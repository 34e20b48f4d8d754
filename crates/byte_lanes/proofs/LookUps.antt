-- The look-ups of a block, lane by lane.
use Rattle.std.proofs.Common.{◌≡◌, ℕ, zero, suc, ◌+◌, ◌-◌, ◌*◌, ◌/◌, ◌%◌, ◌^◌, ◌<◌, ◌≤◌, Bool, true, false, not, cond, eqb, ltb, T, List, [], ◌∷◌, map, length, get_or, replicate, bit_and, refl, sym, ap, ap₂, ◌∙◌, inl, inr, arith, w8, Fits, eqb→eq, subst, eq-zero-or-pos, ◌&&◌, ◌||◌, ◌⊎◌, filter, set, bit_or, get_or-set_same, get_or-set_other, ◌≢◌}
use Rattle.std.proofs.lemmas.List.{get_or-map, length-map, ext_get_or}
use Rattle.std.proofs.lemmas.Nat.{and_le_r, and_mask, pow_pos}
use Rattle.std.proofs.lemmas.Nat.Bits.{and_pow, bit_at-lt, bit_at_set_same, bit_at_set_other, shr_and_one}
use Rattle.std.proofs.lemmas.Bool.{eq-eqb, ne_eqb, cases_lt, lt-ltb, le-ltb, and_right}
use Rattle.std.proofs.lemmas.Bool.Decides.{nat_tests, eqb_tells}
use Rattle.std.proofs.lemmas.Simd.{Each1-all, Each1-weaker, Each1-zip2, Each2-splat, below_from_Fits, length-zip2, swz_l, SwzOk, SwzOk-from_below, length-swz_l, get_or-swz_l_below, zip2_splat, zip2_of_maps, tops_compared, bitmask_splat, map-map}
use Rattle.std.proofs.Math.Nat.{one-mul}
use Rattle.std.proofs.Math.Bool.{or-true, or-false, and-true}
use Rattle.std.specs.Int.{bit_at}
use Rattle.std.specs.List.{range_with_len}
use lib.Lanes.{zip2, sel_l, mask_l, top, Each1}
use Rattle.byte_lanes.specs.declared.set.TheConstants.{BITS}
use Rattle.byte_lanes.specs.code.Members.{holds}
use Rattle.byte_lanes.specs.code.Tables.{is_member, members}

abbrev pub IsBlock : List ℕ → Type 0
IsBlock v = (length v ≡ 16) × Each1 (Fits w8) v

pub lane_fits : (v : List ℕ) (i : ℕ) → Each1 (Fits w8) v → get_or v i 0 < 256
lane_fits [] i h = omega arith
lane_fits (x ∷ xs) zero h = h.0.fits
lane_fits (x ∷ xs) (suc i) h = lane_fits xs i h.1

abbrev down : ℕ → ℕ → ℕ
down a b = a / 2 ^ b

pub high_ok : (v : List ℕ) → IsBlock v → SwzOk w8 16 16 0 (zip2 down v (replicate 16 4))
high_ok v fits =
    let small = Each1-weaker (λ a. a < 256) (λ a. a / 16 < 16) (λ a h. omega arith) v (below_from_Fits w8 v fits.1) in
    SwzOk-from_below w8 16 1 16 0 (zip2 down v (replicate 16 4)) refl (omega (arith, length-zip2 down v (replicate 16 4) fits.0))
    (Each1-zip2 down (λ j. j < 16) v (replicate 16 4) (Each2-splat (λ a b. down a b < 16) v 16 4 small))

pub low_ok : (v : List ℕ) → IsBlock v → SwzOk w8 16 16 0 (zip2 bit_and v (replicate 16 15))
low_ok v fits =
    let small = Each1-all (λ a. bit_and a 15 < 16) (λ a. omega (arith, and_le_r a 15)) v in
    SwzOk-from_below w8 16 1 16 0 (zip2 bit_and v (replicate 16 15)) refl (omega (arith, length-zip2 bit_and v (replicate 16 15) fits.0))
    (Each1-zip2 bit_and (λ j. j < 16) v (replicate 16 15) (Each2-splat (λ a b. bit_and a b < 16) v 16 15 small))

-- a table, read at places g x below 16
pub looked_up : (t : List ℕ) (g : ℕ → ℕ) (v js : List ℕ) → IsBlock v → js ≡ map g v → ((x : ℕ) → x < 256 → g x < 16)
    → swz_l w8 16 t 0 js ≡ map (λ x. get_or t (g x) 0) v
looked_up t g v js fits e small =
    let long : length js ≡ 16 = ap length e ∙ length-map v g ∙ fits.0 in
    ext_get_or 0 _ _ (length-swz_l w8 16 t 0 js ∙ long ∙ sym (length-map v (λ x. get_or t (g x) 0) ∙ fits.0)) (λ i h.
    let lt : i < 16 = omega (arith, length-swz_l w8 16 t 0 js) in
    let within : i < length v = omega (arith, fits.0) in
    let is : get_or js i 0 ≡ g (get_or v i 0) = ap (λ l. get_or l i 0) e ∙ get_or-map g v i 0 0 within in
    let below : get_or js i 0 < 16 = omega (arith, small (get_or v i 0) (lane_fits v i fits.1)) in
    let block : 16 * ((0 + i) / 16) + get_or js i 0 ≡ get_or js i 0 = omega arith in
    get_or-swz_l_below w8 16 t 0 js i (omega arith) below
    ∙ ap (λ k. get_or t k 0) (block ∙ is) ∙ sym (get_or-map (λ x. get_or t (g x) 0) v i 0 0 within))

-- a choice, lane by lane
pub chosen : (f : ℕ → Bool) (g h : ℕ → ℕ) (v : List ℕ) → sel_l (map f v) (map g v) (map h v) ≡ map (λ x. cond (f x) (g x) (h x)) v
chosen f g h [] = refl
chosen f g h (x ∷ xs) = ap (λ r. cond (f x) (g x) (h x) ∷ r) (chosen f g h xs)

-- equal tests of each byte
pub alike : (p q : ℕ → Bool) (v : List ℕ) → Each1 (Fits w8) v → ((x : ℕ) → x < 256 → p x ≡ q x) → map p v ≡ map q v
alike p q [] fits same = refl
alike p q (x ∷ xs) fits same = ap₂ ◌∷◌ (same x fits.0.fits) (alike p q xs fits.1 same)

both_true : (a b : Bool) → T (a && b) → T a × T b
both_true true b t = (tt, t)
both_true false b t = absurd t

abbrev all_below : (ℕ → Bool) → ℕ → Bool
all_below p zero = true
all_below p (suc n) = p n && all_below p n

every_below : (p : ℕ → Bool) (n : ℕ) → T (all_below p n) → (i : ℕ) → i < n → T (p i)
every_below p zero h i l = absurd (omega arith)
every_below p (suc n) h i l =
    elim (eq-zero-or-pos (n - i)) [
      | inl z ↦ let e : n ≡ i = omega arith in subst (λ x. T (p x)) e (both_true _ _ h).0
      | inr g ↦ every_below p n (both_true (p n) _ h).1 i (omega arith)
    ]

bit_test : (b k : ℕ) → b < 2 → not (eqb (b * 2 ^ k) 0) ≡ eqb b 1
bit_test zero k small = let none : zero * 2 ^ k ≡ 0 = omega arith in rw none refl
bit_test (suc zero) k small =
    let one : suc zero * 2 ^ k ≡ 2 ^ k = one-mul (2 ^ k) in
    rw (one, ne_eqb (2 ^ k) 0 (λ (h : 2 ^ k ≡ 0). omega (arith, h, pow_pos k))) refl
bit_test (suc (suc b)) k small = absurd (omega arith)

bit_case : (row k : ℕ) → not (eqb (bit_and row (2 ^ k)) 0) ≡ eqb (bit_at row k) 1
bit_case row k = ap (λ n. not (eqb n 0)) (and_pow row k) ∙ bit_test (bit_at row k) k (bit_at-lt row k)

place : (j : ℕ) → j < 16 → get_or BITS j 0 ≡ 2 ^ (j % 8)
place j h = eqb→eq _ _ (every_below (λ i. eqb (get_or BITS i 0) (2 ^ (i % 8))) 16 tt j h)

module _ (low high : List ℕ) where
  abbrev row : ℕ → ℕ
  row x = cond (ltb x 128) (get_or low (bit_and x 15) 0) (get_or high (bit_and x 15) 0)

  lane_test : (x : ℕ) → x < 256 → not (eqb (bit_and (row x) (get_or BITS (x / 16) 0)) 0) ≡ is_member low high x
  lane_test x small =
      elim (cases_lt x 128) [
        | inl lt ↦
            let test : ltb x 128 ≡ true = grind (arith, nat_tests) in
            let bit : get_or BITS (x / 16) 0 ≡ 2 ^ (x / 16) = place (x / 16) (omega arith) ∙ (let e : x / 16 % 8 ≡ x / 16 = omega arith in ap (λ k. 2 ^ k) e) in
            rw (test, and_mask x 4, bit) (bit_case _ _)
        | inr ge ↦
            let test : ltb x 128 ≡ false = grind (arith, nat_tests) in
            let bit : get_or BITS (x / 16) 0 ≡ 2 ^ (x / 16 - 8) = place (x / 16) (omega arith) ∙ (let e : x / 16 % 8 ≡ x / 16 - 8 = omega arith in ap (λ k. 2 ^ k) e) in
            rw (test, and_mask x 4, bit) (bit_case _ _)
      ]

  abbrev hit_lanes : List ℕ → List ℕ
  hit_lanes v =
      let rows = zip2 bit_and v (replicate 16 15) in
      zip2 bit_and
      (sel_l (map (top 7) (zip2 (λ a b. cond (ltb a b) 255 0) v (replicate 16 128))) (swz_l w8 16 low 0 rows) (swz_l w8 16 high 0 rows))
      (swz_l w8 16 BITS 0 (zip2 down v (replicate 16 4)))

  hit_lanes_are : (v : List ℕ) → IsBlock v → hit_lanes v ≡ map (λ x. bit_and (row x) (get_or BITS (x / 16) 0)) v
  hit_lanes_are v fits =
      let rows = zip2_splat bit_and v 16 15 fits.0 in
      let below : (x : ℕ) → x < 256 → bit_and x 15 < 16 = λ x h. omega (arith, and_le_r x 15) in
      let lows = looked_up low (λ x. bit_and x 15) v _ fits rows below in
      let highs = looked_up high (λ x. bit_and x 15) v _ fits rows below in
      let tests = tops_compared w8 ltb v (replicate 16 128) ∙ zip2_splat ltb v 16 128 fits.0 in
      let bits = looked_up BITS (λ x. x / 16) v _ fits (zip2_splat down v 16 4 fits.0) (λ x h. omega arith) in
      zip2_of_maps bit_and row (λ x. get_or BITS (x / 16) 0) v ((λ i. sel_l (tests i) (lows i) (highs i)) ∙ chosen (λ x. ltb x 128) _ _ v) bits

  -- the mask of a block
  pub hits_are : (v : List ℕ) → IsBlock v →
      mask_l (map (top 7) (zip2 (λ a b. cond (not (eqb a b)) 255 0) (hit_lanes v) (replicate 16 0))) % 2 ^ 64 ≡ mask_l (map (is_member low high) v)
  hits_are v fits =
      let are = hit_lanes_are v fits in
      let long : length (hit_lanes v) ≡ 16 = ap length are ∙ length-map v _ ∙ fits.0 in
      bitmask_splat w8 (λ a b. not (eqb a b)) (hit_lanes v) 16 0 long (omega arith)
      ∙ ap mask_l (ap (map (λ x. not (eqb x 0))) are ∙ map-map (λ x. not (eqb x 0)) _ v ∙ alike _ (is_member low high) v fits.1 lane_test)

-- a row of a table with one bit more
module _ (t : List ℕ) (r k : ℕ) (within : r < length t) (small : k < 8) where
  abbrev pub with_bit : List ℕ
  with_bit = set t r (bit_or (get_or t r 0) (1 * 2 ^ k % 256))

  pub bit_added : (s j : ℕ) → eqb (bit_at (get_or with_bit s 0) j) 1 ≡ (eqb (bit_at (get_or t s 0) j) 1 || (eqb r s && eqb k j))
  bit_added s j =
      elim (eqb_tells r s) [
        | inl row ↦
            let here : get_or with_bit s 0 ≡ bit_or (get_or t s 0) (1 * 2 ^ k % 256) =
            subst (λ x. get_or with_bit x 0 ≡ bit_or (get_or t x 0) (1 * 2 ^ k % 256)) row.1 (get_or-set_same t r _ 0 within) in
            elim (eqb_tells k j) [
              | inl bit ↦
                  let is : bit_at (bit_or (get_or t s 0) (1 * 2 ^ k % 256)) j ≡ 1 =
                  subst (λ x. bit_at (bit_or (get_or t s 0) (1 * 2 ^ k % 256)) x ≡ 1) bit.1 (bit_at_set_same w8 (get_or t s 0) k small) in
                  rw (here, is, row.0, bit.0) (sym (or-true _))
              | inr bit ↦
                  let kept : bit_at (bit_or (get_or t s 0) (1 * 2 ^ k % 256)) j ≡ bit_at (get_or t s 0) j =
                  bit_at_set_other w8 (get_or t s 0) k small j (λ e. bit.1 (sym e)) in
                  rw (here, kept, row.0, bit.0) (sym (or-false _))
            ]
        | inr row ↦
            let kept : get_or with_bit s 0 ≡ get_or t s 0 = get_or-set_other t r s _ 0 (λ e. row.1 (sym e)) in
            rw (kept, row.0) (sym (or-false _))
      ]

-- two bytes are equal where their halves are
pub same_halves : (n a b : ℕ) → 16 * n ≤ a → 16 * n ≤ b → (eqb (a % 16) (b % 16) && eqb (a / 16 - n) (b / 16 - n)) ≡ eqb a b
same_halves n a b over above =
    elim (eqb_tells a b) [
      | inl e ↦ let low : a % 16 ≡ b % 16 = ap (λ x. x % 16) e.1 in
          let high : a / 16 - n ≡ b / 16 - n = ap (λ x. x / 16 - n) e.1 in
          rw (e.0, eq-eqb _ _ low, eq-eqb _ _ high) refl
      | inr e ↦
          elim (eqb_tells (a % 16) (b % 16)) [
            | inl low ↦ let high : a / 16 - n ≢ b / 16 - n = λ h. e.1 (let same : a % 16 ≡ b % 16 = low.1 in omega arith) in
                rw (e.0, low.0, ne_eqb _ _ high) refl
            | inr low ↦ rw (e.0, low.0) refl
          ]
    ]

same_below : (a b : ℕ) → (eqb (a % 16) (b % 16) && eqb (a / 16) (b / 16)) ≡ eqb a b
same_below a b =
    let x : a / 16 - 0 ≡ a / 16 = omega arith in
    let y : b / 16 - 0 ≡ b / 16 = omega arith in
    subst (λ k. (eqb (a % 16) (b % 16) && eqb k (b / 16)) ≡ eqb a b) x
    (subst (λ k. (eqb (a % 16) (b % 16) && eqb (a / 16 - 0) k) ≡ eqb a b) y (same_halves 0 a b (omega arith) (omega arith)))

module _ (low high : List ℕ) (byte : ℕ) where
  pub member-low : length low ≡ 16 → byte < 128 → (b : ℕ) → b < 256 →
      is_member (set low (byte % 16) (bit_or (get_or low (byte % 16) 0) (1 * 2 ^ (byte / 16) % 256))) high b ≡ (is_member low high b || eqb byte b)
  member-low long lt b small =
      elim (cases_lt b 128) [
        | inl below ↦
            rw (lt-ltb b 128 below) (bit_added low (byte % 16) (byte / 16) (omega arith) (omega arith) (b % 16) (b / 16)
            ∙ ap (λ q. eqb (bit_at (get_or low (b % 16) 0) (b / 16)) 1 || q) (same_below byte b))
        | inr above ↦ rw (le-ltb b 128 above, ne_eqb byte b (omega arith)) (sym (or-false _))
      ]

  pub member-high : length high ≡ 16 → 128 ≤ byte → byte < 256 → (b : ℕ) → b < 256 →
      is_member low (set high (byte % 16) (bit_or (get_or high (byte % 16) 0) (1 * 2 ^ (byte / 16 - 8) % 256))) b ≡ (is_member low high b || eqb byte b)
  member-high long ge fits b small =
      elim (cases_lt b 128) [
        | inl below ↦ rw (lt-ltb b 128 below, ne_eqb byte b (omega arith)) (sym (or-false _))
        | inr above ↦
            rw (le-ltb b 128 above) (bit_added high (byte % 16) (byte / 16 - 8) (omega arith) (omega arith) (b % 16) (b / 16 - 8)
            ∙ ap (λ q. eqb (bit_at (get_or high (b % 16) 0) (b / 16 - 8)) 1 || q) (same_halves 8 byte b (omega arith) (omega arith)))
      ]

-- the bytes that pass a test, among n numbers from a on: by induction on n
kept : (keep : Bool) (x b : ℕ) (xs : List ℕ) → holds (cond keep (x ∷ xs) xs) b ≡ ((keep && eqb x b) || holds xs b)
kept true x b xs = refl
kept false x b xs = refl

module _ (p : ℕ → Bool) (b : ℕ) where
  not_among : (n a : ℕ) → (b < a) ⊎ (a + n ≤ b) → holds (filter p (range_with_len a n)) b ≡ false
  not_among zero a out = refl
  not_among (suc n) a out =
      kept (p a) a b (filter p (range_with_len (a + 1) n))
      ∙ rw (ne_eqb a b (elim out [ inl l ↦ (λ e. omega arith) | inr r ↦ (λ e. omega arith) ]), not_among n (a + 1) (elim out [ inl l ↦ inl (omega arith) | inr r ↦ inr (omega arith) ]))
      (or-false (p a && false) ∙ and_right (p a) false refl)

  among : (n a : ℕ) → a ≤ b → b < a + n → holds (filter p (range_with_len a n)) b ≡ p b
  among zero a from below = absurd (omega arith)
  among (suc n) a from below =
      kept (p a) a b (filter p (range_with_len (a + 1) n))
      ∙ elim (eqb_tells a b) [
        | inl e ↦ rw (e.0, not_among n (a + 1) (inl (omega arith))) (or-false (p a && true) ∙ and-true (p a) ∙ ap p e.1)
        | inr e ↦ rw (e.0, among n (a + 1) (omega (arith, e.1)) (omega arith)) (ap (λ q. q || p b) (and_right (p a) false refl))
      ]

module _ (low high : List ℕ) where
  -- the bytes of the tables are those whose bit is set
  members_hold : (b : ℕ) → b < 256 → holds (members low high) b ≡ is_member low high b
  unfolding members
  members_hold b small = among (is_member low high) b 256 0 (omega arith) small

  no_byte : (b : ℕ) → 256 ≤ b → holds (members low high) b ≡ false
  unfolding members
  no_byte b large = not_among (is_member low high) b 256 0 (inr large)

  pub low_bit : (b : ℕ) → b < 128 → eqb (bit_and (get_or low (b % 16) 0 / 2 ^ (b / 16)) 1) 1 ≡ holds (members low high) b
  low_bit b lt =
      let is : is_member low high b ≡ eqb (bit_at (get_or low (b % 16) 0) (b / 16)) 1 = rw (lt-ltb b 128 lt) refl in
      ap (λ n. eqb n 1) (shr_and_one (get_or low (b % 16) 0) (b / 16)) ∙ sym is ∙ sym (members_hold b (omega arith))

  pub high_bit : (b : ℕ) → 128 ≤ b → b < 256 → eqb (bit_and (get_or high (b % 16) 0 / 2 ^ (b / 16 - 8)) 1) 1 ≡ holds (members low high) b
  high_bit b ge small =
      let is : is_member low high b ≡ eqb (bit_at (get_or high (b % 16) 0) (b / 16 - 8)) 1 = rw (le-ltb b 128 ge) refl in
      ap (λ n. eqb n 1) (shr_and_one (get_or high (b % 16) 0) (b / 16 - 8)) ∙ sym is ∙ sym (members_hold b small)

  pub lanes_held : (v : List ℕ) → Each1 (Fits w8) v → map (is_member low high) v ≡ map (holds (members low high)) v
  lanes_held v fits = alike (is_member low high) (holds (members low high)) v fits (λ b small. sym (members_hold b small))

-- tables that differ in one byte's bit
pub one_more : (low high low' high' : List ℕ) (byte : ℕ) → byte < 256
    → ((b : ℕ) → b < 256 → is_member low' high' b ≡ (is_member low high b || eqb byte b))
    → (b : ℕ) → holds (members low' high') b ≡ (holds (members low high) b || eqb byte b)
one_more low high low' high' byte fits differ b =
    elim (cases_lt b 256) [
      | inl small ↦
          members_hold low' high' b small ∙ differ b small
          ∙ ap (λ q. q || eqb byte b) (sym (members_hold low high b small))
      | inr large ↦ rw (no_byte low' high' b large, no_byte low high b large, ne_eqb byte b (λ e. omega arith)) refl
    ]
