-- The places after the newlines of a text, a block at a time: by induction on how many places there are.
use Rattle.std.proofs.Common.{◌≡◌, ◌≢◌, ℕ, zero, suc, ◌+◌, ◌-◌, ◌*◌, ◌/◌, ◌^◌, ◌<◌, ◌≤◌, Bool, true, false, cond, eqb, List, [], ◌∷◌, ◌++◌, map, filter, take, drop, get_or, refl, sym, ap, ap₂, ◌∙◌, arith}
use Rattle.std.specs.List.{range_with_len}
use Rattle.std.proofs.lemmas.List.{map-append, append-nil, drop-map, drop-take, drop-drop}
use Rattle.std.proofs.lemmas.List.Elements.{filter-append}
use Rattle.std.proofs.lemmas.Bool.{eq-eqb, ne_eqb}
use Rattle.std.proofs.lemmas.Nat.{shr-shr, shr_le}
use Rattle.byte_lanes.specs.code.LineStarts.{after_newlines}
use lib.Lanes.{chunk, mask_l}

range_with_len-add : (a m n : ℕ) → range_with_len a (m + n) ≡ range_with_len a m ++ range_with_len (a + m) n
range_with_len-add a zero n =
    let start : a ≡ a + 0 = omega arith in
    let size : 0 + n ≡ n = omega arith in
    ap₂ range_with_len start size
range_with_len-add a (suc m) n =
    let start : a + 1 + m ≡ a + suc m = omega arith in
    let size : suc m + n ≡ suc (m + n) = omega arith in
    ap (range_with_len a) size
    ∙ ap (λ r. a ∷ r) (range_with_len-add (a + 1) m n ∙ ap (λ k. range_with_len (a + 1) m ++ range_with_len k n) start)

module _ (bytes : List ℕ) where
  pub after_newlines-add : (at m n : ℕ) → after_newlines bytes at (m + n) ≡ after_newlines bytes at m ++ after_newlines bytes (at + m) n
  after_newlines-add at m n =
      let newline : ℕ → Bool = λ i. eqb (get_or bytes i 0) 10 in
      ap (λ r. map (λ i. i + 1) (filter newline r)) (range_with_len-add at m n)
      ∙ ap (map (λ i. i + 1)) (filter-append newline (range_with_len at m) (range_with_len (at + m) n))
      ∙ map-append (λ i. i + 1) (filter newline (range_with_len at m)) (filter newline (range_with_len (at + m) n))

  pub after_newlines-none : (n at : ℕ) → ((k : ℕ) → at ≤ k → k < at + n → eqb (get_or bytes k 0) 10 ≡ false) → after_newlines bytes at n ≡ []
  after_newlines-none zero at none = refl
  after_newlines-none (suc n) at none =
      rw (none at (omega arith) (omega arith)) (after_newlines-none n (at + 1) (λ k from below. none k (omega arith) (omega arith)))

  pub after_newlines-one : (at : ℕ) → eqb (get_or bytes at 0) 10 ≡ true → after_newlines bytes at 1 ≡ (at + 1) ∷ []
  after_newlines-one at found = rw found refl

  -- no newline from `place` on for `skipped` places, and one after them
  pub after_newlines-next : (at place skipped : ℕ) → at ≤ place
      → ((k : ℕ) → place ≤ k → k < place + skipped → eqb (get_or bytes k 0) 10 ≡ false)
      → eqb (get_or bytes (place + skipped) 0) 10 ≡ true
      → after_newlines bytes at (place + (skipped + 1) - at) ≡ after_newlines bytes at (place - at) ++ (place + (skipped + 1)) ∷ []
  after_newlines-next at place skipped from none found =
      let size : place + (skipped + 1) - at ≡ (place - at) + (skipped + 1) = omega arith in
      let here : at + (place - at) ≡ place = omega arith in
      let next : place + skipped + 1 ≡ place + (skipped + 1) = omega arith in
      ap (after_newlines bytes at) size ∙ after_newlines-add at (place - at) (skipped + 1)
      ∙ ap (λ r. after_newlines bytes at (place - at) ++ r)
      (ap (λ i. after_newlines bytes i (skipped + 1)) here ∙ after_newlines-add place skipped 1
      ∙ ap₂ ◌++◌ (after_newlines-none skipped place none) (after_newlines-one (place + skipped) found)
      ∙ ap (λ i. i ∷ []) next)

  -- no newline from `place` on
  pub after_newlines-rest : (at place end : ℕ) → at ≤ place → place ≤ end
      → ((k : ℕ) → place ≤ k → k < end → eqb (get_or bytes k 0) 10 ≡ false)
      → after_newlines bytes at (place - at) ≡ after_newlines bytes at (end - at)
  after_newlines-rest at place end from to none =
      let size : end - at ≡ (place - at) + (end - place) = omega arith in
      let here : at + (place - at) ≡ place = omega arith in
      let rest : after_newlines bytes (at + (place - at)) (end - place) ≡ [] =
      ap (λ i. after_newlines bytes i (end - place)) here ∙ after_newlines-none (end - place) place (λ k l u. none k l (omega arith)) in
      sym (ap (after_newlines bytes at) size ∙ after_newlines-add at (place - at) (end - place)
      ∙ ap (λ r. after_newlines bytes at (place - at) ++ r) rest ∙ append-nil _)

  -- one place more, at a newline and at another byte
  after_newlines-more : (at : ℕ) (b : Bool) → eqb (get_or bytes at 0) 10 ≡ b
      → after_newlines bytes 0 (at + 1) ≡ after_newlines bytes 0 at ++ map (λ i. i + 1) (cond b (at ∷ []) [])
  after_newlines-more at b is =
      let here : 0 + at ≡ at = omega arith in
      after_newlines-add 0 at 1
      ∙ ap (λ r. after_newlines bytes 0 at ++ r)
      (ap (λ i. after_newlines bytes i 1) here ∙ ap (λ b'. map (λ i. i + 1) (cond b' (at ∷ []) [])) is)

  pub after_newlines-hit : (at : ℕ) → get_or bytes at 0 ≡ 10 → after_newlines bytes 0 (at + 1) ≡ after_newlines bytes 0 at ++ (at + 1) ∷ []
  after_newlines-hit at is = after_newlines-more at true (eq-eqb _ _ is)

  pub after_newlines-miss : (at : ℕ) → get_or bytes at 0 ≢ 10 → after_newlines bytes 0 (at + 1) ≡ after_newlines bytes 0 at
  after_newlines-miss at other = after_newlines-more at false (ne_eqb _ _ other) ∙ append-nil _

halved : (m : Bool) (r : ℕ) → (cond m 1 0 + 2 * r) / 2 ^ 1 ≡ r
halved true r = omega arith
halved false r = omega arith

-- a mask without its lowest k bits is that of the bytes after the first k
pub mask_l-drop : (k : ℕ) (ms : List Bool) → mask_l ms / 2 ^ k ≡ mask_l (drop k ms)
mask_l-drop zero ms = omega arith
mask_l-drop (suc k) [] = omega (arith, shr_le 0 (suc k))
mask_l-drop (suc k) (m ∷ ms) =
    let one_more : suc k ≡ 1 + k = omega arith in
    ap (λ j. mask_l (m ∷ ms) / 2 ^ j) one_more ∙ sym (shr-shr (mask_l (m ∷ ms)) 1 k)
    ∙ ap (λ n. n / 2 ^ k) (halved m (mask_l ms)) ∙ mask_l-drop k ms

pub mask_of_rest : (p : ℕ → Bool) (i n k : ℕ) (xs : List ℕ) → k ≤ n → mask_l (map p (chunk i n xs)) / 2 ^ k ≡ mask_l (map p (chunk (i + k) (n - k) xs))
mask_of_rest p i n k xs within =
    let size : n ≡ k + (n - k) = omega arith in
    mask_l-drop k (map p (chunk i n xs))
    ∙ ap mask_l (drop-map p k (chunk i n xs)
    ∙ ap (map p) (ap (λ m. drop k (take m (drop i xs))) size ∙ drop-take k (n - k) (drop i xs) ∙ ap (take (n - k)) (drop-drop k i xs)))
