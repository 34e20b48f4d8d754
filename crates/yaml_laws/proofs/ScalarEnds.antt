-- Where a scalar fails at the text's end, more bytes complete it so that it ends with them: a quoted one, and a plain one that no carriage return ends.
use Rattle.std.proofs.Common.{◌≡◌, ℕ, zero, suc, ◌+◌, ◌-◌, ◌<◌, ◌≤◌, ◌⊎◌, Bool, true, false, List, [], ◌∷◌, ◌++◌, take, drop, length, refl, sym, ap, inl, inr, ◌∙◌, arith, cond, subst, true≢false, append_assoc, append-nil, length-append}
use Rattle.std.specs.Prelude.{nat_eq, nat_lt, ◌&&◌}
use Rattle.std.proofs.lemmas.Bool.Decides.{nat_tests}
use Rattle.std.proofs.lemmas.List.{take-append-drop, length-take-le}
use Rattle.yaml_scalars.specs.declared.scalar.Setting.{Setting}
use Rattle.yaml_scalars.specs.Lines.{Stands, Fails, begins_with, ends_with, each}
use Rattle.yaml_scalars.specs.Scalar.{begins_quoted, begins_block, plain_scalar, quoted_scalar, block_scalar, scalar_at}
use Rattle.yaml_laws.specs.code.Refusals.{is_ascii, IsEndedBy}
use Rattle.yaml_laws.proofs.Longer.{no_feed, IsRest}
use Rattle.yaml_laws.proofs.EscapeLonger.{is_fit, AllFit}
use Rattle.yaml_laws.proofs.QuotedFollowed.{quoted_followed, quoted_within}
use Rattle.yaml_laws.proofs.QuotedStays.{quoted_stays}
use Rattle.yaml_laws.proofs.ScalarFollowed.{none_meets, kind_longer}
use Rattle.yaml_laws.proofs.ScalarLonger.{FitHead, place, at_end, quoted_cut, size, at_last, plain_letter, quoted_more_at}
use Rattle.yaml_laws.proofs.SyntaxLaw.{last_of}

-- ---- a quoted scalar ends with so many of the bytes

feed_behind : (n : ℕ) (w : List ℕ) → no_feed w ≡ true → begins_with 10 (drop n w) ≡ false
feed_behind zero [] h = refl
feed_behind (suc n) [] h = refl
feed_behind zero (b ∷ w) h = by_byte (nat_eq b 10) h where
  by_byte : (q : Bool) → cond q false (no_feed w) ≡ true → q ≡ false
  by_byte true g = absurd (true≢false (sym g))
  by_byte false g = refl
feed_behind (suc n) (b ∷ w) h = by_byte (nat_eq b 10) h (λ g. feed_behind n w g) where
  by_byte : (q : Bool) → cond q false (no_feed w) ≡ true → (no_feed w ≡ true → begins_with 10 (drop n w) ≡ false) → begins_with 10 (drop n w) ≡ false
  by_byte true g r = absurd (true≢false (sym g))
  by_byte false g r = r g

each_take : (n : ℕ) (w : List ℕ) → each is_ascii w ≡ true → each is_ascii (take n w) ≡ true
each_take zero w h = refl
each_take (suc n) [] h = refl
each_take (suc n) (b ∷ w) h = by_byte (is_ascii b) h (λ g. each_take n w g) where
  by_byte : (q : Bool) → cond q (each is_ascii w) false ≡ true → (each is_ascii w ≡ true → each is_ascii (take n w) ≡ true) → cond q (each is_ascii (take n w)) false ≡ true
  by_byte true g r = r g
  by_byte false g r = absurd (true≢false (sym g))

fails_not : (t : List ℕ) (e p : ℕ) → Fails p ≡ Stands t e → ⊥
fails_not t e p h = cc

-- the bytes up to a place behind a front
cut_at : (m e k : ℕ) → (e ≤ m → ⊥) → e ≤ m + 1 + k → (n : ℕ) × (e ≡ m + 1 + n) × (n ≤ k)
cut_at m e k h l = by_test (nat_lt m e) refl where
  by_test : (q : Bool) → nat_lt m e ≡ q → (n : ℕ) × (e ≡ m + 1 + n) × (n ≤ k)
  by_test false g = absurd (h (grind (arith, nat_tests, g)))
  by_test true g = let low : m < e = grind (arith, nat_tests, g) in (e - (m + 1), omega (arith, low), omega (arith, low, l))

quoted_ends : (s : Setting) (before w : List ℕ) (b at p : ℕ) (t : List ℕ) (e : ℕ) → at ≤ length before → no_feed w ≡ true → quoted_scalar s (before ++ (b ∷ [])) at ≡ Fails p → quoted_scalar s (before ++ (b ∷ w)) at ≡ Stands t e
    → (n : ℕ) × (quoted_scalar s (before ++ (b ∷ take n w)) at ≡ Stands t (length (before ++ (b ∷ take n w))))
quoted_ends s before w b at p t e low one fails h =
    let long : length (before ++ (b ∷ w)) ≡ length before + 1 + length w = let z = length-append before (b ∷ w) in omega (arith, z) in
    let most = quoted_within s (before ++ (b ∷ w)) at t e (omega (arith, low, long)) h in
    let c = cut_at (length before) e (length w) (λ near. fails_not t e p (sym fails ∙ quoted_stays s before w [] b at t e low near h)) (omega (arith, most, long)) in
    let n = c.0 in
    let v = take n w in
    let size : length (take n w) ≡ n = length-take-le n w c.2 in
    let end : length (before ++ (b ∷ take n w)) ≡ e = let z = length-append before (b ∷ take n w) in let y = c.1 in omega (arith, z, size, y) in
    let whole : (before ++ (b ∷ take n w)) ++ drop n w ≡ before ++ (b ∷ w) = append_assoc before (b ∷ take n w) (drop n w) ∙ ap (λ z. before ++ (b ∷ z)) (take-append-drop n w) in
    let front = before ++ (b ∷ take n w) in
    let apart : (ends_with 13 (drop at (before ++ (b ∷ take n w))) && begins_with 10 (drop n w)) ≡ false = ap (λ q. ends_with 13 (drop at (before ++ (b ∷ take n w))) && q) (feed_behind n w one) ∙ none_meets (ends_with 13 (drop at (before ++ (b ∷ take n w)))) in
    let r = quoted_followed s (before ++ (b ∷ take n w)) (drop n w) [] at t e (let z = length-append before (b ∷ take n w) in omega (arith, z, low)) (omega (arith, end)) (λ z. refl) apart (none_meets (ends_with 13 (drop at (before ++ (b ∷ take n w))))) (ap (λ z. quoted_scalar s z at) whole ∙ h) in
    (n, ap (λ z. quoted_scalar s z at) (sym (append-nil (before ++ (b ∷ take n w)))) ∙ r ∙ ap (Stands t) (sym end))

letter_last : (g : List ℕ) → ends_with 97 (g ++ (97 ∷ [])) ≡ true
letter_last [] = refl
letter_last (c ∷ []) = refl
letter_last (c ∷ d ∷ g) = letter_last (d ∷ g)

feed_take : (n : ℕ) (w : List ℕ) → no_feed w ≡ true → no_feed (take n w) ≡ true
feed_take zero w h = refl
feed_take (suc n) [] h = refl
feed_take (suc n) (b ∷ w) h = by_byte (nat_eq b 10) h (λ g. feed_take n w g) where
  by_byte : (q : Bool) → cond q false (no_feed w) ≡ true → (no_feed w ≡ true → no_feed (take n w) ≡ true) → cond q false (no_feed (take n w)) ≡ true
  by_byte true g r = absurd (true≢false (sym g))
  by_byte false g r = r g

feed_less : (b : ℕ) (w : List ℕ) → no_feed (b ∷ w) ≡ true → no_feed w ≡ true
feed_less b w h = by_byte (nat_eq b 10) h where
  by_byte : (q : Bool) → cond q false (no_feed w) ≡ true → no_feed w ≡ true
  by_byte true g = absurd (true≢false (sym g))
  by_byte false g = g

fit_take : (n : ℕ) (w : List ℕ) → AllFit w → AllFit (take n w)
fit_take zero w h = refl
fit_take (suc n) [] h = refl
fit_take (suc n) (b ∷ w) h = by_byte (is_fit b) h (λ g. fit_take n w g) where
  by_byte : (q : Bool) → cond q (each is_fit w) false ≡ true → (AllFit w → AllFit (take n w)) → cond q (each is_fit (take n w)) false ≡ true
  by_byte true g r = r g
  by_byte false g r = absurd (true≢false (sym g))

-- bytes complete a scalar so that it ends with them, of which none is white space, part of a break or mark, or the last of an escape of a dot; the text of a plain one ends in the letter a
abbrev pub IsGrownBy : Setting → List ℕ → ℕ → Type 0
IsGrownBy s text at =
    (c : ℕ) × (v t : List ℕ) × (is_fit c ≡ true) × (no_feed v ≡ true) × (each is_ascii (c ∷ v) ≡ true) × (scalar_at s (text ++ (c ∷ v)) at ≡ Stands t (length (text ++ (c ∷ v)))) × ((begins_quoted (drop at text) ≡ true) ⊎ (ends_with 97 t ≡ true)) × AllFit (c ∷ v)

-- ---- the text by its last byte

step_on : (before w : List ℕ) (b : ℕ) → (before ++ (b ∷ [])) ++ w ≡ before ++ (b ∷ w)
step_on before w b = append_assoc before (b ∷ []) w

module _ (s : Setting) (before : List ℕ) (b at : ℕ) (l : at ≤ length before) where
  abbrev text : List ℕ
  text = before ++ (b ∷ [])

  in_text : at < length (before ++ (b ∷ []))
  in_text = let z = length-append before (b ∷ []) in omega (arith, z, l)

  -- the same kind of scalar, with these bytes
  completed_at : (w t : List ℕ) → (begins_quoted (drop at text) ≡ true → quoted_scalar s (before ++ (b ∷ w)) at ≡ Stands t (length (before ++ (b ∷ w)))) → (begins_quoted (drop at text) ≡ false → plain_scalar s (before ++ (b ∷ w)) at ≡ Stands t (length (before ++ (b ∷ w)))) → begins_block s (drop at text) ≡ false
      → scalar_at s (text ++ w) at ≡ Stands t (length (text ++ w))
  completed_at w t f g n =
      let is = step_on before w b in
      let size = ap (λ (z : List ℕ). length z) is in
      kind_longer s text w at (scalar_at s text at) (Stands t (length (text ++ w))) in_text
      (λ q z. ap (λ z. quoted_scalar s z at) is ∙ f q ∙ ap (Stands t) (sym size))
      (λ q r z. absurd (true≢false (sym r ∙ n)))
      (λ q r z. ap (λ z. plain_scalar s z at) is ∙ g q ∙ ap (Stands t) (sym size)) refl

  completed : (w t : List ℕ) → each is_ascii w ≡ true → (begins_quoted (drop at text) ≡ true → quoted_scalar s (before ++ (b ∷ w)) at ≡ Stands t (length (before ++ (b ∷ w)))) → (begins_quoted (drop at text) ≡ false → plain_scalar s (before ++ (b ∷ w)) at ≡ Stands t (length (before ++ (b ∷ w))))
      → begins_block s (drop at text) ≡ false → (begins_quoted (drop at text) ≡ true) ⊎ (ends_with 97 t ≡ true) → IsEndedBy s text at
  completed w t a f g n d = (w, t, a, completed_at w t f g n, d)

  quoted_done : begins_quoted (drop at text) ≡ true → begins_block s (drop at text) ≡ false → quoted_scalar s text at ≡ Fails (length text) → IsEndedBy s text at
  quoted_done q n h = by_byte (nat_eq b 13) refl where
    by_byte : (r : Bool) → nat_eq b 13 ≡ r → IsEndedBy s text at
    by_byte false e =
        let z = quoted_more_at s before b at l e q h in
        let v = quoted_ends s before z.0 b at (length text) z.2.0 z.2.1 l z.1.0 h z.2.2 in
        completed (take v.0 z.0) z.2.0 (each_take v.0 z.0 z.1.1) (λ x. v.1) (λ x. absurd (true≢false (sym q ∙ x))) n (inl q)
    by_byte true e =
        let is : b ≡ 13 = grind (arith, nat_tests, e) in
        let z = quoted_cut s before b at l is q h in
        let there = at_end s before b at l is in
        let size : length (before ++ (b ∷ 10 ∷ z.0 ∷ [])) ≡ suc (suc (suc (place s before b at l is)) + 0) = let x = length-append before (b ∷ 10 ∷ z.0 ∷ []) in let y = length-append before (b ∷ []) in omega (arith, x, y, there) in
        completed (10 ∷ z.0 ∷ []) z.2.0 z.1.1 (λ x. z.2.1 ∙ ap (Stands z.2.0) (sym size)) (λ x. absurd (true≢false (sym q ∙ x))) n (inl q)

  plain_done : begins_quoted (drop at text) ≡ false → begins_block s (drop at text) ≡ false → nat_eq b 13 ≡ false → plain_scalar s text at ≡ Fails (length text) → IsEndedBy s text at
  plain_done q n e h =
      let z = plain_letter s before b at l e h in
      let there = at_last s before b at l e in
      let long : length (before ++ (b ∷ 97 ∷ [])) ≡ suc (size s before b at l e) = let x = length-append before (b ∷ 97 ∷ []) in let y = length-append before (b ∷ []) in omega (arith, x, y, there) in
      completed (97 ∷ []) (z.0 ++ (97 ∷ [])) refl (λ x. absurd (true≢false (sym x ∙ q))) (λ x. z.1 ∙ ap (Stands (z.0 ++ (97 ∷ []))) (sym long)) n (inr (letter_last z.0))

  quoted_grown : begins_quoted (drop at text) ≡ true → begins_block s (drop at text) ≡ false → nat_eq b 13 ≡ false → quoted_scalar s text at ≡ Fails (length text) → IsGrownBy s text at
  quoted_grown q n e h =
      let z = quoted_more_at s before b at l e q h in
      let v = quoted_ends s before z.0 b at (length text) z.2.0 z.2.1 l z.1.0 h z.2.2 in
      grow v.0 z.0 z.2.0 z.1 z.3 v.1 where
        grow : (m : ℕ) (w t : List ℕ) → IsRest w → FitHead w → quoted_scalar s (before ++ (b ∷ take m w)) at ≡ Stands t (length (before ++ (b ∷ take m w))) → IsGrownBy s text at
        grow zero w t r f g = absurd (fails_not t (length (before ++ (b ∷ []))) (length (before ++ (b ∷ []))) (sym h ∙ g))
        grow (suc m) w t r (c, y, i, fit, all) g =
            let i2 : take (suc m) w ≡ c ∷ take m y = ap (take (suc m)) i in
            let g2 : quoted_scalar s (before ++ (b ∷ c ∷ take m y)) at ≡ Stands t (length (before ++ (b ∷ c ∷ take m y))) = subst (λ (x : List ℕ). quoted_scalar s (before ++ (b ∷ x)) at ≡ Stands t (length (before ++ (b ∷ x)))) i2 g in
            let feed : no_feed (take m y) ≡ true = feed_take m y (feed_less c y (sym (ap no_feed i) ∙ r.0)) in
            let small : each is_ascii (c ∷ take m y) ≡ true = ap (each is_ascii) (sym i2) ∙ each_take (suc m) w r.1 in
            (c, take m y, t, fit, feed, small, completed_at (c ∷ take m y) t (λ x. g2) (λ x. absurd (true≢false (sym q ∙ x))) n, inl q, subst AllFit i2 (fit_take (suc m) w all))

  plain_grown : begins_quoted (drop at text) ≡ false → begins_block s (drop at text) ≡ false → nat_eq b 13 ≡ false → plain_scalar s text at ≡ Fails (length text) → IsGrownBy s text at
  plain_grown q n e h =
      let z = plain_letter s before b at l e h in
      let there = at_last s before b at l e in
      let long : length (before ++ (b ∷ 97 ∷ [])) ≡ suc (size s before b at l e) = let x = length-append before (b ∷ 97 ∷ []) in let y = length-append before (b ∷ []) in omega (arith, x, y, there) in
      (97, [], z.0 ++ (97 ∷ []), refl, refl, refl, completed_at (97 ∷ []) (z.0 ++ (97 ∷ [])) (λ x. absurd (true≢false (sym x ∙ q))) (λ x. z.1 ∙ ap (Stands (z.0 ++ (97 ∷ []))) (sym long)) n, inr (letter_last z.0), refl)

  grown : begins_block s (drop at text) ≡ false → nat_eq b 13 ≡ false → scalar_at s text at ≡ Fails (length text) → IsGrownBy s text at
  grown n e h = by_kind (begins_quoted (drop at text)) refl (sym (ap (λ r. cond (begins_quoted (drop at text)) (quoted_scalar s text at) (cond r (block_scalar s text at) (plain_scalar s text at))) n) ∙ h) where
    by_kind : (q : Bool) → begins_quoted (drop at text) ≡ q → cond q (quoted_scalar s text at) (plain_scalar s text at) ≡ Fails (length text) → IsGrownBy s text at
    by_kind true i h = quoted_grown i n e h
    by_kind false i h = plain_grown i n e h

  ended : begins_block s (drop at text) ≡ false → (begins_quoted (drop at text) ≡ true) ⊎ (nat_eq b 13 ≡ false) → scalar_at s text at ≡ Fails (length text) → IsEndedBy s text at
  ended n d h = by_kind (begins_quoted (drop at text)) refl d (sym (ap (λ r. cond (begins_quoted (drop at text)) (quoted_scalar s text at) (cond r (block_scalar s text at) (plain_scalar s text at))) n) ∙ h) where
    by_kind : (q : Bool) → begins_quoted (drop at text) ≡ q → (begins_quoted (drop at text) ≡ true) ⊎ (nat_eq b 13 ≡ false) → cond q (quoted_scalar s text at) (plain_scalar s text at) ≡ Fails (length text) → IsEndedBy s text at
    by_kind true e d h = quoted_done e n h
    by_kind false e (inl i) h = absurd (true≢false (sym i ∙ e))
    by_kind false e (inr i) h = plain_done e n i h

last_byte : (before : List ℕ) (b : ℕ) → ends_with 13 (before ++ (b ∷ [])) ≡ nat_eq b 13
last_byte [] b = refl
last_byte (c ∷ []) b = refl
last_byte (c ∷ d ∷ before) b = last_byte (d ∷ before) b

pub scalar_ended : (s : Setting) (text : List ℕ) (at : ℕ) → at < length text → begins_block s (drop at text) ≡ false → (begins_quoted (drop at text) ≡ true) ⊎ (ends_with 13 text ≡ false) → scalar_at s text at ≡ Fails (length text) → IsEndedBy s text at
scalar_ended s [] at l n d h = absurd (omega (arith, l))
scalar_ended s (x ∷ xs) at l n d h =
    let r = last_of x xs in
    let sizes = ap (λ (t : List ℕ). length t) r.2 in
    let low : at ≤ length r.0 = omega (arith, l, sizes, length-append r.0 (r.1 ∷ [])) in
    subst (λ t. IsEndedBy s t at) (sym r.2)
    (ended s r.0 r.1 at low (sym (ap (λ t. begins_block s (drop at t)) r.2) ∙ n)
    (elim d [ inl q ↦ inl (sym (ap (λ t. begins_quoted (drop at t)) r.2) ∙ q) | inr q ↦ inr (sym (last_byte r.0 r.1) ∙ sym (ap (ends_with 13) r.2) ∙ q) ])
    (subst (λ t. scalar_at s t at ≡ Fails (length t)) r.2 h))

pub scalar_grown : (s : Setting) (text : List ℕ) (at : ℕ) → at < length text → begins_block s (drop at text) ≡ false → ends_with 13 text ≡ false → scalar_at s text at ≡ Fails (length text) → IsGrownBy s text at
scalar_grown s [] at l n d h = absurd (omega (arith, l))
scalar_grown s (x ∷ xs) at l n d h =
    let r = last_of x xs in
    let sizes = ap (λ (t : List ℕ). length t) r.2 in
    let low : at ≤ length r.0 = omega (arith, l, sizes, length-append r.0 (r.1 ∷ [])) in
    subst (λ t. IsGrownBy s t at) (sym r.2)
    (grown s r.0 r.1 at low (sym (ap (λ t. begins_block s (drop at t)) r.2) ∙ n) (sym (last_byte r.0 r.1) ∙ sym (ap (ends_with 13) r.2) ∙ d) (subst (λ t. scalar_at s t at ≡ Fails (length t)) r.2 h))

-- a quoted scalar that fails behind a carriage return: a line feed and a quotation mark complete it
pub quoted_fed : (s : Setting) (front : List ℕ) (at : ℕ) → at ≤ length front → begins_quoted (drop at (front ++ (13 ∷ []))) ≡ true → scalar_at s (front ++ (13 ∷ [])) at ≡ Fails (length (front ++ (13 ∷ [])))
    → (q : ℕ) × (t : List ℕ) × (is_ascii q ≡ true) × (nat_eq q 10 ≡ false) × (scalar_at s (front ++ (13 ∷ 10 ∷ q ∷ [])) at ≡ Stands t (length (front ++ (13 ∷ 10 ∷ q ∷ []))))
quoted_fed s front at l q h =
    let text = front ++ (13 ∷ []) in
    let quoted : quoted_scalar s (front ++ (13 ∷ [])) at ≡ Fails (length (front ++ (13 ∷ []))) = sym (ap (λ r. cond r (quoted_scalar s text at) (cond (begins_block s (drop at text)) (block_scalar s text at) (plain_scalar s text at))) q) ∙ h in
    let z = quoted_cut s front 13 at l refl q quoted in
    let there = at_end s front 13 at l refl in
    let is : (front ++ (13 ∷ [])) ++ (10 ∷ z.0 ∷ []) ≡ front ++ (13 ∷ 10 ∷ z.0 ∷ []) = append_assoc front (13 ∷ []) (10 ∷ z.0 ∷ []) in
    let size : length (front ++ (13 ∷ 10 ∷ z.0 ∷ [])) ≡ suc (suc (suc (place s front 13 at l refl)) + 0) = let x = length-append front (13 ∷ 10 ∷ z.0 ∷ []) in let y = length-append front (13 ∷ []) in omega (arith, x, y, there) in (
      z.0,
      z.2.0,
      ascii_one z.0 z.1.1,
      feed_one z.0 z.1.0,
      sym (ap (λ y. scalar_at s y at) is)
          ∙ kind_longer s text (10 ∷ z.0 ∷ []) at (scalar_at s text at) (Stands z.2.0 (length (front ++ (13 ∷ 10 ∷ z.0 ∷ [])))) (omega (arith, l, length-append front (13 ∷ [])))
          (λ r g. ap (λ y. quoted_scalar s y at) is ∙ z.2.1 ∙ ap (Stands z.2.0) (sym size))
          (λ r k g. absurd (true≢false (sym q ∙ r)))
          (λ r k g. absurd (true≢false (sym q ∙ r))) refl,
    ) where
      ascii_one : (b : ℕ) → each is_ascii (b ∷ []) ≡ true → is_ascii b ≡ true
      ascii_one b g = by_byte (is_ascii b) g where
        by_byte : (p : Bool) → cond p true false ≡ true → p ≡ true
        by_byte true g = refl
        by_byte false g = g

      feed_one : (b : ℕ) → no_feed (b ∷ []) ≡ true → nat_eq b 10 ≡ false
      feed_one b g = by_byte (nat_eq b 10) g where
        by_byte : (p : Bool) → cond p false true ≡ true → p ≡ false
        by_byte true g = sym g
        by_byte false g = refl
