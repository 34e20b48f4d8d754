-- Where a plain scalar on one line ends at a colon that ends the text, with nothing but white space between, a letter behind the colon makes the scalar go on to the text's end. By induction over the line's bytes.
use Rattle.std.proofs.Common.{◌≡◌, ℕ, zero, suc, ◌+◌, ◌≤◌, Bool, true, false, ◌||◌, ◌&&◌, cond, nat_eq, arith, List, [], ◌∷◌, ◌++◌, take, drop, length, refl, sym, ap, ◌∙◌, append_assoc, length-take, length-append, true≢false}
use Rattle.std.proofs.lemmas.List.{drop-drop}
use Rattle.yaml_scalars.specs.declared.scalar.Setting.{Setting}
use Rattle.yaml_scalars.specs.declared.plain_line.Why.{Why}
use Rattle.yaml_scalars.specs.declared.plain_line.Why.TheVariants.{Break, Return, Colon, Comment, Mark}
use Rattle.yaml_scalars.specs.Lines.{Stands, is_white, is_blank, is_mark, is_cut_mark, lines}
use Rattle.yaml_scalars.specs.Plain.{begins_plain, stops, plain_len, content, content_end, why, reason, first, plain_on}
use Rattle.yaml_scalars.specs.Scalar.{is_first_column, begins_quoted, begins_block, plain_scalar, quoted_scalar, block_scalar, scalar_at}
use Rattle.yaml_laws.proofs.Agree.{drop_before, drop_size}
use Rattle.yaml_laws.proofs.Longer.{rest_of, no_feed, one_line}
use Rattle.yaml_laws.proofs.EscapeLonger.{is_fit}
use Rattle.yaml_laws.proofs.PlainDead.{len_front}
use Rattle.yaml_laws.proofs.PlainFollowed.{white_goes, trimmed_le}
use Rattle.yaml_laws.proofs.PlainLaw.{marked}
use Rattle.yaml_laws.proofs.PlainLonger.{Lettered, opens_is, whole_content, letter_goes}
use Rattle.yaml_laws.proofs.PlainStays.{opens_stands}
use Rattle.yaml_laws.proofs.QuotedLonger.{mark_fit, cut_fit}
use Rattle.yaml_laws.proofs.ScalarFollowed.{kind_longer}
use Rattle.yaml_laws.proofs.ScalarLaw.{column_same}

-- the line is content up to the colon
filled : (flow white : Bool) (n : ℕ) (xs : List ℕ) → n ≤ plain_len flow white (xs ++ (58 ∷ [])) → n ≤ length xs → is_blank (drop n xs) ≡ true → plain_len flow white (xs ++ (58 ∷ [])) ≡ length xs
filled flow white zero [] l m h = refl
filled flow white (suc n) [] l m h = absurd (omega (arith, m))
filled flow white zero (b ∷ xs) l m h = by_white (is_white b) refl h (λ g. filled flow (is_white b) zero xs (omega arith) (omega arith) g) where
  by_white : (q : Bool) → is_white b ≡ q → cond q (is_blank xs) false ≡ true → (is_blank xs ≡ true → plain_len flow (is_white b) (xs ++ (58 ∷ [])) ≡ length xs)
      → cond (stops flow white b (xs ++ (58 ∷ []))) 0 (suc (plain_len flow (is_white b) (xs ++ (58 ∷ [])))) ≡ suc (length xs)
  by_white true e h r = ap (λ q. cond q 0 (suc (plain_len flow (is_white b) (xs ++ (58 ∷ []))))) (white_goes flow white b (xs ++ (58 ∷ [])) e) ∙ ap suc (r h)
  by_white false e h r = absurd (true≢false (sym h))
filled flow white (suc n) (b ∷ xs) l m h = by_stop (stops flow white b (xs ++ (58 ∷ []))) l (λ k. filled flow (is_white b) n xs k (omega (arith, m)) h) where
  by_stop : (q : Bool) → suc n ≤ cond q 0 (suc (plain_len flow (is_white b) (xs ++ (58 ∷ [])))) → (n ≤ plain_len flow (is_white b) (xs ++ (58 ∷ [])) → plain_len flow (is_white b) (xs ++ (58 ∷ [])) ≡ length xs)
      → cond q 0 (suc (plain_len flow (is_white b) (xs ++ (58 ∷ [])))) ≡ suc (length xs)
  by_stop true k r = absurd (omega (arith, k))
  by_stop false k r = ap suc (r (omega (arith, k)))

-- and with a letter behind it up to the letter
colon_goes : (flow white : Bool) → stops flow white 58 (97 ∷ []) ≡ false
colon_goes true white = refl
colon_goes false white = refl

pub lettered_len : (flow : Bool) (xs : List ℕ) → plain_len flow false (xs ++ (58 ∷ [])) ≡ length xs → plain_len flow false ((xs ++ (58 ∷ [])) ++ (97 ∷ [])) ≡ length ((xs ++ (58 ∷ [])) ++ (97 ∷ []))
lettered_len flow xs h =
    let is : (xs ++ (58 ∷ [])) ++ (97 ∷ []) ≡ xs ++ (58 ∷ 97 ∷ []) = append_assoc xs (58 ∷ []) (97 ∷ []) in
    ap (plain_len flow false) is ∙ len_front flow false xs 58 [] (97 ∷ []) false (colon_goes flow) h ∙ ap (λ n. length xs + suc n) (letter_goes flow (is_white 58)) ∙ sym (length-append xs (58 ∷ 97 ∷ [])) ∙ sym (ap (λ (t : List ℕ). length t) is)

pub past_all : (xs : List ℕ) → drop (length xs) xs ≡ []
past_all [] = refl
past_all (x ∷ xs) = past_all xs

-- ---- it begins as before

pub fit_marked : (fresh : Bool) (f : List ℕ) (c : ℕ) (v : List ℕ) → is_fit c ≡ true → (fresh && marked f) ≡ false → (fresh && marked (f ++ (c ∷ v))) ≡ false
fit_marked false f c v fit h = refl
fit_marked true f c v fit h = by_tests (is_mark (f ++ (c ∷ v))) (is_cut_mark (f ++ (c ∷ v))) refl refl where
  or_left : (p q : Bool) → p ≡ true → (p || q) ≡ true
  or_left true q e = refl
  or_left false q e = absurd (true≢false (sym e))

  or_right : (p q : Bool) → q ≡ true → (p || q) ≡ true
  or_right true q e = refl
  or_right false q e = e

  by_tests : (p q : Bool) → is_mark (f ++ (c ∷ v)) ≡ p → is_cut_mark (f ++ (c ∷ v)) ≡ q → (p || q) ≡ false
  by_tests true q a b = absurd (true≢false (sym (or_left (is_mark f) (is_cut_mark f) (mark_fit f c v fit a).0) ∙ h))
  by_tests false true a b = absurd (true≢false (sym (or_right (is_mark f) (is_cut_mark f) (cut_fit f c v fit b)) ∙ h))
  by_tests false false a b = refl

no_point : (flow : Bool) → begins_plain flow (58 ∷ []) ≡ false
no_point true = refl
no_point false = refl

pub begins_more : (flow : Bool) (xs : List ℕ) → begins_plain flow (xs ++ (58 ∷ [])) ≡ true → begins_plain flow ((xs ++ (58 ∷ [])) ++ (97 ∷ [])) ≡ true
begins_more flow [] h = absurd (true≢false (sym h ∙ no_point flow))
begins_more flow (b ∷ []) h = h
begins_more flow (b ∷ c ∷ xs) h = h

-- ---- the scalar

-- on the text's last line its end tells how much of the line is content
content_of : (s : Setting) (w : Why) (at : ℕ) (xs t : List ℕ) (e : ℕ) → first s w at xs [] ≡ Stands t e → content_end s.flow xs at ≡ e
content_of s w at xs t e h = by_why w h where
  same : Stands (content s.flow xs) (content_end s.flow xs at) ≡ Stands t e → content_end s.flow xs at ≡ e
  same g = cc

  by_line : (q : Bool) → cond q (Stands (content s.flow xs) (content_end s.flow xs at)) (Stands (content s.flow xs) (content_end s.flow xs at)) ≡ Stands t e → content_end s.flow xs at ≡ e
  by_line true g = same g
  by_line false g = same g

  by_why : (w : Why) → first s w at xs [] ≡ Stands t e → content_end s.flow xs at ≡ e
  by_why Break g = by_line s.one_line g
  by_why Return g = absurd (cc)
  by_why Colon g = same g
  by_why Comment g = same g
  by_why Mark g = same g

pointed_line : (s : Setting) (fresh : Bool) (at : ℕ) (xs t : List ℕ) (e n : ℕ) → e ≡ at + n → n ≤ length xs → is_blank (drop n xs) ≡ true → plain_on s fresh (rest_of at (xs ++ (58 ∷ [])) ∷ []) ≡ Stands t e
    → Lettered (at + length ((xs ++ (58 ∷ [])) ++ (97 ∷ []))) (plain_on s fresh (rest_of at ((xs ++ (58 ∷ [])) ++ (97 ∷ [])) ∷ []))
pointed_line s fresh at xs t e n is low white h =
    let f = xs ++ (58 ∷ []) in
    let o = opens_stands s fresh (rest_of at (xs ++ (58 ∷ []))) [] t e h in
    let c = content_of s (reason s.flow f) at f t e o.2 in
    let m = plain_len s.flow false f in
    let le = trimmed_le (take m f) in
    let most = length-take m f in
    let full = filled s.flow false n xs (omega (arith, is, c, le, most)) low white in
    let len = lettered_len s.flow xs full in
    let breaks : reason s.flow (f ++ (97 ∷ [])) ≡ Break = ap (λ k. why (drop k (f ++ (97 ∷ [])))) len ∙ ap why (past_all (f ++ (97 ∷ []))) in
    let same = whole_content s.flow f 97 refl len in (
      f,
      opens_is s fresh at (f ++ (97 ∷ [])) [] (fit_marked fresh f 97 [] refl o.0) (begins_more s.flow xs o.1) ∙ ap (λ w. first s w at (f ++ (97 ∷ [])) []) breaks ∙ alone s.one_line ∙ ap (λ (y : List ℕ). Stands y (at + length y)) same,
    ) where
      alone : (q : Bool) → cond q (Stands (content s.flow ((xs ++ (58 ∷ [])) ++ (97 ∷ []))) (content_end s.flow ((xs ++ (58 ∷ [])) ++ (97 ∷ [])) at)) (Stands (content s.flow ((xs ++ (58 ∷ [])) ++ (97 ∷ []))) (content_end s.flow ((xs ++ (58 ∷ [])) ++ (97 ∷ [])) at))
          ≡ Stands (content s.flow ((xs ++ (58 ∷ [])) ++ (97 ∷ []))) (content_end s.flow ((xs ++ (58 ∷ [])) ++ (97 ∷ [])) at)
      alone true = refl
      alone false = refl

pub no_feed_more : (xs w : List ℕ) → no_feed xs ≡ true → no_feed w ≡ true → no_feed (xs ++ w) ≡ true
no_feed_more [] w h g = g
no_feed_more (b ∷ xs) w h g = by_byte (nat_eq b 10) h (λ i. no_feed_more xs w i g) where
  by_byte : (q : Bool) → cond q false (no_feed xs) ≡ true → (no_feed xs ≡ true → no_feed (xs ++ w) ≡ true) → cond q false (no_feed (xs ++ w)) ≡ true
  by_byte true h r = absurd (true≢false (sym h))
  by_byte false h r = r h

pub scalar_pointed : (s : Setting) (front : List ℕ) (at : ℕ) (t : List ℕ) (n : ℕ) → at ≤ length front → no_feed (drop at front) ≡ true → begins_quoted (drop at (front ++ (58 ∷ []))) ≡ false → begins_block s (drop at (front ++ (58 ∷ []))) ≡ false
    → at + n ≤ length front → is_blank (drop (at + n) front) ≡ true → scalar_at s (front ++ (58 ∷ [])) at ≡ Stands t (at + n)
    → (u : List ℕ) × (scalar_at s (front ++ (58 ∷ 97 ∷ [])) at ≡ Stands (u ++ (97 ∷ [])) (length (front ++ (58 ∷ 97 ∷ []))))
scalar_pointed s front at t n l one q b near white h =
    let text = front ++ (58 ∷ []) in
    let xs = drop at front in
    let fresh = is_first_column text at in
    let size = drop_size at front l in
    let is : (front ++ (58 ∷ [])) ++ (97 ∷ []) ≡ front ++ (58 ∷ 97 ∷ []) = append_assoc front (58 ∷ []) (97 ∷ []) in
    let two : (drop at front ++ (58 ∷ [])) ++ (97 ∷ []) ≡ drop at front ++ (58 ∷ 97 ∷ []) = append_assoc (drop at front) (58 ∷ []) (97 ∷ []) in
    let plain : plain_scalar s (front ++ (58 ∷ [])) at ≡ Stands t (at + n) =
    sym (ap (λ r. cond r (quoted_scalar s text at) (cond (begins_block s (drop at text)) (block_scalar s text at) (plain_scalar s text at))) q ∙ ap (λ r. cond r (block_scalar s text at) (plain_scalar s text at)) b) ∙ h in
    let old : lines at (drop at (front ++ (58 ∷ []))) ≡ rest_of at (drop at front ++ (58 ∷ [])) ∷ [] = ap (lines at) (drop_before at front (58 ∷ []) l) ∙ one_line at (drop at front ++ (58 ∷ [])) (no_feed_more (drop at front) (58 ∷ []) one refl) in
    let new : lines at (drop at (front ++ (58 ∷ 97 ∷ []))) ≡ rest_of at ((drop at front ++ (58 ∷ [])) ++ (97 ∷ [])) ∷ [] =
    ap (lines at) (drop_before at front (58 ∷ 97 ∷ []) l) ∙ one_line at (drop at front ++ (58 ∷ 97 ∷ [])) (no_feed_more (drop at front) (58 ∷ 97 ∷ []) one refl) ∙ ap (λ (y : List ℕ). rest_of at y ∷ []) (sym two) in
    let rest : is_blank (drop n (drop at front)) ≡ true = ap is_blank (drop-drop n at front) ∙ white in
    let z = pointed_line s (is_first_column text at) at (drop at front) t (at + n) n refl (omega (arith, near, size)) rest (sym (ap (plain_on s (is_first_column text at)) old) ∙ plain) in
    let same : is_first_column (front ++ (58 ∷ 97 ∷ [])) at ≡ is_first_column (front ++ (58 ∷ [])) at = sym (column_same front 58 [] (97 ∷ []) at l) in
    let most : at + length ((drop at front ++ (58 ∷ [])) ++ (97 ∷ [])) ≡ length (front ++ (58 ∷ 97 ∷ [])) =
    (let x = ap (λ (y : List ℕ). length y) two in omega (arith, x, size, length-append (drop at front) (58 ∷ 97 ∷ []), length-append front (58 ∷ 97 ∷ []))) in (
      z.0,
      sym (ap (λ y. scalar_at s y at) is)
          ∙ kind_longer s text (97 ∷ []) at (scalar_at s text at) (Stands (z.0 ++ (97 ∷ [])) (length (front ++ (58 ∷ 97 ∷ [])))) (omega (arith, l, length-append front (58 ∷ [])))
          (λ r g. absurd (true≢false (sym r ∙ q)))
          (λ r k g. absurd (true≢false (sym k ∙ b)))
          (λ r k g. ap (λ y. plain_scalar s y at) is ∙ ap (λ p. plain_on s p (lines at (drop at (front ++ (58 ∷ 97 ∷ []))))) same ∙ ap (plain_on s fresh) new ∙ z.1 ∙ ap (Stands (z.0 ++ (97 ∷ []))) most) refl,
    )
