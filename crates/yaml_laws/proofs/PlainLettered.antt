-- Where a colon that ends the text shows the end of a plain scalar, a letter behind it makes the scalar go on to the text's end, over as many lines as it has. By the cases of its last line.
use Rattle.std.proofs.Common.{◌≡◌, ℕ, suc, ◌+◌, ◌<◌, ◌≤◌, ◌⊎◌, inl, inr, Bool, true, false, ◌&&◌, cond, arith, List, [], ◌∷◌, ◌++◌, drop, length, refl, sym, ap, ◌∙◌, subst, append_assoc, length-append, true≢false}
use Rattle.yaml_scalars.specs.declared.scalar.Setting.{Setting}
use Rattle.yaml_scalars.specs.declared.plain_line.Why.TheVariants.{Break}
use Rattle.yaml_scalars.specs.declared.plain_line.Below.TheVariants.{Further}
use Rattle.yaml_scalars.specs.Lines.{Line, Stands, ends_with, lines, fold}
use Rattle.yaml_scalars.specs.Plain.{begins_plain, plain_len, content, content_end, why, reason, below, joined, joins, further, first, more, plain_on}
use Rattle.yaml_scalars.specs.Scalar.{is_first_column, begins_quoted, begins_block, plain_scalar, quoted_scalar, block_scalar, scalar_at}
use Rattle.yaml_scalars.specs.code.Walk.{line_at}
use Rattle.yaml_laws.specs.code.Agreement.{out_shown, plain_shown, scalar_shown}
use Rattle.yaml_laws.proofs.Agree.{drop_before, drop_size}
use Rattle.yaml_laws.proofs.Dotless.{AreFree}
use Rattle.yaml_laws.proofs.Longer.{glue, rest_of, lines_more, lines_end, Ends}
use Rattle.yaml_laws.proofs.PlainLaw.{marked}
use Rattle.yaml_laws.proofs.PlainLonger.{Lettered, opens_is, whole_content}
use Rattle.yaml_laws.proofs.PlainPointed.{lettered_len, past_all, fit_marked, begins_more}
use Rattle.yaml_laws.proofs.PlainReached.{colon, IsAlone, IsUpTo, Reaches, plain_reaches}
use Rattle.yaml_laws.proofs.PlainShown.{below_front, last_apart, shown_colon}
use Rattle.yaml_laws.proofs.ScalarFollowed.{kind_longer}
use Rattle.yaml_laws.proofs.ScalarLaw.{column_same}

abbrev lettered : ℕ → Line
lettered at = rest_of at (58 ∷ 97 ∷ [])

-- ---- a further line

-- the last one, with the letter
last_goes : (s : Setting) (place at n : ℕ) (f t : List ℕ) (e k : ℕ) → at + length f ≡ place → n ≤ length f → plain_len s.flow false (drop n f ++ (58 ∷ [])) ≡ length (drop n f)
    → Lettered (suc (suc place)) (joins s.flow (reason s.flow (drop n (f ++ (58 ∷ 97 ∷ [])))) (drop n (f ++ (58 ∷ 97 ∷ []))) (at + n) t e k (more s []))
last_goes s place at n f t e k size low short =
    let g = drop n f in
    let part : drop n (f ++ (58 ∷ 97 ∷ [])) ≡ (drop n f ++ (58 ∷ [])) ++ (97 ∷ []) = drop_before n f (58 ∷ 97 ∷ []) low ∙ sym (append_assoc (drop n f) (58 ∷ []) (97 ∷ [])) in
    let len = lettered_len s.flow (drop n f) short in
    let breaks : reason s.flow (drop n (f ++ (58 ∷ 97 ∷ []))) ≡ Break =
    ap (reason s.flow) part ∙ ap (λ j. why (drop j ((drop n f ++ (58 ∷ [])) ++ (97 ∷ [])))) len ∙ ap why (past_all ((drop n f ++ (58 ∷ [])) ++ (97 ∷ []))) in
    let whole : content s.flow (drop n (f ++ (58 ∷ 97 ∷ []))) ≡ (drop n f ++ (58 ∷ [])) ++ (97 ∷ []) = ap (content s.flow) part ∙ whole_content s.flow (drop n f ++ (58 ∷ [])) 97 refl len in
    let rest = drop_size n f low in
    let ends : content_end s.flow (drop n (f ++ (58 ∷ 97 ∷ []))) (at + n) ≡ suc (suc place) =
    ap (λ (y : List ℕ). at + n + length y) whole ∙ (let r : at + n + length ((drop n f ++ (58 ∷ [])) ++ (97 ∷ [])) ≡ suc (suc place) = omega (arith, rest, size, length-append (drop n f ++ (58 ∷ [])) (97 ∷ []), length-append (drop n f) (58 ∷ [])) in r) in
    let text_is : joined s.flow (drop n (f ++ (58 ∷ 97 ∷ []))) t k ≡ (t ++ (fold k ++ (drop n f ++ (58 ∷ [])))) ++ (97 ∷ []) =
    ap (λ y. t ++ (fold k ++ y)) whole ∙ ap (λ y. t ++ y) (sym (append_assoc (fold k) (drop n f ++ (58 ∷ [])) (97 ∷ []))) ∙ sym (append_assoc t (fold k ++ (drop n f ++ (58 ∷ []))) (97 ∷ [])) in
    subst (λ w. Lettered (suc (suc place)) (joins s.flow w (drop n (f ++ (58 ∷ 97 ∷ []))) (at + n) t e k (more s []))) (sym breaks)
    (t ++ (fold k ++ (drop n f ++ (58 ∷ []))), ap (λ y. Stands y (content_end s.flow (drop n (f ++ (58 ∷ 97 ∷ []))) (at + n))) text_is ∙ ap (Stands ((t ++ (fold k ++ (drop n f ++ (58 ∷ [])))) ++ (97 ∷ []))) ends)

further_goes : (s : Setting) (place at n : ℕ) (f t : List ℕ) (e k : ℕ) → at + length f ≡ place → IsUpTo s f n → Lettered (suc (suc place)) (further s (below s (f ++ (58 ∷ 97 ∷ []))) at (f ++ (58 ∷ 97 ∷ [])) t e k (more s []))
further_goes s place at n f t e k size up =
    let is : below s (f ++ (58 ∷ 97 ∷ [])) ≡ Further n = below_front s f 58 (97 ∷ []) [] (shown_colon 58 refl) ∙ up.0 in
    subst (λ w. Lettered (suc (suc place)) (further s w at (f ++ (58 ∷ 97 ∷ [])) t e k (more s []))) (sym is) (last_goes s place at n f t e k size up.1 up.2)

-- ---- the first line

-- the only one
alone : (s : Setting) (fresh : Bool) (place at : ℕ) (f : List ℕ) → at + length f ≡ place → (fresh && marked (f ++ (58 ∷ []))) ≡ false → begins_plain s.flow (f ++ (58 ∷ [])) ≡ true → plain_len s.flow false (f ++ (58 ∷ [])) ≡ length f
    → Lettered (suc (suc place)) (plain_on s fresh (rest_of at (f ++ (58 ∷ 97 ∷ [])) ∷ []))
alone s fresh place at f size m b short =
    let two : (f ++ (58 ∷ [])) ++ (97 ∷ []) ≡ f ++ (58 ∷ 97 ∷ []) = append_assoc f (58 ∷ []) (97 ∷ []) in
    subst (λ (y : List ℕ). Lettered (suc (suc place)) (plain_on s fresh (rest_of at y ∷ []))) two
    (let xs = f ++ (58 ∷ []) in
    let len = lettered_len s.flow f short in
    let breaks : reason s.flow ((f ++ (58 ∷ [])) ++ (97 ∷ [])) ≡ Break = ap (λ k. why (drop k ((f ++ (58 ∷ [])) ++ (97 ∷ [])))) len ∙ ap why (past_all ((f ++ (58 ∷ [])) ++ (97 ∷ []))) in
    let same = whole_content s.flow (f ++ (58 ∷ [])) 97 refl len in
    let far : at + length ((f ++ (58 ∷ [])) ++ (97 ∷ [])) ≡ suc (suc place) = omega (arith, size, length-append (f ++ (58 ∷ [])) (97 ∷ []), length-append f (58 ∷ [])) in (
      f ++ (58 ∷ []),
      opens_is s fresh at ((f ++ (58 ∷ [])) ++ (97 ∷ [])) [] (fit_marked fresh (f ++ (58 ∷ [])) 97 [] refl m) (begins_more s.flow f b) ∙ ap (λ w. first s w at ((f ++ (58 ∷ [])) ++ (97 ∷ [])) []) breaks
          ∙ one s.one_line ∙ ap (λ (y : List ℕ). Stands y (at + length y)) same ∙ ap (Stands ((f ++ (58 ∷ [])) ++ (97 ∷ []))) far,
    )) where
      one : (q : Bool) → cond q (Stands (content s.flow ((f ++ (58 ∷ [])) ++ (97 ∷ []))) (content_end s.flow ((f ++ (58 ∷ [])) ++ (97 ∷ [])) at)) (Stands (content s.flow ((f ++ (58 ∷ [])) ++ (97 ∷ []))) (content_end s.flow ((f ++ (58 ∷ [])) ++ (97 ∷ [])) at))
          ≡ Stands (content s.flow ((f ++ (58 ∷ [])) ++ (97 ∷ []))) (content_end s.flow ((f ++ (58 ∷ [])) ++ (97 ∷ [])) at)
      one true = refl
      one false = refl

plain_goes : (s : Setting) (fresh : Bool) (place : ℕ) (r : Bool) (ks : List Line) (t : List ℕ) (e : ℕ) → Ends place r ks → plain_on s fresh (glue ks (colon place ∷ [])) ≡ Stands t e → plain_shown s (suc place) (glue ks (colon place ∷ [])) ≡ suc place
    → Lettered (suc (suc place)) (plain_on s fresh (glue ks (lettered place ∷ [])))
plain_goes s fresh place r ks t e x h g = by_line (plain_reaches s fresh place r ks t e x h g) where
  by_line : IsAlone s fresh place ks t e ⊎ Reaches s place (λ f fs. plain_on s fresh (glue ks (f ∷ fs))) (AreFree false (glue ks (colon place ∷ []))) → Lettered (suc (suc place)) (plain_on s fresh (glue ks (lettered place ∷ [])))
  by_line (inl (l, is, size, m, b, len, st)) = subst (λ ks. Lettered (suc (suc place)) (plain_on s fresh (glue ks (lettered place ∷ [])))) (sym is) (alone s fresh place l.at l.bytes size m b len)
  by_line (inr (l, v, f, k, n, size, up, is, free)) = let z = further_goes s place l.at n l.bytes v f k size up in (z.0, is (lettered place) [] ∙ z.1)

-- ---- the scalar

-- of a text, by the bytes in front of the colon
front_lettered : (s : Setting) (front : List ℕ) (at : ℕ) (t : List ℕ) (e : ℕ) → at ≤ length front → begins_quoted (drop at (front ++ (58 ∷ []))) ≡ false → begins_block s (drop at (front ++ (58 ∷ []))) ≡ false
    → plain_shown s (suc (length front)) (lines at (drop at (front ++ (58 ∷ [])))) ≡ suc (length front) → scalar_at s (front ++ (58 ∷ [])) at ≡ Stands t e
    → (u : List ℕ) × (scalar_at s ((front ++ (58 ∷ [])) ++ (97 ∷ [])) at ≡ Stands (u ++ (97 ∷ [])) (suc (suc (length front))))
front_lettered s front at t e l q b shown h =
    let text = front ++ (58 ∷ []) in
    let ks = lines at (drop at front) in
    let fresh = is_first_column text at in
    let size = drop_size at front l in
    let two : (front ++ (58 ∷ [])) ++ (97 ∷ []) ≡ front ++ (58 ∷ 97 ∷ []) = append_assoc front (58 ∷ []) (97 ∷ []) in
    let plain : plain_scalar s (front ++ (58 ∷ [])) at ≡ Stands t e =
    sym (ap (λ r. cond r (quoted_scalar s text at) (cond (begins_block s (drop at text)) (block_scalar s text at) (plain_scalar s text at))) q ∙ ap (λ r. cond r (block_scalar s text at) (plain_scalar s text at)) b) ∙ h in
    let old : lines at (drop at (front ++ (58 ∷ []))) ≡ glue (lines at (drop at front)) (colon (length front) ∷ []) =
    ap (lines at) (drop_before at front (58 ∷ []) l) ∙ lines_more at (drop at front) (58 ∷ []) refl ∙ ap (λ n. glue (lines at (drop at front)) (colon n ∷ [])) size in
    let new : lines at (drop at ((front ++ (58 ∷ [])) ++ (97 ∷ []))) ≡ glue (lines at (drop at front)) (lettered (length front) ∷ []) =
    ap (λ y. lines at (drop at y)) two ∙ ap (lines at) (drop_before at front (58 ∷ 97 ∷ []) l) ∙ lines_more at (drop at front) (58 ∷ 97 ∷ []) refl ∙ ap (λ n. glue (lines at (drop at front)) (lettered n ∷ [])) size in
    let same : is_first_column ((front ++ (58 ∷ [])) ++ (97 ∷ [])) at ≡ is_first_column (front ++ (58 ∷ [])) at = ap (λ y. is_first_column y at) two ∙ sym (column_same front 58 [] (97 ∷ []) at l) in
    let ends = subst (λ n. Ends n (ends_with 13 (drop at front)) (lines at (drop at front))) size (lines_end at (drop at front)) in
    let z = plain_goes s (is_first_column text at) (length front) (ends_with 13 (drop at front)) (lines at (drop at front)) t e ends (sym (ap (plain_on s fresh) old) ∙ plain) (sym (ap (plain_shown s (suc (length front))) old) ∙ shown) in (
      z.0,
      kind_longer s text (97 ∷ []) at (scalar_at s text at) (Stands (z.0 ++ (97 ∷ [])) (suc (suc (length front)))) (omega (arith, l, length-append front (58 ∷ [])))
          (λ r g. absurd (true≢false (sym r ∙ q)))
          (λ r k g. absurd (true≢false (sym k ∙ b)))
          (λ r k g. ap (λ p. plain_on s p (lines at (drop at (text ++ (97 ∷ []))))) same ∙ ap (plain_on s fresh) new ∙ z.1) refl,
    )

pub scalar_lettered : (s : Setting) (text : List ℕ) (at : ℕ) (t : List ℕ) (e : ℕ) → at < length text → ends_with 58 text ≡ true → begins_quoted (drop at text) ≡ false → begins_block s (drop at text) ≡ false → scalar_shown s text at e ≡ length text → scalar_at s text at ≡ Stands t e
    → (u : List ℕ) × (scalar_at s (text ++ (97 ∷ [])) at ≡ Stands (u ++ (97 ∷ [])) (length (text ++ (97 ∷ []))))
scalar_lettered s text at t e l last q b shown h =
    let f = last_apart 58 text last in
    let size : length text ≡ suc (length f.0) = ap (λ (y : List ℕ). length y) f.1 ∙ length-append f.0 (58 ∷ []) ∙ (let z : length f.0 + 1 ≡ suc (length f.0) = omega arith in z) in
    let plain : plain_shown s (length text) (lines at (drop at text)) ≡ length text =
    sym (ap (λ r. cond r e (cond (begins_block s (drop at text)) (e + out_shown (line_at (drop e text))) (plain_shown s (length text) (lines at (drop at text))))) q ∙ ap (λ r. cond r (e + out_shown (line_at (drop e text))) (plain_shown s (length text) (lines at (drop at text)))) b) ∙ shown in
    let r =
    front_lettered s f.0 at t e (omega (arith, l, size)) (ap (λ y. begins_quoted (drop at y)) (sym f.1) ∙ q) (ap (λ y. begins_block s (drop at y)) (sym f.1) ∙ b)
    (ap (λ y. plain_shown s (suc (length f.0)) (lines at (drop at y))) (sym f.1) ∙ ap (λ n. plain_shown s n (lines at (drop at text))) (sym size) ∙ plain ∙ size) (ap (λ y. scalar_at s y at) (sym f.1) ∙ h) in
    let long : length (text ++ (97 ∷ [])) ≡ suc (suc (length f.0)) = omega (arith, size, length-append text (97 ∷ [])) in
    (r.0, ap (λ y. scalar_at s (y ++ (97 ∷ [])) at) f.1 ∙ r.1 ∙ ap (Stands (r.0 ++ (97 ∷ []))) (sym long))
