-- Where a plain key fails behind a carriage return that ends the text, it stands without the carriage return, with nothing but white space behind it, or with a colon behind that. By the cases of what ends its line.
use Rattle.std.proofs.Common.{◌≡◌, ℕ, suc, ◌+◌, ◌<◌, ◌≤◌, Bool, true, false, List, [], ◌∷◌, ◌++◌, length, take, drop, refl, sym, ap, inl, inr, ◌∙◌, arith, cond, subst, append_assoc, length-append, true≢false}
use Rattle.std.specs.Prelude.{◌&&◌}
use Rattle.std.proofs.lemmas.List.{drop-drop, take_all}
use Rattle.yaml_scalars.specs.declared.scalar.Setting.{Setting}
use Rattle.yaml_scalars.specs.declared.plain_line.Why.{Why}
use Rattle.yaml_scalars.specs.declared.plain_line.Why.TheVariants.{Break, Return, Colon, Comment, Mark}
use Rattle.yaml_scalars.specs.Lines.{Line, Stands, Fails, ends_with, is_white, is_blank, keep, trimmed, lines}
use Rattle.yaml_scalars.specs.Plain.{begins_plain, stops, plain_len, content, content_end, why, reason, more, first, plain_on}
use Rattle.yaml_scalars.specs.Scalar.{is_first_column, begins_quoted, plain_scalar, quoted_scalar, scalar_at}
use Rattle.yaml_scalars.specs.code.Walk.{line_at, has_break, behind}
use Rattle.yaml_scalars.proofs.Places.{lines_are}
use Rattle.yaml_laws.specs.code.Endings.{IsKeyEnd}
use Rattle.yaml_laws.proofs.Agree.{drop_before, drop_size}
use Rattle.yaml_laws.proofs.KeyLines.{by_kind}
use Rattle.yaml_laws.proofs.Longer.{cut, Ends, lines_more, lines_end, behind_none}
use Rattle.yaml_laws.proofs.PlainDead.{fails_same, len_past, drop_whole}
use Rattle.yaml_laws.proofs.PlainFed.{len_kept}
use Rattle.yaml_laws.proofs.PlainFollowed.{trimmed_le}
use Rattle.yaml_laws.proofs.PlainShown.{fail_within, last_apart, take_front}
use Rattle.yaml_laws.proofs.PlainLaw.{marked, opens, mark_length, wrong_to}
use Rattle.yaml_laws.proofs.PlainLonger.{opens_is, begins_less, mark_less, not_three, wrong_early}
use Rattle.yaml_laws.proofs.ScalarLaw.{column_longer}
use Rattle.yaml_laws.proofs.ScalarFollowed.{quoted_longer}

-- ---- white space at a line's end

rest_blank : (xs : List ℕ) → is_blank (drop (length (trimmed xs)) xs) ≡ true
rest_blank [] = refl
rest_blank (b ∷ xs) = by_rest (trimmed xs) (rest_blank xs) where
  by_white : (q : Bool) → is_white b ≡ q → is_blank xs ≡ true → is_blank (drop (length (cond q [] (b ∷ []))) (b ∷ xs)) ≡ true
  by_white true e h = ap (λ q. cond q (is_blank xs) false) e ∙ h
  by_white false e h = h

  by_rest : (ts : List ℕ) → is_blank (drop (length ts) xs) ≡ true → is_blank (drop (length (keep b ts)) (b ∷ xs)) ≡ true
  by_rest [] h = by_white (is_white b) refl h
  by_rest (c ∷ cs) h = h

-- ---- the line

-- a key whose line is not the last does not fail behind the text
not_below : (s : Setting) (fresh : Bool) (p : ℕ) (l : Line) (ls : List Line) → l.at + length l.bytes < p → s.one_line ≡ true → plain_on s fresh (l ∷ ls) ≡ Fails p → ⊥
not_below s fresh p l ls less one h = by_tests (fresh && marked l.bytes) (begins_plain s.flow l.bytes) refl h where
  second : (q r : Bool) → (q && r) ≡ true → r ≡ true
  second true r h = h
  second false r h = absurd (cc)

  by_line : (q : Bool) → q ≡ true → cond q (Stands (content s.flow l.bytes) (content_end s.flow l.bytes l.at)) (more s ls (content s.flow l.bytes) (content_end s.flow l.bytes l.at) 0) ≡ Fails p → ⊥
  by_line true e g = cc
  by_line false e g = true≢false (sym e)

  by_why : (w : Why) → reason s.flow l.bytes ≡ w → first s w l.at l.bytes ls ≡ Fails p → ⊥
  by_why Break e g = by_line s.one_line one g
  by_why Return e g = let q = fails_same _ p g in let k = fail_within s.flow l.bytes 0 (omega arith) (inl e) in omega (arith, q, k, less)
  by_why Colon e g = cc
  by_why Comment e g = cc
  by_why Mark e g = cc

  by_tests : (m b : Bool) → (fresh && marked l.bytes) ≡ m → opens s l.at l.bytes ls m b ≡ Fails p → ⊥
  by_tests true b x h = let q = fails_same _ p h in let k = mark_length l.bytes (second fresh (marked l.bytes) x) in omega (arith, q, k, less)
  by_tests false false x h = let q = fails_same _ p h in let k = wrong_to l.at l.bytes in omega (arith, q, k, less)
  by_tests false true x h = by_why (reason s.flow l.bytes) refl h

abbrev Stood : Setting → Bool → ℕ → List ℕ → Type 0
Stood s fresh at f = (t : List ℕ) × (n : ℕ) × (opens s at f [] (fresh && marked f) (begins_plain s.flow f) ≡ Stands t (at + n)) × (n ≤ length f) × IsKeyEnd (drop n f)

point_stops : (flow w : Bool) → stops flow w 58 [] ≡ true
point_stops flow w = refl

past_all : (f : List ℕ) → drop (length f) f ≡ []
past_all [] = refl
past_all (b ∷ f) = past_all f

alone : (s : Setting) (at : ℕ) (f : List ℕ) → first s Break at f [] ≡ Stands (content s.flow f) (content_end s.flow f at)
alone s at f = by_line s.one_line where
  by_line : (q : Bool) → cond q (Stands (content s.flow f) (content_end s.flow f at)) (Stands (content s.flow f) (content_end s.flow f at)) ≡ Stands (content s.flow f) (content_end s.flow f at)
  by_line true = refl
  by_line false = refl

stood : (s : Setting) (fresh : Bool) (at : ℕ) (f : List ℕ) → (fresh && marked (f ++ (13 ∷ []))) ≡ false → begins_plain s.flow (f ++ (13 ∷ [])) ≡ true → plain_len s.flow false (f ++ (13 ∷ [])) ≡ length f → Stood s fresh at f
stood s fresh at f x y short = by_point (ends_with 58 f) refl where
  opened : opens s at f [] (fresh && marked f) (begins_plain s.flow f) ≡ first s (reason s.flow f) at f []
  opened = opens_is s fresh at f [] (mark_less fresh f x) (begins_less s.flow f y)

  by_point : (q : Bool) → ends_with 58 f ≡ q → Stood s fresh at f
  by_point false e =
      let full = len_kept s.flow false f short e in
      let breaks : reason s.flow f ≡ Break = ap (λ k. why (drop k f)) full ∙ ap why (past_all f) in
      let is : content s.flow f ≡ trimmed f = ap (λ k. trimmed (take k f)) full ∙ ap trimmed (take_all (length f) f (omega arith)) in (
        content s.flow f,
        length (trimmed f),
        opened ∙ ap (λ w. first s w at f []) breaks ∙ alone s at f ∙ ap (λ (y : List ℕ). Stands (content s.flow f) (at + length y)) is,
        trimmed_le f,
        inl (rest_blank f),
      )
  by_point true e =
      let a = last_apart 58 f e in
      let r = a.0 in
      let sizes = ap (λ (y : List ℕ). length y) a.1 in
      let long = length-append r (58 ∷ []) in
      let two : f ++ (13 ∷ []) ≡ r ++ (58 ∷ 13 ∷ []) = ap (λ y. y ++ (13 ∷ [])) a.1 ∙ append_assoc r (58 ∷ []) (13 ∷ []) in
      let far : length r ≤ plain_len s.flow false (r ++ (58 ∷ 13 ∷ [])) = (let z : plain_len s.flow false (r ++ (58 ∷ 13 ∷ [])) ≡ length f = sym (ap (plain_len s.flow false) two) ∙ short in omega (arith, z, sizes, long)) in
      let len : plain_len s.flow false f ≡ length r = ap (plain_len s.flow false) a.1 ∙ len_past s.flow false r 58 (13 ∷ []) [] far (point_stops s.flow) in
      let points : reason s.flow f ≡ Colon = ap (λ k. why (drop k f)) len ∙ ap (λ y. why (drop (length r) y)) a.1 ∙ ap why (drop_whole r (58 ∷ [])) in
      let is : content s.flow f ≡ trimmed r = ap (λ k. trimmed (take k f)) len ∙ ap (λ y. trimmed (take (length r) y)) a.1 ∙ ap trimmed (take_front r (58 ∷ [])) in
      let le = trimmed_le r in (
        content s.flow f,
        length (trimmed r),
        opened ∙ ap (λ w. first s w at f []) points ∙ ap (λ (y : List ℕ). Stands (content s.flow f) (at + length y)) is,
        omega (arith, le, sizes, long),
        inr (drop (length (trimmed r)) r, ap (drop (length (trimmed r))) a.1 ∙ drop_before (length (trimmed r)) r (58 ∷ []) le, rest_blank r),
      )

line_stood : (s : Setting) (fresh : Bool) (place at : ℕ) (f : List ℕ) → s.one_line ≡ true → at + length f ≡ place → opens s at (f ++ (13 ∷ [])) [] (fresh && marked (f ++ (13 ∷ []))) (begins_plain s.flow (f ++ (13 ∷ []))) ≡ Fails (suc place) → Stood s fresh at f
line_stood s fresh place at f one size h = by_tests (fresh && marked (f ++ (13 ∷ []))) (begins_plain s.flow (f ++ (13 ∷ []))) refl refl h where
  g : List ℕ
  g = f ++ (13 ∷ [])

  by_line : (q : Bool) → q ≡ true → cond q (Stands (content s.flow g) (content_end s.flow g at)) (Stands (content s.flow g) (content_end s.flow g at)) ≡ Fails (suc place) → ⊥
  by_line true e h = cc
  by_line false e h = true≢false (sym e)

  by_why : (w : Why) → first s w at g [] ≡ Fails (suc place) → plain_len s.flow false g ≡ length f
  by_why Break h = absurd (by_line s.one_line one h)
  by_why Return h = let q = fails_same _ (suc place) h in omega (arith, q, size)
  by_why Colon h = absurd (cc)
  by_why Comment h = absurd (cc)
  by_why Mark h = absurd (cc)

  by_tests : (m b : Bool) → (fresh && marked g) ≡ m → begins_plain s.flow g ≡ b → opens s at g [] m b ≡ Fails (suc place) → Stood s fresh at f
  by_tests true b x y h = absurd (let p = fails_same _ (suc place) h in not_three fresh f (omega (arith, p, size)) x)
  by_tests false false x y h = absurd (let p = fails_same _ (suc place) h in let w = wrong_early at f in omega (arith, p, size, w))
  by_tests false true x y h = stood s fresh at f x y (by_why (reason s.flow g) h)

-- ---- texts

pub key_returned : (s : Setting) (front : List ℕ) (at : ℕ) → at < length front → s.one_line ≡ true → begins_quoted (drop at (front ++ (13 ∷ []))) ≡ false → scalar_at s (front ++ (13 ∷ [])) at ≡ Fails (length (front ++ (13 ∷ [])))
    → (t : List ℕ) × (n : ℕ) × (scalar_at s front at ≡ Stands t (at + n)) × (at + n ≤ length front) × IsKeyEnd (drop (at + n) front)
key_returned s front at low one q h =
    let text = front ++ (13 ∷ []) in
    let d = drop at front in
    let l : at ≤ length front = omega (arith, low) in
    let place = at + length d in
    let k : Line = record { at = at; bytes = line_at d; broken = has_break d } in
    let is = lines_are at d in
    let fresh = is_first_column text at in
    let size : length (front ++ (13 ∷ [])) ≡ suc (at + length (drop at front)) = (let z = drop_size at front l in omega (arith, z, length-append front (13 ∷ []))) in
    let old_lines : lines at (drop at (front ++ (13 ∷ []))) ≡ cut (lines at (drop at front)) (at + length (drop at front)) = ap (lines at) (drop_before at front (13 ∷ []) l) ∙ lines_more at (drop at front) (13 ∷ []) refl in
    let plain : plain_scalar s (front ++ (13 ∷ [])) at ≡ Fails (length (front ++ (13 ∷ []))) = sym (by_kind s text at one ∙ ap (λ r. cond r (quoted_scalar s text at) (plain_scalar s text at)) q) ∙ h in
    let old : plain_on s fresh (cut (k ∷ behind at d) place) ≡ Fails (suc place) = sym (ap (plain_on s fresh) (old_lines ∙ ap (λ ls. cut ls place) is)) ∙ plain ∙ ap Fails size in
    let ends = subst (λ ls. Ends place (ends_with 13 d) ls) is (lines_end at d) in
    let z = by_lines fresh place (behind at d) refl ends old in
    let front_quoted : begins_quoted (drop at front) ≡ false = sym (quoted_longer front (13 ∷ []) at low) ∙ q in
    let stands : scalar_at s front at ≡ Stands z.0 (at + z.1) =
    by_kind s front at one ∙ ap (λ r. cond r (quoted_scalar s front at) (plain_scalar s front at)) front_quoted ∙ ap (λ p. plain_on s p (lines at (drop at front))) (sym (column_longer front (13 ∷ []) at l)) ∙ z.2 in (
      z.0,
      z.1,
      stands,
      (let y = z.3 in let x = drop_size at front l in omega (arith, y, x)),
      subst IsKeyEnd (drop-drop z.1 at front) z.4,
    ) where
      by_lines : (fresh : Bool) (place : ℕ) (ks : List Line) → behind at (drop at front) ≡ ks → Ends place (ends_with 13 (drop at front)) (record { at = at; bytes = line_at (drop at front); broken = has_break (drop at front) } ∷ ks)
          → plain_on s fresh (cut (record { at = at; bytes = line_at (drop at front); broken = has_break (drop at front) } ∷ ks) place) ≡ Fails (suc place)
          → (t : List ℕ) × (n : ℕ) × (plain_on s fresh (lines at (drop at front)) ≡ Stands t (at + n)) × (n ≤ length (drop at front)) × IsKeyEnd (drop n (drop at front))
      by_lines fresh place (m ∷ ks) e x h = absurd (let y = x.0 in not_below s fresh (suc place) (record { at = at; bytes = line_at (drop at front); broken = has_break (drop at front) }) (cut (m ∷ ks) place) (omega (arith, y)) one h)
      by_lines fresh place [] e x h =
          let d = drop at front in
          let whole : line_at (drop at front) ≡ drop at front = (behind_none at d e).1 in
          let z = line_stood s fresh place at (line_at d) one x.0 h in (
            z.0,
            z.1,
            ap (plain_on s fresh) (lines_are at d) ∙ ap (λ ks. plain_on s fresh (record { at = at; bytes = line_at d; broken = has_break d } ∷ ks)) e ∙ z.2,
            subst (λ (y : List ℕ). z.1 ≤ length y) whole z.3,
            subst (λ (y : List ℕ). IsKeyEnd (drop z.1 y)) whole z.4,
          )
