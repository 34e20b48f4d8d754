-- Where a colon that ends the text shows the end of a plain scalar, the scalar goes on up to the text's last line, whatever stands behind the colon. By induction over the lines.
use Rattle.std.proofs.Common.{◌≡◌, ℕ, zero, suc, ◌+◌, ◌<◌, ◌≤◌, ◌⊎◌, inl, inr, Bool, true, false, ◌||◌, ◌&&◌, cond, nat_eq, nat_lt, arith, List, [], ◌∷◌, ◌++◌, drop, length, refl, sym, ap, ◌∙◌, true≢false}
use Rattle.std.proofs.lemmas.Bool.Decides.{nat_tests}
use Rattle.yaml_scalars.specs.declared.scalar.Setting.{Setting}
use Rattle.yaml_scalars.specs.declared.plain_line.Why.{Why}
use Rattle.yaml_scalars.specs.declared.plain_line.Why.TheVariants.{Break, Return, Colon, Comment, Mark}
use Rattle.yaml_scalars.specs.declared.plain_line.Below.{Below}
use Rattle.yaml_scalars.specs.declared.plain_line.Below.TheVariants.{Blank, Outside, Further}
use Rattle.yaml_scalars.specs.Lines.{Line, Outcome, Stands, begins_with, is_white, is_mark, lead, indent, past_white}
use Rattle.yaml_scalars.specs.Plain.{begins_plain, stops, plain_len, content, content_end, why, reason, above_of, inside, below, joined, joins, further, first, more, plain_on}
use Rattle.yaml_scalars.proofs.FurtherLines.{skip_le, plain_le}
use Rattle.yaml_scalars.proofs.Places.{lead_le}
use Rattle.yaml_laws.specs.code.Agreement.{out_shown, shown_by, part_shown, line_shown, more_shown, plain_shown}
use Rattle.yaml_laws.specs.code.Dots.{undotted}
use Rattle.yaml_laws.proofs.Agree.{drop_before, drop_size}
use Rattle.yaml_laws.proofs.DotEscapes.{IsFree}
use Rattle.yaml_laws.proofs.DotPlain.{behind_free, blank_line, free_undotted, text_free, whole_free}
use Rattle.yaml_laws.proofs.DotQuoted.{blank_undotted}
use Rattle.yaml_laws.proofs.Dotless.{AreFree}
use Rattle.yaml_laws.proofs.Longer.{glue, rest_of, Ends}
use Rattle.yaml_laws.proofs.PlainLaw.{marked}
use Rattle.yaml_laws.proofs.PlainLines.{further_parts}
use Rattle.yaml_laws.proofs.PlainLonger.{opens_is}
use Rattle.yaml_laws.proofs.PlainShown.{blank_front, lead_front}
use Rattle.yaml_laws.proofs.PlainStays.{opens_stands}

abbrev pub colon : ℕ → Line
colon at = rest_of at (58 ∷ [])

-- ---- a line that ends in the colon

-- the colon is no content
point_len : (flow white : Bool) (g : List ℕ) → plain_len flow white (g ++ (58 ∷ [])) ≤ length g
point_len true white [] = let z : plain_len true white (58 ∷ []) ≡ 0 = refl in omega (arith, z)
point_len false white [] = let z : plain_len false white (58 ∷ []) ≡ 0 = refl in omega (arith, z)
point_len flow white (b ∷ g) = by_stop (stops flow white b (g ++ (58 ∷ []))) (point_len flow (is_white b) g) where
  by_stop : (q : Bool) → plain_len flow (is_white b) (g ++ (58 ∷ [])) ≤ length g → cond q 0 (suc (plain_len flow (is_white b) (g ++ (58 ∷ [])))) ≤ suc (length g)
  by_stop true r = omega arith
  by_stop false r = omega (arith, r)

-- so the line's end does not end it
some_byte : (m : ℕ) (g : List ℕ) → m ≤ length g → (c : ℕ) × (z : List ℕ) × (drop m (g ++ (58 ∷ [])) ≡ c ∷ z)
some_byte zero [] l = (58, [], refl)
some_byte (suc m) [] l = absurd (omega (arith, l))
some_byte zero (b ∷ g) l = (b, g ++ (58 ∷ []), refl)
some_byte (suc m) (b ∷ g) l = some_byte m g (omega (arith, l))

some_why : (c : ℕ) (z : List ℕ) → why (c ∷ z) ≡ Break → ⊥
some_why c z k = by_tests (nat_eq c 13) (nat_eq c 58) (nat_eq c 35) k where
  by_tests : (p q r : Bool) → cond p Return (cond q Colon (cond r Comment Mark)) ≡ Break → ⊥
  by_tests true q r k = cc
  by_tests false true r k = cc
  by_tests false false true k = cc
  by_tests false false false k = cc

no_break : (flow : Bool) (g : List ℕ) → reason flow (g ++ (58 ∷ [])) ≡ Break → ⊥
no_break flow g h = let b = some_byte (plain_len flow false (g ++ (58 ∷ []))) g (point_len flow false g) in some_why b.0 b.1 (sym (ap why b.2) ∙ h)

-- nor is it looked at for what ends a scalar above the line
lead_point : (p : ℕ → Bool) (g : List ℕ) → p 58 ≡ false → lead p (g ++ (58 ∷ [])) ≤ length g
lead_point p g n = (lead_front p g 58 [] [] n).1

at_point : (n : ℕ) (g : List ℕ) → n ≤ length g → begins_with 13 (drop n (g ++ (58 ∷ []))) ≡ true → n < length g
at_point zero [] l h = absurd (true≢false (sym h))
at_point (suc n) [] l h = absurd (omega (arith, l))
at_point zero (b ∷ g) l h = omega arith
at_point (suc n) (b ∷ g) l h = let r = at_point n g (omega (arith, l)) h in omega (arith, r)

mark_point : (g : List ℕ) → is_mark (g ++ (58 ∷ [])) ≡ true → 4 ≤ length g
mark_point [] h = absurd (true≢false (sym h))
mark_point (a ∷ []) h = absurd (true≢false (sym h))
mark_point (a ∷ b ∷ []) h = absurd (by_tests h) where
  by_tests : ((nat_eq a 45 || nat_eq a 46) && (nat_eq a b && (nat_eq a 58 && true))) ≡ true → ⊥
  by_tests h = grind (arith, nat_tests, h)
mark_point (a ∷ b ∷ c ∷ []) h = absurd (by_tests (nat_eq a 45 || nat_eq a 46) (nat_eq a b) (nat_eq a c) h) where
  by_tests : (p q r : Bool) → (p && (q && (r && false))) ≡ true → ⊥
  by_tests true true true h = true≢false (sym h)
  by_tests true true false h = true≢false (sym h)
  by_tests true false r h = true≢false (sym h)
  by_tests false q r h = true≢false (sym h)
mark_point (a ∷ b ∷ c ∷ d ∷ g) h = omega arith

end_point : (g : List ℕ) → out_shown (g ++ (58 ∷ [])) ≤ length g
end_point g = by_mark (is_mark (g ++ (58 ∷ []))) refl where
  by_return : (q : Bool) → begins_with 13 (drop (lead is_white (g ++ (58 ∷ []))) (g ++ (58 ∷ []))) ≡ q → cond q (suc (lead is_white (g ++ (58 ∷ [])))) (lead is_white (g ++ (58 ∷ []))) ≤ length g
  by_return true h = let l = at_point (lead is_white (g ++ (58 ∷ []))) g (lead_point is_white g refl) h in omega (arith, l)
  by_return false h = lead_point is_white g refl

  by_mark : (q : Bool) → is_mark (g ++ (58 ∷ [])) ≡ q → cond q 4 (cond (begins_with 13 (drop (lead is_white (g ++ (58 ∷ []))) (g ++ (58 ∷ [])))) (suc (lead is_white (g ++ (58 ∷ [])))) (lead is_white (g ++ (58 ∷ [])))) ≤ length g
  by_mark true h = mark_point g h
  by_mark false h = by_return (begins_with 13 (drop (lead is_white (g ++ (58 ∷ []))) (g ++ (58 ∷ [])))) refl

-- of any line not more than the byte behind it
end_fits : (xs : List ℕ) → out_shown xs ≤ suc (length xs)
end_fits xs = by_mark (is_mark xs) refl where
  three : (xs : List ℕ) → is_mark xs ≡ true → 3 ≤ length xs
  three [] h = absurd (true≢false (sym h))
  three (a ∷ []) h = absurd (true≢false (sym h))
  three (a ∷ b ∷ []) h = absurd (true≢false (sym h))
  three (a ∷ b ∷ c ∷ xs) h = omega arith

  by_return : (q : Bool) → cond q (suc (lead is_white xs)) (lead is_white xs) ≤ suc (length xs)
  by_return true = let l = lead_le is_white xs in omega (arith, l)
  by_return false = let l = lead_le is_white xs in omega (arith, l)

  by_mark : (q : Bool) → is_mark xs ≡ q → cond q 4 (cond (begins_with 13 (drop (lead is_white xs) xs)) (suc (lead is_white xs)) (lead is_white xs)) ≤ suc (length xs)
  by_mark true h = let l = three xs h in omega (arith, l)
  by_mark false h = by_return (begins_with 13 (drop (lead is_white xs) xs))

-- what is shown on a line that is not the last, is shown before the text's end
shown_most : (v : Why) (stop most next : ℕ) → (v ≡ Break → ⊥) → stop ≤ most → part_shown v stop next ≤ suc most
shown_most Break stop most next n l = absurd (n refl)
shown_most Return stop most next n l = omega (arith, l)
shown_most Colon stop most next n l = omega (arith, l)
shown_most Comment stop most next n l = omega (arith, l)
shown_most Mark stop most next n l = omega (arith, l)

-- ---- a further line

-- a line over which the scalar goes on, and of which all before the colon is content
abbrev pub IsUpTo : Setting → List ℕ → ℕ → Type 0
IsUpTo s f n = (below s (f ++ (58 ∷ [])) ≡ Further n) × (n ≤ length f) × (plain_len s.flow false (drop n f ++ (58 ∷ [])) ≡ length (drop n f))

-- the last one, of whose end the colon is told
module _ (s : Setting) (place at : ℕ) (f t : List ℕ) (e k : ℕ) (u : List ℕ) (v : ℕ) (size : at + length f ≡ place) where
  abbrev xs : List ℕ
  xs = f ++ (58 ∷ [])

  up_to : (n : ℕ) → below s xs ≡ Further n → joins s.flow (reason s.flow (drop n xs)) (drop n xs) (at + n) t e k (more s []) ≡ Stands u v → part_shown (reason s.flow (drop n xs)) (at + n + plain_len s.flow false (drop n xs)) (suc place) ≡ suc place → IsUpTo s f n
  up_to n b h g = (b, low, by_why (reason s.flow (drop n xs)) refl h g) where
    low : n ≤ length f
    low = let p = (further_parts s xs n b).0 in let l = lead_point is_white f refl in omega (arith, p, l)

    part : drop n xs ≡ drop n f ++ (58 ∷ [])
    part = drop_before n f (58 ∷ []) low

    len : plain_len s.flow false (drop n xs) ≡ plain_len s.flow false (drop n f ++ (58 ∷ []))
    len = ap (plain_len s.flow false) part

    most : plain_len s.flow false (drop n f ++ (58 ∷ [])) ≤ length (drop n f)
    most = point_len s.flow false (drop n f)

    rest : n + length (drop n f) ≡ length f
    rest = drop_size n f low

    by_why : (w : Why) → reason s.flow (drop n xs) ≡ w → joins s.flow w (drop n xs) (at + n) t e k (more s []) ≡ Stands u v → part_shown w (at + n + plain_len s.flow false (drop n xs)) (suc place) ≡ suc place → plain_len s.flow false (drop n f ++ (58 ∷ [])) ≡ length (drop n f)
    by_why Break i h g = absurd (no_break s.flow (drop n f) (sym (ap (reason s.flow) part) ∙ i))
    by_why Return i h g = absurd (cc)
    by_why Colon i h g = let a = len in let b = rest in omega (arith, g, a, b, size)
    by_why Comment i h g = absurd (let a = len in let b = rest in let c = most in omega (arith, g, a, b, c, size))
    by_why Mark i h g = absurd (let a = len in let b = rest in let c = most in omega (arith, g, a, b, c, size))

  blank_none : below s xs ≡ Blank → ⊥
  blank_none h = by_mark (is_mark xs) (sym (ap (λ r. cond r Blank (cond (is_mark xs) Outside (inside s xs))) (blank_front f 58 [] refl)) ∙ h) where
    no_content : (n : ℕ) (c : Bool) → cond c Outside (Further n) ≡ Blank → ⊥
    no_content n true h = absurd (cc)
    no_content n false h = absurd (cc)

    by_flow : (w a : Bool) → cond w (cond (begins_with 35 (past_white xs)) Outside (Further (lead is_white xs))) (cond a Outside (cond (begins_with 35 (drop (indent xs) xs)) Outside (Further (indent xs)))) ≡ Blank → ⊥
    by_flow true a h = no_content (lead is_white xs) (begins_with 35 (past_white xs)) h
    by_flow false true h = absurd (cc)
    by_flow false false h = no_content (indent xs) (begins_with 35 (drop (indent xs) xs)) h

    by_mark : (m : Bool) → cond m Outside (inside s xs) ≡ Blank → ⊥
    by_mark true h = absurd (cc)
    by_mark false h = by_flow s.flow (nat_lt (indent xs) (above_of s.parent) || begins_with 9 (drop (indent xs) xs)) h

  last_line : further s (below s xs) at xs t e k (more s []) ≡ Stands u v → line_shown s (below s xs) at xs (suc place) ≡ suc place → (n : ℕ) × IsUpTo s f n
  last_line h g = by_below (below s xs) refl h g where
    by_below : (w : Below) → below s xs ≡ w → further s w at xs t e k (more s []) ≡ Stands u v → line_shown s w at xs (suc place) ≡ suc place → (n : ℕ) × IsUpTo s f n
    by_below Blank i h g = absurd (blank_none i)
    by_below Outside i h g = absurd (let l = end_point f in omega (arith, g, l, size))
    by_below (Further n) i h g = (n, up_to n i h g)

-- the scalar comes to the last line, which is a further one, with a text, whatever stands behind the line; and something holds
-- where neither that text nor the line has a dot
abbrev pub Reaches : Setting → ℕ → (Line → List Line → Outcome) → Type 0 → Type 0
Reaches s place go P =
    (l : Line) × (t : List ℕ) × (e k n : ℕ) × (l.at + length l.bytes ≡ place) × IsUpTo s l.bytes n
    × ((f : Line) (fs : List Line) → go f fs ≡ further s (below s (l.bytes ++ f.bytes)) l.at (l.bytes ++ f.bytes) t e k (more s fs))
    × (IsFree t → undotted false false (l.bytes ++ (58 ∷ [])) ≡ true → P)

reach_map : {P Q : Type 0} (s : Setting) (place : ℕ) (go new : Line → List Line → Outcome) → ((f : Line) (fs : List Line) → new f fs ≡ go f fs) → (P → Q) → Reaches s place go P → Reaches s place new Q
reach_map s place go new same map (l, t, e, k, n, size, up, is, free) = (l, t, e, k, n, size, up, (λ f fs. same f fs ∙ is f fs), (λ a b. map (free a b)))

pub more_reaches : (s : Setting) (place : ℕ) (r : Bool) (ks : List Line) (t : List ℕ) (e k : ℕ) (u : List ℕ) (v : ℕ) → Ends place r ks → more s (glue ks (colon place ∷ [])) t e k ≡ Stands u v → more_shown s (suc place) (glue ks (colon place ∷ [])) ≡ suc place
    → Reaches s place (λ f fs. more s (glue ks (f ∷ fs)) t e k) (IsFree t × AreFree false (glue ks (colon place ∷ [])))
more_reaches s place r [] t e k u v x h g = absurd x
more_reaches s place r (l ∷ []) t e k u v x h g = let z = last_line s place l.at l.bytes t e k u v x.0 h g in (l, t, e, k, z.0, x.0, z.1, (λ f fs. refl), (λ a b. (a, (b, tt))))
more_reaches s place r (l ∷ m ∷ ks) t e k u v x h g = by_below (below s l.bytes) refl h g (λ a b c p q. more_reaches s place r (m ∷ ks) a b c u v x.2 p q) where
  old : List Line
  old = glue (m ∷ ks) (colon place ∷ [])

  near : l.at + length l.bytes < place
  near = x.0

  Whole : Type 0
  Whole = Reaches s place (λ f fs. more s (glue (l ∷ m ∷ ks) (f ∷ fs)) t e k) (IsFree t × AreFree false (glue (l ∷ m ∷ ks) (colon place ∷ [])))

  by_below : (w : Below) → below s l.bytes ≡ w → further s w l.at l.bytes t e k (more s old) ≡ Stands u v → line_shown s w l.at l.bytes (more_shown s (suc place) old) ≡ suc place
      → ((a : List ℕ) (b c : ℕ) → more s old a b c ≡ Stands u v → more_shown s (suc place) old ≡ suc place → Reaches s place (λ f fs. more s (glue (m ∷ ks) (f ∷ fs)) a b c) (IsFree a × AreFree false old)) → Whole
  by_below Blank i h g next =
      reach_map s place (λ f fs. more s (glue (m ∷ ks) (f ∷ fs)) t e (suc k)) (λ f fs. more s (glue (l ∷ m ∷ ks) (f ∷ fs)) t e k) (λ f fs. ap (λ w. further s w l.at l.bytes t e k (more s (glue (m ∷ ks) (f ∷ fs)))) i)
      (λ p. (p.0, (blank_undotted false l.bytes (blank_line s l.bytes i), p.1))) (next t e (suc k) h g)
  by_below Outside i h g next = absurd (let a = end_fits l.bytes in let b = near in omega (arith, a, b, g))
  by_below (Further n) i h g next = by_why (reason s.flow (drop n l.bytes)) refl h g where
    part : List ℕ
    part = drop n l.bytes

    most : l.at + n + plain_len s.flow false (drop n l.bytes) ≤ l.at + length l.bytes
    most = let a = plain_le s.flow false (drop n l.bytes) in let b = drop_size n l.bytes (skip_le s l.bytes n i) in omega (arith, a, b)

    late : (w : Why) → (w ≡ Break → ⊥) → part_shown w (l.at + n + plain_len s.flow false (drop n l.bytes)) (more_shown s (suc place) old) ≡ suc place → ⊥
    late w n g = let a = shown_most w _ (l.at + length l.bytes) (more_shown s (suc place) old) n most in let b = near in omega (arith, a, b, g)

    by_why : (w : Why) → reason s.flow (drop n l.bytes) ≡ w → joins s.flow w (drop n l.bytes) (l.at + n) t e k (more s old) ≡ Stands u v → part_shown w (l.at + n + plain_len s.flow false (drop n l.bytes)) (more_shown s (suc place) old) ≡ suc place → Whole
    by_why Break j h g =
        reach_map s place (λ f fs. more s (glue (m ∷ ks) (f ∷ fs)) (joined s.flow (drop n l.bytes) t k) (content_end s.flow (drop n l.bytes) (l.at + n)) 0) (λ f fs. more s (glue (l ∷ m ∷ ks) (f ∷ fs)) t e k)
        (λ f fs. ap (λ w. further s w l.at l.bytes t e k (more s (glue (m ∷ ks) (f ∷ fs)))) i ∙ ap (λ w. joins s.flow w (drop n l.bytes) (l.at + n) t e k (more s (glue (m ∷ ks) (f ∷ fs)))) j)
        (λ p. let r = text_free s.flow (drop n l.bytes) t k p.0 in (r.0, (free_undotted l.bytes (behind_free s l.bytes n i (whole_free s.flow (drop n l.bytes) j r.1)), p.1)))
        (next (joined s.flow (drop n l.bytes) t k) (content_end s.flow (drop n l.bytes) (l.at + n)) 0 h g)
    by_why Return j h g = absurd (late Return (λ z. absurd (cc)) g)
    by_why Colon j h g = absurd (late Colon (λ z. absurd (cc)) g)
    by_why Comment j h g = absurd (late Comment (λ z. absurd (cc)) g)
    by_why Mark j h g = absurd (late Mark (λ z. absurd (cc)) g)

-- ---- the first line

-- the only one is the last, and of it all before the colon is content
abbrev pub IsAlone : Setting → Bool → ℕ → List Line → List ℕ → ℕ → Type 0
IsAlone s fresh place ks t e =
    (l : Line) × (ks ≡ l ∷ []) × (l.at + length l.bytes ≡ place) × ((fresh && marked (l.bytes ++ (58 ∷ []))) ≡ false) × (begins_plain s.flow (l.bytes ++ (58 ∷ [])) ≡ true)
    × (plain_len s.flow false (l.bytes ++ (58 ∷ [])) ≡ length l.bytes) × (first s (reason s.flow (l.bytes ++ (58 ∷ []))) l.at (l.bytes ++ (58 ∷ [])) [] ≡ Stands t e)

pub plain_reaches : (s : Setting) (fresh : Bool) (place : ℕ) (r : Bool) (ks : List Line) (t : List ℕ) (e : ℕ) → Ends place r ks → plain_on s fresh (glue ks (colon place ∷ [])) ≡ Stands t e → plain_shown s (suc place) (glue ks (colon place ∷ [])) ≡ suc place
    → IsAlone s fresh place ks t e ⊎ Reaches s place (λ f fs. plain_on s fresh (glue ks (f ∷ fs))) (AreFree false (glue ks (colon place ∷ [])))
plain_reaches s fresh place r [] t e x h g = absurd x
plain_reaches s fresh place r (l ∷ []) t e x h g = inl (l, refl, x.0, o.0, o.1, by_why (reason s.flow xs) refl o.2 (by_line s.one_line g), o.2) where
  xs : List ℕ
  xs = l.bytes ++ (58 ∷ [])

  o : ((fresh && marked xs) ≡ false) × (begins_plain s.flow xs ≡ true) × (first s (reason s.flow xs) l.at xs [] ≡ Stands t e)
  o = opens_stands s fresh (rest_of l.at (l.bytes ++ (58 ∷ []))) [] t e h

  most : plain_len s.flow false xs ≤ length l.bytes
  most = point_len s.flow false l.bytes

  by_line : (q : Bool) → cond q (shown_by (reason s.flow xs) (l.at + plain_len s.flow false xs)) (part_shown (reason s.flow xs) (l.at + plain_len s.flow false xs) (suc place)) ≡ suc place → (reason s.flow xs ≡ Break → ⊥) × (part_shown (reason s.flow xs) (l.at + plain_len s.flow false xs) (suc place) ≡ suc place)
  by_line true g = (no_break s.flow l.bytes, same (reason s.flow xs) g) where
    same : (w : Why) → shown_by w (l.at + plain_len s.flow false xs) ≡ suc place → part_shown w (l.at + plain_len s.flow false xs) (suc place) ≡ suc place
    same Break g = refl
    same Return g = g
    same Colon g = g
    same Comment g = g
    same Mark g = g
  by_line false g = (no_break s.flow l.bytes, g)

  by_why : (w : Why) → reason s.flow xs ≡ w → first s w l.at xs [] ≡ Stands t e → (reason s.flow xs ≡ Break → ⊥) × (part_shown (reason s.flow xs) (l.at + plain_len s.flow false xs) (suc place) ≡ suc place) → plain_len s.flow false xs ≡ length l.bytes
  by_why Break i k g = absurd (g.0 i)
  by_why Return i k g = absurd (cc)
  by_why Colon i k g = let y = sym (ap (λ w. part_shown w (l.at + plain_len s.flow false xs) (suc place)) i) ∙ g.1 in let z = x.0 in omega (arith, y, z)
  by_why Comment i k g = absurd (let y = sym (ap (λ w. part_shown w (l.at + plain_len s.flow false xs) (suc place)) i) ∙ g.1 in let z = x.0 in let m = most in omega (arith, y, z, m))
  by_why Mark i k g = absurd (let y = sym (ap (λ w. part_shown w (l.at + plain_len s.flow false xs) (suc place)) i) ∙ g.1 in let z = x.0 in let m = most in omega (arith, y, z, m))
plain_reaches s fresh place r (l ∷ m ∷ ks) t e x h g = inr (by_why (reason s.flow l.bytes) refl o.2 s.one_line refl g) where
  old : List Line
  old = glue (m ∷ ks) (colon place ∷ [])

  o : ((fresh && marked l.bytes) ≡ false) × (begins_plain s.flow l.bytes ≡ true) × (first s (reason s.flow l.bytes) l.at l.bytes old ≡ Stands t e)
  o = opens_stands s fresh l old t e h

  Whole : Type 0
  Whole = Reaches s place (λ f fs. plain_on s fresh (glue (l ∷ m ∷ ks) (f ∷ fs))) (AreFree false (glue (l ∷ m ∷ ks) (colon place ∷ [])))

  stop : ℕ
  stop = l.at + plain_len s.flow false l.bytes

  near : l.at + length l.bytes < place
  near = x.0

  most : l.at + plain_len s.flow false l.bytes ≤ l.at + length l.bytes
  most = let a = plain_le s.flow false l.bytes in omega (arith, a)

  late : (w : Why) → (w ≡ Break → ⊥) → (q : Bool) → cond q (shown_by w stop) (part_shown w stop (more_shown s (suc place) old)) ≡ suc place → ⊥
  late w n true g = let a = by_shown w in let b = near in let c = most in omega (arith, a, b, c, g) where
    by_shown : (w : Why) → shown_by w stop ≤ suc stop
    by_shown Break = omega arith
    by_shown Return = omega arith
    by_shown Colon = omega arith
    by_shown Comment = omega arith
    by_shown Mark = omega arith
  late w n false g = let a = shown_most w stop (l.at + length l.bytes) (more_shown s (suc place) old) n most in let b = near in omega (arith, a, b, g)

  goes_on : reason s.flow l.bytes ≡ Break → s.one_line ≡ false → (f : Line) (fs : List Line) → plain_on s fresh (glue (l ∷ m ∷ ks) (f ∷ fs)) ≡ more s (glue (m ∷ ks) (f ∷ fs)) (content s.flow l.bytes) (content_end s.flow l.bytes l.at) 0
  goes_on i one f fs =
      let new = glue (m ∷ ks) (f ∷ fs) in
      opens_is s fresh l.at l.bytes (glue (m ∷ ks) (f ∷ fs)) o.0 o.1 ∙ ap (λ w. first s w l.at l.bytes new) i ∙ ap (λ q. cond q (Stands (content s.flow l.bytes) (content_end s.flow l.bytes l.at)) (more s new (content s.flow l.bytes) (content_end s.flow l.bytes l.at) 0)) one

  by_line : reason s.flow l.bytes ≡ Break → (q : Bool) → s.one_line ≡ q → cond q (Stands (content s.flow l.bytes) (content_end s.flow l.bytes l.at)) (more s old (content s.flow l.bytes) (content_end s.flow l.bytes l.at) 0) ≡ Stands t e → cond q stop (more_shown s (suc place) old) ≡ suc place → Whole
  by_line i true one k g = absurd (let b = near in let c = most in omega (arith, b, c, g))
  by_line i false one k g =
      reach_map s place (λ f fs. more s (glue (m ∷ ks) (f ∷ fs)) (content s.flow l.bytes) (content_end s.flow l.bytes l.at) 0) (λ f fs. plain_on s fresh (glue (l ∷ m ∷ ks) (f ∷ fs))) (goes_on i one) (λ p. (free_undotted l.bytes (whole_free s.flow l.bytes i p.0), p.1))
      (more_reaches s place r (m ∷ ks) (content s.flow l.bytes) (content_end s.flow l.bytes l.at) 0 t e x.2 k g)

  by_why : (w : Why) → reason s.flow l.bytes ≡ w → first s w l.at l.bytes old ≡ Stands t e → (q : Bool) → s.one_line ≡ q → cond q (shown_by (reason s.flow l.bytes) stop) (part_shown (reason s.flow l.bytes) stop (more_shown s (suc place) old)) ≡ suc place → Whole
  by_why Break i k q one g =
      by_line i q one (ap (λ z. cond z (Stands (content s.flow l.bytes) (content_end s.flow l.bytes l.at)) (more s old (content s.flow l.bytes) (content_end s.flow l.bytes l.at) 0)) (sym one) ∙ k) (ap (λ w. cond q (shown_by w stop) (part_shown w stop (more_shown s (suc place) old))) (sym i) ∙ g)
  by_why Return i k q one g = absurd (cc)
  by_why Colon i k q one g = absurd (late Colon (λ z. absurd (cc)) q (ap (λ w. cond q (shown_by w stop) (part_shown w stop (more_shown s (suc place) old))) (sym i) ∙ g))
  by_why Comment i k q one g = absurd (late Comment (λ z. absurd (cc)) q (ap (λ w. cond q (shown_by w stop) (part_shown w stop (more_shown s (suc place) old))) (sym i) ∙ g))
  by_why Mark i k q one g = absurd (late Mark (λ z. absurd (cc)) q (ap (λ w. cond q (shown_by w stop) (part_shown w stop (more_shown s (suc place) old))) (sym i) ∙ g))
