-- Where a plain scalar fails behind a carriage return that ends the text, a line feed and a further line complete it, unless a mark or a colon stands in front of the carriage return. By induction over lines.
use Rattle.std.proofs.Common.{◌≡◌, ℕ, zero, suc, ◌+◌, ◌≤◌, Bool, true, false, List, [], ◌∷◌, ◌++◌, length, drop, refl, sym, ap, inl, inr, ◌∙◌, arith, cond, subst, append_assoc, append-nil, length-append}
use Rattle.std.specs.Prelude.{nat_eq, nat_lt, ◌||◌, ◌&&◌}
use Rattle.std.proofs.lemmas.Bool.Decides.{nat_tests}
use Rattle.yaml_scalars.specs.declared.scalar.Setting.{Setting}
use Rattle.yaml_scalars.specs.declared.plain_line.Why.TheVariants.{Break, Return, Colon}
use Rattle.yaml_scalars.specs.declared.plain_line.Below.{Below}
use Rattle.yaml_scalars.specs.declared.plain_line.Below.TheVariants.{Blank, Outside, Further}
use Rattle.yaml_scalars.specs.Lines.{Line, Stands, Fails, begins_with, ends_with, each, is_white, is_space, is_blank, is_mark, lead, indent, past_white, fold, put, begun, lines}
use Rattle.yaml_scalars.specs.Scalar.{is_first_column, begins_quoted, begins_block, plain_scalar, quoted_scalar, block_scalar, scalar_at}
use Rattle.yaml_scalars.specs.code.Walk.{line_at, has_break, behind}
use Rattle.yaml_scalars.proofs.Places.{lines_are}
use Rattle.yaml_scalars.specs.Plain.{above_of, is_flow_mark, is_unsafe, begins_plain, stops, plain_len, content, content_end, why, reason, content_at, inside, below, joined, joins, further, first, more, plain_on}
use Rattle.yaml_laws.specs.code.Refusals.{is_ascii}
use Rattle.yaml_laws.specs.code.Endings.{last_mark, last_with, spaces, further_line}
use Rattle.yaml_laws.proofs.Agree.{drop_before, drop_size}
use Rattle.yaml_laws.proofs.Longer.{glue, rest_of, ended, cut, no_feed, Ends, lines_more, lines_ended, lines_end, behind_none}
use Rattle.yaml_laws.proofs.BlockHeads.{cases}
use Rattle.yaml_laws.proofs.PlainDead.{fails_same, drop_whole, drop_length}
use Rattle.yaml_laws.proofs.PlainShown.{fail_within}
use Rattle.yaml_laws.proofs.PlainLaw.{marked, opens}
use Rattle.yaml_laws.proofs.PlainLonger.{Lettered, joins_cases, shown_cases, not_stands, inside_ended, further_inside, before_end, first_cases, opens_is, begins_less, mark_less, not_three, wrong_early, plain_below}
use Rattle.yaml_laws.proofs.ScalarFollowed.{kind_longer}
use Rattle.yaml_laws.proofs.ScalarLaw.{column_same}
use Rattle.yaml_scalars.proofs.FurtherLines.{below_inside, skip_le}

-- ---- the further line

lead_spaces : (n : ℕ) → lead is_space (spaces n ++ (97 ∷ [])) ≡ n
lead_spaces zero = refl
lead_spaces (suc n) = ap suc (lead_spaces n)

lead_whites : (n : ℕ) → lead is_white (spaces n ++ (97 ∷ [])) ≡ n
lead_whites zero = refl
lead_whites (suc n) = ap suc (lead_whites n)

past_spaces : (n : ℕ) → drop n (spaces n ++ (97 ∷ [])) ≡ 97 ∷ []
past_spaces zero = refl
past_spaces (suc n) = past_spaces n

full_spaces : (n : ℕ) → is_blank (spaces n ++ (97 ∷ [])) ≡ false
full_spaces zero = refl
full_spaces (suc n) = full_spaces n

bare_spaces : (n : ℕ) → is_mark (spaces n ++ (97 ∷ [])) ≡ false
bare_spaces zero = refl
bare_spaces (suc zero) = refl
bare_spaces (suc (suc zero)) = refl
bare_spaces (suc (suc (suc n))) = refl

pub long_spaces : (n : ℕ) → length (spaces n ++ (97 ∷ [])) ≡ suc n
long_spaces zero = refl
long_spaces (suc n) = ap suc (long_spaces n)

pub feedless_spaces : (n : ℕ) → no_feed (spaces n ++ (97 ∷ [])) ≡ true
feedless_spaces zero = refl
feedless_spaces (suc n) = feedless_spaces n

pub ascii_spaces : (n : ℕ) → each is_ascii (spaces n ++ (97 ∷ [])) ≡ true
ascii_spaces zero = refl
ascii_spaces (suc n) = ascii_spaces n

content_there : (n m : ℕ) (x : List ℕ) → n ≡ m → drop n x ≡ 97 ∷ [] → content_at n (drop n x) ≡ Further m
content_there n m x e d = ap (content_at n) d ∙ ap Further e

tail_below : (s : Setting) → below s (further_line s) ≡ Further (above_of s.parent)
tail_below s = ap (λ q. cond q Blank (cond (is_mark x) Outside (inside s x))) (full_spaces n) ∙ ap (λ q. cond q Outside (inside s x)) (bare_spaces n) ∙ by_flow s.flow where
  n : ℕ
  n = above_of s.parent

  x : List ℕ
  x = spaces (above_of s.parent) ++ (97 ∷ [])

  less : nat_lt n n ≡ false
  less = grind (arith, nat_tests)

  by_flow : (q : Bool) → cond q (content_at (lead is_white x) (past_white x)) (cond (nat_lt (indent x) n || begins_with 9 (drop (indent x) x)) Outside (content_at (indent x) (drop (indent x) x))) ≡ Further n
  by_flow true = content_there (lead is_white x) n x (lead_whites n) (ap (λ k. drop k x) (lead_whites n) ∙ past_spaces n)
  by_flow false =
      ap (λ k. cond (nat_lt k n || begins_with 9 (drop k x)) Outside (content_at (indent x) (drop (indent x) x))) (lead_spaces n)
      ∙ ap (λ q. cond (q || begins_with 9 (drop n x)) Outside (content_at (indent x) (drop (indent x) x))) less
      ∙ ap (λ w. cond (begins_with 9 w) Outside (content_at (indent x) (drop (indent x) x))) (past_spaces n)
      ∙ content_there (indent x) n x (lead_spaces n) (ap (λ k. drop k x) (lead_spaces n) ∙ past_spaces n)

-- it ends the scalar, with the text
tail_stands : (s : Setting) (at : ℕ) (t : List ℕ) (e k : ℕ) → Lettered (at + suc (above_of s.parent)) (more s (rest_of at (further_line s) ∷ []) t e k)
tail_stands s at t e k =
    subst (λ w. Lettered (at + suc n) (further s w at (further_line s) t e k (more s []))) (sym (tail_below s))
    (subst (λ y. Lettered (at + suc n) (joins s.flow (reason s.flow y) y (at + n) t e k (more s []))) (sym (past_spaces n)) (by_flow s.flow)) where
      n : ℕ
      n = above_of s.parent

      long : at + n + 1 ≡ at + suc n
      long = omega arith

      by_flow : (q : Bool) → Lettered (at + suc n) (joins q (reason q (97 ∷ [])) (97 ∷ []) (at + n) t e k (more s []))
      by_flow true = (t ++ fold k, ap (λ (y : List ℕ). Stands y (at + n + 1)) (sym (append_assoc t (fold k) (97 ∷ []))) ∙ ap (Stands ((t ++ fold k) ++ (97 ∷ []))) long)
      by_flow false = (t ++ fold k, ap (λ (y : List ℕ). Stands y (at + n + 1)) (sym (append_assoc t (fold k) (97 ∷ []))) ∙ ap (Stands ((t ++ fold k) ++ (97 ∷ []))) long)

-- ---- a line without the carriage return behind it

pub len_kept : (flow white : Bool) (f : List ℕ) → plain_len flow white (f ++ (13 ∷ [])) ≡ length f → ends_with 58 f ≡ false → plain_len flow white f ≡ length f
len_kept flow white [] h c = refl
len_kept flow white (b ∷ []) h c = by_tests (nat_eq b 58) (nat_eq b 35 && white) (flow && is_flow_mark b) (nat_eq b 13) (is_unsafe flow (13 ∷ [])) c h where
  by_tests : (p q r s u : Bool) → p ≡ false → cond ((((p && u) || q) || r) || s) 0 (suc (plain_len flow (is_white b) (13 ∷ []))) ≡ suc zero → cond ((((p && true) || q) || r) || s) zero (suc zero) ≡ suc zero
  by_tests true q r s u c h = absurd (cc)
  by_tests false true r s u c h = absurd (cc)
  by_tests false false true s u c h = absurd (cc)
  by_tests false false false true u c h = absurd (cc)
  by_tests false false false false u c h = refl
len_kept flow white (b ∷ d ∷ f) h c = by_stop (stops flow white b (d ∷ f)) h (λ g. len_kept flow (is_white b) (d ∷ f) g c) where
  by_stop : (q : Bool) → cond q 0 (suc (plain_len flow (is_white b) (d ∷ (f ++ (13 ∷ []))))) ≡ suc (suc (length f)) → (plain_len flow (is_white b) (d ∷ (f ++ (13 ∷ []))) ≡ suc (length f) → plain_len flow (is_white b) (d ∷ f) ≡ suc (length f))
      → cond q 0 (suc (plain_len flow (is_white b) (d ∷ f))) ≡ suc (suc (length f))
  by_stop true h r = absurd (omega (arith, h))
  by_stop false h r = ap suc (r (omega (arith, h)))

ends_past : (n : ℕ) (f : List ℕ) → ends_with 58 f ≡ false → ends_with 58 (drop n f) ≡ false
ends_past zero f h = h
ends_past (suc n) [] h = refl
ends_past (suc n) (b ∷ []) h = ends_past n [] refl
ends_past (suc n) (b ∷ c ∷ f) h = ends_past n (c ∷ f) h

past_all : (f : List ℕ) → drop (length f) f ≡ []
past_all [] = refl
past_all (b ∷ f) = past_all f

breaks : (flow : Bool) (f : List ℕ) → plain_len flow false f ≡ length f → reason flow f ≡ Break
breaks flow f h = ap (λ k. why (drop k f)) h ∙ ap why (past_all f)

-- ---- the last line

module _ (s : Setting) (place : ℕ) where
  abbrev pub end : ℕ
  end = suc (suc place) + suc (above_of s.parent)

  -- the lines below it
  abbrev pub tails : List Line
  tails = rest_of (suc (suc place)) (further_line s) ∷ []

  last_further : (at n : ℕ) (f t : List ℕ) (e k : ℕ) → at + length f ≡ place → below s (f ++ (13 ∷ [])) ≡ Further n → is_blank f ≡ false → is_mark f ≡ false → ends_with 58 f ≡ false
      → joins s.flow (reason s.flow (drop n (f ++ (13 ∷ [])))) (drop n (f ++ (13 ∷ []))) (at + n) t e k (more s []) ≡ Fails (suc place) → Lettered end (further s (below s f) at f t e k (more s tails))
  last_further at n f t e k size b full mark colon h =
      let xs = f ++ (13 ∷ []) in
      let m = plain_len s.flow false (drop n xs) in
      let long = length-append f (13 ∷ []) in
      let le = skip_le s xs n b in
      let is : below s f ≡ Further n = below_inside s f full mark ∙ sym (inside_ended s f full) ∙ further_inside s xs n b in
      let lead_le = skip_le s f n is in
      let parts : drop n xs ≡ drop n f ++ (13 ∷ []) = drop_before n f (13 ∷ []) lead_le in
      let dl = drop_length n f lead_le in
      let goes : (n + m ≡ length f) → Lettered end (further s (Further n) at f t e k (more s tails)) = λ len.
      let short : plain_len s.flow false (drop n f ++ (13 ∷ [])) ≡ length (drop n f) = ap (plain_len s.flow false) (sym parts) ∙ (let q : m ≡ length (drop n f) = omega (arith, len, dl) in q) in
      let why_is : reason s.flow (drop n f) ≡ Break = breaks s.flow (drop n f) (len_kept s.flow false (drop n f) short (ends_past n f colon)) in
      subst (λ w. Lettered end (joins s.flow w (drop n f) (at + n) t e k (more s tails))) (sym why_is) (tail_stands s (suc (suc place)) (joined s.flow (drop n f) t k) (content_end s.flow (drop n f) (at + n)) 0) in
      subst (λ w. Lettered end (further s w at f t e k (more s tails))) (sym is)
      (elim (joins_cases s.flow (reason s.flow (drop n xs)) (drop n xs) (at + n) t e k (suc place) (more s []) h) [
        | inl g ↦ absurd (not_stands _ _ (suc place) g.0)
        | inr g ↦ elim g [
          | inl r ↦ elim (shown_cases s.flow (drop n xs) (at + n) (suc place) r.1) [
            | inl q ↦ absurd (let w = fail_within s.flow xs n le (inl r.0) in omega (arith, q, w, long, size))
            | inr q ↦ (let z = q.0 in goes (omega (arith, z, size)))
          ]
          | inr c ↦ absurd (let z = c.2 in let w = returns (drop n f) (drop n xs) parts (let q : m ≡ length (drop n f) = omega (arith, z, size, dl) in q) in let v : Return ≡ Colon = sym w ∙ c.0 in cc)
        ]
      ]) where
        returns : (g y : List ℕ) → y ≡ g ++ (13 ∷ []) → plain_len s.flow false y ≡ length g → reason s.flow y ≡ Return
        returns g y e l = ap (λ j. why (drop j y)) l ∙ ap (λ y. why (drop (length g) y)) e ∙ ap why (drop_whole g (13 ∷ []))

  last_fed : (at : ℕ) (f t : List ℕ) (e k : ℕ) → at + length f ≡ place → is_mark f ≡ false → ends_with 58 f ≡ false → further s (below s (f ++ (13 ∷ []))) at (f ++ (13 ∷ [])) t e k (more s []) ≡ Fails (suc place) → Lettered end (further s (below s f) at f t e k (more s tails))
  last_fed at f t e k size mark colon h = cases (is_blank f) blank (λ b. by_below b (below s (f ++ (13 ∷ []))) refl h) where
    blank : is_blank f ≡ true → Lettered end (further s (below s f) at f t e k (more s tails))
    blank b = let z = tail_stands s (suc (suc place)) t e (suc k) in (z.0, ap (λ q. further s (cond q Blank (cond (is_mark f) Outside (inside s f))) at f t e k (more s tails)) b ∙ z.1)

    by_below : is_blank f ≡ false → (w : Below) → below s (f ++ (13 ∷ [])) ≡ w → further s w at (f ++ (13 ∷ [])) t e k (more s []) ≡ Fails (suc place) → Lettered end (further s (below s f) at f t e k (more s tails))
    by_below b Blank i h = absurd (cc)
    by_below b Outside i h = absurd (cc)
    by_below b (Further n) i h = last_further at n f t e k size i b mark colon h

  more_fed : (r : Bool) (ks : List Line) (t : List ℕ) (e k : ℕ) → Ends place r ks → last_mark ks ≡ false → last_with 58 ks ≡ false → more s (cut ks place) t e k ≡ Fails (suc place) → Lettered end (more s (glue ks (ended place (further_line s))) t e k)
  more_fed r [] t e k x m c h = absurd x
  more_fed r (l ∷ []) t e k x m c h = subst (λ (b : List ℕ). Lettered end (further s (below s b) l.at b t e k (more s tails))) (sym (append-nil l.bytes)) (last_fed l.at l.bytes t e k x.0 m c h)
  more_fed r (l ∷ n ∷ ks) t e k x m c h = by_below (below s l.bytes) refl h (λ u v w g. more_fed r (n ∷ ks) u v w x.2 m c g) where
    new : List Line
    new = glue (n ∷ ks) (ended place (further_line s))

    by_below : (w : Below) → below s l.bytes ≡ w → further s w l.at l.bytes t e k (more s (cut (n ∷ ks) place)) ≡ Fails (suc place)
        → ((u : List ℕ) (v w : ℕ) → more s (cut (n ∷ ks) place) u v w ≡ Fails (suc place) → Lettered end (more s new u v w)) → Lettered end (further s (below s l.bytes) l.at l.bytes t e k (more s new))
    by_below Blank i h f = subst (λ w. Lettered end (further s w l.at l.bytes t e k (more s new))) (sym i) (f t e (suc k) h)
    by_below Outside i h f = absurd (cc)
    by_below (Further d) i h f =
        subst (λ w. Lettered end (further s w l.at l.bytes t e k (more s new))) (sym i) (elim (joins_cases s.flow (reason s.flow (drop d l.bytes)) (drop d l.bytes) (l.at + d) t e k (suc place) (more s (cut (n ∷ ks) place)) h) [
          | inl g ↦ (let z = f _ _ _ g.0 in (z.0, g.1 (more s new) ∙ z.1))
          | inr g ↦ absurd (let y = x.0 in before_end s (suc place) l.at d l.bytes i (omega (arith, y)) g)
        ])

  -- ---- from the first line on

  first_goes : s.one_line ≡ false → (at : ℕ) (f : List ℕ) → reason s.flow f ≡ Break → Lettered end (first s (reason s.flow f) at f tails)
  first_goes one at f b =
      let z = tail_stands s (suc (suc place)) (content s.flow f) (content_end s.flow f at) 0 in
      (z.0, ap (λ w. first s w at f tails) b ∙ ap (λ q. cond q (Stands (content s.flow f) (content_end s.flow f at)) (more s tails (content s.flow f) (content_end s.flow f at) 0)) one ∙ z.1)

  first_fed : s.one_line ≡ false → (fresh : Bool) (at : ℕ) (f : List ℕ) (m b : Bool) → (fresh && marked (f ++ (13 ∷ []))) ≡ m → begins_plain s.flow (f ++ (13 ∷ [])) ≡ b → at + length f ≡ place → ends_with 58 f ≡ false → opens s at (f ++ (13 ∷ [])) [] m b ≡ Fails (suc place)
      → Lettered end (opens s at f tails (fresh && marked f) (begins_plain s.flow f))
  first_fed one fresh at f true b x y size colon h = absurd (let p = fails_same _ (suc place) h in not_three fresh f (omega (arith, p, size)) x)
  first_fed one fresh at f false false x y size colon h = absurd (let p = fails_same _ (suc place) h in let w = wrong_early at f in omega (arith, p, size, w))
  first_fed one fresh at f false true x y size colon h = elim (first_cases s (reason s.flow (f ++ (13 ∷ []))) at (f ++ (13 ∷ [])) [] (suc place) h) [
    | inl r ↦ (let p = r.1 in let short : plain_len s.flow false (f ++ (13 ∷ [])) ≡ length f = omega (arith, p, size) in
        let z = first_goes one at f (breaks s.flow f (len_kept s.flow false f short colon)) in
        (z.0, opens_is s fresh at f tails (mark_less fresh f x) (begins_less s.flow f y) ∙ z.1))
    | inr r ↦ absurd (not_stands _ _ (suc place) r.0)
  ]

  pub plain_fed : s.one_line ≡ false → (fresh r : Bool) (l : Line) (ks : List Line) → Ends place r (l ∷ ks) → last_mark ks ≡ false → last_with 58 (l ∷ ks) ≡ false → plain_on s fresh (cut (l ∷ ks) place) ≡ Fails (suc place) → Lettered end (plain_on s fresh (glue (l ∷ ks) (ended place (further_line s))))
  plain_fed one fresh r l [] x m c h =
      subst (λ (b : List ℕ). Lettered end (opens s l.at b tails (fresh && marked b) (begins_plain s.flow b))) (sym (append-nil l.bytes))
      (first_fed one fresh l.at l.bytes (fresh && marked (l.bytes ++ (13 ∷ []))) (begins_plain s.flow (l.bytes ++ (13 ∷ []))) refl refl x.0 c h)
  plain_fed one fresh r l (n ∷ ks) x m c h =
      plain_below (Lettered end) s fresh (suc place) l (cut (n ∷ ks) place) (glue (n ∷ ks) (ended place (further_line s))) (let y = x.0 in omega (arith, y)) (λ t e g. more_fed r (n ∷ ks) t e 0 x.2 m c g) h

-- ---- the last line's last byte is the text's

lines_with : (at : ℕ) (xs : List ℕ) → ends_with 58 xs ≡ false → last_with 58 (lines at xs) ≡ false
lines_with at [] h = refl
lines_with at (b ∷ xs) h = by_break (nat_eq b 10) (nat_eq b 13 && begins_with 10 xs) (sym (ap (last_with 58) (lines_are (suc at) xs)) ∙ lines_with (suc at) xs (further xs h)) where
  l : Line
  l = record { at = suc at; bytes = line_at xs; broken = has_break xs }

  further : (xs : List ℕ) → ends_with 58 (b ∷ xs) ≡ false → ends_with 58 xs ≡ false
  further [] h = refl
  further (c ∷ xs) h = h

  begins : (ls : List Line) → last_with 58 (l ∷ ls) ≡ false → last_with 58 (begun at (l ∷ ls)) ≡ false
  begins [] g = g
  begins (m ∷ ls) g = g

  puts : (ls : List Line) → (ls ≡ [] → line_at xs ≡ xs) → last_with 58 (l ∷ ls) ≡ false → last_with 58 (put at b (l ∷ ls)) ≡ false
  puts [] f g = ap (λ (t : List ℕ). ends_with 58 (b ∷ t)) (f refl) ∙ h
  puts (m ∷ ls) f g = g

  by_break : (p q : Bool) → last_with 58 (l ∷ behind (suc at) xs) ≡ false → last_with 58 (cond p (record { at = at; bytes = []; broken = true } ∷ lines (suc at) xs) (cond q (begun at (lines (suc at) xs)) (put at b (lines (suc at) xs)))) ≡ false
  by_break true q g = ap (λ ls. last_with 58 (record { at = at; bytes = []; broken = true } ∷ ls)) (lines_are (suc at) xs) ∙ g
  by_break false true g = ap (λ ls. last_with 58 (begun at ls)) (lines_are (suc at) xs) ∙ begins (behind (suc at) xs) g
  by_break false false g = ap (λ ls. last_with 58 (put at b ls)) (lines_are (suc at) xs) ∙ puts (behind (suc at) xs) (λ e. (behind_none (suc at) xs e).1) g

-- ---- texts

module _ (s : Setting) (front : List ℕ) (at : ℕ) (l : at ≤ length front) where
  abbrev text : List ℕ
  text = front ++ (13 ∷ [])

  abbrev new : List ℕ
  new = front ++ (13 ∷ 10 ∷ further_line s)

  abbrev place : ℕ
  place = at + length (drop at front)

  place_is : at + length (drop at front) ≡ length front
  place_is = drop_size at front l

  old_lines : lines at (drop at text) ≡ cut (lines at (drop at front)) place
  old_lines = ap (lines at) (drop_before at front (13 ∷ []) l) ∙ lines_more at (drop at front) (13 ∷ []) refl

  new_lines : lines at (drop at new) ≡ glue (lines at (drop at front)) (ended place (further_line s))
  new_lines = ap (lines at) (drop_before at front (13 ∷ 10 ∷ further_line s) l) ∙ lines_ended at (drop at front) (further_line s) (feedless_spaces (above_of s.parent))

  fed_text : s.one_line ≡ false → last_mark (behind at (drop at front)) ≡ false → ends_with 58 front ≡ false → plain_scalar s text at ≡ Fails (length text) → Lettered (length new) (plain_scalar s new at)
  fed_text one mark colon h =
      let d = drop at front in
      let k : Line = record { at = at; bytes = line_at d; broken = has_break d } in
      let is = lines_are at d in
      let q = is_first_column text at in
      let sizes = length-append front (13 ∷ []) in
      let size : length text ≡ suc place = (let z = place_is in omega (arith, z, sizes)) in
      let most : suc (suc place) + suc (above_of s.parent) ≡ length new = (let z = place_is in let y = long_spaces (above_of s.parent) in omega (arith, z, y, length-append front (13 ∷ 10 ∷ further_line s))) in
      let same : is_first_column new at ≡ is_first_column text at = sym (column_same front 13 [] (10 ∷ further_line s) at l) in
      let ends = subst (λ ls. Ends place (ends_with 13 d) ls) is (lines_end at d) in
      let last = sym (ap (last_with 58) is) ∙ lines_with at d (ends_past at front colon) in
      let old : plain_on s q (cut (k ∷ behind at d) place) ≡ Fails (suc place) = sym (ap (plain_on s q) (old_lines ∙ ap (λ ls. cut ls place) is)) ∙ h ∙ ap Fails size in
      let z = plain_fed s place one q (ends_with 13 d) k (behind at d) ends mark last old in
      (z.0, ap (λ p. plain_on s p (lines at (drop at new))) same ∙ ap (plain_on s q) (new_lines ∙ ap (λ ls. glue ls (ended place (further_line s))) is) ∙ z.1 ∙ ap (Stands (z.0 ++ (97 ∷ []))) most)

pub scalar_fed : (s : Setting) (front : List ℕ) (at : ℕ) → at ≤ length front → s.one_line ≡ false → begins_quoted (drop at (front ++ (13 ∷ []))) ≡ false → begins_block s (drop at (front ++ (13 ∷ []))) ≡ false → ends_with 58 front ≡ false → last_mark (behind at (drop at front)) ≡ false
    → scalar_at s (front ++ (13 ∷ [])) at ≡ Fails (length (front ++ (13 ∷ []))) → (t : List ℕ) × (scalar_at s (front ++ (13 ∷ 10 ∷ further_line s)) at ≡ Stands (t ++ (97 ∷ [])) (length (front ++ (13 ∷ 10 ∷ further_line s))))
scalar_fed s front at l one q b colon mark h =
    let w : List ℕ = 10 ∷ further_line s in
    let text = front ++ (13 ∷ []) in
    let is : (front ++ (13 ∷ [])) ++ (10 ∷ further_line s) ≡ front ++ (13 ∷ 10 ∷ further_line s) = append_assoc front (13 ∷ []) (10 ∷ further_line s) in
    let plain : plain_scalar s (front ++ (13 ∷ [])) at ≡ Fails (length (front ++ (13 ∷ []))) =
    sym (ap (λ r. cond r (quoted_scalar s text at) (cond (begins_block s (drop at text)) (block_scalar s text at) (plain_scalar s text at))) q ∙ ap (λ r. cond r (block_scalar s text at) (plain_scalar s text at)) b) ∙ h in
    let z = fed_text s front at l one mark colon plain in (
      z.0,
      sym (ap (λ y. scalar_at s y at) is)
          ∙ kind_longer s text w at (scalar_at s text at) (Stands (z.0 ++ (97 ∷ [])) (length (front ++ (13 ∷ 10 ∷ further_line s)))) (omega (arith, l, length-append front (13 ∷ [])))
          (λ r g. absurd (let y : true ≡ false = sym r ∙ q in cc))
          (λ r k g. absurd (let y : true ≡ false = sym k ∙ b in cc))
          (λ r k g. ap (λ y. plain_scalar s y at) is ∙ z.1) refl,
    )
