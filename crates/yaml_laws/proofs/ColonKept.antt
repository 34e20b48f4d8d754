-- Where a colon that ends the text shows the end of a plain scalar: in each longer text the scalar is the same, and ends at the colon, or its text has the colon and all before it. By the cases of its last line.
use Rattle.std.proofs.Common.{◌≡◌, ℕ, suc, ◌+◌, ◌<◌, ◌≤◌, ◌⊎◌, inl, inr, Bool, true, false, ◌||◌, ◌&&◌, cond, nat_eq, arith, List, [], ◌∷◌, ◌++◌, take, drop, length, refl, sym, ap, ◌∙◌, subst, append_assoc, length-append, true≢false}
use Rattle.std.proofs.lemmas.Bool.Decides.{nat_tests}
use Rattle.yaml_scalars.specs.declared.scalar.Setting.{Setting}
use Rattle.yaml_scalars.specs.declared.plain_line.Why.{Why}
use Rattle.yaml_scalars.specs.declared.plain_line.Why.TheVariants.{Break, Return, Colon, Comment, Mark}
use Rattle.yaml_scalars.specs.declared.plain_line.Below.TheVariants.{Further}
use Rattle.yaml_scalars.specs.Lines.{Line, Outcome, Stands, Fails, Documents, begins_with, ends_with, each, keep, trimmed, fold, lines, put}
use Rattle.yaml_scalars.specs.Plain.{is_unsafe, begins_plain, wrong_begin, stops, plain_len, content, content_end, why, reason, below, joined, ends_on, stop_behind, joins, further, first, more, plain_on}
use Rattle.yaml_scalars.specs.Scalar.{is_first_column, begins_quoted, begins_block, plain_scalar, quoted_scalar, block_scalar, scalar_at}
use Rattle.yaml_scalars.specs.code.Walk.{line_at, has_break, behind}
use Rattle.yaml_scalars.proofs.Places.{lines_are}
use Rattle.yaml_laws.specs.code.Agreement.{out_shown, plain_shown, scalar_shown}
use Rattle.yaml_laws.specs.code.Dots.{is_dotless, undotted}
use Rattle.yaml_laws.proofs.Agree.{drop_before, drop_size}
use Rattle.yaml_laws.proofs.DotEscapes.{IsFree}
use Rattle.yaml_laws.proofs.DotLines.{lines_undotted}
use Rattle.yaml_laws.proofs.DotPlain.{Keeps, behind_free, free_undotted, keeps, text_free}
use Rattle.yaml_laws.proofs.DotQuoted.{free_front}
use Rattle.yaml_laws.proofs.Dotless.{AreFree, free_append, unquoted}
use Rattle.yaml_laws.proofs.Longer.{glue, lines_glued, lines_more, lines_end, Ends}
use Rattle.yaml_laws.proofs.PlainDead.{drop_whole, len_front}
use Rattle.yaml_laws.proofs.PlainLaw.{marked}
use Rattle.yaml_laws.proofs.PlainReached.{colon, IsAlone, IsUpTo, Reaches, plain_reaches}
use Rattle.yaml_laws.proofs.PlainShown.{below_front, last_apart, shown_colon, take_front}
use Rattle.yaml_laws.proofs.ScalarFollowed.{quoted_longer, block_longer}
use Rattle.yaml_laws.proofs.ScalarLaw.{column_same}

-- ---- a colon behind bytes that are all content

colon_stops : (flow white : Bool) (y : List ℕ) → stops flow white 58 y ≡ is_unsafe flow y
colon_stops flow white y = by_tests flow (is_unsafe flow y) where
  by_tests : (f q : Bool) → (((q || (false && white)) || (f && false)) || false) ≡ q
  by_tests f true = refl
  by_tests true false = refl
  by_tests false false = refl

-- what is not safe behind it makes it an indicator
module _ (flow : Bool) (g y : List ℕ) (short : plain_len flow false (g ++ (58 ∷ [])) ≡ length g) (loose : is_unsafe flow y ≡ true) where
  kept_len : plain_len flow false (g ++ (58 ∷ y)) ≡ length g
  kept_len = let z : length g + 0 ≡ length g = omega arith in len_front flow false g 58 [] y true (λ w. colon_stops flow w y ∙ loose) short ∙ z

  kept_reason : reason flow (g ++ (58 ∷ y)) ≡ Colon
  kept_reason = ap (λ k. why (drop k (g ++ (58 ∷ y)))) kept_len ∙ ap why (drop_whole g (58 ∷ y))

  kept_content : content flow (g ++ (58 ∷ y)) ≡ trimmed g
  kept_content = ap (λ k. trimmed (take k (g ++ (58 ∷ y)))) kept_len ∙ ap trimmed (take_front g (58 ∷ y))

  -- so the line says nothing of what follows it
  kept_joins : (at : ℕ) (t : List ℕ) (e k : ℕ) (next : List ℕ → ℕ → ℕ → Outcome)
      → joins flow (reason flow (g ++ (58 ∷ y))) (g ++ (58 ∷ y)) at t e k next ≡ cond flow (cond (nat_eq (length g) 0) (Stands t e) (Stands (t ++ (fold k ++ trimmed g)) (at + length (trimmed g)))) (Fails (at + length g + 1))
  kept_joins at t e k next =
      let part = g ++ (58 ∷ y) in
      ap (λ w. joins flow w part at t e k next) kept_reason
      ∙ ap (λ n. cond flow (cond (nat_eq n 0) (Stands t e) (Stands (joined flow part t k) (content_end flow part at))) (Fails (at + n + 1))) kept_len
      ∙ ap (λ (c : List ℕ). cond flow (cond (nat_eq (length g) 0) (Stands t e) (Stands (t ++ (fold k ++ c)) (at + length c))) (Fails (at + length g + 1))) kept_content

-- another byte makes it content
module _ (flow : Bool) (g y : List ℕ) (short : plain_len flow false (g ++ (58 ∷ [])) ≡ length g) (safe : is_unsafe flow y ≡ false) where
  passed_len : plain_len flow false (g ++ (58 ∷ y)) ≡ length g + suc (plain_len flow false y)
  passed_len = len_front flow false g 58 [] y false (λ w. colon_stops flow w y ∙ safe) short

  take_past : (g z : List ℕ) (n : ℕ) → take (length g + n) (g ++ z) ≡ g ++ take n z
  take_past [] z n = let i : 0 + n ≡ n = omega arith in ap (λ k. take k z) i
  take_past (x ∷ g) z n = let i : suc (length g) + n ≡ suc (length g + n) = omega arith in ap (λ k. take k (x ∷ (g ++ z))) i ∙ ap (λ t. x ∷ t) (take_past g z n)

  trimmed_past : (g z : List ℕ) → trimmed (g ++ (58 ∷ z)) ≡ g ++ (58 ∷ trimmed z)
  trimmed_past [] z = by_rest (trimmed z) where
    by_rest : (t : List ℕ) → keep 58 t ≡ 58 ∷ t
    by_rest [] = refl
    by_rest (c ∷ t) = refl
  trimmed_past (x ∷ g) z = ap (keep x) (trimmed_past g z) ∙ some g where
    some : (g : List ℕ) → keep x (g ++ (58 ∷ trimmed z)) ≡ x ∷ (g ++ (58 ∷ trimmed z))
    some [] = refl
    some (b ∷ g) = refl

  abbrev rest : List ℕ
  rest = trimmed (take (plain_len flow false y) y)

  passed_content : content flow (g ++ (58 ∷ y)) ≡ g ++ (58 ∷ rest)
  passed_content = ap (λ k. trimmed (take k (g ++ (58 ∷ y)))) passed_len ∙ ap trimmed (take_past g (58 ∷ y) (suc (plain_len flow false y))) ∙ trimmed_past g (take (plain_len flow false y) y)

-- ---- what is said

-- the text has a colon, and no dot only where something holds
abbrev Passes : Type 0 → Outcome → Type 0
Passes P (Stands t e) = (a w : List ℕ) × (t ≡ a ++ (58 ∷ w)) × (IsFree t → P)
Passes P (Fails p) = Unit {0}
Passes P (Documents p) = Unit {0}

-- the same scalar, before a colon that is an indicator; or such a one
abbrev Kept : Bool → List ℕ → List ℕ → ℕ → Type 0 → Outcome → Type 0
Kept flow y u v P o = ((is_unsafe flow y ≡ true) × (o ≡ Stands u v)) ⊎ Passes P o

passes_map : {P Q : Type 0} (o : Outcome) → (P → Q) → Passes P o → Passes Q o
passes_map (Stands t e) map (a, w, is, free) = (a, w, is, λ f. map (free f))
passes_map (Fails p) map h = tt
passes_map (Documents p) map h = tt

kept_map : {P Q : Type 0} (flow : Bool) (y u : List ℕ) (v : ℕ) (o : Outcome) → (P → Q) → Kept flow y u v P o → Kept flow y u v Q o
kept_map flow y u v o map (inl h) = inl h
kept_map flow y u v o map (inr h) = inr (passes_map o map h)

-- text behind it changes nothing
passes_more : {P : Type 0} (t : List ℕ) (e : ℕ) (o : Outcome) → Passes P (Stands t e) → Keeps t o → Passes P o
passes_more t e (Stands x i) (a, w, is, free) (u, more) = (a, w ++ u, more ∙ ap (λ z. z ++ u) is ∙ append_assoc a (58 ∷ w) u, λ f. free (free_front t u (subst IsFree more f)))
passes_more t e (Fails p) h k = tt
passes_more t e (Documents p) h k = tt

-- ---- the last line, where it is a further one

module _ (s : Setting) (at : ℕ) (g y : List ℕ) (t : List ℕ) (e k : ℕ) (u : List ℕ) (v : ℕ) (fs : List Line) (short : plain_len s.flow false (g ++ (58 ∷ [])) ≡ length g) where
  abbrev part : List ℕ
  part = g ++ (58 ∷ y)

  abbrev Both : Type 0
  Both = IsFree t × IsFree g

  joins_kept : joins s.flow (reason s.flow (g ++ (58 ∷ []))) (g ++ (58 ∷ [])) at t e k (more s []) ≡ Stands u v → Kept s.flow y u v Both (joins s.flow (reason s.flow part) part at t e k (more s fs))
  joins_kept h = by_safe (is_unsafe s.flow y) refl where
    by_safe : (q : Bool) → is_unsafe s.flow y ≡ q → Kept s.flow y u v Both (joins s.flow (reason s.flow part) part at t e k (more s fs))
    by_safe true i = inl (i, kept_joins s.flow g y short i at t e k (more s fs) ∙ sym (kept_joins s.flow g [] short refl at t e k (more s [])) ∙ h)
    by_safe false i = inr (by_why (reason s.flow part)) where
      r : List ℕ
      r = rest s.flow g y short i

      is : content s.flow part ≡ g ++ (58 ∷ r)
      is = passed_content s.flow g y short i

      text_is : joined s.flow part t k ≡ (t ++ (fold k ++ g)) ++ (58 ∷ r)
      text_is = ap (λ c. t ++ (fold k ++ c)) is ∙ ap (λ c. t ++ c) (sym (append_assoc (fold k) g (58 ∷ r))) ∙ sym (append_assoc t (fold k ++ g) (58 ∷ r))

      said : Passes Both (Stands (joined s.flow part t k) (content_end s.flow part (at)))
      said = (t ++ (fold k ++ g), r, text_is, λ f. let z = text_free s.flow part t k f in (z.0, free_front g (58 ∷ r) (subst IsFree is z.1)))

      ends : (q : Bool) → nat_eq (plain_len s.flow false part) 0 ≡ q → Passes Both (cond q (Stands t e) (Stands (joined s.flow part t k) (content_end s.flow part at)))
      ends true j = absurd (let n : plain_len s.flow false part ≡ 0 = grind (arith, nat_tests, j) in let l = passed_len s.flow g y short i in omega (arith, n, l))
      ends false j = said

      by_flow : (q : Bool) → Passes Both (cond q (ends_on s.flow part at t e k) (Fails (stop_behind s.flow part at)))
      by_flow true = ends (nat_eq (plain_len s.flow false part) 0) refl
      by_flow false = tt

      by_why : (w : Why) → Passes Both (joins s.flow w part at t e k (more s fs))
      by_why Break = passes_more (joined s.flow part t k) (content_end s.flow part at) (more s fs (joined s.flow part t k) (content_end s.flow part at) 0) said (keeps s fs (joined s.flow part t k) (content_end s.flow part at) 0)
      by_why Return = tt
      by_why Colon = by_flow s.flow
      by_why Comment = said
      by_why Mark = ends (nat_eq (plain_len s.flow false part) 0) refl

last_kept : (s : Setting) (at n : ℕ) (f y t : List ℕ) (e k : ℕ) (u : List ℕ) (v : ℕ) (fs : List Line) → IsUpTo s f n → further s (below s (f ++ (58 ∷ []))) at (f ++ (58 ∷ [])) t e k (more s []) ≡ Stands u v
    → Kept s.flow y u v (IsFree t × (undotted false false (f ++ (58 ∷ [])) ≡ true)) (further s (below s (f ++ (58 ∷ y))) at (f ++ (58 ∷ y)) t e k (more s fs))
last_kept s at n f y t e k u v fs (b, low, short) h =
    let is : below s (f ++ (58 ∷ y)) ≡ Further n = below_front s f 58 y [] (shown_colon 58 refl) ∙ b in
    let old : drop n (f ++ (58 ∷ [])) ≡ drop n f ++ (58 ∷ []) = drop_before n f (58 ∷ []) low in
    let new : drop n (f ++ (58 ∷ y)) ≡ drop n f ++ (58 ∷ y) = drop_before n f (58 ∷ y) low in
    let there : joins s.flow (reason s.flow (drop n f ++ (58 ∷ []))) (drop n f ++ (58 ∷ [])) (at + n) t e k (more s []) ≡ Stands u v =
    sym (ap (λ w. further s w at (f ++ (58 ∷ [])) t e k (more s [])) b ∙ ap (λ x. joins s.flow (reason s.flow x) x (at + n) t e k (more s [])) old) ∙ h in
    subst (λ w. Kept s.flow y u v (IsFree t × (undotted false false (f ++ (58 ∷ [])) ≡ true)) (further s w at (f ++ (58 ∷ y)) t e k (more s fs))) (sym is)
    (subst (λ x. Kept s.flow y u v (IsFree t × (undotted false false (f ++ (58 ∷ [])) ≡ true)) (joins s.flow (reason s.flow x) x (at + n) t e k (more s fs))) (sym new)
    (kept_map s.flow y u v (joins s.flow (reason s.flow (drop n f ++ (58 ∷ y))) (drop n f ++ (58 ∷ y)) (at + n) t e k (more s fs))
    (λ p. (p.0, free_undotted (f ++ (58 ∷ [])) (behind_free s (f ++ (58 ∷ [])) n b (subst IsFree (sym old) (free_append (drop n f) (58 ∷ []) p.1 refl))))) (joins_kept s (at + n) (drop n f) y t e k u v fs short there)))

-- ---- the last line, where it is the first

alone_kept : (s : Setting) (fresh : Bool) (at : ℕ) (f y : List ℕ) (broken : Bool) (fs : List Line) (u : List ℕ) (v : ℕ) → plain_len s.flow false (f ++ (58 ∷ [])) ≡ length f → first s (reason s.flow (f ++ (58 ∷ []))) at (f ++ (58 ∷ [])) [] ≡ Stands u v
    → Kept s.flow y u v (IsFree f) (plain_on s fresh (record { at = at; bytes = f ++ (58 ∷ y); broken = broken } ∷ fs))
alone_kept s fresh at f y broken fs u v short h = by_tests (fresh && marked (f ++ (58 ∷ y))) (begins_plain s.flow (f ++ (58 ∷ y))) where
  part : List ℕ
  part = f ++ (58 ∷ y)

  by_safe : (q : Bool) → is_unsafe s.flow y ≡ q → Kept s.flow y u v (IsFree f) (first s (reason s.flow (f ++ (58 ∷ y))) at (f ++ (58 ∷ y)) fs)
  by_safe true i =
      inl (
        i,
        ap (λ w. first s w at (f ++ (58 ∷ y)) fs) (kept_reason s.flow f y short i) ∙ ap (λ (c : List ℕ). Stands c (at + length c)) (kept_content s.flow f y short i)
            ∙ sym (ap (λ w. first s w at (f ++ (58 ∷ [])) []) (kept_reason s.flow f [] short refl) ∙ ap (λ (c : List ℕ). Stands c (at + length c)) (kept_content s.flow f [] short refl)) ∙ h,
      )
  by_safe false i = inr (by_why (reason s.flow (f ++ (58 ∷ y)))) where
    is : content s.flow (f ++ (58 ∷ y)) ≡ f ++ (58 ∷ rest s.flow f y short i)
    is = passed_content s.flow f y short i

    said : Passes (IsFree f) (Stands (content s.flow (f ++ (58 ∷ y))) (content_end s.flow (f ++ (58 ∷ y)) at))
    said = (f, rest s.flow f y short i, is, λ z. free_front f (58 ∷ rest s.flow f y short i) (subst IsFree is z))

    by_line : (q : Bool) → Passes (IsFree f) (cond q (Stands (content s.flow (f ++ (58 ∷ y))) (content_end s.flow (f ++ (58 ∷ y)) at)) (more s fs (content s.flow (f ++ (58 ∷ y))) (content_end s.flow (f ++ (58 ∷ y)) at) 0))
    by_line true = said
    by_line false = passes_more (content s.flow (f ++ (58 ∷ y))) (content_end s.flow (f ++ (58 ∷ y)) at) (more s fs (content s.flow (f ++ (58 ∷ y))) (content_end s.flow (f ++ (58 ∷ y)) at) 0) said (keeps s fs (content s.flow (f ++ (58 ∷ y))) (content_end s.flow (f ++ (58 ∷ y)) at) 0)

    by_why : (w : Why) → Passes (IsFree f) (first s w at (f ++ (58 ∷ y)) fs)
    by_why Break = by_line s.one_line
    by_why Return = tt
    by_why Colon = said
    by_why Comment = said
    by_why Mark = said

  by_tests : (m b : Bool) → Kept s.flow y u v (IsFree f) (cond m (Fails (at + 3)) (cond b (first s (reason s.flow (f ++ (58 ∷ y))) at (f ++ (58 ∷ y)) fs) (Fails (wrong_begin at (f ++ (58 ∷ y))))))
  by_tests true b = inr tt
  by_tests false true = by_safe (is_unsafe s.flow y) refl
  by_tests false false = inr tt

-- ---- the scalar

abbrev point : ℕ → List ℕ → Bool → Line
point place y broken = record { at = place; bytes = 58 ∷ y; broken = broken }

plain_kept : (s : Setting) (fresh : Bool) (place : ℕ) (r : Bool) (ks : List Line) (y : List ℕ) (broken : Bool) (fs : List Line) (t : List ℕ) (e : ℕ) → Ends place r ks → plain_on s fresh (glue ks (colon place ∷ [])) ≡ Stands t e → plain_shown s (suc place) (glue ks (colon place ∷ [])) ≡ suc place
    → Kept s.flow y t e (AreFree false (glue ks (colon place ∷ []))) (plain_on s fresh (glue ks (point place y broken ∷ fs)))
plain_kept s fresh place r ks y broken fs t e x h g = by_line (plain_reaches s fresh place r ks t e x h g) where
  Whole : List Line → Type 0
  Whole ls = Kept s.flow y t e (AreFree false (glue ls (colon place ∷ []))) (plain_on s fresh (glue ls (point place y broken ∷ fs)))

  by_line : IsAlone s fresh place ks t e ⊎ Reaches s place (λ f fs. plain_on s fresh (glue ks (f ∷ fs))) (AreFree false (glue ks (colon place ∷ []))) → Whole ks
  by_line (inl (l, is, size, m, b, len, st)) =
      subst Whole (sym is)
      (kept_map s.flow y t e (plain_on s fresh (glue (l ∷ []) (point place y broken ∷ fs))) (λ p. (free_undotted (l.bytes ++ (58 ∷ [])) (free_append l.bytes (58 ∷ []) p refl), tt)) (alone_kept s fresh l.at l.bytes y broken fs t e len st))
  by_line (inr (l, v, f, k, n, size, up, is, free)) =
      subst (Kept s.flow y t e (AreFree false (glue ks (colon place ∷ [])))) (sym (is (point place y broken) fs))
      (kept_map s.flow y t e (further s (below s (l.bytes ++ (58 ∷ y))) l.at (l.bytes ++ (58 ∷ y)) v f k (more s fs)) (λ p. free p.0 p.1) (last_kept s l.at n l.bytes y v f k t e fs up (sym (is (colon place) []) ∙ h)))

-- of a text, by the bytes in front of the colon
front_kept : (s : Setting) (front more : List ℕ) (at : ℕ) (t : List ℕ) (e : ℕ) → at ≤ length front → plain_shown s (suc (length front)) (lines at (drop at (front ++ (58 ∷ [])))) ≡ suc (length front) → plain_scalar s (front ++ (58 ∷ [])) at ≡ Stands t e
    → Kept s.flow (line_at more) t e (undotted false false (drop at (front ++ (58 ∷ []))) ≡ true) (plain_scalar s (front ++ (58 ∷ more)) at)
front_kept s front more at t e l shown h =
    let text = front ++ (58 ∷ []) in
    let fresh = is_first_column text at in
    let size = drop_size at front l in
    let old : lines at (drop at (front ++ (58 ∷ []))) ≡ glue (lines at (drop at front)) (colon (length front) ∷ []) =
    ap (lines at) (drop_before at front (58 ∷ []) l) ∙ lines_more at (drop at front) (58 ∷ []) refl ∙ ap (λ n. glue (lines at (drop at front)) (colon n ∷ [])) size in
    let last : lines (length front) (58 ∷ more) ≡ point (length front) (line_at more) (has_break more) ∷ behind (suc (length front)) more = ap (put (length front) 58) (lines_are (suc (length front)) more) in
    let new : lines at (drop at (front ++ (58 ∷ more))) ≡ glue (lines at (drop at front)) (point (length front) (line_at more) (has_break more) ∷ behind (suc (length front)) more) =
    ap (lines at) (drop_before at front (58 ∷ more) l) ∙ lines_glued at (drop at front) (58 ∷ more) refl ∙ ap (λ n. glue (lines at (drop at front)) (lines n (58 ∷ more))) size ∙ ap (glue (lines at (drop at front))) last in
    let same : is_first_column (front ++ (58 ∷ more)) at ≡ is_first_column (front ++ (58 ∷ [])) at = sym (column_same front 58 [] more at l) in
    let ends = subst (λ n. Ends n (ends_with 13 (drop at front)) (lines at (drop at front))) size (lines_end at (drop at front)) in
    let z =
    plain_kept s (is_first_column text at) (length front) (ends_with 13 (drop at front)) (lines at (drop at front)) (line_at more) (has_break more) (behind (suc (length front)) more) t e ends (sym (ap (plain_on s fresh) old) ∙ h)
    (sym (ap (plain_shown s (suc (length front))) old) ∙ shown) in
    subst (Kept s.flow (line_at more) t e (undotted false false (drop at (front ++ (58 ∷ []))) ≡ true)) (sym (ap (λ p. plain_on s p (lines at (drop at (front ++ (58 ∷ more))))) same ∙ ap (plain_on s fresh) new))
    (kept_map s.flow (line_at more) t e (plain_on s (is_first_column text at) (glue (lines at (drop at front)) (point (length front) (line_at more) (has_break more) ∷ behind (suc (length front)) more)))
    (λ p. lines_undotted false at (drop at (front ++ (58 ∷ []))) (subst (AreFree false) (sym old) p)) z)

-- the same scalar before a colon that is an indicator; or a text with the colon, and with a dot if one stands so far
abbrev pub IsKept : Bool → List ℕ → List ℕ → List ℕ → ℕ → List ℕ → ℕ → Type 0
IsKept flow bytes more t e u f =
    ((is_unsafe flow (line_at more) ≡ true) × (u ≡ t) × (f ≡ e)) ⊎ ((a w : List ℕ) × (u ≡ a ++ (58 ∷ w)) × (undotted (begins_with 34 bytes) false bytes ≡ false → each is_dotless u ≡ false))

module _ (s : Setting) (text : List ℕ) (at : ℕ) (t : List ℕ) (e : ℕ) (more u : List ℕ) (f : ℕ) (low : at < length text) (q : begins_quoted (drop at text) ≡ false) (b : begins_block s (drop at text) ≡ false) where
  -- a text with a dot so far has one
  dotted : (IsFree u → undotted false false (drop at text) ≡ true) → undotted (begins_with 34 (drop at text)) false (drop at text) ≡ false → each is_dotless u ≡ false
  dotted free dot = by_test (each is_dotless u) refl where
    by_test : (p : Bool) → each is_dotless u ≡ p → p ≡ false
    by_test true i = absurd (true≢false (sym (free i) ∙ sym (ap (λ r. undotted r false (drop at text)) (unquoted (drop at text) q)) ∙ dot))
    by_test false i = refl

  by_kept : (o : Outcome) → o ≡ Stands u f → Kept s.flow (line_at more) t e (undotted false false (drop at text) ≡ true) o → IsKept s.flow (drop at text) more t e u f
  by_kept o h (inl (i, same)) = let z : Stands u f ≡ Stands t e = sym h ∙ same in inl (i, cc, cc)
  by_kept o h (inr p) = said (subst (Passes (undotted false false (drop at text) ≡ true)) h p) where
    said : Passes (undotted false false (drop at text) ≡ true) (Stands u f) → IsKept s.flow (drop at text) more t e u f
    said (a, w, is, free) = inr (a, w, is, dotted free)

  plain_is : (y : List ℕ) → begins_quoted (drop at y) ≡ false → begins_block s (drop at y) ≡ false → scalar_at s y at ≡ plain_scalar s y at
  plain_is y i j = ap (λ r. cond r (quoted_scalar s y at) (cond (begins_block s (drop at y)) (block_scalar s y at) (plain_scalar s y at))) i ∙ ap (λ r. cond r (block_scalar s y at) (plain_scalar s y at)) j

  pub colon_kept : ends_with 58 text ≡ true → scalar_shown s text at e ≡ length text → scalar_at s text at ≡ Stands t e → scalar_at s (text ++ more) at ≡ Stands u f → IsKept s.flow (drop at text) more t e u f
  colon_kept last shown h g =
      let c = last_apart 58 text last in
      let size : length text ≡ suc (length c.0) = ap (λ (y : List ℕ). length y) c.1 ∙ length-append c.0 (58 ∷ []) ∙ (let z : length c.0 + 1 ≡ suc (length c.0) = omega arith in z) in
      let plain : plain_shown s (length text) (lines at (drop at text)) ≡ length text =
      sym (ap (λ r. cond r e (cond (begins_block s (drop at text)) (e + out_shown (line_at (drop e text))) (plain_shown s (length text) (lines at (drop at text))))) q ∙ ap (λ r. cond r (e + out_shown (line_at (drop e text))) (plain_shown s (length text) (lines at (drop at text)))) b) ∙ shown in
      let new : text ++ more ≡ c.0 ++ (58 ∷ more) = ap (λ y. y ++ more) c.1 ∙ append_assoc c.0 (58 ∷ []) more in
      let k =
      front_kept s c.0 more at t e (omega (arith, low, size)) (ap (λ y. plain_shown s (suc (length c.0)) (lines at (drop at y))) (sym c.1) ∙ ap (λ n. plain_shown s n (lines at (drop at text))) (sym size) ∙ plain ∙ size)
      (ap (λ y. plain_scalar s y at) (sym c.1) ∙ sym (plain_is text q b) ∙ h) in
      by_kept (plain_scalar s (text ++ more) at) (sym (plain_is (text ++ more) (quoted_longer text more at low ∙ q) (block_longer s text more at low ∙ b)) ∙ g)
      (subst (λ y. Kept s.flow (line_at more) t e (undotted false false (drop at text) ≡ true) (plain_scalar s y at)) (sym new)
      (subst (λ y. Kept s.flow (line_at more) t e (undotted false false (drop at y) ≡ true) (plain_scalar s (c.0 ++ (58 ∷ more)) at)) (sym c.1) k))
