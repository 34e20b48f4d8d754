-- Where a plain scalar ends on the line that it begins on, each text that agrees with this one through the byte that shows it has the same scalar there.
use Rattle.std.proofs.Common.{◌≡◌, ℕ, zero, suc, ◌+◌, ◌<◌, ◌≤◌, ◌⊎◌, Bool, true, false, List, [], ◌∷◌, ◌++◌, length, take, drop, refl, sym, ap, inl, inr, subst, ◌∙◌, arith, cond, true≢false, append_assoc, length-append}
use Rattle.std.specs.Prelude.{nat_eq, ◌||◌, ◌&&◌}
use Rattle.std.proofs.lemmas.Bool.Decides.{nat_tests}
use Rattle.std.proofs.lemmas.List.{take-append-le}
use Rattle.yaml_scalars.specs.declared.scalar.Setting.{Setting}
use Rattle.yaml_scalars.specs.declared.plain_line.Why.{Why}
use Rattle.yaml_scalars.specs.declared.plain_line.Why.TheVariants.{Break, Return, Colon, Comment, Mark}
use Rattle.yaml_scalars.specs.Lines.{Line, Stands, Fails, begins_with, begins_break, is_white, trimmed, each, lines}
use Rattle.yaml_scalars.specs.Plain.{is_flow_mark, is_unsafe, begins_plain, wrong_begin, stops, plain_len, content, content_end, why, reason, more, first, plain_on}
use Rattle.yaml_laws.specs.code.Agreement.{shown_by, stop_shown}
use Rattle.yaml_scalars.specs.code.Walk.{line_at, has_break, behind}
use Rattle.yaml_scalars.specs.Scalar.{is_first_column, plain_scalar}
use Rattle.yaml_scalars.proofs.Places.{lines_are}
use Rattle.yaml_laws.proofs.Agree.{drop_before, drop_size}
use Rattle.yaml_scalars.proofs.PlainFirst.{content_some}
use Rattle.yaml_laws.proofs.PlainLaw.{marked, dash}
use Rattle.yaml_laws.proofs.QuotedStays.{mark_front}
use Rattle.yaml_laws.proofs.ScalarLaw.{column_same}

-- ---- the lines of two texts that have bytes in common and then the same byte, at which a break begins in both or in neither

abbrev pub Parted : List ℕ → ℕ → List ℕ → List ℕ → Type 0
Parted g b l m = ((l ≡ m) × (length l ≤ length g)) ⊎ ((u v : List ℕ) × (l ≡ g ++ (b ∷ u)) × (m ≡ g ++ (b ∷ v)))

feed_same : (g : List ℕ) (b : ℕ) (u v : List ℕ) → begins_with 10 (g ++ (b ∷ u)) ≡ begins_with 10 (g ++ (b ∷ v))
feed_same [] b u v = refl
feed_same (d ∷ g) b u v = refl

pub parted : (g : List ℕ) (b : ℕ) (u v : List ℕ) → begins_break b u ≡ begins_break b v → Parted g b (line_at (g ++ (b ∷ u))) (line_at (g ++ (b ∷ v)))
parted [] b u v n = by_break (begins_break b u) (begins_break b v) n where
  by_break : (p q : Bool) → p ≡ q → Parted [] b (cond p [] (b ∷ line_at u)) (cond q [] (b ∷ line_at v))
  by_break true true e = inl (refl, omega arith)
  by_break true false e = absurd (true≢false e)
  by_break false true e = absurd (true≢false (sym e))
  by_break false false e = inr (line_at u, line_at v, refl, refl)
parted (c ∷ g) b u v n = by_break (begins_break c (g ++ (b ∷ u))) (begins_break c (g ++ (b ∷ v))) (ap (λ q. nat_eq c 10 || (nat_eq c 13 && q)) (feed_same g b u v)) (parted g b u v n) where
  by_break : (p q : Bool) → p ≡ q → Parted g b (line_at (g ++ (b ∷ u))) (line_at (g ++ (b ∷ v))) → Parted (c ∷ g) b (cond p [] (c ∷ line_at (g ++ (b ∷ u)))) (cond q [] (c ∷ line_at (g ++ (b ∷ v))))
  by_break true true e r = inl (refl, omega arith)
  by_break true false e r = absurd (true≢false e)
  by_break false true e r = absurd (true≢false (sym e))
  by_break false false e (inl r) = inl (ap (λ t. c ∷ t) r.0, let l = r.1 in omega (arith, l))
  by_break false false e (inr r) = inr (r.0, r.1, ap (λ t. c ∷ t) r.2, ap (λ t. c ∷ t) r.3)

-- ---- a part that ends within the bytes in common

why_colon_of : (c : ℕ) (x : List ℕ) → nat_eq c 58 ≡ true → why (c ∷ x) ≡ Colon
why_colon_of c x h = let e : c ≡ 58 = grind (arith, nat_tests, h) in ap (λ c. why (c ∷ x)) e

same_len : (flow white : Bool) (f u v : List ℕ) → plain_len flow white (f ++ u) < length f → (why (drop (plain_len flow white (f ++ u)) (f ++ u)) ≡ Colon → suc (plain_len flow white (f ++ u)) < length f) → plain_len flow white (f ++ v) ≡ plain_len flow white (f ++ u)
same_len flow white [] u v l c = absurd (omega (arith, l))
same_len flow white (d ∷ []) u v l c = by_stop (nat_eq d 58) refl (is_unsafe flow u) (is_unsafe flow v) (nat_eq d 35 && white) (flow && is_flow_mark d) (nat_eq d 13) l c where
  by_stop : (q : Bool) → nat_eq d 58 ≡ q → (i j r s t : Bool) → cond ((((q && i) || r) || s) || t) 0 (suc (plain_len flow (is_white d) u)) < 1
      → (why (drop (cond ((((q && i) || r) || s) || t) 0 (suc (plain_len flow (is_white d) u))) (d ∷ u)) ≡ Colon → suc (cond ((((q && i) || r) || s) || t) 0 (suc (plain_len flow (is_white d) u))) < 1)
      → cond ((((q && j) || r) || s) || t) 0 (suc (plain_len flow (is_white d) v)) ≡ cond ((((q && i) || r) || s) || t) 0 (suc (plain_len flow (is_white d) u))
  by_stop false e i j true s t l c = refl
  by_stop false e i j false true t l c = refl
  by_stop false e i j false false true l c = refl
  by_stop false e i j false false false l c = absurd (omega (arith, l))
  by_stop true e true j r s t l c = absurd (let z = c (why_colon_of d u e) in omega (arith, z))
  by_stop true e false true true s t l c = refl
  by_stop true e false false true s t l c = refl
  by_stop true e false j false true t l c = absurd (let z = c (why_colon_of d u e) in omega (arith, z))
  by_stop true e false j false false true l c = absurd (let z = c (why_colon_of d u e) in omega (arith, z))
  by_stop true e false j false false false l c = absurd (omega (arith, l))
same_len flow white (d ∷ g ∷ f) u v l c = by_stop (stops flow white d (g ∷ (f ++ u))) l c (λ i j. same_len flow (is_white d) (g ∷ f) u v i j) where
  by_stop : (q : Bool) → cond q 0 (suc (plain_len flow (is_white d) (g ∷ (f ++ u)))) < suc (suc (length f))
      → (why (drop (cond q 0 (suc (plain_len flow (is_white d) (g ∷ (f ++ u))))) (d ∷ g ∷ (f ++ u))) ≡ Colon → suc (cond q 0 (suc (plain_len flow (is_white d) (g ∷ (f ++ u))))) < suc (suc (length f)))
      → (plain_len flow (is_white d) (g ∷ (f ++ u)) < suc (length f) → (why (drop (plain_len flow (is_white d) (g ∷ (f ++ u))) (g ∷ (f ++ u))) ≡ Colon → suc (plain_len flow (is_white d) (g ∷ (f ++ u))) < suc (length f)) → plain_len flow (is_white d) (g ∷ (f ++ v)) ≡ plain_len flow (is_white d) (g ∷ (f ++ u)))
      → cond q 0 (suc (plain_len flow (is_white d) (g ∷ (f ++ v)))) ≡ cond q 0 (suc (plain_len flow (is_white d) (g ∷ (f ++ u))))
  by_stop true l c r = refl
  by_stop false l c r = ap suc (r (omega (arith, l)) (λ e. let z = c e in omega (arith, z)))

why_front : (n : ℕ) (f u v : List ℕ) → n < length f → why (drop n (f ++ v)) ≡ why (drop n (f ++ u))
why_front n [] u v l = absurd (omega (arith, l))
why_front zero (d ∷ f) u v l = refl
why_front (suc n) (d ∷ f) u v l = why_front n f u v (omega (arith, l))

pub record PartSame (flow : Bool) (l m : List ℕ) : Type 0 where
  pub len : plain_len flow false m ≡ plain_len flow false l
  pub why : reason flow m ≡ reason flow l
  pub content : content flow m ≡ content flow l

pub part_same : (flow : Bool) (f u v : List ℕ) → plain_len flow false (f ++ u) < length f → (reason flow (f ++ u) ≡ Colon → suc (plain_len flow false (f ++ u)) < length f) → PartSame flow (f ++ u) (f ++ v)
part_same flow f u v l c =
    let n = plain_len flow false (f ++ u) in
    let e : plain_len flow false (f ++ v) ≡ n = same_len flow false f u v l c in
    let low : n ≤ length f = omega (arith, l) in
    record {
      len = e;
      why = ap (λ k. why (drop k (f ++ v))) e ∙ why_front n f u v l;
      content = ap (λ k. trimmed (take k (f ++ v))) e ∙ ap trimmed (take-append-le n f v low ∙ sym (take-append-le n f u low));
    }

-- ---- the first line

-- dashes and points end no plain scalar
dash_stays : (flow white : Bool) (c : ℕ) (xs : List ℕ) → dash c ≡ true → stops flow white c xs ≡ false
dash_stays flow white c xs h =
    by_tests flow (nat_eq c 58) (nat_eq c 35) (is_flow_mark c) (nat_eq c 13) (is_unsafe flow xs) white (grind (arith, nat_tests, h)) (grind (arith, nat_tests, h)) (grind (arith, nat_tests, h)) (grind (arith, nat_tests, h)) where
      by_tests : (w p q r s i j : Bool) → p ≡ false → q ≡ false → r ≡ false → s ≡ false → ((((p && i) || (q && j)) || (w && r)) || s) ≡ false
      by_tests true false false false false i j a b c d = refl
      by_tests false false false false false i j a b c d = refl
      by_tests w true q r s i j a b c d = absurd (true≢false a)
      by_tests w false true r s i j a b c d = absurd (true≢false b)
      by_tests w false false true s i j a b c d = absurd (true≢false c)
      by_tests w false false false true i j a b c d = absurd (true≢false d)

pub dashes_long : (flow white : Bool) (f u : List ℕ) → each dash f ≡ true → length f ≤ plain_len flow white (f ++ u)
dashes_long flow white [] u h = omega arith
dashes_long flow white (c ∷ f) u h = by_dash (dash c) refl h (λ g. dashes_long flow (is_white c) f u g) where
  by_stop : (q : Bool) → q ≡ false → length f ≤ plain_len flow (is_white c) (f ++ u) → suc (length f) ≤ cond q 0 (suc (plain_len flow (is_white c) (f ++ u)))
  by_stop true e r = absurd (true≢false e)
  by_stop false e r = omega (arith, r)

  by_dash : (q : Bool) → dash c ≡ q → cond q (each dash f) false ≡ true → (each dash f ≡ true → length f ≤ plain_len flow (is_white c) (f ++ u)) → suc (length f) ≤ cond (stops flow white c (f ++ u)) 0 (suc (plain_len flow (is_white c) (f ++ u)))
  by_dash true w i r = by_stop (stops flow white c (f ++ u)) (dash_stays flow white c (f ++ u) w) (r i)
  by_dash false w i r = absurd (true≢false (sym i))

marks_same : (flow : Bool) (f u v : List ℕ) → plain_len flow false (f ++ u) < length f → marked (f ++ u) ≡ false → marked (f ++ v) ≡ false
marks_same flow f u v l h = by_mark (marked (f ++ v)) refl where
  by_mark : (q : Bool) → marked (f ++ v) ≡ q → marked (f ++ v) ≡ false
  by_mark false e = e
  by_mark true e = elim (mark_front f u v e) [
    | inl d ↦ (let k = dashes_long flow false f u d in absurd (omega (arith, k, l)))
    | inr d ↦ absurd (true≢false (sym d.0 ∙ h))
  ]

begins_long : (flow : Bool) (xs : List ℕ) → begins_plain flow xs ≡ true → 0 < plain_len flow false xs
begins_long flow xs h = by_len (plain_len flow false xs) refl where
  by_len : (n : ℕ) → plain_len flow false xs ≡ n → 0 < plain_len flow false xs
  by_len zero e =
      let some = content_some flow xs h in
      let none : length (content flow xs) ≡ 0 = ap (λ n. length (trimmed (take n xs))) e in
      absurd (omega (arith, some, none))
  by_len (suc n) e = omega (arith, e)

begins_same : (flow : Bool) (f u v : List ℕ) → plain_len flow false (f ++ u) < length f → begins_plain flow (f ++ u) ≡ true → begins_plain flow (f ++ v) ≡ true
begins_same flow [] u v l h = absurd (omega (arith, l))
begins_same flow (d ∷ []) u v l h = let k = begins_long flow (d ∷ u) h in absurd (omega (arith, k, l))
begins_same flow (d ∷ g ∷ f) u v l h = h

first_same : (s : Setting) (w : Why) (at : ℕ) (l m : List ℕ) (ls ms : List Line) (t : List ℕ) (e : ℕ) → content s.flow m ≡ content s.flow l → (w ≡ Break → s.one_line ≡ true) → first s w at l ls ≡ Stands t e → first s w at m ms ≡ Stands t e
first_same s Break at l m ls ms t e c one h = by_line s.one_line (one refl) h where
  by_line : (q : Bool) → q ≡ true → cond q (Stands (content s.flow l) (content_end s.flow l at)) (more s ls (content s.flow l) (content_end s.flow l at) 0) ≡ Stands t e
      → cond q (Stands (content s.flow m) (content_end s.flow m at)) (more s ms (content s.flow m) (content_end s.flow m at) 0) ≡ Stands t e
  by_line true o h = ap (λ (z : List ℕ). Stands z (at + length z)) c ∙ h
  by_line false o h = absurd (true≢false (sym o))
first_same s Return at l m ls ms t e c one h = absurd (cc)
first_same s Colon at l m ls ms t e c one h = ap (λ (z : List ℕ). Stands z (at + length z)) c ∙ h
first_same s Comment at l m ls ms t e c one h = ap (λ (z : List ℕ). Stands z (at + length z)) c ∙ h
first_same s Mark at l m ls ms t e c one h = ap (λ (z : List ℕ). Stands z (at + length z)) c ∙ h

-- what a scalar's first line tells
pub opens_stands : (s : Setting) (fresh : Bool) (l : Line) (ls : List Line) (t : List ℕ) (e : ℕ) → plain_on s fresh (l ∷ ls) ≡ Stands t e → ((fresh && marked l.bytes) ≡ false) × (begins_plain s.flow l.bytes ≡ true) × (first s (reason s.flow l.bytes) l.at l.bytes ls ≡ Stands t e)
opens_stands s fresh l ls t e h = by_tests (fresh && marked l.bytes) (begins_plain s.flow l.bytes) h where
  by_tests : (q r : Bool) → cond q (Fails (l.at + 3)) (cond r (first s (reason s.flow l.bytes) l.at l.bytes ls) (Fails (wrong_begin l.at l.bytes))) ≡ Stands t e → (q ≡ false) × (r ≡ true) × (first s (reason s.flow l.bytes) l.at l.bytes ls ≡ Stands t e)
  by_tests true r h = absurd (cc)
  by_tests false true h = (refl, refl, h)
  by_tests false false h = absurd (cc)

pub made : (s : Setting) (fresh : Bool) (m : Line) (ms : List Line) (t : List ℕ) (e : ℕ) → (fresh && marked m.bytes) ≡ false → begins_plain s.flow m.bytes ≡ true → first s (reason s.flow m.bytes) m.at m.bytes ms ≡ Stands t e → plain_on s fresh (m ∷ ms) ≡ Stands t e
made s fresh m ms t e a b h = by_tests (fresh && marked m.bytes) (begins_plain s.flow m.bytes) a b where
  by_tests : (q r : Bool) → q ≡ false → r ≡ true → cond q (Fails (m.at + 3)) (cond r (first s (reason s.flow m.bytes) m.at m.bytes ms) (Fails (wrong_begin m.at m.bytes))) ≡ Stands t e
  by_tests true r i j = absurd (true≢false i)
  by_tests false true i j = h
  by_tests false false i j = absurd (true≢false (sym j))

pub shown_colon : (w : Why) (n p : ℕ) → shown_by w n ≤ p → (n ≤ p) × (w ≡ Colon → suc n ≤ p)
shown_colon Break n p l = (l, (λ e. absurd (cc)))
shown_colon Return n p l = (l, (λ e. absurd (cc)))
shown_colon Colon n p l = (omega (arith, l), (λ e. l))
shown_colon Comment n p l = (l, (λ e. absurd (cc)))
shown_colon Mark n p l = (l, (λ e. absurd (cc)))

pub line_stays : (s : Setting) (fresh : Bool) (at : ℕ) (g : List ℕ) (b : ℕ) (l m : List ℕ) (q r : Bool) (ls ms : List Line) (t : List ℕ) (e : ℕ) → Parted g b l m → (reason s.flow l ≡ Break → s.one_line ≡ true) → stop_shown s.flow at l ≤ at + length g
    → plain_on s fresh (record { at = at; bytes = l; broken = q } ∷ ls) ≡ Stands t e → plain_on s fresh (record { at = at; bytes = m; broken = r } ∷ ms) ≡ Stands t e
line_stays s fresh at g b l m q r ls ms t e (inl p) one near h =
    let o = opens_stands s fresh (record { at = at; bytes = l; broken = q }) ls t e h in
    subst (λ z. plain_on s fresh (record { at = at; bytes = z; broken = r } ∷ ms) ≡ Stands t e) p.0
    (made s fresh (record { at = at; bytes = l; broken = r }) ms t e o.0 o.1 (first_same s (reason s.flow l) at l l ls ms t e refl one o.2))
line_stays s fresh at g b l m q r ls ms t e (inr (u, v, el, em)) one near h =
    let o = opens_stands s fresh (record { at = at; bytes = l; broken = q }) ls t e h in
    let f = g ++ (b ∷ []) in
    let size : length f ≡ length g + 1 = length-append g (b ∷ []) in
    let in_l : l ≡ f ++ u = el ∙ sym (append_assoc g (b ∷ []) u) in
    let in_m : m ≡ f ++ v = em ∙ sym (append_assoc g (b ∷ []) v) in
    let n = shown_colon (reason s.flow l) (at + plain_len s.flow false l) (at + length g) near in
    let here : plain_len s.flow false (f ++ u) ≡ plain_len s.flow false l = ap (plain_len s.flow false) (sym in_l) in
    let low : plain_len s.flow false (f ++ u) < length f = let z = n.0 in omega (arith, z, here, size) in
    let colon : reason s.flow (f ++ u) ≡ Colon → suc (plain_len s.flow false (f ++ u)) < length f = λ w. let z = n.1 (ap (reason s.flow) in_l ∙ w) in omega (arith, z, here, size) in
    let same = part_same s.flow f u v low colon in
    let why_m : reason s.flow m ≡ reason s.flow l = ap (reason s.flow) in_m ∙ same.why ∙ sym (ap (reason s.flow) in_l) in
    let content_m : content s.flow m ≡ content s.flow l = ap (content s.flow) in_m ∙ same.content ∙ sym (ap (content s.flow) in_l) in
    made s fresh (record { at = at; bytes = m; broken = r }) ms t e (unmarked fresh f low in_l in_m o.0) (ap (begins_plain s.flow) in_m ∙ begins_same s.flow f u v low (sym (ap (begins_plain s.flow) in_l) ∙ o.1))
    (ap (λ w. first s w at m ms) why_m ∙ first_same s (reason s.flow l) at l m ls ms t e content_m one o.2) where
      unmarked : (fresh : Bool) (f : List ℕ) → plain_len s.flow false (f ++ u) < length f → l ≡ f ++ u → m ≡ f ++ v → (fresh && marked l) ≡ false → (fresh && marked m) ≡ false
      unmarked true f low in_l in_m k = ap marked in_m ∙ marks_same s.flow f u v low (sym (ap marked in_l) ∙ k)
      unmarked false f low in_l in_m k = refl

-- texts that agree so far, where a break begins at the byte behind in both or in neither
pub plain_stays : (s : Setting) (before rest more : List ℕ) (b at : ℕ) (t : List ℕ) (e : ℕ) → at ≤ length before → begins_break b rest ≡ begins_break b more → (reason s.flow (line_at (drop at (before ++ (b ∷ rest)))) ≡ Break → s.one_line ≡ true) → stop_shown s.flow at (line_at (drop at (before ++ (b ∷ rest)))) ≤ length before
    → plain_scalar s (before ++ (b ∷ rest)) at ≡ Stands t e → plain_scalar s (before ++ (b ∷ more)) at ≡ Stands t e
plain_stays s before rest more b at t e low n one near h =
    let text : List ℕ = before ++ (b ∷ rest) in
    let other : List ℕ = before ++ (b ∷ more) in
    let g = drop at before in
    let in_l = drop_before at before (b ∷ rest) low in
    let in_m = drop_before at before (b ∷ more) low in
    let size : at + length g ≡ length before = drop_size at before low in
    let p = parted g b rest more n in
    let p2 = subst (λ z. Parted g b (line_at z) (line_at (g ++ (b ∷ more)))) (sym in_l) p in
    let p3 = subst (λ z. Parted g b (line_at (drop at text)) (line_at z)) (sym in_m) p2 in
    let near2 : stop_shown s.flow at (line_at (drop at text)) ≤ at + length g = omega (arith, near, size) in
    let h2 : plain_on s (is_first_column text at) (record { at = at; bytes = line_at (drop at text); broken = has_break (drop at text) } ∷ behind at (drop at text)) ≡ Stands t e = sym (ap (plain_on s (is_first_column text at)) (lines_are at (drop at text))) ∙ h in
    ap (λ q. plain_on s q (lines at (drop at other))) (sym (column_same before b rest more at low)) ∙ ap (plain_on s (is_first_column text at)) (lines_are at (drop at other))
    ∙ line_stays s (is_first_column text at) at g b (line_at (drop at text)) (line_at (drop at other)) (has_break (drop at text)) (has_break (drop at other)) (behind at (drop at text)) (behind at (drop at other)) t e p3 one near2 h2
