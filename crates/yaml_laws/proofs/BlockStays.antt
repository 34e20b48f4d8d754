-- Where a block scalar stands, each text that agrees with this one through the byte that shows its end has the same scalar there.
use Rattle.std.proofs.Common.{◌≡◌, ℕ, ◌+◌, ◌<◌, ◌≤◌, Bool, true, false, List, [], ◌∷◌, ◌++◌, length, drop, refl, sym, ap, inl, inr, ◌∙◌, arith, cond, subst, true≢false, Option, Some, None}
use Rattle.std.specs.Prelude.{ℤ, nat_lt, nat_le, not, ◌||◌, ◌&&◌}
use Rattle.std.proofs.lemmas.Bool.Decides.{nat_tests}
use Rattle.std.proofs.lemmas.List.{length-append}
use Rattle.yaml_scalars.specs.declared.scalar.Setting.{Setting}
use Rattle.yaml_scalars.specs.Lines.{Line, Stands, begins_with, is_blank, is_mark, indent, lines}
use Rattle.yaml_scalars.specs.Plain.{above_of}
use Rattle.yaml_scalars.specs.Block.{Chomp, Last, Inner, Nothing, Wide, Indented, is_content, ending, content_more, blank_more, count_break, shown, widest, inner_of, base_of, by_inner, by_digit, block_on}
use Rattle.yaml_laws.specs.code.Agreement.{out_shown}
use Rattle.yaml_scalars.specs.code.Walk.{line_at}
use Rattle.yaml_scalars.specs.Scalar.{block_scalar}
use Rattle.yaml_laws.proofs.Agree.{Later, Shares, texts_share}
use Rattle.yaml_scalars.proofs.BlockStates.{more_out, more_return}
use Rattle.yaml_scalars.proofs.BlockScalars.{on_fault, on_none, on_lines}
use Rattle.yaml_laws.proofs.BlockHeads.{cases}
use Rattle.yaml_laws.proofs.BlockLaw.{fails_not, content_cases, blank_return, first, first_in, over_blank, over_first, alike_content, head_of, block_cases}
use Rattle.yaml_laws.proofs.LineEnds.{AreOf, lines_of, mark_full, OutAlike, outs_alike}

same_end : (t u : List ℕ) (e f : ℕ) → Stands t e ≡ Stands u f → e ≡ f
same_end t u e f h = cc

same_text : (t u : List ℕ) (e f : ℕ) → Stands t e ≡ Stands u f → t ≡ u
same_text t u e f h = cc

-- ---- the end lies behind a place, where the lines do

content_later : (folded : Bool) (chomp : Chomp) (inner size p : ℕ) (ls : List Line) (text : List ℕ) (last : Option Last) (n : ℕ) (t : List ℕ) (e : ℕ) → p < size → Later p ls → content_more folded chomp inner size ls text last n ≡ Stands t e → p < e
content_later folded chomp inner size p [] text last n t e s w h = let k = same_end _ t size e h in omega (arith, k, s)
content_later folded chomp inner size p (l ∷ ls) text last n t e s w h =
    content_cases folded chomp inner l text last n
    (λ c. (let k = same_end _ t l.at e (sym (more_out folded chomp inner size l ls text last n c) ∙ h) in let z = w.0 in omega (arith, k, z)))
    (λ j c r. absurd (fails_not _ t e (sym (more_return folded chomp inner size l ls text last n j c r) ∙ h)))
    (λ x y z c r g. content_later folded chomp inner size p ls x y z t e s w.1 (sym (g size ls) ∙ h))

blank_later : (chomp : Chomp) (size p : ℕ) (ls : List Line) (n : ℕ) (t : List ℕ) (e : ℕ) → p < size → Later p ls → blank_more chomp size ls n ≡ Stands t e → p < e
blank_later chomp size p [] n t e s w h = let k = same_end _ t size e h in omega (arith, k, s)
blank_later chomp size p (l ∷ ls) n t e s w h = by_blank (is_blank l.bytes) h (λ g. blank_later chomp size p ls (count_break l.broken n) t e s w.1 g) where
  by_blank : (q : Bool) → cond q (blank_more chomp size ls (count_break l.broken n)) (Stands (ending chomp None n) l.at) ≡ Stands t e → (blank_more chomp size ls (count_break l.broken n) ≡ Stands t e → p < e) → p < e
  by_blank true h r = r h
  by_blank false h r = let k = same_end _ t l.at e h in let z = w.0 in omega (arith, k, z)

-- a blank line is content
blank_content : (inner : ℕ) (xs : List ℕ) → is_blank xs ≡ true → is_content inner xs ≡ true
blank_content inner xs h = cases (is_mark xs) (λ m. absurd (true≢false (sym h ∙ mark_full xs m))) (λ m. ap (λ q. not q && (is_blank xs || nat_le inner (indent xs))) m ∙ ap (λ q. q || nat_le inner (indent xs)) h)

-- what is no content is not blank
out_full : (inner : ℕ) (xs : List ℕ) → is_content inner xs ≡ false → is_blank xs ≡ false
out_full inner xs c = cases (is_blank xs) (λ b. absurd (true≢false (sym (blank_content inner xs b) ∙ c))) (λ b. b)

out_same : (inner : ℕ) (l m : List ℕ) → OutAlike l m → is_content inner l ≡ false → is_content inner m ≡ false
out_same inner l m a c = cases (is_mark l) (λ k. marked (a.mark k)) (λ k. cases (is_mark m) marked (λ n. alike_content inner l m (record { full = out_full inner l c; other_full = a.full; mark = n ∙ sym k; indented = a.indented k }) ∙ c)) where
  marked : is_mark m ≡ true → is_content inner m ≡ false
  marked n = ap (λ q. not q && (is_blank m || nat_le inner (indent m))) n

-- the line of the end shows it in time
module _ (text0 : List ℕ) (p e : ℕ) (near : e + out_shown (line_at (drop e text0)) ≤ p) where
  at_end : (l : Line) → l.bytes ≡ line_at (drop l.at text0) → l.at ≡ e → l.at + out_shown l.bytes ≤ p
  at_end l i k =
      let z : out_shown l.bytes ≡ out_shown (line_at (drop e text0)) = ap out_shown (i ∙ ap (λ n. line_at (drop n text0)) k) in
      omega (arith, near, z, k)

  content_stays : (folded : Bool) (chomp : Chomp) (inner size other : ℕ) (ls ms : List Line) (text : List ℕ) (last : Option Last) (n : ℕ) (t : List ℕ) → p < size → AreOf text0 ls → Shares p ls ms → content_more folded chomp inner size ls text last n ≡ Stands t e → content_more folded chomp inner other ms text last n ≡ Stands t e
  content_stays folded chomp inner size other [] ms text last n t s o sh h = absurd sh
  content_stays folded chomp inner size other (l ∷ ls) [] text last n t s o sh h = absurd sh
  content_stays folded chomp inner size other (l ∷ ls) (m ∷ ms) text last n t s o (inl q) h =
      subst (λ (k : Line). content_more folded chomp inner other (k ∷ ms) text last n ≡ Stands t e) q.0
      (content_cases folded chomp inner l text last n
      (λ c. more_out folded chomp inner other l ms text last n c ∙ sym (more_out folded chomp inner size l ls text last n c) ∙ h)
      (λ j c r. absurd (fails_not _ t e (sym (more_return folded chomp inner size l ls text last n j c r) ∙ h)))
      (λ x y z c r g. g other ms ∙ content_stays folded chomp inner size other ls ms x y z t s o.1 q.1 (sym (g size ls) ∙ h)))
  content_stays folded chomp inner size other (l ∷ ls) (m ∷ ms) text last n t s o (inr (inr q)) h =
      subst (λ (k : Line). content_more folded chomp inner other (k ∷ ms) text last n ≡ Stands t e) q.0
      (content_cases folded chomp inner l text last n
      (λ c. more_out folded chomp inner other l ms text last n c ∙ sym (more_out folded chomp inner size l ls text last n c) ∙ h)
      (λ j c r. absurd (fails_not _ t e (sym (more_return folded chomp inner size l ls text last n j c r) ∙ h)))
      (λ x y z c r g. (let k = content_later folded chomp inner size p ls x y z t e s q.2 (sym (g size ls) ∙ h) in absurd (omega (arith, k, near)))))
  content_stays folded chomp inner size other (l ∷ ls) (m ∷ ms) text last n t s o (inr (inl q)) h =
      content_cases folded chomp inner l text last n
      (λ c. (let out = sym (more_out folded chomp inner size l ls text last n c) ∙ h in
      let k = same_end _ t l.at e out in
      let a = outs_alike p l.at l.bytes m.bytes q.1 (out_full inner l.bytes c) (at_end l o.0 k) in
      more_out folded chomp inner other m ms text last n (out_same inner l.bytes m.bytes a c) ∙ ap (Stands (text ++ ending chomp last n)) (sym q.0) ∙ out))
      (λ j c r. absurd (fails_not _ t e (sym (more_return folded chomp inner size l ls text last n j c r) ∙ h)))
      (λ x y z c r g. (let k = content_later folded chomp inner size p ls x y z t e s q.2 (sym (g size ls) ∙ h) in absurd (omega (arith, k, near))))

  -- nothing but blank lines
  over : (chomp : Chomp) (size : ℕ) (l : Line) (ls : List Line) (n : ℕ) → is_blank l.bytes ≡ true → blank_more chomp size (l ∷ ls) n ≡ blank_more chomp size ls (count_break l.broken n)
  over chomp size l ls n b = ap (λ q. cond q (blank_more chomp size ls (count_break l.broken n)) (Stands (ending chomp None n) l.at)) b

  before : (chomp : Chomp) (size : ℕ) (l : Line) (ls : List Line) (n : ℕ) → is_blank l.bytes ≡ false → blank_more chomp size (l ∷ ls) n ≡ Stands (ending chomp None n) l.at
  before chomp size l ls n b = ap (λ q. cond q (blank_more chomp size ls (count_break l.broken n)) (Stands (ending chomp None n) l.at)) b

  none_first : (above w : ℕ) (l m : Line) → OutAlike l.bytes m.bytes → first above w l ≡ Nothing → first above w m ≡ Nothing
  none_first above w l m a h = cases (is_mark l.bytes) (λ k. marked (a.mark k)) (λ k. less k (nat_lt (indent l.bytes) above) refl (nat_lt (indent l.bytes) w) (sym (ap (λ q. cond (q || nat_lt (indent l.bytes) above) Nothing (cond (nat_lt (indent l.bytes) w) (Wide (l.at + shown l.bytes)) (Indented (indent l.bytes)))) k) ∙ h)) where
    marked : is_mark m.bytes ≡ true → first above w m ≡ Nothing
    marked n = ap (λ q. cond (q || nat_lt (indent m.bytes) above) Nothing (cond (nat_lt (indent m.bytes) w) (Wide (m.at + shown m.bytes)) (Indented (indent m.bytes)))) n

    less : is_mark l.bytes ≡ false → (b : Bool) → nat_lt (indent l.bytes) above ≡ b → (v : Bool) → cond b Nothing (cond v (Wide (l.at + shown l.bytes)) (Indented (indent l.bytes))) ≡ Nothing → first above w m ≡ Nothing
    less k true i v g =
        ap (λ q. cond (is_mark m.bytes || q) Nothing (cond (nat_lt (indent m.bytes) w) (Wide (m.at + shown m.bytes)) (Indented (indent m.bytes)))) (ap (λ j. nat_lt j above) (a.indented k) ∙ i) ∙ either (is_mark m.bytes) where
          either : (q : Bool) → cond (q || true) Nothing (cond (nat_lt (indent m.bytes) w) (Wide (m.at + shown m.bytes)) (Indented (indent m.bytes))) ≡ Nothing
          either true = refl
          either false = refl
    less k false i true g = absurd (cc)
    less k false i false g = absurd (cc)

  blank_stays : (chomp : Chomp) (above w size other : ℕ) (ls ms : List Line) (n : ℕ) (t : List ℕ) → p < size → AreOf text0 ls → Shares p ls ms → inner_of above w ls ≡ Nothing → blank_more chomp size ls n ≡ Stands t e → (inner_of above w ms ≡ Nothing) × (blank_more chomp other ms n ≡ Stands t e)
  blank_stays chomp above w size other [] ms n t s o sh i h = absurd sh
  blank_stays chomp above w size other (l ∷ ls) [] n t s o sh i h = absurd sh
  blank_stays chomp above w size other (l ∷ ls) (m ∷ ms) n t s o (inl q) i h =
      subst (λ (k : Line). (inner_of above w (k ∷ ms) ≡ Nothing) × (blank_more chomp other (k ∷ ms) n ≡ Stands t e)) q.0
      (cases (is_blank l.bytes)
      (λ b. (let r = blank_stays chomp above (widest w (indent l.bytes)) size other ls ms (count_break l.broken n) t s o.1 q.1 (sym (over_blank above w l ls b) ∙ i) (sym (over chomp size l ls n b) ∙ h) in
      (over_blank above w l ms b ∙ r.0, over chomp other l ms n b ∙ r.1)))
      (λ b. (over_first above w l ms b ∙ sym (over_first above w l ls b) ∙ i, before chomp other l ms n b ∙ sym (before chomp size l ls n b) ∙ h)))
  blank_stays chomp above w size other (l ∷ ls) (m ∷ ms) n t s o (inr (inr q)) i h =
      subst (λ (k : Line). (inner_of above w (k ∷ ms) ≡ Nothing) × (blank_more chomp other (k ∷ ms) n ≡ Stands t e)) q.0
      (cases (is_blank l.bytes)
      (λ b. (let k = blank_later chomp size p ls (count_break l.broken n) t e s q.2 (sym (over chomp size l ls n b) ∙ h) in absurd (omega (arith, k, near))))
      (λ b. (over_first above w l ms b ∙ sym (over_first above w l ls b) ∙ i, before chomp other l ms n b ∙ sym (before chomp size l ls n b) ∙ h)))
  blank_stays chomp above w size other (l ∷ ls) (m ∷ ms) n t s o (inr (inl q)) i h =
      cases (is_blank l.bytes)
      (λ b. (let k = blank_later chomp size p ls (count_break l.broken n) t e s q.2 (sym (over chomp size l ls n b) ∙ h) in absurd (omega (arith, k, near))))
      (λ b. (let out = sym (before chomp size l ls n b) ∙ h in
      let a = outs_alike p l.at l.bytes m.bytes q.1 b (at_end l o.0 (same_end _ t l.at e out)) in
      (over_first above w m ms a.full ∙ none_first above w l m a (sym (over_first above w l ls b) ∙ i), before chomp other m ms n a.full ∙ ap (Stands (ending chomp None n)) (sym q.0) ∙ out)))

  -- the indentation is the same
  inner_stays : (folded : Bool) (chomp : Chomp) (above w i size : ℕ) (ls ms : List Line) (text : List ℕ) (last : Option Last) (n : ℕ) (t : List ℕ) → p < size → AreOf text0 ls → Shares p ls ms → inner_of above w ls ≡ Indented i → content_more folded chomp i size ls text last n ≡ Stands t e → inner_of above w ms ≡ Indented i
  inner_stays folded chomp above w i size [] ms text last n t s o sh k h = absurd sh
  inner_stays folded chomp above w i size (l ∷ ls) [] text last n t s o sh k h = absurd sh
  inner_stays folded chomp above w i size (l ∷ ls) (m ∷ ms) text last n t s o (inl q) k h =
      subst (λ (x : Line). inner_of above w (x ∷ ms) ≡ Indented i) q.0 (cases (is_blank l.bytes) (λ b. blank b (λ v x y z a c. inner_stays folded chomp above v i size ls ms x y z t s o.1 q.1 a c)) (λ b. over_first above w l ms b ∙ sym (over_first above w l ls b) ∙ k)) where
        blank : is_blank l.bytes ≡ true → ((v : ℕ) (x : List ℕ) (y : Option Last) (z : ℕ) → inner_of above v ls ≡ Indented i → content_more folded chomp i size ls x y z ≡ Stands t e → inner_of above v ms ≡ Indented i) → inner_of above w (l ∷ ms) ≡ Indented i
        blank b go =
            over_blank above w l ms b
            ∙ content_cases folded chomp i l text last n
            (λ c. absurd (true≢false (sym (blank_content i l.bytes b) ∙ c)))
            (λ j c r. absurd (let z : Some j ≡ None = sym r ∙ blank_return 0 l.bytes b in cc))
            (λ x y z c r g. go (widest w (indent l.bytes)) x y z (sym (over_blank above w l ls b) ∙ k) (sym (g size ls) ∙ h))
  inner_stays folded chomp above w i size (l ∷ ls) (m ∷ ms) text last n t s o (inr (inr q)) k h =
      subst (λ (x : Line). inner_of above w (x ∷ ms) ≡ Indented i) q.0
      (cases (is_blank l.bytes)
      (λ b. content_cases folded chomp i l text last n
      (λ c. absurd (true≢false (sym (blank_content i l.bytes b) ∙ c)))
      (λ j c r. absurd (let z : Some j ≡ None = sym r ∙ blank_return 0 l.bytes b in cc))
      (λ x y z c r g. (let v = content_later folded chomp i size p ls x y z t e s q.2 (sym (g size ls) ∙ h) in absurd (omega (arith, v, near)))))
      (λ b. over_first above w l ms b ∙ sym (over_first above w l ls b) ∙ k))
  inner_stays folded chomp above w i size (l ∷ ls) (m ∷ ms) text last n t s o (inr (inl q)) k h =
      content_cases folded chomp i l text last n
      (λ c. absurd (true≢false (sym (inner_content c) ∙ c)))
      (λ j c r. absurd (fails_not _ t e (sym (more_return folded chomp i size l ls text last n j c r) ∙ h)))
      (λ x y z c r g. (let v = content_later folded chomp i size p ls x y z t e s q.2 (sym (g size ls) ∙ h) in absurd (omega (arith, v, near)))) where
        inner_content : is_content i l.bytes ≡ false → is_content i l.bytes ≡ true
        inner_content c =
            let b = out_full i l.bytes c in
            let f = first_in above w i l (sym (over_first above w l ls b) ∙ k) in
            let n : nat_le i (indent l.bytes) ≡ true = let z = f.3 in grind (arith, nat_tests, z) in
            ap (λ q. not q && (is_blank l.bytes || nat_le i (indent l.bytes))) f.0 ∙ ap (λ q. q || nat_le i (indent l.bytes)) b ∙ n

  digit_stays : (folded : Bool) (parent : ℤ) (chomp : Chomp) (size other : ℕ) (digit : Option ℕ) (ls ms : List Line) (t : List ℕ) → p < size → AreOf text0 ls → Shares p ls ms → by_digit folded parent chomp size digit ls ≡ Stands t e → by_digit folded parent chomp other digit ms ≡ Stands t e
  digit_stays folded parent chomp size other (Some d) ls ms t s o sh h = content_stays folded chomp (base_of parent + d) size other ls ms [] None 0 t s o sh h
  digit_stays folded parent chomp size other None ls ms t s o sh h = by_in (inner_of (above_of parent) 0 ls) refl h where
    by_in : (i : Inner) → inner_of (above_of parent) 0 ls ≡ i → by_inner folded chomp size i ls ≡ Stands t e → by_inner folded chomp other (inner_of (above_of parent) 0 ms) ms ≡ Stands t e
    by_in Nothing i h = let r = blank_stays chomp (above_of parent) 0 size other ls ms 0 t s o sh i h in ap (λ z. by_inner folded chomp other z ms) r.0 ∙ r.1
    by_in (Wide at) i h = absurd (fails_not at t e h)
    by_in (Indented j) i h = ap (λ z. by_inner folded chomp other z ms) (inner_stays folded chomp (above_of parent) 0 j size ls ms [] None 0 t s o sh i h) ∙ content_stays folded chomp j size other ls ms [] None 0 t s o sh h

  -- the lines below the header lie behind a place: so does the end
  digit_later : (folded : Bool) (parent : ℤ) (chomp : Chomp) (size : ℕ) (digit : Option ℕ) (ls : List Line) (t : List ℕ) → p < size → Later p ls → by_digit folded parent chomp size digit ls ≡ Stands t e → ⊥
  digit_later folded parent chomp size (Some d) ls t s w h = let k = content_later folded chomp (base_of parent + d) size p ls [] None 0 t e s w h in omega (arith, k, near)
  digit_later folded parent chomp size None ls t s w h = by_in (inner_of (above_of parent) 0 ls) h where
    by_in : (i : Inner) → by_inner folded chomp size i ls ≡ Stands t e → ⊥
    by_in Nothing h = let k = blank_later chomp size p ls 0 t e s w h in omega (arith, k, near)
    by_in (Wide at) h = fails_not at t e h
    by_in (Indented j) h = let k = content_later folded chomp j size p ls [] None 0 t e s w h in omega (arith, k, near)

  lines_stay : (parent : ℤ) (size other : ℕ) (ls ms : List Line) (t : List ℕ) → p < size → AreOf text0 ls → Shares p ls ms → block_on parent size ls ≡ Stands t e → block_on parent other ms ≡ Stands t e
  lines_stay parent size other [] ms t s o sh h = absurd sh
  lines_stay parent size other (l ∷ ls) [] t s o sh h = absurd sh
  lines_stay parent size other (l ∷ ls) (m ∷ ms) t s o (inl q) h =
      subst (λ (x : Line). block_on parent other (x ∷ ms) ≡ Stands t e) q.0
      (block_cases l (λ n f. absurd (fails_not _ t e (sym (on_fault parent size l ls (head_of l.bytes) n refl f) ∙ h))) (λ f b. absurd (fails_not _ t e (sym (on_none parent size l ls (head_of l.bytes) refl f b) ∙ h)))
      (λ f b. on_lines parent other l ms (head_of l.bytes) refl f b ∙ digit_stays (begins_with 62 l.bytes) parent (head_of l.bytes).chomp size other (head_of l.bytes).digit ls ms t s o.1 q.1 (sym (on_lines parent size l ls (head_of l.bytes) refl f b) ∙ h)))
  lines_stay parent size other (l ∷ ls) (m ∷ ms) t s o (inr q) h =
      block_cases l (λ n f. absurd (fails_not _ t e (sym (on_fault parent size l ls (head_of l.bytes) n refl f) ∙ h))) (λ f b. absurd (fails_not _ t e (sym (on_none parent size l ls (head_of l.bytes) refl f b) ∙ h)))
      (λ f b. absurd (digit_later (begins_with 62 l.bytes) parent (head_of l.bytes).chomp size (head_of l.bytes).digit ls t s (elim q [ inl i ↦ i.2 | inr i ↦ i.2 ]) (sym (on_lines parent size l ls (head_of l.bytes) refl f b) ∙ h)))

pub block_stays : (s : Setting) (before rest more : List ℕ) (b at : ℕ) (t : List ℕ) (e : ℕ) → at ≤ length before → e + out_shown (line_at (drop e (before ++ (b ∷ rest)))) ≤ length before → block_scalar s (before ++ (b ∷ rest)) at ≡ Stands t e → block_scalar s (before ++ (b ∷ more)) at ≡ Stands t e
block_stays s before rest more b at t e l near h =
    let text : List ℕ = before ++ (b ∷ rest) in
    let size : length before < length text = omega (arith, length-append before (b ∷ rest)) in
    lines_stay text (length before) e near s.parent (length text) (length (before ++ (b ∷ more))) (lines at (drop at text)) (lines at (drop at (before ++ (b ∷ more)))) t size (lines_of text at) (texts_share before b rest more at l) h
