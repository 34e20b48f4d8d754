-- A block scalar or a quoted one that stands in a text with a carriage return and a line feed at its end: in longer texts the one keeps its dot, and the other is the same. By induction over lines.
use Rattle.std.proofs.Common.{◌≡◌, ℕ, zero, suc, ◌+◌, Bool, true, false, ◌||◌, ◌&&◌, cond, nat_lt, List, [], ◌∷◌, ◌++◌, Option, Some, None, drop, length, refl, sym, ap, ◌∙◌, subst, true≢false}
use Rattle.std.specs.Prelude.{ℤ}
use Rattle.yaml_scalars.specs.Lines.{Line, Outcome, Stands, Fails, Documents, begins_with, is_blank, is_mark, is_cut_mark, indent, is_white, lead, past_white, newlines}
use Rattle.yaml_scalars.specs.Plain.{above_of}
use Rattle.yaml_scalars.specs.Block.{Chomp, Clip, Strip, Keep, Last, Inner, Nothing, Wide, Indented, shown, widest, ending, is_content, return_behind, taken_off, content_more, blank_more, inner_of, base_of, by_inner, by_digit, block_on}
use Rattle.yaml_scalars.specs.Quoted.{Part, Closed, Open, Joined, Returned, Refused, line_part, gap, behind_part, quoted_more, quoted_on}
use Rattle.yaml_scalars.specs.code.BlockSteps.{text_more, last_more, count_more}
use Rattle.yaml_scalars.proofs.BlockScalars.{on_fault, on_none, on_lines}
use Rattle.yaml_scalars.proofs.BlockStates.{more_out, more_return, more_line}
use Rattle.yaml_laws.proofs.BlockLaw.{head_of, block_cases}
use Rattle.yaml_laws.proofs.Longer.{glue, joint, feed_of}
use Rattle.yaml_laws.proofs.QuotedLaw.{quote_of}
use Rattle.yaml_grammar.proofs.FedCuts.{Dotted, dot_front, dot_back, newlines_undotted}

fails_not : (p : ℕ) (t : List ℕ) (j : ℕ) → Fails p ≡ Stands t j → ⊥
fails_not p t j h = absurd (cc)

text_is : (t v : List ℕ) (e j : ℕ) → Stands t e ≡ Stands v j → v ≡ t
text_is t v e j h = cc

-- ---- block scalars

ending_undotted : (chomp : Chomp) (last : Option Last) (e : ℕ) → Dotted (ending chomp last e) → ⊥
ending_undotted Strip last e l = newlines_undotted 0 l
ending_undotted Clip None e l = newlines_undotted 0 l
ending_undotted Clip (Some x) e l = by_break x.broken l where
  by_break : (q : Bool) → Dotted (cond q (10 ∷ []) []) → ⊥
  by_break true k = newlines_undotted 1 k
  by_break false k = newlines_undotted 0 k
ending_undotted Keep None e l = newlines_undotted e l
ending_undotted Keep (Some x) e l = by_break x.broken l where
  by_break : (q : Bool) → Dotted (cond q (newlines (suc e)) (newlines e)) → ⊥
  by_break true k = newlines_undotted (suc e) k
  by_break false k = newlines_undotted e k

more_dotted : (folded : Bool) (last : Option Last) (e : ℕ) (text part : List ℕ) → Dotted text → Dotted (text_more folded last e text part)
more_dotted folded last e text [] d = d
more_dotted folded last e text (b ∷ bs) d = dot_front text _ d

abbrev nil : List ℕ
nil = []

taken_none : (inner : ℕ) → taken_off inner [] ≡ []
taken_none inner = by_test (nat_lt 0 inner) where
  nothing : (n : ℕ) (xs : List ℕ) → xs ≡ [] → drop n xs ≡ []
  nothing zero xs e = e
  nothing (suc n) [] e = refl
  nothing (suc n) (x ∷ xs) e = absurd (cc)

  by_test : (q : Bool) → cond q nil (drop inner nil) ≡ nil
  by_test true = refl
  by_test false = nothing inner nil refl

module _ (folded : Bool) (chomp : Chomp) (inner : ℕ) where
  content_grows : (size : ℕ) (ls : List Line) (text : List ℕ) (last : Option Last) (e : ℕ) (v : List ℕ) (m : ℕ) → content_more folded chomp inner size ls text last e ≡ Stands v m → Dotted text → Dotted v
  content_grows size [] text last e v m h d = subst Dotted (sym (text_is (text ++ ending chomp last e) v size m h)) (dot_front text (ending chomp last e) d)
  content_grows size (l ∷ ls) text last e v m h d = by_content (is_content inner l.bytes) refl (return_behind 0 l.bytes) refl (λ x y z g k. content_grows size ls x y z v m g k) where
    by_content : (q : Bool) → is_content inner l.bytes ≡ q → (o : Option ℕ) → return_behind 0 l.bytes ≡ o → ((x : List ℕ) (y : Option Last) (z : ℕ) → content_more folded chomp inner size ls x y z ≡ Stands v m → Dotted x → Dotted v) → Dotted v
    by_content false c o r n = subst Dotted (sym (text_is (text ++ ending chomp last e) v l.at m (sym (more_out folded chomp inner size l ls text last e c) ∙ h))) (dot_front text (ending chomp last e) d)
    by_content true c (Some i) r n = absurd (fails_not _ v m (sym (more_return folded chomp inner size l ls text last e i c r) ∙ h))
    by_content true c None r n =
        n (text_more folded last e text (taken_off inner l.bytes)) _ _ (sym (more_line folded chomp inner size l ls text last e (taken_off inner l.bytes) c r refl) ∙ h) (more_dotted folded last e text (taken_off inner l.bytes) d)

  module _ (size most place : ℕ) (A : Line) (B : List Line) (empty : A.bytes ≡ []) (t v : List ℕ) (j m : ℕ) where
    abbrev Both : List Line → List Line → Type 0
    Both ls ms = (x : List ℕ) (y : Option Last) (z : ℕ) → content_more folded chomp inner size ls x y z ≡ Stands t j → content_more folded chomp inner most ms x y z ≡ Stands v m → Dotted t → Dotted v

    line_both : (l : Line) (ls ms : List Line) → Both ls ms → Both (l ∷ ls) (l ∷ ms)
    line_both l ls ms n x y z a b d = by_content (is_content inner l.bytes) refl (return_behind 0 l.bytes) refl where
      by_content : (q : Bool) → is_content inner l.bytes ≡ q → (o : Option ℕ) → return_behind 0 l.bytes ≡ o → Dotted v
      by_content false c o r =
          let s = text_is (x ++ ending chomp y z) t l.at j (sym (more_out folded chomp inner size l ls x y z c) ∙ a) in
          let w = text_is (x ++ ending chomp y z) v l.at m (sym (more_out folded chomp inner most l ms x y z c) ∙ b) in
          subst Dotted (s ∙ sym w) d
      by_content true c (Some i) r = absurd (fails_not _ t j (sym (more_return folded chomp inner size l ls x y z i c r) ∙ a))
      by_content true c None r =
          n (text_more folded y z x (taken_off inner l.bytes)) (last_more y l.broken (taken_off inner l.bytes)) (count_more z l.broken (taken_off inner l.bytes)) (sym (more_line folded chomp inner size l ls x y z (taken_off inner l.bytes) c r refl) ∙ a)
          (sym (more_line folded chomp inner most l ms x y z (taken_off inner l.bytes) c r refl) ∙ b) d

    last_both : Both (A ∷ []) B
    last_both x y z a b d =
        let is = more_line folded chomp inner size A [] x y z [] (ap (is_content inner) empty) (ap (return_behind 0) empty) (ap (taken_off inner) empty ∙ taken_none inner) in
        let s : t ≡ x ++ ending chomp (last_more y A.broken []) (count_more z A.broken []) = text_is (x ++ ending chomp (last_more y A.broken []) (count_more z A.broken [])) t size j (sym is ∙ a) in
        let w : Dotted x = dot_back x (ending chomp (last_more y A.broken []) (count_more z A.broken [])) (ending_undotted chomp (last_more y A.broken []) (count_more z A.broken [])) (subst Dotted s d) in
        content_grows most B x y z v m b w

    content_both : (ks : List Line) → Both (glue ks (feed_of place ∷ A ∷ [])) (glue ks (feed_of place ∷ B))
    content_both [] x y z a b d = subst Dotted (text_is (x ++ ending chomp y z) t size j a ∙ sym (text_is (x ++ ending chomp y z) v most m b)) d
    content_both (l ∷ []) x y z a b d = line_both (joint l (feed_of place)) (A ∷ []) B last_both x y z a b d
    content_both (l ∷ k ∷ ls) x y z a b d = line_both l (glue (k ∷ ls) (feed_of place ∷ A ∷ [])) (glue (k ∷ ls) (feed_of place ∷ B)) (content_both (k ∷ ls)) x y z a b d

blank_undotted : (chomp : Chomp) (size : ℕ) (ls : List Line) (e : ℕ) (t : List ℕ) (j : ℕ) → blank_more chomp size ls e ≡ Stands t j → Dotted t → ⊥
blank_undotted chomp size [] e t j h d = ending_undotted chomp None e (subst Dotted (text_is (ending chomp None e) t size j h) d)
blank_undotted chomp size (l ∷ ls) e t j h d = by_blank (is_blank l.bytes) h (λ n g. blank_undotted chomp size ls n t j g d) where
  by_blank : (q : Bool) → cond q (blank_more chomp size ls (cond l.broken (suc e) e)) (Stands (ending chomp None e) l.at) ≡ Stands t j → ((n : ℕ) → blank_more chomp size ls n ≡ Stands t j → ⊥) → ⊥
  by_blank true g n = n _ g
  by_blank false g n = ending_undotted chomp None e (subst Dotted (text_is (ending chomp None e) t l.at j g) d)

none_indented : (i : ℕ) → Nothing ≡ Indented i → ⊥
none_indented i h = absurd (cc)

module _ (place : ℕ) (A : Line) (B : List Line) (empty : A.bytes ≡ []) (above i : ℕ) where
  last_inner : (w : ℕ) → inner_of above w (A ∷ []) ≡ Indented i → ⊥
  last_inner w h = none_indented i (sym (ap (λ (c : List ℕ). cond (is_blank c) (inner_of above (widest w (indent c)) []) (cond (is_mark c || nat_lt (indent c) above) Nothing (cond (nat_lt (indent c) w) (Wide (A.at + shown c)) (Indented (indent c))))) empty) ∙ h)

  first_inner : (w : ℕ) (l : Line) (ls ms : List Line) → ((n : ℕ) → inner_of above n ls ≡ Indented i → inner_of above n ms ≡ Indented i) → inner_of above w (l ∷ ls) ≡ Indented i → inner_of above w (l ∷ ms) ≡ Indented i
  first_inner w l ls ms n = by_blank (is_blank l.bytes) where
    rest : Inner
    rest = cond (is_mark l.bytes || nat_lt (indent l.bytes) above) Nothing (cond (nat_lt (indent l.bytes) w) (Wide (l.at + shown l.bytes)) (Indented (indent l.bytes)))

    by_blank : (q : Bool) → cond q (inner_of above (widest w (indent l.bytes)) ls) rest ≡ Indented i → cond q (inner_of above (widest w (indent l.bytes)) ms) rest ≡ Indented i
    by_blank true h = n (widest w (indent l.bytes)) h
    by_blank false h = h

  inner_both : (w : ℕ) (ks : List Line) → inner_of above w (glue ks (feed_of place ∷ A ∷ [])) ≡ Indented i → inner_of above w (glue ks (feed_of place ∷ B)) ≡ Indented i
  inner_both w [] h = absurd (none_indented i h)
  inner_both w (l ∷ []) h = first_inner w (joint l (feed_of place)) (A ∷ []) B (λ n g. absurd (last_inner n g)) h
  inner_both w (l ∷ k ∷ ls) h = first_inner w l (glue (k ∷ ls) (feed_of place ∷ A ∷ [])) (glue (k ∷ ls) (feed_of place ∷ B)) (λ n g. inner_both n (k ∷ ls) g) h

module _ (parent : ℤ) (size most : ℕ) (t v : List ℕ) (j m : ℕ) where
  digit_both : (folded : Bool) (chomp : Chomp) (digit : Option ℕ) (ls ms : List Line)
      → ((inner : ℕ) (x : List ℕ) (y : Option Last) (z : ℕ) → content_more folded chomp inner size ls x y z ≡ Stands t j → content_more folded chomp inner most ms x y z ≡ Stands v m → Dotted t → Dotted v)
      → ((i : ℕ) → inner_of (above_of parent) 0 ls ≡ Indented i → inner_of (above_of parent) 0 ms ≡ Indented i)
      → by_digit folded parent chomp size digit ls ≡ Stands t j → by_digit folded parent chomp most digit ms ≡ Stands v m → Dotted t → Dotted v
  digit_both folded chomp (Some d) ls ms n f a b o = n (base_of parent + d) [] None 0 a b o
  digit_both folded chomp None ls ms n f a b o = by_in (inner_of (above_of parent) 0 ls) refl a where
    by_in : (q : Inner) → inner_of (above_of parent) 0 ls ≡ q → by_inner folded chomp size q ls ≡ Stands t j → Dotted v
    by_in Nothing e h = absurd (blank_undotted chomp size ls 0 t j h o)
    by_in (Wide at) e h = absurd (fails_not at t j h)
    by_in (Indented i) e h = n i [] None 0 h (sym (ap (λ q. by_inner folded chomp most q ms) (f i e)) ∙ b) o

  line_blocks : (l : Line) (ls ms : List Line)
      → ((folded : Bool) (chomp : Chomp) (inner : ℕ) (x : List ℕ) (y : Option Last) (z : ℕ) → content_more folded chomp inner size ls x y z ≡ Stands t j → content_more folded chomp inner most ms x y z ≡ Stands v m → Dotted t → Dotted v)
      → ((i : ℕ) → inner_of (above_of parent) 0 ls ≡ Indented i → inner_of (above_of parent) 0 ms ≡ Indented i)
      → block_on parent size (l ∷ ls) ≡ Stands t j → block_on parent most (l ∷ ms) ≡ Stands v m → Dotted t → Dotted v
  line_blocks l ls ms n f a b o =
      block_cases l (λ i e. absurd (fails_not _ t j (sym (on_fault parent size l ls (head_of l.bytes) i refl e) ∙ a))) (λ e q. absurd (fails_not _ t j (sym (on_none parent size l ls (head_of l.bytes) refl e q) ∙ a)))
      (λ e q. digit_both (begins_with 62 l.bytes) (head_of l.bytes).chomp (head_of l.bytes).digit ls ms (λ inner. n (begins_with 62 l.bytes) (head_of l.bytes).chomp inner) f
      (sym (on_lines parent size l ls (head_of l.bytes) refl e q) ∙ a) (sym (on_lines parent most l ms (head_of l.bytes) refl e q) ∙ b) o)

  pub blocks_both : (place : ℕ) (A : Line) (B : List Line) → A.bytes ≡ [] → (ks : List Line) → block_on parent size (glue ks (feed_of place ∷ A ∷ [])) ≡ Stands t j → block_on parent most (glue ks (feed_of place ∷ B)) ≡ Stands v m → Dotted t → Dotted v
  blocks_both place A B empty [] a b o = absurd (fails_not _ t j a)
  blocks_both place A B empty (l ∷ []) a b o =
      line_blocks (joint l (feed_of place)) (A ∷ []) B (λ folded chomp inner. last_both folded chomp inner size most place A B empty t v j m) (λ i h. absurd (last_inner place A B empty (above_of parent) i 0 h)) a b o
  blocks_both place A B empty (l ∷ k ∷ ls) a b o =
      line_blocks l (glue (k ∷ ls) (feed_of place ∷ A ∷ [])) (glue (k ∷ ls) (feed_of place ∷ B)) (λ folded chomp inner. content_both folded chomp inner size most place A B empty t v j m (k ∷ ls))
      (λ i h. inner_both place A B empty (above_of parent) i 0 (k ∷ ls) h) a b o

-- ---- quoted scalars

module _ (quote size most : ℕ) (t : List ℕ) (j : ℕ) (A : Line) (B : List Line) (place : ℕ) where
  -- none stands behind the text's last break
  none_last : (x : List ℕ) (y : Bool) (z : ℕ) → A.bytes ≡ [] → quoted_more quote size (A ∷ []) x y z ≡ Stands t j → ⊥
  none_last x y z e h =
      fails_not size t j
      (sym
      (ap (λ (b : List ℕ). cond (is_mark b && (A.broken || nat_lt 3 (length b))) (Documents A.at) (cond (is_cut_mark b) (Fails (A.at + 3)) (cond (is_blank b) (quoted_more quote size [] x y (suc z)) (behind_part (line_part quote (A.at + lead is_white b) 0 (x ++ gap y z) (length (x ++ gap y z)) (past_white b)) (λ i u. quoted_more quote size [] u i 0))))) e)
      ∙ h)

  part_same : (r : Part) (f g : Bool → List ℕ → Outcome) → ((i : Bool) (u : List ℕ) → f i u ≡ Stands t j → g i u ≡ Stands t j) → behind_part r f ≡ Stands t j → behind_part r g ≡ Stands t j
  part_same (Closed u e) f g n h = h
  part_same (Open u) f g n h = n false u h
  part_same (Joined u) f g n h = n true u h
  part_same (Returned e) f g n h = h
  part_same (Refused e) f g n h = h

  line_same : (l : Line) (ls ms : List Line) (x : List ℕ) (y : Bool) (z : ℕ) → ((u : List ℕ) (i : Bool) (n : ℕ) → quoted_more quote size ls u i n ≡ Stands t j → quoted_more quote most ms u i n ≡ Stands t j) → quoted_more quote size (l ∷ ls) x y z ≡ Stands t j → quoted_more quote most (l ∷ ms) x y z ≡ Stands t j
  line_same l ls ms x y z n h = by_tests (is_mark l.bytes && (l.broken || nat_lt 3 (length l.bytes))) (is_cut_mark l.bytes) (is_blank l.bytes) h where
    by_tests : (m c b : Bool)
        → cond m (Documents l.at) (cond c (Fails (l.at + 3)) (cond b (quoted_more quote size ls x y (suc z)) (behind_part (line_part quote (l.at + lead is_white l.bytes) 0 (x ++ gap y z) (length (x ++ gap y z)) (past_white l.bytes)) (λ i u. quoted_more quote size ls u i 0)))) ≡ Stands t j
        → cond m (Documents l.at) (cond c (Fails (l.at + 3)) (cond b (quoted_more quote most ms x y (suc z)) (behind_part (line_part quote (l.at + lead is_white l.bytes) 0 (x ++ gap y z) (length (x ++ gap y z)) (past_white l.bytes)) (λ i u. quoted_more quote most ms u i 0)))) ≡ Stands t j
    by_tests true c b g = g
    by_tests false true b g = g
    by_tests false false true g = n x y (suc z) g
    by_tests false false false g = part_same (line_part quote (l.at + lead is_white l.bytes) 0 (x ++ gap y z) (length (x ++ gap y z)) (past_white l.bytes)) (λ i u. quoted_more quote size ls u i 0) (λ i u. quoted_more quote most ms u i 0) (λ i u. n u i 0) g

  more_same : (ks : List Line) (x : List ℕ) (y : Bool) (z : ℕ) → A.bytes ≡ [] → quoted_more quote size (glue ks (feed_of place ∷ A ∷ [])) x y z ≡ Stands t j → quoted_more quote most (glue ks (feed_of place ∷ B)) x y z ≡ Stands t j
  more_same [] x y z e h = absurd (fails_not size t j h)
  more_same (l ∷ []) x y z e h = line_same (joint l (feed_of place)) (A ∷ []) B x y z (λ u i n g. absurd (none_last u i n e g)) h
  more_same (l ∷ k ∷ ks) x y z e h = line_same l (glue (k ∷ ks) (feed_of place ∷ A ∷ [])) (glue (k ∷ ks) (feed_of place ∷ B)) x y z (λ u i n g. more_same (k ∷ ks) u i n e g) h

module _ (size most : ℕ) (t : List ℕ) (j : ℕ) (A : Line) (B : List Line) (place : ℕ) where
  first_same : (one : Bool) (l : Line) (ls ms : List Line) → one ≡ false → ((quote : ℕ) (u : List ℕ) (i : Bool) (n : ℕ) → quoted_more quote size ls u i n ≡ Stands t j → quoted_more quote most ms u i n ≡ Stands t j) → quoted_on one size (l ∷ ls) ≡ Stands t j → quoted_on one most (l ∷ ms) ≡ Stands t j
  first_same true l ls ms e n h = absurd (true≢false e)
  first_same false l ls ms e n h =
      part_same (quote_of l.bytes) size most t j l ls 0 (line_part (quote_of l.bytes) (suc l.at) 0 [] 0 (drop 1 l.bytes)) (λ i u. quoted_more (quote_of l.bytes) size ls u i 0) (λ i u. quoted_more (quote_of l.bytes) most ms u i 0) (λ i u. n (quote_of l.bytes) u i 0) h

  pub quoted_both : (one : Bool) (ks : List Line) → one ≡ false → A.bytes ≡ [] → quoted_on one size (glue ks (feed_of place ∷ A ∷ [])) ≡ Stands t j → quoted_on one most (glue ks (feed_of place ∷ B)) ≡ Stands t j
  quoted_both one [] o e h = absurd (cc)
  quoted_both one (l ∷ []) o e h = first_same one (joint l (feed_of place)) (A ∷ []) B o (λ quote u i n g. absurd (none_last quote size most t j A B place u i n e g)) h
  quoted_both one (l ∷ k ∷ ks) o e h = first_same one l (glue (k ∷ ks) (feed_of place ∷ A ∷ [])) (glue (k ∷ ks) (feed_of place ∷ B)) o (λ quote u i n g. more_same quote size most t j A B place (k ∷ ks) u i n e g) h
