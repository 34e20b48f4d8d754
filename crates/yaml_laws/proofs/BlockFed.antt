-- Where a block scalar fails at the text's end, a break behind the text completes it so that it ends with the text, unless a mark stands on its last line, or its lines show that a blank one is too wide. By induction over lines.
use Rattle.std.proofs.Common.{◌≡◌, ℕ, zero, suc, ◌+◌, ◌<◌, ◌≤◌, ◌⊎◌, Bool, true, false, List, [], ◌∷◌, ◌++◌, length, drop, refl, sym, ap, inl, inr, ◌∙◌, arith, cond, subst, Option, Some, None, append_assoc, append-nil, length-append, true≢false}
use Rattle.std.specs.Prelude.{ℤ, nat_lt, nat_le, not, ◌||◌, ◌&&◌}
use Rattle.yaml_scalars.specs.declared.scalar.Setting.{Setting}
use Rattle.yaml_scalars.specs.Lines.{Line, Stands, Fails, begins_with, ends_with, is_blank, is_mark, indent, lines}
use Rattle.yaml_scalars.specs.Plain.{above_of}
use Rattle.yaml_scalars.specs.Block.{Chomp, Clip, Strip, Keep, Last, Inner, Nothing, Wide, Indented, header_fault, return_behind, is_content, ending, content_more, blank_more, count_break, taken_off, widest, inner_of, base_of, by_inner, by_digit, block_on}
use Rattle.yaml_scalars.specs.Scalar.{begins_quoted, begins_block, plain_scalar, quoted_scalar, block_scalar, scalar_at}
use Rattle.yaml_scalars.specs.code.Walk.{line_at, has_break, behind}
use Rattle.yaml_laws.specs.code.Endings.{last_mark}
use Rattle.yaml_scalars.proofs.Places.{lines_are}
use Rattle.yaml_scalars.proofs.BlockStates.{more_line, more_out}
use Rattle.yaml_scalars.proofs.BlockScalars.{on_lines}
use Rattle.yaml_laws.proofs.Agree.{drop_before, drop_size}
use Rattle.yaml_laws.proofs.Longer.{glue, joint, rest_of, feed_of, last_line, ended, cut, Ends, StandsTo, no_feed, one_line, lines_more, lines_ended, lines_end}
use Rattle.yaml_laws.proofs.BlockHeads.{cases, return_alone, return_ranges}
use Rattle.yaml_laws.proofs.BlockShown.{lead_ended}
use Rattle.yaml_laws.proofs.BlockLaw.{stands_not, fails_at, blank_stands, content_cases, over_blank, over_first, first_wide, shown_fits, head_of, block_cases}
use Rattle.yaml_laws.proofs.BlockLonger.{late_of, nonblank_return, first_same, shown_return, header_returned, header_ended, early}
use Rattle.yaml_laws.proofs.ScalarFollowed.{kind_longer}

-- ---- blank lines up to the text's end

abbrev AllBlank : List Line → Type 0
AllBlank [] = Unit {0}
AllBlank (l ∷ ls) = (is_blank l.bytes ≡ true) × AllBlank ls

blank_to : (chomp : Chomp) (size : ℕ) (ls : List Line) (e : ℕ) → AllBlank ls → StandsTo size (blank_more chomp size ls e)
blank_to chomp size [] e b = (ending chomp None e, refl)
blank_to chomp size (l ∷ ls) e b =
    let z = blank_to chomp size ls (count_break l.broken e) b.1 in
    (z.0, ap (λ q. cond q (blank_more chomp size ls (count_break l.broken e)) (Stands (ending chomp None e) l.at)) b.0 ∙ z.1)

no_inner : (above w : ℕ) (ls : List Line) → AllBlank ls → inner_of above w ls ≡ Nothing
no_inner above w [] b = refl
no_inner above w (l ∷ ls) b = over_blank above w l ls b.0 ∙ no_inner above (widest w (indent l.bytes)) ls b.1

nothing_to : (folded : Bool) (parent : ℤ) (chomp : Chomp) (size : ℕ) (ls : List Line) → AllBlank ls → StandsTo size (by_digit folded parent chomp size None ls)
nothing_to folded parent chomp size ls b = let s = blank_to chomp size ls 0 b in (s.0, ap (λ o. by_inner folded chomp size o ls) (no_inner (above_of parent) 0 ls b) ∙ s.1)

-- ---- content up to the text's end

empty_to : (folded : Bool) (chomp : Chomp) (inner size at : ℕ) (text : List ℕ) (last : Option Last) (e : ℕ) → StandsTo size (content_more folded chomp inner size (rest_of at [] ∷ []) text last e)
empty_to folded chomp inner size at text last e =
    content_cases folded chomp inner (rest_of at []) text last e
    (λ c. absurd (let i : true ≡ false = c in true≢false i))
    (λ n c r. absurd (cc))
    (λ x y z c r g. (x ++ ending chomp y z, g size []))

-- behind a header nothing but an empty line: no text
ending_none : (chomp : Chomp) (size : ℕ) → Stands (ending chomp None 0) size ≡ Stands [] size
ending_none Strip size = refl
ending_none Clip size = refl
ending_none Keep size = refl

abbrev none : List ℕ
none = []

none_left : (n : ℕ) → drop n none ≡ none
none_left zero = refl
none_left (suc n) = refl

taken_none : (inner : ℕ) → taken_off inner [] ≡ []
taken_none inner = by_less (nat_lt 0 inner) where
  by_less : (q : Bool) → cond q none (drop inner none) ≡ none
  by_less true = refl
  by_less false = none_left inner

empty_digit : (folded : Bool) (parent : ℤ) (chomp : Chomp) (size at : ℕ) (digit : Option ℕ) → by_digit folded parent chomp size digit (rest_of at [] ∷ []) ≡ Stands [] size
empty_digit folded parent chomp size at (Some d) = more_line folded chomp (base_of parent + d) size (rest_of at []) [] [] None 0 [] refl refl (taken_none (base_of parent + d)) ∙ ending_none chomp size
empty_digit folded parent chomp size at None = ending_none chomp size

header_to : (parent : ℤ) (other place : ℕ) (l : Line) → header_fault false 0 (head_of l.bytes).rest ≡ None → block_on parent other (joint l (feed_of place) ∷ last_line place ∷ []) ≡ Stands [] other
header_to parent other place l h =
    let new : Line = joint l (feed_of place) in
    on_lines parent other new (last_line place ∷ []) (head_of new.bytes) refl (ap (λ (t : List ℕ). header_fault false 0 (head_of t).rest) (append-nil l.bytes) ∙ h) refl
    ∙ empty_digit (begins_with 62 new.bytes) parent (head_of new.bytes).chomp other (suc (suc place)) (head_of new.bytes).digit

-- a line is content without its carriage return
still_content : (inner : ℕ) (f : List ℕ) → is_mark f ≡ false → is_content inner (f ++ (13 ∷ [])) ≡ true → is_content inner f ≡ true
still_content inner f mark h =
    ap (λ q. not q && (is_blank f || nat_le inner (indent f))) mark ∙ ap (λ q. is_blank f || q) deep ∙ any (is_blank f) where
      any : (q : Bool) → (q || true) ≡ true
      any true = refl
      any false = refl

      by_tests : (p q r : Bool) → q ≡ false → (not p && (q || r)) ≡ true → r ≡ true
      by_tests true q r e h = absurd (true≢false (sym h))
      by_tests false true r e h = absurd (true≢false e)
      by_tests false false r e h = h

      deep : nat_le inner (indent f) ≡ true
      deep = ap (nat_le inner) (sym (lead_ended _ f [] refl)) ∙ by_tests (is_mark (f ++ (13 ∷ []))) (is_blank (f ++ (13 ∷ []))) (nat_le inner (indent (f ++ (13 ∷ [])))) (nonblank_return f) h

content_fed : (folded : Bool) (chomp : Chomp) (inner size other place : ℕ) (r : Bool) (ks : List Line) (text : List ℕ) (last : Option Last) (e : ℕ) → Ends place r ks → last_mark ks ≡ false → content_more folded chomp inner size (cut ks place) text last e ≡ Fails (suc place) → StandsTo other (content_more folded chomp inner other (glue ks (ended place [])) text last e)
content_fed folded chomp inner size other place r [] text last e w mark h = absurd w
content_fed folded chomp inner size other place r (l ∷ []) text last e (x, y, z) mark h =
    let old : Line = joint l (rest_of place (13 ∷ [])) in
    let new : Line = joint l (feed_of place) in
    let in_it : is_content inner old.bytes ≡ true = content_cases folded chomp inner old text last e
    (λ c. absurd (stands_not _ _ (suc place) (sym (more_out folded chomp inner size old [] text last e c) ∙ h)))
    (λ n c q. c)
    (λ u v k c q g. c) in
    let none : return_behind 0 l.bytes ≡ None = content_cases folded chomp inner old text last e
    (λ c. absurd (stands_not _ _ (suc place) (sym (more_out folded chomp inner size old [] text last e c) ∙ h)))
    (λ n c q. let i = fails_at (l.at + n) (suc place) (sym (returned old n c q) ∙ h) in return_alone 0 l.bytes (late_of (0 + length l.bytes + 1) (return_behind 0 (l.bytes ++ (13 ∷ []))) n q (omega (arith, i, x))))
    (λ u v k c q g. absurd (stands_not _ _ (suc place) (sym (g size []) ∙ h))) in
    content_cases folded chomp inner new text last e
    (λ c. absurd (true≢false (sym (ap (is_content inner) (append-nil l.bytes) ∙ still_content inner l.bytes mark in_it) ∙ c)))
    (λ n c q. absurd (let i : None ≡ Some n = sym none ∙ sym (ap (return_behind 0) (append-nil l.bytes)) ∙ q in cc))
    (λ u v k c q g. let s = empty_to folded chomp inner other (suc (suc place)) u v k in (s.0, g other (last_line place ∷ []) ∙ s.1)) where
      returned : (m : Line) (n : ℕ) → is_content inner m.bytes ≡ true → return_behind 0 m.bytes ≡ Some n → content_more folded chomp inner size (m ∷ []) text last e ≡ Fails (m.at + n)
      returned m n c q = rw (c, q)
content_fed folded chomp inner size other place r (l ∷ m ∷ ks) text last e (x, y, z) mark h =
    content_cases folded chomp inner l text last e
    (λ c. absurd (stands_not _ _ (suc place) (sym (more_out folded chomp inner size l (cut (m ∷ ks) place) text last e c) ∙ h)))
    (λ n c q. absurd (let i = fails_at (l.at + n) (suc place) (sym (returned n c q) ∙ h) in let j = (return_ranges 0 n l.bytes q).1 in omega (arith, i, j, x)))
    (λ u v k c q g. let s = content_fed folded chomp inner size other place r (m ∷ ks) u v k z mark (sym (g size (cut (m ∷ ks) place)) ∙ h) in (s.0, g other (glue (m ∷ ks) (ended place [])) ∙ s.1)) where
      returned : (n : ℕ) → is_content inner l.bytes ≡ true → return_behind 0 l.bytes ≡ Some n → content_more folded chomp inner size (l ∷ cut (m ∷ ks) place) text last e ≡ Fails (l.at + n)
      returned n c q = rw (c, q)

-- ---- the indentation

all_last : (place : ℕ) (l : Line) → is_blank l.bytes ≡ true → AllBlank (joint l (feed_of place) ∷ last_line place ∷ [])
all_last place l b = (ap is_blank (append-nil l.bytes) ∙ b, (refl, tt))

inner_fed : (above w i place : ℕ) (r : Bool) (ks : List Line) → Ends place r ks → last_mark ks ≡ false → inner_of above w (cut ks place) ≡ Indented i → (inner_of above w (glue ks (ended place [])) ≡ Indented i) ⊎ AllBlank (glue ks (ended place []))
inner_fed above w i place r [] x mark h = absurd x
inner_fed above w i place r (l ∷ []) x mark h = cases (is_blank l.bytes) (λ b. inr (all_last place l b)) (λ b. inl (same_indent b)) where
  same_indent : is_blank l.bytes ≡ false → inner_of above w (joint l (feed_of place) ∷ last_line place ∷ []) ≡ Indented i
  same_indent b =
      let old : Line = joint l (rest_of place (13 ∷ [])) in
      over_first above w (joint l (feed_of place)) (last_line place ∷ []) (ap is_blank (append-nil l.bytes) ∙ b)
      ∙ first_same above w i old (joint l (feed_of place)) (ap is_mark (append-nil l.bytes) ∙ mark) (ap indent (append-nil l.bytes) ∙ sym (lead_ended _ l.bytes [] refl)) (sym (over_first above w old [] (nonblank_return l.bytes)) ∙ h)
inner_fed above w i place r (l ∷ m ∷ ks) x mark h =
    cases (is_blank l.bytes)
    (λ b. elim (inner_fed above (widest w (indent l.bytes)) i place r (m ∷ ks) x.2 mark (sym (over_blank above w l (cut (m ∷ ks) place) b) ∙ h)) [
      | inl e ↦ inl (over_blank above w l (glue (m ∷ ks) (ended place [])) b ∙ e)
      | inr e ↦ inr (b, e)
    ])
    (λ b. inl (over_first above w l (glue (m ∷ ks) (ended place [])) b ∙ sym (over_first above w l (cut (m ∷ ks) place) b) ∙ h))

wide_fed : (above w place : ℕ) (r : Bool) (ks : List Line) → Ends place r ks → last_mark ks ≡ false → inner_of above w (cut ks place) ≡ Wide (suc place) → AllBlank (glue ks (ended place []))
wide_fed above w place r [] x mark h = absurd x
wide_fed above w place r (l ∷ []) x mark h = cases (is_blank l.bytes) (λ b. all_last place l b) (λ b.
    let old : Line = joint l (rest_of place (13 ∷ [])) in
    let f = (first_wide above w (suc place) old (sym (over_first above w old [] (nonblank_return l.bytes)) ∙ h)).3 in
    let y = x.0 in
    absurd (true≢false (sym (shown_return l.bytes b (omega (arith, f, y))) ∙ mark)))
wide_fed above w place r (l ∷ m ∷ ks) x mark h =
    cases (is_blank l.bytes)
    (λ b. (b, wide_fed above (widest w (indent l.bytes)) place r (m ∷ ks) x.2 mark (sym (over_blank above w l (cut (m ∷ ks) place) b) ∙ h)))
    (λ b. absurd (let f = (first_wide above w (suc place) l (sym (over_first above w l (cut (m ∷ ks) place) b) ∙ h)).3 in let s = shown_fits l.bytes in let y = x.0 in omega (arith, f, s, y)))

digit_fed : (folded : Bool) (parent : ℤ) (chomp : Chomp) (size other place : ℕ) (r : Bool) (digit : Option ℕ) (ks : List Line) → Ends place r ks → last_mark ks ≡ false → by_digit folded parent chomp size digit (cut ks place) ≡ Fails (suc place) → StandsTo other (by_digit folded parent chomp other digit (glue ks (ended place [])))
digit_fed folded parent chomp size other place r (Some d) ks x mark h = content_fed folded chomp (base_of parent + d) size other place r ks [] None 0 x mark h
digit_fed folded parent chomp size other place r None ks x mark h = by_in (inner_of (above_of parent) 0 (cut ks place)) refl h where
  new : List Line
  new = glue ks (ended place [])

  by_in : (o : Inner) → inner_of (above_of parent) 0 (cut ks place) ≡ o → by_inner folded chomp size o (cut ks place) ≡ Fails (suc place) → StandsTo other (by_digit folded parent chomp other None new)
  by_in Nothing e h = absurd (blank_stands chomp size (suc place) (cut ks place) 0 h)
  by_in (Wide at) e h = nothing_to folded parent chomp other new (wide_fed (above_of parent) 0 place r ks x mark (e ∙ ap Wide (fails_at at (suc place) h)))
  by_in (Indented i) e h = elim (inner_fed (above_of parent) 0 i place r ks x mark e) [
    | inl k ↦ (let s = content_fed folded chomp i size other place r ks [] None 0 x mark h in (s.0, ap (λ o. by_inner folded chomp other o new) k ∙ s.1))
    | inr k ↦ nothing_to folded parent chomp other new k
  ]

block_fed : (parent : ℤ) (size other place : ℕ) (r : Bool) (l : Line) (ks : List Line) → Ends place r (l ∷ ks) → last_mark ks ≡ false → block_on parent size (cut (l ∷ ks) place) ≡ Fails (suc place) → StandsTo other (block_on parent other (glue (l ∷ ks) (ended place [])))
block_fed parent size other place r l [] x mark h = ([], header_to parent other place l (header_returned parent size place r l x h))
block_fed parent size other place r l (m ∷ ks) (x, y, z) mark h =
    block_cases l
    (λ n e. absurd (let k = early parent size (suc place) l (cut (m ∷ ks) place) n e h in omega (arith, k, x)))
    (λ e b. absurd (let k : false ≡ true = sym b ∙ y in cc))
    (λ e b.
    let s = digit_fed (begins_with 62 l.bytes) parent (head_of l.bytes).chomp size other place r (head_of l.bytes).digit (m ∷ ks) z mark (sym (on_lines parent size l (cut (m ∷ ks) place) (head_of l.bytes) refl e b) ∙ h) in
    (s.0, on_lines parent other l (glue (m ∷ ks) (ended place [])) (head_of l.bytes) refl e b ∙ s.1))

-- ---- texts

module _ (s : Setting) (front : List ℕ) (at : ℕ) (l : at ≤ length front) where
  abbrev new : List ℕ
  new = front ++ (13 ∷ 10 ∷ [])

  abbrev place : ℕ
  place = at + length (drop at front)

  place_is : at + length (drop at front) ≡ length front
  place_is = drop_size at front l

  new_lines : lines at (drop at new) ≡ glue (lines at (drop at front)) (ended place [])
  new_lines = ap (lines at) (drop_before at front (13 ∷ 10 ∷ []) l) ∙ lines_ended at (drop at front) [] refl

  -- a carriage return ends the text
  returned_text : last_mark (behind at (drop at front)) ≡ false → block_scalar s (front ++ (13 ∷ [])) at ≡ Fails (length (front ++ (13 ∷ []))) → StandsTo (length new) (block_scalar s new at)
  returned_text mark h =
      let text = front ++ (13 ∷ []) in
      let d = drop at front in
      let k : Line = record { at = at; bytes = line_at d; broken = has_break d } in
      let is = lines_are at d in
      let size : length (front ++ (13 ∷ [])) ≡ suc place = (let z = place_is in omega (arith, z, length-append front (13 ∷ []))) in
      let old_lines : lines at (drop at (front ++ (13 ∷ []))) ≡ cut (lines at (drop at front)) place = ap (lines at) (drop_before at front (13 ∷ []) l) ∙ lines_more at (drop at front) (13 ∷ []) refl in
      let ends = subst (λ ls. Ends place (ends_with 13 d) ls) is (lines_end at d) in
      let old : block_on s.parent (length text) (cut (k ∷ behind at d) place) ≡ Fails (suc place) = sym (ap (block_on s.parent (length text)) (old_lines ∙ ap (λ ls. cut ls place) is)) ∙ h ∙ ap Fails size in
      let z = block_fed s.parent (length text) (length new) place (ends_with 13 d) k (behind at d) ends mark old in
      (z.0, ap (block_on s.parent (length new)) (new_lines ∙ ap (λ ls. glue ls (ended place [])) is) ∙ z.1)

pub block_returned_ends : (s : Setting) (front : List ℕ) (at : ℕ) → at ≤ length front → begins_quoted (drop at (front ++ (13 ∷ []))) ≡ false → begins_block s (drop at (front ++ (13 ∷ []))) ≡ true → last_mark (behind at (drop at front)) ≡ false
    → scalar_at s (front ++ (13 ∷ [])) at ≡ Fails (length (front ++ (13 ∷ []))) → (t : List ℕ) × (scalar_at s (front ++ (13 ∷ 10 ∷ [])) at ≡ Stands t (length (front ++ (13 ∷ 10 ∷ []))))
block_returned_ends s front at l q b mark h =
    let text = front ++ (13 ∷ []) in
    let is : (front ++ (13 ∷ [])) ++ (10 ∷ []) ≡ front ++ (13 ∷ 10 ∷ []) = append_assoc front (13 ∷ []) (10 ∷ []) in
    let block : block_scalar s (front ++ (13 ∷ [])) at ≡ Fails (length (front ++ (13 ∷ []))) =
    sym (ap (λ r. cond r (quoted_scalar s text at) (cond (begins_block s (drop at text)) (block_scalar s text at) (plain_scalar s text at))) q ∙ ap (λ r. cond r (block_scalar s text at) (plain_scalar s text at)) b) ∙ h in
    let z = returned_text s front at l mark block in (
      z.0,
      sym (ap (λ y. scalar_at s y at) is)
          ∙ kind_longer s text (10 ∷ []) at (scalar_at s text at) (Stands z.0 (length (front ++ (13 ∷ 10 ∷ [])))) (omega (arith, l, length-append front (13 ∷ [])))
          (λ r g. absurd (true≢false (sym r ∙ q)))
          (λ r k g. ap (λ y. block_scalar s y at) is ∙ z.1)
          (λ r k g. absurd (true≢false (sym b ∙ k))) refl,
    )

-- a header that the text ends
header_text : (s : Setting) (text : List ℕ) (at : ℕ) → at ≤ length text → ends_with 13 (drop at text) ≡ false → no_feed (drop at text) ≡ true → block_scalar s text at ≡ Fails (length text) → block_scalar s (text ++ (13 ∷ 10 ∷ [])) at ≡ Stands [] (length (text ++ (13 ∷ 10 ∷ [])))
header_text s text at l last one h =
    let d = drop at text in
    let place = at + length d in
    let new = text ++ (13 ∷ 10 ∷ []) in
    let is : lines at (drop at text) ≡ rest_of at (drop at text) ∷ [] = one_line at (drop at text) one in
    let size : length text ≡ at + length (drop at text) = (let z = drop_size at text l in sym z) in
    let none = header_ended s.parent (at + length (drop at text)) (length text) (rest_of at (drop at text)) (refl, refl, λ e. absurd (true≢false (sym e ∙ last))) (sym (ap (block_on s.parent (length text)) is) ∙ h ∙ ap Fails size) in
    ap (block_on s.parent (length new)) (ap (lines at) (drop_before at text (13 ∷ 10 ∷ []) l) ∙ lines_ended at (drop at text) [] refl ∙ ap (λ ls. glue ls (ended place [])) is) ∙ header_to s.parent (length new) place (rest_of at (drop at text)) none

pub header_ends : (s : Setting) (text : List ℕ) (at : ℕ) → at < length text → begins_quoted (drop at text) ≡ false → begins_block s (drop at text) ≡ true → ends_with 13 (drop at text) ≡ false → no_feed (drop at text) ≡ true
    → scalar_at s text at ≡ Fails (length text) → scalar_at s (text ++ (13 ∷ 10 ∷ [])) at ≡ Stands [] (length (text ++ (13 ∷ 10 ∷ [])))
header_ends s text at l q b last one h =
    let block : block_scalar s text at ≡ Fails (length text) =
    sym (ap (λ r. cond r (quoted_scalar s text at) (cond (begins_block s (drop at text)) (block_scalar s text at) (plain_scalar s text at))) q ∙ ap (λ r. cond r (block_scalar s text at) (plain_scalar s text at)) b) ∙ h in
    kind_longer s text (13 ∷ 10 ∷ []) at (scalar_at s text at) (Stands [] (length (text ++ (13 ∷ 10 ∷ [])))) l
    (λ r g. absurd (true≢false (sym r ∙ q)))
    (λ r k g. header_text s text at (omega (arith, l)) last one block)
    (λ r k g. absurd (true≢false (sym b ∙ k))) refl
