-- Where a block scalar fails at the text's end, a longer text has one.
use Rattle.std.proofs.Common.{◌≡◌, ℕ, zero, suc, ◌+◌, ◌-◌, ◌<◌, ◌≤◌, ◌⊎◌, Bool, true, false, List, [], ◌∷◌, ◌++◌, length, drop, refl, sym, ap, inl, inr, ◌∙◌, arith, cond, subst, Option, Some, None, append-nil, length-append, length-drop}
use Rattle.std.specs.Prelude.{ℤ, nat_eq, nat_lt, ◌||◌, ◌&&◌}
use Rattle.std.proofs.lemmas.Bool.Decides.{nat_tests}
use Rattle.yaml_scalars.specs.Lines.{Line, Outcome, Stands, Fails, begins_with, ends_with, is_white, is_blank, is_mark, is_end, lead, indent, newlines}
use Rattle.yaml_scalars.specs.Plain.{above_of}
use Rattle.yaml_scalars.specs.Block.{Chomp, Clip, Strip, Keep, Last, Inner, Nothing, Wide, Indented, header_fault, return_behind, is_content, ending, content_more, blank_more, count_break, same, mark_len, may_end, shown, widest, inner_of, base_of, by_inner, by_digit, block_on}
use Rattle.yaml_laws.proofs.Longer.{glue, joint, rest_of, feed_of, last_line, ended, cut, IsRest, Ends, ends_last, IsScalar}
use Rattle.yaml_scalars.proofs.BlockLines.{moved, shown_le}
use Rattle.yaml_scalars.proofs.BlockStates.{more_out}
use Rattle.yaml_scalars.proofs.BlockScalars.{on_fault, on_lines, none_of, fault_of}
use Rattle.yaml_laws.proofs.BlockHeads.{cases, IsLate, return_ranges, return_alone, return_edge, head, head_faults, head_is}
use Rattle.yaml_laws.proofs.BlockShown.{blank_less, blank_not, mark_is, lead_ended, mark_ended, return_last}
use Rattle.yaml_laws.proofs.BlockLaw.{stands_not, fails_at, content_cases, over_blank, over_first, first, first_wide, first_in, shown_fits, head_of, head_fault, block_cases}

blank_all : (chomp : Chomp) (size : ℕ) (ls : List Line) (e : ℕ) → IsScalar (blank_more chomp size ls e)
blank_all chomp size [] e = (_, _, refl)
blank_all chomp size (l ∷ ls) e = by_blank (is_blank l.bytes) (blank_all chomp size ls (count_break l.broken e)) where
  by_blank : (b : Bool) → IsScalar (blank_more chomp size ls (count_break l.broken e)) → IsScalar (cond b (blank_more chomp size ls (count_break l.broken e)) (Stands (ending chomp None e) l.at))
  by_blank true h = h
  by_blank false h = (_, _, refl)

empty_content : (folded : Bool) (chomp : Chomp) (inner size at : ℕ) (text : List ℕ) (last : Option Last) (e : ℕ) → IsScalar (content_more folded chomp inner size (rest_of at [] ∷ []) text last e)
empty_content folded chomp inner size at text last e =
    content_cases folded chomp inner (rest_of at []) text last e
    (λ c. (_, _, more_out folded chomp inner size (rest_of at []) [] text last e c))
    (λ n c r. absurd (cc))
    (λ x y z c r g. (_, _, g size []))

empty_digit : (folded : Bool) (parent : ℤ) (chomp : Chomp) (size at : ℕ) (digit : Option ℕ) → IsScalar (by_digit folded parent chomp size digit (rest_of at [] ∷ []))
empty_digit folded parent chomp size at (Some d) = empty_content folded chomp (base_of parent + d) size at [] None 0
empty_digit folded parent chomp size at None = blank_all chomp size (rest_of at [] ∷ []) 0

pub late_of : (n : ℕ) (o : Option ℕ) (m : ℕ) → o ≡ Some m → n ≤ m → IsLate n o
late_of n o m e l = subst (λ o. IsLate n o) (sym e) l

content_returned : (folded : Bool) (chomp : Chomp) (inner size other place : ℕ) (r : Bool) (ks : List Line) (text : List ℕ) (last : Option Last) (e : ℕ) → Ends place r ks → content_more folded chomp inner size (cut ks place) text last e ≡ Fails (suc place) → IsScalar (content_more folded chomp inner other (glue ks (ended place [])) text last e)
content_returned folded chomp inner size other place r [] text last e w h = absurd w
content_returned folded chomp inner size other place r (l ∷ []) text last e (x, y, z) h =
    let old : Line = joint l (rest_of place (13 ∷ [])) in
    let new : Line = joint l (feed_of place) in
    let none : return_behind 0 l.bytes ≡ None = content_cases folded chomp inner old text last e
    (λ c. absurd (stands_not _ _ (suc place) (sym (more_out folded chomp inner size old [] text last e c) ∙ h)))
    (λ n c q. let i = fails_at (l.at + n) (suc place) (sym (returned old n c q) ∙ h) in return_alone 0 l.bytes (late_of (0 + length l.bytes + 1) (return_behind 0 (l.bytes ++ (13 ∷ []))) n q (omega (arith, i, x))))
    (λ u v k c q g. absurd (stands_not _ _ (suc place) (sym (g size []) ∙ h))) in
    content_cases folded chomp inner new text last e
    (λ c. (_, _, more_out folded chomp inner other new (last_line place ∷ []) text last e c))
    (λ n c q. absurd (let i : None ≡ Some n = sym none ∙ sym (ap (return_behind 0) (append-nil l.bytes)) ∙ q in cc))
    (λ u v k c q g. let s = empty_content folded chomp inner other (suc (suc place)) u v k in (s.0, s.1, g other (last_line place ∷ []) ∙ s.2)) where
      returned : (m : Line) (n : ℕ) → is_content inner m.bytes ≡ true → return_behind 0 m.bytes ≡ Some n → content_more folded chomp inner size (m ∷ []) text last e ≡ Fails (m.at + n)
      returned m n c q = rw (c, q)
content_returned folded chomp inner size other place r (l ∷ m ∷ ks) text last e (x, y, z) h =
    content_cases folded chomp inner l text last e
    (λ c. absurd (stands_not _ _ (suc place) (sym (more_out folded chomp inner size l (cut (m ∷ ks) place) text last e c) ∙ h)))
    (λ n c q. absurd (let i = fails_at (l.at + n) (suc place) (sym (returned n c q) ∙ h) in let j = (return_ranges 0 n l.bytes q).1 in omega (arith, i, j, x)))
    (λ u v k c q g. let s = content_returned folded chomp inner size other place r (m ∷ ks) u v k z (sym (g size (cut (m ∷ ks) place)) ∙ h) in (s.0, s.1, g other (glue (m ∷ ks) (ended place [])) ∙ s.2)) where
      returned : (n : ℕ) → is_content inner l.bytes ≡ true → return_behind 0 l.bytes ≡ Some n → content_more folded chomp inner size (l ∷ cut (m ∷ ks) place) text last e ≡ Fails (l.at + n)
      returned n c q = rw (c, q)

-- the indentation, with that line
pub nonblank_return : (f : List ℕ) → is_blank (f ++ (13 ∷ [])) ≡ false
nonblank_return f = blank_not (f ++ (13 ∷ [])) (let a = lead_ended is_white f [] refl in let b = blank_or f in let c = length-append f (13 ∷ []) in omega (arith, a, b, c)) where
  blank_or : (f : List ℕ) → lead is_white f ≤ length f
  blank_or [] = omega arith
  blank_or (b ∷ f) = by_byte (is_white b) (blank_or f) where
    by_byte : (q : Bool) → lead is_white f ≤ length f → cond q (suc (lead is_white f)) 0 ≤ suc (length f)
    by_byte true h = omega (arith, h)
    by_byte false h = omega arith

first_mark : (above w : ℕ) (l : Line) → is_mark l.bytes ≡ true → first above w l ≡ Nothing
first_mark above w l h = ap (λ q. cond (q || nat_lt (indent l.bytes) above) Nothing (cond (nat_lt (indent l.bytes) w) (Wide (l.at + shown l.bytes)) (Indented (indent l.bytes)))) h

pub first_same : (above w i : ℕ) (l m : Line) → is_mark m.bytes ≡ false → indent m.bytes ≡ indent l.bytes → first above w l ≡ Indented i → first above w m ≡ Indented i
first_same above w i l m n e h =
    let f = first_in above w i l h in
    ap (λ q. cond (q || nat_lt (indent m.bytes) above) Nothing (cond (nat_lt (indent m.bytes) w) (Wide (m.at + shown m.bytes)) (Indented (indent m.bytes)))) n
    ∙ ap (λ (k : ℕ). cond (nat_lt k above) Nothing (cond (nat_lt k w) (Wide (m.at + shown m.bytes)) (Indented k))) e
    ∙ ap (λ q. cond q Nothing (cond (nat_lt (indent l.bytes) w) (Wide (m.at + shown m.bytes)) (Indented (indent l.bytes)))) f.1
    ∙ ap (λ q. cond q (Wide (m.at + shown m.bytes)) (Indented (indent l.bytes))) f.2 ∙ ap Indented f.3

blank_ended : (above w place : ℕ) (l : Line) → is_blank l.bytes ≡ true → inner_of above w (joint l (feed_of place) ∷ last_line place ∷ []) ≡ Nothing
blank_ended above w place l b = over_blank above w (joint l (feed_of place)) (last_line place ∷ []) (ap is_blank (append-nil l.bytes) ∙ b)

mark_ends : (above w place : ℕ) (l : Line) → is_blank l.bytes ≡ false → is_mark l.bytes ≡ true → inner_of above w (joint l (feed_of place) ∷ last_line place ∷ []) ≡ Nothing
mark_ends above w place l b m = over_first above w (joint l (feed_of place)) (last_line place ∷ []) (ap is_blank (append-nil l.bytes) ∙ b) ∙ first_mark above w (joint l (feed_of place)) (ap is_mark (append-nil l.bytes) ∙ m)

inner_returned : (above w i place : ℕ) (r : Bool) (ks : List Line) → Ends place r ks → inner_of above w (cut ks place) ≡ Indented i → (inner_of above w (glue ks (ended place [])) ≡ Indented i) ⊎ (inner_of above w (glue ks (ended place [])) ≡ Nothing)
inner_returned above w i place r [] x h = absurd x
inner_returned above w i place r (l ∷ []) x h = cases (is_blank l.bytes) (λ b. inr (blank_ended above w place l b)) (λ b. cases (is_mark l.bytes) (λ m. inr (mark_ends above w place l b m)) (λ m. inl (same_indent b m))) where
  same_indent : is_blank l.bytes ≡ false → is_mark l.bytes ≡ false → inner_of above w (joint l (feed_of place) ∷ last_line place ∷ []) ≡ Indented i
  same_indent b m =
      let old : Line = joint l (rest_of place (13 ∷ [])) in
      over_first above w (joint l (feed_of place)) (last_line place ∷ []) (ap is_blank (append-nil l.bytes) ∙ b)
      ∙ first_same above w i old (joint l (feed_of place)) (ap is_mark (append-nil l.bytes) ∙ m) (ap indent (append-nil l.bytes) ∙ sym (lead_ended _ l.bytes [] refl)) (sym (over_first above w old [] (nonblank_return l.bytes)) ∙ h)
inner_returned above w i place r (l ∷ m ∷ ks) x h =
    cases (is_blank l.bytes)
    (λ b. elim (inner_returned above (widest w (indent l.bytes)) i place r (m ∷ ks) x.2 (sym (over_blank above w l (cut (m ∷ ks) place) b) ∙ h)) [
      | inl e ↦ inl (over_blank above w l (glue (m ∷ ks) (ended place [])) b ∙ e)
      | inr e ↦ inr (over_blank above w l (glue (m ∷ ks) (ended place [])) b ∙ e)
    ])
    (λ b. inl (over_first above w l (glue (m ∷ ks) (ended place [])) b ∙ sym (over_first above w l (cut (m ∷ ks) place) b) ∙ h))

mark_first : (f : List ℕ) → 0 < mark_len f → lead is_white f ≡ 0
mark_first [] h = refl
mark_first (b ∷ f) h = cases (nat_eq b 45 || nat_eq b 46) (λ e. let n : is_white b ≡ false = grind (arith, nat_tests, e) in ap (λ q. cond q (suc (lead is_white f)) 0) n) (λ e. absurd (let z : mark_len (b ∷ f) ≡ 0 = ap (λ q. cond q (suc (same b 2 f)) 0) e in omega (arith, h, z)))

pub shown_return : (f : List ℕ) → is_blank f ≡ false → shown (f ++ (13 ∷ [])) ≡ suc (length f) → is_mark f ≡ true
shown_return f b h =
    let white = lead_ended is_white f [] refl in
    let mark = mark_ended f [] in
    let fits = shown_le f in
    cases (begins_with 13 (drop n (f ++ (13 ∷ []))) && may_end (mark_len (f ++ (13 ∷ []))))
    (λ q. let e : suc n ≡ suc (length f) = sym (ap (λ q. cond q (suc n) n) q) ∙ h in whole (omega (arith, e, white, mark)) (ap may_end (sym mark) ∙ second (begins_with 13 (drop n (f ++ (13 ∷ [])))) (may_end (mark_len (f ++ (13 ∷ [])))) q))
    (λ q. let e : n ≡ suc (length f) = sym (ap (λ q. cond q (suc n) n) q) ∙ h in absurd (omega (arith, e, white, mark, fits))) where
      n : ℕ
      n = lead is_white (f ++ (13 ∷ [])) + mark_len (f ++ (13 ∷ []))

      second : (p q : Bool) → (p && q) ≡ true → q ≡ true
      second true q h = h
      second false q h = absurd (cc)

      whole : lead is_white f + mark_len f ≡ length f → may_end (mark_len f) ≡ true → is_mark f ≡ true
      whole e m =
          let less = blank_less f b in
          let some : 0 < mark_len f = omega (arith, e, less) in
          let none = mark_first f some in
          let three : nat_eq (mark_len f) 3 ≡ true = grind (arith, nat_tests, m, some) in
          let is3 : mark_len f ≡ 3 = grind (arith, nat_tests, three) in
          mark_is f ∙ ap (λ q. q && is_end (drop 3 f)) three ∙ end_of f (omega (arith, e, none, is3)) where
            end_of : (f : List ℕ) → length f ≡ 3 → is_end (drop 3 f) ≡ true
            end_of [] h = refl
            end_of (a ∷ []) h = refl
            end_of (a ∷ b ∷ []) h = refl
            end_of (a ∷ b ∷ c ∷ []) h = refl
            end_of (a ∷ b ∷ c ∷ d ∷ f) h = absurd (omega (arith, h))

wide_returned : (above w place : ℕ) (r : Bool) (ks : List Line) → Ends place r ks → inner_of above w (cut ks place) ≡ Wide (suc place) → inner_of above w (glue ks (ended place [])) ≡ Nothing
wide_returned above w place r [] x h = absurd x
wide_returned above w place r (l ∷ []) x h = cases (is_blank l.bytes) (blank_ended above w place l) (λ b.
    let old : Line = joint l (rest_of place (13 ∷ [])) in
    let f = (first_wide above w (suc place) old (sym (over_first above w old [] (nonblank_return l.bytes)) ∙ h)).3 in
    let y = x.0 in
    mark_ends above w place l b (shown_return l.bytes b (omega (arith, f, y))))
wide_returned above w place r (l ∷ m ∷ ks) x h =
    cases (is_blank l.bytes)
    (λ b. over_blank above w l (glue (m ∷ ks) (ended place [])) b ∙ wide_returned above (widest w (indent l.bytes)) place r (m ∷ ks) x.2 (sym (over_blank above w l (cut (m ∷ ks) place) b) ∙ h))
    (λ b. absurd (let f = (first_wide above w (suc place) l (sym (over_first above w l (cut (m ∷ ks) place) b) ∙ h)).3 in let s = shown_fits l.bytes in let y = x.0 in omega (arith, f, s, y)))

-- by the header's digit
nothing_stands : (folded : Bool) (parent : ℤ) (chomp : Chomp) (size : ℕ) (ls : List Line) → inner_of (above_of parent) 0 ls ≡ Nothing → IsScalar (by_digit folded parent chomp size None ls)
nothing_stands folded parent chomp size ls e = let s = blank_all chomp size ls 0 in (s.0, s.1, ap (λ o. by_inner folded chomp size o ls) e ∙ s.2)

digit_returned : (folded : Bool) (parent : ℤ) (chomp : Chomp) (size other place : ℕ) (r : Bool) (digit : Option ℕ) (ks : List Line) → Ends place r ks → by_digit folded parent chomp size digit (cut ks place) ≡ Fails (suc place) → IsScalar (by_digit folded parent chomp other digit (glue ks (ended place [])))
digit_returned folded parent chomp size other place r (Some d) ks x h = content_returned folded chomp (base_of parent + d) size other place r ks [] None 0 x h
digit_returned folded parent chomp size other place r None ks x h = by_in (inner_of (above_of parent) 0 (cut ks place)) refl h where
  new : List Line
  new = glue ks (ended place [])

  by_in : (o : Inner) → inner_of (above_of parent) 0 (cut ks place) ≡ o → by_inner folded chomp size o (cut ks place) ≡ Fails (suc place) → IsScalar (by_digit folded parent chomp other None new)
  by_in Nothing e h = let s = blank_all chomp size (cut ks place) 0 in absurd (stands_not s.0 s.1 (suc place) (sym s.2 ∙ h))
  by_in (Wide at) e h = nothing_stands folded parent chomp other new (wide_returned (above_of parent) 0 place r ks x (e ∙ ap Wide (fails_at at (suc place) h)))
  by_in (Indented i) e h = elim (inner_returned (above_of parent) 0 i place r ks x e) [
    | inl k ↦ (let s = content_returned folded chomp i size other place r ks [] None 0 x h in (s.0, s.1, ap (λ o. by_inner folded chomp other o new) k ∙ s.2))
    | inr k ↦ nothing_stands folded parent chomp other new k
  ]

-- a header without a fault and with a break
head_none : (at : ℕ) (xs : List ℕ) → head (suc at) (drop 1 xs) ≡ None → header_fault false 0 (head_of xs).rest ≡ None
head_none at xs h = none_of _ (head_of xs).rest (sym (head_is (suc at) (drop 1 xs)).0 ∙ h)

header_stands : (parent : ℤ) (other place : ℕ) (l : Line) → header_fault false 0 (head_of l.bytes).rest ≡ None → IsScalar (block_on parent other (joint l (feed_of place) ∷ last_line place ∷ []))
header_stands parent other place l h =
    let new : Line = joint l (feed_of place) in
    let s = empty_digit (begins_with 62 new.bytes) parent (head_of new.bytes).chomp other (suc (suc place)) (head_of new.bytes).digit in
    (s.0, s.1, on_lines parent other new (last_line place ∷ []) (head_of new.bytes) refl (ap (λ (t : List ℕ). header_fault false 0 (head_of t).rest) (append-nil l.bytes) ∙ h) refl ∙ s.2)

pub early : (parent : ℤ) (size p : ℕ) (l : Line) (ls : List Line) (n : ℕ) → header_fault false 0 (head_of l.bytes).rest ≡ Some n → block_on parent size (l ∷ ls) ≡ Fails p → p ≤ l.at + length l.bytes
early parent size p l ls n e h =
    let k = fails_at _ p (sym (on_fault parent size l ls (head_of l.bytes) n refl e) ∙ h) in
    let f = head_fault l.at n l.bytes e in
    let v = (head_faults.ranges (suc l.at) _ (drop 1 l.bytes) f.0).1 in
    let z = f.1 in
    let d = length-drop 1 l.bytes in
    omega (arith, k, v, z, d)

-- a header that a carriage return ends, and nothing behind it
pub header_returned : (parent : ℤ) (size place : ℕ) (r : Bool) (l : Line) → Ends place r (l ∷ []) → block_on parent size (cut (l ∷ []) place) ≡ Fails (suc place) → header_fault false 0 (head_of l.bytes).rest ≡ None
header_returned parent size place r l x h = by_bytes l.bytes refl where
  old : Line
  old = joint l (rest_of place (13 ∷ []))

  late : (c : ℕ) (f : List ℕ) → l.bytes ≡ c ∷ f → IsLate (suc l.at + length f + 1) (head (suc l.at) (f ++ (13 ∷ [])))
  late c f e =
      let same : drop 1 old.bytes ≡ f ++ (13 ∷ []) = ap (λ (t : List ℕ). drop 1 (t ++ (13 ∷ []))) e in
      let size_of = ap (λ (t : List ℕ). length t) e in
      let y = x.0 in
      block_cases old
      (λ n k. let i = head_fault l.at n old.bytes k in let j = fails_at _ (suc place) (sym (on_fault parent size old [] (head_of old.bytes) n refl k) ∙ h) in late_of (suc l.at + length f + 1) (head (suc l.at) (f ++ (13 ∷ []))) _ (ap (head (suc l.at)) (sym same) ∙ i.0) (omega (arith, j, y, size_of)))
      (λ k b. subst (λ o. IsLate (suc l.at + length f + 1) o) (sym (ap (head (suc l.at)) (sym same) ∙ none_back old.bytes k)) tt)
      (λ k b. absurd (let z : false ≡ true = b in cc)) where
        none_back : (xs : List ℕ) → header_fault false 0 (head_of xs).rest ≡ None → head (suc l.at) (drop 1 xs) ≡ None
        none_back xs k = (head_is (suc l.at) (drop 1 xs)).0 ∙ fault_of _ (head_of xs).rest ∙ ap (moved (suc l.at + (length (drop 1 xs) - length (head_of xs).rest))) k

  by_bytes : (t : List ℕ) → l.bytes ≡ t → header_fault false 0 (head_of l.bytes).rest ≡ None
  by_bytes [] e = ap (λ (t : List ℕ). header_fault false 0 (head_of t).rest) e
  by_bytes (c ∷ f) e = head_none l.at l.bytes (ap (λ (t : List ℕ). head (suc l.at) (drop 1 t)) e ∙ head_faults.last (suc l.at) f (late c f e))

pub block_returned : (parent : ℤ) (size other place : ℕ) (r : Bool) (ks : List Line) → Ends place r ks → block_on parent size (cut ks place) ≡ Fails (suc place) → IsScalar (block_on parent other (glue ks (ended place [])))
block_returned parent size other place r [] x h = absurd x
block_returned parent size other place r (l ∷ []) x h = header_stands parent other place l (header_returned parent size place r l x h)
block_returned parent size other place r (l ∷ m ∷ ks) (x, y, z) h =
    block_cases l
    (λ n e. absurd (let k = early parent size (suc place) l (cut (m ∷ ks) place) n e h in omega (arith, k, x)))
    (λ e b. absurd (let k : false ≡ true = sym b ∙ y in cc))
    (λ e b.
    let s = digit_returned (begins_with 62 l.bytes) parent (head_of l.bytes).chomp size other place r (head_of l.bytes).digit (m ∷ ks) z (sym (on_lines parent size l (cut (m ∷ ks) place) (head_of l.bytes) refl e b) ∙ h) in
    (s.0, s.1, on_lines parent other l (glue (m ∷ ks) (ended place [])) (head_of l.bytes) refl e b ∙ s.2))

-- without a carriage return at the end, no content fails there
pub content_not : (folded : Bool) (chomp : Chomp) (inner size most : ℕ) (ls : List Line) (text : List ℕ) (last : Option Last) (e : ℕ) → Ends size false ls → content_more folded chomp inner most ls text last e ≡ Fails size → ⊥
content_not folded chomp inner size most [] text last e x h = x
content_not folded chomp inner size most (l ∷ []) text last e (x, y, z) h =
    content_cases folded chomp inner l text last e
    (λ c. stands_not _ _ size (sym (more_out folded chomp inner most l [] text last e c) ∙ h))
    (λ n c q. let i = fails_at (l.at + n) size (sym (returned n c q) ∙ h) in let n_is : n ≡ 0 + length l.bytes = omega (arith, i, x) in let w : false ≡ true = z (return_edge 0 l.bytes (q ∙ ap (λ (k : ℕ). Some k) n_is)) in cc)
    (λ u v k c q g. stands_not _ _ size (sym (g most []) ∙ h)) where
      returned : (n : ℕ) → is_content inner l.bytes ≡ true → return_behind 0 l.bytes ≡ Some n → content_more folded chomp inner most (l ∷ []) text last e ≡ Fails (l.at + n)
      returned n c q = rw (c, q)
content_not folded chomp inner size most (l ∷ m ∷ ls) text last e (x, y, z) h =
    content_cases folded chomp inner l text last e
    (λ c. stands_not _ _ size (sym (more_out folded chomp inner most l (m ∷ ls) text last e c) ∙ h))
    (λ n c q. absurd (let i = fails_at (l.at + n) size (sym (returned n c q) ∙ h) in let j = (return_ranges 0 n l.bytes q).1 in omega (arith, i, j, x)))
    (λ u v k c q g. content_not folded chomp inner size most (m ∷ ls) u v k z (sym (g most (m ∷ ls)) ∙ h)) where
      returned : (n : ℕ) → is_content inner l.bytes ≡ true → return_behind 0 l.bytes ≡ Some n → content_more folded chomp inner most (l ∷ m ∷ ls) text last e ≡ Fails (l.at + n)
      returned n c q = rw (c, q)

-- a line that is a part of a mark, and what is missing of it
abbrev pub IsPart : List ℕ → Type 0
IsPart f = (d : ℕ) × ((nat_eq d 45 || nat_eq d 46) ≡ true) × ((f ≡ d ∷ []) ⊎ (f ≡ d ∷ d ∷ []))

same_le : (a n : ℕ) (bs : List ℕ) → same a n bs ≤ n
same_le a zero bs = omega arith
same_le a (suc n) [] = omega arith
same_le a (suc n) (b ∷ bs) = by_byte (nat_eq b a) (same_le a n bs) where
  by_byte : (q : Bool) → same a n bs ≤ n → cond q (suc (same a n bs)) 0 ≤ suc n
  by_byte true h = omega (arith, h)
  by_byte false h = omega arith

mark_part : (f : List ℕ) → is_mark f ≡ false → 0 < length f → mark_len f ≡ length f → IsPart f
mark_part [] m l e = absurd (omega (arith, l))
mark_part (a ∷ []) m l e = cases (nat_eq a 45 || nat_eq a 46) (λ d. (a, d, inl refl)) (λ d. absurd (let z : mark_len (a ∷ []) ≡ 0 = ap (λ q. cond q (suc (same a 2 [])) 0) d in omega (arith, e, z)))
mark_part (a ∷ b ∷ []) m l e = cases (nat_eq a 45 || nat_eq a 46) (λ d. cases (nat_eq b a) (λ s. (a, d, inr (let i : b ≡ a = grind (arith, nat_tests, s) in ap (λ (k : ℕ). a ∷ k ∷ []) i))) (λ s. absurd (let z : mark_len (a ∷ b ∷ []) ≡ 1 = ap (λ q. cond q (suc (same a 2 (b ∷ []))) 0) d ∙ ap (λ q. suc (cond q (suc (same a 1 [])) 0)) s in omega (arith, e, z)))) (λ d. absurd (let z : mark_len (a ∷ b ∷ []) ≡ 0 = ap (λ q. cond q (suc (same a 2 (b ∷ []))) 0) d in omega (arith, e, z)))
mark_part (a ∷ b ∷ c ∷ []) m l e = absurd (let z : true ≡ false = sym (mark_is (a ∷ b ∷ c ∷ []) ∙ ap (λ n. nat_eq n 3 && is_end []) e) ∙ m in cc)
mark_part (a ∷ b ∷ c ∷ d ∷ f) m l e = absurd (let z : mark_len (a ∷ b ∷ c ∷ d ∷ f) ≤ 3 = by_first (nat_eq a 45 || nat_eq a 46) in omega (arith, e, z)) where
  by_first : (q : Bool) → cond q (suc (same a 2 (b ∷ c ∷ d ∷ f))) 0 ≤ 3
  by_first true = let h = same_le a 2 (b ∷ c ∷ d ∷ f) in omega (arith, h)
  by_first false = omega arith

pub shown_part : (f : List ℕ) → is_blank f ≡ false → is_mark f ≡ false → (ends_with 13 f ≡ true → false ≡ true) → shown f ≡ length f → IsPart f
shown_part f b m r h =
    cases (begins_with 13 (drop n f) && may_end (mark_len f))
    (λ q. absurd (let e : suc n ≡ length f = sym (ap (λ q. cond q (suc n) n) q) ∙ h in
    let a = return_last f [] n e (ap (λ t. begins_with 13 (drop n t)) (append-nil f) ∙ one (begins_with 13 (drop n f)) (may_end (mark_len f)) q) in
    let w = r (ap (ends_with 13) a.1 ∙ ends_last a.0) in cc))
    (λ q. let e : n ≡ length f = sym (ap (λ q. cond q (suc n) n) q) ∙ h in
    let less = blank_less f b in
    let none = mark_first f (omega (arith, e, less)) in
    mark_part f m (omega (arith, less)) (omega (arith, e, none))) where
      n : ℕ
      n = lead is_white f + mark_len f

      one : (p q : Bool) → (p && q) ≡ true → p ≡ true
      one true q h = refl
      one false q h = absurd (cc)

part_longer : (f : List ℕ) → IsPart f → (v : List ℕ) × IsRest v × (is_blank (f ++ v) ≡ false) × (is_mark (f ++ v) ≡ true)
part_longer f (d, h, inl e) = (d ∷ d ∷ [], (grind (arith, nat_tests, h), grind (arith, nat_tests, h)), ap (λ t. is_blank (t ++ (d ∷ d ∷ []))) e ∙ grind (arith, nat_tests, h), ap (λ t. is_mark (t ++ (d ∷ d ∷ []))) e ∙ grind (arith, nat_tests, h))
part_longer f (d, h, inr e) = (d ∷ [], (grind (arith, nat_tests, h), grind (arith, nat_tests, h)), ap (λ t. is_blank (t ++ (d ∷ []))) e ∙ grind (arith, nat_tests, h), ap (λ t. is_mark (t ++ (d ∷ []))) e ∙ grind (arith, nat_tests, h))

wide_longer : (above w size : ℕ) (ls : List Line) → Ends size false ls → inner_of above w ls ≡ Wide size → (v : List ℕ) × IsRest v × (inner_of above w (glue ls (rest_of size v ∷ [])) ≡ Nothing)
wide_longer above w size [] x h = absurd x
wide_longer above w size (l ∷ []) (x, y, z) h = cases (is_blank l.bytes) (λ b. absurd (let e : Nothing ≡ Wide size = sym (over_blank above w l [] b) ∙ h in cc)) (λ b.
    let f = first_wide above w size l (sym (over_first above w l [] b) ∙ h) in
    let s = f.3 in
    let p = part_longer l.bytes (shown_part l.bytes b f.0 z (omega (arith, s, x))) in
    (p.0, p.1, over_first above w (joint l (rest_of size p.0)) [] p.2 ∙ first_mark above w (joint l (rest_of size p.0)) p.3))
wide_longer above w size (l ∷ m ∷ ls) (x, y, z) h =
    cases (is_blank l.bytes)
    (λ b. let s = wide_longer above (widest w (indent l.bytes)) size (m ∷ ls) z (sym (over_blank above w l (m ∷ ls) b) ∙ h) in (s.0, s.1, over_blank above w l (glue (m ∷ ls) (rest_of size s.0 ∷ [])) b ∙ s.2))
    (λ b. absurd (let f = (first_wide above w size l (sym (over_first above w l (m ∷ ls) b) ∙ h)).3 in let s = shown_fits l.bytes in omega (arith, f, s, x)))

abbrev pub LongerLines : (ℕ → List Line → Outcome) → ℕ → List Line → Type 0
LongerLines f size ls = (v : List ℕ) × IsRest v × ((other : ℕ) → IsScalar (f other (glue ls (rest_of size v ∷ []))))

digit_longer : (folded : Bool) (parent : ℤ) (chomp : Chomp) (size most : ℕ) (digit : Option ℕ) (ls : List Line) → Ends size false ls → by_digit folded parent chomp most digit ls ≡ Fails size → LongerLines (λ n ms. by_digit folded parent chomp n digit ms) size ls
digit_longer folded parent chomp size most (Some d) ls x h = absurd (content_not folded chomp (base_of parent + d) size most ls [] None 0 x h)
digit_longer folded parent chomp size most None ls x h = by_in (inner_of (above_of parent) 0 ls) refl h where
  by_in : (o : Inner) → inner_of (above_of parent) 0 ls ≡ o → by_inner folded chomp most o ls ≡ Fails size → LongerLines (λ n ms. by_digit folded parent chomp n None ms) size ls
  by_in Nothing e h = let s = blank_all chomp most ls 0 in absurd (stands_not s.0 s.1 size (sym s.2 ∙ h))
  by_in (Wide at) e h = let v = wide_longer (above_of parent) 0 size ls x (e ∙ ap Wide (fails_at at size h)) in (v.0, v.1, λ other. nothing_stands folded parent chomp other (glue ls (rest_of size v.0 ∷ [])) v.2)
  by_in (Indented i) e h = absurd (content_not folded chomp i size most ls [] None 0 x h)

-- a header that the text ends
pub header_ended : (parent : ℤ) (size most : ℕ) (l : Line) → Ends size false (l ∷ []) → block_on parent most (l ∷ []) ≡ Fails size → header_fault false 0 (head_of l.bytes).rest ≡ None
header_ended parent size most l (x, y, z) h =
    block_cases l
    (λ n e. absurd (let i = head_fault l.at n l.bytes e in let j = fails_at _ size (sym (on_fault parent most l [] (head_of l.bytes) n refl e) ∙ h) in edge n i.0 j i.1))
    (λ e b. e)
    (λ e b. absurd (let k : false ≡ true = sym y ∙ b in cc)) where
      edge : (n : ℕ) → head (suc l.at) (drop 1 l.bytes) ≡ Some (l.at + (length l.bytes - length (head_of l.bytes).rest) + n) → l.at + (length l.bytes - length (head_of l.bytes).rest) + n ≡ size → 0 < length l.bytes → ⊥
      edge n i j k =
          let d = length-drop 1 l.bytes in
          let e : size ≡ suc l.at + length (drop 1 l.bytes) = omega (arith, x, d, k) in
          let w = head_faults.edge (suc l.at) (drop 1 l.bytes) (i ∙ ap (λ (m : ℕ). Some m) (j ∙ e)) in
          let v : false ≡ true = z (behind_first l.bytes w) in cc where
            behind_first : (xs : List ℕ) → ends_with 13 (drop 1 xs) ≡ true → ends_with 13 xs ≡ true
            behind_first [] h = h
            behind_first (b ∷ []) h = absurd (cc)
            behind_first (b ∷ c ∷ xs) h = h

-- by more bytes, or by a break behind the header
pub block_longer : (parent : ℤ) (size most : ℕ) (ls : List Line) → Ends size false ls → block_on parent most ls ≡ Fails size → LongerLines (block_on parent) size ls ⊎ ((other : ℕ) → IsScalar (block_on parent other (glue ls (ended size []))))
block_longer parent size most [] x h = absurd x
block_longer parent size most (l ∷ []) x h = inr (λ other. header_stands parent other size l (header_ended parent size most l x h))
block_longer parent size most (l ∷ m ∷ ls) (x, y, z) h =
    block_cases l
    (λ n e. absurd (let k = early parent most size l (m ∷ ls) n e h in omega (arith, k, x)))
    (λ e b. absurd (let k : false ≡ true = sym b ∙ y in cc))
    (λ e b.
    let s = digit_longer (begins_with 62 l.bytes) parent (head_of l.bytes).chomp size most (head_of l.bytes).digit (m ∷ ls) z (sym (on_lines parent most l (m ∷ ls) (head_of l.bytes) refl e b) ∙ h) in
    inl (s.0, s.1, λ other. let t = s.2 other in (t.0, t.1, on_lines parent other l (glue (m ∷ ls) (rest_of size s.0 ∷ [])) (head_of l.bytes) refl e b ∙ t.2)))

-- ---- below a wide blank line

-- the last of the lines begins at a place and has these bytes
abbrev pub IsLastLine : ℕ → List ℕ → List Line → Type 0
IsLastLine p f [] = ⊥
IsLastLine p f (l ∷ []) = (l.at ≡ p) × (l.bytes ≡ f)
IsLastLine p f (l ∷ m ∷ ls) = IsLastLine p f (m ∷ ls)

-- one or two dashes or dots, and those that a mark lacks
abbrev pub IsTorn : List ℕ → List ℕ → Type 0
IsTorn f v = (d : ℕ) × ((nat_eq d 45 || nat_eq d 46) ≡ true) × (((f ≡ d ∷ []) × (v ≡ d ∷ d ∷ [])) ⊎ ((f ≡ d ∷ d ∷ []) × (v ≡ d ∷ [])))

-- with those, a scalar of nothing but blank lines ends before the mark, and its text is nothing but newlines
abbrev pub EndsTorn : (ℕ → List Line → Outcome) → ℕ → List Line → Type 0
EndsTorn F size ls = (p : ℕ) × (f v : List ℕ) × IsLastLine p f ls × IsTorn f v × ((other : ℕ) → (k : ℕ) × (F other (glue ls (rest_of size v ∷ [])) ≡ Stands (newlines k) p))

torn_part : (f : List ℕ) → IsPart f → (v : List ℕ) × IsTorn f v × (is_blank (f ++ v) ≡ false) × (is_mark (f ++ v) ≡ true)
torn_part f (d, h, inl e) = (d ∷ d ∷ [], (d, h, inl (e, refl)), ap (λ t. is_blank (t ++ (d ∷ d ∷ []))) e ∙ grind (arith, nat_tests, h), ap (λ t. is_mark (t ++ (d ∷ d ∷ []))) e ∙ grind (arith, nat_tests, h))
torn_part f (d, h, inr e) = (d ∷ [], (d, h, inr (e, refl)), ap (λ t. is_blank (t ++ (d ∷ []))) e ∙ grind (arith, nat_tests, h), ap (λ t. is_mark (t ++ (d ∷ []))) e ∙ grind (arith, nat_tests, h))

-- the lines, and where the blank ones end
abbrev IsTornLines : ℕ → ℕ → ℕ → List Line → Type 0
IsTornLines above w size ls =
    (p : ℕ) × (f v : List ℕ) × IsLastLine p f ls × IsTorn f v × (inner_of above w (glue ls (rest_of size v ∷ [])) ≡ Nothing)
    × ((chomp : Chomp) (other e : ℕ) → (k : ℕ) × (blank_more chomp other (glue ls (rest_of size v ∷ [])) e ≡ Stands (newlines k) p))

ending_lines : (chomp : Chomp) (e : ℕ) → (k : ℕ) × (ending chomp None e ≡ newlines k)
ending_lines Strip e = (0, refl)
ending_lines Clip e = (0, refl)
ending_lines Keep e = (e, refl)

torn_lines : (above w size : ℕ) (ls : List Line) → Ends size false ls → inner_of above w ls ≡ Wide size → IsTornLines above w size ls
torn_lines above w size [] x h = absurd x
torn_lines above w size (l ∷ []) (x, y, z) h = cases (is_blank l.bytes) (λ b. absurd (let e : Nothing ≡ Wide size = sym (over_blank above w l [] b) ∙ h in cc)) (λ b.
    let f = first_wide above w size l (sym (over_first above w l [] b) ∙ h) in
    let s = f.3 in
    let p = torn_part l.bytes (shown_part l.bytes b f.0 z (omega (arith, s, x))) in (
      l.at,
      l.bytes,
      p.0,
      (refl, refl),
      p.1,
      over_first above w (joint l (rest_of size p.0)) [] p.2 ∙ first_mark above w (joint l (rest_of size p.0)) p.3,
      (λ chomp other e. (let k = ending_lines chomp e in (k.0, ap (λ q. cond q (blank_more chomp other [] (count_break false e)) (Stands (ending chomp None e) l.at)) p.2 ∙ ap (λ t. Stands t l.at) k.1))),
    ))
torn_lines above w size (l ∷ m ∷ ls) (x, y, z) h =
    cases (is_blank l.bytes)
    (λ b.
    let s = torn_lines above (widest w (indent l.bytes)) size (m ∷ ls) z (sym (over_blank above w l (m ∷ ls) b) ∙ h) in (
      s.0,
      s.1,
      s.2,
      s.3,
      s.4,
      over_blank above w l (glue (m ∷ ls) (rest_of size s.2 ∷ [])) b ∙ s.5,
      (λ chomp other e.
          let t = s.6 chomp other (count_break l.broken e) in
          (t.0, ap (λ q. cond q (blank_more chomp other (glue (m ∷ ls) (rest_of size s.2 ∷ [])) (count_break l.broken e)) (Stands (ending chomp None e) l.at)) b ∙ t.1)),
    ))
    (λ b. absurd (let f = (first_wide above w size l (sym (over_first above w l (m ∷ ls) b) ∙ h)).3 in let s = shown_fits l.bytes in omega (arith, f, s, x)))

digit_torn : (folded : Bool) (parent : ℤ) (chomp : Chomp) (size most : ℕ) (digit : Option ℕ) (ls : List Line) → Ends size false ls → by_digit folded parent chomp most digit ls ≡ Fails size → EndsTorn (λ n ms. by_digit folded parent chomp n digit ms) size ls
digit_torn folded parent chomp size most (Some d) ls x h = absurd (content_not folded chomp (base_of parent + d) size most ls [] None 0 x h)
digit_torn folded parent chomp size most None ls x h = by_in (inner_of (above_of parent) 0 ls) refl h where
  by_in : (o : Inner) → inner_of (above_of parent) 0 ls ≡ o → by_inner folded chomp most o ls ≡ Fails size → EndsTorn (λ n ms. by_digit folded parent chomp n None ms) size ls
  by_in Nothing e h = let s = blank_all chomp most ls 0 in absurd (stands_not s.0 s.1 size (sym s.2 ∙ h))
  by_in (Wide at) e h =
      let v = torn_lines (above_of parent) 0 size ls x (e ∙ ap Wide (fails_at at size h)) in
      (v.0, v.1, v.2, v.3, v.4, λ other. let t = v.6 chomp other 0 in (t.0, ap (λ o. by_inner folded chomp other o (glue ls (rest_of size v.2 ∷ []))) v.5 ∙ t.1))
  by_in (Indented i) e h = absurd (content_not folded chomp i size most ls [] None 0 x h)

-- where a block scalar fails at the text's end below its header, and no carriage return ends the text, the last line is one or two dashes or dots, which with those that lack end the scalar
pub block_torn : (parent : ℤ) (size most : ℕ) (l m : Line) (ls : List Line) → Ends size false (l ∷ m ∷ ls) → block_on parent most (l ∷ m ∷ ls) ≡ Fails size → EndsTorn (block_on parent) size (l ∷ m ∷ ls)
block_torn parent size most l m ls (x, y, z) h =
    block_cases l
    (λ n e. absurd (let k = early parent most size l (m ∷ ls) n e h in omega (arith, k, x)))
    (λ e b. absurd (let k : false ≡ true = sym b ∙ y in cc))
    (λ e b.
    let s = digit_torn (begins_with 62 l.bytes) parent (head_of l.bytes).chomp size most (head_of l.bytes).digit (m ∷ ls) z (sym (on_lines parent most l (m ∷ ls) (head_of l.bytes) refl e b) ∙ h) in
    (s.0, s.1, s.2, s.3, s.4, λ other. let t = s.5 other in (t.0, on_lines parent other l (glue (m ∷ ls) (rest_of size s.2 ∷ [])) (head_of l.bytes) refl e b ∙ t.1)))
