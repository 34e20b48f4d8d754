-- What a place has ahead is the same in each text that agrees with this one through the byte that shows it.
use Rattle.std.proofs.Common.{◌≡◌, ℕ, zero, suc, ◌+◌, ◌<◌, ◌≤◌, inl, inr, Bool, true, false, ◌||◌, ◌&&◌, not, cond, nat_eq, nat_lt, arith, List, [], ◌∷◌, ◌++◌, drop, length, refl, sym, ap, ◌∙◌, subst, true≢false, append_assoc, length-append}
use Rattle.std.proofs.lemmas.Bool.Decides.{nat_tests}
use Rattle.yaml_scalars.specs.Lines.{Line, lines, begins_with, begins_break, is_white, is_blank, lead, indent, past_white, is_mark, is_end}
use Rattle.yaml_scalars.specs.Plain.{is_unsafe}
use Rattle.yaml_scalars.specs.Block.{shown, widest}
use Rattle.yaml_scalars.specs.Scalar.{is_first_column}
use Rattle.yaml_laws.specs.code.Agreement.{end_shown}
use Rattle.yaml_scalars.specs.code.Walk.{line_at}
use Rattle.yaml_laws.proofs.Agree.{Later, SplitAt, Shares, texts_share, drop_before, drop_size}
use Rattle.yaml_laws.proofs.LineEnds.{AreOf, lines_of, mark_full, ends_alike}
use Rattle.yaml_laws.proofs.PlainStays.{Parted, parted}
use Rattle.yaml_laws.proofs.QuotedLaw.{lead_all, lead_some}
use Rattle.yaml_laws.proofs.ScalarLaw.{column_same}
use Rattle.yaml_grammar.specs.declared.ahead.Token.TheVariants.{Dash, Tag, NoTag, Opens, Closes, Comma, Point}
use Rattle.yaml_grammar.specs.Ahead.{is_name, begins_letter, ends_tag, tag_token, tab_token, other_token, block_token, token_of, token_at, mark_of, has_return, is_passed, content_ahead, line_ahead, rest_ahead, ahead}
use Rattle.yaml_grammar.specs.code.AheadSeen.{token_shown, first_return, content_shown, line_seen, rest_seen, ahead_seen}

-- ---- a token

lead_two : (q : ℕ → Bool) (g u v : List ℕ) → lead q (g ++ u) < length g → lead q (g ++ v) ≡ lead q (g ++ u)
lead_two q [] u v l = absurd (omega (arith, l))
lead_two q (c ∷ g) u v l = by_byte (q c) l (λ m. lead_two q g u v m) where
  by_byte : (w : Bool) → cond w (suc (lead q (g ++ u))) 0 < suc (length g) → (lead q (g ++ u) < length g → lead q (g ++ v) ≡ lead q (g ++ u)) → cond w (suc (lead q (g ++ v))) 0 ≡ cond w (suc (lead q (g ++ u))) 0
  by_byte true l r = ap suc (r (omega (arith, l)))
  by_byte false l r = refl

ends_two : (flow : Bool) (n : ℕ) (g u v : List ℕ) → n < length g → ends_tag flow (drop n (g ++ v)) ≡ ends_tag flow (drop n (g ++ u))
ends_two flow n [] u v l = absurd (omega (arith, l))
ends_two flow zero (c ∷ g) u v l = refl
ends_two flow (suc n) (c ∷ g) u v l = ends_two flow n g u v (omega (arith, l))

letter_two : (g u v : List ℕ) → 0 < length g → begins_letter (g ++ v) ≡ begins_letter (g ++ u)
letter_two [] u v l = absurd (omega (arith, l))
letter_two (c ∷ g) u v l = refl

tag_two : (flow : Bool) (g u v : List ℕ) → lead is_name (g ++ u) < length g → tag_token flow (g ++ v) ≡ tag_token flow (g ++ u)
tag_two flow g u v l =
    let n = lead_two is_name g u v l in
    ap (λ k. cond (begins_letter (g ++ v) && ends_tag flow (drop k (g ++ v))) (Tag k) NoTag) n
    ∙ ap (λ q. cond (q && ends_tag flow (drop (lead is_name (g ++ u)) (g ++ v))) (Tag (lead is_name (g ++ u))) NoTag) (letter_two g u v (omega (arith, l)))
    ∙ ap (λ q. cond (begins_letter (g ++ u) && q) (Tag (lead is_name (g ++ u))) NoTag) (ends_two flow (lead is_name (g ++ u)) g u v l)

end_two : (g u v : List ℕ) → 0 < length g → is_end (g ++ v) ≡ is_end (g ++ u)
end_two [] u v l = absurd (omega (arith, l))
end_two (c ∷ g) u v l = refl

unsafe_two : (g u v : List ℕ) → 0 < length g → is_unsafe true (g ++ v) ≡ is_unsafe true (g ++ u)
unsafe_two [] u v l = absurd (omega (arith, l))
unsafe_two (c ∷ g) u v l = refl

module _ (flow : Bool) (c : ℕ) (g u v : List ℕ) (near : token_shown (c ∷ (g ++ u)) ≤ length g) where
  dash_some : nat_eq c 45 ≡ true → 0 < length g
  dash_some h = by_name (nat_eq c 33) (grind (arith, nat_tests, h)) near where
    by_name : (q : Bool) → q ≡ false → cond q (suc (lead is_name (g ++ u))) (cond (nat_eq c 45 || (nat_eq c 58 || nat_eq c 13)) 1 0) ≤ length g → 0 < length g
    by_name true e n = absurd (true≢false e)
    by_name false e n = by_dash (nat_eq c 45) h n where
      by_dash : (q : Bool) → q ≡ true → cond (q || (nat_eq c 58 || nat_eq c 13)) 1 0 ≤ length g → 0 < length g
      by_dash true e n = omega (arith, n)
      by_dash false e n = absurd (true≢false (sym e))

  colon_some : nat_eq c 58 ≡ true → 0 < length g
  colon_some h = by_name (nat_eq c 33) (grind (arith, nat_tests, h)) near where
    by_name : (q : Bool) → q ≡ false → cond q (suc (lead is_name (g ++ u))) (cond (nat_eq c 45 || (nat_eq c 58 || nat_eq c 13)) 1 0) ≤ length g → 0 < length g
    by_name true e n = absurd (true≢false e)
    by_name false e n = by_colon (nat_eq c 45) (nat_eq c 58) h n where
      by_colon : (p q : Bool) → q ≡ true → cond (p || (q || nat_eq c 13)) 1 0 ≤ length g → 0 < length g
      by_colon true q e n = omega (arith, n)
      by_colon false true e n = omega (arith, n)
      by_colon false false e n = absurd (true≢false (sym e))

  name_some : nat_eq c 33 ≡ true → lead is_name (g ++ u) < length g
  name_some h = by_name (nat_eq c 33) h near where
    by_name : (q : Bool) → q ≡ true → cond q (suc (lead is_name (g ++ u))) (cond (nat_eq c 45 || (nat_eq c 58 || nat_eq c 13)) 1 0) ≤ length g → lead is_name (g ++ u) < length g
    by_name true e n = omega (arith, n)
    by_name false e n = absurd (true≢false (sym e))

  tag_or : (fl : Bool) → cond (nat_eq c 33) (tag_token fl (g ++ v)) (other_token c) ≡ cond (nat_eq c 33) (tag_token fl (g ++ u)) (other_token c)
  tag_or fl = by_name (nat_eq c 33) (λ h. tag_two fl g u v (name_some h)) where
    by_name : (q : Bool) → (q ≡ true → tag_token fl (g ++ v) ≡ tag_token fl (g ++ u)) → cond q (tag_token fl (g ++ v)) (other_token c) ≡ cond q (tag_token fl (g ++ u)) (other_token c)
    by_name true r = r refl
    by_name false r = refl

  and_end : (q : Bool) → (q ≡ true → 0 < length g) → (q && is_end (g ++ v)) ≡ (q && is_end (g ++ u))
  and_end true r = end_two g u v (r refl)
  and_end false r = refl

  block_two : block_token c (g ++ v) ≡ block_token c (g ++ u)
  block_two =
      ap (λ q. cond q Dash (cond (nat_eq c 58 && is_end (g ++ v)) (Point true) (cond (nat_eq c 33) (tag_token false (g ++ v)) (other_token c)))) (and_end (nat_eq c 45) dash_some)
      ∙ ap (λ q. cond (nat_eq c 45 && is_end (g ++ u)) Dash (cond q (Point true) (cond (nat_eq c 33) (tag_token false (g ++ v)) (other_token c)))) (and_end (nat_eq c 58) colon_some)
      ∙ ap (λ t. cond (nat_eq c 45 && is_end (g ++ u)) Dash (cond (nat_eq c 58 && is_end (g ++ u)) (Point true) t)) (tag_or false)

  point_or : cond (nat_eq c 58) (Point (is_unsafe true (g ++ v))) (cond (nat_eq c 33) (tag_token true (g ++ v)) (other_token c)) ≡ cond (nat_eq c 58) (Point (is_unsafe true (g ++ u))) (cond (nat_eq c 33) (tag_token true (g ++ u)) (other_token c))
  point_or = by_colon (nat_eq c 58) colon_some where
    by_colon : (q : Bool) → (q ≡ true → 0 < length g) → cond q (Point (is_unsafe true (g ++ v))) (cond (nat_eq c 33) (tag_token true (g ++ v)) (other_token c)) ≡ cond q (Point (is_unsafe true (g ++ u))) (cond (nat_eq c 33) (tag_token true (g ++ u)) (other_token c))
    by_colon true r = ap Point (unsafe_two g u v (r refl))
    by_colon false r = tag_or true

  token_two : token_of flow (c ∷ (g ++ v)) ≡ token_of flow (c ∷ (g ++ u))
  token_two =
      ap (λ t. cond (nat_eq c 91) (Opens false) (cond (nat_eq c 123) (Opens true) (cond (not flow) t (cond (nat_eq c 93) (Closes false) (cond (nat_eq c 125) (Closes true) (cond (nat_eq c 44) Comma (cond (nat_eq c 58) (Point (is_unsafe true (g ++ v))) (cond (nat_eq c 33) (tag_token true (g ++ v)) (other_token c))))))))) block_two
      ∙ ap (λ t. cond (nat_eq c 91) (Opens false) (cond (nat_eq c 123) (Opens true) (cond (not flow) (block_token c (g ++ u)) (cond (nat_eq c 93) (Closes false) (cond (nat_eq c 125) (Closes true) (cond (nat_eq c 44) Comma t)))))) point_or

-- a comment's mark is no token that goes on
comment_shown : (c : ℕ) (xs : List ℕ) → nat_eq c 35 ≡ true → token_shown (c ∷ xs) ≡ 0
comment_shown c xs h = let e : c ≡ 35 = grind (arith, nat_tests, h) in ap (λ c. token_shown (c ∷ xs)) e

-- ---- comments

return_front : (f u v : List ℕ) → has_return (f ++ u) ≡ true → first_return (f ++ u) ≤ length f → has_return (f ++ v) ≡ true
return_front [] u v h l = by_first u h l where
  by_first : (u : List ℕ) → has_return u ≡ true → first_return u ≤ 0 → has_return v ≡ true
  by_first [] h l = absurd (true≢false (sym h))
  by_first (c ∷ u) h l = by_byte (nat_eq c 13) l where
    by_byte : (q : Bool) → cond q 1 (suc (first_return u)) ≤ 0 → has_return v ≡ true
    by_byte true l = absurd (omega (arith, l))
    by_byte false l = absurd (omega (arith, l))
return_front (c ∷ f) u v h l = by_byte (nat_eq c 13) h l (λ a b. return_front f u v a b) where
  by_byte : (q : Bool) → (q || has_return (f ++ u)) ≡ true → cond q 1 (suc (first_return (f ++ u))) ≤ suc (length f) → (has_return (f ++ u) ≡ true → first_return (f ++ u) ≤ length f → has_return (f ++ v) ≡ true) → (q || has_return (f ++ v)) ≡ true
  by_byte true h l r = refl
  by_byte false h l r = r h (omega (arith, l))

lead_return : (xs : List ℕ) → lead is_white xs ≤ first_return xs
lead_return [] = omega arith
lead_return (x ∷ xs) = by_byte (is_white x) refl (lead_return xs) where
  by_byte : (q : Bool) → is_white x ≡ q → lead is_white xs ≤ first_return xs → cond q (suc (lead is_white xs)) 0 ≤ cond (nat_eq x 13) 1 (suc (first_return xs))
  by_byte true e r = let n : nat_eq x 13 ≡ false = grind (arith, nat_tests, e) in by_return (nat_eq x 13) n where
    by_return : (q : Bool) → q ≡ false → suc (lead is_white xs) ≤ cond q 1 (suc (first_return xs))
    by_return true i = absurd (true≢false i)
    by_return false i = omega (arith, r)
  by_byte false e r = omega arith

pub lead_content : (fresh : Bool) (xs : List ℕ) → lead is_white xs ≤ content_shown fresh xs
lead_content fresh xs = by_comment ((fresh || nat_lt 0 (lead is_white xs)) && begins_with 35 (past_white xs)) where
  by_comment : (q : Bool) → lead is_white xs ≤ cond q (first_return xs) (lead is_white xs + token_shown (past_white xs))
  by_comment true = lead_return xs
  by_comment false = omega arith

-- ---- a line that the place parts, which is not passed over

module _ (fresh : Bool) (g : List ℕ) (b : ℕ) (l m u v : List ℕ) (el : l ≡ g ++ (b ∷ u)) (em : m ≡ g ++ (b ∷ v)) (near : content_shown fresh l ≤ length g) (stays : is_passed fresh l ≡ false) where
  front : List ℕ
  front = g ++ (b ∷ [])

  long : length front ≡ length g + 1
  unfolding front
  long = length-append g (b ∷ [])

  in_l : l ≡ front ++ u
  unfolding front
  in_l = el ∙ sym (append_assoc g (b ∷ []) u)

  in_m : m ≡ front ++ v
  unfolding front
  in_m = em ∙ sym (append_assoc g (b ∷ []) v)

  full : is_blank front ≡ false
  full = by_blank (is_blank front) refl where
    by_blank : (q : Bool) → is_blank front ≡ q → is_blank front ≡ false
    by_blank false e = e
    by_blank true e =
        let a = lead_all front u e in
        let c = lead_content fresh l in
        let d = ap (lead is_white) in_l in
        let z = long in
        absurd (omega (arith, a, c, d, z, near))

  white : ℕ
  white = lead is_white front

  white_l : lead is_white l ≡ white
  unfolding white
  white_l = ap (lead is_white) in_l ∙ (lead_some front u full).0

  pub white_same : lead is_white m ≡ lead is_white l
  unfolding white
  white_same = ap (lead is_white) in_m ∙ (lead_some front v full).0 ∙ sym white_l

  blank_m : is_blank m ≡ false
  blank_m = ap is_blank in_m ∙ (lead_some front v full).2

  blank_l : is_blank l ≡ false
  blank_l = ap is_blank in_l ∙ (lead_some front u full).2

  -- the first byte behind the white space
  first : (c : ℕ) × (f : List ℕ) × (past_white l ≡ c ∷ (f ++ u)) × (past_white m ≡ c ∷ (f ++ v)) × (lead is_white l + suc (length f) ≡ length g + 1)
  unfolding white
  first = by_rest (drop white front) refl where
    low : white ≤ length front
    low = (lead_some front u full).1

    by_rest : (r : List ℕ) → drop white front ≡ r → (c : ℕ) × (f : List ℕ) × (past_white l ≡ c ∷ (f ++ u)) × (past_white m ≡ c ∷ (f ++ v)) × (lead is_white l + suc (length f) ≡ length g + 1)
    by_rest [] e =
        let a = lead_content fresh l in
        let s = drop_size white front low in
        let z : length (drop white front) ≡ 0 = ap (λ (t : List ℕ). length t) e in
        let w = white_l in
        let y = long in
        absurd (omega (arith, a, near, s, z, w, y))
    by_rest (c ∷ f) e =
        let s = drop_size white front low in
        let z : length (drop white front) ≡ suc (length f) = ap (λ (t : List ℕ). length t) e in
        let w = white_l in
        let y = long in (
          c,
          f,
          ap (λ k. drop k l) white_l ∙ ap (drop white) in_l ∙ drop_before white front u low ∙ ap (λ t. t ++ u) e,
          ap (λ k. drop k m) (white_same ∙ white_l) ∙ ap (drop white) in_m ∙ drop_before white front v low ∙ ap (λ t. t ++ v) e,
          omega (arith, s, z, w, y),
        )

  pub token_same : (flow : Bool) → token_of flow (past_white m) ≡ token_of flow (past_white l)
  token_same flow =
      let h = first in
      let t : token_shown (h.0 ∷ (h.1 ++ u)) ≤ length h.1 = by_comment ((fresh || nat_lt 0 (lead is_white l)) && begins_with 35 (past_white l)) refl near in
      ap (token_of flow) h.3 ∙ token_two flow h.0 h.1 u v t ∙ sym (ap (token_of flow) h.2) where
        second : (p q : Bool) → (p && q) ≡ true → q ≡ true
        second true q e = e
        second false q e = absurd (true≢false (sym e))

        by_comment : (q : Bool) → ((fresh || nat_lt 0 (lead is_white l)) && begins_with 35 (past_white l)) ≡ q → cond q (first_return l) (lead is_white l + token_shown (past_white l)) ≤ length g → token_shown (first.0 ∷ (first.1 ++ u)) ≤ length first.1
        by_comment true e n =
            let c = sym (ap (begins_with 35) first.2) ∙ second (fresh || nat_lt 0 (lead is_white l)) (begins_with 35 (past_white l)) e in
            let z = comment_shown first.0 (first.1 ++ u) c in
            omega (arith, z)
        by_comment false e n =
            let z = ap token_shown first.2 in
            let w = first.4 in
            omega (arith, z, w, n)

  pub tab_same : tab_token (past_white m) ≡ tab_token (past_white l)
  tab_same = let h = first in ap tab_token h.3 ∙ sym (ap tab_token h.2)

  pub passed_same : is_passed fresh m ≡ false
  passed_same =
      ap (λ q. q || ((fresh || nat_lt 0 (lead is_white m)) && (begins_with 35 (past_white m) && not (has_return m)))) blank_m
      ∙ ap (λ k. (fresh || nat_lt 0 k) && (begins_with 35 (past_white m) && not (has_return m))) white_same
      ∙ ap (λ q. (fresh || nat_lt 0 (lead is_white l)) && (q && not (has_return m))) mark
      ∙ by_tests (fresh || nat_lt 0 (lead is_white l)) (begins_with 35 (past_white l)) refl refl where
        mark : begins_with 35 (past_white m) ≡ begins_with 35 (past_white l)
        mark = let h = first in ap (begins_with 35) h.3 ∙ sym (ap (begins_with 35) h.2)

        kept : ((fresh || nat_lt 0 (lead is_white l)) && (begins_with 35 (past_white l) && not (has_return l))) ≡ false
        kept = sym (ap (λ q. q || ((fresh || nat_lt 0 (lead is_white l)) && (begins_with 35 (past_white l) && not (has_return l)))) blank_l) ∙ stays

        not_false : (q : Bool) → not q ≡ false → q ≡ true
        not_false true e = refl
        not_false false e = absurd (true≢false e)

        by_tests : (p q : Bool) → (fresh || nat_lt 0 (lead is_white l)) ≡ p → begins_with 35 (past_white l) ≡ q → (p && (q && not (has_return m))) ≡ false
        by_tests false q i j = refl
        by_tests true false i j = refl
        by_tests true true i j =
            let r : has_return l ≡ true = not_false (has_return l) (sym (ap (λ p. p && (begins_with 35 (past_white l) && not (has_return l))) i ∙ ap (λ q. q && not (has_return l)) j) ∙ kept) in
            let n : first_return l ≤ length g = subst (λ q. cond q (first_return l) (lead is_white l + token_shown (past_white l)) ≤ length g) (ap (λ p. p && begins_with 35 (past_white l)) i ∙ j) near in
            let y = long in
            let z = ap first_return in_l in
            ap not (ap has_return in_m ∙ return_front front u v (sym (ap has_return in_l) ∙ r) (omega (arith, n, z, y)))

-- ---- the lines

pub widest_first : (a b n : ℕ) → widest a b ≤ n → (a ≤ n) × (b ≤ n)
widest_first a b n h = by_less (nat_lt a b) (λ e. grind (arith, nat_tests, e)) (λ e. grind (arith, nat_tests, e)) h where
  by_less : (q : Bool) → (q ≡ true → a < b) → (q ≡ false → b ≤ a) → cond q b a ≤ n → (a ≤ n) × (b ≤ n)
  by_less true f g h = let l = f refl in (omega (arith, l, h), h)
  by_less false f g h = let l = g refl in (h, omega (arith, l, h))

pub line_later : (size p : ℕ) (ls : List Line) → p < size → Later p ls → p < line_seen size ls
line_later size p [] z w = z
line_later size p (l ∷ ls) z w = by_tests (is_mark l.bytes) (is_passed true l.bytes) (line_later size p ls z w.1) where
  by_tests : (q r : Bool) → p < line_seen size ls → p < cond q (l.at + 4) (cond r (line_seen size ls) (l.at + widest (shown l.bytes) (content_shown true l.bytes)))
  by_tests true r h = let a = w.0 in omega (arith, a)
  by_tests false true h = h
  by_tests false false h = let a = w.0 in omega (arith, a)

module _ (before rest other : List ℕ) (b : ℕ) (feed : begins_break b rest ≡ begins_break b other) (flow : Bool) where
  abbrev old : List ℕ
  old = before ++ (b ∷ rest)

  abbrev new : List ℕ
  new = before ++ (b ∷ other)

  abbrev place : ℕ
  place = length before

  pub lines_part : (at : ℕ) (l m : List ℕ) → at ≤ place → l ≡ line_at (drop at old) → m ≡ line_at (drop at new) → Parted (drop at before) b l m
  lines_part at l m low e f =
      let p = parted (drop at before) b rest other feed in
      let p2 = subst (λ z. Parted (drop at before) b z (line_at (drop at before ++ (b ∷ other)))) (sym (e ∙ ap line_at (drop_before at before (b ∷ rest) low))) p in
      subst (λ z. Parted (drop at before) b l z) (sym (f ∙ ap line_at (drop_before at before (b ∷ other) low))) p2

  module _ (size size2 : ℕ) (within : place < size) where
    abbrev Goes : List Line → List Line → Type 0
    Goes ls ms = line_seen size ls ≤ place → line_ahead flow size2 ms ≡ line_ahead flow size ls

    late : (ls ms : List Line) → Later place ls → Goes ls ms
    late ls ms w near = let c = line_later size place ls within w in absurd (omega (arith, c, near))

    -- the same bytes
    same_line : (at : ℕ) (l : List ℕ) (ls ms : List Line) → Goes ls ms → (q r : Bool) → cond q (at + 4) (cond r (line_seen size ls) (at + widest (shown l) (content_shown true l))) ≤ place
        → cond q (token_at (mark_of l) true 0 at) (cond r (line_ahead flow size2 ms) (content_ahead flow at l)) ≡ cond q (token_at (mark_of l) true 0 at) (cond r (line_ahead flow size ls) (content_ahead flow at l))
    same_line at l ls ms goes true r near = refl
    same_line at l ls ms goes false true near = goes near
    same_line at l ls ms goes false false near = refl

    parted_line : (at : ℕ) (g l m : List ℕ) (ls ms : List Line) → at + length g ≡ place → Later place ls → Parted g b l m → cond (is_mark l) (at + 4) (cond (is_passed true l) (line_seen size ls) (at + widest (shown l) (content_shown true l))) ≤ place
        → cond (is_mark m) (token_at (mark_of m) true 0 at) (cond (is_passed true m) (line_ahead flow size2 ms) (content_ahead flow at m)) ≡ cond (is_mark l) (token_at (mark_of l) true 0 at) (cond (is_passed true l) (line_ahead flow size ls) (content_ahead flow at l))
    parted_line at g l m ls ms far w (inl q) near =
        subst (λ z. cond (is_mark z) (token_at (mark_of z) true 0 at) (cond (is_passed true z) (line_ahead flow size2 ms) (content_ahead flow at z)) ≡ cond (is_mark l) (token_at (mark_of l) true 0 at) (cond (is_passed true l) (line_ahead flow size ls) (content_ahead flow at l))) q.0
        (same_line at l ls ms (late ls ms w) (is_mark l) (is_passed true l) near)
    parted_line at g l m ls ms far w (inr (u, v, el, em)) near = by_tests (is_mark l) (is_passed true l) refl refl near where
      gone : line_seen size ls ≤ place → ⊥
      gone n = let c = line_later size place ls within w in omega (arith, c, n)

      split : SplitAt place at l m
      split = (g, b ∷ u, b ∷ v, el, em, far, inl (b, u, v, refl, refl))

      unblank : is_passed true l ≡ false → is_blank l ≡ false
      unblank e = by_blank (is_blank l) ((true || nat_lt 0 (lead is_white l)) && (begins_with 35 (past_white l) && not (has_return l))) e where
        by_blank : (p q : Bool) → (p || q) ≡ false → p ≡ false
        by_blank true q e = absurd (true≢false e)
        by_blank false q e = refl

      by_tests : (q r : Bool) → is_mark l ≡ q → is_passed true l ≡ r → cond q (at + 4) (cond r (line_seen size ls) (at + widest (shown l) (content_shown true l))) ≤ place
          → cond (is_mark m) (token_at (mark_of m) true 0 at) (cond (is_passed true m) (line_ahead flow size2 ms) (content_ahead flow at m)) ≡ cond q (token_at (mark_of l) true 0 at) (cond r (line_ahead flow size ls) (content_ahead flow at l))
      by_tests true r i j near = mark_line r i near
        where
          first_two : (g : List ℕ) → l ≡ g ++ (b ∷ u) → m ≡ g ++ (b ∷ v) → 4 ≤ length g → mark_of m ≡ mark_of l
          first_two [] e f n = absurd (omega (arith, n))
          first_two (c ∷ g) e f n = ap mark_of f ∙ sym (ap mark_of e)

          mark_line : (r : Bool) → is_mark l ≡ true → at + 4 ≤ place
              → cond (is_mark m) (token_at (mark_of m) true 0 at) (cond (is_passed true m) (line_ahead flow size2 ms) (content_ahead flow at m)) ≡ token_at (mark_of l) true 0 at
          mark_line r i near =
              let four : end_shown l ≡ 4 = ap (λ q. cond q 4 (shown l)) i in
              let a = ends_alike place at l m split (mark_full l i) (omega (arith, four, near)) in
              ap (λ q. cond q (token_at (mark_of m) true 0 at) (cond (is_passed true m) (line_ahead flow size2 ms) (content_ahead flow at m))) (a.mark ∙ i)
              ∙ ap (λ t. token_at t true 0 at) (first_two g el em (omega (arith, near, far)))
      by_tests false true i j near = absurd (gone near)
      by_tests false false i j near =
          let n = widest_first (shown l) (content_shown true l) (length g) (omega (arith, near, far)) in
          let some : end_shown l ≡ shown l = ap (λ q. cond q 4 (shown l)) i in
          let n0 = n.0 in
          let a = ends_alike place at l m split (unblank j) (omega (arith, some, n0, far)) in
          ap (λ q. cond q (token_at (mark_of m) true 0 at) (cond (is_passed true m) (line_ahead flow size2 ms) (content_ahead flow at m))) (a.mark ∙ i)
          ∙ ap (λ q. cond q (line_ahead flow size2 ms) (content_ahead flow at m)) (passed_same true g b l m u v el em n.1 j)
          ∙ content_two (a.alike i).indented (white_same true g b l m u v el em n.1 j) (tab_same true g b l m u v el em n.1 j) (token_same true g b l m u v el em n.1 j flow) where
            content_two : indent m ≡ indent l → lead is_white m ≡ lead is_white l → tab_token (past_white m) ≡ tab_token (past_white l) → token_of flow (past_white m) ≡ token_of flow (past_white l) → content_ahead flow at m ≡ content_ahead flow at l
            content_two i w t k =
                ap (λ n. cond (not flow && nat_lt n (lead is_white m)) (token_at (tab_token (past_white m)) true n (at + n)) (token_at (token_of flow (past_white m)) true (lead is_white m) (at + lead is_white m))) i
                ∙ ap (λ t. cond (not flow && nat_lt (indent l) (lead is_white m)) (token_at t true (indent l) (at + indent l)) (token_at (token_of flow (past_white m)) true (lead is_white m) (at + lead is_white m))) t
                ∙ ap (λ t. cond (not flow && nat_lt (indent l) (lead is_white m)) (token_at (tab_token (past_white l)) true (indent l) (at + indent l)) (token_at t true (lead is_white m) (at + lead is_white m))) k
                ∙ ap (λ n. cond (not flow && nat_lt (indent l) n) (token_at (tab_token (past_white l)) true (indent l) (at + indent l)) (token_at (token_of flow (past_white l)) true n (at + n))) w

    line_stays : (ls ms : List Line) → AreOf old ls → AreOf new ms → Shares place ls ms → Goes ls ms
    line_stays [] ms o n sh near = absurd sh
    line_stays (l ∷ ls) [] o n sh near = absurd sh
    line_stays (l ∷ ls) (m ∷ ms) o n (inl q) near =
        subst (λ (z : Line). line_ahead flow size2 (z ∷ ms) ≡ line_ahead flow size (l ∷ ls)) q.0 (same_line l.at l.bytes ls ms (line_stays ls ms o.1 n.1 q.1) (is_mark l.bytes) (is_passed true l.bytes) near)
    line_stays (l ∷ ls) (m ∷ ms) o n (inr (inr q)) near =
        subst (λ (z : Line). line_ahead flow size2 (z ∷ ms) ≡ line_ahead flow size (l ∷ ls)) q.0 (same_line l.at l.bytes ls ms (late ls ms q.2) (is_mark l.bytes) (is_passed true l.bytes) near)
    line_stays (l ∷ ls) (m ∷ ms) o n (inr (inl q)) near =
        let far = q.1.5 in
        let low : l.at ≤ place = omega (arith, far) in
        let part = lines_part l.at l.bytes m.bytes low o.0 (n.0 ∙ ap (λ i. line_at (drop i new)) (sym q.0)) in
        ap (λ i. cond (is_mark m.bytes) (token_at (mark_of m.bytes) true 0 i) (cond (is_passed true m.bytes) (line_ahead flow size2 ms) (content_ahead flow i m.bytes))) (sym q.0)
        ∙ parted_line l.at (drop l.at before) l.bytes m.bytes ls ms (drop_size l.at before low) q.2 part near

    -- inside a line
    same_rest : (at : ℕ) (l : List ℕ) (ls ms : List Line) → Goes ls ms → (r : Bool) → cond r (line_seen size ls) (at + content_shown false l) ≤ place
        → cond r (line_ahead flow size2 ms) (token_at (token_of flow (past_white l)) false (lead is_white l) (at + lead is_white l)) ≡ cond r (line_ahead flow size ls) (token_at (token_of flow (past_white l)) false (lead is_white l) (at + lead is_white l))
    same_rest at l ls ms goes true near = goes near
    same_rest at l ls ms goes false near = refl

    parted_rest : (at : ℕ) (g l m : List ℕ) (ls ms : List Line) → at + length g ≡ place → Later place ls → Parted g b l m → cond (is_passed false l) (line_seen size ls) (at + content_shown false l) ≤ place
        → cond (is_passed false m) (line_ahead flow size2 ms) (token_at (token_of flow (past_white m)) false (lead is_white m) (at + lead is_white m)) ≡ cond (is_passed false l) (line_ahead flow size ls) (token_at (token_of flow (past_white l)) false (lead is_white l) (at + lead is_white l))
    parted_rest at g l m ls ms far w (inl q) near =
        subst (λ z. cond (is_passed false z) (line_ahead flow size2 ms) (token_at (token_of flow (past_white z)) false (lead is_white z) (at + lead is_white z)) ≡ cond (is_passed false l) (line_ahead flow size ls) (token_at (token_of flow (past_white l)) false (lead is_white l) (at + lead is_white l))) q.0
        (same_rest at l ls ms (late ls ms w) (is_passed false l) near)
    parted_rest at g l m ls ms far w (inr (u, v, el, em)) near = by_test (is_passed false l) refl near where
      by_test : (r : Bool) → is_passed false l ≡ r → cond r (line_seen size ls) (at + content_shown false l) ≤ place
          → cond (is_passed false m) (line_ahead flow size2 ms) (token_at (token_of flow (past_white m)) false (lead is_white m) (at + lead is_white m)) ≡ cond r (line_ahead flow size ls) (token_at (token_of flow (past_white l)) false (lead is_white l) (at + lead is_white l))
      by_test true j near = absurd (let c = line_later size place ls within w in omega (arith, c, near))
      by_test false j near =
          let n : content_shown false l ≤ length g = omega (arith, near, far) in
          ap (λ q. cond q (line_ahead flow size2 ms) (token_at (token_of flow (past_white m)) false (lead is_white m) (at + lead is_white m))) (passed_same false g b l m u v el em n j)
          ∙ ap (λ t. token_at t false (lead is_white m) (at + lead is_white m)) (token_same false g b l m u v el em n j flow)
          ∙ ap (λ k. token_at (token_of flow (past_white l)) false k (at + k)) (white_same false g b l m u v el em n j)

    rest_stays : (ls ms : List Line) → AreOf old ls → AreOf new ms → Shares place ls ms → rest_seen size ls ≤ place → rest_ahead flow size2 ms ≡ rest_ahead flow size ls
    rest_stays [] ms o n sh near = absurd sh
    rest_stays (l ∷ ls) [] o n sh near = absurd sh
    rest_stays (l ∷ ls) (m ∷ ms) o n (inl q) near =
        subst (λ (z : Line). rest_ahead flow size2 (z ∷ ms) ≡ rest_ahead flow size (l ∷ ls)) q.0 (same_rest l.at l.bytes ls ms (line_stays ls ms o.1 n.1 q.1) (is_passed false l.bytes) near)
    rest_stays (l ∷ ls) (m ∷ ms) o n (inr (inr q)) near =
        subst (λ (z : Line). rest_ahead flow size2 (z ∷ ms) ≡ rest_ahead flow size (l ∷ ls)) q.0 (same_rest l.at l.bytes ls ms (late ls ms q.2) (is_passed false l.bytes) near)
    rest_stays (l ∷ ls) (m ∷ ms) o n (inr (inl q)) near =
        let far = q.1.5 in
        let low : l.at ≤ place = omega (arith, far) in
        let part = lines_part l.at l.bytes m.bytes low o.0 (n.0 ∙ ap (λ i. line_at (drop i new)) (sym q.0)) in
        ap (λ i. cond (is_passed false m.bytes) (line_ahead flow size2 ms) (token_at (token_of flow (past_white m.bytes)) false (lead is_white m.bytes) (i + lead is_white m.bytes))) (sym q.0)
        ∙ parted_rest l.at (drop l.at before) l.bytes m.bytes ls ms (drop_size l.at before low) q.2 part near

  pub ahead_stays : (i : ℕ) → i ≤ place → ahead_seen old i ≤ place → ahead new flow i ≡ ahead old flow i
  ahead_stays i low near = ap (λ q. cond q (line_ahead flow (length new) (lines i (drop i new))) (rest_ahead flow (length new) (lines i (drop i new)))) (sym (column_same before b rest other i low)) ∙ by_column (is_first_column old i) near where
    within : place < length old
    within = omega (arith, length-append before (b ∷ rest))

    by_column : (q : Bool) → cond q (line_seen (length old) (lines i (drop i old))) (rest_seen (length old) (lines i (drop i old))) ≤ place
        → cond q (line_ahead flow (length new) (lines i (drop i new))) (rest_ahead flow (length new) (lines i (drop i new))) ≡ cond q (line_ahead flow (length old) (lines i (drop i old))) (rest_ahead flow (length old) (lines i (drop i old)))
    by_column true near = line_stays (length old) (length new) within (lines i (drop i old)) (lines i (drop i new)) (lines_of old i) (lines_of new i) (texts_share before b rest other i low) near
    by_column false near = rest_stays (length old) (length new) within (lines i (drop i old)) (lines i (drop i new)) (lines_of old i) (lines_of new i) (texts_share before b rest other i low) near
