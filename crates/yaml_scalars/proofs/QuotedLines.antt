-- The lines of a quoted scalar below its first.
use Rattle.std.proofs.Common.{◌≡◌, ℕ, zero, suc, ◌+◌, ◌-◌, ◌<◌, ◌≤◌, ◌⊎◌, Bool, true, false, List, [], ◌∷◌, ◌++◌, length, drop, get_or, refl, sym, ap, ap₂, inl, inr, ◌∙◌, arith, cond, length-drop}
use Rattle.std.specs.Prelude.{nat_eq, nat_lt, ◌||◌, ◌&&◌}
use Rattle.std.proofs.lemmas.Bool.Decides.{nat_tests}
use Rattle.std.proofs.lemmas.List.{drop-drop, get_or-drop}
use Rattle.yaml_scalars.specs.Lines.{Outcome, Fails, Documents, begins_with, is_white, is_blank, is_mark, is_cut_mark, is_end, lead, past_white, each, lines}
use Rattle.yaml_scalars.specs.Quoted.{line_part, behind_part, quoted_more, gap}
use Rattle.yaml_scalars.specs.code.QuotedSteps.{from, past, below, lines_below}
use Rattle.yaml_scalars.specs.code.Walk.{line_at, has_break, behind}
use Rattle.yaml_scalars.proofs.Places.{lines_are, line_drop, behind_drop, lead_le}

-- a text without a break is its line
feed_ahead : (xs : List ℕ) → begins_with 10 xs ≡ true → has_break xs ≡ true
feed_ahead [] h = absurd (cc)
feed_ahead (x ∷ xs) h = ap (λ q. q || has_break xs) h

broken_or_whole : (xs : List ℕ) → ((has_break xs ≡ true) × (length (line_at xs) < length xs)) ⊎ ((has_break xs ≡ false) × (length (line_at xs) ≡ length xs))
broken_or_whole [] = inr (refl, refl)
broken_or_whole (x ∷ xs) = by_break (nat_eq x 10) (nat_eq x 13) (begins_with 10 xs) (λ h. feed_ahead xs h) (broken_or_whole xs) where
  by_break : (p q r : Bool) → (r ≡ true → has_break xs ≡ true) → ((has_break xs ≡ true) × (length (line_at xs) < length xs)) ⊎ ((has_break xs ≡ false) × (length (line_at xs) ≡ length xs))
      → (((p || has_break xs) ≡ true) × (length (cond (p || (q && r)) [] (x ∷ line_at xs)) < suc (length xs))) ⊎ (((p || has_break xs) ≡ false) × (length (cond (p || (q && r)) [] (x ∷ line_at xs)) ≡ suc (length xs)))
  by_break true q r f h = inl (refl, omega arith)
  by_break false true true f h = inl (f refl, omega arith)
  by_break false true false f (inl (e, l)) = inl (e, omega arith)
  by_break false true false f (inr (e, l)) = inr (e, omega arith)
  by_break false false r f (inl (e, l)) = inl (e, omega arith)
  by_break false false r f (inr (e, l)) = inr (e, omega arith)

mark_long : (xs : List ℕ) → is_mark xs ≡ true → 3 ≤ length xs
mark_long [] h = absurd (cc)
mark_long (a ∷ []) h = absurd (cc)
mark_long (a ∷ b ∷ []) h = absurd (cc)
mark_long (a ∷ b ∷ c ∷ xs) h = omega arith

-- behind a mark's three bytes comes something
pub mark_followed : (bytes : List ℕ) (line : ℕ) → is_mark (line_at (drop line bytes)) ≡ true → nat_lt 3 (length bytes - line) ≡ (is_mark (line_at (drop line bytes)) && (has_break (drop line bytes) || nat_lt 3 (length (line_at (drop line bytes)))))
mark_followed bytes line h =
    let xs = drop line bytes in
    let three = mark_long (line_at xs) h in
    let size : length bytes - line ≡ length xs = sym (length-drop line bytes) in
    let same : nat_lt 3 (length xs) ≡ (has_break xs || nat_lt 3 (length (line_at xs))) = elim (broken_or_whole xs) [
      | inl w ↦ let l : nat_lt 3 (length xs) ≡ true = more (length xs) (omega (arith, three, w.1)) in l ∙ sym (ap (λ q. q || nat_lt 3 (length (line_at xs))) w.0)
      | inr w ↦ ap (λ n. nat_lt 3 n) (sym w.1) ∙ sym (ap (λ q. q || nat_lt 3 (length (line_at xs))) w.0)
    ] in
    ap (λ n. nat_lt 3 n) size ∙ same ∙ sym (ap (λ q. q && (has_break xs || nat_lt 3 (length (line_at xs)))) h) where
      more : (n : ℕ) → 3 < n → nat_lt 3 n ≡ true
      more n l = grind (arith, nat_tests)

white_no_mark : (a : ℕ) → is_white a ≡ true → (nat_eq a 45 || nat_eq a 46) ≡ false
white_no_mark a h = grind (arith, nat_tests)

-- a blank line is no mark
blank_no_mark : (xs : List ℕ) → is_blank xs ≡ true → is_mark xs ≡ false
blank_no_mark [] h = refl
blank_no_mark (a ∷ []) h = refl
blank_no_mark (a ∷ b ∷ []) h = refl
blank_no_mark (a ∷ b ∷ c ∷ xs) h = by_white (is_white a) h (λ e. white_no_mark a e) where
  by_white : (q : Bool) → cond q (each is_white (b ∷ c ∷ xs)) false ≡ true → (q ≡ true → (nat_eq a 45 || nat_eq a 46) ≡ false) → ((nat_eq a 45 || nat_eq a 46) && (nat_eq a b && (nat_eq a c && is_end xs))) ≡ false
  by_white true e f = ap (λ q. q && (nat_eq a b && (nat_eq a c && is_end xs))) (f refl)
  by_white false e f = absurd (cc)

blank_no_cut : (xs : List ℕ) → is_blank xs ≡ true → is_cut_mark xs ≡ false
blank_no_cut [] h = refl
blank_no_cut (a ∷ []) h = refl
blank_no_cut (a ∷ b ∷ []) h = refl
blank_no_cut (a ∷ b ∷ c ∷ xs) h = by_white (is_white a) h (λ e. white_no_mark a e) where
  by_white : (q : Bool) → cond q (each is_white (b ∷ c ∷ xs)) false ≡ true → (q ≡ true → (nat_eq a 45 || nat_eq a 46) ≡ false) → ((nat_eq a 45 || nat_eq a 46) && (nat_eq a b && (nat_eq a c && begins_with 13 xs))) ≡ false
  by_white true e f = ap (λ q. q && (nat_eq a b && (nat_eq a c && begins_with 13 xs))) (f refl)
  by_white false e f = absurd (cc)

module _ (quote : ℕ) (bytes : List ℕ) (line : ℕ) (text : List ℕ) (joined : Bool) (k : ℕ) where
  starts : Bool
  starts = is_mark (line_at (drop line bytes)) && (has_break (drop line bytes) || nat_lt 3 (length (line_at (drop line bytes))))

  passed : Outcome
  passed = quoted_more quote (length bytes) (behind line (drop line bytes)) text joined (suc k)

  added : Outcome
  added = behind_part (line_part quote (line + lead is_white (line_at (drop line bytes))) 0 (text ++ gap joined k) (length (text ++ gap joined k)) (past_white (line_at (drop line bytes)))) (λ j t. quoted_more quote (length bytes) (behind line (drop line bytes)) t j 0)

  below_is : below quote bytes line text joined k ≡ cond starts (Documents line) (cond (is_cut_mark (line_at (drop line bytes))) (Fails (line + 3)) (cond (is_blank (line_at (drop line bytes))) passed added))
  unfolding below starts passed added
  below_is = ap (λ ls. quoted_more quote (length bytes) ls text joined k) (lines_are line (drop line bytes))

  no_start : is_mark (line_at (drop line bytes)) ≡ false → starts ≡ false
  unfolding starts
  no_start h = ap (λ q. q && (has_break (drop line bytes) || nat_lt 3 (length (line_at (drop line bytes))))) h

  blank_is : is_blank (line_at (drop line bytes)) ≡ true → below quote bytes line text joined k ≡ passed
  blank_is h =
      below_is ∙ ap (λ q. cond q (Documents line) (cond (is_cut_mark (line_at (drop line bytes))) (Fails (line + 3)) (cond (is_blank (line_at (drop line bytes))) passed added))) (no_start (blank_no_mark (line_at (drop line bytes)) h))
      ∙ ap (λ q. cond q (Fails (line + 3)) (cond (is_blank (line_at (drop line bytes))) passed added)) (blank_no_cut (line_at (drop line bytes)) h) ∙ ap (λ q. cond q passed added) h

  -- a blank line is passed over
  pub below_blank : (next : ℕ) → is_blank (line_at (drop line bytes)) ≡ true → behind line (drop line bytes) ≡ lines next (drop next bytes) → below quote bytes line text joined k ≡ below quote bytes next text joined (k + 1)
  unfolding below passed
  below_blank next h e =
      let n : suc k ≡ k + 1 = omega arith in
      blank_is h ∙ ap₂ (λ ls m. quoted_more quote (length bytes) ls text joined m) e n

  -- with none below it the text is too short
  pub below_end : is_blank (line_at (drop line bytes)) ≡ true → behind line (drop line bytes) ≡ [] → below quote bytes line text joined k ≡ Fails (length bytes)
  unfolding passed
  below_end h e = blank_is h ∙ ap (λ ls. quoted_more quote (length bytes) ls text joined (suc k)) e

  -- a mark begins a document
  pub below_mark : (is_mark (line_at (drop line bytes)) && (has_break (drop line bytes) || nat_lt 3 (length (line_at (drop line bytes))))) ≡ true → below quote bytes line text joined k ≡ Documents line
  unfolding starts
  below_mark h = below_is ∙ ap (λ q. cond q (Documents line) (cond (is_cut_mark (line_at (drop line bytes))) (Fails (line + 3)) (cond (is_blank (line_at (drop line bytes))) passed added))) h

  -- a carriage return behind the bytes of one shows its fault
  pub below_cut : (is_mark (line_at (drop line bytes)) && (has_break (drop line bytes) || nat_lt 3 (length (line_at (drop line bytes))))) ≡ false → is_cut_mark (line_at (drop line bytes)) ≡ true → below quote bytes line text joined k ≡ Fails (line + 3)
  unfolding starts
  below_cut h c = below_is ∙ ap (λ q. cond q (Documents line) (cond (is_cut_mark (line_at (drop line bytes))) (Fails (line + 3)) (cond (is_blank (line_at (drop line bytes))) passed added))) h ∙ ap (λ q. cond q (Fails (line + 3)) (cond (is_blank (line_at (drop line bytes))) passed added)) c

  -- any other line goes on behind its white space
  pub below_text : (is_mark (line_at (drop line bytes)) && (has_break (drop line bytes) || nat_lt 3 (length (line_at (drop line bytes))))) ≡ false → is_cut_mark (line_at (drop line bytes)) ≡ false → is_blank (line_at (drop line bytes)) ≡ false → below quote bytes line text joined k ≡ from quote false bytes (line + lead is_white (line_at (drop line bytes))) (text ++ gap joined k)
  unfolding starts added from
  below_text h c g =
      let xs = drop line bytes in
      let n = lead is_white (line_at xs) in
      let t = text ++ gap joined k in
      let l = lead_le is_white (line_at xs) in
      below_is ∙ ap (λ q. cond q (Documents line) (cond (is_cut_mark (line_at xs)) (Fails (line + 3)) (cond (is_blank (line_at xs)) passed added))) h ∙ ap (λ q. cond q (Fails (line + 3)) (cond (is_blank (line_at xs)) passed added)) c ∙ ap (λ q. cond q passed added) g
      ∙ ap₂ (λ part ls. behind_part (line_part quote (line + n) 0 t (length t) part) (λ j s. quoted_more quote (length bytes) ls s j 0))
      (line_drop n xs l ∙ ap line_at (drop-drop n line bytes))
      (behind_drop n line xs l ∙ ap (behind (line + n)) (drop-drop n line bytes))

-- where a line ends
pub past_key : (quote : ℕ) (one_line : Bool) (bytes : List ℕ) (end : ℕ) (joined : Bool) (text : List ℕ) → one_line ≡ true → past quote one_line bytes end joined text ≡ Fails end
unfolding past
past_key quote one_line bytes end joined text h = ap (λ q. cond q (Fails end) (lines_below quote bytes end joined text)) h

pub past_end : (quote : ℕ) (one_line : Bool) (bytes : List ℕ) (end : ℕ) (joined : Bool) (text : List ℕ) → one_line ≡ false → behind end (drop end bytes) ≡ [] → past quote one_line bytes end joined text ≡ Fails (length bytes)
unfolding past
past_end quote one_line bytes end joined text h e = ap (λ q. cond q (Fails end) (lines_below quote bytes end joined text)) h ∙ ap (λ ls. quoted_more quote (length bytes) ls text joined 0) e

pub past_next : (quote : ℕ) (one_line : Bool) (bytes : List ℕ) (end next : ℕ) (joined : Bool) (text : List ℕ) → one_line ≡ false → behind end (drop end bytes) ≡ lines next (drop next bytes) → past quote one_line bytes end joined text ≡ below quote bytes next text joined 0
unfolding past below
past_next quote one_line bytes end next joined text h e = ap (λ q. cond q (Fails end) (lines_below quote bytes end joined text)) h ∙ ap (λ ls. quoted_more quote (length bytes) ls text joined 0) e

-- white space ahead on a line ends in white space
pub last_white : (xs : List ℕ) → 0 < lead is_white (line_at xs) → is_white (get_or xs (lead is_white (line_at xs) - 1) 0) ≡ true
last_white [] l = absurd (omega arith)
last_white (x ∷ xs) l = by_break (nat_eq x 10 || (nat_eq x 13 && begins_with 10 xs)) l (λ m. last_white xs m) where
  by_white : (q : Bool) → is_white x ≡ q → 0 < cond q (suc (lead is_white (line_at xs))) 0 → (0 < lead is_white (line_at xs) → is_white (get_or xs (lead is_white (line_at xs) - 1) 0) ≡ true) → is_white (get_or (x ∷ xs) (cond q (suc (lead is_white (line_at xs))) 0 - 1) 0) ≡ true
  by_white false e m h = absurd (omega arith)
  by_white true e m h = by_more (lead is_white (line_at xs)) h where
    by_more : (n : ℕ) → (0 < n → is_white (get_or xs (n - 1) 0) ≡ true) → is_white (get_or (x ∷ xs) (suc n - 1) 0) ≡ true
    by_more zero g = e
    by_more (suc n) g =
        let p : suc (suc n) - 1 ≡ suc n = omega arith in
        let q : suc n - 1 ≡ n = omega arith in
        ap (λ i. is_white (get_or (x ∷ xs) i 0)) p ∙ ap (λ i. is_white (get_or xs i 0)) (sym q) ∙ g (omega arith)

  by_break : (p : Bool) → 0 < lead is_white (cond p [] (x ∷ line_at xs)) → (0 < lead is_white (line_at xs) → is_white (get_or xs (lead is_white (line_at xs) - 1) 0) ≡ true) → is_white (get_or (x ∷ xs) (lead is_white (cond p [] (x ∷ line_at xs)) - 1) 0) ≡ true
  by_break true m h = absurd (omega arith)
  by_break false m h = by_white (is_white x) refl m h

white_ascii : (b : ℕ) → is_white b ≡ true → b < 128
white_ascii b h = grind (arith, nat_tests)

-- a byte of ASCII stands before the place behind a line's white space
pub ascii_before : (bytes : List ℕ) (line w : ℕ) → 0 < line → get_or bytes (line - 1) 0 ≡ 10 → w ≡ lead is_white (line_at (drop line bytes)) → get_or bytes (line + w - 1) 0 < 128
ascii_before bytes line zero l f e = let n : line - 1 ≡ line + 0 - 1 = omega arith in let b = sym (ap (λ i. get_or bytes i 0) n) ∙ f in omega (arith, b)
ascii_before bytes line (suc w) l f e =
    let xs = drop line bytes in
    let n : line + (lead is_white (line_at xs) - 1) ≡ line + suc w - 1 = omega (arith, e) in
    white_ascii (get_or bytes (line + suc w - 1) 0) (ap is_white (sym (get_or-drop line bytes (lead is_white (line_at xs) - 1) 0 ∙ ap (λ i. get_or bytes i 0) n)) ∙ last_white xs (omega (arith, e)))
