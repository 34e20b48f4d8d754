-- How far a text is looked at for what it has ahead, by the bytes there. By induction over lines.
use Rattle.std.proofs.Common.{◌≡◌, ℕ, zero, suc, ◌+◌, ◌<◌, ◌≤◌, ◌⊎◌, inl, inr, Bool, true, false, ◌||◌, ◌&&◌, cond, nat_eq, nat_lt, arith, List, [], ◌∷◌, drop, length, refl, sym, ap, ◌∙◌, subst, true≢false}
use Rattle.std.proofs.lemmas.Bool.Decides.{nat_tests}
use Rattle.std.proofs.lemmas.Bool.{ltb-true}
use Rattle.std.proofs.lemmas.List.{drop-drop}
use Rattle.yaml_scalars.specs.Lines.{lines, begins_with, begins_break, is_white, is_blank, lead, indent, past_white, is_mark}
use Rattle.yaml_scalars.specs.Block.{shown, widest, mark_len, may_end, same}
use Rattle.yaml_scalars.specs.Scalar.{is_first_column}
use Rattle.yaml_scalars.specs.code.Walk.{line_at, behind}
use Rattle.yaml_scalars.proofs.Places.{lines_are, lead_le}
use Rattle.yaml_laws.proofs.BlockShown.{spaces_less}
use Rattle.yaml_grammar.specs.declared.ahead.Ahead.{Ahead}
use Rattle.yaml_grammar.specs.declared.ahead.Token.{Token}
use Rattle.yaml_grammar.specs.declared.ahead.Token.TheVariants.{End, Dashes, Dots, Dash, Tag, NoTag, Opens, Closes, Comma, Point, Anchor, Percent, Tabbed, Stray, Other}
use Rattle.yaml_grammar.specs.Ahead.{is_name, tab_token, token_of, token_at, mark_of, is_passed, is_tabbed, content_ahead, line_ahead, rest_ahead, ahead}
use Rattle.yaml_grammar.specs.code.AheadSeen.{token_shown, first_return, content_shown, line_seen, rest_seen, ahead_seen, is_told}
use Rattle.yaml_grammar.specs.code.StopPlaces.{is_stray, run_width, token_width, width, past_return, told_place}
use Rattle.yaml_grammar.specs.code.Steps.{is_ending}
use Rattle.yaml_grammar.specs.code.Twins.{IsPast}
use Rattle.yaml_grammar.proofs.AheadOrder.{line_rest, widest_less}
use Rattle.yaml_grammar.proofs.FirstTokens.{first_told, past_first, line_first, not_blank}
use Rattle.yaml_grammar.proofs.Looks.{white_rest, first_line, first_rest}

-- where a token is told, the text is looked at no further than by its width
abbrev pub Wide : List ℕ → Ahead → ℕ → Type 0
Wide text a n = is_ending a.token ≡ false → n ≤ a.at + width a (drop a.at text)

ends_wide : (text : List ℕ) (a : Ahead) (n : ℕ) → is_ending a.token ≡ true → Wide text a n
ends_wide text a n h = λ t. absurd (true≢false (sym h ∙ t))

-- ---- bytes of a line, and of the text there

return_line : (xs : List ℕ) → first_return (line_at xs) ≤ first_return xs
return_line [] = omega arith
return_line (b ∷ xs) = by_break (begins_break b xs) (return_line xs) where
  by_byte : (q : Bool) → first_return (line_at xs) ≤ first_return xs → cond q 1 (suc (first_return (line_at xs))) ≤ cond q 1 (suc (first_return xs))
  by_byte true h = omega arith
  by_byte false h = omega (arith, h)

  by_break : (p : Bool) → first_return (line_at xs) ≤ first_return xs → first_return (cond p [] (b ∷ line_at xs)) ≤ cond (nat_eq b 13) 1 (suc (first_return xs))
  by_break true h = omega arith
  by_break false h = by_byte (nat_eq b 13) h

return_past : (n : ℕ) (xs : List ℕ) → first_return xs ≤ n + first_return (drop n xs)
return_past zero xs = omega arith
return_past (suc n) [] = omega arith
return_past (suc n) (b ∷ xs) = by_test (nat_eq b 13) (return_past n xs) where
  by_test : (q : Bool) → first_return xs ≤ n + first_return (drop n xs) → cond q 1 (suc (first_return xs)) ≤ suc n + first_return (drop n xs)
  by_test true h = omega arith
  by_test false h = omega (arith, h)

-- behind white space there is at least one byte to look at
white_return : (xs : List ℕ) → is_blank xs ≡ false → suc (lead is_white xs) ≤ first_return xs
white_return [] h = absurd (true≢false h)
white_return (b ∷ xs) h = by_white (is_white b) refl h (λ k. white_return xs k) where
  by_byte : (q : Bool) → nat_eq b 13 ≡ q → is_white b ≡ true → suc (lead is_white xs) ≤ first_return xs → suc (suc (lead is_white xs)) ≤ cond q 1 (suc (first_return xs))
  by_byte true e w g = let none : nat_eq b 13 ≡ false = grind (arith, nat_tests, w) in absurd (true≢false (sym e ∙ none))
  by_byte false e w g = omega (arith, g)

  some : (q : Bool) → 1 ≤ cond q 1 (suc (first_return xs))
  some true = omega arith
  some false = omega arith

  by_white : (p : Bool) → is_white b ≡ p → cond p (is_blank xs) false ≡ false → (is_blank xs ≡ false → suc (lead is_white xs) ≤ first_return xs) → suc (cond p (suc (lead is_white xs)) 0) ≤ cond (nat_eq b 13) 1 (suc (first_return xs))
  by_white true w k g = by_byte (nat_eq b 13) refl w (g k)
  by_white false w k g = some (nat_eq b 13)

-- as many bytes of a mark stand on the line as in the text, or fewer
same_line : (a n : ℕ) (xs : List ℕ) → same a n (line_at xs) ≤ same a n xs
same_line a zero xs = omega arith
same_line a (suc n) [] = omega arith
same_line a (suc n) (b ∷ xs) = by_break (begins_break b xs) (same_line a n xs) where
  by_byte : (q : Bool) → same a n (line_at xs) ≤ same a n xs → cond q (suc (same a n (line_at xs))) 0 ≤ cond q (suc (same a n xs)) 0
  by_byte true h = omega (arith, h)
  by_byte false h = omega arith

  by_break : (p : Bool) → same a n (line_at xs) ≤ same a n xs → same a (suc n) (cond p [] (b ∷ line_at xs)) ≤ cond (nat_eq b a) (suc (same a n xs)) 0
  by_break true h = omega arith
  by_break false h = by_byte (nat_eq b a) h

pub same_most : (a n : ℕ) (xs : List ℕ) → same a n xs ≤ n
same_most a zero xs = omega arith
same_most a (suc n) [] = omega arith
same_most a (suc n) (b ∷ xs) = by_byte (nat_eq b a) (same_most a n xs) where
  by_byte : (q : Bool) → same a n xs ≤ n → cond q (suc (same a n xs)) 0 ≤ suc n
  by_byte true h = omega (arith, h)
  by_byte false h = omega arith

run_least : (m n : ℕ) (bs : List ℕ) → m ≤ n → n ≤ 3 → m ≤ run_width n bs
run_least m n bs l k = by_test (nat_eq n 3 && begins_with 13 (drop 2 bs)) where
  by_test : (q : Bool) → m ≤ cond q 4 n
  by_test true = omega (arith, l, k)
  by_test false = l

run_full : (m n : ℕ) (bs : List ℕ) → m ≡ 3 → m ≤ n → n ≤ 3 → begins_with 13 (drop 2 bs) ≡ true → 4 ≤ run_width n bs
run_full m n bs e l k h = subst (λ q. 4 ≤ cond (nat_eq n 3 && q) 4 n) (sym h) (by_test (nat_eq n 3) refl) where
  by_test : (q : Bool) → nat_eq n 3 ≡ q → 4 ≤ cond (q && true) 4 n
  by_test true h = omega arith
  by_test false h = let z : n ≡ 3 = omega (arith, e, l, k) in absurd (true≢false (sym (ap (λ x. nat_eq x 3) z) ∙ h))

-- a byte of the line is one of the text
line_byte : (k n : ℕ) (xs : List ℕ) → begins_with k (drop n (line_at xs)) ≡ true → begins_with k (drop n xs) ≡ true
line_byte k n [] h = h
line_byte k n (b ∷ xs) h = by_break (begins_break b xs) n h (λ m g. line_byte k m xs g) where
  none : (m : ℕ) → begins_with k (drop m []) ≡ true → ⊥
  none zero g = true≢false (sym g)
  none (suc m) g = true≢false (sym g)

  by_break : (q : Bool) (m : ℕ) → begins_with k (drop m (cond q [] (b ∷ line_at xs))) ≡ true → ((m : ℕ) → begins_with k (drop m (line_at xs)) ≡ true → begins_with k (drop m xs) ≡ true) → begins_with k (drop m (b ∷ xs)) ≡ true
  by_break true m g f = absurd (none m g)
  by_break false zero g f = g
  by_break false (suc m) g f = f m g

-- a token's first byte
module _ (b : ℕ) (xs : List ℕ) where
  abbrev Line : List ℕ
  Line = b ∷ line_at xs

  shown_least : token_shown (b ∷ line_at xs) ≤ token_width (b ∷ xs)
  shown_least = by_tests (nat_eq b 33) (nat_eq b 45) (nat_eq b 46) (nat_eq b 58 || nat_eq b 13) where
    by_tests : (p q r s : Bool) → cond p (suc (lead is_name (line_at xs))) (cond (q || s) 1 0) ≤ cond p (suc (lead is_name (line_at xs))) (cond (q || r) (run_width (suc (same b 2 xs)) xs) (cond s 1 0))
    by_tests true q r s = omega arith
    by_tests false true r s = let k = same_most b 2 xs in run_least 1 (suc (same b 2 xs)) xs (omega arith) (omega (arith, k))
    by_tests false false true true = let k = same_most b 2 xs in run_least 1 (suc (same b 2 xs)) xs (omega arith) (omega (arith, k))
    by_tests false false true false = omega arith
    by_tests false false false true = omega arith
    by_tests false false false false = omega arith

  -- of a mark's bytes
  dash_least : (nat_eq b 33 ≡ false) → (nat_eq b 45 || nat_eq b 46) ≡ true → lead is_white (b ∷ line_at xs) ≡ 0 → shown (b ∷ line_at xs) ≤ token_width (b ∷ xs)
  dash_least n d w =
      let len : mark_len (b ∷ line_at xs) ≡ suc (same b 2 (line_at xs)) = ap (λ q. cond q (suc (same b 2 (line_at xs))) 0) d in
      let wide : token_width (b ∷ xs) ≡ run_width (suc (same b 2 xs)) xs = ap (λ q. cond q (suc (lead is_name (line_at xs))) (cond (nat_eq b 45 || nat_eq b 46) (run_width (suc (same b 2 xs)) xs) (cond (nat_eq b 58 || nat_eq b 13) 1 0))) n ∙ ap (λ q. cond q (run_width (suc (same b 2 xs)) xs) (cond (nat_eq b 58 || nat_eq b 13) 1 0)) d in
      let most = same_most b 2 xs in
      let less = same_line b 2 xs in
      subst (λ k. shown (b ∷ line_at xs) ≤ k) (sym wide) (by_tests (begins_with 13 (drop (lead is_white (b ∷ line_at xs) + mark_len (b ∷ line_at xs)) (b ∷ line_at xs))) (may_end (mark_len (b ∷ line_at xs))) refl refl len most less) where
        by_tests : (p q : Bool) → begins_with 13 (drop (lead is_white (b ∷ line_at xs) + mark_len (b ∷ line_at xs)) (b ∷ line_at xs)) ≡ p → may_end (mark_len (b ∷ line_at xs)) ≡ q → mark_len (b ∷ line_at xs) ≡ suc (same b 2 (line_at xs)) → same b 2 xs ≤ 2 → same b 2 (line_at xs) ≤ same b 2 xs
            → cond (p && q) (suc (lead is_white (b ∷ line_at xs) + mark_len (b ∷ line_at xs))) (lead is_white (b ∷ line_at xs) + mark_len (b ∷ line_at xs)) ≤ run_width (suc (same b 2 xs)) xs
        by_tests true true r e len most less =
            let three : suc (same b 2 (line_at xs)) ≡ 3 = ended (suc (same b 2 (line_at xs))) (omega arith) (sym (ap may_end len) ∙ e) in
            let third : lead is_white (b ∷ line_at xs) + mark_len (b ∷ line_at xs) ≡ 3 = omega (arith, w, len, three) in
            let back : begins_with 13 (drop 2 xs) ≡ true = line_byte 13 2 xs (sym (ap (λ n. begins_with 13 (drop n (b ∷ line_at xs))) third) ∙ r) in
            let full = run_full (suc (same b 2 (line_at xs))) (suc (same b 2 xs)) xs three (omega (arith, less)) (omega (arith, most)) back in
            omega (arith, w, len, three, full) where
              ended : (n : ℕ) → 0 < n → may_end n ≡ true → n ≡ 3
              ended zero l h = absurd (omega (arith, l))
              ended (suc n) l h = grind (arith, nat_tests, h)
        by_tests true false r e len most less = let z = run_least (suc (same b 2 (line_at xs))) (suc (same b 2 xs)) xs (omega (arith, less)) (omega (arith, most)) in omega (arith, w, len, z)
        by_tests false q r e len most less = let z = run_least (suc (same b 2 (line_at xs))) (suc (same b 2 xs)) xs (omega (arith, less)) (omega (arith, most)) in omega (arith, w, len, z)

  -- of any other byte
  plain_least : (nat_eq b 45 || nat_eq b 46) ≡ false → lead is_white (b ∷ line_at xs) ≡ 0 → shown (b ∷ line_at xs) ≤ token_width (b ∷ xs)
  plain_least d w = by_return (nat_eq b 13) refl where
    len : mark_len (b ∷ line_at xs) ≡ 0
    len = ap (λ q. cond q (suc (same b 2 (line_at xs))) 0) d

    none : drop (lead is_white (b ∷ line_at xs) + mark_len (b ∷ line_at xs)) (b ∷ line_at xs) ≡ b ∷ line_at xs
    none = let z : lead is_white (b ∷ line_at xs) + mark_len (b ∷ line_at xs) ≡ 0 = omega (arith, w, len) in ap (λ k. drop k (b ∷ line_at xs)) z

    one : nat_eq b 13 ≡ true → 1 ≤ token_width (b ∷ xs)
    one e = by_name (nat_eq b 33) where
      by_name : (p : Bool) → 1 ≤ cond p (suc (lead is_name (line_at xs))) (cond (nat_eq b 45 || nat_eq b 46) (run_width (suc (same b 2 xs)) xs) (cond (nat_eq b 58 || nat_eq b 13) 1 0))
      by_name true = omega arith
      by_name false = subst (λ q. 1 ≤ cond q (run_width (suc (same b 2 xs)) xs) (cond (nat_eq b 58 || nat_eq b 13) 1 0)) (sym d) (by_colon (nat_eq b 58) (nat_eq b 13) e) where
        by_colon : (p q : Bool) → q ≡ true → 1 ≤ cond (p || q) 1 0
        by_colon true q h = omega arith
        by_colon false true h = omega arith
        by_colon false false h = absurd (true≢false (sym h))

    by_return : (q : Bool) → nat_eq b 13 ≡ q → shown (b ∷ line_at xs) ≤ token_width (b ∷ xs)
    by_return true e = let z = one e in let s = most in omega (arith, z, s) where
      most : shown (b ∷ line_at xs) ≤ 1
      most = by_test (begins_with 13 (drop (lead is_white (b ∷ line_at xs) + mark_len (b ∷ line_at xs)) (b ∷ line_at xs)) && may_end (mark_len (b ∷ line_at xs))) where
        by_test : (p : Bool) → cond p (suc (lead is_white (b ∷ line_at xs) + mark_len (b ∷ line_at xs))) (lead is_white (b ∷ line_at xs) + mark_len (b ∷ line_at xs)) ≤ 1
        by_test true = omega (arith, w, len)
        by_test false = omega (arith, w, len)
    by_return false e =
        let no : begins_with 13 (drop (lead is_white (b ∷ line_at xs) + mark_len (b ∷ line_at xs)) (b ∷ line_at xs)) ≡ false = ap (begins_with 13) none ∙ e in
        let z : shown (b ∷ line_at xs) ≡ lead is_white (b ∷ line_at xs) + mark_len (b ∷ line_at xs) = ap (λ p. cond (p && may_end (mark_len (b ∷ line_at xs))) (suc (lead is_white (b ∷ line_at xs) + mark_len (b ∷ line_at xs))) (lead is_white (b ∷ line_at xs) + mark_len (b ∷ line_at xs))) no in
        omega (arith, z, w, len)

  line_least : lead is_white (b ∷ line_at xs) ≡ 0 → shown (b ∷ line_at xs) ≤ token_width (b ∷ xs)
  line_least w = by_dash (nat_eq b 45 || nat_eq b 46) refl where
    by_dash : (q : Bool) → (nat_eq b 45 || nat_eq b 46) ≡ q → shown (b ∷ line_at xs) ≤ token_width (b ∷ xs)
    by_dash true d = dash_least (let n : nat_eq b 33 ≡ false = grind (arith, nat_tests, d) in n) d w
    by_dash false d = plain_least d w

shown_most : (ys : List ℕ) → shown ys ≤ suc (lead is_white ys + mark_len ys)
shown_most ys = by_test (begins_with 13 (drop (lead is_white ys + mark_len ys) ys) && may_end (mark_len ys)) where
  by_test : (p : Bool) → cond p (suc (lead is_white ys + mark_len ys)) (lead is_white ys + mark_len ys) ≤ suc (lead is_white ys + mark_len ys)
  by_test true = omega arith
  by_test false = omega arith

-- a line is looked at as far as what stands behind the white space in front
return_shown : (xs : List ℕ) → begins_with 13 xs ≡ true → 1 ≤ shown xs
return_shown [] h = absurd (true≢false (sym h))
return_shown (c ∷ xs) h = let e : c ≡ 13 = grind (arith, nat_tests, h) in subst (λ k. 1 ≤ shown (k ∷ xs)) (sym e) (omega arith)

past_shown : (xs : List ℕ) → shown xs ≤ lead is_white xs + shown (past_white xs)
past_shown [] = omega arith
past_shown (x ∷ xs) = by_white (is_white x) refl where
  marked : is_white x ≡ true → mark_len (x ∷ xs) ≡ 0
  marked w =
      let d : nat_eq x 45 ≡ false = grind (arith, nat_tests, w) in
      let p : nat_eq x 46 ≡ false = grind (arith, nat_tests, w) in
      ap (λ q. cond (q || nat_eq x 46) (suc (same x 2 xs)) 0) d ∙ ap (λ q. cond q (suc (same x 2 xs)) 0) p

  by_white : (q : Bool) → is_white x ≡ q → shown (x ∷ xs) ≤ lead is_white (x ∷ xs) + shown (past_white (x ∷ xs))
  by_white false w =
      let z : lead is_white (x ∷ xs) ≡ 0 = ap (λ q. cond q (suc (lead is_white xs)) 0) w in
      let same_ : past_white (x ∷ xs) ≡ x ∷ xs = ap (λ k. drop k (x ∷ xs)) z in
      let k : shown (past_white (x ∷ xs)) ≡ shown (x ∷ xs) = ap shown same_ in
      omega (arith, z, k)
  by_white true w =
      let len = marked w in
      let n : lead is_white (x ∷ xs) + mark_len (x ∷ xs) ≡ lead is_white (x ∷ xs) = omega (arith, len) in
      by_return (begins_with 13 (past_white (x ∷ xs))) refl n len where
        by_return : (q : Bool) → begins_with 13 (past_white (x ∷ xs)) ≡ q → lead is_white (x ∷ xs) + mark_len (x ∷ xs) ≡ lead is_white (x ∷ xs) → mark_len (x ∷ xs) ≡ 0 → shown (x ∷ xs) ≤ lead is_white (x ∷ xs) + shown (past_white (x ∷ xs))
        by_return true e n len = let one = return_shown (past_white (x ∷ xs)) e in let most = shown_most (x ∷ xs) in omega (arith, one, most, len)
        by_return false e n len =
            let no : begins_with 13 (drop (lead is_white (x ∷ xs) + mark_len (x ∷ xs)) (x ∷ xs)) ≡ false = ap (λ k. begins_with 13 (drop k (x ∷ xs))) n ∙ e in
            let z : shown (x ∷ xs) ≡ lead is_white (x ∷ xs) + mark_len (x ∷ xs) = ap (λ p. cond (p && may_end (mark_len (x ∷ xs))) (suc (lead is_white (x ∷ xs) + mark_len (x ∷ xs))) (lead is_white (x ∷ xs) + mark_len (x ∷ xs))) no in
            omega (arith, z, len)

-- ---- lines

-- a stray token begins with a carriage return or with `#`, and what begins with `#` is one
stray_untold : (t : Token) → is_stray t ≡ true → is_told t ≡ false
stray_untold Stray h = refl
stray_untold End h = refl
stray_untold Dashes h = refl
stray_untold Dots h = refl
stray_untold Tabbed h = refl
stray_untold Dash h = absurd (true≢false (sym h))
stray_untold (Tag len) h = absurd (true≢false (sym h))
stray_untold NoTag h = absurd (true≢false (sym h))
stray_untold (Opens map) h = absurd (true≢false (sym h))
stray_untold (Closes map) h = absurd (true≢false (sym h))
stray_untold Comma h = absurd (true≢false (sym h))
stray_untold (Point loose) h = absurd (true≢false (sym h))
stray_untold Anchor h = absurd (true≢false (sym h))
stray_untold Percent h = absurd (true≢false (sym h))
stray_untold Other h = absurd (true≢false (sym h))

stray_byte : (flow : Bool) (b : ℕ) (xs : List ℕ) → is_stray (token_of flow (b ∷ xs)) ≡ true → nat_eq b 35 ≡ false → nat_eq b 13 ≡ true
stray_byte flow b xs h n = by_test (nat_eq b 13) refl where
  by_test : (q : Bool) → nat_eq b 13 ≡ q → q ≡ true
  by_test true e = refl
  by_test false e = absurd (true≢false (sym (first_told flow b xs (λ k. true≢false (sym (ap (λ c. nat_eq c 13) k) ∙ e)) (λ k. true≢false (sym (ap (λ c. nat_eq c 35) k) ∙ n))) ∙ stray_untold (token_of flow (b ∷ xs)) h))

comment_stray : (flow : Bool) (b : ℕ) (xs : List ℕ) → nat_eq b 35 ≡ true → is_stray (token_of flow (b ∷ xs)) ≡ true
comment_stray flow b xs h = let e : b ≡ 35 = grind (arith, nat_tests, h) in ap (λ c. is_stray (token_of flow (c ∷ xs))) e ∙ by_flow flow where
  by_flow : (flow : Bool) → is_stray (token_of flow (35 ∷ xs)) ≡ true
  by_flow true = refl
  by_flow false = refl

return_token : (b : ℕ) (xs : List ℕ) → nat_eq b 13 ≡ true → token_shown (b ∷ xs) ≡ 1
return_token b xs h = let e : b ≡ 13 = grind (arith, nat_tests, h) in ap (λ c. token_shown (c ∷ xs)) e

module _ (text : List ℕ) (flow : Bool) where
  abbrev Bytes : ℕ → List ℕ
  Bytes start = line_at (drop start text)

  -- where a carriage return is looked for
  hidden_less : (start k : ℕ) → k ≤ length (Bytes start) → first_return (Bytes start) ≤ k + first_return (drop (start + k) text)
  hidden_less start k l =
      let past = return_past k (Bytes start) in
      let line : drop k (Bytes start) ≡ line_at (drop (start + k) text) = sym (line_rest k (drop start text) l) ∙ ap line_at (drop-drop k start text) in
      let same_ : first_return (drop k (Bytes start)) ≡ first_return (line_at (drop (start + k) text)) = ap first_return line in
      let less = return_line (drop (start + k) text) in
      omega (arith, past, same_, less)

  -- a line that is not blank, with the first byte behind the white space in front
  module _ (start : ℕ) (full : is_blank (Bytes start) ≡ false) (b : ℕ) (rest : List ℕ) (past : past_white (Bytes start) ≡ b ∷ line_at rest) (here : drop (start + lead is_white (Bytes start)) text ≡ b ∷ rest) (black : is_white b ≡ false) where
    front : lead is_white (b ∷ line_at rest) ≡ 0
    front = ap (λ q. cond q (suc (lead is_white (line_at rest))) 0) black

    shown_first : shown (Bytes start) ≤ lead is_white (Bytes start) + shown (b ∷ line_at rest)
    shown_first = subst (λ ys. shown (Bytes start) ≤ lead is_white (Bytes start) + shown ys) past (past_shown (Bytes start))

    shown_here : shown (Bytes start) ≤ lead is_white (Bytes start) + token_width (b ∷ rest)
    shown_here = let f = shown_first in let l = line_least b rest front in omega (arith, f, l)

    content_here : (fresh : Bool) → ((fresh || nat_lt 0 (lead is_white (Bytes start))) && begins_with 35 (past_white (Bytes start))) ≡ false → content_shown fresh (Bytes start) ≤ lead is_white (Bytes start) + token_width (b ∷ rest)
    content_here fresh h =
        let z : content_shown fresh (Bytes start) ≡ lead is_white (Bytes start) + token_shown (past_white (Bytes start)) = ap (λ q. cond q (first_return (Bytes start)) (lead is_white (Bytes start) + token_shown (past_white (Bytes start)))) h in
        let y : token_shown (past_white (Bytes start)) ≡ token_shown (b ∷ line_at rest) = ap token_shown past in
        let l = shown_least b rest in
        omega (arith, z, y, l)

    -- at a stray carriage return, or a comment
    stray_shown : (nat_eq b 35 || nat_eq b 13) ≡ true → shown (Bytes start) ≤ first_return (Bytes start)
    stray_shown h =
        let d : nat_eq b 45 ≡ false = grind (arith, nat_tests, h) in
        let p : nat_eq b 46 ≡ false = grind (arith, nat_tests, h) in
        let len : mark_len (b ∷ line_at rest) ≡ 0 = ap (λ q. cond (q || nat_eq b 46) (suc (same b 2 (line_at rest))) 0) d ∙ ap (λ q. cond q (suc (same b 2 (line_at rest))) 0) p in
        let most = shown_most (b ∷ line_at rest) in
        let f = shown_first in
        let w = front in
        let least = white_return (Bytes start) full in
        omega (arith, len, most, f, w, least)

    stray_content : (fresh : Bool) → (fresh || nat_lt 0 (lead is_white (Bytes start))) ≡ true → (nat_eq b 35 || nat_eq b 13) ≡ true → content_shown fresh (Bytes start) ≤ first_return (Bytes start)
    stray_content fresh g h = by_comment (nat_eq b 35) refl h where
      least : suc (lead is_white (Bytes start)) ≤ first_return (Bytes start)
      least = white_return (Bytes start) full

      by_comment : (q : Bool) → nat_eq b 35 ≡ q → (q || nat_eq b 13) ≡ true → content_shown fresh (Bytes start) ≤ first_return (Bytes start)
      by_comment true e k =
          let z : content_shown fresh (Bytes start) ≡ first_return (Bytes start) =
          ap (λ q. cond (q && begins_with 35 (past_white (Bytes start))) (first_return (Bytes start)) (lead is_white (Bytes start) + token_shown (past_white (Bytes start)))) g
          ∙ ap (λ q. cond q (first_return (Bytes start)) (lead is_white (Bytes start) + token_shown (past_white (Bytes start)))) (ap (begins_with 35) past ∙ e) in
          omega (arith, z)
      by_comment false e k =
          let z : content_shown fresh (Bytes start) ≡ lead is_white (Bytes start) + token_shown (past_white (Bytes start)) =
          ap (λ q. cond (q && begins_with 35 (past_white (Bytes start))) (first_return (Bytes start)) (lead is_white (Bytes start) + token_shown (past_white (Bytes start)))) g
          ∙ ap (λ q. cond q (first_return (Bytes start)) (lead is_white (Bytes start) + token_shown (past_white (Bytes start)))) (ap (begins_with 35) past ∙ e) in
          let y : token_shown (past_white (Bytes start)) ≡ 1 = ap token_shown past ∙ return_token b (line_at rest) k in
          omega (arith, z, y, least)

    -- how far a token behind the white space is looked at
    abbrev Width : Bool → ℕ
    Width fresh = cond (is_stray (token_of flow (past_white (Bytes start))) && (fresh || nat_lt 0 (lead is_white (Bytes start)))) (first_return (drop (start + lead is_white (Bytes start)) text)) (token_width (drop (start + lead is_white (Bytes start)) text))

    parts_wide : (fresh : Bool) → (shown (Bytes start) ≤ lead is_white (Bytes start) + Width fresh) × (content_shown fresh (Bytes start) ≤ lead is_white (Bytes start) + Width fresh)
    parts_wide fresh = by_tests (is_stray (token_of flow (past_white (Bytes start)))) refl (fresh || nat_lt 0 (lead is_white (Bytes start))) refl where
      stray : is_stray (token_of flow (past_white (Bytes start))) ≡ true → (nat_eq b 35 || nat_eq b 13) ≡ true
      stray h = by_comment (nat_eq b 35) refl where
        by_comment : (q : Bool) → nat_eq b 35 ≡ q → (q || nat_eq b 13) ≡ true
        by_comment true e = refl
        by_comment false e = stray_byte flow b (line_at rest) (sym (ap (λ t. is_stray (token_of flow t)) past) ∙ h) e

      comment : is_stray (token_of flow (past_white (Bytes start))) ≡ false → begins_with 35 (past_white (Bytes start)) ≡ false
      comment h = by_comment (nat_eq b 35) refl where
        by_comment : (q : Bool) → nat_eq b 35 ≡ q → begins_with 35 (past_white (Bytes start)) ≡ false
        by_comment true e = absurd (true≢false (sym (comment_stray flow b (line_at rest) e) ∙ sym (ap (λ t. is_stray (token_of flow t)) past) ∙ h))
        by_comment false e = ap (begins_with 35) past ∙ e

      none : (p q : Bool) → q ≡ false → (p && q) ≡ false
      none true q e = e
      none false q e = refl

      there : token_width (drop (start + lead is_white (Bytes start)) text) ≡ token_width (b ∷ rest)
      there = ap token_width here

      by_tests : (p : Bool) → is_stray (token_of flow (past_white (Bytes start))) ≡ p → (q : Bool) → (fresh || nat_lt 0 (lead is_white (Bytes start))) ≡ q
          → (shown (Bytes start) ≤ lead is_white (Bytes start) + cond (p && q) (first_return (drop (start + lead is_white (Bytes start)) text)) (token_width (drop (start + lead is_white (Bytes start)) text)))
          × (content_shown fresh (Bytes start) ≤ lead is_white (Bytes start) + cond (p && q) (first_return (drop (start + lead is_white (Bytes start)) text)) (token_width (drop (start + lead is_white (Bytes start)) text)))
      by_tests true h true g =
          let less = hidden_less start (lead is_white (Bytes start)) (lead_le is_white (Bytes start)) in
          let s = stray_shown (stray h) in
          let k = stray_content fresh g (stray h) in
          (omega (arith, less, s), omega (arith, less, k))
      by_tests true h false g = let s = shown_here in let k = content_here fresh (ap (λ q. q && begins_with 35 (past_white (Bytes start))) g) in let t = there in (omega (arith, s, t), omega (arith, k, t))
      by_tests false h q g = let s = shown_here in let k = content_here fresh (none (fresh || nat_lt 0 (lead is_white (Bytes start))) (begins_with 35 (past_white (Bytes start))) (comment h)) in let t = there in (omega (arith, s, t), omega (arith, k, t))

  -- the same of a line with a tab in front
  tab_wide : (start : ℕ) → is_blank (Bytes start) ≡ false → (b : ℕ) (rest : List ℕ) → past_white (Bytes start) ≡ b ∷ line_at rest → drop (start + lead is_white (Bytes start)) text ≡ b ∷ rest → is_white b ≡ false
      → Wide text (token_at (tab_token (past_white (Bytes start))) true (indent (Bytes start)) (start + indent (Bytes start))) (start + widest (shown (Bytes start)) (content_shown true (Bytes start)))
  tab_wide start full b rest past here black = by_stray (begins_with 35 (past_white (Bytes start)) || begins_with 13 (past_white (Bytes start))) refl where
    by_stray : (q : Bool) → (begins_with 35 (past_white (Bytes start)) || begins_with 13 (past_white (Bytes start))) ≡ q → Wide text (token_at (cond q Stray Tabbed) true (indent (Bytes start)) (start + indent (Bytes start))) (start + widest (shown (Bytes start)) (content_shown true (Bytes start)))
    by_stray false h = λ t. absurd (true≢false t)
    by_stray true h = λ t.
        let stray : (nat_eq b 35 || nat_eq b 13) ≡ true = sym (ap (λ ys. begins_with 35 ys || begins_with 13 ys) past) ∙ h in
        let white = spaces_less (Bytes start) in
        let within = lead_le is_white (Bytes start) in
        let less = hidden_less start (indent (Bytes start)) (omega (arith, white, within)) in
        let s = stray_shown start full b rest past here black stray in
        let k = stray_content start full b rest past here black true refl stray in
        let w = widest_less (shown (Bytes start)) (content_shown true (Bytes start)) (first_return (Bytes start)) s k in
        omega (arith, less, w)

  abbrev Byte : ℕ → Type 0
  Byte start = (b : ℕ) × (rest : List ℕ) × (past_white (Bytes start) ≡ b ∷ line_at rest) × (drop (start + lead is_white (Bytes start)) text ≡ b ∷ rest) × (is_white b ≡ false)

  byte : (start : ℕ) → is_blank (Bytes start) ≡ false → Byte start
  byte start full = by_first (past_first (Bytes start) full) where
    by_first : (b : ℕ) × (ys : List ℕ) × (past_white (Bytes start) ≡ b ∷ ys) × (is_white b ≡ false) → Byte start
    by_first (b, ys, past, black) =
        let here = sym (white_rest text start (lead is_white (Bytes start)) refl) ∙ past in
        let (rest, e, tail) = line_first (drop (start + lead is_white (Bytes start)) text) b ys here in
        (b, rest, past ∙ ap (λ t. b ∷ t) tail, e, black)

  content_wide : (start : ℕ) → is_blank (Bytes start) ≡ false → Wide text (content_ahead flow start (Bytes start)) (start + widest (shown (Bytes start)) (content_shown true (Bytes start)))
  content_wide start full = by_byte (byte start full) where
    by_byte : Byte start → Wide text (content_ahead flow start (Bytes start)) (start + widest (shown (Bytes start)) (content_shown true (Bytes start)))
    by_byte (b, rest, past, here, black) = by_tab (is_tabbed flow (Bytes start)) where
      by_tab : (q : Bool) → Wide text (cond q (token_at (tab_token (past_white (Bytes start))) true (indent (Bytes start)) (start + indent (Bytes start)))
          (token_at (token_of flow (past_white (Bytes start))) true (lead is_white (Bytes start)) (start + lead is_white (Bytes start)))) (start + widest (shown (Bytes start)) (content_shown true (Bytes start)))
      by_tab true = tab_wide start full b rest past here black
      by_tab false = λ t.
          let p = parts_wide start full b rest past here black true in
          let w = widest_less (shown (Bytes start)) (content_shown true (Bytes start)) (lead is_white (Bytes start) + Width start full b rest past here black true) p.0 p.1 in
          omega (arith, w)

  lines_wide : (start : ℕ) → Wide text (line_ahead flow (length text) (behind start (drop start text))) (line_seen (length text) (behind start (drop start text))) → Wide text (line_ahead flow (length text) (lines start (drop start text))) (line_seen (length text) (lines start (drop start text)))
  lines_wide start h =
      subst (λ a. Wide text a (line_seen (length text) (lines start (drop start text)))) (sym (first_line text flow start))
      (subst (λ ls. Wide text (cond (is_mark xs) (token_at (mark_of xs) true 0 start) (cond (is_passed true xs) (line_ahead flow (length text) (behind start (drop start text))) (content_ahead flow start xs))) (line_seen (length text) ls)) (sym (lines_are start (drop start text)))
      (by_mark (is_mark xs) (is_passed true xs) refl)) where
        xs : List ℕ
        xs = line_at (drop start text)

        mark_ends : (q : Bool) → is_ending (cond q Dashes Dots) ≡ true
        mark_ends true = refl
        mark_ends false = refl

        by_mark : (q r : Bool) → is_passed true xs ≡ r → Wide text (cond q (token_at (mark_of xs) true 0 start) (cond r (line_ahead flow (length text) (behind start (drop start text))) (content_ahead flow start xs)))
            (cond q (start + 4) (cond r (line_seen (length text) (behind start (drop start text))) (start + widest (shown xs) (content_shown true xs))))
        by_mark true r e = ends_wide text (token_at (mark_of xs) true 0 start) (start + 4) (mark_ends (begins_with 45 xs))
        by_mark false true e = h
        by_mark false false e = content_wide start (not_blank true xs e)

  behind_wide : (rest : List ℕ) (start : ℕ) → rest ≡ drop start text → Wide text (line_ahead flow (length text) (behind start rest)) (line_seen (length text) (behind start rest))
  behind_wide [] start e = λ t. absurd (true≢false t)
  behind_wide (x ∷ xs) start e = by_feed (nat_eq x 10) (behind_wide xs (suc start) rest) where
    rest : xs ≡ drop (suc start) text
    rest = ap (drop 1) e ∙ drop-drop 1 start text ∙ (let h : start + 1 ≡ suc start = omega arith in ap (λ k. drop k text) h)

    by_feed : (q : Bool) → Wide text (line_ahead flow (length text) (behind (suc start) xs)) (line_seen (length text) (behind (suc start) xs))
        → Wide text (line_ahead flow (length text) (cond q (lines (suc start) xs) (behind (suc start) xs))) (line_seen (length text) (cond q (lines (suc start) xs) (behind (suc start) xs)))
    by_feed false h = h
    by_feed true h =
        subst (λ t. Wide text (line_ahead flow (length text) (lines (suc start) t)) (line_seen (length text) (lines (suc start) t))) (sym rest)
        (lines_wide (suc start) (subst (λ t. Wide text (line_ahead flow (length text) (behind (suc start) t)) (line_seen (length text) (behind (suc start) t))) rest h))

  pub ahead_wide : (i : ℕ) → Wide text (ahead text flow i) (ahead_seen text i)
  ahead_wide i = by_column (is_first_column text i) where
    below : Wide text (line_ahead flow (length text) (behind i (drop i text))) (line_seen (length text) (behind i (drop i text)))
    below = behind_wide (drop i text) i refl

    by_passed : (q : Bool) → is_passed false (Bytes i) ≡ q
        → Wide text (cond q (line_ahead flow (length text) (behind i (drop i text))) (token_at (token_of flow (past_white (Bytes i))) false (lead is_white (Bytes i)) (i + lead is_white (Bytes i))))
        (cond q (line_seen (length text) (behind i (drop i text))) (i + content_shown false (Bytes i)))
    by_passed true e = below
    by_passed false e = λ t. by_byte (byte i (not_blank false (Bytes i) e)) where
      by_byte : Byte i → i + content_shown false (Bytes i) ≤ (i + lead is_white (Bytes i)) + width (token_at (token_of flow (past_white (Bytes i))) false (lead is_white (Bytes i)) (i + lead is_white (Bytes i))) (drop (i + lead is_white (Bytes i)) text)
      by_byte (b, rest, past, here, black) = let p = (parts_wide i (not_blank false (Bytes i) e) b rest past here black false).1 in omega (arith, p)

    rest_wide : Wide text (rest_ahead flow (length text) (lines i (drop i text))) (rest_seen (length text) (lines i (drop i text)))
    rest_wide =
        subst (λ a. Wide text a (rest_seen (length text) (lines i (drop i text)))) (sym (first_rest text flow i))
        (subst (λ ls. Wide text (cond (is_passed false (Bytes i)) (line_ahead flow (length text) (behind i (drop i text))) (token_at (token_of flow (past_white (Bytes i))) false (lead is_white (Bytes i)) (i + lead is_white (Bytes i)))) (rest_seen (length text) ls))
        (sym (lines_are i (drop i text))) (by_passed (is_passed false (Bytes i)) refl))

    by_column : (q : Bool) → Wide text (cond q (line_ahead flow (length text) (lines i (drop i text))) (rest_ahead flow (length text) (lines i (drop i text)))) (cond q (line_seen (length text) (lines i (drop i text))) (rest_seen (length text) (lines i (drop i text))))
    by_column true = lines_wide i below
    by_column false = rest_wide

-- ---- the place that is answered

-- a place, behind a carriage return the next one: it is past the first one, or the text's length
abbrev pub IsPassed : List ℕ → ℕ → ℕ → Type 0
IsPassed text p q = (q ≡ length text) ⊎ ((q < length text) × IsPast text p q)

pub passed_return : (text : List ℕ) (p : ℕ) → IsPassed text p (past_return text p)
passed_return text p = by_return (begins_with 13 (drop p text)) refl where
  within : (q : ℕ) → IsPast text p q → IsPassed text p (cond (nat_lt q (length text)) q (length text))
  within q h = by_test (nat_lt q (length text)) refl where
    by_test : (r : Bool) → nat_lt q (length text) ≡ r → IsPassed text p (cond r q (length text))
    by_test true e = inr (ltb-true q (length text) e, h)
    by_test false e = inl refl

  by_return : (r : Bool) → begins_with 13 (drop p text) ≡ r → IsPassed text p (cond (nat_lt (cond r (suc p) p) (length text)) (cond r (suc p) p) (length text))
  by_return true e = within (suc p) (inl (omega arith))
  by_return false e = within p (inr (refl, e))

-- the text's length, or a place past all that is looked at
abbrev pub IsTold : List ℕ → Bool → ℕ → ℕ → Type 0
IsTold text flow i q = (q ≡ length text) ⊎ ((is_ending (ahead text flow i).token ≡ false) × (q < length text) × ((p : ℕ) × IsPast text p q × (ahead_seen text i ≤ p)))

pub told_shown : (text : List ℕ) (flow : Bool) (i : ℕ) → IsTold text flow i (told_place text (ahead text flow i))
told_shown text flow i = by_ending (is_ending (ahead text flow i).token) refl where
  Far : ℕ
  Far = (ahead text flow i).at + width (ahead text flow i) (drop (ahead text flow i).at text)

  told : (q : ℕ) → is_ending (ahead text flow i).token ≡ false → IsPassed text Far q → IsTold text flow i q
  told q n (inl e) = inl e
  told q n (inr (l, past)) = inr (n, l, (Far, past, ahead_wide text flow i n))

  by_ending : (r : Bool) → is_ending (ahead text flow i).token ≡ r → IsTold text flow i (cond r (length text) (past_return text Far))
  by_ending true n = inl refl
  by_ending false n = told (past_return text Far) n (passed_return text Far)
