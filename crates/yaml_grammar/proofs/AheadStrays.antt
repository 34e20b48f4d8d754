-- A comment or white space that ends the text with a carriage return is passed over with a line feed behind it. By induction over bytes.
use Rattle.std.proofs.Common.{◌≡◌, ℕ, suc, ◌+◌, ◌≤◌, Bool, true, false, ◌||◌, ◌&&◌, not, cond, nat_eq, nat_lt, arith, List, [], ◌∷◌, ◌++◌, drop, length, refl, sym, ap, ◌∙◌, subst, true≢false, append_assoc, append-nil}
use Rattle.std.proofs.lemmas.Bool.Decides.{nat_tests}
use Rattle.yaml_scalars.specs.Lines.{Line, lines, begins_with, begins_break, is_white, is_blank, each, lead, indent, past_white, is_mark, is_end}
use Rattle.yaml_scalars.specs.Plain.{is_unsafe}
use Rattle.yaml_scalars.specs.Block.{same, mark_len, may_end, shown, widest}
use Rattle.yaml_scalars.specs.Scalar.{is_first_column}
use Rattle.yaml_scalars.specs.code.Walk.{line_at, has_break, behind}
use Rattle.yaml_scalars.proofs.Places.{lines_are, line_fits}
use Rattle.yaml_grammar.specs.code.AheadSeen.{token_shown, first_return, content_shown, line_seen, rest_seen, ahead_seen}
use Rattle.yaml_laws.proofs.Agree.{drop_before, drop_size}
use Rattle.yaml_laws.proofs.BlockShown.{blank_less}
use Rattle.yaml_laws.proofs.Longer.{glue, rest_of, ended, no_feed, one_line, lines_ended}
use Rattle.yaml_laws.proofs.ScalarLaw.{column_longer}
use Rattle.yaml_grammar.proofs.AheadEnds.{clean_line, passed_clean, passes_line, passes_rest}
use Rattle.yaml_grammar.proofs.ScalarFails.{not_blank}
use Rattle.yaml_grammar.specs.declared.ahead.Token.{Token}
use Rattle.yaml_grammar.specs.declared.ahead.Token.TheVariants.{End, Dashes, Dots, Dash, Tag, NoTag, Opens, Closes, Comma, Point, Anchor, Percent, Tabbed, Stray, Other}
use Rattle.yaml_grammar.specs.Ahead.{is_name, begins_letter, ends_tag, tag_token, tab_token, is_tabbed, other_token, block_token, token_of, token_at, mark_of, has_return, is_passed, content_ahead, line_ahead, rest_ahead, ahead}

-- ---- what begins with no `#` and no carriage return has content

abbrev IsContent : Token → Type 0
IsContent Stray = ⊥
IsContent _ = Unit {0}

content_cond : (q : Bool) (s t : Token) → IsContent s → IsContent t → IsContent (cond q s t)
content_cond true s t h g = h
content_cond false s t h g = g

tag_content : (flow : Bool) (xs : List ℕ) → IsContent (tag_token flow xs)
tag_content flow xs = content_cond (begins_letter xs && ends_tag flow (drop (lead is_name xs) xs)) (Tag (lead is_name xs)) NoTag tt tt

other_content : (b : ℕ) → (nat_eq b 35 || nat_eq b 13) ≡ false → IsContent (other_token b)
other_content b e =
    content_cond (nat_eq b 38 || nat_eq b 42) Anchor (cond (nat_eq b 37) Percent (cond (nat_eq b 35 || nat_eq b 13) Stray Other)) tt
    (content_cond (nat_eq b 37) Percent (cond (nat_eq b 35 || nat_eq b 13) Stray Other) tt (subst (λ q. IsContent (cond q Stray Other)) (sym e) tt))

inner_content : (flow : Bool) (b : ℕ) (bs : List ℕ) → (nat_eq b 35 || nat_eq b 13) ≡ false
    → IsContent (cond (not flow) (block_token b bs) (cond (nat_eq b 93) (Closes false) (cond (nat_eq b 125) (Closes true) (cond (nat_eq b 44) Comma (cond (nat_eq b 58) (Point (is_unsafe true bs)) (cond (nat_eq b 33) (tag_token true bs) (other_token b)))))))
inner_content true b bs e =
    let last = cond (nat_eq b 33) (tag_token true bs) (other_token b) in
    let colon = cond (nat_eq b 58) (Point (is_unsafe true bs)) last in
    content_cond (nat_eq b 93) (Closes false) (cond (nat_eq b 125) (Closes true) (cond (nat_eq b 44) Comma colon)) tt
    (content_cond (nat_eq b 125) (Closes true) (cond (nat_eq b 44) Comma colon) tt
    (content_cond (nat_eq b 44) Comma colon tt (content_cond (nat_eq b 58) (Point (is_unsafe true bs)) last tt (content_cond (nat_eq b 33) (tag_token true bs) (other_token b) (tag_content true bs) (other_content b e)))))
inner_content false b bs e =
    let last = cond (nat_eq b 33) (tag_token false bs) (other_token b) in
    let colon = cond (nat_eq b 58 && is_end bs) (Point true) last in
    content_cond (nat_eq b 45 && is_end bs) Dash colon tt (content_cond (nat_eq b 58 && is_end bs) (Point true) last tt (content_cond (nat_eq b 33) (tag_token false bs) (other_token b) (tag_content false bs) (other_content b e)))

token_content : (flow : Bool) (xs : List ℕ) → (begins_with 35 xs || begins_with 13 xs) ≡ false → IsContent (token_of flow xs)
token_content flow [] e = tt
token_content flow (b ∷ bs) e =
    let inner = cond (not flow) (block_token b bs) (cond (nat_eq b 93) (Closes false) (cond (nat_eq b 125) (Closes true) (cond (nat_eq b 44) Comma (cond (nat_eq b 58) (Point (is_unsafe true bs)) (cond (nat_eq b 33) (tag_token true bs) (other_token b)))))) in
    content_cond (nat_eq b 91) (Opens false) (cond (nat_eq b 123) (Opens true) inner) tt (content_cond (nat_eq b 123) (Opens true) inner tt (inner_content flow b bs e))

-- a line whose content begins with a `#` or a carriage return
abbrev pub IsStray : List ℕ → Type 0
IsStray xs = (begins_with 35 (past_white xs) || begins_with 13 (past_white xs)) ≡ true

pub token_stray : (flow : Bool) (xs : List ℕ) → token_of flow (past_white xs) ≡ Stray → IsStray xs
token_stray flow xs h = by_test (begins_with 35 (past_white xs) || begins_with 13 (past_white xs)) refl where
  by_test : (q : Bool) → (begins_with 35 (past_white xs) || begins_with 13 (past_white xs)) ≡ q → q ≡ true
  by_test true e = refl
  by_test false e = absurd (subst IsContent h (token_content flow (past_white xs) e))

content_stray : (flow : Bool) (at : ℕ) (xs : List ℕ) → (content_ahead flow at xs).token ≡ Stray → IsStray xs
content_stray flow at xs h = by_tab (is_tabbed flow xs) h where
  of_tab : (q : Bool) → cond q Stray Tabbed ≡ Stray → q ≡ true
  of_tab true h = refl
  of_tab false h = absurd (let z : Tabbed ≡ Stray = h in cc)

  by_tab : (q : Bool) → (cond q (token_at (tab_token (past_white xs)) true (indent xs) (at + indent xs)) (token_at (token_of flow (past_white xs)) true (lead is_white xs) (at + lead is_white xs))).token ≡ Stray → IsStray xs
  by_tab true h = of_tab (begins_with 35 (past_white xs) || begins_with 13 (past_white xs)) h
  by_tab false h = token_stray flow xs h

-- ---- the carriage return is the line's last byte

first_last : (xs : List ℕ) → has_return xs ≡ true → first_return xs ≡ length xs → (f : List ℕ) × (xs ≡ f ++ (13 ∷ [])) × (has_return f ≡ false)
first_last [] h e = absurd (true≢false (sym h))
first_last (b ∷ xs) h e = by_byte (nat_eq b 13) refl h e (λ g i. first_last xs g i) where
  empty : (xs : List ℕ) → 1 ≡ suc (length xs) → xs ≡ []
  empty [] e = refl
  empty (x ∷ xs) e = absurd (omega (arith, e))

  by_byte : (q : Bool) → nat_eq b 13 ≡ q → (q || has_return xs) ≡ true → cond q 1 (suc (first_return xs)) ≡ suc (length xs)
      → (has_return xs ≡ true → first_return xs ≡ length xs → (f : List ℕ) × (xs ≡ f ++ (13 ∷ [])) × (has_return f ≡ false)) → (f : List ℕ) × (b ∷ xs ≡ f ++ (13 ∷ [])) × (has_return f ≡ false)
  by_byte true i h e r = let n : b ≡ 13 = grind (arith, nat_tests, i) in ([], ap (λ k. k ∷ xs) n ∙ ap (λ z. 13 ∷ z) (empty xs e), refl)
  by_byte false i h e r = let z = r h (omega (arith, e)) in (b ∷ z.0, ap (λ t. b ∷ t) z.1, ap (λ q. q || has_return z.0) i ∙ z.2)

white_last : (xs : List ℕ) → begins_with 13 (past_white xs) ≡ true → lead is_white xs + 1 ≡ length xs → (f : List ℕ) × (xs ≡ f ++ (13 ∷ [])) × (is_blank f ≡ true)
white_last [] h e = absurd (true≢false (sym h))
white_last (b ∷ xs) h e = by_white (is_white b) refl h e (λ g i. white_last xs g i) where
  empty : (xs : List ℕ) → 0 + 1 ≡ suc (length xs) → xs ≡ []
  empty [] e = refl
  empty (x ∷ xs) e = absurd (omega (arith, e))

  by_white : (q : Bool) → is_white b ≡ q → begins_with 13 (drop (cond q (suc (lead is_white xs)) 0) (b ∷ xs)) ≡ true → cond q (suc (lead is_white xs)) 0 + 1 ≡ suc (length xs)
      → (begins_with 13 (past_white xs) ≡ true → lead is_white xs + 1 ≡ length xs → (f : List ℕ) × (xs ≡ f ++ (13 ∷ [])) × (is_blank f ≡ true)) → (f : List ℕ) × (b ∷ xs ≡ f ++ (13 ∷ [])) × (is_blank f ≡ true)
  by_white true i h e r = let z = r h (omega (arith, e)) in (b ∷ z.0, ap (λ t. b ∷ t) z.1, ap (λ q. cond q (each is_white z.0) false) i ∙ z.2)
  by_white false i h e r = let n : b ≡ 13 = grind (arith, nat_tests, h) in ([], ap (λ k. k ∷ xs) n ∙ ap (λ z. 13 ∷ z) (empty xs e), refl)

shown_comment : (ys : List ℕ) → begins_with 35 ys ≡ true → token_shown ys ≡ 0
shown_comment [] h = refl
shown_comment (b ∷ ys) h = let n : b ≡ 35 = grind (arith, nat_tests, h) in ap (λ b. token_shown (b ∷ ys)) n

shown_return : (ys : List ℕ) → begins_with 13 ys ≡ true → token_shown ys ≡ 1
shown_return [] h = absurd (true≢false (sym h))
shown_return (b ∷ ys) h = let n : b ≡ 13 = grind (arith, nat_tests, h) in ap (λ b. token_shown (b ∷ ys)) n

-- how far such a line is looked at
return_shown : (fresh : Bool) (xs : List ℕ) → begins_with 35 (past_white xs) ≡ false → begins_with 13 (past_white xs) ≡ true → content_shown fresh xs ≡ lead is_white xs + 1
return_shown fresh xs bare h =
    ap (λ q. cond ((fresh || nat_lt 0 (lead is_white xs)) && q) (first_return xs) (lead is_white xs + token_shown (past_white xs))) bare ∙ none (fresh || nat_lt 0 (lead is_white xs)) ∙ ap (λ n. lead is_white xs + n) (shown_return (past_white xs) h) where
      none : (q : Bool) → cond (q && false) (first_return xs) (lead is_white xs + token_shown (past_white xs)) ≡ lead is_white xs + token_shown (past_white xs)
      none true = refl
      none false = refl

lead_keeps : (xs : List ℕ) → lead is_white (xs ++ (13 ∷ [])) ≡ lead is_white xs
lead_keeps [] = refl
lead_keeps (b ∷ xs) = ap (λ n. cond (is_white b) (suc n) 0) (lead_keeps xs)

lead_most : (xs : List ℕ) → lead is_white xs ≤ length xs
lead_most [] = omega arith
lead_most (b ∷ xs) = by_white (is_white b) (lead_most xs) where
  by_white : (q : Bool) → lead is_white xs ≤ length xs → cond q (suc (lead is_white xs)) 0 ≤ suc (length xs)
  by_white true h = omega (arith, h)
  by_white false h = omega arith

-- a comment without the carriage return at its end
comment_begins : (f : List ℕ) → begins_with 35 (past_white (f ++ (13 ∷ []))) ≡ true → begins_with 35 (past_white f) ≡ true
comment_begins f h =
    let there : begins_with 35 (drop (lead is_white f) (f ++ (13 ∷ []))) ≡ true = sym (ap (λ n. begins_with 35 (drop n (f ++ (13 ∷ [])))) (lead_keeps f)) ∙ h in
    rest (drop (lead is_white f) f) (sym (ap (begins_with 35) (drop_before (lead is_white f) f (13 ∷ []) (lead_most f))) ∙ there) where
      rest : (g : List ℕ) → begins_with 35 (g ++ (13 ∷ [])) ≡ true → begins_with 35 g ≡ true
      rest [] k = absurd (true≢false (sym k))
      rest (b ∷ g) k = k

or_true : (q : Bool) → (q || true) ≡ true
or_true true = refl
or_true false = refl

passed_blank : (fresh : Bool) (f : List ℕ) → is_blank f ≡ true → is_passed fresh f ≡ true
passed_blank fresh f h = ap (λ q. q || ((fresh || nat_lt 0 (lead is_white f)) && (begins_with 35 (past_white f) && not (has_return f)))) h

passed_comment : (fresh : Bool) (f : List ℕ) → (fresh || nat_lt 0 (lead is_white f)) ≡ true → begins_with 35 (past_white f) ≡ true → has_return f ≡ false → is_passed fresh f ≡ true
passed_comment fresh f a b r =
    ap (λ q. is_blank f || (q && (begins_with 35 (past_white f) && not (has_return f)))) a ∙ ap (λ q. is_blank f || (q && not (has_return f))) b ∙ ap (λ q. is_blank f || not q) r ∙ or_true (is_blank f)

-- so the line without it is passed over
stray_bytes : (fresh : Bool) (xs : List ℕ) → is_passed fresh xs ≡ false → IsStray xs → content_shown fresh xs ≡ length xs → (f : List ℕ) × (xs ≡ f ++ (13 ∷ [])) × (is_passed fresh f ≡ true)
stray_bytes fresh xs out stray size = by_comment (begins_with 35 (past_white xs)) refl stray where
  by_comment : (q : Bool) → begins_with 35 (past_white xs) ≡ q → (q || begins_with 13 (past_white xs)) ≡ true → (f : List ℕ) × (xs ≡ f ++ (13 ∷ [])) × (is_passed fresh f ≡ true)
  by_comment false e h = let z = white_last xs h (sym (return_shown fresh xs e h) ∙ size) in (z.0, z.1, passed_blank fresh z.0 z.2)
  by_comment true e h = by_white (fresh || nat_lt 0 (lead is_white xs)) refl where
    returns : (p q r s : Bool) → q ≡ true → r ≡ true → (p || (q && (r && not s))) ≡ false → s ≡ true
    returns p q r true a b h = refl
    returns true q r false a b h = absurd (true≢false h)
    returns false true true false a b h = absurd (true≢false h)
    returns false false r false a b h = absurd (true≢false (sym a))
    returns false true false false a b h = absurd (true≢false (sym b))

    none : (fresh : Bool) (n : ℕ) → (fresh || nat_lt 0 n) ≡ false → n ≡ 0
    none true n g = absurd (true≢false g)
    none false n g = grind (arith, nat_tests, g)

    empty : (ys : List ℕ) → 0 ≡ length ys → begins_with 35 (past_white ys) ≡ true → ⊥
    empty [] i k = true≢false (sym k)
    empty (y ∷ ys) i k = omega (arith, i)

    by_white : (q : Bool) → (fresh || nat_lt 0 (lead is_white xs)) ≡ q → (f : List ℕ) × (xs ≡ f ++ (13 ∷ [])) × (is_passed fresh f ≡ true)
    by_white true a =
        let there : content_shown fresh xs ≡ first_return xs = ap (λ q. cond (q && begins_with 35 (past_white xs)) (first_return xs) (lead is_white xs + token_shown (past_white xs))) a ∙ ap (λ q. cond q (first_return xs) (lead is_white xs + token_shown (past_white xs))) e in
        let r = returns (is_blank xs) (fresh || nat_lt 0 (lead is_white xs)) (begins_with 35 (past_white xs)) (has_return xs) a e out in
        let z = first_last xs r (sym there ∙ size) in
        let white : (fresh || nat_lt 0 (lead is_white z.0)) ≡ true = sym (ap (λ n. fresh || nat_lt 0 n) (ap (lead is_white) z.1 ∙ lead_keeps z.0)) ∙ a in
        (z.0, z.1, passed_comment fresh z.0 white (comment_begins z.0 (sym (ap (λ t. begins_with 35 (past_white t)) z.1) ∙ e)) z.2)
    by_white false a =
        let there : content_shown fresh xs ≡ lead is_white xs + token_shown (past_white xs) = ap (λ q. cond (q && begins_with 35 (past_white xs)) (first_return xs) (lead is_white xs + token_shown (past_white xs))) a in
        let n = none fresh (lead is_white xs) a in
        let k = shown_comment (past_white xs) e in
        absurd (empty xs (omega (arith, there, size, n, k)) e)

passed_mark : (f : List ℕ) → is_passed true f ≡ true → is_mark f ≡ false
passed_mark [] h = refl
passed_mark (a ∷ []) h = refl
passed_mark (a ∷ b ∷ []) h = refl
passed_mark (a ∷ b ∷ c ∷ f) h = by_dash (nat_eq a 45 || nat_eq a 46) refl where
  by_dash : (q : Bool) → (nat_eq a 45 || nat_eq a 46) ≡ q → (q && (nat_eq a b && (nat_eq a c && is_end f))) ≡ false
  by_dash false e = refl
  by_dash true e =
      let white : is_white a ≡ false = grind (arith, nat_tests, e) in
      let comment : nat_eq a 35 ≡ false = grind (arith, nat_tests, e) in
      absurd (true≢false (sym h ∙ ap (λ q. cond q (each is_white (b ∷ c ∷ f)) false || (true && (begins_with 35 (drop (cond q (suc (lead is_white (b ∷ c ∷ f))) 0) (a ∷ b ∷ c ∷ f)) && not (has_return (a ∷ b ∷ c ∷ f))))) white
      ∙ ap (λ q. q && not (has_return (a ∷ b ∷ c ∷ f))) comment))

-- ---- how far a line is looked at, by both measures

first_lead : (xs : List ℕ) → lead is_white xs ≤ first_return xs
first_lead [] = omega arith
first_lead (b ∷ xs) = by_white (is_white b) refl (first_lead xs) where
  by_white : (q : Bool) → is_white b ≡ q → lead is_white xs ≤ first_return xs → cond q (suc (lead is_white xs)) 0 ≤ cond (nat_eq b 13) 1 (suc (first_return xs))
  by_white true e h = let n : nat_eq b 13 ≡ false = grind (arith, nat_tests, e) in subst (λ q. suc (lead is_white xs) ≤ cond q 1 (suc (first_return xs))) (sym n) (omega (arith, h))
  by_white false e h = omega arith

first_most : (xs : List ℕ) → first_return xs ≤ length xs
first_most [] = omega arith
first_most (b ∷ xs) = by_byte (nat_eq b 13) (first_most xs) where
  by_byte : (q : Bool) → first_return xs ≤ length xs → cond q 1 (suc (first_return xs)) ≤ suc (length xs)
  by_byte true h = omega arith
  by_byte false h = omega (arith, h)

mark_none : (xs : List ℕ) → IsStray xs → mark_len xs ≡ 0
mark_none [] h = refl
mark_none (b ∷ bs) h = by_white (is_white b) refl h where
  none : (nat_eq b 45 || nat_eq b 46) ≡ false → cond (nat_eq b 45 || nat_eq b 46) (suc (same b 2 bs)) 0 ≡ 0
  none e = ap (λ q. cond q (suc (same b 2 bs)) 0) e

  by_white : (q : Bool) → is_white b ≡ q → (begins_with 35 (drop (cond q (suc (lead is_white bs)) 0) (b ∷ bs)) || begins_with 13 (drop (cond q (suc (lead is_white bs)) 0) (b ∷ bs))) ≡ true → cond (nat_eq b 45 || nat_eq b 46) (suc (same b 2 bs)) 0 ≡ 0
  by_white true e h = none (grind (arith, nat_tests, e))
  by_white false e h = none (grind (arith, nat_tests, h))

shown_least : (xs : List ℕ) → IsStray xs → shown xs ≤ content_shown true xs
shown_least xs stray = by_comment (begins_with 35 (past_white xs)) refl stray where
  m : mark_len xs ≡ 0
  m = mark_none xs stray

  most : (q : Bool) → cond q (suc (lead is_white xs + mark_len xs)) (lead is_white xs + mark_len xs) ≤ lead is_white xs + 1
  most true = let e = m in omega (arith, e)
  most false = let e = m in omega (arith, e)

  by_comment : (q : Bool) → begins_with 35 (past_white xs) ≡ q → (q || begins_with 13 (past_white xs)) ≡ true → shown xs ≤ cond q (first_return xs) (lead is_white xs + token_shown (past_white xs))
  by_comment false e h = let k = shown_return (past_white xs) h in let l = most (begins_with 13 (drop (lead is_white xs + mark_len xs) xs) && may_end (mark_len xs)) in omega (arith, k, l)
  by_comment true e h =
      let f = first_lead xs in
      let here : lead is_white xs + mark_len xs ≡ lead is_white xs = (let z = m in omega (arith, z)) in
      let bare : begins_with 13 (drop (lead is_white xs + mark_len xs) xs) ≡ false = ap (λ k. begins_with 13 (drop k xs)) here ∙ other (past_white xs) e in
      subst (λ q. cond (q && may_end (mark_len xs)) (suc (lead is_white xs + mark_len xs)) (lead is_white xs + mark_len xs) ≤ first_return xs) (sym bare) (omega (arith, here, f)) where
        other : (ys : List ℕ) → begins_with 35 ys ≡ true → begins_with 13 ys ≡ false
        other [] k = refl
        other (y ∷ ys) k = grind (arith, nat_tests, k)

widest_is : (a b : ℕ) → a ≤ b → widest a b ≡ b
widest_is a b l = by_less (nat_lt a b) refl where
  by_less : (q : Bool) → nat_lt a b ≡ q → cond q b a ≡ b
  by_less true e = refl
  by_less false e = grind (arith, nat_tests, e, l)

content_most : (fresh : Bool) (xs : List ℕ) → is_passed fresh xs ≡ false → IsStray xs → content_shown fresh xs ≤ length xs
content_most fresh xs out stray = by_comment (begins_with 35 (past_white xs)) refl stray (fresh || nat_lt 0 (lead is_white xs)) where
  by_comment : (q : Bool) → begins_with 35 (past_white xs) ≡ q → (q || begins_with 13 (past_white xs)) ≡ true → (p : Bool) → cond (p && q) (first_return xs) (lead is_white xs + token_shown (past_white xs)) ≤ length xs
  by_comment true e h true = first_most xs
  by_comment true e h false = let k = shown_comment (past_white xs) e in let l = lead_most xs in omega (arith, k, l)
  by_comment false e h true = let k = shown_return (past_white xs) h in let l = blank_less xs (not_blank fresh xs out) in omega (arith, k, l)
  by_comment false e h false = let k = shown_return (past_white xs) h in let l = blank_less xs (not_blank fresh xs out) in omega (arith, k, l)

-- ---- lines

line_whole : (xs : List ℕ) → length xs ≤ length (line_at xs) → line_at xs ≡ xs
line_whole [] l = refl
line_whole (b ∷ xs) l = by_break (begins_break b xs) l (λ m. line_whole xs m) where
  by_break : (q : Bool) → suc (length xs) ≤ length (cond q [] (b ∷ line_at xs)) → (length xs ≤ length (line_at xs) → line_at xs ≡ xs) → cond q [] (b ∷ line_at xs) ≡ b ∷ xs
  by_break true m r = absurd (omega (arith, m))
  by_break false m r = ap (λ t. b ∷ t) (r (omega (arith, m)))

line_feedless : (xs : List ℕ) → no_feed (line_at xs) ≡ true
line_feedless [] = refl
line_feedless (b ∷ xs) = by_feed (nat_eq b 10) (nat_eq b 13 && begins_with 10 xs) refl (line_feedless xs) where
  by_feed : (p q : Bool) → nat_eq b 10 ≡ p → no_feed (line_at xs) ≡ true → no_feed (cond (p || q) [] (b ∷ line_at xs)) ≡ true
  by_feed true q e h = refl
  by_feed false true e h = refl
  by_feed false false e h = ap (λ q. cond q false (no_feed (line_at xs))) e ∙ h

front_feedless : (f y : List ℕ) → no_feed (f ++ y) ≡ true → no_feed f ≡ true
front_feedless [] y h = refl
front_feedless (b ∷ f) y h = by_feed (nat_eq b 10) h (λ g. front_feedless f y g) where
  by_feed : (q : Bool) → cond q false (no_feed (f ++ y)) ≡ true → (no_feed (f ++ y) ≡ true → no_feed f ≡ true) → cond q false (no_feed f) ≡ true
  by_feed true g r = absurd (true≢false (sym g))
  by_feed false g r = r g

-- a line that ends the text with a carriage return, with a line feed behind it
broken_lines : (at : ℕ) (xs f : List ℕ) → line_at xs ≡ xs → xs ≡ f ++ (13 ∷ []) → lines at (xs ++ (10 ∷ [])) ≡ record { at = at; bytes = f ++ []; broken = true } ∷ rest_of (suc (suc (at + length f))) [] ∷ []
broken_lines at xs f whole e =
    let none : no_feed f ≡ true = front_feedless f (13 ∷ []) (sym (ap no_feed (whole ∙ e)) ∙ line_feedless xs) in
    ap (λ t. lines at (t ++ (10 ∷ []))) e ∙ ap (lines at) (append_assoc f (13 ∷ []) (10 ∷ [])) ∙ lines_ended at f [] refl ∙ ap (λ ls. glue ls (ended (at + length f) [])) (one_line at f none)

module _ (flow : Bool) (size p most : ℕ) where
  abbrev Strays : ℕ → List ℕ → Type 0
  Strays at xs = at + length xs ≡ p → (line_ahead flow size (behind at xs)).token ≡ Stray → line_seen p (behind at xs) ≡ p → (line_ahead flow most (behind at (xs ++ (10 ∷ [])))).token ≡ End

  -- the line itself
  last_line : (at : ℕ) (xs : List ℕ) → at + length xs ≡ p → is_passed true (line_at xs) ≡ false → IsStray (line_at xs) → at + content_shown true (line_at xs) ≡ p → (line_ahead flow most (lines at (xs ++ (10 ∷ [])))).token ≡ End
  last_line at xs end out stray seen =
      let fits = line_fits xs in
      let most_of = content_most true (line_at xs) out stray in
      let whole = line_whole xs (omega (arith, fits, most_of, seen, end)) in
      let size_is : content_shown true (line_at xs) ≡ length (line_at xs) = omega (arith, fits, most_of, seen, end) in
      let z = stray_bytes true (line_at xs) out stray size_is in
      let l : Line = record { at = at; bytes = z.0 ++ []; broken = true } in
      let nil = append-nil z.0 in
      ap (λ ls. (line_ahead flow most ls).token) (broken_lines at xs z.0 whole (sym whole ∙ z.1)) ∙ ap (λ a. a.token) (passes_line flow most l (rest_of (suc (suc (at + length z.0))) [] ∷ []) (ap is_mark nil ∙ passed_mark z.0 z.2) (ap (is_passed true) nil ∙ z.2))

  stray_line : (at : ℕ) (xs : List ℕ) → Strays at xs → at + length xs ≡ p → (line_ahead flow size (lines at xs)).token ≡ Stray → line_seen p (lines at xs) ≡ p → (line_ahead flow most (lines at (xs ++ (10 ∷ [])))).token ≡ End
  stray_line at xs next end h seen =
      by_tests (is_mark (line_at xs)) (is_passed true (line_at xs)) refl refl (sym (ap (λ ls. (line_ahead flow size ls).token) (lines_are at xs)) ∙ h) (sym (ap (line_seen p) (lines_are at xs)) ∙ seen) where
        no_mark : (q : Bool) → cond q Dashes Dots ≡ Stray → ⊥
        no_mark true g = (let z : Dashes ≡ Stray = g in cc)
        no_mark false g = (let z : Dots ≡ Stray = g in cc)

        by_tests : (q r : Bool) → is_mark (line_at xs) ≡ q → is_passed true (line_at xs) ≡ r → (cond q (token_at (mark_of (line_at xs)) true 0 at) (cond r (line_ahead flow size (behind at xs)) (content_ahead flow at (line_at xs)))).token ≡ Stray
            → cond q (at + 4) (cond r (line_seen p (behind at xs)) (at + widest (shown (line_at xs)) (content_shown true (line_at xs)))) ≡ p → (line_ahead flow most (lines at (xs ++ (10 ∷ [])))).token ≡ End
        by_tests true r i j g s = absurd (no_mark (begins_with 45 (line_at xs)) g)
        by_tests false true i j g s =
            let same = clean_line xs (passed_clean true (line_at xs) j) in
            ap (λ ls. (line_ahead flow most ls).token) (lines_are at (xs ++ (10 ∷ [])))
            ∙ ap (λ a. a.token) (passes_line flow most (record { at = at; bytes = line_at (xs ++ (10 ∷ [])); broken = has_break (xs ++ (10 ∷ [])) }) (behind at (xs ++ (10 ∷ []))) (ap is_mark same ∙ i) (ap (is_passed true) same ∙ j)) ∙ next end g s
        by_tests false false i j g s =
            let stray = content_stray flow at (line_at xs) g in
            let w = widest_is (shown (line_at xs)) (content_shown true (line_at xs)) (shown_least (line_at xs) stray) in
            last_line at xs end j stray (omega (arith, w, s))

  stray_behind : (at : ℕ) (xs : List ℕ) → Strays at xs
  stray_behind at [] end h s = absurd (let z : End ≡ Stray = h in cc)
  stray_behind at (b ∷ xs) end h s = by_feed (nat_eq b 10) h s (λ e g i. stray_behind (suc at) xs e g i) where
    next_end : suc at + length xs ≡ p
    next_end = omega (arith, end)

    by_feed : (q : Bool) → (line_ahead flow size (cond q (lines (suc at) xs) (behind (suc at) xs))).token ≡ Stray → line_seen p (cond q (lines (suc at) xs) (behind (suc at) xs)) ≡ p → Strays (suc at) xs
        → (line_ahead flow most (cond q (lines (suc at) (xs ++ (10 ∷ []))) (behind (suc at) (xs ++ (10 ∷ []))))).token ≡ End
    by_feed true h s next = stray_line (suc at) xs next next_end h s
    by_feed false h s next = next next_end h s

  stray_rest : (at : ℕ) (xs : List ℕ) → at + length xs ≡ p → (rest_ahead flow size (lines at xs)).token ≡ Stray → rest_seen p (lines at xs) ≡ p → (rest_ahead flow most (lines at (xs ++ (10 ∷ [])))).token ≡ End
  stray_rest at xs end h seen =
      by_test (is_passed false (line_at xs)) refl (sym (ap (λ ls. (rest_ahead flow size ls).token) (lines_are at xs)) ∙ h) (sym (ap (rest_seen p) (lines_are at xs)) ∙ seen) where
        by_test : (r : Bool) → is_passed false (line_at xs) ≡ r → (cond r (line_ahead flow size (behind at xs)) (token_at (token_of flow (past_white (line_at xs))) false (lead is_white (line_at xs)) (at + lead is_white (line_at xs)))).token ≡ Stray
            → cond r (line_seen p (behind at xs)) (at + content_shown false (line_at xs)) ≡ p → (rest_ahead flow most (lines at (xs ++ (10 ∷ [])))).token ≡ End
        by_test true j g s =
            let same = clean_line xs (passed_clean false (line_at xs) j) in
            ap (λ ls. (rest_ahead flow most ls).token) (lines_are at (xs ++ (10 ∷ [])))
            ∙ ap (λ a. a.token) (passes_rest flow most (record { at = at; bytes = line_at (xs ++ (10 ∷ [])); broken = has_break (xs ++ (10 ∷ [])) }) (behind at (xs ++ (10 ∷ []))) (ap (is_passed false) same ∙ j)) ∙ stray_behind at xs end g s
        by_test false j g s =
            let stray = token_stray flow (line_at xs) g in
            let fits = line_fits xs in
            let most_of = content_most false (line_at xs) j stray in
            let whole = line_whole xs (omega (arith, fits, most_of, s, end)) in
            let size_is : content_shown false (line_at xs) ≡ length (line_at xs) = omega (arith, fits, most_of, s, end) in
            let z = stray_bytes false (line_at xs) j stray size_is in
            let nil = append-nil z.0 in
            ap (λ ls. (rest_ahead flow most ls).token) (broken_lines at xs z.0 whole (sym whole ∙ z.1))
            ∙ ap (λ a. a.token) (passes_rest flow most (record { at = at; bytes = z.0 ++ []; broken = true }) (rest_of (suc (suc (at + length z.0))) [] ∷ []) (ap (is_passed false) nil ∙ z.2))

-- a text and a longer one
pub stray_feed : (text : List ℕ) (flow : Bool) (i : ℕ) → i ≤ length text → (ahead text flow i).token ≡ Stray → ahead_seen text i ≡ length text → (ahead (text ++ (10 ∷ [])) flow i).token ≡ End
stray_feed text flow i low h seen =
    let there : lines i (drop i (text ++ (10 ∷ []))) ≡ lines i (drop i text ++ (10 ∷ [])) = ap (lines i) (drop_before i text (10 ∷ []) low) in
    ap (λ c. (cond c (line_ahead flow (length (text ++ (10 ∷ []))) (lines i (drop i (text ++ (10 ∷ []))))) (rest_ahead flow (length (text ++ (10 ∷ []))) (lines i (drop i (text ++ (10 ∷ [])))))).token) (column_longer text (10 ∷ []) i low)
    ∙ by_column (is_first_column text i) there (drop_size i text low) h seen where
      by_column : (c : Bool) → lines i (drop i (text ++ (10 ∷ []))) ≡ lines i (drop i text ++ (10 ∷ [])) → i + length (drop i text) ≡ length text → (cond c (line_ahead flow (length text) (lines i (drop i text))) (rest_ahead flow (length text) (lines i (drop i text)))).token ≡ Stray
          → cond c (line_seen (length text) (lines i (drop i text))) (rest_seen (length text) (lines i (drop i text))) ≡ length text
          → (cond c (line_ahead flow (length (text ++ (10 ∷ []))) (lines i (drop i (text ++ (10 ∷ []))))) (rest_ahead flow (length (text ++ (10 ∷ []))) (lines i (drop i (text ++ (10 ∷ [])))))).token ≡ End
      by_column true there size h s =
          ap (λ ls. (line_ahead flow (length (text ++ (10 ∷ []))) ls).token) there
          ∙ stray_line flow (length text) (length text) (length (text ++ (10 ∷ []))) i (drop i text) (stray_behind flow (length text) (length text) (length (text ++ (10 ∷ []))) i (drop i text)) size h s
      by_column false there size h s = ap (λ ls. (rest_ahead flow (length (text ++ (10 ∷ []))) ls).token) there ∙ stray_rest flow (length text) (length text) (length (text ++ (10 ∷ []))) i (drop i text) size h s
