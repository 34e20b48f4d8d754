-- Where a text has nothing ahead of a place, what stands behind the text's last line feed is what a longer text has ahead there; and a line feed behind a text leaves nothing ahead where nothing was. By induction over bytes.
use Rattle.std.proofs.Common.{◌≡◌, ℕ, suc, ◌+◌, ◌-◌, ◌≤◌, Bool, true, false, ◌||◌, ◌&&◌, not, cond, nat_eq, nat_lt, arith, List, [], ◌∷◌, ◌++◌, drop, length, get_or, refl, sym, ap, ◌∙◌, subst, true≢false}
use Rattle.std.proofs.lemmas.Bool.Decides.{nat_tests}
use Rattle.yaml_scalars.specs.Lines.{Line, lines, begins_with, is_white, is_blank, lead, indent, past_white, is_mark, is_end}
use Rattle.yaml_scalars.specs.Plain.{is_unsafe}
use Rattle.yaml_scalars.specs.Scalar.{begins_order_mark, is_first_column}
use Rattle.yaml_scalars.specs.code.Walk.{line_at, has_break, behind}
use Rattle.yaml_scalars.proofs.Places.{lines_are}
use Rattle.yaml_laws.proofs.Agree.{drop_before, drop_size}
use Rattle.yaml_laws.proofs.ScalarLaw.{column_longer, column_same}
use Rattle.yaml_grammar.specs.declared.ahead.Token.{Token}
use Rattle.yaml_grammar.specs.declared.ahead.Token.TheVariants.{End, Dashes, Dots, Dash, Tag, NoTag, Opens, Closes, Comma, Point, Anchor, Percent, Tabbed, Stray, Other}
use Rattle.yaml_grammar.specs.Ahead.{is_name, begins_letter, ends_tag, tag_token, tab_token, is_tabbed, other_token, block_token, token_of, token_at, mark_of, has_return, is_passed, content_ahead, line_ahead, rest_ahead, ahead}

-- ---- a line that is not passed over has a token

abbrev pub IsSome : Token → Type 0
IsSome End = ⊥
IsSome _ = Unit {0}

some_cond : (q : Bool) (s t : Token) → IsSome s → IsSome t → IsSome (cond q s t)
some_cond true s t h g = h
some_cond false s t h g = g

tag_some : (flow : Bool) (xs : List ℕ) → IsSome (tag_token flow xs)
tag_some flow xs = some_cond (begins_letter xs && ends_tag flow (drop (lead is_name xs) xs)) (Tag (lead is_name xs)) NoTag tt tt

other_some : (b : ℕ) → IsSome (other_token b)
other_some b =
    some_cond (nat_eq b 38 || nat_eq b 42) Anchor (cond (nat_eq b 37) Percent (cond (nat_eq b 35 || nat_eq b 13) Stray Other)) tt
    (some_cond (nat_eq b 37) Percent (cond (nat_eq b 35 || nat_eq b 13) Stray Other) tt (some_cond (nat_eq b 35 || nat_eq b 13) Stray Other tt tt))

inner_some : (flow : Bool) (b : ℕ) (bs : List ℕ)
    → IsSome (cond (not flow) (block_token b bs) (cond (nat_eq b 93) (Closes false) (cond (nat_eq b 125) (Closes true) (cond (nat_eq b 44) Comma (cond (nat_eq b 58) (Point (is_unsafe true bs)) (cond (nat_eq b 33) (tag_token true bs) (other_token b)))))))
inner_some true b bs =
    let last = cond (nat_eq b 33) (tag_token true bs) (other_token b) in
    let colon = cond (nat_eq b 58) (Point (is_unsafe true bs)) last in
    some_cond (nat_eq b 93) (Closes false) (cond (nat_eq b 125) (Closes true) (cond (nat_eq b 44) Comma colon)) tt
    (some_cond (nat_eq b 125) (Closes true) (cond (nat_eq b 44) Comma colon) tt
    (some_cond (nat_eq b 44) Comma colon tt (some_cond (nat_eq b 58) (Point (is_unsafe true bs)) last tt (some_cond (nat_eq b 33) (tag_token true bs) (other_token b) (tag_some true bs) (other_some b)))))
inner_some false b bs =
    let last = cond (nat_eq b 33) (tag_token false bs) (other_token b) in
    let colon = cond (nat_eq b 58 && is_end bs) (Point true) last in
    some_cond (nat_eq b 45 && is_end bs) Dash colon tt (some_cond (nat_eq b 58 && is_end bs) (Point true) last tt (some_cond (nat_eq b 33) (tag_token false bs) (other_token b) (tag_some false bs) (other_some b)))

pub token_some : (flow : Bool) (xs : List ℕ) → IsSome (token_of flow xs)
token_some flow [] = tt
token_some flow (b ∷ bs) =
    let inner = cond (not flow) (block_token b bs) (cond (nat_eq b 93) (Closes false) (cond (nat_eq b 125) (Closes true) (cond (nat_eq b 44) Comma (cond (nat_eq b 58) (Point (is_unsafe true bs)) (cond (nat_eq b 33) (tag_token true bs) (other_token b)))))) in
    some_cond (nat_eq b 91) (Opens false) (cond (nat_eq b 123) (Opens true) inner) tt (some_cond (nat_eq b 123) (Opens true) inner tt (inner_some flow b bs))

mark_some : (xs : List ℕ) → IsSome (mark_of xs)
mark_some xs = some_cond (begins_with 45 xs) Dashes Dots tt tt

tab_some : (xs : List ℕ) → IsSome (tab_token xs)
tab_some xs = some_cond (begins_with 35 xs || begins_with 13 xs) Stray Tabbed tt tt

content_some : (flow : Bool) (at : ℕ) (xs : List ℕ) → IsSome (content_ahead flow at xs).token
content_some flow at xs = by_tab (is_tabbed flow xs) where
  by_tab : (q : Bool) → IsSome (cond q (token_at (tab_token (past_white xs)) true (indent xs) (at + indent xs)) (token_at (token_of flow (past_white xs)) true (lead is_white xs) (at + lead is_white xs))).token
  by_tab true = tab_some (past_white xs)
  by_tab false = token_some flow (past_white xs)

-- ---- lines with nothing ahead

pub line_over : (flow : Bool) (size : ℕ) (l : Line) (ls : List Line) → (line_ahead flow size (l ∷ ls)).token ≡ End → (is_mark l.bytes ≡ false) × (is_passed true l.bytes ≡ true)
line_over flow size l ls h = by_tests (is_mark l.bytes) (is_passed true l.bytes) h where
  by_tests : (q r : Bool) → (cond q (token_at (mark_of l.bytes) true 0 l.at) (cond r (line_ahead flow size ls) (content_ahead flow l.at l.bytes))).token ≡ End → (q ≡ false) × (r ≡ true)
  by_tests true r h = absurd (subst IsSome h (mark_some l.bytes))
  by_tests false true h = (refl, refl)
  by_tests false false h = absurd (subst IsSome h (content_some flow l.at l.bytes))

pub rest_over : (flow : Bool) (size : ℕ) (l : Line) (ls : List Line) → (rest_ahead flow size (l ∷ ls)).token ≡ End → is_passed false l.bytes ≡ true
rest_over flow size l ls h = by_test (is_passed false l.bytes) h where
  by_test : (r : Bool) → (cond r (line_ahead flow size ls) (token_at (token_of flow (past_white l.bytes)) false (lead is_white l.bytes) (l.at + lead is_white l.bytes))).token ≡ End → r ≡ true
  by_test true h = refl
  by_test false h = absurd (subst IsSome h (token_some flow (past_white l.bytes)))

pub passes_line : (flow : Bool) (size : ℕ) (l : Line) (ls : List Line) → is_mark l.bytes ≡ false → is_passed true l.bytes ≡ true → line_ahead flow size (l ∷ ls) ≡ line_ahead flow size ls
passes_line flow size l ls e f = ap (λ q. cond q (token_at (mark_of l.bytes) true 0 l.at) (cond (is_passed true l.bytes) (line_ahead flow size ls) (content_ahead flow l.at l.bytes))) e ∙ ap (λ q. cond q (line_ahead flow size ls) (content_ahead flow l.at l.bytes)) f

pub passes_rest : (flow : Bool) (size : ℕ) (l : Line) (ls : List Line) → is_passed false l.bytes ≡ true → rest_ahead flow size (l ∷ ls) ≡ line_ahead flow size ls
passes_rest flow size l ls e = ap (λ q. cond q (line_ahead flow size ls) (token_at (token_of flow (past_white l.bytes)) false (lead is_white l.bytes) (l.at + lead is_white l.bytes))) e

-- in flow and outside of it
line_flows : (p q : Bool) (size : ℕ) (ls : List Line) → (line_ahead p size ls).token ≡ End → (line_ahead q size ls).token ≡ End
line_flows p q size [] h = refl
line_flows p q size (l ∷ ls) h =
    let o = line_over p size l ls h in
    ap (λ a. a.token) (passes_line q size l ls o.0 o.1) ∙ line_flows p q size ls (sym (ap (λ a. a.token) (passes_line p size l ls o.0 o.1)) ∙ h)

rest_flows : (p q : Bool) (size : ℕ) (ls : List Line) → (rest_ahead p size ls).token ≡ End → (rest_ahead q size ls).token ≡ End
rest_flows p q size [] h = refl
rest_flows p q size (l ∷ ls) h =
    let o = rest_over p size l ls h in
    ap (λ a. a.token) (passes_rest q size l ls o) ∙ line_flows p q size ls (sym (ap (λ a. a.token) (passes_rest p size l ls o)) ∙ h)

pub end_flows : (p q : Bool) (text : List ℕ) (i : ℕ) → (ahead text p i).token ≡ End → (ahead text q i).token ≡ End
end_flows p q text i h = by_column (is_first_column text i) h where
  ls : List Line
  ls = lines i (drop i text)

  by_column : (c : Bool) → (cond c (line_ahead p (length text) (lines i (drop i text))) (rest_ahead p (length text) (lines i (drop i text)))).token ≡ End → (cond c (line_ahead q (length text) (lines i (drop i text))) (rest_ahead q (length text) (lines i (drop i text)))).token ≡ End
  by_column true h = line_flows p q (length text) (lines i (drop i text)) h
  by_column false h = rest_flows p q (length text) (lines i (drop i text)) h

-- ---- more behind the last line feed

front_line : (xs y : List ℕ) → line_at (xs ++ (10 ∷ y)) ≡ line_at (xs ++ (10 ∷ []))
front_line [] y = refl
front_line (b ∷ []) y = refl
front_line (b ∷ c ∷ xs) y = ap (λ t. cond (nat_eq b 10 || (nat_eq b 13 && nat_eq c 10)) [] (b ∷ t)) (front_line (c ∷ xs) y)

module _ (flow : Bool) (size most : ℕ) (y : List ℕ) where
  -- from the next line on
  abbrev Goes : ℕ → List ℕ → Type 0
  Goes at xs = (line_ahead flow size (behind at (xs ++ (10 ∷ [])))).token ≡ End → line_ahead flow most (behind at (xs ++ (10 ∷ y))) ≡ line_ahead flow most (lines (suc (at + length xs)) y)

  from_line : (at : ℕ) (xs : List ℕ) → Goes at xs → (line_ahead flow size (lines at (xs ++ (10 ∷ [])))).token ≡ End → line_ahead flow most (lines at (xs ++ (10 ∷ y))) ≡ line_ahead flow most (lines (suc (at + length xs)) y)
  from_line at xs next h =
      let old : Line = record { at = at; bytes = line_at (xs ++ (10 ∷ [])); broken = has_break (xs ++ (10 ∷ [])) } in
      let new : Line = record { at = at; bytes = line_at (xs ++ (10 ∷ y)); broken = has_break (xs ++ (10 ∷ y)) } in
      let same : line_at (xs ++ (10 ∷ y)) ≡ line_at (xs ++ (10 ∷ [])) = front_line xs y in
      let g = sym (ap (λ ls. (line_ahead flow size ls).token) (lines_are at (xs ++ (10 ∷ [])))) ∙ h in
      let o = line_over flow size old (behind at (xs ++ (10 ∷ []))) g in
      let below = sym (ap (λ a. a.token) (passes_line flow size old (behind at (xs ++ (10 ∷ []))) o.0 o.1)) ∙ g in
      ap (line_ahead flow most) (lines_are at (xs ++ (10 ∷ y))) ∙ passes_line flow most new (behind at (xs ++ (10 ∷ y))) (ap is_mark same ∙ o.0) (ap (is_passed true) same ∙ o.1) ∙ next below

  from_behind : (at : ℕ) (xs : List ℕ) → Goes at xs
  from_behind at [] h = let e : suc at ≡ suc (at + 0) = omega arith in ap (λ n. line_ahead flow most (lines n y)) e
  from_behind at (b ∷ xs) h = by_feed (nat_eq b 10) h (λ g. from_behind (suc at) xs g) where
    e : suc (suc at + length xs) ≡ suc (at + suc (length xs))
    e = omega arith

    by_feed : (q : Bool) → (line_ahead flow size (cond q (lines (suc at) (xs ++ (10 ∷ []))) (behind (suc at) (xs ++ (10 ∷ []))))).token ≡ End → Goes (suc at) xs
        → line_ahead flow most (cond q (lines (suc at) (xs ++ (10 ∷ y))) (behind (suc at) (xs ++ (10 ∷ y)))) ≡ line_ahead flow most (lines (suc (at + suc (length xs))) y)
    by_feed true h next = from_line (suc at) xs next h ∙ ap (λ n. line_ahead flow most (lines n y)) e
    by_feed false h next = next h ∙ ap (λ n. line_ahead flow most (lines n y)) e

  over_line : (at : ℕ) (xs : List ℕ) → (line_ahead flow size (lines at (xs ++ (10 ∷ [])))).token ≡ End → line_ahead flow most (lines at (xs ++ (10 ∷ y))) ≡ line_ahead flow most (lines (suc (at + length xs)) y)
  over_line at xs h = from_line at xs (from_behind at xs) h

  over_rest : (at : ℕ) (xs : List ℕ) → (rest_ahead flow size (lines at (xs ++ (10 ∷ [])))).token ≡ End → rest_ahead flow most (lines at (xs ++ (10 ∷ y))) ≡ line_ahead flow most (lines (suc (at + length xs)) y)
  over_rest at xs h =
      let old : Line = record { at = at; bytes = line_at (xs ++ (10 ∷ [])); broken = has_break (xs ++ (10 ∷ [])) } in
      let new : Line = record { at = at; bytes = line_at (xs ++ (10 ∷ y)); broken = has_break (xs ++ (10 ∷ y)) } in
      let same : line_at (xs ++ (10 ∷ y)) ≡ line_at (xs ++ (10 ∷ [])) = front_line xs y in
      let g = sym (ap (λ ls. (rest_ahead flow size ls).token) (lines_are at (xs ++ (10 ∷ [])))) ∙ h in
      let o = rest_over flow size old (behind at (xs ++ (10 ∷ []))) g in
      let below = sym (ap (λ a. a.token) (passes_rest flow size old (behind at (xs ++ (10 ∷ []))) o)) ∙ g in
      ap (rest_ahead flow most) (lines_are at (xs ++ (10 ∷ y))) ∙ passes_rest flow most new (behind at (xs ++ (10 ∷ y))) (ap (is_passed false) same ∙ o) ∙ from_behind at xs below

-- behind a line feed begins a line
pub seam_get : (before y : List ℕ) (b : ℕ) → get_or (before ++ (b ∷ y)) (length before) 0 ≡ b
seam_get [] y b = refl
seam_get (x ∷ before) y b = seam_get before y b

any_true : (p q : Bool) → ((p || q) || true) ≡ true
any_true true q = refl
any_true false true = refl
any_true false false = refl

feed_column : (before y : List ℕ) → is_first_column (before ++ (10 ∷ y)) (suc (length before)) ≡ true
feed_column before y =
    let n : suc (length before) - 1 ≡ length before = omega arith in
    let w = before ++ (10 ∷ y) in
    ap (λ b. (nat_eq (suc (length before)) 0 || (nat_eq (suc (length before)) 3 && begins_order_mark (before ++ (10 ∷ y)))) || nat_eq b 10) (ap (λ k. get_or (before ++ (10 ∷ y)) k 0) n ∙ seam_get before y 10)
    ∙ any_true (nat_eq (suc (length before)) 0) (nat_eq (suc (length before)) 3 && begins_order_mark (before ++ (10 ∷ y)))

behind_feed : (before y : List ℕ) → drop (suc (length before)) (before ++ (10 ∷ y)) ≡ y
behind_feed [] y = refl
behind_feed (x ∷ before) y = behind_feed before y

pub over_text : (before y : List ℕ) (flow : Bool) (i : ℕ) → i ≤ length before → (ahead (before ++ (10 ∷ [])) flow i).token ≡ End → ahead (before ++ (10 ∷ y)) flow i ≡ ahead (before ++ (10 ∷ y)) flow (suc (length before))
over_text before y flow i low h = by_column (is_first_column (before ++ (10 ∷ [])) i) refl h ∙ sym there where
  xs : List ℕ
  xs = drop i before

  size : ℕ
  size = length (before ++ (10 ∷ []))

  most : ℕ
  most = length (before ++ (10 ∷ y))

  old_lines : lines i (drop i (before ++ (10 ∷ []))) ≡ lines i (drop i before ++ (10 ∷ []))
  old_lines = ap (lines i) (drop_before i before (10 ∷ []) low)

  new_lines : lines i (drop i (before ++ (10 ∷ y))) ≡ lines i (drop i before ++ (10 ∷ y))
  new_lines = ap (lines i) (drop_before i before (10 ∷ y) low)

  place : suc (i + length (drop i before)) ≡ suc (length before)
  place = ap suc (drop_size i before low)

  there : ahead (before ++ (10 ∷ y)) flow (suc (length before)) ≡ line_ahead flow (length (before ++ (10 ∷ y))) (lines (suc (length before)) y)
  there =
      ap (λ c. cond c (line_ahead flow (length (before ++ (10 ∷ y))) (lines (suc (length before)) (drop (suc (length before)) (before ++ (10 ∷ y))))) (rest_ahead flow (length (before ++ (10 ∷ y))) (lines (suc (length before)) (drop (suc (length before)) (before ++ (10 ∷ y)))))) (feed_column before y)
      ∙ ap (λ z. line_ahead flow (length (before ++ (10 ∷ y))) (lines (suc (length before)) z)) (behind_feed before y)

  by_column : (c : Bool) → is_first_column (before ++ (10 ∷ [])) i ≡ c → (cond c (line_ahead flow (length (before ++ (10 ∷ []))) (lines i (drop i (before ++ (10 ∷ []))))) (rest_ahead flow (length (before ++ (10 ∷ []))) (lines i (drop i (before ++ (10 ∷ [])))))).token ≡ End
      → ahead (before ++ (10 ∷ y)) flow i ≡ line_ahead flow (length (before ++ (10 ∷ y))) (lines (suc (length before)) y)
  by_column true e h =
      ap (λ c. cond c (line_ahead flow (length (before ++ (10 ∷ y))) (lines i (drop i (before ++ (10 ∷ y))))) (rest_ahead flow (length (before ++ (10 ∷ y))) (lines i (drop i (before ++ (10 ∷ y)))))) (sym (column_same before 10 [] y i low) ∙ e)
      ∙ ap (line_ahead flow (length (before ++ (10 ∷ y)))) new_lines
      ∙ over_line flow (length (before ++ (10 ∷ []))) (length (before ++ (10 ∷ y))) y i (drop i before) (sym (ap (λ ls. (line_ahead flow (length (before ++ (10 ∷ []))) ls).token) old_lines) ∙ h)
      ∙ ap (λ n. line_ahead flow (length (before ++ (10 ∷ y))) (lines n y)) place
  by_column false e h =
      ap (λ c. cond c (line_ahead flow (length (before ++ (10 ∷ y))) (lines i (drop i (before ++ (10 ∷ y))))) (rest_ahead flow (length (before ++ (10 ∷ y))) (lines i (drop i (before ++ (10 ∷ y)))))) (sym (column_same before 10 [] y i low) ∙ e)
      ∙ ap (rest_ahead flow (length (before ++ (10 ∷ y)))) new_lines
      ∙ over_rest flow (length (before ++ (10 ∷ []))) (length (before ++ (10 ∷ y))) y i (drop i before) (sym (ap (λ ls. (rest_ahead flow (length (before ++ (10 ∷ []))) ls).token) old_lines) ∙ h)
      ∙ ap (λ n. line_ahead flow (length (before ++ (10 ∷ y))) (lines n y)) place

-- ---- a line feed behind the text

blank_clean : (xs : List ℕ) → is_blank xs ≡ true → has_return xs ≡ false
blank_clean [] h = refl
blank_clean (b ∷ xs) h = by_white (is_white b) refl h (λ g. blank_clean xs g) where
  by_white : (q : Bool) → is_white b ≡ q → cond q (is_blank xs) false ≡ true → (is_blank xs ≡ true → has_return xs ≡ false) → (nat_eq b 13 || has_return xs) ≡ false
  by_white true e h r = let n : nat_eq b 13 ≡ false = grind (arith, nat_tests, e) in ap (λ q. q || has_return xs) n ∙ r h
  by_white false e h r = absurd (true≢false (sym h))

-- what is passed over has no carriage return
pub passed_clean : (fresh : Bool) (xs : List ℕ) → is_passed fresh xs ≡ true → has_return xs ≡ false
passed_clean fresh xs h = by_tests (is_blank xs) (fresh || nat_lt 0 (lead is_white xs)) (begins_with 35 (past_white xs)) (has_return xs) (λ e. blank_clean xs e) h where
  by_tests : (p q r s : Bool) → (p ≡ true → s ≡ false) → (p || (q && (r && not s))) ≡ true → s ≡ false
  by_tests true q r s f h = f refl
  by_tests false true true false f h = refl
  by_tests false true true true f h = absurd (true≢false (sym h))
  by_tests false true false s f h = absurd (true≢false (sym h))
  by_tests false false r s f h = absurd (true≢false (sym h))

pub clean_line : (xs : List ℕ) → has_return (line_at xs) ≡ false → line_at (xs ++ (10 ∷ [])) ≡ line_at xs
clean_line [] h = refl
clean_line (b ∷ []) h = by_tests (nat_eq b 10) (nat_eq b 13) refl h where
  by_tests : (p q : Bool) → nat_eq b 13 ≡ q → has_return (cond (p || (q && false)) [] (b ∷ [])) ≡ false → cond (p || (q && true)) [] (b ∷ []) ≡ cond (p || (q && false)) [] (b ∷ [])
  by_tests true q e h = refl
  by_tests false false e h = refl
  by_tests false true e h = absurd (true≢false (sym (ap (λ q. q || false) e) ∙ h))
clean_line (b ∷ c ∷ xs) h = by_break (nat_eq b 10 || (nat_eq b 13 && nat_eq c 10)) h (λ g. clean_line (c ∷ xs) g) where
  second : (p q : Bool) → (p || q) ≡ false → q ≡ false
  second true q h = absurd (true≢false h)
  second false q h = h

  by_break : (q : Bool) → has_return (cond q [] (b ∷ line_at (c ∷ xs))) ≡ false → (has_return (line_at (c ∷ xs)) ≡ false → line_at (c ∷ (xs ++ (10 ∷ []))) ≡ line_at (c ∷ xs)) → cond q [] (b ∷ line_at (c ∷ (xs ++ (10 ∷ [])))) ≡ cond q [] (b ∷ line_at (c ∷ xs))
  by_break true h r = refl
  by_break false h r = ap (λ t. b ∷ t) (r (second (nat_eq b 13) (has_return (line_at (c ∷ xs))) h))

module _ (flow : Bool) (size most : ℕ) where
  abbrev Feeds : ℕ → List ℕ → Type 0
  Feeds at xs = (line_ahead flow size (behind at xs)).token ≡ End → (line_ahead flow most (behind at (xs ++ (10 ∷ [])))).token ≡ End

  feed_line : (at : ℕ) (xs : List ℕ) → Feeds at xs → (line_ahead flow size (lines at xs)).token ≡ End → (line_ahead flow most (lines at (xs ++ (10 ∷ [])))).token ≡ End
  feed_line at xs next h =
      let old : Line = record { at = at; bytes = line_at xs; broken = has_break xs } in
      let new : Line = record { at = at; bytes = line_at (xs ++ (10 ∷ [])); broken = has_break (xs ++ (10 ∷ [])) } in
      let g = sym (ap (λ ls. (line_ahead flow size ls).token) (lines_are at xs)) ∙ h in
      let o = line_over flow size old (behind at xs) g in
      let same = clean_line xs (passed_clean true (line_at xs) o.1) in
      let below = sym (ap (λ a. a.token) (passes_line flow size old (behind at xs) o.0 o.1)) ∙ g in
      ap (λ ls. (line_ahead flow most ls).token) (lines_are at (xs ++ (10 ∷ []))) ∙ ap (λ a. a.token) (passes_line flow most new (behind at (xs ++ (10 ∷ []))) (ap is_mark same ∙ o.0) (ap (is_passed true) same ∙ o.1)) ∙ next below

  pub feed_behind : (at : ℕ) (xs : List ℕ) → Feeds at xs
  feed_behind at [] h = refl
  feed_behind at (b ∷ xs) h = by_feed (nat_eq b 10) h (λ g. feed_behind (suc at) xs g) where
    by_feed : (q : Bool) → (line_ahead flow size (cond q (lines (suc at) xs) (behind (suc at) xs))).token ≡ End → Feeds (suc at) xs → (line_ahead flow most (cond q (lines (suc at) (xs ++ (10 ∷ []))) (behind (suc at) (xs ++ (10 ∷ []))))).token ≡ End
    by_feed true h next = feed_line (suc at) xs next h
    by_feed false h next = next h

  feed_rest : (at : ℕ) (xs : List ℕ) → (rest_ahead flow size (lines at xs)).token ≡ End → (rest_ahead flow most (lines at (xs ++ (10 ∷ [])))).token ≡ End
  feed_rest at xs h =
      let old : Line = record { at = at; bytes = line_at xs; broken = has_break xs } in
      let new : Line = record { at = at; bytes = line_at (xs ++ (10 ∷ [])); broken = has_break (xs ++ (10 ∷ [])) } in
      let g = sym (ap (λ ls. (rest_ahead flow size ls).token) (lines_are at xs)) ∙ h in
      let o = rest_over flow size old (behind at xs) g in
      let same = clean_line xs (passed_clean false (line_at xs) o) in
      let below = sym (ap (λ a. a.token) (passes_rest flow size old (behind at xs) o)) ∙ g in
      ap (λ ls. (rest_ahead flow most ls).token) (lines_are at (xs ++ (10 ∷ []))) ∙ ap (λ a. a.token) (passes_rest flow most new (behind at (xs ++ (10 ∷ []))) (ap (is_passed false) same ∙ o)) ∙ feed_behind at xs below

pub end_feed : (text : List ℕ) (flow : Bool) (i : ℕ) → i ≤ length text → (ahead text flow i).token ≡ End → (ahead (text ++ (10 ∷ [])) flow i).token ≡ End
end_feed text flow i low h =
    let w = text ++ (10 ∷ []) in
    let most = length (text ++ (10 ∷ [])) in
    let there : lines i (drop i (text ++ (10 ∷ []))) ≡ lines i (drop i text ++ (10 ∷ [])) = ap (lines i) (drop_before i text (10 ∷ []) low) in
    ap (λ c. (cond c (line_ahead flow (length (text ++ (10 ∷ []))) (lines i (drop i (text ++ (10 ∷ []))))) (rest_ahead flow (length (text ++ (10 ∷ []))) (lines i (drop i (text ++ (10 ∷ [])))))).token) (column_longer text (10 ∷ []) i low)
    ∙ by_column (is_first_column text i) there h where
      by_column : (c : Bool) → lines i (drop i (text ++ (10 ∷ []))) ≡ lines i (drop i text ++ (10 ∷ [])) → (cond c (line_ahead flow (length text) (lines i (drop i text))) (rest_ahead flow (length text) (lines i (drop i text)))).token ≡ End
          → (cond c (line_ahead flow (length (text ++ (10 ∷ []))) (lines i (drop i (text ++ (10 ∷ []))))) (rest_ahead flow (length (text ++ (10 ∷ []))) (lines i (drop i (text ++ (10 ∷ [])))))).token ≡ End
      by_column true there h = ap (λ ls. (line_ahead flow (length (text ++ (10 ∷ []))) ls).token) there ∙ feed_line flow (length text) (length (text ++ (10 ∷ []))) i (drop i text) (feed_behind flow (length text) (length (text ++ (10 ∷ []))) i (drop i text)) h
      by_column false there h = ap (λ ls. (rest_ahead flow (length (text ++ (10 ∷ []))) ls).token) there ∙ feed_rest flow (length text) (length (text ++ (10 ∷ []))) i (drop i text) h
