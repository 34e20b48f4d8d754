-- What a place has ahead in a text with a break behind it: what it has in the text, or else what the line behind the break has; and a carriage return behind the text changes nothing where a scalar may begin. By induction over lines.
use Rattle.std.proofs.Common.{◌≡◌, ℕ, zero, suc, ◌+◌, ◌<◌, ◌≤◌, Bool, true, false, ◌||◌, ◌&&◌, not, cond, nat_eq, nat_lt, arith, List, [], ◌∷◌, ◌++◌, drop, length, refl, sym, ap, ◌∙◌, subst, true≢false, append-nil, length-drop}
use Rattle.std.proofs.lemmas.Bool.Decides.{nat_tests}
use Rattle.std.proofs.lemmas.List.{drop-drop}
use Rattle.yaml_scalars.specs.Lines.{Line, lines, begins_with, ends_with, is_white, is_space, is_blank, lead, past_white, indent, is_mark, is_cut_mark, is_end}
use Rattle.yaml_scalars.specs.Scalar.{is_first_column}
use Rattle.yaml_scalars.specs.code.Walk.{line_at, has_break, behind}
use Rattle.yaml_scalars.proofs.Places.{lines_are, lead_le}
use Rattle.yaml_laws.proofs.Agree.{drop_before}
use Rattle.yaml_laws.proofs.BlockShown.{blank_less, lead_ended}
use Rattle.yaml_laws.proofs.Longer.{glue, feed_of, cut, lines_glued, lines_apart, lines_more, behind_none}
use Rattle.yaml_laws.proofs.ScalarLaw.{column_longer}
use Rattle.yaml_grammar.specs.declared.ahead.Token.{Token}
use Rattle.yaml_grammar.specs.declared.ahead.Token.TheVariants.{End, Dashes, Dots, Dash, Tag, NoTag, Opens, Closes, Comma, Point, Anchor, Percent, Tabbed, Stray, Other}
use Rattle.yaml_grammar.specs.Ahead.{tab_token, is_tabbed, other_token, token_of, token_at, mark_of, is_passed, content_ahead, line_ahead, rest_ahead, ahead}
use Rattle.yaml_grammar.specs.Nodes.{starts_scalar}
use Rattle.yaml_grammar.specs.code.Closers.{IsUncut}
use Rattle.yaml_grammar.proofs.AheadEnds.{IsSome, line_over, rest_over, passes_line, passes_rest}
use Rattle.yaml_grammar.proofs.AheadLonger.{BothBegin, both_same, byte_tells}
use Rattle.yaml_grammar.proofs.LineTails.{Tails, tails_of}
use Rattle.yaml_grammar.proofs.Looks.{passed_other}
use Rattle.yaml_grammar.proofs.ScalarAhead.{comment_scalar, name_scalar, return_scalar}
use Rattle.yaml_grammar.proofs.ScalarOrder.{first_bytes}

-- ---- lines with others behind the break of the last

module _ (flow : Bool) (size most p : ℕ) (below : List Line) where
  line_fed : (ls : List Line) → IsSome (line_ahead flow size ls).token → line_ahead flow most (glue ls (feed_of p ∷ below)) ≡ line_ahead flow size ls
  line_fed [] h = absurd h
  line_fed (l ∷ []) h =
      ap (λ (b : List ℕ). line_ahead flow most (record { at = l.at; bytes = b; broken = true } ∷ below)) (append-nil l.bytes) ∙ by_tests (is_mark l.bytes) (is_passed true l.bytes) h where
        by_tests : (q r : Bool) → IsSome (cond q (token_at (mark_of l.bytes) true 0 l.at) (cond r (line_ahead flow size []) (content_ahead flow l.at l.bytes))).token
            → cond q (token_at (mark_of l.bytes) true 0 l.at) (cond r (line_ahead flow most below) (content_ahead flow l.at l.bytes)) ≡ cond q (token_at (mark_of l.bytes) true 0 l.at) (cond r (line_ahead flow size []) (content_ahead flow l.at l.bytes))
        by_tests true r h = refl
        by_tests false true h = absurd h
        by_tests false false h = refl
  line_fed (l ∷ m ∷ ls) h = by_tests (is_mark l.bytes) (is_passed true l.bytes) h (λ g. line_fed (m ∷ ls) g) where
    by_tests : (q r : Bool) → IsSome (cond q (token_at (mark_of l.bytes) true 0 l.at) (cond r (line_ahead flow size (m ∷ ls)) (content_ahead flow l.at l.bytes))).token
        → (IsSome (line_ahead flow size (m ∷ ls)).token → line_ahead flow most (glue (m ∷ ls) (feed_of p ∷ below)) ≡ line_ahead flow size (m ∷ ls))
        → cond q (token_at (mark_of l.bytes) true 0 l.at) (cond r (line_ahead flow most (glue (m ∷ ls) (feed_of p ∷ below))) (content_ahead flow l.at l.bytes)) ≡ cond q (token_at (mark_of l.bytes) true 0 l.at) (cond r (line_ahead flow size (m ∷ ls)) (content_ahead flow l.at l.bytes))
    by_tests true r h f = refl
    by_tests false true h f = f h
    by_tests false false h f = refl

  rest_fed : (l : Line) (ls : List Line) → IsSome (rest_ahead flow size (l ∷ ls)).token → rest_ahead flow most (glue (l ∷ ls) (feed_of p ∷ below)) ≡ rest_ahead flow size (l ∷ ls)
  rest_fed l [] h =
      ap (λ (b : List ℕ). rest_ahead flow most (record { at = l.at; bytes = b; broken = true } ∷ below)) (append-nil l.bytes) ∙ by_test (is_passed false l.bytes) h where
        by_test : (r : Bool) → IsSome (cond r (line_ahead flow size []) (token_at (token_of flow (past_white l.bytes)) false (lead is_white l.bytes) (l.at + lead is_white l.bytes))).token
            → cond r (line_ahead flow most below) (token_at (token_of flow (past_white l.bytes)) false (lead is_white l.bytes) (l.at + lead is_white l.bytes)) ≡ cond r (line_ahead flow size []) (token_at (token_of flow (past_white l.bytes)) false (lead is_white l.bytes) (l.at + lead is_white l.bytes))
        by_test true h = absurd h
        by_test false h = refl
  rest_fed l (m ∷ ls) h = by_test (is_passed false l.bytes) h where
    by_test : (r : Bool) → IsSome (cond r (line_ahead flow size (m ∷ ls)) (token_at (token_of flow (past_white l.bytes)) false (lead is_white l.bytes) (l.at + lead is_white l.bytes))).token
        → cond r (line_ahead flow most (glue (m ∷ ls) (feed_of p ∷ below))) (token_at (token_of flow (past_white l.bytes)) false (lead is_white l.bytes) (l.at + lead is_white l.bytes))
        ≡ cond r (line_ahead flow size (m ∷ ls)) (token_at (token_of flow (past_white l.bytes)) false (lead is_white l.bytes) (l.at + lead is_white l.bytes))
    by_test true h = line_fed (m ∷ ls) h
    by_test false h = refl

  -- where they have nothing, the others tell
  line_past : (l : Line) (ls : List Line) → (line_ahead flow size (l ∷ ls)).token ≡ End → line_ahead flow most (glue (l ∷ ls) (feed_of p ∷ below)) ≡ line_ahead flow most below
  line_past l [] h =
      let o = line_over flow size l [] h in
      ap (λ (b : List ℕ). line_ahead flow most (record { at = l.at; bytes = b; broken = true } ∷ below)) (append-nil l.bytes) ∙ passes_line flow most (record { at = l.at; bytes = l.bytes; broken = true }) below o.0 o.1
  line_past l (m ∷ ls) h =
      let o = line_over flow size l (m ∷ ls) h in
      passes_line flow most l (glue (m ∷ ls) (feed_of p ∷ below)) o.0 o.1 ∙ line_past m ls (sym (ap (λ a. a.token) (passes_line flow size l (m ∷ ls) o.0 o.1)) ∙ h)

  rest_past : (l : Line) (ls : List Line) → (rest_ahead flow size (l ∷ ls)).token ≡ End → rest_ahead flow most (glue (l ∷ ls) (feed_of p ∷ below)) ≡ line_ahead flow most below
  rest_past l [] h =
      let o = rest_over flow size l [] h in
      ap (λ (b : List ℕ). rest_ahead flow most (record { at = l.at; bytes = b; broken = true } ∷ below)) (append-nil l.bytes) ∙ passes_rest flow most (record { at = l.at; bytes = l.bytes; broken = true }) below o
  rest_past l (m ∷ ls) h =
      let o = rest_over flow size l (m ∷ ls) h in
      passes_rest flow most l (glue (m ∷ ls) (feed_of p ∷ below)) o ∙ line_past m ls (sym (ap (λ a. a.token) (passes_rest flow size l (m ∷ ls) o)) ∙ h)

-- ---- a text and one that goes on behind a break

module _ (text new : List ℕ) (flow : Bool) (i p : ℕ) (below : List Line) (column : is_first_column new i ≡ is_first_column text i) (split : lines i (drop i new) ≡ glue (lines i (drop i text)) (feed_of p ∷ below)) where
  is : lines i (drop i new) ≡ glue (record { at = i; bytes = line_at (drop i text); broken = has_break (drop i text) } ∷ behind i (drop i text)) (feed_of p ∷ below)
  is = split ∙ ap (λ ls. glue ls (feed_of p ∷ below)) (lines_are i (drop i text))

  kept : IsSome (ahead text flow i).token → ahead new flow i ≡ ahead text flow i
  kept h = ap (λ q. cond q (line_ahead flow (length new) (lines i (drop i new))) (rest_ahead flow (length new) (lines i (drop i new)))) column ∙ by_column (is_first_column text i) h where
    by_column : (q : Bool) → IsSome (cond q (line_ahead flow (length text) (lines i (drop i text))) (rest_ahead flow (length text) (lines i (drop i text)))).token
        → cond q (line_ahead flow (length new) (lines i (drop i new))) (rest_ahead flow (length new) (lines i (drop i new))) ≡ cond q (line_ahead flow (length text) (lines i (drop i text))) (rest_ahead flow (length text) (lines i (drop i text)))
    by_column true h = ap (line_ahead flow (length new)) split ∙ line_fed flow (length text) (length new) p below (lines i (drop i text)) h
    by_column false h =
        ap (rest_ahead flow (length new)) is
        ∙ rest_fed flow (length text) (length new) p below (record { at = i; bytes = line_at (drop i text); broken = has_break (drop i text) }) (behind i (drop i text)) (subst (λ ls. IsSome (rest_ahead flow (length text) ls).token) (lines_are i (drop i text)) h)
        ∙ sym (ap (rest_ahead flow (length text)) (lines_are i (drop i text)))

  passed : (ahead text flow i).token ≡ End → ahead new flow i ≡ line_ahead flow (length new) below
  passed h = ap (λ q. cond q (line_ahead flow (length new) (lines i (drop i new))) (rest_ahead flow (length new) (lines i (drop i new)))) column ∙ by_column (is_first_column text i) h where
    by_column : (q : Bool) → (cond q (line_ahead flow (length text) (lines i (drop i text))) (rest_ahead flow (length text) (lines i (drop i text)))).token ≡ End
        → cond q (line_ahead flow (length new) (lines i (drop i new))) (rest_ahead flow (length new) (lines i (drop i new))) ≡ line_ahead flow (length new) below
    by_column true h =
        ap (line_ahead flow (length new)) is
        ∙ line_past flow (length text) (length new) p below (record { at = i; bytes = line_at (drop i text); broken = has_break (drop i text) }) (behind i (drop i text)) (sym (ap (λ ls. (line_ahead flow (length text) ls).token) (lines_are i (drop i text))) ∙ h)
    by_column false h =
        ap (rest_ahead flow (length new)) is
        ∙ rest_past flow (length text) (length new) p below (record { at = i; bytes = line_at (drop i text); broken = has_break (drop i text) }) (behind i (drop i text)) (sym (ap (λ ls. (rest_ahead flow (length text) ls).token) (lines_are i (drop i text))) ∙ h)

-- the lines of a text with a carriage return and a line feed behind it
broken_lines : (text y : List ℕ) (i : ℕ) → i ≤ length text → lines i (drop i (text ++ (13 ∷ 10 ∷ y))) ≡ glue (lines i (drop i text)) (feed_of (i + length (drop i text)) ∷ lines (suc (suc (i + length (drop i text)))) y)
broken_lines text y i low = ap (lines i) (drop_before i text (13 ∷ 10 ∷ y) low) ∙ lines_glued i (drop i text) (13 ∷ 10 ∷ y) refl

pub ahead_broken : (text y : List ℕ) (flow : Bool) (i : ℕ) → i ≤ length text → IsSome (ahead text flow i).token → ahead (text ++ (13 ∷ 10 ∷ y)) flow i ≡ ahead text flow i
ahead_broken text y flow i low h = kept text (text ++ (13 ∷ 10 ∷ y)) flow i (i + length (drop i text)) (lines (suc (suc (i + length (drop i text)))) y) (column_longer text (13 ∷ 10 ∷ y) i low) (broken_lines text y i low) h

pub end_broken : (text : List ℕ) (flow : Bool) (i : ℕ) → i ≤ length text → (ahead text flow i).token ≡ End → (ahead (text ++ (13 ∷ 10 ∷ [])) flow i).token ≡ End
end_broken text flow i low h = ap (λ a. a.token) (passed text (text ++ (13 ∷ 10 ∷ [])) flow i (i + length (drop i text)) (lines (suc (suc (i + length (drop i text)))) []) (column_longer text (13 ∷ 10 ∷ []) i low) (broken_lines text [] i low) h)

-- the text's end counts as a line
pub fresh_broken : (text : List ℕ) (flow : Bool) (i : ℕ) → i ≤ length text → (ahead text flow i).token ≡ End → (ahead (text ++ (13 ∷ 10 ∷ [])) flow i).fresh ≡ true
fresh_broken text flow i low h = ap (λ a. a.fresh) (passed text (text ++ (13 ∷ 10 ∷ [])) flow i (i + length (drop i text)) (lines (suc (suc (i + length (drop i text)))) []) (column_longer text (13 ∷ 10 ∷ []) i low) (broken_lines text [] i low) h)

-- with a line feed alone, behind no carriage return
ends_past : (n : ℕ) (f : List ℕ) → ends_with 13 f ≡ false → ends_with 13 (drop n f) ≡ false
ends_past zero f h = h
ends_past (suc n) [] h = refl
ends_past (suc n) (b ∷ []) h = ends_past n [] refl
ends_past (suc n) (b ∷ c ∷ f) h = ends_past n (c ∷ f) h

fed_lines : (text y : List ℕ) (i : ℕ) → i ≤ length text → ends_with 13 text ≡ false → lines i (drop i (text ++ (10 ∷ y))) ≡ glue (lines i (drop i text)) (feed_of (i + length (drop i text)) ∷ lines (suc (i + length (drop i text))) y)
fed_lines text y i low last = ap (lines i) (drop_before i text (10 ∷ y) low) ∙ lines_apart i (drop i text) (10 ∷ y) (ap (λ q. q && true) (ends_past i text last))

pub ahead_fed : (text y : List ℕ) (flow : Bool) (i : ℕ) → i ≤ length text → ends_with 13 text ≡ false → IsSome (ahead text flow i).token → ahead (text ++ (10 ∷ y)) flow i ≡ ahead text flow i
ahead_fed text y flow i low last h = kept text (text ++ (10 ∷ y)) flow i (i + length (drop i text)) (lines (suc (i + length (drop i text))) y) (column_longer text (10 ∷ y) i low) (fed_lines text y i low last) h

-- ---- a carriage return behind a text

mark_cut : (xs : List ℕ) → is_mark xs ≡ true → is_mark (xs ++ (13 ∷ [])) ≡ false → is_cut_mark (xs ++ (13 ∷ [])) ≡ true
mark_cut [] h g = absurd (true≢false (sym h))
mark_cut (a ∷ []) h g = absurd (true≢false (sym h))
mark_cut (a ∷ b ∷ []) h g = absurd (true≢false (sym h))
mark_cut (a ∷ b ∷ c ∷ []) h g = h
mark_cut (a ∷ b ∷ c ∷ d ∷ xs) h g = absurd (true≢false (sym h ∙ g))

-- a token without it
dash_less : (flow : Bool) (bs : List ℕ) → (bs ≡ [] → ⊥) → starts_scalar (token_of flow (45 ∷ (bs ++ (13 ∷ [])))) ≡ true → starts_scalar (token_of flow (45 ∷ bs)) ≡ true
dash_less true bs n h = refl
dash_less false [] n h = absurd (n refl)
dash_less false (b ∷ bs) n h = h

colon_scalar : (flow : Bool) (z : List ℕ) → starts_scalar (token_of flow (58 ∷ z)) ≡ true
colon_scalar true z = refl
colon_scalar false z = by_end (is_end z) where
  by_end : (q : Bool) → starts_scalar (cond q (Point true) (other_token 58)) ≡ true
  by_end true = refl
  by_end false = refl

token_less : (flow : Bool) (xs : List ℕ) → 0 < length xs → (xs ≡ 45 ∷ [] → ⊥) → starts_scalar (token_of flow (xs ++ (13 ∷ []))) ≡ true → starts_scalar (token_of flow xs) ≡ true
token_less flow [] l n h = absurd (omega (arith, l))
token_less flow (b ∷ bs) l n h = by_tests (nat_eq b 33) (nat_eq b 45) (nat_eq b 58) refl refl refl where
  by_tests : (p q r : Bool) → nat_eq b 33 ≡ p → nat_eq b 45 ≡ q → nat_eq b 58 ≡ r → starts_scalar (token_of flow (b ∷ bs)) ≡ true
  by_tests true q r i j k = let m : b ≡ 33 = grind (arith, nat_tests, i) in absurd (true≢false (sym h ∙ ap (λ b. starts_scalar (token_of flow (b ∷ (bs ++ (13 ∷ []))))) m ∙ name_scalar flow (bs ++ (13 ∷ []))))
  by_tests false true r i j k =
      let m : b ≡ 45 = grind (arith, nat_tests, j) in
      subst (λ b. starts_scalar (token_of flow (b ∷ bs)) ≡ true) (sym m) (dash_less flow bs (λ e. n (ap (λ (b : ℕ). b ∷ bs) m ∙ ap (λ (z : List ℕ). 45 ∷ z) e)) (subst (λ b. starts_scalar (token_of flow (b ∷ (bs ++ (13 ∷ [])))) ≡ true) m h))
  by_tests false false true i j k = let m : b ≡ 58 = grind (arith, nat_tests, k) in subst (λ b. starts_scalar (token_of flow (b ∷ bs)) ≡ true) (sym m) (colon_scalar flow bs)
  by_tests false false false i j k = ap starts_scalar (byte_tells flow b bs (bs ++ (13 ∷ [])) i j k) ∙ h

-- a line whose token may begin a scalar
module _ (flow : Bool) (xs : List ℕ) (h : starts_scalar (token_of flow (past_white (xs ++ (13 ∷ [])))) ≡ true) where
  white : lead is_white (xs ++ (13 ∷ [])) ≡ lead is_white xs
  white = lead_ended is_white xs [] refl

  rest : past_white (xs ++ (13 ∷ [])) ≡ past_white xs ++ (13 ∷ [])
  rest = ap (λ n. drop n (xs ++ (13 ∷ []))) white ∙ drop_before (lead is_white xs) xs (13 ∷ []) (lead_le is_white xs)

  begins : starts_scalar (token_of flow (past_white xs ++ (13 ∷ []))) ≡ true
  begins = sym (ap (λ t. starts_scalar (token_of flow t)) rest) ∙ h

  full : is_blank xs ≡ false
  full = by_blank (is_blank xs) refl where
    by_blank : (q : Bool) → is_blank xs ≡ q → q ≡ false
    by_blank false e = refl
    by_blank true e = absurd (true≢false (sym begins ∙ return_scalar flow (past_white xs ++ (13 ∷ [])) (ap (λ t. begins_with 13 (t ++ (13 ∷ []))) (none xs e)))) where
      none : (xs : List ℕ) → is_blank xs ≡ true → past_white xs ≡ []
      none [] e = refl
      none (b ∷ xs) e = by_white (is_white b) e (λ g. none xs g) where
        by_white : (q : Bool) → cond q (is_blank xs) false ≡ true → (is_blank xs ≡ true → past_white xs ≡ []) → drop (cond q (suc (lead is_white xs)) 0) (b ∷ xs) ≡ []
        by_white true e f = f e
        by_white false e f = absurd (true≢false (sym e))

  some : 0 < length (past_white xs)
  some = let l = blank_less xs full in omega (arith, l, length-drop (lead is_white xs) xs)

  no_comment : begins_with 35 (past_white xs) ≡ false
  no_comment = by_comment (begins_with 35 (past_white xs)) refl where
    longer : (zs : List ℕ) → begins_with 35 zs ≡ true → begins_with 35 (zs ++ (13 ∷ [])) ≡ true
    longer [] e = absurd (true≢false (sym e))
    longer (z ∷ zs) e = e

    by_comment : (q : Bool) → begins_with 35 (past_white xs) ≡ q → q ≡ false
    by_comment false e = refl
    by_comment true e = absurd (true≢false (sym begins ∙ comment_scalar flow (past_white xs ++ (13 ∷ [])) (longer (past_white xs) e)))

  not_passed : (fresh : Bool) → is_passed fresh xs ≡ false
  not_passed fresh = passed_other fresh xs full no_comment

  same_tab : is_tabbed flow (xs ++ (13 ∷ [])) ≡ is_tabbed flow xs
  same_tab = ap (λ n. not flow && nat_lt n (lead is_white (xs ++ (13 ∷ [])))) (lead_ended is_space xs [] refl) ∙ ap (λ n. not flow && nat_lt (indent xs) n) white

  at_token : (fresh : Bool) (at : ℕ) → (past_white xs ≡ 45 ∷ [] → ⊥)
      → BothBegin (token_at (token_of flow (past_white (xs ++ (13 ∷ [])))) fresh (lead is_white (xs ++ (13 ∷ []))) (at + lead is_white (xs ++ (13 ∷ [])))) (token_at (token_of flow (past_white xs)) fresh (lead is_white xs) (at + lead is_white xs))
  at_token fresh at n = (ap (λ k. at + k) (sym white), refl, sym white, token_less flow (past_white xs) some n begins)

mark_front : (xs y : List ℕ) → is_mark xs ≡ true → lead is_white (xs ++ y) ≡ 0
mark_front [] y h = absurd (true≢false (sym h))
mark_front (a ∷ []) y h = absurd (true≢false (sym h))
mark_front (a ∷ b ∷ []) y h = absurd (true≢false (sym h))
mark_front (a ∷ b ∷ c ∷ xs) y h = by_dash (nat_eq a 45 || nat_eq a 46) refl h where
  by_dash : (q : Bool) → (nat_eq a 45 || nat_eq a 46) ≡ q → (q && (nat_eq a b && (nat_eq a c && is_end xs))) ≡ true → cond (is_white a) (suc (lead is_white (b ∷ c ∷ (xs ++ y)))) 0 ≡ 0
  by_dash false e h = absurd (true≢false (sym h))
  by_dash true e h = let n : is_white a ≡ false = grind (arith, nat_tests, e) in ap (λ q. cond q (suc (lead is_white (b ∷ c ∷ (xs ++ y)))) 0) n

no_marks : (q : Bool) → starts_scalar (cond q Dashes Dots) ≡ true → ⊥
no_marks true h = true≢false (sym h)
no_marks false h = true≢false (sym h)

no_tabs : (q : Bool) → starts_scalar (cond q Stray Tabbed) ≡ true → ⊥
no_tabs true h = true≢false (sym h)
no_tabs false h = true≢false (sym h)

nothing_behind : (k l : Line) (ls : List Line) → k ∷ ls ≡ l ∷ [] → ls ≡ []
nothing_behind k l ls h = cc

module _ (front : List ℕ) (flow : Bool) where
  abbrev text : List ℕ
  text = front ++ (13 ∷ [])

  -- the last line is the rest of the text
  whole : (k : Line) → lines k.at (drop k.at text) ≡ k ∷ [] → drop k.at text ≡ k.bytes
  whole k is =
      let none = nothing_behind (record { at = k.at; bytes = line_at (drop k.at text); broken = has_break (drop k.at text) }) k (behind k.at (drop k.at text)) (sym (lines_are k.at (drop k.at text)) ∙ is) in
      sym (behind_none k.at (drop k.at text) none).1 ∙ first_bytes text k [] is

  -- so the token is no lone `-`, and no mark
  lone : (at : ℕ) (xs : List ℕ) (b : Bool) → lines at (drop at text) ≡ record { at = at; bytes = xs ++ (13 ∷ []); broken = b } ∷ [] → drop (at + lead is_white (xs ++ (13 ∷ []))) text ≡ past_white (xs ++ (13 ∷ []))
  lone at xs b is = sym (drop-drop (lead is_white (xs ++ (13 ∷ []))) at text) ∙ ap (drop (lead is_white (xs ++ (13 ∷ [])))) (whole (record { at = at; bytes = xs ++ (13 ∷ []); broken = b }) is)

  module _ (at : ℕ) (xs : List ℕ) (b : Bool) (is : lines at (drop at text) ≡ record { at = at; bytes = xs ++ (13 ∷ []); broken = b } ∷ []) (h : starts_scalar (token_of flow (past_white (xs ++ (13 ∷ [])))) ≡ true) where
    undashed : (drop (at + lead is_white (xs ++ (13 ∷ []))) text ≡ 45 ∷ 13 ∷ [] → ⊥) → past_white xs ≡ 45 ∷ [] → ⊥
    undashed n e = n (lone at xs b is ∙ rest flow xs h ∙ ap (λ t. t ++ (13 ∷ [])) e)

    unmarked : is_mark (xs ++ (13 ∷ [])) ≡ false → (lead is_white (xs ++ (13 ∷ [])) ≡ 0 → is_cut_mark (line_at (drop (at + lead is_white (xs ++ (13 ∷ []))) text)) ≡ false) → is_mark xs ≡ false
    unmarked m c = by_mark (is_mark xs) refl where
      by_mark : (q : Bool) → is_mark xs ≡ q → q ≡ false
      by_mark false e = refl
      by_mark true e =
          let zero_lead = mark_front xs (13 ∷ []) e in
          let there : drop (at + lead is_white (xs ++ (13 ∷ []))) text ≡ xs ++ (13 ∷ []) = lone at xs b is ∙ ap (λ n. drop n (xs ++ (13 ∷ []))) zero_lead in
          let here : line_at (xs ++ (13 ∷ [])) ≡ xs ++ (13 ∷ []) = (let w = whole (record { at = at; bytes = xs ++ (13 ∷ []); broken = b }) is in ap line_at (sym w) ∙ first_bytes text (record { at = at; bytes = xs ++ (13 ∷ []); broken = b }) [] is) in
          absurd (true≢false (sym (mark_cut xs e m) ∙ sym (ap is_cut_mark (ap line_at there ∙ here)) ∙ c zero_lead))

  module _ (p size most : ℕ) where
    line_returned : (ks : List Line) → Tails text (cut ks p) → starts_scalar (line_ahead flow most (cut ks p)).token ≡ true → IsUncut text (line_ahead flow most (cut ks p)) → BothBegin (line_ahead flow most (cut ks p)) (line_ahead flow size ks)
    line_returned [] o h u = absurd (true≢false (sym h))
    line_returned (l ∷ []) o h u = by_tests (is_mark xs) (is_passed true xs) (is_tabbed flow xs) refl refl refl h u where
      xs : List ℕ
      xs = l.bytes ++ (13 ∷ [])

      by_tests : (q r v : Bool) → is_mark xs ≡ q → is_passed true xs ≡ r → is_tabbed flow xs ≡ v
          → starts_scalar (cond q (token_at (mark_of xs) true 0 l.at) (cond r (line_ahead flow most []) (cond v (token_at (tab_token (past_white xs)) true (indent xs) (l.at + indent xs)) (token_at (token_of flow (past_white xs)) true (lead is_white xs) (l.at + lead is_white xs))))).token ≡ true
          → IsUncut text (cond q (token_at (mark_of xs) true 0 l.at) (cond r (line_ahead flow most []) (cond v (token_at (tab_token (past_white xs)) true (indent xs) (l.at + indent xs)) (token_at (token_of flow (past_white xs)) true (lead is_white xs) (l.at + lead is_white xs)))))
          → BothBegin (cond q (token_at (mark_of xs) true 0 l.at) (cond r (line_ahead flow most []) (cond v (token_at (tab_token (past_white xs)) true (indent xs) (l.at + indent xs)) (token_at (token_of flow (past_white xs)) true (lead is_white xs) (l.at + lead is_white xs)))))
          (line_ahead flow size (l ∷ []))
      by_tests true r v i j k h u = absurd (no_marks (begins_with 45 xs) h)
      by_tests false true v i j k h u = absurd (true≢false (sym h))
      by_tests false false true i j k h u = absurd (no_tabs (begins_with 35 (past_white xs) || begins_with 13 (past_white xs)) h)
      by_tests false false false i j k h u =
          let one : line_ahead flow size (l ∷ []) ≡ token_at (token_of flow (past_white l.bytes)) true (lead is_white l.bytes) (l.at + lead is_white l.bytes) =
          ap (λ q. cond q (token_at (mark_of l.bytes) true 0 l.at) (cond (is_passed true l.bytes) (line_ahead flow size []) (content_ahead flow l.at l.bytes))) (unmarked l.at l.bytes false o.0 h i (u.0 refl))
          ∙ ap (λ q. cond q (line_ahead flow size []) (content_ahead flow l.at l.bytes)) (not_passed flow l.bytes h true)
          ∙ ap (λ q. cond q (token_at (tab_token (past_white l.bytes)) true (indent l.bytes) (l.at + indent l.bytes)) (token_at (token_of flow (past_white l.bytes)) true (lead is_white l.bytes) (l.at + lead is_white l.bytes))) (sym (same_tab flow l.bytes h) ∙ k) in
          subst (λ b. BothBegin (token_at (token_of flow (past_white xs)) true (lead is_white xs) (l.at + lead is_white xs)) b) (sym one) (at_token flow l.bytes h true l.at (undashed l.at l.bytes false o.0 h u.1))
    line_returned (l ∷ m ∷ ks) o h u = by_tests (is_mark l.bytes) (is_passed true l.bytes) h u (λ g w. line_returned (m ∷ ks) o.1 g w) where
      by_tests : (q r : Bool) → starts_scalar (cond q (token_at (mark_of l.bytes) true 0 l.at) (cond r (line_ahead flow most (cut (m ∷ ks) p)) (content_ahead flow l.at l.bytes))).token ≡ true
          → IsUncut text (cond q (token_at (mark_of l.bytes) true 0 l.at) (cond r (line_ahead flow most (cut (m ∷ ks) p)) (content_ahead flow l.at l.bytes)))
          → (starts_scalar (line_ahead flow most (cut (m ∷ ks) p)).token ≡ true → IsUncut text (line_ahead flow most (cut (m ∷ ks) p)) → BothBegin (line_ahead flow most (cut (m ∷ ks) p)) (line_ahead flow size (m ∷ ks)))
          → BothBegin (cond q (token_at (mark_of l.bytes) true 0 l.at) (cond r (line_ahead flow most (cut (m ∷ ks) p)) (content_ahead flow l.at l.bytes))) (cond q (token_at (mark_of l.bytes) true 0 l.at) (cond r (line_ahead flow size (m ∷ ks)) (content_ahead flow l.at l.bytes)))
      by_tests true r h u f = both_same (token_at (mark_of l.bytes) true 0 l.at) h
      by_tests false true h u f = f h u
      by_tests false false h u f = both_same (content_ahead flow l.at l.bytes) h

    rest_returned : (l : Line) (ks : List Line) → Tails text (cut (l ∷ ks) p) → starts_scalar (rest_ahead flow most (cut (l ∷ ks) p)).token ≡ true → IsUncut text (rest_ahead flow most (cut (l ∷ ks) p)) → BothBegin (rest_ahead flow most (cut (l ∷ ks) p)) (rest_ahead flow size (l ∷ ks))
    rest_returned l [] o h u = by_test (is_passed false xs) refl h u where
      xs : List ℕ
      xs = l.bytes ++ (13 ∷ [])

      by_test : (r : Bool) → is_passed false xs ≡ r → starts_scalar (cond r (line_ahead flow most []) (token_at (token_of flow (past_white xs)) false (lead is_white xs) (l.at + lead is_white xs))).token ≡ true
          → IsUncut text (cond r (line_ahead flow most []) (token_at (token_of flow (past_white xs)) false (lead is_white xs) (l.at + lead is_white xs)))
          → BothBegin (cond r (line_ahead flow most []) (token_at (token_of flow (past_white xs)) false (lead is_white xs) (l.at + lead is_white xs))) (rest_ahead flow size (l ∷ []))
      by_test true j h u = absurd (true≢false (sym h))
      by_test false j h u =
          let one : rest_ahead flow size (l ∷ []) ≡ token_at (token_of flow (past_white l.bytes)) false (lead is_white l.bytes) (l.at + lead is_white l.bytes) =
          ap (λ q. cond q (line_ahead flow size []) (token_at (token_of flow (past_white l.bytes)) false (lead is_white l.bytes) (l.at + lead is_white l.bytes))) (not_passed flow l.bytes h false) in
          subst (λ b. BothBegin (token_at (token_of flow (past_white xs)) false (lead is_white xs) (l.at + lead is_white xs)) b) (sym one) (at_token flow l.bytes h false l.at (undashed l.at l.bytes false o.0 h u.1))
    rest_returned l (m ∷ ks) o h u = by_test (is_passed false l.bytes) h u where
      by_test : (r : Bool) → starts_scalar (cond r (line_ahead flow most (cut (m ∷ ks) p)) (token_at (token_of flow (past_white l.bytes)) false (lead is_white l.bytes) (l.at + lead is_white l.bytes))).token ≡ true
          → IsUncut text (cond r (line_ahead flow most (cut (m ∷ ks) p)) (token_at (token_of flow (past_white l.bytes)) false (lead is_white l.bytes) (l.at + lead is_white l.bytes)))
          → BothBegin (cond r (line_ahead flow most (cut (m ∷ ks) p)) (token_at (token_of flow (past_white l.bytes)) false (lead is_white l.bytes) (l.at + lead is_white l.bytes))) (cond r (line_ahead flow size (m ∷ ks)) (token_at (token_of flow (past_white l.bytes)) false (lead is_white l.bytes) (l.at + lead is_white l.bytes)))
      by_test true h u = line_returned (m ∷ ks) o.1 h u
      by_test false h u = both_same (token_at (token_of flow (past_white l.bytes)) false (lead is_white l.bytes) (l.at + lead is_white l.bytes)) h

  -- a text and the one with the carriage return
  pub returned_ahead : (i : ℕ) → i ≤ length front → starts_scalar (ahead text flow i).token ≡ true → IsUncut text (ahead text flow i) → BothBegin (ahead text flow i) (ahead front flow i)
  returned_ahead i low h u =
      let xs = drop i front in
      let p = i + length xs in
      let l : Line = record { at = i; bytes = line_at xs; broken = has_break xs } in
      let is = lines_are i xs in
      let cut_is : lines i (drop i text) ≡ cut (l ∷ behind i xs) p = ap (lines i) (drop_before i front (13 ∷ []) low) ∙ lines_more i xs (13 ∷ []) refl ∙ ap (λ ls. cut ls p) is in
      let o = subst (λ ls. Tails text ls) cut_is (tails_of text i) in
      subst (λ q. BothBegin (ahead text flow i) (cond q (line_ahead flow (length front) (lines i (drop i front))) (rest_ahead flow (length front) (lines i (drop i front))))) (column_longer front (13 ∷ []) i low)
      (by_column (is_first_column text i) l (behind i xs) p is cut_is o h u) where
        by_column : (q : Bool) (l : Line) (ks : List Line) (p : ℕ) → lines i (drop i front) ≡ l ∷ ks → lines i (drop i text) ≡ cut (l ∷ ks) p → Tails text (cut (l ∷ ks) p)
            → starts_scalar (cond q (line_ahead flow (length text) (lines i (drop i text))) (rest_ahead flow (length text) (lines i (drop i text)))).token ≡ true
            → IsUncut text (cond q (line_ahead flow (length text) (lines i (drop i text))) (rest_ahead flow (length text) (lines i (drop i text))))
            → BothBegin (cond q (line_ahead flow (length text) (lines i (drop i text))) (rest_ahead flow (length text) (lines i (drop i text))))
            (cond q (line_ahead flow (length front) (lines i (drop i front))) (rest_ahead flow (length front) (lines i (drop i front))))
        by_column true l ks p is cuts o h u =
            subst (λ ls. BothBegin (line_ahead flow (length text) (lines i (drop i text))) (line_ahead flow (length front) ls)) (sym is)
            (subst (λ ls. BothBegin (line_ahead flow (length text) ls) (line_ahead flow (length front) (l ∷ ks))) (sym cuts)
            (line_returned p (length front) (length text) (l ∷ ks) o (subst (λ ls. starts_scalar (line_ahead flow (length text) ls).token ≡ true) cuts h) (subst (λ ls. IsUncut text (line_ahead flow (length text) ls)) cuts u)))
        by_column false l ks p is cuts o h u =
            subst (λ ls. BothBegin (rest_ahead flow (length text) (lines i (drop i text))) (rest_ahead flow (length front) ls)) (sym is)
            (subst (λ ls. BothBegin (rest_ahead flow (length text) ls) (rest_ahead flow (length front) (l ∷ ks))) (sym cuts)
            (rest_returned p (length front) (length text) l ks o (subst (λ ls. starts_scalar (rest_ahead flow (length text) ls).token ≡ true) cuts h) (subst (λ ls. IsUncut text (rest_ahead flow (length text) ls)) cuts u)))

-- ---- what may begin a scalar is something

pub starts_some : (t : Token) → starts_scalar t ≡ true → IsSome t
starts_some End h = true≢false (sym h)
starts_some Dashes h = tt
starts_some Dots h = tt
starts_some Dash h = tt
starts_some (Tag len) h = tt
starts_some NoTag h = tt
starts_some (Opens map) h = tt
starts_some (Closes map) h = tt
starts_some Comma h = tt
starts_some (Point loose) h = tt
starts_some Anchor h = tt
starts_some Percent h = tt
starts_some Tabbed h = tt
starts_some Stray h = tt
starts_some Other h = tt

pub some_of : (t : Token) → (t ≡ End → ⊥) → IsSome t
some_of End h = h refl
some_of Dashes h = tt
some_of Dots h = tt
some_of Dash h = tt
some_of (Tag len) h = tt
some_of NoTag h = tt
some_of (Opens map) h = tt
some_of (Closes map) h = tt
some_of Comma h = tt
some_of (Point loose) h = tt
some_of Anchor h = tt
some_of Percent h = tt
some_of Tabbed h = tt
some_of Stray h = tt
some_of Other h = tt
