-- Where a scalar may begin at what is ahead, it may begin there where the last line goes on with a byte that is no white space and no part of a mark or break. By induction over lines.
use Rattle.std.proofs.Common.{◌≡◌, ℕ, ◌+◌, ◌<◌, ◌≤◌, Bool, true, false, ◌||◌, ◌&&◌, not, cond, nat_eq, nat_lt, arith, List, [], ◌∷◌, ◌++◌, drop, length, refl, sym, ap, ◌∙◌, subst, true≢false, length-drop}
use Rattle.std.proofs.lemmas.Bool.Decides.{nat_tests}
use Rattle.yaml_scalars.specs.Lines.{Line, lines, begins_with, is_white, is_space, is_blank, lead, past_white, indent, is_mark, is_end}
use Rattle.yaml_scalars.specs.Plain.{is_unsafe}
use Rattle.yaml_scalars.specs.Scalar.{is_first_column}
use Rattle.yaml_scalars.specs.code.Walk.{line_at, has_break, behind}
use Rattle.yaml_scalars.proofs.Places.{lines_are, lead_le}
use Rattle.yaml_laws.proofs.Agree.{drop_before}
use Rattle.yaml_laws.proofs.BlockShown.{blank_less}
use Rattle.yaml_laws.proofs.EscapeLonger.{is_fit}
use Rattle.yaml_laws.proofs.Longer.{glue, rest_of, no_feed, lines_more}
use Rattle.yaml_laws.proofs.QuotedLaw.{lead_some}
use Rattle.yaml_laws.proofs.QuotedLonger.{mark_fit}
use Rattle.yaml_laws.proofs.ScalarLaw.{column_longer}
use Rattle.yaml_grammar.proofs.AheadClosed.{returns_more, lead_stop, begins_more}
use Rattle.yaml_grammar.proofs.ScalarAhead.{name_scalar}
use Rattle.yaml_grammar.proofs.ScalarFails.{not_blank}
use Rattle.yaml_grammar.specs.declared.ahead.Ahead.{Ahead}
use Rattle.yaml_grammar.specs.declared.ahead.Token.TheVariants.{Dashes, Dots, Dash, Opens, Closes, Comma, Point, Stray, Tabbed}
use Rattle.yaml_grammar.specs.Ahead.{tag_token, tab_token, is_tabbed, other_token, token_of, token_at, mark_of, has_return, is_passed, content_ahead, line_ahead, rest_ahead, ahead}
use Rattle.yaml_grammar.specs.Nodes.{starts_scalar}

-- a scalar may begin at both, at the same place
abbrev pub BothBegin : Ahead → Ahead → Type 0
BothBegin a b = (b.at ≡ a.at) × (b.fresh ≡ a.fresh) × (b.column ≡ a.column) × (starts_scalar b.token ≡ true)

pub both_same : (a : Ahead) → starts_scalar a.token ≡ true → BothBegin a a
both_same a h = (refl, refl, refl, h)

-- ---- a token

-- a colon may begin one whatever follows
colon_begins : (flow : Bool) (z : List ℕ) → starts_scalar (token_of flow (58 ∷ z)) ≡ true
colon_begins true z = refl
colon_begins false z = by_end (is_end z) where
  by_end : (q : Bool) → starts_scalar (cond q (Point true) (other_token 58)) ≡ true
  by_end true = refl
  by_end false = refl

dash_begins : (flow : Bool) (bs : List ℕ) (c : ℕ) (y : List ℕ) → starts_scalar (token_of flow (45 ∷ bs)) ≡ true → starts_scalar (token_of flow (45 ∷ (bs ++ (c ∷ y)))) ≡ true
dash_begins true bs c y h = refl
dash_begins false [] c y h = absurd (true≢false (sym h))
dash_begins false (b ∷ bs) c y h = h

-- any other byte tells it alone
pub byte_tells : (flow : Bool) (b : ℕ) (x y : List ℕ) → nat_eq b 33 ≡ false → nat_eq b 45 ≡ false → nat_eq b 58 ≡ false → token_of flow (b ∷ x) ≡ token_of flow (b ∷ y)
byte_tells flow b x y e f g = by_flow flow where
  by_flow : (flow : Bool) → token_of flow (b ∷ x) ≡ token_of flow (b ∷ y)
  by_flow true = by_tests (nat_eq b 58) (nat_eq b 33) g e where
    by_tests : (p q : Bool) → p ≡ false → q ≡ false
        → cond (nat_eq b 91) (Opens false) (cond (nat_eq b 123) (Opens true) (cond (nat_eq b 93) (Closes false) (cond (nat_eq b 125) (Closes true) (cond (nat_eq b 44) Comma (cond p (Point (is_unsafe true x)) (cond q (tag_token true x) (other_token b)))))))
        ≡ cond (nat_eq b 91) (Opens false) (cond (nat_eq b 123) (Opens true) (cond (nat_eq b 93) (Closes false) (cond (nat_eq b 125) (Closes true) (cond (nat_eq b 44) Comma (cond p (Point (is_unsafe true y)) (cond q (tag_token true y) (other_token b)))))))
    by_tests true q i j = absurd (true≢false i)
    by_tests false true i j = absurd (true≢false j)
    by_tests false false i j = refl
  by_flow false = by_tests (nat_eq b 45) (nat_eq b 58) (nat_eq b 33) f g e where
    by_tests : (p q r : Bool) → p ≡ false → q ≡ false → r ≡ false
        → cond (nat_eq b 91) (Opens false) (cond (nat_eq b 123) (Opens true) (cond (p && is_end x) Dash (cond (q && is_end x) (Point true) (cond r (tag_token false x) (other_token b)))))
        ≡ cond (nat_eq b 91) (Opens false) (cond (nat_eq b 123) (Opens true) (cond (p && is_end y) Dash (cond (q && is_end y) (Point true) (cond r (tag_token false y) (other_token b)))))
    by_tests true q r i j k = absurd (true≢false i)
    by_tests false true r i j k = absurd (true≢false j)
    by_tests false false true i j k = absurd (true≢false k)
    by_tests false false false i j k = refl

token_begins : (flow : Bool) (xs : List ℕ) (c : ℕ) (y : List ℕ) → 0 < length xs → starts_scalar (token_of flow xs) ≡ true → starts_scalar (token_of flow (xs ++ (c ∷ y))) ≡ true
token_begins flow [] c y l h = absurd (omega (arith, l))
token_begins flow (b ∷ bs) c y l h = by_tests (nat_eq b 33) (nat_eq b 45) (nat_eq b 58) refl refl refl where
  by_tests : (p q r : Bool) → nat_eq b 33 ≡ p → nat_eq b 45 ≡ q → nat_eq b 58 ≡ r → starts_scalar (token_of flow (b ∷ (bs ++ (c ∷ y)))) ≡ true
  by_tests true q r i j k = let n : b ≡ 33 = grind (arith, nat_tests, i) in absurd (true≢false (sym h ∙ ap (λ b. starts_scalar (token_of flow (b ∷ bs))) n ∙ name_scalar flow bs))
  by_tests false true r i j k =
      let n : b ≡ 45 = grind (arith, nat_tests, j) in
      subst (λ b. starts_scalar (token_of flow (b ∷ (bs ++ (c ∷ y)))) ≡ true) (sym n) (dash_begins flow bs c y (subst (λ b. starts_scalar (token_of flow (b ∷ bs)) ≡ true) n h))
  by_tests false false true i j k = let n : b ≡ 58 = grind (arith, nat_tests, k) in subst (λ b. starts_scalar (token_of flow (b ∷ (bs ++ (c ∷ y)))) ≡ true) (sym n) (colon_begins flow (bs ++ (c ∷ y)))
  by_tests false false false i j k = ap starts_scalar (byte_tells flow b (bs ++ (c ∷ y)) bs i j k) ∙ h

module _ (c : ℕ) (tail : List ℕ) (fit : is_fit c ≡ true) (flow : Bool) where
  no_white : is_white c ≡ false
  no_white = grind (arith, nat_tests, fit)

  no_space : is_space c ≡ false
  no_space = grind (arith, nat_tests, fit)

  -- ---- the last line

  module _ (xs : List ℕ) (full : is_blank xs ≡ false) where
    pub white : lead is_white (xs ++ (c ∷ tail)) ≡ lead is_white xs
    white = lead_stop is_white c tail xs no_white

    pub rest : past_white (xs ++ (c ∷ tail)) ≡ past_white xs ++ (c ∷ tail)
    rest = ap (λ n. drop n (xs ++ (c ∷ tail))) white ∙ drop_before (lead is_white xs) xs (c ∷ tail) (lead_le is_white xs)

    some : 0 < length (past_white xs)
    some = let l = blank_less xs full in omega (arith, l, length-drop (lead is_white xs) xs)

    begins : starts_scalar (token_of flow (past_white xs)) ≡ true → starts_scalar (token_of flow (past_white (xs ++ (c ∷ tail)))) ≡ true
    begins h = ap (λ t. starts_scalar (token_of flow t)) rest ∙ token_begins flow (past_white xs) c tail some h

    pub kept : (fresh : Bool) → is_passed fresh xs ≡ false → is_passed fresh (xs ++ (c ∷ tail)) ≡ false
    kept fresh h =
        ap (λ q. q || ((fresh || nat_lt 0 (lead is_white (xs ++ (c ∷ tail)))) && (begins_with 35 (past_white (xs ++ (c ∷ tail))) && not (has_return (xs ++ (c ∷ tail)))))) (lead_some xs (c ∷ tail) full).2
        ∙ ap (λ n. (fresh || nat_lt 0 n) && (begins_with 35 (past_white (xs ++ (c ∷ tail))) && not (has_return (xs ++ (c ∷ tail))))) white
        ∙ ap (λ q. (fresh || nat_lt 0 (lead is_white xs)) && (q && not (has_return (xs ++ (c ∷ tail))))) (ap (begins_with 35) rest ∙ begins_more 35 (past_white xs) (c ∷ tail) some)
        ∙ by_tests (is_blank xs) (fresh || nat_lt 0 (lead is_white xs)) (begins_with 35 (past_white xs)) (has_return xs) (has_return (xs ++ (c ∷ tail))) full (λ e. returns_more xs (c ∷ tail) e) h where
          by_tests : (p q r s t : Bool) → p ≡ false → (s ≡ true → t ≡ true) → (p || (q && (r && not s))) ≡ false → (q && (r && not t)) ≡ false
          by_tests true q r s t e f h = absurd (true≢false e)
          by_tests false true true true t e f h = ap not (f refl)
          by_tests false true true false t e f h = absurd (true≢false h)
          by_tests false true false s t e f h = refl
          by_tests false false r s t e f h = refl

    pub tabbed : is_tabbed flow (xs ++ (c ∷ tail)) ≡ is_tabbed flow xs
    tabbed = ap (λ n. not flow && nat_lt n (lead is_white (xs ++ (c ∷ tail)))) (lead_stop is_space c tail xs no_space) ∙ ap (λ n. not flow && nat_lt (indent xs) n) white

    at_token : (fresh : Bool) (at : ℕ) → starts_scalar (token_of flow (past_white xs)) ≡ true
        → BothBegin (token_at (token_of flow (past_white xs)) fresh (lead is_white xs) (at + lead is_white xs)) (token_at (token_of flow (past_white (xs ++ (c ∷ tail)))) fresh (lead is_white (xs ++ (c ∷ tail))) (at + lead is_white (xs ++ (c ∷ tail))))
    at_token fresh at h = (ap (λ n. at + n) white, refl, white, begins h)

    at_content : (at : ℕ) → starts_scalar (content_ahead flow at xs).token ≡ true → BothBegin (content_ahead flow at xs) (content_ahead flow at (xs ++ (c ∷ tail)))
    at_content at h = by_tab (is_tabbed flow xs) (is_tabbed flow (xs ++ (c ∷ tail))) tabbed h where
      no_tab : (q : Bool) → starts_scalar (cond q Stray Tabbed) ≡ true → ⊥
      no_tab true h = true≢false (sym h)
      no_tab false h = true≢false (sym h)

      by_tab : (p q : Bool) → q ≡ p
          → starts_scalar (cond p (token_at (tab_token (past_white xs)) true (indent xs) (at + indent xs)) (token_at (token_of flow (past_white xs)) true (lead is_white xs) (at + lead is_white xs))).token ≡ true
          → BothBegin (cond p (token_at (tab_token (past_white xs)) true (indent xs) (at + indent xs)) (token_at (token_of flow (past_white xs)) true (lead is_white xs) (at + lead is_white xs)))
          (cond q (token_at (tab_token (past_white (xs ++ (c ∷ tail)))) true (indent (xs ++ (c ∷ tail))) (at + indent (xs ++ (c ∷ tail)))) (token_at (token_of flow (past_white (xs ++ (c ∷ tail)))) true (lead is_white (xs ++ (c ∷ tail))) (at + lead is_white (xs ++ (c ∷ tail)))))
      by_tab true q e h = absurd (no_tab (begins_with 35 (past_white xs) || begins_with 13 (past_white xs)) h)
      by_tab false true e h = absurd (true≢false e)
      by_tab false false e h = at_token true at h

  pub unmarked : (xs : List ℕ) → is_mark xs ≡ false → is_mark (xs ++ (c ∷ tail)) ≡ false
  unmarked xs h = by_mark (is_mark (xs ++ (c ∷ tail))) refl where
    by_mark : (q : Bool) → is_mark (xs ++ (c ∷ tail)) ≡ q → q ≡ false
    by_mark true e = absurd (true≢false (sym (mark_fit xs c tail fit e).0 ∙ h))
    by_mark false e = refl

  -- ---- lines

  module _ (size most place : ℕ) where
    line_longer : (ls : List Line) → starts_scalar (line_ahead flow size ls).token ≡ true → BothBegin (line_ahead flow size ls) (line_ahead flow most (glue ls (rest_of place (c ∷ tail) ∷ [])))
    line_longer [] h = absurd (true≢false (sym h))
    line_longer (l ∷ []) h = by_tests (is_mark l.bytes) (is_passed true l.bytes) refl refl h where
      no_marks : (q : Bool) → starts_scalar (cond q Dashes Dots) ≡ true → ⊥
      no_marks true h = true≢false (sym h)
      no_marks false h = true≢false (sym h)

      by_tests : (q r : Bool) → is_mark l.bytes ≡ q → is_passed true l.bytes ≡ r → starts_scalar (cond q (token_at (mark_of l.bytes) true 0 l.at) (cond r (line_ahead flow size []) (content_ahead flow l.at l.bytes))).token ≡ true
          → BothBegin (cond q (token_at (mark_of l.bytes) true 0 l.at) (cond r (line_ahead flow size []) (content_ahead flow l.at l.bytes)))
          (cond (is_mark (l.bytes ++ (c ∷ tail))) (token_at (mark_of (l.bytes ++ (c ∷ tail))) true 0 l.at) (cond (is_passed true (l.bytes ++ (c ∷ tail))) (line_ahead flow most []) (content_ahead flow l.at (l.bytes ++ (c ∷ tail)))))
      by_tests true r i j h = absurd (no_marks (begins_with 45 l.bytes) h)
      by_tests false true i j h = absurd (true≢false (sym h))
      by_tests false false i j h =
          let full = not_blank true l.bytes j in
          subst (λ q. BothBegin (content_ahead flow l.at l.bytes) (cond q (token_at (mark_of (l.bytes ++ (c ∷ tail))) true 0 l.at) (cond (is_passed true (l.bytes ++ (c ∷ tail))) (line_ahead flow most []) (content_ahead flow l.at (l.bytes ++ (c ∷ tail)))))) (sym (unmarked l.bytes i))
          (subst (λ q. BothBegin (content_ahead flow l.at l.bytes) (cond q (line_ahead flow most []) (content_ahead flow l.at (l.bytes ++ (c ∷ tail))))) (sym (kept l.bytes full true j)) (at_content l.bytes full l.at h))
    line_longer (l ∷ m ∷ ls) h = by_tests (is_mark l.bytes) (is_passed true l.bytes) h (λ g. line_longer (m ∷ ls) g) where
      by_tests : (q r : Bool) → starts_scalar (cond q (token_at (mark_of l.bytes) true 0 l.at) (cond r (line_ahead flow size (m ∷ ls)) (content_ahead flow l.at l.bytes))).token ≡ true
          → (starts_scalar (line_ahead flow size (m ∷ ls)).token ≡ true → BothBegin (line_ahead flow size (m ∷ ls)) (line_ahead flow most (glue (m ∷ ls) (rest_of place (c ∷ tail) ∷ []))))
          → BothBegin (cond q (token_at (mark_of l.bytes) true 0 l.at) (cond r (line_ahead flow size (m ∷ ls)) (content_ahead flow l.at l.bytes))) (cond q (token_at (mark_of l.bytes) true 0 l.at) (cond r (line_ahead flow most (glue (m ∷ ls) (rest_of place (c ∷ tail) ∷ []))) (content_ahead flow l.at l.bytes)))
      by_tests true r h f = both_same (token_at (mark_of l.bytes) true 0 l.at) h
      by_tests false true h f = f h
      by_tests false false h f = both_same (content_ahead flow l.at l.bytes) h

    rest_longer : (l : Line) (ls : List Line) → starts_scalar (rest_ahead flow size (l ∷ ls)).token ≡ true → BothBegin (rest_ahead flow size (l ∷ ls)) (rest_ahead flow most (glue (l ∷ ls) (rest_of place (c ∷ tail) ∷ [])))
    rest_longer l [] h = by_test (is_passed false l.bytes) refl h where
      by_test : (r : Bool) → is_passed false l.bytes ≡ r → starts_scalar (cond r (line_ahead flow size []) (token_at (token_of flow (past_white l.bytes)) false (lead is_white l.bytes) (l.at + lead is_white l.bytes))).token ≡ true
          → BothBegin (cond r (line_ahead flow size []) (token_at (token_of flow (past_white l.bytes)) false (lead is_white l.bytes) (l.at + lead is_white l.bytes)))
          (cond (is_passed false (l.bytes ++ (c ∷ tail))) (line_ahead flow most []) (token_at (token_of flow (past_white (l.bytes ++ (c ∷ tail)))) false (lead is_white (l.bytes ++ (c ∷ tail))) (l.at + lead is_white (l.bytes ++ (c ∷ tail)))))
      by_test true j h = absurd (true≢false (sym h))
      by_test false j h =
          let full = not_blank false l.bytes j in
          subst
          (λ q.
          BothBegin (token_at (token_of flow (past_white l.bytes)) false (lead is_white l.bytes) (l.at + lead is_white l.bytes))
          (cond q (line_ahead flow most []) (token_at (token_of flow (past_white (l.bytes ++ (c ∷ tail)))) false (lead is_white (l.bytes ++ (c ∷ tail))) (l.at + lead is_white (l.bytes ++ (c ∷ tail)))))) (sym (kept l.bytes full false j))
          (at_token l.bytes full false l.at h)
    rest_longer l (m ∷ ls) h = by_test (is_passed false l.bytes) h where
      by_test : (r : Bool) → starts_scalar (cond r (line_ahead flow size (m ∷ ls)) (token_at (token_of flow (past_white l.bytes)) false (lead is_white l.bytes) (l.at + lead is_white l.bytes))).token ≡ true
          → BothBegin (cond r (line_ahead flow size (m ∷ ls)) (token_at (token_of flow (past_white l.bytes)) false (lead is_white l.bytes) (l.at + lead is_white l.bytes)))
          (cond r (line_ahead flow most (glue (m ∷ ls) (rest_of place (c ∷ tail) ∷ []))) (token_at (token_of flow (past_white l.bytes)) false (lead is_white l.bytes) (l.at + lead is_white l.bytes)))
      by_test true h = line_longer (m ∷ ls) h
      by_test false h = both_same (token_at (token_of flow (past_white l.bytes)) false (lead is_white l.bytes) (l.at + lead is_white l.bytes)) h

  -- a text and a longer one
  pub ahead_longer : (text : List ℕ) (i : ℕ) → i ≤ length text → no_feed tail ≡ true → starts_scalar (ahead text flow i).token ≡ true → BothBegin (ahead text flow i) (ahead (text ++ (c ∷ tail)) flow i)
  ahead_longer text i low one h =
      let xs = drop i text in
      let feed : no_feed (c ∷ tail) ≡ true = (let z : nat_eq c 10 ≡ false = grind (arith, nat_tests, fit) in ap (λ q. cond q false (no_feed tail)) z ∙ one) in
      let l : Line = record { at = i; bytes = line_at xs; broken = has_break xs } in
      let is = lines_are i xs in
      let longer : lines i (drop i (text ++ (c ∷ tail))) ≡ glue (l ∷ behind i xs) (rest_of (i + length xs) (c ∷ tail) ∷ []) = ap (lines i) (drop_before i text (c ∷ tail) low) ∙ lines_more i xs (c ∷ tail) feed ∙ ap (λ ls. glue ls (rest_of (i + length xs) (c ∷ tail) ∷ [])) is in
      subst
      (λ q. BothBegin (ahead text flow i) (cond q (line_ahead flow (length (text ++ (c ∷ tail))) (lines i (drop i (text ++ (c ∷ tail))))) (rest_ahead flow (length (text ++ (c ∷ tail))) (lines i (drop i (text ++ (c ∷ tail)))))))
      (sym (column_longer text (c ∷ tail) i low)) (by_column (is_first_column text i) l (behind i xs) (i + length xs) is longer h) where
        by_column : (q : Bool) (l : Line) (ks : List Line) (place : ℕ) → lines i (drop i text) ≡ l ∷ ks → lines i (drop i (text ++ (c ∷ tail))) ≡ glue (l ∷ ks) (rest_of place (c ∷ tail) ∷ [])
            → starts_scalar (cond q (line_ahead flow (length text) (lines i (drop i text))) (rest_ahead flow (length text) (lines i (drop i text)))).token ≡ true
            → BothBegin (cond q (line_ahead flow (length text) (lines i (drop i text))) (rest_ahead flow (length text) (lines i (drop i text))))
            (cond q (line_ahead flow (length (text ++ (c ∷ tail))) (lines i (drop i (text ++ (c ∷ tail))))) (rest_ahead flow (length (text ++ (c ∷ tail))) (lines i (drop i (text ++ (c ∷ tail))))))
        by_column true l ks place is longer h =
            subst (λ ls. BothBegin (line_ahead flow (length text) ls) (line_ahead flow (length (text ++ (c ∷ tail))) (lines i (drop i (text ++ (c ∷ tail)))))) (sym is)
            (subst (λ ls. BothBegin (line_ahead flow (length text) (l ∷ ks)) (line_ahead flow (length (text ++ (c ∷ tail))) ls)) (sym longer)
            (line_longer (length text) (length (text ++ (c ∷ tail))) place (l ∷ ks) (subst (λ ls. starts_scalar (line_ahead flow (length text) ls).token ≡ true) is h)))
        by_column false l ks place is longer h =
            subst (λ ls. BothBegin (rest_ahead flow (length text) ls) (rest_ahead flow (length (text ++ (c ∷ tail))) (lines i (drop i (text ++ (c ∷ tail)))))) (sym is)
            (subst (λ ls. BothBegin (rest_ahead flow (length text) (l ∷ ks)) (rest_ahead flow (length (text ++ (c ∷ tail))) ls)) (sym longer)
            (rest_longer (length text) (length (text ++ (c ∷ tail))) place l ks (subst (λ ls. starts_scalar (rest_ahead flow (length text) ls).token ≡ true) is h)))
