-- What a place has ahead is shown not behind what the place behind that has ahead: how far a text is looked at rises from token to token. By induction over lines.
use Rattle.std.proofs.Common.{◌≡◌, ℕ, zero, suc, ◌+◌, ◌<◌, ◌≤◌, ◌⊎◌, inl, inr, Bool, true, false, ◌||◌, ◌&&◌, not, cond, nat_eq, nat_lt, arith, List, [], ◌∷◌, drop, length, refl, sym, ap, ◌∙◌, subst, true≢false, length-drop}
use Rattle.std.proofs.lemmas.Bool.Decides.{nat_tests}
use Rattle.std.proofs.lemmas.List.{drop-drop}
use Rattle.yaml_scalars.specs.Lines.{Line, lines, begins_with, begins_break, is_white, is_blank, lead, indent, past_white, is_mark, is_end}
use Rattle.yaml_scalars.specs.Block.{same, mark_len, may_end, shown, widest}
use Rattle.yaml_scalars.specs.Scalar.{is_first_column}
use Rattle.yaml_scalars.specs.code.Walk.{line_at, has_break, behind}
use Rattle.yaml_scalars.proofs.Places.{lines_are}
use Rattle.yaml_laws.proofs.Agree.{Later, lines_later, behind_later}
use Rattle.yaml_laws.proofs.BlockShown.{spaces_less}
use Rattle.yaml_laws.proofs.LineEnds.{AreOf, lines_of}
use Rattle.yaml_grammar.proofs.AheadStays.{lead_content, line_later, widest_first}
use Rattle.yaml_grammar.specs.declared.ahead.Token.{Token}
use Rattle.yaml_grammar.specs.declared.ahead.Token.TheVariants.{Dashes, Dots, Dash, Tag, NoTag, Point, Tabbed, Stray, Other}
use Rattle.yaml_grammar.specs.Ahead.{token_len, is_name, begins_letter, ends_tag, tag_token, tab_token, is_tabbed, other_token, block_token, token_of, token_at, mark_of, has_return, is_passed, content_ahead, line_ahead, rest_ahead, ahead}
use Rattle.yaml_grammar.specs.Nodes.{is_marked}
use Rattle.yaml_grammar.specs.code.AheadSeen.{token_shown, first_return, content_shown, line_seen, rest_seen, ahead_seen}

-- ---- a token with a length is shown within it

abbrev Reaches : Bool → List ℕ → Type 0
Reaches flow xs = 0 < token_len (token_of flow xs) → token_shown xs ≤ token_len (token_of flow xs)

name_reach : (flow : Bool) (bs : List ℕ) → Reaches flow (33 ∷ bs)
name_reach flow bs = by_flow flow where
  by_tag : (q : Bool) (n : ℕ) → 0 < token_len (cond q (Tag n) NoTag) → suc n ≤ token_len (cond q (Tag n) NoTag)
  by_tag true n l = omega arith
  by_tag false n l = absurd (omega (arith, l))

  by_flow : (flow : Bool) → Reaches flow (33 ∷ bs)
  by_flow true l = by_tag (begins_letter bs && ends_tag true (drop (lead is_name bs) bs)) (lead is_name bs) l
  by_flow false l = by_tag (begins_letter bs && ends_tag false (drop (lead is_name bs) bs)) (lead is_name bs) l

dash_reach : (flow : Bool) (bs : List ℕ) → Reaches flow (45 ∷ bs)
dash_reach true bs l = absurd (omega (arith, l))
dash_reach false bs l = by_end (is_end bs) l where
  by_end : (q : Bool) → 0 < token_len (cond q Dash Other) → 1 ≤ token_len (cond q Dash Other)
  by_end true l = omega arith
  by_end false l = absurd (omega (arith, l))

colon_reach : (flow : Bool) (bs : List ℕ) → Reaches flow (58 ∷ bs)
colon_reach true bs l = omega arith
colon_reach false bs l = by_end (is_end bs) l where
  by_end : (q : Bool) → 0 < token_len (cond q (Point true) Other) → 1 ≤ token_len (cond q (Point true) Other)
  by_end true l = omega arith
  by_end false l = absurd (omega (arith, l))

return_none : (flow : Bool) (xs : List ℕ) → begins_with 13 xs ≡ true → token_len (token_of flow xs) ≡ 0
return_none flow [] h = refl
return_none flow (c ∷ xs) h = let e : c ≡ 13 = grind (arith, nat_tests, h) in ap (λ c. token_len (token_of flow (c ∷ xs))) e ∙ by_flow flow where
  by_flow : (flow : Bool) → token_len (token_of flow (13 ∷ xs)) ≡ 0
  by_flow true = refl
  by_flow false = refl

comment_none : (flow : Bool) (xs : List ℕ) → begins_with 35 xs ≡ true → token_len (token_of flow xs) ≡ 0
comment_none flow [] h = refl
comment_none flow (c ∷ xs) h = let e : c ≡ 35 = grind (arith, nat_tests, h) in ap (λ c. token_len (token_of flow (c ∷ xs))) e ∙ by_flow flow where
  by_flow : (flow : Bool) → token_len (token_of flow (35 ∷ xs)) ≡ 0
  by_flow true = refl
  by_flow false = refl

token_reach : (flow : Bool) (xs : List ℕ) → Reaches flow xs
token_reach flow [] l = omega arith
token_reach flow (c ∷ bs) l = by_tests (nat_eq c 33) (nat_eq c 45) (nat_eq c 58) (nat_eq c 13) refl refl refl refl where
  by_tests : (p q r s : Bool) → nat_eq c 33 ≡ p → nat_eq c 45 ≡ q → nat_eq c 58 ≡ r → nat_eq c 13 ≡ s → cond p (suc (lead is_name bs)) (cond (q || (r || s)) 1 0) ≤ token_len (token_of flow (c ∷ bs))
  by_tests true q r s i j k m =
      let e : c ≡ 33 = grind (arith, nat_tests, i) in
      subst (λ c. suc (lead is_name bs) ≤ token_len (token_of flow (c ∷ bs))) (sym e) (name_reach flow bs (subst (λ c. 0 < token_len (token_of flow (c ∷ bs))) e l))
  by_tests false true r s i j k m =
      let e : c ≡ 45 = grind (arith, nat_tests, j) in
      subst (λ c. 1 ≤ token_len (token_of flow (c ∷ bs))) (sym e) (dash_reach flow bs (subst (λ c. 0 < token_len (token_of flow (c ∷ bs))) e l))
  by_tests false false true s i j k m =
      let e : c ≡ 58 = grind (arith, nat_tests, k) in
      subst (λ c. 1 ≤ token_len (token_of flow (c ∷ bs))) (sym e) (colon_reach flow bs (subst (λ c. 0 < token_len (token_of flow (c ∷ bs))) e l))
  by_tests false false false true i j k m = let z = return_none flow (c ∷ bs) m in absurd (omega (arith, l, z))
  by_tests false false false false i j k m = omega arith

-- a line that begins with no byte of a mark
plain_reach : (flow : Bool) (xs : List ℕ) → mark_len xs ≡ 0 → 0 < token_len (token_of flow (past_white xs)) → shown xs ≤ lead is_white xs + token_len (token_of flow (past_white xs))
plain_reach flow xs m l = by_return (begins_with 13 (drop (lead is_white xs + mark_len xs) xs)) refl where
  by_return : (q : Bool) → begins_with 13 (drop (lead is_white xs + mark_len xs) xs) ≡ q → cond (q && may_end (mark_len xs)) (suc (lead is_white xs + mark_len xs)) (lead is_white xs + mark_len xs) ≤ lead is_white xs + token_len (token_of flow (past_white xs))
  by_return true e =
      let n : lead is_white xs + mark_len xs ≡ lead is_white xs = omega (arith, m) in
      let z = return_none flow (past_white xs) (ap (λ k. begins_with 13 (drop k xs)) (sym n) ∙ e) in
      absurd (omega (arith, l, z))
  by_return false e = omega (arith, m)

-- a dash that is a token
one_shown : (xs : List ℕ) → lead is_white xs ≡ 0 → mark_len xs ≡ 1 → shown xs ≤ 1
one_shown xs w m = by_tests (begins_with 13 (drop (lead is_white xs + mark_len xs) xs)) (may_end (mark_len xs)) (ap may_end m) where
  by_tests : (q r : Bool) → r ≡ false → cond (q && r) (suc (lead is_white xs + mark_len xs)) (lead is_white xs + mark_len xs) ≤ 1
  by_tests q true e = absurd (true≢false e)
  by_tests true false e = omega (arith, w, m)
  by_tests false false e = omega (arith, w, m)

dash_shown : (bs : List ℕ) → is_end bs ≡ true → shown (45 ∷ bs) ≤ 1
dash_shown [] h = one_shown (45 ∷ []) refl refl
dash_shown (b ∷ bs) h = let n : nat_eq b 45 ≡ false = grind (arith, nat_tests, h) in one_shown (45 ∷ b ∷ bs) refl (ap (λ q. suc (cond q (suc (same 45 1 bs)) 0)) n)

mark_reach : (flow : Bool) (xs : List ℕ) → 0 < token_len (token_of flow (past_white xs)) → shown xs ≤ lead is_white xs + token_len (token_of flow (past_white xs))
mark_reach flow [] l = absurd (omega (arith, l))
mark_reach flow (c ∷ bs) l = by_tests (nat_eq c 45) (nat_eq c 46) refl refl where
  dashed : (flow : Bool) → 0 < token_len (token_of flow (45 ∷ bs)) → shown (45 ∷ bs) ≤ token_len (token_of flow (45 ∷ bs))
  dashed true l = absurd (omega (arith, l))
  dashed false l = by_end (is_end bs) refl l where
    by_end : (q : Bool) → is_end bs ≡ q → 0 < token_len (cond q Dash Other) → shown (45 ∷ bs) ≤ token_len (cond q Dash Other)
    by_end true e l = dash_shown bs e
    by_end false e l = absurd (omega (arith, l))

  pointed : (flow : Bool) → 0 < token_len (token_of flow (46 ∷ bs)) → ⊥
  pointed true l = omega (arith, l)
  pointed false l = omega (arith, l)

  by_tests : (p q : Bool) → nat_eq c 45 ≡ p → nat_eq c 46 ≡ q → shown (c ∷ bs) ≤ lead is_white (c ∷ bs) + token_len (token_of flow (past_white (c ∷ bs)))
  by_tests true q i j =
      let e : c ≡ 45 = grind (arith, nat_tests, i) in
      subst (λ c. shown (c ∷ bs) ≤ lead is_white (c ∷ bs) + token_len (token_of flow (past_white (c ∷ bs)))) (sym e) (let z = dashed flow (subst (λ c. 0 < token_len (token_of flow (past_white (c ∷ bs)))) e l) in omega (arith, z))
  by_tests false true i j =
      let e : c ≡ 46 = grind (arith, nat_tests, j) in
      absurd (pointed flow (subst (λ c. 0 < token_len (token_of flow (past_white (c ∷ bs)))) e l))
  by_tests false false i j = plain_reach flow (c ∷ bs) (ap (λ q. cond (q || nat_eq c 46) (suc (same c 2 bs)) 0) i ∙ ap (λ q. cond q (suc (same c 2 bs)) 0) j) l

content_reach : (flow fresh : Bool) (xs : List ℕ) → 0 < token_len (token_of flow (past_white xs)) → content_shown fresh xs ≤ lead is_white xs + token_len (token_of flow (past_white xs))
content_reach flow fresh xs l = by_comment (fresh || nat_lt 0 (lead is_white xs)) (begins_with 35 (past_white xs)) refl where
  by_comment : (p q : Bool) → begins_with 35 (past_white xs) ≡ q → cond (p && q) (first_return xs) (lead is_white xs + token_shown (past_white xs)) ≤ lead is_white xs + token_len (token_of flow (past_white xs))
  by_comment true true e = let z = comment_none flow (past_white xs) e in absurd (omega (arith, l, z))
  by_comment true false e = let z = token_reach flow (past_white xs) l in omega (arith, z)
  by_comment false q e = let z = token_reach flow (past_white xs) l in omega (arith, z)

pub widest_less : (a b n : ℕ) → a ≤ n → b ≤ n → widest a b ≤ n
widest_less a b n h k = by_less (nat_lt a b) where
  by_less : (q : Bool) → cond q b a ≤ n
  by_less true = k
  by_less false = h

-- ---- a token with a length that is no mark: the text is looked at no further than behind it

abbrev Firm : Token → Type 0
Firm t = (is_marked t ≡ false) × (0 < token_len t)

line_reach : (flow : Bool) (size : ℕ) (ls : List Line) → Firm (line_ahead flow size ls).token → line_seen size ls ≤ (line_ahead flow size ls).behind
line_reach flow size [] (m, l) = absurd (omega (arith, l))
line_reach flow size (l ∷ ls) firm = by_tests (is_mark l.bytes) (is_passed true l.bytes) firm (line_reach flow size ls) where
  marked_first : (q : Bool) → is_marked (cond q Dashes Dots) ≡ false → ⊥
  marked_first true h = true≢false h
  marked_first false h = true≢false h

  tab_none : (q : Bool) → 0 < token_len (cond q Stray Tabbed) → ⊥
  tab_none true h = omega (arith, h)
  tab_none false h = omega (arith, h)

  by_tab : (q : Bool)
      → Firm (cond q (token_at (tab_token (past_white l.bytes)) true (indent l.bytes) (l.at + indent l.bytes)) (token_at (token_of flow (past_white l.bytes)) true (lead is_white l.bytes) (l.at + lead is_white l.bytes))).token
      → l.at + widest (shown l.bytes) (content_shown true l.bytes) ≤ (cond q (token_at (tab_token (past_white l.bytes)) true (indent l.bytes) (l.at + indent l.bytes)) (token_at (token_of flow (past_white l.bytes)) true (lead is_white l.bytes) (l.at + lead is_white l.bytes))).behind
  by_tab true f = absurd (tab_none (begins_with 35 (past_white l.bytes) || begins_with 13 (past_white l.bytes)) f.1)
  by_tab false f =
      let z = widest_less (shown l.bytes) (content_shown true l.bytes) (lead is_white l.bytes + token_len (token_of flow (past_white l.bytes))) (mark_reach flow l.bytes f.1) (content_reach flow true l.bytes f.1) in
      omega (arith, z)

  by_tests : (q r : Bool) → Firm (cond q (token_at (mark_of l.bytes) true 0 l.at) (cond r (line_ahead flow size ls) (content_ahead flow l.at l.bytes))).token → (Firm (line_ahead flow size ls).token → line_seen size ls ≤ (line_ahead flow size ls).behind)
      → cond q (l.at + 4) (cond r (line_seen size ls) (l.at + widest (shown l.bytes) (content_shown true l.bytes))) ≤ (cond q (token_at (mark_of l.bytes) true 0 l.at) (cond r (line_ahead flow size ls) (content_ahead flow l.at l.bytes))).behind
  by_tests true r f h = absurd (marked_first (begins_with 45 l.bytes) f.0)
  by_tests false true f h = h f
  by_tests false false f h = by_tab (is_tabbed flow l.bytes) f

rest_reach : (flow : Bool) (size : ℕ) (ls : List Line) → Firm (rest_ahead flow size ls).token → rest_seen size ls ≤ (rest_ahead flow size ls).behind
rest_reach flow size [] (m, l) = absurd (omega (arith, l))
rest_reach flow size (l ∷ ls) firm = by_test (is_passed false l.bytes) firm where
  by_test : (r : Bool) → Firm (cond r (line_ahead flow size ls) (token_at (token_of flow (past_white l.bytes)) false (lead is_white l.bytes) (l.at + lead is_white l.bytes))).token
      → cond r (line_seen size ls) (l.at + content_shown false l.bytes) ≤ (cond r (line_ahead flow size ls) (token_at (token_of flow (past_white l.bytes)) false (lead is_white l.bytes) (l.at + lead is_white l.bytes))).behind
  by_test true f = line_reach flow size ls f
  by_test false f = let z = content_reach flow false l.bytes f.1 in omega (arith, z)

pub seen_behind : (text : List ℕ) (flow : Bool) (i : ℕ) (t : Token) → (ahead text flow i).token ≡ t → is_marked t ≡ false → 0 < token_len t → ahead_seen text i ≤ (ahead text flow i).behind
seen_behind text flow i t e m l = by_column (is_first_column text i) (ap is_marked e ∙ m, subst (λ t. 0 < token_len t) (sym e) l) where
  by_column : (q : Bool) → Firm (cond q (line_ahead flow (length text) (lines i (drop i text))) (rest_ahead flow (length text) (lines i (drop i text)))).token
      → cond q (line_seen (length text) (lines i (drop i text))) (rest_seen (length text) (lines i (drop i text))) ≤ (cond q (line_ahead flow (length text) (lines i (drop i text))) (rest_ahead flow (length text) (lines i (drop i text)))).behind
  by_column true f = line_reach flow (length text) (lines i (drop i text)) f
  by_column false f = rest_reach flow (length text) (lines i (drop i text)) f

-- ---- what is ahead is shown not before it begins, and that is not before the place

line_from : (flow : Bool) (size : ℕ) (ls : List Line) → (line_ahead flow size ls).at ≤ line_seen size ls
line_from flow size [] = omega arith
line_from flow size (l ∷ ls) = by_tests (is_mark l.bytes) (is_passed true l.bytes) (line_from flow size ls) where
  wide : lead is_white l.bytes ≤ widest (shown l.bytes) (content_shown true l.bytes)
  wide = let z = widest_first (shown l.bytes) (content_shown true l.bytes) (widest (shown l.bytes) (content_shown true l.bytes)) (omega arith) in let b = z.1 in let c = lead_content true l.bytes in omega (arith, b, c)

  by_tab : (q : Bool) → (cond q (token_at (tab_token (past_white l.bytes)) true (indent l.bytes) (l.at + indent l.bytes)) (token_at (token_of flow (past_white l.bytes)) true (lead is_white l.bytes) (l.at + lead is_white l.bytes))).at ≤ l.at + widest (shown l.bytes) (content_shown true l.bytes)
  by_tab true = let w = wide in let s = spaces_less l.bytes in omega (arith, w, s)
  by_tab false = let w = wide in omega (arith, w)

  by_tests : (q r : Bool) → (line_ahead flow size ls).at ≤ line_seen size ls
      → (cond q (token_at (mark_of l.bytes) true 0 l.at) (cond r (line_ahead flow size ls) (content_ahead flow l.at l.bytes))).at ≤ cond q (l.at + 4) (cond r (line_seen size ls) (l.at + widest (shown l.bytes) (content_shown true l.bytes)))
  by_tests true r h = omega arith
  by_tests false true h = h
  by_tests false false h = by_tab (is_tabbed flow l.bytes)

rest_from : (flow : Bool) (size : ℕ) (ls : List Line) → (rest_ahead flow size ls).at ≤ rest_seen size ls
rest_from flow size [] = omega arith
rest_from flow size (l ∷ ls) = by_test (is_passed false l.bytes) where
  by_test : (r : Bool) → (cond r (line_ahead flow size ls) (token_at (token_of flow (past_white l.bytes)) false (lead is_white l.bytes) (l.at + lead is_white l.bytes))).at ≤ cond r (line_seen size ls) (l.at + content_shown false l.bytes)
  by_test true = line_from flow size ls
  by_test false = let c = lead_content false l.bytes in omega (arith, c)

pub seen_from : (text : List ℕ) (flow : Bool) (i : ℕ) → (ahead text flow i).at ≤ ahead_seen text i
seen_from text flow i = by_column (is_first_column text i) where
  by_column : (q : Bool) → (cond q (line_ahead flow (length text) (lines i (drop i text))) (rest_ahead flow (length text) (lines i (drop i text)))).at ≤ cond q (line_seen (length text) (lines i (drop i text))) (rest_seen (length text) (lines i (drop i text)))
  by_column true = line_from flow (length text) (lines i (drop i text))
  by_column false = rest_from flow (length text) (lines i (drop i text))

pub rest_later : (size p : ℕ) (ls : List Line) → p < size → Later p ls → p < rest_seen size ls
rest_later size p [] z w = z
rest_later size p (l ∷ ls) z w = by_test (is_passed false l.bytes) where
  by_test : (r : Bool) → p < cond r (line_seen size ls) (l.at + content_shown false l.bytes)
  by_test true = line_later size p ls z w.1
  by_test false = let a = w.0 in omega (arith, a)

pub seen_least : (text : List ℕ) (i : ℕ) → i ≤ length text → i ≤ ahead_seen text i
seen_least text zero l = omega arith
seen_least text (suc p) l = by_column (is_first_column text (suc p)) where
  low : p < length text
  low = omega (arith, l)

  by_column : (q : Bool) → suc p ≤ cond q (line_seen (length text) (lines (suc p) (drop (suc p) text))) (rest_seen (length text) (lines (suc p) (drop (suc p) text)))
  by_column true = let z = line_later (length text) p (lines (suc p) (drop (suc p) text)) low (lines_later p (suc p) (drop (suc p) text) (omega arith)) in omega (arith, z)
  by_column false = let z = rest_later (length text) p (lines (suc p) (drop (suc p) text)) low (lines_later p (suc p) (drop (suc p) text) (omega arith)) in omega (arith, z)

-- what is ahead, and then what is ahead behind that: `-`, a tag, a bracket, a comma or a colon
pub seen_next : (text : List ℕ) (flow : Bool) (i : ℕ) (t : Token) → (ahead text flow i).token ≡ t → is_marked t ≡ false → 0 < token_len t → (ahead text flow i).behind ≤ length text → ahead_seen text i ≤ ahead_seen text (ahead text flow i).behind
seen_next text flow i t e m l w = let a = seen_behind text flow i t e m l in let b = seen_least text (ahead text flow i).behind w in omega (arith, a, b)

-- ---- a line `---` or `...`: behind its three bytes stands white space or its end, so what is ahead there is shown behind them

pub line_rest : (n : ℕ) (ys : List ℕ) → n ≤ length (line_at ys) → line_at (drop n ys) ≡ drop n (line_at ys)
line_rest zero ys l = refl
line_rest (suc n) [] l = absurd (omega (arith, l))
line_rest (suc n) (b ∷ ys) l = by_break (begins_break b ys) l (λ m. line_rest n ys m) where
  by_break : (q : Bool) → suc n ≤ length (cond q [] (b ∷ line_at ys)) → (n ≤ length (line_at ys) → line_at (drop n ys) ≡ drop n (line_at ys)) → line_at (drop n ys) ≡ drop (suc n) (cond q [] (b ∷ line_at ys))
  by_break true l h = absurd (omega (arith, l))
  by_break false l h = h (omega (arith, l))

pub mark_parts : (xs : List ℕ) → is_mark xs ≡ true → (3 ≤ length xs) × (is_end (drop 3 xs) ≡ true)
mark_parts [] h = absurd (true≢false (sym h))
mark_parts (a ∷ []) h = absurd (true≢false (sym h))
mark_parts (a ∷ b ∷ []) h = absurd (true≢false (sym h))
mark_parts (a ∷ b ∷ c ∷ rest) h = by_tests (nat_eq a 45 || nat_eq a 46) (nat_eq a b) (nat_eq a c) h where
  by_tests : (p q r : Bool) → (p && (q && (r && is_end rest))) ≡ true → (3 ≤ suc (suc (suc (length rest)))) × (is_end rest ≡ true)
  by_tests true true true h = (omega arith, h)
  by_tests true true false h = absurd (true≢false (sym h))
  by_tests true false r h = absurd (true≢false (sym h))
  by_tests false q r h = absurd (true≢false (sym h))

-- white space, or the line's end, at a place of a text
ends_here : (xs : List ℕ) → is_end xs ≡ true → (is_blank xs ≡ true) ⊎ (0 < lead is_white xs)
ends_here [] h = inl refl
ends_here (b ∷ xs) h = inr (by_white (is_white b) h) where
  by_white : (q : Bool) → q ≡ true → 0 < cond q (suc (lead is_white xs)) 0
  by_white true e = omega arith
  by_white false e = absurd (true≢false (sym e))

module _ (text : List ℕ) (j place b : ℕ) (xs : List ℕ) (is : drop j text ≡ b ∷ xs) (white : is_end (line_at (b ∷ xs)) ≡ true) where
  within : j < length text
  within = let z = ap (λ (t : List ℕ). length t) is in omega (arith, z, length-drop j text)

  bytes : List ℕ
  bytes = line_at (b ∷ xs)

  late : j < line_seen (length text) (behind j (b ∷ xs))
  late = line_later (length text) j (behind j (b ∷ xs)) within (behind_later j j (b ∷ xs) (omega arith))

  passed : (fresh : Bool) → is_blank bytes ≡ true → is_passed fresh bytes ≡ true
  unfolding bytes
  passed fresh e = ap (λ q. q || ((fresh || nat_lt 0 (lead is_white bytes)) && (begins_with 35 (past_white bytes) && not (has_return bytes)))) e

  some : (fresh : Bool) → is_passed fresh bytes ≡ false → 0 < content_shown fresh bytes
  unfolding bytes
  some fresh e = elim (ends_here bytes white) [
    | inl i ↦ absurd (true≢false (sym (passed fresh i) ∙ e))
    | inr i ↦ (let z = lead_content fresh bytes in omega (arith, z, i))
  ]

  in_line : line_seen (length text) (record { at = j; bytes = line_at (b ∷ xs); broken = has_break (b ∷ xs) } ∷ behind j (b ∷ xs)) ≤ place → j < place
  unfolding bytes
  in_line near = by_tests (is_mark bytes) (is_passed true bytes) refl near where
    by_tests : (q r : Bool) → is_passed true bytes ≡ r → cond q (j + 4) (cond r (line_seen (length text) (behind j (b ∷ xs))) (j + widest (shown bytes) (content_shown true bytes))) ≤ place → j < place
    by_tests true r e n = omega (arith, n)
    by_tests false true e n = let z = late in omega (arith, n, z)
    by_tests false false e n =
        let w = widest_first (shown bytes) (content_shown true bytes) (widest (shown bytes) (content_shown true bytes)) (omega arith) in
        let v = w.1 in
        let z = some true e in
        omega (arith, n, v, z)

  in_rest : rest_seen (length text) (record { at = j; bytes = line_at (b ∷ xs); broken = has_break (b ∷ xs) } ∷ behind j (b ∷ xs)) ≤ place → j < place
  unfolding bytes
  in_rest near = by_test (is_passed false bytes) refl near where
    by_test : (r : Bool) → is_passed false bytes ≡ r → cond r (line_seen (length text) (behind j (b ∷ xs))) (j + content_shown false bytes) ≤ place → j < place
    by_test true e n = let z = late in omega (arith, n, z)
    by_test false e n = let z = some false e in omega (arith, n, z)

  in_text : (q : Bool) → cond q (line_seen (length text) (lines j (b ∷ xs))) (rest_seen (length text) (lines j (b ∷ xs))) ≤ place → j < place
  in_text true n = in_line (subst (λ ls. line_seen (length text) ls ≤ place) (lines_are j (b ∷ xs)) n)
  in_text false n = in_rest (subst (λ ls. rest_seen (length text) ls ≤ place) (lines_are j (b ∷ xs)) n)

pub white_later : (text : List ℕ) (j place : ℕ) → is_end (line_at (drop j text)) ≡ true → place < length text → ahead_seen text j ≤ place → j < place
white_later text j place h low near = by_rest (drop j text) refl h near where
  by_rest : (xs : List ℕ) → drop j text ≡ xs → is_end (line_at xs) ≡ true → cond (is_first_column text j) (line_seen (length text) (lines j (drop j text))) (rest_seen (length text) (lines j (drop j text))) ≤ place → j < place
  by_rest [] e w n = absurd (by_column (is_first_column text j) (subst (λ xs. cond (is_first_column text j) (line_seen (length text) (lines j xs)) (rest_seen (length text) (lines j xs)) ≤ place) e n)) where
    by_column : (q : Bool) → cond q (line_seen (length text) (lines j [])) (rest_seen (length text) (lines j [])) ≤ place → ⊥
    by_column true n = omega (arith, n, low)
    by_column false n = omega (arith, n, low)
  by_rest (b ∷ xs) e w n = in_text text j place b xs e w (is_first_column text j) (subst (λ xs. cond (is_first_column text j) (line_seen (length text) (lines j xs)) (rest_seen (length text) (lines j xs)) ≤ place) e n)

-- no token of a line's content is a mark
pub unmarked : (flow : Bool) (xs : List ℕ) → is_marked (token_of flow xs) ≡ false
unmarked flow [] = refl
unmarked flow (b ∷ bs) = pick _ _ (nat_eq b 91) refl (pick _ _ (nat_eq b 123) refl (pick _ _ (not flow) block (pick _ _ (nat_eq b 93) refl (pick _ _ (nat_eq b 125) refl (pick _ _ (nat_eq b 44) refl (pick _ _ (nat_eq b 58) refl (pick _ _ (nat_eq b 33) (tag true) other))))))) where
  pick : (x y : Token) (q : Bool) → is_marked x ≡ false → is_marked y ≡ false → is_marked (cond q x y) ≡ false
  pick x y true h k = h
  pick x y false h k = k

  other : is_marked (other_token b) ≡ false
  other = pick _ _ (nat_eq b 38 || nat_eq b 42) refl (pick _ _ (nat_eq b 37) refl (pick _ _ (nat_eq b 35 || nat_eq b 13) refl refl))

  tag : (flow : Bool) → is_marked (tag_token flow bs) ≡ false
  tag flow = pick _ _ (begins_letter bs && ends_tag flow (drop (lead is_name bs) bs)) refl refl

  block : is_marked (block_token b bs) ≡ false
  block = pick _ _ (nat_eq b 45 && is_end bs) refl (pick _ _ (nat_eq b 58 && is_end bs) refl (pick _ _ (nat_eq b 33) (tag false) other))

-- where a mark is ahead, its line
abbrev Marks : List ℕ → ℕ → ℕ → Type 0
Marks text stop seen = (at : ℕ) × (is_mark (line_at (drop at text)) ≡ true) × (stop ≡ at + 3) × (seen ≡ at + 4)

line_marks : (text : List ℕ) (flow : Bool) (size : ℕ) (ls : List Line) → AreOf text ls → is_marked (line_ahead flow size ls).token ≡ true → Marks text (line_ahead flow size ls).behind (line_seen size ls)
line_marks text flow size [] o h = absurd (true≢false (sym h))
line_marks text flow size (l ∷ ls) o h = by_tests (is_mark l.bytes) refl (is_passed true l.bytes) h (line_marks text flow size ls o.1) where
  three : (q : Bool) → token_len (cond q Dashes Dots) ≡ 3
  three true = refl
  three false = refl

  by_tab : (q : Bool) → is_marked (cond q (token_at (tab_token (past_white l.bytes)) true (indent l.bytes) (l.at + indent l.bytes)) (token_at (token_of flow (past_white l.bytes)) true (lead is_white l.bytes) (l.at + lead is_white l.bytes))).token ≡ true → ⊥
  by_tab true h = by_byte (begins_with 35 (past_white l.bytes) || begins_with 13 (past_white l.bytes)) h where
    by_byte : (q : Bool) → is_marked (cond q Stray Tabbed) ≡ true → ⊥
    by_byte true h = true≢false (sym h)
    by_byte false h = true≢false (sym h)
  by_tab false h = true≢false (sym h ∙ unmarked flow (past_white l.bytes))

  by_tests : (q : Bool) → is_mark l.bytes ≡ q → (r : Bool) → is_marked (cond q (token_at (mark_of l.bytes) true 0 l.at) (cond r (line_ahead flow size ls) (content_ahead flow l.at l.bytes))).token ≡ true
      → (is_marked (line_ahead flow size ls).token ≡ true → Marks text (line_ahead flow size ls).behind (line_seen size ls))
      → Marks text (cond q (token_at (mark_of l.bytes) true 0 l.at) (cond r (line_ahead flow size ls) (content_ahead flow l.at l.bytes))).behind (cond q (l.at + 4) (cond r (line_seen size ls) (l.at + widest (shown l.bytes) (content_shown true l.bytes))))
  by_tests true e r h g = (l.at, sym (ap is_mark o.0) ∙ e, ap (λ n. l.at + n) (three (begins_with 45 l.bytes)), refl)
  by_tests false e true h g = g h
  by_tests false e false h g = absurd (by_tab (is_tabbed flow l.bytes) h)

rest_marks : (text : List ℕ) (flow : Bool) (size : ℕ) (ls : List Line) → AreOf text ls → is_marked (rest_ahead flow size ls).token ≡ true → Marks text (rest_ahead flow size ls).behind (rest_seen size ls)
rest_marks text flow size [] o h = absurd (true≢false (sym h))
rest_marks text flow size (l ∷ ls) o h = by_test (is_passed false l.bytes) h where
  by_test : (r : Bool) → is_marked (cond r (line_ahead flow size ls) (token_at (token_of flow (past_white l.bytes)) false (lead is_white l.bytes) (l.at + lead is_white l.bytes))).token ≡ true
      → Marks text (cond r (line_ahead flow size ls) (token_at (token_of flow (past_white l.bytes)) false (lead is_white l.bytes) (l.at + lead is_white l.bytes))).behind (cond r (line_seen size ls) (l.at + content_shown false l.bytes))
  by_test true h = line_marks text flow size ls o.1 h
  by_test false h = absurd (true≢false (sym h ∙ unmarked flow (past_white l.bytes)))

pub mark_there : (text : List ℕ) (flow : Bool) (i : ℕ) → is_marked (ahead text flow i).token ≡ true → (at : ℕ) × (is_mark (line_at (drop at text)) ≡ true) × ((ahead text flow i).behind ≡ at + 3) × (ahead_seen text i ≡ at + 4)
mark_there text flow i h = by_column (is_first_column text i) h where
  by_column : (q : Bool) → is_marked (cond q (line_ahead flow (length text) (lines i (drop i text))) (rest_ahead flow (length text) (lines i (drop i text)))).token ≡ true
      → Marks text (cond q (line_ahead flow (length text) (lines i (drop i text))) (rest_ahead flow (length text) (lines i (drop i text)))).behind (cond q (line_seen (length text) (lines i (drop i text))) (rest_seen (length text) (lines i (drop i text))))
  by_column true h = line_marks text flow (length text) (lines i (drop i text)) (lines_of text i) h
  by_column false h = rest_marks text flow (length text) (lines i (drop i text)) (lines_of text i) h

-- through a place in the text that shows what is ahead behind a mark, the mark itself is shown
pub seen_mark : (text : List ℕ) (flow : Bool) (i place : ℕ) → is_marked (ahead text flow i).token ≡ true → place < length text → ahead_seen text (ahead text flow i).behind ≤ place → ahead_seen text i ≤ place
seen_mark text flow i place h low near =
    let (at, m, stop, seen) = mark_there text flow i h in
    let parts = mark_parts (line_at (drop at text)) m in
    let rest : line_at (drop (at + 3) text) ≡ drop 3 (line_at (drop at text)) = ap line_at (sym (drop-drop 3 at text)) ∙ line_rest 3 (drop at text) parts.0 in
    let later = white_later text (at + 3) place (ap is_end rest ∙ parts.1) low (subst (λ n. ahead_seen text n ≤ place) stop near) in
    omega (arith, later, seen)
