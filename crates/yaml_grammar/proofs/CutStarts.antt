-- A text that ends in a carriage return, where no document begins for a comment or white space behind a line `---`: it is short where nothing but that stands there in front of the carriage return, and else dead at its last byte. By the lines.
use Rattle.std.proofs.Common.{◌≡◌, ℕ, suc, ◌+◌, ◌-◌, ◌<◌, ◌≤◌, ◌⊎◌, inl, inr, Bool, true, false, ◌||◌, ◌&&◌, cond, nat_eq, arith, List, [], ◌∷◌, ◌++◌, take, drop, length, refl, sym, ap, ◌∙◌, subst, true≢false, append_assoc, append-nil, length-append}
use Rattle.std.proofs.lemmas.Bool.{cases_lt}
use Rattle.std.proofs.lemmas.Bool.Decides.{nat_tests}
use Rattle.std.proofs.lemmas.Str.{IsUtf8-from_ascii, IsUtf8-append}
use Rattle.std.specs.Str.{IsCharBoundary, IsUtf8}
use Rattle.doc_values.specs.Tree.{Forest}
use Rattle.yaml_scalars.specs.Lines.{Line, begins_with, indent, is_end, is_mark, is_white, lead, lines, past_white}
use Rattle.yaml_scalars.specs.Scalar.{begins_order_mark, is_first_column}
use Rattle.yaml_laws.proofs.Agree.{drop_before}
use Rattle.yaml_laws.proofs.Longer.{glue, rest_of, lines_glued}
use Rattle.yaml_laws.proofs.ScalarLaw.{column_longer}
use Rattle.yaml_grammar.specs.declared.ahead.Ahead.{Ahead}
use Rattle.yaml_grammar.specs.declared.ahead.Token.{Token}
use Rattle.yaml_grammar.specs.declared.ahead.Token.TheVariants.{End, Dashes, Dots, Dash, Tag, NoTag, Opens, Closes, Comma, Point, Anchor, Percent, Tabbed, Stray, Other}
use Rattle.yaml_grammar.specs.Ahead.{ahead, begins_letter, content_ahead, ends_tag, is_name, is_passed, is_tabbed, line_ahead, mark_of, other_token, rest_ahead, tab_token, tag_token, token_at, token_of}
use Rattle.yaml_grammar.specs.Nodes.{is_marked}
use Rattle.yaml_grammar.specs.Places.{IsFront, IsSyntax}
use Rattle.yaml_grammar.specs.Yaml.{IsStart, IsYaml, text_start}
use Rattle.yaml_grammar.proofs.AheadEnds.{IsSome}
use Rattle.yaml_grammar.proofs.AheadFed.{ahead_broken, some_of}
use Rattle.yaml_grammar.proofs.Breaks.{start_breaks}
use Rattle.yaml_grammar.proofs.DeadPlaces.{front_less}
use Rattle.yaml_grammar.proofs.FedStarts.{end_past}
use Rattle.yaml_grammar.proofs.FedTexts.{fed_marks, fed_same, fed_size}
use Rattle.yaml_grammar.proofs.KeyEnds.{line_fresh}
use Rattle.yaml_grammar.proofs.LoneReturns.{return_dead}
use Rattle.yaml_grammar.proofs.Placed.{placed}
use Rattle.yaml_grammar.proofs.ShortTexts.{ascii_bytes}
use Rattle.yaml_grammar.proofs.StartPlaces.{end_fresh}

-- ---- content is no mark

plain_cond : (q : Bool) (s t : Token) → is_marked s ≡ false → is_marked t ≡ false → is_marked (cond q s t) ≡ false
plain_cond true s t h g = h
plain_cond false s t h g = g

plain_token : (xs : List ℕ) → is_marked (token_of false xs) ≡ false
plain_token [] = refl
plain_token (b ∷ bs) =
    let other : is_marked (other_token b) ≡ false =
    plain_cond (nat_eq b 38 || nat_eq b 42) Anchor (cond (nat_eq b 37) Percent (cond (nat_eq b 35 || nat_eq b 13) Stray Other)) refl (plain_cond (nat_eq b 37) Percent (cond (nat_eq b 35 || nat_eq b 13) Stray Other) refl (plain_cond (nat_eq b 35 || nat_eq b 13) Stray Other refl refl)) in
    let tag : is_marked (tag_token false bs) ≡ false = plain_cond (begins_letter bs && ends_tag false (drop (lead is_name bs) bs)) (Tag (lead is_name bs)) NoTag refl refl in
    let last = cond (nat_eq b 33) (tag_token false bs) (other_token b) in
    let colon = cond (nat_eq b 58 && is_end bs) (Point true) last in
    let dash = cond (nat_eq b 45 && is_end bs) Dash colon in
    plain_cond (nat_eq b 91) (Opens false) (cond (nat_eq b 123) (Opens true) dash) refl
    (plain_cond (nat_eq b 123) (Opens true) dash refl
    (plain_cond (nat_eq b 45 && is_end bs) Dash colon refl (plain_cond (nat_eq b 58 && is_end bs) (Point true) last refl (plain_cond (nat_eq b 33) (tag_token false bs) (other_token b) tag other))))

plain_content : (at : ℕ) (xs : List ℕ) → is_marked (content_ahead false at xs).token ≡ false
plain_content at xs = by_tab (is_tabbed false xs) where
  by_tab : (q : Bool) → is_marked (cond q (token_at (tab_token (past_white xs)) true (indent xs) (at + indent xs)) (token_at (token_of false (past_white xs)) true (lead is_white xs) (at + lead is_white xs))).token ≡ false
  by_tab true = plain_cond (begins_with 35 (past_white xs) || begins_with 13 (past_white xs)) Stray Tabbed refl refl
  by_tab false = plain_token (past_white xs)

no_dashes : (t : Token) → is_marked t ≡ false → t ≡ Dashes → ⊥
no_dashes t h e = true≢false (sym (ap is_marked e) ∙ h)

-- ---- a mark with a carriage return behind it

marked_cut : (xs : List ℕ) → is_mark (xs ++ (13 ∷ [])) ≡ true → is_mark xs ≡ true
marked_cut [] h = absurd (true≢false (sym h))
marked_cut (a ∷ []) h = absurd (true≢false (sym h))
marked_cut (a ∷ b ∷ []) h = absurd (by_tests h) where
  by_tests : ((nat_eq a 45 || nat_eq a 46) && (nat_eq a b && (nat_eq a 13 && true))) ≡ true → ⊥
  by_tests h = grind (arith, nat_tests, h)
marked_cut (a ∷ b ∷ c ∷ []) h = absurd (by_tests (nat_eq a 45 || nat_eq a 46) (nat_eq a b) (nat_eq a c) h) where
  by_tests : (p q r : Bool) → (p && (q && (r && false))) ≡ true → ⊥
  by_tests true true true h = true≢false (sym h)
  by_tests true true false h = true≢false (sym h)
  by_tests true false r h = true≢false (sym h)
  by_tests false q r h = true≢false (sym h)
marked_cut (a ∷ b ∷ c ∷ d ∷ xs) h = h

mark_same : (xs : List ℕ) → is_mark xs ≡ true → mark_of xs ≡ mark_of (xs ++ (13 ∷ []))
mark_same [] h = absurd (true≢false (sym h))
mark_same (a ∷ xs) h = refl

-- lines, the last of which goes on with a carriage return
module _ (m n k : ℕ) where
  abbrev last : Line
  last = rest_of k (13 ∷ [])

  cut_lines : (ls : List Line) → (line_ahead false m (glue ls (last ∷ []))).token ≡ Dashes → line_ahead false n ls ≡ line_ahead false m (glue ls (last ∷ []))
  cut_lines [] h = absurd (no_dashes End refl h)
  cut_lines (l ∷ []) h = by_mark (is_mark (l.bytes ++ (13 ∷ []))) refl h where
    by_mark : (q : Bool) → is_mark (l.bytes ++ (13 ∷ [])) ≡ q → (cond q (token_at (mark_of (l.bytes ++ (13 ∷ []))) true 0 l.at) (cond (is_passed true (l.bytes ++ (13 ∷ []))) (token_at End true 0 m) (content_ahead false l.at (l.bytes ++ (13 ∷ []))))).token ≡ Dashes
        → line_ahead false n (l ∷ []) ≡ cond q (token_at (mark_of (l.bytes ++ (13 ∷ []))) true 0 l.at) (cond (is_passed true (l.bytes ++ (13 ∷ []))) (token_at End true 0 m) (content_ahead false l.at (l.bytes ++ (13 ∷ []))))
    by_mark true e g =
        ap (λ q. cond q (token_at (mark_of l.bytes) true 0 l.at) (cond (is_passed true l.bytes) (line_ahead false n []) (content_ahead false l.at l.bytes))) (marked_cut l.bytes e) ∙ ap (λ t. token_at t true 0 l.at) (mark_same l.bytes (marked_cut l.bytes e))
    by_mark false e g = absurd (none (is_passed true (l.bytes ++ (13 ∷ []))) g) where
      none : (r : Bool) → (cond r (token_at End true 0 m) (content_ahead false l.at (l.bytes ++ (13 ∷ [])))).token ≡ Dashes → ⊥
      none true z = no_dashes End refl z
      none false z = no_dashes (content_ahead false l.at (l.bytes ++ (13 ∷ []))).token (plain_content l.at (l.bytes ++ (13 ∷ []))) z
  cut_lines (l ∷ f ∷ ls) h = by_mark (is_mark l.bytes) (is_passed true l.bytes) h (cut_lines (f ∷ ls)) where
    by_mark : (q r : Bool) → (cond q (token_at (mark_of l.bytes) true 0 l.at) (cond r (line_ahead false m (glue (f ∷ ls) (last ∷ []))) (content_ahead false l.at l.bytes))).token ≡ Dashes
        → ((line_ahead false m (glue (f ∷ ls) (last ∷ []))).token ≡ Dashes → line_ahead false n (f ∷ ls) ≡ line_ahead false m (glue (f ∷ ls) (last ∷ [])))
        → cond q (token_at (mark_of l.bytes) true 0 l.at) (cond r (line_ahead false n (f ∷ ls)) (content_ahead false l.at l.bytes)) ≡ cond q (token_at (mark_of l.bytes) true 0 l.at) (cond r (line_ahead false m (glue (f ∷ ls) (last ∷ []))) (content_ahead false l.at l.bytes))
    by_mark true r g next = refl
    by_mark false true g next = next g
    by_mark false false g next = refl

  cut_rest : (ls : List Line) → (rest_ahead false m (glue ls (last ∷ []))).token ≡ Dashes → rest_ahead false n ls ≡ rest_ahead false m (glue ls (last ∷ []))
  cut_rest [] h = absurd (no_dashes End refl h)
  cut_rest (l ∷ []) h = absurd (none (is_passed false (l.bytes ++ (13 ∷ []))) h) where
    none : (r : Bool) → (cond r (token_at End true 0 m) (token_at (token_of false (past_white (l.bytes ++ (13 ∷ [])))) false (lead is_white (l.bytes ++ (13 ∷ []))) (l.at + lead is_white (l.bytes ++ (13 ∷ []))))).token ≡ Dashes → ⊥
    none true z = no_dashes End refl z
    none false z = no_dashes (token_of false (past_white (l.bytes ++ (13 ∷ [])))) (plain_token (past_white (l.bytes ++ (13 ∷ [])))) z
  cut_rest (l ∷ f ∷ ls) h = by_passed (is_passed false l.bytes) h where
    by_passed : (r : Bool) → (cond r (line_ahead false m (glue (f ∷ ls) (last ∷ []))) (token_at (token_of false (past_white l.bytes)) false (lead is_white l.bytes) (l.at + lead is_white l.bytes))).token ≡ Dashes
        → cond r (line_ahead false n (f ∷ ls)) (token_at (token_of false (past_white l.bytes)) false (lead is_white l.bytes) (l.at + lead is_white l.bytes)) ≡ cond r (line_ahead false m (glue (f ∷ ls) (last ∷ []))) (token_at (token_of false (past_white l.bytes)) false (lead is_white l.bytes) (l.at + lead is_white l.bytes))
    by_passed true g = cut_lines (f ∷ ls) g
    by_passed false g = refl

  -- where no further line shows what is ahead
  stale_rest : (ls : List Line) → (rest_ahead false m (glue ls (last ∷ []))).fresh ≡ false → ((rest_ahead false n ls).token ≡ End) ⊎ ((rest_ahead false n ls).fresh ≡ false)
  stale_rest [] h = inl refl
  stale_rest (l ∷ []) h = by_passed (is_passed false l.bytes) where
    by_passed : (r : Bool) → ((cond r (line_ahead false n []) (token_at (token_of false (past_white l.bytes)) false (lead is_white l.bytes) (l.at + lead is_white l.bytes))).token ≡ End)
        ⊎ ((cond r (line_ahead false n []) (token_at (token_of false (past_white l.bytes)) false (lead is_white l.bytes) (l.at + lead is_white l.bytes))).fresh ≡ false)
    by_passed true = inl refl
    by_passed false = inr refl
  stale_rest (l ∷ f ∷ ls) h = by_passed (is_passed false l.bytes) h where
    by_passed : (r : Bool) → (cond r (line_ahead false m (glue (f ∷ ls) (last ∷ []))) (token_at (token_of false (past_white l.bytes)) false (lead is_white l.bytes) (l.at + lead is_white l.bytes))).fresh ≡ false
        → ((cond r (line_ahead false n (f ∷ ls)) (token_at (token_of false (past_white l.bytes)) false (lead is_white l.bytes) (l.at + lead is_white l.bytes))).token ≡ End)
        ⊎ ((cond r (line_ahead false n (f ∷ ls)) (token_at (token_of false (past_white l.bytes)) false (lead is_white l.bytes) (l.at + lead is_white l.bytes))).fresh ≡ false)
    by_passed true g = absurd (true≢false (sym (line_fresh false m (glue (f ∷ ls) (last ∷ []))) ∙ g))
    by_passed false g = inr refl

-- ---- texts

lines_cut : (front : List ℕ) (i : ℕ) → i ≤ length front → lines i (drop i (front ++ (13 ∷ []))) ≡ glue (lines i (drop i front)) (rest_of (i + length (drop i front)) (13 ∷ []) ∷ [])
lines_cut front i low = ap (lines i) (drop_before i front (13 ∷ []) low) ∙ lines_glued i (drop i front) (13 ∷ []) refl

-- a line `---` that is ahead stands there without the carriage return too
cut_ahead : (front : List ℕ) (i : ℕ) → i ≤ length front → (ahead (front ++ (13 ∷ [])) false i).token ≡ Dashes → ahead front false i ≡ ahead (front ++ (13 ∷ [])) false i
cut_ahead front i low h = by_column (is_first_column front i) (sym (ap (λ (a : Ahead). a.token) here) ∙ h) ∙ sym here where
  m : ℕ
  m = length (front ++ (13 ∷ []))

  k : ℕ
  k = i + length (drop i front)

  here : ahead (front ++ (13 ∷ [])) false i ≡ cond (is_first_column front i) (line_ahead false (length (front ++ (13 ∷ []))) (glue (lines i (drop i front)) (rest_of (i + length (drop i front)) (13 ∷ []) ∷ []))) (rest_ahead false (length (front ++ (13 ∷ []))) (glue (lines i (drop i front)) (rest_of (i + length (drop i front)) (13 ∷ []) ∷ [])))
  here =
      ap (λ c. cond c (line_ahead false (length (front ++ (13 ∷ []))) (lines i (drop i (front ++ (13 ∷ []))))) (rest_ahead false (length (front ++ (13 ∷ []))) (lines i (drop i (front ++ (13 ∷ [])))))) (column_longer front (13 ∷ []) i low)
      ∙ ap (λ ls. cond (is_first_column front i) (line_ahead false (length (front ++ (13 ∷ []))) ls) (rest_ahead false (length (front ++ (13 ∷ []))) ls)) (lines_cut front i low)

  by_column : (c : Bool) → (cond c (line_ahead false (length (front ++ (13 ∷ []))) (glue (lines i (drop i front)) (rest_of (i + length (drop i front)) (13 ∷ []) ∷ []))) (rest_ahead false (length (front ++ (13 ∷ []))) (glue (lines i (drop i front)) (rest_of (i + length (drop i front)) (13 ∷ []) ∷ [])))).token ≡ Dashes
      → cond c (line_ahead false (length front) (lines i (drop i front))) (rest_ahead false (length front) (lines i (drop i front)))
      ≡ cond c (line_ahead false (length (front ++ (13 ∷ []))) (glue (lines i (drop i front)) (rest_of (i + length (drop i front)) (13 ∷ []) ∷ []))) (rest_ahead false (length (front ++ (13 ∷ []))) (glue (lines i (drop i front)) (rest_of (i + length (drop i front)) (13 ∷ []) ∷ [])))
  by_column true g = cut_lines (length (front ++ (13 ∷ []))) (length front) (i + length (drop i front)) (lines i (drop i front)) g
  by_column false g = cut_rest (length (front ++ (13 ∷ []))) (length front) (i + length (drop i front)) (lines i (drop i front)) g

cut_stale : (front : List ℕ) (i : ℕ) → i ≤ length front → (ahead (front ++ (13 ∷ [])) false i).fresh ≡ false → ((ahead front false i).token ≡ End) ⊎ ((ahead front false i).fresh ≡ false)
cut_stale front i low h = by_column (is_first_column front i) (sym (ap (λ (a : Ahead). a.fresh) here) ∙ h) where
  here : ahead (front ++ (13 ∷ [])) false i ≡ cond (is_first_column front i) (line_ahead false (length (front ++ (13 ∷ []))) (glue (lines i (drop i front)) (rest_of (i + length (drop i front)) (13 ∷ []) ∷ []))) (rest_ahead false (length (front ++ (13 ∷ []))) (glue (lines i (drop i front)) (rest_of (i + length (drop i front)) (13 ∷ []) ∷ [])))
  here =
      ap (λ c. cond c (line_ahead false (length (front ++ (13 ∷ []))) (lines i (drop i (front ++ (13 ∷ []))))) (rest_ahead false (length (front ++ (13 ∷ []))) (lines i (drop i (front ++ (13 ∷ [])))))) (column_longer front (13 ∷ []) i low)
      ∙ ap (λ ls. cond (is_first_column front i) (line_ahead false (length (front ++ (13 ∷ []))) ls) (rest_ahead false (length (front ++ (13 ∷ []))) ls)) (lines_cut front i low)

  by_column : (c : Bool) → (cond c (line_ahead false (length (front ++ (13 ∷ []))) (glue (lines i (drop i front)) (rest_of (i + length (drop i front)) (13 ∷ []) ∷ []))) (rest_ahead false (length (front ++ (13 ∷ []))) (glue (lines i (drop i front)) (rest_of (i + length (drop i front)) (13 ∷ []) ∷ [])))).fresh ≡ false
      → ((cond c (line_ahead false (length front) (lines i (drop i front))) (rest_ahead false (length front) (lines i (drop i front)))).token ≡ End) ⊎ ((cond c (line_ahead false (length front) (lines i (drop i front))) (rest_ahead false (length front) (lines i (drop i front)))).fresh ≡ false)
  by_column true g = absurd (true≢false (sym (line_fresh false (length (front ++ (13 ∷ []))) (glue (lines i (drop i front)) (rest_of (i + length (drop i front)) (13 ∷ []) ∷ []))) ∙ g))
  by_column false g = stale_rest (length (front ++ (13 ∷ []))) (length front) (i + length (drop i front)) (lines i (drop i front)) g

-- neither a carriage return nor a break behind a text makes a byte order mark
mark_cut : (front : List ℕ) → begins_order_mark (front ++ (13 ∷ [])) ≡ begins_order_mark front
mark_cut [] = refl
mark_cut (a ∷ []) = refl
mark_cut (a ∷ b ∷ []) = by_tests (nat_eq a 239) (nat_eq b 187) where
  by_tests : (p q : Bool) → (p && (q && false)) ≡ false
  by_tests true true = refl
  by_tests true false = refl
  by_tests false q = refl
mark_cut (a ∷ b ∷ c ∷ front) = refl

mark_fed : (front : List ℕ) → begins_order_mark (front ++ (13 ∷ 10 ∷ [])) ≡ begins_order_mark front
mark_fed [] = refl
mark_fed (a ∷ []) = by_test (nat_eq a 239) where
  by_test : (p : Bool) → (p && false) ≡ false
  by_test true = refl
  by_test false = refl
mark_fed (a ∷ b ∷ []) = by_tests (nat_eq a 239) (nat_eq b 187) where
  by_tests : (p q : Bool) → (p && (q && false)) ≡ false
  by_tests true true = refl
  by_tests true false = refl
  by_tests false q = refl
mark_fed (a ∷ b ∷ c ∷ front) = refl

dashes_or : (t : Token) → (t ≡ Dashes) ⊎ (t ≡ Dashes → ⊥)
dashes_or Dashes = inl refl
dashes_or End = inr (λ e. no_dashes End refl e)
dashes_or Dots = inr (λ e. absurd (cc))
dashes_or Tabbed = inr (λ e. no_dashes Tabbed refl e)
dashes_or Dash = inr (λ e. no_dashes Dash refl e)
dashes_or (Tag n) = inr (λ e. no_dashes (Tag n) refl e)
dashes_or NoTag = inr (λ e. no_dashes NoTag refl e)
dashes_or (Opens q) = inr (λ e. no_dashes (Opens q) refl e)
dashes_or (Closes q) = inr (λ e. no_dashes (Closes q) refl e)
dashes_or Comma = inr (λ e. no_dashes Comma refl e)
dashes_or (Point q) = inr (λ e. no_dashes (Point q) refl e)
dashes_or Anchor = inr (λ e. no_dashes Anchor refl e)
dashes_or Percent = inr (λ e. no_dashes Percent refl e)
dashes_or Stray = inr (λ e. no_dashes Stray refl e)
dashes_or Other = inr (λ e. no_dashes Other refl e)

module _ (front : List ℕ) (utf8 : IsUtf8 (front ++ (13 ∷ []))) (there : IsCharBoundary (front ++ (13 ∷ [])) (text_start (front ++ (13 ∷ [])))) (nowhere : (i : ℕ) → IsStart (front ++ (13 ∷ [])) i → ⊥) where
  abbrev cut : List ℕ
  cut = front ++ (13 ∷ [])

  abbrev start : ℕ
  start = text_start (front ++ (13 ∷ []))

  -- behind the line `---`
  abbrev over : ℕ
  over = (ahead (front ++ (13 ∷ [])) false (text_start (front ++ (13 ∷ [])))).behind

  dashes : (ahead cut false start).token ≡ Dashes
  dashes = by_token (dashes_or (ahead cut false start).token) where
    by_token : ((ahead cut false start).token ≡ Dashes) ⊎ ((ahead cut false start).token ≡ Dashes → ⊥) → (ahead cut false start).token ≡ Dashes
    by_token (inl d) = d
    by_token (inr n) = absurd (nowhere start (inr (n, refl)))

  stale : (ahead cut false over).fresh ≡ false
  stale = by_fresh (ahead cut false over).fresh refl where
    by_fresh : (q : Bool) → (ahead cut false over).fresh ≡ q → q ≡ false
    by_fresh true e = absurd (nowhere over (inl (dashes, refl, e)))
    by_fresh false e = refl

  size : length (front ++ (13 ∷ [])) ≡ suc (length front)
  size = length-append front (13 ∷ []) ∙ (let z : length front + 1 ≡ suc (length front) = omega arith in z)

  pub cut_within : over ≤ length front
  cut_within = by_order (cases_lt over (length cut)) where
    by_order : (over < length cut) ⊎ (length cut ≤ over) → over ≤ length front
    by_order (inl l) = let s = size in omega (arith, l, s)
    by_order (inr l) = absurd (true≢false (sym (end_fresh cut over (end_past cut over l)) ∙ stale))

  low : start ≤ length front
  low = let p = placed cut false start utf8 there in let a = p.0 in let b = p.3 in let w = cut_within in omega (arith, a, b, w)

  same_start : text_start front ≡ start
  same_start = ap (λ q. cond q 3 0) (sym (mark_cut front))

  mark : ahead front false start ≡ ahead cut false start
  mark = cut_ahead front start low dashes

  mark_here : (ahead front false start).token ≡ Dashes
  mark_here = ap (λ (a : Ahead). a.token) mark ∙ dashes

  -- with a line feed behind it the text is a document
  pub bare_short : (ahead front false over).token ≡ End → IsSyntax cut (length cut)
  bare_short end = inr (refl, front_less cut (10 ∷ []) fed) where
    behind : (ahead front false (text_start front)).behind ≡ over
    behind = ap (λ n. (ahead front false n).behind) same_start ∙ ap (λ (a : Ahead). a.behind) mark

    document : (tree : Forest) × IsYaml (front ++ (13 ∷ 10 ∷ [])) tree
    document =
        let l = low in
        let e = same_start in
        let b = behind in
        let w = cut_within in
        start_breaks front (mark_fed front) (omega (arith, l, e)) (ap (λ n. (ahead front false n).token) same_start ∙ mark_here) (omega (arith, b, w)) (ap (λ n. (ahead front false n).token) behind ∙ end)

    longer : (front ++ (13 ∷ [])) ++ (10 ∷ []) ≡ front ++ (13 ∷ 10 ∷ [])
    longer = append_assoc front (13 ∷ []) (10 ∷ [])

    fed : IsFront ((front ++ (13 ∷ [])) ++ (10 ∷ []))
    fed =
        let none = append-nil ((front ++ (13 ∷ [])) ++ (10 ∷ [])) in
        ([], document.0, subst IsUtf8 (sym none) (IsUtf8-append (front ++ (13 ∷ [])) (10 ∷ []) utf8 (IsUtf8-from_ascii (10 ∷ []) (ascii_bytes (10 ∷ []) refl))), subst (λ x. IsYaml x document.0) (sym (none ∙ longer)) document.1)

  -- or none begins with it
  pub bare_dead : ((ahead front false over).token ≡ End → ⊥) → IsSyntax cut (length front)
  bare_dead some = inl (return_dead front none) where
    broken : ahead (front ++ (13 ∷ 10 ∷ [])) false start ≡ ahead front false start
    broken = ahead_broken front [] false start low (subst IsSome (sym mark_here) tt)

    broken_over : ahead (front ++ (13 ∷ 10 ∷ [])) false over ≡ ahead front false over
    broken_over = ahead_broken front [] false over cut_within (some_of (ahead front false over).token some)

    shown : (ahead front false over).fresh ≡ false
    shown = by_stale (cut_stale front over cut_within stale) where
      by_stale : ((ahead front false over).token ≡ End) ⊎ ((ahead front false over).fresh ≡ false) → (ahead front false over).fresh ≡ false
      by_stale (inl e) = absurd (some e)
      by_stale (inr f) = f

    none : IsFront (front ++ (13 ∷ 10 ∷ [])) → ⊥
    none (more, tree, valid, (l, kids, i, j, begins, r, z, h)) = by_start begins where
      x : List ℕ
      x = (front ++ (13 ∷ 10 ∷ [])) ++ more

      longer_start : text_start ((front ++ (13 ∷ 10 ∷ [])) ++ more) ≡ start
      longer_start = ap (λ q. cond q 3 0) (fed_marks front more ∙ mark_fed front ∙ sym (mark_cut front))

      here : ahead ((front ++ (13 ∷ 10 ∷ [])) ++ more) false (text_start ((front ++ (13 ∷ 10 ∷ [])) ++ more)) ≡ ahead cut false start
      here =
          let s = fed_size front in
          let w = low in
          ap (ahead ((front ++ (13 ∷ 10 ∷ [])) ++ more) false) longer_start ∙ fed_same front more false start (omega (arith, s, w)) (λ e. no_dashes End refl (sym e ∙ ap (λ (a : Ahead). a.token) broken ∙ mark_here)) ∙ broken ∙ mark

      further : ahead ((front ++ (13 ∷ 10 ∷ [])) ++ more) false over ≡ ahead front false over
      further =
          let s = fed_size front in
          let w = cut_within in
          fed_same front more false over (omega (arith, s, w)) (λ e. some (sym (ap (λ (a : Ahead). a.token) broken_over) ∙ e)) ∙ broken_over

      by_start : IsStart ((front ++ (13 ∷ 10 ∷ [])) ++ more) i → ⊥
      by_start (inl (t, e, g)) = true≢false (sym g ∙ ap (λ n. (ahead ((front ++ (13 ∷ 10 ∷ [])) ++ more) false n).fresh) (e ∙ ap (λ (a : Ahead). a.behind) here) ∙ ap (λ (a : Ahead). a.fresh) further ∙ shown)
      by_start (inr (n, e)) = n (ap (λ (a : Ahead). a.token) here ∙ dashes)

-- ---- what is answered

take_front : (xs ys : List ℕ) → take (length xs) (xs ++ ys) ≡ xs
take_front [] ys = refl
take_front (x ∷ xs) ys = ap (λ t. x ∷ t) (take_front xs ys)

module _ (text : List ℕ) (utf8 : IsUtf8 text) (at : ℕ) (next : Ahead) (ea : at ≡ text_start text) (there : IsCharBoundary text at) (en : next ≡ ahead text false at) (returned : (front : List ℕ) × (text ≡ front ++ (13 ∷ []))) (nowhere : (i : ℕ) → IsStart text i → ⊥) where
  abbrev front : List ℕ
  front = returned.0

  is : text ≡ front ++ (13 ∷ [])
  is = returned.1

  front_size : length text - 1 ≡ length front
  front_size = let a = ap (λ (t : List ℕ). length t) is in let b = length-append front (13 ∷ []) in omega (arith, a, b)

  taken : take (length text - 1) text ≡ front
  taken = ap (λ k. take k text) front_size ∙ ap (take (length front)) is ∙ take_front front (13 ∷ [])

  utf8_cut : IsUtf8 (front ++ (13 ∷ []))
  utf8_cut = subst IsUtf8 is utf8

  there_cut : IsCharBoundary (front ++ (13 ∷ [])) (text_start (front ++ (13 ∷ [])))
  there_cut = subst (λ t. IsCharBoundary t (text_start t)) is (subst (IsCharBoundary text) ea there)

  nowhere_cut : (i : ℕ) → IsStart (front ++ (13 ∷ [])) i → ⊥
  nowhere_cut i s = nowhere i (subst (λ t. IsStart t i) (sym is) s)

  over_is : next.behind ≡ (ahead (front ++ (13 ∷ [])) false (text_start (front ++ (13 ∷ [])))).behind
  over_is = ap (λ (a : Ahead). a.behind) en ∙ ap (λ k. (ahead text false k).behind) ea ∙ ap (λ t. (ahead t false (text_start t)).behind) is

  pub start_within : next.behind ≤ length (take (length text - 1) text)
  start_within = subst (λ (t : List ℕ). next.behind ≤ length t) (sym taken) (let w = cut_within front utf8_cut there_cut nowhere_cut in let o = over_is in omega (arith, w, o))

  seen_front : ahead (take (length text - 1) text) false next.behind ≡ ahead front false (ahead (front ++ (13 ∷ [])) false (text_start (front ++ (13 ∷ [])))).behind
  seen_front = ap (λ t. ahead t false next.behind) taken ∙ ap (ahead front false) over_is

  pub start_short : (q : ℕ) → q ≡ length text → (ahead (take (length text - 1) text) false next.behind).token ≡ End → IsSyntax text q
  start_short q e end = subst (λ t. IsSyntax t q) (sym is) (subst (IsSyntax (front ++ (13 ∷ []))) (sym (e ∙ ap (λ (t : List ℕ). length t) is)) (bare_short front utf8_cut there_cut nowhere_cut (sym (ap (λ (a : Ahead). a.token) seen_front) ∙ end)))

  pub start_dead : (q : ℕ) → q ≡ length text - 1 → ((ahead (take (length text - 1) text) false next.behind).token ≡ End → ⊥) → IsSyntax text q
  start_dead q e some = subst (λ t. IsSyntax t q) (sym is) (subst (IsSyntax (front ++ (13 ∷ []))) (sym (e ∙ front_size)) (bare_dead front utf8_cut there_cut nowhere_cut (λ h. some (ap (λ (a : Ahead). a.token) seen_front ∙ h))))
