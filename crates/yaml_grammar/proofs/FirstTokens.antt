-- What is ahead of a place, but for the text's end, a line `---` or `...`, a tab and a stray carriage return, is told by the byte there, which is no white space; and where those lines begin. By induction over lines.
use Rattle.std.proofs.Common.{◌≡◌, ℕ, suc, ◌+◌, ◌⊎◌, inl, inr, Bool, true, false, ◌||◌, ◌&&◌, not, cond, nat_eq, nat_lt, arith, List, [], ◌∷◌, drop, length, refl, sym, ap, ◌∙◌, subst, true≢false}
use Rattle.std.proofs.lemmas.Bool.Decides.{nat_tests}
use Rattle.std.proofs.lemmas.List.{drop-drop}
use Rattle.yaml_scalars.specs.Lines.{lines, begins_with, begins_break, is_white, is_blank, lead, indent, past_white, is_mark, is_end}
use Rattle.yaml_scalars.specs.Plain.{is_unsafe}
use Rattle.yaml_scalars.specs.Scalar.{is_first_column}
use Rattle.yaml_scalars.specs.code.Walk.{line_at, behind}
use Rattle.yaml_grammar.specs.declared.ahead.Ahead.{Ahead}
use Rattle.yaml_grammar.specs.declared.ahead.Token.{Token}
use Rattle.yaml_grammar.specs.declared.ahead.Token.TheVariants.{End, Dashes, Dots, Dash, Tag, NoTag, Opens, Closes, Comma, Point, Anchor, Percent, Tabbed, Stray, Other}
use Rattle.yaml_grammar.specs.Ahead.{is_name, begins_letter, ends_tag, tag_token, tab_token, other_token, block_token, token_of, token_at, mark_of, has_return, is_passed, is_tabbed, content_ahead, line_ahead, rest_ahead, ahead}
use Rattle.yaml_grammar.specs.Nodes.{is_marked, starts_scalar}
use Rattle.yaml_grammar.specs.code.AheadSeen.{is_told}
use Rattle.yaml_grammar.proofs.Looks.{white_rest, first_line, first_rest}

-- a byte stands at the place, and the token is told by it and what stands behind it
abbrev pub Begun : List ℕ → Bool → Ahead → Type 0
Begun text flow a = (b : ℕ) × (rest : List ℕ) × (drop a.at text ≡ b ∷ rest) × (is_white b ≡ false) × (a.token ≡ token_of flow (b ∷ line_at rest))

abbrev IsBegun : List ℕ → Bool → Ahead → Type 0
IsBegun text flow a = Begun text flow a ⊎ (is_told a.token ≡ false)

pub mark_told : (bytes : List ℕ) → is_told (mark_of bytes) ≡ false
mark_told bytes = by_first (begins_with 45 bytes) where
  by_first : (q : Bool) → is_told (cond q Dashes Dots) ≡ false
  by_first true = refl
  by_first false = refl

pub tab_told : (bytes : List ℕ) → is_told (tab_token bytes) ≡ false
tab_told bytes = by_first (begins_with 35 bytes || begins_with 13 bytes) where
  by_first : (q : Bool) → is_told (cond q Stray Tabbed) ≡ false
  by_first true = refl
  by_first false = refl

-- behind the white space of a line that is not blank
pub past_first : (xs : List ℕ) → is_blank xs ≡ false → (b : ℕ) × (ys : List ℕ) × (past_white xs ≡ b ∷ ys) × (is_white b ≡ false)
past_first [] h = absurd (true≢false h)
past_first (x ∷ xs) h = by_byte (is_white x) refl h (past_first xs) where
  by_byte : (q : Bool) → is_white x ≡ q → cond q (is_blank xs) false ≡ false → (is_blank xs ≡ false → (b : ℕ) × (ys : List ℕ) × (past_white xs ≡ b ∷ ys) × (is_white b ≡ false))
      → (b : ℕ) × (ys : List ℕ) × (drop (cond q (suc (lead is_white xs)) 0) (x ∷ xs) ≡ b ∷ ys) × (is_white b ≡ false)
  by_byte true e k r = r k
  by_byte false e k r = (x, xs, refl, e)

-- the first byte of a line is that of the text there
pub line_first : (xs : List ℕ) (b : ℕ) (ys : List ℕ) → line_at xs ≡ b ∷ ys → (rest : List ℕ) × (xs ≡ b ∷ rest) × (ys ≡ line_at rest)
line_first [] b ys h = absurd (cc)
line_first (x ∷ xs) b ys h = by_break (begins_break x xs) h where
  head_same : (c d : ℕ) (us vs : List ℕ) → c ∷ us ≡ d ∷ vs → c ≡ d
  head_same c d us vs e = cc

  tail_same : (c d : ℕ) (us vs : List ℕ) → c ∷ us ≡ d ∷ vs → us ≡ vs
  tail_same c d us vs e = cc

  by_break : (q : Bool) → cond q [] (x ∷ line_at xs) ≡ b ∷ ys → (rest : List ℕ) × (x ∷ xs ≡ b ∷ rest) × (ys ≡ line_at rest)
  by_break true k = absurd (cc)
  by_break false k = (xs, ap (λ c. c ∷ xs) (head_same x b (line_at xs) ys k), sym (tail_same x b (line_at xs) ys k))

pub not_blank : (fresh : Bool) (xs : List ℕ) → is_passed fresh xs ≡ false → is_blank xs ≡ false
not_blank fresh xs h = by_or (is_blank xs) h where
  by_or : (p : Bool) → (p || ((fresh || nat_lt 0 (lead is_white xs)) && (begins_with 35 (past_white xs) && not (has_return xs)))) ≡ false → p ≡ false
  by_or true k = absurd (true≢false k)
  by_or false k = refl

white_begun : (text : List ℕ) (flow fresh : Bool) (start : ℕ) → is_blank (line_at (drop start text)) ≡ false
    → IsBegun text flow (token_at (token_of flow (past_white (line_at (drop start text)))) fresh (lead is_white (line_at (drop start text))) (start + lead is_white (line_at (drop start text))))
white_begun text flow fresh start h =
    let (b, ys, past, black) = past_first (line_at (drop start text)) h in
    let here = sym (white_rest text start (lead is_white (line_at (drop start text))) refl) ∙ past in
    let (rest, e, tail) = line_first (drop (start + lead is_white (line_at (drop start text))) text) b ys here in
    inl (b, rest, e, black, ap (token_of flow) (past ∙ ap (λ t. b ∷ t) tail))

content_begun : (text : List ℕ) (flow : Bool) (start : ℕ) → is_blank (line_at (drop start text)) ≡ false → IsBegun text flow (content_ahead flow start (line_at (drop start text)))
content_begun text flow start h = by_tab (is_tabbed flow (line_at (drop start text))) where
  by_tab : (q : Bool) → IsBegun text flow (cond q (token_at (tab_token (past_white (line_at (drop start text)))) true (indent (line_at (drop start text))) (start + indent (line_at (drop start text))))
      (token_at (token_of flow (past_white (line_at (drop start text)))) true (lead is_white (line_at (drop start text))) (start + lead is_white (line_at (drop start text)))))
  by_tab true = inr (tab_told (past_white (line_at (drop start text))))
  by_tab false = white_begun text flow true start h

lines_begun : (text : List ℕ) (flow : Bool) (start : ℕ) → IsBegun text flow (line_ahead flow (length text) (behind start (drop start text))) → IsBegun text flow (line_ahead flow (length text) (lines start (drop start text)))
lines_begun text flow start h = subst (IsBegun text flow) (sym (first_line text flow start)) (by_mark (is_mark (line_at (drop start text))) (is_passed true (line_at (drop start text))) refl) where
  by_mark : (q r : Bool) → is_passed true (line_at (drop start text)) ≡ r → IsBegun text flow (cond q (token_at (mark_of (line_at (drop start text))) true 0 start) (cond r (line_ahead flow (length text) (behind start (drop start text))) (content_ahead flow start (line_at (drop start text)))))
  by_mark true r e = inr (mark_told (line_at (drop start text)))
  by_mark false true e = h
  by_mark false false e = content_begun text flow start (not_blank true (line_at (drop start text)) e)

behind_begun : (text : List ℕ) (flow : Bool) (rest : List ℕ) (start : ℕ) → rest ≡ drop start text → IsBegun text flow (line_ahead flow (length text) (behind start rest))
behind_begun text flow [] start e = inr refl
behind_begun text flow (x ∷ xs) start e = by_feed (nat_eq x 10) (behind_begun text flow xs (suc start) rest) where
  rest : xs ≡ drop (suc start) text
  rest = ap (drop 1) e ∙ drop-drop 1 start text ∙ (let h : start + 1 ≡ suc start = omega arith in ap (λ k. drop k text) h)

  by_feed : (q : Bool) → IsBegun text flow (line_ahead flow (length text) (behind (suc start) xs)) → IsBegun text flow (line_ahead flow (length text) (cond q (lines (suc start) xs) (behind (suc start) xs)))
  by_feed false h = h
  by_feed true h =
      subst (λ t. IsBegun text flow (line_ahead flow (length text) (lines (suc start) t))) (sym rest)
      (lines_begun text flow (suc start) (subst (λ t. IsBegun text flow (line_ahead flow (length text) (behind (suc start) t))) rest h))

begun : (text : List ℕ) (flow : Bool) (i : ℕ) → IsBegun text flow (ahead text flow i)
begun text flow i = by_column (is_first_column text i) where
  below : IsBegun text flow (line_ahead flow (length text) (behind i (drop i text)))
  below = behind_begun text flow (drop i text) i refl

  by_passed : (q : Bool) → is_passed false (line_at (drop i text)) ≡ q
      → IsBegun text flow (cond q (line_ahead flow (length text) (behind i (drop i text))) (token_at (token_of flow (past_white (line_at (drop i text)))) false (lead is_white (line_at (drop i text))) (i + lead is_white (line_at (drop i text)))))
  by_passed true e = below
  by_passed false e = white_begun text flow false i (not_blank false (line_at (drop i text)) e)

  by_column : (q : Bool) → IsBegun text flow (cond q (line_ahead flow (length text) (lines i (drop i text))) (rest_ahead flow (length text) (lines i (drop i text))))
  by_column true = lines_begun text flow i below
  by_column false = subst (IsBegun text flow) (sym (first_rest text flow i)) (by_passed (is_passed false (line_at (drop i text))) refl)

pub first_byte : (text : List ℕ) (flow : Bool) (i : ℕ) → is_told (ahead text flow i).token ≡ true → Begun text flow (ahead text flow i)
first_byte text flow i h = by_begun (begun text flow i) where
  by_begun : IsBegun text flow (ahead text flow i) → Begun text flow (ahead text flow i)
  by_begun (inl g) = g
  by_begun (inr n) = absurd (true≢false (sym h ∙ n))

-- a carriage return or a `#` would be a stray
pub first_plain : (flow : Bool) (b : ℕ) (xs : List ℕ) → is_told (token_of flow (b ∷ xs)) ≡ true → (b ≡ 13 → ⊥) × (b ≡ 35 → ⊥)
first_plain flow b xs h = ((λ e. true≢false (sym h ∙ ap (λ c. is_told (token_of flow (c ∷ xs))) e ∙ stray13 flow)), (λ e. true≢false (sym h ∙ ap (λ c. is_told (token_of flow (c ∷ xs))) e ∙ stray35 flow))) where
  stray13 : (flow : Bool) → is_told (token_of flow (13 ∷ xs)) ≡ false
  stray13 true = refl
  stray13 false = refl

  stray35 : (flow : Bool) → is_told (token_of flow (35 ∷ xs)) ≡ false
  stray35 true = refl
  stray35 false = refl

-- and any other byte tells it
pub first_told : (flow : Bool) (b : ℕ) (xs : List ℕ) → (b ≡ 13 → ⊥) → (b ≡ 35 → ⊥) → is_told (token_of flow (b ∷ xs)) ≡ true
first_told flow b xs feed hash =
    pick (nat_eq b 91) (Opens false) (cond (nat_eq b 123) (Opens true) (cond (not flow) (block_token b xs) inner)) refl
    (pick (nat_eq b 123) (Opens true) (cond (not flow) (block_token b xs) inner) refl (pick (not flow) (block_token b xs) inner block in_flow)) where
      pick : (q : Bool) (s t : Token) → is_told s ≡ true → is_told t ≡ true → is_told (cond q s t) ≡ true
      pick true s t h k = h
      pick false s t h k = k

      neither : (nat_eq b 35 || nat_eq b 13) ≡ false
      neither = by_tests (nat_eq b 35) (nat_eq b 13) refl refl where
        by_tests : (p q : Bool) → nat_eq b 35 ≡ p → nat_eq b 13 ≡ q → (p || q) ≡ false
        by_tests true q h k = absurd (hash (grind (arith, nat_tests, h)))
        by_tests false true h k = absurd (feed (grind (arith, nat_tests, k)))
        by_tests false false h k = refl

      other : is_told (other_token b) ≡ true
      other =
          pick (nat_eq b 38 || nat_eq b 42) Anchor (cond (nat_eq b 37) Percent (cond (nat_eq b 35 || nat_eq b 13) Stray Other)) refl
          (pick (nat_eq b 37) Percent (cond (nat_eq b 35 || nat_eq b 13) Stray Other) refl (ap (λ q. is_told (cond q Stray Other)) neither))

      tag : (fl : Bool) → is_told (tag_token fl xs) ≡ true
      tag fl = pick (begins_letter xs && ends_tag fl (drop (lead is_name xs) xs)) (Tag (lead is_name xs)) NoTag refl refl

      inner : Token
      inner = cond (nat_eq b 93) (Closes false) (cond (nat_eq b 125) (Closes true) (cond (nat_eq b 44) Comma (cond (nat_eq b 58) (Point (is_unsafe true xs)) (cond (nat_eq b 33) (tag_token true xs) (other_token b)))))

      block : is_told (block_token b xs) ≡ true
      block =
          let last = cond (nat_eq b 33) (tag_token false xs) (other_token b) in
          pick (nat_eq b 45 && is_end xs) Dash (cond (nat_eq b 58 && is_end xs) (Point true) last) refl (pick (nat_eq b 58 && is_end xs) (Point true) last refl (pick (nat_eq b 33) (tag_token false xs) (other_token b) (tag false) other))

      in_flow : is_told inner ≡ true
      in_flow =
          let last = cond (nat_eq b 33) (tag_token true xs) (other_token b) in
          let colon = cond (nat_eq b 58) (Point (is_unsafe true xs)) last in
          pick (nat_eq b 93) (Closes false) (cond (nat_eq b 125) (Closes true) (cond (nat_eq b 44) Comma colon)) refl
          (pick (nat_eq b 125) (Closes true) (cond (nat_eq b 44) Comma colon) refl (pick (nat_eq b 44) Comma colon refl (pick (nat_eq b 58) (Point (is_unsafe true xs)) last refl (pick (nat_eq b 33) (tag_token true xs) (other_token b) (tag true) other))))

-- ---- marks

-- a line `---` or `...` begins at a line's first column, the latter with a dot
abbrev MarkedAt : List ℕ → Ahead → Type 0
MarkedAt text a = is_marked a.token ≡ true → (a.fresh ≡ true) × (a.column ≡ 0) × (a.token ≡ Dots → begins_with 46 (drop a.at text) ≡ true)

unmarked : (flow : Bool) (b : ℕ) (xs : List ℕ) → is_marked (token_of flow (b ∷ xs)) ≡ false
unmarked flow b xs =
    pick (nat_eq b 91) (Opens false) (cond (nat_eq b 123) (Opens true) (cond (not flow) (block_token b xs) inner)) refl
    (pick (nat_eq b 123) (Opens true) (cond (not flow) (block_token b xs) inner) refl (pick (not flow) (block_token b xs) inner block in_flow)) where
      pick : (q : Bool) (s t : Token) → is_marked s ≡ false → is_marked t ≡ false → is_marked (cond q s t) ≡ false
      pick true s t h k = h
      pick false s t h k = k

      other : is_marked (other_token b) ≡ false
      other =
          pick (nat_eq b 38 || nat_eq b 42) Anchor (cond (nat_eq b 37) Percent (cond (nat_eq b 35 || nat_eq b 13) Stray Other)) refl
          (pick (nat_eq b 37) Percent (cond (nat_eq b 35 || nat_eq b 13) Stray Other) refl (pick (nat_eq b 35 || nat_eq b 13) Stray Other refl refl))

      tag : (fl : Bool) → is_marked (tag_token fl xs) ≡ false
      tag fl = pick (begins_letter xs && ends_tag fl (drop (lead is_name xs) xs)) (Tag (lead is_name xs)) NoTag refl refl

      inner : Token
      inner = cond (nat_eq b 93) (Closes false) (cond (nat_eq b 125) (Closes true) (cond (nat_eq b 44) Comma (cond (nat_eq b 58) (Point (is_unsafe true xs)) (cond (nat_eq b 33) (tag_token true xs) (other_token b)))))

      block : is_marked (block_token b xs) ≡ false
      block =
          let last = cond (nat_eq b 33) (tag_token false xs) (other_token b) in
          pick (nat_eq b 45 && is_end xs) Dash (cond (nat_eq b 58 && is_end xs) (Point true) last) refl (pick (nat_eq b 58 && is_end xs) (Point true) last refl (pick (nat_eq b 33) (tag_token false xs) (other_token b) (tag false) other))

      in_flow : is_marked inner ≡ false
      in_flow =
          let last = cond (nat_eq b 33) (tag_token true xs) (other_token b) in
          let colon = cond (nat_eq b 58) (Point (is_unsafe true xs)) last in
          pick (nat_eq b 93) (Closes false) (cond (nat_eq b 125) (Closes true) (cond (nat_eq b 44) Comma colon)) refl
          (pick (nat_eq b 125) (Closes true) (cond (nat_eq b 44) Comma colon) refl (pick (nat_eq b 44) Comma colon refl (pick (nat_eq b 58) (Point (is_unsafe true xs)) last refl (pick (nat_eq b 33) (tag_token true xs) (other_token b) (tag true) other))))

unmarked_at : (text : List ℕ) (flow fresh : Bool) (xs : List ℕ) (column at : ℕ) → MarkedAt text (token_at (token_of flow xs) fresh column at)
unmarked_at text flow fresh [] column at = λ h. absurd (true≢false (sym h))
unmarked_at text flow fresh (b ∷ xs) column at = λ h. absurd (true≢false (sym h ∙ unmarked flow b xs))

mark_line : (text : List ℕ) (start : ℕ) → is_mark (line_at (drop start text)) ≡ true → MarkedAt text (token_at (mark_of (line_at (drop start text))) true 0 start)
mark_line text start h = λ m. (refl, refl, (λ d. by_line (line_at (drop start text)) refl h d)) where
  by_line : (xs : List ℕ) → line_at (drop start text) ≡ xs → is_mark xs ≡ true → mark_of xs ≡ Dots → begins_with 46 (drop start text) ≡ true
  by_line [] e k d = absurd (true≢false (sym k))
  by_line (x ∷ []) e k d = absurd (true≢false (sym k))
  by_line (x ∷ y ∷ []) e k d = absurd (true≢false (sym k))
  by_line (x ∷ y ∷ z ∷ xs) e k d = let r = line_first (drop start text) x (y ∷ z ∷ xs) e in ap (begins_with 46) r.1 ∙ by_tests (nat_eq x 45) (nat_eq x 46) k d where
    by_tests : (p q : Bool) → ((p || q) && (nat_eq x y && (nat_eq x z && is_end xs))) ≡ true → cond p Dashes Dots ≡ Dots → q ≡ true
    by_tests true q k d = absurd (cc)
    by_tests false true k d = refl
    by_tests false false k d = absurd (true≢false (sym k))

content_marked : (text : List ℕ) (flow : Bool) (at : ℕ) (xs : List ℕ) → MarkedAt text (content_ahead flow at xs)
content_marked text flow at xs = by_tab (is_tabbed flow xs) where
  by_tab : (q : Bool) → MarkedAt text (cond q (token_at (tab_token (past_white xs)) true (indent xs) (at + indent xs)) (token_at (token_of flow (past_white xs)) true (lead is_white xs) (at + lead is_white xs)))
  by_tab false = unmarked_at text flow true (past_white xs) (lead is_white xs) (at + lead is_white xs)
  by_tab true = by_byte (begins_with 35 (past_white xs) || begins_with 13 (past_white xs)) where
    by_byte : (q : Bool) → MarkedAt text (token_at (cond q Stray Tabbed) true (indent xs) (at + indent xs))
    by_byte true = λ h. absurd (true≢false (sym h))
    by_byte false = λ h. absurd (true≢false (sym h))

lines_marked : (text : List ℕ) (flow : Bool) (start : ℕ) → MarkedAt text (line_ahead flow (length text) (behind start (drop start text))) → MarkedAt text (line_ahead flow (length text) (lines start (drop start text)))
lines_marked text flow start h = subst (MarkedAt text) (sym (first_line text flow start)) (by_mark (is_mark (line_at (drop start text))) refl (is_passed true (line_at (drop start text)))) where
  by_mark : (q : Bool) → is_mark (line_at (drop start text)) ≡ q → (r : Bool)
      → MarkedAt text (cond q (token_at (mark_of (line_at (drop start text))) true 0 start) (cond r (line_ahead flow (length text) (behind start (drop start text))) (content_ahead flow start (line_at (drop start text)))))
  by_mark true e r = mark_line text start e
  by_mark false e true = h
  by_mark false e false = content_marked text flow start (line_at (drop start text))

behind_marked : (text : List ℕ) (flow : Bool) (rest : List ℕ) (start : ℕ) → rest ≡ drop start text → MarkedAt text (line_ahead flow (length text) (behind start rest))
behind_marked text flow [] start e = λ h. absurd (true≢false (sym h))
behind_marked text flow (x ∷ xs) start e = by_feed (nat_eq x 10) (behind_marked text flow xs (suc start) rest) where
  rest : xs ≡ drop (suc start) text
  rest = ap (drop 1) e ∙ drop-drop 1 start text ∙ (let h : start + 1 ≡ suc start = omega arith in ap (λ k. drop k text) h)

  by_feed : (q : Bool) → MarkedAt text (line_ahead flow (length text) (behind (suc start) xs)) → MarkedAt text (line_ahead flow (length text) (cond q (lines (suc start) xs) (behind (suc start) xs)))
  by_feed false h = h
  by_feed true h =
      subst (λ t. MarkedAt text (line_ahead flow (length text) (lines (suc start) t))) (sym rest)
      (lines_marked text flow (suc start) (subst (λ t. MarkedAt text (line_ahead flow (length text) (behind (suc start) t))) rest h))

pub first_mark : (text : List ℕ) (flow : Bool) (i : ℕ) → is_marked (ahead text flow i).token ≡ true → ((ahead text flow i).fresh ≡ true) × ((ahead text flow i).column ≡ 0) × ((ahead text flow i).token ≡ Dots → begins_with 46 (drop (ahead text flow i).at text) ≡ true)
first_mark text flow i = by_column (is_first_column text i) where
  below : MarkedAt text (line_ahead flow (length text) (behind i (drop i text)))
  below = behind_marked text flow (drop i text) i refl

  by_passed : (q : Bool) → MarkedAt text (cond q (line_ahead flow (length text) (behind i (drop i text))) (token_at (token_of flow (past_white (line_at (drop i text)))) false (lead is_white (line_at (drop i text))) (i + lead is_white (line_at (drop i text)))))
  by_passed true = below
  by_passed false = unmarked_at text flow false (past_white (line_at (drop i text))) (lead is_white (line_at (drop i text))) (i + lead is_white (line_at (drop i text)))

  by_column : (q : Bool) → MarkedAt text (cond q (line_ahead flow (length text) (lines i (drop i text))) (rest_ahead flow (length text) (lines i (drop i text))))
  by_column true = lines_marked text flow i below
  by_column false = subst (MarkedAt text) (sym (first_rest text flow i)) (by_passed (is_passed false (line_at (drop i text))))

-- ---- tokens that their first byte tells, whatever stands behind it

-- no scalar begins with the first byte of such a token
abbrev pub is_shut : Token → Bool
is_shut (Tag len) = true
is_shut NoTag = true
is_shut (Opens map) = true
is_shut (Closes map) = true
is_shut Comma = true
is_shut Anchor = true
is_shut Percent = true
is_shut _ = false

pub shut_scalar : (flow : Bool) (b : ℕ) (xs ys : List ℕ) → is_shut (token_of flow (b ∷ xs)) ≡ true → starts_scalar (token_of flow (b ∷ ys)) ≡ false
shut_scalar flow b xs ys h = by_tests (nat_eq b 45) refl (nat_eq b 58) refl where
  dash : (flow : Bool) → is_shut (token_of flow (45 ∷ xs)) ≡ false
  dash true = refl
  dash false = by_end (is_end xs) where
    by_end : (q : Bool) → is_shut (cond q Dash Other) ≡ false
    by_end true = refl
    by_end false = refl

  colon : (flow : Bool) → is_shut (token_of flow (58 ∷ xs)) ≡ false
  colon true = refl
  colon false = by_end (is_end xs) where
    by_end : (q : Bool) → is_shut (cond q (Point true) Other) ≡ false
    by_end true = refl
    by_end false = refl

  -- where one token is shut, the other is
  Both : Token → Token → Type 0
  Both s t = is_shut s ≡ true → starts_scalar t ≡ false

  pick : (q : Bool) (s t u v : Token) → Both s u → Both t v → Both (cond q s t) (cond q u v)
  pick true s t u v h k = h
  pick false s t u v h k = k

  tag : (fl : Bool) → Both (tag_token fl xs) (tag_token fl ys)
  tag fl = λ k. by_test (begins_letter ys && ends_tag fl (drop (lead is_name ys) ys)) where
    by_test : (q : Bool) → starts_scalar (cond q (Tag (lead is_name ys)) NoTag) ≡ false
    by_test true = refl
    by_test false = refl

  other : Both (other_token b) (other_token b)
  other =
      pick (nat_eq b 38 || nat_eq b 42) Anchor (cond (nat_eq b 37) Percent (cond (nat_eq b 35 || nat_eq b 13) Stray Other)) Anchor (cond (nat_eq b 37) Percent (cond (nat_eq b 35 || nat_eq b 13) Stray Other)) (λ k. refl)
      (pick (nat_eq b 37) Percent (cond (nat_eq b 35 || nat_eq b 13) Stray Other) Percent (cond (nat_eq b 35 || nat_eq b 13) Stray Other) (λ k. refl)
      (pick (nat_eq b 35 || nat_eq b 13) Stray Other Stray Other (λ k. refl) (λ k. absurd (true≢false (sym k)))))

  last : (fl : Bool) → Both (cond (nat_eq b 33) (tag_token fl xs) (other_token b)) (cond (nat_eq b 33) (tag_token fl ys) (other_token b))
  last fl = pick (nat_eq b 33) (tag_token fl xs) (other_token b) (tag_token fl ys) (other_token b) (tag fl) other

  in_flow : Bool → List ℕ → Token
  in_flow q zs = cond (nat_eq b 93) (Closes false) (cond (nat_eq b 125) (Closes true) (cond (nat_eq b 44) Comma (cond q (Point (is_unsafe true zs)) (cond (nat_eq b 33) (tag_token true zs) (other_token b)))))

  in_block : Bool → Bool → List ℕ → Token
  in_block q r zs = cond (q && is_end zs) Dash (cond (r && is_end zs) (Point true) (cond (nat_eq b 33) (tag_token false zs) (other_token b)))

  flow_both : Both (in_flow false xs) (in_flow false ys)
  flow_both =
      pick (nat_eq b 93) (Closes false) (cond (nat_eq b 125) (Closes true) (cond (nat_eq b 44) Comma (cond (nat_eq b 33) (tag_token true xs) (other_token b))))
      (Closes false) (cond (nat_eq b 125) (Closes true) (cond (nat_eq b 44) Comma (cond (nat_eq b 33) (tag_token true ys) (other_token b)))) (λ k. refl)
      (pick (nat_eq b 125) (Closes true) (cond (nat_eq b 44) Comma (cond (nat_eq b 33) (tag_token true xs) (other_token b))) (Closes true) (cond (nat_eq b 44) Comma (cond (nat_eq b 33) (tag_token true ys) (other_token b))) (λ k. refl)
      (pick (nat_eq b 44) Comma (cond (nat_eq b 33) (tag_token true xs) (other_token b)) Comma (cond (nat_eq b 33) (tag_token true ys) (other_token b)) (λ k. refl) (last true)))

  whole : (q r : Bool) → List ℕ → Token
  whole q r zs = cond (nat_eq b 91) (Opens false) (cond (nat_eq b 123) (Opens true) (cond (not flow) (in_block q r zs) (in_flow r zs)))

  both : Both (whole false false xs) (whole false false ys)
  both =
      pick (nat_eq b 91) (Opens false) (cond (nat_eq b 123) (Opens true) (cond (not flow) (in_block false false xs) (in_flow false xs))) (Opens false) (cond (nat_eq b 123) (Opens true) (cond (not flow) (in_block false false ys) (in_flow false ys))) (λ k. refl)
      (pick (nat_eq b 123) (Opens true) (cond (not flow) (in_block false false xs) (in_flow false xs)) (Opens true) (cond (not flow) (in_block false false ys) (in_flow false ys)) (λ k. refl)
      (pick (not flow) (in_block false false xs) (in_flow false xs) (in_block false false ys) (in_flow false ys) (last false) flow_both))

  by_tests : (q : Bool) → nat_eq b 45 ≡ q → (r : Bool) → nat_eq b 58 ≡ r → starts_scalar (token_of flow (b ∷ ys)) ≡ false
  by_tests true i r j = let m : b ≡ 45 = grind (arith, nat_tests, i) in absurd (true≢false (sym h ∙ ap (λ c. is_shut (token_of flow (c ∷ xs))) m ∙ dash flow))
  by_tests false i true j = let m : b ≡ 58 = grind (arith, nat_tests, j) in absurd (true≢false (sym h ∙ ap (λ c. is_shut (token_of flow (c ∷ xs))) m ∙ colon flow))
  by_tests false i false j =
      let in_ys : token_of flow (b ∷ ys) ≡ whole false false ys = ap (λ q. whole q (nat_eq b 58) ys) i ∙ ap (λ r. whole false r ys) j in
      let in_xs : token_of flow (b ∷ xs) ≡ whole false false xs = ap (λ q. whole q (nat_eq b 58) xs) i ∙ ap (λ r. whole false r xs) j in
      ap starts_scalar in_ys ∙ both (sym (ap is_shut in_xs) ∙ h)

-- commas and closing brackets, and outside of flow a `-`
abbrev pub ends_word : Token → ℕ
ends_word Comma = 1
ends_word (Closes false) = 2
ends_word (Closes true) = 3
ends_word _ = 0

pub flow_word : (b : ℕ) (xs ys : List ℕ) → ends_word (token_of true (b ∷ ys)) ≡ ends_word (token_of true (b ∷ xs))
flow_word b xs ys =
    pick (nat_eq b 91) (Opens false) (cond (nat_eq b 123) (Opens true) (inner ys)) (Opens false) (cond (nat_eq b 123) (Opens true) (inner xs)) refl
    (pick (nat_eq b 123) (Opens true) (inner ys) (Opens true) (inner xs) refl
    (pick (nat_eq b 93) (Closes false) (second ys) (Closes false) (second xs) refl
    (pick (nat_eq b 125) (Closes true) (third ys) (Closes true) (third xs) refl
    (pick (nat_eq b 44) Comma (fourth ys) Comma (fourth xs) refl
    (pick (nat_eq b 58) (Point (is_unsafe true ys)) (fifth ys) (Point (is_unsafe true xs)) (fifth xs) refl (pick (nat_eq b 33) (tag_token true ys) (other_token b) (tag_token true xs) (other_token b) (tag ys ∙ sym (tag xs)) refl)))))) where
      pick : (q : Bool) (s t u v : Token) → ends_word s ≡ ends_word u → ends_word t ≡ ends_word v → ends_word (cond q s t) ≡ ends_word (cond q u v)
      pick true s t u v h k = h
      pick false s t u v h k = k

      fifth : List ℕ → Token
      fifth zs = cond (nat_eq b 33) (tag_token true zs) (other_token b)

      fourth : List ℕ → Token
      fourth zs = cond (nat_eq b 58) (Point (is_unsafe true zs)) (fifth zs)

      third : List ℕ → Token
      third zs = cond (nat_eq b 44) Comma (fourth zs)

      second : List ℕ → Token
      second zs = cond (nat_eq b 125) (Closes true) (third zs)

      inner : List ℕ → Token
      inner zs = cond (nat_eq b 93) (Closes false) (second zs)

      tag : (zs : List ℕ) → ends_word (tag_token true zs) ≡ 0
      tag zs = by_test (begins_letter zs && ends_tag true (drop (lead is_name zs) zs)) where
        by_test : (q : Bool) → ends_word (cond q (Tag (lead is_name zs)) NoTag) ≡ 0
        by_test true = refl
        by_test false = refl

pub word_comma : (t : Token) → ends_word t ≡ 1 → t ≡ Comma
word_comma Comma e = refl
word_comma End e = absurd (omega (arith, e))
word_comma Dashes e = absurd (omega (arith, e))
word_comma Dots e = absurd (omega (arith, e))
word_comma Dash e = absurd (omega (arith, e))
word_comma (Tag l) e = absurd (omega (arith, e))
word_comma NoTag e = absurd (omega (arith, e))
word_comma (Opens m) e = absurd (omega (arith, e))
word_comma (Closes true) e = absurd (omega (arith, e))
word_comma (Closes false) e = absurd (omega (arith, e))
word_comma (Point l) e = absurd (omega (arith, e))
word_comma Anchor e = absurd (omega (arith, e))
word_comma Percent e = absurd (omega (arith, e))
word_comma Tabbed e = absurd (omega (arith, e))
word_comma Stray e = absurd (omega (arith, e))
word_comma Other e = absurd (omega (arith, e))

pub word_closes : (map : Bool) (t : Token) → ends_word t ≡ ends_word (Closes map) → t ≡ Closes map
word_closes true (Closes true) e = refl
word_closes false (Closes false) e = refl
word_closes true (Closes false) e = absurd (omega (arith, e))
word_closes false (Closes true) e = absurd (omega (arith, e))
word_closes true Comma e = absurd (omega (arith, e))
word_closes false Comma e = absurd (omega (arith, e))
word_closes true End e = absurd (omega (arith, e))
word_closes false End e = absurd (omega (arith, e))
word_closes true Dashes e = absurd (omega (arith, e))
word_closes false Dashes e = absurd (omega (arith, e))
word_closes true Dots e = absurd (omega (arith, e))
word_closes false Dots e = absurd (omega (arith, e))
word_closes true Dash e = absurd (omega (arith, e))
word_closes false Dash e = absurd (omega (arith, e))
word_closes true (Tag l) e = absurd (omega (arith, e))
word_closes false (Tag l) e = absurd (omega (arith, e))
word_closes true NoTag e = absurd (omega (arith, e))
word_closes false NoTag e = absurd (omega (arith, e))
word_closes true (Opens m) e = absurd (omega (arith, e))
word_closes false (Opens m) e = absurd (omega (arith, e))
word_closes true (Point l) e = absurd (omega (arith, e))
word_closes false (Point l) e = absurd (omega (arith, e))
word_closes true Anchor e = absurd (omega (arith, e))
word_closes false Anchor e = absurd (omega (arith, e))
word_closes true Percent e = absurd (omega (arith, e))
word_closes false Percent e = absurd (omega (arith, e))
word_closes true Tabbed e = absurd (omega (arith, e))
word_closes false Tabbed e = absurd (omega (arith, e))
word_closes true Stray e = absurd (omega (arith, e))
word_closes false Stray e = absurd (omega (arith, e))
word_closes true Other e = absurd (omega (arith, e))
word_closes false Other e = absurd (omega (arith, e))

-- outside of flow only a `-` is one
pub dash_byte : (b : ℕ) (xs : List ℕ) → token_of false (b ∷ xs) ≡ Dash → b ≡ 45
dash_byte b xs h = by_byte (nat_eq b 45) refl where
  is_dash : Token → Bool
  is_dash Dash = true
  is_dash _ = false

  pick : (q : Bool) (s t : Token) → is_dash s ≡ false → is_dash t ≡ false → is_dash (cond q s t) ≡ false
  pick true s t h k = h
  pick false s t h k = k

  last : is_dash (cond (nat_eq b 33) (tag_token false xs) (other_token b)) ≡ false
  last =
      pick (nat_eq b 33) (tag_token false xs) (other_token b) (pick (begins_letter xs && ends_tag false (drop (lead is_name xs) xs)) (Tag (lead is_name xs)) NoTag refl refl)
      (pick (nat_eq b 38 || nat_eq b 42) Anchor (cond (nat_eq b 37) Percent (cond (nat_eq b 35 || nat_eq b 13) Stray Other)) refl
      (pick (nat_eq b 37) Percent (cond (nat_eq b 35 || nat_eq b 13) Stray Other) refl (pick (nat_eq b 35 || nat_eq b 13) Stray Other refl refl)))

  none : (q : Bool) → nat_eq b 45 ≡ q → q ≡ false → is_dash (token_of false (b ∷ xs)) ≡ false
  none q e f =
      pick (nat_eq b 91) (Opens false) (cond (nat_eq b 123) (Opens true) (block_token b xs)) refl
      (pick (nat_eq b 123) (Opens true) (block_token b xs) refl
      (ap (λ r. is_dash (cond (r && is_end xs) Dash (cond (nat_eq b 58 && is_end xs) (Point true) (cond (nat_eq b 33) (tag_token false xs) (other_token b))))) (e ∙ f)
      ∙ pick (nat_eq b 58 && is_end xs) (Point true) (cond (nat_eq b 33) (tag_token false xs) (other_token b)) refl last))

  by_byte : (q : Bool) → nat_eq b 45 ≡ q → b ≡ 45
  by_byte true e = grind (arith, nat_tests, e)
  by_byte false e = absurd (true≢false (sym (ap is_dash h) ∙ none false e refl))
