-- What stands in front of the place behind a token: a name's last letter or digit behind a tag, and none behind a `-`, a colon or a bracket.
use Rattle.std.proofs.Common.{◌≡◌, ℕ, zero, suc, ◌+◌, ◌-◌, ◌<◌, ◌⊎◌, inl, inr, Bool, true, false, ◌||◌, ◌&&◌, not, cond, nat_eq, nat_lt, nat_le, arith, List, [], ◌∷◌, drop, length, get_or, refl, sym, ap, ◌∙◌, subst, true≢false}
use Rattle.std.proofs.lemmas.Bool.Decides.{nat_tests}
use Rattle.std.proofs.lemmas.List.{drop-drop, get_or-drop}
use Rattle.yaml_scalars.specs.Lines.{lines, begins_with, begins_break, is_white, lead, indent, past_white, is_mark, is_end}
use Rattle.yaml_scalars.specs.Plain.{is_unsafe}
use Rattle.yaml_scalars.specs.Scalar.{is_first_column}
use Rattle.yaml_scalars.specs.code.Walk.{line_at, behind}
use Rattle.yaml_grammar.specs.declared.ahead.Ahead.{Ahead}
use Rattle.yaml_grammar.specs.declared.ahead.Token.{Token}
use Rattle.yaml_grammar.specs.declared.ahead.Token.TheVariants.{End, Dashes, Dots, Dash, Tag, NoTag, Opens, Closes, Comma, Point, Anchor, Percent, Tabbed, Stray, Other}
use Rattle.yaml_grammar.specs.Ahead.{is_letter, is_name, begins_letter, ends_tag, tag_token, tab_token, other_token, block_token, token_of, token_len, token_at, mark_of, is_passed, is_tabbed, content_ahead, line_ahead, rest_ahead, ahead}
use Rattle.yaml_grammar.specs.Blocks.{ends_name}
use Rattle.yaml_grammar.proofs.Looks.{white_rest, first_line, first_rest}
use Rattle.yaml_grammar.proofs.Placed.{name_before}

-- ---- what is ahead is told by the bytes at its place, but for marks, the end and what stands behind a tab

abbrev is_told : Token → Bool
is_told End = false
is_told Dashes = false
is_told Dots = false
is_told Tabbed = false
is_told Stray = false
is_told _ = true

abbrev IsTold : List ℕ → Bool → Ahead → Type 0
IsTold text flow a = ((a.token ≡ token_of flow (line_at (drop a.at text))) × (a.behind ≡ a.at + token_len a.token)) ⊎ (is_told a.token ≡ false)

mark_told : (bytes : List ℕ) → is_told (mark_of bytes) ≡ false
mark_told bytes = by_first (begins_with 45 bytes) where
  by_first : (q : Bool) → is_told (cond q Dashes Dots) ≡ false
  by_first true = refl
  by_first false = refl

tab_told : (bytes : List ℕ) → is_told (tab_token bytes) ≡ false
tab_told bytes = by_first (begins_with 35 bytes || begins_with 13 bytes) where
  by_first : (q : Bool) → is_told (cond q Stray Tabbed) ≡ false
  by_first true = refl
  by_first false = refl

white_told : (text : List ℕ) (flow fresh : Bool) (start : ℕ) → IsTold text flow (token_at (token_of flow (past_white (line_at (drop start text)))) fresh (lead is_white (line_at (drop start text))) (start + lead is_white (line_at (drop start text))))
white_told text flow fresh start = inl (ap (token_of flow) (white_rest text start (lead is_white (line_at (drop start text))) refl), refl)

content_told : (text : List ℕ) (flow : Bool) (start : ℕ) → IsTold text flow (content_ahead flow start (line_at (drop start text)))
content_told text flow start = by_tab (is_tabbed flow (line_at (drop start text))) where
  by_tab : (q : Bool) → IsTold text flow (cond q (token_at (tab_token (past_white (line_at (drop start text)))) true (indent (line_at (drop start text))) (start + indent (line_at (drop start text))))
      (token_at (token_of flow (past_white (line_at (drop start text)))) true (lead is_white (line_at (drop start text))) (start + lead is_white (line_at (drop start text)))))
  by_tab true = inr (tab_told (past_white (line_at (drop start text))))
  by_tab false = white_told text flow true start

lines_told : (text : List ℕ) (flow : Bool) (start : ℕ) → IsTold text flow (line_ahead flow (length text) (behind start (drop start text))) → IsTold text flow (line_ahead flow (length text) (lines start (drop start text)))
lines_told text flow start h = subst (IsTold text flow) (sym (first_line text flow start)) (by_mark (is_mark (line_at (drop start text))) (is_passed true (line_at (drop start text)))) where
  by_mark : (q r : Bool) → IsTold text flow (cond q (token_at (mark_of (line_at (drop start text))) true 0 start) (cond r (line_ahead flow (length text) (behind start (drop start text))) (content_ahead flow start (line_at (drop start text)))))
  by_mark true r = inr (mark_told (line_at (drop start text)))
  by_mark false true = h
  by_mark false false = content_told text flow start

behind_told : (text : List ℕ) (flow : Bool) (rest : List ℕ) (start : ℕ) → rest ≡ drop start text → IsTold text flow (line_ahead flow (length text) (behind start rest))
behind_told text flow [] start e = inr refl
behind_told text flow (x ∷ xs) start e = by_feed (nat_eq x 10) (behind_told text flow xs (suc start) rest) where
  rest : xs ≡ drop (suc start) text
  rest = ap (drop 1) e ∙ drop-drop 1 start text ∙ (let h : start + 1 ≡ suc start = omega arith in ap (λ k. drop k text) h)

  by_feed : (q : Bool) → IsTold text flow (line_ahead flow (length text) (behind (suc start) xs)) → IsTold text flow (line_ahead flow (length text) (cond q (lines (suc start) xs) (behind (suc start) xs)))
  by_feed false h = h
  by_feed true h =
      subst (λ t. IsTold text flow (line_ahead flow (length text) (lines (suc start) t))) (sym rest)
      (lines_told text flow (suc start) (subst (λ t. IsTold text flow (line_ahead flow (length text) (behind (suc start) t))) rest h))

told : (text : List ℕ) (flow : Bool) (i : ℕ) → IsTold text flow (ahead text flow i)
told text flow i = by_column (is_first_column text i) where
  below : IsTold text flow (line_ahead flow (length text) (behind i (drop i text)))
  below = behind_told text flow (drop i text) i refl

  by_passed : (q : Bool) → IsTold text flow (cond q (line_ahead flow (length text) (behind i (drop i text))) (token_at (token_of flow (past_white (line_at (drop i text)))) false (lead is_white (line_at (drop i text))) (i + lead is_white (line_at (drop i text)))))
  by_passed true = below
  by_passed false = white_told text flow false i

  by_column : (q : Bool) → IsTold text flow (cond q (line_ahead flow (length text) (lines i (drop i text))) (rest_ahead flow (length text) (lines i (drop i text))))
  by_column true = lines_told text flow i below
  by_column false = subst (IsTold text flow) (sym (first_rest text flow i)) (by_passed (is_passed false (line_at (drop i text))))

-- ---- a token's last byte

abbrev IsLast : List ℕ → Token → Type 0
IsLast xs (Tag len) = is_name (get_or xs len 0) ≡ true
IsLast xs Dash = is_name (get_or xs 0 0) ≡ false
IsLast xs (Point loose) = is_name (get_or xs 0 0) ≡ false
IsLast xs (Closes map) = is_name (get_or xs 0 0) ≡ false
IsLast xs _ = Unit {0}

some_letter : (ys : List ℕ) → begins_letter ys ≡ true → 0 < lead is_name ys
some_letter [] h = absurd (true≢false (sym h))
some_letter (y ∷ ys) h = by_name (is_letter y) (nat_le 48 y && nat_lt y 58) h where
  by_name : (p q : Bool) → p ≡ true → 0 < cond (p || q) (suc (lead is_name ys)) 0
  by_name true q e = omega arith
  by_name false q e = absurd (true≢false (sym e))

name_last : (x : ℕ) (xs : List ℕ) (n : ℕ) → n ≡ lead is_name (line_at xs) → 0 < n → is_name (get_or (x ∷ xs) n 0) ≡ true
name_last x xs zero e l = absurd (omega (arith, l))
name_last x xs (suc k) e l = (name_before k xs (omega (arith, e))).1

no_name : (x n : ℕ) → nat_eq x n ≡ true → is_name n ≡ false → is_name x ≡ false
no_name x n h e = let same : x ≡ n = grind (arith, nat_tests) in ap is_name same ∙ e

token_last : (flow : Bool) (xs : List ℕ) → IsLast xs (token_of flow (line_at xs))
token_last flow [] = tt
token_last flow (x ∷ xs) = by_break (begins_break x xs) where
  Last : Token → Type 0
  Last t = IsLast (x ∷ xs) t

  by_other : (a b c : Bool) → Last (cond a Anchor (cond b Percent (cond c Stray Other)))
  by_other true b c = tt
  by_other false true c = tt
  by_other false false true = tt
  by_other false false false = tt

  by_tag : (q8 q9 q10 : Bool) (o : Token) → begins_letter (line_at xs) ≡ q9 → Last o → Last (cond q8 (cond (q9 && q10) (Tag (lead is_name (line_at xs))) NoTag) o)
  by_tag true true true o h s = name_last x xs (lead is_name (line_at xs)) refl (some_letter (line_at xs) h)
  by_tag true true false o h s = tt
  by_tag true false q10 o h s = tt
  by_tag false q9 q10 o h s = s

  tag : (fl : Bool) → Last (cond (nat_eq x 33) (tag_token fl (line_at xs)) (other_token x))
  tag fl =
      by_tag (nat_eq x 33) (begins_letter (line_at xs)) (ends_tag fl (drop (lead is_name (line_at xs)) (line_at xs))) (other_token x) refl
      (by_other (nat_eq x 38 || nat_eq x 42) (nat_eq x 37) (nat_eq x 35 || nat_eq x 13))

  by_block : (q6 q7 e : Bool) (t : Token) → (q6 ≡ true → is_name x ≡ false) → (q7 ≡ true → is_name x ≡ false) → Last t → Last (cond (q7 && e) Dash (cond (q6 && e) (Point true) t))
  by_block q6 true true t g h s = h refl
  by_block true true false t g h s = s
  by_block false true false t g h s = s
  by_block true false true t g h s = g refl
  by_block true false false t g h s = s
  by_block false false e t g h s = s

  by_byte : (q1 q2 fl q3 q4 q5 q6 loose : Bool) (t o : Token) → (q3 ≡ true → is_name x ≡ false) → (q4 ≡ true → is_name x ≡ false) → (q6 ≡ true → is_name x ≡ false) → Last t → Last o
      → Last (cond q1 (Opens false) (cond q2 (Opens true) (cond (not fl) t (cond q3 (Closes false) (cond q4 (Closes true) (cond q5 Comma (cond q6 (Point loose) o)))))))
  by_byte true q2 fl q3 q4 q5 q6 p t o c d g s z = tt
  by_byte false true fl q3 q4 q5 q6 p t o c d g s z = tt
  by_byte false false false q3 q4 q5 q6 p t o c d g s z = s
  by_byte false false true true q4 q5 q6 p t o c d g s z = c refl
  by_byte false false true false true q5 q6 p t o c d g s z = d refl
  by_byte false false true false false true q6 p t o c d g s z = tt
  by_byte false false true false false false true p t o c d g s z = g refl
  by_byte false false true false false false false p t o c d g s z = z

  block : Last (block_token x (line_at xs))
  block = by_block (nat_eq x 58) (nat_eq x 45) (is_end (line_at xs)) (cond (nat_eq x 33) (tag_token false (line_at xs)) (other_token x)) (λ h. no_name x 58 h refl) (λ h. no_name x 45 h refl) (tag false)

  by_break : (q : Bool) → Last (token_of flow (cond q [] (x ∷ line_at xs)))
  by_break true = tt
  by_break false = by_byte (nat_eq x 91) (nat_eq x 123) flow (nat_eq x 93) (nat_eq x 125) (nat_eq x 44) (nat_eq x 58) (is_unsafe true (line_at xs)) (block_token x (line_at xs)) (cond (nat_eq x 33) (tag_token true (line_at xs)) (other_token x))
      (λ h. no_name x 93 h refl) (λ h. no_name x 125 h refl) (λ h. no_name x 58 h refl) block (tag true)

-- ---- in front of the place behind a token

at_last : (text : List ℕ) (a : Ahead) (n : ℕ) (q : Bool) → a.behind ≡ a.at + suc n → is_name (get_or (drop a.at text) n 0) ≡ q → ends_name text a.behind ≡ q
at_last text a n q b h =
    let there : a.behind - 1 ≡ a.at + n = omega (arith, b) in
    ap (λ k. is_name (get_or text k 0)) there ∙ ap is_name (sym (get_or-drop a.at text n 0)) ∙ h

module _ (text : List ℕ) (flow : Bool) (i : ℕ) where
  ended : (t : Token) (n : ℕ) (q : Bool) → (ahead text flow i).token ≡ t → is_told t ≡ true → token_len t ≡ suc n → (IsLast (drop (ahead text flow i).at text) t → is_name (get_or (drop (ahead text flow i).at text) n 0) ≡ q) → ends_name text (ahead text flow i).behind ≡ q
  ended t n q e w l h = by_told (told text flow i) where
    by_told : IsTold text flow (ahead text flow i) → ends_name text (ahead text flow i).behind ≡ q
    by_told (inr other) = absurd (true≢false (sym w ∙ ap is_told (sym e) ∙ other))
    by_told (inl (k, b)) =
        at_last text (ahead text flow i) n q (b ∙ ap (λ s. (ahead text flow i).at + token_len s) e ∙ ap (λ s. (ahead text flow i).at + s) l)
        (h (subst (IsLast (drop (ahead text flow i).at text)) (sym k ∙ e) (token_last flow (drop (ahead text flow i).at text))))

  pub tag_named : (len : ℕ) → (ahead text flow i).token ≡ Tag len → ends_name text (ahead text flow i).behind ≡ true
  tag_named len e = ended (Tag len) len true e refl refl (λ h. h)

  pub dash_unnamed : (ahead text flow i).token ≡ Dash → ends_name text (ahead text flow i).behind ≡ false
  dash_unnamed e = ended Dash 0 false e refl refl (λ h. h)

  pub colon_unnamed : (loose : Bool) → (ahead text flow i).token ≡ Point loose → ends_name text (ahead text flow i).behind ≡ false
  colon_unnamed loose e = ended (Point loose) 0 false e refl refl (λ h. h)

  pub bracket_unnamed : (map : Bool) → (ahead text flow i).token ≡ Closes map → ends_name text (ahead text flow i).behind ≡ false
  bracket_unnamed map e = ended (Closes map) 0 false e refl refl (λ h. h)
