-- What is ahead of a place stands between it and the text's end, and the text may be cut in front of it and behind.
use Rattle.std.proofs.Common.{◌≡◌, ℕ, zero, suc, ◌+◌, ◌<◌, ◌≤◌, ◌⊎◌, inl, inr, Bool, true, false, ◌||◌, ◌&&◌, not, cond, nat_eq, nat_lt, nat_le, arith, List, [], ◌∷◌, drop, length, get_or, refl, sym, ap, ◌∙◌, subst, true≢false}
use Rattle.std.proofs.lemmas.Bool.Decides.{nat_tests}
use Rattle.std.specs.Str.{IsCharBoundary, IsUtf8}
use Rattle.std.proofs.lemmas.List.{drop-drop, get_or-drop, length-drop}
use Rattle.std.proofs.lemmas.Str.{IsCharBoundary-end, IsCharBoundary-after_ascii}
use Rattle.yaml_scalars.specs.Lines.{lines, begins_with, begins_break, is_white, lead, indent, past_white, is_mark, is_end}
use Rattle.yaml_scalars.specs.Plain.{is_unsafe}
use Rattle.yaml_scalars.specs.Scalar.{is_first_column}
use Rattle.yaml_scalars.specs.code.Walk.{line_at, behind}
use Rattle.yaml_scalars.proofs.BlockLines.{spaces_boundary}
use Rattle.yaml_scalars.proofs.LineParts.{line_get, lead_byte}
use Rattle.yaml_scalars.proofs.Places.{line_fits, lead_le}
use Rattle.yaml_scalars.proofs.QuotedGoing.{white_ascii}
use Rattle.yaml_grammar.specs.declared.ahead.Token.{Token}
use Rattle.yaml_grammar.specs.declared.ahead.Token.TheVariants.{End, Dashes, Dots, Dash, Tag, NoTag, Opens, Closes, Comma, Point, Anchor, Percent, Tabbed, Stray, Other}
use Rattle.yaml_grammar.specs.Ahead.{is_name, begins_letter, ends_tag, tag_token, tab_token, other_token, block_token, token_of, token_len, token_at, mark_of, is_passed, is_tabbed, content_ahead, line_ahead, rest_ahead, ahead}
use Rattle.yaml_grammar.specs.code.Steps.{IsColumn, IsPlaced}
use Rattle.yaml_grammar.proofs.Looks.{white_rest, first_line, first_rest}

-- white space in front of a line is ASCII
white_before : (n : ℕ) (xs : List ℕ) → n < lead is_white (line_at xs) → (n < length xs) × (is_white (get_or xs n 0) ≡ true)
white_before n xs l =
    let f = lead_le is_white (line_at xs) in
    let g = line_fits xs in
    (omega (arith, l, f, g), sym (ap is_white (line_get n xs (omega (arith, l, f)))) ∙ lead_byte is_white (line_at xs) n l)

cut_one : (bytes : List ℕ) (at k : ℕ) → IsUtf8 bytes → k ≡ at + 1 → at < length bytes → get_or bytes at 0 < 128 → IsCharBoundary bytes k
cut_one bytes at k u e l a = subst (λ j. IsCharBoundary bytes j) (sym e) (IsCharBoundary-after_ascii bytes at u l a)

white_cut : (bytes : List ℕ) (start n : ℕ) → IsUtf8 bytes → IsCharBoundary bytes start → n ≤ lead is_white (line_at (drop start bytes)) → IsCharBoundary bytes (start + n)
white_cut bytes start zero u b l = subst (λ j. IsCharBoundary bytes j) (let e : start ≡ start + 0 = omega arith in e) b
white_cut bytes start (suc n) u b l =
    let w = white_before n (drop start bytes) (omega (arith, l)) in
    let at : is_white (get_or bytes (start + n) 0) ≡ true = ap is_white (sym (get_or-drop start bytes n 0)) ∙ w.1 in
    let within : start + n < length bytes = omega (arith, w.0, length-drop start bytes, b.0) in
    cut_one bytes (start + n) (start + suc n) u (omega arith) within (white_ascii (get_or bytes (start + n) 0) at)

-- letters and digits are ASCII
name_ascii : (b : ℕ) → is_name b ≡ true → b < 128
name_ascii b h = by_tests (nat_le 65 b) (nat_lt b 91) (nat_le 97 b) (nat_lt b 123) (nat_le 48 b) (nat_lt b 58) (λ e. grind (arith, nat_tests)) (λ e. grind (arith, nat_tests)) (λ e. grind (arith, nat_tests)) h where
  by_tests : (p q r s t u : Bool) → (q ≡ true → b < 128) → (s ≡ true → b < 128) → (u ≡ true → b < 128) → (((p && q) || (r && s)) || (t && u)) ≡ true → b < 128
  by_tests true true r s t u f g k e = f refl
  by_tests true false true true t u f g k e = g refl
  by_tests true false true false true true f g k e = k refl
  by_tests true false true false true false f g k e = absurd (cc)
  by_tests true false true false false u f g k e = absurd (cc)
  by_tests true false false s true true f g k e = k refl
  by_tests true false false s true false f g k e = absurd (cc)
  by_tests true false false s false u f g k e = absurd (cc)
  by_tests false q true true t u f g k e = g refl
  by_tests false q true false true true f g k e = k refl
  by_tests false q true false true false f g k e = absurd (cc)
  by_tests false q true false false u f g k e = absurd (cc)
  by_tests false q false s true true f g k e = k refl
  by_tests false q false s true false f g k e = absurd (cc)
  by_tests false q false s false u f g k e = absurd (cc)

pub name_before : (n : ℕ) (xs : List ℕ) → n < lead is_name (line_at xs) → (n < length xs) × (is_name (get_or xs n 0) ≡ true)
name_before n xs l =
    let f = lead_le is_name (line_at xs) in
    let g = line_fits xs in
    (omega (arith, l, f, g), sym (ap is_name (line_get n xs (omega (arith, l, f)))) ∙ lead_byte is_name (line_at xs) n l)

name_cut : (bytes : List ℕ) (start n : ℕ) → IsUtf8 bytes → IsCharBoundary bytes start → n ≤ lead is_name (line_at (drop start bytes)) → IsCharBoundary bytes (start + n)
name_cut bytes start zero u b l = subst (λ j. IsCharBoundary bytes j) (let e : start ≡ start + 0 = omega arith in e) b
name_cut bytes start (suc n) u b l =
    let w = name_before n (drop start bytes) (omega (arith, l)) in
    let at : is_name (get_or bytes (start + n) 0) ≡ true = ap is_name (sym (get_or-drop start bytes n 0)) ∙ w.1 in
    let within : start + n < length bytes = omega (arith, w.0, length-drop start bytes, b.0) in
    cut_one bytes (start + n) (start + suc n) u (omega arith) within (name_ascii (get_or bytes (start + n) 0) at)

-- a token of a byte is ASCII, and so is a tag's name
abbrev IsShort : List ℕ → Token → Type 0
IsShort xs t = (token_len t ≡ 0) ⊎ ((k : ℕ) × (token_len t ≡ suc k) × (0 < length xs) × (get_or xs 0 0 < 128) × (k ≤ lead is_name (line_at (drop 1 xs))))

token_first : (flow : Bool) (xs : List ℕ) → IsShort xs (token_of flow (line_at xs))
token_first flow [] = inl refl
token_first flow (x ∷ xs) = by_break (begins_break x xs) where
  Small : Token → Type 0
  Small t = IsShort (x ∷ xs) t

  one : (t : Token) → token_len t ≡ 1 → x < 128 → Small t
  one t e a = inr (0, e, omega arith, a, omega arith)

  by_other : (a b c : Bool) → Small (cond a Anchor (cond b Percent (cond c Stray Other)))
  by_other true b c = inl refl
  by_other false true c = inl refl
  by_other false false true = inl refl
  by_other false false false = inl refl

  by_tag : (q8 q9 q10 : Bool) (o : Token) → (q8 ≡ true → x < 128) → Small o → Small (cond q8 (cond (q9 && q10) (Tag (lead is_name (line_at xs))) NoTag) o)
  by_tag true true true o h s = inr (lead is_name (line_at xs), refl, omega arith, h refl, omega arith)
  by_tag true true false o h s = inl refl
  by_tag true false q10 o h s = inl refl
  by_tag false q9 q10 o h s = s

  tag : (fl : Bool) → Small (cond (nat_eq x 33) (tag_token fl (line_at xs)) (other_token x))
  tag fl =
      by_tag (nat_eq x 33) (begins_letter (line_at xs)) (ends_tag fl (drop (lead is_name (line_at xs)) (line_at xs))) (other_token x) (λ h. grind (arith, nat_tests))
      (by_other (nat_eq x 38 || nat_eq x 42) (nat_eq x 37) (nat_eq x 35 || nat_eq x 13))

  by_block : (q6 q7 e : Bool) (t : Token) → (q6 ≡ true → x < 128) → (q7 ≡ true → x < 128) → Small t → Small (cond (q7 && e) Dash (cond (q6 && e) (Point true) t))
  by_block q6 true true t g h s = one Dash refl (h refl)
  by_block true true false t g h s = s
  by_block false true false t g h s = s
  by_block true false true t g h s = one (Point true) refl (g refl)
  by_block true false false t g h s = s
  by_block false false e t g h s = s

  by_byte : (q1 q2 fl q3 q4 q5 q6 : Bool) (p t o : Token) → token_len p ≡ 1 → (q1 ≡ true → x < 128) → (q2 ≡ true → x < 128) → (q3 ≡ true → x < 128) → (q4 ≡ true → x < 128) → (q5 ≡ true → x < 128) → (q6 ≡ true → x < 128) → Small t → Small o
      → Small (cond q1 (Opens false) (cond q2 (Opens true) (cond (not fl) t (cond q3 (Closes false) (cond q4 (Closes true) (cond q5 Comma (cond q6 p o)))))))
  by_byte true q2 fl q3 q4 q5 q6 p t o l a b c d f g s z = one (Opens false) refl (a refl)
  by_byte false true fl q3 q4 q5 q6 p t o l a b c d f g s z = one (Opens true) refl (b refl)
  by_byte false false false q3 q4 q5 q6 p t o l a b c d f g s z = s
  by_byte false false true true q4 q5 q6 p t o l a b c d f g s z = one (Closes false) refl (c refl)
  by_byte false false true false true q5 q6 p t o l a b c d f g s z = one (Closes true) refl (d refl)
  by_byte false false true false false true q6 p t o l a b c d f g s z = one Comma refl (f refl)
  by_byte false false true false false false true p t o l a b c d f g s z = one p l (g refl)
  by_byte false false true false false false false p t o l a b c d f g s z = z

  block : Small (block_token x (line_at xs))
  block = by_block (nat_eq x 58) (nat_eq x 45) (is_end (line_at xs)) (cond (nat_eq x 33) (tag_token false (line_at xs)) (other_token x)) (λ h. grind (arith, nat_tests)) (λ h. grind (arith, nat_tests)) (tag false)

  by_break : (q : Bool) → Small (token_of flow (cond q [] (x ∷ line_at xs)))
  by_break true = inl refl
  by_break false = by_byte (nat_eq x 91) (nat_eq x 123) flow (nat_eq x 93) (nat_eq x 125) (nat_eq x 44) (nat_eq x 58) (Point (is_unsafe true (line_at xs))) (block_token x (line_at xs)) (cond (nat_eq x 33) (tag_token true (line_at xs)) (other_token x)) refl
      (λ h. grind (arith, nat_tests)) (λ h. grind (arith, nat_tests)) (λ h. grind (arith, nat_tests)) (λ h. grind (arith, nat_tests)) (λ h. grind (arith, nat_tests)) (λ h. grind (arith, nat_tests)) block (tag true)

token_cut : (bytes : List ℕ) (flow : Bool) (at : ℕ) → IsUtf8 bytes → IsCharBoundary bytes at → IsCharBoundary bytes (at + token_len (token_of flow (line_at (drop at bytes))))
token_cut bytes flow at u b = by_first (token_first flow (drop at bytes)) where
  by_first : IsShort (drop at bytes) (token_of flow (line_at (drop at bytes))) → IsCharBoundary bytes (at + token_len (token_of flow (line_at (drop at bytes))))
  by_first (inl e) = subst (λ j. IsCharBoundary bytes j) (let h : at ≡ at + token_len (token_of flow (line_at (drop at bytes))) = omega (arith, e) in h) b
  by_first (inr (k, e, l, a, n)) =
      let here : get_or (drop at bytes) 0 0 ≡ get_or bytes at 0 = get_or-drop at bytes 0 0 ∙ (let z : at + 0 ≡ at = omega arith in ap (λ k. get_or bytes k 0) z) in
      let one : IsCharBoundary bytes (at + 1) = cut_one bytes at (at + 1) u refl (omega (arith, l, length-drop at bytes, b.0)) (subst (λ k. k < 128) here a) in
      let far : at + 1 + k ≡ at + token_len (token_of flow (line_at (drop at bytes))) = omega (arith, e) in
      subst (λ j. IsCharBoundary bytes j) far (name_cut bytes (at + 1) k u one (subst (λ t. k ≤ lead is_name (line_at t)) (drop-drop 1 at bytes) n))

token_one : (bytes : List ℕ) (flow : Bool) (at : ℕ) → IsUtf8 bytes → IsCharBoundary bytes at → 0 < token_len (token_of flow (line_at (drop at bytes))) → IsCharBoundary bytes (at + 1)
token_one bytes flow at u b z = by_first (token_first flow (drop at bytes)) where
  by_first : IsShort (drop at bytes) (token_of flow (line_at (drop at bytes))) → IsCharBoundary bytes (at + 1)
  by_first (inl e) = absurd (omega (arith, z, e))
  by_first (inr (k, e, l, a, n)) =
      let here : get_or (drop at bytes) 0 0 ≡ get_or bytes at 0 = get_or-drop at bytes 0 0 ∙ (let y : at + 0 ≡ at = omega arith in ap (λ k. get_or bytes k 0) y) in
      cut_one bytes at (at + 1) u refl (omega (arith, l, length-drop at bytes, b.0)) (subst (λ k. k < 128) here a)

-- a mark is of ASCII
mark_third : (xs : List ℕ) → is_mark xs ≡ true → (2 < length xs) × (get_or xs 2 0 < 128)
mark_third [] h = absurd (cc)
mark_third (a ∷ []) h = absurd (cc)
mark_third (a ∷ b ∷ []) h = absurd (cc)
mark_third (a ∷ b ∷ c ∷ rest) h = (omega arith, by_bytes (nat_eq a 45) (nat_eq a 46) (nat_eq a b) (nat_eq a c) (λ k. grind (arith, nat_tests)) (λ k. grind (arith, nat_tests)) (λ k. grind (arith, nat_tests)) h) where
  by_bytes : (p q r s : Bool) → (p ≡ true → a < 128) → (q ≡ true → a < 128) → (s ≡ true → a ≡ c) → ((p || q) && (r && (s && is_end rest))) ≡ true → c < 128
  by_bytes true q true true f g k e = let h' = f refl in let i = k refl in omega (arith, h', i)
  by_bytes false true true true f g k e = let h' = g refl in let i = k refl in omega (arith, h', i)
  by_bytes true q true false f g k e = absurd (cc)
  by_bytes true q false s f g k e = absurd (cc)
  by_bytes false true true false f g k e = absurd (cc)
  by_bytes false true false s f g k e = absurd (cc)
  by_bytes false false r s f g k e = absurd (cc)

mark_cut : (bytes : List ℕ) (at : ℕ) → IsUtf8 bytes → IsCharBoundary bytes at → is_mark (line_at (drop at bytes)) ≡ true → IsCharBoundary bytes (at + 3)
mark_cut bytes at u b m =
    let t = mark_third (line_at (drop at bytes)) m in
    let f = line_fits (drop at bytes) in
    let here : get_or (line_at (drop at bytes)) 2 0 ≡ get_or bytes (at + 2) 0 = line_get 2 (drop at bytes) t.0 ∙ get_or-drop at bytes 2 0 in
    cut_one bytes (at + 2) (at + 3) u (omega arith) (omega (arith, t.0, f, length-drop at bytes, b.0)) (subst (λ k. k < 128) here t.1)

mark_first : (xs : List ℕ) → is_mark xs ≡ true → (0 < length xs) × (get_or xs 0 0 < 128)
mark_first [] h = absurd (cc)
mark_first (a ∷ []) h = absurd (cc)
mark_first (a ∷ b ∷ []) h = absurd (cc)
mark_first (a ∷ b ∷ c ∷ rest) h = (omega arith, by_bytes (nat_eq a 45) (nat_eq a 46) (nat_eq a b && (nat_eq a c && is_end rest)) (λ k. grind (arith, nat_tests)) (λ k. grind (arith, nat_tests)) h) where
  by_bytes : (p q r : Bool) → (p ≡ true → a < 128) → (q ≡ true → a < 128) → ((p || q) && r) ≡ true → a < 128
  by_bytes true q r f g e = f refl
  by_bytes false true r f g e = g refl
  by_bytes false false r f g e = absurd (cc)

mark_one : (bytes : List ℕ) (at : ℕ) → IsUtf8 bytes → IsCharBoundary bytes at → is_mark (line_at (drop at bytes)) ≡ true → IsCharBoundary bytes (at + 1)
mark_one bytes at u b m =
    let t = mark_first (line_at (drop at bytes)) m in
    let f = line_fits (drop at bytes) in
    let here : get_or (line_at (drop at bytes)) 0 0 ≡ get_or bytes (at + 0) 0 = line_get 0 (drop at bytes) t.0 ∙ get_or-drop at bytes 0 0 in
    let there : get_or bytes (at + 0) 0 ≡ get_or bytes at 0 = let z : at + 0 ≡ at = omega arith in ap (λ k. get_or bytes k 0) z in
    cut_one bytes at (at + 1) u refl (omega (arith, t.0, f, length-drop at bytes, b.0)) (subst (λ k. k < 128) (here ∙ there) t.1)

mark_len : (bytes : List ℕ) → token_len (mark_of bytes) ≡ 3
mark_len bytes = by_first (begins_with 45 bytes) where
  by_first : (q : Bool) → token_len (cond q Dashes Dots) ≡ 3
  by_first true = refl
  by_first false = refl

-- ---- the parts

tab_len : (bytes : List ℕ) → token_len (tab_token bytes) ≡ 0
tab_len bytes = by_first (begins_with 35 bytes || begins_with 13 bytes) where
  by_first : (q : Bool) → token_len (cond q Stray Tabbed) ≡ 0
  by_first true = refl
  by_first false = refl

bare : (bytes : List ℕ) (i at column : ℕ) (t : Token) → token_len t ≡ 0 → i ≤ at → column ≤ at → IsCharBoundary bytes at → IsPlaced bytes i (token_at t true column at)
bare bytes i at column t e l m b =
    (l, b, subst (λ j. IsCharBoundary bytes j) (let h : at ≡ at + token_len t = omega (arith, e) in h) b, refl, ((λ f. m), (λ f. absurd (true≢false f))), (λ z. absurd (omega (arith, z, e))))

white_column : (fresh : Bool) (t : Token) (i start n : ℕ) → (fresh ≡ false → start ≡ i) → IsColumn i (token_at t fresh n (start + n))
white_column true t i start n e = ((λ f. omega arith), (λ f. absurd (true≢false f)))
white_column false t i start n e = ((λ f. absurd (true≢false (sym f))), (λ f. ap (λ k. k + n) (e refl)))

white_placed : (bytes : List ℕ) (flow fresh : Bool) (i start : ℕ) → IsUtf8 bytes → IsCharBoundary bytes start → i ≤ start → (fresh ≡ false → start ≡ i)
    → IsPlaced bytes i (token_at (token_of flow (past_white (line_at (drop start bytes)))) fresh (lead is_white (line_at (drop start bytes))) (start + lead is_white (line_at (drop start bytes))))
white_placed bytes flow fresh i start u b l f =
    let n : ℕ = lead is_white (line_at (drop start bytes)) in
    let c : IsCharBoundary bytes (start + n) = white_cut bytes start n u b (omega arith) in
    let d : IsCharBoundary bytes (start + n + token_len (token_of flow (line_at (drop (start + n) bytes)))) = token_cut bytes flow (start + n) u c in (
      omega (arith, l),
      c,
      subst (λ t. IsCharBoundary bytes (start + n + token_len (token_of flow t))) (sym (white_rest bytes start n refl)) d,
      refl,
      white_column fresh (token_of flow (past_white (line_at (drop start bytes)))) i start n f,
      (λ z. token_one bytes flow (start + n) u c (subst (λ t. 0 < token_len (token_of flow t)) (white_rest bytes start n refl) z)),
    )

content_placed : (bytes : List ℕ) (flow : Bool) (i start : ℕ) → IsUtf8 bytes → IsCharBoundary bytes start → i ≤ start → IsPlaced bytes i (content_ahead flow start (line_at (drop start bytes)))
content_placed bytes flow i start u b l = by_tab (is_tabbed flow (line_at (drop start bytes))) where
  by_tab : (q : Bool) → IsPlaced bytes i (cond q (token_at (tab_token (past_white (line_at (drop start bytes)))) true (indent (line_at (drop start bytes))) (start + indent (line_at (drop start bytes)))) (token_at (token_of flow (past_white (line_at (drop start bytes)))) true (lead is_white (line_at (drop start bytes))) (start + lead is_white (line_at (drop start bytes)))))
  by_tab true = bare bytes i (start + indent (line_at (drop start bytes))) (indent (line_at (drop start bytes))) (tab_token (past_white (line_at (drop start bytes)))) (tab_len (past_white (line_at (drop start bytes)))) (omega (arith, l)) (omega arith) (spaces_boundary bytes start (indent (line_at (drop start bytes))) u b (omega arith))
  by_tab false = white_placed bytes flow true i start u b l (λ f. absurd (true≢false f))

mark_placed : (bytes : List ℕ) (i start : ℕ) → IsUtf8 bytes → IsCharBoundary bytes start → i ≤ start → is_mark (line_at (drop start bytes)) ≡ true → IsPlaced bytes i (token_at (mark_of (line_at (drop start bytes))) true 0 start)
mark_placed bytes i start u b l m =
    (l, b, subst (λ k. IsCharBoundary bytes (start + k)) (sym (mark_len (line_at (drop start bytes)))) (mark_cut bytes start u b m), refl, ((λ f. omega arith), (λ f. absurd (true≢false f))), (λ z. mark_one bytes start u b m))

lines_placed : (bytes : List ℕ) (flow : Bool) (i start : ℕ) → IsUtf8 bytes → IsCharBoundary bytes start → i ≤ start → IsPlaced bytes i (line_ahead flow (length bytes) (behind start (drop start bytes)))
    → IsPlaced bytes i (line_ahead flow (length bytes) (lines start (drop start bytes)))
lines_placed bytes flow i start u b l h = subst (IsPlaced bytes i) (sym (first_line bytes flow start)) (by_mark (is_mark (line_at (drop start bytes))) refl (is_passed true (line_at (drop start bytes)))) where
  by_mark : (q : Bool) → is_mark (line_at (drop start bytes)) ≡ q → (r : Bool)
      → IsPlaced bytes i (cond q (token_at (mark_of (line_at (drop start bytes))) true 0 start) (cond r (line_ahead flow (length bytes) (behind start (drop start bytes))) (content_ahead flow start (line_at (drop start bytes)))))
  by_mark true e r = mark_placed bytes i start u b l e
  by_mark false e true = h
  by_mark false e false = content_placed bytes flow i start u b l

behind_placed : (bytes : List ℕ) (flow : Bool) (i : ℕ) (rest : List ℕ) (start : ℕ) → IsUtf8 bytes → rest ≡ drop start bytes → start ≤ length bytes → i ≤ start
    → IsPlaced bytes i (line_ahead flow (length bytes) (behind start rest))
behind_placed bytes flow i [] start u e w l = bare bytes i (length bytes) 0 End refl (omega (arith, w, l)) (omega arith) (IsCharBoundary-end bytes)
behind_placed bytes flow i (x ∷ xs) start u e w l =
    by_feed (nat_eq x 10) (λ h. grind (arith, nat_tests)) (behind_placed bytes flow i xs (suc start) u rest within (omega (arith, l))) where
      long : length (x ∷ xs) ≡ length (drop start bytes)
      long = ap length e

      within : suc start ≤ length bytes
      within = let a = long in omega (arith, a, w, length-drop start bytes)

      rest : xs ≡ drop (suc start) bytes
      rest = ap (drop 1) e ∙ drop-drop 1 start bytes ∙ (let h : start + 1 ≡ suc start = omega arith in ap (λ k. drop k bytes) h)

      here : x ≡ get_or bytes start 0
      here = ap (λ (t : List ℕ). get_or t 0 0) e ∙ get_or-drop start bytes 0 0 ∙ (let z : start + 0 ≡ start = omega arith in ap (λ k. get_or bytes k 0) z)

      by_feed : (q : Bool) → (q ≡ true → x < 128) → IsPlaced bytes i (line_ahead flow (length bytes) (behind (suc start) xs)) → IsPlaced bytes i (line_ahead flow (length bytes) (cond q (lines (suc start) xs) (behind (suc start) xs)))
      by_feed false f h = h
      by_feed true f h =
          let b : IsCharBoundary bytes (suc start) = cut_one bytes start (suc start) u (omega arith) (omega (arith, within)) (subst (λ k. k < 128) here (f refl)) in
          subst (λ t. IsPlaced bytes i (line_ahead flow (length bytes) (lines (suc start) t))) (sym rest)
          (lines_placed bytes flow i (suc start) u b (omega (arith, l)) (subst (λ t. IsPlaced bytes i (line_ahead flow (length bytes) (behind (suc start) t))) rest h))

pub placed : (text : List ℕ) (flow : Bool) (i : ℕ) → IsUtf8 text → IsCharBoundary text i → IsPlaced text i (ahead text flow i)
placed text flow i u b = by_column (is_first_column text i) where
  below : IsPlaced text i (line_ahead flow (length text) (behind i (drop i text)))
  below = behind_placed text flow i (drop i text) i u refl b.0 (omega arith)

  by_passed : (q : Bool) → IsPlaced text i (cond q (line_ahead flow (length text) (behind i (drop i text))) (token_at (token_of flow (past_white (line_at (drop i text)))) false (lead is_white (line_at (drop i text))) (i + lead is_white (line_at (drop i text)))))
  by_passed true = below
  by_passed false = white_placed text flow false i i u b (omega arith) (λ f. refl)

  by_column : (q : Bool) → IsPlaced text i (cond q (line_ahead flow (length text) (lines i (drop i text))) (rest_ahead flow (length text) (lines i (drop i text))))
  by_column true = lines_placed text flow i i u b (omega arith) below
  by_column false = subst (IsPlaced text i) (sym (first_rest text flow i)) (by_passed (is_passed false (line_at (drop i text))))
