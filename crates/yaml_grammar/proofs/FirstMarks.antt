-- Where a token stands at a line's first column, no mark begins there. By induction over lines.
use Rattle.std.proofs.Common.{◌≡◌, ℕ, zero, suc, ◌+◌, ◌-◌, ◌<◌, Bool, true, false, ◌&&◌, cond, nat_eq, arith, List, [], ◌∷◌, drop, length, get_or, refl, sym, ap, ◌∙◌, subst, true≢false}
use Rattle.std.proofs.lemmas.Bool.Decides.{nat_tests}
use Rattle.std.proofs.lemmas.List.{drop-drop, get_or-drop}
use Rattle.std.specs.Prelude.{slice_index}
use Rattle.yaml_scalars.specs.Lines.{begins_break, indent, is_mark, is_white, lead, lines, past_white}
use Rattle.yaml_scalars.specs.Scalar.{begins_order_mark, is_first_column}
use Rattle.yaml_scalars.specs.code.Walk.{line_at, behind}
use Rattle.yaml_grammar.specs.declared.ahead.Ahead.{Ahead}
use Rattle.yaml_grammar.specs.Ahead.{is_passed, is_tabbed, mark_of, tab_token, token_at, token_of, content_ahead, line_ahead, rest_ahead, ahead}
use Rattle.yaml_grammar.specs.code.AheadSeen.{is_told}
use Rattle.yaml_grammar.proofs.FirstTokens.{mark_told, tab_told}
use Rattle.yaml_grammar.proofs.Looks.{first_line, first_rest}

-- ---- behind white space no line begins

lead_byte : (xs : List ℕ) (n : ℕ) → n < lead is_white (line_at xs) → is_white (get_or xs n 0) ≡ true
lead_byte [] n l = absurd (omega (arith, l))
lead_byte (b ∷ xs) n l = by_break (begins_break b xs) n l (λ m k. lead_byte xs m k) where
  Next : Type 0
  Next = (m : ℕ) → m < lead is_white (line_at xs) → is_white (get_or xs m 0) ≡ true

  by_white : (w : Bool) → is_white b ≡ w → (n : ℕ) → n < cond w (suc (lead is_white (line_at xs))) 0 → Next → is_white (get_or (b ∷ xs) n 0) ≡ true
  by_white true e zero l f = e
  by_white true e (suc n) l f = f n (omega (arith, l))
  by_white false e n l f = absurd (omega (arith, l))

  by_break : (q : Bool) → (n : ℕ) → n < lead is_white (cond q [] (b ∷ line_at xs)) → Next → is_white (get_or (b ∷ xs) n 0) ≡ true
  by_break true n l f = absurd (omega (arith, l))
  by_break false n l f = by_white (is_white b) refl n l f

-- nor does a byte order mark end with it
mark_white : (text : List ℕ) → begins_order_mark text ≡ true → is_white (get_or text 2 0) ≡ true → ⊥
mark_white [] h w = true≢false (sym h)
mark_white (a ∷ []) h w = true≢false (sym h)
mark_white (a ∷ b ∷ []) h w = true≢false (sym h)
mark_white (a ∷ b ∷ c ∷ bs) h w = by_tests (nat_eq a 239) (nat_eq b 187) (nat_eq c 191) refl h where
  by_tests : (p q r : Bool) → nat_eq c 191 ≡ r → (p && (q && r)) ≡ true → ⊥
  by_tests true true true e h = let n : is_white c ≡ false = grind (arith, nat_tests, e) in true≢false (sym w ∙ n)
  by_tests true true false e h = true≢false (sym h)
  by_tests true false r e h = true≢false (sym h)
  by_tests false q r e h = true≢false (sym h)

white_column : (text : List ℕ) (start n : ℕ) → n < lead is_white (line_at (drop start text)) → is_first_column text (start + suc n) ≡ false
white_column text start n l = rw (none, mark, line) refl where
  white : is_white (slice_index text (start + suc n - 1)) ≡ true
  white = (let k : start + suc n - 1 ≡ start + n = omega arith in ap (λ k. is_white (get_or text k 0)) k) ∙ ap is_white (sym (get_or-drop start text n 0)) ∙ lead_byte (drop start text) n l

  none : nat_eq (start + suc n) 0 ≡ false
  none = let k : 0 < start + suc n = omega arith in some (start + suc n) k where
    some : (k : ℕ) → 0 < k → nat_eq k 0 ≡ false
    some k l = grind (arith, nat_tests, l)

  mark : (nat_eq (start + suc n) 3 && begins_order_mark text) ≡ false
  mark = by_tests (nat_eq (start + suc n) 3) (begins_order_mark text) refl refl where
    by_tests : (p q : Bool) → nat_eq (start + suc n) 3 ≡ p → begins_order_mark text ≡ q → (p && q) ≡ false
    by_tests false q e h = refl
    by_tests true false e h = refl
    by_tests true true e h = absurd (mark_white text h ((let k : 2 ≡ start + suc n - 1 = three (start + suc n) e in ap (λ k. is_white (get_or text k 0)) k) ∙ white)) where
      three : (k : ℕ) → nat_eq k 3 ≡ true → 2 ≡ k - 1
      three k e = let z : k ≡ 3 = grind (arith, nat_tests, e) in omega (arith, z)

  line : nat_eq (slice_index text (start + suc n - 1)) 10 ≡ false
  line = let w = white in feed (slice_index text (start + suc n - 1)) w where
    feed : (b : ℕ) → is_white b ≡ true → nat_eq b 10 ≡ false
    feed b w = grind (arith, nat_tests, w)

-- ---- tokens

abbrev Unmarked : List ℕ → Ahead → Type 0
Unmarked text a = is_told a.token ≡ true → is_first_column text a.at ≡ true → is_mark (line_at (drop a.at text)) ≡ false

behind_white : (text : List ℕ) (start : ℕ) → (is_first_column text start ≡ true → is_mark (line_at (drop start text)) ≡ false) → (n : ℕ) → lead is_white (line_at (drop start text)) ≡ n → is_first_column text (start + n) ≡ true → is_mark (line_at (drop (start + n) text)) ≡ false
behind_white text start h zero e c = let same : start + 0 ≡ start = omega arith in ap (λ k. is_mark (line_at (drop k text))) same ∙ h (ap (is_first_column text) (sym same) ∙ c)
behind_white text start h (suc n) e c = absurd (true≢false (sym c ∙ white_column text start n (omega (arith, e))))

content_unmarked : (text : List ℕ) (flow : Bool) (start : ℕ) → is_mark (line_at (drop start text)) ≡ false → Unmarked text (content_ahead flow start (line_at (drop start text)))
content_unmarked text flow start h = by_tab (is_tabbed flow (line_at (drop start text))) where
  by_tab : (q : Bool) → Unmarked text (cond q (token_at (tab_token (past_white (line_at (drop start text)))) true (indent (line_at (drop start text))) (start + indent (line_at (drop start text))))
      (token_at (token_of flow (past_white (line_at (drop start text)))) true (lead is_white (line_at (drop start text))) (start + lead is_white (line_at (drop start text)))))
  by_tab true = λ t c. absurd (true≢false (sym t ∙ tab_told (past_white (line_at (drop start text)))))
  by_tab false = λ t c. behind_white text start (λ k. h) (lead is_white (line_at (drop start text))) refl c

lines_unmarked : (text : List ℕ) (flow : Bool) (start : ℕ) → Unmarked text (line_ahead flow (length text) (behind start (drop start text))) → Unmarked text (line_ahead flow (length text) (lines start (drop start text)))
lines_unmarked text flow start h = subst (Unmarked text) (sym (first_line text flow start)) (by_mark (is_mark (line_at (drop start text))) refl (is_passed true (line_at (drop start text)))) where
  by_mark : (q : Bool) → is_mark (line_at (drop start text)) ≡ q → (r : Bool)
      → Unmarked text (cond q (token_at (mark_of (line_at (drop start text))) true 0 start) (cond r (line_ahead flow (length text) (behind start (drop start text))) (content_ahead flow start (line_at (drop start text)))))
  by_mark true e r = λ t c. absurd (true≢false (sym t ∙ mark_told (line_at (drop start text))))
  by_mark false e true = h
  by_mark false e false = content_unmarked text flow start e

behind_unmarked : (text : List ℕ) (flow : Bool) (rest : List ℕ) (start : ℕ) → rest ≡ drop start text → Unmarked text (line_ahead flow (length text) (behind start rest))
behind_unmarked text flow [] start e = λ t c. absurd (true≢false (sym t))
behind_unmarked text flow (x ∷ xs) start e = by_feed (nat_eq x 10) (behind_unmarked text flow xs (suc start) rest) where
  rest : xs ≡ drop (suc start) text
  rest = ap (drop 1) e ∙ drop-drop 1 start text ∙ (let h : start + 1 ≡ suc start = omega arith in ap (λ k. drop k text) h)

  by_feed : (q : Bool) → Unmarked text (line_ahead flow (length text) (behind (suc start) xs)) → Unmarked text (line_ahead flow (length text) (cond q (lines (suc start) xs) (behind (suc start) xs)))
  by_feed false h = h
  by_feed true h =
      subst (λ t. Unmarked text (line_ahead flow (length text) (lines (suc start) t))) (sym rest)
      (lines_unmarked text flow (suc start) (subst (λ t. Unmarked text (line_ahead flow (length text) (behind (suc start) t))) rest h))

pub first_unmarked : (text : List ℕ) (flow : Bool) (i : ℕ) → is_told (ahead text flow i).token ≡ true → is_first_column text (ahead text flow i).at ≡ true → is_mark (line_at (drop (ahead text flow i).at text)) ≡ false
first_unmarked text flow i = by_column (is_first_column text i) refl where
  below : Unmarked text (line_ahead flow (length text) (behind i (drop i text)))
  below = behind_unmarked text flow (drop i text) i refl

  by_passed : is_first_column text i ≡ false → (q : Bool) → Unmarked text (cond q (line_ahead flow (length text) (behind i (drop i text))) (token_at (token_of flow (past_white (line_at (drop i text)))) false (lead is_white (line_at (drop i text))) (i + lead is_white (line_at (drop i text)))))
  by_passed k true = below
  by_passed k false = λ t c. behind_white text i (λ e. absurd (true≢false (sym e ∙ k))) (lead is_white (line_at (drop i text))) refl c

  by_column : (q : Bool) → is_first_column text i ≡ q → Unmarked text (cond q (line_ahead flow (length text) (lines i (drop i text))) (rest_ahead flow (length text) (lines i (drop i text))))
  by_column true k = lines_unmarked text flow i below
  by_column false k = subst (Unmarked text) (sym (first_rest text flow i)) (by_passed k (is_passed false (line_at (drop i text))))
