-- One or two dots that begin the text's last line make a line `...` of it with those that lack. By induction over lines.
use Rattle.std.proofs.Common.{◌≡◌, ℕ, ◌+◌, ◌<◌, ◌≤◌, inr, Bool, true, false, cond, arith, List, [], ◌∷◌, ◌++◌, drop, length, refl, sym, ap, ◌∙◌, subst, true≢false, append-nil, length-append, length-drop}
use Rattle.yaml_scalars.specs.Lines.{Line, lines, begins_with, is_white, lead, indent, past_white, is_mark}
use Rattle.yaml_scalars.specs.Scalar.{is_first_column}
use Rattle.yaml_scalars.specs.code.Walk.{line_at, has_break, behind}
use Rattle.yaml_scalars.proofs.Places.{lines_are}
use Rattle.yaml_laws.proofs.Agree.{drop_before}
use Rattle.yaml_laws.proofs.Longer.{glue, joint, rest_of, no_feed, one_line, lines_more, behind_none}
use Rattle.yaml_laws.proofs.ScalarLaw.{column_longer}
use Rattle.yaml_grammar.specs.declared.ahead.Ahead.{Ahead}
use Rattle.yaml_grammar.specs.declared.ahead.Token.TheVariants.{End, Dashes, Dots}
use Rattle.yaml_grammar.specs.Ahead.{tab_token, is_tabbed, token_of, token_at, mark_of, is_passed, content_ahead, line_ahead, rest_ahead, ahead}
use Rattle.yaml_grammar.specs.Yaml.{IsEnd}
use Rattle.yaml_grammar.proofs.AheadEnds.{IsSome}
use Rattle.yaml_grammar.proofs.AheadFed.{some_of}
use Rattle.yaml_grammar.proofs.AheadOrder.{mark_parts}
use Rattle.yaml_grammar.proofs.Completions.{end_ahead}
use Rattle.yaml_grammar.proofs.LineTails.{Tails, tails_of}
use Rattle.yaml_grammar.proofs.ScalarOrder.{first_bytes}

nothing_behind : (k l : Line) (ls : List Line) → k ∷ ls ≡ l ∷ [] → ls ≡ []
nothing_behind k l ls h = cc

two_lines : (a b m : Line) (ls : List Line) → a ∷ [] ≡ b ∷ m ∷ ls → ⊥
two_lines a b m ls h = cc

-- a part of a mark, and the bytes that lack
module _ (text part w : List ℕ) (is : is_mark (part ++ w) ≡ true) (dots : begins_with 45 (part ++ w) ≡ false) (short : length part < 3) (one : no_feed part ≡ true) where
  -- the last line is the rest of the text
  whole : (k : Line) → lines k.at (drop k.at text) ≡ k ∷ [] → drop k.at text ≡ k.bytes
  whole k e =
      let none = nothing_behind (record { at = k.at; bytes = line_at (drop k.at text); broken = has_break (drop k.at text) }) k (behind k.at (drop k.at text)) (sym (lines_are k.at (drop k.at text)) ∙ e) in
      sym (behind_none k.at (drop k.at text) none).1 ∙ first_bytes text k [] e

  -- no other line is that part
  not_last : (l m : Line) (ls : List Line) (n : ℕ) → lines l.at (drop l.at text) ≡ l ∷ m ∷ ls → n ≡ 0 → drop (l.at + n) text ≡ part → ⊥
  not_last l m ls n e z d =
      let at : l.at + n ≡ l.at = omega (arith, z) in
      two_lines (rest_of l.at part) l m ls (sym (one_line l.at part one) ∙ ap (lines l.at) (sym d ∙ ap (λ k. drop k text) at) ∙ e)

  made : (most place : ℕ) (l : Line) (n : ℕ) → lines l.at (drop l.at text) ≡ l ∷ [] → n ≡ 0 → drop (l.at + n) text ≡ part → line_ahead false most (joint l (rest_of place w) ∷ []) ≡ token_at Dots true 0 (l.at + n)
  made most place l n e z d =
      let at : l.at + n ≡ l.at = omega (arith, z) in
      let bytes : l.bytes ≡ part = sym (whole l e) ∙ sym (ap (λ k. drop k text) at) ∙ d in
      ap (λ (b : List ℕ). line_ahead false most (record { at = l.at; bytes = b ++ w; broken = false } ∷ [])) bytes
      ∙ ap (λ q. cond q (token_at (mark_of (part ++ w)) true 0 l.at) (cond (is_passed true (part ++ w)) (line_ahead false most []) (content_ahead false l.at (part ++ w)))) is
      ∙ ap (λ q. token_at (cond q Dashes Dots) true 0 l.at) dots ∙ ap (token_at Dots true 0) (sym at)

  no_mark : (l : Line) → is_mark l.bytes ≡ true → lines l.at (drop l.at text) ≡ l ∷ [] → drop l.at text ≡ part → ⊥
  no_mark l m e d = let long = (mark_parts l.bytes m).0 in let same : l.bytes ≡ part = sym (whole l e) ∙ d in let sizes = ap (λ (t : List ℕ). length t) same in omega (arith, long, sizes, short)

  line_dots : (most place : ℕ) (ls : List Line) → Tails text ls → IsSome (line_ahead false (length text) ls).token → (line_ahead false (length text) ls).column ≡ 0 → drop (line_ahead false (length text) ls).at text ≡ part
      → line_ahead false most (glue ls (rest_of place w ∷ [])) ≡ token_at Dots true 0 (line_ahead false (length text) ls).at
  line_dots most place [] o h z d = absurd h
  line_dots most place (l ∷ []) o h z d = by_tests (is_mark l.bytes) (is_passed true l.bytes) (is_tabbed false l.bytes) refl h z d where
    by_tests : (q r v : Bool) → is_mark l.bytes ≡ q
        → IsSome (cond q (token_at (mark_of l.bytes) true 0 l.at) (cond r (line_ahead false (length text) []) (cond v (token_at (tab_token (past_white l.bytes)) true (indent l.bytes) (l.at + indent l.bytes)) (token_at (token_of false (past_white l.bytes)) true (lead is_white l.bytes) (l.at + lead is_white l.bytes))))).token
        → (cond q (token_at (mark_of l.bytes) true 0 l.at) (cond r (line_ahead false (length text) []) (cond v (token_at (tab_token (past_white l.bytes)) true (indent l.bytes) (l.at + indent l.bytes)) (token_at (token_of false (past_white l.bytes)) true (lead is_white l.bytes) (l.at + lead is_white l.bytes))))).column ≡ 0
        → drop (cond q (token_at (mark_of l.bytes) true 0 l.at) (cond r (line_ahead false (length text) []) (cond v (token_at (tab_token (past_white l.bytes)) true (indent l.bytes) (l.at + indent l.bytes)) (token_at (token_of false (past_white l.bytes)) true (lead is_white l.bytes) (l.at + lead is_white l.bytes))))).at text ≡ part
        → line_ahead false most (joint l (rest_of place w) ∷ [])
        ≡ token_at Dots true 0 (cond q (token_at (mark_of l.bytes) true 0 l.at) (cond r (line_ahead false (length text) []) (cond v (token_at (tab_token (past_white l.bytes)) true (indent l.bytes) (l.at + indent l.bytes)) (token_at (token_of false (past_white l.bytes)) true (lead is_white l.bytes) (l.at + lead is_white l.bytes))))).at
    by_tests true r v i h z d = absurd (no_mark l i o.0 d)
    by_tests false true v i h z d = absurd h
    by_tests false false true i h z d = made most place l (indent l.bytes) o.0 z d
    by_tests false false false i h z d = made most place l (lead is_white l.bytes) o.0 z d
  line_dots most place (l ∷ m ∷ ls) o h z d = by_tests (is_mark l.bytes) (is_passed true l.bytes) (is_tabbed false l.bytes) h z d (λ a b c. line_dots most place (m ∷ ls) o.1 a b c) where
    by_tests : (q r v : Bool)
        → IsSome (cond q (token_at (mark_of l.bytes) true 0 l.at) (cond r (line_ahead false (length text) (m ∷ ls)) (cond v (token_at (tab_token (past_white l.bytes)) true (indent l.bytes) (l.at + indent l.bytes)) (token_at (token_of false (past_white l.bytes)) true (lead is_white l.bytes) (l.at + lead is_white l.bytes))))).token
        → (cond q (token_at (mark_of l.bytes) true 0 l.at) (cond r (line_ahead false (length text) (m ∷ ls)) (cond v (token_at (tab_token (past_white l.bytes)) true (indent l.bytes) (l.at + indent l.bytes)) (token_at (token_of false (past_white l.bytes)) true (lead is_white l.bytes) (l.at + lead is_white l.bytes))))).column ≡ 0
        → drop (cond q (token_at (mark_of l.bytes) true 0 l.at) (cond r (line_ahead false (length text) (m ∷ ls)) (cond v (token_at (tab_token (past_white l.bytes)) true (indent l.bytes) (l.at + indent l.bytes)) (token_at (token_of false (past_white l.bytes)) true (lead is_white l.bytes) (l.at + lead is_white l.bytes))))).at text ≡ part
        → (IsSome (line_ahead false (length text) (m ∷ ls)).token → (line_ahead false (length text) (m ∷ ls)).column ≡ 0 → drop (line_ahead false (length text) (m ∷ ls)).at text ≡ part → line_ahead false most (glue (m ∷ ls) (rest_of place w ∷ [])) ≡ token_at Dots true 0 (line_ahead false (length text) (m ∷ ls)).at)
        → cond q (token_at (mark_of l.bytes) true 0 l.at) (cond r (line_ahead false most (glue (m ∷ ls) (rest_of place w ∷ []))) (cond v (token_at (tab_token (past_white l.bytes)) true (indent l.bytes) (l.at + indent l.bytes)) (token_at (token_of false (past_white l.bytes)) true (lead is_white l.bytes) (l.at + lead is_white l.bytes))))
        ≡ token_at Dots true 0 (cond q (token_at (mark_of l.bytes) true 0 l.at) (cond r (line_ahead false (length text) (m ∷ ls)) (cond v (token_at (tab_token (past_white l.bytes)) true (indent l.bytes) (l.at + indent l.bytes)) (token_at (token_of false (past_white l.bytes)) true (lead is_white l.bytes) (l.at + lead is_white l.bytes))))).at
    by_tests true r v h z d f = absurd (let e : l.at + 0 ≡ l.at = omega arith in not_last l m ls 0 o.0 refl (ap (λ k. drop k text) e ∙ d))
    by_tests false true v h z d f = f h z d
    by_tests false false true h z d f = absurd (not_last l m ls (indent l.bytes) o.0 z d)
    by_tests false false false h z d f = absurd (not_last l m ls (lead is_white l.bytes) o.0 z d)

  rest_dots : (most place : ℕ) (l : Line) (ls : List Line) → Tails text (l ∷ ls) → IsSome (rest_ahead false (length text) (l ∷ ls)).token → (rest_ahead false (length text) (l ∷ ls)).fresh ≡ true → (rest_ahead false (length text) (l ∷ ls)).column ≡ 0 → drop (rest_ahead false (length text) (l ∷ ls)).at text ≡ part
      → rest_ahead false most (glue (l ∷ ls) (rest_of place w ∷ [])) ≡ token_at Dots true 0 (rest_ahead false (length text) (l ∷ ls)).at
  rest_dots most place l [] o h f z d = by_test (is_passed false l.bytes) h f where
    by_test : (r : Bool) → IsSome (cond r (line_ahead false (length text) []) (token_at (token_of false (past_white l.bytes)) false (lead is_white l.bytes) (l.at + lead is_white l.bytes))).token
        → (cond r (line_ahead false (length text) []) (token_at (token_of false (past_white l.bytes)) false (lead is_white l.bytes) (l.at + lead is_white l.bytes))).fresh ≡ true
        → rest_ahead false most (joint l (rest_of place w) ∷ []) ≡ token_at Dots true 0 (cond r (line_ahead false (length text) []) (token_at (token_of false (past_white l.bytes)) false (lead is_white l.bytes) (l.at + lead is_white l.bytes))).at
    by_test true h f = absurd h
    by_test false h f = absurd (true≢false (sym f))
  rest_dots most place l (m ∷ ls) o h f z d = by_test (is_passed false l.bytes) h f z d where
    by_test : (r : Bool) → IsSome (cond r (line_ahead false (length text) (m ∷ ls)) (token_at (token_of false (past_white l.bytes)) false (lead is_white l.bytes) (l.at + lead is_white l.bytes))).token
        → (cond r (line_ahead false (length text) (m ∷ ls)) (token_at (token_of false (past_white l.bytes)) false (lead is_white l.bytes) (l.at + lead is_white l.bytes))).fresh ≡ true
        → (cond r (line_ahead false (length text) (m ∷ ls)) (token_at (token_of false (past_white l.bytes)) false (lead is_white l.bytes) (l.at + lead is_white l.bytes))).column ≡ 0
        → drop (cond r (line_ahead false (length text) (m ∷ ls)) (token_at (token_of false (past_white l.bytes)) false (lead is_white l.bytes) (l.at + lead is_white l.bytes))).at text ≡ part
        → cond r (line_ahead false most (glue (m ∷ ls) (rest_of place w ∷ []))) (token_at (token_of false (past_white l.bytes)) false (lead is_white l.bytes) (l.at + lead is_white l.bytes))
        ≡ token_at Dots true 0 (cond r (line_ahead false (length text) (m ∷ ls)) (token_at (token_of false (past_white l.bytes)) false (lead is_white l.bytes) (l.at + lead is_white l.bytes))).at
    by_test true h f z d = line_dots most place (m ∷ ls) o.1 h z d
    by_test false h f z d = absurd (true≢false (sym f))

  -- a text and a longer one
  dots_ahead : (i : ℕ) → no_feed w ≡ true → i ≤ length text → ((ahead text false i).token ≡ End → ⊥) → (ahead text false i).fresh ≡ true → (ahead text false i).column ≡ 0 → drop (ahead text false i).at text ≡ part → ahead (text ++ w) false i ≡ token_at Dots true 0 (ahead text false i).at
  dots_ahead i feed low some fresh zero_column d =
      let xs = drop i text in
      let l : Line = record { at = i; bytes = line_at xs; broken = has_break xs } in
      let ls = lines_are i xs in
      let longer : lines i (drop i (text ++ w)) ≡ glue (l ∷ behind i xs) (rest_of (i + length xs) w ∷ []) = ap (lines i) (drop_before i text w low) ∙ lines_more i xs w feed ∙ ap (λ ks. glue ks (rest_of (i + length xs) w ∷ [])) ls in
      ap (λ q. cond q (line_ahead false (length (text ++ w)) (lines i (drop i (text ++ w)))) (rest_ahead false (length (text ++ w)) (lines i (drop i (text ++ w))))) (column_longer text w i low)
      ∙ by_column (is_first_column text i) l (behind i xs) (i + length xs) ls longer (subst (λ ks. Tails text ks) ls (tails_of text i)) (some_of (ahead text false i).token some) fresh zero_column d where
        by_column : (q : Bool) (l : Line) (ks : List Line) (place : ℕ) → lines i (drop i text) ≡ l ∷ ks → lines i (drop i (text ++ w)) ≡ glue (l ∷ ks) (rest_of place w ∷ []) → Tails text (l ∷ ks)
            → IsSome (cond q (line_ahead false (length text) (lines i (drop i text))) (rest_ahead false (length text) (lines i (drop i text)))).token
            → (cond q (line_ahead false (length text) (lines i (drop i text))) (rest_ahead false (length text) (lines i (drop i text)))).fresh ≡ true
            → (cond q (line_ahead false (length text) (lines i (drop i text))) (rest_ahead false (length text) (lines i (drop i text)))).column ≡ 0
            → drop (cond q (line_ahead false (length text) (lines i (drop i text))) (rest_ahead false (length text) (lines i (drop i text)))).at text ≡ part
            → cond q (line_ahead false (length (text ++ w)) (lines i (drop i (text ++ w)))) (rest_ahead false (length (text ++ w)) (lines i (drop i (text ++ w))))
            ≡ token_at Dots true 0 (cond q (line_ahead false (length text) (lines i (drop i text))) (rest_ahead false (length text) (lines i (drop i text)))).at
        by_column true l ks place ls longer o h f z d =
            ap (line_ahead false (length (text ++ w))) longer
            ∙ line_dots (length (text ++ w)) place (l ∷ ks) o (subst (λ ys. IsSome (line_ahead false (length text) ys).token) ls h) (sym (ap (λ ys. (line_ahead false (length text) ys).column) ls) ∙ z) (sym (ap (λ ys. drop (line_ahead false (length text) ys).at text) ls) ∙ d)
            ∙ sym (ap (λ ys. token_at Dots true 0 (line_ahead false (length text) ys).at) ls)
        by_column false l ks place ls longer o h f z d =
            ap (rest_ahead false (length (text ++ w))) longer
            ∙ rest_dots (length (text ++ w)) place l ks o (subst (λ ys. IsSome (rest_ahead false (length text) ys).token) ls h) (sym (ap (λ ys. (rest_ahead false (length text) ys).fresh) ls) ∙ f) (sym (ap (λ ys. (rest_ahead false (length text) ys).column) ls) ∙ z)
            (sym (ap (λ ys. drop (rest_ahead false (length text) ys).at text) ls) ∙ d)
            ∙ sym (ap (λ ys. token_at Dots true 0 (rest_ahead false (length text) ys).at) ls)

  pub dots_end : (i : ℕ) → no_feed w ≡ true → length (part ++ w) ≡ 3 → i ≤ length text → (ahead text false i).at ≤ length text → ((ahead text false i).token ≡ End → ⊥) → (ahead text false i).fresh ≡ true → (ahead text false i).column ≡ 0 → drop (ahead text false i).at text ≡ part → IsEnd (text ++ w) i
  dots_end i feed three low near some fresh zero_column d =
      let a = ahead text false i in
      let there = dots_ahead i feed low some fresh zero_column d in
      let sizes = ap (λ (t : List ℕ). length t) d in
      let last : (ahead (text ++ w) false i).behind ≡ length (text ++ w) = ap (λ (b : Ahead). b.behind) there ∙ (let z : a.at + 3 ≡ length (text ++ w) = omega (arith, sizes, near, three, length-drop a.at text, length-append text w, length-append part w) in z) in
      let over : (ahead (text ++ w) false (length (text ++ w))).token ≡ End = ap (λ t. (ahead t false (length (text ++ w))).token) (sym (append-nil (text ++ w))) ∙ end_ahead (text ++ w) in
      inr (ap (λ (b : Ahead). b.token) there, ap (λ n. (ahead (text ++ w) false n).token) last ∙ over)
