-- Where what is ahead is looked at as far as the text's end: what a longer text has there. By the first byte of what is ahead.
use Rattle.std.proofs.Common.{◌≡◌, ℕ, zero, suc, ◌+◌, ◌-◌, ◌<◌, ◌≤◌, ◌⊎◌, inl, inr, Bool, true, false, ◌||◌, ◌&&◌, not, cond, nat_eq, nat_lt, arith, List, [], ◌∷◌, ◌++◌, drop, length, refl, sym, ap, ◌∙◌, subst, true≢false, append_assoc}
use Rattle.std.proofs.lemmas.Bool.{cases_lt}
use Rattle.std.proofs.lemmas.Bool.Decides.{nat_tests}
use Rattle.std.proofs.lemmas.List.{length-drop, drop-drop}
use Rattle.std.specs.Str.{IsCharBoundary, IsUtf8}
use Rattle.yaml_scalars.specs.Lines.{begins_with, begins_break, ends_with, indent, is_mark, is_white, lead, past_white, lines}
use Rattle.yaml_scalars.specs.Block.{same}
use Rattle.yaml_scalars.specs.Scalar.{is_first_column}
use Rattle.yaml_scalars.specs.code.Walk.{line_at, behind, ends_line}
use Rattle.yaml_laws.specs.code.Agreement.{AgreesTo}
use Rattle.yaml_laws.proofs.AgreeLess.{agrees_less, agrees_here}
use Rattle.yaml_grammar.specs.declared.ahead.Ahead.{Ahead}
use Rattle.yaml_grammar.specs.declared.ahead.Token.{Token}
use Rattle.yaml_grammar.specs.declared.ahead.Token.TheVariants.{End, Dashes, Dots, Dash, Tag, NoTag, Opens, Closes, Comma, Point, Anchor, Percent, Tabbed, Stray, Other}
use Rattle.yaml_grammar.specs.declared.form.Form.{Form}
use Rattle.yaml_grammar.specs.declared.form.Form.TheVariants.{Root, Flow, FlowTagged, Items, Entries, Tagged}
use Rattle.yaml_grammar.specs.Ahead.{is_name, token_len, token_of, token_at, mark_of, tab_token, is_passed, is_tabbed, content_ahead, line_ahead, rest_ahead, ahead}
use Rattle.yaml_grammar.specs.Nodes.{is_marked}
use Rattle.yaml_grammar.specs.code.AheadSeen.{ahead_seen, first_return, is_told}
use Rattle.yaml_grammar.specs.code.StopPlaces.{is_stray, run_width, token_width}
use Rattle.yaml_grammar.specs.code.Steps.{is_dash, is_ending, ends_before}
use Rattle.yaml_grammar.specs.code.Twins.{IsTwin, IsStill}
use Rattle.yaml_grammar.proofs.AheadEnds.{IsSome}
use Rattle.yaml_grammar.proofs.AheadFed.{ahead_fed}
use Rattle.yaml_grammar.proofs.AheadOrder.{seen_behind}
use Rattle.yaml_grammar.proofs.AheadStrays.{token_stray, stray_feed}
use Rattle.yaml_grammar.proofs.DeadPlaces.{parted}
use Rattle.yaml_grammar.proofs.FirstDead.{IsFirst, first_same}
use Rattle.yaml_grammar.proofs.FirstTokens.{mark_told, tab_told, first_byte, dash_byte}
use Rattle.yaml_grammar.proofs.KeyEnds.{line_fresh}
use Rattle.yaml_grammar.proofs.Looks.{first_line, first_rest}
use Rattle.yaml_grammar.proofs.Placed.{placed}
use Rattle.yaml_grammar.proofs.ShortTexts.{marks_longer}
use Rattle.yaml_grammar.proofs.ShownTokens.{ahead_wide}
use Rattle.yaml_grammar.proofs.Stopped.{last_return}
use Rattle.yaml_grammar.proofs.Twins.{twin_ahead}

-- ---- a longer text agrees through each byte

pub agrees_longer : (text more : List ℕ) (n : ℕ) → n < length text → AgreesTo n text (text ++ more)
agrees_longer text more n l = by_parts (parted text n l) where
  by_parts : (before behind : List ℕ) × (b : ℕ) × (text ≡ before ++ (b ∷ behind)) × (length before ≡ n) → AgreesTo n text (text ++ more)
  by_parts (before, behind, b, e, size) = (before, behind, behind ++ more, b, e, ap (λ t. t ++ more) e ∙ append_assoc before (b ∷ behind) more, size)

module _ (text more : List ℕ) (utf8 : IsUtf8 text) (longer : IsUtf8 (text ++ more)) (last : ends_with 13 text ≡ false) where
  -- and it is a twin there, where no carriage return ends the text
  breaks_longer : (n : ℕ) → n < length text → ends_line (drop n text) ≡ ends_line (drop n (text ++ more))
  breaks_longer n l = by_order (cases_lt (suc n) (length text)) where
    by_order : (suc n < length text) ⊎ (length text ≤ suc n) → ends_line (drop n text) ≡ ends_line (drop n (text ++ more))
    by_order (inl k) = (agrees_less n (suc n) text (text ++ more) (omega arith) (agrees_longer text more (suc n) k)).1
    by_order (inr k) = agrees_here n text (text ++ more) (agrees_longer text more n l) (last_return text n (omega (arith, k, l)) last)

  pub twin_last : (n : ℕ) → n < length text → IsTwin text n (text ++ more)
  twin_last n l = record { utf8 = longer; marks = marks_longer text more utf8 (omega (arith, l)); agrees = agrees_longer text more n l; breaks = breaks_longer n l }

  twin_back : (n : ℕ) → n < length text → IsTwin (text ++ more) n text
  twin_back n l = by_front (agrees_longer text more n l) where
    by_front : AgreesTo n text (text ++ more) → IsTwin (text ++ more) n text
    by_front (before, behind, rest, b, e, f, size) = record { utf8 = utf8; marks = sym (marks_longer text more utf8 (omega (arith, l))); agrees = (before, rest, behind, b, f, e, size); breaks = sym (breaks_longer n l) }

  -- ---- a `-` is ahead in a longer text only where it is here

  module _ (i : ℕ) (low : i ≤ (ahead text false i).at) (near : i ≤ length text) (told : is_told (ahead text false i).token ≡ true) (within : (ahead text false i).at < length text) where
    first : IsFirst text (text ++ more) false i
    first = first_same text (text ++ more) false i low told (agrees_longer text more (ahead text false i).at within)

    pub dash_back : (ahead (text ++ more) false i).behind ≡ suc (ahead (text ++ more) false i).at → (ahead (text ++ more) false i).token ≡ Dash → (ahead text false i).token ≡ Dash
    dash_back behind_is d = by_order (cases_lt (suc (ahead text false i).at) (length text)) where
      seen : ahead_seen (text ++ more) i ≤ suc (ahead text false i).at
      seen = let s = seen_behind (text ++ more) false i Dash d refl (omega arith) in let p = first.at in omega (arith, s, p, behind_is)

      dash : first.byte ≡ 45
      dash = by_same first.same where
        by_same : ((ahead (text ++ more) false i).token ≡ token_of false (first.byte ∷ first.that)) ⊎ (is_marked (ahead (text ++ more) false i).token ≡ true) → first.byte ≡ 45
        by_same (inl s) = dash_byte first.byte first.that (sym s ∙ d)
        by_same (inr m) = absurd (true≢false (sym m ∙ ap is_marked d))

      at_end : length text ≤ suc (ahead text false i).at → (b : ℕ) (rest : List ℕ) → drop (ahead text false i).at text ≡ b ∷ rest → (ahead text false i).token ≡ token_of false (b ∷ line_at rest) → (ahead text false i).token ≡ Dash
      at_end k b rest e tok =
          let size = ap (λ (t : List ℕ). length t) e in
          let none = empty rest (omega (arith, size, k, within, length-drop (ahead text false i).at text)) in
          let is : b ≡ 45 = byte_is b first.byte rest (sym (ap (begins_with first.byte) e) ∙ first.here) ∙ dash in
          tok ∙ ap (λ r. token_of false (b ∷ line_at r)) none ∙ ap (λ k. token_of false (k ∷ [])) is where
            empty : (r : List ℕ) → length r ≡ 0 → r ≡ []
            empty [] z = refl
            empty (x ∷ r) z = absurd (omega (arith, z))

            byte_is : (b c : ℕ) (r : List ℕ) → begins_with c (b ∷ r) ≡ true → b ≡ c
            byte_is b c r h = grind (arith, nat_tests, h)

      by_order : (suc (ahead text false i).at < length text) ⊎ (length text ≤ suc (ahead text false i).at) → (ahead text false i).token ≡ Dash
      by_order (inl k) = ap (λ (a : Ahead). a.token) (twin_ahead (text ++ more) (suc (ahead text false i).at) text (twin_back (suc (ahead text false i).at) k) false i (omega (arith, low, within, length-longer)) seen) ∙ d where
        length-longer : length text ≤ length (text ++ more)
        length-longer = long text more where
          long : (xs ys : List ℕ) → length xs ≤ length (xs ++ ys)
          long [] ys = omega arith
          long (x ∷ xs) ys = let h = long xs ys in omega (arith, h)
      by_order (inr k) = by_byte (first_byte text false i told) where
        by_byte : (b : ℕ) × (rest : List ℕ) × (drop (ahead text false i).at text ≡ b ∷ rest) × (is_white b ≡ false) × ((ahead text false i).token ≡ token_of false (b ∷ line_at rest)) → (ahead text false i).token ≡ Dash
        by_byte (b, rest, e, black, tok) = at_end k b rest e tok

    -- so no entry of a block that ended before the line begins there
    pub ended_still : IsCharBoundary (text ++ more) i → (f : Form) → ends_before f (ahead text false i) ≡ true → IsStill (text ++ more) (ahead (text ++ more) false i) f
    ended_still there Root h = absurd (true≢false (sym h))
    ended_still there (Flow map) h = absurd (true≢false (sym h))
    ended_still there (FlowTagged at) h = absurd (true≢false (sym h))
    ended_still there (Tagged at above shares) h = tt
    ended_still there (Entries m) h = λ fr col. (let same = first.column in let less = below (ahead text false i).column m h in absurd (omega (arith, same, col, less))) where
      below : (n m : ℕ) → nat_lt n m ≡ true → n < m
      below n m e = grind (arith, nat_tests, e)
    ended_still there (Items m) h = λ fr col d. by_test (is_dash (ahead text false i).token) refl h first.column col (dash_back (dash_len d) d) where
      dash_len : (ahead (text ++ more) false i).token ≡ Dash → (ahead (text ++ more) false i).behind ≡ suc (ahead (text ++ more) false i).at
      dash_len d = let w = (placed (text ++ more) false i longer there).3 ∙ ap (λ t. (ahead (text ++ more) false i).at + token_len t) d in omega (arith, w)

      less : (n m : ℕ) (q : Bool) → (nat_lt n m || (nat_eq n m && not q)) ≡ true → q ≡ true → n < m
      less n m true e z = grind (arith, nat_tests, e)
      less n m false e z = absurd (true≢false (sym z))

      by_test : (q : Bool) → is_dash (ahead text false i).token ≡ q → (nat_lt (ahead text false i).column m || (nat_eq (ahead text false i).column m && not q)) ≡ true → (ahead (text ++ more) false i).column ≡ (ahead text false i).column → (ahead (text ++ more) false i).column ≡ m
          → (ahead text false i).token ≡ Dash → ⊥
      by_test true e k same col d = let l = less (ahead text false i).column m true k refl in omega (arith, l, same, col)
      by_test false e k same col d = true≢false (sym (ap is_dash d) ∙ e)

-- ---- a stray carriage return

pub stray_told : (t : Token) → is_ending t ≡ false → (is_told t ≡ true) ⊎ (t ≡ Stray)
stray_told End e = absurd (true≢false e)
stray_told Dashes e = absurd (true≢false e)
stray_told Dots e = absurd (true≢false e)
stray_told Tabbed e = absurd (true≢false e)
stray_told Stray e = inr refl
stray_told Dash e = inl refl
stray_told (Tag len) e = inl refl
stray_told NoTag e = inl refl
stray_told (Opens map) e = inl refl
stray_told (Closes map) e = inl refl
stray_told Comma e = inl refl
stray_told (Point loose) e = inl refl
stray_told Anchor e = inl refl
stray_told Percent e = inl refl
stray_told Other e = inl refl

narrow : (xs : List ℕ) → (begins_with 35 (line_at xs) || begins_with 13 (line_at xs)) ≡ true → (token_width xs ≤ 1) × (0 < length xs)
narrow [] h = absurd (true≢false (sym h))
narrow (b ∷ xs) h = by_break (begins_break b xs) h where
  last : (q : Bool) → cond q 1 0 ≤ 1
  last true = omega arith
  last false = omega arith

  by_break : (q : Bool) → (begins_with 35 (cond q [] (b ∷ line_at xs)) || begins_with 13 (cond q [] (b ∷ line_at xs))) ≡ true → (token_width (b ∷ xs) ≤ 1) × (0 < suc (length xs))
  by_break true k = absurd (true≢false (sym k))
  by_break false k =
      let bang : nat_eq b 33 ≡ false = grind (arith, nat_tests, k) in
      let run : (nat_eq b 45 || nat_eq b 46) ≡ false = grind (arith, nat_tests, k) in
      let is : token_width (b ∷ xs) ≡ cond (nat_eq b 58 || nat_eq b 13) 1 0 =
      ap (λ q. cond q (suc (lead is_name (line_at xs))) (cond (nat_eq b 45 || nat_eq b 46) (run_width (suc (same b 2 xs)) xs) (cond (nat_eq b 58 || nat_eq b 13) 1 0))) bang
      ∙ ap (λ q. cond q (run_width (suc (same b 2 xs)) xs) (cond (nat_eq b 58 || nat_eq b 13) 1 0)) run in
      let most = last (nat_eq b 58 || nat_eq b 13) in
      (omega (arith, is, most), omega arith)

return_most : (xs : List ℕ) → first_return xs ≤ length xs
return_most [] = omega arith
return_most (b ∷ xs) = by_byte (nat_eq b 13) (return_most xs) where
  by_byte : (q : Bool) → first_return xs ≤ length xs → cond q 1 (suc (first_return xs)) ≤ suc (length xs)
  by_byte true h = omega arith
  by_byte false h = omega (arith, h)

-- one that begins no line and stands behind no white space
bare_stray : (text : List ℕ) (flow : Bool) (i : ℕ) → (ahead text flow i).token ≡ Stray → (ahead text flow i).fresh ≡ false → (ahead text flow i).column ≡ 0 → (begins_with 35 (line_at (drop i text)) || begins_with 13 (line_at (drop i text))) ≡ true
bare_stray text flow i h stale zero_column = by_column (is_first_column text i) h stale zero_column where
  by_column : (q : Bool) → (cond q (line_ahead flow (length text) (lines i (drop i text))) (rest_ahead flow (length text) (lines i (drop i text)))).token ≡ Stray
      → (cond q (line_ahead flow (length text) (lines i (drop i text))) (rest_ahead flow (length text) (lines i (drop i text)))).fresh ≡ false
      → (cond q (line_ahead flow (length text) (lines i (drop i text))) (rest_ahead flow (length text) (lines i (drop i text)))).column ≡ 0 → (begins_with 35 (line_at (drop i text)) || begins_with 13 (line_at (drop i text))) ≡ true
  by_column true t f c = absurd (true≢false (sym (line_fresh flow (length text) (lines i (drop i text))) ∙ f))
  by_column false t f c =
      by_passed (is_passed false (line_at (drop i text))) (sym (ap (λ (a : Ahead). a.token) (first_rest text flow i)) ∙ t) (sym (ap (λ (a : Ahead). a.fresh) (first_rest text flow i)) ∙ f) (sym (ap (λ (a : Ahead). a.column) (first_rest text flow i)) ∙ c) where
        by_passed : (q : Bool) → (cond q (line_ahead flow (length text) (behind i (drop i text))) (token_at (token_of flow (past_white (line_at (drop i text)))) false (lead is_white (line_at (drop i text))) (i + lead is_white (line_at (drop i text))))).token ≡ Stray
            → (cond q (line_ahead flow (length text) (behind i (drop i text))) (token_at (token_of flow (past_white (line_at (drop i text)))) false (lead is_white (line_at (drop i text))) (i + lead is_white (line_at (drop i text))))).fresh ≡ false
            → (cond q (line_ahead flow (length text) (behind i (drop i text))) (token_at (token_of flow (past_white (line_at (drop i text)))) false (lead is_white (line_at (drop i text))) (i + lead is_white (line_at (drop i text))))).column ≡ 0
            → (begins_with 35 (line_at (drop i text)) || begins_with 13 (line_at (drop i text))) ≡ true
        by_passed true t f c = absurd (true≢false (sym (line_fresh flow (length text) (behind i (drop i text))) ∙ f))
        by_passed false t f c = subst (λ n. (begins_with 35 (drop n (line_at (drop i text))) || begins_with 13 (drop n (line_at (drop i text)))) ≡ true) c (token_stray flow (line_at (drop i text)) t)

-- is looked for no further than the text's end
stray_most : (text : List ℕ) (flow : Bool) (i : ℕ) → IsUtf8 text → IsCharBoundary text i → (ahead text flow i).token ≡ Stray → ahead_seen text i ≤ length text
stray_most text flow i utf8 cut h = by_hidden (ahead text flow i).fresh refl (nat_lt 0 (ahead text flow i).column) refl wide where
  place : IsCharBoundary text (ahead text flow i).at
  place = (placed text flow i utf8 cut).1

  wide : ahead_seen text i ≤ (ahead text flow i).at + cond ((ahead text flow i).fresh || nat_lt 0 (ahead text flow i).column) (first_return (drop (ahead text flow i).at text)) (token_width (drop (ahead text flow i).at text))
  wide = subst (λ q. ahead_seen text i ≤ (ahead text flow i).at + cond (q && ((ahead text flow i).fresh || nat_lt 0 (ahead text flow i).column)) (first_return (drop (ahead text flow i).at text)) (token_width (drop (ahead text flow i).at text))) (ap is_stray h) (ahead_wide text flow i (ap is_ending h))

  far : ahead_seen text i ≤ (ahead text flow i).at + first_return (drop (ahead text flow i).at text) → ahead_seen text i ≤ length text
  far w = let m = return_most (drop (ahead text flow i).at text) in let p = place.0 in omega (arith, w, m, p, length-drop (ahead text flow i).at text)

  by_hidden : (q : Bool) → (ahead text flow i).fresh ≡ q → (r : Bool) → nat_lt 0 (ahead text flow i).column ≡ r
      → ahead_seen text i ≤ (ahead text flow i).at + cond ((ahead text flow i).fresh || nat_lt 0 (ahead text flow i).column) (first_return (drop (ahead text flow i).at text)) (token_width (drop (ahead text flow i).at text)) → ahead_seen text i ≤ length text
  by_hidden true e r k w = far (subst (λ q. ahead_seen text i ≤ (ahead text flow i).at + cond (q || nat_lt 0 (ahead text flow i).column) (first_return (drop (ahead text flow i).at text)) (token_width (drop (ahead text flow i).at text))) e w)
  by_hidden false e true k w =
      far (subst (λ q. ahead_seen text i ≤ (ahead text flow i).at + cond (false || q) (first_return (drop (ahead text flow i).at text)) (token_width (drop (ahead text flow i).at text))) k
      (subst (λ q. ahead_seen text i ≤ (ahead text flow i).at + cond (q || nat_lt 0 (ahead text flow i).column) (first_return (drop (ahead text flow i).at text)) (token_width (drop (ahead text flow i).at text))) e w))
  by_hidden false e false k w =
      let here = subst (λ q. ahead_seen text i ≤ (ahead text flow i).at + cond (false || q) (first_return (drop (ahead text flow i).at text)) (token_width (drop (ahead text flow i).at text))) k
      (subst (λ q. ahead_seen text i ≤ (ahead text flow i).at + cond (q || nat_lt 0 (ahead text flow i).column) (first_return (drop (ahead text flow i).at text)) (token_width (drop (ahead text flow i).at text))) e w) in
      let none : (ahead text flow i).column ≡ 0 = zero_of (ahead text flow i).column k in
      let same : (ahead text flow i).at ≡ i = (placed text flow i utf8 cut).4.1 e ∙ (let z : i + (ahead text flow i).column ≡ i = omega (arith, none) in z) in
      let n = narrow (drop i text) (bare_stray text flow i h e none) in
      let here2 = subst (λ n. ahead_seen text i ≤ n + token_width (drop n text)) same here in
      omega (arith, here2, n.0, n.1, length-drop i text) where
        zero_of : (n : ℕ) → nat_lt 0 n ≡ false → n ≡ 0
        zero_of n e = grind (arith, nat_tests, e)

-- where no carriage return ends the text, it is shown within it
pub stray_within : (text : List ℕ) (flow : Bool) (i : ℕ) → IsUtf8 text → IsCharBoundary text i → ends_with 13 text ≡ false → (ahead text flow i).token ≡ Stray → length text ≤ ahead_seen text i → ⊥
stray_within text flow i utf8 cut last h far =
    let most = stray_most text flow i utf8 cut h in
    let end = stray_feed text flow i cut.0 h (omega (arith, far, most)) in
    let kept = ahead_fed text [] flow i cut.0 last (subst IsSome (sym h) tt) in
    stray_end (sym h ∙ sym (ap (λ (a : Ahead). a.token) kept) ∙ end) where
      stray_end : Stray ≡ End → ⊥
      stray_end e = absurd (cc)

-- ---- dots that begin a line

-- where a token begins a line, no mark stands there
abbrev UnmarkedAt : List ℕ → Ahead → Type 0
UnmarkedAt text a = is_told a.token ≡ true → a.fresh ≡ true → a.column ≡ 0 → is_mark (line_at (drop a.at text)) ≡ false

content_unmarked : (text : List ℕ) (start : ℕ) → is_mark (line_at (drop start text)) ≡ false → UnmarkedAt text (content_ahead false start (line_at (drop start text)))
content_unmarked text start h = by_tab (is_tabbed false (line_at (drop start text))) where
  by_tab : (q : Bool) → UnmarkedAt text (cond q (token_at (tab_token (past_white (line_at (drop start text)))) true (indent (line_at (drop start text))) (start + indent (line_at (drop start text))))
      (token_at (token_of false (past_white (line_at (drop start text)))) true (lead is_white (line_at (drop start text))) (start + lead is_white (line_at (drop start text)))))
  by_tab true = λ t f c. absurd (true≢false (sym t ∙ tab_told (past_white (line_at (drop start text)))))
  by_tab false = λ t f c. (let same : start + lead is_white (line_at (drop start text)) ≡ start = omega (arith, c) in ap (λ n. is_mark (line_at (drop n text))) same ∙ h)

lines_unmarked : (text : List ℕ) (start : ℕ) → UnmarkedAt text (line_ahead false (length text) (behind start (drop start text))) → UnmarkedAt text (line_ahead false (length text) (lines start (drop start text)))
lines_unmarked text start h = subst (UnmarkedAt text) (sym (first_line text false start)) (by_mark (is_mark (line_at (drop start text))) refl (is_passed true (line_at (drop start text)))) where
  by_mark : (q : Bool) → is_mark (line_at (drop start text)) ≡ q → (r : Bool)
      → UnmarkedAt text (cond q (token_at (mark_of (line_at (drop start text))) true 0 start) (cond r (line_ahead false (length text) (behind start (drop start text))) (content_ahead false start (line_at (drop start text)))))
  by_mark true e r = λ t f c. absurd (true≢false (sym t ∙ mark_told (line_at (drop start text))))
  by_mark false e true = h
  by_mark false e false = content_unmarked text start e

behind_unmarked : (text : List ℕ) (rest : List ℕ) (start : ℕ) → rest ≡ drop start text → UnmarkedAt text (line_ahead false (length text) (behind start rest))
behind_unmarked text [] start e = λ t f c. absurd (true≢false (sym t))
behind_unmarked text (x ∷ xs) start e = by_feed (nat_eq x 10) (behind_unmarked text xs (suc start) rest) where
  rest : xs ≡ drop (suc start) text
  rest = ap (drop 1) e ∙ drop-drop 1 start text ∙ (let h : start + 1 ≡ suc start = omega arith in ap (λ k. drop k text) h)

  by_feed : (q : Bool) → UnmarkedAt text (line_ahead false (length text) (behind (suc start) xs)) → UnmarkedAt text (line_ahead false (length text) (cond q (lines (suc start) xs) (behind (suc start) xs)))
  by_feed false h = h
  by_feed true h =
      subst (λ t. UnmarkedAt text (line_ahead false (length text) (lines (suc start) t))) (sym rest)
      (lines_unmarked text (suc start) (subst (λ t. UnmarkedAt text (line_ahead false (length text) (behind (suc start) t))) rest h))

unmarked_at : (text : List ℕ) (i : ℕ) → UnmarkedAt text (ahead text false i)
unmarked_at text i = by_column (is_first_column text i) where
  below : UnmarkedAt text (line_ahead false (length text) (behind i (drop i text)))
  below = behind_unmarked text (drop i text) i refl

  by_passed : (q : Bool) → UnmarkedAt text (cond q (line_ahead false (length text) (behind i (drop i text))) (token_at (token_of false (past_white (line_at (drop i text)))) false (lead is_white (line_at (drop i text))) (i + lead is_white (line_at (drop i text)))))
  by_passed true = below
  by_passed false = λ t f c. absurd (true≢false (sym f))

  by_column : (q : Bool) → UnmarkedAt text (cond q (line_ahead false (length text) (lines i (drop i text))) (rest_ahead false (length text) (lines i (drop i text))))
  by_column true = lines_unmarked text i below
  by_column false = subst (UnmarkedAt text) (sym (first_rest text false i)) (by_passed (is_passed false (line_at (drop i text))))

pub dots_last : (text : List ℕ) (i : ℕ) → IsUtf8 text → IsCharBoundary text i → ends_with 13 text ≡ false → is_told (ahead text false i).token ≡ true → (ahead text false i).fresh ≡ true → (ahead text false i).column ≡ 0 → begins_with 46 (drop (ahead text false i).at text) ≡ true → length text ≤ ahead_seen text i
    → (drop (ahead text false i).at text ≡ 46 ∷ []) ⊎ (drop (ahead text false i).at text ≡ 46 ∷ 46 ∷ [])
dots_last text i utf8 cut last told fresh zero_column dot far = by_bytes (drop (ahead text false i).at text) refl dot wide where
  place : IsCharBoundary text (ahead text false i).at
  place = (placed text false i utf8 cut).1

  going : is_ending (ahead text false i).token ≡ false
  going = of_told (ahead text false i).token told where
    of_told : (t : Token) → is_told t ≡ true → is_ending t ≡ false
    of_told End e = absurd (true≢false (sym e))
    of_told Dashes e = absurd (true≢false (sym e))
    of_told Dots e = absurd (true≢false (sym e))
    of_told Tabbed e = absurd (true≢false (sym e))
    of_told Stray e = refl
    of_told Dash e = refl
    of_told (Tag len) e = refl
    of_told NoTag e = refl
    of_told (Opens map) e = refl
    of_told (Closes map) e = refl
    of_told Comma e = refl
    of_told (Point loose) e = refl
    of_told Anchor e = refl
    of_told Percent e = refl
    of_told Other e = refl

  bare : is_stray (ahead text false i).token ≡ false
  bare = of_told (ahead text false i).token told where
    of_told : (t : Token) → is_told t ≡ true → is_stray t ≡ false
    of_told End e = refl
    of_told Dashes e = refl
    of_told Dots e = refl
    of_told Tabbed e = refl
    of_told Stray e = absurd (true≢false (sym e))
    of_told Dash e = refl
    of_told (Tag len) e = refl
    of_told NoTag e = refl
    of_told (Opens map) e = refl
    of_told (Closes map) e = refl
    of_told Comma e = refl
    of_told (Point loose) e = refl
    of_told Anchor e = refl
    of_told Percent e = refl
    of_told Other e = refl

  wide : length text ≤ (ahead text false i).at + token_width (drop (ahead text false i).at text)
  wide =
      let w = subst (λ q. ahead_seen text i ≤ (ahead text false i).at + cond (q && ((ahead text false i).fresh || nat_lt 0 (ahead text false i).column)) (first_return (drop (ahead text false i).at text)) (token_width (drop (ahead text false i).at text))) bare (ahead_wide text false i going) in
      omega (arith, w, far)

  three : drop (ahead text false i).at text ≡ 46 ∷ 46 ∷ 46 ∷ [] → ⊥
  three e = true≢false (sym (ap (λ t. is_mark (line_at t)) e) ∙ unmarked_at text i told fresh zero_column)

  size : length (drop (ahead text false i).at text) ≡ length text - (ahead text false i).at
  size = length-drop (ahead text false i).at text

  ends_drop : (n : ℕ) (xs ys : List ℕ) → drop n xs ≡ ys → ends_with 13 ys ≡ true → ends_with 13 xs ≡ true
  ends_drop zero xs ys e h = ap (ends_with 13) e ∙ h
  ends_drop (suc n) [] ys e h = ap (ends_with 13) e ∙ h
  ends_drop (suc n) (x ∷ xs) ys e h = more x xs (ends_drop n xs ys e h) where
    more : (x : ℕ) (xs : List ℕ) → ends_with 13 xs ≡ true → ends_with 13 (x ∷ xs) ≡ true
    more x [] g = absurd (true≢false (sym g))
    more x (y ∷ ys) g = g

  by_bytes : (xs : List ℕ) → drop (ahead text false i).at text ≡ xs → begins_with 46 xs ≡ true → length text ≤ (ahead text false i).at + token_width (drop (ahead text false i).at text) → (drop (ahead text false i).at text ≡ 46 ∷ []) ⊎ (drop (ahead text false i).at text ≡ 46 ∷ 46 ∷ [])
  by_bytes [] e d w = absurd (true≢false (sym d))
  by_bytes (b ∷ xs) e d w = by_rest xs (e ∙ ap (λ k. k ∷ xs) is) (subst (λ t. length text ≤ (ahead text false i).at + token_width t) (e ∙ ap (λ k. k ∷ xs) is) w) where
    is : b ≡ 46
    is = grind (arith, nat_tests, d)

    by_rest : (xs : List ℕ) → drop (ahead text false i).at text ≡ 46 ∷ xs → length text ≤ (ahead text false i).at + run_width (suc (same 46 2 xs)) xs → (drop (ahead text false i).at text ≡ 46 ∷ []) ⊎ (drop (ahead text false i).at text ≡ 46 ∷ 46 ∷ [])
    by_rest [] e w = inl e
    by_rest (c ∷ []) e w = by_test (nat_eq c 46) refl w where
      by_test : (q : Bool) → nat_eq c 46 ≡ q → length text ≤ (ahead text false i).at + run_width (suc (cond q (suc 0) 0)) (c ∷ []) → (drop (ahead text false i).at text ≡ 46 ∷ []) ⊎ (drop (ahead text false i).at text ≡ 46 ∷ 46 ∷ [])
      by_test true h w = let z : c ≡ 46 = grind (arith, nat_tests, h) in inr (e ∙ ap (λ k. 46 ∷ k ∷ []) z)
      by_test false h w = let s = ap (λ (t : List ℕ). length t) e in absurd (omega (arith, w, s, size))
    by_rest (c ∷ d ∷ xs) e w = by_test (nat_eq c 46) refl (nat_eq d 46) refl w where
      by_test : (q : Bool) → nat_eq c 46 ≡ q → (r : Bool) → nat_eq d 46 ≡ r → length text ≤ (ahead text false i).at + run_width (suc (cond q (suc (cond r (suc 0) 0)) 0)) (c ∷ d ∷ xs)
          → (drop (ahead text false i).at text ≡ 46 ∷ []) ⊎ (drop (ahead text false i).at text ≡ 46 ∷ 46 ∷ [])
      by_test false h r k w = let s = ap (λ (t : List ℕ). length t) e in absurd (omega (arith, w, s, size))
      by_test true h false k w = let s = ap (λ (t : List ℕ). length t) e in absurd (omega (arith, w, s, size))
      by_test true h true k w =
          let z : c ≡ 46 = grind (arith, nat_tests, h) in
          let y : d ≡ 46 = grind (arith, nat_tests, k) in
          absurd (by_tail xs (e ∙ ap (λ k. 46 ∷ k ∷ d ∷ xs) z ∙ ap (λ k. 46 ∷ 46 ∷ k ∷ xs) y) w) where
            by_tail : (xs : List ℕ) → drop (ahead text false i).at text ≡ 46 ∷ 46 ∷ 46 ∷ xs → length text ≤ (ahead text false i).at + cond (begins_with 13 xs) 4 3 → ⊥
            by_tail [] e w = three e
            by_tail (x ∷ xs) e w = by_return (nat_eq x 13) refl w where
              by_return : (q : Bool) → nat_eq x 13 ≡ q → length text ≤ (ahead text false i).at + cond q 4 3 → ⊥
              by_return false g w = let s = ap (λ (t : List ℕ). length t) e in omega (arith, w, s, size)
              by_return true g w = ends xs e w where
                ends : (xs : List ℕ) → drop (ahead text false i).at text ≡ 46 ∷ 46 ∷ 46 ∷ x ∷ xs → length text ≤ (ahead text false i).at + 4 → ⊥
                ends [] e w = true≢false (sym (ends_drop (ahead text false i).at text (46 ∷ 46 ∷ 46 ∷ x ∷ []) e g) ∙ last)
                ends (y ∷ ys) e w = let s = ap (λ (t : List ℕ). length t) e in omega (arith, w, s, size)
