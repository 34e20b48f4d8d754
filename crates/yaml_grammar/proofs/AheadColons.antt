-- A colon on the line of a place is shown by the byte behind it. By the cases of a token.
use Rattle.std.proofs.Common.{◌≡◌, ℕ, ◌+◌, ◌≤◌, Bool, true, false, ◌||◌, ◌&&◌, cond, nat_eq, nat_lt, List, [], ◌∷◌, drop, length, refl, sym, ap, ◌∙◌, true≢false, arith}
use Rattle.std.proofs.lemmas.Bool.Decides.{nat_tests}
use Rattle.yaml_scalars.specs.Lines.{Line, lines, begins_with, is_white, lead, past_white, is_end}
use Rattle.yaml_scalars.specs.Scalar.{is_first_column}
use Rattle.yaml_grammar.specs.declared.ahead.Token.{Token}
use Rattle.yaml_grammar.specs.declared.ahead.Token.TheVariants.{End, Dashes, Dots, Dash, Tag, NoTag, Opens, Closes, Comma, Point, Anchor, Percent, Tabbed, Stray, Other}
use Rattle.yaml_grammar.specs.Ahead.{token_len, token_at, tag_token, other_token, block_token, token_of, begins_letter, ends_tag, is_name, is_passed, line_ahead, rest_ahead, ahead}
use Rattle.yaml_grammar.specs.code.AheadSeen.{token_shown, first_return, content_shown, line_seen, rest_seen, ahead_seen}
use Rattle.yaml_grammar.proofs.KeyEnds.{line_fresh}

-- whether a token is a colon
abbrev is_point : Token → Bool
is_point (Point loose) = true
is_point _ = false

other_no_point : (b : ℕ) → is_point (other_token b) ≡ false
other_no_point b = by_tests (nat_eq b 38 || nat_eq b 42) (nat_eq b 37) (nat_eq b 35 || nat_eq b 13) where
  by_tests : (p q r : Bool) → is_point (cond p Anchor (cond q Percent (cond r Stray Other))) ≡ false
  by_tests true q r = refl
  by_tests false true r = refl
  by_tests false false true = refl
  by_tests false false false = refl

tag_no_point : (flow : Bool) (bs : List ℕ) → is_point (tag_token flow bs) ≡ false
tag_no_point flow bs = by_tests (begins_letter bs && ends_tag flow (drop (lead is_name bs) bs)) where
  by_tests : (p : Bool) → is_point (cond p (Tag (lead is_name bs)) NoTag) ≡ false
  by_tests true = refl
  by_tests false = refl

-- outside of flow it is the byte `:`
point_byte : (b : ℕ) (bs : List ℕ) → is_point (token_of false (b ∷ bs)) ≡ true → b ≡ 58
point_byte b bs h = by_opens (nat_eq b 91) (nat_eq b 123) h where
  by_block : (p q r : Bool) → nat_eq b 58 ≡ q → is_point (cond p Dash (cond (q && is_end bs) (Point true) (cond r (tag_token false bs) (other_token b)))) ≡ true → b ≡ 58
  by_block true q r e g = absurd (true≢false (sym g))
  by_block false true r e g = grind (arith, nat_tests, e)
  by_block false false true e g = absurd (true≢false (sym g ∙ tag_no_point false bs))
  by_block false false false e g = absurd (true≢false (sym g ∙ other_no_point b))

  by_opens : (p q : Bool) → is_point (cond p (Opens false) (cond q (Opens true) (block_token b bs))) ≡ true → b ≡ 58
  by_opens true q g = absurd (true≢false (sym g))
  by_opens false true g = absurd (true≢false (sym g))
  by_opens false false g = by_block (nat_eq b 45 && is_end bs) (nat_eq b 58) (nat_eq b 33) refl g

point_shown : (xs : List ℕ) → is_point (token_of false xs) ≡ true → (token_shown xs ≡ 1) × (begins_with 35 xs ≡ false)
point_shown [] h = absurd (true≢false (sym h))
point_shown (b ∷ bs) h = let e : b ≡ 58 = point_byte b bs h in (ap (λ c. token_shown (c ∷ bs)) e, ap (λ c. nat_eq c 35) e)

point_len : (t : Token) → is_point t ≡ true → token_len t ≡ 1
point_len (Point loose) h = refl
point_len End h = absurd (true≢false (sym h))
point_len Dashes h = absurd (true≢false (sym h))
point_len Dots h = absurd (true≢false (sym h))
point_len Dash h = absurd (true≢false (sym h))
point_len (Tag n) h = absurd (true≢false (sym h))
point_len NoTag h = absurd (true≢false (sym h))
point_len (Opens q) h = absurd (true≢false (sym h))
point_len (Closes q) h = absurd (true≢false (sym h))
point_len Comma h = absurd (true≢false (sym h))
point_len Anchor h = absurd (true≢false (sym h))
point_len Percent h = absurd (true≢false (sym h))
point_len Tabbed h = absurd (true≢false (sym h))
point_len Stray h = absurd (true≢false (sym h))
point_len Other h = absurd (true≢false (sym h))

content_point : (bytes : List ℕ) → is_point (token_of false (past_white bytes)) ≡ true → content_shown false bytes ≡ lead is_white bytes + 1
content_point bytes h =
    let p = point_shown (past_white bytes) h in
    ap (λ q. cond (nat_lt 0 (lead is_white bytes) && q) (first_return bytes) (lead is_white bytes + token_shown (past_white bytes))) p.1 ∙ by_white (nat_lt 0 (lead is_white bytes)) ∙ ap (λ n. lead is_white bytes + n) p.0 where
      by_white : (q : Bool) → cond (q && false) (first_return bytes) (lead is_white bytes + token_shown (past_white bytes)) ≡ lead is_white bytes + token_shown (past_white bytes)
      by_white true = refl
      by_white false = refl

rest_point : (size : ℕ) (ls : List Line) → is_point (rest_ahead false size ls).token ≡ true → (rest_ahead false size ls).fresh ≡ false → (rest_ahead false size ls).behind ≤ rest_seen size ls
rest_point size [] h f = absurd (true≢false (sym h))
rest_point size (l ∷ ls) h f = by_passed (is_passed false l.bytes) h f where
  by_passed : (q : Bool) → is_point (cond q (line_ahead false size ls) (token_at (token_of false (past_white l.bytes)) false (lead is_white l.bytes) (l.at + lead is_white l.bytes))).token ≡ true
      → (cond q (line_ahead false size ls) (token_at (token_of false (past_white l.bytes)) false (lead is_white l.bytes) (l.at + lead is_white l.bytes))).fresh ≡ false
      → (cond q (line_ahead false size ls) (token_at (token_of false (past_white l.bytes)) false (lead is_white l.bytes) (l.at + lead is_white l.bytes))).behind ≤ cond q (line_seen size ls) (l.at + content_shown false l.bytes)
  by_passed true g k = absurd (true≢false (sym (line_fresh false size ls) ∙ k))
  by_passed false g k = let c = content_point l.bytes g in let n = point_len (token_of false (past_white l.bytes)) g in omega (arith, c, n)

pub point_seen : (text : List ℕ) (i : ℕ) (loose : Bool) → (ahead text false i).token ≡ Point loose → (ahead text false i).fresh ≡ false → (ahead text false i).behind ≤ ahead_seen text i
point_seen text i loose e f = by_column (is_first_column text i) (ap is_point e) f where
  by_column : (q : Bool) → is_point (cond q (line_ahead false (length text) (lines i (drop i text))) (rest_ahead false (length text) (lines i (drop i text)))).token ≡ true
      → (cond q (line_ahead false (length text) (lines i (drop i text))) (rest_ahead false (length text) (lines i (drop i text)))).fresh ≡ false
      → (cond q (line_ahead false (length text) (lines i (drop i text))) (rest_ahead false (length text) (lines i (drop i text)))).behind ≤ cond q (line_seen (length text) (lines i (drop i text))) (rest_seen (length text) (lines i (drop i text)))
  by_column true g k = absurd (true≢false (sym (line_fresh false (length text) (lines i (drop i text))) ∙ k))
  by_column false g k = rest_point (length text) (lines i (drop i text)) g k
