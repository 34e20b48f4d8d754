-- What a place in flow has ahead, where that is neither the text's end nor a mark, is the same where the last line goes on with a closing bracket. By induction over lines.
use Rattle.std.proofs.Common.{◌≡◌, ℕ, suc, ◌+◌, ◌<◌, ◌≤◌, Bool, true, false, ◌||◌, ◌&&◌, not, cond, nat_eq, nat_lt, arith, List, [], ◌∷◌, ◌++◌, drop, length, refl, sym, ap, ◌∙◌, subst, true≢false, length-drop}
use Rattle.std.proofs.lemmas.Bool.Decides.{nat_tests}
use Rattle.yaml_scalars.specs.Lines.{Line, lines, begins_with, is_white, is_blank, lead, past_white, is_mark}
use Rattle.yaml_scalars.specs.Plain.{is_flow_mark, is_unsafe}
use Rattle.yaml_scalars.specs.Scalar.{is_first_column}
use Rattle.yaml_scalars.specs.code.Walk.{line_at, has_break, behind}
use Rattle.yaml_scalars.proofs.Places.{lines_are, lead_le}
use Rattle.yaml_laws.proofs.Agree.{drop_before}
use Rattle.yaml_laws.proofs.BlockShown.{blank_less}
use Rattle.yaml_laws.proofs.Longer.{glue, rest_of, no_feed, lines_more}
use Rattle.yaml_laws.proofs.PlainClosed.{unsafe_more, mark_more}
use Rattle.yaml_laws.proofs.QuotedLaw.{lead_some}
use Rattle.yaml_laws.proofs.ScalarFollowed.{feed_none}
use Rattle.yaml_laws.proofs.ScalarLaw.{column_longer}
use Rattle.yaml_grammar.proofs.ScalarFails.{not_blank}
use Rattle.yaml_grammar.specs.code.Closers.{is_closer, IsFirm}
use Rattle.yaml_grammar.specs.declared.ahead.Token.TheVariants.{Dashes, Dots, Tag, NoTag, Opens, Closes, Comma, Point}
use Rattle.yaml_grammar.specs.Ahead.{is_letter, is_name, begins_letter, ends_tag, tag_token, other_token, token_of, token_at, mark_of, has_return, is_passed, content_ahead, line_ahead, rest_ahead, ahead}

mark_soft : (xs : List ℕ) → IsFirm (mark_of xs) → ⊥
mark_soft xs h = by_dash (begins_with 45 xs) h where
  by_dash : (q : Bool) → IsFirm (cond q Dashes Dots) → ⊥
  by_dash true h = h
  by_dash false h = h

pub returns_more : (xs y : List ℕ) → has_return xs ≡ true → has_return (xs ++ y) ≡ true
returns_more [] y h = absurd (true≢false (sym h))
returns_more (b ∷ xs) y h = by_byte (nat_eq b 13) h (λ g. returns_more xs y g) where
  by_byte : (q : Bool) → (q || has_return xs) ≡ true → (has_return xs ≡ true → has_return (xs ++ y) ≡ true) → (q || has_return (xs ++ y)) ≡ true
  by_byte true h r = refl
  by_byte false h r = r h

pub lead_stop : (p : ℕ → Bool) (c : ℕ) (y : List ℕ) (xs : List ℕ) → p c ≡ false → lead p (xs ++ (c ∷ y)) ≡ lead p xs
lead_stop p c y [] h = ap (λ q. cond q (suc (lead p y)) 0) h
lead_stop p c y (b ∷ xs) h = ap (λ n. cond (p b) (suc n) 0) (lead_stop p c y xs h)

pub begins_more : (k : ℕ) (xs y : List ℕ) → 0 < length xs → begins_with k (xs ++ y) ≡ begins_with k xs
begins_more k [] y l = absurd (omega (arith, l))
begins_more k (b ∷ xs) y l = refl

module _ (c : ℕ) (tail : List ℕ) (closes : is_closer c ≡ true) where
  flow_mark : is_flow_mark c ≡ true
  flow_mark = grind (arith, nat_tests, closes)

  no_letter : is_letter c ≡ false
  no_letter = grind (arith, nat_tests, closes)

  no_name : is_name c ≡ false
  no_name = grind (arith, nat_tests, closes)

  -- ---- a token

  letter_more : (bs : List ℕ) → begins_letter (bs ++ (c ∷ tail)) ≡ begins_letter bs
  letter_more [] = no_letter
  letter_more (b ∷ bs) = refl

  ends_more : (bs : List ℕ) → ends_tag true (bs ++ (c ∷ tail)) ≡ ends_tag true bs
  ends_more [] = by_tests (is_white c) (nat_eq c 44) (nat_eq c 93 || nat_eq c 125) closes where
    by_tests : (p q r : Bool) → r ≡ true → (p || (q || r)) ≡ true
    by_tests true q r e = refl
    by_tests false true r e = refl
    by_tests false false r e = e
  ends_more (b ∷ bs) = refl

  tag_more : (bs : List ℕ) → tag_token true (bs ++ (c ∷ tail)) ≡ tag_token true bs
  tag_more bs =
      ap (λ k. cond (begins_letter (bs ++ (c ∷ tail)) && ends_tag true (drop k (bs ++ (c ∷ tail)))) (Tag k) NoTag) (lead_stop is_name c tail bs no_name)
      ∙ ap (λ q. cond (q && ends_tag true (drop (lead is_name bs) (bs ++ (c ∷ tail)))) (Tag (lead is_name bs)) NoTag) (letter_more bs)
      ∙ ap (λ q. cond (begins_letter bs && q) (Tag (lead is_name bs)) NoTag) (ap (ends_tag true) (drop_before (lead is_name bs) bs (c ∷ tail) (lead_le is_name bs)) ∙ ends_more (drop (lead is_name bs) bs))

  token_more : (b : ℕ) (bs : List ℕ) → token_of true (b ∷ (bs ++ (c ∷ tail))) ≡ token_of true (b ∷ bs)
  token_more b bs =
      ap (λ q. cond (nat_eq b 91) (Opens false) (cond (nat_eq b 123) (Opens true) (cond (nat_eq b 93) (Closes false) (cond (nat_eq b 125) (Closes true) (cond (nat_eq b 44) Comma (cond (nat_eq b 58) (Point q) (cond (nat_eq b 33) (tag_token true (bs ++ (c ∷ tail))) (other_token b)))))))) (unsafe_more c tail flow_mark bs)
      ∙ ap (λ t. cond (nat_eq b 91) (Opens false) (cond (nat_eq b 123) (Opens true) (cond (nat_eq b 93) (Closes false) (cond (nat_eq b 125) (Closes true) (cond (nat_eq b 44) Comma (cond (nat_eq b 58) (Point (is_unsafe true bs)) (cond (nat_eq b 33) t (other_token b)))))))) (tag_more bs)

  tokens_more : (xs : List ℕ) → 0 < length xs → token_of true (xs ++ (c ∷ tail)) ≡ token_of true xs
  tokens_more [] l = absurd (omega (arith, l))
  tokens_more (b ∷ bs) l = token_more b bs

  -- ---- the last line, where it is not passed over

  module _ (xs : List ℕ) (full : is_blank xs ≡ false) where
    white : lead is_white (xs ++ (c ∷ tail)) ≡ lead is_white xs
    white = (lead_some xs (c ∷ tail) full).0

    rest : past_white (xs ++ (c ∷ tail)) ≡ past_white xs ++ (c ∷ tail)
    rest = ap (λ n. drop n (xs ++ (c ∷ tail))) white ∙ drop_before (lead is_white xs) xs (c ∷ tail) (lead_le is_white xs)

    some : 0 < length (past_white xs)
    some = let l = blank_less xs full in omega (arith, l, length-drop (lead is_white xs) xs)

    same_token : token_of true (past_white (xs ++ (c ∷ tail))) ≡ token_of true (past_white xs)
    same_token = ap (token_of true) rest ∙ tokens_more (past_white xs) some

    kept : (fresh : Bool) → is_passed fresh xs ≡ false → is_passed fresh (xs ++ (c ∷ tail)) ≡ false
    kept fresh h =
        ap (λ q. q || ((fresh || nat_lt 0 (lead is_white (xs ++ (c ∷ tail)))) && (begins_with 35 (past_white (xs ++ (c ∷ tail))) && not (has_return (xs ++ (c ∷ tail)))))) (lead_some xs (c ∷ tail) full).2
        ∙ ap (λ n. (fresh || nat_lt 0 n) && (begins_with 35 (past_white (xs ++ (c ∷ tail))) && not (has_return (xs ++ (c ∷ tail))))) white
        ∙ ap (λ q. (fresh || nat_lt 0 (lead is_white xs)) && (q && not (has_return (xs ++ (c ∷ tail))))) (ap (begins_with 35) rest ∙ begins_more 35 (past_white xs) (c ∷ tail) some)
        ∙ by_tests (is_blank xs) (fresh || nat_lt 0 (lead is_white xs)) (begins_with 35 (past_white xs)) (has_return xs) (has_return (xs ++ (c ∷ tail))) full (λ e. returns_more xs (c ∷ tail) e) h where
          by_tests : (p q r s t : Bool) → p ≡ false → (s ≡ true → t ≡ true) → (p || (q && (r && not s))) ≡ false → (q && (r && not t)) ≡ false
          by_tests true q r s t e f h = absurd (true≢false e)
          by_tests false true true true t e f h = ap not (f refl)
          by_tests false true true false t e f h = absurd (true≢false h)
          by_tests false true false s t e f h = refl
          by_tests false false r s t e f h = refl

    content_same : (at : ℕ) → content_ahead true at (xs ++ (c ∷ tail)) ≡ content_ahead true at xs
    content_same at = ap (λ n. token_at (token_of true (past_white (xs ++ (c ∷ tail)))) true n (at + n)) white ∙ ap (λ t. token_at t true (lead is_white xs) (at + lead is_white xs)) same_token

    rest_same : (at : ℕ) → token_at (token_of true (past_white (xs ++ (c ∷ tail)))) false (lead is_white (xs ++ (c ∷ tail))) (at + lead is_white (xs ++ (c ∷ tail))) ≡ token_at (token_of true (past_white xs)) false (lead is_white xs) (at + lead is_white xs)
    rest_same at = ap (λ n. token_at (token_of true (past_white (xs ++ (c ∷ tail)))) false n (at + n)) white ∙ ap (λ t. token_at t false (lead is_white xs) (at + lead is_white xs)) same_token

  -- ---- lines

  module _ (size most place : ℕ) where
    line_closed : (ls : List Line) → IsFirm (line_ahead true size ls).token → line_ahead true most (glue ls (rest_of place (c ∷ tail) ∷ [])) ≡ line_ahead true size ls
    line_closed [] h = absurd h
    line_closed (l ∷ []) h = by_tests (is_mark l.bytes) (is_passed true l.bytes) refl refl h where
      by_tests : (q r : Bool) → is_mark l.bytes ≡ q → is_passed true l.bytes ≡ r → IsFirm (cond q (token_at (mark_of l.bytes) true 0 l.at) (cond r (line_ahead true size []) (content_ahead true l.at l.bytes))).token
          → cond (is_mark (l.bytes ++ (c ∷ tail))) (token_at (mark_of (l.bytes ++ (c ∷ tail))) true 0 l.at) (cond (is_passed true (l.bytes ++ (c ∷ tail))) (line_ahead true most []) (content_ahead true l.at (l.bytes ++ (c ∷ tail))))
          ≡ cond q (token_at (mark_of l.bytes) true 0 l.at) (cond r (line_ahead true size []) (content_ahead true l.at l.bytes))
      by_tests true r i j h = absurd (mark_soft l.bytes h)
      by_tests false true i j h = absurd h
      by_tests false false i j h =
          let full = not_blank true l.bytes j in
          ap (λ q. cond q (token_at (mark_of (l.bytes ++ (c ∷ tail))) true 0 l.at) (cond (is_passed true (l.bytes ++ (c ∷ tail))) (line_ahead true most []) (content_ahead true l.at (l.bytes ++ (c ∷ tail))))) (mark_more c tail flow_mark l.bytes i)
          ∙ ap (λ q. cond q (line_ahead true most []) (content_ahead true l.at (l.bytes ++ (c ∷ tail)))) (kept l.bytes full true j) ∙ content_same l.bytes full l.at
    line_closed (l ∷ m ∷ ls) h = by_tests (is_mark l.bytes) (is_passed true l.bytes) h (λ g. line_closed (m ∷ ls) g) where
      by_tests : (q r : Bool) → IsFirm (cond q (token_at (mark_of l.bytes) true 0 l.at) (cond r (line_ahead true size (m ∷ ls)) (content_ahead true l.at l.bytes))).token
          → (IsFirm (line_ahead true size (m ∷ ls)).token → line_ahead true most (glue (m ∷ ls) (rest_of place (c ∷ tail) ∷ [])) ≡ line_ahead true size (m ∷ ls))
          → cond q (token_at (mark_of l.bytes) true 0 l.at) (cond r (line_ahead true most (glue (m ∷ ls) (rest_of place (c ∷ tail) ∷ []))) (content_ahead true l.at l.bytes)) ≡ cond q (token_at (mark_of l.bytes) true 0 l.at) (cond r (line_ahead true size (m ∷ ls)) (content_ahead true l.at l.bytes))
      by_tests true r h f = refl
      by_tests false true h f = f h
      by_tests false false h f = refl

    rest_closed : (l : Line) (ls : List Line) → IsFirm (rest_ahead true size (l ∷ ls)).token → rest_ahead true most (glue (l ∷ ls) (rest_of place (c ∷ tail) ∷ [])) ≡ rest_ahead true size (l ∷ ls)
    rest_closed l [] h = by_test (is_passed false l.bytes) refl h where
      by_test : (r : Bool) → is_passed false l.bytes ≡ r → IsFirm (cond r (line_ahead true size []) (token_at (token_of true (past_white l.bytes)) false (lead is_white l.bytes) (l.at + lead is_white l.bytes))).token
          → cond (is_passed false (l.bytes ++ (c ∷ tail))) (line_ahead true most []) (token_at (token_of true (past_white (l.bytes ++ (c ∷ tail)))) false (lead is_white (l.bytes ++ (c ∷ tail))) (l.at + lead is_white (l.bytes ++ (c ∷ tail))))
          ≡ cond r (line_ahead true size []) (token_at (token_of true (past_white l.bytes)) false (lead is_white l.bytes) (l.at + lead is_white l.bytes))
      by_test true j h = absurd h
      by_test false j h =
          let full = not_blank false l.bytes j in
          ap (λ q. cond q (line_ahead true most []) (token_at (token_of true (past_white (l.bytes ++ (c ∷ tail)))) false (lead is_white (l.bytes ++ (c ∷ tail))) (l.at + lead is_white (l.bytes ++ (c ∷ tail))))) (kept l.bytes full false j) ∙ rest_same l.bytes full l.at
    rest_closed l (m ∷ ls) h = by_test (is_passed false l.bytes) h where
      by_test : (r : Bool) → IsFirm (cond r (line_ahead true size (m ∷ ls)) (token_at (token_of true (past_white l.bytes)) false (lead is_white l.bytes) (l.at + lead is_white l.bytes))).token
          → cond r (line_ahead true most (glue (m ∷ ls) (rest_of place (c ∷ tail) ∷ []))) (token_at (token_of true (past_white l.bytes)) false (lead is_white l.bytes) (l.at + lead is_white l.bytes)) ≡ cond r (line_ahead true size (m ∷ ls)) (token_at (token_of true (past_white l.bytes)) false (lead is_white l.bytes) (l.at + lead is_white l.bytes))
      by_test true h = line_closed (m ∷ ls) h
      by_test false h = refl

  -- a text and a longer one
  pub ahead_closed : (text : List ℕ) (i : ℕ) → i ≤ length text → has_break tail ≡ false → IsFirm (ahead text true i).token → ahead (text ++ (c ∷ tail)) true i ≡ ahead text true i
  ahead_closed text i low one h =
      let xs = drop i text in
      let feed : no_feed (c ∷ tail) ≡ true = (let z : nat_eq c 10 ≡ false = grind (arith, nat_tests, closes) in ap (λ q. cond q false (no_feed tail)) z ∙ feed_none tail one) in
      let l : Line = record { at = i; bytes = line_at xs; broken = has_break xs } in
      let is = lines_are i xs in
      let longer : lines i (drop i (text ++ (c ∷ tail))) ≡ glue (l ∷ behind i xs) (rest_of (i + length xs) (c ∷ tail) ∷ []) = ap (lines i) (drop_before i text (c ∷ tail) low) ∙ lines_more i xs (c ∷ tail) feed ∙ ap (λ ls. glue ls (rest_of (i + length xs) (c ∷ tail) ∷ [])) is in
      ap (λ q. cond q (line_ahead true (length (text ++ (c ∷ tail))) (lines i (drop i (text ++ (c ∷ tail))))) (rest_ahead true (length (text ++ (c ∷ tail))) (lines i (drop i (text ++ (c ∷ tail)))))) (column_longer text (c ∷ tail) i low)
      ∙ by_column (is_first_column text i) l (behind i xs) (i + length xs) is longer h where
        by_column : (q : Bool) (l : Line) (ks : List Line) (place : ℕ) → lines i (drop i text) ≡ l ∷ ks → lines i (drop i (text ++ (c ∷ tail))) ≡ glue (l ∷ ks) (rest_of place (c ∷ tail) ∷ [])
            → IsFirm (cond q (line_ahead true (length text) (lines i (drop i text))) (rest_ahead true (length text) (lines i (drop i text)))).token
            → cond q (line_ahead true (length (text ++ (c ∷ tail))) (lines i (drop i (text ++ (c ∷ tail))))) (rest_ahead true (length (text ++ (c ∷ tail))) (lines i (drop i (text ++ (c ∷ tail))))) ≡ cond q (line_ahead true (length text) (lines i (drop i text))) (rest_ahead true (length text) (lines i (drop i text)))
        by_column true l ks place is longer h =
            ap (line_ahead true (length (text ++ (c ∷ tail)))) longer ∙ line_closed (length text) (length (text ++ (c ∷ tail))) place (l ∷ ks) (subst (λ ls. IsFirm (line_ahead true (length text) ls).token) is h) ∙ sym (ap (line_ahead true (length text)) is)
        by_column false l ks place is longer h =
            ap (rest_ahead true (length (text ++ (c ∷ tail)))) longer ∙ rest_closed (length text) (length (text ++ (c ∷ tail))) place l ks (subst (λ ls. IsFirm (rest_ahead true (length text) ls).token) is h) ∙ sym (ap (rest_ahead true (length text)) is)
