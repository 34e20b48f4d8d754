-- What ends a plain scalar between brackets is told by the first byte behind it that is no white space and in no break: a colon, with the next byte, or another one by itself; or a line `---` or `...` stands there. By induction over lines.
use Rattle.std.proofs.Common.{◌≡◌, ℕ, suc, ◌+◌, ◌-◌, ◌≤◌, ◌⊎◌, inl, inr, Bool, true, false, ◌||◌, ◌&&◌, cond, nat_eq, arith, List, [], ◌∷◌, ◌++◌, drop, length, refl, sym, ap, ◌∙◌, subst, length-append, length-drop}
use Rattle.std.proofs.lemmas.Bool.Decides.{nat_tests}
use Rattle.std.proofs.lemmas.List.{drop-drop}
use Rattle.std.specs.Prelude.{ℤ}
use Rattle.yaml_scalars.specs.declared.scalar.Setting.{Setting}
use Rattle.yaml_scalars.specs.declared.plain_line.Why.{Why}
use Rattle.yaml_scalars.specs.declared.plain_line.Why.TheVariants.{Break, Return, Colon, Comment, Mark}
use Rattle.yaml_scalars.specs.declared.plain_line.Below.{Below}
use Rattle.yaml_scalars.specs.declared.plain_line.Below.TheVariants.{Blank, Outside, Further}
use Rattle.yaml_scalars.specs.Lines.{Line, Stands, lines, put, begun, begins_with, is_white, is_blank, lead, past_white, is_mark}
use Rattle.yaml_scalars.specs.Plain.{plain_len, content, content_end, why, reason, below, joined, joins, further, first, more, plain_on}
use Rattle.yaml_scalars.specs.Scalar.{is_first_column, plain_scalar}
use Rattle.yaml_scalars.specs.code.Walk.{line_at, has_break, behind}
use Rattle.yaml_scalars.proofs.Places.{lines_are, lead_le}
use Rattle.yaml_scalars.proofs.FurtherLines.{skip_le, plain_le}
use Rattle.yaml_laws.specs.code.Agreement.{out_shown, shown_by, part_shown, line_shown, more_shown, plain_shown}
use Rattle.yaml_laws.proofs.Agree.{Within, lines_within}
use Rattle.yaml_laws.proofs.BlockLaw.{fails_not}
use Rattle.yaml_laws.proofs.BlockShown.{blank_not}
use Rattle.yaml_laws.proofs.PlainLines.{further_parts}
use Rattle.yaml_laws.proofs.PlainStays.{opens_stands}
use Rattle.yaml_laws.proofs.QuotedLaw.{lead_whole}
use Rattle.yaml_grammar.specs.declared.ahead.Ahead.{Ahead}
use Rattle.yaml_grammar.specs.declared.ahead.Token.TheVariants.{Dashes, Dots}
use Rattle.yaml_grammar.specs.Ahead.{is_passed, mark_of, token_at, token_of, content_ahead, line_ahead, rest_ahead, ahead}
use Rattle.yaml_grammar.specs.Nodes.{is_marked}
use Rattle.yaml_grammar.specs.code.Points.{gap}
use Rattle.yaml_grammar.proofs.LineTails.{Tails, IsTail, tail_is, tails_of, inner_line}
use Rattle.yaml_grammar.proofs.PlainOrder.{mark_lead, stop_black, Behind, behind_content}
use Rattle.yaml_grammar.proofs.PlainOut.{later_at, blank_passed, from_lines, same_place, line_over, flow_setting, below_blank, below_outside, bytes, end_is, bytes_are, inner, at_break}

-- ---- the first byte that is no white space, over lines

abbrev pub content_from : ℕ → List Line → ℕ
content_from size [] = size
content_from size (l ∷ ls) = cond (is_blank l.bytes) (content_from size ls) (l.at + lead is_white l.bytes)

-- a byte in front of the first line
put_from : (size at b : ℕ) (l : Line) (ls : List Line) → l.at ≡ suc at → content_from size (put at b (l ∷ ls)) ≡ cond (is_white b) (content_from size (l ∷ ls)) at
put_from size at b l ls e = by_white (is_white b) where
  by_blank : (r : Bool) → cond r (content_from size ls) (at + suc (lead is_white l.bytes)) ≡ cond r (content_from size ls) (l.at + lead is_white l.bytes)
  by_blank true = refl
  by_blank false = omega (arith, e)

  by_white : (q : Bool) → cond (cond q (is_blank l.bytes) false) (content_from size ls) (at + cond q (suc (lead is_white l.bytes)) 0) ≡ cond q (cond (is_blank l.bytes) (content_from size ls) (l.at + lead is_white l.bytes)) at
  by_white true = by_blank (is_blank l.bytes)
  by_white false = omega arith

gap_step : (at b : ℕ) (xs : List ℕ) → suc at + gap xs ≡ content_from (suc at + length xs) (lines (suc at) xs) → at + gap (b ∷ xs) ≡ content_from (at + suc (length xs)) (lines at (b ∷ xs))
gap_step at b xs rest = by_feed (nat_eq b 10) refl where
  size : ℕ
  size = at + suc (length xs)

  further : suc at + gap xs ≡ content_from (at + suc (length xs)) (lines (suc at) xs)
  further = rest ∙ (let n : suc at + length xs ≡ at + suc (length xs) = omega arith in ap (λ k. content_from k (lines (suc at) xs)) n)

  first_line : Line
  first_line = record { at = suc at; bytes = line_at xs; broken = has_break xs }

  -- a line feed ahead makes an empty line
  none_at : (xs : List ℕ) → begins_with 10 xs ≡ true → line_at xs ≡ []
  none_at [] h = refl
  none_at (x ∷ xs) h = ap (λ q. cond (q || (nat_eq x 13 && begins_with 10 xs)) [] (x ∷ line_at xs)) h

  begun_from : begins_with 10 xs ≡ true → content_from size (begun at (lines (suc at) xs)) ≡ content_from size (lines (suc at) xs)
  begun_from h =
      let blank : is_blank (line_at xs) ≡ true = ap is_blank (none_at xs h) in
      subst (λ ls. content_from size (begun at ls) ≡ content_from size ls) (sym (lines_are (suc at) xs))
      (ap (λ q. cond q (content_from size (behind (suc at) xs)) (at + lead is_white (line_at xs))) blank ∙ sym (ap (λ q. cond q (content_from size (behind (suc at) xs)) (suc at + lead is_white (line_at xs))) blank))

  white_not : nat_eq b 10 ≡ true → is_white b ≡ false
  white_not h = grind (arith, nat_tests, h)

  return_not : nat_eq b 13 ≡ true → is_white b ≡ false
  return_not h = grind (arith, nat_tests, h)

  puts : content_from size (put at b (lines (suc at) xs)) ≡ cond (is_white b) (content_from size (lines (suc at) xs)) at
  puts = subst (λ ls. content_from size (put at b ls) ≡ cond (is_white b) (content_from size ls) at) (sym (lines_are (suc at) xs)) (put_from size at b first_line (behind (suc at) xs) refl)

  white_gap : (w : Bool) → at + cond (w || false) (suc (gap xs)) 0 ≡ cond w (content_from size (lines (suc at) xs)) at
  white_gap true = let f = further in omega (arith, f)
  white_gap false = omega arith

  by_return : (q s : Bool) → nat_eq b 13 ≡ q → begins_with 10 xs ≡ s → at + cond (is_white b || (q && s)) (suc (gap xs)) 0 ≡ content_from size (cond (q && s) (begun at (lines (suc at) xs)) (put at b (lines (suc at) xs)))
  by_return true true i j = ap (λ w. at + cond (w || true) (suc (gap xs)) 0) (return_not i) ∙ (let f = further in let z : at + suc (gap xs) ≡ content_from size (lines (suc at) xs) = omega (arith, f) in z) ∙ sym (begun_from j)
  by_return true false i j = white_gap (is_white b) ∙ sym puts
  by_return false s i j = white_gap (is_white b) ∙ sym puts

  by_feed : (p : Bool) → nat_eq b 10 ≡ p → at + cond (is_white b || (p || (nat_eq b 13 && begins_with 10 xs))) (suc (gap xs)) 0 ≡ content_from size (cond p (record { at = at; bytes = []; broken = true } ∷ lines (suc at) xs) (cond (nat_eq b 13 && begins_with 10 xs) (begun at (lines (suc at) xs)) (put at b (lines (suc at) xs))))
  by_feed true i = ap (λ w. at + cond (w || true) (suc (gap xs)) 0) (white_not i) ∙ (let f = further in let z : at + suc (gap xs) ≡ content_from size (lines (suc at) xs) = omega (arith, f) in z)
  by_feed false i = by_return (nat_eq b 13) (begins_with 10 xs) refl refl

pub gap_lines : (at : ℕ) (xs : List ℕ) → at + gap xs ≡ content_from (at + length xs) (lines at xs)
gap_lines at [] = refl
gap_lines at (b ∷ xs) = gap_step at b xs (gap_lines (suc at) xs)

-- behind a place of a text
abbrev pub found_at : List ℕ → ℕ → ℕ
found_at text i = content_from (length text) (lines i (drop i text))

pub gap_place : (text : List ℕ) (i : ℕ) → i ≤ length text → i + gap (drop i text) ≡ found_at text i
gap_place text i low = gap_lines i (drop i text) ∙ (let n : i + length (drop i text) ≡ length text = omega (arith, low, length-drop i text) in ap (λ k. content_from k (lines i (drop i text))) n)

-- ---- what it tells, and where the end of the scalar is shown

abbrev pub Told : List ℕ → Ahead → ℕ → ℕ → Type 0
Told text a g x = ((begins_with 58 (drop g text) ≡ true) × (x ≡ suc g)) ⊎ ((is_marked a.token ≡ true) ⊎ ((begins_with 58 (drop g text) ≡ false) × (x ≡ g)))

-- the bytes of a line are those of the text
first_of : (k c : ℕ) (z ys : List ℕ) → line_at ys ≡ c ∷ z → begins_with k ys ≡ nat_eq c k
first_of k c z [] e = absurd (cc)
first_of k c z (y ∷ ys) e = by_break (nat_eq y 10 || (nat_eq y 13 && begins_with 10 ys)) e where
  by_break : (q : Bool) → cond q [] (y ∷ line_at ys) ≡ c ∷ z → nat_eq y k ≡ nat_eq c k
  by_break true h = absurd (cc)
  by_break false h = let n : y ≡ c = cc in ap (λ d. nat_eq d k) n

bytes_of : (a b : Line) (ls ms : List Line) → a ∷ ls ≡ b ∷ ms → a.bytes ≡ b.bytes
bytes_of a b ls ms h = let e : a ≡ b = cc in ap (λ (l : Line). l.bytes) e

byte_here : (text : List ℕ) (l : Line) (ls : List Line) → IsTail text l ls → (m : ℕ) → m ≤ length l.bytes → (c : ℕ) (z : List ℕ) → drop m l.bytes ≡ c ∷ z → (k : ℕ) → begins_with k (drop (l.at + m) text) ≡ nat_eq c k
byte_here text l ls is m low c z e k =
    let r = inner_line text l ls is m low in
    let p = l.at + m in
    let ys = drop (l.at + m) text in
    first_of k c z (drop (l.at + m) text) (bytes_of (record { at = p; bytes = line_at ys; broken = has_break ys }) (record { at = p; bytes = drop m l.bytes; broken = r.0 }) (behind p ys) ls (sym (lines_are p ys) ∙ r.1) ∙ e)

why_cases : (c : ℕ) (z : List ℕ) → ((c ≡ 58) × (why (c ∷ z) ≡ Colon)) ⊎ ((nat_eq c 58 ≡ false) × (why (c ∷ z) ≡ Colon → ⊥) × (why (c ∷ z) ≡ Break → ⊥))
why_cases c z = by_tests (nat_eq c 13) (nat_eq c 58) (nat_eq c 35) refl refl where
  by_tests : (p q r : Bool) → nat_eq c 13 ≡ p → nat_eq c 58 ≡ q → ((c ≡ 58) × (cond p Return (cond q Colon (cond r Comment Mark)) ≡ Colon)) ⊎ ((q ≡ false) × (cond p Return (cond q Colon (cond r Comment Mark)) ≡ Colon → ⊥) × (cond p Return (cond q Colon (cond r Comment Mark)) ≡ Break → ⊥))
  by_tests true true r i j = absurd (grind (arith, nat_tests, i, j))
  by_tests true false r i j = inr (refl, (λ h. absurd (cc)), (λ h. absurd (cc)))
  by_tests false true r i j = inl (grind (arith, nat_tests, j), refl)
  by_tests false false true i j = inr (refl, (λ h. absurd (cc)), (λ h. absurd (cc)))
  by_tests false false false i j = inr (refl, (λ h. absurd (cc)), (λ h. absurd (cc)))

-- a byte at which it ends
told_by : (text : List ℕ) (a : Ahead) (p c : ℕ) (z : List ℕ) (v : Why) → begins_with 58 (drop p text) ≡ nat_eq c 58 → why (c ∷ z) ≡ v → (g : ℕ) → g ≡ p → Told text a g (shown_by v p)
told_by text a p c z v byte k g e = subst (λ n. Told text a n (shown_by v p)) (sym e) (by_case (why_cases c z)) where
  other : (v : Why) → (v ≡ Colon → ⊥) → shown_by v p ≡ p
  other Break n = refl
  other Return n = refl
  other Colon n = absurd (n refl)
  other Comment n = refl
  other Mark n = refl

  by_case : ((c ≡ 58) × (why (c ∷ z) ≡ Colon)) ⊎ ((nat_eq c 58 ≡ false) × (why (c ∷ z) ≡ Colon → ⊥) × (why (c ∷ z) ≡ Break → ⊥)) → Told text a p (shown_by v p)
  by_case (inl (n, w)) = inl (byte ∙ ap (λ d. nat_eq d 58) n, ap (λ y. shown_by y p) (sym k ∙ w))
  by_case (inr (n, w, b)) = inr (inr (byte ∙ n, other v (λ h. w (k ∙ h))))

-- ---- a part of a line of the text

module _ (text : List ℕ) (l : Line) (ls : List Line) (is : IsTail text l ls) (n : ℕ) (low : n ≤ length l.bytes) where
  abbrev last : ℕ
  last = content_end true (drop n l.bytes) (l.at + n)

  abbrev stops : ℕ
  stops = l.at + n + plain_len true false (drop n l.bytes)

  -- the line's end ends it
  break_found : (w : List ℕ) → Behind true (drop n l.bytes) w → drop (plain_len true false (drop n l.bytes)) (drop n l.bytes) ≡ [] → found_at text last ≡ content_from (length text) ls
  break_found w h e =
      let r = inner text l ls is n low w h in
      let blank : is_blank (bytes text l ls is n low) ≡ true = ap is_blank (bytes_are text l ls is n low ∙ h.0 ∙ ap (λ t. w ++ t) e) ∙ whole w h.1 in
      let m : Line = record { at = last; bytes = bytes text l ls is n low; broken = r.0 } in
      ap (content_from (length text)) r.1 ∙ ap (λ q. cond q (content_from (length text) ls) (last + lead is_white (bytes text l ls is n low))) blank where
        whole : (w : List ℕ) → is_blank w ≡ true → is_blank (w ++ []) ≡ true
        whole [] h = refl
        whole (b ∷ w) h = by_white (is_white b) h (λ g. whole w g) where
          by_white : (q : Bool) → cond q (is_blank w) false ≡ true → (is_blank w ≡ true → is_blank (w ++ []) ≡ true) → cond q (is_blank (w ++ [])) false ≡ true
          by_white true h r = r h
          by_white false h r = h

  -- a byte ends it
  byte_found : (w : List ℕ) → Behind true (drop n l.bytes) w → (c : ℕ) (z : List ℕ) → drop (plain_len true false (drop n l.bytes)) (drop n l.bytes) ≡ c ∷ z → (found_at text last ≡ stops) × (begins_with 58 (drop stops text) ≡ nat_eq c 58)
  byte_found w h c z e =
      let r = inner text l ls is n low w h in
      let xs = bytes text l ls is n low in
      let m = plain_len true false (drop n l.bytes) in
      let parts : xs ≡ w ++ (c ∷ z) = bytes_are text l ls is n low ∙ h.0 ∙ ap (λ t. w ++ t) e in
      let whites : lead is_white xs ≡ length w = ap (lead is_white) parts ∙ lead_whole w c z h.1 (stop_black true false (drop n l.bytes) c z e) in
      let size : length xs ≡ length w + suc (length z) = ap (λ (t : List ℕ). length t) parts ∙ length-append w (c ∷ z) in
      let full : is_blank xs ≡ false = blank_not xs (omega (arith, whites, size)) in
      let k = h.2 in
      let j = end_is text l ls is n low in
      let most = plain_le true false (drop n l.bytes) in
      let sum : l.at + (n + m) ≡ l.at + n + m = omega arith in (
        ap (content_from (length text)) r.1 ∙ ap (λ q. cond q (content_from (length text) ls) (last + lead is_white xs)) full ∙ (let y : last + lead is_white xs ≡ stops = omega (arith, whites, k) in y),
        ap (λ p. begins_with 58 (drop p text)) (sym sum) ∙ byte_here text l ls is (n + m) (omega (arith, most, low, length-drop n l.bytes)) c z (sym (drop-drop m n l.bytes) ∙ e) 58,
      )

  pub part_found : (w : Why) → reason true (drop n l.bytes) ≡ w → ((w ≡ Break → ⊥) → Told text (ahead text true last) (found_at text last) (shown_by w stops)) × (w ≡ Break → (ahead text true last ≡ line_ahead true (length text) ls) × (found_at text last ≡ content_from (length text) ls))
  part_found w e = let h = behind_content true (drop n l.bytes) in by_rest h.0 h.1 (drop (plain_len true false (drop n l.bytes)) (drop n l.bytes)) refl where
    by_rest : (v : List ℕ) → Behind true (drop n l.bytes) v → (t : List ℕ) → drop (plain_len true false (drop n l.bytes)) (drop n l.bytes) ≡ t
        → ((w ≡ Break → ⊥) → Told text (ahead text true last) (found_at text last) (shown_by w stops)) × (w ≡ Break → (ahead text true last ≡ line_ahead true (length text) ls) × (found_at text last ≡ content_from (length text) ls))
    by_rest v h [] i = ((λ going. absurd (going (sym e ∙ ap why i))), (λ k. (at_break text l ls is n low v h i, break_found v h i)))
    by_rest v h (c ∷ z) i =
        let k : why (c ∷ z) ≡ w = sym (ap why i) ∙ e in
        let f = byte_found v h c z i in
        ((λ going. told_by text (ahead text true last) stops c z w f.1 k (found_at text last) f.0), (λ b. absurd (no_break (why_cases c z) (k ∙ b)))) where
          no_break : ((c ≡ 58) × (why (c ∷ z) ≡ Colon)) ⊎ ((nat_eq c 58 ≡ false) × (why (c ∷ z) ≡ Colon → ⊥) × (why (c ∷ z) ≡ Break → ⊥)) → why (c ∷ z) ≡ Break → ⊥
          no_break (inl (n, y)) b = let q : Colon ≡ Break = sym y ∙ b in cc
          no_break (inr (n, y, x)) b = x b

-- ---- the lines below

module _ (p : ℤ) where
  abbrev s : Setting
  s = flow_setting p false

  more_found : (text : List ℕ) (ls : List Line) (t : List ℕ) (e k : ℕ) (u : List ℕ) (f : ℕ) → Tails text ls → Within (length text) ls → ahead text true e ≡ line_ahead true (length text) ls → found_at text e ≡ content_from (length text) ls → more s ls t e k ≡ Stands u f
      → Told text (ahead text true f) (found_at text f) (more_shown s (length text) ls)
  more_found text [] t e k u f tails w link place h = subst (λ n. Told text (ahead text true n) (found_at text n) (length text)) (same_place t u e f h) (inr (inr (ap (λ n. begins_with 58 (drop n text)) place ∙ none text, sym place))) where
    none : (xs : List ℕ) → begins_with 58 (drop (length xs) xs) ≡ false
    none [] = refl
    none (x ∷ xs) = none xs
  more_found text (l ∷ ls) t e k u f tails w link place h = by_below (below s l.bytes) refl h (λ x y z a b c. more_found text ls x y z u f tails.1 w.1 a b c) where
    is : IsTail text l ls
    is = tail_is text l ls tails.0 w.0

    here : (x : ℕ) → Stands t e ≡ Stands u f → Told text (ahead text true e) (found_at text e) x → Told text (ahead text true f) (found_at text f) x
    here x g a = subst (λ n. Told text (ahead text true n) (found_at text n) x) (same_place t u e f g) a

    full_place : (m c : ℕ) (z : List ℕ) → lead is_white l.bytes ≡ m → drop m l.bytes ≡ c ∷ z → found_at text e ≡ l.at + m
    full_place m c z i j =
        let size : suc (length z) ≡ length l.bytes - m = sym (ap (λ (t : List ℕ). length t) j) ∙ length-drop m l.bytes in
        place ∙ ap (λ q. cond q (content_from (length text) ls) (l.at + lead is_white l.bytes)) (blank_not l.bytes (omega (arith, size, i))) ∙ ap (λ n. l.at + n) i

    some_le : (m c : ℕ) (z : List ℕ) → drop m l.bytes ≡ c ∷ z → m ≤ length l.bytes
    some_le m c z j = let size : suc (length z) ≡ length l.bytes - m = sym (ap (λ (t : List ℕ). length t) j) ∙ length-drop m l.bytes in omega (arith, size)

    -- a line that begins with what ends the scalar
    by_zero : (n : ℕ) → below s l.bytes ≡ Further n → (v : Why) → reason true (drop n l.bytes) ≡ v → (v ≡ Break → ⊥) → plain_len true false (drop n l.bytes) ≡ 0 → Told text (ahead text true e) (found_at text e) (shown_by v (l.at + n + plain_len true false (drop n l.bytes)))
    by_zero n b v i going none = by_rest (drop n l.bytes) refl where
      zero : l.at + n + plain_len true false (drop n l.bytes) ≡ l.at + n
      zero = omega (arith, none)

      by_rest : (y : List ℕ) → drop n l.bytes ≡ y → Told text (ahead text true e) (found_at text e) (shown_by v (l.at + n + plain_len true false (drop n l.bytes)))
      by_rest [] j = absurd (going (sym i ∙ ap (reason true) j))
      by_rest (c ∷ z) j =
          subst (λ q. Told text (ahead text true e) (found_at text e) (shown_by v q)) (sym zero)
          (told_by text (ahead text true e) (l.at + n) c z v (byte_here text l ls is n (some_le n c z j) c z j 58) (sym (ap why (ap (λ m. drop m (drop n l.bytes)) none ∙ j)) ∙ i) (found_at text e) (full_place n c z (sym (further_parts s l.bytes n b).0) j))

    by_ends : (n : ℕ) → below s l.bytes ≡ Further n → (v : Why) → reason true (drop n l.bytes) ≡ v → (v ≡ Break → ⊥) → (q : Bool) → nat_eq (plain_len true false (drop n l.bytes)) 0 ≡ q
        → cond q (Stands t e) (Stands (joined true (drop n l.bytes) t k) (content_end true (drop n l.bytes) (l.at + n))) ≡ Stands u f → Told text (ahead text true f) (found_at text f) (shown_by v (l.at + n + plain_len true false (drop n l.bytes)))
    by_ends n b v i going true j h = here (shown_by v (l.at + n + plain_len true false (drop n l.bytes))) h (by_zero n b v i going (grind (arith, nat_tests, j)))
    by_ends n b v i going false j h =
        subst (λ m. Told text (ahead text true m) (found_at text m) (shown_by v (l.at + n + plain_len true false (drop n l.bytes)))) (same_place _ u _ f h) ((part_found text l ls is n (skip_le s l.bytes n b) v i).0 going)

    by_why : (n : ℕ) → below s l.bytes ≡ Further n → (v : Why) → reason true (drop n l.bytes) ≡ v → joins true v (drop n l.bytes) (l.at + n) t e k (more s ls) ≡ Stands u f
        → ((x : List ℕ) (y z : ℕ) → ahead text true y ≡ line_ahead true (length text) ls → found_at text y ≡ content_from (length text) ls → more s ls x y z ≡ Stands u f → Told text (ahead text true f) (found_at text f) (more_shown s (length text) ls))
        → Told text (ahead text true f) (found_at text f) (part_shown v (l.at + n + plain_len true false (drop n l.bytes)) (more_shown s (length text) ls))
    by_why n b Break i h go = (let r = (part_found text l ls is n (skip_le s l.bytes n b) Break i).1 refl in go (joined true (drop n l.bytes) t k) (content_end true (drop n l.bytes) (l.at + n)) 0 r.0 r.1 h)
    by_why n b Return i h go = absurd (fails_not _ u f h)
    by_why n b Colon i h go = by_ends n b Colon i (λ v. absurd (cc)) (nat_eq (plain_len true false (drop n l.bytes)) 0) refl h
    by_why n b Comment i h go = subst (λ m. Told text (ahead text true m) (found_at text m) (shown_by Comment (l.at + n + plain_len true false (drop n l.bytes)))) (same_place _ u _ f h) ((part_found text l ls is n (skip_le s l.bytes n b) Comment i).0 (λ v. absurd (cc)))
    by_why n b Mark i h go = by_ends n b Mark i (λ v. absurd (cc)) (nat_eq (plain_len true false (drop n l.bytes)) 0) refl h

    by_outside : (is_mark l.bytes ≡ true) ⊎ ((is_mark l.bytes ≡ false) × ((z : List ℕ) × (past_white l.bytes ≡ 35 ∷ z))) → Told text (ahead text true e) (found_at text e) (l.at + out_shown l.bytes)
    by_outside (inl m) =
        inr (inl (ap (λ (a : Ahead). is_marked a.token) link ∙ ap (λ q. is_marked (cond q (token_at (mark_of l.bytes) true 0 l.at) (cond (is_passed true l.bytes) (line_ahead true (length text) ls) (content_ahead true l.at l.bytes))).token) m ∙ marks (begins_with 45 l.bytes))) where
          marks : (q : Bool) → is_marked (cond q Dashes Dots) ≡ true
          marks true = refl
          marks false = refl
    by_outside (inr (m, (z, c))) =
        let x : out_shown l.bytes ≡ lead is_white l.bytes = ap (λ q. cond q 4 (cond (begins_with 13 (past_white l.bytes)) (suc (lead is_white l.bytes)) (lead is_white l.bytes))) m ∙ ap (λ y. cond (begins_with 13 y) (suc (lead is_white l.bytes)) (lead is_white l.bytes)) c in
        let n = lead is_white l.bytes in
        inr (inr (
          ap (λ q. begins_with 58 (drop q text)) (full_place (lead is_white l.bytes) 35 z refl c) ∙ byte_here text l ls is (lead is_white l.bytes) (some_le (lead is_white l.bytes) 35 z c) 35 z c 58,
          ap (λ q. l.at + q) x ∙ sym (full_place (lead is_white l.bytes) 35 z refl c),
        ))

    by_below : (z : Below) → below s l.bytes ≡ z → further s z l.at l.bytes t e k (more s ls) ≡ Stands u f
        → ((x : List ℕ) (y z : ℕ) → ahead text true y ≡ line_ahead true (length text) ls → found_at text y ≡ content_from (length text) ls → more s ls x y z ≡ Stands u f → Told text (ahead text true f) (found_at text f) (more_shown s (length text) ls))
        → Told text (ahead text true f) (found_at text f) (line_shown s z l.at l.bytes (more_shown s (length text) ls))
    by_below Blank i h go =
        let b = below_blank p false l.bytes i in
        go t e (suc k) (link ∙ line_over (length text) l ls b) (place ∙ ap (λ q. cond q (content_from (length text) ls) (l.at + lead is_white l.bytes)) b) h
    by_below Outside i h go = here (l.at + out_shown l.bytes) h (by_outside (below_outside p false l.bytes i))
    by_below (Further n) i h go = by_why n i (reason true (drop n l.bytes)) refl h go

  -- ---- from its first line on

  first_found : (text : List ℕ) (l : Line) (ls : List Line) (u : List ℕ) (f : ℕ) → IsTail text l ls → Tails text ls → Within (length text) ls → first s (reason true l.bytes) l.at l.bytes ls ≡ Stands u f → Told text (ahead text true f) (found_at text f) (plain_shown s (length text) (l ∷ ls))
  first_found text l ls u f is tails w h = by_why (reason true l.bytes) refl h where
    zero : l.at + 0 ≡ l.at
    zero = omega arith

    last : ℕ
    last = content_end true l.bytes l.at

    stops : ℕ
    stops = l.at + plain_len true false l.bytes

    out : (v : Why) → reason true l.bytes ≡ v → ((v ≡ Break → ⊥) → Told text (ahead text true last) (found_at text last) (shown_by v stops)) × (v ≡ Break → (ahead text true last ≡ line_ahead true (length text) ls) × (found_at text last ≡ content_from (length text) ls))
    out v i =
        subst (λ a. ((v ≡ Break → ⊥) → Told text (ahead text true (content_end true l.bytes a)) (found_at text (content_end true l.bytes a)) (shown_by v (a + plain_len true false l.bytes))) × (v ≡ Break → (ahead text true (content_end true l.bytes a) ≡ line_ahead true (length text) ls) × (found_at text (content_end true l.bytes a) ≡ content_from (length text) ls))) zero
        (part_found text l ls is 0 (omega arith) v i)

    by_line : (v : Why) → reason true l.bytes ≡ v → (v ≡ Break → ⊥) → Stands (content true l.bytes) last ≡ Stands u f → Told text (ahead text true f) (found_at text f) (shown_by v stops)
    by_line v i going h = subst (λ m. Told text (ahead text true m) (found_at text m) (shown_by v stops)) (same_place _ u _ f h) ((out v i).0 going)

    by_why : (v : Why) → reason true l.bytes ≡ v → first s v l.at l.bytes ls ≡ Stands u f → Told text (ahead text true f) (found_at text f) (part_shown v stops (more_shown s (length text) ls))
    by_why Break i h = (let r = (out Break i).1 refl in more_found text ls (content true l.bytes) last 0 u f tails w r.0 r.1 h)
    by_why Return i h = absurd (fails_not _ u f h)
    by_why Colon i h = by_line Colon i (λ v. absurd (cc)) h
    by_why Comment i h = by_line Comment i (λ v. absurd (cc)) h
    by_why Mark i h = by_line Mark i (λ v. absurd (cc)) h

  pub plain_found : (text : List ℕ) (at : ℕ) (u : List ℕ) (f : ℕ) → at ≤ length text → plain_scalar s text at ≡ Stands u f → Told text (ahead text true f) (found_at text f) (plain_shown s (length text) (lines at (drop at text)))
  plain_found text at u f low h =
      let xs = drop at text in
      let e = lines_are at xs in
      let l : Line = record { at = at; bytes = line_at xs; broken = has_break xs } in
      let o2 = subst (Tails text) e (tails_of text at) in
      let w = subst (Within (length text)) e (lines_within (length text) at xs (omega (arith, low, length-drop at text))) in
      let h2 : plain_on s (is_first_column text at) (l ∷ behind at xs) ≡ Stands u f = sym (ap (plain_on s (is_first_column text at)) e) ∙ h in
      let start = opens_stands s (is_first_column text at) l (behind at xs) u f h2 in
      subst (λ ls. Told text (ahead text true f) (found_at text f) (plain_shown s (length text) ls)) (sym e) (first_found text l (behind at xs) u f (tail_is text l (behind at xs) o2.0 w.0) o2.1 w.1 start.2)

-- ---- what is ahead stands not before that byte

module _ (text : List ℕ) where
  -- from a line on
  below_far : (l : Line) (ls : List Line) → IsTail text l ls → l.at + length l.bytes ≤ (line_ahead true (length text) ls).at
  below_far l ls is = later_at (length text) (l.at + length l.bytes) ls is.1 is.2

  lines_before : (ls : List Line) → Tails text ls → Within (length text) ls → content_from (length text) ls ≤ (line_ahead true (length text) ls).at
  lines_before [] tails w = omega arith
  lines_before (l ∷ ls) tails w = by_blank (is_blank l.bytes) refl (lines_before ls tails.1 w.1) where
    far : l.at + length l.bytes ≤ (line_ahead true (length text) ls).at
    far = below_far l ls (tail_is text l ls tails.0 w.0)

    by_blank : (q : Bool) → is_blank l.bytes ≡ q → content_from (length text) ls ≤ (line_ahead true (length text) ls).at → cond q (content_from (length text) ls) (l.at + lead is_white l.bytes) ≤ (line_ahead true (length text) (l ∷ ls)).at
    by_blank true e h = subst (λ (a : Ahead). content_from (length text) ls ≤ a.at) (sym (line_over (length text) l ls e)) h
    by_blank false e h = by_tests (is_mark l.bytes) refl (is_passed true l.bytes) where
      by_tests : (q : Bool) → is_mark l.bytes ≡ q → (r : Bool) → l.at + lead is_white l.bytes ≤ (cond q (token_at (mark_of l.bytes) true 0 l.at) (cond r (line_ahead true (length text) ls) (content_ahead true l.at l.bytes))).at
      by_tests true m r = let k = mark_lead l.bytes m in omega (arith, k)
      by_tests false m true = let a = lead_le is_white l.bytes in let b = far in omega (arith, a, b)
      by_tests false m false = omega arith

  rest_before : (l : Line) (ls : List Line) → l.at + length l.bytes ≤ (line_ahead true (length text) ls).at → content_from (length text) ls ≤ (line_ahead true (length text) ls).at → content_from (length text) (l ∷ ls) ≤ (rest_ahead true (length text) (l ∷ ls)).at
  rest_before l ls far h = by_blank (is_blank l.bytes) refl where
    passed : is_blank l.bytes ≡ true → is_passed false l.bytes ≡ true
    passed e = blank_passed false l.bytes e

    by_blank : (q : Bool) → is_blank l.bytes ≡ q → cond q (content_from (length text) ls) (l.at + lead is_white l.bytes) ≤ (rest_ahead true (length text) (l ∷ ls)).at
    by_blank true e =
        subst (λ q. content_from (length text) ls ≤ (cond q (line_ahead true (length text) ls) (token_at (token_of true (past_white l.bytes)) false (lead is_white l.bytes) (l.at + lead is_white l.bytes))).at) (sym (passed e)) h
    by_blank false e = by_test (is_passed false l.bytes) where
      by_test : (r : Bool) → l.at + lead is_white l.bytes ≤ (cond r (line_ahead true (length text) ls) (token_at (token_of true (past_white l.bytes)) false (lead is_white l.bytes) (l.at + lead is_white l.bytes))).at
      by_test true = let a = lead_le is_white l.bytes in omega (arith, a, far)
      by_test false = omega arith

  pub found_before : (e : ℕ) → e ≤ length text → found_at text e ≤ (ahead text true e).at
  found_before e low =
      let xs = drop e text in
      let m : Line = record { at = e; bytes = line_at (drop e text); broken = has_break (drop e text) } in
      let is = lines_are e (drop e text) in
      let tails = subst (Tails text) is (tails_of text e) in
      let w = subst (Within (length text)) is (lines_within (length text) e (drop e text) (omega (arith, low, length-drop e text))) in
      let h = lines_before (behind e (drop e text)) tails.1 w.1 in
      subst (λ ks. content_from (length text) ks ≤ (ahead text true e).at) (sym is)
      (from_lines (λ a. content_from (length text) (m ∷ behind e (drop e text)) ≤ a.at) text e m (behind e (drop e text)) is (lines_before (m ∷ behind e (drop e text)) tails w) (rest_before m (behind e (drop e text)) (below_far m (behind e (drop e text)) (tail_is text m (behind e (drop e text)) tails.0 w.0)) h))
