-- Outside of brackets the byte that shows the end of a scalar stands within the text, where a token that its bytes tell is ahead of that end: but for a colon behind a plain one, on its line, that ends the text. By induction over lines.
use Rattle.std.proofs.Common.{◌≡◌, ℕ, suc, ◌+◌, ◌<◌, ◌≤◌, ◌⊎◌, inl, inr, Bool, true, false, ◌||◌, ◌&&◌, not, cond, nat_eq, nat_lt, arith, List, [], ◌∷◌, ◌++◌, drop, length, refl, sym, ap, ◌∙◌, subst, true≢false, length-drop}
use Rattle.std.proofs.lemmas.Bool.{cases_lt}
use Rattle.std.proofs.lemmas.Bool.Decides.{nat_tests}
use Rattle.std.proofs.lemmas.List.{drop-drop}
use Rattle.std.specs.Prelude.{ℤ}
use Rattle.yaml_scalars.specs.declared.scalar.Setting.{Setting}
use Rattle.yaml_scalars.specs.declared.plain_line.Why.{Why}
use Rattle.yaml_scalars.specs.declared.plain_line.Why.TheVariants.{Break, Return, Colon, Comment, Mark}
use Rattle.yaml_scalars.specs.declared.plain_line.Below.{Below}
use Rattle.yaml_scalars.specs.declared.plain_line.Below.TheVariants.{Blank, Outside, Further}
use Rattle.yaml_scalars.specs.Lines.{Line, Stands, lines, begins_with, indent, is_white, is_blank, lead, past_white, is_mark}
use Rattle.yaml_scalars.specs.Plain.{above_of, plain_len, content, content_end, why, reason, inside, below, joined, joins, further, first, more, plain_on}
use Rattle.yaml_scalars.specs.Scalar.{is_first_column, begins_quoted, begins_block, plain_scalar, quoted_scalar, block_scalar, scalar_at}
use Rattle.yaml_scalars.specs.code.Walk.{line_at, has_break, behind}
use Rattle.yaml_scalars.proofs.Places.{lines_are, lead_le}
use Rattle.yaml_scalars.proofs.FurtherLines.{skip_le, plain_le}
use Rattle.yaml_laws.specs.code.Agreement.{out_shown, part_shown, line_shown, more_shown, plain_shown, scalar_shown}
use Rattle.yaml_laws.proofs.Agree.{Later, Within, lines_within}
use Rattle.yaml_laws.proofs.BlockLaw.{fails_not}
use Rattle.yaml_laws.proofs.BlockShown.{blank_less, blank_not}
use Rattle.yaml_laws.proofs.LineEnds.{mark_full}
use Rattle.yaml_laws.proofs.PlainStays.{opens_stands}
use Rattle.yaml_laws.proofs.QuotedLaw.{lead_whole}
use Rattle.yaml_laws.proofs.PlainDead.{drop_whole}
use Rattle.yaml_grammar.specs.declared.ahead.Ahead.{Ahead}
use Rattle.yaml_grammar.specs.Ahead.{has_return, is_passed, is_tabbed, mark_of, tab_token, token_at, token_len, token_of, content_ahead, line_ahead, rest_ahead, ahead}
use Rattle.yaml_grammar.specs.Yaml.{text_start}
use Rattle.yaml_grammar.specs.code.AheadSeen.{is_told}
use Rattle.yaml_grammar.specs.code.Extends.{IsPointed}
use Rattle.yaml_grammar.proofs.AheadEnds.{passes_line, passes_rest}
use Rattle.yaml_grammar.proofs.FirstTokens.{mark_told}
use Rattle.yaml_grammar.proofs.LineTails.{Tails, IsTail, tail_is, tails_of, inner_line}
use Rattle.yaml_grammar.proofs.Lengthened.{stale_end}
use Rattle.yaml_grammar.proofs.PlainOrder.{Behind, behind_content, colon_byte}
use Rattle.yaml_grammar.proofs.ScalarOrder.{block_end, first_bytes}
use Rattle.yaml_grammar.proofs.SyntaxPlaces.{some_ahead}

-- ---- lines

blank_passed : (fresh : Bool) (xs : List ℕ) → is_blank xs ≡ true → is_passed fresh xs ≡ true
blank_passed fresh xs h = ap (λ q. q || ((fresh || nat_lt 0 (lead is_white xs)) && (begins_with 35 (past_white xs) && not (has_return xs)))) h

blank_unmarked : (xs : List ℕ) → is_blank xs ≡ true → is_mark xs ≡ false
blank_unmarked xs h = by_mark (is_mark xs) refl where
  by_mark : (q : Bool) → is_mark xs ≡ q → q ≡ false
  by_mark true e = absurd (true≢false (sym h ∙ mark_full xs e))
  by_mark false e = refl

line_over : (size : ℕ) (l : Line) (ls : List Line) → is_blank l.bytes ≡ true → line_ahead false size (l ∷ ls) ≡ line_ahead false size ls
line_over size l ls h = passes_line false size l ls (blank_unmarked l.bytes h) (blank_passed true l.bytes h)

-- what is ahead of a place, by the lines there
from_lines : (P : Ahead → Type 0) (text : List ℕ) (e : ℕ) (m : Line) (ls : List Line) → lines e (drop e text) ≡ m ∷ ls → P (line_ahead false (length text) (m ∷ ls)) → P (rest_ahead false (length text) (m ∷ ls)) → P (ahead text false e)
from_lines P text e m ls is a b = subst (λ ks. P (cond (is_first_column text e) (line_ahead false (length text) ks) (rest_ahead false (length text) ks))) (sym is) (by_column (is_first_column text e)) where
  by_column : (q : Bool) → P (cond q (line_ahead false (length text) (m ∷ ls)) (rest_ahead false (length text) (m ∷ ls)))
  by_column true = a
  by_column false = b

-- a byte that is no white space, and no `#`, is not passed over
byte_passed : (fresh : Bool) (xs : List ℕ) (c : ℕ) (z : List ℕ) → past_white xs ≡ c ∷ z → nat_eq c 35 ≡ false → is_passed fresh xs ≡ false
byte_passed fresh xs c z e n =
    let size = ap (λ (t : List ℕ). length t) e in
    ap (λ q. q || ((fresh || nat_lt 0 (lead is_white xs)) && (begins_with 35 (past_white xs) && not (has_return xs)))) (blank_not xs (omega (arith, size, length-drop (lead is_white xs) xs)))
    ∙ ap (λ y. (fresh || nat_lt 0 (lead is_white xs)) && (begins_with 35 y && not (has_return xs))) e ∙ ap (λ r. (fresh || nat_lt 0 (lead is_white xs)) && (r && not (has_return xs))) n ∙ none (fresh || nat_lt 0 (lead is_white xs)) where
      none : (q : Bool) → (q && false) ≡ false
      none true = refl
      none false = refl

-- a carriage return behind white space is stray
return_untold : (size : ℕ) (l : Line) (ls : List Line) → is_mark l.bytes ≡ false → begins_with 13 (past_white l.bytes) ≡ true → is_told (line_ahead false size (l ∷ ls)).token ≡ true → ⊥
return_untold size l ls m r told = by_bytes (past_white l.bytes) refl r where
  by_bytes : (ys : List ℕ) → past_white l.bytes ≡ ys → begins_with 13 ys ≡ true → ⊥
  by_bytes [] e r = true≢false (sym r)
  by_bytes (c ∷ z) e r = by_byte (let k : c ≡ 13 = grind (arith, nat_tests, r) in e ∙ ap (λ b. b ∷ z) k) where
    by_byte : past_white l.bytes ≡ 13 ∷ z → ⊥
    by_byte e =
        let over : line_ahead false size (l ∷ ls) ≡ content_ahead false l.at l.bytes = ap (λ q. cond q (token_at (mark_of l.bytes) true 0 l.at) (cond (is_passed true l.bytes) (line_ahead false size ls) (content_ahead false l.at l.bytes))) m
        ∙ ap (λ q. cond q (line_ahead false size ls) (content_ahead false l.at l.bytes)) (byte_passed true l.bytes 13 z e refl) in
        true≢false (sym told ∙ ap (λ (a : Ahead). is_told a.token) over ∙ by_tab (is_tabbed false l.bytes)) where
          by_tab : (q : Bool) → is_told (cond q (token_at (tab_token (past_white l.bytes)) true (indent l.bytes) (l.at + indent l.bytes)) (token_at (token_of false (past_white l.bytes)) true (lead is_white l.bytes) (l.at + lead is_white l.bytes))).token ≡ false
          by_tab true = ap (λ t. is_told (tab_token t)) e
          by_tab false = ap (λ t. is_told (token_of false t)) e

-- a line that is no mark and not blank shows itself within the text
line_within : (size : ℕ) (l : Line) (ls : List Line) → l.at + length l.bytes ≤ size → is_blank l.bytes ≡ false → is_told (line_ahead false size (l ∷ ls)).token ≡ true → l.at + out_shown l.bytes < size
line_within size l ls within full told = by_mark (is_mark l.bytes) refl where
  by_mark : (q : Bool) → is_mark l.bytes ≡ q → l.at + out_shown l.bytes < size
  by_mark true e =
      absurd (true≢false (sym told ∙ ap (λ q. is_told (cond q (token_at (mark_of l.bytes) true 0 l.at) (cond (is_passed true l.bytes) (line_ahead false size ls) (content_ahead false l.at l.bytes))).token) e ∙ mark_told l.bytes))
  by_mark false e = by_return (begins_with 13 (past_white l.bytes)) refl where
    by_return : (r : Bool) → begins_with 13 (past_white l.bytes) ≡ r → l.at + out_shown l.bytes < size
    by_return true k = absurd (return_untold size l ls e k told)
    by_return false k =
        let some : out_shown l.bytes ≡ lead is_white l.bytes = ap (λ q. cond q 4 (cond (begins_with 13 (past_white l.bytes)) (suc (lead is_white l.bytes)) (lead is_white l.bytes))) e ∙ ap (λ q. cond q (suc (lead is_white l.bytes)) (lead is_white l.bytes)) k in
        let z = blank_less l.bytes full in
        omega (arith, some, z, within)

-- ---- a part of a line

module _ (text : List ℕ) (l : Line) (ls : List Line) (is : IsTail text l ls) (n : ℕ) (low : n ≤ length l.bytes) where
  abbrev size : ℕ
  size = length text

  abbrev part : List ℕ
  part = drop n l.bytes

  abbrev stop : ℕ
  stop = plain_len false false part

  abbrev long : ℕ
  long = length (content false part)

  abbrev end : ℕ
  end = content_end false part (l.at + n)

  abbrev bytes : List ℕ
  bytes = drop (n + long) l.bytes

  end_is : l.at + (n + long) ≡ end
  end_is = omega arith

  part_size : n + length part ≡ length l.bytes
  part_size = omega (arith, low, length-drop n l.bytes)

  bytes_are : bytes ≡ drop long part
  bytes_are = sym (drop-drop long n l.bytes)

  short : (w : List ℕ) → Behind false part w → n + long ≤ length l.bytes
  short w h =
      let a = plain_le false false part in
      let b = h.2 in
      let c = part_size in
      omega (arith, a, b, c)

  inner : (w : List ℕ) → Behind false part w → (b : Bool) × (lines end (drop end text) ≡ record { at = end; bytes = bytes; broken = b } ∷ ls)
  inner w h = let r = inner_line text l ls is (n + long) (short w h) in (r.0, subst (λ e. lines e (drop e text) ≡ record { at = e; bytes = bytes; broken = r.0 } ∷ ls) end_is r.1)

  -- the line's end ends it
  at_break : (w : List ℕ) → Behind false part w → drop stop part ≡ [] → ahead text false end ≡ line_ahead false size ls
  at_break w h e =
      let r = inner w h in
      let blank : is_blank bytes ≡ true = ap is_blank (bytes_are ∙ h.0 ∙ ap (λ t. w ++ t) e) ∙ whole w h.1 in
      let m : Line = record { at = end; bytes = bytes; broken = r.0 } in
      from_lines (λ a. a ≡ line_ahead false size ls) text end m ls r.1 (line_over size m ls blank) (passes_rest false size m ls (blank_passed false bytes blank)) where
        whole : (w : List ℕ) → is_blank w ≡ true → is_blank (w ++ []) ≡ true
        whole [] h = refl
        whole (b ∷ w) h = by_white (is_white b) h (λ g. whole w g) where
          by_white : (q : Bool) → cond q (is_blank w) false ≡ true → (is_blank w ≡ true → is_blank (w ++ []) ≡ true) → cond q (is_blank (w ++ [])) false ≡ true
          by_white true h r = r h
          by_white false h r = h

  pub part_break : reason false part ≡ Break → ahead text false end ≡ line_ahead false size ls
  part_break e = let h = behind_content false part in by_rest (drop stop part) refl where
    some_why : (c : ℕ) (z : List ℕ) → why (c ∷ z) ≡ Break → ⊥
    some_why c z k = by_tests (nat_eq c 13) (nat_eq c 58) (nat_eq c 35) k where
      by_tests : (p q r : Bool) → cond p Return (cond q Colon (cond r Comment Mark)) ≡ Break → ⊥
      by_tests true q r k = cc
      by_tests false true r k = cc
      by_tests false false true k = cc
      by_tests false false false k = cc

    by_rest : (t : List ℕ) → drop stop part ≡ t → ahead text false end ≡ line_ahead false size ls
    by_rest [] i = let h = behind_content false part in at_break h.0 h.1 i
    by_rest (c ∷ z) i = absurd (some_why c z (sym (ap why i) ∙ e))

  -- a byte does
  pub part_within : (reason false part ≡ Break → ⊥) → (c : ℕ) × (z : List ℕ) × (drop stop part ≡ c ∷ z) × (l.at + n + stop < size) × (length z + suc (l.at + n + stop) ≤ size)
  part_within n2 = by_rest (drop stop part) refl where
    by_rest : (t : List ℕ) → drop stop part ≡ t → (c : ℕ) × (z : List ℕ) × (drop stop part ≡ c ∷ z) × (l.at + n + stop < size) × (length z + suc (l.at + n + stop) ≤ size)
    by_rest [] i = absurd (n2 (ap why i))
    by_rest (c ∷ z) i =
        let a = ap (λ (t : List ℕ). length t) i in
        let b = part_size in
        let d = is.1 in
        let p = plain_le false false part in
        (c, z, i, omega (arith, a, b, d, p, length-drop stop part), omega (arith, a, b, d, p, length-drop stop part))

  -- a colon that ends the text is ahead
  pub part_pointed : text_start text ≤ l.at + n → l.at + n < end → length text ≤ suc (l.at + n + stop) → (z : List ℕ) → length z ≡ 0 → drop stop part ≡ 58 ∷ z → IsPointed text end
  part_pointed late far near z none i = let h = behind_content false part in by_behind h.0 h.1 where
    empty : (z : List ℕ) → length z ≡ 0 → z ≡ []
    empty [] k = refl
    empty (c ∷ z) k = absurd (omega (arith, k))

    by_behind : (w : List ℕ) → Behind false part w → IsPointed text end
    by_behind w h =
        let r = inner w h in
        let m : Line = record { at = end; bytes = bytes; broken = r.0 } in
        let parts : bytes ≡ w ++ (58 ∷ []) = bytes_are ∙ h.0 ∙ ap (λ t. w ++ t) (i ∙ ap (λ y. 58 ∷ y) (empty z none)) in
        let whites : lead is_white bytes ≡ length w = ap (lead is_white) parts ∙ lead_whole w 58 [] h.1 refl in
        let past : past_white bytes ≡ 58 ∷ [] = ap (λ k. drop k bytes) whites ∙ ap (drop (length w)) parts ∙ drop_whole w (58 ∷ []) in
        let here_is = inner_line text l ls is n low in
        let same : line_at (drop (l.at + n) text) ≡ part = first_bytes text (record { at = l.at + n; bytes = part; broken = here_is.0 }) ls here_is.1 in
        let a = short w h in
        let b = end_is in
        let c = part_size in
        let d = is.1 in
        let stale = stale_end text (l.at + n) (l.at + n) end late (omega arith) far (omega (arith, a, b, d)) (let k = ap (λ (t : List ℕ). length t) same in omega (arith, a, b, c, k)) in
        let here : ahead text false end ≡ rest_ahead false size (m ∷ ls) = ap (λ q. cond q (line_ahead false size (lines end (drop end text))) (rest_ahead false size (lines end (drop end text)))) stale ∙ ap (rest_ahead false size) r.1 in
        let there : rest_ahead false size (m ∷ ls) ≡ token_at (token_of false (past_white bytes)) false (lead is_white bytes) (end + lead is_white bytes) = ap (λ q. cond q (line_ahead false size ls) (token_at (token_of false (past_white bytes)) false (lead is_white bytes) (end + lead is_white bytes))) (byte_passed false bytes 58 [] past refl) in
        let over : (ahead text false end).behind ≡ end + lead is_white bytes + 1 = ap (λ (x : Ahead). x.behind) (here ∙ there) ∙ ap (λ t. end + lead is_white bytes + token_len (token_of false t)) past in
        let f = h.2 in
        (ap (λ (x : Ahead). x.fresh) (here ∙ there), ap (λ (x : Ahead). x.token) (here ∙ there) ∙ ap (token_of false) past, omega (arith, over, whites, f, b, near))

-- ---- the lines below

same_place : (t u : List ℕ) (e f : ℕ) → Stands t e ≡ Stands u f → e ≡ f
same_place t u e f h = cc

module _ (parent : ℤ) where
  abbrev setting : Setting
  setting = record { parent = parent; flow = false; one_line = false }

  below_blank : (xs : List ℕ) → below setting xs ≡ Blank → is_blank xs ≡ true
  below_blank xs h = by_tests (is_blank xs) refl h where
    in_outside : (z : Below) → z ≡ inside setting xs → z ≡ Blank → ⊥
    in_outside z k e = by_block (nat_lt (indent xs) (above_of parent) || begins_with 9 (drop (indent xs) xs)) (begins_with 35 (drop (indent xs) xs)) (sym k ∙ e) where
      by_block : (p q : Bool) → cond p Outside (cond q Outside (Further (indent xs))) ≡ Blank → ⊥
      by_block true q h = absurd (cc)
      by_block false true h = absurd (cc)
      by_block false false h = absurd (cc)

    by_tests : (b : Bool) → is_blank xs ≡ b → cond b Blank (cond (is_mark xs) Outside (inside setting xs)) ≡ Blank → is_blank xs ≡ true
    by_tests true e h = e
    by_tests false e h = by_mark (is_mark xs) h where
      by_mark : (m : Bool) → cond m Outside (inside setting xs) ≡ Blank → is_blank xs ≡ true
      by_mark true h = absurd (cc)
      by_mark false h = absurd (in_outside (inside setting xs) refl h)

  outside_full : (xs : List ℕ) → below setting xs ≡ Outside → is_blank xs ≡ false
  outside_full xs h = by_blank (is_blank xs) refl h where
    by_blank : (q : Bool) → is_blank xs ≡ q → cond q Blank (cond (is_mark xs) Outside (inside setting xs)) ≡ Outside → is_blank xs ≡ false
    by_blank true j i = absurd (cc)
    by_blank false j i = j

  more_within : (text : List ℕ) (ls : List Line) (t : List ℕ) (e k : ℕ) (u : List ℕ) (f : ℕ) → Tails text ls → Within (length text) ls → ahead text false e ≡ line_ahead false (length text) ls → is_told (ahead text false f).token ≡ true → more setting ls t e k ≡ Stands u f → more_shown setting (length text) ls < length text
  more_within text [] t e k u f tails w link told h = absurd (true≢false (sym told ∙ ap (λ n. is_told (ahead text false n).token) (sym (same_place t u e f h)) ∙ ap (λ (a : Ahead). is_told a.token) link))
  more_within text (l ∷ ls) t e k u f tails w link told h = by_below (below setting l.bytes) refl h (λ x y z a b. more_within text ls x y z u f tails.1 w.1 a told b) where
    is : IsTail text l ls
    is = tail_is text l ls tails.0 w.0

    by_why : (n : ℕ) → below setting l.bytes ≡ Further n → (v : Why) → reason false (drop n l.bytes) ≡ v → joins false v (drop n l.bytes) (l.at + n) t e k (more setting ls) ≡ Stands u f → ((x : List ℕ) (y z : ℕ) → ahead text false y ≡ line_ahead false (length text) ls → more setting ls x y z ≡ Stands u f → more_shown setting (length text) ls < length text) → part_shown v (l.at + n + plain_len false false (drop n l.bytes)) (more_shown setting (length text) ls) < length text
    by_why n b Break i h go = go (joined false (drop n l.bytes) t k) (content_end false (drop n l.bytes) (l.at + n)) 0 (part_break text l ls is n (skip_le setting l.bytes n b) i) h
    by_why n b Return i h go = absurd (fails_not _ u f h)
    by_why n b Colon i h go = absurd (fails_not _ u f h)
    by_why n b Comment i h go = (part_within text l ls is n (skip_le setting l.bytes n b) (λ v. (let z : Comment ≡ Break = sym i ∙ v in absurd (cc)))).3
    by_why n b Mark i h go = (part_within text l ls is n (skip_le setting l.bytes n b) (λ v. (let z : Mark ≡ Break = sym i ∙ v in absurd (cc)))).3

    by_below : (z : Below) → below setting l.bytes ≡ z → further setting z l.at l.bytes t e k (more setting ls) ≡ Stands u f → ((x : List ℕ) (y z : ℕ) → ahead text false y ≡ line_ahead false (length text) ls → more setting ls x y z ≡ Stands u f → more_shown setting (length text) ls < length text) → line_shown setting z l.at l.bytes (more_shown setting (length text) ls) < length text
    by_below Blank i h go = go t e (suc k) (link ∙ line_over (length text) l ls (below_blank l.bytes i)) h
    by_below Outside i h go = line_within (length text) l ls w.0 (outside_full l.bytes i) (ap (λ (a : Ahead). is_told a.token) (sym link) ∙ ap (λ n. is_told (ahead text false n).token) (same_place t u e f h) ∙ told)
    by_below (Further n) i h go = by_why n i (reason false (drop n l.bytes)) refl h go

  -- ---- from its first line on

  first_within : (text : List ℕ) (l : Line) (ls : List Line) (u : List ℕ) (f : ℕ) → IsTail text l ls → Tails text ls → Within (length text) ls → text_start text ≤ l.at → l.at < f → is_told (ahead text false f).token ≡ true → (IsPointed text f → ⊥) → first setting (reason false l.bytes) l.at l.bytes ls ≡ Stands u f
      → plain_shown setting (length text) (l ∷ ls) < length text
  first_within text l ls u f is tails w late far told free h = by_why (reason false l.bytes) refl h where
    zero : l.at + 0 ≡ l.at
    zero = omega arith

    last : ℕ
    last = content_end false l.bytes l.at

    stops : ℕ
    stops = l.at + plain_len false false l.bytes

    here : (Stands (content false l.bytes) last ≡ Stands u f) → last ≡ f
    here g = same_place _ u _ f g

    within : (reason false l.bytes ≡ Break → ⊥) → (c : ℕ) × (z : List ℕ) × (drop (plain_len false false l.bytes) l.bytes ≡ c ∷ z) × (stops < length text) × (length z + suc stops ≤ length text)
    within n = subst (λ a. (c : ℕ) × (z : List ℕ) × (drop (plain_len false false l.bytes) l.bytes ≡ c ∷ z) × (a + plain_len false false l.bytes < length text) × (length z + suc (a + plain_len false false l.bytes) ≤ length text)) zero (part_within text l ls is 0 (omega arith) n)

    break : reason false l.bytes ≡ Break → ahead text false last ≡ line_ahead false (length text) ls
    break i = subst (λ a. ahead text false (content_end false l.bytes a) ≡ line_ahead false (length text) ls) zero (part_break text l ls is 0 (omega arith) i)

    colon : reason false l.bytes ≡ Colon → last ≡ f → suc stops < length text
    colon i g = by_order (cases_lt (suc stops) (length text)) where
      p : (c : ℕ) × (z : List ℕ) × (drop (plain_len false false l.bytes) l.bytes ≡ c ∷ z) × (stops < length text) × (length z + suc stops ≤ length text)
      p = within (λ v. (let z : Colon ≡ Break = sym i ∙ v in absurd (cc)))

      pointed : length text ≤ suc stops → IsPointed text (content_end false l.bytes (l.at + 0))
      pointed o =
          let size = p.4 in
          part_pointed text l ls is 0 (omega arith) (omega (arith, late)) (let a : content_end false l.bytes l.at ≡ f = g in omega (arith, a, far)) (omega (arith, o)) p.1 (omega (arith, o, size))
          (p.2 ∙ ap (λ b. b ∷ p.1) (colon_byte p.0 p.1 (sym (ap why p.2) ∙ i)))

      by_order : (suc stops < length text) ⊎ (length text ≤ suc stops) → suc stops < length text
      by_order (inl o) = o
      by_order (inr o) = absurd (free (subst (IsPointed text) (ap (content_end false l.bytes) zero ∙ g) (pointed o)))

    by_why : (v : Why) → reason false l.bytes ≡ v → first setting v l.at l.bytes ls ≡ Stands u f → part_shown v stops (more_shown setting (length text) ls) < length text
    by_why Break i h = more_within text ls (content false l.bytes) last 0 u f tails w (break i) told h
    by_why Return i h = absurd (fails_not _ u f h)
    by_why Colon i h = colon i (here h)
    by_why Comment i h = (within (λ v. (let z : Comment ≡ Break = sym i ∙ v in absurd (cc)))).3
    by_why Mark i h = (within (λ v. (let z : Mark ≡ Break = sym i ∙ v in absurd (cc)))).3

  plain_within : (text : List ℕ) (at : ℕ) (u : List ℕ) (f : ℕ) → at ≤ length text → text_start text ≤ at → at < f → is_told (ahead text false f).token ≡ true → (IsPointed text f → ⊥) → plain_scalar setting text at ≡ Stands u f → plain_shown setting (length text) (lines at (drop at text)) < length text
  plain_within text at u f low late far told free h =
      let xs = drop at text in
      let e = lines_are at xs in
      let l : Line = record { at = at; bytes = line_at xs; broken = has_break xs } in
      let o2 = subst (Tails text) e (tails_of text at) in
      let w = subst (Within (length text)) e (lines_within (length text) at xs (omega (arith, low, length-drop at text))) in
      let h2 : plain_on setting (is_first_column text at) (l ∷ behind at xs) ≡ Stands u f = sym (ap (plain_on setting (is_first_column text at)) e) ∙ h in
      let start = opens_stands setting (is_first_column text at) l (behind at xs) u f h2 in
      subst (λ ls. plain_shown setting (length text) ls < length text) (sym e) (first_within text l (behind at xs) u f (tail_is text l (behind at xs) o2.0 w.0) o2.1 w.1 late far told free start.2)

-- ---- block scalars

out_fits : (xs : List ℕ) → is_mark xs ≡ false → out_shown xs ≤ length xs
out_fits xs m = by_return (begins_with 13 (past_white xs)) refl where
  by_bytes : (ys : List ℕ) → past_white xs ≡ ys → begins_with 13 ys ≡ true → suc (lead is_white xs) ≤ length xs
  by_bytes [] e r = absurd (true≢false (sym r))
  by_bytes (c ∷ z) e r = let n = ap (λ (t : List ℕ). length t) e in omega (arith, n, length-drop (lead is_white xs) xs)

  by_return : (r : Bool) → begins_with 13 (past_white xs) ≡ r → out_shown xs ≤ length xs
  by_return r k = let some : out_shown xs ≡ cond r (suc (lead is_white xs)) (lead is_white xs) = ap (λ q. cond q 4 (cond (begins_with 13 (past_white xs)) (suc (lead is_white xs)) (lead is_white xs))) m ∙ ap (λ q. cond q (suc (lead is_white xs)) (lead is_white xs)) k in by_case r k some where
    by_case : (r : Bool) → begins_with 13 (past_white xs) ≡ r → out_shown xs ≡ cond r (suc (lead is_white xs)) (lead is_white xs) → out_shown xs ≤ length xs
    by_case true k some = let z = by_bytes (past_white xs) refl k in omega (arith, z, some)
    by_case false k some = let z = lead_le is_white xs in omega (arith, z, some)

-- a blank line with a further one behind it
blank_within : (size : ℕ) (l : Line) (ls : List Line) → Within size (l ∷ ls) → Later (l.at + length l.bytes) ls → is_blank l.bytes ≡ true → is_told (line_ahead false size (l ∷ ls)).token ≡ true → l.at + out_shown l.bytes < size
blank_within size l [] w later b told = absurd (true≢false (sym told ∙ ap (λ (a : Ahead). is_told a.token) (line_over size l [] b)))
blank_within size l (m ∷ ls) w later b told = let z = out_fits l.bytes (blank_unmarked l.bytes b) in let y = later.0 in let x = w.1.0 in omega (arith, x, y, z)

-- the line at a place that begins one
block_within : (s : Setting) (text : List ℕ) (at : ℕ) (t : List ℕ) (e : ℕ) → e ≤ length text → is_told (ahead text false e).token ≡ true → block_scalar s text at ≡ Stands t e → e + out_shown (line_at (drop e text)) < length text
block_within s text at t e within told h = by_end (block_end s text at t e h) where
  xs : List ℕ
  xs = drop e text

  l : Line
  l = record { at = e; bytes = line_at (drop e text); broken = has_break (drop e text) }

  at_line : is_first_column text e ≡ true → e + out_shown (line_at (drop e text)) < length text
  at_line fresh =
      let is = lines_are e (drop e text) in
      let o = subst (Tails text) is (tails_of text e) in
      let w = subst (Within (length text)) is (lines_within (length text) e (drop e text) (omega (arith, within, length-drop e text))) in
      let link : ahead text false e ≡ line_ahead false (length text) (l ∷ behind e (drop e text)) = ap (λ q. cond q (line_ahead false (length text) (lines e (drop e text))) (rest_ahead false (length text) (lines e (drop e text)))) fresh ∙ ap (line_ahead false (length text)) is in
      let tells = ap (λ (a : Ahead). is_told a.token) (sym link) ∙ told in
      by_blank (tail_is text l (behind e (drop e text)) o.0 w.0).2 w tells (is_blank (line_at (drop e text))) refl where
        by_blank : Later (e + length (line_at (drop e text))) (behind e (drop e text)) → Within (length text) (l ∷ behind e (drop e text)) → is_told (line_ahead false (length text) (l ∷ behind e (drop e text))).token ≡ true → (b : Bool) → is_blank (line_at (drop e text)) ≡ b → e + out_shown (line_at (drop e text)) < length text
        by_blank later w tells false b = line_within (length text) l (behind e (drop e text)) w.0 b tells
        by_blank later w tells true b = blank_within (length text) l (behind e (drop e text)) w later b tells

  by_end : (e ≡ length text) ⊎ (is_first_column text e ≡ true) → e + out_shown (line_at (drop e text)) < length text
  by_end (inl k) = (let z = some_ahead text false e within (λ n. true≢false (sym told ∙ ap is_told n)) in absurd (omega (arith, z, k)))
  by_end (inr f) = at_line f

-- ---- a scalar of any kind

-- where a value of a block stands
pub scalar_within : (s : Setting) (text : List ℕ) (at : ℕ) (t : List ℕ) (e : ℕ) → s.flow ≡ false → s.one_line ≡ false → at ≤ length text → e ≤ length text → text_start text ≤ at → at < e → is_told (ahead text false e).token ≡ true
    → (begins_quoted (drop at text) ≡ false → IsPointed text e → ⊥) → scalar_at s text at ≡ Stands t e → scalar_shown s text at e < length text
scalar_within s text at t e flow line low within late far told free h = by_kind (begins_quoted (drop at text)) refl (begins_block s (drop at text)) h where
  setting_is : s ≡ record { parent = s.parent; flow = false; one_line = false }
  setting_is = ap (λ (q : Bool). record { parent = s.parent; flow = q; one_line = s.one_line }) flow ∙ ap (λ (q : Bool). record { parent = s.parent; flow = false; one_line = q }) line

  plain : (begins_quoted (drop at text) ≡ false) → plain_scalar s text at ≡ Stands t e → plain_shown s (length text) (lines at (drop at text)) < length text
  plain q k =
      subst (λ (z : Setting). plain_shown z (length text) (lines at (drop at text)) < length text) (sym setting_is)
      (plain_within s.parent text at t e low late far told (free q) (sym (ap (λ z. plain_scalar z text at) setting_is) ∙ k))

  by_kind : (q : Bool) → begins_quoted (drop at text) ≡ q → (r : Bool) → cond q (quoted_scalar s text at) (cond r (block_scalar s text at) (plain_scalar s text at)) ≡ Stands t e
      → cond q e (cond r (e + out_shown (line_at (drop e text))) (plain_shown s (length text) (lines at (drop at text)))) < length text
  by_kind true q r k = some_ahead text false e within (λ n. true≢false (sym told ∙ ap is_told n))
  by_kind false q true k = block_within s text at t e within told k
  by_kind false q false k = plain q k
