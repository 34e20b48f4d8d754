-- The byte that shows the end of a plain scalar between brackets stands not behind the first one of what the place of that end has ahead, unless that is a colon, a line `---` or `...`, or the text's end. By induction over lines.
use Rattle.std.proofs.Common.{◌≡◌, ℕ, suc, ◌+◌, ◌≤◌, ◌⊎◌, inl, inr, Bool, true, false, ◌||◌, ◌&&◌, not, cond, nat_eq, nat_lt, arith, List, [], ◌∷◌, ◌++◌, drop, length, refl, sym, ap, ◌∙◌, subst, true≢false, length-drop}
use Rattle.std.proofs.lemmas.Bool.Decides.{nat_tests}
use Rattle.std.proofs.lemmas.List.{drop-drop}
use Rattle.std.specs.Prelude.{ℤ}
use Rattle.yaml_scalars.specs.declared.scalar.Setting.{Setting}
use Rattle.yaml_scalars.specs.declared.plain_line.Why.{Why}
use Rattle.yaml_scalars.specs.declared.plain_line.Why.TheVariants.{Break, Return, Colon, Comment, Mark}
use Rattle.yaml_scalars.specs.declared.plain_line.Below.{Below}
use Rattle.yaml_scalars.specs.declared.plain_line.Below.TheVariants.{Blank, Outside, Further}
use Rattle.yaml_scalars.specs.Lines.{Line, Stands, lines, begins_with, is_white, is_blank, lead, past_white, is_mark}
use Rattle.yaml_scalars.specs.Plain.{plain_len, content, content_end, why, reason, below, joined, joins, further, first, more, plain_on}
use Rattle.yaml_scalars.specs.Scalar.{is_first_column, plain_scalar}
use Rattle.yaml_scalars.specs.code.Walk.{line_at, has_break, behind}
use Rattle.yaml_scalars.proofs.Places.{lines_are, lead_le}
use Rattle.yaml_scalars.proofs.FurtherLines.{skip_le, plain_le}
use Rattle.yaml_laws.specs.code.Agreement.{out_shown, shown_by, part_shown, line_shown, more_shown, plain_shown}
use Rattle.yaml_laws.proofs.Agree.{Later, Within, behind_later, lines_within}
use Rattle.yaml_laws.proofs.BlockLaw.{fails_not}
use Rattle.yaml_laws.proofs.BlockShown.{blank_not}
use Rattle.yaml_laws.proofs.LineEnds.{mark_full}
use Rattle.yaml_laws.proofs.PlainDead.{drop_whole}
use Rattle.yaml_laws.proofs.PlainLines.{further_parts}
use Rattle.yaml_laws.proofs.PlainStays.{opens_stands}
use Rattle.yaml_laws.proofs.QuotedLaw.{lead_whole}
use Rattle.yaml_grammar.specs.declared.ahead.Ahead.{Ahead}
use Rattle.yaml_grammar.specs.declared.ahead.Token.TheVariants.{Dashes, Dots}
use Rattle.yaml_grammar.specs.Ahead.{has_return, is_passed, mark_of, token_at, token_of, content_ahead, line_ahead, rest_ahead, ahead}
use Rattle.yaml_grammar.specs.code.Steps.{is_open}
use Rattle.yaml_grammar.proofs.AheadEnds.{passes_line, passes_rest}
use Rattle.yaml_grammar.proofs.LineTails.{Tails, IsTail, tail_is, tails_of, inner_line}
use Rattle.yaml_grammar.proofs.PlainOrder.{stop_black, Behind, behind_content, colon_byte}

-- what is ahead is one over which the scalar may go on, or stands not before a place
abbrev pub OutOf : Ahead → ℕ → Type 0
OutOf a x = (is_open a.token ≡ true) ⊎ (x ≤ a.at)

-- ---- lines

pub later_at : (size p : ℕ) (ls : List Line) → p ≤ size → Later p ls → p ≤ (line_ahead true size ls).at
later_at size p [] z w = z
later_at size p (l ∷ ls) z w = by_tests (is_mark l.bytes) (is_passed true l.bytes) (later_at size p ls z w.1) where
  by_tests : (q r : Bool) → p ≤ (line_ahead true size ls).at → p ≤ (cond q (token_at (mark_of l.bytes) true 0 l.at) (cond r (line_ahead true size ls) (content_ahead true l.at l.bytes))).at
  by_tests true r h = let a = w.0 in omega (arith, a)
  by_tests false true h = h
  by_tests false false h = let a = w.0 in omega (arith, a)

pub mark_open : (xs : List ℕ) → is_open (mark_of xs) ≡ true
mark_open xs = by_dash (begins_with 45 xs) where
  by_dash : (q : Bool) → is_open (cond q Dashes Dots) ≡ true
  by_dash true = refl
  by_dash false = refl

line_content : (size : ℕ) (l : Line) (ls : List Line) → l.at + length l.bytes ≤ (line_ahead true size ls).at → OutOf (line_ahead true size (l ∷ ls)) (l.at + lead is_white l.bytes)
line_content size l ls far = by_tests (is_mark l.bytes) (is_passed true l.bytes) where
  by_tests : (q r : Bool) → OutOf (cond q (token_at (mark_of l.bytes) true 0 l.at) (cond r (line_ahead true size ls) (content_ahead true l.at l.bytes))) (l.at + lead is_white l.bytes)
  by_tests true r = inl (mark_open l.bytes)
  by_tests false true = inr (let a = lead_le is_white l.bytes in omega (arith, a, far))
  by_tests false false = inr (omega arith)

rest_content : (size : ℕ) (l : Line) (ls : List Line) → l.at + length l.bytes ≤ (line_ahead true size ls).at → OutOf (rest_ahead true size (l ∷ ls)) (l.at + lead is_white l.bytes)
rest_content size l ls far = by_test (is_passed false l.bytes) where
  by_test : (r : Bool) → OutOf (cond r (line_ahead true size ls) (token_at (token_of true (past_white l.bytes)) false (lead is_white l.bytes) (l.at + lead is_white l.bytes))) (l.at + lead is_white l.bytes)
  by_test true = inr (let a = lead_le is_white l.bytes in omega (arith, a, far))
  by_test false = inr (omega arith)

-- a colon is not passed over
colon_passed : (fresh : Bool) (xs z : List ℕ) → past_white xs ≡ 58 ∷ z → is_passed fresh xs ≡ false
colon_passed fresh xs z e =
    let n = ap (λ (t : List ℕ). length t) e in
    ap (λ q. q || ((fresh || nat_lt 0 (lead is_white xs)) && (begins_with 35 (past_white xs) && not (has_return xs)))) (blank_not xs (omega (arith, n, length-drop (lead is_white xs) xs)))
    ∙ ap (λ y. (fresh || nat_lt 0 (lead is_white xs)) && (begins_with 35 y && not (has_return xs))) e ∙ none (fresh || nat_lt 0 (lead is_white xs)) where
      none : (q : Bool) → (q && false) ≡ false
      none true = refl
      none false = refl

line_colon : (size : ℕ) (l : Line) (ls : List Line) (z : List ℕ) → past_white l.bytes ≡ 58 ∷ z → is_open (line_ahead true size (l ∷ ls)).token ≡ true
line_colon size l ls z e = by_mark (is_mark l.bytes) where
  by_mark : (q : Bool) → is_open (cond q (token_at (mark_of l.bytes) true 0 l.at) (cond (is_passed true l.bytes) (line_ahead true size ls) (content_ahead true l.at l.bytes))).token ≡ true
  by_mark true = mark_open l.bytes
  by_mark false = ap (λ r. is_open (cond r (line_ahead true size ls) (content_ahead true l.at l.bytes)).token) (colon_passed true l.bytes z e) ∙ ap (λ y. is_open (token_of true y)) e

rest_colon : (size : ℕ) (l : Line) (ls : List Line) (z : List ℕ) → past_white l.bytes ≡ 58 ∷ z → is_open (rest_ahead true size (l ∷ ls)).token ≡ true
rest_colon size l ls z e =
    ap (λ r. is_open (cond r (line_ahead true size ls) (token_at (token_of true (past_white l.bytes)) false (lead is_white l.bytes) (l.at + lead is_white l.bytes))).token) (colon_passed false l.bytes z e) ∙ ap (λ y. is_open (token_of true y)) e

pub blank_passed : (fresh : Bool) (xs : List ℕ) → is_blank xs ≡ true → is_passed fresh xs ≡ true
blank_passed fresh xs h = ap (λ q. q || ((fresh || nat_lt 0 (lead is_white xs)) && (begins_with 35 (past_white xs) && not (has_return xs)))) h

pub blank_unmarked : (xs : List ℕ) → is_blank xs ≡ true → is_mark xs ≡ false
blank_unmarked xs h = by_mark (is_mark xs) refl where
  by_mark : (q : Bool) → is_mark xs ≡ q → q ≡ false
  by_mark true e = absurd (true≢false (sym h ∙ mark_full xs e))
  by_mark false e = refl

pub line_over : (size : ℕ) (l : Line) (ls : List Line) → is_blank l.bytes ≡ true → line_ahead true size (l ∷ ls) ≡ line_ahead true size ls
line_over size l ls h = passes_line true size l ls (blank_unmarked l.bytes h) (blank_passed true l.bytes h)

-- what is ahead of a place, by the lines there
pub from_lines : (P : Ahead → Type 0) (text : List ℕ) (e : ℕ) (m : Line) (ls : List Line) → lines e (drop e text) ≡ m ∷ ls → P (line_ahead true (length text) (m ∷ ls)) → P (rest_ahead true (length text) (m ∷ ls)) → P (ahead text true e)
from_lines P text e m ls is a b = subst (λ ks. P (cond (is_first_column text e) (line_ahead true (length text) ks) (rest_ahead true (length text) ks))) (sym is) (by_column (is_first_column text e)) where
  by_column : (q : Bool) → P (cond q (line_ahead true (length text) (m ∷ ls)) (rest_ahead true (length text) (m ∷ ls)))
  by_column true = a
  by_column false = b

-- it stands not before the place
pub ahead_from : (text : List ℕ) (i : ℕ) → i ≤ length text → i ≤ (ahead text true i).at
ahead_from text i low = from_lines (λ a. i ≤ a.at) text i first_line ls (lines_are i (drop i text)) by_line by_rest where
  first_line : Line
  first_line = record { at = i; bytes = line_at (drop i text); broken = has_break (drop i text) }

  ls : List Line
  ls = behind i (drop i text)

  below : i ≤ (line_ahead true (length text) ls).at
  below = later_at (length text) i ls low (behind_later i i (drop i text) (omega arith))

  by_line : i ≤ (line_ahead true (length text) (first_line ∷ ls)).at
  by_line = by_tests (is_mark (line_at (drop i text))) (is_passed true (line_at (drop i text))) where
    by_tests : (q r : Bool) → i ≤ (cond q (token_at (mark_of (line_at (drop i text))) true 0 i) (cond r (line_ahead true (length text) ls) (content_ahead true i (line_at (drop i text))))).at
    by_tests true r = omega arith
    by_tests false true = below
    by_tests false false = omega arith

  by_rest : i ≤ (rest_ahead true (length text) (first_line ∷ ls)).at
  by_rest = by_test (is_passed false (line_at (drop i text))) where
    by_test : (r : Bool) → i ≤ (cond r (line_ahead true (length text) ls) (token_at (token_of true (past_white (line_at (drop i text)))) false (lead is_white (line_at (drop i text))) (i + lead is_white (line_at (drop i text))))).at
    by_test true = below
    by_test false = omega arith

-- ---- a part of a line of the text

module _ (text : List ℕ) (l : Line) (ls : List Line) (is : IsTail text l ls) (n : ℕ) (low : n ≤ length l.bytes) where
  abbrev pub size : ℕ
  size = length text

  abbrev pub part : List ℕ
  part = drop n l.bytes

  abbrev pub stop : ℕ
  stop = plain_len true false part

  abbrev pub long : ℕ
  long = length (content true part)

  abbrev pub end : ℕ
  end = content_end true part (l.at + n)

  abbrev pub bytes : List ℕ
  bytes = drop (n + long) l.bytes

  pub end_is : l.at + (n + long) ≡ end
  end_is = omega arith

  part_size : n + length part ≡ length l.bytes
  part_size = omega (arith, low, length-drop n l.bytes)

  pub far : l.at + length l.bytes ≤ (line_ahead true size ls).at
  far = later_at size (l.at + length l.bytes) ls is.1 is.2

  pub bytes_are : bytes ≡ drop long part
  bytes_are = sym (drop-drop long n l.bytes)

  short : (w : List ℕ) → Behind true part w → n + long ≤ length l.bytes
  short w h =
      let a = plain_le true false part in
      let b = h.2 in
      let c = part_size in
      omega (arith, a, b, c)

  pub inner : (w : List ℕ) → Behind true part w → (b : Bool) × (lines end (drop end text) ≡ record { at = end; bytes = bytes; broken = b } ∷ ls)
  inner w h = let r = inner_line text l ls is (n + long) (short w h) in (r.0, subst (λ e. lines e (drop e text) ≡ record { at = e; bytes = bytes; broken = r.0 } ∷ ls) end_is r.1)

  bytes_long : (w : List ℕ) → Behind true part w → end + length bytes ≡ l.at + length l.bytes
  bytes_long w h = let a = short w h in let b = end_is in omega (arith, a, b, length-drop (n + long) l.bytes)

  -- the line's end ends it
  pub at_break : (w : List ℕ) → Behind true part w → drop stop part ≡ [] → ahead text true end ≡ line_ahead true size ls
  at_break w h e =
      let r = inner w h in
      let blank : is_blank bytes ≡ true = ap is_blank (bytes_are ∙ h.0 ∙ ap (λ t. w ++ t) e) ∙ whole w h.1 in
      let m : Line = record { at = end; bytes = bytes; broken = r.0 } in
      from_lines (λ a. a ≡ line_ahead true size ls) text end m ls r.1 (line_over size m ls blank) (passes_rest true size m ls (blank_passed false bytes blank)) where
        whole : (w : List ℕ) → is_blank w ≡ true → is_blank (w ++ []) ≡ true
        whole [] h = refl
        whole (b ∷ w) h = by_white (is_white b) h (λ g. whole w g) where
          by_white : (q : Bool) → cond q (is_blank w) false ≡ true → (is_blank w ≡ true → is_blank (w ++ []) ≡ true) → cond q (is_blank (w ++ [])) false ≡ true
          by_white true h r = r h
          by_white false h r = h

  -- a byte ends it
  at_byte : (w : List ℕ) → Behind true part w → (c : ℕ) (z : List ℕ) → drop stop part ≡ c ∷ z → OutOf (ahead text true end) (l.at + n + stop) × (c ≡ 58 → is_open (ahead text true end).token ≡ true)
  at_byte w h c z e =
      let r = inner w h in
      let m : Line = record { at = end; bytes = bytes; broken = r.0 } in
      let parts : bytes ≡ w ++ (c ∷ z) = bytes_are ∙ h.0 ∙ ap (λ t. w ++ t) e in
      let whites : lead is_white bytes ≡ length w = ap (lead is_white) parts ∙ lead_whole w c z h.1 (stop_black true false part c z e) in
      let past : past_white bytes ≡ c ∷ z = ap (λ k. drop k bytes) whites ∙ ap (drop (length w)) parts ∙ drop_whole w (c ∷ z) in
      let near : end + length bytes ≤ (line_ahead true size ls).at = let f = far in let g = bytes_long w h in omega (arith, f, g) in
      let place : end + lead is_white bytes ≡ l.at + n + stop = let f = h.2 in let g = end_is in omega (arith, whites, f, g) in (
        subst (OutOf (ahead text true end)) place (from_lines (λ a. OutOf a (end + lead is_white bytes)) text end m ls r.1 (line_content size m ls near) (rest_content size m ls near)),
        (λ k. let colon : past_white bytes ≡ 58 ∷ z = past ∙ ap (λ d. d ∷ z) k in from_lines (λ a. is_open a.token ≡ true) text end m ls r.1 (line_colon size m ls z colon) (rest_colon size m ls z colon)),
      )

  pub part_out : (w : Why) → reason true part ≡ w → ((w ≡ Break → ⊥) → OutOf (ahead text true end) (shown_by w (l.at + n + stop))) × (w ≡ Break → ahead text true end ≡ line_ahead true size ls)
  part_out w e = let h = behind_content true part in by_rest h.0 h.1 (drop stop part) refl where
    some_why : (c : ℕ) (z : List ℕ) → why (c ∷ z) ≡ Break → ⊥
    some_why c z k = by_tests (nat_eq c 13) (nat_eq c 58) (nat_eq c 35) k where
      by_tests : (p q r : Bool) → cond p Return (cond q Colon (cond r Comment Mark)) ≡ Break → ⊥
      by_tests true q r k = cc
      by_tests false true r k = cc
      by_tests false false true k = cc
      by_tests false false false k = cc

    by_why : (c : ℕ) (z : List ℕ) → OutOf (ahead text true end) (l.at + n + stop) × (c ≡ 58 → is_open (ahead text true end).token ≡ true) → (v : Why) → why (c ∷ z) ≡ v → (v ≡ Break → ⊥) → OutOf (ahead text true end) (shown_by v (l.at + n + stop))
    by_why c z a Break k going = absurd (going refl)
    by_why c z a Return k going = a.0
    by_why c z a Colon k going = inl (a.1 (colon_byte c z k))
    by_why c z a Comment k going = a.0
    by_why c z a Mark k going = a.0

    by_rest : (v : List ℕ) → Behind true part v → (t : List ℕ) → drop stop part ≡ t → ((w ≡ Break → ⊥) → OutOf (ahead text true end) (shown_by w (l.at + n + stop))) × (w ≡ Break → ahead text true end ≡ line_ahead true size ls)
    by_rest v h [] i = ((λ going. absurd (going (sym e ∙ ap why i))), (λ k. at_break v h i))
    by_rest v h (c ∷ z) i = let a = at_byte v h c z i in let k : why (c ∷ z) ≡ w = sym (ap why i) ∙ e in ((λ going. by_why c z a w k going), (λ b. absurd (some_why c z (k ∙ b))))

-- ---- the lines below

pub same_place : (t u : List ℕ) (e f : ℕ) → Stands t e ≡ Stands u f → e ≡ f
same_place t u e f h = cc

module _ (p : ℤ) (o : Bool) where
  abbrev pub flow_setting : Setting
  flow_setting = record { parent = p; flow = true; one_line = o }

  pub below_blank : (xs : List ℕ) → below flow_setting xs ≡ Blank → is_blank xs ≡ true
  below_blank xs h = by_tests (is_blank xs) (is_mark xs) (begins_with 35 (past_white xs)) refl h where
    by_tests : (q m c : Bool) → is_blank xs ≡ q → cond q Blank (cond m Outside (cond c Outside (Further (lead is_white xs)))) ≡ Blank → is_blank xs ≡ true
    by_tests true m c i h = i
    by_tests false true c i h = absurd (cc)
    by_tests false false true i h = absurd (cc)
    by_tests false false false i h = absurd (cc)

  pub below_outside : (xs : List ℕ) → below flow_setting xs ≡ Outside → (is_mark xs ≡ true) ⊎ ((is_mark xs ≡ false) × ((z : List ℕ) × (past_white xs ≡ 35 ∷ z)))
  below_outside xs h = by_tests (is_blank xs) (is_mark xs) (past_white xs) refl refl h where
    by_first : (d : ℕ) (y : List ℕ) → past_white xs ≡ d ∷ y → (c : Bool) → nat_eq d 35 ≡ c → cond c Outside (Further (lead is_white xs)) ≡ Outside → (z : List ℕ) × (past_white xs ≡ 35 ∷ z)
    by_first d y i true k g = (y, i ∙ (let e : d ≡ 35 = grind (arith, nat_tests, k) in ap (λ b. b ∷ y) e))
    by_first d y i false k g = absurd (cc)

    by_tests : (q m : Bool) (y : List ℕ) → is_mark xs ≡ m → past_white xs ≡ y → cond q Blank (cond m Outside (cond (begins_with 35 y) Outside (Further (lead is_white xs)))) ≡ Outside → (is_mark xs ≡ true) ⊎ ((is_mark xs ≡ false) × ((z : List ℕ) × (past_white xs ≡ 35 ∷ z)))
    by_tests true m y i j h = absurd (cc)
    by_tests false true y i j h = inl i
    by_tests false false [] i j h = absurd (cc)
    by_tests false false (d ∷ y) i j h = inr (i, by_first d y j (nat_eq d 35) refl h)

  more_out : (text : List ℕ) (ls : List Line) (t : List ℕ) (e k : ℕ) (u : List ℕ) (f : ℕ) → Tails text ls → Within (length text) ls → ahead text true e ≡ line_ahead true (length text) ls → more flow_setting ls t e k ≡ Stands u f → OutOf (ahead text true f) (more_shown flow_setting (length text) ls)
  more_out text [] t e k u f tails w link h = subst (λ n. OutOf (ahead text true n) (length text)) (same_place t u e f h) (inl (ap (λ (a : Ahead). is_open a.token) link))
  more_out text (l ∷ ls) t e k u f tails w link h = by_below (below flow_setting l.bytes) refl h (λ x y z a b. more_out text ls x y z u f tails.1 w.1 a b) where
    is : IsTail text l ls
    is = tail_is text l ls tails.0 w.0

    over : l.at + length l.bytes ≤ (line_ahead true (length text) ls).at
    over = let i = is in later_at (length text) (l.at + length l.bytes) ls i.1 i.2

    here : (x : ℕ) → Stands t e ≡ Stands u f → OutOf (line_ahead true (length text) (l ∷ ls)) x → OutOf (ahead text true f) x
    here x g a = subst (λ n. OutOf (ahead text true n) x) (same_place t u e f g) (subst (λ (b : Ahead). OutOf b x) (sym link) a)

    -- a line that begins with what ends the scalar
    by_zero : (n : ℕ) → below flow_setting l.bytes ≡ Further n → (v : Why) → reason true (drop n l.bytes) ≡ v → (v ≡ Break → ⊥) → plain_len true false (drop n l.bytes) ≡ 0 → OutOf (line_ahead true (length text) (l ∷ ls)) (shown_by v (l.at + n + plain_len true false (drop n l.bytes)))
    by_zero n b v i going none = by_rest (drop n l.bytes) refl where
      white : n ≡ lead is_white l.bytes
      white = (further_parts flow_setting l.bytes n b).0

      zero : OutOf (line_ahead true (length text) (l ∷ ls)) (l.at + n + plain_len true false (drop n l.bytes))
      zero = subst (OutOf (line_ahead true (length text) (l ∷ ls))) (let a = white in omega (arith, a, none)) (line_content (length text) l ls over)

      by_why : (c : ℕ) (z : List ℕ) → drop n l.bytes ≡ c ∷ z → (v : Why) → why (c ∷ z) ≡ v → OutOf (line_ahead true (length text) (l ∷ ls)) (shown_by v (l.at + n + plain_len true false (drop n l.bytes)))
      by_why c z j Break g = zero
      by_why c z j Return g = zero
      by_why c z j Colon g = inl (line_colon (length text) l ls z (ap (λ m. drop m l.bytes) (sym white) ∙ j ∙ ap (λ d. d ∷ z) (colon_byte c z g)))
      by_why c z j Comment g = zero
      by_why c z j Mark g = zero

      by_rest : (y : List ℕ) → drop n l.bytes ≡ y → OutOf (line_ahead true (length text) (l ∷ ls)) (shown_by v (l.at + n + plain_len true false (drop n l.bytes)))
      by_rest [] j = absurd (going (sym i ∙ ap (reason true) j))
      by_rest (c ∷ z) j = by_why c z j v (sym (ap why (ap (λ m. drop m (drop n l.bytes)) none ∙ j)) ∙ i)

    by_ends : (n : ℕ) → below flow_setting l.bytes ≡ Further n → (v : Why) → reason true (drop n l.bytes) ≡ v → (v ≡ Break → ⊥) → (q : Bool) → nat_eq (plain_len true false (drop n l.bytes)) 0 ≡ q
        → cond q (Stands t e) (Stands (joined true (drop n l.bytes) t k) (content_end true (drop n l.bytes) (l.at + n))) ≡ Stands u f → OutOf (ahead text true f) (shown_by v (l.at + n + plain_len true false (drop n l.bytes)))
    by_ends n b v i going true j h = here (shown_by v (l.at + n + plain_len true false (drop n l.bytes))) h (by_zero n b v i going (grind (arith, nat_tests, j)))
    by_ends n b v i going false j h =
        subst (λ m. OutOf (ahead text true m) (shown_by v (l.at + n + plain_len true false (drop n l.bytes)))) (same_place _ u _ f h) ((part_out text l ls is n (skip_le flow_setting l.bytes n b) v i).0 going)

    by_why : (n : ℕ) → below flow_setting l.bytes ≡ Further n → (v : Why) → reason true (drop n l.bytes) ≡ v → joins true v (drop n l.bytes) (l.at + n) t e k (more flow_setting ls) ≡ Stands u f
        → ((x : List ℕ) (y z : ℕ) → ahead text true y ≡ line_ahead true (length text) ls → more flow_setting ls x y z ≡ Stands u f → OutOf (ahead text true f) (more_shown flow_setting (length text) ls))
        → OutOf (ahead text true f) (part_shown v (l.at + n + plain_len true false (drop n l.bytes)) (more_shown flow_setting (length text) ls))
    by_why n b Break i h go = go (joined true (drop n l.bytes) t k) (content_end true (drop n l.bytes) (l.at + n)) 0 ((part_out text l ls is n (skip_le flow_setting l.bytes n b) Break i).1 refl) h
    by_why n b Return i h go = absurd (fails_not _ u f h)
    by_why n b Colon i h go = by_ends n b Colon i (λ v. absurd (cc)) (nat_eq (plain_len true false (drop n l.bytes)) 0) refl h
    by_why n b Comment i h go = subst (λ m. OutOf (ahead text true m) (shown_by Comment (l.at + n + plain_len true false (drop n l.bytes)))) (same_place _ u _ f h) ((part_out text l ls is n (skip_le flow_setting l.bytes n b) Comment i).0 (λ v. absurd (cc)))
    by_why n b Mark i h go = by_ends n b Mark i (λ v. absurd (cc)) (nat_eq (plain_len true false (drop n l.bytes)) 0) refl h

    by_outside : (is_mark l.bytes ≡ true) ⊎ ((is_mark l.bytes ≡ false) × ((z : List ℕ) × (past_white l.bytes ≡ 35 ∷ z))) → OutOf (line_ahead true (length text) (l ∷ ls)) (l.at + out_shown l.bytes)
    by_outside (inl m) = inl (ap (λ q. is_open (cond q (token_at (mark_of l.bytes) true 0 l.at) (cond (is_passed true l.bytes) (line_ahead true (length text) ls) (content_ahead true l.at l.bytes))).token) m ∙ mark_open l.bytes)
    by_outside (inr (m, (z, c))) =
        let x : out_shown l.bytes ≡ lead is_white l.bytes = ap (λ q. cond q 4 (cond (begins_with 13 (past_white l.bytes)) (suc (lead is_white l.bytes)) (lead is_white l.bytes))) m ∙ ap (λ y. cond (begins_with 13 y) (suc (lead is_white l.bytes)) (lead is_white l.bytes)) c in
        subst (λ n. OutOf (line_ahead true (length text) (l ∷ ls)) (l.at + n)) (sym x) (line_content (length text) l ls over)

    by_below : (z : Below) → below flow_setting l.bytes ≡ z → further flow_setting z l.at l.bytes t e k (more flow_setting ls) ≡ Stands u f
        → ((x : List ℕ) (y z : ℕ) → ahead text true y ≡ line_ahead true (length text) ls → more flow_setting ls x y z ≡ Stands u f → OutOf (ahead text true f) (more_shown flow_setting (length text) ls))
        → OutOf (ahead text true f) (line_shown flow_setting z l.at l.bytes (more_shown flow_setting (length text) ls))
    by_below Blank i h go = go t e (suc k) (link ∙ line_over (length text) l ls (below_blank l.bytes i)) h
    by_below Outside i h go = here (l.at + out_shown l.bytes) h (by_outside (below_outside l.bytes i))
    by_below (Further n) i h go = by_why n i (reason true (drop n l.bytes)) refl h go

  -- ---- from its first line on

  first_out : (text : List ℕ) (l : Line) (ls : List Line) (u : List ℕ) (f : ℕ) → IsTail text l ls → Tails text ls → Within (length text) ls → first flow_setting (reason true l.bytes) l.at l.bytes ls ≡ Stands u f → OutOf (ahead text true f) (plain_shown flow_setting (length text) (l ∷ ls))
  first_out text l ls u f is tails w h = by_why (reason true l.bytes) refl h where
    zero : l.at + 0 ≡ l.at
    zero = omega arith

    last : ℕ
    last = content_end true l.bytes l.at

    stops : ℕ
    stops = l.at + plain_len true false l.bytes

    out : (v : Why) → reason true l.bytes ≡ v → ((v ≡ Break → ⊥) → OutOf (ahead text true last) (shown_by v stops)) × (v ≡ Break → ahead text true last ≡ line_ahead true (length text) ls)
    out v i =
        subst (λ a. ((v ≡ Break → ⊥) → OutOf (ahead text true (content_end true l.bytes a)) (shown_by v (a + plain_len true false l.bytes))) × (v ≡ Break → ahead text true (content_end true l.bytes a) ≡ line_ahead true (length text) ls)) zero
        (part_out text l ls is 0 (omega arith) v i)

    by_line : (v : Why) → reason true l.bytes ≡ v → (v ≡ Break → ⊥) → (q : Bool) → Stands (content true l.bytes) last ≡ Stands u f → OutOf (ahead text true f) (cond q (shown_by v stops) (shown_by v stops))
    by_line v i going true h = subst (λ m. OutOf (ahead text true m) (shown_by v stops)) (same_place _ u _ f h) ((out v i).0 going)
    by_line v i going false h = subst (λ m. OutOf (ahead text true m) (shown_by v stops)) (same_place _ u _ f h) ((out v i).0 going)

    by_break : reason true l.bytes ≡ Break → (q : Bool) → cond q (Stands (content true l.bytes) last) (more flow_setting ls (content true l.bytes) last 0) ≡ Stands u f → OutOf (ahead text true f) (cond q (shown_by Break stops) (more_shown flow_setting (length text) ls))
    by_break i true h =
        let a = is.1 in
        let b = is.2 in
        let c = plain_le true false l.bytes in
        let d = later_at (length text) (l.at + length l.bytes) ls a b in
        inr (subst (λ m. stops ≤ (ahead text true m).at) (same_place _ u _ f h) (subst (λ (x : Ahead). stops ≤ x.at) (sym ((out Break i).1 refl)) (omega (arith, c, d))))
    by_break i false h = more_out text ls (content true l.bytes) last 0 u f tails w ((out Break i).1 refl) h

    by_why : (v : Why) → reason true l.bytes ≡ v → first flow_setting v l.at l.bytes ls ≡ Stands u f → OutOf (ahead text true f) (cond o (shown_by v stops) (part_shown v stops (more_shown flow_setting (length text) ls)))
    by_why Break i h = by_break i o h
    by_why Return i h = absurd (fails_not _ u f h)
    by_why Colon i h = by_line Colon i (λ v. absurd (cc)) o h
    by_why Comment i h = by_line Comment i (λ v. absurd (cc)) o h
    by_why Mark i h = by_line Mark i (λ v. absurd (cc)) o h

  pub plain_out : (text : List ℕ) (at : ℕ) (u : List ℕ) (f : ℕ) → at ≤ length text → plain_scalar flow_setting text at ≡ Stands u f → OutOf (ahead text true f) (plain_shown flow_setting (length text) (lines at (drop at text)))
  plain_out text at u f low h =
      let xs = drop at text in
      let e = lines_are at xs in
      let l : Line = record { at = at; bytes = line_at xs; broken = has_break xs } in
      let o2 = subst (Tails text) e (tails_of text at) in
      let w = subst (Within (length text)) e (lines_within (length text) at xs (omega (arith, low, length-drop at text))) in
      let h2 : plain_on flow_setting (is_first_column text at) (l ∷ behind at xs) ≡ Stands u f = sym (ap (plain_on flow_setting (is_first_column text at)) e) ∙ h in
      let start = opens_stands flow_setting (is_first_column text at) l (behind at xs) u f h2 in
      subst (λ ls. OutOf (ahead text true f) (plain_shown flow_setting (length text) ls)) (sym e) (first_out text l (behind at xs) u f (tail_is text l (behind at xs) o2.0 w.0) o2.1 w.1 start.2)
