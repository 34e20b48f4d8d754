-- The byte that shows the end of a plain scalar stands not behind the one that shows what the place of that end has ahead. By induction over lines.
use Rattle.std.proofs.Common.{◌≡◌, ℕ, suc, ◌+◌, ◌≤◌, ◌⊎◌, inl, inr, Bool, true, false, ◌||◌, ◌&&◌, not, cond, nat_eq, nat_lt, arith, List, [], ◌∷◌, ◌++◌, take, drop, length, refl, sym, ap, ◌∙◌, subst, true≢false, append_assoc, length-drop, length-append, length-take}
use Rattle.std.proofs.lemmas.Bool.Decides.{nat_tests}
use Rattle.std.proofs.lemmas.List.{drop-drop, take-append-drop}
use Rattle.yaml_scalars.specs.declared.scalar.Setting.{Setting}
use Rattle.yaml_scalars.specs.declared.plain_line.Why.{Why}
use Rattle.yaml_scalars.specs.declared.plain_line.Why.TheVariants.{Break, Return, Colon, Comment, Mark}
use Rattle.yaml_scalars.specs.declared.plain_line.Below.{Below}
use Rattle.yaml_scalars.specs.declared.plain_line.Below.TheVariants.{Blank, Outside, Further}
use Rattle.yaml_scalars.specs.Lines.{Line, Stands, Fails, lines, begins_with, is_white, is_blank, lead, indent, past_white, trimmed, keep, is_mark, is_end}
use Rattle.yaml_scalars.specs.Plain.{above_of, is_flow_mark, is_unsafe, stops, plain_len, content, content_end, why, reason, inside, below, joined, ends_on, joins, further, first, more, plain_on}
use Rattle.yaml_scalars.specs.Block.{same, mark_len, may_end, shown, widest}
use Rattle.yaml_scalars.specs.Scalar.{is_first_column, plain_scalar}
use Rattle.yaml_scalars.specs.code.Walk.{line_at, has_break, behind}
use Rattle.yaml_scalars.proofs.Places.{lines_are}
use Rattle.yaml_scalars.proofs.FurtherLines.{skip_le, plain_le}
use Rattle.yaml_laws.specs.code.Agreement.{end_shown, out_shown, shown_by, part_shown, line_shown, more_shown, plain_shown}
use Rattle.yaml_grammar.specs.code.AheadSeen.{token_shown, first_return, content_shown, line_seen, rest_seen, ahead_seen}
use Rattle.yaml_laws.proofs.Agree.{Within, lines_within}
use Rattle.yaml_grammar.proofs.LineTails.{Tails, IsTail, tail_is, later_least, tails_of, inner_line, seen_from_lines}
use Rattle.yaml_grammar.proofs.AheadStays.{lead_content, widest_first}
use Rattle.yaml_laws.proofs.BlockLaw.{shown_fits}
use Rattle.yaml_laws.proofs.LineEnds.{mark_full}
use Rattle.yaml_laws.proofs.PlainDead.{drop_whole}
use Rattle.yaml_laws.proofs.PlainLines.{further_parts}
use Rattle.yaml_laws.proofs.PlainStays.{opens_stands}
use Rattle.yaml_laws.proofs.QuotedLaw.{lead_whole}
use Rattle.yaml_grammar.specs.Ahead.{has_return, is_passed}

-- ---- how far a line is looked at

-- behind a colon one more
abbrev Extra : ℕ → ℕ → Type 0
Extra c extra = (extra ≡ 0) ⊎ ((extra ≡ 1) × (c ≡ 58))

content_least : (fresh : Bool) (xs : List ℕ) (c : ℕ) (z : List ℕ) (extra : ℕ) → past_white xs ≡ c ∷ z → Extra c extra → lead is_white xs + extra ≤ content_shown fresh xs
content_least fresh xs c z extra e (inl n) = let a = lead_content fresh xs in omega (arith, a, n)
content_least fresh xs c z extra e (inr (n, m)) = by_comment (fresh || nat_lt 0 (lead is_white xs)) (begins_with 35 (past_white xs)) (ap (begins_with 35) e ∙ ap (λ c. nat_eq c 35) m) where
  colon : token_shown (past_white xs) ≡ 1
  colon = ap token_shown e ∙ ap (λ c. token_shown (c ∷ z)) m

  by_comment : (p q : Bool) → q ≡ false → lead is_white xs + extra ≤ cond (p && q) (first_return xs) (lead is_white xs + token_shown (past_white xs))
  by_comment p true i = absurd (true≢false i)
  by_comment true false i = let k = colon in omega (arith, n, k)
  by_comment false false i = let k = colon in omega (arith, n, k)

pub mark_lead : (xs : List ℕ) → is_mark xs ≡ true → lead is_white xs ≡ 0
mark_lead [] h = refl
mark_lead (a ∷ []) h = absurd (true≢false (sym h))
mark_lead (a ∷ b ∷ []) h = absurd (true≢false (sym h))
mark_lead (a ∷ b ∷ c ∷ rest) h = by_dash (nat_eq a 45 || nat_eq a 46) refl h where
  by_dash : (q : Bool) → (nat_eq a 45 || nat_eq a 46) ≡ q → (q && (nat_eq a b && (nat_eq a c && is_end rest))) ≡ true → lead is_white (a ∷ b ∷ c ∷ rest) ≡ 0
  by_dash true e h = let w : is_white a ≡ false = grind (arith, nat_tests, e) in ap (λ q. cond q (suc (lead is_white (b ∷ c ∷ rest))) 0) w
  by_dash false e h = absurd (true≢false (sym h))

extra_most : (c extra : ℕ) → Extra c extra → extra ≤ 1
extra_most c extra (inl n) = omega (arith, n)
extra_most c extra (inr n) = let m = n.0 in omega (arith, m)

widest_second : (a b : ℕ) → b ≤ widest a b
widest_second a b = let z = widest_first a b (widest a b) (omega arith) in z.1

first_within : (xs : List ℕ) (c : ℕ) (z : List ℕ) → past_white xs ≡ c ∷ z → lead is_white xs + 1 ≤ length xs
first_within xs c z e = let a = ap (λ (t : List ℕ). length t) e in omega (arith, a, length-drop (lead is_white xs) xs)

line_least : (size : ℕ) (l : Line) (ls : List Line) (c : ℕ) (z : List ℕ) (extra : ℕ) → past_white l.bytes ≡ c ∷ z → Extra c extra → l.at + length l.bytes ≤ line_seen size ls → l.at + lead is_white l.bytes + extra ≤ line_seen size (l ∷ ls)
line_least size l ls c z extra e x far = by_tests (is_mark l.bytes) refl (is_passed true l.bytes) where
  by_tests : (q : Bool) → is_mark l.bytes ≡ q → (r : Bool) → l.at + lead is_white l.bytes + extra ≤ cond q (l.at + 4) (cond r (line_seen size ls) (l.at + widest (shown l.bytes) (content_shown true l.bytes)))
  by_tests true i r = let a = mark_lead l.bytes i in let b = extra_most c extra x in omega (arith, a, b)
  by_tests false i true = let a = first_within l.bytes c z e in let b = extra_most c extra x in omega (arith, a, b, far)
  by_tests false i false = let a = content_least true l.bytes c z extra e x in let b = widest_second (shown l.bytes) (content_shown true l.bytes) in omega (arith, a, b)

rest_least : (size : ℕ) (l : Line) (ls : List Line) (c : ℕ) (z : List ℕ) (extra : ℕ) → past_white l.bytes ≡ c ∷ z → Extra c extra → l.at + length l.bytes ≤ line_seen size ls → l.at + lead is_white l.bytes + extra ≤ rest_seen size (l ∷ ls)
rest_least size l ls c z extra e x far = by_test (is_passed false l.bytes) where
  by_test : (r : Bool) → l.at + lead is_white l.bytes + extra ≤ cond r (line_seen size ls) (l.at + content_shown false l.bytes)
  by_test true = let a = first_within l.bytes c z e in let b = extra_most c extra x in omega (arith, a, b, far)
  by_test false = let a = content_least false l.bytes c z extra e x in omega (arith, a)

-- a blank line is passed over
blank_passed : (fresh : Bool) (xs : List ℕ) → is_blank xs ≡ true → is_passed fresh xs ≡ true
blank_passed fresh xs h = ap (λ q. q || ((fresh || nat_lt 0 (lead is_white xs)) && (begins_with 35 (past_white xs) && not (has_return xs)))) h

pub line_blank : (size : ℕ) (l : Line) (ls : List Line) → is_blank l.bytes ≡ true → line_seen size (l ∷ ls) ≡ line_seen size ls
line_blank size l ls h = by_mark (is_mark l.bytes) refl where
  by_mark : (q : Bool) → is_mark l.bytes ≡ q → cond q (l.at + 4) (cond (is_passed true l.bytes) (line_seen size ls) (l.at + widest (shown l.bytes) (content_shown true l.bytes))) ≡ line_seen size ls
  by_mark true e = absurd (true≢false (sym h ∙ mark_full l.bytes e))
  by_mark false e = ap (λ q. cond q (line_seen size ls) (l.at + widest (shown l.bytes) (content_shown true l.bytes))) (blank_passed true l.bytes h)

rest_blank : (size : ℕ) (l : Line) (ls : List Line) → is_blank l.bytes ≡ true → rest_seen size (l ∷ ls) ≡ line_seen size ls
rest_blank size l ls h = ap (λ q. cond q (line_seen size ls) (l.at + content_shown false l.bytes)) (blank_passed false l.bytes h)

-- a line that ends a scalar above it, whatever it is
white_unmarked : (b : ℕ) → (nat_eq b 32 || nat_eq b 9) ≡ true → (nat_eq b 45 || nat_eq b 46) ≡ false
white_unmarked b w = by_space (nat_eq b 32) (nat_eq b 9) refl refl w where
  by_space : (p q : Bool) → nat_eq b 32 ≡ p → nat_eq b 9 ≡ q → (p || q) ≡ true → (nat_eq b 45 || nat_eq b 46) ≡ false
  by_space true q e f h = let k : b ≡ 32 = grind (arith, nat_tests, e) in ap (λ d. nat_eq d 45 || nat_eq d 46) k
  by_space false true e f h = let k : b ≡ 9 = grind (arith, nat_tests, f) in ap (λ d. nat_eq d 45 || nat_eq d 46) k
  by_space false false e f h = absurd (true≢false (sym h))

shown_lead : (xs : List ℕ) → lead is_white xs ≤ shown xs
shown_lead xs = by_byte (begins_with 13 (drop (lead is_white xs + mark_len xs) xs) && may_end (mark_len xs)) where
  by_byte : (q : Bool) → lead is_white xs ≤ cond q (suc (lead is_white xs + mark_len xs)) (lead is_white xs + mark_len xs)
  by_byte true = omega arith
  by_byte false = omega arith

return_unmarked : (xs : List ℕ) → begins_with 13 (drop (lead is_white xs) xs) ≡ true → mark_len xs ≡ 0
return_unmarked [] e = refl
return_unmarked (b ∷ bs) e = by_white (nat_eq b 32 || nat_eq b 9) refl e where
  none : (nat_eq b 45 || nat_eq b 46) ≡ false → cond (nat_eq b 45 || nat_eq b 46) (suc (same b 2 bs)) 0 ≡ 0
  none n = ap (λ q. cond q (suc (same b 2 bs)) 0) n

  by_white : (q : Bool) → (nat_eq b 32 || nat_eq b 9) ≡ q → begins_with 13 (drop (cond q (suc (lead is_white bs)) 0) (b ∷ bs)) ≡ true → cond (nat_eq b 45 || nat_eq b 46) (suc (same b 2 bs)) 0 ≡ 0
  by_white true w e = none (white_unmarked b w)
  by_white false w e = none (let k : b ≡ 13 = grind (arith, nat_tests, e) in ap (λ d. nat_eq d 45 || nat_eq d 46) k)

return_lead : (xs : List ℕ) → begins_with 13 (drop (lead is_white xs) xs) ≡ true → suc (lead is_white xs) ≤ shown xs
return_lead xs e =
    let same_shown : shown xs ≡ suc (lead is_white xs) = ap (λ k. cond (begins_with 13 (drop (lead is_white xs + k) xs) && may_end k) (suc (lead is_white xs + k)) (lead is_white xs + k)) (return_unmarked xs e)
    ∙ ap (λ m. cond (begins_with 13 (drop m xs) && may_end 0) (suc m) m) (let y : lead is_white xs + 0 ≡ lead is_white xs = omega arith in y) ∙ ap (λ q. cond (q && may_end 0) (suc (lead is_white xs)) (lead is_white xs)) e in
    omega (arith, same_shown)

pub out_least : (xs : List ℕ) → out_shown xs ≤ end_shown xs
out_least xs = by_mark (is_mark xs) where
  by_mark : (q : Bool) → cond q 4 (cond (begins_with 13 (drop (lead is_white xs) xs)) (suc (lead is_white xs)) (lead is_white xs)) ≤ cond q 4 (shown xs)
  by_mark true = omega arith
  by_mark false = by_return (begins_with 13 (drop (lead is_white xs) xs)) refl where
    by_return : (r : Bool) → begins_with 13 (drop (lead is_white xs) xs) ≡ r → cond r (suc (lead is_white xs)) (lead is_white xs) ≤ shown xs
    by_return false e = let z = shown_lead xs in omega (arith, z)
    by_return true e = return_lead xs e

pub line_ends : (size : ℕ) (l : Line) (ls : List Line) → l.at + length l.bytes ≤ line_seen size ls → l.at + end_shown l.bytes ≤ line_seen size (l ∷ ls)
line_ends size l ls far = by_tests (is_mark l.bytes) (is_passed true l.bytes) where
  by_tests : (q r : Bool) → l.at + cond q 4 (shown l.bytes) ≤ cond q (l.at + 4) (cond r (line_seen size ls) (l.at + widest (shown l.bytes) (content_shown true l.bytes)))
  by_tests true r = omega arith
  by_tests false true = let a = shown_fits l.bytes in omega (arith, a, far)
  by_tests false false = let z = widest_first (shown l.bytes) (content_shown true l.bytes) (widest (shown l.bytes) (content_shown true l.bytes)) (omega arith) in let a = z.0 in omega (arith, a)

-- ---- what a part of a line has behind its content

-- bytes are those without the white space at their end, and then that
trim_split : (xs : List ℕ) → (w : List ℕ) × (xs ≡ trimmed xs ++ w) × (is_blank w ≡ true)
trim_split [] = ([], refl, refl)
trim_split (b ∷ bs) = let r = trim_split bs in by_rest (trimmed bs) r.0 r.1 r.2 where
  by_white : (q : Bool) → is_white b ≡ q → (w : List ℕ) → bs ≡ w → is_blank w ≡ true → (v : List ℕ) × (b ∷ bs ≡ cond q [] (b ∷ []) ++ v) × (is_blank v ≡ true)
  by_white true e w i h = (b ∷ w, ap (λ t. b ∷ t) i, ap (λ q. cond q (is_blank w) false) e ∙ h)
  by_white false e w i h = (w, ap (λ t. b ∷ t) i, h)

  by_rest : (t : List ℕ) (w : List ℕ) → bs ≡ t ++ w → is_blank w ≡ true → (v : List ℕ) × (b ∷ bs ≡ keep b t ++ v) × (is_blank v ≡ true)
  by_rest [] w e h = by_white (is_white b) refl w e h
  by_rest (c ∷ t) w e h = (w, ap (λ t. b ∷ t) e, h)

pub stop_black : (flow white : Bool) (xs : List ℕ) (c : ℕ) (z : List ℕ) → drop (plain_len flow white xs) xs ≡ c ∷ z → is_white c ≡ false
stop_black flow white [] c z e = absurd (cc)
stop_black flow white (b ∷ bs) c z e = by_stop (stops flow white b bs) refl e (λ g. stop_black flow (is_white b) bs c z g) where
  by_tests : (p q r s i : Bool) → nat_eq b 58 ≡ p → nat_eq b 35 ≡ q → is_flow_mark b ≡ r → nat_eq b 13 ≡ s → ((((p && i) || (q && white)) || (flow && r)) || s) ≡ true → is_white b ≡ false
  by_tests true q r s i j k m n h = grind (arith, nat_tests, j)
  by_tests false true r s i j k m n h = grind (arith, nat_tests, k)
  by_tests false false true s i j k m n h = grind (arith, nat_tests, m)
  by_tests false false false true i j k m n h = grind (arith, nat_tests, n)
  by_tests false false false false i j k m n h = by_flow flow h where
    by_flow : (w : Bool) → ((w && false) || false) ≡ true → is_white b ≡ false
    by_flow true h = absurd (true≢false (sym h))
    by_flow false h = absurd (true≢false (sym h))

  by_stop : (q : Bool) → stops flow white b bs ≡ q → drop (cond q 0 (suc (plain_len flow (is_white b) bs))) (b ∷ bs) ≡ c ∷ z → (drop (plain_len flow (is_white b) bs) bs ≡ c ∷ z → is_white c ≡ false) → is_white c ≡ false
  by_stop true s e r =
      let same : b ≡ c = cc in
      ap is_white (sym same) ∙ by_tests (nat_eq b 58) (nat_eq b 35) (is_flow_mark b) (nat_eq b 13) (is_unsafe flow bs) refl refl refl refl s
  by_stop false s e r = r e

-- behind the content stands white space, and then the line's end or the byte that ends it
abbrev pub Behind : Bool → List ℕ → List ℕ → Type 0
Behind flow part w = (drop (length (content flow part)) part ≡ w ++ drop (plain_len flow false part) part) × (is_blank w ≡ true) × (length (content flow part) + length w ≡ plain_len flow false part)

pub behind_content : (flow : Bool) (part : List ℕ) → (w : List ℕ) × Behind flow part w
behind_content flow part =
    let n = plain_len flow false part in
    let k = content flow part in
    let (w, e, h) = trim_split (take n part) in
    let low = plain_le flow false part in
    let a = ap (λ (t : List ℕ). length t) e in
    let whole : part ≡ k ++ (w ++ drop n part) = sym (take-append-drop n part) ∙ ap (λ t. t ++ drop n part) e ∙ append_assoc k w (drop n part) in
    (w, (ap (drop (length k)) whole ∙ drop_whole k (w ++ drop n part), h, omega (arith, a, length-append k w, length-take n part, low)))

-- a colon ends it
pub colon_byte : (c : ℕ) (z : List ℕ) → why (c ∷ z) ≡ Colon → c ≡ 58
colon_byte c z k = by_tests (nat_eq c 13) (nat_eq c 58) (nat_eq c 35) refl k where
  by_tests : (p q r : Bool) → nat_eq c 58 ≡ q → cond p Return (cond q Colon (cond r Comment Mark)) ≡ Colon → c ≡ 58
  by_tests true q r n k = absurd (cc)
  by_tests false true r n k = grind (arith, nat_tests, n)
  by_tests false false true n k = absurd (cc)
  by_tests false false false n k = absurd (cc)

-- ---- a part of a line of the text

module _ (text : List ℕ) (l : Line) (ls : List Line) (is : IsTail text l ls) (flow : Bool) (n : ℕ) (low : n ≤ length l.bytes) where
  abbrev pub part : List ℕ
  part = drop n l.bytes

  abbrev pub stop : ℕ
  stop = plain_len flow false part

  abbrev pub long : ℕ
  long = length (content flow part)

  abbrev pub end : ℕ
  end = content_end flow part (l.at + n)

  pub end_is : l.at + (n + long) ≡ end
  end_is = omega arith

  size : n + length part ≡ length l.bytes
  size = omega (arith, low, length-drop n l.bytes)

  far : l.at + length l.bytes ≤ line_seen (length text) ls
  far = later_least (length text) (l.at + length l.bytes) ls is.1 is.2

  abbrev pub bytes : List ℕ
  bytes = drop (n + long) l.bytes

  pub bytes_are : bytes ≡ drop long part
  bytes_are = sym (drop-drop long n l.bytes)

  short : (w : List ℕ) → Behind flow part w → n + long ≤ length l.bytes
  short w h =
      let a = plain_le flow false part in
      let b = h.2 in
      let c = size in
      omega (arith, a, b, c)

  pub inner : (w : List ℕ) → Behind flow part w → (b : Bool) × (lines end (drop end text) ≡ record { at = end; bytes = bytes; broken = b } ∷ ls)
  inner w h = let r = inner_line text l ls is (n + long) (short w h) in (r.0, subst (λ e. lines e (drop e text) ≡ record { at = e; bytes = bytes; broken = r.0 } ∷ ls) end_is r.1)

  bytes_long : (w : List ℕ) → Behind flow part w → end + length bytes ≡ l.at + length l.bytes
  bytes_long w h = let a = short w h in let b = end_is in omega (arith, a, b, length-drop (n + long) l.bytes)

  -- the line's end ends it
  at_break : (w : List ℕ) → Behind flow part w → drop stop part ≡ [] → line_seen (length text) ls ≤ ahead_seen text end
  at_break w h e =
      let r = inner w h in
      let blank : is_blank bytes ≡ true = ap is_blank (bytes_are ∙ h.0 ∙ ap (λ t. w ++ t) e) ∙ whole w h.1 in
      let m : Line = record { at = end; bytes = bytes; broken = r.0 } in
      let x = line_blank (length text) m ls blank in
      let y = rest_blank (length text) m ls blank in
      seen_from_lines text end m ls (line_seen (length text) ls) r.1 (omega (arith, x)) (omega (arith, y)) where
        whole : (w : List ℕ) → is_blank w ≡ true → is_blank (w ++ []) ≡ true
        whole [] h = refl
        whole (b ∷ w) h = by_white (is_white b) h (λ g. whole w g) where
          by_white : (q : Bool) → cond q (is_blank w) false ≡ true → (is_blank w ≡ true → is_blank (w ++ []) ≡ true) → cond q (is_blank (w ++ [])) false ≡ true
          by_white true h r = r h
          by_white false h r = h

  -- a byte ends it
  at_byte : (w : List ℕ) → Behind flow part w → (c : ℕ) (z : List ℕ) (extra : ℕ) → drop stop part ≡ c ∷ z → Extra c extra → l.at + n + stop + extra ≤ ahead_seen text end
  at_byte w h c z extra e x =
      let r = inner w h in
      let m : Line = record { at = end; bytes = bytes; broken = r.0 } in
      let parts : bytes ≡ w ++ (c ∷ z) = bytes_are ∙ h.0 ∙ ap (λ t. w ++ t) e in
      let whites : lead is_white bytes ≡ length w = ap (lead is_white) parts ∙ lead_whole w c z h.1 (stop_black flow false part c z e) in
      let past : past_white bytes ≡ c ∷ z = ap (λ k. drop k bytes) whites ∙ ap (drop (length w)) parts ∙ drop_whole w (c ∷ z) in
      let near : end + length bytes ≤ line_seen (length text) ls = let f = far in let g = bytes_long w h in omega (arith, f, g) in
      let least = seen_from_lines text end m ls (end + lead is_white bytes + extra) r.1 (line_least (length text) m ls c z extra past x near) (rest_least (length text) m ls c z extra past x near) in
      let f = h.2 in
      let g = end_is in
      omega (arith, least, whites, f, g)

  -- what ends the part is shown by what is ahead of its content's end; where the line's end does, so is what stands below
  pub part_seen : (w : Why) → reason flow part ≡ w → (shown_by w (l.at + n + stop) ≤ ahead_seen text end) × (w ≡ Break → line_seen (length text) ls ≤ ahead_seen text end)
  part_seen w e = let h = behind_content flow part in by_rest h.0 h.1 (drop stop part) refl where
    by_colon : (w : List ℕ) → Behind flow part w → (c : ℕ) (z : List ℕ) → drop stop part ≡ c ∷ z → (v : Why) → why (c ∷ z) ≡ v → (shown_by v (l.at + n + stop) ≤ ahead_seen text end) × (v ≡ Break → line_seen (length text) ls ≤ ahead_seen text end)
    by_colon w h c z i Break k = absurd (not_break c z k) where
      not_break : (c : ℕ) (z : List ℕ) → why (c ∷ z) ≡ Break → ⊥
      not_break c z k = by_tests (nat_eq c 13) (nat_eq c 58) (nat_eq c 35) k where
        by_tests : (p q r : Bool) → cond p Return (cond q Colon (cond r Comment Mark)) ≡ Break → ⊥
        by_tests true q r k = cc
        by_tests false true r k = cc
        by_tests false false true k = cc
        by_tests false false false k = cc
    by_colon w h c z i Colon k = (let a = at_byte w h c z 1 i (inr (refl, colon_byte c z k)) in omega (arith, a), λ v. absurd (cc))
    by_colon w h c z i Return k = (let a = at_byte w h c z 0 i (inl refl) in omega (arith, a), λ v. absurd (cc))
    by_colon w h c z i Comment k = (let a = at_byte w h c z 0 i (inl refl) in omega (arith, a), λ v. absurd (cc))
    by_colon w h c z i Mark k = (let a = at_byte w h c z 0 i (inl refl) in omega (arith, a), λ v. absurd (cc))

    by_rest : (v : List ℕ) → Behind flow part v → (t : List ℕ) → drop stop part ≡ t → (shown_by w (l.at + n + stop) ≤ ahead_seen text end) × (w ≡ Break → line_seen (length text) ls ≤ ahead_seen text end)
    by_rest v h [] i =
        let break : w ≡ Break = sym e ∙ ap why i in
        let a = at_break v h i in
        let f = far in
        let g = plain_le flow false part in
        let s = size in
        (subst (λ w. shown_by w (l.at + n + stop) ≤ ahead_seen text end) (sym break) (omega (arith, a, f, g, s)), λ v. a)
    by_rest v h (c ∷ z) i = by_colon v h c z i w (sym (ap why i) ∙ e)

-- ---- the lines below

below_blank : (s : Setting) (xs : List ℕ) → below s xs ≡ Blank → is_blank xs ≡ true
below_blank s xs h = by_blank (is_blank xs) refl h where
  inside_not : (q : Bool) → cond (is_mark xs) Outside (inside s xs) ≡ Blank → ⊥
  inside_not q h = by_tests (is_mark xs) s.flow (begins_with 35 (past_white xs)) (nat_lt (indent xs) (above_of s.parent) || begins_with 9 (drop (indent xs) xs)) (begins_with 35 (drop (indent xs) xs)) h where
    by_tests : (m w c a d : Bool) → cond m Outside (cond w (cond c Outside (Further (lead is_white xs))) (cond a Outside (cond d Outside (Further (indent xs))))) ≡ Blank → ⊥
    by_tests true w c a d h = cc
    by_tests false true true a d h = cc
    by_tests false true false a d h = cc
    by_tests false false c true d h = cc
    by_tests false false c false true h = cc
    by_tests false false c false false h = cc

  by_blank : (q : Bool) → is_blank xs ≡ q → cond q Blank (cond (is_mark xs) Outside (inside s xs)) ≡ Blank → is_blank xs ≡ true
  by_blank true e h = e
  by_blank false e h = absurd (inside_not true h)

-- a further line that begins with what ends the scalar
zero_seen : (s : Setting) (size : ℕ) (l : Line) (ls : List Line) (n : ℕ) (w : Why) → below s l.bytes ≡ Further n → l.at + length l.bytes ≤ line_seen size ls → plain_len s.flow false (drop n l.bytes) ≡ 0 → reason s.flow (drop n l.bytes) ≡ w → (w ≡ Break → ⊥) → shown_by w (l.at + n + plain_len s.flow false (drop n l.bytes)) ≤ line_seen size (l ∷ ls)
zero_seen s size l ls n w b far none e going = by_rest (drop n l.bytes) refl where
  white : n ≡ lead is_white l.bytes
  white = (further_parts s l.bytes n b).0

  by_why : (c : ℕ) (z : List ℕ) → drop n l.bytes ≡ c ∷ z → (v : Why) → why (c ∷ z) ≡ v → shown_by v (l.at + n + plain_len s.flow false (drop n l.bytes)) ≤ line_seen size (l ∷ ls)
  by_why c z i v k = by_colon v k where
    past : past_white l.bytes ≡ c ∷ z
    past = ap (λ j. drop j l.bytes) (sym white) ∙ i

    zero : l.at + n + plain_len s.flow false (drop n l.bytes) ≤ line_seen size (l ∷ ls)
    zero = let a = line_least size l ls c z 0 past (inl refl) far in let b = white in omega (arith, a, b, none)

    by_colon : (v : Why) → why (c ∷ z) ≡ v → shown_by v (l.at + n + plain_len s.flow false (drop n l.bytes)) ≤ line_seen size (l ∷ ls)
    by_colon Break k = zero
    by_colon Return k = zero
    by_colon Colon k = let a = line_least size l ls c z 1 past (inr (refl, colon_byte c z k)) far in let b = white in omega (arith, a, b, none)
    by_colon Comment k = zero
    by_colon Mark k = zero

  by_rest : (t : List ℕ) → drop n l.bytes ≡ t → shown_by w (l.at + n + plain_len s.flow false (drop n l.bytes)) ≤ line_seen size (l ∷ ls)
  by_rest [] i = absurd (going (sym e ∙ ap (reason s.flow) i))
  by_rest (c ∷ z) i = by_why c z i w (sym (ap why (ap (λ k. drop k (drop n l.bytes)) none ∙ i)) ∙ e)

same_place : (t u : List ℕ) (e f : ℕ) → Stands t e ≡ Stands u f → e ≡ f
same_place t u e f h = cc

fails_not : (p : ℕ) (u : List ℕ) (f : ℕ) → Fails p ≡ Stands u f → ⊥
fails_not p u f h = cc

-- what shows the end over the lines below is shown by what is ahead of the end
more_seen : (s : Setting) (text : List ℕ) (ls : List Line) (t : List ℕ) (e k : ℕ) (u : List ℕ) (f : ℕ) → Tails text ls → Within (length text) ls → line_seen (length text) ls ≤ ahead_seen text e → more s ls t e k ≡ Stands u f → more_shown s (length text) ls ≤ ahead_seen text f
more_seen s text [] t e k u f o w near h = subst (λ e. length text ≤ ahead_seen text e) (same_place t u e f h) near
more_seen s text (l ∷ ls) t e k u f o w near h = by_below (below s l.bytes) refl h (λ x y z a b. more_seen s text ls x y z u f o.1 w.1 a b) where
  is : IsTail text l ls
  is = tail_is text l ls o.0 w.0

  far : l.at + length l.bytes ≤ line_seen (length text) ls
  far = let i = is in later_least (length text) (l.at + length l.bytes) ls i.1 i.2

  On : Type 0
  On = (x : List ℕ) (y z : ℕ) → line_seen (length text) ls ≤ ahead_seen text y → more s ls x y z ≡ Stands u f → more_shown s (length text) ls ≤ ahead_seen text f

  by_ends : (n : ℕ) → below s l.bytes ≡ Further n → (v : Why) → reason s.flow (drop n l.bytes) ≡ v → (v ≡ Break → ⊥) → (q : Bool) → nat_eq (plain_len s.flow false (drop n l.bytes)) 0 ≡ q
      → cond q (Stands t e) (Stands (joined s.flow (drop n l.bytes) t k) (content_end s.flow (drop n l.bytes) (l.at + n))) ≡ Stands u f → shown_by v (l.at + n + plain_len s.flow false (drop n l.bytes)) ≤ ahead_seen text f
  by_ends n b v i going true j h =
      let a = zero_seen s (length text) l ls n v b far (grind (arith, nat_tests, j)) i going in
      subst (λ e. shown_by v (l.at + n + plain_len s.flow false (drop n l.bytes)) ≤ ahead_seen text e) (same_place t u e f h) (omega (arith, a, near))
  by_ends n b v i going false j h =
      subst (λ e. shown_by v (l.at + n + plain_len s.flow false (drop n l.bytes)) ≤ ahead_seen text e) (same_place _ u _ f h) (part_seen text l ls is s.flow n (skip_le s l.bytes n b) v i).0

  by_why : (n : ℕ) → below s l.bytes ≡ Further n → (v : Why) → reason s.flow (drop n l.bytes) ≡ v → joins s.flow v (drop n l.bytes) (l.at + n) t e k (more s ls) ≡ Stands u f → ((x : List ℕ) (y z : ℕ) → line_seen (length text) ls ≤ ahead_seen text y → more s ls x y z ≡ Stands u f → more_shown s (length text) ls ≤ ahead_seen text f)
      → part_shown v (l.at + n + plain_len s.flow false (drop n l.bytes)) (more_shown s (length text) ls) ≤ ahead_seen text f
  by_why n b Break i h go = go (joined s.flow (drop n l.bytes) t k) (content_end s.flow (drop n l.bytes) (l.at + n)) 0 ((part_seen text l ls is s.flow n (skip_le s l.bytes n b) Break i).1 refl) h
  by_why n b Return i h go = absurd (fails_not _ u f h)
  by_why n b Colon i h go = by_flow s.flow h where
    by_flow : (q : Bool) → cond q (ends_on s.flow (drop n l.bytes) (l.at + n) t e k) (Fails (l.at + n + plain_len s.flow false (drop n l.bytes) + 1)) ≡ Stands u f → shown_by Colon (l.at + n + plain_len s.flow false (drop n l.bytes)) ≤ ahead_seen text f
    by_flow true h = by_ends n b Colon i (λ v. absurd (cc)) (nat_eq (plain_len s.flow false (drop n l.bytes)) 0) refl h
    by_flow false h = absurd (fails_not _ u f h)
  by_why n b Comment i h go = subst (λ e. shown_by Comment (l.at + n + plain_len s.flow false (drop n l.bytes)) ≤ ahead_seen text e) (same_place _ u _ f h) (part_seen text l ls is s.flow n (skip_le s l.bytes n b) Comment i).0
  by_why n b Mark i h go = by_ends n b Mark i (λ v. absurd (cc)) (nat_eq (plain_len s.flow false (drop n l.bytes)) 0) refl h

  by_below : (z : Below) → below s l.bytes ≡ z → further s z l.at l.bytes t e k (more s ls) ≡ Stands u f → ((x : List ℕ) (y z : ℕ) → line_seen (length text) ls ≤ ahead_seen text y → more s ls x y z ≡ Stands u f → more_shown s (length text) ls ≤ ahead_seen text f)
      → line_shown s z l.at l.bytes (more_shown s (length text) ls) ≤ ahead_seen text f
  by_below Blank i h go = go t e (suc k) (let a = line_blank (length text) l ls (below_blank s l.bytes i) in omega (arith, a, near)) h
  by_below Outside i h go = let a = line_ends (length text) l ls far in let b = out_least l.bytes in subst (λ e. l.at + out_shown l.bytes ≤ ahead_seen text e) (same_place t u e f h) (omega (arith, a, b, near))
  by_below (Further n) i h go = by_why n i (reason s.flow (drop n l.bytes)) refl h go

-- ---- from its first line on

first_seen : (s : Setting) (text : List ℕ) (l : Line) (ls : List Line) (u : List ℕ) (f : ℕ) → IsTail text l ls → Tails text ls → Within (length text) ls → first s (reason s.flow l.bytes) l.at l.bytes ls ≡ Stands u f → plain_shown s (length text) (l ∷ ls) ≤ ahead_seen text f
first_seen s text l ls u f is o w h = by_why (reason s.flow l.bytes) refl h where
  zero : l.at + 0 ≡ l.at
  zero = omega arith

  seen : (v : Why) → reason s.flow l.bytes ≡ v → (shown_by v (l.at + plain_len s.flow false l.bytes) ≤ ahead_seen text (content_end s.flow l.bytes l.at)) × (v ≡ Break → line_seen (length text) ls ≤ ahead_seen text (content_end s.flow l.bytes l.at))
  seen v i =
      subst (λ a. (shown_by v (a + plain_len s.flow false l.bytes) ≤ ahead_seen text (content_end s.flow l.bytes a)) × (v ≡ Break → line_seen (length text) ls ≤ ahead_seen text (content_end s.flow l.bytes a))) zero
      (part_seen text l ls is s.flow 0 (omega arith) v i)

  by_line : (v : Why) → reason s.flow l.bytes ≡ v → (q : Bool) → Stands (content s.flow l.bytes) (content_end s.flow l.bytes l.at) ≡ Stands u f → cond q (shown_by v (l.at + plain_len s.flow false l.bytes)) (shown_by v (l.at + plain_len s.flow false l.bytes)) ≤ ahead_seen text f
  by_line v i true h = subst (λ e. shown_by v (l.at + plain_len s.flow false l.bytes) ≤ ahead_seen text e) (same_place _ u _ f h) (seen v i).0
  by_line v i false h = subst (λ e. shown_by v (l.at + plain_len s.flow false l.bytes) ≤ ahead_seen text e) (same_place _ u _ f h) (seen v i).0

  by_break : reason s.flow l.bytes ≡ Break → (q : Bool) → cond q (Stands (content s.flow l.bytes) (content_end s.flow l.bytes l.at)) (more s ls (content s.flow l.bytes) (content_end s.flow l.bytes l.at) 0) ≡ Stands u f
      → cond q (shown_by Break (l.at + plain_len s.flow false l.bytes)) (more_shown s (length text) ls) ≤ ahead_seen text f
  by_break i true h = subst (λ e. shown_by Break (l.at + plain_len s.flow false l.bytes) ≤ ahead_seen text e) (same_place _ u _ f h) (seen Break i).0
  by_break i false h = more_seen s text ls (content s.flow l.bytes) (content_end s.flow l.bytes l.at) 0 u f o w ((seen Break i).1 refl) h

  by_why : (v : Why) → reason s.flow l.bytes ≡ v → first s v l.at l.bytes ls ≡ Stands u f → cond s.one_line (shown_by v (l.at + plain_len s.flow false l.bytes)) (part_shown v (l.at + plain_len s.flow false l.bytes) (more_shown s (length text) ls)) ≤ ahead_seen text f
  by_why Break i h = by_break i s.one_line h
  by_why Return i h = absurd (fails_not _ u f h)
  by_why Colon i h = by_line Colon i s.one_line h
  by_why Comment i h = by_line Comment i s.one_line h
  by_why Mark i h = by_line Mark i s.one_line h

-- the end of a plain scalar is shown not behind what its place has ahead
pub plain_seen : (s : Setting) (text : List ℕ) (at : ℕ) (u : List ℕ) (f : ℕ) → at ≤ length text → plain_scalar s text at ≡ Stands u f → plain_shown s (length text) (lines at (drop at text)) ≤ ahead_seen text f
plain_seen s text at u f low h =
    let xs = drop at text in
    let e = lines_are at xs in
    let l : Line = record { at = at; bytes = line_at xs; broken = has_break xs } in
    let o = subst (Tails text) e (tails_of text at) in
    let w = subst (Within (length text)) e (lines_within (length text) at xs (omega (arith, low, length-drop at text))) in
    let h2 : plain_on s (is_first_column text at) (l ∷ behind at xs) ≡ Stands u f = sym (ap (plain_on s (is_first_column text at)) e) ∙ h in
    let first = opens_stands s (is_first_column text at) l (behind at xs) u f h2 in
    subst (λ ls. plain_shown s (length text) ls ≤ ahead_seen text f) (sym e) (first_seen s text l (behind at xs) u f (tail_is text l (behind at xs) o.0 w.0) o.1 w.1 first.2)
