-- Behind a key that no colon follows none does, in no text that is the same as far as the first byte there that is no white space, or behind a colon the next. By what the line has behind the key.
use Rattle.std.proofs.Common.{◌≡◌, ℕ, suc, ◌+◌, ◌<◌, ◌≤◌, Bool, true, false, ◌||◌, ◌&&◌, not, cond, nat_eq, nat_lt, arith, List, [], ◌∷◌, ◌++◌, drop, length, refl, sym, ap, ◌∙◌, subst, true≢false, append_assoc, length-drop}
use Rattle.std.proofs.lemmas.Bool.Decides.{nat_tests}
use Rattle.std.proofs.lemmas.List.{drop-drop}
use Rattle.yaml_scalars.specs.declared.plain_line.Why.{Why}
use Rattle.yaml_scalars.specs.declared.plain_line.Why.TheVariants.{Break, Return, Colon, Comment, Mark}
use Rattle.yaml_scalars.specs.Lines.{Line, Stands, Fails, is_end, lines, begins_with, begins_break, is_white, is_blank, lead, past_white}
use Rattle.yaml_scalars.specs.Plain.{plain_len, content, stop_behind, why, reason, first, plain_on}
use Rattle.yaml_scalars.specs.Quoted.{Part, Closed, Open, Joined, Returned, Refused, line_part, key_part, quoted_on}
use Rattle.yaml_scalars.specs.Scalar.{begins_quoted, is_first_column, scalar_at, plain_scalar, quoted_scalar}
use Rattle.yaml_scalars.specs.code.Walk.{line_at, ends_line, has_break, behind}
use Rattle.yaml_scalars.proofs.FurtherLines.{plain_le}
use Rattle.yaml_scalars.proofs.Places.{lines_are}
use Rattle.yaml_laws.specs.code.Agreement.{AgreesTo, shown_by, plain_shown, scalar_shown}
use Rattle.yaml_laws.proofs.Agree.{drop_before}
use Rattle.yaml_laws.proofs.Returns.{PartWithin, part_within}
use Rattle.yaml_laws.proofs.ScalarLaw.{column_same}
use Rattle.yaml_laws.proofs.PlainDead.{drop_whole}
use Rattle.yaml_laws.proofs.PlainStays.{opens_stands}
use Rattle.yaml_laws.proofs.QuotedLaw.{lead_all, lead_whole}
use Rattle.yaml_grammar.specs.declared.ahead.Ahead.{Ahead}
use Rattle.yaml_grammar.specs.declared.ahead.Token.TheVariants.{Dash, Tag, NoTag, Opens, Point, Anchor, Percent, Stray, Other}
use Rattle.yaml_grammar.specs.Ahead.{is_name, begins_letter, ends_tag, tag_token, other_token, token_of, token_at, has_return, is_passed, line_ahead, rest_ahead, ahead}
use Rattle.yaml_grammar.specs.Nodes.{as_key}
use Rattle.yaml_grammar.specs.code.Twins.{IsTwin}
use Rattle.yaml_grammar.proofs.AheadOrder.{line_rest}
use Rattle.yaml_grammar.proofs.KeyEnds.{line_fresh, blank_fresh}
use Rattle.yaml_grammar.proofs.Looks.{white_rest, first_rest}
use Rattle.yaml_grammar.proofs.PlainOrder.{Behind, behind_content, colon_byte, stop_black}

-- ---- how far the key is looked at

fails_not : (p : ℕ) (t : List ℕ) (e : ℕ) → Fails p ≡ Stands t e → ⊥
fails_not p t e h = cc

end_same : (x t : List ℕ) (a e : ℕ) → Stands x a ≡ Stands t e → a ≡ e
end_same x t a e h = cc

module _ (text : List ℕ) (at : ℕ) (t : List ℕ) (e : ℕ) where
  abbrev bytes : List ℕ
  bytes = line_at (drop at text)

  abbrev stop : ℕ
  stop = plain_len false false bytes

  abbrev long : ℕ
  long = length (content false bytes)

  -- a plain one ends behind its content
  key_ends : (v : Why) → first (as_key false) v at bytes (behind at (drop at text)) ≡ Stands t e → at + long ≡ e
  key_ends Break h = end_same (content false bytes) t (at + long) e h
  key_ends Return h = absurd (fails_not (stop_behind false bytes at) t e h)
  key_ends Colon h = end_same (content false bytes) t (at + long) e h
  key_ends Comment h = end_same (content false bytes) t (at + long) e h
  key_ends Mark h = end_same (content false bytes) t (at + long) e h

  by_reason : (v : Why) → (v ≡ Colon → ⊥) → (n : ℕ) → shown_by v n ≡ n
  by_reason Break g n = refl
  by_reason Return g n = refl
  by_reason Colon g n = absurd (g refl)
  by_reason Comment g n = refl
  by_reason Mark g n = refl

  -- what the line has behind it
  rest_line : (w : List ℕ) → Behind false bytes w → at + long ≡ e → line_at (drop e text) ≡ w ++ drop stop bytes
  rest_line w h k =
      let a = plain_le false false bytes in
      let b = h.2 in
      let low : long ≤ length bytes = omega (arith, a, b) in
      subst (λ n. line_at (drop n text) ≡ w ++ drop stop bytes) k (sym (ap line_at (drop-drop long at text)) ∙ line_rest long (drop at text) low ∙ h.0)

  stop_shown_here : (w : List ℕ) → Behind false bytes w → at + long ≡ e → begins_with 58 (past_white (line_at (drop e text))) ≡ false → shown_by (reason false bytes) (at + stop) ≤ e + lead is_white (line_at (drop e text))
  stop_shown_here w h k n = by_rest (drop stop bytes) refl where
    line : line_at (drop e text) ≡ w ++ drop stop bytes
    line = rest_line w h k

    by_rest : (r : List ℕ) → drop stop bytes ≡ r → shown_by (reason false bytes) (at + stop) ≤ e + lead is_white (line_at (drop e text))
    by_rest [] i =
        let v : reason false bytes ≡ Break = ap why i in
        let s : shown_by (reason false bytes) (at + stop) ≡ at + stop = ap (λ v. shown_by v (at + stop)) v in
        let l = lead_all w [] h.1 in
        let z : lead is_white (line_at (drop e text)) ≡ lead is_white (w ++ []) = ap (lead is_white) (line ∙ ap (λ r. w ++ r) i) in
        let b = h.2 in
        omega (arith, s, l, z, b, k)
    by_rest (c ∷ z) i =
        let black = stop_black false false bytes c z i in
        let l = lead_whole w c z h.1 black in
        let y : lead is_white (line_at (drop e text)) ≡ length w = ap (lead is_white) (line ∙ ap (λ r. w ++ r) i) ∙ l in
        let past : past_white (line_at (drop e text)) ≡ c ∷ z = ap (λ m. drop m (line_at (drop e text))) y ∙ ap (drop (length w)) (line ∙ ap (λ r. w ++ r) i) ∙ drop_whole w (c ∷ z) in
        let other : reason false bytes ≡ Colon → ⊥ = λ g. true≢false (sym (ap (λ x. nat_eq x 58) (colon_byte c z (sym (ap why i) ∙ g))) ∙ sym (ap (begins_with 58) past) ∙ n) in
        let s = by_reason (reason false bytes) other (at + stop) in
        let b = h.2 in
        omega (arith, s, y, b, k)

  pub key_shown : scalar_at (as_key false) text at ≡ Stands t e → begins_with 58 (past_white (line_at (drop e text))) ≡ false → scalar_shown (as_key false) text at e ≤ e + lead is_white (line_at (drop e text))
  key_shown st n = by_quote (begins_quoted (drop at text)) st where
    plain : plain_scalar (as_key false) text at ≡ Stands t e → plain_shown (as_key false) (length text) (lines at (drop at text)) ≤ e + lead is_white (line_at (drop e text))
    plain g =
        let ls = lines_are at (drop at text) in
        let l : Line = record { at = at; bytes = bytes; broken = has_break (drop at text) } in
        let opens = opens_stands (as_key false) (is_first_column text at) l (behind at (drop at text)) t e (sym (ap (plain_on (as_key false) (is_first_column text at)) ls) ∙ g) in
        let k = key_ends (reason false bytes) opens.2 in
        let h = behind_content false bytes in
        let s = stop_shown_here h.0 h.1 k n in
        subst (λ ls. plain_shown (as_key false) (length text) ls ≤ e + lead is_white (line_at (drop e text))) (sym ls) s

    by_quote : (q : Bool) → cond q (quoted_scalar (as_key false) text at) (plain_scalar (as_key false) text at) ≡ Stands t e → cond q e (plain_shown (as_key false) (length text) (lines at (drop at text))) ≤ e + lead is_white (line_at (drop e text))
    by_quote true g = omega arith
    by_quote false g = plain g

  -- its content and the white space behind it end there
  stop_near : (w : List ℕ) → Behind false bytes w → at + long ≡ e → at + stop ≤ e + lead is_white (line_at (drop e text))
  stop_near w h k = by_rest (drop stop bytes) refl where
    line : line_at (drop e text) ≡ w ++ drop stop bytes
    line = rest_line w h k

    by_rest : (r : List ℕ) → drop stop bytes ≡ r → at + stop ≤ e + lead is_white (line_at (drop e text))
    by_rest [] i =
        let l = lead_all w [] h.1 in
        let z : lead is_white (line_at (drop e text)) ≡ lead is_white (w ++ []) = ap (lead is_white) (line ∙ ap (λ r. w ++ r) i) in
        let b = h.2 in
        omega (arith, l, z, b, k)
    by_rest (c ∷ z) i =
        let black = stop_black false false bytes c z i in
        let l = lead_whole w c z h.1 black in
        let y : lead is_white (line_at (drop e text)) ≡ length w = ap (lead is_white) (line ∙ ap (λ r. w ++ r) i) ∙ l in
        let b = h.2 in
        omega (arith, y, b, k)

  shown_most : (v : Why) (n : ℕ) → shown_by v n ≤ suc n
  shown_most Break n = omega arith
  shown_most Return n = omega arith
  shown_most Colon n = omega arith
  shown_most Comment n = omega arith
  shown_most Mark n = omega arith

  -- no further than by the byte behind
  pub key_shown_next : scalar_at (as_key false) text at ≡ Stands t e → scalar_shown (as_key false) text at e ≤ suc (e + lead is_white (line_at (drop e text)))
  key_shown_next st = by_quote (begins_quoted (drop at text)) st where
    plain : plain_scalar (as_key false) text at ≡ Stands t e → plain_shown (as_key false) (length text) (lines at (drop at text)) ≤ suc (e + lead is_white (line_at (drop e text)))
    plain g =
        let ls = lines_are at (drop at text) in
        let l : Line = record { at = at; bytes = bytes; broken = has_break (drop at text) } in
        let opens = opens_stands (as_key false) (is_first_column text at) l (behind at (drop at text)) t e (sym (ap (plain_on (as_key false) (is_first_column text at)) ls) ∙ g) in
        let k = key_ends (reason false bytes) opens.2 in
        let h = behind_content false bytes in
        let n = stop_near h.0 h.1 k in
        let s = shown_most (reason false bytes) (at + stop) in
        subst (λ ls. plain_shown (as_key false) (length text) ls ≤ suc (e + lead is_white (line_at (drop e text)))) (sym ls) (omega (arith, n, s))

    by_quote : (q : Bool) → cond q (quoted_scalar (as_key false) text at) (plain_scalar (as_key false) text at) ≡ Stands t e → cond q e (plain_shown (as_key false) (length text) (lines at (drop at text))) ≤ suc (e + lead is_white (line_at (drop e text)))
    by_quote true g = omega arith
    by_quote false g = plain g

  -- it ends on its line
  pub key_within : scalar_at (as_key false) text at ≡ Stands t e → e ≤ at + length (line_at (drop at text))
  key_within st = by_quote (begins_quoted (drop at text)) refl st where
    plain : plain_scalar (as_key false) text at ≡ Stands t e → e ≤ at + length bytes
    plain g =
        let ls = lines_are at (drop at text) in
        let l : Line = record { at = at; bytes = bytes; broken = has_break (drop at text) } in
        let opens = opens_stands (as_key false) (is_first_column text at) l (behind at (drop at text)) t e (sym (ap (plain_on (as_key false) (is_first_column text at)) ls) ∙ g) in
        let k = key_ends (reason false bytes) opens.2 in
        let h = behind_content false bytes in
        let a = plain_le false false bytes in
        let b = h.1.2 in
        omega (arith, k, a, b)

    first_line : (xs : List ℕ) → begins_quoted xs ≡ true → 0 < length (line_at xs)
    first_line [] h = absurd (true≢false (sym h))
    first_line (x ∷ xs) h = subst (λ q. 0 < length (cond q [] (x ∷ line_at xs))) (sym feed) (omega arith) where
      feed : begins_break x xs ≡ false
      feed =
          let a : nat_eq x 10 ≡ false = grind (arith, nat_tests, h) in
          let b : nat_eq x 13 ≡ false = grind (arith, nat_tests, h) in
          ap (λ q. q || (nat_eq x 13 && begins_with 10 xs)) a ∙ ap (λ q. q && begins_with 10 xs) b

    quoted : begins_quoted (drop at text) ≡ true → quoted_scalar (as_key false) text at ≡ Stands t e → e ≤ at + length bytes
    quoted q g =
        by_part (line_part (cond (begins_with 34 bytes) 34 39) (suc at) 0 [] 0 (drop 1 bytes)) (part_within (cond (begins_with 34 bytes) 34 39) (suc at) 0 [] 0 (drop 1 bytes)) (sym (ap (quoted_on true (length text)) (lines_are at (drop at text))) ∙ g) where
          some : 0 < length bytes
          some = first_line (drop at text) q

          by_part : (r : Part) → PartWithin (suc at + length (drop 1 bytes)) r → key_part r (at + length bytes) ≡ Stands t e → e ≤ at + length bytes
          by_part (Closed u end) w k = let x : end ≡ e = cc in let n = some in omega (arith, w, x, n, length-drop 1 bytes)
          by_part (Open u) w k = absurd (cc)
          by_part (Joined u) w k = absurd (cc)
          by_part (Returned r) w k = absurd (cc)
          by_part (Refused r) w k = absurd (cc)

    by_quote : (q : Bool) → begins_quoted (drop at text) ≡ q → cond q (quoted_scalar (as_key false) text at) (plain_scalar (as_key false) text at) ≡ Stands t e → e ≤ at + length bytes
    by_quote true q g = quoted q g
    by_quote false q g = plain g

-- ---- what stands there in a text that is the same as far as that byte

white_feedless : (b : ℕ) (xs : List ℕ) → is_white b ≡ true → begins_break b xs ≡ false
white_feedless b xs w =
    let f : nat_eq b 10 ≡ false = grind (arith, nat_tests, w) in
    let r : nat_eq b 13 ≡ false = grind (arith, nat_tests, w) in
    ap (λ q. q || (nat_eq b 13 && begins_with 10 xs)) f ∙ ap (λ q. q && begins_with 10 xs) r

-- bytes in front of a place that the line's white space reaches are white
pub white_front : (w r : List ℕ) → lead is_white (line_at (w ++ r)) ≡ length w → is_blank w ≡ true
white_front [] r h = refl
white_front (b ∷ w) r h = by_break (begins_break b (w ++ r)) h (λ k. white_front w r k) where
  by_white : (q : Bool) → is_white b ≡ q → cond q (suc (lead is_white (line_at (w ++ r)))) 0 ≡ suc (length w) → (lead is_white (line_at (w ++ r)) ≡ length w → is_blank w ≡ true) → cond q (is_blank w) false ≡ true
  by_white true e k f = f (omega (arith, k))
  by_white false e k f = absurd (omega (arith, k))

  by_break : (q : Bool) → lead is_white (cond q [] (b ∷ line_at (w ++ r))) ≡ suc (length w) → (lead is_white (line_at (w ++ r)) ≡ length w → is_blank w ≡ true) → cond (is_white b) (is_blank w) false ≡ true
  by_break true k f = absurd (omega (arith, k))
  by_break false k f = by_white (is_white b) refl k f

white_line : (w r : List ℕ) → is_blank w ≡ true → line_at (w ++ r) ≡ w ++ line_at r
white_line [] r h = refl
white_line (b ∷ w) r h = by_white (is_white b) refl h (λ k. white_line w r k) where
  by_white : (q : Bool) → is_white b ≡ q → cond q (is_blank w) false ≡ true → (is_blank w ≡ true → line_at (w ++ r) ≡ w ++ line_at r) → cond (begins_break b (w ++ r)) [] (b ∷ line_at (w ++ r)) ≡ b ∷ (w ++ line_at r)
  by_white true e k f = ap (λ q. cond q [] (b ∷ line_at (w ++ r))) (white_feedless b (w ++ r) e) ∙ ap (λ t. b ∷ t) (f k)
  by_white false e k f = absurd (true≢false (sym k))

whole_blank : (w : List ℕ) → is_blank w ≡ true → is_blank (w ++ []) ≡ true
whole_blank [] h = refl
whole_blank (b ∷ w) h = by_white (is_white b) h (λ g. whole_blank w g) where
  by_white : (q : Bool) → cond q (is_blank w) false ≡ true → (is_blank w ≡ true → is_blank (w ++ []) ≡ true) → cond q (is_blank (w ++ [])) false ≡ true
  by_white true h r = r h
  by_white false h r = absurd (true≢false (sym h))

-- a colon tells itself, with white space or the line's end behind it
point_byte : (b : ℕ) (z : List ℕ) → token_of false (b ∷ z) ≡ Point true → (b ≡ 58) × (is_end z ≡ true)
point_byte b z h = by_tests (nat_eq b 91) (nat_eq b 123) (nat_eq b 45 && is_end z) (nat_eq b 58) (is_end z) (nat_eq b 33) (nat_eq b 38 || nat_eq b 42) (nat_eq b 37) (nat_eq b 35 || nat_eq b 13) refl h where
  by_last : (a p s : Bool) → cond a Anchor (cond p Percent (cond s Stray Other)) ≡ Point true → ⊥
  by_last true p s k = absurd (cc)
  by_last false true s k = absurd (cc)
  by_last false false true k = absurd (cc)
  by_last false false false k = absurd (cc)

  by_tag : (q : Bool) → cond q (Tag (lead is_name z)) NoTag ≡ Point true → ⊥
  by_tag true k = absurd (cc)
  by_tag false k = absurd (cc)

  by_bang : (t a p s : Bool) → cond t (tag_token false z) (cond a Anchor (cond p Percent (cond s Stray Other))) ≡ Point true → ⊥
  by_bang true a p s k = by_tag (begins_letter z && ends_tag false (drop (lead is_name z) z)) k
  by_bang false a p s k = by_last a p s k

  by_tests : (o m d c w t a p s : Bool) → nat_eq b 58 ≡ c → cond o (Opens false) (cond m (Opens true) (cond d Dash (cond (c && w) (Point true) (cond t (tag_token false z) (cond a Anchor (cond p Percent (cond s Stray Other))))))) ≡ Point true → (b ≡ 58) × (w ≡ true)
  by_tests true m d c w t a p s e k = absurd (cc)
  by_tests false true d c w t a p s e k = absurd (cc)
  by_tests false false true c w t a p s e k = absurd (cc)
  by_tests false false false true true t a p s e k = (grind (arith, nat_tests, e), refl)
  by_tests false false false true false t a p s e k = absurd (by_bang t a p s k)
  by_tests false false false false w t a p s e k = absurd (by_bang t a p s k)

byte_pointless : (text : List ℕ) (e b : ℕ) (z : List ℕ) → past_white (line_at (drop e text)) ≡ b ∷ z → (token_of false (b ∷ z) ≡ Point true → ⊥) → (ahead text false e).fresh ≡ false → (ahead text false e).token ≡ Point true → ⊥
byte_pointless text e b z past none = by_column (is_first_column text e) where
  by_passed : (q : Bool) → (cond q (line_ahead false (length text) (behind e (drop e text))) (token_at (token_of false (past_white (line_at (drop e text)))) false (lead is_white (line_at (drop e text))) (e + lead is_white (line_at (drop e text))))).fresh ≡ false
      → (cond q (line_ahead false (length text) (behind e (drop e text))) (token_at (token_of false (past_white (line_at (drop e text)))) false (lead is_white (line_at (drop e text))) (e + lead is_white (line_at (drop e text))))).token ≡ Point true → ⊥
  by_passed true f k = true≢false (sym (line_fresh false (length text) (behind e (drop e text))) ∙ f)
  by_passed false f k = none (sym (ap (token_of false) past) ∙ k)

  by_column : (q : Bool) → (cond q (line_ahead false (length text) (lines e (drop e text))) (rest_ahead false (length text) (lines e (drop e text)))).fresh ≡ false
      → (cond q (line_ahead false (length text) (lines e (drop e text))) (rest_ahead false (length text) (lines e (drop e text)))).token ≡ Point true → ⊥
  by_column true f k = true≢false (sym (line_fresh false (length text) (lines e (drop e text))) ∙ f)
  by_column false f k = by_passed (is_passed false (line_at (drop e text))) (sym (ap (λ (a : Ahead). a.fresh) (first_rest text false e)) ∙ f) (sym (ap (λ (a : Ahead). a.token) (first_rest text false e)) ∙ k)

lead_stops : (w : List ℕ) (c : ℕ) (z : List ℕ) → lead is_white (w ++ (c ∷ z)) ≡ length w → is_white c ≡ false
lead_stops [] c z h = by_white (is_white c) h where
  by_white : (q : Bool) → cond q (suc (lead is_white z)) 0 ≡ 0 → q ≡ false
  by_white true k = absurd (omega (arith, k))
  by_white false k = refl
lead_stops (x ∷ w) c z h = by_white (is_white x) h (λ k. lead_stops w c z k) where
  by_white : (q : Bool) → cond q (suc (lead is_white (w ++ (c ∷ z)))) 0 ≡ suc (length w) → (lead is_white (w ++ (c ∷ z)) ≡ length w → is_white c ≡ false) → is_white c ≡ false
  by_white true k f = f (omega (arith, k))
  by_white false k f = absurd (omega (arith, k))

-- any other byte than a colon
pub pointless_twin : (text : List ℕ) (e : ℕ) (other : List ℕ) → begins_with 58 (drop (e + lead is_white (line_at (drop e text))) text) ≡ false → IsTwin text (e + lead is_white (line_at (drop e text))) other → (ahead other false e).fresh ≡ false → (ahead other false e).token ≡ Point true → ⊥
pointless_twin text e other bare m = by_front m.agrees where
  white : ℕ
  white = lead is_white (line_at (drop e text))

  by_front : AgreesTo (e + white) text other → (ahead other false e).fresh ≡ false → (ahead other false e).token ≡ Point true → ⊥
  by_front (before, rest, more, b, i, j, size) =
      let low : e ≤ length before = omega (arith, size) in
      let here : drop e text ≡ drop e before ++ (b ∷ rest) = ap (drop e) i ∙ drop_before e before (b ∷ rest) low in
      let there : drop e other ≡ drop e before ++ (b ∷ more) = ap (drop e) j ∙ drop_before e before (b ∷ more) low in
      let long : length (drop e before) ≡ white = omega (arith, size, length-drop e before) in
      let blank : is_blank (drop e before) ≡ true = white_front (drop e before) (b ∷ rest) (ap (λ t. lead is_white (line_at t)) (sym here) ∙ sym long) in
      let line : line_at (drop e other) ≡ drop e before ++ line_at (b ∷ more) = ap line_at there ∙ white_line (drop e before) (b ∷ more) blank in
      let this : line_at (drop e text) ≡ drop e before ++ line_at (b ∷ rest) = ap line_at here ∙ white_line (drop e before) (b ∷ rest) blank in
      let byte : drop (e + white) text ≡ b ∷ rest = ap (λ k. drop k text) (sym size) ∙ ap (drop (length before)) i ∙ drop_whole before (b ∷ rest) in
      let same : drop (e + white) other ≡ b ∷ more = ap (λ k. drop k other) (sym size) ∙ ap (drop (length before)) j ∙ drop_whole before (b ∷ more) in
      let feed : begins_break b rest ≡ begins_break b more = sym (ap ends_line byte) ∙ m.breaks ∙ ap ends_line same in
      by_end (begins_break b more) refl (sym (ap (begins_with 58) byte) ∙ bare) feed blank line (sym (ap (lead is_white) this) ∙ sym long) where
        by_end : (q : Bool) → begins_break b more ≡ q → nat_eq b 58 ≡ false → begins_break b rest ≡ begins_break b more → is_blank (drop e before) ≡ true → line_at (drop e other) ≡ drop e before ++ cond (begins_break b more) [] (b ∷ line_at more)
            → lead is_white (drop e before ++ cond (begins_break b rest) [] (b ∷ line_at rest)) ≡ length (drop e before) → (ahead other false e).fresh ≡ false → (ahead other false e).token ≡ Point true → ⊥
        by_end true f k feed blank line lead_is = λ stale point. true≢false (sym (blank_fresh other e (ap is_blank (line ∙ ap (λ q. drop e before ++ cond q [] (b ∷ line_at more)) f) ∙ whole_blank (drop e before) blank)) ∙ stale)
        by_end false f k feed blank line lead_is =
            let black : is_white b ≡ false = lead_stops (drop e before) b (line_at rest) (sym (ap (λ q. lead is_white (drop e before ++ cond q [] (b ∷ line_at rest))) (feed ∙ f)) ∙ lead_is) in
            let whole : line_at (drop e other) ≡ drop e before ++ (b ∷ line_at more) = line ∙ ap (λ q. drop e before ++ cond q [] (b ∷ line_at more)) f in
            let size2 : lead is_white (line_at (drop e other)) ≡ length (drop e before) = ap (lead is_white) whole ∙ lead_whole (drop e before) b (line_at more) blank black in
            let past : past_white (line_at (drop e other)) ≡ b ∷ line_at more = ap (λ n. drop n (line_at (drop e other))) size2 ∙ ap (drop (length (drop e before))) whole ∙ drop_whole (drop e before) (b ∷ line_at more) in
            byte_pointless other e b (line_at more) past (λ h. (let is = (point_byte b (line_at more) h).0 in let yes : nat_eq b 58 ≡ true = grind (arith, nat_tests, is) in true≢false (sym yes ∙ k)))

-- a colon, by the byte behind it
colon_front : (g : List ℕ) (c : ℕ) (r : List ℕ) → length g ≡ suc (lead is_white (line_at (g ++ (c ∷ r)))) → begins_with 58 (drop (lead is_white (line_at (g ++ (c ∷ r)))) (g ++ (c ∷ r))) ≡ true → (w : List ℕ) × (g ≡ w ++ (58 ∷ [])) × (is_blank w ≡ true)
colon_front [] c r e h = absurd (omega (arith, e))
colon_front (x ∷ g) c r e h = by_break (begins_break x (g ++ (c ∷ r))) e h (λ k n. colon_front g c r k n) where
  one : (g : List ℕ) → suc (length g) ≡ 1 → nat_eq x 58 ≡ true → (w : List ℕ) × (x ∷ g ≡ w ++ (58 ∷ [])) × (is_blank w ≡ true)
  one [] k n = let is : x ≡ 58 = grind (arith, nat_tests, n) in ([], ap (λ z. z ∷ []) is, refl)
  one (y ∷ g) k n = absurd (omega (arith, k))

  by_white : (q : Bool) → is_white x ≡ q → suc (length g) ≡ suc (cond q (suc (lead is_white (line_at (g ++ (c ∷ r))))) 0) → begins_with 58 (drop (cond q (suc (lead is_white (line_at (g ++ (c ∷ r))))) 0) (x ∷ (g ++ (c ∷ r)))) ≡ true
      → (length g ≡ suc (lead is_white (line_at (g ++ (c ∷ r)))) → begins_with 58 (drop (lead is_white (line_at (g ++ (c ∷ r)))) (g ++ (c ∷ r))) ≡ true → (w : List ℕ) × (g ≡ w ++ (58 ∷ [])) × (is_blank w ≡ true)) → (w : List ℕ) × (x ∷ g ≡ w ++ (58 ∷ [])) × (is_blank w ≡ true)
  by_white true i k n f = let z = f (omega (arith, k)) n in (x ∷ z.0, ap (λ t. x ∷ t) z.1, ap (λ q. cond q (is_blank z.0) false) i ∙ z.2)
  by_white false i k n f = one g (omega (arith, k)) n

  by_break : (q : Bool) → suc (length g) ≡ suc (lead is_white (cond q [] (x ∷ line_at (g ++ (c ∷ r))))) → begins_with 58 (drop (lead is_white (cond q [] (x ∷ line_at (g ++ (c ∷ r))))) (x ∷ (g ++ (c ∷ r)))) ≡ true
      → (length g ≡ suc (lead is_white (line_at (g ++ (c ∷ r)))) → begins_with 58 (drop (lead is_white (line_at (g ++ (c ∷ r)))) (g ++ (c ∷ r))) ≡ true → (w : List ℕ) × (g ≡ w ++ (58 ∷ [])) × (is_blank w ≡ true)) → (w : List ℕ) × (x ∷ g ≡ w ++ (58 ∷ [])) × (is_blank w ≡ true)
  by_break true k n f = one g (omega (arith, k)) n
  by_break false k n f = by_white (is_white x) refl k n f

-- where a colon and the byte behind it are the same, a key's colon stands in both texts or in neither
pub pointless_next : (text : List ℕ) (e : ℕ) (other : List ℕ) → begins_with 58 (drop (e + lead is_white (line_at (drop e text))) text) ≡ true → IsTwin text (suc (e + lead is_white (line_at (drop e text)))) other → ((ahead text false e).fresh ≡ false → (ahead text false e).token ≡ Point true → ⊥)
    → (ahead other false e).fresh ≡ false → (ahead other false e).token ≡ Point true → ⊥
pointless_next text e other colon m absent = by_front m.agrees where
  white : ℕ
  white = lead is_white (line_at (drop e text))

  -- what a line has ahead whose first byte that is no white space is a colon
  colon_there : (whole w z : List ℕ) → is_first_column whole e ≡ false → line_at (drop e whole) ≡ w ++ (58 ∷ z) → is_blank w ≡ true → ((ahead whole false e).fresh ≡ false) × ((ahead whole false e).token ≡ token_of false (58 ∷ z))
  colon_there whole w z stale line blank =
      let size : lead is_white (line_at (drop e whole)) ≡ length w = ap (lead is_white) line ∙ lead_whole w 58 z blank refl in
      let past : past_white (line_at (drop e whole)) ≡ 58 ∷ z = ap (λ n. drop n (line_at (drop e whole))) size ∙ ap (drop (length w)) line ∙ drop_whole w (58 ∷ z) in
      let full : is_passed false (line_at (drop e whole)) ≡ false = unpassed (line_at (drop e whole)) (ap is_blank line ∙ unblank w z) (ap (begins_with 35) past) in
      let here : ahead whole false e ≡ token_at (token_of false (past_white (line_at (drop e whole)))) false (lead is_white (line_at (drop e whole))) (e + lead is_white (line_at (drop e whole))) =
      ap (λ q. cond q (line_ahead false (length whole) (lines e (drop e whole))) (rest_ahead false (length whole) (lines e (drop e whole)))) stale ∙ first_rest whole false e
      ∙ ap (λ q. cond q (line_ahead false (length whole) (behind e (drop e whole))) (token_at (token_of false (past_white (line_at (drop e whole)))) false (lead is_white (line_at (drop e whole))) (e + lead is_white (line_at (drop e whole))))) full in
      (ap (λ (a : Ahead). a.fresh) here, ap (λ (a : Ahead). a.token) here ∙ ap (token_of false) past) where
        unblank : (w z : List ℕ) → is_blank (w ++ (58 ∷ z)) ≡ false
        unblank [] z = refl
        unblank (x ∷ w) z = by_white (is_white x) (unblank w z) where
          by_white : (q : Bool) → is_blank (w ++ (58 ∷ z)) ≡ false → cond q (is_blank (w ++ (58 ∷ z))) false ≡ false
          by_white true h = h
          by_white false h = refl

        unpassed : (l : List ℕ) → is_blank l ≡ false → begins_with 35 (past_white l) ≡ false → is_passed false l ≡ false
        unpassed l a b = ap (λ q. q || ((false || nat_lt 0 (lead is_white l)) && (begins_with 35 (past_white l) && not (has_return l)))) a ∙ ap (λ q. (false || nat_lt 0 (lead is_white l)) && (q && not (has_return l))) b ∙ none (nat_lt 0 (lead is_white l)) where
          none : (q : Bool) → (q && false) ≡ false
          none true = refl
          none false = refl

  stale_of : (whole : List ℕ) → (ahead whole false e).fresh ≡ false → is_first_column whole e ≡ false
  stale_of whole f = by_column (is_first_column whole e) refl f where
    by_column : (q : Bool) → is_first_column whole e ≡ q → (cond q (line_ahead false (length whole) (lines e (drop e whole))) (rest_ahead false (length whole) (lines e (drop e whole)))).fresh ≡ false → q ≡ false
    by_column false i g = refl
    by_column true i g = absurd (true≢false (sym (line_fresh false (length whole) (lines e (drop e whole))) ∙ g))

  by_front : AgreesTo (suc (e + white)) text other → (ahead other false e).fresh ≡ false → (ahead other false e).token ≡ Point true → ⊥
  by_front (before, rest, more, c, i, j, size) =
      let low : e ≤ length before = omega (arith, size) in
      let here : drop e text ≡ drop e before ++ (c ∷ rest) = ap (drop e) i ∙ drop_before e before (c ∷ rest) low in
      let there : drop e other ≡ drop e before ++ (c ∷ more) = ap (drop e) j ∙ drop_before e before (c ∷ more) low in
      let long : length (drop e before) ≡ suc white = omega (arith, size, length-drop e before) in
      let byte : drop (suc (e + white)) text ≡ c ∷ rest = ap (λ k. drop k text) (sym size) ∙ ap (drop (length before)) i ∙ drop_whole before (c ∷ rest) in
      let same : drop (suc (e + white)) other ≡ c ∷ more = ap (λ k. drop k other) (sym size) ∙ ap (drop (length before)) j ∙ drop_whole before (c ∷ more) in
      let feed : begins_break c rest ≡ begins_break c more = sym (ap ends_line byte) ∙ m.breaks ∙ ap ends_line same in
      let lead_is : lead is_white (line_at (drop e before ++ (c ∷ rest))) ≡ white = ap (λ t. lead is_white (line_at t)) (sym here) in
      let point : begins_with 58 (drop white (drop e before ++ (c ∷ rest))) ≡ true = ap (λ t. begins_with 58 (drop white t)) (sym here) ∙ ap (begins_with 58) (drop-drop white e text) ∙ colon in
      let f = colon_front (drop e before) c rest (long ∙ ap suc (sym lead_is)) (subst (λ n. begins_with 58 (drop n (drop e before ++ (c ∷ rest))) ≡ true) (sym lead_is) point) in
      let column : is_first_column text e ≡ is_first_column other e = ap (λ t. is_first_column t e) i ∙ column_same before c rest more e low ∙ sym (ap (λ t. is_first_column t e) j) in
      by_parts f.0 f.1 f.2 here there feed column where
        parted_line : (whole w r : List ℕ) → drop e whole ≡ (w ++ (58 ∷ [])) ++ (c ∷ r) → is_blank w ≡ true → line_at (drop e whole) ≡ w ++ (58 ∷ line_at (c ∷ r))
        parted_line whole w r h blank = ap line_at (h ∙ append_assoc w (58 ∷ []) (c ∷ r)) ∙ white_line w (58 ∷ c ∷ r) blank

        ends_same : (u v : List ℕ) → begins_break c u ≡ begins_break c v → is_end (line_at (c ∷ u)) ≡ is_end (line_at (c ∷ v))
        ends_same u v h = by_break (begins_break c u) (begins_break c v) h where
          by_break : (p q : Bool) → p ≡ q → is_end (cond p [] (c ∷ line_at u)) ≡ is_end (cond q [] (c ∷ line_at v))
          by_break true true h = refl
          by_break false false h = refl
          by_break true false h = absurd (true≢false h)
          by_break false true h = absurd (true≢false (sym h))

        by_parts : (w : List ℕ) → drop e before ≡ w ++ (58 ∷ []) → is_blank w ≡ true → drop e text ≡ drop e before ++ (c ∷ rest) → drop e other ≡ drop e before ++ (c ∷ more) → begins_break c rest ≡ begins_break c more → is_first_column text e ≡ is_first_column other e
            → (ahead other false e).fresh ≡ false → (ahead other false e).token ≡ Point true → ⊥
        by_parts w g blank here there feed column = λ stale point.
            let first = stale_of other stale in
            let line2 = parted_line other w more (there ∙ ap (λ t. t ++ (c ∷ more)) g) blank in
            let line1 = parted_line text w rest (here ∙ ap (λ t. t ++ (c ∷ rest)) g) blank in
            let b = colon_there other w (line_at (c ∷ more)) first line2 blank in
            let a = colon_there text w (line_at (c ∷ rest)) (column ∙ first) line1 blank in
            let end = (point_byte 58 (line_at (c ∷ more)) (sym b.1 ∙ point)).1 in
            absent a.0 (a.1 ∙ loose (line_at (c ∷ rest)) (ends_same rest more feed ∙ end)) where
              loose : (z : List ℕ) → is_end z ≡ true → token_of false (58 ∷ z) ≡ Point true
              loose z h = ap (λ q. cond q (Point true) (cond false (tag_token false z) (other_token 58))) h

-- where the line goes on with another byte than a colon
pub no_colon_byte : (text : List ℕ) (e : ℕ) → begins_with 58 (drop (e + lead is_white (line_at (drop e text))) text) ≡ false → begins_with 58 (past_white (line_at (drop e text))) ≡ false
no_colon_byte text e h = ap (begins_with 58) (white_rest text e (lead is_white (line_at (drop e text))) refl) ∙ none (drop (e + lead is_white (line_at (drop e text))) text) h where
  none : (xs : List ℕ) → begins_with 58 xs ≡ false → begins_with 58 (line_at xs) ≡ false
  none [] k = refl
  none (b ∷ xs) k = by_break (begins_break b xs) where
    by_break : (q : Bool) → begins_with 58 (cond q [] (b ∷ line_at xs)) ≡ false
    by_break true = refl
    by_break false = k
