-- A text that agrees through the first byte of what is ahead has a token there that begins with the same byte, a mark, or a comment. By induction over lines.
use Rattle.std.proofs.Common.{◌≡◌, ℕ, suc, ◌+◌, ◌<◌, ◌≤◌, ◌⊎◌, inl, inr, Bool, true, false, ◌||◌, ◌&&◌, not, cond, nat_eq, nat_lt, arith, List, [], ◌∷◌, ◌++◌, drop, length, refl, sym, ap, ◌∙◌, subst, true≢false, length-append}
use Rattle.std.proofs.lemmas.Bool.Decides.{nat_tests}
use Rattle.yaml_scalars.specs.Lines.{Line, lines, begins_with, begins_break, is_white, is_space, is_blank, lead, indent, past_white, is_mark}
use Rattle.yaml_scalars.specs.Scalar.{is_first_column}
use Rattle.yaml_scalars.specs.code.Walk.{line_at, ends_line}
use Rattle.yaml_laws.specs.code.Agreement.{AgreesTo}
use Rattle.yaml_laws.proofs.AgreeLess.{breaks_alike}
use Rattle.yaml_laws.proofs.Agree.{Later, Shares, texts_share, drop_size}
use Rattle.yaml_grammar.proofs.AheadOrder.{mark_parts}
use Rattle.yaml_grammar.proofs.AheadStays.{lines_part}
use Rattle.yaml_laws.proofs.BlockHeads.{cases}
use Rattle.yaml_laws.proofs.BlockShown.{blank_less, spaces_less}
use Rattle.yaml_laws.proofs.LineEnds.{AreOf, lines_of}
use Rattle.yaml_laws.proofs.PlainDead.{drop_whole}
use Rattle.yaml_grammar.proofs.PlainOrder.{mark_lead}
use Rattle.yaml_laws.proofs.PlainStays.{Parted}
use Rattle.yaml_laws.proofs.QuotedLaw.{lead_whole}
use Rattle.yaml_laws.proofs.ScalarLaw.{column_same}
use Rattle.yaml_grammar.specs.declared.ahead.Token.{Token}
use Rattle.yaml_grammar.specs.declared.ahead.Token.TheVariants.{Dashes, Dots}
use Rattle.yaml_grammar.specs.Ahead.{tab_token, is_tabbed, token_of, token_at, mark_of, has_return, is_passed, content_ahead, line_ahead, rest_ahead, ahead}
use Rattle.yaml_grammar.specs.Nodes.{is_marked}

-- a token that begins with a byte, or a mark, at the same place, column and freshness; or the byte begins a comment
abbrev pub Alike : Bool → ℕ → ℕ → ℕ → Bool → Token → ℕ → ℕ → Bool → Token → Type 0
Alike flow b at column fresh token at2 column2 fresh2 token2 = (b ≡ 35) ⊎ ((at2 ≡ at) × (column2 ≡ column) × (fresh2 ≡ fresh) × ((token2 ≡ token) ⊎ ((is_marked token2 ≡ true) ⊎ ((z : List ℕ) × (token2 ≡ token_of flow (b ∷ z))))))

abbrev Begins : Bool → ℕ → ℕ → ℕ → Bool → ℕ → ℕ → Bool → Token → Type 0
Begins flow b at column fresh at2 column2 fresh2 token2 = (b ≡ 35) ⊎ ((at2 ≡ at) × (column2 ≡ column) × (fresh2 ≡ fresh) × ((is_marked token2 ≡ true) ⊎ ((z : List ℕ) × (token2 ≡ token_of flow (b ∷ z)))))

-- ---- what a line has ahead, by its kind

on_mark : (flow : Bool) (size : ℕ) (l : Line) (ls : List Line) → is_mark l.bytes ≡ true → line_ahead flow size (l ∷ ls) ≡ token_at (mark_of l.bytes) true 0 l.at
on_mark flow size l ls e = ap (λ q. cond q (token_at (mark_of l.bytes) true 0 l.at) (cond (is_passed true l.bytes) (line_ahead flow size ls) (content_ahead flow l.at l.bytes))) e

on_passed : (flow : Bool) (size : ℕ) (l : Line) (ls : List Line) → is_mark l.bytes ≡ false → is_passed true l.bytes ≡ true → line_ahead flow size (l ∷ ls) ≡ line_ahead flow size ls
on_passed flow size l ls e f = ap (λ q. cond q (token_at (mark_of l.bytes) true 0 l.at) (cond (is_passed true l.bytes) (line_ahead flow size ls) (content_ahead flow l.at l.bytes))) e ∙ ap (λ q. cond q (line_ahead flow size ls) (content_ahead flow l.at l.bytes)) f

on_content : (flow : Bool) (size : ℕ) (l : Line) (ls : List Line) → is_mark l.bytes ≡ false → is_passed true l.bytes ≡ false → line_ahead flow size (l ∷ ls) ≡ content_ahead flow l.at l.bytes
on_content flow size l ls e f = ap (λ q. cond q (token_at (mark_of l.bytes) true 0 l.at) (cond (is_passed true l.bytes) (line_ahead flow size ls) (content_ahead flow l.at l.bytes))) e ∙ ap (λ q. cond q (line_ahead flow size ls) (content_ahead flow l.at l.bytes)) f

with_tab : (flow : Bool) (at : ℕ) (xs : List ℕ) → is_tabbed flow xs ≡ true → content_ahead flow at xs ≡ token_at (tab_token (past_white xs)) true (indent xs) (at + indent xs)
with_tab flow at xs e = ap (λ q. cond q (token_at (tab_token (past_white xs)) true (indent xs) (at + indent xs)) (token_at (token_of flow (past_white xs)) true (lead is_white xs) (at + lead is_white xs))) e

no_tab : (flow : Bool) (at : ℕ) (xs : List ℕ) → is_tabbed flow xs ≡ false → content_ahead flow at xs ≡ token_at (token_of flow (past_white xs)) true (lead is_white xs) (at + lead is_white xs)
no_tab flow at xs e = ap (λ q. cond q (token_at (tab_token (past_white xs)) true (indent xs) (at + indent xs)) (token_at (token_of flow (past_white xs)) true (lead is_white xs) (at + lead is_white xs))) e

rest_passed : (flow : Bool) (size : ℕ) (l : Line) (ls : List Line) → is_passed false l.bytes ≡ true → rest_ahead flow size (l ∷ ls) ≡ line_ahead flow size ls
rest_passed flow size l ls e = ap (λ q. cond q (line_ahead flow size ls) (token_at (token_of flow (past_white l.bytes)) false (lead is_white l.bytes) (l.at + lead is_white l.bytes))) e

rest_content : (flow : Bool) (size : ℕ) (l : Line) (ls : List Line) → is_passed false l.bytes ≡ false → rest_ahead flow size (l ∷ ls) ≡ token_at (token_of flow (past_white l.bytes)) false (lead is_white l.bytes) (l.at + lead is_white l.bytes)
rest_content flow size l ls e = ap (λ q. cond q (line_ahead flow size ls) (token_at (token_of flow (past_white l.bytes)) false (lead is_white l.bytes) (l.at + lead is_white l.bytes))) e

-- what is not passed over is not blank
not_blank : (fresh : Bool) (xs : List ℕ) → is_passed fresh xs ≡ false → is_blank xs ≡ false
not_blank fresh xs h = by_or (is_blank xs) ((fresh || nat_lt 0 (lead is_white xs)) && (begins_with 35 (past_white xs) && not (has_return xs))) h where
  by_or : (p q : Bool) → (p || q) ≡ false → p ≡ false
  by_or true q h = absurd (true≢false h)
  by_or false q h = refl

-- ---- white space in front of a byte that is none

lead_alike : (q : ℕ → Bool) (g : List ℕ) (b : ℕ) (u v : List ℕ) → q b ≡ false → lead q (g ++ (b ∷ v)) ≡ lead q (g ++ (b ∷ u))
lead_alike q [] b u v h = ap (λ w. cond w (suc (lead q v)) 0) h ∙ sym (ap (λ w. cond w (suc (lead q u)) 0) h)
lead_alike q (c ∷ g) b u v h = ap (λ n. cond (q c) (suc n) 0) (lead_alike q g b u v h)

lead_stop : (q : ℕ → Bool) (g : List ℕ) (b : ℕ) (u : List ℕ) → q b ≡ false → lead q (g ++ (b ∷ u)) ≤ length g
lead_stop q [] b u h = subst (λ w. cond w (suc (lead q u)) 0 ≤ 0) (sym h) (omega arith)
lead_stop q (c ∷ g) b u h = by_byte (q c) (lead_stop q g b u h) where
  by_byte : (w : Bool) → lead q (g ++ (b ∷ u)) ≤ length g → cond w (suc (lead q (g ++ (b ∷ u)))) 0 ≤ suc (length g)
  by_byte true r = omega (arith, r)
  by_byte false r = omega arith

blank_of : (g x : List ℕ) → length g ≤ lead is_white (g ++ x) → is_blank g ≡ true
blank_of [] x h = refl
blank_of (c ∷ g) x h = by_byte (is_white c) h (λ k. blank_of g x k) where
  by_byte : (w : Bool) → suc (length g) ≤ cond w (suc (lead is_white (g ++ x))) 0 → (length g ≤ lead is_white (g ++ x) → is_blank g ≡ true) → cond w (is_blank g) false ≡ true
  by_byte true h r = r (omega (arith, h))
  by_byte false h r = absurd (omega (arith, h))

-- what is passed over begins with a comment, where it is not blank
comment_of : (fresh : Bool) (g : List ℕ) (b : ℕ) (v xs : List ℕ) → xs ≡ g ++ (b ∷ v) → is_blank g ≡ true → is_white b ≡ false → is_passed fresh xs ≡ true → b ≡ 35
comment_of fresh g b v xs e h n p = by_tests (is_blank xs) (fresh || nat_lt 0 (lead is_white xs)) (begins_with 35 (past_white xs)) (not (has_return xs)) full past p where
  whole : lead is_white xs ≡ length g
  whole = ap (lead is_white) e ∙ lead_whole g b v h n

  past : begins_with 35 (past_white xs) ≡ nat_eq b 35
  past = ap (begins_with 35) (ap (λ k. drop k xs) whole ∙ ap (drop (length g)) e ∙ drop_whole g (b ∷ v))

  not_white : (g : List ℕ) → is_blank (g ++ (b ∷ v)) ≡ false
  not_white [] = ap (λ q. cond q (is_blank v) false) n
  not_white (c ∷ g) = by_byte (is_white c) (not_white g) where
    by_byte : (q : Bool) → is_blank (g ++ (b ∷ v)) ≡ false → cond q (is_blank (g ++ (b ∷ v))) false ≡ false
    by_byte true r = r
    by_byte false r = refl

  full : is_blank xs ≡ false
  full = ap is_blank e ∙ not_white g

  by_tests : (p q r s : Bool) → p ≡ false → r ≡ nat_eq b 35 → (p || (q && (r && s))) ≡ true → b ≡ 35
  by_tests true q r s i j k = absurd (true≢false i)
  by_tests false false r s i j k = absurd (true≢false (sym k))
  by_tests false true false s i j k = absurd (true≢false (sym k))
  by_tests false true true s i j k = grind (arith, nat_tests, j)

module _ (before rest other : List ℕ) (b : ℕ) (feed : begins_break b rest ≡ begins_break b other) (flow : Bool) (black : is_white b ≡ false) where
  abbrev old : List ℕ
  old = before ++ (b ∷ rest)

  abbrev new : List ℕ
  new = before ++ (b ∷ other)

  abbrev place : ℕ
  place = length before

  module _ (size size2 : ℕ) (within : place < size) where
    abbrev LineAlike : List Line → List Line → Type 0
    LineAlike ls ms =
        Alike flow b (line_ahead flow size ls).at (line_ahead flow size ls).column (line_ahead flow size ls).fresh (line_ahead flow size ls).token
        (line_ahead flow size2 ms).at (line_ahead flow size2 ms).column (line_ahead flow size2 ms).fresh (line_ahead flow size2 ms).token

    equal : (ls ms : List Line) → line_ahead flow size2 ms ≡ line_ahead flow size ls → LineAlike ls ms
    equal ls ms e = inr (ap (λ x. x.at) e, ap (λ x. x.column) e, ap (λ x. x.fresh) e, inl (ap (λ x. x.token) e))

    -- lines that lie behind a place have nothing ahead before
    later_at : (ls : List Line) → Later place ls → place < (line_ahead flow size ls).at
    later_at [] w = within
    later_at (l ∷ ls) w = cases (is_mark l.bytes) marks (λ k. cases (is_passed true l.bytes) (passes k (later_at ls w.1)) (contents k)) where
      front : place < l.at
      front = w.0

      marks : is_mark l.bytes ≡ true → place < (line_ahead flow size (l ∷ ls)).at
      marks k = let z = ap (λ x. x.at) (on_mark flow size l ls k) in let a = front in omega (arith, z, a)

      passes : is_mark l.bytes ≡ false → place < (line_ahead flow size ls).at → is_passed true l.bytes ≡ true → place < (line_ahead flow size (l ∷ ls)).at
      passes k r p = let z = ap (λ x. x.at) (on_passed flow size l ls k p) in omega (arith, z, r)

      contents : is_mark l.bytes ≡ false → is_passed true l.bytes ≡ false → place < (line_ahead flow size (l ∷ ls)).at
      contents k p =
          cases (is_tabbed flow l.bytes) (λ t. (let z = ap (λ x. x.at) (on_content flow size l ls k p ∙ with_tab flow l.at l.bytes t) in let a = front in omega (arith, z, a)))
          (λ t. (let z = ap (λ x. x.at) (on_content flow size l ls k p ∙ no_tab flow l.at l.bytes t) in let a = front in omega (arith, z, a)))

    -- the same line
    same_line : (l : Line) (ls ms : List Line) → ((line_ahead flow size ls).at ≡ place → LineAlike ls ms) → (line_ahead flow size (l ∷ ls)).at ≡ place → LineAlike (l ∷ ls) (l ∷ ms)
    same_line l ls ms r h =
        cases (is_mark l.bytes) (λ k. equal (l ∷ ls) (l ∷ ms) (on_mark flow size2 l ms k ∙ sym (on_mark flow size l ls k)))
        (λ k. cases (is_passed true l.bytes) (passes k) (λ p. equal (l ∷ ls) (l ∷ ms) (on_content flow size2 l ms k p ∙ sym (on_content flow size l ls k p)))) where
          passes : is_mark l.bytes ≡ false → is_passed true l.bytes ≡ true → LineAlike (l ∷ ls) (l ∷ ms)
          passes k p =
              let e = on_passed flow size l ls k p in
              let f = on_passed flow size2 l ms k p in
              subst (λ x. Alike flow b x.at x.column x.fresh x.token (line_ahead flow size2 (l ∷ ms)).at (line_ahead flow size2 (l ∷ ms)).column (line_ahead flow size2 (l ∷ ms)).fresh (line_ahead flow size2 (l ∷ ms)).token) (sym e)
              (subst (λ y. Alike flow b (line_ahead flow size ls).at (line_ahead flow size ls).column (line_ahead flow size ls).fresh (line_ahead flow size ls).token y.at y.column y.fresh y.token) (sym f) (r (sym (ap (λ x. x.at) e) ∙ h)))

    -- the other text's line
    other_line : (m : Line) (ms : List Line) (g v : List ℕ) → m.bytes ≡ g ++ (b ∷ v) → is_blank g ≡ true → is_tabbed flow m.bytes ≡ false
        → Begins flow b (m.at + length g) (length g) true (line_ahead flow size2 (m ∷ ms)).at (line_ahead flow size2 (m ∷ ms)).column (line_ahead flow size2 (m ∷ ms)).fresh (line_ahead flow size2 (m ∷ ms)).token
    other_line m ms g v e white tab = cases (is_mark m.bytes) marks (λ k. cases (is_passed true m.bytes) (λ p. inl (comment_of true g b v m.bytes e white black p)) (contents k)) where
      whole : lead is_white m.bytes ≡ length g
      whole = ap (lead is_white) e ∙ lead_whole g b v white black

      two : (q : Bool) → is_marked (cond q Dashes Dots) ≡ true
      two true = refl
      two false = refl

      marks : is_mark m.bytes ≡ true
          → Begins flow b (m.at + length g) (length g) true (line_ahead flow size2 (m ∷ ms)).at (line_ahead flow size2 (m ∷ ms)).column (line_ahead flow size2 (m ∷ ms)).fresh (line_ahead flow size2 (m ∷ ms)).token
      marks k =
          let x = on_mark flow size2 m ms k in
          let none : length g ≡ 0 = sym whole ∙ mark_lead m.bytes k in
          let a : m.at ≡ m.at + length g = omega (arith, none) in
          inr (ap (λ x. x.at) x ∙ a, ap (λ x. x.column) x ∙ sym none, ap (λ x. x.fresh) x, inl (ap (λ x. is_marked x.token) x ∙ two (begins_with 45 m.bytes)))

      contents : is_mark m.bytes ≡ false → is_passed true m.bytes ≡ false
          → Begins flow b (m.at + length g) (length g) true (line_ahead flow size2 (m ∷ ms)).at (line_ahead flow size2 (m ∷ ms)).column (line_ahead flow size2 (m ∷ ms)).fresh (line_ahead flow size2 (m ∷ ms)).token
      contents k p =
          let x = on_content flow size2 m ms k p ∙ no_tab flow m.at m.bytes tab in
          let past : past_white m.bytes ≡ b ∷ v = ap (λ k. drop k m.bytes) whole ∙ ap (drop (length g)) e ∙ drop_whole g (b ∷ v) in
          inr (ap (λ x. x.at) x ∙ ap (λ n. m.at + n) whole, ap (λ x. x.column) x ∙ whole, ap (λ x. x.fresh) x, inr (v, ap (λ x. x.token) x ∙ ap (token_of flow) past))

    joined : (ls ms : List Line) (n : ℕ) → (line_ahead flow size ls).at ≡ place → (line_ahead flow size ls).column ≡ n → (line_ahead flow size ls).fresh ≡ true
        → Begins flow b place n true (line_ahead flow size2 ms).at (line_ahead flow size2 ms).column (line_ahead flow size2 ms).fresh (line_ahead flow size2 ms).token → LineAlike ls ms
    joined ls ms n x y z (inl h) = inl h
    joined ls ms n x y z (inr (p, q, r, s)) = inr (p ∙ sym x, q ∙ sym y, r ∙ sym z, inr s)

    -- the line that the place parts
    parted_line : (g : List ℕ) (l m : Line) (ls ms : List Line) → l.at ≡ m.at → l.at + length g ≡ place → Later place ls → Parted g b l.bytes m.bytes → (line_ahead flow size (l ∷ ls)).at ≡ place → LineAlike (l ∷ ls) (m ∷ ms)
    parted_line g l m ls ms there far w part h = cases (is_mark l.bytes) (λ k. marks k part) (λ k. cases (is_passed true l.bytes) (passes k) (λ p. contents k p part)) where
      passes : is_mark l.bytes ≡ false → is_passed true l.bytes ≡ true → LineAlike (l ∷ ls) (m ∷ ms)
      passes k p = let z = ap (λ x. x.at) (on_passed flow size l ls k p) in let a = later_at ls w in absurd (omega (arith, z, a, h))

      marks : is_mark l.bytes ≡ true → Parted g b l.bytes m.bytes → LineAlike (l ∷ ls) (m ∷ ms)
      marks k (inl q) =
          let z = ap (λ x. x.at) (on_mark flow size l ls k) in
          let a = (mark_parts l.bytes k).0 in
          let c = q.1 in
          absurd (omega (arith, z, h, far, a, c))
      marks k (inr (u, v, el, em)) =
          let x = on_mark flow size l ls k in
          let z = ap (λ x. x.at) x in
          let none : length g ≡ 0 = omega (arith, z, h, far) in
          by_front g none em where
            by_front : (g : List ℕ) → length g ≡ 0 → m.bytes ≡ g ++ (b ∷ v) → LineAlike (l ∷ ls) (m ∷ ms)
            by_front (c ∷ g) n e = absurd (omega (arith, n))
            by_front [] n e =
                let x = on_mark flow size l ls k in
                let i = h in
                let z = ap (λ x. x.at) x in
                let white : lead is_white m.bytes ≡ 0 = ap (lead is_white) e ∙ lead_whole [] b v refl black in
                let s = spaces_less m.bytes in
                let t : is_tabbed flow m.bytes ≡ false = untabbed flow (indent m.bytes) (lead is_white m.bytes) white in
                let there2 : m.at + 0 ≡ place = omega (arith, z, i, there) in
                joined (l ∷ ls) (m ∷ ms) 0 h (ap (λ x. x.column) x) (ap (λ x. x.fresh) x)
                (subst (λ n. Begins flow b n 0 true (line_ahead flow size2 (m ∷ ms)).at (line_ahead flow size2 (m ∷ ms)).column (line_ahead flow size2 (m ∷ ms)).fresh (line_ahead flow size2 (m ∷ ms)).token) there2 (other_line m ms [] v e refl t)) where
                  untabbed : (flow : Bool) (i n : ℕ) → n ≡ 0 → (not flow && nat_lt i n) ≡ false
                  untabbed true i n e = refl
                  untabbed false i n e = grind (arith, nat_tests, e)

      contents : is_mark l.bytes ≡ false → is_passed true l.bytes ≡ false → Parted g b l.bytes m.bytes → LineAlike (l ∷ ls) (m ∷ ms)
      contents k p (inl q) =
          let less = blank_less l.bytes (not_blank true l.bytes p) in
          let s = spaces_less l.bytes in
          let c = q.1 in
          absurd (cases (is_tabbed flow l.bytes) (λ t. (let z = ap (λ x. x.at) (on_content flow size l ls k p ∙ with_tab flow l.at l.bytes t) in omega (arith, z, h, far, less, s, c)))
          (λ t. (let z = ap (λ x. x.at) (on_content flow size l ls k p ∙ no_tab flow l.at l.bytes t) in omega (arith, z, h, far, less, c))))
      contents k p (inr (u, v, el, em)) = cases (is_tabbed flow l.bytes) tabs plain where
        stop : lead is_white l.bytes ≤ length g
        stop = let a = lead_stop is_white g b u black in let z = ap (lead is_white) el in omega (arith, a, z)

        tabs : is_tabbed flow l.bytes ≡ true → LineAlike (l ∷ ls) (m ∷ ms)
        tabs t =
            let z = ap (λ x. x.at) (on_content flow size l ls k p ∙ with_tab flow l.at l.bytes t) in
            let a = stop in
            let less = wide flow (indent l.bytes) (lead is_white l.bytes) t in
            absurd (omega (arith, z, h, far, a, less)) where
              wide : (flow : Bool) (i n : ℕ) → (not flow && nat_lt i n) ≡ true → i < n
              wide true i n e = absurd (true≢false (sym e))
              wide false i n e = grind (arith, nat_tests, e)

        plain : is_tabbed flow l.bytes ≡ false → LineAlike (l ∷ ls) (m ∷ ms)
        plain t =
            let x = on_content flow size l ls k p ∙ no_tab flow l.at l.bytes t in
            let z = ap (λ x. x.at) x in
            let n : lead is_white l.bytes ≡ length g = omega (arith, z, h, far) in
            let y = ap (lead is_white) el in
            let white = blank_of g (b ∷ u) (omega (arith, n, y)) in
            let leads : lead is_white m.bytes ≡ lead is_white l.bytes = ap (lead is_white) em ∙ lead_alike is_white g b u v black ∙ sym (ap (lead is_white) el) in
            let spaces : indent m.bytes ≡ indent l.bytes = ap indent em ∙ lead_alike is_space g b u v (grind (arith, nat_tests, black)) ∙ sym (ap indent el) in
            let t2 : is_tabbed flow m.bytes ≡ false = ap (λ i. not flow && nat_lt i (lead is_white m.bytes)) spaces ∙ ap (λ j. not flow && nat_lt (indent l.bytes) j) leads ∙ t in
            let there2 : m.at + length g ≡ place = omega (arith, there, far) in
            joined (l ∷ ls) (m ∷ ms) (length g) h (ap (λ x. x.column) x ∙ n) (ap (λ x. x.fresh) x)
            (subst (λ n. Begins flow b n (length g) true (line_ahead flow size2 (m ∷ ms)).at (line_ahead flow size2 (m ∷ ms)).column (line_ahead flow size2 (m ∷ ms)).fresh (line_ahead flow size2 (m ∷ ms)).token) there2 (other_line m ms g v em white t2))

    line_first : (ls ms : List Line) → AreOf old ls → AreOf new ms → Shares place ls ms → (line_ahead flow size ls).at ≡ place → LineAlike ls ms
    line_first [] ms o n sh h = absurd sh
    line_first (l ∷ ls) [] o n sh h = absurd sh
    line_first (l ∷ ls) (m ∷ ms) o n (inl q) h = subst (λ (z : Line). LineAlike (l ∷ ls) (z ∷ ms)) q.0 (same_line l ls ms (line_first ls ms o.1 n.1 q.1) h)
    line_first (l ∷ ls) (m ∷ ms) o n (inr (inr q)) h =
        subst (λ (z : Line). LineAlike (l ∷ ls) (z ∷ ms)) q.0 (same_line l ls ms (λ e. (let a = later_at ls q.2 in absurd (omega (arith, a, e)))) h)
    line_first (l ∷ ls) (m ∷ ms) o n (inr (inl q)) h =
        let far = q.1.5 in
        let low : l.at ≤ place = omega (arith, far) in
        let part = lines_part before rest other b feed flow l.at l.bytes m.bytes low o.0 (n.0 ∙ ap (λ i. line_at (drop i new)) (sym q.0)) in
        parted_line (drop l.at before) l m ls ms q.0 (drop_size l.at before low) q.2 part h

    -- ---- inside a line

    abbrev RestAlike : List Line → List Line → Type 0
    RestAlike ls ms =
        Alike flow b (rest_ahead flow size ls).at (rest_ahead flow size ls).column (rest_ahead flow size ls).fresh (rest_ahead flow size ls).token
        (rest_ahead flow size2 ms).at (rest_ahead flow size2 ms).column (rest_ahead flow size2 ms).fresh (rest_ahead flow size2 ms).token

    same_rest : (l : Line) (ls ms : List Line) → ((line_ahead flow size ls).at ≡ place → LineAlike ls ms) → (rest_ahead flow size (l ∷ ls)).at ≡ place → RestAlike (l ∷ ls) (l ∷ ms)
    same_rest l ls ms r h = cases (is_passed false l.bytes) passes contents where
      contents : is_passed false l.bytes ≡ false → RestAlike (l ∷ ls) (l ∷ ms)
      contents p =
          let e = rest_content flow size2 l ms p ∙ sym (rest_content flow size l ls p) in
          inr (ap (λ x. x.at) e, ap (λ x. x.column) e, ap (λ x. x.fresh) e, inl (ap (λ x. x.token) e))

      passes : is_passed false l.bytes ≡ true → RestAlike (l ∷ ls) (l ∷ ms)
      passes p =
          let e = rest_passed flow size l ls p in
          let f = rest_passed flow size2 l ms p in
          subst (λ x. Alike flow b x.at x.column x.fresh x.token (rest_ahead flow size2 (l ∷ ms)).at (rest_ahead flow size2 (l ∷ ms)).column (rest_ahead flow size2 (l ∷ ms)).fresh (rest_ahead flow size2 (l ∷ ms)).token) (sym e)
          (subst (λ y. Alike flow b (line_ahead flow size ls).at (line_ahead flow size ls).column (line_ahead flow size ls).fresh (line_ahead flow size ls).token y.at y.column y.fresh y.token) (sym f) (r (sym (ap (λ x. x.at) e) ∙ h)))

    parted_rest : (g : List ℕ) (l m : Line) (ls ms : List Line) → l.at ≡ m.at → l.at + length g ≡ place → Later place ls → Parted g b l.bytes m.bytes → (rest_ahead flow size (l ∷ ls)).at ≡ place → RestAlike (l ∷ ls) (m ∷ ms)
    parted_rest g l m ls ms there far w part h = cases (is_passed false l.bytes) passes (λ p. contents p part) where
      passes : is_passed false l.bytes ≡ true → RestAlike (l ∷ ls) (m ∷ ms)
      passes p = let z = ap (λ x. x.at) (rest_passed flow size l ls p) in let a = later_at ls w in absurd (omega (arith, z, a, h))

      contents : is_passed false l.bytes ≡ false → Parted g b l.bytes m.bytes → RestAlike (l ∷ ls) (m ∷ ms)
      contents p (inl q) =
          let less = blank_less l.bytes (not_blank false l.bytes p) in
          let c = q.1 in
          let z = ap (λ x. x.at) (rest_content flow size l ls p) in
          absurd (omega (arith, z, h, far, less, c))
      contents p (inr (u, v, el, em)) =
          let x = rest_content flow size l ls p in
          let z = ap (λ x. x.at) x in
          let n : lead is_white l.bytes ≡ length g = omega (arith, z, h, far) in
          let y = ap (lead is_white) el in
          let white = blank_of g (b ∷ u) (omega (arith, n, y)) in
          cases (is_passed false m.bytes) (λ k. inl (comment_of false g b v m.bytes em white black k)) (others x n white) where
            others : rest_ahead flow size (l ∷ ls) ≡ token_at (token_of flow (past_white l.bytes)) false (lead is_white l.bytes) (l.at + lead is_white l.bytes) → lead is_white l.bytes ≡ length g → is_blank g ≡ true → is_passed false m.bytes ≡ false → RestAlike (l ∷ ls) (m ∷ ms)
            others x n white k =
                let y = rest_content flow size2 m ms k in
                let whole : lead is_white m.bytes ≡ length g = ap (lead is_white) em ∙ lead_whole g b v white black in
                let past : past_white m.bytes ≡ b ∷ v = ap (λ k. drop k m.bytes) whole ∙ ap (drop (length g)) em ∙ drop_whole g (b ∷ v) in
                let same : m.at + lead is_white m.bytes ≡ l.at + lead is_white l.bytes = omega (arith, whole, n, there) in
                inr (ap (λ x. x.at) y ∙ same ∙ sym (ap (λ x. x.at) x), ap (λ x. x.column) y ∙ whole ∙ sym n ∙ sym (ap (λ x. x.column) x), ap (λ x. x.fresh) y ∙ sym (ap (λ x. x.fresh) x), inr (inr (v, ap (λ x. x.token) y ∙ ap (token_of flow) past)))

    rest_first : (ls ms : List Line) → AreOf old ls → AreOf new ms → Shares place ls ms → (rest_ahead flow size ls).at ≡ place → RestAlike ls ms
    rest_first [] ms o n sh h = absurd sh
    rest_first (l ∷ ls) [] o n sh h = absurd sh
    rest_first (l ∷ ls) (m ∷ ms) o n (inl q) h = subst (λ (z : Line). RestAlike (l ∷ ls) (z ∷ ms)) q.0 (same_rest l ls ms (line_first ls ms o.1 n.1 q.1) h)
    rest_first (l ∷ ls) (m ∷ ms) o n (inr (inr q)) h =
        subst (λ (z : Line). RestAlike (l ∷ ls) (z ∷ ms)) q.0 (same_rest l ls ms (λ e. (let a = later_at ls q.2 in absurd (omega (arith, a, e)))) h)
    rest_first (l ∷ ls) (m ∷ ms) o n (inr (inl q)) h =
        let far = q.1.5 in
        let low : l.at ≤ place = omega (arith, far) in
        let part = lines_part before rest other b feed flow l.at l.bytes m.bytes low o.0 (n.0 ∙ ap (λ i. line_at (drop i new)) (sym q.0)) in
        parted_rest (drop l.at before) l m ls ms q.0 (drop_size l.at before low) q.2 part h

  -- what is ahead begins at the place: what the other text has ahead begins there with the same byte
  first_alike : (i : ℕ) → i ≤ place → (ahead old flow i).at ≡ place
      → Alike flow b (ahead old flow i).at (ahead old flow i).column (ahead old flow i).fresh (ahead old flow i).token (ahead new flow i).at (ahead new flow i).column (ahead new flow i).fresh (ahead new flow i).token
  first_alike i low h = by_column (is_first_column old i) (is_first_column new i) (column_same before b rest other i low) h where
    within : place < length old
    within = omega (arith, length-append before (b ∷ rest))

    by_column : (q r : Bool) → q ≡ r → (cond q (line_ahead flow (length old) (lines i (drop i old))) (rest_ahead flow (length old) (lines i (drop i old)))).at ≡ place
        → Alike flow b (cond q (line_ahead flow (length old) (lines i (drop i old))) (rest_ahead flow (length old) (lines i (drop i old)))).at
        (cond q (line_ahead flow (length old) (lines i (drop i old))) (rest_ahead flow (length old) (lines i (drop i old)))).column
        (cond q (line_ahead flow (length old) (lines i (drop i old))) (rest_ahead flow (length old) (lines i (drop i old)))).fresh
        (cond q (line_ahead flow (length old) (lines i (drop i old))) (rest_ahead flow (length old) (lines i (drop i old)))).token
        (cond r (line_ahead flow (length new) (lines i (drop i new))) (rest_ahead flow (length new) (lines i (drop i new)))).at
        (cond r (line_ahead flow (length new) (lines i (drop i new))) (rest_ahead flow (length new) (lines i (drop i new)))).column
        (cond r (line_ahead flow (length new) (lines i (drop i new))) (rest_ahead flow (length new) (lines i (drop i new)))).fresh
        (cond r (line_ahead flow (length new) (lines i (drop i new))) (rest_ahead flow (length new) (lines i (drop i new)))).token
    by_column true false e h = absurd (true≢false e)
    by_column false true e h = absurd (true≢false (sym e))
    by_column true true e h = line_first (length old) (length new) within (lines i (drop i old)) (lines i (drop i new)) (lines_of old i) (lines_of new i) (texts_share before b rest other i low) h
    by_column false false e h = rest_first (length old) (length new) within (lines i (drop i old)) (lines i (drop i new)) (lines_of old i) (lines_of new i) (texts_share before b rest other i low) h

-- the same of texts that agree through the place
pub begins_alike : (text other : List ℕ) (flow : Bool) (i place b : ℕ) (rest : List ℕ) → AgreesTo place text other → drop place text ≡ b ∷ rest → ends_line (drop place text) ≡ ends_line (drop place other) → is_white b ≡ false → i ≤ place → (ahead text flow i).at ≡ place
    → Alike flow b (ahead text flow i).at (ahead text flow i).column (ahead text flow i).fresh (ahead text flow i).token (ahead other flow i).at (ahead other flow i).column (ahead other flow i).fresh (ahead other flow i).token
begins_alike text other flow i place b rest (before, behind, more, c, e, f, size) there feed black low h =
    let here : drop place text ≡ c ∷ behind = ap (λ k. drop k text) (sym size) ∙ ap (drop (length before)) e ∙ drop_whole before (c ∷ behind) in
    let same : c ≡ b = head_same c b behind rest (sym here ∙ there) in
    let breaks = breaks_alike before behind more c text other place e f size feed in
    let low2 : i ≤ length before = omega (arith, low, size) in
    let h2 : (ahead (before ++ (c ∷ behind)) flow i).at ≡ length before = sym (ap (λ t. (ahead t flow i).at) e) ∙ h ∙ sym size in
    let r = first_alike before behind more c breaks flow (ap is_white same ∙ black) i low2 h2 in
    let r2 = subst (λ t. Alike flow c (ahead t flow i).at (ahead t flow i).column (ahead t flow i).fresh (ahead t flow i).token (ahead (before ++ (c ∷ more)) flow i).at (ahead (before ++ (c ∷ more)) flow i).column (ahead (before ++ (c ∷ more)) flow i).fresh (ahead (before ++ (c ∷ more)) flow i).token) (sym e) r in
    let r3 = subst (λ t. Alike flow c (ahead text flow i).at (ahead text flow i).column (ahead text flow i).fresh (ahead text flow i).token (ahead t flow i).at (ahead t flow i).column (ahead t flow i).fresh (ahead t flow i).token) (sym f) r2 in
    subst (λ c. Alike flow c (ahead text flow i).at (ahead text flow i).column (ahead text flow i).fresh (ahead text flow i).token (ahead other flow i).at (ahead other flow i).column (ahead other flow i).fresh (ahead other flow i).token) same r3 where
      head_same : (c b : ℕ) (xs ys : List ℕ) → c ∷ xs ≡ b ∷ ys → c ≡ b
      head_same c b xs ys h = cc
