-- A plain scalar in flow that stands at the text's end stands there with a line behind the text that begins with a bracket or a comma. By induction over lines.
use Rattle.std.proofs.Common.{◌≡◌, ℕ, suc, ◌+◌, ◌<◌, ◌≤◌, Bool, true, false, ◌||◌, ◌&&◌, not, cond, nat_eq, arith, List, [], ◌∷◌, ◌++◌, take, drop, length, refl, sym, ap, ◌∙◌, true≢false, length-append, length-drop}
use Rattle.std.proofs.lemmas.Bool.Decides.{nat_tests}
use Rattle.std.proofs.lemmas.List.{take-append-le}
use Rattle.yaml_scalars.specs.declared.scalar.Setting.{Setting}
use Rattle.yaml_scalars.specs.declared.plain_line.Why.{Why}
use Rattle.yaml_scalars.specs.declared.plain_line.Why.TheVariants.{Break, Return, Colon, Comment, Mark}
use Rattle.std.specs.Prelude.{ℤ}
use Rattle.yaml_scalars.specs.declared.plain_line.Below.{Below}
use Rattle.yaml_scalars.specs.declared.plain_line.Below.TheVariants.{Blank, Outside, Further}
use Rattle.yaml_scalars.specs.Lines.{Line, Stands, begins_with, is_white, is_blank, is_mark, is_cut_mark, lead, past_white, trimmed, fold, lines}
use Rattle.yaml_scalars.specs.Scalar.{is_first_column, plain_scalar}
use Rattle.yaml_scalars.specs.code.Walk.{line_at, has_break, behind}
use Rattle.yaml_scalars.proofs.Places.{lines_are}
use Rattle.yaml_scalars.specs.Plain.{is_flow_mark, is_unsafe, stops, plain_len, content, content_end, why, reason, content_at, inside, below, joined, ends_on, joins, further, first, more, plain_on, begins_plain, is_indicator, is_doubtful}
use Rattle.yaml_scalars.proofs.FurtherLines.{plain_le, skip_le}
use Rattle.yaml_laws.specs.code.Endings.{last_mark}
use Rattle.yaml_laws.proofs.Agree.{drop_before}
use Rattle.yaml_laws.proofs.BlockHeads.{cases}
use Rattle.yaml_laws.proofs.BlockShown.{blank_less, blank_not}
use Rattle.yaml_laws.proofs.Longer.{glue, rest_of, no_feed, lines_more}
use Rattle.yaml_laws.proofs.EscapeLonger.{is_fit}
use Rattle.yaml_laws.proofs.PlainDead.{drop_whole}
use Rattle.yaml_laws.proofs.PlainLines.{begins_in, further_parts}
use Rattle.yaml_laws.proofs.PlainLaw.{marked}
use Rattle.yaml_laws.proofs.PlainStays.{opens_stands, made}
use Rattle.yaml_laws.proofs.QuotedLonger.{mark_fit, cut_fit}
use Rattle.yaml_laws.proofs.ScalarLaw.{column_longer}
use Rattle.yaml_laws.proofs.QuotedLaw.{lead_whole, lead_some}

-- why a part ends, with such a byte behind it
abbrev pub closed_why : Why → Why
closed_why Break = Mark
closed_why Return = Return
closed_why Colon = Colon
closed_why Comment = Comment
closed_why Mark = Mark

module _ (c : ℕ) (tail : List ℕ) (closes : is_flow_mark c ≡ true) where
  why_mark : (z : List ℕ) → why (c ∷ z) ≡ Mark
  why_mark z =
      let x : nat_eq c 13 ≡ false = grind (arith, nat_tests, closes) in
      let y : nat_eq c 58 ≡ false = grind (arith, nat_tests, closes) in
      let w : nat_eq c 35 ≡ false = grind (arith, nat_tests, closes) in
      ap (λ q. cond q Return (cond (nat_eq c 58) Colon (cond (nat_eq c 35) Comment Mark))) x ∙ ap (λ q. cond q Colon (cond (nat_eq c 35) Comment Mark)) y ∙ ap (λ q. cond q Comment Mark) w

  pub unsafe_more : (bs : List ℕ) → is_unsafe true (bs ++ (c ∷ tail)) ≡ is_unsafe true bs
  unsafe_more [] = by_white (is_white c) (is_flow_mark c) closes where
    by_white : (p q : Bool) → q ≡ true → (p || q) ≡ true
    by_white true q e = refl
    by_white false q e = e
  unsafe_more (b ∷ bs) = refl

  stops_mark : (white : Bool) → stops true white c tail ≡ true
  stops_mark white = by_or ((nat_eq c 58 && is_unsafe true tail) || (nat_eq c 35 && white)) (is_flow_mark c) (nat_eq c 13) closes where
    by_or : (p r s : Bool) → r ≡ true → ((p || r) || s) ≡ true
    by_or true r s e = refl
    by_or false true s e = refl
    by_or false false s e = absurd (true≢false (sym e))

  len_more : (white : Bool) (xs : List ℕ) → plain_len true white (xs ++ (c ∷ tail)) ≡ plain_len true white xs
  len_more white [] = ap (λ q. cond q 0 (suc (plain_len true (is_white c) tail))) (stops_mark white)
  len_more white (b ∷ bs) =
      ap (λ q. cond ((((nat_eq b 58 && q) || (nat_eq b 35 && white)) || is_flow_mark b) || nat_eq b 13) 0 (suc (plain_len true (is_white b) (bs ++ (c ∷ tail))))) (unsafe_more bs)
      ∙ ap (λ n. cond (stops true white b bs) 0 (suc n)) (len_more (is_white b) bs)

  pub content_more : (xs : List ℕ) → content true (xs ++ (c ∷ tail)) ≡ content true xs
  content_more xs = ap (λ n. trimmed (take n (xs ++ (c ∷ tail)))) (len_more false xs) ∙ ap trimmed (take-append-le (plain_len true false xs) xs (c ∷ tail) (plain_le true false xs))

  some_why : (b : ℕ) (xs : List ℕ) → closed_why (why (b ∷ xs)) ≡ why (b ∷ xs)
  some_why b xs = by_tests (nat_eq b 13) (nat_eq b 58) (nat_eq b 35) where
    by_tests : (p q r : Bool) → closed_why (cond p Return (cond q Colon (cond r Comment Mark))) ≡ cond p Return (cond q Colon (cond r Comment Mark))
    by_tests true q r = refl
    by_tests false true r = refl
    by_tests false false true = refl
    by_tests false false false = refl

  -- why it ends is the same, but for the line's end
  ends_more : (xs : List ℕ) → why (xs ++ (c ∷ tail)) ≡ closed_why (why xs)
  ends_more [] = why_mark tail
  ends_more (b ∷ xs) = sym (some_why b xs)

  pub reason_more : (xs : List ℕ) → reason true (xs ++ (c ∷ tail)) ≡ closed_why (reason true xs)
  reason_more xs = ap (λ n. why (drop n (xs ++ (c ∷ tail)))) (len_more false xs) ∙ ap why (drop_before (plain_len true false xs) xs (c ∷ tail) (plain_le true false xs)) ∙ ends_more (drop (plain_len true false xs) xs)

  pub len_closed : (xs : List ℕ) → plain_len true false (xs ++ (c ∷ tail)) ≡ plain_len true false xs
  len_closed xs = len_more false xs

  -- ---- the last line

  pub not_white : is_white c ≡ false
  not_white = grind (arith, nat_tests, closes)

  fit : is_fit c ≡ true
  fit = grind (arith, nat_tests, closes)

  pub mark_more : (xs : List ℕ) → is_mark xs ≡ false → is_mark (xs ++ (c ∷ tail)) ≡ false
  mark_more xs h = by_mark (is_mark (xs ++ (c ∷ tail))) refl where
    by_mark : (q : Bool) → is_mark (xs ++ (c ∷ tail)) ≡ q → q ≡ false
    by_mark true e = absurd (true≢false (sym (mark_fit xs c tail fit e).0 ∙ h))
    by_mark false e = refl

  cut_more : (xs : List ℕ) → is_cut_mark xs ≡ false → is_cut_mark (xs ++ (c ∷ tail)) ≡ false
  cut_more xs h = by_mark (is_cut_mark (xs ++ (c ∷ tail))) refl where
    by_mark : (q : Bool) → is_cut_mark (xs ++ (c ∷ tail)) ≡ q → q ≡ false
    by_mark true e = absurd (true≢false (sym (cut_fit xs c tail fit e) ∙ h))
    by_mark false e = refl

  marked_more : (xs : List ℕ) → marked xs ≡ false → marked (xs ++ (c ∷ tail)) ≡ false
  marked_more xs h = let p = neither (is_mark xs) (is_cut_mark xs) h in both (is_mark (xs ++ (c ∷ tail))) (is_cut_mark (xs ++ (c ∷ tail))) (mark_more xs p.0) (cut_more xs p.1) where
    neither : (p q : Bool) → (p || q) ≡ false → (p ≡ false) × (q ≡ false)
    neither true q h = absurd (true≢false h)
    neither false q h = (refl, h)

    both : (p q : Bool) → p ≡ false → q ≡ false → (p || q) ≡ false
    both true q a b = absurd (true≢false a)
    both false q a b = b

  begins_more : (xs : List ℕ) → begins_plain true xs ≡ true → begins_plain true (xs ++ (c ∷ tail)) ≡ true
  begins_more [] h = absurd (true≢false (sym h))
  begins_more (b ∷ []) h = firm (not (is_white b || is_indicator b || nat_eq b 13)) (is_doubtful b) (not (is_unsafe true (c ∷ tail) || begins_with 13 (c ∷ tail))) h where
    firm : (x d v : Bool) → (x && (not d || false)) ≡ true → (x && (not d || v)) ≡ true
    firm true false v h = refl
    firm true true v h = absurd (true≢false (sym h))
    firm false d v h = absurd (true≢false (sym h))
  begins_more (b ∷ d ∷ xs) h = h

  module _ (p : ℤ) (o : Bool) where
    abbrev flow_setting : Setting
    flow_setting = record { parent = p; flow = true; one_line = o }

    below_is : (xs : List ℕ) (n : ℕ) → is_blank xs ≡ false → is_mark xs ≡ false → lead is_white xs ≡ n → below flow_setting xs ≡ content_at n (drop n xs)
    below_is xs n b m l = ap (λ q. cond q Blank (cond (is_mark xs) Outside (content_at (lead is_white xs) (past_white xs)))) b ∙ ap (λ q. cond q Outside (content_at (lead is_white xs) (past_white xs))) m ∙ ap (λ n. content_at n (drop n xs)) l

    blank_below : (xs : List ℕ) → is_blank xs ≡ true → is_mark xs ≡ false → below flow_setting (xs ++ (c ∷ tail)) ≡ Further (length xs)
    blank_below xs b m =
        let l = lead_whole xs c tail b not_white in
        let w = drop_whole xs (c ∷ tail) in
        let none : nat_eq c 35 ≡ false = grind (arith, nat_tests, closes) in
        below_is (xs ++ (c ∷ tail)) (length xs) (blank_not (xs ++ (c ∷ tail)) (omega (arith, l, length-append xs (c ∷ tail)))) (mark_more xs m) l
        ∙ ap (content_at (length xs)) w ∙ ap (λ q. cond q Outside (Further (length xs))) none

    full_below : (xs : List ℕ) → is_blank xs ≡ false → is_mark xs ≡ false → below flow_setting (xs ++ (c ∷ tail)) ≡ below flow_setting xs
    full_below xs b m =
        let l = lead_some xs (c ∷ tail) b in
        below_is (xs ++ (c ∷ tail)) (lead is_white xs) l.2 (mark_more xs m) l.0
        ∙ ap (λ q. cond q Outside (Further (lead is_white xs))) (begins_in 35 (lead is_white xs) xs (c ∷ tail) (blank_less xs b))
        ∙ sym (below_is xs (lead is_white xs) b m refl)

    part_closed : (part t : List ℕ) (at e k : ℕ) (u : List ℕ) (f : ℕ) (w : Why) → reason true part ≡ w → 0 < length part → joins true w part at t e k (more flow_setting []) ≡ Stands u f → joins true (closed_why w) (part ++ (c ∷ tail)) at t e k (more flow_setting []) ≡ Stands u f
    part_closed part t at e k u f w r some h = by_why w r h where
      ends : ends_on true (part ++ (c ∷ tail)) at t e k ≡ ends_on true part at t e k
      ends =
          ap (λ n. cond (nat_eq n 0) (Stands t e) (Stands (t ++ (fold k ++ content true (part ++ (c ∷ tail)))) (at + length (content true (part ++ (c ∷ tail)))))) (len_more false part)
          ∙ ap (λ (z : List ℕ). cond (nat_eq (plain_len true false part) 0) (Stands t e) (Stands (t ++ (fold k ++ z)) (at + length z))) (content_more part)

      going : reason true part ≡ Break → nat_eq (plain_len true false part) 0 ≡ false
      going r = by_len (nat_eq (plain_len true false part) 0) refl where
        first : (xs : List ℕ) → 0 < length xs → why xs ≡ Break → ⊥
        first [] l b = omega (arith, l)
        first (d ∷ xs) l b = (let z = some_why d xs in let y : Mark ≡ Break = sym (ap closed_why b) ∙ z ∙ b in cc)

        by_len : (q : Bool) → nat_eq (plain_len true false part) 0 ≡ q → nat_eq (plain_len true false part) 0 ≡ false
        by_len false e = e
        by_len true e = absurd (let z : plain_len true false part ≡ 0 = grind (arith, nat_tests, e) in first part some (sym (ap (λ n. why (drop n part)) z) ∙ r))

      by_why : (w : Why) → reason true part ≡ w → joins true w part at t e k (more flow_setting []) ≡ Stands u f → joins true (closed_why w) (part ++ (c ∷ tail)) at t e k (more flow_setting []) ≡ Stands u f
      by_why Break r h = ends ∙ ap (λ q. cond q (Stands t e) (Stands (joined true part t k) (content_end true part at))) (going r) ∙ h
      by_why Return r h = absurd (cc)
      by_why Colon r h = ends ∙ h
      by_why Comment r h = ap (λ (z : List ℕ). Stands (t ++ (fold k ++ z)) (at + length z)) (content_more part) ∙ h
      by_why Mark r h = ends ∙ h

    last_closed : (at : ℕ) (xs t : List ℕ) (e k : ℕ) (u : List ℕ) (f : ℕ) → is_mark xs ≡ false → further flow_setting (below flow_setting xs) at xs t e k (more flow_setting []) ≡ Stands u f
        → further flow_setting (below flow_setting (xs ++ (c ∷ tail))) at (xs ++ (c ∷ tail)) t e k (more flow_setting []) ≡ Stands u f
    last_closed at xs t e k u f m h = cases (is_blank xs) blank full where
      blank : is_blank xs ≡ true → further flow_setting (below flow_setting (xs ++ (c ∷ tail))) at (xs ++ (c ∷ tail)) t e k (more flow_setting []) ≡ Stands u f
      blank b =
          let old : Stands t e ≡ Stands u f = sym (ap (λ q. further flow_setting (cond q Blank (cond (is_mark xs) Outside (inside flow_setting xs))) at xs t e k (more flow_setting [])) b) ∙ h in
          let part = drop_whole xs (c ∷ tail) in
          ap (λ w. further flow_setting w at (xs ++ (c ∷ tail)) t e k (more flow_setting [])) (blank_below xs b m)
          ∙ ap (λ y. joins true (reason true y) y (at + length xs) t e k (more flow_setting [])) part
          ∙ ap (λ w. joins true w (c ∷ tail) (at + length xs) t e k (more flow_setting [])) (reason_more [])
          ∙ ap (λ n. cond (nat_eq n 0) (Stands t e) (Stands (joined true (c ∷ tail) t k) (content_end true (c ∷ tail) (at + length xs)))) (len_more false [])
          ∙ old

      full : is_blank xs ≡ false → further flow_setting (below flow_setting (xs ++ (c ∷ tail))) at (xs ++ (c ∷ tail)) t e k (more flow_setting []) ≡ Stands u f
      full b = ap (λ w. further flow_setting w at (xs ++ (c ∷ tail)) t e k (more flow_setting [])) (full_below xs b m) ∙ by_below (below flow_setting xs) refl h where
        by_below : (w : Below) → below flow_setting xs ≡ w → further flow_setting w at xs t e k (more flow_setting []) ≡ Stands u f → further flow_setting w at (xs ++ (c ∷ tail)) t e k (more flow_setting []) ≡ Stands u f
        by_below Blank i h = h
        by_below Outside i h = h
        by_below (Further n) i h =
            let low = skip_le flow_setting xs n i in
            let less = blank_less xs b in
            let white = (further_parts flow_setting xs n i).0 in
            let some : 0 < length (drop n xs) = omega (arith, less, white, length-drop n xs) in
            let parts : drop n (xs ++ (c ∷ tail)) ≡ drop n xs ++ (c ∷ tail) = drop_before n xs (c ∷ tail) low in
            ap (λ y. joins true (reason true y) y (at + n) t e k (more flow_setting [])) parts
            ∙ ap (λ w. joins true w (drop n xs ++ (c ∷ tail)) (at + n) t e k (more flow_setting [])) (reason_more (drop n xs))
            ∙ part_closed (drop n xs) t (at + n) e k u f (reason true (drop n xs)) refl some h

    -- a line that ends a document is not the last
    pub more_closed : (place : ℕ) (ls : List Line) (t : List ℕ) (e k : ℕ) (u : List ℕ) (f : ℕ) → last_mark ls ≡ false → more flow_setting ls t e k ≡ Stands u f → more flow_setting (glue ls (rest_of place (c ∷ tail) ∷ [])) t e k ≡ Stands u f
    more_closed place [] t e k u f m h = h
    more_closed place (l ∷ []) t e k u f m h = last_closed l.at l.bytes t e k u f m h
    more_closed place (l ∷ n ∷ ls) t e k u f m h = by_below (below flow_setting l.bytes) h (λ x y z g. more_closed place (n ∷ ls) x y z u f m g) where
      new : List Line
      new = glue (n ∷ ls) (rest_of place (c ∷ tail) ∷ [])

      by_why : (w : Why) (part : List ℕ) (at : ℕ) → joins true w part at t e k (more flow_setting (n ∷ ls)) ≡ Stands u f → ((x : List ℕ) (y z : ℕ) → more flow_setting (n ∷ ls) x y z ≡ Stands u f → more flow_setting (glue (n ∷ ls) (rest_of place (c ∷ tail) ∷ [])) x y z ≡ Stands u f)
          → joins true w part at t e k (more flow_setting (glue (n ∷ ls) (rest_of place (c ∷ tail) ∷ []))) ≡ Stands u f
      by_why Break part at h r = r (joined true part t k) (content_end true part at) 0 h
      by_why Return part at h r = absurd (cc)
      by_why Colon part at h r = h
      by_why Comment part at h r = h
      by_why Mark part at h r = h

      by_below : (w : Below) → further flow_setting w l.at l.bytes t e k (more flow_setting (n ∷ ls)) ≡ Stands u f → ((x : List ℕ) (y z : ℕ) → more flow_setting (n ∷ ls) x y z ≡ Stands u f → more flow_setting (glue (n ∷ ls) (rest_of place (c ∷ tail) ∷ [])) x y z ≡ Stands u f)
          → further flow_setting w l.at l.bytes t e k (more flow_setting (glue (n ∷ ls) (rest_of place (c ∷ tail) ∷ []))) ≡ Stands u f
      by_below Blank h r = r t e (suc k) h
      by_below Outside h r = h
      by_below (Further j) h r = by_why (reason true (drop j l.bytes)) (drop j l.bytes) (l.at + j) h r

    -- ---- from its first line on

    first_closed : (w : Why) (at : ℕ) (xs u : List ℕ) (f : ℕ) → first flow_setting w at xs [] ≡ Stands u f → first flow_setting (closed_why w) at (xs ++ (c ∷ tail)) [] ≡ Stands u f
    first_closed w at xs u f h = by_why w h where
      same : Stands (content true xs) (content_end true xs at) ≡ Stands u f → Stands (content true (xs ++ (c ∷ tail))) (content_end true (xs ++ (c ∷ tail)) at) ≡ Stands u f
      same h = ap (λ (z : List ℕ). Stands z (at + length z)) (content_more xs) ∙ h

      by_line : (q : Bool) → cond q (Stands (content true xs) (content_end true xs at)) (Stands (content true xs) (content_end true xs at)) ≡ Stands u f → Stands (content true xs) (content_end true xs at) ≡ Stands u f
      by_line true h = h
      by_line false h = h

      by_why : (w : Why) → first flow_setting w at xs [] ≡ Stands u f → first flow_setting (closed_why w) at (xs ++ (c ∷ tail)) [] ≡ Stands u f
      by_why Break h = same (by_line o h)
      by_why Return h = absurd (cc)
      by_why Colon h = same h
      by_why Comment h = same h
      by_why Mark h = same h

    first_below : (place : ℕ) (w : Why) (at : ℕ) (xs : List ℕ) (ls : List Line) (u : List ℕ) (f : ℕ) → last_mark ls ≡ false → first flow_setting w at xs ls ≡ Stands u f → first flow_setting w at xs (glue ls (rest_of place (c ∷ tail) ∷ [])) ≡ Stands u f
    first_below place Break at xs ls u f m h = by_line o h where
      by_line : (q : Bool) → cond q (Stands (content true xs) (content_end true xs at)) (more flow_setting ls (content true xs) (content_end true xs at) 0) ≡ Stands u f
          → cond q (Stands (content true xs) (content_end true xs at)) (more flow_setting (glue ls (rest_of place (c ∷ tail) ∷ [])) (content true xs) (content_end true xs at) 0) ≡ Stands u f
      by_line true h = h
      by_line false h = more_closed place ls (content true xs) (content_end true xs at) 0 u f m h
    first_below place Return at xs ls u f m h = absurd (cc)
    first_below place Colon at xs ls u f m h = h
    first_below place Comment at xs ls u f m h = h
    first_below place Mark at xs ls u f m h = h

    on_closed : (fresh : Bool) (place : ℕ) (l : Line) (ls : List Line) (u : List ℕ) (f : ℕ) → last_mark ls ≡ false → plain_on flow_setting fresh (l ∷ ls) ≡ Stands u f → plain_on flow_setting fresh (glue (l ∷ ls) (rest_of place (c ∷ tail) ∷ [])) ≡ Stands u f
    on_closed fresh place l [] u f m h =
        let a = opens_stands flow_setting fresh l [] u f h in
        made flow_setting fresh (record { at = l.at; bytes = l.bytes ++ (c ∷ tail); broken = false }) [] u f (by_fresh fresh a.0) (begins_more l.bytes a.1)
        (ap (λ w. first flow_setting w l.at (l.bytes ++ (c ∷ tail)) []) (reason_more l.bytes) ∙ first_closed (reason true l.bytes) l.at l.bytes u f a.2) where
          by_fresh : (q : Bool) → (q && marked l.bytes) ≡ false → (q && marked (l.bytes ++ (c ∷ tail))) ≡ false
          by_fresh true e = marked_more l.bytes e
          by_fresh false e = refl
    on_closed fresh place l (n ∷ ls) u f m h =
        let a = opens_stands flow_setting fresh l (n ∷ ls) u f h in
        made flow_setting fresh l (glue (n ∷ ls) (rest_of place (c ∷ tail) ∷ [])) u f a.0 a.1 (first_below place (reason true l.bytes) l.at l.bytes (n ∷ ls) u f m a.2)

    -- a text and a longer one
    pub plain_closed : (text : List ℕ) (at : ℕ) (u : List ℕ) (f : ℕ) → no_feed tail ≡ true → at ≤ length text → last_mark (behind at (drop at text)) ≡ false → plain_scalar flow_setting text at ≡ Stands u f → plain_scalar flow_setting (text ++ (c ∷ tail)) at ≡ Stands u f
    plain_closed text at u f one low m h =
        let xs = drop at text in
        let feed : no_feed (c ∷ tail) ≡ true = (let z : nat_eq c 10 ≡ false = grind (arith, nat_tests, closes) in ap (λ q. cond q false (no_feed tail)) z ∙ one) in
        let there : drop at (text ++ (c ∷ tail)) ≡ xs ++ (c ∷ tail) = drop_before at text (c ∷ tail) low in
        let longer = lines_more at xs (c ∷ tail) feed in
        let is = lines_are at xs in
        let l : Line = record { at = at; bytes = line_at xs; broken = has_break xs } in
        let fresh = is_first_column text at in
        let r = on_closed fresh (at + length xs) l (behind at xs) u f m (sym (ap (plain_on flow_setting fresh) is) ∙ h) in
        ap (λ q. plain_on flow_setting q (lines at (drop at (text ++ (c ∷ tail))))) (column_longer text (c ∷ tail) at low) ∙ ap (λ t. plain_on flow_setting fresh (lines at t)) there ∙ ap (plain_on flow_setting fresh) longer
        ∙ ap (λ ls. plain_on flow_setting fresh (glue ls (rest_of (at + length xs) (c ∷ tail) ∷ []))) is ∙ r
