-- A plain scalar on one line with nothing but white space between it and the text's end stands with a colon behind the text. By induction over the line's bytes.
use Rattle.std.proofs.Common.{◌≡◌, ℕ, zero, suc, ◌+◌, ◌≤◌, Bool, true, false, ◌||◌, ◌&&◌, not, cond, nat_eq, arith, List, [], ◌∷◌, ◌++◌, take, drop, length, refl, sym, ap, ◌∙◌, subst, true≢false, length-take}
use Rattle.std.proofs.lemmas.Bool.Decides.{nat_tests}
use Rattle.std.proofs.lemmas.List.{drop-drop, take_all}
use Rattle.yaml_scalars.specs.declared.scalar.Setting.{Setting}
use Rattle.yaml_scalars.specs.declared.plain_line.Why.{Why}
use Rattle.yaml_scalars.specs.declared.plain_line.Why.TheVariants.{Break, Return, Colon, Comment, Mark}
use Rattle.yaml_scalars.specs.Lines.{Line, Stands, begins_with, begins_break, is_white, is_blank, is_mark, is_cut_mark, keep, trimmed, lines}
use Rattle.yaml_scalars.specs.Scalar.{is_first_column, plain_scalar}
use Rattle.yaml_scalars.specs.code.Walk.{line_at, has_break, behind}
use Rattle.yaml_scalars.proofs.Places.{lines_are}
use Rattle.yaml_scalars.specs.Plain.{is_flow_mark, is_unsafe, is_indicator, is_doubtful, begins_plain, stops, plain_len, content, content_end, why, reason, more, first, plain_on}
use Rattle.yaml_scalars.proofs.FurtherLines.{plain_le}
use Rattle.yaml_laws.proofs.Agree.{drop_before}
use Rattle.yaml_laws.proofs.PlainDead.{drop_whole}
use Rattle.yaml_laws.proofs.PlainLaw.{marked}
use Rattle.yaml_laws.proofs.PlainShown.{take_front}
use Rattle.yaml_laws.proofs.PlainStays.{opens_stands, made}
use Rattle.yaml_laws.proofs.QuotedLonger.{mark_fit, cut_fit}
use Rattle.yaml_laws.proofs.ScalarLaw.{column_longer}

-- ---- white space up to the text's end

keep_le : (b n : ℕ) (ts : List ℕ) → length ts ≤ n → length (keep b ts) ≤ suc n
keep_le b n (c ∷ cs) l = omega (arith, l)
keep_le b n [] l = by_white (is_white b) where
  by_white : (q : Bool) → length (cond q [] (b ∷ [])) ≤ suc n
  by_white true = omega arith
  by_white false = omega arith

pub trimmed_le : (bs : List ℕ) → length (trimmed bs) ≤ length bs
trimmed_le [] = omega arith
trimmed_le (b ∷ bs) = keep_le b (length bs) (trimmed bs) (trimmed_le bs)

white_break : (b : ℕ) (bs : List ℕ) → is_white b ≡ true → begins_break b bs ≡ false
white_break b bs h = grind (arith, nat_tests, h)

-- there is one line
pub one_line : (n : ℕ) (xs : List ℕ) → n ≤ length (line_at xs) → is_blank (drop n xs) ≡ true → line_at xs ≡ xs
one_line zero [] l h = refl
one_line zero (b ∷ xs) l h = by_white (is_white b) refl h (λ g. one_line zero xs (omega arith) g) where
  by_white : (q : Bool) → is_white b ≡ q → cond q (is_blank xs) false ≡ true → (is_blank xs ≡ true → line_at xs ≡ xs) → cond (begins_break b xs) [] (b ∷ line_at xs) ≡ b ∷ xs
  by_white true e h r = ap (λ q. cond q [] (b ∷ line_at xs)) (white_break b xs e) ∙ ap (λ t. b ∷ t) (r h)
  by_white false e h r = absurd (true≢false (sym h))
one_line (suc n) [] l h = refl
one_line (suc n) (b ∷ xs) l h = by_break (begins_break b xs) l (λ m. one_line n xs m h) where
  by_break : (q : Bool) → suc n ≤ length (cond q [] (b ∷ line_at xs)) → (n ≤ length (line_at xs) → line_at xs ≡ xs) → cond q [] (b ∷ line_at xs) ≡ b ∷ xs
  by_break true m r = absurd (omega (arith, m))
  by_break false m r = ap (λ t. b ∷ t) (r (omega (arith, m)))

-- and nothing ends the scalar on it
pub white_goes : (flow white : Bool) (b : ℕ) (bs : List ℕ) → is_white b ≡ true → stops flow white b bs ≡ false
white_goes flow white b bs h =
    let x : nat_eq b 58 ≡ false = grind (arith, nat_tests, h) in
    let y : nat_eq b 35 ≡ false = grind (arith, nat_tests, h) in
    let z : is_flow_mark b ≡ false = grind (arith, nat_tests, h) in
    let w : nat_eq b 13 ≡ false = grind (arith, nat_tests, h) in
    by_tests (nat_eq b 58) (nat_eq b 35) (is_flow_mark b) (nat_eq b 13) (is_unsafe flow bs) white flow x y z w where
      by_tests : (p q r s u v f : Bool) → p ≡ false → q ≡ false → r ≡ false → s ≡ false → ((((p && u) || (q && v)) || (f && r)) || s) ≡ false
      by_tests true q r s u v f a b c d = absurd (true≢false a)
      by_tests false true r s u v f a b c d = absurd (true≢false b)
      by_tests false false true s u v f a b c d = absurd (true≢false c)
      by_tests false false false true u v f a b c d = absurd (true≢false d)
      by_tests false false false false u v true a b c d = refl
      by_tests false false false false u v false a b c d = refl

pub fills : (flow white : Bool) (n : ℕ) (xs : List ℕ) → n ≤ plain_len flow white xs → is_blank (drop n xs) ≡ true → plain_len flow white xs ≡ length xs
fills flow white zero [] l h = refl
fills flow white zero (b ∷ xs) l h = by_white (is_white b) refl h (λ g. fills flow (is_white b) zero xs (omega arith) g) where
  by_white : (q : Bool) → is_white b ≡ q → cond q (is_blank xs) false ≡ true → (is_blank xs ≡ true → plain_len flow (is_white b) xs ≡ length xs) → cond (stops flow white b xs) 0 (suc (plain_len flow (is_white b) xs)) ≡ suc (length xs)
  by_white true e h r = ap (λ q. cond q 0 (suc (plain_len flow (is_white b) xs))) (white_goes flow white b xs e) ∙ ap suc (r h)
  by_white false e h r = absurd (true≢false (sym h))
fills flow white (suc n) [] l h = absurd (omega (arith, l))
fills flow white (suc n) (b ∷ xs) l h = by_stop (stops flow white b xs) l (λ m. fills flow (is_white b) n xs m h) where
  by_stop : (q : Bool) → suc n ≤ cond q 0 (suc (plain_len flow (is_white b) xs)) → (n ≤ plain_len flow (is_white b) xs → plain_len flow (is_white b) xs ≡ length xs) → cond q 0 (suc (plain_len flow (is_white b) xs)) ≡ suc (length xs)
  by_stop true m r = absurd (omega (arith, m))
  by_stop false m r = ap suc (r (omega (arith, m)))

-- ---- a colon behind the line

stops_more : (flow white : Bool) (b : ℕ) (xs y : List ℕ) → stops flow white b xs ≡ false → stops flow white b (xs ++ y) ≡ false
stops_more flow white b (c ∷ xs) y h = h
stops_more flow white b [] y h = by_tests (nat_eq b 58) (nat_eq b 35 && white) (flow && is_flow_mark b) (nat_eq b 13) (is_unsafe flow y) h where
  by_tests : (p q r s u : Bool) → ((((p && true) || q) || r) || s) ≡ false → ((((p && u) || q) || r) || s) ≡ false
  by_tests true q r s u e = absurd (true≢false (or_true q r s e)) where
    or_true : (q r s : Bool) → ((true || r) || s) ≡ false → true ≡ false
    or_true q r s e = e
  by_tests false q r s u e = e

colon_stops : (flow white : Bool) (z : List ℕ) → is_unsafe flow z ≡ true → stops flow white 58 z ≡ true
colon_stops flow white z e = ap (λ u. (((u || (false && white)) || (flow && false)) || false)) e

keyed_len : (flow white : Bool) (xs z : List ℕ) → is_unsafe flow z ≡ true → plain_len flow white xs ≡ length xs → plain_len flow white (xs ++ (58 ∷ z)) ≡ length xs
keyed_len flow white [] z e h = ap (λ q. cond q 0 (suc (plain_len flow (is_white 58) z))) (colon_stops flow white z e)
keyed_len flow white (b ∷ xs) z e h = by_stop (stops flow white b xs) refl h (λ g. keyed_len flow (is_white b) xs z e g) where
  by_stop : (q : Bool) → stops flow white b xs ≡ q → cond q 0 (suc (plain_len flow (is_white b) xs)) ≡ suc (length xs) → (plain_len flow (is_white b) xs ≡ length xs → plain_len flow (is_white b) (xs ++ (58 ∷ z)) ≡ length xs)
      → cond (stops flow white b (xs ++ (58 ∷ z))) 0 (suc (plain_len flow (is_white b) (xs ++ (58 ∷ z)))) ≡ suc (length xs)
  by_stop true s h r = absurd (omega (arith, h))
  by_stop false s h r = ap (λ q. cond q 0 (suc (plain_len flow (is_white b) (xs ++ (58 ∷ z))))) (stops_more flow white b xs (58 ∷ z) s) ∙ ap suc (r (omega (arith, h)))

keyed_marked : (fresh : Bool) (xs z : List ℕ) → (fresh && marked xs) ≡ false → (fresh && marked (xs ++ (58 ∷ z))) ≡ false
keyed_marked false xs z h = refl
keyed_marked true xs z h = by_tests (is_mark (xs ++ (58 ∷ z))) (is_cut_mark (xs ++ (58 ∷ z))) refl refl where
  or_left : (p q : Bool) → p ≡ true → (p || q) ≡ true
  or_left true q e = refl
  or_left false q e = absurd (true≢false (sym e))

  or_right : (p q : Bool) → q ≡ true → (p || q) ≡ true
  or_right true q e = refl
  or_right false q e = e

  by_tests : (p q : Bool) → is_mark (xs ++ (58 ∷ z)) ≡ p → is_cut_mark (xs ++ (58 ∷ z)) ≡ q → (p || q) ≡ false
  by_tests true q a b = absurd (true≢false (sym (or_left (is_mark xs) (is_cut_mark xs) (mark_fit xs 58 z refl a).0) ∙ h))
  by_tests false true a b = absurd (true≢false (sym (or_right (is_mark xs) (is_cut_mark xs) (cut_fit xs 58 z refl b)) ∙ h))
  by_tests false false a b = refl

keyed_begins : (flow : Bool) (xs z : List ℕ) → begins_plain flow xs ≡ true → begins_plain flow (xs ++ (58 ∷ z)) ≡ true
keyed_begins flow [] z h = absurd (true≢false (sym h))
keyed_begins flow (b ∷ []) z h = firm (not (is_white b || is_indicator b || nat_eq b 13)) (is_doubtful b) (not (is_unsafe flow (58 ∷ z) || begins_with 13 (58 ∷ z))) h where
  firm : (x d v : Bool) → (x && (not d || false)) ≡ true → (x && (not d || v)) ≡ true
  firm true false v h = refl
  firm true true v h = absurd (true≢false (sym h))
  firm false d v h = absurd (true≢false (sym h))
keyed_begins flow (b ∷ c ∷ xs) z h = h

-- a scalar on one line is its content, whatever ends it
first_content : (s : Setting) (w : Why) (at : ℕ) (xs : List ℕ) (ls : List Line) (t : List ℕ) (e : ℕ) → s.one_line ≡ true → first s w at xs ls ≡ Stands t e → (content s.flow xs ≡ t) × (content_end s.flow xs at ≡ e)
first_content s w at xs ls t e one h = by_why w h where
  same : Stands (content s.flow xs) (content_end s.flow xs at) ≡ Stands t e → (content s.flow xs ≡ t) × (content_end s.flow xs at ≡ e)
  same g =
      let a : content s.flow xs ≡ t = cc in
      let b : content_end s.flow xs at ≡ e = cc in
      (a, b)

  by_line : (q : Bool) → q ≡ true → cond q (Stands (content s.flow xs) (content_end s.flow xs at)) (more s ls (content s.flow xs) (content_end s.flow xs at) 0) ≡ Stands t e → (content s.flow xs ≡ t) × (content_end s.flow xs at ≡ e)
  by_line true i g = same g
  by_line false i g = absurd (true≢false (sym i))

  by_why : (w : Why) → first s w at xs ls ≡ Stands t e → (content s.flow xs ≡ t) × (content_end s.flow xs at ≡ e)
  by_why Break g = by_line s.one_line one g
  by_why Return g = absurd (cc)
  by_why Colon g = same g
  by_why Comment g = same g
  by_why Mark g = same g

line_colon : (xs z : List ℕ) → line_at xs ≡ xs → line_at (xs ++ (58 ∷ z)) ≡ xs ++ (58 ∷ line_at z)
line_colon [] z h = refl
line_colon (b ∷ xs) z h = by_break (begins_break b xs) refl h (λ g. line_colon xs z g) where
  goes : (xs : List ℕ) → begins_break b xs ≡ false → begins_break b (xs ++ (58 ∷ z)) ≡ false
  goes [] g = g
  goes (c ∷ xs) g = g

  by_break : (q : Bool) → begins_break b xs ≡ q → cond q [] (b ∷ line_at xs) ≡ b ∷ xs → (line_at xs ≡ xs → line_at (xs ++ (58 ∷ z)) ≡ xs ++ (58 ∷ line_at z)) → cond (begins_break b (xs ++ (58 ∷ z))) [] (b ∷ line_at (xs ++ (58 ∷ z))) ≡ b ∷ (xs ++ (58 ∷ line_at z))
  by_break true g e r = absurd (cc)
  by_break false g e r =
      let below : line_at xs ≡ xs = cc in
      ap (λ q. cond q [] (b ∷ line_at (xs ++ (58 ∷ z)))) (goes xs g) ∙ ap (λ t. b ∷ t) (r below)

pub plain_keyed : (s : Setting) (text z : List ℕ) (at : ℕ) (t : List ℕ) (e : ℕ) → s.one_line ≡ true → at ≤ length text → is_blank (drop e text) ≡ true → is_unsafe s.flow (line_at z) ≡ true → plain_scalar s text at ≡ Stands t e → plain_scalar s (text ++ (58 ∷ z)) at ≡ Stands t e
plain_keyed s text z at t e one low white loose h =
    let xs = drop at text in
    let fresh = is_first_column text at in
    let l : Line = record { at = at; bytes = line_at xs; broken = has_break xs } in
    let o = opens_stands s fresh l (behind at xs) t e (sym (ap (plain_on s fresh) (lines_are at xs)) ∙ h) in
    let c = first_content s (reason s.flow (line_at xs)) at (line_at xs) (behind at xs) t e one o.2 in
    let m = plain_len s.flow false (line_at xs) in
    let n = length (content s.flow (line_at xs)) in
    let le : n ≤ m = let a = trimmed_le (take m (line_at xs)) in omega (arith, a, length-take m (line_at xs)) in
    let mle = plain_le s.flow false (line_at xs) in
    let rest : is_blank (drop n xs) ≡ true = ap is_blank (drop-drop n at text ∙ ap (λ k. drop k text) c.1) ∙ white in
    let whole : line_at xs ≡ xs = one_line n xs (omega (arith, le, mle)) rest in
    let full : plain_len s.flow false xs ≡ length xs = fills s.flow false n xs (omega (arith, le, ap (λ y. plain_len s.flow false y) whole)) rest in
    let y : List ℕ = xs ++ (58 ∷ line_at z) in
    let len : plain_len s.flow false y ≡ length xs = keyed_len s.flow false xs (line_at z) loose full in
    let ends : reason s.flow y ≡ Colon = ap (λ k. why (drop k y)) len ∙ ap why (drop_whole xs (58 ∷ line_at z)) in
    let same : content s.flow y ≡ content s.flow xs =
    ap (λ k. trimmed (take k y)) len ∙ ap trimmed (take_front xs (58 ∷ line_at z)) ∙ sym (ap trimmed (ap (λ k. take k xs) full ∙ take_all (length xs) xs (omega arith))) in
    let t_is : content s.flow y ≡ t = same ∙ ap (content s.flow) (sym whole) ∙ c.0 in
    let e_is : content_end s.flow y at ≡ e = ap (λ (w : List ℕ). at + length w) (same ∙ ap (content s.flow) (sym whole)) ∙ c.1 in
    let there : line_at (drop at (text ++ (58 ∷ z))) ≡ y = ap line_at (drop_before at text (58 ∷ z) low) ∙ line_colon xs z whole in
    let d = drop at (text ++ (58 ∷ z)) in
    let k : Line = record { at = at; bytes = y; broken = has_break d } in
    ap (λ q. plain_on s q (lines at d)) (column_longer text (58 ∷ z) at low) ∙ ap (plain_on s fresh) (lines_are at d) ∙ ap (λ (w : List ℕ). plain_on s fresh (record { at = at; bytes = w; broken = has_break d } ∷ behind at d)) there
    ∙ made s fresh k (behind at d) t e (keyed_marked fresh xs (line_at z) (subst (λ w. (fresh && marked w) ≡ false) whole o.0)) (keyed_begins s.flow xs (line_at z) (subst (λ w. begins_plain s.flow w ≡ true) whole o.1))
    (ap (λ w. first s w at y (behind at d)) ends ∙ ap (λ w. Stands w (content_end s.flow y at)) t_is ∙ ap (Stands t) e_is)
