-- Where no block scalar stands, no text that agrees so far has one, and the place is in the text or its end.
use Rattle.std.proofs.Common.{◌≡◌, ℕ, suc, ◌+◌, ◌-◌, ◌<◌, ◌≤◌, Bool, true, false, List, [], ◌∷◌, ◌++◌, length, drop, refl, sym, ap, inl, inr, ◌∙◌, arith, cond, subst, Option, Some, None, length-drop}
use Rattle.std.specs.Prelude.{ℤ, nat_eq, nat_lt, nat_le, not, ◌||◌, ◌&&◌}
use Rattle.std.proofs.lemmas.Bool.Decides.{nat_tests}
use Rattle.std.proofs.lemmas.List.{length-append}
use Rattle.yaml_scalars.specs.declared.scalar.Setting.{Setting}
use Rattle.yaml_scalars.specs.Lines.{Line, Stands, Fails, begins_with, is_white, is_blank, is_mark, lead, indent}
use Rattle.yaml_scalars.specs.Plain.{above_of}
use Rattle.yaml_scalars.specs.Block.{Chomp, Header, Last, Inner, Nothing, Wide, Indented, header, header_fault, return_behind, is_content, taken_off, ending, content_more, blank_more, count_break, mark_len, may_end, shown, widest, inner_of, base_of, by_inner, by_digit, block_on}
use Rattle.yaml_scalars.specs.code.Walk.{line_at, has_break, behind}
use Rattle.yaml_scalars.specs.Scalar.{block_scalar}
use Rattle.yaml_scalars.proofs.Places.{lines_are}
use Rattle.yaml_laws.proofs.Agree.{SameAhead, Later, SplitAt, Shares, Within, behind_later, texts_share, lines_within}
use Rattle.yaml_scalars.proofs.BlockLines.{moved, shown_le}
use Rattle.yaml_scalars.proofs.BlockStates.{more_out, more_return, more_line}
use Rattle.yaml_scalars.proofs.BlockScalars.{on_fault, on_none, on_lines, fault_of}
use Rattle.yaml_laws.proofs.BlockHeads.{cases, return_ranges, return_dead, head, head_faults, head_is}
use Rattle.yaml_laws.proofs.BlockShown.{Alike, shown_alike, returned_alike}

pub option_cases : {A : Type 0} (o : Option ℕ) → (o ≡ None → A) → ((n : ℕ) → o ≡ Some n → A) → A
option_cases None f g = f refl
option_cases (Some n) f g = g n refl

pub fails_not : (n : ℕ) (t : List ℕ) (f : ℕ) → Fails n ≡ Stands t f → ⊥
fails_not n t f e = absurd (cc)

pub stands_not : (t : List ℕ) (f n : ℕ) → Stands t f ≡ Fails n → ⊥
stands_not t f n e = absurd (cc)

pub fails_at : (m n : ℕ) → Fails m ≡ Fails n → m ≡ n
fails_at m n e = cc

-- the content of one more line: the scalar ends before it, it fails, or the lines go on
pub content_cases : {A : Type 0} (folded : Bool) (chomp : Chomp) (inner : ℕ) (l : Line) (text : List ℕ) (last : Option Last) (e : ℕ)
    → (is_content inner l.bytes ≡ false → A)
    → ((n : ℕ) → is_content inner l.bytes ≡ true → return_behind 0 l.bytes ≡ Some n → A)
    → ((text1 : List ℕ) (last1 : Option Last) (e1 : ℕ) → is_content inner l.bytes ≡ true → return_behind 0 l.bytes ≡ None → ((size : ℕ) (ls : List Line) → content_more folded chomp inner size (l ∷ ls) text last e ≡ content_more folded chomp inner size ls text1 last1 e1) → A)
    → A
content_cases folded chomp inner l text last e out fails goes = cases (is_content inner l.bytes) (λ h. option_cases (return_behind 0 l.bytes) (λ r. goes _ _ _ h r (λ size ls. more_line folded chomp inner size l ls text last e (taken_off inner l.bytes) h r refl)) (λ n r. fails n h r)) out

content_later : (folded : Bool) (chomp : Chomp) (inner size p q : ℕ) (ls : List Line) (text : List ℕ) (last : Option Last) (e : ℕ) → Later p ls → content_more folded chomp inner size ls text last e ≡ Fails q → p < q
content_later folded chomp inner size p q [] text last e w h = absurd (stands_not _ _ q h)
content_later folded chomp inner size p q (l ∷ ls) text last e w h =
    content_cases folded chomp inner l text last e
    (λ c. absurd (stands_not _ _ q (sym (more_out folded chomp inner size l ls text last e c) ∙ h)))
    (λ n c r. (let i = fails_at (l.at + n) q (sym (more_return folded chomp inner size l ls text last e n c r) ∙ h) in let k = w.0 in omega (arith, i, k)))
    (λ x y z c r g. content_later folded chomp inner size p q ls x y z w.1 (sym (g size ls) ∙ h))

content_to : (folded : Bool) (chomp : Chomp) (inner size most q : ℕ) (ls : List Line) (text : List ℕ) (last : Option Last) (e : ℕ) → Within most ls → content_more folded chomp inner size ls text last e ≡ Fails q → q ≤ most
content_to folded chomp inner size most q [] text last e w h = absurd (stands_not _ _ q h)
content_to folded chomp inner size most q (l ∷ ls) text last e w h =
    content_cases folded chomp inner l text last e
    (λ c. absurd (stands_not _ _ q (sym (more_out folded chomp inner size l ls text last e c) ∙ h)))
    (λ n c r. (let i = fails_at (l.at + n) q (sym (more_return folded chomp inner size l ls text last e n c r) ∙ h) in let k = w.0 in let j = (return_ranges 0 n l.bytes r).1 in omega (arith, i, k, j)))
    (λ x y z c r g. content_to folded chomp inner size most q ls x y z w.1 (sym (g size ls) ∙ h))

pub blank_stands : (chomp : Chomp) (size q : ℕ) (ls : List Line) (e : ℕ) → blank_more chomp size ls e ≡ Fails q → ⊥
blank_stands chomp size q [] e h = absurd (cc)
blank_stands chomp size q (l ∷ ls) e h = by_blank (is_blank l.bytes) h (λ g. blank_stands chomp size q ls (count_break l.broken e) g) where
  by_blank : (b : Bool) → cond b (blank_more chomp size ls (count_break l.broken e)) (Stands (ending chomp None e) l.at) ≡ Fails q → (blank_more chomp size ls (count_break l.broken e) ≡ Fails q → ⊥) → ⊥
  by_blank true h r = r h
  by_blank false h r = absurd (cc)

-- the indentation that the first line that is not blank gives
abbrev pub first : ℕ → ℕ → Line → Inner
first above w l = cond (is_mark l.bytes || nat_lt (indent l.bytes) above) Nothing (cond (nat_lt (indent l.bytes) w) (Wide (l.at + shown l.bytes)) (Indented (indent l.bytes)))

pub over_blank : (above w : ℕ) (l : Line) (ls : List Line) → is_blank l.bytes ≡ true → inner_of above w (l ∷ ls) ≡ inner_of above (widest w (indent l.bytes)) ls
over_blank above w l ls h = ap (λ q. cond q (inner_of above (widest w (indent l.bytes)) ls) (first above w l)) h

pub over_first : (above w : ℕ) (l : Line) (ls : List Line) → is_blank l.bytes ≡ false → inner_of above w (l ∷ ls) ≡ first above w l
over_first above w l ls h = ap (λ q. cond q (inner_of above (widest w (indent l.bytes)) ls) (first above w l)) h

pub first_wide : (above w q : ℕ) (l : Line) → first above w l ≡ Wide q → (is_mark l.bytes ≡ false) × (nat_lt (indent l.bytes) above ≡ false) × (nat_lt (indent l.bytes) w ≡ true) × (l.at + shown l.bytes ≡ q)
first_wide above w q l h = by_tests (is_mark l.bytes) (nat_lt (indent l.bytes) above) (nat_lt (indent l.bytes) w) h where
  by_tests : (m b v : Bool) → cond (m || b) Nothing (cond v (Wide (l.at + shown l.bytes)) (Indented (indent l.bytes))) ≡ Wide q → (m ≡ false) × (b ≡ false) × (v ≡ true) × (l.at + shown l.bytes ≡ q)
  by_tests true b v h = absurd (cc)
  by_tests false true v h = absurd (cc)
  by_tests false false true h = (refl, refl, refl, cc)
  by_tests false false false h = absurd (cc)

pub inner_later : (above w p q : ℕ) (ls : List Line) → Later p ls → inner_of above w ls ≡ Wide q → p < q
inner_later above w p q [] k h = absurd (cc)
inner_later above w p q (l ∷ ls) k h = cases (is_blank l.bytes) (λ b. inner_later above (widest w (indent l.bytes)) p q ls k.1 (sym (over_blank above w l ls b) ∙ h)) (λ b. (let f = (first_wide above w q l (sym (over_first above w l ls b) ∙ h)).3 in let i = k.0 in omega (arith, f, i)))

pub shown_fits : (xs : List ℕ) → shown xs ≤ length xs
shown_fits xs = by_byte (drop n xs) refl where
  n : ℕ
  n = lead is_white xs + mark_len xs

  by_byte : (t : List ℕ) → drop n xs ≡ t → cond (begins_with 13 (drop n xs) && may_end (mark_len xs)) (suc n) n ≤ length xs
  by_byte [] e = let f = shown_le xs in let z : cond (begins_with 13 (drop n xs) && may_end (mark_len xs)) (suc n) n ≡ n = ap (λ t. cond (begins_with 13 t && may_end (mark_len xs)) (suc n) n) e in omega (arith, f, z)
  by_byte (b ∷ t) e =
      let f : suc (length t) ≡ length xs - n = sym (ap (λ (t : List ℕ). length t) e) ∙ length-drop n xs in
      by_test (begins_with 13 (drop n xs) && may_end (mark_len xs)) f where
        by_test : (q : Bool) → suc (length t) ≡ length xs - n → cond q (suc n) n ≤ length xs
        by_test true f = omega (arith, f)
        by_test false f = omega (arith, f)

inner_to : (above w most q : ℕ) (ls : List Line) → Within most ls → inner_of above w ls ≡ Wide q → q ≤ most
inner_to above w most q [] k h = absurd (cc)
inner_to above w most q (l ∷ ls) k h = cases (is_blank l.bytes) (λ b. inner_to above (widest w (indent l.bytes)) most q ls k.1 (sym (over_blank above w l ls b) ∙ h)) (λ b. (let f = (first_wide above w q l (sym (over_first above w l ls b) ∙ h)).3 in let i = k.0 in let s = shown_fits l.bytes in omega (arith, f, i, s)))

-- by the header's digit
abbrev IsFaultOf : ℕ → List Line → Type 0
IsFaultOf q ls = ((p : ℕ) → Later p ls → p < q) × ((most : ℕ) → Within most ls → q ≤ most)

pub digit_fault : (folded : Bool) (parent : ℤ) (chomp : Chomp) (size q : ℕ) (digit : Option ℕ) (ls : List Line) → by_digit folded parent chomp size digit ls ≡ Fails q → IsFaultOf q ls
digit_fault folded parent chomp size q (Some d) ls h = (λ p w. content_later folded chomp (base_of parent + d) size p q ls [] None 0 w h, λ most w. content_to folded chomp (base_of parent + d) size most q ls [] None 0 w h)
digit_fault folded parent chomp size q None ls h = by_in (inner_of (above_of parent) 0 ls) refl h where
  by_in : (o : Inner) → inner_of (above_of parent) 0 ls ≡ o → by_inner folded chomp size o ls ≡ Fails q → IsFaultOf q ls
  by_in Nothing e h = absurd (blank_stands chomp size q ls 0 h)
  by_in (Wide at) e h = let i = fails_at at q h in let g : inner_of (above_of parent) 0 ls ≡ Wide q = e ∙ ap Wide i in (λ p w. inner_later (above_of parent) 0 p q ls w g, λ most w. inner_to (above_of parent) 0 most q ls w g)
  by_in (Indented i) e h = (λ p w. content_later folded chomp i size p q ls [] None 0 w h, λ most w. content_to folded chomp i size most q ls [] None 0 w h)

-- a line that fails at the place at which another one splits from it
line_returned : (p n : ℕ) (l m : Line) → SplitAt p l.at l.bytes m.bytes → return_behind 0 l.bytes ≡ Some n → l.at + n ≡ p → Alike l.bytes m.bytes × ((j : ℕ) × (return_behind 0 m.bytes ≡ Some j))
line_returned p n l m sp r i =
    let front = sp.0 in
    let x = sp.1 in
    let y = sp.2 in
    let k = sp.5 in
    let size : n ≡ 0 + length front = omega (arith, i, k) in
    let e : return_behind 0 (front ++ x) ≡ Some (0 + length front) = sym (ap (return_behind 0) sp.3) ∙ r ∙ ap (λ (j : ℕ). Some j) size in
    let a = returned_alike front x y e in
    let d = return_dead 0 front x y e in
    (subst (λ t. Alike t m.bytes) (sym sp.3) (subst (λ t. Alike (front ++ x) t) (sym sp.4) a), (d.0, ap (return_behind 0) sp.4 ∙ d.1))

pub alike_content : (inner : ℕ) (xs ys : List ℕ) → Alike xs ys → is_content inner ys ≡ is_content inner xs
alike_content inner xs ys a = ap (λ q. not q && (is_blank ys || nat_le inner (indent ys))) a.mark ∙ ap (λ q. not (is_mark xs) && (q || nat_le inner (indent ys))) (a.other_full ∙ sym a.full) ∙ ap (λ k. not (is_mark xs) && (is_blank xs || nat_le inner k)) a.indented

content_dead : (folded : Bool) (chomp : Chomp) (inner size size2 p : ℕ) (ls ms : List Line) (text : List ℕ) (last : Option Last) (e : ℕ) (t : List ℕ) (f : ℕ) → Shares p ls ms → content_more folded chomp inner size ls text last e ≡ Fails p → content_more folded chomp inner size2 ms text last e ≡ Stands t f → ⊥
content_dead folded chomp inner size size2 p [] ms text last e t f sh h g = sh
content_dead folded chomp inner size size2 p (l ∷ ls) [] text last e t f sh h g = sh
content_dead folded chomp inner size size2 p (l ∷ ls) (m ∷ ms) text last e t f (inl q) h g =
    let g2 = subst (λ (k : Line). content_more folded chomp inner size2 (k ∷ ms) text last e ≡ Stands t f) (sym q.0) g in
    content_cases folded chomp inner l text last e
    (λ c. stands_not _ _ p (sym (more_out folded chomp inner size l ls text last e c) ∙ h))
    (λ n c r. fails_not _ t f (sym (more_return folded chomp inner size2 l ms text last e n c r) ∙ g2))
    (λ x y z c r s. content_dead folded chomp inner size size2 p ls ms x y z t f q.1 (sym (s size ls) ∙ h) (sym (s size2 ms) ∙ g2))
content_dead folded chomp inner size size2 p (l ∷ ls) (m ∷ ms) text last e t f (inr (inl q)) h g =
    content_cases folded chomp inner l text last e
    (λ c. stands_not _ _ p (sym (more_out folded chomp inner size l ls text last e c) ∙ h))
    (λ n c r. (let i = fails_at (l.at + n) p (sym (more_return folded chomp inner size l ls text last e n c r) ∙ h) in let a = line_returned p n l m q.1 r i in fails_not _ t f (sym (more_return folded chomp inner size2 m ms text last e a.1.0 (alike_content inner l.bytes m.bytes a.0 ∙ c) a.1.1) ∙ g)))
    (λ x y z c r s. (let k = content_later folded chomp inner size p p ls x y z q.2 (sym (s size ls) ∙ h) in absurd (omega (arith, k))))
content_dead folded chomp inner size size2 p (l ∷ ls) (m ∷ ms) text last e t f (inr (inr q)) h g =
    content_cases folded chomp inner l text last e
    (λ c. stands_not _ _ p (sym (more_out folded chomp inner size l ls text last e c) ∙ h))
    (λ n c r. (let i = fails_at (l.at + n) p (sym (more_return folded chomp inner size l ls text last e n c r) ∙ h) in let j = (return_ranges 0 n l.bytes r).1 in let k = q.1 in absurd (omega (arith, i, j, k))))
    (λ x y z c r s. (let k = content_later folded chomp inner size p p ls x y z q.2 (sym (s size ls) ∙ h) in absurd (omega (arith, k))))

-- the indentation is the same
pub blank_return : (k : ℕ) (xs : List ℕ) → is_blank xs ≡ true → return_behind k xs ≡ None
blank_return k [] h = refl
blank_return k (x ∷ xs) h = cases (is_white x) (λ w. white w (λ g. blank_return (suc k) xs g)) (λ w. absurd (let z : false ≡ true = sym (ap (λ q. cond q (is_blank xs) false) w) ∙ h in cc)) where
  white : is_white x ≡ true → (is_blank xs ≡ true → return_behind (suc k) xs ≡ None) → return_behind k (x ∷ xs) ≡ None
  white w r =
      let n : nat_eq x 13 ≡ false = grind (arith, nat_tests, w) in
      ap (λ q. cond q (Some (suc k)) (return_behind (suc k) xs)) n ∙ r (sym (ap (λ q. cond q (is_blank xs) false) w) ∙ h)

pub first_in : (above w i : ℕ) (l : Line) → first above w l ≡ Indented i → (is_mark l.bytes ≡ false) × (nat_lt (indent l.bytes) above ≡ false) × (nat_lt (indent l.bytes) w ≡ false) × (indent l.bytes ≡ i)
first_in above w i l h = by_tests (is_mark l.bytes) (nat_lt (indent l.bytes) above) (nat_lt (indent l.bytes) w) h where
  by_tests : (m b v : Bool) → cond (m || b) Nothing (cond v (Wide (l.at + shown l.bytes)) (Indented (indent l.bytes))) ≡ Indented i → (m ≡ false) × (b ≡ false) × (v ≡ false) × (indent l.bytes ≡ i)
  by_tests true b v h = absurd (cc)
  by_tests false true v h = absurd (cc)
  by_tests false false true h = absurd (cc)
  by_tests false false false h = (refl, refl, refl, cc)

pub first_alike : (above w : ℕ) (l m : Line) → Alike l.bytes m.bytes → is_mark l.bytes ≡ false → nat_lt (indent l.bytes) above ≡ false → first above w m ≡ cond (nat_lt (indent l.bytes) w) (Wide (m.at + shown m.bytes)) (Indented (indent l.bytes))
first_alike above w l m a k b =
    ap (λ q. cond (q || nat_lt (indent m.bytes) above) Nothing (cond (nat_lt (indent m.bytes) w) (Wide (m.at + shown m.bytes)) (Indented (indent m.bytes)))) (a.mark ∙ k)
    ∙ ap (λ (n : ℕ). cond (nat_lt n above) Nothing (cond (nat_lt n w) (Wide (m.at + shown m.bytes)) (Indented n))) a.indented
    ∙ ap (λ q. cond q Nothing (cond (nat_lt (indent l.bytes) w) (Wide (m.at + shown m.bytes)) (Indented (indent l.bytes)))) b

content_inner : (folded : Bool) (chomp : Chomp) (above w i size p : ℕ) (ls ms : List Line) (text : List ℕ) (last : Option Last) (e : ℕ) → Shares p ls ms → inner_of above w ls ≡ Indented i → content_more folded chomp i size ls text last e ≡ Fails p → inner_of above w ms ≡ Indented i
content_inner folded chomp above w i size p [] ms text last e sh k h = absurd (sh)
content_inner folded chomp above w i size p (l ∷ ls) [] text last e sh k h = absurd (sh)
content_inner folded chomp above w i size p (l ∷ ls) (m ∷ ms) text last e (inl q) k h = subst (λ (x : Line). inner_of above w (x ∷ ms) ≡ Indented i) q.0 (cases (is_blank l.bytes) (λ b. blank b (λ v x y z a c. content_inner folded chomp above v i size p ls ms x y z q.1 a c)) (λ b. over_first above w l ms b ∙ sym (over_first above w l ls b) ∙ k)) where
  blank : is_blank l.bytes ≡ true → ((v : ℕ) (x : List ℕ) (y : Option Last) (z : ℕ) → inner_of above v ls ≡ Indented i → content_more folded chomp i size ls x y z ≡ Fails p → inner_of above v ms ≡ Indented i) → inner_of above w (l ∷ ms) ≡ Indented i
  blank b go =
      over_blank above w l ms b
      ∙ content_cases folded chomp i l text last e
      (λ c. absurd (stands_not _ _ p (sym (more_out folded chomp i size l ls text last e c) ∙ h)))
      (λ n c r. absurd (let z : Some n ≡ None = sym r ∙ blank_return 0 l.bytes b in cc))
      (λ x y z c r s. go (widest w (indent l.bytes)) x y z (sym (over_blank above w l ls b) ∙ k) (sym (s size ls) ∙ h))
content_inner folded chomp above w i size p (l ∷ ls) (m ∷ ms) text last e (inr (inl q)) k h =
    content_cases folded chomp i l text last e
    (λ c. absurd (stands_not _ _ p (sym (more_out folded chomp i size l ls text last e c) ∙ h)))
    (λ n c r. (let j = fails_at (l.at + n) p (sym (more_return folded chomp i size l ls text last e n c r) ∙ h) in
    let a = (line_returned p n l m q.1 r j).0 in
    let f = first_in above w i l (sym (over_first above w l ls a.full) ∙ k) in
    over_first above w m ms a.other_full ∙ first_alike above w l m a f.0 f.1 ∙ ap (λ q. cond q (Wide (m.at + shown m.bytes)) (Indented (indent l.bytes))) f.2 ∙ ap Indented f.3))
    (λ x y z c r s. (let v = content_later folded chomp i size p p ls x y z q.2 (sym (s size ls) ∙ h) in absurd (omega (arith, v))))
content_inner folded chomp above w i size p (l ∷ ls) (m ∷ ms) text last e (inr (inr q)) k h =
    content_cases folded chomp i l text last e
    (λ c. absurd (stands_not _ _ p (sym (more_out folded chomp i size l ls text last e c) ∙ h)))
    (λ n c r. (let j = fails_at (l.at + n) p (sym (more_return folded chomp i size l ls text last e n c r) ∙ h) in let v = (return_ranges 0 n l.bytes r).1 in let z = q.1 in absurd (omega (arith, j, v, z))))
    (λ x y z c r s. (let v = content_later folded chomp i size p p ls x y z q.2 (sym (s size ls) ∙ h) in absurd (omega (arith, v))))

-- blank lines that are too wide
inner_dead : (above w p : ℕ) (ls ms : List Line) → Shares p ls ms → inner_of above w ls ≡ Wide p → (r : ℕ) × (inner_of above w ms ≡ Wide r)
inner_dead above w p [] ms sh h = absurd (sh)
inner_dead above w p (l ∷ ls) [] sh h = absurd (sh)
inner_dead above w p (l ∷ ls) (m ∷ ms) (inl q) h =
    subst (λ (x : Line). (r : ℕ) × (inner_of above w (x ∷ ms) ≡ Wide r)) q.0
    (cases (is_blank l.bytes) (λ b. (let d = inner_dead above (widest w (indent l.bytes)) p ls ms q.1 (sym (over_blank above w l ls b) ∙ h) in (d.0, over_blank above w l ms b ∙ d.1))) (λ b. (p, over_first above w l ms b ∙ sym (over_first above w l ls b) ∙ h)))
inner_dead above w p (l ∷ ls) (m ∷ ms) (inr (inl q)) h = cases (is_blank l.bytes) (λ b. (let k = inner_later above (widest w (indent l.bytes)) p p ls q.2 (sym (over_blank above w l ls b) ∙ h) in absurd (omega (arith, k)))) full where
  full : is_blank l.bytes ≡ false → (r : ℕ) × (inner_of above w (m ∷ ms) ≡ Wide r)
  full b =
      let f = first_wide above w p l (sym (over_first above w l ls b) ∙ h) in
      let sp = q.1 in
      let k = sp.5 in
      let i = f.3 in
      let n : shown l.bytes ≡ length sp.0 = omega (arith, k, i) in
      let a = shown_alike sp.0 sp.1 sp.2 sp.6 (sym (ap is_blank sp.3) ∙ b) (sym (ap is_mark sp.3) ∙ f.0) (sym (ap shown sp.3) ∙ n) in
      let a2 = subst (λ t. Alike t m.bytes) (sym sp.3) (subst (λ t. Alike (sp.0 ++ sp.1) t) (sym sp.4) a) in
      (m.at + shown m.bytes, over_first above w m ms a2.other_full ∙ first_alike above w l m a2 f.0 f.1 ∙ ap (λ q. cond q (Wide (m.at + shown m.bytes)) (Indented (indent l.bytes))) f.2)
inner_dead above w p (l ∷ ls) (m ∷ ms) (inr (inr q)) h =
    cases (is_blank l.bytes) (λ b. (let k = inner_later above (widest w (indent l.bytes)) p p ls q.2 (sym (over_blank above w l ls b) ∙ h) in absurd (omega (arith, k)))) (λ b. (let f = (first_wide above w p l (sym (over_first above w l ls b) ∙ h)).3 in let s = shown_fits l.bytes in let k = q.1 in absurd (omega (arith, f, s, k))))

digit_dead : (folded : Bool) (parent : ℤ) (chomp : Chomp) (size size2 p : ℕ) (digit : Option ℕ) (ls ms : List Line) (t : List ℕ) (f : ℕ) → Shares p ls ms → by_digit folded parent chomp size digit ls ≡ Fails p → by_digit folded parent chomp size2 digit ms ≡ Stands t f → ⊥
digit_dead folded parent chomp size size2 p (Some d) ls ms t f sh h g = content_dead folded chomp (base_of parent + d) size size2 p ls ms [] None 0 t f sh h g
digit_dead folded parent chomp size size2 p None ls ms t f sh h g = by_in (inner_of (above_of parent) 0 ls) refl h where
  by_in : (o : Inner) → inner_of (above_of parent) 0 ls ≡ o → by_inner folded chomp size o ls ≡ Fails p → ⊥
  by_in Nothing e h = blank_stands chomp size p ls 0 h
  by_in (Wide at) e h =
      let d = inner_dead (above_of parent) 0 p ls ms sh (e ∙ ap Wide (fails_at at p h)) in
      fails_not _ t f (sym (ap (λ o. by_inner folded chomp size2 o ms) d.1) ∙ g)
  by_in (Indented i) e h =
      let k = content_inner folded chomp (above_of parent) 0 i size p ls ms [] None 0 sh e h in
      content_dead folded chomp i size size2 p ls ms [] None 0 t f sh h (sym (ap (λ o. by_inner folded chomp size2 o ms) k) ∙ g)

-- a header, found from the byte behind the indicator on
abbrev pub head_of : List ℕ → Header
head_of xs = header (drop 1 xs)

pub head_fault : (at n : ℕ) (xs : List ℕ) → header_fault false 0 (head_of xs).rest ≡ Some n → (head (suc at) (drop 1 xs) ≡ Some (at + (length xs - length (head_of xs).rest) + n)) × (0 < length xs)
head_fault at n [] e = absurd (cc)
head_fault at n (c ∷ xs) e =
    let i = head_is (suc at) xs in
    let w = i.1 in
    let k = suc at + (length xs - length (header xs).rest) in
    let s : k + n ≡ at + (suc (length xs) - length (header xs).rest) + n = omega (arith, w) in
    (i.0 ∙ fault_of k (header xs).rest ∙ ap (moved k) e ∙ ap (λ (j : ℕ). Some j) s, omega arith)

head_back : (at j : ℕ) (xs : List ℕ) → head (suc at) (drop 1 xs) ≡ Some j → (i : ℕ) × (header_fault false 0 (head_of xs).rest ≡ Some i)
head_back at j xs e =
    let k = suc at + (length (drop 1 xs) - length (head_of xs).rest) in
    option_cases (header_fault false 0 (head_of xs).rest) (λ h. absurd (let z : Some j ≡ None = sym e ∙ (head_is (suc at) (drop 1 xs)).0 ∙ fault_of k (head_of xs).rest ∙ ap (moved k) h in cc)) (λ i h. (i, h))

head_dead : (p n at : ℕ) (xs ys : List ℕ) → SplitAt p at xs ys → header_fault false 0 (head_of xs).rest ≡ Some n → at + (length xs - length (head_of xs).rest) + n ≡ p → (i : ℕ) × (header_fault false 0 (head_of ys).rest ≡ Some i)
head_dead p n at xs ys sp e k =
    let h = head_fault at n xs e in
    let found : head (suc at) (drop 1 (sp.0 ++ sp.1)) ≡ Some p = sym (ap (λ (t : List ℕ). head (suc at) (drop 1 t)) sp.3) ∙ h.0 ∙ ap (λ (j : ℕ). Some j) k in
    by_front sp.0 sp.1 sp.2 found sp.4 sp.5 sp.6 where
      by_front : (front x y : List ℕ) → head (suc at) (drop 1 (front ++ x)) ≡ Some p → ys ≡ front ++ y → at + length front ≡ p → SameAhead x y → (i : ℕ) × (header_fault false 0 (head_of ys).rest ≡ Some i)
      by_front [] x y e z l s = let r = head_faults.ranges (suc at) p (drop 1 x) e in absurd (omega (arith, r.0, l))
      by_front (c ∷ f) x y e z l s =
          let q : p ≡ suc at + length f = omega (arith, l) in
          let d = head_faults.dead (suc at) f x y s (e ∙ ap (λ (j : ℕ). Some j) q) in
          head_back at d.0 ys (ap (λ (t : List ℕ). head (suc at) (drop 1 t)) z ∙ d.1)

-- a header's fault, no break, or the lines below
pub block_cases : {A : Type 0} (l : Line) → ((n : ℕ) → header_fault false 0 (head_of l.bytes).rest ≡ Some n → A) → (header_fault false 0 (head_of l.bytes).rest ≡ None → l.broken ≡ false → A) → (header_fault false 0 (head_of l.bytes).rest ≡ None → l.broken ≡ true → A) → A
block_cases l fails short goes = option_cases (header_fault false 0 (head_of l.bytes).rest) (λ e. cases l.broken (goes e) (short e)) fails

lines_dead : (parent : ℤ) (size size2 p : ℕ) (ls ms : List Line) (t : List ℕ) (f : ℕ) → p < size → Shares p ls ms → block_on parent size ls ≡ Fails p → block_on parent size2 ms ≡ Stands t f → ⊥
lines_dead parent size size2 p [] ms t f w sh h g = sh
lines_dead parent size size2 p (l ∷ ls) [] t f w sh h g = sh
lines_dead parent size size2 p (l ∷ ls) (m ∷ ms) t f w (inl q) h g =
    let g2 = subst (λ (x : Line). block_on parent size2 (x ∷ ms) ≡ Stands t f) (sym q.0) g in
    block_cases l (λ n e. fails_not _ t f (sym (on_fault parent size2 l ms (head_of l.bytes) n refl e) ∙ g2)) (λ e b. fails_not _ t f (sym (on_none parent size2 l ms (head_of l.bytes) refl e b) ∙ g2))
    (λ e b. digit_dead (begins_with 62 l.bytes) parent (head_of l.bytes).chomp size size2 p (head_of l.bytes).digit ls ms t f q.1 (sym (on_lines parent size l ls (head_of l.bytes) refl e b) ∙ h) (sym (on_lines parent size2 l ms (head_of l.bytes) refl e b) ∙ g2))
lines_dead parent size size2 p (l ∷ ls) (m ∷ ms) t f w (inr (inl q)) h g =
    block_cases l
    (λ n e. (let i = head_dead p n l.at l.bytes m.bytes q.1 e (fails_at _ p (sym (on_fault parent size l ls (head_of l.bytes) n refl e) ∙ h)) in fails_not _ t f (sym (on_fault parent size2 m ms (head_of m.bytes) i.0 refl i.1) ∙ g)))
    (λ e b. (let k = fails_at size p (sym (on_none parent size l ls (head_of l.bytes) refl e b) ∙ h) in absurd (omega (arith, k, w))))
    (λ e b. (let k = (digit_fault (begins_with 62 l.bytes) parent (head_of l.bytes).chomp size p (head_of l.bytes).digit ls (sym (on_lines parent size l ls (head_of l.bytes) refl e b) ∙ h)).0 p q.2 in absurd (omega (arith, k))))
lines_dead parent size size2 p (l ∷ ls) (m ∷ ms) t f w (inr (inr q)) h g =
    let g2 = subst (λ (x : Line). block_on parent size2 (x ∷ ms) ≡ Stands t f) (sym q.0) g in
    block_cases l (λ n e. fails_not _ t f (sym (on_fault parent size2 l ms (head_of l.bytes) n refl e) ∙ g2)) (λ e b. (let k = fails_at size p (sym (on_none parent size l ls (head_of l.bytes) refl e b) ∙ h) in absurd (omega (arith, k, w))))
    (λ e b. (let k = (digit_fault (begins_with 62 l.bytes) parent (head_of l.bytes).chomp size p (head_of l.bytes).digit ls (sym (on_lines parent size l ls (head_of l.bytes) refl e b) ∙ h)).0 p q.2 in absurd (omega (arith, k))))

-- the place lies between the scalar's and the text's end
lines_range : (parent : ℤ) (size p : ℕ) (l : Line) (ls : List Line) → l.at ≤ size → Later l.at ls → Within size (l ∷ ls) → block_on parent size (l ∷ ls) ≡ Fails p → (l.at ≤ p) × (p ≤ size)
lines_range parent size p l ls s r w h =
    block_cases l
    (λ n e. (let k = fails_at _ p (sym (on_fault parent size l ls (head_of l.bytes) n refl e) ∙ h) in let f = head_fault l.at n l.bytes e in let v = head_faults.ranges (suc l.at) _ (drop 1 l.bytes) f.0 in let z = f.1 in let i = w.0 in let d = length-drop 1 l.bytes in (omega (arith, k, v.0), omega (arith, k, v.1, z, i, d))))
    (λ e b. (let k = fails_at size p (sym (on_none parent size l ls (head_of l.bytes) refl e b) ∙ h) in (omega (arith, k, s), omega (arith, k))))
    (λ e b. (let k = digit_fault (begins_with 62 l.bytes) parent (head_of l.bytes).chomp size p (head_of l.bytes).digit ls (sym (on_lines parent size l ls (head_of l.bytes) refl e b) ∙ h) in let v = k.0 l.at r in (omega (arith, v), k.1 size w.1)))

range : (s : Setting) (text : List ℕ) (at p : ℕ) → at ≤ length text → block_scalar s text at ≡ Fails p → (at ≤ p) × (p ≤ length text)
range s text at p l h =
    let w = subst (λ ls. Within (length text) ls) (lines_are at (drop at text)) (lines_within (length text) at (drop at text) (omega (arith, l, length-drop at text))) in
    lines_range s.parent (length text) p (record { at = at; bytes = line_at (drop at text); broken = has_break (drop at text) }) (behind at (drop at text)) l (behind_later at at (drop at text) (omega arith)) w (sym (ap (block_on s.parent (length text)) (lines_are at (drop at text))) ∙ h)

pub block_lower : (s : Setting) (text : List ℕ) (at p : ℕ) → at ≤ length text → block_scalar s text at ≡ Fails p → p < at → ⊥
block_lower s text at p l h k = let r = (range s text at p l h).0 in absurd (omega (arith, r, k))

pub block_upper : (s : Setting) (text : List ℕ) (at p : ℕ) → at < length text → block_scalar s text at ≡ Fails p → p ≤ length text
block_upper s text at p l h = (range s text at p (omega arith) h).1

pub block_dies : (s : Setting) (before : List ℕ) (b : ℕ) (rest more : List ℕ) (at : ℕ) (t : List ℕ) (e : ℕ) → at ≤ length before → block_scalar s (before ++ (b ∷ rest)) at ≡ Fails (length before) → block_scalar s (before ++ (b ∷ more)) at ≡ Stands t e → ⊥
block_dies s before b rest more at t e l h g = lines_dead s.parent (length (before ++ (b ∷ rest))) (length (before ++ (b ∷ more))) (length before) _ _ t e (let k = length-append before (b ∷ rest) in omega (arith, k)) (texts_share before b rest more at l) h g
