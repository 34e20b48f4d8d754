-- Headers of block scalars and their lines, by places.
use Rattle.std.proofs.Common.{◌≡◌, ℕ, zero, suc, ◌+◌, ◌-◌, ◌<◌, ◌≤◌, ◌⊎◌, inl, inr, subst, Bool, true, false, List, [], ◌∷◌, ◌++◌, length, take, drop, get_or, refl, sym, ap, ◌∙◌, arith, cond, length-drop, append_assoc, Option, Some, None}
use Rattle.std.specs.Prelude.{nat_eq, nat_lt, not, nat_le, ◌||◌, ◌&&◌}
use Rattle.std.proofs.lemmas.Bool.Decides.{nat_tests}
use Rattle.std.proofs.lemmas.Bool.{lt-ltb, le-ltb}
use Rattle.std.proofs.lemmas.List.{get_or-drop, drop_all, take_all}
use Rattle.std.specs.Str.{IsCharBoundary, IsUtf8}
use Rattle.std.proofs.lemmas.Str.{IsCharBoundary-end, IsCharBoundary-before_ascii, IsCharBoundary-after_ascii}
use Rattle.yaml_scalars.specs.Lines.{begins_with, begins_break, is_white, is_space, is_blank, is_mark, lead, indent, lines}
use Rattle.yaml_scalars.specs.code.Walk.{line_at, behind}
use Rattle.yaml_scalars.specs.Block.{return_behind, header_fault, is_content, taken_off, same, mark_len, may_end, shown, Nothing, Wide, Indented, inner_of, widest, Last, joint}
use Rattle.yaml_scalars.specs.code.BlockSteps.{text_more}
use Rattle.yaml_scalars.proofs.Places.{lines_are, line_front, line_fits, lead_le}
use Rattle.yaml_scalars.proofs.LineParts.{part_is, line_get, lead_byte}

-- a byte that is no carriage return
pub return_on : (i b : ℕ) (xs bs : List ℕ) → xs ≡ b ∷ bs → (b ≡ 13 → ⊥) → return_behind i xs ≡ return_behind (i + 1) bs
return_on i b xs bs h n = ap (return_behind i) h ∙ at_byte (nat_eq b 13) (grind (arith, nat_tests)) where
  at_byte : (q : Bool) → q ≡ false → cond q (Some (suc i)) (return_behind (suc i) bs) ≡ return_behind (i + 1) bs
  at_byte true e = absurd (cc)
  at_byte false e = let s : suc i ≡ i + 1 = omega arith in ap (λ k. return_behind k bs) s

-- a comment behind white space
pub comment_on : (i : ℕ) (b : ℕ) (xs bs : List ℕ) (white : Bool) → xs ≡ b ∷ bs → white ≡ true → b ≡ 35 → header_fault white i xs ≡ return_behind (i + 1) bs
comment_on i b xs bs white h w e = ap (λ t. header_fault white i t) h ∙ ap (λ q. header_fault q i (b ∷ bs)) w ∙ ap (λ (k : ℕ). header_fault true i (k ∷ bs)) e ∙ (let s : suc i ≡ i + 1 = omega arith in ap (λ k. return_behind k bs) s)

-- a place counted from one, or none
abbrev pub moved : ℕ → Option ℕ → Option ℕ
moved k None = None
moved k (Some n) = Some (k + n)

-- places counted from further on
pub return_from : (k n : ℕ) (bs : List ℕ) → return_behind (k + n) bs ≡ moved k (return_behind n bs)
return_from k n [] = refl
return_from k n (b ∷ bs) = by_return (nat_eq b 13) (return_from k (suc n) bs) where
  by_return : (q : Bool) → return_behind (k + suc n) bs ≡ moved k (return_behind (suc n) bs) → cond q (Some (suc (k + n))) (return_behind (suc (k + n)) bs) ≡ moved k (cond q (Some (suc n)) (return_behind (suc n) bs))
  by_return true h = let s : suc (k + n) ≡ k + suc n = omega arith in ap (λ (m : ℕ). Some m) s
  by_return false h = let s : suc (k + n) ≡ k + suc n = omega arith in ap (λ m. return_behind m bs) s ∙ h

pub fault_from : (k n : ℕ) (white : Bool) (bs : List ℕ) → header_fault white (k + n) bs ≡ moved k (header_fault white n bs)
fault_from k n white [] = refl
fault_from k n white (b ∷ bs) = by_byte (is_white b) (nat_eq b 13) (white && nat_eq b 35) (fault_from k (suc n) true bs) (return_from k (suc n) bs) where
  s : suc (k + n) ≡ k + suc n
  s = omega arith

  by_byte : (p q r : Bool) → header_fault true (k + suc n) bs ≡ moved k (header_fault true (suc n) bs) → return_behind (k + suc n) bs ≡ moved k (return_behind (suc n) bs)
      → cond p (header_fault true (suc (k + n)) bs) (cond q (Some (suc (k + n))) (cond r (return_behind (suc (k + n)) bs) (Some (k + n)))) ≡ moved k (cond p (header_fault true (suc n) bs) (cond q (Some (suc n)) (cond r (return_behind (suc n) bs) (Some n))))
  by_byte true q r h g = ap (λ m. header_fault true m bs) s ∙ h
  by_byte false true r h g = ap (λ (m : ℕ). Some m) s
  by_byte false false true h g = ap (λ m. return_behind m bs) s ∙ g
  by_byte false false false h g = refl

-- a line by its rest
pub line_length : (bytes : List ℕ) (start n : ℕ) → n ≤ length (line_at (drop start bytes)) → start + length (line_at (drop start bytes)) ≡ start + n + length (line_at (drop (start + n) bytes))
line_length bytes start n l =
    let e : length (drop n (line_at (drop start bytes))) ≡ length (line_at (drop (start + n) bytes)) = ap (λ (t : List ℕ). length t) (part_is bytes start n l) in
    omega (arith, e, length-drop n (line_at (drop start bytes)))

-- the indentation is taken off
and_false : (p : Bool) → (p && false) ≡ false
and_false true = refl
and_false false = refl

pub part_in : (inner : ℕ) (bytes : List ℕ) (start : ℕ) → inner ≤ lead is_space (line_at (drop start bytes)) → line_at (drop (start + inner) bytes) ≡ taken_off inner (line_at (drop start bytes))
part_in inner bytes start l =
    let t = line_at (drop start bytes) in
    let low : nat_lt (indent t) inner ≡ false = le-ltb (indent t) inner l in
    sym (ap (λ q. cond (is_blank t && q) [] (drop inner t)) low ∙ ap (λ q. cond q [] (drop inner t)) (and_false (is_blank t)) ∙ part_is bytes start inner (let f = lead_le is_space t in omega arith))

blank_of : (m b w : Bool) → (not m && (b || w)) ≡ true → w ≡ false → b ≡ true
blank_of true b w h e = absurd (let x : false ≡ true = h in cc)
blank_of false true w h e = refl
blank_of false false true h e = absurd (cc)
blank_of false false false h e = absurd (let x : false ≡ true = h in cc)

pub line_over : (bytes : List ℕ) (start : ℕ) → line_at (drop (start + length (line_at (drop start bytes))) bytes) ≡ []
line_over bytes start =
    let t = line_at (drop start bytes) in
    sym (part_is bytes start (length t) (omega arith)) ∙ drop_all (length t) t (omega arith)

pub part_out : (inner : ℕ) (bytes : List ℕ) (start : ℕ) → lead is_space (line_at (drop start bytes)) < inner → is_content inner (line_at (drop start bytes)) ≡ true → line_at (drop (start + length (line_at (drop start bytes))) bytes) ≡ taken_off inner (line_at (drop start bytes))
part_out inner bytes start l h =
    let t = line_at (drop start bytes) in
    let high : nat_lt (indent t) inner ≡ true = lt-ltb (indent t) inner l in
    let over : nat_le inner (indent t) ≡ false = grind (arith, nat_tests) in
    let blank : is_blank t ≡ true = blank_of (is_mark t) (is_blank t) (nat_le inner (indent t)) h over in
    line_over bytes start ∙ sym (ap (λ q. cond (is_blank t && q) [] (drop inner t)) high ∙ ap (λ q. cond (q && true) [] (drop inner t)) blank)

-- where a line's text may be cut
space_at : (n : ℕ) (xs : List ℕ) → n < lead is_space (line_at xs) → (n < length xs) × (get_or xs n 0 ≡ 32)
space_at n xs l =
    let f = lead_le is_space (line_at xs) in
    let g = line_fits xs in
    let e : is_space (get_or xs n 0) ≡ true = sym (ap is_space (line_get n xs (omega (arith, l, f)))) ∙ lead_byte is_space (line_at xs) n l in
    (omega (arith, l, f, g), grind (arith, nat_tests, e))

pub spaces_boundary : (bytes : List ℕ) (start n : ℕ) → IsUtf8 bytes → IsCharBoundary bytes start → n ≤ lead is_space (line_at (drop start bytes)) → IsCharBoundary bytes (start + n)
spaces_boundary bytes start zero u b l = let e : start ≡ start + 0 = omega arith in subst (λ k. IsCharBoundary bytes k) e b
spaces_boundary bytes start (suc n) u b l =
    let s = space_at n (drop start bytes) (omega arith) in
    let at : get_or bytes (start + n) 0 ≡ 32 = sym (get_or-drop start bytes n 0) ∙ s.1 in
    let within : start + n < length bytes = omega (arith, s.0, length-drop start bytes) in
    let e : start + n + 1 ≡ start + suc n = omega arith in
    subst (λ k. IsCharBoundary bytes k) e (IsCharBoundary-after_ascii bytes (start + n) u within (omega arith))

end_ascii : (xs : List ℕ) → (length (line_at xs) ≡ length xs) ⊎ ((length (line_at xs) < length xs) × (get_or xs (length (line_at xs)) 0 < 128))
end_ascii [] = inl refl
end_ascii (x ∷ xs) = by_break (nat_eq x 10) (nat_eq x 13) (begins_with 10 xs) (λ h. grind (arith, nat_tests)) (λ h. grind (arith, nat_tests)) (end_ascii xs) where
  more : (length (line_at xs) ≡ length xs) ⊎ ((length (line_at xs) < length xs) × (get_or xs (length (line_at xs)) 0 < 128)) → (length (x ∷ line_at xs) ≡ length (x ∷ xs)) ⊎ ((length (x ∷ line_at xs) < length (x ∷ xs)) × (get_or (x ∷ xs) (length (x ∷ line_at xs)) 0 < 128))
  more (inl e) = inl (ap (λ k. suc k) e)
  more (inr e) = inr (omega (arith, e.0), e.1)

  by_break : (q r s : Bool) → (q ≡ true → x < 128) → (r ≡ true → x < 128) → (length (line_at xs) ≡ length xs) ⊎ ((length (line_at xs) < length xs) × (get_or xs (length (line_at xs)) 0 < 128))
      → (length (cond (q || (r && s)) [] (x ∷ line_at xs)) ≡ suc (length xs)) ⊎ ((length (cond (q || (r && s)) [] (x ∷ line_at xs)) < suc (length xs)) × (get_or (x ∷ xs) (length (cond (q || (r && s)) [] (x ∷ line_at xs))) 0 < 128))
  by_break true r s f g h = inr (omega arith, f refl)
  by_break false true true f g h = inr (omega arith, g refl)
  by_break false true false f g h = more h
  by_break false false s f g h = more h

pub line_boundary : (bytes : List ℕ) (start end : ℕ) → start ≤ length bytes → end ≡ start + length (line_at (drop start bytes)) → IsCharBoundary bytes end
line_boundary bytes start end l e = by_end (end_ascii (drop start bytes)) where
  by_end : (length (line_at (drop start bytes)) ≡ length (drop start bytes)) ⊎ ((length (line_at (drop start bytes)) < length (drop start bytes)) × (get_or (drop start bytes) (length (line_at (drop start bytes))) 0 < 128)) → IsCharBoundary bytes end
  by_end (inl h) =
      let whole : length bytes ≡ end = omega (arith, h, e, l, length-drop start bytes) in
      subst (λ k. IsCharBoundary bytes k) whole (IsCharBoundary-end bytes)
  by_end (inr h) =
      let at : get_or (drop start bytes) (length (line_at (drop start bytes))) 0 ≡ get_or bytes end 0 = get_or-drop start bytes (length (line_at (drop start bytes))) 0 ∙ ap (λ k. get_or bytes k 0) (sym e) in
      IsCharBoundary-before_ascii bytes end (omega (arith, h.0, e, length-drop start bytes)) (omega (arith, h.1, at))

-- where it shows that a line is neither blank nor a mark
same_le : (a n : ℕ) (bs : List ℕ) → same a n bs ≤ length bs
same_le a zero bs = omega arith
same_le a (suc n) [] = omega arith
same_le a (suc n) (b ∷ bs) = by_byte (nat_eq b a) (same_le a n bs) where
  by_byte : (q : Bool) → same a n bs ≤ length bs → cond q (suc (same a n bs)) 0 ≤ suc (length bs)
  by_byte true h = omega arith
  by_byte false h = omega arith

pub shown_le : (xs : List ℕ) → lead is_white xs + mark_len xs ≤ length xs
shown_le [] = omega arith
shown_le (b ∷ bs) = by_byte (nat_eq b 32 || nat_eq b 9) (nat_eq b 45 || nat_eq b 46) (λ h g. grind (arith, nat_tests)) (same_le b 2 bs) (lead_le is_white bs) where
  by_byte : (q r : Bool) → (q ≡ true → r ≡ true → ⊥) → same b 2 bs ≤ length bs → lead is_white bs ≤ length bs → cond q (suc (lead is_white bs)) 0 + cond r (suc (same b 2 bs)) 0 ≤ suc (length bs)
  by_byte true true f l m = absurd (f refl refl)
  by_byte true false f l m = omega arith
  by_byte false true f l m = omega arith
  by_byte false false f l m = omega arith

-- the first line that is not blank
pub inner_line : (above wide start : ℕ) (bytes : List ℕ) → is_blank (line_at (drop start bytes)) ≡ false
    → inner_of above wide (lines start (drop start bytes)) ≡ cond (is_mark (line_at (drop start bytes)) || nat_lt (indent (line_at (drop start bytes))) above) Nothing (cond (nat_lt (indent (line_at (drop start bytes))) wide) (Wide (start + shown (line_at (drop start bytes)))) (Indented (indent (line_at (drop start bytes)))))
inner_line above wide start bytes h =
    let t = line_at (drop start bytes) in
    ap (inner_of above wide) (lines_are start (drop start bytes))
    ∙ ap (λ q. cond q (inner_of above (widest wide (indent t)) (behind start (drop start bytes))) (cond (is_mark t || nat_lt (indent t) above) Nothing (cond (nat_lt (indent t) wide) (Wide (start + shown t)) (Indented (indent t))))) h

pub inner_blank : (above wide start : ℕ) (bytes : List ℕ) → is_blank (line_at (drop start bytes)) ≡ true → inner_of above wide (lines start (drop start bytes)) ≡ inner_of above (widest wide (indent (line_at (drop start bytes)))) (behind start (drop start bytes))
inner_blank above wide start bytes h =
    let t = line_at (drop start bytes) in
    ap (inner_of above wide) (lines_are start (drop start bytes))
    ∙ ap (λ q. cond q (inner_of above (widest wide (indent t)) (behind start (drop start bytes))) (cond (is_mark t || nat_lt (indent t) above) Nothing (cond (nat_lt (indent t) wide) (Wide (start + shown t)) (Indented (indent t))))) h

or_true : (p : Bool) → (p || true) ≡ true
or_true true = refl
or_true false = refl

pub inner_mark : (above wide start : ℕ) (bytes : List ℕ) → is_blank (line_at (drop start bytes)) ≡ false → is_mark (line_at (drop start bytes)) ≡ true → inner_of above wide (lines start (drop start bytes)) ≡ Nothing
inner_mark above wide start bytes h m =
    let t = line_at (drop start bytes) in
    inner_line above wide start bytes h ∙ ap (λ q. cond (q || nat_lt (indent t) above) Nothing (cond (nat_lt (indent t) wide) (Wide (start + shown t)) (Indented (indent t)))) m

pub inner_below : (above wide start : ℕ) (bytes : List ℕ) → is_blank (line_at (drop start bytes)) ≡ false → indent (line_at (drop start bytes)) < above → inner_of above wide (lines start (drop start bytes)) ≡ Nothing
inner_below above wide start bytes h l =
    let t = line_at (drop start bytes) in
    inner_line above wide start bytes h
    ∙ ap (λ q. cond (is_mark t || q) Nothing (cond (nat_lt (indent t) wide) (Wide (start + shown t)) (Indented (indent t)))) (lt-ltb (indent t) above l)
    ∙ ap (λ q. cond q Nothing (cond (nat_lt (indent t) wide) (Wide (start + shown t)) (Indented (indent t)))) (or_true (is_mark t))

inner_above : (above wide start : ℕ) (bytes : List ℕ) → is_blank (line_at (drop start bytes)) ≡ false → is_mark (line_at (drop start bytes)) ≡ false → above ≤ indent (line_at (drop start bytes)) → inner_of above wide (lines start (drop start bytes)) ≡ cond (nat_lt (indent (line_at (drop start bytes))) wide) (Wide (start + shown (line_at (drop start bytes)))) (Indented (indent (line_at (drop start bytes))))
inner_above above wide start bytes h m l =
    let t = line_at (drop start bytes) in
    inner_line above wide start bytes h
    ∙ ap (λ q. cond (q || nat_lt (indent t) above) Nothing (cond (nat_lt (indent t) wide) (Wide (start + shown t)) (Indented (indent t)))) m
    ∙ ap (λ q. cond q Nothing (cond (nat_lt (indent t) wide) (Wide (start + shown t)) (Indented (indent t)))) (le-ltb (indent t) above l)

pub inner_wide : (above wide start : ℕ) (bytes : List ℕ) → is_blank (line_at (drop start bytes)) ≡ false → is_mark (line_at (drop start bytes)) ≡ false → above ≤ indent (line_at (drop start bytes)) → indent (line_at (drop start bytes)) < wide → inner_of above wide (lines start (drop start bytes)) ≡ Wide (start + shown (line_at (drop start bytes)))
inner_wide above wide start bytes h m l k =
    let t = line_at (drop start bytes) in
    inner_above above wide start bytes h m l ∙ ap (λ q. cond q (Wide (start + shown t)) (Indented (indent t))) (lt-ltb (indent t) wide k)

pub inner_in : (above wide start : ℕ) (bytes : List ℕ) → is_blank (line_at (drop start bytes)) ≡ false → is_mark (line_at (drop start bytes)) ≡ false → above ≤ indent (line_at (drop start bytes)) → wide ≤ indent (line_at (drop start bytes)) → inner_of above wide (lines start (drop start bytes)) ≡ Indented (indent (line_at (drop start bytes)))
inner_in above wide start bytes h m l k =
    let t = line_at (drop start bytes) in
    inner_above above wide start bytes h m l ∙ ap (λ q. cond q (Wide (start + shown t)) (Indented (indent t))) (le-ltb (indent t) wide k)

pub no_second : (p q : Bool) → q ≡ false → (p && q) ≡ false
no_second true q h = h
no_second false q h = refl

pub shown_is : (bytes : List ℕ) (start place mark : ℕ) → mark ≡ mark_len (line_at (drop start bytes)) → place ≡ start + lead is_white (line_at (drop start bytes)) + mark → start + shown (line_at (drop start bytes)) ≡ cond (begins_with 13 (line_at (drop place bytes)) && may_end mark) (place + 1) place
shown_is bytes start place mark m e =
    let t = line_at (drop start bytes) in
    let n = lead is_white t + mark_len t in
    let at : start + n ≡ place = omega (arith, e, m) in
    let rest : drop n t ≡ line_at (drop place bytes) = part_is bytes start n (shown_le t) ∙ ap (λ k. line_at (drop k bytes)) at in
    ap (λ (r : List ℕ). start + cond (begins_with 13 r && may_end (mark_len t)) (suc n) n) rest ∙ ap (λ k. start + cond (begins_with 13 (line_at (drop place bytes)) && may_end k) (suc n) n) (sym m)
    ∙ by_byte (begins_with 13 (line_at (drop place bytes)) && may_end mark) n at where
      by_byte : (q : Bool) (n : ℕ) → start + n ≡ place → start + cond q (suc n) n ≡ cond q (place + 1) place
      by_byte true n at = omega arith
      by_byte false n at = at

-- a line that is not empty is added
pub line_all : (bytes : List ℕ) (start end : ℕ) → end ≡ start + length (line_at (drop start bytes)) → take (end - start) (drop start bytes) ≡ line_at (drop start bytes)
line_all bytes start end e =
    let t = line_at (drop start bytes) in
    let n : end - start ≡ length t = omega (arith, e) in
    ap (λ k. take k (drop start bytes)) n ∙ sym (line_front (length t) (drop start bytes) (omega arith)) ∙ take_all (length t) t (omega arith)

head_of : (xs : List ℕ) → 0 < length (line_at xs) → get_or (line_at xs) 0 0 ≡ get_or xs 0 0
head_of [] l = refl
head_of (x ∷ xs) l = by_break (begins_break x xs) l where
  by_break : (q : Bool) → 0 < length (cond q [] (x ∷ line_at xs)) → get_or (cond q [] (x ∷ line_at xs)) 0 0 ≡ x
  by_break true l = absurd (omega arith)
  by_break false l = refl

pub line_head : (bytes : List ℕ) (start : ℕ) → 0 < length (line_at (drop start bytes)) → get_or (line_at (drop start bytes)) 0 0 ≡ get_or bytes start 0
line_head bytes start l = let e : start + 0 ≡ start = omega arith in head_of (drop start bytes) l ∙ get_or-drop start bytes 0 0 ∙ ap (λ k. get_or bytes k 0) e

pub text_added : (folded : Bool) (last : Option Last) (e : ℕ) (old mid new part : List ℕ) (white : Bool) → white ≡ is_white (get_or part 0 0) → 0 < length part → mid ≡ old ++ joint folded last white e → new ≡ mid ++ part → new ≡ text_more folded last e old part
text_added folded last e old mid new [] white w l m n = absurd (omega arith)
text_added folded last e old mid new (b ∷ bs) white w l m n =
    n ∙ ap (λ (t : List ℕ). t ++ (b ∷ bs)) m ∙ append_assoc old (joint folded last white e) (b ∷ bs) ∙ ap (λ q. old ++ (joint folded last q e ++ (b ∷ bs))) w

pub after_feed : (bytes : List ℕ) (place : ℕ) → IsUtf8 bytes → 0 < place → place ≤ length bytes → get_or bytes (place - 1) 0 ≡ 10 → IsCharBoundary bytes place
after_feed bytes place u l m e =
    let n : place - 1 + 1 ≡ place = omega arith in
    subst (λ k. IsCharBoundary bytes k) n (IsCharBoundary-after_ascii bytes (place - 1) u (omega arith) (omega (arith, e)))
