-- The further lines of a plain scalar.
use Rattle.std.proofs.Common.{◌≡◌, ℕ, zero, suc, ◌+◌, ◌-◌, ◌<◌, ◌≤◌, ◌⊎◌, Bool, true, false, List, [], ◌∷◌, ◌++◌, Option, Some, None, Result, Ok, Err, IfOk, length, take, drop, get_or, refl, sym, ap, inl, inr, ◌∙◌, arith, cond, get_or-drop, append_assoc}
use Rattle.std.specs.Prelude.{nat_eq, nat_lt, ◌||◌, ◌&&◌, not}
use Rattle.std.proofs.lemmas.Bool.Decides.{nat_tests}
use Rattle.std.proofs.lemmas.Bool.{le-ltb}
use Rattle.std.proofs.lemmas.List.{drop-drop}
use Rattle.yaml_scalars.specs.declared.scalar.Setting.{Setting}
use Rattle.yaml_scalars.specs.declared.plain.FurtherLine.{FurtherLine}
use Rattle.yaml_scalars.specs.declared.plain_line.Why.{Why}
use Rattle.yaml_scalars.specs.declared.plain_line.Why.TheVariants.{Break, Return, Colon, Comment, Mark}
use Rattle.yaml_scalars.specs.declared.plain_line.Below.{Below}
use Rattle.yaml_scalars.specs.declared.plain_line.Below.TheVariants.{Blank, Outside, Further}
use Rattle.yaml_scalars.specs.Lines.{Stands, Fails, begins_with, is_white, is_space, is_blank, is_mark, ends_with, lead, indent, past_white, lines, trimmed}
use Rattle.yaml_scalars.specs.code.Walk.{line_at, behind}
use Rattle.yaml_scalars.specs.Plain.{above_of, stops, plain_len, content, why, reason, content_at, inside, below, joined, content_end, ends_on, stop_behind, return_shown, joins, further, more}
use Rattle.yaml_scalars.specs.code.PlainSteps.{from, rest, EndsAtOnce, LiesBehind}
use Rattle.yaml_scalars.proofs.Places.{lines_are, line_front, behind_drop, lead_le}
use Rattle.yaml_scalars.proofs.LineParts.{part_is, line_get, lead_byte}

-- how much of the text is left behind the beginning of a line
abbrev pub left : List ℕ → Option FurtherLine → ℕ
left bytes None = 0
left bytes (Some l) = suc (length bytes - l.begin)

-- what a line below is, by its tests
pub below_inside : (s : Setting) (xs : List ℕ) → is_blank xs ≡ false → is_mark xs ≡ false → below s xs ≡ inside s xs
below_inside s xs b m = ap (λ q. cond q Blank (cond (is_mark xs) Outside (inside s xs))) b ∙ ap (λ q. cond q Outside (inside s xs)) m

pub inside_flow : (s : Setting) (bytes : List ℕ) (start n : ℕ) → s.flow ≡ true → n ≡ lead is_white (line_at (drop start bytes)) → inside s (line_at (drop start bytes)) ≡ content_at n (line_at (drop (start + n) bytes))
inside_flow s bytes start n f e =
    let l = line_at (drop start bytes) in
    ap (λ q. cond q (content_at (lead is_white l) (past_white l)) (cond (nat_lt (indent l) (above_of s.parent) || begins_with 9 (drop (indent l) l)) Outside (content_at (indent l) (drop (indent l) l)))) f
    ∙ ap (λ k. content_at k (drop k l)) (sym e)
    ∙ ap (content_at n) (part_is bytes start n (let h = lead_le is_white l in omega (arith, e)))

inside_block : (s : Setting) (xs : List ℕ) → s.flow ≡ false → inside s xs ≡ cond (nat_lt (indent xs) (above_of s.parent) || begins_with 9 (drop (indent xs) xs)) Outside (content_at (indent xs) (drop (indent xs) xs))
inside_block s xs f = ap (λ q. cond q (content_at (lead is_white xs) (past_white xs)) (cond (nat_lt (indent xs) (above_of s.parent) || begins_with 9 (drop (indent xs) xs)) Outside (content_at (indent xs) (drop (indent xs) xs)))) f

pub inside_tab : (s : Setting) (bytes : List ℕ) (start n : ℕ) → s.flow ≡ false → n ≡ lead is_space (line_at (drop start bytes)) → begins_with 9 (line_at (drop (start + n) bytes)) ≡ true → inside s (line_at (drop start bytes)) ≡ Outside
inside_tab s bytes start n f e t =
    let l = line_at (drop start bytes) in
    let u : begins_with 9 (drop (indent l) l) ≡ true = ap (λ k. begins_with 9 (drop k l)) (sym e) ∙ ap (begins_with 9) (part_is bytes start n (let h = lead_le is_space l in omega (arith, e))) ∙ t in
    inside_block s l f ∙ ap (λ q. cond (nat_lt (indent l) (above_of s.parent) || q) Outside (content_at (indent l) (drop (indent l) l))) u ∙ or_true (nat_lt (indent l) (above_of s.parent)) where
      or_true : (q : Bool) → cond (q || true) Outside (content_at (indent (line_at (drop start bytes))) (drop (indent (line_at (drop start bytes))) (line_at (drop start bytes)))) ≡ Outside
      or_true true = refl
      or_true false = refl

pub inside_is : (s : Setting) (bytes : List ℕ) (start n : ℕ) → s.flow ≡ false → n ≡ lead is_space (line_at (drop start bytes)) → above_of s.parent ≤ n → begins_with 9 (line_at (drop (start + n) bytes)) ≡ false → inside s (line_at (drop start bytes)) ≡ content_at n (line_at (drop (start + n) bytes))
inside_is s bytes start n f e a t =
    let l = line_at (drop start bytes) in
    let p = part_is bytes start n (let h = lead_le is_space l in omega (arith, e)) in
    let u : begins_with 9 (drop (indent l) l) ≡ false = ap (λ k. begins_with 9 (drop k l)) (sym e) ∙ ap (begins_with 9) p ∙ t in
    let low : nat_lt (indent l) (above_of s.parent) ≡ false = le-ltb (indent l) (above_of s.parent) (omega (arith, e)) in
    inside_block s l f
    ∙ ap (λ q. cond (q || begins_with 9 (drop (indent l) l)) Outside (content_at (indent l) (drop (indent l) l))) low
    ∙ ap (λ q. cond q Outside (content_at (indent l) (drop (indent l) l))) u
    ∙ ap (λ k. content_at k (drop k l)) (sym e) ∙ ap (content_at n) p

-- how many bytes stand before the content of a further line
chosen : (b : Bool) (x y z : Below) → cond b x y ≡ z → (x ≡ z) ⊎ (y ≡ z)
chosen true x y z h = inl h
chosen false x y z h = inr h

skip_is : (m n : ℕ) (xs : List ℕ) → content_at m xs ≡ Further n → n ≡ m
skip_is m n xs h = elim (chosen (begins_with 35 xs) Outside (Further m) (Further n) h) [ inl k ↦ absurd (cc) | inr k ↦ cc ]

further_skip : (s : Setting) (xs : List ℕ) (n : ℕ) → below s xs ≡ Further n → (n ≡ lead is_white xs) ⊎ (n ≡ lead is_space xs)
further_skip s xs n h =
    elim (chosen (is_blank xs) Blank (cond (is_mark xs) Outside (inside s xs)) (Further n) h) [
      | inl k ↦ absurd (cc)
      | inr k ↦ elim (chosen (is_mark xs) Outside (inside s xs) (Further n) k) [
        | inl j ↦ absurd (cc)
        | inr j ↦ elim (chosen s.flow (content_at (lead is_white xs) (past_white xs)) (cond (nat_lt (indent xs) (above_of s.parent) || begins_with 9 (drop (indent xs) xs)) Outside (content_at (indent xs) (drop (indent xs) xs))) (Further n) j) [
          | inl i ↦ inl (skip_is (lead is_white xs) n (past_white xs) i)
          | inr i ↦ elim (chosen (nat_lt (indent xs) (above_of s.parent) || begins_with 9 (drop (indent xs) xs)) Outside (content_at (indent xs) (drop (indent xs) xs)) (Further n) i) [
            | inl g ↦ absurd (cc)
            | inr g ↦ inr (skip_is (indent xs) n (drop (indent xs) xs) g)
          ]
        ]
      ]
    ]

pub skip_le : (s : Setting) (xs : List ℕ) (n : ℕ) → below s xs ≡ Further n → n ≤ length xs
skip_le s xs n h = elim (further_skip s xs n h) [ inl e ↦ (let l = lead_le is_white xs in omega (arith, e, l)) | inr e ↦ (let l = lead_le is_space xs in omega (arith, e, l)) ]

pub white_ascii : (b : ℕ) → is_white b ≡ true → b < 128
white_ascii b w = grind (arith, nat_tests)

space_ascii : (b : ℕ) → is_space b ≡ true → b < 128
space_ascii b w = grind (arith, nat_tests)

byte_skipped : (s : Setting) (xs : List ℕ) (n : ℕ) → below s xs ≡ Further (suc n) → get_or xs n 0 < 128
byte_skipped s xs n h =
    elim (further_skip s xs (suc n) h) [
      | inl e ↦ white_ascii (get_or xs n 0) (lead_byte is_white xs n (omega (arith, e)))
      | inr e ↦ space_ascii (get_or xs n 0) (lead_byte is_space xs n (omega (arith, e)))
    ]

-- the content of a further line stands behind a byte of one character
pub byte_before : (s : Setting) (bytes : List ℕ) (start n : ℕ) → 0 < start → get_or bytes (start - 1) 0 ≡ 10 → below s (line_at (drop start bytes)) ≡ Further n → get_or bytes (start + n - 1) 0 < 128
byte_before s bytes start zero p b h = let e : start + 0 - 1 ≡ start - 1 = omega arith in let f : get_or bytes (start + 0 - 1) 0 ≡ 10 = ap (λ k. get_or bytes k 0) e ∙ b in omega (arith, f)
byte_before s bytes start (suc n) p b h =
    let e : start + suc n - 1 ≡ start + n = omega arith in
    let l : n < length (line_at (drop start bytes)) = (let m = skip_le s (line_at (drop start bytes)) (suc n) h in omega (arith, m)) in
    let f : get_or bytes (start + suc n - 1) 0 ≡ get_or (line_at (drop start bytes)) n 0 = ap (λ k. get_or bytes k 0) e ∙ sym (line_get n (drop start bytes) l ∙ get_or-drop start bytes n 0) in
    let a = byte_skipped s (line_at (drop start bytes)) n h in
    omega (arith, f, a)

-- a scalar goes on over the line below
pub from_below : (s : Setting) (bytes : List ℕ) (place next : ℕ) (t : List ℕ) (e k : ℕ) (w : Below) → behind place (drop place bytes) ≡ lines next (drop next bytes) → below s (line_at (drop next bytes)) ≡ w → from s bytes place t e k ≡ further s w next (line_at (drop next bytes)) t e k (from s bytes next)
from_below s bytes place next t e k w h b = ap (λ ls. more s ls t e k) (h ∙ lines_are next (drop next bytes)) ∙ ap (λ w. further s w next (line_at (drop next bytes)) t e k (from s bytes next)) b

pub from_further : (s : Setting) (bytes : List ℕ) (place next n : ℕ) (t : List ℕ) (e k : ℕ) → behind place (drop place bytes) ≡ lines next (drop next bytes) → below s (line_at (drop next bytes)) ≡ Further n → from s bytes place t e k ≡ rest s bytes (Some (record { begin = next + n; blanks = k })) t e
from_further s bytes place next n t e k h b =
    let l = skip_le s (line_at (drop next bytes)) n b in
    let part = line_at (drop (next + n) bytes) in
    from_below s bytes place next t e k (Further n) h b
    ∙ ap (λ p. joins s.flow (reason s.flow p) p (next + n) t e k (from s bytes next)) (part_is bytes next n l)
    ∙ ap (λ ls. joins s.flow (reason s.flow part) part (next + n) t e k (more s ls)) (behind_drop n next (drop next bytes) l ∙ ap (behind (next + n)) (drop-drop n next bytes))

-- in flow a line that begins with what ends the scalar adds nothing
pub rest_ends : (s : Setting) (bytes : List ℕ) (begin k : ℕ) (t : List ℕ) (e : ℕ) → s.flow ≡ true → EndsAtOnce (line_at (drop begin bytes)) → rest s bytes (Some (record { begin = begin; blanks = k })) t e ≡ Stands t e
rest_ends s bytes begin k t e f h = ap (λ q. joins q (reason q (line_at (drop begin bytes))) (line_at (drop begin bytes)) begin t e k (from s bytes begin)) f ∙ by_reason h.1 where
  by_reason : ((reason true (line_at (drop begin bytes)) ≡ Colon) ⊎ (reason true (line_at (drop begin bytes)) ≡ Mark)) → joins true (reason true (line_at (drop begin bytes))) (line_at (drop begin bytes)) begin t e k (from s bytes begin) ≡ Stands t e
  by_reason (inl w) = ap (λ w. joins true w (line_at (drop begin bytes)) begin t e k (from s bytes begin)) w ∙ ap (λ n. cond (nat_eq n 0) (Stands t e) (Stands (joined true (line_at (drop begin bytes)) t k) (content_end true (line_at (drop begin bytes)) begin))) h.0
  by_reason (inr w) = ap (λ w. joins true w (line_at (drop begin bytes)) begin t e k (from s bytes begin)) w ∙ ap (λ n. cond (nat_eq n 0) (Stands t e) (Stands (joined true (line_at (drop begin bytes)) t k) (content_end true (line_at (drop begin bytes)) begin))) h.0

-- the content of the line of a place
pub plain_le : (flow white : Bool) (xs : List ℕ) → plain_len flow white xs ≤ length xs
plain_le flow white [] = omega arith
plain_le flow white (x ∷ xs) = by_stop (stops flow white x xs) (plain_le flow (is_white x) xs) where
  by_stop : (q : Bool) → plain_len flow (is_white x) xs ≤ length xs → cond q 0 (suc (plain_len flow (is_white x) xs)) ≤ suc (length xs)
  by_stop true h = omega arith
  by_stop false h = omega arith

pub content_is : (flow : Bool) (bytes : List ℕ) (begin end stop : ℕ) → stop ≡ begin + plain_len flow false (line_at (drop begin bytes)) → take (end - begin) (drop begin bytes) ≡ trimmed (take (stop - begin) (drop begin bytes)) → take (end - begin) (drop begin bytes) ≡ content flow (line_at (drop begin bytes))
content_is flow bytes begin end stop e h =
    let n : stop - begin ≡ plain_len flow false (line_at (drop begin bytes)) = omega (arith, e) in
    h ∙ ap (λ k. trimmed (take k (drop begin bytes))) n ∙ ap trimmed (sym (line_front (plain_len flow false (line_at (drop begin bytes))) (drop begin bytes) (plain_le flow false (line_at (drop begin bytes)))))

pub reason_is : (flow : Bool) (bytes : List ℕ) (begin stop : ℕ) → stop ≡ begin + plain_len flow false (line_at (drop begin bytes)) → reason flow (line_at (drop begin bytes)) ≡ why (line_at (drop stop bytes))
reason_is flow bytes begin stop e =
    let n = plain_len flow false (line_at (drop begin bytes)) in
    ap why (part_is bytes begin n (plain_le flow false (line_at (drop begin bytes))) ∙ ap (λ k. line_at (drop k bytes)) (sym e))

pub added : (new middle old folded slice part : List ℕ) → new ≡ middle ++ slice → middle ≡ old ++ folded → slice ≡ part → new ≡ old ++ (folded ++ part)
added new middle old folded slice part a b c = a ∙ ap (λ t. t ++ slice) b ∙ ap (λ t. (old ++ folded) ++ t) c ∙ append_assoc old folded part

-- a further line, by why the scalar ends on it
line_reason : (s : Setting) (bytes : List ℕ) (l : FurtherLine) (stop : ℕ) (t : List ℕ) (e : ℕ) (w : Why) → stop ≡ l.begin + plain_len s.flow false (line_at (drop l.begin bytes)) → w ≡ why (line_at (drop stop bytes)) → rest s bytes (Some l) t e ≡ joins s.flow w (line_at (drop l.begin bytes)) l.begin t e l.blanks (from s bytes l.begin)
line_reason s bytes l stop t e w h v = ap (λ w. joins s.flow w (line_at (drop l.begin bytes)) l.begin t e l.blanks (from s bytes l.begin)) (reason_is s.flow bytes l.begin stop h ∙ sym v)

pub line_return : (s : Setting) (bytes : List ℕ) (l : FurtherLine) (stop : ℕ) (t : List ℕ) (e : ℕ) → stop ≡ l.begin + plain_len s.flow false (line_at (drop l.begin bytes)) → Return ≡ why (line_at (drop stop bytes)) → rest s bytes (Some l) t e ≡ Fails (return_shown s.flow (line_at (drop l.begin bytes)) l.begin)
line_return s bytes l stop t e h v = line_reason s bytes l stop t e Return h v

pub shown_before : (flow : Bool) (part : List ℕ) (begin stop : ℕ) → stop ≡ begin + plain_len flow false part → flow ≡ false → ends_with 58 (take (plain_len flow false part) part) ≡ true → stop ≡ return_shown flow part begin
shown_before flow part begin stop e f h =
    let n = plain_len flow false part in
    e ∙ sym (ap (λ q. cond (not q && ends_with 58 (take n part)) (begin + n) (begin + n + 1)) f ∙ ap (λ q. cond q (begin + n) (begin + n + 1)) h)

pub shown_behind : (flow : Bool) (part : List ℕ) (begin stop : ℕ) → stop ≡ begin + plain_len flow false part → (flow ≡ true) ⊎ (ends_with 58 (take (plain_len flow false part) part) ≡ false) → stop + 1 ≡ return_shown flow part begin
shown_behind flow part begin stop e (inl f) = let n = plain_len flow false part in ap (λ k. k + 1) e ∙ sym (ap (λ q. cond (not q && ends_with 58 (take n part)) (begin + n) (begin + n + 1)) f)
shown_behind flow part begin stop e (inr h) =
    let n = plain_len flow false part in
    ap (λ k. k + 1) e ∙ sym (ap (λ q. cond (not flow && q) (begin + n) (begin + n + 1)) h ∙ none (not flow)) where
      none : (q : Bool) → cond (q && false) (begin + plain_len flow false part) (begin + plain_len flow false part + 1) ≡ begin + plain_len flow false part + 1
      none true = refl
      none false = refl

-- the byte before a place, as the last one of a line's part
last_is : (c : ℕ) (xs : List ℕ) (m : ℕ) → m < length xs → ends_with c (take (suc m) xs) ≡ nat_eq (get_or xs m 0) c
last_is c [] m l = absurd (omega arith)
last_is c (x ∷ []) zero l = refl
last_is c (x ∷ y ∷ xs) zero l = refl
last_is c (x ∷ []) (suc m) l = absurd (omega arith)
last_is c (x ∷ y ∷ xs) (suc m) l = last_is c (y ∷ xs) m (omega arith)

pub last_byte : (c : ℕ) (bytes : List ℕ) (begin stop n : ℕ) → stop ≡ begin + n → n ≤ length (line_at (drop begin bytes)) → begin < stop → ends_with c (take n (line_at (drop begin bytes))) ≡ nat_eq (get_or bytes (stop - 1) 0) c
last_byte c bytes begin stop zero e l m = absurd (omega (arith, e, m))
last_byte c bytes begin stop (suc n) e l m =
    let p : begin + n ≡ stop - 1 = omega (arith, e) in
    last_is c (line_at (drop begin bytes)) n (omega (arith, l)) ∙ ap (λ b. nat_eq b c) (line_get n (drop begin bytes) (omega (arith, l)) ∙ get_or-drop begin bytes n 0 ∙ ap (λ i. get_or bytes i 0) p)

pub line_key : (s : Setting) (bytes : List ℕ) (l : FurtherLine) (stop : ℕ) (t : List ℕ) (e : ℕ) → stop ≡ l.begin + plain_len s.flow false (line_at (drop l.begin bytes)) → Colon ≡ why (line_at (drop stop bytes)) → s.flow ≡ false → rest s bytes (Some l) t e ≡ Fails (stop + 1)
line_key s bytes l stop t e h v f =
    let part = line_at (drop l.begin bytes) in
    line_reason s bytes l stop t e Colon h v ∙ ap (λ q. cond q (ends_on s.flow part l.begin t e l.blanks) (Fails (stop_behind s.flow part l.begin))) f ∙ ap (λ n. Fails (n + 1)) (sym h)

pub line_break : (s : Setting) (bytes : List ℕ) (l : FurtherLine) (stop : ℕ) (t : List ℕ) (e : ℕ) (u : List ℕ) (f : ℕ) → stop ≡ l.begin + plain_len s.flow false (line_at (drop l.begin bytes)) → Break ≡ why (line_at (drop stop bytes)) → u ≡ joined s.flow (line_at (drop l.begin bytes)) t l.blanks → f ≡ content_end s.flow (line_at (drop l.begin bytes)) l.begin → rest s bytes (Some l) t e ≡ from s bytes stop u f 0
line_break s bytes l stop t e u f h v a b =
    let part = line_at (drop l.begin bytes) in
    let n = plain_len s.flow false part in
    line_reason s bytes l stop t e Break h v
    ∙ ap (λ x. from s bytes l.begin x (content_end s.flow part l.begin) 0) (sym a) ∙ ap (λ x. from s bytes l.begin u x 0) (sym b)
    ∙ ap (λ ls. more s ls u f 0) (behind_drop n l.begin (drop l.begin bytes) (plain_le s.flow false part) ∙ ap (behind (l.begin + n)) (drop-drop n l.begin bytes) ∙ ap (λ k. behind k (drop k bytes)) (sym h))

pub stands_same : (t u : List ℕ) (e f : ℕ) → u ≡ t → f ≡ e → Stands t e ≡ Stands u f
stands_same t u e f a b = ap (λ x. Stands x e) (sym a) ∙ ap (λ x. Stands u x) (sym b)

pub line_comment : (s : Setting) (bytes : List ℕ) (l : FurtherLine) (stop : ℕ) (t : List ℕ) (e : ℕ) (u : List ℕ) (f : ℕ) → stop ≡ l.begin + plain_len s.flow false (line_at (drop l.begin bytes)) → Comment ≡ why (line_at (drop stop bytes)) → u ≡ joined s.flow (line_at (drop l.begin bytes)) t l.blanks → f ≡ content_end s.flow (line_at (drop l.begin bytes)) l.begin → rest s bytes (Some l) t e ≡ Stands u f
line_comment s bytes l stop t e u f h v a b = line_reason s bytes l stop t e Comment h v ∙ stands_same _ u _ f a b

pub line_colon : (s : Setting) (bytes : List ℕ) (l : FurtherLine) (stop : ℕ) (t : List ℕ) (e : ℕ) → stop ≡ l.begin + plain_len s.flow false (line_at (drop l.begin bytes)) → Colon ≡ why (line_at (drop stop bytes)) → s.flow ≡ true → rest s bytes (Some l) t e ≡ ends_on s.flow (line_at (drop l.begin bytes)) l.begin t e l.blanks
line_colon s bytes l stop t e h v f =
    let part = line_at (drop l.begin bytes) in
    line_reason s bytes l stop t e Colon h v ∙ ap (λ q. cond q (ends_on s.flow part l.begin t e l.blanks) (Fails (stop_behind s.flow part l.begin))) f

pub line_mark : (s : Setting) (bytes : List ℕ) (l : FurtherLine) (stop : ℕ) (t : List ℕ) (e : ℕ) → stop ≡ l.begin + plain_len s.flow false (line_at (drop l.begin bytes)) → Mark ≡ why (line_at (drop stop bytes)) → rest s bytes (Some l) t e ≡ ends_on s.flow (line_at (drop l.begin bytes)) l.begin t e l.blanks
line_mark s bytes l stop t e h v = line_reason s bytes l stop t e Mark h v

pub ends_bare : (flow : Bool) (part t : List ℕ) (begin stop e k : ℕ) → stop ≡ begin + plain_len flow false part → stop ≡ begin → ends_on flow part begin t e k ≡ Stands t e
ends_bare flow part t begin stop e k h z =
    let n : plain_len flow false part ≡ 0 = omega (arith, h, z) in
    ap (λ n. cond (nat_eq n 0) (Stands t e) (Stands (joined flow part t k) (content_end flow part begin))) n

pub ends_more : (flow : Bool) (part t u : List ℕ) (begin stop e f k : ℕ) → stop ≡ begin + plain_len flow false part → (stop ≡ begin → ⊥) → u ≡ joined flow part t k → f ≡ content_end flow part begin → ends_on flow part begin t e k ≡ Stands u f
ends_more flow part t u begin stop e f k h z a b = by_length (plain_len flow false part) (omega (arith, h, z)) ∙ stands_same _ u _ f a b where
  by_length : (n : ℕ) → 0 < n → cond (nat_eq n 0) (Stands t e) (Stands (joined flow part t k) (content_end flow part begin)) ≡ Stands (joined flow part t k) (content_end flow part begin)
  by_length n l = let z : nat_eq n 0 ≡ false = grind (arith, nat_tests) in ap (λ q. cond q (Stands t e) (Stands (joined flow part t k) (content_end flow part begin))) z

-- behind a place is behind an earlier one
pub lies_before : (bytes : List ℕ) (a b : ℕ) (l : Option FurtherLine) → a ≤ b → LiesBehind bytes b l → LiesBehind bytes a l
lies_before bytes a b None h g = tt
lies_before bytes a b (Some l) h g = (omega (arith, h, g.0), g.1, g.2)

pub ends_same : (s : Setting) (bytes : List ℕ) (l : FurtherLine) (t : List ℕ) (e : ℕ) (next : Option FurtherLine) (u : List ℕ) (f : ℕ) → rest s bytes (Some l) t e ≡ ends_on s.flow (line_at (drop l.begin bytes)) l.begin t e l.blanks → ends_on s.flow (line_at (drop l.begin bytes)) l.begin t e l.blanks ≡ Stands u f → next ≡ None → rest s bytes (Some l) t e ≡ rest s bytes next u f
ends_same s bytes l t e next u f a b n = a ∙ b ∙ sym (ap (λ n. rest s bytes n u f) n)

-- two facts about the value of a call
pub on_ok_both : {T E : Type 0} (r : Result T E) (A B C : Type 0) → IfOk r (λ _. A) → IfOk r (λ _. B) → (A → B → C) → IfOk r (λ _. C)
on_ok_both (Ok x) A B C a b f = f a b
on_ok_both (Err e) A B C a b f = tt

pub not_true : (q : Bool) → not q ≡ true → q ≡ false
not_true false h = refl
not_true true h = absurd (cc)

pub not_false : (q : Bool) → not q ≡ false → q ≡ true
not_false true h = refl
not_false false h = absurd (cc)
