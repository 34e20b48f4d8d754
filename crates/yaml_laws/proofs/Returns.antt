-- A carriage return that is in no break stands in no scalar: a scalar that begins before it ends before it. By induction over lines.
use Rattle.std.proofs.Common.{◌≡◌, ℕ, zero, suc, ◌+◌, ◌-◌, ◌*◌, ◌≤◌, ◌⊎◌, inl, inr, Bool, true, false, ◌||◌, ◌&&◌, not, cond, nat_eq, nat_lt, arith, List, [], ◌∷◌, ◌++◌, Option, Some, None, take, drop, length, refl, sym, ap, ◌∙◌, subst, true≢false, length-drop, length-take}
use Rattle.std.specs.Prelude.{ℤ, encode_utf8}
use Rattle.std.proofs.lemmas.Bool.Decides.{nat_tests}
use Rattle.std.proofs.lemmas.List.{drop-drop}
use Rattle.yaml_scalars.specs.declared.escape.Wanted.{Wanted}
use Rattle.yaml_scalars.specs.declared.escape.Wanted.TheVariants.{Character, FirstUnit, SecondUnit}
use Rattle.yaml_scalars.specs.declared.scalar.Setting.{Setting}
use Rattle.yaml_scalars.specs.declared.plain_line.Why.{Why}
use Rattle.yaml_scalars.specs.declared.plain_line.Why.TheVariants.{Break, Return, Colon, Comment, Mark}
use Rattle.yaml_scalars.specs.declared.plain_line.Below.{Below}
use Rattle.yaml_scalars.specs.declared.plain_line.Below.TheVariants.{Blank, Outside, Further}
use Rattle.yaml_scalars.specs.Lines.{Line, Outcome, Stands, Fails, Documents, begins_with, begins_break, put, begun, lines, is_white, is_space, is_blank, lead, indent, past_white, is_mark, is_cut_mark}
use Rattle.yaml_scalars.specs.Plain.{above_of, is_flow_mark, is_unsafe, stops, plain_len, content, content_end, why, reason, content_at, inside, below, joined, ends_on, joins, further, first, more, begins_plain, wrong_begin, plain_on}
use Rattle.yaml_scalars.specs.Quoted.{Piece, Itself, Closes, Means, Joins, Returns, Wrong, Digits, Number, Short, is_hex, hex, is_high, may_go_on, digits, of_digits, of_low, of_pair, of_unit, letter, of_letter, escape, double, single, piece, Part, Closed, Open, Joined, Returned, Refused, add_piece, line_part, gap, behind_part, key_part, quoted_more, quoted_on}
use Rattle.yaml_scalars.specs.Block.{Chomp, Last, Header, Clip, Strip, Keep, with_sign, with_digit, is_digit, begins_digit, header, return_behind, header_fault, ending, count_break, content_more, blank_more, Inner, Nothing, Wide, Indented, inner_of, base_of, by_inner, by_digit, block_on}
use Rattle.yaml_scalars.specs.Scalar.{is_first_column, begins_quoted, begins_block, plain_scalar, quoted_scalar, block_scalar, scalar_at}
use Rattle.yaml_scalars.specs.code.Walk.{line_at, has_break, behind}
use Rattle.yaml_scalars.proofs.BlockScalars.{on_fault, on_none, on_lines}
use Rattle.yaml_scalars.proofs.BlockStates.{more_out, more_return}
use Rattle.yaml_scalars.proofs.FurtherLines.{plain_le, skip_le}
use Rattle.yaml_scalars.proofs.Places.{lines_are, lead_le}
use Rattle.yaml_laws.proofs.BlockLaw.{content_cases, head_of, block_cases}
use Rattle.yaml_laws.proofs.PlainFollowed.{trimmed_le}

-- ---- where it stands

-- behind so many bytes
abbrev pub IsReturn : ℕ → List ℕ → Type 0
IsReturn k xs = begins_with 13 (drop k xs) ≡ true

-- at a place, on one of the lines
abbrev pub HasReturn : ℕ → List Line → Type 0
HasReturn c [] = ⊥
HasReturn c (l ∷ ls) = ((k : ℕ) × (c ≡ l.at + k) × IsReturn k l.bytes) ⊎ ((l.at + length l.bytes ≤ c) × HasReturn c ls)

pub none_empty : (k : ℕ) → IsReturn k [] → ⊥
none_empty zero h = absurd (cc)
none_empty (suc k) h = absurd (cc)

is_byte : (b c : ℕ) → nat_eq b c ≡ true → b ≡ c
is_byte b c h = grind (arith, nat_tests, h)

pub further_return : (n k : ℕ) (xs : List ℕ) → n ≤ k → IsReturn k xs → IsReturn (k - n) (drop n xs)
further_return n k xs l h = let e : n + (k - n) ≡ k = omega (arith, l) in ap (begins_with 13) (drop-drop (k - n) n xs ∙ ap (λ j. drop j xs) e) ∙ h

begun_return : (at c : ℕ) (xs : List ℕ) → begins_with 10 xs ≡ true → at ≤ c → HasReturn c (lines (suc at) xs) → HasReturn c (begun at (lines (suc at) xs))
begun_return at c [] h l i = absurd (cc)
begun_return at c (x ∷ xs) h l i = by_feed (nat_eq x 10) (cond (nat_eq x 13 && begins_with 10 xs) (begun (suc at) (lines (suc (suc at)) xs)) (put (suc at) x (lines (suc (suc at)) xs))) h i where
  by_feed : (q : Bool) (ms : List Line) → q ≡ true → HasReturn c (cond q (record { at = suc at; bytes = []; broken = true } ∷ lines (suc (suc at)) xs) ms) → HasReturn c (begun at (cond q (record { at = suc at; bytes = []; broken = true } ∷ lines (suc (suc at)) xs) ms))
  by_feed true ms e (inl (k, p, r)) = absurd (none_empty k r)
  by_feed true ms e (inr (p, r)) = inr (omega (arith, l), r)
  by_feed false ms e r = absurd (cc)

put_return : (at c b : ℕ) (l : Line) (ls : List Line) → l.at ≡ suc at → HasReturn c (l ∷ ls) → HasReturn c (put at b (l ∷ ls))
put_return at c b l ls e (inl (k, p, r)) = inl (suc k, omega (arith, e, p), r)
put_return at c b l ls e (inr (p, r)) = inr (omega (arith, e, p), r)

pub has_return : (at : ℕ) (xs : List ℕ) (n : ℕ) → IsReturn n xs → begins_with 10 (drop (suc n) xs) ≡ false → HasReturn (at + n) (lines at xs)
has_return at [] n h f = absurd (none_empty n h)
has_return at (b ∷ xs) zero h f = subst (λ b. HasReturn (at + 0) (lines at (b ∷ xs))) (sym (is_byte b 13 h)) returned where
  returned : HasReturn (at + 0) (lines at (13 ∷ xs))
  returned =
      subst (λ q. HasReturn (at + 0) (cond q (begun at (lines (suc at) xs)) (put at 13 (lines (suc at) xs)))) (sym f)
      (subst (λ ls. HasReturn (at + 0) (put at 13 ls)) (sym (lines_are (suc at) xs)) (inl (0, refl, refl)))
has_return at (b ∷ xs) (suc n) h f = by_break (nat_eq b 10) (nat_eq b 13) (begins_with 10 xs) refl (subst (λ c. HasReturn c (lines (suc at) xs)) (let e : suc at + n ≡ at + suc n = omega arith in e) (has_return (suc at) xs n h f)) where
  by_break : (p q r : Bool) → begins_with 10 xs ≡ r → HasReturn (at + suc n) (lines (suc at) xs)
      → HasReturn (at + suc n) (cond p (record { at = at; bytes = []; broken = true } ∷ lines (suc at) xs) (cond (q && r) (begun at (lines (suc at) xs)) (put at b (lines (suc at) xs))))
  by_break true q r e i = inr (omega arith, i)
  by_break false true true e i = begun_return at (at + suc n) xs e (omega arith) i
  by_break false true false e i =
      let is = lines_are (suc at) xs in
      subst (λ ls. HasReturn (at + suc n) (put at b ls)) (sym is) (put_return at (at + suc n) b (record { at = suc at; bytes = line_at xs; broken = has_break xs }) (behind (suc at) xs) refl (subst (HasReturn (at + suc n)) is i))
  by_break false false r e i =
      let is = lines_are (suc at) xs in
      subst (λ ls. HasReturn (at + suc n) (put at b ls)) (sym is) (put_return at (at + suc n) b (record { at = suc at; bytes = line_at xs; broken = has_break xs }) (behind (suc at) xs) refl (subst (HasReturn (at + suc n)) is i))

-- a place on a line lies not before it
pub line_before : (c : ℕ) (l : Line) (ls : List Line) → HasReturn c (l ∷ ls) → l.at ≤ c
line_before c l ls (inl (k, p, r)) = omega (arith, p)
line_before c l ls (inr (p, r)) = omega (arith, p)

-- if the line has none, one below has it
pub past_line : (c : ℕ) (l : Line) (ls : List Line) → HasReturn c (l ∷ ls) → ((k : ℕ) → IsReturn k l.bytes → ⊥) → HasReturn c ls
past_line c l ls (inl (k, p, r)) none = absurd (none k r)
past_line c l ls (inr (p, r)) none = r

-- ---- bytes that are none

pub lead_short : (p : ℕ → Bool) (k : ℕ) (xs : List ℕ) → p 13 ≡ false → IsReturn k xs → lead p xs ≤ k
lead_short p k [] n h = absurd (none_empty k h)
lead_short p zero (b ∷ xs) n h = by_byte (p b) refl where
  by_byte : (q : Bool) → p b ≡ q → cond q (suc (lead p xs)) 0 ≤ 0
  by_byte true e = absurd (true≢false (sym e ∙ ap p (is_byte b 13 h) ∙ n))
  by_byte false e = omega arith
lead_short p (suc k) (b ∷ xs) n h = by_byte (p b) (lead_short p k xs n h) where
  by_byte : (q : Bool) → lead p xs ≤ k → cond q (suc (lead p xs)) 0 ≤ suc k
  by_byte true l = omega (arith, l)
  by_byte false l = omega arith

pub blank_none : (xs : List ℕ) (k : ℕ) → is_blank xs ≡ true → IsReturn k xs → ⊥
blank_none [] k b h = none_empty k h
blank_none (x ∷ xs) zero b h = by_byte (is_white x) (ap is_white (is_byte x 13 h)) b where
  by_byte : (q : Bool) → q ≡ false → cond q (is_blank xs) false ≡ true → ⊥
  by_byte true e g = true≢false e
  by_byte false e g = true≢false (sym g)
blank_none (x ∷ xs) (suc k) b h = by_byte (is_white x) b (λ g. blank_none xs k g h) where
  by_byte : (q : Bool) → cond q (is_blank xs) false ≡ true → (is_blank xs ≡ true → ⊥) → ⊥
  by_byte true g f = f g
  by_byte false g f = true≢false (sym g)

-- ---- plain scalars

stop_here : (flow white : Bool) (b : ℕ) (xs : List ℕ) → nat_eq b 13 ≡ true → stops flow white b xs ≡ true
stop_here flow white b xs h = last (nat_eq b 58 && is_unsafe flow xs) (nat_eq b 35 && white) (flow && is_flow_mark b) (nat_eq b 13) h where
  last : (p q r s : Bool) → s ≡ true → (p || q || r || s) ≡ true
  last true q r s e = refl
  last false true r s e = refl
  last false false true s e = refl
  last false false false s e = e

plain_short : (flow white : Bool) (k : ℕ) (xs : List ℕ) → IsReturn k xs → plain_len flow white xs ≤ k
plain_short flow white k [] h = absurd (none_empty k h)
plain_short flow white zero (b ∷ xs) h = let e = ap (λ q. cond q 0 (suc (plain_len flow (is_white b) xs))) (stop_here flow white b xs h) in omega (arith, e)
plain_short flow white (suc k) (b ∷ xs) h = by_stop (stops flow white b xs) (plain_short flow (is_white b) k xs h) where
  by_stop : (q : Bool) → plain_len flow (is_white b) xs ≤ k → cond q 0 (suc (plain_len flow (is_white b) xs)) ≤ suc k
  by_stop true l = omega arith
  by_stop false l = omega (arith, l)

not_break : (b : ℕ) (xs : List ℕ) → why (b ∷ xs) ≡ Break → ⊥
not_break b xs h = by_tests (nat_eq b 13) (nat_eq b 58) (nat_eq b 35) h where
  by_tests : (p q r : Bool) → cond p Return (cond q Colon (cond r Comment Mark)) ≡ Break → ⊥
  by_tests true q r e = absurd (cc)
  by_tests false true r e = absurd (cc)
  by_tests false false true e = absurd (cc)
  by_tests false false false e = absurd (cc)

no_break : (flow white : Bool) (k : ℕ) (xs : List ℕ) → IsReturn k xs → why (drop (plain_len flow white xs) xs) ≡ Break → ⊥
no_break flow white k [] h e = none_empty k h
no_break flow white zero (b ∷ xs) h e = not_break b xs (sym (ap (λ q. why (drop (cond q 0 (suc (plain_len flow (is_white b) xs))) (b ∷ xs))) (stop_here flow white b xs h)) ∙ e)
no_break flow white (suc k) (b ∷ xs) h e = by_stop (stops flow white b xs) e (λ g. no_break flow (is_white b) k xs h g) where
  by_stop : (q : Bool) → why (drop (cond q 0 (suc (plain_len flow (is_white b) xs))) (b ∷ xs)) ≡ Break → (why (drop (plain_len flow (is_white b) xs) xs) ≡ Break → ⊥) → ⊥
  by_stop true g f = not_break b xs g
  by_stop false g f = f g

content_near : (flow : Bool) (part : List ℕ) (at k : ℕ) → IsReturn k part → content_end flow part at ≤ at + k
content_near flow part at k h = let a = trimmed_le (take (plain_len flow false part) part) in let b = plain_short flow false k part h in omega (arith, a, b, length-take (plain_len flow false part) part)

pub content_far : (flow : Bool) (part : List ℕ) (at : ℕ) → content_end flow part at ≤ at + length part
content_far flow part at = let a = trimmed_le (take (plain_len flow false part) part) in let b = plain_le flow false part in omega (arith, a, b, length-take (plain_len flow false part) part)

-- the content of a further line stands behind white space
chosen : (b : Bool) (x y z : Below) → cond b x y ≡ z → (x ≡ z) ⊎ (y ≡ z)
chosen true x y z h = inl h
chosen false x y z h = inr h

skip_is : (m n : ℕ) (xs : List ℕ) → content_at m xs ≡ Further n → n ≡ m
skip_is m n xs h = elim (chosen (begins_with 35 xs) Outside (Further m) (Further n) h) [ inl k ↦ absurd (cc) | inr k ↦ cc ]

skip_short : (s : Setting) (xs : List ℕ) (n k : ℕ) → below s xs ≡ Further n → IsReturn k xs → n ≤ k
skip_short s xs n k h r =
    elim (chosen (is_blank xs) Blank (cond (is_mark xs) Outside (inside s xs)) (Further n) h) [
      | inl i ↦ absurd (cc)
      | inr i ↦ elim (chosen (is_mark xs) Outside (inside s xs) (Further n) i) [
        | inl j ↦ absurd (cc)
        | inr j ↦ elim (chosen s.flow (content_at (lead is_white xs) (past_white xs)) (cond (nat_lt (indent xs) (above_of s.parent) || begins_with 9 (drop (indent xs) xs)) Outside (content_at (indent xs) (drop (indent xs) xs))) (Further n) j) [
          | inl u ↦ (let e = skip_is (lead is_white xs) n (past_white xs) u in let l = lead_short is_white k xs refl r in omega (arith, e, l))
          | inr u ↦ elim (chosen (nat_lt (indent xs) (above_of s.parent) || begins_with 9 (drop (indent xs) xs)) Outside (content_at (indent xs) (drop (indent xs) xs)) (Further n) u) [
            | inl g ↦ absurd (cc)
            | inr g ↦ (let e = skip_is (indent xs) n (drop (indent xs) xs) g in let l = lead_short is_space k xs refl r in omega (arith, e, l))
          ]
        ]
      ]
    ]

-- a scalar that stands ends not behind a place
abbrev pub EndsBy : ℕ → Outcome → Type 0
EndsBy c (Stands t e) = e ≤ c
EndsBy c (Fails p) = Unit {0}
EndsBy c (Documents p) = Unit {0}

module _ (c : ℕ) where
  on_by : (flow : Bool) (part t : List ℕ) (at e k : ℕ) → e ≤ c → content_end flow part at ≤ c → EndsBy c (ends_on flow part at t e k)
  on_by flow part t at e k l m = by_length (nat_eq (plain_len flow false part) 0) where
    by_length : (q : Bool) → EndsBy c (cond q (Stands t e) (Stands (joined flow part t k) (content_end flow part at)))
    by_length true = l
    by_length false = m

  joins_by : (flow : Bool) (w : Why) (part t : List ℕ) (at e k : ℕ) (next : List ℕ → ℕ → ℕ → Outcome) → e ≤ c → content_end flow part at ≤ c → (w ≡ Break → (x : List ℕ) (y : ℕ) → y ≤ c → EndsBy c (next x y 0)) → EndsBy c (joins flow w part at t e k next)
  joins_by flow Break part t at e k next l m n = n refl (joined flow part t k) (content_end flow part at) m
  joins_by flow Return part t at e k next l m n = tt
  joins_by true Colon part t at e k next l m n = on_by true part t at e k l m
  joins_by false Colon part t at e k next l m n = tt
  joins_by flow Comment part t at e k next l m n = m
  joins_by flow Mark part t at e k next l m n = on_by flow part t at e k l m

  -- what a line adds from a place on
  part_near : (flow : Bool) (n : ℕ) (l : Line) (ls : List Line) → n ≤ length l.bytes → ((k : ℕ) → IsReturn k l.bytes → n ≤ k) → HasReturn c (l ∷ ls) → content_end flow (drop n l.bytes) (l.at + n) ≤ c
  part_near flow n l ls m f (inl (k, p, r)) = let o = f k r in let z = content_near flow (drop n l.bytes) (l.at + n) (k - n) (further_return n k l.bytes o r) in omega (arith, z, o, p)
  part_near flow n l ls m f (inr (p, r)) = let z = content_far flow (drop n l.bytes) (l.at + n) in omega (arith, z, m, p, length-drop n l.bytes)

  part_breaks : (flow : Bool) (n : ℕ) (l : Line) → ((k : ℕ) → IsReturn k l.bytes → n ≤ k) → reason flow (drop n l.bytes) ≡ Break → (k : ℕ) → IsReturn k l.bytes → ⊥
  part_breaks flow n l f w k r = no_break flow false (k - n) (drop n l.bytes) (further_return n k l.bytes (f k r) r) w

  more_by : (s : Setting) (ls : List Line) (t : List ℕ) (e k : ℕ) → HasReturn c ls → e ≤ c → EndsBy c (more s ls t e k)
  more_by s [] t e k h l = absurd h
  more_by s (l ∷ ls) t e k h m = by_below (below s l.bytes) refl (λ x y z r o. more_by s ls x y z r o) where
    by_below : (b : Below) → below s l.bytes ≡ b → ((x : List ℕ) (y z : ℕ) → HasReturn c ls → y ≤ c → EndsBy c (more s ls x y z)) → EndsBy c (further s b l.at l.bytes t e k (more s ls))
    by_below Blank i r = r t e (suc k) (past_line c l ls h (λ j g. below_blank j g)) m where
      is_blank_line : (b q : Bool) (o : Below) → cond b Blank (cond q Outside o) ≡ Blank → (o ≡ Blank → ⊥) → b ≡ true
      is_blank_line true q o g n = refl
      is_blank_line false true o g n = absurd (cc)
      is_blank_line false false o g n = absurd (n g)

      content_not : (n : ℕ) (xs : List ℕ) → content_at n xs ≡ Blank → ⊥
      content_not n xs g = by_comment (begins_with 35 xs) g where
        by_comment : (q : Bool) → cond q Outside (Further n) ≡ Blank → ⊥
        by_comment true z = absurd (cc)
        by_comment false z = absurd (cc)

      inside_not : inside s l.bytes ≡ Blank → ⊥
      inside_not g = by_flow s.flow (nat_lt (indent l.bytes) (above_of s.parent) || begins_with 9 (drop (indent l.bytes) l.bytes)) g where
        by_flow : (p q : Bool) → cond p (content_at (lead is_white l.bytes) (past_white l.bytes)) (cond q Outside (content_at (indent l.bytes) (drop (indent l.bytes) l.bytes))) ≡ Blank → ⊥
        by_flow true q z = content_not (lead is_white l.bytes) (past_white l.bytes) z
        by_flow false true z = absurd (cc)
        by_flow false false z = content_not (indent l.bytes) (drop (indent l.bytes) l.bytes) z

      below_blank : (j : ℕ) → IsReturn j l.bytes → ⊥
      below_blank j g = blank_none l.bytes j (is_blank_line (is_blank l.bytes) (is_mark l.bytes) (inside s l.bytes) i inside_not) g
    by_below Outside i r = m
    by_below (Further n) i r =
        joins_by s.flow (reason s.flow (drop n l.bytes)) (drop n l.bytes) t (l.at + n) e k (more s ls) m (part_near s.flow n l ls (skip_le s l.bytes n i) (λ j g. skip_short s l.bytes n j i g) h)
        (λ w x y o. r x y 0 (past_line c l ls h (part_breaks s.flow n l (λ j g. skip_short s l.bytes n j i g) w)) o)

  first_by : (s : Setting) (w : Why) (l : Line) (ls : List Line) → reason s.flow l.bytes ≡ w → content_end s.flow l.bytes l.at ≤ c → (w ≡ Break → HasReturn c ls) → EndsBy c (first s w l.at l.bytes ls)
  first_by s Break l ls i m n = by_one s.one_line where
    by_one : (q : Bool) → EndsBy c (cond q (Stands (content s.flow l.bytes) (content_end s.flow l.bytes l.at)) (more s ls (content s.flow l.bytes) (content_end s.flow l.bytes l.at) 0))
    by_one true = m
    by_one false = more_by s ls (content s.flow l.bytes) (content_end s.flow l.bytes l.at) 0 (n refl) m
  first_by s Return l ls i m n = tt
  first_by s Colon l ls i m n = m
  first_by s Comment l ls i m n = m
  first_by s Mark l ls i m n = m

  whole_near : (flow : Bool) (l : Line) (ls : List Line) → HasReturn c (l ∷ ls) → content_end flow l.bytes l.at ≤ c
  whole_near flow l ls (inl (k, p, r)) = let z = content_near flow l.bytes l.at k r in omega (arith, z, p)
  whole_near flow l ls (inr (p, r)) = let z = content_far flow l.bytes l.at in omega (arith, z, p)

  plain_by : (s : Setting) (fresh : Bool) (ls : List Line) → HasReturn c ls → EndsBy c (plain_on s fresh ls)
  plain_by s fresh [] h = absurd h
  plain_by s fresh (l ∷ ls) h = by_tests (fresh && (is_mark l.bytes || is_cut_mark l.bytes)) (begins_plain s.flow l.bytes) where
    by_tests : (p q : Bool) → EndsBy c (cond p (Fails (l.at + 3)) (cond q (first s (reason s.flow l.bytes) l.at l.bytes ls) (Fails (wrong_begin l.at l.bytes))))
    by_tests true q = tt
    by_tests false true = first_by s (reason s.flow l.bytes) l ls refl (whole_near s.flow l ls h) (λ w. past_line c l ls h (λ k r. no_break s.flow false k l.bytes r w))
    by_tests false false = tt

-- ---- quoted scalars

-- a piece takes none of those among the bytes behind it
abbrev pub Misses : ℕ → List ℕ → Piece → Type 0
Misses n xs Itself = Unit {0}
Misses n xs Closes = Unit {0}
Misses n xs (Means taken t) = (k : ℕ) → IsReturn k xs → taken ≤ n + k
Misses n xs Joins = (k : ℕ) → IsReturn k xs → ⊥
Misses n xs (Returns m) = Unit {0}
Misses n xs (Wrong m) = Unit {0}

either : (n : ℕ) (xs : List ℕ) (q : Bool) (p r : Piece) → (q ≡ true → Misses n xs p) → (q ≡ false → Misses n xs r) → Misses n xs (cond q p r)
either n xs true p r f g = f refl
either n xs false p r f g = g refl

other_byte : (b c : ℕ) → nat_eq b c ≡ true → nat_eq c 13 ≡ false → nat_eq b 13 ≡ true → ⊥
other_byte b c h n r = true≢false (sym r ∙ ap (λ k. nat_eq k 13) (is_byte b c h) ∙ n)

digits_miss : (w : Wanted) (m n c v : ℕ) (xs : List ℕ) → digits w m n c xs ≡ Number v → (k : ℕ) → IsReturn k xs → m ≤ k
digits_miss w zero n c v xs h k r = omega arith
digits_miss w (suc m) n c v [] h k r = absurd (none_empty k r)
digits_miss w (suc m) n c v (x ∷ xs) h zero r = absurd (by_digit (is_hex x) (may_go_on w m (n * 16 + hex x)) (ap is_hex (is_byte x 13 r)) h) where
  by_digit : (p q : Bool) → p ≡ false → cond (p && q) (digits w m (n * 16 + hex x) (suc c) xs) (Short c) ≡ Number v → ⊥
  by_digit true q e g = true≢false e
  by_digit false q e g = absurd (cc)
digits_miss w (suc m) n c v (x ∷ xs) h (suc k) r = by_digit (is_hex x && may_go_on w m (n * 16 + hex x)) h (λ g. digits_miss w m (n * 16 + hex x) (suc c) v xs g k r) where
  by_digit : (q : Bool) → cond q (digits w m (n * 16 + hex x) (suc c) xs) (Short c) ≡ Number v → (digits w m (n * 16 + hex x) (suc c) xs ≡ Number v → m ≤ k) → suc m ≤ suc k
  by_digit true g f = let l = f g in omega (arith, l)
  by_digit false g f = absurd (cc)

of_digits_miss : (n taken m c : ℕ) (w : Wanted) (xs : List ℕ) (d : Digits) → digits w m 0 c xs ≡ d → taken ≤ n + m → Misses n xs (of_digits taken d)
of_digits_miss n taken m c w xs (Number v) e l = λ k r. let z = digits_miss w m 0 c v xs e k r in omega (arith, z, l)
of_digits_miss n taken m c w xs (Short j) e l = tt

of_low_miss : (n high : ℕ) (xs : List ℕ) (d : Digits) → digits SecondUnit 4 0 7 xs ≡ d → 7 ≤ n → Misses n xs (of_low high d)
of_low_miss n high xs (Number v) e l = λ k r. let z = digits_miss SecondUnit 4 0 7 v xs e k r in omega (arith, z, l)
of_low_miss n high xs (Short j) e l = tt

-- with one more byte in front, which is none
one_more : (n b : ℕ) (xs : List ℕ) (p : Piece) → nat_eq b 13 ≡ false → (p ≡ Joins → ⊥) → Misses (suc n) xs p → Misses n (b ∷ xs) p
one_more n b xs Itself e j h = tt
one_more n b xs Closes e j h = tt
one_more n b xs (Means taken t) e j h = by_place where
  by_place : (k : ℕ) → IsReturn k (b ∷ xs) → taken ≤ n + k
  by_place zero r = absurd (true≢false (sym r ∙ e))
  by_place (suc k) r = let z = h k r in omega (arith, z)
one_more n b xs Joins e j h = absurd (j refl)
one_more n b xs (Returns m) e j h = tt
one_more n b xs (Wrong m) e j h = tt

joins_not_low : (high : ℕ) (d : Digits) → of_low high d ≡ Joins → ⊥
joins_not_low high (Number v) e = absurd (cc)
joins_not_low high (Short j) e = absurd (cc)

joins_not_digits : (taken : ℕ) (d : Digits) → of_digits taken d ≡ Joins → ⊥
joins_not_digits taken (Number v) e = absurd (cc)
joins_not_digits taken (Short j) e = absurd (cc)

joins_cond : (q : Bool) (p r : Piece) → (p ≡ Joins → ⊥) → (r ≡ Joins → ⊥) → cond q p r ≡ Joins → ⊥
joins_cond true p r f g e = f e
joins_cond false p r f g e = g e

joins_wrong : (n : ℕ) → Wrong n ≡ Joins → ⊥
joins_wrong n e = absurd (cc)

pair_miss : (high : ℕ) (ys : List ℕ) → Misses 5 ys (of_pair high ys)
pair_miss high [] = tt
pair_miss high (v ∷ []) = either 5 (v ∷ []) (nat_eq v 92) (Wrong 7) (Wrong 6) (λ e. tt) (λ e. tt)
pair_miss high (v ∷ w ∷ xs) =
    let d = digits SecondUnit 4 0 7 xs in
    either 5 (v ∷ w ∷ xs) (nat_eq v 92) (cond (nat_eq w 117) (of_low high d) (Wrong 7)) (Wrong 6)
    (λ e. either 5 (v ∷ w ∷ xs) (nat_eq w 117) (of_low high d) (Wrong 7)
    (λ g. one_more 5 v (w ∷ xs) (of_low high d) (ap (λ k. nat_eq k 13) (is_byte v 92 e)) (joins_not_low high d) (one_more 6 w xs (of_low high d) (ap (λ k. nat_eq k 13) (is_byte w 117 g)) (joins_not_low high d) (of_low_miss 7 high xs d refl (omega arith))))
    (λ g. tt)) (λ e. tt)

joins_not_pair : (high : ℕ) (ys : List ℕ) → of_pair high ys ≡ Joins → ⊥
joins_not_pair high [] e = joins_wrong 6 e
joins_not_pair high (v ∷ []) e = joins_cond (nat_eq v 92) (Wrong 7) (Wrong 6) (joins_wrong 7) (joins_wrong 6) e
joins_not_pair high (v ∷ w ∷ xs) e =
    joins_cond (nat_eq v 92) (cond (nat_eq w 117) (of_low high (digits SecondUnit 4 0 7 xs)) (Wrong 7)) (Wrong 6)
    (joins_cond (nat_eq w 117) (of_low high (digits SecondUnit 4 0 7 xs)) (Wrong 7) (joins_not_low high (digits SecondUnit 4 0 7 xs)) (joins_wrong 7)) (joins_wrong 6) e

-- behind the four digits of a first unit
pair_moved : (xs : List ℕ) (p : Piece) → (p ≡ Joins → ⊥) → ((k : ℕ) → IsReturn k xs → 4 ≤ k) → Misses 5 (drop 4 xs) p → Misses 1 xs p
pair_moved xs Itself j f h = tt
pair_moved xs Closes j f h = tt
pair_moved xs (Means taken t) j f h = λ k r. let o = f k r in let z = h (k - 4) (further_return 4 k xs o r) in omega (arith, z, o)
pair_moved xs Joins j f h = absurd (j refl)
pair_moved xs (Returns m) j f h = tt
pair_moved xs (Wrong m) j f h = tt

unit_miss : (xs : List ℕ) (d : Digits) → digits FirstUnit 4 0 1 xs ≡ d → Misses 1 xs (of_unit d (drop 4 xs))
unit_miss xs (Number n) e =
    either 1 xs (is_high n) (of_pair n (drop 4 xs)) (Means 5 (encode_utf8 n)) (λ g. pair_moved xs (of_pair n (drop 4 xs)) (joins_not_pair n (drop 4 xs)) (digits_miss FirstUnit 4 0 1 n xs e) (pair_miss n (drop 4 xs)))
    (λ g k r. let z = digits_miss FirstUnit 4 0 1 n xs e k r in omega (arith, z))
unit_miss xs (Short j) e = tt

joins_not_unit : (d : Digits) (ys : List ℕ) → of_unit d ys ≡ Joins → ⊥
joins_not_unit (Number n) ys e = joins_cond (is_high n) (of_pair n ys) (Means 5 (encode_utf8 n)) (joins_not_pair n ys) (λ g. absurd (cc)) e
joins_not_unit (Short j) ys e = joins_wrong (suc j) e

letter_miss : (xs : List ℕ) (o : Option ℕ) → Misses 1 xs (of_letter o)
letter_miss xs (Some n) = λ k r. omega arith
letter_miss xs None = tt

joins_not_letter : (o : Option ℕ) → of_letter o ≡ Joins → ⊥
joins_not_letter (Some n) e = absurd (cc)
joins_not_letter None e = joins_wrong 1 e

escape_miss : (xs : List ℕ) → Misses 0 xs (escape xs)
escape_miss [] = λ k r. none_empty k r
escape_miss (b ∷ xs) =
    let others = of_letter (letter b) in
    let eight = of_digits 9 (digits Character 8 0 1 xs) in
    let unit = of_unit (digits FirstUnit 4 0 1 xs) (drop 4 xs) in
    let two = of_digits 3 (digits Character 2 0 1 xs) in
    either 0 (b ∷ xs) (nat_eq b 13) (Returns 1) (cond (nat_eq b 120) two (cond (nat_eq b 117) unit (cond (nat_eq b 85) eight others))) (λ e. tt)
    (λ n. either 0 (b ∷ xs) (nat_eq b 120) two (cond (nat_eq b 117) unit (cond (nat_eq b 85) eight others)) (λ e. one_more 0 b xs two n (joins_not_digits 3 (digits Character 2 0 1 xs)) (of_digits_miss 1 3 2 1 Character xs (digits Character 2 0 1 xs) refl (omega arith)))
    (λ e. either 0 (b ∷ xs) (nat_eq b 117) unit (cond (nat_eq b 85) eight others) (λ g. one_more 0 b xs unit n (joins_not_unit (digits FirstUnit 4 0 1 xs) (drop 4 xs)) (unit_miss xs (digits FirstUnit 4 0 1 xs) refl))
    (λ g. either 0 (b ∷ xs) (nat_eq b 85) eight others (λ i. one_more 0 b xs eight n (joins_not_digits 9 (digits Character 8 0 1 xs)) (of_digits_miss 1 9 8 1 Character xs (digits Character 8 0 1 xs) refl (omega arith)))
    (λ i. one_more 0 b xs others n (joins_not_letter (letter b)) (letter_miss xs (letter b))))))

quotes_miss : (xs : List ℕ) → Misses 0 xs (cond (begins_with 39 xs) (Means 1 (39 ∷ [])) Closes)
quotes_miss [] = tt
quotes_miss (x ∷ xs) = either 0 (x ∷ xs) (nat_eq x 39) (Means 1 (39 ∷ [])) Closes (λ e. one_more 0 x xs (Means 1 (39 ∷ [])) (ap (λ k. nat_eq k 13) (is_byte x 39 e)) (λ g. absurd (cc)) (λ k r. omega arith)) (λ e. tt)

piece_miss : (quote b : ℕ) (xs : List ℕ) → Misses 0 xs (piece quote b xs)
piece_miss quote b xs =
    let quotes = cond (begins_with 39 xs) (Means 1 (39 ∷ [])) Closes in
    either 0 xs (nat_eq b 13) (Returns 0) (cond (nat_eq quote 34) (double b xs) (single b xs)) (λ e. tt)
    (λ n. either 0 xs (nat_eq quote 34) (double b xs) (single b xs)
    (λ e. either 0 xs (nat_eq b 34) Closes (cond (nat_eq b 92) (escape xs) Itself) (λ g. tt) (λ g. either 0 xs (nat_eq b 92) (escape xs) Itself (λ i. escape_miss xs) (λ i. tt)))
    (λ e. either 0 xs (nat_eq b 39) quotes Itself (λ g. quotes_miss xs) (λ g. tt)))

-- what a line with a carriage return adds ends before it, or does not go on
abbrev pub PartBy : ℕ → Part → Type 0
PartBy c (Closed t e) = e ≤ c
PartBy c (Open t) = ⊥
PartBy c (Joined t) = ⊥
PartBy c (Returned p) = Unit {0}
PartBy c (Refused p) = Unit {0}

part_by : (quote at skip : ℕ) (t : List ℕ) (kept : ℕ) (xs : List ℕ) (k : ℕ) → skip ≤ k → IsReturn k xs → PartBy (at + k) (line_part quote at skip t kept xs)
part_by quote at skip t kept [] k l r = absurd (none_empty k r)
part_by quote at (suc n) t kept (b ∷ xs) zero l r = absurd (omega (arith, l))
part_by quote at (suc n) t kept (b ∷ xs) (suc k) l r = let e : suc at + k ≡ at + suc k = omega arith in subst (λ c. PartBy c (line_part quote (suc at) n t kept xs)) e (part_by quote (suc at) n t kept xs k (omega (arith, l)) r)
part_by quote at zero t kept (b ∷ xs) zero l r = by_return (nat_eq b 13) r where
  by_return : (q : Bool) → q ≡ true → PartBy (at + 0) (add_piece (cond q (Returns 0) (cond (nat_eq quote 34) (double b xs) (single b xs))) b at t kept (λ n u j. line_part quote (suc at) n u j xs))
  by_return true e = tt
  by_return false e = absurd (true≢false (sym e))
part_by quote at zero t kept (b ∷ xs) (suc k) l r = by_piece (piece quote b xs) (piece_miss quote b xs) (λ n u j o. let e : suc at + k ≡ at + suc k = omega arith in subst (λ c. PartBy c (line_part quote (suc at) n u j xs)) e (part_by quote (suc at) n u j xs k o r)) where
  Next : Type 0
  Next = (n : ℕ) (u : List ℕ) (j : ℕ) → n ≤ k → PartBy (at + suc k) (line_part quote (suc at) n u j xs)

  by_white : (q : Bool) → ((n : ℕ) (u : List ℕ) (j : ℕ) → n ≤ k → PartBy (at + suc k) (line_part quote (suc at) n u j xs))
      → PartBy (at + suc k) (cond q (line_part quote (suc at) 0 (t ++ (b ∷ [])) kept xs) (line_part quote (suc at) 0 (t ++ (b ∷ [])) (suc (length t)) xs))
  by_white true i = i 0 (t ++ (b ∷ [])) kept (omega arith)
  by_white false i = i 0 (t ++ (b ∷ [])) (suc (length t)) (omega arith)

  by_piece : (p : Piece) → Misses 0 xs p → ((n : ℕ) (u : List ℕ) (j : ℕ) → n ≤ k → PartBy (at + suc k) (line_part quote (suc at) n u j xs)) → PartBy (at + suc k) (add_piece p b at t kept (λ n u j. line_part quote (suc at) n u j xs))
  by_piece Itself m i = by_white (is_white b) i
  by_piece Closes m i = omega arith
  by_piece (Means taken u) m i = i taken (t ++ u) (length (t ++ u)) (let z = m k r in omega (arith, z))
  by_piece Joins m i = absurd (m k r)
  by_piece (Returns n) m i = tt
  by_piece (Wrong n) m i = tt

-- and what a line adds ends on it
abbrev pub PartWithin : ℕ → Part → Type 0
PartWithin c (Closed t e) = e ≤ c
PartWithin c (Open t) = Unit {0}
PartWithin c (Joined t) = Unit {0}
PartWithin c (Returned p) = Unit {0}
PartWithin c (Refused p) = Unit {0}

pub part_within : (quote at skip : ℕ) (t : List ℕ) (kept : ℕ) (xs : List ℕ) → PartWithin (at + length xs) (line_part quote at skip t kept xs)
part_within quote at skip t kept [] = tt
part_within quote at (suc n) t kept (b ∷ xs) = let e : suc at + length xs ≡ at + suc (length xs) = omega arith in subst (λ c. PartWithin c (line_part quote (suc at) n t kept xs)) e (part_within quote (suc at) n t kept xs)
part_within quote at zero t kept (b ∷ xs) = by_piece (piece quote b xs) (λ n u j. let e : suc at + length xs ≡ at + suc (length xs) = omega arith in subst (λ c. PartWithin c (line_part quote (suc at) n u j xs)) e (part_within quote (suc at) n u j xs)) where
  by_white : (q : Bool) → ((n : ℕ) (u : List ℕ) (j : ℕ) → PartWithin (at + suc (length xs)) (line_part quote (suc at) n u j xs))
      → PartWithin (at + suc (length xs)) (cond q (line_part quote (suc at) 0 (t ++ (b ∷ [])) kept xs) (line_part quote (suc at) 0 (t ++ (b ∷ [])) (suc (length t)) xs))
  by_white true i = i 0 (t ++ (b ∷ [])) kept
  by_white false i = i 0 (t ++ (b ∷ [])) (suc (length t))

  by_piece : (p : Piece) → ((n : ℕ) (u : List ℕ) (j : ℕ) → PartWithin (at + suc (length xs)) (line_part quote (suc at) n u j xs)) → PartWithin (at + suc (length xs)) (add_piece p b at t kept (λ n u j. line_part quote (suc at) n u j xs))
  by_piece Itself i = by_white (is_white b) i
  by_piece Closes i = omega arith
  by_piece (Means taken u) i = i taken (t ++ u) (length (t ++ u))
  by_piece Joins i = tt
  by_piece (Returns n) i = tt
  by_piece (Wrong n) i = tt

module _ (c : ℕ) where
  behind_by : (p : Part) (next : Bool → List ℕ → Outcome) → PartBy c p → EndsBy c (behind_part p next)
  behind_by (Closed t e) next h = h
  behind_by (Open t) next h = absurd h
  behind_by (Joined t) next h = absurd h
  behind_by (Returned p) next h = tt
  behind_by (Refused p) next h = tt

  behind_within : (p : Part) (next : Bool → List ℕ → Outcome) (most : ℕ) → most ≤ c → PartWithin most p → ((j : Bool) (t : List ℕ) → EndsBy c (next j t)) → EndsBy c (behind_part p next)
  behind_within (Closed t e) next most l h f = omega (arith, l, h)
  behind_within (Open t) next most l h f = f false t
  behind_within (Joined t) next most l h f = f true t
  behind_within (Returned p) next most l h f = tt
  behind_within (Refused p) next most l h f = tt

  key_by : (p : Part) (over : ℕ) → PartBy c p → EndsBy c (key_part p over)
  key_by (Closed t e) over h = h
  key_by (Open t) over h = tt
  key_by (Joined t) over h = tt
  key_by (Returned p) over h = tt
  key_by (Refused p) over h = tt

  key_within : (p : Part) (over most : ℕ) → most ≤ c → PartWithin most p → EndsBy c (key_part p over)
  key_within (Closed t e) over most l h = omega (arith, l, h)
  key_within (Open t) over most l h = tt
  key_within (Joined t) over most l h = tt
  key_within (Returned p) over most l h = tt
  key_within (Refused p) over most l h = tt

  quoted_more_by : (quote size : ℕ) (ls : List Line) (t : List ℕ) (j : Bool) (k : ℕ) → HasReturn c ls → EndsBy c (quoted_more quote size ls t j k)
  quoted_more_by quote size [] t j k h = absurd h
  quoted_more_by quote size (l ∷ ls) t j k h = by_tests (is_mark l.bytes && (l.broken || nat_lt 3 (length l.bytes))) (is_cut_mark l.bytes) (is_blank l.bytes) refl h (λ u i n g. quoted_more_by quote size ls u i n g) where
    n : ℕ
    n = lead is_white l.bytes

    by_tests : (p q r : Bool) → is_blank l.bytes ≡ r → HasReturn c (l ∷ ls) → ((u : List ℕ) (i : Bool) (n : ℕ) → HasReturn c ls → EndsBy c (quoted_more quote size ls u i n))
        → EndsBy c (cond p (Documents l.at) (cond q (Fails (l.at + 3)) (cond r (quoted_more quote size ls t j (suc k)) (behind_part (line_part quote (l.at + lead is_white l.bytes) 0 (t ++ gap j k) (length (t ++ gap j k)) (past_white l.bytes)) (λ i u. quoted_more quote size ls u i 0)))))
    by_tests true q r e h f = tt
    by_tests false true r e h f = tt
    by_tests false false true e h f = f t j (suc k) (past_line c l ls h (λ i g. blank_none l.bytes i e g))
    by_tests false false false e (inl (i, p, g)) f =
        let o = lead_short is_white i l.bytes refl g in
        let z : l.at + lead is_white l.bytes + (i - lead is_white l.bytes) ≡ c = omega (arith, p, o) in
        behind_by (line_part quote (l.at + lead is_white l.bytes) 0 (t ++ gap j k) (length (t ++ gap j k)) (past_white l.bytes)) (λ i u. quoted_more quote size ls u i 0)
        (subst (λ m. PartBy m (line_part quote (l.at + lead is_white l.bytes) 0 (t ++ gap j k) (length (t ++ gap j k)) (past_white l.bytes))) z (part_by quote (l.at + lead is_white l.bytes) 0 (t ++ gap j k) (length (t ++ gap j k)) (past_white l.bytes) (i - lead is_white l.bytes) (omega arith) (further_return (lead is_white l.bytes) i l.bytes o g)))
    by_tests false false false e (inr (p, g)) f =
        let o = lead_le is_white l.bytes in
        behind_within (line_part quote (l.at + lead is_white l.bytes) 0 (t ++ gap j k) (length (t ++ gap j k)) (past_white l.bytes)) (λ i u. quoted_more quote size ls u i 0) (l.at + lead is_white l.bytes + length (past_white l.bytes)) (omega (arith, p, o, length-drop (lead is_white l.bytes) l.bytes))
        (part_within quote (l.at + lead is_white l.bytes) 0 (t ++ gap j k) (length (t ++ gap j k)) (past_white l.bytes)) (λ i u. f u i 0 g)

  -- the first byte is the quotation mark
  quoted_by : (one : Bool) (size at b : ℕ) (f : List ℕ) (r : Bool) (ls : List Line) → nat_eq b 13 ≡ false → HasReturn c (record { at = at; bytes = b ∷ f; broken = r } ∷ ls) → EndsBy c (quoted_on one size (record { at = at; bytes = b ∷ f; broken = r } ∷ ls))
  quoted_by one size at b f r ls n (inl (zero, p, g)) = absurd (true≢false (sym g ∙ n))
  quoted_by one size at b f r ls n (inl (suc k, p, g)) = by_one one where
    quote : ℕ
    quote = cond (nat_eq b 34) 34 39

    z : suc at + k ≡ c
    z = omega (arith, p)

    ends : PartBy c (line_part (cond (nat_eq b 34) 34 39) (suc at) 0 [] 0 f)
    ends = subst (λ m. PartBy m (line_part (cond (nat_eq b 34) 34 39) (suc at) 0 [] 0 f)) z (part_by (cond (nat_eq b 34) 34 39) (suc at) 0 [] 0 f k (omega arith) g)

    by_one : (q : Bool) → EndsBy c (cond q (key_part (line_part (cond (nat_eq b 34) 34 39) (suc at) 0 [] 0 f) (at + suc (length f))) (behind_part (line_part (cond (nat_eq b 34) 34 39) (suc at) 0 [] 0 f) (λ j t. quoted_more (cond (nat_eq b 34) 34 39) size ls t j 0)))
    by_one true = key_by (line_part (cond (nat_eq b 34) 34 39) (suc at) 0 [] 0 f) (at + suc (length f)) ends
    by_one false = behind_by (line_part (cond (nat_eq b 34) 34 39) (suc at) 0 [] 0 f) (λ j t. quoted_more (cond (nat_eq b 34) 34 39) size ls t j 0) ends
  quoted_by one size at b f r ls n (inr (p, g)) = by_one one where
    ends : PartWithin (suc at + length f) (line_part (cond (nat_eq b 34) 34 39) (suc at) 0 [] 0 f)
    ends = part_within (cond (nat_eq b 34) 34 39) (suc at) 0 [] 0 f

    by_one : (q : Bool) → EndsBy c (cond q (key_part (line_part (cond (nat_eq b 34) 34 39) (suc at) 0 [] 0 f) (at + suc (length f))) (behind_part (line_part (cond (nat_eq b 34) 34 39) (suc at) 0 [] 0 f) (λ j t. quoted_more (cond (nat_eq b 34) 34 39) size ls t j 0)))
    by_one true = key_within (line_part (cond (nat_eq b 34) 34 39) (suc at) 0 [] 0 f) (at + suc (length f)) (suc at + length f) (omega (arith, p)) ends
    by_one false = behind_within (line_part (cond (nat_eq b 34) 34 39) (suc at) 0 [] 0 f) (λ j t. quoted_more (cond (nat_eq b 34) 34 39) size ls t j 0) (suc at + length f) (omega (arith, p)) ends (λ j t. quoted_more_by (cond (nat_eq b 34) 34 39) size ls t j 0 g)

-- ---- block scalars

return_found : (n k : ℕ) (xs : List ℕ) → IsReturn k xs → return_behind n xs ≡ None → ⊥
return_found n k [] r h = none_empty k r
return_found n zero (b ∷ xs) r h = by_byte (nat_eq b 13) r h where
  by_byte : (q : Bool) → q ≡ true → cond q (Some (suc n)) (return_behind (suc n) xs) ≡ None → ⊥
  by_byte true e g = absurd (cc)
  by_byte false e g = true≢false (sym e)
return_found n (suc k) (b ∷ xs) r h = by_byte (nat_eq b 13) h (λ g. return_found (suc n) k xs r g) where
  by_byte : (q : Bool) → cond q (Some (suc n)) (return_behind (suc n) xs) ≡ None → (return_behind (suc n) xs ≡ None → ⊥) → ⊥
  by_byte true g f = absurd (cc)
  by_byte false g f = f g

fault_found : (white : Bool) (n k : ℕ) (xs : List ℕ) → IsReturn k xs → header_fault white n xs ≡ None → ⊥
fault_found white n k [] r h = none_empty k r
fault_found white n zero (b ∷ xs) r h = by_byte (is_white b) (nat_eq b 13) (white && nat_eq b 35) (ap is_white (is_byte b 13 r)) r h where
  by_byte : (p q s : Bool) → p ≡ false → q ≡ true → cond p (header_fault true (suc n) xs) (cond q (Some (suc n)) (cond s (return_behind (suc n) xs) (Some n))) ≡ None → ⊥
  by_byte true q s e i g = true≢false e
  by_byte false true s e i g = absurd (cc)
  by_byte false false s e i g = true≢false (sym i)
fault_found white n (suc k) (b ∷ xs) r h = by_byte (is_white b) (nat_eq b 13) (white && nat_eq b 35) h (λ g. fault_found true (suc n) k xs r g) where
  by_byte : (p q s : Bool) → cond p (header_fault true (suc n) xs) (cond q (Some (suc n)) (cond s (return_behind (suc n) xs) (Some n))) ≡ None → (header_fault true (suc n) xs ≡ None → ⊥) → ⊥
  by_byte true q s g f = f g
  by_byte false true s g f = absurd (cc)
  by_byte false false true g f = return_found (suc n) k xs r g
  by_byte false false false g f = absurd (cc)

-- a header's digit and sign are none
abbrev Left : List ℕ → Type 0
Left xs = (j : ℕ) × IsReturn j xs

sign_left : (h : Header) (xs : List ℕ) → h.rest ≡ xs → Left xs → Left (with_sign h xs).rest
sign_left h [] e i = absurd (none_empty i.0 i.1)
sign_left h (b ∷ xs) e (k, r) = by_sign (nat_eq b 45) (nat_eq b 43) refl refl where
  past : (c k : ℕ) → nat_eq c 13 ≡ false → nat_eq b c ≡ true → IsReturn k (b ∷ xs) → Left xs
  past c zero n i g = absurd (other_byte b c i n g)
  past c (suc k) n i g = (k, g)

  by_sign : (p q : Bool) → nat_eq b 45 ≡ p → nat_eq b 43 ≡ q → Left (cond p (record { digit = h.digit; chomp = Strip; rest = xs }) (cond q (record { digit = h.digit; chomp = Keep; rest = xs }) h)).rest
  by_sign true q i g = past 45 k refl i r
  by_sign false true i g = past 43 k refl g r
  by_sign false false i g = subst Left (sym e) (k, r)

digit_left : (h : Header) (xs : List ℕ) → h.rest ≡ xs → Left xs → Left (with_digit h xs).rest
digit_left h [] e i = absurd (none_empty i.0 i.1)
digit_left h (b ∷ xs) e (k, r) = by_digit (is_digit b) refl where
  past : (k : ℕ) → is_digit b ≡ true → IsReturn k (b ∷ xs) → Left xs
  past zero i g = absurd (true≢false (sym i ∙ ap is_digit (is_byte b 13 g)))
  past (suc k) i g = (k, g)

  by_digit : (p : Bool) → is_digit b ≡ p → Left (cond p (record { digit = Some (b - 48); chomp = h.chomp; rest = xs }) h).rest
  by_digit true i = past k i r
  by_digit false i = subst Left (sym e) (k, r)

header_left : (xs : List ℕ) → Left xs → Left (header xs).rest
header_left xs i = by_digit (begins_digit xs) where
  none : Header
  none = record { digit = None; chomp = Clip; rest = xs }

  by_digit : (p : Bool)
      → Left (cond p (with_sign (with_digit (record { digit = None; chomp = Clip; rest = xs }) xs) (with_digit (record { digit = None; chomp = Clip; rest = xs }) xs).rest) (with_digit (with_sign (record { digit = None; chomp = Clip; rest = xs }) xs) (with_sign (record { digit = None; chomp = Clip; rest = xs }) xs).rest)).rest
  by_digit true = sign_left (with_digit (record { digit = None; chomp = Clip; rest = xs }) xs) (with_digit (record { digit = None; chomp = Clip; rest = xs }) xs).rest refl (digit_left (record { digit = None; chomp = Clip; rest = xs }) xs refl i)
  by_digit false = digit_left (with_sign (record { digit = None; chomp = Clip; rest = xs }) xs) (with_sign (record { digit = None; chomp = Clip; rest = xs }) xs).rest refl (sign_left (record { digit = None; chomp = Clip; rest = xs }) xs refl i)

module _ (c : ℕ) where
  content_by : (folded : Bool) (chomp : Chomp) (inner size : ℕ) (ls : List Line) (t : List ℕ) (last : Option Last) (e : ℕ) → HasReturn c ls → EndsBy c (content_more folded chomp inner size ls t last e)
  content_by folded chomp inner size [] t last e h = absurd h
  content_by folded chomp inner size (l ∷ ls) t last e h =
      content_cases folded chomp inner l t last e
      (λ o. subst (EndsBy c) (sym (more_out folded chomp inner size l ls t last e o)) (line_before c l ls h))
      (λ n o r. subst (EndsBy c) (sym (more_return folded chomp inner size l ls t last e n o r)) tt)
      (λ x y z o r g. subst (EndsBy c) (sym (g size ls)) (content_by folded chomp inner size ls x y z (past_line c l ls h (λ k i. return_found 0 k l.bytes i r))))

  blank_by : (chomp : Chomp) (size : ℕ) (ls : List Line) (e : ℕ) → HasReturn c ls → EndsBy c (blank_more chomp size ls e)
  blank_by chomp size [] e h = absurd h
  blank_by chomp size (l ∷ ls) e h = by_blank (is_blank l.bytes) refl (λ g. blank_by chomp size ls (count_break l.broken e) g) where
    by_blank : (q : Bool) → is_blank l.bytes ≡ q → (HasReturn c ls → EndsBy c (blank_more chomp size ls (count_break l.broken e))) → EndsBy c (cond q (blank_more chomp size ls (count_break l.broken e)) (Stands (ending chomp None e) l.at))
    by_blank true i f = f (past_line c l ls h (λ k g. blank_none l.bytes k i g))
    by_blank false i f = line_before c l ls h

  digit_by : (folded : Bool) (parent : ℤ) (chomp : Chomp) (size : ℕ) (digit : Option ℕ) (ls : List Line) → HasReturn c ls → EndsBy c (by_digit folded parent chomp size digit ls)
  digit_by folded parent chomp size (Some d) ls h = content_by folded chomp (base_of parent + d) size ls [] None 0 h
  digit_by folded parent chomp size None ls h = by_in (inner_of (above_of parent) 0 ls) where
    by_in : (i : Inner) → EndsBy c (by_inner folded chomp size i ls)
    by_in Nothing = blank_by chomp size ls 0 h
    by_in (Wide at) = tt
    by_in (Indented j) = content_by folded chomp j size ls [] None 0 h

  -- the first byte is the indicator
  block_by : (parent : ℤ) (size : ℕ) (l : Line) (ls : List Line) → (IsReturn 0 l.bytes → ⊥) → HasReturn c (l ∷ ls) → EndsBy c (block_on parent size (l ∷ ls))
  block_by parent size l ls first h =
      block_cases l (λ n f. subst (EndsBy c) (sym (on_fault parent size l ls (head_of l.bytes) n refl f)) tt) (λ f b. subst (EndsBy c) (sym (on_none parent size l ls (head_of l.bytes) refl f b)) tt)
      (λ f b. subst (EndsBy c) (sym (on_lines parent size l ls (head_of l.bytes) refl f b)) (digit_by (begins_with 62 l.bytes) parent (head_of l.bytes).chomp size (head_of l.bytes).digit ls (past_line c l ls h (λ k r. header_none f k r)))) where
        header_none : header_fault false 0 (head_of l.bytes).rest ≡ None → (k : ℕ) → IsReturn k l.bytes → ⊥
        header_none f zero r = first r
        header_none f (suc k) r = let o : 1 ≤ suc k = omega arith in let i = header_left (drop 1 l.bytes) (suc k - 1, further_return 1 (suc k) l.bytes o r) in fault_found false 0 i.0 (head_of l.bytes).rest i.1 f

-- ---- any scalar

first_byte : (k : ℕ) (xs : List ℕ) → IsReturn 0 (line_at xs) → begins_with k xs ≡ true → nat_eq k 13 ≡ false → ⊥
first_byte k [] r h n = absurd (cc)
first_byte k (b ∷ xs) r h n = by_break (begins_break b xs) r where
  by_break : (q : Bool) → IsReturn 0 (cond q [] (b ∷ line_at xs)) → ⊥
  by_break true g = absurd (cc)
  by_break false g = other_byte b k h n g

one_of : (p q : Bool) → (p || q) ≡ true → (p ≡ true) ⊎ (q ≡ true)
one_of true q h = inl refl
one_of false q h = inr h

both_of : (p q : Bool) → (p && q) ≡ true → (p ≡ true) × (q ≡ true)
both_of true q h = (refl, h)
both_of false q h = absurd (true≢false (sym h))

-- a carriage return at a place, in no break
pub scalar_before : (s : Setting) (text : List ℕ) (at c : ℕ) → at ≤ c → IsReturn c text → begins_with 10 (drop (suc c) text) ≡ false → EndsBy c (scalar_at s text at)
scalar_before s text at c l r n = by_kind (begins_quoted (drop at text)) (begins_block s (drop at text)) refl refl where
  xs : List ℕ
  xs = drop at text

  place : at + (c - at) ≡ c
  place = omega (arith, l)

  here : HasReturn c (lines at (drop at text))
  here =
      let e : at + suc (c - at) ≡ suc c = omega (arith, l) in
      subst (λ k. HasReturn k (lines at (drop at text))) place (has_return at (drop at text) (c - at) (further_return at c text l r) (ap (begins_with 10) (drop-drop (suc (c - at)) at text ∙ ap (λ k. drop k text) e) ∙ n))

  is : lines at (drop at text) ≡ record { at = at; bytes = line_at (drop at text); broken = has_break (drop at text) } ∷ behind at (drop at text)
  is = lines_are at (drop at text)

  quoted : begins_quoted (drop at text) ≡ true → EndsBy c (quoted_on s.one_line (length text) (lines at (drop at text)))
  quoted q = subst (λ ls. EndsBy c (quoted_on s.one_line (length text) ls)) (sym is) (by_line (line_at (drop at text)) not_first (subst (HasReturn c) is here)) where
    not_first : IsReturn 0 (line_at (drop at text)) → ⊥
    not_first g = elim (one_of (begins_with 34 (drop at text)) (begins_with 39 (drop at text)) q) [ inl e ↦ first_byte 34 (drop at text) g e refl | inr e ↦ first_byte 39 (drop at text) g e refl ]

    unequal : (b : ℕ) → (nat_eq b 13 ≡ true → ⊥) → nat_eq b 13 ≡ false
    unequal b f = by_test (nat_eq b 13) refl where
      by_test : (q : Bool) → nat_eq b 13 ≡ q → q ≡ false
      by_test true e = absurd (f e)
      by_test false e = refl

    by_line : (bytes : List ℕ) → (IsReturn 0 bytes → ⊥) → HasReturn c (record { at = at; bytes = bytes; broken = has_break (drop at text) } ∷ behind at (drop at text)) → EndsBy c (quoted_on s.one_line (length text) (record { at = at; bytes = bytes; broken = has_break (drop at text) } ∷ behind at (drop at text)))
    by_line [] f (inl (k, p, g)) = absurd (none_empty k g)
    by_line [] f (inr (p, g)) = by_one s.one_line where
      by_one : (q : Bool) → EndsBy c (cond q (Fails (at + 0)) (quoted_more 39 (length text) (behind at (drop at text)) (take 0 []) false 0))
      by_one true = tt
      by_one false = quoted_more_by c 39 (length text) (behind at (drop at text)) (take 0 []) false 0 g
    by_line (b ∷ f) g h = quoted_by c s.one_line (length text) at b f (has_break (drop at text)) (behind at (drop at text)) (unequal b g) h

  block : begins_block s (drop at text) ≡ true → EndsBy c (block_on s.parent (length text) (lines at (drop at text)))
  block q = subst (λ ls. EndsBy c (block_on s.parent (length text) ls)) (sym is) (block_by c s.parent (length text) (record { at = at; bytes = line_at (drop at text); broken = has_break (drop at text) }) (behind at (drop at text)) not_first (subst (HasReturn c) is here)) where
    not_first : IsReturn 0 (line_at (drop at text)) → ⊥
    not_first g = elim (one_of (begins_with 124 (drop at text)) (begins_with 62 (drop at text)) (both_of (not (s.flow || s.one_line)) (begins_with 124 (drop at text) || begins_with 62 (drop at text)) q).1) [ inl e ↦ first_byte 124 (drop at text) g e refl | inr e ↦ first_byte 62 (drop at text) g e refl ]

  by_kind : (p q : Bool) → begins_quoted (drop at text) ≡ p → begins_block s (drop at text) ≡ q → EndsBy c (cond p (quoted_scalar s text at) (cond q (block_scalar s text at) (plain_scalar s text at)))
  by_kind true q e g = quoted e
  by_kind false true e g = block g
  by_kind false false e g = plain_by c s (is_first_column text at) (lines at (drop at text)) here

pub stands_before : (c : ℕ) (o : Outcome) (t : List ℕ) (e : ℕ) → EndsBy c o → o ≡ Stands t e → e ≤ c
stands_before c o t e h i = subst (EndsBy c) i h
