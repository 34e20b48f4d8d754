-- Where no dot stands on the lines of bytes, none stands among the bytes.
use Rattle.std.proofs.Common.{◌≡◌, ℕ, suc, ◌⊎◌, inl, inr, Bool, true, false, ◌||◌, ◌&&◌, not, cond, nat_eq, List, [], ◌∷◌, refl, sym, ap, ◌∙◌, subst, arith, true≢false}
use Rattle.std.proofs.lemmas.Bool.Decides.{nat_tests}
use Rattle.yaml_scalars.specs.Lines.{Line, begins_with, begins_break, put, begun, lines, each}
use Rattle.yaml_scalars.specs.code.Walk.{line_at, behind}
use Rattle.yaml_scalars.proofs.Places.{lines_are}
use Rattle.yaml_laws.specs.code.Dots.{is_dotless, begins_digits, spells_dot, undotted}
use Rattle.yaml_laws.proofs.DotFilled.{left, right, both, weaker}
use Rattle.yaml_laws.proofs.Dotless.{AreFree}

-- no part of a break
is_inside : ℕ → Bool
is_inside b = not (nat_eq b 10 || nat_eq b 13)

inside_line : (b d : ℕ) (xs : List ℕ) → nat_eq b d ≡ true → is_inside d ≡ true → begins_break b xs ≡ false
unfolding is_inside
inside_line b d xs e h =
    let s : b ≡ d = grind (arith, nat_tests, e) in
    subst (λ n. (nat_eq n 10 || (nat_eq n 13 && begins_with 10 xs)) ≡ false) (sym s) (by_tests (nat_eq d 10) (nat_eq d 13) (begins_with 10 xs) h) where
      by_tests : (p q r : Bool) → not (p || q) ≡ true → (p || (q && r)) ≡ false
      by_tests true q r h = absurd (true≢false (sym h))
      by_tests false true r h = absurd (true≢false (sym h))
      by_tests false false r h = refl

last_inside : (b : ℕ) (xs : List ℕ) → (nat_eq b 101 || nat_eq b 69) ≡ true → begins_break b xs ≡ false
unfolding is_inside
last_inside b xs h = by_tests (nat_eq b 101) (nat_eq b 69) refl refl h where
  by_tests : (p q : Bool) → nat_eq b 101 ≡ p → nat_eq b 69 ≡ q → (p || q) ≡ true → begins_break b xs ≡ false
  by_tests true q e f h = inside_line b 101 xs e refl
  by_tests false true e f h = inside_line b 69 xs f refl
  by_tests false false e f h = absurd (true≢false (sym h))

digits_line : (ds xs : List ℕ) → each is_inside ds ≡ true → begins_digits ds xs ≡ true → begins_digits ds (line_at xs) ≡ true
digits_line [] [] i h = h
digits_line (d ∷ ds) [] i h = h
digits_line [] (b ∷ xs) i h = ap (λ q. begins_digits [] (cond q [] (b ∷ line_at xs))) (last_inside b xs h) ∙ h
digits_line (d ∷ ds) (b ∷ xs) i h =
    ap (λ q. begins_digits (d ∷ ds) (cond q [] (b ∷ line_at xs))) (inside_line b d xs (left (nat_eq b d) (begins_digits ds xs) h) (head d ds i).0)
    ∙ both (nat_eq b d) (begins_digits ds (line_at xs)) (left (nat_eq b d) (begins_digits ds xs) h) (digits_line ds xs (head d ds i).1 (right (nat_eq b d) (begins_digits ds xs) h)) where
      head : (d : ℕ) (ds : List ℕ) → each is_inside (d ∷ ds) ≡ true → (is_inside d ≡ true) × (each is_inside ds ≡ true)
      head d ds i = by_byte (is_inside d) i where
        by_byte : (q : Bool) → cond q (each is_inside ds) false ≡ true → (q ≡ true) × (each is_inside ds ≡ true)
        by_byte true i = (refl, i)
        by_byte false i = absurd (true≢false (sym i))

spells_line : (xs : List ℕ) → not (spells_dot (line_at xs)) ≡ true → not (spells_dot xs) ≡ true
unfolding is_inside
spells_line xs h =
    weaker (begins_digits (120 ∷ 50 ∷ []) xs) (begins_digits (117 ∷ 48 ∷ 48 ∷ 50 ∷ []) xs) (begins_digits (85 ∷ 48 ∷ 48 ∷ 48 ∷ 48 ∷ 48 ∷ 48 ∷ 50 ∷ []) xs)
    (begins_digits (120 ∷ 50 ∷ []) (line_at xs)) (begins_digits (117 ∷ 48 ∷ 48 ∷ 50 ∷ []) (line_at xs)) (begins_digits (85 ∷ 48 ∷ 48 ∷ 48 ∷ 48 ∷ 48 ∷ 48 ∷ 50 ∷ []) (line_at xs))
    (digits_line (120 ∷ 50 ∷ []) xs refl) (digits_line (117 ∷ 48 ∷ 48 ∷ 50 ∷ []) xs refl) (digits_line (85 ∷ 48 ∷ 48 ∷ 48 ∷ 48 ∷ 48 ∷ 48 ∷ 50 ∷ []) xs refl) h

abbrev From : Bool → Bool → List Line → Type 0
From e over [] = Unit {0}
From e over (l ∷ ls) = (undotted e over l.bytes ≡ true) × AreFree e ls

feed_alone : (xs : List ℕ) → begins_with 10 xs ≡ true → line_at xs ≡ []
feed_alone [] h = refl
feed_alone (x ∷ xs) h = ap (λ q. cond (q || (nat_eq x 13 && begins_with 10 xs)) [] (x ∷ line_at xs)) h

plain_byte : (e : Bool) (b : ℕ) (xs : List ℕ) → nat_eq b 92 ≡ false → is_dotless b ≡ true → undotted e false xs ≡ true → undotted e false (b ∷ xs) ≡ true
plain_byte e b xs n d h = both (is_dotless b) (cond (e && nat_eq b 92) (not (spells_dot xs) && undotted e true xs) (undotted e false xs)) d (ap (λ q. cond (e && q) (not (spells_dot xs) && undotted e true xs) (undotted e false xs)) n ∙ neither e) where
  neither : (e2 : Bool) → cond (e2 && false) (not (spells_dot xs) && undotted e true xs) (undotted e false xs) ≡ true
  neither true = h
  neither false = h

-- a byte of a break
break_passed : (e : Bool) (b : ℕ) (xs : List ℕ) → (b ≡ 10) ⊎ (b ≡ 13) → undotted e false xs ≡ true → (over : Bool) → undotted e over (b ∷ xs) ≡ true
break_passed e b xs q h true = h
break_passed e b xs (inl q) h false = plain_byte e b xs (ap (λ n. nat_eq n 92) q) (ap is_dotless q) h
break_passed e b xs (inr q) h false = plain_byte e b xs (ap (λ n. nat_eq n 92) q) (ap is_dotless q) h

-- a byte of a line
byte_passed : (e : Bool) (b : ℕ) (xs : List ℕ) → ((s : Bool) → undotted e s (line_at xs) ≡ true → undotted e s xs ≡ true) → (over : Bool) → undotted e over (b ∷ line_at xs) ≡ true → undotted e over (b ∷ xs) ≡ true
byte_passed e b xs r true h = r false h
byte_passed e b xs r false h = by_test (is_dotless b) (e && nat_eq b 92) h where
  by_test : (d q : Bool) → (d && cond q (not (spells_dot (line_at xs)) && undotted e true (line_at xs)) (undotted e false (line_at xs))) ≡ true → (d && cond q (not (spells_dot xs) && undotted e true xs) (undotted e false xs)) ≡ true
  by_test false q h = absurd (true≢false (sym h))
  by_test true false h = r false h
  by_test true true h =
      both (not (spells_dot xs)) (undotted e true xs) (spells_line xs (left (not (spells_dot (line_at xs))) (undotted e true (line_at xs)) h)) (r true (right (not (spells_dot (line_at xs))) (undotted e true (line_at xs)) h))

lines_back : (e over : Bool) (at : ℕ) (xs : List ℕ) → From e over (lines at xs) → undotted e over xs ≡ true
lines_back e over at [] h = h.0
lines_back e over at (b ∷ xs) h = by_break (nat_eq b 10) (nat_eq b 13) (begins_with 10 xs) refl refl refl h (λ s i. lines_back e s (suc at) xs i) where
  Next : Type 0
  Next = (s : Bool) → From e s (lines (suc at) xs) → undotted e s xs ≡ true

  all : (ls : List Line) → AreFree e ls → From e false ls
  all [] f = tt
  all (l ∷ ls) f = f

  here : (s : Bool) → undotted e s (line_at xs) ≡ true → AreFree e (behind (suc at) xs) → From e s (lines (suc at) xs)
  here s u f = subst (From e s) (sym (lines_are (suc at) xs)) (u, f)

  put_case : From e over (put at b (lines (suc at) xs)) → Next → undotted e over (b ∷ xs) ≡ true
  put_case h next =
      let g : (undotted e over (b ∷ line_at xs) ≡ true) × AreFree e (behind (suc at) xs) = subst (λ ls. From e over (put at b ls)) (lines_are (suc at) xs) h in
      byte_passed e b xs (λ s u. next s (here s u g.1)) over g.0

  by_break : (p q r : Bool) → nat_eq b 10 ≡ p → nat_eq b 13 ≡ q → begins_with 10 xs ≡ r
      → From e over (cond p (record { at = at; bytes = []; broken = true } ∷ lines (suc at) xs) (cond (q && r) (begun at (lines (suc at) xs)) (put at b (lines (suc at) xs)))) → Next → undotted e over (b ∷ xs) ≡ true
  by_break true q r i j k h next = break_passed e b xs (inl (grind (arith, nat_tests, i))) (next false (all (lines (suc at) xs) h.1)) over
  by_break false true true i j k h next =
      let g : (undotted e over (line_at xs) ≡ true) × AreFree e (behind (suc at) xs) = subst (λ ls. From e over (begun at ls)) (lines_are (suc at) xs) h in
      break_passed e b xs (inr (grind (arith, nat_tests, j))) (next false (here false (ap (undotted e false) (feed_alone xs k)) g.1)) over
  by_break false true false i j k h next = put_case h next
  by_break false false r i j k h next = put_case h next

-- the lines themselves
pub lines_undotted : (e : Bool) (at : ℕ) (xs : List ℕ) → AreFree e (lines at xs) → undotted e false xs ≡ true
lines_undotted e at xs f = lines_back e false at xs (subst (From e false) (sym (lines_are at xs)) (subst (AreFree e) (lines_are at xs) f))
