-- Where a key fails at the text's end, more bytes complete it to one that is as long as is wanted: so to one that is none of others. By induction on its bytes.
use Rattle.std.proofs.Common.{◌≡◌, ℕ, zero, suc, ◌+◌, ◌<◌, ◌≤◌, ◌⊎◌, inl, inr, Bool, true, false, ◌||◌, ◌&&◌, not, cond, nat_eq, arith, List, [], ◌∷◌, ◌++◌, take, drop, length, refl, sym, ap, ◌∙◌, subst, true≢false, append_assoc, append-nil, length-append, length-drop, length-take}
use Rattle.std.proofs.lemmas.Bool.{cases_lt}
use Rattle.std.proofs.lemmas.Bool.Decides.{nat_tests}
use Rattle.std.proofs.lemmas.List.{take_all}
use Rattle.yaml_scalars.specs.declared.scalar.Setting.{Setting}
use Rattle.yaml_scalars.specs.declared.plain_line.Why.{Why}
use Rattle.yaml_scalars.specs.declared.plain_line.Why.TheVariants.{Break, Return, Colon, Comment, Mark}
use Rattle.yaml_scalars.specs.Lines.{Line, Stands, Fails, begins_with, ends_with, each, lines, is_white, keep, trimmed, is_end, is_mark, is_cut_mark}
use Rattle.yaml_scalars.specs.Plain.{is_flow_mark, is_indicator, is_doubtful, is_unsafe, begins_plain, wrong_begin, stops, plain_len, content, content_end, why, reason, more, first, plain_on}
use Rattle.yaml_scalars.specs.Quoted.{Piece, Itself, Closes, Means, Joins, Returns, Wrong, Part, Closed, Open, Joined, Returned, Refused, double, single, piece, add_piece, line_part, key_part, behind_part, quoted_more, quoted_on}
use Rattle.yaml_scalars.specs.Scalar.{is_first_column, begins_quoted, begins_block, plain_scalar, quoted_scalar, scalar_at}
use Rattle.yaml_scalars.specs.code.Walk.{line_at, has_break, behind}
use Rattle.yaml_scalars.proofs.Places.{lines_are}
use Rattle.yaml_laws.specs.code.Endings.{letters}
use Rattle.yaml_laws.specs.code.Refusals.{is_ascii}
use Rattle.yaml_laws.proofs.Agree.{drop_before}
use Rattle.yaml_laws.proofs.EscapeLonger.{is_fit, AllFit}
use Rattle.yaml_laws.proofs.KeyLines.{by_kind}
use Rattle.yaml_laws.proofs.Longer.{rest_of, no_feed, one_line}
use Rattle.yaml_laws.proofs.PlainFollowed.{trimmed_le}
use Rattle.yaml_laws.proofs.QuotedAlike.{IsFar, IsAlike, piece_alike}
use Rattle.yaml_laws.proofs.QuotedLaw.{quote_of}
use Rattle.yaml_laws.proofs.Returns.{PartWithin, part_within, content_far}
use Rattle.yaml_laws.proofs.ScalarEnds.{scalar_grown}
use Rattle.yaml_laws.proofs.ScalarFollowed.{quoted_longer}
use Rattle.yaml_laws.proofs.ScalarLaw.{column_longer}
use Rattle.yaml_laws.proofs.SyntaxLaw.{last_of}

-- ---- letters

pub letters_long : (n : ℕ) → length (letters n) ≡ n
letters_long zero = refl
letters_long (suc n) = ap suc (letters_long n)

letters_feed : (n : ℕ) (y : List ℕ) → no_feed y ≡ true → no_feed (letters n ++ y) ≡ true
letters_feed zero y h = h
letters_feed (suc n) y h = letters_feed n y h

letters_small : (n : ℕ) (y : List ℕ) → each is_ascii y ≡ true → each is_ascii (letters n ++ y) ≡ true
letters_small zero y h = h
letters_small (suc n) y h = letters_small n y h

letters_last : (n : ℕ) → letters (suc n) ≡ letters n ++ (97 ∷ [])
letters_last zero = refl
letters_last (suc n) = ap (λ t. 97 ∷ t) (letters_last n)

feed_both : (x y : List ℕ) → no_feed x ≡ true → no_feed y ≡ true → no_feed (x ++ y) ≡ true
feed_both [] y h g = g
feed_both (b ∷ x) y h g = by_byte (nat_eq b 10) h (λ i. feed_both x y i g) where
  by_byte : (q : Bool) → cond q false (no_feed x) ≡ true → (no_feed x ≡ true → no_feed (x ++ y) ≡ true) → cond q false (no_feed (x ++ y)) ≡ true
  by_byte true i f = absurd (true≢false (sym i))
  by_byte false i f = f i

feed_front : (x y : List ℕ) → no_feed (x ++ y) ≡ true → no_feed x ≡ true
feed_front [] y h = refl
feed_front (b ∷ x) y h = by_byte (nat_eq b 10) h (λ i. feed_front x y i) where
  by_byte : (q : Bool) → cond q false (no_feed (x ++ y)) ≡ true → (no_feed (x ++ y) ≡ true → no_feed x ≡ true) → cond q false (no_feed x) ≡ true
  by_byte true i f = absurd (true≢false (sym i))
  by_byte false i f = f i

feed_back : (x y : List ℕ) → no_feed (x ++ y) ≡ true → no_feed y ≡ true
feed_back [] y h = h
feed_back (b ∷ x) y h = by_byte (nat_eq b 10) h (λ i. feed_back x y i) where
  by_byte : (q : Bool) → cond q false (no_feed (x ++ y)) ≡ true → (no_feed (x ++ y) ≡ true → no_feed y ≡ true) → no_feed y ≡ true
  by_byte true i f = absurd (true≢false (sym i))
  by_byte false i f = f i

small_both : (x y : List ℕ) → each is_ascii x ≡ true → each is_ascii y ≡ true → each is_ascii (x ++ y) ≡ true
small_both [] y h g = g
small_both (b ∷ x) y h g = by_byte (is_ascii b) h (λ i. small_both x y i g) where
  by_byte : (q : Bool) → cond q (each is_ascii x) false ≡ true → (each is_ascii x ≡ true → each is_ascii (x ++ y) ≡ true) → cond q (each is_ascii (x ++ y)) false ≡ true
  by_byte true i f = f i
  by_byte false i f = absurd (true≢false (sym i))

small_front : (x y : List ℕ) → each is_ascii (x ++ y) ≡ true → (each is_ascii x ≡ true) × (each is_ascii y ≡ true)
small_front [] y h = (refl, h)
small_front (b ∷ x) y h = by_byte (is_ascii b) h (λ i. small_front x y i) where
  by_byte : (q : Bool) → cond q (each is_ascii (x ++ y)) false ≡ true → (each is_ascii (x ++ y) ≡ true → (each is_ascii x ≡ true) × (each is_ascii y ≡ true)) → (cond q (each is_ascii x) false ≡ true) × (each is_ascii y ≡ true)
  by_byte true i f = f i
  by_byte false i f = absurd (true≢false (sym i))

-- bytes that are a line of themselves
line_full : (xs : List ℕ) → length xs ≤ length (line_at xs) → (no_feed xs ≡ true) × (line_at xs ≡ xs)
line_full [] l = (refl, refl)
line_full (b ∷ xs) l = by_break (nat_eq b 10) (nat_eq b 13 && begins_with 10 xs) l (λ i. line_full xs i) where
  by_break : (p q : Bool) → suc (length xs) ≤ length (cond (p || q) [] (b ∷ line_at xs)) → (length xs ≤ length (line_at xs) → (no_feed xs ≡ true) × (line_at xs ≡ xs)) → (cond p false (no_feed xs) ≡ true) × (cond (p || q) [] (b ∷ line_at xs) ≡ b ∷ xs)
  by_break true q i f = absurd (omega (arith, i))
  by_break false true i f = absurd (omega (arith, i))
  by_break false false i f = let r = f (omega (arith, i)) in (r.0, ap (λ t. b ∷ t) r.1)

-- ---- a quoted key: letters in front of the quotation mark

letter_itself : (quote : ℕ) (xs : List ℕ) → piece quote 97 xs ≡ Itself
letter_itself quote xs = by_quote (nat_eq quote 34) where
  by_quote : (q : Bool) → cond q (double 97 xs) (single 97 xs) ≡ Itself
  by_quote true = refl
  by_quote false = refl

letters_run : (quote at : ℕ) (t : List ℕ) (kept : ℕ) (y : List ℕ) (n : ℕ) → (k : ℕ) × (line_part quote at 0 t kept (letters n ++ y) ≡ line_part quote (at + n) 0 (t ++ letters n) k y)
letters_run quote at t kept y zero = (kept, (let e : at ≡ at + 0 = omega arith in ap (λ i. line_part quote i 0 t kept y) e) ∙ ap (λ u. line_part quote (at + 0) 0 u kept y) (sym (append-nil t)))
letters_run quote at t kept y (suc n) =
    let r = letters_run quote (suc at) (t ++ (97 ∷ [])) (suc (length t)) y n in
    let e : suc at + n ≡ at + suc n = omega arith in (
      r.0,
      ap (λ p. add_piece p 97 at t kept (λ m u j. line_part quote (suc at) m u j (letters n ++ y))) (letter_itself quote (letters n ++ y)) ∙ r.1
          ∙ ap (λ i. line_part quote i 0 ((t ++ (97 ∷ [])) ++ letters n) r.0 y) e ∙ ap (λ u. line_part quote (at + suc n) 0 u r.0 y) (append_assoc t (97 ∷ []) (letters n)),
    )

open_past : (quote at skip : ℕ) (t : List ℕ) (kept : ℕ) (xs : List ℕ) → length xs ≤ skip → line_part quote at skip t kept xs ≡ Open (take kept t)
open_past quote at skip t kept [] l = refl
open_past quote at zero t kept (b ∷ xs) l = absurd (omega (arith, l))
open_past quote at (suc n) t kept (b ∷ xs) l = open_past quote (suc at) n t kept xs (omega (arith, l))

closed_end : (t u : List ℕ) (d e : ℕ) → Closed t d ≡ Closed u e → d ≡ e
closed_end t u d e h = cc

open_closed : (t u : List ℕ) (e : ℕ) → Open t ≡ Closed u e → ⊥
open_closed t u e h = absurd (cc)

-- the part is closed by its last byte, and so it is behind letters
abbrev pub IsGrown : ℕ → ℕ → ℕ → List ℕ → ℕ → List ℕ → ℕ → ℕ → Type 0
IsGrown quote at skip t kept g x n = (v : List ℕ) × (n ≤ length v) × (nat_eq x 13 ≡ false) × (line_part quote at skip t kept (g ++ (letters n ++ (x ∷ []))) ≡ Closed v (at + suc (length g + n)))

insert : (quote x n : ℕ) (g : List ℕ) (at skip : ℕ) (t : List ℕ) (kept : ℕ) (u : List ℕ) (e : ℕ) → skip ≤ length g → line_part quote at skip t kept (g ++ (x ∷ [])) ≡ Closed u e → e ≡ at + suc (length g) → IsGrown quote at skip t kept g x n
insert quote x n [] at (suc m) t kept u e l h i = absurd (omega (arith, l))
insert quote x n [] at zero t kept u e l h i = by_piece (piece quote x []) refl h where
  by_white : (q : Bool) → cond q (line_part quote (suc at) 0 (t ++ (x ∷ [])) kept []) (line_part quote (suc at) 0 (t ++ (x ∷ [])) (suc (length t)) []) ≡ Closed u e → ⊥
  by_white true h = open_closed _ u e h
  by_white false h = open_closed _ u e h

  no_return : (q : Bool) (p : Piece) → cond q (Returns 0) p ≡ Closes → q ≡ false
  no_return true p h = absurd (cc)
  no_return false p h = refl

  by_piece : (p : Piece) → piece quote x [] ≡ p → add_piece p x at t kept (λ m v j. line_part quote (suc at) m v j []) ≡ Closed u e → IsGrown quote at 0 t kept [] x n
  by_piece Itself j h = absurd (by_white (is_white x) h)
  by_piece Closes j h =
      let r = letters_run quote at t kept (x ∷ []) n in
      let z : suc (at + n) ≡ at + suc (0 + n) = omega arith in
      let y = letters_long n in (
        t ++ letters n,
        omega (arith, y, length-append t (letters n)),
        no_return (nat_eq x 13) (cond (nat_eq quote 34) (double x []) (single x [])) j,
        r.1 ∙ ap (λ p. add_piece p x (at + n) (t ++ letters n) r.0 (λ m v j. line_part quote (suc (at + n)) m v j [])) j ∙ ap (Closed (t ++ letters n)) z,
      )
  by_piece (Means m v) j h = absurd (open_closed _ u e h)
  by_piece Joins j h = absurd (cc)
  by_piece (Returns m) j h = absurd (cc)
  by_piece (Wrong m) j h = absurd (cc)
insert quote x n (b ∷ g) at (suc m) t kept u e l h i =
    let r = insert quote x n g (suc at) m t kept u e (omega (arith, l)) h (omega (arith, i)) in
    let z : suc at + suc (length g + n) ≡ at + suc (suc (length g) + n) = omega arith in
    (r.0, r.1, r.2, r.3 ∙ ap (Closed r.0) z)
insert quote x n (b ∷ g) at zero t kept u e l h i =
    by_piece (piece quote b (g ++ (x ∷ []))) refl (piece_alike quote b g (x ∷ []) (letters n ++ (x ∷ []))) h
    (λ m v k o j. insert quote x n g (suc at) m v k u e o j (omega (arith, i))) where
      Next : Type 0
      Next = (m : ℕ) (v : List ℕ) (k : ℕ) → m ≤ length g → line_part quote (suc at) m v k (g ++ (x ∷ [])) ≡ Closed u e → IsGrown quote (suc at) m v k g x n

      new : List ℕ
      new = g ++ (letters n ++ (x ∷ []))

      goes : (m : ℕ) (v : List ℕ) (k : ℕ) → line_part quote at 0 t kept (b ∷ (g ++ (letters n ++ (x ∷ [])))) ≡ line_part quote (suc at) m v k (g ++ (letters n ++ (x ∷ []))) → IsGrown quote (suc at) m v k g x n → IsGrown quote at 0 t kept (b ∷ g) x n
      goes m v k same r = let z : suc at + suc (length g + n) ≡ at + suc (suc (length g) + n) = omega arith in (r.0, r.1, r.2, same ∙ r.3 ∙ ap (Closed r.0) z)

      step : (p : Piece) → piece quote b (g ++ (letters n ++ (x ∷ []))) ≡ p → line_part quote at 0 t kept (b ∷ (g ++ (letters n ++ (x ∷ [])))) ≡ add_piece p b at t kept (λ m v j. line_part quote (suc at) m v j (g ++ (letters n ++ (x ∷ []))))
      step p j = ap (λ p. add_piece p b at t kept (λ m v j. line_part quote (suc at) m v j (g ++ (letters n ++ (x ∷ []))))) j

      by_white : (q : Bool) → is_white b ≡ q → piece quote b (g ++ (letters n ++ (x ∷ []))) ≡ Itself → cond q (line_part quote (suc at) 0 (t ++ (b ∷ [])) kept (g ++ (x ∷ []))) (line_part quote (suc at) 0 (t ++ (b ∷ [])) (suc (length t)) (g ++ (x ∷ []))) ≡ Closed u e
          → ((m : ℕ) (v : List ℕ) (k : ℕ) → m ≤ length g → line_part quote (suc at) m v k (g ++ (x ∷ [])) ≡ Closed u e → IsGrown quote (suc at) m v k g x n) → IsGrown quote at 0 t kept (b ∷ g) x n
      by_white true w j h f = goes 0 (t ++ (b ∷ [])) kept (step Itself j ∙ ap (λ q. cond q (line_part quote (suc at) 0 (t ++ (b ∷ [])) kept (g ++ (letters n ++ (x ∷ [])))) (line_part quote (suc at) 0 (t ++ (b ∷ [])) (suc (length t)) (g ++ (letters n ++ (x ∷ []))))) w) (f 0 (t ++ (b ∷ [])) kept (omega arith) h)
      by_white false w j h f = goes 0 (t ++ (b ∷ [])) (suc (length t)) (step Itself j ∙ ap (λ q. cond q (line_part quote (suc at) 0 (t ++ (b ∷ [])) kept (g ++ (letters n ++ (x ∷ [])))) (line_part quote (suc at) 0 (t ++ (b ∷ [])) (suc (length t)) (g ++ (letters n ++ (x ∷ []))))) w) (f 0 (t ++ (b ∷ [])) (suc (length t)) (omega arith) h)

      far_not : (m : ℕ) (v : List ℕ) (k : ℕ) → length g < m → line_part quote (suc at) m v k (g ++ (x ∷ [])) ≡ Closed u e → ⊥
      far_not m v k o j = open_closed (take k v) u e (sym (open_past quote (suc at) m v k (g ++ (x ∷ [])) (omega (arith, o, length-append g (x ∷ [])))) ∙ j)

      by_piece : (p : Piece) → piece quote b (g ++ (x ∷ [])) ≡ p → IsAlike (length g) (piece quote b (g ++ (x ∷ []))) (piece quote b (g ++ (letters n ++ (x ∷ [])))) → add_piece p b at t kept (λ m v j. line_part quote (suc at) m v j (g ++ (x ∷ []))) ≡ Closed u e
          → ((m : ℕ) (v : List ℕ) (k : ℕ) → m ≤ length g → line_part quote (suc at) m v k (g ++ (x ∷ [])) ≡ Closed u e → IsGrown quote (suc at) m v k g x n) → IsGrown quote at 0 t kept (b ∷ g) x n
      by_piece Itself j (inl a) h f = by_white (is_white b) refl (sym a ∙ j) h f
      by_piece Itself j (inr a) h f = absurd (subst (IsFar (length g)) j a)
      by_piece Closes j a h f = absurd (let z = closed_end t u (suc at) e h in omega (arith, z, i))
      by_piece (Means m v) j (inl a) h f = by_size (cases_lt (length g) m) where
        by_size : (length g < m) ⊎ (m ≤ length g) → IsGrown quote at 0 t kept (b ∷ g) x n
        by_size (inl o) = absurd (far_not m (t ++ v) (length (t ++ v)) o h)
        by_size (inr o) = goes m (t ++ v) (length (t ++ v)) (step (Means m v) (sym a ∙ j)) (f m (t ++ v) (length (t ++ v)) o h)
      by_piece (Means m v) j (inr a) h f = absurd (far_not m (t ++ v) (length (t ++ v)) (subst (IsFar (length g)) j a) h)
      by_piece Joins j a h f = absurd (cc)
      by_piece (Returns m) j a h f = absurd (cc)
      by_piece (Wrong m) j a h f = absurd (cc)

-- ---- a plain key: letters behind it

stop_letter : (flow white : Bool) (xs : List ℕ) → stops flow white 97 xs ≡ false
stop_letter true white xs = refl
stop_letter false white xs = refl

letters_go : (flow white : Bool) (n : ℕ) → plain_len flow white (letters n) ≡ n
letters_go flow white zero = refl
letters_go flow white (suc n) = ap (λ q. cond q 0 (suc (plain_len flow false (letters n)))) (stop_letter flow white (letters n)) ∙ ap suc (letters_go flow false n)

not_zero : (n : ℕ) → 0 ≡ suc n → ⊥
not_zero n h = omega (arith, h)

stop_more : (flow white : Bool) (b n : ℕ) (xs : List ℕ) → stops flow white b xs ≡ false → stops flow white b (xs ++ letters n) ≡ false
stop_more flow white b n (x ∷ xs) h = h
stop_more flow white b n [] h = by_tests (nat_eq b 58) (nat_eq b 35 && white) (flow && is_flow_mark b) (nat_eq b 13) (is_unsafe flow (letters n)) h where
  by_tests : (p q r s u : Bool) → ((p && true) || q || r || s) ≡ false → ((p && u) || q || r || s) ≡ false
  by_tests true q r s u h = absurd (true≢false h)
  by_tests false q r s u h = h

len_more : (flow white : Bool) (n : ℕ) (xs : List ℕ) → plain_len flow white xs ≡ length xs → plain_len flow white (xs ++ letters n) ≡ length xs + n
len_more flow white n [] h = letters_go flow white n ∙ omega arith
len_more flow white n (b ∷ xs) h = by_stop (stops flow white b xs) refl h (λ i. len_more flow (is_white b) n xs i) where
  by_stop : (q : Bool) → stops flow white b xs ≡ q → cond q 0 (suc (plain_len flow (is_white b) xs)) ≡ suc (length xs) → (plain_len flow (is_white b) xs ≡ length xs → plain_len flow (is_white b) (xs ++ letters n) ≡ length xs + n)
      → cond (stops flow white b (xs ++ letters n)) 0 (suc (plain_len flow (is_white b) (xs ++ letters n))) ≡ suc (length xs) + n
  by_stop true e i f = absurd (not_zero (length xs) i)
  by_stop false e i f =
      let z = f (omega (arith, i)) in
      ap (λ q. cond q 0 (suc (plain_len flow (is_white b) (xs ++ letters n)))) (stop_more flow white b n xs e) ∙ omega (arith, z)

keep_some : (b c : ℕ) (xs : List ℕ) → keep b (c ∷ xs) ≡ b ∷ c ∷ xs
keep_some b c xs = refl

letters_keep : (n : ℕ) → trimmed (letters n) ≡ letters n
letters_keep zero = refl
letters_keep (suc n) = ap (keep 97) (letters_keep n) ∙ some n where
  some : (n : ℕ) → keep 97 (letters n) ≡ 97 ∷ letters n
  some zero = refl
  some (suc n) = refl

keeps : (n : ℕ) (xs : List ℕ) → trimmed (xs ++ letters (suc n)) ≡ xs ++ letters (suc n)
keeps n [] = letters_keep (suc n)
keeps n (b ∷ xs) = ap (keep b) (keeps n xs) ∙ some xs where
  some : (xs : List ℕ) → keep b (xs ++ letters (suc n)) ≡ b ∷ (xs ++ letters (suc n))
  some [] = refl
  some (x ∷ xs) = refl

no_last : (p q r : Bool) → (p && (q && (r && false))) ≡ false
no_last true true true = refl
no_last true true false = refl
no_last true false r = refl
no_last false q r = refl

letter_mark : (a : ℕ) (q : Bool) → ((nat_eq a 45 || nat_eq a 46) && (nat_eq a 97 && q)) ≡ false
letter_mark a q = by_test (nat_eq a 97) refl where
  other : nat_eq a 97 ≡ true → (nat_eq a 45 || nat_eq a 46) ≡ false
  other h = let e : a ≡ 97 = grind (arith, nat_tests, h) in ap (λ a. nat_eq a 45 || nat_eq a 46) e

  none : (p : Bool) → (p && false) ≡ false
  none true = refl
  none false = refl

  by_test : (r : Bool) → nat_eq a 97 ≡ r → ((nat_eq a 45 || nat_eq a 46) && (r && q)) ≡ false
  by_test true h = ap (λ p. p && q) (other h)
  by_test false h = none (nat_eq a 45 || nat_eq a 46)

letter_third : (a : ℕ) (r q : Bool) → ((nat_eq a 45 || nat_eq a 46) && (r && (nat_eq a 97 && q))) ≡ false
letter_third a true q = letter_mark a q
letter_third a false q = none (nat_eq a 45 || nat_eq a 46) where
  none : (p : Bool) → (p && false) ≡ false
  none true = refl
  none false = refl

mark_more : (n : ℕ) (xs : List ℕ) → (is_mark xs || is_cut_mark xs) ≡ false → (is_mark (xs ++ letters (suc n)) || is_cut_mark (xs ++ letters (suc n))) ≡ false
mark_more zero [] h = refl
mark_more (suc zero) [] h = refl
mark_more (suc (suc n)) [] h = refl
mark_more zero (a ∷ []) h = refl
mark_more (suc n) (a ∷ []) h = ap (λ q. q || is_cut_mark (a ∷ 97 ∷ 97 ∷ letters n)) (letter_mark a (nat_eq a 97 && is_end (letters n))) ∙ letter_mark a (nat_eq a 97 && begins_with 13 (letters n))
mark_more n (a ∷ b ∷ []) h = ap (λ q. q || is_cut_mark (a ∷ b ∷ 97 ∷ letters n)) (letter_third a (nat_eq a b) (is_end (letters n))) ∙ letter_third a (nat_eq a b) (begins_with 13 (letters n))
mark_more n (a ∷ b ∷ c ∷ []) h = ap (λ q. q || is_cut_mark (a ∷ b ∷ c ∷ 97 ∷ letters n)) (no_last (nat_eq a 45 || nat_eq a 46) (nat_eq a b) (nat_eq a c)) ∙ no_last (nat_eq a 45 || nat_eq a 46) (nat_eq a b) (nat_eq a c)
mark_more n (a ∷ b ∷ c ∷ d ∷ xs) h = h

fresh_more : (fresh : Bool) (n : ℕ) (xs : List ℕ) → (fresh && (is_mark xs || is_cut_mark xs)) ≡ false → (fresh && (is_mark (xs ++ letters (suc n)) || is_cut_mark (xs ++ letters (suc n)))) ≡ false
fresh_more true n xs h = mark_more n xs h
fresh_more false n xs h = refl

begins_more : (flow : Bool) (n : ℕ) (xs : List ℕ) → begins_plain flow xs ≡ true → begins_plain flow (xs ++ letters (suc n)) ≡ true
begins_more flow n [] h = absurd (true≢false (sym h))
begins_more flow n (b ∷ x ∷ xs) h = h
begins_more flow n (b ∷ []) h = by_tests (not (is_white b || is_indicator b || nat_eq b 13)) (is_doubtful b) (is_unsafe flow (97 ∷ letters n) || begins_with 13 (97 ∷ letters n)) h where
  by_tests : (p q r : Bool) → (p && (not q || false)) ≡ true → (p && (not q || not r)) ≡ true
  by_tests true true r h = absurd (true≢false (sym h))
  by_tests true false r h = refl
  by_tests false q r h = absurd (true≢false (sym h))

-- a key takes all of its line
stands_end : (t u : List ℕ) (d e : ℕ) → Stands t d ≡ Stands u e → d ≡ e
stands_end t u d e h = cc

fails_stands : (p : ℕ) (t : List ℕ) (e : ℕ) → Fails p ≡ Stands t e → ⊥
fails_stands p t e h = absurd (cc)

first_end : (s : Setting) (w : Why) (at : ℕ) (xs : List ℕ) (ls : List Line) (t : List ℕ) (e : ℕ) → s.one_line ≡ true → first s w at xs ls ≡ Stands t e → content_end s.flow xs at ≡ e
first_end s Break at xs ls t e one h = stands_end _ t _ e (sym (ap (λ q. cond q (Stands (content s.flow xs) (content_end s.flow xs at)) (more s ls (content s.flow xs) (content_end s.flow xs at) 0)) one) ∙ h)
first_end s Return at xs ls t e one h = absurd (fails_stands _ t e h)
first_end s Colon at xs ls t e one h = stands_end _ t _ e h
first_end s Comment at xs ls t e one h = stands_end _ t _ e h
first_end s Mark at xs ls t e one h = stands_end _ t _ e h

plain_tests : (s : Setting) (fresh : Bool) (at : ℕ) (xs : List ℕ) (r : Bool) (ls : List Line) (t : List ℕ) (e : ℕ) → s.one_line ≡ true → plain_on s fresh (record { at = at; bytes = xs; broken = r } ∷ ls) ≡ Stands t e
    → ((fresh && (is_mark xs || is_cut_mark xs)) ≡ false) × (begins_plain s.flow xs ≡ true) × (content_end s.flow xs at ≡ e)
plain_tests s fresh at xs r ls t e one h = by_tests (fresh && (is_mark xs || is_cut_mark xs)) (begins_plain s.flow xs) h where
  by_tests : (p q : Bool) → cond p (Fails (at + 3)) (cond q (first s (reason s.flow xs) at xs ls) (Fails (wrong_begin at xs))) ≡ Stands t e → (p ≡ false) × (q ≡ true) × (content_end s.flow xs at ≡ e)
  by_tests true q i = absurd (fails_stands _ t e i)
  by_tests false true i = (refl, refl, first_end s (reason s.flow xs) at xs ls t e one i)
  by_tests false false i = absurd (fails_stands _ t e i)

full_len : (flow : Bool) (xs : List ℕ) (at : ℕ) → content_end flow xs at ≡ at + length xs → plain_len flow false xs ≡ length xs
full_len flow xs at h = let a = trimmed_le (take (plain_len flow false xs) xs) in omega (arith, a, h, length-take (plain_len flow false xs) xs, plain_le flow false xs) where
  plain_le : (flow white : Bool) (xs : List ℕ) → plain_len flow white xs ≤ length xs
  plain_le flow white [] = omega arith
  plain_le flow white (x ∷ xs) = by_stop (stops flow white x xs) (plain_le flow (is_white x) xs) where
    by_stop : (q : Bool) → plain_len flow (is_white x) xs ≤ length xs → cond q 0 (suc (plain_len flow (is_white x) xs)) ≤ suc (length xs)
    by_stop true h = omega arith
    by_stop false h = omega (arith, h)

past_all : (xs : List ℕ) (n : ℕ) → n ≡ length xs → drop n xs ≡ []
past_all [] zero h = refl
past_all [] (suc n) h = refl
past_all (x ∷ xs) zero h = absurd (omega (arith, h))
past_all (x ∷ xs) (suc n) h = past_all xs n (omega (arith, h))

plain_letters : (s : Setting) (fresh : Bool) (at n : ℕ) (xs : List ℕ) → s.one_line ≡ true → (fresh && (is_mark xs || is_cut_mark xs)) ≡ false → begins_plain s.flow xs ≡ true → plain_len s.flow false xs ≡ length xs
    → plain_on s fresh (rest_of at (xs ++ letters (suc n)) ∷ []) ≡ Stands (xs ++ letters (suc n)) (at + length (xs ++ letters (suc n)))
plain_letters s fresh at n xs one m b l =
    let ys = xs ++ letters (suc n) in
    let size : length (xs ++ letters (suc n)) ≡ length xs + suc n = (let z = letters_long (suc n) in omega (arith, z, length-append xs (letters (suc n)))) in
    let len : plain_len s.flow false (xs ++ letters (suc n)) ≡ length (xs ++ letters (suc n)) = len_more s.flow false (suc n) xs l ∙ sym size in
    let why_is : reason s.flow (xs ++ letters (suc n)) ≡ Break = ap why (past_all (xs ++ letters (suc n)) (plain_len s.flow false (xs ++ letters (suc n))) len) in
    let content_is : content s.flow (xs ++ letters (suc n)) ≡ xs ++ letters (suc n) = ap (λ k. trimmed (take k (xs ++ letters (suc n)))) len ∙ ap trimmed (take_all (length (xs ++ letters (suc n))) (xs ++ letters (suc n)) (omega arith)) ∙ keeps n xs in
    ap (λ p. cond p (Fails (at + 3)) (cond (begins_plain s.flow ys) (first s (reason s.flow ys) at ys []) (Fails (wrong_begin at ys)))) (fresh_more fresh n xs m)
    ∙ ap (λ p. cond p (first s (reason s.flow ys) at ys []) (Fails (wrong_begin at ys))) (begins_more s.flow n xs b) ∙ ap (λ w. first s w at ys []) why_is
    ∙ ap (λ q. cond q (Stands (content s.flow ys) (content_end s.flow ys at)) (more s [] (content s.flow ys) (content_end s.flow ys at) 0)) one ∙ ap (λ (t : List ℕ). Stands t (at + length t)) content_is

-- ---- the whole text

-- some more bytes, of which the first is no white space and no part of a break or mark, none is a line feed and the last no carriage return, complete a key so that it ends with them and has so many bytes at least
abbrev pub IsLongKey : Setting → List ℕ → ℕ → ℕ → Type 0
IsLongKey s text at n =
    (c : ℕ) × (v t : List ℕ) × (is_fit c ≡ true) × (no_feed v ≡ true) × (each is_ascii (c ∷ v) ≡ true) × ((m : List ℕ) × (x : ℕ) × (c ∷ v ≡ m ++ (x ∷ [])) × (nat_eq x 13 ≡ false))
    × (scalar_at s (text ++ (c ∷ v)) at ≡ Stands t (length (text ++ (c ∷ v)))) × (n ≤ length t)

some_byte : (xs : List ℕ) → 0 < length xs → (b : ℕ) × (ys : List ℕ) × (xs ≡ b ∷ ys)
some_byte [] l = absurd (omega (arith, l))
some_byte (b ∷ ys) l = (b, ys, refl)

feed_cons : (b : ℕ) (xs : List ℕ) → no_feed (b ∷ xs) ≡ true → no_feed xs ≡ true
feed_cons b xs h = by_byte (nat_eq b 10) h where
  by_byte : (q : Bool) → cond q false (no_feed xs) ≡ true → no_feed xs ≡ true
  by_byte true i = absurd (true≢false (sym i))
  by_byte false i = i

fit_feed : (c : ℕ) (v : List ℕ) → is_fit c ≡ true → no_feed v ≡ true → no_feed (c ∷ v) ≡ true
fit_feed c v h g = let z : nat_eq c 10 ≡ false = grind (arith, nat_tests, h) in ap (λ q. cond q false (no_feed v)) z ∙ g

module _ (s : Setting) (one : s.one_line ≡ true) (text : List ℕ) (at : ℕ) (l : at < length text) (n : ℕ) where
  quoted_key : (size b : ℕ) (xs : List ℕ) (r : Bool) (ls : List Line) (t : List ℕ) (e : ℕ) → quoted_on s.one_line size (record { at = at; bytes = b ∷ xs; broken = r } ∷ ls) ≡ Stands t e → line_part (quote_of (b ∷ xs)) (suc at) 0 [] 0 xs ≡ Closed t e
  quoted_key size b xs r ls t e h =
      by_part (line_part (quote_of (b ∷ xs)) (suc at) 0 [] 0 xs)
      (sym (ap (λ q. cond q (key_part (line_part (quote_of (b ∷ xs)) (suc at) 0 [] 0 xs) (at + suc (length xs))) (behind_part (line_part (quote_of (b ∷ xs)) (suc at) 0 [] 0 xs) (λ j t. quoted_more (quote_of (b ∷ xs)) size ls t j 0))) one) ∙ h) where
        by_part : (p : Part) → key_part p (at + suc (length xs)) ≡ Stands t e → p ≡ Closed t e
        by_part (Closed u d) i = let a : u ≡ t = cc in let z : d ≡ e = cc in ap (λ u. Closed u d) a ∙ ap (Closed t) z
        by_part (Open u) i = absurd (cc)
        by_part (Joined u) i = absurd (cc)
        by_part (Returned d) i = absurd (cc)
        by_part (Refused d) i = absurd (cc)

  quoted_one : (size b : ℕ) (xs t : List ℕ) (e : ℕ) → line_part (quote_of (b ∷ xs)) (suc at) 0 [] 0 xs ≡ Closed t e → quoted_on s.one_line size (rest_of at (b ∷ xs) ∷ []) ≡ Stands t e
  quoted_one size b xs t e h =
      ap (λ q. cond q (key_part (line_part (quote_of (b ∷ xs)) (suc at) 0 [] 0 xs) (at + suc (length xs))) (behind_part (line_part (quote_of (b ∷ xs)) (suc at) 0 [] 0 xs) (λ j t. quoted_more (quote_of (b ∷ xs)) size [] t j 0))) one ∙ ap (λ p. key_part p (at + suc (length xs))) h

  -- the line of a key that ends with the text is all of the text
  quoted_line : (size : ℕ) (ys t : List ℕ) → quoted_on s.one_line size (lines at ys) ≡ Stands t (at + length ys) → (no_feed ys ≡ true) × (line_at ys ≡ ys)
  quoted_line size ys t h = line_full ys (by_line (line_at ys) (sym (ap (quoted_on s.one_line size) (lines_are at ys)) ∙ h)) where
    by_line : (bytes : List ℕ) → quoted_on s.one_line size (record { at = at; bytes = bytes; broken = has_break ys } ∷ behind at ys) ≡ Stands t (at + length ys) → length ys ≤ length bytes
    by_line [] i = absurd (fails_stands (at + 0) t (at + length ys) (sym (ap (λ q. cond q (Fails (at + 0)) (quoted_more 39 size (behind at ys) (take 0 []) false 0)) one) ∙ i))
    by_line (b ∷ f) i =
        let c = quoted_key size b f (has_break ys) (behind at ys) t (at + length ys) i in
        let z = subst (PartWithin (suc at + length f)) c (part_within (quote_of (b ∷ f)) (suc at) 0 [] 0 f) in
        omega (arith, z)

  quoted_long : (c : ℕ) (v t : List ℕ) → is_fit c ≡ true → no_feed v ≡ true → each is_ascii (c ∷ v) ≡ true → begins_quoted (drop at text) ≡ true → quoted_scalar s (text ++ (c ∷ v)) at ≡ Stands t (length (text ++ (c ∷ v))) → IsLongKey s text at (suc n)
  quoted_long c v t fit feed small q h =
      let z = last_of c v in
      by_last z.0 z.1 z.2 (some_byte (drop at (text ++ z.0)) (let k = length-append text z.0 in omega (arith, l, k, length-drop at (text ++ z.0)))) where
        by_last : (m : List ℕ) (x : ℕ) → c ∷ v ≡ m ++ (x ∷ []) → (b : ℕ) × (g : List ℕ) × (drop at (text ++ m) ≡ b ∷ g) → IsLongKey s text at (suc n)
        by_last m x is (b, g, e) = finish m is where
          size_m : length (text ++ m) ≡ at + suc (length g)
          size_m = let k = ap (λ (y : List ℕ). length y) e in let j = length-append text m in omega (arith, k, j, l, length-drop at (text ++ m))

          dropped : (w : List ℕ) → drop at (text ++ (m ++ w)) ≡ b ∷ (g ++ w)
          dropped w = ap (drop at) (sym (append_assoc text m w)) ∙ drop_before at (text ++ m) w (let k = length-append text m in omega (arith, l, k)) ∙ ap (λ y. y ++ w) e

          whole : text ++ (c ∷ v) ≡ text ++ (m ++ (x ∷ []))
          whole = ap (λ w. text ++ w) is

          old_size : length (text ++ (c ∷ v)) ≡ at + suc (length g + 1)
          old_size = let k = ap (λ (y : List ℕ). length y) (whole ∙ sym (append_assoc text m (x ∷ []))) in let j = size_m in omega (arith, k, j, length-append (text ++ m) (x ∷ []))

          old_line : length (b ∷ (g ++ (x ∷ []))) ≡ suc (length g + 1)
          old_line = ap suc (length-append g (x ∷ []))

          stands : quoted_on s.one_line (length (text ++ (c ∷ v))) (lines at (b ∷ (g ++ (x ∷ [])))) ≡ Stands t (at + length (b ∷ (g ++ (x ∷ []))))
          stands =
              let j = old_size in
              let k = old_line in
              let p : length (text ++ (c ∷ v)) ≡ at + length (b ∷ (g ++ (x ∷ []))) = omega (arith, j, k) in
              ap (λ y. quoted_on s.one_line (length (text ++ (c ∷ v))) (lines at y)) (sym (ap (drop at) whole ∙ dropped (x ∷ []))) ∙ h ∙ ap (Stands t) p

          line : (no_feed (b ∷ (g ++ (x ∷ []))) ≡ true) × (line_at (b ∷ (g ++ (x ∷ []))) ≡ b ∷ (g ++ (x ∷ [])))
          line = quoted_line (length (text ++ (c ∷ v))) (b ∷ (g ++ (x ∷ []))) t stands

          closed : line_part (quote_of (b ∷ (g ++ (x ∷ [])))) (suc at) 0 [] 0 (g ++ (x ∷ [])) ≡ Closed t (at + length (b ∷ (g ++ (x ∷ []))))
          closed =
              quoted_key (length (text ++ (c ∷ v))) b (g ++ (x ∷ [])) (has_break (b ∷ (g ++ (x ∷ [])))) (behind at (b ∷ (g ++ (x ∷ [])))) t (at + length (b ∷ (g ++ (x ∷ []))))
              (ap (λ (y : List ℕ). quoted_on s.one_line (length (text ++ (c ∷ v))) (record { at = at; bytes = y; broken = has_break (b ∷ (g ++ (x ∷ []))) } ∷ behind at (b ∷ (g ++ (x ∷ []))))) (sym line.1)
              ∙ ap (quoted_on s.one_line (length (text ++ (c ∷ v)))) (sym (lines_are at (b ∷ (g ++ (x ∷ []))))) ∙ stands)

          grown : IsGrown (quote_of (b ∷ (g ++ (x ∷ [])))) (suc at) 0 [] 0 g x (suc n)
          grown = insert (quote_of (b ∷ (g ++ (x ∷ [])))) x (suc n) g (suc at) 0 [] 0 t (at + length (b ∷ (g ++ (x ∷ [])))) (omega arith) closed (let k = old_line in omega (arith, k))

          tail : List ℕ
          tail = letters (suc n) ++ (x ∷ [])

          feed_x : no_feed (x ∷ []) ≡ true
          feed_x = feed_back (b ∷ g) (x ∷ []) line.0

          feed_new : no_feed (b ∷ (g ++ (letters (suc n) ++ (x ∷ [])))) ≡ true
          feed_new = feed_both (b ∷ g) (letters (suc n) ++ (x ∷ [])) (feed_front (b ∷ g) (x ∷ []) line.0) (letters_feed (suc n) (x ∷ []) feed_x)

          new_size : length (text ++ (m ++ (letters (suc n) ++ (x ∷ [])))) ≡ suc at + suc (length g + suc n)
          new_size =
              let k = ap (λ (y : List ℕ). length y) (sym (append_assoc text m (letters (suc n) ++ (x ∷ [])))) in
              let j = size_m in
              let y = letters_long (suc n) in
              omega (arith, k, j, y, length-append (text ++ m) (letters (suc n) ++ (x ∷ [])), length-append (letters (suc n)) (x ∷ []))

          key : quoted_scalar s (text ++ (m ++ (letters (suc n) ++ (x ∷ [])))) at ≡ Stands grown.0 (length (text ++ (m ++ (letters (suc n) ++ (x ∷ [])))))
          key =
              ap (λ y. quoted_on s.one_line (length (text ++ (m ++ (letters (suc n) ++ (x ∷ []))))) (lines at y)) (dropped (letters (suc n) ++ (x ∷ [])))
              ∙ ap (quoted_on s.one_line (length (text ++ (m ++ (letters (suc n) ++ (x ∷ [])))))) (one_line at (b ∷ (g ++ (letters (suc n) ++ (x ∷ [])))) feed_new)
              ∙ quoted_one (length (text ++ (m ++ (letters (suc n) ++ (x ∷ []))))) b (g ++ (letters (suc n) ++ (x ∷ []))) grown.0 (suc at + suc (length g + suc n)) grown.3 ∙ ap (Stands grown.0) (sym new_size)

          small_parts : (each is_ascii m ≡ true) × (each is_ascii (x ∷ []) ≡ true)
          small_parts = small_front m (x ∷ []) (sym (ap (each is_ascii) is) ∙ small)

          last : (w : List ℕ) → w ++ (letters (suc n) ++ (x ∷ [])) ≡ (w ++ letters (suc n)) ++ (x ∷ [])
          last w = sym (append_assoc w (letters (suc n)) (x ∷ []))

          at_kind : (w : List ℕ) → quoted_scalar s (text ++ w) at ≡ Stands grown.0 (length (text ++ w)) → scalar_at s (text ++ w) at ≡ Stands grown.0 (length (text ++ w))
          at_kind w k = by_kind s (text ++ w) at one ∙ ap (λ p. cond p (quoted_scalar s (text ++ w) at) (plain_scalar s (text ++ w) at)) (quoted_longer text w at l ∙ q) ∙ k

          finish : (m0 : List ℕ) → c ∷ v ≡ m0 ++ (x ∷ []) → IsLongKey s text at (suc n)
          finish m0 is0 = by_front m refl is where
            by_front : (w : List ℕ) → m ≡ w → c ∷ v ≡ m ++ (x ∷ []) → IsLongKey s text at (suc n)
            by_front [] i k =
                let new : m ++ (letters (suc n) ++ (x ∷ [])) ≡ 97 ∷ (letters n ++ (x ∷ [])) = ap (λ w. w ++ (letters (suc n) ++ (x ∷ []))) i in (
                  97,
                  letters n ++ (x ∷ []),
                  grown.0,
                  refl,
                  letters_feed n (x ∷ []) feed_x,
                  letters_small (suc n) (x ∷ []) small_parts.1,
                  (letters (suc n), x, refl, grown.2),
                  at_kind (97 ∷ (letters n ++ (x ∷ []))) (subst (λ w. quoted_scalar s (text ++ w) at ≡ Stands grown.0 (length (text ++ w))) new key),
                  grown.1,
                )
            by_front (d ∷ w) i k =
                let new : m ++ (letters (suc n) ++ (x ∷ [])) ≡ d ∷ (w ++ (letters (suc n) ++ (x ∷ []))) = ap (λ w. w ++ (letters (suc n) ++ (x ∷ []))) i in
                let same : c ≡ d = head_is c d v (w ++ (x ∷ [])) (k ∙ ap (λ w. w ++ (x ∷ [])) i) in
                let rest : v ≡ w ++ (x ∷ []) = tail_is c d v (w ++ (x ∷ [])) (k ∙ ap (λ w. w ++ (x ∷ [])) i) in (
                  d,
                  w ++ (letters (suc n) ++ (x ∷ [])),
                  grown.0,
                  sym (ap is_fit same) ∙ fit,
                  feed_both w (letters (suc n) ++ (x ∷ [])) (feed_front w (x ∷ []) (sym (ap no_feed rest) ∙ feed)) (letters_feed (suc n) (x ∷ []) feed_x),
                  small_both (d ∷ w) (letters (suc n) ++ (x ∷ [])) (sym (ap (each is_ascii) i) ∙ small_parts.0) (letters_small (suc n) (x ∷ []) small_parts.1),
                  ((d ∷ w) ++ letters (suc n), x, last (d ∷ w), grown.2),
                  at_kind (d ∷ (w ++ (letters (suc n) ++ (x ∷ [])))) (subst (λ w. quoted_scalar s (text ++ w) at ≡ Stands grown.0 (length (text ++ w))) new key),
                  grown.1,
                ) where
                  head_is : (c d : ℕ) (xs ys : List ℕ) → c ∷ xs ≡ d ∷ ys → c ≡ d
                  head_is c d xs ys h = cc

                  tail_is : (c d : ℕ) (xs ys : List ℕ) → c ∷ xs ≡ d ∷ ys → xs ≡ ys
                  tail_is c d xs ys h = cc

  plain_long : (c : ℕ) (v t : List ℕ) → is_fit c ≡ true → no_feed v ≡ true → each is_ascii (c ∷ v) ≡ true → begins_quoted (drop at text) ≡ false → plain_scalar s (text ++ (c ∷ v)) at ≡ Stands t (length (text ++ (c ∷ v))) → IsLongKey s text at (suc n)
  plain_long c v t fit feed small q h = (
    c,
    v ++ letters (suc n),
    ys ++ letters (suc n),
    fit,
    feed_both v (letters (suc n)) feed (subst (λ w. no_feed w ≡ true) (append-nil (letters (suc n))) (letters_feed (suc n) [] refl)),
    small_both (c ∷ v) (letters (suc n)) small (subst (λ w. each is_ascii w ≡ true) (append-nil (letters (suc n))) (letters_small (suc n) [] refl)),
    ((c ∷ v) ++ letters n, 97, ap (λ w. (c ∷ v) ++ w) (letters_last n) ∙ sym (append_assoc (c ∷ v) (letters n) (97 ∷ [])), refl),
    by_kind s (text ++ ((c ∷ v) ++ letters (suc n))) at one ∙ ap (λ p. cond p (quoted_scalar s (text ++ ((c ∷ v) ++ letters (suc n))) at) (plain_scalar s (text ++ ((c ∷ v) ++ letters (suc n))) at)) (quoted_longer text ((c ∷ v) ++ letters (suc n)) at l ∙ q) ∙ key,
    (let y = letters_long (suc n) in omega (arith, y, length-append ys (letters (suc n)))),
  ) where
    ys : List ℕ
    ys = drop at (text ++ (c ∷ v))

    fresh : Bool
    fresh = is_first_column text at

    column : (w : List ℕ) → is_first_column (text ++ w) at ≡ is_first_column text at
    column w = column_longer text w at (omega (arith, l))

    size : length (text ++ (c ∷ v)) ≡ at + length (drop at (text ++ (c ∷ v)))
    size = let k = length-append text (c ∷ v) in omega (arith, l, k, length-drop at (text ++ (c ∷ v)))

    stands : plain_on s (is_first_column text at) (record { at = at; bytes = line_at (drop at (text ++ (c ∷ v))); broken = has_break (drop at (text ++ (c ∷ v))) } ∷ behind at (drop at (text ++ (c ∷ v)))) ≡ Stands t (at + length (drop at (text ++ (c ∷ v))))
    stands =
        ap (plain_on s (is_first_column text at)) (sym (lines_are at (drop at (text ++ (c ∷ v))))) ∙ ap (λ p. plain_on s p (lines at (drop at (text ++ (c ∷ v))))) (sym (column (c ∷ v))) ∙ h ∙ ap (Stands t) size

    tests : ((is_first_column text at && (is_mark (line_at (drop at (text ++ (c ∷ v)))) || is_cut_mark (line_at (drop at (text ++ (c ∷ v)))))) ≡ false) × (begins_plain s.flow (line_at (drop at (text ++ (c ∷ v)))) ≡ true)
        × (content_end s.flow (line_at (drop at (text ++ (c ∷ v)))) at ≡ at + length (drop at (text ++ (c ∷ v))))
    tests = plain_tests s (is_first_column text at) at (line_at (drop at (text ++ (c ∷ v)))) (has_break (drop at (text ++ (c ∷ v)))) (behind at (drop at (text ++ (c ∷ v)))) t (at + length (drop at (text ++ (c ∷ v)))) one stands

    line : (no_feed (drop at (text ++ (c ∷ v))) ≡ true) × (line_at (drop at (text ++ (c ∷ v))) ≡ drop at (text ++ (c ∷ v)))
    line = line_full (drop at (text ++ (c ∷ v))) (let a = tests.2 in let b = content_far s.flow (line_at (drop at (text ++ (c ∷ v)))) at in omega (arith, a, b))

    dropped : drop at (text ++ ((c ∷ v) ++ letters (suc n))) ≡ drop at (text ++ (c ∷ v)) ++ letters (suc n)
    dropped = ap (drop at) (sym (append_assoc text (c ∷ v) (letters (suc n)))) ∙ drop_before at (text ++ (c ∷ v)) (letters (suc n)) (let k = length-append text (c ∷ v) in omega (arith, l, k))

    feed_new : no_feed (drop at (text ++ (c ∷ v)) ++ letters (suc n)) ≡ true
    feed_new = feed_both (drop at (text ++ (c ∷ v))) (letters (suc n)) line.0 (subst (λ w. no_feed w ≡ true) (append-nil (letters (suc n))) (letters_feed (suc n) [] refl))

    new_size : at + length (drop at (text ++ (c ∷ v)) ++ letters (suc n)) ≡ length (text ++ ((c ∷ v) ++ letters (suc n)))
    new_size =
        let a = ap (λ (w : List ℕ). length w) dropped in
        let b = length-append text ((c ∷ v) ++ letters (suc n)) in
        omega (arith, a, b, l, length-drop at (text ++ ((c ∷ v) ++ letters (suc n))))

    key : plain_scalar s (text ++ ((c ∷ v) ++ letters (suc n))) at ≡ Stands (drop at (text ++ (c ∷ v)) ++ letters (suc n)) (length (text ++ ((c ∷ v) ++ letters (suc n))))
    key =
        let is : line_at (drop at (text ++ (c ∷ v))) ≡ drop at (text ++ (c ∷ v)) = line.1 in
        ap (λ p. plain_on s p (lines at (drop at (text ++ ((c ∷ v) ++ letters (suc n)))))) (column ((c ∷ v) ++ letters (suc n))) ∙ ap (λ y. plain_on s (is_first_column text at) (lines at y)) dropped
        ∙ ap (plain_on s (is_first_column text at)) (one_line at (drop at (text ++ (c ∷ v)) ++ letters (suc n)) feed_new)
        ∙ plain_letters s (is_first_column text at) at n (drop at (text ++ (c ∷ v))) one (subst (λ (y : List ℕ). (is_first_column text at && (is_mark y || is_cut_mark y)) ≡ false) is tests.0) (subst (λ (y : List ℕ). begins_plain s.flow y ≡ true) is tests.1)
        (full_len s.flow (drop at (text ++ (c ∷ v))) at (subst (λ (y : List ℕ). content_end s.flow y at ≡ at + length (drop at (text ++ (c ∷ v)))) is tests.2)) ∙ ap (Stands (drop at (text ++ (c ∷ v)) ++ letters (suc n))) new_size

  pub key_long : ends_with 13 text ≡ false → scalar_at s text at ≡ Fails (length text) → IsLongKey s text at (suc n)
  key_long last h =
      let g = scalar_grown s text at l (no_block (drop at text)) last h in
      by_quote (begins_quoted (drop at text)) refl g where
        no_block : (xs : List ℕ) → begins_block s xs ≡ false
        no_block xs = ap (λ o. not (s.flow || o) && (begins_with 124 xs || begins_with 62 xs)) one ∙ by_flow s.flow where
          by_flow : (f : Bool) → (not (f || true) && (begins_with 124 xs || begins_with 62 xs)) ≡ false
          by_flow true = refl
          by_flow false = refl

        by_quote : (q : Bool) → begins_quoted (drop at text) ≡ q
            → (c : ℕ) × (v t : List ℕ) × (is_fit c ≡ true) × (no_feed v ≡ true) × (each is_ascii (c ∷ v) ≡ true) × (scalar_at s (text ++ (c ∷ v)) at ≡ Stands t (length (text ++ (c ∷ v)))) × ((begins_quoted (drop at text) ≡ true) ⊎ (ends_with 97 t ≡ true)) × AllFit (c ∷ v) → IsLongKey s text at (suc n)
        by_quote true q (c, v, t, fit, feed, small, stands, d, all) =
            quoted_long c v t fit feed small q (sym (by_kind s (text ++ (c ∷ v)) at one ∙ ap (λ p. cond p (quoted_scalar s (text ++ (c ∷ v)) at) (plain_scalar s (text ++ (c ∷ v)) at)) (quoted_longer text (c ∷ v) at l ∙ q)) ∙ stands)
        by_quote false q (c, v, t, fit, feed, small, stands, d, all) =
            plain_long c v t fit feed small q (sym (by_kind s (text ++ (c ∷ v)) at one ∙ ap (λ p. cond p (quoted_scalar s (text ++ (c ∷ v)) at) (plain_scalar s (text ++ (c ∷ v)) at)) (quoted_longer text (c ∷ v) at l ∙ q)) ∙ stands)
