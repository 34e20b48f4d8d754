-- Where a plain scalar fails, no text that agrees up to the place and with the byte there has one.
use Rattle.std.proofs.Common.{◌≡◌, ℕ, zero, suc, ◌+◌, ◌≤◌, ◌⊎◌, Bool, true, false, List, [], ◌∷◌, ◌++◌, length, take, drop, refl, sym, ap, inl, inr, ◌∙◌, arith, cond, subst}
use Rattle.std.specs.Prelude.{nat_eq, ◌||◌, ◌&&◌}
use Rattle.std.proofs.lemmas.Bool.Decides.{nat_tests}
use Rattle.yaml_scalars.specs.declared.scalar.Setting.{Setting}
use Rattle.yaml_scalars.specs.declared.plain_line.Why.{Why}
use Rattle.yaml_scalars.specs.declared.plain_line.Why.TheVariants.{Break, Return, Colon, Comment, Mark}
use Rattle.yaml_scalars.specs.declared.plain_line.Below.{Below}
use Rattle.yaml_scalars.specs.declared.plain_line.Below.TheVariants.{Blank, Outside, Further}
use Rattle.yaml_scalars.specs.Lines.{Line, Outcome, Stands, Fails, Documents, ends_with, is_white}
use Rattle.yaml_scalars.specs.Plain.{is_flow_mark, is_unsafe, stops, plain_len, why, reason, below, joined, content_end, ends_on, stop_behind, return_shown, joins, further, more}
use Rattle.yaml_laws.proofs.Agree.{SameAhead, Later}

place : Outcome → ℕ
place (Stands t e) = 0
place (Fails p) = p
place (Documents p) = p

pub fails_same : (p q : ℕ) → Fails p ≡ Fails q → p ≡ q
unfolding place
fails_same p q e = ap place e

-- how a further line comes to fail, or to stand
pub ends_fails : (flow : Bool) (part t : List ℕ) (at e k p : ℕ) → ends_on flow part at t e k ≡ Fails p → ⊥
ends_fails flow part t at e k p h = by_length (nat_eq (plain_len flow false part) 0) h where
  by_length : (q : Bool) → cond q (Stands t e) (Stands (joined flow part t k) (content_end flow part at)) ≡ Fails p → ⊥
  by_length true h = absurd (cc)
  by_length false h = absurd (cc)

abbrev pub FailsAt : Bool → Why → Type 0
FailsAt flow w = (w ≡ Return) ⊎ ((w ≡ Colon) × (flow ≡ false))

-- at the place behind the byte that ends its content, or at a carriage return behind a `:`
abbrev pub FailsBehind : Bool → List ℕ → ℕ → ℕ → Why → Type 0
FailsBehind flow part at p w = (p ≡ at + plain_len flow false part + 1) × FailsAt flow w

abbrev pub FailsBefore : Bool → List ℕ → ℕ → ℕ → Why → Type 0
FailsBefore flow part at p w = (p ≡ at + plain_len flow false part) × (w ≡ Return) × (flow ≡ false) × (ends_with 58 (take (plain_len flow false part) part) ≡ true)

pub return_fails : (flow : Bool) (part : List ℕ) (at p : ℕ) → return_shown flow part at ≡ p → FailsBehind flow part at p Return ⊎ FailsBefore flow part at p Return
return_fails true part at p h = inl (sym h, inl refl)
return_fails false part at p h = by_colon (ends_with 58 (take (plain_len false false part) part)) refl h where
  by_colon : (q : Bool) → ends_with 58 (take (plain_len false false part) part) ≡ q → cond q (at + plain_len false false part) (at + plain_len false false part + 1) ≡ p → FailsBehind false part at p Return ⊎ FailsBefore false part at p Return
  by_colon true e h = inr (sym h, refl, refl, e)
  by_colon false e h = inl (sym h, inl refl)

pub joins_fails : (flow : Bool) (w : Why) (part : List ℕ) (at : ℕ) (t : List ℕ) (e k p : ℕ) (next : List ℕ → ℕ → ℕ → Outcome) → joins flow w part at t e k next ≡ Fails p
    → (next (joined flow part t k) (content_end flow part at) 0 ≡ Fails p) ⊎ (FailsBehind flow part at p w ⊎ FailsBefore flow part at p w)
joins_fails flow Break part at t e k p next h = inl h
joins_fails flow Return part at t e k p next h = inr (return_fails flow part at p (fails_same _ p h))
joins_fails true Colon part at t e k p next h = absurd (ends_fails true part t at e k p h)
joins_fails false Colon part at t e k p next h = inr (inl (sym (fails_same _ p h), inr (refl, refl)))
joins_fails flow Comment part at t e k p next h = absurd (cc)
joins_fails flow Mark part at t e k p next h = absurd (ends_fails flow part t at e k p h)

pub joins_both : (flow : Bool) (w : Why) (part : List ℕ) (at : ℕ) (t : List ℕ) (e k p : ℕ) (next other : List ℕ → ℕ → ℕ → Outcome) (u : List ℕ) (f : ℕ) → joins flow w part at t e k next ≡ Fails p → joins flow w part at t e k other ≡ Stands u f
    → (next (joined flow part t k) (content_end flow part at) 0 ≡ Fails p) × (other (joined flow part t k) (content_end flow part at) 0 ≡ Stands u f)
joins_both flow Break part at t e k p next other u f h g = (h, g)
joins_both flow Return part at t e k p next other u f h g = absurd (cc)
joins_both true Colon part at t e k p next other u f h g = absurd (ends_fails true part t at e k p h)
joins_both false Colon part at t e k p next other u f h g = absurd (cc)
joins_both flow Comment part at t e k p next other u f h g = absurd (cc)
joins_both flow Mark part at t e k p next other u f h g = absurd (ends_fails flow part t at e k p h)

-- lines behind a place do not fail at it
pub more_later : (s : Setting) (p : ℕ) (ls : List Line) (t : List ℕ) (e k : ℕ) → Later p ls → more s ls t e k ≡ Fails p → ⊥
more_later s p [] t e k l h = absurd (cc)
more_later s p (m ∷ ms) t e k l h = by_below (below s m.bytes) h (λ x y z g. more_later s p ms x y z l.1 g) where
  by_below : (w : Below) → further s w m.at m.bytes t e k (more s ms) ≡ Fails p → ((x : List ℕ) (y z : ℕ) → more s ms x y z ≡ Fails p → ⊥) → ⊥
  by_below Blank h r = r t e (suc k) h
  by_below Outside h r = absurd (cc)
  by_below (Further n) h r = elim (joins_fails s.flow (reason s.flow (drop n m.bytes)) (drop n m.bytes) (m.at + n) t e k p (more s ms) h) [
    | inl g ↦ r _ _ _ g
    | inr g ↦ elim g [ inl f ↦ (let b = l.0 in let q = f.0 in absurd (omega (arith, b, q))) | inr f ↦ (let b = l.0 in let q = f.0 in absurd (omega (arith, b, q))) ]
  ]

-- bytes behind which a line goes on: nothing of what follows is asked
byte_ends : (flow white : Bool) (b : ℕ) (r : List ℕ) (c : ℕ) (x y : List ℕ) → stops flow white b (r ++ (c ∷ x)) ≡ stops flow white b (r ++ (c ∷ y))
byte_ends flow white b [] c x y = refl
byte_ends flow white b (d ∷ r) c x y = refl

pub len_front : (flow white : Bool) (r : List ℕ) (c : ℕ) (x y : List ℕ) (q : Bool) → ((w : Bool) → stops flow w c y ≡ q) → plain_len flow white (r ++ (c ∷ x)) ≡ length r → plain_len flow white (r ++ (c ∷ y)) ≡ length r + cond q 0 (suc (plain_len flow (is_white c) y))
len_front flow white [] c x y q b h = let z : 0 + cond q 0 (suc (plain_len flow (is_white c) y)) ≡ cond q 0 (suc (plain_len flow (is_white c) y)) = omega arith in ap (λ s. cond s 0 (suc (plain_len flow (is_white c) y))) (b white) ∙ sym z
len_front flow white (d ∷ r) c x y q b h = by_stop (stops flow white d (r ++ (c ∷ x))) (stops flow white d (r ++ (c ∷ y))) (byte_ends flow white d r c x y) h (λ g. len_front flow (is_white d) r c x y q b g) where
  by_stop : (s o : Bool) → s ≡ o → cond s 0 (suc (plain_len flow (is_white d) (r ++ (c ∷ x)))) ≡ suc (length r) → (plain_len flow (is_white d) (r ++ (c ∷ x)) ≡ length r → plain_len flow (is_white d) (r ++ (c ∷ y)) ≡ length r + cond q 0 (suc (plain_len flow (is_white c) y))) → cond o 0 (suc (plain_len flow (is_white d) (r ++ (c ∷ y)))) ≡ suc (length r) + cond q 0 (suc (plain_len flow (is_white c) y))
  by_stop true o e h g = absurd (omega (arith, h))
  by_stop false true e h g = absurd (cc)
  by_stop false false e h g = let k = g (omega (arith, h)) in omega (arith, k)

-- the same where the byte behind them need not end it
pub len_past : (flow white : Bool) (r : List ℕ) (c : ℕ) (x y : List ℕ) → length r ≤ plain_len flow white (r ++ (c ∷ x)) → ((w : Bool) → stops flow w c y ≡ true) → plain_len flow white (r ++ (c ∷ y)) ≡ length r
len_past flow white [] c x y h b = ap (λ s. cond s 0 (suc (plain_len flow (is_white c) y))) (b white)
len_past flow white (d ∷ r) c x y h b = by_stop (stops flow white d (r ++ (c ∷ x))) (stops flow white d (r ++ (c ∷ y))) (byte_ends flow white d r c x y) h (λ g. len_past flow (is_white d) r c x y g b) where
  by_stop : (s o : Bool) → s ≡ o → suc (length r) ≤ cond s 0 (suc (plain_len flow (is_white d) (r ++ (c ∷ x)))) → (length r ≤ plain_len flow (is_white d) (r ++ (c ∷ x)) → plain_len flow (is_white d) (r ++ (c ∷ y)) ≡ length r) → cond o 0 (suc (plain_len flow (is_white d) (r ++ (c ∷ y)))) ≡ suc (length r)
  by_stop true o e h g = absurd (omega (arith, h))
  by_stop false true e h g = absurd (cc)
  by_stop false false e h g = ap suc (g (omega (arith, h)))

-- the byte behind which it stops does stop it
stop_here : (flow white : Bool) (r : List ℕ) (c : ℕ) (x : List ℕ) → plain_len flow white (r ++ (c ∷ x)) ≡ length r → (w : Bool) × (stops flow w c x ≡ true)
stop_here flow white [] c x h = (white, by_stop (stops flow white c x) h) where
  by_stop : (s : Bool) → cond s 0 (suc (plain_len flow (is_white c) x)) ≡ 0 → s ≡ true
  by_stop true h = refl
  by_stop false h = absurd (omega (arith, h))
stop_here flow white (d ∷ r) c x h = by_stop (stops flow white d (r ++ (c ∷ x))) h (λ g. stop_here flow (is_white d) r c x g) where
  by_stop : (s : Bool) → cond s 0 (suc (plain_len flow (is_white d) (r ++ (c ∷ x)))) ≡ suc (length r) → (plain_len flow (is_white d) (r ++ (c ∷ x)) ≡ length r → (w : Bool) × (stops flow w c x ≡ true)) → (w : Bool) × (stops flow w c x ≡ true)
  by_stop true h g = absurd (omega (arith, h))
  by_stop false h g = g (omega (arith, h))

pub return_stops : (flow w : Bool) (x : List ℕ) → stops flow w 13 x ≡ true
return_stops true w x = refl
return_stops false w x = refl

pub colon_stops : (w : Bool) (x : List ℕ) → stops false w 58 x ≡ is_unsafe false x
colon_stops w x = or_false (is_unsafe false x) where
  or_false : (u : Bool) → (((u || (false && w)) || (false && is_flow_mark 58)) || false) ≡ u
  or_false true = refl
  or_false false = refl

pub drop_front : (n : ℕ) (a w : List ℕ) → n ≤ length a → drop n (a ++ w) ≡ drop n a ++ w
drop_front zero a w l = refl
drop_front (suc n) [] w l = absurd (omega arith)
drop_front (suc n) (x ∷ a) w l = drop_front n a w (omega arith)

pub drop_whole : (r w : List ℕ) → drop (length r) (r ++ w) ≡ w
drop_whole [] w = refl
drop_whole (x ∷ r) w = drop_whole r w

pub drop_length : (n : ℕ) (a : List ℕ) → n ≤ length a → length (drop n a) + n ≡ length a
drop_length zero a l = omega arith
drop_length (suc n) [] l = absurd (omega arith)
drop_length (suc n) (x ∷ a) l = let h = drop_length n a (omega arith) in omega (arith, h)

-- a failing line fails whatever follows the byte that shows it
pub fails_of : (flow : Bool) (w : Why) (part : List ℕ) (at : ℕ) (t : List ℕ) (e k : ℕ) (next : List ℕ → ℕ → ℕ → Outcome) (u : List ℕ) (f : ℕ) → FailsAt flow w → joins flow w part at t e k next ≡ Stands u f → ⊥
fails_of flow w part at t e k next u f (inl r) h = let g = sym (ap (λ w. joins flow w part at t e k next) r) ∙ h in absurd (cc)
fails_of flow w part at t e k next u f (inr c) h = let g = sym (ap (λ w. joins flow w part at t e k next) c.0 ∙ ap (λ q. cond q (ends_on flow part at t e k) (Fails (stop_behind flow part at))) c.1) ∙ h in absurd (cc)

pub why_return : (c : ℕ) (x : List ℕ) → why (c ∷ x) ≡ Return → c ≡ 13
why_return c x h = by_byte (nat_eq c 13) refl h where
  by_byte : (q : Bool) → nat_eq c 13 ≡ q → cond q Return (cond (nat_eq c 58) Colon (cond (nat_eq c 35) Comment Mark)) ≡ Return → c ≡ 13
  by_byte true e h = grind (arith, nat_tests, e)
  by_byte false e h = by_colon (nat_eq c 58) (nat_eq c 35) h where
    by_colon : (q r : Bool) → cond q Colon (cond r Comment Mark) ≡ Return → c ≡ 13
    by_colon true r h = absurd (cc)
    by_colon false true h = absurd (cc)
    by_colon false false h = absurd (cc)

pub why_colon : (c : ℕ) (x : List ℕ) → why (c ∷ x) ≡ Colon → c ≡ 58
why_colon c x h = by_byte (nat_eq c 13) (nat_eq c 58) refl h where
  by_byte : (q r : Bool) → nat_eq c 58 ≡ r → cond q Return (cond r Colon (cond (nat_eq c 35) Comment Mark)) ≡ Colon → c ≡ 58
  by_byte true r e h = absurd (cc)
  by_byte false true e h = grind (arith, nat_tests, e)
  by_byte false false e h = by_comment (nat_eq c 35) h where
    by_comment : (q : Bool) → cond q Comment Mark ≡ Colon → c ≡ 58
    by_comment true h = absurd (cc)
    by_comment false h = absurd (cc)

-- the reason of the other line
pub other_return : (flow : Bool) (r x y : List ℕ) → plain_len flow false (r ++ (13 ∷ x)) ≡ length r → reason flow (r ++ (13 ∷ y)) ≡ Return
other_return flow r x y h =
    let n = len_front flow false r 13 x y true (λ w. return_stops flow w y) h in
    let e : length r + 0 ≡ length r = omega arith in
    ap (λ k. why (drop k (r ++ (13 ∷ y)))) (n ∙ e) ∙ ap why (drop_whole r (13 ∷ y))

other_colon : (r x y : List ℕ) → plain_len false false (r ++ (58 ∷ x)) ≡ length r → is_unsafe false y ≡ true → reason false (r ++ (58 ∷ y)) ≡ Colon
other_colon r x y h u =
    let n = len_front false false r 58 x y true (λ w. colon_stops w y ∙ u) h in
    let e : length r + 0 ≡ length r = omega arith in
    ap (λ k. why (drop k (r ++ (58 ∷ y)))) (n ∙ e) ∙ ap why (drop_whole r (58 ∷ y))

-- a line that ends in a colon
pub colon_last : (r x : List ℕ) → length r ≤ plain_len false false (r ++ (58 ∷ x)) → reason false (r ++ (58 ∷ [])) ≡ Colon
colon_last r x h = ap (λ k. why (drop k (r ++ (58 ∷ [])))) (len_past false false r 58 x [] h (λ w. colon_stops w [])) ∙ ap why (drop_whole r (58 ∷ []))

other_behind : (r x y : List ℕ) → plain_len false false (r ++ (58 ∷ x)) ≡ length r → reason false (r ++ (58 ∷ (13 ∷ y))) ≡ Return
other_behind r x y h =
    let n = len_front false false r 58 x (13 ∷ y) false (λ w. colon_stops w (13 ∷ y)) h in
    let m : reason false (r ++ (58 ∷ (13 ∷ y))) ≡ why (drop (length r + 1) (r ++ (58 ∷ (13 ∷ y)))) = ap (λ k. why (drop k (r ++ (58 ∷ (13 ∷ y))))) n in
    m ∙ ap why (behind_one r (13 ∷ y)) where
      behind_one : (r w : List ℕ) → drop (length r + 1) (r ++ (58 ∷ w)) ≡ w
      behind_one [] w = refl
      behind_one (d ∷ r) w = let e : suc (length r) + 1 ≡ suc (length r + 1) = omega arith in ap (λ k. drop k (d ∷ (r ++ (58 ∷ w)))) e ∙ behind_one r w

-- what is ahead of the colon is the same: the line fails
unsafe_same : (x y : List ℕ) → SameAhead x y → is_unsafe false x ≡ true → (is_unsafe false y ≡ true) ⊎ ((v : List ℕ) × (y ≡ 13 ∷ v))
unsafe_same x y (inl h) u = inl (ap (is_unsafe false) h.4 ∙ sym (ap (is_unsafe false) h.3) ∙ u)
unsafe_same x [] (inr h) u = inl refl
unsafe_same x (d ∷ y) (inr h) u = inr (y, ap (λ c. c ∷ y) h.1)

pub other_fails : (flow : Bool) (r : List ℕ) (c : ℕ) (x y : List ℕ) → plain_len flow false (r ++ (c ∷ x)) ≡ length r → FailsAt flow (why (c ∷ x)) → SameAhead x y → FailsAt flow (reason flow (r ++ (c ∷ y)))
other_fails flow r c x y h (inl w) a =
    let e : c ≡ 13 = why_return c x w in
    inl (ap (λ c. reason flow (r ++ (c ∷ y))) e ∙ other_return flow r x y (subst (λ c. plain_len flow false (r ++ (c ∷ x)) ≡ length r) e h))
other_fails true r c x y h (inr w) a = absurd (let f : true ≡ false = w.1 in cc)
other_fails false r c x y h (inr w) a =
    let e : c ≡ 58 = why_colon c x w.0 in
    let h2 = subst (λ c. plain_len false false (r ++ (c ∷ x)) ≡ length r) e h in
    let s = stop_here false false r 58 x h2 in
    let u : is_unsafe false x ≡ true = sym (colon_stops s.0 x) ∙ s.1 in
    elim (unsafe_same x y a u) [
      | inl v ↦ inr (ap (λ c. reason false (r ++ (c ∷ y))) e ∙ other_colon r x y h2 v, refl)
      | inr v ↦ inl (ap (λ c. reason false (r ++ (c ∷ y))) e ∙ ap (λ y. reason false (r ++ (58 ∷ y))) v.1 ∙ other_behind r x v.0 h2)
    ]
