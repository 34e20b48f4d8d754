-- Where a plain scalar fails, from its first line on.
use Rattle.std.proofs.Common.{◌≡◌, ℕ, suc, ◌+◌, ◌≤◌, ◌⊎◌, Bool, true, false, List, [], ◌∷◌, ◌++◌, length, drop, refl, sym, ap, inl, inr, ◌∙◌, arith, cond, subst, append_assoc}
use Rattle.std.specs.Prelude.{nat_eq, ◌||◌, ◌&&◌, not}
use Rattle.std.proofs.lemmas.Bool.Decides.{nat_tests}
use Rattle.yaml_scalars.specs.declared.scalar.Setting.{Setting}
use Rattle.yaml_scalars.specs.declared.plain_line.Why.{Why}
use Rattle.yaml_scalars.specs.declared.plain_line.Why.TheVariants.{Break, Return, Colon, Comment, Mark}
use Rattle.yaml_scalars.specs.Lines.{Line, Outcome, Stands, Fails, begins_with, is_white, is_mark, is_cut_mark, is_end}
use Rattle.yaml_scalars.specs.Plain.{is_indicator, is_doubtful, is_unsafe, begins_plain, wrong_begin, plain_len, content, content_end, reason, first, more, plain_on, below, further}
use Rattle.yaml_laws.proofs.Agree.{IsReturn, SameAhead, Later, Within, SplitAt, Shares}
use Rattle.yaml_scalars.specs.declared.plain_line.Below.{Below}
use Rattle.yaml_scalars.specs.declared.plain_line.Below.TheVariants.{Blank, Outside, Further}
use Rattle.yaml_laws.proofs.PlainDead.{fails_same, more_later, why_return, other_return, joins_fails}
use Rattle.yaml_laws.proofs.PlainShown.{fail_parts, fail_within, split_same, more_dead}
use Rattle.yaml_scalars.proofs.FurtherLines.{skip_le}

-- a mark, or one cut by a carriage return
abbrev pub marked : List ℕ → Bool
marked xs = is_mark xs || is_cut_mark xs

-- how a first line comes to fail
first_fails : (s : Setting) (w : Why) (at : ℕ) (xs : List ℕ) (ls : List Line) (p : ℕ) → first s w at xs ls ≡ Fails p → ((w ≡ Return) × (p ≡ at + plain_len s.flow false xs + 1)) ⊎ (more s ls (content s.flow xs) (content_end s.flow xs at) 0 ≡ Fails p)
first_fails s Break at xs ls p h = by_line s.one_line h where
  by_line : (q : Bool) → cond q (Stands (content s.flow xs) (content_end s.flow xs at)) (more s ls (content s.flow xs) (content_end s.flow xs at) 0) ≡ Fails p → ((Break ≡ Return) × (p ≡ at + plain_len s.flow false xs + 1)) ⊎ (more s ls (content s.flow xs) (content_end s.flow xs at) 0 ≡ Fails p)
  by_line true h = absurd (cc)
  by_line false h = inr h
first_fails s Return at xs ls p h = inl (refl, sym (fails_same _ p h))
first_fails s Colon at xs ls p h = absurd (cc)
first_fails s Comment at xs ls p h = absurd (cc)
first_fails s Mark at xs ls p h = absurd (cc)

abbrev pub opens : Setting → ℕ → List ℕ → List Line → Bool → Bool → Outcome
opens s at xs ls mark begins = cond mark (Fails (at + 3)) (cond begins (first s (reason s.flow xs) at xs ls) (Fails (wrong_begin at xs)))

-- in the ways that a first line fails: as a mark, at what begins no scalar, or as above
abbrev pub FirstFails : Setting → Bool → ℕ → List ℕ → List Line → ℕ → Type 0
FirstFails s fresh at xs ls p =
    (((fresh && marked xs) ≡ true) × (p ≡ at + 3))
    ⊎ (((begins_plain s.flow xs ≡ false) × (p ≡ wrong_begin at xs))
    ⊎ ((begins_plain s.flow xs ≡ true) × (((reason s.flow xs ≡ Return) × (p ≡ at + plain_len s.flow false xs + 1)) ⊎ (more s ls (content s.flow xs) (content_end s.flow xs at) 0 ≡ Fails p))))

pub opens_fails : (s : Setting) (fresh : Bool) (at : ℕ) (xs : List ℕ) (ls : List Line) (p : ℕ) → opens s at xs ls (fresh && marked xs) (begins_plain s.flow xs) ≡ Fails p → FirstFails s fresh at xs ls p
opens_fails s fresh at xs ls p h = by_tests (fresh && marked xs) (begins_plain s.flow xs) refl refl h where
  by_tests : (m b : Bool) → (fresh && marked xs) ≡ m → begins_plain s.flow xs ≡ b → opens s at xs ls m b ≡ Fails p → FirstFails s fresh at xs ls p
  by_tests true b e f h = inl (e, sym (fails_same _ p h))
  by_tests false false e f h = inr (inl (f, sym (fails_same _ p h)))
  by_tests false true e f h = inr (inr (f, first_fails s (reason s.flow xs) at xs ls p h))

-- what a line that begins no scalar, or stops at a carriage return, cannot be
not_begun : (s : Setting) (fresh : Bool) (m : Line) (ms : List Line) (u : List ℕ) (f : ℕ) → begins_plain s.flow m.bytes ≡ false → plain_on s fresh (m ∷ ms) ≡ Stands u f → ⊥
not_begun s fresh m ms u f b h = by_tests (fresh && marked m.bytes) (begins_plain s.flow m.bytes) b h where
  by_tests : (q r : Bool) → r ≡ false → opens s m.at m.bytes ms q r ≡ Stands u f → ⊥
  by_tests true r e h = absurd (cc)
  by_tests false false e h = absurd (cc)
  by_tests false true e h = absurd (cc)

not_marked : (s : Setting) (fresh : Bool) (m : Line) (ms : List Line) (u : List ℕ) (f : ℕ) → (fresh && marked m.bytes) ≡ true → plain_on s fresh (m ∷ ms) ≡ Stands u f → ⊥
not_marked s fresh m ms u f b h = by_tests (fresh && marked m.bytes) (begins_plain s.flow m.bytes) b h where
  by_tests : (q r : Bool) → q ≡ true → opens s m.at m.bytes ms q r ≡ Stands u f → ⊥
  by_tests true r e h = absurd (cc)
  by_tests false r e h = absurd (cc)

not_returned : (s : Setting) (fresh : Bool) (m : Line) (ms : List Line) (u : List ℕ) (f : ℕ) → reason s.flow m.bytes ≡ Return → plain_on s fresh (m ∷ ms) ≡ Stands u f → ⊥
not_returned s fresh m ms u f b h = by_tests (fresh && marked m.bytes) (begins_plain s.flow m.bytes) (reason s.flow m.bytes) b h where
  by_tests : (q r : Bool) (w : Why) → w ≡ Return → cond q (Fails (m.at + 3)) (cond r (first s w m.at m.bytes ms) (Fails (wrong_begin m.at m.bytes))) ≡ Stands u f → ⊥
  by_tests true r w e h = absurd (cc)
  by_tests false false w e h = absurd (cc)
  by_tests false true Return e h = absurd (cc)
  by_tests false true Break e h = absurd (cc)
  by_tests false true Colon e h = absurd (cc)
  by_tests false true Comment e h = absurd (cc)
  by_tests false true Mark e h = absurd (cc)

-- the same first line, before other lines
same_first : (s : Setting) (fresh : Bool) (p : ℕ) (l : Line) (ls ms : List Line) (u : List ℕ) (f : ℕ) → Shares p ls ms → plain_on s fresh (l ∷ ls) ≡ Fails p → plain_on s fresh (l ∷ ms) ≡ Stands u f → ⊥
same_first s fresh p l ls ms u f sh h g = by_tests (fresh && marked l.bytes) (begins_plain s.flow l.bytes) (reason s.flow l.bytes) h g where
  by_line : (o : Bool) → cond o (Stands (content s.flow l.bytes) (content_end s.flow l.bytes l.at)) (more s ls (content s.flow l.bytes) (content_end s.flow l.bytes l.at) 0) ≡ Fails p → cond o (Stands (content s.flow l.bytes) (content_end s.flow l.bytes l.at)) (more s ms (content s.flow l.bytes) (content_end s.flow l.bytes l.at) 0) ≡ Stands u f → ⊥
  by_line true h g = absurd (cc)
  by_line false h g = more_dead s p ls ms (content s.flow l.bytes) (content_end s.flow l.bytes l.at) 0 u f sh h g

  by_tests : (q r : Bool) (w : Why) → cond q (Fails (l.at + 3)) (cond r (first s w l.at l.bytes ls) (Fails (wrong_begin l.at l.bytes))) ≡ Fails p → cond q (Fails (l.at + 3)) (cond r (first s w l.at l.bytes ms) (Fails (wrong_begin l.at l.bytes))) ≡ Stands u f → ⊥
  by_tests true r w h g = absurd (cc)
  by_tests false false w h g = absurd (cc)
  by_tests false true Break h g = by_line s.one_line h g
  by_tests false true Return h g = absurd (cc)
  by_tests false true Colon h g = absurd (cc)
  by_tests false true Comment h g = absurd (cc)
  by_tests false true Mark h g = absurd (cc)

-- three bytes of a mark
both : (p q : Bool) → (p && q) ≡ true → (p ≡ true) × (q ≡ true)
both true true h = (refl, refl)
both true false h = absurd (cc)
both false q h = absurd (cc)

abbrev pub dash : ℕ → Bool
dash b = nat_eq b 45 || nat_eq b 46

abbrev pub marks_end : List ℕ → Bool
marks_end r = is_end r || begins_with 13 r

mark_tests : (d e f g h : Bool) → ((d && (e && (f && g))) || (d && (e && (f && h)))) ≡ true → (d ≡ true) × (e ≡ true) × (f ≡ true) × ((g || h) ≡ true)
mark_tests true true true g h k = (refl, refl, refl, k)
mark_tests true true false g h k = absurd (cc)
mark_tests true false f g h k = absurd (cc)
mark_tests false e f g h k = absurd (cc)

pub mark_of : (xs : List ℕ) → marked xs ≡ true → (a b c : ℕ) × (r : List ℕ) × (xs ≡ a ∷ b ∷ c ∷ r) × (dash a ≡ true) × (nat_eq a b ≡ true) × (nat_eq a c ≡ true) × (marks_end r ≡ true)
mark_of [] h = absurd (cc)
mark_of (a ∷ []) h = absurd (cc)
mark_of (a ∷ b ∷ []) h = absurd (cc)
mark_of (a ∷ b ∷ c ∷ r) h = let t = mark_tests (dash a) (nat_eq a b) (nat_eq a c) (is_end r) (begins_with 13 r) h in (a, b, c, r, refl, t.0, t.1, t.2, t.3)

pub mark_length : (xs : List ℕ) → marked xs ≡ true → 3 ≤ length xs
mark_length xs h = let m = mark_of xs h in let e = ap (λ (t : List ℕ). length t) m.4 in omega (arith, e)

pub mark_made : (a b c : ℕ) (r : List ℕ) → dash a ≡ true → nat_eq a b ≡ true → nat_eq a c ≡ true → marks_end r ≡ true → marked (a ∷ b ∷ c ∷ r) ≡ true
mark_made a b c r x y z w = by_tests (dash a) (nat_eq a b) (nat_eq a c) x y z where
  by_tests : (d e f : Bool) → d ≡ true → e ≡ true → f ≡ true → ((d && (e && (f && is_end r))) || (d && (e && (f && begins_with 13 r)))) ≡ true
  by_tests true true true x y z = w
  by_tests false e f x y z = absurd (cc)
  by_tests true false f x y z = absurd (cc)
  by_tests true true false x y z = absurd (cc)

pub three : (front x r : List ℕ) (a b c at : ℕ) → a ∷ b ∷ c ∷ r ≡ front ++ x → at + length front ≡ at + 3 → (front ≡ a ∷ b ∷ c ∷ []) × (r ≡ x)
three [] x r a b c at e l = absurd (omega (arith, l))
three (d ∷ []) x r a b c at e l = absurd (omega (arith, l))
three (d ∷ f ∷ []) x r a b c at e l = absurd (omega (arith, l))
three (d ∷ f ∷ g ∷ []) x r a b c at e l =
    let h : a ≡ d = cc in
    let i : b ≡ f = cc in
    let j : c ≡ g = cc in
    (ap (λ k. k ∷ f ∷ g ∷ []) (sym h) ∙ ap (λ k. a ∷ k ∷ g ∷ []) (sym i) ∙ ap (λ k. a ∷ b ∷ k ∷ []) (sym j), cc)
three (d ∷ f ∷ g ∷ i ∷ front) x r a b c at e l = absurd (omega (arith, l))

end_same : (r y : List ℕ) → SameAhead r y → marks_end r ≡ true → marks_end y ≡ true
end_same r y (inl h) e = ap marks_end h.4 ∙ sym (ap marks_end h.3) ∙ e
end_same r [] (inr h) e = refl
end_same r (d ∷ y) (inr h) e = ap (λ (c : ℕ). marks_end (c ∷ y)) h.1

-- a text that goes on otherwise behind a mark has one there, too
mark_dead : (s : Setting) (fresh : Bool) (p at : ℕ) (l : List ℕ) (m : Line) (ms : List Line) (u : List ℕ) (f : ℕ) → (fresh && marked l) ≡ true → p ≡ at + 3 → SplitAt p at l m.bytes → plain_on s fresh (m ∷ ms) ≡ Stands u f → ⊥
mark_dead s fresh p at l m ms u f h q sp g =
    let b = both fresh (marked l) h in
    let k = mark_of l b.1 in
    let t = three sp.0 sp.1 k.3 k.0 k.1 k.2 at (sym k.4 ∙ sp.3) (sp.5 ∙ q) in
    let other : m.bytes ≡ k.0 ∷ k.1 ∷ k.2 ∷ sp.2 = sp.4 ∙ ap (λ z. z ++ sp.2) t.0 in
    let same : SameAhead k.3 sp.2 = subst (λ z. SameAhead z sp.2) (sym t.1) sp.6 in
    not_marked s fresh m ms u f (ap (λ q. q && marked m.bytes) b.0 ∙ ap marked other ∙ mark_made k.0 k.1 k.2 sp.2 k.5 k.6 k.7 (end_same k.3 sp.2 same k.8)) g

-- a carriage return on the first line
return_dead : (s : Setting) (fresh : Bool) (p at : ℕ) (l : List ℕ) (m : Line) (ms : List Line) (u : List ℕ) (f : ℕ) → reason s.flow l ≡ Return → p ≡ at + plain_len s.flow false l + 1 → SplitAt p at l m.bytes → plain_on s fresh (m ∷ ms) ≡ Stands u f → ⊥
return_dead s fresh p at l m ms u f h q sp g =
    let d = fail_parts s.flow l 0 (omega arith) (inl h) in
    let a = d.0 in
    let z = d.1 in
    let c = d.2 in
    let size : length sp.0 ≡ suc (length a) = omega (arith, sp.5, q, d.4) in
    let j = split_same sp.0 sp.1 a z c (sym sp.3 ∙ d.3) size in
    let other : m.bytes ≡ a ++ (c ∷ sp.2) = sp.4 ∙ ap (λ f. f ++ sp.2) j.0 ∙ append_assoc a (c ∷ []) sp.2 in
    let e : c ≡ 13 = why_return c z (sym d.9 ∙ h) in
    let short : plain_len s.flow false (a ++ (13 ∷ z)) ≡ length a = subst (λ c. plain_len s.flow false (a ++ (c ∷ z)) ≡ length a) e d.7 in
    not_returned s fresh m ms u f (ap (reason s.flow) other ∙ ap (λ c. reason s.flow (a ++ (c ∷ sp.2))) e ∙ other_return s.flow a z sp.2 short) g

-- what begins no scalar
firm_begin : (x d u v : Bool) → d ≡ false → (x && (not d || not u)) ≡ false → (x && (not d || not v)) ≡ false
firm_begin true false u v e h = absurd (cc)
firm_begin false false u v e h = refl
firm_begin x true u v e h = absurd (cc)

abbrev pub may_begin : ℕ → Bool
may_begin b = not (is_white b || is_indicator b || nat_eq b 13)

-- not safe, or a carriage return
abbrev pub bare : Bool → List ℕ → Bool
bare flow bs = is_unsafe flow bs || begins_with 13 bs

doubtful_begins : (b : ℕ) → is_doubtful b ≡ true → may_begin b ≡ true
doubtful_begins b h = grind (arith, nat_tests, h)

unsafe_then : (x d u : Bool) → x ≡ true → d ≡ true → (x && (not d || not u)) ≡ false → u ≡ true
unsafe_then true true true e f h = refl
unsafe_then true true false e f h = absurd (cc)
unsafe_then true false u e f h = absurd (cc)
unsafe_then false d u e f h = absurd (cc)

none_then : (x d u : Bool) → d ≡ true → u ≡ true → (x && (not d || not u)) ≡ false
none_then true true true e f = refl
none_then false true true e f = refl
none_then x false u e f = absurd (cc)
none_then x true false e f = absurd (cc)

pub bare_return : (flow : Bool) (d : ℕ) (y : List ℕ) → d ≡ 13 → bare flow (d ∷ y) ≡ true
bare_return true d y e = ap (λ (c : ℕ). bare true (c ∷ y)) e
bare_return false d y e = ap (λ (c : ℕ). bare false (c ∷ y)) e

bare_same : (flow : Bool) (x y : List ℕ) → SameAhead x y → bare flow x ≡ true → bare flow y ≡ true
bare_same flow x y (inl h) u = ap (bare flow) h.4 ∙ sym (ap (bare flow) h.3) ∙ u
bare_same flow x [] (inr h) u = refl
bare_same flow x (d ∷ y) (inr h) u = bare_return flow d y h.1

begins_none : (flow : Bool) (y : List ℕ) → IsReturn y → begins_plain flow y ≡ false
begins_none flow [] h = refl
begins_none flow (d ∷ y) h = ap (λ c. begins_plain flow (c ∷ y)) h

-- the first byte itself
firm_dead : (flow : Bool) (b : ℕ) (bs y : List ℕ) → is_doubtful b ≡ false → begins_plain flow (b ∷ bs) ≡ false → SameAhead (b ∷ bs) y → begins_plain flow y ≡ false
firm_dead flow b bs y d h (inl a) =
    let e : b ≡ a.0 = (let q = a.3 in cc) in
    ap (begins_plain flow) a.4 ∙ ap (λ c. begins_plain flow (c ∷ a.2)) (sym e) ∙ firm_begin (may_begin b) (is_doubtful b) (bare flow bs) (bare flow a.2) d h
firm_dead flow b bs y d h (inr a) = begins_none flow y a.1

one : (front x bs : List ℕ) (b at : ℕ) → b ∷ bs ≡ front ++ x → at + length front ≡ suc at → (front ≡ b ∷ []) × (bs ≡ x)
one [] x bs b at e l = absurd (omega (arith, l))
one (d ∷ []) x bs b at e l = let h : b ≡ d = cc in (ap (λ k. k ∷ []) (sym h), cc)
one (d ∷ f ∷ front) x bs b at e l = absurd (omega (arith, l))

empty_front : (front x l : List ℕ) (at : ℕ) → l ≡ front ++ x → at + length front ≡ at → (front ≡ []) × (l ≡ x)
empty_front [] x l at e h = (refl, e)
empty_front (d ∷ front) x l at e h = absurd (omega (arith, h))

wrong_dead : (s : Setting) (fresh : Bool) (p at : ℕ) (l : List ℕ) (m : Line) (ms : List Line) (u : List ℕ) (f : ℕ) → begins_plain s.flow l ≡ false → p ≡ wrong_begin at l → SplitAt p at l m.bytes → plain_on s fresh (m ∷ ms) ≡ Stands u f → ⊥
wrong_dead s fresh p at [] m ms u f h q sp g =
    let t = empty_front sp.0 sp.1 [] at sp.3 (sp.5 ∙ q) in
    let other : m.bytes ≡ sp.2 = sp.4 ∙ ap (λ z. z ++ sp.2) t.0 in
    not_begun s fresh m ms u f (ap (begins_plain s.flow) other ∙ by_same sp.2 (subst (λ z. SameAhead z sp.2) (sym t.1) sp.6)) g where
      by_same : (y : List ℕ) → SameAhead [] y → begins_plain s.flow y ≡ false
      by_same y (inl a) = absurd (let q = a.3 in cc)
      by_same y (inr a) = begins_none s.flow y a.1
wrong_dead s fresh p at (b ∷ bs) m ms u f h q sp g = by_doubt (is_doubtful b) refl q where
  by_doubt : (d : Bool) → is_doubtful b ≡ d → p ≡ cond d (suc at) at → ⊥
  by_doubt false d q =
      let t = empty_front sp.0 sp.1 (b ∷ bs) at sp.3 (sp.5 ∙ q) in
      let other : m.bytes ≡ sp.2 = sp.4 ∙ ap (λ z. z ++ sp.2) t.0 in
      not_begun s fresh m ms u f (ap (begins_plain s.flow) other ∙ firm_dead s.flow b bs sp.2 d h (subst (λ z. SameAhead z sp.2) (sym t.1) sp.6)) g
  by_doubt true d q =
      let t = one sp.0 sp.1 bs b at sp.3 (sp.5 ∙ q) in
      let other : m.bytes ≡ b ∷ sp.2 = sp.4 ∙ ap (λ z. z ++ sp.2) t.0 in
      let same : SameAhead bs sp.2 = subst (λ z. SameAhead z sp.2) (sym t.1) sp.6 in
      let unsafe = unsafe_then (may_begin b) (is_doubtful b) (bare s.flow bs) (doubtful_begins b d) d h in
      not_begun s fresh m ms u f (ap (begins_plain s.flow) other ∙ none_then (may_begin b) (is_doubtful b) (bare s.flow sp.2) d (bare_same s.flow bs sp.2 same unsafe)) g

wrong_from : (at : ℕ) (xs : List ℕ) → at ≤ wrong_begin at xs
wrong_from at [] = omega arith
wrong_from at (b ∷ bs) = by_doubt (is_doubtful b) where
  by_doubt : (d : Bool) → at ≤ cond d (suc at) at
  by_doubt true = omega arith
  by_doubt false = omega arith

pub wrong_to : (at : ℕ) (xs : List ℕ) → wrong_begin at xs ≤ at + length xs
wrong_to at [] = omega arith
wrong_to at (b ∷ bs) = by_doubt (is_doubtful b) where
  by_doubt : (d : Bool) → cond d (suc at) at ≤ at + suc (length bs)
  by_doubt true = omega arith
  by_doubt false = omega arith

-- lines that agree up to a place at which the first ones fail: the others have no scalar
pub plain_dead : (s : Setting) (fresh : Bool) (p : ℕ) (ls ms : List Line) (u : List ℕ) (f : ℕ) → Shares p ls ms → plain_on s fresh ls ≡ Fails p → plain_on s fresh ms ≡ Stands u f → ⊥
plain_dead s fresh p [] ms u f sh h g = sh
plain_dead s fresh p (l ∷ ls) [] u f sh h g = sh
plain_dead s fresh p (l ∷ ls) (m ∷ ms) u f (inl q) h g = same_first s fresh p l ls ms u f q.1 h (subst (λ m. plain_on s fresh (m ∷ ms) ≡ Stands u f) (sym q.0) g)
plain_dead s fresh p (l ∷ ls) (m ∷ ms) u f (inr (inl q)) h g =
    elim (opens_fails s fresh l.at l.bytes ls p h) [
      | inl x ↦ mark_dead s fresh p l.at l.bytes m ms u f x.0 x.1 q.1 g
      | inr x ↦ elim x [
        | inl y ↦ wrong_dead s fresh p l.at l.bytes m ms u f y.0 y.1 q.1 g
        | inr y ↦ elim y.1 [ inl z ↦ return_dead s fresh p l.at l.bytes m ms u f z.0 z.1 q.1 g | inr z ↦ more_later s p ls _ _ _ q.2 z ]
      ]
    ]
plain_dead s fresh p (l ∷ ls) (m ∷ ms) u f (inr (inr q)) h g =
    let e = q.1 in
    elim (opens_fails s fresh l.at l.bytes ls p h) [
      | inl x ↦ (let b = both fresh (marked l.bytes) x.0 in let k = mark_length l.bytes b.1 in let i = x.1 in absurd (omega (arith, e, k, i)))
      | inr x ↦ elim x [
        | inl y ↦ (let k = wrong_to l.at l.bytes in let i = y.1 in absurd (omega (arith, e, k, i)))
        | inr y ↦ elim y.1 [ inl z ↦ (let k = fail_within s.flow l.bytes 0 (omega arith) (inl z.0) in let i = z.1 in absurd (omega (arith, e, k, i))) | inr z ↦ more_later s p ls _ _ _ q.2 z ]
      ]
    ]

-- it fails within the lines
pub plain_from : (s : Setting) (fresh : Bool) (p : ℕ) (l : Line) (ls : List Line) → Later p (l ∷ ls) → plain_on s fresh (l ∷ ls) ≡ Fails p → ⊥
plain_from s fresh p l ls a h =
    let e = a.0 in
    elim (opens_fails s fresh l.at l.bytes ls p h) [
      | inl x ↦ (let i = x.1 in absurd (omega (arith, e, i)))
      | inr x ↦ elim x [
        | inl y ↦ (let k = wrong_from l.at l.bytes in let i = y.1 in absurd (omega (arith, e, k, i)))
        | inr y ↦ elim y.1 [ inl z ↦ (let i = z.1 in absurd (omega (arith, e, i))) | inr z ↦ more_later s p ls _ _ _ a.1 z ]
      ]
    ]

more_to : (s : Setting) (size p : ℕ) (ls : List Line) (t : List ℕ) (e k : ℕ) → Within size ls → more s ls t e k ≡ Fails p → p ≤ size
more_to s size p [] t e k w h = absurd (cc)
more_to s size p (l ∷ ls) t e k w h = by_below (below s l.bytes) refl h (λ x y z g. more_to s size p ls x y z w.1 g) where
  by_below : (b : Below) → below s l.bytes ≡ b → further s b l.at l.bytes t e k (more s ls) ≡ Fails p → ((x : List ℕ) (y z : ℕ) → more s ls x y z ≡ Fails p → p ≤ size) → p ≤ size
  by_below Blank b h r = r t e (suc k) h
  by_below Outside b h r = absurd (cc)
  by_below (Further n) b h r = elim (joins_fails s.flow (reason s.flow (drop n l.bytes)) (drop n l.bytes) (l.at + n) t e k p (more s ls) h) [
    | inl i ↦ r _ _ _ i
    | inr i ↦ elim i [
      | inl j ↦ (let v = fail_within s.flow l.bytes n (skip_le s l.bytes n b) j.1 in let y = j.0 in let z = w.0 in omega (arith, v, y, z))
      | inr j ↦ (let v = fail_within s.flow l.bytes n (skip_le s l.bytes n b) (inl j.1) in let y = j.0 in let z = w.0 in omega (arith, v, y, z))
    ]
  ]

pub plain_to : (s : Setting) (fresh : Bool) (size p : ℕ) (l : Line) (ls : List Line) → Within size (l ∷ ls) → plain_on s fresh (l ∷ ls) ≡ Fails p → p ≤ size
plain_to s fresh size p l ls w h =
    let e = w.0 in
    elim (opens_fails s fresh l.at l.bytes ls p h) [
      | inl x ↦ (let b = both fresh (marked l.bytes) x.0 in let k = mark_length l.bytes b.1 in let i = x.1 in omega (arith, e, k, i))
      | inr x ↦ elim x [
        | inl y ↦ (let k = wrong_to l.at l.bytes in let i = y.1 in omega (arith, e, k, i))
        | inr y ↦ elim y.1 [ inl z ↦ (let k = fail_within s.flow l.bytes 0 (omega arith) (inl z.0) in let i = z.1 in omega (arith, e, k, i)) | inr z ↦ more_to s size p ls _ _ _ w.1 z ]
      ]
    ]
