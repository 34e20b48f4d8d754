-- Where a plain scalar fails at the text's end, a longer text has one.
use Rattle.std.proofs.Common.{◌≡◌, ℕ, zero, suc, ◌+◌, ◌<◌, ◌≤◌, ◌⊎◌, Bool, true, false, List, [], ◌∷◌, ◌++◌, length, take, drop, refl, sym, ap, inl, inr, ◌∙◌, arith, cond, subst, append_assoc, append-nil, length-append}
use Rattle.std.specs.Prelude.{nat_eq, nat_lt, not, ◌||◌, ◌&&◌}
use Rattle.std.proofs.lemmas.Bool.Decides.{nat_tests}
use Rattle.std.proofs.lemmas.List.{take_all}
use Rattle.yaml_scalars.specs.declared.scalar.Setting.{Setting}
use Rattle.yaml_scalars.specs.declared.plain_line.Why.{Why}
use Rattle.yaml_scalars.specs.declared.plain_line.Why.TheVariants.{Break, Return, Colon, Comment, Mark}
use Rattle.yaml_scalars.specs.declared.plain_line.Below.{Below}
use Rattle.yaml_scalars.specs.declared.plain_line.Below.TheVariants.{Blank, Outside, Further}
use Rattle.yaml_scalars.specs.Lines.{Line, Outcome, Stands, Fails, begins_with, ends_with, is_white, is_space, is_blank, is_mark, lead, indent, past_white, keep, trimmed, fold}
use Rattle.yaml_scalars.specs.Plain.{above_of, is_flow_mark, is_unsafe, is_doubtful, begins_plain, wrong_begin, stops, plain_len, content, content_end, why, reason, content_at, inside, below, joined, ends_on, return_shown, joins, further, first, more, plain_on}
use Rattle.yaml_laws.proofs.Agree.{drop_before, drop_size}
use Rattle.yaml_laws.proofs.Longer.{glue, rest_of, last_line, ended, cut, Ends, ends_last, IsScalar}
use Rattle.yaml_laws.proofs.BlockHeads.{cases}
use Rattle.yaml_laws.proofs.BlockShown.{blank_less, lead_ended, spaces_less}
use Rattle.yaml_scalars.proofs.FurtherLines.{below_inside, skip_le}
use Rattle.yaml_laws.proofs.PlainDead.{fails_same, ends_fails, why_return, why_colon, return_stops, colon_stops, len_front, drop_whole, drop_length}
use Rattle.yaml_laws.proofs.PlainShown.{shown_colon, below_front, fail_parts, fail_within, take_front}
use Rattle.yaml_laws.proofs.PlainLaw.{marked, opens, dash, marks_end, mark_of, mark_made, mark_length, may_begin, bare, bare_return, wrong_to}

-- a further line: the scalar goes on, whatever follows, or fails at a carriage return or a colon
abbrev pub Goes : Bool → Why → List ℕ → ℕ → List ℕ → ℕ → ℕ → ℕ → (List ℕ → ℕ → ℕ → Outcome) → Type 0
Goes flow w part at t e k p next = (next (joined flow part t k) (content_end flow part at) 0 ≡ Fails p) × ((other : List ℕ → ℕ → ℕ → Outcome) → joins flow w part at t e k other ≡ other (joined flow part t k) (content_end flow part at) 0)

abbrev pub Returns : Bool → Why → List ℕ → ℕ → ℕ → Type 0
Returns flow w part at p = (w ≡ Return) × (return_shown flow part at ≡ p)

abbrev pub Colons : Bool → Why → List ℕ → ℕ → ℕ → Type 0
Colons flow w part at p = (w ≡ Colon) × (flow ≡ false) × (at + plain_len flow false part + 1 ≡ p)

pub joins_cases : (flow : Bool) (w : Why) (part : List ℕ) (at : ℕ) (t : List ℕ) (e k p : ℕ) (next : List ℕ → ℕ → ℕ → Outcome) → joins flow w part at t e k next ≡ Fails p → Goes flow w part at t e k p next ⊎ (Returns flow w part at p ⊎ Colons flow w part at p)
joins_cases flow Break part at t e k p next h = inl (h, λ other. refl)
joins_cases flow Return part at t e k p next h = inr (inl (refl, fails_same _ p h))
joins_cases true Colon part at t e k p next h = absurd (ends_fails true part t at e k p h)
joins_cases false Colon part at t e k p next h = inr (inr (refl, refl, fails_same _ p h))
joins_cases flow Comment part at t e k p next h = absurd (cc)
joins_cases flow Mark part at t e k p next h = absurd (ends_fails flow part t at e k p h)

pub shown_cases : (flow : Bool) (part : List ℕ) (at p : ℕ) → return_shown flow part at ≡ p → (at + plain_len flow false part ≡ p) ⊎ ((at + plain_len flow false part + 1 ≡ p) × ((not flow && ends_with 58 (take (plain_len flow false part) part)) ≡ false))
shown_cases flow part at p h = by_test (not flow && ends_with 58 (take (plain_len flow false part) part)) h where
  by_test : (q : Bool) → cond q (at + plain_len flow false part) (at + plain_len flow false part + 1) ≡ p → (at + plain_len flow false part ≡ p) ⊎ ((at + plain_len flow false part + 1 ≡ p) × (q ≡ false))
  by_test true h = inl h
  by_test false h = inr (h, refl)

-- a further line on which a scalar stands
ends_stands : (flow : Bool) (part : List ℕ) (at : ℕ) (t : List ℕ) (e k : ℕ) → IsScalar (ends_on flow part at t e k)
ends_stands flow part at t e k = by_length (nat_eq (plain_len flow false part) 0) where
  by_length : (q : Bool) → IsScalar (cond q (Stands t e) (Stands (joined flow part t k) (content_end flow part at)))
  by_length true = (_, _, refl)
  by_length false = (_, _, refl)

join_stands : (flow : Bool) (w : Why) (part : List ℕ) (at : ℕ) (t : List ℕ) (e k : ℕ) (next : List ℕ → ℕ → ℕ → Outcome) → (w ≡ Return → ⊥) → (w ≡ Colon → flow ≡ true) → ((t : List ℕ) (e k : ℕ) → IsScalar (next t e k)) → IsScalar (joins flow w part at t e k next)
join_stands flow Break part at t e k next r c n = n (joined flow part t k) (content_end flow part at) 0
join_stands flow Return part at t e k next r c n = absurd (r refl)
join_stands true Colon part at t e k next r c n = ends_stands true part at t e k
join_stands false Colon part at t e k next r c n = absurd (let h : false ≡ true = c refl in cc)
join_stands flow Comment part at t e k next r c n = (_, _, refl)
join_stands flow Mark part at t e k next r c n = ends_stands flow part at t e k

empty_more : (s : Setting) (at : ℕ) (t : List ℕ) (e k : ℕ) → IsScalar (more s (rest_of at [] ∷ []) t e k)
empty_more s at t e k = (t, e, refl)

pub not_stands : (t : List ℕ) (e p : ℕ) → Stands t e ≡ Fails p → ⊥
not_stands t e p h = cc

-- bytes that go on up to a carriage return hold none, and no colon before white space
return_not : (flow white : Bool) (f : List ℕ) → plain_len flow white (f ++ (13 ∷ [])) ≡ length f → why (drop (plain_len flow white f) f) ≡ Return → ⊥
return_not flow white [] h e = cc
return_not flow white (b ∷ []) h e = by_stop (stops flow white b []) e where
  by_stop : (p : Bool) → why (drop (cond p 0 1) (b ∷ [])) ≡ Return → ⊥
  by_stop true e =
      let n : b ≡ 13 = why_return b [] e in
      let z : plain_len flow white (b ∷ 13 ∷ []) ≡ 0 = ap (λ (b : ℕ). plain_len flow white (b ∷ 13 ∷ [])) n ∙ ap (λ q. cond q 0 (suc (plain_len flow (is_white 13) (13 ∷ [])))) (return_stops flow white (13 ∷ [])) in
      omega (arith, h, z)
  by_stop false e = cc
return_not flow white (b ∷ c ∷ f) h e = by_stop (stops flow white b (c ∷ f)) h e (λ g i. return_not flow (is_white b) (c ∷ f) g i) where
  by_stop : (p : Bool) → cond p 0 (suc (plain_len flow (is_white b) (c ∷ (f ++ (13 ∷ []))))) ≡ suc (suc (length f)) → why (drop (cond p 0 (suc (plain_len flow (is_white b) (c ∷ f)))) (b ∷ c ∷ f)) ≡ Return
      → (plain_len flow (is_white b) (c ∷ (f ++ (13 ∷ []))) ≡ suc (length f) → why (drop (plain_len flow (is_white b) (c ∷ f)) (c ∷ f)) ≡ Return → ⊥) → ⊥
  by_stop true h e r = omega (arith, h)
  by_stop false h e r = r (omega (arith, h)) e

colon_not : (white : Bool) (f : List ℕ) → plain_len false white (f ++ (13 ∷ [])) ≡ length f → ends_with 58 f ≡ false → why (drop (plain_len false white f) f) ≡ Colon → ⊥
colon_not white [] h n e = cc
colon_not white (b ∷ []) h n e = by_stop (stops false white b []) e where
  by_stop : (p : Bool) → why (drop (cond p 0 1) (b ∷ [])) ≡ Colon → ⊥
  by_stop true e = let m : b ≡ 58 = why_colon b [] e in let z : true ≡ false = sym (ap (λ (b : ℕ). nat_eq b 58) m) ∙ n in cc
  by_stop false e = cc
colon_not white (b ∷ c ∷ f) h n e = by_stop (stops false white b (c ∷ f)) h e (λ g i. colon_not (is_white b) (c ∷ f) g n i) where
  by_stop : (p : Bool) → cond p 0 (suc (plain_len false (is_white b) (c ∷ (f ++ (13 ∷ []))))) ≡ suc (suc (length f)) → why (drop (cond p 0 (suc (plain_len false (is_white b) (c ∷ f)))) (b ∷ c ∷ f)) ≡ Colon
      → (plain_len false (is_white b) (c ∷ (f ++ (13 ∷ []))) ≡ suc (length f) → why (drop (plain_len false (is_white b) (c ∷ f)) (c ∷ f)) ≡ Colon → ⊥) → ⊥
  by_stop true h e r = omega (arith, h)
  by_stop false h e r = r (omega (arith, h)) e

colon_flow : (flow : Bool) (f : List ℕ) → plain_len flow false (f ++ (13 ∷ [])) ≡ length f → (not flow && ends_with 58 f) ≡ false → reason flow f ≡ Colon → flow ≡ true
colon_flow true f h n e = refl
colon_flow false f h n e = absurd (colon_not false f h n e)

-- a line without the carriage return at its end
begins_ended : (k n : ℕ) (f : List ℕ) → n < length f → begins_with k (drop n (f ++ (13 ∷ []))) ≡ begins_with k (drop n f)
begins_ended k n [] l = absurd (omega (arith, l))
begins_ended k zero (x ∷ f) l = refl
begins_ended k (suc n) (x ∷ f) l = begins_ended k n f (omega (arith, l))

pub inside_ended : (s : Setting) (f : List ℕ) → is_blank f ≡ false → inside s (f ++ (13 ∷ [])) ≡ inside s f
inside_ended s f b = by_flow s.flow where
  xs : List ℕ
  xs = f ++ (13 ∷ [])

  white : lead is_white xs ≡ lead is_white f
  white = lead_ended is_white f [] refl

  space : indent xs ≡ indent f
  space = lead_ended is_space f [] refl

  less : lead is_white f < length f
  less = blank_less f b

  same : (n m : ℕ) → n ≡ m → m < length f → content_at n (drop n xs) ≡ content_at m (drop m f)
  same n m e l = ap (λ k. content_at k (drop k xs)) e ∙ ap (λ q. cond q Outside (Further m)) (begins_ended 35 m f l)

  by_flow : (q : Bool) → cond q (content_at (lead is_white xs) (past_white xs)) (cond (nat_lt (indent xs) (above_of s.parent) || begins_with 9 (drop (indent xs) xs)) Outside (content_at (indent xs) (drop (indent xs) xs)))
      ≡ cond q (content_at (lead is_white f) (past_white f)) (cond (nat_lt (indent f) (above_of s.parent) || begins_with 9 (drop (indent f) f)) Outside (content_at (indent f) (drop (indent f) f)))
  by_flow true = same (lead is_white xs) (lead is_white f) white less
  by_flow false =
      let l : indent f < length f = let m = spaces_less f in omega (arith, m, less) in
      ap (λ k. cond (nat_lt k (above_of s.parent) || begins_with 9 (drop k xs)) Outside (content_at (indent xs) (drop (indent xs) xs))) space
      ∙ ap (λ q. cond (nat_lt (indent f) (above_of s.parent) || q) Outside (content_at (indent xs) (drop (indent xs) xs))) (begins_ended 9 (indent f) f l)
      ∙ ap (λ o. cond (nat_lt (indent f) (above_of s.parent) || begins_with 9 (drop (indent f) f)) Outside o) (same (indent xs) (indent f) space l)

pub further_inside : (s : Setting) (xs : List ℕ) (n : ℕ) → below s xs ≡ Further n → inside s xs ≡ Further n
further_inside s xs n h = by_tests (is_blank xs) (is_mark xs) h where
  by_tests : (p q : Bool) → cond p Blank (cond q Outside (inside s xs)) ≡ Further n → inside s xs ≡ Further n
  by_tests true q h = absurd (cc)
  by_tests false true h = absurd (cc)
  by_tests false false h = h

-- the last line ends in a carriage return: with a line feed behind it the scalar ends before it, or behind it
last_further : (s : Setting) (place at n : ℕ) (f t : List ℕ) (e k : ℕ) → at + length f ≡ place → below s (f ++ (13 ∷ [])) ≡ Further n → is_blank f ≡ false → is_mark f ≡ false
    → joins s.flow (reason s.flow (drop n (f ++ (13 ∷ [])))) (drop n (f ++ (13 ∷ []))) (at + n) t e k (more s []) ≡ Fails (suc place) → IsScalar (further s (below s f) at f t e k (more s (last_line place ∷ [])))
last_further s place at n f t e k size b full mark h =
    let xs = f ++ (13 ∷ []) in
    let m = plain_len s.flow false (drop n xs) in
    let long = length-append f (13 ∷ []) in
    let le = skip_le s xs n b in
    let is : below s f ≡ Further n = below_inside s f full mark ∙ sym (inside_ended s f full) ∙ further_inside s xs n b in
    let lead_le = skip_le s f n is in
    let parts : drop n xs ≡ drop n f ++ (13 ∷ []) = drop_before n f (13 ∷ []) lead_le in
    let dl = drop_length n f lead_le in
    let stands : (n + m ≡ length f) → (not s.flow && ends_with 58 (take m (drop n xs))) ≡ false → IsScalar (further s (Further n) at f t e k (more s (last_line place ∷ []))) = λ len colon.
    let short : plain_len s.flow false (drop n f ++ (13 ∷ [])) ≡ length (drop n f) = ap (plain_len s.flow false) (sym parts) ∙ (let q : m ≡ length (drop n f) = omega (arith, len, dl) in q) in
    let front : take m (drop n xs) ≡ drop n f = ap (λ y. take (plain_len s.flow false y) y) parts ∙ ap (λ j. take j (drop n f ++ (13 ∷ []))) short ∙ take_front (drop n f) (13 ∷ []) in
    join_stands s.flow (reason s.flow (drop n f)) (drop n f) (at + n) t e k (more s (last_line place ∷ [])) (return_not s.flow false (drop n f) short)
    (colon_flow s.flow (drop n f) short (sym (ap (λ y. not s.flow && ends_with 58 y) front) ∙ colon)) (λ x y z. empty_more s (suc (suc place)) x y z) in
    subst (λ w. IsScalar (further s w at f t e k (more s (last_line place ∷ [])))) (sym is)
    (elim (joins_cases s.flow (reason s.flow (drop n xs)) (drop n xs) (at + n) t e k (suc place) (more s []) h) [
      | inl g ↦ absurd (not_stands _ _ (suc place) g.0)
      | inr g ↦ elim g [
        | inl r ↦ elim (shown_cases s.flow (drop n xs) (at + n) (suc place) r.1) [
          | inl q ↦ absurd (let w = fail_within s.flow xs n le (inl r.0) in omega (arith, q, w, long, size))
          | inr q ↦ (let z = q.0 in stands (omega (arith, z, size)) q.1)
        ]
        | inr c ↦ absurd (let z = c.2 in let w = returns (drop n f) (drop n xs) parts (let q : m ≡ length (drop n f) = omega (arith, z, size, dl) in q) in let v : Return ≡ Colon = sym w ∙ c.0 in cc)
      ]
    ]) where
      returns : (g y : List ℕ) → y ≡ g ++ (13 ∷ []) → plain_len s.flow false y ≡ length g → reason s.flow y ≡ Return
      returns g y e l = ap (λ j. why (drop j y)) l ∙ ap (λ y. why (drop (length g) y)) e ∙ ap why (drop_whole g (13 ∷ []))

last_returned : (s : Setting) (place at : ℕ) (f t : List ℕ) (e k : ℕ) → at + length f ≡ place → further s (below s (f ++ (13 ∷ []))) at (f ++ (13 ∷ [])) t e k (more s []) ≡ Fails (suc place) → IsScalar (further s (below s f) at f t e k (more s (last_line place ∷ [])))
last_returned s place at f t e k size h = cases (is_blank f) blank (λ b. cases (is_mark f) (mark b) (λ m. by_below b m (below s (f ++ (13 ∷ []))) refl h)) where
  blank : is_blank f ≡ true → IsScalar (further s (below s f) at f t e k (more s (last_line place ∷ [])))
  blank b = (t, e, ap (λ q. further s (cond q Blank (cond (is_mark f) Outside (inside s f))) at f t e k (more s (last_line place ∷ []))) b)

  mark : is_blank f ≡ false → is_mark f ≡ true → IsScalar (further s (below s f) at f t e k (more s (last_line place ∷ [])))
  mark b m = (t, e, ap (λ q. further s (cond q Blank (cond (is_mark f) Outside (inside s f))) at f t e k (more s (last_line place ∷ []))) b ∙ ap (λ q. further s (cond q Outside (inside s f)) at f t e k (more s (last_line place ∷ []))) m)

  by_below : is_blank f ≡ false → is_mark f ≡ false → (w : Below) → below s (f ++ (13 ∷ [])) ≡ w → further s w at (f ++ (13 ∷ [])) t e k (more s []) ≡ Fails (suc place) → IsScalar (further s (below s f) at f t e k (more s (last_line place ∷ [])))
  by_below b m Blank i h = absurd (cc)
  by_below b m Outside i h = absurd (cc)
  by_below b m (Further n) i h = last_further s place at n f t e k size i b m h

-- a line that is not the last does not fail at the text's end
pub before_end : (s : Setting) (p at n : ℕ) (xs : List ℕ) → below s xs ≡ Further n → at + length xs < p → Returns s.flow (reason s.flow (drop n xs)) (drop n xs) (at + n) p ⊎ Colons s.flow (reason s.flow (drop n xs)) (drop n xs) (at + n) p → ⊥
before_end s p at n xs b l (inl r) =
    let w = fail_within s.flow xs n (skip_le s xs n b) (inl r.0) in
    elim (shown_cases s.flow (drop n xs) (at + n) p r.1) [ inl q ↦ omega (arith, q, w, l) | inr q ↦ (let z = q.0 in omega (arith, z, w, l)) ]
before_end s p at n xs b l (inr c) = let w = fail_within s.flow xs n (skip_le s xs n b) (inr (c.0, c.1)) in let z = c.2 in omega (arith, z, w, l)

more_returned : (s : Setting) (place : ℕ) (r : Bool) (ks : List Line) (t : List ℕ) (e k : ℕ) → Ends place r ks → more s (cut ks place) t e k ≡ Fails (suc place) → IsScalar (more s (glue ks (ended place [])) t e k)
more_returned s place r [] t e k x h = absurd x
more_returned s place r (l ∷ []) t e k x h =
    subst (λ (b : List ℕ). IsScalar (further s (below s b) l.at b t e k (more s (last_line place ∷ [])))) (sym (append-nil l.bytes)) (last_returned s place l.at l.bytes t e k x.0 h)
more_returned s place r (l ∷ m ∷ ks) t e k x h = by_below (below s l.bytes) refl h (λ u v w g. more_returned s place r (m ∷ ks) u v w x.2 g) where
  new : List Line
  new = glue (m ∷ ks) (ended place [])

  by_below : (w : Below) → below s l.bytes ≡ w → further s w l.at l.bytes t e k (more s (cut (m ∷ ks) place)) ≡ Fails (suc place)
      → ((u : List ℕ) (v w : ℕ) → more s (cut (m ∷ ks) place) u v w ≡ Fails (suc place) → IsScalar (more s new u v w)) → IsScalar (further s (below s l.bytes) l.at l.bytes t e k (more s new))
  by_below Blank i h f = subst (λ w. IsScalar (further s w l.at l.bytes t e k (more s new))) (sym i) (f t e (suc k) h)
  by_below Outside i h f = absurd (cc)
  by_below (Further n) i h f = subst (λ w. IsScalar (further s w l.at l.bytes t e k (more s new))) (sym i) (elim (joins_cases s.flow (reason s.flow (drop n l.bytes)) (drop n l.bytes) (l.at + n) t e k (suc place) (more s (cut (m ∷ ks) place)) h) [
    | inl g ↦ (let z = f _ _ _ g.0 in (z.0, z.1, g.1 (more s new) ∙ z.2))
    | inr g ↦ absurd (let y = x.0 in before_end s (suc place) l.at n l.bytes i (omega (arith, y)) g)
  ])

-- the last line ends in a colon: with another byte behind it the scalar goes on
abbrev letter : ℕ → Line
letter at = rest_of at (97 ∷ [])

-- a line whose last byte is no white space, of which all is content
trimmed_last : (g : List ℕ) (b : ℕ) → is_white b ≡ false → trimmed (g ++ (b ∷ [])) ≡ g ++ (b ∷ [])
trimmed_last [] b w = ap (λ q. cond q [] (b ∷ [])) w
trimmed_last (x ∷ g) b w = ap (keep x) (trimmed_last g b w) ∙ some g where
  some : (g : List ℕ) → keep x (g ++ (b ∷ [])) ≡ x ∷ (g ++ (b ∷ []))
  some [] = refl
  some (y ∷ g) = refl

pub whole_content : (flow : Bool) (g : List ℕ) (b : ℕ) → is_white b ≡ false → plain_len flow false (g ++ (b ∷ [])) ≡ length (g ++ (b ∷ [])) → content flow (g ++ (b ∷ [])) ≡ g ++ (b ∷ [])
whole_content flow g b w l = ap (λ k. trimmed (take k (g ++ (b ∷ [])))) l ∙ ap trimmed (take_all (length (g ++ (b ∷ []))) (g ++ (b ∷ [])) (omega arith)) ∙ trimmed_last g b w

-- a scalar whose text ends in the letter stands, up to a place
abbrev pub Lettered : ℕ → Outcome → Type 0
Lettered e o = (g : List ℕ) × (o ≡ Stands (g ++ (97 ∷ [])) e)

last_colon : (s : Setting) (size at n : ℕ) (f t : List ℕ) (e k : ℕ) → at + length f ≡ size → below s f ≡ Further n → Colons s.flow (reason s.flow (drop n f)) (drop n f) (at + n) size → Lettered (suc size) (further s (below s (f ++ (97 ∷ []))) at (f ++ (97 ∷ [])) t e k (more s []))
last_colon s size at n f t e k end b c =
    let d = fail_parts s.flow f n (skip_le s f n b) (inr (c.0, c.1)) in
    let a = d.0 in
    let z = d.1 in
    let q = d.2 in
    let dot : q ≡ 58 = why_colon q z (sym d.9 ∙ c.0) in
    let v = c.2 in
    let w = d.4 in
    let sizes = ap (λ (y : List ℕ). length y) d.3 in
    let long = length-append a (q ∷ z) in
    let none : z ≡ [] = empty z (omega (arith, v, w, sizes, long, end)) in
    let whole : f ≡ a ++ (58 ∷ []) = d.3 ∙ ap (λ y. a ++ (q ∷ y)) none ∙ ap (λ y. a ++ (y ∷ [])) dot in
    let new : f ++ (97 ∷ []) ≡ a ++ (58 ∷ 97 ∷ []) = ap (λ y. y ++ (97 ∷ [])) whole ∙ append_assoc a (58 ∷ []) (97 ∷ []) in
    let within : n ≤ length a = omega (arith, w) in
    let is : below s (a ++ (58 ∷ 97 ∷ [])) ≡ Further n = below_front s a 58 (97 ∷ []) [] (shown_colon 58 refl) ∙ ap (below s) (sym whole) ∙ b in
    let short : plain_len s.flow false (drop n a ++ (58 ∷ [])) ≡ length (drop n a) = ap (λ y. plain_len s.flow false (drop n a ++ (y ∷ []))) (sym dot) ∙ ap (λ y. plain_len s.flow false (drop n a ++ (q ∷ y))) (sym none) ∙ d.7 in
    let part : drop n (a ++ (58 ∷ 97 ∷ [])) ≡ drop n a ++ (58 ∷ 97 ∷ []) = drop_before n a (58 ∷ 97 ∷ []) within in
    let goes = goes_on s.flow (drop n a) c.1 short in
    let breaks : reason s.flow (drop n (a ++ (58 ∷ 97 ∷ []))) ≡ Break = ap (reason s.flow) part ∙ goes.1 in
    let two : drop n a ++ (58 ∷ 97 ∷ []) ≡ (drop n a ++ (58 ∷ [])) ++ (97 ∷ []) = sym (append_assoc (drop n a) (58 ∷ []) (97 ∷ [])) in
    let full : length ((drop n a ++ (58 ∷ [])) ++ (97 ∷ [])) ≡ length (drop n a) + 2 = ap (λ (y : List ℕ). length y) (sym two) ∙ length-append (drop n a) (58 ∷ 97 ∷ []) in
    let all : plain_len s.flow false ((drop n a ++ (58 ∷ [])) ++ (97 ∷ [])) ≡ length ((drop n a ++ (58 ∷ [])) ++ (97 ∷ [])) = ap (plain_len s.flow false) (sym two) ∙ goes.0 ∙ sym full in
    let same = whole_content s.flow (drop n a ++ (58 ∷ [])) 97 refl all in
    let rest = drop_size n a within in
    let is_part : drop n (a ++ (58 ∷ 97 ∷ [])) ≡ (drop n a ++ (58 ∷ [])) ++ (97 ∷ []) = part ∙ two in
    let content_is : content s.flow (drop n (a ++ (58 ∷ 97 ∷ []))) ≡ (drop n a ++ (58 ∷ [])) ++ (97 ∷ []) = ap (content s.flow) is_part ∙ same in
    let ends : content_end s.flow (drop n (a ++ (58 ∷ 97 ∷ []))) (at + n) ≡ suc size =
    ap (λ (y : List ℕ). at + n + length y) content_is ∙ (let r : at + n + length ((drop n a ++ (58 ∷ [])) ++ (97 ∷ [])) ≡ suc size = omega (arith, full, rest, sizes, long, end, ap (λ (y : List ℕ). length y) none) in r) in
    let text_is : joined s.flow (drop n (a ++ (58 ∷ 97 ∷ []))) t k ≡ (t ++ (fold k ++ (drop n a ++ (58 ∷ [])))) ++ (97 ∷ []) =
    ap (λ y. t ++ (fold k ++ y)) content_is ∙ ap (λ y. t ++ y) (sym (append_assoc (fold k) (drop n a ++ (58 ∷ [])) (97 ∷ []))) ∙ sym (append_assoc t (fold k ++ (drop n a ++ (58 ∷ []))) (97 ∷ [])) in
    subst (λ y. Lettered (suc size) (further s (below s y) at y t e k (more s []))) (sym new)
    (subst (λ w. Lettered (suc size) (further s w at (a ++ (58 ∷ 97 ∷ [])) t e k (more s []))) (sym is)
    (subst (λ w. Lettered (suc size) (joins s.flow w (drop n (a ++ (58 ∷ 97 ∷ []))) (at + n) t e k (more s []))) (sym breaks)
    (t ++ (fold k ++ (drop n a ++ (58 ∷ []))), ap (λ y. Stands y (content_end s.flow (drop n (a ++ (58 ∷ 97 ∷ []))) (at + n))) text_is ∙ ap (Stands ((t ++ (fold k ++ (drop n a ++ (58 ∷ [])))) ++ (97 ∷ []))) ends))) where
      empty : (z : List ℕ) → length z ≡ 0 → z ≡ []
      empty [] h = refl
      empty (y ∷ z) h = absurd (omega (arith, h))

      goes_on : (flow : Bool) (g : List ℕ) → flow ≡ false → plain_len flow false (g ++ (58 ∷ [])) ≡ length g → (plain_len flow false (g ++ (58 ∷ 97 ∷ [])) ≡ length g + 2) × (reason flow (g ++ (58 ∷ 97 ∷ [])) ≡ Break)
      goes_on true g o h = absurd (cc)
      goes_on false g o h =
          let l : plain_len false false (g ++ (58 ∷ 97 ∷ [])) ≡ length g + 2 = len_front false false g 58 [] (97 ∷ []) false (λ w. colon_stops w (97 ∷ [])) h in
          (l, ap (λ j. why (drop j (g ++ (58 ∷ 97 ∷ [])))) l ∙ ap why (past g)) where
            past : (g : List ℕ) → drop (length g + 2) (g ++ (58 ∷ 97 ∷ [])) ≡ []
            past [] = refl
            past (x ∷ g) = let e : suc (length g) + 2 ≡ suc (length g + 2) = omega arith in ap (λ j. drop j (x ∷ (g ++ (58 ∷ 97 ∷ [])))) e ∙ past g

pub no_last_return : (s : Setting) (size at n : ℕ) (f : List ℕ) → at + length f ≡ size → (ends_with 13 f ≡ true → false ≡ true) → n ≤ length f → reason s.flow (drop n f) ≡ Return → (at + n + plain_len s.flow false (drop n f) ≡ size) ⊎ (at + n + plain_len s.flow false (drop n f) + 1 ≡ size) → ⊥
no_last_return s size at n f end r le w (inl p) = let k = fail_within s.flow f n le (inl w) in omega (arith, k, p, end)
no_last_return s size at n f end r le w (inr p) =
    let d = fail_parts s.flow f n le (inl w) in
    let q : d.2 ≡ 13 = why_return d.2 d.1 (sym d.9 ∙ w) in
    let sizes = ap (λ (y : List ℕ). length y) d.3 in
    let long = length-append d.0 (d.2 ∷ d.1) in
    let v = d.4 in
    let last : ends_with 13 f ≡ true = ap (ends_with 13) d.3 ∙ ap (λ y. ends_with 13 (d.0 ++ (y ∷ d.1))) q ∙ alone d.0 d.1 (omega (arith, sizes, long, v, p, end)) in
    let z : false ≡ true = r last in cc where
      alone : (a z : List ℕ) → length z ≡ 0 → ends_with 13 (a ++ (13 ∷ z)) ≡ true
      alone a [] h = ends_last a
      alone a (y ∷ z) h = absurd (omega (arith, h))

more_longer : (s : Setting) (size : ℕ) (ls : List Line) (t : List ℕ) (e k : ℕ) → Ends size false ls → more s ls t e k ≡ Fails size → Lettered (suc size) (more s (glue ls (letter size ∷ [])) t e k)
more_longer s size [] t e k x h = absurd x
more_longer s size (l ∷ []) t e k (x, y, z) h = by_below (below s l.bytes) refl h where
  by_below : (w : Below) → below s l.bytes ≡ w → further s w l.at l.bytes t e k (more s []) ≡ Fails size → Lettered (suc size) (further s (below s (l.bytes ++ (97 ∷ []))) l.at (l.bytes ++ (97 ∷ [])) t e k (more s []))
  by_below Blank i h = absurd (cc)
  by_below Outside i h = absurd (cc)
  by_below (Further n) i h = elim (joins_cases s.flow (reason s.flow (drop n l.bytes)) (drop n l.bytes) (l.at + n) t e k size (more s []) h) [
    | inl g ↦ absurd (not_stands (joined s.flow (drop n l.bytes) t k) (content_end s.flow (drop n l.bytes) (l.at + n)) size g.0)
    | inr g ↦ elim g [
      | inl r ↦ absurd (no_last_return s size l.at n l.bytes x z (skip_le s l.bytes n i) r.0 (elim (shown_cases s.flow (drop n l.bytes) (l.at + n) size r.1) [ inl q ↦ inl q | inr q ↦ inr q.0 ]))
      | inr c ↦ last_colon s size l.at n l.bytes t e k x i c
    ]
  ]
more_longer s size (l ∷ m ∷ ls) t e k (x, y, z) h = by_below (below s l.bytes) refl h (λ u v w g. more_longer s size (m ∷ ls) u v w z g) where
  new : List Line
  new = glue (m ∷ ls) (letter size ∷ [])

  by_below : (w : Below) → below s l.bytes ≡ w → further s w l.at l.bytes t e k (more s (m ∷ ls)) ≡ Fails size
      → ((u : List ℕ) (v w : ℕ) → more s (m ∷ ls) u v w ≡ Fails size → Lettered (suc size) (more s new u v w)) → Lettered (suc size) (further s (below s l.bytes) l.at l.bytes t e k (more s new))
  by_below Blank i h f = subst (λ w. Lettered (suc size) (further s w l.at l.bytes t e k (more s new))) (sym i) (f t e (suc k) h)
  by_below Outside i h f = absurd (cc)
  by_below (Further n) i h f = subst (λ w. Lettered (suc size) (further s w l.at l.bytes t e k (more s new))) (sym i) (elim (joins_cases s.flow (reason s.flow (drop n l.bytes)) (drop n l.bytes) (l.at + n) t e k size (more s (m ∷ ls)) h) [
    | inl g ↦ (let z = f _ _ _ g.0 in (z.0, g.1 (more s new) ∙ z.1))
    | inr g ↦ absurd (before_end s size l.at n l.bytes i x g)
  ])

-- the first line
pub first_cases : (s : Setting) (w : Why) (at : ℕ) (xs : List ℕ) (ls : List Line) (p : ℕ) → first s w at xs ls ≡ Fails p
    → ((w ≡ Return) × (at + plain_len s.flow false xs + 1 ≡ p)) ⊎ ((more s ls (content s.flow xs) (content_end s.flow xs at) 0 ≡ Fails p) × ((other : List Line) → first s w at xs other ≡ more s other (content s.flow xs) (content_end s.flow xs at) 0))
first_cases s Break at xs ls p h = by_line s.one_line refl h where
  by_line : (q : Bool) → s.one_line ≡ q → cond q (Stands (content s.flow xs) (content_end s.flow xs at)) (more s ls (content s.flow xs) (content_end s.flow xs at) 0) ≡ Fails p
      → ((Break ≡ Return) × (at + plain_len s.flow false xs + 1 ≡ p)) ⊎ ((more s ls (content s.flow xs) (content_end s.flow xs at) 0 ≡ Fails p) × ((other : List Line) → first s Break at xs other ≡ more s other (content s.flow xs) (content_end s.flow xs at) 0))
  by_line true e h = absurd (cc)
  by_line false e h = inr (h, λ other. ap (λ q. cond q (Stands (content s.flow xs) (content_end s.flow xs at)) (more s other (content s.flow xs) (content_end s.flow xs at) 0)) e)
first_cases s Return at xs ls p h = inl (refl, fails_same _ p h)
first_cases s Colon at xs ls p h = absurd (cc)
first_cases s Comment at xs ls p h = absurd (cc)
first_cases s Mark at xs ls p h = absurd (cc)

first_stands : (s : Setting) (w : Why) (at : ℕ) (xs : List ℕ) (ls : List Line) → (w ≡ Return → ⊥) → ((t : List ℕ) (e : ℕ) → IsScalar (more s ls t e 0)) → IsScalar (first s w at xs ls)
first_stands s Break at xs ls r n = by_line s.one_line where
  by_line : (q : Bool) → IsScalar (cond q (Stands (content s.flow xs) (content_end s.flow xs at)) (more s ls (content s.flow xs) (content_end s.flow xs at) 0))
  by_line true = (_, _, refl)
  by_line false = n (content s.flow xs) (content_end s.flow xs at)
first_stands s Return at xs ls r n = absurd (r refl)
first_stands s Colon at xs ls r n = (_, _, refl)
first_stands s Comment at xs ls r n = (_, _, refl)
first_stands s Mark at xs ls r n = (_, _, refl)

pub opens_is : (s : Setting) (fresh : Bool) (at : ℕ) (xs : List ℕ) (ls : List Line) → (fresh && marked xs) ≡ false → begins_plain s.flow xs ≡ true → opens s at xs ls (fresh && marked xs) (begins_plain s.flow xs) ≡ first s (reason s.flow xs) at xs ls
opens_is s fresh at xs ls m b = ap (λ q. opens s at xs ls q (begins_plain s.flow xs)) m ∙ ap (opens s at xs ls false) b

opens_stands : (s : Setting) (fresh : Bool) (at : ℕ) (xs : List ℕ) (ls : List Line) → (fresh && marked xs) ≡ false → begins_plain s.flow xs ≡ true → IsScalar (first s (reason s.flow xs) at xs ls) → IsScalar (opens s at xs ls (fresh && marked xs) (begins_plain s.flow xs))
opens_stands s fresh at xs ls m b h = (h.0, h.1, ap (λ q. opens s at xs ls q (begins_plain s.flow xs)) m ∙ ap (opens s at xs ls false) b ∙ h.2)

pub mark_longer : (f : List ℕ) → marked f ≡ true → marked (f ++ (13 ∷ [])) ≡ true
mark_longer f h =
    let m = mark_of f h in
    ap (λ t. marked (t ++ (13 ∷ []))) m.4 ∙ mark_made m.0 m.1 m.2 (m.3 ++ (13 ∷ [])) m.5 m.6 m.7 (ends m.3 m.8) where
      ends : (r : List ℕ) → marks_end r ≡ true → marks_end (r ++ (13 ∷ [])) ≡ true
      ends [] h = refl
      ends (d ∷ r) h = h

pub begins_less : (flow : Bool) (f : List ℕ) → begins_plain flow (f ++ (13 ∷ [])) ≡ true → begins_plain flow f ≡ true
begins_less flow [] h = absurd (cc)
begins_less flow (b ∷ []) h = firm (may_begin b) (is_doubtful b) (bare flow (13 ∷ [])) (bare flow []) (bare_return flow 13 [] refl) h where
  firm : (x d u v : Bool) → u ≡ true → (x && (not d || not u)) ≡ true → (x && (not d || not v)) ≡ true
  firm true false u v e h = refl
  firm true true true v e h = absurd (cc)
  firm true true false v e h = absurd (cc)
  firm false d u v e h = absurd (cc)
begins_less flow (b ∷ c ∷ f) h = h

pub mark_less : (fresh : Bool) (f : List ℕ) → (fresh && marked (f ++ (13 ∷ []))) ≡ false → (fresh && marked f) ≡ false
mark_less false f h = refl
mark_less true f h = cases (marked f) (λ m. absurd (let z : true ≡ false = sym (mark_longer f m) ∙ h in cc)) (λ m. m)

two_not : (a b : ℕ) → marked (a ∷ b ∷ 13 ∷ []) ≡ false
two_not a b = grind (arith, nat_tests)

pub not_three : (fresh : Bool) (f : List ℕ) → length f ≡ 2 → (fresh && marked (f ++ (13 ∷ []))) ≡ true → ⊥
not_three fresh [] l h = omega (arith, l)
not_three fresh (a ∷ []) l h = omega (arith, l)
not_three fresh (a ∷ b ∷ []) l h = by_fresh fresh h where
  by_fresh : (q : Bool) → (q && marked (a ∷ b ∷ 13 ∷ [])) ≡ true → ⊥
  by_fresh true h = let z : true ≡ false = sym h ∙ two_not a b in cc
  by_fresh false h = cc
not_three fresh (a ∷ b ∷ c ∷ f) l h = omega (arith, l)

pub wrong_early : (at : ℕ) (f : List ℕ) → wrong_begin at (f ++ (13 ∷ [])) < suc (at + length f)
wrong_early at [] = omega arith
wrong_early at (b ∷ f) = by_doubt (is_doubtful b) where
  by_doubt : (d : Bool) → cond d (suc at) at < suc (at + suc (length f))
  by_doubt true = omega arith
  by_doubt false = omega arith

plain_first_returned : (s : Setting) (fresh : Bool) (place at : ℕ) (f : List ℕ) (m b : Bool) → (fresh && marked (f ++ (13 ∷ []))) ≡ m → begins_plain s.flow (f ++ (13 ∷ [])) ≡ b → at + length f ≡ place → opens s at (f ++ (13 ∷ [])) [] m b ≡ Fails (suc place) → IsScalar (opens s at f (last_line place ∷ []) (fresh && marked f) (begins_plain s.flow f))
plain_first_returned s fresh place at f true b x y end h = absurd (let p = fails_same _ (suc place) h in not_three fresh f (omega (arith, p, end)) x)
plain_first_returned s fresh place at f false false x y end h = absurd (let p = fails_same _ (suc place) h in let w = wrong_early at f in omega (arith, p, end, w))
plain_first_returned s fresh place at f false true x y end h = elim (first_cases s (reason s.flow (f ++ (13 ∷ []))) at (f ++ (13 ∷ [])) [] (suc place) h) [
  | inl r ↦ (let p = r.1 in let short : plain_len s.flow false (f ++ (13 ∷ [])) ≡ length f = omega (arith, p, end) in
      opens_stands s fresh at f (last_line place ∷ []) (mark_less fresh f x) (begins_less s.flow f y) (first_stands s (reason s.flow f) at f (last_line place ∷ []) (return_not s.flow false f short) (λ t e. empty_more s (suc (suc place)) t e 0)))
  | inr r ↦ absurd (not_stands _ _ (suc place) r.0)
]

-- a first line that is not the last
pub plain_below : (P : Outcome → Type 0) (s : Setting) (fresh : Bool) (p : ℕ) (l : Line) (ls ms : List Line) → l.at + length l.bytes < p → ((t : List ℕ) (e : ℕ) → more s ls t e 0 ≡ Fails p → P (more s ms t e 0)) → plain_on s fresh (l ∷ ls) ≡ Fails p → P (plain_on s fresh (l ∷ ms))
plain_below P s fresh p l ls ms less below h = by_tests (fresh && marked l.bytes) (begins_plain s.flow l.bytes) refl refl h where
  by_tests : (m b : Bool) → (fresh && marked l.bytes) ≡ m → begins_plain s.flow l.bytes ≡ b → opens s l.at l.bytes ls m b ≡ Fails p → P (opens s l.at l.bytes ms (fresh && marked l.bytes) (begins_plain s.flow l.bytes))
  by_tests true b x y h = absurd (let q = fails_same _ p h in let k = mark_length l.bytes (second fresh (marked l.bytes) x) in omega (arith, q, k, less)) where
    second : (q r : Bool) → (q && r) ≡ true → r ≡ true
    second true r h = h
    second false r h = absurd (cc)
  by_tests false false x y h = absurd (let q = fails_same _ p h in let k = wrong_to l.at l.bytes in omega (arith, q, k, less))
  by_tests false true x y h = elim (first_cases s (reason s.flow l.bytes) l.at l.bytes ls p h) [
    | inl r ↦ absurd (let k = fail_within s.flow l.bytes 0 (omega arith) (inl r.0) in let q = r.1 in omega (arith, k, q, less))
    | inr r ↦ subst P (sym (opens_is s fresh l.at l.bytes ms x y ∙ r.1 ms)) (below _ _ r.0)
  ]

pub plain_returned : (s : Setting) (fresh : Bool) (place : ℕ) (r : Bool) (ks : List Line) → Ends place r ks → plain_on s fresh (cut ks place) ≡ Fails (suc place) → IsScalar (plain_on s fresh (glue ks (ended place [])))
plain_returned s fresh place r [] x h = absurd x
plain_returned s fresh place r (l ∷ []) x h =
    subst (λ (b : List ℕ). IsScalar (opens s l.at b (last_line place ∷ []) (fresh && marked b) (begins_plain s.flow b))) (sym (append-nil l.bytes))
    (plain_first_returned s fresh place l.at l.bytes (fresh && marked (l.bytes ++ (13 ∷ []))) (begins_plain s.flow (l.bytes ++ (13 ∷ []))) refl refl x.0 h)
plain_returned s fresh place r (l ∷ m ∷ ks) x h =
    plain_below IsScalar s fresh (suc place) l (cut (m ∷ ks) place) (glue (m ∷ ks) (ended place [])) (let y = x.0 in omega (arith, y)) (λ t e g. more_returned s place r (m ∷ ks) t e 0 x.2 g) h

-- a byte that ends no plain scalar
safe_goes : (flow white : Bool) (b : ℕ) (bs : List ℕ) → is_unsafe flow bs ≡ false → nat_eq b 35 ≡ false → is_flow_mark b ≡ false → nat_eq b 13 ≡ false → stops flow white b bs ≡ false
safe_goes flow white b bs u x y z = by_tests (nat_eq b 58) (is_unsafe flow bs) (nat_eq b 35) white flow (is_flow_mark b) (nat_eq b 13) u x y z where
  by_tests : (p u q w f r s : Bool) → u ≡ false → q ≡ false → r ≡ false → s ≡ false → ((((p && u) || (q && w)) || (f && r)) || s) ≡ false
  by_tests p true q w f r s a b c d = absurd (cc)
  by_tests p false true w f r s a b c d = absurd (cc)
  by_tests p false false w f true s a b c d = absurd (cc)
  by_tests p false false w f false true a b c d = absurd (cc)
  by_tests true false false w true false false a b c d = refl
  by_tests true false false w false false false a b c d = refl
  by_tests false false false w true false false a b c d = refl
  by_tests false false false w false false false a b c d = refl

safe_next : (flow : Bool) (b : ℕ) (bs : List ℕ) → is_white b ≡ false → is_flow_mark b ≡ false → is_unsafe flow (b ∷ bs) ≡ false
safe_next flow b bs x y = by_tests (is_white b) flow (is_flow_mark b) x y where
  by_tests : (p f q : Bool) → p ≡ false → q ≡ false → (p || (f && q)) ≡ false
  by_tests true f q a b = absurd (cc)
  by_tests false f true a b = absurd (cc)
  by_tests false true false a b = refl
  by_tests false false false a b = refl

-- a letter that ends the text
pub letter_goes : (flow white : Bool) → plain_len flow white (97 ∷ []) ≡ 1
letter_goes true white = refl
letter_goes false white = refl

goes_more : (flow white : Bool) (b n : ℕ) (bs : List ℕ) → stops flow white b bs ≡ false → plain_len flow (is_white b) bs ≡ n → plain_len flow white (b ∷ bs) ≡ suc n
goes_more flow white b n bs s l = ap (λ q. cond q 0 (suc (plain_len flow (is_white b) bs))) s ∙ ap suc l

letter_stands : (s : Setting) (fresh : Bool) (at : ℕ) (g : List ℕ) → marked (g ++ (97 ∷ [])) ≡ false → begins_plain s.flow (g ++ (97 ∷ [])) ≡ true → plain_len s.flow false (g ++ (97 ∷ [])) ≡ length (g ++ (97 ∷ []))
    → Lettered (at + length (g ++ (97 ∷ []))) (opens s at (g ++ (97 ∷ [])) [] (fresh && marked (g ++ (97 ∷ []))) (begins_plain s.flow (g ++ (97 ∷ []))))
letter_stands s fresh at g m b l =
    let breaks : reason s.flow (g ++ (97 ∷ [])) ≡ Break = ap (λ k. why (drop k (g ++ (97 ∷ [])))) l ∙ ap why (past (g ++ (97 ∷ []))) in
    let same = whole_content s.flow g 97 refl l in (
      g,
      opens_is s fresh at (g ++ (97 ∷ [])) [] (ap (λ q. fresh && q) m ∙ none fresh) b ∙ ap (λ w. first s w at (g ++ (97 ∷ [])) []) breaks ∙ alone s.one_line ∙ ap (λ (y : List ℕ). Stands y (at + length y)) same,
    ) where
      none : (q : Bool) → (q && false) ≡ false
      none true = refl
      none false = refl

      past : (xs : List ℕ) → drop (length xs) xs ≡ []
      past [] = refl
      past (x ∷ xs) = past xs

      alone : (q : Bool) → cond q (Stands (content s.flow (g ++ (97 ∷ []))) (content_end s.flow (g ++ (97 ∷ [])) at)) (Stands (content s.flow (g ++ (97 ∷ []))) (content_end s.flow (g ++ (97 ∷ [])) at)) ≡ Stands (content s.flow (g ++ (97 ∷ []))) (content_end s.flow (g ++ (97 ∷ [])) at)
      alone true = refl
      alone false = refl

mark_letter : (s : Setting) (fresh : Bool) (at : ℕ) (f : List ℕ) → marked f ≡ true → length f ≡ 3 → Lettered (at + length (f ++ (97 ∷ []))) (opens s at (f ++ (97 ∷ [])) [] (fresh && marked (f ++ (97 ∷ []))) (begins_plain s.flow (f ++ (97 ∷ []))))
mark_letter s fresh at f h l =
    let m = mark_of f h in
    let sizes = ap (λ (t : List ℕ). length t) m.4 in
    let none : m.3 ≡ [] = empty m.3 (omega (arith, sizes, l)) in
    let whole : f ≡ m.0 ∷ m.1 ∷ m.2 ∷ [] = m.4 ∙ ap (λ t. m.0 ∷ m.1 ∷ m.2 ∷ t) none in
    subst (λ t. Lettered (at + length (t ++ (97 ∷ []))) (opens s at (t ++ (97 ∷ [])) [] (fresh && marked (t ++ (97 ∷ []))) (begins_plain s.flow (t ++ (97 ∷ []))))) (sym whole)
    (letter_stands s fresh at (m.0 ∷ m.1 ∷ m.2 ∷ []) (plain_mark m.0 m.1 m.2) (begins s.flow m.0 m.1 m.2 m.5 m.6) (goes s.flow m.0 m.1 m.2 m.5 (same_dash m.0 m.1 m.5 m.6) (same_dash m.0 m.2 m.5 m.7))) where
      empty : (z : List ℕ) → length z ≡ 0 → z ≡ []
      empty [] h = refl
      empty (y ∷ z) h = absurd (omega (arith, h))

      same_dash : (a b : ℕ) → dash a ≡ true → nat_eq a b ≡ true → dash b ≡ true
      same_dash a b h e = let s : b ≡ a = grind (arith, nat_tests, e) in ap dash s ∙ h

      plain_mark : (a b c : ℕ) → marked (a ∷ b ∷ c ∷ 97 ∷ []) ≡ false
      plain_mark a b c = by_tests (dash a) (nat_eq a b) (nat_eq a c) where
        by_tests : (d e f : Bool) → ((d && (e && (f && false))) || (d && (e && (f && false)))) ≡ false
        by_tests true true true = refl
        by_tests true true false = refl
        by_tests true false f = refl
        by_tests false e f = refl

      begins : (flow : Bool) (a b c : ℕ) → dash a ≡ true → nat_eq a b ≡ true → begins_plain flow (a ∷ b ∷ c ∷ 97 ∷ []) ≡ true
      begins true a b c d e = grind (arith, nat_tests, d, e)
      begins false a b c d e = grind (arith, nat_tests, d, e)

      dash_white : (a : ℕ) → dash a ≡ true → is_white a ≡ false
      dash_white a d = grind (arith, nat_tests, d)

      dash_flow : (a : ℕ) → dash a ≡ true → is_flow_mark a ≡ false
      dash_flow a d = grind (arith, nat_tests, d)

      dash_comment : (a : ℕ) → dash a ≡ true → nat_eq a 35 ≡ false
      dash_comment a d = grind (arith, nat_tests, d)

      dash_return : (a : ℕ) → dash a ≡ true → nat_eq a 13 ≡ false
      dash_return a d = grind (arith, nat_tests, d)

      dash_goes : (flow white : Bool) (a : ℕ) (bs : List ℕ) → dash a ≡ true → is_unsafe flow bs ≡ false → stops flow white a bs ≡ false
      dash_goes flow white a bs d u = safe_goes flow white a bs u (dash_comment a d) (dash_flow a d) (dash_return a d)

      goes : (flow : Bool) (a b c : ℕ) → dash a ≡ true → dash b ≡ true → dash c ≡ true → plain_len flow false (a ∷ b ∷ c ∷ 97 ∷ []) ≡ 4
      goes flow a b c d e f =
          goes_more flow false a 3 (b ∷ c ∷ 97 ∷ []) (dash_goes flow false a (b ∷ c ∷ 97 ∷ []) d (safe_next flow b (c ∷ 97 ∷ []) (dash_white b e) (dash_flow b e)))
          (goes_more flow (is_white a) b 2 (c ∷ 97 ∷ []) (dash_goes flow (is_white a) b (c ∷ 97 ∷ []) e (safe_next flow c (97 ∷ []) (dash_white c f) (dash_flow c f)))
          (goes_more flow (is_white b) c 1 (97 ∷ []) (dash_goes flow (is_white b) c (97 ∷ []) f (safe_next flow 97 [] refl refl)) (letter_goes flow (is_white c))))

plain_first_longer : (s : Setting) (fresh : Bool) (size at : ℕ) (f : List ℕ) (m b : Bool) → (fresh && marked f) ≡ m → begins_plain s.flow f ≡ b → at + length f ≡ size → at < size → (ends_with 13 f ≡ true → false ≡ true) → opens s at f [] m b ≡ Fails size
    → Lettered (suc size) (opens s at (f ++ (97 ∷ [])) [] (fresh && marked (f ++ (97 ∷ []))) (begins_plain s.flow (f ++ (97 ∷ []))))
plain_first_longer s fresh size at f true b x y end low r h = let p = fails_same _ size h in
    let long : at + length (f ++ (97 ∷ [])) ≡ suc size = omega (arith, end, length-append f (97 ∷ [])) in
    subst (λ k. Lettered k (opens s at (f ++ (97 ∷ [])) [] (fresh && marked (f ++ (97 ∷ []))) (begins_plain s.flow (f ++ (97 ∷ []))))) long (mark_letter s fresh at f (second fresh (marked f) x) (omega (arith, p, end))) where
      second : (q r : Bool) → (q && r) ≡ true → r ≡ true
      second true r h = h
      second false r h = absurd (cc)
plain_first_longer s fresh size at [] false false x y end low r h = absurd (omega (arith, end, low))
plain_first_longer s fresh size at (c ∷ []) false false x y end low r h = by_doubt (is_doubtful c) refl (fails_same _ size h) where
  by_doubt : (d : Bool) → is_doubtful c ≡ d → cond d (suc at) at ≡ size → Lettered (suc size) (opens s at (c ∷ 97 ∷ []) [] (fresh && marked (c ∷ 97 ∷ [])) (begins_plain s.flow (c ∷ 97 ∷ [])))
  by_doubt false d p = absurd (omega (arith, p, low))
  by_doubt true d p =
      let long : at + 2 ≡ suc size = omega (arith, p) in
      subst (λ k. Lettered k (opens s at (c ∷ 97 ∷ []) [] (fresh && marked (c ∷ 97 ∷ [])) (begins_plain s.flow (c ∷ 97 ∷ [])))) long (letter_stands s fresh at (c ∷ []) refl (begins s.flow) (goes s.flow)) where
        begins : (flow : Bool) → begins_plain flow (c ∷ 97 ∷ []) ≡ true
        begins true = grind (arith, nat_tests, d)
        begins false = grind (arith, nat_tests, d)

        goes : (flow : Bool) → plain_len flow false (c ∷ 97 ∷ []) ≡ 2
        goes flow =
            let x : nat_eq c 35 ≡ false = grind (arith, nat_tests, d) in
            let y : is_flow_mark c ≡ false = grind (arith, nat_tests, d) in
            let z : nat_eq c 13 ≡ false = grind (arith, nat_tests, d) in
            goes_more flow false c 1 (97 ∷ []) (safe_goes flow false c (97 ∷ []) (safe_next flow 97 [] refl refl) x y z) (letter_goes flow (is_white c))
plain_first_longer s fresh size at (c ∷ g ∷ f) false false x y end low r h = absurd (let p = fails_same _ size h in let w = wrong_first (is_doubtful c) in omega (arith, p, end, w)) where
  wrong_first : (d : Bool) → cond d (suc at) at ≤ suc at
  wrong_first true = omega arith
  wrong_first false = omega arith
plain_first_longer s fresh size at f false true x y end low r h = absurd (elim (first_cases s (reason s.flow f) at f [] size h) [
  | inl w ↦ (let p = w.1 in no_last_return s size at 0 f end r (omega arith) w.0 (inr (omega (arith, p))))
  | inr w ↦ not_stands _ _ size w.0
])

pub plain_longer : (s : Setting) (fresh : Bool) (size : ℕ) (l : Line) (ls : List Line) → l.at < size → Ends size false (l ∷ ls) → plain_on s fresh (l ∷ ls) ≡ Fails size → Lettered (suc size) (plain_on s fresh (glue (l ∷ ls) (letter size ∷ [])))
plain_longer s fresh size l [] low (x, y, z) h = plain_first_longer s fresh size l.at l.bytes (fresh && marked l.bytes) (begins_plain s.flow l.bytes) refl refl x low z h
plain_longer s fresh size l (m ∷ ls) low (x, y, z) h = plain_below (Lettered (suc size)) s fresh size l (m ∷ ls) (glue (m ∷ ls) (letter size ∷ [])) x (λ t e g. more_longer s size (m ∷ ls) t e 0 z g) h
