-- Where a plain scalar with a dot so far fails at the text's end, its text has a space or a newline in each longer text, and so is no number. By induction over lines.
use Rattle.std.proofs.Common.{◌≡◌, ℕ, suc, ◌+◌, ◌<◌, ◌≤◌, ◌⊎◌, inl, inr, Bool, true, false, ◌||◌, ◌&&◌, cond, nat_eq, arith, List, [], ◌∷◌, ◌++◌, drop, length, refl, sym, ap, ◌∙◌, subst, true≢false, append_assoc, length-append, length-drop}
use Rattle.std.proofs.lemmas.Bool.Decides.{nat_tests}
use Rattle.yaml_scalars.specs.declared.scalar.Setting.{Setting}
use Rattle.yaml_scalars.specs.declared.plain_line.Why.{Why}
use Rattle.yaml_scalars.specs.declared.plain_line.Why.TheVariants.{Break, Return, Colon, Comment, Mark}
use Rattle.yaml_scalars.specs.declared.plain_line.Below.{Below}
use Rattle.yaml_scalars.specs.declared.plain_line.Below.TheVariants.{Blank, Outside, Further}
use Rattle.yaml_scalars.specs.Lines.{Line, Stands, Fails, begins_with, ends_with, is_white, is_mark, lines}
use Rattle.yaml_scalars.specs.Plain.{is_doubtful, is_unsafe, begins_plain, wrong_begin, stops, plain_len, content, content_end, why, reason, below, joined, ends_on, stop_behind, joins, further, first, more, plain_on}
use Rattle.yaml_scalars.specs.Scalar.{is_first_column, plain_scalar}
use Rattle.yaml_scalars.specs.code.Walk.{line_at, has_break, behind}
use Rattle.yaml_scalars.proofs.FurtherLines.{skip_le}
use Rattle.yaml_scalars.proofs.Places.{lines_are}
use Rattle.yaml_laws.specs.code.Dots.{is_dotless, undotted}
use Rattle.yaml_laws.proofs.Agree.{drop_before}
use Rattle.yaml_laws.proofs.Longer.{glue, Ends, behind_none, lines_apart, lines_end}
use Rattle.yaml_laws.proofs.PlainDead.{why_colon}
use Rattle.yaml_laws.proofs.PlainLaw.{marked, dash, opens, opens_fails, mark_of, marks_end}
use Rattle.yaml_laws.proofs.PlainLonger.{Colons, joins_cases, shown_cases, before_end, no_last_return, not_stands}
use Rattle.yaml_laws.proofs.PlainShown.{shown_colon, below_front, fail_parts}
use Rattle.yaml_laws.proofs.QuotedLonger.{ends_drop}
use Rattle.yaml_laws.proofs.ScalarLaw.{column_longer}
use Rattle.yaml_grammar.proofs.FedCuts.{Grown, has_gap, gap_behind, gap_fold, gap_front, more_grown}

fails_not : (p : ℕ) (t : List ℕ) (j : ℕ) → Fails p ≡ Stands t j → ⊥
fails_not p t j h = absurd (cc)

text_is : (t v : List ℕ) (e j : ℕ) → Stands t e ≡ Stands v j → v ≡ t
text_is t v e j h = cc

-- ---- a further line adds a space or a newline

joined_gap : (flow : Bool) (part t : List ℕ) (k : ℕ) → has_gap (joined flow part t k) ≡ true
joined_gap flow part t k = gap_behind t _ (gap_fold k _)

grown_gap : (t v : List ℕ) → has_gap t ≡ true → Grown t v → has_gap v ≡ true
grown_gap t v g (inl e) = ap has_gap e ∙ g
grown_gap t v g (inr (u, e, h)) = ap has_gap e ∙ gap_front t u g

return_mark : Return ≡ Mark → ⊥
return_mark e = absurd (cc)

colon_mark : Colon ≡ Mark → ⊥
colon_mark e = absurd (cc)

comment_mark : Comment ≡ Mark → ⊥
comment_mark e = absurd (cc)

-- outside of brackets no plain scalar ends at one of their marks
no_flow_mark : (white : Bool) (xs : List ℕ) → why (drop (plain_len false white xs) xs) ≡ Mark → ⊥
no_flow_mark white [] h = absurd (cc)
no_flow_mark white (b ∷ xs) h = by_stop (stops false white b xs) refl h (λ g. no_flow_mark (is_white b) xs g) where
  by_tests : (p q r u : Bool) → ((p && u) || (q && white) || false || r) ≡ true → cond r Return (cond p Colon (cond q Comment Mark)) ≡ Mark → ⊥
  by_tests p q true u e g = return_mark g
  by_tests true q false u e g = colon_mark g
  by_tests false true false u e g = comment_mark g
  by_tests false false false u e g = true≢false (sym e)

  by_stop : (q : Bool) → stops false white b xs ≡ q → why (drop (cond q 0 (suc (plain_len false (is_white b) xs))) (b ∷ xs)) ≡ Mark → (why (drop (plain_len false (is_white b) xs) xs) ≡ Mark → ⊥) → ⊥
  by_stop false e g r = r g
  by_stop true e g r = by_tests (nat_eq b 58) (nat_eq b 35) (nat_eq b 13) (is_unsafe false xs) e g

line_gap : (s : Setting) (w : Why) (part : List ℕ) (at : ℕ) (fs : List Line) (t : List ℕ) (e k : ℕ) (v : List ℕ) (m : ℕ) → s.flow ≡ false → (w ≡ Mark → ⊥) → joins s.flow w part at t e k (more s fs) ≡ Stands v m → has_gap v ≡ true
line_gap s Break part at fs t e k v m out none h = grown_gap (joined s.flow part t k) v (joined_gap s.flow part t k) (more_grown s fs (joined s.flow part t k) (content_end s.flow part at) 0 v m h)
line_gap s Comment part at fs t e k v m out none h = ap has_gap (text_is (joined s.flow part t k) v (content_end s.flow part at) m h) ∙ joined_gap s.flow part t k
line_gap s Return part at fs t e k v m out none h = absurd (fails_not _ v m h)
line_gap s Colon part at fs t e k v m out none h = absurd (fails_not _ v m (sym (ap (λ q. cond q (ends_on s.flow part at t e k) (Fails (stop_behind s.flow part at))) out) ∙ h))
line_gap s Mark part at fs t e k v m out none h = absurd (none refl)

-- the last line ends in a colon
last_gap : (s : Setting) (size at n : ℕ) (f y : List ℕ) (fs : List Line) (t : List ℕ) (e k : ℕ) (v : List ℕ) (m : ℕ) → at + length f ≡ size → below s f ≡ Further n → Colons s.flow (reason s.flow (drop n f)) (drop n f) (at + n) size → further s (below s (f ++ y)) at (f ++ y) t e k (more s fs) ≡ Stands v m → has_gap v ≡ true
last_gap s size at n f y fs t e k v m end b c h =
    let d = fail_parts s.flow f n (skip_le s f n b) (inr (c.0, c.1)) in
    let a = d.0 in
    let z = d.1 in
    let q = d.2 in
    let dot : q ≡ 58 = why_colon q z (sym d.9 ∙ c.0) in
    let w = c.2 in
    let l = d.4 in
    let sizes = ap (λ (y : List ℕ). length y) d.3 in
    let long = length-append a (q ∷ z) in
    let none : z ≡ [] = empty z (omega (arith, w, l, sizes, long, end)) in
    let whole : f ≡ a ++ (58 ∷ []) = d.3 ∙ ap (λ y. a ++ (q ∷ y)) none ∙ ap (λ y. a ++ (y ∷ [])) dot in
    let new : f ++ y ≡ a ++ (58 ∷ y) = ap (λ x. x ++ y) whole ∙ append_assoc a (58 ∷ []) y in
    let is : below s (f ++ y) ≡ Further n = ap (below s) new ∙ below_front s a 58 y [] (shown_colon 58 refl) ∙ ap (below s) (sym whole) ∙ b in
    let part = drop n (f ++ y) in
    line_gap s (reason s.flow part) part (at + n) fs t e k v m c.1 (λ g. no_flow_mark false part (sym (ap (λ o. reason o part) c.1) ∙ g)) (subst (λ w. further s w at (f ++ y) t e k (more s fs) ≡ Stands v m) is h) where
      empty : (z : List ℕ) → length z ≡ 0 → z ≡ []
      empty [] h = refl
      empty (y ∷ z) h = absurd (omega (arith, h))

more_gap : (s : Setting) (size : ℕ) (ls : List Line) (f : Line) (fs : List Line) (t : List ℕ) (e k : ℕ) (v : List ℕ) (m : ℕ) → Ends size false ls → more s ls t e k ≡ Fails size → more s (glue ls (f ∷ fs)) t e k ≡ Stands v m → has_gap v ≡ true
more_gap s size [] f fs t e k v m x h g = absurd x
more_gap s size (l ∷ []) f fs t e k v m (x, y, z) h g = by_below (below s l.bytes) refl h where
  by_below : (w : Below) → below s l.bytes ≡ w → further s w l.at l.bytes t e k (more s []) ≡ Fails size → has_gap v ≡ true
  by_below Blank i h = absurd (not_stands t e size h)
  by_below Outside i h = absurd (not_stands t e size h)
  by_below (Further n) i h = elim (joins_cases s.flow (reason s.flow (drop n l.bytes)) (drop n l.bytes) (l.at + n) t e k size (more s []) h) [
    | inl g ↦ absurd (not_stands (joined s.flow (drop n l.bytes) t k) (content_end s.flow (drop n l.bytes) (l.at + n)) size g.0)
    | inr r ↦ elim r [
      | inl r ↦ absurd (no_last_return s size l.at n l.bytes x z (skip_le s l.bytes n i) r.0 (elim (shown_cases s.flow (drop n l.bytes) (l.at + n) size r.1) [ inl q ↦ inl q | inr q ↦ inr q.0 ]))
      | inr c ↦ last_gap s size l.at n l.bytes f.bytes fs t e k v m x i c g
    ]
  ]
more_gap s size (l ∷ p ∷ ls) f fs t e k v m (x, y, z) h g = by_below (below s l.bytes) refl h g (λ a b c i j. more_gap s size (p ∷ ls) f fs a b c v m z i j) where
  new : List Line
  new = glue (p ∷ ls) (f ∷ fs)

  by_below : (w : Below) → below s l.bytes ≡ w → further s w l.at l.bytes t e k (more s (p ∷ ls)) ≡ Fails size → further s w l.at l.bytes t e k (more s new) ≡ Stands v m
      → ((a : List ℕ) (b c : ℕ) → more s (p ∷ ls) a b c ≡ Fails size → more s new a b c ≡ Stands v m → has_gap v ≡ true) → has_gap v ≡ true
  by_below Blank i h g next = next t e (suc k) h g
  by_below Outside i h g next = absurd (not_stands t e size h)
  by_below (Further n) i h g next = elim (joins_cases s.flow (reason s.flow (drop n l.bytes)) (drop n l.bytes) (l.at + n) t e k size (more s (p ∷ ls)) h) [
    | inl r ↦ next (joined s.flow (drop n l.bytes) t k) (content_end s.flow (drop n l.bytes) (l.at + n)) 0 r.0 (sym (r.1 (more s new)) ∙ g)
    | inr r ↦ absurd (before_end s size l.at n l.bytes i x r)
  ]

-- ---- the first line

-- one that is the last has no dot
alone_undotted : (s : Setting) (fresh : Bool) (size at : ℕ) (xs : List ℕ) → at < size → at + length xs ≡ size → (ends_with 13 xs ≡ true → false ≡ true) → (fresh ≡ true → is_mark xs ≡ false) → opens s at xs [] (fresh && marked xs) (begins_plain s.flow xs) ≡ Fails size → undotted false false xs ≡ true
alone_undotted s fresh size at xs low end r none h = elim (opens_fails s fresh at xs [] size h) [
  | inl m ↦ absurd (let b = both fresh (marked xs) m.0 in cut (mark_of xs b.1) m.1 (none b.0))
  | inr o ↦ elim o [
    | inl b ↦ begun xs end b.1
    | inr g ↦ elim g.1 [
      | inl w ↦ absurd (let p = w.1 in no_last_return s size at 0 xs end r (omega arith) w.0 (inr (omega (arith, p))))
      | inr m ↦ absurd (not_stands _ _ size m)
    ]
  ]
] where
  both : (p q : Bool) → (p && q) ≡ true → (p ≡ true) × (q ≡ true)
  both true q e = (refl, e)
  both false q e = absurd (true≢false (sym e))

  cut : (a b c : ℕ) × (r : List ℕ) × (xs ≡ a ∷ b ∷ c ∷ r) × (dash a ≡ true) × (nat_eq a b ≡ true) × (nat_eq a c ≡ true) × (marks_end r ≡ true) → size ≡ at + 3 → is_mark xs ≡ false → ⊥
  cut (a, b, c, [], e, d, i, j, x) p n = true≢false (sym (ap (λ q. q && (nat_eq a b && (nat_eq a c && true))) d ∙ ap (λ q. q && (nat_eq a c && true)) i ∙ ap (λ q. q && true) j) ∙ sym (ap is_mark e) ∙ n)
  cut (a, b, c, y ∷ r, e, d, i, j, x) p n = let z = ap (λ (t : List ℕ). length t) e in omega (arith, z, p, end)

  one : (b : ℕ) → is_dotless b ≡ true → undotted false false (b ∷ []) ≡ true
  one b h = ap (λ q. q && true) h

  doubtful_dotless : (b : ℕ) → is_doubtful b ≡ true → is_dotless b ≡ true
  doubtful_dotless b h = grind (arith, nat_tests, h)

  begun : (ys : List ℕ) → at + length ys ≡ size → size ≡ wrong_begin at ys → undotted false false ys ≡ true
  begun [] e w = refl
  begun (c ∷ []) e w = by_doubt (is_doubtful c) refl w where
    by_doubt : (d : Bool) → is_doubtful c ≡ d → size ≡ cond d (suc at) at → undotted false false (c ∷ []) ≡ true
    by_doubt true d p = one c (doubtful_dotless c d)
    by_doubt false d p = absurd (omega (arith, p, low))
  begun (c ∷ g ∷ ys) e w = absurd (let z = wrong_first (is_doubtful c) in omega (arith, w, e, z)) where
    wrong_first : (d : Bool) → cond d (suc at) at ≤ suc at
    wrong_first true = omega arith
    wrong_first false = omega arith

on_gap : (s : Setting) (fresh : Bool) (size : ℕ) (l : Line) (ls : List Line) (f : Line) (fs : List Line) (v : List ℕ) (m : ℕ) → l.at < size → Ends size false (l ∷ ls) → (fresh ≡ true → is_mark l.bytes ≡ false) → plain_on s fresh (l ∷ ls) ≡ Fails size → plain_on s fresh (glue (l ∷ ls) (f ∷ fs)) ≡ Stands v m
    → (has_gap v ≡ true) ⊎ ((ls ≡ []) × (undotted false false l.bytes ≡ true))
on_gap s fresh size l [] f fs v m low (x, y, z) none h g = inr (refl, alone_undotted s fresh size l.at l.bytes low x z none h)
on_gap s fresh size l (p ∷ ls) f fs v m low (x, y, z) none h g = inl (by_tests (fresh && marked l.bytes) (begins_plain s.flow l.bytes) (reason s.flow l.bytes) h g) where
  new : List Line
  new = glue (p ∷ ls) (f ∷ fs)

  by_one : (q : Bool) → cond q (Stands (content s.flow l.bytes) (content_end s.flow l.bytes l.at)) (more s (p ∷ ls) (content s.flow l.bytes) (content_end s.flow l.bytes l.at) 0) ≡ Fails size
      → cond q (Stands (content s.flow l.bytes) (content_end s.flow l.bytes l.at)) (more s new (content s.flow l.bytes) (content_end s.flow l.bytes l.at) 0) ≡ Stands v m → has_gap v ≡ true
  by_one true h g = absurd (not_stands (content s.flow l.bytes) (content_end s.flow l.bytes l.at) size h)
  by_one false h g = more_gap s size (p ∷ ls) f fs (content s.flow l.bytes) (content_end s.flow l.bytes l.at) 0 v m z h g

  by_tests : (q b : Bool) (w : Why) → cond q (Fails (l.at + 3)) (cond b (first s w l.at l.bytes (p ∷ ls)) (Fails (wrong_begin l.at l.bytes))) ≡ Fails size
      → cond q (Fails (l.at + 3)) (cond b (first s w l.at l.bytes new) (Fails (wrong_begin l.at l.bytes))) ≡ Stands v m → has_gap v ≡ true
  by_tests true b w h g = absurd (fails_not _ v m g)
  by_tests false false w h g = absurd (fails_not _ v m g)
  by_tests false true Break h g = by_one s.one_line h g
  by_tests false true Return h g = absurd (fails_not _ v m g)
  by_tests false true Colon h g = absurd (cc)
  by_tests false true Comment h g = absurd (cc)
  by_tests false true Mark h g = absurd (cc)

-- ---- texts

module _ (s : Setting) (text : List ℕ) (at : ℕ) (low : at < length text) (last : ends_with 13 text ≡ false) (rest : List ℕ) where
  abbrev here : Line
  here = record { at = at; bytes = line_at (drop at text); broken = has_break (drop at text) }

  abbrev next : Line
  next = record { at = at + length (drop at text); bytes = line_at rest; broken = has_break rest }

  abbrev tails : List Line
  tails = behind (at + length (drop at text)) rest

  pub plain_gap : (v : List ℕ) (m : ℕ) → (is_first_column text at ≡ true → is_mark (line_at (drop at text)) ≡ false) → undotted false false (drop at text) ≡ false → plain_scalar s text at ≡ Fails (length text) → plain_scalar s (text ++ rest) at ≡ Stands v m → has_gap v ≡ true
  plain_gap v m none dot h g = elim (on_gap s (is_first_column text at) (length text) here (behind at (drop at text)) next tails v m low (subst (Ends (length text) false) are ends) none (sym (ap (plain_on s (is_first_column text at)) are) ∙ h) stands) [
    | inl e ↦ e
    | inr e ↦ absurd (true≢false (sym (sym (ap (undotted false false) (behind_none at (drop at text) e.0).1) ∙ e.1) ∙ dot))
  ] where
    size : at + length (drop at text) ≡ length text
    size = let z = length-drop at text in omega (arith, z, low)

    no_return : ends_with 13 (drop at text) ≡ false
    no_return = by_test (ends_with 13 (drop at text)) refl where
      by_test : (q : Bool) → ends_with 13 (drop at text) ≡ q → q ≡ false
      by_test true e = absurd (true≢false (sym (ends_drop at text e) ∙ last))
      by_test false e = refl

    are : lines at (drop at text) ≡ here ∷ behind at (drop at text)
    are = lines_are at (drop at text)

    ends : Ends (length text) false (lines at (drop at text))
    ends = subst (λ n. Ends n false (lines at (drop at text))) size (subst (λ q. Ends (at + length (drop at text)) q (lines at (drop at text))) no_return (lines_end at (drop at text)))

    longer : lines at (drop at (text ++ rest)) ≡ glue (here ∷ behind at (drop at text)) (next ∷ tails)
    longer =
        ap (lines at) (drop_before at text rest (omega (arith, low))) ∙ lines_apart at (drop at text) rest (ap (λ q. q && begins_with 10 rest) no_return)
        ∙ ap (glue (lines at (drop at text))) (lines_are (at + length (drop at text)) rest) ∙ ap (λ ls. glue ls (next ∷ tails)) are

    stands : plain_on s (is_first_column text at) (glue (here ∷ behind at (drop at text)) (next ∷ tails)) ≡ Stands v m
    stands = ap (plain_on s (is_first_column text at)) (sym longer) ∙ ap (λ q. plain_on s q (lines at (drop at (text ++ rest)))) (sym (column_longer text rest at (omega (arith, low)))) ∙ g
