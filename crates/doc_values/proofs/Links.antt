-- Going from the last row with a name to earlier ones by links: what is passed, what is found, and what a row more changes.
use Rattle.std.proofs.Common.{◌≡◌, ℕ, ◌+◌, ◌-◌, ◌<◌, ◌≤◌, List, [], ◌∷◌, ◌++◌, length, get_or, refl, sym, ap, inl, inr, ◌∙◌, ◌⊎◌, subst, arith, length-append, Some}
use Rattle.std.specs.Prelude.{slice_index}
use Rattle.std.proofs.lemmas.List.{get_or_at, get_or_append_left, get_or_default}
use Rattle.std.proofs.lemmas.Bool.{cases_lt}
use Rattle.doc_values.specs.code.Entries.{Entry, no_entry, IsNameAt, under_at}
use Rattle.doc_values.specs.code.Uses.{IsBehindName, AreDeeper, IsLink, AreLinks, IsLast, AreLow, IsOpen}

-- a place is before another, at it, or behind it
sorted : (i r : ℕ) → (i < r) ⊎ ((i ≡ r) ⊎ (r < i))
sorted i r = elim (cases_lt i r) [
  | inl l ↦ inl l
  | inr l ↦ elim (cases_lt r i) [
    | inl m ↦ inr (inr m)
    | inr m ↦ inr (inl (omega arith))
  ]
]

-- behind the last row with a name there is none
pub walk_starts : (es : List Entry) (n w b : ℕ) → IsLast es n b → AreDeeper es n b (length es) w
walk_starts es n w b h i l m e = absurd (h.last i l m e)

passed : (es : List Entry) (n w b l : ℕ) → w < under_at es (b - 1) → 0 < b → AreDeeper es n l (b - 1) (under_at es (b - 1)) → AreDeeper es n b (length es) w → AreDeeper es n l (length es) w
passed es n w b l high some deeper rest i from below e = elim (sorted i (b - 1)) [
  | inl before ↦ let d = deeper i from before e in omega arith
  | inr (inl at) ↦ let same = ap (under_at es) at in omega arith
  | inr (inr behind) ↦ rest i (omega arith) below e
]

-- one link further
pub record IsStep (es : List Entry) (n w b l : ℕ) : Type 0 where
  pub behind : IsBehindName es n l
  pub deeper : AreDeeper es n l (length es) w
  pub less : l < b

pub walk_goes_on : (es : List Entry) (links : List ℕ) (n w b : ℕ) → AreLinks es links → IsOpen es w → IsBehindName es n b → AreDeeper es n b (length es) w → w < b → (under_at es (b - 1) ≡ w → ⊥) → IsStep es n w b (slice_index links (b - 1))
walk_goes_on es links n w b links_are is_open behind deeper more other =
    let within = behind.0 in
    let here : IsNameAt es (b - 1) n = behind.1 (omega arith) in
    let link : IsLink es n (b - 1) (slice_index links (b - 1)) = links_are (b - 1) n (omega arith) here in
    let before = link.before in
    let low = is_open.inside (b - 1) (omega arith) (omega arith) in
    let high : w < under_at es (b - 1) = elim (cases_lt w (under_at es (b - 1))) [
      | inl h ↦ h
      | inr h ↦ absurd (other (omega arith))
    ] in
    record {
      behind = link.behind;
      deeper = passed es n w b (slice_index links (b - 1)) high (omega arith) link.deeper deeper;
      less = omega arith;
    }

-- at the end no row with the name stands under the number
pub walk_ends : (es : List Entry) (n w b : ℕ) → AreLow es → AreDeeper es n b (length es) w → b ≤ w → (i : ℕ) → i < length es → IsNameAt es i n → under_at es i ≡ w → ⊥
walk_ends es n w b low deeper end i l e at = elim (cases_lt i b) [
  | inl before ↦ let q = low i l in omega arith
  | inr behind ↦ let q = deeper i behind l e in omega arith
]

-- a row more
at_end : (es : List Entry) (r : Entry) (i : ℕ) → i < length es → get_or (es ++ r ∷ []) i no_entry ≡ get_or es i no_entry
at_end es r i l = get_or_append_left es (r ∷ []) no_entry i l

at_last : (es : List Entry) (r : Entry) → get_or (es ++ r ∷ []) (length es) no_entry ≡ r
at_last es r = get_or_at es r [] no_entry (length es) refl

longer : (es : List Entry) (r : Entry) → length (es ++ r ∷ []) ≡ length es + 1
longer es r = length-append es (r ∷ [])

pub last_name : (es : List Entry) (r : Entry) (j n : ℕ) → j ≡ length es → IsNameAt (es ++ r ∷ []) j n → r.name ≡ Some n
last_name es r j n here e = sym (ap (λ (q : Entry). q.name) (ap (λ i. get_or (es ++ r ∷ []) i no_entry) here ∙ at_last es r)) ∙ e

pub name_stays : (es : List Entry) (r : Entry) (i n : ℕ) → i < length es → IsNameAt (es ++ r ∷ []) i n → IsNameAt es i n
name_stays es r i n l e = sym (ap (λ (q : Entry). q.name) (at_end es r i l)) ∙ e

name_more : (es : List Entry) (r : Entry) (i n : ℕ) → i < length es → IsNameAt es i n → IsNameAt (es ++ r ∷ []) i n
name_more es r i n l e = ap (λ (q : Entry). q.name) (at_end es r i l) ∙ e

under_same : (es : List Entry) (r : Entry) (i : ℕ) → i < length es → under_at (es ++ r ∷ []) i ≡ under_at es i
under_same es r i l = ap (λ (q : Entry). q.under) (at_end es r i l)

under_last : (es : List Entry) (r : Entry) (i : ℕ) → i ≡ length es → under_at (es ++ r ∷ []) i ≡ r.under
under_last es r i here = ap (λ (q : Entry). q.under) (ap (λ i. get_or (es ++ r ∷ []) i no_entry) here ∙ at_last es r)

pub IsBehindName-more : (es : List Entry) (r : Entry) (n b : ℕ) → IsBehindName es n b → IsBehindName (es ++ r ∷ []) n b
IsBehindName-more es r n b h = let within = h.0 in (omega (arith, longer es r), λ some. name_more es r (b - 1) n (omega arith) (h.1 some))

deeper_more : (es : List Entry) (r : Entry) (n b e w : ℕ) → e ≤ length es → AreDeeper es n b e w → AreDeeper (es ++ r ∷ []) n b e w
deeper_more es r n b e w l h i from below q = let d = h i from below (name_stays es r i n (omega arith) q) in let same = under_same es r i (omega arith) in omega arith

link_more : (es : List Entry) (r : Entry) (n j l : ℕ) → j < length es → IsLink es n j l → IsLink (es ++ r ∷ []) n j l
link_more es r n j l m h = record {
  behind = IsBehindName-more es r n l h.behind;
  before = h.before;
  deeper = subst (AreDeeper (es ++ r ∷ []) n l j) (sym (under_same es r j m)) (deeper_more es r n l j (under_at es j) (omega arith) h.deeper);
}

-- the new row's own link
own_link : (es : List Entry) (r : Entry) (n j l : ℕ) → j ≡ length es → IsBehindName es n l → AreDeeper es n l (length es) r.under → IsLink (es ++ r ∷ []) n j l
own_link es r n j l here behind deeper =
    let within = behind.0 in
    record {
      behind = IsBehindName-more es r n l behind;
      before = omega arith;
      deeper = subst (AreDeeper (es ++ r ∷ []) n l j) (sym (under_last es r j here)) (deeper_more es r n l j r.under (omega arith) (subst (λ e. AreDeeper es n l e r.under) (sym here) deeper));
    }

pub AreLinks-more : (es : List Entry) (links : List ℕ) (r : Entry) (l : ℕ) → length links ≡ length es → ((n : ℕ) → r.name ≡ Some n → IsBehindName es n l × AreDeeper es n l (length es) r.under) → AreLinks es links → AreLinks (es ++ r ∷ []) (links ++ l ∷ [])
AreLinks-more es links r l same new h j n m e = elim (cases_lt j (length es)) [
  | inl before ↦ subst (IsLink (es ++ r ∷ []) n j) (sym (get_or_append_left links (l ∷ []) 0 j (omega arith))) (link_more es r n j (slice_index links j) before (h j n before (name_stays es r j n before e)))
  | inr behind ↦
      let here : j ≡ length es = omega (arith, longer es r) in
      let own = new n (last_name es r j n here e) in
      let place : slice_index (links ++ l ∷ []) j ≡ l = get_or_at links l [] 0 j (same ∙ sym here) in
      subst (IsLink (es ++ r ∷ []) n j) (sym place) (own_link es r n j l here own.0 own.1)
]

-- it is the last row with its own name
pub IsLast-own : (es : List Entry) (r : Entry) (n b : ℕ) → b ≡ length es + 1 → r.name ≡ Some n → IsLast (es ++ r ∷ []) n b
IsLast-own es r n b is e = record {
  behind = (omega (arith, longer es r), λ some. let here : b - 1 ≡ length es = omega arith in ap (λ (q : Entry). q.name) (ap (λ i. get_or (es ++ r ∷ []) i no_entry) here ∙ at_last es r) ∙ e);
  last = λ i from below q. omega (arith, longer es r);
}

-- and changes nothing for other names
pub IsLast-other : (es : List Entry) (r : Entry) (n b : ℕ) → (r.name ≡ Some n → ⊥) → IsLast es n b → IsLast (es ++ r ∷ []) n b
IsLast-other es r n b other h = record {
  behind = IsBehindName-more es r n b h.behind;
  last = λ i from below e. elim (cases_lt i (length es)) [
    | inl before ↦ h.last i from before (name_stays es r i n before e)
    | inr behind ↦ let here : i ≡ length es = omega (arith, longer es r) in other (last_name es r i n here e)
  ];
}

pub AreLow-more : (es : List Entry) (r : Entry) → r.under ≤ length es → AreLow es → AreLow (es ++ r ∷ [])
AreLow-more es r low h i l = elim (cases_lt i (length es)) [
  | inl before ↦ let q = h i before in let same = under_same es r i before in omega arith
  | inr behind ↦ let here : i ≡ length es = omega (arith, longer es r) in let same = under_last es r i here in omega arith
]

-- a name that no row has
pub IsLast-none : (es : List Entry) (n : ℕ) → ((i : ℕ) → i < length es → IsNameAt es i n → ⊥) → IsLast es n 0
IsLast-none es n h = record {
  behind = (omega arith, λ some. absurd (omega arith));
  last = λ i from below e. h i below e;
}

-- one step along the links of a name, from a row that stands deeper than what is looked under
pub step_along : (es : List Entry) (links : List ℕ) (n b l w u : ℕ) → AreLinks es links → IsBehindName es n b → AreDeeper es n b (length es) w → w < b → IsOpen es w → u ≡ under_at es (b - 1) → (u ≡ w → ⊥) → l ≡ slice_index links (b - 1) → (l < b) × (IsBehindName es n l × AreDeeper es n l (length es) w)
step_along es links n b l w u all (within, named) deep past opened is other next =
    let some : 0 < b = omega arith in
    let last : b - 1 < length es = omega arith in
    let link : IsLink es n (b - 1) l = subst (IsLink es n (b - 1)) (sym next) (all (b - 1) n last (named some)) in
    let high : w ≤ u = subst (λ m. w ≤ m) (sym is) (opened.inside (b - 1) (omega arith) last) in
    let higher : w < u = above w u high other in
    let before : l ≤ b - 1 = link.before in (
      omega arith,
      (
        link.behind,
        λ i from below e. elim (sorted i (b - 1)) [
          | inl front ↦
              let d : under_at es (b - 1) < under_at es i = link.deeper i from front e in
              let h : w < under_at es (b - 1) = subst (λ m. w < m) is higher in
              omega arith
          | inr (inl here) ↦ subst (λ j. w < under_at es j) (sym here) (subst (λ m. w < m) is higher)
          | inr (inr back) ↦ deep i (omega arith) below e
        ],
      ),
    )
  where
    above : (w u : ℕ) → w ≤ u → (u ≡ w → ⊥) → w < u
    above w u h other = elim (cases_lt w u) [
      | inl m ↦ m
      | inr m ↦ absurd (other (omega arith))
    ]

-- the number that the row in front of a place stands under, where the row was read
pub read_under : (es : List Entry) (e : Entry) (b w : ℕ) → b ≤ length es → w < b → e ≡ get_or es (b - 1) e → e.under ≡ under_at es (b - 1)
read_under es e b w within past is = ap (λ (x : Entry). x.under) (is ∙ get_or_default es (b - 1) e no_entry (omega arith))

pub read_within : (es : List Entry) (links : List ℕ) (b w : ℕ) → length links ≡ length es → b ≤ length es → w < b → b - 1 < length links
read_within es links b w as_many within past = omega arith
