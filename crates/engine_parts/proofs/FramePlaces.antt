-- Where the lines of the sites of frames are kept: each at a place of its own, also once a line is set, a frame comes, or a span is moved behind the others.
use Rattle.std.proofs.Common.{◌≡◌, ◌<◌, ◌≤◌, ◌+◌, ◌-◌, ◌⊎◌, ℕ, zero, suc, Bool, true, false, refl, sym, ap, subst, ◌∙◌, inl, inr, arith, slice_get, List, [], ◌∷◌, ◌++◌, length, get_or-set_same, get_or-set_other, Option, Some, None, option_and_then}
use Rattle.std.specs.Prelude.{if◌then◌else◌, nat_lt, slice_index_or, slice_set}
use Rattle.std.specs.Option.{option_map_or}
use Rattle.std.proofs.lemmas.Bool.{cases_eq}
use Rattle.std.proofs.lemmas.Bool.Decides.{nat_tests}
use Rattle.std.proofs.lemmas.Option.{none-some, same_Some, slice_get_within}
use Rattle.engine_parts.specs.code.FoundLines.{line_or_none}
use Rattle.engine_parts.specs.code.FrameLines.{AreCopied, AreKept, ArePlacesApart, ArePlacesWithin, Widens, index_in, line_at, line_in, number_in, place_in}
use Rattle.engine_parts.specs.declared.frame_lines.SiteSpan.{SiteSpan}

-- ---- tests of numbers

is-less : (a b : ℕ) → nat_lt a b ≡ true → a < b
is-less a b e = grind (arith, nat_tests, e)

is-past : (a b : ℕ) → nat_lt a b ≡ false → b ≤ a
is-past a b e = grind (arith, nat_tests, e)

less : (a b : ℕ) → a < b → nat_lt a b ≡ true
less a b e = grind (arith, nat_tests, e)

past : (a b : ℕ) → b ≤ a → nat_lt a b ≡ false
past a b e = grind (arith, nat_tests, e)

-- ---- lists

set-here : {X : Type 0} (xs : List X) (n : ℕ) (x : X) → n < length xs → slice_get (slice_set xs n x) n ≡ Some x
set-here [] n x within = absurd (omega (arith, within))
set-here (y ∷ xs) zero x within = refl
set-here (y ∷ xs) (suc n) x within = set-here xs n x (omega (arith, within))

set-other : {X : Type 0} (xs : List X) (n m : ℕ) (x : X) → (m ≡ n → ⊥) → slice_get (slice_set xs n x) m ≡ slice_get xs m
set-other [] n m x other = refl
set-other (y ∷ xs) zero zero x other = absurd (other refl)
set-other (y ∷ xs) zero (suc m) x other = refl
set-other (y ∷ xs) (suc n) zero x other = refl
set-other (y ∷ xs) (suc n) (suc m) x other = set-other xs n m x (λ e. other (ap suc e))

-- ---- the sites of a span

-- what the place of a site says
index-is : (span : SiteSpan) (site index : ℕ) → index_in span site ≡ Some index → (span.first ≤ site) × (site < span.first + span.count) × (index + span.first ≡ span.start + site)
index-is span site index e = by (nat_lt site span.first) (nat_lt (site - span.first) span.count) refl refl e
  where
    by : (below within : Bool) → nat_lt site span.first ≡ below → nat_lt (site - span.first) span.count ≡ within
        → (if below then None else (if within then Some (span.start + (site - span.first)) else None)) ≡ Some index
        → (span.first ≤ site) × (site < span.first + span.count) × (index + span.first ≡ span.start + site)
    by true within b w e = absurd (none-some index e)
    by false false b w e = absurd (none-some index e)
    by false true b w e =
        let from : span.first ≤ site = is-past site span.first b in
        let upto : site - span.first < span.count = is-less (site - span.first) span.count w in
        let same : span.start + (site - span.first) ≡ index = same_Some (span.start + (site - span.first)) index e in
        (from, omega (arith, from, upto), omega (arith, from, same))

-- a site of a span has its place
index-of : (span : SiteSpan) (site : ℕ) → span.first ≤ site → site < span.first + span.count → index_in span site ≡ Some (span.start + (site - span.first))
index-of span site from upto =
    ap (λ (b : Bool). if b then None else (if nat_lt (site - span.first) span.count then Some (span.start + (site - span.first)) else None)) (past site span.first from)
    ∙ ap (λ (b : Bool). if b then Some (span.start + (site - span.first)) else None) (less (site - span.first) span.count (omega (arith, from, upto)))

-- a site is one of a span, or has no place
sited : (span : SiteSpan) (site : ℕ) → ((span.first ≤ site) × (site < span.first + span.count)) ⊎ (index_in span site ≡ None)
sited span site = by (nat_lt site span.first) (nat_lt (site - span.first) span.count) refl refl
  where
    by : (below within : Bool) → nat_lt site span.first ≡ below → nat_lt (site - span.first) span.count ≡ within
        → ((span.first ≤ site) × (site < span.first + span.count)) ⊎ ((if below then None else (if within then Some (span.start + (site - span.first)) else None)) ≡ None)
    by true within b w = inr refl
    by false false b w = inr refl
    by false true b w =
        let from : span.first ≤ site = is-past site span.first b in
        let upto : site - span.first < span.count = is-less (site - span.first) span.count w in
        inl (from, omega (arith, from, upto))

-- no site is one of an empty span
empty-span : (first site : ℕ) → index_in (record { first = first; start = 0; count = 0 }) site ≡ None
empty-span first site = elim (sited (record { first = first; start = 0; count = 0 }) site) [
  | inl (from, upto) ↦ absurd (omega (arith, from, upto))
  | inr none ↦ none
]

is-line : (n : ℕ) → 0 < n → line_or_none n ≡ Some n
is-line zero some = absurd (omega (arith, some))
is-line (suc n) some = refl

-- the number of a site is that of its line
number-line : (span : SiteSpan) (lines : List ℕ) (site : ℕ) → line_or_none (number_in span lines site) ≡ option_and_then (line_at lines) (index_in span site)
number-line span lines site = by (index_in span site)
  where
    by : (o : Option ℕ) → line_or_none (option_map_or (λ (index : ℕ). slice_index_or lines index 0) o 0) ≡ option_and_then (line_at lines) o
    by None = refl
    by (Some index) = refl

-- ---- the places of frames

pub place-of : (spans : List SiteSpan) (n : ℕ) (span : SiteSpan) → slice_get spans n ≡ Some span → (x : ℕ) → place_in spans n x ≡ index_in span x
place-of spans n span there x = ap (option_and_then (λ (s : SiteSpan). index_in s x)) there

-- one frame more, with no site
more-frames : (spans : List SiteSpan) (first n m : ℕ) → place_in (spans ++ record { first = first; start = 0; count = 0 } ∷ []) n m ≡ place_in spans n m
more-frames [] first zero m = empty-span first m
more-frames [] first (suc n) m = refl
more-frames (s ∷ spans) first zero m = refl
more-frames (s ∷ spans) first (suc n) m = more-frames spans first n m

-- a list of no frames has no line
pub no-frames : (spans : List SiteSpan) (lines : List ℕ) → spans ≡ [] → (n m : ℕ) → line_in spans lines n m ≡ None
no-frames spans lines none n m = ap (λ (xs : List SiteSpan). line_in xs lines n m) none

module _ (spans : List SiteSpan) (lines : List ℕ) (within : ArePlacesWithin spans (length lines)) (apart : ArePlacesApart spans) where
  -- what is kept stays what it was where more is kept behind it
  pub lines-kept : (new : List ℕ) → AreKept lines new → (n m : ℕ) → line_in spans new n m ≡ line_in spans lines n m
  lines-kept new kept n m = by (place_in spans n m) refl
    where
      by : (o : Option ℕ) → place_in spans n m ≡ o → option_and_then (line_at new) o ≡ option_and_then (line_at lines) o
      by None is = refl
      by (Some index) is = ap line_or_none (kept.1 index (within n m index is))

  pub within-kept : (new : List ℕ) → AreKept lines new → ArePlacesWithin spans (length new)
  within-kept new kept n x index e = let less = within n x index e in omega (arith, less, kept.0)

  -- ---- one frame more

  module _ (first : ℕ) where
    abbrev pub one_more : List SiteSpan
    one_more = spans ++ record { first = first; start = 0; count = 0 } ∷ []

    added-within : ArePlacesWithin one_more (length lines)
    added-within n x index e = within n x index (sym (more-frames spans first n x) ∙ e)

    added-apart : ArePlacesApart one_more
    added-apart n x m y index e f = apart n x m y index (sym (more-frames spans first n x) ∙ e) (sym (more-frames spans first m y) ∙ f)

    -- whether it was added or not
    pub pushed-within : (b : Bool) → ArePlacesWithin (if b then one_more else spans) (length lines)
    pushed-within true = added-within
    pushed-within false = within

    pub pushed-apart : (b : Bool) → ArePlacesApart (if b then one_more else spans)
    pushed-apart true = added-apart
    pushed-apart false = apart

    pub added-lines : (n m : ℕ) → line_in one_more lines n m ≡ line_in spans lines n m
    added-lines n m = ap (option_and_then (line_at lines)) (more-frames spans first n m)

  -- ---- a line is set

  module _ (frame site index line : ℕ) (place : place_in spans frame site ≡ Some index) where
    pub line-set : 0 < line → line_in spans (slice_set lines index line) frame site ≡ Some line
    line-set some =
        ap (option_and_then (line_at (slice_set lines index line))) place
        ∙ ap line_or_none (get_or-set_same lines index line 0 (within frame site index place))
        ∙ is-line line some

    pub lines-other : (n m : ℕ) → (n ≡ frame → m ≡ site → ⊥) → line_in spans (slice_set lines index line) n m ≡ line_in spans lines n m
    lines-other n m other = by (place_in spans n m) refl
      where
        by : (o : Option ℕ) → place_in spans n m ≡ o → option_and_then (line_at (slice_set lines index line)) o ≡ option_and_then (line_at lines) o
        by None is = refl
        by (Some i) is =
            ap line_or_none (get_or-set_other lines index i line 0 (λ e. let same = apart n m frame site i is (place ∙ ap Some (sym e)) in other same.0 same.1))

  -- ---- a span is moved

  module _ (frame site : ℕ) (span wider : SiteSpan) (there : slice_get spans frame ≡ Some span) (widens : Widens span site (length lines) wider) where
    abbrev pub moved : List SiteSpan
    moved = slice_set spans frame wider

    moved-here : (x : ℕ) → place_in moved frame x ≡ index_in wider x
    moved-here x = place-of moved frame wider (set-here spans frame wider (slice_get_within spans frame span there)) x

    moved-other : (n x : ℕ) → (n ≡ frame → ⊥) → place_in moved n x ≡ place_in spans n x
    moved-other n x other = ap (option_and_then (λ (s : SiteSpan). index_in s x)) (set-other spans frame n wider other)

    pub moved-place : place_in moved frame site ≡ Some (wider.start + (site - wider.first))
    moved-place = moved-here site ∙ index-of wider site widens.from widens.upto

    -- no site of the old span is outside of the new one
    outside : (x : ℕ) → index_in wider x ≡ None → index_in span x ≡ None
    outside x none = elim (sited span x) [
      | inl (from, upto) ↦
          absurd (none-some (wider.start + (x - wider.first)) (sym none ∙ index-of wider x (omega (arith, from, widens.first)) (omega (arith, upto, widens.last))))
      | inr gone ↦ gone
    ]

    -- the place of a site of the frame that was moved
    ahead : (n x index : ℕ) → n ≡ frame → place_in moved n x ≡ Some index → (wider.first ≤ x) × (x < wider.first + wider.count) × (index + wider.first ≡ wider.start + x)
    ahead n x index same e = index-is wider x index (sym (moved-here x) ∙ sym (ap (λ (k : ℕ). place_in moved k x) same) ∙ e)

    before : (n x index : ℕ) → (n ≡ frame → ⊥) → place_in moved n x ≡ Some index → place_in spans n x ≡ Some index
    before n x index other e = sym (moved-other n x other) ∙ e

    pub moved-apart : ArePlacesApart moved
    moved-apart n x m y index e f = elim (cases_eq n frame) [
      | inl here ↦
          let a = ahead n x index here e in
          elim (cases_eq m frame) [
            | inl there ↦ let b = ahead m y index there f in (here ∙ sym there, omega (arith, a.2, b.2))
            | inr other ↦ let less = within m y index (before m y index other f) in absurd (omega (arith, a.0, a.2, widens.starts, less))
          ]
      | inr away ↦ elim (cases_eq m frame) [
        | inl there ↦
            let b = ahead m y index there f in
            let less = within n x index (before n x index away e) in
            absurd (omega (arith, b.0, b.2, widens.starts, less))
        | inr other ↦ apart n x m y index (before n x index away e) (before m y index other f)
      ]
    ]

    module _ (new : List ℕ) (kept : AreKept lines new) (copied : AreCopied lines span wider.first wider.count new) where
      pub moved-within : ArePlacesWithin moved (length new)
      moved-within n x index e = elim (cases_eq n frame) [
        | inl here ↦ let a = ahead n x index here e in omega (arith, a.0, a.1, a.2, widens.starts, copied.0)
        | inr other ↦ let less = within n x index (before n x index other e) in omega (arith, less, kept.0)
      ]

      line-moved : (x : ℕ) → option_and_then (line_at new) (index_in wider x) ≡ option_and_then (line_at lines) (index_in span x)
      line-moved x = elim (sited wider x) [
        | inl (from, upto) ↦
            let back : wider.first + (x - wider.first) ≡ x = omega (arith, from) in
            ap (option_and_then (line_at new)) (index-of wider x from upto)
            ∙ ap line_or_none
            (ap (λ (k : ℕ). slice_index_or new (k + (x - wider.first)) 0) widens.starts ∙ copied.1 (x - wider.first) (omega (arith, from, upto)) ∙ ap (number_in span lines) back)
            ∙ number-line span lines x
        | inr none ↦ ap (option_and_then (line_at new)) none ∙ sym (ap (option_and_then (line_at lines)) (outside x none))
      ]

      moved-line : (x : ℕ) → line_in moved new frame x ≡ line_in spans lines frame x
      moved-line x = ap (option_and_then (line_at new)) (moved-here x) ∙ line-moved x ∙ sym (ap (option_and_then (line_at lines)) (place-of spans frame span there x))

      pub moved-lines : (n m : ℕ) → line_in moved new n m ≡ line_in spans lines n m
      moved-lines n m = elim (cases_eq n frame) [
        | inl here ↦ subst (λ (k : ℕ). line_in moved new k m ≡ line_in spans lines k m) (sym here) (moved-line m)
        | inr other ↦ ap (option_and_then (line_at new)) (moved-other n m other) ∙ lines-kept new kept n m
      ]
