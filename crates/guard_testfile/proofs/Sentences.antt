-- What a tests file says value by value: keys that a map may have, entries and cases one after another, and where nodes stand.
use Rattle.std.proofs.Common.{◌≡◌, ℕ, ◌+◌, ◌-◌, ◌<◌, ◌≤◌, true, List, [], ◌∷◌, ◌++◌, length, get_or, map, Option, sym, ap, ap₂, ◌∙◌, inl, inr, arith, append_assoc, length-append}
use Rattle.std.specs.Prelude.{◌&&◌}
use Rattle.std.proofs.lemmas.Bool.{cases_lt}
use Rattle.std.proofs.lemmas.List.{get_or_append_left, get_or-append_right, map-append}
use Rattle.doc_values.specs.Places.{first_label, first_kids, kids_at, label_at}
use Rattle.doc_values.specs.Tree.{Label, Forest, size, count}
use Rattle.guard_testfile.specs.Cases.{case_at, cases_in, expected_by, expected_in}
use Rattle.guard_testfile.specs.Shape.{has_only, is_shaped, may_have, place_of, shaped_at, verdict_named}
use Rattle.guard_testfile.specs.code.Places.{ArePlaces}
use Rattle.guard_testfile.specs.code.Siblings.{from_index}
use Rattle.guard_testfile.specs.declared.place.Place.{Place}
use Rattle.guard_testfile.specs.declared.place.Place.TheVariants as place
use Rattle.guard_testfile.proofs.Siblings.{index-step, index-end}

-- ---- one value after another

pub only-more : (at : Place) (f : Forest) (i : ℕ) (key : Option (List ℕ)) → i < count f → key ≡ (first_label (from_index f i)).key → has_only at (from_index f i) ≡ (may_have at key && has_only at (from_index f (i + 1)))
only-more at f i key h is = ap (has_only at) (index-step f i h) ∙ ap (λ k. may_have at k && has_only at (from_index f (i + 1))) (sym is)

pub only-end : (at : Place) (f : Forest) (i : ℕ) → count f ≤ i → has_only at (from_index f i) ≡ true
only-end at f i h = ap (has_only at) (index-end f i h)

pub expected-more : (f : Forest) (i : ℕ) (l : Label) → i < count f → l ≡ first_label (from_index f i)
    → expected_in (from_index f i) ≡ expected_by l.key (verdict_named l.text) ++ expected_in (from_index f (i + 1))
expected-more f i l h is = ap expected_in (index-step f i h) ∙ ap (λ (m : Label). expected_by m.key (verdict_named m.text) ++ expected_in (from_index f (i + 1))) (sym is)

pub expected-end : (f : Forest) (i : ℕ) → count f ≤ i → expected_in (from_index f i) ≡ []
expected-end f i h = ap expected_in (index-end f i h)

pub cases-more : (at next : ℕ) (f kids : Forest) (i : ℕ) → i < count f → kids ≡ first_kids (from_index f i) → next ≡ at + 1 + size (first_kids (from_index f i))
    → cases_in at (from_index f i) ≡ case_at at kids ∷ cases_in next (from_index f (i + 1))
cases-more at next f kids i h is step =
    ap (cases_in at) (index-step f i h) ∙ ap₂ (λ (g : Forest) (n : ℕ). case_at at g ∷ cases_in n (from_index f (i + 1))) (sym is) (sym step)

pub cases-end : (at : ℕ) (f : Forest) (i : ℕ) → count f ≤ i → cases_in at (from_index f i) ≡ []
cases-end at f i h = ap (cases_in at) (index-end f i h)

-- what is read so far and what is left, one item further
pub read-more : {A B : Type 0} (see : A → B) (items new : List A) (x : A) (y : B) (rest left all : List B) → new ≡ items ++ x ∷ [] → see x ≡ y → left ≡ y ∷ rest → map see items ++ left ≡ all → map see new ++ rest ≡ all
read-more see items new x y rest left all put seen next before =
    ap (λ xs. map see xs ++ rest) put ∙ ap (λ ys. ys ++ rest) (map-append see items (x ∷ [])) ∙ append_assoc (map see items) (see x ∷ []) rest
    ∙ ap (λ z. map see items ++ (z ∷ rest)) seen ∙ ap (λ ys. map see items ++ ys) (sym next) ∙ before

-- ---- node by node

pub places-more : (tree : Forest) (n : ℕ) (ps new : List Place) (p : Place) → ArePlaces tree n ps → new ≡ ps ++ p ∷ [] → p ≡ place_of tree n → ArePlaces tree (n + 1) new
places-more tree n ps new p before put is =
    let counted = before.counted in
    record {
      counted = ap (λ (t : List Place). length t) put ∙ length-append ps (p ∷ []) ∙ omega (arith, counted);
      each = λ m h. ap (λ (t : List Place). get_or t m place.Cases) put ∙ elim (cases_lt m n) [
        | inl low ↦ get_or_append_left ps (p ∷ []) place.Cases m (omega (arith, low, counted)) ∙ before.each m low
        | inr high ↦
            let same : m ≡ n = omega (arith, h, high) in
            let none : m - n ≡ 0 = omega (arith, same) in
            get_or-append_right ps (p ∷ []) n m place.Cases counted high ∙ ap (λ (k : ℕ). get_or (p ∷ []) k place.Cases) none ∙ is ∙ ap (place_of tree) (sym same)
      ];
    }

pub shaped-same : (tree g : Forest) (n m : ℕ) (p : Place) → p ≡ place_of tree n → g ≡ tree → m ≡ n → is_shaped p (label_at g m) (kids_at g m) ≡ shaped_at tree n
shaped-same tree g n m p at same is =
    ap (λ (q : Place). is_shaped q (label_at g m) (kids_at g m)) at ∙ ap₂ (λ (t : Forest) (k : ℕ). is_shaped (place_of tree n) (label_at t k) (kids_at t k)) same is
