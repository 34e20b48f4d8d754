-- Counts of entries behind leads, one lead after another, and of lines, one behind another.
use Rattle.std.proofs.Common.{◌≡◌, ◌⊎◌, ℕ, zero, suc, ◌+◌, ◌-◌, ◌^◌, ◌<◌, ◌≤◌, Bool, min, List, [], ◌∷◌, ◌++◌, length, get_or, drop, drop-cons, map, refl, sym, ap, subst, ◌∙◌, inl, inr, arith, if◌then◌else◌}
use Rattle.std.specs.Prelude.{slice_index_or}
use Rattle.std.specs.List.{flat_map}
use Rattle.std.proofs.lemmas.List.{drop_all, length-append}
use Rattle.evidence_lines.specs.Lines.{line_of}
use Rattle.evidence_lines.specs.declared.line.Line.{Line}
use Rattle.rule_meaning.specs.Fails.{Entry}
use Rattle.rule_meaning.specs.Seeing.{call_at}
use Rattle.rule_meaning.specs.StoreModel.{StoreModel}
use Rattle.evidence_truth.specs.code.LineFails.{line_fails}
use Rattle.evidence_report.specs.code.Counts.{AreCounts, count_of, counted}
use Rattle.evidence_leads.specs.code.Leads.{AreBelow, CitesFall, IsBelow, Leading, entries_behind, line_leads, see_lead}
use Rattle.evidence_leads.specs.declared.lead.Lead.{Lead}
use Rattle.evidence_leads.specs.declared.lead.Lead.TheVariants as lead
use Rattle.evidence_leads.proofs.LeadEntries.{below-line, fails-behind}

capped : (count e r cap : ℕ) → min (min (count + min e cap) cap + r) cap ≡ min (count + (e + r)) cap
capped count e r cap = omega arith

-- entries that are gathered of one element after another
module _ {A B : Type 0} (of : B → List Entry) (see : A → B) where
  abbrev pub gathered : List A → List Entry
  gathered xs = flat_map of (map see xs)

  -- one element more
  pub count-more : (xs : List A) (i : ℕ) (d : A) (all count one later : ℕ) → i < length xs → one ≡ counted (of (see (get_or xs i d)))
      → later ≡ min (count + one) (2 ^ 64 - 1) → min (count + length (gathered (drop i xs))) (2 ^ 64 - 1) ≡ all → min (later + length (gathered (drop (i + 1) xs))) (2 ^ 64 - 1) ≡ all
  count-more xs i d all count one later within is more owes =
      let e : suc i ≡ i + 1 = omega arith in
      let x = get_or xs i d in
      let here = of (see x) in
      let left : drop i xs ≡ x ∷ drop (i + 1) xs = drop-cons xs i d within ∙ ap (λ (n : ℕ). x ∷ drop n xs) e in
      let longer : length (gathered (drop i xs)) ≡ length here + length (gathered (drop (i + 1) xs)) =
      ap (λ (ys : List A). length (gathered ys)) left ∙ length-append here (gathered (drop (i + 1) xs)) in
      ap (λ (n : ℕ). min (n + length (gathered (drop (i + 1) xs))) (2 ^ 64 - 1)) (more ∙ ap (λ (n : ℕ). min (count + n) (2 ^ 64 - 1)) is)
      ∙ capped count (length here) (length (gathered (drop (i + 1) xs))) (2 ^ 64 - 1)
      ∙ ap (λ (n : ℕ). min (count + n) (2 ^ 64 - 1)) (sym longer)
      ∙ owes

  pub count-ends : (xs : List A) (i all count : ℕ) → length xs ≤ i → count ≤ 2 ^ 64 - 1 → min (count + length (gathered (drop i xs))) (2 ^ 64 - 1) ≡ all → count ≡ all
  count-ends xs i all count past small owes =
      let none : length (gathered (drop i xs)) ≡ 0 = ap (λ (ys : List A). length (gathered ys)) (drop_all i xs past) in
      omega (arith, none, small, owes)

module _ (known : StoreModel) (lines : List Line) where
  -- the entries behind some leads
  abbrev pub all_behind : List Lead → List Entry
  all_behind xs = gathered (entries_behind (λ (c : ℕ). line_fails known lines c c)) (see_lead known) xs

  pub below-lead : (n : ℕ) (xs : List Lead) (i : ℕ) (d : Lead) → i < length xs → AreBelow known lines n (map (see_lead known) xs) → IsBelow known lines n (see_lead known (get_or xs i d))
  below-lead n [] i d within are = absurd (omega (arith, within))
  below-lead n (x ∷ xs) zero d within are = are.0
  below-lead n (x ∷ xs) (suc i) d within are = below-lead n xs i d (omega (arith, within)) are.1

-- a count behind others
got-in : (xs : List ℕ) (x n : ℕ) → n < length (xs ++ x ∷ []) → (n < length xs) ⊎ (n ≡ length xs)
got-in [] x zero within = inr refl
got-in [] x (suc n) within = absurd (omega (arith, within))
got-in (y ∷ xs) x zero within = inl (omega arith)
got-in (y ∷ xs) x (suc n) within = elim (got-in xs x n (omega (arith, within))) [
  | inl less ↦ inl (omega (arith, less))
  | inr is ↦ inr (ap suc is)
]

front-at : (xs : List ℕ) (x n : ℕ) → n < length xs → slice_index_or (xs ++ x ∷ []) n 0 ≡ slice_index_or xs n 0
front-at [] x n within = absurd (omega (arith, within))
front-at (y ∷ xs) x zero within = refl
front-at (y ∷ xs) x (suc n) within = front-at xs x n (omega (arith, within))

last-at : (xs : List ℕ) (x : ℕ) → slice_index_or (xs ++ x ∷ []) (length xs) 0 ≡ x
last-at [] x = refl
last-at (y ∷ xs) x = last-at xs x

pub counts-more : (known : StoreModel) (lines : List Line) (counts later : List ℕ) (x : ℕ) → later ≡ counts ++ x ∷ [] → AreCounts known lines counts
    → x ≡ count_of known lines (suc (length counts)) → AreCounts known lines later
counts-more known lines counts later x is are one = subst (AreCounts known lines) (sym is) (λ n within. by n (got-in counts x n within))
  where
    by : (n : ℕ) → (n < length counts) ⊎ (n ≡ length counts) → slice_index_or (counts ++ x ∷ []) n 0 ≡ count_of known lines (suc n)
    by n (inl less) = front-at counts x n less ∙ are n less
    by n (inr same) =
        ap (λ (m : ℕ). slice_index_or (counts ++ x ∷ []) m 0) same ∙ last-at counts x ∙ one ∙ sym (ap (λ (m : ℕ). count_of known lines (suc m)) same)

pub one-longer : (old new : List ℕ) (x n : ℕ) → new ≡ old ++ x ∷ [] → length old ≡ n → length new ≡ n + 1
one-longer old new x n is size = ap (λ (xs : List ℕ). length xs) is ∙ length-append old (x ∷ []) ∙ ap (λ (k : ℕ). k + 1) size

-- an earlier line that says FAIL is counted
pub lead-counted : (known : StoreModel) (lines : List Line) (counts : List ℕ) (x : Lead) (c result : ℕ) → x ≡ lead.Line c → AreCounts known lines counts
    → IsBelow known lines (suc (length counts)) (see_lead known x) → result ≡ call_at counts c → result ≡ counted (entries_behind (λ (n : ℕ). line_fails known lines n n) (see_lead known x))
lead-counted known lines counts (lead.Entry e) c result is are below says = absurd cc
lead-counted known lines counts (lead.Line zero) c result is are below says = let failing = below.1 in absurd cc
lead-counted known lines counts (lead.Line (suc n)) c result is are below says =
    let same : c ≡ suc n = cc in
    let less = below.0 in
    says ∙ ap (call_at counts) same ∙ are n (omega (arith, less))
    ∙ ap (λ (b : Bool). if b then counted (line_fails known lines (suc n) (suc n)) else 0) below.1

-- the line behind those that are counted
pub next-counted : (known : StoreModel) (lines : List Line) → CitesFall lines → (n : ℕ) (xs : List Lead) → map (see_lead known) xs ≡ line_leads known lines (line_of lines (n + 1)) → (result : ℕ)
    → (AreBelow known lines (suc n) (map (see_lead known) xs) → result ≡ counted (all_behind known lines xs)) → result ≡ counted (line_fails known lines (suc n) (suc n))
next-counted known lines falls n xs are result tells =
    let s : n + 1 ≡ suc n = omega arith in
    let here : map (see_lead known) xs ≡ line_leads known lines (line_of lines (suc n)) = are ∙ ap (λ (m : ℕ). line_leads known lines (line_of lines m)) s in
    tells (subst (AreBelow known lines (suc n)) (sym here) (below-line known lines falls (suc n)))
    ∙ ap (λ (ls : List Leading). counted (flat_map (entries_behind (λ (c : ℕ). line_fails known lines c c)) ls)) here
    ∙ ap counted (fails-behind known lines falls (suc n))
