-- A filter row by row: what is made so far, and what is left.
use Rattle.std.proofs.Common.{◌≡◌, ℕ, zero, suc, ◌+◌, ◌-◌, ◌<◌, ◌≤◌, Bool, true, false, List, [], ◌∷◌, ◌++◌, length, map, take, drop, get_or, refl, sym, ap, ◌∙◌, arith, add-one, append_assoc, ◌⊎◌, inl, inr, length-append, length-drop, if◌then◌else◌}
use Rattle.std.proofs.Math.Seq.{drop-cons, take-suc}
use Rattle.std.proofs.lemmas.Bool.{and_from, and_parts}
use Rattle.std.proofs.lemmas.Grind.{flat_map-append}
use Rattle.std.proofs.lemmas.List.{append-nil, take_all}
use Rattle.std.proofs.lemmas.List.Folds.{list_all-append, list_all-map}
use Rattle.std.specs.List.{filter, list_all, zip}
use Rattle.guard_syntax.specs.declared.row.Ref.{Ref}
use Rattle.guard_syntax.specs.declared.row.Row.{Row}
use Rattle.guard_syntax.specs.declared.row.Row.TheVariants.{Found, Missing, Unmade}
use Rattle.guard_syntax.specs.declared.row.Verdict.{Verdict}
use Rattle.rule_meaning.specs.StoreModel.{StoreModel, is_known, is_known_ref}
use Rattle.rule_meaning.specs.Filters.{candidates_of, row_candidates, candidates_in, kept, filtered}
use Rattle.rule_meaning.specs.Verdicts.{is_found, is_pass}
use Rattle.query_steps.proofs.KnownRows.{filter-all}

-- what is kept, as the candidates beside their verdicts are told apart
abbrev pub kept_pairs : List Ref → List Verdict → List Row
kept_pairs tried verdicts = map (λ (p : Ref × Verdict). Found p.0) (filter (λ (p : Ref × Verdict). is_pass p.1) (zip tried verdicts))

kept-pair : (passes : Bool) (r : Ref) (v : Verdict) (left : List Row) (pairs : List (Ref × Verdict)) → left ≡ map (λ (p : Ref × Verdict). Found p.0) pairs
    → (if passes then Found r ∷ left else left) ≡ map (λ (p : Ref × Verdict). Found p.0) (if passes then (r, v) ∷ pairs else pairs)
kept-pair true r v left pairs e = ap (λ xs. Found r ∷ xs) e
kept-pair false r v left pairs e = e

pub kept-pairs : (rs : List Ref) (vs : List Verdict) → kept rs vs ≡ kept_pairs rs vs
kept-pairs [] vs = refl
kept-pairs (r ∷ rs) [] = refl
kept-pairs (r ∷ rs) (v ∷ vs) = kept-pair (is_pass v) r v (kept rs vs) (filter (λ (p : Ref × Verdict). is_pass p.1) (zip rs vs)) (kept-pairs rs vs)

-- what is kept of known values is known
known-one : (known : StoreModel) (passes : Bool) (r : Ref) (rows : List Row) → is_known_ref known r ≡ true → list_all (is_known known) rows ≡ true
    → list_all (is_known known) (if passes then Found r ∷ rows else rows) ≡ true
known-one known true r rows here others = and_from _ _ here others
known-one known false r rows here others = others

pub kept-known : (known : StoreModel) (rs : List Ref) (vs : List Verdict) → list_all (is_known_ref known) rs ≡ true → list_all (is_known known) (kept rs vs) ≡ true
kept-known known [] vs all = refl
kept-known known (r ∷ rs) [] all = refl
kept-known known (r ∷ rs) (v ∷ vs) all =
    let parts = and_parts (is_known_ref known r) (list_all (is_known_ref known) rs) all in
    known-one known (is_pass v) r (kept rs vs) parts.0 (kept-known known rs vs parts.1)

pub known-pairs : (known : StoreModel) (made new : List Row) (rs : List Ref) (vs : List Verdict) → new ≡ made ++ kept_pairs rs vs
    → list_all (is_known known) made ≡ true → list_all (is_known_ref known) rs ≡ true → list_all (is_known known) new ≡ true
known-pairs known made new rs vs put before all =
    ap (list_all (is_known known)) put ∙ list_all-append (is_known known) made (kept_pairs rs vs)
    ∙ and_from _ _ before (ap (list_all (is_known known)) (sym (kept-pairs rs vs)) ∙ kept-known known rs vs all)

pub known-refs : (known : StoreModel) (made new rs : List Ref) → new ≡ made ++ rs
    → list_all (is_known_ref known) made ≡ true → list_all (is_known_ref known) rs ≡ true → list_all (is_known_ref known) new ≡ true
known-refs known made new rs put before all = ap (list_all (is_known_ref known)) put ∙ list_all-append (is_known_ref known) made rs ∙ and_from _ _ before all

-- a row of known ones is known
known-at : (known : StoreModel) (rows : List Row) (i : ℕ) (d : Row) → i < length rows → list_all (is_known known) rows ≡ true → is_known known (get_or rows i d) ≡ true
known-at known [] i d within all = absurd (omega arith)
known-at known (row ∷ rows) zero d within all = (and_parts (is_known known row) (list_all (is_known known) rows) all).0
known-at known (row ∷ rows) (suc i) d within all = known-at known rows i d (omega arith) (and_parts (is_known known row) (list_all (is_known known) rows) all).1

pub known-row : (known : StoreModel) (rows : List Row) (i : ℕ) (d : Row) (made new : List Row) → i < length rows → new ≡ made ++ get_or rows i d ∷ []
    → list_all (is_known known) made ≡ true → list_all (is_known known) rows ≡ true → list_all (is_known known) new ≡ true
known-row known rows i d made new within put before all =
    ap (list_all (is_known known)) put ∙ list_all-append (is_known known) made (get_or rows i d ∷ [])
    ∙ and_from _ _ before (and_from _ _ (known-at known rows i d within all) refl)

-- known values that pass a test, as rows
pub known-found : (known : StoreModel) (test : Ref → Bool) (rs : List Ref) → list_all (is_known_ref known) rs ≡ true → list_all (is_known known) (map Found (filter test rs)) ≡ true
known-found known test rs all = list_all-map (is_known known) Found (filter test rs) ∙ filter-all test (is_known_ref known) rs all

-- a row that was not found stays
stays : (known : StoreModel) (after_key : Bool) (row : Row) (rows : List Row) (vs : List Verdict) → is_found row ≡ false → filtered known after_key (row ∷ rows) vs ≡ row ∷ filtered known after_key rows vs
stays known after_key (Found v) rows vs lost = absurd cc
stays known after_key (Missing v site) rows vs lost = refl
stays known after_key (Unmade call) rows vs lost = refl

none-of : (known : StoreModel) (after_key : Bool) (row : Row) → is_found row ≡ false → row_candidates known after_key row ≡ []
none-of known after_key (Found v) lost = absurd cc
none-of known after_key (Missing v site) lost = refl
none-of known after_key (Unmade call) lost = refl

-- the verdicts behind the first ones, as the code has them
pub rest-is : (n used : ℕ) (left now : List Verdict) → n ≡ used → now ≡ take (length left - n) (drop n left) → now ≡ drop used left
rest-is n used left now same is =
    let cut = length-drop n left in
    let short : length (drop n left) ≤ length left - n = omega arith in
    is ∙ take_all (length left - n) (drop n left) short ∙ ap (λ k. drop k left) same

-- a row of one of the two kinds that were not found
pub other-row : (row : Row) → ((value : Ref) × (site : ℕ) × row ≡ Missing value site) ⊎ ((call : ℕ) × row ≡ Unmade call) → is_found row ≡ false
other-row row kinds = elim kinds [ inl p ↦ ap is_found p.2 | inr p ↦ ap is_found p.1 ]

pub lost-row : (row : Row) → ((v : Ref) → row ≡ Found v → ⊥) → is_found row ≡ false
lost-row (Found v) other = absurd (other v refl)
lost-row (Missing v site) other = refl
lost-row (Unmade call) other = refl

module _ (known : StoreModel) (after_key : Bool) (before : List Row) (i : ℕ) (d : Row) (within : i < length before) where
  abbrev behind : List Row
  behind = drop (i + 1) before

  next : (row : Row) → get_or before i d ≡ row → drop i before ≡ row ∷ behind
  next row is = rw (add-one, drop-cons before i d within, is) refl

  -- a found row: its candidates are kept by the next verdicts
  pub kept-found : (v : Ref) (tried : List Ref) (verdicts left : List Verdict) (made new : List Row) → get_or before i d ≡ Found v → tried ≡ candidates_of known after_key v → new ≡ made ++ kept_pairs tried left
      → filtered known after_key before verdicts ≡ made ++ filtered known after_key (drop i before) left
      → filtered known after_key before verdicts ≡ new ++ filtered known after_key (drop (i + 1) before) (drop (length tried) left)
  kept-found v tried verdicts left made new is are put so =
      so ∙ ap (λ (rows : List Row). made ++ filtered known after_key rows left) (next (Found v) is)
      ∙ ap (λ (rs : List Ref). made ++ (kept rs left ++ filtered known after_key behind (drop (length rs) left))) (sym are)
      ∙ ap (λ (rows : List Row). made ++ (rows ++ filtered known after_key behind (drop (length tried) left))) (kept-pairs tried left)
      ∙ sym (append_assoc made (kept_pairs tried left) (filtered known after_key behind (drop (length tried) left)))
      ∙ ap (λ (rows : List Row). rows ++ filtered known after_key behind (drop (length tried) left)) (sym put)

  pub enough-found : (v : Ref) (tried : List Ref) (left : List Verdict) → get_or before i d ≡ Found v → tried ≡ candidates_of known after_key v
      → length left ≡ length (candidates_in known after_key (drop i before)) → length left ≡ length tried + length (candidates_in known after_key (drop (i + 1) before))
  enough-found v tried left is are so =
      so ∙ ap (λ (rows : List Row). length (candidates_in known after_key rows)) (next (Found v) is)
      ∙ length-append (candidates_of known after_key v) (candidates_in known after_key behind)
      ∙ ap (λ (rs : List Ref). length rs + length (candidates_in known after_key behind)) (sym are)

  pub left-found : (v : Ref) (tried : List Ref) (left : List Verdict) → get_or before i d ≡ Found v → tried ≡ candidates_of known after_key v
      → length left ≡ length (candidates_in known after_key (drop i before)) → length (drop (length tried) left) ≡ length (candidates_in known after_key (drop (i + 1) before))
  left-found v tried left is are so =
      let all = enough-found v tried left is are so in
      let cut = length-drop (length tried) left in
      omega arith

  -- another row stays
  pub kept-other : (verdicts left : List Verdict) (made new : List Row) → is_found (get_or before i d) ≡ false → new ≡ made ++ get_or before i d ∷ []
      → filtered known after_key before verdicts ≡ made ++ filtered known after_key (drop i before) left
      → filtered known after_key before verdicts ≡ new ++ filtered known after_key (drop (i + 1) before) left
  kept-other verdicts left made new lost put so =
      so ∙ ap (λ (rows : List Row). made ++ filtered known after_key rows left) (next (get_or before i d) refl)
      ∙ ap (λ (rows : List Row). made ++ rows) (stays known after_key (get_or before i d) behind left lost)
      ∙ sym (append_assoc made (get_or before i d ∷ []) (filtered known after_key behind left))
      ∙ ap (λ (rows : List Row). rows ++ filtered known after_key behind left) (sym put)

  pub left-other : (left : List Verdict) → is_found (get_or before i d) ≡ false
      → length left ≡ length (candidates_in known after_key (drop i before)) → length left ≡ length (candidates_in known after_key (drop (i + 1) before))
  left-other left lost so =
      so ∙ ap (λ (rows : List Row). length (candidates_in known after_key rows)) (next (get_or before i d) refl)
      ∙ ap (λ (rs : List Ref). length (rs ++ candidates_in known after_key behind)) (none-of known after_key (get_or before i d) lost)

  -- the candidates of the rows so far
  tried-more : candidates_in known after_key (take (i + 1) before) ≡ candidates_in known after_key (take i before) ++ row_candidates known after_key (get_or before i d)
  tried-more =
      ap (λ n. candidates_in known after_key (take n before)) (add-one i) ∙ ap (candidates_in known after_key) (take-suc before i d within)
      ∙ flat_map-append (row_candidates known after_key) (take i before) (get_or before i d ∷ [])
      ∙ ap (λ rs. candidates_in known after_key (take i before) ++ rs) (append-nil (row_candidates known after_key (get_or before i d)))

  pub tried-found : (v : Ref) (made new mine : List Ref) → get_or before i d ≡ Found v → mine ≡ candidates_of known after_key v → new ≡ made ++ mine
      → made ≡ candidates_in known after_key (take i before) → new ≡ candidates_in known after_key (take (i + 1) before)
  tried-found v made new mine is are put so =
      put ∙ ap (λ rs. rs ++ mine) so
      ∙ ap (λ rs. candidates_in known after_key (take i before) ++ rs) (are ∙ ap (row_candidates known after_key) (sym is)) ∙ sym tried-more

  pub tried-other : (made : List Ref) → is_found (get_or before i d) ≡ false
      → made ≡ candidates_in known after_key (take i before) → made ≡ candidates_in known after_key (take (i + 1) before)
  tried-other made lost so =
      so ∙ sym (append-nil (candidates_in known after_key (take i before)))
      ∙ ap (λ rs. candidates_in known after_key (take i before) ++ rs) (sym (none-of known after_key (get_or before i d) lost)) ∙ sym tried-more
