-- Steps where they stand, as the code finds them.
use Rattle.std.proofs.Common.{◌≡◌, ℕ, zero, suc, ◌+◌, ◌-◌, ◌<◌, ◌≤◌, Bool, true, false, not, List, [], ◌∷◌, ◌++◌, length, map, drop, get_or, Option, Some, None, refl, sym, ap, ◌∙◌, inl, inr, arith, rules, nat_eq, nat_lt, is_some, option_map, option_and_then, if◌then◌else◌}
use Rattle.std.proofs.lemmas.Bool.{cases_lt}
use Rattle.std.proofs.lemmas.Bool.Decides.{nat_tests}
use Rattle.std.specs.List.{flat_map}
use Rattle.std.specs.Option.{IsSome, option_map_or}
use Rattle.guard_syntax.specs.Syntax as sx
use Rattle.guard_syntax.specs.code.Seen.{see_query, see_step, step_list}
use Rattle.guard_syntax.specs.declared.row.Ref.{Ref}
use Rattle.guard_syntax.specs.declared.row.Row.{Row}
use Rattle.guard_syntax.specs.declared.row.Row.TheVariants.{Found}
use Rattle.guard_syntax.specs.declared.row.Verdict.{Verdict}
use Rattle.guard_syntax.specs.declared.syntax.Query.{Query, out-Query, the_lemmas}
use Rattle.guard_syntax.specs.declared.syntax.Step.{Step}
use Rattle.rule_names.specs.Pieces.{OfStep, piece_at}
use Rattle.rule_meaning.specs.StoreModel.{StoreModel}
use Rattle.rule_meaning.specs.Filters.{candidates_of, candidates_in, kept, filtered}
use Rattle.rule_meaning.specs.Places.{Placed, is_key, is_filter, is_first, is_after_key, step_in, steps_in, placed_in, placed_of, given_by, step_candidates, step_rows, IsStepAt}
use Rattle.rule_meaning.specs.Steps.{found_step, on_found}
use Rattle.query_steps.specs.code.Placed.{FiltersAt, StartsAt, candidates_of_place, rows_of_place}

abbrev pub steps_of : List Step → sx.Steps
steps_of xs = step_list (map see_step xs)

-- ---- the step of an index

pub item-at : (xs : List Step) (i : ℕ) → i < length xs → (x : Step) × x ≡ get_or xs i x
item-at [] i within = absurd (omega arith)
item-at (x ∷ xs) zero within = (x, refl)
item-at (x ∷ xs) (suc i) within = item-at xs i (omega arith)

pub step-at : (xs : List Step) (i : ℕ) (x : Step) → i < length xs → x ≡ get_or xs i x → step_in (steps_of xs) i ≡ Some (see_step x)
step-at [] i x within is = absurd (omega arith)
step-at (y ∷ xs) zero x within is = ap (λ (s : Step). Some (see_step s)) (sym is)
step-at (y ∷ xs) (suc i) x within is = step-at xs i x (omega arith) is

step-past : (xs : List Step) (i : ℕ) → length xs ≤ i → step_in (steps_of xs) i ≡ None
step-past [] i past = refl
step-past (x ∷ xs) zero past = absurd (omega arith)
step-past (x ∷ xs) (suc i) past = step-past xs i (omega arith)

pub some-step : (xs : List Step) (i : ℕ) → is_some (step_in (steps_of xs) i) ≡ nat_lt i (length xs)
some-step [] i = grind (arith, nat_tests)
some-step (x ∷ xs) zero = grind (arith, nat_tests)
some-step (x ∷ xs) (suc i) =
    let next : nat_lt i (length xs) ≡ nat_lt (suc i) (length (x ∷ xs)) = grind (arith, nat_tests) in
    some-step xs i ∙ next

-- the step is its query's last where no other stands behind it
pub last-is : (xs : List Step) (i : ℕ) → i < length xs → nat_eq (i + 1) (length xs) ≡ not (is_some (step_in (steps_of xs) (suc i)))
last-is xs i within =
    let so : nat_eq (i + 1) (length xs) ≡ not (nat_lt (suc i) (length xs)) = grind (arith, nat_tests) in
    so ∙ ap not (sym (some-step xs (suc i)))

-- the step before it
pub after-key : (xs : List Step) (i : ℕ) (x : Step) → i < length xs → (i ≡ 0 → ⊥) → x ≡ get_or xs (i - 1) x → is_key (see_step x) ≡ is_after_key (steps_of xs) i
after-key xs zero x within later is = absurd (later refl)
after-key xs (suc i) x within later is =
    let before : suc i - 1 ≡ i = omega arith in
    sym (ap (λ (o : Option sx.Step). option_map_or is_key o false) (step-at xs i x (omega arith) (is ∙ ap (λ n. get_or xs n x) before)))

-- where there is a step, the index is within
pub placed-within : (xs : List Step) (i : ℕ) → IsSome (placed_in (steps_of xs) i) → i < length xs
placed-within xs i there = elim (cases_lt i (length xs)) [
  | inl within ↦ within
  | inr past ↦
      let none : placed_in (steps_of xs) i ≡ None = rw (step-past xs i past) refl in
      absurd (let wrong : false ≡ true = ap is_some (sym none) ∙ there in cc)
]

query-seen : (q : Query) → see_query q ≡ sx.query (out-Query q).site (steps_of (out-Query q).steps.items)
query-seen q = search (rules, the_lemmas)

pub steps-within : (f : sx.File) (site : ℕ) (q : Query) (i : ℕ) (xs : List Step) → xs ≡ (out-Query q).steps.items → piece_at f site ≡ Some (OfStep (see_query q) i) → IsStepAt f site → i < length xs
steps-within f site q i xs are piece there =
    placed-within xs i
    (ap is_some (ap (λ (ys : List Step). placed_in (steps_of ys) i) are ∙ sym (ap (λ (s : sx.Query). placed_in (steps_in s) i) (query-seen q)) ∙ sym (ap (option_and_then placed_of) piece)) ∙ there)

-- ---- the step of a place

kept-nothing : (rs : List Ref) → kept rs [] ≡ []
kept-nothing [] = refl
kept-nothing (r ∷ rs) = refl

drop-nothing : (n : ℕ) → ◌≡◌ {A = List Verdict} (drop n []) []
drop-nothing zero = refl
drop-nothing (suc n) = refl

-- a filter that begins a query keeps nothing, as it has no verdicts; any other start is a step at the current value
starts : (known : StoreModel) (last after_key : Bool) (current : Ref) (rows : List Row) (s : sx.Step)
    → flat_map (on_found (found_step known last rows s)) (Found current ∷ [])
    ≡ (if is_filter s then filtered known after_key (Found current ∷ []) [] else flat_map (on_found (found_step known last rows s)) (Found current ∷ []))
starts known last after_key current rows (sx.filter site capture conditions) =
    let none : kept (candidates_of known after_key current) [] ≡ [] = kept-nothing (candidates_of known after_key current) in
    ap (λ (kept_rows : List Row). kept_rows ++ []) (sym none)
starts known last after_key current rows _ = refl

no-verdicts : (vs : List Verdict) → length vs ≡ 0 → vs ≡ []
no-verdicts [] none = refl
no-verdicts (v ∷ vs) none = absurd (omega arith)

either-nothing : (b : Bool) → ◌≡◌ {A = List Ref} (if b then [] else []) []
either-nothing true = refl
either-nothing false = refl

first-not : (i : ℕ) → (i ≡ 0 → ⊥) → is_first i ≡ false
first-not zero later = absurd (later refl)
first-not (suc i) later = refl

module _ (known : StoreModel) (xs : List Step) (i : ℕ) (x : Step) (within : i < length xs) (is : x ≡ get_or xs i x) where
  abbrev place : Option Placed
  place = placed_in (steps_of xs) i

  abbrev here : Placed
  here = record { step = see_step x; first = is_first i; last = not (is_some (step_in (steps_of xs) (suc i))); after_key = is_after_key (steps_of xs) i }

  stands : place ≡ Some here
  stands =
      ap (option_map (λ (s : sx.Step). let p : Placed = record { step = s; first = is_first i; last = not (is_some (step_in (steps_of xs) (suc i))); after_key = is_after_key (steps_of xs) i } in p)) (step-at xs i x within is)

  filter-there : FiltersAt place → is_filter (see_step x) ≡ true
  filter-there filters = sym (ap (λ (o : Option Placed). option_map_or (λ (p : Placed). is_filter p.step) o false) stands) ∙ filters

  candidates-there : (before : List Row) → candidates_of_place known place before ≡ step_candidates known here before
  candidates-there before = ap (λ (o : Option Placed). candidates_of_place known o before) stands

  pub candidates-of-filter : (before : List Row) → is_filter (see_step x) ≡ true → candidates_of_place known place before ≡ candidates_in known (is_after_key (steps_of xs) i) before
  candidates-of-filter before filters = candidates-there before ∙ ap (λ (b : Bool). if b then candidates_in known (is_after_key (steps_of xs) i) before else []) filters

  pub candidates-at : (before : List Row) → FiltersAt place → candidates_in known (is_after_key (steps_of xs) i) before ≡ candidates_of_place known place before
  candidates-at before filters = sym (candidates-of-filter before (filter-there filters))

  rows-there : (current : Ref) (before rows : List Row) (verdicts : List Verdict) → step_rows known here current before rows verdicts ≡ rows_of_place known place current before rows verdicts
  rows-there current before rows verdicts = sym (ap (λ (o : Option Placed). rows_of_place known o current before rows verdicts) stands)

  -- a start
  pub start-there : i ≡ 0 → StartsAt place
  start-there first = ap (λ (o : Option Placed). option_map_or (λ (p : Placed). p.first) o false) stands ∙ ap is_first first

  pub rows-of-start : (current : Ref) (before rows : List Row) (verdicts : List Verdict) → i ≡ 0 → (StartsAt place → before ≡ []) → length verdicts ≡ length (candidates_of_place known place before)
      → flat_map (on_found (found_step known (not (is_some (step_in (steps_of xs) (suc i)))) rows (see_step x))) (Found current ∷ []) ≡ rows_of_place known place current before rows verdicts
  rows-of-start current before rows verdicts first start enough =
      let none : candidates_of_place known place before ≡ [] = ap (candidates_of_place known place) (start (start-there first)) ∙ candidates-there [] ∙ either-nothing (is_filter (see_step x)) in
      let unjudged : verdicts ≡ [] = no-verdicts verdicts (enough ∙ ap length none) in
      starts known (not (is_some (step_in (steps_of xs) (suc i)))) (is_after_key (steps_of xs) i) current rows (see_step x)
      ∙ ap (λ (vs : List Verdict). given_by known here (Found current ∷ []) rows vs) (sym unjudged)
      ∙ ap (λ (b : Bool). given_by known here (if b then Found current ∷ [] else before) rows verdicts) (sym (ap is_first first))
      ∙ rows-there current before rows verdicts

  later-there : (current : Ref) (before rows : List Row) (verdicts : List Verdict) → (i ≡ 0 → ⊥) → given_by known here before rows verdicts ≡ rows_of_place known place current before rows verdicts
  later-there current before rows verdicts later =
      ap (λ (b : Bool). given_by known here (if b then Found current ∷ [] else before) rows verdicts) (sym (first-not i later)) ∙ rows-there current before rows verdicts

  -- a filter behind other steps
  pub rows-of-filter : (current : Ref) (before rows : List Row) (verdicts : List Verdict) → (i ≡ 0 → ⊥) → is_filter (see_step x) ≡ true
      → filtered known (is_after_key (steps_of xs) i) before verdicts ≡ rows_of_place known place current before rows verdicts
  rows-of-filter current before rows verdicts later filters =
      ap (λ (b : Bool). if b then filtered known here.after_key before verdicts else flat_map (on_found (found_step known here.last rows here.step)) before) (sym filters)
      ∙ later-there current before rows verdicts later

  -- any other step behind others
  pub rows-of-other : (current : Ref) (before rows : List Row) (verdicts : List Verdict) → (i ≡ 0 → ⊥) → is_filter (see_step x) ≡ false
      → flat_map (on_found (found_step known (not (is_some (step_in (steps_of xs) (suc i)))) rows (see_step x))) before ≡ rows_of_place known place current before rows verdicts
  rows-of-other current before rows verdicts later other =
      ap (λ (b : Bool). if b then filtered known here.after_key before verdicts else flat_map (on_found (found_step known here.last rows here.step)) before) (sym other)
      ∙ later-there current before rows verdicts later
