-- The values that a filter tries and the rows that it keeps, and the rows of a type block, are seen as those over locations.
use Rattle.std.proofs.Common.{◌≡◌, ℕ, Bool, true, false, List, [], ◌∷◌, ◌++◌, length, drop, map, filter, codes, Option, Some, None, option_map, refl, sym, ap, ◌∙◌, if◌then◌else◌}
use Rattle.std.proofs.lemmas.List.{length-map, map-append}
use Rattle.doc_values.specs.Tree.{is_map}
use Rattle.doc_values.specs.declared.kind.Kind.{Kind}
use Rattle.doc_values.specs.declared.kind.Kind.TheVariants as kind
use Rattle.guard_syntax.specs.declared.row.Ref.{Ref}
use Rattle.guard_syntax.specs.declared.row.Row.{Row}
use Rattle.guard_syntax.specs.declared.row.Row.TheVariants as row
use Rattle.guard_syntax.specs.declared.row.Verdict.{Verdict}
use Rattle.rule_meaning.specs.StoreModel.{StoreModel}
use Rattle.rule_meaning.specs.Values.{Value}
use Rattle.rule_meaning.specs.Filters.{candidates_by, candidates_in, candidates_of, filtered, kept, row_candidates}
use Rattle.rule_meaning.specs.Kinds.{has_type, is_name, is_type, rows_of_type, typed_in}
use Rattle.rule_meaning.specs.Reached.{entry, inside, value_for}
use Rattle.rule_meaning.specs.Seeing.{see_row, see_location, world_of}
use Rattle.rule_meaning.specs.StepMeaning as location
use Rattle.rule_meaning.specs.Locations.{Answers, Location, LocatedRow, Found, Missing, Unmade, World}
use Rattle.rule_meaning.specs.Verdicts.{is_pass}
use Rattle.query_steps.proofs.FilterRows.{passed_at}
use Rattle.query_steps.proofs.SeenLocations.{value-seen, inside-seen, entry-seen, filter-seen}
use Rattle.query_steps.proofs.SeenSteps.{founds-seen}

module _ (known : StoreModel) (answers : Answers) (calls : List ℕ) where
  abbrev world : World
  world = world_of known answers

  abbrev seen : Ref → Location
  seen = see_location known calls

  abbrev shown : Row → LocatedRow
  shown = see_row known calls

  -- ---- candidates

  all-or-one : (b : Bool) (v : Ref) (rs : List Ref) → map seen (if b then rs else v ∷ []) ≡ (if b then map seen rs else seen v ∷ [])
  all-or-one true v rs = refl
  all-or-one false v rs = refl

  tried-seen : (what : Kind) (after_key : Bool) (v : Ref) (rs : List Ref) → map seen (candidates_by what after_key v rs) ≡ location.candidates_by what after_key (seen v) (map seen rs)
  tried-seen kind.List after_key v rs = refl
  tried-seen kind.Map after_key v rs = all-or-one after_key v rs
  tried-seen kind.Null after_key v rs = refl
  tried-seen (kind.Truth b) after_key v rs = refl
  tried-seen (kind.Whole n) after_key v rs = refl
  tried-seen (kind.Fraction d) after_key v rs = refl
  tried-seen kind.Text after_key v rs = refl
  tried-seen kind.Pattern after_key v rs = refl
  tried-seen (kind.Limits limits) after_key v rs = refl

  pub candidates-seen : (after_key : Bool) (v : Ref) → map (see_location known calls) (candidates_of known after_key v) ≡ location.candidates_of world after_key (see_location known calls v)
  candidates-seen after_key v =
      tried-seen (value_for known v).kind after_key v (inside known v)
      ∙ ap (λ (value : Value). location.candidates_by value.kind after_key (seen v) (map seen (inside known v))) (sym (value-seen known answers calls v))
      ∙ ap (location.candidates_by (location.value_for world (seen v)).kind after_key (seen v)) (inside-seen known answers calls v)

  row-candidates-seen : (after_key : Bool) (x : Row) → map seen (row_candidates known after_key x) ≡ location.row_candidates world after_key (shown x)
  row-candidates-seen after_key (row.Found v) = candidates-seen after_key v
  row-candidates-seen after_key (row.Missing v site) = refl
  row-candidates-seen after_key (row.Unmade call) = refl

  pub all-candidates-seen : (after_key : Bool) (xs : List Row)
      → map (see_location known calls) (candidates_in known after_key xs) ≡ location.candidates_in world after_key (map (see_row known calls) xs)
  all-candidates-seen after_key [] = refl
  all-candidates-seen after_key (x ∷ xs) =
      map-append seen (row_candidates known after_key x) (candidates_in known after_key xs)
      ∙ ap (λ (vs : List Location). vs ++ map seen (candidates_in known after_key xs)) (row-candidates-seen after_key x)
      ∙ ap (λ (vs : List Location). location.row_candidates world after_key (shown x) ++ vs) (all-candidates-seen after_key xs)

  -- ---- what a filter keeps

  pub kept-seen : (rs : List Ref) (verdicts : List Verdict) → map (see_row known calls) (kept rs verdicts) ≡ location.kept (map (see_location known calls) rs) verdicts
  kept-seen [] verdicts = refl
  kept-seen (r ∷ rs) [] = refl
  kept-seen (r ∷ rs) (verdict ∷ verdicts) = here (is_pass verdict) (kept-seen rs verdicts)
    where
      here : (b : Bool) → map shown (kept rs verdicts) ≡ location.kept (map seen rs) verdicts
          → map shown (if b then row.Found r ∷ kept rs verdicts else kept rs verdicts)
          ≡ (if b then Found (seen r) ∷ location.kept (map seen rs) verdicts else location.kept (map seen rs) verdicts)
      here true e = ap (λ (ys : List LocatedRow). Found (seen r) ∷ ys) e
      here false e = e

  pub filtered-seen : (after_key : Bool) (xs : List Row) (verdicts : List Verdict)
      → map (see_row known calls) (filtered known after_key xs verdicts) ≡ location.filtered world after_key (map (see_row known calls) xs) verdicts
  filtered-seen after_key [] verdicts = refl
  filtered-seen after_key (row.Found v ∷ xs) verdicts =
      let tried : List Ref = candidates_of known after_key v in
      let left : List Verdict = drop (length tried) verdicts in
      map-append shown (kept tried verdicts) (filtered known after_key xs left)
      ∙ ap (λ (ys : List LocatedRow). ys ++ map shown (filtered known after_key xs left)) (kept-seen tried verdicts)
      ∙ ap (λ (ys : List LocatedRow). location.kept (map seen tried) verdicts ++ ys) (filtered-seen after_key xs left)
      ∙ ap (λ (n : ℕ). location.kept (map seen tried) verdicts ++ location.filtered world after_key (map shown xs) (drop n verdicts)) (sym (length-map tried seen))
      ∙ ap (λ (vs : List Location). location.kept vs verdicts ++ location.filtered world after_key (map shown xs) (drop (length vs) verdicts)) (candidates-seen after_key v)
  filtered-seen after_key (row.Missing v site ∷ xs) verdicts = ap (λ (ys : List LocatedRow). Missing (seen v) site ∷ ys) (filtered-seen after_key xs verdicts)
  filtered-seen after_key (row.Unmade call ∷ xs) verdicts = ap (λ (ys : List LocatedRow). Unmade call ∷ ys) (filtered-seen after_key xs verdicts)

  -- a filter at a value, where a judge of references judges by their locations
  pub passed-seen : (after_key : Bool) (judge : Ref → Verdict) (by : Location → Verdict) → ((r : Ref) → judge r ≡ by (see_location known calls r)) → (v : Ref)
      → map (see_row known calls) (passed_at known after_key judge v) ≡ location.passed_at world after_key by (see_location known calls v)
  passed-seen after_key judge by same v =
      let lets : Ref → Bool = λ r. is_pass (judge r) in
      let passes : Location → Bool = λ w. is_pass (by w) in
      founds-seen known answers calls (filter lets (candidates_of known after_key v))
      ∙ ap (map Found) (filter-seen seen lets passes (λ r. ap is_pass (same r)) (candidates_of known after_key v))
      ∙ ap (λ (vs : List Location). map Found (filter passes vs)) (candidates-seen after_key v)

  -- ---- type blocks

  is-type-seen : (name : List ℕ) (o : Option Ref) → is_type known name o ≡ location.is_type world name (option_map seen o)
  is-type-seen name None = refl
  is-type-seen name (Some r) = ap (is_name name) (sym (value-seen known answers calls r))

  has-type-seen : (name : List ℕ) (r : Ref) → has_type known name r ≡ location.has_type world name (seen r)
  has-type-seen name r = is-type-seen name (entry known r (codes "Type")) ∙ ap (location.is_type world name) (entry-seen known answers calls r (codes "Type"))

  typed-seen : (name : List ℕ) (o : Option Ref) → map seen (typed_in known name o) ≡ location.typed_in world name (option_map seen o)
  typed-seen name None = refl
  typed-seen name (Some r) =
      here (is_map (value_for known r).kind)
      ∙ ap (λ (v : Value). if is_map v.kind then filter (location.has_type world name) (map seen (inside known r)) else []) (sym (value-seen known answers calls r))
      ∙ ap (λ (vs : List Location). if is_map (location.value_for world (seen r)).kind then filter (location.has_type world name) vs else []) (inside-seen known answers calls r)
    where
      here : (b : Bool) → map seen (if b then filter (has_type known name) (inside known r) else []) ≡ (if b then filter (location.has_type world name) (map seen (inside known r)) else [])
      here true = filter-seen seen (has_type known name) (location.has_type world name) (has-type-seen name) (inside known r)
      here false = refl

  pub types-seen : (name : List ℕ) (current : Ref) → map (see_row known calls) (rows_of_type known name current) ≡ location.rows_of_type world name (see_location known calls current)
  types-seen name current =
      founds-seen known answers calls (typed_in known name (entry known current (codes "Resources")))
      ∙ ap (map Found) (typed-seen name (entry known current (codes "Resources")) ∙ ap (location.typed_in world name) (entry-seen known answers calls current (codes "Resources")))
