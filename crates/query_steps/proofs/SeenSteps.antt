-- What a step gives for references is seen as what it gives for their locations: seeing and a step may change places.
use Rattle.std.proofs.Common.{◌≡◌, ℕ, Bool, true, false, List, [], ◌∷◌, ◌++◌, map, filter, Option, Some, None, option_map, option_and_then, is_some, refl, sym, ap, ◌∙◌, if◌then◌else◌}
use Rattle.std.specs.List.{flat_map}
use Rattle.std.proofs.lemmas.List.{map-append}
use Rattle.doc_values.specs.declared.kind.Kind.{Kind}
use Rattle.doc_values.specs.declared.kind.Kind.TheVariants as kind
use Rattle.guard_syntax.specs.Syntax.{Step, this, var, key, index, every, items, splice, filter as filtering, keys}
use Rattle.guard_syntax.specs.declared.row.Ref.{Ref}
use Rattle.guard_syntax.specs.declared.row.Row.{Row}
use Rattle.guard_syntax.specs.declared.row.Row.TheVariants as row
use Rattle.guard_syntax.specs.declared.syntax.Op.{Op}
use Rattle.rule_meaning.specs.StoreModel.{StoreModel, meant, stands_for}
use Rattle.rule_meaning.specs.RowTests.{row_test_of}
use Rattle.rule_meaning.specs.Values.{Value}
use Rattle.rule_meaning.specs.Keys.{captured_row, keys_by, passes}
use Rattle.rule_meaning.specs.Reached.{entry, inside, item, key_of, value_for}
use Rattle.rule_meaning.specs.Seeing.{see_row, see_location, world_of}
use Rattle.rule_meaning.specs.StepMeaning as location
use Rattle.rule_meaning.specs.Locations.{Answers, Location, LocatedRow, Found, World}
use Rattle.rule_meaning.specs.Locations as locations
use Rattle.rule_meaning.specs.Steps.{each_inside, every_by, found_or_missing, found_step, items_by, key_in, on_found, splice_row}
use Rattle.query_steps.proofs.SeenLocations.{stands-seen, meant-seen, all-meant, value-seen, inside-seen, entry-seen, item-seen, filter-seen}

module _ (known : StoreModel) (answers : Answers) (calls : List ℕ) where
  abbrev world : World
  world = world_of known answers

  abbrev seen : Ref → Location
  seen = see_location known calls

  abbrev shown : Row → LocatedRow
  shown = see_row known calls

  -- ---- rows of values

  pub founds-seen : (rs : List Ref) → map (see_row known calls) (map row.Found rs) ≡ map Found (map (see_location known calls) rs)
  founds-seen [] = refl
  founds-seen (r ∷ rs) = ap (λ (xs : List LocatedRow). Found (see_location known calls r) ∷ xs) (founds-seen rs)

  or-missing : (site : ℕ) (v : Ref) (o : Option Ref) → shown (found_or_missing site v o) ≡ location.found_or_missing site (seen v) (option_map seen o)
  or-missing site v None = refl
  or-missing site v (Some found) = refl

  -- where what is found is seen as something
  looked-seen : (site : ℕ) (v : Ref) (o : Option Ref) (p : Option Location) → option_map seen o ≡ p → shown (found_or_missing site v o) ≡ location.found_or_missing site (seen v) p
  looked-seen site v o p e = or-missing site v o ∙ ap (location.found_or_missing site (seen v)) e

  each-seen : (last : Bool) (site : ℕ) (v : Ref) (rs : List Ref) → map shown (each_inside last site v rs) ≡ location.each_inside last site (seen v) (map seen rs)
  each-seen true site v [] = refl
  each-seen false site v [] = refl
  each-seen true site v (r ∷ rs) = ap (λ (xs : List LocatedRow). Found (seen r) ∷ xs) (founds-seen rs)
  each-seen false site v (r ∷ rs) = ap (λ (xs : List LocatedRow). Found (seen r) ∷ xs) (founds-seen rs)

  every-seen : (what : Kind) (last : Bool) (site : ℕ) (v : Ref) (rs : List Ref) → map shown (every_by what last site v rs) ≡ location.every_by what last site (seen v) (map seen rs)
  every-seen kind.List last site v rs = each-seen last site v rs
  every-seen kind.Map last site v rs = each-seen last site v rs
  every-seen kind.Null last site v rs = refl
  every-seen (kind.Truth b) last site v rs = refl
  every-seen (kind.Whole n) last site v rs = refl
  every-seen (kind.Fraction d) last site v rs = refl
  every-seen kind.Text last site v rs = refl
  every-seen kind.Pattern last site v rs = refl
  every-seen (kind.Limits limits) last site v rs = refl

  items-seen : (what : Kind) (last : Bool) (site : ℕ) (v : Ref) (rs : List Ref) → map shown (items_by what last site v rs) ≡ location.items_by what last site (seen v) (map seen rs)
  items-seen kind.List last site v rs = each-seen last site v rs
  items-seen kind.Map last site v rs = refl
  items-seen kind.Null last site v rs = refl
  items-seen (kind.Truth b) last site v rs = refl
  items-seen (kind.Whole n) last site v rs = refl
  items-seen (kind.Fraction d) last site v rs = refl
  items-seen kind.Text last site v rs = refl
  items-seen kind.Pattern last site v rs = refl
  items-seen (kind.Limits limits) last site v rs = refl

  -- ---- tests of rows, and keys

  pub passes-seen : (op : Op) (negated : Bool) (rights : List Row) (left : Row)
      → location.passes world op negated (map (see_row known calls) rights) (see_row known calls left) ≡ passes known op negated rights left
  passes-seen op negated rights left =
      ap (λ (o : Option Value). row_test_of op negated o (map (locations.meant world) (map shown rights))) (meant-seen known answers calls left)
      ∙ ap (row_test_of op negated (meant known left)) (all-meant known answers calls rights)

  pub keys-seen : (what : Kind) (op : Op) (negated : Bool) (rights : List Row) (site : ℕ) (v : Ref) (rs : List Ref)
      → map (see_row known calls) (keys_by what known op negated rights site v rs)
      ≡ location.keys_by what world op negated (map (see_row known calls) rights) site (see_location known calls v) (map (see_location known calls) rs)
  keys-seen kind.Map op negated rights site v rs =
      let by : Ref → Bool = λ r. passes known op negated rights (row.Found (key_of r)) in
      let for : Location → Bool = λ w. location.passes world op negated (map shown rights) (Found (location.key_of w)) in
      founds-seen (filter by rs) ∙ ap (map Found) (filter-seen seen by for (λ r. sym (passes-seen op negated rights (row.Found (key_of r)))) rs)
  keys-seen kind.List op negated rights site v rs = refl
  keys-seen kind.Null op negated rights site v rs = refl
  keys-seen (kind.Truth b) op negated rights site v rs = refl
  keys-seen (kind.Whole n) op negated rights site v rs = refl
  keys-seen (kind.Fraction d) op negated rights site v rs = refl
  keys-seen kind.Text op negated rights site v rs = refl
  keys-seen kind.Pattern op negated rights site v rs = refl
  keys-seen (kind.Limits limits) op negated rights site v rs = refl

  pub captured-seen : (x : Row) → map (see_row known calls) (captured_row known x) ≡ location.captured_row world (see_row known calls x)
  captured-seen (row.Found r) =
      at r.key (stands_for known (key_of r))
      ∙ ap (λ (o : Option Value). if r.key then [] else (if is_some o then Found (location.key_of (seen r)) ∷ [] else [])) (sym (stands-seen known answers calls (key_of r)))
    where
      at : (key : Bool) (o : Option Value)
          → map shown (if key then [] else (if is_some o then row.Found (key_of r) ∷ [] else [])) ≡ (if key then [] else (if is_some o then Found (location.key_of (seen r)) ∷ [] else []))
      at true o = refl
      at false None = refl
      at false (Some v) = refl
  captured-seen (row.Missing v site) = refl
  captured-seen (row.Unmade call) = refl

  -- ---- steps

  spliced : (v : Ref) (o : Option (List ℕ)) → option_map seen (option_and_then (entry known v) o) ≡ option_and_then (location.entry world (seen v)) o
  spliced v None = refl
  spliced v (Some name) = entry-seen known answers calls v name

  pub splice-seen : (site : ℕ) (v : Ref) (x : Row)
      → see_row known calls (splice_row known site v x) ≡ location.splice_row world site (see_location known calls v) (see_row known calls x)
  splice-seen site v x =
      looked-seen site v (option_and_then (entry known v) (key_in (meant known x))) (option_and_then (location.entry world (seen v)) (key_in (meant known x))) (spliced v (key_in (meant known x)))
      ∙ ap (λ (o : Option Value). location.found_or_missing site (seen v) (option_and_then (location.entry world (seen v)) (key_in o))) (sym (meant-seen known answers calls x))

  splices-seen : (site : ℕ) (v : Ref) (xs : List Row) → map shown (map (splice_row known site v) xs) ≡ map (location.splice_row world site (seen v)) (map shown xs)
  splices-seen site v [] = refl
  splices-seen site v (x ∷ xs) =
      ap (λ (y : LocatedRow). y ∷ map shown (map (splice_row known site v) xs)) (splice-seen site v x)
      ∙ ap (λ (ys : List LocatedRow). location.splice_row world site (seen v) (shown x) ∷ ys) (splices-seen site v xs)

  -- by the kind of a value and what stands in it
  by-kind : (give : Kind → List Location → List LocatedRow) (v : Ref)
      → give (value_for known v).kind (map seen (inside known v)) ≡ give (location.value_for world (seen v)).kind (location.inside world (seen v))
  by-kind give v =
      ap (λ (value : Value). give value.kind (map seen (inside known v))) (sym (value-seen known answers calls v))
      ∙ ap (give (location.value_for world (seen v)).kind) (inside-seen known answers calls v)

  pub step-seen : (last : Bool) (rows : List Row) (s : Step) (v : Ref)
      → map (see_row known calls) (found_step known last rows s v) ≡ location.found_step world last (map (see_row known calls) rows) s (see_location known calls v)
  step-seen last rows (this site) v = refl
  step-seen last rows (var site name) v = refl
  step-seen last rows (key site name) v =
      ap (λ (x : LocatedRow). x ∷ []) (looked-seen site v (entry known v name) (location.entry world (seen v) name) (entry-seen known answers calls v name))
  step-seen last rows (index site i) v =
      ap (λ (x : LocatedRow). x ∷ []) (looked-seen site v (item known v i) (location.item world (seen v) i) (item-seen known answers calls v i))
  step-seen last rows (every site) v =
      every-seen (value_for known v).kind last site v (inside known v) ∙ by-kind (λ what ws. location.every_by what last site (seen v) ws) v
  step-seen last rows (items site) v =
      items-seen (value_for known v).kind last site v (inside known v) ∙ by-kind (λ what ws. location.items_by what last site (seen v) ws) v
  step-seen last rows (splice site name) v = splices-seen site v rows
  step-seen last rows (filtering site capture conditions) v = refl
  step-seen last rows (keys site capture op negated right) v =
      keys-seen (value_for known v).kind op negated rows site v (inside known v)
      ∙ by-kind (λ what ws. location.keys_by what world op negated (map shown rows) site (seen v) ws) v

  -- ---- each row in order

  one-row : (f : Ref → List Row) (g : Location → List LocatedRow) → ((v : Ref) → map (see_row known calls) (f v) ≡ g (see_location known calls v)) → (x : Row)
      → map shown (on_found f x) ≡ location.on_found g (shown x)
  one-row f g same (row.Found v) = same v
  one-row f g same (row.Missing v site) = refl
  one-row f g same (row.Unmade call) = refl

  flat-seen : (f : Row → List Row) (g : LocatedRow → List LocatedRow) → ((x : Row) → map (see_row known calls) (f x) ≡ g (see_row known calls x)) → (xs : List Row)
      → map shown (flat_map f xs) ≡ flat_map g (map shown xs)
  flat-seen f g same [] = refl
  flat-seen f g same (x ∷ xs) =
      map-append shown (f x) (flat_map f xs)
      ∙ ap (λ (ys : List LocatedRow). ys ++ map shown (flat_map f xs)) (same x)
      ∙ ap (λ (ys : List LocatedRow). g (shown x) ++ ys) (flat-seen f g same xs)

  -- what is given at each value that was found
  pub given-seen : (f : Ref → List Row) (g : Location → List LocatedRow) → ((v : Ref) → map (see_row known calls) (f v) ≡ g (see_location known calls v)) → (xs : List Row)
      → map (see_row known calls) (flat_map (on_found f) xs) ≡ flat_map (location.on_found g) (map (see_row known calls) xs)
  given-seen f g same xs = flat-seen (on_found f) (location.on_found g) (one-row f g same) xs

  pub steps-seen : (last : Bool) (rows : List Row) (s : Step) (before : List Row)
      → map (see_row known calls) (flat_map (on_found (found_step known last rows s)) before)
      ≡ flat_map (location.on_found (location.found_step world last (map (see_row known calls) rows) s)) (map (see_row known calls) before)
  steps-seen last rows s before = given-seen (found_step known last rows s) (location.found_step world last (map shown rows) s) (step-seen last rows s) before

  pub captures-seen : (xs : List Row) → map (see_row known calls) (flat_map (captured_row known) xs) ≡ flat_map (location.captured_row world) (map (see_row known calls) xs)
  captures-seen xs = flat-seen (captured_row known) (location.captured_row world) captured-seen xs
