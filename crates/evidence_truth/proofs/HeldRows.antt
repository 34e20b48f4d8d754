-- Rows of steps, filters, type blocks, captures and functions point into trees that are there, where those before them do. A value of the template or of a literal
-- is always held; that of a call is where its tree was made.
use Rattle.std.proofs.Common.{◌≡◌, ℕ, zero, suc, ◌+◌, Bool, true, false, List, [], ◌∷◌, length, drop, map, filter as kept_of, flat_map, codes, get_or, Option, Some, None, refl, sym, ap, ◌∙◌, nat_lt, is_some, option_and_then, option_map, if◌then◌else◌}
use Rattle.std.specs.List.{list_all}
use Rattle.std.specs.Option.{option_map_or}
use Rattle.std.proofs.lemmas.Bool.{and_from, and_parts}
use Rattle.std.proofs.lemmas.List.Folds.{list_all-append, list_all-map}
use Rattle.doc_values.specs.declared.kind.Kind.{Kind}
use Rattle.doc_values.specs.declared.kind.Kind.TheVariants as value
use Rattle.doc_values.specs.Tree.{Forest, count, is_map}
use Rattle.doc_values.specs.Places.{key_place}
use Rattle.guard_syntax.specs.Syntax.{Step, this, var, key, index, every, items, splice, filter, keys}
use Rattle.guard_syntax.specs.declared.function.Function.{Function}
use Rattle.guard_syntax.specs.declared.function.Function.TheVariants as function
use Rattle.guard_syntax.specs.declared.syntax.Op.{Op}
use Rattle.guard_syntax.specs.declared.row.Origin.{Origin}
use Rattle.guard_syntax.specs.declared.row.Origin.TheVariants as origin
use Rattle.guard_syntax.specs.declared.row.Ref.{Ref}
use Rattle.guard_syntax.specs.declared.row.Row.{Row}
use Rattle.guard_syntax.specs.declared.row.Row.TheVariants.{Found, Missing, Unmade}
use Rattle.guard_syntax.specs.declared.row.Verdict.{Verdict}
use Rattle.rule_meaning.specs.Functions.{AreRows, Functions, Gives, IsRow, IsRowFor, Kept, MadeRow, New, argument, joined, new_or_missing}
use Rattle.rule_meaning.specs.StoreModel.{StoreModel, is_known_ref, made_at, meant, stands_for, tree_of}
use Rattle.rule_meaning.specs.Values.{Value, is_list}
use Rattle.rule_meaning.specs.Filters.{candidates_by, candidates_in, candidates_of, row_candidates, filtered, kept}
use Rattle.rule_meaning.specs.Keys.{captured_row, keys_by, passes}
use Rattle.rule_meaning.specs.Kinds.{has_type, rows_of_type, typed_in}
use Rattle.rule_meaning.specs.Places.{Placed, before_step, is_filter, rows_at_step, rows_at_type, step_at, step_rows, type_at}
use Rattle.rule_meaning.specs.Reached.{entry, inside, item, key_of, node_beside, numbers, value_for}
use Rattle.rule_meaning.specs.Steps.{each_inside, every_by, found_or_missing, found_step, items_by, key_in, on_found, splice_row}
use Rattle.rule_meaning.specs.Verdicts.{is_pass}
use Rattle.query_steps.proofs.KnownRows.{filter-all, flat_map-all}

abbrev pub is_held_origin : StoreModel → Origin → Bool
is_held_origin k origin.Template = true
is_held_origin k (origin.Literal site) = true
is_held_origin k (origin.Made line row) = is_some (made_at k.made line row)

abbrev pub is_held_ref : StoreModel → Ref → Bool
is_held_ref k r = is_held_origin k r.origin

abbrev pub is_held : StoreModel → Row → Bool
is_held k (Found r) = is_held_ref k r
is_held k (Missing v step) = is_held_ref k v
is_held k (Unmade call) = true

-- what is known is held
no-tree : (k : StoreModel) (r : Ref) → tree_of k r.origin ≡ None → is_known_ref k r ≡ true → false ≡ true
no-tree k r none is = let lost : is_known_ref k r ≡ false = rw (none) refl in sym lost ∙ is

pub known-held : (k : StoreModel) (r : Ref) → is_known_ref k r ≡ true → is_held_ref k r ≡ true
known-held k r is = by r.origin (no-tree k r)
  where
    by : (o : Origin) → (tree_of k o ≡ None → is_known_ref k r ≡ true → false ≡ true) → is_held_origin k o ≡ true
    by origin.Template lost = refl
    by (origin.Literal site) lost = refl
    by (origin.Made line row) lost = made (made_at k.made line row) lost
      where
        made : (t : Option Forest) → (t ≡ None → is_known_ref k r ≡ true → false ≡ true) → is_some t ≡ true
        made None lost = lost refl is
        made (Some tree) lost = refl

-- ---- one value

abbrev held_if : StoreModel → Option Ref → Bool
held_if k None = true
held_if k (Some r) = is_held_ref k r

module _ (k : StoreModel) where
  if-held : (b : Bool) (o : Option Ref) → held_if k o ≡ true → held_if k (if b then o else None) ≡ true
  if-held true o h = h
  if-held false o h = refl

  place-held : (v : Ref) → is_held_ref k v ≡ true → (o : Option ℕ) → held_if k (option_map (node_beside v) o) ≡ true
  place-held v hv None = refl
  place-held v hv (Some n) = hv

  pub entry-held : (v : Ref) (name : List ℕ) → is_held_ref k v ≡ true → held_if k (entry k v name) ≡ true
  entry-held v name hv = if-held (is_map (value_for k v).kind) _ (place-held v hv (key_place (v.node + 1) (value_for k v).contents name))

  item-held : (v : Ref) (i : ℕ) → is_held_ref k v ≡ true → held_if k (item k v i) ≡ true
  item-held v i hv = if-held (is_list (value_for k v).kind) _ (if-held (nat_lt i (count (value_for k v).contents)) _ hv)

  found-held : (site : ℕ) (v : Ref) (o : Option Ref) → is_held_ref k v ≡ true → held_if k o ≡ true → is_held k (found_or_missing site v o) ≡ true
  found-held site v None hv ho = hv
  found-held site v (Some found) hv ho = ho

  spliced-held : (v : Ref) (o : Option (List ℕ)) → is_held_ref k v ≡ true → held_if k (option_and_then (entry k v) o) ≡ true
  spliced-held v None hv = refl
  spliced-held v (Some name) hv = entry-held v name hv

  splices-held : (site : ℕ) (v : Ref) (rows : List Row) → is_held_ref k v ≡ true → list_all (is_held k) (map (splice_row k site v) rows) ≡ true
  splices-held site v [] hv = refl
  splices-held site v (x ∷ rows) hv =
      and_from _ _ (found-held site v (option_and_then (entry k v) (key_in (meant k x))) hv (spliced-held v (key_in (meant k x)) hv)) (splices-held site v rows hv)

  besides-held : (v : Ref) (ns : List ℕ) → is_held_ref k v ≡ true → list_all (is_held_ref k) (map (node_beside v) ns) ≡ true
  besides-held v [] hv = refl
  besides-held v (n ∷ ns) hv = and_from _ _ hv (besides-held v ns hv)

  pub inside-held : (v : Ref) → is_held_ref k v ≡ true → list_all (is_held_ref k) (inside k v) ≡ true
  inside-held v hv = besides-held v (numbers (v.node + 1) (value_for k v).contents) hv

  all-found : (rs : List Ref) → list_all (is_held_ref k) rs ≡ true → list_all (is_held k) (map Found rs) ≡ true
  all-found rs h = list_all-map (is_held k) Found rs ∙ h

-- ---- all that stands in a value

module _ (k : StoreModel) (site : ℕ) (v : Ref) (hv : is_held_ref k v ≡ true) where
  one : list_all (is_held k) (Found v ∷ []) ≡ true
  one = and_from _ _ hv refl

  none : list_all (is_held k) (Missing v site ∷ []) ≡ true
  none = and_from _ _ hv refl

  each-held : (last : Bool) (rs : List Ref) → list_all (is_held_ref k) rs ≡ true → list_all (is_held k) (each_inside last site v rs) ≡ true
  each-held true [] h = refl
  each-held false [] h = none
  each-held true (r ∷ rs) h = all-found k (r ∷ rs) h
  each-held false (r ∷ rs) h = all-found k (r ∷ rs) h

  every-held : (what : Kind) (last : Bool) (rs : List Ref) → list_all (is_held_ref k) rs ≡ true → list_all (is_held k) (every_by what last site v rs) ≡ true
  every-held value.List last rs h = each-held last rs h
  every-held value.Map last rs h = each-held last rs h
  every-held value.Null last rs h = one
  every-held (value.Truth b) last rs h = one
  every-held (value.Whole n) last rs h = one
  every-held (value.Fraction d) last rs h = one
  every-held value.Text last rs h = one
  every-held value.Pattern last rs h = one
  every-held (value.Limits limits) last rs h = one

  items-held : (what : Kind) (last : Bool) (rs : List Ref) → list_all (is_held_ref k) rs ≡ true → list_all (is_held k) (items_by what last site v rs) ≡ true
  items-held value.List last rs h = each-held last rs h
  items-held value.Map last rs h = one
  items-held value.Null last rs h = one
  items-held (value.Truth b) last rs h = one
  items-held (value.Whole n) last rs h = one
  items-held (value.Fraction d) last rs h = one
  items-held value.Text last rs h = one
  items-held value.Pattern last rs h = one
  items-held (value.Limits limits) last rs h = one

  keys-held : (what : Kind) (op : Op) (negated : Bool) (rows : List Row) (rs : List Ref) → list_all (is_held_ref k) rs ≡ true → list_all (is_held k) (keys_by what k op negated rows site v rs) ≡ true
  keys-held value.Map op negated rows rs h =
      all-found k (kept_of (λ (r : Ref). passes k op negated rows (Found (key_of r))) rs) (filter-all (λ (r : Ref). passes k op negated rows (Found (key_of r))) (is_held_ref k) rs h)
  keys-held value.List op negated rows rs h = none
  keys-held value.Null op negated rows rs h = none
  keys-held (value.Truth b) op negated rows rs h = none
  keys-held (value.Whole n) op negated rows rs h = none
  keys-held (value.Fraction d) op negated rows rs h = none
  keys-held value.Text op negated rows rs h = none
  keys-held value.Pattern op negated rows rs h = none
  keys-held (value.Limits limits) op negated rows rs h = none

-- ---- a step, and a capture

module _ (k : StoreModel) (last : Bool) (rows : List Row) (hrows : list_all (is_held k) rows ≡ true) where
  found-step-held : (s : Step) (v : Ref) → is_held_ref k v ≡ true → list_all (is_held k) (found_step k last rows s v) ≡ true
  found-step-held (this site) v hv = one k site v hv
  found-step-held (var site name) v hv = hrows
  found-step-held (key site name) v hv = and_from _ _ (found-held k site v (entry k v name) hv (entry-held k v name hv)) refl
  found-step-held (index site i) v hv = and_from _ _ (found-held k site v (item k v i) hv (item-held k v i hv)) refl
  found-step-held (every site) v hv = every-held k site v hv (value_for k v).kind last (inside k v) (inside-held k v hv)
  found-step-held (items site) v hv = items-held k site v hv (value_for k v).kind last (inside k v) (inside-held k v hv)
  found-step-held (splice site name) v hv = splices-held k site v rows hv
  found-step-held (filter site capture conditions) v hv = refl
  found-step-held (keys site capture op negated right) v hv = keys-held k site v hv (value_for k v).kind op negated rows (inside k v) (inside-held k v hv)

  row-held : (s : Step) (row : Row) → is_held k row ≡ true → list_all (is_held k) (on_found (found_step k last rows s) row) ≡ true
  row-held s (Found v) h = found-step-held s v h
  row-held s (Missing v site) h = and_from _ _ h refl
  row-held s (Unmade call) h = refl

  -- what a step gives for known rows is known
  pub rows-held : (s : Step) (before : List Row) → list_all (is_held k) before ≡ true → list_all (is_held k) (flat_map (on_found (found_step k last rows s)) before) ≡ true
  rows-held s before h = flat_map-all (is_held k) (is_held k) (on_found (found_step k last rows s)) (row-held s) before h

captured-held : (k : StoreModel) (row : Row) → is_held k row ≡ true → list_all (is_held k) (captured_row k row) ≡ true
captured-held k (Found r) h = at r.key (is_some (stands_for k (key_of r)))
  where
    at : (key there : Bool) → list_all (is_held k) (if key then [] else (if there then Found (key_of r) ∷ [] else [])) ≡ true
    at true there = refl
    at false true = and_from _ _ h refl
    at false false = refl
captured-held k (Missing v site) h = refl
captured-held k (Unmade call) h = refl

-- the keys that a capture binds
pub keys-captured : (k : StoreModel) (rows : List Row) → list_all (is_held k) rows ≡ true → list_all (is_held k) (flat_map (captured_row k) rows) ≡ true
keys-captured k rows h = flat_map-all (is_held k) (is_held k) (captured_row k) (captured-held k) rows h

-- ---- rows of filters and of type blocks

kept-one : (k : StoreModel) (passes : Bool) (r : Ref) (rows : List Row) → is_held_ref k r ≡ true → list_all (is_held k) rows ≡ true
    → list_all (is_held k) (if passes then Found r ∷ rows else rows) ≡ true
kept-one k true r rows here others = and_from _ _ here others
kept-one k false r rows here others = others

kept-held : (k : StoreModel) (rs : List Ref) (vs : List Verdict) → list_all (is_held_ref k) rs ≡ true → list_all (is_held k) (kept rs vs) ≡ true
kept-held k [] vs all = refl
kept-held k (r ∷ rs) [] all = refl
kept-held k (r ∷ rs) (v ∷ vs) all =
    let parts = and_parts (is_held_ref k r) (list_all (is_held_ref k) rs) all in
    kept-one k (is_pass v) r (kept rs vs) parts.0 (kept-held k rs vs parts.1)

module _ (known : StoreModel) (after_key : Bool) where
  candidates-by : (k : Kind) (v : Ref) (rs : List Ref) → is_held_ref known v ≡ true → list_all (is_held_ref known) rs ≡ true
      → list_all (is_held_ref known) (candidates_by k after_key v rs) ≡ true
  candidates-by value.List v rs first all = all
  candidates-by value.Map v rs first all = by after_key
    where
      by : (b : Bool) → list_all (is_held_ref known) (if b then rs else v ∷ []) ≡ true
      by true = all
      by false = and_from _ _ first refl
  candidates-by value.Null v rs first all = and_from _ _ first refl
  candidates-by (value.Truth b) v rs first all = and_from _ _ first refl
  candidates-by (value.Whole n) v rs first all = and_from _ _ first refl
  candidates-by (value.Fraction d) v rs first all = and_from _ _ first refl
  candidates-by value.Text v rs first all = and_from _ _ first refl
  candidates-by value.Pattern v rs first all = and_from _ _ first refl
  candidates-by (value.Limits limits) v rs first all = and_from _ _ first refl

  one-candidates-held : (x : Row) → is_held known x ≡ true → list_all (is_held_ref known) (row_candidates known after_key x) ≡ true
  one-candidates-held (Found v) h = candidates-by (value_for known v).kind v (inside known v) h (inside-held known v h)
  one-candidates-held (Missing v site) h = refl
  one-candidates-held (Unmade n) h = refl

  pub candidates-held : (rows : List Row) → list_all (is_held known) rows ≡ true → list_all (is_held_ref known) (candidates_in known after_key rows) ≡ true
  candidates-held rows h = flat_map-all (is_held_ref known) (is_held known) (row_candidates known after_key) one-candidates-held rows h

  filtered-held : (rows : List Row) (verdicts : List Verdict) → list_all (is_held known) rows ≡ true → list_all (is_held known) (filtered known after_key rows verdicts) ≡ true
  filtered-held [] verdicts all = refl
  filtered-held (Found v ∷ rows) verdicts all =
      let both = and_parts (is_held_ref known v) (list_all (is_held known) rows) all in
      let tried = candidates_of known after_key v in
      let each : list_all (is_held_ref known) tried ≡ true = candidates-by (value_for known v).kind v (inside known v) both.0 (inside-held known v both.0) in
      list_all-append (is_held known) (kept tried verdicts) (filtered known after_key rows (drop (length tried) verdicts))
      ∙ and_from _ _ (kept-held known tried verdicts each) (filtered-held rows (drop (length tried) verdicts) both.1)
  filtered-held (Missing v site ∷ rows) verdicts all =
      let both = and_parts (is_held_ref known v) (list_all (is_held known) rows) all in
      and_from _ _ both.0 (filtered-held rows verdicts both.1)
  filtered-held (Unmade n ∷ rows) verdicts all = filtered-held rows verdicts all

module _ (known : StoreModel) (name : List ℕ) where
  typed-held : (o : Option Ref) → held_if known o ≡ true → list_all (is_held known) (map Found (typed_in known name o)) ≡ true
  typed-held None ho = refl
  typed-held (Some r) ho = by (is_map (value_for known r).kind)
    where
      by : (b : Bool) → list_all (is_held known) (map Found (if b then kept_of (has_type known name) (inside known r) else [])) ≡ true
      by true = all-found known (kept_of (has_type known name) (inside known r)) (filter-all (has_type known name) (is_held_ref known) (inside known r) (inside-held known r ho))
      by false = refl

pub type-held : (known : StoreModel) (site : ℕ) (current : Ref) → is_held_ref known current ≡ true → list_all (is_held known) (rows_at_type known site current) ≡ true
type-held known site current here = by (type_at known.file site)
  where
    by : (o : Option (List ℕ)) → list_all (is_held known) (option_map_or (λ name. rows_of_type known name current) o []) ≡ true
    by None = refl
    by (Some name) = typed-held known name (entry known current (codes "Resources")) (entry-held known current (codes "Resources") here)

-- ---- a step where it stands

module _ (known : StoreModel) (current : Ref) (before further : List Row) (verdicts : List Verdict) (here : is_held_ref known current ≡ true)
    (all : list_all (is_held known) before ≡ true) (others : list_all (is_held known) further ≡ true) where
  begun : (first : Bool) → list_all (is_held known) (if first then Found current ∷ [] else before) ≡ true
  begun true = and_from _ _ here refl
  begun false = all

  given : (at : Placed) (rows : List Row) (b : Bool) → list_all (is_held known) rows ≡ true
      → list_all (is_held known) (if b then filtered known at.after_key rows verdicts else flat_map (on_found (found_step known at.last further at.step)) rows) ≡ true
  given at rows true each = filtered-held known at.after_key rows verdicts each
  given at rows false each = rows-held known at.last further others at.step rows each

  pub step-held : (site : ℕ) → list_all (is_held known) (rows_at_step known site current before further verdicts) ≡ true
  step-held site = by (step_at known.file site)
    where
      by : (o : Option Placed) → list_all (is_held known) (option_map_or (λ (at : Placed). step_rows known at current before further verdicts) o []) ≡ true
      by None = refl
      by (Some at) = given at (before_step at current before) (is_filter at.step) (begun at.first)

-- ---- answers

-- each row of an answer that is no new tree
abbrev pub is_held_made : StoreModel → MadeRow → Bool
is_held_made known (New tree) = true
is_held_made known (Kept r) = is_held known r

abbrev pub is_held_answer : StoreModel → List MadeRow → Bool
is_held_answer known made = list_all (is_held_made known) made

module _ (Holds : Value → Forest → Type 0) (known : StoreModel) (call : ℕ) where
  given-held : (given : Option Forest) → is_held_made known (new_or_missing call given) ≡ true
  given-held None = refl
  given-held (Some tree) = refl

  value-held : (o : Option Value) (m : MadeRow) → IsRowFor Holds call o m → is_held_made known m ≡ true
  value-held None m is = ap (is_held_made known) is
  value-held (Some v) m is = ap (is_held_made known) is.2 ∙ given-held is.0

  one-held : (r : Row) (m : MadeRow) → is_held known r ≡ true → IsRow Holds known call r m → is_held_made known m ≡ true
  one-held (Found r) m within is = value-held (stands_for known r) m is
  one-held (Missing v step) m within is = ap (is_held_made known) is ∙ within
  one-held (Unmade inner) m within is = ap (is_held_made known) is

  each-held-row : (rows : List Row) (made : List MadeRow) → list_all (is_held known) rows ≡ true → AreRows Holds known call rows made → is_held_answer known made ≡ true
  each-held-row [] [] all are = refl
  each-held-row [] (m ∷ made) all are = absurd are
  each-held-row (r ∷ rows) [] all are = absurd are
  each-held-row (r ∷ rows) (m ∷ made) all are =
      let both : (is_held known r ≡ true) × (list_all (is_held known) rows ≡ true) = and_parts _ _ all in
      and_from _ _ (one-held r m both.0 are.0) (each-held-row rows made both.1 are.1)

argument-held : (known : StoreModel) (args : List (List Row)) (i : ℕ) → list_all (list_all (is_held known)) args ≡ true → list_all (is_held known) (argument args i) ≡ true
argument-held known args i all = at args i all
  where
    at : (xs : List (List Row)) (n : ℕ) → list_all (list_all (is_held known)) xs ≡ true → list_all (is_held known) (get_or xs n []) ≡ true
    at [] n each = refl
    at (x ∷ xs) zero each = let both : (list_all (is_held known) x ≡ true) × (list_all (list_all (is_held known)) xs ≡ true) = and_parts _ _ each in both.0
    at (x ∷ xs) (suc n) each = let both : (list_all (is_held known) x ≡ true) × (list_all (list_all (is_held known)) xs ≡ true) = and_parts _ _ each in at xs n both.1

-- what a function answers
pub answer-held : (known : StoreModel) (f : Function) (call : ℕ) (args : List (List Row)) (made : List MadeRow) → list_all (list_all (is_held known)) args ≡ true → Functions known f call args made
    → is_held_answer known made ≡ true
answer-held known function.Count call args made all is = ap (is_held_answer known) is
answer-held known function.Join call args made all is = ap (is_held_answer known) is ∙ and_from _ _ (given-held (λ v tree. ⊥) known call (joined _ _)) refl
answer-held known function.JsonParse call args made all are = each-held-row (Gives known function.JsonParse args) known call (argument args 0) made (argument-held known args 0 all) are
answer-held known function.RegexReplace call args made all are = each-held-row (Gives known function.RegexReplace args) known call (argument args 0) made (argument-held known args 0 all) are
answer-held known function.ToLower call args made all are = each-held-row (Gives known function.ToLower args) known call (argument args 0) made (argument-held known args 0 all) are
answer-held known function.ToUpper call args made all are = each-held-row (Gives known function.ToUpper args) known call (argument args 0) made (argument-held known args 0 all) are
answer-held known function.Substring call args made all are = each-held-row (Gives known function.Substring args) known call (argument args 0) made (argument-held known args 0 all) are
answer-held known function.UrlDecode call args made all are = each-held-row (Gives known function.UrlDecode args) known call (argument args 0) made (argument-held known args 0 all) are
answer-held known function.ParseInt call args made all are = each-held-row (Gives known function.ParseInt args) known call (argument args 0) made (argument-held known args 0 all) are
answer-held known function.ParseFloat call args made all are = each-held-row (Gives known function.ParseFloat args) known call (argument args 0) made (argument-held known args 0 all) are
answer-held known function.ParseBoolean call args made all are = each-held-row (Gives known function.ParseBoolean args) known call (argument args 0) made (argument-held known args 0 all) are
answer-held known function.ParseString call args made all are = each-held-row (Gives known function.ParseString args) known call (argument args 0) made (argument-held known args 0 all) are
