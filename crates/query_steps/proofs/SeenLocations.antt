-- A reference stands for what its location stands for, and what is reached from it is seen as what is reached from its location.
use Rattle.std.proofs.Common.{◌≡◌, ℕ, ◌+◌, Bool, true, false, List, [], ◌∷◌, map, filter, Option, Some, None, option_map, option_and_then, unwrap_or, refl, sym, ap, ◌∙◌, arith, nat_lt, if◌then◌else◌}
use Rattle.std.proofs.lemmas.Bool.Decides.{nat_tests}
use Rattle.doc_values.specs.Places.{child_place, key_place}
use Rattle.doc_values.specs.Tree.{Forest, Nil, count, is_map}
use Rattle.guard_syntax.specs.declared.row.Origin.{Origin}
use Rattle.guard_syntax.specs.declared.row.Origin.TheVariants as origin
use Rattle.guard_syntax.specs.declared.row.Ref.{Ref}
use Rattle.guard_syntax.specs.declared.row.Row.{Row}
use Rattle.guard_syntax.specs.declared.row.Row.TheVariants as row
use Rattle.rule_meaning.specs.StoreModel.{StoreModel, made_at, meant, stands_for, tree_of, value_in, value_or_key}
use Rattle.rule_meaning.specs.Values.{Value, is_list}
use Rattle.rule_meaning.specs.Reached.{entry, inside, item, no_value, node_beside, numbers, value_for}
use Rattle.rule_meaning.specs.Seeing.{see_origin, see_row, see_location, world_of}
use Rattle.rule_meaning.specs.StepMeaning as location
use Rattle.rule_meaning.specs.Locations.{Answers, Location, World}
use Rattle.rule_meaning.specs.Locations as locations

-- ---- values

nowhere : (n : ℕ) (key : Bool) → value_in n key Nil ≡ None
nowhere n key =
    let outside : nat_lt n 0 ≡ false = grind (arith, nat_tests) in
    ap (λ (b : Bool). if b then value_or_key key Nil n else None) outside

-- a tree without nodes in place of none
in-tree : (n : ℕ) (key : Bool) (o : Option Forest) → value_in n key (unwrap_or o Nil) ≡ option_and_then (value_in n key) o
in-tree n key None = nowhere n key
in-tree n key (Some tree) = refl

-- a value that is there only if a test holds
if-there : (seen : Ref → Location) (b : Bool) (o : Option Ref) (p : Option Location) → option_map seen o ≡ p → option_map seen (if b then o else None) ≡ (if b then p else None)
if-there seen true o p e = e
if-there seen false o p e = refl

module _ (known : StoreModel) (answers : Answers) (calls : List ℕ) where
  abbrev world : World
  world = world_of known answers

  abbrev seen : Ref → Location
  seen = see_location known calls

  by-origin : (n : ℕ) (key : Bool) (o : Origin) → option_and_then (value_in n key) (locations.tree_of world (see_origin known calls o)) ≡ option_and_then (value_in n key) (tree_of known o)
  by-origin n key origin.Template = refl
  by-origin n key (origin.Literal site) = refl
  by-origin n key (origin.Made line row) = in-tree n key (made_at known.made line row)

  pub stands-seen : (r : Ref) → locations.stands_for world (see_location known calls r) ≡ stands_for known r
  stands-seen r = by-origin r.node r.key r.origin

  pub meant-seen : (x : Row) → locations.meant world (see_row known calls x) ≡ meant known x
  meant-seen (row.Found r) = stands-seen r
  meant-seen (row.Missing v site) = refl
  meant-seen (row.Unmade call) = refl

  pub all-meant : (xs : List Row) → map (locations.meant world) (map (see_row known calls) xs) ≡ map (meant known) xs
  all-meant [] = refl
  all-meant (x ∷ xs) =
      ap (λ (o : Option Value). o ∷ map (locations.meant world) (map (see_row known calls) xs)) (meant-seen x)
      ∙ ap (λ (os : List (Option Value)). meant known x ∷ os) (all-meant xs)

  pub value-seen : (r : Ref) → location.value_for world (see_location known calls r) ≡ value_for known r
  value-seen r = ap (λ (o : Option Value). unwrap_or o no_value) (stands-seen r)

  -- ---- what is reached

  beside-seen : (r : Ref) (ns : List ℕ) → map seen (map (node_beside r) ns) ≡ map (location.node_beside (see_location known calls r)) ns
  beside-seen r [] = refl
  beside-seen r (n ∷ ns) = ap (λ (vs : List Location). location.node_beside (see_location known calls r) n ∷ vs) (beside-seen r ns)

  pub inside-seen : (r : Ref) → map (see_location known calls) (inside known r) ≡ location.inside world (see_location known calls r)
  inside-seen r =
      beside-seen r (numbers (r.node + 1) (value_for known r).contents)
      ∙ ap (λ (v : Value). map (location.node_beside (see_location known calls r)) (numbers (r.node + 1) v.contents)) (sym (value-seen r))

  one-beside : (r : Ref) (o : Option ℕ) → option_map seen (option_map (node_beside r) o) ≡ option_map (location.node_beside (see_location known calls r)) o
  one-beside r None = refl
  one-beside r (Some n) = refl

  pub entry-seen : (r : Ref) (name : List ℕ) → option_map (see_location known calls) (entry known r name) ≡ location.entry world (see_location known calls r) name
  entry-seen r name =
      let place : Option ℕ = key_place (r.node + 1) (value_for known r).contents name in
      if-there seen (is_map (value_for known r).kind) (option_map (node_beside r) place) (option_map (location.node_beside (see_location known calls r)) place) (one-beside r place)
      ∙ ap (λ (v : Value). if is_map v.kind then option_map (location.node_beside (see_location known calls r)) (key_place (r.node + 1) v.contents name) else None) (sym (value-seen r))

  pub item-seen : (r : Ref) (i : ℕ) → option_map (see_location known calls) (item known r i) ≡ location.item world (see_location known calls r) i
  item-seen r i =
      let place : ℕ = child_place (r.node + 1) (value_for known r).contents i in
      let within : Bool = nat_lt i (count (value_for known r).contents) in
      if-there seen (is_list (value_for known r).kind) (if within then Some (node_beside r place) else None) (if within then Some (location.node_beside (see_location known calls r) place) else None)
      (if-there seen within (Some (node_beside r place)) (Some (location.node_beside (see_location known calls r) place)) refl)
      ∙ ap (λ (v : Value). if is_list v.kind then (if nat_lt i (count v.contents) then Some (location.node_beside (see_location known calls r) (child_place (r.node + 1) v.contents i)) else None) else None) (sym (value-seen r))

-- ---- those of values that pass a test

pub filter-seen : (see : Ref → Location) (p : Ref → Bool) (q : Location → Bool) → ((r : Ref) → p r ≡ q (see r)) → (rs : List Ref) → map see (filter p rs) ≡ filter q (map see rs)
filter-seen see p q same [] = refl
filter-seen see p q same (r ∷ rs) =
    here (p r) (filter-seen see p q same rs)
    ∙ ap (λ (b : Bool). if b then see r ∷ filter q (map see rs) else filter q (map see rs)) (same r)
  where
    here : (b : Bool) → map see (filter p rs) ≡ filter q (map see rs)
        → map see (if b then r ∷ filter p rs else filter p rs) ≡ (if b then see r ∷ filter q (map see rs) else filter q (map see rs))
    here true e = ap (λ (vs : List Location). see r ∷ vs) e
    here false e = e
