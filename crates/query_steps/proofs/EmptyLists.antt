-- Where what a list gives is empty, so is what each of its items gives, by induction on the list; and what a filter tries at a value, where that is nothing.
use Rattle.std.proofs.Common.{◌≡◌, ℕ, zero, suc, ◌<◌, Bool, List, [], ◌∷◌, ◌++◌, length, get_or, refl, sym, ap, ◌∙◌, arith}
use Rattle.std.specs.List.{flat_map}
use Rattle.guard_syntax.specs.declared.row.Ref.{Ref}
use Rattle.guard_syntax.specs.declared.row.Row.{Row}
use Rattle.guard_syntax.specs.declared.row.Row.TheVariants.{Found}
use Rattle.rule_meaning.specs.StoreModel.{StoreModel}
use Rattle.rule_meaning.specs.Filters.{candidates_of, row_candidates, candidates_in}

front-empty : {A : Type 0} (xs ys : List A) → xs ++ ys ≡ [] → xs ≡ []
front-empty [] ys none = refl
front-empty (x ∷ xs) ys none = absurd cc

back-empty : {A : Type 0} (xs ys : List A) → xs ++ ys ≡ [] → ys ≡ []
back-empty [] ys none = none
back-empty (x ∷ xs) ys none = absurd cc

pub item-empty : {X A : Type 0} (f : X → List A) (xs : List X) (i : ℕ) (d : X) → i < length xs → flat_map f xs ≡ [] → f (get_or xs i d) ≡ []
item-empty f [] i d within none = absurd (omega arith)
item-empty f (x ∷ xs) zero d within none = front-empty (f x) (flat_map f xs) none
item-empty f (x ∷ xs) (suc i) d within none = item-empty f xs i d (omega arith) (back-empty (f x) (flat_map f xs) none)

pub none-tried : (known : StoreModel) (after_key : Bool) (before : List Row) (i : ℕ) (d : Row) (v : Ref) → i < length before → get_or before i d ≡ Found v
    → candidates_in known after_key before ≡ [] → candidates_of known after_key v ≡ []
none-tried known after_key before i d v within is none = sym (ap (row_candidates known after_key) is) ∙ item-empty (row_candidates known after_key) before i d within none
