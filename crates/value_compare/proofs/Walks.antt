-- A walk over a list: what a test says of the items so far, of all where it stops, and of all at the end.
use Rattle.std.proofs.Common.{◌≡◌, ℕ, ◌+◌, ◌<◌, ◌≤◌, Bool, true, false, List, length, map, take, get_or, sym, ap, ◌∙◌, arith}
use Rattle.std.specs.List.{list_all, list_any}
use Rattle.std.proofs.lemmas.Bool.{or_from, and_from}
use Rattle.std.proofs.lemmas.List.{take_all, get_or-map, length-map}
use Rattle.std.proofs.lemmas.List.Folds.{list_any_more, list_all_more, list_any_at, list_all_at}

module _ {X : Type 0} (p : X → Bool) (xs : List X) where
  pub any_more : (i : ℕ) (x : X) → i < length xs → get_or xs i x ≡ x → list_any p (take i xs) ≡ false → p x ≡ false → list_any p (take (i + 1) xs) ≡ false
  any_more i x within is before here = list_any_more p xs i x within ∙ or_from _ _ before (ap p is ∙ here)

  pub any_hit : (i : ℕ) (x : X) → i < length xs → get_or xs i x ≡ x → p x ≡ true → list_any p xs ≡ true
  any_hit i x within is here = list_any_at p xs i x within (ap p is ∙ here)

  pub any_end : (n : ℕ) → length xs ≤ n → list_any p (take n xs) ≡ false → list_any p xs ≡ false
  any_end n all before = ap (list_any p) (sym (take_all n xs all)) ∙ before

  pub all_more : (i : ℕ) (x : X) → i < length xs → get_or xs i x ≡ x → list_all p (take i xs) ≡ true → p x ≡ true → list_all p (take (i + 1) xs) ≡ true
  all_more i x within is before here = list_all_more p xs i x within ∙ and_from _ _ before (ap p is ∙ here)

  pub all_hit : (i : ℕ) (x : X) → i < length xs → get_or xs i x ≡ x → p x ≡ false → list_all p xs ≡ false
  all_hit i x within is here = list_all_at p xs i x within (ap p is ∙ here)

  pub all_end : (n : ℕ) → length xs ≤ n → list_all p (take n xs) ≡ true → list_all p xs ≡ true
  all_end n all before = ap (list_all p) (sym (take_all n xs all)) ∙ before

-- an item of what is seen of a list
pub seen_at : {X Y : Type 0} (f : X → Y) (xs : List X) (i : ℕ) (x : X) → i < length xs → x ≡ get_or xs i x → get_or (map f xs) i (f x) ≡ f x
seen_at f xs i x within is = get_or-map f xs i x (f x) within ∙ ap f (sym is)

pub seen_within : {X Y : Type 0} (f : X → Y) (xs : List X) (i : ℕ) → i < length xs → i < length (map f xs)
seen_within f xs i within = let e = length-map xs f in omega arith
