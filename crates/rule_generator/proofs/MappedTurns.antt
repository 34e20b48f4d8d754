-- A list of items that stand for others, one item after another.
use Rattle.std.proofs.Common.{◌≡◌, ℕ, ◌+◌, ◌<◌, ◌≤◌, Bool, true, false, List, ◌++◌, length, get_or, drop, map, sym, ap, ◌∙◌, arith}
use Rattle.std.specs.Prelude.{fold}
use Rattle.std.specs.List.{flat_map, list_all}
use Rattle.std.proofs.lemmas.List.{get_or-map, length-map}
use Rattle.rule_generator.proofs.Turns.{all-end, all-stop, all-turn, fold-end, fold-turn, join-end, join-turn}

module _ {X Y : Type 0} (f : Y → X) (ys : List Y) (i : ℕ) where
  pub inside : i < length ys → i < length (map f ys)
  inside h = let n : length (map f ys) ≡ length ys = length-map ys f in omega arith

  pub past : length ys ≤ i → length (map f ys) ≤ i
  past h = let n : length (map f ys) ≡ length ys = length-map ys f in omega arith

  -- what the item at the index stands for
  pub seen-at : (x : Y) → i < length ys → x ≡ get_or ys i x → get_or (map f ys) i (f x) ≡ f x
  seen-at x h is = get_or-map f ys i x (f x) h ∙ ap f (sym is)

  pub join-turn-map : {A : Type 0} (g : X → List A) (x : Y) (done after all : List A) → i < length ys → x ≡ get_or ys i x → after ≡ done ++ g (f x)
      → done ++ flat_map g (drop i (map f ys)) ≡ all → after ++ flat_map g (drop (i + 1) (map f ys)) ≡ all
  join-turn-map g x done after all h is next so = join-turn g (map f ys) i (f x) (f x) done after all (inside h) (seen-at x h is) next so

  pub join-end-map : {A : Type 0} (g : X → List A) (done all : List A) → length ys ≤ i → done ++ flat_map g (drop i (map f ys)) ≡ all → done ≡ all
  join-end-map g done all h so = join-end g (map f ys) i done all (past h) so

  pub fold-turn-map : {A : Type 0} (g : A → X → A) (x : Y) (done after all : A) → i < length ys → x ≡ get_or ys i x → after ≡ g done (f x)
      → fold g done (drop i (map f ys)) ≡ all → fold g after (drop (i + 1) (map f ys)) ≡ all
  fold-turn-map g x done after all h is next so = fold-turn g (map f ys) i (f x) (f x) done after all (inside h) (seen-at x h is) next so

  pub fold-end-map : {A : Type 0} (g : A → X → A) (done all : A) → length ys ≤ i → fold g done (drop i (map f ys)) ≡ all → done ≡ all
  fold-end-map g done all h so = fold-end g (map f ys) i done all (past h) so

  pub all-turn-map : (p : X → Bool) (x : Y) (all : Bool) → i < length ys → x ≡ get_or ys i x → p (f x) ≡ true → list_all p (drop i (map f ys)) ≡ all → list_all p (drop (i + 1) (map f ys)) ≡ all
  all-turn-map p x all h is passes so = all-turn p (map f ys) i (f x) (f x) all (inside h) (seen-at x h is) passes so

  pub all-stop-map : (p : X → Bool) (x : Y) (all : Bool) → i < length ys → x ≡ get_or ys i x → p (f x) ≡ false → list_all p (drop i (map f ys)) ≡ all → all ≡ false
  all-stop-map p x all h is fails so = all-stop p (map f ys) i (f x) (f x) all (inside h) (seen-at x h is) fails so

  pub all-end-map : (p : X → Bool) (all : Bool) → length ys ≤ i → list_all p (drop i (map f ys)) ≡ all → all ≡ true
  all-end-map p all h so = all-end p (map f ys) i all (past h) so
