-- The names that a set has.
use Rattle.std.proofs.Common.{◌≡◌, ℕ, Bool, true, false, List, ◌∷◌, refl, sym, ap, ◌∙◌, cond}
use Rattle.std.specs.Prelude.{◌||◌, not}
use Rattle.std.specs.Borrow.{Bor}
use Rattle.std.specs.Ordering.{nat_cmp, is_eq}
use Rattle.std.specs.Cmp.Lexicographic.{slice_cmp}
use Rattle.std.specs.Str.{bytes_eq}
use Rattle.std.specs.BTreeSet.{BTreeSet, contains_by}
use Rattle.std.proofs.lemmas.Slice.Eq.{bytes_eq-Decides}
use Rattle.std.specs.Bool.{Decides}
use Rattle.std.proofs.lemmas.Map.Text.{is_eq-slice_cmp}
use Rattle.rule_names.specs.Duplicates.{is_among}
pub use Rattle.name_faults.specs.code.NameSets.{IsNameSet}

pub bytes_eq_sym : (x y : List ℕ) → bytes_eq x y ≡ bytes_eq y x
bytes_eq_sym x y = as_one (bytes_eq x y) (bytes_eq y x) (bytes_eq-Decides x y) (bytes_eq-Decides y x)
  where
    as_one : (a b : Bool) → Decides a (x ≡ y) → Decides b (y ≡ x) → a ≡ b
    as_one true true one two = refl
    as_one true false one two = sym (two.1 (sym (one.0 refl)))
    as_one false true one two = one.1 (sym (two.0 refl))
    as_one false false one two = refl

or_cond : (a b : Bool) → cond a true b ≡ a || b
or_cond true b = refl
or_cond false b = refl

-- a name more
pub set-more : (set more : BTreeSet (Bor (List ℕ))) (key : Bor (List ℕ)) (names : List (List ℕ)) (new : List ℕ) → IsNameSet set names
    → ((q : Bor (List ℕ)) → contains_by (λ k. slice_cmp nat_cmp q.now k.now) more ≡ cond (is_eq (slice_cmp nat_cmp key.now q.now)) true (contains_by (λ k. slice_cmp nat_cmp q.now k.now) set))
    → new ≡ key.now → IsNameSet more (new ∷ names)
set-more set more key names new old up is name =
    let same : is_eq (slice_cmp nat_cmp key.now name) ≡ bytes_eq name new = is_eq-slice_cmp key.now name ∙ bytes_eq_sym key.now name ∙ ap (bytes_eq name) (sym is) in
    up (record { ref_ptr = (0, 0); now = name })
    ∙ ap (λ b. cond b true (contains_by (λ k. slice_cmp nat_cmp name k.now) set)) same
    ∙ ap (λ b. cond (bytes_eq name new) true b) (old name)
    ∙ or_cond (bytes_eq name new) (is_among name names)

not_false : (b : Bool) → not b ≡ false → b ≡ true
not_false true e = refl
not_false false e = absurd cc

not_true : (b : Bool) → not b ≡ true → b ≡ false
not_true true e = absurd cc
not_true false e = refl

-- what a set says of a name that was to be added
pub name-old : (set : BTreeSet (Bor (List ℕ))) (names : List (List ℕ)) (key name : List ℕ) (is_new : Bool) → IsNameSet set names → key ≡ name
    → is_new ≡ not (contains_by (λ k. slice_cmp nat_cmp key k.now) set) → is_new ≡ false → is_among name names ≡ true
name-old set names key name is_new same is says old =
    ap (λ (n : List ℕ). is_among n names) (sym is) ∙ sym (same key) ∙ not_false (contains_by (λ k. slice_cmp nat_cmp key k.now) set) (sym says ∙ old)

pub name-new : (set : BTreeSet (Bor (List ℕ))) (names : List (List ℕ)) (key name : List ℕ) (is_new : Bool) → IsNameSet set names → key ≡ name
    → is_new ≡ not (contains_by (λ k. slice_cmp nat_cmp key k.now) set) → is_new ≡ true → is_among name names ≡ false
name-new set names key name is_new same is says new =
    ap (λ (n : List ℕ). is_among n names) (sym is) ∙ sym (same key) ∙ not_true (contains_by (λ k. slice_cmp nat_cmp key k.now) set) (sym says ∙ new)
