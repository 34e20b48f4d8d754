-- Marks that some nodes get, one node after another.
use Rattle.std.proofs.Common.{◌≡◌, ℕ, ◌+◌, ◌<◌, ◌⊎◌, inl, inr, Bool, true, false, refl, ap, sym, ◌∙◌, subst, List, [], ◌∷◌, ◌++◌, length, get_or, set, arith, cond, replicate}
use Rattle.std.specs.List.{Contains, All}
use Rattle.std.proofs.lemmas.List.{length-set, get_or-set_same, get_or-set_other, get_or_past, length_push, get_or-replicate, length-replicate}
use Rattle.std.proofs.lemmas.List.Sums.{sum_by-set}
use Rattle.std.proofs.lemmas.List.Elements.{All-push, All-weaker, Contains-push, Contains-push_cases, Contains-append_left}
use Rattle.std.proofs.lemmas.Bool.{cases_eq, cases_lt}
use Rattle.rule_names.specs.code.Marks.{IsMarked, unmarked, Marks}

pub not-in-none : (a : ℕ) → Contains {X = ℕ} [] a → ⊥
not-in-none a h = let k = h.0 in let l : k < 0 = h.1 in absurd (omega arith)

-- a marked node is one of those that have marks
pub marked-within : (marks : List Bool) (a : ℕ) → IsMarked marks a → a < length marks
marked-within marks a h = elim (cases_lt a (length marks)) [
  | inl l ↦ l
  | inr l ↦ let e = get_or_past marks a false l in absurd (cc)
]

-- without marks, none is marked
pub none-marked : (n a : ℕ) → IsMarked (replicate n false) a → ⊥
none-marked n a h =
    let within = marked-within (replicate n false) a h in
    let l : a < n = omega (arith, length-replicate n false) in
    let e = get_or-replicate n a false false l in
    cc

pub mark-here : (marks : List Bool) (t : ℕ) → t < length marks → IsMarked (set marks t true) t
mark-here marks t l = get_or-set_same marks t true false l

pub mark-kept : (marks : List Bool) (t a : ℕ) → t < length marks → IsMarked marks a → IsMarked (set marks t true) a
mark-kept marks t a l h = elim (cases_eq a t) [
  | inl e ↦ subst (IsMarked (set marks t true)) (sym e) (mark-here marks t l)
  | inr n ↦ get_or-set_other marks t a true false n ∙ h
]

pub mark-only : (marks : List Bool) (t a : ℕ) → IsMarked (set marks t true) a → IsMarked marks a ⊎ (t ≡ a)
mark-only marks t a h = elim (cases_eq a t) [
  | inl e ↦ inr (sym e)
  | inr n ↦ inl (sym (get_or-set_other marks t a true false n) ∙ h)
]

-- one less is unmarked
pub mark-counts : (marks : List Bool) (t : ℕ) → t < length marks → get_or marks t false ≡ false → unmarked (set marks t true) + 1 ≡ unmarked marks
mark-counts marks t l new =
    let e : unmarked (set marks t true) + cond (get_or marks t false) 0 1 ≡ unmarked marks + 0 = sum_by-set (λ m. cond m 0 1) marks t true false l in
    let one : cond {A = ℕ} (get_or marks t false) 0 1 ≡ 1 = ap (λ (m : Bool). cond {A = ℕ} m 0 1) new in
    omega arith

pub Marks-none : (marks : List Bool) (pending : List ℕ) → All (IsMarked marks) pending → Marks [] marks pending marks pending
Marks-none marks pending h = record {
  same_nodes = refl;
  counted = refl;
  kept = λ a k. k;
  added = λ a k. absurd (not-in-none a k);
  only = λ a k. inl k;
  still = λ a k. k;
  put = λ a k. inl k;
  marked = h;
}

module _ (ts : List ℕ) (old : List Bool) (before : List ℕ) (new : List Bool) (after : List ℕ) (t : ℕ) (so : Marks ts old before new after) where
  pub Marks-seen : IsMarked new t → Marks (ts ++ t ∷ []) old before new after
  Marks-seen seen = record {
    same_nodes = so.same_nodes;
    counted = so.counted;
    kept = so.kept;
    added = λ a h. elim (Contains-push_cases ts t a h) [ inl k ↦ so.added a k | inr e ↦ subst (IsMarked new) e seen ];
    only = λ a h. elim (so.only a h) [ inl k ↦ inl k | inr k ↦ inr (Contains-append_left ts (t ∷ []) a k) ];
    still = so.still;
    put = so.put;
    marked = so.marked;
  }

  pub Marks-new : t < length new → get_or new t false ≡ false → Marks (ts ++ t ∷ []) old before (set new t true) (after ++ t ∷ [])
  Marks-new l fresh = record {
    same_nodes = length-set new t true ∙ so.same_nodes;
    counted = let e = mark-counts new t l fresh in let f = so.counted in omega (arith, length_push after t);
    kept = λ a h. mark-kept new t a l (so.kept a h);
    added = λ a h. elim (Contains-push_cases ts t a h) [
      | inl k ↦ mark-kept new t a l (so.added a k)
      | inr e ↦ subst (IsMarked (set new t true)) e (mark-here new t l)
    ];
    only = λ a h. elim (mark-only new t a h) [
      | inl k ↦ elim (so.only a k) [ inl o ↦ inl o | inr o ↦ inr (Contains-append_left ts (t ∷ []) a o) ]
      | inr e ↦ inr (subst (Contains (ts ++ t ∷ [])) e (Contains-push ts t))
    ];
    still = λ a h. Contains-append_left after (t ∷ []) a (so.still a h);
    put = λ a h. elim (mark-only new t a h) [
      | inl k ↦ elim (so.put a k) [ inl o ↦ inl o | inr o ↦ inr (Contains-append_left after (t ∷ []) a o) ]
      | inr e ↦ inr (subst (Contains (after ++ t ∷ [])) e (Contains-push after t))
    ];
    marked = All-push (IsMarked (set new t true)) after t
        (All-weaker (IsMarked new) (IsMarked (set new t true)) (λ a h. mark-kept new t a l h) after so.marked)
        (mark-here new t l);
  }
