-- The step of an index, in the code's steps and in those of the syntax.
use Rattle.std.proofs.Common.{◌≡◌, ℕ, zero, suc, ◌<◌, ◌≤◌, refl, ap, sym, arith, List, [], ◌∷◌, length, get_or, map, Some, None}
use Rattle.guard_syntax.specs.code.Seen.{see_step, step_list}
use Rattle.guard_syntax.specs.declared.syntax.Step.{Step}
use Rattle.rule_names.specs.Cycles.{step_of}

pub step-at : (xs : List Step) (i : ℕ) (x : Step) → i < length xs → x ≡ get_or xs i x → step_of (step_list (map see_step xs)) i ≡ Some (see_step x)
step-at [] i x l is = absurd (omega arith)
step-at (y ∷ ys) zero x l is = ap (λ (s : Step). Some (see_step s)) (sym is)
step-at (y ∷ ys) (suc i) x l is = step-at ys i x (omega arith) is

pub step-beyond : (xs : List Step) (i : ℕ) → length xs ≤ i → step_of (step_list (map see_step xs)) i ≡ None
step-beyond [] i l = refl
step-beyond (y ∷ ys) zero l = absurd (omega arith)
step-beyond (y ∷ ys) (suc i) l = step-beyond ys i (omega arith)
