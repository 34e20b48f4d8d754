-- What is said of a call that hands up an error.
use Rattle.std.proofs.Common.{◌≡◌, Result, Ok, Err, OnOk}
use Rattle.std.specs.Prelude.{IsErrAnd}

-- where an error is handed up, nothing is said of what comes of no error
pub nothing-at-exit : {A E : Type 0} (P : Type 0) (r : Result A E) (e : E) → IsErrAnd r (λ (y : E). y ≡ e) → OnOk r P
nothing-at-exit P (Ok x) e is = absurd is
nothing-at-exit P (Err y) e is = tt
