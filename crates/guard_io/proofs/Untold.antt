-- Where nothing is told, what is said of told bytes holds; and a counter after one more rose.
use Rattle.std.proofs.Common.{◌≡◌, ℕ, None, Result, Ok, Err, OnOk, OnErr, IsErrOf, arith}
use Rattle.std.proofs.lemmas.Option.{none-some}
use Rattle.std.specs.Option.{ForSome}
use Rattle.guard_io.specs.Outside.{FaultCounted, one_more}

pub OnOk-untold : {T E A : Type 0} (r : Result T E) (P : A → Type 0) → OnOk r (ForSome None P)
OnOk-untold (Ok v) P = λ x e. absurd (none-some x e)
OnOk-untold (Err v) P = tt

pub OnErr-untold : {T E A : Type 0} (r : Result T E) (P : A → Type 0) → OnErr r (ForSome None P)
OnErr-untold (Ok v) P = tt
OnErr-untold (Err v) P = λ x e. absurd (none-some x e)

pub FaultCounted-one_more : (before after : ℕ) → after ≡ one_more before → FaultCounted before after
FaultCounted-one_more before after e = grind (arith, e)

-- what holds of each error holds of one
pub on_one_error : {T E P : Type 0} (r : Result T E) (e : E) → IsErrOf r e → OnErr r P → P
on_one_error (Ok v) e is p = absurd cc
on_one_error (Err v) e is p = p
