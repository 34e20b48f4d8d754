-- What a reader gave so far is a front of what was asked for: by cases on what is known.
use Rattle.std.proofs.Common.{◌≡◌, ◌≤◌, ◌+◌, ◌-◌, ◌++◌, ℕ, List, Option, None, Some, sym, ap, ◌∙◌, length, take, arith}
use Rattle.std.proofs.lemmas.Option.{none-some}
use Rattle.std.proofs.Math.Seq.{take-append-add}
use Rattle.std.specs.Io.KnownBytes.{Consumes}
use Rattle.guard_io.specs.Outside.{IsPrefix}

-- taking no fewer than the first list has ends in the second
pub take-append_front : (more rest : List ℕ) (most : ℕ) → length more ≤ most
    → more ++ take (most - length more) rest ≡ take most (more ++ rest)
take-append_front more rest most within =
    let split : length more + (most - length more) ≡ most = omega (arith, within) in
    sym (take-append-add more rest (most - length more)) ∙ ap (λ n. take n (more ++ rest)) split

pub some-inner : (x y : List ℕ) → Some x ≡ Some y → x ≡ y
some-inner x y e = cc

-- no more was given than asked for: it is a front of what was asked for
pub Consumes-front : (a b : Option (List ℕ)) (more : List ℕ) (most : ℕ) → length more ≤ most → Consumes a b more
    → (bytes : List ℕ) → a ≡ Some bytes → IsPrefix more (take most bytes)
Consumes-front None b more most within given bytes known = absurd (none-some bytes known)
Consumes-front (Some x) None more most within given bytes known = absurd given
Consumes-front (Some x) (Some y) more most within given bytes known =
    (take (most - length more) y, take-append_front more y most within ∙ ap (take most) (sym given ∙ some-inner x bytes known))
