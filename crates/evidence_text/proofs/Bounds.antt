-- Bytes that are at least some byte, and so have no lesser separator.
use Rattle.std.proofs.Common.{◌≡◌, ◌<◌, ℕ, true, false, List, [], ◌∷◌, ◌++◌, All, eqb, leb, refl, ◌∙◌, arith}
use Rattle.std.specs.List.{flat_map, list_all}
use Rattle.std.proofs.lemmas.Bool.Decides.{nat_tests}
use Rattle.std.proofs.lemmas.Bool.{and_parts, and_from, ne_eqb, leb-true}
use Rattle.std.proofs.lemmas.List.Elements.{All-nil, All-cons, All-head, All-tail}
use Rattle.std.proofs.lemmas.List.Folds.{list_all-append}
use Rattle.evidence_text.proofs.Cuts.{Free}

-- each byte is this one or a greater one
abbrev pub From : ℕ → List ℕ → Type 0
From least bytes = list_all (leb least) bytes ≡ true

pub from_append : (least : ℕ) (a b : List ℕ) → From least a → From least b → From least (a ++ b)
from_append least a b p q = list_all-append (leb least) a b ∙ and_from _ _ p q

pub free_from : (s least : ℕ) (bytes : List ℕ) → s < least → From least bytes → Free s bytes
free_from s least [] below p = All-nil (λ b. eqb b s ≡ false)
free_from s least (b ∷ bytes) below p =
    let parts = and_parts (leb least b) (list_all (leb least) bytes) p in
    let above = leb-true least b parts.0 in
    All-cons (λ b. eqb b s ≡ false) b bytes (ne_eqb b s (λ e. omega arith)) (free_from s least bytes below parts.1)

-- what is at least a byte is at least a lesser one
pub from_lesser : (less least : ℕ) (bytes : List ℕ) → less < least → From least bytes → From less bytes
from_lesser less least [] below p = refl
from_lesser less least (b ∷ bytes) below p =
    let parts = and_parts (leb least b) (list_all (leb least) bytes) p in
    let above = leb-true least b parts.0 in
    and_from _ _ (grind (arith, nat_tests)) (from_lesser less least bytes below parts.1)

pub from_flat_map : {A : Type 0} (least : ℕ) (f : A → List ℕ) (xs : List A) → All (λ x. From least (f x)) xs → From least (flat_map f xs)
from_flat_map least f [] p = refl
from_flat_map {A} least f (x ∷ xs) p =
    let P : A → Type 0 = λ x. From least (f x) in
    from_append least (f x) (flat_map f xs) (All-head P x xs p) (from_flat_map least f xs (All-tail P x xs p))
