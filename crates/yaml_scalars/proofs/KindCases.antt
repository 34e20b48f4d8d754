-- The kind of a scalar.
use Rattle.std.proofs.Common.{◌≡◌, Bool, true, false, List, ℕ, sym, subst}
use Rattle.std.specs.Prelude.{not}
use Rattle.doc_values.specs.declared.kind.Kind.{Kind}
use Rattle.doc_values.specs.declared.kind.Kind.TheVariants as kind
use Rattle.yaml_scalars.specs.Kinds.{IsPlainKind}
use Rattle.yaml_scalars.specs.Scalar.{HasKind}

pub key_kind : (one_line : Bool) (text : List ℕ) (k : Kind) → one_line ≡ true → k ≡ kind.Text → HasKind (not one_line) text k
key_kind true text k e h = h
key_kind false text k e h = absurd (cc)

pub plain_kind_is : (one_line : Bool) (text seen : List ℕ) (k l : Kind) → one_line ≡ false → seen ≡ text → IsPlainKind seen l → k ≡ l → HasKind (not one_line) text k
plain_kind_is true text seen k l e s p h = absurd (cc)
plain_kind_is false text seen k l e s p h = subst (λ t. IsPlainKind t k) s (subst (λ x. IsPlainKind seen x) (sym h) p)
