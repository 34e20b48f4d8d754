-- Answers on texts, whatever they are texts of.
use Rattle.std.proofs.Common.{◌≡◌, ℕ, List, Option, MatchOption, sym, subst}
use Rattle.doc_values.specs.declared.kind.Kind.{Kind}
use Rattle.doc_values.specs.declared.kind.Kind.TheVariants as kind

pub as-text : {T : Type 0} (Is : Kind → List ℕ → T → Type 0) (k : Kind) (text seen : List ℕ) (r : Option T) → k ≡ kind.Text → text ≡ seen
    → MatchOption r ((x : T) → Is kind.Text seen x → ⊥) (λ x. Is kind.Text seen x) → MatchOption r ((x : T) → Is k text x → ⊥) (λ x. Is k text x)
as-text {T = T} Is k text seen r of same h =
    subst (λ (j : Kind). MatchOption r ((x : T) → Is j text x → ⊥) (λ x. Is j text x)) (sym of)
    (subst (λ (t : List ℕ). MatchOption r ((x : T) → Is kind.Text t x → ⊥) (λ x. Is kind.Text t x)) (sym same) h)
