use Rattle.std.proofs.Common.{◌≡◌, ℕ, Bool, true, false, List, refl, sym, ◌∙◌, true≢false}
use Rattle.yaml_scalars.specs.Lines.{each}
use Rattle.yaml_laws.specs.code.Dots.{is_dotless}
use Rattle.yaml_laws.proofs.Dotted.{scalar_dotted}
use Rattle.yaml_laws.proofs.scalars.scalar_dotted.Goals as goal

pub returns : goal.returns
returns c = λ more t end one block last dot h g. by_test t (each is_dotless t) refl (λ f. true≢false (sym (scalar_dotted c.args.setting c.args.text.now c.args.at c.requires last more t end one block h g f) ∙ dot)) where
  by_test : (t : List ℕ) (q : Bool) → each is_dotless t ≡ q → (each is_dotless t ≡ true → ⊥) → each is_dotless t ≡ false
  by_test t true e n = absurd (n e)
  by_test t false e n = e
