-- Environments seen as environments over locations: their current values, scopes further out, and as before where calls have made more trees.
use Rattle.std.proofs.Common.{◌≡◌, ℕ, zero, suc, true, List, ◌++◌, refl, ap, ◌∙◌}
use Rattle.std.proofs.lemmas.Bool.{and_parts}
use Rattle.rule_meaning.specs.StoreModel.{StoreModel, Made, is_known_ref}
use Rattle.rule_meaning.specs.code.StoreEnvironments.{Environment, Top, Inner, Called, current_of, outer_of, outwards}
use Rattle.rule_meaning.specs.Seeing.{are_called, grown, see_location}
use Rattle.rule_meaning.specs.code.SeeingEnvironments.{is_known_environment, see_environment}
use Rattle.rule_meaning.specs.Environments as location
use Rattle.rule_meaning.specs.Locations.{Location}
use Rattle.query_steps.proofs.SeenGrowth.{location-before}

module _ (known : StoreModel) (calls : List ℕ) where
  pub current-seen : (env : Environment) → location.current_of (see_environment known calls env) ≡ see_location known calls (current_of env)
  current-seen Top = refl
  current-seen (Inner current outer) = refl
  current-seen (Called current args caller) = refl

  pub outer-seen : (env : Environment) → location.outer_of (see_environment known calls env) ≡ see_environment known calls (outer_of env)
  outer-seen Top = refl
  outer-seen (Inner current outer) = refl
  outer-seen (Called current args caller) = refl

  pub outwards-seen : (n : ℕ) (env : Environment) → location.outwards n (see_environment known calls env) ≡ see_environment known calls (outwards n env)
  outwards-seen zero env = refl
  outwards-seen (suc n) env = ap (location.outwards n) (outer-seen env) ∙ outwards-seen n (outer_of env)

  module _ (more : List Made) (later : List ℕ) (called : are_called calls known.made ≡ true) where
    pub environment-before : (env : Environment) → is_known_environment known env ≡ true
        → see_environment (grown known more) (calls ++ later) env ≡ see_environment known calls env
    environment-before Top is = refl
    environment-before (Inner current outer) is =
        let both : (is_known_ref known current ≡ true) × (is_known_environment known outer ≡ true) = and_parts _ _ is in
        ap (λ (v : Location). location.Inner v (see_environment (grown known more) (calls ++ later) outer)) (location-before known more calls later called current both.0)
        ∙ ap (location.Inner (see_location known calls current)) (environment-before outer both.1)
    environment-before (Called current args caller) is =
        let both : (is_known_ref known current ≡ true) × (is_known_environment known caller ≡ true) = and_parts _ _ is in
        ap (λ (v : Location). location.Called v args (see_environment (grown known more) (calls ++ later) caller)) (location-before known more calls later called current both.0)
        ∙ ap (location.Called (see_location known calls current) args) (environment-before caller both.1)
