-- A table of the lines of rules in which one was set.
use Rattle.std.proofs.Common.{◌≡◌, ℕ, Bool, refl, ap, ◌∙◌, Some}
use Rattle.std.specs.Prelude.{◌==◌, if◌then◌else◌}
use Rattle.std.proofs.lemmas.Bool.{eq-eqb, ne_eqb}
use Rattle.engine_lines.specs.code.Lines.{lines_in}
use Rattle.engine_parts.specs.declared.site_lines.SiteLines.{SiteLines}

-- a table in which a line was set
pub table-set : (old new : SiteLines) (site number : ℕ) → ((m : ℕ) → lines_in new m ≡ (if m == site then Some number else lines_in old m))
    → (lines_in new site ≡ Some number) × ((m : ℕ) → (m ≡ site → ⊥) → lines_in new m ≡ lines_in old m)
table-set old new site number set = (
  set site ∙ ap (λ (b : Bool). if b then Some number else lines_in old site) (eq-eqb site site refl),
  λ m other. set m ∙ ap (λ (b : Bool). if b then Some number else lines_in old m) (ne_eqb m site other),
)
