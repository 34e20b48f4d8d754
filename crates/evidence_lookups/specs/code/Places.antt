-- The place of a line, by its fields.
use Rattle.std.specs.Prelude.{◌≡◌, ℕ, Some}
use Rattle.evidence_lines.specs.declared.line.LineKind.{LineKind}
use Rattle.evidence_lines.specs.declared.line.LinePlace.{LinePlace}

-- it is of this kind, in this frame and of this site
pub record HasPlace (place : LinePlace) (of : LineKind) (frame site : ℕ) : Type 0 where
  pub kind_is : place.kind ≡ of
  pub frame_is : place.frame ≡ Some frame
  pub site_is : place.site ≡ Some site
