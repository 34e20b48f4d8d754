-- The site of the line that made a value, by the sites of all lines.
use Rattle.std.proofs.Common.{◌≡◌, ℕ, zero, suc, refl, ap, sym, ◌∙◌, List, [], ◌∷◌, slice_get, unwrap_or, Option}
use Rattle.std.specs.Option.{option_map_or}
use Rattle.std.specs.Prelude.{slice_index_or}
use Rattle.evidence_lines.specs.Lines.{line_of}
use Rattle.evidence_lines.specs.declared.line.Line.{Line}
use Rattle.evidence_rules.proofs.LinesBehind.{behind-first}
use Rattle.evidence_rules.specs.code.Judgement.{line_sites, location_said}
use Rattle.rule_meaning.specs.Fails as fails
use Rattle.rule_meaning.specs.Locations.{LocatedOrigin, Made}
use Rattle.rule_meaning.specs.Seeing.{call_at, see_origin}
use Rattle.rule_meaning.specs.StoreModel.{StoreModel, tree_of}
use Rattle.doc_values.specs.Tree.{Nil}
use Rattle.guard_syntax.specs.declared.row.Origin.{Origin}
use Rattle.guard_syntax.specs.declared.row.Origin.TheVariants as origin
use Rattle.guard_syntax.specs.declared.row.Ref.{Ref}
use Rattle.report_text.specs.code.SeenEntries.{tree_for}

at-index : (ls : List Line) (n : ℕ) → slice_index_or (line_sites ls) n 0 ≡ option_map_or (λ (l : Line). unwrap_or l.site 0) (slice_get ls n) 0
at-index [] n = refl
at-index (l ∷ ls) zero = refl
at-index (l ∷ ls) (suc n) = at-index ls n

pub site-at : (ls : List Line) (number : ℕ) → option_map_or (λ (l : Line). unwrap_or l.site 0) (line_of ls number) 0 ≡ call_at (line_sites ls) number
site-at ls zero = refl
site-at ls (suc n) = ap (λ (o : Option Line). option_map_or (λ (l : Line). unwrap_or l.site 0) o 0) (behind-first ls n) ∙ sym (at-index ls n)

-- a value that a call made is shown under the site of the line that made it
pub made-seen : (known : StoreModel) (ls : List Line) (v : Ref) (line row site : ℕ) → v.origin ≡ origin.Made line row → site ≡ call_at (line_sites ls) line
    → fails.OfValue (record { origin = Made site (tree_for known v); node = v.node; key = v.key }) ≡ fails.OfValue (location_said known ls v)
made-seen known ls v line row site is there =
    ap (λ (o : LocatedOrigin). fails.OfValue (record { origin = o; node = v.node; key = v.key }))
    (ap (λ (n : ℕ). Made n (tree_for known v)) there
    ∙ ap (λ (o : Origin). Made (call_at (line_sites ls) line) (unwrap_or (tree_of known o) Nil)) is
    ∙ sym (ap (see_origin known (line_sites ls)) is))
