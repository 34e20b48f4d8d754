-- Lines that follow have the fields of their kinds, so what is found by a site says rows or a verdict, as its kind says.
use Rattle.std.proofs.Common.{◌≡◌, ℕ, zero, suc, refl, sym, ap, ◌∙◌, subst, slice_get, List, [], ◌∷◌, ◌++◌, Some}
use Rattle.std.proofs.lemmas.Option.{same_Some, none-some}
use Rattle.evidence_lines.specs.Lines.{line_of}
use Rattle.evidence_lines.specs.Shapes.{HasShape, sort_of, sort_said}
use Rattle.evidence_lines.specs.declared.line.Line.{Line}
use Rattle.evidence_lines.specs.declared.line.LineKind.{LineKind}
use Rattle.evidence_lines.specs.declared.line.LineKind.TheVariants as kind
use Rattle.evidence_lines.specs.declared.line.Outcome.{Outcome}
use Rattle.evidence_lines.specs.declared.line.Outcome.TheVariants as says
use Rattle.evidence_lines.specs.declared.line.Sort.TheVariants as sort
use Rattle.evidence_lines.specs.declared.version.Version.{Version}
use Rattle.evidence_lines.specs.declared.version.Version.TheVariants.{Two}
use Rattle.guard_syntax.specs.declared.row.Row.{Row}
use Rattle.guard_syntax.specs.declared.row.Verdict.{Verdict}
use Rattle.rule_names.specs.Pieces.{piece_at}
use Rattle.rule_meaning.specs.Seeing.{grown}
use Rattle.rule_meaning.specs.StoreModel.{StoreModel}
use Rattle.evidence_rules.specs.CitedLines.{IsLine}
use Rattle.evidence_rules.specs.Follows.{nothing_made}
use Rattle.evidence_rules.specs.code.Judgement.{FollowTo}
use Rattle.evidence_rules.proofs.FollowingShapes.{follows-shape}
use Rattle.evidence_rules.proofs.LinesBehind.{behind-first}
use Rattle.engine_states.specs.code.Kinds.{kind_beside, own_kind}
use Rattle.engine_states.specs.code.States.{IsWhole, State}

shaped-at : (version : Version) (known : StoreModel) (before lines : List Line) (last : StoreModel) → FollowTo version known before lines last
    → (n : ℕ) (l : Line) → slice_get lines n ≡ Some l → HasShape l
shaped-at version known before [] last follow n l e = absurd (none-some l e)
shaped-at version known before (line ∷ lines) last (more, follows, rest) zero l e = subst HasShape (same_Some line l e) (follows-shape version known before line more follows)
shaped-at version known before (line ∷ lines) last (more, follows, rest) (suc n) l e = shaped-at version (grown known more) (before ++ line ∷ []) lines last rest n l e

pub shaped : (version : Version) (known : StoreModel) (lines : List Line) (last : StoreModel) → FollowTo version known [] lines last
    → (number : ℕ) (l : Line) → line_of lines number ≡ Some l → HasShape l
shaped version known lines last follow zero l e = absurd (none-some l e)
shaped version known lines last follow (suc n) l e = shaped-at version known [] lines last follow n l (sym (behind-first lines n) ∙ e)

-- what a line says is of the sort of its kind
is-sort : (s : State) → IsWhole s → (number at site : ℕ) (of : LineKind) (outcome : Outcome) → IsLine s.lines number of at site outcome → sort_said outcome ≡ sort_of of
is-sort s whole number at site of outcome is =
    sym (ap sort_said is.outcome_is) ∙ (shaped Two (nothing_made s.known.template s.known.file) s.lines s.known whole.follow number is.line is.stands).said ∙ ap sort_of is.kind_is

rows-of : (outcome : Outcome) → sort_said outcome ≡ sort.Rows → (rows : List Row) × (outcome ≡ says.Rows rows)
rows-of (says.Rows rows) e = (rows, refl)
rows-of (says.Value v) e = absurd cc
rows-of (says.Verdict verdict) e = absurd cc

verdict-of : (outcome : Outcome) → sort_said outcome ≡ sort.Verdict → (verdict : Verdict) × (outcome ≡ says.Verdict verdict)
verdict-of (says.Verdict verdict) e = (verdict, refl)
verdict-of (says.Value v) e = absurd cc
verdict-of (says.Rows rows) e = absurd cc

module _ (s : State) (whole : IsWhole s) where
  pub says-rows : (number at site : ℕ) (of : LineKind) (outcome : Outcome) → sort_of of ≡ sort.Rows → IsLine s.lines number of at site outcome
      → (rows : List Row) × IsLine s.lines number of at site (says.Rows rows)
  says-rows number at site of outcome rows is =
      let it = rows-of outcome (is-sort s whole number at site of outcome is ∙ rows) in
      (it.0, subst (IsLine s.lines number of at site) it.1 is)

  pub says-verdict : (number at site : ℕ) (of : LineKind) (outcome : Outcome) → sort_of of ≡ sort.Verdict → IsLine s.lines number of at site outcome
      → (verdict : Verdict) × IsLine s.lines number of at site (says.Verdict verdict)
  says-verdict number at site of outcome verdict is =
      let it = verdict-of outcome (is-sort s whole number at site of outcome is ∙ verdict) in
      (it.0, subst (IsLine s.lines number of at site) it.1 is)

  -- the line of a part that is found by its site
  pub found-own : (frame site number : ℕ) (of : LineKind) → s.parts frame site ≡ Some number → own_kind (piece_at s.known.file site) ≡ Some of
      → (at : ℕ) × (outcome : Outcome) × (slice_get s.framed frame ≡ Some at) × IsLine s.lines number of at site outcome
  found-own frame site number of e kind_is =
      let it = whole.parts.sound frame site number e in
      (it.0, it.2, it.3, subst (λ (k : LineKind). IsLine s.lines number k it.0 site it.2) (same_Some it.1 of (sym it.4 ∙ kind_is)) it.5)

  -- and the one beside it
  pub found-beside : (frame site number : ℕ) (of : LineKind) → s.beside frame site ≡ Some number → kind_beside (piece_at s.known.file site) ≡ Some of
      → (at : ℕ) × (outcome : Outcome) × (slice_get s.framed frame ≡ Some at) × IsLine s.lines number of at site outcome
  found-beside frame site number of e kind_is =
      let it = whole.beside.sound frame site number e in
      (it.0, it.2, it.3, subst (λ (k : LineKind). IsLine s.lines number k it.0 site it.2) (same_Some it.1 of (sym it.4 ∙ kind_is)) it.5)

  -- those of rows, of verdicts, and of rules
  pub found-rows : (frame site number : ℕ) (of : LineKind) → sort_of of ≡ sort.Rows → s.parts frame site ≡ Some number → own_kind (piece_at s.known.file site) ≡ Some of
      → (at : ℕ) × (rows : List Row) × (slice_get s.framed frame ≡ Some at) × IsLine s.lines number of at site (says.Rows rows)
  found-rows frame site number of rows e kind_is =
      let it = found-own frame site number of e kind_is in
      let said = says-rows number it.0 site of it.1 rows it.3 in
      (it.0, said.0, it.2, said.1)

  pub found-verdict : (frame site number : ℕ) (of : LineKind) → sort_of of ≡ sort.Verdict → s.parts frame site ≡ Some number → own_kind (piece_at s.known.file site) ≡ Some of
      → (at : ℕ) × (verdict : Verdict) × (slice_get s.framed frame ≡ Some at) × IsLine s.lines number of at site (says.Verdict verdict)
  found-verdict frame site number of verdict e kind_is =
      let it = found-own frame site number of e kind_is in
      let said = says-verdict number it.0 site of it.1 verdict it.3 in
      (it.0, said.0, it.2, said.1)

  pub beside-rows : (frame site number : ℕ) (of : LineKind) → sort_of of ≡ sort.Rows → s.beside frame site ≡ Some number → kind_beside (piece_at s.known.file site) ≡ Some of
      → (at : ℕ) × (rows : List Row) × (slice_get s.framed frame ≡ Some at) × IsLine s.lines number of at site (says.Rows rows)
  beside-rows frame site number of rows e kind_is =
      let it = found-beside frame site number of e kind_is in
      let said = says-rows number it.0 site of it.1 rows it.3 in
      (it.0, said.0, it.2, said.1)

  pub rule-verdict : (site number : ℕ) → s.rules site ≡ Some number → (at : ℕ) × (verdict : Verdict) × IsLine s.lines number kind.Rule at site (says.Verdict verdict)
  rule-verdict site number e =
      let it = whole.rules.sound site number e in
      let said = says-verdict number it.0 site kind.Rule it.1 refl it.2 in
      (it.0, said.0, said.1)
