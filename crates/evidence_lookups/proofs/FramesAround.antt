-- Frames around frames, a step at a time.
use Rattle.std.proofs.Common.{◌≡◌, ℕ, suc, true, false, List, length, Option, Some, None, refl, ap, sym, ◌∙◌, is_some, option_map, true≢false}
use Rattle.std.specs.Prelude.{option_and_then}
use Rattle.std.proofs.lemmas.Option.{none-some, same_Some}
use Rattle.evidence_lines.specs.Lines.{line_of}
use Rattle.evidence_lines.specs.code.Said.{place_at, place_of}
use Rattle.evidence_lines.specs.declared.line.Line.{Line}
use Rattle.evidence_lines.specs.declared.line.LineKind.{LineKind}
use Rattle.evidence_lines.specs.declared.line.LineKind.TheVariants as kind
use Rattle.evidence_lines.specs.declared.line.LinePlace.{LinePlace}
use Rattle.guard_syntax.specs.Syntax.{File, Exprs}
use Rattle.evidence_rules.specs.CitedLines.{around_site, file_frame, outer_frame, outwards, past_frame}

module _ (file : File) (lines : List Line) where
  -- around a called body
  pub around-call : (frame : ℕ) (field : Option ℕ) (args : Option Exprs) → is_some args ≡ true → file_frame file lines (length lines) frame ≡ around_site file lines frame field args
  around-call frame field None there = absurd (true≢false (sym there))
  around-call frame field (Some args) there = refl

  -- and around any other
  pub around-other : (frame : ℕ) (field : Option ℕ) (args : Option Exprs) → is_some args ≡ false → field ≡ around_site file lines frame field args
  around-other frame field None there = refl
  around-other frame field (Some args) there = absurd (true≢false there)

  pub outwards-on : (n m at next : ℕ) → n ≡ suc m → Some next ≡ outer_frame file lines at → outwards file lines m next ≡ outwards file lines n at
  outwards-on n m at next more is =
      ap (λ (o : Option ℕ). option_and_then (outwards file lines m) o) is ∙ sym (ap (λ (k : ℕ). outwards file lines k at) more)

  pub outwards-off : (n m at : ℕ) → n ≡ suc m → None ≡ outer_frame file lines at → None ≡ outwards file lines n at
  outwards-off n m at more is =
      ap (λ (o : Option ℕ). option_and_then (outwards file lines m) o) is ∙ sym (ap (λ (k : ℕ). outwards file lines k at) more)

  -- the frame field of a line on the way to the file's, by the line's place
  further-in : (further : ℕ → Option ℕ) (at : ℕ) (o : Option Line) (place : LinePlace) → Some place ≡ option_map place_of o
      → past_frame file lines further at place.kind place.frame ≡ option_and_then (λ (l : Line). past_frame file lines further at l.kind l.frame) o
  further-in further at None place is = absurd (none-some place (sym is))
  further-in further at (Some line) place is = ap (λ (p : LinePlace). past_frame file lines further at p.kind p.frame) (same_Some place (place_of line) is)

  none-in : (further : ℕ → Option ℕ) (at : ℕ) (o : Option Line) → None ≡ option_map place_of o → None ≡ option_and_then (λ (l : Line). past_frame file lines further at l.kind l.frame) o
  none-in further at None none = refl
  none-in further at (Some line) none = absurd (none-some (place_of line) none)

  pub no-further : (n m at : ℕ) → n ≡ suc m → None ≡ place_at lines at → None ≡ file_frame file lines n at
  no-further n m at more none = none-in (file_frame file lines m) at (line_of lines at) none ∙ sym (ap (λ (k : ℕ). file_frame file lines k at) more)

  -- and so by its kind and its frame
  pub by-fields : (n m at : ℕ) (place : LinePlace) (of : LineKind) (field : Option ℕ) → n ≡ suc m → Some place ≡ place_at lines at → place.kind ≡ of → place.frame ≡ field
      → past_frame file lines (file_frame file lines m) at of field ≡ file_frame file lines n at
  by-fields n m at place of field more is kind_is field_is =
      ap (λ (k : LineKind). past_frame file lines (file_frame file lines m) at k field) (sym kind_is)
      ∙ ap (λ (o : Option ℕ). past_frame file lines (file_frame file lines m) at place.kind o) (sym field_is)
      ∙ further-in (file_frame file lines m) at (line_of lines at) place is ∙ sym (ap (λ (k : ℕ). file_frame file lines k at) more)

  -- only the file and frames are on the way
  pub other-kind : (of : LineKind) (further : ℕ → Option ℕ) (at : ℕ) (field : Option ℕ) → (of ≡ kind.File → ⊥) → (of ≡ kind.Frame → ⊥) → None ≡ past_frame file lines further at of field
  other-kind kind.File further at field no_file no_frame = absurd (no_file refl)
  other-kind kind.Frame further at field no_file no_frame = absurd (no_frame refl)
  other-kind kind.Literal further at field no_file no_frame = refl
  other-kind kind.Found further at field no_file no_frame = refl
  other-kind kind.Fn further at field no_file no_frame = refl
  other-kind kind.Step further at field no_file no_frame = refl
  other-kind kind.Filter further at field no_file no_frame = refl
  other-kind kind.Keys further at field no_file no_frame = refl
  other-kind kind.Capture further at field no_file no_frame = refl
  other-kind kind.Types further at field no_file no_frame = refl
  other-kind kind.Test further at field no_file no_frame = refl
  other-kind kind.Refer further at field no_file no_frame = refl
  other-kind kind.Call further at field no_file no_frame = refl
  other-kind kind.Disj further at field no_file no_frame = refl
  other-kind kind.Conj further at field no_file no_frame = refl
  other-kind kind.When further at field no_file no_frame = refl
  other-kind kind.Block further at field no_file no_frame = refl
  other-kind kind.Kinds further at field no_file no_frame = refl
  other-kind kind.Rule further at field no_file no_frame = refl
