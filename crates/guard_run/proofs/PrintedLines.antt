-- Evidence that is printed line by line.
use Rattle.std.proofs.Common.{◌≡◌, ℕ, ◌+◌, List, [], ◌∷◌, ◌++◌, slice_get, take, All, Some, ap, subst, ◌∙◌}
use Rattle.std.proofs.lemmas.List.{flat_map_more}
use Rattle.std.proofs.lemmas.List.Elements.{All-append, All-cons, All-nil}
use Rattle.std.proofs.lemmas.Option.{get_or_from_slice_get, slice_get_within}
use Rattle.evidence_lines.specs.Headers.{header}
use Rattle.evidence_lines.specs.Lines.{line_of}
use Rattle.evidence_lines.specs.Shapes.{HasShape, IsBounded, IsInFormat}
use Rattle.evidence_lines.specs.declared.line.Line.{Line}
use Rattle.evidence_lines.specs.declared.version.Version.{Version}
use Rattle.evidence_text.specs.Spelling.{line_text}
use Rattle.evidence_text.specs.Text.{evidence_text}
use Rattle.doc_values.specs.Tree.{Forest}
use Rattle.guard_syntax.specs.Syntax.{File}
use Rattle.rule_meaning.specs.Seeing.{grown}
use Rattle.rule_meaning.specs.StoreModel.{StoreModel}
use Rattle.evidence_rules.specs.Follows.{Accepts, AllFollow, nothing_made}
use Rattle.evidence_rules.proofs.FollowingShapes.{follows-shape}
use Rattle.evidence_rules.proofs.LinesBehind.{line-there, next-line}

module _ (version : Version) (lines : List Line) (i : ℕ) (l : Line) (stands : line_of lines (i + 1) ≡ Some l) where
  -- one line more
  pub text-more : (before after : List ℕ) → before ≡ evidence_text version (take i lines) → after ≡ before ++ line_text l → after ≡ evidence_text version (take (i + 1) lines)
  text-more before after printed more =
      more ∙ ap (λ (t : List ℕ). t ++ line_text l) printed ∙ flat_map_more line_text (header version) (take i lines) l
      ∙ ap (λ (ls : List Line). evidence_text version ls) (next-line lines i l stands)

  pub shape-here : All HasShape lines → HasShape l
  shape-here shapes =
      let there : slice_get lines i ≡ Some l = line-there lines i l stands in
      subst HasShape (get_or_from_slice_get lines i l l there) (shapes i l (slice_get_within lines i l there))

  pub format-more : All HasShape lines → All IsInFormat (take i lines) → IsBounded l → All IsInFormat (take (i + 1) lines)
  format-more shapes all bounds = subst (All IsInFormat) (next-line lines i l stands) (All-append IsInFormat (take i lines) (l ∷ []) all
      (All-cons IsInFormat l [] (record { shape = shape-here shapes; bounds = bounds }) (All-nil IsInFormat)))

-- ---- lines that follow have the fields of their kinds

follow-shapes : (version : Version) (known : StoreModel) (before lines : List Line) → AllFollow version known before lines → All HasShape lines
follow-shapes version known before [] follow = All-nil HasShape
follow-shapes version known before (line ∷ lines) (more, follows, others) =
    All-cons HasShape line lines (follows-shape version known before line more follows) (follow-shapes version (grown known more) (before ++ line ∷ []) lines others)

pub accepted-shapes : (version : Version) (template : Forest) (rules : File) (lines : List Line) → Accepts version template rules lines → All HasShape lines
accepted-shapes version template rules lines accepts = follow-shapes version (nothing_made template rules) [] lines accepts.follow
