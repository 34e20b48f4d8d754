-- What holds behind one line more, where it follows.
use Rattle.std.proofs.Common.{◌≡◌, ℕ, suc, ◌+◌, ◌<◌, ◌≤◌, sym, ap, ◌∙◌, subst, arith, add-one, List, [], ◌∷◌, ◌++◌, length, map, take, Option, Some}
use Rattle.std.proofs.lemmas.List.{length-take-le, take_all}
use Rattle.std.proofs.lemmas.Option.{slice_get_within}
use Rattle.evidence_lines.specs.Lines.{line_of}
use Rattle.evidence_lines.specs.Shapes.{HasShape}
use Rattle.evidence_lines.specs.declared.line.Line.{Line}
use Rattle.evidence_lines.specs.declared.version.Version.{Version}
use Rattle.guard_syntax.specs.code.Seen.{see_file}
use Rattle.guard_syntax.specs.declared.row.Verdict.{Verdict}
use Rattle.guard_syntax.specs.declared.syntax.RawFile.{RawFile}
use Rattle.rule_names.specs.Pieces.{AreInOrder}
use Rattle.guard_builtins.specs.code.Seen.{see_made}
use Rattle.guard_builtins.specs.declared.made.Made as types
use Rattle.rule_meaning.specs.Seeing.{grown, trees_kept}
use Rattle.rule_meaning.specs.StoreModel.{Made, StoreModel}
use Rattle.evidence_rules.specs.Follows.{AllFollow, Follows}
use Rattle.evidence_rules.proofs.FollowingShapes.{follows-shape}
use Rattle.evidence_rules.proofs.LinesBehind.{line-there, next-line}
use Rattle.evidence_lookups.specs.code.JudgedSites.{AreJudged}
use Rattle.evidence_lookups.specs.code.Said.{AreMadeWithin, AreSound, IsSound}
use Rattle.evidence_rows.specs.code.Makes.{Makes, trees_of}
use Rattle.evidence_rows.proofs.KeptTrees.{within-grown}
use Rattle.evidence_checker.specs.code.Judging.{IsFaultAt, IsKnownBehind, Leads}
use Rattle.evidence_checker.proofs.KnownBehind.{all-follow, behind-more, stuck}
use Rattle.evidence_checker.proofs.LinesFollowing.{sited-within}
use Rattle.evidence_checker.proofs.SoundLines.{sound-behind}

-- lines before one, as they are passed on
module _ (lines seen : List Line) (before : ℕ) (line : Line) (stands : line_of lines (before + 1) ≡ Some line) (seen_is : seen ≡ take before lines) where
  within : before < length lines
  within = slice_get_within lines before line (line-there lines before line stands)

  pub one-more : seen ++ line ∷ [] ≡ take (before + 1) lines
  one-more = ap (λ (ls : List Line). ls ++ line ∷ []) seen_is ∙ next-line lines before line stands

  pub counted : length seen ≡ before
  counted = ap length seen_is ∙ length-take-le before lines (omega (arith, within))

  module _ (version : Version) (start known : StoreModel) (behind : IsKnownBehind version start (take before lines) known) where
    behind_seen : IsKnownBehind version start seen known
    behind_seen = subst (λ (ls : List Line). IsKnownBehind version start ls known) (sym seen_is) behind

    pub fault-here : ((more : List Made) → Follows version known seen line more → ⊥) → IsFaultAt version start lines (before + 1)
    fault-here never = (
      before,
      add-one before,
      omega (arith, within),
      subst (AllFollow version start []) seen_is (all-follow version start seen known behind_seen),
      λ follow. stuck version start seen known behind_seen line never (subst (AllFollow version start []) (sym one-more) follow),
    )

    module _ (after : StoreModel) (leads : Leads (Follows version known seen line) known after) where
      pub known-on : IsKnownBehind version start (take (before + 1) lines) after
      known-on = subst (λ (ls : List Line). IsKnownBehind version start ls after) one-more (behind-more version start seen known behind_seen line after leads)

      pub file-on : after.file ≡ known.file
      file-on = ap (λ (k : StoreModel). k.file) leads.2

      pub shape-here : HasShape line
      shape-here = follows-shape version known seen line leads.0 leads.1

      pub judged-on : (table : List (Option Verdict)) → AreJudged (seen ++ line ∷ []) table → AreJudged (take (before + 1) lines) table
      judged-on table judged = subst (λ (ls : List Line). AreJudged ls table) one-more judged

      pub sound-on : AreSound known (take before lines) → IsSound after line → AreSound after (take (before + 1) lines)
      sound-on sound new =
          subst (AreSound after) one-more (sound-behind known after leads.0 seen line leads.2 (subst (AreSound known) (sym seen_is) sound) new)

      pub site-here : (f : RawFile) → AreInOrder (see_file f) → known.file ≡ see_file f → (site : ℕ) → line.site ≡ Some site → site < length f.places
      site-here f ordered file_is site site_is = sited-within version f ordered known file_is seen line site leads.0 leads.1 site_is

  -- what is known once the answer of the line is kept
  module _ (known after : StoreModel) (answer : List types.Made) (kept : after ≡ grown known (trees_kept (before + 1) 0 (map see_made answer))) where
    pub made-on : AreMadeWithin before known.made → AreMadeWithin (before + 1) after.made
    made-on early =
        subst (λ (k : StoreModel). AreMadeWithin (before + 1) k.made) (sym kept)
        (subst (λ (n : ℕ). AreMadeWithin n (grown known (trees_kept n 0 (map see_made answer))).made) (sym (add-one before)) (within-grown before known (map see_made answer) early))

    grown-here : after ≡ grown known (trees_of seen answer)
    grown-here = kept ∙ ap (λ (n : ℕ). grown known (trees_kept n 0 (map see_made answer))) (add-one before ∙ ap suc (sym counted))

    module _ (version : Version) (made : Makes known seen (Follows version known seen line) (λ (k : StoreModel). IsSound k line) answer) where
      pub leads-here : Leads (Follows version known seen line) known after
      leads-here = (trees_of seen answer, made.holds, grown-here, made.only)

      pub sound-here : IsSound after line
      sound-here = subst (λ (k : StoreModel). IsSound k line) (sym grown-here) made.so

-- behind the last
pub all-behind : (version : Version) (start known : StoreModel) (lines : List Line) (before : ℕ) → length lines ≤ before → IsKnownBehind version start (take before lines) known → AllFollow version start [] lines
all-behind version start known lines before past behind = subst (AllFollow version start []) (take_all before lines past) (all-follow version start (take before lines) known behind)

pub all-judged : (lines : List Line) (before : ℕ) (table : List (Option Verdict)) → length lines ≤ before → AreJudged (take before lines) table → AreJudged lines table
all-judged lines before table past judged = subst (λ (ls : List Line). AreJudged ls table) (take_all before lines past) judged
