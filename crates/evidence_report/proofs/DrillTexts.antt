-- The report of a drill, by the verdicts that are listed: the line of each alone, how many entries there are, and the total line. By induction on the list of verdicts.
use Rattle.std.proofs.Common.{◌≡◌, ℕ, ◌+◌, ◌<◌, ◌≤◌, List, [], ◌∷◌, ◌++◌, codes, decimal, get_or, length, map, take, refl, ap, sym, ◌∙◌}
use Rattle.std.specs.List.{flat_map}
use Rattle.std.proofs.lemmas.List.{flat_map_more, map-append, take_all, take_more}
use Rattle.evidence_lines.specs.declared.line.Line.{Line}
use Rattle.guard_syntax.specs.declared.row.Verdict.{Verdict}
use Rattle.rule_meaning.specs.Locations.{Answers}
use Rattle.rule_meaning.specs.Seeing.{world_of}
use Rattle.rule_meaning.specs.StoreModel.{StoreModel}
use Rattle.report_text.specs.Texts.{Texts}
use Rattle.guard_ends.specs.Drill.{drill_report, fail_count, verdict_line}
use Rattle.guard_ends.specs.Report.{total_line}
use Rattle.guard_ends.specs.Reported.{Reported, reported, verdicts_of}
use Rattle.evidence_report.specs.code.VerdictLines.{heading, see_verdict, verdicts_in}
use Rattle.evidence_report.specs.declared.verdict_lines.VerdictLine.{VerdictLine}
use Rattle.evidence_report.proofs.Listing.{verdicts-seen}

-- ---- the line of each

module _ (all : List VerdictLine) (i : ℕ) where
  pub headings-more : (d : VerdictLine) (start old new : List ℕ) → i < length all → old ≡ start ++ flat_map heading (take i all) → new ≡ old ++ heading (get_or all i d)
      → new ≡ start ++ flat_map heading (take (i + 1) all)
  headings-more d start old new within were is =
      is ∙ ap (λ (t : List ℕ). t ++ heading (get_or all i d)) were ∙ flat_map_more heading start (take i all) (get_or all i d)
      ∙ ap (λ (vs : List VerdictLine). start ++ flat_map heading vs) (sym (take_more all i d within))

  pub headings-all : (start text : List ℕ) → length all ≤ i → text ≡ start ++ flat_map heading (take i all) → text ≡ start ++ flat_map heading all
  headings-all start text past is = is ∙ ap (λ (vs : List VerdictLine). start ++ flat_map heading vs) (take_all i all past)

  -- and the verdict of each
  pub verdicts-more : (d : VerdictLine) (old new : List Verdict) → i < length all → old ≡ verdicts_in (take i all) → new ≡ old ++ (get_or all i d).line.verdict ∷ []
      → new ≡ verdicts_in (take (i + 1) all)
  verdicts-more d old new within were is =
      is ∙ ap (λ (vs : List Verdict). vs ++ (get_or all i d).line.verdict ∷ []) were
      ∙ sym (map-append (λ (v : VerdictLine). v.line.verdict) (take i all) (get_or all i d ∷ []))
      ∙ ap verdicts_in (sym (take_more all i d within))

  pub verdicts-all : (vs : List Verdict) → length all ≤ i → vs ≡ verdicts_in (take i all) → vs ≡ verdicts_in all
  verdicts-all vs past is = is ∙ ap verdicts_in (take_all i all past)

-- ---- the parts of the text

pub text-made : (none first second third all a h b t : List ℕ) → none ≡ [] → first ≡ none ++ a → second ≡ first ++ h → third ≡ second ++ b → all ≡ third ++ t → all ≡ a ++ h ++ b ++ t
text-made none first second third all a h b t empty one two three four =
    four
    ∙ ap (λ (x : List ℕ). x ++ t) (three ∙ ap (λ (x : List ℕ). x ++ b) (two ∙ ap (λ (x : List ℕ). x ++ h) (one ∙ ap (λ (x : List ℕ). x ++ a) empty)))

-- ---- what is reported

drill-alike : (count a b : ℕ) (xs ys t u : List ℕ) → a ≡ b → xs ≡ ys → t ≡ u
    → (codes "drill " ++ decimal count ++ codes "\n") ++ xs ++ (codes "fails " ++ decimal a ++ codes "\n") ++ t
    ≡ (codes "drill " ++ decimal count ++ codes "\n") ++ ys ++ (codes "fails " ++ decimal b ++ codes "\n") ++ u
drill-alike count a b xs ys t u one two three = rw (one, two, three) refl

module _ (known : StoreModel) (lines : List Line) where
  headings-seen : (all : List VerdictLine) → flat_map heading all ≡ flat_map verdict_line (map (see_verdict known lines) all)
  headings-seen [] = refl
  headings-seen (v ∷ all) = ap (λ (t : List ℕ). heading v ++ t) (headings-seen all)

  module _ (answers : Answers) (all : List VerdictLine) (are : map (see_verdict known lines) all ≡ reported (world_of known answers)) where
    pub verdicts-told : verdicts_in all ≡ verdicts_of (world_of known answers)
    verdicts-told = verdicts-seen known lines all ∙ ap (map (λ (r : Reported). r.verdict)) are

    headings-told : flat_map heading all ≡ flat_map verdict_line (reported (world_of known answers))
    headings-told = headings-seen all ∙ ap (flat_map verdict_line) are

    pub drill-told : (texts : Texts) (count entries : ℕ) (xs ys : List VerdictLine) → xs ≡ all → ys ≡ all → entries ≡ fail_count (map (see_verdict known lines) xs)
        → (codes "drill " ++ decimal count ++ codes "\n") ++ flat_map heading ys ++ (codes "fails " ++ decimal entries ++ codes "\n") ++ total_line (verdicts_in ys)
        ≡ drill_report count (world_of known answers) texts
    drill-told texts count entries xs ys first second counted =
        drill-alike count entries (fail_count (reported (world_of known answers))) (flat_map heading ys) (flat_map verdict_line (reported (world_of known answers))) (total_line (verdicts_in ys))
        (total_line (verdicts_of (world_of known answers)))
        (counted ∙ ap (λ (vs : List VerdictLine). fail_count (map (see_verdict known lines) vs)) first ∙ ap fail_count are)
        (ap (flat_map heading) second ∙ headings-told) (ap (λ (vs : List VerdictLine). total_line (verdicts_in vs)) second ∙ ap total_line verdicts-told)
