-- The count that stands under a verdict, by the counts of all lines.
use Rattle.std.proofs.Common.{◌≡◌, ℕ, zero, suc, Bool, true, false, List, [], length, Option, Some, sym, ap, ◌∙◌, arith, if◌then◌else◌}
use Rattle.std.specs.Option.{option_map_or}
use Rattle.std.proofs.lemmas.Option.{none-some}
use Rattle.evidence_lines.specs.Lines.{line_of}
use Rattle.evidence_lines.specs.declared.line.Line.{Line}
use Rattle.guard_syntax.specs.declared.row.Verdict.{Verdict}
use Rattle.guard_syntax.specs.declared.row.Verdict.TheVariants as verdict
use Rattle.rule_meaning.specs.Seeing.{call_at}
use Rattle.rule_meaning.specs.StoreModel.{StoreModel}
use Rattle.rule_meaning.specs.Verdicts.{is_fail}
use Rattle.evidence_truth.specs.code.LineFails.{is_failing, line_fails, says_fail}
use Rattle.guard_ends.specs.Reported.{if_fail}
use Rattle.evidence_report.specs.code.Counts.{AreCounts, counted}
use Rattle.evidence_report.specs.code.RuleTables.{IsRuleLine}
use Rattle.evidence_report.specs.code.VerdictLines.{see_verdict}
use Rattle.evidence_report.specs.declared.verdict_lines.VerdictLine.{VerdictLine}
use Rattle.evidence_leads.proofs.EarlierCites.{number-within}

-- a verdict that stands for what is past the end of a list
abbrev pub past_verdict : VerdictLine
past_verdict = record { name = record { ref_ptr = (0, 0); now = [] }; line = record { site = 0; number = 0; verdict = verdict.Pass } }

module _ (known : StoreModel) (lines : List Line) (counts : List ℕ) (are : AreCounts known lines counts) (all : length counts ≡ length lines) where
  counted-at : (number result : ℕ) (l : Line) → line_of lines number ≡ Some l → is_failing known lines number ≡ true → result ≡ call_at counts number → result ≡ counted (line_fails known lines number number)
  counted-at zero result l stands failing says = absurd (none-some l stands)
  counted-at (suc n) result l stands failing says =
      let within = number-within lines (suc n) l stands in
      says ∙ are n (omega (arith, within, all)) ∙ ap (λ (b : Bool). if b then counted (line_fails known lines (suc n) (suc n)) else 0) failing

  pub counted-under : (v : VerdictLine) (result : ℕ) → IsRuleLine lines v.line → v.line.verdict ≡ verdict.Fail → result ≡ call_at counts v.line.number
      → result ≡ counted (see_verdict known lines v).fails
  counted-under v result (frame, is) fails says =
      let failing : is_failing known lines v.line.number ≡ true =
      ap (λ (o : Option Line). option_map_or (λ (l : Line). says_fail l.outcome) o false) is.stands ∙ ap says_fail is.outcome_is ∙ ap is_fail fails in
      counted-at v.line.number result is.line is.stands failing says
      ∙ ap (λ (w : Verdict). counted (if_fail w (line_fails known lines v.line.number v.line.number))) (sym fails)
