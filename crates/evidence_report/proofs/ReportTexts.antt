-- The text of the report, by the verdicts that are listed: the lines of each, and the total line.
use Rattle.std.proofs.Common.{◌≡◌, ℕ, List, [], ◌∷◌, ◌++◌, map, refl, ap, ap₂, sym, ◌∙◌, append-nil}
use Rattle.std.specs.List.{flat_map}
use Rattle.evidence_lines.specs.declared.line.Line.{Line}
use Rattle.guard_syntax.specs.declared.row.Verdict.{Verdict}
use Rattle.guard_syntax.specs.declared.row.Verdict.TheVariants as verdict
use Rattle.rule_meaning.specs.Fails.{Entry}
use Rattle.rule_meaning.specs.Locations.{Answers}
use Rattle.rule_meaning.specs.Seeing.{world_of}
use Rattle.rule_meaning.specs.StoreModel.{StoreModel}
use Rattle.report_text.specs.RuleLines.{rule_line}
use Rattle.guard_ends.specs.Report.{lines_of, report, total_line}
use Rattle.guard_ends.specs.Reported.{Reported, if_fail, reported}
use Rattle.report_text.specs.Texts.{Texts}
use Rattle.evidence_report.specs.code.VerdictLines.{see_verdict, verdicts_in}
use Rattle.evidence_report.specs.code.Written.{entry_lines}
use Rattle.evidence_report.specs.declared.verdict_lines.VerdictLine.{VerdictLine}
use Rattle.evidence_report.proofs.Listing.{verdicts-seen}

module _ (known : StoreModel) (lines : List Line) (texts : Texts) where
  -- the lines of one verdict
  abbrev pub verdict_text : VerdictLine → List ℕ
  verdict_text v = lines_of known.file known.template texts (see_verdict known lines v)

  pub texts-alike : (all : List VerdictLine) → flat_map verdict_text all ≡ flat_map (lines_of known.file known.template texts) (map (see_verdict known lines) all)
  texts-alike [] = refl
  texts-alike (v ∷ all) = ap (λ (t : List ℕ). verdict_text v ++ t) (texts-alike all)

  -- the lines of all verdicts, and the total line behind them
  pub whole-text : (answers : Answers) (all xs ys : List VerdictLine) → xs ≡ all → ys ≡ all → map (see_verdict known lines) all ≡ reported (world_of known answers)
      → flat_map (lines_of known.file known.template texts) (map (see_verdict known lines) xs) ++ total_line (verdicts_in ys) ≡ report (world_of known answers) texts
  whole-text answers all xs ys first second are =
      ap₂ (λ (a b : List ℕ). a ++ b) (ap (flat_map (lines_of known.file known.template texts)) (ap (map (see_verdict known lines)) first ∙ are))
      (ap total_line (verdicts-seen known lines ys ∙ ap (map (λ (r : Reported). r.verdict)) (ap (map (see_verdict known lines)) second ∙ are)))

pub not-by-pass : (v : Verdict) → v ≡ verdict.Pass → v ≡ verdict.Fail → ⊥
not-by-pass v is fails = cc

pub not-by-skip : (v : Verdict) → v ≡ verdict.Skip → v ≡ verdict.Fail → ⊥
not-by-skip v is fails = cc

-- a verdict that is not FAIL has its line alone
pub text-alone : (known : StoreModel) (texts : Texts) (name : List ℕ) (v : Verdict) (es : List Entry) → (v ≡ verdict.Fail → ⊥)
    → rule_line name v ≡ rule_line name v ++ entry_lines known texts (if_fail v es)
text-alone known texts name verdict.Pass es other = sym (append-nil (rule_line name verdict.Pass))
text-alone known texts name verdict.Fail es other = absurd (other refl)
text-alone known texts name verdict.Skip es other = sym (append-nil (rule_line name verdict.Skip))

-- one that is FAIL has the lines of its entries behind it
pub text-under : (known : StoreModel) (texts : Texts) (name : List ℕ) (v : Verdict) (es : List Entry) → v ≡ verdict.Fail
    → rule_line name v ++ entry_lines known texts es ≡ rule_line name v ++ entry_lines known texts (if_fail v es)
text-under known texts name v es fails = ap (λ (w : Verdict). rule_line name v ++ entry_lines known texts (if_fail w es)) (sym fails)
