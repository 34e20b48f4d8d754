-- Verdicts that are counted, one more behind others.
use Rattle.std.proofs.Common.{◌≡◌, ℕ, ◌+◌, ◌<◌, ◌≤◌, Bool, List, [], ◌∷◌, ◌++◌, cond, count_by, get_or, length, codes, decimal, refl, take, sym, ap, ◌∙◌}
use Rattle.std.proofs.lemmas.List.{map-append, take_all, take_more}
use Rattle.std.proofs.lemmas.List.Sums.{sum_by-append}
use Rattle.guard_syntax.specs.declared.row.Verdict.{Verdict}
use Rattle.rule_meaning.specs.Verdicts.{is_fail, is_pass, is_skip}
use Rattle.guard_ends.specs.Report.{total_line}
use Rattle.evidence_report.specs.code.VerdictLines.{verdicts_in}
use Rattle.evidence_report.specs.declared.verdict_lines.VerdictLine.{VerdictLine}

module _ (p : Verdict → Bool) (all : List VerdictLine) (i : ℕ) where
  pub one-counted : (d : VerdictLine) (old new : ℕ) → i < length all → old ≡ count_by p (verdicts_in (take i all)) → new ≡ old + count_by p ((get_or all i d).line.verdict ∷ [])
      → new ≡ count_by p (verdicts_in (take (i + 1) all))
  one-counted d old new within were is =
      let v = (get_or all i d).line.verdict in
      let longer : verdicts_in (take (i + 1) all) ≡ verdicts_in (take i all) ++ v ∷ [] =
      ap verdicts_in (take_more all i d within) ∙ map-append (λ (x : VerdictLine). x.line.verdict) (take i all) (get_or all i d ∷ []) in
      is ∙ ap (λ (n : ℕ). n + count_by p (v ∷ [])) were
      ∙ sym (sum_by-append (λ (w : Verdict). cond (p w) 1 0) (verdicts_in (take i all)) (v ∷ []))
      ∙ sym (ap (count_by p) longer)

  pub all-counted : (n : ℕ) → length all ≤ i → n ≡ count_by p (verdicts_in (take i all)) → n ≡ count_by p (verdicts_in all)
  all-counted n past is = is ∙ ap (λ (vs : List VerdictLine). count_by p (verdicts_in vs)) (take_all i all past)

-- the total line, by the counts
pub counts-told : (vs : List Verdict) (pass fail skip : ℕ) → pass ≡ count_by is_pass vs → fail ≡ count_by is_fail vs → skip ≡ count_by is_skip vs
    → codes "total " ++ decimal pass ++ codes " PASS " ++ decimal fail ++ codes " FAIL " ++ decimal skip ++ codes " SKIP\n" ≡ total_line vs
counts-told vs pass fail skip one two three = rw (one, two, three) refl
