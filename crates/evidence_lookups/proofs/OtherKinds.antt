-- A line whose kind is not that of a rule changes nothing in the table of verdicts.
use Rattle.std.proofs.Common.{◌≡◌, ◌+◌, ◌<◌, ℕ, false, inl, inr, sym, ap, ◌∙◌, subst, arith, add-one, List, length, take, Option, Some}
use Rattle.std.specs.Prelude.{option_map}
use Rattle.std.proofs.lemmas.Bool.{true≢false}
use Rattle.std.proofs.lemmas.Option.{slice_get_cases}
use Rattle.evidence_lines.specs.Lines.{line_of}
use Rattle.evidence_lines.specs.code.Said.{kind_at}
use Rattle.evidence_lines.specs.declared.line.Line.{Line}
use Rattle.evidence_lines.specs.declared.line.LineKind.{LineKind}
use Rattle.evidence_lines.specs.declared.line.LineKind.TheVariants as kind
use Rattle.guard_syntax.specs.declared.row.Verdict.{Verdict}
use Rattle.evidence_rules.proofs.LinesBehind.{behind-first, next-line}
use Rattle.evidence_lookups.specs.code.JudgedSites.{AreJudged, is_rule}
use Rattle.evidence_lookups.proofs.VerdictsJudged.{other-kind}

not-ruled : (l : Line) → is_rule (Some l.kind) ≡ false → l.kind ≡ kind.Rule → ⊥
not-ruled l other is = true≢false (sym (ap (λ (k : LineKind). is_rule (Some k)) is) ∙ other)

other-line : (lines : List Line) (n : ℕ) (l : Line) (table : List (Option Verdict)) → line_of lines (n + 1) ≡ Some l → is_rule (kind_at lines (n + 1)) ≡ false
    → AreJudged (take n lines) table → AreJudged (take (n + 1) lines) table
other-line lines n l table stands other judged =
    subst (λ (ls : List Line). AreJudged ls table) (next-line lines n l stands)
    (other-kind (take n lines) l table (not-ruled l (sym (ap (λ (o : Option Line). is_rule (option_map (λ (m : Line). m.kind) o)) stands) ∙ other)) judged)

pub unruled-line : (lines : List Line) (n : ℕ) (table : List (Option Verdict)) → n < length lines → is_rule (kind_at lines (n + 1)) ≡ false
    → AreJudged (take n lines) table → AreJudged (take (n + 1) lines) table
unruled-line lines n table within other judged = elim (slice_get_cases lines n).1 [
  | inl found ↦ other-line lines n found.0 table (ap (line_of lines) (add-one n) ∙ behind-first lines n ∙ found.2) other judged
  | inr past ↦ absurd (omega (arith, within, past.0))
]
