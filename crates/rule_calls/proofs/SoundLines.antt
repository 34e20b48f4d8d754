-- What a report may rely on of the lines of an engine: its store knows what they say, and each tree of the store was made by one of them.
use Rattle.std.proofs.Common.{◌≡◌, ◌↔◌, ℕ, suc, ◌≤◌, nat_le, true, false, is_some, refl, sym, ap, ◌∙◌, subst, arith, List, [], ◌∷◌, length, get_or, Option, Some, None}
use Rattle.std.specs.Prelude.{slice_index_or}
use Rattle.std.proofs.lemmas.Bool.{and_parts, true≢false}
use Rattle.std.proofs.lemmas.Bool.Decides.{nat_tests}
use Rattle.std.proofs.lemmas.List.Elements.{All-cons, All-nil}
use Rattle.std.proofs.lemmas.Option.{same_Some, slice_get-get_or}
use Rattle.evidence_lines.specs.Lines.{line_of}
use Rattle.evidence_lines.specs.declared.line.Line.{Line}
use Rattle.evidence_lines.specs.declared.line.LineKind.TheVariants as kind
use Rattle.evidence_lines.specs.declared.line.Outcome.{Outcome}
use Rattle.evidence_lines.specs.declared.line.Outcome.TheVariants as says
use Rattle.guard_syntax.specs.declared.row.Row.{Row}
use Rattle.guard_syntax.specs.declared.row.Verdict.{Verdict}
use Rattle.rule_meaning.specs.Seeing.{are_called}
use Rattle.rule_meaning.specs.StoreModel.{Made, StoreModel}
use Rattle.evidence_rules.specs.CitedLines.{IsLine}
use Rattle.evidence_rules.proofs.LinesBehind.{behind-first}
use Rattle.evidence_lookups.specs.code.JudgedSites.{AreJudged, AreNoted, IsJudgedAs, IsUnjudged}
use Rattle.evidence_lookups.specs.code.Said.{AreMadeWithin, AreSound, IsSound, is_known_outcome}
use Rattle.engine_states.specs.code.Kinds.{is_frame}
use Rattle.engine_states.specs.code.States.{IsWhole, State}
use Rattle.engine_states.specs.code.States as states
use Rattle.engine_states.proofs.MadeTrees.{called, literal-says}
use Rattle.engine_states.proofs.Shaped.{says-rows}

-- ---- what lines say

-- each knows it in its own words
same-known : (known : StoreModel) (outcome : Outcome) → states.is_known_outcome known outcome ≡ true → is_known_outcome known outcome ≡ true
same-known known (says.Value v) is = is
same-known known (says.Rows rows) is = is
same-known known (says.Verdict verdict) is = is

-- a line says one thing
same-said : (lines : List Line) (number at site : ℕ) (l : Line) (rows : List Row) → line_of lines number ≡ Some l → IsLine lines number kind.Literal at site (says.Rows rows) → l.outcome ≡ says.Rows rows
same-said lines number at site l rows stands is = ap (λ (x : Line). x.outcome) (same_Some l is.line (sym stands ∙ is.stands)) ∙ is.outcome_is

module _ (s : State) (whole : IsWhole s) where
  sound-line : (number : ℕ) (l : Line) → line_of s.lines number ≡ Some l → states.is_known_outcome s.known l.outcome ≡ true → IsSound s.known l
  sound-line number l stands known = record {
    known_is = same-known s.known l.outcome known;
    literal_is = λ site kind_is site_is.
        let plain : is_frame l.kind ≡ false = ap is_frame kind_is in
        let at = whole.placed number l stands plain in
        let is : IsLine s.lines number kind.Literal at.1 site l.outcome =
        record { line = l; stands = stands; kind_is = kind_is; frame_is = at.3; site_is = site_is; outcome_is = refl } in
        let said = says-rows s whole number at.1 site kind.Literal l.outcome refl is in
        same-said s.lines number at.1 site l said.0 stands said.1 ∙ ap (λ (rows : List Row). says.Rows rows) (literal-says s whole number at.1 site said.0 said.1);
  }

  pub sound-lines : AreSound s.known s.lines
  sound-lines n d within =
      sound-line (suc n) (get_or s.lines n d) (behind-first s.lines n ∙ slice_get-get_or s.lines n d within) (whole.known n d within)

-- ---- trees

all-within : (calls : List ℕ) (made : List Made) → are_called calls made ≡ true → AreMadeWithin (length calls) made
all-within calls [] is = All-nil (λ (m : Made). m.line ≤ length calls)
all-within calls (m ∷ made) is =
    let both = and_parts (nat_le m.line (length calls)) (are_called calls made) is in
    let first = both.0 in
    All-cons (λ (x : Made). x.line ≤ length calls) m made (grind (arith, nat_tests, first)) (all-within calls made both.1)

pub made-within : (s : State) → IsWhole s → AreMadeWithin (length s.lines) s.known.made
made-within s whole =
    let it = called s whole in
    subst (λ (n : ℕ). AreMadeWithin n s.known.made) it.1 (all-within it.0 s.known.made it.2)

-- ---- the verdicts that were noted

noted-at : (lines : List Line) (site : ℕ) (o : Option Verdict) → IsJudgedAs lines site o → (is_some o ≡ false) ↔ IsUnjudged lines site
noted-at lines site None none = ((λ e. none), (λ u. refl))
noted-at lines site (Some verdict) said = ((λ e. absurd (true≢false e)), (λ none. absurd (none said.0 said.1 (says.Verdict verdict) said.2)))

pub noted : (lines : List Line) (table : List (Option Verdict)) → AreJudged lines table → AreNoted lines table
noted lines table judged site = noted-at lines site (slice_index_or table site None) (judged site)
