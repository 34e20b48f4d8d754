-- Lines of evidence that are written down one by one, for examples worked out by hand: what holds of each of them, by their numbers.
use Rattle.std.proofs.Common.{◌≡◌, ℕ, zero, suc, ◌==◌, Bool, true, false, ◌&&◌, slice_get, arith, refl, sym, ap, ap₂, ◌∙◌, ◌<◌, subst, List, [], ◌∷◌, Option, Some}
use Rattle.std.specs.Option.{option_map_or}
use Rattle.std.proofs.lemmas.Bool.{true≢false}
use Rattle.std.proofs.lemmas.Bool.Decides.{nat_tests}
use Rattle.std.proofs.lemmas.Option.{same_Some, none-some}
use Rattle.evidence_lines.specs.Lines.{line_of}
use Rattle.evidence_lines.specs.declared.line.Line.{Line}
use Rattle.evidence_lines.specs.declared.line.LineKind.{LineKind}
use Rattle.evidence_lines.specs.declared.line.LineKind.TheVariants as kind
use Rattle.rule_meaning.specs.StoreModel.{StoreModel}
use Rattle.evidence_rules.specs.CitedLines.{IsLine}
use Rattle.evidence_rules.specs.Follows.{IsNewRule}
use Rattle.evidence_rules.proofs.LinesBehind.{behind-first}
use Rattle.evidence_rules.specs.Lean.{IsLean, LineNames}

pub is-line : (lines : List Line) (number : ℕ) (l : Line) (frame site : ℕ) → line_of lines number ≡ Some l → l.frame ≡ Some frame → l.site ≡ Some site
    → IsLine lines number l.kind frame site l.outcome
is-line lines number l frame site stands frame_is site_is =
    record { line = l; stands = stands; kind_is = refl; frame_is = frame_is; site_is = site_is; outcome_is = refl }

-- what holds of each of some lines, by how many stand before it
abbrev pub Each : (ℕ → Line → Type 0) → List Line → Type 0
Each P [] = Unit {0}
Each P (l ∷ ls) = P 0 l × Each (λ n. P (suc n)) ls

each-at : (P : ℕ → Line → Type 0) (ls : List Line) → Each P ls → (n : ℕ) (l : Line) → slice_get ls n ≡ Some l → P n l
each-at P [] all n l stands = absurd (none-some l stands)
each-at P (first ∷ ls) all zero l stands = subst (P 0) (same_Some first l stands) all.0
each-at P (first ∷ ls) all (suc n) l stands = each-at (λ k. P (suc k)) ls all.1 n l stands

pub each-line : (P : ℕ → Line → Type 0) (ls : List Line) → Each P ls → (number : ℕ) (l : Line) → line_of ls number ≡ Some l → (n : ℕ) × (number ≡ suc n) × P n l
each-line P ls all zero l stands = absurd (none-some l stands)
each-line P ls all (suc n) l stands = (n, refl, each-at P ls all n l (sym (behind-first ls n) ∙ stands))

abbrev pub is_rule : LineKind → Bool
is_rule kind.Rule = true
is_rule _ = false

abbrev pub IsNoRule : ℕ → Line → Type 0
IsNoRule n l = is_rule l.kind ≡ false

-- where no line is that of a rule, any rule is new
pub new-rule : (known : StoreModel) (ls : List Line) → Each IsNoRule ls → (site : ℕ) → IsNewRule known ls site
new-rule known ls none site number frame outcome is =
    let other = each-line IsNoRule ls none number is.line is.stands in
    true≢false (sym (ap is_rule is.kind_is) ∙ other.2)

-- and so is one where no line is that of the rule
abbrev pub IsOtherRule : ℕ → ℕ → Line → Type 0
IsOtherRule site n l = is_rule l.kind && option_map_or (λ (s : ℕ). s == site) l.site false ≡ false

pub new-site : (known : StoreModel) (ls : List Line) (site : ℕ) → Each (IsOtherRule site) ls → IsNewRule known ls site
new-site known ls site others number frame outcome is =
    let other = each-line (IsOtherRule site) ls others number is.line is.stands in
    let same : is_rule is.line.kind && option_map_or (λ (s : ℕ). s == site) is.line.site false ≡ (site == site) =
    ap₂ (λ (of : LineKind) (at : Option ℕ). is_rule of && option_map_or (λ (s : ℕ). s == site) at false) is.kind_is is.site_is in
    let equal : (site == site) ≡ true = grind (arith, nat_tests) in
    true≢false (sym equal ∙ sym same ∙ other.2)

-- the number of each line is told by its kind and its site
abbrev pub IsNumbered : (LineKind → Option ℕ → ℕ) → ℕ → Line → Type 0
IsNumbered number_for n l = suc n ≡ number_for l.kind l.site

-- a line but that of a rule is named by a later one
abbrev pub IsUsed : List Line → ℕ → Line → Type 0
IsUsed ls n l = (l.kind ≡ kind.Rule → ⊥) → (at : ℕ) × (other : Line) × (suc n < at) × (line_of ls at ≡ Some other) × LineNames (suc n) other

-- so lines are lean where kind and site tell their numbers, and each is used
pub lean-by : (number_for : LineKind → Option ℕ → ℕ) (ls : List Line) → Each (IsNumbered number_for) ls → Each (IsUsed ls) ls → IsLean ls
lean-by number_for ls numbered used = record {
  apart = λ number at l other stands behind alike.
      let first = each-line (IsNumbered number_for) ls numbered number l stands in
      let second = each-line (IsNumbered number_for) ls numbered at other behind in
      first.1 ∙ first.2 ∙ ap₂ number_for alike.same_kind alike.same_site ∙ sym second.2 ∙ sym second.1;
  used = λ number l stands other.
      let found = each-line (IsUsed ls) ls used number l stands in
      subst (λ (n : ℕ). (at : ℕ) × (later : Line) × (n < at) × (line_of ls at ≡ Some later) × LineNames n later) (sym found.1) (found.2 other);
}
