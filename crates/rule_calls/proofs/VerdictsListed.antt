-- The verdicts that are reported, one rule after another: each rule that was judged has its line, and the line says its verdict.
use Rattle.std.proofs.Common.{◌≡◌, ℕ, refl, sym, ap, ◌∙◌, subst, List, [], ◌∷◌, ◌++◌, Contains, None, Some}
use Rattle.std.proofs.lemmas.List.{append-nil}
use Rattle.std.proofs.lemmas.List.Concat.{flat_map-append}
use Rattle.std.proofs.lemmas.Option.{none-some}
use Rattle.evidence_lines.specs.declared.line.Line.{Line}
use Rattle.evidence_lines.specs.declared.line.LineKind.{LineKind}
use Rattle.evidence_lines.specs.declared.line.LineKind.TheVariants as kind
use Rattle.evidence_lines.specs.declared.line.Outcome.TheVariants as says
use Rattle.guard_syntax.specs.Named.{Named}
use Rattle.guard_syntax.specs.Syntax.{Disj, Disjs, Rule, more_disjs, no_disjs}
use Rattle.guard_syntax.specs.declared.row.Verdict.{Verdict}
use Rattle.evidence_rules.specs.CitedLines.{IsLine}
use Rattle.evidence_rules.specs.Follows.{IsLooseJudged}
use Rattle.engine_states.specs.code.States.{IsWhole, State}
use Rattle.engine_states.proofs.Shaped.{rule-verdict}
use Rattle.rule_calls.specs.code.Reported.{AreVerdicts, SaysRule, if_plain, loose_site, reported_sites, rule_sites, site_of_rule}
use Rattle.rule_calls.specs.code.Turns.{AreAllJudged, IsJudgedWhole}

-- ---- lists

pub verdicts-both : (lines : List Line) (ss ts : List ℕ) (vs ws : List (ℕ × Verdict)) → AreVerdicts lines ss vs → AreVerdicts lines ts ws → AreVerdicts lines (ss ++ ts) (vs ++ ws)
verdicts-both lines [] ts [] ws h k = k
verdicts-both lines [] ts (v ∷ vs) ws h k = absurd h
verdicts-both lines (s ∷ ss) ts [] ws h k = absurd h
verdicts-both lines (s ∷ ss) ts (v ∷ vs) ws h k = (h.0, h.1, verdicts-both lines ss ts vs ws h.2 k)

-- one rule more
plain-site : (site : ℕ) (params : List Named) → params ≡ [] → if_plain site params ≡ site ∷ []
plain-site site params plain = ap (if_plain site) plain

no-site : (site : ℕ) (params : List Named) → (params ≡ [] → ⊥) → if_plain site params ≡ []
no-site site [] some = absurd (some refl)
no-site site (p ∷ ps) some = refl

sites-more : (rules : List Rule) (r : Rule) → rule_sites (rules ++ r ∷ []) ≡ rule_sites rules ++ site_of_rule r
sites-more rules r = flat_map-append site_of_rule rules (r ∷ []) ∙ ap (λ (ss : List ℕ). rule_sites rules ++ ss) (append-nil (site_of_rule r))

pub verdicts-other : (lines : List Line) (rules : List Rule) (r : Rule) (vs : List (ℕ × Verdict)) → (r.params ≡ [] → ⊥) → AreVerdicts lines (rule_sites rules) vs
    → AreVerdicts lines (rule_sites (rules ++ r ∷ [])) vs
verdicts-other lines rules r vs some h =
    subst (λ (ss : List ℕ). AreVerdicts lines ss vs)
    (sym (sites-more rules r ∙ ap (λ (ss : List ℕ). rule_sites rules ++ ss) (no-site r.site r.params some) ∙ append-nil (rule_sites rules))) h

pub verdicts-more : (lines : List Line) (rules : List Rule) (r : Rule) (vs : List (ℕ × Verdict)) (verdict : Verdict) → r.params ≡ [] → SaysRule lines r.site verdict
    → AreVerdicts lines (rule_sites rules) vs → AreVerdicts lines (rule_sites (rules ++ r ∷ [])) (vs ++ (r.site, verdict) ∷ [])
verdicts-more lines rules r vs verdict plain says h =
    subst (λ (ss : List ℕ). AreVerdicts lines ss (vs ++ (r.site, verdict) ∷ []))
    (sym (sites-more rules r ∙ ap (λ (ss : List ℕ). rule_sites rules ++ ss) (plain-site r.site r.params plain)))
    (verdicts-both lines (rule_sites rules) (r.site ∷ []) vs ((r.site, verdict) ∷ []) h (refl, says, tt))

-- ---- lines of rules

module _ (s : State) (whole : IsWhole s) (site number : ℕ) (found : s.rules site ≡ Some number) where
  pub line-says : (of : LineKind) × (at n : ℕ) × (verdict : Verdict) × IsLine s.lines number of at n (says.Verdict verdict)
  line-says = let it = rule-verdict s whole site number found in (kind.Rule, it.0, site, it.1, it.2)

  pub rule-says : (said : Verdict) → ((of : LineKind) (at n : ℕ) (verdict : Verdict) → IsLine s.lines number of at n (says.Verdict verdict) → said ≡ verdict) → SaysRule s.lines site said
  rule-says said told =
      let it = rule-verdict s whole site number found in
      (number, it.0, subst (λ (v : Verdict). IsLine s.lines number kind.Rule it.0 site (says.Verdict v)) (sym (told kind.Rule it.0 site it.1 it.2)) it.2)

pub rule-there : (s : State) → AreAllJudged s → (r : Rule) → Contains s.known.file.rules r → r.params ≡ [] → s.rules r.site ≡ None → ⊥
rule-there s judged r among plain none = let line = judged.lines r among plain in none-some line.0 (sym none ∙ line.1)

-- ---- the parts outside rules

module _ (s : State) (vs : List (ℕ × Verdict)) (h : AreVerdicts s.lines (rule_sites s.known.file.rules) vs) where
  pub verdicts-alone : s.known.file.loose ≡ no_disjs → AreVerdicts s.lines (reported_sites s.known.file) vs
  verdicts-alone none =
      subst (λ (ss : List ℕ). AreVerdicts s.lines ss vs)
      (sym (ap (λ (ds : Disjs). rule_sites s.known.file.rules ++ loose_site ds) none ∙ append-nil (rule_sites s.known.file.rules))) h

  pub verdicts-loose : (first : Disj) (others : Disjs) → s.known.file.loose ≡ more_disjs first others → (verdict : Verdict) → SaysRule s.lines 0 verdict
      → AreVerdicts s.lines (reported_sites s.known.file) (vs ++ (0, verdict) ∷ [])
  verdicts-loose first others some verdict says =
      subst (λ (ss : List ℕ). AreVerdicts s.lines ss (vs ++ (0, verdict) ∷ [])) (sym (ap (λ (ds : Disjs). rule_sites s.known.file.rules ++ loose_site ds) some))
      (verdicts-both s.lines (rule_sites s.known.file.rules) (0 ∷ []) vs ((0, verdict) ∷ []) h (refl, says, tt))

pub loose-there : (s : State) → IsJudgedWhole s → (first : Disj) (others : Disjs) → s.known.file.loose ≡ more_disjs first others → s.rules 0 ≡ None → ⊥
loose-there s judged first others some none =
    let it : IsLooseJudged s.lines (more_disjs first others) = subst (IsLooseJudged s.lines) some judged.loose in
    none-some it.0 (sym none ∙ judged.rules.rests.whole.rules.whole 0 it.0 it.1 (says.Verdict it.2) it.3)
