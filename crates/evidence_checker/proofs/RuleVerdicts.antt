-- The verdicts of the rules of a file, one after another, and whether one is new.
use Rattle.std.proofs.Common.{◌≡◌, ◌↔◌, ℕ, zero, suc, refl, sym, ap, ◌∙◌, subst, inl, inr, arith, Contains, get_or, List, [], ◌∷◌, ◌++◌, length, map, drop, drop-cons, add-one, append_assoc, ◌<◌, ◌≤◌, ◌+◌, Bool, true, false, Option, Some, None, is_some, not, MatchBool}
use Rattle.std.proofs.lemmas.Bool.{true≢false}
use Rattle.std.proofs.lemmas.List.{drop_all, get_or-map, length-map}
use Rattle.evidence_lines.specs.declared.line.Line.{Line}
use Rattle.evidence_lines.specs.declared.line.Outcome.TheVariants as says
use Rattle.guard_syntax.specs.code.Seen.{disj_list, see_disj, see_rule}
use Rattle.guard_syntax.specs.declared.syntax.Disj.{Disj as HeldDisj}
use Rattle.guard_syntax.specs.declared.syntax.Rule.{Rule as BookCovers}
use Rattle.guard_syntax.specs.Named.{Named}
use Rattle.guard_syntax.specs.Syntax.{Rule, Disjs, no_disjs, more_disjs}
use Rattle.guard_syntax.specs.declared.row.Verdict.{Verdict}
use Rattle.rule_meaning.specs.StoreModel.{StoreModel}
use Rattle.evidence_rules.specs.Follows.{IsJudged, IsLooseJudged, IsNewRule}
use Rattle.evidence_rules.specs.RuleLines.{AreFrom, AreOfLoose, AreOfRules, IsSaidOf}
use Rattle.evidence_lookups.specs.code.JudgedSites.{AreJudged, AreNoted, IsJudgedAs, IsUnjudged}
use Rattle.evidence_checker.specs.code.Judging.{IsLooseWanting, IsRuleWanting, IsWanting}

-- a rule without parameters has the first verdict
from-none : (params : List Named) (Is : Verdict → Type 0) (AreOthers : List Verdict → Type 0) (verdict : Verdict) (verdicts : List Verdict)
    → params ≡ [] → Is verdict → AreOthers verdicts → AreFrom params Is AreOthers (verdict ∷ verdicts)
from-none params Is AreOthers verdict verdicts none is others = subst (λ (ps : List Named). AreFrom ps Is AreOthers (verdict ∷ verdicts)) (sym none) (is, others)

-- one with parameters has none
from-some : (params : List Named) (Is : Verdict → Type 0) (AreOthers : List Verdict → Type 0) (verdicts : List Verdict)
    → (params ≡ [] → ⊥) → AreOthers verdicts → AreFrom params Is AreOthers verdicts
from-some [] Is AreOthers verdicts some others = absurd (some refl)
from-some (p ∷ params) Is AreOthers verdicts some others = others

module _ (lines : List Line) where
  pub rule-verdict : (r : Rule) (rules : List Rule) (loose : Disjs) (verdict : Verdict) (verdicts : List Verdict) → r.params ≡ [] → IsSaidOf lines r.site verdict
      → AreOfRules lines rules loose verdicts → AreOfRules lines (r ∷ rules) loose (verdict ∷ verdicts)
  rule-verdict r rules loose verdict verdicts none said others = from-none r.params (IsSaidOf lines r.site) (AreOfRules lines rules loose) verdict verdicts none said others

  pub no-verdict : (r : Rule) (rules : List Rule) (loose : Disjs) (verdicts : List Verdict) → (r.params ≡ [] → ⊥)
      → AreOfRules lines rules loose verdicts → AreOfRules lines (r ∷ rules) loose verdicts
  no-verdict r rules loose verdicts some others = from-some r.params (IsSaidOf lines r.site) (AreOfRules lines rules loose) verdicts some others

  -- where verdicts are said of all rules, each has its line
  from-split : (params : List Named) (Is : Verdict → Type 0) (AreOthers : List Verdict → Type 0) (verdicts : List Verdict) → AreFrom params Is AreOthers verdicts
      → (params ≡ [] → (verdict : Verdict) × Is verdict) × ((others : List Verdict) × AreOthers others)
  from-split [] Is AreOthers [] from = absurd from
  from-split [] Is AreOthers (verdict ∷ verdicts) from = ((λ _. (verdict, from.0)), (verdicts, from.1))
  from-split (p ∷ params) Is AreOthers verdicts from = ((λ none. absurd cc), (verdicts, from))

  judged-by : (site : ℕ) (verdict : Verdict) → IsSaidOf lines site verdict → IsJudged lines site
  judged-by site verdict said = (said.0, said.1, verdict, said.2)

  pub rules-judged : (rules : List Rule) (loose : Disjs) (verdicts : List Verdict) → AreOfRules lines rules loose verdicts → (r : Rule) → Contains rules r → r.params ≡ [] → IsJudged lines r.site
  rules-judged [] loose verdicts are r among none = absurd (let e = among.1 in omega (arith, e))
  rules-judged (first ∷ rules) loose verdicts are r among none =
      let split = from-split first.params (IsSaidOf lines first.site) (AreOfRules lines rules loose) verdicts are in
      by among.0 among.1 among.2 split.0 (λ k within is. rules-judged rules loose split.1.0 split.1.1 r (k, within, is) none)
    where
      by : (k : ℕ) → k < length (first ∷ rules) → get_or (first ∷ rules) k r ≡ r → (first.params ≡ [] → (verdict : Verdict) × IsSaidOf lines first.site verdict)
          → ((n : ℕ) → n < length rules → get_or rules n r ≡ r → IsJudged lines r.site) → IsJudged lines r.site
      by zero within is said others =
          let own = said (ap (λ (x : Rule). x.params) is ∙ none) in
          subst (λ (x : Rule). IsJudged lines x.site) is (judged-by first.site own.0 own.1)
      by (suc k) within is said others = others k (omega arith) is

  loose-by : (loose : Disjs) (verdicts : List Verdict) → AreOfLoose lines loose verdicts → IsLooseJudged lines loose
  loose-by no_disjs verdicts are = tt
  loose-by (more_disjs d ds) [] are = absurd are
  loose-by (more_disjs d ds) (verdict ∷ []) are = judged-by 0 verdict are
  loose-by (more_disjs d ds) (verdict ∷ other ∷ verdicts) are = absurd are

  pub loose-judged : (rules : List Rule) (loose : Disjs) (verdicts : List Verdict) → AreOfRules lines rules loose verdicts → IsLooseJudged lines loose
  loose-judged [] loose verdicts are = loose-by loose verdicts are
  loose-judged (first ∷ rules) loose verdicts are =
      let split = from-split first.params (IsSaidOf lines first.site) (AreOfRules lines rules loose) verdicts are in
      loose-judged rules loose split.1.0 split.1.1

  -- and where one is wanting, they are not judged
  not-judged : (site : ℕ) → IsUnjudged lines site → IsJudged lines site → ⊥
  not-judged site none judged = none judged.0 judged.1 _ judged.3

  loose-wanting : (loose : Disjs) → IsLooseWanting lines loose → IsLooseJudged lines loose → ⊥
  loose-wanting no_disjs wanting judged = wanting
  loose-wanting (more_disjs d ds) wanting judged = not-judged 0 wanting judged

  pub not-all : (rules : List Rule) (loose : Disjs) → IsWanting lines rules loose → ((r : Rule) → Contains rules r → r.params ≡ [] → IsJudged lines r.site) → IsLooseJudged lines loose → ⊥
  not-all rules loose wanting all last = elim wanting [
    | inl (r, among, none, unjudged) ↦ not-judged r.site unjudged (all r among none)
    | inr unjudged ↦ loose-wanting loose unjudged last
  ]

  -- ---- rules as the code has them, one after another

  step-on : (rs : List BookCovers) (i : ℕ) (r : BookCovers) (loose : Disjs) (verdicts : List Verdict) → i < length rs → r ≡ get_or rs i r
      → AreOfRules lines (see_rule r ∷ map see_rule (drop (i + 1) rs)) loose verdicts → AreOfRules lines (map see_rule (drop i rs)) loose verdicts
  step-on rs i r loose verdicts within is are =
      subst (λ (xs : List BookCovers). AreOfRules lines (map see_rule xs) loose verdicts)
      (ap (λ (x : BookCovers). x ∷ drop (i + 1) rs) is ∙ ap (λ (n : ℕ). get_or rs i r ∷ drop n rs) (add-one i) ∙ sym (drop-cons rs i r within)) are

  -- the verdicts so far, with those of the rules from an index on
  abbrev pub AreSoFar : List BookCovers → List Verdict → (i : ℕ) → Type 0
  AreSoFar rs verdicts i = (loose : Disjs) → (last : List Verdict) → AreOfRules lines (map see_rule (drop i rs)) loose last → AreOfRules lines (map see_rule rs) loose (verdicts ++ last)

  pub none-more : (rs : List BookCovers) (verdicts : List Verdict) (i : ℕ) (r : BookCovers) → i < length rs → r ≡ get_or rs i r → (r.params ≡ [] → ⊥) → AreSoFar rs verdicts i → AreSoFar rs verdicts (i + 1)
  none-more rs verdicts i r within is some so_far loose last are =
      so_far loose last (step-on rs i r loose last within is (no-verdict (see_rule r) (map see_rule (drop (i + 1) rs)) loose last some are))

  pub one-more : (rs : List BookCovers) (verdicts after : List Verdict) (verdict : Verdict) (i : ℕ) (r : BookCovers) → i < length rs → r ≡ get_or rs i r → r.params ≡ [] → IsSaidOf lines r.site verdict
      → after ≡ verdicts ++ verdict ∷ [] → AreSoFar rs verdicts i → AreSoFar rs after (i + 1)
  one-more rs verdicts after verdict i r within is none said pushed so_far loose last are =
      subst (AreOfRules lines (map see_rule rs) loose) (sym (ap (λ (vs : List Verdict). vs ++ last) pushed ∙ append_assoc verdicts (verdict ∷ []) last))
      (so_far loose (verdict ∷ last) (step-on rs i r loose (verdict ∷ last) within is (rule-verdict (see_rule r) (map see_rule (drop (i + 1) rs)) loose verdict last none said are)))

  pub all-so-far : (rs : List BookCovers) (verdicts : List Verdict) (i : ℕ) → length rs ≤ i → AreSoFar rs verdicts i → (loose : Disjs) (last : List Verdict) → AreOfLoose lines loose last
      → AreOfRules lines (map see_rule rs) loose (verdicts ++ last)
  all-so-far rs verdicts i past so_far loose last are =
      so_far loose last (subst (λ (xs : List BookCovers). AreOfRules lines (map see_rule xs) loose last) (sym (drop_all i rs past)) are)

  pub wanting-here : (rs : List BookCovers) (i : ℕ) (r : BookCovers) → i < length rs → r ≡ get_or rs i r → r.params ≡ [] → IsUnjudged lines r.site → IsRuleWanting lines (map see_rule rs)
  wanting-here rs i r within is none unjudged =
      let at : get_or (map see_rule rs) i (see_rule r) ≡ see_rule r = get_or-map see_rule rs i r (see_rule r) within ∙ ap see_rule (sym is) in
      (see_rule r, (i, subst (λ (n : ℕ). i < n) (sym (length-map rs see_rule)) within, at), none, unjudged)

  -- ---- by the table

  pub said-by : (table : List (Option Verdict)) (site : ℕ) (o : Option Verdict) (verdict : Verdict) → AreJudged lines table → o ≡ get_or table site None → o ≡ Some verdict → IsSaidOf lines site verdict
  said-by table site o verdict judged is some = subst (IsJudgedAs lines site) (sym is ∙ some) (judged site)

  pub unjudged-by : (table : List (Option Verdict)) (site : ℕ) (o : Option Verdict) → AreJudged lines table → o ≡ get_or table site None → o ≡ None → IsUnjudged lines site
  unjudged-by table site o judged is none = subst (IsJudgedAs lines site) (sym is ∙ none) (judged site)

  pub loose-unjudged : (ds : List HeldDisj) → (ds ≡ [] → ⊥) → IsUnjudged lines 0 → IsLooseWanting lines (disj_list (map see_disj ds))
  loose-unjudged [] some unjudged = absurd (some refl)
  loose-unjudged (d ∷ ds) some unjudged = unjudged

  pub loose-said : (ds : List HeldDisj) (verdict : Verdict) → (ds ≡ [] → ⊥) → IsSaidOf lines 0 verdict → AreOfLoose lines (disj_list (map see_disj ds)) (verdict ∷ [])
  loose-said [] verdict some said = absurd (some refl)
  loose-said (d ∷ ds) verdict some said = said

  pub loose-none : (ds : List HeldDisj) → ds ≡ [] → AreOfLoose lines (disj_list (map see_disj ds)) []
  loose-none ds none = subst (λ (xs : List HeldDisj). AreOfLoose lines (disj_list (map see_disj xs)) []) (sym none) refl

-- the sites that have a verdict
noted-at : (lines : List Line) (site : ℕ) (o : Option Verdict) → IsJudgedAs lines site o → (is_some o ≡ false) ↔ IsUnjudged lines site
noted-at lines site None none = ((λ e. none), (λ u. refl))
noted-at lines site (Some verdict) said = ((λ e. absurd (true≢false e)), (λ none. absurd (none said.0 said.1 (says.Verdict verdict) said.2)))

pub noted : (lines : List Line) (table : List (Option Verdict)) → AreJudged lines table → AreNoted lines table
noted lines table judged site = noted-at lines site (get_or table site None) (judged site)

-- whether a site is new, by the table
pub new-rule : (known : StoreModel) (lines : List Line) (table : List (Option Verdict)) (site : ℕ) (o : Option Verdict) (b : Bool) → o ≡ get_or table site None → is_some o ≡ not b
    → AreNoted lines table → MatchBool b (IsNewRule known lines site) (IsNewRule known lines site → ⊥)
new-rule known lines table site o b is test noted = by b (ap (λ (p : Option Verdict). is_some p) (sym is) ∙ test)
  where
    by : (v : Bool) → is_some (get_or table site None) ≡ not v → MatchBool v (IsNewRule known lines site) (IsNewRule known lines site → ⊥)
    by true test = (noted site).0 test
    by false test = λ new. true≢false (sym test ∙ (noted site).1 new)
