-- The answer, from what the `rule` lines say and whether each line follows.
use Rattle.std.proofs.Common.{◌≡◌, ℕ, suc, ap, sym, ◌∙◌, subst, inl, inr, List, [], ◌++◌, length, map, MatchOption, Option, Some, None}
use Rattle.doc_values.specs.Tree.{Forest}
use Rattle.evidence_lines.specs.declared.line.Line.{Line}
use Rattle.evidence_lines.specs.declared.version.Version.{Version}
use Rattle.guard_syntax.specs.code.Seen.{disj_list, see_disj, see_rule}
use Rattle.guard_syntax.specs.Syntax.{Disjs, File}
use Rattle.guard_syntax.specs.declared.syntax.Disj.{Disj as HeldDisj}
use Rattle.guard_syntax.specs.declared.syntax.Rule.{Rule as BookCovers}
use Rattle.guard_syntax.specs.declared.row.Verdict.{Verdict}
use Rattle.rule_names.specs.code.Files.{file_of}
use Rattle.rule_names.specs.declared.file.RuleFile.{RuleFile}
use Rattle.rule_meaning.specs.StoreModel.{StoreModel, Made}
use Rattle.value_store.specs.code.Stores.{see_store}
use Rattle.value_store.specs.declared.store.Store.{Store}
use Rattle.evidence_rules.specs.Follows.{Accepts, AllFollow, nothing_made}
use Rattle.evidence_rules.specs.RuleLines.{AreOfLoose, AreOfRules}
use Rattle.evidence_rules.specs.Rejected.{IsRejectedAt}
use Rattle.evidence_checker.specs.code.Judging.{IsFaultAt, IsLooseWanting, IsRuleWanting, IsWanting}
use Rattle.evidence_checker.proofs.RuleVerdicts.{loose-judged, not-all, rules-judged}

-- what a new store knows
pub store-starts : (s : Store) (template : Forest) (file : RuleFile) → s.doc.now ≡ template → s.file.now ≡ file → s.made ≡ [] → see_store s ≡ nothing_made template (file_of file)
store-starts s template file doc_is file_is made_is =
    ap (λ (t : Forest). record { template = t; file = file_of s.file.now; made = s.made }) doc_is
    ∙ ap (λ (f : RuleFile). record { template = template; file = file_of f; made = s.made }) file_is
    ∙ ap (λ (ms : List Made). record { template = template; file = file_of file; made = ms }) made_is

-- one in which literals are kept knows what it did
pub store-same : (s t : Store) → s.doc.now ≡ t.doc.now → s.file.now ≡ t.file.now → s.made ≡ t.made → see_store s ≡ see_store t
store-same s t doc_is file_is made_is =
    ap (λ (d : Forest). record { template = d; file = file_of s.file.now; made = s.made }) doc_is
    ∙ ap (λ (f : RuleFile). record { template = t.doc.now; file = file_of f; made = s.made }) file_is
    ∙ ap (λ (ms : List Made). record { template = t.doc.now; file = file_of t.file.now; made = ms }) made_is

-- one that knows of nothing made
pub starts : (known : StoreModel) → known.made ≡ [] → known ≡ nothing_made known.template known.file
starts known none = ap (λ (ms : List Made). record { template = known.template; file = known.file; made = ms }) none

module _ (version : Version) (template : Forest) (file : File) (lines : List Line) where
  pub rejected-at : (start : StoreModel) (number : ℕ) → start ≡ nothing_made template file → IsFaultAt version start lines number → IsRejectedAt version template file lines number
  rejected-at start number is fault = inl (subst (λ (k : StoreModel). IsFaultAt version k lines number) is fault)

  pub rejected-behind : (number : ℕ) → number ≡ suc (length lines) → AllFollow version (nothing_made template file) [] lines → IsWanting lines file.rules file.loose → IsRejectedAt version template file lines number
  rejected-behind number is follow wanting = inr (is, follow, λ accepts. not-all lines file.rules file.loose wanting accepts.rules accepts.loose)

  pub accepted : (verdicts : List Verdict) → AllFollow version (nothing_made template file) [] lines → AreOfRules lines file.rules file.loose verdicts → Accepts version template file lines
  accepted verdicts follow are = record {
    follow = follow;
    rules = rules-judged lines file.rules file.loose verdicts are;
    loose = loose-judged lines file.rules file.loose verdicts are;
  }

-- ---- what the code finds, where nothing is wanting and where something is; `items` gives the verdicts of what holds them

module _ {V : Type 0} (items : V → List Verdict) (lines : List Line) where
  abbrev pub AreRules : List BookCovers → Option V → Type 0
  AreRules rs o =
      MatchOption o (IsRuleWanting lines (map see_rule rs))
      (λ (v : V). (loose : Disjs) → (last : List Verdict) → AreOfLoose lines loose last → AreOfRules lines (map see_rule rs) loose (items v ++ last))

  pub rules-wanting : (rs all : List BookCovers) (o : Option V) → rs ≡ all → o ≡ None → AreRules rs o → IsRuleWanting lines (map see_rule all)
  rules-wanting rs all o are none found =
      subst (λ (xs : List BookCovers). IsRuleWanting lines (map see_rule xs)) are (subst (AreRules rs) none found)

  abbrev pub AreWithLoose : V → List HeldDisj → Option V → Type 0
  AreWithLoose v ds o =
      MatchOption o (IsLooseWanting lines (disj_list (map see_disj ds)))
      (λ (w : V). (last : List Verdict) × AreOfLoose lines (disj_list (map see_disj ds)) last × (items w ≡ items v ++ last))

  abbrev pub AreAll : List BookCovers → List HeldDisj → Option V → Type 0
  AreAll rs ds o =
      MatchOption o (IsWanting lines (map see_rule rs) (disj_list (map see_disj ds)))
      (λ (w : V). AreOfRules lines (map see_rule rs) (disj_list (map see_disj ds)) (items w))

  all-by : (rs : List BookCovers) (ds : List HeldDisj) (v : V) (o : Option V) → AreRules rs (Some v) → AreWithLoose v ds o → AreAll rs ds o
  all-by rs ds v None rules wanting = inr wanting
  all-by rs ds v (Some w) rules found =
      subst (AreOfRules lines (map see_rule rs) (disj_list (map see_disj ds))) (sym found.2) (rules (disj_list (map see_disj ds)) found.0 found.1)

  pub all-found : (rs all : List BookCovers) (ds loose : List HeldDisj) (o : Option V) (v : V) (found : Option V) → rs ≡ all → ds ≡ loose → o ≡ Some v → AreRules rs o → AreWithLoose v ds found
      → AreAll all loose found
  all-found rs all ds loose o v found rules_are loose_is is rules more =
      subst (λ (xs : List BookCovers). AreAll xs loose found) rules_are
      (subst (λ (xs : List HeldDisj). AreAll rs xs found) loose_is (all-by rs ds v found (subst (AreRules rs) is rules) more))

  module _ (version : Version) (template : Forest) (file : File) where
    abbrev pub AreOfFile : Option V → Type 0
    AreOfFile o = MatchOption o (IsWanting lines file.rules file.loose) (λ (w : V). AreOfRules lines file.rules file.loose (items w))

    pub answered-some : (o : Option V) (v : V) → o ≡ Some v → AllFollow version (nothing_made template file) [] lines → AreOfFile o
        → Accepts version template file lines × AreOfRules lines file.rules file.loose (items v)
    answered-some o v is follow found = let are = subst AreOfFile is found in (accepted version template file lines (items v) follow are, are)

    pub answered-none : (o : Option V) (number : ℕ) → o ≡ None → number ≡ suc (length lines) → AllFollow version (nothing_made template file) [] lines → AreOfFile o → IsRejectedAt version template file lines number
    answered-none o number is number_is follow found = rejected-behind version template file lines number number_is follow (subst AreOfFile is found)
