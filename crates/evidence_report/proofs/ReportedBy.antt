-- What `rule` lines say of rules and of the parts outside rules is what is reported of them.
use Rattle.std.proofs.Common.{◌≡◌, ℕ, ◌==◌, Bool, true, false, true≢false, List, [], ◌∷◌, Option, Some, None, is_some, codes, length, map, refl, sym, ap, subst, ◌∙◌, arith}
use Rattle.std.specs.Prelude.{Contains, slice_index_or}
use Rattle.std.proofs.lemmas.Bool.Decides.{nat_tests}
use Rattle.evidence_lines.specs.declared.line.Line.{Line}
use Rattle.evidence_lines.specs.declared.line.LineKind.TheVariants as kind
use Rattle.evidence_lines.specs.declared.line.Outcome.TheVariants as says
use Rattle.guard_syntax.specs.Named.{Named}
use Rattle.guard_syntax.specs.Syntax as sx
use Rattle.guard_syntax.specs.code.Seen.{disj_list, see_disj}
use Rattle.guard_syntax.specs.declared.syntax.Disj.{Disj}
use Rattle.guard_syntax.specs.declared.row.Verdict.{Verdict}
use Rattle.guard_syntax.specs.declared.row.Verdict.TheVariants as verdict
use Rattle.rule_meaning.specs.Fails.{Entry, loose_fails, rule_fails}
use Rattle.rule_meaning.specs.Locations.{Answers, World}
use Rattle.rule_meaning.specs.NameMeaning.{loose_verdict, rule_verdict}
use Rattle.rule_meaning.specs.Seeing.{world_of}
use Rattle.rule_meaning.specs.StoreModel.{StoreModel}
use Rattle.evidence_rules.specs.CitedLines.{IsLine}
use Rattle.evidence_rules.specs.Follows.{IsLooseJudged}
use Rattle.evidence_rules.specs.RuleLines.{IsSaidOf}
use Rattle.evidence_truth.specs.code.LineFails.{line_fails}
use Rattle.guard_ends.specs.Reported.{Reported, if_fail, if_plain, of_loose, of_rule}
use Rattle.evidence_report.specs.code.RuleEntries.{AreTold}
use Rattle.evidence_report.specs.code.RuleTables.{AreJudged, AreRuleLines, HasLoose, HasRule}
use Rattle.evidence_report.specs.code.VerdictLines.{reported_by}
use Rattle.evidence_report.specs.declared.rule_lines.RuleLine.{RuleLine}
use Rattle.evidence_report.proofs.RuleSites.{file-within, rule-within}

-- ---- lines that are there

pub there : {X : Type 0} (o : Option X) → is_some o ≡ true → (x : X) × (o ≡ Some x)
there None is = absurd (true≢false (sym is))
there (Some x) is = (x, refl)

none-given : (ps : List Named) → length ps ≡ 0 → ps ≡ []
none-given [] none = refl
none-given (p ∷ ps) none = absurd (omega (arith, none))

module _ (lines : List Line) (file : sx.File) (judged : AreJudged lines file) (table : List (Option RuleLine)) (sites : length table ≡ length file.places) (are : AreRuleLines lines table) where
  -- the table has the line of a rule without parameters
  pub has-rule : (r : sx.Rule) → Contains file.rules r → HasRule table r
  has-rule r among none =
      let has = judged.rules r among (none-given r.params none) in
      let one : RuleLine = record { site = r.site; number = has.0; verdict = has.2 } in
      let within = rule-within file judged.order r among in
      are.whole one (has.1, has.3) (omega (arith, within, sites))

  -- and that of the parts outside rules, if there are some
  pub has-loose : HasLoose table file.loose
  has-loose = by file.loose judged.loose
    where
      by : (ds : sx.Disjs) → IsLooseJudged lines ds → HasLoose table ds
      by sx.no_disjs has = tt
      by (sx.more_disjs d ds) has =
          let one : RuleLine = record { site = 0; number = has.0; verdict = has.2 } in
          let within = file-within file judged.order in
          are.whole one (has.1, has.3) (omega (arith, within, sites))

-- ---- what they say

fails-alike : (v : Verdict) (es fs : List Entry) → (v ≡ verdict.Fail → es ≡ fs) → if_fail v es ≡ if_fail v fs
fails-alike verdict.Pass es fs same = refl
fails-alike verdict.Fail es fs same = same refl
fails-alike verdict.Skip es fs same = refl

plain-one : (v : Reported) (ps : List Named) → length ps ≡ 0 → if_plain v ps ≡ v ∷ []
plain-one v [] none = refl
plain-one v (p ∷ ps) none = absurd (omega (arith, none))

not-plain : (v : Reported) (ps : List Named) → (length ps ≡ 0 → ⊥) → if_plain v ps ≡ []
not-plain v [] some = absurd (some refl)
not-plain v (p ∷ ps) some = refl

pub none-reported : (world : World) (r : sx.Rule) → (length r.params ≡ 0 → ⊥) → of_rule world r ≡ []
none-reported world r some =
    not-plain (record { name = r.name.text; verdict = rule_verdict world r; fails = if_fail (rule_verdict world r) (rule_fails world r) }) r.params some

abbrev under : List ℕ → Verdict → List Entry → Reported
under name v es = record { name = name; verdict = v; fails = if_fail v es }

-- by what a table has at a site
module _ (held : StoreModel) (lines : List Line) (answers : Answers) (told : AreTold (world_of held answers) held lines) (table : List (Option RuleLine)) (are : AreRuleLines lines table)
    (x : RuleLine) (site : ℕ) (at : slice_index_or table site None ≡ Some x) where
  abbrev world : World
  world = world_of held answers

  here : IsLine lines x.number kind.Rule (are.sound site x at).1.0 site (says.Verdict x.verdict)
  here = let said = are.sound site x at in subst (λ (n : ℕ). IsLine lines x.number kind.Rule said.1.0 n (says.Verdict x.verdict)) said.0 said.1.1

  said-fails : x.verdict ≡ verdict.Fail → IsLine lines x.number kind.Rule (are.sound site x at).1.0 site (says.Verdict verdict.Fail)
  said-fails fails = subst (λ (v : Verdict). IsLine lines x.number kind.Rule (are.sound site x at).1.0 site (says.Verdict v)) fails here

  pub rule-reported : (r : sx.Rule) → r.site ≡ site → Contains held.file.rules r → length r.params ≡ 0 → reported_by held lines r.name.text x ∷ [] ≡ of_rule (world_of held answers) r
  rule-reported r placed among none =
      let es = line_fails held lines x.number x.number in
      let said : IsSaidOf lines r.site x.verdict = (x.number, (are.sound site x at).1.0, subst (λ (n : ℕ). IsLine lines x.number kind.Rule (are.sound site x at).1.0 n (says.Verdict x.verdict)) (sym placed) here) in
      let fails : x.verdict ≡ verdict.Fail → es ≡ rule_fails world r =
      λ is. (told.entries x.number).rule r (are.sound site x at).1.0 among (subst (λ (n : ℕ). IsLine lines x.number kind.Rule (are.sound site x at).1.0 n (says.Verdict verdict.Fail)) (sym placed) (said-fails is)) in
      ap (λ (fs : List Entry). record { name = r.name.text; verdict = x.verdict; fails = fs } ∷ []) (fails-alike x.verdict es (rule_fails world r) fails)
      ∙ ap (λ (v : Verdict). under r.name.text v (rule_fails world r) ∷ []) (told.rules r x.verdict among said)
      ∙ sym (plain-one (under r.name.text (rule_verdict world r) (rule_fails world r)) r.params none)

  pub loose-reported : (d : sx.Disj) (ds : sx.Disjs) → held.file.loose ≡ sx.more_disjs d ds → site ≡ 0
      → reported_by held lines (codes "default") x ∷ [] ≡ of_loose (world_of held answers) held.file.loose
  loose-reported d ds some placed =
      let es = line_fails held lines x.number x.number in
      let said : IsSaidOf lines 0 x.verdict = (x.number, (are.sound site x at).1.0, subst (λ (n : ℕ). IsLine lines x.number kind.Rule (are.sound site x at).1.0 n (says.Verdict x.verdict)) placed here) in
      let fails : x.verdict ≡ verdict.Fail → es ≡ loose_fails world held.file.loose =
      λ is. (told.entries x.number).loose (are.sound site x at).1.0 (subst (λ (n : ℕ). IsLine lines x.number kind.Rule (are.sound site x at).1.0 n (says.Verdict verdict.Fail)) placed (said-fails is)) in
      ap (λ (fs : List Entry). record { name = codes "default"; verdict = x.verdict; fails = fs } ∷ []) (fails-alike x.verdict es (loose_fails world held.file.loose) fails)
      ∙ ap (λ (v : Verdict). under (codes "default") v (loose_fails world held.file.loose) ∷ []) (told.loose x.verdict said)
      ∙ ap (λ (o : sx.Disjs). under (codes "default") (loose_verdict world o) (loose_fails world o) ∷ []) some
      ∙ sym (ap (of_loose world) some)

-- parts outside rules that are told some
pub some-loose : (ds : List Disj) → (length ds ≡ 0 → ⊥) → (d : sx.Disj) × (rest : sx.Disjs) × (disj_list (map see_disj ds) ≡ sx.more_disjs d rest)
some-loose [] some = absurd (some refl)
some-loose (d ∷ ds) some = (see_disj d, disj_list (map see_disj ds), refl)

pub no-loose : (world : World) (ds : List Disj) → length ds ≡ 0 → of_loose world (disj_list (map see_disj ds)) ≡ []
no-loose world [] none = refl
no-loose world (d ∷ ds) none = absurd (omega (arith, none))

pub loose-there : (table : List (Option RuleLine)) (ds : List Disj) → (length ds ≡ 0 → ⊥) → HasLoose table (disj_list (map see_disj ds)) → is_some (slice_index_or table 0 None) ≡ true
loose-there table [] some has = absurd (some refl)
loose-there table (d ∷ ds) some has = has

-- a list that is told empty has no length
pub none-left : {X : Type 0} (xs : List X) (b : Bool) → b ≡ (length xs == 0) → b ≡ true → length xs ≡ 0
none-left xs b is holds_is = let test : (length xs == 0) ≡ true = sym is ∙ holds_is in grind (arith, nat_tests, test)

pub some-left : {X : Type 0} (xs : List X) (b : Bool) → b ≡ (length xs == 0) → b ≡ false → length xs ≡ 0 → ⊥
some-left xs b is fails none = let test : (length xs == 0) ≡ false = sym is ∙ fails in grind (arith, nat_tests, test, none)
