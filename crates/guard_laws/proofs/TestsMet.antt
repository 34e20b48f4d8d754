-- Tests are met exactly where nothing differs of a case. By induction on the cases and on what each expects.
use Rattle.std.proofs.Common.{◌≡◌, ◌⊎◌, ℕ, Bool, true, false, ◌||◌, List, [], ◌∷◌, ◌++◌, Option, Some, None, cond, is_some, length, inl, inr, refl, sym, ap, subst, ◌∙◌, arith}
use Rattle.std.specs.Prelude.{All, ◌↔◌}
use Rattle.std.specs.List.{list_any}
use Rattle.std.specs.Str.{bytes_eq}
use Rattle.std.proofs.lemmas.List.Concat.{flat_map-cons}
use Rattle.std.proofs.lemmas.List.Elements.{All-cons, All-head, All-nil, All-tail}
use Rattle.doc_values.specs.Places.{tree_at}
use Rattle.doc_values.specs.Tree.{Forest, IsTree}
use Rattle.guard_syntax.specs.Syntax.{File}
use Rattle.guard_syntax.specs.declared.row.Verdict.{Verdict}
use Rattle.guard_syntax.specs.declared.row.Verdict.TheVariants.{Pass, Fail, Skip}
use Rattle.guard_testfile.specs.Cases.{Expected, TestCase}
use Rattle.guard_testfile.specs.Texts.{Difference, difference, differences, is_same, is_wrong, verdict_under}
use Rattle.guard_testfile.proofs.NamedRules.{AllName, NamesRule, rules-named}
use Rattle.query_steps.proofs.LocatedAnswers.{one-answering}
use Rattle.report_text.specs.RuleLines.{reported_names}
use Rattle.rule_meaning.specs.FunctionMeaning.{IsAnswering}
use Rattle.rule_meaning.specs.Locations.{Answers, World}
use Rattle.rule_names.specs.Duplicates.{is_among}
use Rattle.guard_ends.specs.Inputs.{AreCases}
use Rattle.guard_ends.specs.Order.{Ended, IsTested, how_tested}
use Rattle.guard_ends.specs.Reported.{verdicts_of, world_over}
use Rattle.guard_ends.specs.Tests.{AreFound, IsFound}
use Rattle.guard_ends.specs.declared.ends.End.{End}
use Rattle.guard_ends.specs.declared.ends.End.TheVariants as end_is
use Rattle.guard_ends.proofs.ReportedVerdicts.{verdicts-many}

-- ---- one verdict that is expected

same-verdict : (v w : Verdict) → is_same v w ≡ true → w ≡ v
same-verdict Pass Pass e = refl
same-verdict Pass Fail e = absurd cc
same-verdict Pass Skip e = absurd cc
same-verdict Fail Pass e = absurd cc
same-verdict Fail Fail e = refl
same-verdict Fail Skip e = absurd cc
same-verdict Skip Pass e = absurd cc
same-verdict Skip Fail e = absurd cc
same-verdict Skip Skip e = refl

same-self : (v : Verdict) → is_same v v ≡ true
same-self Pass = refl
same-self Fail = refl
same-self Skip = refl

-- a name that is among some has a verdict, where each has one
under-some : (names : List (List ℕ)) (verdicts : List Verdict) (rule : List ℕ) → length verdicts ≡ length names → is_among rule names ≡ true
    → is_some (verdict_under names verdicts rule) ≡ true
under-some [] verdicts rule many among = absurd cc
under-some (name ∷ names) [] rule many among = absurd (omega (arith, many))
under-some (name ∷ names) (v ∷ verdicts) rule many among =
    by_name (bytes_eq rule name) among (under-some names verdicts rule (omega (arith, many)))
  where
    by_name : (b : Bool) → (b || is_among rule names) ≡ true → (is_among rule names ≡ true → is_some (verdict_under names verdicts rule) ≡ true)
        → is_some (cond b (Some v) (verdict_under names verdicts rule)) ≡ true
    by_name true among later = refl
    by_name false among later = later among

-- nothing differs of an expectation where the rule has the verdict that is expected, and only there
met-of : (x : Expected) (got : Option Verdict) → is_some got ≡ true → difference x got ≡ [] → got ≡ Some x.verdict
met-of x None some none = absurd cc
met-of x (Some got) some none = by_same (is_same x.verdict got) refl none
  where
    by_same : (b : Bool) → is_same x.verdict got ≡ b → ◌≡◌ {A = List Difference} (cond b [] (record { rule = x.rule; expected = x.verdict; got = got } ∷ [])) []
        → Some got ≡ Some x.verdict
    by_same true same none = ap (λ (v : Verdict). Some v) (same-verdict x.verdict got same)
    by_same false other none = absurd cc

none-of : (x : Expected) (got : Option Verdict) → got ≡ Some x.verdict → difference x got ≡ []
none-of x got is =
    ap (difference x) is
    ∙ ap (λ (b : Bool). cond b [] (record { rule = x.rule; expected = x.verdict; got = x.verdict } ∷ [])) (same-self x.verdict)

-- ---- what a case expects

first-empty : (xs ys : List Difference) → xs ++ ys ≡ [] → xs ≡ []
first-empty [] ys e = refl
first-empty (x ∷ xs) ys e = absurd cc

rest-empty : (xs ys : List Difference) → xs ++ ys ≡ [] → ys ≡ []
rest-empty [] ys e = e
rest-empty (x ∷ xs) ys e = absurd cc

module _ (rules : File) (world : World) (of_rules : world.file ≡ rules) where
  abbrev got : Expected → Option Verdict
  got x = verdict_under (reported_names rules) (verdicts_of world) x.rule

  abbrev IsExpected : Expected → Type 0
  IsExpected x = got x ≡ Some x.verdict

  abbrev found : List Expected → List Difference
  found expected = differences (reported_names rules) (verdicts_of world) expected

  many : length (verdicts_of world) ≡ length (reported_names rules)
  many = verdicts-many world ∙ ap (λ (f : File). length (reported_names f)) of_rules

  found-more : (x : Expected) (xs : List Expected) → found (x ∷ xs) ≡ difference x (got x) ++ found xs
  found-more x xs = flat_map-cons (λ (e : Expected). difference e (got e)) x xs

  all-expected : (xs : List Expected) → AllName rules xs → found xs ≡ [] → All IsExpected xs
  all-expected [] named none = All-nil IsExpected
  all-expected (x ∷ xs) named none =
      let parts : difference x (got x) ++ found xs ≡ [] = sym (found-more x xs) ∙ none in
      All-cons IsExpected x xs
      (met-of x (got x) (under-some (reported_names rules) (verdicts_of world) x.rule many (All-head (NamesRule rules) x xs named)) (first-empty (difference x (got x)) (found xs) parts))
      (all-expected xs (All-tail (NamesRule rules) x xs named) (rest-empty (difference x (got x)) (found xs) parts))

  none-found : (xs : List Expected) → All IsExpected xs → found xs ≡ []
  none-found [] met = refl
  none-found (x ∷ xs) met =
      found-more x xs ∙ ap (λ (ds : List Difference). ds ++ found xs) (none-of x (got x) (All-head IsExpected x xs met)) ∙ none-found xs (All-tail IsExpected x xs met)

-- ---- case by case

right : (f : List Difference) → is_wrong f ≡ false → f ≡ []
right [] e = refl
right (d ∷ ds) e = absurd cc

neither : (a b : Bool) → (a || b) ≡ false → (a ≡ false) × (b ≡ false)
neither false b e = (refl, e)
neither true b e = absurd cc

module _ (rules : File) (tree : Forest) where
  abbrev over : TestCase → Answers → World
  over case answers = world_over rules (tree_at tree case.input) answers

  -- each verdict that a case expects is that of its rule over the input
  abbrev pub IsMet : TestCase → Type 0
  IsMet case = (answers : Answers) → IsAnswering (over case answers) → All (IsExpected rules (over case answers) refl) case.expected

  case-met : (case : TestCase) (f : List Difference) → AllName rules case.expected → IsFound rules tree case f → is_wrong f ≡ false → IsMet case
  case-met case f named (answers, obey, is) ok others obey' =
      subst (λ (a : Answers). All (IsExpected rules (over case a) refl) case.expected) (one-answering (tree_at tree case.input) rules answers others obey obey')
      (all-expected rules (over case answers) refl case.expected named (sym is ∙ right f ok))

  case-right : (case : TestCase) (f : List Difference) → IsFound rules tree case f → IsMet case → is_wrong f ≡ false
  case-right case f (answers, obey, is) met = ap is_wrong (is ∙ none-found rules (over case answers) refl case.expected (met answers obey))

  abbrev AllCasesName : List TestCase → Type 0
  AllCasesName = All (λ (case : TestCase). AllName rules case.expected)

  all-met : (cases : List TestCase) (found : List (List Difference)) → AllCasesName cases → AreFound rules tree cases found → list_any is_wrong found ≡ false → All IsMet cases
  all-met [] found named are ok = All-nil IsMet
  all-met (case ∷ cases) [] named are ok = absurd are
  all-met (case ∷ cases) (f ∷ fs) named are ok =
      let parts = neither (is_wrong f) (list_any is_wrong fs) ok in
      All-cons IsMet case cases
      (case-met case f (All-head (λ (c : TestCase). AllName rules c.expected) case cases named) are.0 parts.0)
      (all-met cases fs (All-tail (λ (c : TestCase). AllName rules c.expected) case cases named) are.1 parts.1)

  all-right : (cases : List TestCase) (found : List (List Difference)) → AreFound rules tree cases found → All IsMet cases → list_any is_wrong found ≡ false
  all-right [] [] are met = refl
  all-right [] (f ∷ fs) are met = absurd are
  all-right (case ∷ cases) [] are met = absurd are
  all-right (case ∷ cases) (f ∷ fs) are met =
      let rest = all-right cases fs are.1 (All-tail IsMet case cases met) in
      ap (λ (b : Bool). b || list_any is_wrong fs) (case-right case f are.0 (All-head IsMet case cases met)) ∙ rest

  -- the end tells whether something is wrong
  passed-right : (wrong : Bool) (how : End) → how ≡ cond wrong end_is.Failed end_is.Passed → how ≡ end_is.Passed → wrong ≡ false
  passed-right true how is passed = absurd (let bad : end_is.Failed ≡ end_is.Passed = sym is ∙ passed in cc)
  passed-right false how is passed = refl

  pub passed-met : (cases : List TestCase) (e : Ended) → IsTree tree → AreCases rules tree cases → IsTested rules tree cases e → (e.how ≡ end_is.Passed) ↔ All IsMet cases
  passed-met cases e is_tree whole (found, are, is) =
      let how : e.how ≡ how_tested found = ap (λ (x : Ended). x.how) is in
      let named : AllCasesName cases = subst AllCasesName (sym whole.1) (rules-named rules tree is_tree whole.0) in (
        λ passed. all-met cases found named are (passed-right (list_any is_wrong found) e.how how passed),
        λ met. how ∙ ap (λ (b : Bool). cond b end_is.Failed end_is.Passed) (all-right cases found are met),
      )

  pub passed-or-failed : (cases : List TestCase) (e : Ended) → IsTested rules tree cases e → (e.how ≡ end_is.Passed) ⊎ (e.how ≡ end_is.Failed)
  passed-or-failed cases e (found, are, is) = by_test (list_any is_wrong found) (ap (λ (x : Ended). x.how) is)
    where
      by_test : (b : Bool) → e.how ≡ cond b end_is.Failed end_is.Passed → (e.how ≡ end_is.Passed) ⊎ (e.how ≡ end_is.Failed)
      by_test true how = inr how
      by_test false how = inl how
