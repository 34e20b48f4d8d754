-- Tests are judged in one way, where a tree has one answer as a tests file. By the refusals, case by case, and by the stages of the work.
use Rattle.std.proofs.Common.{◌≡◌, ◌⊎◌, ℕ, List, [], ◌∷◌, Some, None, string_bytes, inl, inr, refl, sym, ap, ap₂, ◌∙◌}
use Rattle.std.proofs.lemmas.Option.{none-some}
use Rattle.doc_values.specs.Places.{label_at, tree_at}
use Rattle.doc_values.specs.Tree.{Forest}
use Rattle.guard_syntax.specs.Syntax.{File}
use Rattle.guard_testfile.specs.Cases.{TestCase}
use Rattle.guard_testfile.specs.Refusals.{BreaksShape, IsTestsFile, NamesNoRule, RefusesTests, key_text}
use Rattle.guard_testfile.specs.Texts.{Difference}
use Rattle.guard_testfile.specs.declared.refusal.TestRefusal.{TestRefusal}
use Rattle.guard_testfile.specs.declared.refusal.TestRefusal.TheVariants as test_refusal
use Rattle.query_steps.proofs.LocatedAnswers.{one-answering}
use Rattle.rule_meaning.specs.Locations.{Answers}
use Rattle.guard_ends.specs.End.{IsYamlOf, ReadAsYaml}
use Rattle.guard_ends.specs.Inputs.{AreCases, IsRuleFile, IsTemplate, RefusesCases, RefusesData, RefusesRules, format_of, of_tests}
use Rattle.guard_ends.specs.Order.{AreRead, Contents, Ended, Ending, Ends, IsTested, Loading, MakingPatterns, OfTests, Reading, ReadingTests, Work, refused, tested}
use Rattle.guard_ends.specs.Reported.{world_over}
use Rattle.guard_ends.specs.Tests.{AreFound, IsFound, found_of}
use Rattle.guard_ends.specs.declared.ends.Refusal.{Refusal}
use Rattle.guard_ends.specs.declared.ends.Refusal.TheVariants.{At}
use Rattle.guard_ends.specs.declared.ends.RefusalKind.TheVariants.{NoSuchRule, TestShape}
use Rattle.guard_ends.specs.declared.ends.Which.TheVariants as file
use Rattle.guard_laws.proofs.OneEnd.{rules-go, rules-same}
use Rattle.guard_laws.proofs.OneStage.{AreAmong, HasOne, OneReading, ending-is, ending-one, loaded, loading-one, patterns-go, patterns-one, read-goes, reading-more, reading-one}
use Rattle.guard_laws.proofs.OneSyntax.{OneSyntax}
use Rattle.guard_laws.proofs.OneText.{IsText}
use Rattle.guard_laws.proofs.OneTemplate.{OneTemplate, template-reading}

-- ---- a tree has cases or a refusal

-- what the law of tests files says of a rule file and a tree
pub record OneAnswer (rules : File) (tree : Forest) : Type 0 where
  pub shape : (n m : ℕ) → BreaksShape tree n → BreaksShape tree m → n ≡ m
  pub names : (n m : ℕ) → NamesNoRule rules tree n → NamesNoRule rules tree m → n ≡ m
  pub apart : (n m : ℕ) → BreaksShape tree n → NamesNoRule rules tree m → ⊥
  pub shaped : (n : ℕ) → IsTestsFile rules tree → BreaksShape tree n → ⊥
  pub named : (n : ℕ) → IsTestsFile rules tree → NamesNoRule rules tree n → ⊥

module _ (rules : File) (tree : Forest) (law : OneAnswer rules tree) where
  -- the refusals by the node at which they come
  abbrev of_shape : ℕ → Refusal
  of_shape n = At file.Tests TestShape (label_at tree n).at None

  abbrev of_name : ℕ → Refusal
  of_name n = At file.Tests NoSuchRule (label_at tree n).at (Some (key_text tree n))

  abbrev CasesWhy : Refusal → Type 0
  CasesWhy r = ((n : ℕ) × (r ≡ of_shape n) × BreaksShape tree n) ⊎ ((n : ℕ) × (r ≡ of_name n) × NamesNoRule rules tree n)

  refusal-one : (r q : Refusal) → Some r ≡ Some q → q ≡ r
  refusal-one r q same = cc

  cases-why : (r : TestRefusal) (refusal : Refusal) → of_tests r ≡ Some refusal → RefusesTests rules tree r → CasesWhy refusal
  cases-why (test_refusal.TestShape at) refusal named (n, breaks, place) =
      inl (n, refusal-one (At file.Tests TestShape at None) refusal named ∙ ap (λ (a : ℕ). At file.Tests TestShape a None) place, breaks)
  cases-why (test_refusal.NoSuchRule name at) refusal named (n, none, spelled, place) =
      inr (
        n,
        refusal-one (At file.Tests NoSuchRule at (Some (string_bytes name))) refusal named
            ∙ ap₂ (λ (a : ℕ) (k : List ℕ). At file.Tests NoSuchRule a (Some k)) place spelled,
        none,
      )
  cases-why test_refusal.NoMemory refusal named h = absurd (none-some refusal named)

  why-one : (r q : Refusal) → CasesWhy r → CasesWhy q → r ≡ q
  why-one r q (inl (n, is, breaks)) (inl (m, is', breaks')) = is ∙ (ap of_shape (law.shape n m breaks breaks') ∙ sym is')
  why-one r q (inl (n, is, breaks)) (inr (m, is', none)) = absurd (law.apart n m breaks none)
  why-one r q (inr (n, is, none)) (inl (m, is', breaks)) = absurd (law.apart m n breaks none)
  why-one r q (inr (n, is, none)) (inr (m, is', none')) = is ∙ (ap of_name (law.names n m none none') ∙ sym is')

  why-apart : (r : Refusal) → CasesWhy r → IsTestsFile rules tree → ⊥
  why-apart r (inl (n, is, breaks)) tests = law.shaped n tests breaks
  why-apart r (inr (n, is, none)) tests = law.named n tests none

  pub cases-reading : (IsYaml : ReadAsYaml) (bytes : List ℕ) → OneReading IsYaml (List TestCase) (λ read. RefusesCases rules tree) (λ read. AreCases rules tree) bytes
  cases-reading IsYaml bytes = record {
    one = λ x y whole whole'. whole.1 ∙ sym whole'.1;
    refusal = λ r q h h'. inl (ap (refused bytes) (why-one r q (cases-why h.0 r h.1 h.2) (cases-why h'.0 q h'.1 h'.2)));
    apart = λ r x h whole. why-apart r (cases-why h.0 r h.1 h.2) whole.0;
  }

-- ---- cases are judged in one way

module _ (rules : File) (tree : Forest) where
  found-one : (case : TestCase) (found others : List Difference) → IsFound rules tree case found → IsFound rules tree case others → found ≡ others
  found-one case found others (answers, obey, is) (answers', obey', is') =
      is
      ∙ (ap (λ (a : Answers). found_of case (world_over rules (tree_at tree case.input) a))
      (one-answering (tree_at tree case.input) rules answers answers' obey obey') ∙ sym is')

  all-found-one : (cases : List TestCase) (found others : List (List Difference)) → AreFound rules tree cases found → AreFound rules tree cases others → found ≡ others
  all-found-one [] [] [] are are' = refl
  all-found-one [] [] (g ∷ gs) are are' = absurd are'
  all-found-one [] (f ∷ fs) gs are are' = absurd are
  all-found-one (case ∷ cases) [] gs are are' = absurd are
  all-found-one (case ∷ cases) (f ∷ fs) [] are are' = absurd are'
  all-found-one (case ∷ cases) (f ∷ fs) (g ∷ gs) are are' =
      ap₂ (λ (x : List Difference) (xs : List (List Difference)). x ∷ xs) (found-one case f g are.0 are'.0) (all-found-one cases fs gs are.1 are'.1)

  tested-one : (cases : List TestCase) (e other : Ended) → IsTested rules tree cases e → IsTested rules tree cases other → e ≡ other
  tested-one cases e other (found, are, is) (found', are', is') = is ∙ (ap tested (all-found-one cases found found' are are') ∙ sym is')

-- ---- so a call has one end

-- the names of the rules and of the tests that words ask for, and the bytes that stand in them
pub record AreTestsTold (told : Contents) (r s source bytes : List ℕ) : Type 0 where
  pub rules : told r ≡ Some source
  pub tests : told s ≡ Some bytes

module _
    (law : OneSyntax)
    (answer : (rules : File) (tree : Forest) → OneAnswer rules tree)
    (told : Contents)
    (r s rules tests : List ℕ)
    (known : AreTestsTold told r s rules tests)
    (one : OneTemplate tests)
  where
    abbrev Judges : File → Forest → List TestCase → Work
    Judges read tree cases = Ending (IsTested read tree cases)

    abbrev Makes_patterns : File → Forest → List TestCase → Work
    Makes_patterns read tree cases = MakingPatterns rules read (Judges read tree cases)

    abbrev Reads_cases : File → Forest → Work
    Reads_cases read tree = Reading (λ bytes. RefusesCases read tree) (λ bytes. AreCases read tree) tests (Makes_patterns read tree)

    abbrev Loads_tests : (source : List ℕ) → File → Work
    Loads_tests source read = Loading file.Tests told s (ReadingTests (format_of s) source read)

    abbrev Reads_rules : List ℕ → Work
    Reads_rules source = Reading RefusesRules IsRuleFile source (Loads_tests source)

    abbrev pub IsYaml : ReadAsYaml
    IsYaml = IsYamlOf file.Tests told s

    among : AreAmong (IsText file.Tests (format_of s) tests) IsYaml
    among which bytes (is, same, yaml) = (is, (yaml, known.tests ∙ ap Some (sym same)))

    reading-tests : OneReading IsYaml Forest (RefusesData file.Tests (format_of s)) (IsTemplate (format_of s)) tests
    reading-tests =
        reading-more (IsText file.Tests (format_of s) tests) IsYaml Forest (RefusesData file.Tests (format_of s)) (IsTemplate (format_of s)) tests among
        (template-reading file.Tests (format_of s) tests one)

    patterns-same : (read : File) (tree : Forest) (cases : List TestCase) → HasOne IsYaml (Makes_patterns read tree cases)
    patterns-same read tree cases = patterns-one IsYaml rules read (Judges read tree cases) (ending-one IsYaml (IsTested read tree cases) (tested-one read tree cases))

    cases-same : (read : File) (tree : Forest) → HasOne IsYaml (Reads_cases read tree)
    cases-same read tree =
        reading-one IsYaml (List TestCase) (λ bytes. RefusesCases read tree) (λ bytes. AreCases read tree) tests (Makes_patterns read tree)
        (cases-reading read tree (answer read tree) IsYaml tests) (patterns-same read tree)

    pub tests-same : HasOne IsYaml (OfTests told r s)
    tests-same e other came came' =
        rules-same IsYaml law rules (Loads_tests rules)
        (λ read. loading-one IsYaml file.Tests told s tests (ReadingTests (format_of s) rules read) known.tests
        (reading-one IsYaml Forest (RefusesData file.Tests (format_of s)) (IsTemplate (format_of s)) tests (Reads_cases read)
        reading-tests (cases-same read))) e other
        (loaded file.Rules told r rules Reads_rules known.rules e came)
        (loaded file.Rules told r rules Reads_rules known.rules other came')

    -- and where rules, tests and patterns are read, its end is that of the cases judged
    pub tests-go : (read : File) (tree : Forest) (cases : List TestCase) → IsRuleFile rules read → IsTemplate (format_of s) tests tree → AreCases read tree cases
        → AreRead read → (e : Ended) → OfTests told r s (Ends e) → IsTested read tree cases e
    tests-go read tree cases whole whole' are all e came =
        ending-is (IsTested read tree cases) e
        (patterns-go IsYaml rules read (Judges read tree cases) all e
        (read-goes IsYaml (List TestCase) (λ bytes. RefusesCases read tree) (λ bytes. AreCases read tree) tests (Makes_patterns read tree)
        (cases-reading read tree (answer read tree) IsYaml tests) cases are e
        (read-goes IsYaml Forest (RefusesData file.Tests (format_of s)) (IsTemplate (format_of s)) tests (Reads_cases read)
        reading-tests tree whole' e
        (loaded file.Tests told s tests (ReadingTests (format_of s) rules read) known.tests e
        (rules-go IsYaml law rules (Loads_tests rules) read whole e (loaded file.Rules told r rules Reads_rules known.rules e came))))))
