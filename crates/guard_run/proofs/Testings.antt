-- The stages of the work of tests: what a stage comes to, the work over the files comes to.
use Rattle.std.proofs.Common.{ℕ, List, inl, inr, refl, string_bytes, subst}
use Rattle.rule_names.specs.code.Files.{file_of}
use Rattle.guard_ends.specs.Inputs.{AreCases, RefusesCases, format_of}
use Rattle.guard_ends.specs.Order.{Contents, Ending, IsTested, LoadingTexts, MakingPatterns, OfTests, Point, Reading, ReadingTests, Refusing}
use Rattle.guard_ends.specs.declared.ends.Which.TheVariants as file
use Rattle.guard_ends.specs.declared.format.Format.{Format}
use Rattle.guard_inputs.specs.code.Inputs.{AreLoaded}
use Rattle.guard_inputs.specs.code.Loading.{RefusesText}
use Rattle.guard_inputs.specs.code.Tests.{AreTests, RefusingTests, cases_of}
use Rattle.guard_inputs.specs.declared.inputs.Rules.{Rules}
use Rattle.guard_inputs.specs.declared.inputs.Sources.{Sources}
use Rattle.guard_inputs.specs.declared.tests.Tests as code
use Rattle.guard_run.specs.code.Tested.{Testing, TestingSources}
use Rattle.guard_run.proofs.Stages.{texts-before, texts-loaded}

module _ (told : Contents) (rules tests : List ℕ) where
  -- what comes before the texts are loaded
  pub tests-before : (p : Point) → LoadingTexts file.Tests told rules tests (λ source read. Refusing (RefusesText file.Tests)) p → OfTests told rules tests p
  tests-before p came =
      texts-before file.Tests told rules tests (format_of tests)
      (λ source read bytes tree. Reading (λ b. RefusesCases read tree) (λ b. AreCases read tree) bytes (λ cases. MakingPatterns source read (Ending (IsTested read tree cases))))
      refl p came

  -- and behind that
  pub tests-loaded : (sources : Sources) → AreLoaded told rules tests sources → (p : Point) → TestingSources sources p → OfTests told rules tests p
  tests-loaded sources loaded p came =
      texts-loaded file.Tests told rules tests sources loaded (ReadingTests (format_of tests)) p
      (subst (λ (f : Format). ReadingTests f (string_bytes sources.rules.text) (file_of sources.rules.file) (string_bytes sources.beside.text) p) loaded.text.format came)

module _ (sources : Sources) where
  -- what comes before the tests are read
  pub reads-before : (p : Point) → RefusingTests sources p → TestingSources sources p
  reads-before p (inl refused) = inl refused
  reads-before p (inr (tree, read, refused)) = inr (tree, read, inl refused)

  -- and behind that
  pub tests-read : (tests : code.Tests) → AreTests sources tests → (p : Point) → Testing tests p → TestingSources sources p
  tests-read tests are p came = inr (
    tests.tree,
    are.read,
    inr (
      cases_of tests,
      are.cases,
      subst (λ (r : Rules). MakingPatterns (string_bytes r.text) (file_of r.file) (Ending (IsTested (file_of r.file) tests.tree (cases_of tests))) p) are.rules came,
    ),
  )
