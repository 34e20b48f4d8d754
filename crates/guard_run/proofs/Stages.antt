-- The stages of the order of work: what a stage comes to, the work over the files comes to.
use Rattle.std.proofs.Common.{◌≡◌, ℕ, List, Option, Some, None, inl, inr, refl, string_bytes, subst}
use Rattle.doc_values.specs.Limits.{template_limit}
use Rattle.doc_values.specs.Tree.{Forest}
use Rattle.guard_syntax.specs.Syntax.{File}
use Rattle.report_text.specs.Texts.{Parameters}
use Rattle.rule_names.specs.code.Files.{file_of}
use Rattle.guard_ends.specs.Inputs.{IsProof, IsTemplate, RefusesData, RefusesProof, format_of}
use Rattle.guard_ends.specs.Order.{Contents, Ending, Inputs, IsChecked, IsContent, Joining, LoadingTexts, MakingPatterns, Merging, OverFiles, Point, Reading, ReadingInputs, Refusing, WithParams, Work}
use Rattle.guard_ends.specs.declared.ends.Which.{Which}
use Rattle.guard_ends.specs.declared.ends.Which.TheVariants as file
use Rattle.guard_ends.specs.declared.format.Format.{Format}
use Rattle.guard_inputs.specs.code.Inputs.{AreAlone, AreLoaded, inputs_of, inputs_over}
use Rattle.guard_inputs.specs.code.Loading.{RefusesText, limit_of}
use Rattle.guard_inputs.specs.declared.inputs.Inputs as code
use Rattle.guard_inputs.specs.declared.inputs.Sources.{Sources}
use Rattle.guard_inputs.proofs.Loads.{loading-same, text-data}
use Rattle.guard_run.specs.code.Stages.{JoiningInputs, ReadingSources, WithPatterns}
use Rattle.guard_run.specs.code.Jobs.{Doing}
use Rattle.guard_run.specs.declared.job.Task.{Task}
use Rattle.guard_run.specs.declared.job.Task.TheVariants as task

module _ (beside : Which) (told : Contents) (rules name : List ℕ) where
  -- what comes before the texts are loaded: what is no text is refused in each format
  pub texts-before : (f : Format) (GoesOn : List ℕ → File → List ℕ → Forest → Work) → limit_of beside ≡ template_limit
      → (p : Point) → LoadingTexts beside told rules name (λ source read. Refusing (RefusesText beside)) p
      → LoadingTexts beside told rules name (λ source read bytes. Reading (RefusesData beside f) (IsTemplate f) bytes (GoesOn source read bytes)) p
  texts-before f GoesOn limit p (inl load) = inl load
  texts-before f GoesOn limit p (inr (source, content, inl refused)) = inr (source, content, inl refused)
  texts-before f GoesOn limit p (inr (source, content, inr (read, whole, inl load))) = inr (source, content, inr (read, whole, inl load))
  texts-before f GoesOn limit p (inr (source, content, inr (read, whole, inr (bytes, found, refused)))) =
      inr (source, content, inr (read, whole, inr (bytes, found, inl (refused.0, text-data beside f limit bytes refused.0 refused.1, refused.2))))

  -- and behind that
  pub texts-loaded : (sources : Sources) → AreLoaded told rules name sources → (GoesOn : List ℕ → File → List ℕ → Work)
      → (p : Point) → GoesOn (string_bytes sources.rules.text) (file_of sources.rules.file) (string_bytes sources.beside.text) p
      → LoadingTexts beside told rules name GoesOn p
  texts-loaded sources loaded GoesOn p came =
      inr (
        string_bytes sources.rules.text,
        loaded.source,
        inr (file_of sources.rules.file, loaded.read, inr (string_bytes sources.beside.text, loaded.text.text, came)),
      )

module _ (told : Contents) (rules template : List ℕ) (params : Option (List ℕ)) (GoesOn : Inputs → Work) where
  -- what is done with a template that was read
  abbrev joins : List ℕ → File → List ℕ → Forest → Work
  joins source read bytes tree = WithParams told params bytes tree (λ joined data_tree. MakingPatterns source read
      (GoesOn (record { rules = read; tree = data_tree; texts = record { rules = source; template = bytes; params = joined } })))

  pub loads-before : (p : Point) → LoadingTexts file.Template told rules template (λ source read. Refusing (RefusesText file.Template)) p → OverFiles told rules template params GoesOn p
  loads-before p came = texts-before file.Template told rules template (format_of template) joins refl p came

  pub sources-loaded : (sources : Sources) → AreLoaded told rules template sources → (p : Point) → ReadingSources sources (WithParams told params) GoesOn p → OverFiles told rules template params GoesOn p
  sources-loaded sources loaded p came =
      let source = string_bytes sources.rules.text in
      let read = file_of sources.rules.file in
      let bytes = string_bytes sources.beside.text in
      texts-loaded file.Template told rules template sources loaded
      (λ source read bytes. ReadingInputs (format_of template) source read (WithParams told params) bytes GoesOn) p
      (subst (λ (f : Format). ReadingInputs f source read (WithParams told params) bytes GoesOn p) loaded.text.format came)

-- the template of sources is read
pub template-read : (sources : Sources) (Joined : Joining) (GoesOn : Inputs → Work) (inputs : code.Inputs) → AreAlone sources inputs
    → (p : Point) → JoiningInputs Joined (inputs_of inputs) GoesOn p → ReadingSources sources Joined GoesOn p
template-read sources Joined GoesOn inputs are p came =
    inr (inputs.tree, are.read, subst (λ (i : Inputs). JoiningInputs Joined i GoesOn p) are.same came)

-- ---- the same stages, as what comes behind them comes to more, and as the same is told of the files otherwise

pub patterns-more : (source : List ℕ) (rules : File) (One More : Work) → ((p : Point) → One p → More p)
    → (p : Point) → MakingPatterns source rules One p → MakingPatterns source rules More p
patterns-more source rules One More more p (inl next) = inl next
patterns-more source rules One More more p (inr (all, goes)) = inr (all, more p goes)

module _ (template : List ℕ) (tree : Forest) (One More : Option Parameters → Forest → Work)
    (more : (params : Option Parameters) (t : Forest) (p : Point) → One params t p → More params t p) where
  pub merging-more : (bytes : List ℕ) (read : Forest) (p : Point) → Merging bytes read template tree One p → Merging bytes read template tree More p
  merging-more bytes read p (inl no_map) = inl no_map
  merging-more bytes read p (inr (inl no_map)) = inr (inl no_map)
  merging-more bytes read p (inr (inr (inl shared))) = inr (inr (inl shared))
  merging-more bytes read p (inr (inr (inr (apart, goes)))) = inr (inr (inr (apart, more _ _ p goes)))

  params-more : (told other : Contents) (name : Option (List ℕ)) → ((n : List ℕ) → told n ≡ other n)
      → (p : Point) → WithParams told name template tree One p → WithParams other name template tree More p
  params-more told other None same p goes = more None tree p goes
  params-more told other (Some name) same p (inl load) = inl load
  params-more told other (Some name) same p (inr (bytes, content, inl refused)) = inr (bytes, subst (λ t. IsContent t bytes) (same name) content, inl refused)
  params-more told other (Some name) same p (inr (bytes, content, inr (read, is, merging))) =
      inr (bytes, subst (λ t. IsContent t bytes) (same name) content, inr (read, is, merging-more bytes read p merging))

module _ (told other : Contents) (same : (n : List ℕ) → told n ≡ other n) where
  pub doing-same : (t : Task) (inputs : Inputs) (p : Point) → Doing t told inputs p → Doing t other inputs p
  doing-same task.Report inputs p came = came
  doing-same task.Evidence inputs p came = came
  doing-same (task.Check proof) inputs p came =
      loading-same file.Proof told other proof.now (λ bytes. Reading RefusesProof IsProof bytes (λ evidence. Ending (IsChecked inputs.rules inputs.tree evidence)))
      (same proof.now) p came

  pub doing-patterns : (t : Task) (inputs : Inputs) (p : Point) → WithPatterns (Doing t told) inputs p → WithPatterns (Doing t other) inputs p
  doing-patterns t inputs p came = patterns-more inputs.texts.rules inputs.rules (Doing t told inputs) (Doing t other inputs) (doing-same t inputs) p came

  pub sources-same : (t : Task) (params : Option (List ℕ)) (sources : Sources) (p : Point)
      → ReadingSources sources (WithParams told params) (Doing t told) p → ReadingSources sources (WithParams other params) (Doing t other) p
  sources-same t params sources p (inl refused) = inl refused
  sources-same t params sources p (inr (tree, read, came)) = inr (
    tree,
    read,
    params-more (string_bytes sources.beside.text) tree
        (λ read joined. WithPatterns (Doing t told) (inputs_over sources read joined)) (λ read joined. WithPatterns (Doing t other) (inputs_over sources read joined))
        (λ read joined q goes. doing-patterns t (inputs_over sources read joined) q goes) told other params same p came,
  )
