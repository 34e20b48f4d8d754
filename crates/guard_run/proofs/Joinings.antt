-- A template becomes the data tree: by itself, or with parameters that were loaded. By the cases of whether there are some.
use Rattle.std.proofs.Common.{◌≡◌, ℕ, List, Option, Some, None, ap, inl, inr, refl, string_bytes, subst, ◌∙◌}
use Rattle.doc_values.specs.Tree.{Forest}
use Rattle.report_text.specs.Texts.{Parameters}
use Rattle.guard_ends.specs.Inputs.{IsTemplate, RefusesData, format_of}
use Rattle.guard_ends.specs.Order.{Alone, Contents, Inputs, Merging, Point, Reading, WithParams, Work}
use Rattle.guard_ends.specs.declared.ends.Which.TheVariants as file
use Rattle.guard_ends.specs.declared.format.Format.{Format}
use Rattle.guard_inputs.specs.code.Inputs.{AreAlone, inputs_of}
use Rattle.guard_inputs.specs.code.Joined.{AreJoined, AreParams, LoadingParams, ReadingParams, WithLoaded, with_data}
use Rattle.guard_inputs.specs.declared.inputs.DataText.{DataText}
use Rattle.guard_inputs.specs.declared.inputs.Inputs as code
use Rattle.guard_inputs.specs.declared.inputs.Sources.{Sources}
use Rattle.guard_inputs.proofs.Loads.{text-data}
use Rattle.guard_run.specs.code.Stages.{JoiningInputs, ReadingSources, WithPatterns}
use Rattle.guard_run.proofs.Stages.{merging-more, template-read}

module _ (told : Contents) (template : List ℕ) (tree : Forest) where
  -- parameters are not loaded
  pub params-before : (name : Option (List ℕ)) (GoesOn : Option Parameters → Forest → Work)
      → (p : Point) → LoadingParams told name p → WithParams told name template tree GoesOn p
  params-before None GoesOn p never = absurd never
  params-before (Some name) GoesOn p (inl load) = inl load
  params-before (Some name) GoesOn p (inr (bytes, content, refused)) =
      inr (bytes, content, inl (refused.0, text-data file.Params (format_of name) refl bytes refused.0 refused.1, refused.2))

  module _ (One More : Option Parameters → Forest → Work) (more : (params : Option Parameters) (t : Forest) (p : Point) → One params t p → More params t p) where
    reading-more : (params : DataText) (p : Point) → ReadingParams params template tree One p → ReadingParams params template tree More p
    reading-more params p (inl refused) = inl refused
    reading-more params p (inr (read, is, merging)) = inr (read, is, merging-more template tree One More more (string_bytes params.text) read p merging)

    -- what comes of parameters that were loaded
    pub loaded-params : (name : Option (List ℕ)) (params : Option DataText) → AreParams told name params
        → (p : Point) → WithLoaded params template tree One p → WithParams told name template tree More p
    loaded-params None None are p goes = more None tree p goes
    loaded-params None (Some params) are p came = absurd are
    loaded-params (Some name) None are p came = absurd are
    loaded-params (Some name) (Some params) are p came =
        let bytes = string_bytes params.text in
        inr (
          bytes,
          are.text,
          subst (λ (f : Format). Reading (RefusesData file.Params f) (IsTemplate f) bytes (λ read. Merging bytes read template tree More) p) are.format
              (reading-more params p came),
        )

-- inputs that have no parameters are those with none
alone-same : (inputs : Inputs) → inputs.texts.params ≡ None → inputs ≡ with_data inputs None inputs.tree
alone-same inputs none = ap (λ (params : Option Parameters). with_data inputs params inputs.tree) none

-- what comes of inputs that were joined
pub joined-comes : (params : Option DataText) (inputs : Inputs) (joined : code.Inputs) (GoesOn : Inputs → Work) → inputs.texts.params ≡ None → AreJoined params inputs joined
    → (p : Point) → WithPatterns GoesOn (inputs_of joined) p → JoiningInputs (WithLoaded params) inputs GoesOn p
joined-comes None inputs joined GoesOn none are p came = subst (λ (i : Inputs). WithPatterns GoesOn i p) (are ∙ alone-same inputs none) came
joined-comes (Some params) inputs joined GoesOn none (read, is, (apart, same)) p came =
    inr (read, is, inr (inr (inr (apart, subst (λ (i : Inputs). WithPatterns GoesOn i p) same came))))

-- what comes of a template by itself
pub alone-comes : (sources : Sources) (inputs : code.Inputs) (GoesOn : Inputs → Work) → AreAlone sources inputs
    → (p : Point) → WithPatterns GoesOn (inputs_of inputs) p → ReadingSources sources Alone GoesOn p
alone-comes sources inputs GoesOn are p came =
    template-read sources Alone GoesOn inputs are p
    (joined-comes None (inputs_of inputs) inputs GoesOn (ap (λ (i : Inputs). i.texts.params) are.same) refl p came)
