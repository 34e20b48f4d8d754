-- Parameters that were read, and what comes of merging them; where they are refused, the work stops.
use Rattle.std.proofs.Common.{◌≡◌, ℕ, List, MatchResult, Result, Ok, Err, inl, inr, string_bytes, subst}
use Rattle.std.specs.Prelude.{IsErrAnd}
use Rattle.doc_values.specs.Tree.{Forest}
use Rattle.report_text.specs.Texts.{Parameters}
use Rattle.guard_ends.specs.Inputs.{IsTemplate, RefusesData}
use Rattle.guard_ends.specs.Order.{Inputs, Merging, Refusing}
use Rattle.guard_ends.specs.declared.ends.Which.TheVariants as file
use Rattle.guard_inputs.specs.code.Joined.{AreMerged, IsJoinedWith, JoiningParams, Nowhere, ReadingParams}
use Rattle.guard_inputs.specs.code.Stops.{IsNotRead, IsStop, NoneRose}
use Rattle.guard_inputs.specs.declared.inputs.DataText.{DataText}
use Rattle.guard_inputs.specs.declared.inputs.Inputs as code
use Rattle.guard_inputs.specs.declared.stop.Stop.{Stop}
use Rattle.guard_inputs.proofs.Stopping.{IsStop-more, as-rose, at-exit}

module _ (params : DataText) (inputs : Inputs) (text : List ℕ) (is : text ≡ string_bytes params.text) where
  abbrev Joins : Result code.Inputs Stop → Type 0
  Joins r = MatchResult r (IsJoinedWith params inputs) (IsStop (JoiningParams (ReadingParams params) inputs Nowhere) NoneRose NoneRose)

  pub params-merged : (read : Forest) → IsTemplate params.format text read → (r : Result code.Inputs Stop)
      → MatchResult r (AreMerged text read inputs) (IsStop (JoiningParams (Merging text read) inputs Nowhere) NoneRose NoneRose) → Joins r
  params-merged read template (Ok joined) merged =
      (read, subst (λ (b : List ℕ). IsTemplate params.format b read) is template, subst (λ (b : List ℕ). AreMerged b read inputs joined) is merged)
  params-merged read template (Err s) stopped =
      IsStop-more (JoiningParams (Merging (string_bytes params.text) read) inputs Nowhere) (JoiningParams (ReadingParams params) inputs Nowhere)
      NoneRose NoneRose NoneRose NoneRose
      (λ p merging. inr (read, subst (λ (b : List ℕ). IsTemplate params.format b read) is template, merging)) (as-rose NoneRose) (as-rose NoneRose) s
      (subst (λ (b : List ℕ). IsStop (JoiningParams (Merging b read) inputs Nowhere) NoneRose NoneRose s) is stopped)

  pub params-refused : (r : Result code.Inputs Stop) (s : Stop) → IsErrAnd r (λ (y : Stop). y ≡ s) → IsNotRead (RefusesData file.Params params.format) text s → Joins r
  params-refused r s err refused =
      at-exit (IsJoinedWith params inputs) (IsStop (JoiningParams (ReadingParams params) inputs Nowhere) NoneRose NoneRose) r s err
      (IsStop-more (Refusing (RefusesData file.Params params.format) (string_bytes params.text)) (JoiningParams (ReadingParams params) inputs Nowhere)
      NoneRose NoneRose NoneRose NoneRose
      (λ p why. inl why) (as-rose NoneRose) (as-rose NoneRose) s
      (subst (λ (b : List ℕ). IsNotRead (RefusesData file.Params params.format) b s) is refused))
