-- What stops the work where two trees are not merged: the refusal of the first of the two that is no map, or of a key that both have.
use Rattle.std.proofs.Common.{◌≡◌, ℕ, List, None, ap, inl, inr, subst, ◌∙◌}
use Rattle.doc_values.specs.Tree.{Forest}
use Rattle.doc_values.specs.declared.doc.merge.MergeRefusal.{MergeRefusal}
use Rattle.doc_values.specs.declared.doc.merge.MergeRefusal.TheVariants as merge
use Rattle.guard_ends.specs.Order.{Ends, Merging, refused}
use Rattle.guard_ends.specs.declared.ends.Refusal.TheVariants.{At}
use Rattle.guard_ends.specs.declared.ends.RefusalKind.TheVariants.{NotAMap, SharedKey}
use Rattle.guard_ends.specs.declared.ends.Which.TheVariants as file
use Rattle.guard_inputs.specs.code.Joined.{Nowhere}
use Rattle.guard_inputs.specs.code.Merging.{IsMergeRefused}
use Rattle.guard_inputs.specs.code.Refusals.{said}
use Rattle.guard_inputs.specs.code.Stops.{IsStop, NoneRose}
use Rattle.guard_inputs.specs.declared.refused.Refused.{Refused}
use Rattle.guard_inputs.specs.declared.stop.Stop.TheVariants as stop

module _ (template params : List ℕ) (first second : Forest) (refusal : MergeRefusal) (at : ℕ) (r : Refused) (bad : IsMergeRefused first second refusal) where
  abbrev Stops : Type 0
  Stops = IsStop (Merging params second template first Nowhere) NoneRose NoneRose (stop.Refused r)

  pub first-no-map : refusal ≡ merge.FirstNotMap at → said r ≡ refused template (At file.Template NotAMap at None) → Stops
  first-no-map is line =
      let why : IsMergeRefused first second (merge.FirstNotMap at) = subst (λ (m : MergeRefusal). IsMergeRefused first second m) is bad in
      inl (why.0, ap Ends line ∙ ap (λ (n : ℕ). Ends (refused template (At file.Template NotAMap n None))) why.1)

  pub second-no-map : refusal ≡ merge.SecondNotMap at → said r ≡ refused params (At file.Params NotAMap at None) → Stops
  second-no-map is line =
      let why : IsMergeRefused first second (merge.SecondNotMap at) = subst (λ (m : MergeRefusal). IsMergeRefused first second m) is bad in
      inr (inl (why.0, (why.1, ap Ends line ∙ ap (λ (n : ℕ). Ends (refused params (At file.Params NotAMap n None))) why.2)))

  pub key-shared : refusal ≡ merge.SharedKey at → said r ≡ refused params (At file.Params SharedKey at None) → Stops
  key-shared is line =
      let why : IsMergeRefused first second (merge.SharedKey at) = subst (λ (m : MergeRefusal). IsMergeRefused first second m) is bad in
      inr (inr (inl (why.0, why.1, (at, why.2, ap Ends line))))
