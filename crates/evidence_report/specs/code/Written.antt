-- What a sink has taken, where it tells that.
use Rattle.std.specs.Prelude.{ℕ, ◌≡◌, ◌≤◌, ◌++◌, List, Option, Some, Result, IsErrOf, IsSome, OnErr, OnOk}
use Rattle.std.specs.Option.{ForSome}
use Rattle.std.specs.List.{flat_map}
use Rattle.guard_io.specs.Outside.{FaultCounted, IsPrefix}
use Rattle.report_text.specs.EntryLines.{entry_line}
use Rattle.report_text.specs.Texts.{Texts}
use Rattle.report_text.specs.declared.put.ReportFault.{ReportFault}
use Rattle.report_text.specs.declared.put.ReportFault.TheVariants as fault
use Rattle.rule_meaning.specs.Fails.{Entry}
use Rattle.rule_meaning.specs.StoreModel.{StoreModel}

-- the whole text
abbrev pub Takes : (before : Option (List ℕ)) → (text : List ℕ) → (after : Option (List ℕ)) → Type 0
Takes before text after = ForSome before (λ held. after ≡ Some (held ++ text))

-- a front of it
abbrev pub TakesFront : (before : Option (List ℕ)) → (text : List ℕ) → (after : Option (List ℕ)) → Type 0
TakesFront before text after = ForSome before (λ held. (front : List ℕ) × IsPrefix front text × (after ≡ Some (held ++ front)))

-- what a call does that writes a text to a sink which held `before` and had counted `was` faults: the sink takes the text, or a front of it and an error;
-- it goes on telling what it took; no fault is forgotten, and `Failed` comes only where one was counted
pub record Writes {A : Type 0} (before after : Option (List ℕ)) (was now : ℕ) (text : List ℕ) (result : Result A ReportFault) : Type 0 where
  pub ok : OnOk result (Takes before text after)
  pub err : OnErr result (TakesFront before text after)
  pub tells : IsSome before → IsSome after
  pub failed : IsErrOf result fault.Failed → FaultCounted was now
  pub kept : was ≤ now

-- the lines of entries over a store, by the texts in which places are told
abbrev pub entry_lines : StoreModel → Texts → List Entry → List ℕ
entry_lines known texts es = flat_map (entry_line known.file known.template texts) es
