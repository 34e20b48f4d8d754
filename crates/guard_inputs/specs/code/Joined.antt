-- A template that becomes the data tree, with parameters or without, by the types of the code.
use Rattle.std.specs.Prelude.{ℕ, ◌≡◌, List, Option, Some, None, option_map, string_bytes}
use Rattle.std.specs.Borrow.{Bor}
use Rattle.doc_values.specs.Tree.{Forest, size}
use Rattle.report_text.specs.Texts.{Parameters}
use Rattle.guard_ends.specs.Inputs.{IsTemplate, RefusesData}
use Rattle.doc_values.specs.Merge.{merged}
use Rattle.guard_ends.specs.Order.{Alone, AreApart, Contents, Inputs, Joining, Loading, Merging, Reading, Refusing, Work}
use Rattle.guard_ends.specs.declared.ends.Which.TheVariants as file
use Rattle.guard_inputs.specs.code.Inputs.{IsLoaded, inputs_of}
use Rattle.guard_inputs.specs.code.Loading.{RefusesText}
use Rattle.guard_inputs.specs.declared.inputs.DataText.{DataText}
use Rattle.guard_inputs.specs.declared.inputs.Inputs as code

-- inputs with another data tree, and with these parameters
abbrev pub with_data : Inputs → Option Parameters → Forest → Inputs
with_data inputs params tree = record {
  rules = inputs.rules;
  tree = tree;
  texts = record { rules = inputs.texts.rules; template = inputs.texts.template; params = params };
}

-- the template of inputs becomes the data tree
abbrev pub JoiningParams : Joining → Inputs → (Option Parameters → Forest → Work) → Work
JoiningParams Joined inputs = Joined inputs.texts.template inputs.tree

-- the work does not go on
abbrev pub Nowhere : Option Parameters → Forest → Work
Nowhere params tree p = ⊥

-- a name, if there is one
abbrev pub name_in : Option (Bor (List ℕ)) → Option (List ℕ)
name_in = option_map (λ name. name.now)

-- parameters of this name, if one is given, are loaded, and refused if they are no text
abbrev pub LoadingParams : Contents → Option (List ℕ) → Work
LoadingParams told None p = ⊥
LoadingParams told (Some name) p = Loading file.Params told name (Refusing (RefusesText file.Params)) p

-- parameters that were loaded from a file of this name, if one is given
abbrev pub AreParams : Contents → Option (List ℕ) → Option DataText → Type 0
AreParams told None None = Unit {0}
AreParams told (Some name) (Some params) = IsLoaded told name params
AreParams _ _ _ = ⊥

-- parameters are read, and merged into a template
abbrev pub ReadingParams : DataText → Joining
ReadingParams params template tree GoesOn =
    Reading (RefusesData file.Params params.format) (IsTemplate params.format) (string_bytes params.text) (λ read. Merging (string_bytes params.text) read template tree GoesOn)

-- if there are some
abbrev pub WithLoaded : Option DataText → Joining
WithLoaded None = Alone
WithLoaded (Some params) = ReadingParams params

-- inputs to which parameters of this text and this tree were added
abbrev pub AreMerged : (text : List ℕ) → (params : Forest) → Inputs → code.Inputs → Type 0
AreMerged text params inputs joined = AreApart inputs.tree params
    × (inputs_of joined ≡ with_data inputs (Some (record { text = text; first = size inputs.tree })) (merged inputs.tree params))

-- parameters of this text
abbrev pub IsJoinedWith : DataText → Inputs → code.Inputs → Type 0
IsJoinedWith params inputs joined = (read : Forest) × IsTemplate params.format (string_bytes params.text) read × AreMerged (string_bytes params.text) read inputs joined

-- if there are some
abbrev pub AreJoined : Option DataText → Inputs → code.Inputs → Type 0
AreJoined None inputs joined = inputs_of joined ≡ inputs
AreJoined (Some params) inputs joined = IsJoinedWith params inputs joined
