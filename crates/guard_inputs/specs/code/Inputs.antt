-- Rules and data, loaded and read, by the types of the code.
use Rattle.std.specs.Prelude.{ℕ, ◌≡◌, List, Option, None, string_bytes}
use Rattle.doc_values.specs.Tree.{Forest}
use Rattle.rule_names.specs.code.Files.{file_of}
use Rattle.report_text.specs.Texts.{Parameters}
use Rattle.report_text.specs.code.SeenTexts.{see_texts}
use Rattle.guard_ends.specs.Inputs.{IsRuleFile, IsTemplate, format_of}
use Rattle.guard_ends.specs.Order.{Contents, Inputs, IsContent}
use Rattle.guard_inputs.specs.declared.inputs.DataText.{DataText}
use Rattle.guard_inputs.specs.declared.inputs.Inputs as code
use Rattle.guard_inputs.specs.declared.inputs.Sources.{Sources}

-- what the inputs of the code are
abbrev pub inputs_of : code.Inputs → Inputs
inputs_of inputs = record { rules = file_of inputs.rules.now; tree = inputs.tree; texts = see_texts inputs.texts }

-- the inputs that sources make, with this data tree and these parameters
abbrev pub inputs_over : Sources → Option Parameters → Forest → Inputs
inputs_over sources params tree = record {
  rules = file_of sources.rules.file;
  tree = tree;
  texts = record { rules = string_bytes sources.rules.text; template = string_bytes sources.beside.text; params = params };
}

-- a text that was loaded from a file of this name
pub record IsLoaded (told : Contents) (name : List ℕ) (loaded : DataText) : Type 0 where
  pub text : IsContent (told name) (string_bytes loaded.text)
  pub format : loaded.format ≡ format_of name

-- sources that were loaded from files of these names, of which the rules are read
pub record AreLoaded (told : Contents) (rules name : List ℕ) (sources : Sources) : Type 0 where
  pub source : IsContent (told rules) (string_bytes sources.rules.text)
  pub read : IsRuleFile (string_bytes sources.rules.text) (file_of sources.rules.file)
  pub text : IsLoaded told name sources.beside

-- inputs that were read from sources, without parameters
pub record AreAlone (sources : Sources) (inputs : code.Inputs) : Type 0 where
  pub same : inputs_of inputs ≡ inputs_over sources None inputs.tree
  pub read : IsTemplate sources.beside.format (string_bytes sources.beside.text) inputs.tree
