-- The sources of a drill, by the types of the code.
use Rattle.std.specs.Prelude.{ℕ, ◌≡◌, string_bytes}
use Rattle.rule_names.specs.code.Files.{file_of}
use Rattle.guard_drill.specs.DrillTexts.{template_text}
use Rattle.guard_ends.specs.Drill.{drill_rules}
use Rattle.guard_ends.specs.Inputs.{IsRuleFile}
use Rattle.guard_ends.specs.declared.format.Format.TheVariants.{Json}
use Rattle.guard_inputs.specs.declared.inputs.Sources.{Sources}

-- sources of a drill of so many resources, of which the rules are read
pub record AreOfDrill (count : ℕ) (sources : Sources) : Type 0 where
  pub source : string_bytes sources.rules.text ≡ drill_rules
  pub read : IsRuleFile drill_rules (file_of sources.rules.file)
  pub text : string_bytes sources.beside.text ≡ template_text count
  pub format : sources.beside.format ≡ Json
