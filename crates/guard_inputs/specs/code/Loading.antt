-- Files that are loaded, or are not.
use Rattle.std.specs.Prelude.{ℕ, ◌≡◌, ◌⊎◌, List}
use Rattle.doc_values.specs.Limits.{evidence_limit, rules_limit, template_limit}
use Rattle.guard_ends.specs.Inputs.{IsNoText, IsTooLong}
use Rattle.guard_ends.specs.Order.{Contents, Loading, Refusing}
use Rattle.guard_ends.specs.declared.ends.Refusal.{Refusal}
use Rattle.guard_ends.specs.declared.ends.Refusal.TheVariants.{NotText, TooLong}
use Rattle.guard_ends.specs.declared.ends.Which.{Which}
use Rattle.guard_ends.specs.declared.ends.Which.TheVariants as file
use Rattle.guard_inputs.specs.code.Stops.{IsStop, NoneRose, Rose}
use Rattle.guard_inputs.specs.declared.stop.Stop.{Stop}

-- how many bytes a file may have
abbrev pub limit_of : Which → ℕ
limit_of file.Rules = rules_limit
limit_of file.Template = template_limit
limit_of file.Params = template_limit
limit_of file.Proof = evidence_limit
limit_of file.Tests = template_limit

-- a file is refused for its length
abbrev pub RefusesLength : Which → List ℕ → Refusal → Type 0
RefusesLength which bytes refusal = (refusal ≡ TooLong which) × IsTooLong (limit_of which) bytes

-- or since it is no text
abbrev pub RefusesText : Which → List ℕ → Refusal → Type 0
RefusesText which bytes refusal = RefusesLength which bytes refusal ⊎ ((refusal ≡ NotText which) × IsNoText (limit_of which) bytes)

-- why a file of this name is not loaded, or not read: it is refused so, or its count rose
abbrev pub IsNotLoaded : Which → Contents → (name : List ℕ) → (List ℕ → Refusal → Type 0) → (before after : List ℕ → ℕ) → Stop → Type 0
IsNotLoaded which told name Refuses before after = IsStop (Loading which told name (Refusing Refuses)) (Rose before after) NoneRose
