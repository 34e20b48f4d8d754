-- What is known from line to line, the first line that does not follow, and verdicts that are wanting.
use Rattle.std.specs.Prelude.{ℕ, ◌≡◌, ◌≤◌, ◌⊎◌, Contains, suc, List, [], ◌++◌, length, take}
use Rattle.evidence_lines.specs.declared.line.Line.{Line}
use Rattle.evidence_lines.specs.declared.version.Version.{Version}
use Rattle.guard_syntax.specs.Syntax.{Rule, Disjs, no_disjs, more_disjs}
use Rattle.rule_meaning.specs.StoreModel.{StoreModel, Made}
use Rattle.evidence_rules.specs.Follows.{AllFollow}
use Rattle.rule_meaning.specs.Seeing.{grown}
use Rattle.evidence_lookups.specs.code.JudgedSites.{IsUnjudged}

-- trees of which this holds are known thereafter, and of no others does it hold
abbrev pub Leads : (List Made → Type 0) → (known after : StoreModel) → Type 0
Leads Holds known after = (more : List Made) × Holds more × (after ≡ grown known more) × ((other : List Made) → Holds other → other ≡ more)

-- this is known behind lines that follow: whatever lines come behind them, they follow from the start where they follow from here
abbrev pub IsKnownBehind : Version → (start : StoreModel) → List Line → StoreModel → Type 0
IsKnownBehind version start lines known =
    ((rest : List Line) → AllFollow version start [] (lines ++ rest) → AllFollow version known lines rest)
    × ((rest : List Line) → AllFollow version known lines rest → AllFollow version start [] (lines ++ rest))

-- the first line that does not follow has this number
abbrev pub IsFaultAt : Version → (start : StoreModel) → List Line → ℕ → Type 0
IsFaultAt version start lines number =
    (before : ℕ) × (number ≡ suc before) × (number ≤ length lines) × AllFollow version start [] (take before lines)
    × (AllFollow version start [] (take number lines) → ⊥)

-- a rule without parameters has no line
abbrev pub IsRuleWanting : List Line → List Rule → Type 0
IsRuleWanting lines rules = (r : Rule) × Contains rules r × (r.params ≡ []) × IsUnjudged lines r.site

-- or there are parts outside rules, which have none
abbrev pub IsLooseWanting : List Line → Disjs → Type 0
IsLooseWanting lines no_disjs = ⊥
IsLooseWanting lines (more_disjs d ds) = IsUnjudged lines 0

abbrev pub IsWanting : List Line → List Rule → Disjs → Type 0
IsWanting lines rules loose = IsRuleWanting lines rules ⊎ IsLooseWanting lines loose
