-- Which verdicts are reported, and what lines say of them.
use Rattle.std.specs.Prelude.{ℕ, ◌≡◌, List, [], ◌∷◌, ◌++◌}
use Rattle.std.specs.List.{flat_map}
use Rattle.evidence_lines.specs.declared.line.Line.{Line}
use Rattle.evidence_lines.specs.declared.line.LineKind.TheVariants as kind
use Rattle.evidence_lines.specs.declared.line.Outcome.TheVariants as says
use Rattle.guard_syntax.specs.Named.{Named}
use Rattle.guard_syntax.specs.Syntax.{Disjs, File, Rule, more_disjs, no_disjs}
use Rattle.guard_syntax.specs.declared.row.Verdict.{Verdict}
use Rattle.evidence_rules.specs.CitedLines.{IsLine}

-- a rule with parameters has no verdict of its own
abbrev pub if_plain : (site : ℕ) → List Named → List ℕ
if_plain site [] = site ∷ []
if_plain site (param ∷ params) = []

abbrev pub site_of_rule : Rule → List ℕ
site_of_rule rule = if_plain rule.site rule.params

abbrev pub rule_sites : List Rule → List ℕ
rule_sites rules = flat_map site_of_rule rules

-- the parts outside rules, if there are some, have the site 0
abbrev pub loose_site : Disjs → List ℕ
loose_site no_disjs = []
loose_site (more_disjs d ds) = 0 ∷ []

-- the site of each rule without parameters in the order of the file, 0 last
abbrev pub reported_sites : File → List ℕ
reported_sites file = rule_sites file.rules ++ loose_site file.loose

-- the `rule` line of a site says a verdict
abbrev pub SaysRule : List Line → (site : ℕ) → Verdict → Type 0
SaysRule lines site verdict = (number frame : ℕ) × IsLine lines number kind.Rule frame site (says.Verdict verdict)

-- verdicts by sites are those of these sites, in order, each as the `rule` line of its site says it
abbrev pub AreVerdicts : List Line → (sites : List ℕ) → List (ℕ × Verdict) → Type 0
AreVerdicts lines [] [] = Unit {0}
AreVerdicts lines (site ∷ sites) (v ∷ verdicts) = (v.0 ≡ site) × SaysRule lines site v.1 × AreVerdicts lines sites verdicts
AreVerdicts lines sites verdicts = ⊥
