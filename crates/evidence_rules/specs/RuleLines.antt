-- What the `rule` lines of evidence say of the rules of a file.
use Rattle.std.specs.Prelude.{ℕ, ◌≡◌, List, [], ◌∷◌}
use Rattle.evidence_lines.specs.declared.line.Line.{Line}
use Rattle.evidence_lines.specs.declared.line.LineKind.TheVariants as kind
use Rattle.evidence_lines.specs.declared.line.Outcome.TheVariants as says
use Rattle.guard_syntax.specs.Named.{Named}
use Rattle.guard_syntax.specs.Syntax.{Rule, Disjs, no_disjs, more_disjs}
use Rattle.guard_syntax.specs.declared.row.Verdict.{Verdict}
use Rattle.evidence_rules.specs.CitedLines.{IsLine}

-- a `rule` line of a site says the verdict
abbrev pub IsSaidOf : List Line → (site : ℕ) → Verdict → Type 0
IsSaidOf lines site verdict = (number frame : ℕ) × IsLine lines number kind.Rule frame site (says.Verdict verdict)

-- the parts outside rules have one verdict, if there are some
abbrev pub AreOfLoose : List Line → Disjs → List Verdict → Type 0
AreOfLoose lines no_disjs verdicts = verdicts ≡ []
AreOfLoose lines (more_disjs d ds) (verdict ∷ []) = IsSaidOf lines 0 verdict
AreOfLoose lines (more_disjs d ds) verdicts = ⊥

-- a rule with parameters has no verdict; one without has the first
abbrev pub AreFrom : (params : List Named) → (Verdict → Type 0) → (List Verdict → Type 0) → List Verdict → Type 0
AreFrom [] Is AreOthers [] = ⊥
AreFrom [] Is AreOthers (verdict ∷ verdicts) = Is verdict × AreOthers verdicts
AreFrom (p ∷ params) Is AreOthers verdicts = AreOthers verdicts

-- what `rule` lines say of rules without parameters, in the order of the file, and then of the parts outside rules
abbrev pub AreOfRules : List Line → List Rule → Disjs → List Verdict → Type 0
AreOfRules lines [] loose verdicts = AreOfLoose lines loose verdicts
AreOfRules lines (r ∷ rules) loose verdicts = AreFrom r.params (IsSaidOf lines r.site) (AreOfRules lines rules loose) verdicts
