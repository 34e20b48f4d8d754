-- What the first of the lines that a line names says, and which are left behind it.
use Rattle.std.specs.Prelude.{ℕ, ◌≡◌, List, [], ◌∷◌, Option, Some, None}
use Rattle.evidence_lines.specs.declared.line.Line.{Line}
use Rattle.evidence_lines.specs.declared.line.LineKind.TheVariants as kind
use Rattle.evidence_lines.specs.declared.line.Outcome.TheVariants as says
use Rattle.guard_syntax.specs.Syntax.{Conds, OptConds, no_conds, with_conds}
use Rattle.guard_syntax.specs.declared.row.Ref.{Ref}
use Rattle.guard_syntax.specs.declared.row.Row.{Row}
use Rattle.guard_syntax.specs.declared.row.Row.TheVariants.{Found, Missing, Unmade}
use Rattle.guard_syntax.specs.declared.row.Verdict.{Verdict}
use Rattle.guard_syntax.specs.declared.row.Verdict.TheVariants.{Pass, Fail}
use Rattle.evidence_rules.specs.CitedLines.{IsLine}
use Rattle.evidence_rules.specs.Follows.{conds_site}

-- the site of conditions, if there are some
abbrev pub opt_conds_site : OptConds → Option ℕ
opt_conds_site no_conds = None
opt_conds_site (with_conds conditions) = Some (conds_site conditions)

module _ (lines : List Line) (frame : ℕ) where
  -- conditions have the first line
  abbrev pub IsGuard : Conds → (cites : List ℕ) → Verdict → (left : List ℕ) → Type 0
  IsGuard conditions [] said left = ⊥
  IsGuard conditions (c ∷ cites) said left = IsLine lines c kind.Conj frame (conds_site conditions) (says.Verdict said) × (left ≡ cites)

  -- where there are none, they count as PASS
  abbrev pub IsSomeGuard : OptConds → (cites : List ℕ) → Verdict → (left : List ℕ) → Type 0
  IsSomeGuard no_conds cites said left = (said ≡ Pass) × (left ≡ cites)
  IsSomeGuard (with_conds conditions) cites said left = IsGuard conditions cites said left

-- a row that was found has the first line; any other has none, and is FAIL
abbrev pub SaysRow : (Ref → (number : ℕ) → Verdict → Type 0) → Row → (cites : List ℕ) → Verdict → (left : List ℕ) → Type 0
SaysRow Says (Found v) [] verdict left = ⊥
SaysRow Says (Found v) (c ∷ cites) verdict left = Says v c verdict × (left ≡ cites)
SaysRow Says (Missing v step) cites verdict left = (verdict ≡ Fail) × (left ≡ cites)
SaysRow Says (Unmade site) cites verdict left = (verdict ≡ Fail) × (left ≡ cites)
