-- What judging a rule, or the parts outside rules, asks for, and what is so then.
use Rattle.std.specs.Prelude.{ℕ, ◌≡◌, Bool, true, false, List, [], ◌∷◌, Contains, Option, None, Some, slice_get}
use Rattle.evidence_lines.specs.Lines.{line_of}
use Rattle.evidence_lines.specs.declared.line.Line.{Line}
use Rattle.evidence_lines.specs.declared.line.LineKind.{LineKind}
use Rattle.evidence_lines.specs.declared.line.LineKind.TheVariants as kind
use Rattle.evidence_lines.specs.declared.line.Outcome.TheVariants as says
use Rattle.guard_syntax.specs.Syntax.{Disj, Disjs, OptConds, Rule, more_disjs, no_conds, with_conds}
use Rattle.guard_syntax.specs.declared.row.Verdict.{Verdict}
use Rattle.guard_syntax.specs.declared.row.Verdict.TheVariants.{Skip}
use Rattle.rule_meaning.specs.Roots.{root_ref}
use Rattle.rule_names.specs.Depths.{depth_disjs, depth_rule, depths_of}
use Rattle.rule_names.specs.Pieces.{OfRule, Piece}
use Rattle.evidence_rules.specs.CitedLines.{IsLine}
use Rattle.engine_states.specs.code.Adding.{Adds}
use Rattle.engine_states.specs.code.Answers.{AreRuled}
use Rattle.engine_states.specs.code.Evaluated.{Evaluates}
use Rattle.engine_states.specs.code.Leaning.{IsNamed}
use Rattle.engine_states.specs.code.States.{Grows, IsWhole, State}

-- between the judgements of rules all that holds of an engine does, and each line but those of rules is named by a later one
pub record Rests (s : State) : Type 0 where
  pub whole : IsWhole s
  pub named : (number : ℕ) (line : Line) → line_of s.lines number ≡ Some line → (line.kind ≡ kind.Rule → ⊥) → IsNamed s.lines number

-- a rule without parameters, where the lines of all rules that are less deep are there
pub record MayJudge (s : State) (r : Rule) : Type 0 where
  pub among : Contains s.known.file.rules r
  pub plain : r.params ≡ []
  pub ruled : AreRuled s (depth_rule s.known.file (depths_of s.known.file) r)

-- so the parts outside rules, if there are some
pub record MayJudgeLoose (s : State) : Type 0 where
  pub first : Disj
  pub others : Disjs
  pub some : s.known.file.loose ≡ more_disjs first others
  pub ruled : AreRuled s (depth_disjs s.known.file (depths_of s.known.file) s.known.file.loose)

-- it was judged: its line says the verdict
pub record Judges (before after : State) (site : ℕ) (verdict : Verdict) : Type 0 where
  pub rests : Rests after
  pub grows : Grows before after
  pub number : ℕ
  pub at : ℕ
  pub is : IsLine after.lines number kind.Rule at site (says.Verdict verdict)
  pub found : after.rules site ≡ Some number

-- ---- in between

-- a frame is that of the file
abbrev pub IsFileFrame : State → (frame : ℕ) → Type 0
IsFileFrame s frame = slice_get s.frames frame ≡ Some (record { parent = None; site = 0; current = root_ref })

-- the lines that the line of a rule is going to cite were evaluated, and it follows then
pub record IsReady (before after : State) (frame site : ℕ) (cites : List ℕ) (verdict : Verdict) : Type 0 where
  pub bound : ℕ
  pub evaluates : Evaluates before after bound cites
  pub adds : Adds after frame site kind.Rule cites (says.Verdict verdict)

-- ---- the verdict of a rule by what its line cites

abbrev pub has_some : OptConds → Bool
has_some no_conds = false
has_some (with_conds c) = true

-- a rule with conditions stands at a site
abbrev pub has_conditions : Option Piece → Bool
has_conditions (Some (OfRule r)) = has_some r.cond
has_conditions piece = false

-- a line says a verdict
abbrev pub SaysSome : List Line → (number : ℕ) → Verdict → Type 0
SaysSome lines number verdict = (of : LineKind) × (frame site : ℕ) × IsLine lines number of frame site (says.Verdict verdict)

-- the second line says it; where there is one alone, that says it if it is no line of conditions, and else the rule is SKIP
abbrev pub IsRuledBy : List Line → (conditions : Bool) → (cites : List ℕ) → Verdict → Type 0
IsRuledBy lines conditions (c ∷ d ∷ []) verdict = SaysSome lines d verdict
IsRuledBy lines true (c ∷ []) verdict = verdict ≡ Skip
IsRuledBy lines false (c ∷ []) verdict = SaysSome lines c verdict
IsRuledBy lines conditions cites verdict = ⊥
