-- What lines say in a state is said in one that it grows into.
use Rattle.std.proofs.Common.{ℕ, sym, subst, List, ◌++◌, Option}
use Rattle.evidence_lines.specs.declared.line.Line.{Line}
use Rattle.evidence_lines.specs.declared.line.LineKind.{LineKind}
use Rattle.evidence_lines.specs.declared.line.Outcome.{Outcome}
use Rattle.guard_syntax.specs.Syntax.{Body, Expr, Exprs, File, OptExpr, Query, Step}
use Rattle.guard_syntax.specs.declared.row.Ref.{Ref}
use Rattle.guard_syntax.specs.declared.row.Row.{Row}
use Rattle.guard_syntax.specs.declared.row.Verdict.{Verdict}
use Rattle.evidence_rules.specs.CitedLines.{GiveArgs, GivesExpr, GivesQuery, GivesStep, GivesVariable, IsLine}
use Rattle.evidence_rules.specs.Follows.{GivesBefore, GivesFurther, GivesRight, HasValue, SayRows, SaysBody, SaysVerdict}
use Rattle.engine_states.specs.code.States.{Grows, IsWhole, State}
use Rattle.engine_states.proofs.Evaluating.{same-file}
use Rattle.engine_states.proofs.SaidStays.{GiveArgs-stays, GivesBefore-stays, GivesExpr-stays, GivesFurther-stays, GivesQuery-stays, GivesRight-stays, GivesStep-stays, GivesVariable-stays, IsLine-stays, SayBodies-stays, SaysBody-stays, value_of-stays}

module _ (a b : State) (grows : Grows a b) (whole : IsWhole a) where
  -- more lines, and the same file
  by-lines : (P : List Line → Type 0) → P (a.lines ++ grows.more_lines) → P b.lines
  by-lines P here = subst P (sym grows.lines) here

  by-file : (P : File → List Line → Type 0) → P a.known.file (a.lines ++ grows.more_lines) → P b.known.file b.lines
  by-file P here = subst (λ (f : File). P f b.lines) (sym (same-file a b grows whole)) (by-lines (P a.known.file) here)

  pub line-later : (number : ℕ) (of : LineKind) (frame site : ℕ) (outcome : Outcome) → IsLine a.lines number of frame site outcome → IsLine b.lines number of frame site outcome
  line-later number of frame site outcome is = by-lines (λ ls. IsLine ls number of frame site outcome) (IsLine-stays a.lines grows.more_lines number of frame site outcome is)

  pub value-later : (frame : ℕ) (v : Ref) → HasValue a.known a.lines frame v → HasValue b.known b.lines frame v
  value-later frame v has = by-lines (λ ls. HasValue b.known ls frame v) (value_of-stays a.lines grows.more_lines frame v has)

  -- ---- rows

  module _ (frame : ℕ) where
    pub step-later : (p : Step) (number : ℕ) (rows : List Row) → GivesStep a.known.file a.lines frame p number rows → GivesStep b.known.file b.lines frame p number rows
    step-later p number rows gives = by-file (λ f ls. GivesStep f ls frame p number rows) (GivesStep-stays a.known.file a.lines grows.more_lines frame p number rows gives)

    pub query-later : (q : Query) (number : ℕ) (rows : List Row) → GivesQuery a.known.file a.lines frame q number rows → GivesQuery b.known.file b.lines frame q number rows
    query-later q number rows gives = by-file (λ f ls. GivesQuery f ls frame q number rows) (GivesQuery-stays a.known.file a.lines grows.more_lines frame q number rows gives)

    pub expr-later : (e : Expr) (number : ℕ) (rows : List Row) → GivesExpr a.known.file a.lines frame e number rows → GivesExpr b.known.file b.lines frame e number rows
    expr-later e number rows gives = by-file (λ f ls. GivesExpr f ls frame e number rows) (GivesExpr-stays a.known.file a.lines grows.more_lines frame e number rows gives)

    pub args-later : (es : Exprs) (cites : List ℕ) (given : List (List Row)) → GiveArgs a.known.file a.lines frame es cites given → GiveArgs b.known.file b.lines frame es cites given
    args-later es cites given gives = by-file (λ f ls. GiveArgs f ls frame es cites given) (GiveArgs-stays a.known.file a.lines grows.more_lines frame es cites given gives)

    pub variable-later : (site number : ℕ) (rows : List Row) → GivesVariable a.known.file a.lines frame site number rows → GivesVariable b.known.file b.lines frame site number rows
    variable-later site number rows gives =
        by-file (λ f ls. GivesVariable f ls frame site number rows) (GivesVariable-stays a.known.file a.lines grows.more_lines frame site number rows gives)

    pub before-later : (q : Query) (i : ℕ) (cites : List ℕ) (rows : List Row) → GivesBefore a.known a.lines frame q i cites rows → GivesBefore b.known b.lines frame q i cites rows
    before-later q i cites rows gives =
        by-lines (λ ls. GivesBefore b.known ls frame q i cites rows)
        (GivesBefore-stays a.known b.known (sym (same-file a b grows whole)) a.lines grows.more_lines frame q i cites rows gives)

    pub further-later : (p : Step) (cites : List ℕ) (rows : List Row) → GivesFurther a.known a.lines frame p cites rows → GivesFurther b.known b.lines frame p cites rows
    further-later p cites rows gives =
        by-lines (λ ls. GivesFurther b.known ls frame p cites rows)
        (GivesFurther-stays a.known b.known (sym (same-file a b grows whole)) a.lines grows.more_lines frame p cites rows gives)

    pub right-later : (right : OptExpr) (cites : List ℕ) (rows : List Row) → GivesRight a.known a.lines frame right cites rows → GivesRight b.known b.lines frame right cites rows
    right-later right cites rows gives =
        by-lines (λ ls. GivesRight b.known ls frame right cites rows)
        (GivesRight-stays a.known b.known (sym (same-file a b grows whole)) a.lines grows.more_lines frame right cites rows gives)

  -- ---- verdicts

  pub verdict-later : (of : LineKind) (frame site number : ℕ) (verdict : Verdict) → SaysVerdict a.known a.lines of frame site number verdict → SaysVerdict b.known b.lines of frame site number verdict
  verdict-later of frame site number verdict is = line-later number of frame site _ is

  pub body-later : (frame : ℕ) (x : Body) (v : Ref) (number : ℕ) (verdict : Verdict) → SaysBody a.known a.lines frame x v number verdict → SaysBody b.known b.lines frame x v number verdict
  body-later frame x v number verdict says_it =
      by-lines (λ ls. SaysBody b.known ls frame x v number verdict) (SaysBody-stays a.known b.known a.lines grows.more_lines frame x v number verdict says_it)

  pub bodies-later : (frame : ℕ) (x : Body) (stop : Option Verdict) (rows : List Row) (cites : List ℕ) (verdicts : List Verdict)
      → SayRows a.known a.lines (SaysBody a.known a.lines frame x) stop rows cites verdicts → SayRows b.known b.lines (SaysBody b.known b.lines frame x) stop rows cites verdicts
  bodies-later frame x stop rows cites verdicts say =
      by-lines (λ ls. SayRows b.known ls (SaysBody b.known ls frame x) stop rows cites verdicts)
      (SayBodies-stays a.known b.known a.lines grows.more_lines frame x stop rows cites verdicts say)
