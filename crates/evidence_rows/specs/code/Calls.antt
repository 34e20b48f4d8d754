-- Calls of functions, and what they answer where cited lines give their arguments.
use Rattle.std.specs.Prelude.{ℕ, ◌≡◌, List, Some}
use Rattle.evidence_lines.specs.declared.line.Line.{Line}
use Rattle.guard_syntax.specs.Syntax.{Expr, Exprs, File, function as call_of}
use Rattle.guard_syntax.specs.declared.function.Function.{Function}
use Rattle.guard_syntax.specs.declared.row.Row.{Row}
use Rattle.rule_names.specs.Pieces.{OfExpr, piece_at}
use Rattle.rule_names.specs.Uses.{function_named}
use Rattle.rule_meaning.specs.Functions.{Functions, MadeRow}
use Rattle.rule_meaning.specs.StoreModel.{StoreModel}
use Rattle.evidence_rules.specs.CitedLines.{GiveArgs}

-- an expression is the call of a function with arguments
pub record IsCall (e : Expr) (f : Function) (args : Exprs) : Type 0 where
  pub site : ℕ
  pub name : List ℕ
  pub call_is : e ≡ call_of site name args
  pub means : function_named name ≡ Some f

-- so is the expression of a site
pub record IsCallAt (file : File) (site : ℕ) (f : Function) (args : Exprs) : Type 0 where
  pub expr : Expr
  pub stands : piece_at file site ≡ Some (OfExpr expr)
  pub call : IsCall expr f args

-- what the call of a site answers, where cited lines give its arguments
pub record IsAnswered (known : StoreModel) (lines : List Line) (frame site : ℕ) (cites : List ℕ) (answer : List MadeRow) : Type 0 where
  pub called : Function
  pub args : Exprs
  pub given : List (List Row)
  pub stands : IsCallAt known.file site called args
  pub gives : GiveArgs known.file lines frame args cites given
  pub answers : Functions known called site given answer
