-- A line gives one list of rows, and a frame has one value.
use Rattle.std.proofs.Common.{◌≡◌, ℕ, ap, sym, ◌∙◌, subst, List, Option, Some}
use Rattle.evidence_lines.specs.Lines.{line_of}
use Rattle.evidence_lines.specs.declared.line.Line.{Line}
use Rattle.evidence_lines.specs.declared.line.LineKind.{LineKind}
use Rattle.evidence_lines.specs.declared.line.Outcome.{Outcome}
use Rattle.evidence_lines.specs.declared.line.Outcome.TheVariants as says
use Rattle.guard_syntax.specs.Syntax.{Exprs, Expr, File, Query, literal, function, asked, found, query}
use Rattle.guard_syntax.specs.declared.row.Row.{Row}
use Rattle.guard_syntax.specs.declared.row.Verdict.{Verdict}
use Rattle.rule_names.specs.Resolution.{bind_of}
use Rattle.rule_names.specs.Pieces.{Piece, OfExpr, OfQuery, piece_at}
use Rattle.rule_names.specs.Uses.{expr_in}
use Rattle.rule_names.specs.declared.bind.Bind.{Bind}
use Rattle.rule_names.specs.declared.bind.Bind.TheVariants as bound
use Rattle.evidence_rules.specs.CitedLines.{IsLine, GivesArgument, GivesBound, GivesExpr, GivesPiece, GivesQuery, GivesVariable, args_at, outwards}

-- what stands in an option is one
pub one-there : {A : Type 0} (o : Option A) (x y : A) → o ≡ Some x → o ≡ Some y → x ≡ y
one-there o x y is also = cc

one-outcome : (o : Option Line) (l m : Line) (a b : Outcome) → o ≡ Some l → o ≡ Some m → l.outcome ≡ a → m.outcome ≡ b → a ≡ b
one-outcome o l m a b is also x y = sym x ∙ ap (λ (line : Line). line.outcome) (one-there o l m is also) ∙ y

rows-in : (a b : List Row) → says.Rows a ≡ says.Rows b → a ≡ b
rows-in a b same = cc

verdict-in : (a b : Verdict) → says.Verdict a ≡ says.Verdict b → a ≡ b
verdict-in a b same = cc

pub one-rows : (lines : List Line) (number : ℕ) (of ok : LineKind) (frame at site n : ℕ) (a b : List Row) → IsLine lines number of frame site (says.Rows a) → IsLine lines number ok at n (says.Rows b) → a ≡ b
one-rows lines number of ok frame at site n a b x y =
    rows-in a b (one-outcome (line_of lines number) x.line y.line (says.Rows a) (says.Rows b) x.stands y.stands x.outcome_is y.outcome_is)

pub one-verdict : (lines : List Line) (number : ℕ) (of ok : LineKind) (frame at site n : ℕ) (a b : Verdict) → IsLine lines number of frame site (says.Verdict a) → IsLine lines number ok at n (says.Verdict b) → a ≡ b
one-verdict lines number of ok frame at site n a b x y =
    verdict-in a b (one-outcome (line_of lines number) x.line y.line (says.Verdict a) (says.Verdict b) x.stands y.stands x.outcome_is y.outcome_is)

module _ (file : File) (lines : List Line) where
  pub one-of-query : (frame : ℕ) (q : Query) (number : ℕ) (a b : List Row) → GivesQuery file lines frame q number a → GivesQuery file lines frame q number b → a ≡ b
  one-of-query frame (query n steps) number a b x y = one-rows lines number _ _ _ _ _ _ a b x.2 y.2

  pub one-of-expr : (frame : ℕ) (e : Expr) (number : ℕ) (a b : List Row) → GivesExpr file lines frame e number a → GivesExpr file lines frame e number b → a ≡ b
  one-of-expr frame (literal n tree) number a b x y = one-rows lines number _ _ _ _ _ _ a b x y
  one-of-expr frame (function n name args) number a b x y = one-rows lines number _ _ _ _ _ _ a b x y
  one-of-expr frame (asked q) number a b x y = one-of-query frame q number a b x y
  one-of-expr frame (found n q) number a b x y = one-rows lines number _ _ _ _ _ _ a b x y

  piece-one : (frame : ℕ) (p : Option Piece) (number : ℕ) (a b : List Row) → GivesPiece file lines frame p number a → GivesPiece file lines frame p number b → a ≡ b
  piece-one frame (Some (OfExpr e)) number a b x y = one-of-expr frame e number a b x y
  piece-one frame (Some (OfQuery q)) number a b x y = one-of-query frame q number a b x y
  piece-one frame p number a b x y = absurd x

  -- an argument is one, since the line of its frame is
  argument-one : (frame nth number : ℕ) (a b : List Row) → GivesArgument file lines frame nth number a → GivesArgument file lines frame nth number b → a ≡ b
  argument-one frame nth number a b x y =
      let same : x.line ≡ y.line = one-there (line_of lines frame) x.line y.line x.stands y.stands in
      let callers : Some x.caller ≡ Some y.caller = sym x.caller_is ∙ ap (λ (l : Line). l.frame) same ∙ y.caller_is in
      let sites : Some x.site ≡ Some y.site = sym x.site_is ∙ ap (λ (l : Line). l.site) same ∙ y.site_is in
      let caller : y.caller ≡ x.caller = some-one y.caller x.caller (sym callers) in
      let site : y.site ≡ x.site = some-one y.site x.site (sym sites) in
      let args : y.args ≡ x.args = one-there (args_at file x.site) y.args x.args (sym (ap (args_at file) site) ∙ y.args_are) x.args_are in
      let arg : y.arg ≡ x.arg = one-there (expr_in x.args nth) y.arg x.arg (sym (ap (λ (es : Exprs). expr_in es nth) args) ∙ y.arg_is) x.arg_is in
      one-of-expr x.caller x.arg number a b x.gives
      (subst (λ (e : Expr). GivesExpr file lines x.caller e number b) arg (subst (λ (n : ℕ). GivesExpr file lines n y.arg number b) caller y.gives))
    where
      some-one : (n m : ℕ) → Some n ≡ Some m → n ≡ m
      some-one n m is = cc

  bound-one : (frame : ℕ) (v : Bind) (number : ℕ) (a b : List Row) → GivesBound file lines frame v number a → GivesBound file lines frame v number b → a ≡ b
  bound-one frame (bound.Value up site) number a b x y =
      let same : y.0 ≡ x.0 = one-there (outwards file lines up frame) y.0 x.0 y.1 x.1 in
      piece-one x.0 (piece_at file site) number a b x.2 (subst (λ (at : ℕ). GivesPiece file lines at (piece_at file site) number b) same y.2)
  bound-one frame (bound.Capture up step) number a b x y = one-rows lines number _ _ _ _ _ _ a b x.2 y.2
  bound-one frame (bound.Param up nth) number a b x y =
      let same : y.0 ≡ x.0 = one-there (outwards file lines up frame) y.0 x.0 y.1 x.1 in
      argument-one x.0 nth number a b x.2 (subst (λ (at : ℕ). GivesArgument file lines at nth number b) same y.2)

  pub one-of-variable : (frame site number : ℕ) (a b : List Row) → GivesVariable file lines frame site number a → GivesVariable file lines frame site number b → a ≡ b
  one-of-variable frame site number a b x y =
      let same : y.0 ≡ x.0 = one-there (bind_of file site) y.0 x.0 y.1 x.1 in
      bound-one frame x.0 number a b x.2 (subst (λ (v : Bind). GivesBound file lines frame v number b) same y.2)
