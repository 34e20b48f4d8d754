-- A line says one thing, and so gives the rows of one query or expression.
use Rattle.std.proofs.Common.{◌≡◌, ℕ, List, [], ◌∷◌, Option, Some, refl, ap, sym, subst, ◌∙◌}
use Rattle.evidence_lines.specs.Lines.{line_of}
use Rattle.evidence_lines.specs.declared.line.Line.{Line}
use Rattle.evidence_lines.specs.declared.line.LineKind.{LineKind}
use Rattle.evidence_lines.specs.declared.line.LineKind.TheVariants as kind
use Rattle.evidence_lines.specs.declared.line.Outcome.{Outcome}
use Rattle.evidence_lines.specs.declared.line.Outcome.TheVariants as says
use Rattle.guard_syntax.specs.Syntax as sx
use Rattle.guard_syntax.specs.declared.row.Ref.{Ref}
use Rattle.guard_syntax.specs.declared.row.Row.{Row}
use Rattle.guard_syntax.specs.declared.row.Verdict.{Verdict}
use Rattle.rule_meaning.specs.StoreModel.{StoreModel}
use Rattle.rule_names.specs.ReferenceGraph.{step_site}
use Rattle.evidence_rules.specs.CitedLines.{GivesExpr, GivesQuery, GivesStep, IsLine, kind_of_step, last_step}
use Rattle.evidence_rules.specs.Follows.{GivesRight, SaysBody}

pub same-some : {A : Type 0} (o : Option A) (x y : A) → o ≡ Some x → o ≡ Some y → x ≡ y
same-some o x y is also = cc

rows-within : (xs ys : List Row) → says.Rows xs ≡ says.Rows ys → xs ≡ ys
rows-within xs ys e = cc

verdict-within : (v w : Verdict) → says.Verdict v ≡ says.Verdict w → v ≡ w
verdict-within v w e = cc

module _ (lines : List Line) (number : ℕ) (of : LineKind) where
  pub same-line : (frame other site : ℕ) (o p : Outcome) (is : IsLine lines number of frame site o) (also : IsLine lines number of other site p) → is.line ≡ also.line
  same-line frame other site o p is also = same-some (line_of lines number) is.line also.line is.stands also.stands

  pub same-outcome : (frame other site : ℕ) (o p : Outcome) → IsLine lines number of frame site o → IsLine lines number of other site p → o ≡ p
  same-outcome frame other site o p is also =
      sym is.outcome_is ∙ ap (λ (l : Line). l.outcome) (same-line frame other site o p is also) ∙ also.outcome_is

  pub same-frame : (frame other site : ℕ) (o p : Outcome) → IsLine lines number of frame site o → IsLine lines number of other site p → frame ≡ other
  same-frame frame other site o p is also =
      let e : Some frame ≡ Some other = sym is.frame_is ∙ ap (λ (l : Line). l.frame) (same-line frame other site o p is also) ∙ also.frame_is in
      same-some (Some other) frame other (sym e) refl

  pub same-rows : (frame site : ℕ) (xs ys : List Row) → IsLine lines number of frame site (says.Rows xs) → IsLine lines number of frame site (says.Rows ys) → xs ≡ ys
  same-rows frame site xs ys is also = rows-within xs ys (same-outcome frame frame site (says.Rows xs) (says.Rows ys) is also)

  pub same-verdict : (frame other site : ℕ) (v w : Verdict) → IsLine lines number of frame site (says.Verdict v) → IsLine lines number of other site (says.Verdict w) → v ≡ w
  same-verdict frame other site v w is also = verdict-within v w (same-outcome frame other site (says.Verdict v) (says.Verdict w) is also)

module _ (file : sx.File) (lines : List Line) (frame : ℕ) where
  pub same-query : (q : sx.Query) (number : ℕ) (xs ys : List Row) → GivesQuery file lines frame q number xs → GivesQuery file lines frame q number ys → xs ≡ ys
  same-query (sx.query n steps) number xs ys gives also =
      let same : also.0 ≡ gives.0 = same-some (last_step file lines steps) also.0 gives.0 also.1 gives.1 in
      let moved : GivesStep file lines frame gives.0 number ys = subst (λ (s : sx.Step). GivesStep file lines frame s number ys) same also.2 in
      same-rows lines number (kind_of_step file lines gives.0) frame (step_site gives.0) xs ys gives.2 moved

  pub same-expr : (e : sx.Expr) (number : ℕ) (xs ys : List Row) → GivesExpr file lines frame e number xs → GivesExpr file lines frame e number ys → xs ≡ ys
  same-expr (sx.literal n tree) number xs ys gives also = same-rows lines number kind.Literal frame n xs ys gives also
  same-expr (sx.function n name args) number xs ys gives also = same-rows lines number kind.Fn frame n xs ys gives also
  same-expr (sx.asked q) number xs ys gives also = same-query q number xs ys gives also
  same-expr (sx.found n q) number xs ys gives also = same-rows lines number kind.Found frame n xs ys gives also

module _ (known : StoreModel) (lines : List Line) (frame : ℕ) where
  pub same-right : (right : sx.OptExpr) (cites : List ℕ) (xs ys : List Row) → GivesRight known lines frame right cites xs → GivesRight known lines frame right cites ys → xs ≡ ys
  same-right sx.no_expr [] xs ys gives also = gives ∙ sym also
  same-right sx.no_expr (c ∷ cites) xs ys gives also = absurd gives
  same-right (sx.with_expr e) [] xs ys gives also = absurd gives
  same-right (sx.with_expr e) (c ∷ []) xs ys gives also = same-expr known.file lines frame e c xs ys gives also
  same-right (sx.with_expr e) (c ∷ d ∷ cites) xs ys gives also = absurd gives

  pub same-body : (b : sx.Body) (v : Ref) (number : ℕ) (w x : Verdict) → SaysBody known lines frame b v number w → SaysBody known lines frame b v number x → w ≡ x
  same-body (sx.body n lets parts) v number w x says also = same-verdict lines number kind.Conj says.0 also.0 n w x says.2 also.2
