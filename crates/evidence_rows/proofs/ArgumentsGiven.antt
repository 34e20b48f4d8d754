-- The rows that lines give of arguments: there are as many lines as arguments, and each gives its rows alone.
use Rattle.std.proofs.Common.{◌≡◌, ℕ, zero, suc, ◌+◌, ◌<◌, List, [], ◌∷◌, ◌++◌, length, map, get_or, take, Some, refl, sym, ap, ap₂, subst, ◌∙◌, arith}
use Rattle.std.proofs.lemmas.List.{take_more}
use Rattle.doc_values.specs.Tree.{Forest}
use Rattle.evidence_lines.specs.Lines.{line_of}
use Rattle.evidence_lines.specs.declared.line.Line.{Line}
use Rattle.evidence_lines.specs.declared.line.LineKind.{LineKind}
use Rattle.evidence_lines.specs.declared.line.Outcome.TheVariants as says
use Rattle.guard_syntax.specs.code.Seen.{expr_list, see_expr}
use Rattle.guard_syntax.specs.Syntax as sx
use Rattle.guard_syntax.specs.declared.row.Row.{Row}
use Rattle.guard_syntax.specs.declared.row.Row.TheVariants.{Found}
use Rattle.guard_syntax.specs.declared.syntax.Expr.{Expr}
use Rattle.rule_names.specs.Uses.{count_exprs, expr_in}
use Rattle.rule_meaning.specs.StoreModel.{StoreModel}
use Rattle.evidence_rules.specs.CitedLines.{GiveArgs, GivesExpr, IsLine}
use Rattle.rule_meaning.specs.Roots.{literal_ref}
use Rattle.evidence_lookups.specs.code.Said.{AreSound}
use Rattle.evidence_lookups.proofs.SaidKnown.{literal-said}

module _ (file : sx.File) (lines : List Line) (frame : ℕ) where
  -- a line says one thing
  line-one : (number : ℕ) (of of' : LineKind) (frame frame' site site' : ℕ) (xs ys : List Row) → IsLine lines number of frame site (says.Rows xs) → IsLine lines number of' frame' site' (says.Rows ys) → xs ≡ ys
  line-one number of of' frame frame' site site' xs ys is other =
      by is.line other.line is.stands other.stands is.outcome_is other.outcome_is
    where
      by : (l m : Line) → line_of lines number ≡ Some l → line_of lines number ≡ Some m → l.outcome ≡ says.Rows xs → m.outcome ≡ says.Rows ys → xs ≡ ys
      by l m stands also said said' =
          let same : l ≡ m = cc in
          let outcomes : says.Rows xs ≡ says.Rows ys = sym said ∙ ap (λ (x : Line). x.outcome) same ∙ said' in
          cc

  expr-one : (e : sx.Expr) (number : ℕ) (xs ys : List Row) → GivesExpr file lines frame e number xs → GivesExpr file lines frame e number ys → xs ≡ ys
  expr-one (sx.literal n tree) number xs ys h g = line-one number _ _ _ _ _ _ xs ys h g
  expr-one (sx.function n name args) number xs ys h g = line-one number _ _ _ _ _ _ xs ys h g
  expr-one (sx.asked (sx.query n steps)) number xs ys h g = line-one number _ _ _ _ _ _ xs ys h.2 g.2
  expr-one (sx.found n q) number xs ys h g = line-one number _ _ _ _ _ _ xs ys h g

  pub args-one : (es : sx.Exprs) (cites : List ℕ) (all others : List (List Row)) → GiveArgs file lines frame es cites all → GiveArgs file lines frame es cites others → all ≡ others
  args-one sx.no_exprs [] [] [] h g = refl
  args-one sx.no_exprs [] [] (ys ∷ others) h g = absurd g
  args-one (sx.more_exprs e es) (c ∷ cs) (xs ∷ all) [] h g = absurd g
  args-one (sx.more_exprs e es) (c ∷ cs) (xs ∷ all) (ys ∷ others) h g = ap₂ ◌∷◌ (expr-one e c xs ys h.0 g.0) (args-one es cs all others h.1 g.1)
  args-one es cites all others h g = absurd h

  pub args-many : (es : sx.Exprs) (cites : List ℕ) (all : List (List Row)) → GiveArgs file lines frame es cites all → length all ≡ count_exprs es
  args-many sx.no_exprs [] [] h = refl
  args-many (sx.more_exprs e es) (c ∷ cs) (rows ∷ all) h = ap suc (args-many es cs all h.1)
  args-many es cites all h = absurd h

  -- ---- one argument after another

  pub args-more : (xs : List Expr) (cs : List ℕ) (all : List (List Row)) (x : Expr) (c : ℕ) (rows : List Row) → GiveArgs file lines frame (expr_list (map see_expr xs)) cs all
      → GivesExpr file lines frame (see_expr x) c rows → GiveArgs file lines frame (expr_list (map see_expr (xs ++ x ∷ []))) (cs ++ c ∷ []) (all ++ rows ∷ [])
  args-more [] [] [] x c rows h g = (g, tt)
  args-more (y ∷ xs) (d ∷ cs) (others ∷ all) x c rows h g = (h.0, args-more xs cs all x c rows h.1 g)
  args-more xs cs all x c rows h g = absurd h

  -- the argument of an index, behind those before it
  pub args-next : (xs : List Expr) (cs : List ℕ) (i : ℕ) (x : Expr) → i < length xs → i < length cs → x ≡ get_or xs i x → (all more : List (List Row)) (rows : List Row)
      → GiveArgs file lines frame (expr_list (map see_expr (take i xs))) (take i cs) all → GivesExpr file lines frame (see_expr x) (get_or cs i 0) rows → more ≡ all ++ rows ∷ []
      → GiveArgs file lines frame (expr_list (map see_expr (take (i + 1) xs))) (take (i + 1) cs) more
  args-next xs cs i x within inside is all more rows so gives are =
      let taken : take i xs ++ x ∷ [] ≡ take (i + 1) xs = ap (λ (y : Expr). take i xs ++ y ∷ []) is ∙ sym (take_more xs i x within) in
      subst (λ (ys : List Expr). GiveArgs file lines frame (expr_list (map see_expr ys)) (take (i + 1) cs) more) taken
      (subst (λ (ds : List ℕ). GiveArgs file lines frame (expr_list (map see_expr (take i xs ++ x ∷ []))) ds more) (sym (take_more cs i 0 inside))
      (subst (λ (given : List (List Row)). GiveArgs file lines frame (expr_list (map see_expr (take i xs ++ x ∷ []))) (take i cs ++ get_or cs i 0 ∷ []) given) (sym are)
      (args-more (take i xs) (take i cs) all x (get_or cs i 0) rows so gives)))

  pub args-counted : (xs : List Expr) (cs : List ℕ) (all : List (List Row)) → GiveArgs file lines frame (expr_list (map see_expr xs)) cs all → length xs ≡ length cs
  args-counted [] [] [] h = refl
  args-counted (y ∷ xs) (d ∷ cs) (others ∷ all) h = ap suc (args-counted xs cs all h.1)
  args-counted xs cs all h = absurd h

  pub args-lacking : (xs : List Expr) (cs : List ℕ) (i : ℕ) (x : Expr) → i < length xs → x ≡ get_or xs i x → ((rows : List Row) → GivesExpr file lines frame (see_expr x) (get_or cs i 0) rows → ⊥)
      → (all : List (List Row)) → GiveArgs file lines frame (expr_list (map see_expr xs)) cs all → ⊥
  args-lacking [] cs i x within is never all h = absurd (omega arith)
  args-lacking (y ∷ xs) (d ∷ cs) zero x within is never (others ∷ all) h = never others (subst (λ (e : Expr). GivesExpr file lines frame (see_expr e) d others) (sym is) h.0)
  args-lacking (y ∷ xs) (d ∷ cs) (suc i) x within is never (others ∷ all) h = args-lacking xs cs i x (omega arith) is never all h.1
  args-lacking xs cs i x within is never all h = h

-- the one row of an argument that is a literal is its root
pub args-literal : (known : StoreModel) (lines : List Line) (sound : AreSound known lines) (frame : ℕ) (es : sx.Exprs) (cites : List ℕ) (all : List (List Row)) → GiveArgs known.file lines frame es cites all
    → (i n : ℕ) (tree : Forest) → expr_in es i ≡ Some (sx.literal n tree) → get_or all i [] ≡ Found (literal_ref n) ∷ []
args-literal known lines sound frame sx.no_exprs [] [] h i n tree is = absurd cc
args-literal known lines sound frame (sx.more_exprs e es) (c ∷ cs) (rows ∷ all) h zero n tree is =
    let same : e ≡ sx.literal n tree = cc in
    literal-said known lines sound c frame n rows (subst (λ (x : sx.Expr). GivesExpr known.file lines frame x c rows) same h.0)
args-literal known lines sound frame (sx.more_exprs e es) (c ∷ cs) (rows ∷ all) h (suc i) n tree is = args-literal known lines sound frame es cs all h.1 i n tree is
args-literal known lines sound frame es cites all h i n tree is = absurd h
