-- Lines of expressions that stand alone, by the form of the expression and the kind of the line.
use Rattle.std.proofs.Common.{◌≡◌, ℕ, Bool, true, false, List, [], ◌∷◌, refl, rules, ap, sym, ◌∙◌, subst, MatchBool, map}
use Rattle.std.specs.declared.alloc.Global.{Global}
use Rattle.std.specs.declared.vec.Vec.{Vec}
use Rattle.doc_values.specs.Tree.{Forest}
use Rattle.evidence_lines.specs.declared.line.Line.{Line}
use Rattle.evidence_lines.specs.declared.line.LineKind.{LineKind}
use Rattle.evidence_lines.specs.declared.line.LineKind.TheVariants as kind
use Rattle.guard_syntax.specs.code.Seen.{expr_list, see_expr, see_query}
use Rattle.guard_syntax.specs.Syntax as sx
use Rattle.guard_syntax.specs.declared.row.Row.{Row}
use Rattle.guard_syntax.specs.declared.row.Row.TheVariants.{Found}
use Rattle.guard_syntax.specs.declared.syntax.Expr.{Expr, the_lemmas}
use Rattle.guard_syntax.specs.declared.syntax.Expr as expr
use Rattle.guard_syntax.specs.declared.syntax.Query.{Query}
use Rattle.rule_meaning.specs.StoreModel.{Made, StoreModel}
use Rattle.rule_meaning.specs.Roots.{literal_ref}
use Rattle.evidence_rules.specs.Follows.{FollowsAtExpr}
use Rattle.evidence_lookups.specs.code.FoundRows.{AreFoundBy}

literal-seen : (site : ℕ) (tree : Forest) → see_expr (expr.Literal site tree) ≡ sx.literal site tree
literal-seen site tree = search (rules, the_lemmas)

found-seen : (site : ℕ) (q : Query) → see_expr (expr.Found site q) ≡ sx.found site (see_query q)
found-seen site q = search (rules, the_lemmas)

function-seen : (site : ℕ) (name : List ℕ) (args : Vec Expr Global) → see_expr (expr.Function site name args) ≡ sx.function site name (expr_list (map see_expr args.items))
function-seen site name args = search (rules, the_lemmas)

query-seen : (q : Query) → see_expr (expr.Query q) ≡ sx.asked (see_query q)
query-seen q = search (rules, the_lemmas)

module _ (known : StoreModel) (lines : List Line) (frame site : ℕ) (cites : List ℕ) (rows : List Row) where
  -- whether a line of an expression follows, with nothing made known
  abbrev pub Decides : (of : LineKind) → sx.Expr → Bool → Type 0
  Decides of e b = MatchBool b (FollowsAtExpr known lines frame site of e cites rows []) ((more : List Made) → FollowsAtExpr known lines frame site of e cites rows more → ⊥)

  at : (of : LineKind) (e form : sx.Expr) (b : Bool) → e ≡ form → Decides of form b → Decides of e b
  at of e form b is decided = subst (λ (x : sx.Expr). Decides of x b) (sym is) decided

  -- ---- literals

  literal-kind : (n : ℕ) (tree : Forest) (b : Bool) → MatchBool b ((cites ≡ []) × (rows ≡ Found (literal_ref site) ∷ [])) ((cites ≡ []) × (rows ≡ Found (literal_ref site) ∷ []) → ⊥)
      → Decides kind.Literal (sx.literal n tree) b
  literal-kind n tree true is = (is.0, is.1, refl)
  literal-kind n tree false is_not = λ more h. is_not (h.0, h.1)

  pub literal-decided : (of : LineKind) (e : Expr) (n : ℕ) (tree : Forest) (b : Bool) → of ≡ kind.Literal → e ≡ expr.Literal n tree
      → MatchBool b ((cites ≡ []) × (rows ≡ Found (literal_ref site) ∷ [])) ((cites ≡ []) × (rows ≡ Found (literal_ref site) ∷ []) → ⊥) → Decides of (see_expr e) b
  literal-decided of e n tree b kind_is is says =
      subst (λ (k : LineKind). Decides k (see_expr e) b) (sym kind_is) (at kind.Literal (see_expr e) (sx.literal n tree) b (ap see_expr is ∙ literal-seen n tree) (literal-kind n tree b says))

  literal-else : (of : LineKind) (n : ℕ) (tree : Forest) → (of ≡ kind.Literal → ⊥) → (more : List Made) → FollowsAtExpr known lines frame site of (sx.literal n tree) cites rows more → ⊥
  literal-else kind.Literal n tree other more h = other refl
  literal-else of n tree other more h = h

  pub literal-other : (of : LineKind) (e : Expr) (n : ℕ) (tree : Forest) → (of ≡ kind.Literal → ⊥) → e ≡ expr.Literal n tree → Decides of (see_expr e) false
  literal-other of e n tree other is = at of (see_expr e) (sx.literal n tree) false (ap see_expr is ∙ literal-seen n tree) (literal-else of n tree other)

  -- ---- what a query found

  found-kind : (n : ℕ) (q : sx.Query) (cs : List ℕ) (b : Bool) → cites ≡ cs → MatchBool b (AreFoundBy known lines frame q cs rows) (AreFoundBy known lines frame q cs rows → ⊥)
      → MatchBool b (FollowsAtExpr known lines frame site kind.Found (sx.found n q) cs rows []) ((more : List Made) → FollowsAtExpr known lines frame site kind.Found (sx.found n q) cs rows more → ⊥)
  found-kind n q (c ∷ []) true is found = (found.0, found.1, found.2, refl)
  found-kind n q (c ∷ []) false is not_found = λ more h. not_found (h.0, h.1, h.2)
  found-kind n q [] true is found = absurd found
  found-kind n q [] false is not_found = λ more h. h
  found-kind n q (c ∷ d ∷ cs) true is found = absurd found
  found-kind n q (c ∷ d ∷ cs) false is not_found = λ more h. h

  pub found-decided : (of : LineKind) (e : Expr) (n : ℕ) (q : Query) (b : Bool) → of ≡ kind.Found → e ≡ expr.Found n q
      → MatchBool b (AreFoundBy known lines frame (see_query q) cites rows) (AreFoundBy known lines frame (see_query q) cites rows → ⊥) → Decides of (see_expr e) b
  found-decided of e n q b kind_is is found =
      subst (λ (k : LineKind). Decides k (see_expr e) b) (sym kind_is) (at kind.Found (see_expr e) (sx.found n (see_query q)) b (ap see_expr is ∙ found-seen n q) (found-kind n (see_query q) cites b refl found))

  found-else : (of : LineKind) (n : ℕ) (q : sx.Query) → (of ≡ kind.Found → ⊥) → (more : List Made) → FollowsAtExpr known lines frame site of (sx.found n q) cites rows more → ⊥
  found-else kind.Found n q other more h = other refl
  found-else of n q other more h = h

  pub found-other : (of : LineKind) (e : Expr) (n : ℕ) (q : Query) → (of ≡ kind.Found → ⊥) → e ≡ expr.Found n q → Decides of (see_expr e) false
  found-other of e n q other is = at of (see_expr e) (sx.found n (see_query q)) false (ap see_expr is ∙ found-seen n q) (found-else of n (see_query q) other)

  -- ---- other expressions

  function-else : (of : LineKind) (n : ℕ) (name : List ℕ) (args : sx.Exprs) → (of ≡ kind.Fn → ⊥) → (more : List Made) → FollowsAtExpr known lines frame site of (sx.function n name args) cites rows more → ⊥
  function-else kind.Fn n name args other more h = other refl
  function-else of n name args other more h = h

  pub function-other : (of : LineKind) (e : Expr) (n : ℕ) (name : List ℕ) (args : Vec Expr Global) → (of ≡ kind.Fn → ⊥) → e ≡ expr.Function n name args → Decides of (see_expr e) false
  function-other of e n name args other is =
      at of (see_expr e) (sx.function n name (expr_list (map see_expr args.items))) false (ap see_expr is ∙ function-seen n name args) (function-else of n name (expr_list (map see_expr args.items)) other)

  query-else : (of : LineKind) (q : sx.Query) (more : List Made) → FollowsAtExpr known lines frame site of (sx.asked q) cites rows more → ⊥
  query-else kind.Literal q more h = h
  query-else kind.Found q more h = h
  query-else kind.Fn q more h = h
  query-else of q more h = h

  pub query-other : (of : LineKind) (e : Expr) (q : Query) → e ≡ expr.Query q → Decides of (see_expr e) false
  query-other of e q is = at of (see_expr e) (sx.asked (see_query q)) false (ap see_expr is ∙ query-seen q) (query-else of (see_query q))
