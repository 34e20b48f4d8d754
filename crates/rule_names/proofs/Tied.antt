-- The pieces of a syntax have the sites of that syntax, by induction over its parts.
use Rattle.std.proofs.Common.{ℕ, suc, List, [], ◌∷◌}
use Rattle.guard_syntax.specs.Syntax.{Body, Lets, Let, Conds, OptConds, Disjs, Disj, Parts, Part, Query, Steps, Step, Expr, OptExpr, Exprs, Rule, body, no_lets, more_lets, assign, conds, no_conds, with_conds, no_disjs, more_disjs, disj, no_parts, more_parts, block, guarded, kinds, test, refer, call, query, no_steps, more_steps, this, var, key, index, every, items, splice, filter, keys, literal, function, asked, found, no_expr, with_expr, no_exprs, more_exprs}
use Rattle.guard_syntax.specs.Sites.{sites_body, sites_lets, sites_let, sites_conds, sites_opt_conds, sites_disjs, sites_disj, sites_parts, sites_part, sites_query, sites_steps, sites_step, sites_expr, sites_opt_expr, sites_exprs, sites_rule, sites_rules}
use Rattle.rule_names.specs.Pieces.{pieces_body, pieces_lets, pieces_let, pieces_conds, pieces_opt_conds, pieces_disjs, pieces_disj, pieces_parts, pieces_part, pieces_query, pieces_steps, pieces_step, pieces_expr, pieces_opt_expr, pieces_exprs, pieces_rule, pieces_rules}
use Rattle.rule_names.proofs.Parts.{Ties, ties-nil, ties-cons, ties-append, ties-merge}

mutual
  pub tied-body : (x : Body) → Ties (pieces_body x) (sites_body x)
  tied-body (body n ls ds) = ties-cons n _ _ _ (ties-merge _ _ _ _ (tied-lets ls) (tied-disjs ds))

  pub tied-lets : (x : Lets) → Ties (pieces_lets x) (sites_lets x)
  tied-lets no_lets = ties-nil
  tied-lets (more_lets l ls) = ties-append _ _ _ _ (tied-let l) (tied-lets ls)

  pub tied-let : (x : Let) → Ties (pieces_let x) (sites_let x)
  tied-let (assign n name e) = ties-cons n _ _ _ (tied-expr e)

  pub tied-conds : (x : Conds) → Ties (pieces_conds x) (sites_conds x)
  tied-conds (conds n ds) = ties-cons n _ _ _ (tied-disjs ds)

  pub tied-opt_conds : (x : OptConds) → Ties (pieces_opt_conds x) (sites_opt_conds x)
  tied-opt_conds no_conds = ties-nil
  tied-opt_conds (with_conds c) = tied-conds c

  pub tied-disjs : (x : Disjs) → Ties (pieces_disjs x) (sites_disjs x)
  tied-disjs no_disjs = ties-nil
  tied-disjs (more_disjs d ds) = ties-append _ _ _ _ (tied-disj d) (tied-disjs ds)

  pub tied-disj : (x : Disj) → Ties (pieces_disj x) (sites_disj x)
  tied-disj (disj n ps) = ties-cons n _ _ _ (tied-parts ps)

  pub tied-parts : (x : Parts) → Ties (pieces_parts x) (sites_parts x)
  tied-parts no_parts = ties-nil
  tied-parts (more_parts p ps) = ties-append _ _ _ _ (tied-part p) (tied-parts ps)

  pub tied-part : (x : Part) → Ties (pieces_part x) (sites_part x)
  tied-part (block n any q b) = ties-cons n _ _ _ (ties-append _ _ _ _ (tied-query q) (tied-body b))
  tied-part (guarded n c b) = ties-cons n _ _ _ (ties-append _ _ _ _ (tied-conds c) (tied-body b))
  tied-part (kinds n name c b) = ties-cons n _ _ _ (ties-append _ _ _ _ (tied-opt_conds c) (tied-body b))
  tied-part (test n any q op negated right message) = ties-cons n _ _ _ (ties-append _ _ _ _ (tied-query q) (tied-opt_expr right))
  tied-part (refer n negated name message) = ties-cons n _ _ _ ties-nil
  tied-part (call n negated name es message) = ties-cons n _ _ _ (tied-exprs es)

  pub tied-query : (x : Query) → Ties (pieces_query x) (sites_query x)
  tied-query (query n ss) = ties-cons n _ _ _ (tied-steps (query n ss) 0 ss)

  pub tied-steps : (q : Query) (i : ℕ) (x : Steps) → Ties (pieces_steps q i x) (sites_steps x)
  tied-steps q i no_steps = ties-nil
  tied-steps q i (more_steps p ps) = ties-append _ _ _ _ (tied-step q i p) (tied-steps q (suc i) ps)

  pub tied-step : (q : Query) (i : ℕ) (x : Step) → Ties (pieces_step q i x) (sites_step x)
  tied-step q i (this n) = ties-cons n _ _ _ ties-nil
  tied-step q i (var n name) = ties-cons n _ _ _ ties-nil
  tied-step q i (key n name) = ties-cons n _ _ _ ties-nil
  tied-step q i (index n at) = ties-cons n _ _ _ ties-nil
  tied-step q i (every n) = ties-cons n _ _ _ ties-nil
  tied-step q i (items n) = ties-cons n _ _ _ ties-nil
  tied-step q i (splice n name) = ties-cons n _ _ _ ties-nil
  tied-step q i (filter n capture c) = ties-cons n _ _ _ (tied-conds c)
  tied-step q i (keys n capture op negated e) = ties-cons n _ _ _ (tied-expr e)

  pub tied-expr : (x : Expr) → Ties (pieces_expr x) (sites_expr x)
  tied-expr (literal n tree) = ties-cons n _ _ _ ties-nil
  tied-expr (function n name es) = ties-cons n _ _ _ (tied-exprs es)
  tied-expr (asked q) = tied-query q
  tied-expr (found n q) = ties-cons n _ _ _ (tied-query q)

  pub tied-opt_expr : (x : OptExpr) → Ties (pieces_opt_expr x) (sites_opt_expr x)
  tied-opt_expr no_expr = ties-nil
  tied-opt_expr (with_expr e) = tied-expr e

  pub tied-exprs : (x : Exprs) → Ties (pieces_exprs x) (sites_exprs x)
  tied-exprs no_exprs = ties-nil
  tied-exprs (more_exprs e es) = ties-append _ _ _ _ (tied-expr e) (tied-exprs es)

pub tied-rule : (x : Rule) → Ties (pieces_rule x) (sites_rule x)
tied-rule x = ties-cons x.site _ _ _ (ties-append _ _ _ _ (tied-opt_conds x.cond) (tied-body x.body))

pub tied-rules : (x : List Rule) → Ties (pieces_rules x) (sites_rules x)
tied-rules [] = ties-nil
tied-rules (r ∷ rs) = ties-append _ _ _ _ (tied-rule r) (tied-rules rs)
