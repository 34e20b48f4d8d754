-- Queries, steps and expressions stand at their own sites: by induction over the syntax of a file each of its pieces has the site of what it is. And the query of a step stands
-- where the step does.
use Rattle.std.proofs.Common.{◌≡◌, ℕ, suc, refl, List, [], ◌∷◌, ◌++◌, Some}
use Rattle.guard_syntax.specs.Syntax.{Body, Lets, Let, Conds, OptConds, Disjs, Disj, Parts, Part, Query, Steps, Step, Expr, OptExpr, Exprs, Rule, File, body, no_lets, more_lets, assign, conds, no_conds, with_conds, no_disjs, more_disjs, disj, no_parts, more_parts, block, guarded, kinds, test, refer, call, query, no_steps, more_steps, this, var, key, index, every, items, splice, filter, keys, literal, function, asked, found, no_expr, with_expr, no_exprs, more_exprs}
use Rattle.rule_names.specs.Pieces.{AreInOrder, Piece, OfQuery, OfStep, OfExpr, Sited, piece_at, pieces_file, pieces_body, pieces_lets, pieces_let, pieces_conds, pieces_opt_conds, pieces_disjs, pieces_disj, pieces_parts, pieces_part, pieces_query, pieces_steps, pieces_step, pieces_expr, pieces_opt_expr, pieces_exprs, pieces_rule, pieces_rules}
use Rattle.rule_names.specs.ReferenceGraph.{step_site}
use Rattle.rule_names.specs.Uses.{query_site}
use Rattle.rule_names.proofs.PiecesFound.{piece-found}
use Rattle.rule_names.proofs.PiecesStand.{piece-stands}
use Rattle.rule_meaning.specs.Places.{step_in, steps_in}
use Rattle.scope_frames.proofs.NamesBound.{Each, each-both}
use Rattle.engine_states.specs.code.Inside.{expr_sited}
use Rattle.engine_states.proofs.Insides.{first-from, rest-from, steps_from}
use Rattle.engine_states.proofs.VariablesNamed.{found-one}

-- what stands at a site has it
abbrev IsOwn : ℕ → Piece → Type 0
IsOwn n (OfQuery q) = query_site q ≡ n
IsOwn n (OfStep q i) = (p : Step) × (step_in (steps_in q) i ≡ Some p) × (step_site p ≡ n)
IsOwn n (OfExpr e) = expr_sited e ≡ (n, OfExpr e)
IsOwn n _ = Unit {0}

abbrev Own : Sited → Type 0
Own p = IsOwn p.0 p.1

mutual
  own-body : (x : Body) → Each Own (pieces_body x)
  own-body (body n ls ds) = (tt, each-both Own (pieces_lets ls) (pieces_disjs ds) (own-lets ls) (own-disjs ds))

  own-lets : (x : Lets) → Each Own (pieces_lets x)
  own-lets no_lets = tt
  own-lets (more_lets l ls) = each-both Own (pieces_let l) (pieces_lets ls) (own-let l) (own-lets ls)

  own-let : (x : Let) → Each Own (pieces_let x)
  own-let (assign n name e) = (tt, own-expr e)

  own-conds : (x : Conds) → Each Own (pieces_conds x)
  own-conds (conds n ds) = (tt, own-disjs ds)

  own-opt_conds : (x : OptConds) → Each Own (pieces_opt_conds x)
  own-opt_conds no_conds = tt
  own-opt_conds (with_conds c) = own-conds c

  own-disjs : (x : Disjs) → Each Own (pieces_disjs x)
  own-disjs no_disjs = tt
  own-disjs (more_disjs d ds) = each-both Own (pieces_disj d) (pieces_disjs ds) (own-disj d) (own-disjs ds)

  own-disj : (x : Disj) → Each Own (pieces_disj x)
  own-disj (disj n ps) = (tt, own-parts ps)

  own-parts : (x : Parts) → Each Own (pieces_parts x)
  own-parts no_parts = tt
  own-parts (more_parts p ps) = each-both Own (pieces_part p) (pieces_parts ps) (own-part p) (own-parts ps)

  own-part : (x : Part) → Each Own (pieces_part x)
  own-part (block n any q b) = (tt, each-both Own (pieces_query q) (pieces_body b) (own-query q) (own-body b))
  own-part (guarded n c b) = (tt, each-both Own (pieces_conds c) (pieces_body b) (own-conds c) (own-body b))
  own-part (kinds n name c b) = (tt, each-both Own (pieces_opt_conds c) (pieces_body b) (own-opt_conds c) (own-body b))
  own-part (test n any q op negated right message) = (tt, each-both Own (pieces_query q) (pieces_opt_expr right) (own-query q) (own-opt_expr right))
  own-part (refer n negated name message) = (tt, tt)
  own-part (call n negated name es message) = (tt, own-exprs es)

  own-query : (x : Query) → Each Own (pieces_query x)
  own-query (query n ss) = (refl, own-steps (query n ss) 0 ss refl)

  own-steps : (q : Query) (i : ℕ) (x : Steps) → steps_from i (steps_in q) ≡ x → Each Own (pieces_steps q i x)
  own-steps q i no_steps from = tt
  own-steps q i (more_steps p ps) from =
      each-both Own (pieces_step q i p) (pieces_steps q (suc i) ps) (own-step q i p (first-from i (steps_in q) p ps from))
      (own-steps q (suc i) ps (rest-from i (steps_in q) p ps from))

  own-step : (q : Query) (i : ℕ) (x : Step) → step_in (steps_in q) i ≡ Some x → Each Own (pieces_step q i x)
  own-step q i (this n) is = ((this n, is, refl), tt)
  own-step q i (var n name) is = ((var n name, is, refl), tt)
  own-step q i (key n name) is = ((key n name, is, refl), tt)
  own-step q i (index n at) is = ((index n at, is, refl), tt)
  own-step q i (every n) is = ((every n, is, refl), tt)
  own-step q i (items n) is = ((items n, is, refl), tt)
  own-step q i (splice n name) is = ((splice n name, is, refl), tt)
  own-step q i (filter n capture c) is = ((filter n capture c, is, refl), own-conds c)
  own-step q i (keys n capture op negated e) is = ((keys n capture op negated e, is, refl), own-expr e)

  own-expr : (x : Expr) → Each Own (pieces_expr x)
  own-expr (literal n tree) = (refl, tt)
  own-expr (function n name es) = (refl, own-exprs es)
  own-expr (asked q) = own-query q
  own-expr (found n q) = (refl, own-query q)

  own-opt_expr : (x : OptExpr) → Each Own (pieces_opt_expr x)
  own-opt_expr no_expr = tt
  own-opt_expr (with_expr e) = own-expr e

  own-exprs : (x : Exprs) → Each Own (pieces_exprs x)
  own-exprs no_exprs = tt
  own-exprs (more_exprs e es) = each-both Own (pieces_expr e) (pieces_exprs es) (own-expr e) (own-exprs es)

own-rule : (r : Rule) → Each Own (pieces_rule r)
own-rule r = (tt, each-both Own (pieces_opt_conds r.cond) (pieces_body r.body) (own-opt_conds r.cond) (own-body r.body))

own-rules : (rs : List Rule) → Each Own (pieces_rules rs)
own-rules [] = tt
own-rules (r ∷ rs) = each-both Own (pieces_rule r) (pieces_rules rs) (own-rule r) (own-rules rs)

own-file : (f : File) → Each Own (pieces_file f)
own-file f = (
  tt,
  each-both Own (pieces_lets f.lets) (pieces_rules f.rules ++ pieces_disjs f.loose) (own-lets f.lets)
      (each-both Own (pieces_rules f.rules) (pieces_disjs f.loose) (own-rules f.rules) (own-disjs f.loose)),
)

module _ (f : File) (site : ℕ) where
  pub own-query-site : (q : Query) → piece_at f site ≡ Some (OfQuery q) → query_site q ≡ site
  own-query-site q there = found-one Own (pieces_file f) site (OfQuery q) (own-file f) there

  pub own-step-site : (q : Query) (i : ℕ) → piece_at f site ≡ Some (OfStep q i) → (p : Step) × (step_in (steps_in q) i ≡ Some p) × (step_site p ≡ site)
  own-step-site q i there = found-one Own (pieces_file f) site (OfStep q i) (own-file f) there

  pub own-expr-site : (e : Expr) → piece_at f site ≡ Some (OfExpr e) → expr_sited e ≡ (site, OfExpr e)
  own-expr-site e there = found-one Own (pieces_file f) site (OfExpr e) (own-file f) there

  -- the query of a step
  pub query-of-step : AreInOrder f → (q : Query) (i : ℕ) → piece_at f site ≡ Some (OfStep q i) → piece_at f (query_site q) ≡ Some (OfQuery q)
  query-of-step order (query n ss) i there = piece-found f n (OfQuery (query n ss)) (pieces_steps (query n ss) 0 ss) order (piece-stands f site (OfStep (query n ss) i) there)
