-- What stands in a part of a rule file: the parts that are evaluated for it, each with its site, and the scope in which they stand.
use Rattle.std.specs.Prelude.{ℕ, suc, ◌≡◌, ◌<◌, ◌≤◌, List, [], ◌∷◌, ◌++◌, Option, Some}
use Rattle.guard_syntax.specs.Syntax.{Body, Conds, OptConds, Disjs, Disj, Parts, Part, Query, Steps, Step, Expr, OptExpr, Exprs, File, body, conds, no_conds, with_conds, no_disjs, more_disjs, disj, no_parts, more_parts, block, guarded, kinds, test, refer, call, no_steps, more_steps, filter, keys, literal, function, asked, found, no_expr, with_expr, no_exprs, more_exprs}
use Rattle.rule_names.specs.EnclosingScopes.{home_of}
use Rattle.rule_names.specs.Pieces.{Piece, OfFile, OfLet, OfRule, OfBody, OfConds, OfDisj, OfPart, OfQuery, OfStep, OfExpr, Sited, piece_at}
use Rattle.rule_names.specs.ReferenceGraph.{disj_site, part_site, step_site}
use Rattle.rule_names.specs.Uses.{query_site}
use Rattle.rule_meaning.specs.Places.{step_in, steps_in}
use Rattle.evidence_rules.specs.CitedLines.{body_site}
use Rattle.evidence_rules.specs.Follows.{conds_site}
use Rattle.engine_states.specs.code.PartDepths.{depth_in}

-- ---- parts with their sites

abbrev pub query_sited : Query → Sited
query_sited q = (query_site q, OfQuery q)

abbrev pub expr_sited : Expr → Sited
expr_sited (literal n tree) = (n, OfExpr (literal n tree))
expr_sited (function n name es) = (n, OfExpr (function n name es))
expr_sited (asked q) = query_sited q
expr_sited (found n q) = (n, OfExpr (found n q))

abbrev pub exprs_sited : Exprs → List Sited
exprs_sited no_exprs = []
exprs_sited (more_exprs e es) = expr_sited e ∷ exprs_sited es

abbrev pub opt_expr_sited : OptExpr → List Sited
opt_expr_sited no_expr = []
opt_expr_sited (with_expr e) = expr_sited e ∷ []

abbrev pub conds_sited : Conds → Sited
conds_sited c = (conds_site c, OfConds c)

abbrev pub opt_conds_sited : OptConds → List Sited
opt_conds_sited no_conds = []
opt_conds_sited (with_conds c) = conds_sited c ∷ []

abbrev pub body_sited : Body → Sited
body_sited b = (body_site b, OfBody b)

abbrev pub disj_sited : Disj → Sited
disj_sited d = (disj_site d, OfDisj d)

abbrev pub disjs_sited : Disjs → List Sited
disjs_sited no_disjs = []
disjs_sited (more_disjs d ds) = disj_sited d ∷ disjs_sited ds

abbrev pub parts_sited : Parts → List Sited
parts_sited no_parts = []
parts_sited (more_parts p ps) = (part_site p, OfPart p) ∷ parts_sited ps

-- the steps of a query from the one with an index on
abbrev pub steps_sited : Query → ℕ → Steps → List Sited
steps_sited q i no_steps = []
steps_sited q i (more_steps p ps) = (step_site p, OfStep q i) ∷ steps_sited q (suc i) ps

-- ---- the parts of a part

abbrev pub inner_of_part : Part → List Sited
inner_of_part (block n any q b) = query_sited q ∷ body_sited b ∷ []
inner_of_part (guarded n c b) = conds_sited c ∷ body_sited b ∷ []
inner_of_part (kinds n name c b) = opt_conds_sited c ++ body_sited b ∷ []
inner_of_part (test n any q op negated right message) = query_sited q ∷ opt_expr_sited right
inner_of_part (refer n negated name message) = []
inner_of_part (call n negated name es message) = exprs_sited es

abbrev pub inner_of_step : Option Step → List Sited
inner_of_step (Some (filter n capture c)) = conds_sited c ∷ []
inner_of_step (Some (keys n capture op negated e)) = expr_sited e ∷ []
inner_of_step _ = []

abbrev pub inner_of_expr : Expr → List Sited
inner_of_expr (literal n tree) = []
inner_of_expr (function n name es) = exprs_sited es
inner_of_expr (asked q) = []
inner_of_expr (found n q) = query_sited q ∷ []

module _ (f : File) where
  -- those that are evaluated for it, in order; what a let has is evaluated where its name is used
  abbrev pub inner_of : Piece → List Sited
  inner_of OfFile = disjs_sited f.loose
  inner_of (OfLet l) = []
  inner_of (OfRule r) = opt_conds_sited r.cond ++ body_sited r.body ∷ []
  inner_of (OfBody (body n ls ds)) = disjs_sited ds
  inner_of (OfConds (conds n ds)) = disjs_sited ds
  inner_of (OfDisj (disj n ps)) = parts_sited ps
  inner_of (OfPart p) = inner_of_part p
  inner_of (OfQuery q) = steps_sited q 0 (steps_in q)
  inner_of (OfStep q i) = inner_of_step (step_in (steps_in q) i)
  inner_of (OfExpr e) = inner_of_expr e

  -- the scope in which they stand: a body and a filter are scopes of their own
  abbrev pub scope_in_step : ℕ → Option Step → ℕ
  scope_in_step n (Some (filter m capture c)) = n
  scope_in_step n _ = home_of f n

  abbrev pub scope_in : (site : ℕ) → Piece → ℕ
  scope_in n (OfBody b) = n
  scope_in n (OfStep q i) = scope_in_step n (step_in (steps_in q) i)
  scope_in n _ = home_of f n

  -- a part stands in another: it is what the file has at its site, in the scope in which the parts of that one stand, behind it and no deeper
  pub record IsInside (site : ℕ) (p : Piece) (inner : Sited) : Type 0 where
    pub there : piece_at f inner.0 ≡ Some inner.1
    pub home : home_of f inner.0 ≡ scope_in site p
    pub behind : site < inner.0
    pub shallower : (depths : List ℕ) → depth_in f depths inner.1 ≤ depth_in f depths p

  abbrev pub AreInside : (site : ℕ) → Piece → List Sited → Type 0
  AreInside site p [] = Unit {0}
  AreInside site p (inner ∷ others) = IsInside site p inner × AreInside site p others
