-- The queries of a syntax, and how a query begins: with `this`, a variable or a key.
use Rattle.std.specs.Prelude.{ℕ, List, [], ◌∷◌, ◌++◌, All}
use Rattle.std.specs.List.{flat_map}
use Rattle.guard_syntax.specs.Syntax.{Body, Lets, Let, Conds, OptConds, Disjs, Disj, Parts, Part, Query, Steps, Step, Expr, OptExpr, Exprs, Rule, File, body, no_lets, more_lets, assign, conds, no_conds, with_conds, no_disjs, more_disjs, disj, no_parts, more_parts, block, guarded, kinds, test, refer, call, query, no_steps, more_steps, this, var, key, index, every, items, splice, filter, keys, literal, function, asked, found, no_expr, with_expr, no_exprs, more_exprs}

abbrev mutual
  pub queries_body : Body → List Query
  queries_body (body n ls ds) = queries_lets ls ++ queries_disjs ds

  pub queries_lets : Lets → List Query
  queries_lets no_lets = []
  queries_lets (more_lets l ls) = queries_let l ++ queries_lets ls

  pub queries_let : Let → List Query
  queries_let (assign n name e) = queries_expr e

  pub queries_conds : Conds → List Query
  queries_conds (conds n ds) = queries_disjs ds

  pub queries_opt_conds : OptConds → List Query
  queries_opt_conds no_conds = []
  queries_opt_conds (with_conds c) = queries_conds c

  pub queries_disjs : Disjs → List Query
  queries_disjs no_disjs = []
  queries_disjs (more_disjs d ds) = queries_disj d ++ queries_disjs ds

  pub queries_disj : Disj → List Query
  queries_disj (disj n ps) = queries_parts ps

  pub queries_parts : Parts → List Query
  queries_parts no_parts = []
  queries_parts (more_parts p ps) = queries_part p ++ queries_parts ps

  pub queries_part : Part → List Query
  queries_part (block n any q b) = queries_query q ++ queries_body b
  queries_part (guarded n c b) = queries_conds c ++ queries_body b
  queries_part (kinds n name c b) = queries_opt_conds c ++ queries_body b
  queries_part (test n any q op negated right message) = queries_query q ++ queries_opt_expr right
  queries_part (refer n negated name message) = []
  queries_part (call n negated name es message) = queries_exprs es

  pub queries_query : Query → List Query
  queries_query (query n ss) = query n ss ∷ queries_steps ss

  pub queries_steps : Steps → List Query
  queries_steps no_steps = []
  queries_steps (more_steps p ps) = queries_step p ++ queries_steps ps

  pub queries_step : Step → List Query
  queries_step (this n) = []
  queries_step (var n name) = []
  queries_step (key n name) = []
  queries_step (index n i) = []
  queries_step (every n) = []
  queries_step (items n) = []
  queries_step (splice n name) = []
  queries_step (filter n capture c) = queries_conds c
  queries_step (keys n capture op negated e) = queries_expr e

  pub queries_expr : Expr → List Query
  queries_expr (literal n tree) = []
  queries_expr (function n name es) = queries_exprs es
  queries_expr (asked q) = queries_query q
  queries_expr (found n q) = queries_query q

  pub queries_opt_expr : OptExpr → List Query
  queries_opt_expr no_expr = []
  queries_opt_expr (with_expr e) = queries_expr e

  pub queries_exprs : Exprs → List Query
  queries_exprs no_exprs = []
  queries_exprs (more_exprs e es) = queries_expr e ++ queries_exprs es

abbrev pub queries_rule : Rule → List Query
queries_rule r = queries_opt_conds r.cond ++ queries_body r.body

abbrev pub queries_file : File → List Query
queries_file f = queries_lets f.lets ++ (flat_map queries_rule f.rules ++ queries_disjs f.loose)

-- a step that may be a query's first
abbrev pub IsStart : Step → Type 0
IsStart (this n) = Unit {0}
IsStart (var n name) = Unit {0}
IsStart (key n name) = Unit {0}
IsStart step = ⊥

abbrev pub Begins : Query → Type 0
Begins (query n no_steps) = ⊥
Begins (query n (more_steps step steps)) = IsStart step

-- each query of a file has a first step, and it is one of these
abbrev pub QueriesBegin : File → Type 0
QueriesBegin f = All Begins (queries_file f)
