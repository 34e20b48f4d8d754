-- How deep brackets nest in the canonical text of a syntax: a step `[*]` and parameters have brackets too, an index has none.
use Rattle.std.specs.Prelude.{ℕ, suc, max, List, [], ◌∷◌}
use Rattle.guard_syntax.specs.Named.{Named}
use Rattle.guard_syntax.specs.Syntax.{Body, Lets, Let, Conds, OptConds, Disjs, Disj, Parts, Part, Query, Steps, Step, Expr, OptExpr, Exprs, Rule, body, no_lets, more_lets, assign, conds, no_conds, with_conds, no_disjs, more_disjs, disj, no_parts, more_parts, block, guarded, kinds, test, refer, call, query, no_steps, more_steps, items, filter, keys, literal, function, asked, found, no_expr, with_expr, no_exprs, more_exprs}
use Rattle.literal_parser.specs.code.LiteralDepth.{deep_forest}

abbrev mutual
  pub deep_body : Body → ℕ
  deep_body (body n ls ds) = suc (max (deep_lets ls) (deep_disjs ds))

  pub deep_lets : Lets → ℕ
  deep_lets no_lets = 0
  deep_lets (more_lets l ls) = max (deep_let l) (deep_lets ls)

  pub deep_let : Let → ℕ
  deep_let (assign n name e) = deep_expr e

  pub deep_conds : Conds → ℕ
  deep_conds (conds n ds) = deep_disjs ds

  pub deep_opt_conds : OptConds → ℕ
  deep_opt_conds no_conds = 0
  deep_opt_conds (with_conds c) = deep_conds c

  pub deep_disjs : Disjs → ℕ
  deep_disjs no_disjs = 0
  deep_disjs (more_disjs d ds) = max (deep_disj d) (deep_disjs ds)

  pub deep_disj : Disj → ℕ
  deep_disj (disj n ps) = deep_parts ps

  pub deep_parts : Parts → ℕ
  deep_parts no_parts = 0
  deep_parts (more_parts p ps) = max (deep_part p) (deep_parts ps)

  pub deep_part : Part → ℕ
  deep_part (block n any q b) = max (deep_query q) (deep_body b)
  deep_part (guarded n c b) = max (deep_conds c) (deep_body b)
  deep_part (kinds n name c b) = max (deep_opt_conds c) (deep_body b)
  deep_part (test n any q op negated right message) = max (deep_query q) (deep_opt_expr right)
  deep_part (refer n negated name message) = 0
  deep_part (call n negated name es message) = suc (deep_exprs es)

  pub deep_query : Query → ℕ
  deep_query (query n ss) = deep_steps ss

  pub deep_steps : Steps → ℕ
  deep_steps no_steps = 0
  deep_steps (more_steps p ps) = max (deep_step p) (deep_steps ps)

  pub deep_step : Step → ℕ
  deep_step (items n) = 1
  deep_step (filter n capture c) = suc (deep_conds c)
  deep_step (keys n capture op negated e) = suc (deep_expr e)
  deep_step _ = 0

  pub deep_expr : Expr → ℕ
  deep_expr (literal n tree) = deep_forest tree
  deep_expr (function n name es) = suc (deep_exprs es)
  deep_expr (asked q) = deep_query q
  deep_expr (found n q) = deep_query q

  pub deep_opt_expr : OptExpr → ℕ
  deep_opt_expr no_expr = 0
  deep_opt_expr (with_expr e) = deep_expr e

  pub deep_exprs : Exprs → ℕ
  deep_exprs no_exprs = 0
  deep_exprs (more_exprs e es) = max (deep_expr e) (deep_exprs es)

-- parameters stand in brackets
abbrev pub deep_head : List Named → OptConds → ℕ
deep_head [] c = deep_opt_conds c
deep_head (n ∷ ns) c = max 1 (deep_opt_conds c)

abbrev pub deep_rule : Rule → ℕ
deep_rule r = max (deep_head r.params r.cond) (deep_body r.body)

abbrev pub deep_rules : List Rule → ℕ
deep_rules [] = 0
deep_rules (r ∷ rs) = max (deep_rule r) (deep_rules rs)

abbrev pub deep_file : Lets → List Rule → Disjs → ℕ
deep_file ls rs ds = max (deep_lets ls) (max (deep_rules rs) (deep_disjs ds))
