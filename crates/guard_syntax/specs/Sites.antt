-- The sites of a syntax, in the order in which its parts begin.
use Rattle.std.specs.Prelude.{ℕ, zero, suc, List, [], ◌∷◌, ◌++◌, if◌then◌else◌, nat_lt}
use Rattle.guard_syntax.specs.Syntax.{Body, Lets, Let, Conds, OptConds, Disjs, Disj, Parts, Part, Query, Steps, Step, Expr, OptExpr, Exprs, Rule, File, body, no_lets, more_lets, assign, conds, no_conds, with_conds, no_disjs, more_disjs, disj, no_parts, more_parts, block, guarded, kinds, test, refer, call, query, no_steps, more_steps, this, var, key, index, every, items, splice, filter, keys, literal, function, asked, found, no_expr, with_expr, no_exprs, more_exprs}

-- so many numbers from this one on
abbrev pub upto : ℕ → ℕ → List ℕ
upto n zero = []
upto n (suc k) = n ∷ upto (suc n) k

-- the numbers of two lists, the lesser of the two first ones first
abbrev pub before_each : ℕ → (List ℕ → List ℕ) → List ℕ → List ℕ
before_each a others [] = a ∷ others []
before_each a others (b ∷ bs) = if nat_lt b a then b ∷ before_each a others bs else a ∷ others (b ∷ bs)

abbrev pub merge : List ℕ → List ℕ → List ℕ
merge [] bs = bs
merge (a ∷ as_) bs = before_each a (merge as_) bs

abbrev mutual
  -- lets and parts stand among each other
  pub sites_body : Body → List ℕ
  sites_body (body n ls ds) = n ∷ merge (sites_lets ls) (sites_disjs ds)

  pub sites_lets : Lets → List ℕ
  sites_lets no_lets = []
  sites_lets (more_lets l ls) = sites_let l ++ sites_lets ls

  pub sites_let : Let → List ℕ
  sites_let (assign n name e) = n ∷ sites_expr e

  pub sites_conds : Conds → List ℕ
  sites_conds (conds n ds) = n ∷ sites_disjs ds

  pub sites_opt_conds : OptConds → List ℕ
  sites_opt_conds no_conds = []
  sites_opt_conds (with_conds c) = sites_conds c

  pub sites_disjs : Disjs → List ℕ
  sites_disjs no_disjs = []
  sites_disjs (more_disjs d ds) = sites_disj d ++ sites_disjs ds

  pub sites_disj : Disj → List ℕ
  sites_disj (disj n ps) = n ∷ sites_parts ps

  pub sites_parts : Parts → List ℕ
  sites_parts no_parts = []
  sites_parts (more_parts p ps) = sites_part p ++ sites_parts ps

  pub sites_part : Part → List ℕ
  sites_part (block n any q b) = n ∷ (sites_query q ++ sites_body b)
  sites_part (guarded n c b) = n ∷ (sites_conds c ++ sites_body b)
  sites_part (kinds n name c b) = n ∷ (sites_opt_conds c ++ sites_body b)
  sites_part (test n any q op negated right message) = n ∷ (sites_query q ++ sites_opt_expr right)
  sites_part (refer n negated name message) = n ∷ []
  sites_part (call n negated name es message) = n ∷ sites_exprs es

  pub sites_query : Query → List ℕ
  sites_query (query n ss) = n ∷ sites_steps ss

  pub sites_steps : Steps → List ℕ
  sites_steps no_steps = []
  sites_steps (more_steps p ps) = sites_step p ++ sites_steps ps

  pub sites_step : Step → List ℕ
  sites_step (this n) = n ∷ []
  sites_step (var n name) = n ∷ []
  sites_step (key n name) = n ∷ []
  sites_step (index n i) = n ∷ []
  sites_step (every n) = n ∷ []
  sites_step (items n) = n ∷ []
  sites_step (splice n name) = n ∷ []
  sites_step (filter n capture c) = n ∷ sites_conds c
  sites_step (keys n capture op negated e) = n ∷ sites_expr e

  pub sites_expr : Expr → List ℕ
  sites_expr (literal n tree) = n ∷ []
  sites_expr (function n name es) = n ∷ sites_exprs es
  sites_expr (asked q) = sites_query q
  sites_expr (found n q) = n ∷ sites_query q

  pub sites_opt_expr : OptExpr → List ℕ
  sites_opt_expr no_expr = []
  sites_opt_expr (with_expr e) = sites_expr e

  pub sites_exprs : Exprs → List ℕ
  sites_exprs no_exprs = []
  sites_exprs (more_exprs e es) = sites_expr e ++ sites_exprs es

abbrev pub sites_rule : Rule → List ℕ
sites_rule r = r.site ∷ (sites_opt_conds r.cond ++ sites_body r.body)

abbrev pub sites_rules : List Rule → List ℕ
sites_rules [] = []
sites_rules (r ∷ rs) = sites_rule r ++ sites_rules rs

-- lets, rules and parts stand among each other
abbrev pub sites_file : File → List ℕ
sites_file f = 0 ∷ merge (sites_lets f.lets) (merge (sites_rules f.rules) (sites_disjs f.loose))
