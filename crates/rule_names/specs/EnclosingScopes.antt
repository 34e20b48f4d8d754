-- The scope in which each part stands, by its site: 0 for the file, a body, or the step of a filter. Heads and conditions stand in the scope around the
-- body, and so does the body itself; the step of a filter stands in the scope of its query, and its conditions in the filter.
use Rattle.std.specs.Prelude.{ℕ, List, [], ◌∷◌, ◌++◌, length, nat_lt, if◌then◌else◌, slice_index_or, slice_set, replicate}
use Rattle.guard_syntax.specs.Syntax.{Body, Lets, Let, Conds, OptConds, Disjs, Disj, Parts, Part, Query, Steps, Step, Expr, OptExpr, Exprs, Rule, File, body, no_lets, more_lets, assign, conds, no_conds, with_conds, no_disjs, more_disjs, disj, no_parts, more_parts, block, guarded, kinds, test, refer, call, query, no_steps, more_steps, this, var, key, index, every, items, splice, filter, keys, literal, function, asked, found, no_expr, with_expr, no_exprs, more_exprs}

-- the site of a part, and that of the scope in which it stands
abbrev pub Homed : Type 0
Homed = ℕ × ℕ

-- parts that stand in the scope of a site
abbrev mutual
  -- a body is the scope of what is in it
  pub homes_body : ℕ → Body → List Homed
  homes_body home (body n ls ds) = (n, home) ∷ (homes_lets n ls ++ homes_disjs n ds)

  pub homes_lets : ℕ → Lets → List Homed
  homes_lets home no_lets = []
  homes_lets home (more_lets l ls) = homes_let home l ++ homes_lets home ls

  pub homes_let : ℕ → Let → List Homed
  homes_let home (assign n name e) = (n, home) ∷ homes_expr home e

  pub homes_conds : ℕ → Conds → List Homed
  homes_conds home (conds n ds) = (n, home) ∷ homes_disjs home ds

  pub homes_opt_conds : ℕ → OptConds → List Homed
  homes_opt_conds home no_conds = []
  homes_opt_conds home (with_conds c) = homes_conds home c

  pub homes_disjs : ℕ → Disjs → List Homed
  homes_disjs home no_disjs = []
  homes_disjs home (more_disjs d ds) = homes_disj home d ++ homes_disjs home ds

  pub homes_disj : ℕ → Disj → List Homed
  homes_disj home (disj n ps) = (n, home) ∷ homes_parts home ps

  pub homes_parts : ℕ → Parts → List Homed
  homes_parts home no_parts = []
  homes_parts home (more_parts p ps) = homes_part home p ++ homes_parts home ps

  pub homes_part : ℕ → Part → List Homed
  homes_part home (block n any q b) = (n, home) ∷ (homes_query home q ++ homes_body home b)
  homes_part home (guarded n c b) = (n, home) ∷ (homes_conds home c ++ homes_body home b)
  homes_part home (kinds n name c b) = (n, home) ∷ (homes_opt_conds home c ++ homes_body home b)
  homes_part home (test n any q op negated right message) = (n, home) ∷ (homes_query home q ++ homes_opt_expr home right)
  homes_part home (refer n negated name message) = (n, home) ∷ []
  homes_part home (call n negated name es message) = (n, home) ∷ homes_exprs home es

  pub homes_query : ℕ → Query → List Homed
  homes_query home (query n ss) = (n, home) ∷ homes_steps home ss

  pub homes_steps : ℕ → Steps → List Homed
  homes_steps home no_steps = []
  homes_steps home (more_steps p ps) = homes_step home p ++ homes_steps home ps

  -- the step of a filter is the scope of its conditions
  pub homes_step : ℕ → Step → List Homed
  homes_step home (this n) = (n, home) ∷ []
  homes_step home (var n name) = (n, home) ∷ []
  homes_step home (key n name) = (n, home) ∷ []
  homes_step home (index n i) = (n, home) ∷ []
  homes_step home (every n) = (n, home) ∷ []
  homes_step home (items n) = (n, home) ∷ []
  homes_step home (splice n name) = (n, home) ∷ []
  homes_step home (filter n capture c) = (n, home) ∷ homes_conds n c
  homes_step home (keys n capture op negated e) = (n, home) ∷ homes_expr home e

  pub homes_expr : ℕ → Expr → List Homed
  homes_expr home (literal n tree) = (n, home) ∷ []
  homes_expr home (function n name es) = (n, home) ∷ homes_exprs home es
  homes_expr home (asked q) = homes_query home q
  homes_expr home (found n q) = (n, home) ∷ homes_query home q

  pub homes_opt_expr : ℕ → OptExpr → List Homed
  homes_opt_expr home no_expr = []
  homes_opt_expr home (with_expr e) = homes_expr home e

  pub homes_exprs : ℕ → Exprs → List Homed
  homes_exprs home no_exprs = []
  homes_exprs home (more_exprs e es) = homes_expr home e ++ homes_exprs home es

-- a rule, its conditions and its body stand in the file's scope
abbrev pub homes_rule : ℕ → Rule → List Homed
homes_rule home r = (r.site, home) ∷ (homes_opt_conds home r.cond ++ homes_body home r.body)

abbrev pub homes_rules : ℕ → List Rule → List Homed
homes_rules home [] = []
homes_rules home (r ∷ rs) = homes_rule home r ++ homes_rules home rs

-- the parts of a file, each with its scope; what is in the file stands in that of site 0
abbrev pub homes_in : File → List Homed
homes_in f = homes_lets 0 f.lets ++ (homes_rules 0 f.rules ++ homes_disjs 0 f.loose)

-- the same by the sites of the parts
abbrev pub with_home : List ℕ → Homed → List ℕ
with_home homes h = if nat_lt h.0 (length homes) then slice_set homes h.0 h.1 else homes

abbrev pub with_homes : List ℕ → List Homed → List ℕ
with_homes homes [] = homes
with_homes homes (h ∷ hs) = with_homes (with_home homes h) hs

-- the file's own home is its own site
abbrev pub homes_of : File → List ℕ
homes_of f = with_homes (replicate (length f.places) 0) (homes_in f)

abbrev pub home_of : File → ℕ → ℕ
home_of f n = slice_index_or (homes_of f) n 0
