-- The names that scopes have, and what gives them. The scopes are the file, each body and each filter.
use Rattle.std.specs.Prelude.{ℕ, suc, List, [], ◌∷◌, ◌++◌, Option, Some, None, map, find, if◌then◌else◌, nat_lt}
use Rattle.std.specs.Str.{bytes_eq}
use Rattle.guard_syntax.specs.Named.{Named}
use Rattle.rule_names.specs.declared.binder.Binder.{Binder}
use Rattle.rule_names.specs.declared.binder.Binder.TheVariants.{Let as LetBinder, Capture, Param}
use Rattle.guard_syntax.specs.Syntax.{Body, Lets, Let, Conds, OptConds, Disjs, Disj, Parts, Part, Query, Steps, Step, Expr, OptExpr, Exprs, Rule, File, body, no_lets, more_lets, assign, conds, no_conds, with_conds, no_disjs, more_disjs, disj, no_parts, more_parts, block, guarded, kinds, test, refer, call, query, no_steps, more_steps, this, var, key, index, every, items, splice, filter, keys, literal, function, asked, found, no_expr, with_expr, no_exprs, more_exprs}

-- a name of a scope, and what gives it: the let of a site, the capture of the step of a site, or a parameter
pub record Given : Type 0 where
  pub name : Named
  pub by : Binder

abbrev pub names_of : List Given → List Named
names_of given = map (λ (g : Given). g.name) given

-- what a name means where these are visible, those of the innermost scope first
abbrev pub given_named : List Given → List ℕ → Option Given
given_named visible name = find (λ (g : Given). bytes_eq name g.name.text) visible

-- a name and those behind it, among others
abbrev pub before_given : Given → (List Given → List Given) → List Given → List Given
before_given a others [] = a ∷ others []
before_given a others (b ∷ bs) = if nat_lt b.name.at a.name.at then b ∷ before_given a others bs else a ∷ others (b ∷ bs)

-- the names of two lists that are in order of place, in order of place
abbrev pub by_place : List Given → List Given → List Given
by_place [] bs = bs
by_place (a ∷ as_) bs = before_given a (by_place as_) bs

-- the capture of the step of a site
abbrev pub capture_if : ℕ → Option Named → List Given
capture_if site None = []
capture_if site (Some name) = record { name = name; by = Capture site } ∷ []

-- parameters, from the one of an index on
abbrev pub given_params : ℕ → List Named → List Given
given_params i [] = []
given_params i (x ∷ xs) = record { name = x; by = Param i } ∷ given_params (suc i) xs

-- the names that a part gives to the scope in which it stands: those of lets, and captures. Bodies and the conditions of
-- filters are scopes of their own.
abbrev mutual
  pub given_lets : Lets → List Given
  given_lets no_lets = []
  given_lets (more_lets l ls) = given_let l ++ given_lets ls

  pub given_let : Let → List Given
  given_let (assign n name e) = record { name = name; by = LetBinder n } ∷ given_expr e

  pub given_conds : Conds → List Given
  given_conds (conds n ds) = given_disjs ds

  pub given_opt_conds : OptConds → List Given
  given_opt_conds no_conds = []
  given_opt_conds (with_conds c) = given_conds c

  pub given_disjs : Disjs → List Given
  given_disjs no_disjs = []
  given_disjs (more_disjs d ds) = given_disj d ++ given_disjs ds

  pub given_disj : Disj → List Given
  given_disj (disj n ps) = given_parts ps

  pub given_parts : Parts → List Given
  given_parts no_parts = []
  given_parts (more_parts p ps) = given_part p ++ given_parts ps

  pub given_part : Part → List Given
  given_part (block n any q b) = given_query q
  given_part (guarded n c b) = given_conds c
  given_part (kinds n name c b) = given_opt_conds c
  given_part (test n any q op negated right message) = given_query q ++ given_opt_expr right
  given_part (refer n negated name message) = []
  given_part (call n negated name es message) = given_exprs es

  pub given_query : Query → List Given
  given_query (query n ss) = given_steps ss

  pub given_steps : Steps → List Given
  given_steps no_steps = []
  given_steps (more_steps p ps) = given_step p ++ given_steps ps

  pub given_step : Step → List Given
  given_step (this n) = []
  given_step (var n name) = []
  given_step (key n name) = []
  given_step (index n i) = []
  given_step (every n) = []
  given_step (items n) = []
  given_step (splice n name) = []
  given_step (filter n capture c) = capture_if n capture
  given_step (keys n capture op negated e) = capture_if n capture ++ given_expr e

  pub given_expr : Expr → List Given
  given_expr (literal n tree) = []
  given_expr (function n name es) = given_exprs es
  given_expr (asked q) = given_query q
  given_expr (found n q) = given_query q

  pub given_opt_expr : OptExpr → List Given
  given_opt_expr no_expr = []
  given_opt_expr (with_expr e) = given_expr e

  pub given_exprs : Exprs → List Given
  given_exprs no_exprs = []
  given_exprs (more_exprs e es) = given_expr e ++ given_exprs es

-- the names of a body's scope, in order of place: the parameters of the rule whose body it is, its lets and its captures
abbrev pub given_body : List Named → Body → List Given
given_body params (body n ls ds) = given_params 0 params ++ by_place (given_lets ls) (given_disjs ds)

-- the captures of the conditions of rules, which stand in the file's scope
abbrev pub given_rules : List Rule → List Given
given_rules [] = []
given_rules (r ∷ rs) = given_opt_conds r.cond ++ given_rules rs

-- the names of the file's scope, in order of place
abbrev pub given_file : File → List Given
given_file f = by_place (given_lets f.lets) (by_place (given_rules f.rules) (given_disjs f.loose))

-- the scopes inside a part, each with its names
abbrev mutual
  pub scopes_body : List Named → Body → List (List Named)
  scopes_body params (body n ls ds) = names_of (given_body params (body n ls ds)) ∷ (scopes_lets ls ++ scopes_disjs ds)

  pub scopes_lets : Lets → List (List Named)
  scopes_lets no_lets = []
  scopes_lets (more_lets l ls) = scopes_let l ++ scopes_lets ls

  pub scopes_let : Let → List (List Named)
  scopes_let (assign n name e) = scopes_expr e

  pub scopes_conds : Conds → List (List Named)
  scopes_conds (conds n ds) = scopes_disjs ds

  pub scopes_opt_conds : OptConds → List (List Named)
  scopes_opt_conds no_conds = []
  scopes_opt_conds (with_conds c) = scopes_conds c

  pub scopes_disjs : Disjs → List (List Named)
  scopes_disjs no_disjs = []
  scopes_disjs (more_disjs d ds) = scopes_disj d ++ scopes_disjs ds

  pub scopes_disj : Disj → List (List Named)
  scopes_disj (disj n ps) = scopes_parts ps

  pub scopes_parts : Parts → List (List Named)
  scopes_parts no_parts = []
  scopes_parts (more_parts p ps) = scopes_part p ++ scopes_parts ps

  pub scopes_part : Part → List (List Named)
  scopes_part (block n any q b) = scopes_query q ++ scopes_body [] b
  scopes_part (guarded n c b) = scopes_conds c ++ scopes_body [] b
  scopes_part (kinds n name c b) = scopes_opt_conds c ++ scopes_body [] b
  scopes_part (test n any q op negated right message) = scopes_query q ++ scopes_opt_expr right
  scopes_part (refer n negated name message) = []
  scopes_part (call n negated name es message) = scopes_exprs es

  pub scopes_query : Query → List (List Named)
  scopes_query (query n ss) = scopes_steps ss

  pub scopes_steps : Steps → List (List Named)
  scopes_steps no_steps = []
  scopes_steps (more_steps p ps) = scopes_step p ++ scopes_steps ps

  pub scopes_step : Step → List (List Named)
  scopes_step (this n) = []
  scopes_step (var n name) = []
  scopes_step (key n name) = []
  scopes_step (index n i) = []
  scopes_step (every n) = []
  scopes_step (items n) = []
  scopes_step (splice n name) = []
  scopes_step (filter n capture c) = names_of (given_conds c) ∷ scopes_conds c
  scopes_step (keys n capture op negated e) = scopes_expr e

  pub scopes_expr : Expr → List (List Named)
  scopes_expr (literal n tree) = []
  scopes_expr (function n name es) = scopes_exprs es
  scopes_expr (asked q) = scopes_query q
  scopes_expr (found n q) = scopes_query q

  pub scopes_opt_expr : OptExpr → List (List Named)
  scopes_opt_expr no_expr = []
  scopes_opt_expr (with_expr e) = scopes_expr e

  pub scopes_exprs : Exprs → List (List Named)
  scopes_exprs no_exprs = []
  scopes_exprs (more_exprs e es) = scopes_expr e ++ scopes_exprs es

abbrev pub scopes_rules : List Rule → List (List Named)
scopes_rules [] = []
scopes_rules (r ∷ rs) = scopes_opt_conds r.cond ++ (scopes_body r.params r.body ++ scopes_rules rs)

-- the scopes of a file, each with its names in order of place
abbrev pub scopes_file : File → List (List Named)
scopes_file f = names_of (given_file f) ∷ (scopes_lets f.lets ++ (scopes_rules f.rules ++ scopes_disjs f.loose))
