-- Which part of a rule file leads to which: a part to the parts in it, but a query to its last step, a step to the one before it, and a body to the
-- expressions of its lets; a use to the name that it means; a name to what gives it. Nodes are numbers: a part is its site, the name of a rule its site
-- and as many more as the file has sites, the name of a let or capture twice as many more.
use Rattle.std.specs.Prelude.{ℕ, ◌+◌, ◌*◌, ◌&&◌, List, [], ◌∷◌, ◌++◌, Option, Some, None, length, map, nat_lt, if◌then◌else◌, slice_index_or, slice_set, replicate}
use Rattle.guard_syntax.specs.Named.{Named}
use Rattle.guard_syntax.specs.Syntax.{Body, Lets, Let, Conds, OptConds, Disjs, Disj, Parts, Part, Query, Steps, Step, Expr, OptExpr, Exprs, Rule, File, body, no_lets, more_lets, assign, conds, no_conds, with_conds, no_disjs, more_disjs, disj, no_parts, more_parts, block, guarded, kinds, test, refer, call, query, no_steps, more_steps, this, var, key, index, every, items, splice, filter, keys, literal, function, asked, found, no_expr, with_expr, no_exprs, more_exprs}
use Rattle.rule_names.specs.declared.binder.Binder.{Binder}
use Rattle.rule_names.specs.declared.binder.Binder.TheVariants.{Let as LetBinder, Capture, Param}
use Rattle.rule_names.specs.Scopes.{Given, given_named, given_body, given_conds, given_file}
use Rattle.rule_names.specs.Uses.{rule_named, query_site, expr_site}

-- from one node to another
abbrev pub Edge : Type 0
Edge = ℕ × ℕ

abbrev pub to_each : ℕ → List ℕ → List Edge
to_each from nodes = map (λ to. let edge : Edge = (from, to) in edge) nodes

-- the own sites of parts

abbrev pub body_site : Body → ℕ
body_site (body n ls ds) = n

abbrev pub conds_site : Conds → ℕ
conds_site (conds n ds) = n

abbrev pub disj_site : Disj → ℕ
disj_site (disj n ps) = n

abbrev pub part_site : Part → ℕ
part_site (block n any q b) = n
part_site (guarded n c b) = n
part_site (kinds n name c b) = n
part_site (test n any q op negated right message) = n
part_site (refer n negated name message) = n
part_site (call n negated name es message) = n

abbrev pub step_site : Step → ℕ
step_site (this n) = n
step_site (var n name) = n
step_site (key n name) = n
step_site (index n i) = n
step_site (every n) = n
step_site (items n) = n
step_site (splice n name) = n
step_site (filter n capture c) = n
step_site (keys n capture op negated e) = n

-- the expression of a let
abbrev pub value_site : Let → ℕ
value_site (assign n name e) = expr_site e

abbrev pub value_sites : Lets → List ℕ
value_sites no_lets = []
value_sites (more_lets l ls) = value_site l ∷ value_sites ls

abbrev pub disj_sites : Disjs → List ℕ
disj_sites no_disjs = []
disj_sites (more_disjs d ds) = disj_site d ∷ disj_sites ds

abbrev pub part_sites : Parts → List ℕ
part_sites no_parts = []
part_sites (more_parts p ps) = part_site p ∷ part_sites ps

abbrev pub expr_sites : Exprs → List ℕ
expr_sites no_exprs = []
expr_sites (more_exprs e es) = expr_site e ∷ expr_sites es

abbrev pub opt_conds_site : OptConds → List ℕ
opt_conds_site no_conds = []
opt_conds_site (with_conds c) = conds_site c ∷ []

abbrev pub opt_expr_site : OptExpr → List ℕ
opt_expr_site no_expr = []
opt_expr_site (with_expr e) = expr_site e ∷ []

-- the last of some steps, behind one
abbrev pub last_site : ℕ → Steps → ℕ
last_site n no_steps = n
last_site n (more_steps p ps) = last_site (step_site p) ps

-- a query leads to its last step
abbrev pub to_last : ℕ → Steps → List Edge
to_last n no_steps = []
to_last n (more_steps p ps) = (n, last_site (step_site p) ps) ∷ []

-- the rules of a file, and how many sites it has
module _ (rules : List Rule) (count : ℕ) where
  abbrev pub rule_node : ℕ → ℕ
  rule_node site = count + site

  abbrev pub variable_node : ℕ → ℕ
  variable_node site = 2 * count + site

  -- a use of a variable leads to its let or capture; that of a parameter leads to nothing
  abbrev pub to_binder : ℕ → Binder → List Edge
  to_binder n (LetBinder site) = (n, variable_node site) ∷ []
  to_binder n (Capture site) = (n, variable_node site) ∷ []
  to_binder n (Param i) = []

  abbrev pub to_variable : ℕ → Option Given → List Edge
  to_variable n None = []
  to_variable n (Some g) = to_binder n g.by

  -- a reference or a call leads to its rule
  abbrev pub to_rule : ℕ → Option Rule → List Edge
  to_rule n None = []
  to_rule n (Some r) = (n, rule_node r.site) ∷ []

  -- the name of a capture leads to its step
  abbrev pub from_capture : ℕ → Option Named → List Edge
  from_capture n None = []
  from_capture n (Some name) = (variable_node n, n) ∷ []

  -- a step leads to the one before it
  abbrev pub to_before : ℕ → Option ℕ → List Edge
  to_before n None = []
  to_before n (Some before) = (n, before) ∷ []

  abbrev mutual
    pub edges_of_body : List Given → List Named → Body → List Edge
    edges_of_body visible params (body n ls ds) =
        to_each n (value_sites ls) ++ (to_each n (disj_sites ds)
        ++ (edges_of_lets (given_body params (body n ls ds) ++ visible) ls ++ edges_of_disjs (given_body params (body n ls ds) ++ visible) ds))

    pub edges_of_lets : List Given → Lets → List Edge
    edges_of_lets visible no_lets = []
    edges_of_lets visible (more_lets l ls) = edges_of_let visible l ++ edges_of_lets visible ls

    pub edges_of_let : List Given → Let → List Edge
    edges_of_let visible (assign n name e) = (variable_node n, expr_site e) ∷ edges_of_expr visible e

    pub edges_of_conds : List Given → Conds → List Edge
    edges_of_conds visible (conds n ds) = to_each n (disj_sites ds) ++ edges_of_disjs visible ds

    pub edges_of_opt_conds : List Given → OptConds → List Edge
    edges_of_opt_conds visible no_conds = []
    edges_of_opt_conds visible (with_conds c) = edges_of_conds visible c

    pub edges_of_disjs : List Given → Disjs → List Edge
    edges_of_disjs visible no_disjs = []
    edges_of_disjs visible (more_disjs d ds) = edges_of_disj visible d ++ edges_of_disjs visible ds

    pub edges_of_disj : List Given → Disj → List Edge
    edges_of_disj visible (disj n ps) = to_each n (part_sites ps) ++ edges_of_parts visible ps

    pub edges_of_parts : List Given → Parts → List Edge
    edges_of_parts visible no_parts = []
    edges_of_parts visible (more_parts p ps) = edges_of_part visible p ++ edges_of_parts visible ps

    pub edges_of_part : List Given → Part → List Edge
    edges_of_part visible (block n any q b) = to_each n (query_site q ∷ body_site b ∷ []) ++ (edges_of_query visible q ++ edges_of_body visible [] b)
    edges_of_part visible (guarded n c b) = to_each n (conds_site c ∷ body_site b ∷ []) ++ (edges_of_conds visible c ++ edges_of_body visible [] b)
    edges_of_part visible (kinds n name c b) = to_each n (opt_conds_site c ++ body_site b ∷ []) ++ (edges_of_opt_conds visible c ++ edges_of_body visible [] b)
    edges_of_part visible (test n any q op negated right message) = to_each n (query_site q ∷ opt_expr_site right) ++ (edges_of_query visible q ++ edges_of_opt_expr visible right)
    edges_of_part visible (refer n negated name message) = to_rule n (rule_named rules name)
    edges_of_part visible (call n negated name es message) = to_rule n (rule_named rules name) ++ (to_each n (expr_sites es) ++ edges_of_exprs visible es)

    pub edges_of_query : List Given → Query → List Edge
    edges_of_query visible (query n ss) = to_last n ss ++ edges_of_steps visible None ss

    -- steps behind the one of a site, if there is one
    pub edges_of_steps : List Given → Option ℕ → Steps → List Edge
    edges_of_steps visible before no_steps = []
    edges_of_steps visible before (more_steps p ps) = to_before (step_site p) before ++ (edges_of_step visible p ++ edges_of_steps visible (Some (step_site p)) ps)

    pub edges_of_step : List Given → Step → List Edge
    edges_of_step visible (this n) = []
    edges_of_step visible (var n name) = to_variable n (given_named visible name)
    edges_of_step visible (key n name) = []
    edges_of_step visible (index n i) = []
    edges_of_step visible (every n) = []
    edges_of_step visible (items n) = []
    edges_of_step visible (splice n name) = to_variable n (given_named visible name.text)
    edges_of_step visible (filter n capture c) = from_capture n capture ++ (to_each n (conds_site c ∷ []) ++ edges_of_conds (given_conds c ++ visible) c)
    edges_of_step visible (keys n capture op negated e) = from_capture n capture ++ (to_each n (expr_site e ∷ []) ++ edges_of_expr visible e)

    pub edges_of_expr : List Given → Expr → List Edge
    edges_of_expr visible (literal n tree) = []
    edges_of_expr visible (function n name es) = to_each n (expr_sites es) ++ edges_of_exprs visible es
    edges_of_expr visible (asked q) = edges_of_query visible q
    edges_of_expr visible (found n q) = to_each n (query_site q ∷ []) ++ edges_of_query visible q

    pub edges_of_opt_expr : List Given → OptExpr → List Edge
    edges_of_opt_expr visible no_expr = []
    edges_of_opt_expr visible (with_expr e) = edges_of_expr visible e

    pub edges_of_exprs : List Given → Exprs → List Edge
    edges_of_exprs visible no_exprs = []
    edges_of_exprs visible (more_exprs e es) = edges_of_expr visible e ++ edges_of_exprs visible es

  -- the name of a rule leads to its conditions and to its body
  abbrev pub edges_of_rule : List Given → Rule → List Edge
  edges_of_rule visible r = to_each (rule_node r.site) (opt_conds_site r.cond ++ body_site r.body ∷ []) ++ (edges_of_opt_conds visible r.cond ++ edges_of_body visible r.params r.body)

  abbrev pub edges_of_rules : List Given → List Rule → List Edge
  edges_of_rules visible [] = []
  edges_of_rules visible (r ∷ rs) = edges_of_rule visible r ++ edges_of_rules visible rs

-- the edges of a file
abbrev pub edges_of_file : File → List Edge
edges_of_file f =
    edges_of_lets f.rules (length f.places) (given_file f) f.lets
    ++ (edges_of_rules f.rules (length f.places) (given_file f) f.rules ++ edges_of_disjs f.rules (length f.places) (given_file f) f.loose)

-- an edge more, between nodes that are there
abbrev pub with_edge : List (List ℕ) → Edge → List (List ℕ)
with_edge g edge = if nat_lt edge.0 (length g) && nat_lt edge.1 (length g) then slice_set g edge.0 (slice_index_or g edge.0 [] ++ edge.1 ∷ []) else g

abbrev pub with_edges : List (List ℕ) → List Edge → List (List ℕ)
with_edges g [] = g
with_edges g (edge ∷ edges) = with_edges (with_edge g edge) edges

-- the graph of a file: for each node those that it leads to, in order
abbrev pub graph_of : File → List (List ℕ)
graph_of f = with_edges (replicate (3 * length f.places) []) (edges_of_file f)
