-- What the uses of names mean. A variable means what gives its name in the nearest scope around it that has the name; a reference and a call mean the
-- rule of their name.
use Rattle.std.specs.Prelude.{ℕ, suc, List, [], ◌∷◌, ◌++◌, Option, Some, None, length, nat_lt, if◌then◌else◌, slice_index_or, slice_set, replicate, option_and_then, option_map}
use Rattle.guard_syntax.specs.Named.{Named}
use Rattle.guard_syntax.specs.Syntax.{Body, Lets, Let, Conds, OptConds, Disjs, Disj, Parts, Part, Query, Steps, Step, Expr, OptExpr, Exprs, Rule, File, body, no_lets, more_lets, assign, conds, no_conds, with_conds, no_disjs, more_disjs, disj, no_parts, more_parts, block, guarded, kinds, test, refer, call, query, no_steps, more_steps, this, var, key, index, every, items, splice, filter, keys, literal, function, asked, found, no_expr, with_expr, no_exprs, more_exprs}
use Rattle.rule_names.specs.declared.bind.Bind.{Bind}
use Rattle.rule_names.specs.declared.bind.Bind.TheVariants.{Value, Capture, Param}
use Rattle.rule_names.specs.declared.bind.Link.{Link}
use Rattle.rule_names.specs.declared.bind.Link.TheVariants.{Variable, Rule as ToRule}
use Rattle.rule_names.specs.declared.binder.Binder.{Binder}
use Rattle.rule_names.specs.declared.binder.Binder.TheVariants as binder
use Rattle.rule_names.specs.Pieces.{Piece, OfLet, piece_at}
use Rattle.rule_names.specs.Scopes.{Given, given_named, given_body, given_conds, given_file}
use Rattle.rule_names.specs.Uses.{rule_named}
use Rattle.rule_names.specs.ReferenceGraph.{value_site}

-- scopes around a part, the innermost first
abbrev pub Scopes : Type 0
Scopes = List (List Given)

-- what gives a name, and how many scopes further out than the innermost
pub record Meant : Type 0 where
  pub up : ℕ
  pub by : Binder

abbrev pub one_out : Meant → Meant
one_out m = record { up = suc m.up; by = m.by }

abbrev pub here_or : Option Given → Option Meant → Option Meant
here_or None outer = option_map one_out outer
here_or (Some g) outer = Some (record { up = 0; by = g.by })

-- the nearest scope that has a name says what it means
abbrev pub meant_in : Scopes → List ℕ → Option Meant
meant_in [] name = None
meant_in (scope ∷ scopes) name = here_or (given_named scope name) (meant_in scopes name)

abbrev pub value_in : Option Piece → ℕ
value_in (Some (OfLet l)) = value_site l
value_in _ = 0

-- a use, and what it means
abbrev pub Linked : Type 0
Linked = ℕ × Link

module _ (f : File) where
  abbrev pub bind_to : ℕ → Binder → Bind
  bind_to up (binder.Let site) = Value up (value_in (piece_at f site))
  bind_to up (binder.Capture step) = Capture up step
  bind_to up (binder.Param i) = Param up i

  abbrev pub link_variable : ℕ → Option Meant → List Linked
  link_variable n None = []
  link_variable n (Some m) = (n, Variable (bind_to m.up m.by)) ∷ []

  abbrev pub link_rule : ℕ → Option Rule → List Linked
  link_rule n None = []
  link_rule n (Some r) = (n, ToRule r.site) ∷ []

  abbrev mutual
    pub links_body : Scopes → List Named → Body → List Linked
    links_body scopes params (body n ls ds) =
        links_lets (given_body params (body n ls ds) ∷ scopes) ls ++ links_disjs (given_body params (body n ls ds) ∷ scopes) ds

    pub links_lets : Scopes → Lets → List Linked
    links_lets scopes no_lets = []
    links_lets scopes (more_lets l ls) = links_let scopes l ++ links_lets scopes ls

    pub links_let : Scopes → Let → List Linked
    links_let scopes (assign n name e) = links_expr scopes e

    pub links_conds : Scopes → Conds → List Linked
    links_conds scopes (conds n ds) = links_disjs scopes ds

    pub links_opt_conds : Scopes → OptConds → List Linked
    links_opt_conds scopes no_conds = []
    links_opt_conds scopes (with_conds c) = links_conds scopes c

    pub links_disjs : Scopes → Disjs → List Linked
    links_disjs scopes no_disjs = []
    links_disjs scopes (more_disjs d ds) = links_disj scopes d ++ links_disjs scopes ds

    pub links_disj : Scopes → Disj → List Linked
    links_disj scopes (disj n ps) = links_parts scopes ps

    pub links_parts : Scopes → Parts → List Linked
    links_parts scopes no_parts = []
    links_parts scopes (more_parts p ps) = links_part scopes p ++ links_parts scopes ps

    -- a body is a scope of its own; a head and conditions stand in the scope around it
    pub links_part : Scopes → Part → List Linked
    links_part scopes (block n any q b) = links_query scopes q ++ links_body scopes [] b
    links_part scopes (guarded n c b) = links_conds scopes c ++ links_body scopes [] b
    links_part scopes (kinds n name c b) = links_opt_conds scopes c ++ links_body scopes [] b
    links_part scopes (test n any q op negated right message) = links_query scopes q ++ links_opt_expr scopes right
    links_part scopes (refer n negated name message) = link_rule n (rule_named f.rules name)
    links_part scopes (call n negated name es message) = link_rule n (rule_named f.rules name) ++ links_exprs scopes es

    pub links_query : Scopes → Query → List Linked
    links_query scopes (query n ss) = links_steps scopes ss

    pub links_steps : Scopes → Steps → List Linked
    links_steps scopes no_steps = []
    links_steps scopes (more_steps p ps) = links_step scopes p ++ links_steps scopes ps

    -- a filter is a scope of its own
    pub links_step : Scopes → Step → List Linked
    links_step scopes (this n) = []
    links_step scopes (var n name) = link_variable n (meant_in scopes name)
    links_step scopes (key n name) = []
    links_step scopes (index n i) = []
    links_step scopes (every n) = []
    links_step scopes (items n) = []
    links_step scopes (splice n name) = link_variable n (meant_in scopes name.text)
    links_step scopes (filter n capture c) = links_conds (given_conds c ∷ scopes) c
    links_step scopes (keys n capture op negated e) = links_expr scopes e

    pub links_expr : Scopes → Expr → List Linked
    links_expr scopes (literal n tree) = []
    links_expr scopes (function n name es) = links_exprs scopes es
    links_expr scopes (asked q) = links_query scopes q
    links_expr scopes (found n q) = links_query scopes q

    pub links_opt_expr : Scopes → OptExpr → List Linked
    links_opt_expr scopes no_expr = []
    links_opt_expr scopes (with_expr e) = links_expr scopes e

    pub links_exprs : Scopes → Exprs → List Linked
    links_exprs scopes no_exprs = []
    links_exprs scopes (more_exprs e es) = links_expr scopes e ++ links_exprs scopes es

  -- the conditions of a rule stand in the file's scope
  abbrev pub links_rule : Scopes → Rule → List Linked
  links_rule scopes r = links_opt_conds scopes r.cond ++ links_body scopes r.params r.body

  abbrev pub links_rules : Scopes → List Rule → List Linked
  links_rules scopes [] = []
  links_rules scopes (r ∷ rs) = links_rule scopes r ++ links_rules scopes rs

-- the uses in a file, each with what it means
abbrev pub links_in : File → List Linked
links_in f =
    links_lets f (given_file f ∷ []) f.lets
    ++ (links_rules f (given_file f ∷ []) f.rules ++ links_disjs f (given_file f ∷ []) f.loose)

-- the same by their sites
abbrev pub with_link : List (Option Link) → Linked → List (Option Link)
with_link links l = if nat_lt l.0 (length links) then slice_set links l.0 (Some l.1) else links

abbrev pub with_links : List (Option Link) → List Linked → List (Option Link)
with_links links [] = links
with_links links (l ∷ ls) = with_links (with_link links l) ls

abbrev pub resolution_of : File → List (Option Link)
resolution_of f = with_links (replicate (length f.places) None) (links_in f)

-- what stands at a site means: the use of a variable, and a reference or call
abbrev pub variable_of : Link → Option Bind
variable_of (Variable b) = Some b
variable_of (ToRule site) = None

abbrev pub rule_of : Link → Option ℕ
rule_of (Variable b) = None
rule_of (ToRule site) = Some site

abbrev pub bind_of : File → ℕ → Option Bind
bind_of f n = option_and_then variable_of (slice_index_or (resolution_of f) n None)

abbrev pub target_of : File → ℕ → Option ℕ
target_of f n = option_and_then rule_of (slice_index_or (resolution_of f) n None)
