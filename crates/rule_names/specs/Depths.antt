-- Depth: how deep the meaning of a part leads, through what the names in it mean.
use Rattle.std.specs.Prelude.{ℕ, zero, suc, ◌+◌, List, Option, Some, None, length, map, nat_lt, if◌then◌else◌, slice_index_or, replicate}
use Rattle.guard_syntax.specs.Sites.{upto}
use Rattle.guard_syntax.specs.Syntax.{Body, Lets, Let, Conds, OptConds, Disjs, Disj, Parts, Part, Query, Steps, Step, Expr, OptExpr, Exprs, Rule, File, body, no_lets, more_lets, assign, conds, no_conds, with_conds, no_disjs, more_disjs, disj, no_parts, more_parts, block, guarded, kinds, test, refer, call, query, no_steps, more_steps, this, var, key, index, every, items, splice, filter, keys, literal, function, asked, found, no_expr, with_expr, no_exprs, more_exprs}
use Rattle.rule_names.specs.declared.bind.Bind.{Bind}
use Rattle.rule_names.specs.declared.bind.Bind.TheVariants.{Value, Capture, Param}
use Rattle.rule_names.specs.Resolution.{bind_of, target_of}
use Rattle.rule_names.specs.Pieces.{Piece, OfRule, OfQuery, OfStep, OfExpr, piece_at}

abbrev pub larger : ℕ → ℕ → ℕ
larger a b = if nat_lt a b then b else a

-- the steps up to the one at an index
abbrev pub first_steps : ℕ → Steps → Steps
first_steps i no_steps = no_steps
first_steps zero (more_steps p ps) = more_steps p no_steps
first_steps (suc i) (more_steps p ps) = more_steps p (first_steps i ps)

-- the query of a capture: up to its step
abbrev pub first_of_query : ℕ → Query → Query
first_of_query i (query n ss) = query n (first_steps i ss)

-- Depth, where it is known by their sites for the expressions of lets, for captures and for rules: 1 more than the greatest of the direct parts. A disjunction,
-- conditions, a body and steps add nothing of their own.
module _ (f : File) (depths : List ℕ) where
  abbrev pub depth_at : ℕ → ℕ
  depth_at site = slice_index_or depths site 0

  -- what a variable means: a parameter counts where its argument is written
  abbrev pub depth_bound : Option Bind → ℕ
  depth_bound None = 0
  depth_bound (Some (Value up site)) = depth_at site
  depth_bound (Some (Capture up step)) = depth_at step
  depth_bound (Some (Param up i)) = 0

  abbrev pub depth_target : Option ℕ → ℕ
  depth_target None = 0
  depth_target (Some site) = depth_at site

  abbrev mutual
    pub depth_body : Body → ℕ
    depth_body (body n ls ds) = larger (depth_lets ls) (depth_disjs ds)

    -- a let counts as its expression
    pub depth_lets : Lets → ℕ
    depth_lets no_lets = 0
    depth_lets (more_lets l ls) = larger (depth_let l) (depth_lets ls)

    pub depth_let : Let → ℕ
    depth_let (assign n name e) = depth_expr e

    pub depth_conds : Conds → ℕ
    depth_conds (conds n ds) = depth_disjs ds

    pub depth_opt_conds : OptConds → ℕ
    depth_opt_conds no_conds = 0
    depth_opt_conds (with_conds c) = depth_conds c

    pub depth_disjs : Disjs → ℕ
    depth_disjs no_disjs = 0
    depth_disjs (more_disjs d ds) = larger (depth_disj d) (depth_disjs ds)

    pub depth_disj : Disj → ℕ
    depth_disj (disj n ps) = depth_parts ps

    pub depth_parts : Parts → ℕ
    depth_parts no_parts = 0
    depth_parts (more_parts p ps) = larger (depth_part p) (depth_parts ps)

    pub depth_part : Part → ℕ
    depth_part (block n any q b) = suc (larger (depth_query q) (depth_body b))
    depth_part (guarded n c b) = suc (larger (depth_conds c) (depth_body b))
    depth_part (kinds n name c b) = suc (larger (depth_opt_conds c) (depth_body b))
    depth_part (test n any q op negated right message) = suc (larger (depth_query q) (depth_opt_expr right))
    depth_part (refer n negated name message) = suc (depth_target (target_of f n))
    depth_part (call n negated name es message) = suc (depth_target (target_of f n) + depth_exprs es)

    pub depth_query : Query → ℕ
    depth_query (query n ss) = suc (depth_steps ss)

    pub depth_steps : Steps → ℕ
    depth_steps no_steps = 0
    depth_steps (more_steps p ps) = larger (depth_step p) (depth_steps ps)

    -- the use of a variable counts 1 more than what it means
    pub depth_step : Step → ℕ
    depth_step (this n) = 0
    depth_step (var n name) = suc (depth_bound (bind_of f n))
    depth_step (key n name) = 0
    depth_step (index n i) = 0
    depth_step (every n) = 0
    depth_step (items n) = 0
    depth_step (splice n name) = suc (depth_bound (bind_of f n))
    depth_step (filter n capture c) = depth_conds c
    depth_step (keys n capture op negated e) = depth_expr e

    pub depth_expr : Expr → ℕ
    depth_expr (literal n tree) = 1
    depth_expr (function n name es) = suc (depth_exprs es)
    depth_expr (asked q) = depth_query q
    depth_expr (found n q) = suc (depth_query q)

    pub depth_opt_expr : OptExpr → ℕ
    depth_opt_expr no_expr = 0
    depth_opt_expr (with_expr e) = depth_expr e

    pub depth_exprs : Exprs → ℕ
    depth_exprs no_exprs = 0
    depth_exprs (more_exprs e es) = larger (depth_expr e) (depth_exprs es)

  abbrev pub depth_rule : Rule → ℕ
  depth_rule r = suc (larger (depth_opt_conds r.cond) (depth_body r.body))

  -- what has a Depth by its site; a step has that of its query up to it
  abbrev pub depth_piece : Option Piece → ℕ
  depth_piece (Some (OfRule r)) = depth_rule r
  depth_piece (Some (OfQuery q)) = depth_query q
  depth_piece (Some (OfStep q i)) = depth_query (first_of_query i q)
  depth_piece (Some (OfExpr e)) = depth_expr e
  depth_piece _ = 0

-- the greatest Depth that an item may have
abbrev pub depth_limit : ℕ
depth_limit = 200

-- counted up to one above that: all that is asked is whether it is above
abbrev pub capped : ℕ → ℕ
capped n = if nat_lt depth_limit n then suc depth_limit else n

-- the Depth of each site, where names are followed once more than before
abbrev pub deepened : File → List ℕ → List ℕ
deepened f depths = map (λ n. capped (depth_piece f depths (piece_at f n))) (upto 0 (length f.places))

abbrev pub deepened_by : File → ℕ → List ℕ
deepened_by f zero = replicate (length f.places) 0
deepened_by f (suc n) = deepened f (deepened_by f n)

-- names are followed as often as a part that is not too deep can lead through them, and once more: then all is settled
unfoldable pub rounds : ℕ
rounds = suc depth_limit

abbrev pub depths_of : File → List ℕ
depths_of f = deepened_by f rounds
