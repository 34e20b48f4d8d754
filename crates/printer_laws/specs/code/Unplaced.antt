-- A syntax without its places: where names and values stand, and where sites begin, is set to nothing. Two syntaxes that are
-- the same without their places are the same in all but places.
use Rattle.std.specs.Prelude.{◌≡◌, [], map, option_map}
use Rattle.doc_values.specs.Tree.{Label, Forest, Nil, Node}
use Rattle.guard_syntax.specs.Named.{Named}
use Rattle.guard_syntax.specs.Syntax.{Body, Lets, Let, Conds, OptConds, Disjs, Disj, Parts, Part, Query, Steps, Step, Expr, OptExpr, Exprs, Rule, File, body, no_lets, more_lets, assign, conds, no_conds, with_conds, no_disjs, more_disjs, disj, no_parts, more_parts, block, guarded, kinds, test, refer, call, query, no_steps, more_steps, this, var, key, index, every, items, splice, filter, keys, literal, function, asked, found, no_expr, with_expr, no_exprs, more_exprs}

abbrev pub unplaced_name : Named → Named
unplaced_name n = record { text = n.text; at = 0 }

abbrev pub unplaced_label : Label → Label
unplaced_label l = record { kind = l.kind; text = l.text; key = l.key; at = 0 }

abbrev pub unplaced_tree : Forest → Forest
unplaced_tree Nil = Nil
unplaced_tree (Node l kids rest) = Node (unplaced_label l) (unplaced_tree kids) (unplaced_tree rest)

abbrev mutual
  pub unplaced_body : Body → Body
  unplaced_body (body n ls ds) = body n (unplaced_lets ls) (unplaced_disjs ds)

  pub unplaced_lets : Lets → Lets
  unplaced_lets no_lets = no_lets
  unplaced_lets (more_lets l ls) = more_lets (unplaced_let l) (unplaced_lets ls)

  pub unplaced_let : Let → Let
  unplaced_let (assign n name e) = assign n (unplaced_name name) (unplaced_expr e)

  pub unplaced_conds : Conds → Conds
  unplaced_conds (conds n ds) = conds n (unplaced_disjs ds)

  pub unplaced_opt_conds : OptConds → OptConds
  unplaced_opt_conds no_conds = no_conds
  unplaced_opt_conds (with_conds c) = with_conds (unplaced_conds c)

  pub unplaced_disjs : Disjs → Disjs
  unplaced_disjs no_disjs = no_disjs
  unplaced_disjs (more_disjs d ds) = more_disjs (unplaced_disj d) (unplaced_disjs ds)

  pub unplaced_disj : Disj → Disj
  unplaced_disj (disj n ps) = disj n (unplaced_parts ps)

  pub unplaced_parts : Parts → Parts
  unplaced_parts no_parts = no_parts
  unplaced_parts (more_parts p ps) = more_parts (unplaced_part p) (unplaced_parts ps)

  pub unplaced_part : Part → Part
  unplaced_part (block n any q b) = block n any (unplaced_query q) (unplaced_body b)
  unplaced_part (guarded n c b) = guarded n (unplaced_conds c) (unplaced_body b)
  unplaced_part (kinds n name c b) = kinds n name (unplaced_opt_conds c) (unplaced_body b)
  unplaced_part (test n any q op negated right message) = test n any (unplaced_query q) op negated (unplaced_opt_expr right) message
  unplaced_part (refer n negated name message) = refer n negated name message
  unplaced_part (call n negated name es message) = call n negated name (unplaced_exprs es) message

  pub unplaced_query : Query → Query
  unplaced_query (query n ps) = query n (unplaced_steps ps)

  pub unplaced_steps : Steps → Steps
  unplaced_steps no_steps = no_steps
  unplaced_steps (more_steps p ps) = more_steps (unplaced_step p) (unplaced_steps ps)

  pub unplaced_step : Step → Step
  unplaced_step (this n) = this n
  unplaced_step (var n name) = var n name
  unplaced_step (key n name) = key n name
  unplaced_step (index n i) = index n i
  unplaced_step (every n) = every n
  unplaced_step (items n) = items n
  unplaced_step (splice n name) = splice n (unplaced_name name)
  unplaced_step (filter n capture c) = filter n (option_map unplaced_name capture) (unplaced_conds c)
  unplaced_step (keys n capture op negated e) = keys n (option_map unplaced_name capture) op negated (unplaced_expr e)

  pub unplaced_expr : Expr → Expr
  unplaced_expr (literal n tree) = literal n (unplaced_tree tree)
  unplaced_expr (function n name es) = function n name (unplaced_exprs es)
  unplaced_expr (asked q) = asked (unplaced_query q)
  unplaced_expr (found n q) = found n (unplaced_query q)

  pub unplaced_opt_expr : OptExpr → OptExpr
  unplaced_opt_expr no_expr = no_expr
  unplaced_opt_expr (with_expr e) = with_expr (unplaced_expr e)

  pub unplaced_exprs : Exprs → Exprs
  unplaced_exprs no_exprs = no_exprs
  unplaced_exprs (more_exprs e es) = more_exprs (unplaced_expr e) (unplaced_exprs es)

abbrev pub unplaced_rule : Rule → Rule
unplaced_rule r = record { site = r.site; name = unplaced_name r.name; params = map unplaced_name r.params; cond = unplaced_opt_conds r.cond; body = unplaced_body r.body }

abbrev pub unplaced : File → File
unplaced f = record { lets = unplaced_lets f.lets; rules = map unplaced_rule f.rules; loose = unplaced_disjs f.loose; places = [] }

-- two files that are the same in all but places
abbrev pub AreSameButPlaces : File → File → Type 0
AreSameButPlaces f g = unplaced f ≡ unplaced g
