-- The parts of a rule file by their sites.
use Rattle.std.specs.Prelude.{ℕ, suc, ◌==◌, ◌≡◌, List, [], ◌∷◌, ◌++◌, length, Option, find, option_map}
use Rattle.guard_syntax.specs.Sites.{upto, sites_file}
use Rattle.guard_syntax.specs.Syntax.{Body, Lets, Let, Conds, OptConds, Disjs, Disj, Parts, Part, Query, Steps, Step, Expr, OptExpr, Exprs, Rule, File, body, no_lets, more_lets, assign, conds, no_conds, with_conds, no_disjs, more_disjs, disj, no_parts, more_parts, block, guarded, kinds, test, refer, call, query, no_steps, more_steps, this, var, key, index, every, items, splice, filter, keys, literal, function, asked, found, no_expr, with_expr, no_exprs, more_exprs}

-- what has a site
pub data Piece : Type 0 where
  OfFile : Piece
  OfLet : Let → Piece
  OfRule : Rule → Piece
  OfBody : Body → Piece
  OfConds : Conds → Piece
  OfDisj : Disj → Piece
  OfPart : Part → Piece
  OfQuery : Query → Piece
  -- a step: its query, and its index there
  OfStep : Query → ℕ → Piece
  -- a literal, a function call, or `some` and a query; any other query is a piece of its own
  OfExpr : Expr → Piece

-- a site and what has it
abbrev pub Sited : Type 0
Sited = ℕ × Piece

abbrev mutual
  pub pieces_body : Body → List Sited
  pieces_body (body n ls ds) = (n, OfBody (body n ls ds)) ∷ (pieces_lets ls ++ pieces_disjs ds)

  pub pieces_lets : Lets → List Sited
  pieces_lets no_lets = []
  pieces_lets (more_lets l ls) = pieces_let l ++ pieces_lets ls

  pub pieces_let : Let → List Sited
  pieces_let (assign n name e) = (n, OfLet (assign n name e)) ∷ pieces_expr e

  pub pieces_conds : Conds → List Sited
  pieces_conds (conds n ds) = (n, OfConds (conds n ds)) ∷ pieces_disjs ds

  pub pieces_opt_conds : OptConds → List Sited
  pieces_opt_conds no_conds = []
  pieces_opt_conds (with_conds c) = pieces_conds c

  pub pieces_disjs : Disjs → List Sited
  pieces_disjs no_disjs = []
  pieces_disjs (more_disjs d ds) = pieces_disj d ++ pieces_disjs ds

  pub pieces_disj : Disj → List Sited
  pieces_disj (disj n ps) = (n, OfDisj (disj n ps)) ∷ pieces_parts ps

  pub pieces_parts : Parts → List Sited
  pieces_parts no_parts = []
  pieces_parts (more_parts p ps) = pieces_part p ++ pieces_parts ps

  pub pieces_part : Part → List Sited
  pieces_part (block n any q b) = (n, OfPart (block n any q b)) ∷ (pieces_query q ++ pieces_body b)
  pieces_part (guarded n c b) = (n, OfPart (guarded n c b)) ∷ (pieces_conds c ++ pieces_body b)
  pieces_part (kinds n name c b) = (n, OfPart (kinds n name c b)) ∷ (pieces_opt_conds c ++ pieces_body b)
  pieces_part (test n any q op negated right message) =
      (n, OfPart (test n any q op negated right message)) ∷ (pieces_query q ++ pieces_opt_expr right)
  pieces_part (refer n negated name message) = (n, OfPart (refer n negated name message)) ∷ []
  pieces_part (call n negated name es message) = (n, OfPart (call n negated name es message)) ∷ pieces_exprs es

  pub pieces_query : Query → List Sited
  pieces_query (query n ss) = (n, OfQuery (query n ss)) ∷ pieces_steps (query n ss) 0 ss

  -- the steps of a query from the one with an index on
  pub pieces_steps : Query → ℕ → Steps → List Sited
  pieces_steps q i no_steps = []
  pieces_steps q i (more_steps p ps) = pieces_step q i p ++ pieces_steps q (suc i) ps

  pub pieces_step : Query → ℕ → Step → List Sited
  pieces_step q i (this n) = (n, OfStep q i) ∷ []
  pieces_step q i (var n name) = (n, OfStep q i) ∷ []
  pieces_step q i (key n name) = (n, OfStep q i) ∷ []
  pieces_step q i (index n at) = (n, OfStep q i) ∷ []
  pieces_step q i (every n) = (n, OfStep q i) ∷ []
  pieces_step q i (items n) = (n, OfStep q i) ∷ []
  pieces_step q i (splice n name) = (n, OfStep q i) ∷ []
  pieces_step q i (filter n capture c) = (n, OfStep q i) ∷ pieces_conds c
  pieces_step q i (keys n capture op negated e) = (n, OfStep q i) ∷ pieces_expr e

  pub pieces_expr : Expr → List Sited
  pieces_expr (literal n tree) = (n, OfExpr (literal n tree)) ∷ []
  pieces_expr (function n name es) = (n, OfExpr (function n name es)) ∷ pieces_exprs es
  pieces_expr (asked q) = pieces_query q
  pieces_expr (found n q) = (n, OfExpr (found n q)) ∷ pieces_query q

  pub pieces_opt_expr : OptExpr → List Sited
  pieces_opt_expr no_expr = []
  pieces_opt_expr (with_expr e) = pieces_expr e

  pub pieces_exprs : Exprs → List Sited
  pieces_exprs no_exprs = []
  pieces_exprs (more_exprs e es) = pieces_expr e ++ pieces_exprs es

abbrev pub pieces_rule : Rule → List Sited
pieces_rule r = (r.site, OfRule r) ∷ (pieces_opt_conds r.cond ++ pieces_body r.body)

abbrev pub pieces_rules : List Rule → List Sited
pieces_rules [] = []
pieces_rules (r ∷ rs) = pieces_rule r ++ pieces_rules rs

-- every part of a file with its site; the file's own is 0
abbrev pub pieces_file : File → List Sited
pieces_file f = (0, OfFile) ∷ (pieces_lets f.lets ++ (pieces_rules f.rules ++ pieces_disjs f.loose))

-- the piece with a site among pieces
abbrev pub piece_in : List Sited → ℕ → Option Piece
piece_in pieces n = option_map (λ (p : Sited). p.1) (find (λ (p : Sited). p.0 == n) pieces)

-- the piece of a file with a site
abbrev pub piece_at : File → ℕ → Option Piece
piece_at f n = piece_in (pieces_file f) n

-- the sites of a file are the numbers from 0 on, in the order in which its parts begin, and each has a place
abbrev pub AreInOrder : File → Type 0
AreInOrder f = sites_file f ≡ upto 0 (length f.places)
