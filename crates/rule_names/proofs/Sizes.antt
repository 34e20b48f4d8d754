-- How many parts stand in a part, and what has which size by its site. A step has the size of the steps up to it.
use Rattle.std.proofs.Common.{◌≡◌, ℕ, suc, ◌+◌, ◌≤◌, ap, ◌∙◌, arith, List, [], ◌∷◌, ◌++◌, Option, Some, None}
use Rattle.guard_syntax.specs.Syntax.{Body, Lets, Let, Conds, OptConds, Disjs, Disj, Parts, Part, Query, Steps, Step, Expr, OptExpr, Exprs, File, body, no_lets, more_lets, assign, conds, no_conds, with_conds, no_disjs, more_disjs, disj, no_parts, more_parts, block, guarded, kinds, test, refer, call, query, no_steps, more_steps, this, var, key, index, every, items, splice, filter, keys, literal, function, asked, found, no_expr, with_expr, no_exprs, more_exprs}
use Rattle.rule_names.specs.Cycles.{steps_of}
use Rattle.rule_names.specs.Depths.{first_steps}
use Rattle.rule_names.specs.Pieces.{Piece, OfFile, OfLet, OfRule, OfBody, OfConds, OfDisj, OfPart, OfQuery, OfStep, OfExpr, Sited, piece_at, pieces_file, pieces_body, pieces_conds, pieces_disj, pieces_part, pieces_query, pieces_steps, pieces_step, pieces_expr, AreInOrder}
use Rattle.rule_names.specs.ReferenceGraph.{body_site, conds_site, disj_site, part_site, step_site, last_site}
use Rattle.rule_names.specs.Uses.{query_site, expr_site}
use Rattle.rule_names.specs.code.Within.{StandsIn}
use Rattle.rule_names.proofs.Among.{IsAmong-inner, IsAmong-first, IsAmong-last, IsAmong-behind}
use Rattle.rule_names.proofs.PiecesFound.{piece-found}
use Rattle.rule_names.proofs.PiecesStand.{IsAmong-whole}

abbrev mutual
  pub size_body : Body → ℕ
  size_body (body n ls ds) = suc (size_lets ls + size_disjs ds)

  -- a let is no part of its own
  pub size_lets : Lets → ℕ
  size_lets no_lets = 0
  size_lets (more_lets l ls) = size_let l + size_lets ls

  pub size_let : Let → ℕ
  size_let (assign n name e) = size_expr e

  pub size_conds : Conds → ℕ
  size_conds (conds n ds) = suc (size_disjs ds)

  pub size_opt_conds : OptConds → ℕ
  size_opt_conds no_conds = 0
  size_opt_conds (with_conds c) = size_conds c

  pub size_disjs : Disjs → ℕ
  size_disjs no_disjs = 0
  size_disjs (more_disjs d ds) = size_disj d + size_disjs ds

  pub size_disj : Disj → ℕ
  size_disj (disj n ps) = suc (size_parts ps)

  pub size_parts : Parts → ℕ
  size_parts no_parts = 0
  size_parts (more_parts p ps) = size_part p + size_parts ps

  pub size_part : Part → ℕ
  size_part (block n any q b) = suc (size_query q + size_body b)
  size_part (guarded n c b) = suc (size_conds c + size_body b)
  size_part (kinds n name c b) = suc (size_opt_conds c + size_body b)
  size_part (test n any q op negated right message) = suc (size_query q + size_opt_expr right)
  size_part (refer n negated name message) = 1
  size_part (call n negated name es message) = suc (size_exprs es)

  pub size_query : Query → ℕ
  size_query (query n ss) = suc (size_steps ss)

  pub size_steps : Steps → ℕ
  size_steps no_steps = 0
  size_steps (more_steps p ps) = size_step p + size_steps ps

  pub size_step : Step → ℕ
  size_step (this n) = 1
  size_step (var n name) = 1
  size_step (key n name) = 1
  size_step (index n i) = 1
  size_step (every n) = 1
  size_step (items n) = 1
  size_step (splice n name) = 1
  size_step (filter n capture c) = suc (size_conds c)
  size_step (keys n capture op negated e) = suc (size_expr e)

  pub size_expr : Expr → ℕ
  size_expr (literal n tree) = 1
  size_expr (function n name es) = suc (size_exprs es)
  size_expr (asked q) = size_query q
  size_expr (found n q) = suc (size_query q)

  pub size_opt_expr : OptExpr → ℕ
  size_opt_expr no_expr = 0
  size_opt_expr (with_expr e) = size_expr e

  pub size_exprs : Exprs → ℕ
  size_exprs no_exprs = 0
  size_exprs (more_exprs e es) = size_expr e + size_exprs es

-- the steps of a query up to an index
abbrev pub size_to : Query → ℕ → ℕ
size_to q i = size_steps (first_steps i (steps_of q))

abbrev pub size_piece : Option Piece → ℕ
size_piece None = 0
size_piece (Some OfFile) = 0
size_piece (Some (OfLet l)) = 0
size_piece (Some (OfRule r)) = 0
size_piece (Some (OfBody b)) = size_body b
size_piece (Some (OfConds c)) = size_conds c
size_piece (Some (OfDisj d)) = size_disj d
size_piece (Some (OfPart p)) = size_part p
size_piece (Some (OfQuery q)) = size_query q
size_piece (Some (OfStep q i)) = size_to q i
size_piece (Some (OfExpr e)) = size_expr e

abbrev pub size_at : File → ℕ → ℕ
size_at f n = size_piece (piece_at f n)

pub step-some : (p : Step) → 1 ≤ size_step p
step-some (this n) = omega arith
step-some (var n name) = omega arith
step-some (key n name) = omega arith
step-some (index n i) = omega arith
step-some (every n) = omega arith
step-some (items n) = omega arith
step-some (splice n name) = omega arith
step-some (filter n capture c) = omega arith
step-some (keys n capture op negated e) = omega arith

module _ (f : File) where
  -- ---- what stands in a part that stands in the file

  pub first-stands : (ps qs : List Sited) → StandsIn f (ps ++ qs) → StandsIn f ps
  first-stands ps qs s = IsAmong-inner ps (ps ++ qs) (pieces_file f) (IsAmong-first ps qs) s

  pub last-stands : (ps qs : List Sited) → StandsIn f (ps ++ qs) → StandsIn f qs
  last-stands ps qs s = IsAmong-inner qs (ps ++ qs) (pieces_file f) (IsAmong-last ps qs) s

  pub behind-stands : (p : Sited) (ps : List Sited) → StandsIn f (p ∷ ps) → StandsIn f ps
  behind-stands p ps s = IsAmong-inner ps (p ∷ ps) (pieces_file f) (IsAmong-behind p ps ps (IsAmong-whole ps)) s

  module _ (order : AreInOrder f) where
    -- ---- a part that stands in the file has its size at its site

    own-size : (n : ℕ) (q : Piece) (more : List Sited) → StandsIn f ((n, q) ∷ more) → size_at f n ≡ size_piece (Some q)
    own-size n q more s = ap size_piece (piece-found f n q more order s)

    pub body-size : (x : Body) → StandsIn f (pieces_body x) → size_at f (body_site x) ≡ size_body x
    body-size (body n ls ds) s = own-size n (OfBody (body n ls ds)) _ s

    pub conds-size : (x : Conds) → StandsIn f (pieces_conds x) → size_at f (conds_site x) ≡ size_conds x
    conds-size (conds n ds) s = own-size n (OfConds (conds n ds)) _ s

    pub disj-size : (x : Disj) → StandsIn f (pieces_disj x) → size_at f (disj_site x) ≡ size_disj x
    disj-size (disj n ps) s = own-size n (OfDisj (disj n ps)) _ s

    pub part-size : (x : Part) → StandsIn f (pieces_part x) → size_at f (part_site x) ≡ size_part x
    part-size (block n any q b) s = own-size n (OfPart (block n any q b)) _ s
    part-size (guarded n c b) s = own-size n (OfPart (guarded n c b)) _ s
    part-size (kinds n name c b) s = own-size n (OfPart (kinds n name c b)) _ s
    part-size (test n any q op negated right message) s = own-size n (OfPart (test n any q op negated right message)) _ s
    part-size (refer n negated name message) s = own-size n (OfPart (refer n negated name message)) [] s
    part-size (call n negated name es message) s = own-size n (OfPart (call n negated name es message)) _ s

    pub query-size : (x : Query) → StandsIn f (pieces_query x) → size_at f (query_site x) ≡ size_query x
    query-size (query n ss) s = own-size n (OfQuery (query n ss)) _ s

    pub expr-size : (x : Expr) → StandsIn f (pieces_expr x) → size_at f (expr_site x) ≡ size_expr x
    expr-size (literal n tree) s = own-size n (OfExpr (literal n tree)) [] s
    expr-size (function n name es) s = own-size n (OfExpr (function n name es)) _ s
    expr-size (asked q) s = query-size q s
    expr-size (found n q) s = own-size n (OfExpr (found n q)) _ s

    pub step-size : (q : Query) (i : ℕ) (x : Step) → StandsIn f (pieces_step q i x) → size_at f (step_site x) ≡ size_to q i
    step-size q i (this n) s = own-size n (OfStep q i) [] s
    step-size q i (var n name) s = own-size n (OfStep q i) [] s
    step-size q i (key n name) s = own-size n (OfStep q i) [] s
    step-size q i (index n at) s = own-size n (OfStep q i) [] s
    step-size q i (every n) s = own-size n (OfStep q i) [] s
    step-size q i (items n) s = own-size n (OfStep q i) [] s
    step-size q i (splice n name) s = own-size n (OfStep q i) [] s
    step-size q i (filter n capture c) s = own-size n (OfStep q i) _ s
    step-size q i (keys n capture op negated e) s = own-size n (OfStep q i) _ s

    -- ---- steps, behind those of a query before an index, which together have a size

    pub record AreFrom (q : Query) (i t : ℕ) (ss : Steps) : Type 0 where
      pub sizes : (k : ℕ) → size_to q (i + k) ≡ t + size_steps (first_steps k ss)

    pub all-from : (n : ℕ) (ss : Steps) → AreFrom (query n ss) 0 0 ss
    all-from n ss = record {
      sizes = λ k.
          let same : 0 + k ≡ k = omega arith in
          let none : size_steps (first_steps k ss) ≡ 0 + size_steps (first_steps k ss) = omega arith in
          ap (size_to (query n ss)) same ∙ none;
    }

    pub next-from : (q : Query) (i t : ℕ) (p : Step) (ps : Steps) → AreFrom q i t (more_steps p ps) → AreFrom q (suc i) (t + size_step p) ps
    next-from q i t p ps are = record {
      sizes = λ k.
          let e : size_to q (i + suc k) ≡ t + (size_step p + size_steps (first_steps k ps)) = are.sizes (suc k) in
          let same : suc i + k ≡ i + suc k = omega arith in
          ap (size_to q) same ∙ e ∙ omega arith;
    }

    -- a step has the size of those before it and its own
    pub step-total : (q : Query) (i t : ℕ) (p : Step) (ps : Steps) → AreFrom q i t (more_steps p ps) → StandsIn f (pieces_step q i p) → size_at f (step_site p) ≡ t + size_step p
    step-total q i t p ps are s =
        let e : size_to q (i + 0) ≡ t + (size_step p + 0) = are.sizes 0 in
        let same : i ≡ i + 0 = omega arith in
        step-size q i p s ∙ ap (size_to q) same ∙ e ∙ omega arith

    -- and the last one that of all
    pub last-total : (q : Query) (i t : ℕ) (p : Step) (ps : Steps) → AreFrom q i t (more_steps p ps) → StandsIn f (pieces_steps q i (more_steps p ps))
        → size_at f (last_site (step_site p) ps) ≡ t + (size_step p + size_steps ps)
    last-total q i t p no_steps are s = step-total q i t p no_steps are (first-stands (pieces_step q i p) _ s) ∙ omega arith
    last-total q i t p (more_steps r rs) are s =
        last-total q (suc i) (t + size_step p) r rs (next-from q i t p (more_steps r rs) are) (last-stands (pieces_step q i p) (pieces_steps q (suc i) (more_steps r rs)) s) ∙ omega arith
