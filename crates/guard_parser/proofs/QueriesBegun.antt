-- Each query of what the lexemes spell begins with its start: by recursion on the syntax, as the grammar goes.
use Rattle.std.proofs.Common.{ℕ, Bool, true, false, List, [], ◌∷◌, ◌++◌, All, Option, flat_map}
use Rattle.std.proofs.lemmas.List.Elements.{All-nil, All-cons, All-append}
use Rattle.guard_lexer.specs.declared.token.Token.{Token}
use Rattle.guard_syntax.specs.Named.{Named}
use Rattle.guard_syntax.specs.declared.syntax.Op.{Op}
use Rattle.guard_syntax.specs.Syntax.{Body, Lets, Let, Conds, OptConds, Disjs, Disj, Parts, Part, Query, Steps, Step, Expr, OptExpr, Exprs, Rule, File, body, no_lets, more_lets, assign, conds, no_conds, with_conds, no_disjs, more_disjs, disj, no_parts, more_parts, block, guarded, kinds, test, refer, call, query, no_steps, more_steps, this, var, key, index, every, items, splice, filter, keys, literal, function, asked, found, no_expr, with_expr, no_exprs, more_exprs}
use Rattle.guard_syntax.specs.code.Queries as sq
use Rattle.guard_syntax.specs.code.Queries.{Begins, QueriesBegin, queries_body, queries_lets, queries_let, queries_conds, queries_opt_conds, queries_disjs, queries_disj, queries_parts, queries_part, queries_query, queries_steps, queries_step, queries_expr, queries_opt_expr, queries_exprs, queries_rule}
use Rattle.literal_parser.specs.Lexemes.{Lexeme, lexemes}
use Rattle.literal_parser.specs.States.{State, start}
use Rattle.guard_parser.specs.Grammar.{Piece, IsBody, AreLets, AreDisjs, IsLet, IsConds, IsDisjs, IsOptConds, IsDisj, IsOrs, IsPart, IsRight, IsQuery, IsStart, IsSteps, IsStep, IsExpr, IsExprs, IsMoreExprs, IsHead, IsRule, AreRules, IsContents}
use Rattle.guard_parser.specs.File.{IsSpelled}

-- these queries begin
pub record Begun (qs : List Query) : Type 0 where
  pub all : All Begins qs

nothing : Begun []
nothing = record { all = All-nil Begins }

both : {xs ys : List Query} → Begun xs → Begun ys → Begun (xs ++ ys)
both {xs = xs} {ys = ys} h k = record { all = All-append Begins xs ys h.all k.all }

first : (x : Query) (xs : List Query) → Begins x → Begun xs → Begun (x ∷ xs)
first x xs b h = record { all = All-cons Begins x xs b h.all }

module _ (s : ℕ → Lexeme) where
  start_begins : (x : Step) (a b : State) → IsStart s x a b → sq.IsStart x
  start_begins (this n) a b h = tt
  start_begins (var n name) a b h = tt
  start_begins (key n name) a b h = tt
  start_begins (index n i) a b h = absurd h
  start_begins (every n) a b h = absurd h
  start_begins (items n) a b h = absurd h
  start_begins (splice n name) a b h = absurd h
  start_begins (filter n name c) a b h = absurd h
  start_begins (keys n name op negated e) a b h = absurd h

  -- a start has no queries in it
  start_begun : (x : Step) (a b : State) → IsStart s x a b → Begun (queries_step x)
  start_begun (this n) a b h = nothing
  start_begun (var n name) a b h = nothing
  start_begun (key n name) a b h = nothing
  start_begun (index n i) a b h = absurd h
  start_begun (every n) a b h = absurd h
  start_begun (items n) a b h = absurd h
  start_begun (splice n name) a b h = absurd h
  start_begun (filter n name c) a b h = absurd h
  start_begun (keys n name op negated e) a b h = absurd h

  mutual
    body_begun : (x : Body) (a b : State) → IsBody s x a b → Begun (queries_body x)
    body_begun (body n ls ds) a z (b, o, (c, e, (d, (ps, row, l, p, filled), h))) = both (lets_begun ls _ l) (parts_begun ds _ p)

    lets_begun : (x : Lets) (ps : List Piece) → AreLets s x ps → Begun (queries_lets x)
    lets_begun no_lets [] h = nothing
    lets_begun no_lets (p ∷ ps) h = absurd h
    lets_begun (more_lets l ls) [] h = absurd h
    lets_begun (more_lets l ls) (p ∷ ps) h = both (let_begun l p.from p.to h.0) (lets_begun ls ps h.1)

    parts_begun : (x : Disjs) (ps : List Piece) → AreDisjs s x ps → Begun (queries_disjs x)
    parts_begun no_disjs [] h = nothing
    parts_begun no_disjs (p ∷ ps) h = absurd h
    parts_begun (more_disjs d ds) [] h = absurd h
    parts_begun (more_disjs d ds) (p ∷ ps) h = both (disj_begun true d p.from p.to h.0) (parts_begun ds ps h.1)

    let_begun : (x : Let) (a b : State) → IsLet s x a b → Begun (queries_let x)
    let_begun (assign n name e) a z (b, o, (c, e1, (d, e2, (i, e3, h)))) = expr_begun true e i z h

    conds_begun : (x : Conds) (a b : State) → IsConds s x a b → Begun (queries_conds x)
    conds_begun (conds n no_disjs) a z h = absurd h
    conds_begun (conds n (more_disjs d ds)) a z (b, o, (m, f, g)) = both (disj_begun false d b m f) (disjs_begun ds m z g)

    opt_conds_begun : (x : OptConds) (a b : State) → IsOptConds s x a b → Begun (queries_opt_conds x)
    opt_conds_begun no_conds a b h = nothing
    opt_conds_begun (with_conds c) a b (m, e, h) = conds_begun c m b h

    disjs_begun : (x : Disjs) (a b : State) → IsDisjs s x a b → Begun (queries_disjs x)
    disjs_begun no_disjs a b h = nothing
    disjs_begun (more_disjs d ds) a b (e, (m, f, g)) = both (disj_begun false d a m f) (disjs_begun ds m b g)

    disj_begun : (full : Bool) (x : Disj) (a b : State) → IsDisj s full x a b → Begun (queries_disj x)
    disj_begun full (disj n no_parts) a z h = absurd h
    disj_begun full (disj n (more_parts p ps)) a z (b, o, (m, f, g)) = both (part_begun full p b m f) (ors_begun full ps m z g)

    ors_begun : (full : Bool) (x : Parts) (a b : State) → IsOrs s full x a b → Begun (queries_parts x)
    ors_begun full no_parts a b h = nothing
    ors_begun full (more_parts p ps) a z (b, e, (m, f, g)) = both (part_begun full p b m f) (ors_begun full ps m z g)

    part_begun : (full : Bool) (x : Part) (a b : State) → IsPart s full x a b → Begun (queries_part x)
    part_begun full (block n any q x) a z (v, (b, o, (c, h, (m, f, g)))) = both (query_begun q c m f) (body_begun x m z g)
    part_begun full (guarded n x y) a z (v, (b, o, (c, e, (m, f, g)))) = both (conds_begun x c m f) (body_begun y m z g)
    part_begun full (kinds n name x y) a z (v, (b, o, (c, e, (m, f, g)))) = both (opt_conds_begun x c m f) (body_begun y m z g)
    part_begun full (test n any q op negated x message) a z (b, o, (c, h, (d, f, (i, g, (m, r, t))))) = both (query_begun q c d f) (right_begun op x i m r)
    part_begun full (refer n negated name message) a z h = nothing
    part_begun full (call n negated name es message) a z (b, o, (c, h, (d, f, (i, g, (j, k, (m, r, t)))))) = exprs_begun es i j k

    right_begun : (op : Op) (x : OptExpr) (a b : State) → IsRight s op x a b → Begun (queries_opt_expr x)
    right_begun op no_expr a b h = nothing
    right_begun op (with_expr e) a b h = expr_begun false e a b h.1

    query_begun : (x : Query) (a b : State) → IsQuery s x a b → Begun (queries_query x)
    query_begun (query n no_steps) a z h = absurd h
    query_begun (query n (more_steps p ps)) a z (b, o, (m, f, g)) =
        first (query n (more_steps p ps)) (queries_steps (more_steps p ps)) (start_begins p b m f) (both (start_begun p b m f) (steps_begun ps m z g))

    steps_begun : (x : Steps) (a b : State) → IsSteps s x a b → Begun (queries_steps x)
    steps_begun no_steps a b h = nothing
    steps_begun (more_steps p ps) a b (e, (m, f, g)) = both (step_begun p a m f) (steps_begun ps m b g)

    step_begun : (x : Step) (a b : State) → IsStep s x a b → Begun (queries_step x)
    step_begun (this n) a z h = nothing
    step_begun (var n name) a z h = nothing
    step_begun (key n name) a z h = nothing
    step_begun (index n i) a z h = nothing
    step_begun (every n) a z h = nothing
    step_begun (items n) a z h = nothing
    step_begun (splice n name) a z h = nothing
    step_begun (filter n name x) a z (b, o, (c, e, (d, f, (m, g, h)))) = conds_begun x d m g
    step_begun (keys n name op negated x) a z (b, o, (c, e, (d, f, (i, k, (j, t, (m, g, h)))))) = expr_begun false x j m g

    expr_begun : (lone : Bool) (x : Expr) (a b : State) → IsExpr s lone x a b → Begun (queries_expr x)
    expr_begun lone (literal n t) a z h = nothing
    expr_begun lone (function n name es) a z (v, (b, o, (c, e, (d, f, (m, g, h))))) = exprs_begun es d m g
    expr_begun lone (asked q) a z (v, (w, h)) = query_begun q a z h
    expr_begun lone (found n q) a z (v, (w, (b, o, (c, e, f)))) = query_begun q c z f

    exprs_begun : (x : Exprs) (a b : State) → IsExprs s x a b → Begun (queries_exprs x)
    exprs_begun no_exprs a b h = absurd h
    exprs_begun (more_exprs e es) a b (m, f, g) = both (expr_begun false e a m f) (more_exprs_begun es m b g)

    more_exprs_begun : (x : Exprs) (a b : State) → IsMoreExprs s x a b → Begun (queries_exprs x)
    more_exprs_begun no_exprs a b h = nothing
    more_exprs_begun (more_exprs e es) a z (b, h, (m, f, g)) = both (expr_begun false e b m f) (more_exprs_begun es m z g)

  head_begun : (ns : List Named) (c : OptConds) (a b : State) → IsHead s ns c a b → Begun (queries_opt_conds c)
  head_begun [] c a b h = opt_conds_begun c a b h.1
  head_begun (n ∷ ns) no_conds a b h = nothing
  head_begun (n ∷ ns) (with_conds c) a b h = absurd h

  rule_begun : (r : Rule) (a b : State) → IsRule s r a b → Begun (queries_rule r)
  rule_begun r a z (b, o, (c, e, (d, f, (m, g, h)))) = both (head_begun r.params r.cond d m g) (body_begun r.body m z h)

  rules_begun : (x : List Rule) (ps : List Piece) → AreRules s x ps → Begun (flat_map queries_rule x)
  rules_begun [] [] h = nothing
  rules_begun [] (p ∷ ps) h = absurd h
  rules_begun (r ∷ rs) [] h = absurd h
  rules_begun (r ∷ rs) (p ∷ ps) h = both (rule_begun r p.from p.to h.0) (rules_begun rs ps h.1)

  contents_begun : (ls : Lets) (rs : List Rule) (ds : Disjs) (a b : State) → IsContents s ls rs ds a b → Begun (queries_lets ls ++ (flat_map queries_rule rs ++ queries_disjs ds))
  contents_begun ls rs ds a z (b, o, (ps, row, l, r, p)) = both (lets_begun ls _ l) (both (rules_begun rs _ r) (parts_begun ds _ p))

-- each query of a file that tokens spell begins
pub queries_begin_is : (text : List ℕ) (tokens : List Token) (f : File) (p : Option ℕ) → IsSpelled text tokens f p → QueriesBegin f
queries_begin_is text tokens f p (b, h, at, places, mixed) = (contents_begun (lexemes text tokens) f.lets f.rules f.loose start b h).all
