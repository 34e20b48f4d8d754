-- Each query that stands in a file has a first step, which is a start, where all queries of the file begin: by the syntax of the file.
use Rattle.std.proofs.Common.{◌≡◌, ℕ, suc, subst, inl, inr, arith, List, [], ◌∷◌, ◌++◌, Contains, Some, refl}
use Rattle.std.specs.List.{flat_map}
use Rattle.std.proofs.lemmas.List.Elements.{All-contains, Contains-append_left, Contains-append_right, Contains-get_or}
use Rattle.guard_syntax.specs.Syntax.{Body, Conds, Disj, Disjs, Expr, Exprs, File, Let, Lets, OptConds, OptExpr, Part, Parts, Query, Rule, Step, Steps, asked, assign, block, body, call, conds, disj, every, filter, found, function, guarded, index, items, key, keys, kinds, literal, more_disjs, more_exprs, more_lets, more_parts, more_steps, no_conds, no_disjs, no_expr, no_exprs, no_lets, no_parts, no_steps, query, refer, splice, test, this, var, with_conds, with_expr}
use Rattle.guard_syntax.specs.code.Queries.{Begins, IsStart, QueriesBegin, queries_body, queries_conds, queries_disj, queries_disjs, queries_expr, queries_exprs, queries_file, queries_let, queries_lets, queries_opt_conds, queries_opt_expr, queries_part, queries_parts, queries_query, queries_rule, queries_step, queries_steps}
use Rattle.rule_names.specs.Pieces.{OfBody, OfConds, OfDisj, OfExpr, OfFile, OfLet, OfPart, OfQuery, OfRule, OfStep, Piece, Sited, piece_at, piece_in, pieces_body, pieces_conds, pieces_disj, pieces_disjs, pieces_expr, pieces_exprs, pieces_file, pieces_let, pieces_lets, pieces_opt_conds, pieces_opt_expr, pieces_part, pieces_parts, pieces_query, pieces_rule, pieces_rules, pieces_step, pieces_steps}
use Rattle.rule_names.proofs.PiecesStand.{append-found, cons-found, none-found}
use Rattle.rule_meaning.specs.Places.{step_in, steps_in}

-- a query that has a step begins
abbrev InBegun : Piece → Type 0
InBegun (OfQuery q) = Begins q
InBegun (OfStep q i) = Begins q
InBegun _ = Unit {0}

record Begun (ps : List Sited) (qs : List Query) : Type 0 where
  at : ((q : Query) → Contains qs q → Begins q) → (n : ℕ) (p : Piece) → piece_in ps n ≡ Some p → InBegun p

begun-none : (qs : List Query) → Begun [] qs
begun-none qs = record { at = λ all n p is. absurd (none-found n p is) }

begun-cons : (m : ℕ) (q : Piece) (ps : List Sited) (qs : List Query) → (((x : Query) → Contains qs x → Begins x) → InBegun q) → Begun ps qs → Begun ((m, q) ∷ ps) qs
begun-cons m q ps qs own rest = record {
  at = λ all n p is. elim (cons-found n m q p ps is) [
    | inl same ↦ subst InBegun same (own all)
    | inr there ↦ rest.at all n p there
  ];
}

begun-append : (ps rs : List Sited) (qs xs : List Query) → Begun ps qs → Begun rs xs → Begun (ps ++ rs) (qs ++ xs)
begun-append ps rs qs xs one other = record {
  at = λ all n p is. elim (append-found n p ps rs is) [
    | inl here ↦ one.at (λ q among. all q (Contains-append_left qs xs q among)) n p here
    | inr there ↦ other.at (λ q among. all q (Contains-append_right qs xs q among)) n p there
  ];
}

mutual
  body-begun : (x : Body) → Begun (pieces_body x) (queries_body x)
  body-begun (body n ls ds) =
      begun-cons n (OfBody (body n ls ds)) (pieces_lets ls ++ pieces_disjs ds) (queries_lets ls ++ queries_disjs ds) (λ all. tt)
      (begun-append (pieces_lets ls) (pieces_disjs ds) (queries_lets ls) (queries_disjs ds) (lets-begun ls) (disjs-begun ds))

  lets-begun : (x : Lets) → Begun (pieces_lets x) (queries_lets x)
  lets-begun no_lets = begun-none []
  lets-begun (more_lets l ls) = begun-append (pieces_let l) (pieces_lets ls) (queries_let l) (queries_lets ls) (let-begun l) (lets-begun ls)

  let-begun : (x : Let) → Begun (pieces_let x) (queries_let x)
  let-begun (assign n name e) = begun-cons n (OfLet (assign n name e)) (pieces_expr e) (queries_expr e) (λ all. tt) (expr-begun e)

  conds-begun : (x : Conds) → Begun (pieces_conds x) (queries_conds x)
  conds-begun (conds n ds) = begun-cons n (OfConds (conds n ds)) (pieces_disjs ds) (queries_disjs ds) (λ all. tt) (disjs-begun ds)

  opt_conds-begun : (x : OptConds) → Begun (pieces_opt_conds x) (queries_opt_conds x)
  opt_conds-begun no_conds = begun-none []
  opt_conds-begun (with_conds c) = conds-begun c

  disjs-begun : (x : Disjs) → Begun (pieces_disjs x) (queries_disjs x)
  disjs-begun no_disjs = begun-none []
  disjs-begun (more_disjs d ds) = begun-append (pieces_disj d) (pieces_disjs ds) (queries_disj d) (queries_disjs ds) (disj-begun d) (disjs-begun ds)

  disj-begun : (x : Disj) → Begun (pieces_disj x) (queries_disj x)
  disj-begun (disj n ps) = begun-cons n (OfDisj (disj n ps)) (pieces_parts ps) (queries_parts ps) (λ all. tt) (parts-begun ps)

  parts-begun : (x : Parts) → Begun (pieces_parts x) (queries_parts x)
  parts-begun no_parts = begun-none []
  parts-begun (more_parts p ps) = begun-append (pieces_part p) (pieces_parts ps) (queries_part p) (queries_parts ps) (part-begun p) (parts-begun ps)

  part-begun : (x : Part) → Begun (pieces_part x) (queries_part x)
  part-begun (block n any q b) =
      begun-cons n (OfPart (block n any q b)) (pieces_query q ++ pieces_body b) (queries_query q ++ queries_body b) (λ all. tt)
      (begun-append (pieces_query q) (pieces_body b) (queries_query q) (queries_body b) (query-begun q) (body-begun b))
  part-begun (guarded n c b) =
      begun-cons n (OfPart (guarded n c b)) (pieces_conds c ++ pieces_body b) (queries_conds c ++ queries_body b) (λ all. tt)
      (begun-append (pieces_conds c) (pieces_body b) (queries_conds c) (queries_body b) (conds-begun c) (body-begun b))
  part-begun (kinds n name c b) =
      begun-cons n (OfPart (kinds n name c b)) (pieces_opt_conds c ++ pieces_body b) (queries_opt_conds c ++ queries_body b) (λ all. tt)
      (begun-append (pieces_opt_conds c) (pieces_body b) (queries_opt_conds c) (queries_body b) (opt_conds-begun c) (body-begun b))
  part-begun (test n any q op negated right message) =
      begun-cons n (OfPart (test n any q op negated right message)) (pieces_query q ++ pieces_opt_expr right) (queries_query q ++ queries_opt_expr right) (λ all. tt)
      (begun-append (pieces_query q) (pieces_opt_expr right) (queries_query q) (queries_opt_expr right) (query-begun q) (opt_expr-begun right))
  part-begun (refer n negated name message) = begun-cons n (OfPart (refer n negated name message)) [] [] (λ all. tt) (begun-none [])
  part-begun (call n negated name es message) = begun-cons n (OfPart (call n negated name es message)) (pieces_exprs es) (queries_exprs es) (λ all. tt) (exprs-begun es)

  query-begun : (x : Query) → Begun (pieces_query x) (queries_query x)
  query-begun (query n ss) = record {
    at = λ all k p is.
        let begins = all (query n ss) (Contains-get_or (query n ss ∷ queries_steps ss) 0 (query n ss) (omega arith)) in
        let rest = steps-begun (query n ss) begins 0 ss in
        (begun-cons n (OfQuery (query n ss)) (pieces_steps (query n ss) 0 ss) (queries_steps ss) (λ others. begins) rest).at
        (λ q among. all q (Contains-append_right (query n ss ∷ []) (queries_steps ss) q among)) k p is;
  }

  steps-begun : (q : Query) → Begins q → (i : ℕ) (x : Steps) → Begun (pieces_steps q i x) (queries_steps x)
  steps-begun q begins i no_steps = begun-none []
  steps-begun q begins i (more_steps p ps) =
      begun-append (pieces_step q i p) (pieces_steps q (suc i) ps) (queries_step p) (queries_steps ps) (step-begun q begins i p) (steps-begun q begins (suc i) ps)

  step-begun : (q : Query) → Begins q → (i : ℕ) (x : Step) → Begun (pieces_step q i x) (queries_step x)
  step-begun q begins i (this m) = begun-cons m (OfStep q i) [] [] (λ all. begins) (begun-none [])
  step-begun q begins i (var m name) = begun-cons m (OfStep q i) [] [] (λ all. begins) (begun-none [])
  step-begun q begins i (key m name) = begun-cons m (OfStep q i) [] [] (λ all. begins) (begun-none [])
  step-begun q begins i (index m k) = begun-cons m (OfStep q i) [] [] (λ all. begins) (begun-none [])
  step-begun q begins i (every m) = begun-cons m (OfStep q i) [] [] (λ all. begins) (begun-none [])
  step-begun q begins i (items m) = begun-cons m (OfStep q i) [] [] (λ all. begins) (begun-none [])
  step-begun q begins i (splice m name) = begun-cons m (OfStep q i) [] [] (λ all. begins) (begun-none [])
  step-begun q begins i (filter m capture c) = begun-cons m (OfStep q i) (pieces_conds c) (queries_conds c) (λ all. begins) (conds-begun c)
  step-begun q begins i (keys m capture op negated e) = begun-cons m (OfStep q i) (pieces_expr e) (queries_expr e) (λ all. begins) (expr-begun e)

  expr-begun : (x : Expr) → Begun (pieces_expr x) (queries_expr x)
  expr-begun (literal n tree) = begun-cons n (OfExpr (literal n tree)) [] [] (λ all. tt) (begun-none [])
  expr-begun (function n name es) = begun-cons n (OfExpr (function n name es)) (pieces_exprs es) (queries_exprs es) (λ all. tt) (exprs-begun es)
  expr-begun (asked q) = query-begun q
  expr-begun (found n q) = begun-cons n (OfExpr (found n q)) (pieces_query q) (queries_query q) (λ all. tt) (query-begun q)

  opt_expr-begun : (x : OptExpr) → Begun (pieces_opt_expr x) (queries_opt_expr x)
  opt_expr-begun no_expr = begun-none []
  opt_expr-begun (with_expr e) = expr-begun e

  exprs-begun : (x : Exprs) → Begun (pieces_exprs x) (queries_exprs x)
  exprs-begun no_exprs = begun-none []
  exprs-begun (more_exprs e es) = begun-append (pieces_expr e) (pieces_exprs es) (queries_expr e) (queries_exprs es) (expr-begun e) (exprs-begun es)

rule-begun : (r : Rule) → Begun (pieces_rule r) (queries_rule r)
rule-begun r =
    begun-cons r.site (OfRule r) (pieces_opt_conds r.cond ++ pieces_body r.body) (queries_opt_conds r.cond ++ queries_body r.body) (λ all. tt)
    (begun-append (pieces_opt_conds r.cond) (pieces_body r.body) (queries_opt_conds r.cond) (queries_body r.body) (opt_conds-begun r.cond) (body-begun r.body))

rules-begun : (rs : List Rule) → Begun (pieces_rules rs) (flat_map queries_rule rs)
rules-begun [] = begun-none []
rules-begun (r ∷ rs) = begun-append (pieces_rule r) (pieces_rules rs) (queries_rule r) (flat_map queries_rule rs) (rule-begun r) (rules-begun rs)

file-begun : (f : File) → Begun (pieces_file f) (queries_file f)
file-begun f =
    begun-cons 0 OfFile (pieces_lets f.lets ++ (pieces_rules f.rules ++ pieces_disjs f.loose)) (queries_file f) (λ all. tt)
    (begun-append (pieces_lets f.lets) (pieces_rules f.rules ++ pieces_disjs f.loose) (queries_lets f.lets) (flat_map queries_rule f.rules ++ queries_disjs f.loose) (lets-begun f.lets)
    (begun-append (pieces_rules f.rules) (pieces_disjs f.loose) (flat_map queries_rule f.rules) (queries_disjs f.loose) (rules-begun f.rules) (disjs-begun f.loose)))

module _ (f : File) (begins : QueriesBegin f) (site : ℕ) (q : Query) where
  pub query-begins : piece_at f site ≡ Some (OfQuery q) → Begins q
  query-begins there = (file-begun f).at (λ x among. All-contains Begins (queries_file f) x begins among) site (OfQuery q) there

  -- so does one that has a step in the file
  pub asking-begins : (i : ℕ) → piece_at f site ≡ Some (OfStep q i) → Begins q
  asking-begins i there = (file-begun f).at (λ x among. All-contains Begins (queries_file f) x begins among) site (OfStep q i) there

-- its first step
pub first-start : (q : Query) → Begins q → (p : Step) × (step_in (steps_in q) 0 ≡ Some p) × IsStart p
first-start (query n no_steps) begins = absurd begins
first-start (query n (more_steps p ps)) begins = (p, refl, begins)
