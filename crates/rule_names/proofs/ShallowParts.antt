-- What stands at a site in a part is no deeper than the part.
use Rattle.std.proofs.Common.{ℕ, zero, suc, ◌==◌, ◌≤◌, Bool, true, false, cond, sym, subst, arith, List, [], ◌∷◌, ◌++◌, Option, Some, None}
use Rattle.std.specs.Prelude.{find, option_map}
use Rattle.std.proofs.lemmas.Bool.Decides.{nat_tests}
use Rattle.guard_syntax.specs.Syntax.{Body, Lets, Let, Conds, OptConds, Disjs, Disj, Parts, Part, Query, Steps, Step, Expr, OptExpr, Exprs, Rule, File, body, no_lets, more_lets, assign, conds, no_conds, with_conds, no_disjs, more_disjs, disj, no_parts, more_parts, block, guarded, kinds, test, refer, call, query, no_steps, more_steps, this, var, key, index, every, items, splice, filter, keys, literal, function, asked, found, no_expr, with_expr, no_exprs, more_exprs}
use Rattle.rule_names.specs.Depths.{larger, first_steps, first_of_query, depth_body, depth_lets, depth_let, depth_conds, depth_opt_conds, depth_disjs, depth_disj, depth_parts, depth_part, depth_query, depth_steps, depth_step, depth_expr, depth_opt_expr, depth_exprs, depth_rule, depth_piece}
use Rattle.rule_names.specs.Pieces.{Sited, Piece, piece_in, pieces_body, pieces_lets, pieces_let, pieces_conds, pieces_opt_conds, pieces_disjs, pieces_disj, pieces_parts, pieces_part, pieces_query, pieces_steps, pieces_step, pieces_expr, pieces_opt_expr, pieces_exprs, pieces_rule}
use Rattle.rule_names.proofs.Parts.{either, in-append}

first : (m n k : ℕ) → larger m n ≤ k → m ≤ k
first m n k h = grind (arith, nat_tests)

second : (m n k : ℕ) → larger m n ≤ k → n ≤ k
second m n k h = grind (arith, nat_tests)

larger_steps : (a m n : ℕ) → m ≤ n → larger a m ≤ larger a n
larger_steps a m n h = grind (arith, nat_tests)

larger_none : (a n : ℕ) → larger a 0 ≤ larger a n
larger_none a n = grind (arith, nat_tests)

module _ (f : File) (depths : List ℕ) where
  first-steps : (i : ℕ) (ss : Steps) → depth_steps f depths (first_steps i ss) ≤ depth_steps f depths ss
  first-steps i no_steps = omega arith
  first-steps zero (more_steps p ps) = larger_none (depth_step f depths p) (depth_steps f depths ps)
  first-steps (suc i) (more_steps p ps) =
      larger_steps (depth_step f depths p) (depth_steps f depths (first_steps i ps)) (depth_steps f depths ps) (first-steps i ps)

  -- the query up to a step
  first-query : (i : ℕ) (q : Query) → depth_query f depths (first_of_query i q) ≤ depth_query f depths q
  first-query i (query n ss) = let e = first-steps i ss in omega (arith, e)

  module _ (k : ℕ) where
    -- what stands at any site among pieces is no deeper than a number
    pub record Low (ps : List Sited) : Type 0 where
      pub at : (n : ℕ) → depth_piece f depths (piece_in ps n) ≤ k

    pub low-nil : Low []
    low-nil = record { at = λ n. omega arith }

    one_of : (v : Bool) (p : Sited) (o : Option Sited) → depth_piece f depths (Some p.1) ≤ k → depth_piece f depths (option_map (λ (s : Sited). s.1) o) ≤ k
        → depth_piece f depths (option_map (λ (s : Sited). s.1) (cond v (Some p) o)) ≤ k
    one_of true p o h e = h
    one_of false p o h e = e

    pub low-cons : (m : ℕ) (p : Piece) (ps : List Sited) → depth_piece f depths (Some p) ≤ k → Low ps → Low ((m, p) ∷ ps)
    low-cons m p ps h low = record { at = λ n. one_of (m == n) (m, p) (find (λ (s : Sited). s.0 == n) ps) h (low.at n) }

    either_of : (a b : Option Piece) → depth_piece f depths a ≤ k → depth_piece f depths b ≤ k → depth_piece f depths (either a b) ≤ k
    either_of None b h e = e
    either_of (Some p) b h e = h

    pub low-append : (ps qs : List Sited) → Low ps → Low qs → Low (ps ++ qs)
    low-append ps qs one two = record {
      at = λ n. subst (λ (o : Option Piece). depth_piece f depths o ≤ k) (sym (in-append n ps qs)) (either_of (piece_in ps n) (piece_in qs n) (one.at n) (two.at n));
    }

    -- ---- parts

    two : (m n : ℕ) (ps qs : List Sited) → larger m n ≤ k → (m ≤ k → Low ps) → (n ≤ k → Low qs) → Low (ps ++ qs)
    two m n ps qs h one other = low-append ps qs (one (first m n k h)) (other (second m n k h))

    up-to : (q : Query) → depth_query f depths q ≤ k → (i : ℕ) → depth_query f depths (first_of_query i q) ≤ k
    up-to q l i = let e = first-query i q in omega (arith, e, l)

    mutual
      pub body-low : (x : Body) → depth_body f depths x ≤ k → Low (pieces_body x)
      body-low (body n ls ds) h = low-cons n _ _ (omega arith) (two (depth_lets f depths ls) (depth_disjs f depths ds) _ _ h (lets-low ls) (disjs-low ds))

      pub lets-low : (x : Lets) → depth_lets f depths x ≤ k → Low (pieces_lets x)
      lets-low no_lets h = low-nil
      lets-low (more_lets l ls) h = two (depth_let f depths l) (depth_lets f depths ls) _ _ h (let-low l) (lets-low ls)

      let-low : (x : Let) → depth_let f depths x ≤ k → Low (pieces_let x)
      let-low (assign n name e) h = low-cons n _ _ (omega arith) (expr-low e h)

      conds-low : (x : Conds) → depth_conds f depths x ≤ k → Low (pieces_conds x)
      conds-low (conds n ds) h = low-cons n _ _ (omega arith) (disjs-low ds h)

      pub opt_conds-low : (x : OptConds) → depth_opt_conds f depths x ≤ k → Low (pieces_opt_conds x)
      opt_conds-low no_conds h = low-nil
      opt_conds-low (with_conds c) h = conds-low c h

      pub disjs-low : (x : Disjs) → depth_disjs f depths x ≤ k → Low (pieces_disjs x)
      disjs-low no_disjs h = low-nil
      disjs-low (more_disjs d ds) h = two (depth_disj f depths d) (depth_disjs f depths ds) _ _ h (disj-low d) (disjs-low ds)

      disj-low : (x : Disj) → depth_disj f depths x ≤ k → Low (pieces_disj x)
      disj-low (disj n ps) h = low-cons n _ _ (omega arith) (parts-low ps h)

      parts-low : (x : Parts) → depth_parts f depths x ≤ k → Low (pieces_parts x)
      parts-low no_parts h = low-nil
      parts-low (more_parts p ps) h = two (depth_part f depths p) (depth_parts f depths ps) _ _ h (part-low p) (parts-low ps)

      part-low : (x : Part) → depth_part f depths x ≤ k → Low (pieces_part x)
      part-low (block n any q b) h = low-cons n _ _ (omega arith) (two (depth_query f depths q) (depth_body f depths b) _ _ (omega (arith, h)) (query-low q) (body-low b))
      part-low (guarded n c b) h = low-cons n _ _ (omega arith) (two (depth_conds f depths c) (depth_body f depths b) _ _ (omega (arith, h)) (conds-low c) (body-low b))
      part-low (kinds n name c b) h =
          low-cons n _ _ (omega arith) (two (depth_opt_conds f depths c) (depth_body f depths b) _ _ (omega (arith, h)) (opt_conds-low c) (body-low b))
      part-low (test n any q op negated right message) h =
          low-cons n _ _ (omega arith) (two (depth_query f depths q) (depth_opt_expr f depths right) _ _ (omega (arith, h)) (query-low q) (opt_expr-low right))
      part-low (refer n negated name message) h = low-cons n _ _ (omega arith) low-nil
      part-low (call n negated name es message) h = low-cons n _ _ (omega arith) (exprs-low es (omega (arith, h)))

      query-low : (x : Query) → depth_query f depths x ≤ k → Low (pieces_query x)
      query-low (query n ss) h = low-cons n _ _ h (steps-low (query n ss) h 0 ss (omega (arith, h)))

      steps-low : (q : Query) → depth_query f depths q ≤ k → (i : ℕ) (x : Steps) → depth_steps f depths x ≤ k → Low (pieces_steps q i x)
      steps-low q l i no_steps h = low-nil
      steps-low q l i (more_steps p ps) h = two (depth_step f depths p) (depth_steps f depths ps) _ _ h (step-low q l i p) (steps-low q l (suc i) ps)

      step-low : (q : Query) → depth_query f depths q ≤ k → (i : ℕ) (x : Step) → depth_step f depths x ≤ k → Low (pieces_step q i x)
      step-low q l i (this n) h = low-cons n _ _ (up-to q l i) low-nil
      step-low q l i (var n name) h = low-cons n _ _ (up-to q l i) low-nil
      step-low q l i (key n name) h = low-cons n _ _ (up-to q l i) low-nil
      step-low q l i (index n at) h = low-cons n _ _ (up-to q l i) low-nil
      step-low q l i (every n) h = low-cons n _ _ (up-to q l i) low-nil
      step-low q l i (items n) h = low-cons n _ _ (up-to q l i) low-nil
      step-low q l i (splice n name) h = low-cons n _ _ (up-to q l i) low-nil
      step-low q l i (filter n capture c) h = low-cons n _ _ (up-to q l i) (conds-low c h)
      step-low q l i (keys n capture op negated e) h = low-cons n _ _ (up-to q l i) (expr-low e h)

      expr-low : (x : Expr) → depth_expr f depths x ≤ k → Low (pieces_expr x)
      expr-low (literal n tree) h = low-cons n _ _ h low-nil
      expr-low (function n name es) h = low-cons n _ _ h (exprs-low es (omega (arith, h)))
      expr-low (asked q) h = query-low q h
      expr-low (found n q) h = low-cons n _ _ h (query-low q (omega (arith, h)))

      opt_expr-low : (x : OptExpr) → depth_opt_expr f depths x ≤ k → Low (pieces_opt_expr x)
      opt_expr-low no_expr h = low-nil
      opt_expr-low (with_expr e) h = expr-low e h

      exprs-low : (x : Exprs) → depth_exprs f depths x ≤ k → Low (pieces_exprs x)
      exprs-low no_exprs h = low-nil
      exprs-low (more_exprs e es) h = two (depth_expr f depths e) (depth_exprs f depths es) _ _ h (expr-low e) (exprs-low es)

    pub rule-low : (r : Rule) → depth_rule f depths r ≤ k → Low (pieces_rule r)
    rule-low r h =
        low-cons r.site _ _ h
        (two (depth_opt_conds f depths r.cond) (depth_body f depths r.body) _ _ (omega (arith, h)) (opt_conds-low r.cond) (body-low r.body))
