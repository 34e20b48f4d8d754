-- No rule calls itself: by induction over the syntax, a part that stands in a body stands in its scope or in one inside of it, and is no deeper than the body; the arguments of a call stand
-- in its scope. A rule is less deep than the call of it, so no call of it stands in the scope of its body.
use Rattle.std.proofs.Common.{◌≡◌, ◌⊎◌, ℕ, zero, suc, ◌+◌, ◌≤◌, ◌<◌, Bool, inl, inr, refl, sym, ap, ◌∙◌, subst, arith, List, [], ◌∷◌, ◌++◌, length, Contains, Option, Some}
use Rattle.std.proofs.lemmas.Bool.Decides.{nat_tests}
use Rattle.std.proofs.lemmas.Option.{none-some, same_Some}
use Rattle.guard_syntax.specs.Sites.{merge, sites_body, sites_conds, sites_disj, sites_disjs, sites_expr, sites_exprs, sites_file, sites_let, sites_lets, sites_opt_conds, sites_opt_expr, sites_part, sites_parts, sites_query, sites_rule, sites_rules, sites_step, sites_steps, upto}
use Rattle.guard_syntax.specs.Syntax.{Body, Conds, Disj, Disjs, Expr, Exprs, File, Let, Lets, OptConds, OptExpr, Part, Parts, Query, Rule, Step, Steps, asked, assign, block, body, call, conds, disj, every, filter, found, function, guarded, index, items, key, keys, kinds, literal, more_disjs, more_exprs, more_lets, more_parts, more_steps, no_conds, no_disjs, no_expr, no_exprs, no_lets, no_parts, no_steps, query, refer, splice, test, this, var, with_conds, with_expr}
use Rattle.rule_names.specs.Depths.{depth_at, depth_body, depth_conds, depth_disj, depth_disjs, depth_expr, depth_exprs, depth_let, depth_lets, depth_opt_conds, depth_opt_expr, depth_part, depth_parts, depth_piece, depth_query, depth_rule, depth_step, depth_steps, depth_target, depths_of, larger}
use Rattle.rule_names.specs.EnclosingScopes.{home_of, homes_body, homes_conds, homes_disj, homes_disjs, homes_expr, homes_exprs, homes_let, homes_lets, homes_opt_conds, homes_opt_expr, homes_part, homes_parts, homes_query, homes_rule, homes_rules, homes_step, homes_steps}
use Rattle.rule_names.specs.Pieces.{AreInOrder, OfBody, OfConds, OfDisj, OfExpr, OfFile, OfLet, OfPart, OfQuery, OfRule, OfStep, Piece, Sited, piece_at, piece_in, pieces_body, pieces_conds, pieces_disj, pieces_disjs, pieces_expr, pieces_exprs, pieces_let, pieces_lets, pieces_opt_conds, pieces_opt_expr, pieces_part, pieces_parts, pieces_query, pieces_rule, pieces_rules, pieces_step, pieces_steps}
use Rattle.rule_names.specs.ReferenceGraph.{part_site}
use Rattle.rule_names.specs.Resolution.{target_of}
use Rattle.rule_names.specs.Uses.{expr_in, expr_site}
use Rattle.rule_names.specs.WellNamed.{WellNamed}
use Rattle.rule_names.proofs.DepthTables.{depth-of-piece}
use Rattle.rule_names.proofs.Increases.{times, times-append, times-merge}
use Rattle.rule_names.proofs.PiecesStand.{append-found, cons-found}
use Rattle.evidence_rules.specs.CitedLines.{args_of_part, body_site}
use Rattle.scope_frames.proofs.BodiesApart.{body-at, body-has, file-times, own-time, rule-has, rules-have, site-once}
use Rattle.scope_frames.proofs.NamesBound.{Each, Placed, back, back-rules, behind, each-both, front, front-rule, lets-placed, loose-placed, rule-body, rule-conds, rules-placed, upto-below, value-placed}
use Rattle.scope_frames.proofs.RulesNamed.{found-one}

-- ---- numbers

first-in : (m n : ℕ) → m ≤ larger m n
first-in m n = grind (arith, nat_tests)

second-in : (m n : ℕ) → n ≤ larger m n
second-in m n = grind (arith, nat_tests)

under-first : (m n : ℕ) → m ≤ suc (larger m n)
under-first m n = omega (arith, first-in m n)

under-second : (m n : ℕ) → n ≤ suc (larger m n)
under-second m n = omega (arith, second-in m n)

-- fewer sites
abbrev IsAmong : List ℕ → List ℕ → Type 0
IsAmong ns ms = (m : ℕ) → times m ns ≤ times m ms

among-first : (ns ms : List ℕ) → IsAmong ns (ns ++ ms)
among-first ns ms m = omega (arith, times-append m ns ms)

among-second : (ns ms : List ℕ) → IsAmong ms (ns ++ ms)
among-second ns ms m = omega (arith, times-append m ns ms)

among-left : (ns ms : List ℕ) → IsAmong ns (merge ns ms)
among-left ns ms m = omega (arith, times-merge m ns ms)

among-right : (ns ms : List ℕ) → IsAmong ms (merge ns ms)
among-right ns ms m = omega (arith, times-merge m ns ms)

among-behind : (n : ℕ) (ns : List ℕ) → IsAmong ns (n ∷ ns)
among-behind n ns m = omega arith

module _ (f : File) (depths : List ℕ) where
  -- ---- parts that stand in a scope, among so many sites, and are so deep at most

  record IsPartIn (home : ℕ) (ns : List ℕ) (depth n : ℕ) (x : Part) : Type 0 where
    inside : (home_of f n ≡ home) ⊎ (1 ≤ times (home_of f n) ns)
    shallow : depth_part f depths x ≤ depth
    own : part_site x ≡ n
    args : (es : Exprs) (i : ℕ) (e : Expr) → args_of_part x ≡ Some es → expr_in es i ≡ Some e → home_of f (expr_site e) ≡ home_of f n

  abbrev IsPieceIn : (home : ℕ) → List ℕ → (depth n : ℕ) → Piece → Type 0
  IsPieceIn home ns depth n (OfPart x) = IsPartIn home ns depth n x
  IsPieceIn home ns depth n _ = Unit {0}

  abbrev IsIn : (home : ℕ) → List ℕ → (depth : ℕ) → Sited → Type 0
  IsIn home ns depth p = IsPieceIn home ns depth p.0 p.1

  record AreIn (home : ℕ) (ps : List Sited) (ns : List ℕ) (depth : ℕ) : Type 0 where
    each : Each (IsIn home ns depth) ps

  part-wider : (home inner : ℕ) (ns ms : List ℕ) (depth more n : ℕ) (x : Part) → IsAmong ns ms → depth ≤ more → (inner ≡ home) ⊎ (1 ≤ times inner ms) → IsPartIn inner ns depth n x
      → IsPartIn home ms more n x
  part-wider home inner ns ms depth more n x among less around h = record {
    inside = elim h.inside [
      | inl at ↦ elim around [
        | inl same ↦ inl (at ∙ same)
        | inr there ↦ inr (subst (λ (k : ℕ). 1 ≤ times k ms) (sym at) there)
      ]
      | inr there ↦ inr (let all = among (home_of f n) in omega (arith, there, all))
    ];
    shallow = let deep = h.shallow in omega (arith, deep, less);
    own = h.own;
    args = h.args;
  }

  piece-wider : (home inner : ℕ) (ns ms : List ℕ) (depth more n : ℕ) (p : Piece) → IsAmong ns ms → depth ≤ more → (inner ≡ home) ⊎ (1 ≤ times inner ms) → IsPieceIn inner ns depth n p
      → IsPieceIn home ms more n p
  piece-wider home inner ns ms depth more n (OfPart x) among less around h = part-wider home inner ns ms depth more n x among less around h
  piece-wider home inner ns ms depth more n OfFile among less around h = tt
  piece-wider home inner ns ms depth more n (OfLet l) among less around h = tt
  piece-wider home inner ns ms depth more n (OfRule r) among less around h = tt
  piece-wider home inner ns ms depth more n (OfBody b) among less around h = tt
  piece-wider home inner ns ms depth more n (OfConds c) among less around h = tt
  piece-wider home inner ns ms depth more n (OfDisj d) among less around h = tt
  piece-wider home inner ns ms depth more n (OfQuery q) among less around h = tt
  piece-wider home inner ns ms depth more n (OfStep q i) among less around h = tt
  piece-wider home inner ns ms depth more n (OfExpr e) among less around h = tt

  each-wider : (home inner : ℕ) (ns ms : List ℕ) (depth more : ℕ) (ps : List Sited) → IsAmong ns ms → depth ≤ more → (inner ≡ home) ⊎ (1 ≤ times inner ms) → Each (IsIn inner ns depth) ps
      → Each (IsIn home ms more) ps
  each-wider home inner ns ms depth more [] among less around h = tt
  each-wider home inner ns ms depth more (p ∷ ps) among less around h =
      (piece-wider home inner ns ms depth more p.0 p.1 among less around h.0, each-wider home inner ns ms depth more ps among less around h.1)

  in-none : (home : ℕ) (ns : List ℕ) (depth : ℕ) → AreIn home [] ns depth
  in-none home ns depth = record { each = tt }

  -- a scope that is this one, or stands among the sites
  in-wider : (home inner : ℕ) (ns ms : List ℕ) (depth more : ℕ) (ps : List Sited) → IsAmong ns ms → depth ≤ more → (inner ≡ home) ⊎ (1 ≤ times inner ms) → AreIn inner ps ns depth → AreIn home ps ms more
  in-wider home inner ns ms depth more ps among less around h = record { each = each-wider home inner ns ms depth more ps among less around h.each }

  in-deeper : (home : ℕ) (ns : List ℕ) (depth more : ℕ) (ps : List Sited) → depth ≤ more → AreIn home ps ns depth → AreIn home ps ns more
  in-deeper home ns depth more ps less h = in-wider home home ns ns depth more ps (λ m. omega arith) less (inl refl) h

  in-cons : (home n : ℕ) (p : Piece) (ps : List Sited) (ns : List ℕ) (depth : ℕ) → IsPieceIn home (n ∷ ns) depth n p → AreIn home ps ns depth → AreIn home ((n, p) ∷ ps) (n ∷ ns) depth
  in-cons home n p ps ns depth here h = record { each = (here, each-wider home home ns (n ∷ ns) depth depth ps (among-behind n ns) (omega arith) (inl refl) h.each) }

  in-append : (home : ℕ) (ps qs : List Sited) (ns ms : List ℕ) (depth : ℕ) → AreIn home ps ns depth → AreIn home qs ms depth → AreIn home (ps ++ qs) (ns ++ ms) depth
  in-append home ps qs ns ms depth h k = record {
    each = each-both (IsIn home (ns ++ ms) depth) ps qs (each-wider home home ns (ns ++ ms) depth depth ps (among-first ns ms) (omega arith) (inl refl) h.each)
        (each-wider home home ms (ns ++ ms) depth depth qs (among-second ns ms) (omega arith) (inl refl) k.each);
  }

  in-merge : (home : ℕ) (ps qs : List Sited) (ns ms : List ℕ) (depth : ℕ) → AreIn home ps ns depth → AreIn home qs ms depth → AreIn home (ps ++ qs) (merge ns ms) depth
  in-merge home ps qs ns ms depth h k = record {
    each = each-both (IsIn home (merge ns ms) depth) ps qs (each-wider home home ns (merge ns ms) depth depth ps (among-left ns ms) (omega arith) (inl refl) h.each)
        (each-wider home home ms (merge ns ms) depth depth qs (among-right ns ms) (omega arith) (inl refl) k.each);
  }

  -- those of a scope of its own
  in-own-scope : (home n : ℕ) (p : Piece) (ps : List Sited) (ns : List ℕ) (depth : ℕ) → IsPieceIn n (n ∷ ns) depth n p → AreIn n ps ns depth → AreIn home ((n, p) ∷ ps) (n ∷ ns) depth
  in-own-scope home n p ps ns depth here h =
      let there : 1 ≤ times n (n ∷ ns) = let own = own-time n ns in omega (arith, own) in
      in-wider home n (n ∷ ns) (n ∷ ns) depth depth ((n, p) ∷ ps) (λ m. omega arith) (omega arith) (inr there) (in-cons n n p ps ns depth here h)

  -- two of them, of which each is as deep at most as the deeper one
  in-both : (home : ℕ) (ps qs : List Sited) (ns ms : List ℕ) (a b : ℕ) → AreIn home ps ns a → AreIn home qs ms b → AreIn home (ps ++ qs) (ns ++ ms) (larger a b)
  in-both home ps qs ns ms a b h k = in-append home ps qs ns ms (larger a b) (in-deeper home ns a (larger a b) ps (first-in a b) h) (in-deeper home ms b (larger a b) qs (second-in a b) k)

  -- those of a part
  in-part : (home : ℕ) (ps qs : List Sited) (ns ms : List ℕ) (a b : ℕ) → AreIn home ps ns a → AreIn home qs ms b → AreIn home (ps ++ qs) (ns ++ ms) (suc (larger a b))
  in-part home ps qs ns ms a b h k =
      in-append home ps qs ns ms (suc (larger a b)) (in-deeper home ns a (suc (larger a b)) ps (under-first a b) h) (in-deeper home ms b (suc (larger a b)) qs (under-second a b) k)

  -- ---- arguments

  args-homed : (home : ℕ) (es : Exprs) (i : ℕ) (e : Expr) → expr_in es i ≡ Some e → Placed f (homes_exprs home es) (pieces_exprs es) → home_of f (expr_site e) ≡ home
  args-homed home no_exprs i e is s = absurd (none-some e is)
  args-homed home (more_exprs x es) zero e is s =
      subst (λ (y : Expr). home_of f (expr_site y) ≡ home) (same_Some x e is) (value-placed f home x (front f (homes_expr home x) (homes_exprs home es) (pieces_expr x) (pieces_exprs es) s)).0
  args-homed home (more_exprs x es) (suc i) e is s = args-homed home es i e is (back f (homes_expr home x) (homes_exprs home es) (pieces_expr x) (pieces_exprs es) s)

  -- ---- the syntax

  mutual
    body-in : (home : ℕ) (x : Body) → Placed f (homes_body home x) (pieces_body x) → AreIn home (pieces_body x) (sites_body x) (depth_body f depths x)
    body-in home (body n ls ds) s =
        let parts = behind f _ _ (homes_lets n ls ++ homes_disjs n ds) (pieces_lets ls ++ pieces_disjs ds) s in
        let a : ℕ = depth_lets f depths ls in
        let b : ℕ = depth_disjs f depths ds in
        let lets = in-deeper n (sites_lets ls) a (larger a b) (pieces_lets ls) (first-in a b) (lets-in n ls (front f (homes_lets n ls) (homes_disjs n ds) (pieces_lets ls) (pieces_disjs ds) parts)) in
        let disjs =
        in-deeper n (sites_disjs ds) b (larger a b) (pieces_disjs ds) (second-in a b) (disjs-in n ds (back f (homes_lets n ls) (homes_disjs n ds) (pieces_lets ls) (pieces_disjs ds) parts)) in
        in-own-scope home n (OfBody (body n ls ds)) (pieces_lets ls ++ pieces_disjs ds) (merge (sites_lets ls) (sites_disjs ds)) (larger a b) tt
        (in-merge n (pieces_lets ls) (pieces_disjs ds) (sites_lets ls) (sites_disjs ds) (larger a b) lets disjs)

    lets-in : (home : ℕ) (x : Lets) → Placed f (homes_lets home x) (pieces_lets x) → AreIn home (pieces_lets x) (sites_lets x) (depth_lets f depths x)
    lets-in home no_lets s = in-none home [] 0
    lets-in home (more_lets l ls) s = in-both home _ _ _ _ _ _ (let-in home l (front f _ _ _ _ s)) (lets-in home ls (back f _ _ _ _ s))

    let-in : (home : ℕ) (x : Let) → Placed f (homes_let home x) (pieces_let x) → AreIn home (pieces_let x) (sites_let x) (depth_let f depths x)
    let-in home (assign n name e) s = in-cons home n (OfLet (assign n name e)) _ _ _ tt (expr-in home e (behind f _ _ _ _ s))

    conds-in : (home : ℕ) (x : Conds) → Placed f (homes_conds home x) (pieces_conds x) → AreIn home (pieces_conds x) (sites_conds x) (depth_conds f depths x)
    conds-in home (conds n ds) s = in-cons home n (OfConds (conds n ds)) _ _ _ tt (disjs-in home ds (behind f _ _ _ _ s))

    opt_conds-in : (home : ℕ) (x : OptConds) → Placed f (homes_opt_conds home x) (pieces_opt_conds x) → AreIn home (pieces_opt_conds x) (sites_opt_conds x) (depth_opt_conds f depths x)
    opt_conds-in home no_conds s = in-none home [] 0
    opt_conds-in home (with_conds c) s = conds-in home c s

    disjs-in : (home : ℕ) (x : Disjs) → Placed f (homes_disjs home x) (pieces_disjs x) → AreIn home (pieces_disjs x) (sites_disjs x) (depth_disjs f depths x)
    disjs-in home no_disjs s = in-none home [] 0
    disjs-in home (more_disjs d ds) s = in-both home _ _ _ _ _ _ (disj-in home d (front f _ _ _ _ s)) (disjs-in home ds (back f _ _ _ _ s))

    disj-in : (home : ℕ) (x : Disj) → Placed f (homes_disj home x) (pieces_disj x) → AreIn home (pieces_disj x) (sites_disj x) (depth_disj f depths x)
    disj-in home (disj n ps) s = in-cons home n (OfDisj (disj n ps)) _ _ _ tt (parts-in home ps (behind f _ _ _ _ s))

    parts-in : (home : ℕ) (x : Parts) → Placed f (homes_parts home x) (pieces_parts x) → AreIn home (pieces_parts x) (sites_parts x) (depth_parts f depths x)
    parts-in home no_parts s = in-none home [] 0
    parts-in home (more_parts p ps) s = in-both home _ _ _ _ _ _ (part-in home p (front f _ _ _ _ s)) (parts-in home ps (back f _ _ _ _ s))

    part-in : (home : ℕ) (x : Part) → Placed f (homes_part home x) (pieces_part x) → AreIn home (pieces_part x) (sites_part x) (depth_part f depths x)
    part-in home (block n any q b) s =
        let parts = behind f _ _ (homes_query home q ++ homes_body home b) (pieces_query q ++ pieces_body b) s in
        in-cons home n (OfPart (block n any q b)) _ _ _ (record { inside = inl s.homes.0; shallow = omega arith; own = refl; args = λ es i e is at. absurd (none-some es is) })
        (in-part home _ _ _ _ _ _ (query-in home q (front f _ _ _ _ parts)) (body-in home b (back f _ _ _ _ parts)))
    part-in home (guarded n c b) s =
        let parts = behind f _ _ (homes_conds home c ++ homes_body home b) (pieces_conds c ++ pieces_body b) s in
        in-cons home n (OfPart (guarded n c b)) _ _ _ (record { inside = inl s.homes.0; shallow = omega arith; own = refl; args = λ es i e is at. absurd (none-some es is) })
        (in-part home _ _ _ _ _ _ (conds-in home c (front f _ _ _ _ parts)) (body-in home b (back f _ _ _ _ parts)))
    part-in home (kinds n name c b) s =
        let parts = behind f _ _ (homes_opt_conds home c ++ homes_body home b) (pieces_opt_conds c ++ pieces_body b) s in
        in-cons home n (OfPart (kinds n name c b)) _ _ _ (record { inside = inl s.homes.0; shallow = omega arith; own = refl; args = λ es i e is at. absurd (none-some es is) })
        (in-part home _ _ _ _ _ _ (opt_conds-in home c (front f _ _ _ _ parts)) (body-in home b (back f _ _ _ _ parts)))
    part-in home (test n any q op negated right message) s =
        let parts = behind f _ _ (homes_query home q ++ homes_opt_expr home right) (pieces_query q ++ pieces_opt_expr right) s in
        in-cons home n (OfPart (test n any q op negated right message)) _ _ _ (record { inside = inl s.homes.0; shallow = omega arith; own = refl; args = λ es i e is at. absurd (none-some es is) })
        (in-part home _ _ _ _ _ _ (query-in home q (front f _ _ _ _ parts)) (opt_expr-in home right (back f _ _ _ _ parts)))
    part-in home (refer n negated name message) s =
        in-cons home n (OfPart (refer n negated name message)) [] [] _ (record { inside = inl s.homes.0; shallow = omega arith; own = refl; args = λ es i e is at. absurd (none-some es is) })
        (in-none home [] _)
    part-in home (call n negated name es message) s =
        let inner = behind f _ _ (homes_exprs home es) (pieces_exprs es) s in
        let depth : ℕ = depth_part f depths (call n negated name es message) in
        let args : (xs : Exprs) (i : ℕ) (e : Expr) → Some es ≡ Some xs → expr_in xs i ≡ Some e → home_of f (expr_site e) ≡ home_of f n =
        λ xs i e is at. args-homed home es i e (ap (λ (ys : Exprs). expr_in ys i) (same_Some es xs is) ∙ at) inner ∙ sym s.homes.0 in
        in-cons home n (OfPart (call n negated name es message)) (pieces_exprs es) (sites_exprs es) depth (record { inside = inl s.homes.0; shallow = omega arith; own = refl; args = args })
        (in-deeper home (sites_exprs es) (depth_exprs f depths es) depth (pieces_exprs es) (omega arith) (exprs-in home es inner))

    query-in : (home : ℕ) (x : Query) → Placed f (homes_query home x) (pieces_query x) → AreIn home (pieces_query x) (sites_query x) (depth_query f depths x)
    query-in home (query n ss) s =
        in-cons home n (OfQuery (query n ss)) (pieces_steps (query n ss) 0 ss) (sites_steps ss) (suc (depth_steps f depths ss)) tt
        (in-deeper home (sites_steps ss) (depth_steps f depths ss) (suc (depth_steps f depths ss)) (pieces_steps (query n ss) 0 ss) (omega arith)
        (steps-in home (query n ss) 0 ss (behind f _ _ _ _ s)))

    steps-in : (home : ℕ) (q : Query) (i : ℕ) (x : Steps) → Placed f (homes_steps home x) (pieces_steps q i x) → AreIn home (pieces_steps q i x) (sites_steps x) (depth_steps f depths x)
    steps-in home q i no_steps s = in-none home [] 0
    steps-in home q i (more_steps p ps) s = in-both home _ _ _ _ _ _ (step-in home q i p (front f _ _ _ _ s)) (steps-in home q (suc i) ps (back f _ _ _ _ s))

    step-in : (home : ℕ) (q : Query) (i : ℕ) (x : Step) → Placed f (homes_step home x) (pieces_step q i x) → AreIn home (pieces_step q i x) (sites_step x) (depth_step f depths x)
    step-in home q i (this n) s = in-cons home n (OfStep q i) [] [] _ tt (in-none home [] _)
    step-in home q i (var n name) s = in-cons home n (OfStep q i) [] [] _ tt (in-none home [] _)
    step-in home q i (key n name) s = in-cons home n (OfStep q i) [] [] _ tt (in-none home [] _)
    step-in home q i (index n at) s = in-cons home n (OfStep q i) [] [] _ tt (in-none home [] _)
    step-in home q i (every n) s = in-cons home n (OfStep q i) [] [] _ tt (in-none home [] _)
    step-in home q i (items n) s = in-cons home n (OfStep q i) [] [] _ tt (in-none home [] _)
    step-in home q i (splice n name) s = in-cons home n (OfStep q i) [] [] _ tt (in-none home [] _)
    step-in home q i (filter n capture c) s =
        in-own-scope home n (OfStep q i) (pieces_conds c) (sites_conds c) (depth_conds f depths c) tt (conds-in n c (behind f _ _ _ _ s))
    step-in home q i (keys n capture op negated e) s = in-cons home n (OfStep q i) _ _ _ tt (expr-in home e (behind f _ _ _ _ s))

    expr-in : (home : ℕ) (x : Expr) → Placed f (homes_expr home x) (pieces_expr x) → AreIn home (pieces_expr x) (sites_expr x) (depth_expr f depths x)
    expr-in home (literal n tree) s = in-cons home n (OfExpr (literal n tree)) [] [] _ tt (in-none home [] _)
    expr-in home (function n name es) s =
        in-cons home n (OfExpr (function n name es)) (pieces_exprs es) (sites_exprs es) (suc (depth_exprs f depths es)) tt
        (in-deeper home (sites_exprs es) (depth_exprs f depths es) (suc (depth_exprs f depths es)) (pieces_exprs es) (omega arith) (exprs-in home es (behind f _ _ _ _ s)))
    expr-in home (asked q) s = query-in home q s
    expr-in home (found n q) s =
        in-cons home n (OfExpr (found n q)) (pieces_query q) (sites_query q) (suc (depth_query f depths q)) tt
        (in-deeper home (sites_query q) (depth_query f depths q) (suc (depth_query f depths q)) (pieces_query q) (omega arith) (query-in home q (behind f _ _ _ _ s)))

    opt_expr-in : (home : ℕ) (x : OptExpr) → Placed f (homes_opt_expr home x) (pieces_opt_expr x) → AreIn home (pieces_opt_expr x) (sites_opt_expr x) (depth_opt_expr f depths x)
    opt_expr-in home no_expr s = in-none home [] 0
    opt_expr-in home (with_expr e) s = expr-in home e s

    exprs-in : (home : ℕ) (x : Exprs) → Placed f (homes_exprs home x) (pieces_exprs x) → AreIn home (pieces_exprs x) (sites_exprs x) (depth_exprs f depths x)
    exprs-in home no_exprs s = in-none home [] 0
    exprs-in home (more_exprs e es) s = in-both home _ _ _ _ _ _ (expr-in home e (front f _ _ _ _ s)) (exprs-in home es (back f _ _ _ _ s))

  -- one of them
  one-in : (home : ℕ) (ps : List Sited) (ns : List ℕ) (depth n : ℕ) (x : Part) → AreIn home ps ns depth → piece_in ps n ≡ Some (OfPart x) → IsPartIn home ns depth n x
  one-in home ps ns depth n x h there = found-one (IsIn home ns depth) ps n (OfPart x) h.each there

-- ---- rules and files

module _ (f : File) (depths : List ℕ) where
  abbrev depth_rules : List Rule → ℕ
  depth_rules [] = 0
  depth_rules (r ∷ rs) = larger (larger (depth_opt_conds f depths r.cond) (depth_body f depths r.body)) (depth_rules rs)

  rule-in : (r : Rule) → Placed f (homes_rule 0 r) (pieces_rule r)
      → AreIn f depths 0 (pieces_rule r) (sites_rule r) (larger (depth_opt_conds f depths r.cond) (depth_body f depths r.body))
  rule-in r s =
      let a : ℕ = depth_opt_conds f depths r.cond in
      let b : ℕ = depth_body f depths r.body in
      in-cons f depths 0 r.site (OfRule r) (pieces_opt_conds r.cond ++ pieces_body r.body) (sites_opt_conds r.cond ++ sites_body r.body) (larger a b) tt
      (in-both f depths 0 (pieces_opt_conds r.cond) (pieces_body r.body) (sites_opt_conds r.cond) (sites_body r.body) a b (opt_conds-in f depths 0 r.cond (rule-conds f r s))
      (body-in f depths 0 r.body (rule-body f r s)))

  rules-in : (rs : List Rule) → Placed f (homes_rules 0 rs) (pieces_rules rs) → AreIn f depths 0 (pieces_rules rs) (sites_rules rs) (depth_rules rs)
  rules-in [] s = in-none f depths 0 [] 0
  rules-in (r ∷ rs) s =
      in-both f depths 0 (pieces_rule r) (pieces_rules rs) (sites_rule r) (sites_rules rs) (larger (depth_opt_conds f depths r.cond) (depth_body f depths r.body)) (depth_rules rs)
      (rule-in r (front-rule f r rs s)) (rules-in rs (back-rules f r rs s))

  module _ (ordered : AreInOrder f) where
    lets-of : AreIn f depths 0 (pieces_lets f.lets) (sites_lets f.lets) (depth_lets f depths f.lets)
    lets-of = lets-in f depths 0 f.lets (lets-placed f ordered)

    rules-of : AreIn f depths 0 (pieces_rules f.rules) (sites_rules f.rules) (depth_rules f.rules)
    rules-of = rules-in f.rules (rules-placed f ordered)

    loose-of : AreIn f depths 0 (pieces_disjs f.loose) (sites_disjs f.loose) (depth_disjs f depths f.loose)
    loose-of = disjs-in f depths 0 f.loose (loose-placed f ordered)

    -- where a part of the file stands
    abbrev Stands : ℕ → Part → Type 0
    Stands n x =
        IsPartIn f depths 0 (sites_lets f.lets) (depth_lets f depths f.lets) n x
        ⊎ (((piece_in (pieces_rules f.rules) n ≡ Some (OfPart x)) × IsPartIn f depths 0 (sites_rules f.rules) (depth_rules f.rules) n x)
        ⊎ IsPartIn f depths 0 (sites_disjs f.loose) (depth_disjs f depths f.loose) n x)

    stands-at : (n : ℕ) (x : Part) → piece_at f n ≡ Some (OfPart x) → Stands n x
    stands-at n x there = elim (cons-found n 0 OfFile (OfPart x) (pieces_lets f.lets ++ (pieces_rules f.rules ++ pieces_disjs f.loose)) there) [
      | inl other ↦ absurd cc
      | inr inside ↦ elim (append-found n (OfPart x) (pieces_lets f.lets) (pieces_rules f.rules ++ pieces_disjs f.loose) inside) [
        | inl first ↦ inl (one-in f depths 0 (pieces_lets f.lets) (sites_lets f.lets) (depth_lets f depths f.lets) n x lets-of first)
        | inr rest ↦ elim (append-found n (OfPart x) (pieces_rules f.rules) (pieces_disjs f.loose) rest) [
          | inl second ↦ inr (inl (second, one-in f depths 0 (pieces_rules f.rules) (sites_rules f.rules) (depth_rules f.rules) n x rules-of second))
          | inr third ↦ inr (inr (one-in f depths 0 (pieces_disjs f.loose) (sites_disjs f.loose) (depth_disjs f depths f.loose) n x loose-of third))
        ]
      ]
    ]

    -- a part has its own site, and the arguments of a call stand in its scope
    pub own-site : (n : ℕ) (x : Part) → piece_at f n ≡ Some (OfPart x) → part_site x ≡ n
    own-site n x there = elim (stands-at n x there) [
      | inl h ↦ h.own
      | inr rest ↦ elim rest [
        | inl h ↦ h.1.own
        | inr h ↦ h.own
      ]
    ]

    pub arg-homed : (n : ℕ) (x : Part) → piece_at f n ≡ Some (OfPart x) → (es : Exprs) (i : ℕ) (e : Expr) → args_of_part x ≡ Some es → expr_in es i ≡ Some e → home_of f (expr_site e) ≡ home_of f n
    arg-homed n x there = elim (stands-at n x there) [
      | inl h ↦ h.args
      | inr rest ↦ elim rest [
        | inl h ↦ h.1.args
        | inr h ↦ h.args
      ]
    ]

    -- ---- parts in the scope of the body of a rule

    module _ (r : Rule) (has : Contains f.rules r) (n : ℕ) (x : Part) (at : home_of f n ≡ body_site r.body) where
      file-no-body : (b : Body) → Some OfFile ≡ Some (OfBody b) → ⊥
      file-no-body b e = absurd cc

      -- a part in the scope of the file is in no body, so this one stands among sites of which the body is one
      beside : (ns : List ℕ) (depth : ℕ) → IsPartIn f depths 0 ns depth n x → 1 ≤ times (body_site r.body) ns
      beside ns depth h = elim h.inside [
        | inl zero_is ↦
            let same : 0 ≡ body_site r.body = sym zero_is ∙ at in
            absurd (file-no-body r.body (ap (piece_at f) same ∙ body-at f ordered r has))
        | inr there ↦ subst (λ (k : ℕ). 1 ≤ times k ns) at there
      ]

      in-own : Placed f (homes_rule 0 r) (pieces_rule r) → times (body_site r.body) (sites_rule r) ≤ 1 → piece_in (pieces_rule r) n ≡ Some (OfPart x)
          → depth_part f depths x ≤ depth_body f depths r.body
      in-own s one there = elim (cons-found n r.site (OfRule r) (OfPart x) (pieces_opt_conds r.cond ++ pieces_body r.body) there) [
        | inl other ↦ absurd cc
        | inr inside ↦ elim (append-found n (OfPart x) (pieces_opt_conds r.cond) (pieces_body r.body) inside) [
          | inl first ↦
              let here = one-in f depths 0 (pieces_opt_conds r.cond) (sites_opt_conds r.cond) (depth_opt_conds f depths r.cond) n x (opt_conds-in f depths 0 r.cond (rule-conds f r s)) first in
              let some = beside (sites_opt_conds r.cond) (depth_opt_conds f depths r.cond) here in
              let own = body-has r.body in
              absurd (omega (arith, one, some, own, times-append (body_site r.body) (sites_opt_conds r.cond) (sites_body r.body)))
          | inr second ↦
              (one-in f depths 0 (pieces_body r.body) (sites_body r.body) (depth_body f depths r.body) n x (body-in f depths 0 r.body (rule-body f r s)) second).shallow
        ]
      ]

      in-rules : (rs : List Rule) → Contains rs r → Placed f (homes_rules 0 rs) (pieces_rules rs) → times (body_site r.body) (sites_rules rs) ≤ 1
          → piece_in (pieces_rules rs) n ≡ Some (OfPart x) → depth_part f depths x ≤ depth_body f depths r.body
      in-rules [] (k, within, is) s one there = absurd (omega (arith, within))
      in-rules (y ∷ rs) (zero, within, is) s one there = elim (append-found n (OfPart x) (pieces_rule y) (pieces_rules rs) there) [
        | inl first ↦
            subst (λ (z : Rule). Placed f (homes_rule 0 z) (pieces_rule z) → times (body_site r.body) (sites_rule z) ≤ 1 → piece_in (pieces_rule z) n ≡ Some (OfPart x)
            → depth_part f depths x ≤ depth_body f depths r.body) (sym is) in-own (front-rule f y rs s)
            (omega (arith, one, times-append (body_site r.body) (sites_rule y) (sites_rules rs))) first
        | inr second ↦
            let some = beside (sites_rules rs) (depth_rules rs)
            (one-in f depths 0 (pieces_rules rs) (sites_rules rs) (depth_rules rs) n x (rules-in rs (back-rules f y rs s)) second) in
            let own : 1 ≤ times (body_site r.body) (sites_rule y) = subst (λ (z : Rule). 1 ≤ times (body_site z.body) (sites_rule y)) is (rule-has y) in
            absurd (omega (arith, one, some, own, times-append (body_site r.body) (sites_rule y) (sites_rules rs)))
      ]
      in-rules (y ∷ rs) (suc k, within, is) s one there =
          let more : Contains rs r = (k, omega (arith, within), is) in
          elim (append-found n (OfPart x) (pieces_rule y) (pieces_rules rs) there) [
            | inl first ↦
                let depth : ℕ = larger (depth_opt_conds f depths y.cond) (depth_body f depths y.body) in
                let some = beside (sites_rule y) depth (one-in f depths 0 (pieces_rule y) (sites_rule y) depth n x (rule-in y (front-rule f y rs s)) first) in
                let rest = rules-have rs r more in
                absurd (omega (arith, one, some, rest, times-append (body_site r.body) (sites_rule y) (sites_rules rs)))
            | inr second ↦
                in-rules rs more (back-rules f y rs s) (omega (arith, one, times-append (body_site r.body) (sites_rule y) (sites_rules rs))) second
          ]

      -- is no deeper than the body
      in-scope : piece_at f n ≡ Some (OfPart x) → depth_part f depths x ≤ depth_body f depths r.body
      in-scope there =
          let once = site-once f ordered (body_site r.body) in
          let all = file-times f ordered (body_site r.body) in
          let own = rules-have f.rules r has in
          elim (stands-at n x there) [
            | inl h ↦ let some = beside (sites_lets f.lets) (depth_lets f depths f.lets) h in absurd (omega (arith, once, all, own, some))
            | inr rest ↦ elim rest [
              | inl h ↦ in-rules f.rules has (rules-placed f ordered) (omega (arith, once, all)) h.0
              | inr h ↦ let some = beside (sites_disjs f.loose) (depth_disjs f depths f.loose) h in absurd (omega (arith, once, all, own, some))
            ]
          ]

-- ---- calls

rules-site : (rs : List Rule) (r : Rule) → Contains rs r → 1 ≤ times r.site (sites_rules rs)
rules-site [] r (k, within, is) = absurd (omega (arith, within))
rules-site (x ∷ rs) r (zero, within, is) =
    let first = own-time x.site (sites_opt_conds x.cond ++ sites_body x.body) in
    let own : 1 ≤ times r.site (sites_rule x) = subst (λ (y : Rule). 1 ≤ times y.site (sites_rule x)) is (omega (arith, first)) in
    omega (arith, own, times-append r.site (sites_rule x) (sites_rules rs))
rules-site (x ∷ rs) r (suc k, within, is) =
    let rest = rules-site rs r (k, omega (arith, within), is) in
    omega (arith, rest, times-append r.site (sites_rule x) (sites_rules rs))

module _ (f : File) (well : WellNamed f) (ordered : AreInOrder f) where
  rule-within : (r : Rule) → Contains f.rules r → r.site < length f.places
  rule-within r has =
      let own = rules-site f.rules r has in
      let all = file-times f ordered r.site in
      let same : times r.site (sites_file f) ≡ times r.site (upto 0 (length f.places)) = ap (times r.site) ordered in
      let below : r.site < 0 + length f.places = upto-below r.site 0 (length f.places) (omega (arith, own, all, same)) in
      omega (arith, below)

  -- no call of a rule stands in the scope of its body
  pub no-own-call : (r : Rule) → Contains f.rules r → piece_at f r.site ≡ Some (OfRule r) → (site n : ℕ) (negated : Bool) (name : List ℕ) (es : Exprs) (message : Option (List ℕ))
      → piece_at f site ≡ Some (OfPart (call n negated name es message)) → target_of f site ≡ Some r.site → home_of f site ≡ body_site r.body → ⊥
  no-own-call r has stands site n negated name es message there target at =
      let own : n ≡ site = own-site f (depths_of f) ordered site (call n negated name es message) there in
      let less = in-scope f (depths_of f) ordered r has site (call n negated name es message) at there in
      let means : depth_target f (depths_of f) (target_of f n) ≡ depth_at f (depths_of f) r.site = ap (depth_target f (depths_of f)) (ap (target_of f) own ∙ target) in
      let told : depth_at f (depths_of f) r.site ≡ depth_rule f (depths_of f) r = depth-of-piece f well r.site (rule-within r has) ∙ ap (depth_piece f (depths_of f)) stands in
      let inside = second-in (depth_opt_conds f (depths_of f) r.cond) (depth_body f (depths_of f) r.body) in
      omega (arith, less, means, told, inside)
