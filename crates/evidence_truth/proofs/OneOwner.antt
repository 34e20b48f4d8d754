-- A body stands in one part of a file: no two parts have it, as its site stands once.
use Rattle.std.proofs.Common.{◌≡◌, ℕ, suc, ◌+◌, ◌≤◌, Bool, true, false, cond, refl, sym, ap, ◌∙◌, arith, true≢false, List, [], ◌∷◌, ◌++◌, Some}
use Rattle.std.specs.Prelude.{◌==◌, find, option_map}
use Rattle.std.proofs.lemmas.Bool.Decides.{nat_tests}
use Rattle.std.proofs.lemmas.Option.{same_Some, none-some}
use Rattle.guard_syntax.specs.Syntax.{Body, Lets, Let, Conds, OptConds, Disjs, Disj, Parts, Part, Query, Steps, Step, Expr, OptExpr, Exprs, Rule, File, body, no_lets, more_lets, assign, conds, no_conds, with_conds, no_disjs, more_disjs, disj, no_parts, more_parts, block, guarded, kinds, test, refer, call, query, no_steps, more_steps, this, var, key, index, every, items, splice, filter, keys, literal, function, asked, found, no_expr, with_expr, no_exprs, more_exprs}
use Rattle.rule_names.specs.Pieces.{Piece, OfFile, OfLet, OfRule, OfConds, OfDisj, OfPart, OfQuery, OfStep, OfExpr, Sited, piece_in, piece_at, pieces_file, pieces_body, pieces_lets, pieces_let, pieces_conds, pieces_opt_conds, pieces_disjs, pieces_disj, pieces_parts, pieces_part, pieces_query, pieces_steps, pieces_step, pieces_expr, pieces_opt_expr, pieces_exprs, pieces_rule, pieces_rules}
use Rattle.evidence_rules.specs.CitedLines.{body_site}
use Rattle.rule_names.proofs.Parts.{hits, hits-append}

-- a site counts where it is this one
abbrev pub once_at : ℕ → ℕ → ℕ
once_at s n = cond (n == s) 1 0

-- how often a piece has a body of this site
abbrev pub owns_part : ℕ → Part → ℕ
owns_part s (block n any q b) = once_at s (body_site b)
owns_part s (guarded n c b) = once_at s (body_site b)
owns_part s (kinds n name c b) = once_at s (body_site b)
owns_part s _ = 0

abbrev pub owns : ℕ → Piece → ℕ
owns s (OfRule r) = once_at s (body_site r.body)
owns s (OfPart p) = owns_part s p
owns s _ = 0

abbrev pub owned : ℕ → List Sited → ℕ
owned s [] = 0
owned s (p ∷ ps) = owns s p.1 + owned s ps

owned-append : (s : ℕ) (ps qs : List Sited) → owned s (ps ++ qs) ≡ owned s ps + owned s qs
owned-append s [] qs = omega arith
owned-append s (p ∷ ps) qs = let e = owned-append s ps qs in omega arith

-- no more often than the site stands
module _ (s : ℕ) where
  both : (ps qs : List Sited) → owned s ps ≤ hits s ps → owned s qs ≤ hits s qs → owned s (ps ++ qs) ≤ hits s (ps ++ qs)
  both ps qs h k = let a = owned-append s ps qs in let b = hits-append s ps qs in omega (arith, h, k)

  one : (n : ℕ) (p : Piece) (ps : List Sited) → owns s p ≡ 0 → owned s ps ≤ hits s ps → owned s ((n, p) ∷ ps) ≤ hits s ((n, p) ∷ ps)
  one n p ps none h = omega (arith, none, h)

  -- a part with its body behind others: the site of the body counts once
  with-body : (n : ℕ) (p : Piece) (b : Body) (ps : List Sited) → owns s p ≡ once_at s (body_site b) → owned s ps ≤ hits s ps
      → owned s (pieces_body b) + once_at s (body_site b) ≤ hits s (pieces_body b)
      → owned s ((n, p) ∷ (ps ++ pieces_body b)) ≤ hits s ((n, p) ∷ (ps ++ pieces_body b))
  with-body n p b ps one_is h k =
      let x = owned-append s ps (pieces_body b) in
      let y = hits-append s ps (pieces_body b) in
      omega (arith, one_is, h, k)

  mutual
    few-body : (x : Body) → owned s (pieces_body x) + once_at s (body_site x) ≤ hits s (pieces_body x)
    few-body (body n ls ds) =
        let h = both (pieces_lets ls) (pieces_disjs ds) (few-lets ls) (few-disjs ds) in
        omega (arith, h)

    few-lets : (x : Lets) → owned s (pieces_lets x) ≤ hits s (pieces_lets x)
    few-lets no_lets = omega arith
    few-lets (more_lets l ls) = both (pieces_let l) (pieces_lets ls) (few-let l) (few-lets ls)

    few-let : (x : Let) → owned s (pieces_let x) ≤ hits s (pieces_let x)
    few-let (assign n name e) = one n (OfLet (assign n name e)) (pieces_expr e) refl (few-expr e)

    few-conds : (x : Conds) → owned s (pieces_conds x) ≤ hits s (pieces_conds x)
    few-conds (conds n ds) = one n (OfConds (conds n ds)) (pieces_disjs ds) refl (few-disjs ds)

    few-opt_conds : (x : OptConds) → owned s (pieces_opt_conds x) ≤ hits s (pieces_opt_conds x)
    few-opt_conds no_conds = omega arith
    few-opt_conds (with_conds c) = few-conds c

    few-disjs : (x : Disjs) → owned s (pieces_disjs x) ≤ hits s (pieces_disjs x)
    few-disjs no_disjs = omega arith
    few-disjs (more_disjs d ds) = both (pieces_disj d) (pieces_disjs ds) (few-disj d) (few-disjs ds)

    few-disj : (x : Disj) → owned s (pieces_disj x) ≤ hits s (pieces_disj x)
    few-disj (disj n ps) = one n (OfDisj (disj n ps)) (pieces_parts ps) refl (few-parts ps)

    few-parts : (x : Parts) → owned s (pieces_parts x) ≤ hits s (pieces_parts x)
    few-parts no_parts = omega arith
    few-parts (more_parts p ps) = both (pieces_part p) (pieces_parts ps) (few-part p) (few-parts ps)

    few-part : (x : Part) → owned s (pieces_part x) ≤ hits s (pieces_part x)
    few-part (block n any q b) = with-body n (OfPart (block n any q b)) b (pieces_query q) refl (few-query q) (few-body b)
    few-part (guarded n c b) = with-body n (OfPart (guarded n c b)) b (pieces_conds c) refl (few-conds c) (few-body b)
    few-part (kinds n name c b) = with-body n (OfPart (kinds n name c b)) b (pieces_opt_conds c) refl (few-opt_conds c) (few-body b)
    few-part (test n any q op negated right message) =
        one n (OfPart (test n any q op negated right message)) (pieces_query q ++ pieces_opt_expr right) refl (both (pieces_query q) (pieces_opt_expr right) (few-query q) (few-opt_expr right))
    few-part (refer n negated name message) = one n (OfPart (refer n negated name message)) [] refl (omega arith)
    few-part (call n negated name es message) = one n (OfPart (call n negated name es message)) (pieces_exprs es) refl (few-exprs es)

    few-query : (x : Query) → owned s (pieces_query x) ≤ hits s (pieces_query x)
    few-query (query n ss) = one n (OfQuery (query n ss)) (pieces_steps (query n ss) 0 ss) refl (few-steps (query n ss) 0 ss)

    few-steps : (q : Query) (i : ℕ) (x : Steps) → owned s (pieces_steps q i x) ≤ hits s (pieces_steps q i x)
    few-steps q i no_steps = omega arith
    few-steps q i (more_steps p ps) = both (pieces_step q i p) (pieces_steps q (suc i) ps) (few-step q i p) (few-steps q (suc i) ps)

    few-step : (q : Query) (i : ℕ) (x : Step) → owned s (pieces_step q i x) ≤ hits s (pieces_step q i x)
    few-step q i (this n) = one n (OfStep q i) [] refl (omega arith)
    few-step q i (var n name) = one n (OfStep q i) [] refl (omega arith)
    few-step q i (key n name) = one n (OfStep q i) [] refl (omega arith)
    few-step q i (index n at) = one n (OfStep q i) [] refl (omega arith)
    few-step q i (every n) = one n (OfStep q i) [] refl (omega arith)
    few-step q i (items n) = one n (OfStep q i) [] refl (omega arith)
    few-step q i (splice n name) = one n (OfStep q i) [] refl (omega arith)
    few-step q i (filter n capture c) = one n (OfStep q i) (pieces_conds c) refl (few-conds c)
    few-step q i (keys n capture op negated e) = one n (OfStep q i) (pieces_expr e) refl (few-expr e)

    few-expr : (x : Expr) → owned s (pieces_expr x) ≤ hits s (pieces_expr x)
    few-expr (literal n tree) = one n (OfExpr (literal n tree)) [] refl (omega arith)
    few-expr (function n name es) = one n (OfExpr (function n name es)) (pieces_exprs es) refl (few-exprs es)
    few-expr (asked q) = few-query q
    few-expr (found n q) = one n (OfExpr (found n q)) (pieces_query q) refl (few-query q)

    few-opt_expr : (x : OptExpr) → owned s (pieces_opt_expr x) ≤ hits s (pieces_opt_expr x)
    few-opt_expr no_expr = omega arith
    few-opt_expr (with_expr e) = few-expr e

    few-exprs : (x : Exprs) → owned s (pieces_exprs x) ≤ hits s (pieces_exprs x)
    few-exprs no_exprs = omega arith
    few-exprs (more_exprs e es) = both (pieces_expr e) (pieces_exprs es) (few-expr e) (few-exprs es)

  few-rules : (rs : List Rule) → owned s (pieces_rules rs) ≤ hits s (pieces_rules rs)
  few-rules [] = omega arith
  few-rules (r ∷ rs) =
      both (pieces_rule r) (pieces_rules rs) (with-body r.site (OfRule r) r.body (pieces_opt_conds r.cond) refl (few-opt_conds r.cond) (few-body r.body)) (few-rules rs)

  few-file : (f : File) → owned s (pieces_file f) ≤ hits s (pieces_file f)
  few-file f =
      one 0 OfFile (pieces_lets f.lets ++ (pieces_rules f.rules ++ pieces_disjs f.loose)) refl
      (both (pieces_lets f.lets) (pieces_rules f.rules ++ pieces_disjs f.loose) (few-lets f.lets)
      (both (pieces_rules f.rules) (pieces_disjs f.loose) (few-rules f.rules) (few-disjs f.loose)))

  -- ---- two that have it

  -- one piece that is found counts
  counts : (ps : List Sited) (n : ℕ) (p : Piece) → piece_in ps n ≡ Some p → owns s p ≤ owned s ps
  counts [] n p e = absurd (none-some p e)
  counts ((m, q) ∷ ps) n p e = by (m == n) e (counts ps n p)
    where
      by : (b : Bool) → option_map (λ (x : Sited). x.1) (cond b (Some (m, q)) (find (λ (x : Sited). x.0 == n) ps)) ≡ Some p → (piece_in ps n ≡ Some p → owns s p ≤ owned s ps)
          → owns s p ≤ owns s q + owned s ps
      by true e later = let same : owns s q ≡ owns s p = ap (owns s) (same_Some q p e) in omega (arith, same)
      by false e later = let h = later e in omega (arith, h)

  -- and two at different sites count twice
  counts-two : (ps : List Sited) (n m : ℕ) (p q : Piece) → (n ≡ m → ⊥) → piece_in ps n ≡ Some p → piece_in ps m ≡ Some q → owns s p + owns s q ≤ owned s ps
  counts-two [] n m p q other e k = absurd (none-some p e)
  counts-two ((o, x) ∷ ps) n m p q other e k = by (o == n) (o == m) refl refl e k (counts-two ps n m p q other) (counts ps n p) (counts ps m q)
    where
      by : (a b : Bool) → (o == n) ≡ a → (o == m) ≡ b → option_map (λ (y : Sited). y.1) (cond a (Some (o, x)) (find (λ (y : Sited). y.0 == n) ps)) ≡ Some p
          → option_map (λ (y : Sited). y.1) (cond b (Some (o, x)) (find (λ (y : Sited). y.0 == m) ps)) ≡ Some q
          → (piece_in ps n ≡ Some p → piece_in ps m ≡ Some q → owns s p + owns s q ≤ owned s ps) → (piece_in ps n ≡ Some p → owns s p ≤ owned s ps) → (piece_in ps m ≡ Some q → owns s q ≤ owned s ps)
          → owns s p + owns s q ≤ owns s x + owned s ps
      by true true here there e k later first second = absurd (other (let a : o ≡ n = grind (arith, nat_tests, here) in let b : o ≡ m = grind (arith, nat_tests, there) in sym a ∙ b))
      by true false here there e k later first second = let same : owns s x ≡ owns s p = ap (owns s) (same_Some x p e) in let h = second k in omega (arith, same, h)
      by false true here there e k later first second = let same : owns s x ≡ owns s q = ap (owns s) (same_Some x q k) in let h = first e in omega (arith, same, h)
      by false false here there e k later first second = let h = later e k in omega (arith, h)

-- two pieces that have a body of one site are the same
pub one-owner : (f : File) → ((n : ℕ) → hits n (pieces_file f) ≤ 1) → (s n m : ℕ) (p q : Piece) → piece_at f n ≡ Some p → piece_at f m ≡ Some q → owns s p ≡ 1 → owns s q ≡ 1 → p ≡ q
one-owner f few s n m p q there behind has too = by (n == m) refl
  where
    by : (b : Bool) → (n == m) ≡ b → p ≡ q
    by true is = let same : n ≡ m = grind (arith, nat_tests, is) in same_Some p q (sym there ∙ ap (piece_at f) same ∙ behind)
    by false is =
        let other : n ≡ m → ⊥ = λ (e : n ≡ m). let test : (n == m) ≡ true = grind (arith, nat_tests, e) in true≢false (sym test ∙ is) in
        let two = counts-two s (pieces_file f) n m p q other there behind in
        let most = few-file s f in
        let once = few s in
        absurd (omega (arith, two, most, once, has, too))

-- its own site counts
pub own-site : (b : Body) → once_at (body_site b) (body_site b) ≡ 1
own-site b = let same : (body_site b == body_site b) ≡ true = grind (arith, nat_tests) in ap (λ (v : Bool). cond v 1 0) same
