-- The table of Depths is settled: names that are followed once more change nothing.
use Rattle.std.proofs.Common.{◌≡◌, ℕ, zero, suc, ◌+◌, ◌-◌, ◌<◌, ◌≤◌, ◌⊎◌, inl, inr, refl, sym, ap, ◌∙◌, subst, arith, List, length, get_or, map, Option, Some, None, min}
use Rattle.std.proofs.lemmas.Bool.Decides.{nat_tests}
use Rattle.std.proofs.lemmas.List.{ext_get_or, get_or_past, length-map}
use Rattle.guard_syntax.specs.Sites.{upto}
use Rattle.guard_syntax.specs.Syntax.{Body, Lets, Let, Conds, OptConds, Disjs, Disj, Parts, Part, Query, Steps, Step, Expr, OptExpr, Exprs, Rule, File, body, no_lets, more_lets, assign, conds, no_conds, with_conds, no_disjs, more_disjs, disj, no_parts, more_parts, block, guarded, kinds, test, refer, call, query, no_steps, more_steps, this, var, key, index, every, items, splice, filter, keys, literal, function, asked, found, no_expr, with_expr, no_exprs, more_exprs}
use Rattle.rule_names.specs.declared.bind.Bind.{Bind}
use Rattle.rule_names.specs.declared.bind.Bind.TheVariants.{Value, Capture, Param}
use Rattle.rule_names.specs.Depths.{larger, capped, first_of_query, depth_bound, depth_target, depth_body, depth_lets, depth_let, depth_conds, depth_opt_conds, depth_disjs, depth_disj, depth_parts, depth_part, depth_query, depth_steps, depth_step, depth_expr, depth_opt_expr, depth_exprs, depth_rule, depth_piece, deepened, deepened_by, depths_of, rounds}
use Rattle.rule_names.specs.Resolution.{bind_of, target_of}
use Rattle.rule_names.specs.Pieces.{Piece, OfFile, OfLet, OfRule, OfBody, OfConds, OfDisj, OfPart, OfQuery, OfStep, OfExpr, piece_at}
use Rattle.rule_names.proofs.Capping.{capped-most}

-- ---- numbers that agree as far as another

record Agree (k a b : ℕ) : Type 0 where
  pub same : min k a ≡ min k b

agree_zero : (a b : ℕ) → Agree 0 a b
agree_zero a b = record { same = omega arith }

agree_refl : (k a : ℕ) → Agree k a a
agree_refl k a = record { same = refl }

agree_suc : (k a b : ℕ) → Agree k a b → Agree (suc k) (suc a) (suc b)
agree_suc k a b h = let e = h.same in record { same = omega arith }

agree_less : (k a b : ℕ) → Agree (suc k) a b → Agree k a b
agree_less k a b h = let e = h.same in record { same = omega arith }

agree_sum : (k a b c d : ℕ) → Agree k a b → Agree k c d → Agree k (a + c) (b + d)
agree_sum k a b c d h i = let e = h.same in let g = i.same in record { same = omega arith }

min_larger : (k a b : ℕ) → min k (larger a b) ≡ larger (min k a) (min k b)
min_larger k a b = grind (arith, nat_tests)

agree_larger : (k a b c d : ℕ) → Agree k a b → Agree k c d → Agree k (larger a c) (larger b d)
agree_larger k a b c d h i =
    record { same = min_larger k a c ∙ ap (λ (x : ℕ). larger x (min k c)) h.same ∙ ap (larger (min k b)) i.same ∙ sym (min_larger k b d) }

min_capped : (k a : ℕ) → min k (capped a) ≡ min (min k a) 201
min_capped k a = grind (arith, nat_tests)

agree_capped : (k a b : ℕ) → Agree k a b → Agree k (capped a) (capped b)
agree_capped k a b h = record { same = min_capped k a ∙ ap (λ (x : ℕ). min x 201) h.same ∙ sym (min_capped k b) }

-- a use counts 1 more than what it means
agree_more : (k a b : ℕ) → Agree (suc k) a b → Agree (suc k) (suc a) (suc b)
agree_more k a b h = agree_suc k a b (agree_less k a b h)

record AgreeAll (k : ℕ) (as_ bs : List ℕ) : Type 0 where
  pub each : (n : ℕ) → Agree k (get_or as_ n 0) (get_or bs n 0)

-- ---- parts agree further than tables

module _ (f : File) (as_ bs : List ℕ) (k : ℕ) (h : AgreeAll k as_ bs) where
  agree_bound : (b : Option Bind) → Agree k (depth_bound f as_ b) (depth_bound f bs b)
  agree_bound None = agree_refl k 0
  agree_bound (Some (Value up site)) = h.each site
  agree_bound (Some (Capture up step)) = h.each step
  agree_bound (Some (Param up i)) = agree_refl k 0

  agree_target : (t : Option ℕ) → Agree k (depth_target f as_ t) (depth_target f bs t)
  agree_target None = agree_refl k 0
  agree_target (Some site) = h.each site

  mutual
    agree_body : (x : Body) → Agree (suc k) (depth_body f as_ x) (depth_body f bs x)
    agree_body (body n ls ds) = agree_larger (suc k) _ _ _ _ (agree_lets ls) (agree_disjs ds)

    agree_lets : (x : Lets) → Agree (suc k) (depth_lets f as_ x) (depth_lets f bs x)
    agree_lets no_lets = agree_refl (suc k) 0
    agree_lets (more_lets l ls) = agree_larger (suc k) _ _ _ _ (agree_let l) (agree_lets ls)

    agree_let : (x : Let) → Agree (suc k) (depth_let f as_ x) (depth_let f bs x)
    agree_let (assign n name e) = agree_expr e

    agree_conds : (x : Conds) → Agree (suc k) (depth_conds f as_ x) (depth_conds f bs x)
    agree_conds (conds n ds) = agree_disjs ds

    agree_opt_conds : (x : OptConds) → Agree (suc k) (depth_opt_conds f as_ x) (depth_opt_conds f bs x)
    agree_opt_conds no_conds = agree_refl (suc k) 0
    agree_opt_conds (with_conds c) = agree_conds c

    agree_disjs : (x : Disjs) → Agree (suc k) (depth_disjs f as_ x) (depth_disjs f bs x)
    agree_disjs no_disjs = agree_refl (suc k) 0
    agree_disjs (more_disjs d ds) = agree_larger (suc k) _ _ _ _ (agree_disj d) (agree_disjs ds)

    agree_disj : (x : Disj) → Agree (suc k) (depth_disj f as_ x) (depth_disj f bs x)
    agree_disj (disj n ps) = agree_parts ps

    agree_parts : (x : Parts) → Agree (suc k) (depth_parts f as_ x) (depth_parts f bs x)
    agree_parts no_parts = agree_refl (suc k) 0
    agree_parts (more_parts p ps) = agree_larger (suc k) _ _ _ _ (agree_part p) (agree_parts ps)

    agree_part : (x : Part) → Agree (suc k) (depth_part f as_ x) (depth_part f bs x)
    agree_part (block n any q b) = agree_more k _ _ (agree_larger (suc k) _ _ _ _ (agree_query q) (agree_body b))
    agree_part (guarded n c b) = agree_more k _ _ (agree_larger (suc k) _ _ _ _ (agree_conds c) (agree_body b))
    agree_part (kinds n name c b) = agree_more k _ _ (agree_larger (suc k) _ _ _ _ (agree_opt_conds c) (agree_body b))
    agree_part (test n any q op negated right message) = agree_more k _ _ (agree_larger (suc k) _ _ _ _ (agree_query q) (agree_opt_expr right))
    agree_part (refer n negated name message) = agree_suc k _ _ (agree_target (target_of f n))
    agree_part (call n negated name es message) = agree_suc k _ _ (agree_sum k _ _ _ _ (agree_target (target_of f n)) (agree_less k _ _ (agree_exprs es)))

    agree_query : (x : Query) → Agree (suc k) (depth_query f as_ x) (depth_query f bs x)
    agree_query (query n ss) = agree_more k _ _ (agree_steps ss)

    agree_steps : (x : Steps) → Agree (suc k) (depth_steps f as_ x) (depth_steps f bs x)
    agree_steps no_steps = agree_refl (suc k) 0
    agree_steps (more_steps p ps) = agree_larger (suc k) _ _ _ _ (agree_step p) (agree_steps ps)

    agree_step : (x : Step) → Agree (suc k) (depth_step f as_ x) (depth_step f bs x)
    agree_step (this n) = agree_refl (suc k) 0
    agree_step (var n name) = agree_suc k _ _ (agree_bound (bind_of f n))
    agree_step (key n name) = agree_refl (suc k) 0
    agree_step (index n i) = agree_refl (suc k) 0
    agree_step (every n) = agree_refl (suc k) 0
    agree_step (items n) = agree_refl (suc k) 0
    agree_step (splice n name) = agree_suc k _ _ (agree_bound (bind_of f n))
    agree_step (filter n capture c) = agree_conds c
    agree_step (keys n capture op negated e) = agree_expr e

    agree_expr : (x : Expr) → Agree (suc k) (depth_expr f as_ x) (depth_expr f bs x)
    agree_expr (literal n tree) = agree_refl (suc k) 1
    agree_expr (function n name es) = agree_more k _ _ (agree_exprs es)
    agree_expr (asked q) = agree_query q
    agree_expr (found n q) = agree_more k _ _ (agree_query q)

    agree_opt_expr : (x : OptExpr) → Agree (suc k) (depth_opt_expr f as_ x) (depth_opt_expr f bs x)
    agree_opt_expr no_expr = agree_refl (suc k) 0
    agree_opt_expr (with_expr e) = agree_expr e

    agree_exprs : (x : Exprs) → Agree (suc k) (depth_exprs f as_ x) (depth_exprs f bs x)
    agree_exprs no_exprs = agree_refl (suc k) 0
    agree_exprs (more_exprs e es) = agree_larger (suc k) _ _ _ _ (agree_expr e) (agree_exprs es)

  agree_rule : (r : Rule) → Agree (suc k) (depth_rule f as_ r) (depth_rule f bs r)
  agree_rule r = agree_more k _ _ (agree_larger (suc k) _ _ _ _ (agree_opt_conds r.cond) (agree_body r.body))

  agree_piece : (p : Option Piece) → Agree (suc k) (depth_piece f as_ p) (depth_piece f bs p)
  agree_piece None = agree_refl (suc k) 0
  agree_piece (Some OfFile) = agree_refl (suc k) 0
  agree_piece (Some (OfLet l)) = agree_refl (suc k) 0
  agree_piece (Some (OfRule r)) = agree_rule r
  agree_piece (Some (OfBody b)) = agree_refl (suc k) 0
  agree_piece (Some (OfConds c)) = agree_refl (suc k) 0
  agree_piece (Some (OfDisj d)) = agree_refl (suc k) 0
  agree_piece (Some (OfPart p)) = agree_refl (suc k) 0
  agree_piece (Some (OfQuery q)) = agree_query q
  agree_piece (Some (OfStep q i)) = agree_query (first_of_query i q)
  agree_piece (Some (OfExpr e)) = agree_expr e

-- ---- tables

below_or_past : (n m : ℕ) → (n < m) ⊎ (m ≤ n)
below_or_past n zero = inr (omega arith)
below_or_past zero (suc m) = inl (omega arith)
below_or_past (suc n) (suc m) = elim (below_or_past n m) [ inl e ↦ inl (omega arith) | inr e ↦ inr (omega arith) ]

upto_long : (n k : ℕ) → length (upto n k) ≡ k
upto_long n zero = refl
upto_long n (suc k) = ap suc (upto_long (suc n) k)

read_from : (g : ℕ → ℕ) (n k i : ℕ) → i < k → get_or (map g (upto n k)) i 0 ≡ g (n + i)
read_from g n zero i within = absurd (omega arith)
read_from g n (suc k) zero within = ap g (omega arith)
read_from g n (suc k) (suc i) within = read_from g (suc n) k i (omega arith) ∙ ap g (omega arith)

-- what a table has that is made site by site
pub read-mapped : (g : ℕ → ℕ) (k i : ℕ) → i < k → get_or (map g (upto 0 k)) i 0 ≡ g i
read-mapped g k i within = read_from g 0 k i within ∙ ap g (omega arith)

pub mapped-long : (g : ℕ → ℕ) (k : ℕ) → length (map g (upto 0 k)) ≡ k
mapped-long g k = length-map (upto 0 k) g ∙ upto_long 0 k

abbrev of_site : File → List ℕ → ℕ → ℕ
of_site f depths n = capped (depth_piece f depths (piece_at f n))

agree_tables : (f : File) (as_ bs : List ℕ) (k : ℕ) → AgreeAll k as_ bs → AgreeAll (suc k) (deepened f as_) (deepened f bs)
agree_tables f as_ bs k h = record { each = λ n. at n (below_or_past n (length f.places)) }
  where
    at : (n : ℕ) → (n < length f.places) ⊎ (length f.places ≤ n) → Agree (suc k) (get_or (deepened f as_) n 0) (get_or (deepened f bs) n 0)
    at n (inl within) =
        let one = read-mapped (of_site f as_) (length f.places) n within in
        let other = read-mapped (of_site f bs) (length f.places) n within in
        let same = (agree_capped (suc k) _ _ (agree_piece f as_ bs k h (piece_at f n))).same in
        record { same = ap (min (suc k)) one ∙ same ∙ ap (min (suc k)) (sym other) }
    at n (inr past) =
        let one = get_or_past (deepened f as_) n 0 (subst (λ (x : ℕ). x ≤ n) (sym (mapped-long (of_site f as_) (length f.places))) past) in
        let other = get_or_past (deepened f bs) n 0 (subst (λ (x : ℕ). x ≤ n) (sym (mapped-long (of_site f bs) (length f.places))) past) in
        record { same = ap (min (suc k)) (one ∙ sym other) }

agree_rounds : (f : File) (n : ℕ) → AgreeAll n (deepened_by f n) (deepened_by f (suc n))
agree_rounds f zero = record { each = λ i. agree_zero _ _ }
agree_rounds f (suc n) = agree_tables f (deepened_by f n) (deepened_by f (suc n)) n (agree_rounds f n)

agree_equal : (k a b : ℕ) → Agree k a b → a ≤ k → b ≤ k → a ≡ b
agree_equal k a b h l m = let e = h.same in omega arith

settled_after : (f : File) (n : ℕ) → 201 ≤ n → deepened f (deepened_by f n) ≡ deepened_by f n
settled_after f zero l = absurd (omega arith)
settled_after f (suc n) l =
    ext_get_or 0 (deepened f (deepened_by f (suc n))) (deepened_by f (suc n))
    (mapped-long (of_site f (deepened_by f (suc n))) (length f.places) ∙ sym (mapped-long (of_site f (deepened_by f n)) (length f.places)))
    (λ i within. at i (subst (λ (k : ℕ). i < k) (mapped-long (of_site f (deepened_by f (suc n))) (length f.places)) within))
  where
    most : (t : List ℕ) (i : ℕ) → i < length f.places → get_or (deepened f t) i 0 ≤ 201
    most t i within = subst (λ (x : ℕ). x ≤ 201) (sym (read-mapped (of_site f t) (length f.places) i within)) (capped-most (depth_piece f t (piece_at f i)))

    at : (i : ℕ) → i < length f.places → get_or (deepened f (deepened_by f (suc n))) i 0 ≡ get_or (deepened_by f (suc n)) i 0
    at i within =
        let x = most (deepened_by f (suc n)) i within in
        let y = most (deepened_by f n) i within in
        sym (agree_equal (suc n) (get_or (deepened_by f (suc n)) i 0) (get_or (deepened f (deepened_by f (suc n))) i 0) ((agree_rounds f (suc n)).each i) (omega arith) (omega arith))

pub rounds-are : rounds ≡ 201
unfolding rounds
rounds-are = refl

-- the law of the table
pub settled : (f : File) → deepened f (depths_of f) ≡ depths_of f
settled f = settled_after f rounds (omega (arith, rounds-are))

-- a round that changes nothing is the last that could
pub stays : (f : File) (n k : ℕ) → deepened f (deepened_by f n) ≡ deepened_by f n → deepened_by f (n + k) ≡ deepened_by f n
stays f n zero h = ap (deepened_by f) (omega arith)
stays f n (suc k) h =
    let more : n + suc k ≡ suc (n + k) = omega arith in
    ap (deepened_by f) more ∙ ap (deepened f) (stays f n k h) ∙ h

pub stopped : (f : File) (n : ℕ) (now next : List ℕ) → n ≤ 201 → now ≡ deepened_by f n → next ≡ deepened f now → next ≡ now → next ≡ depths_of f
stopped f n now next l is deep same =
    let still : deepened f (deepened_by f n) ≡ deepened_by f n = ap (deepened f) (sym is) ∙ sym deep ∙ same ∙ is in
    let all : rounds ≡ n + (201 - n) = omega (arith, rounds-are) in
    same ∙ is ∙ sym (ap (deepened_by f) all ∙ stays f n (201 - n) still)

-- all rounds are made
pub done : (f : File) (n : ℕ) (now : List ℕ) → n ≤ 201 → 201 ≤ n → now ≡ deepened_by f n → now ≡ depths_of f
done f n now l m is = is ∙ ap (deepened_by f) (omega (arith, rounds-are))
