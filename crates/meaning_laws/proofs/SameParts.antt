-- Where two meanings of names over locations agree on what is not deeper than a number, each part that is not deeper, with the weight of its environment, means the same by both.
use Rattle.std.proofs.Common.{◌≡◌, ℕ, suc, ◌+◌, ◌≤◌, Bool, false, refl, ap, ◌∙◌, arith, List, [], ◌∷◌, map, if◌then◌else◌}
use Rattle.std.specs.Prelude.{◌&&◌, filter as kept_of}
use Rattle.std.specs.List.{flat_map}
use Rattle.std.proofs.Math.Path.{fun_ext}
use Rattle.guard_syntax.specs.Syntax.{Body, Conds, OptConds, Disjs, Disj, Parts, Part, Query, Steps, Step, Expr, OptExpr, Exprs, body, conds, no_conds, with_conds, no_disjs, more_disjs, disj, no_parts, more_parts, block, guarded, kinds, test, refer, call, query, no_steps, more_steps, this, var, key, index, every, items, splice, filter, keys, literal, function, asked, found, no_expr, with_expr, no_exprs, more_exprs}
use Rattle.guard_syntax.specs.declared.row.Verdict.{Verdict}
use Rattle.rule_names.specs.Depths.{larger, depth_body, depth_lets, depth_conds, depth_opt_conds, depth_disjs, depth_disj, depth_parts, depth_part, depth_query, depth_steps, depth_step, depth_expr, depth_opt_expr, depth_exprs, depth_bound, depth_target}
use Rattle.rule_names.specs.Resolution.{bind_of, target_of}
use Rattle.rule_names.specs.Uses.{function_named}
use Rattle.rule_meaning.specs.Environments.{Environment, Inner, current_of}
use Rattle.rule_meaning.specs.SetTests.{is_set, is_empty_test}
use Rattle.rule_meaning.specs.Meaning.{Names, answered, rows_of, rows_from, rows_at, rows_of_expr, rows_of_args, rows_of_side, conds_verdict, body_verdict, disj_verdicts, disj_verdict, part_verdicts, part_verdict, opt_conds_verdict}
use Rattle.rule_meaning.specs.Places.{are_no_steps, is_key}
use Rattle.rule_meaning.specs.StepMeaning.{candidates_of, found_step, on_found, passes, rows_of_type, splice_row}
use Rattle.rule_meaning.specs.VerdictMeaning.{test_verdict, set_verdict, block_row}
use Rattle.rule_meaning.specs.Locations.{Location, LocatedRow, Found, World, is_found}
use Rattle.rule_meaning.specs.Verdicts.{is_pass, conjunction, disjunction, block_verdict, guarded_by, referred, exchanged}
use Rattle.meaning_laws.specs.code.Weights.{weight}
use Rattle.meaning_laws.proofs.Weighed.{larger-first, larger-second}

-- two meanings of names say the same of each use that is not deeper than a number
pub record Agree (world : World) (depths : List ℕ) (k : ℕ) (a b : Names) : Type 0 where
  pub rows : (env : Environment) (site : ℕ) → suc (depth_bound world.file depths (bind_of world.file site)) + weight world.file depths env ≤ k
      → a.rows env site ≡ b.rows env site
  pub verdict : (site : ℕ) → suc (depth_target world.file depths (target_of world.file site)) ≤ k → a.verdict site ≡ b.verdict site
  pub called : (env : Environment) (site : ℕ) (args : Exprs)
      → suc (depth_target world.file depths (target_of world.file site) + depth_exprs world.file depths args) + weight world.file depths env ≤ k
      → a.called env site args ≡ b.called env site args

-- which candidates a filter keeps, and the verdict of a body at each value
abbrev keeps : World → Names → Environment → Conds → Location → Bool
keeps world names env conditions r = is_pass (conds_verdict world names (Inner r env) conditions)

abbrev framed : World → Names → Environment → Body → Location → Verdict
framed world names env inner v = body_verdict world names (Inner v env) inner

module _ (world : World) (depths : List ℕ) (k : ℕ) (a b : Names) (same : Agree world depths k a b) where
  abbrev Fits : ℕ → Environment → Type 0
  Fits depth env = depth + weight world.file depths env ≤ k

  first : (env : Environment) (m n : ℕ) → Fits (larger m n) env → Fits m env
  first env m n h = larger-first m n (weight world.file depths env) k h

  second : (env : Environment) (m n : ℕ) → Fits (larger m n) env → Fits n env
  second env m n h = larger-second m n (weight world.file depths env) k h

  below : (env : Environment) (n : ℕ) → Fits (suc n) env → Fits n env
  below env n h = omega (arith, h)

  mutual
    pub rows-same : (env : Environment) (q : Query) → Fits (depth_query world.file depths q) env → rows_of world a env q ≡ rows_of world b env q
    rows-same env (query site steps) h = steps-same env false steps (Found (current_of env) ∷ []) (below env (depth_steps world.file depths steps) h)

    pub steps-same : (env : Environment) (after : Bool) (steps : Steps) (rows : List LocatedRow) → Fits (depth_steps world.file depths steps) env
        → rows_from world a env after steps rows ≡ rows_from world b env after steps rows
    steps-same env after no_steps rows h = refl
    steps-same env after (more_steps step steps) rows h =
        let last = are_no_steps steps in
        let m = depth_step world.file depths step in
        let n = depth_steps world.file depths steps in
        let here : rows_at world a env last after step ≡ rows_at world b env last after step = fun_ext (λ v. step-same env last after step v (first env m n h)) in
        ap (λ (give : Location → List LocatedRow). rows_from world a env (is_key step) steps (flat_map (on_found give) rows)) here
        ∙ steps-same env (is_key step) steps (flat_map (on_found (rows_at world b env last after step)) rows) (second env m n h)

    pub step-same : (env : Environment) (last after : Bool) (step : Step) (v : Location) → Fits (depth_step world.file depths step) env
        → rows_at world a env last after step v ≡ rows_at world b env last after step v
    step-same env last after (this site) v h = refl
    step-same env last after (var site name) v h = same.rows env site h
    step-same env last after (key site name) v h = refl
    step-same env last after (index site i) v h = refl
    step-same env last after (every site) v h = refl
    step-same env last after (items site) v h = refl
    step-same env last after (splice site name) v h = ap (map (splice_row world site v)) (same.rows env site h)
    step-same env last after (filter site capture conditions) v h =
        let kept : keeps world a env conditions ≡ keeps world b env conditions = fun_ext (λ r. ap is_pass (conds-same (Inner r env) conditions h)) in
        ap (λ (p : Location → Bool). map Found (kept_of p (candidates_of world after v))) kept
    step-same env last after (keys site capture o negated right) v h =
        ap (λ (rows : List LocatedRow). found_step world last rows (keys site capture o negated right) v) (expr-same env right h)

    pub expr-same : (env : Environment) (e : Expr) → Fits (depth_expr world.file depths e) env → rows_of_expr world a env e ≡ rows_of_expr world b env e
    expr-same env (literal site tree) h = refl
    expr-same env (function site name args) h = ap (answered world site (function_named name)) (args-same env args (below env (depth_exprs world.file depths args) h))
    expr-same env (asked q) h = rows-same env q h
    expr-same env (found site q) h = ap (kept_of is_found) (rows-same env q (below env (depth_query world.file depths q) h))

    pub args-same : (env : Environment) (args : Exprs) → Fits (depth_exprs world.file depths args) env → rows_of_args world a env args ≡ rows_of_args world b env args
    args-same env no_exprs h = refl
    args-same env (more_exprs e es) h =
        let m = depth_expr world.file depths e in
        let n = depth_exprs world.file depths es in
        ap (λ (rows : List LocatedRow). rows ∷ rows_of_args world a env es) (expr-same env e (first env m n h))
        ∙ ap (λ (args : List (List LocatedRow)). rows_of_expr world b env e ∷ args) (args-same env es (second env m n h))

    pub side-same : (env : Environment) (side : OptExpr) → Fits (depth_opt_expr world.file depths side) env → rows_of_side world a env side ≡ rows_of_side world b env side
    side-same env no_expr h = refl
    side-same env (with_expr e) h = expr-same env e h

    pub conds-same : (env : Environment) (c : Conds) → Fits (depth_conds world.file depths c) env → conds_verdict world a env c ≡ conds_verdict world b env c
    conds-same env (conds site ds) h = ap conjunction (disjs-same env ds h)

    pub opt_conds-same : (env : Environment) (c : OptConds) → Fits (depth_opt_conds world.file depths c) env → opt_conds_verdict world a env c ≡ opt_conds_verdict world b env c
    opt_conds-same env no_conds h = refl
    opt_conds-same env (with_conds c) h = conds-same env c h

    pub body-same : (env : Environment) (x : Body) → Fits (depth_body world.file depths x) env → body_verdict world a env x ≡ body_verdict world b env x
    body-same env (body site lets ds) h =
        ap conjunction (disjs-same env ds (second env (depth_lets world.file depths lets) (depth_disjs world.file depths ds) h))

    pub disjs-same : (env : Environment) (ds : Disjs) → Fits (depth_disjs world.file depths ds) env → disj_verdicts world a env ds ≡ disj_verdicts world b env ds
    disjs-same env no_disjs h = refl
    disjs-same env (more_disjs d ds) h =
        let m = depth_disj world.file depths d in
        let n = depth_disjs world.file depths ds in
        ap (λ (v : Verdict). v ∷ disj_verdicts world a env ds) (disj-same env d (first env m n h))
        ∙ ap (λ (vs : List Verdict). disj_verdict world b env d ∷ vs) (disjs-same env ds (second env m n h))

    pub disj-same : (env : Environment) (d : Disj) → Fits (depth_disj world.file depths d) env → disj_verdict world a env d ≡ disj_verdict world b env d
    disj-same env (disj site ps) h = ap disjunction (parts-same env ps h)

    pub parts-same : (env : Environment) (ps : Parts) → Fits (depth_parts world.file depths ps) env → part_verdicts world a env ps ≡ part_verdicts world b env ps
    parts-same env no_parts h = refl
    parts-same env (more_parts p ps) h =
        let m = depth_part world.file depths p in
        let n = depth_parts world.file depths ps in
        ap (λ (v : Verdict). v ∷ part_verdicts world a env ps) (part-same env p (first env m n h))
        ∙ ap (λ (vs : List Verdict). part_verdict world b env p ∷ vs) (parts-same env ps (second env m n h))

    pub part-same : (env : Environment) (p : Part) → Fits (depth_part world.file depths p) env → part_verdict world a env p ≡ part_verdict world b env p
    part-same env (block site any head inner) h =
        let m = depth_query world.file depths head in
        let n = depth_body world.file depths inner in
        let fits = below env (larger m n) h in
        let at : framed world a env inner ≡ framed world b env inner = fun_ext (λ v. body-same (Inner v env) inner (second env m n fits)) in
        ap (λ (judge : Location → Verdict). block_verdict any (map (block_row judge) (rows_of world a env head))) at
        ∙ ap (λ (rows : List LocatedRow). block_verdict any (map (block_row (framed world b env inner)) rows)) (rows-same env head (first env m n fits))
    part-same env (guarded site conditions inner) h =
        let m = depth_conds world.file depths conditions in
        let n = depth_body world.file depths inner in
        let fits = below env (larger m n) h in
        ap (λ (v : Verdict). guarded_by v (body_verdict world a (Inner (current_of env) env) inner)) (conds-same env conditions (first env m n fits))
        ∙ ap (guarded_by (conds_verdict world b env conditions)) (body-same (Inner (current_of env) env) inner (second env m n fits))
    part-same env (kinds site name conditions inner) h =
        let m = depth_opt_conds world.file depths conditions in
        let n = depth_body world.file depths inner in
        let fits = below env (larger m n) h in
        let rows = rows_of_type world name (current_of env) in
        let at : framed world a env inner ≡ framed world b env inner = fun_ext (λ v. body-same (Inner v env) inner (second env m n fits)) in
        ap (λ (v : Verdict). guarded_by v (conjunction (map (block_row (framed world a env inner)) rows))) (opt_conds-same env conditions (first env m n fits))
        ∙ ap (λ (judge : Location → Verdict). guarded_by (opt_conds_verdict world b env conditions) (conjunction (map (block_row judge) rows))) at
    part-same env (test site any left o negated right message) h =
        let m = depth_query world.file depths left in
        let n = depth_opt_expr world.file depths right in
        let fits = below env (larger m n) h in
        let set = is_empty_test o && is_set left in
        ap (λ (rights : List LocatedRow). if set then set_verdict negated (rows_of world a env left) else test_verdict any (passes world o negated rights) (rows_of world a env left))
        (side-same env right (second env m n fits))
        ∙ ap (λ (lefts : List LocatedRow). if set then set_verdict negated lefts else test_verdict any (passes world o negated (rows_of_side world b env right)) lefts)
        (rows-same env left (first env m n fits))
    part-same env (refer site negated name message) h = ap (referred negated) (same.verdict site (omega (arith, h)))
    part-same env (call site negated name args message) h = ap (exchanged negated) (same.called env site args h)
