-- One unfolding more, over locations: where two meanings of names agree on what is not deeper than a number, those that an unfolding makes of them agree on what is 1 deeper.
use Rattle.std.proofs.Common.{◌≡◌, ℕ, zero, suc, ◌+◌, ◌≤◌, refl, ap, ◌∙◌, arith, List, Option, Some, None}
use Rattle.std.specs.List.{flat_map}
use Rattle.guard_syntax.specs.Syntax.{Rule, Exprs, no_exprs, more_exprs}
use Rattle.guard_syntax.specs.declared.row.Verdict.{Verdict}
use Rattle.rule_names.specs.declared.bind.Bind.{Bind}
use Rattle.rule_names.specs.declared.bind.Bind.TheVariants.{Value, Capture, Param}
use Rattle.rule_names.specs.Depths.{larger, depth_at, depth_bound, depth_target, depth_piece, depth_rule, depth_opt_conds, depth_body, depth_expr, depth_exprs, first_of_query}
use Rattle.rule_names.specs.Resolution.{bind_of, target_of}
use Rattle.rule_names.specs.Pieces.{Piece, OfFile, OfLet, OfRule, OfBody, OfConds, OfDisj, OfPart, OfQuery, OfStep, OfExpr, piece_at}
use Rattle.rule_names.specs.Uses.{expr_in}
use Rattle.rule_meaning.specs.Environments.{Environment, Top, Inner, Called, current_of, outwards}
use Rattle.rule_meaning.specs.Meaning.{Names, opt_conds_verdict, body_verdict}
use Rattle.rule_meaning.specs.StepMeaning.{captured_row}
use Rattle.rule_meaning.specs.NameMeaning.{value_rows, captured_rows, argument_rows, parameter_rows, bound_rows, rule_by, piece_verdict, target_verdict, piece_called, target_called, unfolded_once}
use Rattle.rule_meaning.specs.Verdicts.{guarded_by}
use Rattle.meaning_laws.specs.code.Weights.{weight}
use Rattle.rule_meaning.specs.Locations.{World, root_location}
use Rattle.meaning_laws.proofs.Weighed.{larger-first, larger-second}
use Rattle.meaning_laws.proofs.WeighedParts.{outwards-weight}
use Rattle.meaning_laws.proofs.SameParts.{Agree, rows-same, expr-same, opt_conds-same, body-same}

module _ (world : World) (depths : List ℕ) (k : ℕ) (a b : Names) (same : Agree world depths k a b) where
  value-same : (env : Environment) (p : Option Piece) → depth_piece world.file depths p + weight world.file depths env ≤ k → value_rows world a env p ≡ value_rows world b env p
  value-same env None h = refl
  value-same env (Some OfFile) h = refl
  value-same env (Some (OfLet l)) h = refl
  value-same env (Some (OfRule r)) h = refl
  value-same env (Some (OfBody x)) h = refl
  value-same env (Some (OfConds c)) h = refl
  value-same env (Some (OfDisj d)) h = refl
  value-same env (Some (OfPart p)) h = refl
  value-same env (Some (OfQuery q)) h = rows-same world depths k a b same env q h
  value-same env (Some (OfStep q i)) h = refl
  value-same env (Some (OfExpr e)) h = expr-same world depths k a b same env e h

  captured-same : (env : Environment) (p : Option Piece) → depth_piece world.file depths p + weight world.file depths env ≤ k → captured_rows world a env p ≡ captured_rows world b env p
  captured-same env None h = refl
  captured-same env (Some OfFile) h = refl
  captured-same env (Some (OfLet l)) h = refl
  captured-same env (Some (OfRule r)) h = refl
  captured-same env (Some (OfBody x)) h = refl
  captured-same env (Some (OfConds c)) h = refl
  captured-same env (Some (OfDisj d)) h = refl
  captured-same env (Some (OfPart p)) h = refl
  captured-same env (Some (OfQuery q)) h = refl
  captured-same env (Some (OfStep q i)) h = ap (flat_map (captured_row world)) (rows-same world depths k a b same env (first_of_query i q) h)
  captured-same env (Some (OfExpr e)) h = refl

  -- an argument is no deeper than all arguments
  argument-same : (caller : Environment) (args : Exprs) (i : ℕ) → depth_exprs world.file depths args + weight world.file depths caller ≤ k
      → argument_rows world a caller (expr_in args i) ≡ argument_rows world b caller (expr_in args i)
  argument-same caller no_exprs i h = refl
  argument-same caller (more_exprs e es) zero h =
      expr-same world depths k a b same caller e
      (larger-first (depth_expr world.file depths e) (depth_exprs world.file depths es) (weight world.file depths caller) k h)
  argument-same caller (more_exprs e es) (suc i) h =
      argument-same caller es i (larger-second (depth_expr world.file depths e) (depth_exprs world.file depths es) (weight world.file depths caller) k h)

  parameter-same : (env : Environment) (i : ℕ) → weight world.file depths env ≤ k → parameter_rows world a env i ≡ parameter_rows world b env i
  parameter-same Top i h = refl
  parameter-same (Inner current outer) i h = refl
  parameter-same (Called current args caller) i h = argument-same caller args i h

  pub rule-same : (r : Rule) → depth_rule world.file depths r ≤ k → rule_by world a r ≡ rule_by world b r
  rule-same r h =
      let m = depth_opt_conds world.file depths r.cond in
      let n = depth_body world.file depths r.body in
      let fits : larger m n + 0 ≤ k = omega (arith, h) in
      ap (λ (v : Verdict). guarded_by v (body_verdict world a (Inner root_location Top) r.body)) (opt_conds-same world depths k a b same Top r.cond (larger-first m n 0 k fits))
      ∙ ap (guarded_by (opt_conds_verdict world b Top r.cond)) (body-same world depths k a b same (Inner root_location Top) r.body (larger-second m n 0 k fits))

  judged-same : (p : Option Piece) → depth_piece world.file depths p ≤ k → piece_verdict world a p ≡ piece_verdict world b p
  judged-same None h = refl
  judged-same (Some OfFile) h = refl
  judged-same (Some (OfLet l)) h = refl
  judged-same (Some (OfRule r)) h = rule-same r h
  judged-same (Some (OfBody x)) h = refl
  judged-same (Some (OfConds c)) h = refl
  judged-same (Some (OfDisj d)) h = refl
  judged-same (Some (OfPart p)) h = refl
  judged-same (Some (OfQuery q)) h = refl
  judged-same (Some (OfStep q i)) h = refl
  judged-same (Some (OfExpr e)) h = refl

  -- the arguments weigh on the called body
  called-same : (env : Environment) (args : Exprs) (p : Option Piece) → depth_piece world.file depths p + depth_exprs world.file depths args + weight world.file depths env ≤ k
      → piece_called world a env args p ≡ piece_called world b env args p
  called-same env args None h = refl
  called-same env args (Some OfFile) h = refl
  called-same env args (Some (OfLet l)) h = refl
  called-same env args (Some (OfRule r)) h =
      let m = depth_opt_conds world.file depths r.cond in
      let n = depth_body world.file depths r.body in
      let inner = Called (current_of env) args env in
      body-same world depths k a b same inner r.body (larger-second m n (weight world.file depths inner) k (omega (arith, h)))
  called-same env args (Some (OfBody x)) h = refl
  called-same env args (Some (OfConds c)) h = refl
  called-same env args (Some (OfDisj d)) h = refl
  called-same env args (Some (OfPart p)) h = refl
  called-same env args (Some (OfQuery q)) h = refl
  called-same env args (Some (OfStep q i)) h = refl
  called-same env args (Some (OfExpr e)) h = refl

  module _ (told : (site : ℕ) → depth_piece world.file depths (piece_at world.file site) ≤ depth_at world.file depths site) where
    -- a part of which the Depth is told at its site
    leads : (site w : ℕ) → depth_at world.file depths site + w ≤ k → depth_piece world.file depths (piece_at world.file site) + w ≤ k
    leads site w h = let e = told site in omega (arith, e, h)

    bound-same : (env : Environment) (o : Option Bind) → suc (depth_bound world.file depths o) + weight world.file depths env ≤ suc k → bound_rows world a env o ≡ bound_rows world b env o
    bound-same env None h = refl
    bound-same env (Some (Value up site)) h =
        let less = outwards-weight world.file depths up env in
        value-same (outwards up env) (piece_at world.file site) (leads site (weight world.file depths (outwards up env)) (omega (arith, h, less)))
    bound-same env (Some (Capture up step)) h =
        let less = outwards-weight world.file depths up env in
        captured-same (outwards up env) (piece_at world.file step) (leads step (weight world.file depths (outwards up env)) (omega (arith, h, less)))
    bound-same env (Some (Param up i)) h =
        let less = outwards-weight world.file depths up env in
        parameter-same (outwards up env) i (omega (arith, h, less))

    target-same : (o : Option ℕ) → depth_target world.file depths o ≤ k → target_verdict world a o ≡ target_verdict world b o
    target-same None h = refl
    target-same (Some site) h =
        let e = leads site 0 (omega (arith, h)) in
        judged-same (piece_at world.file site) (omega (arith, e))

    target-called-same : (env : Environment) (args : Exprs) (o : Option ℕ) → depth_target world.file depths o + depth_exprs world.file depths args + weight world.file depths env ≤ k
        → target_called world a env args o ≡ target_called world b env args o
    target-called-same env args None h = refl
    target-called-same env args (Some site) h =
        let e = leads site (depth_exprs world.file depths args + weight world.file depths env) (omega (arith, h)) in
        called-same env args (piece_at world.file site) (omega (arith, e))

    pub unfolded-same : Agree world depths (suc k) (unfolded_once world a) (unfolded_once world b)
    unfolded-same = record {
      rows = λ env site h. bound-same env (bind_of world.file site) h;
      verdict = λ site h. target-same (target_of world.file site) (omega (arith, h));
      called = λ env site args h. target-called-same env args (target_of world.file site) (omega (arith, h));
    }
