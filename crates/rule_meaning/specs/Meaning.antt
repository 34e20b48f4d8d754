-- The meaning of queries and parts: rows and verdicts over locations, by recursion over the syntax of the file, in an environment. What names mean is an argument: each name
-- stands for another part of the file, whose meaning is the same recursion again (see SpotTurns). What functions answer is told by the world.
use Rattle.std.specs.Prelude.{ℕ, Bool, false, ◌&&◌, List, [], ◌∷◌, Option, Some, None, map, filter as kept_of, if◌then◌else◌}
use Rattle.std.specs.List.{flat_map}
use Rattle.guard_syntax.specs.Syntax.{Body, Conds, OptConds, Disjs, Disj, Parts, Part, Query, Steps, Step, Expr, OptExpr, Exprs, body, conds, no_conds, with_conds, no_disjs, more_disjs, disj, no_parts, more_parts, block, guarded, kinds, test, refer, call, query, no_steps, more_steps, var, splice, filter, keys, literal, function, asked, found, no_expr, with_expr, no_exprs, more_exprs}
use Rattle.guard_syntax.specs.declared.function.Function.{Function}
use Rattle.guard_syntax.specs.declared.row.Verdict.{Verdict}
use Rattle.guard_syntax.specs.declared.row.Verdict.TheVariants.{Pass}
use Rattle.rule_names.specs.Uses.{function_named}
use Rattle.rule_meaning.specs.Places.{are_no_steps, is_key}
use Rattle.rule_meaning.specs.SetTests.{is_set, is_empty_test}
use Rattle.rule_meaning.specs.Environments.{Environment, Inner, current_of}
use Rattle.rule_meaning.specs.StepMeaning.{candidates_of, found_step, on_found, passes, rows_of_type}
use Rattle.rule_meaning.specs.VerdictMeaning.{test_verdict, set_verdict, block_row}
use Rattle.rule_meaning.specs.Locations.{Location, LocatedRow, Found, World, answered_row, is_found, literal_location}
use Rattle.rule_meaning.specs.Verdicts.{is_pass, conjunction, disjunction, block_verdict, guarded_by, referred, exchanged}

-- what names mean, by the sites at which they are used
pub record Names : Type 0 where
  -- the rows of a variable that is used in an environment
  pub rows : Environment → ℕ → List LocatedRow
  -- the verdict of a rule that is referred to
  pub verdict : ℕ → Verdict
  -- the verdict of the body of a rule that is called in an environment, with arguments
  pub called : Environment → ℕ → Exprs → Verdict

-- what the call of a function at a site has for the rows of its arguments; a name that is no function's has nothing, as no call has in a file that is well named
abbrev pub answered : World → ℕ → Option Function → List (List LocatedRow) → List LocatedRow
answered world site None args = []
answered world site (Some f) args = map (answered_row site) (world.answers f site args)

abbrev mutual
  -- the rows of a query, which begins at the current value
  pub rows_of : World → Names → Environment → Query → List LocatedRow
  rows_of world names env (query site steps) = rows_from world names env false steps (Found (current_of env) ∷ [])

  -- of steps in turn, each on every row in order
  pub rows_from : World → Names → Environment → (after_key : Bool) → Steps → List LocatedRow → List LocatedRow
  rows_from world names env after_key no_steps rows = rows
  rows_from world names env after_key (more_steps step steps) rows =
      rows_from world names env (is_key step) steps (flat_map (on_found (rows_at world names env (are_no_steps steps) after_key step)) rows)

  -- of a step at a value: a filter keeps the candidates for which its conditions are PASS, each the current value of a scope of its own; the right side of a
  -- key filter is taken where the query stands
  pub rows_at : World → Names → Environment → (last after_key : Bool) → Step → Location → List LocatedRow
  rows_at world names env last after_key (var site name) v = found_step world last (names.rows env site) (var site name) v
  rows_at world names env last after_key (splice site name) v = found_step world last (names.rows env site) (splice site name) v
  rows_at world names env last after_key (filter site capture conditions) v =
      map Found (kept_of (λ w. is_pass (conds_verdict world names (Inner w env) conditions)) (candidates_of world after_key v))
  rows_at world names env last after_key (keys site capture o negated right) v =
      found_step world last (rows_of_expr world names env right) (keys site capture o negated right) v
  rows_at world names env last after_key step v = found_step world last [] step v

  -- of an expression: a literal is one value, a call of a function has what the function answers, `some` keeps what was found
  pub rows_of_expr : World → Names → Environment → Expr → List LocatedRow
  rows_of_expr world names env (literal site tree) = Found (literal_location site) ∷ []
  rows_of_expr world names env (function site name args) = answered world site (function_named name) (rows_of_args world names env args)
  rows_of_expr world names env (asked q) = rows_of world names env q
  rows_of_expr world names env (found site q) = kept_of is_found (rows_of world names env q)

  -- of the arguments of a call, each by itself
  pub rows_of_args : World → Names → Environment → Exprs → List (List LocatedRow)
  rows_of_args world names env no_exprs = []
  rows_of_args world names env (more_exprs e es) = rows_of_expr world names env e ∷ rows_of_args world names env es

  -- of the right side of a test; a unary test has none
  pub rows_of_side : World → Names → Environment → OptExpr → List LocatedRow
  rows_of_side world names env no_expr = []
  rows_of_side world names env (with_expr e) = rows_of_expr world names env e

  -- conditions and a body: the conjunction of their disjunctions
  pub conds_verdict : World → Names → Environment → Conds → Verdict
  conds_verdict world names env (conds site ds) = conjunction (disj_verdicts world names env ds)

  pub body_verdict : World → Names → Environment → Body → Verdict
  body_verdict world names env (body site lets ds) = conjunction (disj_verdicts world names env ds)

  pub disj_verdicts : World → Names → Environment → Disjs → List Verdict
  disj_verdicts world names env no_disjs = []
  disj_verdicts world names env (more_disjs d ds) = disj_verdict world names env d ∷ disj_verdicts world names env ds

  -- the disjunction of its parts
  pub disj_verdict : World → Names → Environment → Disj → Verdict
  disj_verdict world names env (disj site ps) = disjunction (part_verdicts world names env ps)

  pub part_verdicts : World → Names → Environment → Parts → List Verdict
  part_verdicts world names env no_parts = []
  part_verdicts world names env (more_parts p ps) = part_verdict world names env p ∷ part_verdicts world names env ps

  -- a part, by the table of verdicts: a body is a scope in the one in which the part stands; `empty` on a set looks at the rows together, any other test at each row
  pub part_verdict : World → Names → Environment → Part → Verdict
  part_verdict world names env (block site any head inner) =
      block_verdict any (map (block_row (λ v. body_verdict world names (Inner v env) inner)) (rows_of world names env head))
  part_verdict world names env (guarded site conditions inner) =
      guarded_by (conds_verdict world names env conditions) (body_verdict world names (Inner (current_of env) env) inner)
  part_verdict world names env (kinds site name conditions inner) =
      guarded_by (opt_conds_verdict world names env conditions)
      (conjunction (map (block_row (λ v. body_verdict world names (Inner v env) inner)) (rows_of_type world name (current_of env))))
  part_verdict world names env (test site any left o negated right message) =
      if is_empty_test o && is_set left
      then set_verdict negated (rows_of world names env left)
      else test_verdict any (passes world o negated (rows_of_side world names env right)) (rows_of world names env left)
  part_verdict world names env (refer site negated name message) = referred negated (names.verdict site)
  part_verdict world names env (call site negated name args message) = exchanged negated (names.called env site args)

  -- where there are no conditions, they count as PASS
  pub opt_conds_verdict : World → Names → Environment → OptConds → Verdict
  opt_conds_verdict world names env no_conds = Pass
  opt_conds_verdict world names env (with_conds c) = conds_verdict world names env c
