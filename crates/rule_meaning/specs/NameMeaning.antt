-- What names mean: a variable the rows of what gives it, in the scope that has it; a reference and a call the verdict of their rule. Each unfolding leads through
-- one name; a part of a file that is not too deep leads through fewer than the unfoldings that are taken, and means the same by any further ones.
use Rattle.std.specs.Prelude.{ℕ, zero, suc, List, [], Option, Some, None}
use Rattle.std.specs.List.{flat_map}
use Rattle.guard_syntax.specs.Syntax.{Rule, Disjs, Expr, Exprs}
use Rattle.guard_syntax.specs.declared.row.Verdict.{Verdict}
use Rattle.guard_syntax.specs.declared.row.Verdict.TheVariants.{Skip}
use Rattle.rule_names.specs.declared.bind.Bind.{Bind}
use Rattle.rule_names.specs.declared.bind.Bind.TheVariants.{Value, Capture, Param}
use Rattle.rule_names.specs.Depths.{first_of_query, depth_limit}
use Rattle.rule_names.specs.Resolution.{bind_of, target_of}
use Rattle.rule_names.specs.Pieces.{Piece, OfRule, OfQuery, OfStep, OfExpr, piece_at}
use Rattle.rule_names.specs.Uses.{expr_in}
use Rattle.rule_meaning.specs.Environments.{Environment, Top, Inner, Called, current_of, outwards}
use Rattle.rule_meaning.specs.Meaning.{Names, rows_of, rows_of_expr, body_verdict, opt_conds_verdict, disj_verdicts}
use Rattle.rule_meaning.specs.StepMeaning.{captured_row}
use Rattle.rule_meaning.specs.Locations.{LocatedRow, World, root_location}
use Rattle.rule_meaning.specs.Verdicts.{conjunction, guarded_by}

-- nothing is known of names
abbrev pub no_names : Names
no_names = record { rows = λ env site. []; verdict = λ site. Skip; called = λ env site args. Skip }

-- what the names in a file mean, where it is known what the names in these meanings do
module _ (world : World) (names : Names) where
  -- the rows of an expression
  abbrev pub value_rows : Environment → Option Piece → List LocatedRow
  value_rows env (Some (OfExpr e)) = rows_of_expr world names env e
  value_rows env (Some (OfQuery q)) = rows_of world names env q
  value_rows env _ = []

  -- a capture: the keys of what its query has up to its step
  abbrev pub captured_rows : Environment → Option Piece → List LocatedRow
  captured_rows env (Some (OfStep q i)) = flat_map (captured_row world) (rows_of world names env (first_of_query i q))
  captured_rows env _ = []

  -- a parameter: its argument, where the call stands
  abbrev pub argument_rows : Environment → Option Expr → List LocatedRow
  argument_rows env None = []
  argument_rows env (Some e) = rows_of_expr world names env e

  abbrev pub parameter_rows : Environment → ℕ → List LocatedRow
  parameter_rows Top i = []
  parameter_rows (Inner current outer) i = []
  parameter_rows (Called current args caller) i = argument_rows caller (expr_in args i)

  abbrev pub bound_rows : Environment → Option Bind → List LocatedRow
  bound_rows env None = []
  bound_rows env (Some (Value up site)) = value_rows (outwards up env) (piece_at world.file site)
  bound_rows env (Some (Capture up step)) = captured_rows (outwards up env) (piece_at world.file step)
  bound_rows env (Some (Param up i)) = parameter_rows (outwards up env) i

  -- a rule: its conditions in the file's scope, and its body at the root
  abbrev pub rule_by : Rule → Verdict
  rule_by r = guarded_by (opt_conds_verdict world names Top r.cond) (body_verdict world names (Inner root_location Top) r.body)

  abbrev pub piece_verdict : Option Piece → Verdict
  piece_verdict (Some (OfRule r)) = rule_by r
  piece_verdict _ = Skip

  abbrev pub target_verdict : Option ℕ → Verdict
  target_verdict None = Skip
  target_verdict (Some site) = piece_verdict (piece_at world.file site)

  -- a called rule: its body, with the current value where the call stands
  abbrev pub piece_called : Environment → Exprs → Option Piece → Verdict
  piece_called env args (Some (OfRule r)) = body_verdict world names (Called (current_of env) args env) r.body
  piece_called env args _ = Skip

  abbrev pub target_called : Environment → Exprs → Option ℕ → Verdict
  target_called env args None = Skip
  target_called env args (Some site) = piece_called env args (piece_at world.file site)

  -- one unfolding
  abbrev pub unfold_rows : Environment → ℕ → List LocatedRow
  unfold_rows env site = bound_rows env (bind_of world.file site)

  abbrev pub unfold_verdict : ℕ → Verdict
  unfold_verdict site = target_verdict (target_of world.file site)

  abbrev pub unfold_called : Environment → ℕ → Exprs → Verdict
  unfold_called env site args = target_called env args (target_of world.file site)

  abbrev pub unfolded_once : Names
  unfolded_once = record { rows = unfold_rows; verdict = unfold_verdict; called = unfold_called }

-- what names mean by so many unfoldings
abbrev pub unfolded : World → ℕ → Names
unfolded world zero = no_names
unfolded world (suc n) = unfolded_once world (unfolded world n)

-- the verdict of a rule, and of the parts outside rules, which are judged in the file's scope
abbrev pub rule_verdict : World → Rule → Verdict
rule_verdict world r = rule_by world (unfolded world depth_limit) r

abbrev pub loose_verdict : World → Disjs → Verdict
loose_verdict world loose = conjunction (disj_verdicts world (unfolded world depth_limit) Top loose)
