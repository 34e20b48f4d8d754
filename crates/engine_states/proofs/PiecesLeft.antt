-- What is left of the pieces and parts that stand at a site once some kinds are out: nothing, where one of these must stand there.
use Rattle.std.proofs.Common.{◌≡◌, ℕ, refl, Some, Bor}
use Rattle.std.proofs.lemmas.Option.{none-some}
use Rattle.guard_syntax.specs.Syntax.{Exprs, Query}
use Rattle.guard_syntax.specs.declared.syntax.Expr as code
use Rattle.guard_syntax.specs.declared.syntax.Part.{Part}
use Rattle.guard_syntax.specs.declared.syntax.Query as code_query
use Rattle.rule_names.specs.Pieces.{OfStep}
use Rattle.rule_names.specs.code.Seen.{see_piece}
use Rattle.rule_names.specs.declared.piece.Piece as shape
use Rattle.rule_names.specs.declared.piece.Piece.TheVariants as seen
use Rattle.evidence_rules.specs.CitedLines.{args_of_piece}
use Rattle.scope_frames.specs.code.Scoping.{IsValue}

-- the value of a let
pub value-only : (p : shape.Piece) → ((e : Bor code.Expr) → p ≡ seen.Expr e → ⊥) → ((q : Bor code_query.Query) → p ≡ seen.Query q → ⊥) → IsValue (Some (see_piece p)) → ⊥
value-only seen.File no_expr no_query v = v
value-only (seen.Let l) no_expr no_query v = v
value-only (seen.Rule r) no_expr no_query v = v
value-only (seen.Body b) no_expr no_query v = v
value-only (seen.Conds c) no_expr no_query v = v
value-only (seen.Disj d) no_expr no_query v = v
value-only (seen.Part x) no_expr no_query v = v
value-only (seen.Query q) no_expr no_query v = no_query q refl
value-only (seen.Step q i) no_expr no_query v = v
value-only (seen.Expr e) no_expr no_query v = no_expr e refl

-- a step
pub step-only : (p : shape.Piece) (of : Query) (n : ℕ) → ((q : Bor code_query.Query) (i : ℕ) → p ≡ seen.Step q i → ⊥) → see_piece p ≡ OfStep of n → ⊥
step-only seen.File of n no_step e = absurd cc
step-only (seen.Let l) of n no_step e = absurd cc
step-only (seen.Rule r) of n no_step e = absurd cc
step-only (seen.Body b) of n no_step e = absurd cc
step-only (seen.Conds c) of n no_step e = absurd cc
step-only (seen.Disj d) of n no_step e = absurd cc
step-only (seen.Part x) of n no_step e = absurd cc
step-only (seen.Query q) of n no_step e = absurd cc
step-only (seen.Step q i) of n no_step e = no_step q i refl
step-only (seen.Expr x) of n no_step e = absurd cc

-- a part with arguments
pub part-only : (p : shape.Piece) (es : Exprs) → ((x : Bor Part) → p ≡ seen.Part x → ⊥) → args_of_piece (see_piece p) ≡ Some es → ⊥
part-only seen.File es no_part e = none-some es e
part-only (seen.Let l) es no_part e = none-some es e
part-only (seen.Rule r) es no_part e = none-some es e
part-only (seen.Body b) es no_part e = none-some es e
part-only (seen.Conds c) es no_part e = none-some es e
part-only (seen.Disj d) es no_part e = none-some es e
part-only (seen.Part x) es no_part e = no_part x refl
part-only (seen.Query q) es no_part e = none-some es e
part-only (seen.Step q i) es no_part e = none-some es e
part-only (seen.Expr x) es no_part e = none-some es e
