-- How deep a part of a rule file is.
use Rattle.std.specs.Prelude.{ℕ, List}
use Rattle.guard_syntax.specs.Syntax.{File}
use Rattle.rule_names.specs.Depths.{depth_body, depth_conds, depth_disj, depth_disjs, depth_expr, depth_let, depth_part, depth_query, depth_rule, first_of_query}
use Rattle.rule_names.specs.Pieces.{Piece, OfFile, OfLet, OfRule, OfBody, OfConds, OfDisj, OfPart, OfQuery, OfStep, OfExpr}

-- where Depth is known by sites; a step has the Depth of its query up to it
module _ (f : File) (depths : List ℕ) where
  abbrev pub depth_in : Piece → ℕ
  depth_in OfFile = depth_disjs f depths f.loose
  depth_in (OfLet l) = depth_let f depths l
  depth_in (OfRule r) = depth_rule f depths r
  depth_in (OfBody b) = depth_body f depths b
  depth_in (OfConds c) = depth_conds f depths c
  depth_in (OfDisj d) = depth_disj f depths d
  depth_in (OfPart p) = depth_part f depths p
  depth_in (OfQuery q) = depth_query f depths q
  depth_in (OfStep q i) = depth_query f depths (first_of_query i q)
  depth_in (OfExpr e) = depth_expr f depths e
