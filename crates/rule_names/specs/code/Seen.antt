-- Pieces as the code has them.
use Rattle.guard_syntax.specs.code.Seen as sx
use Rattle.rule_names.specs.declared.piece.Piece as shape
use Rattle.rule_names.specs.declared.piece.Piece.TheVariants as code
use Rattle.rule_names.specs.Pieces.{Piece, OfFile, OfLet, OfRule, OfBody, OfConds, OfDisj, OfPart, OfQuery, OfStep, OfExpr}

abbrev pub see_piece : shape.Piece → Piece
see_piece code.File = OfFile
see_piece (code.Let l) = OfLet (sx.see_let l.now)
see_piece (code.Rule r) = OfRule (sx.see_rule r.now)
see_piece (code.Body b) = OfBody (sx.see_body b.now)
see_piece (code.Conds c) = OfConds (sx.see_conds c.now)
see_piece (code.Disj d) = OfDisj (sx.see_disj d.now)
see_piece (code.Part p) = OfPart (sx.see_part p.now)
see_piece (code.Query q) = OfQuery (sx.see_query q.now)
see_piece (code.Step q i) = OfStep (sx.see_query q.now) i
see_piece (code.Expr e) = OfExpr (sx.see_expr e.now)
