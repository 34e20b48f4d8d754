use Rattle.std.proofs.Common.{sym, true≢false}
use Rattle.guard_syntax.specs.code.Seen.{see_query}
use Rattle.evidence_lookups.specs.code.Grounds.{known_of, lines_of}
use Rattle.evidence_lookups.proofs.ExprsFollow.{found-decided, found-other, function-other, literal-decided, literal-other, query-other}
use Rattle.evidence_lookups.proofs.ExprsKnown.{found-known, literal-known}
use Rattle.evidence_lookups.proofs.expression_lines.expr_follows.Goals as goal

pub returns-in-Literal-kind : goal.returns-in-Literal-kind
returns-in-Literal-kind c = record {
  follows = literal-decided (known_of c.args.context.now) (lines_of c.args.context.now) c.args.line.frame c.args.line.site c.args.line.cites.now c.args.rows.now c.args.line.kind c.args.expr.now c.in-Literal.site c.in-Literal.tree
      c.is_literal.result c.in-Literal-kind.is c.in-Literal.is c.is_literal.ensures;
  known = literal-known (known_of c.args.context.now) c.args.line.site c.in-Literal.site c.args.expr.now c.in-Literal.tree c.requires.placed c.in-Literal.is c.len-nodes.ensures.tree c.args.line.cites.now c.args.rows.now
      c.is_literal.result c.is_literal.ensures;
}

pub returns-in_default : goal.returns-in_default
returns-in_default c = record {
  follows = literal-other (known_of c.args.context.now) (lines_of c.args.context.now) c.args.line.frame c.args.line.site c.args.line.cites.now c.args.rows.now c.args.line.kind c.args.expr.now c.in-Literal.site c.in-Literal.tree
      c.in_default.not-Literal c.in-Literal.is;
  known = λ e. absurd (true≢false (sym e));
}

pub returns-in-Found-kind : goal.returns-in-Found-kind
returns-in-Found-kind c = record {
  follows = found-decided (known_of c.args.context.now) (lines_of c.args.context.now) c.args.line.frame c.args.line.site c.args.line.cites.now c.args.rows.now c.args.line.kind c.args.expr.now c.in-Found.site c.in-Found.query
      c.is_found_by.result c.in-Found-kind.is c.in-Found.is c.is_found_by.ensures;
  known = found-known (known_of c.args.context.now) (lines_of c.args.context.now) c.args.context.now.sound c.args.line.frame (see_query c.in-Found.query) c.args.line.cites.now c.args.rows.now c.is_found_by.result
      c.is_found_by.ensures;
}

pub returns-in_default-kind : goal.returns-in_default-kind
returns-in_default-kind c = record {
  follows = found-other (known_of c.args.context.now) (lines_of c.args.context.now) c.args.line.frame c.args.line.site c.args.line.cites.now c.args.rows.now c.args.line.kind c.args.expr.now c.in-Found.site c.in-Found.query
      c.in_default-kind.not-Found c.in-Found.is;
  known = λ e. absurd (true≢false (sym e));
}

pub returns-in-Function : goal.returns-in-Function
returns-in-Function c = record {
  follows = function-other (known_of c.args.context.now) (lines_of c.args.context.now) c.args.line.frame c.args.line.site c.args.line.cites.now c.args.rows.now c.args.line.kind c.args.expr.now c.in-Function.site c.in-Function.name
      c.in-Function.args c.requires.other c.in-Function.is;
  known = λ e. absurd (true≢false (sym e));
}

pub returns-in-Query : goal.returns-in-Query
returns-in-Query c = record {
  follows = query-other (known_of c.args.context.now) (lines_of c.args.context.now) c.args.line.frame c.args.line.site c.args.line.cites.now c.args.rows.now c.args.line.kind c.args.expr.now c.in-Query.field-0 c.in-Query.is;
  known = λ e. absurd (true≢false (sym e));
}
