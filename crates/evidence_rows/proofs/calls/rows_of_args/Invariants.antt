use Rattle.std.proofs.Common.{map, take}
use Rattle.guard_builtins.specs.code.Seen.{see_rows}
use Rattle.guard_syntax.specs.code.Seen.{expr_list, see_expr}
use Rattle.evidence_rules.specs.CitedLines.{GiveArgs}
use Rattle.evidence_lookups.specs.code.Grounds.{file_in, lines_of}
use Rattle.evidence_rows.proofs.calls.rows_of_args.Given as goal

abbrev pub invariant-loop-at : goal.invariant-loop-at
invariant-loop-at l = GiveArgs (file_in l.context) (lines_of l.context) l.fn.line.frame (expr_list (map see_expr (take l.at l.args))) (take l.at l.fn.line.cites.now) (map see_rows l.all.items)
