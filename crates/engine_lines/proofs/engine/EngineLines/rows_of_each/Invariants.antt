use Rattle.std.proofs.Common.{◌≡◌, List, map, take}
use Rattle.guard_builtins.specs.code.Seen.{see_rows}
use Rattle.guard_syntax.specs.declared.row.Row.{Row}
use Rattle.engine_states.specs.code.Answers.{SayRowsOf}
use Rattle.engine_lines.proofs.engine.EngineLines.rows_of_each.Given as goal

abbrev pub invariant-loop-line : goal.invariant-loop-line
invariant-loop-line l = (given : List (List Row)) → SayRowsOf l.self.evidence.lines l.lines given → map see_rows l.all.items ≡ take l.line-index given
