use Rattle.std.proofs.Common.{◌≤◌, ℕ, suc}
use Rattle.guard_syntax.specs.code.Seen.{see_query}
use Rattle.engine_states.specs.code.Answers.{LacksStep}
use Rattle.engine_lines.specs.code.Lines.{see_lines}
use Rattle.clause_eval.proofs.rows.begun.Given as goal

abbrev pub invariant-loop-index : goal.invariant-loop-index
invariant-loop-index l = record {
  most : l.index ≤ suc l.last;
  new : (i : ℕ) → l.index ≤ i → i ≤ l.last → LacksStep (see_lines l.engine) l.frame (see_query l.query) i;
}

abbrev pub decreases-loop-index : goal.decreases-loop-index
decreases-loop-index l = l.index
