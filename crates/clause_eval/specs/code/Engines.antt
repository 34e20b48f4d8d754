-- Engines as the code has them.
use Rattle.engine_lines.specs.code.Lines.{see_lines}
use Rattle.engine_states.specs.code.States.{State}
use Rattle.clause_eval.specs.declared.engine.Engine.{Engine}

abbrev pub see_engine : Engine → State
see_engine e = see_lines e.lines
