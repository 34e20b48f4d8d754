use Rattle.std.proofs.Common.{◌∙◌, sym, subst, ℕ, Option}
use Rattle.engine_states.specs.code.Answers.{HasRows, SaysRows}
use Rattle.engine_lines.proofs.engine.EngineLines.rows_of.Goals as goal

pub returns-in-Some : goal.returns-in-Some
returns-in-Some c rows has =
    let lines = c.args.self.now.evidence.lines in
    let it : SaysRows lines c.in-Some.line rows = subst (λ (o : Option ℕ). HasRows lines o rows) c.in-Some.is has in
    c.rows_said.ensures it.0 it.1 it.2 rows it.3

pub returns-in-None : goal.returns-in-None
returns-in-None c rows has = c.new.ensures ∙ sym (subst (λ (o : Option ℕ). HasRows c.args.self.now.evidence.lines o rows) c.in-None.is has)
