use Rattle.std.proofs.Common.{◌∙◌, sym}
use Rattle.engine_lines.proofs.BesideTables.{beside-lookup}
use Rattle.engine_lines.proofs.engine.EngineLines.found_beside.Goals as goal

pub returns-in-Some : goal.returns-in-Some
returns-in-Some c = c.in-Some.ensures.value ∙ sym (beside-lookup c.args.frame c.args.site c.args.self.now.beside.entries)

pub returns-in-None : goal.returns-in-None
returns-in-None c = c.in-None.ensures.value ∙ sym (beside-lookup c.args.frame c.args.site c.args.self.now.beside.entries)
