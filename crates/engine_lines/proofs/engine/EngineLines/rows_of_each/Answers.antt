use Rattle.std.proofs.Common.{◌∙◌, ap, [], map, get_or}
use Rattle.guard_builtins.specs.code.Seen.{see_rows}
use Rattle.engine_states.proofs.RowsListed.{rows-all, rows-at, rows-next}
use Rattle.engine_lines.proofs.engine.EngineLines.rows_of_each.Goals as goal

pub loop-line-init : goal.loop-line-init
loop-line-init c given say = ap (map see_rows) c.new-all.ensures.items

pub rows_said-requires : goal.rows_said-requires
rows_said-requires c =
    let it = rows-at c.args.self.now.evidence.lines c.args.lines.now c.requires.0 c.requires.1 c.loop-line.line-index 0 c.loop-line-test.true in
    (it.0, it.1, it.2, get_or c.requires.0 c.loop-line.line-index [], it.3)

pub loop-line-preserved : goal.loop-line-preserved
loop-line-preserved c given say =
    let it = rows-at c.args.self.now.evidence.lines c.args.lines.now given say c.loop-line.line-index 0 c.loop-line-test.true in
    rows-next c.args.self.now.evidence.lines c.args.lines.now given say c.loop-line.line-index c.loop-line-test.true c.loop-line.all.items c.push.new.self.items c.in_ok-to_vec.field-0
    (c.loop-line.invariant given say) c.in_ok-push.ensures.items
    (c.in_ok-to_vec.ensures ∙ c.rows_said.ensures it.0 it.1 it.2 (get_or given c.loop-line.line-index []) it.3)

pub returns : goal.returns
returns c given say =
    rows-all c.args.self.now.evidence.lines c.args.lines.now given say c.loop-line.line-index c.loop-line-test.false c.loop-line.all.items (c.loop-line.invariant given say)
