use Rattle.std.proofs.Common.{sym, ◌∙◌}
use Rattle.yaml_scalars.proofs.LineParts.{mark_at}
use Rattle.yaml_scalars.proofs.lines.is_mark.Goals as goal

pub returns-then-begins_mark : goal.returns-then-begins_mark
returns-then-begins_mark c = c.is_end.ensures ∙ mark_at c.args.bytes.now c.args.start (sym c.begins_mark.ensures.is ∙ c.if-begins_mark.true)
