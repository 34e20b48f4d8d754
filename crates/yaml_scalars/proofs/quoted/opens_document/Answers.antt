use Rattle.std.proofs.Common.{sym, ◌∙◌}
use Rattle.yaml_scalars.proofs.QuotedLines.{mark_followed}
use Rattle.yaml_scalars.proofs.quoted.opens_document.Goals as goal

pub returns-then-is_mark : goal.returns-then-is_mark
returns-then-is_mark c = mark_followed c.args.bytes.now c.args.line (sym c.is_mark.ensures ∙ c.if-is_mark.true)
