use Rattle.std.proofs.Common.{◌+◌, get_or, drop, sym, ap, ◌∙◌}
use Rattle.yaml_scalars.specs.Quoted.{escape}
use Rattle.yaml_scalars.proofs.EscapeDigits.{ahead}
use Rattle.yaml_scalars.proofs.EscapeValues.{meaning_so}
use Rattle.yaml_scalars.proofs.EscapeLines.{escape_line}
use Rattle.yaml_scalars.proofs.escape.escape_at.Goals as goal

pub returns-clause-is : goal.returns-clause-is
returns-clause-is c =
    let more = c.ends_line.ensures.more c.if-ends_line.false in
    meaning_so _ _ c.behind_backslash.result (ap escape more.1 ∙ escape_line (get_or c.args.bytes.now c.args.at 0) (drop (c.args.at + 1) c.args.bytes.now) ∙ ap escape (sym (ahead c.args.bytes.now c.args.at more.0))) c.behind_backslash.ensures.is
