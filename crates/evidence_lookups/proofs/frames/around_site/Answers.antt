use Rattle.std.proofs.Common.{◌∙◌, sym}
use Rattle.std.specs.Prelude.{option_and_then}
use Rattle.evidence_rules.specs.CitedLines.{args_at}
use Rattle.evidence_lookups.specs.code.Grounds.{file_in, lines_of}
use Rattle.evidence_lookups.proofs.FramesAround.{around-call, around-other}
use Rattle.evidence_lookups.proofs.frames.around_site.Goals as goal

pub returns-then-is_call : goal.returns-then-is_call
returns-then-is_call c =
    c.file_frame.ensures (file_in c.args.context.now)
    ∙ around-call (file_in c.args.context.now) (lines_of c.args.context.now) c.args.frame c.args.place.frame (option_and_then (args_at (file_in c.args.context.now)) c.args.place.site) (sym c.is_call.ensures ∙ c.if-is_call.true)

pub returns : goal.returns
returns c =
    around-other (file_in c.args.context.now) (lines_of c.args.context.now) c.args.frame c.args.place.frame (option_and_then (args_at (file_in c.args.context.now)) c.args.place.site) (sym c.is_call.ensures ∙ c.if-is_call.false)
