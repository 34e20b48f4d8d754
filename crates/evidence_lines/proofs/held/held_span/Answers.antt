use Rattle.std.proofs.Common.{◌≡◌, Some, ap, slice_get, sym, ◌∙◌}
use Rattle.std.proofs.lemmas.Option.{IfSome_then, slice_get-get_or}
use Rattle.evidence_lines.proofs.HeldLines.{run-held}
use Rattle.evidence_lines.proofs.held.held_span.Goals as goal

pub returns-in-Some : goal.returns-in-Some
returns-in-Some c =
    let within = c.in-Some.ensures.lookup.3.0 in
    let stands : slice_get c.args.spans.now c.args.at ≡ Some c.in-Some.span.now =
    slice_get-get_or c.args.spans.now c.args.at c.in-Some.span.now within ∙ sym (ap Some c.in-Some.ensures.lookup.1) in
    IfSome_then c.within.result c.within.ensures (λ span it. run-held c.args.many c.args.spans.now c.args.at c.in-Some.span.now span within stands it.0 it.1)
