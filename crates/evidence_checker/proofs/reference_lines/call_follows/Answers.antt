use Rattle.std.proofs.Common.{get_or, sym, refl}
use denote.Enum.Bare.{sameb}
use Rattle.guard_syntax.specs.contracts.row.Verdict.{the_type}
use Rattle.guard_syntax.specs.code.Seen.{see_body}
use Rattle.guard_syntax.specs.declared.syntax.Body.{out-Body}
use Rattle.evidence_lookups.specs.code.Grounds.{known_of, lines_of}
use Rattle.evidence_lookups.proofs.PartsSeen.{body-site}
use Rattle.evidence_rows.proofs.Decided.{same-verdicts}
use Rattle.evidence_checker.proofs.FramesSaid.{one-cite}
use Rattle.evidence_checker.proofs.UsesSaid.{call-decided, call-never, call-many, call-uncited}
use Rattle.evidence_checker.proofs.reference_lines.call_follows.Goals as goal

pub returns-in-None : goal.returns-in-None
returns-in-None c =
    let known = known_of c.args.context.now in
    let lines = lines_of c.args.context.now in
    λ n name args message. call-never known lines c.args.line.frame (get_or c.args.line.cites.now 0 0) c.args.line.cites.now c.args.verdict
    (one-cite c.args.line.cites.now c.in-len1.len_at_least c.in-len1.len_below) c.args.line.site n c.args.not name message args
    (see_body c.in-Some.body.now) (out-Body c.in-Some.body.now).site (sym c.in-Some.ensures) (sym (body-site c.in-Some.body.now)) c.in-None.ensures

pub returns-in-Some-said_within : goal.returns-in-Some-said_within
returns-in-Some-said_within c =
    let known = known_of c.args.context.now in
    let lines = lines_of c.args.context.now in
    λ n name args message. call-decided known lines c.args.line.frame (get_or c.args.line.cites.now 0 0) c.args.line.cites.now c.args.verdict
    (one-cite c.args.line.cites.now c.in-len1.len_at_least c.in-len1.len_below) c.args.line.site n c.args.not name message args
    (see_body c.in-Some.body.now) (out-Body c.in-Some.body.now).site (sym c.in-Some.ensures) (sym (body-site c.in-Some.body.now))
    c.in-Some-said_within.said c.exchanged.result (sameb the_type c.args.verdict c.exchanged.result) c.in-Some-said_within.ensures c.exchanged.ensures (same-verdicts (sameb the_type c.args.verdict c.exchanged.result) c.args.verdict c.exchanged.result refl)

pub returns-in_default-cites : goal.returns-in_default-cites
returns-in_default-cites c =
    let known = known_of c.args.context.now in
    let lines = lines_of c.args.context.now in
    λ n name args message.
    call-uncited known lines c.args.line.frame c.args.line.site n c.args.not name args message c.args.verdict c.args.line.cites.now c.in_default-cites.len_below

pub returns-in_default-cites-2 : goal.returns-in_default-cites-2
returns-in_default-cites-2 c =
    let known = known_of c.args.context.now in
    let lines = lines_of c.args.context.now in
    λ n name args message.
    call-many known lines c.args.line.frame c.args.line.site n c.args.not name args message c.args.verdict c.args.line.cites.now c.in_default-cites.len_at_least
