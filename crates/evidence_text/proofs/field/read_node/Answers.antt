use Rattle.std.proofs.Common.{ap, false, option_map, true, ◌∙◌}
use Rattle.evidence_text.specs.code.Reading.{ref_at}
use Rattle.evidence_text.proofs.Values.{with_key, without_key}
use Rattle.evidence_text.proofs.field.read_node.Goals as goal

pub returns-in_err-read_place-in-Some : goal.returns-in_err-read_place-in-Some
returns-in_err-read_place-in-Some c =
    rw c.from_residual.ensures (ap (option_map (ref_at c.args.origin true)) c.in_err-read_place-in-Some.ensures ∙ with_key c.args.origin c.args.bytes.now c.in-Some.node.now c.in-Some.ensures)

pub returns-in_err-read_place-in-None : goal.returns-in_err-read_place-in-None
returns-in_err-read_place-in-None c =
    rw c.from_residual-in_err-read_place-in-None.ensures (ap (option_map (ref_at c.args.origin false)) c.in_err-read_place-in-None.ensures ∙ without_key c.args.origin c.args.bytes.now c.in-None.ensures)

pub returns-in_ok-read_place-in-Some : goal.returns-in_ok-read_place-in-Some
returns-in_ok-read_place-in-Some c =
    ap (option_map (ref_at c.args.origin true)) c.in_ok-read_place-in-Some.ensures ∙ with_key c.args.origin c.args.bytes.now c.in-Some.node.now c.in-Some.ensures

pub returns-in_ok-read_place-in-None : goal.returns-in_ok-read_place-in-None
returns-in_ok-read_place-in-None c =
    ap (option_map (ref_at c.args.origin false)) c.in_ok-read_place-in-None.ensures ∙ without_key c.args.origin c.args.bytes.now c.in-None.ensures
