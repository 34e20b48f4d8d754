use Rattle.std.proofs.lemmas.Grind.{common_steps}
use Rattle.std.proofs.Common.{ap, option_map, arith}
use Rattle.std.proofs.lemmas.List.{take_rest}
use Rattle.evidence_text.specs.code.Reading.{cut, cut_by}
use Rattle.evidence_text.proofs.field.cut.Goals as goal

pub returns-in_err-at-clause-parts : goal.returns-in_err-at-clause-parts
unfolding cut
returns-in_err-at-clause-parts c = rw c.from_residual.ensures (ap (option_map (cut_by c.args.bytes.now)) c.in_err-at.ensures.first)

pub returns-clause-parts : goal.returns-clause-parts
unfolding cut
returns-clause-parts c = rw take_rest (ap (option_map (cut_by c.args.bytes.now)) c.in_ok-at.ensures.first)

pub slice_bounds-result-end : goal.slice_bounds-result-end
slice_bounds-result-end c = grind (arith, common_steps)
