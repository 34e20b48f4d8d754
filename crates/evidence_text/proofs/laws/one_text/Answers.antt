use Rattle.evidence_text.proofs.Texts.{never_both, no_front, one_fault, one_list}
use Rattle.evidence_text.proofs.laws.one_text.Goals as goal

pub returns : goal.returns
returns c = record { no_front = no_front; one_list = one_list; one_fault = one_fault; never_both = never_both }
