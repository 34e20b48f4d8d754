use Rattle.evidence_text.proofs.Texts.{only_lines, only_refusal}
use Rattle.evidence_text.proofs.read.read_evidence.Goals as goal

pub returns-clause-only_lines : goal.returns-clause-only_lines
returns-clause-only_lines c = only_lines c.args.bytes.now c.read_text.result c.read_text.ensures.lines c.read_text.ensures.refusal

pub returns-clause-only_refusal : goal.returns-clause-only_refusal
returns-clause-only_refusal c = only_refusal c.args.bytes.now c.read_text.result c.read_text.ensures.lines c.read_text.ensures.refusal
