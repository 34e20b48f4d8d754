use Rattle.std.proofs.Common.{ℕ, List, ap, subst}
use Rattle.evidence_text.specs.Text.{IsEvidence, IsFault, IsRefused}
use Rattle.evidence_text.specs.declared.refusal.EvidenceRefusal.{EvidenceRefusal}
use Rattle.guard_ends.specs.Order.{Ends}
use Rattle.guard_ends.specs.declared.ends.Refusal.TheVariants.{EvidenceSyntax}
use Rattle.guard_run.proofs.check.lines_of.Goals as goal

pub returns-in-Ok : goal.returns-in-Ok
returns-in-Ok c = record {
  within = c.requires;
  read = subst (λ (b : List ℕ). IsEvidence b c.in-Ok.evidence.version c.in-Ok.evidence.lines) c.deref.ensures.value c.in-Ok.ensures.lines;
}

pub returns-in-Err-Syntax : goal.returns-in-Err-Syntax
returns-in-Err-Syntax c =
    let number = c.in-Err-Syntax.number in
    let bytes = c.args.bytes.items in
    let why : IsFault c.deref.result.now number =
    subst (λ (r : EvidenceRefusal). IsRefused c.deref.result.now r) c.in-Err-Syntax.field-0-is c.in-Err-Syntax.ensures.refusal in
    let fault : IsFault bytes number = subst (λ (b : List ℕ). IsFault b number) c.deref.ensures.value why in
    (EvidenceSyntax number, (c.requires, fault), ap Ends (c.not_evidence.ensures bytes))
