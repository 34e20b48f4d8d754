use Rattle.std.proofs.Common.{List, ℕ, true, subst, sym}
use Rattle.evidence_lines.specs.Versioned.{Versioned}
use Rattle.evidence_lines.specs.declared.version.Version.TheVariants.{Two}
use Rattle.guard_words.specs.Request.{validate}
use Rattle.guard_ends.specs.Inputs.{IsProof, IsRuleFile, IsTemplate, format_of}
use Rattle.guard_ends.specs.Order.{Ending, Ends, IsEvidenceFor, IsJudgedBy}
use Rattle.guard_ends.specs.Report.{report}
use Rattle.guard_ends.specs.declared.format.Format.{Format}
use Rattle.guard_laws.proofs.OneEnd.{FileNames, work-asked}
use Rattle.guard_laws.proofs.OneStage.{ending-is}
use Rattle.guard_laws.proofs.WithEvidence.{AreReadFrom, data-again, went-on, written}
use Rattle.guard_laws.proofs.laws.written_is_accepted.Goals as goal

pub returns : goal.returns
returns c = λ words check_words told told_later r t q s u v p e other asked check_asked same same' known known' known'' later later' later'' proof_told end reported out within end'.
    let names : FileNames = record { rules = r; template = t; params = q } in
    let went = went-on told names (λ inputs. Ending (IsJudgedBy report inputs)) e reported (work-asked words told (validate r t q true) asked (Ends e) end) in
    let inputs = went.0 in
    let read : AreReadFrom told names inputs = went.1 in
    let evidence : IsEvidenceFor inputs.rules inputs.tree c.args.evidence.now =
    subst (IsEvidenceFor inputs.rules inputs.tree) out (written report inputs e (ending-is (IsJudgedBy report inputs) e went.2)) in
    let rules : IsRuleFile c.args.rules.now inputs.rules = subst (λ (b : List ℕ). IsRuleFile b inputs.rules) (read.source c.args.rules.now known) read.rules in
    let template : IsTemplate (format_of u) c.args.template.now read.tree =
    subst (λ (f : Format). IsTemplate f c.args.template.now read.tree) (sym same) (subst (λ (b : List ℕ). IsTemplate (format_of t) b read.tree) (read.template c.args.template.now known') read.read) in
    let again = data-again told q v c.args.params.now known'' same' read.tree inputs.tree inputs.texts.params read.params in
    let lines : Versioned = record { version = Two; lines = evidence.0 } in
    let proof : IsProof c.args.evidence.now lines = record { within = within; read = evidence.1 } in
    c.following_is_accepted.ensures.accepted check_words told_later s u v p inputs.rules read.tree inputs.tree again.0 lines other check_asked later later' later'' proof_told rules template again.1
    read.patterns proof evidence.2 end'
