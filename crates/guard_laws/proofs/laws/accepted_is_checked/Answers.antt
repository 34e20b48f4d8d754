use Rattle.guard_words.specs.Request.{check}
use Rattle.guard_ends.specs.Order.{Ends, Inputs, OfEvidence}
use Rattle.guard_ends.specs.End.{IsYamlAmong}
use Rattle.guard_laws.proofs.OneCheck.{EvidenceLaws, proof-goes}
use Rattle.guard_laws.proofs.OneEnd.{AreFilesTold, AreOneEach, FileNames, FileTexts, files-go, work-asked}
use Rattle.guard_laws.proofs.OneTemplate.{OneTemplate}
use Rattle.guard_laws.proofs.laws.accepted_is_checked.Goals as goal

pub returns : goal.returns
returns c =
    let template : OneTemplate c.args.template.now = record { tree = c.only_template.ensures.tree; refusal = c.only_template.ensures.refusal; apart = c.only_template.ensures.apart } in
    let params : OneTemplate c.args.params.now =
    record { tree = c.only_template-2.ensures.tree; refusal = c.only_template-2.ensures.refusal; apart = c.only_template-2.ensures.apart } in
    let texts : FileTexts = record { rules = c.args.rules.now; template = c.args.template.now; params = c.args.params.now } in
    let laws : AreOneEach texts = record { template = template; params = params } in
    let bytes = c.args.evidence.now in
    let evidence_laws : EvidenceLaws bytes =
    record { lines = c.one_text.ensures.one_list bytes; fault = c.one_text.ensures.one_fault bytes; apart = c.one_text.ensures.never_both bytes } in
    λ words told r t q p file tree data_tree read lines e asked rules_told template_told params_told proof_told whole whole' becomes all whole'' end.
    let names : FileNames = record { rules = r; template = t; params = q } in
    let known : AreFilesTold told names texts = record { rules = rules_told; template = template_told; params = params_told } in
    let inputs : Inputs = record { rules = file; tree = data_tree; texts = record { rules = c.args.rules.now; template = c.args.template.now; params = read } } in
    proof-goes (IsYamlAmong told t q) bytes evidence_laws told p proof_told inputs lines whole'' e
    (files-go c.one_syntax.ensures told names texts known laws (OfEvidence told p)
    file tree data_tree read whole whole' becomes all e (work-asked words told (check r t q p) asked (Ends e) end))
