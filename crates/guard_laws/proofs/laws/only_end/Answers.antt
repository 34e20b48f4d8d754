use Rattle.std.proofs.Common.{false, true}
use Rattle.doc_values.specs.Tree.{Forest}
use Rattle.guard_syntax.specs.Syntax.{File}
use Rattle.guard_words.specs.Request.{check, parse_tree, rulegen, test, validate}
use Rattle.guard_ends.specs.End.{IsYamlAmong}
use Rattle.guard_ends.specs.Order.{Ending, Ends, IsJudged, OfEvidence}
use Rattle.guard_ends.specs.Report.{report}
use Rattle.guard_laws.proofs.OneCheck.{EvidenceLaws, proof-one}
use Rattle.guard_laws.proofs.OneEnd.{AreFilesTold, AreOneEach, FileNames, FileTexts, files-same, work-asked}
use Rattle.guard_laws.proofs.OneStage.{alike-same, ending-one}
use Rattle.guard_laws.proofs.OneTemplate.{OneTemplate, judged-one}
use Rattle.guard_laws.proofs.OneTest.{AreTestsTold, OneAnswer, tests-same}
use Rattle.guard_laws.proofs.OneWritten.{syntax-same, template-same}
use Rattle.guard_laws.proofs.WithEvidence.{beside-alike, evidence-beside}
use Rattle.guard_laws.proofs.laws.only_end.Goals as goal

pub returns-clause-validated : goal.returns-clause-validated
returns-clause-validated c =
    let template : OneTemplate c.args.template.now = record { tree = c.only_template.ensures.tree; refusal = c.only_template.ensures.refusal; apart = c.only_template.ensures.apart } in
    let params : OneTemplate c.args.params.now =
    record { tree = c.only_template-2.ensures.tree; refusal = c.only_template-2.ensures.refusal; apart = c.only_template-2.ensures.apart } in
    let texts : FileTexts = record { rules = c.args.rules.now; template = c.args.template.now; params = c.args.params.now } in
    let laws : AreOneEach texts = record { template = template; params = params } in
    λ words told r t q e other asked rules_told template_told params_told end end'.
    let names : FileNames = record { rules = r; template = t; params = q } in
    let known : AreFilesTold told names texts = record { rules = rules_told; template = template_told; params = params_told } in
    files-same c.one_syntax.ensures told names texts known laws (λ inputs. Ending (IsJudged report inputs))
    (λ inputs. ending-one (IsYamlAmong told t q) (IsJudged report inputs) (judged-one report inputs)) e other
    (work-asked words told (validate r t q false) asked (Ends e) end) (work-asked words told (validate r t q false) asked (Ends other) end')

pub returns-clause-evidenced : goal.returns-clause-evidenced
returns-clause-evidenced c =
    let template : OneTemplate c.args.template.now = record { tree = c.only_template.ensures.tree; refusal = c.only_template.ensures.refusal; apart = c.only_template.ensures.apart } in
    let params : OneTemplate c.args.params.now =
    record { tree = c.only_template-2.ensures.tree; refusal = c.only_template-2.ensures.refusal; apart = c.only_template-2.ensures.apart } in
    let texts : FileTexts = record { rules = c.args.rules.now; template = c.args.template.now; params = c.args.params.now } in
    let laws : AreOneEach texts = record { template = template; params = params } in
    λ words told r t q e other asked rules_told template_told params_told end end'.
    let names : FileNames = record { rules = r; template = t; params = q } in
    let known : AreFilesTold told names texts = record { rules = rules_told; template = template_told; params = params_told } in
    let first = evidence-beside told names e (work-asked words told (validate r t q true) asked (Ends e) end) in
    let second = evidence-beside told names other (work-asked words told (validate r t q true) asked (Ends other) end') in
    beside-alike (IsYamlAmong told t q) e other first.0 second.0 first.2 second.2
    (files-same c.one_syntax.ensures told names texts known laws (λ inputs. Ending (IsJudged report inputs))
    (λ inputs. ending-one (IsYamlAmong told t q) (IsJudged report inputs) (judged-one report inputs)) first.0 second.0 first.1 second.1)

pub returns-clause-checked : goal.returns-clause-checked
returns-clause-checked c =
    let template : OneTemplate c.args.template.now = record { tree = c.only_template.ensures.tree; refusal = c.only_template.ensures.refusal; apart = c.only_template.ensures.apart } in
    let params : OneTemplate c.args.params.now =
    record { tree = c.only_template-2.ensures.tree; refusal = c.only_template-2.ensures.refusal; apart = c.only_template-2.ensures.apart } in
    let texts : FileTexts = record { rules = c.args.rules.now; template = c.args.template.now; params = c.args.params.now } in
    let laws : AreOneEach texts = record { template = template; params = params } in
    let bytes = c.args.evidence.now in
    let evidence_laws : EvidenceLaws bytes =
    record { lines = c.one_text.ensures.one_list bytes; fault = c.one_text.ensures.one_fault bytes; apart = c.one_text.ensures.never_both bytes } in
    λ words told r t q p e other asked rules_told template_told params_told proof_told end end'.
    let names : FileNames = record { rules = r; template = t; params = q } in
    let known : AreFilesTold told names texts = record { rules = rules_told; template = template_told; params = params_told } in
    files-same c.one_syntax.ensures told names texts known laws (OfEvidence told p)
    (proof-one (IsYamlAmong told t q) bytes evidence_laws told p proof_told) e other
    (work-asked words told (check r t q p) asked (Ends e) end) (work-asked words told (check r t q p) asked (Ends other) end')

pub returns-clause-tested : goal.returns-clause-tested
returns-clause-tested c =
    let tests : OneTemplate c.args.template.now = record { tree = c.only_template.ensures.tree; refusal = c.only_template.ensures.refusal; apart = c.only_template.ensures.apart } in
    let answer : (rules : File) (tree : Forest) → OneAnswer rules tree = λ rules tree. record {
      shape = c.one_answer.ensures.shape tree;
      names = c.one_answer.ensures.names rules tree;
      apart = c.one_answer.ensures.apart rules tree;
      shaped = c.one_answer.ensures.shaped rules tree;
      named = c.one_answer.ensures.named rules tree;
    } in
    λ words told r s e other asked rules_told tests_told end end'.
    let known : AreTestsTold told r s c.args.rules.now c.args.template.now = record { rules = rules_told; tests = tests_told } in
    tests-same c.one_syntax.ensures answer told r s c.args.rules.now c.args.template.now known tests e other
    (work-asked words told (test r s) asked (Ends e) end) (work-asked words told (test r s) asked (Ends other) end')

pub returns-clause-generated : goal.returns-clause-generated
returns-clause-generated c =
    let template : OneTemplate c.args.template.now = record { tree = c.only_template.ensures.tree; refusal = c.only_template.ensures.refusal; apart = c.only_template.ensures.apart } in
    λ words told t e other asked template_told end end'.
    template-same told t c.args.template.now template_told template e other
    (work-asked words told (rulegen t) asked (Ends e) end) (work-asked words told (rulegen t) asked (Ends other) end')

pub returns-clause-printed : goal.returns-clause-printed
returns-clause-printed c =
    λ words told r e other asked rules_told end end'.
    alike-same e other
    (syntax-same c.one_syntax.ensures told r c.args.rules.now rules_told e other
    (work-asked words told (parse_tree r) asked (Ends e) end) (work-asked words told (parse_tree r) asked (Ends other) end'))
