use Rattle.std.proofs.Common.{false, true}
use Rattle.guard_words.specs.Request.{validate}
use Rattle.guard_ends.specs.Order.{Ending, Ends, Inputs, IsJudged, IsJudgedBy}
use Rattle.guard_ends.specs.Report.{report}
use Rattle.guard_laws.proofs.OneEnd.{AreFilesTold, AreOneEach, FileNames, FileTexts, files-go, work-asked}
use Rattle.guard_laws.proofs.OneStage.{ending-is}
use Rattle.guard_laws.proofs.OneTemplate.{OneTemplate}
use Rattle.guard_laws.proofs.laws.accepted_is_judged.Goals as goal

pub returns-clause-plain : goal.returns-clause-plain
returns-clause-plain c =
    let template : OneTemplate c.args.template.now = record { tree = c.only_template.ensures.tree; refusal = c.only_template.ensures.refusal; apart = c.only_template.ensures.apart } in
    let params : OneTemplate c.args.params.now =
    record { tree = c.only_template-2.ensures.tree; refusal = c.only_template-2.ensures.refusal; apart = c.only_template-2.ensures.apart } in
    let texts : FileTexts = record { rules = c.args.rules.now; template = c.args.template.now; params = c.args.params.now } in
    let laws : AreOneEach texts = record { template = template; params = params } in
    λ words told r t q file tree data_tree read e asked rules_told template_told params_told whole whole' becomes all end.
    let names : FileNames = record { rules = r; template = t; params = q } in
    let known : AreFilesTold told names texts = record { rules = rules_told; template = template_told; params = params_told } in
    let inputs : Inputs = record { rules = file; tree = data_tree; texts = record { rules = c.args.rules.now; template = c.args.template.now; params = read } } in
    ending-is (IsJudged report inputs) e
    (files-go c.one_syntax.ensures told names texts known laws (λ inputs. Ending (IsJudged report inputs))
    file tree data_tree read whole whole' becomes all e (work-asked words told (validate r t q false) asked (Ends e) end))

pub returns-clause-evidenced : goal.returns-clause-evidenced
returns-clause-evidenced c =
    let template : OneTemplate c.args.template.now = record { tree = c.only_template.ensures.tree; refusal = c.only_template.ensures.refusal; apart = c.only_template.ensures.apart } in
    let params : OneTemplate c.args.params.now =
    record { tree = c.only_template-2.ensures.tree; refusal = c.only_template-2.ensures.refusal; apart = c.only_template-2.ensures.apart } in
    let texts : FileTexts = record { rules = c.args.rules.now; template = c.args.template.now; params = c.args.params.now } in
    let laws : AreOneEach texts = record { template = template; params = params } in
    λ words told r t q file tree data_tree read e asked rules_told template_told params_told whole whole' becomes all end.
    let names : FileNames = record { rules = r; template = t; params = q } in
    let known : AreFilesTold told names texts = record { rules = rules_told; template = template_told; params = params_told } in
    let inputs : Inputs = record { rules = file; tree = data_tree; texts = record { rules = c.args.rules.now; template = c.args.template.now; params = read } } in
    ending-is (IsJudgedBy report inputs) e
    (files-go c.one_syntax.ensures told names texts known laws (λ inputs. Ending (IsJudgedBy report inputs))
    file tree data_tree read whole whole' becomes all e (work-asked words told (validate r t q true) asked (Ends e) end))
