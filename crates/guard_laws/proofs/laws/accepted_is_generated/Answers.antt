use Rattle.guard_words.specs.Request.{rulegen}
use Rattle.guard_ends.specs.Order.{Ends}
use Rattle.guard_laws.proofs.OneEnd.{work-asked}
use Rattle.guard_laws.proofs.OneTemplate.{OneTemplate}
use Rattle.guard_laws.proofs.OneWritten.{template-goes}
use Rattle.guard_laws.proofs.laws.accepted_is_generated.Goals as goal

pub returns : goal.returns
returns c =
    let one : OneTemplate c.args.template.now = record { tree = c.only_template.ensures.tree; refusal = c.only_template.ensures.refusal; apart = c.only_template.ensures.apart } in
    λ words told t tree text e asked template_told whole are end.
    template-goes told t c.args.template.now template_told one tree text whole are e (work-asked words told (rulegen t) asked (Ends e) end)
