use Rattle.std.proofs.Common.{false, true, inl}
use Rattle.guard_words.specs.Request.{validate}
use Rattle.guard_ends.specs.Order.{Ends}
use Rattle.guard_laws.proofs.OneEnd.{FileNames, work-asked}
use Rattle.guard_laws.proofs.WithEvidence.{evidence-beside}
use Rattle.guard_laws.proofs.laws.evidence_is_beside.Goals as goal

pub returns : goal.returns
returns c = λ words plain_words told r t q e asked plain_asked end.
    let names : FileNames = record { rules = r; template = t; params = q } in
    let beside = evidence-beside told names e (work-asked words told (validate r t q true) asked (Ends e) end) in
    (beside.0, inl (validate r t q false, plain_asked, beside.1), beside.2)
