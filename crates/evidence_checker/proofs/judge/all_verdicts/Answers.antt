use Rattle.std.proofs.Common.{inl, List, Vec, Global}
use Rattle.std.proofs.lemmas.Result.{IfOk-weaker}
use Rattle.guard_syntax.specs.declared.row.Verdict.{Verdict}
use Rattle.evidence_checker.proofs.Answering.{AreAll, AreWithLoose, all-found, rules-wanting}
use Rattle.evidence_checker.proofs.judge.all_verdicts.Goals as goal

pub returns-in_default : goal.returns-in_default
returns-in_default c = λ lines judged.
    inl (rules-wanting (λ v. v.items) lines c.deref.result.now c.args.file.now.rules.items c.in_ok-verdicts.field-0 c.deref.ensures.value c.in_default.is (c.in_ok-verdicts.ensures lines judged))

pub returns : goal.returns
returns c = λ lines judged.
    let items : Vec Verdict Global → List Verdict = λ v. v.items in
    IfOk-weaker c.with_loose.result (AreWithLoose items lines c.in-Some.verdicts c.deref-2.result.now) (AreAll items lines c.args.file.now.rules.items c.args.file.now.loose.items)
    (λ found more. all-found items lines c.deref.result.now c.args.file.now.rules.items c.deref-2.result.now c.args.file.now.loose.items c.in_ok-verdicts.field-0 c.in-Some.verdicts found
    c.deref.ensures.value c.deref-2.ensures.value c.in-Some.is (c.in_ok-verdicts.ensures lines judged) more)
    (c.with_loose.ensures lines judged)
