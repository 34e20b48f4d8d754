use Rattle.evidence_lines.specs.declared.line.LineKind.TheVariants as kind
use Rattle.evidence_checker.proofs.PartKinds.{about-block, about-call, about-kinds, about-refer, about-test, about-when, said-about}
use Rattle.evidence_checker.proofs.verdicts.said_of_part.Goals as goal

pub returns-in-Block : goal.returns-in-Block
returns-in-Block c = λ k.
    let ls = c.args.lines.now in
    said-about k ls c.args.part.now kind.Block c.in-Block.site c.args.frame c.args.number c.verdict_said.result
    (about-block k ls c.args.part.now c.in-Block.site c.in-Block.any c.in-Block.head c.in-Block.body c.in-Block.is) c.verdict_said.ensures

pub returns-in-When : goal.returns-in-When
returns-in-When c = λ k.
    let ls = c.args.lines.now in
    said-about k ls c.args.part.now kind.When c.in-When.site c.args.frame c.args.number c.verdict_said-in-When.result
    (about-when k ls c.args.part.now c.in-When.site c.in-When.cond c.in-When.body c.in-When.is) c.verdict_said-in-When.ensures

pub returns-in-Kinds : goal.returns-in-Kinds
returns-in-Kinds c = λ k.
    let ls = c.args.lines.now in
    said-about k ls c.args.part.now kind.Kinds c.in-Kinds.site c.args.frame c.args.number c.verdict_said-in-Kinds.result
    (about-kinds k ls c.args.part.now c.in-Kinds.site c.in-Kinds.name c.in-Kinds.cond c.in-Kinds.body c.in-Kinds.is) c.verdict_said-in-Kinds.ensures

pub returns-in-Test : goal.returns-in-Test
returns-in-Test c = λ k.
    let ls = c.args.lines.now in
    said-about k ls c.args.part.now kind.Test c.in-Test.site c.args.frame c.args.number c.verdict_said-in-Test.result
    (about-test k ls c.args.part.now c.in-Test.site c.in-Test.any c.in-Test.left c.in-Test.op c.in-Test.not c.in-Test.right c.in-Test.note c.in-Test.is) c.verdict_said-in-Test.ensures

pub returns-in-Refer : goal.returns-in-Refer
returns-in-Refer c = λ k.
    let ls = c.args.lines.now in
    said-about k ls c.args.part.now kind.Refer c.in-Refer.site c.args.frame c.args.number c.verdict_said-in-Refer.result
    (about-refer k ls c.args.part.now c.in-Refer.site c.in-Refer.not c.in-Refer.name c.in-Refer.note c.in-Refer.is) c.verdict_said-in-Refer.ensures

pub returns-in-Call : goal.returns-in-Call
returns-in-Call c = λ k.
    let ls = c.args.lines.now in
    said-about k ls c.args.part.now kind.Call c.in-Call.site c.args.frame c.args.number c.verdict_said-in-Call.result
    (about-call k ls c.args.part.now c.in-Call.site c.in-Call.not c.in-Call.name c.in-Call.args c.in-Call.note c.in-Call.is) c.verdict_said-in-Call.ensures
