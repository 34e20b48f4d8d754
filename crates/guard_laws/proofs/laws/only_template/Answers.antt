use Rattle.std.proofs.Common.{subst}
use Rattle.guard_laws.proofs.OneTemplate.{template-laws}
use Rattle.guard_laws.proofs.OneText.{JsonLaws, text-one}
use Rattle.guard_laws.proofs.laws.only_template.Goals as goal

pub returns-in-Ok-clause-tree : goal.returns-in-Ok-clause-tree
returns-in-Ok-clause-tree c =
    let laws : JsonLaws c.in-Ok.text.now = record { tree = c.one_tree.ensures; refusal = c.one_refusal.ensures; apart = c.refused_apart.ensures } in
    (template-laws c.args.bytes.now (λ f utf8. text-one f c.args.bytes.now (subst JsonLaws c.in-Ok.ensures.cases.0 laws))).tree

pub returns-in-Ok-clause-refusal : goal.returns-in-Ok-clause-refusal
returns-in-Ok-clause-refusal c =
    let laws : JsonLaws c.in-Ok.text.now = record { tree = c.one_tree.ensures; refusal = c.one_refusal.ensures; apart = c.refused_apart.ensures } in
    (template-laws c.args.bytes.now (λ f utf8. text-one f c.args.bytes.now (subst JsonLaws c.in-Ok.ensures.cases.0 laws))).refusal

pub returns-in-Ok-clause-apart : goal.returns-in-Ok-clause-apart
returns-in-Ok-clause-apart c =
    let laws : JsonLaws c.in-Ok.text.now = record { tree = c.one_tree.ensures; refusal = c.one_refusal.ensures; apart = c.refused_apart.ensures } in
    (template-laws c.args.bytes.now (λ f utf8. text-one f c.args.bytes.now (subst JsonLaws c.in-Ok.ensures.cases.0 laws))).apart

pub returns-in-Err-clause-tree : goal.returns-in-Err-clause-tree
returns-in-Err-clause-tree c = (template-laws c.args.bytes.now (λ f utf8. absurd (c.in-Err.ensures.cases.0 utf8))).tree

pub returns-in-Err-clause-refusal : goal.returns-in-Err-clause-refusal
returns-in-Err-clause-refusal c = (template-laws c.args.bytes.now (λ f utf8. absurd (c.in-Err.ensures.cases.0 utf8))).refusal

pub returns-in-Err-clause-apart : goal.returns-in-Err-clause-apart
returns-in-Err-clause-apart c = (template-laws c.args.bytes.now (λ f utf8. absurd (c.in-Err.ensures.cases.0 utf8))).apart
