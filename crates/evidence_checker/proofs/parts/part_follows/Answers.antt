use Rattle.std.proofs.Common.{Some, map, ap, sym, ◌∙◌}
use Rattle.std.proofs.lemmas.Result.{IfOk-weaker}
use Rattle.guard_syntax.specs.code.Seen.{expr_list, see_body, see_conds, see_expr, see_opt_conds, see_opt_expr, see_part, see_query}
use Rattle.guard_syntax.specs.Syntax as sx
use Rattle.evidence_lookups.specs.code.Grounds.{known_of, lines_of, version_of}
use Rattle.evidence_lookups.proofs.PartsSeen.{body-site}
use Rattle.evidence_checker.proofs.FirstSaid.{conds-site}
use Rattle.rule_names.proofs.Shapes.{block-seen, call-seen, kinds-seen, when-seen}
use Rattle.evidence_checker.proofs.PartForms.{kind-other, kind-same, part-decided, refer-seen, test-seen}
use Rattle.evidence_checker.proofs.PartsKinds.{other-kind}
use Rattle.evidence_checker.proofs.parts.part_follows.Goals as goal

pub returns-then-ne : goal.returns-then-ne
returns-then-ne c =
    other-kind (version_of c.args.context.now) (known_of c.args.context.now) (lines_of c.args.context.now) c.args.line.frame c.args.line.site c.args.line.cites.now c.args.verdict c.args.line.kind (see_part c.args.part.now)
    (λ same. kind-other c.ne.result c.args.line.kind c.kind_of_part.result c.ne.ensures c.if-ne.true (same ∙ sym (c.kind_of_part.ensures (known_of c.args.context.now) (lines_of c.args.context.now))))

pub returns-in-Block : goal.returns-in-Block
returns-in-Block c =
    part-decided (version_of c.args.context.now) (known_of c.args.context.now) (lines_of c.args.context.now) c.args.line.frame c.args.line.site c.args.line.cites.now c.args.verdict c.args.line.kind (see_part c.args.part.now)
    (sx.block c.in-Block.site c.in-Block.any (see_query c.in-Block.head) (see_body c.in-Block.body)) c.block_follows.result
    (kind-same c.ne.result c.args.line.kind c.kind_of_part.result c.ne.ensures c.if-ne.false ∙ c.kind_of_part.ensures (known_of c.args.context.now) (lines_of c.args.context.now)) (ap see_part c.in-Block.is ∙ block-seen c.in-Block.site c.in-Block.any c.in-Block.head c.in-Block.body) (c.block_follows.ensures (see_body c.in-Block.body) (sym (body-site c.in-Block.body)))

pub returns-in-When : goal.returns-in-When
returns-in-When c =
    part-decided (version_of c.args.context.now) (known_of c.args.context.now) (lines_of c.args.context.now) c.args.line.frame c.args.line.site c.args.line.cites.now c.args.verdict c.args.line.kind (see_part c.args.part.now)
    (sx.guarded c.in-When.site (see_conds c.in-When.cond) (see_body c.in-When.body)) c.guarded_follows.result
    (kind-same c.ne.result c.args.line.kind c.kind_of_part.result c.ne.ensures c.if-ne.false ∙ c.kind_of_part.ensures (known_of c.args.context.now) (lines_of c.args.context.now)) (ap see_part c.in-When.is ∙ when-seen c.in-When.site c.in-When.cond c.in-When.body) (c.guarded_follows.ensures (known_of c.args.context.now) (sx.with_conds (see_conds c.in-When.cond)) (see_body c.in-When.body) (ap Some (sym (conds-site c.in-When.cond))) (sym (body-site c.in-When.body)))

pub returns-in-Kinds : goal.returns-in-Kinds
returns-in-Kinds c =
    part-decided (version_of c.args.context.now) (known_of c.args.context.now) (lines_of c.args.context.now) c.args.line.frame c.args.line.site c.args.line.cites.now c.args.verdict c.args.line.kind (see_part c.args.part.now)
    (sx.kinds c.in-Kinds.site c.in-Kinds.name (see_opt_conds c.in-Kinds.cond) (see_body c.in-Kinds.body)) c.kinds_follows.result
    (kind-same c.ne.result c.args.line.kind c.kind_of_part.result c.ne.ensures c.if-ne.false ∙ c.kind_of_part.ensures (known_of c.args.context.now) (lines_of c.args.context.now)) (ap see_part c.in-Kinds.is ∙ kinds-seen c.in-Kinds.site c.in-Kinds.name c.in-Kinds.cond c.in-Kinds.body) (c.kinds_follows.ensures (known_of c.args.context.now) (see_opt_conds c.in-Kinds.cond) (see_body c.in-Kinds.body) c.conds_site-cond.ensures (sym (body-site c.in-Kinds.body)))

pub returns-in-Test : goal.returns-in-Test
returns-in-Test c =
    IfOk-weaker c.test_follows.result _ _
    (λ follows decided. part-decided (version_of c.args.context.now) (known_of c.args.context.now) (lines_of c.args.context.now) c.args.line.frame c.args.line.site c.args.line.cites.now c.args.verdict c.args.line.kind (see_part c.args.part.now)
    (sx.test c.in-Test.site c.in-Test.any (see_query c.in-Test.left) c.in-Test.op c.in-Test.not (see_opt_expr c.in-Test.right) c.in-Test.note) follows
    (kind-same c.ne.result c.args.line.kind c.kind_of_part.result c.ne.ensures c.if-ne.false ∙ c.kind_of_part.ensures (known_of c.args.context.now) (lines_of c.args.context.now)) (ap see_part c.in-Test.is ∙ test-seen c.in-Test.site c.in-Test.any c.in-Test.left c.in-Test.op c.in-Test.not c.in-Test.right c.in-Test.note) decided)
    (c.test_follows.ensures c.in-Test.site c.in-Test.note)

pub returns-in-Refer : goal.returns-in-Refer
returns-in-Refer c =
    part-decided (version_of c.args.context.now) (known_of c.args.context.now) (lines_of c.args.context.now) c.args.line.frame c.args.line.site c.args.line.cites.now c.args.verdict c.args.line.kind (see_part c.args.part.now)
    (sx.refer c.in-Refer.site c.in-Refer.not c.in-Refer.name c.in-Refer.note) c.reference_follows.result
    (kind-same c.ne.result c.args.line.kind c.kind_of_part.result c.ne.ensures c.if-ne.false ∙ c.kind_of_part.ensures (known_of c.args.context.now) (lines_of c.args.context.now)) (ap see_part c.in-Refer.is ∙ refer-seen c.in-Refer.site c.in-Refer.not c.in-Refer.name c.in-Refer.note) (c.reference_follows.ensures c.in-Refer.site c.in-Refer.name c.in-Refer.note)

pub returns-in-Call : goal.returns-in-Call
returns-in-Call c =
    part-decided (version_of c.args.context.now) (known_of c.args.context.now) (lines_of c.args.context.now) c.args.line.frame c.args.line.site c.args.line.cites.now c.args.verdict c.args.line.kind (see_part c.args.part.now)
    (sx.call c.in-Call.site c.in-Call.not c.in-Call.name (expr_list (map see_expr c.in-Call.args.items)) c.in-Call.note) c.call_follows.result
    (kind-same c.ne.result c.args.line.kind c.kind_of_part.result c.ne.ensures c.if-ne.false ∙ c.kind_of_part.ensures (known_of c.args.context.now) (lines_of c.args.context.now)) (ap see_part c.in-Call.is ∙ call-seen c.in-Call.site c.in-Call.not c.in-Call.name c.in-Call.args c.in-Call.note) (c.call_follows.ensures c.in-Call.site c.in-Call.name (expr_list (map see_expr c.in-Call.args.items)) c.in-Call.note)
