use Rattle.std.proofs.Common.{◌≡◌, ap, arith, length, subst, sym}
use Rattle.guard_syntax.specs.code.Seen.{see_conds, see_expr, see_step}
use Rattle.evidence_rules.specs.Follows.{GivesFurther}
use Rattle.evidence_lookups.specs.code.Grounds.{known_of, lines_of}
use Rattle.evidence_rows.proofs.StepLines.{filter-further, further-nothing, keys-further, no-cites, nothing-further, splice-further, var-further}
use Rattle.evidence_rows.proofs.StepsSeen.{filter-seen, keys-seen, nothing-seen, splice-seen, var-seen}
use Rattle.evidence_rows.proofs.step_rows.rows_further.Goals as goal

pub returns-in-Var : goal.returns-in-Var
returns-in-Var c =
    let known = known_of c.args.context.now in
    let lines = lines_of c.args.context.now in
    var-further known lines c.args.frame (see_step c.args.step.now) c.args.step.now.site c.in-Var.field-0 c.args.cites.now c.variable_cited.result
    (var-seen c.args.step.now c.in-Var.field-0 c.in-Var.is)
    c.variable_cited.ensures

pub returns-in-Splice : goal.returns-in-Splice
returns-in-Splice c =
    let known = known_of c.args.context.now in
    let lines = lines_of c.args.context.now in
    splice-further known lines c.args.frame (see_step c.args.step.now) c.args.step.now.site c.in-Splice.field-0 c.args.cites.now c.variable_cited-in-Splice.result
    (splice-seen c.args.step.now c.in-Splice.field-0 c.in-Splice.is)
    c.variable_cited-in-Splice.ensures

pub returns-in-Keys : goal.returns-in-Keys
returns-in-Keys c =
    let known = known_of c.args.context.now in
    let lines = lines_of c.args.context.now in
    keys-further known lines c.args.frame (see_step c.args.step.now) c.args.step.now.site c.in-Keys.capture c.in-Keys.op c.in-Keys.not (see_expr c.in-Keys.right) c.args.cites.now c.expr_cited.result
    (keys-seen c.args.step.now c.in-Keys.capture c.in-Keys.op c.in-Keys.not c.in-Keys.right c.in-Keys.is)
    c.expr_cited.ensures

pub returns-in-Filter : goal.returns-in-Filter
returns-in-Filter c =
    let known = known_of c.args.context.now in
    let lines = lines_of c.args.context.now in
    filter-further known lines c.args.frame (see_step c.args.step.now) c.args.step.now.site c.in-Filter.field-0 (see_conds c.in-Filter.field-1)
    (filter-seen c.args.step.now c.in-Filter.field-0 c.in-Filter.field-1 c.in-Filter.is) c.args.cites.now

pub returns-in-empty : goal.returns-in-empty
returns-in-empty c =
    let known = known_of c.args.context.now in
    let lines = lines_of c.args.context.now in
    subst (GivesFurther known lines c.args.frame (see_step c.args.step.now) c.args.cites.now) (sym c.new.ensures) (
    nothing-further known lines c.args.frame (see_step c.args.step.now) c.args.cites.now
    (nothing-seen c.args.step.now c.in_default.not-Var c.in_default.not-Splice c.in_default.not-Filter c.in_default.not-Keys) (no-cites c.args.cites.now c.in-empty.len_below))

pub returns-in_default-cites : goal.returns-in_default-cites
returns-in_default-cites c =
    let known = known_of c.args.context.now in
    let lines = lines_of c.args.context.now in
    λ rows gives.
    let none = further-nothing known lines c.args.frame (see_step c.args.step.now) c.args.cites.now rows
    (nothing-seen c.args.step.now c.in_default.not-Var c.in_default.not-Splice c.in_default.not-Filter c.in_default.not-Keys) gives in
    let long : length c.args.cites.now ≡ 0 = ap length none in
    omega (arith, c.in_default-cites.len_at_least, long)
