use Rattle.evidence_rules.specs.CitedLines.{GiveArgs}
use Rattle.guard_syntax.specs.declared.syntax.Expr.{Expr}
use Rattle.guard_syntax.specs.code.Seen.{expr_list, see_expr}
use Rattle.std.proofs.Common.{List, arith, map, take, subst, ℕ, length, ◌<◌, ◌≤◌}
use Rattle.std.proofs.lemmas.List.{take_all}
use Rattle.guard_builtins.specs.code.Seen.{see_rows}
use Rattle.evidence_lookups.specs.code.Grounds.{file_in, lines_of}
use Rattle.evidence_rows.proofs.ArgumentsGiven.{args-counted, args-lacking, args-next}
use Rattle.evidence_rows.proofs.calls.rows_of_args.Goals as goal

pub returns-then-args-cites : goal.returns-then-args-cites
returns-then-args-cites c = λ all h. let many = args-counted (file_in c.args.context.now) (lines_of c.args.context.now) c.args.line.frame c.args.args.now c.args.line.cites.now all h in absurd (omega (arith, c.if-args-cites.true, many))

pub returns-in_default : goal.returns-in_default
returns-in_default c =
    args-lacking (file_in c.args.context.now) (lines_of c.args.context.now) c.args.line.frame c.args.args.now c.args.line.cites.now c.loop-at.at c.index-args-at.result c.loop-at-test.true c.index-args-at.is c.in_default.ensures

pub loop-at-preserved : goal.loop-at-preserved
loop-at-preserved c =
    args-next (file_in c.args.context.now) (lines_of c.args.context.now) c.args.line.frame c.args.args.now c.args.line.cites.now c.loop-at.at c.index-args-at.result c.loop-at-test.true (subst (λ (n : ℕ). c.loop-at.at < n) c.if-args-cites.false c.loop-at-test.true) c.index-args-at.is
    (map see_rows c.loop-at.all.items) (map see_rows c.add_rows.new.all.items) c.in-Some.rows c.loop-at.invariant c.in-Some.ensures
    c.in_ok-add_rows.ensures

pub returns : goal.returns
returns c =
    let past : length c.args.line.cites.now ≤ c.loop-at.at = omega (arith, c.if-args-cites.false, c.loop-at-test.false) in
    subst (λ (es : List Expr). GiveArgs (file_in c.args.context.now) (lines_of c.args.context.now) c.args.line.frame (expr_list (map see_expr es)) c.args.line.cites.now (map see_rows c.loop-at.all.items))
    (take_all c.loop-at.at c.args.args.now c.loop-at-test.false)
    (subst (λ (cs : List ℕ). GiveArgs (file_in c.args.context.now) (lines_of c.args.context.now) c.args.line.frame (expr_list (map see_expr (take c.loop-at.at c.args.args.now))) cs (map see_rows c.loop-at.all.items))
    (take_all c.loop-at.at c.args.line.cites.now past) c.loop-at.invariant)

pub bounds-args-at : goal.bounds-args-at
bounds-args-at c = c.loop-at-test.true

pub bounds-cites-at : goal.bounds-cites-at
bounds-cites-at c = subst (λ (n : ℕ). c.loop-at.at < n) c.if-args-cites.false c.loop-at-test.true
