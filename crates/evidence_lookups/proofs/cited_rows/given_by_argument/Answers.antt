use Rattle.std.proofs.Common.{map, sym}
use Rattle.guard_syntax.specs.code.Seen.{expr_list, see_expr}
use Rattle.evidence_lookups.specs.code.Grounds.{file_in, lines_of}
use Rattle.evidence_lookups.proofs.PartsSeen.{argument-at, argument-past}
use Rattle.evidence_lookups.proofs.RowsGiven.{argument-given, no-args, no-argument, no-caller, no-frame, no-kind, no-site}
use Rattle.evidence_lookups.proofs.cited_rows.given_by_argument.Goals as goal

pub returns-in_default : goal.returns-in_default
returns-in_default c = no-frame (file_in c.args.context.now) (lines_of c.args.context.now) c.args.frame c.args.index c.args.number c.in_default.ensures

pub returns-in_default-kind : goal.returns-in_default-kind
returns-in_default-kind c =
    no-kind (file_in c.args.context.now) (lines_of c.args.context.now) c.args.frame c.args.index c.args.number c.in-Some.place c.in-Some.ensures c.in_default-kind.not-Frame

pub returns-in_default-frame : goal.returns-in_default-frame
returns-in_default-frame c =
    no-caller (file_in c.args.context.now) (lines_of c.args.context.now) c.args.frame c.args.index c.args.number c.in-Some.place c.in-Some.ensures (sym c.in_default-frame.is)

pub returns-in_default-site : goal.returns-in_default-site
returns-in_default-site c =
    no-site (file_in c.args.context.now) (lines_of c.args.context.now) c.args.frame c.args.index c.args.number c.in-Some.place c.in-Some.ensures (sym c.in_default-site.is)

pub returns-in_default-args_at : goal.returns-in_default-args_at
returns-in_default-args_at c =
    no-args (file_in c.args.context.now) (lines_of c.args.context.now) c.args.frame c.args.index c.args.number c.in-Some.place c.in-Some.ensures c.in-Some-site.site c.in-Some-site.is
    c.in_default-args_at.ensures

pub returns-in_default-get : goal.returns-in_default-get
returns-in_default-get c =
    no-argument (file_in c.args.context.now) (lines_of c.args.context.now) c.args.frame c.args.index c.args.number c.in-Some.place c.in-Some.ensures c.in-Some-frame.caller
    c.in-Some-site.site (expr_list (map see_expr c.in-Some-args_at.args.now)) c.in-Frame.is c.in-Some-frame.is c.in-Some-site.is c.in-Some-args_at.ensures
    (sym (argument-past c.in-Some-args_at.args.now c.args.index c.in_default-get.ensures.lookup.3))

pub returns : goal.returns
returns c =
    argument-given (file_in c.args.context.now) (lines_of c.args.context.now) c.args.frame c.args.index c.args.number c.in-Some.place c.in-Some.ensures c.in-Some-frame.caller
    c.in-Some-site.site (expr_list (map see_expr c.in-Some-args_at.args.now)) c.in-Frame.is c.in-Some-frame.is c.in-Some-site.is c.in-Some-args_at.ensures
    (see_expr c.in-Some-get.arg.now) c.given_by_expr.result
    (sym (argument-at c.in-Some-args_at.args.now c.args.index c.in-Some-get.arg.now c.in-Some-get.ensures.lookup.3.0 c.in-Some-get.ensures.lookup.1)) c.given_by_expr.ensures
