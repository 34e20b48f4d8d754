use Rattle.std.proofs.Common.{◌≡◌, true}
use Rattle.std.specs.List.{list_all}
use Rattle.std.proofs.lemmas.Result.{IfOk-weaker}
use Rattle.evidence_lines.specs.declared.line.LineKind.TheVariants as kind
use Rattle.evidence_lines.specs.declared.line.Outcome.TheVariants as says
use Rattle.rule_names.specs.Pieces.{piece_at}
use Rattle.rule_meaning.specs.StoreModel.{StoreModel, is_known}
use Rattle.evidence_rules.specs.Follows.{FollowsIn, FollowsRows}
use Rattle.evidence_lookups.specs.code.Grounds.{file_in, known_of, lines_of, version_of}
use Rattle.evidence_lookups.specs.code.Said.{is_known_outcome}
use Rattle.evidence_rows.specs.code.Makes.{IsMade}
use Rattle.evidence_checker.proofs.LinesFollowing.{call-made, rows-made}
use Rattle.evidence_checker.proofs.line.all_rows_follow.Goals as goal

pub returns-in-Fn : goal.returns-in-Fn
returns-in-Fn c =
    let k = known_of c.args.context.now in
    let ls = lines_of c.args.context.now in
    IfOk-weaker c.call_follows.result
    (IsMade k ls (FollowsRows k ls c.args.line.frame c.args.line.site kind.Fn (piece_at (file_in c.args.context.now) c.args.line.site) c.args.line.cites.now c.args.rows.now) (λ (after : StoreModel). list_all (is_known after) c.args.rows.now ≡ true))
    (IsMade k ls (FollowsIn (version_of c.args.context.now) (known_of c.args.context.now) (lines_of c.args.context.now) c.args.line.frame c.args.line.site c.args.line.kind c.args.line.cites.now (says.Rows c.args.rows.now)) (λ (after : StoreModel). is_known_outcome after (says.Rows c.args.rows.now) ≡ true))
    (λ found made. call-made (version_of c.args.context.now) (known_of c.args.context.now) (lines_of c.args.context.now) c.args.line.frame c.args.line.site c.args.line.kind c.args.line.cites.now c.args.rows.now found c.in-Fn.is made) c.call_follows.ensures

pub returns-in_ok-follows-in_default : goal.returns-in_ok-follows-in_default
returns-in_ok-follows-in_default c =
    rows-made (version_of c.args.context.now) (known_of c.args.context.now) (lines_of c.args.context.now) c.args.line.frame c.args.line.site c.args.line.kind c.args.line.cites.now c.args.rows.now c.in_ok-follows-in_default.follows c.making_nothing.result c.in_default.not-Fn c.making_nothing.ensures
    c.in_ok-follows-in_default.ensures.follows c.in_ok-follows-in_default.ensures.known
