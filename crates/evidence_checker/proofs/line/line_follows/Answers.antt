use Rattle.std.proofs.Common.{◌≡◌, true, refl}
use Rattle.std.proofs.lemmas.Result.{IfOk-weaker}
use Rattle.rule_meaning.specs.StoreModel.{StoreModel}
use Rattle.evidence_rules.specs.Follows.{Follows, FollowsIn}
use Rattle.evidence_lookups.specs.code.Grounds.{known_of, lines_of, version_of}
use Rattle.evidence_lookups.specs.code.Said.{IsSound, is_known_outcome}
use Rattle.evidence_rows.specs.code.Makes.{IsMade}
use Rattle.evidence_checker.proofs.LinesFollowing.{file-made, never-sited, not-home, placed-made}
use Rattle.evidence_checker.proofs.line.line_follows.Goals as goal

pub returns-in_default : goal.returns-in_default
returns-in_default c =
    file-made (version_of c.args.context.now) (known_of c.args.context.now) (lines_of c.args.context.now) c.args.line.now c.is_file_line-follows.result c.making_nothing.result c.making_nothing.ensures c.in_default.is c.is_file_line-follows.ensures.file c.is_file_line-follows.ensures.known

pub returns-in_default-site : goal.returns-in_default-site
returns-in_default-site c = never-sited (version_of c.args.context.now) (known_of c.args.context.now) (lines_of c.args.context.now) c.args.line.now c.in-Some.frame c.in-Some.is c.in_default-site.is

pub returns-then-not-is_at_home : goal.returns-then-not-is_at_home
returns-then-not-is_at_home c =
    not-home (version_of c.args.context.now) c.args.context.now.store.now.file.now.raw c.args.context.now.store.now.file.now.sites (known_of c.args.context.now) refl (lines_of c.args.context.now) c.args.line.now
    c.in-Some.frame c.in-Some-site.site c.in-Some.is c.in-Some-site.is c.if-not-is_at_home.ensures

pub returns : goal.returns
returns c =
    let k = known_of c.args.context.now in
    let ls = lines_of c.args.context.now in
    let line = c.args.line.now in
    let cites = c.as_slice-cites.result.now in
    let frame = c.in-Some.frame in
    let site = c.in-Some-site.site in
    IfOk-weaker c.outcome_follows.result
    (IsMade k ls (FollowsIn (version_of c.args.context.now) k ls frame site line.kind cites line.outcome) (λ (after : StoreModel). is_known_outcome after line.outcome ≡ true))
    (IsMade k ls (Follows (version_of c.args.context.now) k ls line) (λ (after : StoreModel). IsSound after line))
    (λ found made. placed-made (version_of c.args.context.now) (known_of c.args.context.now) (lines_of c.args.context.now) c.args.line.now frame site c.in-Some.is c.in-Some-site.is cites found c.as_slice-cites.ensures c.if-not-is_at_home.ensures.1 made) c.outcome_follows.ensures
