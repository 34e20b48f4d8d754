use Rattle.std.proofs.Common.{refl, []}
use Rattle.evidence_rules.specs.Follows.{nothing_made}
use Rattle.evidence_truth.proofs.FollowingKnown.{lines-known}
use Rattle.evidence_truth.proofs.KnownHeld.{lines-held, literal-known, root-known}
use Rattle.evidence_truth.proofs.LinesTrue.{no-line}
use Rattle.evidence_truth.proofs.laws.lines_known.Goals as goal

pub returns : goal.returns
returns c file version template lines known held tree trees follow holds =
    let start = nothing_made template file in
    lines-held held known holds lines
    (lines-known version start [] [] lines known (root-known start tree) (λ site literal there. literal-known start site literal (trees site literal there) there) refl refl
    (λ number line stands. absurd (no-line number line stands)) follow)
