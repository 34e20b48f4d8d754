use Rattle.std.proofs.Common.{◌≡◌, drop}
use Rattle.guard_syntax.specs.Syntax.{Body}
use Rattle.rule_meaning.specs.StoreModel.{StoreModel}
use Rattle.evidence_rules.specs.CitedLines.{body_site}
use Rattle.evidence_rules.specs.Follows.{FollowsRowsOf, block_stop}
use Rattle.evidence_checker.proofs.OnRows.{FollowsOn}
use Rattle.evidence_checker.proofs.bodies.body_follows_on.Given as goal

abbrev pub invariant-loop-index : goal.invariant-loop-index
invariant-loop-index l = record {
  on : (known : StoreModel) → (b : Body) → l.fn.body.site ≡ body_site b → FollowsRowsOf known l.lines l.fn.body.frame l.fn.body.any (block_stop l.fn.body.any l.fn.body.version) b l.rows l.cites l.verdict
      → FollowsOn known l.lines l.fn.body.frame l.fn.body.any l.fn.body.version b l.before (drop l.index l.rows) l.left l.verdict;
  back : (known : StoreModel) → (b : Body) → l.fn.body.site ≡ body_site b → FollowsOn known l.lines l.fn.body.frame l.fn.body.any l.fn.body.version b l.before (drop l.index l.rows) l.left l.verdict
      → FollowsRowsOf known l.lines l.fn.body.frame l.fn.body.any (block_stop l.fn.body.any l.fn.body.version) b l.rows l.cites l.verdict;
}
