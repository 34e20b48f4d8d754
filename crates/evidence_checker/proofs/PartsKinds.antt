-- A part has the line of its kind alone.
use Rattle.std.proofs.Common.{◌≡◌, ℕ, List, refl}
use Rattle.evidence_lines.specs.declared.line.Line.{Line}
use Rattle.evidence_lines.specs.declared.line.LineKind.{LineKind}
use Rattle.evidence_lines.specs.declared.line.LineKind.TheVariants as kind
use Rattle.evidence_lines.specs.declared.version.Version.{Version}
use Rattle.guard_syntax.specs.Syntax as sx
use Rattle.guard_syntax.specs.declared.row.Verdict.{Verdict}
use Rattle.rule_meaning.specs.StoreModel.{StoreModel}
use Rattle.evidence_rules.specs.Follows.{FollowsAtPart, kind_of_part}

module _ (version : Version) (known : StoreModel) (lines : List Line) (frame site : ℕ) (cites : List ℕ) (verdict : Verdict) where
  pub other-kind : (of : LineKind) (part : sx.Part) → (of ≡ kind_of_part known lines part → ⊥) → FollowsAtPart version known lines frame site of part cites verdict → ⊥
  other-kind kind.File part other f = f
  other-kind kind.Frame part other f = f
  other-kind kind.Literal part other f = f
  other-kind kind.Found part other f = f
  other-kind kind.Fn part other f = f
  other-kind kind.Step part other f = f
  other-kind kind.Filter part other f = f
  other-kind kind.Keys part other f = f
  other-kind kind.Capture part other f = f
  other-kind kind.Types part other f = f
  other-kind kind.Test (sx.block n any head inner) other f = f
  other-kind kind.Test (sx.guarded n conditions inner) other f = f
  other-kind kind.Test (sx.kinds n name conditions inner) other f = f
  other-kind kind.Test (sx.test n any left op negated right message) other f = other refl
  other-kind kind.Test (sx.refer n negated name message) other f = f
  other-kind kind.Test (sx.call n negated name args message) other f = f
  other-kind kind.Refer (sx.block n any head inner) other f = f
  other-kind kind.Refer (sx.guarded n conditions inner) other f = f
  other-kind kind.Refer (sx.kinds n name conditions inner) other f = f
  other-kind kind.Refer (sx.test n any left op negated right message) other f = f
  other-kind kind.Refer (sx.refer n negated name message) other f = other refl
  other-kind kind.Refer (sx.call n negated name args message) other f = f
  other-kind kind.Call (sx.block n any head inner) other f = f
  other-kind kind.Call (sx.guarded n conditions inner) other f = f
  other-kind kind.Call (sx.kinds n name conditions inner) other f = f
  other-kind kind.Call (sx.test n any left op negated right message) other f = f
  other-kind kind.Call (sx.refer n negated name message) other f = f
  other-kind kind.Call (sx.call n negated name args message) other f = other refl
  other-kind kind.Disj part other f = f
  other-kind kind.Conj part other f = f
  other-kind kind.When (sx.block n any head inner) other f = f
  other-kind kind.When (sx.guarded n conditions inner) other f = other refl
  other-kind kind.When (sx.kinds n name conditions inner) other f = f
  other-kind kind.When (sx.test n any left op negated right message) other f = f
  other-kind kind.When (sx.refer n negated name message) other f = f
  other-kind kind.When (sx.call n negated name args message) other f = f
  other-kind kind.Block (sx.block n any head inner) other f = other refl
  other-kind kind.Block (sx.guarded n conditions inner) other f = f
  other-kind kind.Block (sx.kinds n name conditions inner) other f = f
  other-kind kind.Block (sx.test n any left op negated right message) other f = f
  other-kind kind.Block (sx.refer n negated name message) other f = f
  other-kind kind.Block (sx.call n negated name args message) other f = f
  other-kind kind.Kinds (sx.block n any head inner) other f = f
  other-kind kind.Kinds (sx.guarded n conditions inner) other f = f
  other-kind kind.Kinds (sx.kinds n name conditions inner) other f = other refl
  other-kind kind.Kinds (sx.test n any left op negated right message) other f = f
  other-kind kind.Kinds (sx.refer n negated name message) other f = f
  other-kind kind.Kinds (sx.call n negated name args message) other f = f
  other-kind kind.Rule part other f = f
