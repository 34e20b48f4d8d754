use Rattle.std.proofs.Common.{List, ℕ, length}
use Rattle.yaml_grammar.specs.Yaml.{IsEnd}
use Rattle.yaml_grammar.specs.code.Steps.{stack}
use Rattle.yaml_grammar.proofs.BlockGains.{Alike, Stands}
use Rattle.yaml_steps.proofs.closings.end_all.Given as goal

abbrev pub invariant-loop-builder : goal.invariant-loop-builder
invariant-loop-builder l = Stands (stack l.forms.items) l.builder × ((other : List ℕ) → IsEnd other l.at → Alike other l.at (stack l.initial.forms.items) l.initial.builder (stack l.forms.items) l.builder)

abbrev pub decreases-loop-builder : goal.decreases-loop-builder
decreases-loop-builder l = length l.forms.items
