use Rattle.std.proofs.Common.{◌≡◌, ℕ, List, false, length}
use Rattle.yaml_grammar.specs.Ahead.{ahead}
use Rattle.yaml_grammar.specs.code.Steps.{stack, Lasts}
use Rattle.yaml_grammar.specs.code.Twins.{Popped}
use Rattle.yaml_grammar.proofs.BlockGains.{Alike, Stands}
use Rattle.yaml_steps.proofs.closings.end_before.Given as goal

abbrev pub invariant-loop-next : goal.invariant-loop-next
invariant-loop-next l =
    Stands (stack l.forms.items) l.builder × Lasts l.initial.builder l.builder
    × ((text : List ℕ) (i : ℕ) → l.next ≡ ahead text false i → Alike text i (stack l.initial.forms.items) l.initial.builder (stack l.forms.items) l.builder)
    × Popped l.next (stack l.initial.forms.items) l.initial.builder (stack l.forms.items) l.builder

abbrev pub decreases-loop-next : goal.decreases-loop-next
decreases-loop-next l = length l.forms.items
