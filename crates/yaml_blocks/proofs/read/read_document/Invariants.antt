use Rattle.std.proofs.Common.{◌+◌, ◌-◌, ◌*◌, ◌≤◌, length}
use Rattle.std.specs.Str.{IsCharBoundary}
use Rattle.yaml_grammar.specs.code.Steps.{stack, Fits, reached}
use Rattle.yaml_grammar.specs.Yaml.{text_start}
use Rattle.yaml_grammar.proofs.LivesLonger.{LivesLonger}
use Rattle.yaml_grammar.proofs.LivesOn.{LivesOn}
use Rattle.yaml_grammar.proofs.Back.{Grows}
use Rattle.yaml_grammar.proofs.Roots.{Same}
use Rattle.yaml_blocks.proofs.read.read_document.Given as goal

abbrev pub invariant-loop-alloc : goal.invariant-loop-alloc
invariant-loop-alloc l =
    (Same l.text l.position (stack l.forms.items) l.builder × Fits l.text l.position.stage (stack l.forms.items) l.builder l.position.at × IsCharBoundary l.text l.position.at) × LivesOn l.text l.position (stack l.forms.items) l.builder × Grows l.text l.position (stack l.forms.items) l.builder × (text_start l.text ≤ l.position.at) × LivesLonger l.text l.position (stack l.forms.items) l.builder

abbrev pub decreases-loop-alloc : goal.decreases-loop-alloc
decreases-loop-alloc l = 2 * length l.text + 4 - reached l.position.stage l.position.at
