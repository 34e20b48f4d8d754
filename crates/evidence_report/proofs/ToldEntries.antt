-- What lines fail by is what the rules of their `rule` lines fail by, over a store that holds what they make.
use Rattle.std.proofs.Common.{◌≡◌, ap₂}
use Rattle.doc_values.specs.Tree.{Forest}
use Rattle.guard_syntax.specs.Syntax.{File}
use Rattle.rule_meaning.specs.Locations.{Answers, World}
use Rattle.rule_meaning.specs.Seeing.{world_of}
use Rattle.rule_meaning.specs.StoreModel.{StoreModel}
use Rattle.evidence_truth.specs.code.HeldTrees.{HoldsTrees}

world : Answers → Forest → File → World
world answers template file = record { template = template; file = file; answers = answers }

-- the same rules over the same template
pub same-world : (held known : StoreModel) (answers : Answers) → HoldsTrees held known → world_of held answers ≡ world_of known answers
unfolding world
same-world held known answers holds = ap₂ (world answers) holds.template holds.file
