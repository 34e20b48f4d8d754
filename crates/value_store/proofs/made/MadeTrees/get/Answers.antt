use Rattle.value_store.proofs.MadeLists.{found_at, from_copied, plain_some, same_place}
use Rattle.value_store.proofs.made.MadeTrees.get.Goals as goal

pub returns-clause-tree : goal.returns-clause-tree
returns-clause-tree c = rw (← c.self.view_is, found_at _ c.self.inside.trees.entries c.args.line c.args.row (same_place c.args.line c.args.row)) (from_copied c.get.result _ c.get.ensures.value)

pub returns-clause-plain : goal.returns-clause-plain
returns-clause-plain c = plain_some c.self.inside.trees.entries c.get.result c.self.invariant c.get.ensures.member
